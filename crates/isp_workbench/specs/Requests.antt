-- What `ispx` does for a request, and how it ends: the stories of isp_engine, for the same files.
--     Answered        a request has its story and its exit status; and but for `run`, `test`, `check` and `explain` the line on standard error
--     WordsRefused    words that are no request: help goes out, or they are refused and nothing does
--     Commands        some request is answered, or the words are no request
-- `tells line` says that a line went to standard error. What `run`, `test`, `check` and `explain` write there is no part of a promise.
-- `holds` speaks of texts, `datas` of bytes that are found under a name, `reads` of bytes that were read from standard input, and `at_end` says
-- that it has ended.
use Rattle.std.specs.Prelude.{◌≡◌, ◌≢◌, ◌⊎◌, ℕ, List, [], Bool, Option, Err}
use Rattle.clap.specs.declared.error.kind.ErrorKind.{ErrorKind}
use Rattle.clap.specs.declared.error.kind.ErrorKind.TheVariants.{DisplayHelp, DisplayVersion, OutOfMemory}
use Rattle.isp_case_command.specs.Testing.{TestAnswered}
use Rattle.isp_check_command.specs.Checking.{CheckAnswered}
use Rattle.isp_code_commands.specs.Requests.{AnsweredBy, ShownEnds, WroteC, WroteWasm}
use Rattle.isp_code_commands.specs.Runs.{CountShows, TraceShows}
use Rattle.isp_explain_command.specs.Explaining.{Explained}
use Rattle.isp_lsp_command.specs.Ends.{LspAnswered}
use Rattle.isp_engine.specs.declared.failure.Failure.TheVariants.{Memory}
use Rattle.isp_engine.specs.Failures.{line_of}
use Rattle.isp_output.specs.Sinks.{TookAll}
use Rattle.isp_engine.specs.Stories.{Holds, Writes}
use Rattle.ispx_command_line.specs.declared.words.Request.{Request}
use Rattle.ispx_command_line.specs.declared.words.Request.TheVariants.{Run, Test, Check, Explain, Count, Trace, C, Wasm, Lsp}
use Rattle.isp_run_command.specs.Running.{RunAnswered}

-- ---- the whole

abbrev pub Answered : Holds → Holds → (List ℕ → Type 0) → Type 0 → Request → Option (List ℕ) → Option (List ℕ) → Bool → (List ℕ → Type 0) → ℕ → Type 0
Answered holds datas reads at_end (Run q) old new failed tells status = RunAnswered holds datas q old new failed status
Answered holds datas reads at_end (Test q) old new failed tells status = TestAnswered holds q old new failed status
Answered holds datas reads at_end (Check q) old new failed tells status = CheckAnswered holds q old new failed status
Answered holds datas reads at_end (Explain q) old new failed tells status = Explained holds q old new failed status
Answered holds datas reads at_end (Count q) old new failed tells status = AnsweredBy (λ end. ShownEnds (CountShows q) holds q.run old new failed end × tells (line_of end)) status
Answered holds datas reads at_end (Trace q) old new failed tells status = AnsweredBy (λ end. ShownEnds (λ source. TraceShows q) holds q.run old new failed end × tells (line_of end)) status
Answered holds datas reads at_end (C q) old new failed tells status = AnsweredBy (λ end. WroteC holds q old new failed end × tells (line_of end)) status
Answered holds datas reads at_end (Wasm q) old new failed tells status = WroteWasm holds q old new failed tells status
Answered holds datas reads at_end (Lsp q) old new failed tells status = (version : List ℕ) × LspAnswered q.gang version reads at_end old new failed tells status

-- words that ask for help or for the version, which go to standard output
abbrev pub IsHelp : ErrorKind → Type 0
IsHelp kind = (kind ≡ DisplayHelp) ⊎ (kind ≡ DisplayVersion)

-- words that are no request: help goes out; or they are a mistake, and nothing goes out; or memory was refused
abbrev pub WordsRefused : ErrorKind → Option (List ℕ) → Option (List ℕ) → Bool → (List ℕ → Type 0) → ℕ → Type 0
WordsRefused kind old new failed tells status =
    (IsHelp kind × ((page : List ℕ) × AnsweredBy (λ end. Writes page old new failed end × tells (line_of end)) status))
    ⊎ ((IsHelp kind → ⊥) × (kind ≢ OutOfMemory) × (status ≡ 2) × TookAll [] old new failed)
    ⊎ AnsweredBy (λ end. (end ≡ Err Memory) × TookAll [] old new failed × tells (line_of end)) status

abbrev pub Commands : Holds → Holds → (List ℕ → Type 0) → Type 0 → Option (List ℕ) → Option (List ℕ) → Bool → (List ℕ → Type 0) → ℕ → Type 0
Commands holds datas reads at_end old new failed tells status =
    ((kind : ErrorKind) × WordsRefused kind old new failed tells status) ⊎ ((q : Request) × Answered holds datas reads at_end q old new failed tells status)
