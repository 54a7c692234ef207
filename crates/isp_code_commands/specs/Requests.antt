-- What `ispx count`, `trace`, `c` and `wasm` do with code, and how they end: the stories of isp_engine, for the same files.
--     AnsweredBy    a request ends in such a way, with the exit status of that
--     ShownRun      `count` and `trace` run an entry of a source, and show what the run does
--     WroteC        `c` writes the page of the code
--     WroteWasm     `wasm` writes the file of the code's module, or the line that says why there is none
-- `tells line` says that a line went to standard error.
use Rattle.std.specs.Prelude.{◌≡◌, ◌≢◌, ◌⊎◌, ℕ, List, [], Bool, Option, Some, None, Result, Err, ⊤}
use Rattle.isp_base.specs.declared.types.Gang.{Gang}
use Rattle.isp_code.specs.Listing.{Listing}
use Rattle.isp_command_line.specs.declared.words.RunRequest.{RunRequest}
use Rattle.isp_engine.specs.declared.failure.Failure.{Failure}
use Rattle.isp_engine.specs.declared.failure.Failure.TheVariants.{Memory}
use Rattle.isp_engine.specs.Commands.{Given, NotGiven, exit_status, job_of_run}
use Rattle.isp_engine.specs.Failures.{line_of}
use Rattle.isp_output.specs.Sinks.{TookAll}
use Rattle.isp_engine.specs.Stories.{Holds, Stops, Unread, Writes}
use Rattle.ispx_command_line.specs.declared.words.CRequest.{CRequest}
use Rattle.ispx_command_line.specs.declared.words.WasmRequest.{WasmRequest}
use Rattle.isp_wasm_file.specs.File.{IsFile}
use Rattle.isp_wasm_file.specs.Lines.{refusal_line}
use Rattle.isp_wasm_module.specs.Refused.{explains, module_refusal}
use Rattle.isp_wasm_module.specs.declared.refusal.Refusal.{Refusal}
use Rattle.isp_wasm_module.specs.declared.refusal.Refusal.TheVariants as no_module
use Rattle.isp_code_commands.specs.Runs.{ShowEnds, Shows}
use Rattle.isp_code_commands.specs.Texts.{GivesCode, GivesNone, IsCPage}

-- ---- how a request ends

-- it ends in such a way, and has the status of that
abbrev pub AnsweredBy : (Result ⊤ Failure → Type 0) → ℕ → Type 0
AnsweredBy ends status = (end : Result ⊤ Failure) × (status ≡ exit_status end) × ends end

-- ---- count and trace

-- the files are read, and the first of them, which has this text, gives code
abbrev pub GivenBy : Holds → RunRequest → List ℕ → Listing → List ℕ → Type 0
GivenBy holds q source code json = (g : Given holds (job_of_run q) code json) × (g.files.text ≡ source)

-- the files are read, the source is compiled, and the entry is run and shown
pub record ShownRun (shows : List ℕ → Shows) (holds : Holds) (q : RunRequest) (old new : Option (List ℕ)) (failed : Bool) (end : Result ⊤ Failure) : Type 0 where
  pub code : Listing
  pub json : List ℕ
  pub source : List ℕ
  pub given : GivenBy holds q source code json
  pub shown : ShowEnds (shows source) q.entry.now code json old new failed end

abbrev pub ShownEnds : (List ℕ → Shows) → Holds → RunRequest → Option (List ℕ) → Option (List ℕ) → Bool → Result ⊤ Failure → Type 0
ShownEnds shows holds q old new failed end = ShownRun shows holds q old new failed end ⊎ Stops (NotGiven holds (job_of_run q)) old new failed end

-- ---- code

-- the text of the file gives the code
pub record HasCode (holds : Holds) (gang : Option Gang) (file : List ℕ) (code : Listing) : Type 0 where
  pub text : List ℕ
  pub has_text : holds file (Some text)
  pub gives : GivesCode gang text code

-- it cannot be read, or gives none
abbrev pub HasNoCode : Holds → Option Gang → List ℕ → Failure → Type 0
HasNoCode holds gang file f = Unread holds file f ⊎ ((text : List ℕ) × holds file (Some text) × GivesNone gang text f)

-- ---- c

abbrev pub WroteC : Holds → CRequest → Option (List ℕ) → Option (List ℕ) → Bool → Result ⊤ Failure → Type 0
WroteC holds q old new failed end =
    ((code : Listing) × (page : List ℕ) × HasCode holds q.gang q.file.now code × IsCPage q.is_header code page × Writes page old new failed end)
    ⊎ Stops (HasNoCode holds q.gang q.file.now) old new failed end

-- ---- wasm

-- why code has no module: memory was refused, or the line of the refusal says it
abbrev pub ToldWhy : Listing → Refusal → (List ℕ → Type 0) → ℕ → Type 0
ToldWhy code r tells status =
    AnsweredBy (λ end. (end ≡ Err Memory) × tells (line_of end)) status ⊎ ((r ≢ no_module.Memory) × (status ≡ 8) × tells (refusal_line code r))

-- the file of the code's module goes out; or there is none, so that nothing does, and why is told
abbrev pub WroteModule : Listing → Option (List ℕ) → Option (List ℕ) → Bool → (List ℕ → Type 0) → ℕ → Type 0
WroteModule code old new failed tells status =
    ((module_refusal code ≡ None) × ((file : List ℕ) × IsFile code file × AnsweredBy (λ end. Writes file old new failed end × tells (line_of end)) status))
    ⊎ ((r : Refusal) × explains r (module_refusal code) × TookAll [] old new failed × ToldWhy code r tells status)

abbrev pub WroteWasm : Holds → WasmRequest → Option (List ℕ) → Option (List ℕ) → Bool → (List ℕ → Type 0) → ℕ → Type 0
WroteWasm holds q old new failed tells status =
    ((code : Listing) × HasCode holds q.gang q.file.now code × WroteModule code old new failed tells status)
    ⊎ AnsweredBy (λ end. Stops (HasNoCode holds q.gang q.file.now) old new failed end × tells (line_of end)) status
