-- What `ispx run` does of a source, and of what words and files give.
--     WordsRan       the entry is run with the arguments that the words give: the report is that of `execute_bound`
--     Showed         what is shown of it
--     NotShown       why nothing is run, or nothing is shown of it
--     RunAnswered    what is shown goes out, and the status is that of the run's end
-- `holds` speaks of texts, `datas` of bytes that are found under a name.
use Rattle.std.specs.Prelude.{◌≡◌, ◌⊎◌, ℕ, ◌-◌, ◌^◌, List, [], ◌∷◌, ◌++◌, map, Bool, Option, Some, None, Result, Ok, Err, ⊤}
use Rattle.isp_base.specs.Rows.{Row}
use Rattle.isp_base.specs.declared.signature.Argument.{Argument}
use Rattle.isp_base.specs.declared.signature.Parameter.{Parameter}
use Rattle.isp_base.specs.declared.types.Gang.{Gang}
use Rattle.isp_base.specs.declared.types.Value.{Value}
use Rattle.isp_bind.specs.Answering.{answer_text}
use Rattle.isp_code.specs.Entries as machine
use Rattle.isp_code.specs.Listing.{Listing, Routine}
use Rattle.isp_runs.specs.BoundReports.{MeansBound, RunsBound}
use Rattle.isp_runs.specs.Compilation.{IsCompilation}
use Rattle.isp_front.specs.Front.{IsFaulty}
use Rattle.isp_messages.specs.declared.failures.Element.{Element}
use Rattle.isp_outside.specs.declared.outside.Outside.{Outside}
use Rattle.isp_output.specs.Sinks.{TookAll, TookSome}
use Rattle.isp_engine.specs.Stories.{Holds}
use Rattle.isp_runs.specs.declared.report.BoundReport.{BoundReport}
use Rattle.isp_machine.specs.declared.stop.Stop.{Stop}
use Rattle.isp_machine.specs.declared.stop.Stop.TheVariants as stop
use Rattle.isp_entry.specs.Entered.{BeginsWith}
use Rattle.isp_run_data.specs.Loading.{Datas, IsLoaded, IsUnread}
use Rattle.isp_run_data.specs.Showing.{shown}
use Rattle.isp_run_stops.specs.Stopping.{IsSlip, end_status}
use Rattle.isp_run_stops.specs.declared.stop.RunStop.{RunStop}
use Rattle.isp_run_stops.specs.declared.stop.RunStop.TheVariants.{BadWord, CannotRead, Source, NoEntry, NotGiven, NotPlanned, Trapped, BudgetUsed, CannotWrite, NoOutput, Memory}
use Rattle.isp_run_words.specs.Giving.{given_by}
use Rattle.isp_run_words.specs.declared.given.Words.{Words}
use Rattle.isp_typed.specs.Typed.{Program, TFunction}
use Rattle.isp_run_words.specs.declared.request.RunWords.{RunWords}
use denote.Ref.{Bor}

-- ---- the run

-- as many instructions as 64 bits count, where the words name no number
abbrev pub budget_of : Option ℕ → ℕ
budget_of (Some n) = n
budget_of None = 2 ^ 64 - 1

-- the arguments that words give to the function that is exported under a name
pub record Binds (code : Listing) (name : List ℕ) (words : Words) (xs : List Argument) : Type 0 where
  pub function : ℕ
  pub routine : Routine
  pub entry : machine.IsEntry code name xs function routine
  pub given : given_by (machine.parameters_of routine) words ≡ Ok xs

-- a run that can begin: of the code of the source, whose program this is, with these arguments
pub record IsReady (datas : Datas) (q : RunWords) (text : List ℕ) (code : Listing) (xs : List Argument) (program : Program) : Type 0 where
  pub words : Words
  pub loaded : IsLoaded datas q.values.items words
  pub compiles : IsCompilation q.gang text code
  pub same : program ≡ compiles.program
  pub binds : Binds code q.entry.now words xs

-- the entry h of the source is run with the arguments that the words give: as `execute_bound` promises
pub record WordsRan (datas : Datas) (q : RunWords) (text : List ℕ) (h : TFunction) (r : BoundReport) : Type 0 where
  pub code : Listing
  pub arguments : List Argument
  pub program : Program
  pub ready : IsReady datas q text code arguments program
  pub begins : BeginsWith program q.entry.now arguments h
  pub machine : RunsBound code q.entry.now arguments (budget_of q.budget) r
  pub means : MeansBound program q.entry.now arguments (budget_of q.budget) r

-- ---- what is shown

-- the answer and a line feed, where the run ended
abbrev pub answer_line : Stop → List (Parameter × Row) → Option Value → List ℕ
answer_line stop.Ended arrays x = answer_text (map (λ a. a.0) arrays) (map (λ a. a.1) arrays) x ++ 10 ∷ []
answer_line s arrays x = []

-- the output, and the answer, with the arrays that it shows
abbrev pub page_of : List (Bor (List ℕ)) → TFunction → BoundReport → List ℕ
page_of outs h r = r.output.items ++ answer_line r.stop (shown outs h.parameters h.variables r.arrays.items) r.result

-- how the program ends after it
abbrev pub element_of : Option Outside → Option Element
element_of None = None
element_of (Some o) = Some (record { index = o.index; after = o.after; size = o.size })

abbrev pub end_of_stop : Stop → Option Outside → Result ⊤ RunStop
end_of_stop stop.Ended o = Ok tt
end_of_stop (stop.Trapped t) o = Err (Trapped t (element_of o))
end_of_stop stop.Running o = Err BudgetUsed
end_of_stop stop.Memory o = Err Memory

pub record Showed (datas : Datas) (q : RunWords) (text page : List ℕ) (end : Result ⊤ RunStop) : Type 0 where
  pub function : TFunction
  pub report : BoundReport
  pub ran : WordsRan datas q text function report
  pub page_is : page ≡ page_of q.outputs.items function report
  pub ends : end ≡ end_of_stop report.stop report.outside

-- ---- what is not

-- a source that is refused
abbrev pub IsRefused : Gang → List ℕ → RunStop → Type 0
IsRefused gang text (Source f) = IsFaulty gang text f
IsRefused gang text Memory = Unit {0}
IsRefused gang text s = ⊥

-- nothing is exported under the name, the words give no arguments, or an output cannot be
abbrev pub NotCalled : Listing → RunWords → Words → RunStop → Type 0
NotCalled code q words NoEntry = (f : ℕ) (h : Routine) → machine.IsExport code q.entry.now f h → ⊥
NotCalled code q words (NotGiven w e) =
    (w ≡ words) × ((f : ℕ) × (h : Routine) × machine.IsExport code q.entry.now f h × (given_by (machine.parameters_of h) words ≡ Err e))
NotCalled code q words (BadWord w s) = IsSlip q w.now s
NotCalled code q words (NotPlanned w e) = Unit {0}
NotCalled code q words Memory = Unit {0}
NotCalled code q words s = ⊥

-- so of the code of the source, and of what its words give
pub record HasNone (datas : Datas) (q : RunWords) (text : List ℕ) (s : RunStop) : Type 0 where
  pub words : Words
  pub loaded : IsLoaded datas q.values.items words
  pub code : Listing
  pub compiles : IsCompilation q.gang text code
  pub not : NotCalled code q words s

-- a run that ended, of which a file cannot be written
pub record HasEnded (datas : Datas) (q : RunWords) (text : List ℕ) : Type 0 where
  pub function : TFunction
  pub report : BoundReport
  pub ran : WordsRan datas q text function report
  pub ends : report.stop ≡ stop.Ended

abbrev pub NotShown : Datas → RunWords → List ℕ → RunStop → Type 0
NotShown datas q text (BadWord w s) = IsSlip q w.now s
NotShown datas q text (CannotRead name) = IsUnread datas name.now
NotShown datas q text (Source f) = IsFaulty q.gang text f
NotShown datas q text NoEntry = HasNone datas q text NoEntry
NotShown datas q text (NotGiven w e) = HasNone datas q text (NotGiven w e)
NotShown datas q text (NotPlanned w e) = Unit {0}
NotShown datas q text (CannotWrite name) = HasEnded datas q text
NotShown datas q text Memory = Unit {0}
NotShown datas q text s = ⊥

-- ---- all

-- what is shown goes out, as far as the standard output takes it
abbrev pub PageSent : List ℕ → Result ⊤ RunStop → Option (List ℕ) → Option (List ℕ) → Bool → Result ⊤ RunStop → Type 0
PageSent page last old new failed end = ((end ≡ last) × TookAll page old new failed) ⊎ ((end ≡ Err NoOutput) × TookSome page old new failed)

-- of the text of the source: it is run, and what is shown goes out; or nothing is shown
abbrev pub RunsText : Datas → RunWords → List ℕ → Option (List ℕ) → Option (List ℕ) → Bool → Result ⊤ RunStop → Type 0
RunsText datas q text old new failed end =
    ((page : List ℕ) × (last : Result ⊤ RunStop) × Showed datas q text page last × PageSent page last old new failed end)
    ⊎ ((s : RunStop) × (end ≡ Err s) × NotShown datas q text s × TookAll [] old new failed)

-- a word is none of a run, or the source is not read
abbrev pub NotBegun : Holds → RunWords → RunStop → Type 0
NotBegun holds q (BadWord w s) = IsSlip q w.now s
NotBegun holds q (CannotRead name) = (name.now ≡ q.source.now) × holds name.now None
NotBegun holds q Memory = Unit {0}
NotBegun holds q s = ⊥

abbrev pub RunEnds : Holds → Datas → RunWords → Option (List ℕ) → Option (List ℕ) → Bool → Result ⊤ RunStop → Type 0
RunEnds holds datas q old new failed end =
    ((text : List ℕ) × holds q.source.now (Some text) × RunsText datas q text old new failed end)
    ⊎ ((s : RunStop) × (end ≡ Err s) × NotBegun holds q s × TookAll [] old new failed)

abbrev pub RunAnswered : Holds → Datas → RunWords → Option (List ℕ) → Option (List ℕ) → Bool → ℕ → Type 0
RunAnswered holds datas q old new failed status = (end : Result ⊤ RunStop) × (status ≡ end_status end) × RunEnds holds datas q old new failed end
