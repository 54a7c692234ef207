-- What `ispx test` does of a source and of its cases.
--     holds           what `execute` answers is what a case wants
--     AreTried        each case was run at each gang, and this is how it does
--     Tested          what is shown of that, and how the program ends after it
--     NotTested       why nothing is shown
--     TestAnswered    what is shown goes out, and the status is that of the end
-- `has` says that under a name a text may be found, or nothing that can be read.
use Rattle.std.specs.Prelude.{◌≡◌, ◌≢◌, ◌⊎◌, ℕ, ◌==◌, List, [], ◌∷◌, ◌++◌, map, flat_map, length, All, Contains, codes, String, string_bytes, Bool, false, Option, Some, None, Result, Ok, Err, ⊤}
use Rattle.std.specs.declared.alloc.Global.{Global}
use Rattle.serde_json.specs.Data.{Data, Members}
use Rattle.isp_base.specs.declared.trap.TrapKind.{TrapKind}
use Rattle.isp_base.specs.declared.trap.TrapKind.TheVariants.{Divide, Index, Assert, Depth}
use Rattle.isp_base.specs.declared.types.Gang.{Gang}
use Rattle.isp_base.specs.declared.types.Gang.TheVariants.{W4, W8, W16, W32}
use Rattle.isp_code.specs.Listing.{Listing}
use Rattle.isp_front.specs.Front.{IsFaulty}
use Rattle.isp_output.specs.Sinks.{TookAll, TookSome}
use Rattle.isp_runs.specs.Compilation.{IsCompilation}
use Rattle.isp_runs.specs.Meaning.{Means}
use Rattle.isp_runs.specs.Reports.{Executes}
use Rattle.isp_runs.specs.declared.fault.RunFault.{RunFault}
use Rattle.isp_runs.specs.declared.report.Ending.{Ending}
use Rattle.isp_runs.specs.declared.report.Ending.TheVariants.{Ended, Trapped, Running}
use Rattle.isp_runs.specs.declared.report.Report.{Report}
use Rattle.isp_engine.specs.Stories.{Holds as Texts}
use Rattle.isp_case_files.specs.Answers.{answers, is_held}
use Rattle.isp_case_files.specs.Cases.{IsList, IsNoList, Wish, Ends, Traps, as_wish}
use Rattle.isp_case_files.specs.declared.case.Case.{Case}
use Rattle.isp_case_files.specs.declared.case.Verdict.{Verdict}
use Rattle.isp_case_files.specs.declared.fault.CaseFault.TheVariants as fault
use Rattle.isp_case_command.specs.Showing.{differing, end_of, page_of}
use Rattle.isp_case_command.specs.Stopping.{end_status}
use Rattle.isp_case_command.specs.declared.stop.TestStop.{TestStop}
use Rattle.isp_case_command.specs.declared.stop.TestStop.TheVariants.{Differs, Source, NoList, NoSource, NoCases, NoOutput, Memory}
use Rattle.isp_case_command.specs.declared.tried.Tried.{Tried}
use Rattle.ispx_command_line.specs.declared.words.TestRequest.{TestRequest}

-- ---- one run

abbrev pub kind_rank : TrapKind → ℕ
kind_rank Divide = 0
kind_rank Index = 1
kind_rank Assert = 2
kind_rank Depth = 3

abbrev pub same_kind : TrapKind → TrapKind → Bool
same_kind j k = kind_rank j == kind_rank k

abbrev pub is_trap : TrapKind → Ending → Bool
is_trap k Ended = false
is_trap k (Trapped t) = same_kind t.kind k
is_trap k Running = false

abbrev pub answered : Members → Option Data → Option (String Global) → Bool
answered arrays result None = false
answered arrays result (Some text) = answers arrays result (string_bytes text)

-- a run ends with the arrays and the result that are wanted, or traps so
abbrev pub holds : Wish → Result Report RunFault → Bool
holds w (Err f) = false
holds (Ends arrays result) (Ok r) = answered arrays result r.answer
holds (Traps k) (Ok r) = is_trap k r.ending

-- the verdict on what `execute` answers, of the code and the arguments of a case
pub record IsJudged (code : Listing) (c : Case) (budget : ℕ) (v : Verdict) : Type 0 where
  pub answer : Result Report RunFault
  pub machine : Executes code (string_bytes c.entry) (string_bytes c.arguments) budget answer
  pub means : (gang : Gang) (text : List ℕ) (compiled : IsCompilation gang text code) → Means compiled.program (string_bytes c.entry) (string_bytes c.arguments) budget answer
  pub verdict : is_held v ≡ holds (as_wish c.wanted) answer

-- ---- all runs

-- the code is what `compile` gives of the source for this gang
pub record IsTried (text : List ℕ) (budget : ℕ) (t : Tried) : Type 0 where
  pub code : Listing
  pub compiles : IsCompilation t.gang text code
  pub judged : IsJudged code t.case.now budget t.verdict

abbrev pub place_of : Tried → Gang × Case
place_of t = (t.gang, t.case.now)

abbrev pub beside : Gang → Case → Gang × Case
beside gang c = (gang, c)

-- each case at each gang, the first gang first
abbrev pub places : List Gang → List Case → List (Gang × Case)
places gangs cs = flat_map (λ g. map (beside g) cs) gangs

pub record AreTried (text : List ℕ) (gangs : List Gang) (cs : List Case) (budget : ℕ) (ts : List Tried) : Type 0 where
  pub order : map place_of ts ≡ places gangs cs
  pub tried : All (IsTried text budget) ts

-- the gang that is asked for, or all
abbrev pub gangs_of : Option Gang → List Gang
gangs_of None = W4 ∷ W8 ∷ W16 ∷ W32 ∷ []
gangs_of (Some gang) = gang ∷ []

-- ---- what is shown

pub record IsShown (text : List ℕ) (gangs : List Gang) (cs : List Case) (budget : ℕ) (page : List ℕ) (end : Result ⊤ TestStop) : Type 0 where
  pub runs : List Tried
  pub tried : AreTried text gangs cs budget runs
  pub page_is : page ≡ page_of (length cs) (length gangs) runs
  pub ends : end ≡ end_of (differing runs)

-- of the cases that a text has
pub record Tested (q : TestRequest) (text json page : List ℕ) (end : Result ⊤ TestStop) : Type 0 where
  pub cases : List Case
  pub list : IsList json cases
  pub shown : IsShown text (gangs_of q.gang) cases q.budget page end

-- ---- why nothing is

-- a source that is refused at a gang
abbrev pub IsRefused : Gang → List ℕ → TestStop → Type 0
IsRefused gang text (Source f) = IsFaulty gang text f
IsRefused gang text Memory = Unit {0}
IsRefused gang text s = ⊥

abbrev pub IsUncompiled : List Gang → List ℕ → TestStop → Type 0
IsUncompiled gangs text (Source f) = (gang : Gang) × Contains gangs gang × IsFaulty gang text f
IsUncompiled gangs text Memory = Unit {0}
IsUncompiled gangs text s = ⊥

abbrev pub NotTested : TestRequest → List ℕ → List ℕ → TestStop → Type 0
NotTested q text json (Source f) = IsUncompiled (gangs_of q.gang) text (Source f)
NotTested q text json (NoList f) = (f ≢ fault.Memory) × IsNoList json f
NotTested q text json Memory = Unit {0}
NotTested q text json s = ⊥

-- ---- all

-- what is shown goes out, as far as the standard output takes it
abbrev pub PageSent : List ℕ → Result ⊤ TestStop → Option (List ℕ) → Option (List ℕ) → Bool → Result ⊤ TestStop → Type 0
PageSent page last old new failed end = ((end ≡ last) × TookAll page old new failed) ⊎ ((end ≡ Err NoOutput) × TookSome page old new failed)

abbrev pub TestsTexts : TestRequest → List ℕ → List ℕ → Option (List ℕ) → Option (List ℕ) → Bool → Result ⊤ TestStop → Type 0
TestsTexts q text json old new failed end =
    ((page : List ℕ) × (last : Result ⊤ TestStop) × Tested q text json page last × PageSent page last old new failed end)
    ⊎ ((s : TestStop) × (end ≡ Err s) × NotTested q text json s × TookAll [] old new failed)

-- the name of the file with the cases of a source
abbrev pub cases_file : List ℕ → List ℕ
cases_file source = source ++ codes ".tests"

-- the source is not read, or its cases are not
abbrev pub IsUnread : Texts → List ℕ → TestStop → Type 0
IsUnread has source NoSource = has source None
IsUnread has source NoCases = has (cases_file source) None
IsUnread has source Memory = Unit {0}
IsUnread has source s = ⊥

abbrev pub TestEnds : Texts → TestRequest → Option (List ℕ) → Option (List ℕ) → Bool → Result ⊤ TestStop → Type 0
TestEnds has q old new failed end =
    ((text : List ℕ) × (json : List ℕ) × has q.source.now (Some text) × has (cases_file q.source.now) (Some json) × TestsTexts q text json old new failed end)
    ⊎ ((s : TestStop) × (end ≡ Err s) × IsUnread has q.source.now s × TookAll [] old new failed)

abbrev pub TestAnswered : Texts → TestRequest → Option (List ℕ) → Option (List ℕ) → Bool → ℕ → Type 0
TestAnswered has q old new failed status = (end : Result ⊤ TestStop) × (status ≡ end_status end) × TestEnds has q old new failed end
