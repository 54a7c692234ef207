-- The end: the code that a text is compiled to does on the machine what the program means that the text is.
--     DoesTheSame        the machine ends or traps exactly when the gang does so, and otherwise goes on with the same output so far
--     EachStandsAlone    the instances of an independent entry, each run alone, end and touch nothing that another writes
--     RunsAsMeant        both halves, of one function of a program from some arguments
--     DoesAsMeant        the same of its code in an image; and that this is what `execute` reports, and what `run_to` reports and writes
--     IsFaithful         that of an image, for the program that a text is, each entry and each JSON text of arguments
--     Headline           that of every text and its image
use Rattle.std.specs.Prelude.{◌≡◌, ◌≢◌, ◌↔◌, ℕ, ◌<◌, ◌≤◌, List, [], ◌∷◌, Bool, true, false, Option, Result, Ok, Err}
use Rattle.isp_base.specs.Arguments.{rows, rows_now}
use Rattle.isp_base.specs.Outcomes.{Outcome, Ends, IsOver, out_of}
use Rattle.isp_base.specs.Prefixes.{IsPrefix}
use Rattle.isp_base.specs.Types.{gang_width}
use Rattle.isp_base.specs.declared.signature.Argument.{Argument}
use Rattle.isp_base.specs.declared.signature.Parameter.{Parameter}
use Rattle.isp_base.specs.declared.types.Gang.{Gang}
use Rattle.isp_typed.specs.Typed.{Program, TFunction}
use Rattle.isp_independence.specs.Independent.{IsIndependent}
use Rattle.isp_meaning.specs.Entries.{IsExport}
use Rattle.isp_meaning.specs.Payloads.{One}
use Rattle.isp_meaning.specs.Runs.{run_of, answer_as}
use Rattle.isp_solo_meaning.specs.OneByOne.{IsOrder}
use Rattle.isp_solo_meaning.specs.Runs.{solo_run, bound, after, IsEnded, value_of}
use Rattle.isp_solo_meaning.specs.Touched.{AreApart}
use Rattle.isp_code.specs.Entries as code
use Rattle.isp_code.specs.Listing.{Listing, Routine}
use Rattle.isp_code.specs.Machine.{outcome_after}
use Rattle.isp_bind.specs.Binding.{bound_of}
use Rattle.isp_runs.specs.declared.fault.RunFault.{RunFault}
use Rattle.isp_runs.specs.declared.fault.RunFault.TheVariants.{Memory, WriteFailed}
use Rattle.isp_runs.specs.declared.report.Report.{Report}
use Rattle.isp_runs.specs.Compilation.{IsCompilation}
use Rattle.isp_front.specs.Front.{IsSource}
use Rattle.isp_runs.specs.Meaning.{enough}
use Rattle.isp_runs.specs.Reports.{Reports, Executes}
use Rattle.isp_runs.specs.Sending.{Sends, sent}
use Rattle.isp_output.specs.Sinks.{TookAll, TookFirst}

-- ---- how a run stands at each number: of turns in the gang's meaning, of instructions on the machine

-- at some number it stands so
abbrev pub ComesTo : (ℕ → Outcome) → Outcome → Type 0
ComesTo run o = (n : ℕ) × (run n ≡ o)

-- at no number has it ended or trapped
abbrev pub NeverOver : (ℕ → Outcome) → Type 0
NeverOver run = (n : ℕ) → IsOver (run n) → ⊥

-- at some number its output begins so
abbrev pub HasWritten : (ℕ → Outcome) → List ℕ → Type 0
HasWritten run out = (n : ℕ) × IsPrefix out (out_of (run n))

pub record DoesTheSame (gang machine : ℕ → Outcome) : Type 0 where
  -- The machine ends with some arrays, result and output, or traps with some arrays and output, exactly when the gang does so.
  pub over : (o : Outcome) → IsOver o → ComesTo gang o ↔ ComesTo machine o
  -- That stays so.
  pub stays : (m k : ℕ) → m ≤ k → IsOver (machine m) → machine k ≡ machine m
  -- Otherwise the machine goes on, as the gang does,
  pub goes_on : NeverOver gang ↔ NeverOver machine
  -- with the same output so far.
  pub output : (out : List ℕ) → HasWritten gang out ↔ HasWritten machine out

-- ---- the instances one by one, each with a number of turns of its own

-- The function is an independent entry, and its instances, each run alone, end and touch nothing that another writes.
pub record EachStandsAlone (program : Program) (f : ℕ) (xs : List Argument) (turns : ℕ → ℕ) : Type 0 where
  pub independent : IsIndependent program f
  pub ended : (p : ℕ) → p < gang_width program.gang → IsEnded (solo_run program f (turns p) xs (bound xs) p)
  pub apart : AreApart (gang_width program.gang) (λ p. solo_run program f (turns p) xs (bound xs) p)

-- the arrays after the runs of these instances, each over what the one before it left
abbrev pub behind_each : Program → ℕ → (ℕ → ℕ) → List Argument → List ℕ → (ℕ → ℕ → ℕ) → ℕ → ℕ → ℕ
behind_each program f turns xs [] m = m
behind_each program f turns xs (p ∷ ps) m = behind_each program f turns xs ps (after (solo_run program f (turns p) xs m p) m)

-- the end with the arrays that they leave one by one, in this order, the result of instance p, and no output
abbrev pub left_by_each : Program → ℕ → TFunction → (ℕ → ℕ) → List Argument → List ℕ → ℕ → Outcome
left_by_each program f h turns xs ps p =
    Ends (rows_now (rows xs) (behind_each program f turns xs ps (bound xs))) (answer_as h.gives (One (value_of (solo_run program f (turns p) xs (bound xs) p)))) []

-- ---- one function

-- function f of a program, which is h, and a machine that runs it, both from the arguments xs
pub record RunsAsMeant (program : Program) (f : ℕ) (h : TFunction) (xs : List Argument) (machine : ℕ → Outcome) : Type 0 where
  -- The machine does what the gang's meaning does.
  pub same : DoesTheSame (λ n. run_of program f n xs) machine
  -- An end or a trap of work w comes within 32 * w + 32 instructions.
  pub within : (n : ℕ) → IsOver (run_of program f n xs) → machine (enough program f xs n) ≡ run_of program f n xs
  -- Where each instance stands alone, the machine ends with the arrays of its instances run one by one, in any order, the result of
  -- each, and no output.
  pub one_by_one : (turns : ℕ → ℕ) → EachStandsAlone program f xs turns → (ps : List ℕ) → IsOrder (gang_width program.gang) ps → (p : ℕ) → p < gang_width program.gang
      → ComesTo machine (left_by_each program f h turns xs ps p)

-- `execute` answers the report of this outcome, unless memory was refused
abbrev pub Reported : List Parameter → Outcome → Result Report RunFault → Type 0
Reported ps o (Ok r) = Reports ps o r
Reported ps o (Err e) = e ≡ Memory

-- the first bytes have gone out of what the machine sends at some number of instructions up to the budget
abbrev pub SentFirst : List Parameter → (ℕ → Outcome) → ℕ → Option (List ℕ) → Option (List ℕ) → Type 0
SentFirst ps machine budget old new = (m : ℕ) × (m ≤ budget) × TookFirst (sent ps (machine m)) old new

-- `run_to` answers the report of how the machine stands after the budget, and all of it has gone out; or memory was refused, or a
-- write failed, and the beginning has
abbrev pub Sent : List Parameter → (ℕ → Outcome) → ℕ → Option (List ℕ) → Option (List ℕ) → Bool → Result Report RunFault → Type 0
Sent ps machine budget old new failed (Ok r) = Reports ps (machine budget) r × TookAll (sent ps (machine budget)) old new failed
Sent ps machine budget old new failed (Err Memory) = SentFirst ps machine budget old new × (failed ≡ false)
Sent ps machine budget old new failed (Err WriteFailed) = SentFirst ps machine budget old new × (failed ≡ true)
Sent ps machine budget old new failed (Err e) = ⊥

-- function f of a program, which is h and has this name, and its code in an image, both from the arguments xs, which the JSON text binds
pub record DoesAsMeant (program : Program) (image : Listing) (entry json : List ℕ) (f : ℕ) (h : TFunction) (xs : List Argument) : Type 0 where
  pub routine : Routine
  pub export : code.IsExport image entry f routine
  pub runs : RunsAsMeant program f h xs (outcome_after image f routine xs)
  -- How the machine stands after so many instructions is what `execute` reports,
  pub reported : (budget : ℕ) (answer : Result Report RunFault) → Executes image entry json budget answer → Reported h.parameters (outcome_after image f routine xs budget) answer
  -- and what `run_to` reports and writes.
  pub sent : (budget : ℕ) (old new : Option (List ℕ)) (failed : Bool) (answer : Result Report RunFault)
      → (answer ≢ Err WriteFailed → Executes image entry json budget answer)
      → Sends image entry json budget old new failed answer
      → Sent h.parameters (outcome_after image f routine xs) budget old new failed answer

-- ---- the whole

-- of the program that the text is, this image, an exported function, and arguments that are accepted
abbrev pub IsFaithful : Gang → List ℕ → Listing → Type 0
IsFaithful gang text image =
    (program : Program)
    → IsSource gang text program
    → (entry json : List ℕ) (f : ℕ) (h : TFunction) (xs : List Argument)
    → IsExport program entry f h
    → bound_of h.parameters json ≡ Ok xs
    → DoesAsMeant program image entry json f h xs

-- of every text and the image that `compile` gives of it
abbrev pub Headline : Type 0
Headline = (gang : Gang) (text : List ℕ) (image : Listing) → IsCompilation gang text image → IsFaithful gang text image
