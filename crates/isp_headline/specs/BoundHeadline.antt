-- The same from arguments that are bound already, as bytes or by a caller.
--     DoesAsMeantBound    one function of a program, and its code in an image; and that this is what `execute_bound` reports
--     IsFaithfulBound     that of an image, for the program that a text is, each entry and all arguments that it takes
--     BoundHeadline       that of every text and its image
use Rattle.std.specs.Prelude.{◌≡◌, ℕ, List}
use Rattle.isp_base.specs.Arguments.{AreShort}
use Rattle.isp_base.specs.declared.signature.Argument.{Argument}
use Rattle.isp_base.specs.declared.types.Gang.{Gang}
use Rattle.isp_typed.specs.Typed.{Program, TFunction}
use Rattle.isp_meaning.specs.Entries.{IsEntry}
use Rattle.isp_code.specs.Entries as code
use Rattle.isp_code.specs.Entries.{parameters_of}
use Rattle.isp_code.specs.Listing.{Listing, Routine}
use Rattle.isp_code.specs.Machine.{outcome_after}
use Rattle.isp_runs.specs.declared.report.BoundReport.{BoundReport}
use Rattle.isp_runs.specs.BoundReports.{Counts, RunsBound, Shows}
use Rattle.isp_runs.specs.Compilation.{IsCompilation}
use Rattle.isp_front.specs.Front.{IsSource}
use Rattle.isp_headline.specs.Headline.{RunsAsMeant}

-- function f of a program, which is h and has this name, and its code in an image, both from the arguments xs
pub record DoesAsMeantBound (program : Program) (image : Listing) (entry : List ℕ) (f : ℕ) (h : TFunction) (xs : List Argument) : Type 0 where
  pub routine : Routine
  pub export : code.IsExport image entry f routine
  -- It is the only function that the image exports under the name, and takes the same arguments.
  pub only : (k : ℕ) (g : Routine) → code.IsExport image entry k g → (k ≡ f) × (g ≡ routine)
  pub parameters : parameters_of routine ≡ h.parameters
  pub runs : RunsAsMeant program f h xs (outcome_after image f routine xs)
  -- How the machine stands after so many instructions is what `execute_bound` reports: after fewer where memory was refused.
  pub shown : (budget : ℕ) (r : BoundReport) → RunsBound image entry xs budget r
      → (m : ℕ) × Counts r.stop budget m × Shows (outcome_after image f routine xs m) r

-- of the program that the text is, this image, an exported function, and arguments that it takes
abbrev pub IsFaithfulBound : Gang → List ℕ → Listing → Type 0
IsFaithfulBound gang text image =
    (program : Program)
    → IsSource gang text program
    → (entry : List ℕ) (f : ℕ) (h : TFunction) (xs : List Argument)
    → IsEntry program entry xs f h
    → AreShort xs
    → DoesAsMeantBound program image entry f h xs

-- of every text and the image that `compile` gives of it
abbrev pub BoundHeadline : Type 0
BoundHeadline = (gang : Gang) (text : List ℕ) (image : Listing) → IsCompilation gang text image → IsFaithfulBound gang text image
