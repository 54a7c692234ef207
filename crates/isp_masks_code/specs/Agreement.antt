-- When code agrees with a program: it has the exported functions with their signatures, and does what each does, whatever
-- the arguments are. The code of function f of the program is function f of the code.
use Rattle.std.specs.Prelude.{◌≡◌, ℕ, ◌+◌, ◌*◌, List, true}
use Rattle.isp_base.specs.Arguments.{AreShort}
use Rattle.isp_base.specs.Binding.{has_signature}
use Rattle.isp_base.specs.Outcomes.{Outcome, GoesOn, IsOver, out_of}
use Rattle.isp_base.specs.Prefixes.{IsPrefix}
use Rattle.isp_base.specs.declared.signature.Argument.{Argument}
use Rattle.isp_code.specs.Entries as machine
use Rattle.isp_code.specs.Entries.{parameters_of, result_of}
use Rattle.isp_code.specs.Listing.{Listing, Routine}
use Rattle.isp_code.specs.Machine.{outcome_after}
use Rattle.isp_meaning.specs.Entries as meaning
use Rattle.isp_meaning.specs.Gang.{Comes}
use Rattle.isp_meaning.specs.Runs.{run_of, work_of}
use Rattle.isp_typed.specs.Typed.{Program, TFunction}

-- the runs of function f, and of its code, from the same arguments
pub record RunsAgree (program : Program) (code : Listing) (f : ℕ) (g : Routine) (xs : List Argument) : Type 0 where
  -- where the gang's meaning ends or traps, so does the code after some number of instructions, and the reverse
  pub over : (o : Outcome) → Comes program f xs o → (m : ℕ) × (outcome_after code f g xs m ≡ o)
  pub over_only : (m : ℕ) (o : Outcome) → IsOver o → outcome_after code f g xs m ≡ o → Comes program f xs o
  -- the output of a run that is cut is the beginning of that after some number of instructions
  pub goes_on : (n : ℕ) (out : List ℕ) → run_of program f n xs ≡ GoesOn out → (m : ℕ) × IsPrefix out (out_of (outcome_after code f g xs m))
  -- and the output after each number of instructions is the beginning of that of some run
  pub so_far : (m : ℕ) → (n : ℕ) × IsPrefix (out_of (outcome_after code f g xs m)) (out_of (run_of program f n xs))
  -- the steps: 32 for each unit of work, and 32
  pub soon : (n : ℕ) (o : Outcome) → IsOver o → run_of program f n xs ≡ o → outcome_after code f g xs (32 * work_of program f n xs + 32) ≡ o
  pub soon_goes_on : (n : ℕ) (out : List ℕ) → run_of program f n xs ≡ GoesOn out → IsPrefix out (out_of (outcome_after code f g xs (32 * work_of program f n xs + 32)))

-- an exported function and its code, whatever arguments are bound: all bound arguments are short
pub record EntryAgrees (program : Program) (code : Listing) (f : ℕ) (h : TFunction) (g : Routine) : Type 0 where
  pub parameters : parameters_of g ≡ h.parameters
  pub result : result_of g.returns ≡ h.gives
  pub runs : (xs : List Argument) → has_signature h.parameters xs ≡ true → AreShort xs → RunsAgree program code f g xs

pub record Agrees (program : Program) (code : Listing) : Type 0 where
  pub gang : code.gang ≡ program.gang
  pub exports : (name : List ℕ) (f : ℕ) (h : TFunction) → meaning.IsExport program name f h → (g : Routine) × machine.IsExport code name f g × EntryAgrees program code f h g
  pub exports_only : (name : List ℕ) (f : ℕ) (g : Routine) → machine.IsExport code name f g → (h : TFunction) × meaning.IsExport program name f h × EntryAgrees program code f h g
