-- Operands that forms tell as numbers have these numbers.
use Rattle.std.specs.Prelude.{◌≡◌, ℕ, ◌<◌, List, Some, slice_get}
use Rattle.isp_base.specs.Types.{gang_width}
use Rattle.isp_base.specs.declared.signature.Argument.{Argument}
use Rattle.isp_code.specs.Conf.{Conf, Runs}
use Rattle.isp_code.specs.Listing.{Listing, Routine}
use Rattle.isp_code.specs.Machine.{first_conf}
use Rattle.isp_forms.specs.Runs.{Forms, IsRun, IsKnown}
use Rattle.isp_forms.specs.declared.form.Form.TheVariants.{KeptBy, FreeBy}

-- Wherever a run by forms comes before an operator whose right operand is told as a number, that operand has the number in each
-- lane of the gang.
pub record AmountsHold (code : Listing) (forms : Forms) : Type 0 where
  pub kept : (f : ℕ) (h : Routine) (xs : List Argument) → slice_get code.routines f ≡ Some h → (m : ℕ) (c : Conf) → IsRun code forms m (Runs (first_conf code f h xs)) (Runs c)
      → (k : IsKnown code forms KeptBy c) → (p : ℕ) → p < gang_width code.gang → c.vectors k.right.number p ≡ k.amount
  pub free : (f : ℕ) (h : Routine) (xs : List Argument) → slice_get code.routines f ≡ Some h → (m : ℕ) (c : Conf) → IsRun code forms m (Runs (first_conf code f h xs)) (Runs c)
      → (k : IsKnown code forms FreeBy c) → (p : ℕ) → p < gang_width code.gang → c.vectors k.right.number p ≡ k.amount
