-- The functions that a run can begin with.
use Rattle.std.specs.Prelude.{◌≡◌, ℕ, List, Some, true, slice_get}
use Rattle.isp_base.specs.Binding.{has_signature}
use Rattle.isp_base.specs.declared.signature.Argument.{Argument}
use Rattle.isp_typed.specs.Typed.{Program, TFunction}

-- function f of a program is exported under this name
pub record IsExport (program : Program) (name : List ℕ) (f : ℕ) (h : TFunction) : Type 0 where
  pub found : slice_get program.functions f ≡ Some h
  pub named : h.name ≡ name
  pub exported : h.exported ≡ true

-- a run of it can begin with these arguments
pub record IsEntry (program : Program) (name : List ℕ) (xs : List Argument) (f : ℕ) (h : TFunction) : Type 0 where
  pub export : IsExport program name f h
  pub fits : has_signature h.parameters xs ≡ true
