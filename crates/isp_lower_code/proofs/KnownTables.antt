-- Where variables are known, each name has the register that it had, so that what code asks for is there as before.
use Rattle.std.proofs.Common.{◌≡◌, ℕ, List, Bool, refl, subst}
use Rattle.isp_base.specs.declared.types.Elem.{Elem}
use Rattle.isp_base.specs.declared.types.Rate.{Rate}
use Rattle.isp_code.specs.Listing.{Routine}
use Rattle.isp_code.specs.Registers.{elem_of}
use Rattle.isp_typed.specs.Fine.{HoldsArray}
use Rattle.isp_typed.specs.Typed.{TExpr}
use Rattle.isp_typed.specs.declared.variable.Variable as variable
use Rattle.isp_steady.specs.Known.{Known}
use Rattle.isp_lower_code.specs.Asks.{Ask}
use Rattle.isp_lower_code.specs.Layout.{Layout, register}
use Rattle.isp_lower_code.specs.RowLayout.{with_known}
use Rattle.isp_lower_code.specs.Rows.{Name, Variable, Result, Spare, Place, Fresh, Kept, numbered}
use Rattle.isp_lower_code.specs.Sound.{Granted, HasArray, HasLocal, HasMask, HasRegister, IsRegister}
use Rattle.isp_lower_code.specs.Tables.{AnyMask, IsLoadedIn, IsNamedIn, Table}
use Rattle.isp_lower_code.proofs.Begins.{all_grow}

module _ (known : ℕ → Known) (there : TExpr → ℕ → Bool) (l : Layout) where
  number_known : (r : Rate) (x : Name) → numbered l r x ≡ numbered (with_known known there l) r x
  number_known r (Variable v) = refl
  number_known r Result = refl
  number_known r (Spare t j) = refl
  number_known r Place = refl
  number_known r (Fresh j) = refl
  number_known r (Kept t b) = refl

  module _ (h : Routine) where
    pub named_known : (r : Rate) (x : Name) (t : Elem) → IsNamedIn h l r x t → IsNamedIn h (with_known known there l) r x t
    named_known r x t f = subst (λ n. elem_of h (register r n) ≡ t) (number_known r x) f

    pub table_known : (vars : List variable.Variable) (a : Ask) → Table h l vars a → Table h (with_known known there l) vars a
    table_known vars a f =
        all_grow (IsNamedIn h l) (IsNamedIn h (with_known known there l)) (HoldsArray vars) (HoldsArray vars) (HoldsArray vars) (HoldsArray vars)
        AnyMask AnyMask (IsLoadedIn l) (IsLoadedIn l) named_known (λ b k. k) (λ b k. k) (λ k m. m) (λ v m. m) a f

    register_known : (r : Rate) (x : Name) (t : Elem) → HasRegister h l r x t → HasRegister h (with_known known there l) r x t
    register_known r x t f = subst (λ n. IsRegister h r n t) (number_known r x) f

    pub granted_known : (a : Ask) → Granted h l a → Granted h (with_known known there l) a
    granted_known a f =
        all_grow (HasRegister h l) (HasRegister h (with_known known there l)) (HasArray h l) (HasArray h l) (HasLocal h l) (HasLocal h l)
        (HasMask h) (HasMask h) (IsLoadedIn l) (IsLoadedIn l) register_known (λ b k. k) (λ b k. k) (λ k m. m) (λ v m. m) a f
