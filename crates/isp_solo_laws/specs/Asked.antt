-- What the law asks of an expression, in a function with these variables.
use Rattle.std.specs.Prelude.{◌≡◌, ℕ, Bool, true, false, ◌&&◌, List, Option, Some, None, Contains, slice_get}
use Rattle.isp_base.specs.declared.types.Ty.{Ty}
use Rattle.isp_lex.specs.declared.fault.Fault.{Fault}
use Rattle.isp_typed.specs.declared.variable.Holds.{Holds}
use Rattle.isp_typed.specs.declared.variable.Holds.TheVariants as holds
use Rattle.isp_typed.specs.declared.variable.Variable.{Variable}
use Rattle.isp_typed.specs.Fine.{FineExpr, array_type}
use Rattle.isp_typed.specs.Scoped.{Scope, ExprIn}
use Rattle.isp_typed.specs.Typed.{TExpr, TFunction}
use Rattle.isp_rates.specs.Rates.{ExprBreach}
use Rattle.isp_independence.specs.declared.dependence.Dependence.{Dependence}
use Rattle.isp_independence.specs.Crossing.{Cross}
use Rattle.isp_independence.specs.Exits.{by_rate}
use Rattle.isp_independence.specs.Reaches.{expr_calls}
use Rattle.isp_meaning.specs.State.{Frame}
use Rattle.isp_solo_laws.specs.Stands.{IsOpen}

-- ---- the uniform variables among those in scope

abbrev pub holds_uniform : Holds → Bool
holds_uniform (holds.Value t) = by_rate t.rate false true
holds_uniform (holds.Given e) = false
holds_uniform (holds.Local t n) = false

abbrev pub is_uniform : Option Variable → Bool
is_uniform None = false
is_uniform (Some x) = holds_uniform x.holds

abbrev pub uniforms_in : List Variable → Scope → Scope
uniforms_in vars v k = v k && is_uniform (slice_get vars k)

-- ---- expressions

-- each array of the function that all instances share is open in the frame
pub record OpenArrays (frame : Frame) (vars : List Variable) : Type 0 where
  pub is : (k : ℕ) (x : Variable) (t : Ty) → slice_get vars k ≡ Some x → array_type x.holds ≡ Some t → IsOpen frame t.rate k

-- names, types and rates accept it, it does not look across the gang, its variables are in scope, and it calls nothing but
-- what may be called
pub record AskedOf (fs : List TFunction) (vars : List Variable) (v : Scope) (IsCallable : ℕ → Type 0) (x : TExpr) : Type 0 where
  pub fine : FineExpr fs vars x
  pub rates : (f : Fault) → ExprBreach fs x f → ⊥
  pub alone : (d : Dependence) → Cross x d → ⊥
  pub known : ExprIn v x
  pub calls : (k : ℕ) → Contains (expr_calls x) k → IsCallable k
