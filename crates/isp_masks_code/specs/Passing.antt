-- What is handed over stands first: values in the first registers of their class, in the order of the parameters. So it is
-- where a run begins, and where a call begins.
use Rattle.std.specs.Prelude.{◌≡◌, ◌≤◌, ℕ, suc, List, [], ◌∷◌, take, Some, None, Bool, true, false, slice_get}
use Rattle.isp_base.specs.Maps.{Lanes}
use Rattle.isp_base.specs.Sets.{Mask}
use Rattle.isp_base.specs.declared.types.Elem.{Elem}
use Rattle.isp_base.specs.declared.types.Rate.{Rate}
use Rattle.isp_base.specs.declared.types.Rate.TheVariants.{Uniform, Varying}
use Rattle.isp_typed.specs.Fine.{params_of}
use Rattle.isp_typed.specs.Typed.{TFunction}
use Rattle.isp_typed.specs.declared.variable.Holds.{Holds}
use Rattle.isp_typed.specs.declared.variable.Holds.TheVariants as holds
use Rattle.isp_typed.specs.declared.variable.Variable.{Variable}
use Rattle.isp_meaning.specs.Calls.{one_passed, each_passed, same_rate}
use Rattle.isp_meaning.specs.Expressions.{Passed}
use Rattle.isp_lower_code.specs.Layout.{Layout}

-- how many of some variables are values of a rate
abbrev pub count_if : Bool → ℕ → ℕ
count_if true n = suc n
count_if false n = n

abbrev pub count_value : Rate → Holds → ℕ → ℕ
count_value r (holds.Value t) n = count_if (same_rate r t.rate) n
count_value r (holds.Given t) n = n
count_value r (holds.Local t m) n = n

abbrev pub value_count : Rate → List Variable → ℕ
value_count r [] = 0
value_count r (v ∷ vs) = count_value r v.holds (value_count r vs)

-- a variable holds a value of a rate
abbrev pub HasRate : Rate → Holds → Type 0
HasRate r (holds.Value t) = t.rate ≡ r
HasRate r (holds.Given t) = ⊥
HasRate r (holds.Local t n) = ⊥

-- The parameters that are values of a rate have the first registers of its class; every other register comes after them.
pub record PassedFirst (h : TFunction) (l : Layout) : Type 0 where
  pub value : (r : Rate) (v : ℕ) (x : Variable) → slice_get (params_of h) v ≡ Some x → HasRate r x.holds → l.variable r v ≡ value_count r (take v (params_of h))
  pub other : (r : Rate) (v : ℕ) → ((x : Variable) → slice_get (params_of h) v ≡ Some x → HasRate r x.holds → ⊥) → value_count r (params_of h) ≤ l.variable r v
  pub result : (r : Rate) → value_count r (params_of h) ≤ l.result r
  pub constant : (r : Rate) (t : Elem) (b : ℕ) → value_count r (params_of h) ≤ l.constant r t b

-- Registers begin with what is passed to some parameters by a set: by their numbers the values, and 0 past them.
pub record Passes (params : List Variable) (scalars : ℕ → ℕ) (vectors : ℕ → Lanes) (ps : List Passed) (a : Mask) : Type 0 where
  pub ones : (v : ℕ) (x : Variable) → slice_get params v ≡ Some x → HasRate Uniform x.holds → scalars (value_count Uniform (take v params)) ≡ one_passed (Some x) (slice_get ps v)
  pub each : (v : ℕ) (x : Variable) → slice_get params v ≡ Some x → HasRate Varying x.holds → vectors (value_count Varying (take v params)) ≡ each_passed (Some x) a (slice_get ps v)
  pub ones_end : (d : ℕ) → value_count Uniform params ≤ d → scalars d ≡ 0
  pub each_end : (d : ℕ) → value_count Varying params ≤ d → vectors d ≡ (λ p. 0)
  pub only : (v : ℕ) → slice_get params v ≡ None → slice_get ps v ≡ None
