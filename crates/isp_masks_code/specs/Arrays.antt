-- Where the arrays of an entry stand: those that are passed first, then the local ones, as they are declared.
use Rattle.std.specs.Prelude.{◌≡◌, ◌≤◌, ℕ, suc, ◌+◌, List, [], ◌∷◌, take, Some, None, true, Bool, false, slice_get}
use Rattle.isp_base.specs.declared.signature.Parameter.{Parameter}
use Rattle.isp_base.specs.declared.types.Elem.{Elem}
use Rattle.isp_base.specs.declared.types.Ty.{Ty}
use Rattle.isp_code.specs.Listing.{Routine}
use Rattle.isp_code.specs.Registers.{passed}
use Rattle.isp_typed.specs.Typed.{TFunction}
use Rattle.isp_typed.specs.declared.variable.Holds.{Holds}
use Rattle.isp_typed.specs.declared.variable.Holds.TheVariants as holds
use Rattle.isp_typed.specs.declared.variable.Variable.{Variable}
use Rattle.isp_lower_code.specs.Header.{locals_of}
use Rattle.isp_lower_code.specs.Layout.{Layout}
pub use Rattle.isp_lower_code.specs.Own.{HoldsLocal}

-- how many of the parameters are arrays
abbrev pub array_then : Bool → ℕ → ℕ
array_then true n = suc n
array_then false n = n

abbrev pub array_count : List Parameter → ℕ
array_count [] = 0
array_count (p ∷ ps) = array_then p.is_array (array_count ps)

-- how many of variables are local arrays
abbrev pub count_then : Holds → ℕ → ℕ
count_then (holds.Value t) n = n
count_then (holds.Given t) n = n
count_then (holds.Local t m) n = suc n

abbrev pub local_count : List Variable → ℕ
local_count [] = 0
local_count (v ∷ vs) = count_then v.holds (local_count vs)

pub record ArraysStand (h : TFunction) (g : Routine) (l : Layout) : Type 0 where
  pub passed_is : passed g ≡ array_count h.parameters
  pub locals_are : g.locals ≡ locals_of h.variables
  -- an array that is handed over is a parameter; its number is how many arrays are handed over before it
  pub given : (v : ℕ) (x : Variable) (e : Elem) → slice_get h.variables v ≡ Some x → x.holds ≡ holds.Given e → (p : Parameter) × (slice_get h.parameters v ≡ Some p) × (p.is_array ≡ true) × (l.array v ≡ array_count (take v h.parameters))
  -- a local one is no parameter, and not too large
  pub local : (v : ℕ) (x : Variable) (t : Ty) (n : ℕ) → slice_get h.variables v ≡ Some x → x.holds ≡ holds.Local t n → (slice_get h.parameters v ≡ None) × (l.array v ≡ passed g + local_count (take v h.variables)) × (n ≤ 65536)
