-- The elements of a run's arrays fit the types that the arrays have, and so does what it gives back.
use Rattle.std.specs.Prelude.{◌≡◌, ℕ, suc, ◌^◌, ◌<◌, List, [], ◌∷◌, Option, Some, None, true, slice_get}
use Rattle.std.specs.List.{All}
use Rattle.isp_base.specs.Arguments.{rows}
use Rattle.isp_base.specs.Binding.{has_signature}
use Rattle.isp_base.specs.Maps.{Lanes}
use Rattle.isp_base.specs.Rows.{Row, Fit}
use Rattle.isp_base.specs.Values.{width}
use Rattle.isp_base.specs.declared.signature.Argument.{Argument}
use Rattle.isp_base.specs.declared.types.Elem.{Elem}
use Rattle.isp_base.specs.declared.types.Value.{Value}
use Rattle.isp_typed.specs.Typed.{Program, TFunction}
use Rattle.isp_rates.specs.Accepted.{IsAccepted}
use Rattle.isp_meaning.specs.Outcomes.{Val, Gives, Fails, Stops}
use Rattle.isp_meaning.specs.Payloads.{Payload, sole}
use Rattle.isp_meaning.specs.Runs.{meaning, state_of}

-- each element that f gives for an array is below 2 ^ width of the array's type
abbrev pub RowsFit : List Row → (ℕ → Lanes) → Type 0
RowsFit [] f = Unit {0}
RowsFit (r ∷ rs) f = ((e : ℕ) → f 0 e < 2 ^ width r.elem) × RowsFit rs (λ b. f (suc b))

-- The program is one that names, types and rates accept, and the arguments have the signature of the function. Rates are
-- asked since a packed store to an array of which each instance has its own would write another array, of any type.
abbrev pub ElementsFit : Type 0
ElementsFit =
    (program : Program) (f : ℕ) (h : TFunction) (xs : List Argument) (n : ℕ)
    → IsAccepted program
    → slice_get program.functions f ≡ Some h
    → has_signature h.parameters xs ≡ true
    → All (λ r. Fit r.elem r.bits) (rows xs)
    → RowsFit (rows xs) (state_of (meaning program f n xs)).arrays

-- what is given back, where something is, is below 2 ^ width of its type
abbrev pub GivenFits : Option Elem → Val Payload → Type 0
GivenFits None v = Unit {0}
GivenFits (Some t) (Gives x s) = sole x < 2 ^ width t
GivenFits (Some t) (Fails trap s) = Unit {0}
GivenFits (Some t) (Stops s) = Unit {0}

-- under the same conditions
abbrev pub ResultFits : Type 0
ResultFits =
    (program : Program) (f : ℕ) (h : TFunction) (xs : List Argument) (n : ℕ)
    → IsAccepted program
    → slice_get program.functions f ≡ Some h
    → has_signature h.parameters xs ≡ true
    → All (λ r. Fit r.elem r.bits) (rows xs)
    → GivenFits h.gives (meaning program f n xs)

-- a value whose bits are below 2 ^ width of its type, where there is one
abbrev pub BitsFit : Option Value → Type 0
BitsFit None = Unit {0}
BitsFit (Some v) = v.bits < 2 ^ width v.elem
