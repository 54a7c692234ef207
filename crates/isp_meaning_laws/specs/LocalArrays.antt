-- Local arrays: how many elements they have, and what these are once they are declared, each time.
use Rattle.std.specs.Prelude.{◌≡◌, ◌⊎◌, ℕ, ◌<◌, List, [], ◌∷◌, Some, None, Bool, true, false, slice_get, pos}
use Rattle.isp_base.specs.Sets.{Mask, lowest}
use Rattle.isp_base.specs.Traps.{trap}
use Rattle.isp_base.specs.Values.{number}
use Rattle.isp_base.specs.declared.trap.TrapKind.TheVariants.{Index}
use Rattle.isp_base.specs.declared.types.Rate.TheVariants.{Uniform, Varying}
use Rattle.isp_base.specs.declared.types.Span.{Span}
use Rattle.isp_base.specs.declared.types.Ty.{Ty}
use Rattle.isp_typed.specs.declared.variable.ArrayVariable.{ArrayVariable}
use Rattle.isp_typed.specs.declared.variable.Holds.TheVariants.{Local}
use Rattle.isp_typed.specs.Typed.{TExpr, t_place, t_element, elem_of, t_with_size, t_declare, TFunction}
use Rattle.isp_meaning.specs.Calls.{frame_of}
use Rattle.isp_meaning.specs.Expressions.{Passed, Calls, value}
use Rattle.isp_meaning.specs.Outcomes.{Gives, Fails, Res, Went, Trapped, Cut}
use Rattle.isp_meaning.specs.Payloads.{Payload, One}
use Rattle.isp_meaning.specs.State.{State, Frame, tick, extent}
use Rattle.isp_meaning.specs.Statements.{run}

-- the array that variable v of a function is, declared with n elements of type t
abbrev pub local : ℕ → Ty → Bool → ArrayVariable
local v t c = record { number = v; ty = t; constant = c }

pub record IsLocal (f : TFunction) (xs : List Passed) (v : ℕ) (t : Ty) (n : ℕ) (c : Bool) : Type 0 where
  pub is : slice_get f.variables v ≡ Some (record { holds = Local t n; constant = c })
  -- it is no parameter
  pub no_parameter : slice_get xs v ≡ None

-- The array b has zeros: a shared one in each element, of the others that of each member. All else is as it was.
abbrev pub Zeroed : Mask → ArrayVariable → Frame → State → Res → Type 0
Zeroed a b frame s (Went s1 g b1 c r) =
    ((b.ty.rate ≡ Uniform) × ((e : ℕ) → s1.arrays (frame.named b.number) e ≡ 0) × ((k : ℕ) → (k ≡ frame.named b.number → ⊥) → s1.arrays k ≡ s.arrays k) × (s1.own ≡ s.own))
    ⊎ ((b.ty.rate ≡ Varying) × ((e p : ℕ) → a p ≡ true → s1.own b.number e p ≡ 0)
    × ((v e p : ℕ) → (v ≡ b.number → ⊥) ⊎ (a p ≡ false) → s1.own v e p ≡ s.own v e p) × (s1.arrays ≡ s.arrays))
Zeroed a b frame s (Trapped t s1) = ⊥
Zeroed a b frame s (Cut s1) = ⊥

pub record AreLocal : Type 0 where
  -- it has as many elements as its declaration says: index n is outside, and a lower one is not
  pub extent : (f : TFunction) (xs : List Passed) (caller : Frame) (v : ℕ) (t : Ty) (n : ℕ) (c : Bool)
      → IsLocal f xs v t n c → extent (frame_of f xs caller) (local v t c) ≡ n
  pub past_the_end : (gang : ℕ) (f : TFunction) (xs : List Passed) (caller : Frame) (calls : Calls) (v : ℕ) (t : Ty) (n : ℕ) (c : Bool) (i : TExpr) (u : Ty) (at : Span)
      (a : Mask) (s s1 : State) (k p : ℕ)
      → IsLocal f xs v t n c → value gang (frame_of f xs caller) calls i a (tick s) ≡ Gives (One k) s1 → number (elem_of i) k ≡ pos n → lowest gang a ≡ Some p
      → value gang (frame_of f xs caller) calls (t_place (t_element (local v t c) i u at)) a s ≡ Fails (trap Index at p) s1
  pub inside : (gang : ℕ) (f : TFunction) (xs : List Passed) (caller : Frame) (calls : Calls) (v : ℕ) (t : Ty) (n : ℕ) (c : Bool) (i : TExpr) (u : Ty) (at : Span)
      (a : Mask) (s s1 : State) (k m : ℕ)
      → IsLocal f xs v t n c → value gang (frame_of f xs caller) calls i a (tick s) ≡ Gives (One k) s1 → number (elem_of i) k ≡ pos m → m < n
      → (x : Payload) × (value gang (frame_of f xs caller) calls (t_place (t_element (local v t c) i u at)) a s ≡ Gives x s1)
  -- each time that it is declared its elements are zero
  pub declared : (gang : ℕ) (frame : Frame) (calls : Calls) (most : ℕ) (b : ArrayVariable) (at sp : Span) (a : Mask) (s : State)
      → Zeroed a b frame s (run gang frame calls most (t_declare (t_with_size b at ∷ []) sp) a s)
