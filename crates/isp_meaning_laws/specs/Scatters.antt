-- What the members of a set leave in an array that all share, where several store in one element: the highest one's value.
use Rattle.std.specs.Prelude.{◌≡◌, ℕ, ◌<◌, Some, true}
use Rattle.isp_base.specs.Access.{element}
use Rattle.isp_base.specs.Sets.{Mask, any}
use Rattle.isp_base.specs.Types.{gang_width}
use Rattle.isp_base.specs.declared.types.Elem.{Elem}
use Rattle.isp_base.specs.declared.types.Rate.TheVariants.{Uniform}
use Rattle.isp_base.specs.declared.types.Span.{Span}
use Rattle.isp_base.specs.declared.types.Ty.{Ty}
use Rattle.isp_typed.specs.declared.variable.ArrayVariable.{ArrayVariable}
use Rattle.isp_typed.specs.Typed.{TExpr, t_element, elem_of, t_assign, Program}
use Rattle.isp_meaning.specs.Calls.{calls_at}
use Rattle.isp_meaning.specs.Outcomes.{Gives}
use Rattle.isp_meaning.specs.Payloads.{Payload, spread}
use Rattle.isp_meaning.specs.Simple.{simple}
use Rattle.isp_meaning.specs.State.{State, Frame, tick}
use Rattle.isp_meaning_laws.specs.Members.{value_over}

-- the index that instance p has, of type t, is that of element e
pub record IsAt (a : Mask) (t : Elem) (j : Payload) (e p : ℕ) : Type 0 where
  pub index : ℕ
  pub has : spread a j p ≡ Some index
  pub is : element t index ≡ e

-- the highest member that stores there
pub record IsHighest (gang : ℕ) (a : Mask) (t : Elem) (j : Payload) (e p : ℕ) : Type 0 where
  pub below : p < gang
  pub member : a p ≡ true
  pub at : IsAt a t j e p
  pub highest : (q : ℕ) → p < q → q < gang → a q ≡ true → IsAt a t j e q → ⊥

-- `b[i] = x;` that ends, where the indices came to j, and the values to m
pub record Stored (program : Program) (most levels : ℕ) (frame : Frame) (b : ArrayVariable) (i x : TExpr) (a : Mask) (s : State) (j m : Payload) (before after : State) : Type 0 where
  pub shared : b.ty.rate ≡ Uniform
  pub some : any (gang_width program.gang) a ≡ true
  pub t : Ty
  pub at : Span
  pub sp : Span
  pub between : State
  pub index : value_over program most levels frame i a (tick (tick s)) ≡ Gives j between
  pub value : value_over program most levels frame x a between ≡ Gives m before
  pub ends : simple (gang_width program.gang) frame (calls_at program most levels) (t_assign (t_element b i t at) x sp) a s ≡ Gives tt after

pub record TheHighestWins : Type 0 where
  -- in an element the value of the highest member that stores there
  pub there : (program : Program) (most levels : ℕ) (frame : Frame) (b : ArrayVariable) (i x : TExpr) (a : Mask) (s : State) (j m : Payload) (before after : State)
      → Stored program most levels frame b i x a s j m before after → (e p w : ℕ)
      → IsHighest (gang_width program.gang) a (elem_of i) j e p → spread a m p ≡ Some w → after.arrays (frame.named b.number) e ≡ w
  -- where no member stores, what was there
  pub elsewhere : (program : Program) (most levels : ℕ) (frame : Frame) (b : ArrayVariable) (i x : TExpr) (a : Mask) (s : State) (j m : Payload) (before after : State)
      → Stored program most levels frame b i x a s j m before after → (e : ℕ)
      → ((p : ℕ) → p < gang_width program.gang → a p ≡ true → IsAt a (elem_of i) j e p → ⊥)
      → after.arrays (frame.named b.number) e ≡ before.arrays (frame.named b.number) e
  -- and in other arrays
  pub others : (program : Program) (most levels : ℕ) (frame : Frame) (b : ArrayVariable) (i x : TExpr) (a : Mask) (s : State) (j m : Payload) (before after : State)
      → Stored program most levels frame b i x a s j m before after → (k : ℕ) → (k ≡ frame.named b.number → ⊥) → after.arrays k ≡ before.arrays k
