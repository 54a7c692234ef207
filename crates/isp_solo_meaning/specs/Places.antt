-- The places that assignments write in one instance, and what is kept there.
use Rattle.std.specs.Prelude.{ℕ, Bool, false}
use Rattle.isp_base.specs.Access.{is_outside, element}
use Rattle.isp_base.specs.declared.types.Elem.{Elem}
use Rattle.isp_base.specs.declared.types.Rate.{Rate}
use Rattle.isp_base.specs.declared.types.Rate.TheVariants.{Uniform, Varying}
use Rattle.isp_base.specs.declared.types.Ty.{Ty}
use Rattle.isp_typed.specs.declared.variable.ArrayVariable.{ArrayVariable}
use Rattle.isp_meaning.specs.State.{Frame, extent}
use Rattle.isp_solo_meaning.specs.Alone.{Alone, written, own_stored, own_cleared, stored, shared_cleared}

-- a variable, or the element of an array at an index, whose type is said
pub data Spot : Type 0 where
  AVariable : (number : ℕ) (ty : Ty) → Spot
  AnElement : (array : ArrayVariable) (elem : Elem) (index : ℕ) → Spot

module _ (frame : Frame) where
  -- the index is outside the array
  abbrev pub outside : Spot → Bool
  outside (AVariable v t) = false
  outside (AnElement b t i) = is_outside t (extent frame b) i

  abbrev pub element_kept : Rate → ArrayVariable → ℕ → ℕ → Alone → Alone
  element_kept Uniform b e x s = stored (frame.named b.number) e x s
  element_kept Varying b e x s = own_stored b.number e x s

  -- a place once it is written
  abbrev pub kept : Spot → ℕ → Alone → Alone
  kept (AVariable v t) x s = written t.rate v x s
  kept (AnElement b t i) x s = element_kept b.ty.rate b (element t i) x s

  -- a declared array begins with zeros; no independent entry declares one that all share
  abbrev pub cleared : Rate → ℕ → Alone → Alone
  cleared Uniform v s = shared_cleared (frame.named v) s
  cleared Varying v s = own_cleared v s
