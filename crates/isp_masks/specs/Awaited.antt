-- Jumps to the end of code that are written once the end is known: until then an instruction stands in their place.
use Rattle.std.specs.Prelude.{◌≡◌, ◌<◌, ℕ, List, [], ◌∷◌, ◌++◌, length, slice_set, Bool, true, false}
use Rattle.isp_base.specs.declared.types.Span.{Span}
use Rattle.isp_code.specs.declared.instr.Instr.{Instr}
use Rattle.isp_lower_code.specs.Instructions.{jump_off}
use Rattle.isp_lower.specs.Emitted.{texts_of}
use Rattle.isp_lower.specs.declared.types.Body.{Body}
use Rattle.isp_masks_code.specs.Spots.{Numbers}
use Rattle.isp_masks.specs.AtWork.{next_of}

-- the instructions with these numbers are this one
abbrev pub set_all : List Instr → List ℕ → Instr → List Instr
set_all code [] i = code
set_all code (j ∷ js) i = set_all (slice_set code j i) js i

-- each of the numbers is below n
abbrev pub AreBelow : ℕ → List ℕ → Type 0
AreBelow n [] = Unit {0}
AreBelow n (j ∷ js) = (j < n) × AreBelow n js

-- Code that is given where its jumps lead, the number of its first instruction and the numbers of what it names.
abbrev pub Code : Type 0
Code = ℕ → ℕ → Numbers → List Instr

-- With these jumps to instruction t, taken where mask k has nobody, code, places and texts have grown by these.
pub record Awaits (old new : Body) (jumps : List ℕ) (k : ℕ) (c : Code) (s : List Span) (u : List (List ℕ)) : Type 0 where
  pub low : AreBelow (length new.code.items) jumps
  pub code : (t : ℕ) → set_all new.code.items jumps (jump_off k t) ≡ old.code.items ++ c t (length old.code.items) (next_of old)
  pub places : new.places.items ≡ old.places.items ++ s
  pub texts : texts_of new ≡ texts_of old ++ u

-- a jump where some may have left
abbrev pub jump_where : Bool → ℕ → ℕ → List Instr
jump_where true k t = jump_off k t ∷ []
jump_where false k t = []

-- after what was written before, room is kept for such a jump
abbrev pub LeavesRoom : Body → Body → List ℕ → List ℕ → ℕ → Bool → Type 0
LeavesRoom old new before jumps k left =
    (first : Body) (c : Code) (s : List Span) (u : List (List ℕ)) → Awaits first old before k c s u → Awaits first new jumps k (λ t pc z. c t pc z ++ jump_where left k t) s u
