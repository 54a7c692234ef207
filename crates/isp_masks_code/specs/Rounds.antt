-- The code of statements whose body runs over sets of its own: `unmasked`, `foreach_active` and `foreach_unique`, given the code of
-- the body.
-- Mask k keeps the set that came to them, which goes on afterwards.
use Rattle.std.specs.Prelude.{ℕ, ◌+◌, List, [], ◌∷◌, ◌++◌}
use Rattle.isp_base.specs.declared.operators.Compare.TheVariants.{Equal}
use Rattle.isp_base.specs.declared.types.Elem.{Elem}
use Rattle.isp_base.specs.declared.types.Elem.TheVariants.{Bool as Truth}
use Rattle.isp_base.specs.declared.types.Rate.TheVariants.{Uniform, Varying}
use Rattle.isp_code.specs.declared.instr.Instr.{Instr}
use Rattle.isp_code.specs.declared.instr.Instr.TheVariants as instr
use Rattle.isp_code.specs.declared.instr.JumpTest.TheVariants as jump
use Rattle.isp_code.specs.declared.instr.MaskInstr.TheVariants as mask
use Rattle.isp_code.specs.declared.instr.Reduction.TheVariants as reduction
use Rattle.isp_code.specs.declared.instr.ScalarInstr.TheVariants as scalar
use Rattle.isp_lower_code.specs.Instructions.{compare, convert, copy, splat, the_others, where_so}
use Rattle.isp_lower_code.specs.Pieces.{two}
use Rattle.isp_lower_code.specs.Layout.{Layout, mask_register, register}
use Rattle.isp_lower_code.specs.Library.{reduce}
use Rattle.isp_masks_code.specs.Loops.{copy_mask}

-- mask d gets all lanes; the lowest lane of mask x alone
abbrev pub fill_mask : ℕ → Instr
fill_mask d = instr.Mask (mask_register d) mask.Full

abbrev pub lowest_mask : ℕ → ℕ → Instr
lowest_mask d x = instr.Mask (mask_register d) (mask.Lowest (mask_register x))

-- scalar register d gets the number of the lowest lane of mask k
abbrev pub lane_number : ℕ → ℕ → Instr
lane_number d k = instr.Scalar (register Uniform d) (scalar.First (mask_register k))

-- ---- `unmasked`: the body under mask n, which has all lanes

abbrev pub unmasked_code : ℕ → ℕ → (ℕ → List Instr) → List Instr
unmasked_code n pc body = fill_mask n ∷ body (pc + 1)

-- ---- turns: mask n has those whose turn is still to come

-- what begins a turn, the body, and back where somebody is left
abbrev pub rounds_code : List Instr → ℕ → ℕ → (ℕ → List Instr) → List Instr
rounds_code begin n top body = two top begin (λ pc. body pc ++ instr.JumpIf jump.On (mask_register n) top ∷ [])

-- ---- `foreach_active`

-- the lowest of them leaves mask n for mask n + 1, and register i has its number
abbrev pub take_code : ℕ → ℕ → List Instr
take_code i n = lowest_mask (n + 1) n ∷ the_others n n (n + 1) ∷ lane_number i (n + 1) ∷ []

-- the turn of one, and back for the next
abbrev pub one_code : ℕ → ℕ → ℕ → (ℕ → List Instr) → List Instr
one_code i n top body = rounds_code (take_code i n) n top body

abbrev pub active_code : ℕ → ℕ → ℕ → ℕ → (ℕ → List Instr) → List Instr
active_code i pc k n body = copy_mask n k ∷ one_code i n (pc + 1) body

-- ---- `foreach_unique`

-- its registers: the values, the value of a turn, the same in each lane, whether a lane has it, and the index
pub record Values : Type 0 where
  pub all : ℕ
  pub one : ℕ
  pub each : ℕ
  pub same : ℕ
  pub index : ℕ

-- of values of type u and index i, in the slots from n on
abbrev pub values_of : Layout → Elem → ℕ → ℕ → Values
values_of l u i n =
    record { all = l.spare Varying u n; one = l.spare Uniform u (n + 1); each = l.spare Varying u (n + 1); same = l.spare Varying Truth (n + 2); index = l.variable Uniform i }

-- The index gets the value of the lowest of them, and those that have it leave mask n for mask n + 1.
abbrev pub value_code : Values → ℕ → List Instr
value_code v n =
    lowest_mask (n + 1) n ∷ reduce reduction.Min v.one v.all (n + 1) ∷ convert Uniform v.index v.one 0 ∷ splat v.each v.one n ∷ compare Varying Equal v.same v.all v.each n ∷ where_so (n + 1) v.same n ∷ the_others n n (n + 1) ∷ []

-- given the code of the values, and the register x where it leaves them
abbrev pub unique_code : Values → List Instr → ℕ → ℕ → ℕ → ℕ → (ℕ → List Instr) → List Instr
unique_code v values x pc k n body =
    two pc (values ++ (copy Varying v.all x k ∷ copy_mask n k ∷ [])) (λ pc1. rounds_code (value_code v n) n pc1 body)
