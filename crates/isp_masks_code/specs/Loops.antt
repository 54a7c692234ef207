-- The code of loops, given the code of its test and of its body. Of the first free slot n on, mask n has those that run, mask
-- n + 1 those that continued in a turn, mask n + 2 those that returned; mask k keeps the set that entered until the end. Masks
-- for those that continue or return are used only where the body lets somebody do so.
use Rattle.std.specs.Prelude.{ℕ, ◌+◌, List, [], ◌∷◌, ◌++◌, Option, Some, None, Bool, true, false}
use Rattle.isp_base.specs.declared.types.Rate.{Rate}
use Rattle.isp_base.specs.declared.types.Rate.TheVariants.{Uniform, Varying}
use Rattle.isp_code.specs.declared.instr.Instr.{Instr}
use Rattle.isp_code.specs.declared.instr.Instr.TheVariants as instr
use Rattle.isp_code.specs.declared.instr.JumpTest.TheVariants as jump
use Rattle.isp_code.specs.declared.instr.MaskInstr.TheVariants as mask
use Rattle.isp_tree.specs.declared.stmt.Form.{Form}
use Rattle.isp_tree.specs.declared.stmt.Form.TheVariants.{Plain, Coherent}
use Rattle.isp_typed.specs.Typed.{TExpr, type_of}
use Rattle.isp_lower_code.specs.Layout.{mask_register}
use Rattle.isp_lower_code.specs.Instructions.{where_so, the_others, jump_off, jump_on}
use Rattle.isp_lower_code.specs.Pieces.{two, guard}
use Rattle.isp_masks_code.specs.Exits.{nobody_leaves}
use Rattle.isp_masks_code.specs.Sets.{unite, clear_mask}
use Rattle.isp_masks_code.specs.Spots.{Spot}
use Rattle.isp_masks_code.specs.declared.exits.Exits.{Exits}

abbrev pub copy_mask : ℕ → ℕ → Instr
copy_mask d x = instr.Mask (mask_register d) (mask.Copy (mask_register x))

-- code that is there where it is needed
abbrev pub if_needed : Bool → List Instr → List Instr
if_needed true code = code
if_needed false code = []

-- a loop begins: all of the set run, and nobody has returned
abbrev pub enter_code : Exits → ℕ → ℕ → List Instr
enter_code e k n = copy_mask n k ∷ if_needed e.returns (clear_mask (n + 2) ∷ [])

-- its end: those that returned leave mask k and are added to mask rr
abbrev pub loop_end_code : Exits → ℕ → ℕ → ℕ → List Instr
loop_end_code e k rr n = if_needed e.returns (the_others k k (n + 2) ∷ unite rr rr (n + 2) ∷ [])

-- the jump past the joining of masks where all lanes are on
abbrev pub jump_all : ℕ → ℕ → Instr
jump_all k to = instr.JumpIf jump.All (mask_register k) to

-- those that continued in a turn come back; a c-form by a varying test, which is wide, jumps past this where all lanes are live
abbrev pub rejoin_code : Bool → Exits → ℕ → ℕ → List Instr
rejoin_code true e pc n = guard (jump_all n) pc (λ pc1. if_needed e.continues (unite n n (n + 1) ∷ []))
rejoin_code false e pc n = if_needed e.continues (unite n n (n + 1) ∷ [])

-- a turn
abbrev pub turn_code : Bool → Exits → ℕ → ℕ → (ℕ → List Instr) → List Instr
turn_code wide e pc n body =
    two pc (if_needed e.continues (clear_mask (n + 1) ∷ [])) (λ pc1. two pc1 (body pc1) (λ pc2. rejoin_code wide e pc2 n))

-- what follows a test in register x is for those that pass it, and is jumped past where nobody does
abbrev pub sift_code : Rate → ℕ → ℕ → ℕ → (ℕ → List Instr) → List Instr
sift_code Uniform x pc n rest = guard (jump_on jump.False x) pc rest
sift_code Varying x pc n rest = where_so n x n ∷ guard (jump_off n) (pc + 1) rest

-- The same in two parts, as it is written: what stands before the jump past the rest, and this jump.
abbrev pub sift_begin : Rate → ℕ → ℕ → List Instr
sift_begin Uniform x n = []
sift_begin Varying x n = where_so n x n ∷ []

abbrev pub sift_jump : Rate → ℕ → ℕ → ℕ → Instr
sift_jump Uniform x n = jump_on jump.False x
sift_jump Varying x n = jump_off n

-- what is for those that are live alone: where all of the set go on after the body, somebody is
abbrev pub live_code : Bool → ℕ → ℕ → (ℕ → List Instr) → List Instr
live_code true n pc code = code pc
live_code false n pc code = guard (jump_off n) pc code

-- back to the body, for those that pass the test in register x
abbrev pub again_code : Rate → ℕ → ℕ → ℕ → List Instr
again_code Uniform x n top = jump_on jump.True x top ∷ []
again_code Varying x n top = where_so n x n ∷ instr.JumpIf jump.On (mask_register n) top ∷ []

-- after a turn, for those that are live: the step, and what leads back
abbrev pub next_code : Exits → ℕ → ℕ → (ℕ → List Instr) → (ℕ → List Instr) → List Instr
next_code e n pc step back = live_code (nobody_leaves e) n pc (λ pc1. two pc1 (step pc1) back)

-- a c-form by a varying test
abbrev pub is_wide : Form → Rate → Bool
is_wide Plain r = false
is_wide Coherent Uniform = false
is_wide Coherent Varying = true

-- a `for`, by its test
abbrev pub is_wide_by : Form → Option TExpr → Bool
is_wide_by f None = false
is_wide_by f (Some e) = is_wide f (type_of e).rate

-- a loop: it begins, its turns come, and it ends
abbrev pub loop_code : Exits → ℕ → Spot → (ℕ → List Instr) → List Instr
loop_code e pc spot turns =
    two pc (enter_code e spot.on spot.slot) (λ top. two top (turns top) (λ pc1. loop_end_code e spot.on spot.returned spot.slot))

-- turns from one on, with the test after each
abbrev pub tested_code : Bool → Exits → Rate → ℕ → ℕ → ℕ → (ℕ → List Instr) → (ℕ → List Instr) → (ℕ → List Instr) → List Instr
tested_code wide e r x n top test body step =
    two top (turn_code wide e top n body) (λ pc. next_code e n pc step (λ pc1. test pc1 ++ again_code r x n top))

-- where there is no step
abbrev pub no_code : ℕ → List Instr
no_code pc = []

abbrev pub do_code : Bool → Exits → Rate → ℕ → ℕ → Spot → (ℕ → List Instr) → (ℕ → List Instr) → List Instr
do_code wide e r x pc spot test body =
    loop_code e pc spot (λ top. tested_code wide e r x spot.slot top test body no_code)

-- A `for`, whose first part stands before. The test is asked once before the turns: this is `entry`, the same test, whose places
-- have other numbers.
abbrev pub for_code : Bool → Exits → Rate → ℕ → ℕ → Spot → (ℕ → List Instr) → (ℕ → List Instr) → (ℕ → List Instr) → (ℕ → List Instr) → List Instr
for_code wide e r x pc spot entry test body step =
    let n = spot.slot in
    loop_code e pc spot (λ pc1. two pc1 (entry pc1) (λ pc2. sift_code r x pc2 n (λ top. tested_code wide e r x n top test body step)))

-- a `for` without a step
abbrev pub while_code : Bool → Exits → Rate → ℕ → ℕ → Spot → (ℕ → List Instr) → (ℕ → List Instr) → (ℕ → List Instr) → List Instr
while_code wide e r x pc spot entry test body = for_code wide e r x pc spot entry test body no_code

-- a `for` whose test is left out
abbrev pub endless_code : Exits → ℕ → Spot → (ℕ → List Instr) → (ℕ → List Instr) → List Instr
endless_code e pc spot body step =
    let n = spot.slot in
    loop_code e pc spot (λ top. two top (turn_code false e top n body) (λ pc1. next_code e n pc1 step (λ pc2. instr.Jump top ∷ [])))
