-- Small pieces of code, given by their parts: one after the other, after a jump or chosen by one, and those of `&&`, `||` and a varying `?:`.
use Rattle.std.specs.Prelude.{ℕ, ◌+◌, ◌∷◌, [], ◌++◌, List, length, Bool, true, false, nat_eq}
use Rattle.isp_base.specs.declared.types.Rate.{Rate}
use Rattle.isp_base.specs.declared.types.Rate.TheVariants.{Uniform, Varying}
use Rattle.isp_code.specs.declared.instr.Instr.{Instr}
use Rattle.isp_code.specs.declared.instr.Instr.TheVariants as instr
use Rattle.isp_code.specs.declared.instr.JumpTest.{JumpTest}
use Rattle.isp_code.specs.declared.instr.JumpTest.TheVariants as jump
use Rattle.isp_typed.specs.declared.variable.Logic.{Logic}
use Rattle.isp_typed.specs.declared.variable.Logic.TheVariants.{And, Or}
use Rattle.isp_lower_code.specs.Instructions.{copy, select, where_so, the_others, jump_off, jump_on}

-- one part after the other, each given where it begins
abbrev pub two : ℕ → List Instr → (ℕ → List Instr) → List Instr
two pc a b = a ++ b (pc + length a)

-- code that a jump goes past
abbrev pub guard : (ℕ → Instr) → ℕ → (ℕ → List Instr) → List Instr
guard go pc a = go (pc + 1 + length (a (pc + 1))) ∷ a (pc + 1)

-- one of two parts: a jump goes to the second
abbrev pub choice : (ℕ → Instr) → ℕ → (ℕ → List Instr) → (ℕ → List Instr) → List Instr
choice go pc a b =
    go (pc + 1 + length (a (pc + 1)) + 1) ∷ (a (pc + 1) ++ instr.Jump (pc + 1 + length (a (pc + 1)) + 1 + length (b (pc + 1 + length (a (pc + 1)) + 1))) ∷ b (pc + 1 + length (a (pc + 1)) + 1))

-- a register gets what another one has
abbrev pub move : Bool → Rate → ℕ → ℕ → ℕ → List Instr
move true r d x k = []
move false r d x k = copy r d x k ∷ []

abbrev pub move_code : Rate → ℕ → ℕ → ℕ → List Instr
move_code r d x k = move (nat_eq d x) r d x k

-- two operands, the second one slot on, and an instruction
abbrev pub pair_code : ℕ → List Instr → (ℕ → List Instr) → Instr → List Instr
pair_code pc a b i = two pc a (λ pc1. b pc1 ++ i ∷ [])

-- ---- `&&` and `||`

-- which lanes need the right side of `&&` or `||`: those of mask k where the left is true, or false, into mask m
abbrev pub needing : Logic → ℕ → ℕ → ℕ → List Instr
needing And m x k = where_so m x k ∷ []
needing Or m x k = where_so m x k ∷ the_others m k m ∷ []

-- a uniform left side that needs no right side
abbrev pub decided : Logic → JumpTest
decided And = jump.False
decided Or = jump.True

-- `&&` and `||`: the right side is jumped over where nobody needs it
abbrev pub logic_code : Rate → Logic → ℕ → ℕ → ℕ → ℕ → ℕ → ℕ → List Instr → (ℕ → ℕ → List Instr) → List Instr
logic_code Uniform g d x y pc k n a b =
    two pc (a ++ move_code Uniform d x k) (λ pc1. guard (jump_on (decided g) d) pc1 (λ pc2. b pc2 k ++ copy Uniform d y k ∷ []))
logic_code Varying g d x y pc k n a b =
    two pc (a ++ (move_code Varying d x k ++ needing g n d k)) (λ pc1. guard (jump_off n) pc1 (λ pc2. b pc2 n ++ copy Varying d y n ∷ []))

-- ---- a choice

-- a choice by a test in register c: by a jump where it is uniform, else both sides under two masks from the one test
abbrev pub choose_rest : ℕ → ℕ → ℕ → ℕ → ℕ → ℕ → ℕ → (ℕ → ℕ → ℕ → List Instr) → (ℕ → ℕ → ℕ → List Instr) → List Instr
choose_rest d c x y pc k n a b =
    where_so n c k ∷ two (pc + 1) (guard (jump_off n) (pc + 1) (λ pc1. a pc1 n (n + 1))) (λ pc1. the_others (n + 1) k n ∷ (guard (jump_off (n + 1)) (pc1 + 1) (λ pc2. b pc2 (n + 1) (n + 2)) ++ select Varying d c x y k ∷ []))
