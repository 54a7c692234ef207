-- `assert`: a test, and a trap for the lowest of those for which it is false.
use Rattle.std.specs.Prelude.{ℕ, ◌+◌, List, [], ◌∷◌, ◌++◌, length}
use Rattle.isp_base.specs.declared.types.Rate.{Rate}
use Rattle.isp_base.specs.declared.types.Rate.TheVariants.{Uniform, Varying}
use Rattle.isp_base.specs.declared.types.Span.{Span}
use Rattle.isp_code.specs.declared.instr.Instr.{Instr}
use Rattle.isp_code.specs.declared.instr.Instr.TheVariants as instr
use Rattle.isp_code.specs.declared.instr.JumpTest.TheVariants as jump
use Rattle.isp_typed.specs.Typed.{TExpr, type_of}
use Rattle.isp_lower_code.specs.Code.{expr_code}
use Rattle.isp_lower_code.specs.Found.{found}
use Rattle.isp_lower_code.specs.Instructions.{jump_on, the_others, where_so}
use Rattle.isp_lower_code.specs.Pieces.{guard, two}
use Rattle.isp_lower_code.specs.Spans.{expr_places}
use Rattle.isp_lower_code.specs.Layout.{Layout, mask_register}

-- a trap where mask k has a lane; it names its place
abbrev pub fail : ℕ → ℕ → Instr
fail k p = instr.Fail (mask_register k) p

-- The test is in register x. A uniform one that is true jumps past the trap of all of mask k; of a varying one mask n gets those
-- of mask k for which it is false.
abbrev pub fails_code : Rate → ℕ → ℕ → ℕ → ℕ → ℕ → List Instr
fails_code Uniform x pc p k n = guard (jump_on jump.True x) pc (λ pc1. fail k p ∷ [])
fails_code Varying x pc p k n = where_so n x k ∷ the_others n k n ∷ fail n p ∷ []

module _ (l : Layout) where
  -- the trap's place comes after those of the test
  abbrev pub assert_places : TExpr → Span → List Span
  assert_places x c = expr_places l x ++ c ∷ []

  abbrev pub assert_code : TExpr → ℕ → ℕ → ℕ → ℕ → List Instr
  assert_code x pc p k n =
      two pc (expr_code l x pc p k n) (λ pc1. fails_code (type_of x).rate (found l x n) pc1 (p + length (expr_places l x)) k n)
