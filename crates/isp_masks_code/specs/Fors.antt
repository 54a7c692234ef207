-- The parts of a `for` that may be left out: its first part, its test and its step. Of other loops too: a `while` and a `do` have no
-- step.
use Rattle.std.specs.Prelude.{ℕ, ◌+◌, List, [], ◌∷◌, ◌++◌, Option, Some, None}
use Rattle.isp_base.specs.declared.types.Span.{Span}
use Rattle.isp_code.specs.declared.instr.Instr.{Instr}
use Rattle.isp_code.specs.declared.instr.Instr.TheVariants as instr
use Rattle.isp_typed.specs.Typed.{TExpr, type_of, TSimple, TFirst, t_first_declare, t_first_simple}
use Rattle.isp_lower_code.specs.Code.{expr_code}
use Rattle.isp_lower_code.specs.Spans.{expr_places}
use Rattle.isp_lower_code.specs.Found.{found}
use Rattle.isp_lower_code.specs.Items.{items_code, items_places}
use Rattle.isp_lower_code.specs.Layout.{Layout}
use Rattle.isp_lower_code.specs.Simple.{simple_code, simple_places}
use Rattle.isp_masks_code.specs.Loops.{again_code}

module _ (l : Layout) where
  abbrev pub first_code : Option TFirst → ℕ → ℕ → ℕ → ℕ → List Instr
  first_code None pc p k n = []
  first_code (Some (t_first_declare xs sp)) pc p k n = items_code l xs pc p k n
  first_code (Some (t_first_simple x)) pc p k n = simple_code l x pc p k n

  abbrev pub step_code : Option TSimple → ℕ → ℕ → ℕ → ℕ → List Instr
  step_code None pc p k n = []
  step_code (Some x) pc p k n = simple_code l x pc p k n

  -- what leads back to instruction top: the test, where there is one, and a jump
  abbrev pub back_code : Option TExpr → ℕ → ℕ → ℕ → ℕ → List Instr
  back_code None pc p n top = instr.Jump top ∷ []
  back_code (Some e) pc p n top = expr_code l e pc p n (n + 3) ++ again_code (type_of e).rate (found l e (n + 3)) n top

  -- ---- the places that they name

  abbrev pub first_places : Option TFirst → List Span
  first_places None = []
  first_places (Some (t_first_declare xs sp)) = items_places l xs
  first_places (Some (t_first_simple x)) = simple_places l x

  abbrev pub test_places : Option TExpr → List Span
  test_places None = []
  test_places (Some e) = expr_places l e

  abbrev pub step_places : Option TSimple → List Span
  step_places None = []
  step_places (Some x) = simple_places l x
