-- The text of code can have the code of a tree, since it is sound in a routine that ends after it.
use Rattle.std.proofs.Common.{◌≡◌, ◌≤◌, ◌<◌, ◌+◌, ℕ, List, length, arith}
use Rattle.isp_base.specs.declared.types.Span.{Span}
use Rattle.isp_code.specs.declared.instr.Instr.{Instr}
use Rattle.isp_code.specs.declared.instr.Instr.TheVariants as instr
use Rattle.isp_typed.specs.Typed.{TFunction}
use Rattle.isp_lower_code.specs.Asked.{CodeIsWritten, IsWritten}
use Rattle.isp_lower_code.specs.Callees.{rates_in}
use Rattle.isp_lower_code.specs.Code.{expr_code}
use Rattle.isp_lower_code.specs.Rows.{Rows, layout_of}
use Rattle.isp_lower_code.specs.Simple.{simple_code, simple_places}
use Rattle.isp_lower_code.specs.Sound.{AreSound}
use Rattle.isp_lower_code.specs.Spans.{expr_places}
use Rattle.isp_lower_code.proofs.InRows.{expr_in_rows, in_rows, many_long, simple_in_rows, with_places}
use Rattle.isp_lower_code.proofs.Rated.{expr_tree, simple_tree}
use Rattle.isp_lower_code.proofs.SmallNumbers.{numbers_small}
use Rattle.isp_lower_code.proofs.SoundConstants.{constants_fit}
use Rattle.isp_lower_code.proofs.Spans.{Placed, expr_placed, simple_placed}
use Rattle.std.specs.Prelude.{None}

written : (fs : List TFunction) (rows : Rows) (masks pc p k n places : ℕ) (lt : k < masks) (is : List Instr) (ps : List Span) → p + places ≤ 4294967296 → pc + length is < 4294967296 → Placed ps
    → AreSound (with_places fs (p + places)) (in_rows fs rows masks pc p k n lt is) is → IsWritten is ps
written fs rows masks pc p k n places lt is ps few long placed sound =
    let a = many_long (instr.Return None) (pc + length is + 1) in
    let b : length (with_places fs (p + places)).places ≡ p + places = many_long (record { start = 0; end = 0 }) (p + places) in
    record {
      constants = constants_fit (with_places fs (p + places)) (in_rows fs rows masks pc p k n lt is) is sound;
      numbers = numbers_small (with_places fs (p + places)) (in_rows fs rows masks pc p k n lt is) (omega (arith, b, few)) (omega arith) (omega (arith, a, long)) is sound;
      places = placed;
    }

pub code_is_written : CodeIsWritten
code_is_written = record {
  exprs = λ fs vars rows masks x pc p k n fine rated has lt long few.
      let l = layout_of (rates_in fs) rows in
      written fs rows masks pc p k n (length (expr_places l x)) lt (expr_code l x pc p k n) (expr_places l x) few long (expr_placed fs vars l x fine)
      (expr_in_rows fs rows masks pc p k n lt x (expr_tree fs vars x fine rated) has);
  simples = λ fs vars rows masks x pc p k n fine rated has lt long few.
      let l = layout_of (rates_in fs) rows in
      written fs rows masks pc p k n (length (simple_places l x)) lt (simple_code l x pc p k n) (simple_places l x) few long (simple_placed fs vars l x fine)
      (simple_in_rows fs rows masks pc p k n lt x (simple_tree fs vars x fine rated) has);
}
