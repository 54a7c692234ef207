use Rattle.std.proofs.Common.{sym, ap, ap₂, ◌∙◌, ◌*◌, ◌%◌, ◌^◌, cond, bit_and}
use Rattle.isp_base.specs.Values.{op_bits}
use Rattle.isp_base.proofs.Words.{word_add, word_sub, word_mul, word_and, word_or, word_xor, word_shl, word_min, word_max}
use Rattle.isp_base.proofs.operators.apply_nonzero.Goals as goal

pub returns-in-Add : goal.returns-in-Add
returns-in-Add c = ap (bit_and _) c.low_mask-low.ensures ∙ word_add c.args.elem c.args.x c.args.y c.requires.x_fits c.requires.y_fits ∙ ap (λ o. op_bits o c.args.elem c.args.x c.args.y) (sym c.in-Add.is)

pub returns-in-Sub : goal.returns-in-Sub
returns-in-Sub c = ap (bit_and _) c.low_mask-low.ensures ∙ word_sub c.args.elem c.args.x c.args.y c.requires.x_fits c.requires.y_fits ∙ ap (λ o. op_bits o c.args.elem c.args.x c.args.y) (sym c.in-Sub.is)

pub returns-in-Mul : goal.returns-in-Mul
returns-in-Mul c = ap (bit_and _) c.low_mask-low.ensures ∙ word_mul c.args.elem c.args.x c.args.y c.requires.x_fits c.requires.y_fits ∙ ap (λ o. op_bits o c.args.elem c.args.x c.args.y) (sym c.in-Mul.is)

pub returns-in-And : goal.returns-in-And
returns-in-And c = word_and c.args.elem c.args.x c.args.y c.requires.x_fits c.requires.y_fits ∙ ap (λ o. op_bits o c.args.elem c.args.x c.args.y) (sym c.in-And.is)

pub returns-in-Or : goal.returns-in-Or
returns-in-Or c = word_or c.args.elem c.args.x c.args.y c.requires.x_fits c.requires.y_fits ∙ ap (λ o. op_bits o c.args.elem c.args.x c.args.y) (sym c.in-Or.is)

pub returns-in-Xor : goal.returns-in-Xor
returns-in-Xor c = word_xor c.args.elem c.args.x c.args.y c.requires.x_fits c.requires.y_fits ∙ ap (λ o. op_bits o c.args.elem c.args.x c.args.y) (sym c.in-Xor.is)

pub returns-in-Shl : goal.returns-in-Shl
returns-in-Shl c = ap₂ (λ m l. bit_and ((c.args.x * 2 ^ bit_and c.args.y m) % 2 ^ 64) l) c.amount_mask.ensures c.low_mask-low.ensures
    ∙ word_shl c.args.elem c.args.x c.args.y c.requires.x_fits c.requires.y_fits ∙ ap (λ o. op_bits o c.args.elem c.args.x c.args.y) (sym c.in-Shl.is)

pub returns-then-is_less : goal.returns-then-is_less
returns-then-is_less c =
    ap (λ t. cond t c.args.y c.args.x) (sym c.if-is_less.true ∙ c.is_less.ensures) ∙ word_min c.args.elem c.args.x c.args.y c.requires.x_fits c.requires.y_fits ∙ ap (λ o. op_bits o c.args.elem c.args.x c.args.y) (sym c.in-Min.is)

pub returns-else-is_less : goal.returns-else-is_less
returns-else-is_less c =
    ap (λ t. cond t c.args.y c.args.x) (sym c.if-is_less.false ∙ c.is_less.ensures) ∙ word_min c.args.elem c.args.x c.args.y c.requires.x_fits c.requires.y_fits ∙ ap (λ o. op_bits o c.args.elem c.args.x c.args.y) (sym c.in-Min.is)

pub returns-then-is_less-2 : goal.returns-then-is_less-2
returns-then-is_less-2 c =
    ap (λ t. cond t c.args.x c.args.y) (sym c.if-is_less-2.true ∙ c.is_less-in-Max.ensures) ∙ word_max c.args.elem c.args.x c.args.y c.requires.x_fits c.requires.y_fits ∙ ap (λ o. op_bits o c.args.elem c.args.x c.args.y) (sym c.in-Max.is)

pub returns-else-is_less-2 : goal.returns-else-is_less-2
returns-else-is_less-2 c =
    ap (λ t. cond t c.args.x c.args.y) (sym c.if-is_less-2.false ∙ c.is_less-in-Max.ensures) ∙ word_max c.args.elem c.args.x c.args.y c.requires.x_fits c.requires.y_fits ∙ ap (λ o. op_bits o c.args.elem c.args.x c.args.y) (sym c.in-Max.is)
