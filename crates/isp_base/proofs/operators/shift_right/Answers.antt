use Rattle.std.proofs.Common.{sym, ap, ap₂, ◌∙◌, ◌-◌, ◌/◌, ◌^◌, cond, bit_and}
use Rattle.isp_base.specs.Values.{width}
use Rattle.isp_base.proofs.Words.{word_shr}
use Rattle.isp_base.proofs.operators.shift_right.Goals as goal

pub returns-then-is_negative : goal.returns-then-is_negative
returns-then-is_negative c =
    let t = c.args.elem in
    let k = bit_and c.args.y (width t - 1) in
    ap₂ (λ l m. l - (l - c.args.x) / 2 ^ bit_and c.args.y m) c.low_mask-low.ensures c.amount_mask.ensures
    ∙ ap (λ b. cond b (2 ^ width t - 1 - (2 ^ width t - 1 - c.args.x) / 2 ^ k) (c.args.x / 2 ^ k)) (sym c.if-is_negative.true ∙ c.is_negative.ensures)
    ∙ word_shr c.args.elem c.args.x c.args.y c.requires.x_fits c.requires.y_fits

pub returns-else-is_negative : goal.returns-else-is_negative
returns-else-is_negative c =
    let t = c.args.elem in
    let k = bit_and c.args.y (width t - 1) in
    ap (λ m. c.args.x / 2 ^ bit_and c.args.y m) c.amount_mask.ensures
    ∙ ap (λ b. cond b (2 ^ width t - 1 - (2 ^ width t - 1 - c.args.x) / 2 ^ k) (c.args.x / 2 ^ k)) (sym c.if-is_negative.false ∙ c.is_negative.ensures)
    ∙ word_shr c.args.elem c.args.x c.args.y c.requires.x_fits c.requires.y_fits
