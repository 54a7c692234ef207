use Rattle.std.proofs.Common.{sym, ap, ap₂, ◌∙◌, ◌-◌, ◌%◌, ◌^◌, cond}
use Rattle.isp_base.specs.Values.{width, greatest}
use Rattle.isp_base.specs.Words.{magnitude}
use Rattle.isp_base.proofs.Words.{word_rem}
use Rattle.isp_base.proofs.operators.remainder.Goals as goal

pub returns-then-is_negative : goal.returns-then-is_negative
returns-then-is_negative c =
    let t = c.args.elem in
    let x = magnitude (width t) (greatest t) c.args.x in
    let y = magnitude (width t) (greatest t) c.args.y in
    c.negate.ensures ∙ ap₂ (λ a b. (2 ^ width t - a % b) % 2 ^ width t) c.magnitude.ensures c.magnitude-2.ensures
    ∙ ap (λ s. cond s ((2 ^ width t - x % y) % 2 ^ width t) (x % y)) (sym c.if-is_negative.true ∙ c.is_negative.ensures) ∙ word_rem c.args.elem c.args.x c.args.y c.requires.x_fits c.requires.y_fits c.requires.divisor

pub returns-else-is_negative : goal.returns-else-is_negative
returns-else-is_negative c =
    let t = c.args.elem in
    let x = magnitude (width t) (greatest t) c.args.x in
    let y = magnitude (width t) (greatest t) c.args.y in
    ap₂ (λ a b. a % b) c.magnitude.ensures c.magnitude-2.ensures
    ∙ ap (λ s. cond s ((2 ^ width t - x % y) % 2 ^ width t) (x % y)) (sym c.if-is_negative.false ∙ c.is_negative.ensures) ∙ word_rem c.args.elem c.args.x c.args.y c.requires.x_fits c.requires.y_fits c.requires.divisor
