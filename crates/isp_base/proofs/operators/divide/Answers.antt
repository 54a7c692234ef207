use Rattle.std.proofs.Common.{sym, ap, ap₂, ◌∙◌, ◌-◌, ◌/◌, ◌%◌, ◌^◌, cond, nat_lt, true, false}
use mathlib.Core.Bool.{beq}
use Rattle.isp_base.specs.Values.{width, greatest}
use Rattle.isp_base.specs.Words.{magnitude}
use Rattle.isp_base.proofs.Signs.{differ_is}
use Rattle.isp_base.proofs.Words.{word_div}
use Rattle.isp_base.proofs.operators.divide.Goals as goal

pub returns-then-is_negative : goal.returns-then-is_negative
returns-then-is_negative c =
    let t = c.args.elem in
    let x = magnitude (width t) (greatest t) c.args.x in
    let y = magnitude (width t) (greatest t) c.args.y in
    ap₂ (λ a b. a / b) c.magnitude.ensures c.magnitude-2.ensures
    ∙ ap (λ s. cond s ((2 ^ width t - x / y) % 2 ^ width t) (x / y)) (sym (differ_is (nat_lt (greatest t) c.args.x) (nat_lt (greatest t) c.args.y) true (ap₂ beq (sym c.is_negative.ensures) (sym c.is_negative-2.ensures) ∙ c.if-is_negative.true)))
    ∙ word_div t c.args.x c.args.y c.requires.x_fits c.requires.y_fits c.requires.divisor

pub returns-else-is_negative : goal.returns-else-is_negative
returns-else-is_negative c =
    let t = c.args.elem in
    let x = magnitude (width t) (greatest t) c.args.x in
    let y = magnitude (width t) (greatest t) c.args.y in
    c.negate.ensures ∙ ap₂ (λ a b. (2 ^ width t - a / b) % 2 ^ width t) c.magnitude.ensures c.magnitude-2.ensures
    ∙ ap (λ s. cond s ((2 ^ width t - x / y) % 2 ^ width t) (x / y)) (sym (differ_is (nat_lt (greatest t) c.args.x) (nat_lt (greatest t) c.args.y) false (ap₂ beq (sym c.is_negative.ensures) (sym c.is_negative-2.ensures) ∙ c.if-is_negative.false)))
    ∙ word_div t c.args.x c.args.y c.requires.x_fits c.requires.y_fits c.requires.divisor
