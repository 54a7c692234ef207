use Rattle.std.proofs.Common.{sym, ◌∙◌, ◌%◌, ◌^◌, ◌<◌, arith, mod-lt, pow_pos, ltb-true, ltb-false}
use Rattle.std.proofs.lemmas.Int.{ints}
use Rattle.isp_base.specs.Values.{width, greatest}
use Rattle.isp_base.proofs.Elems.{width_le, number_above, number_below}
use Rattle.isp_base.proofs.values.number.Goals as goal

pub returns-then-is_negative : goal.returns-then-is_negative
returns-then-is_negative c =
    let t = c.args.elem in
    let low = c.args.bits % 2 ^ width t in
    let small : low < 2 ^ width t = mod-lt c.args.bits (pow_pos (width t)) in
    let wide = width_le t in
    omega (arith, ints) ∙ sym (number_above (width t) (greatest t) low (omega (arith, c.low_bits-low.ensures, ltb-true _ _ (sym c.is_negative.ensures ∙ c.if-is_negative.true))))

pub returns-else-is_negative : goal.returns-else-is_negative
returns-else-is_negative c =
    let t = c.args.elem in
    let low = c.args.bits % 2 ^ width t in
    let small : low < 2 ^ width t = mod-lt c.args.bits (pow_pos (width t)) in
    let wide = width_le t in
    omega (arith, ints) ∙ sym (number_below (width t) (greatest t) low (omega (arith, c.low_bits-low.ensures, ltb-false _ _ (sym c.is_negative.ensures ∙ c.if-is_negative.false))))
