use Rattle.std.proofs.Common.{sym, ap, ◌∙◌, ◌^◌, ◌<◌, ◌==◌, arith, bit_and}
use Rattle.isp_base.specs.declared.operators.UnaryOp.TheVariants.{Negate, Invert, Absolute, Not}
use Rattle.isp_base.specs.Values.{width, greatest}
use Rattle.isp_base.proofs.Unaries.{low_fits, unary_at, negate_is, invert_is, word_invert, absolute_is, not_is, bit_of}
use Rattle.isp_base.proofs.unary.apply_unary.Goals as goal

pub returns-in-Negate : goal.returns-in-Negate
returns-in-Negate c =
    let t = c.args.elem in
    let x = c.low_bits-bits.result in
    let small : x < 2 ^ width t = low_fits t c.args.bits x c.low_bits-bits.ensures in
    unary_at Negate c.args.op c.in-Negate.is t c.args.bits x _ c.low_bits-bits.ensures (c.negate.ensures ∙ sym (negate_is (width t) (greatest t) x (omega arith)))

pub returns-in-Invert : goal.returns-in-Invert
returns-in-Invert c =
    let t = c.args.elem in
    let x = c.low_bits-bits.result in
    let small : x < 2 ^ width t = low_fits t c.args.bits x c.low_bits-bits.ensures in
    unary_at Invert c.args.op c.in-Invert.is t c.args.bits x _ c.low_bits-bits.ensures (ap (bit_and _) c.low_mask.ensures ∙ word_invert t x small ∙ sym (invert_is (width t) (greatest t) x small))

pub returns-in-Absolute : goal.returns-in-Absolute
returns-in-Absolute c =
    let t = c.args.elem in
    let x = c.low_bits-bits.result in
    let small : x < 2 ^ width t = low_fits t c.args.bits x c.low_bits-bits.ensures in
    unary_at Absolute c.args.op c.in-Absolute.is t c.args.bits x _ c.low_bits-bits.ensures (c.magnitude.ensures ∙ sym (absolute_is t x small))

pub returns-in-Not : goal.returns-in-Not
returns-in-Not c =
    let t = c.args.elem in
    let x = c.low_bits-bits.result in
    let small : x < 2 ^ width t = low_fits t c.args.bits x c.low_bits-bits.ensures in
    unary_at Not c.args.op c.in-Not.is t c.args.bits x _ c.low_bits-bits.ensures (c.from.ensures ∙ bit_of (x == 0) ∙ sym (not_is t x small))
