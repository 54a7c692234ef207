use Rattle.std.proofs.Common.{sym, ap, ◌∙◌, ◌%◌, ◌^◌}
use Rattle.isp_base.specs.Values.{width, number, convert_bits}
use Rattle.isp_base.proofs.Converts.{truth_is, whole_is, no_truth}
use Rattle.isp_base.proofs.values.convert.Goals as goal

pub returns-in-Bool : goal.returns-in-Bool
returns-in-Bool c =
    c.from.ensures ∙ truth_is c.args.from c.args.bits c.low_bits-low.result c.low_bits-low.ensures
    ∙ ap (λ t. convert_bits t (number c.args.from c.args.bits)) (sym c.in-Bool.is)

pub returns-in_default : goal.returns-in_default
returns-in_default c =
    c.low_bits.ensures ∙ ap (λ n. n % 2 ^ width c.args.to) c.extended.ensures
    ∙ whole_is c.args.from c.args.to c.args.bits c.low_bits-low.result c.low_bits-low.ensures
    ∙ no_truth c.args.to (number c.args.from c.args.bits) c.in_default.not-Bool
