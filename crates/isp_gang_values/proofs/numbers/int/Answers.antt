use Rattle.std.proofs.Common.{sym, subst, ◌∙◌, arith, ℕ, ℤ, pos, negsuc, FitsSigned, w32}
use Rattle.std.specs.Int.{w128}
use Rattle.std.proofs.lemmas.Int.{ints, to_z-of_z}
use Rattle.isp_base.specs.Ranges.{IsSigned}
use Rattle.isp_base.specs.Values.{number}
use Rattle.isp_base.specs.declared.types.Elem.TheVariants.{I32}
use Rattle.isp_gang_values.proofs.Wholes.{number_is_value}
use Rattle.isp_gang_values.proofs.numbers.int.Goals as goal

of_32 : (z : ℤ) → IsSigned 31 z → FitsSigned w32 z
of_32 (pos n) v = record { sfits = omega (arith, ints, v.1) }
of_32 (negsuc n) v = record { sfits = omega (arith, ints, v.0) }

small : (b : ℕ) → FitsSigned w32 (number I32 b)
small b = of_32 (number I32 b) (number_is_value I32 b)

pub overflow_cast-result : goal.overflow_cast-result
overflow_cast-result c = subst (FitsSigned w32) (sym (to_z-of_z w128 _ (record { sfits = c.number.type_inv }) ∙ c.number.ensures)) (small c.args.bits)

pub returns : goal.returns
returns c =
    let e = to_z-of_z w128 c.number.result (record { sfits = c.number.type_inv }) ∙ c.number.ensures in
    to_z-of_z w32 _ (subst (FitsSigned w32) (sym e) (small c.args.bits)) ∙ e
