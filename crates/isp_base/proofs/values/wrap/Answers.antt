use Rattle.std.proofs.Common.{ap, ◌∙◌, ◌%◌, ◌^◌, pos, unsigned_abs}
use Rattle.std.proofs.lemmas.Int.{to_z-of_z}
use Rattle.std.specs.Int.{int_rem_euclid, w128}
use Rattle.isp_base.specs.Values.{wrap_to, width}
use Rattle.isp_base.proofs.Words.{wrap_cut}
use Rattle.isp_base.proofs.values.wrap.Goals as goal

pub returns : goal.returns
unfolding wrap_to
returns c =
    let t = c.args.elem in
    c.low_bits.ensures
    ∙ ap (λ n. n % 2 ^ width t) (ap unsigned_abs (to_z-of_z w128 _ (record { sfits = c.rem_euclid.type_inv }) ∙ c.rem_euclid.ensures.value ∙ ap (λ z. int_rem_euclid z (pos (2 ^ 64))) (to_z-of_z w128 _ c.ranges.value)))
    ∙ wrap_cut t _
