use Rattle.std.proofs.Common.{◌≡◌, ◌+◌, ℕ, List, suc, get_or, ap, subst, ◌∙◌, arith, w64, to_z, of_z}
use Rattle.std.proofs.lemmas.Int.{to_z-of_z}
use Rattle.std.proofs.Math.ListN.{set}
use Rattle.isp_gang_values.specs.Left.{restarted}
use Rattle.isp_gang_values.specs.declared.ranges.Range.{Range}
use Rattle.isp_gang_values.proofs.Left.{carry_is}
use Rattle.isp_gang_values.proofs.ranges.carry_into.Goals as goal

pub returns : goal.returns
returns c =
    let xs = c.args.ranges.now.items in
    let k = c.args.place in
    let one : k + 1 ≡ suc k = omega arith in
    let r : c.reset.new.ranges.items ≡ restarted (suc k) xs = c.reset.ensures ∙ ap (λ (n : ℕ). restarted n xs) one in
    ap (λ (ys : List Range). set ys k (record c.index_mut.result.now { next = to_z w64 (of_z w64 c.further-next.result) })) r
    ∙ carry_is k xs c.index.result.now c.index_mut.result.now _ (omega (arith, c.requires))
    (subst (λ (ys : List Range). c.index.result.now ≡ get_or ys k c.index.result.now) r c.index.ensures)
    (subst (λ (ys : List Range). c.index_mut.result.now ≡ get_or ys k c.index_mut.result.now) r c.index_mut.ensures.value)
    (to_z-of_z w64 c.further-next.result (record { sfits = c.further-next.type_inv }) ∙ c.further-next.ensures)
