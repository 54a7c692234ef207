use Rattle.std.proofs.Common.{◌≡◌, ◌+◌, ◌-◌, ◌<◌, ℕ, suc, List, get_or, length, ap, sym, subst, ◌∙◌, arith, w64, to_z, of_z}
use Rattle.std.proofs.lemmas.Int.{to_z-of_z}
use Rattle.std.proofs.Math.ListN.{set}
use Rattle.isp_gang_values.specs.declared.ranges.Range.{Range}
use Rattle.isp_gang_values.proofs.Left.{restarted_to, none_restarted, one_restarted}
use Rattle.isp_gang_values.proofs.ranges.reset.Goals as goal

pub loop-place-init : goal.loop-place-init
loop-place-init c =
    let e : c.args.from - c.args.from ≡ 0 = omega arith in
    sym (ap (λ (n : ℕ). restarted_to c.args.from n c.args.ranges.now.items) e ∙ none_restarted c.args.from c.args.ranges.now.items)

pub loop-place-preserved : goal.loop-place-preserved
loop-place-preserved c =
    let f = c.args.from in
    let xs = c.args.ranges.now.items in
    let k = c.loop-place.place in
    let inv = c.loop-place.invariant in
    let e : k ≡ f + (k - f) = omega (arith, c.loop-place.auto.place) in
    let h : k < length xs = omega (arith, c.loop-place-test.true, c.len-place-end.ensures) in
    let more : k + 1 - f ≡ suc (k - f) = omega (arith, c.loop-place.auto.place) in
    ap (λ (ys : List Range). set ys k (record c.index_mut.result.now { next = to_z w64 (of_z w64 c.restart-next.result) })) inv
    ∙ one_restarted f (k - f) k xs c.index.result.now c.index_mut.result.now _ e h
    (subst (λ (ys : List Range). c.index.result.now ≡ get_or ys k c.index.result.now) inv c.index.ensures)
    (subst (λ (ys : List Range). c.index_mut.result.now ≡ get_or ys k c.index_mut.result.now) inv c.index_mut.ensures.value)
    (to_z-of_z w64 c.restart-next.result (record { sfits = c.restart-next.type_inv }) ∙ c.restart-next.ensures)
    ∙ ap (λ (n : ℕ). restarted_to f n xs) (sym more)
