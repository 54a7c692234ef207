use Rattle.std.proofs.Common.{◌≡◌, ◌-◌, ◌<◌, ℕ, suc, length, get_or, ap, sym, subst, ◌∙◌, arith, true, false}
use Rattle.std.proofs.lemmas.Bool.{not-true}
use Rattle.std.specs.Prelude.{int_lt}
use Rattle.isp_base.specs.Types.{gang_width}
use Rattle.isp_gang_values.specs.Left.{runs_left}
use Rattle.isp_gang_values.proofs.Left.{carry_left, within_carried, within_from, carried_long}
use Rattle.isp_gang_values.proofs.ranges.carry.Goals as goal

pub loop-place-preserved-then-is_spent : goal.loop-place-preserved-then-is_spent
loop-place-preserved-then-is_spent c =
    let xs = c.loop-place.ranges.items in
    let k = c.loop-place.place - 1 - 1 in
    let e : c.loop-place.place - 1 ≡ suc k = omega (arith, c.loop-place-test.true) in
    let h : suc k < length xs = omega (arith, c.loop-place.invariant.low, c.loop-place-test.true) in
    let spent : int_lt c.index.result.now.next c.index.result.now.end ≡ false = not-true _ (sym c.is_spent.ensures ∙ c.if-is_spent.true) in
    record {
      left = λ g. ap (runs_left (gang_width g)) c.carry_into.ensures ∙ carry_left g k xs c.index.result.now h (subst (λ (n : ℕ). c.index.result.now ≡ get_or xs n c.index.result.now) e c.index.ensures) spent ∙ c.loop-place.invariant.left g;
      within = subst (λ (n : ℕ). within_from n c.carry_into.new.ranges.items ≡ true) (sym e) (ap (within_from (suc k)) c.carry_into.ensures ∙ within_carried k xs);
      low = omega (arith, ap length c.carry_into.ensures, carried_long k xs, c.loop-place.invariant.low);
    }
