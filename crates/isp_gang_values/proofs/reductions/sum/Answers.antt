use Rattle.std.proofs.Common.{◌≡◌, subst, sym, ap, ap₂, ◌∙◌, ◌≤◌, ◌+ℤ◌, arith, FitsSigned, None, Some}
use Rattle.std.specs.Int.{w128}
use Rattle.std.proofs.lemmas.Int.{to_z-of_z}
use Rattle.isp_base.specs.Types.{gang_width, widest}
use Rattle.isp_base.specs.Values.{wrap}
use Rattle.isp_gang_values.specs.Seen.{map_of}
use Rattle.isp_base.proofs.Gangs.{few_width}
use Rattle.isp_gang_values.proofs.Sums.{sum_below, sum_fits, sum_next}
use Rattle.isp_gang_values.proofs.reductions.sum.Goals as goal
use Rattle.isp_gang_values.proofs.reductions.sum.Goals.{in-Some, in_default}

pub overflow_add-total : goal.overflow_add-total
overflow_add-total c =
    let few : c.loop-instance.instance ≤ widest = omega (arith, c.loop-instance-test.true, c.width-instance-end.ensures, few_width c.args.gang) in
    let e = to_z-of_z w128 _ (record { sfits = c.number-total.type_inv }) ∙ c.number-total.ensures in
    subst (FitsSigned w128) (sym (ap₂ (λ a b. a +ℤ b) c.loop-instance.invariant e)) (sum_fits c.args.elem (map_of c.args.row.now) c.loop-instance.instance c.in-Some.bits few)

pub loop-instance-preserved : goal.loop-instance-preserved
loop-instance-preserved c =
    let few : c.loop-instance.instance ≤ widest = omega (arith, c.loop-instance-test.true, c.width-instance-end.ensures, few_width c.args.gang) in
    let x = map_of c.args.row.now in
    let i = c.loop-instance.instance in
    elim c.match-row-instance.branch [
      | in-Some w ↦
          let n = to_z-of_z w128 _ (record { sfits = w.number-total.type_inv }) ∙ w.number-total.ensures in
          let e = ap₂ (λ a b. a +ℤ b) c.loop-instance.invariant n in
          w.total-is
          ∙ to_z-of_z w128 _ (subst (FitsSigned w128) (sym e) (sum_fits c.args.elem x i w.in-Some.bits few))
          ∙ e ∙ sum_next c.args.elem x i (Some w.in-Some.bits) w.in-Some.is
      | in_default w ↦ w.total-is ∙ c.loop-instance.invariant ∙ sum_next c.args.elem x i None w.in_default.is
    ]

pub returns : goal.returns
returns c =
    let n : c.loop-instance.instance ≡ gang_width c.args.gang = omega (arith, c.width-instance-end.ensures, c.loop-instance-test.false, c.loop-instance.auto.instance-end) in
    c.wrap.ensures
    ∙ ap₂ wrap c.widened.ensures (c.loop-instance.invariant ∙ ap (sum_below c.args.elem (map_of c.args.row.now)) n)
