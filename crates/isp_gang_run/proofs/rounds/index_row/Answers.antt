use Rattle.isp_base.specs.Values.{wrap}
use Rattle.isp_base.specs.declared.types.Elem.TheVariants.{I32}
use Rattle.std.proofs.Common.{subst, ℕ, arith, ◌≡◌, None}
use Rattle.isp_base.specs.Maps.{on}
use Rattle.isp_base.specs.Sets.{flag_of}
use Rattle.isp_base.specs.Types.{widest}
use Rattle.isp_gang_values.proofs.Made.{Made}
use Rattle.isp_gang_values.proofs.Rows.{begun, on_made}
use Rattle.isp_gang_values.specs.Left.{number_now}
use Rattle.isp_gang_run.proofs.rounds.index_row.Goals as goal

pub loop-instance-init : goal.loop-instance-init
loop-instance-init c = begun _

pub returns : goal.returns
returns c =
    let all : c.loop-instance.instance ≡ widest = omega (arith, c.loop-instance-test.false, c.loop-instance.auto.instance-end) in
    on_made c.args.set.now (λ p. wrap I32 (number_now c.args.range.now.next c.args.is_last p)) c.loop-instance.row c.told-set
    (subst (λ (n : ℕ). Made None (on (flag_of c.args.set.now) (λ p. wrap I32 (number_now c.args.range.now.next c.args.is_last p))) c.loop-instance.row n) all c.loop-instance.invariant)
