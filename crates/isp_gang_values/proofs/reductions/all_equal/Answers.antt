use Rattle.std.proofs.Common.{◌≡◌, ap, ◌∙◌, ℕ, nat_eq, arith}
use Rattle.isp_base.specs.Cross.{all_of, or_zero}
use Rattle.isp_base.specs.Types.{gang_width}
use Rattle.isp_gang_values.specs.Seen.{map_of}
use Rattle.isp_gang_values.proofs.reductions.all_equal.Goals as goal

pub returns : goal.returns
returns c =
    let n : c.loop-instance.instance ≡ gang_width c.args.gang = omega (arith, c.width-instance-end.ensures, c.loop-instance-test.false, c.loop-instance.auto.instance-end) in
    c.loop-instance.invariant
    ∙ ap (λ k. all_of (λ b. nat_eq b c.or_zero-first.result) k (map_of c.args.row.now)) n
    ∙ ap (λ (f : ℕ). all_of (λ b. nat_eq b f) (gang_width c.args.gang) (map_of c.args.row.now)) (c.or_zero-first.ensures ∙ ap or_zero c.first.ensures)
