use Rattle.std.proofs.Common.{ap, refl, length, ◌∙◌, arith, true, false}
use Rattle.isp_base.specs.Maps.{put}
use Rattle.isp_gang_values.proofs.Vectors.{padded_all, pushed, written, longer}
use Rattle.isp_solo_run.specs.Arrays.{marks_of}
use Rattle.isp_solo_run.proofs.arrays.mark.Goals as goal

pub loop-next-preserved : goal.loop-next-preserved
loop-next-preserved c =
    record {
      same = ap marks_of c.in_ok-push.ensures.items ∙ padded_all (λ x. x) false c.loop-next.marks.items false refl ∙ c.loop-next.invariant.same;
      long = ap length c.in_ok-push.ensures.items ∙ longer c.loop-next.marks.items false c.loop-next._next c.loop-next.invariant.long;
    }

pub returns-then-place-len : goal.returns-then-place-len
returns-then-place-len c = written (λ x. x) false c.loop-next.marks.items true c.args.place (omega (arith, c.if-place-len.true, c.len.ensures)) ∙ ap (λ f. put f c.args.place true) c.loop-next.invariant.same

pub returns-in_ok-push-2 : goal.returns-in_ok-push-2
returns-in_ok-push-2 c =
    ap marks_of c.in_ok-push-2.ensures.items
    ∙ pushed (λ x. x) false c.loop-next.marks.items true c.args.place (omega (arith, c.loop-next.invariant.long, c.loop-next-test.false, c.if-place-len.false, c.len.ensures))
    ∙ ap (λ f. put f c.args.place true) c.loop-next.invariant.same
