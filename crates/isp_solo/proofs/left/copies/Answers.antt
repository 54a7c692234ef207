use Rattle.std.proofs.Common.{arith, subst, sym}
use Rattle.std.proofs.lemmas.List.Elements.{All-append}
use Rattle.std.specs.List.{All}
use Rattle.std.specs.Prelude.{List, [], ◌∷◌}
use Rattle.isp_base.specs.Arguments.{rows}
use Rattle.isp_base.specs.Rows.{Fit, Row}
use Rattle.isp_solo.proofs.Leaving.{copies_more, copies_end}
use Rattle.isp_solo.proofs.left.copies.Goals as goal

pub loop-place-preserved : goal.loop-place-preserved
loop-place-preserved c =
    record {
      same = copies_more c.loop-place.copies.items c.push_copy.new.copies.items (rows c.args.arguments.now) c.loop-place.place c.args.arguments.now
          c.index-arguments-place.result c.loop-place-test.true c.index-arguments-place.is c.in_ok-push_copy.ensures.more c.loop-place.invariant.same;
      fits = subst (λ (rs : List Row). All (λ (r : Row). Fit r.elem r.bits) rs) (sym c.in_ok-push_copy.ensures.more)
          (All-append (λ (r : Row). Fit r.elem r.bits) c.loop-place.copies.items (rows (c.index-arguments-place.result ∷ [])) c.loop-place.invariant.fits c.in_ok-push_copy.ensures.fits);
    }

pub returns-clause-same : goal.returns-clause-same
returns-clause-same c = copies_end c.loop-place.copies.items (rows c.args.arguments.now) c.loop-place.place c.args.arguments.now (omega (arith, c.loop-place-test.false)) c.loop-place.invariant.same
