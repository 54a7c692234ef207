use Rattle.std.proofs.Common.{arith}
use Rattle.isp_output.proofs.Written.{on_err}
use Rattle.isp_output.proofs.Streams.{adds_all, adds_some, gives_early, last_cut, last_ran, last_some, made_more, some_through, adds_none, started}
use Rattle.isp_output.proofs.streaming.stream.Goals as goal

pub loop-left-init : goal.loop-left-init
loop-left-init g c = record { within = omega arith; fresh = c.requires; made = started _ _; adds = adds_none _ _ _ c.requires }

pub loop-left-preserved : goal.loop-left-preserved
loop-left-preserved g c = record {
  within = omega arith;
  fresh = c.in_ok-stop.ensures.ok.are.1;
  made = made_more _ _ 4096 _ _ _ (omega arith) c.loop-left.invariant.within c.loop-left.invariant.made (rw c.in-Running.is at c.in_ok-stop.ensures.ran).0;
  adds = adds_all _ _ _ _ _ _ _ _ c.loop-left.invariant.adds c.in_ok-stop.ensures.ok;
}

pub returns-in_err-stop-clause-cut : goal.returns-in_err-stop-clause-cut
returns-in_err-stop-clause-cut g c =
    on_err _ (some_through _ _ 4096 _ _ _ (omega (arith, c.loop-left.invariant.within)) c.loop-left.invariant.made c.in_err-stop.ensures.cut)

pub returns-in_err-stop-clause-err : goal.returns-in_err-stop-clause-err
returns-in_err-stop-clause-err g c = on_err _ (adds_some _ _ _ _ _ _ _ _ c.loop-left.invariant.adds c.in_err-stop.ensures.err)

pub returns-in_default : goal.returns-in_default
returns-in_default g c = record {
  ran = gives_early _ _ 4096 _ _ _ _ (omega (arith, c.loop-left.invariant.within)) c.loop-left.invariant.made c.in_ok-stop.ensures.ran c.in_default.not-Running;
  cut = tt;
  ok = adds_all _ _ _ _ _ _ _ _ c.loop-left.invariant.adds c.in_ok-stop.ensures.ok;
  err = tt;
}

pub returns-clause-ran : goal.returns-clause-ran
returns-clause-ran g c = last_ran _ _ _ _ _ c.loop-left.invariant.within c.loop-left.invariant.made _ c.stretch-2.ensures.ran

pub returns-clause-cut : goal.returns-clause-cut
returns-clause-cut g c = last_cut _ _ _ _ _ c.loop-left.invariant.within c.loop-left.invariant.made _ c.stretch-2.ensures.cut

pub returns-clause-err : goal.returns-clause-err
returns-clause-err g c = last_some _ _ _ _ _ _ _ _ c.loop-left.invariant.adds _ c.stretch-2.ensures.err
