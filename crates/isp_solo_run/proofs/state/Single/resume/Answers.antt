use Rattle.std.proofs.Common.{arith}
use Rattle.std.proofs.Common.{sym, ap}
use Rattle.isp_solo_meaning.specs.Answers as Answers
use Rattle.isp_solo_run.specs.Seen.{frame_seen, with_variables}
use Rattle.isp_solo_run.specs.Tasks.{rest, state_seen}
use Rattle.isp_solo_run.specs.declared.activation.Activation.{Activation}
use Rattle.isp_solo_run.proofs.state.Single.resume.Goals as goal

pub returns : goal.returns
returns c =
    let old = c.args.self.now in
    (ap (λ (h : Activation). rest old (record { frame = frame_seen h; left = c.args.left; state = with_variables h (state_seen old); value = old.here.result; how = Answers.Going })) (sym c.into_inner.ensures), omega arith)
