use Rattle.std.proofs.Common.{subst}
use Rattle.isp_engine.specs.Told.{Wrote}
use Rattle.isp_engine.proofs.Pieces.{turns_line}
use Rattle.isp_engine.proofs.lines.write_turns.Goals as goal

pub returns : goal.returns
returns g c =
    subst (λ z. Wrote z (g.W.Sink.written c.args.out.now) (g.W.Sink.written c.write_pieces.new.out) (g.W.Sink.has_failed c.write_pieces.new.out) c.write_pieces.result)
    (turns_line c.args.instance _ c.format.ensures.text) c.write_pieces.ensures
