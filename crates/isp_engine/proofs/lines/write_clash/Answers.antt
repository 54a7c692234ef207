use Rattle.std.proofs.Common.{subst}
use Rattle.isp_engine.specs.Told.{Wrote}
use Rattle.isp_engine.proofs.Pieces.{clash_line_is}
use Rattle.isp_engine.proofs.lines.write_clash.Goals as goal

pub returns : goal.returns
returns g c =
    subst (λ z. Wrote z (g.W.Sink.written c.args.out.now) (g.W.Sink.written c.write_pieces.new.out) (g.W.Sink.has_failed c.write_pieces.new.out) c.write_pieces.result)
    (clash_line_is c.args.name.now c.args.element _ c.format.ensures.text) c.write_pieces.ensures
