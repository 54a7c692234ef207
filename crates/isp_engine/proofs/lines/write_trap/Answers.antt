use Rattle.std.proofs.Common.{subst}
use Rattle.isp_engine.specs.Told.{Wrote}
use Rattle.isp_engine.proofs.Pieces.{trap_line}
use Rattle.isp_engine.proofs.lines.write_trap.Goals as goal

pub returns : goal.returns
returns g c =
    subst (λ z. Wrote z (g.W.Sink.written c.args.out.now) (g.W.Sink.written c.write_pieces.new.out) (g.W.Sink.has_failed c.write_pieces.new.out) c.write_pieces.result)
    (trap_line c.args.trap _ _ _ _ c.kind_name.ensures c.format.ensures.text c.format-2.ensures.text c.format-3.ensures.text) c.write_pieces.ensures
