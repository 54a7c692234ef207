use Rattle.std.proofs.Common.{ap, subst, ◌∙◌}
use Rattle.std.specs.Fmt.{decimal}
use Rattle.isp_engine.specs.Told.{Wrote}
use Rattle.isp_engine.proofs.Pieces.{source_line}
use Rattle.isp_engine.proofs.lines.write_source.Goals as goal

pub returns : goal.returns
returns g c =
    subst (λ z. Wrote z (g.W.Sink.written c.args.out.now) (g.W.Sink.written c.write_pieces.new.out) (g.W.Sink.has_failed c.write_pieces.new.out) c.write_pieces.result)
    (source_line c.args.fault _ _ _ _ (c.format.ensures.text ∙ ap decimal c.number.ensures) c.name.ensures c.format-2.ensures.text c.format-3.ensures.text) c.write_pieces.ensures
