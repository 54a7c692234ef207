use Rattle.std.proofs.Common.{◌≡◌, ◌++◌, ℕ, List, drop}
use Rattle.std.specs.Prelude.{flat_map}
use Rattle.isp_output.specs.Sinks.{TookAll}
use Rattle.isp_engine.proofs.lines.write_pieces.Given as goal

abbrev pub invariant-loop-piece : goal.invariant-loop-piece
invariant-loop-piece g l = record {
  done : List ℕ;
  whole : done ++ flat_map (λ piece. piece.now) (drop l.piece-index l.pieces) ≡ flat_map (λ piece. piece.now) l.pieces;
  took : TookAll done (g.W.Sink.written l.initial.out) (g.W.Sink.written l.out) (g.W.Sink.has_failed l.out);
}
