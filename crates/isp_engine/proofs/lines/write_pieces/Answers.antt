use Rattle.std.proofs.Common.{[], refl, sym, arith}
use Rattle.std.proofs.lemmas.Result.{err_from_is_err_and}
use Rattle.isp_output.proofs.Written.{adds_nil, took_both}
use Rattle.isp_engine.proofs.Told.{piece_cut, piece_next, pieces_all}
use Rattle.isp_engine.proofs.lines.write_pieces.Goals as goal

pub loop-piece-init : goal.loop-piece-init
loop-piece-init g c = record { done = []; whole = refl; took = (sym (adds_nil _), c.requires) }

pub returns-in_err-write_all : goal.returns-in_err-write_all
returns-in_err-write_all g c =
    let p = err_from_is_err_and c.from_residual.result c.from_residual.ensures.1 in
    rw p.1
    (piece_cut (λ piece. piece.now) c.args.pieces.now c.loop-piece.piece-index _ c.loop-piece-test.true _ _ c.loop-piece.invariant.whole _ c.as_bytes.ensures.value _ _ _ _ _ c.loop-piece.invariant.took c.in_err-write_all.ensures.err)

pub loop-piece-preserved : goal.loop-piece-preserved
loop-piece-preserved g c = record {
  done = _;
  whole = piece_next (λ piece. piece.now) c.args.pieces.now c.loop-piece.piece-index _ c.loop-piece-test.true _ _ c.loop-piece.invariant.whole _ c.as_bytes.ensures.value;
  took = took_both _ _ _ _ _ _ _ c.loop-piece.invariant.took c.in_ok-write_all.ensures.ok;
}

pub returns : goal.returns
returns g c =
    pieces_all (λ piece. piece.now) c.args.pieces.now c.loop-piece.piece-index (omega (arith, c.loop-piece-test.false)) _ _ c.loop-piece.invariant.whole _ _ _ c.loop-piece.invariant.took
