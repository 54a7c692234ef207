use Rattle.std.proofs.Common.{◌≡◌, ◌+◌, ◌-◌, ◌≤◌, ℕ, length, sym, ap, ◌∙◌, arith}
use Rattle.std.proofs.lemmas.Simd.{put_chunk_is}
use borrow.Rule.Slice.PartMut.{put_mid}
use Rattle.isp_store.proofs.moves.lay.Goals as goal

pub returns : goal.returns
returns g c =
    let a = c.args in
    let e : a.start + g.row.N - a.start ≡ length a.row.now = omega (arith, c.told-row) in
    let room : a.start + length a.row.now ≤ length a.cells.now = omega (arith, c.told-row, c.requires) in
    ap (λ zs. put_mid a.start (a.start + g.row.N - a.start) a.cells.now zs) c.copy_from_slice.ensures.after
    ∙ ap (λ (k : ℕ). put_mid a.start k a.cells.now a.row.now) e
    ∙ sym (put_chunk_is a.start a.cells.now a.row.now room)
