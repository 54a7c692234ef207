use Rattle.std.proofs.Common.{◌≤◌, ◌+◌, List, ℕ, length, sym, ap, subst, arith}
use Rattle.isp_base.specs.Held.{held}
use Rattle.isp_base.specs.Rows.{Row, Fit}
use Rattle.isp_base.specs.declared.types.Elem.{Elem}
use Rattle.isp_store.proofs.Runs.{put_fits}
use Rattle.isp_store.proofs.moves.put_row.Goals as goal

pub put_cells-requires-clause-fits : goal.put_cells-requires-clause-fits
put_cells-requires-clause-fits g c =
    let a = c.args in
    let k = c.take_cells-cells in
    let same = ap length k.ensures.words in
    let room : a.start + length a.value.now.bits ≤ length (held k.result) = omega (arith, c.requires.inside, c.told.ensures.long, same) in
    let new : Fit a.array.now.elem a.value.now.bits = subst (λ (e : Elem). Fit e a.value.now.bits) c.requires.elem c.told.ensures.fits in
    subst (λ (e : Elem). Fit e (held c.copy_row.new.cells)) (sym (ap (λ (r : Row). r.elem) k.ensures.left))
    (subst (λ (xs : List ℕ). Fit a.array.now.elem xs) (sym c.copy_row.ensures.held) (put_fits a.array.now.elem (held k.result) k.ensures.fits a.start a.value.now.bits room new))
