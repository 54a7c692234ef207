use Rattle.std.proofs.Common.{rules, sym, ◌<◌, ap, ◌∙◌, ℕ, length}
use Rattle.isp_cells.specs.Cells.{found}
use Rattle.isp_cells.proofs.Inside.{IsInside}
use Rattle.isp_cells.proofs.Indices.{inside_is}
use Rattle.isp_cells.proofs.Found.{found_at}
use Rattle.isp_cells.proofs.places.PlacesSource.find.Goals as goal

pub offset_bounds-self-place : goal.offset_bounds-self-place
offset_bounds-self-place g c =
    let a = c.args in
    let h : a.place < length a.self.now.cells.now = (inside_is (length a.self.now.cells.now) a.place c.ranges.place.fits c.requires.inside).0 in
    search rules

pub bounds-self-place : goal.bounds-self-place
bounds-self-place g c =
    let a = c.args in
    (inside_is (length a.self.now.cells.now) a.place c.ranges.place.fits c.requires.inside).0

pub returns : goal.returns
returns g c =
    let a = c.args in
    let cells = a.self.now.cells.now in
    let find = g.C.Cell.find in
    let inside : IsInside (length cells) a.place = inside_is (length cells) a.place c.ranges.place.fits c.requires.inside in
    c.word.ensures.value ∙ sym (found_at find cells a.place a.lane c.index-self-place.result inside.0) ∙ ap (λ (y : ℕ). found find cells y a.lane) (sym inside.1)
