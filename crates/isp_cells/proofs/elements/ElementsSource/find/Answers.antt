use Rattle.std.proofs.Common.{sym, ap, ◌∙◌}
use Rattle.isp_cells.proofs.Found.{found_at, found_past}
use Rattle.isp_cells.proofs.elements.ElementsSource.find.Goals as goal

pub returns-in-Some : goal.returns-in-Some
returns-in-Some g c =
    let a = c.args in
    let there = c.in-Some.ensures.lookup in
    c.word.ensures.value ∙ ap (λ x. g.C.Cell.find x a.lane) there.1 ∙ sym (found_at g.C.Cell.find a.self.now.cells.now a.place a.lane c.in-Some.cell.now there.3.0)

pub returns-in-None : goal.returns-in-None
returns-in-None g c = sym (found_past g.C.Cell.find c.args.self.now.cells.now c.args.place c.args.lane c.in-None.ensures.lookup.3)
