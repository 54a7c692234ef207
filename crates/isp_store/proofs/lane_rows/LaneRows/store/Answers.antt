use Rattle.std.proofs.Common.{◌≡◌, ap, ap₂, sym, ◌∙◌, List, ℕ, length, rules}
use Rattle.std.proofs.lemmas.List.{with_items_is}
use Rattle.isp_base.specs.Maps.{lane_of}
use Rattle.isp_base.specs.Sets.{flag_of}
use Rattle.isp_lanes.specs.Held.{held}
use Rattle.isp_cells.specs.Cells.{stored, row_with}
use Rattle.isp_store.specs.LaneRows.{lists}
use Rattle.isp_cells.proofs.Found.{from_ok}
use Rattle.isp_store.proofs.lane_rows.LaneRows.store.Goals as goal
use Rattle.isp_store.proofs.lane_rows.LaneRows.store.Goals.{in-Bits8-Bits8, in-Bits16-Bits16, in-Bits32-Bits32, in-Bits64-Bits64}

pub returns-clause-lists : goal.returns-clause-lists
returns-clause-lists g c =
    let left : List ℕ → List (List ℕ) → List (List ℕ) = λ row rows. stored row_with g.row.N (flag_of c.args.mask.now) (lane_of c.args.index.now.bits) (lane_of row) rows in
    elim c.match-self.branch [
      | in-Bits8-Bits8 w ↦
          let long : length w.scattered.new.cells ≡ w.in-Bits8-Bits8.rows.len = search rules in
          let now : lists c.match-self.self ≡ w.scattered.new.cells = ap lists w.self-is ∙ with_items_is w.in-Bits8-Bits8.rows w.scattered.new.cells long in
          from_ok w.scattered.result c.match-self.result w.result-is
          (λ e. now ∙ e ∙ ap₂ left (ap held (sym w.in-Bits8-Bits8.is-1) ∙ c.row.ensures.bits) (w.as_mut_slice.ensures.value ∙ ap lists (sym w.in-Bits8-Bits8.is-0)))
          w.scattered.ensures.words
      | in-Bits16-Bits16 w ↦
          let long : length w.scattered-in-Bits16-Bits16.new.cells ≡ w.in-Bits16-Bits16.rows.len = search rules in
          let now : lists c.match-self.self ≡ w.scattered-in-Bits16-Bits16.new.cells = ap lists w.self-is ∙ with_items_is w.in-Bits16-Bits16.rows w.scattered-in-Bits16-Bits16.new.cells long in
          from_ok w.scattered-in-Bits16-Bits16.result c.match-self.result w.result-is
          (λ e. now ∙ e ∙ ap₂ left (ap held (sym w.in-Bits16-Bits16.is-1) ∙ c.row.ensures.bits) (w.as_mut_slice-in-Bits16-Bits16.ensures.value ∙ ap lists (sym w.in-Bits16-Bits16.is-0)))
          w.scattered-in-Bits16-Bits16.ensures.words
      | in-Bits32-Bits32 w ↦
          let long : length w.scattered-in-Bits32-Bits32.new.cells ≡ w.in-Bits32-Bits32.rows.len = search rules in
          let now : lists c.match-self.self ≡ w.scattered-in-Bits32-Bits32.new.cells = ap lists w.self-is ∙ with_items_is w.in-Bits32-Bits32.rows w.scattered-in-Bits32-Bits32.new.cells long in
          from_ok w.scattered-in-Bits32-Bits32.result c.match-self.result w.result-is
          (λ e. now ∙ e ∙ ap₂ left (ap held (sym w.in-Bits32-Bits32.is-1) ∙ c.row.ensures.bits) (w.as_mut_slice-in-Bits32-Bits32.ensures.value ∙ ap lists (sym w.in-Bits32-Bits32.is-0)))
          w.scattered-in-Bits32-Bits32.ensures.words
      | in-Bits64-Bits64 w ↦
          let long : length w.scattered-in-Bits64-Bits64.new.cells ≡ w.in-Bits64-Bits64.rows.len = search rules in
          let now : lists c.match-self.self ≡ w.scattered-in-Bits64-Bits64.new.cells = ap lists w.self-is ∙ with_items_is w.in-Bits64-Bits64.rows w.scattered-in-Bits64-Bits64.new.cells long in
          from_ok w.scattered-in-Bits64-Bits64.result c.match-self.result w.result-is
          (λ e. now ∙ e ∙ ap₂ left (ap held (sym w.in-Bits64-Bits64.is-1) ∙ c.row.ensures.bits) (w.as_mut_slice-in-Bits64-Bits64.ensures.value ∙ ap lists (sym w.in-Bits64-Bits64.is-0)))
          w.scattered-in-Bits64-Bits64.ensures.words
    ]
