use Rattle.std.proofs.Common.{ℕ, length, sym, ap, ◌∙◌, subst, arith}
use Rattle.std.specs.Prelude.{if◌then◌else◌}
use Rattle.isp_base.specs.Maps.{Lanes}
use Rattle.isp_base.specs.Sets.{flag_of}
use Rattle.isp_cells.specs.Cells.{found, row_word}
use Rattle.isp_store.specs.LaneRows.{lists, rows_width, AreRows}
use Rattle.isp_store.specs.Own.{own, size}
use Rattle.isp_cells.proofs.Indices.{on_there, past_end}
use Rattle.isp_store.proofs.Own.{own_rows, rows_long, are_cleared, all_cleared, cleared_count}
use Rattle.isp_store.proofs.lane_array.LaneArray.clear.Goals as goal

pub invariant_of-self : goal.invariant_of-self
invariant_of-self g c =
    let n = g.row.N in
    let t = c.self.inside.elem in
    let w = rows_width c.self.inside.rows in
    let xss = lists c.self.inside.rows in
    subst (λ (k : ℕ). AreRows n k t (lists c.clear.new.self)) (sym c.clear.ensures.wide)
    (subst (AreRows n w t) (sym c.clear.ensures.lists) (are_cleared n (flag_of c.args.mask.now) w t (length xss) xss c.self.invariant))

pub returns-clause-size : goal.returns-clause-size
returns-clause-size g c =
    let t = c.self.inside.elem in
    let xss = lists c.self.inside.rows in
    rows_long t (lists c.clear.new.self) ∙ ap length c.clear.ensures.lists ∙ cleared_count g.row.N (flag_of c.args.mask.now) (length xss) xss ∙ sym (rows_long t xss) ∙ ap size c.self.view_is

pub returns-clause-elements : goal.returns-clause-elements
returns-clause-elements g c =
    let a = c.args in
    let n = g.row.N in
    let t = c.self.inside.elem in
    let xss = lists c.self.inside.rows in
    let m = flag_of a.mask.now in
    own_rows t (lists c.clear.new.self) ∙ ap (found row_word) c.clear.ensures.lists
    ∙ all_cleared n m (λ p is. on_there a.mask.now n p c.told.ensures.long is) (λ p h. past_end a.mask.now p (omega (arith, h, c.told.ensures.long))) (rows_width c.self.inside.rows) t xss c.self.invariant
    ∙ ap (λ (f : ℕ → Lanes). λ (e p : ℕ). if m p then 0 else f e p) (sym (own_rows t xss) ∙ ap own c.self.view_is)
