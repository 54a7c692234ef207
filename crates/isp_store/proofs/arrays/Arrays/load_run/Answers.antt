use Rattle.std.proofs.Common.{◌≡◌, ℕ, None, List, length, refl, sym, ap, ◌∙◌, subst, unsigned_abs, arith}
use Rattle.std.specs.Simd.Lanes.{chunk}
use Rattle.isp_base.specs.Arguments.{row_bits}
use Rattle.isp_base.specs.Cross.{run_index, run_outside}
use Rattle.isp_base.specs.Maps.{Map, lane_of, map1, on, over}
use Rattle.isp_base.specs.Rows.{Row}
use Rattle.isp_base.specs.Sets.{flag_of, lowest}
use Rattle.isp_base.specs.Values.{number}
use Rattle.isp_base.specs.declared.types.Elem.TheVariants.{I64}
use Rattle.isp_store.specs.Held.{Held, elements, bits_of, size}
use Rattle.isp_store.proofs.PlacesInOrder.{map1_same}
use Rattle.isp_store.proofs.Runs.{none_outside, row_read}
use Rattle.isp_store.proofs.arrays.Arrays.load_run.Goals as goal

pub returns-then-is_whole-clause-inside : goal.returns-then-is_whole-clause-inside
returns-then-is_whole-clause-inside g c =
    let a = c.args in
    let w = c.if-is_whole.ensures in
    let count = c.count-count.ensures ∙ ap (λ (rs : List Row). length (row_bits rs a.array)) c.deref.ensures.value ∙ ap (λ (s : Held). size s a.array) c.self.view_is in
    subst (λ (n : ℕ). lowest g.row.N (run_outside n (number I64 a.index) (flag_of a.mask.now)) ≡ None) count
    (none_outside c.count-count.result g.row.N a.index (w.there refl) (w.low refl) (flag_of a.mask.now) g.row.N (omega arith))

pub returns-then-is_whole-clause-lanes : goal.returns-then-is_whole-clause-lanes
returns-then-is_whole-clause-lanes g c =
    let a = c.args in
    let w = c.if-is_whole.ensures in
    let rows = c.deref-then-is_whole.ensures.value ∙ ap (λ (s : Held). s.rows) c.self.view_is in
    let count = c.count-count.ensures ∙ ap (λ (rs : List Row). length (row_bits rs a.array)) c.deref.ensures.value ∙ ap (λ (s : Held). size s a.array) c.self.view_is in
    ap (λ (r : Row). lane_of r.bits) c.load_row.ensures
    ∙ ap (λ (rs : List Row). lane_of (chunk a.index g.row.N (row_bits rs a.array))) rows
    ∙ row_read c.count-count.result g.row.N a.index (w.there refl) (w.low refl) a.mask.now c.told.ensures.long (w.on refl) (row_bits a.self.now.rows a.array) a.into.now.bits (sym count) c.told-2.ensures.long

pub returns-clause-lanes : goal.returns-clause-lanes
returns-clause-lanes g c =
    let a = c.args in
    let m = flag_of a.mask.now in
    c.load_lanes.ensures.lanes
    ∙ ap (λ (rs : List Row). over (map1 (bits_of rs a.array) (on m (lane_of c.run_places.new.places))) (lane_of a.into.now.bits)) c.deref-2.ensures.value
    ∙ ap (λ (s : Held). over (map1 (elements s a.array) (on m (lane_of c.run_places.new.places))) (lane_of a.into.now.bits)) c.self.view_is
    ∙ ap (λ (x : Map). over x (lane_of a.into.now.bits)) (map1_same (elements a.self.now a.array) m (lane_of c.run_places.new.places) (λ p. unsigned_abs (run_index (number I64 a.index) p)) c.in_ok-run_places.ensures.places)
