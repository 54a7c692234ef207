use Rattle.std.proofs.Common.{◌≡◌, ℕ, None, List, length, refl, sym, ap, ◌∙◌, subst, unsigned_abs, arith}
use Rattle.std.specs.Simd.Lanes.{put_chunk}
use Rattle.isp_base.specs.Access.{scatter}
use Rattle.isp_base.specs.Arguments.{row_bits}
use Rattle.isp_base.specs.Cross.{run_index, run_outside}
use Rattle.isp_base.specs.Maps.{Lanes, Map, lane_of, on, put}
use Rattle.isp_base.specs.Rows.{Row}
use Rattle.isp_base.specs.Sets.{flag_of, lowest}
use Rattle.isp_base.specs.Values.{number}
use Rattle.isp_base.specs.declared.types.Elem.TheVariants.{I64}
use Rattle.isp_store.specs.Held.{Held, elements, bits_of, size}
use Rattle.isp_store.proofs.PlacesInOrder.{on_same}
use Rattle.isp_store.proofs.RowLists.{handed_back}
use Rattle.isp_store.proofs.Runs.{none_outside, row_left}
use Rattle.isp_store.proofs.arrays.Arrays.store_run.Goals as goal

pub returns-then-is_whole-clause-inside : goal.returns-then-is_whole-clause-inside
returns-then-is_whole-clause-inside g c =
    let a = c.args in
    let w = c.if-is_whole.ensures in
    let count = c.count-count.ensures ∙ ap (λ (rs : List Row). length (row_bits rs a.array)) c.deref.ensures.value ∙ ap (λ (s : Held). size s a.array) c.self.view_is in
    subst (λ (n : ℕ). lowest g.row.N (run_outside n (number I64 a.index) (flag_of a.mask.now)) ≡ None) count
    (none_outside c.count-count.result g.row.N a.index (w.there refl) (w.low refl) (flag_of a.mask.now) g.row.N (omega arith))

pub returns-then-is_whole-clause-elements : goal.returns-then-is_whole-clause-elements
returns-then-is_whole-clause-elements g c =
    let a = c.args in
    let w = c.if-is_whole.ensures in
    let count = c.count-count.ensures ∙ ap (λ (rs : List Row). length (row_bits rs a.array)) c.deref.ensures.value ∙ ap (λ (s : Held). size s a.array) c.self.view_is in
    ap bits_of (handed_back c.self.inside.items.len c.put_row.new.rows c.self.inside.items.items (c.put_row.auto.rows ∙ c.deref_mut.ensures.len)) ∙ c.put_row.ensures.elements
    ∙ ap (λ (rs : List Row). put (bits_of rs) a.array (lane_of (put_chunk a.index (row_bits rs a.array) a.value.now.bits))) (c.deref_mut.ensures.value ∙ ap (λ (s : Held). s.rows) c.self.view_is)
    ∙ ap (λ (f : Lanes). put (elements a.self.now) a.array f)
    (row_left c.count-count.result g.row.N a.index (w.there refl) (w.low refl) a.mask.now c.told.ensures.long (w.on refl) (row_bits a.self.now.rows a.array) a.value.now.bits (sym count) c.told-2.ensures.long)

pub returns-clause-elements : goal.returns-clause-elements
returns-clause-elements g c =
    let a = c.args in
    let m = flag_of a.mask.now in
    let places = on m (lane_of c.run_places.new.places) in
    let values = on m (lane_of a.value.now.bits) in
    ap bits_of (handed_back c.self.inside.items.len c.put_lanes.new.rows c.self.inside.items.items (c.put_lanes.auto.rows ∙ c.deref_mut-2.ensures.len)) ∙ c.put_lanes.ensures.elements
    ∙ ap (λ (rs : List Row). put (bits_of rs) a.array (scatter g.row.N places values (bits_of rs a.array))) c.deref_mut-2.ensures.value
    ∙ ap (λ (s : Held). put (elements s) a.array (scatter g.row.N places values (elements s a.array))) c.self.view_is
    ∙ ap (λ (x : Map). put (elements a.self.now) a.array (scatter g.row.N x values (elements a.self.now a.array))) (on_same m (lane_of c.run_places.new.places) (λ p. unsigned_abs (run_index (number I64 a.index) p)) c.in_ok-run_places.ensures.places)
