use Rattle.std.proofs.Common.{◌≤◌, List, ap, ◌∙◌, unsigned_abs, arith}
use Rattle.isp_base.specs.Access.{scatter}
use Rattle.isp_base.specs.Cross.{packed_index}
use Rattle.isp_base.specs.Maps.{Map, lane_of, on, put}
use Rattle.isp_base.specs.Rows.{Row}
use Rattle.isp_base.specs.Sets.{flag_of}
use Rattle.isp_base.specs.Values.{number}
use Rattle.isp_base.specs.declared.types.Elem.TheVariants.{I64}
use Rattle.isp_store.specs.Held.{Held, elements, bits_of}
use Rattle.isp_store.proofs.PlacesInOrder.{on_same}
use Rattle.isp_store.proofs.RowLists.{handed_back}
use Rattle.isp_store.proofs.arrays.Arrays.pack_store.Goals as goal

pub returns-clause-elements : goal.returns-clause-elements
returns-clause-elements g c =
    let a = c.args in
    let m = flag_of a.mask.now in
    let places = on m (lane_of c.packed_places.new.places) in
    let values = on m (lane_of a.value.now.bits) in
    ap bits_of (handed_back c.self.inside.items.len c.put_lanes.new.rows c.self.inside.items.items (c.put_lanes.auto.rows ∙ c.deref_mut.ensures.len)) ∙ c.put_lanes.ensures.elements
    ∙ ap (λ (rs : List Row). put (bits_of rs) a.array (scatter g.row.N places values (bits_of rs a.array))) c.deref_mut.ensures.value
    ∙ ap (λ (s : Held). put (elements s) a.array (scatter g.row.N places values (elements s a.array))) c.self.view_is
    ∙ ap (λ (x : Map). put (elements a.self.now) a.array (scatter g.row.N x values (elements a.self.now a.array)))
    (on_same m (lane_of c.packed_places.new.places) (λ p. unsigned_abs (packed_index (number I64 a.index) (flag_of a.mask.now) p))
    c.in_ok-stored.ensures.places)

pub returns-clause-few : goal.returns-clause-few
returns-clause-few g c =
    let low : c.in_ok-stored.stored ≤ g.row.N = c.in_ok-stored.ensures.few in
    let few : g.row.N ≤ 64 = c.told.ensures.wide in
    omega (arith, low, few)
