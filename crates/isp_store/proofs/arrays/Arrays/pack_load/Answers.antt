use Rattle.std.proofs.Common.{◌≤◌, List, ap, ◌∙◌, unsigned_abs, arith}
use Rattle.isp_base.specs.Cross.{packed_index}
use Rattle.isp_base.specs.Maps.{Map, lane_of, map1, on, over}
use Rattle.isp_base.specs.Rows.{Row}
use Rattle.isp_base.specs.Sets.{flag_of}
use Rattle.isp_base.specs.Values.{number}
use Rattle.isp_base.specs.declared.types.Elem.TheVariants.{I64}
use Rattle.isp_store.specs.Held.{Held, elements, bits_of}
use Rattle.isp_store.proofs.PlacesInOrder.{map1_same}
use Rattle.isp_store.proofs.arrays.Arrays.pack_load.Goals as goal

pub returns-clause-lanes : goal.returns-clause-lanes
returns-clause-lanes g c =
    let a = c.args in
    let m = flag_of a.mask.now in
    c.load_lanes.ensures.lanes
    ∙ ap (λ (rs : List Row). over (map1 (bits_of rs a.array) (on m (lane_of c.packed_places.new.places))) (lane_of a.into.now.bits)) c.deref-2.ensures.value
    ∙ ap (λ (s : Held). over (map1 (elements s a.array) (on m (lane_of c.packed_places.new.places))) (lane_of a.into.now.bits)) c.self.view_is
    ∙ ap (λ (x : Map). over x (lane_of a.into.now.bits)) (map1_same (elements a.self.now a.array) m (lane_of c.packed_places.new.places) (λ p. unsigned_abs (packed_index (number I64 a.index) (flag_of a.mask.now) p)) c.in_ok-count.ensures.places)

pub returns-clause-few : goal.returns-clause-few
returns-clause-few g c =
    let low : c.in_ok-count.count ≤ g.row.N = c.in_ok-count.ensures.few in
    let few : g.row.N ≤ 64 = c.told.ensures.wide in
    omega (arith, low, few)
