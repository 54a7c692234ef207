use Rattle.std.proofs.Common.{List, ap, ◌∙◌}
use Rattle.isp_base.specs.Access.{element, scatter}
use Rattle.isp_base.specs.Maps.{lane_of, map1, on, put}
use Rattle.isp_base.specs.Rows.{Row}
use Rattle.isp_base.specs.Sets.{flag_of}
use Rattle.isp_base.specs.declared.types.Elem.TheVariants.{I64}
use Rattle.isp_store.specs.Held.{Held, elements, bits_of}
use Rattle.isp_cells.proofs.Found.{both_ok}
use Rattle.isp_store.proofs.RowLists.{handed_back}
use Rattle.isp_store.proofs.arrays.Arrays.scatter.Goals as goal

pub returns-clause-elements : goal.returns-clause-elements
returns-clause-elements g c =
    let a = c.args in
    let m = flag_of a.mask.now in
    let places = map1 (element I64) (on m (lane_of a.index.now.bits)) in
    let values = on m (lane_of a.value.now.bits) in
    both_ok c.scatter.result c.scatter.ensures.elements c.scatter.ensures.elements
    (λ e _.
    ap bits_of (handed_back c.self.inside.items.len c.scatter.new.rows c.self.inside.items.items (c.scatter.auto.rows ∙ c.deref_mut.ensures.len)) ∙ e
    ∙ ap (λ (rs : List Row). put (bits_of rs) a.array (scatter g.row.N places values (bits_of rs a.array))) c.deref_mut.ensures.value
    ∙ ap (λ (s : Held). put (elements s) a.array (scatter g.row.N places values (elements s a.array))) c.self.view_is)
