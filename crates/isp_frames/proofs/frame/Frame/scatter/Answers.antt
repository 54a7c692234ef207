use Rattle.std.proofs.Common.{◌≡◌, sym, ap, ◌∙◌, subst, ◌<◌, [], length, Some, None, rules}
use Rattle.std.specs.Prelude.{IfOk, IfErr}
use Rattle.std.proofs.lemmas.List.{get_or_read, get_or-set_same}
use Rattle.isp_base.specs.Access.{is_outside, element, scatter}
use Rattle.isp_base.specs.Maps.{lane_of, on, map1, lowest_failing}
use Rattle.isp_base.specs.Rows.{Row}
use Rattle.isp_base.specs.Sets.{flag_of}
use Rattle.isp_base.specs.Stores.{own_put}
use Rattle.isp_base.specs.declared.types.Elem.TheVariants.{I64}
use Rattle.isp_frames.specs.Arrays.{ArrayThere, Rewritten, array_count, array_elem, array_in, vector_in}
use Rattle.isp_frames.specs.Rows.{FrameRows}
use Rattle.isp_lanes.specs.Lanes.{no_row}
use Rattle.isp_frames.specs.Views.{masks_at, vectors_at, no_array}
use Rattle.isp_frames.proofs.Rewrites.{along}
use Rattle.isp_frames.proofs.frame.Frame.scatter.Goals as goal

pub scatter-requires : goal.scatter-requires
scatter-requires g c =
    let low : c.args.a < length c.self.inside.arrays.items = subst (λ (f : FrameRows). c.args.a < length f.arrays) (sym c.self.view_is) c.requires.a in
    let low_i : c.args.i < length c.self.inside.vectors.items = subst (λ (f : FrameRows). c.args.i < length f.vectors) (sym c.self.view_is) c.requires.i in
    let low_y : c.args.y < length c.self.inside.vectors.items = subst (λ (f : FrameRows). c.args.y < length f.vectors) (sym c.self.view_is) c.requires.y in
    let array = sym (get_or_read c.self.inside.arrays.items c.args.a _ low c.index_mut.ensures.value (no_array 0) ∙ (λ j. array_in (c.self.view_is j) c.args.a)) in
    let index = get_or_read c.self.inside.vectors.items c.args.i _ low_i c.index-index.ensures no_row ∙ (λ j. vector_in (c.self.view_is j) c.args.i) in
    let value = get_or_read c.self.inside.vectors.items c.args.y _ low_y c.index-value.ensures no_row ∙ (λ j. vector_in (c.self.view_is j) c.args.y) in (
      search rules,
      (
        search rules,
        (
          search rules,
          (
            along (λ j. ArrayThere c.args.stores.now (array j)) c.requires.there,
            (
              ap (λ (r : Row). r.elem) index ∙ c.requires.index,
              ap (λ (r : Row). r.elem) value ∙ c.requires.elem
                  ∙ (λ j. array_elem c.args.stores.now (array j)),
            ),
          ),
        ),
      ),
    )

pub returns-clause-inside : goal.returns-clause-inside
returns-clause-inside g c =
    let low : c.args.a < length c.self.inside.arrays.items = subst (λ (f : FrameRows). c.args.a < length f.arrays) (sym c.self.view_is) c.requires.a in
    let low_i : c.args.i < length c.self.inside.vectors.items = subst (λ (f : FrameRows). c.args.i < length f.vectors) (sym c.self.view_is) c.requires.i in
    let low_k : c.args.k < length c.self.inside.masks.items = subst (λ (f : FrameRows). c.args.k < length f.masks) (sym c.self.view_is) c.requires.k in
    let array = get_or_read c.self.inside.arrays.items c.args.a _ low c.index_mut.ensures.value (no_array 0) ∙ (λ j. array_in (c.self.view_is j) c.args.a) in
    let index = ap (λ (r : Row). lane_of r.bits) (get_or_read c.self.inside.vectors.items c.args.i _ low_i c.index-index.ensures no_row) ∙ (λ j. vectors_at (c.self.view_is j) c.args.i) in
    let mask = ap flag_of (get_or_read c.self.inside.masks.items c.args.k _ low_k c.index-mask.ensures []) ∙ (λ j. masks_at (c.self.view_is j) c.args.k) in
    along (λ j. IfOk c.scatter.result (λ _. lowest_failing g.row.N (is_outside I64 (array_count c.args.stores.now (array j))) (on (mask j) (index j)) ≡ None)) c.scatter.ensures.inside

pub returns-clause-written : goal.returns-clause-written
returns-clause-written g c =
    let low : c.args.a < length c.self.inside.arrays.items = subst (λ (f : FrameRows). c.args.a < length f.arrays) (sym c.self.view_is) c.requires.a in
    let low_i : c.args.i < length c.self.inside.vectors.items = subst (λ (f : FrameRows). c.args.i < length f.vectors) (sym c.self.view_is) c.requires.i in
    let low_y : c.args.y < length c.self.inside.vectors.items = subst (λ (f : FrameRows). c.args.y < length f.vectors) (sym c.self.view_is) c.requires.y in
    let low_k : c.args.k < length c.self.inside.masks.items = subst (λ (f : FrameRows). c.args.k < length f.masks) (sym c.self.view_is) c.requires.k in
    let array = get_or_read c.self.inside.arrays.items c.args.a _ low c.index_mut.ensures.value (no_array 0) ∙ (λ j. array_in (c.self.view_is j) c.args.a) in
    let index = ap (λ (r : Row). lane_of r.bits) (get_or_read c.self.inside.vectors.items c.args.i _ low_i c.index-index.ensures no_row) ∙ (λ j. vectors_at (c.self.view_is j) c.args.i) in
    let value = ap (λ (r : Row). lane_of r.bits) (get_or_read c.self.inside.vectors.items c.args.y _ low_y c.index-value.ensures no_row) ∙ (λ j. vectors_at (c.self.view_is j) c.args.y) in
    let mask = ap flag_of (get_or_read c.self.inside.masks.items c.args.k _ low_k c.index-mask.ensures []) ∙ (λ j. masks_at (c.self.view_is j) c.args.k) in
    let new = sym (get_or-set_same c.self.inside.arrays.items c.args.a c.scatter.new.self (no_array 0) low) in
    along (λ j. IfOk c.scatter.result (λ _. Rewritten c.args.stores.now (array j) c.scatter.new.stores (new j)
    (scatter g.row.N (map1 (element I64) (on (mask j) (index j))) (on (mask j) (value j)))
    (own_put (map1 (element I64) (on (mask j) (index j))) (value j)))) c.scatter.ensures.written

pub returns-clause-lowest : goal.returns-clause-lowest
returns-clause-lowest g c =
    let low : c.args.a < length c.self.inside.arrays.items = subst (λ (f : FrameRows). c.args.a < length f.arrays) (sym c.self.view_is) c.requires.a in
    let low_i : c.args.i < length c.self.inside.vectors.items = subst (λ (f : FrameRows). c.args.i < length f.vectors) (sym c.self.view_is) c.requires.i in
    let low_k : c.args.k < length c.self.inside.masks.items = subst (λ (f : FrameRows). c.args.k < length f.masks) (sym c.self.view_is) c.requires.k in
    let array = get_or_read c.self.inside.arrays.items c.args.a _ low c.index_mut.ensures.value (no_array 0) ∙ (λ j. array_in (c.self.view_is j) c.args.a) in
    let index = ap (λ (r : Row). lane_of r.bits) (get_or_read c.self.inside.vectors.items c.args.i _ low_i c.index-index.ensures no_row) ∙ (λ j. vectors_at (c.self.view_is j) c.args.i) in
    let mask = ap flag_of (get_or_read c.self.inside.masks.items c.args.k _ low_k c.index-mask.ensures []) ∙ (λ j. masks_at (c.self.view_is j) c.args.k) in
    along (λ j. IfErr c.scatter.result (λ t. lowest_failing g.row.N (is_outside I64 (array_count c.args.stores.now (array j))) (on (mask j) (index j)) ≡ Some t.instance)) c.scatter.ensures.lowest
