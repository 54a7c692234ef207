use Rattle.std.proofs.Common.{◌≡◌, sym, ap, ◌∙◌, subst, ◌<◌, [], length, Some, None, List}
use Rattle.std.specs.Prelude.{IfOk, IfErr}
use Rattle.std.proofs.Math.ListN.{length-set}
use Rattle.std.proofs.lemmas.List.{get_or_read}
use Rattle.isp_base.specs.Access.{is_outside, element}
use Rattle.isp_base.specs.Maps.{lane_of, on, over, each1, lowest_failing}
use Rattle.isp_base.specs.Rows.{Row}
use Rattle.isp_base.specs.Sets.{flag_of}
use Rattle.isp_base.specs.declared.types.Elem.TheVariants.{I64}
use Rattle.isp_lanes.specs.Lanes.{vector}
use Rattle.isp_frames.specs.Arrays.{array_count, array_found, array_in}
use Rattle.isp_frames.specs.Rows.{FrameRows}
use Rattle.isp_frames.specs.Views.{masks_at, vectors_at, no_array}
use Rattle.isp_frames.proofs.Rewrites.{along, written_back}
use Rattle.isp_frames.proofs.frame.Frame.gather.Goals as goal

pub returns-clause-inside : goal.returns-clause-inside
returns-clause-inside g c =
    let low : c.args.a < length c.self.inside.arrays.items = subst (λ (f : FrameRows). c.args.a < length f.arrays) (sym c.self.view_is) c.requires.a in
    let low_k : c.args.k < length c.self.inside.masks.items = subst (λ (f : FrameRows). c.args.k < length f.masks) (sym c.self.view_is) c.requires.k in
    let array = get_or_read c.self.inside.arrays.items c.args.a _ low c.index-array.ensures (no_array 0) ∙ (λ j. array_in (c.self.view_is j) c.args.a) in
    let mask = ap flag_of (get_or_read c.self.inside.masks.items c.args.k _ low_k c.index-mask.ensures []) ∙ (λ j. masks_at (c.self.view_is j) c.args.k) in
    let index = ap (λ (rs : List Row). lane_of (vector rs c.args.i).bits) c.deref_mut.ensures.value ∙ (λ j. vectors_at (c.self.view_is j) c.args.i) in
    along (λ j. IfOk c.gather.result (λ _. lowest_failing g.row.N (is_outside I64 (array_count c.args.stores.now (array j))) (on (mask j) (index j)) ≡ None)) c.gather.ensures.inside

pub returns-clause-lanes : goal.returns-clause-lanes
returns-clause-lanes g c =
    let low : c.args.a < length c.self.inside.arrays.items = subst (λ (f : FrameRows). c.args.a < length f.arrays) (sym c.self.view_is) c.requires.a in
    let low_k : c.args.k < length c.self.inside.masks.items = subst (λ (f : FrameRows). c.args.k < length f.masks) (sym c.self.view_is) c.requires.k in
    let array = get_or_read c.self.inside.arrays.items c.args.a _ low c.index-array.ensures (no_array 0) ∙ (λ j. array_in (c.self.view_is j) c.args.a) in
    let mask = ap flag_of (get_or_read c.self.inside.masks.items c.args.k _ low_k c.index-mask.ensures []) ∙ (λ j. masks_at (c.self.view_is j) c.args.k) in
    let index = ap (λ (rs : List Row). lane_of (vector rs c.args.i).bits) c.deref_mut.ensures.value ∙ (λ j. vectors_at (c.self.view_is j) c.args.i) in
    let old = ap (λ (rs : List Row). lane_of (vector rs c.args.d).bits) c.deref_mut.ensures.value ∙ (λ j. vectors_at (c.self.view_is j) c.args.d) in
    let len : length c.gather.new.vectors ≡ c.self.inside.vectors.len = ap length c.gather.ensures.others ∙ length-set c.deref_mut.result.now c.args.d _ ∙ c.deref_mut.ensures.len in
    let new = ap (λ (rs : List Row). lane_of (vector rs c.args.d).bits) (sym (written_back c.self.inside.vectors.len c.gather.new.vectors _ len)) in
    along (λ j. IfOk c.gather.result (λ _. new j ≡ over (λ p. each1 (λ x. array_found c.args.stores.now (array j) (element I64 x) p) (on (mask j) (index j) p)) (old j))) c.gather.ensures.lanes

pub returns-clause-lowest : goal.returns-clause-lowest
returns-clause-lowest g c =
    let low : c.args.a < length c.self.inside.arrays.items = subst (λ (f : FrameRows). c.args.a < length f.arrays) (sym c.self.view_is) c.requires.a in
    let low_k : c.args.k < length c.self.inside.masks.items = subst (λ (f : FrameRows). c.args.k < length f.masks) (sym c.self.view_is) c.requires.k in
    let array = get_or_read c.self.inside.arrays.items c.args.a _ low c.index-array.ensures (no_array 0) ∙ (λ j. array_in (c.self.view_is j) c.args.a) in
    let mask = ap flag_of (get_or_read c.self.inside.masks.items c.args.k _ low_k c.index-mask.ensures []) ∙ (λ j. masks_at (c.self.view_is j) c.args.k) in
    let index = ap (λ (rs : List Row). lane_of (vector rs c.args.i).bits) c.deref_mut.ensures.value ∙ (λ j. vectors_at (c.self.view_is j) c.args.i) in
    along (λ j. IfErr c.gather.result (λ t. lowest_failing g.row.N (is_outside I64 (array_count c.args.stores.now (array j))) (on (mask j) (index j)) ≡ Some t.instance)) c.gather.ensures.lowest
