use Rattle.std.proofs.Common.{sym, ap, ◌∙◌, subst, ◌<◌, [], length}
use Rattle.std.specs.Prelude.{if◌then◌else◌}
use Rattle.std.proofs.lemmas.List.{get_or_read, get_or-set_same}
use Rattle.isp_base.specs.Sets.{flag_of}
use Rattle.isp_frames.specs.Arrays.{Rewritten, array_in}
use Rattle.isp_frames.specs.Rows.{FrameRows}
use Rattle.isp_frames.specs.Views.{masks_at, no_array}
use Rattle.isp_frames.proofs.Rewrites.{along}
use Rattle.isp_frames.proofs.frame.Frame.clear.Goals as goal

pub returns-clause-written : goal.returns-clause-written
returns-clause-written g c =
    let arrays = c.self.inside.arrays.items in
    let masks = c.self.inside.masks.items in
    let low : c.args.a < length arrays = subst (λ (f : FrameRows). c.args.a < length f.arrays) (sym c.self.view_is) c.requires.a in
    let low_mask : c.args.k < length masks = subst (λ (f : FrameRows). c.args.k < length f.masks) (sym c.self.view_is) c.requires.k in
    let array = get_or_read arrays c.args.a _ low c.index_mut.ensures.value (no_array 0) ∙ (λ j. array_in (c.self.view_is j) c.args.a) in
    let mask = ap flag_of (get_or_read masks c.args.k _ low_mask c.index-mask.ensures []) ∙ (λ j. masks_at (c.self.view_is j) c.args.k) in
    let new = sym (get_or-set_same arrays c.args.a c.clear.new.self (no_array 0) low) in
    along (λ j. Rewritten c.args.stores.now (array j) c.clear.new.stores (new j) (λ f e. 0) (λ f e p. if mask j p then 0 else f e p)) c.clear.ensures
