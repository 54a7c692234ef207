use Rattle.std.proofs.Common.{◌≡◌, sym, ap, ◌∙◌, subst, ◌<◌, [], length, unsigned_abs}
use Rattle.std.specs.Prelude.{IfOk}
use Rattle.std.proofs.lemmas.List.{get_or_read, get_or-set_same}
use Rattle.isp_base.specs.Cross.{run_index}
use Rattle.isp_base.specs.Maps.{lane_of, on, over}
use Rattle.isp_base.specs.Rows.{Row}
use Rattle.isp_base.specs.Sets.{flag_of}
use Rattle.isp_base.specs.Values.{number}
use Rattle.isp_base.specs.declared.types.Elem.TheVariants.{I64}
use Rattle.isp_lanes.specs.Lanes.{no_row}
use Rattle.isp_store.specs.Held.{elements}
use Rattle.isp_frames.specs.Rows.{FrameRows}
use Rattle.isp_frames.specs.Views.{masks_at, vectors_at}
use Rattle.isp_frames.proofs.Rewrites.{along}
use Rattle.isp_frames.proofs.frame.Frame.load_run.Goals as goal

pub returns-clause-lanes : goal.returns-clause-lanes
returns-clause-lanes g c =
    let a = c.args in
    let low : a.d < length c.self.inside.vectors.items = subst (λ (f : FrameRows). a.d < length f.vectors) (sym c.self.view_is) c.requires.d in
    let low_k : a.k < length c.self.inside.masks.items = subst (λ (f : FrameRows). a.k < length f.masks) (sym c.self.view_is) c.requires.k in
    let mask = ap flag_of (get_or_read c.self.inside.masks.items a.k _ low_k c.index-mask.ensures []) ∙ (λ j. masks_at (c.self.view_is j) a.k) in
    let old = ap (λ (r : Row). lane_of r.bits) (get_or_read c.self.inside.vectors.items a.d _ low c.index_mut.ensures.value no_row) ∙ (λ j. vectors_at (c.self.view_is j) a.d) in
    let new = ap (λ (r : Row). lane_of r.bits) (sym (get_or-set_same c.self.inside.vectors.items a.d c.load_run.new.into no_row low)) in
    along (λ j. IfOk c.load_run.result (λ _. new j ≡ over (on (mask j) (λ p. elements a.stores.now a.store (unsigned_abs (run_index (number I64 a.index) p)))) (old j))) c.load_run.ensures.lanes
