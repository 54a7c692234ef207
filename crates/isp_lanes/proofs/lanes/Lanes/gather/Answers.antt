use Rattle.std.proofs.Common.{◌≡◌, ℕ, ◌<◌, ◌^◌, length, sym, ap, ◌∙◌, subst, pow_pos}
use Rattle.std.specs.List.{range_with_len}
use Rattle.std.specs.Simd.Lanes.{zip2}
use Rattle.isp_base.specs.Rows.{Row, Fit}
use Rattle.isp_base.specs.Values.{width}
use Rattle.isp_base.specs.declared.types.Elem.{Elem}
use Rattle.isp_lanes.specs.Held.{held}
use Rattle.isp_lanes.specs.declared.row.Row.{Row as Words}
use Rattle.isp_lanes.proofs.Fits.{settled, zip2_fits}
use Rattle.isp_lanes.proofs.Gathered.{either, row_long}
use Rattle.isp_lanes.proofs.lanes.Lanes.gather.Goals as goal

pub invariant_of-self : goal.invariant_of-self
invariant_of-self g c =
    let n = g.row.N in
    let t = c.self.inside.elem in
    let now : t ≡ c.args.self.now.elem = ap (λ (r : Row). r.elem) c.self.view_is in
    let word = g.S.Source.word c.args.source.now in
    let below : (lane place : ℕ) → word lane place < 2 ^ width t = subst (λ (e : Elem). (lane place : ℕ) → word lane place < 2 ^ width e) (sym now) c.requires in
    let new = zip2 word (range_with_len 0 n) c.args.places.now in
    let all : (length (held c.gather.new.self) ≡ n) × Fit t (held c.gather.new.self) =
    either c.gather.result c.gather.ensures.words c.gather.ensures.same
    (λ e. settled n t c.args.mask.now new (held c.self.inside.row) (held c.gather.new.self) e c.told.ensures.long
    (row_long word n c.args.places.now c.told-places) c.self.invariant.0
    (zip2_fits (2 ^ width t) word (pow_pos (width t)) below (range_with_len 0 n) c.args.places.now) c.self.invariant.2)
    (λ e. subst (λ (r : Words n). (length (held r) ≡ n) × Fit t (held r)) (sym e) (c.self.invariant.0, c.self.invariant.2)) in
    (all.0, c.gather.ensures.wide ∙ c.self.invariant.1, all.1)
