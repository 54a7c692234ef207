use Rattle.std.proofs.Common.{sym, ap, ◌∙◌}
use Rattle.std.specs.Prelude.{if◌then◌else◌}
use Rattle.isp_base.specs.Maps.{put}
use Rattle.isp_base.specs.Sets.{flag_of}
use Rattle.isp_store.specs.Held.{shapes, elements}
use Rattle.isp_frames.specs.Rows.{Named}
use Rattle.isp_frames.proofs.Rewrites.{by_own, by_store}
use Rattle.isp_frames.proofs.array.FrameArray.clear.Goals as goal
use Rattle.isp_frames.proofs.array.FrameArray.clear.Goals.{in-Some, in-None}

pub returns : goal.returns
returns g c =
    let n = c.args.self.now in
    let s = c.args.stores.now in
    elim c.match-self.branch [
      | in-Some w ↦
          by_own s n c.match-self.stores _ (λ f e. 0) (λ f e p. if flag_of c.args.mask.now p then 0 else f e p) ((λ j. (w.self-inside-is j).store) ∙ ap (λ (m : Named). m.store) c.self.view_is)
          w.in-Some.own w.clear.new.self (ap (λ (m : Named). m.own) (sym c.self.view_is) ∙ w.in-Some.is) (λ j. (w.self-inside-is j).own) w.clear.ensures.elements w.clear.ensures.elem w.clear.ensures.size w.stores-is
      | in-None w ↦
          by_store s n c.match-self.stores _ (λ f e. 0) (λ f e p. if flag_of c.args.mask.now p then 0 else f e p) ((λ j. (w.self-inside-is j).store) ∙ ap (λ (m : Named). m.store) c.self.view_is)
          (ap (λ (m : Named). m.own) (sym c.self.view_is) ∙ w.in-None.is) ((λ j. (w.self-inside-is j).own) ∙ w.in-None.is)
          ((λ j. elements (w.stores-is j)) ∙ w.clear-in-None.ensures.elements ∙ (λ j. put (elements s) (c.self.view_is j).store (λ e. 0))) ((λ j. shapes (w.stores-is j)) ∙ w.clear-in-None.ensures.shapes)
    ]
