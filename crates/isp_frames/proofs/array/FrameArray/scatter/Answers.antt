use Rattle.std.proofs.Common.{sym, ap, ◌∙◌, subst}
use Rattle.std.specs.Prelude.{IfOk}
use Rattle.isp_base.specs.Access.{element, scatter}
use Rattle.isp_base.specs.Maps.{lane_of, on, map1, put}
use Rattle.isp_base.specs.Sets.{flag_of}
use Rattle.isp_base.specs.Stores.{own_put}
use Rattle.isp_base.specs.declared.types.Elem.TheVariants.{I64}
use Rattle.isp_store.specs.Held.{shapes, elements}
use Rattle.isp_frames.specs.Arrays.{Rewritten}
use Rattle.isp_frames.specs.Rows.{Named}
use Rattle.isp_frames.proofs.Rewrites.{by_own, by_store, if_ok}
use Rattle.isp_frames.proofs.array.FrameArray.scatter.Goals as goal
use Rattle.isp_frames.proofs.array.FrameArray.scatter.Goals.{in-Some, in-None}

pub returns-clause-written : goal.returns-clause-written
returns-clause-written g c =
    let n = c.args.self.now in
    let n1 : Named = record { store = c.match-self.self-inside.store; own = c.match-self.self-inside.own } in
    let s = c.args.stores.now in
    let places = map1 (element I64) (on (flag_of c.args.mask.now) (lane_of c.args.index.now.bits)) in
    let shared = scatter g.row.N places (on (flag_of c.args.mask.now) (lane_of c.args.value.now.bits)) in
    let each = own_put places (lane_of c.args.value.now.bits) in
    elim c.match-self.branch [
      | in-Some w ↦
          subst (λ r. IfOk r (λ _. Rewritten s n c.match-self.stores n1 shared each)) (sym w.result-is) (if_ok w.scatter.result w.scatter.ensures.elements (λ _ e.
          by_own s n c.match-self.stores n1 shared each ((λ j. (w.self-inside-is j).store) ∙ ap (λ (m : Named). m.store) c.self.view_is)
          w.in-Some.own w.scatter.new.self (ap (λ (m : Named). m.own) (sym c.self.view_is) ∙ w.in-Some.is) (λ j. (w.self-inside-is j).own) e w.scatter.ensures.elem w.scatter.ensures.size w.stores-is))
      | in-None w ↦
          subst (λ r. IfOk r (λ _. Rewritten s n c.match-self.stores n1 shared each)) (sym w.result-is) (if_ok w.scatter-in-None.result w.scatter-in-None.ensures.elements (λ _ e.
          by_store s n c.match-self.stores n1 shared each ((λ j. (w.self-inside-is j).store) ∙ ap (λ (m : Named). m.store) c.self.view_is)
          (ap (λ (m : Named). m.own) (sym c.self.view_is) ∙ w.in-None.is) ((λ j. (w.self-inside-is j).own) ∙ w.in-None.is)
          ((λ j. elements (w.stores-is j)) ∙ e ∙ (λ j. put (elements s) (c.self.view_is j).store (shared (elements s (c.self.view_is j).store)))) ((λ j. shapes (w.stores-is j)) ∙ w.scatter-in-None.ensures.shapes)))
    ]
