use Rattle.std.proofs.Common.{◌≡◌, refl, sym, ap, ◌∙◌, subst, ◌+◌, List, [], ◌∷◌, ◌++◌, take, Option, Some, rules}
use Rattle.std.specs.Prelude.{slice_get}
use Rattle.std.specs.Option.{option_to_list}
use Rattle.isp_code.specs.declared.instr.Instr.TheVariants as instr
use Rattle.isp_store.specs.Held.{Held}
use Rattle.isp_machine.specs.Receives.{Takes, Receives}
use Rattle.isp_frames.specs.Rows.{FrameRows}
use Rattle.isp_machine.specs.Rows.{RunRows, run_of}
use Rattle.isp_machine.specs.Steps.{Done, Steady}
use Rattle.isp_machine.specs.declared.stop.Step.{Step}
use Rattle.isp_machine.specs.declared.stop.Step.TheVariants.{Went}
use Rattle.isp_machine.proofs.Called.{Runs, runs_of}
use Rattle.isp_machine.proofs.Doing.{called}
use Rattle.isp_machine.proofs.Returned.{takes, back_done}
use Rattle.isp_machine.proofs.returns.give_back.Goals as goal

pub returns-in-Some : goal.returns-in-Some
returns-in-Some g c =
    let h = c.args.here.now in
    let s = c.run.inside.stores in
    let f = c.run.inside.frame in
    let ws = c.run.inside.waiting.items in
    let found = subst (λ (z : RunRows). slice_get h.code.routines z.frame.function ≡ Some h.routine) (sym c.run.view_is) c.requires.found in
    let sound = subst (λ (z : RunRows). Steady g.row.N h.code z) (sym c.run.view_is) c.requires.sound in
    let left = c.pop.new.self.items in
    let fr = c.in-Some.caller in
    let new = c.receive.new.caller in
    let seen : ws ≡ c.run-inside.inside.0.1.0.items = search rules in
    let seam : ws ≡ left ++ fr ∷ [] = seen ∙ c.pop.ensures.items ∙ ap (λ (o : Option FrameRows). left ++ option_to_list o) c.in-Some.is in
    let runs = subst (Runs g.row.N h s f) seam (runs_of g.row.N h s f ws found sound) in
    let into : c.deref_mut.result.now ≡ fr = search rules in
    let callee : c.deref-in-Some.result.now ≡ f = search rules in
    let locals : c.locals.result ≡ new.locals = search rules in
    let got = subst (λ (z : FrameRows). (t : Takes h.routine z) → Receives t.routine f c.args.x z new) into
    (subst (λ (z : FrameRows). (t : Takes h.routine c.deref_mut.result.now) → Receives t.routine z c.args.x c.deref_mut.result.now new) callee c.receive.ensures) in
    let kept : c.run-inside-in-Some.inside.0.1.1.0 ≡ s = search rules in
    let stores = c.close_locals.ensures ∙ ap (λ (z : Held). record z { rows = take (z.params + c.locals.result) z.rows }) kept
    ∙ ap (λ k. record s { rows = take (s.params + k) s.rows }) (locals ∙ (got (takes g.row.N h c.args.x s f left fr runs)).locals_same) in
    let waits : left ≡ c.run-inside-in-Some.inside.0.1.0.items = search rules in
    let out : c.run.inside.out.items ≡ c.run-inside-in-Some.inside.0.1.1.1.0.items = search rules in
    subst (λ (z : RunRows). Done g.row.N h (instr.Return c.args.x) c.args.run.now z c.args.ending.now) (λ j. run_of c.close_locals.new.self new (waits j) (out j))
    (called g.row.N h (instr.Return c.args.x) c.args.run.now c.requires.found c.requires.sound _ c.run.view_is (instr.Return c.args.x) refl c.close_locals.new.self new left c.args.ending.now (λ out.
    subst (λ (d : Step). Done g.row.N h (instr.Return c.args.x) (run_of s f ws out) (run_of c.close_locals.new.self new left out) d) (sym c.requires.went)
    (subst (λ (ys : List FrameRows). Done g.row.N h (instr.Return c.args.x) (run_of s f ys out) (run_of c.close_locals.new.self new left out) Went) (sym seam)
    (subst (λ (z : Held). Done g.row.N h (instr.Return c.args.x) (run_of s f (left ++ fr ∷ []) out) (run_of z new left out) Went) (sym stores) (back_done g.row.N h c.args.x s f left fr runs new got out)))))
