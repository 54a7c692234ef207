use Rattle.std.proofs.Common.{rules, ◌≡◌, sym, ap, ◌∙◌, subst, ℕ, List, [], ◌++◌, Global, Vec, map, Some}
use Rattle.std.specs.Prelude.{if◌then◌else◌, slice_get}
use Rattle.std.proofs.lemmas.List.{append-nil}
use Rattle.isp_base.specs.declared.types.Elem.{Elem}
use Rattle.isp_code.specs.Listing.{Listing, Routine, routine_of}
use Rattle.isp_machine.specs.Kept.{state}
use Rattle.isp_machine.specs.Runs.{IsRunning, conf}
use Rattle.isp_machine.specs.declared.stop.Stop.{Stop}
use Rattle.isp_traces.specs.Executed.{instr_in}
use Rattle.isp_traces.specs.Operands.{written_lanes, written_mask}
use Rattle.isp_traces.specs.Steps.{after_text, before_text, new_mask_text, vector_text}
use Rattle.isp_traces.specs.Tracing.{StopsAs}
use Rattle.isp_traces.proofs.Found.{routine_there, table_there}
use Rattle.isp_traces.proofs.Parts.{after_none, after_some, line_is, line_pushed, stopped}
use Rattle.isp_traces.proofs.tracing.push_step.Goals as goal
use Rattle.isp_traces.proofs.tracing.push_step.Goals.{in-Running+in_ok-push_after, in_default-stop}

pub returns-clause-line : goal.returns-clause-line
returns-clause-line g c =
    let code = c.args.code.now in
    let lanes = c.args.lanes in
    let s = state c.args.machine.now in
    let s1 = state c.made-2.new.machine in
    let fs = c.functions-functions.result.now in
    let k = c.spot-spot.result.function in
    let f = c.index-functions-spot.result in
    let h = routine_of f in
    let i = c.in-Some.instr.now in
    let old = c.args.text.now.items in
    let t1 = c.push_before.new.text.items in
    let t2 = c.match-stop.text.items in
    let same : map routine_of fs ≡ code.routines = c.functions-functions.ensures.same ∙ ap (λ (l : Listing). l.routines) c.code.ensures.same in
    let at : slice_get code.routines k ≡ Some h = ap (λ (rs : List Routine). slice_get rs k) (sym same) ∙ routine_there fs k f c.in-Some.ensures.there c.index-functions-spot.is in
    let found : slice_get code.routines (conf s).home.fn ≡ Some h = ap (λ (n : ℕ). slice_get code.routines n) (sym c.spot-spot.ensures.function) ∙ at in
    let there : instr_in (slice_get code.routines (conf s).home.fn) (conf s).pc ≡ Some i =
    ap (λ (n : ℕ). instr_in (slice_get code.routines n) (conf s).pc) (sym c.spot-spot.ensures.function)
    ∙ ap (λ (p : ℕ). instr_in (slice_get code.routines k) p) (sym c.spot-spot.ensures.instr)
    ∙ ap (λ (rs : List Routine). instr_in (slice_get rs k) c.spot-spot.result.instr) (sym same)
    ∙ c.in-Some.ensures.some in
    let vectors = table_there code.routines k h c.registers.result.now at c.registers.ensures in
    let named : f.name ≡ c.as_str.result.now = search rules in
    let before = c.in_ok-push_before.ensures h named in
    let after : t2 ≡ t1 ++ after_text code lanes h i s1 =
    elim c.match-stop.branch [
      | in-Running+in_ok-push_after w ↦
          let running : IsRunning s1 = subst (λ (st : Stop). StopsAs st s1) w.in-Running.is c.in_ok-stop.ensures.stops in
          ap (λ (v : Vec ℕ Global). v.items) w.text-is
          ∙ w.in_ok-push_after.ensures
          ∙ ap (λ (vs : List Elem). t1 ++ (new_mask_text code (conf s1) (written_mask i) ++ (if lanes then vector_text code vs (conf s1) (written_lanes i) else []))) vectors
          ∙ ap (λ (t : List ℕ). t1 ++ t) (sym (after_some code lanes h i s1 running))
      | in_default-stop w ↦
          let none = after_none code lanes h i s1 (stopped c.in_ok-stop.stop s1 w.in_default-stop.not-Running c.in_ok-stop.ensures.stops) in
          ap (λ (v : Vec ℕ Global). v.items) w.text-is ∙ sym (append-nil t1) ∙ ap (λ (t : List ℕ). t1 ++ t) (sym none)
    ] in
    line_pushed old t1 t2 c.extend_from_slice.new.self.items (before_text code c.args.number h (conf s) i) (after_text code lanes h i s1) before after c.in_ok-extend_from_slice.ensures.items
    ∙ ap (λ (t : List ℕ). old ++ t) (sym (line_is code lanes c.args.number s s1 c.requires.running h i found there))
