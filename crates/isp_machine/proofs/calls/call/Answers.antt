use Rattle.std.proofs.Common.{◌≡◌, refl, sym, ap, ◌∙◌, subst, ℕ, ◌+◌, ◌<◌, ◌≤◌, [], ◌∷◌, ◌++◌, length, Some, rules, arith}
use Rattle.std.specs.Prelude.{slice_get}
use Rattle.isp_base.specs.Cross.{or_zero}
use Rattle.isp_base.specs.Sets.{flag_of, lowest}
use Rattle.isp_base.specs.Traps.{trap}
use Rattle.isp_base.specs.declared.trap.TrapKind.TheVariants.{Depth}
use Rattle.isp_code.specs.Calls.{place_at}
use Rattle.isp_code.specs.Listing.{Listing}
use Rattle.isp_code.specs.declared.instr.Instr.TheVariants as instr
use Rattle.isp_store.specs.Held.{Held}
use Rattle.isp_frames.specs.Begun.{Begun, AreThere, by_call, given, new_stores}
use Rattle.isp_frames.specs.Rows.{FrameRows}
use Rattle.isp_machine.specs.Rows.{RunRows, run_of}
use Rattle.isp_machine.specs.Steps.{Done, Steady}
use Rattle.isp_frames.specs.Views.{masks_at}
use Rattle.isp_machine.specs.declared.stop.Step.{Step}
use Rattle.isp_machine.specs.declared.stop.Step.TheVariants.{Went, Trapped}
use Rattle.isp_machine.proofs.Called.{runs_of, call_done, too_deep, found_low}
use Rattle.isp_machine.proofs.Doing.{called}
use Rattle.isp_machine.proofs.Passes.{are_there}
use Rattle.isp_frames.proofs.Rewrites.{along}
use Rattle.isp_machine.proofs.calls.call.Goals as goal

pub pass_call-requires : goal.pass_call-requires
pass_call-requires g c =
    let h = c.args.here.now in
    let s = c.run.inside.stores in
    let f = c.run.inside.frame in
    let ws = c.run.inside.waiting.items in
    let found = subst (λ (z : RunRows). slice_get h.code.routines z.frame.function ≡ Some h.routine) (sym c.run.view_is) (ap (λ (p : Listing). slice_get p.routines c.args.run.now.frame.function) c.requires.code ∙ c.requires.found) in
    let sound = subst (λ (z : RunRows). Steady g.row.N h.code z) (sym c.run.view_is) (subst (λ (p : Listing). Steady g.row.N p c.args.run.now) (sym c.requires.code) c.requires.sound) in
    let runs = runs_of g.row.N h s f ws found sound in
    let shaped = runs.shaped in
    let count = runs.arrays.count in
    let wide = c.told.ensures.wide in
    let there : AreThere h.routine c.as_slice-arguments.result.now = subst (AreThere h.routine) (sym c.as_slice-arguments.ensures) (are_there h.routine c.requires.fine.callee.params c.args.call.now.arguments c.requires.fine.passed) in
    search (rules, wide, shaped, count, there)

pub begin-requires : goal.begin-requires
begin-requires g c =
    let wide = c.told.ensures.wide in
    let low : c.args.call.now.function < length c.args.code.now.routines = subst (λ (p : Listing). c.args.call.now.function < length p.routines)
    c.requires.code (found_low c.args.here.now.code.routines c.args.call.now.function c.requires.fine.callee c.requires.fine.found) in
    search (rules, wide, low)

pub returns-clause-ok : goal.returns-clause-ok
returns-clause-ok g c =
    let h = c.args.here.now in
    let k = c.args.call.now in
    let r = c.args.run.now in
    let s = c.run.inside.stores in
    let f = c.run.inside.frame in
    let ws = c.run.inside.waiting.items in
    let callee = c.requires.fine.callee in
    let mask = c.mask.result.now in
    let at = ap (λ (p : Listing). slice_get p.routines r.frame.function) c.requires.code ∙ c.requires.found in
    let steady = subst (λ (p : Listing). Steady g.row.N p r) (sym c.requires.code) c.requires.sound in
    let found = subst (λ (z : RunRows). slice_get h.code.routines z.frame.function ≡ Some h.routine) (sym c.run.view_is) at in
    let sound = subst (λ (z : RunRows). Steady g.row.N h.code z) (sym c.run.view_is) steady in
    let next = subst (λ (z : RunRows). z.frame.pc + 1 < length h.routine.code) (sym c.run.view_is) c.requires.next in
    let runs = runs_of g.row.N h s f ws found sound in
    let there : slice_get c.args.code.now.routines k.function ≡ Some callee = ap (λ (p : Listing). slice_get p.routines k.function) (sym c.requires.code) ∙ c.requires.fine.found in
    let first : c.deref.result.now ≡ f = search rules in
    let lanes = c.mask.ensures ∙ ap (λ (z : FrameRows). masks_at z k.mask.number) first in
    let same : c.deref-2.result.now ≡ f = search rules in
    let filled : c.deref_mut-2.result.now ≡ c.pass_call.new.self = search rules in
    let passed = ap given filled ∙ c.in_ok-pass_call.ensures ∙ (λ i. by_call (same i) (flag_of mask) (c.as_slice-arguments.ensures i)) in
    let running : c.run-inside.inside.0.0.at.value ≡ f = search rules in
    let waiting : c.run-inside.inside.0.1.0.items ≡ ws = search rules in
    let kept : c.run-inside.inside.0.1.1.0 ≡ s = search rules in
    let out : c.run.inside.out.items ≡ c.run-inside.inside.0.1.1.1.0.items = search rules in
    let begun = along (λ j. Begun g.row.N callee k.function mask (length (kept j).rows) (passed j) c.begin.new.frame) (c.in_ok-begin.ensures.begun callee there) in
    let stores = c.in_ok-begin.ensures.stores callee there ∙ ap (λ (z : Held). record z { rows = z.rows ++ new_stores callee.locals }) kept in
    let all = subst (λ (z : Held). z.params + c.begin.new.frame.locals ≡ length z.rows) stores c.in_ok-begin.ensures.all in
    let len : c.len.result ≡ length ws = search rules in
    let off = c.if-len.false in
    let few : length ws < 255 = omega (arith, len, off) in
    let waits = c.wait.ensures.waiting ∙ (λ j. (c.reserve.ensures.items ∙ waiting) j ++ record (running j) { pc = (running j).pc + 1; to = k.result; under = mask } ∷ []) in
    subst (λ (z : RunRows). Done g.row.N h (instr.Call k) r z c.args.ending.now) (λ j. run_of c.begin.new.stores c.wait.new.frame c.wait.new.waiting.items (out j))
    (called g.row.N h (instr.Call k) r at steady _ c.run.view_is (instr.Call k) refl c.begin.new.stores c.wait.new.frame c.wait.new.waiting.items c.args.ending.now (λ out.
    subst (λ (d : Step). Done g.row.N h (instr.Call k) (run_of s f ws out) (run_of c.begin.new.stores c.wait.new.frame c.wait.new.waiting.items out) d) (sym c.requires.went)
    (subst (λ (z : RunRows). Done g.row.N h (instr.Call k) (run_of s f ws out) z Went) (λ i. run_of (sym stores i) (sym c.wait.ensures.frame i) (sym waits i) out)
    (call_done g.row.N h k s f ws runs found c.requires.fine mask lanes c.begin.new.frame begun all few (c.in_ok-begin.ensures.masks callee there) next (c.in_ok-begin.ensures.starts callee there) out))))

pub returns-then-len-clause-ok : goal.returns-then-len-clause-ok
returns-then-len-clause-ok g c =
    let h = c.args.here.now in
    let k = c.args.call.now in
    let r = c.args.run.now in
    let s = c.run.inside.stores in
    let f = c.run.inside.frame in
    let ws = c.run.inside.waiting.items in
    let at = ap (λ (p : Listing). slice_get p.routines r.frame.function) c.requires.code ∙ c.requires.found in
    let steady = subst (λ (p : Listing). Steady g.row.N p r) (sym c.requires.code) c.requires.sound in
    let found = subst (λ (z : RunRows). slice_get h.code.routines z.frame.function ≡ Some h.routine) (sym c.run.view_is) at in
    let sound = subst (λ (z : RunRows). Steady g.row.N h.code z) (sym c.run.view_is) steady in
    let runs = runs_of g.row.N h s f ws found sound in
    let len : c.len.result ≡ length ws = search rules in
    let on = c.if-len.true in
    let many : 255 ≤ length ws = omega (arith, len, on) in
    let first : c.deref.result.now ≡ f = search rules in
    let lanes = c.mask.ensures ∙ ap (λ (z : FrameRows). masks_at z k.mask.number) first in
    let lane = c.first_lane-lane.ensures.value ∙ (λ i. or_zero (lowest (runs.gang i) (lanes i))) in
    subst (λ (z : RunRows). Done g.row.N h (instr.Call k) r z (Trapped c.trap.result)) c.run.view_is
    (called g.row.N h (instr.Call k) r at steady _ c.run.view_is (instr.Call k) refl s f ws _
    (too_deep g.row.N h k s f ws runs found c.requires.fine c.trap.result many
    (c.trap.ensures ∙ ap (λ (l : ℕ). trap Depth (place_at h.code k.place) l) lane) sound))
