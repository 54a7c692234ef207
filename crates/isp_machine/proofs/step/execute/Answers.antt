use Rattle.std.proofs.Common.{◌≡◌, ◌+◌, ◌<◌, length, refl, sym, ap, ◌∙◌, subst, [], rules, Some}
use Rattle.std.specs.Prelude.{slice_get, slice_index_or}
use Rattle.isp_base.specs.Maps.{on}
use Rattle.isp_base.specs.Prints.{value_text, list_text}
use Rattle.isp_base.specs.Types.{gang_width}
use Rattle.isp_code.specs.Fine.{AllFine, CallsFine, CallFine, GoesOn}
use Rattle.isp_code.specs.Listing.{Listing}
use Rattle.isp_code.specs.Operands.{operands, call_operands}
use Rattle.isp_code.specs.Registers.{elem_of}
use Rattle.isp_code.specs.declared.instr.Instr.{Instr}
use Rattle.isp_code.specs.declared.instr.Instr.TheVariants as instr
use Rattle.isp_frames.specs.Moves.{Computes}
use Rattle.isp_machine.specs.Rows.{run_of}
use Rattle.isp_machine.specs.Steps.{Done, Steady}
use Rattle.isp_frames.specs.Views.{scalars_at, vectors_at, masks_at}
use Rattle.isp_machine.proofs.Doing.{spoken, computed, came, call_mask, call_place}
use Rattle.isp_machine.proofs.step.execute.Goals as goal

pub call-requires : goal.call-requires
call-requires g c =
    let h = c.args.here.now in
    let r = c.args.run.now in
    let is : c.args.instr.now ≡ instr.Call c.get.result.now = c.in-Call.is ∙ ap instr.Call (sym c.get.ensures) in
    let fine : AllFine h.code h.routine (call_operands c.get.result.now) = subst (λ (i : Instr). AllFine h.code h.routine (operands i)) is c.requires.operands in
    let calls : CallFine h.code h.routine c.get.result.now = subst (λ (i : Instr). CallsFine h.code h.routine i) is c.requires.calls in
    let next : r.frame.pc + 1 < length h.routine.code = subst (λ (i : Instr). GoesOn h.routine r.frame.pc i) is c.requires.next in
    let found = subst (λ (p : Listing). slice_get p.routines r.frame.function ≡ Some h.routine) c.requires.code c.requires.found in
    let sound = subst (λ (p : Listing). Steady g.row.N p r) c.requires.code c.requires.sound in
    let mask = call_mask h.code h.routine c.get.result.now fine in
    let place = call_place h.code h.routine c.get.result.now fine in
    search (rules, calls, next, found, sound, mask, place)

pub returns-in_ok-say-in-Say-clause-done : goal.returns-in_ok-say-in-Say-clause-done
returns-in_ok-say-in-Say-clause-done g c =
    let h = c.args.here.now in
    let low = subst (λ (i : Instr). GoesOn h.routine c.args.run.now.frame.pc i) c.in-Say.is c.requires.next in
    let frame : c.deref_mut.result.now ≡ c.run.inside.frame = search rules in
    let waiting : c.run-inside.inside.0.1.0.items ≡ c.run.inside.waiting.items = search rules in
    let stores : c.run-inside.inside.0.1.1.0 ≡ c.run.inside.stores = search rules in
    let out : c.run-inside.inside.0.1.1.1.0.items ≡ c.run.inside.out.items = search rules in
    let is = (λ j. run_of (stores j) (frame j) (waiting j) (out j)) ∙ c.run.view_is in
    spoken g.row.N h c.args.instr.now c.args.run.now c.requires.found c.requires.sound _ is _ c.requires.went (instr.Say c.in-Say.text) c.in-Say.is
    low (slice_index_or h.code.texts c.in-Say.text []) c.say.new.frame c.say.new.out.items c.in_ok-say-in-Say.ensures.ok
    c.in_ok-say-in-Say.ensures.written

pub returns-in_ok-print_scalar-in-PrintScalar-clause-done : goal.returns-in_ok-print_scalar-in-PrintScalar-clause-done
returns-in_ok-print_scalar-in-PrintScalar-clause-done g c =
    let h = c.args.here.now in
    let low = subst (λ (i : Instr). GoesOn h.routine c.args.run.now.frame.pc i) c.in-PrintScalar.is c.requires.next in
    let frame : c.deref_mut-in-PrintScalar.result.now ≡ c.run-in-PrintScalar.inside.frame = search rules in
    let waiting : c.run-inside-in-PrintScalar.inside.0.1.0.items ≡ c.run-in-PrintScalar.inside.waiting.items = search rules in
    let stores : c.run-inside-in-PrintScalar.inside.0.1.1.0 ≡ c.run-in-PrintScalar.inside.stores = search rules in
    let out : c.run-inside-in-PrintScalar.inside.0.1.1.1.0.items ≡ c.run-in-PrintScalar.inside.out.items = search rules in
    let is = (λ j. run_of (stores j) (frame j) (waiting j) (out j)) ∙ c.run-in-PrintScalar.view_is in
    spoken g.row.N h c.args.instr.now c.args.run.now c.requires.found c.requires.sound _ is _ c.requires.went (instr.PrintScalar c.in-PrintScalar.x) c.in-PrintScalar.is low
    (value_text (elem_of h.routine c.in-PrintScalar.x) (scalars_at c.deref_mut-in-PrintScalar.result.now c.in-PrintScalar.x.number))
    c.print_scalar.new.frame c.print_scalar.new.out.items c.in_ok-print_scalar-in-PrintScalar.ensures.ok
    c.in_ok-print_scalar-in-PrintScalar.ensures.written

pub returns-in_ok-print_vector-in-PrintVector-clause-done : goal.returns-in_ok-print_vector-in-PrintVector-clause-done
returns-in_ok-print_vector-in-PrintVector-clause-done g c =
    let h = c.args.here.now in
    let low = subst (λ (i : Instr). GoesOn h.routine c.args.run.now.frame.pc i) c.in-PrintVector.is c.requires.next in
    let f = c.deref_mut-in-PrintVector.result.now in
    let frame : c.deref_mut-in-PrintVector.result.now ≡ c.run-in-PrintVector.inside.frame = search rules in
    let waiting : c.run-inside-in-PrintVector.inside.0.1.0.items ≡ c.run-in-PrintVector.inside.waiting.items = search rules in
    let stores : c.run-inside-in-PrintVector.inside.0.1.1.0 ≡ c.run-in-PrintVector.inside.stores = search rules in
    let out : c.run-inside-in-PrintVector.inside.0.1.1.1.0.items ≡ c.run-in-PrintVector.inside.out.items = search rules in
    let is = (λ j. run_of (stores j) (frame j) (waiting j) (out j)) ∙ c.run-in-PrintVector.view_is in
    spoken g.row.N h c.args.instr.now c.args.run.now c.requires.found c.requires.sound _ is _ c.requires.went (instr.PrintVector c.in-PrintVector.vector c.in-PrintVector.mask) c.in-PrintVector.is low
    (list_text (elem_of h.routine c.in-PrintVector.vector) (gang_width h.code.gang) (on (masks_at f c.in-PrintVector.mask.number) (vectors_at f c.in-PrintVector.vector.number)))
    c.print_vector.new.frame c.print_vector.new.out.items c.in_ok-print_vector-in-PrintVector.ensures.ok c.in_ok-print_vector-in-PrintVector.ensures.written

pub returns-in-Return-clause-done : goal.returns-in-Return-clause-done
returns-in-Return-clause-done g c =
    subst (λ (i : Instr). Done g.row.N c.args.here.now i c.args.run.now c.give_back.new.run c.give_back.new.ending) (sym c.in-Return.is) c.give_back.ensures

pub returns-in-Scatter-clause-done : goal.returns-in-Scatter-clause-done
returns-in-Scatter-clause-done g c =
    let computes : Computes c.args.instr.now = search rules in
    let frame : c.deref_mut-in-Scatter.result.now ≡ c.run-in-Scatter.inside.frame = search rules in
    let waiting : c.run-inside-in-Scatter.inside.0.1.0.items ≡ c.run-in-Scatter.inside.waiting.items = search rules in
    let stores : c.run-inside-in-Scatter.inside.0.1.1.0 ≡ c.run-in-Scatter.inside.stores = search rules in
    let out : c.run-inside-in-Scatter.inside.0.1.1.1.0.items ≡ c.run-in-Scatter.inside.out.items = search rules in
    let is = (λ j. run_of (stores j) (frame j) (waiting j) (out j)) ∙ c.run-in-Scatter.view_is in
    came g.row.N c.args.here.now c.args.instr.now c.args.run.now c.requires.found c.requires.sound _ is computes c.requires.operands c.requires.next c.args.instr.now refl c.scatter.new.stores c.scatter.new.frame c.scatter.new.ending c.scatter.ensures

pub returns-in_default-compute : goal.returns-in_default-compute
returns-in_default-compute g c =
    let computes : Computes c.args.instr.now = search rules in
    let frame : c.deref_mut-in_default.result.now ≡ c.run-in_default.inside.frame = search rules in
    let waiting : c.run-inside-in_default.inside.0.1.0.items ≡ c.run-in_default.inside.waiting.items = search rules in
    let stores : c.run-inside-in_default.inside.0.1.1.0 ≡ c.run-in_default.inside.stores = search rules in
    let out : c.run-inside-in_default.inside.0.1.1.1.0.items ≡ c.run-in_default.inside.out.items = search rules in
    let is = (λ j. run_of (stores j) (frame j) (waiting j) (out j)) ∙ c.run-in_default.view_is in
    record {
      done = computed g.row.N c.args.here.now c.args.instr.now c.args.run.now c.requires.found c.requires.sound _ is computes c.requires.operands
          c.requires.next _ c.requires.went c.compute.new.stores c.compute.new.frame c.in_default-compute.ensures.ok;
      same = tt;
      same_ending = tt;
      refused = tt;
    }
