use Rattle.std.proofs.Common.{◌≤◌, arith, refl, sym, ap, subst}
use Rattle.isp_lower.specs.Drafts.{Draft, draft_of}
use Rattle.isp_typed.specs.Views.{function_of}
use Rattle.isp_lower_code.specs.Asks.{Both}
use Rattle.isp_registers.proofs.Lemmas.{longer_has, longer_then}
use Rattle.isp_masks_code.specs.Asks.{block_asks, result_asks}
use Rattle.isp_masks_code.specs.Keeping.{constants_asks, keep_steps}
use Rattle.isp_masks.proofs.ConstantRows.{keeps_them, longer_grown}
use Rattle.isp_masks.proofs.FewRows.{few_registers}
use Rattle.isp_masks_code.proofs.Lemmas.{body_own, heading_fits}
use Rattle.isp_masks.proofs.Routines.{adds}
use Rattle.isp_masks.proofs.routine.function.Goals as goal

pub returns : goal.returns
returns c =
    let h = function_of c.args.f.now in
    let ks = c.as_slice-kept.result.now in
    let e = c.begin.new.self in
    let m = c.reserve.new.asked in
    let r = record m { registers = c.keep.new.registers } in
    let asked = c.in_ok-reserve.ensures in
    let keep = c.in_ok-keep.ensures in
    adds h ks (draft_of c.args.e.now) (draft_of e) e.reserved r e.body c.body.new.b c.in_ok-begin.ensures.begun refl refl refl refl refl
    (longer_then e.reserved.registers m.registers r.registers (longer_grown e.reserved.registers m.registers asked.rows) keep.rows) asked.masks asked.masks_are
    (keeps_them _ h.variables h.answer e.reserved.registers m.registers r.registers ks (ap (λ (d : Draft). d.rows) c.in_ok-begin.ensures.begun)
    asked.rows keep (subst (λ zs. keep_steps zs ≤ 24) (sym c.as_slice-kept.ensures.value) c.in_ok-found.ensures))
    (longer_has m r keep.rows (omega arith) (Both (constants_asks 3 ks) (block_asks h.answer h.body 3)) asked.body)
    c.in_ok-body.ensures c.requires.fine.0 c.requires.fine.1 c.requires.small.twice

pub reserve-requires-clause-own : goal.reserve-requires-clause-own
reserve-requires-clause-own c = body_own c.requires.fine.0 (function_of c.args.f.now) c.requires.fine.1

pub begin-requires : goal.begin-requires
begin-requires c = heading_fits c.requires.fine.0 (function_of c.args.f.now) c.requires.fine.1

pub body-requires-clause-kept : goal.body-requires-clause-kept
body-requires-clause-kept c = c.in_ok-keep.ensures.all

pub body-requires-clause-constants : goal.body-requires-clause-constants
body-requires-clause-constants c =
    let h = function_of c.args.f.now in
    let m = c.reserve.new.asked in
    (longer_has m (record m { registers = c.keep.new.registers }) c.in_ok-keep.ensures.rows (omega arith) (Both (constants_asks 3 c.as_slice-kept.result.now) (block_asks h.answer h.body 3)) c.in_ok-reserve.ensures.body).0

pub body-requires-clause-body : goal.body-requires-clause-body
body-requires-clause-body c =
    let h = function_of c.args.f.now in
    let m = c.reserve.new.asked in
    (longer_has m (record m { registers = c.keep.new.registers }) c.in_ok-keep.ensures.rows (omega arith) (Both (constants_asks 3 c.as_slice-kept.result.now) (block_asks h.answer h.body 3)) c.in_ok-reserve.ensures.body).1

pub body-requires-clause-result : goal.body-requires-clause-result
body-requires-clause-result c =
    let h = function_of c.args.f.now in
    let m = c.reserve.new.asked in
    longer_has m (record m { registers = c.keep.new.registers }) c.in_ok-keep.ensures.rows (omega arith) (result_asks h.answer) c.in_ok-reserve.ensures.result

pub reserve-requires-clause-numbers : goal.reserve-requires-clause-numbers
reserve-requires-clause-numbers c = c.requires.small.numbers

pub invariant_of-on : goal.invariant_of-on
invariant_of-on c =
    let ks = c.as_slice-kept.result.now in
    let keep = c.in_ok-keep.ensures in
    let few = few_registers (function_of c.args.f.now) ks c.begin.new.self.reserved.registers c.reserve.new.asked.registers c.keep.new.registers c.requires.small
    (subst (λ zs. keep_steps zs ≤ 24) (sym c.as_slice-kept.ensures.value) c.in_ok-found.ensures)
    (ap (λ (d : Draft). d.rows) c.in_ok-begin.ensures.begun) c.in_ok-reserve.ensures.few keep.few in
    record { few_scalars = few.scalars; few_vectors = few.vectors; few_arrays = few.arrays }
