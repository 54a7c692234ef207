use Rattle.std.proofs.Common.{rules, ◌≡◌, ◌+◌, ◌++◌, ◌∷◌, [], true, false, sym, ap, subst, ◌∙◌, arith, drop}
use Rattle.isp_base.specs.declared.types.Rate.TheVariants.{Uniform, Varying}
use Rattle.isp_base.specs.declared.types.Ty.{Ty}
use Rattle.isp_code.specs.declared.instr.Instr.TheVariants as instr
use Rattle.isp_code.specs.declared.instr.JumpTest.TheVariants as jump
use Rattle.isp_typed.specs.Nodes.{arguments_nodes}
use Rattle.isp_typed.specs.Typed.{t_arguments, t_exprs}
use Rattle.isp_typed.specs.Views.{argument_of, arguments_of, expr_of, exprs_of}
use Rattle.isp_lower_code.specs.Callees.{next_rate}
use Rattle.isp_lower_code.specs.Code.{argument_code, argument_register, argument_registers, arguments_code, calling, expr_code, value_registers, values_code, variable_from}
use Rattle.isp_lower_code.specs.Found.{operand, operand_of}
use Rattle.isp_lower_code.specs.Instructions.{jump_off, jump_on}
use Rattle.isp_lower_code.specs.Spans.{argument_places, arguments_places, expr_places, values_places}
use Rattle.isp_lower_code.specs.Stays.{is_short}
use Rattle.isp_code.specs.declared.register.Register.{Register}
use Rattle.std.specs.Prelude.{List}
use Rattle.isp_lower.specs.Emitted.{Appends, Present, layout}
use Rattle.isp_lower_code.specs.Library.{library_rates}
use Rattle.isp_lower.specs.Written.{numbers, side_at}
use Rattle.isp_registers.specs.declared.numbered.RegisterNumber.{RegisterNumber}
use Rattle.isp_registers.specs.declared.numbered.Slot.{Slot}
use Rattle.isp_lower_code.specs.Asks.{arguments_asks, operand_asks, values_asks}
use Rattle.isp_registers.proofs.Lemmas.{argument_within, arguments_more, call_counts}
use Rattle.isp_lower.proofs.Arguments.{arguments_there, call_boxed, call_done, called_behind, code_end, code_more, registers_end, registers_more, taken_at}
use Rattle.isp_lower.proofs.LibraryValues as row
use Rattle.isp_registers.proofs.Lemmas.{value_within, values_more}
use Rattle.isp_lower.proofs.Landing.{chosen, landed, short_chosen, long_chosen}
use Rattle.isp_lower.proofs.+expr.Goals as goal

pub expression::right_side-returns : goal.expression::right_side-returns
expression::right_side-returns t c =
    let l = layout c.args.on.now in
    let x = expr_of c.args.x.now in
    let to = c.args.target in
    landed c.args.b.now c.push.new.self c.copied.new.b c.land.new.self c.len-at.result _ (λ at. instr.JumpIf c.args.skip.test c.args.skip.register at)
    (λ pc p. variable_from l false to.ty.rate to.to.number x pc p to.site.mask.number to.site.slot.number) (expr_places l x)
    (c.len-at.ensures ∙ c.args.b.now.code.ok.0) c.in_ok-push.ensures c.in_ok-copied.ensures c.land.ensures.code c.land.ensures.places c.land.ensures.texts

pub expression::masked_side-returns-clause-code : goal.expression::masked_side-returns-clause-code
expression::masked_side-returns-clause-code t c =
    let l = layout c.args.on.now in
    let x = expr_of c.args.x.now in
    let k = c.args.site.mask.number in
    landed c.args.b.now c.push.new.self c.operand.new.b c.land.new.self c.len-at.result _ (jump_off k)
    (λ pc p. operand_of l c.args.rate x k c.args.site.slot.number (expr_code l x pc p k c.args.site.slot.number)) (expr_places l x)
    (c.len-at.ensures ∙ c.args.b.now.code.ok.0) c.in_ok-push.ensures c.in_ok-from.ensures.code (cc) c.land.ensures.places c.land.ensures.texts

pub expression::choose_by_jump-returns : goal.expression::choose_by_jump-returns
expression::choose_by_jump-returns t c =
    let l = layout c.args.on.now in
    let x = expr_of c.args.then.now in
    let y = expr_of c.args.otherwise.now in
    let to = c.args.target in
    chosen c.args.b.now c.push.new.self c.side.new.b c.push-2.new.self c.land.new.self c.side-2.new.b c.land_always.new.self c.len-at.result c.len-over.result _ _ (jump_on jump.False c.args.tested.number)
    (side_at c.args.on.now to.ty x to.site).code (side_at c.args.on.now to.ty y to.site).code (expr_places l x) (expr_places l y)
    (c.len-at.ensures ∙ c.args.b.now.code.ok.0) c.in_ok-push.ensures c.in_ok-side.ensures (c.len-over.ensures ∙ c.side.new.b.code.ok.0) c.in_ok-push-2.ensures
    (cc) c.land.ensures.places c.land.ensures.texts c.in_ok-side-2.ensures c.land_always.ensures.code c.land_always.ensures.places c.land_always.ensures.texts

pub expression::choose_to-choose_short-requires : goal.expression::choose_to-choose_short-requires
expression::choose_to-choose_short-requires t c =
    let short : is_short (layout c.args.on.now) c.args.target.ty.rate (expr_of c.args.test.now) (expr_of c.args.then.now) (expr_of c.args.otherwise.now) ≡ true = sym (c.is_short.ensures) ∙ c.if-is_short.true in
    search (rules, short)

pub expression::choose_to-returns-then-is_short : goal.expression::choose_to-returns-then-is_short
expression::choose_to-returns-then-is_short t c =
    let a = c.args in
    let to = a.target in
    let l = layout a.on.now in
    let z = expr_of a.test.now in
    let x = expr_of a.then.now in
    let y = expr_of a.otherwise.now in
    let short : is_short l to.ty.rate z x y ≡ true = sym (c.is_short.ensures) ∙ c.if-is_short.true in
    short_chosen a.b.now c.choose_short.new.b l to.to.number z x y to.ty to.site.mask.number to.site.slot.number short c.in_ok-choose_short.ensures to.span

pub expression::choose_to-returns-in_ok-choose_one-in-Uniform : goal.expression::choose_to-returns-in_ok-choose_one-in-Uniform
expression::choose_to-returns-in_ok-choose_one-in-Uniform t c =
    let a = c.args in
    let to = a.target in
    let l = layout a.on.now in
    let z = expr_of a.test.now in
    let x = expr_of a.then.now in
    let y = expr_of a.otherwise.now in
    let long : is_short l to.ty.rate z x y ≡ false = sym (c.is_short.ensures) ∙ c.if-is_short.false in
    long_chosen a.b.now c.choose_one.new.b l Uniform to.to.number z x y to.ty to.site.mask.number to.site.slot.number long (sym c.in-Uniform.is ∙ ap (λ (t : Ty). t.rate) c.ty.ensures) c.in_ok-choose_one-in-Uniform.ensures to.span

pub expression::choose_to-returns-in_ok-choose_each-in-Varying : goal.expression::choose_to-returns-in_ok-choose_each-in-Varying
expression::choose_to-returns-in_ok-choose_each-in-Varying t c =
    let a = c.args in
    let to = a.target in
    let l = layout a.on.now in
    let z = expr_of a.test.now in
    let x = expr_of a.then.now in
    let y = expr_of a.otherwise.now in
    let long : is_short l to.ty.rate z x y ≡ false = sym (c.is_short.ensures) ∙ c.if-is_short.false in
    long_chosen a.b.now c.choose_each.new.b l Varying to.to.number z x y to.ty to.site.mask.number to.site.slot.number long (sym c.in-Varying.is ∙ ap (λ (t : Ty). t.rate) c.ty.ensures) c.in_ok-choose_each-in-Varying.ensures to.span

pub expression::arguments-loop-place-preserved : goal.expression::arguments-loop-place-preserved
expression::arguments-loop-place-preserved t c =
    let l = layout c.args.on.now in
    let xs = c.args.all.now in
    let i = c.loop-place.place in
    let x = c.index-all-place.result in
    let k = c.args.site.mask.number in
    let m = c.loop-place.slot.number in
    let rs = l.rates c.args.function in
    let rate = c.parameter_rate-rate.ensures in
    let written = subst (λ r. Appends c.loop-place.b c.argument.new.b (λ pc p. argument_code l r (argument_of x) pc p k m) (argument_places l (argument_of x))) rate c.in_ok-register.ensures.code in
    let kept = c.in_ok-register.ensures.register ∙ ap (λ r. argument_register l r (argument_of x) m) rate in
    let rest = t_arguments (arguments_of (drop (i + 1) xs)) in
    let next = c.next-slot.ensures in (
      λ h y. c.loop-place.invariant.0 h (code_more l rs xs i x c.loop-place-test.true c.index-all-place.is c.loop-place.b c.argument.new.b h k m
          written (subst (λ (s : Slot). Appends c.argument.new.b h (λ pc p. arguments_code l (drop (i + 1) rs) rest pc p k s.number)
          (arguments_places l rest)) next y)),
      subst (λ (s : Slot). Present c.args.on.now (arguments_asks rest s.number)) (sym next) (subst (Present c.args.on.now) (arguments_more m xs i x c.loop-place-test.true c.index-all-place.is) c.loop-place.invariant.1).1.1,
      ap (λ (ds : List Register). ds ++ argument_registers l (drop (i + 1) rs) rest c.next-slot.result.number) (c.in_ok-push.ensures.ok ∙ ap (λ d. c.loop-place.registers.items ++ d ∷ []) kept)
          ∙ ap (λ (s : Slot). (c.loop-place.registers.items ++ argument_register l (next_rate (drop i rs)) (argument_of x) m ∷ []) ++ argument_registers l (drop (i + 1) rs) rest s.number) next
          ∙ registers_more l rs xs i x c.loop-place-test.true c.index-all-place.is c.loop-place.registers.items (argument_registers l rs (t_arguments (arguments_of xs)) c.args.site.slot.number) m c.loop-place.invariant.2,
    )

pub expression::passed-operand-requires : goal.expression::passed-operand-requires
expression::passed-operand-requires t c = (omega (arith, c.decreases), taken_at c.args.on.now c.args.rate (expr_of c.args.x.now) c.args.site.slot.number c.requires)

pub expression::arguments-argument-requires : goal.expression::arguments-argument-requires
expression::arguments-argument-requires t c =
    let xs = c.args.all.now in
    let i = c.loop-place.place in
    let x = c.index-all-place.result in
    let within = argument_within xs i x c.loop-place-test.true c.index-all-place.is in
    let asked = subst (Present c.args.on.now) (arguments_more c.loop-place.slot.number xs i x c.loop-place-test.true c.index-all-place.is) c.loop-place.invariant.1 in
    (omega (arith, within, c.decreases), asked.1.0)

pub expression::call_to-arguments-requires : goal.expression::call_to-arguments-requires
expression::call_to-arguments-requires t c =
    let a = c.args in
    let counts = call_counts a.x.now in
    let same = ap (λ zs. arguments_nodes (t_arguments (arguments_of zs))) c.deref.ensures.value in
    let asked = subst (λ zs. Present a.on.now (arguments_asks (t_arguments (arguments_of zs)) a.site.slot.number)) (sym c.deref.ensures.value) (arguments_there a.on.now a.x.now a.site.slot.number c.requires) in
    (omega (arith, counts, same, c.decreases), asked)

pub expression::arguments-returns-clause-registers : goal.expression::arguments-returns-clause-registers
expression::arguments-returns-clause-registers t c =
    let l = layout c.args.on.now in
    let rs = l.rates c.args.function in
    c.new.ensures ∙ registers_end l rs c.args.all.now c.loop-place.place c.loop-place-test.false c.loop-place.registers.items _ c.loop-place.slot.number c.loop-place.invariant.2

pub expression::arguments-returns-clause-code : goal.expression::arguments-returns-clause-code
expression::arguments-returns-clause-code t c =
    let l = layout c.args.on.now in
    c.loop-place.invariant.0 c.loop-place.b (code_end l (l.rates c.args.function) c.args.all.now c.loop-place.place c.loop-place-test.false c.loop-place.b c.args.site.mask.number c.loop-place.slot.number)

pub expression::call_to-returns : goal.expression::call_to-returns
expression::call_to-returns t c =
    let a = c.args in
    let l = layout a.on.now in
    let k = a.site.mask.number in
    let n = a.site.slot.number in
    let f = a.x.now.function in
    let xs = t_arguments (arguments_of a.x.now.arguments.items) in
    let m = c.in_ok-place.place.number in
    let passed = c.in_ok-given.ensures.registers ∙ ap (λ zs. argument_registers l (l.rates f) (t_arguments (arguments_of zs)) n) c.deref.ensures.value in
    let named = c.naming.ensures ∙ call_boxed l a.to f m k n xs _ _ _ c.in_ok-boxed.ensures.ok c.mask.ensures passed in
    let added = subst (λ z. Appends c.place.new.self c.add.new.self (λ pc p. z ∷ []) []) named c.in_ok-add.ensures in
    call_done l a.b.now c.arguments.new.b c.add.new.self a.to a.x.now k n
    (subst (λ zs. Appends a.b.now c.arguments.new.b (λ pc p. arguments_code l (l.rates f) (t_arguments (arguments_of zs)) pc p k n) (arguments_places l (t_arguments (arguments_of zs)))) c.deref.ensures.value c.in_ok-given.ensures.code)
    (called_behind c.arguments.new.b c.place.new.self c.add.new.self (λ p. calling l a.to f xs p k n) a.x.now.span m c.in_ok-place.ensures.number c.in_ok-place.ensures.added added)

-- ---- values of a call of the library

pub expression::values-loop-place-preserved : goal.expression::values-loop-place-preserved
expression::values-loop-place-preserved t c =
    let l = layout c.args.on.now in
    let xs = c.args.all.now in
    let i = c.loop-place.place in
    let x = c.index-all-place.result in
    let k = c.args.site.mask.number in
    let m = c.loop-place.slot.number in
    let rs = library_rates c.args.function c.args.rate in
    let rate = c.value_rate-taken.ensures in
    let written = subst (λ r. Appends c.loop-place.b c.operand.new.b (λ pc p. operand_of l r (expr_of x) k m (expr_code l (expr_of x) pc p k m)) (expr_places l (expr_of x))) rate c.in_ok-register.ensures.code in
    let kept = c.in_ok-register.ensures.register ∙ ap (λ r. operand l r (expr_of x) m) rate in
    let rest = t_exprs (exprs_of (drop (i + 1) xs)) in
    let next = c.next-slot.ensures in (
      λ h y. c.loop-place.invariant.0 h (row.code_more rs xs i l x c.loop-place-test.true c.index-all-place.is c.loop-place.b c.operand.new.b h k m
          written (subst (λ (s : Slot). Appends c.operand.new.b h (λ pc p. values_code l (drop (i + 1) rs) rest pc p k s.number)
          (values_places l rest)) next y)),
      subst (λ (s : Slot). Present c.args.on.now (values_asks (drop (i + 1) rs) rest s.number)) (sym next) (subst (Present c.args.on.now) (values_more rs xs i m x c.loop-place-test.true c.index-all-place.is) c.loop-place.invariant.1).1.1,
      ap (λ (ds : List RegisterNumber). numbers ds ++ value_registers l (drop (i + 1) rs) rest c.next-slot.result.number) c.in_ok-push.ensures.ok
          ∙ ap (λ (s : Slot). numbers (c.loop-place.registers.items ++ c.in_ok-register.register ∷ []) ++ value_registers l (drop (i + 1) rs) rest s.number) next
          ∙ row.registers_more rs xs i l x c.loop-place-test.true c.index-all-place.is c.loop-place.registers.items c.in_ok-register.register (value_registers l rs (t_exprs (exprs_of xs)) c.args.site.slot.number) m kept c.loop-place.invariant.2,
    )

pub expression::values-operand-requires : goal.expression::values-operand-requires
expression::values-operand-requires t c =
    let xs = c.args.all.now in
    let i = c.loop-place.place in
    let x = c.index-all-place.result in
    let rs = library_rates c.args.function c.args.rate in
    let within = value_within xs i x c.loop-place-test.true c.index-all-place.is in
    let asked = subst (Present c.args.on.now) (values_more rs xs i c.loop-place.slot.number x c.loop-place-test.true c.index-all-place.is) c.loop-place.invariant.1 in
    (omega (arith, within, c.decreases), subst (λ r. Present c.args.on.now (operand_asks r (expr_of x) c.loop-place.slot.number)) (sym c.value_rate-taken.ensures) asked.1.0)

pub expression::values-returns-clause-registers : goal.expression::values-returns-clause-registers
expression::values-returns-clause-registers t c =
    row.registers_end (library_rates c.args.function c.args.rate) c.args.all.now c.loop-place.place (layout c.args.on.now) c.loop-place-test.false c.loop-place.registers.items _ c.loop-place.slot.number c.loop-place.invariant.2

pub expression::values-returns-clause-code : goal.expression::values-returns-clause-code
expression::values-returns-clause-code t c =
    c.loop-place.invariant.0 c.loop-place.b (row.code_end (library_rates c.args.function c.args.rate) c.args.all.now c.loop-place.place (layout c.args.on.now) c.loop-place-test.false c.loop-place.b c.args.site.mask.number c.loop-place.slot.number)
