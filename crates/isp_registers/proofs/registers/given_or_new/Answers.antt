use Rattle.std.proofs.Common.{◌≡◌, ◌∙◌, ap, sym, refl, subst, length}
use Rattle.std.specs.Prelude.{IfSome, Some}
use Rattle.std.proofs.lemmas.Result.{on_ok_weaker}
use Rattle.isp_registers.specs.Lookup.{name_of}
use Rattle.isp_registers.proofs.Lookup.{elem_pushed, own_is, pushed_keeps}
use Rattle.isp_registers.proofs.registers.given_or_new.Goals as goal

pub push-requires-clause-named : goal.push-requires-clause-named
push-requires-clause-named c = c.requires.asked (length c.args.rows.now)

pub push-requires-clause-own : goal.push-requires-clause-own
push-requires-clause-own c = subst (λ o. IfSome o (λ u. c.args.elem ≡ u)) (sym c.requires.own) refl

pub returns-in-Some-clause-elem : goal.returns-in-Some-clause-elem
returns-in-Some-clause-elem c = c.in-Some.ensures.elem ∙ ap (λ t. Some t) (own_is (name_of c.args.name) c.in-Some.field-0.1 c.args.elem c.requires.own c.in-Some.ensures.own)

pub returns-in-None-clause-kept : goal.returns-in-None-clause-kept
returns-in-None-clause-kept c =
    on_ok_weaker c.push.result (λ all t b. pushed_keeps c.args.rows.now c.push.new.self (record { name = c.args.name; elem = c.args.elem }) all t b c.requires.plain) c.push.ensures.ok

pub returns-in-None-clause-elem : goal.returns-in-None-clause-elem
returns-in-None-clause-elem c =
    on_ok_weaker c.push.result (λ all. elem_pushed c.args.rows.now c.push.new.self (record { name = c.args.name; elem = c.args.elem }) all c.in-None.ensures.none) c.push.ensures.ok
