use Rattle.std.proofs.Common.{ℕ, List, None, Vec, Global, sym, subst, length, get_or, ◌∙◌}
use Rattle.std.specs.Prelude.{Option}
use Rattle.std.proofs.lemmas.List.{length-map, length-replicate}
use Rattle.std.proofs.lemmas.Option.{slice_get-get_or}
use Rattle.isp_independence.specs.declared.dependence.Dependence.{Dependence}
use Rattle.isp_independence.specs.declared.dependence.Restriction.TheVariants.{Crossing}
use Rattle.isp_independence.specs.declared.spread.Breach.{Breach}
use Rattle.isp_independence.specs.Tables.{lists_of}
use Rattle.isp_independence.specs.reader.Firsts.{IsOrdered}
use Rattle.isp_independence.specs.reader.Paths.{IsReversed}
use Rattle.isp_independence.proofs.InOrder.{Firsts, firsts_none, firsts_more, firsts_all}
use Rattle.isp_independence.proofs.firsts.firsts.Goals as goal

-- what a read past the end gives
abbrev past : Breach
past = record { function = 0; dependence = record { rule = Crossing; span = record { start = 0; end = 0 } } }

pub loop-breach-init : goal.loop-breach-init
loop-breach-init c =
    let table = lists_of c.args.calls.now in
    let own = c.args.own.now in
    let bs = c.deref-breach-items.result.now in
    subst (λ (z : List (Option Dependence)). Firsts table own bs 0 z) (sym c.in_ok-found.ensures) (firsts_none table own bs (length own) (length-replicate (length own) None))

pub loop-breach-preserved : goal.loop-breach-preserved
loop-breach-preserved c =
    let table = lists_of c.args.calls.now in
    let own = c.args.own.now in
    let bs = c.deref-breach-items.result.now in
    let i = c.loop-breach.breach-index in
    let ordered = subst (λ (z : List Breach). IsOrdered own z) (sym c.deref-breach-items.ensures.value) c.in_ok-breaches.ensures in
    let turned = subst (λ z. IsReversed table (lists_of z)) (sym c.deref.ensures.value) c.in_ok-callers.ensures in
    firsts_more table own bs i c.loop-breach.found.items c.spread.new.found.items (get_or bs i past) ordered (slice_get-get_or bs i past c.loop-breach-test.true) c.loop-breach.invariant
    (c.in_ok-spread.ensures table turned (c.loop-breach.invariant.long ∙ (sym c.requires ∙ sym (length-map c.args.calls.now (λ (v : Vec ℕ Global). v.items)))))

pub returns : goal.returns
returns c =
    let table = lists_of c.args.calls.now in
    let own = c.args.own.now in
    let bs = c.deref-breach-items.result.now in
    let ordered = subst (λ (z : List Breach). IsOrdered own z) (sym c.deref-breach-items.ensures.value) c.in_ok-breaches.ensures in
    firsts_all table own bs c.loop-breach.breach-index c.loop-breach.found.items ordered c.loop-breach-test.false c.loop-breach.invariant
