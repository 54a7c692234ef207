use Rattle.std.proofs.Common.{◌≡◌, ◌+◌, length, map, sym, ap, subst, ◌∙◌, arith}
use Rattle.std.specs.Prelude.{slice_get}
use Rattle.std.proofs.lemmas.List.{length-map}
use Rattle.isp_meaning.specs.Calls.{store_or}
use Rattle.isp_gang_run.specs.Seen.{passed_seen}
use Rattle.isp_gang_run.proofs.Begun.{Opening, opening_begins, opening_next, opening_sizes, opening_names}
use Rattle.isp_gang_run.proofs.entering.stores.Goals as goal

pub loop-place-init : goal.loop-place-init
loop-place-init c =
    subst (λ xs. Opening c.args.variables.now (map passed_seen c.args.passed.now) c.args.sizes.now.items c.args.sizes.now.items xs 0) (sym c.new-named.ensures.items)
    (opening_begins c.args.variables.now (map passed_seen c.args.passed.now) c.args.sizes.now.items)

pub loop-place-preserved : goal.loop-place-preserved
loop-place-preserved c =
    let ps = map passed_seen c.args.passed.now in
    subst (λ xs. Opening c.args.variables.now ps c.args.sizes.now.items c.open.new.sizes.items xs (c.loop-place.place + 1)) (sym c.in_ok-push.ensures.items)
    (opening_next c.args.variables.now ps c.args.sizes.now.items c.loop-place.sizes.items c.open.new.sizes.items c.loop-place.named.items c.store_or.result c.loop-place.place c.loop-place.invariant
    (c.store_or.ensures ∙ ap (store_or (slice_get ps c.loop-place.place)) (c.len.ensures ∙ (let e : c.loop-place.sizes.len ≡ length c.loop-place.sizes.items = omega (arith, c.loop-place.sizes.ok.0) in e))) c.in_ok-open.ensures)

pub returns-clause-sizes : goal.returns-clause-sizes
returns-clause-sizes c =
    opening_sizes c.args.variables.now (map passed_seen c.args.passed.now) c.args.sizes.now.items c.loop-place.sizes.items c.loop-place.named.items
    c.loop-place.place c.loop-place.invariant (omega (arith, c.longer-count.ensures.first, c.loop-place-test.false))

pub returns-clause-named : goal.returns-clause-named
returns-clause-named c =
    opening_names c.args.variables.now (map passed_seen c.args.passed.now) c.args.sizes.now.items c.loop-place.sizes.items c.loop-place.named.items c.loop-place.place c.loop-place.invariant
    (omega (arith, c.longer-count.ensures.first, c.loop-place-test.false)) (let h = length-map c.args.passed.now passed_seen in omega (arith, h, c.longer-count.ensures.second, c.loop-place-test.false))
