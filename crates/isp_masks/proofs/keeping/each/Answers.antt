use Rattle.std.proofs.Common.{◌≡◌, ◌+◌, [], drop, sym, subst, true}
use Rattle.isp_lower.specs.Emitted.{Appends, Present, layout}
use Rattle.isp_lower.proofs.Lemmas.{appends_self, appends_then}
use Rattle.isp_masks_code.specs.Keeping.{Each, constants_asks, keep_code}
use Rattle.isp_masks.proofs.ConstantRows.{left_none, left_one, some_constant}
use Rattle.isp_masks.proofs.keeping.each.Goals as goal

pub one-requires-clause-kept : goal.one-requires-clause-kept
one-requires-clause-kept c =
    (subst (Each (λ x. (layout c.args.on.now).kept x.rate x.elem x.bits ≡ true)) (left_one c.args.all.now c.loop-x.x-index _ c.loop-x-test.true) c.loop-x.invariant.1).0

pub one-requires-clause-spare : goal.one-requires-clause-spare
one-requires-clause-spare c =
    (subst (λ zs. Present c.args.on.now (constants_asks c.args.slot.number zs)) (left_one c.args.all.now c.loop-x.x-index _ c.loop-x-test.true) c.loop-x.invariant.2).1.0

pub loop-x-preserved : goal.loop-x-preserved
loop-x-preserved c =
    let l = layout c.args.on.now in
    let n = c.args.slot.number in
    let i = c.loop-x.x-index in
    let rest = drop (i + 1) c.args.all.now in
    let xs = c.args.all.now in
    let lt = c.loop-x-test.true in (
      λ h g.
          c.loop-x.invariant.0 h
          (subst (λ zs. Appends c.loop-x.b h (λ pc p. keep_code l n zs) []) (sym (left_one xs i _ lt))
          (appends_then c.loop-x.b c.one.new.b h _ (λ pc p. keep_code l n rest) [] [] c.in_ok-one.ensures g)),
      (subst (Each (λ y. l.kept y.rate y.elem y.bits ≡ true)) (left_one xs i some_constant lt) c.loop-x.invariant.1).1,
      (subst (λ zs. Present c.args.on.now (constants_asks n zs)) (left_one xs i some_constant lt) c.loop-x.invariant.2).1.1,
    )

pub returns : goal.returns
returns c =
    c.loop-x.invariant.0 c.loop-x.b
    (subst (λ zs. Appends c.loop-x.b c.loop-x.b (λ pc p. keep_code (layout c.args.on.now) c.args.slot.number zs) []) (sym (left_none c.args.all.now c.loop-x.x-index c.loop-x-test.false)) (appends_self c.loop-x.b))
