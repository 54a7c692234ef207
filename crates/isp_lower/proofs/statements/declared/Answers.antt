use Rattle.std.proofs.Common.{◌+◌, ◌∷◌, drop, sym, ap, subst, ◌∙◌}
use Rattle.std.proofs.lemmas.List.{drop_all, drop_more}
use Rattle.isp_typed.specs.Views.{item_of, items_of}
use Rattle.isp_lower.specs.Emitted.{Appends, Present, layout}
use Rattle.isp_lower_code.specs.Items.{item_code, item_places, items_code, items_places}
use Rattle.isp_registers.proofs.Lemmas.{items_more}
use Rattle.isp_lower.proofs.Landing.{appends_self, appends_then}
use Rattle.isp_lower.proofs.statements.declared.Goals as goal

pub item-requires : goal.item-requires
item-requires c =
    (subst (Present c.args.on.now) (items_more c.args.site.slot.number c.args.items.now c.loop-x.x-index c.x-item.result c.loop-x-test.true c.x-item.is) c.loop-x.invariant.1).0

pub loop-x-preserved : goal.loop-x-preserved
loop-x-preserved c =
    let l = layout c.args.on.now in
    let xs = c.args.items.now in
    let i = c.loop-x.x-index in
    let x = c.x-item.result in
    let k = c.args.site.mask.number in
    let n = c.args.site.slot.number in (
      λ h y.
          c.loop-x.invariant.0 h
          (subst (λ zs. Appends c.loop-x.b h (λ pc p. items_code l (items_of zs) pc p k n) (items_places l (items_of zs))) (sym (drop_more xs i x c.loop-x-test.true ∙ ap (λ z. z ∷ drop (i + 1) xs) (sym c.x-item.is)))
          (appends_then c.loop-x.b c.item.new.b h (λ pc p. item_code l (item_of x) pc p k n)
          (λ pc p. items_code l (items_of (drop (i + 1) xs)) pc p k n) (item_places l (item_of x)) (items_places l (items_of (drop (i + 1) xs)))
          c.in_ok-item.ensures y)),
      (subst (Present c.args.on.now) (items_more n xs i x c.loop-x-test.true c.x-item.is) c.loop-x.invariant.1).1,
    )

pub returns : goal.returns
returns c =
    let l = layout c.args.on.now in
    let xs = c.args.items.now in
    let k = c.args.site.mask.number in
    let n = c.args.site.slot.number in
    c.loop-x.invariant.0 c.loop-x.b
    (subst (λ zs. Appends c.loop-x.b c.loop-x.b (λ pc p. items_code l (items_of zs) pc p k n) (items_places l (items_of zs))) (sym (drop_all c.loop-x.x-index xs c.loop-x-test.false)) (appends_self c.loop-x.b))
