use Rattle.std.proofs.Common.{◌≡◌, ◌+◌, ◌++◌, ◌∙◌, length, drop, ap, refl, sym, subst, append-nil}
use Rattle.isp_typed.specs.Views.{expr_of, ranges_of}
use Rattle.isp_lower_code.specs.Spans.{expr_places}
use Rattle.isp_lower.specs.Emitted.{Appends, Present, layout}
use Rattle.isp_registers.specs.declared.numbered.Slot.{Slot}
use Rattle.isp_lower.proofs.Lemmas.{appends_then}
use Rattle.isp_masks_code.specs.Asks.{bounds_asks}
use Rattle.isp_masks_code.specs.Ranges.{bound_code, bounds_code, ranges_places}
use Rattle.isp_masks_code.proofs.Lemmas.{ranges_end, ranges_more}
use Rattle.isp_masks.proofs.ranges.bounds.Goals as goal

pub loop-x-preserved : goal.loop-x-preserved
loop-x-preserved c =
    let a = c.args in
    let l = layout a.on.now in
    let k = a.site.mask.number in
    let m = c.loop-x.at.number in
    let x = expr_of c.x-item.result.start in
    let y = expr_of c.x-item.result.end in
    let left = ranges_of (drop (c.loop-x.x-index + 1) a.all.now) in
    let more = ranges_more a.all.now c.loop-x.x-index c.x-item.result c.loop-x-test.true c.x-item.is in
    let second : c.next-second.result.number ≡ m + 1 = ap (λ (s : Slot). s.number) c.next-second.ensures in
    let next : c.next-at.result.number ≡ m + 1 + 1 = ap (λ (s : Slot). s.number) c.next-at.ensures ∙ ap (λ j. j + 1) second in
    let asked = subst (λ zs. Present a.on.now (bounds_asks zs m)) more c.loop-x.invariant.1 in
    let end = subst (λ j. Appends c.bound.new.b c.bound-in-loop-x.new.b (λ pc p. bound_code l y pc p k j) (expr_places l y)) second c.in_ok-bound-2.ensures in (
      λ z g.
          c.loop-x.invariant.0 z
          (subst (λ zs. Appends c.loop-x.b z (λ pc p. bounds_code l zs pc p k m) (ranges_places l zs)) (sym more)
          (appends_then c.loop-x.b c.bound.new.b z (λ pc p. bound_code l x pc p k m)
          (λ pc p. bound_code l y pc p k (m + 1) ++ bounds_code l left (pc + length (bound_code l y pc p k (m + 1)))
          (p + length (expr_places l y)) k (m + 1 + 1)) (expr_places l x) (expr_places l y ++ ranges_places l left)
          c.in_ok-bound.ensures
          (appends_then c.bound.new.b c.bound-in-loop-x.new.b z (λ pc p. bound_code l y pc p k (m + 1)) (λ pc p. bounds_code l left pc p k (m + 1 + 1)) (expr_places l y) (ranges_places l left)
          end (subst (λ j. Appends c.bound-in-loop-x.new.b z (λ pc p. bounds_code l left pc p k j) (ranges_places l left)) next g)))),
      subst (λ j. Present a.on.now (bounds_asks left j)) (sym next) asked.1.1.1.1,
    )

pub returns : goal.returns
returns c =
    let l = layout c.args.on.now in
    let b = c.loop-x.b in
    c.loop-x.invariant.0 b
    (subst (λ zs. Appends b b (λ pc p. bounds_code l zs pc p c.args.site.mask.number c.loop-x.at.number) (ranges_places l zs)) (sym (ranges_end c.args.all.now c.loop-x.x-index c.loop-x-test.false))
    (record { code = sym (append-nil b.code.items); places = sym (append-nil b.places.items); texts = refl }))
