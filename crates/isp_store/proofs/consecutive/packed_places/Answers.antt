use Rattle.std.proofs.Common.{◌≡◌, refl, sym, ap, ◌∙◌, subst, ℕ, ◌+◌, ◌<◌, length, List, Some, true, false, pos, ◌+ℤ◌, unsigned_abs, arith}
use Rattle.std.proofs.Math.ListN.{length-set}
use Rattle.std.proofs.lemmas.Option.{get_or_from_slice_get}
use Rattle.isp_base.specs.Access.{is_beyond}
use Rattle.isp_base.specs.Cross.{packed_index}
use Rattle.isp_base.specs.Sets.{flag_of}
use Rattle.isp_base.specs.Values.{number}
use Rattle.isp_base.specs.declared.types.Elem.TheVariants.{I64}
use Rattle.isp_store.proofs.PlacesInOrder.{Placed, past_off, past_inside, found, placed_off, placed_on, rank_on, rank_off}
use Rattle.isp_store.proofs.consecutive.packed_places.Goals as goal
use Rattle.isp_store.proofs.consecutive.packed_places.Goals.{then-get+in-Some, else-get}

pub returns-in-None-clause-lowest : goal.returns-in-None-clause-lowest
returns-in-None-clause-lowest g c =
    let a = c.args in
    let l = c.loop-lane in
    let m = flag_of a.mask.now in
    let z = number I64 a.index in
    let is = get_or_from_slice_get a.mask.now l.lane true false (c.get.ensures ∙ ap Some c.if-get.true) in
    let out = subst (λ (r : ℕ). is_beyond a.count (z +ℤ pos r) ≡ true) l.invariant.3 (c.in-None.ensures.outside refl) in
    found a.count (packed_index z m) m g.row.N l.lane c.loop-lane-test.true l.invariant.0 is out

pub loop-lane-preserved : goal.loop-lane-preserved
loop-lane-preserved g c =
    let a = c.args in
    let l = c.loop-lane in
    let m = flag_of a.mask.now in
    let z = number I64 a.index in
    let at = packed_index z m in
    let lower = l.invariant.3 in
    let few = l.invariant.4 in
    elim c.if-get.branch [
      | then-get+in-Some w ↦
          let is = get_or_from_slice_get a.mask.now l.lane true false (c.get.ensures ∙ ap Some w.if-get.true) in
          let low : l.lane < length l.places = subst (λ n. l.lane < n) (sym l.invariant.2) c.loop-lane-test.true in
          let inside = subst (λ (r : ℕ). is_beyond a.count (z +ℤ pos r) ≡ false) lower w.in-Some.ensures.inside in
          let place = subst (λ (r : ℕ). w.in-Some.place ≡ unsigned_abs (z +ℤ pos r)) lower w.in-Some.ensures.place in (
            past_inside a.count at m l.lane l.invariant.0 is inside,
            subst (λ (xs : List ℕ). Placed a.count at m xs (l.lane + 1)) (sym w.places-is) (placed_on a.count at m l.places l.lane w.in-Some.place l.invariant.1 low place w.in-Some.ensures.there),
            ap length w.places-is ∙ length-set l.places l.lane w.in-Some.place ∙ l.invariant.2,
            w.lower-is ∙ ap (λ (r : ℕ). r + 1) lower ∙ sym (rank_on m l.lane is),
            (let e = w.lower-is in omega (arith, e, few)),
          )
      | else-get w ↦
          let off = get_or_from_slice_get a.mask.now l.lane false false (c.get.ensures ∙ ap Some w.if-get.false) in (
            past_off a.count at m l.lane l.invariant.0 off,
            subst (λ (xs : List ℕ). Placed a.count at m xs (l.lane + 1)) (sym w.places-is) (placed_off a.count at m l.places l.lane l.invariant.1 off),
            ap length w.places-is ∙ l.invariant.2,
            w.lower-is ∙ lower ∙ sym (rank_off m l.lane off),
            (let e = w.lower-is in omega (arith, e, few)),
          )
    ]
