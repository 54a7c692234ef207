use Rattle.std.proofs.Common.{refl, sym, ap, ◌∙◌, subst, ℕ, ◌+◌, ◌<◌, length, List, Some, true, false}
use Rattle.std.proofs.Math.ListN.{length-set}
use Rattle.std.proofs.lemmas.Option.{get_or_from_slice_get}
use Rattle.isp_base.specs.Cross.{run_index}
use Rattle.isp_base.specs.Sets.{flag_of}
use Rattle.isp_base.specs.Values.{number}
use Rattle.isp_base.specs.declared.types.Elem.TheVariants.{I64}
use Rattle.isp_store.proofs.PlacesInOrder.{Placed, past_off, past_inside, found, placed_off, placed_on}
use Rattle.isp_store.proofs.consecutive.run_places.Goals as goal
use Rattle.isp_store.proofs.consecutive.run_places.Goals.{then-get+in-Some, else-get}

pub returns-in-None-clause-lowest : goal.returns-in-None-clause-lowest
returns-in-None-clause-lowest g c =
    let a = c.args in
    let l = c.loop-lane in
    let is = get_or_from_slice_get a.mask.now l.lane true false (c.get.ensures ∙ ap Some c.if-get.true) in
    found a.count (run_index (number I64 a.index)) (flag_of a.mask.now) g.row.N l.lane c.loop-lane-test.true l.invariant.0 is (c.in-None.ensures.outside refl)

pub loop-lane-preserved : goal.loop-lane-preserved
loop-lane-preserved g c =
    let a = c.args in
    let l = c.loop-lane in
    let m = flag_of a.mask.now in
    let at = run_index (number I64 a.index) in
    elim c.if-get.branch [
      | then-get+in-Some w ↦
          let is = get_or_from_slice_get a.mask.now l.lane true false (c.get.ensures ∙ ap Some w.if-get.true) in
          let low : l.lane < length l.places = subst (λ n. l.lane < n) (sym l.invariant.2) c.loop-lane-test.true in (
            past_inside a.count at m l.lane l.invariant.0 is w.in-Some.ensures.inside,
            subst (λ (xs : List ℕ). Placed a.count at m xs (l.lane + 1)) (sym w.places-is) (placed_on a.count at m l.places l.lane w.in-Some.place l.invariant.1 low w.in-Some.ensures.place w.in-Some.ensures.there),
            ap length w.places-is ∙ length-set l.places l.lane w.in-Some.place ∙ l.invariant.2,
          )
      | else-get w ↦
          let off = get_or_from_slice_get a.mask.now l.lane false false (c.get.ensures ∙ ap Some w.if-get.false) in (
            past_off a.count at m l.lane l.invariant.0 off,
            subst (λ (xs : List ℕ). Placed a.count at m xs (l.lane + 1)) (sym w.places-is) (placed_off a.count at m l.places l.lane l.invariant.1 off),
            ap length w.places-is ∙ l.invariant.2,
          )
    ]
