use Rattle.std.proofs.Common.{◌≡◌, ℕ, ◌<◌, ◌≤◌, subst, sym, ⊎_elim, arith, bit_or}
use Rattle.std.proofs.lemmas.Bool.{cases_lt}
use Rattle.std.proofs.lemmas.Nat.{le_or_l, le_or_r}
use Rattle.isp_base.specs.Maps.{lane_of}
use Rattle.isp_cells.proofs.index.are_below.Goals as goal

pub loop-lane-preserved : goal.loop-lane-preserved
loop-lane-preserved g c = λ p h. ⊎_elim (λ (b : p < lane). before p b) (λ (b : lane ≤ p). here p (omega (arith, h, b))) (cases_lt p lane)
  where
    lane : ℕ
    lane = c.loop-lane.lane

    x : ℕ → ℕ
    x = lane_of c.args.places.now

    before : (p : ℕ) → p < lane → x p ≤ bit_or c.loop-lane.bits (x lane)
    before p b =
        let low = c.loop-lane.invariant p b in
        let more = le_or_l c.loop-lane.bits (x lane) in
        omega (arith, low, more)

    here : (p : ℕ) → p ≡ lane → x p ≤ bit_or c.loop-lane.bits (x lane)
    here p e = subst (λ (k : ℕ). x k ≤ bit_or c.loop-lane.bits (x lane)) (sym e) (le_or_r c.loop-lane.bits (x lane))
