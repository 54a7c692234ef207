-- `foreach` does what it means, where the code of its body does: its bounds are taken, then the ranges make their runs.
use Rattle.std.proofs.Common.{◌≡◌, ℕ, ◌+◌, List, [], ◌++◌, length, refl, ap, ◌∙◌, subst, arith, length-append, append-nil, Some}
use Rattle.isp_base.specs.Sets.{Mask}
use Rattle.isp_code.specs.Conf.{Conf}
use Rattle.isp_code.specs.declared.instr.Instr.{Instr}
use Rattle.isp_typed.specs.Typed.{TRange}
use Rattle.isp_meaning.specs.Outcomes.{Res, with_value}
use Rattle.isp_meaning.specs.Rounds.{Range, Round, rounds, foreach_rounds, counted}
use Rattle.isp_meaning.specs.State.{State, tick}
use Rattle.isp_meaning.specs.Statements.{ranges}
use Rattle.isp_lower_code.specs.Runs.{Ok}
use Rattle.isp_lower_code.specs.Layout.{NoneFixed}
use Rattle.isp_lower_code.specs.Setting.{Setting, IsSettled, gang_of, calls_of, AreAt}
use Rattle.isp_lower_code.proofs.Lemmas.{are_front, are_back, spares_less}
use Rattle.isp_masks_code.specs.Ranges.{RunBodies, places_slot, runs_slot, measures_code, bounds_code, ranges_code, ranges_places, foreach_code}
use Rattle.isp_masks_code.specs.Spots.{Spot}
use Rattle.isp_masks_code.specs.StmtRuns.{AreThree, EntersAt, StmtRuns}
use Rattle.isp_masks_code.proofs.Bounds.{Measured, bounds_run, measures_run}
use Rattle.isp_masks_code.proofs.Combine.{stmt_after, with_runs}
use Rattle.isp_masks_code.proofs.Counting.{rounds_join}
use Rattle.isp_masks_code.proofs.Parts.{ForeachFits}
use Rattle.isp_masks_code.proofs.Outers.{no_slots, none_below, outer_slots}
use Rattle.isp_masks_code.proofs.RangeRuns.{ranges_run}
use Rattle.isp_masks_code.proofs.RangesHeld.{AreHeld, measures_on, sets_none}
use Rattle.isp_masks_code.proofs.Sweeps.{passes_to, passes_all}
use Rattle.isp_masks_code.proofs.Bodies.{BodiesRun}
use Rattle.isp_masks_code.specs.Free.{last_index_of}

module _ (w : Setting) (ready : IsSettled w) where
  pub foreach_runs : (rs : List TRange) (pc p : ℕ) (spot : Spot) (q : ℕ) (a : Mask) (s : State) (c : Conf) (counter : ℕ) (code : RunBodies)
      (body : Mask → State → Res) → NoneFixed w.layout → last_index_of rs ≡ Some counter → ForeachFits w rs spot.slot
      → BodiesRun w counter (outer_slots rs (places_slot spot.slot rs) no_slots) (runs_slot spot.slot rs) code body → AreAt w.routine.code pc (foreach_code w.layout rs pc p spot.on spot.slot code)
      → AreAt w.code.places p (ranges_places w.layout rs) → AreThree spot → EntersAt w pc spot a s c q
      → StmtRuns w w.turns c (pc + length (foreach_code w.layout rs pc p spot.on spot.slot code)) spot q
      (with_value (ranges (gang_of w) w.frame (calls_of w) rs a (tick s))
      (λ xs s1. rounds body a (foreach_rounds (gang_of w) xs) (record s1 { work = s1.work + counted (gang_of w) 1 xs })))
  foreach_runs rs pc p spot q a s c counter code body none li fit runs has places three b =
      stmt_after w ready w.turns c c1 8 end spot q _ first.comes first.low.spares (λ r lt ne. first.low.masks r lt) three
      (with_runs w ready c1 pc2 (n + 1 + 1) 6 (8 + q) (λ xs c2. AreHeld w rs xs (n + 1 + 1) c2) (ranges (gang_of w) w.frame (calls_of w) rs a (tick s)) _ end spot
      (bounds_run w ready rs pc1 p spot.on (n + 1 + 1) (6 + (8 + q)) a (tick s) c1 fit.bounds (are_front w.routine.code pc1 bounds last rest) places
      (record {
        at = first.at;
        mask = first.low.masks spot.on three.low_on
            ∙ b.mask;
        some = b.some;
        inside = b.inside;
        stands = first.stands;
        used = omega (arith, b.used);
        low = omega (arith, three.low_on);
      }))
      (λ xs s1 ok. after xs s1 ok))
    where
      n : ℕ
      n = spot.slot

      h : ℕ
      h = runs_slot n rs

      measures : List Instr
      measures = measures_code w.layout n h

      pc1 : ℕ
      pc1 = pc + 8

      bounds : List Instr
      bounds = bounds_code w.layout rs pc1 p spot.on (n + 1 + 1)

      pc2 : ℕ
      pc2 = pc1 + length bounds

      last : List Instr
      last = ranges_code w.layout n h code rs [] (n + 1 + 1) (places_slot n rs) pc2

      end : ℕ
      end = pc + length (foreach_code w.layout rs pc p spot.on n code)

      ends : pc2 + length last ≡ end
      ends = omega (arith, length-append measures (bounds ++ last), length-append bounds last)

      first : Measured w ready n pc (tick s) c
      first = measures_run w ready n h pc (tick s) c (omega arith) fit.measures (are_front w.routine.code pc measures (bounds ++ last) has) b.at b.stands

      c1 : Conf
      c1 = first.conf

      rest : AreAt w.routine.code pc1 (bounds ++ last)
      rest = are_back w.routine.code pc measures (bounds ++ last) has

      after : (xs : List Range) (s1 : State) (ok : Ok w c1 pc2 (n + 1 + 1) (6 + (8 + q)) (AreHeld w rs xs (n + 1 + 1)) s1)
          → StmtRuns w w.turns c1 end spot (8 + q) (rounds body a (foreach_rounds (gang_of w) xs)
          (record s1 { work = s1.work + counted (gang_of w) 1 xs }))
      after xs s1 ok =
          stmt_after w ready w.turns c1 c2 ok.steps end spot (8 + q) v ok.comes (spares_less w n (n + 1 + 1) c1 c2 (omega arith) ok.spares) (λ r lt ne. ok.masks r (omega (arith, lt))) three
          (subst (λ u. StmtRuns w w.turns c2 end spot (ok.steps + (8 + q)) u) (rounds_join body a list [] s2 ∙ ap (λ rs. rounds body a rs s2) (append-nil list))
          (passes_all w ready c2 end spot (ok.steps + (8 + q)) a v three (ok.masks spot.on (omega (arith, three.low_on)) ∙ first.low.masks spot.on three.low_on ∙ b.mask)
          (passes_to w ready c2 (pc2 + length last) end (places_slot n rs) n (ok.steps + (8 + q)) v ends (omega arith)
          (ranges_run w ready body a n h counter (outer_slots rs (places_slot n rs) no_slots) code none runs rs xs li [] (λ m u. u) (n + 1 + 1) (places_slot n rs) pc2 c2 s2 (ok.steps + (8 + q))
          no_slots refl (none_below (places_slot n rs)) (λ m u v ne. tt)
          (omega (arith, fit.few)) (omega arith) (omega arith) (omega arith) fit.places ok.holds
          (measures_on w n (n + 1 + 1) c1 c2 (omega arith) (record { spares = ok.spares; masks = ok.masks }) first.has)
          (sets_none w ready h (places_slot n rs) c2) (are_back w.routine.code pc1 bounds last rest) ok.at ok.stands (omega (arith, ok.bound))))))
        where
          c2 : Conf
          c2 = ok.conf

          s2 : State
          s2 = record s1 { work = s1.work + counted (gang_of w) 1 xs }

          list : List Round
          list = foreach_rounds (gang_of w) xs

          v : Res
          v = rounds body a list s2
