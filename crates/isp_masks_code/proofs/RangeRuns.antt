-- The ranges of a `foreach` make its runs: by recursion on the ranges, the last of which is taken in runs.
use Rattle.std.proofs.Common.{◌≡◌, ℕ, ◌+◌, ◌*◌, ◌<◌, ◌≤◌, List, [], ◌∷◌, ◌++◌, length, map, Option, Some, Bool, true, false, refl, sym, ap, ap₂, ◌∙◌, subst, arith, length-append}
use Rattle.std.specs.Prelude.{slice_get, ◌≢◌, ℤ, int_lt, not, if◌then◌else◌}
use Rattle.std.proofs.Math.Nat.{one-mul}
use Rattle.std.proofs.Math.Path.{fun_ext}
use Rattle.isp_base.specs.Sets.{Mask}
use Rattle.isp_base.specs.Values.{convert_bits, number, wrap}
use Rattle.isp_base.specs.declared.operators.Compare.TheVariants.{Less}
use Rattle.isp_base.specs.declared.types.Elem.TheVariants.{Bool as Truth, I32, I64}
use Rattle.isp_base.specs.declared.types.Rate.TheVariants.{Uniform}
use Rattle.isp_code.specs.Conf.{Conf, Go}
use Rattle.isp_code.specs.Lines.{act}
use Rattle.isp_code.specs.declared.instr.Instr.{Instr}
use Rattle.isp_code.specs.declared.instr.Instr.TheVariants as instr
use Rattle.isp_code.specs.declared.instr.JumpTest.TheVariants as jump
use Rattle.isp_code.specs.declared.instr.Plain.TheVariants as plain
use Rattle.isp_typed.specs.Typed.{TRange}
use Rattle.isp_meaning.specs.Outcomes.{Res}
use Rattle.isp_meaning.specs.Payloads.{One, is_true}
use Rattle.isp_meaning.specs.Rounds.{Range, Run, Round, rounds, length_of, runs_for, from_on, last_run, with_outer, joined_lists, runs_of, counted}
use Rattle.isp_meaning.specs.State.{State}
use Rattle.isp_lower_code.specs.Instructions.{compare, compute, convert, copy}
use Rattle.isp_lower_code.specs.Layout.{NoneFixed, register}
use Rattle.isp_lower_code.specs.Runs.{Comes}
use Rattle.isp_lower_code.specs.Setting.{Setting, IsSettled, AreAt, At, Stands}
use Rattle.isp_lower_code.proofs.Lemmas.{are_front, put_same, put_other, comes_on, jumped, jump_comes, jump_at, set_at, set_comes, set_goes, set_spares, set_stands}
use Rattle.isp_masks_code.specs.Free.{last_index_of}
use Rattle.isp_masks_code.specs.Ranges.{RunBodies, wide, narrow, test, outer_index, ranges_code}
use Rattle.isp_masks_code.proofs.Bodies.{BodiesRun, OutersAre}
use Rattle.isp_masks_code.proofs.Counting.{counts_ones, counts_runs, counted_by, turns_cost, map_of_joined, map_of_map}
use Rattle.isp_masks_code.proofs.FullRuns.{runs_all}
use Rattle.isp_masks_code.proofs.LastRuns.{IsRuns, run_place_is}
use Rattle.isp_masks_code.proofs.Parts.{RangesTyped}
use Rattle.isp_masks_code.proofs.Outers.{AreBelow, one_below, outer_slots, outers_more, with_slot}
use Rattle.isp_masks_code.proofs.RangesHeld.{AreHeld, HasMeasures, Sets, gang, held_on, measures_on, round_after, sets_more, with_index}
use Rattle.isp_masks_code.proofs.Sweeps.{Low, low_all, low_on, Passes, passes_after, passes_to, IsSweep, sweep_runs}

module _ (w : Setting) (ready : IsSettled w) (body : Mask → State → Res) (all : Mask) (n h counter : ℕ) (slots : ℕ → Option ℕ) (code : RunBodies) (none : NoneFixed w.layout) (runs : BodiesRun w counter slots h code body) where
  one_some : (i j : ℕ) → Some i ≡ Some j → i ≡ j
  one_some i j e = cc

  -- what the ranges from one on do, whose bounds begin at slot e and whose places begin at slot m; the values of those outside are in some slots
  abbrev pub RangesRun : List TRange → List Range → Type 0
  RangesRun rs xs =
      last_index_of rs ≡ Some counter → (set : List Instr) (before : Mask → State → State) (e m pc : ℕ) (c0 : Conf) (s : State) (q : ℕ)
      → (outer : ℕ → Option ℕ) → slots ≡ outer_slots rs m outer → AreBelow outer m → ((a : Mask) (s1 : State) → OutersAre w outer counter a (before a s1) c0)
      → length set + length rs ≤ 3 → n + 1 < e → e + (length rs + length rs) ≤ m → m + (length rs + length rs) ≤ h → RangesTyped w rs m
      → AreHeld w rs xs e c0 → HasMeasures w n c0 → Sets w h m c0 set before
      → AreAt w.routine.code pc (ranges_code w.layout n h code rs set e m pc) → At w c0 pc → Stands w s c0
      → 6 + 32 * counted (gang w) 1 xs + q ≤ 32 * s.work
      → Passes w c0 (pc + length (ranges_code w.layout n h code rs set e m pc)) m q (rounds body all (map (round_after before) (runs_of (gang w) xs)) s)

  flipped : (b : Bool) (x y : ℕ) → (if not b then x else y) ≡ (if b then y else x)
  flipped true x y = refl
  flipped false x y = refl

  -- the place begins at the start
  module _ (e m pc : ℕ) (c0 : Conf) (em : e + 1 < m) (has : slice_get w.routine.code pc ≡ Some (copy Uniform (wide w.layout m) (wide w.layout e) 0)) (at : At w c0 pc) where
    abbrev begun : Conf
    begun = set_at Uniform c0 (wide w.layout m) (One (c0.scalars (wide w.layout e)))

    begun_comes : Comes w c0 1 begun
    begun_comes = set_comes w ready Uniform c0 (wide w.layout m) (One (c0.scalars (wide w.layout e))) pc (copy Uniform (wide w.layout m) (wide w.layout e) 0) at has refl

    begun_at : At w begun (pc + 1)
    begun_at = set_goes w ready Uniform c0 (wide w.layout m) (One (c0.scalars (wide w.layout e))) pc at

    begun_low : Low w m c0 begun
    begun_low = record { spares = set_spares w ready Uniform c0 I64 m m (One (c0.scalars (wide w.layout e))) (omega arith); masks = λ r lt. refl }

    begun_place : begun.scalars (wide w.layout m) ≡ c0.scalars (wide w.layout e)
    begun_place = put_same c0.scalars (wide w.layout m) (c0.scalars (wide w.layout e))

    begun_stands : (s : State) → Stands w s c0 → Stands w s begun
    begun_stands s st = set_stands w ready Uniform c0 I64 m (One (c0.scalars (wide w.layout e))) s st

  last_range : (r : TRange) (x : Range) → RangesRun (r ∷ []) (x ∷ [])
  last_range r x li set before e m pc c0 s q outer is_outer below_it told few ne em mh typed held measures sets has at st le =
      subst (λ rs. Passes w c0 stop m q (rounds body all rs s)) (sym (map_of_map (round_after before) (last_run (gang w) x) (from_on (gang w) count x.start)))
      (runs_all w ready none n h r.index x e m d set before c0 it code body all own pc stop has refl count x.start s c0 q held.0.start held.0.low
      (counts_runs w.code.gang count x.start x.end refl) at (low_all w m c0) st (omega (arith, le, one-mul count)))
    where
      d : Bool
      d = w.layout.loaded r.index

      stop : ℕ
      stop = pc + length (ranges_code w.layout n h code (r ∷ []) set e m pc)

      count : ℕ
      count = runs_for (gang w) (length_of x)

      same : counter ≡ r.index
      same = sym (one_some r.index counter li)

      own : BodiesRun w r.index outer h code body
      own = subst (λ (f : ℕ → Option ℕ). BodiesRun w r.index f h code body) is_outer (subst (λ j. BodiesRun w j slots h code body) same runs)

      it : IsRuns w n h r.index x e m d set before c0
      it = record {
        place = run_place_is w ready none r.index h m d refl (omega (arith, mh)) typed.0.run typed.0.place;
        index = held.0.index;
        slots = outer;
        above = omega (arith, ne, em);
        below_it = below_it;
        outers = λ a s1. subst (λ j. OutersAre w outer j a (before a s1) c0) same (told a s1);
        ends = omega (arith, em);
        below = omega (arith, mh);
        high = held.0.high;
        bottom = held.0.bottom;
        short = typed.0.short;
        limited = typed.0.limited;
        tested = typed.0.tested;
        typed = typed.0.index;
        measures = measures;
        the_end = held.0.end;
        sets = sets;
        few = omega (arith, few);
      }

  outer_range : (r q : TRange) (rs : List TRange) (x y : Range) (ys : List Range) → RangesRun (q ∷ rs) (y ∷ ys) → RangesRun (r ∷ q ∷ rs) (x ∷ y ∷ ys)
  outer_range r q rs x y ys inner li set before e m pc c0 s u outer is_outer below_it told few ne em mh typed held measures sets has at st le =
      passes_after w ready c0 c1 1 stop' m u _ (begun_comes e m pc c0 below has.0 at) lo1
      (passes_to w ready c1 stop stop' m m (1 + u) _ ends (omega arith)
      (subst (λ rs. Passes w c1 stop m (1 + u) (rounds body all rs s)) lists
      (sweep_runs w ready body all m (n + 1) 1 x.end inside turn (32 + 32 * cost) (7 + 32 * cost) top stop c1 it count x.start s c1 (1 + u)
      (counts_ones count x.start x.end refl) held.0.low
      (record {
        at = begun_at e m pc c0 below has.0 at;
        low = low_all w m c1;
        place = ap (number I64) (begun_place e m pc c0 below has.0 at)
            ∙ held.0.start;
        stands = begun_stands e m pc c0 below has.0 at s st;
      }) (omega (arith, le, paid, turns_cost count cost)))))
    where
      below : e + 1 < m
      below = omega (arith, em)

      c1 : Conf
      c1 = begun e m pc c0 below has.0 at

      lo1 : Low w m c0 c1
      lo1 = begun_low e m pc c0 below has.0 at

      top : ℕ
      top = pc + 1

      g : ℕ
      g = narrow w.layout (m + 1)

      more : List Instr
      more = set ++ outer_index w.layout r.index (m + 1) h ∷ []

      inner_code : ℕ → List Instr
      inner_code pc1 = ranges_code w.layout n h code (q ∷ rs) more (e + 1 + 1) (m + 1 + 1) pc1

      inside : ℕ → List Instr
      inside pc1 = convert Uniform g (wide w.layout m) 0 ∷ inner_code (pc1 + 1)

      after : List Instr
      after = compute Uniform plain.Add (wide w.layout m) (wide w.layout m) (wide w.layout (n + 1)) 0 ∷ instr.Jump top ∷ []

      stop : ℕ
      stop = top + 1 + 1 + length (inside (top + 1 + 1) ++ after)

      stop' : ℕ
      stop' = pc + length (ranges_code w.layout n h code (r ∷ q ∷ rs) set e m pc)

      ends : stop ≡ stop'
      ends = omega arith

      count : ℕ
      count = length_of x

      cost : ℕ
      cost = counted (gang w) 1 (y ∷ ys)

      paid : counted (gang w) 1 (x ∷ y ∷ ys) ≡ count + count * cost
      paid = ap₂ (λ a b. a + b) (one-mul count) (counted_by (gang w) (1 * count) (y ∷ ys) ∙ ap (λ a. a * cost) (one-mul count))

      runs' : List Run
      runs' = runs_of (gang w) (y ∷ ys)

      turn : ℤ → List Round
      turn z = map (round_after (with_index x.index z before)) runs'

      lists : joined_lists (map turn (from_on 1 count x.start)) ≡ map (round_after before) (joined_lists (map (λ z. map (with_outer x.index z) runs') (from_on 1 count x.start)))
      lists =
          sym (map_of_joined (round_after before) (λ z. map (with_outer x.index z) runs') (from_on 1 count x.start)
          ∙ ap (λ f. joined_lists (map f (from_on 1 count x.start)))
          (fun_ext (λ z. map_of_map (round_after before) (with_outer x.index z) runs')))

      tested : (z : ℤ) (c : Conf) → At w c top → Low w m c1 c → number I64 (c.scalars (wide w.layout m)) ≡ z
          → (c4 : Conf) × Comes w c 2 c4 × At w c4 (if int_lt z x.end then top + 1 + 1 else stop) × Low w m c c4 × (c4.scalars (wide w.layout m) ≡ c.scalars (wide w.layout m)) × ((s1 : State) → Stands w s1 c → Stands w s1 c4) × Unit {0}
      tested z c at1 lo place =
          let d = test w.layout (m + 1) in
          let b : ℕ = if int_lt (number I64 (c.scalars (wide w.layout m))) (number I64 (c.scalars (wide w.layout (e + 1)))) then 1 else 0 in
          let i = compare Uniform Less d (wide w.layout m) (wide w.layout (e + 1)) 0 in
          let c3 = set_at Uniform c d (One b) in
          let at3 = set_goes w ready Uniform c d (One b) top at1 in
          let the_end : number I64 (c.scalars (wide w.layout (e + 1))) ≡ x.end = ap (number I64) (lo.spares.scalars_stay I64 (e + 1) below ∙ lo1.spares.scalars_stay I64 (e + 1) below) ∙ held.0.end in
          let is : act w.code w.routine c i ≡ Go (set_at Uniform c d (One b)) = ap (λ t. Go (set_at Uniform c d (One (if int_lt (number t (c.scalars (wide w.layout m))) (number t (c.scalars (wide w.layout (e + 1)))) then 1 else 0)))) typed.0.place in
          let so : is_true (c3.scalars d) ≡ int_lt z x.end = ap is_true (put_same c.scalars d b) ∙ ap₂ (λ v t. is_true (if int_lt v t then 1 else 0)) place the_end ∙ true_so (int_lt z x.end) in
          let apart : m ≢ m + 1 = omega arith in (
            jumped w ready c3 jump.False (register Uniform d) stop,
            comes_on w c c3 _ 1 1 (set_comes w ready Uniform c d (One b) top i at1 has.1.0 is)
                (jump_comes w ready c3 (top + 1) jump.False (register Uniform d) stop at3 has.1.1.0),
            subst
                (λ v. At w (jumped w ready c3 jump.False (register Uniform d) stop) v) (flipped (int_lt z x.end) stop (top + 1 + 1))
                (jump_at w ready c3 (top + 1) jump.False (register Uniform d) stop (not (int_lt z x.end)) at3 (ap not so)),
            record
                { spares = set_spares w ready Uniform c Truth m (m + 1) (One b) (omega arith); masks = λ j lt. refl },
            put_other c.scalars d b
                (wide w.layout m) (ready.apart.spares Uniform I64 Truth m (m + 1) apart),
            (λ s1 st1. set_stands w ready Uniform c Truth (m + 1) (One b) s1 st1),
            tt,
          )
        where
          true_so : (v : Bool) → is_true (if v then 1 else 0) ≡ v
          true_so true = refl
          true_so false = refl

      turned : (z : ℤ) (s1 : State) (c : Conf) (v : ℕ) → At w c (top + 1 + 1) → Low w m c1 c → number I64 (c.scalars (wide w.layout m)) ≡ z
          → Stands w s1 c → 7 + 32 * cost + v ≤ 32 * s1.work
          → Passes w c (top + 1 + 1 + length (inside (top + 1 + 1))) (m + 1) v (rounds body all (turn z) s1)
      turned z s1 c v at1 lo place st1 le1 =
          passes_after w ready c c2 1 (top + 1 + 1 + length (inside (top + 1 + 1))) (m + 1) v _
          (set_comes w ready Uniform c g (One b) (top + 1 + 1) (convert Uniform g (wide w.layout m) 0) at1 body_code.0 conv_is)
          (record { spares = set_spares w ready Uniform c I32 (m + 1) (m + 1) (One b) (omega arith); masks = λ j lt. refl })
          (passes_to w ready c2 (top + 1 + 1 + 1 + length (inner_code (top + 1 + 1 + 1))) (top + 1 + 1 + length (inside (top + 1 + 1))) (m + 1 + 1) (m + 1) (1 + v) _ (omega arith) (omega arith)
          (inner li more (with_index x.index z before) (e + 1 + 1) (m + 1 + 1) (top + 1 + 1 + 1) c2 s1 (1 + v)
          (with_slot r.index (m + 1) outer) is_outer (one_below r.index m outer below_it)
          (subst (λ j. (a : Mask) (s2 : State) → OutersAre w (with_slot r.index (m + 1) outer) counter a (with_index j z before a s2) c2) (sym held.0.index) (outers_more w outer counter r.index m z before c0 c2 below_it lo02 bits told))
          (omega (arith, few, length-append set (outer_index w.layout r.index (m + 1) h ∷ []))) (omega (arith, ne)) (omega (arith, em))
          (omega (arith, mh)) typed.1 (held_on w (q ∷ rs) (y ∷ ys) (e + 1 + 1) m c0 c2 (omega (arith, em)) lo02 held.1)
          (measures_on w n m c0 c2 (omega (arith, ne, below)) lo02 measures)
          (subst (λ j. Sets w h (m + 1 + 1) c2 more (with_index j z before)) (sym held.0.index) (sets_more w ready h m r.index z c0 c2 set before (none r.index) lo02 bits sets))
          body_code.1 (set_goes w ready Uniform c g (One b) (top + 1 + 1) at1) (set_stands w ready Uniform c I32 (m + 1) (One b) s1 st1) (omega (arith, le1))))
        where
          b : ℕ
          b = wrap I32 (number I64 (c.scalars (wide w.layout m)))

          c2 : Conf
          c2 = set_at Uniform c g (One b)

          body_code : AreAt w.routine.code (top + 1 + 1) (inside (top + 1 + 1))
          body_code = are_front w.routine.code (top + 1 + 1) (inside (top + 1 + 1)) after has.1.1.1

          conv_is : act w.code w.routine c (convert Uniform g (wide w.layout m) 0) ≡ Go (set_at Uniform c g (One b))
          conv_is = ap₂ (λ t j. Go (set_at Uniform c g (One (convert_bits t (number j (c.scalars (wide w.layout m))))))) typed.0.short typed.0.place

          lo02 : Low w m c0 c2
          lo02 = low_on w m c0 c c2 (low_on w m c0 c1 c lo1 lo) (record { spares = set_spares w ready Uniform c I32 m (m + 1) (One b) (omega arith); masks = λ j lt. refl })

          bits : c2.scalars g ≡ wrap I32 z
          bits = put_same c.scalars g b ∙ ap (wrap I32) place

      it : IsSweep w body all m (n + 1) 1 x.end inside turn (32 + 32 * cost) (7 + 32 * cost) top stop c1
      it = record {
        Good = λ z c. Unit {0};
        code = has.1.1.1;
        stops = omega (arith, length-append (inside (top + 1 + 1)) after);
        low = omega (arith, ne, below);
        typed = typed.0.place;
        step = ap (number I64) (lo1.spares.scalars_stay I64 (n + 1) (omega (arith, ne, below))) ∙ measures.one;
        few = omega arith;
        high = held.0.high;
        enough = omega arith;
        test = tested;
        turns = λ z s1 c v zl lt at1 lo place good st1 le1. turned z s1 c v at1 lo place st1 le1;
      }

  pub ranges_run : (rs : List TRange) (xs : List Range) → RangesRun rs xs
  ranges_run [] [] li set before e m pc c0 s q outer is_outer below_it told few ne em mh typed held measures sets has at st le = absurd (cc)
  ranges_run [] (x ∷ xs) li set before e m pc c0 s q outer is_outer below_it told few ne em mh typed held measures sets has at st le = absurd held
  ranges_run (r ∷ rs) [] li set before e m pc c0 s q outer is_outer below_it told few ne em mh typed held measures sets has at st le = absurd held
  ranges_run (r ∷ []) (x ∷ []) li set before e m pc c0 s q outer is_outer below_it told few ne em mh typed held measures sets has at st le = last_range r x li set before e m pc c0 s q outer is_outer below_it told few ne em mh typed held measures sets has at st le
  ranges_run (r ∷ []) (x ∷ y ∷ ys) li set before e m pc c0 s q outer is_outer below_it told few ne em mh typed held measures sets has at st le = absurd held.1
  ranges_run (r ∷ p ∷ rs) (x ∷ []) li set before e m pc c0 s q outer is_outer below_it told few ne em mh typed held measures sets has at st le = absurd held.1
  ranges_run (r ∷ p ∷ rs) (x ∷ y ∷ ys) li set before e m pc c0 s q outer is_outer below_it told few ne em mh typed held measures sets has at st le = outer_range r p rs x y ys
      (ranges_run (p ∷ rs) (y ∷ ys)) li set before e m pc c0 s q outer is_outer below_it told few ne em mh typed held measures sets has at st le
