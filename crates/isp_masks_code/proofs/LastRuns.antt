-- A run of the last range of a `foreach`: its indices are set, or go on from those of the run before, and its body runs.
use Rattle.std.proofs.Common.{◌≡◌, ℕ, ◌+◌, ◌*◌, ◌<◌, ◌≤◌, List, [], ◌++◌, length, Option, Some, Bool, true, false, refl, sym, ap, ap₂, ◌∙◌, subst, arith, length-append, None}
use Rattle.std.specs.Prelude.{◌≢◌, ℤ, pos, ◌+ℤ◌, ◌≤ℤ◌, ◌^◌, ◌&&◌, nat_lt, int_lt, slice_get, if◌then◌else◌}
use Rattle.std.proofs.lemmas.Int.{ints}
use Rattle.isp_base.proofs.Gangs.{few_width, some_width}
use Rattle.isp_base.specs.Maps.{Lanes, on, over, map2, or_old, put}
use Rattle.isp_base.specs.Ranges.{IsValue}
use Rattle.isp_base.specs.Sets.{Mask}
use Rattle.isp_base.specs.Types.{widest}
use Rattle.isp_base.specs.Values.{convert_bits, number, op_bits, wrap}
use Rattle.isp_base.specs.declared.operators.BinOp.TheVariants as op
use Rattle.isp_base.specs.declared.types.Elem.TheVariants.{Bool as Truth, I32, I64}
use Rattle.isp_base.specs.declared.types.Rate.TheVariants.{Uniform, Varying}
use Rattle.isp_code.specs.Conf.{Conf, Go}
use Rattle.isp_code.specs.Lines.{act}
use Rattle.isp_code.specs.Registers.{elem_of}
use Rattle.isp_code.specs.declared.instr.Instr.{Instr}
use Rattle.isp_code.specs.declared.instr.Plain.TheVariants as plain
use Rattle.isp_meaning.specs.Outcomes.{Res, Went, Trapped, Cut, go_on}
use Rattle.isp_meaning.specs.Payloads.{Payload, One, Each, sole}
use Rattle.isp_meaning.specs.Places.{written}
use Rattle.isp_meaning.specs.Rounds.{Range, last_run}
use Rattle.isp_meaning.specs.State.{State}
use Rattle.isp_lower_code.specs.Instructions.{compute, convert, splat}
use Rattle.isp_lower_code.specs.Consecutive.{CountsFrom, RunHolds}
use Rattle.isp_lower_code.specs.Layout.{Layout, NoneFixed, register, within}
use Rattle.isp_lower_code.specs.Runs.{Comes, DoneOk}
use Rattle.isp_lower_code.specs.Setting.{Setting, IsSettled, gang_of, AreAt, At, Stands, Spares}
use Rattle.isp_lower_code.specs.Tables.{IsTyped}
use Rattle.isp_lower_code.proofs.Lemmas.{scalar_put, are_front, are_back, put_same, put_other, comes_on, at_to, spares_less, spares_on, failed_less, stopped_less}
use Rattle.isp_lower_code.proofs.Lemmas.{set_at, set_comes, set_goes, set_spares, set_stands, variable_spares, written_stands, known_put, no_run, none_holds}
use Rattle.isp_masks_code.specs.Ranges.{wide, narrow, test, lane, last_index, next_index, run_place}
use Rattle.isp_masks_code.specs.Spots.{body_spot}
use Rattle.isp_masks_code.specs.StmtRuns.{StmtRuns}
use Rattle.isp_masks_code.proofs.Bodies.{OutersAre, RunBodyRuns, in_run, run_spares, run_stands, with_layout, within_is}
use Rattle.isp_masks_code.proofs.Numbered.{any_run, index_is, next_is, run_before, run_inside}
use Rattle.isp_masks_code.proofs.Outers.{AreBelow, outers_on, outers_written}
use Rattle.isp_masks_code.proofs.RangesHeld.{AreSet, HasMeasures, Sets, gang, measures_on, round_after}
use Rattle.isp_masks_code.proofs.Sweeps.{IsNotLess, Low, Passes, low_on, next_low, passes_after}

-- ---- the register of the place

-- after a body the index counts as before, where it counts lanes at all
abbrev pub Counted : Bool → ℤ → Mask → Lanes → Type 0
Counted false z a v = CountsFrom z a v
Counted true z a v = Unit {0}

-- It may be written, and a body leaves it; told whether a packed load writes the index.
pub record IsRunPlace (w : Setting) (i h m : ℕ) (d : Bool) (x : ℕ) : Type 0 where
  pub typed : IsTyped w Uniform x I64
  pub spares : (c : Conf) (y : Payload) → Spares w m c (set_at Uniform c x y)
  pub stands : (c : Conf) (s : State) (y : Payload) → Stands w s c → Stands w s (set_at Uniform c x y)
  pub apart : x ≢ narrow w.layout (m + 1)
  pub tested : x ≢ test w.layout (m + 1)
  pub limit : x ≢ wide w.layout (m + 1)
  pub begins : (a : Mask) (s : State) (c : Conf) → CountsFrom (number I64 (c.scalars x)) a (s.varying i) → RunHolds (within w.layout i).run (c.scalars (w.layout.place Uniform)) a (c.scalars (w.layout.place Uniform)) s.varying
  pub stays : (a : Mask) (s : State) (c c1 : Conf) → Spares w h c c1 → Stands (in_run w i a (c.scalars (w.layout.place Uniform))) s c1 → (c1.scalars x ≡ c.scalars x) × Counted d (number I64 (c.scalars x)) a (s.varying i)

module _ (w : Setting) (ready : IsSettled w) (none : NoneFixed w.layout) where
  place_spares : (j : ℕ) (c : Conf) (y : Payload) → Spares w j c (set_at Uniform c (w.layout.place Uniform) y)
  place_spares j c y = record {
    scalars_stay = λ t k lt. put_other c.scalars (w.layout.place Uniform) (sole y) (w.layout.spare Uniform t k) (λ e. ready.apart.place_spare Uniform t k (sym e));
    vectors_stay = λ t k lt. refl;
    fresh_scalars = λ k. put_other c.scalars (w.layout.place Uniform) (sole y) (w.layout.fresh Uniform k) (λ e. ready.apart.place_fresh Uniform k (sym e));
    fresh_vectors = λ k. refl;
    singles_stay = λ v is. put_other c.scalars (w.layout.place Uniform) (sole y) (w.layout.variable Uniform v) (λ e. ready.apart.place_variable Uniform v (sym e));
  }

  place_stands : (c : Conf) (s : State) (y : Payload) → Stands w s c → Stands w s (set_at Uniform c (w.layout.place Uniform) y)
  place_stands c s y st = record {
    uniforms = λ v is. put_other c.scalars (w.layout.place Uniform) (sole y) (w.layout.variable Uniform v) (λ e. ready.apart.place_variable Uniform v (sym e)) ∙ st.uniforms v is;
    varying = st.varying;
    result = put_other c.scalars (w.layout.place Uniform) (sole y) (w.layout.result Uniform) (λ e. ready.apart.place_result Uniform (sym e)) ∙ st.result;
    results = st.results;
    own_arrays = st.own_arrays;
    arrays_are = st.arrays_are;
    out_is = st.out_is;
    run = none_holds w.layout.run w.start w.members (put c.scalars (w.layout.place Uniform) (sole y) (w.layout.place Uniform)) s.varying (no_run w.layout none);
    known = known_put w.function.variables w.layout w.members c.scalars (w.layout.place Uniform) (sole y) s.varying (λ v k e. ready.apart.place_variable Uniform v (sym e)) st.known;
    constants = scalar_put w.layout (gang_of w) c.scalars c.vectors (w.layout.place Uniform) (sole y) (λ t b k. ready.apart.kept_place Uniform t b k) st.constants;
  }

  pub run_place_is : (i h m : ℕ) (d : Bool) → w.layout.loaded i ≡ d → m < h → IsTyped w Uniform (w.layout.place Uniform) I64 → IsTyped w Uniform (wide w.layout m) I64 → IsRunPlace w i h m d (run_place w.layout d m)
  run_place_is i h m false e lt tp tw = record {
    typed = tp;
    spares = place_spares m;
    stands = place_stands;
    apart = ready.apart.place_spare Uniform I32 (m + 1);
    tested = ready.apart.place_spare Uniform Truth (m + 1);
    limit = ready.apart.place_spare Uniform I64 (m + 1);
    begins = λ a s c k. let p = c.scalars (w.layout.place Uniform) in subst (λ (l : Layout). RunHolds l.run p a p s.varying) (sym (within_is w ready none i false e)) (refl, k);
    stays = λ a s c c1 sp st.
        let p = c.scalars (w.layout.place Uniform) in
        let held = subst (λ (l : Layout). Stands (with_layout w l a p) s c1) (within_is w ready none i false e) st in
        (held.run.0, held.run.1);
  }
  run_place_is i h m true e lt tp tw =
      let ne : m ≢ m + 1 = omega arith in
      record {
        typed = tw;
        spares = λ c y. set_spares w ready Uniform c I64 m m y (omega arith);
        stands = λ c s y st. set_stands w ready Uniform c I64 m y s st;
        apart = ready.apart.spares Uniform I64 I32 m (m + 1) ne;
        tested = ready.apart.spares Uniform I64 Truth m (m + 1) ne;
        limit = ready.apart.spares Uniform I64 I64 m (m + 1) ne;
        begins = λ a s c k. let p = c.scalars (w.layout.place Uniform) in subst (λ (o : Option ℕ). RunHolds o p a p s.varying) (sym (ap (λ (l : Layout). l.run) (within_is w ready none i true e) ∙ no_run w.layout none)) tt;
        stays = λ a s c c1 sp st. (sp.scalars_stay I64 m lt, tt);
      }

-- ---- what is asked of the runs: registers have their types, and what they hold in configuration c0 stays

pub record IsRuns (w : Setting) (n h i : ℕ) (x : Range) (e m : ℕ) (d : Bool) (set : List Instr) (before : Mask → State → State) (c0 : Conf) : Type 0 where
  pub slots : ℕ → Option ℕ
  pub place : IsRunPlace w i h m d (run_place w.layout d m)
  pub index : x.index ≡ i
  pub above : n + 1 < m
  pub ends : e + 1 < m
  pub below : m + 1 + 1 ≤ h
  pub high : x.end ≤ℤ pos (2 ^ 31)
  pub bottom : IsNotLess x.end
  pub short : IsTyped w Uniform (narrow w.layout (m + 1)) I32
  pub limited : IsTyped w Uniform (wide w.layout (m + 1)) I64
  pub tested : IsTyped w Uniform (test w.layout (m + 1)) Truth
  pub typed : IsTyped w Varying (w.layout.variable Varying i) I32
  pub measures : HasMeasures w n c0
  pub the_end : number I64 (c0.scalars (wide w.layout (e + 1))) ≡ x.end
  pub sets : Sets w h m c0 set before
  pub few : length set ≤ 2
  pub below_it : AreBelow slots m
  pub outers : (a : Mask) (s : State) → OutersAre w slots i a (before a s) c0

module _ (w : Setting) (ready : IsSettled w) (none : NoneFixed w.layout) (n h i : ℕ) (x : Range) (e m : ℕ) (d : Bool) (set : List Instr) (before : Mask → State → State) (c0 : Conf) (it : IsRuns w n h i x e m d set before c0) where
  second_so : (b k : Bool) → (b && k) ≡ true → k ≡ true
  second_so true k e1 = e1
  second_so false k e1 = absurd (cc)

  abbrev pub members : ℤ → Mask
  members z = (last_run (gang w) x z).members

  few_lanes : (p : ℕ) → p < gang w → p < widest
  few_lanes p lt = omega (arith, lt, few_width w.code.gang)

  in_reach : (z : ℤ) (p : ℕ) → IsNotLess z → x.end ≤ℤ pos (2 ^ 31) → members z p ≡ true → IsValue I32 (z +ℤ pos p)
  in_reach z p low high k =
      let lt : int_lt (z +ℤ pos p) x.end ≡ true = second_so (nat_lt p (gang w)) (int_lt (z +ℤ pos p) x.end) k in
      (grind (arith, ints, low), grind (arith, ints, high, lt))

  -- registers of one slot are apart where they have different types
  limit_short : wide w.layout (m + 1) ≢ narrow w.layout (m + 1)
  limit_short same = let no : I64 ≡ I32 = sym it.limited ∙ ap (λ k. elem_of w.routine (register Uniform k)) same ∙ it.short in absurd (cc)

  pub limit_test : wide w.layout (m + 1) ≢ test w.layout (m + 1)
  limit_test same = let no : I64 ≡ Truth = sym it.limited ∙ ap (λ k. elem_of w.routine (register Uniform k)) same ∙ it.tested in absurd (cc)

  abbrev pub r : ℕ
  r = run_place w.layout d m

  abbrev pub limit : ℕ
  limit = wide w.layout (m + 1)

  abbrev pub indices : List Instr
  indices = set ++ last_index w.layout i r m n h

  -- the state in which a run's body begins
  abbrev pub begins : ℤ → State → State
  begins z s = (round_after before (last_run (gang w) x z)).begins s

  -- the machine stands before the indices of a run, or before its body
  pub record Tested (pc : ℕ) (z : ℤ) (s : State) (c : Conf) : Type 0 where
    pub at : At w c pc
    pub low : Low w m c0 c
    pub place : number I64 (c.scalars r) ≡ z
    pub mask : c.masks h ≡ members z
    pub stands : Stands w s c

  pub record Begun (pc : ℕ) (z : ℤ) (s : State) (c : Conf) : Type 0 where
    pub is : Tested pc z (begins z s) c
    pub work : (begins z s).work ≡ s.work
    pub counts : CountsFrom z (members z) ((begins z s).varying i)

  -- the state has the index of a run, whatever it had before
  pub set_there : (z : ℤ) (s : State) → IsNotLess z → CountsFrom z (members z) ((begins z s).varying i)
  set_there z s low = subst (λ j. CountsFrom z (members z) ((begins z s).varying j)) it.index (record { is = is; fits = λ p on_p. in_reach z p low it.high on_p })
    where
      is : (p : ℕ) → members z p ≡ true → (begins z s).varying x.index p ≡ wrap I32 (z +ℤ pos p)
      is p on_p =
          let a = members z in
          let prior = (before a s).varying x.index in
          ap (λ f. f p) (put_same (before a s).varying x.index (over (on a (λ q. wrap I32 (z +ℤ pos q))) prior))
          ∙ ap (λ b. or_old (if b then Some (wrap I32 (z +ℤ pos p)) else None) (prior p)) on_p

  -- ---- all indices are set

  pub first_part : (first : ℕ) → AreAt w.routine.code first indices → (z : ℤ) (s : State) (c : Conf) → IsNotLess z → Tested first z s c
      → (c1 : Conf) × Comes w c (length set + 3) c1 × Low w m c c1 × Begun (first + length indices) z s c1 × (c1.scalars limit ≡ c.scalars limit)
  first_part first begin z s c low t = (
    c4,
    comes4,
    low4,
    record { is = record { at = at4; low = low_on w m c0 c c4 t.low low4; place = place4; mask = em1; stands = stands4 }; work = o.work; counts = set_there z s low },
    put_other c1.scalars g b limit limit_short ∙ ap (λ f. f limit) o.scalars,
  )
    where
      a : Mask
      a = members z

      o : AreSet w set before a s c first
      o = it.sets a s c first (are_front w.routine.code first set (last_index w.layout i r m n h) begin) t.at t.mask t.low t.stands

      tail : AreAt w.routine.code (first + length set) (last_index w.layout i r m n h)
      tail = are_back w.routine.code first set (last_index w.layout i r m n h) begin

      c1 : Conf
      c1 = o.conf

      em1 : c1.masks h ≡ a
      em1 = ap (λ f. f h) o.masks ∙ t.mask

      place1 : number I64 (c1.scalars r) ≡ z
      place1 = ap (λ f. number I64 (f r)) o.scalars ∙ t.place

      b : ℕ
      b = wrap I32 (number I64 (c1.scalars r))

      g : ℕ
      g = narrow w.layout (m + 1)

      u : ℕ
      u = lane w.layout (m + 1)

      v : ℕ
      v = w.layout.variable Varying i

      c2 : Conf
      c2 = set_at Uniform c1 g (One b)

      v3 : Payload
      v3 = Each (on (c2.masks h) (λ p. c2.scalars g))

      c3 : Conf
      c3 = set_at Varying c2 u v3

      v4 : Payload
      v4 = Each (map2 (op_bits op.Add I32) (on (c3.masks h) (c3.vectors u)) (on (c3.masks h) (c3.vectors (lane w.layout n))))

      c4 : Conf
      c4 = set_at Varying c3 v v4

      at2 : At w c2 (first + length set + 1)
      at2 = set_goes w ready Uniform c1 g (One b) (first + length set) o.at

      at3 : At w c3 (first + length set + 1 + 1)
      at3 = set_goes w ready Varying c2 u v3 (first + length set + 1) at2

      at4 : At w c4 (first + length indices)
      at4 = at_to w c4 (first + length set + 1 + 1 + 1) (first + length indices) (set_goes w ready Varying c3 v v4 (first + length set + 1 + 1) at3) (omega (arith, length-append set (last_index w.layout i r m n h)))

      conv_is : act w.code w.routine c1 (convert Uniform g r 0) ≡ Go (set_at Uniform c1 g (One b))
      conv_is = ap₂ (λ t r1. Go (set_at Uniform c1 g (One (convert_bits t (number r1 (c1.scalars r)))))) it.short it.place.typed

      add_is : act w.code w.routine c3 (compute Varying plain.Add v u (lane w.layout n) h) ≡ Go (set_at Varying c3 v v4)
      add_is = ap (λ t. Go (set_at Varying c3 v (Each (map2 (op_bits op.Add t) (on (c3.masks h) (c3.vectors u)) (on (c3.masks h) (c3.vectors (lane w.layout n))))))) it.typed

      comes4 : Comes w c (length set + 3) c4
      comes4 =
          comes_on w c c1 c4 (length set) 3 o.comes
          (comes_on w c1 c3 c4 2 1 (comes_on w c1 c2 c3 1 1
          (set_comes w ready Uniform c1 g (One b) (first + length set) (convert Uniform g r 0) o.at tail.0 conv_is)
          (set_comes w ready Varying c2 u v3 (first + length set + 1) (splat u g h) at2 tail.1.0 refl))
          (set_comes w ready Varying c3 v v4 (first + length set + 1 + 1) (compute Varying plain.Add v u (lane w.layout n) h) at3 tail.1.1.0 add_is))

      spares3 : Spares w m c c3
      spares3 = spares_on w m c c1 c3 (o.spares m) (spares_on w m c1 c2 c3 (set_spares w ready Uniform c1 I32 m (m + 1) (One b) (omega arith)) (set_spares w ready Varying c2 I32 m (m + 1) v3 (omega arith)))

      low4 : Low w m c c4
      low4 = record { spares = spares_on w m c c3 c4 spares3 (variable_spares w ready Varying i m c3 v4 tt); masks = λ j lt. ap (λ f. f j) o.masks }

      place4 : number I64 (c4.scalars r) ≡ z
      place4 = ap (number I64) (put_other c1.scalars g b r it.place.apart) ∙ place1

      measures3 : HasMeasures w n c3
      measures3 = measures_on w n m c0 c3 it.above (low_on w m c0 c c3 t.low (record { spares = spares3; masks = λ j lt. ap (λ f. f j) o.masks })) it.measures

      old : Lanes
      old = c2.vectors u

      spread : on (c3.masks h) (c3.vectors u) ≡ on a (over (on a (λ p. wrap I32 z)) old)
      spread =
          ap (on (c3.masks h)) (put_same c2.vectors u (over (on (c2.masks h) (λ p. c2.scalars g)) old))
          ∙ ap₂ (λ t y. on t (over (on t (λ p. y)) old)) em1 (put_same c1.scalars g b ∙ ap (wrap I32) place1)

      value : v4 ≡ Each (on a (λ p. wrap I32 (z +ℤ pos p)))
      value =
          ap₂ (λ y t. Each (map2 (op_bits op.Add I32) y (on t (c3.vectors (lane w.layout n))))) spread em1
          ∙ ap Each (index_is z a old (c3.vectors (lane w.layout n)) (λ p on. few_lanes p (run_inside (gang w) x z p on)) (λ p on. measures3.numbers p (run_inside (gang w) x z p on)))

      stands3 : Stands w (before a s) c3
      stands3 = set_stands w ready Varying c2 I32 (m + 1) v3 (before a s) (set_stands w ready Uniform c1 I32 (m + 1) (One b) (before a s) o.stands)

      stands4 : Stands w (begins z s) c4
      stands4 =
          subst (λ j. Stands w (written Varying j a (Each (on a (λ p. wrap I32 (z +ℤ pos p)))) (before a s)) c4) (sym it.index)
          (written_stands w ready Varying i c3 a (Each (on a (λ p. wrap I32 (z +ℤ pos p)))) (before a s) v4 stands3 (sym value) (none i, tt))

  -- ---- the index goes on, where no others are set

  -- those of the run before have its index
  pub next_part : (step : ℕ) → slice_get w.routine.code step ≡ Some (next_index w.layout i n h) → (d ≡ false) × (set ≡ []) → (z : ℤ) (s : State) (c : Conf) → IsNotLess z
      → Counted d z (members z) (s.varying i) → Tested step (z +ℤ pos (gang w)) s c
      → (c1 : Conf) × Comes w c 1 c1 × Low w m c c1 × Begun (step + 1) (z +ℤ pos (gang w)) s c1 × (c1.scalars limit ≡ c.scalars limit)
  next_part step has alone z s c low was t = (
    c1,
    set_comes w ready Varying c v y step (next_index w.layout i n h) t.at has add_is,
    low1,
    record {
      is = record { at = set_goes w ready Varying c v y step t.at; low = low_on w m c0 c c1 t.low low1; place = t.place; mask = t.mask; stands = stands1 };
      work = set_none.work;
      counts = set_there z1 s (next_low (gang w) z low);
    },
    refl,
  )
    where
      z1 : ℤ
      z1 = z +ℤ pos (gang w)

      a : Mask
      a = members z1

      v : ℕ
      v = w.layout.variable Varying i

      u : ℕ
      u = lane w.layout (n + 1)

      y : Payload
      y = Each (map2 (op_bits op.Add I32) (on (c.masks h) (c.vectors v)) (on (c.masks h) (c.vectors u)))

      c1 : Conf
      c1 = set_at Varying c v y

      add_is : act w.code w.routine c (next_index w.layout i n h) ≡ Go (set_at Varying c v y)
      add_is = ap (λ g. Go (set_at Varying c v (Each (map2 (op_bits op.Add g) (on (c.masks h) (c.vectors v)) (on (c.masks h) (c.vectors u)))))) it.typed

      low1 : Low w m c c1
      low1 = record { spares = variable_spares w ready Varying i m c y tt; masks = λ j lt. refl }

      set_none : AreSet w set before a s c step
      set_none = it.sets a s c step (subst (AreAt w.routine.code step) (sym alone.1) tt) t.at t.mask t.low t.stands

      same : before a s ≡ s
      same = set_none.none (ap length alone.1)

      measures : HasMeasures w n c
      measures = measures_on w n m c0 c it.above t.low it.measures

      before_it : CountsFrom z (members z) (s.varying i)
      before_it = subst (λ k. Counted k z (members z) (s.varying i)) alone.0 was

      value : y ≡ Each (on a (λ p. wrap I32 (z1 +ℤ pos p)))
      value =
          ap₂ (λ f k. Each (map2 (op_bits op.Add I32) (on k f) (on k (c.vectors u)))) (t.stands.varying i) t.mask
          ∙ ap Each (next_is z (gang w) a (s.varying i) (c.vectors u) (few_width w.code.gang) (λ p on_p. before_it.is p (run_before (gang w) x z p on_p)) (λ p on_p. measures.count p (run_inside (gang w) x z1 p on_p)))

      stands1 : Stands w (begins z1 s) c1
      stands1 =
          subst (λ j. Stands w (written Varying j a (Each (on a (λ p. wrap I32 (z1 +ℤ pos p)))) (before a s)) c1) (sym it.index)
          (subst (λ s1. Stands w (written Varying i a (Each (on a (λ p. wrap I32 (z1 +ℤ pos p)))) s1) c1) (sym same) (written_stands w ready Varying i c a (Each (on a (λ p. wrap I32 (z1 +ℤ pos p)))) s y t.stands (sym value) (none i, tt)))

  -- ---- a body

  -- it ran: whoever went on is in mask h, and the place, its greatest one and the index are as they were
  pub record Ran (pc : ℕ) (z : ℤ) (s : State) (g : Mask) (c c1 : Conf) : Type 0 where
    pub at : At w c1 pc
    pub low : Low w m c c1
    pub stands : Stands w s c1
    pub went : c1.masks h ≡ g
    pub place : number I64 (c1.scalars r) ≡ z
    pub limit : c1.scalars limit ≡ c.scalars limit
    pub counts : Counted d z (members z) (s.varying i)

  run_go : (c : Conf) (pc pc' k q : ℕ) (a : Mask) (b : ℕ) (v : Res) (go : State → Res)
      → StmtRuns (in_run w i a b) w.turns c pc (body_spot h) (k + q) v
      → ((s : State) (g u ct rt : Mask) (ok : DoneOk w c pc h (k + q) s) → v ≡ Went s g u ct rt → Stands (in_run w i a b) s ok.conf → ok.conf.masks h ≡ g → Passes w c pc' m q (go s))
      → Passes w c pc' m q (go_on v (λ s g u ct rt. go s))
  run_go c pc pc' k q a b (Went s g gone ct rt) go ok f =
      f s g gone ct rt
      (record {
        conf = ok.conf;
        steps = ok.steps;
        comes = ok.comes;
        at = ok.at;
        stands = run_stands w ready none i a b s ok.conf ok.stands;
        spares = spares_less w h (h + 3) c ok.conf (omega arith) (run_spares w ready none i a b (h + 3) c ok.conf ok.spares);
        masks = λ j lt. let ne0 : j ≢ h = omega arith in let ne1 : j ≢ h + 1 = omega arith in let ne2 : j ≢ h + 2 = omega arith in ok.masks j (omega arith) ne0 ne1 ne2;
        bound = ok.bound;
      })
      refl ok.stands ok.went
  run_go c pc pc' k q a b (Trapped t s) go bad f = failed_less w ready c k q t s bad
  run_go c pc pc' k q a b (Cut s) go cut f = stopped_less w ready w.turns c k q s cut

  -- what comes after it is told how many steps it took
  pub body_part : (body : Mask → State → Res) (code : ℕ → List Instr) (top pc' k q : ℕ) (z : ℤ) (s : State) (c : Conf) (rest : State → Res)
      → RunBodyRuns w i it.slots h code body → AreAt w.routine.code top (code top) → int_lt z x.end ≡ true → Begun top z s c → 3 + (k + q) ≤ 32 * s.work
      → ((s1 : State) (g u ct rt : Mask) (c1 : Conf) (j : ℕ) → body (members z) (begins z s) ≡ Went s1 g u ct rt → Comes w c j c1 → Ran (top + length (code top)) z s1 g c c1 → j + (k + q) ≤ 32 * s1.work → Passes w c1 pc' m (j + q) (rest s1))
      → Passes w c pc' m q (go_on (body (members z) (begins z s)) (λ s1 g u ct rt. rest s1))
  body_part body code top pc' k q z s c rest runs has lt b le next =
      run_go c (top + length (code top)) pc' k q a p (body a (begins z s)) rest
      (runs a (begins z s) c top (k + q) has
      (record {
        at = b.is.at;
        mask = b.is.mask;
        some = any_run (gang w) (gang w) x z (some_width w.code.gang) (omega arith)
            ∙ lt;
        inside = run_inside (gang w) x z;
        stands = b.is.stands;
        used = omega (arith, le, b.work);
        outers = outers_on w it.slots i m a (begins z s) c0 c it.below_it b.is.low (outers_written w it.slots i x.index a a (Each (on a (λ p1. wrap I32 (z +ℤ pos p1)))) (before a s) c0 it.index (it.outers a s));
        counts = it.place.begins a (begins z s) c
            (subst (λ t. CountsFrom t a ((begins z s).varying i)) (sym b.is.place) b.counts);
      }))
      (λ s1 g u ct rt ok is st1 went. after s1 g u ct rt ok is st1 went)
    where
      a : Mask
      a = members z

      p : ℕ
      p = c.scalars (w.layout.place Uniform)

      after : (s1 : State) (g u ct rt : Mask) (ok : DoneOk w c (top + length (code top)) h (k + q) s1) → body a (begins z s) ≡ Went s1 g u ct rt → Stands (in_run w i a p) s1 ok.conf → ok.conf.masks h ≡ g → Passes w c pc' m q (rest s1)
      after s1 g u ct rt ok is st1 went =
          let c1 = ok.conf in
          let low1 : Low w m c c1 = record { spares = spares_less w m h c c1 (omega (arith, it.below)) ok.spares; masks = λ j lt1. ok.masks j (omega (arith, it.below)) } in
          let kept = it.place.stays a s1 c c1 ok.spares st1 in
          passes_after w ready c c1 ok.steps pc' m q (rest s1) ok.comes low1
          (next s1 g u ct rt c1 ok.steps is ok.comes
          (record {
            at = ok.at;
            low = low1;
            stands = ok.stands;
            went = went;
            place = ap (number I64) kept.0 ∙ b.is.place;
            limit = ok.spares.scalars_stay I64 (m + 1) (omega (arith, it.below));
            counts = subst (λ y. Counted d y a (s1.varying i)) b.is.place kept.1;
          })
          (omega (arith, ok.bound)))
