-- The runs of a `foreach` deal each tuple once.
use Rattle.std.proofs.Common.{◌≡◌, refl, sym, ap, ◌∙◌, subst, ℕ, zero, suc, ◌+◌, ◌-◌, ◌*◌, ◌/◌, ◌%◌, ◌<◌, ◌≤◌, ◌⊎◌, inl, inr, ⊎_elim, Bool, true, false, List, [], ◌∷◌, map, arith, true≢false, mod-lt}
use Rattle.std.specs.Prelude.{ℤ, pos, negsuc, ◌+ℤ◌, ◌-ℤ◌, ◌≤ℤ◌, ◌<ℤ◌, int_lt, nat_lt, ◌||◌}
use Rattle.std.proofs.Math.Nat.{mul-le-mul_right, div-mul-le_self}
use Rattle.std.proofs.lemmas.Nat.{mod-mul-add, div-mul-add, le-div, div-add-mod'}
use Rattle.std.proofs.lemmas.Int.{ints}
use Rattle.std.proofs.lemmas.Bool.{cases_eq, cases_order, and_parts, and_from}
use Rattle.std.proofs.lemmas.Bool.Decides.{nat_tests}
use Rattle.isp_base.specs.Sets.{Mask, any}
use Rattle.isp_meaning.specs.Rounds.{Range, Run, from_zero, length_of, runs_for, last_run, with_outer, runs_of}
use Rattle.isp_meaning_laws.specs.Deals.{IsTuple, instance_of, outer as outer_of, gangs_before, Before, tuple_of, Deals, AreDealt, DealtOnce}
use Rattle.isp_meaning_laws.proofs.Lists.{AllOf, AnyOf, Pairs, Across, at_all, at_any, at_pairs, all_joined, any_joined, pairs_joined, all_map, any_map, pairs_map, across_all, all_from, any_from, pairs_from}

-- a member makes a set one that has some
any_of : (n : ℕ) (a : Mask) (p : ℕ) → p < n → a p ≡ true → any n a ≡ true
any_of zero a p lt e = absurd (omega (arith, lt))
any_of (suc n) a p lt e = ⊎_elim (λ d. last (any n a) (a n) (ap a (sym d) ∙ e)) (λ d. let lt2 : p < n = omega (arith, lt, d) in first (any n a) (a n) (any_of n a p lt2 e)) (cases_eq p n) where
  last : (x y : Bool) → y ≡ true → (x || y) ≡ true
  last true y h = refl
  last false y h = h

  first : (x y : Bool) → x ≡ true → (x || y) ≡ true
  first true y h = refl
  first false y h = absurd (true≢false (sym h))

-- ---- numbers of a range

-- so far from the start a number is below the end
below_end : (a b : ℤ) (n : ℕ) → n < from_zero (b -ℤ a) → (a +ℤ pos n) <ℤ b
below_end a b n lt = by (b -ℤ a) refl lt where
  by : (d : ℤ) → d ≡ b -ℤ a → n < from_zero d → (a +ℤ pos n) <ℤ b
  by (pos m) e lt = omega (arith, ints, e, lt)
  by (negsuc m) e lt = absurd (omega (arith, lt))

far : (a z : ℤ) → a ≤ℤ z → a +ℤ pos (from_zero (z -ℤ a)) ≡ z
far a z le = by (z -ℤ a) refl where
  by : (d : ℤ) → d ≡ z -ℤ a → a +ℤ pos (from_zero d) ≡ z
  by (pos m) e = omega (arith, ints, e)
  by (negsuc m) e = absurd (omega (arith, ints, e, le))

few : (a b z : ℤ) → a ≤ℤ z → z <ℤ b → from_zero (z -ℤ a) < from_zero (b -ℤ a)
few a b z le lt = by (z -ℤ a) (b -ℤ a) refl refl where
  by : (d f : ℤ) → d ≡ z -ℤ a → f ≡ b -ℤ a → from_zero d < from_zero f
  by (pos m) (pos n) e k = omega (arith, ints, e, k, le, lt)
  by (pos m) (negsuc n) e k = absurd (omega (arith, ints, e, k, le, lt))
  by (negsuc m) f e k = absurd (omega (arith, ints, e, k, le, lt))

far_of : (a : ℤ) (n : ℕ) → from_zero ((a +ℤ pos n) -ℤ a) ≡ n
far_of a n = let e : (a +ℤ pos n) -ℤ a ≡ pos n = omega (arith, ints) in ap from_zero e

-- ---- in which run a number is

module _ (gang : ℕ) (some : 0 < gang) where
  -- the first number of a run is one of the range
  starts : (n i : ℕ) → i < runs_for gang n → i * gang < n
  starts n i lt =
      let a : runs_for gang n * gang ≤ n + (gang - 1) = div-mul-le_self (n + (gang - 1)) gang in
      let b : suc i * gang ≤ runs_for gang n * gang = mul-le-mul_right gang (omega (arith, lt)) in
      let c : suc i * gang ≡ i * gang + gang = omega arith in
      omega (arith, a, b, c, some)

  -- each number of the range has a run
  comes : (n d : ℕ) → d < n → d / gang < runs_for gang n
  comes n d lt =
      let a : d / gang * gang ≤ d = div-mul-le_self d gang in
      let c : suc (d / gang) * gang ≡ d / gang * gang + gang = omega arith in
      let b : suc (d / gang) ≤ (n + (gang - 1)) / gang = le-div (suc (d / gang)) (n + (gang - 1)) gang some (omega (arith, a, c, lt, some)) in
      omega (arith, b)

  parts : (d : ℕ) → d / gang * gang + d % gang ≡ d
  parts d = div-add-mod' d gang

  -- ---- a run of the last range

  -- two tuples of one run
  abbrev SameGang : List Range → List ℤ → List ℤ → Type 0
  SameGang rs ys zs = (outer_of ys ≡ outer_of zs) × (gangs_before gang rs ys ≡ gangs_before gang rs zs)

  -- a tuple of some ranges has a number
  same_outer : (o : Range) (rs : List Range) (z : ℤ) (ys zs : List ℤ) → IsTuple (o ∷ rs) ys → IsTuple (o ∷ rs) zs → outer_of ys ≡ outer_of zs → outer_of (z ∷ ys) ≡ outer_of (z ∷ zs)
  same_outer o rs z [] zs h k e = absurd h
  same_outer o rs z (y ∷ ys) [] h k e = absurd k
  same_outer o rs z (y ∷ ys) (x ∷ zs) h k e = ap (λ ws. z ∷ ws) e

  head_or : ℤ → List ℤ → ℤ
  head_or x [] = x
  head_or x (y ∷ ys) = y

  tail_of : List ℤ → List ℤ
  tail_of [] = []
  tail_of (y ∷ ys) = ys

  outer_parts : (o : Range) (rs : List Range) (w z : ℤ) (ys zs : List ℤ)
      → IsTuple (o ∷ rs) ys → IsTuple (o ∷ rs) zs → outer_of (w ∷ ys) ≡ outer_of (z ∷ zs) → (w ≡ z) × (outer_of ys ≡ outer_of zs)
  unfolding head_or tail_of
  outer_parts o rs w z [] zs h k e = absurd h
  outer_parts o rs w z (y ∷ ys) [] h k e = absurd k
  outer_parts o rs w z (y ∷ ys) (x ∷ zs) h k e = (ap (head_or w) e, ap tail_of e)

  pub record IsRun (rs : List Range) (run : Run) : Type 0 where
    pub some_on : any gang run.members ≡ true
    pub indices : map (λ i. i.0) run.indices ≡ map (λ r. r.index) rs
    pub tuple : (p : ℕ) → run.members p ≡ true → IsTuple rs (tuple_of run p) × (p ≡ instance_of gang rs (tuple_of run p))
    pub whole : (p q : ℕ) → run.members p ≡ true → run.members q ≡ true → SameGang rs (tuple_of run p) (tuple_of run q)

  -- the same outer numbers, and a later gang
  abbrev Later : List Range → Run → Run → Type 0
  Later rs x y = (p q : ℕ)
      → x.members p ≡ true → y.members q ≡ true → IsTuple rs (tuple_of x p) → IsTuple rs (tuple_of y q)
      → outer_of (tuple_of x p) ≡ outer_of (tuple_of y q) → gangs_before gang rs (tuple_of x p) < gangs_before gang rs (tuple_of y q)

  abbrev After : Run → Run → Type 0
  After x y = (p q : ℕ) → x.members p ≡ true → y.members q ≡ true → Before (tuple_of x p) (tuple_of y q)

  abbrev Has : List Range → List ℤ → Run → Type 0
  Has rs zs run = (run.members (instance_of gang rs zs) ≡ true) × (tuple_of run (instance_of gang rs zs) ≡ zs)

  of_lt : (p n : ℕ) → p < n → nat_lt p n ≡ true
  of_lt p n lt = grind (arith, lt, nat_tests)

  lt_of : (p n : ℕ) → nat_lt p n ≡ true → p < n
  lt_of p n e = grind (arith, e, nat_tests)

  of_less : (a b : ℤ) → a <ℤ b → int_lt a b ≡ true
  of_less a b lt = grind (arith, ints, lt)

  less_of : (a b : ℤ) → int_lt a b ≡ true → a <ℤ b
  less_of a b e = grind (arith, ints, e)

  module _ (r : Range) where
    member : (z : ℤ) (p : ℕ) → p < gang → (z +ℤ pos p) <ℤ r.end → (last_run gang r z).members p ≡ true
    member z p lt less = and_from (nat_lt p gang) (int_lt (z +ℤ pos p) r.end) (of_lt p gang lt) (of_less (z +ℤ pos p) r.end less)

    by : (i p : ℕ) → from_zero ((r.start +ℤ pos (i * gang) +ℤ pos p) -ℤ r.start) ≡ i * gang + p
    by i p = let e : r.start +ℤ pos (i * gang) +ℤ pos p ≡ r.start +ℤ pos (i * gang + p) = omega (arith, ints) in ap (λ z. from_zero (z -ℤ r.start)) e ∙ far_of r.start (i * gang + p)

    turn : (i p : ℕ) → (last_run gang r (r.start +ℤ pos (i * gang))).members p ≡ true → from_zero ((r.start +ℤ pos (i * gang) +ℤ pos p) -ℤ r.start) / gang ≡ i
    turn i p on = let below = lt_of p gang (and_parts (nat_lt p gang) _ on).0 in ap (λ n. n / gang) (by i p) ∙ div-mul-add i gang p below

    last_is : (i : ℕ) → i < runs_for gang (length_of r) → IsRun (r ∷ []) (last_run gang r (r.start +ℤ pos (i * gang)))
    last_is i lt = record {
      some_on = any_of gang _ 0 some (member (r.start +ℤ pos (i * gang)) 0 some (omega (arith, ints, first)));
      indices = refl;
      tuple = λ p on. let h = and_parts (nat_lt p gang) _ on in let below = lt_of p gang h.0 in
          ((omega (arith, ints), less_of _ _ h.1, tt), sym (ap (λ n. n % gang) (by i p) ∙ mod-mul-add i gang p below));
      whole = λ p q on onq. (refl, turn i p on ∙ sym (turn i q onq));
    } where
      first : (r.start +ℤ pos (i * gang)) <ℤ r.end
      first = below_end r.start r.end (i * gang) (starts (length_of r) i lt)

    last_after : (i j : ℕ) → i < j → After (last_run gang r (r.start +ℤ pos (i * gang))) (last_run gang r (r.start +ℤ pos (j * gang)))
    last_after i j lt p q on onq =
        let below = lt_of p gang (and_parts (nat_lt p gang) _ on).0 in
        let a : suc i * gang ≤ j * gang = mul-le-mul_right gang (omega (arith, lt)) in
        let c : suc i * gang ≡ i * gang + gang = omega arith in
        inl (omega (arith, ints, below, a, c))

    last_later : (i j : ℕ) → i < j → Later (r ∷ []) (last_run gang r (r.start +ℤ pos (i * gang))) (last_run gang r (r.start +ℤ pos (j * gang)))
    last_later i j lt p q on onq t u e = let a = turn i p on in let b = turn j q onq in omega (arith, a, b, lt)

    last_has : (z : ℤ) → r.start ≤ℤ z → z <ℤ r.end → Has (r ∷ []) (z ∷ []) (last_run gang r (r.start +ℤ pos (from_zero (z -ℤ r.start) / gang * gang)))
    last_has z le lt =
        (member (r.start +ℤ pos (d / gang * gang)) (d % gang) (mod-lt d some) (subst (λ w. w <ℤ r.end) (sym there) lt), ap (λ w. w ∷ []) there) where
          d : ℕ
          d = from_zero (z -ℤ r.start)

          there : r.start +ℤ pos (d / gang * gang) +ℤ pos (d % gang) ≡ z
          there = let e : r.start +ℤ pos (d / gang * gang) +ℤ pos (d % gang) ≡ r.start +ℤ pos (d / gang * gang + d % gang) = omega (arith, ints) in
              e ∙ ap (λ n. r.start +ℤ pos n) (parts d) ∙ far r.start z le

  -- ---- all runs

  once_on : (i : ℕ) → i * 1 ≡ i
  once_on i = omega arith

  are_runs : (r : Range) (rs : List Range) → AllOf (IsRun (r ∷ rs)) (runs_of gang (r ∷ rs))
  are_runs r [] = all_from gang (last_run gang r) (IsRun (r ∷ [])) (runs_for gang (length_of r)) r.start (last_is r)
  are_runs r (o ∷ rs) =
      all_joined (IsRun (r ∷ o ∷ rs)) _ (all_from 1 (λ z. map (with_outer r.index z) (runs_of gang (o ∷ rs))) (AllOf (IsRun (r ∷ o ∷ rs))) (length_of r) r.start
      (λ i lt. all_map (with_outer r.index (r.start +ℤ pos (i * 1))) (IsRun (o ∷ rs)) (IsRun (r ∷ o ∷ rs)) (outer i lt) (runs_of gang (o ∷ rs)) (are_runs o rs))) where
        outer : (i : ℕ) → i < length_of r → (x : Run) → IsRun (o ∷ rs) x → IsRun (r ∷ o ∷ rs) (with_outer r.index (r.start +ℤ pos (i * 1)) x)
        outer i lt x h = record {
          some_on = h.some_on;
          indices = ap (λ ks. r.index ∷ ks) h.indices;
          tuple = λ p on. let t = h.tuple p on in ((omega (arith, ints), below_end r.start r.end (i * 1) (omega (arith, lt, once_on i)), t.0), t.1);
          whole = λ p q on onq. let w = h.whole p q on onq in (same_outer o rs _ (tuple_of x p) (tuple_of x q) (h.tuple p on).0 (h.tuple q onq).0 w.0, w.1);
        }

  in_order : (r : Range) (rs : List Range) → Pairs After (runs_of gang (r ∷ rs))
  in_order r [] = pairs_from gang (last_run gang r) After (runs_for gang (length_of r)) r.start (λ i j lt ln. last_after r i j lt)
  in_order r (o ∷ rs) =
      pairs_joined After _
      (all_from 1 (λ z. map (with_outer r.index z) inner) (Pairs After) (length_of r) r.start (λ i lt. pairs_map (with_outer r.index (r.start +ℤ pos (i * 1))) After After (λ x y h p q on onq. inr (refl, h p q on onq)) inner (in_order o rs)))
      (pairs_from 1 (λ z. map (with_outer r.index z) inner) (Across After) (length_of r) r.start
      (λ i j lt ln. across_all After (with_outer r.index (r.start +ℤ pos (i * 1))) (with_outer r.index (r.start +ℤ pos (j * 1))) (λ x y p q on onq. inl (more i j lt)) inner inner)) where
        inner : List Run
        inner = runs_of gang (o ∷ rs)

        more : (i j : ℕ) → i < j → (r.start +ℤ pos (i * 1)) <ℤ (r.start +ℤ pos (j * 1))
        more i j lt = omega (arith, ints, lt, once_on i, once_on j)

  are_later : (r : Range) (rs : List Range) → Pairs (Later (r ∷ rs)) (runs_of gang (r ∷ rs))
  are_later r [] = pairs_from gang (last_run gang r) (Later (r ∷ [])) (runs_for gang (length_of r)) r.start (λ i j lt ln. last_later r i j lt)
  are_later r (o ∷ rs) =
      pairs_joined (Later (r ∷ o ∷ rs)) _
      (all_from 1 (λ z. map (with_outer r.index z) inner) (Pairs (Later (r ∷ o ∷ rs))) (length_of r) r.start
      (λ i lt. pairs_map (with_outer r.index (r.start +ℤ pos (i * 1))) (Later (o ∷ rs)) (Later (r ∷ o ∷ rs))
      (λ x y h p q on onq t u e. h p q on onq t.2 u.2 (outer_parts o rs _ _ (tuple_of x p) (tuple_of y q) t.2 u.2 e).1) inner (are_later o rs)))
      (pairs_from 1 (λ z. map (with_outer r.index z) inner) (Across (Later (r ∷ o ∷ rs))) (length_of r) r.start
      (λ i j lt ln. across_all (Later (r ∷ o ∷ rs)) (with_outer r.index (r.start +ℤ pos (i * 1))) (with_outer r.index (r.start +ℤ pos (j * 1)))
      (λ x y p q on onq t u e. absurd (less i j lt (outer_parts o rs _ _ (tuple_of x p) (tuple_of y q) t.2 u.2 e).0)) inner inner)) where
        inner : List Run
        inner = runs_of gang (o ∷ rs)

        less : (i j : ℕ) → i < j → r.start +ℤ pos (i * 1) ≡ r.start +ℤ pos (j * 1) → ⊥
        less i j lt e = omega (arith, ints, lt, e, once_on i, once_on j)

  are_dealt : (r : Range) (rs : List Range) (zs : List ℤ) → IsTuple (r ∷ rs) zs → AnyOf (Has (r ∷ rs) zs) (runs_of gang (r ∷ rs))
  are_dealt r [] [] h = absurd h
  are_dealt r [] (z ∷ y ∷ zs) h = absurd h.2
  are_dealt r [] (z ∷ []) h =
      any_from gang (last_run gang r) (Has (r ∷ []) (z ∷ [])) (runs_for gang (length_of r)) r.start (from_zero (z -ℤ r.start) / gang) (comes (length_of r) _ (few r.start r.end z h.0 h.1)) (last_has r z h.0 h.1)
  are_dealt r (o ∷ rs) [] h = absurd h
  are_dealt r (o ∷ rs) (z ∷ []) h = absurd h.2
  are_dealt r (o ∷ rs) (z ∷ y ∷ zs) h =
      any_joined (Has (r ∷ o ∷ rs) (z ∷ y ∷ zs)) _ (any_from 1 (λ w. map (with_outer r.index w) (runs_of gang (o ∷ rs))) (AnyOf (Has (r ∷ o ∷ rs) (z ∷ y ∷ zs))) (length_of r) r.start (from_zero (z -ℤ r.start)) (few r.start r.end z h.0 h.1)
      (any_map (with_outer r.index (r.start +ℤ pos (from_zero (z -ℤ r.start) * 1))) (Has (o ∷ rs) (y ∷ zs)) (Has (r ∷ o ∷ rs) (z ∷ y ∷ zs)) outer (runs_of gang (o ∷ rs)) (are_dealt o rs (y ∷ zs) h.2))) where
        there : r.start +ℤ pos (from_zero (z -ℤ r.start) * 1) ≡ z
        there = ap (λ n. r.start +ℤ pos n) (once_on (from_zero (z -ℤ r.start))) ∙ far r.start z h.0

        outer : (x : Run) → Has (o ∷ rs) (y ∷ zs) x → Has (r ∷ o ∷ rs) (z ∷ y ∷ zs) (with_outer r.index (r.start +ℤ pos (from_zero (z -ℤ r.start) * 1)) x)
        outer x k = (k.0, ap (λ w. w ∷ tuple_of x (instance_of gang (o ∷ rs) (y ∷ zs))) there ∙ ap (λ ws. z ∷ ws) k.1)

  -- ---- none comes before itself

  not_before : (zs : List ℤ) → Before zs zs → ⊥
  not_before [] h = h
  not_before (z ∷ zs) (inl h) = omega (arith, ints, h)
  not_before (z ∷ zs) (inr h) = not_before zs h.1

  dealt : (r : Range) (rs : List Range) → AreDealt gang (r ∷ rs)
  dealt r rs = record {
    some = λ k run e. (at_all (IsRun (r ∷ rs)) all k run e (are_runs r rs)).some_on;
    indices = λ k run e. (at_all (IsRun (r ∷ rs)) all k run e (are_runs r rs)).indices;
    each = λ zs h. let d = at_any (Has (r ∷ rs) zs) all (are_dealt r rs zs h) in (d.0, record { run = d.1; is = d.2; on = d.3.0; tuple = d.3.1 });
    no_other = no_other;
    once = λ zs k l p q x y. (same zs k l p q x y (cases_order k l), (no_other zs k p x).1 ∙ sym (no_other zs l q y).1);
    together = λ ys zs k l p q x y e g. one ys zs k l p q x y e g (cases_order k l);
    apart = apart;
    order = before;
  } where
    all : List Run
    all = runs_of gang (r ∷ rs)

    no_other : (zs : List ℤ) (k p : ℕ) → Deals gang (r ∷ rs) zs k p → IsTuple (r ∷ rs) zs × (p ≡ instance_of gang (r ∷ rs) zs)
    no_other zs k p x = subst (λ ws. IsTuple (r ∷ rs) ws × (p ≡ instance_of gang (r ∷ rs) ws)) x.tuple ((at_all (IsRun (r ∷ rs)) all k x.run x.is (are_runs r rs)).tuple p x.on)

    before : (ys zs : List ℤ) (k l p q : ℕ) → Deals gang (r ∷ rs) ys k p → Deals gang (r ∷ rs) zs l q → k < l → Before ys zs
    before ys zs k l p q x y lt = subst (λ ws. Before ws zs) x.tuple (subst (λ ws. Before (tuple_of x.run p) ws) y.tuple (at_pairs After all k l x.run y.run x.is y.is lt (in_order r rs) p q x.on y.on))

    same : (zs : List ℤ) (k l p q : ℕ) → Deals gang (r ∷ rs) zs k p → Deals gang (r ∷ rs) zs l q → (k ≡ l) ⊎ ((k < l) ⊎ (l < k)) → k ≡ l
    same zs k l p q x y (inl e) = e
    same zs k l p q x y (inr (inl lt)) = absurd (not_before zs (before zs zs k l p q x y lt))
    same zs k l p q x y (inr (inr lt)) = absurd (not_before zs (before zs zs l k q p y x lt))

    tuple_is : (zs : List ℤ) (k p : ℕ) (x : Deals gang (r ∷ rs) zs k p) → IsTuple (r ∷ rs) (tuple_of x.run p)
    tuple_is zs k p x = ((at_all (IsRun (r ∷ rs)) all k x.run x.is (are_runs r rs)).tuple p x.on).0

    later : (ys zs : List ℤ) (k l p q : ℕ) → Deals gang (r ∷ rs) ys k p → Deals gang (r ∷ rs) zs l q → k < l → outer_of ys ≡ outer_of zs → gangs_before gang (r ∷ rs) ys < gangs_before gang (r ∷ rs) zs
    later ys zs k l p q x y lt e =
        subst (λ ws. gangs_before gang (r ∷ rs) ws < gangs_before gang (r ∷ rs) zs) x.tuple
        (subst (λ ws. gangs_before gang (r ∷ rs) (tuple_of x.run p) < gangs_before gang (r ∷ rs) ws) y.tuple
        (at_pairs (Later (r ∷ rs)) all k l x.run y.run x.is y.is lt (are_later r rs) p q x.on y.on (tuple_is ys k p x) (tuple_is zs l q y) (ap outer_of x.tuple ∙ (e ∙ sym (ap outer_of y.tuple)))))

    one : (ys zs : List ℤ) (k l p q : ℕ)
        → Deals gang (r ∷ rs) ys k p → Deals gang (r ∷ rs) zs l q → outer_of ys ≡ outer_of zs → gangs_before gang (r ∷ rs) ys ≡ gangs_before gang (r ∷ rs) zs
        → (k ≡ l) ⊎ ((k < l) ⊎ (l < k)) → k ≡ l
    one ys zs k l p q x y e g (inl h) = h
    one ys zs k l p q x y e g (inr (inl lt)) = let b = later ys zs k l p q x y lt e in absurd (omega (arith, b, g))
    one ys zs k l p q x y e g (inr (inr lt)) = let b = later zs ys l k q p y x lt (sym e) in absurd (omega (arith, b, g))

    apart : (ys zs : List ℤ) (k p q : ℕ) → Deals gang (r ∷ rs) ys k p → Deals gang (r ∷ rs) zs k q → (outer_of ys ≡ outer_of zs) × (gangs_before gang (r ∷ rs) ys ≡ gangs_before gang (r ∷ rs) zs)
    apart ys zs k p q x y =
        let e : x.run ≡ y.run = cc (x.is, y.is) in
        let on = subst (λ run. run.members q ≡ true) (sym e) y.on in
        let there = subst (λ run. tuple_of run q ≡ zs) (sym e) y.tuple in
        let w = (at_all (IsRun (r ∷ rs)) all k x.run x.is (are_runs r rs)).whole p q x.on on in
        subst (λ ws. SameGang (r ∷ rs) ws zs) x.tuple (subst (λ ws. SameGang (r ∷ rs) (tuple_of x.run p) ws) there w)

pub dealt_once : DealtOnce
dealt_once gang [] some one = absurd (omega (arith, one))
dealt_once gang (r ∷ rs) some one = dealt gang some r rs
