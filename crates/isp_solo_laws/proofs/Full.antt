-- Each run of a `foreach` has a member: in its first instance there is a number still to come.
use Rattle.std.proofs.Common.{◌≡◌, refl, sym, ap, ◌∙◌, ℕ, zero, suc, ◌+◌, ◌<◌, ◌≤◌, ◌⊎◌, inl, inr, ⊎_elim, Bool, true, false, List, [], ◌∷◌, ◌++◌, map, arith, true≢false}
use Rattle.std.specs.Prelude.{ℤ, pos, negsuc, ◌+ℤ◌, ◌-ℤ◌, int_lt, nat_lt, ◌&&◌, ◌||◌}
use Rattle.std.proofs.lemmas.Int.{ints}
use Rattle.std.proofs.lemmas.Bool.{cases_eq}
use Rattle.std.proofs.lemmas.Bool.Decides.{nat_tests}
use Rattle.isp_base.specs.Sets.{Mask, any}
use Rattle.isp_base.specs.Types.{gang_width}
use Rattle.isp_base.specs.declared.types.Gang.{Gang}
use Rattle.isp_base.proofs.Gangs.{some_width}
use Rattle.isp_meaning.specs.Rounds.{Range, Run, from_zero, length_of, runs_for, from_on, last_run, with_outer, joined_lists, runs_of}
use Rattle.isp_meaning.proofs.RunsFor.{no_run, one_run}
use Rattle.isp_solo_laws.specs.Stands.{AreSome}
use Rattle.isp_solo_laws.proofs.Rounds.{AllSome}

-- a member makes a set one that has some
pub any_of : (n : ℕ) (a : Mask) (p : ℕ) → p < n → a p ≡ true → any n a ≡ true
any_of zero a p lt e = let no : ⊥ = omega (arith, lt) in absurd no
any_of (suc n) a p lt e = ⊎_elim (λ d. last (any n a) (a n) (ap a (sym d) ∙ e)) (λ d. let lt2 : p < n = omega (arith, lt, d) in first (any n a) (a n) (any_of n a p lt2 e)) (cases_eq p n) where
  last : (x y : Bool) → y ≡ true → (x || y) ≡ true
  last true y h = refl
  last false y h = h

  first : (x y : Bool) → x ≡ true → (x || y) ≡ true
  first true y h = refl
  first false y h = absurd (true≢false (sym h))

-- ---- numbers from a start on, each below the end

one_from : (a b : ℤ) → int_lt a b ≡ true → 0 < from_zero (b -ℤ a)
one_from a b h = by (b -ℤ a) refl where
  by : (d : ℤ) → d ≡ b -ℤ a → 0 < from_zero d
  by (pos zero) e = absurd (grind (arith, ints, e, h))
  by (pos (suc n)) e = omega arith
  by (negsuc n) e = absurd (grind (arith, ints, e, h))

none_from : (a b : ℤ) → int_lt a b ≡ false → from_zero (b -ℤ a) ≡ 0
none_from a b h = by (b -ℤ a) refl where
  by : (d : ℤ) → d ≡ b -ℤ a → from_zero d ≡ 0
  by (pos zero) e = refl
  by (pos (suc n)) e = absurd (grind (arith, ints, e, h))
  by (negsuc n) e = refl

-- so many numbers further there are so many fewer
further : (g : ℕ) (a b : ℤ) → 0 < from_zero (b -ℤ a)
    → (from_zero (b -ℤ a) ≡ from_zero (b -ℤ (a +ℤ pos g)) + g) ⊎ ((0 < from_zero (b -ℤ a)) × (from_zero (b -ℤ a) ≤ g) × (from_zero (b -ℤ (a +ℤ pos g)) ≡ 0))
further g a b h = by (b -ℤ a) (b -ℤ (a +ℤ pos g)) refl refl h where
  by : (d f : ℤ) → d ≡ b -ℤ a → f ≡ b -ℤ (a +ℤ pos g) → 0 < from_zero d → (from_zero d ≡ from_zero f + g) ⊎ ((0 < from_zero d) × (from_zero d ≤ g) × (from_zero f ≡ 0))
  by (pos zero) f e k lt = absurd (omega (arith, lt))
  by (pos (suc n)) (pos m) e k lt = inl (omega (arith, ints, e, k))
  by (pos (suc n)) (negsuc m) e k lt = inr (lt, omega (arith, ints, e, k), refl)
  by (negsuc n) f e k lt = absurd (omega (arith, lt))

-- ---- runs

module _ (g : Gang) where
  run_some : (r : Range) (z : ℤ) → int_lt z r.end ≡ true → AreSome (gang_width g) (last_run (gang_width g) r z).members
  run_some r z h = record {
    inside = λ p e. lt_of p (first_true (nat_lt p (gang_width g)) _ e);
    some = any_of (gang_width g) (last_run (gang_width g) r z).members 0 (some_width g) (both (nat_lt 0 (gang_width g)) _ (of_lt (some_width g)) (starts z r.end h));
  } where
    lt_of : (p : ℕ) → nat_lt p (gang_width g) ≡ true → p < gang_width g
    lt_of p e = grind (arith, e, nat_tests)

    of_lt : 0 < gang_width g → nat_lt 0 (gang_width g) ≡ true
    of_lt lt = grind (arith, lt, nat_tests)

    first_true : (x y : Bool) → (x && y) ≡ true → x ≡ true
    first_true true y e = refl
    first_true false y e = e

    both : (x y : Bool) → x ≡ true → y ≡ true → (x && y) ≡ true
    both true y d e = e
    both false y d e = d

    starts : (z end : ℤ) → int_lt z end ≡ true → int_lt (z +ℤ pos 0) end ≡ true
    starts z end h = let same : z +ℤ pos 0 ≡ z = omega (arith, ints) in ap (λ y. int_lt y end) same ∙ h

  inner_some : (r : Range) (n : ℕ) (z : ℤ) → n ≡ runs_for (gang_width g) (from_zero (r.end -ℤ z)) → AllSome (gang_width g) (map (last_run (gang_width g) r) (from_on (gang_width g) n z))
  inner_some r zero z e = tt
  inner_some r (suc n) z e = by (inner_some r n (z +ℤ pos (gang_width g))) (int_lt z r.end) refl where
    by : (n ≡ runs_for (gang_width g) (from_zero (r.end -ℤ (z +ℤ pos (gang_width g)))) → AllSome (gang_width g) (map (last_run (gang_width g) r) (from_on (gang_width g) n (z +ℤ pos (gang_width g))))) → (b : Bool) → int_lt z r.end ≡ b
        → AreSome (gang_width g) (last_run (gang_width g) r z).members × AllSome (gang_width g) (map (last_run (gang_width g) r) (from_on (gang_width g) n (z +ℤ pos (gang_width g))))
    by next true h =
        let lt = one_from z r.end h in
        let s = one_run (gang_width g) _ _ (some_width g) (further (gang_width g) z r.end lt) in
        (run_some r z h, next (omega (arith, e, s)))
    by next false h = let s : runs_for (gang_width g) (from_zero (r.end -ℤ z)) ≡ 0 = ap (runs_for (gang_width g)) (none_from z r.end h) ∙ no_run (gang_width g) (some_width g) in absurd (omega (arith, e, s))

  outer_some : (k : ℕ) (z : ℤ) (xs : List Run) → AllSome (gang_width g) xs → AllSome (gang_width g) (map (with_outer k z) xs)
  outer_some k z [] h = tt
  outer_some k z (x ∷ xs) h = (h.0, outer_some k z xs h.1)

  append_some : (xs ys : List Run) → AllSome (gang_width g) xs → AllSome (gang_width g) ys → AllSome (gang_width g) (xs ++ ys)
  append_some [] ys h k = k
  append_some (x ∷ xs) ys h k = (h.0, append_some xs ys h.1 k)

  joined_some : (k : ℕ) (xs : List Run) → AllSome (gang_width g) xs → (zs : List ℤ) → AllSome (gang_width g) (joined_lists (map (λ z. map (with_outer k z) xs) zs))
  joined_some k xs h [] = tt
  joined_some k xs h (z ∷ zs) = append_some (map (with_outer k z) xs) _ (outer_some k z xs h) (joined_some k xs h zs)

  pub runs_some : (rs : List Range) → AllSome (gang_width g) (runs_of (gang_width g) rs)
  runs_some [] = tt
  runs_some (r ∷ []) = inner_some r _ r.start refl
  runs_some (r ∷ o ∷ rs) = joined_some r.index (runs_of (gang_width g) (o ∷ rs)) (runs_some (o ∷ rs)) (from_on 1 (length_of r) r.start)
