-- Numbers that are counted from a start on, below an end; rounds one after the other; and what the ranges count.
use Rattle.std.proofs.Common.{◌≡◌, refl, sym, ap, ap₂, ◌∙◌, ℕ, zero, suc, ◌+◌, ◌*◌, ◌<◌, ◌≤◌, ◌⊎◌, inl, inr, Bool, true, false, List, [], ◌∷◌, ◌++◌, map, arith}
use Rattle.std.specs.Prelude.{ℤ, pos, negsuc, ◌+ℤ◌, ◌-ℤ◌, int_lt}
use Rattle.std.proofs.lemmas.Int.{ints}
use Rattle.std.proofs.Math.Nat.{suc-mul, zero-mul, mul-zero, one-mul, mul_assoc, mul-add}
use Rattle.isp_base.proofs.Gangs.{some_width}
use Rattle.isp_base.specs.Sets.{Mask}
use Rattle.isp_base.specs.Types.{gang_width}
use Rattle.isp_base.specs.declared.types.Gang.{Gang}
use Rattle.isp_meaning.proofs.RunsFor.{no_run, one_run}
use Rattle.isp_meaning.specs.Outcomes.{Res, Went, Trapped, Cut, go_on}
use Rattle.isp_meaning.specs.Rounds.{Range, Round, rounds, from_zero, length_of, runs_for, joined_lists, counted}
use Rattle.isp_meaning.specs.State.{State}

-- so many numbers from z on, each greater by k than the one before, are below the end
abbrev pub CountsTo : ℕ → ℕ → ℤ → ℤ → Type 0
CountsTo k zero z end = int_lt z end ≡ false
CountsTo k (suc n) z end = (int_lt z end ≡ true) × CountsTo k n (z +ℤ pos k) end

zero_from : (a b : ℤ) → int_lt a b ≡ false → from_zero (b -ℤ a) ≡ 0
zero_from a b h = by (b -ℤ a) refl
  where
    by : (d : ℤ) → d ≡ b -ℤ a → from_zero d ≡ 0
    by (pos zero) e = refl
    by (pos (suc n)) e = absurd (grind (arith, ints, e, h))
    by (negsuc n) e = refl

one_from : (a b : ℤ) → int_lt a b ≡ true → from_zero (b -ℤ a) ≡ suc (from_zero (b -ℤ (a +ℤ pos 1)))
one_from a b h = by (b -ℤ a) refl
  where
    by : (d : ℤ) → d ≡ b -ℤ a → from_zero d ≡ suc (from_zero (b -ℤ (a +ℤ pos 1)))
    by (pos zero) e = absurd (grind (arith, ints, e, h))
    by (pos (suc n)) e = let k : b -ℤ (a +ℤ pos 1) ≡ pos n = omega (arith, ints, e) in ap suc (sym (ap from_zero k))
    by (negsuc n) e = absurd (grind (arith, ints, e, h))

-- so many numbers further
far : (g : ℕ) (a b : ℤ) → int_lt a b ≡ true
    → (from_zero (b -ℤ a) ≡ from_zero (b -ℤ (a +ℤ pos g)) + g) ⊎ ((0 < from_zero (b -ℤ a)) × (from_zero (b -ℤ a) ≤ g) × (from_zero (b -ℤ (a +ℤ pos g)) ≡ 0))
far g a b h = by (b -ℤ a) (b -ℤ (a +ℤ pos g)) refl refl
  where
    by : (d f : ℤ) → d ≡ b -ℤ a → f ≡ b -ℤ (a +ℤ pos g) → (from_zero d ≡ from_zero f + g) ⊎ ((0 < from_zero d) × (from_zero d ≤ g) × (from_zero f ≡ 0))
    by (pos zero) f e k = absurd (grind (arith, ints, e, h))
    by (pos (suc n)) (pos m) e k = inl (omega (arith, ints, e, k))
    by (pos (suc n)) (negsuc m) e k = inr (omega arith, omega (arith, ints, e, k), refl)
    by (negsuc n) f e k = absurd (grind (arith, ints, e, h))

pub counts_ones : (n : ℕ) (z end : ℤ) → n ≡ from_zero (end -ℤ z) → CountsTo 1 n z end
counts_ones zero z end e = by (int_lt z end) refl
  where
    by : (b : Bool) → int_lt z end ≡ b → int_lt z end ≡ false
    by true h = absurd (omega (arith, e, one_from z end h))
    by false h = h
counts_ones (suc n) z end e = by (counts_ones n (z +ℤ pos 1) end) (int_lt z end) refl
  where
    by : (n ≡ from_zero (end -ℤ (z +ℤ pos 1)) → CountsTo 1 n (z +ℤ pos 1) end) → (b : Bool) → int_lt z end ≡ b → (int_lt z end ≡ true) × CountsTo 1 n (z +ℤ pos 1) end
    by ih true h = (h, ih (omega (arith, e, one_from z end h)))
    by ih false h = absurd (omega (arith, e, zero_from z end h))

pub counts_runs : (g : Gang) (n : ℕ) (z end : ℤ) → n ≡ runs_for (gang_width g) (from_zero (end -ℤ z)) → CountsTo (gang_width g) n z end
counts_runs g zero z end e = by (int_lt z end) refl
  where
    by : (b : Bool) → int_lt z end ≡ b → int_lt z end ≡ false
    by true h = let s = one_run (gang_width g) _ _ (some_width g) (far (gang_width g) z end h) in absurd (omega (arith, e, s))
    by false h = h
counts_runs g (suc n) z end e = by (counts_runs g n (z +ℤ pos (gang_width g)) end) (int_lt z end) refl
  where
    by : (n ≡ runs_for (gang_width g) (from_zero (end -ℤ (z +ℤ pos (gang_width g)))) → CountsTo (gang_width g) n (z +ℤ pos (gang_width g)) end)
        → (b : Bool) → int_lt z end ≡ b → (int_lt z end ≡ true) × CountsTo (gang_width g) n (z +ℤ pos (gang_width g)) end
    by ih true h = let s = one_run (gang_width g) _ _ (some_width g) (far (gang_width g) z end h) in (h, ih (omega (arith, e, s)))
    by ih false h = let s : runs_for (gang_width g) (from_zero (end -ℤ z)) ≡ 0 = ap (runs_for (gang_width g)) (zero_from z end h) ∙ no_run (gang_width g) (some_width g) in absurd (omega (arith, e, s))

-- ---- rounds, one after the other

pub rounds_join : (body : Mask → State → Res) (all : Mask) (xs ys : List Round) (s : State) → go_on (rounds body all xs s) (λ s1 g b c r. rounds body all ys s1) ≡ rounds body all (xs ++ ys) s
rounds_join body all [] ys s = refl
rounds_join body all (x ∷ xs) ys s = by (rounds_join body all xs ys) (body x.members (x.begins s))
  where
    by : ((s1 : State) → go_on (rounds body all xs s1) (λ s2 g b c r. rounds body all ys s2) ≡ rounds body all (xs ++ ys) s1) → (v : Res)
        → go_on (go_on v (λ s1 g b c r. rounds body all xs s1)) (λ s2 g b c r. rounds body all ys s2)
        ≡ go_on v (λ s1 g b c r. rounds body all (xs ++ ys) s1)
    by ih (Went s1 g b c r) = ih s1
    by ih (Trapped t s1) = refl
    by ih (Cut s1) = refl

pub map_joined : {A : Type 0} (f : ℤ → A) (zs : List ℤ) → joined_lists (map (λ z. f z ∷ []) zs) ≡ map f zs
map_joined f [] = refl
map_joined f (z ∷ zs) = ap (λ xs. f z ∷ xs) (map_joined f zs)

map_append : {A B : Type 0} (f : A → B) (xs ys : List A) → map f (xs ++ ys) ≡ map f xs ++ map f ys
map_append f [] ys = refl
map_append f (x ∷ xs) ys = ap (λ zs. f x ∷ zs) (map_append f xs ys)

pub map_of_joined : {A B : Type 0} (f : A → B) (g : ℤ → List A) (zs : List ℤ) → map f (joined_lists (map g zs)) ≡ joined_lists (map (λ z. map f (g z)) zs)
map_of_joined f g [] = refl
map_of_joined f g (z ∷ zs) = map_append f (g z) (joined_lists (map g zs)) ∙ ap (λ xs. map f (g z) ++ xs) (map_of_joined f g zs)

pub map_of_map : {A B C : Type 0} (f : B → C) (g : A → B) (xs : List A) → map f (map g xs) ≡ map (λ x. f (g x)) xs
map_of_map f g [] = refl
map_of_map f g (x ∷ xs) = ap (λ zs. f (g x) ∷ zs) (map_of_map f g xs)

-- ---- what the ranges count: so many times as much where the outer runs are so many

pub counted_by : (gang o : ℕ) (rs : List Range) → counted gang o rs ≡ o * counted gang 1 rs
counted_by gang o [] = sym (mul-zero o)
counted_by gang o (r ∷ []) = ap (λ z. o * z) (sym (one-mul (runs_for gang (length_of r))))
counted_by gang o (r ∷ q ∷ rs) =
    let n = length_of r in
    let c = counted gang 1 (q ∷ rs) in
    ap (λ z. o * n + z) (counted_by gang (o * n) (q ∷ rs) ∙ mul_assoc o n c) ∙ sym (mul-add o n (n * c)) ∙ ap (λ z. o * z) (sym (ap₂ (λ a b. a + b) (one-mul n) (counted_by gang (1 * n) (q ∷ rs) ∙ ap (λ z. z * c) (one-mul n))))

-- a turn of an outer range pays for itself and for what is inside
pub turns_cost : (n c : ℕ) → n * (32 + 32 * c) ≡ 32 * (n + n * c)
turns_cost zero c = let a = zero-mul (32 + 32 * c) in let b = zero-mul c in omega (arith, a, b)
turns_cost (suc n) c = let a = suc-mul n (32 + 32 * c) in let b = suc-mul n c in let d = turns_cost n c in omega (arith, a, b, d)
