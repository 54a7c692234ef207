-- Where instances store and read, and that they are apart if each does so at places of its own.
use Rattle.std.proofs.Common.{◌≡◌, refl, sym, ap, ◌∙◌, ℕ, zero, suc, ◌<◌, ◌%◌, ◌⊎◌, inl, inr, Some, None, arith, true≢false}
use Rattle.std.specs.Prelude.{Option, Bool, true, false, ◌&&◌, nat_eq, nat_lt, if◌then◌else◌, IsSome}
use Rattle.std.proofs.lemmas.Bool.{and_parts}
use Rattle.std.proofs.lemmas.Bool.Decides.{nat_tests}
use Rattle.isp_solo_meaning.specs.Answers.{Answer}
use Rattle.isp_solo_meaning.specs.Touched.{Reads, Writes, Clash, AreApart}

pub below_four : (P : ℕ → Type 0) → P 0 → P 1 → P 2 → P 3 → (p : ℕ) → p < 4 → P p
below_four P a b c d zero lt = a
below_four P a b c d (suc zero) lt = b
below_four P a b c d (suc (suc zero)) lt = c
below_four P a b c d (suc (suc (suc zero))) lt = d
below_four P a b c d (suc (suc (suc (suc n)))) lt = absurd (omega (arith, lt))

-- ---- places

two_parts : (c b i e : ℕ) → (nat_eq c b && nat_eq i e) ≡ true → (c ≡ b) × (i ≡ e)
two_parts c b i e h = let k = and_parts (nat_eq c b) (nat_eq i e) h in (grind (arith, k, nat_tests), grind (arith, k, nat_tests))

stored_there : (c b i e x : ℕ) (old : Option ℕ) → IsSome (if nat_eq c b && nat_eq i e then Some x else old) → ((c ≡ b) × (i ≡ e)) ⊎ IsSome old
stored_there c b i e x old h = by (nat_eq c b && nat_eq i e) refl h where
  by : (t : Bool) → (nat_eq c b && nat_eq i e) ≡ t → IsSome (if t then Some x else old) → ((c ≡ b) × (i ≡ e)) ⊎ IsSome old
  by true k h = inl (two_parts c b i e k)
  by false k h = inr h

read_there : (c b i e : ℕ) (old : Bool) → (if nat_eq c b && nat_eq i e then true else old) ≡ true → ((c ≡ b) × (i ≡ e)) ⊎ (old ≡ true)
read_there c b i e old h = by (nat_eq c b && nat_eq i e) refl h where
  by : (t : Bool) → (nat_eq c b && nat_eq i e) ≡ t → (if t then true else old) ≡ true → ((c ≡ b) × (i ≡ e)) ⊎ (old ≡ true)
  by true k h = inl (two_parts c b i e k)
  by false k h = inr h

-- the place is one of array b, and instance p has its number
abbrev pub Mine : ℕ → ℕ → ℕ → ℕ → Type 0
Mine b p c i = (c ≡ b) × (i % 4 ≡ p)

abbrev nothing : Option ℕ
nothing = None

pub one_stored : (b p c i x : ℕ) → p % 4 ≡ p → IsSome (if nat_eq c b && nat_eq i p then Some x else None) → Mine b p c i
one_stored b p c i x low h = by (stored_there c b i p x None h) where
  by : ((c ≡ b) × (i ≡ p)) ⊎ IsSome nothing → Mine b p c i
  by (inl k) = (k.0, ap (λ n. n % 4) k.1 ∙ low)
  by (inr k) = absurd (true≢false (sym k))

pub two_stored : (b p q c i x y : ℕ) → p % 4 ≡ p → q % 4 ≡ p → IsSome (if nat_eq c b && nat_eq i q then Some y else if nat_eq c b && nat_eq i p then Some x else None) → Mine b p c i
two_stored b p q c i x y low up h = by (stored_there c b i q y _ h) where
  by : ((c ≡ b) × (i ≡ q)) ⊎ IsSome (if nat_eq c b && nat_eq i p then Some x else None) → Mine b p c i
  by (inl k) = (k.0, ap (λ n. n % 4) k.1 ∙ up)
  by (inr k) = one_stored b p c i x low k

pub one_read : (b p c i : ℕ) → p % 4 ≡ p → (if nat_eq c b && nat_eq i p then true else false) ≡ true → Mine b p c i
one_read b p c i low h = by (read_there c b i p false h) where
  by : ((c ≡ b) × (i ≡ p)) ⊎ (false ≡ true) → Mine b p c i
  by (inl k) = (k.0, ap (λ n. n % 4) k.1 ∙ low)
  by (inr k) = absurd (true≢false (sym k))

pub two_read : (b p q c i : ℕ) → p % 4 ≡ p → q % 4 ≡ p → (if nat_eq c b && nat_eq i q then true else if nat_eq c b && nat_eq i p then true else false) ≡ true → Mine b p c i
two_read b p q c i low up h = by (read_there c b i q _ h) where
  by : ((c ≡ b) × (i ≡ q)) ⊎ ((if nat_eq c b && nat_eq i p then true else false) ≡ true) → Mine b p c i
  by (inl k) = (k.0, ap (λ n. n % 4) k.1 ∙ up)
  by (inr k) = one_read b p c i low k

-- each stores in one array and reads in one, at places of its own
abbrev pub Stores : (ℕ → Answer ℕ) → ℕ → ℕ → Type 0
Stores run b p = (c i : ℕ) → Writes (run p) c i → Mine b p c i

abbrev pub Finds : (ℕ → Answer ℕ) → ℕ → ℕ → Type 0
Finds run b p = (c i : ℕ) → Reads (run p) c i → Mine b p c i

pub apart_by : (run : ℕ → Answer ℕ) (b r : ℕ) → ((p : ℕ) → p < 4 → Stores run b p) → ((p : ℕ) → p < 4 → Finds run r p) → AreApart 4 run
apart_by run b r stores finds c i h = h.two (by h.touches) where
  mine : i % 4 ≡ h.writer
  mine = (stores h.writer h.writer_is c i h.writes).1

  by : Reads (run h.other) c i ⊎ Writes (run h.other) c i → h.writer ≡ h.other
  by (inl k) = sym mine ∙ (finds h.other h.other_is c i k).1
  by (inr k) = sym mine ∙ (stores h.other h.other_is c i k).1

-- nothing at all is stored, or read
pub none_stored : (b p c i : ℕ) → IsSome nothing → Mine b p c i
none_stored b p c i h = absurd (true≢false (sym h))

pub none_read : (b p c i : ℕ) → false ≡ true → Mine b p c i
none_read b p c i h = absurd (true≢false (sym h))

-- ---- in the first array alone

pub at_place : (e p x : ℕ) → IsSome (if nat_eq e p then Some x else None) → e ≡ p
at_place e p x h = by (nat_eq e p) refl h where
  by : (t : Bool) → nat_eq e p ≡ t → IsSome (if t then Some x else None) → e ≡ p
  by true k h = grind (arith, k, nat_tests)
  by false k h = absurd (true≢false (sym h))

pub first_apart : (run : ℕ → Answer ℕ) → ((p : ℕ) → p < 4 → (e : ℕ) → Writes (run p) 0 e → e ≡ p) → ((p : ℕ) → p < 4 → (e : ℕ) → Reads (run p) 0 e → ⊥)
    → (b e : ℕ) → nat_lt b 1 ≡ true → Clash 4 run b e → ⊥
first_apart run writes reads (suc b) e lt c = let no : suc b < 1 = grind (arith, lt, nat_tests) in omega (arith, no)
first_apart run writes reads zero e lt c = by c.touches where
  by : Reads (run c.other) 0 e ⊎ Writes (run c.other) 0 e → ⊥
  by (inl h) = reads c.other c.other_is e h
  by (inr h) = c.two (sym (writes c.writer c.writer_is e c.writes) ∙ writes c.other c.other_is e h)
