-- The lanes of a mask, 0 or 1.
use Rattle.std.proofs.Common.{◌≡◌, refl, sym, ap, ap₂, ◌∙◌, ◌≤◌, ◌+◌, subst, Some, None, map-id, lt-ltb, le-ltb, nat_lt, ltb-true, ltb-false, ℕ, zero, suc, ◌<◌, Bool, true, false, cond, not, ◌&&◌, ◌||◌}
use Rattle.std.proofs.Common.{◌==◌, ◌/◌, ◌%◌, ◌^◌, arith, bit_and, bit_or, bit_xor, List, [], ◌∷◌, map, length, get_or, set, replicate, lit≤, Fits, Fits-lit, w8}
use Rattle.std.proofs.lemmas.Bool.Decides.{nat_tests}
use Rattle.std.proofs.lemmas.Simd.{bit_mask_l, leading_from_mask_l, trailing_mask_l}
use Rattle.std.specs.List.{position, position_or_len, list_any, list_all}
use lib.Count.{count_trailing_zeros}
use Rattle.std.specs.Simd.Lanes.{zip2, top, mask_l}
use mir.Val.{bool_byte}
use Rattle.isp_base.specs.Sets.{flag_of}
use Rattle.isp_lanes.specs.Lanes.{is_on, lowest}

pub on_and : (a b : ℕ) → a < 2 → b < 2 → is_on (bit_and a b) ≡ (is_on a && is_on b)
on_and zero zero p q = refl
on_and zero (suc zero) p q = refl
on_and (suc zero) zero p q = refl
on_and (suc zero) (suc zero) p q = refl
on_and (suc (suc a)) b p q = absurd (omega arith)
on_and zero (suc (suc b)) p q = absurd (omega arith)
on_and (suc zero) (suc (suc b)) p q = absurd (omega arith)

pub on_or : (a b : ℕ) → a < 2 → b < 2 → is_on (bit_or a b) ≡ (is_on a || is_on b)
on_or zero zero p q = refl
on_or zero (suc zero) p q = refl
on_or (suc zero) zero p q = refl
on_or (suc zero) (suc zero) p q = refl
on_or (suc (suc a)) b p q = absurd (omega arith)
on_or zero (suc (suc b)) p q = absurd (omega arith)
on_or (suc zero) (suc (suc b)) p q = absurd (omega arith)

pub on_and_not : (a b : ℕ) → a < 2 → b < 2 → is_on (bit_and a (bit_xor b 1)) ≡ (is_on a && not (is_on b))
on_and_not zero zero p q = refl
on_and_not zero (suc zero) p q = refl
on_and_not (suc zero) zero p q = refl
on_and_not (suc zero) (suc zero) p q = refl
on_and_not (suc (suc a)) b p q = absurd (omega arith)
on_and_not zero (suc (suc b)) p q = absurd (omega arith)
on_and_not (suc zero) (suc (suc b)) p q = absurd (omega arith)

-- the sign of a comparison with 0, of a lane of 0 or 1
on_wide : (h m a : ℕ) → (top h m ≡ true) → (top h 0 ≡ false) → a < 2 → top h (cond (not (a == 0)) m 0) ≡ is_on a
on_wide h m zero d e p = e
on_wide h m (suc zero) d e p = d
on_wide h m (suc (suc a)) d e p = absurd (omega arith)

-- the mask that a kernel reads
pub wide_is : (h m : ℕ) → (top h m ≡ true) → (top h 0 ≡ false) → (n : ℕ) (xs : List ℕ) → length xs ≡ n → ((k : ℕ) → get_or xs k 0 < 2) → map (top h) (zip2 (λ a b. cond (not (a == b)) m 0) xs (replicate n 0)) ≡ map is_on xs
wide_is h m d e n [] p q = refl
wide_is h m d e zero (x ∷ xs) p q = absurd (omega arith)
wide_is h m d e (suc n) (x ∷ xs) p q = ap₂ (λ c t. c ∷ t) (on_wide h m x d e (q 0)) (wide_is h m d e n xs (omega arith) (λ k. q (suc k)))

-- where no bit is set, no lane is on
pub first_none : (ms : List Bool) → mask_l ms ≡ 0 → position (λ b. b) ms ≡ None
first_none ms e =
    let all = leading_from_mask_l (λ b. b) ms (ap mask_l (map-id ms) ∙ e) in
    ap (λ t. cond t (Some (position_or_len (λ b. b) ms)) None) (le-ltb _ _ (omega (arith, all)))

-- where a bit is set, a lane is on
some_on : (ms : List Bool) → 0 < mask_l ms → position_or_len (λ b. b) ms < length ms
some_on [] h = absurd (omega arith)
some_on (true ∷ ms) h = omega arith
some_on (false ∷ ms) h = let r = some_on ms (omega arith) in omega arith

-- and the lowest bit is that of the lowest lane
pub first_some : (ms : List Bool) → length ms ≤ 64 → 0 < mask_l ms → position (λ b. b) ms ≡ Some (count_trailing_zeros 64 (mask_l ms))
first_some ms room more =
    let at = trailing_mask_l (λ b. b) 64 ms room (subst (λ (r : List Bool). 0 < mask_l r) (sym (map-id ms)) more) in
    ap (λ t. cond t (Some (position_or_len (λ b. b) ms)) None) (lt-ltb _ _ (some_on ms more))
    ∙ ap Some (sym at ∙ ap (λ r. count_trailing_zeros 64 (mask_l r)) (map-id ms))

pub first_lt : (ms : List Bool) → length ms ≤ 64 → 0 < mask_l ms → count_trailing_zeros 64 (mask_l ms) < length ms
first_lt ms room more =
    let at = trailing_mask_l (λ b. b) 64 ms room (subst (λ (r : List Bool). 0 < mask_l r) (sym (map-id ms)) more) in
    omega (arith, sym at ∙ ap (λ r. count_trailing_zeros 64 (mask_l r)) (map-id ms), some_on ms more)

on_byte : (b : Bool) → is_on (bool_byte b) ≡ b
on_byte true = refl
on_byte false = refl

pub set_on : (xs : List ℕ) (i : ℕ) (b : Bool) → map is_on (set xs i (bool_byte b)) ≡ set (map is_on xs) i b
set_on [] i b = refl
set_on (x ∷ xs) zero b = ap (λ c. c ∷ map is_on xs) (on_byte b)
set_on (x ∷ xs) (suc i) b = ap (λ t. is_on x ∷ t) (set_on xs i b)

-- a lane that is on and has a word other than 0
hit_on : (a b : ℕ) → a < 2 → is_on (bit_and a (cond (is_on b) 1 0)) ≡ (is_on a && is_on b)
hit_on zero b p = by (is_on b)
  where
    by : (t : Bool) → is_on (bit_and 0 (cond t 1 0)) ≡ (false && t)
    by true = refl
    by false = refl
hit_on (suc zero) b p = by (is_on b)
  where
    by : (t : Bool) → is_on (bit_and 1 (cond t 1 0)) ≡ (true && t)
    by true = refl
    by false = refl
hit_on (suc (suc a)) b p = absurd (omega arith)

pub hits_on : (xs ys : List ℕ) → ((k : ℕ) → get_or xs k 0 < 2) → map is_on (zip2 (λ a b. bit_and a (cond (is_on b) 1 0)) xs ys) ≡ zip2 (λ m b. m && is_on b) (map is_on xs) ys
hits_on [] ys p = refl
hits_on (u ∷ us) [] p = refl
hits_on (u ∷ us) (v ∷ vs) p = ap₂ (λ c t. c ∷ t) (hit_on u v (p 0)) (hits_on us vs (λ k. p (suc k)))

pub flag_fits : (t : Bool) → Fits w8 (cond t 1 0)
flag_fits true = Fits-lit tt
flag_fits false = Fits-lit tt

pub flag_lt : (t : Bool) → cond t 1 0 < 2
flag_lt true = lit≤ tt
flag_lt false = lit≤ tt

-- the lanes that are on, without those that have a word other than 0
off_at : (m : Bool) (b : ℕ) → (m && not (m && is_on b)) ≡ (m && b == 0)
off_at true b = grind (arith, nat_tests)
off_at false b = refl

pub off_hits : (ms : List Bool) (ys : List ℕ) → zip2 (λ a b. a && not b) ms (zip2 (λ m b. m && is_on b) ms ys) ≡ zip2 (λ m b. m && b == 0) ms ys
off_hits [] ys = refl
off_hits (m ∷ ms) [] = refl
off_hits (m ∷ ms) (y ∷ ys) = ap₂ (λ c t. c ∷ t) (off_at m y) (off_hits ms ys)

-- a bit is set just where a lane is on
pub any_bits : (ms : List Bool) → list_any (λ b. b) ms ≡ not (mask_l ms == 0)
any_bits [] = refl
any_bits (true ∷ ms) = grind (arith, nat_tests)
any_bits (false ∷ ms) = any_bits ms ∙ grind (arith, nat_tests)

-- all lanes are on just where none is off
pub none_off : (n : ℕ) (ms : List Bool) → length ms ≡ n → not (list_any (λ b. b) (zip2 (λ a b. a && not b) (replicate n true) ms)) ≡ list_all (λ b. b) ms
none_off zero [] l = refl
none_off (suc n) [] l = refl
none_off zero (m ∷ ms) l = absurd (omega arith)
none_off (suc n) (true ∷ ms) l = none_off n ms (omega arith)
none_off (suc n) (false ∷ ms) l = refl

-- the lowest lane alone
off_all : (ms : List Bool) → replicate (length ms) false ≡ map (λ _. false) ms
off_all [] = refl
off_all (m ∷ ms) = ap (λ t. false ∷ t) (off_all ms)

set_lowest : (ms : List Bool) → position_or_len (λ b. b) ms < length ms → set (replicate (length ms) false) (position_or_len (λ b. b) ms) true ≡ lowest ms
set_lowest [] h = absurd (omega arith)
set_lowest (true ∷ ms) h = ap (λ t. true ∷ t) (off_all ms)
set_lowest (false ∷ ms) h =
    let k = position_or_len (λ b. b) ms in
    let next : 1 + k ≡ suc k = omega arith in
    ap (λ n. set (false ∷ replicate (length ms) false) n true) next ∙ ap (λ t. false ∷ t) (set_lowest ms (omega arith))

none_lowest : (ms : List Bool) → length ms ≤ position_or_len (λ b. b) ms → replicate (length ms) false ≡ lowest ms
none_lowest [] h = refl
none_lowest (true ∷ ms) h = absurd (omega arith)
none_lowest (false ∷ ms) h = ap (λ t. false ∷ t) (none_lowest ms (omega arith))

pub lowest_some : (n : ℕ) (ms : List Bool) (lane : ℕ) → length ms ≡ n → position (λ b. b) ms ≡ Some lane → set (replicate n false) lane true ≡ lowest ms
lowest_some n ms lane l e = by (nat_lt k (length ms)) refl e
  where
    k : ℕ
    k = position_or_len (λ b. b) ms

    by : (t : Bool) → nat_lt k (length ms) ≡ t → cond t (Some k) None ≡ Some lane → set (replicate n false) lane true ≡ lowest ms
    by true d e =
        let same : k ≡ lane = cc in
        ap₂ (λ m j. set (replicate m false) j true) (sym l) (sym same) ∙ set_lowest ms (ltb-true _ _ d)
    by false d e = absurd (cc)

pub lowest_none : (n : ℕ) (ms : List Bool) → length ms ≡ n → position (λ b. b) ms ≡ None → replicate n false ≡ lowest ms
lowest_none n ms l e = by (nat_lt k (length ms)) refl e
  where
    k : ℕ
    k = position_or_len (λ b. b) ms

    by : (t : Bool) → nat_lt k (length ms) ≡ t → cond t (Some k) None ≡ None → replicate n false ≡ lowest ms
    by true d e = absurd (cc)
    by false d e = ap (λ m. replicate m false) (sym l) ∙ none_lowest ms (ltb-false _ _ d)

-- a row of flags, read as lanes of a mask that is full
on_flag : (b : Bool) → is_on (cond b 1 0) ≡ b
on_flag true = refl
on_flag false = refl

pub full_hits : (t : ℕ → Bool) (xs : List ℕ) (n : ℕ) → length xs ≡ n → zip2 (λ m b. m && is_on b) (replicate n true) (map (λ p. cond (t p) 1 0) xs) ≡ map t xs
full_hits t [] zero l = refl
full_hits t [] (suc n) l = refl
full_hits t (x ∷ xs) zero l = absurd (omega arith)
full_hits t (x ∷ xs) (suc n) l = ap₂ (λ c r. c ∷ r) (on_flag (t x)) (full_hits t xs n (omega arith))

-- a lane's bit
pub bit_is : (ms : List Bool) (bits i : ℕ) → bits ≡ mask_l ms → (bits / 2 ^ i % 2 == 1) ≡ flag_of ms i
bit_is ms bits i e = ap (λ k. k == 1) (ap (λ b. b / 2 ^ i % 2) e ∙ bit_mask_l ms i) ∙ by (flag_of ms i)
  where
    by : (b : Bool) → (cond b 1 0 == 1) ≡ b
    by true = refl
    by false = refl
