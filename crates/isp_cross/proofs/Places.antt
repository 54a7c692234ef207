-- The number of a lane modulo their count, and lanes that are found at another place.
use Rattle.std.proofs.Common.{◌≡◌, refl, sym, ap, ap₂, ◌∙◌, Some, ℕ, suc, ◌+◌, ◌-◌, ◌*◌, ◌%◌, ◌^◌, ◌<◌, ◌≤◌, Bool, true, false, cond, arith, List, ◌++◌, [], length, get_or}
use Rattle.std.proofs.Common.{nat_lt, nat_eq, set, lt-ltb, le-ltb, ltb-true, ltb-false, mod-eq_of_lt, ℤ, pos, negsuc, ◌+ℤ◌, ◌-ℤ◌, unsigned_abs}
use Rattle.std.proofs.lemmas.Int.{ints, int_rem_euclid_is}
use Rattle.std.proofs.lemmas.List.{get_or_past, get_or_append_left, get_or-append_right, get_or-set_same, get_or-set_other, append-nil}
use Rattle.std.proofs.lemmas.Bool.Decides.{nat_tests}
use native.Mathlib.Nat.{add-mod_right, add-mod-mod, le-mul_of_pos_right}
use Rattle.isp_base.specs.declared.types.Elem.TheVariants.{I32}
use Rattle.isp_base.specs.Cross.{or_zero, instance, within, of_two}
use Rattle.isp_base.specs.Maps.{Map}
use Rattle.isp_base.specs.Values.{number, number_to}
use Rattle.isp_base.proofs.Elems.{number_above, number_below}

-- a multiple of n that makes z a natural
pub record Lifted (n : ℕ) (z : ℤ) : Type 0 where
  pub turns : ℕ
  pub rest : ℕ
  pub is : z +ℤ pos (turns * n) ≡ pos rest

pub lifted : (n : ℕ) (z : ℤ) → 0 < n → Lifted n z
lifted n (pos m) h = record { turns = 0; rest = m; is = omega (arith, ints) }
lifted n (negsuc m) h = record { turns = suc m; rest = suc m * n - suc m; is = omega (arith, ints, le-mul_of_pos_right (suc m) h) }

pub turned_is : (n p : ℕ) (z : ℤ) → 0 < n → (p + instance n z) % n ≡ instance n (pos p +ℤ z)
turned_is n p z h =
    let l = lifted n z h in
    let here : instance n z ≡ l.rest % n = ap unsigned_abs (int_rem_euclid_is z (pos n) n l.turns l.rest h refl l.is) in
    let there : instance n (pos p +ℤ z) ≡ (p + l.rest) % n = ap unsigned_abs (int_rem_euclid_is (pos p +ℤ z) (pos n) n l.turns (p + l.rest) h refl (omega (arith, ints, l.is))) in
    ap (λ r. (p + r) % n) here ∙ add-mod-mod p l.rest n ∙ sym there

-- a list after itself
pub get_or-twice : (xs : List ℕ) (n q : ℕ) → length xs ≡ n → q < n + n → get_or (xs ++ (xs ++ [])) q 0 ≡ get_or xs (q % n) 0
get_or-twice xs n q e h = by (nat_lt q n) refl
  where
    by : (b : Bool) → nat_lt q n ≡ b → get_or (xs ++ (xs ++ [])) q 0 ≡ get_or xs (q % n) 0
    by true c =
        let l = ltb-true _ _ c in
        get_or_append_left xs (xs ++ []) 0 q (omega (arith, l, e)) ∙ ap (λ r. get_or xs r 0) (sym (mod-eq_of_lt l))
    by false c =
        let l : n ≤ q = ltb-false _ _ c in
        let back : q % n ≡ q - n = ap (λ r. r % n) (let s : q ≡ (q - n) + n = omega (arith, l) in s) ∙ add-mod_right (q - n) n ∙ mod-eq_of_lt (omega (arith, l, h)) in
        get_or-append_right xs (xs ++ []) n q 0 e l ∙ ap (λ r. get_or r (q - n) 0) (append-nil xs) ∙ ap (λ r. get_or xs r 0) (sym back)

-- the lane that an int32 names
pub int32_lane : (n b up : ℕ) → 0 < n → b < 2 ^ 32 → (2 ^ 31 - 1 < b → up ≡ 2 ^ 32 * (n - 1)) → (b ≤ 2 ^ 31 - 1 → up ≡ 0) → (b + up) % n ≡ instance n (number I32 b)
int32_lane n b up h f above below = by (nat_lt (2 ^ 31 - 1) b) refl
  where
    same : number I32 b ≡ number_to 32 (2 ^ 31 - 1) b
    same = ap (number_to 32 (2 ^ 31 - 1)) (mod-eq_of_lt f)

    by : (t : Bool) → nat_lt (2 ^ 31 - 1) b ≡ t → (b + up) % n ≡ instance n (number I32 b)
    by true c =
        let l : 2 ^ 31 - 1 < b = ltb-true _ _ c in
        let is : number_to 32 (2 ^ 31 - 1) b +ℤ pos (2 ^ 32 * n) ≡ pos (b + up) = omega (arith, ints, number_above 32 (2 ^ 31 - 1) b l, above l, h, f) in
        sym (ap (instance n) same ∙ ap unsigned_abs (int_rem_euclid_is (number_to 32 (2 ^ 31 - 1) b) (pos n) n (2 ^ 32) (b + up) h refl is))
    by false c =
        let l : b ≤ 2 ^ 31 - 1 = ltb-false _ _ c in
        let is : number_to 32 (2 ^ 31 - 1) b +ℤ pos (0 * n) ≡ pos (b + up) = omega (arith, ints, number_below 32 (2 ^ 31 - 1) b l, below l) in
        sym (ap (instance n) same ∙ ap unsigned_abs (int_rem_euclid_is (number_to 32 (2 ^ 31 - 1) b) (pos n) n 0 (b + up) h refl is))

pub within_same : (n : ℕ) (x y : Map) → ((q : ℕ) → or_zero (x q) ≡ or_zero (y q)) → (z : ℤ) → within n x z ≡ within n y z
within_same n x y h (pos q) = ap (λ v. cond (nat_lt q n) v 0) (h q)
within_same n x y h (negsuc q) = refl

-- lanes moved by a negative int32, by n at most
pub down_is : (n : ℕ) (xs : List ℕ) (k d p : ℕ) → p < n → k < 2 ^ 32 → 2 ^ 31 - 1 < k → (2 ^ 32 - k < n → d ≡ 2 ^ 32 - k) → (n ≤ 2 ^ 32 - k → d ≡ n)
    → cond (nat_lt p d) 0 (get_or xs (p - d) 0) ≡ within n (λ q. Some (get_or xs q 0)) (pos p +ℤ number I32 k)
down_is n xs k d p h f neg near far = by (nat_lt p (2 ^ 32 - k)) refl
  where
    value : number I32 k ≡ pos k -ℤ pos (2 ^ 32)
    value = ap (number_to 32 (2 ^ 31 - 1)) (mod-eq_of_lt f) ∙ number_above 32 (2 ^ 31 - 1) k neg

    below : p < d → p < 2 ^ 32 - k → cond (nat_lt p d) 0 (get_or xs (p - d) 0) ≡ within n (λ q. Some (get_or xs q 0)) (pos p +ℤ number I32 k)
    below l m =
        let is : pos p +ℤ number I32 k ≡ negsuc (2 ^ 32 - k - p - 1) = omega (arith, ints, value, m, f) in
        ap (λ b. cond b 0 (get_or xs (p - d) 0)) (lt-ltb p d l) ∙ sym (ap (within n (λ q. Some (get_or xs q 0))) is)

    by : (t : Bool) → nat_lt p (2 ^ 32 - k) ≡ t → cond (nat_lt p d) 0 (get_or xs (p - d) 0) ≡ within n (λ q. Some (get_or xs q 0)) (pos p +ℤ number I32 k)
    by true c =
        let m = ltb-true _ _ c in
        by_far (nat_lt (2 ^ 32 - k) n) refl m
      where
        by_far : (t : Bool) → nat_lt (2 ^ 32 - k) n ≡ t → p < 2 ^ 32 - k → cond (nat_lt p d) 0 (get_or xs (p - d) 0) ≡ within n (λ q. Some (get_or xs q 0)) (pos p +ℤ number I32 k)
        by_far true e m = below (omega (arith, m, near (ltb-true _ _ e))) m
        by_far false e m = below (omega (arith, h, far (ltb-false _ _ e))) m
    by false c =
        let m : 2 ^ 32 - k ≤ p = ltb-false _ _ c in
        let e : d ≡ 2 ^ 32 - k = near (omega (arith, m, h)) in
        let is : pos p +ℤ number I32 k ≡ pos (p - d) = omega (arith, ints, value, m, e, f) in
        ap (λ b. cond b 0 (get_or xs (p - d) 0)) (le-ltb p d (omega (arith, m, e)))
        ∙ ap (λ b. cond b (get_or xs (p - d) 0) 0) (sym (lt-ltb (p - d) n (omega (arith, h))))
        ∙ sym (ap (within n (λ q. Some (get_or xs q 0))) is)

-- by another
pub up_is : (n : ℕ) (xs : List ℕ) (k d p : ℕ) → p < n → k ≤ 2 ^ 31 - 1 → (k < n → d ≡ k) → (n ≤ k → d ≡ n)
    → cond (nat_lt (p + d) n) (get_or xs (p + d) 0) 0 ≡ within n (λ q. Some (get_or xs q 0)) (pos p +ℤ number I32 k)
up_is n xs k d p h small near far = by (nat_lt k n) refl
  where
    value : number I32 k ≡ pos k
    value = ap (number_to 32 (2 ^ 31 - 1)) (mod-eq_of_lt (omega (arith, small))) ∙ number_below 32 (2 ^ 31 - 1) k small

    is : pos p +ℤ number I32 k ≡ pos (p + k)
    is = omega (arith, ints, value)

    by : (t : Bool) → nat_lt k n ≡ t → cond (nat_lt (p + d) n) (get_or xs (p + d) 0) 0 ≡ within n (λ q. Some (get_or xs q 0)) (pos p +ℤ number I32 k)
    by true c = ap (λ e. cond (nat_lt (p + e) n) (get_or xs (p + e) 0) 0) (near (ltb-true _ _ c)) ∙ sym (ap (within n (λ q. Some (get_or xs q 0))) is)
    by false c =
        let l : n ≤ k = ltb-false _ _ c in
        ap (λ b. cond b (get_or xs (p + d) 0) 0) (le-ltb (p + d) n (omega (arith, far l)))
        ∙ ap (λ b. cond b (get_or xs (p + k) 0) 0) (sym (le-ltb (p + k) n (omega (arith, l))))
        ∙ sym (ap (within n (λ q. Some (get_or xs q 0))) is)

pub get_or-set_is : (xs : List ℕ) (i p v : ℕ) → i < length xs → get_or (set xs i v) p 0 ≡ cond (nat_eq p i) v (get_or xs p 0)
get_or-set_is xs i p v h = by (nat_eq p i) refl
  where
    by : (t : Bool) → nat_eq p i ≡ t → get_or (set xs i v) p 0 ≡ cond t v (get_or xs p 0)
    by true c = let e : p ≡ i = grind (arith, nat_tests, c) in ap (λ q. get_or (set xs i v) q 0) e ∙ get_or-set_same xs i v 0 h
    by false c = get_or-set_other xs i p v 0 (λ e. absurd (grind (arith, nat_tests, c, e)))

pub of_two_same : (n : ℕ) (x x' y y' : Map) → ((q : ℕ) → or_zero (x q) ≡ or_zero (x' q)) → ((q : ℕ) → or_zero (y q) ≡ or_zero (y' q)) → (p : ℕ) → of_two n x y p ≡ of_two n x' y' p
of_two_same n x x' y y' h k p = ap₂ (cond (nat_lt p n)) (h p) (k (p - n))

-- the values that are found fit where those do that are looked among
pub within_fits : (m n : ℕ) (x : Map) → 0 < m → ((q : ℕ) → or_zero (x q) < m) → (z : ℤ) → within n x z < m
within_fits m n x some h (negsuc q) = some
within_fits m n x some h (pos q) = by (nat_lt q n)
  where
    by : (b : Bool) → cond b (or_zero (x q)) 0 < m
    by true = h q
    by false = some

pub all_fit : (m n : ℕ) (xs : List ℕ) (f : ℕ → ℕ) → 0 < m → length xs ≡ n → ((p : ℕ) → p < n → get_or xs p 0 ≡ f p) → ((p : ℕ) → f p < m) → (p : ℕ) → get_or xs p 0 < m
all_fit m n xs f some long is fits p = by (nat_lt p n) refl
  where
    by : (b : Bool) → nat_lt p n ≡ b → get_or xs p 0 < m
    by true c = omega (arith, is p (ltb-true _ _ c), fits p)
    by false c = omega (arith, get_or_past xs p 0 (omega (arith, long, ltb-false _ _ c)), some)
