-- Which bits are indices outside an array, and the lowest lane that has such an index.
use Rattle.std.proofs.Common.{◌≡◌, refl, sym, ap, ◌∙◌, subst, ⊎_elim, ℕ, zero, suc, ◌+◌, ◌-◌, ◌^◌, ◌<◌, ◌≤◌, Bool, true, false, ◌||◌, not, Option, Some, None, List, [], ◌∷◌}
use Rattle.std.proofs.Common.{length, get_or, nat_lt, int_lt, pos, ℤ, unsigned_abs, arith, mod-eq_of_lt, ltb-true, lt-ltb, le-ltb}
use Rattle.std.specs.Prelude.{if◌then◌else◌, position, cond}
use Rattle.std.specs.List.{position_or_len}
use Rattle.isp_base.proofs.Signs.{test_is}
use Rattle.std.proofs.lemmas.Bool.{cases_lt}
use Rattle.std.proofs.lemmas.Int.{ints}
use Rattle.std.proofs.lemmas.List.{get_or_past}
use Rattle.isp_base.specs.Access.{is_outside}
use Rattle.isp_base.specs.Maps.{on, lane_of, lowest_failing}
use Rattle.isp_base.specs.Sets.{Mask, lowest, or_this, flag_of}
use Rattle.isp_base.specs.Values.{number, number_to}
use Rattle.isp_base.specs.declared.types.Elem.TheVariants.{I64}
use Rattle.isp_base.proofs.Elems.{number_above, number_below}
use Rattle.isp_lanes.proofs.Failing.{none_fails}
use Rattle.isp_cells.proofs.Inside.{IsInside, AreInside}

out : ℤ → ℕ → Bool
out z n = int_lt z (pos 0) || not (int_lt z (pos n))

pub number_low : (x : ℕ) → x < 2 ^ 63 → number I64 x ≡ pos x
number_low x h = ap (number_to 64 (2 ^ 63 - 1)) (mod-eq_of_lt (omega (arith, h))) ∙ number_below 64 (2 ^ 63 - 1) x (omega (arith, h))

negative : (x : ℕ) → 2 ^ 63 ≤ x → x < 2 ^ 64 → int_lt (number I64 x) (pos 0) ≡ true
negative x h l =
    let a = number_above 64 (2 ^ 63 - 1) x (omega (arith, h)) in
    ap (λ y. int_lt (number_to 64 (2 ^ 63 - 1) y) (pos 0)) (mod-eq_of_lt l) ∙ test_is (int_lt (number_to 64 (2 ^ 63 - 1) x) (pos 0)) 0 1 (λ t. omega arith) (λ t. absurd (omega (arith, ints, a, t, h, l)))

out_low : (n x : ℕ) → x < 2 ^ 63 → is_outside I64 n x ≡ not (nat_lt x n)
out_low n x h = ap (λ z. int_lt z (pos 0) || not (int_lt z (pos n))) (number_low x h) ∙ ap (λ b. b || not (nat_lt x n)) (le-ltb x 0 (omega arith))

out_high : (n x : ℕ) → 2 ^ 63 ≤ x → x < 2 ^ 64 → is_outside I64 n x ≡ true
out_high n x h l = ap (λ b. b || not (int_lt (number I64 x) (pos n))) (negative x h l)

-- the elements of an array have their numbers as indices, up to the greatest int64
pub outside_few : (n : ℕ) → n ≤ 2 ^ 63 → (x : ℕ) → x < 2 ^ 64 → is_outside I64 n x ≡ not (nat_lt x n)
outside_few n few x l = ⊎_elim (λ (h : x < 2 ^ 63). out_low n x h) (λ (h : 2 ^ 63 ≤ x). out_high n x h l ∙ sym (ap not (le-ltb x n (omega (arith, h, few))))) (cases_lt x (2 ^ 63))

pub outside_many : (n : ℕ) → 2 ^ 63 ≤ n → (x : ℕ) → x < 2 ^ 64 → is_outside I64 n x ≡ not (nat_lt x (2 ^ 63))
outside_many n many x l =
    ⊎_elim (λ (h : x < 2 ^ 63). out_low n x h ∙ ap not (lt-ltb x n (omega (arith, h, many)) ∙ sym (lt-ltb x (2 ^ 63) h))) (λ (h : 2 ^ 63 ≤ x). out_high n x h l ∙ sym (ap not (le-ltb x (2 ^ 63) h))) (cases_lt x (2 ^ 63))

is_not_false : (b : Bool) → not b ≡ false → b ≡ true
is_not_false true e = refl
is_not_false false e = sym e

pub inside_is : (n x : ℕ) → x < 2 ^ 64 → is_outside I64 n x ≡ false → IsInside n x
inside_is n x l e = ⊎_elim (λ (h : x < 2 ^ 63). low h) (λ (h : 2 ^ 63 ≤ x). high h) (cases_lt x (2 ^ 63))
  where
    low : x < 2 ^ 63 → IsInside n x
    low h = (ltb-true x n (is_not_false (nat_lt x n) (sym (out_low n x h) ∙ e)), ap unsigned_abs (number_low x h))

    high : 2 ^ 63 ≤ x → IsInside n x
    high h = let b = sym (out_high n x h l) ∙ e in cc

pub past_end : (bs : List Bool) (p : ℕ) → length bs ≤ p → flag_of bs p ≡ false
past_end bs p h = get_or_past bs p false h

pub on_there : (bs : List Bool) (n p : ℕ) → length bs ≡ n → flag_of bs p ≡ true → p < n
on_there bs n p long is = ⊎_elim (λ (h : p < n). h) (λ (h : n ≤ p). let e = sym (past_end bs p (omega (arith, long, h))) ∙ is in cc) (cases_lt p n)

pub all_inside : (n count : ℕ) (bs : List Bool) (xs : List ℕ) → length bs ≡ n → ((p : ℕ) → get_or xs p 0 < 2 ^ 64) → lowest_failing n (is_outside I64 count) (on (flag_of bs) (lane_of xs)) ≡ None → AreInside count (flag_of bs) (lane_of xs)
all_inside n count bs xs long fits none p is =
    inside_is count (lane_of xs p) (fits p) (none_fails (is_outside I64 count) (flag_of bs) (lane_of xs) n none p (on_there bs n p long is) is)

-- at a limit as the calls have it
module _ (n limit : ℕ) (is : (x : ℕ) → x < 2 ^ 64 → is_outside I64 n x ≡ not (nat_lt x limit)) (x : ℕ) (fits : x < 2 ^ 64) where
  pub within : x < limit → is_outside I64 n x ≡ false
  within h = is x fits ∙ ap not (lt-ltb x limit h)

-- the lowest lane of a list of flags
abbrev shift : Option ℕ → Option ℕ
shift None = None
shift (Some p) = Some (suc p)

lowest_first : (n : ℕ) (a : Mask) → lowest (suc n) a ≡ (if a 0 then Some 0 else shift (lowest n (λ p. a (suc p))))
lowest_first zero a = by (a 0)
  where
    by : (b : Bool) → or_this None b 0 ≡ (if b then Some 0 else None)
    by true = refl
    by false = refl
lowest_first (suc n) a = ap (λ o. or_this o (a (suc n)) (suc n)) (lowest_first n a) ∙ by (a 0) (lowest n (λ p. a (suc p))) (a (suc n))
  where
    by : (b : Bool) (o : Option ℕ) (c : Bool) → or_this (if b then Some 0 else shift o) c (suc n) ≡ (if b then Some 0 else shift (or_this o c n))
    by true o c = refl
    by false (Some p) c = refl
    by false None true = refl
    by false None false = refl

one_more : (k n : ℕ) → cond (nat_lt (1 + k) (suc n)) (Some (1 + k)) None ≡ shift (cond (nat_lt k n) (Some k) None)
one_more k n =
    let e : 1 + k ≡ suc k = omega arith in
    ap (λ m. cond (nat_lt m (suc n)) (Some m) None) e
    ∙ ⊎_elim (λ (h : k < n). ap (λ b. cond b (Some (suc k)) None) (lt-ltb (suc k) (suc n) (omega (arith, h))) ∙ sym (ap (λ b. shift (cond b (Some k) None)) (lt-ltb k n h)))
    (λ (h : n ≤ k). ap (λ b. cond b (Some (suc k)) None) (le-ltb (suc k) (suc n) (omega (arith, h))) ∙ sym (ap (λ b. shift (cond b (Some k) None)) (le-ltb k n h))) (cases_lt k n)

pub lowest_is : (bs : List Bool) → position (λ b. b) bs ≡ lowest (length bs) (flag_of bs)
lowest_is [] = refl
lowest_is (true ∷ bs) = ap (λ b. cond b (Some 0) None) (lt-ltb 0 (suc (length bs)) (omega arith)) ∙ sym (lowest_first (length bs) (flag_of (true ∷ bs)))
lowest_is (false ∷ bs) = one_more (position_or_len (λ b. b) bs) (length bs) ∙ ap shift (lowest_is bs) ∙ sym (lowest_first (length bs) (flag_of (false ∷ bs)))

-- one index below the limit is inside
pub one_inside : (count limit size : ℕ) → ((x : ℕ) → x < 2 ^ 64 → is_outside I64 count x ≡ not (nat_lt x limit)) → count ≡ size → (x : ℕ) → x < 2 ^ 64 → x < limit → IsInside size x
one_inside count limit size is same x fits h = subst (λ n. IsInside n x) same (inside_is count x fits (within count limit is x fits h))
