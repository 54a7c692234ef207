-- Tests of the lanes of a mask.
use Rattle.std.proofs.Common.{◌≡◌, refl, sym, ap, ap₂, ◌∙◌, ⊎_elim, subst, ℕ, zero, suc, ◌<◌, ◌≤◌, Bool, true, false, cond, not, ◌&&◌, ◌||◌, ◌==◌, add-one, arith, List}
use Rattle.std.proofs.Common.{length, get_or, take, replicate, nat_lt, ◌^◌, ltb-true, ltb-false, Option, Some, None, unwrap_or}
use Rattle.std.specs.List.{list_any, position, position_or_len}
use Rattle.std.proofs.lemmas.Bool.{cases_eq}
use Rattle.std.proofs.lemmas.List.{take_all, length-replicate, get_or-replicate}
use Rattle.std.proofs.lemmas.List.Folds.{list_any_more}
use Rattle.std.proofs.lemmas.List.Sums.{passes_at_first, fails_before_first}
use Rattle.std.proofs.lemmas.Simd.{get_or-zip2, get_or-sel_l}
use Rattle.std.specs.Simd.Lanes.{zip2, sel_l}
use Rattle.isp_base.specs.Cross.{and_this, fold_below, any_of, all_of, best, or_zero}
use Rattle.isp_base.specs.Maps.{Lanes, Map, lane_of, on}
use Rattle.isp_base.specs.Sets.{Mask, flag_of}
use Rattle.isp_base.specs.Truths.{is_true}
use Rattle.isp_base.specs.Rows.{Fit}
use Rattle.isp_base.specs.Values.{width, compare_bits, compare_to, number}
use Rattle.isp_base.specs.declared.types.Elem.{Elem}
use Rattle.isp_base.specs.declared.operators.Compare.TheVariants.{Equal}
use Rattle.isp_base.proofs.Words.{same_number}
use Rattle.isp_lanes.specs.Lanes.{is_on}
use Rattle.isp_lanes.proofs.Flags.{on_is}
use Rattle.isp_lanes.proofs.Rows.{length_zip2}

or_false : (a : Bool) → a ≡ (a || false)
or_false true = refl
or_false false = refl

-- one lane more, of which a test may hold
any_bit : (test : ℕ → Bool) (a m : Bool) (v : ℕ) → and_this (λ a b. a || test b) a (cond m (Some v) None) ≡ (a || (m && test v))
any_bit test a true v = refl
any_bit test a false v = or_false a

pub any_is : (test : ℕ → Bool) (ms : Mask) (xs : Lanes) (zs : List Bool) (n : ℕ) → n ≤ length zs → ((p : ℕ) → p < n → get_or zs p false ≡ (ms p && test (xs p))) → list_any (λ b. b) (take n zs) ≡ any_of test n (on ms xs)
any_is test ms xs zs zero h e = refl
any_is test ms xs zs (suc n) h e =
    ap (λ k. list_any (λ b. b) (take k zs)) (sym (add-one n))
    ∙ list_any_more (λ b. b) zs n false (omega (arith, h))
    ∙ ap₂ (λ a b. a || b) (any_is test ms xs zs n (omega (arith, h)) (λ p l. e p (omega (arith, l)))) (e n (omega arith))
    ∙ sym (any_bit test (any_of test n (on ms xs)) (ms n) (xs n))

-- or may fail
all_bit : (a m t : Bool) → not (a || (m && not (m && t))) ≡ (not a && (not m || t))
all_bit true true true = refl
all_bit true true false = refl
all_bit true false true = refl
all_bit true false false = refl
all_bit false true true = refl
all_bit false true false = refl
all_bit false false true = refl
all_bit false false false = refl

and_true : (a : Bool) → (a && true) ≡ a
and_true true = refl
and_true false = refl

with_bit : (test : ℕ → Bool) (a m : Bool) (v : ℕ) → (a && (not m || test v)) ≡ and_this (λ a b. a && test b) a (cond m (Some v) None)
with_bit test a true v = refl
with_bit test a false v = and_true a

pub all_is : (test : ℕ → Bool) (ms : Mask) (xs : Lanes) (zs : List Bool) (n : ℕ) → n ≤ length zs → ((p : ℕ) → p < n → get_or zs p false ≡ (ms p && not (ms p && test (xs p)))) → not (list_any (λ b. b) (take n zs)) ≡ all_of test n (on ms xs)
all_is test ms xs zs zero h e = refl
all_is test ms xs zs (suc n) h e =
    ap (λ k. not (list_any (λ b. b) (take k zs))) (sym (add-one n))
    ∙ ap not (list_any_more (λ b. b) zs n false (omega (arith, h)))
    ∙ ap (λ b. not (list_any (λ b. b) (take n zs) || b)) (e n (omega arith))
    ∙ all_bit (list_any (λ b. b) (take n zs)) (ms n) (test (xs n))
    ∙ ap (λ a. a && (not (ms n) || test (xs n))) (all_is test ms xs zs n (omega (arith, h)) (λ p l. e p (omega (arith, l))))
    ∙ with_bit test (all_of test n (on ms xs)) (ms n) (xs n)

-- the lanes of a mask in which a vector of bools is true, and those in which it is false
pub any_true : (mask : List Bool) (xs : List ℕ) (n : ℕ) → length mask ≡ n → length xs ≡ n → list_any (λ b. b) (zip2 (λ m b. m && is_on b) mask xs) ≡ any_of is_true n (on (flag_of mask) (lane_of xs))
any_true mask xs n i j =
    let zs = zip2 (λ m b. m && is_on b) mask xs in
    let long : length zs ≡ n = length_zip2 (λ m b. m && is_on b) mask xs n i j in
    ap (list_any (λ b. b)) (sym (take_all n zs (omega (arith, long))))
    ∙ any_is is_true (flag_of mask) (lane_of xs) zs n (omega (arith, long))
    (λ p h. get_or-zip2 (λ m b. m && is_on b) mask xs p false 0 false (omega (arith, h, i)) (omega (arith, h, j)) ∙ ap (λ b. get_or mask p false && b) (sym (on_is (get_or xs p 0))))

pub all_true : (mask : List Bool) (xs : List ℕ) (n : ℕ) → length mask ≡ n → length xs ≡ n → not (list_any (λ b. b) (zip2 (λ a b. a && not b) mask (zip2 (λ m b. m && is_on b) mask xs))) ≡ all_of is_true n (on (flag_of mask) (lane_of xs))
all_true mask xs n i j =
    let trues = zip2 (λ m b. m && is_on b) mask xs in
    let zs = zip2 (λ a b. a && not b) mask trues in
    let some : length trues ≡ n = length_zip2 (λ m b. m && is_on b) mask xs n i j in
    let long : length zs ≡ n = length_zip2 (λ a b. a && not b) mask trues n i some in
    ap (λ bs. not (list_any (λ b. b) bs)) (sym (take_all n zs (omega (arith, long))))
    ∙ all_is is_true (flag_of mask) (lane_of xs) zs n (omega (arith, long))
    (λ p h.
    get_or-zip2 (λ a b. a && not b) mask trues p false false false (omega (arith, h, i)) (omega (arith, h, some))
    ∙ ap (λ b. get_or mask p false && not b)
    (get_or-zip2 (λ m b. m && is_on b) mask xs p false 0 false (omega (arith, h, i)) (omega (arith, h, j)) ∙ ap (λ b. get_or mask p false && b) (sym (on_is (get_or xs p 0)))))

-- two tests that agree in the lanes of a mask
pub all_same : (f g : ℕ → Bool) (ms : Mask) (u v : Lanes) (n : ℕ) → ((p : ℕ) → p < n → ms p ≡ true → f (u p) ≡ g (v p)) → all_of f n (on ms u) ≡ all_of g n (on ms v)
all_same f g ms u v zero h = refl
all_same f g ms u v (suc n) h = by (all_same f g ms u v n (λ p l. h p (omega (arith, l)))) (ms n) refl
  where
    by : all_of f n (on ms u) ≡ all_of g n (on ms v) → (b : Bool) → ms n ≡ b → and_this (λ a x. a && f x) (all_of f n (on ms u)) (cond b (Some (u n)) None) ≡ and_this (λ a x. a && g x) (all_of g n (on ms v)) (cond b (Some (v n)) None)
    by lower true e = ap₂ (λ a b. a && b) lower (h n (omega arith) e)
    by lower false e = lower

-- ---- the lowest lane of a mask

-- the lowest value
abbrev pub lowest_of : ℕ → Map → Option ℕ
lowest_of n x = fold_below (best (λ a _. a)) None x n

none_below : (ms : Mask) (xs : Lanes) (n : ℕ) → ((p : ℕ) → p < n → ms p ≡ false) → lowest_of n (on ms xs) ≡ None
none_below ms xs zero h = refl
none_below ms xs (suc n) h =
    ap (λ b. and_this (best (λ a _. a)) (lowest_of n (on ms xs)) (cond b (Some (xs n)) None)) (h n (omega arith)) ∙ none_below ms xs n (λ p l. h p (omega (arith, l)))

stays : (a : ℕ) (v : Option ℕ) → and_this (best (λ a _. a)) (Some a) v ≡ Some a
stays a None = refl
stays a (Some b) = refl

pub lowest_is : (ms : Mask) (xs : Lanes) (n k : ℕ) → k < n → ms k ≡ true → ((p : ℕ) → p < k → ms p ≡ false) → lowest_of n (on ms xs) ≡ Some (xs k)
lowest_is ms xs zero k h is off = absurd (omega (arith, h))
lowest_is ms xs (suc n) k h is off = ⊎_elim here (λ ne. later (lowest_is ms xs n k (omega (arith, h, ne)) is off)) (cases_eq k n)
  where
    here : k ≡ n → lowest_of (suc n) (on ms xs) ≡ Some (xs k)
    here e = subst (λ m. lowest_of (suc m) (on ms xs) ≡ Some (xs k)) e
        (ap₂ (λ o b. and_this (best (λ a _. a)) o (cond b (Some (xs k)) None)) (none_below ms xs k off) is)

    later : lowest_of n (on ms xs) ≡ Some (xs k) → lowest_of (suc n) (on ms xs) ≡ Some (xs k)
    later found = ap (λ o. and_this (best (λ a _. a)) o (on ms xs n)) found ∙ stays (xs k) (on ms xs n)

-- its number, as it is found
pub first_lt : (mask : List Bool) (n : ℕ) → length mask ≡ n → 0 < n → unwrap_or (position (λ b. b) mask) 0 < n
first_lt mask n e h = by (nat_lt k (length mask)) refl
  where
    k : ℕ
    k = position_or_len (λ b. b) mask

    by : (t : Bool) → nat_lt k (length mask) ≡ t → unwrap_or (cond t (Some k) None) 0 < n
    by true c = omega (arith, ltb-true _ _ c, e)
    by false c = h

pub first_is : (mask : List Bool) (xs : Lanes) (n p : ℕ) → length mask ≡ n → p < n → get_or mask p false ≡ true → or_zero (lowest_of n (on (flag_of mask) xs)) ≡ xs (unwrap_or (position (λ b. b) mask) 0)
first_is mask xs n p e h is = by (nat_lt k (length mask)) refl
  where
    k : ℕ
    k = position_or_len (λ b. b) mask

    by : (t : Bool) → nat_lt k (length mask) ≡ t → or_zero (lowest_of n (on (flag_of mask) xs)) ≡ xs (unwrap_or (position (λ b. b) mask) 0)
    by true c =
        let l = ltb-true _ _ c in
        ap or_zero (lowest_is (flag_of mask) xs n k (omega (arith, l, e)) (passes_at_first (λ b. b) mask false l) (λ q m. fails_before_first (λ b. b) mask q false m))
        ∙ ap xs (sym (ap (λ t. unwrap_or (cond t (Some k) None) 0) c))
    by false c = absurd (let none = fails_before_first (λ b. b) mask p false (omega (arith, ltb-false _ _ c, h, e)) in cc)

-- ---- values that are compared with one

is_bit : (b : Bool) → is_true (cond b 1 0) ≡ b
is_bit true = refl
is_bit false = refl

-- in a lane of the mask
pub same_at : (t : Elem) (mask : List Bool) (xs olds : List ℕ) (n v p : ℕ) → length mask ≡ n → length xs ≡ n → length olds ≡ n → Fit t xs → v < 2 ^ width t → p < n → get_or mask p false ≡ true
    → is_true (get_or (sel_l mask (zip2 (compare_bits Equal t) xs (replicate n v)) olds) p 0) ≡ (get_or xs p 0 == v)
same_at t mask xs olds n v p i j k fits low h is =
    let vs = replicate n v in
    let many : length vs ≡ n = length-replicate n v in
    let zs = zip2 (compare_bits Equal t) xs vs in
    let long : length zs ≡ n = length_zip2 (compare_bits Equal t) xs vs n j many in
    ap is_true
    (get_or-sel_l mask zs olds p 0 (omega (arith, h, i)) (omega (arith, h, long)) (omega (arith, h, k))
    ∙ ap (λ b. cond b (get_or zs p 0) (get_or olds p 0)) is
    ∙ get_or-zip2 (compare_bits Equal t) xs vs p 0 0 0 (omega (arith, h, j)) (omega (arith, h, many))
    ∙ ap (compare_bits Equal t (get_or xs p 0)) (get_or-replicate n p v 0 h))
    ∙ is_bit (compare_to Equal (number t (get_or xs p 0)) (number t v))
    ∙ same_number t (get_or xs p 0) v (fits p) low
