-- What bytes hold for the elements of an array, all at once.
use Rattle.std.proofs.Common.{◌≡◌, ℕ, zero, suc, ◌+◌, ◌*◌, ◌^◌, ◌<◌, ◌≤◌, List, ◌∷◌, length, drop, get_or, Bool, true, false, true≢false, Option, Some, None, IfSome, Result, Ok, Err, refl}
use Rattle.std.proofs.Common.{sym, ap, subst, ◌∙◌, inl, inr, arith, add-zero, zero-add, mul-suc, mul-zero, lt-ltb, le-ltb, length-drop, if◌then◌else◌}
use Rattle.std.specs.Prelude.{nat_lt}
use Rattle.std.proofs.lemmas.Bool.{cases_lt}
use Rattle.byteorder.specs.Endian.{little_number}
use Rattle.byteorder.specs.Numbers.{little_from-lt}
use Rattle.isp_base.specs.Values.{width}
use Rattle.isp_base.specs.declared.types.Elem.{Elem}
use Rattle.isp_base.specs.declared.types.Elem.TheVariants.{Bool as Truth}
use Rattle.isp_packed.specs.Packing.{size}
use Rattle.isp_packed.specs.Unpacking.{then_of, element_of, elements_of, in_range}
use Rattle.isp_packed.specs.declared.fault.PackedFault.{PackedFault}
use Rattle.isp_packed.specs.declared.fault.PackedFault.TheVariants.{Short, OutOfRange}
use Rattle.isp_packed.specs.reader.Bulk.{numbers, EachFits}
use Rattle.isp_packed.proofs.Numbers.{next_drop, one_number, small_drop}

-- ---- a choice whose test is known

pub when_true : {A : Type 0} (b : Bool) (x y : A) → b ≡ true → (if b then x else y) ≡ x
when_true true x y e = refl
when_true false x y e = absurd (true≢false (sym e))

pub when_false : {A : Type 0} (b : Bool) (x y : A) → b ≡ false → (if b then x else y) ≡ y
when_false true x y e = absurd (true≢false e)
when_false false x y e = refl

-- ---- one element

pub element_short : (p e n : ℕ) (t : Elem) (bs : List ℕ) → length bs < n → element_of p e n t bs ≡ Err (Short p)
element_short p e n t bs less =
    when_true (nat_lt (length bs) n) (Err (Short p)) (in_range p e t (little_number n bs)) (lt-ltb (length bs) n less)

element_there : (p e n : ℕ) (t : Elem) (bs : List ℕ) → n ≤ length bs → element_of p e n t bs ≡ in_range p e t (little_number n bs)
element_there p e n t bs room =
    when_false (nat_lt (length bs) n) (Err (Short p)) (in_range p e t (little_number n bs)) (le-ltb (length bs) n room)

pub element_ok : (p e n : ℕ) (t : Elem) (bs : List ℕ) → n ≤ length bs → little_number n bs < 2 ^ width t → element_of p e n t bs ≡ Ok (little_number n bs)
element_ok p e n t bs room fits =
    element_there p e n t bs room
    ∙ when_true (nat_lt (little_number n bs) (2 ^ width t)) (Ok (little_number n bs)) (Err (OutOfRange p e)) (lt-ltb (little_number n bs) (2 ^ width t) fits)

pub element_wrong : (p e n : ℕ) (t : Elem) (bs : List ℕ) → n ≤ length bs → 2 ^ width t ≤ little_number n bs → element_of p e n t bs ≡ Err (OutOfRange p e)
element_wrong p e n t bs room more =
    element_there p e n t bs room
    ∙ when_false (nat_lt (little_number n bs) (2 ^ width t)) (Ok (little_number n bs)) (Err (OutOfRange p e)) (le-ltb (little_number n bs) (2 ^ width t) more)

-- ---- the elements that fit, and those after the first

first_fits : (n : ℕ) (t : Elem) (c : ℕ) (bs : List ℕ) → EachFits n t (suc c) bs → n ≤ length bs → little_number n bs < 2 ^ width t
first_fits n t c bs fits room =
    let none = mul-zero n in
    subst (λ (i : ℕ). little_number n (drop i bs) < 2 ^ width t) none (fits 0 (omega arith) (omega (arith, none)))

rest_fits : (n : ℕ) (t : Elem) (c : ℕ) (bs : List ℕ) → EachFits n t (suc c) bs → n ≤ length bs → EachFits n t c (drop n bs)
rest_fits n t c bs fits room k less whole =
    let more = mul-suc n k in
    let left = length-drop n bs in
    subst (λ (l : List ℕ). little_number n l < 2 ^ width t) (next_drop n k bs) (fits (suc k) (omega arith) (omega (arith, more, left)))

-- ---- the first of the elements, and those after it

pub step_ok : (p e c n : ℕ) (t : Elem) (bs : List ℕ) (x : ℕ) (xs : List ℕ) → element_of p e n t bs ≡ Ok x → elements_of p (suc e) c n t (drop n bs) ≡ Ok xs
    → elements_of p e (suc c) n t bs ≡ Ok (x ∷ xs)
step_ok p e c n t bs x xs one rest =
    ap (then_of (λ b. then_of (λ found. Ok (b ∷ found)) (elements_of p (suc e) c n t (drop n bs)))) one ∙ ap (then_of (λ found. Ok (x ∷ found))) rest

step_not : (p e c n : ℕ) (t : Elem) (bs : List ℕ) (z : PackedFault) → element_of p e n t bs ≡ Err z → elements_of p e (suc c) n t bs ≡ Err z
step_not p e c n t bs z fault = ap (then_of (λ b. then_of (λ found. Ok (b ∷ found)) (elements_of p (suc e) c n t (drop n bs)))) fault

step_later : (p e c n : ℕ) (t : Elem) (bs : List ℕ) (x : ℕ) (z : PackedFault) → element_of p e n t bs ≡ Ok x → elements_of p (suc e) c n t (drop n bs) ≡ Err z
    → elements_of p e (suc c) n t bs ≡ Err z
step_later p e c n t bs x z one fault =
    ap (then_of (λ b. then_of (λ found. Ok (b ∷ found)) (elements_of p (suc e) c n t (drop n bs)))) one ∙ ap (then_of (λ found. Ok (x ∷ found))) fault

-- ---- all

pub elements_ok : (p e c n : ℕ) (t : Elem) (bs : List ℕ) → EachFits n t c bs → n * c ≤ length bs → elements_of p e c n t bs ≡ Ok (numbers n c bs)
elements_ok p e zero n t bs fits room = refl
elements_ok p e (suc c) n t bs fits room =
    let more = mul-suc n c in
    let left = length-drop n bs in
    let here : n ≤ length bs = omega (arith, more) in
    let one = element_ok p e n t bs here (first_fits n t c bs fits here) in
    let rest = elements_ok p (suc e) c n t (drop n bs) (rest_fits n t c bs fits here) (omega (arith, more, left)) in
    step_ok p e c n t bs (little_number n bs) (numbers n c (drop n bs)) one rest

pub elements_short : (p e c n : ℕ) (t : Elem) (bs : List ℕ) → EachFits n t c bs → length bs < n * c → elements_of p e c n t bs ≡ Err (Short p)
elements_short p e zero n t bs fits less = absurd (omega (arith, mul-zero n))
elements_short p e (suc c) n t bs fits less =
    elim (cases_lt (length bs) n) [
      | inl short ↦ step_not p e c n t bs (Short p) (element_short p e n t bs short)
      | inr here ↦
          let more = mul-suc n c in
          let left = length-drop n bs in
          let one = element_ok p e n t bs here (first_fits n t c bs fits here) in
          let rest = elements_short p (suc e) c n t (drop n bs) (rest_fits n t c bs fits here) (omega (arith, more, left)) in
          step_later p e c n t bs (little_number n bs) (Short p) one rest
    ]

-- the fault of an element of a parameter
abbrev pub wrong : ℕ → ℕ → Result (List ℕ) PackedFault
wrong p e = Err (OutOfRange p e)

-- element k is the first that does not fit
pub elements_wrong : (p e c n : ℕ) (t : Elem) (bs : List ℕ) (k : ℕ) → k < c → n * k + n ≤ length bs → EachFits n t k bs → 2 ^ width t ≤ little_number n (drop (n * k) bs)
    → elements_of p e c n t bs ≡ wrong p (e + k)
elements_wrong p e zero n t bs k less whole fits big = absurd (omega arith)
elements_wrong p e (suc c) n t bs zero less whole fits big =
    let none = mul-zero n in
    let one = element_wrong p e n t bs (omega (arith, none)) (subst (λ (i : ℕ). 2 ^ width t ≤ little_number n (drop i bs)) none big) in
    step_not p e c n t bs (OutOfRange p e) one ∙ ap (wrong p) (sym (add-zero e))
elements_wrong p e (suc c) n t bs (suc k) less whole fits big =
    let more = mul-suc n k in
    let left = length-drop n bs in
    let here : n ≤ length bs = omega (arith, more) in
    let one = element_ok p e n t bs here (first_fits n t k bs fits here) in
    let rest = elements_wrong p (suc e) c n t (drop n bs) k (omega arith) (omega (arith, more, left)) (rest_fits n t k bs fits here)
    (subst (λ (l : List ℕ). 2 ^ width t ≤ little_number n l) (next_drop n k bs) big) in
    let place : suc e + k ≡ e + suc k = omega arith in
    step_later p e c n t bs (little_number n bs) (OutOfRange p (suc e + k)) one rest ∙ ap (wrong p) place

-- ---- which types have numbers that do not fit

-- where all numbers of so many bytes are values of the type, each fits
pub all_fit : (n : ℕ) (t : Elem) (c : ℕ) (bs : List ℕ) → 2 ^ width t ≡ 256 ^ n → ((k : ℕ) → get_or bs k 0 < 256) → EachFits n t c bs
all_fit n t c bs full small k less whole = rw full (little_from-lt 0 n (drop (n * k) bs) (small_drop (n * k) bs small))

-- the bytes below 2 are values of bool
pub truths_fit : (t : Elem) (c : ℕ) (bs : List ℕ) → 2 ^ width t ≡ 2 → ((k : ℕ) → k < c → k < length bs → get_or bs k 0 < 2) → EachFits 1 t c bs
truths_fit t c bs two small k less whole = rw (two, one_number k bs) (small k less (omega arith))

-- the first byte above 1 is the first element of a bool array that is none
no_truth : (p c : ℕ) (bs : List ℕ) (k : ℕ) → k < c → k < length bs → 2 ≤ get_or bs k 0 → ((j : ℕ) → j < k → get_or bs j 0 < 2) → elements_of p 0 c 1 Truth bs ≡ wrong p k
no_truth p c bs k less there big below =
    elements_wrong p 0 c 1 Truth bs k less (omega arith) (truths_fit Truth k bs refl (λ j before within. below j before)) (subst (λ (x : ℕ). 2 ≤ x) (sym (one_number k bs)) big)
    ∙ ap (wrong p) (zero-add k)

pub no_truth_found : (p c : ℕ) (t : Elem) (bs : List ℕ) (o : Option ℕ) → t ≡ Truth
    → IfSome o (λ k. (k < c) × (k < length bs) × (2 ≤ get_or bs k 0) × ((j : ℕ) → j < k → get_or bs j 0 < 2)) → IfSome o (λ k. elements_of p 0 c (size t) t bs ≡ wrong p k)
no_truth_found p c t bs None type found = tt
no_truth_found p c t bs (Some k) type found =
    subst (λ (u : Elem). elements_of p 0 c (size u) u bs ≡ wrong p k) (sym type) (no_truth p c bs k found.0 found.1 found.2 found.3)
