-- What was written is read as it was: numbers and elements.
use Rattle.std.proofs.Common.{◌≡◌, ℕ, zero, suc, ◌+◌, ◌^◌, ◌<◌, ◌≤◌, List, [], ◌∷◌, ◌++◌, length, drop, get_or, Bool, true, false, cond, Ok, refl, sym, ap, ap₂, subst, ◌∙◌, inl, inr, arith, append_assoc, true≢false, le-ltb, lt-ltb, eq-eqb, length-append, if◌then◌else◌}
use Rattle.std.specs.Prelude.{slice_index, ◌==◌, ◌||◌, ◌&&◌, nat_lt}
use Rattle.std.specs.Char.{digit_value}
use Rattle.std.specs.Fmt.{decimal}
use Rattle.std.specs.List.{flat_map, prefix_len}
use Rattle.std.specs.Str.Parse.{AllDigits, digits_value}
use Rattle.std.proofs.lemmas.Bool.{cases_lt, ne_eqb}
use Rattle.std.proofs.lemmas.Fmt.{decimal_digit, decimal_is_IsNumeral, first_decimal}
use Rattle.std.proofs.lemmas.List.{drop_at, take_at}
use Rattle.std.proofs.lemmas.List.Folds.{prefix_len-append}
use Rattle.isp_files.specs.Npy.{comma_at, dim_at, dims_of, lengths_of, mark_of}
use Rattle.isp_files.specs.Reading.{Read, ◌>>=◌, ahead, decimal_of, flawed, is_blank, is_digit, longest, number_of, numbers_of, one_of, past_blanks}
use Rattle.isp_files.specs.Writing.{length_text}
use Rattle.isp_files.specs.declared.fault.Flaw.TheVariants.{Ends, NoValue, TooMany}

-- ---- a choice whose test is known

pub when_true : {A : Type 0} (b : Bool) (x y : A) → b ≡ true → (if b then x else y) ≡ x
when_true true x y e = refl
when_true false x y e = absurd (true≢false (sym e))

pub when_false : {A : Type 0} (b : Bool) (x y : A) → b ≡ false → (if b then x else y) ≡ y
when_false true x y e = absurd (true≢false e)
when_false false x y e = refl

read_as : {A : Type 0} (a b : A) (xs ys : List ℕ) → a ≡ b → xs ≡ ys → ◌≡◌ {A = Read A} (Ok (a, xs)) (Ok (b, ys))
read_as {A = A} a b xs ys e f = ap₂ (λ (x : A) (l : List ℕ). let r : Read A = Ok (x, l) in r) e f

-- ---- elements: `number` reads what `bytes` writes

one_back : (number : ℕ → List ℕ → ℕ) (bytes : ℕ → ℕ → List ℕ) (n m x : ℕ) (rest : List ℕ)
    → number n (bytes n x ++ rest) ≡ x → length (bytes n x) ≡ n → x ≤ m → one_of number n m (bytes n x ++ rest) ≡ Ok (x, rest)
one_back number bytes n m x rest back long small =
    let bs = bytes n x ++ rest in
    let room : n ≤ length bs = omega (arith, length-append (bytes n x) rest, long) in
    let less : number n bs ≤ m = subst (λ (y : ℕ). y ≤ m) (sym back) small in
    when_false (nat_lt (length bs) n) (flawed Ends []) (if nat_lt m (number n bs) then flawed NoValue bs else Ok (number n bs, drop n bs)) (le-ltb (length bs) n room)
    ∙ when_false (nat_lt m (number n bs)) (flawed NoValue bs) (Ok (number n bs, drop n bs)) (le-ltb m (number n bs) less)
    ∙ read_as (number n bs) x (drop n bs) rest back (drop_at (bytes n x) rest n long)

pub numbers_back : (number : ℕ → List ℕ → ℕ) (bytes : ℕ → ℕ → List ℕ) (n m : ℕ)
    → ((x : ℕ) (rest : List ℕ) → x ≤ m → number n (bytes n x ++ rest) ≡ x) → ((x : ℕ) → length (bytes n x) ≡ n)
    → (xs rest : List ℕ) → ((k : ℕ) → get_or xs k 0 ≤ m) → numbers_of number n m (length xs) (flat_map (bytes n) xs ++ rest) ≡ Ok (xs, rest)
numbers_back number bytes n m back long [] rest small = refl
numbers_back number bytes n m back long (x ∷ xs) rest small =
    let tail = flat_map (bytes n) xs ++ rest in
    ap (numbers_of number n m (suc (length xs))) (append_assoc (bytes n x) (flat_map (bytes n) xs) rest)
    ∙ ap (λ (r : Read ℕ). r >>= (λ y. ahead (y.0 ∷ []) (numbers_of number n m (length xs) y.1))) (one_back number bytes n m x tail (back x tail (small 0)) (long x) (small 0))
    ∙ ap (ahead (x ∷ [])) (numbers_back number bytes n m back long xs rest (λ k. small (suc k)))

-- ---- a number in digits

all_digits : (ds : List ℕ) → AllDigits 10 ds → prefix_len is_digit ds ≡ length ds
all_digits [] h = refl
all_digits (c ∷ cs) h =
    let one : prefix_len is_digit (c ∷ cs) ≡ 1 + prefix_len is_digit cs = ap (λ (b : Bool). cond b (1 + prefix_len is_digit cs) 0) (lt-ltb (digit_value c) 10 h.0) in
    let more = all_digits cs h.1 in
    omega (arith, one, more)

digits_end : (ds : List ℕ) (b : ℕ) (rest : List ℕ) → AllDigits 10 ds → is_digit b ≡ false → prefix_len is_digit (ds ++ b ∷ rest) ≡ length ds
digits_end ds b rest all other =
    let len = all_digits ds all in
    let none : prefix_len is_digit (b ∷ rest) ≡ 0 = ap (λ (t : Bool). cond t (1 + prefix_len is_digit rest) 0) other in
    let whole : prefix_len is_digit (ds ++ b ∷ rest) ≡ length ds + prefix_len is_digit (b ∷ rest) =
    prefix_len-append is_digit ds (b ∷ rest)
    ∙ ap (λ (t : Bool). cond t (length ds + prefix_len is_digit (b ∷ rest)) (prefix_len is_digit ds)) (eq-eqb (prefix_len is_digit ds) (length ds) len) in
    omega (arith, whole, none)

decimal_back : (n : ℕ) (ds tail : List ℕ) → length ds ≡ n → 0 < n → digits_value 10 ds ≤ longest → decimal_of n (ds ++ tail) ≡ Ok (digits_value 10 ds, tail)
decimal_back zero ds tail long some fits = absurd (omega arith)
decimal_back (suc k) ds tail long some fits =
    let own = take_at ds tail (suc k) long in
    ap (λ (l : List ℕ). if nat_lt longest (digits_value 10 l) then flawed TooMany (ds ++ tail) else Ok (digits_value 10 l, drop (suc k) (ds ++ tail))) own
    ∙ when_false (nat_lt longest (digits_value 10 ds)) (flawed TooMany (ds ++ tail)) (Ok (digits_value 10 ds, drop (suc k) (ds ++ tail))) (le-ltb longest (digits_value 10 ds) fits)
    ∙ read_as (digits_value 10 ds) (digits_value 10 ds) (drop (suc k) (ds ++ tail)) tail refl (drop_at ds tail (suc k) long)

pub number_back : (d b : ℕ) (rest : List ℕ) → d ≤ longest → is_digit b ≡ false → number_of (decimal d ++ b ∷ rest) ≡ Ok (d, b ∷ rest)
number_back d b rest fits other =
    let small : d < 2 ^ 64 = omega arith in
    let is = decimal_is_IsNumeral d small in
    ap (λ (n : ℕ). decimal_of n (decimal d ++ b ∷ rest)) (digits_end (decimal d) b rest is.0.1 other)
    ∙ decimal_back (length (decimal d)) (decimal d) (b ∷ rest) refl is.0.0 (subst (λ (n : ℕ). n ≤ longest) (sym is.1) fits)
    ∙ read_as (digits_value 10 (decimal d)) d (b ∷ rest) (b ∷ rest) is.1 refl

-- ---- what begins with a digit is no blank, and no bracket

pub first_low : (d : ℕ) → d < 2 ^ 64 → 48 ≤ get_or (decimal d) 0 0
first_low d small =
    elim (cases_lt 0 d) [
      | inl some ↦ let more = first_decimal d some small in omega (arith, more)
      | inr none ↦ let is = decimal_digit d (omega arith) in rw is (omega arith)
    ]

pub low_no_blank : (c : ℕ) → 48 ≤ c → is_blank c ≡ false
low_no_blank c low =
    let other : (c == 32) ≡ false = ne_eqb c 32 (λ e. absurd (omega (arith, e))) in
    let above : nat_lt c 14 ≡ false = le-ltb c 14 (omega arith) in
    ap₂ (λ (a b : Bool). a || (nat_lt 8 c && b)) other above ∙ and_false (nat_lt 8 c)
  where
    and_false : (b : Bool) → (false || (b && false)) ≡ false
    and_false true = refl
    and_false false = refl

pub low_past : (ds r : List ℕ) → 0 < length ds → 48 ≤ get_or ds 0 0 → past_blanks (ds ++ r) ≡ ds ++ r
low_past [] r some low = absurd (omega arith)
low_past (c ∷ cs) r some low = ap (λ (b : Bool). drop (cond b (1 + prefix_len is_blank (cs ++ r)) 0) (c ∷ (cs ++ r))) (low_no_blank c low)

pub low_open : (ds r : List ℕ) → 0 < length ds → 48 ≤ get_or ds 0 0 → (slice_index (ds ++ r) 0 == 41) ≡ false
low_open [] r some low = absurd (omega arith)
low_open (c ∷ cs) r some low = ne_eqb c 41 (λ e. absurd (omega (arith, e)))

-- ---- dimensions

length_split : (d : ℕ) (ds rest : List ℕ) → flat_map length_text (d ∷ ds) ++ rest ≡ decimal d ++ 44 ∷ (flat_map length_text ds ++ rest)
length_split d ds rest = append_assoc (length_text d) (flat_map length_text ds) rest ∙ append_assoc (decimal d) (44 ∷ []) (flat_map length_text ds ++ rest)

dim_back : (d : ℕ) (rest : List ℕ) → d ≤ longest → dim_at (decimal d ++ 44 ∷ rest) ≡ Ok (d, rest)
dim_back d rest few = ap (λ (r : Read ℕ). r >>= (λ n. comma_at (past_blanks n.1) >>= (λ c. Ok (n.0, c.1)))) (number_back d 44 rest few refl)

pub dims_back : (k : ℕ) (ds rest : List ℕ) → length ds ≤ k → ((i : ℕ) → get_or ds i 0 ≤ longest) → dims_of k (flat_map length_text ds ++ 41 ∷ rest) ≡ Ok (ds, rest)
dims_back zero [] rest few small = refl
dims_back (suc k) [] rest few small = refl
dims_back zero (d ∷ ds) rest few small = absurd (omega arith)
dims_back (suc k) (d ∷ ds) rest few small =
    let big : d < 2 ^ 64 = let h = small 0 in omega (arith, h) in
    let some = (decimal_is_IsNumeral d big).0.0 in
    let low = first_low d big in
    let tail = flat_map length_text ds ++ 41 ∷ rest in
    let bs = decimal d ++ 44 ∷ tail in
    ap (dims_of (suc k)) (length_split d ds (41 ∷ rest))
    ∙ ap (λ (l : List ℕ). if slice_index l 0 == 41 then Ok ([], drop 1 l) else (dim_at l >>= (λ n. ahead (n.0 ∷ []) (dims_of k n.1)))) (low_past (decimal d) (44 ∷ tail) some low)
    ∙ when_false (slice_index bs 0 == 41) (Ok ([], drop 1 bs)) (dim_at bs >>= (λ n. ahead (n.0 ∷ []) (dims_of k n.1))) (low_open (decimal d) (44 ∷ tail) some low)
    ∙ ap (λ (r : Read ℕ). r >>= (λ n. ahead (n.0 ∷ []) (dims_of k n.1))) (dim_back d tail (small 0))
    ∙ ap (ahead (d ∷ [])) (dims_back k ds rest (omega arith) (λ i. small (suc i)))

-- what follows the first
abbrev behind_first : ℕ × List ℕ → Read (List ℕ)
behind_first n = mark_of 44 n.1 >>= (λ c. ahead (n.0 ∷ []) (dims_of 63 c.1))

-- as they stand after the bracket
pub lengths_back : (shape rest : List ℕ) → length shape ≤ 64 → ((i : ℕ) → get_or shape i 0 ≤ longest) → lengths_of (past_blanks (flat_map length_text shape ++ 41 ∷ rest)) ≡ Ok (shape, rest)
lengths_back [] rest few small = refl
lengths_back (d ∷ ds) rest few small =
    let big : d < 2 ^ 64 = let h = small 0 in omega (arith, h) in
    let some = (decimal_is_IsNumeral d big).0.0 in
    let low = first_low d big in
    let tail = flat_map length_text ds ++ 41 ∷ rest in
    let bs = decimal d ++ 44 ∷ tail in
    ap (λ (l : List ℕ). lengths_of (past_blanks l)) (length_split d ds (41 ∷ rest))
    ∙ ap lengths_of (low_past (decimal d) (44 ∷ tail) some low)
    ∙ when_false (slice_index bs 0 == 41) (Ok ([], drop 1 bs)) (number_of bs >>= behind_first) (low_open (decimal d) (44 ∷ tail) some low)
    ∙ ap (λ (r : Read ℕ). r >>= behind_first) (number_back d 44 tail (small 0) refl)
    ∙ ap (ahead (d ∷ [])) (dims_back 63 ds rest (omega arith) (λ i. small (suc i)))
