-- One turn of each loop, by the definition that it computes.
use Rattle.std.proofs.Common.{◌≡◌, ℕ, zero, suc, ◌+◌, ◌-◌, ◌*◌, ◌<◌, ◌≤◌, List, [], ◌∷◌, ◌++◌, length, take, drop, get_or, Bool, true, false, Ok, Err, refl, sym, ap, ◌∙◌, arith, append_assoc, if◌then◌else◌}
use Rattle.std.specs.Prelude.{⊤, slice_index, ◌==◌}
use Rattle.std.specs.Char.{digit_value}
use Rattle.std.proofs.lemmas.List.{append-nil, drop_more, get_or-take, length-take}
use Rattle.std.specs.List.{prefix_len}
use Rattle.std.proofs.lemmas.List.Sums.{prefix_len_passes}
use Rattle.std.specs.Str.Parse.{digits_value_after}
use Rattle.isp_files.specs.Npy.{dim_at, dims_of, padding_of}
use Rattle.isp_files.specs.Reading.{Read, ◌>>=◌, ahead, is_digit, numbers_of, one_of, past_blanks, sign_of}
use Rattle.isp_files.specs.declared.fault.Flaw.TheVariants.{Header, TooDeep}
use Rattle.isp_files.specs.declared.fault.Slip.{Slip}

-- ---- what was read stands before what follows

pub ahead_one : (xs : List ℕ) (x : ℕ) (r : Read (List ℕ)) → ahead xs (ahead (x ∷ []) r) ≡ ahead (xs ++ x ∷ []) r
ahead_one xs x (Ok p) = ap (λ (l : List ℕ). let a : Read (List ℕ) = Ok (l, p.1) in a) (sym (append_assoc xs (x ∷ []) p.0))
ahead_one xs x (Err e) = refl

-- ---- elements

pub numbers_next : (number : ℕ → List ℕ → ℕ) (n m c : ℕ) (bs rest : List ℕ) (x : ℕ) (xs : List ℕ) → 0 < c → one_of number n m bs ≡ Ok (x, rest)
    → ahead xs (numbers_of number n m c bs) ≡ ahead (xs ++ x ∷ []) (numbers_of number n m (c - 1) rest)
numbers_next number n m zero bs rest x xs some one = absurd (omega arith)
numbers_next number n m (suc d) bs rest x xs some one =
    let less : suc d - 1 ≡ d = omega arith in
    ap (λ (r : Read ℕ). ahead xs (r >>= (λ y. ahead (y.0 ∷ []) (numbers_of number n m d y.1)))) one
    ∙ ahead_one xs x (numbers_of number n m d rest)
    ∙ ap (λ (k : ℕ). ahead (xs ++ x ∷ []) (numbers_of number n m k rest)) (sym less)

pub numbers_bad : (number : ℕ → List ℕ → ℕ) (n m c : ℕ) (bs : List ℕ) (e : Slip) → 0 < c → one_of number n m bs ≡ Err e → numbers_of number n m c bs ≡ Err e
numbers_bad number n m zero bs e some one = absurd (omega arith)
numbers_bad number n m (suc d) bs e some one = ap (λ (r : Read ℕ). r >>= (λ y. ahead (y.0 ∷ []) (numbers_of number n m d y.1))) one

-- ---- dimensions

-- what follows, where no bracket closes them
abbrev more_dims : ℕ → List ℕ → Read (List ℕ)
more_dims d bs = dim_at bs >>= (λ n. ahead (n.0 ∷ []) (dims_of d n.1))

dims_open : (d : ℕ) (bs : List ℕ) → (slice_index (past_blanks bs) 0 == 41) ≡ false → dims_of (suc d) bs ≡ more_dims d (past_blanks bs)
dims_open d bs other = ap (λ (b : Bool). if b then Ok ([], drop 1 (past_blanks bs)) else more_dims d (past_blanks bs)) other

pub dims_next : (c : ℕ) (bs rest : List ℕ) (x : ℕ) (xs : List ℕ) → 0 < c → (slice_index (past_blanks bs) 0 == 41) ≡ false → dim_at (past_blanks bs) ≡ Ok (x, rest)
    → ahead xs (dims_of c bs) ≡ ahead (xs ++ x ∷ []) (dims_of (c - 1) rest)
dims_next zero bs rest x xs some other one = absurd (omega arith)
dims_next (suc d) bs rest x xs some other one =
    let less : suc d - 1 ≡ d = omega arith in
    ap (ahead xs) (dims_open d bs other)
    ∙ ap (λ (r : Read ℕ). ahead xs (r >>= (λ n. ahead (n.0 ∷ []) (dims_of d n.1)))) one
    ∙ ahead_one xs x (dims_of d rest)
    ∙ ap (λ (k : ℕ). ahead (xs ++ x ∷ []) (dims_of k rest)) (sym less)

pub dims_bad : (c : ℕ) (bs xs : List ℕ) (e : Slip) → 0 < c → (slice_index (past_blanks bs) 0 == 41) ≡ false → dim_at (past_blanks bs) ≡ Err e → ahead xs (dims_of c bs) ≡ Err e
dims_bad zero bs xs e some other one = absurd (omega arith)
dims_bad (suc d) bs xs e some other one =
    ap (ahead xs) (dims_open d bs other) ∙ ap (λ (r : Read ℕ). ahead xs (r >>= (λ n. ahead (n.0 ∷ []) (dims_of d n.1)))) one

pub dims_closed : (c : ℕ) (bs xs : List ℕ) → 0 < c → (slice_index (past_blanks bs) 0 == 41) ≡ true → ahead xs (dims_of c bs) ≡ Ok (xs, drop 1 (past_blanks bs))
dims_closed zero bs xs some closed = absurd (omega arith)
dims_closed (suc d) bs xs some closed =
    ap (λ (b : Bool). ahead xs (if b then Ok ([], drop 1 (past_blanks bs)) else more_dims d (past_blanks bs))) closed
    ∙ ap (λ (l : List ℕ). let a : Read (List ℕ) = Ok (l, drop 1 (past_blanks bs)) in a) (append-nil xs)

pub dims_last : (c : ℕ) (bs xs rest : List ℕ) → c ≡ 0 → sign_of TooDeep 41 (past_blanks bs) ≡ Ok (tt, rest) → ahead xs (dims_of c bs) ≡ Ok (xs, rest)
dims_last c bs xs rest none one =
    ap (λ (k : ℕ). ahead xs (dims_of k bs)) none
    ∙ ap (λ (r : Read ⊤). ahead xs (r >>= (λ z. Ok ([], z.1)))) one
    ∙ ap (λ (l : List ℕ). let a : Read (List ℕ) = Ok (l, rest) in a) (append-nil xs)

pub dims_deep : (c : ℕ) (bs xs : List ℕ) (e : Slip) → c ≡ 0 → sign_of TooDeep 41 (past_blanks bs) ≡ Err e → ahead xs (dims_of c bs) ≡ Err e
dims_deep c bs xs e none one =
    ap (λ (k : ℕ). ahead xs (dims_of k bs)) none ∙ ap (λ (r : Read ⊤). ahead xs (r >>= (λ z. Ok ([], z.1)))) one

-- ---- what fills a header up

pub padding_bad : (c : ℕ) (bs : List ℕ) (e : Slip) → 1 < c → sign_of Header 32 bs ≡ Err e → padding_of c bs ≡ Err e
padding_bad zero bs e some one = absurd (omega arith)
padding_bad (suc zero) bs e some one = absurd (omega arith)
padding_bad (suc (suc d)) bs e some one = ap (λ (r : Read ⊤). r >>= (λ p. padding_of (suc d) p.1)) one

-- ---- numbers in digits

-- further digits make a number no smaller
digits_grow : (n : ℕ) (cs : List ℕ) → n ≤ digits_value_after 10 n cs
digits_grow n [] = omega arith
digits_grow n (c ∷ cs) = let more = digits_grow (n * 10 + digit_value c) cs in omega (arith, more)

digits_next : (n : ℕ) (cs : List ℕ) (i : ℕ) → i < length cs → digits_value_after 10 n (drop i cs) ≡ digits_value_after 10 (n * 10 + digit_value (get_or cs i 0)) (drop (i + 1) cs)
digits_next n cs i less = ap (digits_value_after 10 n) (drop_more cs i 0 less)

pub digits_over : (n most : ℕ) (cs : List ℕ) (i : ℕ) → i < length cs → most < n * 10 + digit_value (get_or cs i 0) → most < digits_value_after 10 n (drop i cs)
digits_over n most cs i less over =
    let more = digits_grow (n * 10 + digit_value (get_or cs i 0)) (drop (i + 1) cs) in
    let is = digits_next n cs i less in
    omega (arith, more, is)

-- the digits that stand first are digits
pub digits_first : (bs : List ℕ) (n : ℕ) → n ≡ prefix_len is_digit bs → (k : ℕ) → k < length (take n bs) → is_digit (get_or (take n bs) k 0) ≡ true
digits_first bs n is k less =
    let short = length-take n bs in
    let inside : k < n = omega (arith, short) in
    rw (get_or-take n bs k 0 inside) (prefix_len_passes is_digit bs k 0 (omega (arith, is, inside)))
