-- What a word of eight bytes holds of a number in fewer; and a number is read as it was written.
use Rattle.std.proofs.Common.{◌≡◌, ◌/◌, ◌%◌, ℕ, zero, suc, ◌+◌, ◌-◌, ◌*◌, ◌^◌, ◌<◌, ◌≤◌, List, [], ◌∷◌, ◌++◌, length, take, drop, replicate, get_or, cond, Ok, Err, refl, ap, ◌∙◌, inl, inr, arith}
use Rattle.std.specs.Prelude.{OnOk, Result, ⊤}
use Rattle.std.specs.Result.{is_ok}
use Rattle.std.specs.Int.{w64, byte_at, bytes_high_first, bytes_low_first, from_be_bytes, from_le_bytes}
use Rattle.std.proofs.Math.ListN.{get_or-append}
use Rattle.std.proofs.Math.Nat.{mod-eq_of_lt, pow-suc}
use Rattle.std.proofs.lemmas.Bool.{cases_lt}
use Rattle.std.proofs.lemmas.List.{append-nil, drop-replicate, drop_all, get_or-append_right, get_or-take, length-replicate, take-replicate, take_all}
use Rattle.std.proofs.lemmas.Nat.{mod-pow-add, pow-add}
use borrow.Rule.Slice.PartMut.{put_mid}
use Rattle.isp_files.specs.Endian.{big_number, little_bytes, little_number}

-- ---- reads

-- so many zeros
abbrev zeros : ℕ → List ℕ
zeros m = replicate m 0

no_byte : (m i : ℕ) → get_or (zeros m) i 0 ≡ 0
no_byte zero i = omega arith
no_byte (suc m) zero = omega arith
no_byte (suc m) (suc i) = no_byte m i

-- n bytes make a number, whatever follows them
little_same : (n : ℕ) (bs cs : List ℕ) → ((i : ℕ) → i < n → get_or bs i 0 ≡ get_or cs i 0) → little_number n bs ≡ little_number n cs
little_same zero bs cs same = refl
little_same (suc n) bs cs same =
    let below = little_same n bs cs (λ i h. same i (omega (arith, h))) in
    let last = same n (omega arith) in
    rw (below, last) refl

big_same : (n : ℕ) (bs cs : List ℕ) → ((i : ℕ) → i < n → get_or bs i 0 ≡ get_or cs i 0) → big_number n bs ≡ big_number n cs
big_same zero bs cs same = refl
big_same (suc n) bs cs same =
    let below = big_same n bs cs (λ i h. same i (omega (arith, h))) in
    let last = same n (omega arith) in
    rw (below, last) refl

pub little_taken : (n : ℕ) (bs : List ℕ) → little_number n (take n bs) ≡ little_number n bs
little_taken n bs = little_same n (take n bs) bs (λ i h. get_or-take n bs i 0 h)

pub big_taken : (n : ℕ) (bs : List ℕ) → big_number n (take n bs) ≡ big_number n bs
big_taken n bs = big_same n (take n bs) bs (λ i h. get_or-take n bs i 0 h)

-- zeros after the lowest first are worth nothing
little_zeros : (d m n : ℕ) (bs : List ℕ) → n ≡ length bs + d → little_number n (bs ++ replicate m 0) ≡ little_number (length bs) bs
little_zeros zero m n bs e =
    let all : n ≡ length bs = omega (arith, e) in
    rw all (little_same (length bs) (bs ++ replicate m 0) bs (λ i h. get_or-append bs (replicate m 0) 0 i h))
little_zeros (suc d) m zero bs e = absurd (omega (arith, e))
little_zeros (suc d) m (suc n) bs e =
    let below = little_zeros d m n bs (omega (arith, e)) in
    let none : get_or (bs ++ replicate m 0) n 0 ≡ 0 = get_or-append_right bs (replicate m 0) (length bs) n 0 refl (omega (arith, e)) ∙ no_byte m (n - length bs) in
    rw (none, below) (omega arith)

-- nor before the highest first
big_none : (k m : ℕ) (bs : List ℕ) → k ≤ m → big_number k (replicate m 0 ++ bs) ≡ 0
big_none zero m bs h = refl
big_none (suc k) m bs h =
    let below = big_none k m bs (omega (arith, h)) in
    let none = get_or-append (replicate m 0) bs 0 k (omega (arith, h, length-replicate {A = ℕ} m 0)) ∙ no_byte m k in
    rw (below, none) refl

big_zeros : (n m k : ℕ) (bs : List ℕ) → k ≡ m + n → big_number k (replicate m 0 ++ bs) ≡ big_number n bs
big_zeros zero m k bs e = big_none k m bs (omega (arith, e))
big_zeros (suc n) m zero bs e = absurd (omega (arith, e))
big_zeros (suc n) m (suc k) bs e =
    let below = big_zeros n m k bs (omega (arith, e)) in
    let place : k - m ≡ n = omega (arith, e) in
    let byte = get_or-append_right (replicate m 0) bs m k 0 (length-replicate {A = ℕ} m 0) (omega (arith, e)) ∙ ap (λ (i : ℕ). get_or bs i 0) place in
    rw (below, byte) refl

pub little_word : (n : ℕ) (ys : List ℕ) → n ≤ 8 → length ys ≡ n → from_le_bytes w64 (put_mid 0 n (replicate 8 0) ys) ≡ little_number n ys
little_word n ys few is =
    let word : put_mid 0 n (replicate 8 0) ys ≡ ys ++ replicate (8 - n) 0 = rw (drop-replicate {X = ℕ} n 8 0) refl in
    let whole : from_le_bytes w64 (put_mid 0 n (replicate 8 0) ys) ≡ little_number 8 (put_mid 0 n (replicate 8 0) ys) = omega arith in
    whole ∙ ap (little_number 8) word ∙ little_zeros (8 - n) (8 - n) 8 ys (omega (arith, few, is)) ∙ ap (λ (k : ℕ). little_number k ys) is

pub big_word : (n : ℕ) (ys : List ℕ) → n ≤ 8 → length ys ≡ n → from_be_bytes w64 (put_mid (8 - n) (8 - (8 - n)) (replicate 8 0) ys) ≡ big_number n ys
big_word n ys few is =
    let front = 8 - n in
    let back : drop (8 - front) (replicate (8 - front) 0) ≡ [] = drop_all {X = ℕ} (8 - front) (replicate (8 - front) 0) (omega (arith, length-replicate {A = ℕ} (8 - front) 0)) in
    let word : put_mid front (8 - front) (replicate 8 0) ys ≡ replicate front 0 ++ ys =
    rw (take-replicate {X = ℕ} front 8 0 (omega arith), drop-replicate {X = ℕ} front 8 0, back, append-nil) refl in
    let whole : from_be_bytes w64 (put_mid front (8 - front) (replicate 8 0) ys) ≡ big_number 8 (put_mid front (8 - front) (replicate 8 0) ys) = omega arith in
    whole ∙ ap (big_number 8) word ∙ big_zeros n front 8 ys (omega (arith, few))

-- ---- writes

-- the low bytes are the first of all, where the lowest stands first
pub little_low : (j k n x : ℕ) → n ≤ k → take n (bytes_low_first j k x) ≡ bytes_low_first j n x
little_low j k zero x few = refl
little_low j zero (suc n) x few = absurd (omega (arith, few))
little_low j (suc k) (suc n) x few = ap (λ (bs : List ℕ). byte_at j x ∷ bs) (little_low (suc j) k n x (omega (arith, few)))

-- and else the last
pub big_low : (k n x : ℕ) → n ≤ k → drop (k - n) (bytes_high_first k x) ≡ bytes_high_first n x
big_low zero n x few =
    let none : n ≡ 0 = omega (arith, few) in
    rw none refl
big_low (suc k) n x few =
    elim (cases_lt k n) [
      | inl all ↦
          let is : n ≡ suc k = omega (arith, all, few) in
          let start : suc k - n ≡ 0 = omega (arith, is) in
          rw (start, is) refl
      | inr less ↦
          let more : suc k - n ≡ suc (k - n) = omega (arith, less) in
          rw more (big_low k n x less)
    ]

length-high : (n x : ℕ) → length (bytes_high_first n x) ≡ n
length-high zero x = refl
length-high (suc n) x = let more = length-high n x in omega (arith, more)

pub big_end : (n x : ℕ) → n ≤ 8 → take (8 - (8 - n)) (drop (8 - n) (bytes_high_first 8 x)) ≡ bytes_high_first n x
big_end n x few =
    let many = length-high n x in
    let is : 8 - (8 - n) ≡ n = omega (arith, few) in
    rw (big_low 8 n x few, is) (take_all n (bytes_high_first n x) (omega (arith, many)))

-- what a push leaves
pub pushed : {E : Type 0} (r : Result ⊤ E) (now was ys zs : List ℕ) → now ≡ cond (is_ok r) (was ++ ys) was → ys ≡ zs → OnOk r (now ≡ was ++ zs)
pushed (Ok done) now was ys zs after same = after ∙ ap (λ (l : List ℕ). was ++ l) same
pushed (Err e) now was ys zs after same = tt

-- ---- the lowest first is read as it was written

pub length-bytes : (j n x : ℕ) → length (bytes_low_first j n x) ≡ n
length-bytes j zero x = refl
length-bytes j (suc n) x = let more = length-bytes (suc j) n x in omega (arith, more)

byte_in : (j n x i : ℕ) → i < n → get_or (bytes_low_first j n x) i 0 ≡ byte_at (j + i) x
byte_in j zero x i less = absurd (omega (arith, less))
byte_in j (suc n) x zero less = ap (λ (k : ℕ). byte_at k x) (omega arith)
byte_in j (suc n) x (suc i) less =
    let place : suc j + i ≡ j + suc i = omega arith in
    byte_in (suc j) n x i (omega (arith, less)) ∙ ap (λ (k : ℕ). byte_at k x) place

byte_is : (n x : ℕ) → byte_at n x ≡ x / 256 ^ n % 256
byte_is zero x = omega arith
byte_is (suc n) x = refl

-- n bytes are 8 * n bits
bits : (n : ℕ) → 256 ^ n ≡ 2 ^ (8 * n)
bits zero = refl
bits (suc n) =
    let wide : 8 * suc n ≡ 8 * n + 8 = omega arith in
    rw (pow-suc 256 n, bits n, wide, pow-add 2 (8 * n) 8) refl

-- a number below 256 ^ (n + 1) by its highest byte
by_last : (n x : ℕ) → x % 256 ^ n + byte_at n x * 256 ^ n ≡ x % 256 ^ suc n
by_last n x =
    let wide : 8 * suc n ≡ 8 + 8 * n = omega arith in
    rw (byte_is n x, bits (suc n), bits n, wide, mod-pow-add x 8 (8 * n)) (omega arith)

little_value : (n x : ℕ) (bs : List ℕ) → ((i : ℕ) → i < n → get_or bs i 0 ≡ byte_at i x) → little_number n bs ≡ x % 256 ^ n
little_value zero x bs each = omega arith
little_value (suc n) x bs each =
    let below = little_value n x bs (λ i h. each i (omega (arith, h))) in
    let last = each n (omega arith) in
    rw (below, last) (by_last n x)

pub little_back : (n x : ℕ) (rest : List ℕ) → x < 256 ^ n → little_number n (little_bytes n x ++ rest) ≡ x
little_back n x rest small =
    let many = length-bytes 0 n x in
    let own : (i : ℕ) → i < n → get_or (little_bytes n x) i 0 ≡ byte_at i x = (λ i h. byte_in 0 n x i h ∙ ap (λ (k : ℕ). byte_at k x) (omega arith)) in
    little_value n x (little_bytes n x ++ rest) (λ i h. get_or-append (little_bytes n x) rest 0 i (omega (arith, h, many)) ∙ own i h)
    ∙ mod-eq_of_lt small
