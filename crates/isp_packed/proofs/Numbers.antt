-- Numbers and their bytes, one and many.
use Rattle.std.proofs.Common.{◌≡◌, ℕ, zero, suc, ◌+◌, ◌*◌, ◌/◌, ◌%◌, ◌^◌, ◌<◌, ◌≤◌, List, [], ◌∷◌, ◌++◌, length, take, drop, get_or, refl, sym, ap, ap₂, ◌∙◌, arith, add_comm, mul-suc, mul-zero, mod-eq_of_lt, drop-drop, get_or-drop, take_at}
use Rattle.std.proofs.Math.Nat.{add-mul-mod_self_left, div-div-eq-div-mul, pow-succ'}
use Rattle.std.proofs.lemmas.List.{drop-take}
use Rattle.std.specs.Int.{byte_at, bytes_low_first}
use Rattle.byteorder.specs.Endian.{little_bytes, little_number}
use Rattle.byteorder.specs.Numbers.{little_from-cons, little_from-take}
use Rattle.isp_packed.specs.reader.Bulk.{numbers}

-- ---- a number's bytes are those that it was read from

byte_at-next : (i x : ℕ) → byte_at (suc i) x ≡ byte_at i (x / 256)
byte_at-next zero x = refl
byte_at-next (suc j) x =
    ap (λ (p : ℕ). x / p % 256) (pow-succ' 256 (suc j)) ∙ ap (λ (q : ℕ). q % 256) (sym (div-div-eq-div-mul x 256 (256 ^ suc j)))

bytes-next : (i k x : ℕ) → bytes_low_first (suc i) k x ≡ bytes_low_first i k (x / 256)
bytes-next i zero x = refl
bytes-next i (suc k) x = ap₂ (λ (b : ℕ) (bs : List ℕ). b ∷ bs) (byte_at-next i x) (bytes-next (suc i) k x)

-- the bytes of b + 256 * y are b and those of y
bytes-cons : (n b y : ℕ) → b < 256 → little_bytes (suc n) (b + 256 * y) ≡ b ∷ little_bytes n y
bytes-cons n b y small =
    let low : (b + 256 * y) % 256 ≡ b = add-mul-mod_self_left b 256 y ∙ mod-eq_of_lt small in
    let high : (b + 256 * y) / 256 ≡ y = omega (arith, low) in
    ap₂ (λ (c : ℕ) (cs : List ℕ). c ∷ cs) low (bytes-next 0 n (b + 256 * y) ∙ ap (bytes_low_first 0 n) high)

pub bytes_again : (n : ℕ) (bs : List ℕ) → n ≤ length bs → ((k : ℕ) → get_or bs k 0 < 256) → little_bytes n (little_number n bs) ≡ take n bs
bytes_again zero bs room small = refl
bytes_again (suc n) [] room small = absurd (omega arith)
bytes_again (suc n) (b ∷ bs) room small =
    ap (λ (y : ℕ). little_bytes (suc n) (b + 256 * y)) (little_from-cons 0 n b bs)
    ∙ bytes-cons n b (little_number n bs) (small 0)
    ∙ ap (λ (cs : List ℕ). b ∷ cs) (bytes_again n bs (omega arith) (λ k. small (suc k)))

pub small_drop : (m : ℕ) (bs : List ℕ) → ((k : ℕ) → get_or bs k 0 < 256) → (k : ℕ) → get_or (drop m bs) k 0 < 256
small_drop m bs small k = rw (get_or-drop m bs k 0) (small (m + k))

-- ---- many numbers

pub next_drop : (n k : ℕ) (bs : List ℕ) → drop (n * suc k) bs ≡ drop (n * k) (drop n bs)
next_drop n k bs = ap (λ (i : ℕ). drop i bs) (mul-suc n k ∙ add_comm (n * k) n) ∙ sym (drop-drop (n * k) n bs)

pub length_numbers : (n c : ℕ) (bs : List ℕ) → length (numbers n c bs) ≡ c
length_numbers n zero bs = refl
length_numbers n (suc c) bs = ap (λ (i : ℕ). suc i) (length_numbers n c (drop n bs))

-- what byteorder's `read_u16_into` and its kin leave
pub numbers_read : (n : ℕ) (bs xs : List ℕ) → ((k : ℕ) → k < length xs → get_or xs k 0 ≡ little_number n (drop (n * k) bs)) → xs ≡ numbers n (length xs) bs
numbers_read n bs [] read = refl
numbers_read n bs (x ∷ xs) read =
    ap₂ (λ (y : ℕ) (ys : List ℕ). y ∷ ys)
    (read 0 (omega arith) ∙ ap (λ (i : ℕ). little_number n (drop i bs)) (mul-zero n))
    (numbers_read n (drop n bs) xs (λ k h. read (suc k) (omega arith) ∙ ap (little_number n) (next_drop n k bs)))

-- they are read from their own bytes alone
pub numbers-take : (n c : ℕ) (bs : List ℕ) → numbers n c (take (n * c) bs) ≡ numbers n c bs
numbers-take n zero bs = refl
numbers-take n (suc c) bs =
    ap (λ (i : ℕ). numbers n (suc c) (take i bs)) (mul-suc n c ∙ add_comm (n * c) n)
    ∙ ap₂ (λ (y : ℕ) (ys : List ℕ). y ∷ ys)
    (little_from-take 0 n (n + n * c) bs (omega arith))
    (ap (numbers n c) (drop-take n (n * c) bs) ∙ numbers-take n c (drop n bs))

-- a number of one byte is that byte
pub one_number : (k : ℕ) (bs : List ℕ) → little_number 1 (drop (1 * k) bs) ≡ get_or bs k 0
one_number k bs =
    let first : little_number 1 (drop (1 * k) bs) ≡ get_or (drop (1 * k) bs) 0 0 = omega arith in
    let place : 1 * k + 0 ≡ k = omega arith in
    first ∙ get_or-drop (1 * k) bs 0 0 ∙ ap (λ (i : ℕ). get_or bs i 0) place

pub one_numbers : (bs : List ℕ) → numbers 1 (length bs) bs ≡ bs
one_numbers [] = refl
one_numbers (b ∷ bs) =
    let first : little_number 1 (b ∷ bs) ≡ b = omega arith in
    ap₂ (λ (y : ℕ) (ys : List ℕ). y ∷ ys) first (one_numbers bs)

-- what stands in a vector that was as long, and was read over
pub words_read : (n c : ℕ) (bs dst old : List ℕ) (len : ℕ) → length dst ≡ len → len ≡ c → ((k : ℕ) → k < length dst → get_or dst k 0 ≡ little_number n (drop (n * k) bs))
    → take len (dst ++ drop (length dst) old) ≡ numbers n c bs
words_read n c bs dst old len long count read = take_at dst (drop (length dst) old) len long ∙ numbers_read n bs dst read ∙ ap (λ (i : ℕ). numbers n i bs) (long ∙ count)
