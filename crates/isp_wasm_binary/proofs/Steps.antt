-- The first byte of a number, and the number that is left behind it.
use Rattle.std.proofs.Common.{◌≡◌, ℕ, zero, suc, ◌+◌, ◌-◌, ◌/◌, ◌%◌, ◌^◌, ◌<◌, ◌≤◌, Bool, true, false, List, [], ◌∷◌, ◌++◌, refl, sym, ap, ap₂, ◌∙◌, arith, ◌⊎◌, inl, inr, mod-eq_of_lt, append_assoc, length, add-one}
use Rattle.std.specs.List.{flat_map}
use Rattle.std.specs.Prelude.{slice_index}
use Rattle.std.proofs.lemmas.Nat.{mod-mul-add, div-mul-add}
use Rattle.isp_wasm_meaning.specs.Digits.{packed}
use Rattle.isp_wasm_meaning.specs.Lists.{listed}
use Rattle.isp_wasm_meaning.proofs.Digits.{packed-below}
use Rattle.isp_wasm_meaning.specs.Ladder.{counting}
use Rattle.std.specs.Prelude.{nat_lt, nat_le, ◌||◌}
use Rattle.std.proofs.lemmas.Bool.{lt-ltb, le-ltb, le-leb, lt-leb, cases_lt, cond-true, cond-false}
use Rattle.std.proofs.Math.Bool.{or-true}
use Rattle.std.proofs.Math.Nat.{pow-suc, pow-zero}
use Rattle.isp_wasm_binary.specs.Numbers.{groups, u32, is_small, last, signed_groups, i32, i64, low_bytes, v128}
use Rattle.isp_wasm_binary.proofs.Numbers.{Within, Small, twice, behind, small_of_seven}

-- ---- unsigned

abbrev first_group : Bool → ℕ → List ℕ → List ℕ
first_group b n more = elim b [ true ↦ n ∷ [] | false ↦ (128 + n % 128) ∷ more ]

group_is : (k n : ℕ) → groups (suc k) n ≡ first_group (nat_lt n 128) n (groups k (n / 128))
unfolding groups
group_is k n = refl

pub one_group : (k n : ℕ) → n < 128 → groups k n ≡ n ∷ []
unfolding groups
one_group zero n h = refl
one_group (suc k) n h = ap (λ b. first_group b n (groups k (n / 128))) (lt-ltb n 128 h)

pub more_groups : (k n : ℕ) → 128 ≤ n → groups (suc k) n ≡ (128 + n % 128) ∷ groups k (n / 128)
unfolding groups
more_groups k n h = ap (λ b. first_group b n (groups k (n / 128))) (le-ltb n 128 h)

-- bytes that are never wanted
enough : (k n : ℕ) → n < 128 ^ suc k → groups (suc k) n ≡ groups k n
enough zero n h = let p = pow-suc 128 0 in let z = pow-zero 128 in one_group 1 n (omega arith) ∙ sym (one_group 0 n (omega arith))
enough (suc k) n h = elim (cases_lt n 128) [
  | inl lt ↦ one_group (suc (suc k)) n lt ∙ sym (one_group (suc k) n lt)
  | inr ge ↦ let p = pow-suc 128 (suc k) in more_groups (suc k) n ge ∙ ap (λ t. (128 + n % 128) ∷ t) (enough k (n / 128) (omega arith)) ∙ sym (more_groups k n ge)
]

pub u32_one : (n : ℕ) → n < 128 → u32 n ≡ n ∷ []
unfolding u32
u32_one n h = one_group 4 n h

pub u32_more : (n : ℕ) → n < 2 ^ 32 → 128 ≤ n → u32 n ≡ (128 + n % 128) ∷ u32 (n / 128)
unfolding u32
u32_more n h ge = more_groups 3 n ge ∙ ap (λ t. (128 + n % 128) ∷ t) (sym (enough 3 (n / 128) (omega arith)))

-- ---- signed

abbrev first_signed : Bool → ℕ → ℕ → List ℕ → List ℕ
first_signed b w x more = elim b [ true ↦ last w x | false ↦ (128 + x % 128) ∷ more ]

pub one_signed : (k w x : ℕ) → is_small w x ≡ true → signed_groups k w x ≡ last w x
unfolding signed_groups
one_signed zero w x h = refl
one_signed (suc k) w x h = ap (λ b. first_signed b w x (signed_groups k (w - 7) (x / 128))) h

pub more_signed : (k w x : ℕ) → is_small w x ≡ false → signed_groups (suc k) w x ≡ (128 + x % 128) ∷ signed_groups k (w - 7) (x / 128)
unfolding signed_groups
more_signed k w x h = ap (λ b. first_signed b w x (signed_groups k (w - 7) (x / 128))) h

pub small_is : (w x : ℕ) → Small w x → is_small w x ≡ true
small_is w x (inl a) = ap (λ b. b || nat_le (2 ^ w) (x + 64)) (lt-ltb x 64 a)
small_is w x (inr b) = ap (λ t. nat_lt x 64 || t) (le-leb (2 ^ w) (x + 64) b) ∙ or-true (nat_lt x 64)

enough_step : (k w x : ℕ) (b : Bool) → is_small w x ≡ b → (is_small w x ≡ false → signed_groups (suc k) (w - 7) (x / 128) ≡ signed_groups k (w - 7) (x / 128)) → signed_groups (suc (suc k)) w x ≡ signed_groups (suc k) w x
enough_step k w x true e h = one_signed (suc (suc k)) w x e ∙ sym (one_signed (suc k) w x e)
enough_step k w x false e h = more_signed (suc k) w x e ∙ ap (λ t. (128 + x % 128) ∷ t) (h e) ∙ sym (more_signed k w x e)

signed_enough : (k w x : ℕ) → Within k w x → signed_groups (suc k) w x ≡ signed_groups k w x
signed_enough zero w x h =
    let s = small_is w x (small_of_seven w x (omega (arith, h.few))) in one_signed 1 w x s ∙ sym (one_signed 0 w x s)
signed_enough (suc k) w x h = enough_step k w x (is_small w x) refl (λ e. signed_enough k (w - 7) (x / 128) (behind k w x h e))

wider : (k w x : ℕ) → Within k w x → Within (suc k) w x
wider k w x h = record { some = h.some; few = omega (arith, h.few); fits = h.fits }

-- so many bytes are enough for 32 and for 64 bits
pub i32_is : (n : ℕ) → n < 2 ^ 32 → i32 n ≡ signed_groups 9 32 n
unfolding i32
i32_is n h =
    let of : (k : ℕ) → 4 ≤ k → Within k 32 n = λ k l. record { some = omega arith; few = omega arith; fits = h } in
    ap (signed_groups 4 32) (mod-eq_of_lt h)
    ∙ sym (signed_enough 4 32 n (of 4 (omega arith))) ∙ sym (signed_enough 5 32 n (of 5 (omega arith))) ∙ sym (signed_enough 6 32 n (of 6 (omega arith)))
    ∙ sym (signed_enough 7 32 n (of 7 (omega arith))) ∙ sym (signed_enough 8 32 n (of 8 (omega arith)))

pub i64_is : (n : ℕ) → n < 2 ^ 64 → i64 n ≡ signed_groups 9 64 n
unfolding i64
i64_is n h = ap (signed_groups 9 64) (mod-eq_of_lt h)

pub signed_one : (w x : ℕ) → is_small w x ≡ true → signed_groups 9 w x ≡ last w x
signed_one w x h = one_signed 9 w x h

pub signed_more : (w x : ℕ) → Within 9 w x → is_small w x ≡ false → signed_groups 9 w x ≡ (128 + x % 128) ∷ signed_groups 9 (w - 7) (x / 128)
signed_more w x h e = more_signed 8 w x e ∙ ap (λ t. (128 + x % 128) ∷ t) (sym (signed_enough 8 (w - 7) (x / 128) (behind 8 w x h e)))

pub signed_rest : (w x : ℕ) → Within 9 w x → is_small w x ≡ false → Within 9 (w - 7) (x / 128)
signed_rest w x h e = wider 8 (w - 7) (x / 128) (behind 8 w x h e)

-- ---- bytes that are written one after the other

pub behind_byte : (o n t : List ℕ) (b : ℕ) → n ≡ o ++ b ∷ [] → n ++ t ≡ o ++ b ∷ t
behind_byte o n t b e = ap (λ l. l ++ t) e ∙ append_assoc o (b ∷ []) t

-- what 2 ^ w - 1 - x tells
pub small_from : (w x top : ℕ) → top + 1 ≡ 2 ^ w → x < 2 ^ w → (nat_lt x 64 || nat_lt (top - x) 64) ≡ is_small w x
small_from w x top e h = ap (λ b. nat_lt x 64 || b) (by (cases_lt (top - x) 64))
  where
    by : (top - x < 64) ⊎ (64 ≤ top - x) → nat_lt (top - x) 64 ≡ nat_le (2 ^ w) (x + 64)
    by (inl lt) = lt-ltb (top - x) 64 lt ∙ sym (le-leb (2 ^ w) (x + 64) (omega arith))
    by (inr ge) = le-ltb (top - x) 64 ge ∙ sym (lt-leb (2 ^ w) (x + 64) (omega arith))

pub last_low : (w x top : ℕ) → 1 ≤ w → top + 1 ≡ 2 ^ w → x ≤ top - x → x < 2 ^ w → x ∷ [] ≡ last w x
last_low w x top o e h l =
    let t = twice w o in ap (λ n. n ∷ []) (sym (cond-true (nat_lt x (2 ^ (w - 1))) x (x + 128 - 2 ^ w) (lt-ltb x (2 ^ (w - 1)) (omega arith))))

pub last_high : (w x top : ℕ) → 1 ≤ w → top + 1 ≡ 2 ^ w → top - x < x → x < 2 ^ w → (127 - (top - x)) ∷ [] ≡ last w x
last_high w x top o e h l =
    let t = twice w o in
    let v : 127 - (top - x) ≡ x + 128 - 2 ^ w = omega arith in
    ap (λ n. n ∷ []) (v ∙ sym (cond-false (nat_lt x (2 ^ (w - 1))) x (x + 128 - 2 ^ w) (le-ltb x (2 ^ (w - 1)) (omega arith))))

-- ---- the labels of a table

pub counted : (n k : ℕ) → k < n → counting (n - k) k ≡ k ∷ counting (n - (k + 1)) (k + 1)
counted n k h = ap (λ m. counting m k) (let e : n - k ≡ suc (n - (k + 1)) = omega arith in e) ∙ ap (λ j. k ∷ counting (n - (k + 1)) j) (sym (add-one k))

pub counted_all : (n k : ℕ) → length (counting n k) ≡ n
counted_all zero k = refl
counted_all (suc n) k = ap suc (counted_all n (suc k))

pub table_written : (n : ℕ) (o p q r : List ℕ) → p ≡ o ++ 0x0E ∷ [] → q ≡ p ++ u32 n → r ≡ q ++ flat_map u32 (counting n 0)
    → r ++ u32 n ≡ o ++ 0x0E ∷ ((u32 (length (counting n 0)) ++ flat_map u32 (counting n 0)) ++ u32 n)
table_written n o p q r e f g =
    let ks = flat_map u32 (counting n 0) in
    let whole : r ≡ o ++ 0x0E ∷ (u32 n ++ ks) =
    g ∙ ap (λ l. l ++ ks) (f ∙ ap (λ l. l ++ u32 n) e) ∙ append_assoc (o ++ 0x0E ∷ []) (u32 n) ks ∙ append_assoc o (0x0E ∷ []) (u32 n ++ ks) in
    ap (λ l. l ++ u32 n) whole ∙ append_assoc o (0x0E ∷ (u32 n ++ ks)) (u32 n) ∙ ap (λ m. o ++ 0x0E ∷ ((u32 m ++ ks) ++ u32 n)) (sym (counted_all n 0))

-- ---- the bytes of a v128

low_packed : (k : ℕ) (f : ℕ → ℕ) → ((j : ℕ) → j < k → f j < 256) → low_bytes k (packed 256 k f) ≡ listed k f
unfolding low_bytes packed
low_packed zero f h = refl
low_packed (suc k) f h =
    let rest = packed 256 k (λ j. f (suc j)) in
    ap₂ (λ b bs. b ∷ bs) (mod-mul-add rest 256 (f 0) (h 0 (omega arith)))
    (ap (low_bytes k) (div-mul-add rest 256 (f 0) (h 0 (omega arith))) ∙ low_packed k (λ j. f (suc j)) (λ j l. h (suc j) (omega arith)))

listed_same : (xs : List ℕ) → listed (length xs) (slice_index xs) ≡ xs
listed_same [] = refl
listed_same (x ∷ xs) = ap (λ ys. x ∷ ys) (listed_same xs)

pub v128_packed : (bs : List ℕ) → length bs ≡ 16 → ((j : ℕ) → slice_index bs j < 256) → v128 (packed 256 16 (slice_index bs)) ≡ bs
unfolding v128
v128_packed bs l h =
    ap (low_bytes 16) (mod-eq_of_lt (packed-below 256 16 (slice_index bs) (λ j q. h j))) ∙ low_packed 16 (slice_index bs) (λ j q. h j)
    ∙ ap (λ n. listed n (slice_index bs)) (sym l) ∙ listed_same bs
