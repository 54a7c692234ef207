-- Numbers are read back from their bytes.
use Rattle.std.proofs.Common.{◌≡◌, ℕ, zero, suc, ◌+◌, ◌-◌, ◌*◌, ◌/◌, ◌%◌, ◌^◌, ◌<◌, ◌≤◌, Bool, true, false, List, [], ◌∷◌, ◌++◌, refl, sym, ap, ◌∙◌, arith, ◌⊎◌, inl, inr, mod-eq_of_lt}
use Rattle.std.specs.Prelude.{nat_lt, nat_le, if◌then◌else◌, ◌||◌}
use Rattle.std.proofs.lemmas.Bool.{ltb-true, ltb-false, leb-true, leb-false, lt-ltb, le-ltb, cond-true, cond-false, cases_lt, or_cases}
use Rattle.std.proofs.Math.Nat.{pow-suc, pow-zero, pow-le-pow_right}
use Rattle.std.proofs.lemmas.Nat.{pow-add}
use Rattle.isp_wasm_binary.specs.Numbers.{groups, u32, is_small, last, signed_groups, i32, i64, low_bytes, v128}

-- ---- unsigned

-- the number that bytes begin with, and what is after it
abbrev pub Read : Type 0
Read = ℕ × List ℕ

abbrev pub more : ℕ → Read → Read
more b (n, r) = (n * 128 + (b - 128), r)

abbrev pub pick : Bool → Read → Read → Read
pick true x y = x
pick false x y = y

abbrev pub read_groups : ℕ → List ℕ → Read
read_groups k [] = (0, [])
read_groups zero (b ∷ r) = (b, r)
read_groups (suc k) (b ∷ r) = pick (nat_lt b 128) (b, r) (more b (read_groups k r))

more_back : (n : ℕ) (r : List ℕ) → more (128 + n % 128) (n / 128, r) ≡ (n, r)
more_back n r = ap (λ x. (x, r)) (let e : n / 128 * 128 + (128 + n % 128 - 128) ≡ n = omega arith in e)

groups_step : (k n : ℕ) (r : List ℕ) (b : Bool) → nat_lt n 128 ≡ b → read_groups k (groups k (n / 128) ++ r) ≡ (n / 128, r) → read_groups (suc k) ((elim b [ true ↦ n ∷ [] | false ↦ (128 + n % 128) ∷ groups k (n / 128) ]) ++ r) ≡ (n, r)
groups_step k n r true e h = ap (λ b. pick b (n, r) (more n (read_groups k r))) e
groups_step k n r false e h =
    let b = 128 + n % 128 in
    let rest = groups k (n / 128) ++ r in
    ap (λ t. pick t (b, rest) (more b (read_groups k rest))) (le-ltb b 128 (omega arith)) ∙ (ap (more b) h ∙ more_back n r)

pub groups_back : (k n : ℕ) (r : List ℕ) → read_groups k (groups k n ++ r) ≡ (n, r)
unfolding groups
groups_back zero n r = refl
groups_back (suc k) n r = groups_step k n r (nat_lt n 128) refl (groups_back k (n / 128) r)

pub u32_back : (n : ℕ) (r : List ℕ) → read_groups 4 (u32 n ++ r) ≡ (n, r)
unfolding u32
u32_back n r = groups_back 4 n r

-- a number as bytes tells where it ends
pub u32_free : (m n : ℕ) (r s : List ℕ) → u32 m ++ r ≡ u32 n ++ s → (m ≡ n) × (r ≡ s)
u32_free m n r s e = let same = sym (u32_back m r) ∙ ap (read_groups 4) e ∙ u32_back n s in (ap (λ x. x.0) same, ap (λ x. x.1) same)

-- ---- signed, by its w bits

abbrev pub extended : ℕ → ℕ → ℕ
extended w b = if nat_lt b 64 then b else b + 2 ^ w - 128

abbrev pub read_signed : ℕ → ℕ → List ℕ → Read
read_signed k w [] = (0, [])
read_signed zero w (b ∷ r) = (extended w b, r)
read_signed (suc k) w (b ∷ r) = pick (nat_lt b 128) (extended w b, r) (more b (read_signed k (w - 7) r))

abbrev pub last_byte : ℕ → ℕ → ℕ
last_byte w x = if nat_lt x (2 ^ (w - 1)) then x else x + 128 - 2 ^ w

pub twice : (w : ℕ) → 1 ≤ w → 2 ^ w ≡ 2 ^ (w - 1) + 2 ^ (w - 1)
twice zero h = absurd (omega arith)
twice (suc w) h = rw (pow-suc) (let e : suc w - 1 ≡ w = omega arith in rw e (omega arith))

abbrev pub Small : ℕ → ℕ → Type 0
Small w x = (x < 64) ⊎ (2 ^ w ≤ x + 64)

-- a number that is small is its last byte's
pub last_is : (w x : ℕ) → 1 ≤ w → x < 2 ^ w → Small w x → (last_byte w x < 128) × (extended w (last_byte w x) ≡ x)
last_is w x h l s = by (cases_lt x (2 ^ (w - 1)))
  where
    by : (x < 2 ^ (w - 1)) ⊎ (2 ^ (w - 1) ≤ x) → (last_byte w x < 128) × (extended w (last_byte w x) ≡ x)
    by (inl lt) =
        let e = twice w h in
        let low : x < 64 = elim s [ inl a ↦ a | inr a ↦ omega arith ] in
        let is : last_byte w x ≡ x = cond-true (nat_lt x (2 ^ (w - 1))) x (x + 128 - 2 ^ w) (lt-ltb x (2 ^ (w - 1)) lt) in
        rw is (let b : x < 128 = omega arith in (b, cond-true (nat_lt x 64) x (x + 2 ^ w - 128) (lt-ltb x 64 low)))
    by (inr ge) =
        let e = twice w h in
        let is : last_byte w x ≡ x + 128 - 2 ^ w = cond-false (nat_lt x (2 ^ (w - 1))) x (x + 128 - 2 ^ w) (le-ltb x (2 ^ (w - 1)) ge) in
        let high : 64 ≤ x + 128 - 2 ^ w = elim s [ inl a ↦ omega arith | inr a ↦ omega arith ] in
        let b : x + 128 - 2 ^ w < 128 = omega arith in
        let v : x + 128 - 2 ^ w + 2 ^ w - 128 ≡ x = omega arith in
        rw is (b, cond-false (nat_lt (x + 128 - 2 ^ w) 64) (x + 128 - 2 ^ w) (x + 128 - 2 ^ w + 2 ^ w - 128) (le-ltb (x + 128 - 2 ^ w) 64 high) ∙ v)

-- the bits that are left behind a byte
seven : (w : ℕ) → 7 ≤ w → 2 ^ w ≡ 128 * 2 ^ (w - 7)
seven w h = ap (λ n. 2 ^ n) (let e : w ≡ 7 + (w - 7) = omega arith in e) ∙ pow-add 2 7 (w - 7)

pub at_most : (w : ℕ) → w ≤ 7 → 2 ^ w ≤ 128
at_most w h = let e : 2 ^ w ≤ 2 ^ 7 = pow-le-pow_right (omega arith) h in e

pub is_small-true : (w x : ℕ) → is_small w x ≡ true → Small w x
is_small-true w x e = elim (or_cases (nat_lt x 64) (nat_le (2 ^ w) (x + 64)) e) [ inl a ↦ inl (ltb-true x 64 a) | inr b ↦ inr (leb-true (2 ^ w) (x + 64) b) ]

or_parts : (a b : Bool) → (a || b) ≡ false → (a ≡ false) × (b ≡ false)
or_parts false b e = (refl, e)
or_parts true b e = cc

pub is_small-false : (w x : ℕ) → is_small w x ≡ false → (64 ≤ x) × (x + 64 < 2 ^ w)
is_small-false w x e = let h = or_parts (nat_lt x 64) (nat_le (2 ^ w) (x + 64)) e in (ltb-false x 64 h.0, leb-false (2 ^ w) (x + 64) h.1)

-- so many bits are in so many bytes
pub record Within (k w x : ℕ) : Type 0 where
  pub some : 1 ≤ w
  pub few : w ≤ 7 + 7 * k
  pub fits : x < 2 ^ w

pub behind : (k w x : ℕ) → Within (suc k) w x → is_small w x ≡ false → Within k (w - 7) (x / 128)
behind k w x h e = elim (cases_lt w 8) [
  | inl lt ↦ let a = at_most w (omega arith) in let b = is_small-false w x e in absurd (omega (arith, b.0, b.1))
  | inr ge ↦ let p = seven w (omega arith) in let f = h.fits in record { some = omega arith; few = omega (arith, h.few); fits = omega (arith, f, p) }
]

signed_step : (k w x : ℕ) (r : List ℕ) (b : Bool) → is_small w x ≡ b → Within (suc k) w x
    → (is_small w x ≡ false → read_signed k (w - 7) (signed_groups k (w - 7) (x / 128) ++ r) ≡ (x / 128, r))
    → read_signed (suc k) w ((elim b [ true ↦ last w x | false ↦ (128 + x % 128) ∷ signed_groups k (w - 7) (x / 128) ]) ++ r) ≡ (x, r)
signed_step k w x r true e h back =
    let l = last_is w x h.some h.fits (is_small-true w x e) in
    ap (λ t. pick t (extended w (last_byte w x), r) (more (last_byte w x) (read_signed k (w - 7) r))) (lt-ltb (last_byte w x) 128 l.0) ∙ ap (λ n. (n, r)) l.1
signed_step k w x r false e h back =
    let b = 128 + x % 128 in
    let rest = signed_groups k (w - 7) (x / 128) ++ r in
    ap (λ t. pick t (extended w b, rest) (more b (read_signed k (w - 7) rest))) (le-ltb b 128 (omega arith)) ∙ (ap (more b) (back e) ∙ more_back x r)

-- what 7 bits hold is one byte's
pub small_of_seven : (w x : ℕ) → w ≤ 7 → Small w x
small_of_seven w x h = let a = at_most w h in elim (cases_lt x 64) [ inl lt ↦ inl lt | inr ge ↦ inr (omega arith) ]

signed_back : (k w x : ℕ) (r : List ℕ) → Within k w x → read_signed k w (signed_groups k w x ++ r) ≡ (x, r)
unfolding signed_groups
signed_back zero w x r h =
    ap (λ n. (n, r)) (last_is w x h.some h.fits (small_of_seven w x (omega (arith, h.few)))).1
signed_back (suc k) w x r h = signed_step k w x r (is_small w x) refl h (λ e. signed_back k (w - 7) (x / 128) r (behind k w x h e))

pub i32_back : (n : ℕ) (r : List ℕ) → n < 2 ^ 32 → read_signed 4 32 (i32 n ++ r) ≡ (n, r)
unfolding i32
i32_back n r h = ap (λ y. read_signed 4 32 (signed_groups 4 32 y ++ r)) (mod-eq_of_lt h) ∙ signed_back 4 32 n r (record { some = omega arith; few = omega arith; fits = h })

pub i64_back : (n : ℕ) (r : List ℕ) → n < 2 ^ 64 → read_signed 9 64 (i64 n ++ r) ≡ (n, r)
unfolding i64
i64_back n r h = ap (λ y. read_signed 9 64 (signed_groups 9 64 y ++ r)) (mod-eq_of_lt h) ∙ signed_back 9 64 n r (record { some = omega arith; few = omega arith; fits = h })

-- ---- bytes, the lowest first

abbrev pub read_low : ℕ → List ℕ → Read
read_low zero r = (0, r)
read_low (suc k) [] = (0, [])
read_low (suc k) (b ∷ r) = ((read_low k r).0 * 256 + b, (read_low k r).1)

low_back : (k n : ℕ) (r : List ℕ) → n < 256 ^ k → read_low k (low_bytes k n ++ r) ≡ (n, r)
unfolding low_bytes
low_back zero n r h = ap (λ m. (m, r)) (let o = pow-zero 256 in let e : 0 ≡ n = omega arith in e)
low_back (suc k) n r h =
    let p = pow-suc 256 k in
    let below : n / 256 < 256 ^ k = omega arith in
    ap (λ t. (t.0 * 256 + n % 256, t.1)) (low_back k (n / 256) r below) ∙ ap (λ m. (m, r)) (let e : n / 256 * 256 + n % 256 ≡ n = omega arith in e)

pub v128_back : (n : ℕ) (r : List ℕ) → n < 2 ^ 128 → read_low 16 (v128 n ++ r) ≡ (n, r)
unfolding v128
v128_back n r h = ap (λ y. read_low 16 (low_bytes 16 y ++ r)) (mod-eq_of_lt h) ∙ low_back 16 n r h
