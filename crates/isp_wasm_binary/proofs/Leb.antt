-- Numbers are said in the fewest bytes that say them.
use Rattle.std.proofs.Common.{◌≡◌, ℕ, zero, suc, ◌+◌, ◌-◌, ◌/◌, ◌%◌, ◌^◌, ◌<◌, ◌≤◌, Bool, true, false, List, [], ◌∷◌, length, refl, sym, ◌∙◌, arith, inl, inr, mod-eq_of_lt}
use Rattle.std.specs.Prelude.{nat_lt}
use Rattle.std.proofs.lemmas.Bool.{cases_lt, lt-ltb, le-ltb, cond-true, cond-false, false≢true}
use Rattle.std.proofs.Math.Nat.{pow-suc, pow-zero}
use Rattle.isp_wasm_binary.specs.Numbers.{groups, u32, is_small, last, signed_groups, i32, i64}
use Rattle.isp_wasm_binary.specs.Reading.{IsEnded, number, signed_number, Says, NumbersAreSaid}
use Rattle.isp_wasm_binary.proofs.Numbers.{Within, Small, last_is, behind, small_of_seven, is_small-true}
use Rattle.isp_wasm_binary.proofs.Steps.{one_group, more_groups, one_signed, more_signed, small_is}

-- ---- unsigned

-- a byte before others
before : (b : ℕ) (bs : List ℕ) → 128 ≤ b → b < 256 → IsEnded bs → IsEnded (b ∷ bs)
before b [] g l h = absurd h
before b (c ∷ bs) g l h = (g, l, h)

some : (bs : List ℕ) → IsEnded bs → 1 ≤ length bs
some [] h = absurd h
some (b ∷ bs) h = omega arith

one_said : (n : ℕ) → n < 128 → Says number n (n ∷ [])
one_said n h = record { ended = h; is = omega arith; least = λ bs e v. some bs e }

more_least : (n : ℕ) (rest : List ℕ) → 128 ≤ n → ((bs : List ℕ) → IsEnded bs → number bs ≡ n / 128 → length rest ≤ length bs)
    → (bs : List ℕ) → IsEnded bs → number bs ≡ n → suc (length rest) ≤ length bs
more_least n rest g h [] e v = absurd e
more_least n rest g h (b ∷ []) e v = absurd (omega arith)
more_least n rest g h (b ∷ c ∷ bs) e v = let m : number (c ∷ bs) ≡ n / 128 = omega arith in let l = h (c ∷ bs) e.2 m in omega arith

more_said : (n : ℕ) (rest : List ℕ) → 128 ≤ n → Says number (n / 128) rest → Says number n ((128 + n % 128) ∷ rest)
more_said n rest g h = record {
  ended = before (128 + n % 128) rest (omega arith) (omega arith) h.ended;
  is = (let e = h.is in omega arith);
  least = more_least n rest g h.least;
}

group_said : (k n : ℕ) → n < 128 ^ suc k → Says number n (groups k n)
group_said zero n h = let p = pow-suc 128 0 in let z = pow-zero 128 in rw (one_group 0 n (omega arith)) (one_said n (omega arith))
group_said (suc k) n h = elim (cases_lt n 128) [
  | inl lt ↦ rw (one_group (suc k) n lt) (one_said n lt)
  | inr ge ↦ let p = pow-suc 128 (suc k) in rw (more_groups k n ge) (more_said n (groups k (n / 128)) ge (group_said k (n / 128) (omega arith)))
]

u32_said : (n : ℕ) → n < 2 ^ 32 → Says number n (u32 n)
unfolding u32
u32_said n h = group_said 4 n (omega arith)

-- ---- signed

last_said : (w x : ℕ) → 1 ≤ w → x < 2 ^ w → Small w x → Says (signed_number w) x (last w x)
last_said w x o l s = let h = last_is w x o l s in record { ended = h.0; is = h.1; least = λ bs e v. some bs e }

-- what one byte says is small
small_one : (w b x : ℕ) → b < 128 → signed_number w (b ∷ []) ≡ x → Small w x
small_one w b x l e = elim (cases_lt b 64) [
  | inl lt ↦ inl (let v : x ≡ b = sym e ∙ cond-true (nat_lt b 64) b (b + 2 ^ w - 128) (lt-ltb b 64 lt) in omega arith)
  | inr ge ↦ (let v : x ≡ b + 2 ^ w - 128 = sym e ∙ cond-false (nat_lt b 64) b (b + 2 ^ w - 128) (le-ltb b 64 ge) in inr (omega arith))
]

not_small : (w x : ℕ) → is_small w x ≡ false → Small w x → ⊥
not_small w x e s = false≢true (sym e ∙ small_is w x s)

signed_least : (w x : ℕ) (rest : List ℕ) → is_small w x ≡ false → ((bs : List ℕ) → IsEnded bs → signed_number (w - 7) bs ≡ x / 128 → length rest ≤ length bs)
    → (bs : List ℕ) → IsEnded bs → signed_number w bs ≡ x → suc (length rest) ≤ length bs
signed_least w x rest n h [] e v = absurd e
signed_least w x rest n h (b ∷ []) e v = absurd (not_small w x n (small_one w b x e v))
signed_least w x rest n h (b ∷ c ∷ bs) e v =
    let m : signed_number (w - 7) (c ∷ bs) ≡ x / 128 = omega arith in let l = h (c ∷ bs) e.2 m in omega arith

signed_is : (w x : ℕ) (rest : List ℕ) → IsEnded rest → signed_number (w - 7) rest ≡ x / 128 → signed_number w ((128 + x % 128) ∷ rest) ≡ x
signed_is w x [] h e = absurd h
signed_is w x (c ∷ bs) h e = omega arith

more_signed_said : (w x : ℕ) (rest : List ℕ) → is_small w x ≡ false → Says (signed_number (w - 7)) (x / 128) rest → Says (signed_number w) x ((128 + x % 128) ∷ rest)
more_signed_said w x rest n h = record {
  ended = before (128 + x % 128) rest (omega arith) (omega arith) h.ended;
  is = signed_is w x rest h.ended h.is;
  least = signed_least w x rest n h.least;
}

signed_step : (k w x : ℕ) (b : Bool) → is_small w x ≡ b → Within (suc k) w x
    → (is_small w x ≡ false → Says (signed_number (w - 7)) (x / 128) (signed_groups k (w - 7) (x / 128)))
    → Says (signed_number w) x (signed_groups (suc k) w x)
signed_step k w x true e h more = rw (one_signed (suc k) w x e) (last_said w x h.some h.fits (is_small-true w x e))
signed_step k w x false e h more = rw (more_signed k w x e) (more_signed_said w x (signed_groups k (w - 7) (x / 128)) e (more e))

signed_said : (k w x : ℕ) → Within k w x → Says (signed_number w) x (signed_groups k w x)
signed_said zero w x h =
    let s = small_of_seven w x (omega (arith, h.few)) in rw (one_signed 0 w x (small_is w x s)) (last_said w x h.some h.fits s)
signed_said (suc k) w x h = signed_step k w x (is_small w x) refl h (λ e. signed_said k (w - 7) (x / 128) (behind k w x h e))

i32_said : (n : ℕ) → n < 2 ^ 32 → Says (signed_number 32) n (i32 n)
unfolding i32
i32_said n h = rw (mod-eq_of_lt h) (signed_said 4 32 n (record { some = omega arith; few = omega arith; fits = h }))

i64_said : (n : ℕ) → n < 2 ^ 64 → Says (signed_number 64) n (i64 n)
unfolding i64
i64_said n h = rw (mod-eq_of_lt h) (signed_said 9 64 n (record { some = omega arith; few = omega arith; fits = h }))

pub numbers_are_said : NumbersAreSaid
numbers_are_said = record { unsigned = u32_said; signed = i32_said; long = i64_said }
