-- The lowest lane of a mask, by its lanes as bits.
use Rattle.std.proofs.Common.{◌≡◌, ℕ, zero, suc, ◌+◌, ◌-◌, ◌*◌, ◌/◌, ◌%◌, ◌^◌, ◌<◌, ◌≤◌, ◌⊎◌, inl, inr, Option, Some, None, Bool, true, false, not, ◌&&◌, ◌||◌, refl, sym, ap, ap₂, ◌∙◌, subst, arith, lit≤, eq-eqb}
use Rattle.std.specs.Prelude.{nat_eq, nat_le, if◌then◌else◌}
use Rattle.std.proofs.lemmas.Bool.{eqb-true, eqb-false, ne_eqb, cases_lt}
use Rattle.std.proofs.lemmas.Nat.{div-mul-add, mod-mul-add, pow_pos}
use Rattle.std.proofs.Math.Nat.{pow-suc}
use Rattle.isp_base.specs.Cross.{or_zero}
use Rattle.isp_base.specs.Sets.{Mask, lowest, any, all, or_this}
use Rattle.isp_wasm_meaning.specs.Digits.{packed}
use Rattle.isp_wasm_meaning.specs.Syntax.{I8x16}
use Rattle.isp_wasm_meaning.specs.Meaning.{flag, flags, trailing, chosen, lane}
use Rattle.isp_wasm_meaning.proofs.Digits.{packed-same, packed-below, packed-join}

abbrev pub one_up : Option ℕ → Option ℕ
one_up None = None
one_up (Some p) = Some (suc p)

lowest_shift : (n : ℕ) (a : Mask) → lowest (suc n) a ≡ (if a 0 then Some 0 else one_up (lowest n (λ p. a (suc p))))
lowest_shift zero a = by (a 0)
  where
    by : (b : Bool) → or_this None b 0 ≡ (if b then Some 0 else None)
    by true = refl
    by false = refl
lowest_shift (suc n) a = ap (λ o. or_this o (a (suc n)) (suc n)) (lowest_shift n a) ∙ by (a 0) (lowest n (λ p. a (suc p))) (a (suc n))
  where
    by : (b : Bool) (o : Option ℕ) (d : Bool) → or_this (if b then Some 0 else one_up o) d (suc n) ≡ (if b then Some 0 else one_up (or_this o d n))
    by true o d = refl
    by false (Some p) d = refl
    by false None true = refl
    by false None false = refl

abbrev pub member_bits : ℕ → Mask → ℕ
member_bits n a = packed 2 n (λ k. flag (a k))

lowest_is_trailing : (n : ℕ) (a : Mask) → lowest n a ≡ (if nat_eq (member_bits n a) 0 then None else Some (trailing n (member_bits n a)))
unfolding packed trailing
lowest_is_trailing zero a = refl
lowest_is_trailing (suc n) a = lowest_shift n a ∙ ap (λ o. if a 0 then Some 0 else one_up o) (lowest_is_trailing n (λ p. a (suc p))) ∙ by (a 0) (nat_eq (member_bits n (λ p. a (suc p))) 0) refl
  where
    by : (b d : Bool) → nat_eq (member_bits n (λ p. a (suc p))) 0 ≡ d
        → (if b then Some 0 else one_up (if nat_eq (member_bits n (λ p. a (suc p))) 0 then None else Some (trailing n (member_bits n (λ p. a (suc p))))))
        ≡ (if nat_eq (member_bits n (λ p. a (suc p)) * 2 + flag b) 0 then None else Some (if nat_eq ((member_bits n (λ p. a (suc p)) * 2 + flag b) % 2) 0 then suc (trailing n ((member_bits n (λ p. a (suc p)) * 2 + flag b) / 2)) else 0))
    by true d e =
        let q = member_bits n (λ p. a (suc p)) in
        sym (ap₂ (λ u v. if u then None else Some (if v then suc (trailing n ((q * 2 + 1) / 2)) else 0)) (ne_eqb (q * 2 + 1) 0 (λ z. omega arith)) (ap (λ z. nat_eq z 0) (mod-mul-add q 2 1 (lit≤ tt))))
    by false true e =
        let q = member_bits n (λ p. a (suc p)) in
        ap (λ u. one_up (if u then None else Some (trailing n q))) e
        ∙ sym (ap (λ u. if u then None else Some (if nat_eq ((q * 2 + 0) % 2) 0 then suc (trailing n ((q * 2 + 0) / 2)) else 0)) (eq-eqb (q * 2 + 0) 0 (let z : q ≡ 0 = eqb-true q 0 e in omega arith)))
    by false false e =
        let q = member_bits n (λ p. a (suc p)) in
        ap (λ u. one_up (if u then None else Some (trailing n q))) e
        ∙ sym (ap₂ (λ u v. if u then None else Some (if v then suc (trailing n ((q * 2 + 0) / 2)) else 0)) (ne_eqb (q * 2 + 0) 0 (λ z. eqb-false q 0 e (omega arith))) (ap (λ z. nat_eq z 0) (mod-mul-add q 2 0 (lit≤ tt)))
        ∙ ap (λ x. Some (suc (trailing n x))) (div-mul-add q 2 0 (lit≤ tt)))

-- past the last member
lowest_more : (g d : ℕ) (a : Mask) → ((p : ℕ) → a p ≡ true → p < g) → lowest (d + g) a ≡ lowest g a
lowest_more g zero a h = ap (λ n. lowest n a) (let e : zero + g ≡ g = omega arith in e)
lowest_more g (suc d) a h = ap (λ n. lowest n a) (let e : suc d + g ≡ suc (d + g) = omega arith in e) ∙ by (a (d + g)) refl ∙ lowest_more g d a h
  where
    keep : (o : Option ℕ) (n : ℕ) → or_this o false n ≡ o
    keep (Some p) n = refl
    keep None n = refl

    by : (b : Bool) → a (d + g) ≡ b → or_this (lowest (d + g) a) (a (d + g)) (d + g) ≡ lowest (d + g) a
    by true e = absurd (let lt = h (d + g) e in omega arith)
    by false e = ap (λ b. or_this (lowest (d + g) a) b (d + g)) e ∙ keep (lowest (d + g) a) (d + g)

top_is : (b : Bool) → flag (nat_le 128 (flags 8 b)) ≡ flag b
top_is true = refl
top_is false = refl

flag_below : (b : Bool) → flag b < 2
flag_below true = lit≤ tt
flag_below false = lit≤ tt

-- the two words of a mask
part_bits : (a : Mask) (v j : ℕ) → ((i : ℕ) → i < 16 → lane I8x16 i v ≡ flags 8 (a (j * 16 + i))) → packed 2 16 (λ i. flag (nat_le 128 (lane I8x16 i v))) ≡ packed 2 16 (λ i. flag (a (j * 16 + i)))
part_bits a v j h =
    packed-same 2 16 (λ i. flag (nat_le 128 (lane I8x16 i v))) (λ i. flag (a (j * 16 + i))) (λ i l. ap (λ x. flag (nat_le 128 x)) (h i l) ∙ top_is (a (j * 16 + i)))

pub both_parts : (a : Mask) (u v : ℕ) → ((i : ℕ) → i < 16 → lane I8x16 i u ≡ flags 8 (a (0 * 16 + i))) → ((i : ℕ) → i < 16 → lane I8x16 i v ≡ flags 8 (a (1 * 16 + i)))
    → (packed 2 16 (λ i. flag (nat_le 128 (lane I8x16 i u))) + (packed 2 16 (λ i. flag (nat_le 128 (lane I8x16 i v))) * (2 ^ 16 % 2 ^ 32)) % 2 ^ 32) % 2 ^ 32 ≡ member_bits 32 a
both_parts a u v h g =
    ap₂ (λ x y. (x + (y * 2 ^ 16) % 2 ^ 32) % 2 ^ 32) (part_bits a u 0 h ∙ packed-same 2 16 (λ i. flag (a (0 * 16 + i))) (λ i. flag (a i)) (λ i l. ap (λ p. flag (a p)) (let e : 0 * 16 + i ≡ i = omega arith in e)))
    (part_bits a v 1 g)
    ∙ small (packed 2 16 (λ i. flag (a i))) (packed 2 16 (λ i. flag (a (16 + i)))) (packed-below 2 16 (λ i. flag (a i)) (λ i l. flag_below (a i))) (packed-below 2 16 (λ i. flag (a (16 + i))) (λ i l. flag_below (a (16 + i))))
    ∙ sym (packed-join 2 16 16 (λ i. flag (a i)))
  where
    small : (x y : ℕ) → x < 2 ^ 16 → y < 2 ^ 16 → (x + (y * 2 ^ 16) % 2 ^ 32) % 2 ^ 32 ≡ y * 2 ^ 16 + x
    small x y p q = omega arith

pub low_or_zero : (g : ℕ) (a : Mask) → g ≤ 32 → ((p : ℕ) → a p ≡ true → p < g) → chosen (member_bits 32 a) (trailing 32 (member_bits 32 a)) 0 ≡ or_zero (lowest g a)
low_or_zero g a le h =
    by (nat_eq (member_bits 32 a) 0) ∙ ap or_zero (sym (lowest_is_trailing 32 a) ∙ ap (λ n. lowest n a) (let e : 32 ≡ 32 - g + g = omega arith in e) ∙ lowest_more g (32 - g) a h)
  where
    by : (b : Bool) → (if b then 0 else trailing 32 (member_bits 32 a)) ≡ or_zero (if b then None else Some (trailing 32 (member_bits 32 a)))
    by true = refl
    by false = refl

-- whether there is one
any_shift : (n : ℕ) (a : Mask) → any (suc n) a ≡ (a 0 || any n (λ p. a (suc p)))
any_shift zero a = by (a 0)
  where
    by : (b : Bool) → (false || b) ≡ (b || false)
    by true = refl
    by false = refl
any_shift (suc n) a = ap (λ b. b || a (suc n)) (any_shift n a) ∙ by (a 0) (any n (λ p. a (suc p))) (a (suc n))
  where
    by : (x y z : Bool) → ((x || y) || z) ≡ (x || (y || z))
    by true y z = refl
    by false y z = refl

any_bits : (n : ℕ) (a : Mask) → any n a ≡ not (nat_eq (member_bits n a) 0)
unfolding packed
any_bits zero a = refl
any_bits (suc n) a = any_shift n a ∙ ap (λ b. a 0 || b) (any_bits n (λ p. a (suc p))) ∙ by (a 0) (nat_eq (member_bits n (λ p. a (suc p))) 0) refl
  where
    by : (b d : Bool) → nat_eq (member_bits n (λ p. a (suc p))) 0 ≡ d → (b || not (nat_eq (member_bits n (λ p. a (suc p))) 0)) ≡ not (nat_eq (member_bits n (λ p. a (suc p)) * 2 + flag b) 0)
    by true d e = sym (ap not (ne_eqb (member_bits n (λ p. a (suc p)) * 2 + 1) 0 (λ z. omega arith)))
    by false true e = ap not e ∙ sym (ap not (eq-eqb (member_bits n (λ p. a (suc p)) * 2 + 0) 0 (let z : member_bits n (λ p. a (suc p)) ≡ 0 = eqb-true (member_bits n (λ p. a (suc p))) 0 e in omega arith)))
    by false false e = ap not e ∙ sym (ap not (ne_eqb (member_bits n (λ p. a (suc p)) * 2 + 0) 0 (λ z. eqb-false (member_bits n (λ p. a (suc p))) 0 e (omega arith))))

any_more : (g d : ℕ) (a : Mask) → ((p : ℕ) → a p ≡ true → p < g) → any (d + g) a ≡ any g a
any_more g zero a h = ap (λ n. any n a) (let e : zero + g ≡ g = omega arith in e)
any_more g (suc d) a h = ap (λ n. any n a) (let e : suc d + g ≡ suc (d + g) = omega arith in e) ∙ by (a (d + g)) refl ∙ any_more g d a h
  where
    or_false : (b : Bool) → (b || false) ≡ b
    or_false true = refl
    or_false false = refl

    by : (b : Bool) → a (d + g) ≡ b → (any (d + g) a || a (d + g)) ≡ any (d + g) a
    by true e = absurd (let lt = h (d + g) e in omega arith)
    by false e = ap (λ b. any (d + g) a || b) e ∙ or_false (any (d + g) a)

pub any_is : (g : ℕ) (a : Mask) → g ≤ 32 → ((p : ℕ) → a p ≡ true → p < g) → any g a ≡ not (nat_eq (member_bits 32 a) 0)
any_is g a le h = sym (any_more g (32 - g) a h) ∙ ap (λ n. any n a) (let e : 32 - g + g ≡ 32 = omega arith in e) ∙ any_bits 32 a

-- whether all are there
all_shift : (n : ℕ) (a : Mask) → all (suc n) a ≡ (a 0 && all n (λ p. a (suc p)))
all_shift zero a = by (a 0)
  where
    by : (b : Bool) → (true && b) ≡ (b && true)
    by true = refl
    by false = refl
all_shift (suc n) a = ap (λ b. b && a (suc n)) (all_shift n a) ∙ by (a 0) (all n (λ p. a (suc p))) (a (suc n))
  where
    by : (x y z : Bool) → ((x && y) && z) ≡ (x && (y && z))
    by true y z = refl
    by false y z = refl

all_bits : (n : ℕ) (a : Mask) → all n a ≡ nat_eq (member_bits n a) (2 ^ n - 1)
unfolding packed
all_bits zero a = refl
all_bits (suc n) a =
    all_shift n a ∙ ap (λ b. a 0 && b) (all_bits n (λ p. a (suc p))) ∙ by (a 0) (nat_eq (member_bits n (λ p. a (suc p))) (2 ^ n - 1)) refl (pow-suc 2 n) (pow_pos n)
  where
    by : (b d : Bool) → nat_eq (member_bits n (λ p. a (suc p))) (2 ^ n - 1) ≡ d → 2 ^ suc n ≡ 2 ^ n * 2 → 0 < 2 ^ n
        → (b && nat_eq (member_bits n (λ p. a (suc p))) (2 ^ n - 1)) ≡ nat_eq (member_bits n (λ p. a (suc p)) * 2 + flag b) (2 ^ suc n - 1)
    by false d e twice some = sym (ne_eqb (member_bits n (λ p. a (suc p)) * 2 + 0) (2 ^ suc n - 1) (λ z. omega arith))
    by true true e twice some =
        e ∙ sym (eq-eqb (member_bits n (λ p. a (suc p)) * 2 + 1) (2 ^ suc n - 1) (let z : member_bits n (λ p. a (suc p)) ≡ 2 ^ n - 1 = eqb-true (member_bits n (λ p. a (suc p))) (2 ^ n - 1) e in omega arith))
    by true false e twice some =
        e ∙ sym (ne_eqb (member_bits n (λ p. a (suc p)) * 2 + 1) (2 ^ suc n - 1) (λ z. eqb-false (member_bits n (λ p. a (suc p))) (2 ^ n - 1) e (omega arith)))

packed_nothing : (n : ℕ) → packed 2 n (λ k. 0) ≡ 0
unfolding packed
packed_nothing zero = refl
packed_nothing (suc n) = ap (λ x. x * 2 + 0) (packed_nothing n)

none_past : (g k : ℕ) (a : Mask) → ((p : ℕ) → a p ≡ true → p < g) → flag (a (g + k)) ≡ 0
none_past g k a h = by (a (g + k)) refl
  where
    by : (b : Bool) → a (g + k) ≡ b → flag b ≡ 0
    by true e = absurd (let lt = h (g + k) e in omega arith)
    by false e = refl

member_more : (g d : ℕ) (a : Mask) → ((p : ℕ) → a p ≡ true → p < g) → member_bits (g + d) a ≡ member_bits g a
member_more g d a h =
    packed-join 2 g d (λ k. flag (a k))
    ∙ ap (λ x. x * 2 ^ g + packed 2 g (λ k. flag (a k))) (packed-same 2 d (λ k. flag (a (g + k))) (λ k. 0) (λ k l. none_past g k a h) ∙ packed_nothing d)
    ∙ (let e : 0 * 2 ^ g + packed 2 g (λ k. flag (a k)) ≡ packed 2 g (λ k. flag (a k)) = omega arith in e)

pub all_is : (g : ℕ) (a : Mask) → g ≤ 32 → ((p : ℕ) → a p ≡ true → p < g) → all g a ≡ nat_eq (member_bits 32 a) (2 ^ g - 1)
all_is g a le h = all_bits g a ∙ ap (λ x. nat_eq x (2 ^ g - 1)) (sym (member_more g (32 - g) a h) ∙ ap (λ n. member_bits n a) (let e : g + (32 - g) ≡ 32 = omega arith in e))

-- ---- the lowest, as a number

pub record IsLowest (n : ℕ) (a : Mask) (q : ℕ) : Type 0 where
  pub is : lowest n a ≡ Some q
  pub low : q < n
  pub member : a q ≡ true
  pub before : (r : ℕ) → r < q → a r ≡ false

pub record IsNone (n : ℕ) (a : Mask) : Type 0 where
  pub is : lowest n a ≡ None
  pub off : (r : ℕ) → r < n → a r ≡ false

pub which_lowest : (n : ℕ) (a : Mask) → IsNone n a ⊎ ((q : ℕ) × IsLowest n a q)
which_lowest zero a = inl (record { is = refl; off = λ r l. absurd (omega arith) })
which_lowest (suc n) a = by (which_lowest n a) (a n) refl
  where
    by : IsNone n a ⊎ ((q : ℕ) × IsLowest n a q) → (b : Bool) → a n ≡ b → IsNone (suc n) a ⊎ ((q : ℕ) × IsLowest (suc n) a q)
    by (inl none) true e = inr (n, record { is = ap₂ (λ o b. or_this o b n) none.is e; low = omega arith; member = e; before = none.off })
    by (inl none) false e =
        inl
        (record {
          is = ap₂ (λ o b. or_this o b n) none.is e;
          off = λ r l. elim (cases_lt r n) [ inl lt ↦ none.off r lt | inr le ↦ subst (λ r. a r ≡ false) (let same : n ≡ r = omega arith in same) e ];
        })
    by (inr some) b e = let h = some.1 in inr (some.0, record { is = ap (λ o. or_this o (a n) n) h.is; low = let l = h.low in omega arith; member = h.member; before = h.before })
