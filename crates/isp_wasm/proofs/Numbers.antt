-- The numbers of places: two places have two, and the parameters get what is passed.
use Rattle.std.proofs.Common.{◌≡◌, ℕ, suc, ◌+◌, ◌*◌, ◌<◌, ◌≤◌, ◌⊎◌, inl, inr, List, [], ◌∷◌, refl, sym, ap, ap₂, ◌∙◌, eq-eqb, arith}
use Rattle.std.specs.Prelude.{nat_eq}
use Rattle.std.proofs.lemmas.Bool.{ne_eqb, cond-true, cond-false, cases_eq, cases_order}
use Rattle.std.proofs.lemmas.Nat.{mul-le}
use Rattle.std.proofs.Math.Nat.{mul-suc, suc-mul}
use Rattle.isp_wasm_meaning.specs.Syntax as wasm
use Rattle.isp_wasm.specs.Places.{Place, Counter, Scalar, Vector, Mask, Base, Count, Fresh, Spare, Depth, Top}
use Rattle.isp_wasm.specs.Locals.{paired, name_of, position, local_at}

square_up : (x y : ℕ) → x < y → x * x + x + x + 1 ≤ y * y
square_up x y h = let le : suc x * suc x ≤ y * y = mul-le (suc x) (suc x) y y h h in let e : suc x * suc x ≡ x * x + x + x + 1 = rw (mul-suc, suc-mul) (omega arith) in omega (arith, e)

paired_apart : (r j r1 j1 : ℕ) → paired r j ≡ paired r1 j1 → (r ≡ r1) × (j ≡ j1)
paired_apart r j r1 j1 e = by (cases_order (r + j) (r1 + j1))
  where
    by : ((r + j) ≡ (r1 + j1)) ⊎ (((r + j) < (r1 + j1)) ⊎ ((r1 + j1) < (r + j))) → (r ≡ r1) × (j ≡ j1)
    by (inl same) = let sq : (r + j) * (r + j) ≡ (r1 + j1) * (r1 + j1) = ap (λ x. x * x) same in (omega (arith, e, sq), omega (arith, e, sq))
    by (inr (inl lt)) = absurd (let up = square_up (r + j) (r1 + j1) lt in omega (arith, e, up))
    by (inr (inr lt)) = absurd (let up = square_up (r1 + j1) (r + j) lt in omega (arith, e, up))

pub name_apart : (x y : Place) → name_of x ≡ name_of y → x ≡ y
name_apart Counter Counter e = refl
name_apart Counter (Scalar r1) e = absurd (omega (arith, e))
name_apart Counter (Vector r1 j1) e = absurd (omega (arith, e))
name_apart Counter (Mask r1 j1) e = absurd (omega (arith, e))
name_apart Counter (Base r1) e = absurd (omega (arith, e))
name_apart Counter (Count r1) e = absurd (omega (arith, e))
name_apart Counter (Fresh j1) e = absurd (omega (arith, e))
name_apart Counter (Spare wasm.I32 j1) e = absurd (omega (arith, e))
name_apart Counter (Spare wasm.I64 j1) e = absurd (omega (arith, e))
name_apart (Scalar r) Counter e = absurd (omega (arith, e))
name_apart (Scalar r) (Scalar r1) e = ap Scalar (omega (arith, e))
name_apart (Scalar r) (Vector r1 j1) e = absurd (omega (arith, e))
name_apart (Scalar r) (Mask r1 j1) e = absurd (omega (arith, e))
name_apart (Scalar r) (Base r1) e = absurd (omega (arith, e))
name_apart (Scalar r) (Count r1) e = absurd (omega (arith, e))
name_apart (Scalar r) (Fresh j1) e = absurd (omega (arith, e))
name_apart (Scalar r) (Spare wasm.I32 j1) e = absurd (omega (arith, e))
name_apart (Scalar r) (Spare wasm.I64 j1) e = absurd (omega (arith, e))
name_apart (Vector r j) Counter e = absurd (omega (arith, e))
name_apart (Vector r j) (Scalar r1) e = absurd (omega (arith, e))
name_apart (Vector r j) (Vector r1 j1) e = let p = paired_apart r j r1 j1 (omega (arith, e)) in ap₂ Vector p.0 p.1
name_apart (Vector r j) (Mask r1 j1) e = absurd (omega (arith, e))
name_apart (Vector r j) (Base r1) e = absurd (omega (arith, e))
name_apart (Vector r j) (Count r1) e = absurd (omega (arith, e))
name_apart (Vector r j) (Fresh j1) e = absurd (omega (arith, e))
name_apart (Vector r j) (Spare wasm.I32 j1) e = absurd (omega (arith, e))
name_apart (Vector r j) (Spare wasm.I64 j1) e = absurd (omega (arith, e))
name_apart (Mask r j) Counter e = absurd (omega (arith, e))
name_apart (Mask r j) (Scalar r1) e = absurd (omega (arith, e))
name_apart (Mask r j) (Vector r1 j1) e = absurd (omega (arith, e))
name_apart (Mask r j) (Mask r1 j1) e = let p = paired_apart r j r1 j1 (omega (arith, e)) in ap₂ Mask p.0 p.1
name_apart (Mask r j) (Base r1) e = absurd (omega (arith, e))
name_apart (Mask r j) (Count r1) e = absurd (omega (arith, e))
name_apart (Mask r j) (Fresh j1) e = absurd (omega (arith, e))
name_apart (Mask r j) (Spare wasm.I32 j1) e = absurd (omega (arith, e))
name_apart (Mask r j) (Spare wasm.I64 j1) e = absurd (omega (arith, e))
name_apart (Base r) Counter e = absurd (omega (arith, e))
name_apart (Base r) (Scalar r1) e = absurd (omega (arith, e))
name_apart (Base r) (Vector r1 j1) e = absurd (omega (arith, e))
name_apart (Base r) (Mask r1 j1) e = absurd (omega (arith, e))
name_apart (Base r) (Base r1) e = ap Base (omega (arith, e))
name_apart (Base r) (Count r1) e = absurd (omega (arith, e))
name_apart (Base r) (Fresh j1) e = absurd (omega (arith, e))
name_apart (Base r) (Spare wasm.I32 j1) e = absurd (omega (arith, e))
name_apart (Base r) (Spare wasm.I64 j1) e = absurd (omega (arith, e))
name_apart (Count r) Counter e = absurd (omega (arith, e))
name_apart (Count r) (Scalar r1) e = absurd (omega (arith, e))
name_apart (Count r) (Vector r1 j1) e = absurd (omega (arith, e))
name_apart (Count r) (Mask r1 j1) e = absurd (omega (arith, e))
name_apart (Count r) (Base r1) e = absurd (omega (arith, e))
name_apart (Count r) (Count r1) e = ap Count (omega (arith, e))
name_apart (Count r) (Fresh j1) e = absurd (omega (arith, e))
name_apart (Count r) (Spare wasm.I32 j1) e = absurd (omega (arith, e))
name_apart (Count r) (Spare wasm.I64 j1) e = absurd (omega (arith, e))
name_apart (Fresh j) Counter e = absurd (omega (arith, e))
name_apart (Fresh j) (Scalar r1) e = absurd (omega (arith, e))
name_apart (Fresh j) (Vector r1 j1) e = absurd (omega (arith, e))
name_apart (Fresh j) (Mask r1 j1) e = absurd (omega (arith, e))
name_apart (Fresh j) (Base r1) e = absurd (omega (arith, e))
name_apart (Fresh j) (Count r1) e = absurd (omega (arith, e))
name_apart (Fresh j) (Fresh j1) e = ap Fresh (omega (arith, e))
name_apart (Fresh j) (Spare wasm.I32 j1) e = absurd (omega (arith, e))
name_apart (Fresh j) (Spare wasm.I64 j1) e = absurd (omega (arith, e))
name_apart (Spare wasm.I32 j) Counter e = absurd (omega (arith, e))
name_apart (Spare wasm.I32 j) (Scalar r1) e = absurd (omega (arith, e))
name_apart (Spare wasm.I32 j) (Vector r1 j1) e = absurd (omega (arith, e))
name_apart (Spare wasm.I32 j) (Mask r1 j1) e = absurd (omega (arith, e))
name_apart (Spare wasm.I32 j) (Base r1) e = absurd (omega (arith, e))
name_apart (Spare wasm.I32 j) (Count r1) e = absurd (omega (arith, e))
name_apart (Spare wasm.I32 j) (Fresh j1) e = absurd (omega (arith, e))
name_apart (Spare wasm.I32 j) (Spare wasm.I32 j1) e = ap (Spare wasm.I32) (omega (arith, e))
name_apart (Spare wasm.I32 j) (Spare wasm.I64 j1) e = absurd (omega (arith, e))
name_apart (Spare wasm.I64 j) Counter e = absurd (omega (arith, e))
name_apart (Spare wasm.I64 j) (Scalar r1) e = absurd (omega (arith, e))
name_apart (Spare wasm.I64 j) (Vector r1 j1) e = absurd (omega (arith, e))
name_apart (Spare wasm.I64 j) (Mask r1 j1) e = absurd (omega (arith, e))
name_apart (Spare wasm.I64 j) (Base r1) e = absurd (omega (arith, e))
name_apart (Spare wasm.I64 j) (Count r1) e = absurd (omega (arith, e))
name_apart (Spare wasm.I64 j) (Fresh j1) e = absurd (omega (arith, e))
name_apart (Spare wasm.I64 j) (Spare wasm.I32 j1) e = absurd (omega (arith, e))
name_apart (Spare wasm.I64 j) (Spare wasm.I64 j1) e = ap (Spare wasm.I64) (omega (arith, e))
name_apart Counter Depth e = absurd (omega (arith, e))
name_apart (Scalar r) Depth e = absurd (omega (arith, e))
name_apart (Vector r j) Depth e = absurd (omega (arith, e))
name_apart (Mask r j) Depth e = absurd (omega (arith, e))
name_apart (Base r) Depth e = absurd (omega (arith, e))
name_apart (Count r) Depth e = absurd (omega (arith, e))
name_apart (Fresh j) Depth e = absurd (omega (arith, e))
name_apart (Spare wasm.I32 j) Depth e = absurd (omega (arith, e))
name_apart (Spare wasm.I64 j) Depth e = absurd (omega (arith, e))
name_apart Depth Counter e = absurd (omega (arith, e))
name_apart Depth (Scalar r) e = absurd (omega (arith, e))
name_apart Depth (Vector r j) e = absurd (omega (arith, e))
name_apart Depth (Mask r j) e = absurd (omega (arith, e))
name_apart Depth (Base r) e = absurd (omega (arith, e))
name_apart Depth (Count r) e = absurd (omega (arith, e))
name_apart Depth (Fresh j) e = absurd (omega (arith, e))
name_apart Depth (Spare wasm.I32 j) e = absurd (omega (arith, e))
name_apart Depth (Spare wasm.I64 j) e = absurd (omega (arith, e))
name_apart Depth Depth e = refl
name_apart Counter Top e = absurd (omega (arith, e))
name_apart (Scalar r) Top e = absurd (omega (arith, e))
name_apart (Vector r j) Top e = absurd (omega (arith, e))
name_apart (Mask r j) Top e = absurd (omega (arith, e))
name_apart (Base r) Top e = absurd (omega (arith, e))
name_apart (Count r) Top e = absurd (omega (arith, e))
name_apart (Fresh j) Top e = absurd (omega (arith, e))
name_apart (Spare wasm.I32 j) Top e = absurd (omega (arith, e))
name_apart (Spare wasm.I64 j) Top e = absurd (omega (arith, e))
name_apart Depth Top e = absurd (omega (arith, e))
name_apart Top Counter e = absurd (omega (arith, e))
name_apart Top (Scalar r) e = absurd (omega (arith, e))
name_apart Top (Vector r j) e = absurd (omega (arith, e))
name_apart Top (Mask r j) e = absurd (omega (arith, e))
name_apart Top (Base r) e = absurd (omega (arith, e))
name_apart Top (Count r) e = absurd (omega (arith, e))
name_apart Top (Fresh j) e = absurd (omega (arith, e))
name_apart Top (Spare wasm.I32 j) e = absurd (omega (arith, e))
name_apart Top (Spare wasm.I64 j) e = absurd (omega (arith, e))
name_apart Top Depth e = absurd (omega (arith, e))
name_apart Top Top e = refl

-- ---- positions

pub here : (x : ℕ) (l : List ℕ) → position (x ∷ l) x ≡ 0
here x l = cond-true (nat_eq x x) 0 (suc (position l x)) (eq-eqb x x refl)

pub further : (y x : ℕ) (l : List ℕ) → (y ≡ x → ⊥) → position (y ∷ l) x ≡ suc (position l x)
further y x l ne = cond-false (nat_eq y x) 0 (suc (position l x)) (ne_eqb y x ne)

position_apart : (l : List ℕ) (x y : ℕ) → position l x ≡ position l y → x ≡ y
position_apart [] x y e = e
position_apart (z ∷ l) x y e = by (cases_eq z x) (cases_eq z y) (position_apart l x y)
  where
    by : (z ≡ x) ⊎ (z ≡ x → ⊥) → (z ≡ y) ⊎ (z ≡ y → ⊥) → (position l x ≡ position l y → x ≡ y) → x ≡ y
    by (inl a) (inl b) more = sym a ∙ b
    by (inl a) (inr b) more = absurd (let no : 0 ≡ suc (position l y) = sym (cond-true (nat_eq z x) 0 (suc (position l x)) (eq-eqb z x a)) ∙ e ∙ further z y l b in omega (arith, no))
    by (inr a) (inl b) more = absurd (let no : suc (position l x) ≡ 0 = sym (further z x l a) ∙ e ∙ cond-true (nat_eq z y) 0 (suc (position l y)) (eq-eqb z y b) in omega (arith, no))
    by (inr a) (inr b) more = more (let same : suc (position l x) ≡ suc (position l y) = sym (further z x l a) ∙ e ∙ further z y l b in omega (arith, same))

pub place_apart : (qs : List Place) (p q : Place) → local_at qs p ≡ local_at qs q → p ≡ q
place_apart qs p q e = name_apart p q (position_apart _ (name_of p) (name_of q) e)
