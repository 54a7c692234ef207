-- Parts of lists that stay, and where they stand.
use Rattle.std.proofs.Common.{◌≡◌, ℕ, zero, suc, ◌+◌, ◌<◌, List, [], ◌∷◌, ◌++◌, length, refl, sym, ap, ◌∙◌, arith, length-append}
use Rattle.std.specs.Prelude.{slice_get, slice_set}
use Rattle.isp_code.specs.declared.instr.Instr.{Instr}
use Rattle.isp_lower_code.specs.Patched.{instr_at, patched, retargeted}
use Rattle.isp_lower_code.specs.Setting.{AreAt}
use Rattle.isp_emitter_laws.specs.Parts.{SamePart, PartsStay, PatchedStays}

-- ---- parts that stay

front_same : {A : Type 0} (xs more : List A) (i : ℕ) → i < length xs → slice_get (xs ++ more) i ≡ slice_get xs i
front_same [] more i lt = absurd (omega (arith, lt))
front_same (x ∷ xs) more zero lt = refl
front_same (x ∷ xs) more (suc i) lt = front_same xs more i (omega (arith, lt))

other_same : {A : Type 0} (xs : List A) (at : ℕ) (y : A) (i : ℕ) → (i ≡ at → ⊥) → slice_get (slice_set xs at y) i ≡ slice_get xs i
other_same [] at y i ne = refl
other_same (x ∷ xs) zero y zero ne = absurd (ne refl)
other_same (x ∷ xs) zero y (suc i) ne = refl
other_same (x ∷ xs) (suc at) y zero ne = refl
other_same (x ∷ xs) (suc at) y (suc i) ne = other_same xs at y i (λ e. ne (ap suc e))

patched_same : (code : List Instr) (at to i : ℕ) → (i ≡ at → ⊥) → slice_get (patched code at to) i ≡ slice_get code i
patched_same code at to i ne = other_same code at (retargeted (instr_at code at) to) i ne

pub parts_stay : {A : Type 0} → PartsStay A
parts_stay =
    record { grown = λ n m xs more le i from lt. front_same xs more i (omega (arith, lt, le)); on = λ n m xs ys zs f g i from lt. g i from lt ∙ f i from lt }

pub patched_stays : PatchedStays
patched_stays =
    record {
      before = λ n m at to code below i from lt. patched_same code at to i (λ e. omega (arith, e, below, from));
      behind = λ n m at to code above i from lt. patched_same code at to i (λ e. omega (arith, e, above, lt));
    }

-- ---- what is appended stands after what was there

back_same : {A : Type 0} (xs ys : List A) (i : ℕ) → slice_get (xs ++ ys) (length xs + i) ≡ slice_get ys i
back_same [] ys i = let e : 0 + i ≡ i = omega arith in ap (slice_get ys) e
back_same (x ∷ xs) ys i =
    let e : length (x ∷ xs) + i ≡ suc (length xs + i) = omega arith in ap (slice_get (x ∷ (xs ++ ys))) e ∙ back_same xs ys i

are_at : {A : Type 0} (xs : List A) (n : ℕ) (ys : List A) → ((i : ℕ) → i < length ys → slice_get xs (n + i) ≡ slice_get ys i) → AreAt xs n ys
are_at xs n [] f = tt
are_at xs n (y ∷ ys) f =
    let here : n ≡ n + 0 = omega arith in
    (ap (slice_get xs) here ∙ f 0 (omega arith), are_at xs (n + 1) ys (λ i lt. let e : n + 1 + i ≡ n + suc i = omega arith in ap (slice_get xs) e ∙ f (suc i) (omega (arith, lt))))

pub appended_at : {A : Type 0} (old new more all : List A) → new ≡ old ++ more → SamePart (length old) (length new) new all → AreAt all (length old) more
appended_at old new more all is same =
    are_at all (length old) more (λ i lt. same (length old + i) (omega arith) (omega (arith, ap length is, length-append old more, lt)) ∙ ap (λ xs. slice_get xs (length old + i)) is ∙ back_same old more i)

pub appended_end : {A : Type 0} (old new more : List A) → new ≡ old ++ more → length old + length more ≡ length new
appended_end old new more is = sym (ap length is ∙ length-append old more)
