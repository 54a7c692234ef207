-- Cells that are read, written, and written back.
use Rattle.std.proofs.Common.{◌≡◌, refl, sym, ap, ◌∙◌, subst, ℕ, zero, suc, ◌+◌, ◌<◌, ◌≤◌, replicate, Bool, true, false, None, List, [], ◌∷◌, length, get_or, arith, add-one, Result, Ok, Err}
use Rattle.std.specs.Prelude.{slice_set, if◌then◌else◌, IfOk}
use Rattle.std.specs.List.{range_with_len}
use Rattle.std.specs.Simd.Lanes.{zip2, sel_l}
use Rattle.std.proofs.Math.Path.{fun_ext}
use Rattle.isp_base.specs.Access.{is_outside}
use Rattle.isp_base.specs.Maps.{Lanes, lane_of, on, lowest_failing, over, each1, or_old}
use Rattle.isp_base.specs.Rows.{Fit}
use Rattle.isp_base.specs.Sets.{Mask, flag_of}
use Rattle.isp_base.specs.declared.types.Elem.TheVariants.{I64}
use Rattle.isp_cells.specs.Cells.{found, left, stored}
use Rattle.isp_cells.proofs.Inside.{IsInside}
use Rattle.isp_cells.proofs.Lanes.{lane_on, lane_off}
use Rattle.isp_lanes.proofs.Failing.{none_fails}
use Rattle.isp_lanes.proofs.Gathered.{row_long, lane_found}
use Rattle.isp_cells.proofs.Indices.{inside_is, on_there}

pub found_at : {A : Type 0} (find : A → ℕ → ℕ) (cs : List A) (e p : ℕ) (d : A) → e < length cs → found find cs e p ≡ find (get_or cs e d) p
found_at find [] e p d h = absurd (omega (arith, h))
found_at find (c ∷ cs) zero p d h = refl
found_at find (c ∷ cs) (suc e) p d h = found_at find cs e p d (omega (arith, h))

-- nothing is found past the end
pub found_past : {A : Type 0} (find : A → ℕ → ℕ) (cs : List A) (e p : ℕ) → length cs ≤ e → found find cs e p ≡ 0
found_past find [] e p past = refl
found_past find (c ∷ cs) zero p past = absurd (omega (arith, past))
found_past find (c ∷ cs) (suc e) p past = found_past find cs e p (omega (arith, past))

pub below_inside : (n : ℕ) (m : List Bool) (bits : List ℕ) → Fit I64 bits → (k : ℕ) → lowest_failing k (is_outside I64 n) (on (flag_of m) (lane_of bits)) ≡ None → (p : ℕ) → p < k → flag_of m p ≡ true → IsInside n (lane_of bits p)
below_inside n m bits fits k none p h is = inside_is n (lane_of bits p) (fits p) (none_fails (is_outside I64 n) (flag_of m) (lane_of bits) k none p h is)

module _ {A : Type 0} (with : A → ℕ → ℕ → A) where
  pub length_left : (b : Bool) (e p v : ℕ) (cs : List A) → length (left with b e p v cs) ≡ length cs
  length_left b e p v [] = refl
  length_left false e p v (c ∷ cs) = refl
  length_left true zero p v (c ∷ cs) = refl
  length_left true (suc e) p v (c ∷ cs) = ap suc (length_left true e p v cs)

  pub left_off : (e p v : ℕ) (cs : List A) → left with false e p v cs ≡ cs
  left_off e p v [] = refl
  left_off e p v (c ∷ cs) = refl

  pub left_set : (cs : List A) (e p v : ℕ) (d new : A) → e < length cs → new ≡ with (get_or cs e d) p v → slice_set cs e new ≡ left with true e p v cs
  left_set [] e p v d new h is = absurd (omega (arith, h))
  left_set (c ∷ cs) zero p v d new h is = ap (λ k. k ∷ cs) is
  left_set (c ∷ cs) (suc e) p v d new h is = ap (λ ks. c ∷ ks) (left_set cs e p v d new (omega (arith, h)) is)

  module _ (a : Mask) (x : Lanes) where
    pub length_stored : (n : ℕ) (y : Lanes) (cs : List A) → length (stored with n a x y cs) ≡ length cs
    length_stored zero y cs = refl
    length_stored (suc n) y cs = length_left (a n) (x n) n (y n) (stored with n a x y cs) ∙ length_stored n y cs

    pub stored_on : (n : ℕ) (y : Lanes) (cs : List A) → a n ≡ true → stored with (n + 1) a x y cs ≡ left with true (x n) n (y n) (stored with n a x y cs)
    stored_on n y cs e = ap (λ k. stored with k a x y cs) (add-one n) ∙ ap (λ b. left with b (x n) n (y n) (stored with n a x y cs)) e

    pub stored_off : (n : ℕ) (y : Lanes) (cs : List A) → a n ≡ false → stored with (n + 1) a x y cs ≡ stored with n a x y cs
    stored_off n y cs e = ap (λ k. stored with k a x y cs) (add-one n) ∙ ap (λ b. left with b (x n) n (y n) (stored with n a x y cs)) e ∙ left_off (x n) n (y n) (stored with n a x y cs)

-- the words that lanes have found, up to now
pub zero_found : (n p : ℕ) → get_or {A = ℕ} (replicate n 0) p 0 ≡ 0
zero_found zero p = refl
zero_found (suc n) zero = refl
zero_found (suc n) (suc p) = zero_found n p

pub zero_lanes : (n : ℕ) → lane_of (replicate n 0) ≡ (λ p. 0)
zero_lanes n = fun_ext (zero_found n)

pub below_set : (w : ℕ) (xs : List ℕ) (i v : ℕ) → ((p : ℕ) → get_or xs p 0 < w) → v < w → (p : ℕ) → get_or (slice_set xs i v) p 0 < w
below_set w [] i v f lt p = f p
below_set w (x ∷ xs) zero v f lt zero = lt
below_set w (x ∷ xs) zero v f lt (suc p) = f (suc p)
below_set w (x ∷ xs) (suc i) v f lt zero = f 0
below_set w (x ∷ xs) (suc i) v f lt (suc p) = below_set w xs i v (λ j. f (suc j)) lt p

pub length_zeros : (n : ℕ) → length {A = ℕ} (replicate n 0) ≡ n
length_zeros zero = refl
length_zeros (suc n) = ap suc (length_zeros n)

-- the lanes of a mask, and the others
pub sel_at : (n : ℕ) (ms : List Bool) (xs ys : List ℕ) (p : ℕ) → length ms ≡ n → length xs ≡ n → length ys ≡ n → lane_of (sel_l ms xs ys) p ≡ (if flag_of ms p then lane_of xs p else lane_of ys p)
sel_at zero [] [] [] p a b c = refl
sel_at zero [] [] (y ∷ ys) p a b c = absurd (omega (arith, c))
sel_at zero [] (x ∷ xs) ys p a b c = absurd (omega (arith, b))
sel_at zero (m ∷ ms) xs ys p a b c = absurd (omega (arith, a))
sel_at (suc n) [] xs ys p a b c = absurd (omega (arith, a))
sel_at (suc n) (m ∷ ms) [] ys p a b c = absurd (omega (arith, b))
sel_at (suc n) (m ∷ ms) (x ∷ xs) [] p a b c = absurd (omega (arith, c))
sel_at (suc n) (true ∷ ms) (x ∷ xs) (y ∷ ys) zero a b c = refl
sel_at (suc n) (false ∷ ms) (x ∷ xs) (y ∷ ys) zero a b c = refl
sel_at (suc n) (m ∷ ms) (x ∷ xs) (y ∷ ys) (suc p) a b c = sel_at n ms xs ys p (omega (arith, a)) (omega (arith, b)) (omega (arith, c))

-- words found in the lanes of a mask, over the old ones
pub over_found : (n : ℕ) (ms : List Bool) (word : ℕ → ℕ → ℕ) (xs olds : List ℕ) → length ms ≡ n → length xs ≡ n → length olds ≡ n
    → lane_of (sel_l ms (zip2 word (range_with_len 0 n) xs) olds) ≡ over (λ p. each1 (word p) (on (flag_of ms) (lane_of xs) p)) (lane_of olds)
over_found n ms word xs olds few long old = fun_ext (λ p. sel_at n ms (zip2 word (range_with_len 0 n) xs) olds p few (row_long word n xs long) old ∙ by p (flag_of ms p) refl)
  where
    by : (p : ℕ) (b : Bool) → flag_of ms p ≡ b → (if flag_of ms p then lane_of (zip2 word (range_with_len 0 n) xs) p else lane_of olds p) ≡ or_old (each1 (word p) (on (flag_of ms) (lane_of xs) p)) (lane_of olds p)
    by p true e = ap (λ t. if t then lane_of (zip2 word (range_with_len 0 n) xs) p else lane_of olds p) e ∙ lane_found word n p xs long (on_there ms n p few e) ∙ sym (lane_on (word p) (flag_of ms) (lane_of xs) (lane_of olds p) p e)
    by p false e = ap (λ t. if t then lane_of (zip2 word (range_with_len 0 n) xs) p else lane_of olds p) e ∙ sym (lane_off (word p) (flag_of ms) (lane_of xs) (lane_of olds p) p e)

-- two facts of one result
pub both_ok : {A E P Q G : Type 0} (r : Result A E) → IfOk r (λ _. P) → IfOk r (λ _. Q) → (P → Q → G) → IfOk r (λ _. G)
both_ok (Ok x) p q f = f p q
both_ok (Err x) p q f = p

-- one fact from another, where two results are the same
pub from_ok : {A E P Q : Type 0} (r s : Result A E) → s ≡ r → (P → Q) → IfOk r (λ _. P) → IfOk s (λ _. Q)
from_ok {A = A} {E = E} {P = P} {Q = Q} r s e f p = subst (λ z. IfOk z (λ _. Q)) (sym e) (by r p)
  where
    by : (z : Result A E) → IfOk z (λ _. P) → IfOk z (λ _. Q)
    by (Ok x) h = f h
    by (Err x) h = h

pub along : {A B : Type 0} → A ≡ B → A → B
along e x = subst (λ (T : Type 0). T) e x
