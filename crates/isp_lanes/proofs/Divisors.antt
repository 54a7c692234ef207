-- Divisors with 1 in the lanes that are off.
use Rattle.std.proofs.Common.{◌≡◌, ◌∙◌, refl, ap, ℕ, zero, suc, ◌+◌, ◌<◌, ◌≤◌, Bool, true, false, cond, not, ◌&&◌, ◌==◌, nat_lt, arith, List, [], ◌∷◌, length, get_or, replicate, Some, None, ltb-false, ne_eqb, subst}
use Rattle.std.proofs.lemmas.List.{length-replicate}
use Rattle.std.specs.List.{position, position_or_len}
use Rattle.std.specs.Simd.Lanes.{zip2, sel_l}
use Rattle.isp_base.specs.declared.operators.BinOp.{BinOp}
use Rattle.isp_base.specs.Values.{divides}
use Rattle.isp_lanes.specs.Lanes.{first_zero}

-- the divisors with 1 in each lane that is off
abbrev pub stand_in : BinOp → List Bool → List ℕ → List ℕ
stand_in op mask divisors = cond (divides op) (sel_l mask divisors (replicate (length divisors) 1)) divisors

pub sel_fits : (m : ℕ) → 0 < m → (ms : List Bool) (us vs : List ℕ) → ((k : ℕ) → get_or us k 0 < m) → ((k : ℕ) → get_or vs k 0 < m) → (k : ℕ) → get_or (sel_l ms us vs) k 0 < m
sel_fits m h [] us vs p q k = h
sel_fits m h (b ∷ bs) [] vs p q k = h
sel_fits m h (b ∷ bs) (u ∷ us) [] p q k = h
sel_fits m h (true ∷ bs) (u ∷ us) (v ∷ vs) p q zero = p 0
sel_fits m h (false ∷ bs) (u ∷ us) (v ∷ vs) p q zero = q 0
sel_fits m h (b ∷ bs) (u ∷ us) (v ∷ vs) p q (suc k) = sel_fits m h bs us vs (λ j. p (suc j)) (λ j. q (suc j)) k

ones : (m : ℕ) → 1 < m → (n k : ℕ) → get_or (replicate n 1) k 0 < m
ones m h zero k = omega arith
ones m h (suc n) zero = h
ones m h (suc n) (suc k) = ones m h n k

pub stand_in_fits : (op : BinOp) (m : ℕ) → 1 < m → (ms : List Bool) (ys : List ℕ) → ((k : ℕ) → get_or ys k 0 < m) → (k : ℕ) → get_or (stand_in op ms ys) k 0 < m
stand_in_fits op m h ms ys p k = by (divides op)
  where
    by : (d : Bool) → get_or (cond d (sel_l ms ys (replicate (length ys) 1)) ys) k 0 < m
    by true = sel_fits m (omega arith) ms ys (replicate (length ys) 1) p (ones m h (length ys)) k
    by false = p k

nonzero : (ms : List Bool) (ys : List ℕ) → length (zip2 (λ m b. m && b == 0) ms ys) ≤ position_or_len (λ z. z) (zip2 (λ m b. m && b == 0) ms ys)
    → (k : ℕ) → k < length (sel_l ms ys (replicate (length ys) 1)) → 0 < get_or (sel_l ms ys (replicate (length ys) 1)) k 0
nonzero [] ys h k l = absurd (omega arith)
nonzero (b ∷ bs) [] h k l = absurd (omega arith)
nonzero (true ∷ bs) (zero ∷ ys) h k l = absurd (omega arith)
nonzero (true ∷ bs) (suc y ∷ ys) h zero l = omega arith
nonzero (true ∷ bs) (suc y ∷ ys) h (suc k) l =
    let e : (suc y == 0) ≡ false = ne_eqb (suc y) 0 (omega arith) in
    let r : suc (length (zip2 (λ m b. m && b == 0) bs ys)) ≤ 1 + position_or_len (λ z. z) (zip2 (λ m b. m && b == 0) bs ys)
    = subst (λ (t : Bool). suc (length (zip2 (λ m b. m && b == 0) bs ys)) ≤ cond (not t) (1 + position_or_len (λ z. z) (zip2 (λ m b. m && b == 0) bs ys)) 0) e h in
    nonzero bs ys (omega arith) k (omega arith)
nonzero (false ∷ bs) (y ∷ ys) h zero l = omega arith
nonzero (false ∷ bs) (y ∷ ys) h (suc k) l =
    let r : suc (length (zip2 (λ m b. m && b == 0) bs ys)) ≤ 1 + position_or_len (λ z. z) (zip2 (λ m b. m && b == 0) bs ys) = h in
    nonzero bs ys (omega arith) k (omega arith)

none_at : (m n : ℕ) → cond (nat_lt m n) (Some m) None ≡ None → n ≤ m
none_at m n e = by (nat_lt m n) refl e
  where
    by : (t : Bool) → nat_lt m n ≡ t → cond t (Some m) None ≡ None → n ≤ m
    by true d e = absurd (cc)
    by false d e = ltb-false m n d

pub stand_in_nonzero : (op : BinOp) (ms : List Bool) (ys : List ℕ) → first_zero op ms ys ≡ None → divides op ≡ true → (k : ℕ) → k < length (stand_in op ms ys) → 0 < get_or (stand_in op ms ys) k 0
stand_in_nonzero op ms ys e d k l = by (divides op) e d l
  where
    by : (t : Bool) → cond t (position (λ z. z) (zip2 (λ m b. m && b == 0) ms ys)) None ≡ None → t ≡ true → k < length (cond t (sel_l ms ys (replicate (length ys) 1)) ys) → 0 < get_or (cond t (sel_l ms ys (replicate (length ys) 1)) ys) k 0
    by true e d l = nonzero ms ys (none_at _ _ e) k l
    by false e d l = absurd (cc)

same : (f : ℕ → ℕ → ℕ) (ms : List Bool) (xs ys vs : List ℕ) → sel_l ms (zip2 f xs (sel_l ms ys (replicate (length ys) 1))) vs ≡ sel_l ms (zip2 f xs ys) vs
same f [] xs ys vs = refl
same f (b ∷ bs) [] ys vs = refl
same f (b ∷ bs) (x ∷ xs) [] vs = refl
same f (b ∷ bs) (x ∷ xs) (y ∷ ys) [] = refl
same f (true ∷ bs) (x ∷ xs) (y ∷ ys) (v ∷ vs) = ap (λ t. f x y ∷ t) (same f bs xs ys vs)
same f (false ∷ bs) (x ∷ xs) (y ∷ ys) (v ∷ vs) = ap (λ t. v ∷ t) (same f bs xs ys vs)

pub stand_in_same : (op : BinOp) (f : ℕ → ℕ → ℕ) (ms : List Bool) (xs ys vs : List ℕ) → sel_l ms (zip2 f xs (stand_in op ms ys)) vs ≡ sel_l ms (zip2 f xs ys) vs
stand_in_same op f ms xs ys vs = by (divides op)
  where
    by : (d : Bool) → sel_l ms (zip2 f xs (cond d (sel_l ms ys (replicate (length ys) 1)) ys)) vs ≡ sel_l ms (zip2 f xs ys) vs
    by true = same f ms xs ys vs
    by false = refl

pub length_sel : (n : ℕ) (ms : List Bool) (us vs : List ℕ) → length ms ≡ n → length us ≡ n → length vs ≡ n → length (sel_l ms us vs) ≡ n
length_sel n [] us vs p q r = p
length_sel n (b ∷ bs) [] vs p q r = q
length_sel n (b ∷ bs) (u ∷ us) [] p q r = r
length_sel zero (b ∷ bs) (u ∷ us) (v ∷ vs) p q r = absurd (omega arith)
length_sel (suc n) (b ∷ bs) (u ∷ us) (v ∷ vs) p q r = let rest = length_sel n bs us vs (omega arith) (omega arith) (omega arith) in omega arith

pub stand_in_length : (op : BinOp) (n : ℕ) (ms : List Bool) (ys : List ℕ) → length ms ≡ n → length ys ≡ n → length (stand_in op ms ys) ≡ n
stand_in_length op n ms ys p q = by (divides op)
  where
    by : (d : Bool) → length (cond d (sel_l ms ys (replicate (length ys) 1)) ys) ≡ n
    by true = length_sel n ms ys (replicate (length ys) 1) p q (length-replicate (length ys) 1 ∙ q)
    by false = q
