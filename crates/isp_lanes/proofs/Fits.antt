-- What the kernels answer fits the element type.
use Rattle.std.proofs.Common.{◌≡◌, sym, ℕ, zero, suc, ◌+◌, ◌^◌, ◌<◌, ◌≤◌, Bool, true, false, cond, arith, lit≤, List, [], ◌∷◌, map, get_or, length, ap, ◌∙◌, pow_pos, subst}
use Rattle.std.specs.List.{range_with_len}
use Rattle.std.specs.Simd.Lanes.{zip2, sel_l}
use Rattle.isp_base.specs.declared.types.Elem.{Elem}
use Rattle.isp_base.specs.declared.types.Elem.TheVariants.{Bool as Truth, I32}
use Rattle.isp_base.specs.declared.operators.BinOp.{BinOp}
use Rattle.isp_base.specs.declared.operators.Compare.{Compare}
use Rattle.isp_base.specs.Values.{width, op_bits, compare_bits, compare_to, number, wrap}
use Rattle.isp_base.specs.declared.operators.UnaryOp.{UnaryOp}
use Rattle.isp_base.specs.Unary.{unary_bits}
use Rattle.isp_base.specs.Rows.{Fit}
use Rattle.isp_lanes.specs.Lanes.{is_on}
use Rattle.isp_lanes.proofs.CellWords.{some_bits}
use Rattle.isp_lanes.proofs.Divisors.{length_sel, sel_fits}
use Rattle.isp_base.proofs.Wraps.{wrap_to-lt}

pub zip2_fits : (m : ℕ) (f : ℕ → ℕ → ℕ) → 0 < m → ((a b : ℕ) → f a b < m) → (xs ys : List ℕ) (k : ℕ) → get_or (zip2 f xs ys) k 0 < m
zip2_fits m f z h [] ys k = z
zip2_fits m f z h (x ∷ xs) [] k = z
zip2_fits m f z h (x ∷ xs) (y ∷ ys) zero = h x y
zip2_fits m f z h (x ∷ xs) (y ∷ ys) (suc k) = zip2_fits m f z h xs ys k

pub map_fits : (m : ℕ) (f : ℕ → ℕ) → 0 < m → ((a : ℕ) → f a < m) → (xs : List ℕ) (k : ℕ) → get_or (map f xs) k 0 < m
map_fits m f z h [] k = z
map_fits m f z h (x ∷ xs) zero = h x
map_fits m f z h (x ∷ xs) (suc k) = map_fits m f z h xs k

pub op_fits : (op : BinOp) (t : Elem) (xs ys : List ℕ) → Fit t (zip2 (op_bits op t) xs ys)
op_fits op t xs ys = zip2_fits (2 ^ width t) (op_bits op t) (pow_pos (width t)) (λ a b. wrap_to-lt (width t) _) xs ys

pub unary_fits : (op : UnaryOp) (t : Elem) (xs : List ℕ) → Fit t (map (unary_bits op t) xs)
unary_fits op t xs = map_fits (2 ^ width t) (unary_bits op t) (pow_pos (width t)) (λ a. wrap_to-lt (width t) _) xs

flag_lt : (b : Bool) → cond b 1 0 < 2 ^ 1
flag_lt true = lit≤ tt
flag_lt false = lit≤ tt

pub compare_fits : (c : Compare) (t : Elem) (xs ys : List ℕ) → Fit Truth (zip2 (compare_bits c t) xs ys)
compare_fits c t xs ys = zip2_fits (2 ^ 1) (compare_bits c t) (lit≤ tt) (λ a b. flag_lt (compare_to c (number t a) (number t b))) xs ys

pub flags_fit : (t : Elem) (xs : List ℕ) → Fit t (map (λ a. cond (is_on a) 1 0) xs)
flags_fit t xs = map_fits (2 ^ width t) (λ a. cond (is_on a) 1 0) (pow_pos (width t)) (λ a. omega (arith, flag_lt (is_on a), some_bits t)) xs

pub wrap_fits : (t v : Elem) (xs : List ℕ) → Fit v (map (λ a. wrap v (number t a)) xs)
wrap_fits t v xs = map_fits (2 ^ width v) (λ a. wrap v (number t a)) (pow_pos (width v)) (λ a. wrap_to-lt (width v) (number t a)) xs

below_lt : (a n m : ℕ) → a + n ≤ m → 0 < m → (k : ℕ) → get_or (range_with_len a n) k 0 < m
below_lt a zero m h z k = z
below_lt a (suc n) m h z zero = omega arith
below_lt a (suc n) m h z (suc k) = below_lt (a + 1) n m (omega arith) z k

pub numbers_fit : (n : ℕ) → n ≤ 64 → Fit I32 (range_with_len 0 n)
numbers_fit n h = below_lt 0 n (2 ^ 32) (omega arith) (lit≤ tt)

-- the same of another name of the element type and the row
pub fits_as : {e t : Elem} {us zs : List ℕ} → e ≡ t → us ≡ zs → Fit t zs → Fit e us
fits_as {e = e} {t = t} {us = us} {zs = zs} p q f = subst (λ (v : Elem). Fit v us) (sym p) (subst (λ (r : List ℕ). Fit t r) (sym q) f)

-- the lanes of a mask have new words, the others their old ones
pub settled : (n : ℕ) (t : Elem) (ms : List Bool) (us vs zs : List ℕ) → zs ≡ sel_l ms us vs → length ms ≡ n → length us ≡ n → length vs ≡ n → Fit t us → Fit t vs → (length zs ≡ n) × Fit t zs
settled n t ms us vs zs e p q r f g =
    (ap length e ∙ length_sel n ms us vs p q r, λ k. subst (λ (ws : List ℕ). get_or ws k 0 < 2 ^ width t) (sym e) (sel_fits (2 ^ width t) (pow_pos (width t)) ms us vs f g k))
