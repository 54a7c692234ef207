-- Lists of lanes as maps, and what is written in the lanes of a mask.
use Rattle.std.proofs.Common.{slice_get, unwrap_or, ◌≡◌, refl, ap, ◌∙◌, Some, None, ℕ, zero, suc, ◌^◌, ◌<◌, Bool, true, false, cond, arith, List, [], ◌∷◌, length, get_or, replicate, pow_pos}
use Rattle.std.proofs.Math.Path.{fun_ext}
use Rattle.std.specs.Simd.Lanes.{sel_l}
use Rattle.isp_base.specs.declared.types.Elem.{Elem}
use Rattle.isp_base.specs.Cross.{or_zero}
use Rattle.isp_base.specs.Maps.{Lanes, lane_of, on, or_old}
use Rattle.isp_base.specs.Rows.{Row, Fit}
use Rattle.isp_base.specs.Sets.{flag_of}
use Rattle.isp_base.specs.Values.{width}
use Rattle.isp_lanes.specs.Lanes.{written}
use Rattle.isp_cross.specs.Lanes.{renewed}

-- the lanes of a mask, and 0 in the others
pub get_or-active : (mask : List Bool) (xs : List ℕ) (n : ℕ) → length mask ≡ n → length xs ≡ n → (p : ℕ) → get_or (sel_l mask xs (replicate n 0)) p 0 ≡ or_zero (on (flag_of mask) (lane_of xs) p)
get_or-active [] xs n a b p = refl
get_or-active (m ∷ mask) [] n a b p = absurd (omega arith)
get_or-active (m ∷ mask) (x ∷ xs) zero a b p = absurd (omega arith)
get_or-active (true ∷ mask) (x ∷ xs) (suc n) a b zero = refl
get_or-active (false ∷ mask) (x ∷ xs) (suc n) a b zero = refl
get_or-active (m ∷ mask) (x ∷ xs) (suc n) a b (suc p) = get_or-active mask xs n (omega arith) (omega arith) p

-- the lanes of a mask, and e in the others
pub get_or-active_or : (mask : List Bool) (xs : List ℕ) (e n : ℕ) → length mask ≡ n → length xs ≡ n → (p : ℕ) → p < n → get_or (sel_l mask xs (replicate n e)) p 0 ≡ or_old (on (flag_of mask) (lane_of xs) p) e
get_or-active_or [] xs e n a b p h = absurd (omega arith)
get_or-active_or (m ∷ mask) [] e n a b p h = absurd (omega arith)
get_or-active_or (m ∷ mask) (x ∷ xs) e zero a b p h = absurd (omega arith)
get_or-active_or (true ∷ mask) (x ∷ xs) e (suc n) a b zero h = refl
get_or-active_or (false ∷ mask) (x ∷ xs) e (suc n) a b zero h = refl
get_or-active_or (m ∷ mask) (x ∷ xs) e (suc n) a b (suc p) h = get_or-active_or mask xs e n (omega arith) (omega arith) p (omega arith)

-- all lanes are written
pub all_written : (xs ys : List ℕ) (n : ℕ) → length xs ≡ n → length ys ≡ n → sel_l (replicate n true) xs ys ≡ xs
all_written [] ys zero a b = refl
all_written [] ys (suc n) a b = absurd (omega arith)
all_written (x ∷ xs) ys zero a b = absurd (omega arith)
all_written (x ∷ xs) [] (suc n) a b = absurd (omega arith)
all_written (x ∷ xs) (y ∷ ys) (suc n) a b = ap (λ t. x ∷ t) (all_written xs ys n (omega arith) (omega arith))

-- the lanes fit, with e in place of those that are off
pub fits_or_old : (t : Elem) (mask : List Bool) (xs : List ℕ) (e : ℕ) → e < 2 ^ width t → Fit t xs → (q : ℕ) → or_old (on (flag_of mask) (lane_of xs) q) e < 2 ^ width t
fits_or_old t mask xs e unit fit q = by (get_or mask q false)
  where
    by : (b : Bool) → or_old (cond b (Some (get_or xs q 0)) None) e < 2 ^ width t
    by true = fit q
    by false = unit

-- a lane of the mask has its own value
pub on_at : (mask : List Bool) (xs : List ℕ) (p : ℕ) → get_or mask p false ≡ true → on (flag_of mask) (lane_of xs) p ≡ Some (get_or xs p 0)
on_at mask xs p h = ap (λ t. cond t (Some (get_or xs p 0)) None) h

pub off_at : (mask : List Bool) (xs : List ℕ) (p : ℕ) → get_or mask p false ≡ false → on (flag_of mask) (lane_of xs) p ≡ None
off_at mask xs p h = ap (λ t. cond t (Some (get_or xs p 0)) None) h

pub flag_is : (mask : List Bool) (p : ℕ) → get_or mask p false ≡ unwrap_or (slice_get mask p) false
flag_is [] p = refl
flag_is (m ∷ mask) zero = refl
flag_is (m ∷ mask) (suc p) = flag_is mask p

-- where a mask is on there is a lane
pub flag_lt : (mask : List Bool) (p : ℕ) → get_or mask p false ≡ true → p < length mask
flag_lt [] p e = absurd (cc)
flag_lt (m ∷ mask) zero e = omega arith
flag_lt (m ∷ mask) (suc p) e = let l = flag_lt mask p e in omega arith

-- what is written in the lanes of a mask is what a function gives there; the other lanes do not show
selected_at : (mask : List Bool) (lanes old : List ℕ) (f : Lanes) (n : ℕ) → length mask ≡ n → length lanes ≡ n → length old ≡ n
    → ((p : ℕ) → p < n → get_or mask p false ≡ true → get_or lanes p 0 ≡ f p) → (p : ℕ) → get_or (sel_l mask lanes old) p 0 ≡ or_old (on (flag_of mask) f p) (get_or old p 0)
selected_at [] lanes [] f n i j k h p = refl
selected_at [] lanes (y ∷ old) f n i j k h p = absurd (omega arith)
selected_at (m ∷ mask) [] old f n i j k h p = absurd (omega arith)
selected_at (m ∷ mask) (x ∷ lanes) [] f n i j k h p = absurd (omega arith)
selected_at (m ∷ mask) (x ∷ lanes) (y ∷ old) f zero i j k h p = absurd (omega arith)
selected_at (true ∷ mask) (x ∷ lanes) (y ∷ old) f (suc n) i j k h zero = h 0 (omega arith) refl
selected_at (false ∷ mask) (x ∷ lanes) (y ∷ old) f (suc n) i j k h zero = refl
selected_at (m ∷ mask) (x ∷ lanes) (y ∷ old) f (suc n) i j k h (suc p) = selected_at mask lanes old (λ q. f (suc q)) n (omega arith) (omega arith) (omega arith) (λ q l t. h (suc q) (omega arith) t) p

pub written_is : {new : Row} (mask : List Bool) (lanes : List ℕ) (old : Row) (f : Lanes) (n : ℕ) → new ≡ written mask lanes old → length mask ≡ n → length lanes ≡ n → length old.bits ≡ n
    → ((p : ℕ) → p < n → get_or mask p false ≡ true → get_or lanes p 0 ≡ f p) → lane_of new.bits ≡ renewed mask f old
written_is mask lanes old f n e i j k h = ap (λ (r : Row). lane_of r.bits) e ∙ fun_ext (selected_at mask lanes old.bits f n i j k h)

-- two functions that agree in the lanes of a mask
pub renewed_same : (mask : List Bool) (f g : Lanes) (old : Row) → ((p : ℕ) → get_or mask p false ≡ true → f p ≡ g p) → renewed mask f old ≡ renewed mask g old
renewed_same mask f g old h = fun_ext (λ p. by p (get_or mask p false) refl)
  where
    by : (p : ℕ) (b : Bool) → get_or mask p false ≡ b → or_old (cond b (Some (f p)) None) (get_or old.bits p 0) ≡ or_old (cond b (Some (g p)) None) (get_or old.bits p 0)
    by p true e = h p e
    by p false e = refl

-- the values in the lanes of a mask fit
pub active_fits : (t : Elem) (mask : List Bool) (xs : List ℕ) → Fit t xs → (q : ℕ) → or_zero (on (flag_of mask) (lane_of xs) q) < 2 ^ width t
active_fits t mask xs fit q = by (get_or mask q false)
  where
    by : (b : Bool) → or_zero (cond b (Some (get_or xs q 0)) None) < 2 ^ width t
    by true = fit q
    by false = pow_pos (width t)
