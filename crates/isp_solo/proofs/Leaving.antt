-- Rows over which runs store what they stored, one after the other.
use Rattle.std.proofs.Common.{◌≡◌, refl, sym, ap, ap₂, ◌∙◌, ℕ, zero, suc, ◌+◌, ◌<◌, ◌≤◌, ◌%◌, ◌^◌, List, [], ◌∷◌, ◌++◌, arith, length, get_or, take, drop, append_assoc}
use Rattle.std.specs.Prelude.{Option, option_map, slice_index, slice_set}
use Rattle.std.proofs.Math.Seq.{take-suc, drop-cons}
use Rattle.isp_base.specs.Arguments.{rows, tabulate}
use Rattle.isp_base.specs.Maps.{Lanes, or_old}
use Rattle.isp_base.specs.Rows.{Row}
use Rattle.isp_base.specs.Values.{width}
use Rattle.isp_base.specs.declared.signature.Argument.{Argument}
use Rattle.isp_base.specs.declared.signature.Argument.TheVariants.{Value as AValue, Array as AnArray}
use Rattle.isp_base.specs.declared.types.Elem.{Elem}
use Rattle.isp_solo.specs.Left.{row_over, rows_over}

-- ---- the first values of a function

pub tabulate_same : (n : ℕ) (f g : Lanes) → ((i : ℕ) → i < n → f i ≡ g i) → tabulate n f ≡ tabulate n g
tabulate_same zero f g h = refl
tabulate_same (suc n) f g h =
    ap₂ (λ (x : ℕ) (xs : List ℕ). x ∷ xs) (h 0 (omega arith)) (tabulate_same n (λ i. f (suc i)) (λ i. g (suc i)) (λ i k. h (suc i) (omega (arith, k))))

pub tabulate_long : (n : ℕ) (f : Lanes) → length (tabulate n f) ≡ n
tabulate_long zero f = refl
tabulate_long (suc n) f = ap suc (tabulate_long n (λ i. f (suc i)))

pub tabulate_at : (n : ℕ) (f : Lanes) (i : ℕ) → i < n → slice_index (tabulate n f) i ≡ f i
tabulate_at zero f i h = absurd (omega (arith, h))
tabulate_at (suc n) f zero h = refl
tabulate_at (suc n) f (suc i) h = tabulate_at n (λ i. f (suc i)) i (omega (arith, h))

pub listed : (xs : List ℕ) → tabulate (length xs) (λ i. slice_index xs i) ≡ xs
listed [] = refl
listed (x ∷ xs) = ap (λ ys. x ∷ ys) (listed xs)

-- a list whose elements are these
pub tabulated : (xs : List ℕ) (n : ℕ) (f : Lanes) → length xs ≡ n → ((i : ℕ) → i < n → slice_index xs i ≡ f i) → xs ≡ tabulate n f
tabulated xs n f long h = sym (listed xs) ∙ ap (λ (k : ℕ). tabulate k (λ i. slice_index xs i)) long ∙ tabulate_same n (λ i. slice_index xs i) f h

abbrev pub made : Row → List ℕ → Row
made r xs = record { elem = r.elem; bits = xs }

-- ---- rows one by one

-- the first n have what is stored
abbrev pub first_over : ℕ → List Row → (ℕ → ℕ → Option ℕ) → List Row
first_over zero rs w = rs
first_over (suc n) [] w = []
first_over (suc n) (r ∷ rs) w = row_over r (w 0) ∷ first_over n rs (λ b. w (suc b))

pub one_over : (n : ℕ) (rs : List Row) (w : ℕ → ℕ → Option ℕ) (d s : Row) → n < length rs → d ≡ get_or (first_over n rs w) n d → s ≡ row_over d (w n) → slice_set (first_over n rs w) n s ≡ first_over (suc n) rs w
one_over n [] w d s h e i = absurd (omega (arith, h))
one_over zero (r ∷ rs) w d s h e i = ap (λ (x : Row). x ∷ rs) (i ∙ ap (λ (x : Row). row_over x (w 0)) e)
one_over (suc n) (r ∷ rs) w d s h e i = ap (λ (xs : List Row). row_over r (w 0) ∷ xs) (one_over n rs (λ b. w (suc b)) d s (omega (arith, h)) e i)

pub all_over : (n : ℕ) (rs : List Row) (w : ℕ → ℕ → Option ℕ) → length rs ≤ n → first_over n rs w ≡ rows_over rs w
all_over zero [] w h = refl
all_over zero (r ∷ rs) w h = absurd (omega (arith, h))
all_over (suc n) [] w h = refl
all_over (suc n) (r ∷ rs) w h = ap (λ (xs : List Row). row_over r (w 0) ∷ xs) (all_over n rs (λ b. w (suc b)) (omega (arith, h)))

-- ---- elements one by one

abbrev of_type : Elem → List ℕ → Row
of_type t xs = record { elem = t; bits = xs }

-- the first n elements have what is stored, the others what they had
pub record StoredTo (old now : Row) (w : ℕ → Option ℕ) (n : ℕ) : Type 0 where
  pub elem : now.elem ≡ old.elem
  pub long : length now.bits ≡ length old.bits
  pub done : (e : ℕ) → e < n → slice_index now.bits e ≡ or_old (option_map (λ x. x % 2 ^ width old.elem) (w e)) (slice_index old.bits e)
  pub left : (e : ℕ) → n ≤ e → slice_index now.bits e ≡ slice_index old.bits e

pub stored_none : (r : Row) (w : ℕ → Option ℕ) → StoredTo r r w 0
stored_none r w = record { elem = refl; long = refl; done = λ e h. absurd (omega (arith, h)); left = λ e h. refl }

module _ (old now : Row) (w : ℕ → Option ℕ) (n : ℕ) (s : StoredTo old now w n) where
  pub stored_all : length old.bits ≤ n → now ≡ row_over old w
  stored_all h =
      ap₂ of_type s.elem
      (tabulated now.bits (length old.bits) (λ e. or_old (option_map (λ x. x % 2 ^ width old.elem) (w e)) (slice_index old.bits e)) s.long (λ e k. s.done e (omega (arith, h, k))))

-- ---- copies

take_all : (k : ℕ) (xs : List ℕ) → length xs ≤ k → take k xs ≡ xs
take_all zero [] h = refl
take_all zero (x ∷ xs) h = absurd (omega (arith, h))
take_all (suc k) [] h = refl
take_all (suc k) (x ∷ xs) h = ap (λ ys. x ∷ ys) (take_all k xs (omega (arith, h)))

pub copied_more : (r now new : Row) (k x : ℕ) → k < length r.bits → now ≡ record { elem = r.elem; bits = take k r.bits } → x ≡ slice_index r.bits k → new ≡ record { elem = now.elem; bits = now.bits ++ x ∷ [] }
    → new ≡ record { elem = r.elem; bits = take (k + 1) r.bits }
copied_more r now new k x h is ex en =
    en ∙ ap (λ (z : Row). made z (z.bits ++ x ∷ [])) is
    ∙ ap (made r) (ap (λ (y : ℕ). take k r.bits ++ y ∷ []) ex ∙ sym (take-suc r.bits k 0 h) ∙ ap (λ (n : ℕ). take n r.bits) (let i : suc k ≡ k + 1 = omega arith in i))

pub copied_all : (r now : Row) (k : ℕ) → length r.bits ≤ k → now ≡ record { elem = r.elem; bits = take k r.bits } → now ≡ r
copied_all r now k h is = is ∙ ap (made r) (take_all k r.bits h)

one_row : (x : Argument) (ys : List Argument) → rows (x ∷ ys) ≡ rows (x ∷ []) ++ rows ys
one_row (AValue v) ys = refl
one_row (AnArray r) ys = refl

pub copies_more : (out new total : List Row) (k : ℕ) (xs : List Argument) (x : Argument) → k < length xs → x ≡ get_or xs k x → new ≡ out ++ rows (x ∷ []) → out ++ rows (drop k xs) ≡ total → new ++ rows (drop (k + 1) xs) ≡ total
copies_more out new total k xs x h e en is =
    ap₂ (λ (z : List Row) (n : ℕ). z ++ rows (drop n xs)) en (let i : k + 1 ≡ suc k = omega arith in i)
    ∙ append_assoc out (rows (x ∷ [])) (rows (drop (suc k) xs))
    ∙ ap (λ (z : List Row). out ++ z) (sym (one_row x (drop (suc k) xs)) ∙ ap (λ (y : Argument). rows (y ∷ drop (suc k) xs)) e ∙ ap rows (sym (drop-cons xs k x h))) ∙ is

drop_all : (k : ℕ) (xs : List Argument) → length xs ≤ k → drop k xs ≡ []
drop_all zero [] h = refl
drop_all (suc k) [] h = refl
drop_all zero (x ∷ xs) h = absurd (omega (arith, h))
drop_all (suc k) (x ∷ xs) h = drop_all k xs (omega (arith, h))

append_nil : (xs : List Row) → xs ++ [] ≡ xs
append_nil [] = refl
append_nil (x ∷ xs) = ap (λ ys. x ∷ ys) (append_nil xs)

pub copies_end : (out total : List Row) (k : ℕ) (xs : List Argument) → length xs ≤ k → out ++ rows (drop k xs) ≡ total → out ≡ total
copies_end out total k xs h is = sym (append_nil out) ∙ ap (λ (ys : List Argument). out ++ rows ys) (sym (drop_all k xs h)) ∙ is
