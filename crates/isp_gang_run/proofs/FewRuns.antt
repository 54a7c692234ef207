-- How many runs a `foreach` has at most.
use Rattle.std.proofs.Common.{◌≡◌, refl, sym, ap, ap₂, subst, ◌∙◌, ℕ, zero, suc, ◌+◌, ◌*◌, ◌^◌, ◌<◌, ◌≤◌, List, [], ◌∷◌, ◌++◌, map, length, arith}
use Rattle.std.specs.Prelude.{ℤ, pos, negsuc, ◌-ℤ◌, ◌≤ℤ◌, ◌<ℤ◌}
use Rattle.std.proofs.Math.Nat.{mul-le-mul_left, mul_comm, mul_assoc, div-le_of_le-mul}
use Rattle.std.proofs.Common.{◌-◌, ◌%◌, ◌⊎◌, ⊎_elim}
use Rattle.std.proofs.lemmas.Int.{ints}
use Rattle.std.proofs.Math.Nat.{mod-lt}
use Rattle.std.proofs.lemmas.Bool.{cases_lt}
use Rattle.isp_base.proofs.Elems.{number_above, number_below}
use Rattle.isp_base.specs.Ranges.{IsSigned}
use Rattle.isp_base.specs.Values.{number, number_to}
use Rattle.isp_base.specs.declared.types.Elem.TheVariants.{I32}
use Rattle.isp_base.specs.Types.{gang_width}
use Rattle.isp_base.specs.declared.types.Gang.{Gang}
use Rattle.isp_base.specs.declared.types.Gang.TheVariants.{W4, W8, W16, W32}
use Rattle.isp_meaning.specs.Rounds.{Range, Run, from_zero, length_of, runs_for, from_on, last_run, with_outer, joined_lists, runs_of}
use Rattle.isp_gang_run.specs.Most.{runs_most}

pub mapped : {A B : Type 0} (f : A → B) (xs : List A) → length (map f xs) ≡ length xs
mapped f [] = refl
mapped f (x ∷ xs) = ap suc (mapped f xs)

both : {A : Type 0} (xs ys : List A) → length (xs ++ ys) ≡ length xs + length ys
both [] ys = omega arith
both (x ∷ xs) ys = let h = both xs ys in omega (arith, h)

numbers : (k n : ℕ) (z : ℤ) → length (from_on k n z) ≡ n
numbers k zero z = refl
numbers k (suc n) z = ap suc (numbers k n _)

-- for each of some numbers as many
for_each : {A B : Type 0} (f : A → List B) (n : ℕ) (xs : List A) → ((x : A) → length (f x) ≡ n) → length (joined_lists (map f xs)) ≡ length xs * n
for_each f n [] each = omega arith
for_each f n (x ∷ xs) each = both (f x) (joined_lists (map f xs)) ∙ ap₂ (λ i j. i + j) (each x) (for_each f n xs each) ∙ (omega arith)

-- a gang takes no more runs than there are numbers
one_range : (g : Gang) (n : ℕ) → runs_for (gang_width g) n ≤ n
one_range W4 zero = omega arith
one_range W8 zero = omega arith
one_range W16 zero = omega arith
one_range W32 zero = omega arith
one_range W4 (suc n) = div-le_of_le-mul 4 (omega arith)
one_range W8 (suc n) = div-le_of_le-mul 8 (omega arith)
one_range W16 (suc n) = div-le_of_le-mul 16 (omega arith)
one_range W32 (suc n) = div-le_of_le-mul 32 (omega arith)

pub runs_few : (g : Gang) (rs : List Range) → length (runs_of (gang_width g) rs) ≤ runs_most rs
runs_few g [] = omega arith
runs_few g (r ∷ []) =
    let is : length (runs_of (gang_width g) (r ∷ [])) ≡ runs_for (gang_width g) (length_of r) = mapped (last_run (gang_width g) r) (from_on (gang_width g) (runs_for (gang_width g) (length_of r)) r.start) ∙ numbers (gang_width g) (runs_for (gang_width g) (length_of r)) r.start in
    let few : runs_for (gang_width g) (length_of r) ≤ length_of r = one_range g (length_of r) in
    omega (arith, is, few)
runs_few g (r ∷ q ∷ rs) =
    let rest = runs_of (gang_width g) (q ∷ rs) in
    let is : length (runs_of (gang_width g) (r ∷ q ∷ rs)) ≡ length_of r * length rest = for_each (λ z. map (with_outer r.index z) rest) (length rest) (from_on 1 (length_of r) r.start) (λ z. mapped (with_outer r.index z) rest) ∙ ap (λ n. n * length rest) (numbers 1 (length_of r) r.start) in
    subst (λ n. n ≤ length_of r * runs_most (q ∷ rs)) (sym is) (mul-le-mul_left (length_of r) (runs_few g (q ∷ rs)))

-- one range more
pub runs_with : (rs : List Range) (x : Range) → runs_most (rs ++ x ∷ []) ≡ runs_most rs * length_of x
runs_with [] x = omega arith
runs_with (r ∷ rs) x = ap (λ n. length_of r * n) (runs_with rs x) ∙ sym (mul_assoc (length_of r) (runs_most rs) (length_of x))

pub runs_more : (rs : List Range) (x : Range) → length_of x ≤ 2 ^ 32 → runs_most (rs ++ x ∷ []) ≤ runs_most rs * 2 ^ 32
runs_more rs x few = subst (λ n. n ≤ runs_most rs * 2 ^ 32) (sym (runs_with rs x)) (mul-le-mul_left (runs_most rs) few)

-- ---- from an int32 to another

low_high : (b : ℕ) → b < 2 ^ 32 → IsSigned 31 (number_to 32 (2 ^ 31 - 1) b)
low_high b h = ⊎_elim by_above by_below (cases_lt (2 ^ 31 - 1) b)
  where
    by_above : 2 ^ 31 - 1 < b → IsSigned 31 (number_to 32 (2 ^ 31 - 1) b)
    by_above k = let e = number_above 32 (2 ^ 31 - 1) b k in (omega (arith, ints, e, h, k), omega (arith, ints, e, h, k))

    by_below : b ≤ 2 ^ 31 - 1 → IsSigned 31 (number_to 32 (2 ^ 31 - 1) b)
    by_below k = let e = number_below 32 (2 ^ 31 - 1) b k in (omega (arith, ints, e, h, k), omega (arith, ints, e, h, k))

is_int : (i : ℕ) → IsSigned 31 (number I32 i)
is_int i = low_high (i % 2 ^ 32) (mod-lt i (omega arith))

pub few_numbers : (index i j : ℕ) → length_of (record { index = index; start = number I32 i; end = number I32 j }) ≤ 2 ^ 32
few_numbers index i j = by (number I32 j -ℤ number I32 i) refl
  where
    by : (d : ℤ) → d ≡ number I32 j -ℤ number I32 i → from_zero d ≤ 2 ^ 32
    by (pos n) e = let low = (is_int i).0 in let high = (is_int j).1 in omega (arith, ints, e, low, high)
    by (negsuc n) e = omega arith
