-- A sum of few whole numbers is small.
use Rattle.std.proofs.Common.{◌≡◌, ap, sym, ◌∙◌, ℕ, zero, suc, ◌+◌, ◌*◌, ◌^◌, ◌≤◌, arith, Option, Some, None, ℤ, pos, negsuc, ◌+ℤ◌, ◌-ℤ◌, ◌≤ℤ◌, FitsSigned}
use Rattle.std.specs.Int.{w128}
use Rattle.std.proofs.lemmas.Int.{ints}
use Rattle.isp_base.specs.Cross.{and_this, fold_below}
use Rattle.isp_base.specs.Maps.{Map}
use Rattle.isp_base.specs.Types.{widest}
use Rattle.isp_base.specs.Values.{number}
use Rattle.isp_base.specs.declared.types.Elem.{Elem}
use Rattle.isp_gang_values.proofs.Wholes.{number_low, number_high}

abbrev pub sum_below : Elem → Map → ℕ → ℤ
sum_below t = fold_below (λ s b. s +ℤ number t b) (pos 0)

one_low : (t : Elem) (s : ℤ) (v : Option ℕ) (n : ℕ) → (pos 0 -ℤ pos (n * 2 ^ 64)) ≤ℤ s → (pos 0 -ℤ pos (suc n * 2 ^ 64)) ≤ℤ and_this (λ s b. s +ℤ number t b) s v
one_low t s None n h = omega (arith, ints, h)
one_low t s (Some b) n h = omega (arith, ints, h, number_low t b)

one_high : (t : Elem) (s : ℤ) (v : Option ℕ) (n : ℕ) → s ≤ℤ pos (n * 2 ^ 64) → and_this (λ s b. s +ℤ number t b) s v ≤ℤ pos (suc n * 2 ^ 64)
one_high t s None n h = omega (arith, ints, h)
one_high t s (Some b) n h = omega (arith, ints, h, number_high t b)

pub sum_low : (t : Elem) (x : Map) (n : ℕ) → (pos 0 -ℤ pos (n * 2 ^ 64)) ≤ℤ sum_below t x n
sum_low t x zero = omega (arith, ints)
sum_low t x (suc n) = one_low t (sum_below t x n) (x n) n (sum_low t x n)

pub sum_high : (t : Elem) (x : Map) (n : ℕ) → sum_below t x n ≤ℤ pos (n * 2 ^ 64)
sum_high t x zero = omega (arith, ints)
sum_high t x (suc n) = one_high t (sum_below t x n) (x n) n (sum_high t x n)

of_128 : (z : ℤ) → (pos 0 -ℤ pos (2 ^ 120)) ≤ℤ z → z ≤ℤ pos (2 ^ 120) → FitsSigned w128 z
of_128 (pos n) l h = record { sfits = omega (arith, ints, h) }
of_128 (negsuc n) l h = record { sfits = omega (arith, ints, l) }

pub sum_fits : (t : Elem) (x : Map) (n b : ℕ) → n ≤ widest → FitsSigned w128 (sum_below t x n +ℤ number t b)
sum_fits t x n b few =
    let l = sum_low t x n in let h = sum_high t x n in let m = number_low t b in let k = number_high t b in
    of_128 _ (omega (arith, ints, l, m, few)) (omega (arith, ints, h, k, few))

pub sum_next : (t : Elem) (x : Map) (n : ℕ) (v : Option ℕ) → x n ≡ v → and_this (λ s b. s +ℤ number t b) (sum_below t x n) v ≡ sum_below t x (n + 1)
sum_next t x n v e = ap (and_this (λ s b. s +ℤ number t b) (sum_below t x n)) (sym e) ∙ ap (sum_below t x) (suc_is n)
  where
    suc_is : (n : ℕ) → suc n ≡ n + 1
    suc_is n = omega arith
