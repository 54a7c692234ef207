-- A scan of ones counts.
use Rattle.std.proofs.Common.{◌≡◌, refl, sym, ap, ◌∙◌, ℕ, zero, suc, ◌+◌, ◌^◌, ◌<◌, ◌≤◌, Bool, true, false, cond, arith, List, get_or, replicate, mod-eq_of_lt, Some, None, lit<}
use Rattle.std.proofs.lemmas.List.{get_or-replicate}
use Rattle.isp_base.specs.declared.types.Elem.TheVariants.{I32}
use Rattle.isp_base.specs.declared.operators.BinOp.TheVariants.{Add}
use Rattle.isp_base.specs.Cross.{and_this, fold_below, rank}
use Rattle.isp_base.specs.Maps.{lane_of, on}
use Rattle.isp_base.specs.Sets.{Mask, flag_of}
use Rattle.isp_base.specs.Values.{op_bits}
use Rattle.isp_base.proofs.Words.{low_of, word_add}

-- how many lanes there are
one_le : (b : Bool) (r p : ℕ) → r ≤ p → r + cond b 1 0 ≤ suc p
one_le true r p h = omega (arith, h)
one_le false r p h = omega (arith, h)

rank_le : (a : Mask) (p : ℕ) → rank a p ≤ p
rank_le a zero = omega arith
rank_le a (suc p) = one_le (a p) (rank a p) p (rank_le a p)

add_one : (r : ℕ) → r < 2 ^ 31 → op_bits Add I32 r 1 ≡ r + 1
add_one r h = sym (word_add I32 r 1 (omega (arith, h)) (lit< tt)) ∙ low_of I32 (r + 1) ∙ mod-eq_of_lt (omega (arith, h))

-- a scan of ones counts
pub count_is : (mask : List Bool) (n p : ℕ) → p ≤ n → n ≤ 64 → fold_below (op_bits Add I32) 0 (on (flag_of mask) (lane_of (replicate n 1))) p ≡ rank (flag_of mask) p
count_is mask n zero h few = refl
count_is mask n (suc p) h few =
    ap (λ a. and_this (op_bits Add I32) a (on (flag_of mask) (lane_of (replicate n 1)) p)) (count_is mask n p (omega (arith, h)) few)
    ∙ by (get_or mask p false)
  where
    by : (b : Bool) → and_this (op_bits Add I32) (rank (flag_of mask) p) (cond b (Some (get_or (replicate n 1) p 0)) None) ≡ rank (flag_of mask) p + cond b 1 0
    by true = ap (op_bits Add I32 (rank (flag_of mask) p)) (get_or-replicate n p 1 0 (omega (arith, h))) ∙ add_one (rank (flag_of mask) p) (omega (arith, rank_le (flag_of mask) p, h, few))
    by false = omega arith
