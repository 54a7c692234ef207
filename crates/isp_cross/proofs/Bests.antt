-- The best of the lanes fits their type.
use Rattle.std.proofs.Common.{ℕ, zero, suc, ◌^◌, ◌<◌, Option, Some, None, pow_pos}
use Rattle.isp_base.specs.declared.types.Elem.{Elem}
use Rattle.isp_base.specs.declared.operators.BinOp.{BinOp}
use Rattle.isp_base.specs.Cross.{and_this, best, fold_below, or_zero, reduce_best}
use Rattle.isp_base.specs.Maps.{Map}
use Rattle.isp_base.specs.Values.{op_bits, width}
use Rattle.isp_base.proofs.Wraps.{wrap_to-lt}

-- one lane more
with_fits : (op : BinOp) (t : Elem) (s v : Option ℕ) → or_zero s < 2 ^ width t → or_zero v < 2 ^ width t → or_zero (and_this (best (op_bits op t)) s v) < 2 ^ width t
with_fits op t s None h k = h
with_fits op t None (Some b) h k = k
with_fits op t (Some a) (Some b) h k = wrap_to-lt (width t) _

so_far_fits : (op : BinOp) (t : Elem) (x : Map) → ((p : ℕ) → or_zero (x p) < 2 ^ width t) → (n : ℕ) → or_zero (fold_below (best (op_bits op t)) None x n) < 2 ^ width t
so_far_fits op t x h zero = pow_pos (width t)
so_far_fits op t x h (suc n) = with_fits op t (fold_below (best (op_bits op t)) None x n) (x n) (so_far_fits op t x h n) (h n)

pub best_fits : (op : BinOp) (t : Elem) (n : ℕ) (x : Map) → ((p : ℕ) → or_zero (x p) < 2 ^ width t) → reduce_best op t n x < 2 ^ width t
best_fits op t n x h = so_far_fits op t x h n
