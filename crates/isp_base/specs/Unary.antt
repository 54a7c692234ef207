-- What an operator on one value does to it, in whole numbers.
use Rattle.std.specs.Prelude.{ℕ, ℤ, pos, ◌-ℤ◌, unsigned_abs, if◌then◌else◌}
use lib.IntN.{neg_ℤ}
use Rattle.std.specs.Ordering.{int_eq}
use Rattle.isp_base.specs.declared.types.Elem.{Elem}
use Rattle.isp_base.specs.declared.operators.UnaryOp.{UnaryOp}
use Rattle.isp_base.specs.declared.operators.UnaryOp.TheVariants.{Negate, Invert, Absolute, Not}
use Rattle.isp_base.specs.Values.{number, wrap}

-- to turn every bit is to negate and subtract one
abbrev pub unary_to : UnaryOp → ℤ → ℤ
unary_to Negate x = neg_ℤ x
unary_to Invert x = neg_ℤ x -ℤ pos 1
unary_to Absolute x = pos (unsigned_abs x)
unary_to Not x = if int_eq x (pos 0) then pos 1 else pos 0

-- the bits that an operator gives at the bits x
abbrev pub unary_bits : UnaryOp → Elem → ℕ → ℕ
unary_bits op t x = wrap t (unary_to op (number t x))
