-- What whole numbers have where a divisor is 0.
use Rattle.std.proofs.Common.{◌≡◌, refl, sym, ap, ◌∙◌, ℕ, suc, ◌%◌, ◌^◌, arith, ℤ, pos, negsuc, int_div, int_rem}
use Rattle.std.proofs.lemmas.Int.{ints, quot-rem}
use Rattle.std.proofs.Math.Nat.{div-zero}
use native.Mathlib.Nat.{zero-mod, mod-mod}
use lib.IntN.{neg_ℤ}
use Rattle.std.proofs.lemmas.Bool.{false≢true}
use Rattle.isp_base.specs.declared.types.Elem.{Elem}
use Rattle.isp_base.specs.declared.operators.BinOp.{BinOp}
use Rattle.isp_base.specs.declared.operators.BinOp.TheVariants as op
use Rattle.isp_base.specs.Values.{width, greatest, number, wrap, op_bits, DividesByZero}
use Rattle.isp_base.proofs.Wraps.{wrap-number, wrap_to-pos}

rem_zero : (a : ℤ) → int_rem a (pos 0) ≡ a
rem_zero a = omega (arith, ints, quot-rem a (pos 0))

div_zero : (a : ℤ) → int_div a (pos 0) ≡ pos 0
div_zero (pos n) = ap pos (div-zero n)
div_zero (negsuc n) = ap (λ k. neg_ℤ (pos k)) (div-zero (suc n))

pub rest : (o : BinOp) (t : Elem) (x y : ℕ) → o ≡ op.Rem → DividesByZero o t y → x % 2 ^ width t ≡ op_bits o t x y
rest o t x y e d = sym (ap (λ p. op_bits p t x y) e ∙ ap (λ z. wrap t (int_rem (number t x) z)) d.1 ∙ ap (wrap t) (rem_zero (number t x)) ∙ wrap-number (width t) (greatest t) (x % 2 ^ width t) 0 ∙ mod-mod x (2 ^ width t))

pub quotient : (o : BinOp) (t : Elem) (x y : ℕ) → (o ≡ op.Rem → ⊥) → DividesByZero o t y → 0 ≡ op_bits o t x y
quotient op.Div t x y ne d = sym (ap (λ z. wrap t (int_div (number t x) z)) d.1 ∙ ap (wrap t) (div_zero (number t x)) ∙ wrap_to-pos (width t) 0 ∙ zero-mod (2 ^ width t))
quotient op.Rem t x y ne d = absurd (ne refl)
quotient op.Add t x y ne d = absurd (false≢true d.0)
quotient op.Sub t x y ne d = absurd (false≢true d.0)
quotient op.Mul t x y ne d = absurd (false≢true d.0)
quotient op.And t x y ne d = absurd (false≢true d.0)
quotient op.Or t x y ne d = absurd (false≢true d.0)
quotient op.Xor t x y ne d = absurd (false≢true d.0)
quotient op.Shl t x y ne d = absurd (false≢true d.0)
quotient op.Shr t x y ne d = absurd (false≢true d.0)
quotient op.Min t x y ne d = absurd (false≢true d.0)
quotient op.Max t x y ne d = absurd (false≢true d.0)
