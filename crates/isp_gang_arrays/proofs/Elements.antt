-- The element that an index means, by its bits.
use Rattle.std.proofs.Common.{◌≡◌, refl, sym, ap, ◌∙◌, ℕ, zero, suc, ◌%◌, ◌^◌, Bool, true, false, nat_lt, unsigned_abs, mod-lt, pow_pos}
use Rattle.isp_base.specs.declared.types.Elem.{Elem}
use Rattle.isp_base.specs.declared.operators.UnaryOp.TheVariants.{Absolute}
use Rattle.isp_base.specs.Access.{element}
use Rattle.isp_base.specs.Unary.{unary_bits}
use Rattle.isp_base.specs.Values.{width, greatest}
use Rattle.isp_base.specs.Words.{magnitude}
use Rattle.isp_base.proofs.Signs.{signed, number_signed}
use Rattle.isp_base.proofs.Unaries.{absolute_is}

unsigned : (s : Bool) (m : ℕ) → unsigned_abs (signed s m) ≡ m
unsigned true zero = refl
unsigned true (suc m) = refl
unsigned false m = refl

pub absolute_bits : (t : Elem) (b : ℕ) → unary_bits Absolute t b ≡ element t b
absolute_bits t b =
    let x = b % 2 ^ width t in
    let h = mod-lt b (pow_pos (width t)) in
    absolute_is t x h ∙ sym (ap unsigned_abs (number_signed (width t) (greatest t) x h) ∙ unsigned (nat_lt (greatest t) x) (magnitude (width t) (greatest t) x))
