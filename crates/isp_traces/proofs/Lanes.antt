-- How many lanes are on in a mask that may not be there.
use Rattle.std.proofs.Common.{◌≡◌, refl, sym, ap, ◌∙◌, ℕ, zero, suc, ◌+◌, ◌≤◌, Bool, true, false, cond, Option, Some, None, arith}
use Rattle.std.specs.Prelude.{◌&&◌, if◌then◌else◌, unwrap_or}
use Rattle.isp_base.specs.Cross.{rank}
use Rattle.isp_base.specs.Sets.{Mask}
use Rattle.isp_base.specs.Types.{gang_width}
use Rattle.isp_base.specs.declared.types.Gang.{Gang}
use Rattle.isp_base.specs.declared.types.Gang.TheVariants.{W4, W8, W16, W32}

none_on : (a : Mask) (n : ℕ) → rank (λ p. false && a p) n ≡ 0
none_on a zero = refl
none_on a (suc n) = omega (arith, none_on a n)

pub on_or_zero : (b : Bool) (a : Mask) (n : ℕ) (x : Option ℕ) → x ≡ (if b then Some (rank a n) else None) → unwrap_or x 0 ≡ rank (λ p. b && a p) n
on_or_zero true a n x e = ap (λ (y : Option ℕ). unwrap_or y 0) e
on_or_zero false a n x e = ap (λ (y : Option ℕ). unwrap_or y 0) e ∙ sym (none_on a n)

one_le : (b : Bool) (r p : ℕ) → r ≤ p → r + cond b 1 0 ≤ suc p
one_le true r p h = omega (arith, h)
one_le false r p h = omega (arith, h)

pub rank_le : (a : Mask) (p : ℕ) → rank a p ≤ p
rank_le a zero = omega arith
rank_le a (suc p) = one_le (a p) (rank a p) p (rank_le a p)

pub width_le : (g : Gang) → gang_width g ≤ 64
width_le W4 = omega arith
width_le W8 = omega arith
width_le W16 = omega arith
width_le W32 = omega arith
