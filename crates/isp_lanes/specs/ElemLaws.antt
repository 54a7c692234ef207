-- What holds of the values of each element type: what a value stands for is in the type's range, and is that value again once it is wrapped.
use Rattle.std.proofs.Common.{◌≡◌, refl, ℕ, ℤ, pos, negsuc, ◌^◌, ◌<◌, Bool, true, false, cond, nat_lt, mod-eq_of_lt, arith}
use Rattle.std.specs.Int.{Width, w8, w16, w32, w64, int_wrap}
use Rattle.std.specs.Int.RustNames.{FitsSigned}
use Rattle.std.proofs.lemmas.Int.{int_wrap_fits, ints}
use Rattle.isp_base.specs.Ranges.{IsSigned, IsUnsigned}
use Rattle.isp_base.specs.Values.{wrap_to}

-- a bool stands for 0 or 1
abbrev pub bool_number : Bool → ℤ
bool_number b = cond b (pos 1) (pos 0)

abbrev pub bool_wrap : ℤ → Bool
bool_wrap z = nat_lt 0 (wrap_to 1 z)

pub bool_back : (b : Bool) → bool_wrap (bool_number b) ≡ b
unfolding wrap_to
bool_back true = refl
bool_back false = refl

pub bool_within : (b : Bool) → IsUnsigned 1 (bool_number b)
bool_within true = (omega arith, omega arith)
bool_within false = (omega arith, omega arith)

-- an unsigned value stands for itself
pub unsigned_back : (w x : ℕ) → x < 2 ^ w → wrap_to w (pos x) ≡ x
unfolding wrap_to
unsigned_back w x p = mod-eq_of_lt p

pub unsigned_within : (w x : ℕ) → x < 2 ^ w → IsUnsigned w (pos x)
unsigned_within w x p = (omega (arith, ints), omega (arith, ints))

-- and so does a signed one
pub signed_back : (w : Width) (x : ℤ) → FitsSigned w x → int_wrap w x ≡ x
signed_back w x p = int_wrap_fits w x p

pub within_8 : (x : ℤ) → FitsSigned w8 x → IsSigned 7 x
within_8 (pos n) p = (omega (arith, ints, p.sfits), omega (arith, ints, p.sfits))
within_8 (negsuc n) p = (omega (arith, ints, p.sfits), omega (arith, ints, p.sfits))

pub within_16 : (x : ℤ) → FitsSigned w16 x → IsSigned 15 x
within_16 (pos n) p = (omega (arith, ints, p.sfits), omega (arith, ints, p.sfits))
within_16 (negsuc n) p = (omega (arith, ints, p.sfits), omega (arith, ints, p.sfits))

pub within_32 : (x : ℤ) → FitsSigned w32 x → IsSigned 31 x
within_32 (pos n) p = (omega (arith, ints, p.sfits), omega (arith, ints, p.sfits))
within_32 (negsuc n) p = (omega (arith, ints, p.sfits), omega (arith, ints, p.sfits))

pub within_64 : (x : ℤ) → FitsSigned w64 x → IsSigned 63 x
within_64 (pos n) p = (omega (arith, ints, p.sfits), omega (arith, ints, p.sfits))
within_64 (negsuc n) p = (omega (arith, ints, p.sfits), omega (arith, ints, p.sfits))
