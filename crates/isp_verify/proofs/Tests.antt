-- Tests of classes, types and operands, and what they say.
use Rattle.std.proofs.Common.{◌≡◌, ◌≢◌, sym, ◌∙◌, ap, refl, subst, ℕ, zero, suc, ◌<◌, Option, Some, None, Bool, true, false, not, ◌&&◌, eqb-true, ltb-true}
use Rattle.std.specs.Prelude.{nat_lt}
use Rattle.isp_base.specs.Ranks.{rank, same_elem}
use Rattle.isp_base.specs.declared.types.Elem.{Elem}
use Rattle.isp_base.specs.declared.types.Elem.TheVariants.{Bool as Truth, I8, U8, I16, U16, I32, U32, I64, U64}
use Rattle.isp_code.specs.declared.register.Class.{Class}
use Rattle.isp_code.specs.declared.register.Class.TheVariants as class
use Rattle.isp_code.specs.Registers.{same_class}
use Rattle.isp_verify.specs.Faults.{or_later, unless, there}
use Rattle.isp_verify.specs.declared.fault.Rule.{Rule}
use Rattle.isp_verify.specs.declared.fault.Rule.TheVariants.{BadRegister, BadKind}

elem_at : ℕ → Elem
elem_at zero = Truth
elem_at (suc zero) = I8
elem_at (suc (suc zero)) = U8
elem_at (suc (suc (suc zero))) = I16
elem_at (suc (suc (suc (suc zero)))) = U16
elem_at (suc (suc (suc (suc (suc zero))))) = I32
elem_at (suc (suc (suc (suc (suc (suc zero)))))) = U32
elem_at (suc (suc (suc (suc (suc (suc (suc zero))))))) = I64
elem_at (suc (suc (suc (suc (suc (suc (suc (suc n)))))))) = U64

back : (t : Elem) → elem_at (rank t) ≡ t
unfolding elem_at
back Truth = refl
back I8 = refl
back U8 = refl
back I16 = refl
back U16 = refl
back I32 = refl
back U32 = refl
back I64 = refl
back U64 = refl

pub same_elem-is : (a b : Elem) → same_elem a b ≡ true → a ≡ b
same_elem-is a b e = sym (back a) ∙ ap elem_at (eqb-true _ _ e) ∙ back b

pub same_elem-not : (a : Elem) → not (same_elem a Truth) ≡ true → a ≢ Truth
same_elem-not a e is = let f = subst (λ t. not (same_elem t Truth) ≡ true) is e in cc

pub same_class-is : (a b : Class) → same_class a b ≡ true → a ≡ b
same_class-is class.Scalar class.Scalar e = refl
same_class-is class.Vector class.Vector e = refl
same_class-is class.Mask class.Mask e = refl
same_class-is class.Array class.Array e = refl
same_class-is class.Scalar class.Vector e = cc
same_class-is class.Scalar class.Mask e = cc
same_class-is class.Scalar class.Array e = cc
same_class-is class.Vector class.Scalar e = cc
same_class-is class.Vector class.Mask e = cc
same_class-is class.Vector class.Array e = cc
same_class-is class.Mask class.Scalar e = cc
same_class-is class.Mask class.Vector e = cc
same_class-is class.Mask class.Array e = cc
same_class-is class.Array class.Scalar e = cc
same_class-is class.Array class.Vector e = cc
same_class-is class.Array class.Mask e = cc

pub both_first : (a b : Bool) → (a && b) ≡ true → a ≡ true
both_first true b e = refl
both_first false b e = cc

pub both_second : (a b : Bool) → (a && b) ≡ true → b ≡ true
both_second true b e = e
both_second false b e = cc

pub not_true : (a : Bool) → not a ≡ true → a ≡ false
not_true true e = cc
not_true false e = refl

pub none_first : {A : Type 0} (a b : Option A) → or_later a b ≡ None → a ≡ None
none_first None b e = refl
none_first (Some x) b e = e

pub none_later : {A : Type 0} (a b : Option A) → or_later a b ≡ None → b ≡ None
none_later None b e = e
none_later (Some x) b e = cc

pub unless_none : (b : Bool) (r : Rule) → unless b r ≡ None → b ≡ true
unless_none true r e = refl
unless_none false r e = cc

pub below : (i n : ℕ) (r : Rule) → unless (nat_lt i n) r ≡ None → i < n
below i n r e = ltb-true i n (unless_none (nat_lt i n) r e)

pub there_low : (i n : ℕ) (b : Bool) → there i n b ≡ None → i < n
there_low i n b e = below i n BadRegister (none_first (unless (nat_lt i n) BadRegister) (unless b BadKind) e)

pub there_kind : (i n : ℕ) (b : Bool) → there i n b ≡ None → b ≡ true
there_kind i n b e = unless_none b BadKind (none_later (unless (nat_lt i n) BadRegister) (unless b BadKind) e)
