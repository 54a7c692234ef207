-- The words of the first line, and what is wrong with them.
use Rattle.std.specs.Prelude.{◌≡◌, ◌≢◌, ℕ, ◌<◌, ◌^◌, true, false, ◌==◌, List, [], ◌∷◌, Some, None, codes, if◌then◌else◌}
use Rattle.std.specs.Fmt.{decimal}
use Rattle.std.specs.Str.Parse.{digits_value}
use Rattle.std.proofs.Common.{refl, sym, ap, ◌∙◌, arith}
use Rattle.std.proofs.lemmas.Bool.Decides.{nat_tests}
use Rattle.std.proofs.lemmas.Fmt.{digits_value-decimal}
use Rattle.isp_base.specs.Types.{gang_width}
use Rattle.isp_base.specs.declared.types.Gang.{Gang}
use Rattle.isp_base.specs.declared.types.Gang.TheVariants.{W4, W8, W16, W32}
use Rattle.isp_asm.specs.Faults.{goes_with}
use Rattle.isp_asm.specs.Forms.{NumberIn, OneOf, is_gang, is_version, word_fault}
use Rattle.isp_asm.specs.Spelling.{version_of}
use Rattle.isp_asm.specs.declared.fault.Rule.TheVariants.{BadOperand}
use Rattle.isp_asm.specs.declared.head.Head.TheVariants as head
use Rattle.isp_asm.specs.reader.Reading.{behind_fault}
use Rattle.isp_asm.proofs.Numerals.{own, version_below}

width_below : (g : Gang) → gang_width g < 2 ^ 64
width_below W4 = omega arith
width_below W8 = omega arith
width_below W16 = omega arith
width_below W32 = omega arith

pub width_value : (g : Gang) → digits_value 10 (decimal (gang_width g)) ≡ gang_width g
width_value g = digits_value-decimal own (gang_width g) (width_below g)

has_version : (g : Gang) → is_version (version_of g) ≡ true
has_version W4 = refl
has_version W8 = refl
has_version W16 = refl
has_version W32 = refl

pub version_value : (g : Gang) → digits_value 10 (decimal (version_of g)) ≡ version_of g
version_value g = digits_value-decimal own (version_of g) (version_below (version_of g) (has_version g))

-- the version that goes with the lanes of a gang is the gang's
goes_alone : (g : Gang) (v : ℕ) → goes_with (gang_width g) v ≡ (v == version_of g)
goes_alone W4 v = refl
goes_alone W8 v = refl
goes_alone W16 v = refl
goes_alone W32 v = refl

pub version_goes : (g : Gang) → goes_with (gang_width g) (version_of g) ≡ true
version_goes W4 = refl
version_goes W8 = refl
version_goes W16 = refl
version_goes W32 = refl

number_of : (n : ℕ) (w : List ℕ) → decimal n ≡ w → n < 2 ^ 64 → digits_value 10 w ≡ n
number_of n w e l = ap (λ v. digits_value 10 v) (sym e) ∙ digits_value-decimal own n l

pub header_read : (a b d : List ℕ) (v : ℕ) (g : Gang) → decimal v ≡ a → decimal (gang_width g) ≡ d → is_version v ≡ true
    → word_fault (NumberIn is_version) a ≡ None → word_fault (OneOf (codes "gang" ∷ [])) b ≡ None → word_fault (NumberIn is_gang) d ≡ None
    → behind_fault head.Isp (a ∷ b ∷ d ∷ []) ≡ (if v == version_of g then None else Some BadOperand)
header_read a b d v g ea ed f na nb nd =
    rw (na, nb, nd, number_of v a ea (version_below v f), number_of (gang_width g) d ed (width_below g), goes_alone g v) refl

pub same : (v w : ℕ) (g : Gang) → v ≡ w → w ≡ version_of g → (v == version_of g) ≡ true
same v w g e k = grind (arith, nat_tests)

pub other : (v w : ℕ) (g : Gang) → v ≢ w → w ≡ version_of g → (v == version_of g) ≡ false
other v w g e k = grind (arith, nat_tests)
