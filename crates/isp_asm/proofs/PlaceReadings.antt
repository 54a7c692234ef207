-- The words of a place, and what is wrong with them.
use Rattle.std.specs.Prelude.{◌≡◌, ℕ, ◌<◌, ◌≤◌, true, false, List, [], ◌∷◌, Some, None, if◌then◌else◌}
use Rattle.std.specs.Fmt.{decimal}
use Rattle.std.specs.Str.Parse.{digits_value}
use Rattle.std.proofs.Common.{refl, sym, ap, ◌∙◌, arith}
use Rattle.std.proofs.lemmas.Bool.Decides.{nat_tests}
use Rattle.std.proofs.lemmas.Fmt.{digits_value-decimal}
use Rattle.isp_code.specs.Writable.{number_fits, place_fits}
use Rattle.isp_asm.specs.Forms.{digits_fault}
use Rattle.isp_asm.specs.declared.fault.Rule.TheVariants.{BadOperand}
use Rattle.isp_asm.specs.declared.head.Head.TheVariants as head
use Rattle.isp_asm.specs.reader.Reading.{behind_fault}
use Rattle.isp_asm.proofs.Numerals.{own, number_lt}

value_of : (n : ℕ) (w : List ℕ) → decimal n ≡ w → number_fits n ≡ true → digits_value 10 w ≡ n
value_of n w e f = ap (λ v. digits_value 10 v) (sym e) ∙ digits_value-decimal own n (number_lt n f)

pub place_read : (ws : List (List ℕ)) (a b : List ℕ) (s e : ℕ) → ws ≡ a ∷ b ∷ [] → decimal s ≡ a → decimal e ≡ b → number_fits s ≡ true
    → number_fits e ≡ true → digits_fault BadOperand number_fits a ≡ None → digits_fault BadOperand number_fits b ≡ None
    → behind_fault head.Place ws ≡ (if place_fits (record { start = s; end = e }) then None else Some BadOperand)
place_read ws a b s e w ea eb fs fe na nb =
    ap (λ vs. behind_fault head.Place vs) w ∙ (rw (na, nb, value_of s a ea fs, value_of e b eb fe) refl)

pub in_order : (s e : ℕ) → s ≤ e → e ≤ 1048576 → place_fits (record { start = s; end = e }) ≡ true
in_order s e l m = grind (arith, nat_tests)

pub ends_late : (s e : ℕ) → 1048576 < e → place_fits (record { start = s; end = e }) ≡ false
ends_late s e l = grind (arith, nat_tests)

pub out_of_order : (s e : ℕ) → e < s → place_fits (record { start = s; end = e }) ≡ false
out_of_order s e l = grind (arith, nat_tests)
