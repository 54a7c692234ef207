-- What a numeral reads as.
use Rattle.std.proofs.Common.{◌≡◌, ℕ, ◌<◌, ◌^◌, Bool, true, false, cond, List, [], ◌∷◌, Some, None, Result, Ok, Err, refl, sym, subst, arith}
use Rattle.std.specs.Prelude.{◌&&◌, ◌==◌, nat_lt}
use Rattle.std.specs.Result.{result_ok, OkIff}
use Rattle.std.specs.Char.{digit_value}
use Rattle.std.specs.Str.Parse.{AllDigits, IsNumeral, digits_value, ParsesUnsigned, without_leading_plus}
use Rattle.std.proofs.lemmas.Bool.{lt-ltb, ltb-true}
use Rattle.std.proofs.lemmas.Bool.Decides.{nat_tests}
use Rattle.isp_lex.specs.Bytes.{all, is_word_byte}
use Rattle.isp_lex.specs.reader.Numerals.{all_digits, numeral}
use Rattle.isp_lex.proofs.Runs.{and_both}

pub digits_are : (radix : ℕ) (ds : List ℕ) → all_digits radix ds ≡ true → AllDigits radix ds
digits_are radix [] e = tt
digits_are radix (d ∷ ds) e =
    let q = and_both (nat_lt (digit_value d) radix) (all_digits radix ds) e in
    (ltb-true _ _ q.0, digits_are radix ds q.1)

pub digits_found : (radix : ℕ) (ds : List ℕ) → AllDigits radix ds → all_digits radix ds ≡ true
digits_found radix [] h = refl
digits_found radix (d ∷ ds) h = rw (lt-ltb _ _ h.0, digits_found radix ds h.1) refl

-- the test of `numeral`
abbrev fits : ℕ → List ℕ → Bool
fits radix ds = all_digits radix ds && nat_lt (digits_value radix ds) (2 ^ 64)

fits_is : (radix : ℕ) (ds : List ℕ) → fits radix ds ≡ true → AllDigits radix ds × (digits_value radix ds < 2 ^ 64)
fits_is radix ds e =
    let q = and_both (all_digits radix ds) (nat_lt (digits_value radix ds) (2 ^ 64)) e in
    (digits_are radix ds q.0, ltb-true _ _ q.1)

err_fits : (radix d : ℕ) (ds : List ℕ) (t : Bool) → fits radix (d ∷ ds) ≡ t → ((IsNumeral radix (d ∷ ds) × (digits_value radix (d ∷ ds) < 2 ^ 64)) → ⊥) → numeral radix (d ∷ ds) ≡ None
err_fits radix d ds true e h = let f = fits_is radix (d ∷ ds) e in absurd (h ((omega arith, f.0), f.1))
err_fits radix d ds false e h = rw e refl

numeral_plain : {E : Type 0} (radix : ℕ) (ds : List ℕ) (r : Result ℕ E) → OkIff r (IsNumeral radix ds × (digits_value radix ds < 2 ^ 64)) (digits_value radix ds) → result_ok r ≡ numeral radix ds
numeral_plain radix [] (Ok x) h = absurd (omega (arith, h.0.0.0))
numeral_plain radix [] (Err e) h = refl
numeral_plain radix (d ∷ ds) (Ok x) h = rw (digits_found radix (d ∷ ds) h.0.0.1, lt-ltb _ _ h.0.1, h.1) refl
numeral_plain radix (d ∷ ds) (Err e) h = sym (err_fits radix d ds (fits radix (d ∷ ds)) refl h)

-- a byte of a word is no `+`
no_plus : (b : ℕ) → is_word_byte b ≡ true → (b == 43) ≡ false
no_plus b e = grind (arith, nat_tests)

same_text : (ds : List ℕ) → all is_word_byte ds ≡ true → without_leading_plus ds ≡ ds
same_text [] h = refl
same_text (d ∷ ds) h = rw (no_plus d (and_both (is_word_byte d) (all is_word_byte ds) h).0) refl

pub numeral_gives : {E : Type 0} (radix : ℕ) (ds : List ℕ) (r : Result ℕ E) → all is_word_byte ds ≡ true → ParsesUnsigned 64 radix ds r → result_ok r ≡ numeral radix ds
numeral_gives radix ds r h p =
    numeral_plain radix ds r (subst (λ (l : List ℕ). OkIff r (IsNumeral radix l × (digits_value radix l < 2 ^ 64)) (digits_value radix l)) (same_text ds h) p)

numeral_sound_at : (radix d : ℕ) (ds : List ℕ) (n : ℕ) (t : Bool) → fits radix (d ∷ ds) ≡ t → cond t (Some (digits_value radix (d ∷ ds))) None ≡ Some n → IsNumeral radix (d ∷ ds) × (n ≡ digits_value radix (d ∷ ds))
numeral_sound_at radix d ds n true f e = ((omega arith, (fits_is radix (d ∷ ds) f).0), cc)
numeral_sound_at radix d ds n false f e = absurd cc

-- a numeral read is the number that its digits write
pub numeral_sound : (radix : ℕ) (ds : List ℕ) (n : ℕ) → numeral radix ds ≡ Some n → IsNumeral radix ds × (n ≡ digits_value radix ds)
numeral_sound radix [] n e = absurd cc
numeral_sound radix (d ∷ ds) n e = numeral_sound_at radix d ds n (fits radix (d ∷ ds)) refl e

pub numeral_complete : (radix : ℕ) (ds : List ℕ) → IsNumeral radix ds → digits_value radix ds < 2 ^ 64 → numeral radix ds ≡ Some (digits_value radix ds)
numeral_complete radix [] h l = absurd (omega (arith, h.0))
numeral_complete radix (d ∷ ds) h l = rw (digits_found radix (d ∷ ds) h.1, lt-ltb _ _ l) refl
