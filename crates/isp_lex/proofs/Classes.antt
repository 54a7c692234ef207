-- Classes of bytes.
use Rattle.std.proofs.Common.{◌≡◌, ℕ, ◌<◌, Bool, true, false, List, [], ◌∷◌, arith}
use Rattle.std.specs.Char.{is_ascii_digit}
use Rattle.std.proofs.lemmas.Bool.{false≢true}
use Rattle.std.proofs.lemmas.Bool.Decides.{nat_tests}
use Rattle.isp_lex.specs.Bytes.{begins, is_blank, is_letter, is_word_byte}

pub digit_word : (b : ℕ) → is_ascii_digit b ≡ true → is_word_byte b ≡ true
digit_word b e = grind (arith, nat_tests)

pub letter_word : (b : ℕ) → is_letter b ≡ true → is_word_byte b ≡ true
letter_word b e = grind (arith, nat_tests)

pub letter_no_digit : (b : ℕ) → is_letter b ≡ true → is_ascii_digit b ≡ false
letter_no_digit b e = grind (arith, nat_tests)

pub word_no_digit : (b : ℕ) → is_word_byte b ≡ true → is_ascii_digit b ≡ false → is_letter b ≡ true
word_no_digit b e f = grind (arith, nat_tests)

pub blank_no_word : (b : ℕ) → is_word_byte b ≡ true → is_blank b ≡ false
blank_no_word b e = grind (arith, nat_tests)

pub blank_ascii : (b : ℕ) → is_blank b ≡ true → b < 128
blank_ascii b e = grind (arith, nat_tests)

pub begins_word : (p : ℕ → Bool) (text : List ℕ) → ((b : ℕ) → p b ≡ true → is_word_byte b ≡ true) → begins p text ≡ true → begins is_word_byte text ≡ true
begins_word p [] h e = absurd (false≢true e)
begins_word p (b ∷ bs) h e = h b e
