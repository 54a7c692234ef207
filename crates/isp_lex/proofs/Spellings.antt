-- What holds of the spelling of each mark.
use Rattle.std.proofs.Common.{◌≡◌, ℕ, ◌<◌, Bool, true, false, List, [], ◌∷◌, ◌++◌, length, refl, ap, ◌∙◌, arith}
use Rattle.std.specs.Prelude.{◌||◌, not, nat_lt}
use Rattle.std.specs.Str.{IsAscii}
use Rattle.std.proofs.lemmas.Bool.{false≢true, ltb-true}
use Rattle.std.proofs.lemmas.Str.Ascii.{IsAscii-nil, IsAscii-cons}
use Rattle.isp_lex.specs.declared.token.Mark.{Mark}
use Rattle.isp_lex.specs.declared.token.Mark.TheVariants as mark
use Rattle.isp_lex.specs.Bytes.{all, begins, is_blank, is_letter, is_word_byte, next_is}
use Rattle.isp_lex.specs.Spelling.{spelling}
use Rattle.isp_lex.proofs.Runs.{and_both}

-- a sign or a word: its bytes are those of words, all or not even the first
abbrev pub is_word_or_sign : List ℕ → Bool
is_word_or_sign text = all is_word_byte text || not (begins is_word_byte text)

pub mark_words : (m : Mark) → is_word_or_sign (spelling m) ≡ true
mark_words mark.ParenOpen = refl
mark_words m = refl

pub mark_letter : (m : Mark) → begins is_letter (spelling m) ≡ begins is_word_byte (spelling m)
mark_letter mark.ParenOpen = refl
mark_letter m = refl

pub mark_blank : (m : Mark) → begins is_blank (spelling m) ≡ false
mark_blank mark.ParenOpen = refl
mark_blank m = refl

pub mark_quote : (m : Mark) → next_is 34 (spelling m) ≡ false
mark_quote mark.ParenOpen = refl
mark_quote m = refl

mark_long : (m : Mark) → nat_lt 0 (length (spelling m)) ≡ true
mark_long mark.ParenOpen = refl
mark_long m = refl

pub mark_some : (m : Mark) → 0 < length (spelling m)
mark_some m = ltb-true 0 (length (spelling m)) (mark_long m)

mark_low : (m : Mark) → all (λ b. nat_lt b 128) (spelling m) ≡ true
mark_low mark.ParenOpen = refl
mark_low m = refl

all_ascii : (text : List ℕ) → all (λ b. nat_lt b 128) text ≡ true → IsAscii text
all_ascii [] h = IsAscii-nil
all_ascii (b ∷ bs) h =
    let q = and_both (nat_lt b 128) (all (λ b. nat_lt b 128) bs) h in
    IsAscii-cons b bs (ltb-true b 128 q.0) (all_ascii bs q.1)

pub mark_ascii : (m : Mark) → IsAscii (spelling m)
mark_ascii m = all_ascii (spelling m) (mark_low m)

-- the first of two texts, where it has one, is the first of what begins with it
pub begins_front : (p : ℕ → Bool) (text after : List ℕ) → 0 < length text → begins p (text ++ after) ≡ begins p text
begins_front p [] after l = absurd (omega arith)
begins_front p (b ∷ bs) after l = refl

-- what does not begin as a mark does begins with none
pub mark_begins : (p : ℕ → Bool) (m : Mark) (text after : List ℕ) → text ≡ spelling m ++ after → begins p text ≡ begins p (spelling m)
mark_begins p m text after e = ap (begins p) e ∙ begins_front p (spelling m) after (mark_some m)

word_at : (text : List ℕ) (s t : Bool) → all is_word_byte text ≡ s → begins is_word_byte text ≡ t → (s || not t) ≡ true → t ≡ true → all is_word_byte text ≡ true
word_at text true t e f h g = e
word_at text false true e f h g = absurd (false≢true h)
word_at text false false e f h g = absurd (false≢true g)

-- a mark that begins as a word does is one
pub mark_word : (m : Mark) → begins is_word_byte (spelling m) ≡ true → (begins is_letter (spelling m) ≡ true) × (all is_word_byte (spelling m) ≡ true)
mark_word m e = (mark_letter m ∙ e, word_at (spelling m) _ _ refl refl (mark_words m) e)
