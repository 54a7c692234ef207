-- The tokens of a text, and the first fault in it.
use Rattle.std.specs.Prelude.{◌≡◌, ℕ, ◌+◌, ◌-◌, ◌<◌, ◌≤◌, List, [], ◌∷◌, ◌++◌, length, take, drop, Bool, true, false, ◌==◌, ◌||◌, ◌⊎◌, codes}
use Rattle.std.specs.Char.{IsScalar, encode_utf8, is_ascii_digit}
use Rattle.isp_base.specs.declared.types.Span.{Span}
use Rattle.isp_base.specs.declared.types.Value.{Value}
use Rattle.isp_lex.specs.declared.fault.Rule.TheVariants.{BadByte, BadNumber, BadText, OpenComment, TooLong}
use Rattle.isp_lex.specs.declared.fault.Fault.{Fault}
use Rattle.isp_lex.specs.declared.fault.SourceFault.{SourceFault}
use Rattle.isp_lex.specs.declared.fault.SourceFault.TheVariants.{Memory, Refused}
use Rattle.isp_lex.specs.declared.token.Mark.{Mark}
use Rattle.isp_lex.specs.declared.token.Token.{Token}
use Rattle.isp_lex.specs.declared.token.TokenKind.{TokenKind}
use Rattle.isp_lex.specs.declared.token.TokenKind.TheVariants as kind
use Rattle.isp_lex.specs.Bytes.{is_blank, is_letter, is_word_byte, is_line_byte, all, begins, next_is}
use Rattle.isp_lex.specs.Faults.{fault}
use Rattle.isp_lex.specs.Numbers.{IsNumber}
use Rattle.isp_lex.specs.Spelling.{spelling, left_out, Among, IsReserved}
use Rattle.isp_lex.specs.Texts.{IsQuoted, StopsBefore}

-- ---- tokens

-- a letter or `_`, then letters, digits and `_`
abbrev pub IsWord : List ℕ → Type 0
IsWord text = (begins is_letter text ≡ true) × (all is_word_byte text ≡ true)

-- how a token of this kind is written
abbrev pub IsText : TokenKind → List ℕ → Type 0
IsText (kind.Word name) text = (name ≡ text) × IsWord text × (IsReserved text → ⊥)
IsText (kind.Number value) text = IsNumber value text
IsText (kind.Text bytes) text = IsQuoted bytes text
IsText (kind.Mark mark) text = text ≡ spelling mark
IsText kind.LeftOut text = Among left_out text

-- a byte that makes a comment of a `/` before it: `/` and `*`
abbrev pub opens : ℕ → Bool
opens byte = byte == 47 || byte == 42

-- The token is not part of a longer one, nor of a comment. A word or a number has ended, no longer sign or reserved
-- word stands there, and `/` stands before no `/` and no `*`.
pub record IsWhole (text rest : List ℕ) : Type 0 where
  pub ended : begins is_word_byte text ≡ true → begins is_word_byte rest ≡ false
  pub longest : (mark : Mark) (after : List ℕ) → text ++ rest ≡ spelling mark ++ after → length (spelling mark) ≤ length text
  pub alone : text ≡ codes "/" → begins opens rest ≡ false

-- ---- comments

-- `*/` stands nowhere in the text
abbrev pub IsOpen : List ℕ → Type 0
IsOpen text = (front rest : List ℕ) → text ≡ front ++ (codes "*/" ++ rest) → ⊥

-- a comment, and what follows it: one goes to the end of the line, the other to the first `*/`
pub data IsComment : List ℕ → List ℕ → Type 0 where
  line : (body rest : List ℕ)
      → all is_line_byte body ≡ true
      → begins is_line_byte rest ≡ false
      → IsComment (codes "//" ++ body) rest
  closed : (body rest : List ℕ)
      → IsOpen (body ++ codes "*")
      → IsComment (codes "/*" ++ (body ++ codes "*/")) rest

-- ---- texts

-- the bytes from a place on, so many
abbrev pub span : ℕ → ℕ → Span
span place size = record { start = place; end = place + size }

-- the bytes of the text that a span names
abbrev pub slice : Span → List ℕ → List ℕ
slice s text = take (s.end - s.start) (drop s.start text)

-- From the place on the text is these tokens, with blanks and comments between them, and then the rest.
pub data Lexes : ℕ → List ℕ → List Token → List ℕ → Type 0 where
  done : (place : ℕ) (rest : List ℕ)
      → Lexes place rest [] rest
  blank : (place byte : ℕ) (text : List ℕ) (tokens : List Token) (rest : List ℕ)
      → is_blank byte ≡ true
      → Lexes (place + 1) text tokens rest
      → Lexes place (byte ∷ text) tokens rest
  comment : (place : ℕ) (text after : List ℕ) (tokens : List Token) (rest : List ℕ)
      → IsComment text after
      → Lexes (place + length text) after tokens rest
      → Lexes place (text ++ after) tokens rest
  token : (place : ℕ) (kind : TokenKind) (text after : List ℕ) (tokens : List Token) (rest : List ℕ)
      → IsText kind text
      → IsWhole text after
      → Lexes (place + length text) after tokens rest
      → Lexes place (text ++ after) (record { kind = kind; span = span place (length text) } ∷ tokens) rest

-- ---- faults

-- the text begins with no blank, no word or number, no text in quotes, no sign, and so with no comment
pub record BeginsNothing (text : List ℕ) : Type 0 where
  pub no_blank : begins is_blank text ≡ false
  pub no_word : begins is_word_byte text ≡ false
  pub no_quote : next_is 34 text ≡ false
  pub no_mark : (mark : Mark) (rest : List ℕ) → text ≡ spelling mark ++ rest → ⊥

-- The text begins with a fault, which stands at the place: a character that begins nothing; a run that begins with a
-- digit and is no number; a text in quotes, up to where it goes on no further; a comment that is not closed.
pub data IsFault : ℕ → List ℕ → Fault → Type 0 where
  bad_byte : (place character : ℕ) (rest : List ℕ)
      → IsScalar character
      → BeginsNothing (encode_utf8 character ++ rest)
      → IsFault place (encode_utf8 character ++ rest) (fault BadByte (span place (length (encode_utf8 character))))
  bad_number : (place : ℕ) (text rest : List ℕ)
      → begins is_ascii_digit text ≡ true
      → all is_word_byte text ≡ true
      → begins is_word_byte rest ≡ false
      → ((value : Value) → IsNumber value text → ⊥)
      → IsFault place (text ++ rest) (fault BadNumber (span place (length text)))
  bad_text : (place : ℕ) (text rest : List ℕ)
      → StopsBefore text rest
      → IsFault place (text ++ rest) (fault BadText (span place (length text)))
  open_comment : (place : ℕ) (text : List ℕ)
      → IsOpen text
      → IsFault place (codes "/*" ++ text) (fault OpenComment (span place (length (codes "/*" ++ text))))

-- how many bytes a source may have
abbrev pub limit : ℕ
limit = 1048576

-- the text before it is tokens, and there it stands
abbrev pub IsFirstFault : Fault → List ℕ → Type 0
IsFirstFault found text =
    (tokens : List Token) × (rest : List ℕ) × Lexes 0 text tokens rest × IsFault (length text - length rest) rest found

-- why a text is refused: it is too long, or else for its first fault
abbrev pub IsRefused : SourceFault → List ℕ → Type 0
IsRefused Memory text = Unit {0}
IsRefused (Refused found) text =
    ((limit < length text) × (found ≡ fault TooLong (span 0 0))) ⊎ ((length text ≤ limit) × IsFirstFault found text)
