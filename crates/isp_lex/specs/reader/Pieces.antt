-- What the code finds at the front of a text.
use Rattle.std.specs.Prelude.{◌≡◌, ℕ, ◌<◌, true, false, cond, List, [], ◌∷◌, ◌++◌, length, drop, Option, Some, None, ◌⊎◌}
use Rattle.std.specs.Str.{IsUtf8, IsCharBoundary}
use Rattle.isp_lex.specs.declared.token.Token.{Token}
use Rattle.isp_lex.specs.declared.token.TokenKind.{TokenKind}
use Rattle.isp_lex.specs.declared.token.TokenKind.TheVariants as kind
use Rattle.std.specs.Char.{is_ascii_digit}
use Rattle.isp_base.specs.declared.types.Value.{Value}
use Rattle.isp_lex.specs.declared.fault.SourceFault.{SourceFault}
use Rattle.isp_lex.specs.declared.fault.SourceFault.TheVariants.{Memory, Refused}
use Rattle.isp_lex.specs.declared.piece.Piece.{Piece}
use Rattle.isp_lex.specs.Bytes.{is_blank, is_word_byte, begins, next_is}
use Rattle.isp_lex.specs.Faults.{fault}
use Rattle.isp_lex.specs.Lexing.{IsComment, IsFault, IsText, IsWhole, opens, span}
use Rattle.isp_lex.specs.declared.fault.Rule.TheVariants.{BadNumber}
use Rattle.isp_lex.specs.reader.Words.{word_kind}
use Rattle.isp_lex.specs.reader.Numerals.{read_number}

abbrev pub number_piece : Option Value → ℕ → Option Piece
number_piece None n = None
number_piece (Some v) n = Some (record { token = Some (kind.Number v); len = n })

-- a number, or a word
abbrev pub run_piece : List ℕ → Option Piece
run_piece text =
    cond (begins is_ascii_digit text) (number_piece (read_number text) (length text)) (Some (record { token = Some (word_kind text); len = length text }))

-- what is passed over, or a token
abbrev pub Passes : Option TokenKind → List ℕ → List ℕ → Type 0
Passes None text after = ((b : ℕ) × (text ≡ b ∷ []) × (is_blank b ≡ true)) ⊎ IsComment text after
Passes (Some k) text after = IsText k text × IsWhole text after

-- the piece stands at the front of the bytes: what it stands for, and what follows
pub record Front (bs : List ℕ) (p : Piece) : Type 0 where
  pub text : List ℕ
  pub after : List ℕ
  pub split : bs ≡ text ++ after
  pub size : length text ≡ p.len
  pub some : 0 < p.len
  pub cut : IsUtf8 bs → IsCharBoundary bs p.len
  pub passes : Passes p.token text after

-- what is passed over stands at the front, with its length
abbrev pub Skips : List ℕ → ℕ → Type 0
Skips text n = Front text (record { token = None; len = n })

-- the first byte begins no comment
abbrev pub NoComment : List ℕ → Type 0
NoComment text = begins opens (drop 1 text) ≡ false

-- neither a blank, a word, a number, a text in quotes nor a comment comes first
pub record BeginsSign (text : List ℕ) : Type 0 where
  pub no_blank : begins is_blank text ≡ false
  pub no_word : begins is_word_byte text ≡ false
  pub no_quote : next_is 34 text ≡ false
  pub no_comment : next_is 47 text ≡ true → NoComment text

-- memory was refused, or the text begins with the fault
abbrev pub StopsAt : ℕ → SourceFault → List ℕ → Type 0
StopsAt place Memory text = Unit {0}
StopsAt place (Refused f) text = IsFault place text f

-- memory was refused, or the run is no number
abbrev pub NoNumber : ℕ → SourceFault → List ℕ → Type 0
NoNumber place Memory text = Unit {0}
NoNumber place (Refused f) text =
    (begins is_ascii_digit text ≡ true) × (read_number text ≡ None) × (f ≡ fault BadNumber (span place (length text)))

-- the tokens so far and the one that was found
abbrev pub with_token : List Token → ℕ → Option TokenKind → ℕ → List Token
with_token tokens place None n = tokens
with_token tokens place (Some k) n = tokens ++ record { kind = k; span = span place n } ∷ []

abbrev pub with_piece : List Token → ℕ → Piece → List Token
with_piece tokens place p = with_token tokens place p.token p.len
