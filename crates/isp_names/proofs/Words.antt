-- What the lexer gives for a name.
use Rattle.std.proofs.Common.{◌≡◌, ◌∙◌, ◌+◌, ◌≤◌, ℕ, All, None, List, [], ◌∷◌, length, ap, refl, subst, sym, length-append, arith}
use Rattle.std.proofs.lemmas.List.{append-nil}
use Rattle.isp_lex.specs.declared.token.Token.{Token}
use Rattle.isp_lex.specs.declared.token.TokenKind.{TokenKind}
use Rattle.isp_lex.specs.declared.token.TokenKind.TheVariants as kind
use Rattle.isp_lex.specs.Lexing.{IsText, IsWhole, Lexes, done, limit, slice, span, token}
use Rattle.isp_lex.specs.Spelling.{spelling}
use Rattle.isp_exprs.specs.Callees.{library_named}
use Rattle.isp_names.specs.Renames.{IsName, MayBeGiven}

abbrev pub name_token : List ℕ → Token
name_token w = record { kind = kind.Word w; span = span 0 (length w) }

name_whole : (w : List ℕ) → IsWhole w []
name_whole w = record {
  ended = λ _. refl;
  longest = λ mark after e. omega (arith, ap length e, length-append w [], length-append (spelling mark) after);
  alone = λ _. refl;
}

pub name_lexes : (w : List ℕ) → IsText (kind.Word w) w → Lexes 0 w (name_token w ∷ []) []
name_lexes w h = subst (λ (t : List ℕ). Lexes 0 t (name_token w ∷ []) []) (append-nil w) (token 0 (kind.Word w) w [] [] [] h (name_whole w) (done (0 + length w) []))

-- a name is one token
pub name_tokens : (w : List ℕ) → IsName w → Lexes 0 w (name_token w ∷ []) []
name_tokens w n = name_lexes w n.word

-- and what is one token of it is a name
pub named_by : (w : List ℕ) (t : Token) → t.kind ≡ kind.Word w → IsText t.kind (slice t.span w) → length w ≤ limit → IsName w
named_by w t e h short =
    let word = subst (λ (k : TokenKind). IsText k (slice t.span w)) e h in
    record { word = subst (λ (s : List ℕ). IsText (kind.Word w) s) (sym word.0) word; short = short }

-- and if no function of the library has it, it may be given
pub may_be_given : (w : List ℕ) (ts us : List Token) → us ≡ ts → All (λ (t : Token). IsText t.kind (slice t.span w)) ts → length w ≤ limit
    → (t : Token) × (us ≡ t ∷ []) × (t.kind ≡ kind.Word w) × (library_named w ≡ None) → MayBeGiven w
may_be_given w ts us same texts short h =
    let all : All (λ (t : Token). IsText t.kind (slice t.span w)) (h.0 ∷ []) = subst (All (λ (t : Token). IsText t.kind (slice t.span w))) (sym same ∙ h.1) texts in
    record { named = named_by w h.0 h.2 (all 0 h.0 (omega (arith))) short; own = h.3 }
