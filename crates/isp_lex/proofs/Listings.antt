-- What is true of every list of tokens.
use Rattle.std.proofs.Common.{◌≡◌, ℕ, ◌+◌, ◌<◌, ◌≤◌, List, [], ◌∷◌, length, sym, subst, arith, length-append}
use Rattle.std.specs.List.{All}
use Rattle.std.proofs.lemmas.List.Elements.{All-nil, All-cons}
use Rattle.isp_base.specs.declared.types.Elem.{Elem}
use Rattle.isp_base.specs.Values.{greatest}
use Rattle.isp_lex.specs.declared.token.Token.{Token}
use Rattle.isp_lex.specs.declared.token.TokenKind.{TokenKind}
use Rattle.isp_lex.specs.declared.token.TokenKind.TheVariants as kind
use Rattle.isp_lex.specs.Lexing.{IsText, Lexes, done, blank, comment, token, span}
use Rattle.isp_lex.specs.Listed.{AreTokens, InOrder, IsKind, IsListed, IsToken}
use Rattle.isp_lex.specs.Numbers.{FirstFit, here, later}
use Rattle.isp_lex.specs.Tokens.{TokenList}
use Rattle.isp_lex.proofs.Steps.{no_text}

first_fits : {types : List Elem} {n : ℕ} {t : Elem} → FirstFit types n t → n ≤ greatest t
first_fits (here t ts n h) = h
first_fits (later t u ts n h f) = first_fits f

text_kind : (k : TokenKind) (text : List ℕ) → IsText k text → IsKind k
text_kind (kind.Word name) text i = subst (λ (word : List ℕ). IsKind (kind.Word word)) (sym i.0) (i.1, i.2)
text_kind (kind.Number v) text i = first_fits i.fits
text_kind (kind.Text bytes) text i = tt
text_kind (kind.Mark m) text i = tt
text_kind kind.LeftOut text i = tt

text_some : (k : TokenKind) (text : List ℕ) → IsText k text → 0 < length text
text_some k [] i = absurd (no_text k i)
text_some k (b ∷ bs) i = omega arith

few_at : {place : ℕ} {text : List ℕ} {ts : List Token} {rest : List ℕ} → Lexes place text ts rest → length ts ≤ length text
few_at (done place rest) = omega arith
few_at (blank place b text ts rest e d) = omega (arith, few_at d)
few_at (comment place text after ts rest i d) = omega (arith, few_at d, length-append text after)
few_at (token place k text after ts rest i w d) = omega (arith, few_at d, text_some k text i, length-append text after)

each_at : {place : ℕ} {text : List ℕ} {ts : List Token} {rest : List ℕ} → Lexes place text ts rest → (size : ℕ) → place + length text ≡ size → All (IsToken size) ts
each_at (done place rest) size e = All-nil _
each_at (blank place b text ts rest h d) size e = each_at d size (omega arith)
each_at (comment place text after ts rest i d) size e = each_at d size (omega (arith, length-append text after))
each_at (token place k text after ts rest i w d) size e =
    let t : Token = record { kind = k; span = span place (length text) } in
    let more = each_at d size (omega (arith, length-append text after)) in
    All-cons (IsToken size) t ts (record { some = omega (arith, text_some k text i); within = omega (arith, length-append text after); kind = text_kind k text i }) more

order_at : {place : ℕ} {text : List ℕ} {ts : List Token} {rest : List ℕ} → Lexes place text ts rest → (from : ℕ) → from ≤ place → InOrder from ts
order_at (done place rest) from e = tt
order_at (blank place b text ts rest h d) from e = order_at d from (omega arith)
order_at (comment place text after ts rest i d) from e = order_at d from (omega arith)
order_at (token place k text after ts rest i w d) from e = (e, order_at d (place + length text) (omega arith))

-- what layers above may rely on
pub laws : (list : TokenList) → IsListed list → AreTokens list
laws list i = record {
  short = i.short;
  few = omega (arith, few_at i.lexed, i.size);
  each = each_at i.lexed list.end (omega (arith, i.size));
  order = order_at i.lexed 0 (omega arith);
}
