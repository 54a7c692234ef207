-- What parsing promises, by the grammar alone.
use Rattle.std.specs.Prelude.{◌≡◌, ◌⊎◌, ℕ, ◌<◌, List, [], ◌∷◌, ◌++◌, map, Result, Ok, Err}
use Rattle.isp_base.specs.declared.types.Span.{Span}
use Rattle.isp_lex.specs.Faults.{fault}
use Rattle.isp_lex.specs.Tokens.{TokenList}
use Rattle.isp_lex.specs.declared.fault.Fault.{Fault}
use Rattle.isp_lex.specs.declared.fault.Rule.{Rule}
use Rattle.isp_lex.specs.declared.fault.Rule.TheVariants.{Unexpected, TooDeep, LeftOut}
use Rattle.isp_lex.specs.declared.fault.SourceFault.{SourceFault}
use Rattle.isp_lex.specs.declared.fault.SourceFault.TheVariants.{Memory, Refused}
use Rattle.isp_lex.specs.declared.token.Token.{Token}
use Rattle.isp_lex.specs.declared.token.TokenKind.{TokenKind}
use Rattle.isp_lex.specs.declared.token.TokenKind.TheVariants as kind
use Rattle.isp_grammar.specs.Grammar.{IsProgram}
use Rattle.isp_tree.specs.Depth.{depth_of_functions}
use Rattle.isp_tree.specs.Tree.{Function}
use Rattle.isp_tree.specs.Views.{functions_of}
use Rattle.isp_tree.specs.declared.tree.Tree.{Tree}

-- how deep a tree may be
abbrev pub limit : ℕ
limit = 128

abbrev pub kinds : List Token → List TokenKind
kinds = map (λ t. t.kind)

-- Some program begins with tokens of these kinds. It may have any length and depth, and its tokens may stand anywhere.
pub record Begins (front : List TokenKind) : Type 0 where
  pub tokens : List Token
  pub rest : List TokenKind
  pub functions : List Function
  pub split : kinds tokens ≡ front ++ rest
  pub is : IsProgram tokens functions

-- where the first of these tokens stands: at the end of the text an empty span
abbrev pub refused_span : ℕ → List Token → Span
refused_span end [] = record { start = end; end = end }
refused_span end (t ∷ ts) = t.span

-- the rule that a token breaks which may not stand where it stands
abbrev pub rule_of : TokenKind → Rule
rule_of (kind.Word n) = Unexpected
rule_of (kind.Number v) = Unexpected
rule_of (kind.Text t) = Unexpected
rule_of (kind.Mark m) = Unexpected
rule_of kind.LeftOut = LeftOut

abbrev pub rule_at : List Token → Rule
rule_at [] = Unexpected
rule_at (t ∷ ts) = rule_of t.kind

-- The tokens before the refused one begin a program, and with it they begin none. The end of the text is refused
-- where all the tokens begin a program and are none.
pub record IsFirstBad (text : TokenList) (f : Fault) : Type 0 where
  pub before : List Token
  pub after : List Token
  pub split : text.items ≡ before ++ after
  pub is : f ≡ fault (rule_at after) (refused_span text.end after)
  pub begins : Begins (kinds before)
  pub no_further : (t : Token) (rest : List Token) → after ≡ t ∷ rest → Begins (kinds before ++ t.kind ∷ []) → ⊥
  pub no_program : (fs : List Function) → IsProgram text.items fs → ⊥

-- The tokens up to the refused one begin programs, and each of these is deeper than the limit.
pub record IsTooDeep (text : TokenList) (f : Fault) : Type 0 where
  pub before : List Token
  pub refused : Token
  pub after : List Token
  pub split : text.items ≡ before ++ refused ∷ after
  pub is : f ≡ fault TooDeep refused.span
  pub begins : Begins (kinds before ++ refused.kind ∷ [])
  pub all_deep : (b : Begins (kinds before ++ refused.kind ∷ [])) → limit < depth_of_functions b.functions

-- what a refusal means
abbrev pub Refuses : SourceFault → TokenList → Type 0
Refuses Memory text = Unit {0}
Refuses (Refused f) text = IsFirstBad text f ⊎ IsTooDeep text f

-- That tree was given, unless memory ran out.
abbrev pub GivesTree : Result Tree SourceFault → List Function → Type 0
GivesTree (Ok t) fs = functions_of t ≡ fs
GivesTree (Err Memory) fs = Unit {0}
GivesTree (Err (Refused f)) fs = ⊥
