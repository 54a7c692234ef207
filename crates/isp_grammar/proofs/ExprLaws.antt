-- What other forms are told of expressions.
use Rattle.std.proofs.Common.{◌≡◌, ℕ, true, List, ◌∷◌}
use Rattle.isp_base.specs.declared.types.Span.{Span}
use Rattle.isp_lex.specs.declared.token.TokenKind.{TokenKind}
use Rattle.isp_lex.specs.declared.token.Token.{Token}
use Rattle.isp_grammar.proofs.Basics.{token}
use Rattle.isp_grammar.proofs.Exprs.{Exprs}
use Rattle.isp_grammar.proofs.ExprsComplete.{ends_same, expr_complete}
use Rattle.isp_grammar.proofs.ExprsRefused.{level_up, first_completes, expr_refused}
use Rattle.isp_grammar.proofs.ExprsSound.{expr_sound}
use Rattle.isp_grammar.proofs.Forms.{IsSound, IsComplete, Can}
use Rattle.isp_grammar.proofs.FormsComplete.{EndsByHead}
use Rattle.isp_grammar.proofs.Refused.{IsRefused}
use Rattle.isp_grammar.specs.reader.Exprs.{begins_expr}

pub exprs_sound : (k n : ℕ) → IsSound (Exprs k) n
exprs_sound k n = expr_sound n k

pub exprs_complete : (k n : ℕ) → IsComplete (Exprs k) n
exprs_complete k n = expr_complete n k

pub exprs_by_head : (k : ℕ) → EndsByHead (Exprs k)
exprs_by_head k = ends_same k

pub exprs_refused : (k n : ℕ) → IsRefused (Exprs k) n
exprs_refused k n = expr_refused n k

pub expr_completes : (j : ℕ) (k : TokenKind) (s : Span) → begins_expr k ≡ true → (closing : List Token) × Can (Exprs j) (token k s ∷ closing)
expr_completes j k s e = let p = first_completes k s e in (p.0, (p.1.0, level_up j (token k s ∷ p.0) p.1.0 p.1.1))
