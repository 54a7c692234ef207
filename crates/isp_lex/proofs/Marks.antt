-- A token is a mark where the test says so.
use Rattle.std.proofs.Common.{◌≡◌, Bool, true, refl, sym, ap, ◌∙◌}
use Rattle.std.specs.Prelude.{◌↔◌, IsTrue}
use denote.Enum.Bare.{same_true, true_same}
use Rattle.isp_lex.specs.contracts.token.Mark.{the_type}
use Rattle.isp_lex.specs.declared.token.Mark.{Mark}
use Rattle.isp_lex.specs.declared.token.TokenKind.{TokenKind}
use Rattle.isp_lex.specs.declared.token.TokenKind.TheVariants as kind
use Rattle.isp_lex.specs.Tokens.{is_mark}

pub is_mark_is : (m : Mark) (k : TokenKind) → is_mark m k ≡ true → k ≡ kind.Mark m
is_mark_is m (kind.Word w) e = absurd cc
is_mark_is m (kind.Number n) e = absurd cc
is_mark_is m (kind.Text t) e = absurd cc
is_mark_is m (kind.Mark l) e = ap kind.Mark (sym (same_true the_type tt m l e))
is_mark_is m kind.LeftOut e = absurd cc

pub is_mark_same : (m : Mark) → is_mark m (kind.Mark m) ≡ true
is_mark_same m = true_same the_type m m refl

-- an answer that is the test's is true exactly there
pub decides : (m : Mark) (k : TokenKind) (answer : Bool) → answer ≡ is_mark m k → IsTrue answer ↔ (k ≡ kind.Mark m)
decides m k answer e = (λ t. is_mark_is m k (sym e ∙ t), λ q. e ∙ ap (is_mark m) q ∙ is_mark_same m)
