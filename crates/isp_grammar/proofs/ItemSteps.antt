-- Steps of reading what stands after the name of an item.
use Rattle.std.proofs.Common.{◌≡◌, ℕ, true, false, List, [], ◌∷◌, drop, Ok, Err, refl, inl, inr}
use Rattle.isp_base.specs.declared.types.Span.{Span}
use Rattle.isp_lex.specs.Tokens.{starts_with}
use Rattle.isp_lex.specs.declared.token.Mark.TheVariants as mark
use Rattle.isp_lex.specs.declared.token.Token.{Token}
use Rattle.isp_tree.specs.Tree.{Expr}
use Rattle.isp_grammar.proofs.SimpleSteps.{mark_read}
use Rattle.isp_grammar.specs.Signs.{loosest, first_span}
use Rattle.isp_grammar.specs.reader.Readers.{Read, ◌>>=◌, mark_at, both}
use Rattle.isp_grammar.specs.reader.Choices.{either_at}
use Rattle.isp_grammar.specs.reader.Exprs.{expr_at}
use Rattle.isp_grammar.specs.reader.Stmts.{ItemTail, size_at, item_tail_at}

valued : (s : Span) (read : Read Expr) → ◌≡◌ {A = Read ItemTail} (◌>>=◌ {B = (Span × Expr) × List Token} read (λ y. Ok ((s, y.0), y.1)) >>= λ x. Ok (inl x.0, x.1)) (read >>= λ x. Ok (inl (s, x.0), x.1))
valued s (Ok x) = refl
valued s (Err e) = refl

-- a value, where `=` stands
pub tail_valued : (n : ℕ) (ts : List Token) → starts_with mark.Assign ts ≡ true → item_tail_at n ts ≡ (expr_at n loosest (drop 1 ts) >>= λ x. Ok (inl (first_span ts, x.0), x.1))
unfolding item_tail_at either_at
tail_valued n [] e = absurd cc
tail_valued n (t ∷ ts) e = rw (e, mark_read mark.Assign t ts e) (valued t.span (expr_at n loosest ts))

-- a size in brackets, where none stands
pub tail_sized : (n : ℕ) (ts : List Token) → starts_with mark.Assign ts ≡ false → item_tail_at n ts ≡ (both (mark_at mark.BracketOpen) (both size_at (mark_at mark.BracketClose)) ts >>= λ x. Ok (inr x.0, x.1))
unfolding item_tail_at either_at
tail_sized n [] e = refl
tail_sized n (t ∷ ts) e = rw e refl
