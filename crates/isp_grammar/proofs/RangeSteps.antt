-- Steps of reading ranges.
use Rattle.std.proofs.Common.{◌≡◌, ℕ, Bool, true, false, List, [], ◌∷◌, ◌++◌, drop, Option, Some, Ok, Err, refl, sym, ap, append_assoc, append-nil}
use Rattle.isp_base.specs.declared.types.Span.{Span}
use Rattle.isp_lex.specs.Tokens.{is_mark, starts_with}
use Rattle.isp_lex.specs.declared.token.Mark.{Mark}
use Rattle.isp_lex.specs.declared.token.Mark.TheVariants as mark
use Rattle.isp_lex.specs.declared.token.Token.{Token}
use Rattle.isp_grammar.proofs.SimpleSteps.{fails_then, mark_here}
use Rattle.isp_grammar.specs.Signs.{first_span}
use Rattle.isp_grammar.specs.declared.stop.Stop.{Stop}
use Rattle.isp_grammar.specs.reader.Readers.{Read, ◌>>=◌, Fails}
use Rattle.isp_grammar.specs.reader.Choices.{begins_with, perhaps_at}
use Rattle.isp_grammar.specs.reader.Stmts.{range_at, last_range, with_last, last_range_at, with_more, more_ranges_at}
use Rattle.isp_tree.specs.Tree.{Range}

begins_as : (m : Mark) (ts : List Token) (b : Bool) → starts_with m ts ≡ b → begins_with (is_mark m) ts ≡ b
begins_as m [] b e = e
begins_as m (t ∷ ts) b e = e

-- where no comma stands there is no further range
pub last_none : (n : ℕ) (front : List Range) (ts : List Token) → starts_with mark.Comma ts ≡ false → with_last front (last_range_at n ts) ≡ Ok (front, ts)
unfolding last_range_at perhaps_at
last_none n front ts c = rw (begins_as mark.Comma ts false c) (ap (λ (l : List Range). Ok (l, ts)) (append-nil front))

pub last_fails : (e : Stop) (n : ℕ) (front : List Range) (ts : List Token) → starts_with mark.Comma ts ≡ true → Fails e (range_at n (drop 1 ts)) → Fails e (with_last front (last_range_at n ts))
unfolding last_range_at perhaps_at
last_fails e n front ts c f = rw (begins_as mark.Comma ts true c, mark_here mark.Comma ts c) (fails_then e _ _ (fails_then e _ _ (fails_then e _ _ f)))

pub last_made : (n : ℕ) (front : List Range) (ts after : List Token) (x : Range) → starts_with mark.Comma ts ≡ true → range_at n (drop 1 ts) ≡ Ok (x, after) → with_last front (last_range_at n ts) ≡ Ok (front ++ x ∷ [], after)
unfolding last_range_at perhaps_at
last_made n front ts after x c r = rw (begins_as mark.Comma ts true c, mark_here mark.Comma ts c, r) refl

pub more_none : (n : ℕ) (front : List Range) (ts : List Token) → starts_with mark.Comma ts ≡ false → with_more front (more_ranges_at n ts) ≡ Ok (front, ts)
unfolding more_ranges_at perhaps_at
more_none n front ts c = rw (begins_as mark.Comma ts false c) (ap (λ (l : List Range). Ok (l, ts)) (append-nil front))

pub more_fails : (e : Stop) (n : ℕ) (front : List Range) (ts : List Token) → starts_with mark.Comma ts ≡ true → Fails e (range_at n (drop 1 ts)) → Fails e (with_more front (more_ranges_at n ts))
unfolding more_ranges_at perhaps_at
more_fails e n front ts c f = rw (begins_as mark.Comma ts true c, mark_here mark.Comma ts c) (fails_then e _ _ (fails_then e _ _ (fails_then e _ _ (fails_then e _ _ f))))

abbrev Second : Type 0
Second = Range × Option (Span × Range)

-- what is after a comma and a range comes after them
behind_second : (front : List Range) (x : Range) (s : Span) (read : Read (Option (Span × Range)))
    → with_more front (◌>>=◌ {B = Option (Span × Second) × List Token} (◌>>=◌ {B = (Span × Second) × List Token} (◌>>=◌ {B = Second × List Token} read (λ y. Ok ((x, y.0), y.1))) (λ y. Ok ((s, y.0), y.1))) (λ y. Ok (Some y.0, y.1)))
    ≡ with_last (front ++ x ∷ []) read
behind_second front x s (Ok p) = ap (λ (l : List Range). Ok (l, p.1)) (sym (append_assoc front (x ∷ []) (last_range p.0)))
behind_second front x s (Err e) = refl

-- the second range
pub more_step : (n : ℕ) (front : List Range) (ts after : List Token) (x : Range) → starts_with mark.Comma ts ≡ true → range_at n (drop 1 ts) ≡ Ok (x, after) → with_more front (more_ranges_at n ts) ≡ with_last (front ++ x ∷ []) (last_range_at n after)
unfolding more_ranges_at perhaps_at
more_step n front ts after x c r = rw (begins_as mark.Comma ts true c, mark_here mark.Comma ts c, r) (behind_second front x (first_span ts) (last_range_at n after))
