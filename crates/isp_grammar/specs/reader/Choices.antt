-- Readers of what the first token decides.
use Rattle.std.specs.Prelude.{◌⊎◌, List, [], ◌∷◌, ℕ, zero, suc, Bool, true, false, Option, Some, None, Ok}
use mathlib.Core.Logic.{inl, inr}
use Rattle.isp_base.specs.declared.types.Span.{Span}
use Rattle.isp_lex.specs.Tokens.{starts_with}
use Rattle.isp_lex.specs.declared.token.Mark.{Mark}
use Rattle.isp_lex.specs.declared.token.TokenKind.{TokenKind}
use Rattle.isp_lex.specs.declared.token.Token.{Token}
use Rattle.isp_grammar.specs.reader.Readers.{Read, Reader, ◌>>=◌, refuse, head, on_head, mark_at, both, at_limit}
use Rattle.isp_grammar.specs.declared.stop.Why.TheVariants.{Unexpected}

-- whether there is a first token, and it is one of these
abbrev pub begins_with : (TokenKind → Bool) → List Token → Bool
begins_with b ts = on_head false b (head ts)

-- one sign of several
abbrev pub sign_from : {C : Type 0} → Option C → Token → List Token → Read (C × Span)
sign_from None t ts = refuse Unexpected (t ∷ ts)
sign_from (Some c) t ts = Ok ((c, t.span), ts)

unfoldable pub sign_at : {C : Type 0} → (TokenKind → Option C) → Reader (C × Span)
sign_at pick [] = refuse Unexpected []
sign_at pick (t ∷ ts) = sign_from (pick t.kind) t ts

-- one sign of several, where one stands
abbrev pub found_from : {C : Type 0} → Option C → Span → Option (C × Span)
found_from None s = None
found_from (Some c) s = Some (c, s)

abbrev pub found_at : {C : Type 0} → (TokenKind → Option C) → List Token → Option (C × Span)
found_at pick [] = None
found_at pick (t ∷ ts) = found_from (pick t.kind) t.span

-- any number of signs
abbrev pub signs_from : {C : Type 0} → List C × List Token → Option C → Token → List Token → List C × List Token
signs_from more None t ts = ([], t ∷ ts)
signs_from more (Some c) t ts = (c ∷ more.0, more.1)

unfoldable pub signs_at : {C : Type 0} → (TokenKind → Option C) → List Token → List C × List Token
signs_at pick [] = ([], [])
signs_at pick (t ∷ ts) = signs_from (signs_at pick ts) (pick t.kind) t ts

-- nothing before the mark, or one
abbrev pub maybe_from : {A : Type 0} → Reader A → List Token → Bool → Read (Option A)
maybe_from one ts true = Ok (None, ts)
maybe_from one ts false = one ts >>= λ x. Ok (Some x.0, x.1)

unfoldable pub maybe_at : {A : Type 0} → Mark → Reader A → Reader (Option A)
maybe_at m one ts = maybe_from one ts (starts_with m ts)

-- nothing before the mark, or one, and the mark
unfoldable pub maybe_closed_at : {A : Type 0} → Mark → Reader A → Reader (Option A × Span)
maybe_closed_at m one ts = both (maybe_at m one) (mark_at m) ts

-- one where its first token stands, else nothing
abbrev pub perhaps_from : {A : Type 0} → Reader A → List Token → Bool → Read (Option A)
perhaps_from one ts true = one ts >>= λ x. Ok (Some x.0, x.1)
perhaps_from one ts false = Ok (None, ts)

unfoldable pub perhaps_at : {A : Type 0} → (TokenKind → Bool) → Reader A → Reader (Option A)
perhaps_at b one ts = perhaps_from one ts (begins_with b ts)

-- the first where its first token stands, else the second
abbrev pub either_from : {A B : Type 0} → Reader A → Reader B → List Token → Bool → Read (A ⊎ B)
either_from one other ts true = one ts >>= λ x. Ok (inl x.0, x.1)
either_from one other ts false = other ts >>= λ x. Ok (inr x.0, x.1)

unfoldable pub either_at : {A B : Type 0} → (TokenKind → Bool) → Reader A → Reader B → Reader (A ⊎ B)
either_at b one other ts = either_from one other ts (begins_with b ts)

-- a node of its own: at the limit none is taken
unfoldable pub counted_at : {A : Type 0} → (TokenKind → Bool) → (ℕ → Reader A) → ℕ → Reader A
counted_at begins one zero ts = at_limit begins ts
counted_at begins one (suc n) ts = one n ts
