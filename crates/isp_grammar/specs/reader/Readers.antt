-- Readers, and those of any kind.
use Rattle.std.specs.Prelude.{◌≡◌, ℕ, zero, suc, List, [], ◌∷◌, length, drop, Bool, true, false, if◌then◌else◌, Option, Some, None, Result, Ok, Err}
use Rattle.isp_base.specs.declared.types.Span.{Span}
use Rattle.isp_lex.specs.Tokens.{is_mark, starts_with}
use Rattle.isp_lex.specs.declared.token.Mark.{Mark}
use Rattle.isp_lex.specs.declared.token.Mark.TheVariants as mark
use Rattle.isp_lex.specs.declared.token.TokenKind.{TokenKind}
use Rattle.isp_lex.specs.declared.token.TokenKind.TheVariants as kind
use Rattle.isp_lex.specs.declared.token.Token.{Token}
use Rattle.isp_grammar.specs.declared.stop.Why.{Why}
use Rattle.isp_grammar.specs.declared.stop.Why.TheVariants.{Unexpected, TooDeep}
use Rattle.isp_grammar.specs.declared.stop.Refusal.{Refusal}
use Rattle.isp_grammar.specs.declared.stop.Stop.{Stop}
use Rattle.isp_grammar.specs.declared.stop.Stop.TheVariants as stops
use Rattle.isp_tree.specs.declared.types.Word.{Word}

-- a value and the tokens after it, or a refusal
abbrev pub Read : Type 0 → Type 0
Read A = Result (A × List Token) Refusal

abbrev pub Reader : Type 0 → Type 0
Reader A = List Token → Read A

infixl 10 ◌>>=◌
abbrev pub ◌>>=◌ : {A B : Type 0} → Result A Refusal → (A → Result B Refusal) → Result B Refusal
(Ok x) >>= f = f x
(Err e) >>= f = Err e

abbrev pub refusal : Why → List Token → Refusal
refusal why ts = record { why = why; left = length ts }

abbrev pub refuse : {A : Type 0} → Why → List Token → Read A
refuse why ts = Err (refusal why ts)

-- What a function returned, seen by view, is what reading gives, unless memory ran out.
abbrev pub Fails : {Y : Type 0} → Stop → Result Y Refusal → Type 0
Fails stops.Memory read = Unit {0}
Fails (stops.Refused r) read = read ≡ Err r

abbrev pub Gives : {X Y : Type 0} → (X → Y) → Result X Stop → Result Y Refusal → Type 0
Gives view (Ok x) read = read ≡ Ok (view x)
Gives view (Err e) read = Fails e read

-- ---- forms of any kind

-- the kind of the first token
abbrev pub head : List Token → Option TokenKind
head [] = None
head (t ∷ ts) = Some t.kind

abbrev pub on_head : {A : Type 0} → A → (TokenKind → A) → Option TokenKind → A
on_head none f None = none
on_head none f (Some k) = f k

-- one token of a mark
unfoldable pub mark_at : Mark → Reader Span
mark_at m [] = refuse Unexpected []
mark_at m (t ∷ ts) = if is_mark m t.kind then Ok (t.span, ts) else refuse Unexpected (t ∷ ts)

abbrev pub word_from : TokenKind → Token → List Token → Read Word
word_from (kind.Word n) t ts = Ok (record { name = n; span = t.span }, ts)
word_from (kind.Number v) t ts = refuse Unexpected (t ∷ ts)
word_from (kind.Text x) t ts = refuse Unexpected (t ∷ ts)
word_from (kind.Mark m) t ts = refuse Unexpected (t ∷ ts)
word_from kind.LeftOut t ts = refuse Unexpected (t ∷ ts)

-- one name
unfoldable pub word_at : Reader Word
word_at [] = refuse Unexpected []
word_at (t ∷ ts) = word_from t.kind t ts

-- one after another
abbrev pub both : {A B : Type 0} → Reader A → Reader B → Reader (A × B)
both a b ts = a ts >>= λ x. (b x.1 >>= λ y. Ok ((x.0, y.0), y.1))

-- what a mark begins, where the mark stands
abbrev pub optional_from : {A : Type 0} → Reader A → List Token → Bool → Read (Option A)
optional_from one ts true = one (drop 1 ts) >>= λ x. Ok (Some x.0, x.1)
optional_from one ts false = Ok (None, ts)

unfoldable pub optional : {A : Type 0} → Mark → Reader A → Reader (Option A)
optional m one ts = optional_from one ts (starts_with m ts)

-- one or more, with commas
abbrev pub after_item : {A : Type 0} → Reader (List A) → A → List Token → Bool → Read (List A)
after_item more x ts true = more (drop 1 ts) >>= λ xs. Ok (x ∷ xs.0, xs.1)
after_item more x ts false = Ok (x ∷ [], ts)

unfoldable pub list_at : {A : Type 0} → Reader A → ℕ → Reader (List A)
list_at one zero ts = refuse Unexpected ts
list_at one (suc f) ts = one ts >>= λ x. after_item (list_at one f) x.0 x.1 (starts_with mark.Comma x.1)

-- nothing before the mark, or such a list
unfoldable pub listed_at : {A : Type 0} → Mark → Reader A → Reader (List A)
listed_at m one ts = if starts_with m ts then Ok ([], ts) else list_at one (suc (length ts)) ts

-- all up to a mark
abbrev pub until_from : {A : Type 0} → Reader A → Reader (List A) → List Token → Bool → Read (List A)
until_from one more ts true = Ok ([], ts)
until_from one more ts false = one ts >>= λ x. (more x.1 >>= λ xs. Ok (x.0 ∷ xs.0, xs.1))

unfoldable pub until_at : {A : Type 0} → Mark → Reader A → ℕ → Reader (List A)
until_at m one zero ts = refuse Unexpected ts
until_at m one (suc f) ts = until_from one (until_at m one f) ts (starts_with m ts)

-- where no node may be deeper: what begins a node is too deep
unfoldable pub at_limit : {A : Type 0} → (TokenKind → Bool) → Reader A
at_limit begins [] = refuse Unexpected []
at_limit begins (t ∷ ts) = if begins t.kind then refuse TooDeep (t ∷ ts) else refuse Unexpected (t ∷ ts)

-- the refusal there, of what begins here, if it does
abbrev pub refusal_at_limit : Bool → List Token → Refusal
refusal_at_limit true ts = refusal TooDeep ts
refusal_at_limit false ts = refusal Unexpected ts

-- whether a token is a name
abbrev pub is_word : TokenKind → Bool
is_word (kind.Word n) = true
is_word (kind.Number v) = false
is_word (kind.Text t) = false
is_word (kind.Mark m) = false
is_word kind.LeftOut = false
