-- Lists of tokens of the same kinds, wherever they stand.
use Rattle.std.proofs.Common.{◌≡◌, ℕ, List, [], ◌∷◌, ◌++◌, refl, ap, sym, subst, ◌∙◌}
use Rattle.isp_base.specs.declared.types.Span.{Span}
use Rattle.isp_lex.specs.Tokens.{at}
use Rattle.isp_lex.specs.declared.token.Mark.TheVariants as mark
use Rattle.isp_lex.specs.declared.token.Token.{Token}
use Rattle.isp_lex.specs.declared.token.TokenKind.{TokenKind}
use Rattle.isp_grammar.proofs.Basics.{token}
use Rattle.isp_tree.specs.Depth.{deepest_of}
use Rattle.isp_grammar.specs.Grammar.{AreAll, AreListed}
use Rattle.isp_syntax.specs.Promise.{kinds}
use Rattle.isp_tree.specs.declared.types.Word.{Word}

abbrev pub Same : List Token → List Token → Type 0
Same us ts = kinds us ≡ kinds ts

first_kind : TokenKind → List TokenKind → TokenKind
first_kind none [] = none
first_kind none (k ∷ ks) = k

other_kinds : List TokenKind → List TokenKind
other_kinds [] = []
other_kinds (k ∷ ks) = ks

pub same_none : (us : List Token) → Same us [] → us ≡ []
same_none [] e = refl
same_none (u ∷ us) e = absurd cc

pub same_first : (t : Token) (ts us : List Token) → Same us (t ∷ ts) → (s : Span) × (vs : List Token) × (us ≡ token t.kind s ∷ vs) × Same vs ts
unfolding first_kind other_kinds
same_first t ts [] e = absurd cc
same_first t ts (u ∷ us) e = (u.span, us, ap (λ (k : TokenKind). token k u.span ∷ us) (ap (first_kind t.kind) e), ap other_kinds e)

pub same_one : (t : Token) (us : List Token) → Same us (t ∷ []) → (s : Span) × (us ≡ token t.kind s ∷ [])
same_one t us e =
    let p = same_first t [] us e in
    (p.0, p.2 ∙ ap (λ (l : List Token). token t.kind p.0 ∷ l) (same_none p.1 p.3))

pub same_split : (a b us : List Token) → Same us (a ++ b) → (c : List Token) × (d : List Token) × (us ≡ c ++ d) × Same c a × Same d b
same_split [] b us e = ([], us, refl, refl, e)
same_split (t ∷ a) b us e =
    let p = same_first t (a ++ b) us e in
    let q = same_split a b p.1 p.3 in
    (token t.kind p.0 ∷ q.0, q.1, p.2 ∙ ap (λ (l : List Token). token t.kind p.0 ∷ l) q.2, ap (λ (l : List TokenKind). t.kind ∷ l) q.3, q.4)

-- tokens before one token
pub same_before : (a : List Token) (t : Token) (us : List Token) → Same us (a ++ t ∷ []) → (c : List Token) × (s : Span) × (us ≡ c ++ token t.kind s ∷ []) × Same c a
same_before a t us e =
    let p = same_split a (t ∷ []) us e in
    let q = same_one t p.1 p.4 in
    (p.0, q.0, p.2 ∙ ap (λ (l : List Token). p.0 ++ l) q.1, p.3)

-- tokens, one token, and tokens
pub same_around : (a : List Token) (t : Token) (b us : List Token) → Same us (a ++ t ∷ b) → (c : List Token) × (s : Span) × (d : List Token) × (us ≡ c ++ token t.kind s ∷ d) × Same c a × Same d b
same_around a t b us e =
    let p = same_split a (t ∷ b) us e in
    let q = same_first t b p.1 p.4 in
    (p.0, q.0, q.1, p.2 ∙ ap (λ (l : List Token). p.0 ++ l) q.2, p.3, q.3)

abbrev pub moved : Word → Span → Word
moved w s = record { name = w.name; span = s }

-- ---- any form

-- tokens of the same kinds are such a tree as well, of the same depth
abbrev pub Respans : {A : Type 0} → (List Token → A → Type 0) → (A → ℕ) → Type 0
Respans {A} is deep = (ts : List Token) (x : A) → is ts x → (us : List Token) → Same us ts → (y : A) × is us y × (deep y ≡ deep x)

pub all_respan : {A : Type 0} (is : List Token → A → Type 0) (deep : A → ℕ) → Respans is deep → Respans (AreAll is) (deepest_of deep)
all_respan is deep f ts [] i us e = ([], same_none us (e ∙ ap kinds i), refl)
all_respan is deep f ts (x ∷ xs) i us e =
    let p = same_split i.0 i.1 us (e ∙ ap kinds i.2) in
    let y = f i.0 x i.3 p.0 p.3 in
    let ys = all_respan is deep f i.1 xs i.4 p.1 p.4 in
    (y.0 ∷ ys.0, (p.0, p.1, p.2, y.1, ys.1), rw (y.2, ys.2) refl)

more_listed : {A : Type 0} (is : List Token → A → Type 0) (deep : A → ℕ) (a b : List Token) (s : Span) (y : A) (ys : List A) → is a y → AreListed is b ys → AreListed is (a ++ at mark.Comma s ∷ b) (y ∷ ys)
more_listed is deep a b s y [] i j = absurd j
more_listed is deep a b s y (z ∷ zs) i j = (a, s, b, refl, i, j)

pub listed_respan : {A : Type 0} (is : List Token → A → Type 0) (deep : A → ℕ) → Respans is deep → Respans (AreListed is) (deepest_of deep)
listed_respan is deep f ts [] i us e = absurd i
listed_respan is deep f ts (x ∷ []) i us e = let y = f ts x i us e in (y.0 ∷ [], y.1, rw y.2 refl)
listed_respan is deep f ts (x ∷ z ∷ zs) i us e =
    let p = same_around i.0 (at mark.Comma i.1) i.2 us (e ∙ ap kinds i.3) in
    let y = f i.0 x i.4 p.0 p.4 in
    let ys = listed_respan is deep f i.2 (z ∷ zs) i.5 p.2 p.5 in
    let j = more_listed is deep p.0 p.2 p.1 y.0 ys.0 y.1 ys.1 in
    (y.0 ∷ ys.0, subst (λ (l : List Token). AreListed is l (y.0 ∷ ys.0)) (sym p.3) j, rw (y.2, ys.2) refl)
