-- Small laws of reading.
use Rattle.std.proofs.Common.{◌≡◌, ◌<◌, Bool, true, false, cond, List, [], ◌∷◌, ◌++◌, length, drop, Option, Some, None, Result, Ok, Err, refl, sym, ap, ◌∙◌, arith, inl, inr, ◌⊎◌}
use Rattle.isp_base.specs.declared.types.Span.{Span}
use Rattle.isp_lex.specs.Tokens.{is_mark, at, starts_with}
use Rattle.isp_lex.specs.declared.token.Mark.{Mark}
use Rattle.isp_lex.specs.declared.token.TokenKind.{TokenKind}
use Rattle.isp_lex.specs.declared.token.TokenKind.TheVariants as kind
use Rattle.isp_lex.specs.declared.token.Token.{Token}
pub use Rattle.isp_lex.proofs.Marks.{is_mark_is, is_mark_same}
use Rattle.isp_grammar.specs.Signs.{word}
use Rattle.isp_grammar.specs.reader.Readers.{◌>>=◌, refusal, refuse, head, on_head, is_word, mark_at, word_from, word_at}
use Rattle.isp_grammar.specs.declared.stop.Why.TheVariants.{Unexpected}
use Rattle.isp_grammar.specs.declared.stop.Refusal.{Refusal}
use Rattle.isp_tree.specs.declared.types.Word.{Word}

-- ---- results

pub ok_is : {A : Type 0} {x y : A} → ◌≡◌ {A = Result A Refusal} (Ok x) (Ok y) → x ≡ y
ok_is e = cc

pub err_is : {A : Type 0} {x y : Refusal} → ◌≡◌ {A = Result A Refusal} (Err x) (Err y) → x ≡ y
err_is e = cc

pub ok_err : {A : Type 0} {x : A} {y : Refusal} → ◌≡◌ {A = Result A Refusal} (Ok x) (Err y) → ⊥
ok_err e = cc

pub err_ok : {A : Type 0} {x : A} {y : Refusal} → ◌≡◌ {A = Result A Refusal} (Err y) (Ok x) → ⊥
err_ok e = cc

pub some_is : {A : Type 0} {x y : A} → ◌≡◌ {A = Option A} (Some x) (Some y) → x ≡ y
some_is e = cc

pub none_some : {A : Type 0} {x : A} → ◌≡◌ {A = Option A} None (Some x) → ⊥
none_some e = cc

-- the value of a step that did not fail
pub bind_ok : {A B : Type 0} (r : Result A Refusal) (f : A → Result B Refusal) (y : B) → (r >>= f) ≡ Ok y → (x : A) × (r ≡ Ok x) × (f x ≡ Ok y)
bind_ok (Ok x) f y e = (x, refl, e)
bind_ok (Err d) f y e = absurd cc

-- where a step failed: at once, or later
pub bind_err : {A B : Type 0} (r : Result A Refusal) (f : A → Result B Refusal) (d : Refusal) → (r >>= f) ≡ Err d → (r ≡ Err d) ⊎ ((x : A) × (r ≡ Ok x) × (f x ≡ Err d))
bind_err (Ok x) f d e = inr (x, refl, e)
bind_err (Err c) f d e = inl cc

-- what a choice gave
pub chosen : {A : Type 0} (b : Bool) (x y z : A) → cond b x y ≡ z → ((b ≡ true) × (x ≡ z)) ⊎ ((b ≡ false) × (y ≡ z))
chosen true x y z e = inl (refl, e)
chosen false x y z e = inr (refl, e)

pub choice_fails : {A : Type 0} (b : Bool) (x y : Refusal) → (r : Refusal) × (◌≡◌ {A = Result A Refusal} (cond b (Err x) (Err y)) (Err r))
choice_fails true x y = (x, refl)
choice_fails false x y = (y, refl)

-- ---- the first token

pub starts_by_head : (m : Mark) (ts : List Token) → starts_with m ts ≡ on_head false (is_mark m) (head ts)
starts_by_head m [] = refl
starts_by_head m (t ∷ ts) = refl

pub starts_same : (m : Mark) (a b : List Token) → head a ≡ head b → starts_with m a ≡ starts_with m b
starts_same m a b e = starts_by_head m a ∙ ap (λ h. on_head false (is_mark m) h) e ∙ sym (starts_by_head m b)

pub head_past : (a b c : List Token) → head b ≡ head c → head (a ++ b) ≡ head (a ++ c)
head_past [] b c e = e
head_past (t ∷ a) b c e = refl

-- the head of no tokens, and of some
pub head_none : {A : Type 0} (none : A) (f : TokenKind → A) (u : List Token) → length u ≡ 0 → on_head none f (head u) ≡ none
head_none none f [] e = refl
head_none none f (t ∷ u) e = absurd (omega arith)

pub head_some : {A : Type 0} (none : A) (f : TokenKind → A) (u : List Token) (t : Token) (rest : List Token) (b : A) → u ≡ t ∷ rest → f t.kind ≡ b → on_head none f (head u) ≡ b
head_some none f u t rest b w e = rw w e

-- ---- marks

abbrev pub token : TokenKind → Span → Token
token k s = record { kind = k; span = s }

pub starts_is : (m : Mark) (ts : List Token) → starts_with m ts ≡ true → (s : Span) × (rest : List Token) × (ts ≡ at m s ∷ rest)
starts_is m [] e = absurd cc
starts_is m (t ∷ ts) e = (t.span, ts, ap (λ (k : TokenKind). token k t.span ∷ ts) (is_mark_is m t.kind e))

-- where a mark stands, what comes after it
pub starts_cons : (m : Mark) (ts : List Token) → starts_with m ts ≡ true → (s : Span) × (ts ≡ at m s ∷ drop 1 ts)
starts_cons m ts e =
    let o = starts_is m ts e in
    let d : drop 1 ts ≡ o.1 = ap (λ (l : List Token). drop 1 l) o.2 in
    (o.0, o.2 ∙ ap (λ (l : List Token). at m o.0 ∷ l) (sym d))

pub drop_shorter : (m : Mark) (ts : List Token) → starts_with m ts ≡ true → length (drop 1 ts) < length ts
drop_shorter m [] e = absurd cc
drop_shorter m (t ∷ ts) e = omega arith

pub mark_ok : (m : Mark) (ts : List Token) (s : Span) (rest : List Token) → mark_at m ts ≡ Ok (s, rest) → ts ≡ at m s ∷ rest
unfolding mark_at
mark_ok m [] s rest e = absurd (err_ok e)
mark_ok m (t ∷ ts) s rest e =
    elim (chosen (is_mark m t.kind) (Ok (t.span, ts)) (refuse Unexpected (t ∷ ts)) (Ok (s, rest)) e) [
      | inl p ↦
          let same = ok_is p.1 in
          ap (λ (k : TokenKind). token k t.span ∷ ts) (is_mark_is m t.kind p.0) ∙ ap (λ (q : Span × List Token). at m q.0 ∷ q.1) same
      | inr p ↦ absurd (err_ok p.1)
    ]

pub mark_err : (m : Mark) (ts : List Token) (r : Refusal) → mark_at m ts ≡ Err r → (r ≡ refusal Unexpected ts) × (starts_with m ts ≡ false)
unfolding mark_at
mark_err m [] r e = (sym (err_is e), refl)
mark_err m (t ∷ ts) r e =
    elim (chosen (is_mark m t.kind) (Ok (t.span, ts)) (refuse Unexpected (t ∷ ts)) (Err r) e) [
      | inl p ↦ absurd (ok_err p.1)
      | inr p ↦ (sym (err_is p.1), p.0)
    ]

pub mark_off : (m : Mark) (ts : List Token) → starts_with m ts ≡ false → mark_at m ts ≡ refuse Unexpected ts
unfolding mark_at
mark_off m [] e = refl
mark_off m (t ∷ ts) e = rw e refl

pub mark_again : (m : Mark) (s : Span) (rest : List Token) → mark_at m (at m s ∷ rest) ≡ Ok (s, rest)
unfolding mark_at
mark_again m s rest = rw (is_mark_same m) refl

-- ---- names

word_from_ok : (k : TokenKind) (s : Span) (ts : List Token) (w : Word) (rest : List Token) → word_from k (token k s) ts ≡ Ok (w, rest) → token k s ∷ ts ≡ word w ∷ rest
word_from_ok (kind.Word n) s ts w rest e = ap (λ (q : Word × List Token). word q.0 ∷ q.1) (ok_is e)
word_from_ok (kind.Number v) s ts w rest e = absurd (err_ok e)
word_from_ok (kind.Text x) s ts w rest e = absurd (err_ok e)
word_from_ok (kind.Mark m) s ts w rest e = absurd (err_ok e)
word_from_ok kind.LeftOut s ts w rest e = absurd (err_ok e)

pub word_ok : (ts : List Token) (w : Word) (rest : List Token) → word_at ts ≡ Ok (w, rest) → ts ≡ word w ∷ rest
unfolding word_at
word_ok [] w rest e = absurd (err_ok e)
word_ok (t ∷ ts) w rest e = word_from_ok t.kind t.span ts w rest e

pub word_again : (w : Word) (rest : List Token) → word_at (word w ∷ rest) ≡ Ok (w, rest)
unfolding word_at
word_again w rest = refl

word_from_off : (k : TokenKind) (t : Token) (ts : List Token) → is_word k ≡ false → word_from k t ts ≡ refuse Unexpected (t ∷ ts)
word_from_off (kind.Word n) t ts e = absurd cc
word_from_off (kind.Number v) t ts e = refl
word_from_off (kind.Text x) t ts e = refl
word_from_off (kind.Mark m) t ts e = refl
word_from_off kind.LeftOut t ts e = refl

pub word_off : (u : List Token) → on_head false is_word (head u) ≡ false → word_at u ≡ refuse Unexpected u
unfolding word_at
word_off [] e = refl
word_off (t ∷ u) e = word_from_off t.kind t u e

word_from_err : (k : TokenKind) (t : Token) (ts : List Token) (r : Refusal) → word_from k t ts ≡ Err r → (r ≡ refusal Unexpected (t ∷ ts)) × (is_word k ≡ false)
word_from_err (kind.Word n) t ts r e = absurd (ok_err e)
word_from_err (kind.Number v) t ts r e = (sym (err_is e), refl)
word_from_err (kind.Text x) t ts r e = (sym (err_is e), refl)
word_from_err (kind.Mark m) t ts r e = (sym (err_is e), refl)
word_from_err kind.LeftOut t ts r e = (sym (err_is e), refl)

pub word_err : (ts : List Token) (r : Refusal) → word_at ts ≡ Err r → (r ≡ refusal Unexpected ts) × (on_head false is_word (head ts) ≡ false)
unfolding word_at
word_err [] r e = (sym (err_is e), refl)
word_err (t ∷ ts) r e = word_from_err t.kind t ts r e
