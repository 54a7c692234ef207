-- Types: what is read is what they are.
use Rattle.std.proofs.Common.{◌≡◌, ℕ, ◌<◌, Bool, true, false, List, [], ◌∷◌, ◌++◌, length, drop, Option, Some, None, Ok, Err, refl, sym, ap, subst, ◌∙◌, append_assoc, arith, inl, inr}
use Rattle.std.specs.Prelude.{◌||◌}
use Rattle.std.proofs.lemmas.List.{append-nil}
use Rattle.isp_base.specs.Types.{span_to}
use Rattle.isp_base.specs.declared.types.Span.{Span}
use Rattle.isp_lex.specs.Tokens.{at}
use Rattle.isp_lex.specs.declared.token.Mark.TheVariants as mark
use Rattle.isp_lex.specs.declared.token.TokenKind.{TokenKind}
use Rattle.isp_lex.specs.declared.token.TokenKind.TheVariants as kind
use Rattle.isp_lex.specs.declared.token.Token.{Token}
use Rattle.isp_grammar.proofs.Basics.{token, ok_is, err_ok, err_is, ok_err, chosen}
use Rattle.isp_grammar.proofs.Choices.{nowhere}
use Rattle.isp_grammar.proofs.Forms.{Form, Found, IsSound, IsComplete, Can}
use Rattle.isp_grammar.proofs.FormsComplete.{EndsByHead}
use Rattle.isp_grammar.proofs.Refused.{Refused, FailsForm, IsRefused}
use Rattle.isp_grammar.specs.Grammar.{AreAll, IsQualifier, is_qualifier, IsType, is_based, is_signed}
use Rattle.isp_grammar.specs.reader.Readers.{refuse, head, on_head}
use Rattle.isp_grammar.specs.reader.Types.{type_word_of, is_type_word, begins_type, type_end, type_by, type_more, type_at, type_word_at}
use Rattle.isp_grammar.specs.Signs.{qualifier_mark, base_mark, first_span, last_span, spread}
use Rattle.isp_tree.specs.Tree.{is_sign, has_sign}
use Rattle.isp_tree.specs.Tree.{TypeTree}
use Rattle.isp_grammar.specs.declared.stop.Why.TheVariants.{Unexpected}
use Rattle.isp_grammar.specs.declared.stop.Refusal.{Refusal}
use Rattle.isp_tree.specs.declared.types.Qualifier.{Qualifier}
use Rattle.isp_tree.specs.declared.types.Qualifier.TheVariants as qualifier
use Rattle.isp_tree.specs.declared.types.Base.{Base}
use Rattle.isp_tree.specs.declared.types.Base.TheVariants as base
use Rattle.isp_grammar.specs.declared.types.TypeWord.{TypeWord}
use Rattle.isp_grammar.specs.declared.types.TypeWord.TheVariants as by

-- ---- the first token

-- what a token must be
abbrev Says : TokenKind → TypeWord → Type 0
Says k (by.Qualifier q) = k ≡ kind.Mark (qualifier_mark q)
Says k (by.Base b) = k ≡ kind.Mark (base_mark b)
Says k by.Other = Unit {0}

says : (k : TokenKind) → Says k (type_word_of k)
says (kind.Word n) = tt
says (kind.Number v) = tt
says (kind.Text t) = tt
says (kind.Mark mark.Const) = refl
says (kind.Mark mark.Uniform) = refl
says (kind.Mark mark.Varying) = refl
says (kind.Mark mark.Signed) = refl
says (kind.Mark mark.Unsigned) = refl
says (kind.Mark mark.Void) = refl
says (kind.Mark mark.Bool) = refl
says (kind.Mark mark.Int) = refl
says (kind.Mark mark.Int8) = refl
says (kind.Mark mark.Int16) = refl
says (kind.Mark mark.Int32) = refl
says (kind.Mark mark.Int64) = refl
says (kind.Mark mark.Uint) = refl
says (kind.Mark mark.Uint8) = refl
says (kind.Mark mark.Uint16) = refl
says (kind.Mark mark.Uint32) = refl
says (kind.Mark mark.Uint64) = refl
says (kind.Mark _) = tt
says kind.LeftOut = tt

qualifier_word : (q : Qualifier) → type_word_of (kind.Mark (qualifier_mark q)) ≡ by.Qualifier q
qualifier_word qualifier.Const = refl
qualifier_word qualifier.Uniform = refl
qualifier_word qualifier.Varying = refl
qualifier_word qualifier.Signed = refl
qualifier_word qualifier.Unsigned = refl

base_word : (b : Base) → type_word_of (kind.Mark (base_mark b)) ≡ by.Base b
base_word base.Void = refl
base_word base.Bool = refl
base_word base.Int = refl
base_word base.Int8 = refl
base_word base.Int16 = refl
base_word base.Int32 = refl
base_word base.Int64 = refl
base_word base.Uint = refl
base_word base.Uint8 = refl
base_word base.Uint16 = refl
base_word base.Uint32 = refl
base_word base.Uint64 = refl

word_by_head : (ts : List Token) → type_word_at ts ≡ on_head by.Other type_word_of (head ts)
word_by_head [] = refl
word_by_head (t ∷ ts) = refl

word_same : (a b : List Token) → head a ≡ head b → type_word_at a ≡ type_word_at b
word_same a b e = word_by_head a ∙ ap (λ (h : Option TokenKind). on_head by.Other type_word_of h) e ∙ sym (word_by_head b)

-- ---- one step of reading

pub more_qualifier : (s : Span) (qs : List Qualifier) (ts : List Token) (q : Qualifier) → type_word_at ts ≡ by.Qualifier q → type_more s qs ts ≡ type_more (span_to s (first_span ts)) (qs ++ q ∷ []) (drop 1 ts)
unfolding type_more
more_qualifier s qs [] q e = absurd cc
more_qualifier s qs (t ∷ ts) q e = ap (λ (w : TypeWord). type_by (λ q. type_more (span_to s t.span) (qs ++ q ∷ []) ts) w s qs t ts) e

pub more_base : (s : Span) (qs : List Qualifier) (ts : List Token) (b : Base) → type_word_at ts ≡ by.Base b → type_more s qs ts ≡ Ok (record { qualifiers = qs; base = Some b; span = span_to s (first_span ts) }, drop 1 ts)
unfolding type_more
more_base s qs [] b e = absurd cc
more_base s qs (t ∷ ts) b e = ap (λ (w : TypeWord). type_by (λ q. type_more (span_to s t.span) (qs ++ q ∷ []) ts) w s qs t ts) e

pub word_shorter : (ts : List Token) (q : Qualifier) → type_word_at ts ≡ by.Qualifier q → length (drop 1 ts) < length ts
word_shorter [] q e = absurd cc
word_shorter (t ∷ ts) q e = omega arith

more_other : (s : Span) (qs : List Qualifier) (ts : List Token) → type_word_at ts ≡ by.Other → type_more s qs ts ≡ type_end s qs ts
unfolding type_more
more_other s qs [] e = refl
more_other s qs (t ∷ ts) e = ap (λ (w : TypeWord). type_by (λ q. type_more (span_to s t.span) (qs ++ q ∷ []) ts) w s qs t ts) e

pub more_signed : (s : Span) (qs : List Qualifier) (ts : List Token) → type_word_at ts ≡ by.Other → has_sign qs ≡ true → type_more s qs ts ≡ Ok (record { qualifiers = qs; base = None; span = s }, ts)
more_signed s qs ts e h = more_other s qs ts e ∙ rw h refl

pub more_fails : (s : Span) (qs : List Qualifier) (ts : List Token) → type_word_at ts ≡ by.Other → has_sign qs ≡ false → type_more s qs ts ≡ refuse Unexpected ts
more_fails s qs ts e h = more_other s qs ts e ∙ rw h refl

pub type_begins : (ts : List Token) → type_more (first_span ts) [] ts ≡ type_at ts
unfolding type_at
type_begins ts = refl

or_assoc : (a b c : Bool) → (a || b) || c ≡ a || (b || c)
or_assoc true b c = refl
or_assoc false b c = refl

or_false : (a : Bool) → a || false ≡ a
or_false true = refl
or_false false = refl

pub sign_past : (qs : List Qualifier) (q : Qualifier) → has_sign (qs ++ q ∷ []) ≡ has_sign qs || is_sign q
sign_past [] q = or_false (is_sign q)
sign_past (p ∷ qs) q = ap (λ (b : Bool). is_sign p || b) (sign_past qs q) ∙ sym (or_assoc (is_sign p) (has_sign qs) (is_sign q))

-- ---- places

first_same : (a : List Token) (t : Token) (ts : List Token) → first_span (a ++ t ∷ ts) ≡ first_span (a ++ t ∷ [])
first_same [] t ts = refl
first_same (u ∷ a) t ts = refl

last_past : (a : List Token) (t : Token) → last_span (a ++ t ∷ []) ≡ t.span
last_past [] t = refl
last_past (u ∷ []) t = refl
last_past (u ∷ v ∷ a) t = last_past (v ∷ a) t

spread_past : (s : Span) (a : List Token) (t : Token) (ts : List Token) → s.start ≡ (first_span (a ++ t ∷ ts)).start → span_to s t.span ≡ spread (a ++ t ∷ [])
spread_past s a t ts e =
    let one : span_to s t.span ≡ span_to (first_span (a ++ t ∷ [])) t.span = ap (λ (n : ℕ). record { start = n; end = t.span.end }) (e ∙ ap (λ (p : Span). p.start) (first_same a t ts)) in
    one ∙ ap (λ (p : Span). span_to (first_span (a ++ t ∷ [])) p) (sym (last_past a t))

-- from the start of a place to the last token
abbrev past : Span → List Token → Span
past s [] = s
past s (t ∷ a) = past (span_to s t.span) a

past_start : (s : Span) (a : List Token) → (past s a).start ≡ s.start
past_start s [] = refl
past_start s (t ∷ a) = past_start (span_to s t.span) a

past_last : (s : Span) (t : Token) (a : List Token) → past s (t ∷ a) ≡ span_to s (last_span (t ∷ a))
past_last s t [] = refl
past_last s t (u ∷ a) = past_last (span_to s t.span) u a

-- ---- qualifiers

pub one_qualifier : {ts : List Token} {q : Qualifier} → IsQualifier ts q → (s : Span) × (ts ≡ at (qualifier_mark q) s ∷ [])
one_qualifier (is_qualifier q s) = (s, refl)

first_qualifier : (a : List Token) (q : Qualifier) (qs : List Qualifier) → AreAll IsQualifier a (q ∷ qs) → (s : Span) × (b : List Token) × (a ≡ at (qualifier_mark q) s ∷ b) × AreAll IsQualifier b qs
first_qualifier a q qs i =
    let p = one_qualifier i.3 in
    (p.0, i.1, i.2 ∙ ap (λ (l : List Token). l ++ i.1) p.1, i.4)

-- one more at the end
all_past : (a : List Token) (qs : List Qualifier) (q : Qualifier) (s : Span) → AreAll IsQualifier a qs → AreAll IsQualifier (a ++ at (qualifier_mark q) s ∷ []) (qs ++ q ∷ [])
all_past a [] q s i = (at (qualifier_mark q) s ∷ [], [], ap (λ (l : List Token). l ++ at (qualifier_mark q) s ∷ []) i, is_qualifier q s, refl)
all_past a (p ∷ qs) q s i =
    (i.0, i.1 ++ at (qualifier_mark q) s ∷ [], ap (λ (l : List Token). l ++ at (qualifier_mark q) s ∷ []) i.2 ∙ append_assoc i.0 i.1 (at (qualifier_mark q) s ∷ []), i.3, all_past i.1 qs q s i.4)

-- qualifiers are read in turn
qualifiers_read : (qs : List Qualifier) (a : List Token) → AreAll IsQualifier a qs → (s : Span) (ps : List Qualifier) (u : List Token) → type_more s ps (a ++ u) ≡ type_more (past s a) (ps ++ qs) u
qualifiers_read [] a i s ps u = rw (i, append-nil ps) refl
qualifiers_read (q ∷ qs) a i s ps u =
    let p = first_qualifier a q qs i in
    let one = more_qualifier s ps (at (qualifier_mark q) p.0 ∷ (p.1 ++ u)) q (qualifier_word q) in
    let others = qualifiers_read qs p.1 p.3 (span_to s p.0) (ps ++ q ∷ []) u in
    rw (p.2, one, others, append_assoc ps (q ∷ []) qs) refl

at_front : (a : List Token) (qs : List Qualifier) (u : List Token) → AreAll IsQualifier a qs → type_at (a ++ u) ≡ type_more (past (first_span (a ++ u)) a) qs u
unfolding type_at
at_front a qs u i = qualifiers_read qs a i (first_span (a ++ u)) [] u

-- ---- the form

-- after a type without base no word of a type may follow
abbrev pub EndsType : Option Base → List Token → Type 0
EndsType None rest = type_word_at rest ≡ by.Other
EndsType (Some b) rest = Unit {0}

abbrev pub Types : Form TypeTree
Types = record { is = λ ts t. IsType ts t; deep = λ t. 0; ends = λ t rest. EndsType t.base rest; read = λ n ts. type_at ts }

ends_type_same : (b : Option Base) (x y : List Token) → head x ≡ head y → EndsType b x → EndsType b y
ends_type_same None x y e h = sym (word_same x y e) ∙ h
ends_type_same (Some b) x y e h = tt

pub types_by_head : EndsByHead Types
types_by_head t x y e h = ends_type_same t.base x y e h

no_word : (w : TypeWord) → is_type_word w ≡ false → w ≡ by.Other
no_word (by.Qualifier q) e = absurd cc
no_word (by.Base b) e = absurd cc
no_word by.Other e = refl

-- a type ends before what is no word of one
pub ends_type : (b : Option Base) (rest : List Token) → on_head false begins_type (head rest) ≡ false → EndsType b rest
ends_type None [] e = refl
ends_type None (t ∷ ts) e = no_word (type_word_of t.kind) e
ends_type (Some b) rest e = tt

-- ---- what is read is a type

with_base : (n : ℕ) (a : List Token) (qs : List Qualifier) (b : Base) (s : Span) (t : Token) (ts : List Token) → AreAll IsQualifier a qs → s.start ≡ (first_span (a ++ t ∷ ts)).start → t.kind ≡ kind.Mark (base_mark b)
    → Found Types n (a ++ t ∷ ts) (record { qualifiers = qs; base = Some b; span = span_to s t.span }) ts
with_base n a qs b s t ts i e k =
    let u = at (base_mark b) t.span in
    let same : t ≡ u = ap (λ (c : TokenKind). token c t.span) k in
    record {
      used = a ++ t ∷ [];
      split = sym (append_assoc a (t ∷ []) ts);
      is = subst (λ (p : Span). IsType (a ++ t ∷ []) (record { qualifiers = qs; base = Some b; span = p })) (sym (spread_past s a t ts e))
          (subst (λ (v : Token). IsType (a ++ v ∷ []) (record { qualifiers = qs; base = Some b; span = spread (a ++ v ∷ []) })) (sym same) (is_based b t.span a qs i));
      shallow = omega arith;
      ends = tt;
    }

without_base : (n : ℕ) (a : List Token) (qs : List Qualifier) (s : Span) (ts : List Token) (x : TypeTree) (rest : List Token)
    → AreAll IsQualifier a qs → (has_sign qs ≡ true → s ≡ spread a) → type_word_at ts ≡ by.Other → type_end s qs ts ≡ Ok (x, rest)
    → Found Types n (a ++ ts) x rest
without_base n a qs s ts x rest i h o e =
    elim (chosen (has_sign qs) (Ok (record { qualifiers = qs; base = None; span = s }, ts)) (refuse Unexpected ts) (Ok (x, rest)) e) [
      | inl p ↦
          subst (λ (z : TypeTree × List Token). Found Types n (a ++ ts) z.0 z.1) (ok_is p.1) (record {
            used = a;
            split = refl;
            is = subst (λ (p : Span). IsType a (record { qualifiers = qs; base = None; span = p })) (sym (h p.0)) (is_signed a qs i p.0);
            shallow = omega arith;
            ends = o;
          })
      | inr p ↦ absurd (err_ok p.1)
    ]

step_sound : (n : ℕ) (w : TypeWord) (t : Token) (ts a : List Token) (qs : List Qualifier) (s : Span) (x : TypeTree) (rest : List Token) → AreAll IsQualifier a qs → s.start ≡ (first_span (a ++ t ∷ ts)).start → (has_sign qs ≡ true → s ≡ spread a)
    → ((q : Qualifier) → type_more (span_to s t.span) (qs ++ q ∷ []) ts ≡ Ok (x, rest) → AreAll IsQualifier (a ++ t ∷ []) (qs ++ q ∷ []) → Found Types n ((a ++ t ∷ []) ++ ts) x rest)
    → type_word_of t.kind ≡ w → type_by (λ q. type_more (span_to s t.span) (qs ++ q ∷ []) ts) w s qs t ts ≡ Ok (x, rest) → Found Types n (a ++ t ∷ ts) x rest
step_sound n (by.Qualifier q) t ts a qs s x rest i f h more o e =
    let k : t.kind ≡ kind.Mark (qualifier_mark q) = subst (λ (w : TypeWord). Says t.kind w) o (says t.kind) in
    let u : t ≡ at (qualifier_mark q) t.span = ap (λ (c : TokenKind). token c t.span) k in
    let all : AreAll IsQualifier (a ++ t ∷ []) (qs ++ q ∷ []) = subst (λ (v : Token). AreAll IsQualifier (a ++ v ∷ []) (qs ++ q ∷ [])) (sym u) (all_past a qs q t.span i) in
    subst (λ (l : List Token). Found Types n l x rest) (append_assoc a (t ∷ []) ts) (more q e all)
step_sound n (by.Base b) t ts a qs s x rest i f h more o e =
    subst (λ (z : TypeTree × List Token). Found Types n (a ++ t ∷ ts) z.0 z.1) (ok_is e) (with_base n a qs b s t ts i f (subst (λ (w : TypeWord). Says t.kind w) o (says t.kind)))
step_sound n by.Other t ts a qs s x rest i f h more o e = without_base n a qs s (t ∷ ts) x rest i h o e

more_sound : (n : ℕ) (ts a : List Token) (qs : List Qualifier) (s : Span) (x : TypeTree) (rest : List Token) → AreAll IsQualifier a qs → s.start ≡ (first_span (a ++ ts)).start → (has_sign qs ≡ true → s ≡ spread a) → type_more s qs ts ≡ Ok (x, rest)
    → Found Types n (a ++ ts) x rest
unfolding type_more
more_sound n [] a qs s x rest i f h e = without_base n a qs s [] x rest i h refl e
more_sound n (t ∷ ts) a qs s x rest i f h e =
    step_sound n (type_word_of t.kind) t ts a qs s x rest i f h
    (λ q r all.
    more_sound n ts (a ++ t ∷ []) (qs ++ q ∷ []) (span_to s t.span) x rest all
    (f ∙ ap (λ (l : List Token). (first_span l).start) (sym (append_assoc a (t ∷ []) ts))) (λ g. spread_past s a t ts f) r)
    refl e

pub types_sound : (n : ℕ) → IsSound Types n
unfolding type_at
types_sound n ts x rest e = more_sound n ts [] [] (first_span ts) x rest refl refl (λ h. absurd cc) e

-- ---- what is a type is read

none_some_tokens : {t : Token} {ts : List Token} → ◌≡◌ {A = List Token} [] (t ∷ ts) → ⊥
none_some_tokens e = cc

spread_of : (s : Span) (a : List Token) (qs : List Qualifier) (rest : List Token) → AreAll IsQualifier a qs → has_sign qs ≡ true → s ≡ first_span (a ++ rest) → past s a ≡ spread a
spread_of s a [] rest i h e = absurd cc
spread_of s [] (q ∷ qs) rest i h e = let p = first_qualifier [] q qs i in absurd (none_some_tokens p.2)
spread_of s (t ∷ a) (q ∷ qs) rest i h e = past_last s t a ∙ ap (λ (p : Span). span_to p (last_span (t ∷ a))) e

is_read : {used : List Token} {t : TypeTree} → IsType used t → (rest : List Token) → EndsType t.base rest → type_at (used ++ rest) ≡ Ok (t, rest)
is_read (is_based b s ts qs i) rest h =
    let front : Span = first_span (ts ++ at (base_mark b) s ∷ rest) in
    let whole = append_assoc ts (at (base_mark b) s ∷ []) rest in
    let one = at_front ts qs (at (base_mark b) s ∷ rest) i in
    let two = more_base (past front ts) qs (at (base_mark b) s ∷ rest) b (base_word b) in
    let three = spread_past (past front ts) ts (at (base_mark b) s) rest (past_start front ts) in
    ap (λ (l : List Token). type_at l) whole ∙ one ∙ two ∙ ap (λ (p : Span). Ok (record { qualifiers = qs; base = Some b; span = p }, rest)) three
is_read (is_signed ts qs i g) rest h =
    let front : Span = first_span (ts ++ rest) in
    at_front ts qs rest i ∙ more_signed (past front ts) qs rest h g ∙ ap (λ (p : Span). Ok (record { qualifiers = qs; base = None; span = p }, rest)) (spread_of front ts qs rest i g refl)

pub types_complete : (n : ℕ) → IsComplete Types n
types_complete n used t rest i le h = is_read i rest h

-- ---- what a refusal of a type means

end_refused : (n : ℕ) (a : List Token) (qs : List Qualifier) (s : Span) (ts : List Token) (r : Refusal) → AreAll IsQualifier a qs → type_word_at ts ≡ by.Other → type_end s qs ts ≡ Err r → Refused (Can Types) (FailsForm Types) n (a ++ ts) r
end_refused n a qs s ts r i o e =
    elim (chosen (has_sign qs) (Ok (record { qualifiers = qs; base = None; span = s }, ts)) (refuse Unexpected ts) (Err r) e) [
      | inl p ↦ absurd (ok_err p.1)
      | inr p ↦
          subst (λ (d : Refusal). Refused (Can Types) (FailsForm Types) n (a ++ ts) d) (err_is p.1) (record {
            used = a;
            after = ts;
            split = refl;
            place = refl;
            viable = (at mark.Int nowhere ∷ [], (_, is_based base.Int nowhere a qs i));
            stays = λ m more al h. at_front a qs more i ∙ more_fails (past (first_span (a ++ more)) a) qs more (sym (word_same ts more h) ∙ o) p.0;
          })
    ]

step_refused : (n : ℕ) (w : TypeWord) (t : Token) (ts a : List Token) (qs : List Qualifier) (s : Span) (r : Refusal) → AreAll IsQualifier a qs
    → ((q : Qualifier) → type_more (span_to s t.span) (qs ++ q ∷ []) ts ≡ Err r → AreAll IsQualifier (a ++ t ∷ []) (qs ++ q ∷ []) → Refused (Can Types) (FailsForm Types) n ((a ++ t ∷ []) ++ ts) r)
    → type_word_of t.kind ≡ w → type_by (λ q. type_more (span_to s t.span) (qs ++ q ∷ []) ts) w s qs t ts ≡ Err r → Refused (Can Types) (FailsForm Types) n (a ++ t ∷ ts) r
step_refused n (by.Qualifier q) t ts a qs s r i more o e =
    let k : t.kind ≡ kind.Mark (qualifier_mark q) = subst (λ (w : TypeWord). Says t.kind w) o (says t.kind) in
    let u : t ≡ at (qualifier_mark q) t.span = ap (λ (c : TokenKind). token c t.span) k in
    let all : AreAll IsQualifier (a ++ t ∷ []) (qs ++ q ∷ []) = subst (λ (v : Token). AreAll IsQualifier (a ++ v ∷ []) (qs ++ q ∷ [])) (sym u) (all_past a qs q t.span i) in
    subst (λ (l : List Token). Refused (Can Types) (FailsForm Types) n l r) (append_assoc a (t ∷ []) ts) (more q e all)
step_refused n (by.Base b) t ts a qs s r i more o e = absurd (ok_err e)
step_refused n by.Other t ts a qs s r i more o e = end_refused n a qs s (t ∷ ts) r i o e

more_refused : (n : ℕ) (ts a : List Token) (qs : List Qualifier) (s : Span) (r : Refusal) → AreAll IsQualifier a qs → type_more s qs ts ≡ Err r → Refused (Can Types) (FailsForm Types) n (a ++ ts) r
unfolding type_more
more_refused n [] a qs s r i e = end_refused n a qs s [] r i refl e
more_refused n (t ∷ ts) a qs s r i e =
    step_refused n (type_word_of t.kind) t ts a qs s r i (λ q w all. more_refused n ts (a ++ t ∷ []) (qs ++ q ∷ []) (span_to s t.span) r all w) refl e

pub types_refused : (n : ℕ) → IsRefused Types n
unfolding type_at
types_refused n ts r e = more_refused n ts [] [] (first_span ts) r refl e

-- ---- the least type

pub int_type : Can Types (at mark.Int nowhere ∷ [])
int_type = (_, is_based base.Int nowhere [] [] refl)

-- ---- the first token of a type

pub type_starts : {ts : List Token} {t : TypeTree} → IsType ts t → (rest : List Token) → on_head false begins_type (head (ts ++ rest)) ≡ true
type_starts (is_based b s ts [] i) rest = rw i (ap is_type_word (base_word b))
type_starts (is_based b s ts (q ∷ qs) i) rest = let p = first_qualifier ts q qs i in rw p.2 (ap is_type_word (qualifier_word q))
type_starts (is_signed ts [] i h) rest = absurd cc
type_starts (is_signed ts (q ∷ qs) i h) rest = let p = first_qualifier ts q qs i in rw p.2 (ap is_type_word (qualifier_word q))
