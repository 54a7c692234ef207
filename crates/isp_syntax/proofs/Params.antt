-- Parameters, and the words before a function's type: what is read is what they are.
use Rattle.std.proofs.Common.{◌≡◌, ℕ, Bool, true, false, List, [], ◌∷◌, ◌++◌, drop, Option, Some, None, Ok, Err, refl, sym, ap, subst, ◌∙◌, append_assoc, arith, inl, inr}
use Rattle.std.specs.Prelude.{◌&&◌}
use Rattle.std.proofs.lemmas.Bool.{false≢true}
use Rattle.isp_base.specs.declared.types.Span.{Span}
use Rattle.isp_lex.specs.Tokens.{at, is_mark, starts_with}
use Rattle.isp_lex.specs.declared.token.Mark.TheVariants as mark
use Rattle.isp_lex.specs.declared.token.TokenKind.{TokenKind}
use Rattle.isp_lex.specs.declared.token.TokenKind.TheVariants as kind
use Rattle.isp_lex.specs.declared.token.Token.{Token}
use Rattle.isp_grammar.proofs.Basics.{token, ok_is, ok_err, chosen, starts_same, starts_is, starts_cons}
use Rattle.isp_grammar.proofs.Choices.{nowhere, nameless, begins_same, Makes, makes_sound, makes_complete, makes_refused}
use Rattle.isp_grammar.proofs.Declarations.{word_ends_type}
use Rattle.isp_grammar.proofs.Exprs.{both_true}
use Rattle.isp_grammar.proofs.Forms.{Form, Found, IsSound, IsComplete, Can, One, one_sound, one_complete, Named, named_sound, named_complete, Both, Free, Follows, follows, both_sound}
use Rattle.isp_grammar.proofs.Forms.{both_complete, NameThen, named_then, name_then_is, is_name_then, Optional, optional_sound, AreListed, Series, series_sound}
use Rattle.isp_grammar.proofs.FormsComplete.{EndsByHead, named_by_head, optional_complete, TakesComma, StartsOff, series_complete}
use Rattle.isp_grammar.proofs.ListForms.{listed_ends, series_by_head}
use Rattle.isp_grammar.proofs.Refused.{Allowed, Completes, FailsForm, IsRefused, one_refused, named_refused, both_refused, optional_refused, series_refused}
use Rattle.isp_grammar.proofs.Starts.{starts_off}
use Rattle.isp_grammar.proofs.TypesRead.{one_qualifier, Types, types_sound, types_complete, types_by_head, types_refused, type_starts}
use Rattle.isp_grammar.specs.Grammar.{AreAll, IsType, is_based, is_signed, IsLinkage, is_linkage, IsParam, is_scalar, is_array, IsParams, is_none, is_void, is_some}
use Rattle.isp_grammar.specs.reader.Readers.{refusal, head, is_word, listed_at}
use Rattle.isp_grammar.specs.reader.Choices.{begins_with, signs_from, signs_at}
use Rattle.isp_grammar.specs.reader.Programs.{linkage_of, linkages_at, param_from, param_at, only_void, params_at}
use Rattle.isp_grammar.specs.reader.Stmts.{stands}
use Rattle.isp_grammar.specs.reader.Types.{begins_type}
use Rattle.isp_grammar.specs.Signs.{word, qualifier_mark, base_mark, linkage_mark}
use Rattle.isp_tree.specs.Tree.{TypeTree, Param}
use Rattle.isp_grammar.specs.declared.stop.Refusal.{Refusal}
use Rattle.isp_grammar.specs.declared.stop.Why.{Why}
use Rattle.isp_grammar.specs.declared.stop.Why.TheVariants.{Unexpected, TooDeep}
use Rattle.isp_tree.specs.declared.types.Base.TheVariants as base
use Rattle.isp_tree.specs.declared.types.Qualifier.{Qualifier}
use Rattle.isp_tree.specs.declared.types.Qualifier.TheVariants as qualifier
use Rattle.isp_tree.specs.declared.function.Linkage.{Linkage}
use Rattle.isp_tree.specs.declared.function.Linkage.TheVariants.{Export, Static, Inline}
use Rattle.isp_tree.specs.declared.types.Word.{Word}

-- ---- the words before a function's type

abbrev pub is_linkage_word : TokenKind → Bool
is_linkage_word k = stands (linkage_of k)

linkage_found : (k : TokenKind) (l : Linkage) → linkage_of k ≡ Some l → k ≡ kind.Mark (linkage_mark l)
linkage_found (kind.Word n) l e = absurd cc
linkage_found (kind.Number v) l e = absurd cc
linkage_found (kind.Text t) l e = absurd cc
linkage_found (kind.Mark mark.Export) Export e = refl
linkage_found (kind.Mark mark.Export) Static e = absurd cc
linkage_found (kind.Mark mark.Export) Inline e = absurd cc
linkage_found (kind.Mark mark.Static) Export e = absurd cc
linkage_found (kind.Mark mark.Static) Static e = refl
linkage_found (kind.Mark mark.Static) Inline e = absurd cc
linkage_found (kind.Mark mark.Inline) Export e = absurd cc
linkage_found (kind.Mark mark.Inline) Static e = absurd cc
linkage_found (kind.Mark mark.Inline) Inline e = refl
linkage_found (kind.Mark _) l e = absurd cc
linkage_found kind.LeftOut l e = absurd cc

linkage_again : (l : Linkage) → linkage_of (kind.Mark (linkage_mark l)) ≡ Some l
linkage_again Export = refl
linkage_again Static = refl
linkage_again Inline = refl

abbrev pub Linkages : Form (List Linkage)
Linkages = record { is = AreAll IsLinkage; deep = λ ls. 0; ends = λ ls rest. begins_with is_linkage_word rest ≡ false; read = λ n ts. linkages_at ts }

module _ (n : ℕ) where
  signs_by : (t : Token) (ts : List Token) (o : Option Linkage) → linkage_of t.kind ≡ o → Found Linkages n ts (signs_at linkage_of ts).0 (signs_at linkage_of ts).1
      → Found Linkages n (t ∷ ts) (signs_from (signs_at linkage_of ts) o t ts).0 (signs_from (signs_at linkage_of ts) o t ts).1
  signs_by t ts None e p = record { used = []; split = refl; is = refl; shallow = omega arith; ends = ap (λ (o : Option Linkage). stands o) e }
  signs_by t ts (Some l) e p = record {
    used = t ∷ p.used;
    split = ap (λ (r : List Token). t ∷ r) p.split;
    is = (t ∷ [], p.used, refl, subst (λ (u : Token). IsLinkage (u ∷ []) l) (sym (ap (λ (k : TokenKind). token k t.span) (linkage_found t.kind l e))) (is_linkage l t.span), p.is);
    shallow = omega arith;
    ends = p.ends;
  }

  signs_found : (ts : List Token) → Found Linkages n ts (signs_at linkage_of ts).0 (signs_at linkage_of ts).1
  unfolding signs_at
  signs_found [] = record { used = []; split = refl; is = refl; shallow = omega arith; ends = refl }
  signs_found (t ∷ ts) = signs_by t ts (linkage_of t.kind) refl (signs_found ts)

  pub linkages_sound : IsSound Linkages n
  unfolding linkages_at
  linkages_sound ts ls rest e = subst (λ (z : List Linkage × List Token). Found Linkages n ts z.0 z.1) (ok_is e) (signs_found ts)

  pub linkages_refused : IsRefused Linkages n
  unfolding linkages_at
  linkages_refused ts r e = absurd (ok_err e)

signs_none : (o : Option Linkage) (t : Token) (ts : List Token) → stands o ≡ false → signs_from (signs_at linkage_of ts) o t ts ≡ ([], t ∷ ts)
signs_none None t ts e = refl
signs_none (Some l) t ts e = absurd (false≢true (sym e))

no_signs : (rest : List Token) → begins_with is_linkage_word rest ≡ false → signs_at linkage_of rest ≡ ([], rest)
unfolding signs_at
no_signs [] e = refl
no_signs (t ∷ ts) e = signs_none (linkage_of t.kind) t ts e

linkage_is : {a : List Token} {l : Linkage} → IsLinkage a l → (s : Span) × (a ≡ at (linkage_mark l) s ∷ [])
linkage_is (is_linkage l s) = (s, refl)

signs_again : (used : List Token) (ls : List Linkage) (rest : List Token) → AreAll IsLinkage used ls → begins_with is_linkage_word rest ≡ false → signs_at linkage_of (used ++ rest) ≡ (ls, rest)
unfolding signs_at
signs_again used [] rest i h = rw i (no_signs rest h)
signs_again used (l ∷ ls) rest i h =
    let a = linkage_is i.3 in
    let e : used ++ rest ≡ at (linkage_mark l) a.0 ∷ (i.1 ++ rest) = ap (λ (u : List Token). u ++ rest) (i.2 ∙ ap (λ (u : List Token). u ++ i.1) a.1) in
    rw (e, linkage_again l, signs_again i.1 ls rest i.4 h) refl

pub linkages_complete : (n : ℕ) → IsComplete Linkages n
unfolding linkages_at
linkages_complete n used ls rest i le h = rw (signs_again used ls rest i h) refl

pub linkages_by_head : EndsByHead Linkages
linkages_by_head ls a b e h = sym (begins_same is_linkage_word a b e) ∙ h

pub type_no_linkage : (k : TokenKind) → begins_type k ≡ true → is_linkage_word k ≡ false
type_no_linkage (kind.Word n) e = refl
type_no_linkage (kind.Number v) e = refl
type_no_linkage (kind.Text t) e = refl
type_no_linkage (kind.Mark mark.Export) e = absurd cc
type_no_linkage (kind.Mark mark.Static) e = absurd cc
type_no_linkage (kind.Mark mark.Inline) e = absurd cc
type_no_linkage (kind.Mark _) e = refl
type_no_linkage kind.LeftOut e = refl

-- ---- one parameter

abbrev pub ArraySign : Form (Option Span)
ArraySign = Optional mark.BracketOpen (One mark.BracketClose)

abbrev pub Shaped : Form (Word × Option Span)
Shaped = NameThen ArraySign

abbrev pub ParamParts : Form (TypeTree × (Word × Option Span))
ParamParts = Both Types Shaped Free

abbrev pub param_of : TypeTree × (Word × Option Span) → Param
param_of p = param_from p.0 p.1.0 p.1.1

-- what follows a parameter does not go on with it
abbrev pub EndsParam : Param → List Token → Type 0
EndsParam p rest = p.is_array ≡ false → starts_with mark.BracketOpen rest ≡ false

abbrev pub Parameter : Form Param
Parameter = record { is = λ ts p. IsParam ts p; deep = λ p. 0; ends = EndsParam; read = λ n ts. param_at ts }

shape_then : Follows Named ArraySign Free
shape_then = named_then ArraySign [] (None, refl)

shaped_word : (b : List Token) (p : Word × Option Span) (rest : List Token) → Shaped.is b p → begins_with is_word (b ++ rest) ≡ true
shaped_word b p rest i = let j = name_then_is ArraySign b p i in subst (λ (l : List Token). begins_with is_word (l ++ rest) ≡ true) (sym j.1) refl

param_then : Follows Types Shaped Free
param_then = follows Types Shaped (λ t y b rest i h. word_ends_type t (b ++ rest) (shaped_word b y rest i)) (word nameless ∷ []) ((nameless, None), is_name_then ArraySign nameless [] None refl)

param_makes_is : (ts : List Token) (p : TypeTree × (Word × Option Span)) → ParamParts.is ts p → IsParam ts (param_of p)
param_makes_is ts (t, (w, None)) i =
    let j = name_then_is ArraySign i.1 (w, None) i.4 in
    subst (λ (l : List Token). IsParam l (param_of (t, (w, None)))) (sym (i.2 ∙ ap (λ (l : List Token). i.0 ++ l) (j.1 ∙ ap (λ (l : List Token). word w ∷ l) j.2))) (is_scalar i.0 t w i.3)
param_makes_is ts (t, (w, Some c)) i =
    let j = name_then_is ArraySign i.1 (w, Some c) i.4 in
    let k = j.2 in
    subst (λ (l : List Token). IsParam l (param_of (t, (w, Some c))))
    (sym (i.2 ∙ ap (λ (l : List Token). i.0 ++ l) (j.1
    ∙ ap (λ (l : List Token). word w ∷ l) (k.2 ∙ ap (λ (l : List Token). at mark.BracketOpen k.0 ∷ l) k.3)))) (is_array i.0 t w k.0 c i.3)

param_unmakes : {ts : List Token} {y : Param} → IsParam ts y → (p : TypeTree × (Word × Option Span)) × ParamParts.is ts p × (param_of p ≡ y)
param_unmakes (is_scalar ts t w i) = ((t, (w, None)), (ts, word w ∷ [], refl, i, is_name_then ArraySign w [] None refl, tt), refl)
param_unmakes (is_array ts t w o c i) = (
  (t, (w, Some c)),
  (ts, word w ∷ at mark.BracketOpen o ∷ at mark.BracketClose c ∷ [], refl, i, is_name_then ArraySign w (at mark.BracketOpen o ∷ at mark.BracketClose c ∷ []) (Some c) (o, at mark.BracketClose c ∷ [], refl, refl), tt),
  refl,
)

param_deep : (p : TypeTree × (Word × Option Span)) → 0 ≡ ParamParts.deep p
param_deep (t, (w, None)) = omega arith
param_deep (t, (w, Some c)) = omega arith

param_ends : (p : TypeTree × (Word × Option Span)) (rest : List Token) → ParamParts.ends p rest → EndsParam (param_of p) rest
param_ends (t, (w, None)) rest h = λ e. h
param_ends (t, (w, Some c)) rest h = λ e. absurd cc

param_back : (p : TypeTree × (Word × Option Span)) (rest : List Token) → EndsParam (param_of p) rest → ParamParts.ends p rest
param_back (t, (w, None)) rest h = h refl
param_back (t, (w, Some c)) rest h = tt

param_makes : Makes ParamParts Parameter param_of
unfolding param_at
param_makes = record {
  reads = λ n ts. refl;
  makes = λ ts x i. param_makes_is ts x i;
  unmakes = λ ts y i. param_unmakes i;
  deep = λ x. param_deep x;
  ends = λ x rest h. param_ends x rest h;
  back = λ x rest h. param_back x rest h;
}

param_sound : (n : ℕ) → IsSound Parameter n
param_sound n =
    makes_sound ParamParts Parameter param_of param_makes n
    (both_sound Types Shaped Free param_then n (types_sound n) (both_sound Named ArraySign Free shape_then n (named_sound n) (optional_sound mark.BracketOpen (One mark.BracketClose) n (one_sound mark.BracketClose n))))

param_complete : (n : ℕ) → IsComplete Parameter n
param_complete n =
    makes_complete ParamParts Parameter param_of param_makes n
    (both_complete Types Shaped Free param_then n (types_complete n) (both_complete Named ArraySign Free shape_then n (named_complete n) (optional_complete mark.BracketOpen (One mark.BracketClose) n (one_complete mark.BracketClose n))))

param_refused : (n : ℕ) → IsRefused Parameter n
param_refused n =
    makes_refused ParamParts Parameter param_of param_makes n
    (both_refused Types Shaped Free param_then n types_by_head types_complete (types_sound n) (types_refused n)
    (both_refused Named ArraySign Free shape_then n named_by_head named_complete (named_sound n) (named_refused n) (optional_refused mark.BracketOpen (One mark.BracketClose) n (one_refused mark.BracketClose n))))

param_by_head : EndsByHead Parameter
param_by_head p a b e h = λ i. sym (starts_same mark.BracketOpen a b e) ∙ h i

param_comma : TakesComma Parameter
param_comma p s rest = λ e. refl

param_starts : {ts : List Token} {p : Param} → IsParam ts p → (rest : List Token) → begins_with begins_type (ts ++ rest) ≡ true
param_starts (is_scalar ts t w i) rest = ap (λ (l : List Token). begins_with begins_type l) (append_assoc ts (word w ∷ []) rest) ∙ type_starts i (word w ∷ rest)
param_starts (is_array ts t w o c i) rest =
    ap (λ (l : List Token). begins_with begins_type l) (append_assoc ts (word w ∷ at mark.BracketOpen o ∷ at mark.BracketClose c ∷ []) rest) ∙ type_starts i (word w ∷ at mark.BracketOpen o ∷ at mark.BracketClose c ∷ rest)

param_off : StartsOff Parameter mark.ParenClose
param_off a p rest i = starts_off mark.ParenClose begins_type refl (a ++ rest) (param_starts i rest)

-- ---- parameters

abbrev pub ParamList : Form (List Param)
ParamList = Series Parameter mark.ParenClose

abbrev pub Params : Form (List Param)
Params = record { is = λ ts ps. IsParams ts ps; deep = λ ps. 0; ends = λ ps rest. ParamList.ends ps rest; read = λ n ts. params_at ts }

and_false : (b : Bool) → b && false ≡ false
and_false true = refl
and_false false = refl

and_off : (b c : Bool) → b ≡ false → b && c ≡ false
and_off true c e = absurd (false≢true (sym e))
and_off false c e = refl

qualifier_no_void : (q : Qualifier) → is_mark mark.Void (kind.Mark (qualifier_mark q)) ≡ false
qualifier_no_void qualifier.Const = refl
qualifier_no_void qualifier.Uniform = refl
qualifier_no_void qualifier.Varying = refl
qualifier_no_void qualifier.Signed = refl
qualifier_no_void qualifier.Unsigned = refl

-- a type that begins with `void` is that word alone
type_not_alone : {ts : List Token} {t : TypeTree} → IsType ts t → (w : Word) (rest : List Token) → only_void (ts ++ word w ∷ rest) ≡ false
type_not_alone (is_based b s ts [] i) w rest = rw i (and_false _)
type_not_alone (is_based b s ts (q ∷ qs) i) w rest =
    let j = one_qualifier i.3 in
    let e : (ts ++ at (base_mark b) s ∷ []) ++ word w ∷ rest
    ≡ at (qualifier_mark q) j.0 ∷ ((i.1 ++ at (base_mark b) s ∷ []) ++ word w ∷ rest) = ap
    (λ (l : List Token). (l ++ at (base_mark b) s ∷ []) ++ word w ∷ rest) (i.2 ∙ ap (λ (l : List Token). l ++ i.1) j.1) in
    ap only_void e ∙ and_off _ _ (qualifier_no_void q)
type_not_alone (is_signed ts [] i h) w rest = absurd (false≢true h)
type_not_alone (is_signed ts (q ∷ qs) i h) w rest =
    let j = one_qualifier i.3 in
    let e : ts ++ word w ∷ rest ≡ at (qualifier_mark q) j.0 ∷ (i.1 ++ word w ∷ rest) = ap (λ (l : List Token). l ++ word w ∷ rest) (i.2 ∙ ap (λ (l : List Token). l ++ i.1) j.1) in
    ap only_void e ∙ and_off _ _ (qualifier_no_void q)

param_not_alone : {ts : List Token} {p : Param} → IsParam ts p → (rest : List Token) → only_void (ts ++ rest) ≡ false
param_not_alone (is_scalar ts t w i) rest = ap only_void (append_assoc ts (word w ∷ []) rest) ∙ type_not_alone i w rest
param_not_alone (is_array ts t w o c i) rest = ap only_void (append_assoc ts (word w ∷ at mark.BracketOpen o ∷ at mark.BracketClose c ∷ []) rest) ∙ type_not_alone i w (at mark.BracketOpen o ∷ at mark.BracketClose c ∷ rest)

list_not_alone : (ts : List Token) (p : Param) (ps : List Param) (rest : List Token) → AreListed Parameter ts (p ∷ ps) → only_void (ts ++ rest) ≡ false
list_not_alone ts p [] rest i = param_not_alone i rest
list_not_alone ts p (q ∷ qs) rest i =
    let s : ts ++ rest ≡ i.0 ++ at mark.Comma i.1 ∷ (i.2 ++ rest) = ap (λ (l : List Token). l ++ rest) i.3 ∙ append_assoc i.0 (at mark.Comma i.1 ∷ i.2) rest in
    ap only_void s ∙ param_not_alone i.4 (at mark.Comma i.1 ∷ (i.2 ++ rest))

closed_not_alone : (rest : List Token) → starts_with mark.ParenClose rest ≡ true → only_void rest ≡ false
closed_not_alone rest h = let c = starts_is mark.ParenClose rest h in ap only_void c.2

series_params : (ts : List Token) (ps : List Param) → ParamList.is ts ps → IsParams ts ps
series_params ts [] i = subst (λ (l : List Token). IsParams l []) (sym i) is_none
series_params ts (p ∷ ps) i = is_some ts (p ∷ ps) i

list_found : (n : ℕ) (ts : List Token) (ps : List Param) (rest : List Token) → Found ParamList n ts ps rest → Found Params n ts ps rest
list_found n ts ps rest p = record { used = p.used; split = p.split; is = series_params p.used ps p.is; shallow = omega arith; ends = p.ends }

void_found : (n : ℕ) (ts : List Token) → only_void ts ≡ true → Found Params n ts [] (drop 1 ts)
void_found n ts e =
    let b = both_true (starts_with mark.Void ts) (starts_with mark.ParenClose (drop 1 ts)) e in
    let c = starts_cons mark.Void ts b.0 in
    record { used = at mark.Void c.0 ∷ []; split = c.1; is = is_void c.0; shallow = omega arith; ends = b.1 }

list_sound : (n : ℕ) → IsSound ParamList n
list_sound n = series_sound Parameter mark.ParenClose n (param_sound n)

pub params_sound : (n : ℕ) → IsSound Params n
unfolding params_at
params_sound n ts ps rest e =
    elim (chosen (only_void ts) (Ok ([], drop 1 ts)) (listed_at mark.ParenClose param_at ts) (Ok (ps, rest)) e) [
      | inl p ↦ subst (λ (z : List Param × List Token). Found Params n ts z.0 z.1) (ok_is p.1) (void_found n ts p.0)
      | inr p ↦ list_found n ts ps rest (list_sound n ts ps rest p.1)
    ]

list_complete : (n : ℕ) → IsComplete ParamList n
list_complete n = series_complete Parameter mark.ParenClose param_comma param_off n (param_complete n)

zero_deep : (ps : List Param) → ParamList.deep ps ≡ 0
zero_deep [] = refl
zero_deep (p ∷ ps) = omega (arith, zero_deep ps)

params_again : (n : ℕ) {used : List Token} {ps : List Param} → IsParams used ps → (rest : List Token) → ParamList.ends ps rest → params_at (used ++ rest) ≡ Ok (ps, rest)
unfolding params_at
params_again n is_none rest h = rw (closed_not_alone rest h) (list_complete n [] [] rest refl (omega arith) h)
params_again n (is_void v) rest h = rw h refl
params_again n (is_some ts [] i) rest h = absurd i
params_again n (is_some ts (p ∷ ps) i) rest h = rw (list_not_alone ts p ps rest i) (list_complete n ts (p ∷ ps) rest i (omega (arith, zero_deep (p ∷ ps))) h)

pub params_complete : (n : ℕ) → IsComplete Params n
params_complete n used ps rest i le h = params_again n i rest h

pub params_by_head : EndsByHead Params
params_by_head ps a b e h = series_by_head Parameter mark.ParenClose param_by_head ps a b e h

pub params_close : (ps : List Param) (s : Span) (rest : List Token) → Params.ends ps (at mark.ParenClose s ∷ rest)
params_close [] s rest = refl
params_close (p ∷ ps) s rest = listed_ends Parameter mark.ParenClose refl (λ q s rest. λ e. refl) (p ∷ ps) s rest

allowed_same : (why : Why) (n : ℕ) → Allowed why n n
allowed_same Unexpected n = omega arith
allowed_same TooDeep n = refl

-- what was not `void` alone is not, with the same first token after what was read
void_same : (t : Token) (used after more : List Token) → head after ≡ head more → only_void (t ∷ (used ++ after)) ≡ only_void (t ∷ (used ++ more))
void_same t [] after more h = ap (λ (b : Bool). is_mark mark.Void t.kind && b) (starts_same mark.ParenClose after more h)
void_same t (u ∷ used) after more h = refl

list_refused : (n : ℕ) → IsRefused ParamList n
list_refused n = series_refused Parameter n param_by_head param_comma param_complete (param_sound n) (param_refused n) mark.ParenClose

abbrev void_tokens : List Token
void_tokens = at mark.Void nowhere ∷ word nameless ∷ []

void_param : (p : Param) × IsParam void_tokens p
void_param = (_, is_scalar (at mark.Void nowhere ∷ []) _ nameless (is_based base.Void nowhere [] [] refl))

void_reads : (n : ℕ) → ParamList.read n (void_tokens ++ at mark.ParenClose nowhere ∷ []) ≡ Ok (void_param.0 ∷ [], at mark.ParenClose nowhere ∷ [])
void_reads n = list_complete n void_tokens (void_param.0 ∷ []) (at mark.ParenClose nowhere ∷ []) void_param.1 (omega (arith, zero_deep (void_param.0 ∷ []))) (λ e. refl, refl)

-- a list of parameters is never refused at `void`
never_at_void : (n : ℕ) (r : Refusal) (after : List Token) → starts_with mark.Void after ≡ true
    → ((m : ℕ) (more : List Token) → Allowed r.why n m → head after ≡ head more → FailsForm ParamList m more (refusal r.why more)) → ⊥
never_at_void n r after s stays =
    let c = starts_is mark.Void after s in
    ok_err (sym (void_reads n) ∙ stays n (void_tokens ++ at mark.ParenClose nowhere ∷ []) (allowed_same r.why n) (ap head c.2))

still_not_alone : (n : ℕ) (r : Refusal) (used after : List Token) → only_void (used ++ after) ≡ false
    → ((m : ℕ) (more : List Token) → Allowed r.why n m → head after ≡ head more → FailsForm ParamList m (used ++ more) (refusal r.why more))
    → (more : List Token) → head after ≡ head more → only_void (used ++ more) ≡ false
still_not_alone n r (t ∷ used) after o stays more h = sym (void_same t used after more h) ∙ o
still_not_alone n r [] after o stays more h = by (starts_with mark.Void after) refl
  where
    by : (b : Bool) → starts_with mark.Void after ≡ b → only_void more ≡ false
    by true s = absurd (never_at_void n r after s stays)
    by false s = and_off _ _ (sym (starts_same mark.Void after more h) ∙ s)

params_complete_of : (why : Why) (used after : List Token) → Completes (Can ParamList) why used after → Completes (Can Params) why used after
params_complete_of Unexpected used after c = (c.0, (c.1.0, series_params (used ++ c.0) c.1.0 c.1.1))
params_complete_of TooDeep used [] c = absurd c
params_complete_of TooDeep used (t ∷ after) c = (c.0, (c.1.0, series_params (used ++ t ∷ c.0) c.1.0 c.1.1))

pub params_refused : (n : ℕ) → IsRefused Params n
unfolding params_at
params_refused n ts r e =
    elim (chosen (only_void ts) (Ok ([], drop 1 ts)) (listed_at mark.ParenClose param_at ts) (Err r) e) [
      | inl p ↦ absurd (ok_err p.1)
      | inr p ↦
          let q = list_refused n ts r p.1 in
          let o = subst (λ (l : List Token). only_void l ≡ false) q.split p.0 in
          record {
            used = q.used;
            after = q.after;
            split = q.split;
            place = q.place;
            viable = params_complete_of r.why q.used q.after q.viable;
            stays = λ m more a h. let s = still_not_alone n r q.used q.after o q.stays more h in rw s (q.stays m more a h);
          }
    ]
