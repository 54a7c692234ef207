-- Ranges, and the values of a `print`: what is read is what they are.
use Rattle.std.proofs.Common.{◌≡◌, ℕ, ◌≤◌, Bool, true, false, cond, List, [], ◌∷◌, ◌++◌, length, Option, Some, None, refl, sym, ap, subst, ◌∙◌, arith}
use Rattle.std.proofs.lemmas.Slice.Eq.{bytes_eq-Decides}
use Rattle.std.specs.Prelude.{⊤, bytes_eq, codes}
use Rattle.isp_base.specs.declared.types.Span.{Span}
use Rattle.isp_lex.specs.Tokens.{at, is_mark, starts_with}
use Rattle.isp_lex.specs.declared.token.Mark.{Mark}
use Rattle.isp_lex.specs.declared.token.Mark.TheVariants as mark
use Rattle.isp_lex.specs.declared.token.TokenKind.{TokenKind}
use Rattle.isp_lex.specs.declared.token.TokenKind.TheVariants as kind
use Rattle.isp_lex.specs.declared.token.Token.{Token}
use Rattle.isp_grammar.proofs.Basics.{starts_is, starts_same}
use Rattle.isp_grammar.proofs.Choices.{nowhere, nameless, begins_same, Sign, Signs, sign_sound, sign_complete, sign_refused, Tail, Joins, tail_sound, tail_complete, tail_refused, Makes, makes_sound, makes_complete, makes_refused}
use Rattle.isp_grammar.proofs.Declarations.{some_expr}
use Rattle.isp_grammar.proofs.ExprLaws.{exprs_sound, exprs_complete, exprs_by_head, exprs_refused}
use Rattle.isp_grammar.proofs.Exprs.{Exprs, closes_ends}
use Rattle.isp_grammar.proofs.Forms.{Form, IsSound, IsComplete, Can, One, one_sound, one_complete, Named, named_sound, named_complete, Both, Free, Follows, follows, both_sound}
use Rattle.isp_grammar.proofs.Forms.{both_complete, Behind, one_then, behind_is, is_behind, NameThen, named_then, name_then_is, is_name_then, Until, until_sound}
use Rattle.isp_grammar.proofs.FormsComplete.{EndsByHead, one_by_head, named_by_head, Stands, until_complete}
use Rattle.isp_grammar.proofs.Refused.{IsRefused, one_refused, named_refused, both_refused, until_refused}
use Rattle.isp_grammar.proofs.Wrapped.{After, after_sound, after_complete, after_refused, some_after, Bracketed, bracketed_sound, bracketed_complete, bracketed_refused, some_bracketed}
use Rattle.isp_tree.specs.Depth.{depth, depth_of_range, deepest_of}
use Rattle.isp_grammar.specs.Grammar.{IsExpr, AreListed, IsRange, is_range}
use Rattle.isp_grammar.specs.reader.Choices.{begins_with}
use Rattle.isp_grammar.specs.reader.Stmts.{behind_at, range_from, range_at, more_ranges, last_range_at, more_ranges_at, ranges_at, in_of, unique_parts_at, text_of}
use Rattle.isp_grammar.specs.Signs.{word, preposition, loosest}
use Rattle.isp_tree.specs.Tree.{Expr, Range}
use Rattle.isp_tree.specs.declared.types.Word.{Word}

-- ---- one range

abbrev RangeStart : Form Expr
RangeStart = After mark.Assign (Exprs loosest)

abbrev RangeEnd : Form Expr
RangeEnd = After mark.Ellipsis (Exprs loosest)

abbrev RangeBounds : Form (Expr × Expr)
RangeBounds = Both RangeStart RangeEnd Free

abbrev RangeParts : Form (Word × (Expr × Expr))
RangeParts = NameThen RangeBounds

abbrev pub range_tree : Word × (Expr × Expr) → Range
range_tree p = range_from p.0 p.1.0 p.1.1

abbrev pub OneRange : Form Range
OneRange = record { is = λ ts r. IsRange ts r; deep = depth_of_range; ends = λ r rest. (Exprs loosest).ends r.end rest; read = range_at }

some_end : (b : List Token) × Can RangeEnd b
some_end = some_after mark.Ellipsis (Exprs loosest) (some_expr loosest)

some_bounds : (b : List Token) × Can RangeBounds b
some_bounds = let x = some_after mark.Assign (Exprs loosest) (some_expr loosest) in (x.0 ++ some_end.0, ((x.1.0, some_end.1.0), (x.0, some_end.0, refl, x.1.1, some_end.1.1, tt)))

bounds_then : Follows RangeStart RangeEnd Free
bounds_then = follows RangeStart RangeEnd (λ x y b rest i h. subst (λ (l : List Token). (Exprs loosest).ends x (l ++ rest)) (sym i.2) (closes_ends loosest mark.Ellipsis refl x i.0 (i.1 ++ rest))) some_end.0 some_end.1

range_then : Follows Named RangeBounds Free
range_then = named_then RangeBounds some_bounds.0 some_bounds.1

range_makes_is : (ts : List Token) (p : Word × (Expr × Expr)) → RangeParts.is ts p → IsRange ts (range_tree p)
range_makes_is ts p i =
    let a = name_then_is RangeBounds ts p i in
    let b = a.2.3 in
    let c = a.2.4 in
    let e = a.1 ∙ ap (λ (l : List Token). word p.0 ∷ l) (a.2.2 ∙ ap (λ (l : List Token). l ++ a.2.1) b.2 ∙ ap (λ (l : List Token). at mark.Assign b.0 ∷ (b.1 ++ l)) c.2) in
    subst (λ (l : List Token). IsRange l (range_tree p)) (sym e) (is_range p.0 b.0 c.0 b.1 c.1 p.1.0 p.1.1 b.3 c.3)

range_unmakes : {ts : List Token} {r : Range} → IsRange ts r → (p : Word × (Expr × Expr)) × RangeParts.is ts p × (range_tree p ≡ r)
range_unmakes (is_range w e d a b x y i j) = (
  (w, (x, y)),
  is_name_then RangeBounds w (at mark.Assign e ∷ (a ++ at mark.Ellipsis d ∷ b)) (x, y) (at mark.Assign e ∷ a, at mark.Ellipsis d ∷ b, refl, (e, a, refl, i), (d, b, refl, j), tt),
  refl,
)

range_makes : Makes RangeParts OneRange range_tree
unfolding range_at behind_at
range_makes = record {
  reads = λ n ts. refl;
  makes = λ ts x i. range_makes_is ts x i;
  unmakes = λ ts y i. range_unmakes i;
  deep = λ x. omega arith;
  ends = λ x rest h. h;
  back = λ x rest h. h;
}

behind_sound : (m : Mark) (n : ℕ) → IsSound (After m (Exprs loosest)) n
behind_sound m n = after_sound m (Exprs loosest) (some_expr loosest) n (exprs_sound loosest n)

behind_complete : (m : Mark) (n : ℕ) → IsComplete (After m (Exprs loosest)) n
behind_complete m n = after_complete m (Exprs loosest) (some_expr loosest) n (exprs_complete loosest n)

behind_refused : (m : Mark) (n : ℕ) → IsRefused (After m (Exprs loosest)) n
behind_refused m n = after_refused m (Exprs loosest) (some_expr loosest) n (exprs_refused loosest n)

range_sound : (n : ℕ) → IsSound OneRange n
range_sound n =
    makes_sound RangeParts OneRange range_tree range_makes n
    (both_sound Named RangeBounds Free range_then n (named_sound n) (both_sound RangeStart RangeEnd Free bounds_then n (behind_sound mark.Assign n) (behind_sound mark.Ellipsis n)))

range_complete : (n : ℕ) → IsComplete OneRange n
range_complete n =
    makes_complete RangeParts OneRange range_tree range_makes n
    (both_complete Named RangeBounds Free range_then n (named_complete n) (both_complete RangeStart RangeEnd Free bounds_then n (behind_complete mark.Assign n) (behind_complete mark.Ellipsis n)))

range_refused : (n : ℕ) → IsRefused OneRange n
range_refused n =
    makes_refused RangeParts OneRange range_tree range_makes n
    (both_refused Named RangeBounds Free range_then n named_by_head named_complete (named_sound n) (named_refused n)
    (both_refused RangeStart RangeEnd Free bounds_then n (λ x a b e h. exprs_by_head loosest x a b e h) (behind_complete mark.Assign) (behind_sound mark.Assign n) (behind_refused mark.Assign n) (behind_refused mark.Ellipsis n)))

range_by_head : EndsByHead OneRange
range_by_head r a b e h = exprs_by_head loosest r.end a b e h

some_range : (b : List Token) × Can OneRange b
some_range =
    let x = some_expr loosest in
    (word nameless ∷ at mark.Assign nowhere ∷ (x.0 ++ at mark.Ellipsis nowhere ∷ x.0), (range_from nameless x.1.0 x.1.0, is_range nameless nowhere nowhere x.0 x.0 x.1.0 x.1.0 x.1.1 x.1.1))

-- ---- one to three

abbrev is_comma : TokenKind → Bool
is_comma = is_mark mark.Comma

abbrev NextRange : Form (Span × Range)
NextRange = Behind mark.Comma OneRange

abbrev LastRanges : Form (Range × Option (Span × Range))
LastRanges = Tail OneRange is_comma NextRange

abbrev NextRanges : Form (Span × (Range × Option (Span × Range)))
NextRanges = Behind mark.Comma LastRanges

abbrev RangesParts : Form (Range × Option (Span × (Range × Option (Span × Range))))
RangesParts = Tail OneRange is_comma NextRanges

abbrev pub EndsRanges : List Range → List Token → Type 0
EndsRanges [] rest = Unit {0}
EndsRanges (r ∷ []) rest = OneRange.ends r rest × (begins_with is_comma rest ≡ false)
EndsRanges (r ∷ s ∷ []) rest = OneRange.ends s rest × (begins_with is_comma rest ≡ false)
EndsRanges (r ∷ s ∷ t ∷ more) rest = OneRange.ends t rest

abbrev pub AreRanges : List Token → List Range → Type 0
AreRanges ts rs = AreListed IsRange ts rs × (length rs ≤ 3)

abbrev pub Ranges : Form (List Range)
Ranges = record { is = AreRanges; deep = deepest_of depth_of_range; ends = EndsRanges; read = ranges_at }

next_then : Follows (One mark.Comma) OneRange Free
next_then = one_then mark.Comma OneRange some_range.0 some_range.1

some_last : Can LastRanges some_range.0
some_last = ((some_range.1.0, None), some_range.1.1)

nexts_then : Follows (One mark.Comma) LastRanges Free
nexts_then = one_then mark.Comma LastRanges some_range.0 some_last

comma_begins : {A : Type 0} (F : Form A) (d : List Token) (y : Span × A) (rest : List Token) → (Behind mark.Comma F).is d y → begins_with is_comma (d ++ rest) ≡ true
comma_begins F d y rest i = let j = behind_is mark.Comma F d y i in subst (λ (l : List Token). begins_with is_comma (l ++ rest) ≡ true) (sym j.1) refl

comma_follows : {A : Type 0} (F : Form A) (x : Range) (d : List Token) (y : Span × A) (rest : List Token) → (Behind mark.Comma F).is d y → OneRange.ends x (d ++ rest)
comma_follows F x d y rest i =
    let j = behind_is mark.Comma F d y i in
    subst (λ (l : List Token). OneRange.ends x (l ++ rest)) (sym j.1) (closes_ends loosest mark.Comma refl x.end y.0 (j.0 ++ rest))

last_joins : Joins OneRange is_comma NextRange
last_joins = record { begins = λ d y rest i. comma_begins OneRange d y rest i; ends = λ x d y rest i. comma_follows OneRange x d y rest i }

more_joins : Joins OneRange is_comma NextRanges
more_joins = record { begins = λ d y rest i. comma_begins LastRanges d y rest i; ends = λ x d y rest i. comma_follows LastRanges x d y rest i }

abbrev ranges_tree : Range × Option (Span × (Range × Option (Span × Range))) → List Range
ranges_tree p = p.0 ∷ more_ranges p.1

ranges_makes_is : (ts : List Token) (p : Range × Option (Span × (Range × Option (Span × Range)))) → RangesParts.is ts p → AreRanges ts (ranges_tree p)
ranges_makes_is ts (r, None) i = (i, omega arith)
ranges_makes_is ts (r, Some (c, (s, None))) i =
    let j = behind_is mark.Comma LastRanges i.1 (c, (s, None)) i.4 in
    ((i.0, c, j.0, i.2 ∙ ap (λ (l : List Token). i.0 ++ l) j.1, i.3, j.2), omega arith)
ranges_makes_is ts (r, Some (c, (s, Some (d, t)))) i =
    let j = behind_is mark.Comma LastRanges i.1 (c, (s, Some (d, t))) i.4 in
    let k = j.2 in
    let l = behind_is mark.Comma OneRange k.1 (d, t) k.4 in
    ((i.0, c, j.0, i.2 ∙ ap (λ (l : List Token). i.0 ++ l) j.1, i.3, (k.0, d, l.0, k.2 ∙ ap (λ (m : List Token). k.0 ++ m) l.1, k.3, l.2)), omega arith)

ranges_unmakes : (ts : List Token) (rs : List Range) → AreRanges ts rs → (p : Range × Option (Span × (Range × Option (Span × Range)))) × RangesParts.is ts p × (ranges_tree p ≡ rs)
ranges_unmakes ts [] i = absurd i.0
ranges_unmakes ts (r ∷ []) i = ((r, None), i.0, refl)
ranges_unmakes ts (r ∷ s ∷ []) i =
    let a = i.0 in
    ((r, Some (a.1, (s, None))), (a.0, at mark.Comma a.1 ∷ a.2, a.3, a.4, is_behind mark.Comma LastRanges a.1 a.2 (s, None) a.5), refl)
ranges_unmakes ts (r ∷ s ∷ t ∷ []) i =
    let a = i.0 in
    let b = a.5 in
    let c : LastRanges.is a.2 (s, Some (b.1, t)) = (b.0, at mark.Comma b.1 ∷ b.2, b.3, b.4, is_behind mark.Comma OneRange b.1 b.2 t b.5) in
    ((r, Some (a.1, (s, Some (b.1, t)))), (a.0, at mark.Comma a.1 ∷ a.2, a.3, a.4, is_behind mark.Comma LastRanges a.1 a.2 (s, Some (b.1, t)) c), refl)
ranges_unmakes ts (r ∷ s ∷ t ∷ u ∷ more) i = absurd (omega (arith, i.1))

ranges_deep : (p : Range × Option (Span × (Range × Option (Span × Range)))) → deepest_of depth_of_range (ranges_tree p) ≡ RangesParts.deep p
ranges_deep (r, None) = omega arith
ranges_deep (r, Some (c, (s, None))) = omega arith
ranges_deep (r, Some (c, (s, Some (d, t)))) = omega arith

ranges_ends : (p : Range × Option (Span × (Range × Option (Span × Range)))) (rest : List Token) → RangesParts.ends p rest → EndsRanges (ranges_tree p) rest
ranges_ends (r, None) rest h = h
ranges_ends (r, Some (c, (s, None))) rest h = h
ranges_ends (r, Some (c, (s, Some (d, t)))) rest h = h

ranges_back : (p : Range × Option (Span × (Range × Option (Span × Range)))) (rest : List Token) → EndsRanges (ranges_tree p) rest → RangesParts.ends p rest
ranges_back (r, None) rest h = h
ranges_back (r, Some (c, (s, None))) rest h = h
ranges_back (r, Some (c, (s, Some (d, t)))) rest h = h

ranges_makes : Makes RangesParts Ranges ranges_tree
unfolding ranges_at more_ranges_at last_range_at
ranges_makes = record {
  reads = λ n ts. refl;
  makes = λ ts x i. ranges_makes_is ts x i;
  unmakes = λ ts y i. ranges_unmakes ts y i;
  deep = λ x. ranges_deep x;
  ends = λ x rest h. ranges_ends x rest h;
  back = λ x rest h. ranges_back x rest h;
}

next_sound : (n : ℕ) → IsSound NextRange n
next_sound n = both_sound (One mark.Comma) OneRange Free next_then n (one_sound mark.Comma n) (range_sound n)

next_complete : (n : ℕ) → IsComplete NextRange n
next_complete n = both_complete (One mark.Comma) OneRange Free next_then n (one_complete mark.Comma n) (range_complete n)

next_refused : (n : ℕ) → IsRefused NextRange n
next_refused n = both_refused (One mark.Comma) OneRange Free next_then n (one_by_head mark.Comma) (one_complete mark.Comma) (one_sound mark.Comma n) (one_refused mark.Comma n) (range_refused n)

last_sound : (n : ℕ) → IsSound LastRanges n
last_sound n = tail_sound OneRange is_comma NextRange n (range_sound n) (next_sound n)

last_complete : (n : ℕ) → IsComplete LastRanges n
last_complete n = tail_complete OneRange is_comma NextRange last_joins n (range_complete n) (next_complete n)

last_refused : (n : ℕ) → IsRefused LastRanges n
last_refused n = tail_refused OneRange is_comma NextRange n range_by_head range_complete (range_sound n) (range_refused n) (next_refused n)

ranges_sound : (n : ℕ) → IsSound Ranges n
ranges_sound n =
    makes_sound RangesParts Ranges ranges_tree ranges_makes n
    (tail_sound OneRange is_comma NextRanges n (range_sound n) (both_sound (One mark.Comma) LastRanges Free nexts_then n (one_sound mark.Comma n) (last_sound n)))

ranges_complete : (n : ℕ) → IsComplete Ranges n
ranges_complete n =
    makes_complete RangesParts Ranges ranges_tree ranges_makes n
    (tail_complete OneRange is_comma NextRanges more_joins n (range_complete n) (both_complete (One mark.Comma) LastRanges Free nexts_then n (one_complete mark.Comma n) (last_complete n)))

ranges_refused : (n : ℕ) → IsRefused Ranges n
ranges_refused n =
    makes_refused RangesParts Ranges ranges_tree ranges_makes n
    (tail_refused OneRange is_comma NextRanges n range_by_head range_complete (range_sound n) (range_refused n)
    (both_refused (One mark.Comma) LastRanges Free nexts_then n (one_by_head mark.Comma) (one_complete mark.Comma) (one_sound mark.Comma n) (one_refused mark.Comma n) (last_refused n)))

ranges_by_head : EndsByHead Ranges
ranges_by_head [] a b e h = tt
ranges_by_head (r ∷ []) a b e h = (range_by_head r a b e h.0, sym (begins_same is_comma a b e) ∙ h.1)
ranges_by_head (r ∷ s ∷ []) a b e h = (range_by_head s a b e h.0, sym (begins_same is_comma a b e) ∙ h.1)
ranges_by_head (r ∷ s ∷ t ∷ more) a b e h = range_by_head t a b e h

range_close : (r : Range) (s : Span) (rest : List Token) → OneRange.ends r (at mark.ParenClose s ∷ rest)
range_close r s rest = closes_ends loosest mark.ParenClose refl r.end s rest

ranges_close : (rs : List Range) (s : Span) (rest : List Token) → EndsRanges rs (at mark.ParenClose s ∷ rest)
ranges_close [] s rest = tt
ranges_close (r ∷ []) s rest = (range_close r s rest, refl)
ranges_close (q ∷ r ∷ []) s rest = (range_close r s rest, refl)
ranges_close (p ∷ q ∷ r ∷ more) s rest = range_close r s rest

some_ranges : (b : List Token) × Can Ranges b
some_ranges = (some_range.0, (some_range.1.0 ∷ [], (some_range.1.1, omega arith)))

abbrev pub RangesHead : Form (List Range)
RangesHead = Bracketed Ranges

pub ranges_head_sound : (n : ℕ) → IsSound RangesHead n
ranges_head_sound n = bracketed_sound Ranges ranges_close some_ranges n (ranges_sound n)

pub ranges_head_complete : (n : ℕ) → IsComplete RangesHead n
ranges_head_complete n = bracketed_complete Ranges ranges_close some_ranges n (ranges_complete n)

pub ranges_head_refused : (n : ℕ) → IsRefused RangesHead n
ranges_head_refused n = bracketed_refused Ranges ranges_close some_ranges n ranges_by_head ranges_complete (ranges_sound n) (ranges_refused n)

pub some_ranges_head : (b : List Token) × Can RangesHead b
some_ranges_head = some_bracketed Ranges ranges_close some_ranges

-- ---- a name in brackets

name_close : (w : Word) (s : Span) (rest : List Token) → Named.ends w (at mark.ParenClose s ∷ rest)
name_close w s rest = tt

some_name : (b : List Token) × Can Named b
some_name = (word nameless ∷ [], (nameless, refl))

abbrev pub ActiveHead : Form Word
ActiveHead = Bracketed Named

pub active_head_sound : (n : ℕ) → IsSound ActiveHead n
active_head_sound n = bracketed_sound Named name_close some_name n (named_sound n)

pub active_head_complete : (n : ℕ) → IsComplete ActiveHead n
active_head_complete n = bracketed_complete Named name_close some_name n (named_complete n)

pub active_head_refused : (n : ℕ) → IsRefused ActiveHead n
active_head_refused n = bracketed_refused Named name_close some_name n named_by_head named_complete (named_sound n) (named_refused n)

pub some_active_head : (b : List Token) × Can ActiveHead b
some_active_head = some_bracketed Named name_close some_name

-- ---- a name, `in` and a value in brackets

abbrev in_kind : ⊤ → TokenKind
in_kind x = kind.Word (codes "in")

in_chosen : (n : List ℕ) (x : ⊤) (b : Bool) → bytes_eq n (codes "in") ≡ b → ◌≡◌ {A = Option ⊤} (cond b (Some tt) None) (Some x) → n ≡ codes "in"
in_chosen n x true e h = (bytes_eq-Decides n (codes "in")).0 e
in_chosen n x false e h = absurd cc

in_found : (k : TokenKind) (x : ⊤) → in_of k ≡ Some x → k ≡ in_kind x
in_found (kind.Word n) x e = ap kind.Word (in_chosen n x (bytes_eq n (codes "in")) refl e)
in_found (kind.Number v) x e = absurd cc
in_found (kind.Text t) x e = absurd cc
in_found (kind.Mark m) x e = absurd cc
in_found kind.LeftOut x e = absurd cc

abbrev InWord : Form (⊤ × Span)
InWord = Sign in_of in_kind

ins : Signs in_of in_kind
ins = record { found = λ k x e. in_found k x e; again = λ x. refl; some = tt }

in_sound : (n : ℕ) → IsSound InWord n
in_sound n = sign_sound in_of in_kind ins n

in_complete : (n : ℕ) → IsComplete InWord n
in_complete n = sign_complete in_of in_kind ins n

in_refused : (n : ℕ) → IsRefused InWord n
in_refused n = sign_refused in_of in_kind ins n

abbrev InValue : Form ((⊤ × Span) × Expr)
InValue = Both InWord (Exprs loosest) Free

abbrev NameInValue : Form (Word × ((⊤ × Span) × Expr))
NameInValue = NameThen InValue

in_then : Follows InWord (Exprs loosest) Free
in_then = let x = some_expr loosest in follows InWord (Exprs loosest) (λ x y b rest i h. tt) x.0 x.1

some_in_value : (b : List Token) × Can InValue b
some_in_value = let x = some_expr loosest in (preposition nowhere ∷ x.0, (((tt, nowhere), x.1.0), (preposition nowhere ∷ [], x.0, refl, refl, x.1.1, tt)))

name_then_in : Follows Named InValue Free
name_then_in = named_then InValue some_in_value.0 some_in_value.1

abbrev pub AreUniqueParts : List Token → Word × Expr → Type 0
AreUniqueParts ts p = (s : Span) × (b : List Token) × (ts ≡ word p.0 ∷ preposition s ∷ b) × IsExpr loosest b p.1

abbrev pub UniqueParts : Form (Word × Expr)
UniqueParts = record { is = AreUniqueParts; deep = λ p. depth p.1; ends = λ p rest. (Exprs loosest).ends p.1 rest; read = unique_parts_at }

abbrev unique_parts : Word × ((⊤ × Span) × Expr) → Word × Expr
unique_parts p = (p.0, p.1.1)

unique_makes_is : (ts : List Token) (p : Word × ((⊤ × Span) × Expr)) → NameInValue.is ts p → AreUniqueParts ts (unique_parts p)
unique_makes_is ts p i =
    let a = name_then_is InValue ts p i in
    let b = a.2 in
    (p.1.0.1, b.1, a.1 ∙ ap (λ (l : List Token). word p.0 ∷ l) (b.2 ∙ ap (λ (l : List Token). l ++ b.1) b.3), b.4)

unique_unmakes : (ts : List Token) (p : Word × Expr) → AreUniqueParts ts p → (q : Word × ((⊤ × Span) × Expr)) × NameInValue.is ts q × (unique_parts q ≡ p)
unique_unmakes ts p i =
    let q = is_name_then InValue p.0 (preposition i.0 ∷ i.1) ((tt, i.0), p.1) (preposition i.0 ∷ [], i.1, refl, refl, i.3, tt) in
    ((p.0, ((tt, i.0), p.1)), subst (λ (l : List Token). NameInValue.is l (p.0, ((tt, i.0), p.1))) (sym i.2) q, refl)

unique_parts_makes : Makes NameInValue UniqueParts unique_parts
unfolding unique_parts_at
unique_parts_makes = record {
  reads = λ n ts. refl;
  makes = λ ts x i. unique_makes_is ts x i;
  unmakes = λ ts y i. unique_unmakes ts y i;
  deep = λ x. omega arith;
  ends = λ x rest h. h;
  back = λ x rest h. h;
}

unique_parts_sound : (n : ℕ) → IsSound UniqueParts n
unique_parts_sound n =
    makes_sound NameInValue UniqueParts unique_parts unique_parts_makes n
    (both_sound Named InValue Free name_then_in n (named_sound n) (both_sound InWord (Exprs loosest) Free in_then n (in_sound n) (exprs_sound loosest n)))

unique_parts_complete : (n : ℕ) → IsComplete UniqueParts n
unique_parts_complete n =
    makes_complete NameInValue UniqueParts unique_parts unique_parts_makes n
    (both_complete Named InValue Free name_then_in n (named_complete n) (both_complete InWord (Exprs loosest) Free in_then n (in_complete n) (exprs_complete loosest n)))

unique_parts_refused : (n : ℕ) → IsRefused UniqueParts n
unique_parts_refused n =
    makes_refused NameInValue UniqueParts unique_parts unique_parts_makes n
    (both_refused Named InValue Free name_then_in n named_by_head named_complete (named_sound n) (named_refused n)
    (both_refused InWord (Exprs loosest) Free in_then n (λ x a b e h. tt) in_complete (in_sound n) (in_refused n) (exprs_refused loosest n)))

unique_parts_by_head : EndsByHead UniqueParts
unique_parts_by_head p a b e h = exprs_by_head loosest p.1 a b e h

unique_parts_close : (p : Word × Expr) (s : Span) (rest : List Token) → UniqueParts.ends p (at mark.ParenClose s ∷ rest)
unique_parts_close p s rest = closes_ends loosest mark.ParenClose refl p.1 s rest

some_unique_parts : (b : List Token) × Can UniqueParts b
some_unique_parts = let x = some_expr loosest in (word nameless ∷ preposition nowhere ∷ x.0, ((nameless, x.1.0), (nowhere, x.0, refl, x.1.1)))

abbrev pub UniqueHead : Form (Word × Expr)
UniqueHead = Bracketed UniqueParts

pub unique_head_sound : (n : ℕ) → IsSound UniqueHead n
unique_head_sound n = bracketed_sound UniqueParts unique_parts_close some_unique_parts n (unique_parts_sound n)

pub unique_head_complete : (n : ℕ) → IsComplete UniqueHead n
unique_head_complete n = bracketed_complete UniqueParts unique_parts_close some_unique_parts n (unique_parts_complete n)

pub unique_head_refused : (n : ℕ) → IsRefused UniqueHead n
unique_head_refused n = bracketed_refused UniqueParts unique_parts_close some_unique_parts n unique_parts_by_head unique_parts_complete (unique_parts_sound n) (unique_parts_refused n)

pub some_unique_head : (b : List Token) × Can UniqueHead b
some_unique_head = some_bracketed UniqueParts unique_parts_close some_unique_parts

-- ---- the text and the values of a `print`

text_found : (k : TokenKind) (t : List ℕ) → text_of k ≡ Some t → k ≡ kind.Text t
text_found (kind.Word n) t e = absurd cc
text_found (kind.Number v) t e = absurd cc
text_found (kind.Text u) t e = cc
text_found (kind.Mark m) t e = absurd cc
text_found kind.LeftOut t e = absurd cc

abbrev pub Texts : Form (List ℕ × Span)
Texts = Sign text_of kind.Text

texts : Signs text_of kind.Text
texts = record { found = λ k t e. text_found k t e; again = λ t. refl; some = [] }

pub text_sound : (n : ℕ) → IsSound Texts n
text_sound n = sign_sound text_of kind.Text texts n

pub text_complete : (n : ℕ) → IsComplete Texts n
text_complete n = sign_complete text_of kind.Text texts n

pub text_refused : (n : ℕ) → IsRefused Texts n
text_refused n = sign_refused text_of kind.Text texts n

abbrev pub NextValue : Form Expr
NextValue = After mark.Comma (Exprs loosest)

abbrev pub Values : Form (List Expr)
Values = Until NextValue mark.ParenClose

value_stands : Stands NextValue mark.ParenClose
value_stands = record {
  first = λ a x rest i. subst (λ (l : List Token). starts_with mark.ParenClose (l ++ rest) ≡ false) (sym i.2) refl;
  next = λ x y b rest i. subst (λ (l : List Token). (Exprs loosest).ends x (l ++ rest)) (sym i.2) (closes_ends loosest mark.Comma refl x i.0 (i.1 ++ rest));
  last = λ x rest h. let c = starts_is mark.ParenClose rest h in subst (λ (l : List Token). (Exprs loosest).ends x l) (sym c.2) (closes_ends loosest mark.ParenClose refl x c.0 c.1);
}

pub values_sound : (n : ℕ) → IsSound Values n
values_sound n = until_sound NextValue mark.ParenClose n (behind_sound mark.Comma n)

pub values_complete : (n : ℕ) → IsComplete Values n
values_complete n = until_complete NextValue mark.ParenClose value_stands n (behind_complete mark.Comma n)

pub values_refused : (n : ℕ) → IsRefused Values n
values_refused n = until_refused NextValue mark.ParenClose n value_stands.first (λ x a b e h. exprs_by_head loosest x a b e h) (behind_complete mark.Comma) (behind_sound mark.Comma n) (behind_refused mark.Comma n)

pub values_by_head : EndsByHead Values
values_by_head xs a b e h = sym (starts_same mark.ParenClose a b e) ∙ h
