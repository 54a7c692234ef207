-- Declarations: what is read is what they are.
use Rattle.std.proofs.Common.{◌≡◌, ℕ, true, false, List, [], ◌∷◌, ◌++◌, Option, Some, None, refl, sym, ap, subst, ◌∙◌, arith, inl, inr}
use Rattle.isp_base.specs.declared.types.Span.{Span}
use Rattle.isp_base.specs.declared.types.Value.{Value}
use Rattle.isp_lex.specs.Tokens.{at, is_mark}
use Rattle.isp_lex.specs.declared.token.Mark.{Mark}
use Rattle.isp_lex.specs.declared.token.Mark.TheVariants as mark
use Rattle.isp_lex.specs.declared.token.TokenKind.{TokenKind}
use Rattle.isp_lex.specs.declared.token.TokenKind.TheVariants as kind
use Rattle.isp_lex.specs.declared.token.Token.{Token}
use Rattle.isp_grammar.proofs.Basics.{token, none_some}
use Rattle.isp_grammar.proofs.Choices.{nowhere, nameless, begins_same, Sign, Signs, sign_sound, sign_complete, sign_refused, Tail, Joins, tail_sound, tail_complete, tail_refused, Either}
use Rattle.isp_grammar.proofs.Choices.{Parts, either_sound, either_complete, either_refused, Makes, makes_sound, makes_complete, makes_refused}
use Rattle.isp_grammar.proofs.ExprLaws.{exprs_sound, exprs_complete, exprs_by_head, exprs_refused, expr_completes}
use Rattle.isp_grammar.proofs.Exprs.{Exprs, closes_ends}
use Rattle.isp_grammar.proofs.Forms.{Form, IsSound, IsComplete, Can, One, one_sound, one_complete, Named, named_sound, named_complete, Both, Free, Follows, follows, both_sound, both_complete}
use Rattle.isp_grammar.proofs.Forms.{Behind, one_then, behind_is, is_behind, Before, then_one, before_is, is_before, EndsListed, Listed, listed_sound}
use Rattle.isp_grammar.proofs.FormsComplete.{EndsByHead, one_by_head, named_by_head, TakesComma, listed_complete}
use Rattle.isp_grammar.proofs.ListForms.{listed_by_head, listed_refused, listed_ends, listed_begins, deepest_same}
use Rattle.isp_grammar.proofs.Refused.{IsRefused, one_refused, named_refused, both_refused}
use Rattle.isp_grammar.proofs.Starts.{begins_off}
use Rattle.isp_grammar.proofs.TypesRead.{Types, types_sound, types_complete, types_by_head, types_refused, ends_type}
use Rattle.isp_tree.specs.Depth.{depth_of_item, depth_of_declaration}
use Rattle.isp_grammar.specs.Grammar.{IsSize, is_number_size, is_count_size, IsItem, is_plain, is_with_value, is_with_size, IsDeclaration, is_declaration}
use Rattle.isp_grammar.specs.reader.Readers.{is_word}
use Rattle.isp_grammar.specs.reader.Choices.{begins_with}
use Rattle.isp_grammar.specs.reader.Stmts.{size_of, size_from, size_at, is_item_sign, ItemTail, item_tail_at, item_from, item_at, items_at, declaration_from, declaration_at}
use Rattle.isp_grammar.specs.reader.Types.{begins_type}
use Rattle.isp_grammar.specs.Signs.{word, loosest}
use Rattle.isp_tree.specs.Tree.{Expr, TypeTree, Item, plain, with_value, with_size, Declaration}
use Rattle.isp_tree.specs.declared.types.Word.{Word}
use Rattle.isp_tree.specs.declared.stmt.Size.{Size}
use Rattle.isp_tree.specs.declared.stmt.Size.TheVariants as size

-- some expression
pub some_expr : (k : ℕ) → (ts : List Token) × Can (Exprs k) ts
some_expr k = let c = expr_completes k (kind.Word []) nowhere refl in (token (kind.Word []) nowhere ∷ c.0, c.1)

-- ---- sizes

abbrev pub size_kind : Option Value → TokenKind
size_kind None = kind.Mark mark.ProgramCount
size_kind (Some v) = kind.Number v

size_found : (k : TokenKind) (c : Option Value) → size_of k ≡ Some c → k ≡ size_kind c
size_found (kind.Word n) c e = absurd (none_some e)
size_found (kind.Number v) None e = absurd cc
size_found (kind.Number v) (Some w) e = cc
size_found (kind.Text t) c e = absurd (none_some e)
size_found (kind.Mark mark.ProgramCount) None e = refl
size_found (kind.Mark mark.ProgramCount) (Some w) e = absurd cc
size_found (kind.Mark _) c e = absurd (none_some e)
size_found kind.LeftOut c e = absurd (none_some e)

size_again : (c : Option Value) → size_of (size_kind c) ≡ Some c
size_again None = refl
size_again (Some v) = refl

abbrev SizeSign : Form (Option Value × Span)
SizeSign = Sign size_of size_kind

size_signs : Signs size_of size_kind
size_signs = record { found = λ k c e. size_found k c e; again = λ c. size_again c; some = None }

abbrev pub Sized : Form Size
Sized = record { is = λ ts n. IsSize ts n; deep = λ n. 0; ends = λ n rest. Unit {0}; read = λ n ts. size_at ts }

size_is : (o : Option Value) (s : Span) → IsSize (token (size_kind o) s ∷ []) (size_from o s)
size_is None s = is_count_size s
size_is (Some v) s = is_number_size v s

size_unmakes : {ts : List Token} {n : Size} → IsSize ts n → (x : Option Value × Span) × SizeSign.is ts x × (size_from x.0 x.1 ≡ n)
size_unmakes (is_number_size v s) = ((Some v, s), refl, refl)
size_unmakes (is_count_size s) = ((None, s), refl, refl)

size_makes : Makes SizeSign Sized (λ p. size_from p.0 p.1)
unfolding size_at
size_makes = record {
  reads = λ n ts. refl;
  makes = λ ts x i. subst (λ (l : List Token). IsSize l (size_from x.0 x.1)) (sym i) (size_is x.0 x.1);
  unmakes = λ ts y i. size_unmakes i;
  deep = λ x. refl;
  ends = λ x rest h. tt;
  back = λ x rest h. tt;
}

size_sound : (n : ℕ) → IsSound Sized n
size_sound n = makes_sound SizeSign Sized (λ p. size_from p.0 p.1) size_makes n (sign_sound size_of size_kind size_signs n)

size_complete : (n : ℕ) → IsComplete Sized n
size_complete n = makes_complete SizeSign Sized (λ p. size_from p.0 p.1) size_makes n (sign_complete size_of size_kind size_signs n)

size_refused : (n : ℕ) → IsRefused Sized n
size_refused n = makes_refused SizeSign Sized (λ p. size_from p.0 p.1) size_makes n (sign_refused size_of size_kind size_signs n)

-- ---- what stands after the name of an item

abbrev pub ValueTail : Form (Span × Expr)
ValueTail = Behind mark.Assign (Exprs loosest)

abbrev pub ClosedSize : Form (Size × Span)
ClosedSize = Before Sized mark.BracketClose

abbrev pub SizeTail : Form (Span × (Size × Span))
SizeTail = Behind mark.BracketOpen ClosedSize

abbrev pub ItemEnd : Form ItemTail
ItemEnd = Either (is_mark mark.Assign) ValueTail SizeTail

value_then : Follows (One mark.Assign) (Exprs loosest) Free
value_then = one_then mark.Assign (Exprs loosest) (some_expr loosest).0 (some_expr loosest).1

closed_then : Follows Sized (One mark.BracketClose) Free
closed_then = then_one Sized mark.BracketClose (λ x s rest. tt)

some_size : Can ClosedSize (at mark.ProgramCount nowhere ∷ at mark.BracketClose nowhere ∷ [])
some_size = ((size.ProgramCount nowhere, nowhere), is_before Sized mark.BracketClose (at mark.ProgramCount nowhere ∷ []) (size.ProgramCount nowhere) nowhere (is_count_size nowhere))

size_then : Follows (One mark.BracketOpen) ClosedSize Free
size_then = one_then mark.BracketOpen ClosedSize (at mark.ProgramCount nowhere ∷ at mark.BracketClose nowhere ∷ []) some_size

item_parts : Parts (is_mark mark.Assign) ValueTail SizeTail
item_parts = record {
  first = λ a x rest i. let j = behind_is mark.Assign (Exprs loosest) a x i in subst (λ (l : List Token). begins_with (is_mark mark.Assign) (l ++ rest) ≡ true) (sym j.1) refl;
  other = λ a y rest i. let j = behind_is mark.BracketOpen ClosedSize a y i in subst (λ (l : List Token). begins_with (is_mark mark.Assign) (l ++ rest) ≡ false) (sym j.1) refl;
}

value_tail_sound : (n : ℕ) → IsSound ValueTail n
value_tail_sound n = both_sound (One mark.Assign) (Exprs loosest) Free value_then n (one_sound mark.Assign n) (exprs_sound loosest n)

value_tail_complete : (n : ℕ) → IsComplete ValueTail n
value_tail_complete n = both_complete (One mark.Assign) (Exprs loosest) Free value_then n (one_complete mark.Assign n) (exprs_complete loosest n)

value_tail_refused : (n : ℕ) → IsRefused ValueTail n
value_tail_refused n = both_refused (One mark.Assign) (Exprs loosest) Free value_then n (one_by_head mark.Assign) (one_complete mark.Assign) (one_sound mark.Assign n) (one_refused mark.Assign n) (exprs_refused loosest n)

size_tail_sound : (n : ℕ) → IsSound SizeTail n
size_tail_sound n = both_sound (One mark.BracketOpen) ClosedSize Free size_then n (one_sound mark.BracketOpen n) (both_sound Sized (One mark.BracketClose) Free closed_then n (size_sound n) (one_sound mark.BracketClose n))

size_tail_complete : (n : ℕ) → IsComplete SizeTail n
size_tail_complete n = both_complete (One mark.BracketOpen) ClosedSize Free size_then n (one_complete mark.BracketOpen n) (both_complete Sized (One mark.BracketClose) Free closed_then n (size_complete n) (one_complete mark.BracketClose n))

size_tail_refused : (n : ℕ) → IsRefused SizeTail n
size_tail_refused n =
    both_refused (One mark.BracketOpen) ClosedSize Free size_then n (one_by_head mark.BracketOpen) (one_complete mark.BracketOpen) (one_sound mark.BracketOpen n) (one_refused mark.BracketOpen n)
    (both_refused Sized (One mark.BracketClose) Free closed_then n (λ x a b e h. tt) size_complete (size_sound n) (size_refused n) (one_refused mark.BracketClose n))

-- ---- items

abbrev pub ItemParts : Form (Word × Option ItemTail)
ItemParts = Tail Named is_item_sign ItemEnd

-- what goes on with an item
abbrev pub EndsItem : Item → List Token → Type 0
EndsItem (plain w) rest = begins_with is_item_sign rest ≡ false
EndsItem (with_value w x s) rest = (Exprs loosest).ends x rest
EndsItem (with_size w n s) rest = Unit {0}

abbrev pub Itm : Form Item
Itm = record { is = λ ts i. IsItem ts i; deep = depth_of_item; ends = EndsItem; read = item_at }

item_joins : Joins Named is_item_sign ItemEnd
item_joins = record { begins = λ d y rest i. begun d y rest i; ends = λ x d y rest i. tt }
  where
    begun : (d : List Token) (y : ItemTail) (rest : List Token) → ItemEnd.is d y → begins_with is_item_sign (d ++ rest) ≡ true
    begun d (inl v) rest i = let j = behind_is mark.Assign (Exprs loosest) d v i in subst (λ (l : List Token). begins_with is_item_sign (l ++ rest) ≡ true) (sym j.1) refl
    begun d (inr v) rest i = let j = behind_is mark.BracketOpen ClosedSize d v i in subst (λ (l : List Token). begins_with is_item_sign (l ++ rest) ≡ true) (sym j.1) refl

item_makes_is : (ts : List Token) (p : Word × Option ItemTail) → ItemParts.is ts p → IsItem ts (item_from p.0 p.1)
item_makes_is ts (w, None) i = subst (λ (l : List Token). IsItem l (plain w)) (sym i) (is_plain w)
item_makes_is ts (w, Some (inl v)) i =
    let j = behind_is mark.Assign (Exprs loosest) i.1 v i.4 in
    let e = i.2 ∙ ap (λ (l : List Token). l ++ i.1) i.3 ∙ ap (λ (l : List Token). word w ∷ l) j.1 in
    subst (λ (l : List Token). IsItem l (item_from w (Some (inl v)))) (sym e) (is_with_value w v.0 j.0 v.1 j.2)
item_makes_is ts (w, Some (inr v)) i =
    let j = behind_is mark.BracketOpen ClosedSize i.1 v i.4 in
    let k = before_is Sized mark.BracketClose j.0 v.1 j.2 in
    let e = i.2 ∙ ap (λ (l : List Token). l ++ i.1) i.3 ∙ ap (λ (l : List Token). word w ∷ l) (j.1 ∙ ap (λ (l : List Token). at mark.BracketOpen v.0 ∷ l) k.1) in
    subst (λ (l : List Token). IsItem l (item_from w (Some (inr v)))) (sym e) (is_with_size w v.0 v.1.1 k.0 v.1.0 k.2)

item_unmakes : {ts : List Token} {y : Item} → IsItem ts y → (p : Word × Option ItemTail) × ItemParts.is ts p × (item_from p.0 p.1 ≡ y)
item_unmakes (is_plain w) = ((w, None), refl, refl)
item_unmakes (is_with_value w e ts x i) = ((w, Some (inl (e, x))), (word w ∷ [], at mark.Assign e ∷ ts, refl, refl, is_behind mark.Assign (Exprs loosest) e ts x i), refl)
item_unmakes (is_with_size w o c ts n i) = (
  (w, Some (inr (o, (n, c)))),
  (
    word w ∷ [],
    at mark.BracketOpen o ∷ (ts ++ at mark.BracketClose c ∷ []),
    refl,
    refl,
    is_behind mark.BracketOpen
        ClosedSize o (ts ++ at mark.BracketClose c ∷ []) (n, c) (is_before Sized mark.BracketClose ts n c i),
  ),
  refl,
)

item_deep : (p : Word × Option ItemTail) → depth_of_item (item_from p.0 p.1) ≡ ItemParts.deep p
item_deep (w, None) = refl
item_deep (w, Some (inl v)) = omega arith
item_deep (w, Some (inr v)) = omega arith

item_ends : (p : Word × Option ItemTail) (rest : List Token) → ItemParts.ends p rest → EndsItem (item_from p.0 p.1) rest
item_ends (w, None) rest h = h.1
item_ends (w, Some (inl v)) rest h = h
item_ends (w, Some (inr v)) rest h = tt

item_back : (p : Word × Option ItemTail) (rest : List Token) → EndsItem (item_from p.0 p.1) rest → ItemParts.ends p rest
item_back (w, None) rest h = (tt, h)
item_back (w, Some (inl v)) rest h = h
item_back (w, Some (inr v)) rest h = tt

item_makes : Makes ItemParts Itm (λ p. item_from p.0 p.1)
unfolding item_at item_tail_at
item_makes = record {
  reads = λ n ts. refl;
  makes = λ ts x i. item_makes_is ts x i;
  unmakes = λ ts y i. item_unmakes i;
  deep = λ x. item_deep x;
  ends = λ x rest h. item_ends x rest h;
  back = λ x rest h. item_back x rest h;
}

pub item_sound : (n : ℕ) → IsSound Itm n
item_sound n =
    makes_sound ItemParts Itm (λ p. item_from p.0 p.1) item_makes n
    (tail_sound Named is_item_sign ItemEnd n (named_sound n) (either_sound (is_mark mark.Assign) ValueTail SizeTail n (value_tail_sound n) (size_tail_sound n)))

pub item_complete : (n : ℕ) → IsComplete Itm n
item_complete n =
    makes_complete ItemParts Itm (λ p. item_from p.0 p.1) item_makes n
    (tail_complete Named is_item_sign ItemEnd item_joins n (named_complete n) (either_complete (is_mark mark.Assign) ValueTail SizeTail item_parts n (value_tail_complete n) (size_tail_complete n)))

pub item_refused : (n : ℕ) → IsRefused Itm n
item_refused n =
    makes_refused ItemParts Itm (λ p. item_from p.0 p.1) item_makes n
    (tail_refused Named is_item_sign ItemEnd n named_by_head named_complete (named_sound n) (named_refused n) (either_refused (is_mark mark.Assign) ValueTail SizeTail n (value_tail_refused n) (size_tail_refused n)))

item_by_head : EndsByHead Itm
item_by_head (plain w) a b e h = sym (begins_same is_item_sign a b e) ∙ h
item_by_head (with_value w x s) a b e h = exprs_by_head loosest x a b e h
item_by_head (with_size w n s) a b e h = tt

-- a comma or a semicolon may follow an item
item_end : (m : Mark) → is_item_sign (kind.Mark m) ≡ false → ((x : Expr) (s : Span) (rest : List Token) → (Exprs loosest).ends x (at m s ∷ rest)) → (i : Item) (s : Span) (rest : List Token) → EndsItem i (at m s ∷ rest)
item_end m c f (plain w) s rest = c
item_end m c f (with_value w x t) s rest = f x s rest
item_end m c f (with_size w n t) s rest = tt

item_comma : TakesComma Itm
item_comma i s rest = item_end mark.Comma refl (λ x s rest. closes_ends loosest mark.Comma refl x s rest) i s rest

item_word : {a : List Token} {x : Item} → IsItem a x → (rest : List Token) → begins_with is_word (a ++ rest) ≡ true
item_word (is_plain w) rest = refl
item_word (is_with_value w e ts x i) rest = refl
item_word (is_with_size w o c ts n i) rest = refl

-- ---- declarations

abbrev pub Items : Form (List Item)
Items = Listed Itm

word_no_type : (k : TokenKind) → is_word k ≡ true → begins_type k ≡ false
word_no_type (kind.Word n) e = refl
word_no_type (kind.Number v) e = absurd cc
word_no_type (kind.Text t) e = absurd cc
word_no_type (kind.Mark m) e = absurd cc
word_no_type kind.LeftOut e = absurd cc

-- a name may follow a type
pub word_ends_type : (t : TypeTree) (u : List Token) → begins_with is_word u ≡ true → Types.ends t u
word_ends_type t u e = ends_type t.base u (begins_off is_word begins_type word_no_type u e)

type_then : Follows Types Items Free
type_then = follows Types Items (λ t y b rest i h. word_ends_type t (b ++ rest) (listed_begins Itm is_word true (λ a x r j. item_word j r) b y rest i)) (word nameless ∷ []) (plain nameless ∷ [], is_plain nameless)

abbrev pub Declared : Form (TypeTree × List Item)
Declared = Both Types Items Free

abbrev pub Declaring : Form Declaration
Declaring = record { is = λ ts d. IsDeclaration ts d; deep = depth_of_declaration; ends = λ d rest. EndsListed Itm d.items rest; read = declaration_at }

declaration_unmakes : {ts : List Token} {d : Declaration} → IsDeclaration ts d → (p : TypeTree × List Item) × Declared.is ts p × (declaration_from p.0 p.1 ≡ d)
declaration_unmakes (is_declaration ts us t is i j) = ((t, is), (ts, us, refl, i, j, tt), refl)

declaration_makes : Makes Declared Declaring (λ p. declaration_from p.0 p.1)
unfolding declaration_at items_at
declaration_makes = record {
  reads = λ n ts. refl;
  makes = λ ts x i. subst (λ (l : List Token). IsDeclaration l (declaration_from x.0 x.1)) (sym i.2) (is_declaration i.0 i.1 x.0 x.1 i.3 i.4);
  unmakes = λ ts y i. declaration_unmakes i;
  deep = λ x. omega (arith, deepest_same Itm x.1);
  ends = λ x rest h. h;
  back = λ x rest h. h;
}

items_sound : (n : ℕ) → IsSound Items n
items_sound n = listed_sound Itm n (item_sound n)

items_complete : (n : ℕ) → IsComplete Items n
items_complete n = listed_complete Itm item_comma n (item_complete n)

pub declaration_sound : (n : ℕ) → IsSound Declaring n
declaration_sound n = makes_sound Declared Declaring (λ p. declaration_from p.0 p.1) declaration_makes n (both_sound Types Items Free type_then n (types_sound n) (items_sound n))

pub declaration_complete : (n : ℕ) → IsComplete Declaring n
declaration_complete n = makes_complete Declared Declaring (λ p. declaration_from p.0 p.1) declaration_makes n (both_complete Types Items Free type_then n (types_complete n) (items_complete n))

pub declaration_by_head : EndsByHead Declaring
declaration_by_head d a b e h = listed_by_head Itm item_by_head d.items a b e h

pub declaration_end : (d : Declaration) (s : Span) (rest : List Token) → Declaring.ends d (at mark.Semicolon s ∷ rest)
declaration_end d s rest = listed_ends Itm mark.Semicolon refl (λ i s rest. item_end mark.Semicolon refl (λ x s rest. closes_ends loosest mark.Semicolon refl x s rest) i s rest) d.items s rest

items_refused : (n : ℕ) → IsRefused Items n
items_refused n = listed_refused Itm n item_by_head item_comma item_complete (item_sound n) (item_refused n)

pub declaration_refused : (n : ℕ) → IsRefused Declaring n
declaration_refused n =
    makes_refused Declared Declaring (λ p. declaration_from p.0 p.1) declaration_makes n (both_refused Types Items Free type_then n types_by_head types_complete (types_sound n) (types_refused n) (items_refused n))
