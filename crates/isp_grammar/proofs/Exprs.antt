-- The forms of expressions, of which they are made.
use Rattle.std.proofs.Common.{◌≡◌, ℕ, zero, suc, ◌≤◌, ◌<◌, Bool, true, false, eqb, List, [], ◌∷◌, ◌++◌, drop, Option, Some, None, Ok, refl, sym, ap, subst, ◌∙◌, arith, inl, inr, ◌⊎◌, eqb-true}
use Rattle.std.specs.Prelude.{◌==◌, ◌&&◌, not}
use Rattle.std.proofs.lemmas.Bool.{ne_eqb, not-true}
use Rattle.isp_base.specs.Types.{span_to}
use Rattle.isp_base.specs.declared.types.Span.{Span}
use Rattle.isp_base.specs.declared.types.Value.{Value}
use Rattle.isp_base.specs.declared.types.Elem.TheVariants as elem
use Rattle.isp_lex.specs.Tokens.{is_mark, at, starts_with}
use Rattle.isp_lex.specs.declared.token.Mark.{Mark}
use Rattle.isp_lex.specs.declared.token.Mark.TheVariants as mark
use Rattle.isp_lex.specs.declared.token.TokenKind.{TokenKind}
use Rattle.isp_lex.specs.declared.token.TokenKind.TheVariants as kind
use Rattle.isp_lex.specs.declared.token.Token.{Token}
use Rattle.isp_grammar.proofs.Basics.{token, ok_is, some_is, none_some, bind_ok, chosen, starts_cons}
use Rattle.isp_grammar.proofs.Choices.{nowhere, nameless, Either, then_behind}
use Rattle.isp_grammar.proofs.Forms.{Follows, Form, Found, IsSound, Can, One, Named, Both, Free, Behind, one_then, behind_is, NameThen, named_then, name_then_is, Before, then_one, before_is, Optional, deepest, AreListed, IsSeries, Series}
use Rattle.isp_grammar.proofs.TypesRead.{Types, ends_type}
use Rattle.isp_tree.specs.Depth.{depth, depth_of_place, depth_of_argument, depth_of_row}
use Rattle.isp_grammar.specs.Grammar.{IsPlace, is_variable, is_element, IsExpr, is_number, is_place, is_call, is_brackets, is_cast, is_tighter, is_choose, IsArgument, is_value_argument}
use Rattle.isp_grammar.specs.Grammar.{is_reference, IsArguments, is_no_argument, is_some_arguments, IsArgumentList, is_last_argument, is_more_arguments}
use Rattle.isp_grammar.specs.reader.Readers.{◌>>=◌}
use Rattle.isp_grammar.specs.reader.Types.{begins_type}
use Rattle.isp_grammar.specs.reader.Exprs.{start_of, atom_of, operator_of, of_level, operator_at, bracketed_at, index_at, place_by, place_at, argument_by, argument_at, arguments_at, Suffix, by_nothing}
use Rattle.isp_grammar.specs.reader.Exprs.{by_index, by_arguments, suffix_from, suffix_at, named, named_at, bracket_of, bracket_at, choice_of, parts_at, expr_at, target_at}
use Rattle.isp_grammar.specs.Signs.{numeral, word, truth_mark, prefix_mark, sign, level, joined_level, loosest}
use Rattle.isp_tree.specs.Tree.{TypeTree, Expr, number, truth, program_index, program_count, place, call, brackets, cast, prefix, binary, choose, listed, Place, variable, element, Argument, by_value, by_reference}
use Rattle.isp_grammar.specs.declared.expr.Atom.{Atom}
use Rattle.isp_grammar.specs.declared.expr.Atom.TheVariants as atom
use Rattle.isp_grammar.specs.declared.expr.Start.{Start}
use Rattle.isp_grammar.specs.declared.expr.Start.TheVariants as by
use Rattle.isp_tree.specs.declared.types.Word.{Word}
use Rattle.isp_tree.specs.declared.expr.Operator.{Operator}
use Rattle.isp_tree.specs.declared.expr.Operator.TheVariants as operator

abbrev pub is_name : Place → Bool
is_name (variable w) = true
is_name (element w x s) = false

-- the last token is a name, which an opening bracket would go on
abbrev pub ends_in_name : Expr → Bool
ends_in_name (number v s) = false
ends_in_name (truth b s) = false
ends_in_name (program_index s) = false
ends_in_name (program_count s) = false
ends_in_name (place p) = is_name p
ends_in_name (call w xs s) = false
ends_in_name (brackets x s) = false
ends_in_name (cast t x s) = ends_in_name x
ends_in_name (prefix p x s) = ends_in_name x
ends_in_name (binary op x y s) = ends_in_name y
ends_in_name (choose x y z s) = ends_in_name z

-- what may follow an expression of a level
pub record Ends (k : ℕ) (x : Expr) (rest : List Token) : Type 0 where
  pub index : ends_in_name x ≡ true → starts_with mark.BracketOpen rest ≡ false
  pub arguments : ends_in_name x ≡ true → starts_with mark.ParenOpen rest ≡ false
  pub operators : (j : ℕ) → j < k → operator_at (suc j) rest ≡ None
  pub choice : joined_level < k → starts_with mark.Question rest ≡ false

-- expressions of a level
abbrev pub Exprs : ℕ → Form Expr
Exprs k = record { is = λ ts x. IsExpr k ts x; deep = depth; ends = λ x rest. Ends k x rest; read = λ n ts. expr_at n k ts }

-- ---- the first token

abbrev pub kind_of : Atom → TokenKind
kind_of (atom.Number v) = kind.Number v
kind_of (atom.Truth b) = kind.Mark (truth_mark b)
kind_of atom.ProgramIndex = kind.Mark mark.ProgramIndex
kind_of atom.ProgramCount = kind.Mark mark.ProgramCount

abbrev Starts : TokenKind → Start → Type 0
Starts k (by.Atom a) = k ≡ kind_of a
Starts k by.Word = Unit {0}
Starts k by.Bracket = k ≡ kind.Mark mark.ParenOpen
Starts k (by.Prefix p) = k ≡ kind.Mark (prefix_mark p)
Starts k by.Nothing = Unit {0}

starts : (k : TokenKind) → Starts k (start_of k)
starts (kind.Word n) = tt
starts (kind.Number v) = refl
starts (kind.Text t) = tt
starts (kind.Mark mark.True) = refl
starts (kind.Mark mark.False) = refl
starts (kind.Mark mark.ProgramIndex) = refl
starts (kind.Mark mark.ProgramCount) = refl
starts (kind.Mark mark.ParenOpen) = refl
starts (kind.Mark mark.Minus) = refl
starts (kind.Mark mark.Inverse) = refl
starts (kind.Mark mark.Not) = refl
starts (kind.Mark _) = tt
starts kind.LeftOut = tt

pub started : (t : Token) (c : Start) → start_of t.kind ≡ c → Starts t.kind c
started t c e = subst (λ (c : Start). Starts t.kind c) e (starts t.kind)

pub with_kind : (t : Token) (k : TokenKind) → t.kind ≡ k → t ≡ token k t.span
with_kind t k e = ap (λ (c : TokenKind). token c t.span) e

-- ---- operators

abbrev Signs : TokenKind → Option Operator → Type 0
Signs k None = Unit {0}
Signs k (Some op) = k ≡ kind.Mark (sign op)

signs : (k : TokenKind) → Signs k (operator_of k)
signs (kind.Word n) = tt
signs (kind.Number v) = tt
signs (kind.Text t) = tt
signs (kind.Mark mark.Star) = refl
signs (kind.Mark mark.Slash) = refl
signs (kind.Mark mark.Percent) = refl
signs (kind.Mark mark.Plus) = refl
signs (kind.Mark mark.Minus) = refl
signs (kind.Mark mark.ShiftLeft) = refl
signs (kind.Mark mark.ShiftRight) = refl
signs (kind.Mark mark.Less) = refl
signs (kind.Mark mark.LessEqual) = refl
signs (kind.Mark mark.Greater) = refl
signs (kind.Mark mark.GreaterEqual) = refl
signs (kind.Mark mark.Equal) = refl
signs (kind.Mark mark.NotEqual) = refl
signs (kind.Mark mark.And) = refl
signs (kind.Mark mark.Xor) = refl
signs (kind.Mark mark.Or) = refl
signs (kind.Mark mark.AndAnd) = refl
signs (kind.Mark mark.OrOr) = refl
signs (kind.Mark _) = tt
signs kind.LeftOut = tt

of_level_is : (k : ℕ) (o : Option Operator) (op : Operator) → of_level k o ≡ Some op → (o ≡ Some op) × (level op ≡ k)
of_level_is k None op e = absurd (none_some e)
of_level_is k (Some o) op e =
    elim (chosen (level o == k) (Some o) None (Some op) e) [
      | inl p ↦ let same = some_is p.1 in (p.1, ap level (sym same) ∙ eqb-true _ _ p.0)
      | inr p ↦ absurd (none_some p.1)
    ]

-- the operator that the tokens start with
pub operator_is : (k : ℕ) (ts : List Token) (op : Operator) → operator_at k ts ≡ Some op → (level op ≡ k) × ((s : Span) × (ts ≡ at (sign op) s ∷ drop 1 ts))
operator_is k [] op e = absurd (none_some e)
operator_is k (t ∷ ts) op e =
    let p = of_level_is k (operator_of t.kind) op e in
    let m : t.kind ≡ kind.Mark (sign op) = subst (λ (o : Option Operator). Signs t.kind o) p.0 (signs t.kind) in
    (p.1, (t.span, ap (λ (c : TokenKind). token c t.span ∷ ts) m))

pub level_small : (op : Operator) → level op ≤ joined_level
level_small operator.Multiply = omega arith
level_small operator.Divide = omega arith
level_small operator.Remainder = omega arith
level_small operator.Add = omega arith
level_small operator.Subtract = omega arith
level_small operator.ShiftLeft = omega arith
level_small operator.ShiftRight = omega arith
level_small operator.Less = omega arith
level_small operator.LessEqual = omega arith
level_small operator.Greater = omega arith
level_small operator.GreaterEqual = omega arith
level_small operator.Equal = omega arith
level_small operator.NotEqual = omega arith
level_small operator.And = omega arith
level_small operator.Xor = omega arith
level_small operator.Or = omega arith
level_small operator.AndAlso = omega arith
level_small operator.OrElse = omega arith

of_level_over : (j : ℕ) (o : Option Operator) → joined_level ≤ j → of_level (suc j) o ≡ None
of_level_over j None h = refl
of_level_over j (Some op) h = let e : eqb (level op) (suc j) ≡ false = ne_eqb (level op) (suc j) (λ q. absurd (omega (arith, level_small op))) in rw e refl

-- no operator binds looser than those of the loosest level
pub over_none : (j : ℕ) (ts : List Token) → joined_level ≤ j → operator_at (suc j) ts ≡ None
over_none j [] h = refl
over_none j (t ∷ ts) h = of_level_over j (operator_of t.kind) h

-- ---- what may follow each expression

abbrev quiet : Option Operator → Bool
quiet None = true
quiet (Some op) = false

-- a mark that goes on no expression
abbrev pub closes : Mark → Bool
closes m = quiet (operator_of (kind.Mark m)) && (not (is_mark mark.BracketOpen (kind.Mark m)) && (not (is_mark mark.ParenOpen (kind.Mark m)) && not (is_mark mark.Question (kind.Mark m))))

pub both_true : (a b : Bool) → a && b ≡ true → (a ≡ true) × (b ≡ true)
both_true true b e = (refl, e)
both_true false b e = absurd cc

quiet_level : (k : ℕ) (o : Option Operator) → quiet o ≡ true → of_level k o ≡ None
quiet_level k None e = refl
quiet_level k (Some op) e = absurd cc

-- before such a mark each expression ends
pub closes_ends : (k : ℕ) (m : Mark) → closes m ≡ true → (x : Expr) (s : Span) (rest : List Token) → Ends k x (at m s ∷ rest)
closes_ends k m e x s rest =
    let p = both_true _ _ e in
    let q = both_true _ _ p.1 in
    let r = both_true _ _ q.1 in
    record {
      index = λ b. not-true _ q.0;
      arguments = λ b. not-true _ r.0;
      operators = λ j h. quiet_level (suc j) (operator_of (kind.Mark m)) p.0;
      choice = λ h. not-true _ r.1;
    }

pub name_ends : (x : Expr) (rest : List Token) → (ends_in_name x ≡ true → starts_with mark.BracketOpen rest ≡ false) → (ends_in_name x ≡ true → starts_with mark.ParenOpen rest ≡ false) → Ends zero x rest
name_ends x rest i a = record { index = i; arguments = a; operators = λ j lt. absurd (omega arith); choice = λ lt. absurd (omega arith) }

pub no_name_ends : (x : Expr) (rest : List Token) → ends_in_name x ≡ false → Ends zero x rest
no_name_ends x rest e = name_ends x rest (λ b. absurd cc) (λ b. absurd cc)

pub atom_ends : (a : Atom) (s : Span) (rest : List Token) → Ends zero (atom_of a s) rest
atom_ends (atom.Number v) s rest = no_name_ends (number v s) rest refl
atom_ends (atom.Truth b) s rest = no_name_ends (truth b s) rest refl
atom_ends atom.ProgramIndex s rest = no_name_ends (program_index s) rest refl
atom_ends atom.ProgramCount s rest = no_name_ends (program_count s) rest refl

-- ---- places

abbrev pub Bracketed : Form (Expr × Span)
Bracketed = Before (Exprs loosest) mark.BracketClose

abbrev pub Index : Form (Option (Expr × Span))
Index = Optional mark.BracketOpen Bracketed

abbrev pub Placed : Form (Word × Option (Expr × Span))
Placed = NameThen Index

-- a place to which a reference is
abbrev pub Target : Form Place
Target = record { is = λ ts x. IsPlace ts x; deep = depth_of_place; ends = λ x rest. is_name x ≡ true → starts_with mark.BracketOpen rest ≡ false; read = λ n ts. target_at n ts }

place_from : (w : Word) (b : List Token) (i : Option (Expr × Span)) → Index.is b i → IsPlace (word w ∷ b) (place_by w i)
place_from w b None i = subst (λ (l : List Token). IsPlace (word w ∷ l) (variable w)) (sym i) (is_variable w)
place_from w b (Some x) i =
    let p = before_is (Exprs loosest) mark.BracketClose i.1 x i.3 in
    subst (λ (l : List Token). IsPlace (word w ∷ l) (element w x.0 (span_to w.span x.1))) (sym (i.2 ∙ ap (λ (l : List Token). at mark.BracketOpen i.0 ∷ l) p.1)) (is_element w i.0 x.1 p.0 x.0 p.2)

pub placed_makes : (ts : List Token) (p : Word × Option (Expr × Span)) → Placed.is ts p → IsPlace ts (place_by p.0 p.1)
placed_makes ts p i =
    let j = name_then_is Index ts p i in
    subst (λ (l : List Token). IsPlace l (place_by p.0 p.1)) (sym j.1) (place_from p.0 j.0 p.1 j.2)

pub place_depth : (w : Word) (i : Option (Expr × Span)) (n : ℕ) → Index.deep i ≤ n → depth_of_place (place_by w i) ≤ suc n
place_depth w None n h = omega arith
place_depth w (Some x) n h = omega arith

pub place_ends : (w : Word) (i : Option (Expr × Span)) (rest : List Token) → Index.ends i rest → is_name (place_by w i) ≡ true → starts_with mark.BracketOpen rest ≡ false
place_ends w None rest h = λ b. h
place_ends w (Some x) rest h = λ b. absurd cc

pub place_reads : (n : ℕ) (ts : List Token) → target_at (suc n) ts ≡ (Placed.read n ts >>= λ p. Ok (place_by p.0.0 p.0.1, p.1))
unfolding target_at place_at index_at bracketed_at
place_reads n ts = refl

index_some : Can Index []
index_some = (None, refl)

pub place_then : Follows Named Index Free
place_then = named_then Index [] index_some

pub bracket_then : Follows (Exprs loosest) (One mark.BracketClose) Free
bracket_then = then_one (Exprs loosest) mark.BracketClose (λ x s rest. closes_ends loosest mark.BracketClose refl x s rest)

-- ---- arguments

abbrev pub EndsArgument : Argument → List Token → Type 0
EndsArgument (by_value x) rest = Ends loosest x rest
EndsArgument (by_reference p s) rest = is_name p ≡ true → starts_with mark.BracketOpen rest ≡ false

abbrev pub ArgumentForm : Form Argument
ArgumentForm = record { is = λ ts x. IsArgument ts x; deep = depth_of_argument; ends = λ x rest. EndsArgument x rest; read = λ n ts. argument_at (expr_at n loosest) (target_at n) ts }

abbrev pub Referring : Form (Span × Place)
Referring = Behind mark.And Target

abbrev pub Passed : Form ((Span × Place) ⊎ Expr)
Passed = Either (is_mark mark.And) Referring (Exprs loosest)

abbrev pub ArgumentForms : Form (List Argument)
ArgumentForms = Series ArgumentForm mark.ParenClose

abbrev pub Called : Form (List Argument × Span)
Called = Before ArgumentForms mark.ParenClose

pub argument_reads : (n : ℕ) (ts : List Token) → ArgumentForm.read n ts ≡ (Passed.read n ts >>= λ p. Ok (argument_by p.0, p.1))
unfolding argument_at
argument_reads n ts = refl

pub passed_makes : (a : List Token) (p : (Span × Place) ⊎ Expr) → Passed.is a p → IsArgument a (argument_by p)
passed_makes a (inl r) i =
    let j = behind_is mark.And Target a r i in
    subst (λ (l : List Token). IsArgument l (argument_by (inl r))) (sym j.1) (is_reference r.0 j.0 r.1 j.2)
passed_makes a (inr x) i = is_value_argument a x i

pub passed_depth : (p : (Span × Place) ⊎ Expr) (n : ℕ) → Passed.deep p ≤ n → depth_of_argument (argument_by p) ≤ n
passed_depth (inl r) n h = omega arith
passed_depth (inr x) n h = h

pub passed_ends : (p : (Span × Place) ⊎ Expr) (rest : List Token) → Passed.ends p rest → EndsArgument (argument_by p) rest
passed_ends (inl r) rest h = h
passed_ends (inr x) rest h = h

pub some_variable : (w : Word) → Can Target (word w ∷ [])
some_variable w = (variable w, is_variable w)

pub referring_then : Follows (One mark.And) Target Free
referring_then = one_then mark.And Target (word nameless ∷ []) (some_variable nameless)

pub called_then : Follows ArgumentForms (One mark.ParenClose) Free
called_then = then_one ArgumentForms mark.ParenClose (λ xs s rest. arguments_end xs s rest)
  where
    argument_ends : (x : Argument) (s : Span) (rest : List Token) → EndsArgument x (at mark.ParenClose s ∷ rest)
    argument_ends (by_value x) s rest = closes_ends loosest mark.ParenClose refl x s rest
    argument_ends (by_reference p t) s rest = λ b. refl

    arguments_end : (xs : List Argument) (s : Span) (rest : List Token) → ArgumentForms.ends xs (at mark.ParenClose s ∷ rest)
    arguments_end [] s rest = refl
    arguments_end (x ∷ []) s rest = (argument_ends x s rest, refl)
    arguments_end (x ∷ y ∷ ys) s rest = arguments_end (y ∷ ys) s rest

arguments_of_list : (ts : List Token) (x : Argument) (xs : List Argument) → AreListed ArgumentForm ts (x ∷ xs) → IsArgumentList ts (x ∷ xs)
arguments_of_list ts x [] i = is_last_argument ts x i
arguments_of_list ts x (y ∷ ys) i = subst (λ (l : List Token). IsArgumentList l (x ∷ y ∷ ys)) (sym i.3) (is_more_arguments i.0 i.2 i.1 x (y ∷ ys) i.4 (arguments_of_list i.2 y ys i.5))

arguments_of : (ts : List Token) (xs : List Argument) → IsSeries ArgumentForm ts xs → IsArguments ts xs
arguments_of ts [] i = subst (λ (l : List Token). IsArguments l []) (sym i) is_no_argument
arguments_of ts (x ∷ xs) i = is_some_arguments ts (x ∷ xs) (arguments_of_list ts x xs i)

pub row_deep : (xs : List Argument) → depth_of_row (listed xs) ≡ deepest ArgumentForm xs
row_deep [] = refl
row_deep (x ∷ xs) = omega (arith, row_deep xs)

-- ---- what begins with a name

abbrev pub IsSuffix : List Token → Suffix → Type 0
IsSuffix ts by_nothing = ts ≡ []
IsSuffix ts (by_index i) = (s : Span) × (b : List Token) × (ts ≡ at mark.BracketOpen s ∷ b) × Bracketed.is b i
IsSuffix ts (by_arguments a) = (s : Span) × (b : List Token) × (ts ≡ at mark.ParenOpen s ∷ b) × Called.is b a

abbrev pub deep_of_suffix : Suffix → ℕ
deep_of_suffix by_nothing = 0
deep_of_suffix (by_index i) = Bracketed.deep i
deep_of_suffix (by_arguments a) = Called.deep a

abbrev pub EndsSuffix : Suffix → List Token → Type 0
EndsSuffix by_nothing rest = (starts_with mark.BracketOpen rest ≡ false) × (starts_with mark.ParenOpen rest ≡ false)
EndsSuffix (by_index i) rest = Unit {0}
EndsSuffix (by_arguments a) rest = Unit {0}

abbrev pub Suffixes : Form Suffix
Suffixes = record { is = IsSuffix; deep = deep_of_suffix; ends = EndsSuffix; read = λ n ts. suffix_at (Bracketed.read n) (Called.read n) ts }

abbrev pub NamedForm : Form (Word × Suffix)
NamedForm = NameThen Suffixes

suffix_some : Can Suffixes []
suffix_some = (by_nothing, refl)

pub name_then : Follows Named Suffixes Free
name_then = named_then Suffixes [] suffix_some

pub named_reads : (n : ℕ) (ts : List Token) → named_at (expr_at n loosest) (target_at n) ts ≡ (NamedForm.read n ts >>= λ p. Ok (named p.0.0 p.0.1, p.1))
unfolding named_at bracketed_at arguments_at
named_reads n ts = refl

suffix_from_sound : (n : ℕ) → IsSound Bracketed n → IsSound Called n → (ts : List Token) (b c : Bool) (y : Suffix) (rest : List Token) → starts_with mark.BracketOpen ts ≡ b → starts_with mark.ParenOpen ts ≡ c
    → suffix_from (Bracketed.read n) (Called.read n) ts b c ≡ Ok (y, rest) → Found Suffixes n ts y rest
suffix_from_sound n f g ts true c y rest s t e =
    let p = bind_ok (Bracketed.read n (drop 1 ts)) (λ x. Ok (by_index x.0, x.1)) (y, rest) e in
    let x = f (drop 1 ts) p.0.0 p.0.1 p.1 in
    let o = starts_cons mark.BracketOpen ts s in
    subst (λ (z : Suffix × List Token). Found Suffixes n ts z.0 z.1) (ok_is p.2) (record {
      used = at mark.BracketOpen o.0 ∷ x.used;
      split = o.1 ∙ ap (λ (l : List Token). at mark.BracketOpen o.0 ∷ l) x.split;
      is = (o.0, x.used, refl, x.is);
      shallow = x.shallow;
      ends = tt;
    })
suffix_from_sound n f g ts false true y rest s t e =
    let p = bind_ok (Called.read n (drop 1 ts)) (λ x. Ok (by_arguments x.0, x.1)) (y, rest) e in
    let x = g (drop 1 ts) p.0.0 p.0.1 p.1 in
    let o = starts_cons mark.ParenOpen ts t in
    subst (λ (z : Suffix × List Token). Found Suffixes n ts z.0 z.1) (ok_is p.2) (record {
      used = at mark.ParenOpen o.0 ∷ x.used;
      split = o.1 ∙ ap (λ (l : List Token). at mark.ParenOpen o.0 ∷ l) x.split;
      is = (o.0, x.used, refl, x.is);
      shallow = x.shallow;
      ends = tt;
    })
suffix_from_sound n f g ts false false y rest s t e =
    subst (λ (z : Suffix × List Token). Found Suffixes n ts z.0 z.1) (ok_is e) (record { used = []; split = refl; is = refl; shallow = omega arith; ends = (s, t) })

pub suffix_sound : (n : ℕ) → IsSound Bracketed n → IsSound Called n → IsSound Suffixes n
unfolding suffix_at
suffix_sound n f g ts y rest e = suffix_from_sound n f g ts (starts_with mark.BracketOpen ts) (starts_with mark.ParenOpen ts) y rest refl refl e

named_from : (w : Word) (b : List Token) (s : Suffix) → IsSuffix b s → IsExpr zero (word w ∷ b) (named w s)
named_from w b by_nothing i = subst (λ (l : List Token). IsExpr zero (word w ∷ l) (place (variable w))) (sym i) (is_place (word w ∷ []) (variable w) (is_variable w))
named_from w b (by_index x) i =
    let p = before_is (Exprs loosest) mark.BracketClose i.1 x i.3 in
    subst (λ (l : List Token). IsExpr zero (word w ∷ l) (named w (by_index x))) (sym (i.2 ∙ ap (λ (l : List Token). at mark.BracketOpen i.0 ∷ l) p.1)) (is_place _ _ (is_element w i.0 x.1 p.0 x.0 p.2))
named_from w b (by_arguments a) i =
    let p = before_is ArgumentForms mark.ParenClose i.1 a i.3 in
    subst (λ (l : List Token). IsExpr zero (word w ∷ l) (named w (by_arguments a))) (sym (i.2 ∙ ap (λ (l : List Token). at mark.ParenOpen i.0 ∷ l) p.1)) (is_call w i.0 a.1 p.0 a.0 (arguments_of p.0 a.0 p.2))

pub named_makes : (ts : List Token) (p : Word × Suffix) → NamedForm.is ts p → IsExpr zero ts (named p.0 p.1)
named_makes ts p i =
    let j = name_then_is Suffixes ts p i in
    subst (λ (l : List Token). IsExpr zero l (named p.0 p.1)) (sym j.1) (named_from p.0 j.0 p.1 j.2)

pub named_depth : (w : Word) (s : Suffix) (n : ℕ) → deep_of_suffix s ≤ n → depth (named w s) ≤ suc n
named_depth w by_nothing n h = omega arith
named_depth w (by_index i) n h = omega arith
named_depth w (by_arguments a) n h = omega (arith, row_deep a.0)

pub named_ends : (w : Word) (s : Suffix) (rest : List Token) → EndsSuffix s rest → Ends zero (named w s) rest
named_ends w by_nothing rest h = name_ends (place (variable w)) rest (λ b. h.0) (λ b. h.1)
named_ends w (by_index i) rest h = no_name_ends (named w (by_index i)) rest refl
named_ends w (by_arguments a) rest h = no_name_ends (named w (by_arguments a)) rest refl

-- ---- brackets and casts

abbrev pub Closed : Form (Expr × Span)
Closed = Before (Exprs loosest) mark.ParenClose

abbrev pub Typed : Form (TypeTree × (Span × Expr))
Typed = Both Types (Behind mark.ParenClose (Exprs zero)) Free

abbrev pub Bracket : Form ((TypeTree × (Span × Expr)) ⊎ (Expr × Span))
Bracket = Either begins_type Typed Closed

pub bracket_reads : (n : ℕ) (o : Span) (ts : List Token) → bracket_at (expr_at n) o ts ≡ (Bracket.read n ts >>= λ p. Ok (bracket_of o p.0, p.1))
unfolding bracket_at
bracket_reads n o ts = refl

pub bracket_makes : (o : Span) (a : List Token) (p : (TypeTree × (Span × Expr)) ⊎ (Expr × Span)) → Bracket.is a p → IsExpr zero (at mark.ParenOpen o ∷ a) (bracket_of o p)
bracket_makes o a (inl c) i =
    let j = behind_is mark.ParenClose (Exprs zero) i.1 c.1 i.4 in
    subst (λ (l : List Token). IsExpr zero (at mark.ParenOpen o ∷ l) (bracket_of o (inl c))) (sym (i.2 ∙ ap (λ (l : List Token). i.0 ++ l) j.1)) (is_cast o c.1.0 i.0 j.0 c.0 c.1.1 i.3 j.2)
bracket_makes o a (inr b) i =
    let j = before_is (Exprs loosest) mark.ParenClose a b i in
    subst (λ (l : List Token). IsExpr zero (at mark.ParenOpen o ∷ l) (bracket_of o (inr b))) (sym j.1) (is_brackets o b.1 j.0 b.0 j.2)

pub bracket_depth : (o : Span) (p : (TypeTree × (Span × Expr)) ⊎ (Expr × Span)) (n : ℕ) → Bracket.deep p ≤ n → depth (bracket_of o p) ≤ suc n
bracket_depth o (inl c) n h = omega arith
bracket_depth o (inr b) n h = omega arith

pub bracket_ends : (o : Span) (p : (TypeTree × (Span × Expr)) ⊎ (Expr × Span)) (rest : List Token) → Bracket.ends p rest → Ends zero (bracket_of o p) rest
bracket_ends o (inl c) rest h = name_ends (bracket_of o (inl c)) rest h.index h.arguments
bracket_ends o (inr b) rest h = no_name_ends (bracket_of o (inr b)) rest refl

-- ---- the least expression

abbrev pub zero_value : Value
zero_value = record { elem = elem.I32; bits = 0 }

abbrev pub zero_tokens : List Token
zero_tokens = numeral zero_value nowhere ∷ []

-- a number is an expression of each level
pub number_at_level : (k : ℕ) → IsExpr k zero_tokens (number zero_value nowhere)
number_at_level zero = is_number zero_value nowhere
number_at_level (suc k) = is_tighter k zero_tokens (number zero_value nowhere) (number_at_level k)

abbrev pub zero_at : (k : ℕ) → Can (Exprs k) zero_tokens
zero_at k = (number zero_value nowhere, number_at_level k)

pub closed_then : Follows (Exprs loosest) (One mark.ParenClose) Free
closed_then = then_one (Exprs loosest) mark.ParenClose (λ x s rest. closes_ends loosest mark.ParenClose refl x s rest)

pub cast_then : Follows (One mark.ParenClose) (Exprs zero) Free
cast_then = one_then mark.ParenClose (Exprs zero) zero_tokens (zero_at zero)

pub typed_then : Follows Types (Behind mark.ParenClose (Exprs zero)) Free
typed_then = then_behind Types mark.ParenClose (Exprs zero) (λ t s rest. ends_type t.base (at mark.ParenClose s ∷ rest) refl) zero_tokens (zero_at zero)

-- ---- the parts of a choice

abbrev pub Parts : Form (Expr × (Span × Expr))
Parts = Both (Exprs loosest) (Behind mark.Colon (Exprs loosest)) Free

pub colon_then : Follows (One mark.Colon) (Exprs loosest) Free
colon_then = one_then mark.Colon (Exprs loosest) zero_tokens (zero_at loosest)

pub parts_then : Follows (Exprs loosest) (Behind mark.Colon (Exprs loosest)) Free
parts_then = then_behind (Exprs loosest) mark.Colon (Exprs loosest) (λ x s rest. closes_ends loosest mark.Colon refl x s rest) zero_tokens (zero_at loosest)

pub parts_read : (n : ℕ) (ts : List Token) → parts_at (expr_at n loosest) ts ≡ Parts.read n ts
unfolding parts_at
parts_read n ts = refl

pub choice_makes : (front : List Token) (q : Span) (l : List Token) (x : Expr) (p : Expr × (Span × Expr)) → IsExpr joined_level front x → Parts.is l p → IsExpr loosest (front ++ at mark.Question q ∷ l) (choice_of x p)
choice_makes front q l x p i j =
    let c = behind_is mark.Colon (Exprs loosest) j.1 p.1 j.4 in
    subst (λ (m : List Token). IsExpr loosest (front ++ at mark.Question q ∷ m) (choice_of x p)) (sym (j.2 ∙ ap (λ (m : List Token). j.0 ++ m) c.1)) (is_choose q p.1.0 front j.0 c.0 x p.0 p.1.1 i j.3 c.2)
