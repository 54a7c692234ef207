-- How expressions are read.
use Rattle.std.specs.Prelude.{◌⊎◌, ℕ, zero, suc, List, [], ◌∷◌, drop, Bool, true, false, if◌then◌else◌, Option, Some, None, Ok, nat_lt, ◌==◌}
use mathlib.Core.Logic.{inl, inr}
use Rattle.isp_base.specs.Types.{span_to}
use Rattle.isp_base.specs.declared.types.Span.{Span}
use Rattle.isp_lex.specs.Tokens.{is_mark, starts_with}
use Rattle.isp_lex.specs.declared.token.Mark.{Mark}
use Rattle.isp_lex.specs.declared.token.Mark.TheVariants as mark
use Rattle.isp_lex.specs.declared.token.TokenKind.{TokenKind}
use Rattle.isp_lex.specs.declared.token.TokenKind.TheVariants as kind
use Rattle.isp_lex.specs.declared.token.Token.{Token}
use Rattle.isp_tree.specs.Depth.{depth, depth_of_all}
use Rattle.isp_tree.specs.Views.{expr_of, arguments_of}
use Rattle.isp_grammar.specs.reader.Readers.{Read, Reader, ◌>>=◌, refuse, mark_at, word_at, both, optional, listed_at, at_limit, is_word}
use Rattle.isp_grammar.specs.reader.Choices.{either_at}
use Rattle.isp_grammar.specs.reader.Types.{begins_type, type_at}
use Rattle.isp_grammar.specs.Signs.{level, joined_level, loosest}
use Rattle.isp_tree.specs.Tree.{TypeTree, Expr, number, truth, program_index, program_count, place, call, brackets, cast, prefix, binary, choose, listed, span_of, Place, variable, element, span_of_place, Argument, by_value, by_reference}
use Rattle.isp_grammar.specs.declared.expr.Atom.{Atom}
use Rattle.isp_grammar.specs.declared.expr.Atom.TheVariants as atom
use Rattle.isp_grammar.specs.declared.expr.Behind as rust_behind
use Rattle.isp_grammar.specs.declared.expr.Behind.TheVariants as behind
use Rattle.isp_grammar.specs.declared.expr.Branches as rust_branches
use Rattle.isp_grammar.specs.declared.expr.Start.{Start}
use Rattle.isp_grammar.specs.declared.expr.Start.TheVariants as by
use Rattle.isp_grammar.specs.declared.stop.Why.TheVariants.{Unexpected, TooDeep}
use Rattle.isp_tree.specs.declared.types.Word.{Word}
use Rattle.isp_tree.specs.declared.expr.Prefix.{Prefix}
use Rattle.isp_tree.specs.declared.expr.Prefix.TheVariants.{Negative, Inverse, Not}
use Rattle.isp_tree.specs.declared.expr.Operator.{Operator}
use Rattle.isp_tree.specs.declared.expr.Operator.TheVariants as operator

-- ---- the first token

-- what a mark begins, as an operand
abbrev pub start_of_mark : Mark → Start
start_of_mark mark.True = by.Atom (atom.Truth true)
start_of_mark mark.False = by.Atom (atom.Truth false)
start_of_mark mark.ProgramIndex = by.Atom atom.ProgramIndex
start_of_mark mark.ProgramCount = by.Atom atom.ProgramCount
start_of_mark mark.ParenOpen = by.Bracket
start_of_mark mark.Minus = by.Prefix Negative
start_of_mark mark.Inverse = by.Prefix Inverse
start_of_mark mark.Not = by.Prefix Not
start_of_mark _ = by.Nothing

abbrev pub start_of : TokenKind → Start
start_of (kind.Word n) = by.Word
start_of (kind.Number v) = by.Atom (atom.Number v)
start_of (kind.Text t) = by.Nothing
start_of (kind.Mark m) = start_of_mark m
start_of kind.LeftOut = by.Nothing

abbrev pub is_start : Start → Bool
is_start (by.Atom a) = true
is_start by.Word = true
is_start by.Bracket = true
is_start (by.Prefix p) = true
is_start by.Nothing = false

abbrev pub begins_expr : TokenKind → Bool
begins_expr k = is_start (start_of k)

-- the operator between two operands that a token is
abbrev pub operator_of : TokenKind → Option Operator
operator_of (kind.Word n) = None
operator_of (kind.Number v) = None
operator_of (kind.Text t) = None
operator_of (kind.Mark mark.Star) = Some operator.Multiply
operator_of (kind.Mark mark.Slash) = Some operator.Divide
operator_of (kind.Mark mark.Percent) = Some operator.Remainder
operator_of (kind.Mark mark.Plus) = Some operator.Add
operator_of (kind.Mark mark.Minus) = Some operator.Subtract
operator_of (kind.Mark mark.ShiftLeft) = Some operator.ShiftLeft
operator_of (kind.Mark mark.ShiftRight) = Some operator.ShiftRight
operator_of (kind.Mark mark.Less) = Some operator.Less
operator_of (kind.Mark mark.LessEqual) = Some operator.LessEqual
operator_of (kind.Mark mark.Greater) = Some operator.Greater
operator_of (kind.Mark mark.GreaterEqual) = Some operator.GreaterEqual
operator_of (kind.Mark mark.Equal) = Some operator.Equal
operator_of (kind.Mark mark.NotEqual) = Some operator.NotEqual
operator_of (kind.Mark mark.And) = Some operator.And
operator_of (kind.Mark mark.Xor) = Some operator.Xor
operator_of (kind.Mark mark.Or) = Some operator.Or
operator_of (kind.Mark mark.AndAnd) = Some operator.AndAlso
operator_of (kind.Mark mark.OrOr) = Some operator.OrElse
operator_of (kind.Mark _) = None
operator_of kind.LeftOut = None

abbrev pub of_level : ℕ → Option Operator → Option Operator
of_level k None = None
of_level k (Some op) = if level op == k then Some op else None

-- the operator of this level that the tokens start with
abbrev pub operator_at : ℕ → List Token → Option Operator
operator_at k [] = None
operator_at k (t ∷ ts) = of_level k (operator_of t.kind)

-- ---- what begins with a name

-- an expression and the closing bracket of an index
unfoldable pub bracketed_at : Reader Expr → Reader (Expr × Span)
bracketed_at expr ts = both expr (mark_at mark.BracketClose) ts

-- an index, where one stands
unfoldable pub index_at : Reader Expr → Reader (Option (Expr × Span))
index_at expr ts = optional mark.BracketOpen (bracketed_at expr) ts

abbrev pub place_by : Word → Option (Expr × Span) → Place
place_by w None = variable w
place_by w (Some i) = element w i.0 (span_to w.span i.1)

-- a variable, or an element of an array
unfoldable pub place_at : Reader Expr → Reader Place
place_at expr ts = both word_at (index_at expr) ts >>= λ p. Ok (place_by p.0.0 p.0.1, p.1)

abbrev pub argument_by : (Span × Place) ⊎ Expr → Argument
argument_by (inl r) = by_reference r.1 (span_to r.0 (span_of_place r.1))
argument_by (inr x) = by_value x

-- a value, or a reference to a place
unfoldable pub argument_at : Reader Expr → Reader Place → Reader Argument
argument_at expr target ts = either_at (is_mark mark.And) (both (mark_at mark.And) target) expr ts >>= λ p. Ok (argument_by p.0, p.1)

-- arguments and the closing bracket of a call
unfoldable pub arguments_at : Reader Expr → Reader Place → Reader (List Argument × Span)
arguments_at expr target ts = both (listed_at mark.ParenClose (argument_at expr target)) (mark_at mark.ParenClose) ts

-- what may stand after a name
pub data Suffix : Type 0 where
  by_nothing : Suffix
  by_index : Expr × Span → Suffix
  by_arguments : List Argument × Span → Suffix

abbrev pub suffix_of : rust_behind.Behind → Suffix
suffix_of behind.Nothing = by_nothing
suffix_of (behind.Index x s) = by_index (expr_of x.value, s)
suffix_of (behind.Arguments xs s) = by_arguments (arguments_of xs.items, s)

abbrev pub depth_of_suffix : Suffix → ℕ
depth_of_suffix by_nothing = 0
depth_of_suffix (by_index i) = depth i.0
depth_of_suffix (by_arguments a) = depth_of_all a.0

abbrev pub suffix_from : Reader (Expr × Span) → Reader (List Argument × Span) → List Token → Bool → Bool → Read Suffix
suffix_from index arguments ts true b = index (drop 1 ts) >>= λ x. Ok (by_index x.0, x.1)
suffix_from index arguments ts false true = arguments (drop 1 ts) >>= λ x. Ok (by_arguments x.0, x.1)
suffix_from index arguments ts false false = Ok (by_nothing, ts)

unfoldable pub suffix_at : Reader (Expr × Span) → Reader (List Argument × Span) → Reader Suffix
suffix_at index arguments ts = suffix_from index arguments ts (starts_with mark.BracketOpen ts) (starts_with mark.ParenOpen ts)

abbrev pub named : Word → Suffix → Expr
named w by_nothing = place (variable w)
named w (by_index i) = place (element w i.0 (span_to w.span i.1))
named w (by_arguments a) = call w (listed a.0) (span_to w.span a.1)

-- a variable, an element of an array, or a call
unfoldable pub named_at : Reader Expr → Reader Place → Reader Expr
named_at expr target ts = both word_at (suffix_at (bracketed_at expr) (arguments_at expr target)) ts >>= λ p. Ok (named p.0.0 p.0.1, p.1)

-- ---- operands

abbrev pub atom_of : Atom → Span → Expr
atom_of (atom.Number v) s = number v s
atom_of (atom.Truth b) s = truth b s
atom_of atom.ProgramIndex s = program_index s
atom_of atom.ProgramCount s = program_count s

abbrev pub bracket_of : Span → (TypeTree × (Span × Expr)) ⊎ (Expr × Span) → Expr
bracket_of o (inl c) = cast c.0 c.1.1 (span_to o (span_of c.1.1))
bracket_of o (inr b) = brackets b.0 (span_to o b.1)

-- a type, a closing bracket and what is cast, after an opening bracket
unfoldable pub cast_at : (ℕ → Reader Expr) → Span → Reader Expr
cast_at inner o ts = both type_at (both (mark_at mark.ParenClose) (inner zero)) ts >>= λ p. Ok (bracket_of o (inl p.0), p.1)

-- an expression and a closing bracket, after an opening bracket
unfoldable pub closed_at : (ℕ → Reader Expr) → Span → Reader Expr
closed_at inner o ts = both (inner loosest) (mark_at mark.ParenClose) ts >>= λ p. Ok (bracket_of o (inr p.0), p.1)

-- what stands after an opening bracket: a type and what is cast to it, or an expression
unfoldable pub bracket_at : (ℕ → Reader Expr) → Span → Reader Expr
bracket_at inner o ts = either_at begins_type (both type_at (both (mark_at mark.ParenClose) (inner zero))) (both (inner loosest) (mark_at mark.ParenClose)) ts >>= λ p. Ok (bracket_of o p.0, p.1)

abbrev pub prefix_of : Prefix → Span → Expr → Expr
prefix_of p s x = prefix p x (span_to s (span_of x))

-- an operand after an operator that stands before it
abbrev pub prefixed_at : (ℕ → Reader Expr) → Prefix → Span → Reader Expr
prefixed_at inner p s ts = inner zero ts >>= λ x. Ok (prefix_of p s x.0, x.1)

abbrev pub operand_from : (ℕ → Reader Expr) → Reader Place → Start → Token → List Token → Read Expr
operand_from inner target (by.Atom a) t ts = Ok (atom_of a t.span, ts)
operand_from inner target by.Word t ts = named_at (inner loosest) target (t ∷ ts)
operand_from inner target by.Bracket t ts = bracket_at inner t.span ts
operand_from inner target (by.Prefix p) t ts = prefixed_at inner p t.span ts
operand_from inner target by.Nothing t ts = refuse Unexpected (t ∷ ts)

unfoldable pub operand_at : (ℕ → Reader Expr) → Reader Place → Reader Expr
operand_at inner target [] = refuse Unexpected []
operand_at inner target (t ∷ ts) = operand_from inner target (start_of t.kind) t ts

-- ---- operators

abbrev pub joined : Expr → Operator → Expr → Expr
joined x op y = binary op x y (span_to (span_of x) (span_of y))

-- the operators of a level and their right sides, after x. The fuel is never short: each one makes x deeper.
abbrev pub step_at : Reader Expr → (Expr → Reader Expr) → ℕ → Expr → List Token → Option Operator → Read Expr
step_at right more n x ts None = Ok (x, ts)
step_at right more n x ts (Some op) = if nat_lt n (depth x) then refuse TooDeep ts else (right (drop 1 ts) >>= λ y. more (joined x op y.0) y.1)

unfoldable pub more_at : Reader Expr → ℕ → ℕ → ℕ → Expr → Reader Expr
more_at right n k zero x ts = step_at right (λ _ ts. refuse TooDeep ts) n x ts (operator_at (suc k) ts)
more_at right n k (suc f) x ts = step_at right (more_at right n k f) n x ts (operator_at (suc k) ts)

-- operands joined by operators of a level, over what is read below it
unfoldable pub binary_at : (ℕ → Reader Expr) → Reader Place → ℕ → ℕ → Reader Expr
binary_at inner target n zero ts = operand_at inner target ts
binary_at inner target n (suc k) ts = binary_at inner target n k ts >>= λ x. more_at (inner k) n k n x.0 x.1

abbrev pub choice_of : Expr → Expr × (Span × Expr) → Expr
choice_of x p = choose x p.0 p.1.1 (span_to (span_of x) (span_of p.1.1))

abbrev pub parts_of : rust_branches.Branches → Expr × (Span × Expr)
parts_of p = (expr_of p.then.value, (p.colon, expr_of p.otherwise.value))

-- the two parts of a choice
unfoldable pub parts_at : Reader Expr → Reader (Expr × (Span × Expr))
parts_at expr ts = both expr (both (mark_at mark.Colon) expr) ts

-- a choice by x, where `?` stands
abbrev pub choice_from : Reader Expr → ℕ → Expr → List Token → Bool → Read Expr
choice_from expr n x ts true = if nat_lt n (depth x) then refuse TooDeep ts else (parts_at expr (drop 1 ts) >>= λ p. Ok (choice_of x p.0, p.1))
choice_from expr n x ts false = Ok (x, ts)

unfoldable pub choice_at : Reader Expr → ℕ → Expr → Reader Expr
choice_at expr n x ts = choice_from expr n x ts (starts_with mark.Question ts)

-- one level of depth; only above the operators there is a choice
abbrev pub level_from : (ℕ → Reader Expr) → Reader Place → ℕ → ℕ → List Token → Bool → Read Expr
level_from inner target n k ts true = binary_at inner target n joined_level ts >>= λ x. choice_at (inner loosest) n x.0 x.1
level_from inner target n k ts false = binary_at inner target n k ts

unfoldable pub level_at : (ℕ → Reader Expr) → Reader Place → ℕ → ℕ → Reader Expr
level_at inner target n k ts = level_from inner target n k ts (nat_lt joined_level k)

unfoldable mutual
  -- an expression of a level, no deeper than the first number
  pub expr_at : ℕ → ℕ → Reader Expr
  expr_at zero k ts = at_limit begins_expr ts
  expr_at (suc n) k ts = level_at (expr_at n) (target_at n) n k ts

  -- a place, no deeper than the number
  pub target_at : ℕ → Reader Place
  target_at zero ts = at_limit is_word ts
  target_at (suc n) ts = place_at (expr_at n loosest) ts
