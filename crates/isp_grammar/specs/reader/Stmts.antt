-- How statements are read.
use Rattle.std.specs.Prelude.{⊤, bytes_eq, codes, cond, option_map, ◌⊎◌, ℕ, zero, suc, List, [], ◌∷◌, ◌++◌, length, map, Bool, true, false, ◌||◌, Option, Some, None, Ok}
use mathlib.Core.Logic.{inl, inr}
use Rattle.isp_base.specs.Types.{span_to}
use Rattle.isp_base.specs.declared.types.Span.{Span}
use Rattle.isp_base.specs.declared.types.Value.{Value}
use Rattle.isp_lex.specs.Tokens.{is_mark}
use Rattle.isp_lex.specs.declared.token.Mark.{Mark}
use Rattle.isp_lex.specs.declared.token.Mark.TheVariants as mark
use Rattle.isp_lex.specs.declared.token.TokenKind.{TokenKind}
use Rattle.isp_lex.specs.declared.token.TokenKind.TheVariants as kind
use Rattle.isp_lex.specs.declared.token.Token.{Token}
use Rattle.isp_grammar.specs.Grammar.{span_of_last}
use Rattle.isp_grammar.specs.reader.Readers.{Read, Reader, ◌>>=◌, refuse, mark_at, word_at, both, optional, list_at, until_at, at_limit}
use Rattle.isp_grammar.specs.reader.Choices.{sign_at, maybe_closed_at, perhaps_at, either_at, counted_at}
use Rattle.isp_grammar.specs.reader.Exprs.{expr_at}
use Rattle.isp_grammar.specs.reader.Starts.{start_of, begins_first, begins_simple, begins_stmt}
use Rattle.isp_grammar.specs.reader.Types.{begins_type, type_at}
use Rattle.isp_grammar.specs.Signs.{loosest}
use Rattle.isp_tree.specs.Tree.{TypeTree, Expr, span_of, Item, plain, with_value, with_size, Declaration, Simple, value, assign, change, First, first_declare, first_simple, Range}
use Rattle.isp_tree.specs.Tree.{Stmt, block, empty, declare, simple, if_then, if_else, loop_while, loop_do, loop_for, foreach, foreach_active, foreach_unique, unmasked, jump}
use Rattle.isp_tree.specs.Tree.{returning, print, assert, Block, braces, all, span_of_block, span_of_stmt, span_of_simple}
use Rattle.isp_tree.specs.Views.{expr_of, simple_of, first_of, range_of}
use Rattle.isp_grammar.specs.declared.declaration.ItemTail as rust_item
use Rattle.isp_grammar.specs.declared.declaration.ItemTail.TheVariants as one
use Rattle.isp_grammar.specs.declared.heads.Loop.{Loop}
use Rattle.isp_grammar.specs.declared.heads.Loop.TheVariants as loops
use Rattle.isp_grammar.specs.declared.heads.LoopHead as rust_heading
use Rattle.isp_grammar.specs.declared.heads.LoopHead.TheVariants as heading
use Rattle.isp_grammar.specs.declared.parts.ForHead as rust_head
use Rattle.isp_grammar.specs.declared.simple.Ending as rust_ending
use Rattle.isp_grammar.specs.declared.simple.Ending.TheVariants as ending
use Rattle.isp_grammar.specs.declared.start.Start.{Start}
use Rattle.isp_grammar.specs.declared.start.Start.TheVariants as by
use Rattle.isp_grammar.specs.declared.stop.Why.TheVariants.{Unexpected}
use Rattle.isp_tree.specs.declared.types.Word.{Word}
use Rattle.isp_tree.specs.declared.stmt.Size.{Size}
use Rattle.isp_tree.specs.declared.stmt.Size.TheVariants as size
use Rattle.isp_tree.specs.declared.stmt.Assignment.{Assignment}
use Rattle.isp_tree.specs.declared.stmt.Assignment.TheVariants as assignment
use Rattle.isp_tree.specs.declared.stmt.Change.{Change}
use Rattle.isp_tree.specs.declared.stmt.Change.TheVariants.{Increment, Decrement}
use Rattle.isp_tree.specs.declared.stmt.Form.{Form}
use Rattle.isp_tree.specs.declared.stmt.Tiling.{Tiling}
use Rattle.isp_tree.specs.declared.stmt.Jump.{Jump}

abbrev pub stands : {A : Type 0} → Option A → Bool
stands None = false
stands (Some x) = true

-- ---- declarations

-- a number, or `programCount`
abbrev pub size_of : TokenKind → Option (Option Value)
size_of (kind.Word n) = None
size_of (kind.Number v) = Some (Some v)
size_of (kind.Text t) = None
size_of (kind.Mark mark.ProgramCount) = Some None
size_of (kind.Mark _) = None
size_of kind.LeftOut = None

abbrev pub size_from : Option Value → Span → Size
size_from None s = size.ProgramCount s
size_from (Some v) s = size.Number v s

unfoldable pub size_at : Reader Size
size_at ts = sign_at size_of ts >>= λ p. Ok (size_from p.0.0 p.0.1, p.1)

-- what goes on with an item after its name
abbrev pub is_item_sign : TokenKind → Bool
is_item_sign k = is_mark mark.Assign k || is_mark mark.BracketOpen k

abbrev pub ItemTail : Type 0
ItemTail = (Span × Expr) ⊎ (Span × (Size × Span))

abbrev pub item_tail_of : rust_item.ItemTail → ItemTail
item_tail_of (one.Value s x) = inl (s, expr_of x.value)
item_tail_of (one.Size o n c) = inr (o, (n, c))

unfoldable pub item_tail_at : ℕ → Reader ItemTail
item_tail_at n ts = either_at (is_mark mark.Assign) (both (mark_at mark.Assign) (expr_at n loosest)) (both (mark_at mark.BracketOpen) (both size_at (mark_at mark.BracketClose))) ts

abbrev pub item_from : Word → Option ItemTail → Item
item_from w None = plain w
item_from w (Some (inl v)) = with_value w v.1 (span_to w.span (span_of v.1))
item_from w (Some (inr v)) = with_size w v.1.0 (span_to w.span v.1.1)

unfoldable pub item_at : ℕ → Reader Item
item_at n ts = both word_at (perhaps_at is_item_sign (item_tail_at n)) ts >>= λ p. Ok (item_from p.0.0 p.0.1, p.1)

unfoldable pub items_at : ℕ → Reader (List Item)
items_at n ts = list_at (item_at n) (suc (length ts)) ts

abbrev pub declaration_from : TypeTree → List Item → Declaration
declaration_from t is = record { ty = t; items = is; span = span_to t.span (span_of_last is) }

unfoldable pub declaration_at : ℕ → Reader Declaration
declaration_at n ts = both type_at (items_at n) ts >>= λ p. Ok (declaration_from p.0.0 p.0.1, p.1)

-- ---- what stands before a semicolon

abbrev pub assignment_of : TokenKind → Option Assignment
assignment_of (kind.Word n) = None
assignment_of (kind.Number v) = None
assignment_of (kind.Text t) = None
assignment_of (kind.Mark mark.Assign) = Some assignment.Replace
assignment_of (kind.Mark mark.PlusAssign) = Some assignment.Add
assignment_of (kind.Mark mark.MinusAssign) = Some assignment.Subtract
assignment_of (kind.Mark mark.StarAssign) = Some assignment.Multiply
assignment_of (kind.Mark mark.SlashAssign) = Some assignment.Divide
assignment_of (kind.Mark mark.PercentAssign) = Some assignment.Remainder
assignment_of (kind.Mark mark.AndAssign) = Some assignment.And
assignment_of (kind.Mark mark.OrAssign) = Some assignment.Or
assignment_of (kind.Mark mark.XorAssign) = Some assignment.Xor
assignment_of (kind.Mark mark.ShiftLeftAssign) = Some assignment.ShiftLeft
assignment_of (kind.Mark mark.ShiftRightAssign) = Some assignment.ShiftRight
assignment_of (kind.Mark _) = None
assignment_of kind.LeftOut = None

abbrev pub change_of : TokenKind → Option Change
change_of (kind.Word n) = None
change_of (kind.Number v) = None
change_of (kind.Text t) = None
change_of (kind.Mark mark.Increment) = Some Increment
change_of (kind.Mark mark.Decrement) = Some Decrement
change_of (kind.Mark _) = None
change_of kind.LeftOut = None

abbrev pub is_assignment : TokenKind → Bool
is_assignment k = stands (assignment_of k)

abbrev pub is_change : TokenKind → Bool
is_change k = stands (change_of k)

abbrev pub is_ending : TokenKind → Bool
is_ending k = is_assignment k || is_change k

-- a sign of assignment and a value, or a step by one
abbrev pub Ending : Type 0
Ending = ((Assignment × Span) × Expr) ⊎ (Change × Span)

abbrev pub ending_of : rust_ending.Ending → Ending
ending_of (ending.Assign op s x) = inl ((op, s), expr_of x.value)
ending_of (ending.Change c s) = inr (c, s)

unfoldable pub ending_at : ℕ → Reader Ending
ending_at n ts = either_at is_assignment (both (sign_at assignment_of) (expr_at n loosest)) (sign_at change_of) ts

abbrev pub ended_from : Expr → Option Ending → Simple
ended_from x None = value x
ended_from x (Some (inl e)) = assign e.0.0 x e.1 (span_to (span_of x) (span_of e.1))
ended_from x (Some (inr e)) = change e.0 x (span_to (span_of x) e.1)

abbrev pub simple_from : ((Change × Span) × Expr) ⊎ (Expr × Option Ending) → Simple
simple_from (inl p) = change p.0.0 p.1 (span_to p.0.1 (span_of p.1))
simple_from (inr p) = ended_from p.0 p.1

unfoldable pub simple_at : ℕ → Reader Simple
simple_at n ts = either_at is_change (both (sign_at change_of) (expr_at n zero)) (both (expr_at n loosest) (perhaps_at is_ending (ending_at n))) ts >>= λ p. Ok (simple_from p.0, p.1)

-- ---- parts of statements

-- an expression in brackets, and where the closing one stands
unfoldable pub closed_test_at : ℕ → Reader (Expr × Span)
closed_test_at n ts = both (mark_at mark.ParenOpen) (both (expr_at n loosest) (mark_at mark.ParenClose)) ts >>= λ p. Ok (p.0.1, p.1)

-- an expression in brackets
unfoldable pub test_at : ℕ → Reader Expr
test_at n ts = both (mark_at mark.ParenOpen) (both (expr_at n loosest) (mark_at mark.ParenClose)) ts >>= λ p. Ok (p.0.1.0, p.1)

abbrev pub first_from : Declaration ⊎ Simple → First
first_from (inl d) = first_declare d
first_from (inr p) = first_simple p

unfoldable pub first_at : ℕ → Reader First
first_at n ts = either_at begins_type (declaration_at n) (simple_at n) ts >>= λ p. Ok (first_from p.0, p.1)

-- the first part and the step of a `for`, each of which counts as a statement
unfoldable pub first_part_at : ℕ → Reader First
first_part_at n ts = counted_at begins_first first_at n ts

unfoldable pub step_part_at : ℕ → Reader Simple
step_part_at n ts = counted_at begins_simple simple_at n ts

-- what stands in the brackets of a `for`
pub record Head : Type 0 where
  pub first : Option First
  pub test : Option Expr
  pub step : Option Simple

abbrev pub head_of : rust_head.ForHead → Head
head_of h = record { first = option_map (λ b. first_of b.value) h.first; test = option_map (λ b. expr_of b.value) h.test; step = option_map (λ b. simple_of b.value) h.step }

unfoldable pub head_at : ℕ → Reader Head
head_at n ts = both (mark_at mark.ParenOpen) (both (maybe_closed_at mark.Semicolon (first_part_at n)) (both (maybe_closed_at mark.Semicolon (expr_at n loosest)) (maybe_closed_at mark.ParenClose (step_part_at n)))) ts
    >>= λ p. Ok (record { first = p.0.1.0.0; test = p.0.1.1.0.0; step = p.0.1.1.1.0 }, p.1)

-- an expression after a mark
unfoldable pub behind_at : Mark → ℕ → Reader Expr
behind_at m n ts = both (mark_at m) (expr_at n loosest) ts >>= λ p. Ok (p.0.1, p.1)

abbrev pub range_from : Word → Expr → Expr → Range
range_from w x y = record { word = w; start = x; end = y; span = span_to w.span (span_of y) }

unfoldable pub range_at : ℕ → Reader Range
range_at n ts = both word_at (both (behind_at mark.Assign n) (behind_at mark.Ellipsis n)) ts >>= λ p. Ok (range_from p.0.0 p.0.1.0 p.0.1.1, p.1)

-- one to three ranges
unfoldable pub last_range_at : ℕ → Reader (Option (Span × Range))
last_range_at n ts = perhaps_at (is_mark mark.Comma) (both (mark_at mark.Comma) (range_at n)) ts

unfoldable pub more_ranges_at : ℕ → Reader (Option (Span × (Range × Option (Span × Range))))
more_ranges_at n ts = perhaps_at (is_mark mark.Comma) (both (mark_at mark.Comma) (both (range_at n) (last_range_at n))) ts

abbrev pub last_range : Option (Span × Range) → List Range
last_range None = []
last_range (Some r) = r.1 ∷ []

abbrev pub more_ranges : Option (Span × (Range × Option (Span × Range))) → List Range
more_ranges None = []
more_ranges (Some r) = r.1.0 ∷ last_range r.1.1

-- after ranges that were read before
abbrev pub with_last : List Range → Read (Option (Span × Range)) → Read (List Range)
with_last front read = read >>= λ p. Ok (front ++ last_range p.0, p.1)

abbrev pub with_more : List Range → Read (Option (Span × (Range × Option (Span × Range)))) → Read (List Range)
with_more front read = read >>= λ p. Ok (front ++ more_ranges p.0, p.1)

unfoldable pub ranges_at : ℕ → Reader (List Range)
ranges_at n ts = both (range_at n) (more_ranges_at n) ts >>= λ p. Ok (p.0.0 ∷ more_ranges p.0.1, p.1)

unfoldable pub ranges_head_at : ℕ → Reader (List Range)
ranges_head_at n ts = both (mark_at mark.ParenOpen) (both (ranges_at n) (mark_at mark.ParenClose)) ts >>= λ p. Ok (p.0.1.0, p.1)

unfoldable pub active_head_at : Reader Word
active_head_at ts = both (mark_at mark.ParenOpen) (both word_at (mark_at mark.ParenClose)) ts >>= λ p. Ok (p.0.1.0, p.1)

-- the name `in`
abbrev pub in_of : TokenKind → Option ⊤
in_of (kind.Word n) = cond (bytes_eq n (codes "in")) (Some tt) None
in_of (kind.Number v) = None
in_of (kind.Text t) = None
in_of (kind.Mark m) = None
in_of kind.LeftOut = None

-- the name and the value of a `foreach_unique`
unfoldable pub unique_parts_at : ℕ → Reader (Word × Expr)
unique_parts_at n ts = both word_at (both (sign_at in_of) (expr_at n loosest)) ts >>= λ p. Ok ((p.0.0, p.0.1.1), p.1)

unfoldable pub unique_head_at : ℕ → Reader (Word × Expr)
unique_head_at n ts = both (mark_at mark.ParenOpen) (both (unique_parts_at n) (mark_at mark.ParenClose)) ts >>= λ p. Ok (p.0.1.0, p.1)

abbrev pub text_of : TokenKind → Option (List ℕ)
text_of (kind.Word n) = None
text_of (kind.Number v) = None
text_of (kind.Text t) = Some t
text_of (kind.Mark m) = None
text_of kind.LeftOut = None

unfoldable pub values_at : ℕ → Reader (List Expr)
values_at n ts = until_at mark.ParenClose (behind_at mark.Comma n) (suc (length ts)) ts

-- `while`, a test and a semicolon
unfoldable pub do_end_at : ℕ → Reader (Expr × Span)
do_end_at n ts = both (mark_at mark.While) (both (test_at n) (mark_at mark.Semicolon)) ts >>= λ p. Ok (p.0.1, p.1)

-- ---- statements without statements in them, after their first token

unfoldable pub declare_at : ℕ → Reader Stmt
declare_at n ts = both (declaration_at n) (mark_at mark.Semicolon) ts >>= λ p. Ok (declare p.0.0 (span_to p.0.0.span p.0.1), p.1)

unfoldable pub simple_stmt_at : ℕ → Reader Stmt
simple_stmt_at n ts = both (simple_at n) (mark_at mark.Semicolon) ts >>= λ p. Ok (simple p.0.0 (span_to (span_of_simple p.0.0) p.0.1), p.1)

unfoldable pub jump_at : Jump → Span → Reader Stmt
jump_at j s ts = mark_at mark.Semicolon ts >>= λ e. Ok (jump j s (span_to s e.0), e.1)

unfoldable pub return_at : ℕ → Span → Reader Stmt
return_at n s ts = maybe_closed_at mark.Semicolon (expr_at n loosest) ts >>= λ p. Ok (returning s p.0.0 (span_to s p.0.1), p.1)

unfoldable pub print_at : ℕ → Span → Reader Stmt
print_at n s ts = both (mark_at mark.ParenOpen) (both (sign_at text_of) (both (values_at n) (both (mark_at mark.ParenClose) (mark_at mark.Semicolon)))) ts
    >>= λ p. Ok (print s p.0.1.0.0 p.0.1.0.1 p.0.1.1.0 (span_to s p.0.1.1.1.1), p.1)

unfoldable pub assert_at : ℕ → Span → Reader Stmt
assert_at n s ts = both (closed_test_at n) (mark_at mark.Semicolon) ts >>= λ p. Ok (assert p.0.0.0 (span_to s p.0.0.1) (span_to s p.0.1), p.1)

-- ---- statements with statements in them, after their first token

unfoldable pub stmts_at : Reader Stmt → Reader (List Stmt)
stmts_at stmt ts = until_at mark.BraceClose stmt (suc (length ts)) ts

abbrev pub block_from : Span → List Stmt × Span → Block
block_from s p = braces (all p.0) (span_to s p.1)

-- a block with its braces
unfoldable pub braced_at : Reader Stmt → Reader Block
braced_at stmt ts = both (mark_at mark.BraceOpen) (both (stmts_at stmt) (mark_at mark.BraceClose)) ts >>= λ p. Ok (block_from p.0.0 p.0.1, p.1)

unfoldable pub block_stmt_at : Reader Stmt → Reader Stmt
block_stmt_at stmt ts = braced_at stmt ts >>= λ b. Ok (block b.0, b.1)

abbrev pub if_from : Form → Span → Expr → Stmt → Option Stmt → Stmt
if_from f i x s None = if_then f x s (span_to i (span_of_stmt s))
if_from f i x s (Some t) = if_else f x s t (span_to i (span_of_stmt t))

unfoldable pub if_at : Reader Stmt → ℕ → Form → Span → Reader Stmt
if_at stmt n f i ts = both (test_at n) (both stmt (optional mark.Else stmt)) ts >>= λ p. Ok (if_from f i p.0.0 p.0.1.0 p.0.1.1, p.1)

abbrev pub while_from : Form → Span → Expr → Stmt → Stmt
while_from f w x s = loop_while f x s (span_to w (span_of_stmt s))

unfoldable pub while_at : Reader Stmt → ℕ → Form → Span → Reader Stmt
while_at stmt n f w ts = both (test_at n) stmt ts >>= λ p. Ok (while_from f w p.0.0 p.0.1, p.1)

abbrev pub do_from : Form → Span → Stmt → Expr → Span → Stmt
do_from f d s x e = loop_do f s x (span_to d e)

unfoldable pub do_at : Reader Stmt → ℕ → Form → Span → Reader Stmt
do_at stmt n f d ts = both stmt (do_end_at n) ts >>= λ p. Ok (do_from f d p.0.0 p.0.1.0 p.0.1.1, p.1)

abbrev pub for_from : Form → Span → Head → Stmt → Stmt
for_from f w h s = loop_for f h.first h.test h.step s (span_to w (span_of_stmt s))

unfoldable pub for_at : Reader Stmt → ℕ → Form → Span → Reader Stmt
for_at stmt n f w ts = both (head_at n) stmt ts >>= λ p. Ok (for_from f w p.0.0 p.0.1, p.1)

abbrev pub foreach_from : Tiling → Span → List Range → Stmt → Stmt
foreach_from t w rs s = foreach t w rs s (span_to w (span_of_stmt s))

unfoldable pub foreach_at : Reader Stmt → ℕ → Tiling → Span → Reader Stmt
foreach_at stmt n t w ts = both (ranges_head_at n) stmt ts >>= λ p. Ok (foreach_from t w p.0.0 p.0.1, p.1)

abbrev pub active_from : Span → Word → Stmt → Stmt
active_from w i s = foreach_active w i s (span_to w (span_of_stmt s))

unfoldable pub active_at : Reader Stmt → Span → Reader Stmt
active_at stmt w ts = both active_head_at stmt ts >>= λ p. Ok (active_from w p.0.0 p.0.1, p.1)

abbrev pub unique_from : Span → Word → Expr → Stmt → Stmt
unique_from w i x s = foreach_unique w i x s (span_to w (span_of_stmt s))

unfoldable pub unique_at : Reader Stmt → ℕ → Span → Reader Stmt
unique_at stmt n w ts = both (unique_head_at n) stmt ts >>= λ p. Ok (unique_from w p.0.0.0 p.0.0.1 p.0.1, p.1)

-- what stands before the body of a loop
pub data Heading : Type 0 where
  by_while : Form → Expr → Heading
  by_for : Form → Head → Heading
  by_foreach : Tiling → List Range → Heading
  by_active : Word → Heading
  by_unique : Word → Expr → Heading

abbrev pub heading_of : rust_heading.LoopHead → Heading
heading_of (heading.While f x) = by_while f (expr_of x.value)
heading_of (heading.For f h) = by_for f (head_of h)
heading_of (heading.Foreach t rs) = by_foreach t (map range_of rs.items)
heading_of (heading.ForeachActive i) = by_active i
heading_of (heading.ForeachUnique i x) = by_unique i (expr_of x.value)

abbrev pub heading_at : ℕ → Loop → Reader Heading
heading_at n (loops.While f) ts = test_at n ts >>= λ p. Ok (by_while f p.0, p.1)
heading_at n (loops.For f) ts = head_at n ts >>= λ p. Ok (by_for f p.0, p.1)
heading_at n (loops.Foreach t) ts = ranges_head_at n ts >>= λ p. Ok (by_foreach t p.0, p.1)
heading_at n loops.ForeachActive ts = active_head_at ts >>= λ p. Ok (by_active p.0, p.1)
heading_at n loops.ForeachUnique ts = unique_head_at n ts >>= λ p. Ok (by_unique p.0.0 p.0.1, p.1)

abbrev pub looped : Span → Heading → Stmt → Stmt
looped w (by_while f x) s = while_from f w x s
looped w (by_for f h) s = for_from f w h s
looped w (by_foreach t rs) s = foreach_from t w rs s
looped w (by_active i) s = active_from w i s
looped w (by_unique i x) s = unique_from w i x s

-- a loop whose body stands last
unfoldable pub loop_at : Reader Stmt → ℕ → Loop → Span → Reader Stmt
loop_at stmt n (loops.While f) w ts = while_at stmt n f w ts
loop_at stmt n (loops.For f) w ts = for_at stmt n f w ts
loop_at stmt n (loops.Foreach t) w ts = foreach_at stmt n t w ts
loop_at stmt n loops.ForeachActive w ts = active_at stmt w ts
loop_at stmt n loops.ForeachUnique w ts = unique_at stmt n w ts

abbrev pub unmasked_from : Span → Block → Stmt
unmasked_from u b = unmasked u b (span_to u (span_of_block b))

unfoldable pub unmasked_at : Reader Block → Span → Reader Stmt
unmasked_at blocks u ts = blocks ts >>= λ b. Ok (unmasked_from u b.0, b.1)

-- a statement with parts no deeper than the number, by what its first token says
abbrev pub stmt_from : Reader Stmt → Reader Block → ℕ → Start → Token → List Token → Read Stmt
stmt_from stmt blocks n by.Block t ts = block_stmt_at stmt (t ∷ ts)
stmt_from stmt blocks n by.Empty t ts = Ok (empty t.span, ts)
stmt_from stmt blocks n by.Declare t ts = declare_at n (t ∷ ts)
stmt_from stmt blocks n by.Simple t ts = simple_stmt_at n (t ∷ ts)
stmt_from stmt blocks n (by.If f) t ts = if_at stmt n f t.span ts
stmt_from stmt blocks n (by.While f) t ts = while_at stmt n f t.span ts
stmt_from stmt blocks n (by.Do f) t ts = do_at stmt n f t.span ts
stmt_from stmt blocks n (by.For f) t ts = for_at stmt n f t.span ts
stmt_from stmt blocks n (by.Foreach f) t ts = foreach_at stmt n f t.span ts
stmt_from stmt blocks n by.ForeachActive t ts = active_at stmt t.span ts
stmt_from stmt blocks n by.ForeachUnique t ts = unique_at stmt n t.span ts
stmt_from stmt blocks n by.Unmasked t ts = unmasked_at blocks t.span ts
stmt_from stmt blocks n (by.Jump j) t ts = jump_at j t.span ts
stmt_from stmt blocks n by.Return t ts = return_at n t.span ts
stmt_from stmt blocks n by.Print t ts = print_at n t.span ts
stmt_from stmt blocks n by.Assert t ts = assert_at n t.span ts
stmt_from stmt blocks n by.Nothing t ts = refuse Unexpected (t ∷ ts)

unfoldable pub stmt_by : Reader Stmt → Reader Block → ℕ → Reader Stmt
stmt_by stmt blocks n [] = refuse Unexpected []
stmt_by stmt blocks n (t ∷ ts) = stmt_from stmt blocks n (start_of t.kind) t ts

unfoldable mutual
  -- a statement no deeper than the number
  pub stmt_at : ℕ → Reader Stmt
  stmt_at zero ts = at_limit begins_stmt ts
  stmt_at (suc n) ts = stmt_by (stmt_at n) (block_at n) n ts

  -- a block no deeper than the number
  pub block_at : ℕ → Reader Block
  block_at zero ts = at_limit (is_mark mark.BraceOpen) ts
  block_at (suc n) ts = braced_at (stmt_at n) ts
