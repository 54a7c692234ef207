-- What the code of statements asks for: what its parts ask for, the result's register where a value is returned, for a
-- varying test a mask and a slot after it, in a c-form and with an `else` two, and for a loop three masks and slots after them.
use Rattle.std.specs.Prelude.{ℕ, ◌+◌, List, [], ◌∷◌, Option, Some, None}
use Rattle.isp_base.specs.declared.types.Elem.{Elem}
use Rattle.isp_base.specs.declared.types.Elem.TheVariants.{Bool as Truth, I32, I64}
use Rattle.isp_base.specs.declared.types.Rate.{Rate}
use Rattle.isp_base.specs.declared.types.Rate.TheVariants.{Uniform, Varying}
use Rattle.isp_base.specs.declared.types.Ty.{Ty}
use Rattle.isp_tree.specs.declared.stmt.Form.{Form}
use Rattle.isp_tree.specs.declared.stmt.Form.TheVariants.{Plain, Coherent}
use Rattle.isp_typed.specs.Typed.{TExpr, t_exprs, type_of, elem_of, TSimple, TFirst, t_first_declare, t_first_simple, TRange, TStmt, t_block, t_declare, t_simple, t_if, t_if_else, t_while, t_do, t_for, t_foreach}
use Rattle.isp_typed.specs.Typed.{t_foreach_active, t_foreach_unique, t_unmasked, t_jump, t_return, t_print, t_assert, TBlock, t_braces, TStmts, t_no_stmts, t_stmt_then}
use Rattle.isp_lower_code.specs.Asks.{Ask, Nothing, Both, Register, MaskOf, Number, expr_asks, index_asks, operand_asks, simple_asks, spare_ask, items_asks, test_asks, values_asks}
use Rattle.isp_lower_code.specs.Rows.{Result, Variable, Place}
use Rattle.isp_masks_code.specs.Prints.{own_rates}
use Rattle.isp_masks_code.specs.Ranges.{places_slot, runs_slot}

-- a mask, and the slot after it
abbrev pub mask_asks : ℕ → Ask
mask_asks n = Both (Number (n + 1)) (MaskOf n)

-- the parts after a test: by a varying one they keep a mask, in a c-form two
abbrev pub part_asks : Form → Rate → ℕ → Ask
part_asks f Uniform n = Nothing
part_asks Plain Varying n = mask_asks n
part_asks Coherent Varying n = Both (mask_asks n) (mask_asks (n + 1))

-- the slot where they begin
abbrev pub part_slot : Form → Rate → ℕ → ℕ
part_slot f Uniform n = n
part_slot Plain Varying n = n + 1
part_slot Coherent Varying n = n + 1 + 1

-- two parts keep two in each form
abbrev pub parts_asks : Rate → ℕ → Ask
parts_asks r n = part_asks Coherent r n

abbrev pub parts_slot : Rate → ℕ → ℕ
parts_slot r n = part_slot Coherent r n

-- what is returned is wanted at the rate of what the function gives, and stands where results do
abbrev pub answer_asks : Option Ty → TExpr → ℕ → Ask
answer_asks None x n = expr_asks x n
answer_asks (Some t) x n = Both (Register t.rate Result t.elem) (operand_asks t.rate x n)

-- a loop's own masks, after which its parts have their slots
abbrev pub loop_asks : ℕ → Ask
loop_asks n = Both (Number (n + 3)) (Both (MaskOf n) (Both (MaskOf (n + 1)) (MaskOf (n + 2))))

-- the index, those whose turn is still to come, and the masks of a turn
abbrev pub turn_asks : ℕ → ℕ → Ask
turn_asks i n = Both (Register Uniform (Variable i) I64) (Both (Number (n + 1)) (Both (MaskOf n) (loop_asks (n + 1))))

-- the values and their copy; the index; the value of a turn, there and in each lane, and who has it; those whose turn is still to come,
-- and the masks of a turn
abbrev pub unique_asks : ℕ → Elem → TExpr → ℕ → Ask
unique_asks i t e n =
    let u = elem_of e in
    let turn = Both (spare_ask Uniform u (n + 1)) (Both (spare_ask Varying u (n + 1)) (Both (Number (n + 1 + 1)) (spare_ask Varying Truth (n + 1 + 1)))) in
    Both (operand_asks Varying e n) (Both (spare_ask Varying u n) (Both (Register Uniform (Variable i) t) (Both (Number (n + 1)) (Both turn (Both (MaskOf n) (loop_asks (n + 1)))))))

-- ---- `foreach`: what all runs use; the bounds, each as int64; and for each range its index, its place and what its test gives

abbrev pub measures_asks : ℕ → Ask
measures_asks n =
    Both (spare_ask Uniform I32 n) (Both (spare_ask Varying I32 n)
    (Both (spare_ask Uniform I64 n) (Both (Number (n + 1))
    (Both (spare_ask Uniform I32 (n + 1)) (Both (spare_ask Varying I32 (n + 1)) (Both (spare_ask Uniform I64 (n + 1)) (Number (n + 1 + 1))))))))

abbrev pub bound_asks : TExpr → ℕ → Ask
bound_asks x n = Both (spare_ask Uniform I64 n) (index_asks Uniform x n (expr_asks x n))

abbrev pub bounds_asks : List TRange → ℕ → Ask
bounds_asks [] n = Nothing
bounds_asks (r ∷ rs) n =
    Both (bound_asks r.start n) (Both (Number (n + 1)) (Both (bound_asks r.end (n + 1)) (Both (Number (n + 1 + 1)) (bounds_asks rs (n + 1 + 1)))))

abbrev pub place_asks : TRange → ℕ → Ask
place_asks r m =
    Both (Register Varying (Variable r.index) I32) (Both (spare_ask Uniform I64 m)
    (Both (Number (m + 1)) (Both (spare_ask Uniform I32 (m + 1))
    (Both (spare_ask Varying I32 (m + 1)) (Both (spare_ask Uniform Truth (m + 1)) (Both (spare_ask Uniform I64 (m + 1)) (Register Uniform Place I64)))))))

abbrev pub places_asks : List TRange → ℕ → Ask
places_asks [] m = Nothing
places_asks (r ∷ rs) m = Both (place_asks r m) (Both (Number (m + 1 + 1)) (places_asks rs (m + 1 + 1)))

-- besides the body
abbrev pub ranges_asks : List TRange → ℕ → Ask
ranges_asks rs n =
    Both (measures_asks n) (Both (bounds_asks rs (n + 1 + 1)) (Both (places_asks rs (places_slot n rs)) (loop_asks (runs_slot n rs))))

-- ---- loops

-- the parts of a `for` that may be left out
abbrev pub first_asks : Option TFirst → ℕ → Ask
first_asks None n = Nothing
first_asks (Some (t_first_declare xs sp)) n = items_asks n xs
first_asks (Some (t_first_simple x)) n = simple_asks x n

abbrev pub test_part_asks : Option TExpr → ℕ → Ask
test_part_asks None n = Nothing
test_part_asks (Some e) n = expr_asks e n

abbrev pub step_asks : Option TSimple → ℕ → Ask
step_asks None n = Nothing
step_asks (Some x) n = simple_asks x n

-- the register of what a function gives back
abbrev pub result_asks : Option Ty → Ask
result_asks None = Nothing
result_asks (Some t) = Register t.rate Result t.elem

-- ---- statements, given what their parts ask for in a slot

abbrev pub if_asks : Form → TExpr → ℕ → (ℕ → Ask) → Ask
if_asks f e n parts =
    Both (expr_asks e n) (Both (part_asks f (type_of e).rate n) (parts (part_slot f (type_of e).rate n)))

abbrev pub if_else_asks : TExpr → ℕ → (ℕ → Ask) → Ask
if_else_asks e n parts =
    Both (expr_asks e n) (Both (parts_asks (type_of e).rate n) (parts (parts_slot (type_of e).rate n)))

-- a `for` after its first part
abbrev pub turns_asks : Option TExpr → Option TSimple → ℕ → (ℕ → Ask) → Ask
turns_asks e step n body =
    Both (loop_asks n) (Both (test_part_asks e (n + 3)) (Both (step_asks step (n + 3)) (body (n + 3))))

-- the test of an `assert`, and a mask for those for which it is false
abbrev pub assert_asks : TExpr → ℕ → Ask
assert_asks x n = Both (expr_asks x n) (test_asks (type_of x).rate n)

module _ (answer : Option Ty) where
  abbrev mutual
    pub stmt_asks : TStmt → ℕ → Ask
    stmt_asks (t_block b) n = block_asks b n
    stmt_asks (t_declare xs sp) n = items_asks n xs
    stmt_asks (t_simple x sp) n = simple_asks x n
    stmt_asks (t_if f g e x sp) n = if_asks f e n (λ i. stmt_asks x i)
    stmt_asks (t_if_else f g e x y sp) n = if_else_asks e n (λ i. Both (stmt_asks x i) (stmt_asks y i))
    stmt_asks (t_while f g e x sp) n = Both (loop_asks n) (Both (expr_asks e (n + 3)) (stmt_asks x (n + 3)))
    stmt_asks (t_do f g x e sp) n = Both (loop_asks n) (Both (stmt_asks x (n + 3)) (expr_asks e (n + 3)))
    stmt_asks (t_for f g first e step i x sp) n =
        Both (first_asks first n) (turns_asks e step n (λ j. stmt_asks x j))
    stmt_asks (t_foreach k g rs x sp) n = Both (ranges_asks rs n) (stmt_asks x (runs_slot n rs + 3))
    stmt_asks (t_foreach_active k g i x sp) n = Both (turn_asks i n) (stmt_asks x (n + 1 + 3))
    stmt_asks (t_foreach_unique k g i t e x sp) n = Both (unique_asks i t e n) (stmt_asks x (n + 1 + 3))
    stmt_asks (t_unmasked k b sp) n = Both (loop_asks n) (block_asks b (n + 3))
    stmt_asks (t_jump j k sp) n = Nothing
    stmt_asks (t_return k None sp) n = Nothing
    stmt_asks (t_return k (Some x) sp) n = answer_asks answer x n
    stmt_asks (t_print k text xs sp) n = values_asks (own_rates xs) (t_exprs xs) n
    stmt_asks (t_assert x c sp) n = assert_asks x n

    pub block_asks : TBlock → ℕ → Ask
    block_asks (t_braces xs sp) n = stmts_asks xs n

    pub stmts_asks : TStmts → ℕ → Ask
    stmts_asks t_no_stmts n = Nothing
    stmts_asks (t_stmt_then x xs) n = Both (stmt_asks x n) (stmts_asks xs n)
