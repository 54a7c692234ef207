-- What the code of a body asks for is little by its nodes: no number is too great, and there are few registers. The constants that
-- a function keeps ask for no more than their code has instructions.
use Rattle.std.proofs.Common.{◌≡◌, ℕ, suc, ◌+◌, ◌*◌, ◌<◌, ◌≤◌, List, [], ◌∷◌, length, Option, Some, None, arith}
use Rattle.std.specs.List.{All}
use Rattle.isp_base.specs.declared.types.Elem.{Elem}
use Rattle.isp_base.specs.declared.types.Elem.TheVariants.{Bool as Truth}
use Rattle.isp_base.specs.declared.types.Rate.{Rate}
use Rattle.isp_base.specs.declared.types.Rate.TheVariants.{Uniform, Varying}
use Rattle.isp_base.specs.declared.types.Ty.{Ty}
use Rattle.isp_tree.specs.Nodes.{nodes_of_option, nodes_of_all}
use Rattle.isp_tree.specs.Sound.{IfAny}
use Rattle.isp_tree.specs.declared.stmt.Form.{Form}
use Rattle.isp_tree.specs.declared.stmt.Form.TheVariants.{Plain, Coherent}
use Rattle.isp_typed.specs.Fine.{FineExpr, FineItem, FineValue, FineSimple, FineFirst, FineRange, FineReturned, FineStmt, FineBlock, FineStmts}
use Rattle.isp_typed.specs.Nodes.{typed_nodes, exprs_nodes, item_nodes, first_nodes, step_nodes, range_nodes, stmt_nodes, block_nodes, stmts_nodes}
use Rattle.isp_typed.specs.Typed.{TFunction, TExpr, t_exprs, type_of, TItem, TSimple, TFirst, t_first_declare, t_first_simple, TRange, TStmt, t_block, t_declare, t_simple, t_if, t_if_else, t_while, t_do, t_for, t_foreach}
use Rattle.isp_typed.specs.Typed.{t_foreach_active, t_foreach_unique, t_unmasked, t_jump, t_return, t_print, t_assert, TBlock, t_braces, TStmts, t_no_stmts, t_stmt_then}
use Rattle.isp_typed.specs.declared.variable.Variable.{Variable}
use Rattle.isp_lower_code.specs.Asks.{items_asks}
use Rattle.isp_lower_code.specs.Room.{HasNumbers, registers_asked}
use Rattle.isp_lower_code.specs.declared.constant.Constant.{Constant}
use Rattle.isp_lower_code.proofs.Lemmas.{expr_some, test_numbers, expr_numbers, operand_numbers, index_numbers, shown_numbers, simple_numbers, item_numbers}
use Rattle.isp_lower_code.proofs.Lemmas.{test_none, expr_registers, operand_registers, index_registers, values_registers, simple_registers, item_registers}
use Rattle.isp_masks_code.specs.Asks.{answer_asks, assert_asks, block_asks, stmt_asks, stmts_asks, loop_asks, part_asks, part_slot, parts_slot, bounds_asks, first_asks, measures_asks, places_asks, ranges_asks, step_asks, test_part_asks, turn_asks, unique_asks}
use Rattle.isp_masks_code.specs.Keeping.{constants_asks, keep_steps, steps_at}
use Rattle.isp_masks_code.specs.Prints.{own_rates}
use Rattle.isp_masks_code.specs.Ranges.{places_slot, runs_slot}

-- ---- the constants that are kept

pub constants_numbers : (n : ℕ) (ks : List Constant) → n < 4294967295 → HasNumbers (constants_asks n ks)
constants_numbers n [] low = tt
constants_numbers n (x ∷ xs) low = (low, (tt, constants_numbers n xs low))

step_some : (r : Rate) → 1 ≤ steps_at r
step_some Uniform = omega arith
step_some Varying = omega arith

pub constants_registers : (n : ℕ) (ks : List Constant) → registers_asked (constants_asks n ks) ≤ keep_steps ks
constants_registers n [] = omega arith
constants_registers n (x ∷ xs) = omega (arith, step_some x.rate, constants_registers n xs)

-- ---- masks of a test and of a loop, and the slots after them

loop_numbers : (n : ℕ) → n + 3 < 4294967295 → HasNumbers (loop_asks n)
loop_numbers n low = (omega (arith, low), (omega (arith, low), (omega (arith, low), omega (arith, low))))

part_numbers : (f : Form) (r : Rate) (n : ℕ) → n + 2 < 4294967295 → HasNumbers (part_asks f r n)
part_numbers f Uniform n low = tt
part_numbers Plain Varying n low = (omega (arith, low), omega (arith, low))
part_numbers Coherent Varying n low = ((omega (arith, low), omega (arith, low)), (omega (arith, low), omega (arith, low)))

part_near : (f : Form) (r : Rate) (n : ℕ) → part_slot f r n ≤ n + 2
part_near f Uniform n = omega arith
part_near Plain Varying n = omega arith
part_near Coherent Varying n = omega arith

part_none : (f : Form) (r : Rate) (n : ℕ) → registers_asked (part_asks f r n) ≡ 0
part_none f Uniform n = omega arith
part_none Plain Varying n = omega arith
part_none Coherent Varying n = omega arith

-- ---- nodes

shown_nodes : (xs : List TExpr) → exprs_nodes (t_exprs xs) ≡ nodes_of_all typed_nodes xs
shown_nodes [] = omega arith
shown_nodes (x ∷ xs) = omega (arith, shown_nodes xs)

ranges_some : (rs : List TRange) → 3 * length rs ≤ nodes_of_all range_nodes rs
ranges_some [] = omega arith
ranges_some (r ∷ rs) = omega (arith, expr_some r.start, expr_some r.end, ranges_some rs)

-- ---- no number is too great

module _ (fs : List TFunction) (vars : List Variable) (few : length fs ≤ 16777216) where
  pub items_numbers : (xs : List TItem) (n : ℕ) → All (FineItem fs vars) xs → n + 4 * nodes_of_all item_nodes xs ≤ 4294967200 → HasNumbers (items_asks n xs)
  items_numbers [] n f low = tt
  items_numbers (x ∷ xs) n f low =
      let first = item_numbers fs vars few x n (f 0 x (omega arith)) (omega (arith, low)) in
      (first, items_numbers xs n (λ k d lt. f (suc k) d (omega (arith, lt))) (omega (arith, low)))

  first_numbers : (o : Option TFirst) (n : ℕ) → IfAny (FineFirst fs vars) o → n + 4 * nodes_of_option first_nodes o + 8 ≤ 4294967200 → HasNumbers (first_asks o n)
  first_numbers None n f low = tt
  first_numbers (Some (t_first_declare xs s)) n f low = items_numbers xs n f (omega (arith, low))
  first_numbers (Some (t_first_simple x)) n f low = simple_numbers fs vars few x n f (omega (arith, low))

  test_part_numbers : (o : Option TExpr) (n : ℕ) → IfAny (FineValue fs vars Truth) o → n + 4 * nodes_of_option typed_nodes o ≤ 4294967200 → HasNumbers (test_part_asks o n)
  test_part_numbers None n f low = tt
  test_part_numbers (Some e) n f low = expr_numbers fs vars few e n f.0 low

  step_numbers : (o : Option TSimple) (n : ℕ) → IfAny (FineSimple fs vars) o → n + 4 * nodes_of_option step_nodes o + 8 ≤ 4294967200 → HasNumbers (step_asks o n)
  step_numbers None n f low = tt
  step_numbers (Some x) n f low = simple_numbers fs vars few x n f (omega (arith, low))

  bounds_numbers : (rs : List TRange) (n : ℕ) → All (FineRange fs vars) rs → n + 4 * nodes_of_all range_nodes rs ≤ 4294967200 → HasNumbers (bounds_asks rs n)
  bounds_numbers [] n f low = tt
  bounds_numbers (r ∷ rs) n f low =
      let g = f 0 r (omega arith) in
      let start = index_numbers fs vars few Uniform r.start n g.start.0 (omega (arith, low)) in
      let end = index_numbers fs vars few Uniform r.end (n + 1) g.end.0 (omega (arith, low)) in
      let rest = bounds_numbers rs (n + 1 + 1) (λ k d lt. f (suc k) d (omega (arith, lt))) (omega (arith, low)) in
      ((tt, start), (omega (arith, low), ((tt, end), (omega (arith, low), rest))))

  places_numbers : (rs : List TRange) (n : ℕ) → n + 2 * length rs ≤ 4294967200 → HasNumbers (places_asks rs n)
  places_numbers [] n low = tt
  places_numbers (r ∷ rs) n low =
      ((tt, (tt, (omega (arith, low), (tt, (tt, (tt, (tt, tt))))))), (omega (arith, low), places_numbers rs (n + 1 + 1) (omega (arith, low))))

  measures_numbers : (n : ℕ) → n + 2 < 4294967295 → HasNumbers (measures_asks n)
  measures_numbers n low = (tt, (tt, (tt, (omega (arith, low), (tt, (tt, (tt, omega (arith, low))))))))

  ranges_numbers : (rs : List TRange) (n : ℕ) → All (FineRange fs vars) rs → n + 4 * nodes_of_all range_nodes rs + 8 ≤ 4294967200 → HasNumbers (ranges_asks rs n)
  ranges_numbers rs n f low =
      let some = ranges_some rs in
      let bounds = bounds_numbers rs (n + 1 + 1) f (omega (arith, low)) in
      let places = places_numbers rs (places_slot n rs) (omega (arith, low, some)) in
      (measures_numbers n (omega (arith, low)), (bounds, (places, loop_numbers (runs_slot n rs) (omega (arith, low, some)))))

  turn_numbers : (i n : ℕ) → n + 4 < 4294967200 → HasNumbers (turn_asks i n)
  turn_numbers i n low = (tt, (omega (arith, low), (omega (arith, low), loop_numbers (n + 1) (omega (arith, low)))))

  unique_numbers : (i : ℕ) (t : Elem) (e : TExpr) (n : ℕ) → FineExpr fs vars e → n + 4 * typed_nodes e + 8 ≤ 4294967200 → HasNumbers (unique_asks i t e n)
  unique_numbers i t e n f low =
      let value = operand_numbers fs vars few Varying e n f (omega (arith, low)) in
      let loop = loop_numbers (n + 1) (omega (arith, low)) in
      (value, (tt, (tt, (omega (arith, low), ((tt, (tt, (omega (arith, low), tt))), (omega (arith, low), loop))))))

  assert_numbers : (x : TExpr) (n : ℕ) → FineExpr fs vars x → n + 4 * typed_nodes x ≤ 4294967200 → HasNumbers (assert_asks x n)
  assert_numbers x n f low = (expr_numbers fs vars few x n f low, test_numbers (type_of x).rate n (omega (arith, low)))

  answer_numbers : (answer : Option Ty) (x : TExpr) (n : ℕ) → FineReturned fs vars answer (Some x) → n + 4 * typed_nodes x ≤ 4294967200 → HasNumbers (answer_asks answer x n)
  answer_numbers None x n f low = absurd f
  answer_numbers (Some t) x n f low = (tt, operand_numbers fs vars few t.rate x n f.0 low)

  module _ (answer : Option Ty) where
    mutual
      stmt_numbers : (x : TStmt) (n : ℕ) → FineStmt fs vars answer x → n + 16 * stmt_nodes x ≤ 4294967200 → HasNumbers (stmt_asks answer x n)
      stmt_numbers (t_block b) n f low = block_numbers b n f low
      stmt_numbers (t_declare xs s) n f low = items_numbers xs n f (omega (arith, low))
      stmt_numbers (t_simple x s) n f low = simple_numbers fs vars few x n f (omega (arith, low))
      stmt_numbers (t_if k m e x s) n f low =
          let r = (type_of e).rate in
          let test = expr_numbers fs vars few e n f.1.0 (omega (arith, low)) in
          let then = stmt_numbers x (part_slot k r n) f.2 (omega (arith, low, part_near k r n)) in
          (test, (part_numbers k r n (omega (arith, low)), then))
      stmt_numbers (t_if_else k m e x y s) n f low =
          let r = (type_of e).rate in
          let near = part_near Coherent r n in
          let test = expr_numbers fs vars few e n f.1.0 (omega (arith, low)) in
          let then = stmt_numbers x (parts_slot r n) f.2 (omega (arith, low, near)) in
          let other = stmt_numbers y (parts_slot r n) f.3 (omega (arith, low, near)) in
          (test, (part_numbers Coherent r n (omega (arith, low)), (then, other)))
      stmt_numbers (t_while k m e x s) n f low =
          let test = expr_numbers fs vars few e (n + 3) f.1.0 (omega (arith, low)) in
          (loop_numbers n (omega (arith, low)), (test, stmt_numbers x (n + 3) f.2 (omega (arith, low))))
      stmt_numbers (t_do k m x e s) n f low =
          let test = expr_numbers fs vars few e (n + 3) f.2.0 (omega (arith, low)) in
          (loop_numbers n (omega (arith, low)), (stmt_numbers x (n + 3) f.1 (omega (arith, low)), test))
      stmt_numbers (t_for k m first e step i x s) n f low =
          let begin = first_numbers first n f.2 (omega (arith, low)) in
          let test = test_part_numbers e (n + 3) f.3 (omega (arith, low)) in
          let last = step_numbers step (n + 3) f.4 (omega (arith, low)) in
          (begin, (loop_numbers n (omega (arith, low)), (test, (last, stmt_numbers x (n + 3) f.5 (omega (arith, low))))))
      stmt_numbers (t_foreach w m rs x s) n f low =
          (ranges_numbers rs n f.1 (omega (arith, low)), stmt_numbers x (runs_slot n rs + 3) f.2 (omega (arith, low, ranges_some rs)))
      stmt_numbers (t_foreach_active w m i x s) n f low = (turn_numbers i n (omega (arith, low)), stmt_numbers x (n + 1 + 3) f.2 (omega (arith, low)))
      stmt_numbers (t_foreach_unique w m i t e x s) n f low =
          (unique_numbers i t e n f.2.0 (omega (arith, low)), stmt_numbers x (n + 1 + 3) f.3 (omega (arith, low)))
      stmt_numbers (t_unmasked w b s) n f low = (loop_numbers n (omega (arith, low)), block_numbers b (n + 3) f (omega (arith, low)))
      stmt_numbers (t_jump j w s) n f low = tt
      stmt_numbers (t_return w None s) n f low = tt
      stmt_numbers (t_return w (Some x) s) n f low = answer_numbers answer x n f (omega (arith, low))
      stmt_numbers (t_print w text xs s) n f low = shown_numbers fs vars few (own_rates xs) xs n f.1 (omega (arith, low, shown_nodes xs))
      stmt_numbers (t_assert x c s) n f low = assert_numbers x n f.0.0 (omega (arith, low))

      pub block_numbers : (b : TBlock) (n : ℕ) → FineBlock fs vars answer b → n + 16 * block_nodes b ≤ 4294967200 → HasNumbers (block_asks answer b n)
      block_numbers (t_braces xs s) n f low = stmts_numbers xs n f (omega (arith, low))

      stmts_numbers : (xs : TStmts) (n : ℕ) → FineStmts fs vars answer xs → n + 16 * stmts_nodes xs ≤ 4294967200 → HasNumbers (stmts_asks answer xs n)
      stmts_numbers t_no_stmts n f low = tt
      stmts_numbers (t_stmt_then x xs) n f low = (stmt_numbers x n f.0 (omega (arith, low)), stmts_numbers xs n f.1 (omega (arith, low)))

-- ---- there are few registers

pub items_registers : (xs : List TItem) (n : ℕ) → registers_asked (items_asks n xs) ≤ 8 * nodes_of_all item_nodes xs
items_registers [] n = omega arith
items_registers (x ∷ xs) n = omega (arith, item_registers x n, items_registers xs n)

first_registers : (o : Option TFirst) (n : ℕ) → registers_asked (first_asks o n) ≤ 8 * nodes_of_option first_nodes o
first_registers None n = omega arith
first_registers (Some (t_first_declare xs s)) n = omega (arith, items_registers xs n)
first_registers (Some (t_first_simple x)) n = omega (arith, simple_registers x n)

test_part_registers : (o : Option TExpr) (n : ℕ) → registers_asked (test_part_asks o n) ≤ 8 * nodes_of_option typed_nodes o
test_part_registers None n = omega arith
test_part_registers (Some e) n = expr_registers e n

step_registers : (o : Option TSimple) (n : ℕ) → registers_asked (step_asks o n) ≤ 8 * nodes_of_option step_nodes o
step_registers None n = omega arith
step_registers (Some x) n = omega (arith, simple_registers x n)

bounds_registers : (rs : List TRange) (n : ℕ) → registers_asked (bounds_asks rs n) ≤ 8 * nodes_of_all range_nodes rs
bounds_registers [] n = omega arith
bounds_registers (r ∷ rs) n = omega (arith, index_registers Uniform r.start n, index_registers Uniform r.end (n + 1), bounds_registers rs (n + 1 + 1))

places_registers : (rs : List TRange) (n : ℕ) → registers_asked (places_asks rs n) ≡ 7 * length rs
places_registers [] n = omega arith
places_registers (r ∷ rs) n = omega (arith, places_registers rs (n + 1 + 1))

ranges_registers : (rs : List TRange) (n : ℕ) → registers_asked (ranges_asks rs n) ≤ 11 * nodes_of_all range_nodes rs + 6
ranges_registers rs n = omega (arith, ranges_some rs, bounds_registers rs (n + 1 + 1), places_registers rs (places_slot n rs))

unique_registers : (i : ℕ) (t : Elem) (e : TExpr) (n : ℕ) → registers_asked (unique_asks i t e n) ≤ 8 * typed_nodes e + 5
unique_registers i t e n = omega (arith, operand_registers Varying e n)

answer_registers : (answer : Option Ty) (x : TExpr) (n : ℕ) → registers_asked (answer_asks answer x n) ≤ 8 * typed_nodes x + 1
answer_registers None x n = omega (arith, expr_registers x n)
answer_registers (Some t) x n = omega (arith, operand_registers t.rate x n)

module _ (answer : Option Ty) where
  mutual
    stmt_few : (x : TStmt) (n : ℕ) → registers_asked (stmt_asks answer x n) ≤ 11 * stmt_nodes x
    stmt_few (t_block b) n = block_few b n
    stmt_few (t_declare xs s) n = omega (arith, items_registers xs n)
    stmt_few (t_simple x s) n = omega (arith, simple_registers x n)
    stmt_few (t_if k m e x s) n =
        let r = (type_of e).rate in
        omega (arith, expr_registers e n, part_none k r n, stmt_few x (part_slot k r n))
    stmt_few (t_if_else k m e x y s) n =
        let r = (type_of e).rate in
        omega (arith, expr_registers e n, part_none Coherent r n, stmt_few x (parts_slot r n), stmt_few y (parts_slot r n))
    stmt_few (t_while k m e x s) n = omega (arith, expr_registers e (n + 3), stmt_few x (n + 3))
    stmt_few (t_do k m x e s) n = omega (arith, expr_registers e (n + 3), stmt_few x (n + 3))
    stmt_few (t_for k m first e step i x s) n =
        omega (arith, first_registers first n, test_part_registers e (n + 3), step_registers step (n + 3), stmt_few x (n + 3))
    stmt_few (t_foreach w m rs x s) n = omega (arith, ranges_registers rs n, stmt_few x (runs_slot n rs + 3))
    stmt_few (t_foreach_active w m i x s) n = omega (arith, stmt_few x (n + 1 + 3))
    stmt_few (t_foreach_unique w m i t e x s) n = omega (arith, unique_registers i t e n, stmt_few x (n + 1 + 3))
    stmt_few (t_unmasked w b s) n = omega (arith, block_few b (n + 3))
    stmt_few (t_jump j w s) n = omega arith
    stmt_few (t_return w None s) n = omega arith
    stmt_few (t_return w (Some x) s) n = omega (arith, answer_registers answer x n)
    stmt_few (t_print w text xs s) n = omega (arith, values_registers (own_rates xs) (t_exprs xs) n, shown_nodes xs)
    stmt_few (t_assert x c s) n = omega (arith, expr_registers x n, test_none (type_of x).rate n)

    block_few : (b : TBlock) (n : ℕ) → registers_asked (block_asks answer b n) ≤ 11 * block_nodes b
    block_few (t_braces xs s) n = omega (arith, stmts_few xs n)

    stmts_few : (xs : TStmts) (n : ℕ) → registers_asked (stmts_asks answer xs n) ≤ 11 * stmts_nodes xs
    stmts_few t_no_stmts n = omega arith
    stmts_few (t_stmt_then x xs) n = omega (arith, stmt_few x n, stmts_few xs n)

  pub block_registers : (b : TBlock) (n : ℕ) → registers_asked (block_asks answer b n) ≤ 64 * block_nodes b
  block_registers b n = omega (arith, block_few b n)
