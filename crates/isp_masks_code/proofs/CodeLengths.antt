-- The code of statements and of functions is short: it has at most 128 instructions for each node of their trees, and as many for one
-- that stands once more. It names at most 4 places for each, and at most one text.
use Rattle.std.proofs.Common.{◌≡◌, ℕ, ◌+◌, ◌*◌, ◌≤◌, List, [], ◌∷◌, ◌++◌, length, Bool, true, false, Option, Some, None, refl, ap, arith, length-append}
use Rattle.std.specs.List.{count_by}
use Rattle.std.specs.Prelude.{◌==◌}
use Rattle.isp_base.specs.Prints.{percent}
use Rattle.isp_base.specs.declared.types.Rate.TheVariants.{Uniform, Varying}
use Rattle.isp_base.specs.declared.types.Ty.{Ty}
use Rattle.isp_code.specs.declared.instr.Instr.{Instr}
use Rattle.isp_code.specs.declared.instr.Instr.TheVariants as instr
use Rattle.isp_tree.specs.Nodes.{nodes_of_all, nodes_of_option}
use Rattle.isp_typed.specs.Fine.{FineStmt, FineBlock, FineStmts}
use Rattle.isp_typed.specs.Nodes.{typed_nodes, place_nodes, exprs_nodes, first_nodes, step_nodes, range_nodes, stmt_nodes, block_nodes, stmts_nodes}
use Rattle.isp_typed.specs.Typed.{TFunction, TExpr, t_constant, t_program_index, t_place, t_convert, t_cast, t_unary, t_binary, t_compare, t_logic, t_choose, t_call, t_library, t_packed_store, t_packed_load}
use Rattle.isp_typed.specs.Typed.{TPlace, t_variable, t_element, t_called, t_exprs, type_of, elem_of, TSimple, TFirst, t_first_declare, t_first_simple, TRange}
use Rattle.isp_typed.specs.Typed.{TStmt, t_block, t_declare, t_simple, t_if, t_if_else, t_while, t_do, t_for, t_foreach, t_foreach_active, t_foreach_unique, t_unmasked, t_jump}
use Rattle.isp_typed.specs.Typed.{t_return, t_print, t_assert, TBlock, t_braces, TStmts, t_no_stmts, t_stmt_then}
use Rattle.isp_typed.specs.declared.variable.Variable.{Variable}
use Rattle.isp_lower_code.specs.Code.{expr_code, value_registers, values_code}
use Rattle.isp_lower_code.specs.Found.{found, operand, operand_of}
use Rattle.isp_lower_code.specs.Instructions.{copy}
use Rattle.isp_lower_code.specs.Layout.{Layout, outside}
use Rattle.isp_lower_code.specs.RowLayout.{KnownRows}
use Rattle.isp_lower_code.specs.Spans.{expr_places}
use Rattle.isp_steady.specs.Indices.{indices_of, known_indices}
use Rattle.isp_lower_code.specs.declared.constant.Constant.{Constant}
use Rattle.isp_lower_code.proofs.Lemmas.{RowsShort, known_rows, expr_long, operand_long, index_long, values_long, simple_long, items_long, expr_places_few, values_places_few, simple_places_few, items_places_few}
use Rattle.isp_masks_code.specs.Asserts.{fails_code}
use Rattle.isp_masks_code.specs.Exits.{all_go_on, both_go_on, exits_of, leaving_of}
use Rattle.isp_masks_code.specs.Fors.{first_code, step_code, first_places, test_places, step_places}
use Rattle.isp_masks_code.specs.Keeping.{constants_code, keep_steps}
use Rattle.isp_masks_code.specs.Loops.{endless_code, for_code, is_wide, no_code}
use Rattle.isp_masks_code.specs.Prints.{own_rates, parts, parts_code, print_code}
use Rattle.isp_masks_code.specs.Again.{block_again, stmt_again, stmts_again}
use Rattle.isp_masks_code.specs.Ranges.{RunBodies, bound_code, bounds_code, foreach_code, measures_code, places_slot, ranges_code, ranges_places, runs_slot, set_bodies}
use Rattle.isp_masks_code.specs.Rounds.{values_of}
use Rattle.isp_masks_code.specs.Sets.{leave_code}
use Rattle.isp_masks_code.specs.Spots.{Numbers, Spot, body_spot, first_spot, past}
use Rattle.isp_masks_code.specs.Statements.{answer_code, behind, run_bodies, function_code, if_code, if_else_code, rest_code, test_place, block_code, block_places, block_texts, body_layout, returned, stmt_code, stmt_places, stmt_texts, stmts_code, stmts_places, stmts_texts}
use Rattle.isp_masks_code.proofs.Bodies.{body_as, run_as}
use Rattle.isp_masks_code.proofs.ConstantBodies.{constants_short}
use Rattle.isp_masks_code.proofs.PieceLengths.{Most, jump_long, fails_long, if_long, if_else_long, do_long, for_long, endless_long, active_long, unique_long, ranges_long, set_long}
use Rattle.isp_masks_code.proofs.Prints.{parts_counted, words_counted}
use Rattle.isp_masks_code.proofs.FewVariables.{ranges_low}

-- ---- values: each has a node at least

place_some : (p : TPlace) → 1 ≤ place_nodes p
place_some (t_variable v t s) = omega arith
place_some (t_element a i t s) = omega arith

value_some : (x : TExpr) → 1 ≤ typed_nodes x
value_some (t_constant v s) = omega arith
value_some (t_program_index s) = omega arith
value_some (t_place p) = place_some p
value_some (t_convert e x) = omega arith
value_some (t_cast x t s) = omega arith
value_some (t_unary op x t s) = omega arith
value_some (t_binary op x y t s) = omega arith
value_some (t_compare c x y r s) = omega arith
value_some (t_logic g x y r s) = omega arith
value_some (t_choose c x y t s) = omega arith
value_some (t_call (t_called k xs s) t) = omega arith
value_some (t_library f e xs t s) = omega arith
value_some (t_packed_store b x s) = omega arith
value_some (t_packed_load b v s) = omega arith

values_some : (xs : List TExpr) → length xs ≤ nodes_of_all typed_nodes xs
values_some [] = omega arith
values_some (x ∷ xs) = omega (arith, value_some x, values_some xs)

values_nodes : (xs : List TExpr) → exprs_nodes (t_exprs xs) ≡ nodes_of_all typed_nodes xs
values_nodes [] = refl
values_nodes (x ∷ xs) = ap (λ n. typed_nodes x + n) (values_nodes xs)

-- ---- parts of statements

module _ (l : Layout) (short : RowsShort l) where
  value_long : (x : TExpr) (pc p k n : ℕ) → length (expr_code l x pc p k n) ≤ 32 * typed_nodes x
  value_long x pc p k n = omega (arith, expr_long l short x pc p k n)

  -- what may be left out is no code
  first_long : (o : Option TFirst) (pc p k n : ℕ) → length (first_code l o pc p k n) ≤ 64 * nodes_of_option first_nodes o
  first_long None pc p k n = omega arith
  first_long (Some (t_first_declare xs s)) pc p k n = omega (arith, items_long l short xs pc p k n)
  first_long (Some (t_first_simple x)) pc p k n = omega (arith, simple_long l short x pc p k n)

  step_long : (o : Option TSimple) (pc p k n : ℕ) → length (step_code l o pc p k n) ≤ 64 * nodes_of_option step_nodes o
  step_long None pc p k n = omega arith
  step_long (Some x) pc p k n = omega (arith, simple_long l short x pc p k n)

  bounds_long : (rs : List TRange) (pc p k n : ℕ) → length (bounds_code l rs pc p k n) ≤ 32 * nodes_of_all range_nodes rs
  bounds_long [] pc p k n = omega arith
  bounds_long (r ∷ rs) pc p k n =
      let p1 = p + length (expr_places l r.start) in
      let p2 = p1 + length (expr_places l r.end) in
      let ca = bound_code l r.start pc p k n in
      let pc1 = pc + length ca in
      let cb = bound_code l r.end pc1 p1 k (n + 1) in
      let cc = bounds_code l rs (pc1 + length cb) p2 k (n + 1 + 1) in
      omega (arith, length-append ca (cb ++ cc), length-append cb cc, index_long l short Uniform r.start pc p k n, index_long l short Uniform r.end pc1 p1 k (n + 1), bounds_long rs (pc1 + length cb) p2 k (n + 1 + 1))

  foreach_long : (rs : List TRange) (pc p k n a : ℕ) (body : RunBodies) → Most a body.full → Most a body.rest → length (foreach_code l rs pc p k n body) ≤ a + a + 40 * nodes_of_all range_nodes rs + 27
  foreach_long rs pc p k n a body fa fb =
      let h = runs_slot n rs in
      let ca = measures_code l n h in
      let pc1 = pc + length ca in
      let cb = bounds_code l rs pc1 p k (n + 1 + 1) in
      let pc2 = pc1 + length cb in
      let cc = ranges_code l n h body rs [] (n + 1 + 1) (places_slot n rs) pc2 in
      omega (arith, length-append ca (cb ++ cc), length-append cb cc, bounds_long rs pc1 p k (n + 1 + 1), ranges_long l n h a body rs [] (n + 1 + 1) (places_slot n rs) pc2 fa fb, ranges_low rs)

  answer_long : (answer : Option Ty) (x : TExpr) (pc p k n : ℕ) → length (answer_code l answer x pc p k n) ≤ 32 * typed_nodes x
  answer_long None x pc p k n = omega (arith, expr_long l short x pc p k n)
  answer_long (Some t) x pc p k n =
      let ca = operand_of l t.rate x k n (expr_code l x pc p k n) in
      omega (arith, length-append ca (copy t.rate (l.result t.rate) (operand l t.rate x n) k ∷ []), operand_long l short t.rate x pc p k n)

  print_long : (text : List ℕ) (xs : List TExpr) (pc p t k n : ℕ) → count_by (λ c. c == percent) text ≡ length xs
      → length (print_code l text xs pc p t k n) ≤ 34 * nodes_of_all typed_nodes xs + 1
  print_long text xs pc p t k n count =
      let rs = own_rates xs in
      let regs = value_registers l rs (t_exprs xs) n in
      let ca = values_code l rs (t_exprs xs) pc p k n in
      omega (arith, length-append ca (parts_code (parts text) rs regs t k), values_long l short rs (t_exprs xs) pc p k n, parts_counted text xs rs regs t k count, values_nodes xs, values_some xs)

less : {m n : ℕ} → m + 4 ≤ n → m ≤ n
less le = omega (arith, le)

-- the rest of a list
rest_long : (z : Bool) (xs : TStmts) (k pc a : ℕ) (code : ℕ → List Instr) → Most a code → length (rest_code z xs k pc code) ≤ a + 1
rest_long true xs k pc a code fa = omega (arith, fa pc)
rest_long false t_no_stmts k pc a code fa = omega arith
rest_long false (t_stmt_then x xs) k pc a code fa = omega (arith, fa (pc + 1))

-- ---- statements

module _ (fs : List TFunction) (vars : List Variable) (answer : Option Ty) where
  mutual
    stmt_long : (l : Layout) → RowsShort l → (x : TStmt) → FineStmt fs vars answer x → (pc : ℕ) (z : Numbers) (spot : Spot) → length (stmt_code l answer x pc z spot) + 4 ≤ 128 * (stmt_nodes x + stmt_again x)
    stmt_long l short (t_block b) f pc z spot = body_long l short b f pc z spot
    stmt_long l short (t_declare xs s) f pc z spot = omega (arith, items_long l short xs pc z.place spot.on spot.slot)
    stmt_long l short (t_simple x s) f pc z spot = omega (arith, simple_long l short x pc z.place spot.on spot.slot)
    stmt_long l short (t_if g m e x s) f pc z spot =
        let z1 = past (expr_places l e) z in
        let ca = expr_code l e pc z.place spot.on spot.slot in
        let first = λ (pc1 : ℕ) (part : Spot). stmt_code l answer x pc1 z1 part in
        let r = (type_of e).rate in
        let y = found l e spot.slot in
        let h : length (if_code (leaving_of x) g r y (pc + length ca) spot first) ≤ 128 * (stmt_nodes x + stmt_again x) + 7 = if_long (leaving_of x) g r y (pc + length ca) (128 * (stmt_nodes x + stmt_again x)) spot first (λ pc1 part. less (stmt_long l short x f.2 pc1 z1 part)) in
        omega (arith, length-append ca (if_code (leaving_of x) g r y (pc + length ca) spot first), expr_long l short e pc z.place spot.on spot.slot, h)
    stmt_long l short (t_if_else g m e x y s) f pc z spot =
        let z1 = past (expr_places l e) z in
        let ca = expr_code l e pc z.place spot.on spot.slot in
        let first = λ (pc1 : ℕ) (part : Spot). stmt_code l answer x pc1 z1 part in
        let second = λ (pc1 : ℕ) (part : Spot). stmt_code l answer y pc1 (behind l x z1) part in
        let code = if_else_code (both_go_on x y) g (type_of e).rate (found l e spot.slot) (pc + length ca) spot first second in
        let h : length code ≤ 128 * (stmt_nodes x + stmt_again x) + 128 * (stmt_nodes y + stmt_again y) + 8 =
        if_else_long (both_go_on x y) g (type_of e).rate (found l e spot.slot) (pc + length ca) (128 * (stmt_nodes x + stmt_again x)) (128 * (stmt_nodes y + stmt_again y)) spot first second
        (λ pc1 part. less (stmt_long l short x f.2 pc1 z1 part)) (λ pc1 part. less (stmt_long l short y f.3 pc1 (behind l x z1) part)) in
        omega (arith, length-append ca code, expr_long l short e pc z.place spot.on spot.slot, h)
    stmt_long l short (t_while g m e x s) f pc z spot =
        let n = spot.slot in
        let z1 = past (expr_places l e) z in
        let p2 = test_place l x None z1 in
        let h =
        for_long (is_wide g (type_of e).rate) (exits_of x) (type_of e).rate (found l e (n + 3)) pc (32 * typed_nodes e) (32 * typed_nodes e) (128 * (stmt_nodes x + stmt_again x)) 0 spot
        (λ pc1. expr_code l e pc1 z.place n (n + 3)) (λ pc1. expr_code l e pc1 p2 n (n + 3)) (λ pc1. stmt_code l answer x pc1 z1 (body_spot n)) no_code
        (λ pc1. value_long l short e pc1 z.place n (n + 3)) (λ pc1. value_long l short e pc1 p2 n (n + 3)) (λ pc1. less (stmt_long l short x f.2 pc1 z1 (body_spot n))) (λ pc1. omega arith) in
        omega (arith, h)
    stmt_long l short (t_do g m x e s) f pc z spot =
        let n = spot.slot in
        let p2 = test_place l x None z in
        let h =
        do_long (is_wide g (type_of e).rate) (exits_of x) (type_of e).rate (found l e (n + 3)) pc (32 * typed_nodes e) (128 * (stmt_nodes x + stmt_again x)) spot
        (λ pc1. expr_code l e pc1 p2 n (n + 3)) (λ pc1. stmt_code l answer x pc1 z (body_spot n))
        (λ pc1. value_long l short e pc1 p2 n (n + 3)) (λ pc1. less (stmt_long l short x f.1 pc1 z (body_spot n))) in
        omega (arith, h)
    stmt_long l short (t_for g m first None step i x s) f pc z spot =
        let n = spot.slot in
        let z1 = past (first_places l first) z in
        let ca = first_code l first pc z.place spot.on n in
        let body = λ (pc2 : ℕ). stmt_code l answer x pc2 z1 (body_spot n) in
        let next = λ (pc2 : ℕ). step_code l step pc2 (behind l x z1).place n (n + 3) in
        let code = endless_code (exits_of x) (pc + length ca) spot body next in
        let h : length code ≤ 128 * (stmt_nodes x + stmt_again x) + 64 * nodes_of_option step_nodes step + 9 =
        endless_long (exits_of x) (pc + length ca) (128 * (stmt_nodes x + stmt_again x)) (64 * nodes_of_option step_nodes step) spot body next (λ pc2. less (stmt_long l short x f.5 pc2 z1 (body_spot n))) (λ pc2. step_long l short step pc2 (behind l x z1).place n (n + 3)) in
        omega (arith, length-append ca code, first_long l short first pc z.place spot.on n, h)
    stmt_long l short (t_for g m first (Some e) step i x s) f pc z spot =
        let n = spot.slot in
        let z1 = past (first_places l first) z in
        let z2 = past (expr_places l e) z1 in
        let p2 = test_place l x step z2 in
        let ca = first_code l first pc z.place spot.on n in
        let entry = λ (pc2 : ℕ). expr_code l e pc2 z1.place n (n + 3) in
        let test = λ (pc2 : ℕ). expr_code l e pc2 p2 n (n + 3) in
        let body = λ (pc2 : ℕ). stmt_code l answer x pc2 z2 (body_spot n) in
        let next = λ (pc2 : ℕ). step_code l step pc2 (behind l x z2).place n (n + 3) in
        let code = for_code (is_wide g (type_of e).rate) (exits_of x) (type_of e).rate (found l e (n + 3)) (pc + length ca) spot entry test body next in
        let h : length code ≤ 32 * typed_nodes e + 32 * typed_nodes e + 128 * (stmt_nodes x + stmt_again x) + 64 * nodes_of_option step_nodes step + 12 =
        for_long (is_wide g (type_of e).rate) (exits_of x) (type_of e).rate (found l e (n + 3)) (pc + length ca) (32 * typed_nodes e) (32 * typed_nodes e) (128 * (stmt_nodes x + stmt_again x)) (64 * nodes_of_option step_nodes step) spot
        entry test body next (λ pc2. value_long l short e pc2 z1.place n (n + 3)) (λ pc2. value_long l short e pc2 p2 n (n + 3)) (λ pc2. less (stmt_long l short x f.5 pc2 z2 (body_spot n))) (λ pc2. step_long l short step pc2 (behind l x z2).place n (n + 3)) in
        omega (arith, length-append ca code, first_long l short first pc z.place spot.on n, h)
    stmt_long l short (t_foreach w m rs x s) f pc z spot =
        let lb = body_layout l rs in
        let k = runs_slot spot.slot rs in
        let z1 = past (ranges_places l rs) z in
        let room = 128 * (stmt_nodes x + stmt_again x) in
        let rows : KnownRows = known_rows in
        let m = places_slot spot.slot rs in
        let most : (z2 : Numbers) (pc1 : ℕ) → length (stmt_code lb answer x pc1 z2 (body_spot k)) ≤ room = λ z2 pc1. less (stmt_long lb (body_as RowsShort l rs short (λ o d i pc p k n is. absurd (cc)) (λ e o d. rows.short (run_as l o d) (known_indices (indices_of rs)) l.there (λ i n. refl))) x f.2 pc1 z2 (body_spot k)) in
        let full = set_long l rs m room (λ pc1. stmt_code lb answer x pc1 z1 (body_spot k)) (most z1) in
        let rest = set_long l rs m room (λ pc1. stmt_code lb answer x pc1 (behind lb x z1) (body_spot k)) (most (behind lb x z1)) in
        let h = foreach_long l short rs pc z.place spot.on spot.slot (room + length rs) (set_bodies l rs m (run_bodies lb answer x k z1)) full rest in
        omega (arith, h, ranges_low rs)
    stmt_long l short (t_foreach_active w m i x s) f pc z spot =
        let at = body_spot (spot.slot + 1) in
        let h =
        active_long (l.variable Uniform i) pc spot.on spot.slot (128 * (stmt_nodes x + stmt_again x)) (λ pc1. stmt_code l answer x pc1 z at) (λ pc1. less (stmt_long l short x f.2 pc1 z at)) in
        omega (arith, h)
    stmt_long l short (t_foreach_unique w m i t e x s) f pc z spot =
        let k = spot.on in
        let n = spot.slot in
        let z1 = past (expr_places l e) z in
        let h =
        unique_long (values_of l (elem_of e) i n) (operand_of l Varying e k n (expr_code l e pc z.place k n)) (operand l Varying e n) pc k n (128 * (stmt_nodes x + stmt_again x))
        (λ pc1. stmt_code l answer x pc1 z1 (body_spot (n + 1))) (λ pc1. less (stmt_long l short x f.3 pc1 z1 (body_spot (n + 1)))) in
        omega (arith, operand_long l short Varying e pc z.place k n, h)
    stmt_long l short (t_unmasked w b s) f pc z spot = omega (arith, body_long (outside l) (λ i pc p k n is. absurd (cc)) b f (pc + 1) z (body_spot spot.slot))
    stmt_long l short (t_jump j w s) f pc z spot = omega (arith, jump_long j spot.on spot.continued)
    stmt_long l short (t_return w None s) f pc z spot = omega arith
    stmt_long l short (t_return w (Some x) s) f pc z spot =
        let ca = answer_code l answer x pc z.place spot.on spot.slot in
        omega (arith, length-append ca (leave_code spot.returned spot.on), answer_long l short answer x pc z.place spot.on spot.slot)
    stmt_long l short (t_print w text xs s) f pc z spot = omega (arith, print_long l short text xs pc z.place z.text spot.on spot.slot f.0)
    stmt_long l short (t_assert x c s) f pc z spot =
        let ca = expr_code l x pc z.place spot.on spot.slot in
        let p = z.place + length (expr_places l x) in
        let r = (type_of x).rate in
        let y = found l x spot.slot in
        omega (arith, length-append ca (fails_code r y (pc + length ca) p spot.on spot.slot), expr_long l short x pc z.place spot.on spot.slot, fails_long r y (pc + length ca) p spot.on spot.slot)

    body_long : (l : Layout) → RowsShort l → (b : TBlock) → FineBlock fs vars answer b → (pc : ℕ) (z : Numbers) (spot : Spot) → length (block_code l answer b pc z spot) + 4 ≤ 128 * (block_nodes b + block_again b)
    body_long l short (t_braces xs s) f pc z spot = omega (arith, stmts_long l short xs f pc z spot)

    stmts_long : (l : Layout) → RowsShort l → (xs : TStmts) → FineStmts fs vars answer xs → (pc : ℕ) (z : Numbers) (spot : Spot) → length (stmts_code l answer xs pc z spot) ≤ 128 * (stmts_nodes xs + stmts_again xs)
    stmts_long l short t_no_stmts f pc z spot = omega arith
    stmts_long l short (t_stmt_then x xs) f pc z spot =
        let ca = stmt_code l answer x pc z spot in
        let rest = λ (pc1 : ℕ). stmts_code l answer xs pc1 (behind l x z) spot in
        let code = rest_code (all_go_on x) xs spot.on (pc + length ca) rest in
        let h : length code ≤ 128 * (stmts_nodes xs + stmts_again xs) + 1 = rest_long (all_go_on x) xs spot.on (pc + length ca) (128 * (stmts_nodes xs + stmts_again xs)) rest (λ pc1. stmts_long l short xs f.1 pc1 (behind l x z) spot) in
        omega (arith, length-append ca code, stmt_long l short x f.0 pc z spot, h)

  pub block_long : (l : Layout) → RowsShort l → (b : TBlock) → FineBlock fs vars answer b → (pc : ℕ) (z : Numbers) (spot : Spot) → length (block_code l answer b pc z spot) ≤ 128 * (block_nodes b + block_again b)
  block_long l short b f pc z spot = omega (arith, body_long l short b f pc z spot)

  -- with the constants that are kept, and the return
  pub function_long : (l : Layout) → RowsShort l → (ks : List Constant) (b : TBlock) → keep_steps ks ≤ 24 → FineBlock fs vars answer b → (pc : ℕ) (z : Numbers)
      → length (function_code l answer ks b pc z) ≤ 128 * (block_nodes b + block_again b) + 32
  function_long l short ks b le f pc z =
      let ca = constants_code l 3 ks in
      let cb = block_code l answer b (pc + length ca) z first_spot in
      omega (arith, length-append (ca ++ cb) (instr.Return (returned l answer) ∷ []), length-append ca cb, constants_short l 3 ks le, body_long l short b f (pc + length ca) z first_spot)

-- ---- places

first_places_few : (l : Layout) (o : Option TFirst) → length (first_places l o) ≤ 2 * nodes_of_option first_nodes o
first_places_few l None = omega arith
first_places_few l (Some (t_first_declare xs s)) = omega (arith, items_places_few l xs)
first_places_few l (Some (t_first_simple x)) = omega (arith, simple_places_few l x)

test_places_few : (l : Layout) (o : Option TExpr) → length (test_places l o) ≤ nodes_of_option typed_nodes o
test_places_few l None = omega arith
test_places_few l (Some e) = expr_places_few l e

step_places_few : (l : Layout) (o : Option TSimple) → length (step_places l o) ≤ 2 * nodes_of_option step_nodes o
step_places_few l None = omega arith
step_places_few l (Some x) = omega (arith, simple_places_few l x)

ranges_places_few : (l : Layout) (rs : List TRange) → length (ranges_places l rs) ≤ nodes_of_all range_nodes rs
ranges_places_few l [] = omega arith
ranges_places_few l (r ∷ rs) =
    let pb = expr_places l r.end in
    omega (arith, length-append (expr_places l r.start) (pb ++ ranges_places l rs), length-append pb (ranges_places l rs), expr_places_few l r.start, expr_places_few l r.end, ranges_places_few l rs)

mutual
  stmt_places_few : (l : Layout) (x : TStmt) → length (stmt_places l x) ≤ 4 * (stmt_nodes x + stmt_again x)
  stmt_places_few l (t_block b) = block_places_few l b
  stmt_places_few l (t_declare xs s) = omega (arith, items_places_few l xs)
  stmt_places_few l (t_simple x s) = omega (arith, simple_places_few l x)
  stmt_places_few l (t_if g m e x s) = omega (arith, length-append (expr_places l e) (stmt_places l x), expr_places_few l e, stmt_places_few l x)
  stmt_places_few l (t_if_else g m e x y s) =
      let pb = stmt_places l x ++ stmt_places l y in
      omega (arith, length-append (expr_places l e) pb, length-append (stmt_places l x) (stmt_places l y), expr_places_few l e, stmt_places_few l x, stmt_places_few l y)
  stmt_places_few l (t_while g m e x s) =
      let pb = stmt_places l x ++ expr_places l e in
      omega (arith, length-append (expr_places l e) pb, length-append (stmt_places l x) (expr_places l e), expr_places_few l e, stmt_places_few l x)
  stmt_places_few l (t_do g m x e s) = omega (arith, length-append (stmt_places l x) (expr_places l e), expr_places_few l e, stmt_places_few l x)
  stmt_places_few l (t_for g m first e step i x s) =
      let pd = step_places l step ++ test_places l e in
      let pc = stmt_places l x ++ pd in
      let pb = test_places l e ++ pc in
      omega (
        arith,
        length-append (first_places l first) pb,
        length-append (test_places l e) pc,
        length-append (stmt_places l x) pd,
        length-append (step_places l step) (test_places l e),
        first_places_few l first,
        test_places_few l e,
        step_places_few l step,
        stmt_places_few l x,
      )
  stmt_places_few l (t_foreach w m rs x s) =
      let px = stmt_places (body_layout l rs) x in
      omega (arith, length-append (ranges_places l rs) (px ++ px), length-append px px, ranges_places_few l rs, stmt_places_few (body_layout l rs) x)
  stmt_places_few l (t_foreach_active w m i x s) = omega (arith, stmt_places_few l x)
  stmt_places_few l (t_foreach_unique w m i t e x s) = omega (arith, length-append (expr_places l e) (stmt_places l x), expr_places_few l e, stmt_places_few l x)
  stmt_places_few l (t_unmasked w b s) = omega (arith, block_places_few (outside l) b)
  stmt_places_few l (t_jump j w s) = omega arith
  stmt_places_few l (t_return w None s) = omega arith
  stmt_places_few l (t_return w (Some x) s) = omega (arith, expr_places_few l x)
  stmt_places_few l (t_print w text xs s) = omega (arith, values_places_few l (t_exprs xs), values_nodes xs)
  stmt_places_few l (t_assert x c s) = omega (arith, length-append (expr_places l x) (c ∷ []), expr_places_few l x)

  pub block_places_few : (l : Layout) (b : TBlock) → length (block_places l b) ≤ 4 * (block_nodes b + block_again b)
  block_places_few l (t_braces xs s) = omega (arith, stmts_places_few l xs)

  stmts_places_few : (l : Layout) (xs : TStmts) → length (stmts_places l xs) ≤ 4 * (stmts_nodes xs + stmts_again xs)
  stmts_places_few l t_no_stmts = omega arith
  stmts_places_few l (t_stmt_then x xs) = omega (arith, length-append (stmt_places l x) (stmts_places l xs), stmt_places_few l x, stmts_places_few l xs)

-- ---- texts

module _ (fs : List TFunction) (vars : List Variable) (answer : Option Ty) where
  mutual
    stmt_texts_few : (x : TStmt) → FineStmt fs vars answer x → length (stmt_texts x) ≤ stmt_nodes x + stmt_again x
    stmt_texts_few (t_block b) f = block_texts_few b f
    stmt_texts_few (t_declare xs s) f = omega arith
    stmt_texts_few (t_simple x s) f = omega arith
    stmt_texts_few (t_if g m e x s) f = omega (arith, stmt_texts_few x f.2)
    stmt_texts_few (t_if_else g m e x y s) f = omega (arith, length-append (stmt_texts x) (stmt_texts y), stmt_texts_few x f.2, stmt_texts_few y f.3)
    stmt_texts_few (t_while g m e x s) f = omega (arith, stmt_texts_few x f.2)
    stmt_texts_few (t_do g m x e s) f = omega (arith, stmt_texts_few x f.1)
    stmt_texts_few (t_for g m first e step i x s) f = omega (arith, stmt_texts_few x f.5)
    stmt_texts_few (t_foreach w m rs x s) f = omega (arith, length-append (stmt_texts x) (stmt_texts x), stmt_texts_few x f.2)
    stmt_texts_few (t_foreach_active w m i x s) f = omega (arith, stmt_texts_few x f.2)
    stmt_texts_few (t_foreach_unique w m i t e x s) f = omega (arith, stmt_texts_few x f.3)
    stmt_texts_few (t_unmasked w b s) f = omega (arith, block_texts_few b f)
    stmt_texts_few (t_jump j w s) f = omega arith
    stmt_texts_few (t_return w x s) f = omega arith
    stmt_texts_few (t_print w text xs s) f = omega (arith, words_counted text xs f.0, values_some xs)
    stmt_texts_few (t_assert x c s) f = omega arith

    pub block_texts_few : (b : TBlock) → FineBlock fs vars answer b → length (block_texts b) ≤ block_nodes b + block_again b
    block_texts_few (t_braces xs s) f = omega (arith, stmts_texts_few xs f)

    stmts_texts_few : (xs : TStmts) → FineStmts fs vars answer xs → length (stmts_texts xs) ≤ stmts_nodes xs + stmts_again xs
    stmts_texts_few t_no_stmts f = omega arith
    stmts_texts_few (t_stmt_then x xs) f = omega (arith, length-append (stmt_texts x) (stmts_texts xs), stmt_texts_few x f.0, stmts_texts_few xs f.1)
