-- The code of statements, as a function of their trees. It is given the instruction pc where it begins, the numbers z of the next
-- place in the source and the next text, and where it works: three masks and the first free slot (Spots).
use Rattle.std.specs.Prelude.{ℕ, ◌+◌, List, [], ◌∷◌, ◌++◌, length, Option, Some, None, Bool, true, false}
use Rattle.isp_base.specs.declared.types.Rate.{Rate}
use Rattle.isp_base.specs.declared.types.Rate.TheVariants.{Uniform, Varying}
use Rattle.isp_base.specs.declared.types.Span.{Span}
use Rattle.isp_base.specs.declared.types.Ty.{Ty}
use Rattle.isp_code.specs.declared.instr.Instr.{Instr}
use Rattle.isp_code.specs.declared.instr.Instr.TheVariants as instr
use Rattle.isp_code.specs.declared.instr.JumpTest.TheVariants as jump
use Rattle.isp_code.specs.declared.register.Register.{Register}
use Rattle.isp_tree.specs.declared.stmt.Form.{Form}
use Rattle.isp_tree.specs.declared.stmt.Form.TheVariants.{Plain, Coherent}
use Rattle.isp_tree.specs.declared.stmt.Jump.{Jump}
use Rattle.isp_typed.specs.Typed.{TExpr, type_of, elem_of, TRange, TSimple, TStmt, t_block, t_declare, t_simple, t_if, t_if_else, t_while, t_do, t_for, t_foreach, t_foreach_active}
use Rattle.isp_typed.specs.Typed.{t_foreach_unique, t_unmasked, t_jump, t_return, t_print, t_assert, TBlock, t_braces, TStmts, t_no_stmts, t_stmt_then}
use Rattle.isp_lower_code.specs.Layout.{Layout, register, outside, within}
use Rattle.isp_lower_code.specs.Code.{expr_code}
use Rattle.isp_lower_code.specs.Found.{found, operand, operand_of}
use Rattle.isp_lower_code.specs.Instructions.{copy, where_so, the_others, jump_off, jump_on}
use Rattle.isp_lower_code.specs.Pieces.{two, guard, choice}
use Rattle.isp_lower_code.specs.Spans.{expr_places}
use Rattle.isp_lower_code.specs.Items.{items_code, items_places}
use Rattle.isp_lower_code.specs.Simple.{simple_code, simple_places}
use Rattle.isp_lower_code.specs.RowLayout.{with_known}
use Rattle.isp_steady.specs.Indices.{indices_of, known_indices}
use Rattle.isp_lower_code.specs.declared.constant.Constant.{Constant}
use Rattle.isp_masks_code.specs.Asserts.{assert_code, assert_places}
use Rattle.isp_masks_code.specs.Exits.{exits_of, all_go_on, both_go_on, leaving_of}
use Rattle.isp_masks_code.specs.Fors.{back_code, first_code, step_code, first_places, test_places, step_places}
use Rattle.isp_masks_code.specs.Loops.{copy_mask, is_wide, jump_all, next_code, turn_code, while_code, for_code, endless_code, do_code}
use Rattle.isp_masks_code.specs.Keeping.{constants_code}
use Rattle.isp_masks_code.specs.Prints.{print_code, print_places, print_texts}
use Rattle.isp_masks_code.specs.Ranges.{RunBodies, foreach_code, places_slot, ranges_places, runs_slot, set_bodies}
use Rattle.isp_masks_code.specs.Rounds.{unmasked_code, active_code, values_of, unique_code}
use Rattle.isp_masks_code.specs.Sets.{unite, leave_code, jump_code, jumped_code}
use Rattle.isp_masks_code.specs.Spots.{Numbers, Spot, body_spot, first_spot, past, under, widely}
use Rattle.isp_masks_code.specs.declared.exits.Exits.{Exits}
use Rattle.isp_masks_code.specs.declared.exits.Leaving.{Leaving}
use Rattle.isp_masks_code.specs.declared.exits.Leaving.TheVariants.{Never, Always, Maybe}

-- ---- one statement after the other

-- What follows a statement is jumped over where nobody is left: this is not asked where nobody leaves, and not where
-- nothing follows.
abbrev pub rest_code : Bool → TStmts → ℕ → ℕ → (ℕ → List Instr) → List Instr
rest_code true xs k pc code = code pc
rest_code false t_no_stmts k pc code = []
rest_code false (t_stmt_then x xs) k pc code = guard (jump_off k) pc code

-- ---- choices: code of a part is given where it begins, and its spot

-- Mask n gets those of mask k for which the test in register x is true, and k keeps the others; the first part runs for
-- mask n if it has any, then comes the rest, for mask k; in the end k has those that went on from either.
abbrev pub parted_code : ℕ → ℕ → ℕ → ℕ → (ℕ → List Instr) → (ℕ → List Instr) → List Instr
parted_code x pc k n first rest =
    where_so n x k ∷ the_others k k n ∷ two (pc + 1 + 1) (guard (jump_off n) (pc + 1 + 1) first) (λ pc1. rest pc1 ++ unite k n k ∷ [])

-- Nobody leaves the part: mask n gets those for which the test is true, and mask k stays as it is.
abbrev pub kept_code : ℕ → ℕ → ℕ → ℕ → (ℕ → List Instr) → List Instr
kept_code x pc k n first = where_so n x k ∷ guard (jump_off n) (pc + 1) first

-- nor either of two: mask n + 1 gets the others
abbrev pub both_kept_code : ℕ → ℕ → ℕ → ℕ → (ℕ → List Instr) → (ℕ → List Instr) → List Instr
both_kept_code x pc k n first second =
    where_so n x k ∷ the_others (n + 1) k n ∷ two (pc + 1 + 1) (guard (jump_off n) (pc + 1 + 1) first) (λ pc1. guard (jump_off (n + 1)) pc1 second)

-- The part is one jump: those for which the test is true leave mask k.
abbrev pub left_code : Jump → ℕ → ℕ → ℕ → ℕ → List Instr
left_code j x k co n = where_so n x k ∷ the_others k k n ∷ jumped_code j n co

-- A c-form: mask n gets those of mask k for which the test is true. Where it has all lanes, these are all of mask k, and a jump
-- leads to the first part. Else mask n + 1 gets the others, and mask k those of mask n. The first part runs for mask k. After it
-- nobody is left where mask n has all lanes: a jump leads past the rest. Mask k ends as above.
abbrev pub wide_code : ℕ → ℕ → ℕ → ℕ → (ℕ → List Instr) → (ℕ → List Instr) → List Instr
wide_code x pc k n first rest =
    where_so n x k ∷ jump_all n (pc + 1 + 1 + 1 + 1 + 1) ∷ the_others (n + 1) k n ∷ copy_mask k n ∷ two (pc + 1 + 1 + 1 + 1) (guard (jump_off k) (pc + 1 + 1 + 1 + 1) first) (λ pc1. guard (jump_all n) pc1 (λ pc2. rest pc2 ++ unite k k (n + 1) ∷ []))

-- given how the part is left
abbrev pub if_code : Leaving → Form → Rate → ℕ → ℕ → Spot → (ℕ → Spot → List Instr) → List Instr
if_code v f Uniform x pc spot first = guard (jump_on jump.False x) pc (λ pc1. first pc1 spot)
if_code v Coherent Varying x pc spot first =
    wide_code x pc spot.on spot.slot (λ pc1. first pc1 (widely spot.on spot)) (λ pc1. [])
if_code Never Plain Varying x pc spot first =
    kept_code x pc spot.on spot.slot (λ pc1. first pc1 (under spot.slot spot))
if_code (Always j) Plain Varying x pc spot first = left_code j x spot.on spot.continued spot.slot
if_code Maybe Plain Varying x pc spot first =
    parted_code x pc spot.on spot.slot (λ pc1. first pc1 (under spot.slot spot)) (λ pc1. [])

-- given whether nobody leaves the parts
abbrev pub if_else_code : Bool → Form → Rate → ℕ → ℕ → Spot → (ℕ → Spot → List Instr) → (ℕ → Spot → List Instr) → List Instr
if_else_code b f Uniform x pc spot first second = choice (jump_on jump.False x) pc (λ pc1. first pc1 spot) (λ pc1. second pc1 spot)
if_else_code b Coherent Varying x pc spot first second =
    wide_code x pc spot.on spot.slot (λ pc1. first pc1 (widely spot.on spot)) (λ pc1. guard (jump_off (spot.slot + 1)) pc1 (λ pc2. second pc2 (widely (spot.slot + 1) spot)))
if_else_code true Plain Varying x pc spot first second =
    both_kept_code x pc spot.on spot.slot (λ pc1. first pc1 (widely spot.slot spot)) (λ pc1. second pc1 (widely (spot.slot + 1) spot))
if_else_code false Plain Varying x pc spot first second =
    parted_code x pc spot.on spot.slot (λ pc1. first pc1 (widely spot.slot spot)) (λ pc1. guard (jump_off spot.on) pc1 (λ pc2. second pc2 (widely spot.on spot)))

-- ---- the texts that code names, in order

abbrev mutual
  pub stmt_texts : TStmt → List (List ℕ)
  stmt_texts (t_block b) = block_texts b
  stmt_texts (t_declare xs sp) = []
  stmt_texts (t_simple x sp) = []
  stmt_texts (t_if f g e x sp) = stmt_texts x
  stmt_texts (t_if_else f g e x y sp) = stmt_texts x ++ stmt_texts y
  stmt_texts (t_while f g e x sp) = stmt_texts x
  stmt_texts (t_do f g x e sp) = stmt_texts x
  stmt_texts (t_for f g first e step i x sp) = stmt_texts x
  stmt_texts (t_foreach w g rs x sp) = stmt_texts x ++ stmt_texts x
  stmt_texts (t_foreach_active w g i x sp) = stmt_texts x
  stmt_texts (t_foreach_unique w g i t e x sp) = stmt_texts x
  stmt_texts (t_unmasked w b sp) = block_texts b
  stmt_texts (t_jump j w sp) = []
  stmt_texts (t_return w x sp) = []
  stmt_texts (t_print w text xs sp) = print_texts text
  stmt_texts (t_assert x c sp) = []

  pub block_texts : TBlock → List (List ℕ)
  block_texts (t_braces xs sp) = stmts_texts xs

  pub stmts_texts : TStmts → List (List ℕ)
  stmts_texts t_no_stmts = []
  stmts_texts (t_stmt_then x xs) = stmt_texts x ++ stmts_texts xs

module _ (l : Layout) where
  -- ---- what a function gives back: a `return` with a value stands it where results do

  abbrev pub answer_code : Option Ty → TExpr → ℕ → ℕ → ℕ → ℕ → List Instr
  answer_code None x pc p k n = expr_code l x pc p k n
  answer_code (Some t) x pc p k n = operand_of l t.rate x k n (expr_code l x pc p k n) ++ copy t.rate (l.result t.rate) (operand l t.rate x n) k ∷ []

  abbrev pub returned : Option Ty → Option Register
  returned None = None
  returned (Some t) = Some (register t.rate (l.result t.rate))

-- ---- the layout of a body: of a `foreach`, whose last index may count the lanes of each run; where the scalars of its indices are set, these
-- are known

abbrev pub last_layout : Layout → List TRange → Layout
last_layout l [] = l
last_layout l (r ∷ []) = within l r.index
last_layout l (r ∷ q ∷ rs) = last_layout l (q ∷ rs)

abbrev pub layout_by : Bool → Layout → List TRange → Layout
layout_by false l rs = last_layout l rs
layout_by true l [] = l
layout_by true l (r ∷ rs) = with_known (known_indices (indices_of (r ∷ rs))) l.there (last_layout l (r ∷ rs))

abbrev pub body_layout : Layout → List TRange → Layout
body_layout l rs = layout_by (l.sets rs) l rs

-- ---- the places that code names, in order

abbrev mutual
  pub stmt_places : Layout → TStmt → List Span
  stmt_places l (t_block b) = block_places l b
  stmt_places l (t_declare xs sp) = items_places l xs
  stmt_places l (t_simple x sp) = simple_places l x
  stmt_places l (t_if f g e x sp) = expr_places l e ++ stmt_places l x
  stmt_places l (t_if_else f g e x y sp) = expr_places l e ++ (stmt_places l x ++ stmt_places l y)
  stmt_places l (t_while f g e x sp) = expr_places l e ++ (stmt_places l x ++ expr_places l e)
  stmt_places l (t_do f g x e sp) = stmt_places l x ++ expr_places l e
  stmt_places l (t_for f g first e step i x sp) = first_places l first ++ (test_places l e ++ (stmt_places l x ++ (step_places l step ++ test_places l e)))
  stmt_places l (t_foreach w g rs x sp) = ranges_places l rs ++ (stmt_places (body_layout l rs) x ++ stmt_places (body_layout l rs) x)
  stmt_places l (t_foreach_active w g i x sp) = stmt_places l x
  stmt_places l (t_foreach_unique w g i t e x sp) = expr_places l e ++ stmt_places l x
  stmt_places l (t_unmasked w b sp) = block_places (outside l) b
  stmt_places l (t_jump j w sp) = []
  stmt_places l (t_return w None sp) = []
  stmt_places l (t_return w (Some x) sp) = expr_places l x
  stmt_places l (t_print w text xs sp) = print_places l xs
  stmt_places l (t_assert x c sp) = assert_places l x c

  pub block_places : Layout → TBlock → List Span
  block_places l (t_braces xs sp) = stmts_places l xs

  pub stmts_places : Layout → TStmts → List Span
  stmts_places l t_no_stmts = []
  stmts_places l (t_stmt_then x xs) = stmt_places l x ++ stmts_places l xs

module _ (l : Layout) where
  -- the numbers after a statement
  abbrev pub behind : TStmt → Numbers → Numbers
  behind x z =
      record { place = z.place + length (stmt_places l x); text = z.text + length (stmt_texts x) }

  -- and the place after its step, where it is the body of a loop
  abbrev pub test_place : TStmt → Option TSimple → Numbers → ℕ
  test_place x step z = (behind x z).place + length (step_places l step)

-- the code of a function with this layout and this result
abbrev mutual
  pub stmt_code : Layout → Option Ty → TStmt → ℕ → Numbers → Spot → List Instr
  stmt_code l answer (t_block b) pc z spot = block_code l answer b pc z spot
  stmt_code l answer (t_declare xs sp) pc z spot = items_code l xs pc z.place spot.on spot.slot
  stmt_code l answer (t_simple x sp) pc z spot = simple_code l x pc z.place spot.on spot.slot
  stmt_code l answer (t_if f g e x sp) pc z spot =
      let z1 = past (expr_places l e) z in
      two pc (expr_code l e pc z.place spot.on spot.slot) (λ pc1. if_code (leaving_of x) f (type_of e).rate (found l e spot.slot) pc1 spot (λ pc2 part. stmt_code l answer x pc2 z1 part))
  stmt_code l answer (t_if_else f g e x y sp) pc z spot =
      let z1 = past (expr_places l e) z in
      two pc (expr_code l e pc z.place spot.on spot.slot)
      (λ pc1. if_else_code (both_go_on x y) f (type_of e).rate (found l e spot.slot) pc1 spot (λ pc2 part. stmt_code l answer x pc2 z1 part)
      (λ pc2 part. stmt_code l answer y pc2 (behind l x z1) part))
  stmt_code l answer (t_while f g e x sp) pc z spot =
      let n = spot.slot in
      let z1 = past (expr_places l e) z in
      while_code (is_wide f (type_of e).rate) (exits_of x) (type_of e).rate (found l e (n + 3)) pc spot (λ pc1. expr_code l e pc1 z.place n (n + 3))
      (λ pc1. expr_code l e pc1 (test_place l x None z1) n (n + 3)) (λ pc1. stmt_code l answer x pc1 z1 (body_spot n))
  stmt_code l answer (t_do f g x e sp) pc z spot =
      let n = spot.slot in
      do_code (is_wide f (type_of e).rate) (exits_of x) (type_of e).rate (found l e (n + 3)) pc spot (λ pc1. expr_code l e pc1 (test_place l x None z) n (n + 3)) (λ pc1. stmt_code l answer x pc1 z (body_spot n))
  stmt_code l answer (t_for f g first None step i x sp) pc z spot =
      let n = spot.slot in
      let z1 = past (first_places l first) z in
      two pc (first_code l first pc z.place spot.on n) (λ pc1. endless_code (exits_of x) pc1 spot (λ pc2. stmt_code l answer x pc2 z1 (body_spot n)) (λ pc2. step_code l step pc2 (behind l x z1).place n (n + 3)))
  stmt_code l answer (t_for f g first (Some e) step i x sp) pc z spot =
      let n = spot.slot in
      let z1 = past (first_places l first) z in
      let z2 = past (expr_places l e) z1 in
      two pc (first_code l first pc z.place spot.on n)
      (λ pc1. for_code (is_wide f (type_of e).rate) (exits_of x) (type_of e).rate (found l e (n + 3)) pc1 spot
      (λ pc2. expr_code l e pc2 z1.place n (n + 3)) (λ pc2. expr_code l e pc2 (test_place l x step z2) n (n + 3))
      (λ pc2. stmt_code l answer x pc2 z2 (body_spot n)) (λ pc2. step_code l step pc2 (behind l x z2).place n (n + 3)))
  stmt_code l answer (t_foreach w g rs x sp) pc z spot =
      let lb = body_layout l rs in
      let z1 = past (ranges_places l rs) z in
      let at = body_spot (runs_slot spot.slot rs) in
      let bodies : RunBodies = record { full = λ pc1. stmt_code lb answer x pc1 z1 at; rest = λ pc1. stmt_code lb answer x pc1 (behind lb x z1) at; kept = all_go_on x } in
      foreach_code l rs pc z.place spot.on spot.slot (set_bodies l rs (places_slot spot.slot rs) bodies)
  stmt_code l answer (t_foreach_active w g i x sp) pc z spot =
      active_code (l.variable Uniform i) pc spot.on spot.slot (λ pc1. stmt_code l answer x pc1 z (body_spot (spot.slot + 1)))
  stmt_code l answer (t_foreach_unique w g i t e x sp) pc z spot =
      let k = spot.on in
      let n = spot.slot in
      unique_code (values_of l (elem_of e) i n) (operand_of l Varying e k n (expr_code l e pc z.place k n)) (operand l Varying e n) pc k n (λ pc1. stmt_code l answer x pc1 (past (expr_places l e) z) (body_spot (n + 1)))
  stmt_code l answer (t_unmasked w b sp) pc z spot = unmasked_code spot.slot pc (λ pc1. block_code (outside l) answer b pc1 z (body_spot spot.slot))
  stmt_code l answer (t_jump j w sp) pc z spot = jump_code j spot.on spot.continued
  stmt_code l answer (t_return w None sp) pc z spot = leave_code spot.returned spot.on
  stmt_code l answer (t_return w (Some x) sp) pc z spot =
      answer_code l answer x pc z.place spot.on spot.slot ++ leave_code spot.returned spot.on
  stmt_code l answer (t_print w text xs sp) pc z spot = print_code l text xs pc z.place z.text spot.on spot.slot
  stmt_code l answer (t_assert x c sp) pc z spot = assert_code l x pc z.place spot.on spot.slot

  pub block_code : Layout → Option Ty → TBlock → ℕ → Numbers → Spot → List Instr
  block_code l answer (t_braces xs sp) pc z spot = stmts_code l answer xs pc z spot

  pub stmts_code : Layout → Option Ty → TStmts → ℕ → Numbers → Spot → List Instr
  stmts_code l answer t_no_stmts pc z spot = []
  stmts_code l answer (t_stmt_then x xs) pc z spot =
      two pc (stmt_code l answer x pc z spot) (λ pc1. rest_code (all_go_on x) xs spot.on pc1 (λ pc2. stmts_code l answer xs pc2 (behind l x z) spot))

module _ (l : Layout) (answer : Option Ty) where
  -- the body of a loop whose masks are n, n + 1 and n + 2
  abbrev pub body_code : TStmt → ℕ → Numbers → ℕ → List Instr
  body_code x n z pc = stmt_code l answer x pc z (body_spot n)

  -- the two codes of the body of a `foreach`, whose masks are n, n + 1 and n + 2
  abbrev pub run_bodies : TStmt → ℕ → Numbers → RunBodies
  run_bodies x n z =
      record { full = body_code x n z; rest = body_code x n (behind l x z); kept = all_go_on x }

  -- turns of a loop, from one on
  abbrev pub turning_code : Bool → Exits → Option TExpr → Option TSimple → TStmt → ℕ → ℕ → Numbers → List Instr
  turning_code wide e test step x n top z =
      two top (turn_code wide e top n (body_code x n z)) (λ pc. next_code e n pc (λ pc1. step_code l step pc1 (behind l x z).place n (n + 3)) (λ pc1. back_code l test pc1 (test_place l x step z) n top))

  -- a `while`, and a `for` after its first part
  abbrev pub turns_code : Form → Option TExpr → Option TSimple → TStmt → ℕ → Numbers → Spot → List Instr
  turns_code f None step x pc z spot =
      let n = spot.slot in
      endless_code (exits_of x) pc spot (body_code x n z) (λ pc1. step_code l step pc1 (behind l x z).place n (n + 3))
  turns_code f (Some e) step x pc z spot =
      let n = spot.slot in
      let z1 = past (expr_places l e) z in
      for_code (is_wide f (type_of e).rate) (exits_of x) (type_of e).rate (found l e (n + 3)) pc spot (λ pc1. expr_code l e pc1 z.place n (n + 3))
      (λ pc1. expr_code l e pc1 (test_place l x step z1) n (n + 3)) (body_code x n z1)
      (λ pc1. step_code l step pc1 (behind l x z1).place n (n + 3))

  -- the constants that are kept, the body, and what it gives back
  abbrev pub function_code : List Constant → TBlock → ℕ → Numbers → List Instr
  function_code ks b pc z = two pc (constants_code l 3 ks) (λ pc1. block_code l answer b pc1 z first_spot) ++ instr.Return (returned l answer) ∷ []
