-- The places that the code of a body names lie in the source, and its texts have a byte: so the text of code can have them.
use Rattle.std.proofs.Common.{◌≡◌, ℕ, suc, ◌==◌, List, [], ◌∷◌, ◌++◌, Bool, true, false, Option, Some, None, refl, arith}
use Rattle.std.specs.Prelude.{if◌then◌else◌}
use Rattle.std.specs.List.{All, list_all}
use Rattle.std.proofs.lemmas.Bool.{and_parts}
use Rattle.isp_base.specs.Prints.{percent}
use Rattle.isp_base.specs.declared.types.Elem.TheVariants.{Bool as Truth}
use Rattle.isp_base.specs.declared.types.Ty.{Ty}
use Rattle.isp_code.specs.Writable.{has_byte}
use Rattle.isp_tree.specs.Sound.{IfAny}
use Rattle.isp_typed.specs.Fine.{FineValue, FineSimple, FineFirst, FineRange, FineReturned, FineStmt, FineBlock, FineStmts}
use Rattle.isp_typed.specs.Typed.{TFunction, TExpr, TSimple, TFirst, t_first_declare, t_first_simple, TRange, TStmt, t_block, t_declare, t_simple, t_if, t_if_else, t_while, t_do, t_for, t_foreach}
use Rattle.isp_typed.specs.Typed.{t_foreach_active, t_foreach_unique, t_unmasked, t_jump, t_return, t_print, t_assert, TBlock, t_braces, TStmts, t_no_stmts, t_stmt_then}
use Rattle.isp_typed.specs.declared.variable.Variable.{Variable}
use Rattle.isp_lower_code.specs.Spans.{expr_places}
use Rattle.isp_lower_code.specs.Layout.{Layout, outside}
use Rattle.isp_lower_code.proofs.Lemmas.{Placed, placed_both, placed_one, expr_placed, shown_placed, simple_placed, items_placed, all_both}
use Rattle.isp_masks_code.specs.Fors.{first_places, test_places, step_places}
use Rattle.isp_masks_code.specs.Prints.{Part, Words, Value, before, parts, words_of}
use Rattle.isp_masks_code.specs.Ranges.{ranges_places}
use Rattle.isp_masks_code.specs.Statements.{stmt_places, block_places, stmts_places, stmt_texts, block_texts, stmts_texts, body_layout}

-- ---- places

module _ (fs : List TFunction) (vars : List Variable) where
  first_placed : (l : Layout) (o : Option TFirst) → IfAny (FineFirst fs vars) o → Placed (first_places l o)
  first_placed l None f = refl
  first_placed l (Some (t_first_declare xs s)) f = items_placed fs vars l xs f
  first_placed l (Some (t_first_simple x)) f = simple_placed fs vars l x f

  test_placed : (l : Layout) (o : Option TExpr) → IfAny (FineValue fs vars Truth) o → Placed (test_places l o)
  test_placed l None f = refl
  test_placed l (Some e) f = expr_placed fs vars l e f.0

  step_placed : (l : Layout) (o : Option TSimple) → IfAny (FineSimple fs vars) o → Placed (step_places l o)
  step_placed l None f = refl
  step_placed l (Some x) f = simple_placed fs vars l x f

  ranges_placed : (l : Layout) (rs : List TRange) → All (FineRange fs vars) rs → Placed (ranges_places l rs)
  ranges_placed l [] f = refl
  ranges_placed l (r ∷ rs) f =
      let g = f 0 r (omega arith) in
      placed_both (expr_places l r.start) (expr_places l r.end ++ ranges_places l rs) (expr_placed fs vars l r.start g.start.0)
      (placed_both (expr_places l r.end) (ranges_places l rs) (expr_placed fs vars l r.end g.end.0) (ranges_placed l rs (λ k d lt. f (suc k) d (omega (arith, lt)))))

  returned_placed : (l : Layout) (answer : Option Ty) (x : TExpr) → FineReturned fs vars answer (Some x) → Placed (expr_places l x)
  returned_placed l None x f = absurd f
  returned_placed l (Some t) x f = expr_placed fs vars l x f.0

  module _ (answer : Option Ty) where
    mutual
      stmt_placed : (l : Layout) (x : TStmt) → FineStmt fs vars answer x → Placed (stmt_places l x)
      stmt_placed l (t_block b) f = block_placed l b f
      stmt_placed l (t_declare xs s) f = items_placed fs vars l xs f
      stmt_placed l (t_simple x s) f = simple_placed fs vars l x f
      stmt_placed l (t_if k n e x s) f = placed_both (expr_places l e) (stmt_places l x) (expr_placed fs vars l e f.1.0) (stmt_placed l x f.2)
      stmt_placed l (t_if_else k n e x y s) f =
          placed_both (expr_places l e) (stmt_places l x ++ stmt_places l y) (expr_placed fs vars l e f.1.0) (placed_both (stmt_places l x) (stmt_places l y) (stmt_placed l x f.2) (stmt_placed l y f.3))
      stmt_placed l (t_while k n e x s) f =
          let test = expr_placed fs vars l e f.1.0 in
          placed_both (expr_places l e) (stmt_places l x ++ expr_places l e) test (placed_both (stmt_places l x) (expr_places l e) (stmt_placed l x f.2) test)
      stmt_placed l (t_do k n x e s) f = placed_both (stmt_places l x) (expr_places l e) (stmt_placed l x f.1) (expr_placed fs vars l e f.2.0)
      stmt_placed l (t_for k n first e step i x s) f =
          let back = step_places l step ++ test_places l e in
          let test = test_placed l e f.3 in
          placed_both (first_places l first) (test_places l e ++ (stmt_places l x ++ back)) (first_placed l first f.2)
          (placed_both (test_places l e) (stmt_places l x ++ back) test (placed_both (stmt_places l x) back (stmt_placed l x f.5) (placed_both (step_places l step) (test_places l e) (step_placed l step f.4) test)))
      stmt_placed l (t_foreach w n rs x s) f =
          let px = stmt_places (body_layout l rs) x in
          let part = stmt_placed (body_layout l rs) x f.2 in
          placed_both (ranges_places l rs) (px ++ px) (ranges_placed l rs f.1) (placed_both px px part part)
      stmt_placed l (t_foreach_active w n i x s) f = stmt_placed l x f.2
      stmt_placed l (t_foreach_unique w n i t e x s) f = placed_both (expr_places l e) (stmt_places l x) (expr_placed fs vars l e f.2.0) (stmt_placed l x f.3)
      stmt_placed l (t_unmasked w b s) f = block_placed (outside l) b f
      stmt_placed l (t_jump j w s) f = refl
      stmt_placed l (t_return w None s) f = refl
      stmt_placed l (t_return w (Some x) s) f = returned_placed l answer x f
      stmt_placed l (t_print w text xs s) f = shown_placed fs vars l xs f.1
      stmt_placed l (t_assert x c s) f = placed_both (expr_places l x) (c ∷ []) (expr_placed fs vars l x f.0.0) (placed_one c f.1)

      pub block_placed : (l : Layout) (b : TBlock) → FineBlock fs vars answer b → Placed (block_places l b)
      block_placed l (t_braces xs s) f = stmts_placed l xs f

      stmts_placed : (l : Layout) (xs : TStmts) → FineStmts fs vars answer xs → Placed (stmts_places l xs)
      stmts_placed l t_no_stmts f = refl
      stmts_placed l (t_stmt_then x xs) f = placed_both (stmt_places l x) (stmts_places l xs) (stmt_placed l x f.0) (stmts_placed l xs f.1)

-- ---- texts

abbrev Told : List (List ℕ) → Type 0
Told ts = list_all has_byte ts ≡ true

told_both : (ts us : List (List ℕ)) → Told ts → Told us → Told (ts ++ us)
told_both ts us a b = all_both has_byte ts us a b

before_told : (b : ℕ) (ps : List Part) → Told (words_of ps) → Told (words_of (before b ps))
before_told b [] h = refl
before_told b (Words t ∷ ps) h = (and_parts (has_byte t) (list_all has_byte (words_of ps)) h).1
before_told b (Value ∷ ps) h = h

part_told : (b : ℕ) (ps : List Part) (z : Bool) → Told (words_of ps) → Told (words_of (if z then Value ∷ ps else before b ps))
part_told b ps true h = h
part_told b ps false h = before_told b ps h

parts_told : (bs : List ℕ) → Told (words_of (parts bs))
parts_told [] = refl
parts_told (b ∷ bs) = part_told b (parts bs) (b == percent) (parts_told bs)

mutual
  stmt_told : (x : TStmt) → Told (stmt_texts x)
  stmt_told (t_block b) = block_told b
  stmt_told (t_declare xs s) = refl
  stmt_told (t_simple x s) = refl
  stmt_told (t_if k n e x s) = stmt_told x
  stmt_told (t_if_else k n e x y s) = told_both (stmt_texts x) (stmt_texts y) (stmt_told x) (stmt_told y)
  stmt_told (t_while k n e x s) = stmt_told x
  stmt_told (t_do k n x e s) = stmt_told x
  stmt_told (t_for k n first e step i x s) = stmt_told x
  stmt_told (t_foreach w n rs x s) = told_both (stmt_texts x) (stmt_texts x) (stmt_told x) (stmt_told x)
  stmt_told (t_foreach_active w n i x s) = stmt_told x
  stmt_told (t_foreach_unique w n i t e x s) = stmt_told x
  stmt_told (t_unmasked w b s) = block_told b
  stmt_told (t_jump j w s) = refl
  stmt_told (t_return w x s) = refl
  stmt_told (t_print w text xs s) = parts_told text
  stmt_told (t_assert x c s) = refl

  pub block_told : (b : TBlock) → Told (block_texts b)
  block_told (t_braces xs s) = stmts_told xs

  stmts_told : (xs : TStmts) → Told (stmts_texts xs)
  stmts_told t_no_stmts = refl
  stmts_told (t_stmt_then x xs) = told_both (stmt_texts x) (stmts_texts xs) (stmt_told x) (stmts_told xs)
