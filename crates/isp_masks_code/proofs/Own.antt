-- What a body asks for is the function's own, where names and types accept it.
use Rattle.std.proofs.Common.{◌≡◌, ℕ, zero, suc, ◌+◌, ◌≤◌, arith, List, [], ◌∷◌, length, take, drop, Option, Some, None, refl, ap, subst, true}
use Rattle.std.specs.Prelude.{slice_get}
use Rattle.std.specs.List.{All}
use Rattle.isp_base.specs.declared.types.Elem.{Elem}
use Rattle.isp_base.specs.declared.types.Elem.TheVariants.{Bool as Truth, I32, I64}
use Rattle.isp_base.specs.declared.types.Rate.{Rate}
use Rattle.isp_base.specs.declared.types.Rate.TheVariants.{Uniform, Varying}
use Rattle.isp_base.specs.declared.types.Ty.{Ty}
use Rattle.isp_tree.specs.Sound.{IfAny}
use Rattle.isp_tree.specs.declared.stmt.Form.{Form}
use Rattle.isp_tree.specs.declared.stmt.Form.TheVariants.{Plain, Coherent}
use Rattle.isp_typed.specs.Fine.{HoldsValue, FineRange, IsParam, AreParams, IsDeclared, FineExpr, FineFunction, FineValue, FineSimple, FineFirst, FineReturned, FineStmt, FineBlock, FineStmts}
use Rattle.isp_typed.specs.Indices.{unique_index, foreach_index}
use Rattle.isp_typed.specs.Typed.{TExpr, t_exprs, ty_of, type_of, TSimple, TFirst, t_first_declare, t_first_simple, TRange, TStmt, t_block, t_declare, t_simple, t_if, t_if_else, t_while, t_do, t_for, t_foreach}
use Rattle.isp_typed.specs.Typed.{t_foreach_active, t_foreach_unique, t_unmasked, t_jump, t_return, t_print, t_assert, TBlock, t_braces, TStmts, t_no_stmts, t_stmt_then, TFunction}
use Rattle.isp_base.specs.declared.signature.Parameter.{Parameter}
use Rattle.isp_typed.specs.declared.variable.Holds.{Holds}
use Rattle.isp_typed.specs.declared.variable.Holds.TheVariants as holds
use Rattle.isp_typed.specs.declared.variable.Variable.{Variable}
use Rattle.isp_lower_code.specs.Header.{AreSmall, HeadingFits, IsSmall}
use Rattle.isp_lower_code.specs.Asks.{test_asks, values_asks}
use Rattle.isp_lower_code.specs.Own.{IsOwn}
use Rattle.isp_lower_code.proofs.Lemmas.{expr_own, items_own, operand_own, simple_own}
use Rattle.isp_masks_code.specs.Asks.{answer_asks, unique_asks, bound_asks, bounds_asks, places_asks, ranges_asks, part_asks, part_slot, parts_slot, loop_asks, first_asks, test_part_asks, step_asks, stmt_asks, block_asks, stmts_asks, result_asks}
use Rattle.isp_masks_code.specs.Lowered.{BodyIsOwn}
use Rattle.isp_masks_code.specs.Prints.{own_rates}
use Rattle.isp_masks_code.specs.Ranges.{places_slot, runs_slot}

returned_own : (fs : List TFunction) (vars : List Variable) (answer : Option Ty) (x : TExpr) (n : ℕ) → FineReturned fs vars answer (Some x) → IsOwn vars answer (answer_asks answer x n)
returned_own fs vars None x n f = absurd f
returned_own fs vars (Some t) x n f = (refl, operand_own vars (Some t) fs t.rate x n f.0)

module _ (fs : List TFunction) (vars : List Variable) (answer : Option Ty) where
  part_own : (f : Form) (r : Rate) (n : ℕ) → IsOwn vars answer (part_asks f r n)
  part_own f Uniform n = tt
  part_own Plain Varying n = (tt, tt)
  part_own Coherent Varying n = ((tt, tt), (tt, tt))

  mask_own : (r : Rate) (n : ℕ) → IsOwn vars answer (test_asks r n)
  mask_own Uniform n = tt
  mask_own Varying n = tt

  -- the values of a `print`
  shown_own : (xs : List TExpr) (n : ℕ) → All (FineExpr fs vars) xs → IsOwn vars answer (values_asks (own_rates xs) (t_exprs xs) n)
  shown_own [] n f = tt
  shown_own (x ∷ xs) n f =
      (tt, (operand_own vars answer fs (type_of x).rate x n (f 0 x (omega arith)), shown_own xs (n + 1) (λ k d lt. f (suc k) d (omega arith))))

  -- the index of turns
  turn_own : (i : ℕ) (t : Elem) → slice_get vars i ≡ Some (unique_index t) → HoldsValue vars i (ty_of Uniform t)
  turn_own i t e = record { constant = true; is = e }

  loop_own : (n : ℕ) → IsOwn vars answer (loop_asks n)
  loop_own n = (tt, (tt, (tt, tt)))

  unique_own : (i : ℕ) (t : Elem) (e : TExpr) (n : ℕ) → slice_get vars i ≡ Some (unique_index t) → FineExpr fs vars e → IsOwn vars answer (unique_asks i t e n)
  unique_own i t e n is f = (operand_own vars answer fs Varying e n f, (tt, (turn_own i t is, (tt, ((tt, (tt, (tt, tt))), (tt, loop_own (n + 1)))))))

  bound_own : (x : TExpr) (n : ℕ) → FineValue fs vars I32 x → IsOwn vars answer (bound_asks x n)
  bound_own x n f = (tt, (tt, (tt, expr_own vars answer fs x n f.0)))

  bounds_own : (rs : List TRange) (n : ℕ) → All (FineRange fs vars) rs → IsOwn vars answer (bounds_asks rs n)
  bounds_own [] n f = tt
  bounds_own (r ∷ rs) n f =
      let g = f 0 r (omega arith) in
      (bound_own r.start n g.start, (tt, (bound_own r.end (n + 1) g.end, (tt, bounds_own rs (n + 1 + 1) (λ k d lt. f (suc k) d (omega (arith, lt)))))))

  index_own : (i : ℕ) → slice_get vars i ≡ Some foreach_index → HoldsValue vars i (ty_of Varying I32)
  index_own i e = record { constant = true; is = e }

  places_own : (rs : List TRange) (m : ℕ) → All (FineRange fs vars) rs → IsOwn vars answer (places_asks rs m)
  places_own [] m f = tt
  places_own (r ∷ rs) m f =
      let g = f 0 r (omega arith) in
      ((index_own r.index g.index, (tt, (tt, (tt, (tt, (tt, (tt, tt))))))), (tt, places_own rs (m + 1 + 1) (λ k d lt. f (suc k) d (omega (arith, lt)))))

  ranges_own : (rs : List TRange) (n : ℕ) → All (FineRange fs vars) rs → IsOwn vars answer (ranges_asks rs n)
  ranges_own rs n f = ((tt, (tt, (tt, (tt, (tt, (tt, (tt, tt))))))), (bounds_own rs (n + 1 + 1) f, (places_own rs (places_slot n rs) f, loop_own (runs_slot n rs))))

  first_own : (o : Option TFirst) (n : ℕ) → IfAny (FineFirst fs vars) o → IsOwn vars answer (first_asks o n)
  first_own None n f = tt
  first_own (Some (t_first_declare xs sp)) n f = items_own vars answer fs xs n f
  first_own (Some (t_first_simple x)) n f = simple_own vars answer fs x n f

  test_own : (o : Option TExpr) (n : ℕ) → IfAny (FineValue fs vars Truth) o → IsOwn vars answer (test_part_asks o n)
  test_own None n f = tt
  test_own (Some e) n f = expr_own vars answer fs e n f.0

  step_own : (o : Option TSimple) (n : ℕ) → IfAny (FineSimple fs vars) o → IsOwn vars answer (step_asks o n)
  step_own None n f = tt
  step_own (Some x) n f = simple_own vars answer fs x n f

  mutual
    pub stmt_own : (x : TStmt) (n : ℕ) → FineStmt fs vars answer x → IsOwn vars answer (stmt_asks answer x n)
    stmt_own (t_block b) n f = block_own b n f
    stmt_own (t_declare xs sp) n f = items_own vars answer fs xs n f
    stmt_own (t_simple x sp) n f = simple_own vars answer fs x n f
    stmt_own (t_if k g e x sp) n f =
        (expr_own vars answer fs e n f.1.0, (part_own k (type_of e).rate n, stmt_own x (part_slot k (type_of e).rate n) f.2))
    stmt_own (t_if_else k g e x y sp) n f =
        (expr_own vars answer fs e n f.1.0, (part_own Coherent (type_of e).rate n, (stmt_own x (parts_slot (type_of e).rate n) f.2, stmt_own y (parts_slot (type_of e).rate n) f.3)))
    stmt_own (t_while k g e x sp) n f = (loop_own n, (expr_own vars answer fs e (n + 3) f.1.0, stmt_own x (n + 3) f.2))
    stmt_own (t_do k g x e sp) n f = (loop_own n, (stmt_own x (n + 3) f.1, expr_own vars answer fs e (n + 3) f.2.0))
    stmt_own (t_for k g first e step i x sp) n f =
        (first_own first n f.2, (loop_own n, (test_own e (n + 3) f.3, (step_own step (n + 3) f.4, stmt_own x (n + 3) f.5))))
    stmt_own (t_foreach k g rs x sp) n f = (ranges_own rs n f.1, stmt_own x (runs_slot n rs + 3) f.2)
    stmt_own (t_foreach_active k g i x sp) n f = ((turn_own i I64 f.1, (tt, (tt, loop_own (n + 1)))), stmt_own x (n + 1 + 3) f.2)
    stmt_own (t_foreach_unique k g i t e x sp) n f = (unique_own i t e n f.1 f.2.0, stmt_own x (n + 1 + 3) f.3)
    stmt_own (t_unmasked k b sp) n f = (loop_own n, block_own b (n + 3) f)
    stmt_own (t_jump j k sp) n f = tt
    stmt_own (t_return k None sp) n f = tt
    stmt_own (t_return k (Some x) sp) n f = returned_own fs vars answer x n f
    stmt_own (t_print k text xs sp) n f = shown_own xs n f.1
    stmt_own (t_assert x c sp) n f = (expr_own vars answer fs x n f.0.0, mask_own (type_of x).rate n)

    pub block_own : (b : TBlock) (n : ℕ) → FineBlock fs vars answer b → IsOwn vars answer (block_asks answer b n)
    block_own (t_braces xs sp) n f = stmts_own xs n f

    pub stmts_own : (xs : TStmts) (n : ℕ) → FineStmts fs vars answer xs → IsOwn vars answer (stmts_asks answer xs n)
    stmts_own t_no_stmts n f = tt
    stmts_own (t_stmt_then x xs) n f = (stmt_own x n f.0, stmts_own xs n f.1)

pub body_own : (fs : List TFunction) (h : TFunction) → FineFunction fs h → BodyIsOwn h
body_own fs h fine = block_own fs h.variables h.answer h.body 3 fine.body

-- ---- the register of what a function gives back

pub result_own : (vars : List Variable) (answer : Option Ty) → IsOwn vars answer (result_asks answer)
result_own vars None = tt
result_own vars (Some t) = refl

-- ---- a fine function has a heading

few_params : (n : ℕ) (ps : List Parameter) (vs : List Variable) → AreParams ps (take n vs) → length ps ≤ length vs
few_params n [] vs are = omega arith
few_params zero (p ∷ ps) [] are = absurd are
few_params zero (p ∷ ps) (v ∷ vs) are = absurd are
few_params (suc n) (p ∷ ps) [] are = absurd are
few_params (suc n) (p ∷ ps) (v ∷ vs) are = let rest = few_params n ps vs are.1 in omega (arith, rest)

small_param : (p : Parameter) (y : Holds) → IsParam p y → IsSmall y
small_param p (holds.Value t) is = tt
small_param p (holds.Given t) is = tt
small_param p (holds.Local t n) is = absurd is

small_declared : (x : Variable) → IsDeclared x → IsSmall x.holds
small_declared x is = go x.holds refl
  where
    go : (y : Holds) → x.holds ≡ y → IsSmall y
    go (holds.Value t) e = tt
    go (holds.Given t) e = tt
    go (holds.Local t n) e =
        let own : IsDeclared (record { holds = holds.Local t n; constant = x.constant }) = subst IsDeclared (ap (λ z. record { holds = z; constant = x.constant }) e) is in
        omega (arith, own.few)

all_small : (n : ℕ) (ps : List Parameter) (vs : List Variable) → AreParams ps (take n vs) → All IsDeclared (drop n vs) → AreSmall vs
all_small n ps [] are declared = tt
all_small zero ps (v ∷ vs) are declared = (small_declared v (declared 0 v (omega arith)), all_small zero [] vs tt (λ k d lt. declared (suc k) d (omega (arith, lt))))
all_small (suc n) [] (v ∷ vs) are declared = absurd are
all_small (suc n) (p ∷ ps) (v ∷ vs) are declared = (small_param p v.holds are.0, all_small n ps vs are.1 declared)

pub heading_fits : (fs : List TFunction) (h : TFunction) → FineFunction fs h → HeadingFits h
heading_fits fs h fine = record {
  params = few_params (length h.params) h.parameters h.variables fine.params;
  small = all_small (length h.params) h.parameters h.variables fine.params fine.declared;
}
