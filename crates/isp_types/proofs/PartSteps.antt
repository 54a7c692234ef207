-- Parts of statements: steps of their loops.
use Rattle.std.proofs.Common.{◌≡◌, ℕ, ◌+◌, refl, sym, ap, subst, ◌∙◌, ◌++◌, map, inl, inr, ◌⊎◌, arith}
use Rattle.std.specs.Global.{Box}
use Rattle.std.specs.declared.iter.Zip.{Zip}
use Rattle.std.specs.declared.slice.Iter.{Iter}
use denote.Ref.{Bor}
use Rattle.std.specs.declared.vec.IntoIter.{IntoIter}
use Rattle.std.specs.Iterator.Adapters.{zip_first, zip_second}
use Rattle.std.specs.Slice.Iter.{iter_rest}
use Rattle.std.specs.Vec.Iter.{into_iter_items, into_iter_len, into_iter_steps}
use Rattle.std.proofs.iter.Yields.{fronts}
use Rattle.std.proofs.lemmas.Iterator.{zips}
use Rattle.std.proofs.lemmas.List.{nil_from_length, length-map}
use Rattle.std.specs.Prelude.{Result, Ok, Err, Option, Some, None, option_map, true, List, [], ◌∷◌, length}
use Rattle.isp_base.specs.declared.types.Gang.{Gang}
use Rattle.isp_base.specs.declared.types.Span.{Span}
use Rattle.isp_base.specs.declared.types.Ty.{Ty}
use Rattle.isp_lex.specs.declared.fault.Fault.{Fault}
use Rattle.isp_lex.specs.declared.fault.Rule.TheVariants.{Mismatch}
use Rattle.isp_lex.specs.Faults.{fault}
use Rattle.isp_tree.specs.declared.expr.Expr as rust
use Rattle.isp_tree.specs.declared.stmt.Range as rust_range
use Rattle.isp_tree.specs.Tree.{Expr}
use Rattle.isp_tree.specs.Views.{expr_of as read_expr, range_of as read_range}
use Rattle.isp_typed.specs.declared.variable.Variable.{Variable}
use Rattle.isp_typed.specs.Verdicts.{both, made, beside, fault_unless}
use Rattle.isp_typed.specs.declared.expr.TypedExpr.{TypedExpr}
use Rattle.isp_typed.specs.Typed.{TExpr, TRange}
use Rattle.isp_exprs.specs.reader.Parts.{boxed_of}
use Rattle.isp_types.specs.reader.Boxes.{boxed_pair}
use Rattle.isp_typed.proofs.Verdicts.{beside_made}
use Rattle.isp_exprs.specs.declared.scope.Binding.{Binding}
use Rattle.isp_exprs.specs.Scopes.{with_name}
use Rattle.isp_exprs.specs.Callees.{Heading}
use Rattle.isp_types.specs.Numbering.{range_names, range_variables}
use Rattle.isp_types.specs.Statements.{range_made, agrees, as_answer, ranges_typing, returned_typing, values_typing}
use Rattle.isp_typed.specs.Indices.{foreach_index as index}
use Rattle.isp_exprs.specs.Rules.{expr_typing}
use Rattle.isp_exprs.specs.reader.Lists.{and_one}
use Rattle.isp_types.specs.reader.Lists.{agrees_with, bounds_verdict, twice}
use Rattle.isp_types.proofs.Joined.{joined, joined_step, joined_last, some_made}

module _ (gang : Gang) (hs : List Heading) (ns : List Binding) where
  pub values_step : (rest more : List rust.Expr) (total : Result (List TExpr) Fault) (a : Result (List TExpr) Fault) (x : rust.Expr) → rest ≡ x ∷ more
      → joined a (values_typing gang hs ns (map read_expr rest)).verdict ≡ total
      → joined (made and_one (both a (expr_typing gang hs ns (read_expr x)).verdict)) (values_typing gang hs ns (map read_expr more)).verdict ≡ total
  values_step rest more total a x split e =
      joined_step a (expr_typing gang hs ns (read_expr x)).verdict (values_typing gang hs ns (map read_expr more)).verdict
      ∙ subst (λ (z : List rust.Expr). joined a (values_typing gang hs ns (map read_expr z)).verdict ≡ total) split e

  pub ranges_step : (start : ℕ) (is : List Binding) (vars : List Variable) (rest more : List rust_range.Range) (total : Result (List TRange) Fault) (a : Result (List TRange) Fault) (r : rust_range.Range)
      → rest ≡ r ∷ more
      → joined a (ranges_typing gang hs ns start is vars (map read_range rest)).verdict ≡ total
      → joined (made and_one (both a (made (range_made (length vars) r.span) (beside (twice r.word start is) (bounds_verdict gang hs ns (read_range r))))))
      (ranges_typing gang hs ns start (with_name is vars r.word.name (Ok index)) (vars ++ index ∷ []) (map read_range more)).verdict ≡ total
  ranges_step start is vars rest more total a r split e =
      joined_step a (made (range_made (length vars) r.span) (beside (twice r.word start is) (bounds_verdict gang hs ns (read_range r))))
      (ranges_typing gang hs ns start (with_name is vars r.word.name (Ok index)) (vars ++ index ∷ []) (map read_range more)).verdict
      ∙ subst (λ (z : List rust_range.Range). joined a (ranges_typing gang hs ns start is vars (map read_range z)).verdict ≡ total) split e

  -- where no range is left
  pub ranges_end : (start : ℕ) (is : List Binding) (vars : List Variable) (rest : List rust_range.Range) (total : Result (List TRange) Fault) (a : Result (List TRange) Fault)
      → rest ≡ [] → joined a (ranges_typing gang hs ns start is vars (map read_range rest)).verdict ≡ total → a ≡ total
  ranges_end start is vars rest total a none e =
      sym (joined_last a) ∙ subst (λ (z : List rust_range.Range). joined a (ranges_typing gang hs ns start is vars (map read_range z)).verdict ≡ total) none e

pub range_names_step : (is : List Binding) (vars : List Variable) (rest more : List rust_range.Range) (total : List Binding) (r : rust_range.Range) → rest ≡ r ∷ more
    → range_names is vars (map read_range rest) ≡ total → range_names (with_name is vars r.word.name (Ok index)) (vars ++ index ∷ []) (map read_range more) ≡ total
range_names_step is vars rest more total r split e = subst (λ (z : List rust_range.Range). range_names is vars (map read_range z) ≡ total) split e

pub range_variables_step : (vars : List Variable) (rest more : List rust_range.Range) (total : List Variable) (r : rust_range.Range) → rest ≡ r ∷ more
    → range_variables vars (map read_range rest) ≡ total → range_variables (vars ++ index ∷ []) (map read_range more) ≡ total
range_variables_step vars rest more total r split e = subst (λ (z : List rust_range.Range). range_variables vars (map read_range z) ≡ total) split e

-- the bounds of a range as the rules see them
abbrev pub bounds_of : Result (Box TypedExpr × Box TypedExpr) Fault → Result (TExpr × TExpr) Fault
bounds_of = made boxed_pair

-- a range of bounds that are seen by a view, with a fault beside them
pub bounds_part : {A : Type 0} (view : A → TExpr × TExpr) (k : ℕ) (s : Span) (o : Option Fault) (b : Result A Fault) (j : Result (TExpr × TExpr) Fault) → made view b ≡ j
    → made (range_made k s) (made view (beside o b)) ≡ made (range_made k s) (beside o j)
bounds_part view k s o b j e = ap (made (range_made k s)) (beside_made view o b ∙ ap (beside o) e)

-- the first of two lists that agree, and the rest
pub first_agrees : {A B C : Type 0} (f : A → C) (g : B → C) (xs more : List A) (ys rest : List B) (x : A) (y : B) → xs ≡ x ∷ more → ys ≡ y ∷ rest
    → map f xs ≡ map g ys → f x ≡ g y
first_agrees f g xs more ys rest x y p q e = let h : f x ∷ map f more ≡ g y ∷ map g rest = sym (ap (map f) p) ∙ (e ∙ ap (map g) q) in cc

pub rest_agrees : {A B C : Type 0} (f : A → C) (g : B → C) (xs more : List A) (ys rest : List B) (x : A) (y : B) → xs ≡ x ∷ more → ys ≡ y ∷ rest
    → map f xs ≡ map g ys → map f more ≡ map g rest
rest_agrees f g xs more ys rest x y p q e = let h : f x ∷ map f more ≡ g y ∷ map g rest = sym (ap (map f) p) ∙ (e ∙ ap (map g) q) in cc

pub agrees_empty : {A B C : Type 0} (f : A → C) (g : B → C) (xs : List A) (ys : List B) → map f xs ≡ map g ys → length xs ≡ 0 → length ys ≡ 0
agrees_empty f g [] [] e h = refl
agrees_empty f g [] (y ∷ ys) e h = cc
agrees_empty f g (x ∷ xs) ys e h = absurd (omega arith)

-- ---- a loop over a slice beside a list that is used up

module _ {A B Z : Type 0} where
  pub one_more : (s t : Zip (Iter A) (IntoIter B Z)) (r : Option (Bor A × B)) (p : Bor A × B) → r ≡ Some p → zips fronts into_iter_steps s r t
      → (iter_rest (zip_first s) ≡ p.0.now ∷ iter_rest (zip_first t)) × (into_iter_items (zip_second s) ≡ p.1 ∷ into_iter_items (zip_second t))
      × (into_iter_len (zip_second t) + 1 ≡ into_iter_len (zip_second s))
  one_more s t r p e h = let k : zips fronts into_iter_steps s (Some p) t = subst (λ o. zips fronts into_iter_steps s o t) e h in (k.0, k.1.0, k.1.1)

  pub no_more : {C D : Type 0} (f : B → D) (g : C → D) (read : A → C) (s t : Zip (Iter A) (IntoIter B Z)) (r : Option (Bor A × B)) → r ≡ None → zips fronts into_iter_steps s r t
      → into_iter_len (zip_second s) ≡ length (into_iter_items (zip_second s)) → map f (into_iter_items (zip_second s)) ≡ map g (map read (iter_rest (zip_first s))) → iter_rest (zip_first s) ≡ []
  no_more f g read s t r e h long agree = by (subst (λ o. zips fronts into_iter_steps s o t) e h)
    where
      by : ((u : Iter A) × fronts (zip_first s) None u) ⊎ ((u : IntoIter B Z) × into_iter_steps (zip_second s) None u) → iter_rest (zip_first s) ≡ []
      by (inl a) = nil_from_length _ a.1.0
      by (inr b) = nil_from_length _ (omega (arith, length-map (iter_rest (zip_first s)) read, agrees_empty f g _ _ agree (sym long ∙ b.1.0)))

-- ---- what is given back

agrees_same : {A : Type 0} (answer : Result (Option Ty) Fault) (y : A) → agrees_with answer true ≡ agrees answer (Some y)
agrees_same (Err f) y = refl
agrees_same (Ok None) y = refl
agrees_same (Ok (Some t)) y = refl

module _ (gang : Gang) (hs : List Heading) (ns : List Binding) where
  pub returned_is : (answer : Result (Option Ty) Fault) (k : Span) (y : Expr) (seen : Option Fault) (v w : Result (Box TypedExpr) Fault)
      → seen ≡ fault_unless (agrees_with answer true) (fault Mismatch k) → made boxed_of w ≡ made (as_answer answer) (made boxed_of v) → made boxed_of v ≡ (expr_typing gang hs ns y).verdict
      → made (option_map boxed_of) (beside seen (made (λ t. Some t) w)) ≡ (returned_typing gang hs answer ns k (Some y)).verdict
  returned_is answer k y seen v w s p q =
      beside_made (option_map boxed_of) seen (made (λ t. Some t) w)
      ∙ (ap (beside seen) (some_made boxed_of w ∙ ap (made (λ b. Some b)) (p ∙ ap (made (as_answer answer)) q))
      ∙ ap (λ o. beside o (made (λ b. Some b) (made (as_answer answer) (expr_typing gang hs ns y).verdict))) (s ∙ ap (λ b. fault_unless b (fault Mismatch k)) (agrees_same answer y)))
