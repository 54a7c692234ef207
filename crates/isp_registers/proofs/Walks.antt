-- Arguments of a call, and values of a call of the library, one after the other: what is left of them begins with the next one.
use Rattle.std.proofs.Common.{◌≡◌, ℕ, zero, suc, ◌<◌, ◌≤◌, ◌+◌, List, [], ◌∷◌, length, drop, get_or, Option, Some, None, refl, sym, ap, ◌∙◌, arith, add-one}
use Rattle.std.specs.Prelude.{slice_get}
use Rattle.std.proofs.lemmas.List.{drop_more, drop_all}
use Rattle.isp_base.specs.declared.types.Rate.{Rate}
use Rattle.isp_base.specs.declared.types.Rate.TheVariants.{Varying}
use Rattle.isp_typed.specs.declared.expr.TypedArgument as rust_argument
use Rattle.isp_typed.specs.declared.expr.TypedCall as rust_call
use Rattle.isp_typed.specs.declared.expr.TypedArgument.TheFolds.{fold_out-TypedCall}
use Rattle.isp_typed.specs.Nodes.{argument_nodes, arguments_nodes, call_nodes, exprs_nodes, typed_nodes}
use Rattle.isp_typed.specs.Typed.{TExpr, TPlace, TBase, TArgument, TCall, t_called, t_arguments, t_exprs}
use Rattle.isp_typed.specs.Views.{argument_step, base_step, call_step, expr_step, place_step, argument_of, arguments_of, call_of, expr_of, exprs_of}
use Rattle.isp_lower_code.specs.Asks.{Both, Nothing, Number, argument_asks, arguments_asks, operand_asks, values_asks}
use Rattle.isp_lower_code.specs.Callees.{later, next_rate}
use Rattle.std.proofs.Common.{◌≡◌, ℕ, zero, suc, ◌<◌, ◌≤◌, ◌+◌, List, [], ◌∷◌, length, drop, get_or, Option, Some, None, refl, sym, ap, ◌∙◌, arith}
use Rattle.isp_typed.specs.Library.{asks_uniform}
use Rattle.isp_typed.specs.declared.expr.TypedExpr as rust
use Rattle.isp_typed.specs.declared.library.Part.{Part}
use Rattle.isp_lower_code.specs.Library.{rate_taken, rates_taken}

-- ---- arguments: the recursion goes down

pub call_view : (c : rust_call.TypedCall) → call_of c ≡ t_called c.function (t_arguments (arguments_of c.arguments.items)) c.span
call_view c = fold_out-TypedCall TArgument TBase TExpr TPlace TCall argument_step base_step expr_step place_step call_step c

pub call_counts : (c : rust_call.TypedCall) → call_nodes (call_of c) ≡ suc (arguments_nodes (t_arguments (arguments_of c.arguments.items)))
call_counts c = ap call_nodes (call_view c)

pub argument_within : (xs : List rust_argument.TypedArgument) (i : ℕ) (x : rust_argument.TypedArgument) → i < length xs → x ≡ get_or xs i x → argument_nodes (argument_of x) ≤ arguments_nodes (t_arguments (arguments_of xs))
argument_within [] i x h e = absurd (omega (arith, h))
argument_within (y ∷ ys) zero x h e =
    let same : argument_nodes (argument_of x) ≡ argument_nodes (argument_of y) = ap (λ z. argument_nodes (argument_of z)) e in
    omega (arith, same)
argument_within (y ∷ ys) (suc i) x h e =
    let rest = argument_within ys i x (omega (arith, h)) e in
    omega (arith, rest)

-- ---- what is asked for

pub arguments_more : (m : ℕ) (all : List rust_argument.TypedArgument) (i : ℕ) (x : rust_argument.TypedArgument) → i < length all → x ≡ get_or all i x
    → arguments_asks (t_arguments (arguments_of (drop i all))) m ≡ Both (Number (m + 1)) (Both (argument_asks (argument_of x) m) (arguments_asks (t_arguments (arguments_of (drop (i + 1) all))) (m + 1)))
arguments_more m all i x lt is =
    ap (λ z. arguments_asks (t_arguments (arguments_of z)) m) (drop_more all i x lt)
    ∙ ap (λ z. Both (Number (m + 1)) (Both (argument_asks (argument_of z) m) (arguments_asks (t_arguments (arguments_of (drop (i + 1) all))) (m + 1)))) (sym is)

pub arguments_end : (m : ℕ) (all : List rust_argument.TypedArgument) (i : ℕ) → length all ≤ i → arguments_asks (t_arguments (arguments_of (drop i all))) m ≡ Nothing
arguments_end m all i le = ap (λ z. arguments_asks (t_arguments (arguments_of z)) m) (drop_all i all le)

-- ---- values: the rate at which one is taken

later_suc : (i : ℕ) (rs : List Rate) → later (drop i rs) ≡ drop (suc i) rs
later_suc zero [] = refl
later_suc zero (r ∷ rs) = refl
later_suc (suc i) [] = refl
later_suc (suc i) (r ∷ rs) = later_suc i rs

pub later_drop : (i : ℕ) (rs : List Rate) → later (drop i rs) ≡ drop (i + 1) rs
later_drop i rs = later_suc i rs ∙ ap (λ n. drop n rs) (sym (add-one i))

pub rate_there : (r : Rate) (ps : List Part) (j : ℕ) (p : Part) → slice_get ps j ≡ Some p → next_rate (drop j (rates_taken r ps)) ≡ rate_taken r (asks_uniform p)
rate_there r [] zero p e = absurd (cc)
rate_there r [] (suc j) p e = absurd (cc)
rate_there r (q ∷ ps) zero p e = ap (λ o. taken_or o) e
  where
    taken_or : Option Part → Rate
    taken_or None = Varying
    taken_or (Some u) = rate_taken r (asks_uniform u)
rate_there r (q ∷ ps) (suc j) p e = rate_there r ps j p e

pub rate_none : (r : Rate) (ps : List Part) (j : ℕ) → slice_get ps j ≡ None → next_rate (drop j (rates_taken r ps)) ≡ Varying
rate_none r [] zero e = refl
rate_none r [] (suc j) e = refl
rate_none r (q ∷ ps) zero e = absurd (cc)
rate_none r (q ∷ ps) (suc j) e = rate_none r ps j e

-- ---- the recursion goes down

pub value_within : (xs : List rust.TypedExpr) (i : ℕ) (x : rust.TypedExpr) → i < length xs → x ≡ get_or xs i x → typed_nodes (expr_of x) ≤ exprs_nodes (t_exprs (exprs_of xs))
value_within [] i x h e = absurd (omega (arith, h))
value_within (y ∷ ys) zero x h e =
    let same : typed_nodes (expr_of x) ≡ typed_nodes (expr_of y) = ap (λ z. typed_nodes (expr_of z)) e in
    omega (arith, same)
value_within (y ∷ ys) (suc i) x h e =
    let rest = value_within ys i x (omega (arith, h)) e in
    omega (arith, rest)

next_of : (all : List rust.TypedExpr) (i : ℕ) (x : rust.TypedExpr) → i < length all → x ≡ get_or all i x → drop i all ≡ x ∷ drop (i + 1) all
next_of all i x lt is = drop_more all i x lt ∙ ap (λ z. z ∷ drop (i + 1) all) (sym is)

module _ (rs : List Rate) (all : List rust.TypedExpr) (i : ℕ) where
  -- ---- what is asked for

  pub values_more : (m : ℕ) (x : rust.TypedExpr) → i < length all → x ≡ get_or all i x
      → values_asks (drop i rs) (t_exprs (exprs_of (drop i all))) m ≡ Both (Number (m + 1)) (Both (operand_asks (next_rate (drop i rs)) (expr_of x) m) (values_asks (drop (i + 1) rs) (t_exprs (exprs_of (drop (i + 1) all))) (m + 1)))
  values_more m x lt is =
      ap (λ z. values_asks (drop i rs) (t_exprs (exprs_of z)) m) (next_of all i x lt is)
      ∙ ap (λ qs. Both (Number (m + 1)) (Both (operand_asks (next_rate (drop i rs)) (expr_of x) m) (values_asks qs (t_exprs (exprs_of (drop (i + 1) all))) (m + 1)))) (later_drop i rs)

  pub values_end : (m : ℕ) → length all ≤ i → values_asks (drop i rs) (t_exprs (exprs_of (drop i all))) m ≡ Nothing
  values_end m le = ap (λ z. values_asks (drop i rs) (t_exprs (exprs_of z)) m) (drop_all i all le)
