-- What lists ask for, one more at a time: the ranges of a `foreach`, the statements of a block and the values of a `print`.
use Rattle.std.proofs.Common.{◌≡◌, ℕ, zero, suc, ◌+◌, ◌<◌, ◌≤◌, List, [], ◌∷◌, length, drop, get_or, Option, sym, ap, subst, ◌∙◌, arith}
use Rattle.std.proofs.lemmas.List.{drop_more, drop_all}
use Rattle.isp_base.specs.declared.types.Ty.{Ty}
use Rattle.isp_typed.specs.Nodes.{stmt_nodes, stmts_nodes}
use Rattle.isp_typed.specs.Typed.{TRange, t_exprs, t_stmts, type_of}
use Rattle.isp_typed.specs.Views.{expr_of, exprs_of, range_of, ranges_of, stmt_of, stmts_of}
use Rattle.isp_typed.specs.declared.expr.TypedExpr.{TypedExpr}
use Rattle.isp_typed.specs.declared.stmt.TypedRange.{TypedRange}
use Rattle.isp_typed.specs.declared.stmt.TypedStmt.{TypedStmt}
use Rattle.isp_lower_code.specs.Asks.{Ask, Both, Nothing, Number, operand_asks, values_asks}
use Rattle.isp_lower_code.specs.Room.{HasNumbers}
use Rattle.isp_masks_code.specs.Asks.{stmt_asks, stmts_asks}
use Rattle.isp_masks_code.specs.Prints.{own_rates}

-- ---- ranges

-- those that are left begin with the next one, and at the end none is left
pub ranges_more : (all : List TypedRange) (i : ℕ) (x : TypedRange) → i < length all → x ≡ get_or all i x → ranges_of (drop i all) ≡ range_of x ∷ ranges_of (drop (i + 1) all)
ranges_more all i x lt is = ap ranges_of (drop_more all i x lt) ∙ ap (λ z. range_of z ∷ ranges_of (drop (i + 1) all)) (sym is)

-- so if their numbers can be had, those of the next one and of the others can
pub numbers_more : (asks : List TRange → ℕ → Ask) (all : List TypedRange) (i : ℕ) (x : TypedRange) → i < length all → x ≡ get_or all i x → (n : ℕ) → HasNumbers (asks (ranges_of (drop i all)) n)
    → HasNumbers (asks (range_of x ∷ ranges_of (drop (i + 1) all)) n)
numbers_more asks all i x lt is n have = subst (λ zs. HasNumbers (asks zs n)) (ranges_more all i x lt is) have

pub ranges_end : (all : List TypedRange) (i : ℕ) → length all ≤ i → ranges_of (drop i all) ≡ []
ranges_end all i le = ap ranges_of (drop_all i all le)

-- ---- statements

-- an element has at most the nodes of all
pub nodes_low : (items : List TypedStmt) (i : ℕ) (x : TypedStmt) → i < length items → x ≡ get_or items i x → stmt_nodes (stmt_of x) ≤ stmts_nodes (t_stmts (stmts_of items))
nodes_low [] i x low is = absurd (omega (arith, low))
nodes_low (y ∷ ys) zero x low is = subst (λ z. stmt_nodes (stmt_of z) ≤ stmt_nodes (stmt_of y) + stmts_nodes (t_stmts (stmts_of ys))) (sym is) (omega arith)
nodes_low (y ∷ ys) (suc i) x low is = let n = nodes_low ys i x (omega (arith, low)) is in omega (arith, n)

-- what the statements that are left ask for
pub stmts_more : (answer : Option Ty) (n : ℕ) (all : List TypedStmt) (i : ℕ) (x : TypedStmt) → i < length all → x ≡ get_or all i x
    → stmts_asks answer (t_stmts (stmts_of (drop i all))) n ≡ Both (stmt_asks answer (stmt_of x) n) (stmts_asks answer (t_stmts (stmts_of (drop (i + 1) all))) n)
stmts_more answer n all i x lt is =
    ap (λ z. stmts_asks answer (t_stmts (stmts_of z)) n) (drop_more all i x lt)
    ∙ ap (λ z. Both (stmt_asks answer (stmt_of z) n) (stmts_asks answer (t_stmts (stmts_of (drop (i + 1) all))) n)) (sym is)

pub stmts_end : (answer : Option Ty) (n : ℕ) (all : List TypedStmt) (i : ℕ) → length all ≤ i → stmts_asks answer (t_stmts (stmts_of (drop i all))) n ≡ Nothing
stmts_end answer n all i le = ap (λ z. stmts_asks answer (t_stmts (stmts_of z)) n) (drop_all i all le)

-- ---- values

abbrev pub asked : List TypedExpr → ℕ → Ask
asked xs n = values_asks (own_rates (exprs_of xs)) (t_exprs (exprs_of xs)) n

pub left_of : (all : List TypedExpr) (i : ℕ) (x : TypedExpr) → i < length all → x ≡ get_or all i x → drop i all ≡ x ∷ drop (i + 1) all
left_of all i x lt is = drop_more all i x lt ∙ ap (λ z. z ∷ drop (i + 1) all) (sym is)

pub asked_more : (all : List TypedExpr) (i n : ℕ) (x : TypedExpr) → i < length all → x ≡ get_or all i x
    → asked (drop i all) n ≡ Both (Number (n + 1)) (Both (operand_asks (type_of (expr_of x)).rate (expr_of x) n) (asked (drop (i + 1) all) (n + 1)))
asked_more all i n x lt is = ap (λ zs. asked zs n) (left_of all i x lt is)

pub asked_end : (all : List TypedExpr) (i n : ℕ) → length all ≤ i → asked (drop i all) n ≡ Nothing
asked_end all i n le = ap (λ zs. asked zs n) (drop_all i all le)
