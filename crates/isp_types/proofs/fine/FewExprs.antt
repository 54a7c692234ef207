-- A typed expression has fewer than three times the nodes of its tree.
use Rattle.std.proofs.Common.{◌≡◌, ℕ, suc, ◌+◌, ◌*◌, ◌≤◌, Bool, true, false, refl, sym, ap, subst, arith}
use Rattle.std.specs.Prelude.{Option, Some, None, List, [], ◌∷◌, map, not, ◌&&◌, ◌||◌, if◌then◌else◌, Result, Ok, Err}
use Rattle.isp_base.specs.declared.types.Elem.{Elem}
use Rattle.isp_base.specs.declared.types.Elem.TheVariants.{Bool as Truth, I32, U32}
use Rattle.isp_base.specs.declared.types.Gang.{Gang}
use Rattle.isp_base.specs.declared.types.Rate.{Rate}
use Rattle.isp_base.specs.declared.types.Rate.TheVariants.{Uniform, Varying}
use Rattle.isp_base.specs.declared.types.Span.{Span}
use Rattle.isp_base.specs.declared.types.Ty.{Ty}
use Rattle.isp_base.specs.Ranks.{same_elem, operand, common, chosen}
use Rattle.isp_lex.specs.declared.fault.Fault.{Fault}
use Rattle.isp_lex.specs.declared.fault.Rule.TheVariants.{Mismatch, ConstAssigned}
use Rattle.isp_lex.specs.Faults.{fault}
use Rattle.isp_tree.specs.declared.expr.Prefix.{Prefix}
use Rattle.isp_tree.specs.declared.expr.Prefix.TheVariants as sign
use Rattle.isp_tree.specs.declared.types.Word.{Word}
use Rattle.isp_tree.specs.Nodes.{nodes, nodes_of_place, nodes_of_argument, nodes_of_row}
use Rattle.isp_tree.specs.Tree.{Expr, number, truth, program_index, program_count, place, call, brackets, cast, prefix, binary, choose, Place, variable, element}
use Rattle.isp_tree.specs.Tree.{Argument, by_value, by_reference, Arguments, no_arguments, argument_then, span_of_argument}
use Rattle.isp_typed.specs.declared.library.Part.{Part}
use Rattle.isp_typed.specs.declared.variable.ArrayVariable.{ArrayVariable}
use Rattle.isp_typed.specs.declared.variable.Holds.{Holds}
use Rattle.isp_typed.specs.declared.variable.Holds.TheVariants as holds
use Rattle.isp_typed.specs.Library.{parts, part_elem}
use Rattle.isp_typed.specs.Nodes.{typed_nodes, place_nodes, base_nodes, call_nodes, arguments_nodes, exprs_nodes}
use Rattle.isp_typed.specs.Typed.{TExpr, TPlace, TBase, t_whole, t_from, base_array, t_packed_store, t_packed_load, elem_of}
use Rattle.isp_exprs.specs.declared.callee.Callee.{Callee}
use Rattle.isp_exprs.specs.declared.callee.Callee.TheVariants as callees
use Rattle.isp_exprs.specs.declared.callee.Want.{Want}
use Rattle.isp_exprs.specs.declared.callee.Want.TheVariants.{AnyValue, ValueOf, ArrayOf, Base, Destination, NoReference, Anything}
use Rattle.isp_exprs.specs.declared.scope.Known.{Known}
use Rattle.isp_exprs.specs.declared.scope.Binding.{Binding}
use Rattle.isp_exprs.specs.declared.values.Joining.{Joining}
use Rattle.isp_exprs.specs.declared.values.Joining.TheVariants as joined_as
use Rattle.isp_exprs.specs.Values.{converted, with_sign, joins, joining, choice}
use Rattle.isp_exprs.specs.Places.{array_of, variable_at, element_at}
use Rattle.isp_exprs.specs.Passing.{Handed, h_value, h_run, h_array, h_name, h_element, handed_name, Passed, p_value, p_array, p_base, p_destination, p_unasked, Called, gives, runs, value_called, handed_call}
use Rattle.isp_exprs.specs.PackedCalls.{loaded, base_fits, base_named, destination}
use Rattle.isp_exprs.specs.LibraryCalls.{values_among, worked_in, as_parts, library_call}
use Rattle.isp_exprs.specs.Callees.{Heading}
use Rattle.isp_exprs.specs.Calls.{first_want, rest_of, arguments_among, function_call, call_of, array_fits, suits}
use Rattle.isp_exprs.specs.Typing.{Typing}
use Rattle.isp_exprs.specs.Rules.{wants_at, past_at, call_typing, call_of_typing, expr_typing, place_typing, argument_typing, arguments_typing}
use Rattle.isp_types.proofs.fine.Passed.{ok_is, no_ok}

-- ---- conversions

pub converted_few : (e : Elem) (x : TExpr) → typed_nodes (converted e x) ≤ suc (typed_nodes x)
converted_few e x = go (same_elem (elem_of x) e) refl
  where
    go : (t : Bool) → same_elem (elem_of x) e ≡ t → typed_nodes (converted e x) ≤ suc (typed_nodes x)
    go true q = rw q (omega arith)
    go false q = rw q (omega arith)

-- a part with room for its conversion
abbrev pub Few : TExpr → ℕ → Type 0
Few t n = suc (suc (typed_nodes t)) ≤ 3 * n

sign_few : (p : Prefix) (s : Span) (x : TExpr) (n : ℕ) → Few x n → Few (with_sign p s x) (suc n)
sign_few sign.Negative s x n f = omega (arith, f, converted_few (operand (elem_of x)) x)
sign_few sign.Inverse s x n f = omega (arith, f, converted_few (operand (elem_of x)) x)
sign_few sign.Not s x n f = omega (arith, f, converted_few Truth x)

joined_few : (s : Span) (x y : TExpr) (n m : ℕ) → Few x n → Few y m → (j : Joining) → Few (joins s x y j) (suc (n + m))
joined_few s x y n m f g (joined_as.Computes b) = let e = common (elem_of x) (elem_of y) in omega (arith, f, g, converted_few e x, converted_few e y)
joined_few s x y n m f g (joined_as.Compares b) = let e = common (elem_of x) (elem_of y) in omega (arith, f, g, converted_few e x, converted_few e y)
joined_few s x y n m f g (joined_as.Decides b) = omega (arith, f, g, converted_few Truth x, converted_few Truth y)

choice_few : (s : Span) (c x y : TExpr) (k n m : ℕ) → Few c k → Few x n → Few y m → Few (choice s (c, (x, y))) (suc (k + (n + m)))
choice_few s c x y k n m f g h = let e = chosen (elem_of x) (elem_of y) in omega (arith, f, g, h, converted_few Truth c, converted_few e x, converted_few e y)

-- ---- places

abbrev pub FewPlace : TPlace → ℕ → Type 0
FewPlace p n = suc (suc (place_nodes p)) ≤ 3 * n

pub place_few : (s : Span) (k : Known) (p : TPlace) → variable_at s k ≡ Ok p → FewPlace p 1
place_few s k p e = go k.variable.holds refl
  where
    go : (h : Holds) → k.variable.holds ≡ h → FewPlace p 1
    go (holds.Value t) q = subst (λ z. FewPlace z 1) (ok_is _ p (rw q at e)) (omega arith)
    go (holds.Given u) q = absurd (no_ok (rw q at e))
    go (holds.Local t n) q = absurd (no_ok (rw q at e))

pub element_few : (s : Span) (k : Known) (x : TExpr) (n : ℕ) → Few x n → (p : TPlace) → element_at s (k, x) ≡ Ok p → FewPlace p (suc n)
element_few s k x n f p e = go (array_of k) refl
  where
    go : (o : Option ArrayVariable) → array_of k ≡ o → FewPlace p (suc n)
    go None q = absurd (no_ok (rw q at e))
    go (Some a) q = subst (λ z. FewPlace z (suc n)) (ok_is _ p (rw q at e)) (omega (arith, f))

-- ---- arguments

abbrev handed_nodes : Handed → ℕ
handed_nodes (h_value x) = typed_nodes x
handed_nodes (h_run c) = call_nodes c
handed_nodes (h_array a s) = 1
handed_nodes (h_name k s) = 1
handed_nodes (h_element k s x) = suc (typed_nodes x)

handed_few : (s : Span) (k : Known) → handed_nodes (handed_name s k) ≡ 1
handed_few s k = go k.variable.holds refl
  where
    go : (h : Holds) → k.variable.holds ≡ h → handed_nodes (handed_name s k) ≡ 1
    go (holds.Value t) q = rw q refl
    go (holds.Given u) q = rw q refl
    go (holds.Local t n) q = rw q refl

-- with room for the conversion that a call of the library makes
abbrev passed_nodes : Passed → ℕ
passed_nodes (p_value x) = suc (typed_nodes x)
passed_nodes (p_array a s) = 1
passed_nodes (p_base b) = base_nodes b
passed_nodes (p_destination k t s) = 1
passed_nodes p_unasked = 0

-- what two tests let through
pub let_through : {A : Type 0} (t u : Bool) (f g : Fault) (a b : A) → ◌≡◌ {A = Result A Fault} (if not t then Err f else (if u then Err g else Ok a)) (Ok b) → a ≡ b
let_through true false f g a b e = ok_is a b e
let_through true true f g a b e = absurd (no_ok e)
let_through false u f g a b e = absurd (no_ok e)

pub array_let : (t : Elem) (c : Bool) (s : Span) (a : ArrayVariable) (p : Passed) → array_fits t c s a ≡ Ok p → p_array a s ≡ p
array_let t c s a p e = let_through (same_elem a.ty.elem t) (a.constant && not c) (fault Mismatch s) (fault ConstAssigned s) (p_array a s) p e

pub base_let : (stored : Bool) (s : Span) (a : ArrayVariable) (b : TBase) (p : Passed) → base_fits stored s a b ≡ Ok p → p_base b ≡ p
base_let stored s a b p e = let_through (same_elem a.ty.elem I32 || same_elem a.ty.elem U32) (a.constant && stored) (fault Mismatch s) (fault ConstAssigned s) (p_base b) p e

base_few : (stored : Bool) (s : Span) (k : Known) (b : ArrayVariable → TBase) (n : ℕ) → ((a : ArrayVariable) → base_nodes (b a) ≤ n) → (p : Passed) → base_named stored s (array_of k) b ≡ Ok p
    → passed_nodes p ≤ n
base_few stored s k b n f p e = go (array_of k) refl
  where
    go : (o : Option ArrayVariable) → array_of k ≡ o → passed_nodes p ≤ n
    go None q = absurd (no_ok (rw q at e))
    go (Some a) q = subst (λ z. passed_nodes z ≤ n) (base_let stored s a (b a) p (rw q at e)) (f a)

destination_few : (s : Span) (k : Known) (p : Passed) → destination s k ≡ Ok p → passed_nodes p ≤ 3
destination_few s k p e = go k.variable.holds refl
  where
    go : (h : Holds) → k.variable.holds ≡ h → passed_nodes p ≤ 3
    go (holds.Value t) q = by t.rate refl
      where
        by : (r : Rate) → t.rate ≡ r → passed_nodes p ≤ 3
        by Uniform d = absurd (no_ok (rw (q, d) at e))
        by Varying d = subst (λ z. passed_nodes z ≤ 3) (ok_is _ p (rw (q, d) at e)) (omega arith)
    go (holds.Given u) q = absurd (no_ok (rw q at e))
    go (holds.Local t n) q = absurd (no_ok (rw q at e))

suits_few : (w : Want) (s : Span) (h : Handed) (p : Passed) → suits w s h ≡ Ok p → passed_nodes p ≤ suc (suc (handed_nodes h))
suits_few AnyValue s (h_value x) p e = subst (λ z. passed_nodes z ≤ suc (suc (typed_nodes x))) (ok_is _ p e) (omega arith)
suits_few (ValueOf t) s (h_value x) p e = subst (λ z. passed_nodes z ≤ suc (suc (typed_nodes x))) (ok_is _ p e) (omega (arith, converted_few t x))
suits_few (ArrayOf t c) s (h_array a n) p e = subst (λ z. passed_nodes z ≤ 3) (array_let t c s a p e) (omega arith)
suits_few (Base stored) s (h_array a n) p e = subst (λ z. passed_nodes z ≤ 3) (base_let stored s a (t_whole a n) p e) (omega arith)
suits_few (Base stored) s (h_name k n) p e = base_few stored s k (λ a. t_whole a n) 3 (λ a. omega arith) p e
suits_few (Base stored) s (h_element k n x) p e = base_few stored s k (λ a. t_from a x n) (suc (suc (suc (typed_nodes x)))) (λ a. omega arith) p e
suits_few Destination s (h_name k n) p e = destination_few s k p e
suits_few NoReference s (h_value x) p e = subst (λ z. passed_nodes z ≤ suc (suc (typed_nodes x))) (ok_is _ p e) (omega arith)
suits_few NoReference s (h_run c) p e = subst (λ z. passed_nodes z ≤ suc (suc (call_nodes c))) (ok_is _ p e) (omega arith)
suits_few NoReference s (h_array a n) p e = subst (λ z. passed_nodes z ≤ 3) (ok_is _ p e) (omega arith)
suits_few Anything s h p e = subst (λ z. passed_nodes z ≤ suc (suc (handed_nodes h))) (ok_is _ p e) (omega arith)
suits_few w s h p e = absurd (no_ok e)

-- ---- calls

abbrev all_nodes : List Passed → ℕ
all_nodes [] = 0
all_nodes (p ∷ ps) = passed_nodes p + all_nodes ps

arguments_few : (ps : List Passed) → arguments_nodes (arguments_among ps) ≤ all_nodes ps
arguments_few [] = omega arith
arguments_few (p_value x ∷ ps) = omega (arith, arguments_few ps)
arguments_few (p_array a s ∷ ps) = omega (arith, arguments_few ps)
arguments_few (p ∷ ps) = omega (arith, arguments_few ps)

parts_few : (t : Elem) (qs : List Part) (ps : List Passed) → exprs_nodes (as_parts t qs (values_among ps)) ≤ all_nodes ps
parts_few t [] ps = omega arith
parts_few t (q ∷ qs) [] = omega arith
parts_few t (q ∷ qs) (p_value x ∷ ps) = omega (arith, converted_few (part_elem t q) x, parts_few t qs ps)
parts_few t (q ∷ qs) (p ∷ ps) = omega (arith, parts_few t (q ∷ qs) ps)

abbrev pub called_nodes : Called → ℕ
called_nodes (gives x) = typed_nodes x
called_nodes (runs c) = call_nodes c

function_few : (k : ℕ) (s : Span) (ps : List Passed) (t : Option Ty) → called_nodes (function_call k s ps t) ≤ suc (all_nodes ps)
function_few k s ps None = omega (arith, arguments_few ps)
function_few k s ps (Some t) = omega (arith, arguments_few ps)

loaded_few : (s : Span) (b : TBase) (k : Known) (t : Ty) (p : Span) (r : Called) → loaded s b k t p ≡ Ok r → gives (t_packed_load b k.number s) ≡ r
loaded_few s b k t p r e = let_through (same_elem t.elem (base_array b).ty.elem) k.variable.constant (fault Mismatch p) (fault ConstAssigned p) (gives (t_packed_load b k.number s)) r e

call_few : (s : Span) (c : Callee) (ps : List Passed) (r : Called) → call_of s (c, ps) ≡ Ok r → called_nodes r ≤ suc (all_nodes ps)
call_few s callees.Unknown ps r e = absurd (no_ok e)
call_few s (callees.Miscounted packed) ps r e = absurd (no_ok e)
call_few s (callees.Function k (Err d)) ps r e = absurd (no_ok e)
call_few s (callees.Function k (Ok t)) ps r e = subst (λ z. called_nodes z ≤ suc (all_nodes ps)) (ok_is _ r e) (function_few k s ps t)
call_few s (callees.Library f) ps r e =
    subst (λ z. called_nodes z ≤ suc (all_nodes ps)) (ok_is (gives (library_call f s (values_among ps))) r e) (omega (arith, parts_few (worked_in f (map elem_of (values_among ps))) (parts f) ps))
call_few s callees.PackedStore (p_base b ∷ p_value x ∷ ps) r e =
    subst (λ z. called_nodes z ≤ suc (base_nodes b + (suc (typed_nodes x) + all_nodes ps))) (ok_is (gives (t_packed_store b (converted (base_array b).ty.elem x) s)) r e) (omega (arith, converted_few (base_array b).ty.elem x))
call_few s callees.PackedStore ps r e = absurd (no_ok e)
call_few s callees.PackedLoad (p_base b ∷ p_destination k t p ∷ ps) r e =
    subst (λ z. called_nodes z ≤ suc (base_nodes b + (1 + all_nodes ps))) (loaded_few s b k t p r e) (omega arith)
call_few s callees.PackedLoad ps r e = absurd (no_ok e)

module _ (gang : Gang) (hs : List Heading) (ns : List Binding) where
  -- a call whose arguments are few
  made_few : (w : Word) (xs : Arguments) (s : Span) (rule : Want → List Want → Typing (List Passed)) → ((ps : List Passed) → (rule (past_at hs w xs) (wants_at hs w xs)).is ps → all_nodes ps ≤ 3 * nodes_of_row xs)
      → (r : Called) → (call_typing hs w xs s rule).is r → called_nodes r ≤ suc (3 * nodes_of_row xs)
  made_few w xs s rule few r p = omega (arith, call_few s p.0.0 p.0.1 r p.2, few p.0.1 p.1.1)

  value_few : (s : Span) (c : Called) (x : TExpr) → value_called s c ≡ Ok x → called_nodes c ≡ typed_nodes x
  value_few s (gives y) x e = ap typed_nodes (ok_is y x e)
  value_few s (runs c) x e = absurd (no_ok e)

  handed_is : (c : Called) → handed_nodes (handed_call c) ≡ called_nodes c
  handed_is (gives x) = refl
  handed_is (runs c) = refl

  mutual
    pub expr_few : (x : Expr) (t : TExpr) → (expr_typing gang hs ns x).is t → Few t (nodes x)
    expr_few (number v s) t i = rw i (omega arith)
    expr_few (truth b s) t i = rw i (omega arith)
    expr_few (program_index s) t i = rw i (omega arith)
    expr_few (program_count s) t i = rw i (omega arith)
    expr_few (place p) t i = subst (λ z. Few z (nodes_of_place p)) (sym i.2) (place_is_few p i.0 i.1)
    expr_few (call w xs s) t i = omega (arith, value_few s i.0 t i.2, made_few w xs s (arguments_typing gang hs ns xs) (λ ps. arguments_are_few xs (past_at hs w xs) (wants_at hs w xs) ps) i.0 i.1)
    expr_few (brackets x s) t i = subst (λ z. Few z (suc (nodes x))) (sym i.2) (omega (arith, expr_few x i.0 i.1))
    expr_few (cast k x s) t i = subst (λ z. Few z (suc (nodes x))) (sym i.2) (omega (arith, expr_few x i.0.1 i.1.1, converted_few i.0.0.elem i.0.1))
    expr_few (prefix op x s) t i = subst (λ z. Few z (suc (nodes x))) (sym i.2) (sign_few op s i.0 (nodes x) (expr_few x i.0 i.1))
    expr_few (binary op x y s) t i =
        subst (λ z. Few z (suc (nodes x + nodes y))) (sym i.2) (joined_few s i.0.0 i.0.1 (nodes x) (nodes y) (expr_few x i.0.0 i.1.0) (expr_few y i.0.1 i.1.1) (joining op))
    expr_few (choose c x y s) t i =
        subst (λ z. Few z (suc (nodes c + (nodes x + nodes y)))) (sym i.2)
        (choice_few s i.0.0 i.0.1.0 i.0.1.1 (nodes c) (nodes x) (nodes y) (expr_few c i.0.0 i.1.0) (expr_few x i.0.1.0 i.1.1.0) (expr_few y i.0.1.1 i.1.1.1))

    pub place_is_few : (p : Place) (t : TPlace) → (place_typing gang hs ns p).is t → FewPlace t (nodes_of_place p)
    place_is_few (variable w) t i = place_few w.span i.0 t i.2
    place_is_few (element w x s) t i = element_few s i.0.0 i.0.1 (nodes x) (expr_few x i.0.1 i.1.1) t i.2

    argument_few : (x : Argument) (t : Handed) → (argument_typing gang hs ns x).is t → suc (suc (handed_nodes t)) ≤ 3 * nodes_of_argument x
    argument_few (by_value (place (variable w))) t i = rw i.2 (omega (arith, handed_few w.span i.0))
    argument_few (by_value (call w xs s)) t i =
        rw i.2 (omega (arith, handed_is i.0, made_few w xs s (arguments_typing gang hs ns xs) (λ ps. arguments_are_few xs (past_at hs w xs) (wants_at hs w xs) ps) i.0 i.1))
    argument_few (by_value x) t i = rw i.2 (expr_few x i.0 i.1)
    argument_few (by_reference (variable w) s) t i = rw i.2 (omega arith)
    argument_few (by_reference (element w x e) s) t i = rw i.2 (omega (arith, expr_few x i.0.1 i.1.1))

    arguments_are_few : (xs : Arguments) (past : Want) (ws : List Want) (ps : List Passed) → (arguments_typing gang hs ns xs past ws).is ps → all_nodes ps ≤ 3 * nodes_of_row xs
    arguments_are_few no_arguments past ws ps i = rw i (omega arith)
    arguments_are_few (argument_then x xs) past ws ps i =
        let one = i.1.0 in
        rw i.2 (omega (arith, suits_few (first_want past ws) (span_of_argument x) one.0 i.0.0 one.2, argument_few x one.0 one.1, arguments_are_few xs past (rest_of ws) i.0.1 i.1.1))

  pub call_of_few : (w : Word) (xs : Arguments) (s : Span) (r : Called) → (call_of_typing gang hs ns w xs s).is r → called_nodes r ≤ suc (3 * nodes_of_row xs)
  call_of_few w xs s r i = made_few w xs s (arguments_typing gang hs ns xs) (λ ps. arguments_are_few xs (past_at hs w xs) (wants_at hs w xs) ps) r i
