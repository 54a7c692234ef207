-- Declarations, what stands before a semicolon, and parts of statements are scoped.
use Rattle.std.proofs.Common.{◌≡◌, ℕ, suc, ◌++◌, Bool, true, false, refl, sym, ap, subst, ◌∙◌}
use Rattle.std.specs.Prelude.{Option, Some, None, List, [], ◌∷◌, length, nat_lt, ◌&&◌, Result, Ok, Err}
use Rattle.std.specs.List.{All}
use Rattle.std.proofs.lemmas.List.Elements.{All-cons}
use Rattle.isp_base.specs.declared.types.Elem.TheVariants.{I32}
use Rattle.isp_base.specs.declared.types.Gang.{Gang}
use Rattle.isp_base.specs.declared.types.Span.{Span}
use Rattle.isp_base.specs.declared.operators.BinOp.{BinOp}
use Rattle.isp_base.specs.Ranks.{common}
use Rattle.isp_lex.specs.declared.fault.Fault.{Fault}
use Rattle.isp_tree.specs.declared.stmt.Size.{Size}
use Rattle.isp_tree.specs.Sound.{IfAny}
use Rattle.isp_tree.specs.Tree.{Expr, number, truth, program_index, program_count, place, call, brackets, cast, prefix, binary, choose, variable, element, Item, plain}
use Rattle.isp_tree.specs.Tree.{with_value, with_size, Declaration, Simple, value, assign, change, First, first_declare, first_simple, Range}
use Rattle.isp_typed.specs.declared.variable.ArrayVariable.{ArrayVariable}
use Rattle.isp_typed.specs.declared.variable.Variable.{Variable}
use Rattle.isp_typed.specs.Typed.{TExpr, TPlace, place_type, TItem, TSimple, TFirst, TRange, elem_of}
use Rattle.isp_typed.specs.Indices.{foreach_index as index}
use Rattle.isp_typed.specs.Scoped.{Scope, declared, ExprIn, PlaceIn, SimpleIn, ItemAt, ItemsAt, FirstAt, RangesAt, number_after, scope_after, number_after_first, scope_after_first}
use Rattle.isp_exprs.specs.declared.scope.Binding.{Binding}
use Rattle.isp_exprs.specs.declared.words.ValueWords.{ValueWords}
use Rattle.isp_exprs.specs.Words.{value_said, type_declared}
use Rattle.isp_exprs.specs.Scopes.{with_name}
use Rattle.isp_exprs.specs.Places.{variable_at, element_at}
use Rattle.isp_exprs.specs.Passing.{Called, gives, runs}
use Rattle.isp_exprs.specs.Callees.{Heading}
use Rattle.isp_types.specs.Numbering.{size_number, item_names, item_variables, items_names, items_variables, first_names, first_variables, range_names, range_variables}
use Rattle.isp_types.specs.Declarations.{array_sized, item_typing, items_typing, declaration_typing}
use Rattle.isp_types.specs.Simple.{stated, assigned_by, assignment_operator, target_typing, simple_typing}
use Rattle.isp_types.specs.Statements.{first_typing, ranges_typing, values_typing}
use Rattle.isp_types.proofs.Meanings.{known_named}
use Rattle.isp_types.proofs.fine.Passed.{ok_is, no_ok}
use Rattle.isp_types.proofs.fine.Simples.{no_all, open_is}
use Rattle.isp_types.proofs.scoped.Names.{IsIn, AllIn, one_longer, scope_added}
use Rattle.isp_types.proofs.scoped.Exprs.{converted_in, variable_in, element_in, CalledIn, expr_in, call_of_in}

sized_number : (gang : Gang) (k : ℕ) (w : ValueWords) (n : Size) (a : ArrayVariable) → array_sized gang k w n ≡ Ok a → a.number ≡ k
sized_number gang k w n a e = go (nat_lt 0 (size_number gang n) && nat_lt (size_number gang n) 65537) refl
  where
    go : (t : Bool) → (nat_lt 0 (size_number gang n) && nat_lt (size_number gang n) 65537) ≡ t → a.number ≡ k
    go false q = absurd (no_ok (rw q at e))
    go true q = ap (λ (z : ArrayVariable). z.number) (sym (ok_is _ a (rw q at e)))

-- what items come to: each with its number, the number after them, and the names there
abbrev pub ItemsDone : Scope → ℕ → List Binding → List Variable → List TItem → Type 0
ItemsDone v n ns vars ts = ItemsAt v n ts × (number_after n ts ≡ length vars) × AllIn (scope_after v n ts) ns

-- the first part of a `for`
abbrev pub FirstDone : Scope → ℕ → List Binding → List Variable → Option TFirst → Type 0
FirstDone v n ns vars t = IfAny (FirstAt v n) t × (number_after_first n t ≡ length vars) × AllIn (scope_after_first v n t) ns

-- the ranges of a `foreach`: bounds know the names outside alone
abbrev pub RangesDone : Scope → Scope → ℕ → List Binding → List Variable → List Range → List TRange → Type 0
RangesDone v inner n ns vars rs ts = RangesAt v n ts × (number_after n ts ≡ length vars) × AllIn (scope_after inner n ts) ns × (length rs ≡ length ts)

module _ (gang : Gang) (hs : List Heading) where
  module _ (v : Scope) (ns : List Binding) (scope : AllIn v ns) where
    target_in : (x : Expr) (p : TPlace) → (target_typing gang hs ns x).is p → PlaceIn v p
    target_in (place (variable w)) p i =
        variable_in v w.span i.0 (known_named (IsIn v) ns scope w i.0 i.1) p (open_is i.0.variable.constant w.span (variable_at w.span i.0) p i.2).1
    target_in (place (element w x s)) p i =
        element_in v s i.0.0 (known_named (IsIn v) ns scope w i.0.0 i.1.0) i.0.1 (expr_in gang hs v ns scope x i.0.1 i.1.1) p (open_is i.0.0.variable.constant s (element_at s i.0) p i.2).1
    target_in (number c s) p i = absurd (no_ok i.2)
    target_in (truth b s) p i = absurd (no_ok i.2)
    target_in (program_index s) p i = absurd (no_ok i.2)
    target_in (program_count s) p i = absurd (no_ok i.2)
    target_in (call w xs s) p i = absurd (no_ok i.2)
    target_in (brackets x s) p i = absurd (no_ok i.2)
    target_in (cast t x s) p i = absurd (no_ok i.2)
    target_in (prefix op x s) p i = absurd (no_ok i.2)
    target_in (binary op x y s) p i = absurd (no_ok i.2)
    target_in (choose c x y s) p i = absurd (no_ok i.2)

    assigned_in : (o : Option BinOp) (s : Span) (p : TPlace) (x : TExpr) → PlaceIn v p → ExprIn v x → SimpleIn v (assigned_by o s (p, x))
    assigned_in None s p x i k = (i, converted_in v (place_type p).elem x k)
    assigned_in (Some op) s p x i k = (i, converted_in v (common (place_type p).elem (elem_of x)) x k)

    stated_in : (r : Called) → CalledIn v r → SimpleIn v (stated r)
    stated_in (gives x) i = i
    stated_in (runs c) i = i

    pub simple_in : (p : Simple) (t : TSimple) → (simple_typing gang hs ns p).is t → SimpleIn v t
    simple_in (value (call w xs s)) t i = subst (SimpleIn v) (sym i.2) (stated_in i.0 (call_of_in gang hs v ns scope w xs s i.0 i.1))
    simple_in (value x) t i = subst (SimpleIn v) (sym i.2) (expr_in gang hs v ns scope x i.0 i.1)
    simple_in (assign a x y s) t i =
        subst (SimpleIn v) (sym i.2) (assigned_in (assignment_operator a) s i.0.0 i.0.1 (target_in x i.0.0 i.1.0) (expr_in gang hs v ns scope y i.0.1 i.1.1))
    simple_in (change c x s) t i = subst (SimpleIn v) (sym i.2) (target_in x i.0 i.1)

    pub values_in : (xs : List Expr) (ts : List TExpr) → (values_typing gang hs ns xs).is ts → All (ExprIn v) ts
    values_in [] ts i = subst (All (ExprIn v)) (sym i) (no_all (ExprIn v))
    values_in (x ∷ xs) ts i =
        subst (All (ExprIn v)) (sym i.2) (All-cons (ExprIn v) i.0.0 i.0.1 (expr_in gang hs v ns scope x i.0.0 i.1.0) (values_in xs i.0.1 i.1.1))

  -- ---- declarations

  module _ (w : ValueWords) (start : ℕ) where
    item_at : (v : Scope) (ns : List Binding) (vars : List Variable) (n : ℕ) (x : Item) → AllIn v ns → n ≡ length vars → (t : TItem) → (item_typing gang hs (Ok w) start ns vars x).is t → ItemAt v n t
    item_at v ns vars n (plain u) scope e t i = subst (ItemAt v n) (sym i.1) (sym e)
    item_at v ns vars n (with_value u x s) scope e t i = subst (ItemAt v n) (sym i.2) (sym e, converted_in v (type_declared w).elem i.0 (expr_in gang hs v ns scope x i.0 i.1.1))
    item_at v ns vars n (with_size u k s) scope e t i = subst (ItemAt v n) (sym i.2) (sized_number gang (length vars) w k i.0 i.1.1 ∙ sym e)

    items_at : (v : Scope) (ns : List Binding) (vars : List Variable) (n : ℕ) (xs : List Item) → AllIn v ns → n ≡ length vars → (ts : List TItem) → (items_typing gang hs (Ok w) start ns vars xs).is ts
        → ItemsDone v n (items_names gang (Ok w) ns vars xs) (items_variables gang (Ok w) vars xs) ts
    items_at v ns vars n [] scope e ts i = subst (ItemsDone v n ns vars) (sym i) (tt, e, scope)
    items_at v ns vars n (x ∷ xs) scope e ts i =
        let later = items_at (declared n v) (item_names gang (Ok w) ns vars x) (item_variables gang (Ok w) vars x) (suc n) xs (scope_added v ns vars n _ _ scope e) (one_longer vars _ n e) i.0.1 i.1.1 in
        subst (ItemsDone v n (items_names gang (Ok w) ns vars (x ∷ xs)) (items_variables gang (Ok w) vars (x ∷ xs))) (sym i.2)
        ((item_at v ns vars n x scope e i.0.0 i.1.0, later.0), later.1, later.2)

  said_at : (r : Result ValueWords Fault) (w : ValueWords) → r ≡ Ok w → (start : ℕ) (v : Scope) (ns : List Binding) (vars : List Variable) (n : ℕ) (xs : List Item) → AllIn v ns → n ≡ length vars
      → (ts : List TItem) → (items_typing gang hs r start ns vars xs).is ts → ItemsDone v n (items_names gang r ns vars xs) (items_variables gang r vars xs) ts
  said_at (Ok u) w q start v ns vars n xs scope e ts i = items_at u start v ns vars n xs scope e ts i
  said_at (Err f) w q start v ns vars n xs scope e ts i = absurd (no_ok q)

  pub declaration_at : (start : ℕ) (v : Scope) (ns : List Binding) (vars : List Variable) (n : ℕ) (d : Declaration) → AllIn v ns → n ≡ length vars → (ts : List TItem) → (declaration_typing gang hs ns start vars d).is ts
      → ItemsDone v n (items_names gang (value_said d.ty) ns vars d.items) (items_variables gang (value_said d.ty) vars d.items) ts
  declaration_at start v ns vars n d scope e ts i =
      subst (ItemsDone v n (items_names gang (value_said d.ty) ns vars d.items) (items_variables gang (value_said d.ty) vars d.items)) (sym i.2)
      (said_at (value_said d.ty) i.0.0 i.1.0 start v ns vars n d.items scope e i.0.1 i.1.1)

  pub first_at : (start : ℕ) (v : Scope) (ns : List Binding) (vars : List Variable) (n : ℕ) (f : First) → AllIn v ns → n ≡ length vars → (t : TFirst) → (first_typing gang hs ns start vars f).is t
      → FirstDone v n (first_names gang ns vars (Some f)) (first_variables gang vars (Some f)) (Some t)
  first_at start v ns vars n (first_declare d) scope e t i =
      subst (λ z. FirstDone v n (first_names gang ns vars (Some (first_declare d))) (first_variables gang vars (Some (first_declare d))) (Some z)) (sym i.2) (declaration_at start v ns vars n d scope e i.0 i.1)
  first_at start v ns vars n (first_simple p) scope e t i = subst (λ z. FirstDone v n ns vars (Some z)) (sym i.2) (simple_in v ns scope p i.0 i.1, e, scope)

  -- ---- the ranges of a `foreach`

  pub ranges_at : (start : ℕ) (v inner : Scope) (ns is : List Binding) (vars : List Variable) (n : ℕ) (rs : List Range) → AllIn v ns → AllIn inner is → n ≡ length vars
      → (ts : List TRange) → (ranges_typing gang hs ns start is vars rs).is ts → RangesDone v inner n (range_names is vars rs) (range_variables vars rs) rs ts
  ranges_at start v inner ns is vars n [] scope known e ts i = subst (RangesDone v inner n is vars []) (sym i) (tt, e, known, refl)
  ranges_at start v inner ns is vars n (r ∷ rs) scope known e ts i =
      let one = i.1.0 in
      let later = ranges_at start v (declared n inner) ns (with_name is vars r.word.name (Ok index)) (vars ++ index ∷ []) (suc n) rs scope (scope_added inner is vars n _ _ known e) (one_longer vars index n e) i.0.1 i.1.1 in
      let at : i.0.0.index ≡ n = ap (λ (z : TRange). z.index) one.2 ∙ sym e in
      let start_in : ExprIn v i.0.0.start = subst (λ (z : TRange). ExprIn v z.start) (sym one.2) (converted_in v I32 one.0.0 (expr_in gang hs v ns scope r.start one.0.0 one.1.1.0)) in
      let end_in : ExprIn v i.0.0.end = subst (λ (z : TRange). ExprIn v z.end) (sym one.2) (converted_in v I32 one.0.1 (expr_in gang hs v ns scope r.end one.0.1 one.1.1.1)) in
      subst (RangesDone v inner n (range_names is vars (r ∷ rs)) (range_variables vars (r ∷ rs)) (r ∷ rs)) (sym i.2) ((at, start_in, end_in, later.0), later.1, later.2, ap suc later.3)
