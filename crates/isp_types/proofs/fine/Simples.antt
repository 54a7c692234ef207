-- Declarations, what stands before a semicolon, and parts of statements are fine.
use Rattle.std.proofs.Common.{◌≡◌, ℕ, ◌++◌, ◌<◌, Bool, true, false, refl, sym, ap, subst, ◌∙◌, arith, ltb-true}
use Rattle.std.specs.Prelude.{Option, Some, None, List, [], ◌∷◌, length, slice_get, nat_lt, ◌&&◌, Result, Ok, Err}
use Rattle.std.specs.List.{All}
use Rattle.std.proofs.lemmas.List.Elements.{All-cons, All-head, All-tail}
use Rattle.isp_base.specs.declared.types.Elem.{Elem}
use Rattle.isp_base.specs.declared.types.Elem.TheVariants.{I32}
use Rattle.isp_base.specs.declared.types.Gang.{Gang}
use Rattle.isp_base.specs.declared.types.Span.{Span}
use Rattle.isp_base.specs.declared.types.Ty.{Ty}
use Rattle.isp_base.specs.declared.operators.BinOp.{BinOp}
use Rattle.isp_base.specs.Ranks.{common}
use Rattle.isp_lex.specs.declared.fault.Fault.{Fault}
use Rattle.isp_tree.specs.declared.stmt.Size.{Size}
use Rattle.isp_tree.specs.Sound.{InText, IsSoundExpr, IsSoundItem, IsSoundDeclaration, IsSoundSimple, IsSoundFirst, IsSoundRange}
use Rattle.isp_tree.specs.Tree.{Expr, number, truth, program_index, program_count, place, call, brackets, cast, prefix, binary, choose, variable, element, Item, plain}
use Rattle.isp_tree.specs.Tree.{with_value, with_size, Declaration, Simple, value, assign, change, First, first_declare, first_simple, Range}
use Rattle.isp_typed.specs.declared.variable.ArrayVariable.{ArrayVariable}
use Rattle.isp_typed.specs.declared.variable.Holds.{Holds}
use Rattle.isp_typed.specs.declared.variable.Holds.TheVariants as holds
use Rattle.isp_typed.specs.declared.variable.Variable.{Variable}
use Rattle.isp_typed.specs.Typed.{TExpr, TPlace, place_type, TItem, t_with_size, TSimple, TFirst, TRange, TFunction, elem_of}
use Rattle.isp_typed.specs.Fine.{FineExpr, FinePlace, FineValue, FineTarget, FineItem, FineSimple, FineFirst, FineRange, IsSized}
use Rattle.isp_typed.specs.Indices.{foreach_index as index}
use Rattle.isp_exprs.specs.declared.scope.Known.{Known}
use Rattle.isp_exprs.specs.declared.scope.Binding.{Binding}
use Rattle.isp_exprs.specs.declared.words.ValueWords.{ValueWords}
use Rattle.isp_exprs.specs.Words.{value_said, type_declared}
use Rattle.isp_exprs.specs.Scopes.{with_name}
use Rattle.isp_exprs.specs.Values.{converted}
use Rattle.isp_exprs.specs.Places.{array_of, variable_at, element_at, unless_constant}
use Rattle.isp_exprs.specs.Passing.{Called, gives, runs}
use Rattle.isp_exprs.specs.Callees.{Heading}
use Rattle.isp_types.specs.Numbering.{size_number, item_names, item_variables, items_names, items_variables, first_names, first_variables, range_names, range_variables}
use Rattle.isp_types.specs.Declarations.{array_sized, item_typing, items_typing, declaration_typing}
use Rattle.isp_types.specs.Simple.{stated, assigned_by, assignment_operator, target_typing, simple_typing}
use Rattle.isp_types.specs.Statements.{first_typing, ranges_typing, values_typing}
use Rattle.isp_types.proofs.NamesKept.{Grown, same, then as and_then, one_more}
use Rattle.isp_types.proofs.fine.Names.{InScope, named_is, name_added, get_next}
use Rattle.isp_types.proofs.fine.Callees.{Headed, and_true}
use Rattle.isp_types.proofs.fine.Values.{BareExpr, converted_elem, converted_fine, common_whole}
use Rattle.isp_types.proofs.fine.Passed.{ok_is, no_ok, some_is, no_some, IsKnown, element_known}
use Rattle.isp_types.proofs.fine.Calls.{FineCalled}
use Rattle.isp_types.proofs.fine.Exprs.{call_of_fine, expr_fine}

-- ---- variables only grow

pub items_grow_variables : (gang : Gang) (r : Result ValueWords Fault) (vars : List Variable) (is : List Item) → Grown vars (items_variables gang r vars is)
items_grow_variables gang r vars [] = same vars
items_grow_variables gang r vars (i ∷ is) = and_then _ _ _ (one_more vars _) (items_grow_variables gang r (item_variables gang r vars i) is)

pub ranges_grow_variables : (vars : List Variable) (rs : List Range) → Grown vars (range_variables vars rs)
ranges_grow_variables vars [] = same vars
ranges_grow_variables vars (r ∷ rs) = and_then _ _ _ (one_more vars index) (ranges_grow_variables (vars ++ index ∷ []) rs)

pub first_grows_variables : (gang : Gang) (vars : List Variable) (i : Option First) → Grown vars (first_variables gang vars i)
first_grows_variables gang vars None = same vars
first_grows_variables gang vars (Some (first_declare d)) = items_grow_variables gang (value_said d.ty) vars d.items
first_grows_variables gang vars (Some (first_simple s)) = same vars

pub no_all : {A : Type 0} (P : A → Type 0) → All P []
no_all P = λ k d lt. absurd (none k lt)
  where
    none : (k : ℕ) → k < 0 → ⊥
    none k lt = omega arith

-- ---- targets

pub open_is : {A : Type 0} (c : Bool) (s : Span) (r : Result A Fault) (a : A) → unless_constant c s r ≡ Ok a → (c ≡ false) × (r ≡ Ok a)
open_is c s (Err f) a e = absurd (no_ok e)
open_is true s (Ok b) a e = absurd (no_ok e)
open_is false s (Ok b) a e = (refl, e)

array_constant : (k : Known) (a : ArrayVariable) → array_of k ≡ Some a → a.constant ≡ k.variable.constant
array_constant k a e = go k.variable.holds refl
  where
    go : (h : Holds) → k.variable.holds ≡ h → a.constant ≡ k.variable.constant
    go (holds.Value t) q = absurd (no_some (rw q at e))
    go (holds.Given u) q = ap (λ (z : ArrayVariable). z.constant) (sym (some_is _ a (rw q at e)))
    go (holds.Local t n) q = ap (λ (z : ArrayVariable). z.constant) (sym (some_is _ a (rw q at e)))

held_open : (v : Variable) (t : Ty) → v.holds ≡ holds.Value t → v.constant ≡ false → Some v ≡ Some (record { holds = holds.Value t; constant = false })
held_open v t h c = ap (λ z. Some (record { holds = z; constant = v.constant })) h ∙ ap (λ z. Some (record { holds = holds.Value t; constant = z })) c

pub array_bounds : (gang : Gang) (k : ℕ) (w : ValueWords) (n : Size) (a : ArrayVariable) → array_sized gang k w n ≡ Ok a → IsSized (size_number gang n)
array_bounds gang k w n a e = go (nat_lt 0 (size_number gang n) && nat_lt (size_number gang n) 65537) refl
  where
    go : (t : Bool) → (nat_lt 0 (size_number gang n) && nat_lt (size_number gang n) 65537) ≡ t → IsSized (size_number gang n)
    go false q = absurd (no_ok (rw q at e))
    go true q = let b : (nat_lt 0 (size_number gang n) ≡ true) × (nat_lt (size_number gang n) 65537 ≡ true) = and_true _ _ q in record {
      some = omega (arith, ltb-true 0 (size_number gang n) b.0);
      few = omega (arith, ltb-true (size_number gang n) 65537 b.1);
    }

module _ (gs : List TFunction) (all : List Variable) where
  variable_open : (s : Span) (k : Known) → IsKnown all k → k.variable.constant ≡ false → (p : TPlace) → variable_at s k ≡ Ok p → FineTarget gs all p
  variable_open s k known c p e = go k.variable.holds refl
    where
      go : (h : Holds) → k.variable.holds ≡ h → FineTarget gs all p
      go (holds.Value t) q = subst (FineTarget gs all) (ok_is _ p (rw q at e)) (known ∙ held_open k.variable t q c)
      go (holds.Given u) q = absurd (no_ok (rw q at e))
      go (holds.Local t n) q = absurd (no_ok (rw q at e))

  element_open : (s : Span) → InText s → (k : Known) → IsKnown all k → k.variable.constant ≡ false → (x : TExpr) → FineExpr gs all x → (p : TPlace) → element_at s (k, x) ≡ Ok p → FineTarget gs all p
  element_open s i k known c x f p e = go (array_of k) refl
    where
      go : (o : Option ArrayVariable) → array_of k ≡ o → FineTarget gs all p
      go None q = absurd (no_ok (rw q at e))
      go (Some a) q =
          let is = ok_is _ p (rw q at e) in
          subst (FineTarget gs all) is (subst (λ z. FinePlace gs all z) (sym is) (element_known gs all s i k known x f p e), array_constant k a q ∙ c)

module _ (gang : Gang) (hs : List Heading) (gs : List TFunction) (all : List Variable) (headed : Headed hs gs) where
  pub value_is_fine : (e : Elem) (x : TExpr) → BareExpr gs all x → FineValue gs all e (converted e x)
  value_is_fine e x f = (converted_fine gs all e x f, converted_elem e x)

  module _ (ns : List Binding) (scope : InScope all ns) where
    target_fine : (x : Expr) → IsSoundExpr x → (p : TPlace) → (target_typing gang hs ns x).is p → FineTarget gs all p
    target_fine (place (variable w)) h p i =
        let o = open_is i.0.variable.constant w.span (variable_at w.span i.0) p i.2 in
        variable_open gs all w.span i.0 (named_is all ns scope w i.0 i.1) o.0 p o.1
    target_fine (place (element w x s)) h p i =
        let o = open_is i.0.0.variable.constant s (element_at s i.0) p i.2 in
        element_open gs all s h.2 i.0.0 (named_is all ns scope w i.0.0 i.1.0) o.0 i.0.1 (expr_fine gang hs gs all ns headed scope x h.1 i.0.1 i.1.1).0 p o.1
    target_fine (number v s) h p i = absurd (no_ok i.2)
    target_fine (truth b s) h p i = absurd (no_ok i.2)
    target_fine (program_index s) h p i = absurd (no_ok i.2)
    target_fine (program_count s) h p i = absurd (no_ok i.2)
    target_fine (call w xs s) h p i = absurd (no_ok i.2)
    target_fine (brackets x s) h p i = absurd (no_ok i.2)
    target_fine (cast t x s) h p i = absurd (no_ok i.2)
    target_fine (prefix op x s) h p i = absurd (no_ok i.2)
    target_fine (binary op x y s) h p i = absurd (no_ok i.2)
    target_fine (choose c x y s) h p i = absurd (no_ok i.2)

    assigned_fine : (o : Option BinOp) (s : Span) → InText s → (p : TPlace) (x : TExpr) → FineTarget gs all p → BareExpr gs all x → FineSimple gs all (assigned_by o s (p, x))
    assigned_fine None s i p x f g = (f, value_is_fine (place_type p).elem x g)
    assigned_fine (Some op) s i p x f g = let e = common (place_type p).elem (elem_of x) in (f, value_is_fine e x g, common_whole (place_type p).elem (elem_of x), i)

    stated_fine : (r : Called) → FineCalled hs gs all r → FineSimple gs all (stated r)
    stated_fine (gives x) f = f.0
    stated_fine (runs c) f = f

    pub simple_fine : (p : Simple) → IsSoundSimple p → (t : TSimple) → (simple_typing gang hs ns p).is t → FineSimple gs all t
    simple_fine (value (call w xs s)) h t i = subst (FineSimple gs all) (sym i.2)
        (stated_fine i.0 (call_of_fine gang hs gs all ns headed scope w xs s h.1 h.2 i.0 i.1))
    simple_fine (value x) h t i = subst (FineSimple gs all) (sym i.2) (expr_fine gang hs gs all ns headed scope x h i.0 i.1).0
    simple_fine (assign a x y s) h t i = subst (FineSimple gs all) (sym i.2)
        (assigned_fine (assignment_operator a) s h.2 i.0.0 i.0.1 (target_fine x h.0 i.0.0 i.1.0) (expr_fine gang hs gs all ns headed scope y h.1 i.0.1 i.1.1))
    simple_fine (change c x s) h t i = subst (FineSimple gs all) (sym i.2) (target_fine x h.0 i.0 i.1, common_whole (place_type i.0).elem I32, h.1)

    pub values_fine : (xs : List Expr) → All IsSoundExpr xs → (ts : List TExpr) → (values_typing gang hs ns xs).is ts → All (FineExpr gs all) ts
    values_fine [] h ts i = subst (All (FineExpr gs all)) (sym i) (no_all (FineExpr gs all))
    values_fine (x ∷ xs) h ts i = subst (All (FineExpr gs all)) (sym i.2)
        (All-cons (FineExpr gs all) i.0.0 i.0.1 (expr_fine gang hs gs all ns headed scope x (All-head IsSoundExpr x xs h) i.0.0 i.1.0).0 (values_fine xs (All-tail IsSoundExpr x xs h) i.0.1 i.1.1))

  -- ---- declarations

  sized_fine : (k : ℕ) (w : ValueWords) (n : Size) (s : Span) (a : ArrayVariable) → slice_get all k ≡ Some (record { holds = holds.Local (type_declared w) (size_number gang n); constant = w.constant })
      → array_sized gang k w n ≡ Ok a → FineItem gs all (t_with_size a s)
  sized_fine k w n s a there e = go (nat_lt 0 (size_number gang n) && nat_lt (size_number gang n) 65537) refl
    where
      go : (t : Bool) → (nat_lt 0 (size_number gang n) && nat_lt (size_number gang n) 65537) ≡ t → FineItem gs all (t_with_size a s)
      go false q = absurd (no_ok (rw q at e))
      go true q = subst (λ z. FineItem gs all (t_with_size z s)) (ok_is _ a (rw q at e)) (size_number gang n, there, array_bounds gang k w n a e)

  module _ (w : ValueWords) (start : ℕ) where
    item_fine : (ns : List Binding) (vars : List Variable) (i : Item) → IsSoundItem i → InScope all ns → Grown (item_variables gang (Ok w) vars i) all
        → (t : TItem) → (item_typing gang hs (Ok w) start ns vars i).is t → FineItem gs all t
    item_fine ns vars (plain v) h scope g t i = subst (FineItem gs all) (sym i.1) (record { constant = w.constant; is = get_next vars _ all g })
    item_fine ns vars (with_value v x s) h scope g t i =
        subst (FineItem gs all) (sym i.2) (record { constant = w.constant; is = get_next vars _ all g }, value_is_fine (type_declared w).elem i.0 (expr_fine gang hs gs all ns headed scope x h.1 i.0 i.1.1))
    item_fine ns vars (with_size v n s) h scope g t i = subst (FineItem gs all) (sym i.2) (sized_fine (length vars) w n s i.0 (get_next vars _ all g) i.1.1)

    items_fine : (ns : List Binding) (vars : List Variable) (is : List Item) → All IsSoundItem is → InScope all ns → Grown (items_variables gang (Ok w) vars is) all
        → (ts : List TItem) → (items_typing gang hs (Ok w) start ns vars is).is ts → All (FineItem gs all) ts × InScope all (items_names gang (Ok w) ns vars is)
    items_fine ns vars [] h scope g ts i = (subst (All (FineItem gs all)) (sym i) (no_all (FineItem gs all)), scope)
    items_fine ns vars (x ∷ xs) h scope g ts i =
        let g1 = and_then _ _ _ (items_grow_variables gang (Ok w) (item_variables gang (Ok w) vars x) xs) g in
        let later = items_fine (item_names gang (Ok w) ns vars x) (item_variables gang (Ok w) vars x) xs (All-tail IsSoundItem x xs h) (name_added all ns vars _ _ scope g1) g i.0.1 i.1.1 in
        (subst (All (FineItem gs all)) (sym i.2) (All-cons (FineItem gs all) i.0.0 i.0.1 (item_fine ns vars x (All-head IsSoundItem x xs h) scope g1 i.0.0 i.1.0) later.0), later.1)

  said_fine : (r : Result ValueWords Fault) (w : ValueWords) → r ≡ Ok w → (start : ℕ) (ns : List Binding) (vars : List Variable) (is : List Item) → All IsSoundItem is → InScope all ns
      → Grown (items_variables gang r vars is) all → (ts : List TItem) → (items_typing gang hs r start ns vars is).is ts → All (FineItem gs all) ts × InScope all (items_names gang r ns vars is)
  said_fine (Ok v) w e start ns vars is h scope g ts i = items_fine v start ns vars is h scope g ts i
  said_fine (Err f) w e start ns vars is h scope g ts i = absurd (no_ok e)

  pub declaration_fine : (start : ℕ) (ns : List Binding) (vars : List Variable) (d : Declaration) → IsSoundDeclaration d → InScope all ns → Grown (items_variables gang (value_said d.ty) vars d.items) all
      → (ts : List TItem) → (declaration_typing gang hs ns start vars d).is ts → All (FineItem gs all) ts × InScope all (items_names gang (value_said d.ty) ns vars d.items)
  declaration_fine start ns vars d h scope g ts i =
      let f = said_fine (value_said d.ty) i.0.0 i.1.0 start ns vars d.items h.items scope g i.0.1 i.1.1 in
      (subst (All (FineItem gs all)) (sym i.2) f.0, f.1)

  pub first_fine : (start : ℕ) (ns : List Binding) (vars : List Variable) (f : First) → IsSoundFirst f → InScope all ns → Grown (first_variables gang vars (Some f)) all
      → (t : TFirst) → (first_typing gang hs ns start vars f).is t → FineFirst gs all t × InScope all (first_names gang ns vars (Some f))
  first_fine start ns vars (first_declare d) h scope g t i =
      let f = declaration_fine start ns vars d h scope g i.0 i.1 in
      (subst (FineFirst gs all) (sym i.2) f.0, f.1)
  first_fine start ns vars (first_simple p) h scope g t i = (subst (FineFirst gs all) (sym i.2) (simple_fine ns scope p h i.0 i.1), scope)

  -- ---- the ranges of a `foreach`

  pub ranges_fine : (start : ℕ) (ns is : List Binding) (vars : List Variable) (rs : List Range) → All IsSoundRange rs → InScope all ns → InScope all is → Grown (range_variables vars rs) all
      → (ts : List TRange) → (ranges_typing gang hs ns start is vars rs).is ts → All (FineRange gs all) ts × InScope all (range_names is vars rs)
  ranges_fine start ns is vars [] h scope inner g ts i = (subst (All (FineRange gs all)) (sym i) (no_all (FineRange gs all)), inner)
  ranges_fine start ns is vars (r ∷ rs) h scope inner g ts i =
      let g1 = and_then _ _ _ (ranges_grow_variables (vars ++ index ∷ []) rs) g in
      let one = i.1.0 in
      let sound = All-head IsSoundRange r rs h in
      let later = ranges_fine start ns (with_name is vars r.word.name (Ok index)) (vars ++ index ∷ []) rs (All-tail IsSoundRange r rs h) scope (name_added all is vars _ _ inner g1) g i.0.1 i.1.1 in
      let first : FineRange gs all i.0.0 = subst (FineRange gs all) (sym one.2) (record {
        index = get_next vars _ all g1;
        start = value_is_fine I32 one.0.0 (expr_fine gang hs gs all ns headed scope r.start sound.start one.0.0 one.1.1.0);
        end = value_is_fine I32 one.0.1 (expr_fine gang hs gs all ns headed scope r.end sound.end one.0.1 one.1.1.1);
      }) in
      (subst (All (FineRange gs all)) (sym i.2) (All-cons (FineRange gs all) i.0.0 i.0.1 first later.0), later.1)
