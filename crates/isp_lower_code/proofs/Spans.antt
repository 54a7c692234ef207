-- The places that code names are those of nodes, which lie in the source: so the text of code can have them.
use Rattle.std.proofs.Common.{◌≡◌, suc, ◌<◌, ◌≤◌, List, [], ◌∷◌, ◌++◌, Bool, true, false, Option, Some, None, nat_le, refl, le-leb, arith}
use Rattle.std.specs.Prelude.{if◌then◌else◌}
use Rattle.std.specs.List.{All, list_all}
use Rattle.std.proofs.lemmas.Bool.{and_from}
use Rattle.isp_base.specs.declared.operators.BinOp.{BinOp}
use Rattle.isp_base.specs.Values.{divides}
use Rattle.isp_base.specs.declared.types.Elem.{Elem}
use Rattle.isp_base.specs.declared.types.Span.{Span}
use Rattle.isp_base.specs.declared.types.Ty.{Ty}
use Rattle.isp_code.specs.Writable.{place_fits, source_limit}
use Rattle.isp_typed.specs.Fine.{FineExpr, FinePlace, FineBase, FineCall, FineArguments, FineArgument, FineParts, FineTarget, FineItem, FineSimple, params_of}
use Rattle.isp_typed.specs.Library.{parts}
use Rattle.isp_typed.specs.Typed.{TFunction, TExpr, t_constant, t_program_index, t_place, t_convert, t_cast, t_unary, t_binary, t_compare, t_logic, t_choose, t_call, t_library, t_packed_store, t_packed_load}
use Rattle.isp_typed.specs.Typed.{TPlace, t_variable, t_element, TBase, t_whole, t_from, TArgument, t_by_value, t_by_name, TCall, t_called, TArguments, t_no_arguments, t_argument_then, TExprs, t_no_exprs}
use Rattle.isp_typed.specs.Typed.{t_expr_then, t_exprs, TItem, t_plain, t_with_value, t_with_size, TSimple, t_value, t_run, t_assign, t_update, t_step}
use Rattle.isp_typed.specs.declared.library.Part.{Part}
use Rattle.isp_typed.specs.declared.variable.Holds.{Holds}
use Rattle.isp_typed.specs.declared.variable.Holds.TheVariants as holds
use Rattle.isp_typed.specs.declared.variable.Variable.{Variable}
use Rattle.isp_lower_code.specs.Instructions.{operate_places}
use Rattle.isp_lower_code.specs.Spans.{expr_places, index_places, read_places, base_places, values_places, call_places, arguments_places, argument_places}
use Rattle.isp_lower_code.specs.Items.{item_places, items_places}
use Rattle.isp_lower_code.specs.Layout.{Layout}
use Rattle.isp_lower_code.specs.Simple.{simple_places}
use Rattle.isp_lower_code.proofs.Writable.{all_both}

-- a node's span is not empty, and ends within the longest source
abbrev pub InSource : Span → Type 0
InSource s = (s.start < s.end) × (s.end ≤ source_limit)

abbrev pub Placed : List Span → Type 0
Placed ps = list_all place_fits ps ≡ true

pub placed_both : (ps qs : List Span) → Placed ps → Placed qs → Placed (ps ++ qs)
placed_both ps qs a b = all_both place_fits ps qs a b

pub placed_one : (s : Span) → InSource s → Placed (s ∷ [])
placed_one s in_source =
    and_from (place_fits s) true (and_from (nat_le s.start s.end) (nat_le s.end source_limit) (le-leb s.start s.end (omega (arith, in_source.0))) (le-leb s.end source_limit in_source.1)) refl

operate_placed : (o : BinOp) (s : Span) → InSource s → Placed (operate_places o s)
operate_placed o s in_source = where_so (divides o)
  where
    where_so : (b : Bool) → Placed (if b then s ∷ [] else [])
    where_so true = placed_one s in_source
    where_so false = refl

module _ (fs : List TFunction) (vars : List Variable) (l : Layout) where
  mutual
    pub expr_placed : (x : TExpr) → FineExpr fs vars x → Placed (expr_places l x)
    expr_placed (t_constant v s) f = refl
    expr_placed (t_program_index s) f = refl
    expr_placed (t_place p) f = placed_both (index_places l p) (read_places l p) (index_placed p f) (read_placed p f)
    expr_placed (t_convert e x) f = expr_placed x f.0
    expr_placed (t_cast x t s) f = expr_placed x f.0
    expr_placed (t_unary o x t s) f = expr_placed x f.0
    expr_placed (t_binary o x y t s) f =
        placed_both (expr_places l x) (expr_places l y ++ operate_places o s) (expr_placed x f.0) (placed_both (expr_places l y) (operate_places o s) (expr_placed y f.1) (operate_placed o s f.4))
    expr_placed (t_compare c x y r s) f = placed_both (expr_places l x) (expr_places l y) (expr_placed x f.0) (expr_placed y f.1)
    expr_placed (t_logic g x y r s) f = placed_both (expr_places l x) (expr_places l y) (expr_placed x f.0) (expr_placed y f.1)
    expr_placed (t_choose c x y t s) f =
        placed_both (expr_places l c) (expr_places l x ++ expr_places l y) (expr_placed c f.0) (placed_both (expr_places l x) (expr_places l y) (expr_placed x f.1) (expr_placed y f.2))
    expr_placed (t_call c t) f = call_placed c (Some t) f
    expr_placed (t_library g e xs t s) f = parts_placed e (parts g) xs f.0
    expr_placed (t_packed_store b x s) f =
        placed_both (base_places l b) (expr_places l x ++ s ∷ []) (base_placed b f.0) (placed_both (expr_places l x) (s ∷ []) (expr_placed x f.1) (placed_one s f.4))
    expr_placed (t_packed_load b v s) f = placed_both (base_places l b) (s ∷ []) (base_placed b f.0) (placed_one s f.2)

    index_placed : (p : TPlace) → FinePlace fs vars p → Placed (index_places l p)
    index_placed (t_variable v t s) f = refl
    index_placed (t_element a i t s) f = expr_placed i f.1

    read_placed : (p : TPlace) → FinePlace fs vars p → Placed (read_places l p)
    read_placed (t_variable v t s) f = refl
    read_placed (t_element a i t s) f = placed_one s f.3

    base_placed : (b : TBase) → FineBase fs vars b → Placed (base_places l b)
    base_placed (t_whole a s) f = refl
    base_placed (t_from a i s) f = expr_placed i f.1

    call_placed : (c : TCall) (o : Option Ty) → FineCall fs vars c o → Placed (call_places l c)
    call_placed (t_called k xs s) o f = placed_both (arguments_places l xs) (s ∷ []) (arguments_placed (params_of f.0) xs f.3) (placed_one s f.4)

    arguments_placed : (vs : List Variable) (xs : TArguments) → FineArguments fs vars vs xs → Placed (arguments_places l xs)
    arguments_placed [] t_no_arguments f = refl
    arguments_placed [] (t_argument_then x xs) f = absurd f
    arguments_placed (v ∷ vs) t_no_arguments f = absurd f
    arguments_placed (v ∷ vs) (t_argument_then x xs) f =
        placed_both (argument_places l x) (arguments_places l xs) (argument_placed v.holds v.constant x f.0) (arguments_placed vs xs f.1)

    argument_placed : (y : Holds) (c : Bool) (x : TArgument) → FineArgument fs vars y c x → Placed (argument_places l x)
    argument_placed (holds.Value t) c (t_by_value x) f = expr_placed x f.0
    argument_placed (holds.Given t) c (t_by_value x) f = absurd f
    argument_placed (holds.Local t n) c (t_by_value x) f = absurd f
    argument_placed y c (t_by_name a s) f = refl

    parts_placed : (e : Elem) (ps : List Part) (xs : TExprs) → FineParts fs vars e ps xs → Placed (values_places l xs)
    parts_placed e [] t_no_exprs f = refl
    parts_placed e [] (t_expr_then x xs) f = absurd f
    parts_placed e (p ∷ ps) t_no_exprs f = absurd f
    parts_placed e (p ∷ ps) (t_expr_then x xs) f = placed_both (expr_places l x) (values_places l xs) (expr_placed x f.0) (parts_placed e ps xs f.2)

  pub shown_placed : (xs : List TExpr) → All (FineExpr fs vars) xs → Placed (values_places l (t_exprs xs))
  shown_placed [] f = refl
  shown_placed (x ∷ xs) f =
      placed_both (expr_places l x) (values_places l (t_exprs xs)) (expr_placed x (f 0 x (omega arith))) (shown_placed xs (λ k d lt. f (suc k) d (omega (arith, lt))))

  -- ---- what stands before a semicolon

  target_index : (p : TPlace) → FineTarget fs vars p → Placed (index_places l p)
  target_index (t_variable v t s) f = refl
  target_index (t_element a i t s) f = index_placed (t_element a i t s) f.0

  target_read : (p : TPlace) → FineTarget fs vars p → Placed (read_places l p)
  target_read (t_variable v t s) f = refl
  target_read (t_element a i t s) f = read_placed (t_element a i t s) f.0

  pub simple_placed : (x : TSimple) → FineSimple fs vars x → Placed (simple_places l x)
  simple_placed (t_value x) f = expr_placed x f
  simple_placed (t_run c) f = call_placed c None f
  simple_placed (t_assign p x s) f =
      placed_both (index_places l p) (expr_places l x ++ read_places l p) (target_index p f.0) (placed_both (expr_places l x) (read_places l p) (expr_placed x f.1.0) (target_read p f.0))
  simple_placed (t_update o e p x s) f =
      let change = read_places l p ++ operate_places o s in
      placed_both (index_places l p) (expr_places l x ++ change) (target_index p f.0) (placed_both (expr_places l x) change (expr_placed x f.1.0) (placed_both (read_places l p) (operate_places o s) (target_read p f.0) (operate_placed o s f.3)))
  simple_placed (t_step o e p s) f =
      placed_both (index_places l p) (read_places l p ++ operate_places o s) (target_index p f.0) (placed_both (read_places l p) (operate_places o s) (target_read p f.0) (operate_placed o s f.2))

  item_placed : (x : TItem) → FineItem fs vars x → Placed (item_places l x)
  item_placed (t_plain v t s) f = refl
  item_placed (t_with_value v t x s) f = expr_placed x f.1.0
  item_placed (t_with_size a s) f = refl

  pub items_placed : (xs : List TItem) → All (FineItem fs vars) xs → Placed (items_places l xs)
  items_placed [] f = refl
  items_placed (x ∷ xs) f = placed_both (item_places l x) (items_places l xs) (item_placed x (f 0 x (omega arith))) (items_placed xs (λ k d lt. f (suc k) d (omega (arith, lt))))
