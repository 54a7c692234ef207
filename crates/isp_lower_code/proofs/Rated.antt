-- What names, types and rates promise of a tree is what the laws use of it.
use Rattle.std.proofs.Common.{◌≡◌, suc, List, [], ◌∷◌, Bool, true, false, Option, Some, None, refl, sym, ap, subst, arith}
use Rattle.std.specs.List.{All}
use Rattle.isp_base.specs.declared.types.Elem.{Elem}
use Rattle.isp_base.specs.declared.types.Elem.TheVariants.{Bool as Truth, I8, U8, I16, U16, I32, U32, I64, U64}
use Rattle.isp_base.specs.declared.types.Rate.{Rate}
use Rattle.isp_base.specs.declared.types.Rate.TheVariants.{Uniform, Varying}
use Rattle.isp_base.specs.declared.types.Ty.{Ty}
use Rattle.isp_typed.specs.Fine.{IsWhole, AreOperands, FineExpr, FinePlace, FineBase, FineCall, FineArguments, FineArgument, FineParts, rates_of as rates_of_values, params_of, FineTarget, FineSimple, FineItem}
use Rattle.isp_typed.specs.Typed.{TExpr, t_constant, t_program_index, t_place, t_convert, t_cast, t_unary, t_binary, t_compare, t_logic, t_choose, t_call, t_library, t_packed_store, t_packed_load, TPlace, t_variable}
use Rattle.isp_typed.specs.Typed.{t_element, TBase, t_whole, t_from, TArgument, t_by_value, t_by_name, TCall, t_called, TArguments, t_no_arguments, t_argument_then, TExprs, t_no_exprs, t_expr_then, TItem, t_plain}
use Rattle.isp_typed.specs.Typed.{t_with_value, t_with_size, TSimple, t_value, t_run, t_assign, t_update, t_step, TFunction, place_type, type_of, rate_or}
use Rattle.isp_typed.specs.declared.variable.Holds.{Holds}
use Rattle.isp_typed.specs.declared.variable.Holds.TheVariants as holds
use Rattle.isp_typed.specs.declared.variable.Variable.{Variable}
use Rattle.isp_typed.specs.declared.library.Part.{Part}
use Rattle.isp_typed.specs.Library.{asks_uniform, library_type, parts}
use Rattle.isp_typed.specs.declared.library.Library.{Library}
use Rattle.isp_typed.specs.declared.library.Library.TheVariants as library
use Rattle.isp_lower_code.specs.Callees.{rate_held, rates_held, rates_of}
use Rattle.isp_lower_code.specs.Library.{rate_taken, rates_taken, works_at}
use Rattle.isp_lower_code.specs.Rated.{Reaches, IsRated, CallRated, ArgumentsRated, ArgumentRated, ValuesRated, PlaceRated, BaseRated, RatedAt, SimpleRated, ItemsRated}
use Rattle.isp_lower_code.proofs.LibraryTypes.{parts_are}
use Rattle.isp_lower_code.proofs.Parts.{IsNumber}
use Rattle.isp_lower_code.proofs.Trees.{OperandTree, ExprTree, PlaceTree, BaseTree, ValuesTree, CallTree, ArgumentsTree, ArgumentTree, SimpleTree, ItemsTree}

-- ---- rates

reaches_first : (a b : Rate) → Reaches a (rate_or a b)
reaches_first Uniform b = tt
reaches_first Varying b = tt

reaches_second : (a b : Rate) → Reaches b (rate_or a b)
reaches_second Uniform Uniform = tt
reaches_second Uniform Varying = tt
reaches_second Varying Uniform = tt
reaches_second Varying Varying = tt

reaches_itself : (a : Rate) → Reaches a a
reaches_itself Uniform = tt
reaches_itself Varying = tt

reaches_uniform : (a : Rate) → Reaches a Uniform → a ≡ Uniform
reaches_uniform Uniform h = refl
reaches_uniform Varying h = absurd h

reaches_varying : (a : Rate) → Reaches a Varying
reaches_varying Uniform = tt
reaches_varying Varying = tt

reaches_on : (a b c : Rate) → Reaches a b → Reaches b c → Reaches a c
reaches_on Uniform b c h g = tt
reaches_on Varying Uniform c h g = absurd h
reaches_on Varying Varying c h g = g

-- ---- values of a call of the library: each reaches the rate at which the function works

abbrev EachReaches : Rate → TExprs → Type 0
EachReaches r t_no_exprs = Unit {0}
EachReaches r (t_expr_then x xs) = Reaches (type_of x).rate r × EachReaches r xs

any_reach : (xs : TExprs) → EachReaches Varying xs
any_reach t_no_exprs = tt
any_reach (t_expr_then x xs) = (reaches_varying (type_of x).rate, any_reach xs)

more_reach : (a r : Rate) (xs : TExprs) → EachReaches r xs → EachReaches (rate_or a r) xs
more_reach a r t_no_exprs h = tt
more_reach a r (t_expr_then x xs) h = (reaches_on (type_of x).rate r (rate_or a r) h.0 (reaches_second a r), more_reach a r xs h.1)

all_reach : (xs : TExprs) → EachReaches (rates_of_values xs) xs
all_reach t_no_exprs = tt
all_reach (t_expr_then x xs) = (reaches_first (type_of x).rate (rates_of_values xs), more_reach (type_of x).rate (rates_of_values xs) xs (all_reach xs))

works_reach : (g : Library) (e : Elem) (xs : TExprs) → EachReaches (works_at g (library_type g e (rates_of_values xs)).rate) xs
works_reach library.Min e xs = all_reach xs
works_reach library.Max e xs = all_reach xs
works_reach library.Clamp e xs = all_reach xs
works_reach library.Abs e xs = all_reach xs
works_reach library.Select e xs = all_reach xs
works_reach library.ReduceAdd e xs = any_reach xs
works_reach library.ReduceMin e xs = any_reach xs
works_reach library.ReduceMax e xs = any_reach xs
works_reach library.ReduceEqual e xs = any_reach xs
works_reach library.Any e xs = any_reach xs
works_reach library.All e xs = any_reach xs
works_reach library.None e xs = any_reach xs
works_reach library.ScanAdd e xs = any_reach xs
works_reach library.ScanAnd e xs = any_reach xs
works_reach library.ScanOr e xs = any_reach xs
works_reach library.Broadcast e xs = any_reach xs
works_reach library.Rotate e xs = any_reach xs
works_reach library.Shift e xs = any_reach xs
works_reach library.Shuffle e xs = any_reach xs
works_reach library.ShuffleTwo e xs = any_reach xs
works_reach library.Extract e xs = any_reach xs
works_reach library.Insert e xs = any_reach xs

taken_reaches : (given r : Rate) (uniform : Bool) → Reaches given (rate_taken Varying uniform) → Reaches given r → Reaches given (rate_taken r uniform)
taken_reaches given r true h g = h
taken_reaches given r false h g = g

whole_number : (t : Elem) → IsWhole t → IsNumber t
whole_number Truth e = absurd (cc)
whole_number I8 e = tt
whole_number U8 e = tt
whole_number I16 e = tt
whole_number U16 e = tt
whole_number I32 e = tt
whole_number U32 e = tt
whole_number I64 e = tt
whole_number U64 e = tt

first_operand : (x y : TExpr) (t : Elem) (r : Rate) → AreOperands x y t r → OperandTree r t x
first_operand x y t r o = record { elem = o.left; reaches = subst (Reaches (type_of x).rate) (sym o.rate) (reaches_first (type_of x).rate (type_of y).rate) }

second_operand : (x y : TExpr) (t : Elem) (r : Rate) → AreOperands x y t r → OperandTree r t y
second_operand x y t r o = record { elem = o.right; reaches = subst (Reaches (type_of y).rate) (sym o.rate) (reaches_second (type_of x).rate (type_of y).rate) }

-- ---- trees

module _ (fs : List TFunction) (vars : List Variable) where
  mutual
    pub expr_tree : (x : TExpr) → FineExpr fs vars x → IsRated fs x → ExprTree fs x
    expr_tree (t_constant v sp) f r = tt
    expr_tree (t_program_index sp) f r = tt
    expr_tree (t_place q) f r = place_tree q f r
    expr_tree (t_convert e x) f r = (f.1, expr_tree x f.0 r)
    expr_tree (t_cast x t sp) f r = (record { elem = f.1; reaches = r.0 }, expr_tree x f.0 r.1)
    expr_tree (t_unary o x t sp) f r =
        (record { elem = ap (λ u. u.elem) f.1; reaches = subst (λ u. Reaches (type_of x).rate u.rate) f.1 (reaches_itself (type_of x).rate) }, expr_tree x f.0 r, f.2)
    expr_tree (t_binary o x y t sp) f r =
        (first_operand x y t.elem t.rate f.2, second_operand x y t.elem t.rate f.2, expr_tree x f.0 r.0, expr_tree y f.1 r.1, whole_number t.elem f.3)
    expr_tree (t_compare k x y q sp) f r = (first_operand x y (type_of x).elem q f.2, second_operand x y (type_of x).elem q f.2, expr_tree x f.0 r.0, expr_tree y f.1 r.1)
    expr_tree (t_logic g x y q sp) f r = (first_operand x y Truth q f.2, second_operand x y Truth q f.2, expr_tree x f.0 r.0, expr_tree y f.1 r.1)
    expr_tree (t_choose q x y t sp) f r =
        let rc = (type_of q).rate in
        let rx = (type_of x).rate in
        let ry = (type_of y).rate in (
          record { elem = f.3; reaches = subst (Reaches rc) (sym f.6) (reaches_first rc (rate_or rx ry)) },
          record {
            elem = f.4;
            reaches = subst (Reaches rx) (sym f.6)
                (reaches_on rx (rate_or rx ry) (rate_or rc (rate_or rx ry)) (reaches_first rx ry) (reaches_second rc (rate_or rx ry)));
          },
          record {
            elem = f.5;
            reaches = subst (Reaches ry) (sym f.6)
                (reaches_on ry (rate_or rx ry) (rate_or rc (rate_or rx ry)) (reaches_second rx ry) (reaches_second rc (rate_or rx ry)));
          },
          expr_tree q f.0
              r.0,
          expr_tree x f.1 r.1,
          expr_tree y f.2 r.2,
        )
    expr_tree (t_call k t) f r = call_tree k (Some t) f r
    expr_tree (t_library g e xs t sp) f r =
        (record { elems = parts_are fs vars e (parts g) xs f.0; works = f.1; gives = f.2 }, values_tree e (parts g) (works_at g t.rate) xs f.0 r (subst (λ u. EachReaches (works_at g u.rate) xs) (sym f.2) (works_reach g e xs)))
    expr_tree (t_packed_store b x sp) f r = (base_tree b f.0 r.0, record { elem = f.2; reaches = reaches_varying (type_of x).rate }, expr_tree x f.1 r.1)
    expr_tree (t_packed_load b v sp) f r = base_tree b f.0 r

    place_tree : (z : TPlace) → FinePlace fs vars z → PlaceRated fs z → PlaceTree fs z
    place_tree (t_variable v t sp) f r = tt
    place_tree (t_element b i t sp) f r =
        (subst (λ u. Reaches b.ty.rate u.rate) (sym f.2) (reaches_first b.ty.rate (type_of i).rate), subst (λ u. Reaches (type_of i).rate u.rate) (sym f.2) (reaches_second b.ty.rate (type_of i).rate), expr_tree i f.1 r, sym (ap (λ u. u.elem) f.2), (vars, f.1, r))

    base_tree : (b : TBase) → FineBase fs vars b → BaseRated fs b → BaseTree fs b
    base_tree (t_whole b sp) f r = (reaches_uniform b.ty.rate r, f.1)
    base_tree (t_from b i sp) f r = (reaches_uniform b.ty.rate r.0, f.2, r.1, expr_tree i f.1 r.2)

    values_tree : (e : Elem) (ps : List Part) (at : Rate) (xs : TExprs) → FineParts fs vars e ps xs → ValuesRated fs (rates_taken Varying ps) xs → EachReaches at xs → ValuesTree fs (rates_taken at ps) xs
    values_tree e [] at t_no_exprs f r h = tt
    values_tree e [] at (t_expr_then x xs) f r h = absurd f
    values_tree e (p ∷ ps) at t_no_exprs f r h = absurd f
    values_tree e (p ∷ ps) at (t_expr_then x xs) f r h =
        (record { elem = refl; reaches = taken_reaches (type_of x).rate at (asks_uniform p) r.0 h.0 }, expr_tree x f.0 r.1, values_tree e ps at xs f.2 r.2 h.1)

    call_tree : (k : TCall) (answer : Option Ty) → FineCall fs vars k answer → CallRated fs k → CallTree fs k answer
    call_tree (t_called g xs sp) answer f r =
        (f.0, f.1, f.2, arguments_tree (params_of f.0) xs f.3 (subst (λ o. ArgumentsRated fs (rates_of o) xs) f.1 r))

    arguments_tree : (vs : List Variable) (xs : TArguments) → FineArguments fs vars vs xs → ArgumentsRated fs (rates_held vs) xs → ArgumentsTree fs vs xs
    arguments_tree [] t_no_arguments f r = tt
    arguments_tree [] (t_argument_then x xs) f r = absurd f
    arguments_tree (v ∷ vs) t_no_arguments f r = absurd f
    arguments_tree (v ∷ vs) (t_argument_then x xs) f r = (argument_tree v.holds v.constant x f.0 r.0, arguments_tree vs xs f.1 r.1)

    argument_tree : (y : Holds) (k : Bool) (x : TArgument) → FineArgument fs vars y k x → ArgumentRated fs (rate_held y) x → ArgumentTree fs y x
    argument_tree (holds.Value t) k (t_by_value x) f r = (record { elem = f.1; reaches = r.0 }, expr_tree x f.0 r.1)
    argument_tree (holds.Value t) k (t_by_name b sp) f r = absurd f
    argument_tree (holds.Given e) k (t_by_value x) f r = absurd f
    argument_tree (holds.Given e) k (t_by_name b sp) f r = (reaches_uniform b.ty.rate r, f.1)
    argument_tree (holds.Local t n) k (t_by_value x) f r = absurd f
    argument_tree (holds.Local t n) k (t_by_name b sp) f r = absurd f

  target_tree : (z : TPlace) → FineTarget fs vars z → PlaceRated fs z → PlaceTree fs z
  target_tree (t_variable v t sp) f r = tt
  target_tree (t_element b i t sp) f r = place_tree (t_element b i t sp) f.0 r

  pub operand_tree : (r : Rate) (t : Elem) (x : TExpr) → (type_of x).elem ≡ t → RatedAt fs r x → OperandTree r t x
  operand_tree r t x e g = record { elem = e; reaches = g.0 }

  pub simple_tree : (x : TSimple) → FineSimple fs vars x → SimpleRated fs x → SimpleTree fs x
  simple_tree (t_value x) f r = expr_tree x f r
  simple_tree (t_run k) f r = call_tree k None f r
  simple_tree (t_assign z x sp) f r = (target_tree z f.0 r.0, operand_tree (place_type z).rate (place_type z).elem x f.1.1 r.1, expr_tree x f.1.0 r.1.1)
  simple_tree (t_update o t z x sp) f r = (target_tree z f.0 r.0, operand_tree (place_type z).rate t x f.1.1 r.1, expr_tree x f.1.0 r.1.1, whole_number t f.2)
  simple_tree (t_step o t z sp) f r = (target_tree z f.0 r, whole_number t f.1)

  pub items_tree : (xs : List TItem) → All (FineItem fs vars) xs → ItemsRated fs xs → ItemsTree fs xs
  items_tree [] f r = tt
  items_tree (t_plain v t sp ∷ xs) f r = (tt, items_tree xs (λ k d lt. f (suc k) d (omega arith)) r.1)
  items_tree (t_with_size a sp ∷ xs) f r = (tt, items_tree xs (λ k d lt. f (suc k) d (omega arith)) r.1)
  items_tree (t_with_value v t x sp ∷ xs) f r =
      let is : FineItem fs vars (t_with_value v t x sp) = f 0 (t_with_value v t x sp) (omega arith) in
      ((operand_tree t.rate t.elem x is.1.1 r.0, expr_tree x is.1.0 r.0.1), items_tree xs (λ k d lt. f (suc k) d (omega arith)) r.1)
