-- What is demanded of the tree alone: operands have the types in which their node works, a uniform part may stand in a
-- varying node and never the reverse, and a conversion's operand is no conversion. Names and types accept an index, with some variables.
use Rattle.std.proofs.Common.{◌≡◌, List, [], ◌∷◌, Option, Some, None, true}
use Rattle.std.specs.Prelude.{slice_get, ◌||◌}
use Rattle.isp_base.specs.Ranks.{same_elem}
use Rattle.isp_base.specs.declared.types.Elem.{Elem}
use Rattle.isp_base.specs.declared.types.Elem.TheVariants.{Bool as Truth, I32, U32}
use Rattle.isp_base.specs.declared.types.Rate.{Rate}
use Rattle.isp_base.specs.declared.types.Rate.TheVariants.{Uniform, Varying}
use Rattle.isp_base.specs.declared.types.Ty.{Ty}
use Rattle.isp_typed.specs.Fine.{FineExpr, WorksIn, heads, params_of}
use Rattle.isp_typed.specs.declared.variable.Holds.{Holds}
use Rattle.isp_typed.specs.declared.variable.Holds.TheVariants as holds
use Rattle.isp_typed.specs.declared.variable.Variable.{Variable}
use Rattle.isp_typed.specs.Typed.{TExpr, t_constant, t_program_index, t_place, t_convert, t_cast, t_unary, t_binary, t_compare, t_logic, t_choose, t_call, t_library, t_packed_store, t_packed_load, TPlace, t_variable}
use Rattle.isp_typed.specs.Typed.{t_element, TBase, t_whole, t_from, base_array, TArgument, t_by_value, t_by_name, TCall, t_called, TArguments, t_no_arguments, t_argument_then, TExprs, t_no_exprs, t_expr_then}
use Rattle.isp_typed.specs.Typed.{TFunction, TItem, t_plain, t_with_value, t_with_size, TSimple, t_value, t_run, t_assign, t_update, t_step, place_type, type_of}
use Rattle.isp_lower_code.specs.Callees.{next_rate, later}
use Rattle.isp_lower_code.specs.Library.{library_rates}
use Rattle.isp_lower_code.specs.Rated.{IsRated, Reaches}
use Rattle.isp_lower_code.proofs.LibraryTypes.{LibraryTyped}
use Rattle.isp_lower_code.proofs.Parts.{IsNumber}

-- of 32 bits
abbrev pub IsWord : Elem → Type 0
IsWord t = (same_elem t I32 || same_elem t U32) ≡ true

pub record OperandTree (r : Rate) (t : Elem) (x : TExpr) : Type 0 where
  pub elem : (type_of x).elem ≡ t
  pub reaches : Reaches (type_of x).rate r

-- in a program of these functions
module _ (fs : List TFunction) where
  abbrev mutual
    pub ExprTree : TExpr → Type 0
    ExprTree (t_constant v sp) = Unit {0}
    ExprTree (t_program_index sp) = Unit {0}
    ExprTree (t_place q) = PlaceTree q
    ExprTree (t_convert e x) = (heads x ≡ 0) × ExprTree x
    ExprTree (t_cast x t sp) = OperandTree t.rate t.elem x × ExprTree x
    ExprTree (t_unary o x t sp) = OperandTree t.rate t.elem x × ExprTree x × WorksIn o t.elem
    ExprTree (t_binary o x y t sp) =
        OperandTree t.rate t.elem x × OperandTree t.rate t.elem y × ExprTree x × ExprTree y × IsNumber t.elem
    ExprTree (t_compare c x y r sp) =
        OperandTree r (type_of x).elem x × OperandTree r (type_of x).elem y × ExprTree x × ExprTree y
    ExprTree (t_logic g x y r sp) = OperandTree r Truth x × OperandTree r Truth y × ExprTree x × ExprTree y
    ExprTree (t_choose c x y t sp) =
        OperandTree t.rate Truth c × OperandTree t.rate t.elem x × OperandTree t.rate t.elem y × ExprTree c × ExprTree x × ExprTree y
    ExprTree (t_call c t) = CallTree c (Some t)
    ExprTree (t_library f e xs t sp) = LibraryTyped f e xs t × ValuesTree (library_rates f t.rate) xs
    ExprTree (t_packed_store b x sp) = BaseTree b × OperandTree Varying (base_array b).ty.elem x × ExprTree x
    ExprTree (t_packed_load b v sp) = BaseTree b

    pub PlaceTree : TPlace → Type 0
    PlaceTree (t_variable v t sp) = Unit {0}
    PlaceTree (t_element b i t sp) =
        Reaches b.ty.rate t.rate × Reaches (type_of i).rate t.rate × ExprTree i × (b.ty.elem ≡ t.elem) × ((vars : List Variable) × FineExpr fs vars i × IsRated fs i)

    -- the array of a packed call is one for the gang, and its elements have 32 bits
    pub BaseTree : TBase → Type 0
    BaseTree (t_whole b sp) = (b.ty.rate ≡ Uniform) × IsWord b.ty.elem
    BaseTree (t_from b i sp) = (b.ty.rate ≡ Uniform) × IsWord b.ty.elem × Reaches (type_of i).rate Uniform × ExprTree i

    pub ValuesTree : List Rate → TExprs → Type 0
    ValuesTree rs t_no_exprs = Unit {0}
    ValuesTree rs (t_expr_then x xs) = OperandTree (next_rate rs) (type_of x).elem x × ExprTree x × ValuesTree (later rs) xs

    pub CallTree : TCall → Option Ty → Type 0
    CallTree (t_called f xs sp) answer =
        (g : TFunction) × (slice_get fs f ≡ Some g) × (g.answer ≡ answer) × ArgumentsTree (params_of g) xs

    pub ArgumentsTree : List Variable → TArguments → Type 0
    ArgumentsTree [] t_no_arguments = Unit {0}
    ArgumentsTree [] (t_argument_then x xs) = ⊥
    ArgumentsTree (v ∷ vs) t_no_arguments = ⊥
    ArgumentsTree (v ∷ vs) (t_argument_then x xs) = ArgumentTree v.holds x × ArgumentsTree vs xs

    pub ArgumentTree : Holds → TArgument → Type 0
    ArgumentTree (holds.Value t) (t_by_value x) = OperandTree t.rate t.elem x × ExprTree x
    ArgumentTree (holds.Given e) (t_by_name b sp) = (b.ty.rate ≡ Uniform) × (b.ty.elem ≡ e)
    ArgumentTree y x = ⊥

  abbrev pub SimpleTree : TSimple → Type 0
  SimpleTree (t_value x) = ExprTree x
  SimpleTree (t_run c) = CallTree c None
  SimpleTree (t_assign z x sp) = PlaceTree z × OperandTree (place_type z).rate (place_type z).elem x × ExprTree x
  SimpleTree (t_update o t z x sp) = PlaceTree z × OperandTree (place_type z).rate t x × ExprTree x × IsNumber t
  SimpleTree (t_step o t z sp) = PlaceTree z × IsNumber t

  abbrev pub ItemTree : TItem → Type 0
  ItemTree (t_plain v t sp) = Unit {0}
  ItemTree (t_with_value v t x sp) = OperandTree t.rate t.elem x × ExprTree x
  ItemTree (t_with_size b sp) = Unit {0}

  abbrev pub ItemsTree : List TItem → Type 0
  ItemsTree [] = Unit {0}
  ItemsTree (x ∷ xs) = ItemTree x × ItemsTree xs
