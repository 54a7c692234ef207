-- What rates promise of a tree, beside what names and types promise: a uniform part may stand where a varying one
-- is wanted, and never the reverse.
use Rattle.std.specs.Prelude.{List, [], ◌∷◌}
use Rattle.isp_base.specs.declared.types.Rate.{Rate}
use Rattle.isp_base.specs.declared.types.Rate.TheVariants.{Uniform, Varying}
use Rattle.isp_typed.specs.Fine.{FineExpr, FineSimple}
use Rattle.isp_typed.specs.Typed.{TFunction, TExpr, t_constant, t_program_index, t_place, t_convert, t_cast, t_unary, t_binary, t_compare, t_logic, t_choose, t_call, t_library, t_packed_store, t_packed_load}
use Rattle.isp_typed.specs.Typed.{TPlace, t_variable, t_element, TBase, t_whole, t_from, TArgument, t_by_value, t_by_name, TCall, t_called, TArguments, t_no_arguments, t_argument_then, TExprs, t_no_exprs}
use Rattle.isp_typed.specs.Typed.{t_expr_then, TItem, t_plain, t_with_value, t_with_size, TSimple, t_value, t_run, t_assign, t_update, t_step, place_type, type_of}
use Rattle.isp_typed.specs.declared.variable.Variable.{Variable}
use Rattle.isp_lower_code.specs.Callees.{rates_in, next_rate, later}
use Rattle.isp_typed.specs.Library.{parts}
use Rattle.isp_lower_code.specs.Library.{rates_taken}

-- a part of one rate may stand where another is wanted
abbrev pub Reaches : Rate → Rate → Type 0
Reaches Uniform r = Unit {0}
Reaches Varying Uniform = ⊥
Reaches Varying Varying = Unit {0}

-- in a program of these functions
module _ (fs : List TFunction) where
  abbrev mutual
    pub IsRated : TExpr → Type 0
    IsRated (t_constant v sp) = Unit {0}
    IsRated (t_program_index sp) = Unit {0}
    IsRated (t_place q) = PlaceRated q
    IsRated (t_convert e x) = IsRated x
    IsRated (t_cast x t sp) = Reaches (type_of x).rate t.rate × IsRated x
    IsRated (t_unary o x t sp) = IsRated x
    IsRated (t_binary o x y t sp) = IsRated x × IsRated y
    IsRated (t_compare c x y r sp) = IsRated x × IsRated y
    IsRated (t_logic g x y r sp) = IsRated x × IsRated y
    IsRated (t_choose c x y t sp) = IsRated c × IsRated x × IsRated y
    IsRated (t_call c t) = CallRated c
    -- a value that is asked uniform is uniform
    IsRated (t_library f e xs t sp) = ValuesRated (rates_taken Varying (parts f)) xs
    IsRated (t_packed_store b x sp) = BaseRated b × IsRated x
    IsRated (t_packed_load b v sp) = BaseRated b

    pub PlaceRated : TPlace → Type 0
    PlaceRated (t_variable v t sp) = Unit {0}
    PlaceRated (t_element b i t sp) = IsRated i

    -- the array of a packed call is one for the gang, and its index is uniform
    pub BaseRated : TBase → Type 0
    BaseRated (t_whole b sp) = Reaches b.ty.rate Uniform
    BaseRated (t_from b i sp) = Reaches b.ty.rate Uniform × Reaches (type_of i).rate Uniform × IsRated i

    -- each value is wanted at the next of these rates
    pub ValuesRated : List Rate → TExprs → Type 0
    ValuesRated rs t_no_exprs = Unit {0}
    ValuesRated rs (t_expr_then x xs) = Reaches (type_of x).rate (next_rate rs) × IsRated x × ValuesRated (later rs) xs

    -- an argument, a value or an array, is wanted at the rate of its parameter, which is uniform for an array
    pub CallRated : TCall → Type 0
    CallRated (t_called f xs sp) = ArgumentsRated (rates_in fs f) xs

    pub ArgumentsRated : List Rate → TArguments → Type 0
    ArgumentsRated rs t_no_arguments = Unit {0}
    ArgumentsRated rs (t_argument_then x xs) = ArgumentRated (next_rate rs) x × ArgumentsRated (later rs) xs

    pub ArgumentRated : Rate → TArgument → Type 0
    ArgumentRated r (t_by_value x) = Reaches (type_of x).rate r × IsRated x
    ArgumentRated r (t_by_name b sp) = Reaches b.ty.rate r

  -- a value that is wanted at a rate
  abbrev pub RatedAt : Rate → TExpr → Type 0
  RatedAt r x = Reaches (type_of x).rate r × IsRated x

  abbrev pub SimpleRated : TSimple → Type 0
  SimpleRated (t_value x) = IsRated x
  SimpleRated (t_run c) = CallRated c
  SimpleRated (t_assign z x sp) = PlaceRated z × RatedAt (place_type z).rate x
  SimpleRated (t_update o t z x sp) = PlaceRated z × RatedAt (place_type z).rate x
  SimpleRated (t_step o t z sp) = PlaceRated z

  abbrev pub ItemRated : TItem → Type 0
  ItemRated (t_plain v t sp) = Unit {0}
  ItemRated (t_with_value v t x sp) = RatedAt t.rate x
  ItemRated (t_with_size b sp) = Unit {0}

  abbrev pub ItemsRated : List TItem → Type 0
  ItemsRated [] = Unit {0}
  ItemsRated (x ∷ xs) = ItemRated x × ItemsRated xs

-- names and types accept a tree, in some function of a program of these functions
abbrev pub IsFineExpr : List TFunction → TExpr → Type 0
IsFineExpr fs x = (vars : List Variable) × FineExpr fs vars x

abbrev pub IsFineSimple : List TFunction → TSimple → Type 0
IsFineSimple fs x = (vars : List Variable) × FineSimple fs vars x
