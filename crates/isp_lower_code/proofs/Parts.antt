-- What the laws use of a tree that fits, part by part: operands have the types that their node works in, a uniform part may stand in
-- a varying node, and each register that is named has its type.
use Rattle.std.proofs.Common.{◌≡◌, ℕ, ◌+◌, List, [], ◌∷◌, Option, Some, None, Bool, true, false}
use Rattle.std.specs.Prelude.{slice_get}
use Rattle.isp_base.specs.declared.types.Ty.{Ty}
use Rattle.isp_base.specs.Ranks.{same_elem}
use Rattle.isp_base.specs.declared.types.Elem.{Elem}
use Rattle.isp_base.specs.declared.types.Elem.TheVariants.{Bool as Truth, I32, I64}
use Rattle.isp_base.specs.declared.types.Rate.{Rate}
use Rattle.isp_base.specs.declared.types.Rate.TheVariants.{Uniform, Varying}
use Rattle.isp_typed.specs.Typed.{TExpr, t_constant, t_program_index, t_place, t_convert, t_cast, t_unary, t_binary, t_compare, t_logic, t_choose, t_call, t_library, t_packed_store, t_packed_load, TPlace}
use Rattle.isp_typed.specs.Typed.{t_variable, t_element, TBase, t_whole, t_from, TArgument, t_by_value, t_by_name, TCall, t_called, TArguments, t_no_arguments, t_argument_then, TExprs, t_no_exprs, t_expr_then}
use Rattle.isp_typed.specs.Typed.{TFunction, TItem, t_plain, t_with_value, t_with_size, TSimple, t_value, t_run, t_assign, t_update, t_step, place_type, ty_of, type_of}
use Rattle.isp_typed.specs.Fine.{FineExpr, heads, HoldsArray, HoldsValue, params_of}
use Rattle.isp_typed.specs.declared.variable.Holds.{Holds}
use Rattle.isp_typed.specs.declared.variable.Holds.TheVariants as holds
use Rattle.isp_typed.specs.declared.variable.Variable.{Variable as Declared}
use Rattle.isp_lower_code.specs.Asks.{Ask, All, first_slot, second_slot, beyond, is_lane}
use Rattle.isp_lower_code.specs.Callees.{next_rate, later}
use Rattle.isp_code.specs.Listing.{Routine}
use Rattle.isp_lower_code.specs.Layout.{Layout}
use Rattle.isp_lower_code.specs.Library.{library_rates}
use Rattle.isp_lower_code.specs.Rated.{Reaches}
use Rattle.isp_lower_code.specs.Rows.{Name, Variable, Result, Spare, Place, Fresh, Kept}
use Rattle.isp_lower_code.specs.Setting.{Setting}
use Rattle.isp_lower_code.specs.Tables.{AnyMask, IsTyped, IsNamedIn, IsLoadedIn}
use Rattle.isp_lower_code.proofs.Base.{MayWrite}
use Rattle.isp_lower_code.proofs.LibraryTypes.{LibraryTyped}

-- ---- single registers, by what it is to have one

module _ (Has : Rate → Name → Elem → Type 0) where
  -- a uniform value in slot n is made a varying one there
  abbrev pub LiftHas : Rate → Rate → Elem → ℕ → Type 0
  LiftHas Uniform Varying t n = Has Varying (Spare t n) t
  LiftHas given r t n = Unit {0}

  -- an element is read into slot n
  abbrev pub ReadHas : TPlace → ℕ → Type 0
  ReadHas (t_variable v t sp) n = Unit {0}
  ReadHas (t_element b i t sp) n = Has t.rate (Spare t.elem n) t.elem

  -- and so is a varying variable that a packed load writes
  abbrev pub CopyHas : Rate → Elem → ℕ → Type 0
  CopyHas Uniform t n = Unit {0}
  CopyHas Varying t n = Has Varying (Spare t n) t

  abbrev pub ValueHas : TPlace → ℕ → Type 0
  ValueHas (t_variable v t sp) n = CopyHas t.rate t.elem n
  ValueHas (t_element b i t sp) n = Has t.rate (Spare t.elem n) t.elem

  -- an operator works in slot i where its type is not that of the place
  abbrev pub WorkHas : Bool → Rate → Elem → ℕ → Type 0
  WorkHas true r t i = Unit {0}
  WorkHas false r t i = Has r (Spare t i) t

  -- a variable begins with 0: a varying one gets it from slot n
  abbrev pub ZeroHas : Rate → Elem → ℕ → ℕ → Type 0
  ZeroHas Uniform t v n = Has Uniform (Variable v) t
  ZeroHas Varying t v n = Has Uniform (Spare t n) t × Has Varying (Variable v) t

-- a register of a variable is that of one of these
abbrev pub IsVariable : List Declared → Rate → Name → Elem → Type 0
IsVariable vars r (Variable v) t = HoldsValue vars v (ty_of r t)
IsVariable vars r Result t = Unit {0}
IsVariable vars r (Spare u j) t = Unit {0}
IsVariable vars r Place t = Unit {0}
IsVariable vars r (Fresh j) t = Unit {0}
IsVariable vars r (Kept u b) t = Unit {0}

-- what code asks for is in the table of registers, and each variable that it names is one of the function
abbrev pub IsHeldIn : Routine → Layout → List Declared → Rate → Name → Elem → Type 0
IsHeldIn h l vars r x t = IsNamedIn h l r x t × IsVariable vars r x t

abbrev pub OwnTable : Routine → Layout → List Declared → Ask → Type 0
OwnTable h l vars a = All (IsHeldIn h l vars) (HoldsArray vars) (HoldsArray vars) AnyMask (IsLoadedIn l) a

module _ (w : Setting) where
  abbrev pub IsNamed : Rate → Name → Elem → Type 0
  IsNamed r x t = IsNamedIn w.routine w.layout r x t

  abbrev pub Owned : Ask → Type 0
  Owned a = OwnTable w.routine w.layout w.function.variables a

  abbrev pub SpareFits : Rate → Elem → ℕ → Type 0
  SpareFits r t n = IsNamed r (Spare t n) t

  -- a uniform value in slot n is made a varying one there
  abbrev pub LiftFits : Rate → Rate → Elem → ℕ → Type 0
  LiftFits given r t n = LiftHas IsNamed given r t n

  -- the number of lane 0 stands in slot n, where it is that of a run's first element
  abbrev pub LaneParts : Bool → ℕ → Type 0
  LaneParts true n = SpareFits Uniform I64 n
  LaneParts false n = Unit {0}

  abbrev pub RunParts : Rate → TExpr → ℕ → Type 0
  RunParts Uniform i n = LaneParts (is_lane i) n
  RunParts Varying i n = Unit {0}

  -- an operand of a node that works at rate r in type t
  pub record OperandFits (r : Rate) (t : Elem) (x : TExpr) (n : ℕ) : Type 0 where
    pub elem : (type_of x).elem ≡ t
    pub reaches : Reaches (type_of x).rate r
    pub lift : LiftFits (type_of x).rate r t n

  -- its value is read into slot n
  abbrev pub PlaceTyped : TPlace → ℕ → Type 0
  PlaceTyped z n = ValueHas IsNamed z n

  abbrev mutual
    pub ExprParts : TExpr → ℕ → Type 0
    ExprParts (t_constant v sp) n = SpareFits Uniform v.elem n
    ExprParts (t_program_index sp) n = SpareFits Varying I32 n
    ExprParts (t_place q) n = PlaceParts q n × PlaceTyped q n
    ExprParts (t_convert e x) n = (heads x ≡ 0) × SpareFits (type_of x).rate e n × ExprParts x n
    ExprParts (t_cast x t sp) n = OperandFits t.rate t.elem x n × ExprParts x n
    ExprParts (t_unary o x t sp) n = OperandFits t.rate t.elem x n × SpareFits t.rate t.elem n × ExprParts x n
    ExprParts (t_binary o x y t sp) n =
        OperandFits t.rate t.elem x n × OperandFits t.rate t.elem y (n + 1) × SpareFits t.rate t.elem n × ExprParts x n × ExprParts y (n + 1)
    ExprParts (t_compare c x y r sp) n =
        OperandFits r (type_of x).elem x n × OperandFits r (type_of x).elem y (n + 1) × SpareFits r Truth n × ExprParts x n × ExprParts y (n + 1)
    ExprParts (t_logic g x y r sp) n =
        OperandFits r Truth x n × OperandFits r Truth y (n + 1) × SpareFits r Truth n × ExprParts x n × ExprParts y (n + 1)
    ExprParts (t_choose c x y t sp) n =
        ((type_of c).elem ≡ Truth) × Reaches (type_of c).rate t.rate × SpareFits t.rate t.elem n
        × OperandFits t.rate t.elem x (first_slot (type_of c).rate n) × OperandFits t.rate t.elem y (second_slot (type_of c).rate n)
        × ExprParts c n × ExprParts x (first_slot (type_of c).rate n) × ExprParts y (second_slot (type_of c).rate n)
    ExprParts (t_call c t) n = SpareFits t.rate t.elem n × CallParts c (Some t) n
    ExprParts (t_library f e xs t sp) n = LibraryTyped f e xs t × SpareFits t.rate t.elem n × ValuesParts (library_rates f t.rate) xs n
    ExprParts (t_packed_store b x sp) n =
        SpareFits Uniform I32 n × BaseParts b n × OperandFits Varying (type_of x).elem x (n + 1) × ExprParts x (n + 1)
    ExprParts (t_packed_load b v sp) n = SpareFits Uniform I32 n × BaseParts b n × IsLoadedIn w.layout v

    -- a place whose index is taken at slot n; the element's rate is that of the array and the index
    pub PlaceParts : TPlace → ℕ → Type 0
    PlaceParts (t_variable v t sp) n = IsTyped w t.rate (w.layout.variable t.rate v) t.elem × HoldsValue w.function.variables v (ty_of t.rate t.elem)
    PlaceParts (t_element b i t sp) n =
        HoldsArray w.function.variables b × Reaches b.ty.rate t.rate × Reaches (type_of i).rate t.rate × SpareFits (type_of i).rate I64 n × ExprParts i n × RunParts b.ty.rate i n
        × FineExpr w.program.functions w.function.variables i

    -- the array of a packed call is one for the gang, its index uniform, and taken at slot n
    pub BaseParts : TBase → ℕ → Type 0
    BaseParts (t_whole b sp) n = HoldsArray w.function.variables b × (b.ty.rate ≡ Uniform) × SpareFits Uniform I64 n
    BaseParts (t_from b i sp) n =
        HoldsArray w.function.variables b × (b.ty.rate ≡ Uniform) × Reaches (type_of i).rate Uniform × SpareFits (type_of i).rate I64 n × ExprParts i n

    -- value j at slot n + j, at the next of these rates
    pub ValuesParts : List Rate → TExprs → ℕ → Type 0
    ValuesParts rs t_no_exprs n = Unit {0}
    ValuesParts rs (t_expr_then x xs) n = OperandFits (next_rate rs) (type_of x).elem x n × ExprParts x n × ValuesParts (later rs) xs (n + 1)

    -- the function that is called gives this; each argument is what its parameter holds
    pub CallParts : TCall → Option Ty → ℕ → Type 0
    CallParts (t_called f xs sp) answer n =
        (g : TFunction) × (slice_get w.program.functions f ≡ Some g) × (g.answer ≡ answer) × ArgumentsParts (params_of g) xs n

    pub ArgumentsParts : List Declared → TArguments → ℕ → Type 0
    ArgumentsParts [] t_no_arguments n = Unit {0}
    ArgumentsParts [] (t_argument_then x xs) n = ⊥
    ArgumentsParts (v ∷ vs) t_no_arguments n = ⊥
    ArgumentsParts (v ∷ vs) (t_argument_then x xs) n = ArgumentParts v.holds x n × ArgumentsParts vs xs (n + 1)

    -- an array that is handed over is one for the gang
    pub ArgumentParts : Holds → TArgument → ℕ → Type 0
    ArgumentParts (holds.Value t) (t_by_value x) n = OperandFits t.rate t.elem x n × ExprParts x n
    ArgumentParts (holds.Given e) (t_by_name b sp) n = HoldsArray w.function.variables b × (b.ty.rate ≡ Uniform)
    ArgumentParts y x n = ⊥

-- every type but bool: operators work in these
abbrev pub IsNumber : Elem → Type 0
IsNumber Truth = ⊥
IsNumber t = Unit {0}

module _ (w : Setting) where
  -- slot i has a register of the operator's type where that is another, and one of an element's
  abbrev pub WorkFits : Bool → Rate → Elem → ℕ → Type 0
  WorkFits same r t i = WorkHas (IsNamed w) same r t i

  abbrev pub ReadFits : TPlace → ℕ → Type 0
  ReadFits z i = ReadHas (IsNamed w) z i

  -- a variable that is written counts no lanes
  abbrev pub TargetOther : TPlace → Type 0
  TargetOther (t_variable v t sp) = MayWrite w t.rate v
  TargetOther (t_element b i t sp) = Unit {0}

  -- a place with its index at slot n, that an operator of type t reads and writes
  pub record ChangeFits (t : Elem) (z : TPlace) (n i : ℕ) : Type 0 where
    pub number : IsNumber t
    pub target : PlaceParts w z n
    pub working : WorkFits (same_elem (place_type z).elem t) (place_type z).rate t i
    pub back : ReadFits z i
    pub other : TargetOther z

  abbrev pub SimpleParts : TSimple → ℕ → Type 0
  SimpleParts (t_value x) n = ExprParts w x n
  SimpleParts (t_run c) n = CallParts w c None n
  SimpleParts (t_assign z x sp) n = PlaceParts w z n × OperandFits w (place_type z).rate (place_type z).elem x (beyond z n) × ExprParts w x (beyond z n) × TargetOther z
  SimpleParts (t_update o t z x sp) n =
      ChangeFits t z n (beyond z n + 1) × OperandFits w (place_type z).rate t x (beyond z n) × ExprParts w x (beyond z n)
  SimpleParts (t_step o t z sp) n =
      ChangeFits t z n (beyond z n + 1) × SpareFits w Uniform t (beyond z n) × LiftFits w Uniform (place_type z).rate t (beyond z n)

module _ (w : Setting) where
  abbrev pub ZeroFits : Rate → Elem → ℕ → ℕ → Type 0
  ZeroFits r t v n = ZeroHas (IsNamed w) r t v n

  abbrev pub ItemParts : ℕ → TItem → Type 0
  ItemParts n (t_plain v t sp) = ZeroFits t.rate t.elem v n × MayWrite w t.rate v
  ItemParts n (t_with_value v t x sp) = IsTyped w t.rate (w.layout.variable t.rate v) t.elem × OperandFits w t.rate t.elem x n × ExprParts w x n × MayWrite w t.rate v
  ItemParts n (t_with_size b sp) = HoldsArray w.function.variables b

  abbrev pub ItemsParts : ℕ → List TItem → Type 0
  ItemsParts n [] = Unit {0}
  ItemsParts n (x ∷ xs) = ItemParts n x × ItemsParts n xs
