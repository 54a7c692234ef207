-- What names and types promise of every program that they accept, in the words of its meaning: a variable is used as what
-- it holds, an operand has the element type that its node works in, a call fits what it calls. Which typed tree a tree is, so
-- what well typed means, is said elsewhere: specs/Rules.antt of isp_exprs, Statements.antt and Functions.antt of isp_types. This
-- follows from it, and is what the layers above rely on, together with Scoped.antt.
--     fs   the functions of the program        vars   the variables of the function        answer   what it gives back
use Rattle.std.specs.Prelude.{◌≡◌, ℕ, ◌+◌, ◌≤◌, ◌<◌, List, [], ◌∷◌, ◌++◌, length, map, take, drop, count_by, slice_get, bytes_eq, Bool, true, false, ◌==◌, ◌&&◌, ◌||◌, not, Option, Some, None, option_map}
use Rattle.std.specs.List.{All, list_any}
use Rattle.isp_base.specs.declared.types.Elem.{Elem}
use Rattle.isp_base.specs.declared.types.Elem.TheVariants.{Bool as Truth, I32, U32}
use Rattle.isp_base.specs.declared.types.Rate.{Rate}
use Rattle.isp_base.specs.declared.types.Rate.TheVariants.{Uniform, Varying}
use Rattle.isp_base.specs.declared.types.Ty.{Ty}
use Rattle.isp_base.specs.declared.operators.UnaryOp.{UnaryOp}
use Rattle.isp_base.specs.declared.operators.UnaryOp.TheVariants.{Negate, Invert, Absolute, Not}
use Rattle.isp_base.specs.declared.signature.Parameter.{Parameter}
use Rattle.isp_base.specs.Ranks.{same_elem, operand}
use Rattle.isp_base.specs.Values.{greatest}
use Rattle.isp_tree.specs.Sound.{InText, IfAny}
use Rattle.isp_typed.specs.declared.library.Library.{Library}
use Rattle.isp_typed.specs.declared.library.Library.TheVariants as the
use Rattle.isp_typed.specs.declared.library.Part.{Part}
use Rattle.isp_typed.specs.declared.variable.ArrayVariable.{ArrayVariable}
use Rattle.isp_typed.specs.declared.variable.Holds.{Holds}
use Rattle.isp_typed.specs.declared.variable.Holds.TheVariants as holds
use Rattle.isp_typed.specs.declared.variable.Variable.{Variable}
use Rattle.isp_typed.specs.Indices.{foreach_index, unique_index, active_index}
use Rattle.isp_typed.specs.Library.{parts, part_elem, library_type}
use Rattle.isp_typed.specs.Nodes.{program_nodes}
use Rattle.isp_typed.specs.Typed.{TExpr, t_constant, t_program_index, t_place, t_convert, t_cast, t_unary, t_binary, t_compare, t_logic, t_choose, t_call, t_library, t_packed_store}
use Rattle.isp_typed.specs.Typed.{t_packed_load, TPlace, t_variable, t_element, TBase, t_whole, t_from, base_array, TArgument, t_by_value, t_by_name, TCall, t_called, TArguments}
use Rattle.isp_typed.specs.Typed.{t_no_arguments, t_argument_then, TExprs, t_no_exprs, t_expr_then, type_of, elem_of, rate_of, rate_or, place_type, ty_of}
use Rattle.isp_typed.specs.Typed.{TItem, t_plain, t_with_value, t_with_size, TSimple, t_value, t_run, t_assign, t_update, t_step, TFirst, t_first_declare, t_first_simple, TRange}
use Rattle.isp_typed.specs.Typed.{TStmt, t_block, t_declare, t_simple, t_if, t_if_else, t_while, t_do, t_for, t_foreach, t_foreach_active, t_foreach_unique, t_unmasked, t_jump}
use Rattle.isp_typed.specs.Typed.{t_return, t_print, t_assert, TBlock, t_braces, TStmts, t_no_stmts, t_stmt_then, TFunction, Program}

-- a type of whole numbers
abbrev pub IsWhole : Elem → Type 0
IsWhole e = operand e ≡ e

-- ---- variables

-- the variable of this number holds a value of this type
pub record HoldsValue (vars : List Variable) (k : ℕ) (t : Ty) : Type 0 where
  pub constant : Bool
  pub is : slice_get vars k ≡ Some (record { holds = holds.Value t; constant = constant })

-- and may be assigned to
abbrev pub HoldsOpen : List Variable → ℕ → Ty → Type 0
HoldsOpen vars k t = slice_get vars k ≡ Some (record { holds = holds.Value t; constant = false })

abbrev pub array_type : Holds → Option Ty
array_type (holds.Value t) = None
array_type (holds.Given e) = Some (ty_of Uniform e)
array_type (holds.Local t n) = Some t

-- the array is the variable of its number
pub record HoldsArray (vars : List Variable) (a : ArrayVariable) : Type 0 where
  pub variable : Variable
  pub is : slice_get vars a.number ≡ Some variable
  pub ty : array_type variable.holds ≡ Some a.ty
  pub constant : a.constant ≡ variable.constant

-- a local array has 1 to 65,536 elements
pub record IsSized (n : ℕ) : Type 0 where
  pub some : 1 ≤ n
  pub few : n ≤ 65536

-- ---- operators

-- two operands of one element type; varying where one of them is
pub record AreOperands (x y : TExpr) (e : Elem) (r : Rate) : Type 0 where
  pub left : elem_of x ≡ e
  pub right : elem_of y ≡ e
  pub rate : r ≡ rate_or (rate_of x) (rate_of y)

-- `!` is of a bool, the other operators of whole numbers
abbrev pub WorksIn : UnaryOp → Elem → Type 0
WorksIn Negate e = IsWhole e
WorksIn Invert e = IsWhole e
WorksIn Absolute e = IsWhole e
WorksIn Not e = e ≡ Truth

-- `any`, `all` and `none` are of bools, `select` of values of any type, the other functions of whole numbers
abbrev pub LibraryWorksIn : Library → Elem → Type 0
LibraryWorksIn the.ReduceAdd e = IsWhole e
LibraryWorksIn the.ReduceMin e = IsWhole e
LibraryWorksIn the.ReduceMax e = IsWhole e
LibraryWorksIn the.ReduceEqual e = IsWhole e
LibraryWorksIn the.Any e = e ≡ Truth
LibraryWorksIn the.All e = e ≡ Truth
LibraryWorksIn the.None e = e ≡ Truth
LibraryWorksIn the.ScanAdd e = IsWhole e
LibraryWorksIn the.ScanAnd e = IsWhole e
LibraryWorksIn the.ScanOr e = IsWhole e
LibraryWorksIn the.Broadcast e = IsWhole e
LibraryWorksIn the.Rotate e = IsWhole e
LibraryWorksIn the.Shift e = IsWhole e
LibraryWorksIn the.Shuffle e = IsWhole e
LibraryWorksIn the.ShuffleTwo e = IsWhole e
LibraryWorksIn the.Extract e = IsWhole e
LibraryWorksIn the.Insert e = IsWhole e
LibraryWorksIn the.Min e = IsWhole e
LibraryWorksIn the.Max e = IsWhole e
LibraryWorksIn the.Clamp e = IsWhole e
LibraryWorksIn the.Abs e = IsWhole e
LibraryWorksIn the.Select e = Unit {0}

-- how many conversions stand at the head of an expression
abbrev pub heads : TExpr → ℕ
heads (t_constant v s) = 0
heads (t_program_index s) = 0
heads (t_place p) = 0
heads (t_convert e x) = 1 + heads x
heads (t_cast x t s) = 0
heads (t_unary op x t s) = 0
heads (t_binary op x y t s) = 0
heads (t_compare c x y r s) = 0
heads (t_logic l x y r s) = 0
heads (t_choose c x y t s) = 0
heads (t_call c t) = 0
heads (t_library f e xs t s) = 0
heads (t_packed_store b x s) = 0
heads (t_packed_load b v s) = 0

-- varying where one of the values is
abbrev pub rates_of : TExprs → Rate
rates_of t_no_exprs = Uniform
rates_of (t_expr_then x xs) = rate_or (rate_of x) (rates_of xs)

-- the parameters of a function are the first of its variables
abbrev pub params_of : TFunction → List Variable
params_of f = take (length f.params) f.variables

module _ (fs : List TFunction) (vars : List Variable) where
  abbrev mutual
    pub FineExpr : TExpr → Type 0
    FineExpr (t_constant v s) = v.bits ≤ greatest v.elem
    FineExpr (t_program_index s) = Unit {0}
    FineExpr (t_place p) = FinePlace p
    -- no conversion is of a conversion
    FineExpr (t_convert e x) = FineExpr x × (heads x ≡ 0)
    FineExpr (t_cast x t s) = FineExpr x × (elem_of x ≡ t.elem)
    FineExpr (t_unary op x t s) = FineExpr x × (type_of x ≡ t) × WorksIn op t.elem
    FineExpr (t_binary op x y t s) = FineExpr x × FineExpr y × AreOperands x y t.elem t.rate × IsWhole t.elem × InText s
    FineExpr (t_compare c x y r s) = FineExpr x × FineExpr y × AreOperands x y (elem_of x) r
    FineExpr (t_logic l x y r s) = FineExpr x × FineExpr y × AreOperands x y Truth r
    FineExpr (t_choose c x y t s) =
        FineExpr c × FineExpr x × FineExpr y × (elem_of c ≡ Truth) × (elem_of x ≡ t.elem) × (elem_of y ≡ t.elem)
        × (t.rate ≡ rate_or (rate_of c) (rate_or (rate_of x) (rate_of y)))
    FineExpr (t_call c t) = FineCall c (Some t)
    FineExpr (t_library f e xs t s) = FineParts e (parts f) xs × LibraryWorksIn f e × (t ≡ library_type f e (rates_of xs))
    FineExpr (t_packed_store b x s) = FineBase b × FineExpr x × (elem_of x ≡ (base_array b).ty.elem) × ((base_array b).constant ≡ false) × InText s
    FineExpr (t_packed_load b v s) = FineBase b × HoldsOpen vars v (ty_of Varying (base_array b).ty.elem) × InText s

    pub FinePlace : TPlace → Type 0
    FinePlace (t_variable k t s) = HoldsValue vars k t
    FinePlace (t_element a i t s) = HoldsArray vars a × FineExpr i × (t ≡ ty_of (rate_or a.ty.rate (rate_of i)) a.ty.elem) × InText s

    -- the array of a packed call has elements of 32 bits
    pub FineBase : TBase → Type 0
    FineBase (t_whole a s) = HoldsArray vars a × ((same_elem a.ty.elem I32 || same_elem a.ty.elem U32) ≡ true)
    FineBase (t_from a i s) = HoldsArray vars a × FineExpr i × ((same_elem a.ty.elem I32 || same_elem a.ty.elem U32) ≡ true)

    -- the function called gives this, and each argument is what its parameter holds
    pub FineCall : TCall → Option Ty → Type 0
    FineCall (t_called k xs s) answer =
        (g : TFunction) × (slice_get fs k ≡ Some g) × (g.answer ≡ answer) × FineArguments (params_of g) xs × InText s

    pub FineArguments : List Variable → TArguments → Type 0
    FineArguments [] t_no_arguments = Unit {0}
    FineArguments [] (t_argument_then x xs) = ⊥
    FineArguments (v ∷ vs) t_no_arguments = ⊥
    FineArguments (v ∷ vs) (t_argument_then x xs) = FineArgument v.holds v.constant x × FineArguments vs xs

    -- a constant array goes to a constant parameter alone
    pub FineArgument : Holds → Bool → TArgument → Type 0
    FineArgument (holds.Value t) constant (t_by_value x) = FineExpr x × (elem_of x ≡ t.elem)
    FineArgument (holds.Given e) constant (t_by_name a s) = HoldsArray vars a × (a.ty.elem ≡ e) × ((a.constant && not constant) ≡ false)
    FineArgument h constant x = ⊥

    -- each value as its place asks
    pub FineParts : Elem → List Part → TExprs → Type 0
    FineParts e [] t_no_exprs = Unit {0}
    FineParts e [] (t_expr_then x xs) = ⊥
    FineParts e (p ∷ ps) t_no_exprs = ⊥
    FineParts e (p ∷ ps) (t_expr_then x xs) = FineExpr x × (elem_of x ≡ part_elem e p) × FineParts e ps xs

  -- a value of this element type
  abbrev pub FineValue : Elem → TExpr → Type 0
  FineValue e x = FineExpr x × (elem_of x ≡ e)

  -- what is assigned to is not constant
  abbrev pub FineTarget : TPlace → Type 0
  FineTarget (t_variable k t s) = HoldsOpen vars k t
  FineTarget (t_element a i t s) = FinePlace (t_element a i t s) × (a.constant ≡ false)

  abbrev pub FineItem : TItem → Type 0
  FineItem (t_plain k t s) = HoldsValue vars k t
  FineItem (t_with_value k t x s) = HoldsValue vars k t × FineValue t.elem x
  FineItem (t_with_size a s) =
      (n : ℕ) × (slice_get vars a.number ≡ Some (record { holds = holds.Local a.ty n; constant = a.constant })) × IsSized n

  abbrev pub FineSimple : TSimple → Type 0
  FineSimple (t_value x) = FineExpr x
  FineSimple (t_run c) = FineCall c None
  FineSimple (t_assign p x s) = FineTarget p × FineValue (place_type p).elem x
  FineSimple (t_update op e p x s) = FineTarget p × FineValue e x × IsWhole e × InText s
  FineSimple (t_step op e p s) = FineTarget p × IsWhole e × InText s

  abbrev pub FineFirst : TFirst → Type 0
  FineFirst (t_first_declare is s) = All FineItem is
  FineFirst (t_first_simple p) = FineSimple p

  pub record FineRange (r : TRange) : Type 0 where
    pub index : slice_get vars r.index ≡ Some foreach_index
    pub start : FineValue I32 r.start
    pub end : FineValue I32 r.end

  -- a value where the function gives one
  abbrev pub FineReturned : Option Ty → Option TExpr → Type 0
  FineReturned None None = Unit {0}
  FineReturned (Some t) (Some x) = FineValue t.elem x
  FineReturned None (Some x) = ⊥
  FineReturned (Some t) None = ⊥

  module _ (answer : Option Ty) where
    abbrev mutual
      pub FineStmt : TStmt → Type 0
      FineStmt (t_block b) = FineBlock b
      FineStmt (t_declare is s) = All FineItem is
      FineStmt (t_simple p s) = FineSimple p
      FineStmt (t_if f n x a s) = (n ≤ length vars) × FineValue Truth x × FineStmt a
      FineStmt (t_if_else f n x a b s) = (n ≤ length vars) × FineValue Truth x × FineStmt a × FineStmt b
      FineStmt (t_while f n x a s) = (n ≤ length vars) × FineValue Truth x × FineStmt a
      FineStmt (t_do f n a x s) = (n ≤ length vars) × FineStmt a × FineValue Truth x
      FineStmt (t_for f n i x p m a s) =
          (n ≤ m) × (m ≤ length vars) × IfAny FineFirst i × IfAny (FineValue Truth) x × IfAny FineSimple p × FineStmt a
      FineStmt (t_foreach k n rs a s) = (n ≤ length vars) × All FineRange rs × FineStmt a
      FineStmt (t_foreach_active k n i a s) = (n ≤ length vars) × (slice_get vars i ≡ Some active_index) × FineStmt a
      FineStmt (t_foreach_unique k n i e x a s) =
          (n ≤ length vars) × (slice_get vars i ≡ Some (unique_index e)) × FineValue (operand e) x × FineStmt a
      FineStmt (t_unmasked k b s) = FineBlock b
      FineStmt (t_jump j k s) = Unit {0}
      FineStmt (t_return k x s) = FineReturned answer x
      -- one value for each `%`
      FineStmt (t_print k t xs s) = (count_by (λ c. c == 37) t ≡ length xs) × All FineExpr xs
      FineStmt (t_assert x c s) = FineValue Truth x × InText c

      pub FineBlock : TBlock → Type 0
      FineBlock (t_braces ss s) = FineStmts ss

      pub FineStmts : TStmts → Type 0
      FineStmts t_no_stmts = Unit {0}
      FineStmts (t_stmt_then s ss) = FineStmt s × FineStmts ss

-- a caller hands over a value or an array
abbrev pub IsParam : Parameter → Holds → Type 0
IsParam p (holds.Value t) = (p.is_array ≡ false) × (p.elem ≡ t.elem)
IsParam p (holds.Given e) = (p.is_array ≡ true) × (p.elem ≡ e)
IsParam p (holds.Local t n) = ⊥

abbrev pub AreParams : List Parameter → List Variable → Type 0
AreParams [] [] = Unit {0}
AreParams [] (v ∷ vs) = ⊥
AreParams (p ∷ ps) [] = ⊥
AreParams (p ∷ ps) (v ∷ vs) = IsParam p v.holds × AreParams ps vs

-- each name is another than those before it
abbrev pub all_new : List (List ℕ) → List (List ℕ) → Bool
all_new earlier [] = true
all_new earlier (w ∷ ws) = not (list_any (λ n. bytes_eq n w) earlier) && all_new (earlier ++ w ∷ []) ws

-- what a function declares in its body: a value or a local array
abbrev pub IsDeclared : Variable → Type 0
IsDeclared v = of v.holds where
  of : Holds → Type 0
  of (holds.Value t) = Unit {0}
  of (holds.Given e) = ⊥
  of (holds.Local t n) = IsSized n

pub record FineFunction (fs : List TFunction) (f : TFunction) : Type 0 where
  pub params : AreParams f.parameters (params_of f)
  pub names : all_new [] (map (λ p. p.name) f.parameters) ≡ true
  pub declared : All IsDeclared (drop (length f.params) f.variables)
  pub gives : f.gives ≡ option_map (λ t. t.elem) f.answer
  pub body : FineBlock fs f.variables f.answer f.body

-- there are fewer nodes, conversions included
abbrev pub most_nodes : ℕ
most_nodes = 16777216

pub record IsFine (p : Program) : Type 0 where
  pub each : All (FineFunction p.functions) p.functions
  pub names : all_new [] (map (λ f. f.name) p.functions) ≡ true
  pub few : program_nodes p < most_nodes
