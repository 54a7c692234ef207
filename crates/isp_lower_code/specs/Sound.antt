-- Each instruction of some code is one whose line of the machine's table applies: its registers are there and of their
-- kinds, its places are there, and its jumps go to instructions of the function.
use Rattle.std.specs.Prelude.{◌≡◌, ◌≤◌, ◌<◌, ℕ, ◌+◌, List, [], ◌∷◌, length, Some, true, false, slice_get}
use Rattle.isp_base.specs.declared.types.Elem.{Elem}
use Rattle.isp_base.specs.declared.types.Elem.TheVariants.{I32}
use Rattle.isp_base.specs.declared.types.Rate.{Rate}
use Rattle.isp_base.specs.declared.types.Rate.TheVariants.{Uniform, Varying}
use Rattle.isp_base.specs.declared.types.Span.{Span}
use Rattle.isp_code.specs.Fine.{IsThere, AllFine, CallsFine}
use Rattle.isp_code.specs.Listing.{Listing, Routine}
use Rattle.isp_code.specs.Operands.{operands}
use Rattle.isp_code.specs.Registers.{elem_of, is_per_lane, is_local}
use Rattle.isp_code.specs.declared.instr.Instr.{Instr}
use Rattle.isp_code.specs.declared.register.Class.TheVariants as class
use Rattle.isp_code.specs.declared.function.Param.{Param}
use Rattle.isp_typed.specs.Fine.{FineExpr, params_of}
use Rattle.isp_typed.specs.Typed.{TExpr, TFunction, TRange, TSimple, TItem, type_of}
use Rattle.isp_typed.specs.declared.variable.Variable.{Variable}
use Rattle.isp_lower_code.specs.Callees.{rates_in}
use Rattle.isp_lower_code.specs.Header.{kind_of, elem_held, returns_of}
use Rattle.isp_typed.specs.declared.variable.ArrayVariable.{ArrayVariable}
use Rattle.isp_lower_code.specs.Indices.{EachIndex}
use Rattle.isp_lower_code.specs.Layout.{Layout, class_at, register, array_register}
use Rattle.isp_lower_code.specs.Rated.{IsRated}
use Rattle.isp_lower_code.specs.RowCode.{IsRowType, row_asks, row_index_asks}
use Rattle.isp_lower_code.specs.Rows.{Name, numbered}
use Rattle.isp_lower_code.specs.Spans.{expr_places}
use Rattle.isp_lower_code.specs.Asks.{Ask, All, expr_asks, simple_asks, items_asks}
use Rattle.isp_lower_code.specs.Tables.{IsLoadedIn}

module _ (code : Listing) (h : Routine) where
  abbrev pub IsSound : Instr → Type 0
  IsSound i = AllFine code h (operands i) × CallsFine code h i

  abbrev pub AreSound : List Instr → Type 0
  AreSound [] = Unit {0}
  AreSound (i ∷ is) = IsSound i × AreSound is

  -- code that begins anywhere before the function's last instruction, names places that are there, and works under a
  -- mask that is there
  abbrev pub PartSound : List Span → (ℕ → ℕ → ℕ → List Instr) → Type 0
  PartSound places part = (pc p k : ℕ) → k < h.masks → p + length places ≤ length code.places → pc + length (part pc p k) < length h.code → AreSound (part pc p k)

-- ---- the functions that code calls

-- a routine's parameters are what some variables hold
abbrev pub AreHeld : List Variable → List Param → Type 0
AreHeld [] [] = Unit {0}
AreHeld (v ∷ vs) (p ∷ ps) = (p.kind ≡ kind_of v.holds) × (p.elem ≡ elem_held v.holds) × AreHeld vs ps
AreHeld vs ps = ⊥

-- routine f takes what function g takes, and gives what it gives
pub record HasHeader (code : Listing) (f : ℕ) (g : TFunction) : Type 0 where
  pub routine : Routine
  pub found : slice_get code.routines f ≡ Some routine
  pub params : AreHeld (params_of g) routine.params
  pub returns : routine.returns ≡ returns_of g.answer

-- ---- the registers that a function has

module _ (h : Routine) where
  -- the register of a rate and of a number is there, and has this type
  abbrev pub IsRegister : Rate → ℕ → Elem → Type 0
  IsRegister r x t = IsThere h (class_at r) (register r x) × (elem_of h (register r x) ≡ t)

  abbrev pub HasMask : ℕ → Type 0
  HasMask k = k < h.masks

  -- an array that all lanes share is not each lane's own
  abbrev pub IsShared : Rate → ℕ → Type 0
  IsShared Uniform a = is_per_lane h (array_register a) ≡ false
  IsShared Varying a = Unit {0}

  module _ (l : Layout) where
    abbrev pub HasRegister : Rate → Name → Elem → Type 0
    HasRegister r x t = IsRegister r (numbered l r x) t

    -- the array is there, has elements of its type, and is shared where it is one for the gang
    abbrev pub HasArray : ArrayVariable → Type 0
    HasArray b =
        IsThere h class.Array (array_register (l.array b.number)) × (elem_of h (array_register (l.array b.number)) ≡ b.ty.elem) × IsShared b.ty.rate (l.array b.number)

    -- and the function itself opens it
    abbrev pub HasLocal : ArrayVariable → Type 0
    HasLocal b = HasArray b × (is_local h (array_register (l.array b.number)) ≡ true)

    -- ---- the registers that code asks for are there

    abbrev pub Granted : Ask → Type 0
    Granted a = All HasRegister HasArray HasLocal HasMask (IsLoadedIn l) a

    abbrev pub ExprPresent : TExpr → ℕ → Type 0
    ExprPresent x n = Granted (expr_asks x n)

    abbrev pub SimplePresent : TSimple → ℕ → Type 0
    SimplePresent x n = Granted (simple_asks x n)

    abbrev pub ItemsPresent : ℕ → List TItem → Type 0
    ItemsPresent n xs = Granted (items_asks n xs)

-- ---- the functions that code calls, and the constants that it finds

-- each constant that a layout keeps has its register
abbrev pub HasKept : Routine → Layout → Type 0
HasKept h l = (r : Rate) (t : Elem) (b : ℕ) → l.kept r t b ≡ true → IsRegister h r (l.constant r t b) t

-- the code of an index that is taken as a row at slot n has its operands; so have the scalar, and what accesses need
pub record RowLinked (code : Listing) (h : Routine) (l : Layout) (i : TExpr) (n : ℕ) : Type 0 where
  pub row : IsRowType (type_of i).elem
  pub scalar : IsRegister h Uniform (l.row_at i n) (type_of i).elem
  pub granted : (m : ℕ) → n < m → m ≤ n + 3 → Granted h l (row_asks (type_of i).elem m)
  pub sound : PartSound code h (expr_places l i) (λ pc p k. l.row i pc p k n)

-- where a `foreach` sets the scalars of its indices, they have registers; and what a row asks for is there where the layout says so
pub record SetsLinked (h : Routine) (l : Layout) (rs : List TRange) : Type 0 where
  pub singles : EachIndex (λ i. IsRegister h Uniform (l.variable Uniform i) I32) rs
  pub there : (i : TExpr) (n : ℕ) → l.there i n ≡ true → Granted h l (row_index_asks i n)

-- each function has its routine, code hands over at the rates of the parameters, constants that are kept have their registers, and so have
-- indices that are taken as rows, and those of which a `foreach` sets scalars
pub record Links (fs : List TFunction) (code : Listing) (h : Routine) (l : Layout) : Type 0 where
  pub rates : l.rates ≡ rates_in fs
  pub headers : (f : ℕ) (g : TFunction) → slice_get fs f ≡ Some g → HasHeader code f g
  pub constants : HasKept h l
  pub rows : (vars : List Variable) (i : TExpr) (n : ℕ) → FineExpr fs vars i → IsRated fs i → l.is_row i n ≡ true → RowLinked code h l i n
  pub sets : (rs : List TRange) → l.sets rs ≡ true → SetsLinked h l rs
