-- A function and the routine that is its code.
use Rattle.std.specs.Prelude.{◌≡◌, ℕ, List, [], ◌∷◌, length, Option, Some, None, true, slice_get, false}
use Rattle.isp_base.specs.Sets.{everyone, nobody}
use Rattle.isp_base.specs.Types.{gang_width}
use Rattle.isp_base.specs.declared.signature.Argument.{Argument}
use Rattle.isp_base.specs.declared.types.Elem.{Elem}
use Rattle.isp_base.specs.declared.types.Rate.{Rate}
use Rattle.isp_base.specs.declared.types.Rate.TheVariants.{Uniform}
use Rattle.isp_base.specs.declared.types.Ty.{Ty}
use Rattle.isp_code.specs.Entries.{parameters_of, result_of}
use Rattle.isp_code.specs.Listing.{Listing, Routine}
use Rattle.isp_code.specs.Calls.{new_home}
use Rattle.isp_code.specs.Conf as machine
use Rattle.isp_code.specs.Registers.{elem_of}
use Rattle.isp_typed.specs.Fine.{FineFunction, params_of}
use Rattle.isp_typed.specs.Typed.{Program, TFunction}
use Rattle.isp_typed.specs.declared.variable.Holds.{Holds}
use Rattle.isp_typed.specs.declared.variable.Holds.TheVariants.{Value as AValue, Given, Local}
use Rattle.isp_typed.specs.declared.variable.Variable.{Variable as Declared}
use Rattle.isp_meaning.specs.Calls.{frame_of, begun}
use Rattle.isp_meaning.specs.Runs.{handed, first_frame, first_state}
use Rattle.isp_meaning.specs.Expressions.{Passed}
use Rattle.isp_meaning.specs.State.{State, Frame}
use Rattle.isp_lower_code.specs.Callees.{rates_in}
use Rattle.isp_lower_code.specs.Layout.{HasNoRows, KnowsNothing, Layout, IsApart, SetsNone, register}
use Rattle.isp_lower_code.specs.Setting.{Setting, AreAt}
use Rattle.isp_lower_code.specs.Tables.{Table}
use Rattle.isp_lower_code.specs.declared.constant.Constant.{Constant}
use Rattle.isp_masks_code.specs.Arrays.{ArraysStand}
use Rattle.isp_masks_code.specs.Asks.{block_asks}
use Rattle.isp_masks_code.specs.Rated.{BlockRated}
use Rattle.isp_masks_code.specs.Keeping.{Each, KeepsThem}
use Rattle.isp_masks_code.specs.Passing.{PassedFirst}
use Rattle.isp_masks_code.specs.Named.{AreNamed}
use Rattle.isp_masks_code.specs.Spots.{Numbers}
use Rattle.isp_masks_code.specs.Statements.{block_places, block_texts, function_code}
use Rattle.isp_meaning.specs.Loads.{no_variable}
use Rattle.isp_masks_code.specs.Free.{BlockFree}

-- the state in which the entry's body begins, and the setting: nothing waits, and 255 more calls may run
abbrev pub entry_state : Program → TFunction → List Argument → State
entry_state program h xs = begun h (handed 0 xs) (first_frame xs) (everyone (gang_width program.gang)) (first_state xs)

-- a call of function f with these stores for its arrays, from a caller's frame, over the calls that wait
abbrev pub call_setting : Program → Listing → ℕ → TFunction → Routine → Layout → (ℕ → ℕ) → List machine.Frame → List Passed → Frame → ℕ → ℕ → Setting
call_setting program code f h g l names waiting ps caller turns left =
    record {
      program = program;
      code = code;
      function = h;
      routine = g;
      layout = l;
      home = new_home g f names caller.sizes caller.opened;
      waiting = waiting;
      frame = frame_of h ps caller;
      turns = turns;
      left = left;
      members = nobody;
      start = 0;
    }

abbrev pub entry_setting : Program → Listing → ℕ → TFunction → Routine → Layout → ℕ → List Argument → Setting
entry_setting program code f h g l turns xs = call_setting program code f h g l (λ a. a) [] (handed 0 xs) (first_frame xs) turns 255

-- what the function gives stands in a scalar of its type
abbrev pub ResultFits : Routine → Layout → Option Ty → Option Elem → Type 0
ResultFits g l None gives = gives ≡ None
ResultFits g l (Some t) gives = (t.rate ≡ Uniform) × (gives ≡ Some t.elem) × (elem_of g (register Uniform (l.result Uniform)) ≡ t.elem)

-- one value for the gang, or an array
abbrev pub IsOne : Holds → Type 0
IsOne (AValue t) = t.rate ≡ Uniform
IsOne (Given t) = Unit {0}
IsOne (Local t n) = Unit {0}

abbrev pub AreOne : List Declared → Type 0
AreOne [] = Unit {0}
AreOne (x ∷ xs) = IsOne x.holds × AreOne xs

-- Routine f is the code of function f, by this layout; what it names begins at these numbers. Names, types and rates accept the
-- function; what its code asks for is in the table of registers; it is handed values in the first registers of their classes, and
-- hands over as the parameters of the functions ask; and its arrays stand where a call has them.
pub record IsCompiled (program : Program) (code : Listing) (f : ℕ) (h : TFunction) (g : Routine) (l : Layout) (z : Numbers) : Type 0 where
  pub gang : code.gang ≡ program.gang
  pub source : slice_get program.functions f ≡ Some h
  pub found : slice_get code.routines f ≡ Some g
  pub apart : IsApart l
  pub rates : l.rates ≡ rates_in program.functions
  pub fine : FineFunction program.functions h
  pub passed : PassedFirst h l
  pub constants : List Constant
  pub code_is : AreAt g.code 0 (function_code l h.answer constants h.body 0 z)
  pub names : AreNamed code z (block_places l h.body) (block_texts h.body)
  pub rated : BlockRated program.functions h.answer h.body
  pub free : BlockFree no_variable h.body
  pub run : l.run ≡ None
  pub outside : l.in_run ≡ false
  pub known : KnowsNothing l
  pub rows : HasNoRows l
  pub sets : SetsNone l
  -- the constants are those that the layout keeps, in registers of their types, as are the spare ones through which vectors get them
  pub keeps : KeepsThem l constants
  pub kept_typed : (r : Rate) (t : Elem) (b : ℕ) → l.kept r t b ≡ true → elem_of g (register r (l.constant r t b)) ≡ t
  pub spares_typed : Each (λ x. elem_of g (register Uniform (l.spare Uniform x.elem 3)) ≡ x.elem) constants
  pub named : Table g l h.variables (block_asks h.answer h.body 3)
  pub arrays : ArraysStand h g l

pub record IsFunctionCode (program : Program) (code : Listing) (f : ℕ) (h : TFunction) (g : Routine) : Type 0 where
  pub layout : Layout
  pub numbers : Numbers
  pub compiled : IsCompiled program code f h g layout numbers

-- each function has its code, by number
pub record AreCompiled (program : Program) (code : Listing) : Type 0 where
  pub count : length code.routines ≡ length program.functions
  pub each : (f : ℕ) (h : TFunction) (g : Routine) → slice_get program.functions f ≡ Some h → slice_get code.routines f ≡ Some g → IsFunctionCode program code f h g

-- what an exported function is besides: it has its signature, and takes and gives one value for the gang
pub record IsEntry (h : TFunction) (g : Routine) (l : Layout) : Type 0 where
  pub parameters : parameters_of g ≡ h.parameters
  pub result : result_of g.returns ≡ h.gives
  pub one : AreOne (params_of h)
  pub gives : ResultFits g l h.answer h.gives

-- The code has the functions of a program by number, and those that are exported with their names and signatures.
pub record IsProgramCode (program : Program) (code : Listing) : Type 0 where
  pub gang : code.gang ≡ program.gang
  pub compiled : AreCompiled program code
  pub named : (f : ℕ) (h : TFunction) (g : Routine) → slice_get program.functions f ≡ Some h → slice_get code.routines f ≡ Some g → (g.name ≡ h.name) × (g.exported ≡ h.exported)
  pub entries : (f : ℕ) (h : TFunction) (g : Routine) (eh : slice_get program.functions f ≡ Some h) (eg : slice_get code.routines f ≡ Some g) → h.exported ≡ true → IsEntry h g (compiled.each f h g eh eg).layout
