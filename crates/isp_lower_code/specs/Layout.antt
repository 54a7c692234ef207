-- The registers of a function's frame. A uniform variable is a scalar register, a varying one a vector register, and so
-- are what the function gives back and the spare registers of each type. Spare registers come in slots, which code uses
-- as a stack; slot j has mask register j too. Fresh registers are those that no tree asks for. Each of these is another
-- register. With them stand the rates of the parameters of functions that code calls, by the functions' numbers, and which variables
-- packed loads write: a varying one of these is copied where it is read, since a later part may write it. A varying variable may count the
-- lanes of a run, from the number in the place's register on; and code may be for lanes of such a run alone. Constants of a type and
-- with some bits may be kept at a rate: each has a register, which holds it while the function runs. Indices may be taken as rows: at which
-- slots which, the code of the scalar from which such an index counts on, given its instruction, place, mask and slot, and the scalar's register.
-- Of varying variables it may be known, in members of a run, that one is the same in each, or counts on from one to the next (isp_steady): the
-- scalar register of its number has the scalar by which it is so. A `foreach` may set such scalars of its indices, by its ranges: so its body knows
-- them; and it is said of which indices, at which slots, the registers of a row are there.
use Rattle.std.specs.Prelude.{◌≡◌, ◌≢◌, ℕ, List, Option, Some, None, Bool, true, false, ◌||◌, nat_eq}
use Rattle.isp_base.specs.declared.types.Elem.{Elem}
use Rattle.isp_base.specs.declared.types.Rate.{Rate}
use Rattle.isp_base.specs.declared.types.Rate.TheVariants.{Uniform, Varying}
use Rattle.isp_code.specs.declared.instr.Instr.{Instr}
use Rattle.isp_code.specs.declared.register.Class.{Class}
use Rattle.isp_code.specs.declared.register.Class.TheVariants as class
use Rattle.isp_code.specs.declared.register.Register.{Register}
use Rattle.isp_typed.specs.Typed.{TExpr, TRange}
use Rattle.isp_steady.specs.Known.{Known, Unknown, is_known}

pub record Layout : Type 0 where
  pub variable : Rate → ℕ → ℕ
  pub result : Rate → ℕ
  pub spare : Rate → Elem → ℕ → ℕ
  pub place : Rate → ℕ
  pub run : Option ℕ
  pub in_run : Bool
  pub known : ℕ → Known
  pub fresh : Rate → ℕ → ℕ
  pub array : ℕ → ℕ
  pub rates : ℕ → List Rate
  pub loaded : ℕ → Bool
  pub kept : Rate → Elem → ℕ → Bool
  pub constant : Rate → Elem → ℕ → ℕ
  pub is_row : TExpr → ℕ → Bool
  pub row : TExpr → (pc p k n : ℕ) → List Instr
  pub row_at : TExpr → ℕ → ℕ
  pub sets : List TRange → Bool
  pub there : TExpr → ℕ → Bool

pub record IsApart (l : Layout) : Type 0 where
  pub variables : (r : Rate) (v w : ℕ) → v ≢ w → l.variable r v ≢ l.variable r w
  pub spares : (r : Rate) (t u : Elem) (i j : ℕ) → i ≢ j → l.spare r t i ≢ l.spare r u j
  pub variable_spare : (r : Rate) (t : Elem) (v j : ℕ) → l.variable r v ≢ l.spare r t j
  pub result_variable : (r : Rate) (v : ℕ) → l.result r ≢ l.variable r v
  pub result_spare : (r : Rate) (t : Elem) (j : ℕ) → l.result r ≢ l.spare r t j
  pub place_variable : (r : Rate) (v : ℕ) → l.place r ≢ l.variable r v
  pub place_result : (r : Rate) → l.place r ≢ l.result r
  pub place_spare : (r : Rate) (t : Elem) (j : ℕ) → l.place r ≢ l.spare r t j
  pub freshes : (r : Rate) (i j : ℕ) → i ≢ j → l.fresh r i ≢ l.fresh r j
  pub variable_fresh : (r : Rate) (v j : ℕ) → l.variable r v ≢ l.fresh r j
  pub result_fresh : (r : Rate) (j : ℕ) → l.result r ≢ l.fresh r j
  pub spare_fresh : (r : Rate) (t : Elem) (i j : ℕ) → l.spare r t i ≢ l.fresh r j
  pub place_fresh : (r : Rate) (j : ℕ) → l.place r ≢ l.fresh r j
  pub arrays : (v w : ℕ) → v ≢ w → l.array v ≢ l.array w
  pub constants : (r : Rate) (t u : Elem) (b c : ℕ) → l.constant r t b ≡ l.constant r u c → (t ≡ u) × (b ≡ c)
  pub kept_variable : (r : Rate) (t : Elem) (b v : ℕ) → l.kept r t b ≡ true → l.constant r t b ≢ l.variable r v
  pub kept_result : (r : Rate) (t : Elem) (b : ℕ) → l.kept r t b ≡ true → l.constant r t b ≢ l.result r
  pub kept_spare : (r : Rate) (t : Elem) (b : ℕ) (u : Elem) (j : ℕ) → l.kept r t b ≡ true → l.constant r t b ≢ l.spare r u j
  pub kept_place : (r : Rate) (t : Elem) (b : ℕ) → l.kept r t b ≡ true → l.constant r t b ≢ l.place r
  pub kept_fresh : (r : Rate) (t : Elem) (b j : ℕ) → l.kept r t b ≡ true → l.constant r t b ≢ l.fresh r j

-- no index is taken as a row
abbrev pub no_rows : TExpr → ℕ → Bool
no_rows i n = false

abbrev pub HasNoRows : Layout → Type 0
HasNoRows l = (i : TExpr) (n : ℕ) → l.is_row i n ≡ false

-- nothing is known of any variable
abbrev pub nothing_known : ℕ → Known
nothing_known v = Unknown

abbrev pub KnowsNothing : Layout → Type 0
KnowsNothing l = (v : ℕ) → l.known v ≡ Unknown

-- no `foreach` sets scalars of its indices
abbrev pub sets_none : List TRange → Bool
sets_none rs = false

abbrev pub SetsNone : Layout → Type 0
SetsNone l = (rs : List TRange) → l.sets rs ≡ false

-- A variable is fixed where it counts the lanes of a run, or is known: in code of such a layout nothing writes it.
abbrev pub is_counter_of : Option ℕ → ℕ → Bool
is_counter_of None v = false
is_counter_of (Some i) v = nat_eq v i

abbrev pub is_fixed : Layout → ℕ → Bool
is_fixed l v = is_counter_of l.run v || is_known (l.known v)

abbrev pub NoneFixed : Layout → Type 0
NoneFixed l = (v : ℕ) → is_fixed l v ≡ false

-- For lanes that need be no members of a run: a variable still counts those that are. For members of a run of which a variable counts the
-- lanes: if there is no other, and no packed load writes the variable. Rows are of the lanes for which they were set.
abbrev pub outside : Layout → Layout
outside l = record l { in_run = false; is_row = no_rows }

abbrev pub run_in : Bool → Option ℕ → Layout → ℕ → Layout
run_in false None l i = record l { run = Some i; in_run = true; is_row = no_rows }
run_in false (Some j) l i = outside l
run_in true o l i = outside l

abbrev pub within : Layout → ℕ → Layout
within l i = run_in (l.loaded i) l.run l i

abbrev pub class_at : Rate → Class
class_at Uniform = class.Scalar
class_at Varying = class.Vector

abbrev pub register : Rate → ℕ → Register
register r x = record { class = class_at r; number = x }

abbrev pub mask_register : ℕ → Register
mask_register k = record { class = class.Mask; number = k }

abbrev pub array_register : ℕ → Register
array_register a = record { class = class.Array; number = a }
