-- A call of a compiled function, and when the machine in it stands for a state of the meaning.
use Rattle.std.specs.Prelude.{◌≡◌, ◌≤◌, ◌<◌, ℕ, ◌+◌, ◌*◌, ◌-◌, ◌^◌, List, [], ◌∷◌, Option, None, Some, Bool, true, false, slice_get}
use Rattle.isp_base.specs.Maps.{Lanes}
use Rattle.isp_base.specs.Sets.{Mask, any}
use Rattle.isp_base.specs.Types.{gang_width}
use Rattle.isp_base.specs.declared.types.Elem.{Elem}
use Rattle.isp_base.specs.declared.types.Rate.{Rate}
use Rattle.isp_base.specs.declared.types.Rate.TheVariants.{Uniform, Varying}
use Rattle.isp_base.specs.declared.types.Span.{Span}
use Rattle.isp_code.specs.Conf as machine
use Rattle.isp_code.specs.Conf.{Home, Conf}
use Rattle.isp_code.specs.Lines.{local_size}
use Rattle.isp_code.specs.Listing.{Listing, Routine}
use Rattle.isp_code.specs.Registers.{is_per_lane, passed, elem_of}
use Rattle.isp_code.specs.declared.instr.Call.{Call}
use Rattle.isp_code.specs.declared.instr.Instr.TheVariants as instr
use Rattle.isp_typed.specs.Fine.{HoldsValue, params_of}
use Rattle.isp_typed.specs.Typed.{Program, TFunction, ty_of}
use Rattle.isp_typed.specs.declared.variable.ArrayVariable.{ArrayVariable}
use Rattle.isp_typed.specs.declared.variable.Variable.{Variable}
use Rattle.isp_meaning.specs.State.{State, Frame, extent}
use Rattle.isp_meaning.specs.Expressions.{Passed, Calls}
use Rattle.isp_meaning.specs.Calls.{calls_at}
use Rattle.isp_lower_code.specs.Calls.{AreHanded, Takes, CallRuns}
use Rattle.isp_steady.specs.Known.{IsAsKnown, elem_at, is_known}
use Rattle.isp_lower_code.specs.Layout.{Layout, array_register, is_fixed, register}
pub use Rattle.isp_lower_code.specs.Held.{at_rate, held_at, Holds, ConstantsHold}
use Rattle.isp_lower_code.specs.Consecutive.{RunHolds}
use Rattle.isp_base.specs.declared.types.Elem.TheVariants.{I32}

-- The program and its code, the function that runs with its routine and registers, what stays during the call on both
-- sides, the calls that wait, how many turns a loop makes each time it is entered, and how many calls deeper may run. Where a variable
-- counts the lanes of a run, these are its members, and the number from which it counts has these bits.
pub record Setting : Type 0 where
  pub program : Program
  pub code : Listing
  pub function : TFunction
  pub routine : Routine
  pub layout : Layout
  pub home : Home
  pub waiting : List machine.Frame
  pub frame : Frame
  pub turns : ℕ
  pub left : ℕ
  pub members : Mask
  pub start : ℕ

-- the same call where a loop makes so many turns
abbrev pub with_turns : Setting → ℕ → Setting
with_turns w m = record w { turns = m }

abbrev pub gang_of : Setting → ℕ
gang_of w = gang_width w.code.gang

-- who may run: instances of the gang, and, where code is for the lanes of a run, members of it
abbrev pub Allowed : Setting → ℕ → Type 0
Allowed w p = (p < gang_of w) × (w.layout.in_run ≡ true → w.members p ≡ true)

-- what calls mean from here
abbrev pub calls_of : Setting → Calls
calls_of w = calls_at w.program w.turns w.left

-- ---- an array: the machine's register is what the variable is, and one that all share is an open store

module _ (w : Setting) where
  abbrev pub ArrayFitsAt : Rate → ArrayVariable → Type 0
  ArrayFitsAt Uniform b =
      (is_per_lane w.routine (array_register (w.layout.array b.number)) ≡ false) × (w.home.named (w.layout.array b.number) ≡ w.frame.named b.number)
  ArrayFitsAt Varying b =
      (is_per_lane w.routine (array_register (w.layout.array b.number)) ≡ true) × (local_size (slice_get w.routine.locals (w.layout.array b.number - passed w.routine)) ≡ w.frame.own_sizes b.number)

  pub record ArrayFits (b : ArrayVariable) : Type 0 where
    pub is : ArrayFitsAt b.ty.rate b
    pub below : b.ty.rate ≡ Uniform → w.frame.named b.number < w.frame.opened
    pub few : extent w.frame b ≤ 2 ^ 63

-- some things stand in a list from a place on
abbrev pub AreAt : {A : Type 0} → List A → ℕ → List A → Type 0
AreAt xs n [] = Unit {0}
AreAt xs n (y ∷ ys) = (slice_get xs n ≡ Some y) × AreAt xs (n + 1) ys

-- the machine stands at this instruction of the call
pub record IsAt (home home' : Home) (waiting waiting' : List machine.Frame) (pc pc' : ℕ) : Type 0 where
  pub home_is : home ≡ home'
  pub waiting_is : waiting ≡ waiting'
  pub pc_is : pc ≡ pc'

abbrev pub At : Setting → Conf → ℕ → Type 0
At w c pc = IsAt c.home w.home c.waiting w.waiting c.pc pc

-- where an instruction calls a function: what is handed over stands in its registers, and the state is the machine's
pub record IsCalling (w : Setting) (k : Call) (g : TFunction) (pc q : ℕ) (sp : Span) (a : Mask) (ps : List Passed) (s : State) (c : Conf) : Type 0 where
  pub function : slice_get w.program.functions k.function ≡ Some g
  pub here : slice_get w.routine.code pc ≡ Some (instr.Call k)
  pub place : slice_get w.code.places k.place ≡ Some sp
  pub at : At w c pc
  pub mask : c.masks k.mask.number ≡ a
  pub some : any (gang_of w) a ≡ true
  pub inside : (p : ℕ) → a p ≡ true → p < gang_of w
  pub hands : AreHanded a c (params_of g) ps k.arguments
  pub result : Takes g.answer k.result
  pub arrays_are : c.arrays ≡ s.arrays
  pub out_is : c.out ≡ s.out
  pub used : 1 + q ≤ 32 * s.work

-- each call from here does what it means, with the levels that are left
abbrev pub CallsRun : Setting → Type 0
CallsRun w =
    (k : Call) (g : TFunction) (pc q : ℕ) (sp : Span) (a : Mask) (ps : List Passed) (s : State) (c : Conf) → IsCalling w k g pc q sp a ps s c → CallRuns w.code w.turns c k q (calls_of w k.function sp a ps w.frame s)

abbrev pub is_constant : Option Variable → Bool
is_constant None = false
is_constant (Some x) = x.constant

-- the variable that counts the lanes of a run is a constant, its register an int32
pub record IsCounter (w : Setting) (i : ℕ) : Type 0 where
  pub typed : elem_of w.routine (register Varying (w.layout.variable Varying i)) ≡ I32
  pub constant : is_constant (slice_get w.function.variables i) ≡ true
  pub unloaded : w.layout.loaded i ≡ false

-- a uniform variable of a function
abbrev pub IsUniform : List Variable → ℕ → Type 0
IsUniform vars v = (t : Elem) × HoldsValue vars v (ty_of Uniform t)

-- and a varying one
abbrev pub IsVarying : List Variable → ℕ → Type 0
IsVarying vars v = (t : Elem) × HoldsValue vars v (ty_of Varying t)

-- what is known of a variable is of one that varies, a constant that no packed load writes
pub record IsKnownIn (w : Setting) (v : ℕ) : Type 0 where
  pub varying : IsVarying w.function.variables v
  pub constant : is_constant (slice_get w.function.variables v) ≡ true
  pub unloaded : w.layout.loaded v ≡ false

-- the members have each variable as it is known, by what the scalar register of its number holds
abbrev pub KnownHold : List Variable → Layout → Mask → (ℕ → ℕ) → (ℕ → Lanes) → Type 0
KnownHold vars l members scalars each =
    (v : ℕ) → IsAsKnown (l.known v) (elem_at vars v) (scalars (l.variable Uniform v)) (each v) members

-- Registers, own arrays, arrays and output stand for a state, and registers of constants hold these. A scalar register with the number of
-- a variable that is not uniform may hold anything, unless that variable is known. It is stated of these parts alone, so that a step that
-- changes other parts of the machine leaves the fact as it is.
pub record StandsFor (vars : List Variable) (l : Layout) (gang : ℕ) (start : ℕ) (members : Mask) (ones : ℕ → ℕ) (each : ℕ → Lanes) (owns : ℕ → ℕ → Lanes) (one : ℕ)
    (in_each : Lanes) (stores : ℕ → Lanes) (text : List ℕ) (scalars : ℕ → ℕ) (vectors : ℕ → Lanes) (own : ℕ → ℕ → Lanes) (arrays : ℕ → Lanes)
    (out : List ℕ) : Type 0 where
  pub uniforms : (v : ℕ) → IsUniform vars v → scalars (l.variable Uniform v) ≡ ones v
  pub varying : (v : ℕ) → vectors (l.variable Varying v) ≡ each v
  pub result : scalars (l.result Uniform) ≡ one
  pub results : vectors (l.result Varying) ≡ in_each
  pub own_arrays : (v : ℕ) → own (l.array v) ≡ owns v
  pub arrays_are : arrays ≡ stores
  pub out_is : out ≡ text
  pub run : RunHolds l.run start members (scalars (l.place Uniform)) each
  pub known : KnownHold vars l members scalars each
  pub constants : ConstantsHold l gang scalars vectors

-- a variable that counts no lanes of a run, and of which nothing is known
abbrev pub IsOther : Setting → ℕ → Type 0
IsOther w v = is_fixed w.layout v ≡ false

-- where it is written at a rate: one that is uniform is such a one
abbrev pub OtherAt : Setting → Rate → ℕ → Type 0
OtherAt w Uniform v = Unit {0}
OtherAt w Varying v = IsOther w v

abbrev pub Stands : Setting → State → Conf → Type 0
Stands w s c = StandsFor w.function.variables w.layout (gang_of w) w.start w.members s.uniforms s.varying s.own s.result s.results s.arrays s.out c.scalars c.vectors c.own c.arrays c.out

-- the spare registers of lower slots, all fresh registers, and the scalar registers of known variables are as they were, whatever variables
-- are written
pub record SparesStay (l : Layout) (n : ℕ) (scalars : ℕ → ℕ) (vectors : ℕ → Lanes) (scalars' : ℕ → ℕ) (vectors' : ℕ → Lanes) : Type 0 where
  pub scalars_stay : (t : Elem) (j : ℕ) → j < n → scalars' (l.spare Uniform t j) ≡ scalars (l.spare Uniform t j)
  pub vectors_stay : (t : Elem) (j : ℕ) → j < n → vectors' (l.spare Varying t j) ≡ vectors (l.spare Varying t j)
  pub fresh_scalars : (j : ℕ) → scalars' (l.fresh Uniform j) ≡ scalars (l.fresh Uniform j)
  pub fresh_vectors : (j : ℕ) → vectors' (l.fresh Varying j) ≡ vectors (l.fresh Varying j)
  pub singles_stay : (v : ℕ) → is_known (l.known v) ≡ true → scalars' (l.variable Uniform v) ≡ scalars (l.variable Uniform v)

abbrev pub Spares : Setting → ℕ → Conf → Conf → Type 0
Spares w n c c' = SparesStay w.layout n c.scalars c.vectors c'.scalars c'.vectors
