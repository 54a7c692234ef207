-- When a frame and a memory of WebAssembly stand for a configuration of the machine.
use Rattle.std.specs.Prelude.{◌≡◌, ◌⊎◌, ℕ, suc, ◌+◌, ◌-◌, ◌*◌, ◌/◌, ◌%◌, ◌^◌, ◌<◌, ◌≤◌, length, Option, Some, None, true, slice_get, nat_lt, if◌then◌else◌}
use Rattle.isp_base.specs.Maps.{Lanes}
use Rattle.isp_base.specs.Sets as Sets
use Rattle.isp_base.specs.Values.{width}
use Rattle.isp_base.specs.declared.trap.Trap.{Trap}
use Rattle.isp_base.specs.declared.trap.TrapKind.{TrapKind}
use Rattle.isp_base.specs.declared.trap.TrapKind.TheVariants.{Divide, Index, Assert, Depth}
use Rattle.isp_base.specs.declared.types.Value.{Value}
use Rattle.isp_code.specs.Conf as machine
use Rattle.isp_code.specs.Conf.{Conf}
use Rattle.isp_code.specs.Machine.{after, arrive}
use Rattle.isp_code.specs.Calls.{left}
use Rattle.isp_code.specs.Fine.{IsGiven}
use Rattle.isp_code.specs.declared.register.Class.{Class}
use Rattle.isp_code.specs.declared.register.Class.TheVariants as class
use Rattle.isp_code.specs.declared.register.Register.{Register}
use Rattle.isp_forms.specs.Runs.{Forms, IsRun}
use Rattle.isp_wasm_meaning.specs.Syntax.{I8x16}
use Rattle.isp_wasm_meaning.specs.Meaning.{Report, State, Result, Returned, Trapped, lane, flags, count, loaded, bytes}
use Rattle.isp_wasm_meaning.specs.Ladder.{Machine}
use Rattle.isp_wasm.specs.Places.{Setting, Place, Scalar, Vector, Mask, Base, Count, Depth, Top, elem, shape, gang, text, bytes_of}
use Rattle.isp_wasm.specs.Lanes.{store_at}
use Rattle.isp_wasm.specs.Rows.{cell}
use Rattle.isp_wasm.specs.Stack.{IsBelow, open_bytes, top, floor}

abbrev pub scalar_register : ℕ → Register
scalar_register r = record { class = class.Scalar; number = r }

abbrev pub vector_register : ℕ → Register
vector_register r = record { class = class.Vector; number = r }

module _ (w : Setting) where
  -- The locals: a scalar is its bits; a vector's lanes in the gang are its lanes; a mask's lanes are all ones or zeros, also
  -- past the gang; where each array begins, in lane 0 where each lane has its own, and its number of elements; how many calls wait; and
  -- where the next array lies.
  pub record Holds (scalars : ℕ → ℕ) (vectors : ℕ → Lanes) (masks : ℕ → Sets.Mask) (l : ℕ → ℕ) : Type 0 where
    pub scalars_are : (r : ℕ) → l (w.local (Scalar r)) ≡ scalars r
    pub vectors_are : (r j k : ℕ) → k < count (shape w (vector_register r)) → j * count (shape w (vector_register r)) + k < gang w
        → lane (shape w (vector_register r)) k (l (w.local (Vector r j))) ≡ cell (elem w (vector_register r))
        (vectors r (j * count (shape w (vector_register r)) + k))
    pub masks_are : (r j k : ℕ) → k < 16 → lane I8x16 k (l (w.local (Mask r j))) ≡ flags 8 (masks r (j * 16 + k))
    pub fits : (r : ℕ) → scalars r < 2 ^ width (elem w (scalar_register r))
    pub members : (r p : ℕ) → masks r p ≡ true → p < gang w
    pub bases : (a : ℕ) → l (w.local (Base a)) ≡ w.begins (store_at w a 0)
    pub counts : (a : ℕ) → l (w.local (Count a)) ≡ w.sizes (store_at w a 0)
    pub depth : l (w.local Depth) ≡ length w.waiting
    pub top_is : l (w.local Top) ≡ top w

  -- a byte of no array, nor where the function's arrays may lie
  abbrev pub IsBeside : ℕ → Type 0
  IsBeside a = ((b : ℕ) → (a < w.begins b) ⊎ (w.begins b + w.sizes b * bytes_of (w.elems b) ≤ a)) × IsBelow (floor w) a

  -- The memory of so many bytes: the elements of each store, in its own bytes, little endian; the texts; and what lies beside
  -- the arrays is as it was before the function began.
  pub record Keeps (arrays : ℕ → Lanes) (memory : ℕ → ℕ) (size : ℕ) : Type 0 where
    pub bytes_fit : (a : ℕ) → memory a < 256
    pub elements : (b e : ℕ) → e < w.sizes b → loaded (bytes_of (w.elems b)) (w.begins b + e * bytes_of (w.elems b)) memory ≡ arrays b e
    pub elements_fit : (b e : ℕ) → e < w.sizes b → arrays b e < 2 ^ width (w.elems b)
    pub room : (b : ℕ) → w.begins b + w.sizes b * bytes_of (w.elems b) ≤ size
    pub small : size ≤ 2 ^ 32
    pub whole : size ≡ w.room
    pub texts : (t : ℕ) → bytes (length (text w t)) (w.text_at t) memory ≡ text w t
    pub text_room : (t : ℕ) → w.text_at t + length (text w t) ≤ size
    pub rest : (a : ℕ) → IsBeside a → memory a ≡ w.before a

  -- What each store has: those of the machine, and after them, one for each lane, the arrays of its own.
  abbrev pub all_of : Conf → ℕ → Lanes
  all_of c b = if nat_lt b (suc w.home.opened) then c.arrays b else (λ e. c.own ((b - suc w.home.opened) / 32) e ((b - suc w.home.opened) % 32))

  pub record Stands (pc : ℕ) (c : Conf) (s : State) : Type 0 where
    pub home_is : c.home ≡ w.home
    pub waiting_is : c.waiting ≡ w.waiting
    pub pc_is : c.pc ≡ pc
    pub out_is : s.out ≡ c.out
    pub holds : Holds c.scalars c.vectors c.masks s.locals
    pub keeps : Keeps (all_of c) s.memory s.size

-- the stores of the machine alone
abbrev pub shared_of : Setting → Setting
shared_of w = record w { sizes = w.home.sizes }

module _ (w : Setting) where
  -- the run ended or trapped, and the result says so
  pub record Ends (c : Conf) (x : Option Value) (s : State) : Type 0 where
    pub conf : Conf
    pub steps : ℕ
    pub ends : after w.code steps (machine.Runs c) ≡ machine.Ended x conf
    pub out_is : s.out ≡ conf.out
    pub keeps : Keeps (shared_of w) conf.arrays s.memory s.size

  -- what a scalar register that is returned has
  abbrev pub bits_by : Class → Conf → Register → Option ℕ
  bits_by class.Vector c x = None
  bits_by a c x = Some (c.scalars x.number)

  abbrev pub bits_of : Conf → Option Register → Option ℕ
  bits_of c None = None
  bits_of c (Some x) = bits_by x.class c x

  -- and the lanes of a vector register, which are in the globals
  abbrev pub AreLanes : (ℕ → ℕ) → Register → Lanes → Type 0
  AreLanes globals x f =
      (j i : ℕ) → i < count (shape w x) → j * count (shape w x) + i < gang w → lane (shape w x) i (globals (suc j)) ≡ cell (elem w x) (f (j * count (shape w x) + i))

  abbrev pub LanesBy : Class → Conf → Register → State → Type 0
  LanesBy class.Vector c x s = AreLanes s.globals x (c.vectors x.number)
  LanesBy a c x s = Unit {0}

  abbrev pub LanesOf : Conf → Option Register → State → Type 0
  LanesOf c None s = Unit {0}
  LanesOf c (Some x) s = LanesBy x.class c x s

  -- the machine comes to where the function returns: the run ends, or the call that waits goes on
  pub record Leaves (c : Conf) (v : Option ℕ) (s : State) : Type 0 where
    pub conf : Conf
    pub steps : ℕ
    pub register : Option Register
    pub given : IsGiven w.routine w.routine.returns register
    pub fits : (r : ℕ) → conf.scalars r < 2 ^ width (elem w (scalar_register r))
    pub leaves : IsRun w.code w.forms steps (machine.Runs c) (arrive w.code (left w.routine conf register w.waiting) conf)
    pub value_is : v ≡ bits_of conf register
    pub lanes_are : LanesOf conf register s
    pub out_is : s.out ≡ conf.out
    pub keeps : Keeps (shared_of w) conf.arrays s.memory s.size

  abbrev pub kind_number : TrapKind → ℕ
  kind_number Divide = 0
  kind_number Index = 1
  kind_number Assert = 2
  kind_number Depth = 3

  abbrev pub report_of : Trap → Report
  report_of t = record { kind = kind_number t.kind; start = t.place.start; end = t.place.end; instance = t.instance }

  -- by some forms
  pub record Fails (forms : Forms) (c : Conf) (r : Report) (s : State) : Type 0 where
    pub conf : Conf
    pub steps : ℕ
    pub trap : Trap
    pub fails : IsRun w.code forms steps (machine.Runs c) (machine.Trapped trap conf)
    pub report_is : r ≡ report_of trap
    pub out_is : s.out ≡ conf.out
    pub keeps : Keeps (shared_of w) conf.arrays s.memory s.size

  -- the machine comes to where all arrays that are open leave no byte of the memory after them
  pub record IsFull (forms : Forms) (c : Conf) : Type 0 where
    pub conf : Conf
    pub steps : ℕ
    pub goes : IsRun w.code forms steps (machine.Runs c) (machine.Runs conf)
    pub address : ℕ
    pub stack_is : w.stack ≡ Some address
    pub full : w.room ≤ address + open_bytes w.code conf

  abbrev pub Final : Conf → Result → Type 0
  Final c (Returned v s) = Leaves c v s
  Final c (Trapped (Some r) s) = Fails w.forms c r s
  Final c (Trapped None s) = IsFull w.forms c
  Final c r = ⊥

  pub record Cut (forms : Forms) (f : ℕ) (c : Conf) (s : State) : Type 0 where
    pub conf : Conf
    pub steps : ℕ
    pub goes : IsRun w.code forms steps (machine.Runs c) (machine.Runs conf)
    pub far : f ≤ steps
    pub out_is : s.out ≡ conf.out

  abbrev pub Goes : ℕ → Conf → Conf → Type 0
  Goes n x y = IsRun w.code w.forms n (machine.Runs x) (machine.Runs y)

  -- after the last rung nothing stands
  pub record StandsBefore (k : ℕ) (c : Conf) (s : State) : Type 0 where
    pub low : k < w.rungs
    pub stands : Stands w (w.heads k) c s

  abbrev pub the_machine : Machine
  the_machine = record { Conf = Conf; Goes = Goes; Stands = StandsBefore; Final = Final; Cut = Cut w.forms }

  -- what layout and code are asked for
  pub record IsSettled : Type 0 where
    pub found : slice_get w.code.routines w.home.fn ≡ Some w.routine
    pub apart : (x y : Place) → w.local x ≡ w.local y → x ≡ y
    pub few : w.rungs < 2 ^ 32
    pub heads_up : (k : ℕ) → k < w.rungs → w.heads k < w.heads (suc k)
    pub text_low : (t : ℕ) → (w.text_at t < 2 ^ 32) × (length (text w t) < 2 ^ 32)
    pub text_apart : (t b : ℕ) → (w.text_at t + length (text w t) ≤ w.begins b) ⊎ (w.begins b + w.sizes b * bytes_of (w.elems b) ≤ w.text_at t)
    pub bounded : (b : ℕ) → w.sizes b ≤ 2 ^ 32
    pub closed : (b : ℕ) → w.home.opened ≤ b → w.home.sizes b ≡ 0
    pub disjoint : (a b : ℕ) → (a ≡ b → ⊥) → (w.begins a + w.sizes a * bytes_of (w.elems a) ≤ w.begins b) ⊎
        (w.begins b + w.sizes b * bytes_of (w.elems b) ≤ w.begins a)
    pub sizes_are : (b : ℕ) → b ≤ w.home.opened → w.sizes b ≡ w.home.sizes b
    pub lanes_apart : (b : ℕ) → w.home.opened < b → (a : ℕ) → IsBelow (floor w) a → (a < w.begins b) ⊎ (w.begins b + w.sizes b * bytes_of (w.elems b) ≤ a)
