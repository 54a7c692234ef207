-- A call of an exported function by a host, and what its outcomes are.
use Rattle.std.specs.Prelude.{◌≡◌, ◌≢◌, ℕ, suc, ◌+◌, ◌*◌, ◌^◌, ◌<◌, ◌≤◌, List, [], length, take, Option, Some, None, false, slice_get, slice_index, if◌then◌else◌}
use Rattle.isp_base.specs.Arguments.{row_bits}
use Rattle.isp_base.specs.Outcomes as outcomes
use Rattle.isp_base.specs.Outcomes.{Outcome}
use Rattle.isp_base.specs.Prefixes.{IsPrefix}
use Rattle.isp_base.specs.Rows.{Row}
use Rattle.isp_base.specs.Sets.{everyone}
use Rattle.isp_base.specs.Values.{width}
use Rattle.isp_base.specs.declared.signature.Argument.{Argument}
use Rattle.isp_base.specs.declared.trap.Trap.{Trap}
use Rattle.isp_base.specs.declared.types.Value.{Value}
use Rattle.isp_code.specs.Conf.{Conf}
use Rattle.isp_code.specs.Listing.{Routine}
use Rattle.isp_code.specs.Lines.{local_size}
use Rattle.isp_code.specs.Registers.{passed}
use Rattle.isp_code.specs.Machine.{values, first_conf, outcome_after}
use Rattle.isp_forms.specs.Runs.{all_kept, AreHarmless}
use Rattle.isp_verify.specs.Faults.{gives_vector}
use Rattle.isp_wasm_meaning.specs.Syntax.{I8x16, Code, Skip, Then, Set, Const128, GetGlobal}
use Rattle.isp_wasm_meaning.specs.Meaning.{Report, State, Result, Returned, Trapped, OutOfFuel, called, loaded}
use Rattle.isp_wasm.specs.Places.{Setting, Counter, Scalar, Vector, Mask, Base, Count, Depth, Top, elem, gang, parts, bytes_of}
use Rattle.isp_wasm.specs.Lanes.{store_at}
use Rattle.isp_wasm.specs.Templates.{each, mask_part, routine_code}
use Rattle.isp_wasm.specs.Standing.{Keeps, all_of, IsBeside, IsFull, IsSettled, report_of, scalar_register}
use Rattle.isp_wasm.specs.Stack.{none_open, uses_stack, bytes_in, bottom, opened_memory}
use Rattle.isp_wasm.specs.Thin.{IsCovered, AllThin}
use Rattle.isp_wasm.specs.Agreement.{CallsAgree, out_of, value_bits}

-- where the arrays of a function that a host calls lie, if any may be opened
abbrev pub stack_in : Routine → State → Option ℕ
stack_in h s = if uses_stack h then Some (s.globals 17) else None

module _ (w : Setting) where
  abbrev pub stack_code : Code
  stack_code = if uses_stack w.routine then GetGlobal (w.local Top) 17 else Skip

  -- all lanes are on, and then the function's arrays and its code
  abbrev pub entry_code : Code
  entry_code = Then stack_code (Then (each (parts w I8x16) (λ j. Set (w.local (Mask 0 j)) (Const128 (mask_part (everyone (gang w)) j)))) (routine_code w))

  -- the machine before its first instruction
  abbrev pub first : List Argument → Conf
  first xs = first_conf w.code w.home.fn w.routine xs

  -- an array that the function does not open
  abbrev pub IsPassed : ℕ → Type 0
  IsPassed a = (i : ℕ) → i < length w.routine.locals → a ≢ passed w.routine + i

  -- A host calls it: the arguments of WebAssembly are its first locals, and all others are 0. An array is an address and a
  -- count, and its elements are in memory. Those that it opens lie one after the other, where the stack begins.
  pub record IsCalled (xs : List Argument) (arguments : List ℕ) (s : State) : Type 0 where
    pub home_is : (first xs).home ≡ w.home
    pub alone : w.waiting ≡ []
    pub no_vector : gives_vector w.routine.returns ≡ false
    pub some : 0 < w.rungs
    pub head_is : w.heads 0 ≡ 0
    pub counter_is : slice_index arguments (w.local Counter) ≡ 0
    pub scalars_are : (r : ℕ) → slice_index arguments (w.local (Scalar r)) ≡ slice_index (values xs) r
    pub fits : (r : ℕ) → slice_index (values xs) r < 2 ^ width (elem w (scalar_register r))
    pub vectors_are : (r j : ℕ) → slice_index arguments (w.local (Vector r j)) ≡ 0
    pub masks_are : (r j : ℕ) → slice_index arguments (w.local (Mask r j)) ≡ 0
    pub bases : (a : ℕ) → IsPassed a → slice_index arguments (w.local (Base a)) ≡ w.begins (store_at w a 0)
    pub counts : (a : ℕ) → IsPassed a → slice_index arguments (w.local (Count a)) ≡ w.sizes (store_at w a 0)
    pub own_bases : (i : ℕ) → i < length w.routine.locals → w.begins (store_at w (passed w.routine + i) 0) ≡ bottom w + bytes_in (gang w) (take i w.routine.locals)
    pub own_counts : (i : ℕ) → i < length w.routine.locals → w.sizes (store_at w (passed w.routine + i) 0) ≡ local_size (slice_get w.routine.locals i)
    pub depth_is : slice_index arguments (w.local Depth) ≡ 0
    pub top_zero : slice_index arguments (w.local Top) ≡ 0
    pub stack_is : w.stack ≡ stack_in w.routine s
    pub few : suc (bytes_in (gang w) w.routine.locals) < 2 ^ 32
    pub whole : s.size ≡ w.room
    pub small : s.size ≤ 2 ^ 32
    pub keeps : (none_open w.routine.locals ≡ false → bottom w + bytes_in (gang w) w.routine.locals < s.size)
        → Keeps w (all_of w (first xs)) (opened_memory (gang w) (bottom w) w.routine.locals s.memory) s.size
    pub silent : s.out ≡ []

  -- the memory has the elements of these arrays, and beside the arrays what it had
  pub record Shows (rs : List Row) (s : State) : Type 0 where
    pub elements : (b e : ℕ) → e < length (row_bits rs b) → loaded (bytes_of (w.elems b))
        (w.begins b + e * bytes_of (w.elems b)) s.memory ≡ slice_index (row_bits rs b) e
    pub beside : (a : ℕ) → IsBeside w a → s.memory a ≡ w.before a

  pub record ReturnsSo (rs : List Row) (x : Option Value) (out : List ℕ) (r : Result) : Type 0 where
    pub state : State
    pub is : r ≡ Returned (value_bits x) state
    pub out_is : state.out ≡ out
    pub shows : Shows rs state

  pub record TrapsSo (t : Trap) (rs : List Row) (out : List ℕ) (r : Result) : Type 0 where
    pub state : State
    pub is : r ≡ Trapped (Some (report_of w t)) state
    pub out_is : state.out ≡ out
    pub shows : Shows rs state

  -- The results of a call, for each fuel, and how the machine stands after so many instructions of a run.
  pub record SameOutcomes (xs : List Argument) (result : ℕ → Result) : Type 0 where
    pub ends : (m : ℕ) (rs : List Row) (x : Option Value) (out : List ℕ) → outcome_after w.code w.home.fn w.routine xs m ≡ outcomes.Ends rs x out
        → ReturnsSo rs x out (result (suc m))
    pub traps : (m : ℕ) (t : Trap) (rs : List Row) (out : List ℕ) → outcome_after w.code w.home.fn w.routine xs m ≡ outcomes.Traps t rs out
        → TrapsSo t rs out (result (suc m))
    pub ends_only : (n : ℕ) (v : Option ℕ) (s : State) → result (suc n) ≡ Returned v s
        → (m : ℕ) × (rs : List Row) × (x : Option Value) × (outcome_after w.code w.home.fn w.routine xs m ≡ outcomes.Ends rs x s.out) × (v ≡ value_bits x) × Shows rs s
    pub traps_only : (n : ℕ) (r : Option Report) (s : State) → result (suc n) ≡ Trapped r s
        → (m : ℕ) × (rs : List Row) × (t : Trap) × (outcome_after w.code w.home.fn w.routine xs m ≡ outcomes.Traps t rs s.out) × (r ≡ Some (report_of w t)) × Shows rs s
    pub goes_on : (n : ℕ) (s : State) → result (suc n) ≡ OutOfFuel s
        → (m : ℕ) × (suc n ≤ m) × (outcome_after w.code w.home.fn w.routine xs m ≡ outcomes.GoesOn s.out)
    -- where the machine goes on, its output so far is the beginning of the call's
    pub so_far : (m : ℕ) (out : List ℕ) → outcome_after w.code w.home.fn w.routine xs m ≡ outcomes.GoesOn out → IsPrefix out (out_of (result m))

-- A module in which some function is this one, called by a host, and those that it calls do what the machine's calls do; no run
-- can tell in which form an instruction is; and all arrays that are opened have room.
abbrev pub EntriesAgree : Type 0
EntriesAgree =
    (w : Setting) → IsSettled w → IsCovered w → AllThin w → (module_code : ℕ → Code) (f : ℕ) → module_code f ≡ entry_code w
    → ((n : ℕ) → CallsAgree w n (called module_code n)) → (xs : List Argument) (arguments : List ℕ) (s : State) → IsCalled w xs arguments s
    → AreHarmless w.code w.forms (first w xs) → (IsFull w all_kept (first w xs) → ⊥) → SameOutcomes w xs (λ n. called module_code n f arguments s)
