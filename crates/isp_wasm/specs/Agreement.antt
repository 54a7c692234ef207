-- A function in WebAssembly does what its code does on the machine.
use Rattle.std.specs.Prelude.{◌≡◌, ℕ, suc, ◌^◌, ◌<◌, List, [], ◌∷◌, map, Option, Some, None, false, slice_get}
use Rattle.isp_base.specs.Depths.{most_calls}
use Rattle.isp_base.specs.Prefixes.{IsPrefix}
use Rattle.isp_base.specs.Stores.{below}
use Rattle.isp_base.specs.Values.{width}
use Rattle.isp_base.specs.declared.trap.Trap.{Trap}
use Rattle.isp_base.specs.declared.types.Value.{Value}
use Rattle.isp_code.specs.Conf as machine
use Rattle.isp_code.specs.Conf.{Conf, Frame}
use Rattle.isp_code.specs.Calls as calls
use Rattle.isp_code.specs.Calls.{with_result, resumed, waits}
use Rattle.isp_code.specs.Fine.{CallFine, IsGiven}
use Rattle.isp_code.specs.declared.instr.Call.{Call}
use Rattle.isp_code.specs.declared.instr.Instr.TheVariants as instr
use Rattle.isp_code.specs.declared.register.Class.{Class}
use Rattle.isp_code.specs.declared.register.Class.TheVariants as class
use Rattle.isp_code.specs.declared.register.Register.{Register}
use Rattle.isp_forms.specs.Runs.{all_kept, IsRun, AreHarmless}
use Rattle.isp_verify.specs.Faults.{gives_vector}
use Rattle.isp_wasm_meaning.specs.Ladder.{Told}
use Rattle.isp_code.specs.Machine.{after}
use Rattle.isp_wasm_meaning.specs.Meaning.{Report, State, Result, Fell, Branched, Returned, Trapped, OutOfFuel, run, left, value}
use Rattle.isp_wasm.specs.Places.{Setting, Counter, elem}
use Rattle.isp_wasm.specs.Templates.{called_number, arguments_of, function_code}
use Rattle.isp_wasm.specs.Standing.{Stands, Keeps, all_of, shared_of, Ends, Fails, Cut, IsFull, IsSettled, bits_of, AreLanes, LanesOf, report_of, scalar_register, the_machine}
use Rattle.isp_wasm.specs.Thin.{IsCovered, AllThin}

abbrev pub out_of : Result → List ℕ
out_of (Fell s) = s.out
out_of (Branched k s) = s.out
out_of (Returned v s) = s.out
out_of (Trapped t s) = s.out
out_of (OutOfFuel s) = s.out

abbrev pub value_bits : Option Value → Option ℕ
value_bits None = None
value_bits (Some x) = Some x.bits

module _ (w : Setting) (c : Conf) where
  pub record Returns (x : Option Value) (d : Conf) (r : Result) : Type 0 where
    pub state : State
    pub is : r ≡ Returned (value_bits x) state
    pub out_is : state.out ≡ d.out
    pub keeps : Keeps (shared_of w) d.arrays state.memory state.size

  pub record Reports (t : Trap) (d : Conf) (r : Result) : Type 0 where
    pub state : State
    pub is : r ≡ Trapped (Some (report_of w t)) state
    pub out_is : state.out ≡ d.out
    pub keeps : Keeps (shared_of w) d.arrays state.memory state.size

  -- the result for each fuel, and the machine's runs
  pub record Agrees (result : ℕ → Result) : Type 0 where
    -- where the machine ends or traps after m instructions, so does the function with the fuel m + 1, and the reverse
    pub ends : (m : ℕ) (x : Option Value) (d : Conf) → after w.code m (machine.Runs c) ≡ machine.Ended x d → Returns x d (result (suc m))
    pub traps : (m : ℕ) (t : Trap) (d : Conf) → after w.code m (machine.Runs c) ≡ machine.Trapped t d → Reports t d (result (suc m))
    pub ends_only : (f : ℕ) (v : Option ℕ) (s : State) → result f ≡ Returned v s → (x : Option Value) × (v ≡ value_bits x) × Ends w c x s
    pub traps_only : (f : ℕ) (r : Option Report) (s : State) → result f ≡ Trapped r s → (q : Report) × (r ≡ Some q) × Fails w all_kept c q s
    -- where the function is cut, the machine still runs after as many instructions, with this output
    pub goes_on : (f : ℕ) (s : State) → result f ≡ OutOfFuel s → Cut w all_kept f c s
    -- where the machine still runs after m instructions, its output is the beginning of that with the fuel m
    pub so_far : (m : ℕ) (d : Conf) → after w.code m (machine.Runs c) ≡ machine.Runs d → IsPrefix d.out (out_of (result m))

-- ---- calls

module _ (w : Setting) where
  -- what a register that gets the result of a call gets: the value that is returned, which is one of its type
  abbrev pub BringsTo : Class → Register → Register → Conf → Option ℕ → State → Type 0
  BringsTo class.Vector d x c v s = (v ≡ None) × AreLanes w s.globals d (c.vectors x.number)
  BringsTo a d x c v s = (v ≡ Some (c.scalars x.number)) × (c.scalars x.number < 2 ^ width (elem w (scalar_register d.number)))

  abbrev pub Brings : Option Register → Option Register → Conf → Option ℕ → State → Type 0
  Brings None None c v s = v ≡ None
  Brings (Some d) (Some x) c v s = BringsTo d.class d x c v s
  Brings d x c v s = ⊥

  -- from before the first instruction of call k, which was made at c, the machine comes back to it
  pub record Back (k : Call) (c d : Conf) (v : Option ℕ) (s : State) : Type 0 where
    pub conf : Conf
    pub steps : ℕ
    pub register : Option Register
    pub goes : IsRun w.code w.forms steps (machine.Runs d) (machine.Runs
        (record (with_result conf k.result register (c.masks k.mask.number) (resumed conf (waits c k.result (c.masks k.mask.number)) c.waiting)) { out = conf.out }))
    pub brings : Brings k.result register conf v s
    pub out_is : s.out ≡ conf.out
    pub keeps : Keeps w (all_of w (record c { arrays = below c.home.opened conf.arrays })) s.memory s.size

  -- with this fuel the functions that a function calls do what the machine's calls of them do
  abbrev pub CallsAgree : ℕ → (ℕ → List ℕ → State → Result) → Type 0
  CallsAgree f call =
      (k : Call) (pc : ℕ) (c : Conf) (s : State) → slice_get w.routine.code pc ≡ Some (instr.Call k) → (fine : CallFine w.code w.routine k) → Stands w pc c s
      → calls.depth c < most_calls → Told (the_machine w) (Back k c) f (calls.called c k fine.callee) (call (called_number w k) (map (value s.locals) (arguments_of w k)) s)

-- No call waits for the function, and it gives no vector back; no run can tell in which form an instruction is; and all arrays
-- that are opened have room.
abbrev pub FunctionsAgree : Type 0
FunctionsAgree =
    (w : Setting) → IsSettled w → IsCovered w → AllThin w → w.waiting ≡ [] → gives_vector w.routine.returns ≡ false → (call : ℕ → ℕ → List ℕ → State → Result)
    → ((f : ℕ) → CallsAgree w f (call (suc f))) → (c : Conf) (s : State) → s.locals (w.local Counter) < w.rungs
    → Stands w (w.heads (s.locals (w.local Counter))) c s → AreHarmless w.code w.forms c → (IsFull w all_kept c → ⊥) → Agrees w c (λ f. left (run f (call f) (function_code w) s))

-- a call that waits goes on
pub record ComesBack (w : Setting) (fr : Frame) (rest : List Frame) (c : Conf) (v : Option ℕ) (s : State) : Type 0 where
  pub conf : Conf
  pub steps : ℕ
  pub register : Option Register
  pub given : IsGiven w.routine w.routine.returns register
  pub fits : (r : ℕ) → conf.scalars r < 2 ^ width (elem w (scalar_register r))
  pub value_is : v ≡ bits_of w conf register
  pub lanes_are : LanesOf w conf register s
  pub goes : IsRun w.code w.forms steps (machine.Runs c) (machine.Runs
      (record (with_result conf fr.result register fr.under (resumed conf fr rest)) { out = conf.out }))
  pub out_is : s.out ≡ conf.out
  pub keeps : Keeps (shared_of w) conf.arrays s.memory s.size

-- the same of a function that is called
abbrev pub CallsComeBack : Type 0
CallsComeBack =
    (w : Setting) → IsSettled w → IsCovered w → AllThin w → (fr : Frame) (rest : List Frame) → w.waiting ≡ fr ∷ rest
    → (call : ℕ → List ℕ → State → Result) (f : ℕ) → ((g : ℕ) → f ≡ suc g → CallsAgree w g call) → (c : Conf) (s : State) → s.locals (w.local Counter) < w.rungs
    → Stands w (w.heads (s.locals (w.local Counter))) c s → Told (the_machine w) (ComesBack w fr rest) f c (left (run f call (function_code w) s))
