-- All templates, the rungs that they make up, and the function.
use Rattle.std.proofs.Common.{◌≡◌, ℕ, zero, suc, ◌+◌, ◌-◌, ◌<◌, ◌≤◌, ◌⊎◌, inl, inr, List, Option, Some, None, Bool, true, false, refl, sym, ap, subst, arith}
use Rattle.std.specs.Prelude.{slice_get, if◌then◌else◌}
use Rattle.std.proofs.lemmas.Bool.{cases_lt}
use Rattle.isp_code.specs.Conf.{Conf}
use Rattle.isp_code.specs.declared.instr.Division.{Division}
use Rattle.isp_code.specs.declared.instr.Instr.{Instr}
use Rattle.isp_code.specs.declared.instr.Instr.TheVariants as instr
use Rattle.isp_code.specs.declared.instr.ScalarInstr.{ScalarInstr}
use Rattle.isp_code.specs.declared.instr.ScalarInstr.TheVariants as scalar
use Rattle.isp_code.specs.declared.instr.VectorInstr.{VectorInstr}
use Rattle.isp_code.specs.declared.instr.VectorInstr.TheVariants as vector
use Rattle.isp_code.specs.declared.register.Class.{Class}
use Rattle.isp_code.specs.declared.register.Class.TheVariants as class
use Rattle.isp_code.specs.declared.register.Register.{Register}
use Rattle.isp_forms.specs.Writes.{is_pure}
use Rattle.isp_forms.specs.declared.form.Form.{Form}
use Rattle.isp_forms.specs.declared.form.Form.TheVariants.{Kept, Free, Useless, KeptBy, FreeBy}
use Rattle.isp_wasm_meaning.specs.Meaning.{State, Result, Fell, Branched, Returned, Trapped, OutOfFuel, run, then_to}
use Rattle.isp_wasm_meaning.specs.Syntax.{Skip, Unreachable}
use Rattle.isp_wasm_meaning.specs.Ladder.{Meets, Whole, dispatched}
use Rattle.isp_wasm_meaning.proofs.Ladders.{meets_then, dispatches}
use Rattle.isp_wasm.specs.Places.{Setting, Counter, elem}
use Rattle.isp_wasm.specs.Templates.{lane_checks, lane_stores, own_index, scalar_code, vector_code, vector_line, quotients, return_code, code_of, code_at, span, rung, function_code}
use Rattle.isp_wasm.specs.Agreement.{CallsAgree}
use Rattle.isp_wasm.specs.Standing.{Stands, Final, StandsBefore, IsSettled, the_machine, vector_register}
use Rattle.isp_wasm.specs.Thin.{IsArray, IsCovered, IsLast, IsThin, AllThin, IsThinScalar, IsThinVector, IsThinDivision}
use Rattle.isp_wasm.proofs.Steps.{IsWritten, machine_laws, falls_useless}
use Rattle.isp_wasm.proofs.Scalars.{scalars_fall, jumps_to, tests_fall, returns, answers, asserts}
use Rattle.isp_wasm.proofs.Vectors.{copies, converts, unaries, binaries, compares, selects, splats, indices}
use Rattle.isp_wasm.proofs.Masks.{masks_fall}
use Rattle.isp_wasm.proofs.Divisions.{divides_scalar, divides_lanes}
use Rattle.isp_wasm.proofs.Elements.{found, found_shared}
use Rattle.isp_wasm.proofs.Gathers.{gathers, packed_loads, loads}
use Rattle.isp_wasm.proofs.RowLoads.{run_loads}
use Rattle.isp_wasm.proofs.Clears.{clears}
use Rattle.isp_wasm.proofs.Stores.{ends_so, scatters, packed_stores, stores}
use Rattle.isp_wasm.proofs.RowStores.{run_stores}
use Rattle.isp_wasm.proofs.Across.{scans, exchanges, shuffles, shuffles_two, inserts, extracts}
use Rattle.isp_wasm.proofs.Reductions.{reduces}
use Rattle.isp_wasm.proofs.Texts.{says_fall}
use Rattle.isp_wasm.proofs.Prints.{prints_scalar, prints_vector}
use Rattle.isp_wasm.proofs.Calls.{calls_fall}

module _ (w : Setting) (ready : IsSettled w) (covered : IsCovered w) (thin : AllThin w) (last : ℕ) (call : ℕ → List ℕ → State → Result) (right : CallsAgree w last call) where
  abbrev pub fuel : ℕ
  fuel = suc last

  abbrev pub Good : ℕ → ℕ → Conf → Result → Type 0
  Good k pc = Meets (the_machine w) (w.local Counter) w.rungs fuel (Stands w pc) (suc k)

  -- where it is over, control goes nowhere
  over : (P : Conf → State → Type 0) (k : ℕ) (c : Conf) (r : Result) → Final w c r → Meets (the_machine w) (w.local Counter) w.rungs fuel P k c r
  over P k c (Fell s) h = absurd h
  over P k c (Branched d s) h = absurd h
  over P k c (Returned v s) h = h
  over P k c (Trapped t s) h = h
  over P k c (OutOfFuel s) h = absurd h

  module _ (k : ℕ) (low : k < w.rungs) (pc : ℕ) (c : Conf) (s : State) (st : Stands w pc c s) where
    scalar_at : (d : Register) (i : ScalarInstr) → slice_get w.routine.code pc ≡ Some (instr.Scalar d i) → d.class ≡ class.Scalar → IsThinScalar w (elem w d) i → Good k (pc + 1) c (run fuel call (scalar_code w d i) s)
    scalar_at d (scalar.Load a i m q) has cl h = loads w ready fuel w.rungs k call pc c s st d a i m q has cl (found_shared w ready a (elem w d) h.1) h.0
    scalar_at d (scalar.Constant z) has cl h = scalars_fall w ready fuel w.rungs k call pc c s st d (scalar.Constant z) has cl tt h
    scalar_at d (scalar.Copy x) has cl h = scalars_fall w ready fuel w.rungs k call pc c s st d (scalar.Copy x) has cl tt h
    scalar_at d (scalar.Convert x) has cl h = scalars_fall w ready fuel w.rungs k call pc c s st d (scalar.Convert x) has cl tt h
    scalar_at d (scalar.Unary o x) has cl h = scalars_fall w ready fuel w.rungs k call pc c s st d (scalar.Unary o x) has cl tt h
    scalar_at d (scalar.Binary o x y) has cl h = scalars_fall w ready fuel w.rungs k call pc c s st d (scalar.Binary o x y) has cl tt h
    scalar_at d (scalar.Compare o x y) has cl h = scalars_fall w ready fuel w.rungs k call pc c s st d (scalar.Compare o x y) has cl tt h
    scalar_at d (scalar.Select t x y) has cl h = scalars_fall w ready fuel w.rungs k call pc c s st d (scalar.Select t x y) has cl tt h
    scalar_at d (scalar.First m) has cl h = scalars_fall w ready fuel w.rungs k call pc c s st d (scalar.First m) has cl tt h
    scalar_at d (scalar.Reduce r x m) has cl h = reduces w ready fuel w.rungs k call pc c s st d r x m cl has h.0 h.1
    scalar_at d (scalar.Extract x i m) has cl h = extracts w ready fuel w.rungs k call pc c s st d x i m cl h.0 h.1 has

    -- a vector register is what its number says
    as_vector : (d : Register) → d.class ≡ class.Vector → vector_register d.number ≡ d
    as_vector d cl = ap (λ a. record { class = a; number = d.number }) (sym cl)

    vector_number : (d : ℕ) (i : VectorInstr) → slice_get w.routine.code pc ≡ Some (instr.Vector (vector_register d) i) → IsThinVector w (elem w (vector_register d)) i → (form : Form) → IsWritten w pc form
        → Good k (pc + 1) c (run fuel call (vector_code w form (vector_register d) i) s)
    vector_number d (vector.Copy x m) has h form written = copies w ready fuel w.rungs k call pc c s st d x m has h form written
    vector_number d (vector.Convert x m) has h form written = converts w ready fuel w.rungs k call pc c s st d x m has h form written
    vector_number d (vector.Unary o x m) has h form written = unaries w ready fuel w.rungs k call pc c s st d o x m has h form written
    vector_number d (vector.Binary o x y m) has h form written = binaries w ready fuel w.rungs k call pc c s st d o x y m has h form written
    vector_number d (vector.Compare o x y m) has h form written = compares w ready fuel w.rungs k call pc c s st d o x y m has h form written
    vector_number d (vector.Select t x y m) has h form written = selects w ready fuel w.rungs k call pc c s st d t x y m has h form written
    vector_number d (vector.Splat x m) has h form written = splats w ready fuel w.rungs k call pc c s st d x m has h form written
    vector_number d (vector.Index m) has h form written = indices w ready fuel w.rungs k call pc c s st d m has h form written
    vector_number d (vector.Gather a i m q) has h form written = gathers w ready fuel w.rungs k call pc c s st d a i m q (found w ready a (elem w (vector_register d)) h.0) h.1 has
    vector_number d (vector.LoadRun a i m q) has h form written = run_loads w ready fuel w.rungs k call pc c s st d a i m q h.0 h.1 has form written
    vector_number d (vector.Scan o x m) has h form written = scans w ready fuel w.rungs k call pc c s st d o x m h.0 h.1 has form written
    vector_number d (vector.Exchange e x i m) has h form written = exchanges w ready fuel w.rungs k call pc c s st d e x i m h.0 h.1 has form written
    vector_number d (vector.Shuffle x i m) has h form written = shuffles w ready fuel w.rungs k call pc c s st d x i m h.0 h.1 has form written
    vector_number d (vector.ShuffleTwo x y i m) has h form written = shuffles_two w ready fuel w.rungs k call pc c s st d x y i m h.0 h.1 h.2 has form written
    vector_number d (vector.Insert x i y m) has h form written = inserts w ready fuel w.rungs k call pc c s st d x i y m h.0 h.1 h.2 has form written

    vector_coded : (d : Register) (i : VectorInstr) → slice_get w.routine.code pc ≡ Some (instr.Vector d i) → d.class ≡ class.Vector → IsThinVector w (elem w d) i → (form : Form) → IsWritten w pc form
        → Good k (pc + 1) c (run fuel call (vector_code w form d i) s)
    vector_coded d i has cl h form written =
        subst (λ e. slice_get w.routine.code pc ≡ Some (instr.Vector e i) → IsThinVector w (elem w e) i → Good k (pc + 1) c (run fuel call (vector_code w form e i) s)) (as_vector d cl)
        (λ has h. vector_number d.number i has h form written) has h

    -- what nobody reads may be left out, unless it may trap
    left_out : (d : Register) (i : VectorInstr) → slice_get w.routine.code pc ≡ Some (instr.Vector d i) → w.forms w.home.fn pc ≡ Useless → (pure : Bool) → is_pure i ≡ pure
        → Good k (pc + 1) c (run fuel call (vector_code w Kept d i) s) → Good k (pc + 1) c (run fuel call (if pure then Skip else vector_code w Kept d i) s)
    left_out d i has is true pure kept = falls_useless w ready fuel w.rungs k pc c s d i st has is pure
    left_out d i has is false pure kept = kept

    vector_at : (d : Register) (i : VectorInstr) → slice_get w.routine.code pc ≡ Some (instr.Vector d i) → d.class ≡ class.Vector → IsThinVector w (elem w d) i → (form : Form) → w.forms w.home.fn pc ≡ form
        → Good k (pc + 1) c (run fuel call (vector_line w form d i) s)
    vector_at d i has cl h Kept is = vector_coded d i has cl h Kept (λ e. is)
    vector_at d i has cl h Free is = vector_coded d i has cl h Free (λ e. is)
    vector_at d i has cl h (KeptBy b) is = vector_coded d i has cl h (KeptBy b) (λ e. is)
    vector_at d i has cl h (FreeBy b) is = vector_coded d i has cl h (FreeBy b) (λ e. is)
    vector_at d i has cl h Useless is = left_out d i has is (is_pure i) refl (vector_coded d i has cl h Kept (λ other. absurd (other refl)))

    quotient_number : (o : Division) (a : Class) (d : ℕ) (x y m : Register) (q : ℕ) → slice_get w.routine.code pc ≡ Some (instr.Divide o (record { class = a; number = d }) x y m q)
        → IsThinDivision w a (elem w (record { class = a; number = d })) x y → Good k (pc + 1) c (run fuel call (quotients w a o (record { class = a; number = d }) x y m q) s)
    quotient_number o class.Scalar d x y m q has h = divides_scalar w ready fuel w.rungs k call pc c s st o d x y m q has h.0 h.1 h.2
    quotient_number o class.Vector d x y m q has h = divides_lanes w ready fuel w.rungs k call pc c s st o d x y m q h.0 h.1 h.2 has
    quotient_number o a d x y m q has h = absurd h

    packed_load_at : (form : Form) (r a i y m : Register) (q : ℕ) → slice_get w.routine.code pc ≡ Some (instr.PackedLoad r a i y m q) → IsThin w (instr.PackedLoad r a i y m q)
        → Good k (pc + 1) c (run fuel call (code_of w (w.rungs - suc k) form (instr.PackedLoad r a i y m q)) s)
    packed_load_at form r a i y m q has h =
        subst
        (λ e. slice_get w.routine.code pc ≡ Some (instr.PackedLoad r a i e m q) → IsArray w a (elem w e) → Good k (pc + 1) c (run fuel call (code_of w (w.rungs - suc k) form (instr.PackedLoad r a i e m q)) s))
        (as_vector y h.3) (λ has el. packed_loads w ready fuel w.rungs k call pc c s st y.number a i m q (found_shared w ready a (elem w (vector_register y.number)) el) el.shared r (h.0).class_is (h.0).elem_is h.2 has) has h.1

    -- one instruction
    template : (i : Instr) → slice_get w.routine.code pc ≡ Some i → IsThin w i → (form : Form) → w.forms w.home.fn pc ≡ form → Good k (pc + 1) c (run fuel call (code_of w (w.rungs - suc k) form i) s)
    template (instr.Scalar d i) has h form e = scalar_at d i has h.0 h.1
    template (instr.Vector d i) has h form e = vector_at d i has h.0 h.1 form e
    template (instr.Mask d i) has h form e = masks_fall w ready fuel w.rungs k call pc c s st d i has h
    template (instr.Divide o d x y m q) has h form e = quotient_number o d.class d.number x y m q has h
    template (instr.Store a i y m q) has h form e = stores w ready fuel w.rungs k call pc c s st a i y m q has h.1 h.0 h.2
    template (instr.Scatter a i y m q) has h form e =
        subst (Good k (pc + 1) c) (ends_so (run fuel call (lane_checks w a (own_index w i) m q) s) (run fuel call (lane_stores w a (own_index w i) y m))) (scatters w ready fuel w.rungs k call pc c s st a i y m q h.0 h.2 h.1 has)
    template (instr.StoreRun a i y m q) has h form e = run_stores w ready fuel w.rungs k call pc c s st a i y m q h.0 h.2 h.1 has
    template (instr.PackedStore r a i y m q) has h form e = packed_stores w ready fuel w.rungs k call pc c s st a i y m q h.1 h.3 h.2 r (h.0).class_is (h.0).elem_is has
    template (instr.PackedLoad r a i y m q) has h form e = packed_load_at form r a i y m q has h
    template (instr.Jump to) has h form e = jumps_to w ready fuel w.rungs k call pc c s st to (instr.Jump to) has low h refl refl
    template (instr.JumpIf t x to) has h form e = tests_fall w ready fuel w.rungs k call pc c s st to t x has low h refl form
    template (instr.Say t) has h form e = says_fall w ready fuel w.rungs k call pc c s t st has
    template (instr.Fail x q) has h form e = asserts w ready fuel w.rungs k call pc c s st x q has
    template (instr.PrintScalar x) has h form e = prints_scalar w ready fuel w.rungs k call pc c s st x has h
    template (instr.PrintVector x m) has h form e = prints_vector w ready fuel w.rungs k call pc c s st x m has h
    template (instr.Call x) has h form e = calls_fall w ready last w.rungs k call right pc c s st x has h
    template (instr.Return None) has h form e = returns w ready fuel w.rungs k call pc c s st has h
    template (instr.Return (Some x)) has h form e = over (Stands w (pc + 1)) (suc k) c (run fuel call (return_code w x.class x) s) (answers w ready fuel w.rungs k call pc c s st x has h)
    template (instr.Clear a m) has h form e = clears w ready fuel w.rungs k call pc c s st a m h has

  template_at : (k : ℕ) → k < w.rungs → (pc : ℕ) → pc < w.heads w.rungs → (c : Conf) (s : State) (o : Option Instr) → Stands w pc c s → slice_get w.routine.code pc ≡ o
      → Good k (pc + 1) c (run fuel call (code_at w (w.rungs - suc k) (w.forms w.home.fn pc) o) s)
  template_at k low pc lp c s None st has = absurd (covered.there pc lp has)
  template_at k low pc lp c s (Some i) st has = template k low pc c s st i has (thin pc i has) (w.forms w.home.fn pc) refl

  -- so many instructions
  spans : (k : ℕ) → k < w.rungs → (m pc : ℕ) → pc + m ≤ w.heads w.rungs → (c : Conf) (s : State) → Stands w pc c s → Good k (pc + m) c (run fuel call (span w (w.rungs - suc k) pc m) s)
  spans k low zero pc lp c s st = record { conf = c; steps = 0; goes = refl; stands = subst (λ p. Stands w p c s) (let e : pc ≡ pc + zero = omega arith in e) st }
  spans k low (suc m) pc lp c s st =
      meets_then (the_machine w) (machine_laws w) (w.local Counter) w.rungs fuel call (rung w) (Stands w (pc + 1)) (Stands w (pc + suc m)) (suc k) c
      (run fuel call (code_at w (w.rungs - suc k) (w.forms w.home.fn pc) (slice_get w.routine.code pc)) s) (run fuel call (span w (w.rungs - suc k) (pc + 1) m))
      (template_at k low pc (omega arith) c s (slice_get w.routine.code pc) st refl)
      (λ c1 s1 st1. subst (λ p. Good k p c1 (run fuel call (span w (w.rungs - suc k) (pc + 1) m) s1)) (let e : pc + 1 + m ≡ pc + suc m = omega arith in e) (spans k low m (pc + 1) (omega arith) c1 s1 st1))

  -- the last one does not fall
  abbrev pub Never : Conf → State → Type 0
  Never c s = ⊥

  abbrev pub Gone : ℕ → Conf → Result → Type 0
  Gone k = Meets (the_machine w) (w.local Counter) w.rungs fuel Never (suc k)

  leaves_at : (k : ℕ) → k < w.rungs → (pc : ℕ) (c : Conf) (s : State) (o : Option Instr) → Stands w pc c s → slice_get w.routine.code pc ≡ o → IsLast w o → Gone k c (run fuel call (code_at w (w.rungs - suc k) (w.forms w.home.fn pc) o) s)
  leaves_at k low pc c s (Some (instr.Jump to)) st has h = jumps_to w ready fuel w.rungs k call pc c s st to (instr.Jump to) has low (thin pc (instr.Jump to) has) refl refl
  leaves_at k low pc c s (Some (instr.Return None)) st has h = returns w ready fuel w.rungs k call pc c s st has (thin pc (instr.Return None) has)
  leaves_at k low pc c s (Some (instr.Return (Some x))) st has h = over Never (suc k) c (run fuel call (return_code w x.class x) s) (answers w ready fuel w.rungs k call pc c s st x has (thin pc (instr.Return (Some x)) has))
  leaves_at k low pc c s o st has h = absurd h

  last_spans : (k : ℕ) → suc k ≡ w.rungs → (m pc : ℕ) → pc + suc m ≡ w.heads w.rungs → (c : Conf) (s : State) → Stands w pc c s → Gone k c (run fuel call (span w (w.rungs - suc k) pc (suc m)) s)
  last_spans k all zero pc e c s st =
      meets_then (the_machine w) (machine_laws w) (w.local Counter) w.rungs fuel call (rung w) Never Never (suc k) c
      (run fuel call (code_at w (w.rungs - suc k) (w.forms w.home.fn pc) (slice_get w.routine.code pc)) s) (run fuel call (span w (w.rungs - suc k) (pc + 1) zero))
      (leaves_at k (omega arith) pc c s (slice_get w.routine.code pc) st refl (covered.ends k pc all (omega arith))) (λ c1 s1 never. absurd never)
  last_spans k all (suc m) pc e c s st =
      meets_then (the_machine w) (machine_laws w) (w.local Counter) w.rungs fuel call (rung w) (Stands w (pc + 1)) Never (suc k) c
      (run fuel call (code_at w (w.rungs - suc k) (w.forms w.home.fn pc) (slice_get w.routine.code pc)) s) (run fuel call (span w (w.rungs - suc k) (pc + 1) (suc m)))
      (template_at k (omega arith) pc (omega arith) c s (slice_get w.routine.code pc) st refl) (λ c1 s1 st1. last_spans k all m (pc + 1) (omega arith) c1 s1 st1)

  -- nothing stands where control never gets
  weaker : (P : Conf → State → Type 0) (k : ℕ) (c : Conf) (r : Result) → Meets (the_machine w) (w.local Counter) w.rungs fuel Never k c r → Meets (the_machine w) (w.local Counter) w.rungs fuel P k c r
  weaker P k c (Fell s) h = absurd h.stands
  weaker P k c (Branched d s) h = h
  weaker P k c (Returned v s) h = h
  weaker P k c (Trapped t s) h = h
  weaker P k c (OutOfFuel s) h = h

  higher : (k : ℕ) → suc k < w.rungs → (c : Conf) (r : Result) → Good k (w.heads (suc k)) c r → Meets (the_machine w) (w.local Counter) w.rungs fuel (StandsBefore w (suc k)) (suc k) c r
  higher k l c (Fell s) h = record { conf = h.conf; steps = h.steps; goes = h.goes; stands = record { low = l; stands = h.stands } }
  higher k l c (Branched d s) h = h
  higher k l c (Returned v s) h = h
  higher k l c (Trapped t s) h = h
  higher k l c (OutOfFuel s) h = h

  -- heads lie one after the other
  heads_below : (d k : ℕ) → k + d ≡ w.rungs → w.heads k ≤ w.heads w.rungs
  heads_below zero k e = let same : k ≡ w.rungs = omega arith in subst (λ j. w.heads k ≤ w.heads j) same (omega arith)
  heads_below (suc d) k e = let up = ready.heads_up k (omega arith) in let more = heads_below d (suc k) (omega arith) in omega arith

  rungs : (k : ℕ) → k < w.rungs → (c : Conf) (s : State) → StandsBefore w k c s → Meets (the_machine w) (w.local Counter) w.rungs fuel (StandsBefore w (suc k)) (suc k) c (run fuel call (rung w k) s)
  rungs k low c s st = by (cases_lt (suc k) w.rungs)
    where
      up : w.heads k < w.heads (suc k)
      up = ready.heads_up k low

      by : (suc k < w.rungs) ⊎ (w.rungs ≤ suc k) → Meets (the_machine w) (w.local Counter) w.rungs fuel (StandsBefore w (suc k)) (suc k) c (run fuel call (rung w k) s)
      by (inl l) =
          higher k l c (run fuel call (rung w k) s)
          (subst (λ p. Good k p c (run fuel call (rung w k) s)) (let e : w.heads k + (w.heads (suc k) - w.heads k) ≡ w.heads (suc k) = omega (arith, up) in e)
          (spans k low (w.heads (suc k) - w.heads k) (w.heads k) (let le = heads_below (w.rungs - suc k) (suc k) (omega arith) in omega (arith, up)) c s st.stands))
      by (inr l) =
          let all : suc k ≡ w.rungs = omega arith in
          let ends : w.heads (suc k) ≡ w.heads w.rungs = ap w.heads all in
          weaker (StandsBefore w (suc k)) (suc k) c (run fuel call (rung w k) s)
          (subst (λ m. Gone k c (run fuel call (span w (w.rungs - suc k) (w.heads k) m) s)) (let e : suc (w.heads (suc k) - w.heads k - 1) ≡ w.heads (suc k) - w.heads k = omega (arith, up) in e)
          (last_spans k all (w.heads (suc k) - w.heads k - 1) (w.heads k) (omega (arith, up, ends)) c s st.stands))

  -- nothing is done after the loop
  whole_on : (c : Conf) (r : Result) (go : State → Result) → Whole (the_machine w) (w.local Counter) w.rungs fuel fuel c r → Whole (the_machine w) (w.local Counter) w.rungs fuel fuel c (then_to r go)
  whole_on c (Fell s) go h = absurd (let low = h.stands.low in omega arith)
  whole_on c (Branched d s) go h = absurd h
  whole_on c (Returned v s) go h = h
  whole_on c (Trapped t s) go h = h
  whole_on c (OutOfFuel s) go h = h

  -- the function, from a rung on
  with_fuel : (c : Conf) (s : State) → s.locals (w.local Counter) < w.rungs → Stands w (w.heads (s.locals (w.local Counter))) c s
      → Whole (the_machine w) (w.local Counter) w.rungs fuel fuel c (run fuel call (function_code w) s)
  with_fuel c s low st =
      whole_on c (run fuel call (dispatched (w.local Counter) (rung w) w.rungs) s) (run fuel call Unreachable)
      (dispatches (the_machine w) (machine_laws w) (w.local Counter) w.rungs fuel call (rung w) rungs c s low (record { low = low; stands = st }))

-- without fuel nothing is done
pub function_runs : (w : Setting) → IsSettled w → IsCovered w → AllThin w → (fuel : ℕ) (call : ℕ → List ℕ → State → Result) → ((g : ℕ) → fuel ≡ suc g → CallsAgree w g call) → (c : Conf) (s : State)
    → s.locals (w.local Counter) < w.rungs → Stands w (w.heads (s.locals (w.local Counter))) c s → Whole (the_machine w) (w.local Counter) w.rungs fuel fuel c (run fuel call (function_code w) s)
function_runs w ready covered thin zero call right c s low st = record { conf = c; steps = 0; goes = refl; far = omega arith; out_is = st.out_is }
function_runs w ready covered thin (suc g) call right c s low st = with_fuel w ready covered thin g call (right g refl) c s low st
