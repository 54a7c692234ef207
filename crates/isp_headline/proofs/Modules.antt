-- A call in the module of a text's code does what the gang does.
use Rattle.std.proofs.Common.{◌≡◌, ℕ, zero, suc, ◌^◌, ◌<◌, ◌≤◌, List, [], length, Option, Some, None, Bool, true, false, not, ◌&&◌, refl, sym, ◌∙◌, subst, arith}
use Rattle.std.specs.Prelude.{◌||◌, nat_lt}
use Rattle.std.proofs.lemmas.Bool.Decides.{nat_tests}
use Rattle.isp_base.specs.Binding.{has_signature}
use Rattle.isp_base.specs.Outcomes as outcomes
use Rattle.isp_base.specs.Outcomes.{Outcome, Ends, Traps, GoesOn}
use Rattle.isp_base.specs.Prefixes.{IsPrefix}
use Rattle.isp_base.specs.Rows.{Row}
use Rattle.isp_base.specs.Types.{gang_width}
use Rattle.isp_base.specs.declared.signature.Argument.{Argument}
use Rattle.isp_base.specs.declared.trap.Trap.{Trap}
use Rattle.isp_base.specs.declared.types.Value.{Value}
use Rattle.isp_code.specs.Entries as code
use Rattle.isp_code.specs.Listing.{Listing, Routine}
use Rattle.isp_code.specs.Machine.{outcome_after}
use Rattle.isp_code.specs.Writable.{IsWritable}
use Rattle.isp_meaning.proofs.Grown.{prefix_self, prefix_on}
use Rattle.isp_meaning.specs.Entries.{IsEntry}
use Rattle.isp_meaning.specs.Runs.{run_of}
use Rattle.isp_verify.specs.Faults.{code_fault}
use Rattle.isp_typed.specs.Typed.{Program, TFunction}
use Rattle.isp_forms.specs.Runs.{Forms}
use Rattle.isp_wasm_meaning.specs.Syntax.{Code}
use Rattle.isp_wasm_meaning.specs.Meaning.{State, Report, Result, Fell, Branched, Returned, Trapped, OutOfFuel, called, left}
use Rattle.isp_wasm_meaning.specs.Module.{code_in}
use Rattle.isp_wasm.specs.Agreement as wasm
use Rattle.isp_wasm.specs.Entry.{SameOutcomes, Shows, ReturnsSo, TrapsSo}
use Rattle.isp_wasm.specs.Kernel.{KernelsAgree, in_call, passed}
use Rattle.isp_wasm.specs.Module.{joined, is_plain, all_plain, is_covered, module_with}
use Rattle.isp_wasm.specs.Places.{Setting}
use Rattle.isp_wasm.specs.Stack.{has_call, bytes_in}
use Rattle.isp_wasm.specs.Standing.{report_of}
use Rattle.isp_wasm_valid.specs.Modules.{ModulesValid}
use Rattle.isp_headline.specs.Headline.{ComesTo, NeverOver, HasWritten, DoesTheSame}
use Rattle.isp_headline.specs.BoundHeadline.{DoesAsMeantBound}
use Rattle.isp_headline.specs.ModuleHeadline.{CallDoesTheSame, ModuleDoesAsMeant, ModuleHeadline, RanOut}
use Rattle.isp_headline.proofs.Exported.{one_exported}
use Rattle.isp_headline.proofs.Whole.{bound_headline}

-- ---- what a call comes to

-- what has used up its fuel has not come back, nor stopped
not_back : (r : Result) (v : Option ℕ) (s t : State) → r ≡ Returned v s → r ≡ OutOfFuel t → ⊥
not_back r v s t a b = let clash : Returned v s ≡ OutOfFuel t = sym a ∙ b in cc

not_stopped : (r : Result) (x : Option Report) (s t : State) → r ≡ Trapped x s → r ≡ OutOfFuel t → ⊥
not_stopped r x s t a b = let clash : Trapped x s ≡ OutOfFuel t = sym a ∙ b in cc

data Comes (r : Result) : Type 0 where
  back : (v : Option ℕ) (s : State) → r ≡ Returned v s → Comes r
  stopped : (t : Option Report) (s : State) → r ≡ Trapped t s → Comes r
  spent : (s : State) → r ≡ OutOfFuel s → Comes r

left_comes : (r : Result) → Comes (left r)
left_comes (Fell s) = back None s refl
left_comes (Branched k s) = back None s refl
left_comes (Returned v s) = back v s refl
left_comes (Trapped t s) = stopped t s refl
left_comes (OutOfFuel s) = spent s refl

call_comes : (module_code : ℕ → Code) (f : ℕ) (arguments : List ℕ) (s : State) (n : ℕ) → Comes (called module_code n f arguments s)
call_comes module_code f arguments s zero = spent s refl
call_comes module_code f arguments s (suc n) = left_comes _

-- ---- a machine, and a call that has its outcomes

module _ (w : Setting) (machine : ℕ → Outcome) (call : ℕ → Result) where
  record Follows : Type 0 where
    comes : (n : ℕ) → Comes (call n)
    begins : (s : State) × (call 0 ≡ OutOfFuel s) × (s.out ≡ [])
    ends : (m : ℕ) (rs : List Row) (x : Option Value) (out : List ℕ) → machine m ≡ Ends rs x out → ReturnsSo w rs x out (call (suc m))
    traps : (m : ℕ) (t : Trap) (rs : List Row) (out : List ℕ) → machine m ≡ Traps t rs out → TrapsSo w t rs out (call (suc m))
    ends_only : (n : ℕ) (v : Option ℕ) (s : State) → call (suc n) ≡ Returned v s
        → (m : ℕ) × (rs : List Row) × (x : Option Value) × (machine m ≡ Ends rs x s.out) × (v ≡ wasm.value_bits x) × Shows w rs s
    traps_only : (n : ℕ) (r : Option Report) (s : State) → call (suc n) ≡ Trapped r s
        → (m : ℕ) × (rs : List Row) × (t : Trap) × (machine m ≡ Traps t rs s.out) × (r ≡ Some (report_of w t)) × Shows w rs s
    goes_on : (n : ℕ) (s : State) → call (suc n) ≡ OutOfFuel s → (m : ℕ) × (suc n ≤ m) × (machine m ≡ GoesOn s.out)
    so_far : (m : ℕ) (out : List ℕ) → machine m ≡ GoesOn out → IsPrefix out (wasm.out_of (call m))

  module _ (it : Follows) where
    -- with no fuel it has come to nothing yet
    ended : (n : ℕ) (v : Option ℕ) (s : State) → call n ≡ Returned v s
        → (m : ℕ) × (rs : List Row) × (x : Option Value) × (machine m ≡ Ends rs x s.out) × (v ≡ wasm.value_bits x) × Shows w rs s
    ended zero v s e = absurd (not_back (call 0) v s it.begins.0 e it.begins.1)
    ended (suc n) v s e = it.ends_only n v s e

    trapped : (n : ℕ) (r : Option Report) (s : State) → call n ≡ Trapped r s
        → (m : ℕ) × (rs : List Row) × (t : Trap) × (machine m ≡ Traps t rs s.out) × (r ≡ Some (report_of w t)) × Shows w rs s
    trapped zero r s e = absurd (not_stopped (call 0) r s it.begins.0 e it.begins.1)
    trapped (suc n) r s e = it.traps_only n r s e

    -- ---- it goes on as the machine does

    spends : NeverOver machine → (n : ℕ) → Comes (call n) → RanOut (call n)
    spends never n (back v s e) = let k = ended n v s e in absurd (never k.0 (subst outcomes.IsOver (sym k.3) tt))
    spends never n (stopped r s e) = let k = trapped n r s e in absurd (never k.0 (subst outcomes.IsOver (sym k.3) tt))
    spends never n (spent s e) = (s, e)

    end_stops : (m : ℕ) (rs : List Row) (x : Option Value) (out : List ℕ) → ReturnsSo w rs x out (call (suc m)) → RanOut (call (suc m)) → ⊥
    end_stops m rs x out k r = not_back (call (suc m)) (wasm.value_bits x) k.state r.0 k.is r.1

    trap_stops : (m : ℕ) (t : Trap) (rs : List Row) (out : List ℕ) → TrapsSo w t rs out (call (suc m)) → RanOut (call (suc m)) → ⊥
    trap_stops m t rs out k r = not_stopped (call (suc m)) (Some (report_of w t)) k.state r.0 k.is r.1

    stops : (m : ℕ) (o : Outcome) → machine m ≡ o → outcomes.IsOver o → RanOut (call (suc m)) → ⊥
    stops m (Ends rs x out) e over r = end_stops m rs x out (it.ends m rs x out e) r
    stops m (Traps t rs out) e over r = trap_stops m t rs out (it.traps m t rs out e) r
    stops m (GoesOn out) e over r = over

    never_over : ((n : ℕ) → RanOut (call n)) → NeverOver machine
    never_over out m over = stops m (machine m) refl over (out (suc m))

    -- ---- what is written

    end_writes : (m : ℕ) (rs : List Row) (x : Option Value) (out : List ℕ) → ReturnsSo w rs x out (call (suc m)) → IsPrefix out (wasm.out_of (call (suc m)))
    end_writes m rs x out k = subst (λ r. IsPrefix out (wasm.out_of r)) (sym k.is) (subst (IsPrefix out) (sym k.out_is) (prefix_self out))

    trap_writes : (m : ℕ) (t : Trap) (rs : List Row) (out : List ℕ) → TrapsSo w t rs out (call (suc m)) → IsPrefix out (wasm.out_of (call (suc m)))
    trap_writes m t rs out k = subst (λ r. IsPrefix out (wasm.out_of r)) (sym k.is) (subst (IsPrefix out) (sym k.out_is) (prefix_self out))

    call_writes : (m : ℕ) (o : Outcome) → machine m ≡ o → (n : ℕ) × IsPrefix (outcomes.out_of o) (wasm.out_of (call n))
    call_writes m (Ends rs x out) e = (suc m, end_writes m rs x out (it.ends m rs x out e))
    call_writes m (Traps t rs out) e = (suc m, trap_writes m t rs out (it.traps m t rs out e))
    call_writes m (GoesOn out) e = (m, it.so_far m out e)

    -- where the machine has written what the call has
    written : (n m : ℕ) (r : Result) (o : Outcome) → call n ≡ r → machine m ≡ o → outcomes.out_of o ≡ wasm.out_of r → HasWritten machine (wasm.out_of (call n))
    written n m r o a b same = (
      m,
      subst (λ z. IsPrefix (wasm.out_of z) (outcomes.out_of (machine m))) (sym a)
          (subst (λ z. IsPrefix (wasm.out_of r) (outcomes.out_of z)) (sym b) (subst (IsPrefix (wasm.out_of r)) (sym same) (prefix_self (wasm.out_of r)))),
    )

    none_written : (s : State) → call 0 ≡ OutOfFuel s → s.out ≡ [] → HasWritten machine (wasm.out_of (call 0))
    none_written s e silent = (0, subst (λ z. IsPrefix (wasm.out_of z) (outcomes.out_of (machine 0))) (sym e) (subst (λ z. IsPrefix z (outcomes.out_of (machine 0))) (sym silent) (outcomes.out_of (machine 0), refl)))

    machine_writes : (n : ℕ) → Comes (call n) → HasWritten machine (wasm.out_of (call n))
    machine_writes n (back v s e) = let k = ended n v s e in written n k.0 (Returned v s) (Ends k.1 k.2 s.out) e k.3 refl
    machine_writes n (stopped r s e) = let k = trapped n r s e in written n k.0 (Trapped r s) (Traps k.2 k.1 s.out) e k.3 refl
    machine_writes zero (spent s e) = none_written it.begins.0 it.begins.1 it.begins.2
    machine_writes (suc n) (spent s e) = let k = it.goes_on n s e in written (suc n) k.0 (OutOfFuel s) (GoesOn s.out) e k.2 refl

    -- ---- and a gang that does the same as the machine

    module _ (gang : ℕ → Outcome) (same : DoesTheSame gang machine) where
      gang_ends : (rs : List Row) (x : Option Value) (out : List ℕ) → ComesTo gang (Ends rs x out) → (n : ℕ) × ReturnsSo w rs x out (call n)
      gang_ends rs x out c = let k = (same.over (Ends rs x out) tt).0 c in (suc k.0, it.ends k.0 rs x out k.1)

      gang_traps : (t : Trap) (rs : List Row) (out : List ℕ) → ComesTo gang (Traps t rs out) → (n : ℕ) × TrapsSo w t rs out (call n)
      gang_traps t rs out c = let k = (same.over (Traps t rs out) tt).0 c in (suc k.0, it.traps k.0 t rs out k.1)

      call_ends : (n : ℕ) (v : Option ℕ) (s : State) → call n ≡ Returned v s
          → (rs : List Row) × (x : Option Value) × ComesTo gang (Ends rs x s.out) × (v ≡ wasm.value_bits x) × Shows w rs s
      call_ends n v s e = let k = ended n v s e in (k.1, k.2, (same.over (Ends k.1 k.2 s.out) tt).1 (k.0, k.3), k.4, k.5)

      call_traps : (n : ℕ) (r : Option Report) (s : State) → call n ≡ Trapped r s
          → (rs : List Row) × (t : Trap) × ComesTo gang (Traps t rs s.out) × (r ≡ Some (report_of w t)) × Shows w rs s
      call_traps n r s e = let k = trapped n r s e in (k.1, k.2, (same.over (Traps k.2 k.1 s.out) tt).1 (k.0, k.3), k.4, k.5)

      gang_writes : (out : List ℕ) → HasWritten gang out → (n : ℕ) × IsPrefix out (wasm.out_of (call n))
      gang_writes out h =
          let m = (same.output out).0 h in
          let k = call_writes m.0 (machine m.0) refl in
          (k.0, prefix_on out (outcomes.out_of (machine m.0)) (wasm.out_of (call k.0)) m.1 k.1)

      gang_wrote : (out : List ℕ) → (n : ℕ) × IsPrefix out (wasm.out_of (call n)) → HasWritten gang out
      gang_wrote out h =
          let k = machine_writes h.0 (it.comes h.0) in
          (same.output out).1 (k.0, prefix_on out (wasm.out_of (call h.0)) (outcomes.out_of (machine k.0)) h.1 k.1)

      does_the_same : CallDoesTheSame w gang call
      does_the_same =
          record {
            ends = gang_ends;
            traps = gang_traps;
            ends_only = call_ends;
            traps_only = call_traps;
            goes_on = (λ never n. spends (same.goes_on.0 never) n (it.comes n), λ out. same.goes_on.1 (never_over out));
            output = λ out. (gang_writes out, gang_wrote out);
          }

-- ---- the module of some code

follows : (w : Setting) (xs : List Argument) (module_code : ℕ → Code) (f : ℕ) (arguments : List ℕ) (s : State) → s.out ≡ []
    → SameOutcomes w xs (λ n. called module_code n f arguments s) → Follows w (outcome_after w.code w.home.fn w.routine xs) (λ n. called module_code n f arguments s)
follows w xs module_code f arguments s silent it =
    record {
      comes = call_comes module_code f arguments s;
      begins = (s, refl, silent);
      ends = it.ends;
      traps = it.traps;
      ends_only = it.ends_only;
      traps_only = it.traps_only;
      goes_on = it.goes_on;
      so_far = it.so_far;
    }

call_does_the_same : (image : Listing) (forms : Forms) (xs : List Argument) (at : List ℕ) (f : ℕ) (g : Routine) (s : State) → s.out ≡ [] → (gang : ℕ → Outcome) → DoesTheSame gang (outcome_after image f g xs)
    → SameOutcomes (in_call image forms xs at f g s) xs (λ n. called (code_in (module_with image forms)) n f (passed xs at) s)
    → CallDoesTheSame (in_call image forms xs at f g s) gang (λ n. called (code_in (module_with image forms)) n f (passed xs at) s)
call_does_the_same image forms xs at f g s silent gang same it =
    does_the_same (in_call image forms xs at f g s) (outcome_after image f g xs) (λ n. called (code_in (module_with image forms)) n f (passed xs at) s)
    (follows (in_call image forms xs at f g s) xs (code_in (module_with image forms)) f (passed xs at) s silent it) gang same

-- ---- the whole

starts_in : (image : Listing) (entry : List ℕ) (f : ℕ) (g : Routine) (xs : List Argument) → code.IsExport image entry f g → has_signature (code.parameters_of g) xs ≡ true → code.IsEntry image entry xs f g
starts_in image entry f g xs export fits = record { export = export; fits = fits }

second : (a b : Bool) → (a && b) ≡ true → b ≡ true
second true b e = e
second false b e = absurd (let no : ⊥ = cc in no)

first : (a b : Bool) → (a && b) ≡ true → a ≡ true
first true b e = refl
first false b e = absurd (let no : ⊥ = cc in no)

low : (a b : ℕ) → nat_lt a b ≡ true → a < b
low a b e = grind (arith, nat_tests)

-- texts of code that has a covered function have few bytes
few_texts : (image : Listing) (forms : Forms) (g : Routine) → is_covered image g ≡ true → length (module_with image forms).memory < 2 ^ 32
few_texts image forms g covered =
    low (length (joined image.texts)) (2 ^ 32)
    (second (nat_lt (length g.code) (2 ^ 32)) (nat_lt (length (joined image.texts)) (2 ^ 32))
    (second (nat_lt (suc (bytes_in (gang_width image.gang) g.locals)) (2 ^ 32)) (nat_lt (length g.code) (2 ^ 32) && nat_lt (length (joined image.texts)) (2 ^ 32))
    (first (is_plain image g) (not (has_call g) || all_plain image) covered)))

module_does_as_meant : KernelsAgree → ModulesValid → (program : Program) (image : Listing) → code_fault image ≡ None → IsWritable image → (entry : List ℕ) (f : ℕ) (h : TFunction) (xs : List Argument) → IsEntry program entry xs f h
    → DoesAsMeantBound program image entry f h xs → (forms : Forms) → ModuleDoesAsMeant program image forms entry f xs
module_does_as_meant law valid program image accepted writable entry f h xs starts it forms =
    let goes = starts_in image entry f it.routine xs it.export (subst (λ ps. has_signature ps xs ≡ true) (sym it.parameters) starts.fits) in
    record {
      routine = it.routine;
      export = it.export;
      valid = λ covered. valid image forms accepted writable (few_texts image forms it.routine covered);
      only = one_exported image forms entry f it.routine it.export it.only;
      same = λ covered harmless at s laid room.
          call_does_the_same image forms xs at f it.routine s laid.silent (λ n. run_of program f n xs) it.runs.same (law image forms accepted entry xs f it.routine goes covered harmless at s laid room);
    }

pub module_headline : KernelsAgree → ModulesValid → ModuleHeadline
module_headline law valid gang text image compiled accepted writable program source entry f h xs starts few forms =
    module_does_as_meant law valid program image accepted writable entry f h xs starts (bound_headline gang text image compiled program source entry f h xs starts few) forms
