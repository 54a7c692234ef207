-- The call of an exported function: what is set before its code, and what its outcomes are.
use Rattle.std.proofs.Common.{◌≡◌, ℕ, zero, suc, ◌+◌, ◌-◌, ◌*◌, ◌%◌, ◌^◌, ◌<◌, ◌≤◌, ◌≢◌, ◌⊎◌, inl, inr, List, [], ◌∷◌, length, Option, Some, None, Bool, true, false, not, ◌||◌, refl, sym, ap, ◌∙◌, subst, arith, lit≤}
use Rattle.std.specs.Prelude.{if◌then◌else◌, slice_index}
use Rattle.std.proofs.lemmas.Bool.{cases_eq, cases_lt, lt-ltb, ltb-true, le-ltb}
use Rattle.std.proofs.lemmas.Nat.{pow_pos}
use Rattle.std.proofs.Math.Nat.{zero-mod, zero-div}
use Rattle.isp_base.specs.Arguments.{rows, row_bits, rows_now, tabulate}
use Rattle.isp_base.specs.Maps.{Lanes, put}
use Rattle.isp_base.specs.Outcomes as outcomes
use Rattle.isp_base.specs.Prefixes.{IsPrefix}
use Rattle.isp_base.specs.Rows.{Row}
use Rattle.isp_base.specs.Sets.{everyone, nobody}
use Rattle.isp_base.specs.declared.signature.Argument.{Argument}
use Rattle.isp_base.specs.declared.trap.Trap.{Trap}
use Rattle.isp_base.specs.declared.types.Elem.{Elem}
use Rattle.isp_base.specs.declared.types.Elem.TheVariants.{Bool as Truth, I8, U8, I16, U16, I32, U32, I64, U64}
use Rattle.isp_base.specs.declared.types.Value.{Value}
use Rattle.isp_code.specs.Calls.{shared_sizes}
use Rattle.isp_code.specs.Conf as machine
use Rattle.isp_code.specs.Conf.{Conf}
use Rattle.isp_code.specs.Registers.{passed}
use Rattle.isp_code.specs.Machine.{after, outcome}
use Rattle.isp_forms.specs.Runs.{all_kept, AreHarmless}
use Rattle.isp_forms.proofs.Runs.{kept_run}
use Rattle.isp_wasm_meaning.specs.Digits.{digit}
use Rattle.isp_wasm_meaning.specs.Syntax.{I8x16, Code, Skip, Then, Set, Const128, GetGlobal}
use Rattle.isp_wasm_meaning.specs.Meaning.{State, Result, Fell, Returned, Trapped, run, left, called, then_to, set_local, lane, flags}
use Rattle.isp_wasm.specs.Places as place
use Rattle.isp_wasm.specs.Places.{Setting, Place, Counter, gang, parts}
use Rattle.isp_wasm.specs.Lanes.{store_at}
use Rattle.isp_wasm.specs.Rows.{cell}
use Rattle.isp_wasm.specs.Templates.{each, mask_part, function_code, begin_code, routine_code}
use Rattle.isp_wasm.specs.Stack.{none_open, has_call, uses_stack, start, bytes_in, waiting_bytes, bottom, opened_memory}
use Rattle.isp_wasm.specs.Standing.{all_of, shared_of, Holds, Stands, Keeps, IsFull, IsSettled, report_of}
use Rattle.isp_wasm.specs.Thin.{IsCovered, AllThin}
use Rattle.isp_wasm.specs.Agreement.{Agrees, CallsAgree, out_of, value_bits}
use Rattle.isp_wasm.specs.Entry.{entry_code, first, IsPassed, IsCalled, Shows, ReturnsSo, TrapsSo, SameOutcomes, EntriesAgree}
use Rattle.isp_wasm.proofs.Frames.{put_same, put_other, there, elsewhere}
use Rattle.isp_wasm.proofs.Rows.{enough, row_constant}
use Rattle.isp_wasm.proofs.Agreement.{functions_agree, full_itself}
use Rattle.isp_wasm.proofs.Shared.{beside_shared}
use Rattle.isp_wasm.proofs.Opening.{which_array, IsOpen, IsEntered, Starts, starts}

pub digit_zero : (b k : ℕ) → 0 < b → digit b k 0 ≡ 0
unfolding digit
digit_zero b zero h = zero-mod b
digit_zero b (suc k) h = ap (digit b k) (zero-div b) ∙ digit_zero b k h

pub no_cell : (t : Elem) → 0 ≡ cell t 0
no_cell Truth = refl
no_cell I8 = refl
no_cell U8 = refl
no_cell I16 = refl
no_cell U16 = refl
no_cell I32 = refl
no_cell U32 = refl
no_cell I64 = refl
no_cell U64 = refl

byte_below : (b : Bool) → flags 8 b < 256
byte_below true = lit≤ tt
byte_below false = lit≤ tt

-- ---- arrays as lists

tabulate_at : (n e : ℕ) (f : Lanes) → e < n → slice_index (tabulate n f) e ≡ f e
tabulate_at zero e f h = absurd (omega arith)
tabulate_at (suc n) zero f h = refl
tabulate_at (suc n) (suc e) f h = tabulate_at n e (λ i. f (suc i)) (omega arith)

tabulate_long : (n : ℕ) (f : Lanes) → length (tabulate n f) ≡ n
tabulate_long zero f = refl
tabulate_long (suc n) f = ap suc (tabulate_long n (λ i. f (suc i)))

now_long : (rs : List Row) (f : ℕ → Lanes) (b : ℕ) → length (row_bits (rows_now rs f) b) ≡ length (row_bits rs b)
now_long [] f b = refl
now_long (r ∷ rs) f zero = tabulate_long (length r.bits) (f 0)
now_long (r ∷ rs) f (suc b) = now_long rs (λ b. f (suc b)) b

now_at : (rs : List Row) (f : ℕ → Lanes) (b e : ℕ) → e < length (row_bits rs b) → slice_index (row_bits (rows_now rs f) b) e ≡ f b e
now_at [] f b e h = absurd (omega arith)
now_at (r ∷ rs) f zero e h = tabulate_at (length r.bits) e (f 0) h
now_at (r ∷ rs) f (suc b) e h = now_at rs (λ b. f (suc b)) b e h

pub some_row : (rs : List Row) (b e : ℕ) → e < length (row_bits rs b) → b < length rs
some_row [] b e h = absurd (omega arith)
some_row (r ∷ rs) zero e h = omega arith
some_row (r ∷ rs) (suc b) e h = let lt = some_row rs b e h in omega arith

module _ (w : Setting) (ready : IsSettled w) where
  -- ---- all lanes on

  all_on : ℕ → State → State
  all_on zero s = s
  all_on (suc n) s = set_local (w.local (place.Mask 0 n)) (mask_part (everyone (gang w)) n % 2 ^ 128) (all_on n s)

  runs_on : (fuel : ℕ) (call : ℕ → List ℕ → State → Result) (n : ℕ) (s : State) → run fuel call (each n (λ j. Set (w.local (place.Mask 0 j)) (Const128 (mask_part (everyone (gang w)) j)))) s ≡ Fell (all_on n s)
  unfolding all_on
  runs_on fuel call zero s = refl
  runs_on fuel call (suc n) s = ap (λ r. then_to r (run fuel call (Set (w.local (place.Mask 0 n)) (Const128 (mask_part (everyone (gang w)) n))))) (runs_on fuel call n s)

  on_rest : (n : ℕ) (s : State) → ((all_on n s).memory ≡ s.memory) × ((all_on n s).size ≡ s.size) × ((all_on n s).out ≡ s.out)
  unfolding all_on
  on_rest zero s = (refl, refl, refl)
  on_rest (suc n) s = on_rest n s

  on_other : (n : ℕ) (s : State) (p : Place) → ((j : ℕ) → j < n → p ≡ place.Mask 0 j → ⊥) → (all_on n s).locals (w.local p) ≡ s.locals (w.local p)
  unfolding all_on
  on_other zero s p out = refl
  on_other (suc n) s p out = elsewhere w ready (place.Mask 0 n) p (mask_part (everyone (gang w)) n % 2 ^ 128) (all_on n s) (out n (omega arith)) ∙ on_other n s p (λ j l. out j (omega arith))

  on_set : (n j : ℕ) (s : State) → j < n → (all_on n s).locals (w.local (place.Mask 0 j)) ≡ mask_part (everyone (gang w)) j % 2 ^ 128
  unfolding all_on
  on_set zero j s h = absurd (omega arith)
  on_set (suc n) j s h = by (cases_eq j n) (λ lt. on_set n j s lt)
    where
      by : (j ≡ n) ⊎ (j ≡ n → ⊥) → (j < n → (all_on n s).locals (w.local (place.Mask 0 j)) ≡ mask_part (everyone (gang w)) j % 2 ^ 128)
          → (set_local (w.local (place.Mask 0 n)) (mask_part (everyone (gang w)) n % 2 ^ 128) (all_on n s)).locals (w.local (place.Mask 0 j)) ≡ mask_part (everyone (gang w)) j % 2 ^ 128
      by (inl e) before =
          ap (λ i. (set_local (w.local (place.Mask 0 n)) (mask_part (everyone (gang w)) n % 2 ^ 128) (all_on n s)).locals (w.local (place.Mask 0 i))) e
          ∙ there w ready (place.Mask 0 n) (mask_part (everyone (gang w)) n % 2 ^ 128) (all_on n s) ∙ ap (λ i. mask_part (everyone (gang w)) i % 2 ^ 128) (sym e)
      by (inr ne) before =
          elsewhere w ready (place.Mask 0 n) (place.Mask 0 j) (mask_part (everyone (gang w)) n % 2 ^ 128) (all_on n s) (λ e. ne cc)
          ∙ before (let other : j ≢ n = ne in omega arith)

  -- ---- where the next array lies

  opened_if : Bool → State → State
  opened_if true s = set_local (w.local place.Top) (s.globals 17) s
  opened_if false s = s

  opened : State → State
  opened s = opened_if (uses_stack w.routine) s

  runs_opened : (fuel : ℕ) (call : ℕ → List ℕ → State → Result) (b : Bool) (s : State) → run fuel call (if b then GetGlobal (w.local place.Top) 17 else Skip) s ≡ Fell (opened_if b s)
  unfolding opened_if
  runs_opened fuel call true s = refl
  runs_opened fuel call false s = refl

  opened_rest : (b : Bool) (s : State) → ((opened_if b s).memory ≡ s.memory) × ((opened_if b s).size ≡ s.size) × ((opened_if b s).out ≡ s.out)
  unfolding opened_if
  opened_rest true s = (refl, refl, refl)
  opened_rest false s = (refl, refl, refl)

  opened_other : (b : Bool) (s : State) (p : Place) → (p ≡ place.Top → ⊥) → (opened_if b s).locals (w.local p) ≡ s.locals (w.local p)
  unfolding opened_if
  opened_other true s p ne = elsewhere w ready place.Top p (s.globals 17) s ne
  opened_other false s p ne = refl

  opened_top : (b : Bool) (s : State) → s.locals (w.local place.Top) ≡ 0 → (opened_if b s).locals (w.local place.Top) ≡ start (if b then Some (s.globals 17) else None)
  unfolding opened_if
  opened_top true s none = there w ready place.Top (s.globals 17) s
  opened_top false s none = none

  -- ---- the first state

  module _ (xs : List Argument) (arguments : List ℕ) (s : State) (call_is : IsCalled w xs arguments s) where
    called_at : State
    called_at = record s { locals = slice_index arguments }

    entered : State
    entered = opened called_at

    begun : State
    begun = all_on (parts w I8x16) entered

    mask_lanes : (r j k : ℕ) → k < 16 → (r ≡ 0) ⊎ (r ≡ 0 → ⊥) → (j < parts w I8x16) ⊎ (parts w I8x16 ≤ j)
        → lane I8x16 k (begun.locals (w.local (place.Mask r j))) ≡ flags 8 (put (λ k. nobody) 0 (everyone (gang w)) r (j * 16 + k))
    unfolding begun entered opened called_at
    mask_lanes r j k l (inl e) (inl lt) =
        subst (λ r. lane I8x16 k (begun.locals (w.local (place.Mask r j))) ≡ flags 8 (put (λ k. nobody) 0 (everyone (gang w)) r (j * 16 + k))) (sym e)
        (ap (lane I8x16 k) (on_set (parts w I8x16) j entered lt) ∙ row_constant (j * 16 + 16) I8x16 (λ x. x) (λ p. flags 8 (everyone (gang w) p)) (λ p q. byte_below (everyone (gang w) p)) j k l (omega arith))
    mask_lanes r j k l (inl e) (inr le) =
        subst (λ r. lane I8x16 k (begun.locals (w.local (place.Mask r j))) ≡ flags 8 (put (λ k. nobody) 0 (everyone (gang w)) r (j * 16 + k))) (sym e)
        (ap (lane I8x16 k) (on_other (parts w I8x16) entered (place.Mask 0 j) (λ i l e. let same : j ≡ i = cc in omega arith) ∙ opened_other (uses_stack w.routine) called_at (place.Mask 0 j) (λ e. cc) ∙ call_is.masks_are 0 j) ∙ digit_zero 256 k (lit≤ tt)
        ∙ ap (flags 8) (sym (le-ltb (j * 16 + k) (gang w) (past (cases_lt (j * 16 + k) (gang w))))))
      where
        past : (j * 16 + k < gang w) ⊎ (gang w ≤ j * 16 + k) → gang w ≤ j * 16 + k
        past (inl lt) = absurd (let some = enough w I8x16 j k lt in omega arith)
        past (inr ge) = ge
    mask_lanes r j k l (inr ne) h =
        ap (lane I8x16 k) (on_other (parts w I8x16) entered (place.Mask r j) (λ i l e. ne cc) ∙ opened_other (uses_stack w.routine) called_at (place.Mask r j) (λ e. cc) ∙ call_is.masks_are r j) ∙ digit_zero 256 k (lit≤ tt)
        ∙ ap (λ f. flags 8 (f (j * 16 + k))) (sym (put_other (λ k. nobody) 0 (everyone (gang w)) r ne))

    member_low : (r p : ℕ) → (r ≡ 0) ⊎ (r ≡ 0 → ⊥) → put (λ k. nobody) 0 (everyone (gang w)) r p ≡ true → p < gang w
    member_low r p (inl e) h = ltb-true p (gang w) (sym (ap (λ f. f p) (put_same (λ k. nobody) 0 (everyone (gang w)) r e)) ∙ h)
    member_low r p (inr ne) h = absurd (let impossible : false ≡ true = sym (ap (λ f. f p) (put_other (λ k. nobody) 0 (everyone (gang w)) r ne)) ∙ h in cc)

    same_as_called : (p : Place) → ((j : ℕ) → p ≡ place.Mask 0 j → ⊥) → (p ≡ place.Top → ⊥) → begun.locals (w.local p) ≡ slice_index arguments (w.local p)
    unfolding begun entered opened called_at
    same_as_called p out ne = on_other (parts w I8x16) entered p (λ j l. out j) ∙ opened_other (uses_stack w.routine) called_at p ne

    at_bottom : start (if uses_stack w.routine then Some (s.globals 17) else None) ≡ bottom w
    at_bottom =
        let here = ap start call_is.stack_is in
        let alone = ap (waiting_bytes w.code) call_is.alone in omega (arith, here, alone)

    has_stack : (a b : Bool) → b ≡ false → (n : ℕ) × ((if a || not b then Some (s.globals 17) else None) ≡ Some n)
    has_stack true b e = (s.globals 17, refl)
    has_stack false false e = (s.globals 17, refl)
    has_stack false true e = absurd cc

    stacked : none_open w.routine.locals ≡ false → (n : ℕ) × (w.stack ≡ Some n)
    stacked e = let has = has_stack (has_call w.routine) (none_open w.routine.locals) e in (has.0, call_is.stack_is ∙ has.1)

    module _ (m : ℕ → ℕ) (o : IsOpen w w.routine.locals (passed w.routine) (bottom w) begun.locals m) where
      other : (p : Place) → (p ≡ place.Top → ⊥) → ((i : ℕ) → i < length w.routine.locals → p ≡ place.Base (passed w.routine + i) → ⊥) → ((i : ℕ) → i < length w.routine.locals → p ≡ place.Count (passed w.routine + i) → ⊥)
          → m (w.local p) ≡ begun.locals (w.local p)
      other p x y z = o.others p x y z

      base_holds : (a : ℕ) → ((i : ℕ) × (a ≡ passed w.routine + i) × (i < length w.routine.locals)) ⊎ IsPassed w a → m (w.local (place.Base a)) ≡ w.begins (store_at w a 0)
      base_holds a (inl (i, e, lt)) = subst (λ n. m (w.local (place.Base n)) ≡ w.begins (store_at w n 0)) (sym e) (o.bases i lt ∙ sym (call_is.own_bases i lt))
      base_holds a (inr out) = other (place.Base a) (λ e. cc) (λ i lt e. out i lt cc) (λ i lt e. cc) ∙ same_as_called (place.Base a) (λ j e. cc) (λ e. cc) ∙ call_is.bases a out

      count_holds : (a : ℕ) → ((i : ℕ) × (a ≡ passed w.routine + i) × (i < length w.routine.locals)) ⊎ IsPassed w a → m (w.local (place.Count a)) ≡ w.sizes (store_at w a 0)
      count_holds a (inl (i, e, lt)) = subst (λ n. m (w.local (place.Count n)) ≡ w.sizes (store_at w n 0)) (sym e) (o.counts i lt ∙ sym (call_is.own_counts i lt))
      count_holds a (inr out) = other (place.Count a) (λ e. cc) (λ i lt e. cc) (λ i lt e. out i lt cc) ∙ same_as_called (place.Count a) (λ j e. cc) (λ e. cc) ∙ call_is.counts a out

      holds : Holds w (first w xs).scalars (first w xs).vectors (first w xs).masks m
      unfolding begun
      holds =
          record {
            scalars_are = λ r. other (place.Scalar r) (λ e. cc) (λ i lt e. cc) (λ i lt e. cc) ∙ same_as_called (place.Scalar r) (λ j e. cc) (λ e. cc) ∙ call_is.scalars_are r;
            vectors_are = λ r j k l q. ap (lane _ k) (other (place.Vector r j) (λ e. cc) (λ i lt e. cc) (λ i lt e. cc) ∙ same_as_called (place.Vector r j) (λ j e. cc) (λ e. cc) ∙ call_is.vectors_are r j) ∙ digit_zero _ k (pow_pos _) ∙ no_cell _;
            masks_are = λ r j k l. ap (lane I8x16 k) (other (place.Mask r j) (λ e. cc) (λ i lt e. cc) (λ i lt e. cc)) ∙ mask_lanes r j k l (cases_eq r 0) (cases_lt j (parts w I8x16));
            fits = call_is.fits;
            members = λ r p h. member_low r p (cases_eq r 0) h;
            bases = λ a. base_holds a (which_array a (passed w.routine) (length w.routine.locals));
            counts = λ a. count_holds a (which_array a (passed w.routine) (length w.routine.locals));
            depth = other place.Depth (λ e. cc) (λ i lt e. cc) (λ i lt e. cc) ∙ same_as_called place.Depth (λ j e. cc) (λ e. cc) ∙ call_is.depth_is ∙ sym (ap length call_is.alone);
            top_is = o.top_is;
          }

    memory_is : begun.memory ≡ s.memory
    unfolding begun entered opened called_at
    memory_is = (on_rest (parts w I8x16) entered).0 ∙ (opened_rest (uses_stack w.routine) called_at).0

    size_is : begun.size ≡ s.size
    unfolding begun entered opened called_at
    size_is = (on_rest (parts w I8x16) entered).1 ∙ (opened_rest (uses_stack w.routine) called_at).1

    is_entered : IsEntered w ready (first w xs) begun
    unfolding begun entered opened called_at
    is_entered =
        record {
          home_is = call_is.home_is;
          waiting_is = sym call_is.alone;
          pc_is = refl;
          out_is = (on_rest (parts w I8x16) entered).2 ∙ (opened_rest (uses_stack w.routine) called_at).2 ∙ call_is.silent;
          top_is = on_other (parts w I8x16) entered place.Top (λ j l e. cc) ∙ opened_top (uses_stack w.routine) called_at call_is.top_zero ∙ at_bottom;
          few = call_is.few;
          small = subst (λ n. n ≤ 2 ^ 32) (sym size_is) call_is.small;
          whole = size_is ∙ call_is.whole;
          stacked = stacked;
          holds = λ m o. holds m o;
          keeps = λ room. subst (λ m. Keeps w (all_of w (first w xs)) (opened_memory (gang w) (bottom w) w.routine.locals m) begun.size) (sym memory_is)
              (subst (λ z. Keeps w (all_of w (first w xs)) (opened_memory (gang w) (bottom w) w.routine.locals s.memory) z) (sym size_is) (call_is.keeps (λ e. subst (λ n. bottom w + bytes_in (gang w) w.routine.locals < n) size_is (room e))));
        }

    counter_at : begun.locals (w.local Counter) ≡ 0
    counter_at = same_as_called Counter (λ j e. cc) (λ e. cc) ∙ call_is.counter_is

    -- ---- its outcomes

    module _ (covered : IsCovered w) (thin : AllThin w) (module_code : ℕ → Code) (f : ℕ) (code_is : module_code f ≡ entry_code w) (right : (n : ℕ) → CallsAgree w n (called module_code n)) (harmless : AreHarmless w.code w.forms (first w xs)) (roomy : IsFull w all_kept (first w xs) → ⊥) where
      calls_of : ℕ → ℕ → List ℕ → State → Result
      calls_of zero = called module_code zero
      calls_of (suc n) = called module_code n

      -- there is room for its arrays
      begins_so : Starts w ready (first w xs) begun
      begins_so = by (starts w ready (first w xs) begun is_entered)
        where
          by : Starts w ready (first w xs) begun ⊎ (((fuel : ℕ) (call : ℕ → List ℕ → State → Result) → run fuel call (begin_code w w.routine.locals) begun ≡ Trapped None begun) × IsFull w w.forms (first w xs)) → Starts w ready (first w xs) begun
          by (inl b) = b
          by (inr none) = absurd (roomy (full_itself w (first w xs) harmless none.1))

      abbrev there_state : State
      there_state = begins_so.state

      counter_there : there_state.locals (w.local Counter) ≡ 0
      counter_there = begins_so.counter ∙ counter_at

      agrees : Agrees w (first w xs) (λ n. left (run n (calls_of n) (function_code w) there_state))
      unfolding calls_of
      agrees =
          functions_agree w ready covered thin call_is.alone call_is.no_vector calls_of right (first w xs) there_state (subst (λ z. z < w.rungs) (sym counter_there) call_is.some)
          (subst (λ z. Stands w z (first w xs) there_state) (sym (ap w.heads counter_there ∙ call_is.head_is)) begins_so.stands) harmless roomy

      result_is : (n : ℕ) → called module_code (suc n) f arguments s ≡ left (run (suc n) (calls_of (suc n)) (function_code w) there_state)
      unfolding begun entered opened called_at calls_of
      result_is n =
          ap (λ z. left (run (suc n) (called module_code n) z called_at)) code_is
          ∙ ap (λ r. left (then_to r (run (suc n) (called module_code n) (Then (each (parts w I8x16) (λ j. Set (w.local (place.Mask 0 j)) (Const128 (mask_part (everyone (gang w)) j)))) (routine_code w))))) (runs_opened (suc n) (called module_code n) (uses_stack w.routine) called_at)
          ∙ ap (λ r. left (then_to r (run (suc n) (called module_code n) (routine_code w)))) (runs_on (suc n) (called module_code n) (parts w I8x16) entered)
          ∙ ap (λ r. left (then_to r (run (suc n) (called module_code n) (function_code w)))) (begins_so.fell (suc n) (called module_code n))

      sizes_are : (b e : ℕ) → e < length (row_bits (rows xs) b) → e < w.home.sizes b
      sizes_are b e h =
          subst (λ z. e < z.sizes b) call_is.home_is (subst (λ t. e < (if t then length (row_bits (rows xs) b) else slice_index (shared_sizes w.routine.locals) (b - length (rows xs)))) (sym (lt-ltb b (length (rows xs)) (some_row (rows xs) b e h))) h)

      shows : (c : Conf) (u : State) → Keeps (shared_of w) c.arrays u.memory u.size → Shows w (rows_now (rows xs) c.arrays) u
      shows c u keeps =
          record {
            elements = λ b e h. (let low : e < length (row_bits (rows xs) b) = subst (λ n. e < n) (now_long (rows xs) c.arrays b) h in keeps.elements b e (sizes_are b e low) ∙ sym (now_at (rows xs) c.arrays b e low));
            beside = λ a h. keeps.rest a (beside_shared w ready a h);
          }

      ends_at : (m : ℕ) (rs : List Row) (x : Option Value) (out : List ℕ) (z : machine.State) → after w.code m (machine.Runs (first w xs)) ≡ z → outcome (rows xs) z ≡ outcomes.Ends rs x out
          → ReturnsSo w rs x out (called module_code (suc m) f arguments s)
      ends_at m rs x out (machine.Ended y d) e is =
          let rows_are : rows_now (rows xs) d.arrays ≡ rs = cc in
          let value_is : y ≡ x = cc in
          let out_is : d.out ≡ out = cc in
          let r = agrees.ends m y d e in
          record { state = r.state; is = result_is m ∙ r.is ∙ ap (λ z. Returned (value_bits z) r.state) value_is; out_is = r.out_is ∙ out_is; shows = subst (λ z. Shows w z r.state) rows_are (shows d r.state r.keeps) }
      ends_at m rs x out (machine.Runs d) e is = absurd cc
      ends_at m rs x out (machine.Trapped t d) e is = absurd cc

      traps_at : (m : ℕ) (t : Trap) (rs : List Row) (out : List ℕ) (z : machine.State) → after w.code m (machine.Runs (first w xs)) ≡ z → outcome (rows xs) z ≡ outcomes.Traps t rs out
          → TrapsSo w t rs out (called module_code (suc m) f arguments s)
      traps_at m t rs out (machine.Trapped u d) e is =
          let rows_are : rows_now (rows xs) d.arrays ≡ rs = cc in
          let trap_is : u ≡ t = cc in
          let out_is : d.out ≡ out = cc in
          let r = agrees.traps m u d e in
          record { state = r.state; is = result_is m ∙ r.is ∙ ap (λ z. Trapped (Some (report_of w z)) r.state) trap_is; out_is = r.out_is ∙ out_is; shows = subst (λ z. Shows w z r.state) rows_are (shows d r.state r.keeps) }
      traps_at m t rs out (machine.Runs d) e is = absurd cc
      traps_at m t rs out (machine.Ended x d) e is = absurd cc

      written_at : (m : ℕ) (out : List ℕ) (z : machine.State) → after w.code m (machine.Runs (first w xs)) ≡ z → outcome (rows xs) z ≡ outcomes.GoesOn out → IsPrefix out (out_of (called module_code m f arguments s))
      written_at zero out z e is =
          let none : outcomes.GoesOn [] ≡ outcomes.GoesOn out = ap (outcome (rows xs)) e ∙ is in
          let same : [] ≡ out = cc in subst (λ o. IsPrefix o s.out) same (s.out, refl)
      written_at (suc m) out (machine.Runs d) e is =
          let same : d.out ≡ out = cc in subst (λ r. IsPrefix out (out_of r)) (sym (result_is m)) (subst (λ o. IsPrefix o (out_of (left (run (suc m) (calls_of (suc m)) (function_code w) there_state)))) same (agrees.so_far (suc m) d e))
      written_at (suc m) out (machine.Trapped t d) e is = absurd cc
      written_at (suc m) out (machine.Ended x d) e is = absurd cc

      same_outcomes : SameOutcomes w xs (λ n. called module_code n f arguments s)
      same_outcomes =
          record {
            ends = λ m rs x out is. ends_at m rs x out (after w.code m (machine.Runs (first w xs))) refl is;
            traps = λ m t rs out is. traps_at m t rs out (after w.code m (machine.Runs (first w xs))) refl is;
            ends_only = λ n v u e. (let h = agrees.ends_only (suc n) v u (sym (result_is n) ∙ e) in let r = h.2 in
                (r.steps, rows_now (rows xs) (r.conf).arrays, h.0, ap (outcome (rows xs)) r.ends ∙ ap (outcomes.Ends (rows_now (rows xs) (r.conf).arrays) h.0) (sym r.out_is), h.1, shows r.conf u r.keeps));
            traps_only = λ n q u e. (let h = agrees.traps_only (suc n) q u (sym (result_is n) ∙ e) in let r = h.2 in
                (r.steps, rows_now (rows xs) (r.conf).arrays, r.trap, ap (outcome (rows xs)) (kept_run w.code r.steps (machine.Runs (first w xs)) (machine.Trapped r.trap r.conf) r.fails) ∙ ap (outcomes.Traps r.trap (rows_now (rows xs) (r.conf).arrays)) (sym r.out_is), h.1 ∙ ap Some r.report_is, shows r.conf u r.keeps));
            so_far = λ m out is. written_at m out (after w.code m (machine.Runs (first w xs))) refl is;
            goes_on = λ n u e. (let r = agrees.goes_on (suc n) u (sym (result_is n) ∙ e) in (r.steps, r.far, ap (outcome (rows xs)) (kept_run w.code r.steps (machine.Runs (first w xs)) (machine.Runs r.conf) r.goes) ∙ ap outcomes.GoesOn (sym r.out_is)));
          }

pub entries_agree : EntriesAgree
entries_agree w ready covered thin module_code f code_is right xs arguments s call_is harmless roomy = same_outcomes w ready xs arguments s call_is covered thin module_code f code_is right harmless roomy
