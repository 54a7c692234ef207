-- From the loop's result to the machine's runs and back: a machine that has stopped stays, so it stopped where the result says.
use Rattle.std.proofs.Common.{◌≡◌, ℕ, zero, suc, ◌+◌, ◌-◌, ◌≤◌, ◌<◌, ◌⊎◌, inl, inr, List, [], ◌∷◌, ◌++◌, map, Option, Some, None, false, refl, sym, ap, ap₂, ◌∙◌, subst, arith, append_assoc, append-nil}
use Rattle.std.proofs.lemmas.Bool.{cases_lt}
use Rattle.isp_base.specs.Prefixes.{IsPrefix}
use Rattle.isp_base.specs.declared.trap.Trap.{Trap}
use Rattle.isp_base.specs.declared.types.Value.{Value}
use Rattle.isp_code.specs.Conf as machine
use Rattle.isp_code.specs.Conf.{Conf, Frame, Home, Move, Go, Say, Fail, Over}
use Rattle.isp_code.specs.Calls as calls
use Rattle.isp_code.specs.Listing.{Listing}
use Rattle.isp_code.specs.Fine.{IsGiven}
use Rattle.isp_code.specs.declared.function.Returns.{Returns as Gives}
use Rattle.isp_code.specs.declared.function.Returns.TheVariants.{Nothing, Scalar as GivesScalar, Vector as GivesVector}
use Rattle.isp_code.specs.declared.register.Register.{Register}
use Rattle.isp_verify.specs.Faults.{gives_vector}
use Rattle.isp_code.specs.Machine.{after, advance, arrive, step}
use Rattle.isp_code.proofs.Steps.{after-sum}
use Rattle.isp_forms.specs.Runs.{all_kept, IsRun, LooksLike, StatesLook, AreHarmless}
use Rattle.isp_forms.proofs.Runs.{own_run, kept_run}
use Rattle.isp_wasm_meaning.specs.Meaning.{Report, State, Result, Fell, Branched, Returned, Trapped, OutOfFuel, run, left}
use Rattle.isp_wasm_meaning.specs.Ladder.{Whole, Told}
use Rattle.isp_wasm.specs.Places.{Setting, Counter}
use Rattle.isp_wasm.specs.Stack.{function_bytes, waiting_bytes, open_bytes}
use Rattle.isp_wasm.specs.Templates.{function_code}
use Rattle.isp_wasm.specs.Standing.{shared_of, bits_by, bits_of, Keeps, Ends, Fails, Cut, IsFull, the_machine, report_of}
use Rattle.isp_wasm.specs.Agreement.{Returns, Reports, Agrees, FunctionsAgree, CallsAgree, ComesBack, CallsComeBack, out_of, value_bits}
use Rattle.isp_wasm.proofs.Chains.{function_runs}

-- ---- a machine that has stopped

abbrev pub HasStopped : machine.State → Type 0
HasStopped (machine.Runs c) = ⊥
HasStopped z = Unit {0}

abbrev pub out_in : machine.State → List ℕ
out_in (machine.Runs c) = c.out
out_in (machine.Trapped t c) = c.out
out_in (machine.Ended x c) = c.out

module _ (code : Listing) where
  stays_once : (z : machine.State) → HasStopped z → advance code z ≡ z
  stays_once (machine.Runs c) h = absurd h
  stays_once (machine.Trapped t c) h = refl
  stays_once (machine.Ended x c) h = refl

  stays : (j : ℕ) (z : machine.State) → HasStopped z → after code j z ≡ z
  stays zero z h = refl
  stays (suc j) z h = ap (advance code) (stays j z h) ∙ stays_once z h

  -- from there on
  later : (a b : ℕ) (s z : machine.State) → after code a s ≡ z → HasStopped z → a ≤ b → after code b s ≡ z
  later a b s z e h le =
      ap (λ n. after code n s) (let split : b ≡ b - a + a = omega arith in split) ∙ after-sum code (b - a) a s ∙ ap (after code (b - a)) e ∙ stays (b - a) z h

  order : (a b : ℕ) → (a ≤ b) ⊎ (b ≤ a)
  order a b = elim (cases_lt a b) [ inl lt ↦ inl (omega arith) | inr le ↦ inr le ]

  one_end : (a b : ℕ) (s y z : machine.State) → after code a s ≡ y → after code b s ≡ z → HasStopped y → HasStopped z → y ≡ z
  one_end a b s y z e f h g =
      elim (order a b) [ inl le ↦ sym (later a b s y e h le) ∙ f | inr le ↦ sym e ∙ later b a s z f g le ]

  runs_before : (a b : ℕ) (s z : machine.State) (d : Conf) → after code a s ≡ machine.Runs d → after code b s ≡ z → HasStopped z → a < b
  runs_before a b s z d e f h =
      elim (cases_lt a b) [ inl lt ↦ lt | inr le ↦ absurd (subst HasStopped (sym (later b a s z f h le) ∙ e) h) ]

  prefix_on : (a b c : List ℕ) → IsPrefix a b → IsPrefix b c → IsPrefix a c
  prefix_on a b c p q = (p.0 ++ q.0, sym (append_assoc a p.0 q.0) ∙ ap (λ x. x ++ q.0) p.1 ∙ q.1)

  grows_by : (mv : Move) (c : Conf) → IsPrefix c.out (out_in (arrive code mv c))
  grows_by (Go c1) c = ([], append-nil c.out)
  grows_by (Say text c1) c = (text, refl)
  grows_by (Fail t) c = ([], append-nil c.out)
  grows_by (Over x) c = ([], append-nil c.out)

  grows_once : (z : machine.State) → IsPrefix (out_in z) (out_in (advance code z))
  grows_once (machine.Runs c) = grows_by (step code c) c
  grows_once (machine.Trapped t c) = ([], append-nil c.out)
  grows_once (machine.Ended x c) = ([], append-nil c.out)

  grows : (d : ℕ) (z : machine.State) → IsPrefix (out_in z) (out_in (after code d z))
  grows zero z = ([], append-nil (out_in z))
  grows (suc d) z = prefix_on (out_in z) (out_in (after code d z)) (out_in (after code (suc d) z)) (grows d z) (grows_once (after code d z))

  grown : (a b : ℕ) (s z : machine.State) (d : Conf) → a ≤ b → after code a s ≡ machine.Runs d → after code b s ≡ z → IsPrefix d.out (out_in z)
  grown a b s z d le e f =
      let split : b ≡ b - a + a = omega arith in
      subst (λ y. IsPrefix d.out (out_in y)) (sym (ap (after code (b - a)) e) ∙ sym (after-sum code (b - a) a s) ∙ sym (ap (λ n. after code n s) split) ∙ f) (grows (b - a) (machine.Runs d))

-- ---- a run by forms, where nobody can tell it from the machine's

pub record SeenTrap (z : machine.State) (t : Trap) (d : Conf) : Type 0 where
  pub conf : Conf
  pub is : z ≡ machine.Trapped t conf
  pub looks : LooksLike conf d

pub record SeenEnd (z : machine.State) (x : Option Value) (d : Conf) : Type 0 where
  pub conf : Conf
  pub is : z ≡ machine.Ended x conf
  pub looks : LooksLike conf d

pub record SeenRun (z : machine.State) (d : Conf) : Type 0 where
  pub conf : Conf
  pub is : z ≡ machine.Runs conf
  pub looks : LooksLike conf d

seen_trap : (z : machine.State) (t : Trap) (d : Conf) → StatesLook z (machine.Trapped t d) → SeenTrap z t d
seen_trap (machine.Runs e) t d h = absurd h
seen_trap (machine.Trapped u e) t d h = record { conf = e; is = ap (λ v. machine.Trapped v e) h.0; looks = h.1 }
seen_trap (machine.Ended x e) t d h = absurd h

seen_end : (z : machine.State) (x : Option Value) (d : Conf) → StatesLook z (machine.Ended x d) → SeenEnd z x d
seen_end (machine.Runs e) x d h = absurd h
seen_end (machine.Trapped u e) x d h = absurd h
seen_end (machine.Ended y e) x d h = record { conf = e; is = ap (λ v. machine.Ended v e) h.0; looks = h.1 }

seen_run : (z : machine.State) (d : Conf) → StatesLook z (machine.Runs d) → SeenRun z d
seen_run (machine.Runs e) d h = record { conf = e; is = refl; looks = h }
seen_run (machine.Trapped u e) d h = absurd h
seen_run (machine.Ended y e) d h = absurd h

-- the arrays that are open have as many bytes
module _ (code : Listing) where
  abbrev bytes_by : List Home → ℕ
  bytes_by [] = 0
  bytes_by (h ∷ hs) = bytes_by hs + function_bytes code h.fn

  waiting_by : (fs : List Frame) → waiting_bytes code fs ≡ bytes_by (map (λ (fr : Frame). fr.home) fs)
  waiting_by [] = refl
  waiting_by (fr ∷ fs) = ap (λ n. n + function_bytes code fr.home.fn) (waiting_by fs)

  same_bytes : (c d : Conf) → LooksLike c d → open_bytes code d ≡ open_bytes code c
  same_bytes c d h =
      ap₂ (λ a b. a + b) (waiting_by d.waiting ∙ ap bytes_by h.waiting_is ∙ sym (waiting_by c.waiting)) (ap (λ (o : Home). function_bytes code o.fn) h.home_is)

pub full_itself : (w : Setting) (c : Conf) → AreHarmless w.code w.forms c → IsFull w w.forms c → IsFull w all_kept c
full_itself w c harmless h =
    let e = seen_run (after w.code h.steps (machine.Runs c)) h.conf (harmless h.steps (machine.Runs h.conf) h.goes) in
    record {
      conf = e.conf;
      steps = h.steps;
      goes = own_run w.code all_kept h.steps (machine.Runs c) (machine.Runs e.conf) e.is;
      address = h.address;
      stack_is = h.stack_is;
      full = subst (λ n. w.room ≤ h.address + n) (same_bytes w.code e.conf h.conf e.looks) h.full;
    }

-- ---- what the result of a function says of the machine

abbrev pub Judged : Setting → ℕ → Conf → Result → Type 0
Judged w f c (Returned v s) = (x : Option Value) × (v ≡ value_bits x) × Ends w c x s
Judged w f c (Trapped (Some q) s) = Fails w all_kept c q s
Judged w f c (OutOfFuel s) = Cut w all_kept f c s
Judged w f c r = ⊥

module _ (w : Setting) (top : w.waiting ≡ []) (scalar : gives_vector w.routine.returns ≡ false) where
  answer_by : (g : Gives) (c : Conf) (x : Register) → gives_vector g ≡ false → IsGiven w.routine g (Some x) → bits_by w x.class c x ≡ Some (c.scalars x.number)
  answer_by Nothing c x none is = absurd is
  answer_by (GivesScalar t) c x none is = ap (λ a. bits_by w a c x) is.0.0
  answer_by (GivesVector t) c x none is = absurd cc

  answer_bits : (c : Conf) (r : Option Register) → IsGiven w.routine w.routine.returns r → bits_of w c r ≡ value_bits (calls.answer w.routine c r)
  answer_bits c None is = refl
  answer_bits c (Some x) is = answer_by w.routine.returns c x scalar is

  judged : (f : ℕ) (c : Conf) → AreHarmless w.code w.forms c → (IsFull w all_kept c → ⊥) → (r : Result) → Whole (the_machine w) (w.local Counter) w.rungs f f c r → Judged w f c (left r)
  judged f c harmless roomy (Fell s) h = absurd (let low = h.stands.low in omega arith)
  judged f c harmless roomy (Branched d s) h = absurd h
  judged f c harmless roomy (Returned v s) h =
      let x = calls.answer w.routine h.conf h.register in
      let run = subst (λ ws. IsRun w.code w.forms h.steps (machine.Runs c) (arrive w.code (calls.left w.routine h.conf h.register ws) h.conf)) top h.leaves in
      let e = seen_end (after w.code h.steps (machine.Runs c)) x h.conf (harmless h.steps (machine.Ended x h.conf) run) in (
        x,
        h.value_is ∙ answer_bits h.conf h.register h.given,
        record { conf = e.conf; steps = h.steps; ends = e.is; out_is = h.out_is ∙ e.looks.out_is; keeps = subst (λ z. Keeps (shared_of w) z s.memory s.size) e.looks.arrays_are h.keeps },
      )
  judged f c harmless roomy (Trapped None s) h = absurd (roomy (full_itself w c harmless h))
  judged f c harmless roomy (Trapped (Some q) s) h =
      let e = seen_trap (after w.code h.steps (machine.Runs c)) h.trap h.conf (harmless h.steps (machine.Trapped h.trap h.conf) h.fails) in
      record {
        conf = e.conf;
        steps = h.steps;
        trap = h.trap;
        fails = own_run w.code all_kept h.steps (machine.Runs c) (machine.Trapped h.trap e.conf) e.is;
        report_is = h.report_is;
        out_is = h.out_is ∙ e.looks.out_is;
        keeps = subst (λ z. Keeps (shared_of w) z s.memory s.size) e.looks.arrays_are h.keeps;
      }
  judged f c harmless roomy (OutOfFuel s) h =
      let e = seen_run (after w.code h.steps (machine.Runs c)) h.conf (harmless h.steps (machine.Runs h.conf) h.goes) in
      record { conf = e.conf; steps = h.steps; goes = own_run w.code all_kept h.steps (machine.Runs c) (machine.Runs e.conf) e.is; far = h.far; out_is = h.out_is ∙ e.looks.out_is }

  -- by forms that are all kept a run is the machine's own
  fails_so : (c : Conf) (q : Report) (s : State) (h : Fails w all_kept c q s) → after w.code h.steps (machine.Runs c) ≡ machine.Trapped h.trap h.conf
  fails_so c q s h = kept_run w.code h.steps (machine.Runs c) (machine.Trapped h.trap h.conf) h.fails

  goes_so : (f : ℕ) (c : Conf) (s : State) (h : Cut w all_kept f c s) → after w.code h.steps (machine.Runs c) ≡ machine.Runs h.conf
  goes_so f c s h = kept_run w.code h.steps (machine.Runs c) (machine.Runs h.conf) h.goes

  ends_there : (m : ℕ) (c : Conf) (x : Option Value) (d : Conf) (r : Result) → Judged w (suc m) c r → after w.code m (machine.Runs c) ≡ machine.Ended x d → Returns w c x d r
  ends_there m c x d (Returned v s) h e =
      let ends = h.2 in
      let same : machine.Ended x d ≡ machine.Ended h.0 ends.conf = one_end w.code m ends.steps (machine.Runs c) (machine.Ended x d) (machine.Ended h.0 ends.conf) e ends.ends tt tt in
      let conf_is : ends.conf ≡ d = cc in
      let value_is : h.0 ≡ x = cc in
      record { state = s; is = ap (λ z. Returned z s) (h.1 ∙ ap value_bits value_is); out_is = ends.out_is ∙ ap (λ z. z.out) conf_is; keeps = subst (λ z. Keeps (shared_of w) z.arrays s.memory s.size) conf_is ends.keeps }
  ends_there m c x d (Trapped (Some q) s) h e =
      let same : machine.Ended x d ≡ machine.Trapped h.trap h.conf = one_end w.code m h.steps (machine.Runs c) (machine.Ended x d) (machine.Trapped h.trap h.conf) e (fails_so c q s h) tt tt in
      absurd cc
  ends_there m c x d (OutOfFuel s) h e = absurd (let lt = runs_before w.code h.steps m (machine.Runs c) (machine.Ended x d) h.conf (goes_so (suc m) c s h) e tt in omega (arith, h.far))
  ends_there m c x d (Fell s) h e = absurd h
  ends_there m c x d (Branched k s) h e = absurd h
  ends_there m c x d (Trapped None s) h e = absurd h

  traps_there : (m : ℕ) (c : Conf) (t : Trap) (d : Conf) (r : Result) → Judged w (suc m) c r → after w.code m (machine.Runs c) ≡ machine.Trapped t d → Reports w c t d r
  traps_there m c t d (Returned v s) h e =
      let ends = h.2 in
      let same : machine.Trapped t d ≡ machine.Ended h.0 ends.conf = one_end w.code m ends.steps (machine.Runs c) (machine.Trapped t d) (machine.Ended h.0 ends.conf) e ends.ends tt tt in
      absurd cc
  traps_there m c t d (Trapped (Some q) s) h e =
      let same : machine.Trapped t d ≡ machine.Trapped h.trap h.conf = one_end w.code m h.steps (machine.Runs c) (machine.Trapped t d) (machine.Trapped h.trap h.conf) e (fails_so c q s h) tt tt in
      let conf_is : h.conf ≡ d = cc in
      let trap_is : h.trap ≡ t = cc in
      record { state = s; is = ap (λ q. Trapped (Some q) s) (h.report_is ∙ ap (report_of w) trap_is); out_is = h.out_is ∙ ap (λ z. z.out) conf_is; keeps = subst (λ z. Keeps (shared_of w) z.arrays s.memory s.size) conf_is h.keeps }
  traps_there m c t d (OutOfFuel s) h e = absurd (let lt = runs_before w.code h.steps m (machine.Runs c) (machine.Trapped t d) h.conf (goes_so (suc m) c s h) e tt in omega (arith, h.far))
  traps_there m c t d (Fell s) h e = absurd h
  traps_there m c t d (Branched k s) h e = absurd h
  traps_there m c t d (Trapped None s) h e = absurd h

  returned_is : (f : ℕ) (c : Conf) (v : Option ℕ) (s : State) → Judged w f c (Returned v s) → (x : Option Value) × (v ≡ value_bits x) × Ends w c x s
  returned_is f c v s h = h

  trapped_is : (f : ℕ) (c : Conf) (r : Option Report) (s : State) → Judged w f c (Trapped r s) → (q : Report) × (r ≡ Some q) × Fails w all_kept c q s
  trapped_is f c None s h = absurd h
  trapped_is f c (Some q) s h = (q, refl, h)

  written_so_far : (m : ℕ) (c d : Conf) (r : Result) → Judged w m c r → after w.code m (machine.Runs c) ≡ machine.Runs d → IsPrefix d.out (out_of r)
  written_so_far m c d (Returned v s) h e =
      let ends = h.2 in
      let lt = runs_before w.code m ends.steps (machine.Runs c) (machine.Ended h.0 ends.conf) d e ends.ends tt in
      subst (λ o. IsPrefix d.out o) (sym ends.out_is) (grown w.code m ends.steps (machine.Runs c) (machine.Ended h.0 ends.conf) d (omega arith) e ends.ends)
  written_so_far m c d (Trapped (Some q) s) h e =
      let lt = runs_before w.code m h.steps (machine.Runs c) (machine.Trapped h.trap h.conf) d e (fails_so c q s h) tt in
      subst (λ o. IsPrefix d.out o) (sym h.out_is) (grown w.code m h.steps (machine.Runs c) (machine.Trapped h.trap h.conf) d (omega arith) e (fails_so c q s h))
  written_so_far m c d (OutOfFuel s) h e = subst (λ o. IsPrefix d.out o) (sym h.out_is) (grown w.code m h.steps (machine.Runs c) (machine.Runs h.conf) d h.far e (goes_so m c s h))
  written_so_far m c d (Fell s) h e = absurd h
  written_so_far m c d (Branched k s) h e = absurd h
  written_so_far m c d (Trapped None s) h e = absurd h

  -- any results that say so
  pub agree : (c : Conf) (result : ℕ → Result) → ((f : ℕ) → Judged w f c (result f)) → Agrees w c result
  agree c result says =
      record {
        ends = λ m x d e. ends_there m c x d (result (suc m)) (says (suc m)) e;
        traps = λ m t d e. traps_there m c t d (result (suc m)) (says (suc m)) e;
        ends_only = λ f v s e. returned_is f c v s (subst (Judged w f c) e (says f));
        traps_only = λ f r s e. trapped_is f c r s (subst (Judged w f c) e (says f));
        goes_on = λ f s e. subst (Judged w f c) e (says f);
        so_far = λ m d e. written_so_far m c d (result m) (says m) e;
      }

pub functions_agree : FunctionsAgree
functions_agree w ready covered thin top scalar call right c s low st harmless roomy =
    agree w top scalar c (λ f. left (run f (call f) (function_code w) s))
    (λ f. judged w top scalar f c harmless roomy (run f (call f) (function_code w) s) (function_runs w ready covered thin f (call f) (λ g e. subst (λ n. CallsAgree w g (call n)) (sym e) (right g)) c s low st))

told : (w : Setting) (fr : Frame) (rest : List Frame) → w.waiting ≡ fr ∷ rest → (f : ℕ) (c : Conf) (r : Result) → Whole (the_machine w) (w.local Counter) w.rungs f f c r → Told (the_machine w) (ComesBack w fr rest) f c (left r)
told w fr rest e f c (Fell s) h = absurd (let low = h.stands.low in omega arith)
told w fr rest e f c (Branched d s) h = absurd h
told w fr rest e f c (Returned v s) h =
    record {
      conf = h.conf;
      steps = h.steps;
      register = h.register;
      given = h.given;
      fits = h.fits;
      value_is = h.value_is;
      lanes_are = h.lanes_are;
      goes = subst (λ ws. IsRun w.code w.forms h.steps (machine.Runs c) (arrive w.code (calls.left w.routine h.conf h.register ws) h.conf)) e h.leaves;
      out_is = h.out_is;
      keeps = h.keeps;
    }
told w fr rest e f c (Trapped None s) h = h
told w fr rest e f c (Trapped (Some q) s) h = h
told w fr rest e f c (OutOfFuel s) h = h

pub calls_come_back : CallsComeBack
calls_come_back w ready covered thin fr rest e call f right c s low st = told w fr rest e f c (run f call (function_code w) s) (function_runs w ready covered thin f call right c s low st)
