-- The machine's runs are such as the ladder asks, and what its instructions do one by one.
use Rattle.std.proofs.Common.{◌≡◌, inl, inr, ℕ, suc, ◌+◌, ◌≤◌, Option, Some, None, true, refl, ap, ◌∙◌, arith}
use Rattle.std.specs.Prelude.{slice_get}
use Rattle.isp_code.specs.Conf as machine
use Rattle.isp_base.specs.declared.trap.Trap.{Trap}
use Rattle.isp_code.specs.Conf.{Conf, Move, Go, Say, Fail}
use Rattle.isp_code.specs.Lines.{act, next, set_vector}
use Rattle.isp_base.specs.Maps.{Lanes, Map}
use Rattle.isp_code.specs.Calls.{left}
use Rattle.isp_code.specs.Machine.{step, act_in, act_at, arrive}
use Rattle.isp_code.specs.declared.instr.Instr.{Instr}
use Rattle.isp_code.specs.declared.instr.Instr.TheVariants as instr
use Rattle.isp_code.specs.declared.instr.Plain.{Plain}
use Rattle.isp_code.specs.declared.instr.VectorInstr.{VectorInstr}
use Rattle.isp_code.specs.declared.instr.VectorInstr.TheVariants.{Binary}
use Rattle.isp_code.specs.declared.register.Register.{Register}
use Rattle.isp_forms.specs.Runs.{IsRun, IsBefore, IsKnown, computed_by, forgotten}
use Rattle.isp_forms.specs.Writes.{mask_under, is_pure}
use Rattle.isp_forms.specs.declared.form.Form.{Form}
use Rattle.isp_forms.specs.declared.form.Form.TheVariants.{Kept, Free, Useless, KeptBy, FreeBy}
use Rattle.isp_forms.proofs.Runs.{runs_join}
use Rattle.isp_wasm_meaning.specs.Meaning.{Report, State, Result, Fell, Branched, Returned, Trapped, OutOfFuel}
use Rattle.isp_wasm_meaning.specs.Ladder.{Laws, Meets}
use Rattle.isp_wasm.specs.Places.{Setting, Counter}
use Rattle.isp_wasm.specs.Standing.{Stands, Holds, Keeps, all_of, Final, Cut, Goes, the_machine, report_of, IsSettled}
use Rattle.isp_wasm.proofs.Shared.{forget}

module _ (w : Setting) where
  further : (a b : ℕ) (x y : Conf) (t : machine.State) → Goes w a x y → IsRun w.code w.forms b (machine.Runs y) t → IsRun w.code w.forms (b + a) (machine.Runs x) t
  further a b x y t g f = runs_join w.code w.forms a b (machine.Runs x) (machine.Runs y) t g f

  ended_before : (a : ℕ) (x y : Conf) (r : Result) → Goes w a x y → Final w y r → Final w x r
  ended_before a x y (Returned v s) g f =
      record { conf = f.conf; steps = f.steps + a; register = f.register; given = f.given; fits = f.fits; leaves = further a f.steps x y (arrive w.code (left w.routine f.conf f.register w.waiting) f.conf) g f.leaves; value_is = f.value_is; lanes_are = f.lanes_are; out_is = f.out_is; keeps = f.keeps }
  ended_before a x y (Trapped (Some t) s) g f =
      record { conf = f.conf; steps = f.steps + a; trap = f.trap; fails = further a f.steps x y (machine.Trapped f.trap f.conf) g f.fails; report_is = f.report_is; out_is = f.out_is; keeps = f.keeps }
  ended_before a x y (Trapped None s) g f = record { conf = f.conf; steps = f.steps + a; goes = further a f.steps x y (machine.Runs f.conf) g f.goes; address = f.address; stack_is = f.stack_is; full = f.full }
  ended_before a x y (Fell s) g f = f
  ended_before a x y (Branched k s) g f = f
  ended_before a x y (OutOfFuel s) g f = f

  cut_before : (a f g : ℕ) (x y : Conf) (s : State) → Goes w a x y → g ≤ f + a → Cut w w.forms f y s → Cut w w.forms g x s
  cut_before a f g x y s go le h = record { conf = h.conf; steps = h.steps + a; goes = further a h.steps x y (machine.Runs h.conf) go h.goes; far = omega (arith, h.far); out_is = h.out_is }

  pub machine_laws : Laws (the_machine w)
  machine_laws =
      record {
        goes_on = λ a b x y z g h. further a b x y (machine.Runs z) g h;
        final_back = ended_before;
        cut_back = λ a f x y s g h. cut_before a f f x y s g (omega arith) h;
        cut_more = λ a f x y s g h. cut_before (suc a) f (suc f) x y s g (omega arith) h;
        cut_less = λ f g x s le h. record { conf = h.conf; steps = h.steps; goes = h.goes; far = omega (arith, h.far); out_is = h.out_is };
        cut_none = λ k x s st. record { conf = x; steps = 0; goes = refl; far = omega arith; out_is = st.stands.out_is };
      }

  -- the form in which an instruction is written is its own, or it is kept
  abbrev pub IsWritten : ℕ → Form → Type 0
  IsWritten pc form = (form ≡ Kept → ⊥) → w.forms w.home.fn pc ≡ form

  -- where other vectors are held, behind an instruction
  stands_behind : (pc : ℕ) (c : Conf) (s t : State) (vectors : ℕ → Lanes) → Stands w pc c s → t.out ≡ s.out → Holds w c.scalars vectors c.masks t.locals → Keeps w (all_of w c) t.memory t.size
      → Stands w (pc + 1) (record c { pc = c.pc + 1; vectors = vectors }) t
  stands_behind pc c s t vectors st out holds keeps =
      record {
        home_is = st.home_is;
        waiting_is = st.waiting_is;
        pc_is = ap (λ p. p + 1) st.pc_is;
        out_is = out ∙ st.out_is;
        holds = holds;
        keeps = keeps;
      }

  module _ (ready : IsSettled w) where
    step_at : (pc : ℕ) (c : Conf) (s : State) (i : Option Instr) → Stands w pc c s → slice_get w.routine.code pc ≡ i → step w.code c ≡ act_at w.code w.routine c i
    step_at pc c s i st has =
        ap (λ h. act_in w.code c (slice_get w.code.routines h.fn)) st.home_is
        ∙ ap (act_in w.code c) ready.found
        ∙ ap (λ p. act_at w.code w.routine c (slice_get w.routine.code p)) st.pc_is
        ∙ ap (act_at w.code w.routine c) has

    pub step_is : (pc : ℕ) (c : Conf) (s : State) (i : Instr) (m : Move) → Stands w pc c s → slice_get w.routine.code pc ≡ Some i → act w.code w.routine c i ≡ m
        → IsRun w.code w.forms 1 (machine.Runs c) (arrive w.code m c)
    step_is pc c s i m st has is = (machine.Runs c, refl, inl (ap (λ x. arrive w.code x c) (step_at pc c s (Some i) st has ∙ is)))

    -- an instruction on vectors that is not kept
    before : (form : Form) (pc : ℕ) (c : Conf) (s : State) (d : Register) (i : VectorInstr) → Stands w pc c s → slice_get w.routine.code pc ≡ Some (instr.Vector d i) → w.forms w.home.fn pc ≡ form
        → IsBefore w.code w.forms form c w.routine d i
    before form pc c s d i st has is =
        record {
          found = ap (λ h. slice_get w.code.routines h.fn) st.home_is ∙ ready.found;
          here = ap (slice_get w.routine.code) st.pc_is ∙ has;
          form_is = ap (λ h. w.forms h.fn c.pc) st.home_is ∙ ap (w.forms w.home.fn) st.pc_is ∙ is;
        }

    module _ (fuel n k pc : ℕ) (c : Conf) (s : State) (d : Register) (i : VectorInstr) (st : Stands w pc c s) (has : slice_get w.routine.code pc ≡ Some (instr.Vector d i)) where
      pub falls_free : (x : Map) (old : Lanes) (t : State) → w.forms w.home.fn pc ≡ Free → act w.code w.routine c (instr.Vector d i) ≡ Go (set_vector c d x) → t.out ≡ s.out
          → Holds w c.scalars (forgotten (set_vector c d x) d.number (c.masks (mask_under i).number) old).vectors c.masks t.locals → Keeps w (all_of w c) t.memory t.size
          → Meets (the_machine w) (w.local Counter) n fuel (Stands w (pc + 1)) (suc k) c (Fell t)
      falls_free x old t form is out holds keeps =
          record {
            conf = record (forgotten (set_vector c d x) d.number (c.masks (mask_under i).number) old) { out = c.out };
            steps = 1;
            goes = (machine.Runs c, refl, inr (inl (record { routine = w.routine; vector = d; what = i; before = before Free pc c s d i st has form; done = set_vector c d x; goes = is; old = old; is = refl })));
            stands = stands_behind pc c s t (forgotten (set_vector c d x) d.number (c.masks (mask_under i).number) old).vectors st out holds keeps;
          }

      pub falls_useless : w.forms w.home.fn pc ≡ Useless → is_pure i ≡ true → Meets (the_machine w) (w.local Counter) n fuel (Stands w (pc + 1)) (suc k) c (Fell s)
      falls_useless form pure =
          record {
            conf = next c;
            steps = 1;
            goes = (machine.Runs c, refl, inr (inr (inl (record { routine = w.routine; vector = d; what = i; before = before Useless pc c s d i st has form; pure = pure; is = refl }))));
            stands = stands_behind pc c s s c.vectors st refl st.holds st.keeps;
          }

    -- an operator, by the number that its form says
    module _ (fuel n k pc : ℕ) (c : Conf) (s : State) (d : Register) (o : Plain) (x y m : Register) (b : ℕ) (st : Stands w pc c s) (has : slice_get w.routine.code pc ≡ Some (instr.Vector d (Binary o x y m))) where
      abbrev result : Conf
      result = set_vector c d (computed_by w.routine c d o x m b)

      known : (form : ℕ → Form) → w.forms w.home.fn pc ≡ form b → IsKnown w.code w.forms form c
      known form is = record { routine = w.routine; vector = d; operator = o; left = x; right = y; mask = m; amount = b; before = before (form b) pc c s d (Binary o x y m) st has is }

      pub falls_known : (t : State) → w.forms w.home.fn pc ≡ KeptBy b → t.out ≡ s.out → Holds w c.scalars result.vectors c.masks t.locals → Keeps w (all_of w c) t.memory t.size
          → Meets (the_machine w) (w.local Counter) n fuel (Stands w (pc + 1)) (suc k) c (Fell t)
      unfolding known
      falls_known t form out holds keeps =
          record {
            conf = record result { out = c.out };
            steps = 1;
            goes = (machine.Runs c, refl, inr (inr (inr (inl (record { at = known KeptBy form; is = refl })))));
            stands = stands_behind pc c s t result.vectors st out holds keeps;
          }

      pub falls_known_free : (old : Lanes) (t : State) → w.forms w.home.fn pc ≡ FreeBy b → t.out ≡ s.out → Holds w c.scalars (forgotten result d.number (c.masks m.number) old).vectors c.masks t.locals → Keeps w (all_of w c) t.memory t.size
          → Meets (the_machine w) (w.local Counter) n fuel (Stands w (pc + 1)) (suc k) c (Fell t)
      unfolding known
      falls_known_free old t form out holds keeps =
          record {
            conf = record (forgotten result d.number (c.masks m.number) old) { out = c.out };
            steps = 1;
            goes = (machine.Runs c, refl, inr (inr (inr (inr (record { at = known FreeBy form; old = old; is = refl })))));
            stands = stands_behind pc c s t (forgotten result d.number (c.masks m.number) old).vectors st out holds keeps;
          }

    -- an instruction after which control goes on
    module _ (fuel n k pc : ℕ) (c : Conf) (s : State) (i : Instr) (st : Stands w pc c s) (has : slice_get w.routine.code pc ≡ Some i) where
      pub falls_on : (c1 : Conf) (t : State) → act w.code w.routine c i ≡ Go c1 → c1.home ≡ c.home → c1.waiting ≡ c.waiting → c1.pc ≡ c.pc + 1 → t.out ≡ s.out
          → Holds w c1.scalars c1.vectors c1.masks t.locals → Keeps w (all_of w c1) t.memory t.size → Meets (the_machine w) (w.local Counter) n fuel (Stands w (pc + 1)) (suc k) c (Fell t)
      falls_on c1 t is home waiting at out holds keeps =
          record {
            conf = record c1 { out = c.out };
            steps = 1;
            goes = step_is pc c s i (Go c1) st has is;
            stands =
                record {
                  home_is = home ∙ st.home_is;
                  waiting_is = waiting ∙ st.waiting_is;
                  pc_is = at ∙ ap (λ p. p + 1) st.pc_is;
                  out_is = out ∙ st.out_is;
                  holds = holds;
                  keeps = keeps;
                };
          }

      pub fails_here : (t : Trap) (u : State) → act w.code w.routine c i ≡ Fail t → u.out ≡ s.out → Keeps w (all_of w c) u.memory u.size
          → (r : Report) → r ≡ report_of w t → Meets (the_machine w) (w.local Counter) n fuel (Stands w (pc + 1)) (suc k) c (Trapped (Some r) u)
      fails_here t u is out keeps r said =
          record { conf = c; steps = 1; trap = t; fails = step_is pc c s i (Fail t) st has is; report_is = said; out_is = out ∙ st.out_is; keeps = forget w ready c u.memory u.size keeps }
