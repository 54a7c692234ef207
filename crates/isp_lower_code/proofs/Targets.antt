-- Where the last instruction of a node leaves its value: in a spare register, or in a variable.
use Rattle.std.proofs.Common.{◌≡◌, ℕ, ◌+◌, ◌*◌, ◌<◌, ◌≤◌, Option, Some, None, refl, ◌∙◌, arith}
use Rattle.std.specs.Prelude.{slice_get}
use Rattle.isp_base.specs.Sets.{Mask}
use Rattle.isp_base.specs.declared.trap.TrapKind.{TrapKind}
use Rattle.isp_base.specs.declared.types.Elem.{Elem}
use Rattle.isp_base.specs.declared.types.Rate.{Rate}
use Rattle.isp_base.specs.declared.types.Rate.TheVariants.{Uniform, Varying}
use Rattle.isp_base.specs.declared.types.Span.{Span}
use Rattle.isp_code.specs.Conf.{Conf}
use Rattle.isp_code.specs.Lines.{act}
use Rattle.isp_code.specs.declared.instr.Instr.{Instr}
use Rattle.isp_meaning.specs.State.{State}
use Rattle.isp_meaning.specs.Payloads.{Payload}
use Rattle.isp_meaning.specs.Outcomes.{Val, Gives, Fails, Stops, bind, checked}
use Rattle.isp_meaning.specs.Places.{written}
use Rattle.isp_lower_code.specs.Layout.{Layout}
use Rattle.isp_lower_code.specs.Setting.{Setting, IsSettled, At, Stands, at_rate, Holds, Spares}
use Rattle.isp_lower_code.specs.Runs.{Comes, Ok, Runs, DoneRuns}
use Rattle.isp_lower_code.proofs.Base.{MayWrite, at_to, moved_by, spares_on}
use Rattle.isp_lower_code.proofs.Rates.{Filled}
use Rattle.isp_lower_code.proofs.Lines.{set_at}
use Rattle.isp_lower_code.proofs.Combine.{failed_less, stopped_less, runs_after, bind_runs, set_goes, set_masks, set_spares, set_stands, set_holds, write_checked}
use Rattle.isp_lower_code.proofs.Writes.{written_stands, step_done}
use Rattle.isp_lower_code.proofs.Done.{done_after, variable_spares}

pub data Target : Type 0 where
  InSlot : Target
  InVariable : ℕ → Target

abbrev pub target : Layout → Target → Rate → Elem → ℕ → ℕ
target l InSlot r t n = l.spare r t n
target l (InVariable v) r t n = l.variable r v

module _ (w : Setting) where
  -- code leaves a value at a rate: register d holds it, or a variable is written, which counts no lanes
  abbrev pub Leaves : Target → ℕ → Conf → ℕ → ℕ → ℕ → Rate → Mask → Val Payload → Type 0
  Leaves InSlot d c pc n q r a v = Runs w c pc n q (Holds r a d) v
  Leaves (InVariable x) d c pc n q r a v = MayWrite w r x → DoneRuns w c pc n q (bind v (λ m s. Gives tt (written r x a m s)))

-- a variable that is written costs nothing
written_bound : (r : Rate) (v : ℕ) (a : Mask) (x : Payload) (s : State) (t q : ℕ) → t + q ≤ 32 * s.work → t + q ≤ 32 * (written r v a x s).work
written_bound Uniform v a x s t q le = le
written_bound Varying v a x s t q le = le

module _ (w : Setting) (ready : IsSettled w) where
  pub leaves_after : (g : Target) (d : ℕ) (c c1 : Conf) (t pc n q : ℕ) (r : Rate) (a : Mask) (v : Val Payload) → Comes w c t c1 → Spares w n c c1
      → ((r : ℕ) → r < n → c1.masks r ≡ c.masks r) → Leaves w g d c1 pc n (t + q) r a v → Leaves w g d c pc n q r a v
  leaves_after InSlot d c c1 t pc n q r a v h k m run = runs_after w ready c c1 t pc n q (Holds r a d) v h k m run
  leaves_after (InVariable x) d c c1 t pc n q r a v h k m run = λ other. done_after w ready c c1 t pc n q _ h k m (run other)

  pub bind_leaves : {A : Type 0} (g : Target) (e : ℕ) (c : Conf) (pc n d q : ℕ) (P : A → Conf → Type 0) (v : Val A) (go : A → State → Val Payload)
      (pc' n' : ℕ) (r : Rate) (a : Mask) → Runs w c pc n (d + q) P v
      → ((x : A) (s : State) → Ok w c pc n (d + q) (P x) s → Leaves w g e c pc' n' q r a (go x s)) → Leaves w g e c pc' n' q r a (bind v go)
  bind_leaves InSlot e c pc n d q P v go pc' n' r a run f = bind_runs w ready c pc n d q P v go pc' n' (Holds r a e) run f
  bind_leaves (InVariable y) e c pc n d q P (Gives x s) go pc' n' r a run f = f x s run
  bind_leaves (InVariable y) e c pc n d q P (Fails p s) go pc' n' r a run f = λ other. failed_less w ready c d q p s run
  bind_leaves (InVariable y) e c pc n d q P (Stops s) go pc' n' r a run f = λ other. stopped_less w ready w.turns c d q s run

  -- one instruction that writes it, or traps
  pub write_leaves : (g : Target) (c c2 : Conf) (t pc pc' n q : ℕ) (a : Mask) (s : State) (i : Instr) (r : Rate) (e : Elem) (o : Option ℕ)
      (kind : TrapKind) (sp : Span) (x y : Payload) → Comes w c t c2 → At w c2 pc → pc + 1 ≡ pc' → slice_get w.routine.code pc ≡ Some i
      → Stands w s c2 → Spares w n c c2 → ((r : ℕ) → r < n → c2.masks r ≡ c.masks r) → t + 1 + q ≤ 32 * s.work → (o ≡ None → at_rate r a x ≡ y)
      → Filled r a y → act w.code w.routine c2 i ≡ moved_by o kind sp (set_at r c2 (target w.layout g r e n) y)
      → Leaves w g (target w.layout g r e n) c pc' n q r a (checked o kind sp s x)
  write_leaves InSlot c c2 t pc pc' n q a s i r e o kind sp x y h at to has st ke ma le ex fill is = write_checked w ready c c2 t pc pc' n q a s i r e o kind sp x y h at to has st ke ma le ex fill is
  write_leaves (InVariable v) c c2 t pc pc' n q a s i Uniform e o kind sp x y h at to has st ke ma le ex fill is = λ other.
      step_done w ready c c2 (set_at Uniform c2 (w.layout.variable Uniform v) y) t pc pc' n q i o kind sp x s (written Uniform v a) h at to has is
      refl (set_goes w ready Uniform c2 (w.layout.variable Uniform v) y pc at) st
      (λ none. written_stands w ready Uniform v c2 a x s y st (ex none) other)
      (spares_on w n c c2 (set_at Uniform c2 (w.layout.variable Uniform v) y) ke (variable_spares w ready Uniform v n c2 y other.1)) ma le le
  write_leaves (InVariable v) c c2 t pc pc' n q a s i Varying e o kind sp x y h at to has st ke ma le ex fill is = λ other.
      step_done w ready c c2 (set_at Varying c2 (w.layout.variable Varying v) y) t pc pc' n q i o kind sp x s (written Varying v a) h at to has is
      refl (set_goes w ready Varying c2 (w.layout.variable Varying v) y pc at) st
      (λ none. written_stands w ready Varying v c2 a x s y st (ex none) other)
      (spares_on w n c c2 (set_at Varying c2 (w.layout.variable Varying v) y) ke (variable_spares w ready Varying v n c2 y other.1)) ma le le

  pub write_sure : (g : Target) (c c2 : Conf) (t pc pc' n q : ℕ) (a : Mask) (s : State) (i : Instr) (r : Rate) (e : Elem) (o : Option ℕ)
      (kind : TrapKind) (sp : Span) (x y : Payload) → Comes w c t c2 → At w c2 pc → pc + 1 ≡ pc' → slice_get w.routine.code pc ≡ Some i
      → Stands w s c2 → Spares w n c c2 → ((r : ℕ) → r < n → c2.masks r ≡ c.masks r) → t + 1 + q ≤ 32 * s.work → at_rate r a x ≡ y → Filled r a y
      → act w.code w.routine c2 i ≡ moved_by o kind sp (set_at r c2 (target w.layout g r e n) y)
      → Leaves w g (target w.layout g r e n) c pc' n q r a (checked o kind sp s x)
  write_sure g c c2 t pc pc' n q a s i r e o kind sp x y h at to has st ke ma le ex fill is = write_leaves g c c2 t pc pc' n q a s i r e o kind sp x y h at to has st ke ma le (λ none. ex) fill is

  -- a value that has come into its register
  pub came_leaves : (g : Target) (c c2 : Conf) (t pc pc' n q : ℕ) (a : Mask) (s : State) (r : Rate) (e : Elem) (x y : Payload)
      → Comes w c t (set_at r c2 (target w.layout g r e n) y) → At w c2 pc → pc + 1 ≡ pc' → Stands w s c2 → Spares w n c c2
      → ((r : ℕ) → r < n → c2.masks r ≡ c.masks r) → t + q ≤ 32 * s.work → at_rate r a x ≡ y → Filled r a y
      → Leaves w g (target w.layout g r e n) c pc' n q r a (Gives x s)
  came_leaves InSlot c c2 t pc pc' n q a s r e x y h at to st ke ma le ex fill =
      let c3 = set_at r c2 (w.layout.spare r e n) y in
      record {
        conf = c3;
        steps = t;
        comes = h;
        at = at_to w c3 (pc + 1) pc' (set_goes w ready r c2 (w.layout.spare r e n) y pc at) to;
        stands = set_stands w ready r c2 e n y s st;
        spares = spares_on w n c c2 c3 ke (set_spares w ready r c2 e n n y (omega arith));
        masks = λ k lt. set_masks w ready r c2 (w.layout.spare r e n) y k ∙ ma k lt;
        holds = ex ∙ set_holds w ready r c2 (w.layout.spare r e n) a y fill;
        bound = le;
      }
  came_leaves (InVariable v) c c2 t pc pc' n q a s r e x y h at to st ke ma le ex fill = λ other.
      let c3 = set_at r c2 (w.layout.variable r v) y in
      record {
        conf = c3;
        steps = t;
        comes = h;
        at = at_to w c3 (pc + 1) pc' (set_goes w ready r c2 (w.layout.variable r v) y pc at) to;
        stands = written_stands w ready r v c2 a x s y st ex other;
        spares = spares_on w n c c2 c3 ke (variable_spares w ready r v n c2 y other.1);
        masks = λ k lt. set_masks w ready r c2 (w.layout.variable r v) y k ∙ ma k lt;
        bound = written_bound r v a x s t q le;
      }
