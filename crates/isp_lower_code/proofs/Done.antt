-- What is done after code that writes variables: one thing after another, and a variable that gets a value.
use Rattle.std.proofs.Common.{◌≡◌, ℕ, ◌+◌, ◌*◌, ◌<◌, ◌≤◌, Option, Some, None, refl, sym, ap, ◌∙◌, arith}
use Rattle.std.specs.Prelude.{slice_get}
use Rattle.isp_base.specs.Maps.{on, over}
use Rattle.isp_base.specs.Sets.{Mask, nobody}
use Rattle.isp_base.specs.declared.trap.TrapKind.{TrapKind}
use Rattle.isp_base.specs.declared.trap.TrapKind.TheVariants.{Index}
use Rattle.isp_base.specs.declared.types.Rate.{Rate}
use Rattle.isp_base.specs.declared.types.Rate.TheVariants.{Uniform, Varying}
use Rattle.isp_base.specs.declared.types.Span.{Span}
use Rattle.isp_code.specs.Calls.{no_place}
use Rattle.isp_code.specs.Conf.{Conf, Go}
use Rattle.isp_meaning.specs.State.{State}
use Rattle.isp_meaning.specs.Payloads.{Payload, Each, sole, spread}
use Rattle.isp_meaning.specs.Outcomes.{Val, Gives, Fails, Stops, Done, bind, checked}
use Rattle.isp_meaning.specs.Places.{written}
use Rattle.isp_lower_code.specs.Setting.{Setting, IsSettled, At, Stands, Spares, held_at, Holds, IsOther}
use Rattle.isp_lower_code.specs.Runs.{Comes, Ok, Runs, DoneOk, DoneRuns}
use Rattle.isp_lower_code.specs.Instructions.{copy, splat}
use Rattle.isp_lower_code.proofs.Base.{IsRead, MayWrite, put_other, comes_on, spares_on}
use Rattle.isp_lower_code.proofs.Fixed.{uniform_known}
use Rattle.isp_lower_code.proofs.Lines.{set_at}
use Rattle.isp_lower_code.proofs.Combine.{failed_after, stopped_after, failed_less, stopped_less, set_goes}
use Rattle.isp_lower_code.proofs.Writes.{written_stands, step_done}

module _ (w : Setting) (ready : IsSettled w) where
  pub done_after : (c c1 : Conf) (t pc n q : ℕ) (v : Val Done) → Comes w c t c1 → Spares w n c c1 → ((r : ℕ) → r < n → c1.masks r ≡ c.masks r) → DoneRuns w c1 pc n (t + q) v → DoneRuns w c pc n q v
  done_after c c1 t pc n q (Gives x s) h k m r = record {
    conf = r.conf;
    steps = t + r.steps;
    comes = comes_on w c c1 r.conf t r.steps h r.comes;
    at = r.at;
    stands = r.stands;
    spares = spares_on w n c
        c1 r.conf k r.spares;
    masks = λ i lt. r.masks i lt ∙ m i lt;
    bound = omega (arith, r.bound);
  }
  done_after c c1 t pc n q (Fails p s) h k m r = failed_after w ready c c1 t q p s h r
  done_after c c1 t pc n q (Stops s) h k m r = stopped_after w ready w.turns c c1 t q s h r

  pub bind_done : {A : Type 0} (c : Conf) (pc n d q : ℕ) (P : A → Conf → Type 0) (v : Val A) (go : A → State → Val Done) (pc' n' : ℕ)
      → Runs w c pc n (d + q) P v → ((x : A) (s : State) → Ok w c pc n (d + q) (P x) s → DoneRuns w c pc' n' q (go x s))
      → DoneRuns w c pc' n' q (bind v go)
  bind_done c pc n d q P (Gives x s) go pc' n' r f = f x s r
  bind_done c pc n d q P (Fails p s) go pc' n' r f = failed_less w ready c d q p s r
  bind_done c pc n d q P (Stops s) go pc' n' r f = stopped_less w ready w.turns c d q s r

  -- ---- a variable gets a value

  pub variable_spares : (r : Rate) (v n : ℕ) (c : Conf) (y : Payload) → IsRead w r v → Spares w n c (set_at r c (w.layout.variable r v) y)
  variable_spares Uniform v n c y one = record {
    scalars_stay = λ t j lt. put_other c.scalars (w.layout.variable Uniform v) (sole y) (w.layout.spare Uniform t j) (λ e. ready.apart.variable_spare Uniform t v j (sym e));
    vectors_stay = λ t j lt. refl;
    fresh_scalars = λ j. put_other c.scalars (w.layout.variable Uniform v) (sole y) (w.layout.fresh Uniform j) (λ e. ready.apart.variable_fresh Uniform v j (sym e));
    fresh_vectors = λ j. refl;
    singles_stay = λ u is. put_other c.scalars (w.layout.variable Uniform v)
        (sole y) (w.layout.variable Uniform u)
        (ready.apart.variables Uniform u v (uniform_known w ready v u one is));
  }
  variable_spares Varying v n c y one = record {
    scalars_stay = λ t j lt. refl;
    vectors_stay = λ t j lt. put_other c.vectors (w.layout.variable Varying v)
        (over (spread nobody y) (c.vectors (w.layout.variable Varying v))) (w.layout.spare Varying t j)
        (λ e. ready.apart.variable_spare Varying t v j (sym e));
    fresh_scalars = λ j. refl;
    fresh_vectors = λ j. put_other c.vectors (w.layout.variable Varying v)
        (over (spread nobody y) (c.vectors (w.layout.variable Varying v))) (w.layout.fresh Varying j)
        (λ e. ready.apart.variable_fresh Varying v j (sym e));
    singles_stay = λ u is. refl;
  }

  pub variable_done : (r : Rate) (v : ℕ) (m : Payload) (a : Mask) (s : State) (c c2 : Conf) (st pc pc' k x n q : ℕ) → Comes w c st c2 → At w c2 pc
      → pc + 1 ≡ pc' → slice_get w.routine.code pc ≡ Some (copy r (w.layout.variable r v) x k) → Stands w s c2 → Spares w n c c2
      → ((r : ℕ) → r < n → c2.masks r ≡ c.masks r) → c2.masks k ≡ a → st + 1 + q ≤ 32 * s.work → Holds r a x m c2 → MayWrite w r v
      → DoneRuns w c pc' n q (Gives tt (written r v a m s))
  variable_done Uniform v m a s c c2 st pc pc' k x n q h at to has stands spares masks em le hx other =
      let y = held_at Uniform c2.scalars c2.vectors a x in
      let c3 = set_at Uniform c2 (w.layout.variable Uniform v) y in
      step_done w ready c c2 c3 st pc pc' n q (copy Uniform (w.layout.variable Uniform v) x k) None Index no_place m s (written Uniform v a) h at to
      has refl refl (set_goes w ready Uniform c2 (w.layout.variable Uniform v) y pc at) stands
      (λ none. written_stands w ready Uniform v c2 a m s y stands hx other) (spares_on w n c c2 c3 spares (variable_spares Uniform v n c2 y other.1))
      masks le le
  variable_done Varying v m a s c c2 st pc pc' k x n q h at to has stands spares masks em le hx other =
      let y = held_at Varying c2.scalars c2.vectors a x in
      let c3 = set_at Varying c2 (w.layout.variable Varying v) y in
      step_done w ready c c2 c3 st pc pc' n q (copy Varying (w.layout.variable Varying v) x k) None Index no_place m s (written Varying v a) h at to
      has (ap (λ g. Go (set_at Varying c2 (w.layout.variable Varying v) (held_at Varying c2.scalars c2.vectors g x))) em) refl
      (set_goes w ready Varying c2 (w.layout.variable Varying v) y pc at) stands
      (λ none. written_stands w ready Varying v c2 a m s y stands hx other) (spares_on w n c c2 c3 spares (variable_spares Varying v n c2 y tt))
      masks le le

  -- a varying one gets one value
  pub splat_done : (v : ℕ) (m : Payload) (a : Mask) (s : State) (c c2 : Conf) (st pc pc' k x n q : ℕ) → Comes w c st c2 → At w c2 pc → pc + 1 ≡ pc'
      → slice_get w.routine.code pc ≡ Some (splat (w.layout.variable Varying v) x k) → Stands w s c2 → Spares w n c c2
      → ((r : ℕ) → r < n → c2.masks r ≡ c.masks r) → c2.masks k ≡ a → st + 1 + q ≤ 32 * s.work → Holds Uniform a x m c2 → IsOther w v
      → DoneRuns w c pc' n q (Gives tt (written Varying v a m s))
  splat_done v m a s c c2 st pc pc' k x n q h at to has stands spares masks em le hx other =
      let d = w.layout.variable Varying v in
      let y = Each (on a (λ p. c2.scalars x)) in
      let c3 = set_at Varying c2 d y in
      step_done w ready c c2 c3 st pc pc' n q (splat d x k) None Index no_place m s (written Varying v a) h at to has
      (ap (λ g. Go (set_at Varying c2 d (Each (on g (λ p. c2.scalars x))))) em) refl (set_goes w ready Varying c2 d y pc at) stands
      (λ none. written_stands w ready Varying v c2 a m s y stands (ap (λ z. Each (spread a z)) hx) (other, tt))
      (spares_on w n c c2 c3 spares (variable_spares Varying v n c2 y tt)) masks le le

  -- what follows what was done
  pub done_on : (c : Conf) (pc n q : ℕ) (v : Val Done) (go : Done → State → Val Done) (pc' n' : ℕ) → DoneRuns w c pc n q v → ((s : State) → DoneOk w c pc n q s → DoneRuns w c pc' n' q (go tt s)) → DoneRuns w c pc' n' q (bind v go)
  done_on c pc n q (Gives x s) go pc' n' r f = f s r
  done_on c pc n q (Fails p s) go pc' n' r f = r
  done_on c pc n q (Stops s) go pc' n' r f = r

  -- what follows where nobody is outside
  pub bind_checked : {A : Type 0} (c : Conf) (pc n d q : ℕ) (P : A → Conf → Type 0) (o : Option ℕ) (kind : TrapKind) (sp : Span) (s : State) (x : A)
      (go : A → State → Val Done) (pc' n' : ℕ) → Runs w c pc n (d + q) P (checked o kind sp s x)
      → (o ≡ None → Ok w c pc n (d + q) (P x) s → DoneRuns w c pc' n' q (go x s)) → DoneRuns w c pc' n' q (bind (checked o kind sp s x) go)
  bind_checked c pc n d q P None kind sp s x go pc' n' r f = f refl r
  bind_checked c pc n d q P (Some p) kind sp s x go pc' n' r f = failed_less w ready c d q _ s r
