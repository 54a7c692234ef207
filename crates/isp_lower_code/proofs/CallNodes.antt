-- What a call hands over comes to the callee, and what comes back is left as the value of the call.
use Rattle.std.proofs.Common.{◌≡◌, ℕ, ◌+◌, ◌*◌, ◌<◌, ◌≤◌, ◌^◌, List, [], ◌∷◌, ◌++◌, length, Option, Some, true, false, refl, sym, ap, ◌∙◌, subst, arith, length-append}
use Rattle.std.specs.Prelude.{slice_get}
use Rattle.isp_base.specs.Sets.{Mask, any}
use Rattle.isp_base.specs.declared.types.Elem.{Elem}
use Rattle.isp_base.specs.declared.types.Rate.{Rate}
use Rattle.isp_base.specs.declared.types.Rate.TheVariants.{Uniform}
use Rattle.isp_base.specs.declared.types.Span.{Span}
use Rattle.isp_code.specs.Conf as machine
use Rattle.isp_code.specs.Conf.{Conf}
use Rattle.isp_code.specs.declared.instr.Call.{Call}
use Rattle.isp_code.specs.declared.register.Register.{Register}
use Rattle.isp_meaning.specs.State.{State, tick, extent_at}
use Rattle.isp_meaning.specs.Payloads.{Payload}
use Rattle.isp_meaning.specs.Outcomes.{Val, Gives, Fails, Stops, bind}
use Rattle.isp_meaning.specs.Expressions.{Passed, Values, Store, arguments, passed}
use Rattle.isp_meaning.specs.Loads.{KeepsBy}
use Rattle.isp_base.specs.declared.types.Ty.{Ty}
use Rattle.isp_typed.specs.Fine.{HoldsArray, params_of}
use Rattle.isp_typed.specs.declared.variable.Holds.{Holds as Held}
use Rattle.isp_typed.specs.declared.variable.Holds.TheVariants as holds
use Rattle.isp_typed.specs.declared.variable.Variable.{Variable as Declared}
use Rattle.isp_typed.specs.declared.variable.ArrayVariable.{ArrayVariable}
use Rattle.isp_typed.specs.Typed.{t_call}
use Rattle.isp_typed.specs.Typed.{TArgument, t_by_value, t_by_name, t_called}
use Rattle.isp_typed.specs.Typed.{TArguments, TFunction}
use Rattle.isp_lower_code.specs.Callees.{rate_held, rates_held, rates_of}
use Rattle.isp_lower_code.specs.Calls.{IsHanded, AreHanded, Takes, given_back, CallRuns}
use Rattle.isp_lower_code.specs.Layout.{class_at, register, mask_register, array_register}
use Rattle.isp_lower_code.specs.Setting.{ArrayFitsAt, Setting, IsSettled, gang_of, calls_of, AreAt, At, Stands, at_rate, Allowed}
use Rattle.isp_lower_code.specs.Runs.{Comes, Enters, Runs}
use Rattle.isp_lower_code.specs.Code.{argument_register, argument_registers, arguments_code, calling}
use Rattle.isp_lower_code.specs.Found.{operand}
use Rattle.isp_lower_code.specs.Spans.{arguments_places}
use Rattle.isp_lower_code.proofs.Base.{are_front, are_back, comes_none, at_to, spares_all, spares_less}
use Rattle.isp_lower_code.proofs.Rates.{Filled}
use Rattle.isp_lower_code.proofs.Lines.{set_at}
use Rattle.isp_lower_code.proofs.Found.{operand_low}
use Rattle.isp_lower_code.proofs.Targets.{Target, InSlot, InVariable, target, Leaves, leaves_after, bind_leaves, came_leaves}
use Rattle.isp_lower_code.proofs.GivenBack.{GivesBackBy, call_gives, answer_held, answer_filled, given_is}
use Rattle.isp_lower_code.proofs.Nodes.{enters_part}
use Rattle.isp_lower_code.proofs.Kept.{Keeps, kept_of, held_kept}
use Rattle.isp_lower_code.proofs.Parts.{CallParts, ArgumentsParts, ArgumentParts}
use Rattle.isp_lower_code.proofs.Consecutive.{run_each}
use Rattle.isp_lower_code.proofs.Fixed.{known_on}
use Rattle.isp_lower_code.proofs.PlainNodes.{NodeRuns}

module _ (w : Setting) (ready : IsSettled w) where
  -- ---- calls

  -- what is handed over stays so while lower slots and variables do
  handed_kept : (y : Held) (x : TArgument) (n : ℕ) (a : Mask) (z : Passed) (c c' : Conf) → ArgumentParts w y x n → Keeps w (n + 1) c c'
      → c'.home ≡ c.home → IsHanded a c y z (argument_register w.layout (rate_held y) x n)
      → IsHanded a c' y z (argument_register w.layout (rate_held y) x n)
  handed_kept (holds.Value t) (t_by_value x) n a (Values m) c c' fit keeps home i =
      (i.0, i.1 ∙ sym (held_kept w t.rate (n + 1) c c' a (operand w.layout t.rate x n) keeps (operand_low w ready t.rate t.elem x n fit.0 fit.1)))
  handed_kept (holds.Value t) (t_by_value x) n a (Store u) c c' fit keeps home i = absurd i
  handed_kept (holds.Value t) (t_by_name b sp) n a z c c' fit keeps home i = absurd fit
  handed_kept (holds.Given e) (t_by_value x) n a z c c' fit keeps home i = absurd fit
  handed_kept (holds.Given e) (t_by_name b sp) n a (Values m) c c' fit keeps home i = absurd i
  handed_kept (holds.Given e) (t_by_name b sp) n a (Store u) c c' fit keeps home i =
      (i.0, ap (λ g. g.named (w.layout.array b.number)) home ∙ i.1, subst (λ g. u < g.opened) (sym home) i.2, subst (λ g. g.sizes u ≤ 2 ^ 63) (sym home) i.3)
  handed_kept (holds.Local t m) (t_by_value x) n a z c c' fit keeps home i = absurd fit
  handed_kept (holds.Local t m) (t_by_name b sp) n a z c c' fit keeps home i = absurd fit

  -- an array is an open store
  pub named_run : (e : Elem) (b : ArrayVariable) (sp : Span) (pc k n q rest : ℕ) (a : Mask) (s : State) (c : Conf) → HoldsArray w.function.variables b
      → b.ty.rate ≡ Uniform → rest ≤ q → Enters w pc k n a s c q
      → Runs w c (pc + 0) n rest (λ z c'. IsHanded a c' (holds.Given e) z (array_register (w.layout.array b.number)))
      (passed (gang_of w) w.frame (calls_of w) (t_by_name b sp) a s)
  named_run e b sp pc k n q rest a s c has er le en =
      let fits = ready.arrays b has in
      let is : ArrayFitsAt w Uniform b = subst (λ r. ArrayFitsAt w r b) er fits.is in
      let few : extent_at Uniform w.frame b.number ≤ 2 ^ 63 = subst (λ r. extent_at r w.frame b.number ≤ 2 ^ 63) er fits.few in
      let opened : c.home.opened ≡ w.frame.opened = ap (λ g. g.opened) en.at.home_is ∙ ready.opened in
      let sizes : c.home.sizes ≡ w.frame.sizes = ap (λ g. g.sizes) en.at.home_is ∙ ready.sizes in
      record {
        conf = c;
        steps = 0;
        comes = comes_none w c;
        at = at_to w c pc _ en.at (omega arith);
        stands = en.stands;
        spares = spares_all w n c;
        masks = λ j h. refl;
        holds = (refl, ap (λ g. g.named (w.layout.array b.number)) en.at.home_is ∙ is.1, subst (λ g. w.frame.named b.number < g) (sym opened) (fits.below er), subst (λ g. g (w.frame.named b.number) ≤ 2 ^ 63) (sym sizes) few);
        bound = omega (arith, en.used);
      }

  -- the rest of the arguments, once the first is handed over
  pub handed_both : (y : Held) (x : TArgument) (vs : List Declared) (regs : List Register) (n pc q : ℕ) (a : Mask) (z : Passed) (s : State) (c : Conf)
      (v : Val (List Passed)) → ArgumentParts w y x n → c.home ≡ w.home → Stands w s c → KeepsBy w.layout.loaded s v
      → IsHanded a c y z (argument_register w.layout (rate_held y) x n) → Runs w c pc (n + 1) q (λ zs c'. AreHanded a c' vs zs regs) v
      → Runs w c pc n q (λ zs c'. AreHanded a c' (record { holds = y; constant = false } ∷ vs) zs
      (argument_register w.layout (rate_held y) x n ∷ regs)) (bind v (λ zs s1. Gives (z ∷ zs) s1))
  handed_both y x vs regs n pc q a z s c (Gives zs s1) fit home st k i r = record {
    conf = r.conf;
    steps = r.steps;
    comes = r.comes;
    at = r.at;
    stands = r.stands;
    spares = spares_less w n (n + 1) c r.conf (omega arith) r.spares;
    masks = λ j h. r.masks j (omega arith);
    holds = (handed_kept y x n a z c r.conf fit (kept_of w (n + 1) c r.conf s s1 st r.stands k r.spares) (r.at.home_is ∙ sym home) i, r.holds);
    bound = r.bound;
  }
  handed_both y x vs regs n pc q a z s c (Fails p s1) fit home st k i r = r
  handed_both y x vs regs n pc q a z s c (Stops s1) fit home st k i r = r

  abbrev pub ArgumentsRun : TArguments → Type 0
  ArgumentsRun xs =
      (vs : List Declared) (pc p k n q rest : ℕ) (a : Mask) (s : State) (c : Conf) → ArgumentsParts w vs xs n
      → AreAt w.routine.code pc (arguments_code w.layout (rates_held vs) xs pc p k n) → AreAt w.code.places p (arguments_places w.layout xs)
      → rest ≤ q → Enters w pc k n a s c q → Runs w c (pc + length (arguments_code w.layout (rates_held vs) xs pc p k n)) n rest
      (λ zs c'. AreHanded a c' vs zs (argument_registers w.layout (rates_held vs) xs n)) (arguments (gang_of w) w.frame (calls_of w) xs a s)

  -- what came back
  back_leaves : (u : Target) (t : Ty) (kc : Call) (pc pc' n q : ℕ) (a : Mask) (s : State) (c : Conf) (v : Val Payload)
      → kc.result ≡ Some (register t.rate (target w.layout u t.rate t.elem n)) → At w c pc → pc + 1 ≡ pc' → Stands w s c
      → GivesBackBy (Some t) w.frame a s v → CallRuns w.code w.turns c kc q v → Leaves w u (target w.layout u t.rate t.elem n) c pc' n q t.rate a v
  back_leaves u t kc pc pc' n q a s c (Gives m s1) er at to st gives run =
      let d = target w.layout u t.rate t.elem n in
      let c2 : Conf = record c { arrays = s1.arrays; out = s1.out } in
      let come : Comes w c run.steps (set_at t.rate c2 d m) = run.comes ∙ ap (λ o. machine.Runs (given_back o m c2)) er ∙ ap machine.Runs (given_is t.rate d m c2) in
      came_leaves w ready u c c2 run.steps pc pc' n q a s1 t.rate t.elem m m come (record { home_is = at.home_is; waiting_is = at.waiting_is; pc_is = at.pc_is }) to
      (record {
        uniforms = λ x is. st.uniforms x is ∙ ap (λ z. z.uniforms x) (sym gives.state);
        varying = λ x. st.varying x ∙ ap (λ z. z.varying x) (sym gives.state);
        result = st.result ∙ ap (λ z. z.result) (sym gives.state);
        results = st.results ∙ ap (λ z. z.results) (sym gives.state);
        own_arrays = λ x. st.own_arrays x ∙ ap (λ z. z.own x) (sym gives.state);
        arrays_are = refl;
        out_is = refl;
        run = run_each w.layout.run w.start w.members (c.scalars (w.layout.place Uniform)) s.varying s1.varying (λ i ei. ap (λ z. z.varying i) (sym gives.state)) st.run;
        known = known_on w.function.variables w.layout w.members c.scalars c.scalars s.varying s1.varying (λ v k. refl) (λ v k. ap (λ z. z.varying v) gives.state) st.known;
        constants = st.constants;
      })
      (record { scalars_stay = λ e j lt. refl; vectors_stay = λ e j lt. refl; fresh_scalars = λ j. refl; fresh_vectors = λ j. refl; singles_stay = λ x is. refl }) (λ r lt. refl) run.bound
      (subst (λ z. at_rate t.rate a z ≡ z) (sym gives.value) (answer_held t.rate a gives.last))
      (subst (Filled t.rate a) (sym gives.value) (answer_filled t.rate a gives.last))
  back_leaves InSlot t kc pc pc' n q a s c (Fails p s1) er at to st gives run = run
  back_leaves (InVariable x) t kc pc pc' n q a s c (Fails p s1) er at to st gives run = λ other. run
  back_leaves InSlot t kc pc pc' n q a s c (Stops s1) er at to st gives run = run
  back_leaves (InVariable x) t kc pc pc' n q a s c (Stops s1) er at to st gives run = λ other. run

  -- the rates by which code hands over are those of the parameters
  pub rates_here : (f : ℕ) (g : TFunction) → slice_get w.program.functions f ≡ Some g → w.layout.rates f ≡ rates_held (params_of g)
  rates_here f g e = ap (λ z. z f) ready.rates ∙ ap rates_of e

  class_is : (r : Rate) (d : ℕ) → (register r d).class ≡ class_at r
  class_is r d = refl

  -- the call itself
  pub called_here : (d : Option Register) (f : ℕ) (xs : TArguments) (sp : Span) (answer : Option Ty) (pc p k n q : ℕ) (a : Mask) (s : State)
      (c : Conf) (zs : List Passed) (fit : CallParts w (t_called f xs sp) answer n) → Takes answer d
      → slice_get w.routine.code pc ≡ Some (calling w.layout d f xs p k n) → slice_get w.code.places p ≡ Some sp → At w c pc → c.masks k ≡ a
      → any (gang_of w) a ≡ true → ((r : ℕ) → a r ≡ true → Allowed w r) → Stands w s c → 1 + q ≤ 32 * s.work
      → AreHanded a c (params_of fit.0) zs (argument_registers w.layout (rates_held (params_of fit.0)) xs n)
      → CallRuns w.code w.turns c (record {
        function = f;
        result = d;
        mask = mask_register k;
        place = p;
        arguments = argument_registers w.layout
            (w.layout.rates f) xs n;
      }) q (calls_of w f sp a zs w.frame s)
  called_here d f xs sp answer pc p k n q a s c zs fit takes has place at em some inside st us hands =
      ready.calls (record { function = f; result = d; mask = mask_register k; place = p; arguments = argument_registers w.layout (w.layout.rates f) xs n }) fit.0 pc q sp a zs s c
      (record {
        function = fit.1;
        here = has;
        place = place;
        at = at;
        mask = em;
        some = some;
        inside = λ r h. (inside r h).0;
        hands = subst (λ rs. AreHanded a c (params_of fit.0) zs (argument_registers w.layout rs xs n)) (sym (rates_here f fit.0 fit.1)) hands;
        result = subst (λ o. Takes o d) (sym fit.2) takes;
        arrays_are = st.arrays_are;
        out_is = st.out_is;
        used = us;
      })

  pub call_node : (u : Target) (f : ℕ) (xs : TArguments) (sp : Span) (t : Ty) → ArgumentsRun xs → NodeRuns w ready u (t_call (t_called f xs sp) t)
  call_node u f xs sp t ih pc p k n q rest a s c fit ty has places le b =
      let vs = params_of fit.1.0 in
      let d = target w.layout u t.rate t.elem n in
      let er : w.layout.rates f ≡ rates_held vs = rates_here f fit.1.0 fit.1.1 in
      let ca = arguments_code w.layout (w.layout.rates f) xs pc p k n in
      let cb = arguments_code w.layout (rates_held vs) xs pc p k n in
      let ec : cb ≡ ca = ap (λ rs. arguments_code w.layout rs xs pc p k n) (sym er) in
      let last = calling w.layout (Some (register t.rate d)) f xs (p + length (arguments_places w.layout xs)) k n in
      let to : pc + length cb + 1 ≡ pc + length (ca ++ last ∷ []) = omega (arith, length-append ca (last ∷ []), ap length ec) in
      let here : slice_get w.routine.code (pc + length cb) ≡ Some last = subst (λ z. slice_get w.routine.code (pc + length z) ≡ Some last) (sym ec) (are_back w.routine.code pc ca (last ∷ []) has).0 in
      bind_leaves w ready u d c (pc + length cb) n 1 rest (λ zs c'. AreHanded a c' vs zs (argument_registers w.layout (rates_held vs) xs n)) (arguments (gang_of w) w.frame (calls_of w) xs a (tick s)) _ (pc + length (ca ++ last ∷ [])) n t.rate a
      (ih vs pc p k n (32 + q) (1 + rest) a (tick s) c fit.1.3
      (subst (AreAt w.routine.code pc) (sym ec) (are_front w.routine.code pc ca (last ∷ []) has))
      (are_front w.code.places p (arguments_places w.layout xs) (sp ∷ []) places) (omega (arith, le))
      (enters_part w ready pc k n (32 + q) q a s c (omega arith) b))
      (λ zs s1 ok.
      leaves_after w ready u d c ok.conf ok.steps _ n rest t.rate a _ ok.comes ok.spares ok.masks
      (back_leaves u t (record {
        function = f;
        result = Some (register t.rate d);
        mask = mask_register k;
        place = p + length
            (arguments_places w.layout xs);
        arguments = argument_registers w.layout (w.layout.rates f) xs n;
      }) (pc + length cb) _ n (ok.steps + rest) a
      s1 ok.conf _ refl ok.at to ok.stands
      (subst (λ o. GivesBackBy o w.frame a s1 (calls_of w f sp a zs w.frame s1)) fit.1.2 (call_gives w.program w.turns w.left f sp a zs w.frame s1 fit.1.0 fit.1.1))
      (called_here (Some (register t.rate d)) f xs sp (Some t) (pc + length cb) (p + length (arguments_places w.layout xs)) k n (ok.steps + rest) a s1
      ok.conf zs fit.1 (class_is t.rate d) here (are_back w.code.places p (arguments_places w.layout xs) (sp ∷ []) places).0 ok.at
      (ok.masks k b.low ∙ b.mask) b.some b.inside ok.stands (omega (arith, ok.bound)) ok.holds)))
