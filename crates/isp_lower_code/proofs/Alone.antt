-- A call that stands alone.
use Rattle.std.proofs.Common.{◌≡◌, ℕ, ◌+◌, List, [], ◌∷◌, ◌++◌, length, Some, None, refl, sym, ap, ◌∙◌, subst, arith, length-append}
use Rattle.std.specs.Prelude.{slice_get}
use Rattle.isp_base.specs.Sets.{Mask}
use Rattle.isp_base.specs.declared.types.Span.{Span}
use Rattle.isp_code.specs.Conf as machine
use Rattle.isp_code.specs.Conf.{Conf}
use Rattle.isp_code.specs.Lines.{next}
use Rattle.isp_code.specs.declared.instr.Call.{Call}
use Rattle.isp_typed.specs.Fine.{params_of}
use Rattle.isp_typed.specs.Typed.{t_called, TArguments, t_run}
use Rattle.isp_meaning.specs.Expressions.{Passed, arguments}
use Rattle.isp_meaning.specs.Outcomes.{Val, Gives, Fails, Stops, bind}
use Rattle.isp_meaning.specs.Payloads.{Payload}
use Rattle.isp_meaning.specs.Simple.{simple}
use Rattle.isp_meaning.specs.State.{State, tick}
use Rattle.isp_lower_code.specs.Callees.{rates_held}
use Rattle.isp_lower_code.specs.Calls.{AreHanded, given_back, CallRuns}
use Rattle.isp_lower_code.specs.Code.{argument_registers, arguments_code, call_code, calling}
use Rattle.isp_lower_code.specs.Spans.{arguments_places, call_places}
use Rattle.isp_lower_code.specs.Layout.{mask_register}
use Rattle.isp_lower_code.specs.Runs.{Enters, DoneRuns}
use Rattle.isp_lower_code.specs.Setting.{Setting, IsSettled, gang_of, calls_of, AreAt, At, Stands}
use Rattle.isp_lower_code.proofs.Base.{are_front, are_back}
use Rattle.isp_lower_code.proofs.Done.{done_after, bind_done}
use Rattle.isp_lower_code.proofs.CallNodes.{called_here, rates_here}
use Rattle.isp_lower_code.proofs.Exprs.{arguments_run}
use Rattle.isp_lower_code.proofs.GivenBack.{GivesBackBy, call_gives}
use Rattle.isp_lower_code.proofs.Nodes.{enters_part}
use Rattle.isp_lower_code.proofs.Parts.{CallParts}
use Rattle.isp_lower_code.proofs.Consecutive.{run_each}
use Rattle.isp_lower_code.proofs.Fixed.{known_on}
use Rattle.isp_base.specs.declared.types.Rate.TheVariants.{Uniform}

module _ (w : Setting) (ready : IsSettled w) where
  -- the value that it gives goes nowhere
  back_done : (kc : Call) (pc pc' n q : ℕ) (a : Mask) (s : State) (c : Conf) (v : Val Payload) → kc.result ≡ None → At w c pc → pc + 1 ≡ pc'
      → Stands w s c → GivesBackBy None w.frame a s v → CallRuns w.code w.turns c kc q v → DoneRuns w c pc' n q (bind v (λ m s1. Gives tt s1))
  back_done kc pc pc' n q a s c (Gives m s1) er at to st gives run =
      let c2 : Conf = record c { arrays = s1.arrays; out = s1.out } in
      record {
        conf = next c2;
        steps = run.steps;
        comes = run.comes ∙ ap (λ o. machine.Runs (given_back o m c2)) er;
        at = record { home_is = at.home_is; waiting_is = at.waiting_is; pc_is = ap (λ z. z + 1) at.pc_is ∙ to };
        stands = record {
          uniforms = λ x is. st.uniforms x is ∙ ap (λ z. z.uniforms x) (sym gives.state);
          varying = λ x. st.varying x ∙ ap (λ z. z.varying x) (sym gives.state);
          result = st.result ∙ ap (λ z. z.result) (sym gives.state);
          results = st.results ∙ ap (λ z. z.results) (sym gives.state);
          own_arrays = λ x. st.own_arrays x ∙ ap (λ z. z.own x) (sym gives.state);
          arrays_are = refl;
          out_is = refl;
          run = run_each w.layout.run w.start w.members (c.scalars (w.layout.place Uniform)) s.varying s1.varying (λ i ei. ap (λ z. z.varying i) (sym gives.state)) st.run;
          known = known_on w.function.variables w.layout w.members c.scalars c.scalars s.varying s1.varying (λ v k. refl) (λ v k. ap (λ z. z.varying v) gives.state) st.known;
          constants = st.constants;
        };
        spares = record { scalars_stay = λ e j lt. refl; vectors_stay = λ e j lt. refl; fresh_scalars = λ j. refl; fresh_vectors = λ j. refl; singles_stay = λ x is. refl };
        masks = λ r lt. refl;
        bound = run.bound;
      }
  back_done kc pc pc' n q a s c (Fails p s1) er at to st gives run = run
  back_done kc pc pc' n q a s c (Stops s1) er at to st gives run = run

  pub run_runs : (f : ℕ) (xs : TArguments) (sp : Span) (pc p k n q : ℕ) (a : Mask) (s : State) (c : Conf) → CallParts w (t_called f xs sp) None n
      → AreAt w.routine.code pc (call_code w.layout None (t_called f xs sp) pc p k n)
      → AreAt w.code.places p (call_places w.layout (t_called f xs sp)) → Enters w pc k n a s c q
      → DoneRuns w c (pc + length (call_code w.layout None (t_called f xs sp) pc p k n)) n q
      (simple (gang_of w) w.frame (calls_of w) (t_run (t_called f xs sp)) a s)
  run_runs f xs sp pc p k n q a s c fit has places b =
      let vs = params_of fit.0 in
      let er : w.layout.rates f ≡ rates_held vs = rates_here w ready f fit.0 fit.1 in
      let ca = arguments_code w.layout (w.layout.rates f) xs pc p k n in
      let cb = arguments_code w.layout (rates_held vs) xs pc p k n in
      let ec : cb ≡ ca = ap (λ rs. arguments_code w.layout rs xs pc p k n) (sym er) in
      let pd = p + length (arguments_places w.layout xs) in
      let last = calling w.layout None f xs pd k n in
      let end = pc + length (ca ++ last ∷ []) in
      let to : pc + length cb + 1 ≡ end = omega (arith, length-append ca (last ∷ []), ap length ec) in
      let here : slice_get w.routine.code (pc + length cb) ≡ Some last = subst (λ z. slice_get w.routine.code (pc + length z) ≡ Some last) (sym ec) (are_back w.routine.code pc ca (last ∷ []) has).0 in
      done_of (arguments (gang_of w) w.frame (calls_of w) xs a (tick (tick s))) (λ zs s1. calls_of w f sp a zs w.frame s1) end n q c
      (bind_done w ready c (pc + length cb) n 1 q (λ zs c'. AreHanded a c' vs zs (argument_registers w.layout (rates_held vs) xs n))
      (arguments (gang_of w) w.frame (calls_of w) xs a (tick (tick s))) (λ zs s1. bind (calls_of w f sp a zs w.frame s1) (λ m s2. Gives tt s2))
      end n
      (arguments_run w ready xs vs pc p k n (32 + q) (1 + q) a (tick (tick s)) c fit.3
      (subst (AreAt w.routine.code pc) (sym ec) (are_front w.routine.code pc ca (last ∷ []) has))
      (are_front w.code.places p (arguments_places w.layout xs) (sp ∷ []) places) (omega arith)
      (enters_part w ready pc k n (32 + q) (32 + q) a (tick s) c (omega arith) (enters_part w ready pc k n (32 + q) q a s c (omega arith) b)))
      (λ zs s1 ok.
      done_after w ready c ok.conf ok.steps end n q _ ok.comes ok.spares ok.masks
      (back_done (record { function = f; result = None; mask = mask_register k; place = pd; arguments = argument_registers w.layout (w.layout.rates f) xs n }) (pc + length cb) end n (ok.steps + q) a s1 ok.conf _ refl ok.at to ok.stands
      (subst (λ o. GivesBackBy o w.frame a s1 (calls_of w f sp a zs w.frame s1)) fit.2 (call_gives w.program w.turns w.left f sp a zs w.frame s1 fit.0 fit.1))
      (called_here w ready None f xs sp None (pc + length cb) pd k n (ok.steps + q) a s1 ok.conf zs fit tt here
      (are_back w.code.places p (arguments_places w.layout xs) (sp ∷ []) places).0 ok.at (ok.masks k b.low ∙ b.mask) b.some b.inside ok.stands
      (omega (arith, ok.bound)) ok.holds))))
    where
      done_of : (v : Val (List Passed)) (go : List Passed → State → Val Payload) (end n q : ℕ) (c : Conf) → DoneRuns w c end n q (bind v (λ zs s1. bind (go zs s1) (λ m s2. Gives tt s2))) → DoneRuns w c end n q (bind (bind v go) (λ m s2. Gives tt s2))
      done_of (Gives zs s1) go end n q c r = r
      done_of (Fails t s1) go end n q c r = r
      done_of (Stops s1) go end n q c r = r
