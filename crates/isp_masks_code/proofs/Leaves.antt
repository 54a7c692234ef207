-- Those that leave: `break`, `continue` and `return`.
use Rattle.std.proofs.Common.{◌≡◌, ◌≢◌, ℕ, ◌+◌, ◌*◌, ◌<◌, ◌≤◌, [], ◌∷◌, ◌++◌, length, Option, Some, None, refl, sym, ap, ◌∙◌, subst, arith, length-append}
use Rattle.isp_base.specs.Maps.{over, put}
use Rattle.isp_base.specs.Sets.{Mask, nobody, union}
use Rattle.isp_base.specs.declared.types.Rate.{Rate}
use Rattle.isp_base.specs.declared.types.Rate.TheVariants.{Uniform, Varying}
use Rattle.isp_base.specs.declared.types.Ty.{Ty}
use Rattle.isp_code.specs.Conf.{Conf, Go}
use Rattle.isp_tree.specs.declared.stmt.Jump.{Jump}
use Rattle.isp_tree.specs.declared.stmt.Jump.TheVariants.{Break, Continue}
use Rattle.isp_typed.specs.Fine.{heads}
use Rattle.isp_typed.specs.Typed.{TExpr, type_of}
use Rattle.isp_meaning.specs.State.{State, tick}
use Rattle.isp_meaning.specs.Payloads.{Payload, sole, spread}
use Rattle.isp_meaning.specs.Outcomes.{Went, with_value}
use Rattle.isp_meaning.specs.Expressions.{value}
use Rattle.isp_meaning.specs.Statements.{answered, answered_at, jumped}
use Rattle.isp_lower_code.specs.Code.{expr_code}
use Rattle.isp_lower_code.specs.Found.{found, operand, operand_of}
use Rattle.isp_lower_code.specs.Instructions.{copy}
use Rattle.isp_lower_code.specs.Spans.{expr_places}
use Rattle.isp_lower_code.specs.Runs.{Comes}
use Rattle.isp_lower_code.specs.Setting.{Setting, IsSettled, gang_of, calls_of, AreAt, At, Stands, Spares, at_rate, held_at, Holds}
use Rattle.isp_lower_code.proofs.Lemmas.{are_front, are_back, put_same, put_other, comes_on, step_go, at_to, spares_all, spares_on, set_comes, set_goes, set_masks, few, masked}
use Rattle.isp_lower_code.proofs.Lemmas.{masked_at, set_at, copy_line, enters_part, operand_runs, expr_runs, known_put, run_place, scalar_put, vector_put}
use Rattle.isp_masks_code.specs.Sets.{unite, clear_mask, leave_code, jump_code}
use Rattle.isp_masks_code.specs.Statements.{answer_code}
use Rattle.isp_masks_code.specs.Spots.{Spot}
use Rattle.isp_masks_code.specs.StmtRuns.{AreThree, EntersAt, StmtOk, StmtRuns}
use Rattle.isp_masks_code.proofs.Unions.{union_nobody}
use Rattle.isp_masks_code.proofs.Combine.{with_runs}
use Rattle.isp_masks_code.proofs.Parts.{AnswerFits}

module _ (w : Setting) (ready : IsSettled w) where
  -- after those of mask k left into mask m
  abbrev gone : Conf → ℕ → ℕ → Conf
  gone c m k = masked w ready (masked w ready c m (union (c.masks m) (c.masks k))) k nobody

  gone_comes : (c : Conf) (pc m k : ℕ) → At w c pc → AreAt w.routine.code pc (leave_code m k) → Comes w c 2 (gone c m k)
  gone_comes c pc m k at has =
      let c1 = masked w ready c m (union (c.masks m) (c.masks k)) in
      comes_on w c c1 (gone c m k) 1 1 (step_go w c pc (unite m m k) c1 ready at has.0 refl) (step_go w c1 (pc + 1) (clear_mask k) (gone c m k) ready (masked_at w ready c pc m (union (c.masks m) (c.masks k)) at) has.1.0 refl)

  gone_at : (c : Conf) (pc m k : ℕ) → At w c pc → At w (gone c m k) (pc + 1 + 1)
  gone_at c pc m k at = masked_at w ready (masked w ready c m (union (c.masks m) (c.masks k))) (pc + 1) k nobody (masked_at w ready c pc m (union (c.masks m) (c.masks k)) at)

  gone_grows : (c : Conf) (m k : ℕ) (a : Mask) → m ≢ k → c.masks k ≡ a → (gone c m k).masks m ≡ union (c.masks m) a
  gone_grows c m k a ne em = put_other (masked w ready c m (union (c.masks m) (c.masks k))).masks k nobody m ne ∙ put_same c.masks m (union (c.masks m) (c.masks k)) ∙ ap (union (c.masks m)) em

  gone_other : (c : Conf) (m k i : ℕ) → i ≢ k → i ≢ m → (gone c m k).masks i ≡ c.masks i
  gone_other c m k i nk nm = put_other (masked w ready c m (union (c.masks m) (c.masks k))).masks k nobody i nk ∙ put_other c.masks m (union (c.masks m) (c.masks k)) i nm

  pub jump_runs : (j : Jump) (pc : ℕ) (spot : Spot) (q : ℕ) (a : Mask) (s : State) (c : Conf)
      → AreAt w.routine.code pc (jump_code j spot.on spot.continued) → AreThree spot → EntersAt w pc spot a s c q
      → StmtRuns w w.turns c (pc + length (jump_code j spot.on spot.continued)) spot (1 + q) (jumped j a (tick s))
  jump_runs Break pc spot q a s c has three b =
      let ck : spot.continued ≢ spot.on = λ e. three.on_continued (sym e) in
      let rk : spot.returned ≢ spot.on = λ e. three.on_returned (sym e) in
      record {
        conf = masked w ready c spot.on nobody;
        steps = 1;
        comes = step_go w c pc (clear_mask spot.on) (masked w ready c spot.on nobody) ready b.at has.0 refl;
        at = masked_at w ready c pc spot.on nobody b.at;
        stands = b.stands;
        spares = spares_all w spot.slot c;
        went = put_same c.masks spot.on nobody;
        continued = put_other c.masks spot.on nobody spot.continued ck ∙ sym (union_nobody (c.masks spot.continued));
        returned = put_other c.masks spot.on nobody spot.returned rk ∙ sym (union_nobody (c.masks spot.returned));
        masks = λ i lt x y z. put_other c.masks spot.on nobody i x;
        bound = omega (arith, b.used);
      }
  jump_runs Continue pc spot q a s c has three b =
      let ck : spot.continued ≢ spot.on = λ e. three.on_continued (sym e) in
      let rk : spot.returned ≢ spot.on = λ e. three.on_returned (sym e) in
      let rc : spot.returned ≢ spot.continued = λ e. three.continued_returned (sym e) in
      let to : pc + 1 + 1 ≡ pc + 2 = omega arith in
      record {
        conf = gone c spot.continued spot.on;
        steps = 2;
        comes = gone_comes c pc spot.continued spot.on b.at has;
        at = at_to w (gone c spot.continued spot.on) (pc + 1 + 1) (pc + 2) (gone_at c pc spot.continued spot.on b.at) to;
        stands = b.stands;
        spares = spares_all w spot.slot c;
        went = put_same (masked w ready c spot.continued (union (c.masks spot.continued) (c.masks spot.on))).masks spot.on nobody;
        continued = gone_grows c spot.continued spot.on a ck b.mask;
        returned = gone_other c spot.continued spot.on spot.returned rk rc ∙ sym (union_nobody (c.masks spot.returned));
        masks = λ i lt x y z. gone_other c spot.continued spot.on i x y;
        bound = omega (arith, b.used);
      }

  -- after t steps all of the set return
  pub return_ok : (c c1 : Conf) (t pc : ℕ) (spot : Spot) (q : ℕ) (a : Mask) (s : State) → Comes w c t c1 → At w c1 pc → Stands w s c1
      → Spares w spot.slot c c1 → ((r : ℕ) → r < spot.slot → c1.masks r ≡ c.masks r) → c.masks spot.on ≡ a
      → AreAt w.routine.code pc (leave_code spot.returned spot.on) → AreThree spot → t + 2 + q ≤ 32 * s.work
      → StmtOk w c (pc + 2) spot q s nobody nobody a
  return_ok c c1 t pc spot q a s h at st sp ma em has three le =
      let ck : spot.continued ≢ spot.on = λ e. three.on_continued (sym e) in
      let rk : spot.returned ≢ spot.on = λ e. three.on_returned (sym e) in
      let to : pc + 1 + 1 ≡ pc + 2 = omega arith in
      record {
        conf = gone c1 spot.returned spot.on;
        steps = t + 2;
        comes = comes_on w c c1 (gone c1 spot.returned spot.on) t 2 h (gone_comes c1 pc spot.returned spot.on at has);
        at = at_to w (gone c1 spot.returned spot.on) (pc + 1 + 1) (pc + 2) (gone_at c1 pc spot.returned spot.on at) to;
        stands = st;
        spares = sp;
        went = put_same (masked w ready c1 spot.returned (union (c1.masks spot.returned) (c1.masks spot.on))).masks spot.on nobody;
        continued = gone_other c1 spot.returned spot.on spot.continued ck three.continued_returned ∙ ma spot.continued three.low_continued ∙ sym (union_nobody (c.masks spot.continued));
        returned = gone_grows c1 spot.returned spot.on a rk (ma spot.on three.low_on ∙ em) ∙ ap (λ z. union z a) (ma spot.returned three.low_returned);
        masks = λ i lt x y z. gone_other c1 spot.returned spot.on i x z ∙ ma i lt;
        bound = le;
      }

  -- ---- a result

  result_stands : (r : Rate) (c : Conf) (a : Mask) (m : Payload) (s : State) (y : Payload) → Stands w s c → at_rate r a m ≡ y → Stands w (answered_at r a m s) (set_at r c (w.layout.result r) y)
  result_stands Uniform c a m s y st e = record {
    uniforms = λ v is. put_other c.scalars (w.layout.result Uniform) (sole y) (w.layout.variable Uniform v) (λ h. ready.apart.result_variable Uniform v (sym h)) ∙ st.uniforms v is;
    varying = st.varying;
    result = put_same c.scalars (w.layout.result Uniform) (sole y) ∙ ap sole (sym e);
    results = st.results;
    own_arrays = st.own_arrays;
    arrays_are = st.arrays_are;
    out_is = st.out_is;
    run = run_place w.layout.run w.start w.members (c.scalars (w.layout.place Uniform))
        (put c.scalars (w.layout.result Uniform) (sole y) (w.layout.place Uniform)) s.varying
        (sym (put_other c.scalars (w.layout.result Uniform) (sole y) (w.layout.place Uniform) (ready.apart.place_result Uniform))) st.run;
    known = known_put w.function.variables w.layout w.members c.scalars (w.layout.result Uniform) (sole y) s.varying (λ v k e. ready.apart.result_variable Uniform v (sym e)) st.known;
    constants = scalar_put w.layout (gang_of w) c.scalars c.vectors (w.layout.result Uniform) (sole y) (λ t b k. ready.apart.kept_result Uniform t b k) st.constants;
  }
  result_stands Varying c a m s y st e =
      let x = over (spread nobody y) (c.vectors (w.layout.result Varying)) in
      record {
        uniforms = st.uniforms;
        varying = λ v. put_other c.vectors (w.layout.result Varying) x (w.layout.variable Varying v) (λ h. ready.apart.result_variable Varying v (sym h)) ∙ st.varying v;
        result = st.result;
        results = put_same c.vectors (w.layout.result Varying) x ∙ ap (λ z. over (spread nobody z) (c.vectors (w.layout.result Varying))) (sym e) ∙ ap (over (spread a m)) st.results;
        own_arrays = st.own_arrays;
        arrays_are = st.arrays_are;
        out_is = st.out_is;
        run = st.run;
        known = st.known;
        constants = vector_put w.layout (gang_of w) c.scalars c.vectors (w.layout.result Varying) x (λ t b k. ready.apart.kept_result Varying t b k) st.constants;
      }

  result_spares : (r : Rate) (n : ℕ) (c : Conf) (y : Payload) → Spares w n c (set_at r c (w.layout.result r) y)
  result_spares Uniform n c y = record {
    scalars_stay = λ t j lt. put_other c.scalars (w.layout.result Uniform) (sole y) (w.layout.spare Uniform t j) (λ e. ready.apart.result_spare Uniform t j (sym e));
    vectors_stay = λ t j lt. refl;
    fresh_scalars = λ j. put_other c.scalars (w.layout.result Uniform) (sole y) (w.layout.fresh Uniform j) (λ e. ready.apart.result_fresh Uniform j (sym e));
    fresh_vectors = λ j. refl;
    singles_stay = λ v is. put_other c.scalars (w.layout.result Uniform) (sole y) (w.layout.variable Uniform v) (λ e. ready.apart.result_variable Uniform v (sym e));
  }
  result_spares Varying n c y = record {
    scalars_stay = λ t j lt. refl;
    vectors_stay = λ t j lt. put_other c.vectors (w.layout.result Varying)
        (over (spread nobody y) (c.vectors (w.layout.result Varying))) (w.layout.spare Varying t j) (λ e. ready.apart.result_spare Varying t j (sym e));
    fresh_scalars = λ j. refl;
    fresh_vectors = λ j. put_other c.vectors (w.layout.result Varying)
        (over (spread nobody y) (c.vectors (w.layout.result Varying))) (w.layout.fresh Varying j) (λ e. ready.apart.result_fresh Varying j (sym e));
    singles_stay = λ v is. refl;
  }

  answered_work : (r : Rate) (a : Mask) (m : Payload) (s : State) → (answered_at r a m s).work ≡ s.work
  answered_work Uniform a m s = refl
  answered_work Varying a m s = refl

  pub return_runs : (answer : Option Ty) (x : TExpr) (pc p : ℕ) (spot : Spot) (q : ℕ) (a : Mask) (s : State) (c : Conf)
      → AnswerFits w answer x spot.slot → AreAt w.routine.code pc
      (answer_code w.layout answer x pc p spot.on spot.slot ++ leave_code spot.returned spot.on) → AreAt w.code.places p (expr_places w.layout x)
      → AreThree spot → EntersAt w pc spot a s c q → StmtRuns w w.turns c
      (pc + length (answer_code w.layout answer x pc p spot.on spot.slot ++ leave_code spot.returned spot.on)) spot (1 + q)
      (with_value (value (gang_of w) w.frame (calls_of w) x a (tick s)) (λ m s1. Went (answered answer a m s1) nobody nobody nobody a))
  return_runs None x pc p spot q a s c fit has places three b =
      let fx : heads x ≤ 1 = few w x spot.slot fit in
      let cx = expr_code w.layout x pc p spot.on spot.slot in
      let pc1 = pc + length cx in
      let to : pc1 + 2 ≡ pc + length (cx ++ leave_code spot.returned spot.on) = omega (arith, length-append cx (leave_code spot.returned spot.on)) in
      with_runs w ready c pc1 spot.slot 2 (1 + q) (Holds (type_of x).rate a (found w.layout x spot.slot)) _ _ (pc + length (cx ++ leave_code spot.returned spot.on)) spot
      (expr_runs w ready x pc p spot.on spot.slot (32 + q) (2 + (1 + q)) a (tick s) c fit (are_front w.routine.code pc cx _ has) places (omega arith) (enters_part w ready pc spot.on spot.slot (32 + q) q a s c (omega arith) b))
      (λ m s1 ok. subst (λ z. StmtOk w c z spot (1 + q) s1 nobody nobody a) to
      (return_ok c ok.conf ok.steps pc1 spot (1 + q) a s1 ok.comes ok.at ok.stands ok.spares ok.masks b.mask (are_back w.routine.code pc cx _ has)
      three (omega (arith, ok.bound))))
  return_runs (Some t) x pc p spot q a s c fit has places three b =
      let fx : heads x ≤ 1 = few w x spot.slot fit.1 in
      let cx = expr_code w.layout x pc p spot.on spot.slot in
      let ca = operand_of w.layout t.rate x spot.on spot.slot cx in
      let u = operand w.layout t.rate x spot.slot in
      let d = w.layout.result t.rate in
      let put_it = copy t.rate d u spot.on ∷ [] in
      let pc1 = pc + length ca in
      let end = pc + length ((ca ++ put_it) ++ leave_code spot.returned spot.on) in
      let to : pc1 + 1 + 2 ≡ end = omega (arith, length-append (ca ++ put_it) (leave_code spot.returned spot.on), length-append ca put_it) in
      let h1 : AreAt w.routine.code pc (ca ++ put_it) = are_front w.routine.code pc (ca ++ put_it) (leave_code spot.returned spot.on) has in
      let ha : AreAt w.routine.code pc ca = are_front w.routine.code pc ca put_it h1 in
      let e2 : pc + length (ca ++ put_it) ≡ pc1 + 1 = omega (arith, length-append ca put_it) in
      let h2 : AreAt w.routine.code (pc1 + 1) (leave_code spot.returned spot.on) = subst (λ z. AreAt w.routine.code z (leave_code spot.returned spot.on)) e2 (are_back w.routine.code pc (ca ++ put_it) (leave_code spot.returned spot.on) has) in
      with_runs w ready c pc1 spot.slot 3 (1 + q) (Holds t.rate a u) (value (gang_of w) w.frame (calls_of w) x a (tick s)) _ end spot
      (operand_runs w ready c pc spot.on spot.slot (32 + q) (3 + (1 + q)) a (tick s) t.rate t.elem x cx fit.0 (omega arith) (enters_part w ready pc spot.on spot.slot (32 + q) q a s c (omega arith) b) ha
      (λ at. expr_runs w ready x pc p spot.on spot.slot (32 + q) (1 + (3 + (1 + q))) a (tick s) c fit.1 at places (omega arith) (enters_part w ready pc spot.on spot.slot (32 + q) q a s c (omega arith) b)))
      (λ m s1 ok.
      let c1 = ok.conf in
      let em : c1.masks spot.on ≡ a = ok.masks spot.on b.low ∙ b.mask in
      let y = held_at t.rate c1.scalars c1.vectors a u in
      let c2 = set_at t.rate c1 d y in
      let ew : (answered_at t.rate a m s1).work ≡ s1.work = answered_work t.rate a m s1 in
      let is = copy_line w.code w.routine c1 t.rate d u spot.on ∙ ap (λ z. Go (set_at t.rate c1 d (held_at t.rate c1.scalars c1.vectors z u))) em in
      subst (λ z. StmtOk w c z spot (1 + q) (answered_at t.rate a m s1) nobody nobody a) to
      (return_ok c c2 (ok.steps + 1) (pc1 + 1) spot (1 + q) a (answered_at t.rate a m s1)
      (comes_on w c c1 c2 ok.steps 1 ok.comes (set_comes w ready t.rate c1 d y pc1 (copy t.rate d u spot.on) ok.at
      (are_back w.routine.code pc ca put_it h1).0 is)) (set_goes w ready t.rate c1 d y pc1 ok.at)
      (result_stands t.rate c1 a m s1 y ok.stands ok.holds) (spares_on w spot.slot c c1 c2 ok.spares (result_spares t.rate spot.slot c1 y))
      (λ r lt. set_masks w ready t.rate c1 d y r ∙ ok.masks r lt) b.mask h2 three (omega (arith, ok.bound, ew))))
