-- Values in a row leave three steps each, for what is done with them once all are taken. Where one traps or is cut, nothing is done.
use Rattle.std.proofs.Common.{◌≡◌, ℕ, suc, ◌+◌, ◌*◌, ◌≤◌, List, ◌∷◌, ◌++◌, length, refl, sym, ◌∙◌, subst, arith, length-append}
use Rattle.isp_base.specs.Sets.{Mask}
use Rattle.isp_base.specs.declared.trap.Trap.{Trap}
use Rattle.isp_base.specs.declared.types.Rate.{Rate}
use Rattle.isp_code.specs.Conf.{Conf}
use Rattle.isp_meaning.specs.Expressions.{value, values}
use Rattle.isp_meaning.specs.Loads.{KeepsBy}
use Rattle.isp_meaning.specs.Outcomes.{Val, Gives, Fails, Stops, bind}
use Rattle.isp_meaning.specs.Payloads.{Payload}
use Rattle.isp_meaning.specs.State.{State}
use Rattle.isp_typed.specs.Fine.{heads}
use Rattle.isp_typed.specs.Typed.{TExpr, TExprs, t_no_exprs, t_expr_then, type_of}
use Rattle.isp_lower_code.specs.Callees.{next_rate, later}
use Rattle.isp_lower_code.specs.Code.{expr_code, values_code, value_registers}
use Rattle.isp_lower_code.specs.Found.{operand, operand_of}
use Rattle.isp_lower_code.specs.Spans.{expr_places, values_places}
use Rattle.isp_lower_code.specs.Runs.{Enters, Failed, Stopped, Ok, Runs}
use Rattle.isp_lower_code.specs.Setting.{Setting, IsSettled, gang_of, calls_of, AreAt, Holds}
use Rattle.isp_lower_code.proofs.Base.{are_front, are_back, comes_none, comes_on, at_to, spares_all, spares_less, spares_on}
use Rattle.isp_lower_code.proofs.Combine.{failed_after, stopped_after}
use Rattle.isp_lower_code.proofs.Exprs.{expr_runs}
use Rattle.isp_lower_code.proofs.Found.{few, operand_low}
use Rattle.isp_lower_code.proofs.InRow.{AllHold}
use Rattle.isp_lower_code.proofs.Kept.{kept_of, held_kept, values_still}
use Rattle.isp_lower_code.proofs.LibraryTypes.{count_of}
use Rattle.isp_lower_code.proofs.Nodes.{enters_later, operand_runs}
use Rattle.isp_lower_code.proofs.Parts.{OperandFits, ExprParts, ValuesParts}

module _ (w : Setting) (ready : IsSettled w) where
  -- code does what values mean, and has d steps left where it gives them
  abbrev pub RunsLeaving : {A : Type 0} → Conf → ℕ → ℕ → ℕ → ℕ → (A → Conf → Type 0) → Val A → Type 0
  RunsLeaving c pc n d q P (Gives x s) = Ok w c pc n (d + q) (P x) s
  RunsLeaving c pc n d q P (Fails t s) = Failed w c q t s
  RunsLeaving c pc n d q P (Stops s) = Stopped w w.turns c q s

  fails_less : (c : Conf) (z q : ℕ) (t : Trap) (s : State) → q ≤ z → Failed w c z t s → Failed w c q t s
  fails_less c z q t s le f = record { conf = f.conf; steps = f.steps; fails = f.fails; arrays_are = f.arrays_are; out_is = f.out_is; bound = omega (arith, le, f.bound) }

  stops_less : (c : Conf) (z q : ℕ) (s : State) → q ≤ z → Stopped w w.turns c z s → Stopped w w.turns c q s
  stops_less c z q s le f = record { conf = f.conf; steps = f.steps; far = f.far; goes = f.goes; out_is = f.out_is; bound = omega (arith, le, f.bound) }

  -- the rest of the values, once the first is held
  rest_leave : (rs : List Rate) (x : TExpr) (regs : List ℕ) (n pc pc1 d q : ℕ) (a : Mask) (m : Payload) (s : State) (c : Conf)
      (ok : Ok w c pc1 n (3 + q) (Holds (next_rate rs) a (operand w.layout (next_rate rs) x n) m) s) (v : Val (List Payload))
      → OperandFits w (next_rate rs) (type_of x).elem x n → ExprParts w x n → KeepsBy w.layout.loaded s v
      → RunsLeaving ok.conf pc (n + 1) d (ok.steps + (3 + q)) (λ ms c'. AllHold (later rs) a regs ms c') v
      → RunsLeaving c pc n (3 + d) q (λ ms c'. AllHold rs a (operand w.layout (next_rate rs) x n ∷ regs) ms c') (bind v (λ ms s1. Gives (m ∷ ms) s1))
  rest_leave rs x regs n pc pc1 d q a m s c ok (Gives ms s1) fit parts k r = record {
    conf = r.conf;
    steps = ok.steps + r.steps;
    comes = comes_on w c ok.conf r.conf ok.steps r.steps ok.comes r.comes;
    at = r.at;
    stands = r.stands;
    spares = spares_on w n c ok.conf r.conf ok.spares (spares_less w n (n + 1) ok.conf r.conf (omega arith) r.spares);
    masks = λ j lt. r.masks j (omega arith) ∙ ok.masks j lt;
    holds = (
      ok.holds ∙ sym (held_kept w (next_rate rs) (n + 1) ok.conf r.conf a (operand w.layout (next_rate rs) x n)
          (kept_of w (n + 1) ok.conf r.conf s s1 ok.stands r.stands k r.spares) (operand_low w ready (next_rate rs) (type_of x).elem x n fit parts)),
      r.holds,
    );
    bound = omega (arith, r.bound);
  }
  rest_leave rs x regs n pc pc1 d q a m s c ok (Fails p s1) fit parts k r = failed_after w ready c ok.conf ok.steps q p s1 ok.comes (fails_less ok.conf (ok.steps + (3 + q)) (ok.steps + q) p s1 (omega arith) r)
  rest_leave rs x regs n pc pc1 d q a m s c ok (Stops s1) fit parts k r = stopped_after w ready w.turns c ok.conf ok.steps q s1 ok.comes (stops_less ok.conf (ok.steps + (3 + q)) (ok.steps + q) s1 (omega arith) r)

  -- a value, and what follows it
  first_leaves : {B : Type 0} (c : Conf) (pc pc1 n d q : ℕ) (P : Payload → Conf → Type 0) (Q : B → Conf → Type 0) (v : Val Payload)
      (go : Payload → State → Val B) → Runs w c pc1 n (3 + q) P v
      → ((m : Payload) (s : State) → Ok w c pc1 n (3 + q) (P m) s → RunsLeaving c pc n d q Q (go m s)) → RunsLeaving c pc n d q Q (bind v go)
  first_leaves c pc pc1 n d q P Q (Gives m s) go r f = f m s r
  first_leaves c pc pc1 n d q P Q (Fails p s) go r f = fails_less c (3 + q) q p s (omega arith) r
  first_leaves c pc pc1 n d q P Q (Stops s) go r f = stops_less c (3 + q) q s (omega arith) r

  pub values_leave : (xs : TExprs) (rs : List Rate) (pc p k n q : ℕ) (a : Mask) (s : State) (c : Conf) → ValuesParts w rs xs n
      → AreAt w.routine.code pc (values_code w.layout rs xs pc p k n) → AreAt w.code.places p (values_places w.layout xs) → Enters w pc k n a s c q
      → RunsLeaving c (pc + length (values_code w.layout rs xs pc p k n)) n (3 * count_of xs) q
      (λ ms c'. AllHold rs a (value_registers w.layout rs xs n) ms c') (values (gang_of w) w.frame (calls_of w) xs a s)
  values_leave t_no_exprs rs pc p k n q a s c fit has places b = record {
    conf = c;
    steps = 0;
    comes = comes_none w c;
    at = at_to w c pc _ b.at (omega arith);
    stands = b.stands;
    spares = spares_all w n c;
    masks = λ j h. refl;
    holds = tt;
    bound = omega (arith, b.used);
  }
  values_leave (t_expr_then x xs) rs pc p k n q a s c fit has places b =
      let r = next_rate rs in
      let f : heads x ≤ 1 = few w x n fit.1 in
      let cx = expr_code w.layout x pc p k n in
      let ca = operand_of w.layout r x k n cx in
      let pc1 = pc + length ca in
      let px = expr_places w.layout x in
      let p1 = p + length px in
      let cb = values_code w.layout (later rs) xs pc1 p1 k (n + 1) in
      let regs = value_registers w.layout (later rs) xs (n + 1) in
      let to : pc1 + length cb ≡ pc + length (ca ++ cb) = omega (arith, length-append ca cb) in
      let size : 3 + 3 * count_of xs ≡ 3 * suc (count_of xs) = omega arith in
      let ha : AreAt w.routine.code pc ca = are_front w.routine.code pc ca cb has in
      let all = value (gang_of w) w.frame (calls_of w) x a s in
      let then = λ (m : Payload) (s1 : State). bind (values (gang_of w) w.frame (calls_of w) xs a s1) (λ ms s2. Gives (m ∷ ms) s2) in
      subst (λ d. RunsLeaving c (pc + length (ca ++ cb)) n d q (λ ms c'. AllHold rs a (operand w.layout r x n ∷ regs) ms c') (bind all then)) size
      (subst (λ g. RunsLeaving c g n (3 + 3 * count_of xs) q (λ ms c'. AllHold rs a (operand w.layout r x n ∷ regs) ms c') (bind all then)) to
      (first_leaves c (pc1 + length cb) pc1 n (3 + 3 * count_of xs) q (Holds r a (operand w.layout r x n)) (λ ms c'. AllHold rs a (operand w.layout r x n ∷ regs) ms c') all then
      (operand_runs w ready c pc k n q (3 + q) a s r (type_of x).elem x cx fit.0 (omega (arith, f)) b ha
      (λ at. expr_runs w ready x pc p k n q (1 + (3 + q)) a s c fit.1 at (are_front w.code.places p px _ places) (omega (arith, f)) b))
      (λ m s1 ok.
      rest_leave rs x regs n (pc1 + length cb) pc1 (3 * count_of xs) q a m s1 c ok (values (gang_of w) w.frame (calls_of w) xs a s1) fit.0 fit.1 (values_still w ready (later rs) xs (n + 1) a s1 fit.2)
      (values_leave xs (later rs) pc1 p1 k (n + 1) (ok.steps + (3 + q)) a s1 ok.conf fit.2 (are_back w.routine.code pc ca cb has)
      (are_back w.code.places p px _ places) (enters_later w ready pc pc1 k n (n + 1) (ok.steps + (3 + q)) q (3 + q) a s s1 c (omega arith) b ok
      (omega arith))))))
