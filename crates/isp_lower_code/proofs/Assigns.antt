-- Assignments: the target's index, the right side, the access; and a value that nobody takes.
use Rattle.std.proofs.Common.{◌≡◌, ℕ, ◌+◌, ◌<◌, ◌≤◌, ◌++◌, length, ◌∙◌, arith, length-append}
use Rattle.isp_base.specs.Sets.{Mask}
use Rattle.isp_base.specs.declared.types.Span.{Span}
use Rattle.isp_code.specs.Conf.{Conf}
use Rattle.isp_typed.specs.Fine.{heads}
use Rattle.isp_typed.specs.Typed.{TExpr, TPlace, t_variable, t_element, t_assign, t_value, type_of}
use Rattle.isp_meaning.specs.State.{State, tick}
use Rattle.isp_meaning.specs.Expressions.{place}
use Rattle.isp_meaning.specs.Simple.{simple}
use Rattle.isp_lower_code.specs.Setting.{Setting, IsSettled, gang_of, calls_of, AreAt, Holds}
use Rattle.isp_lower_code.specs.Runs.{Enters, DoneRuns}
use Rattle.isp_lower_code.specs.Code.{index_code, expr_code}
use Rattle.isp_lower_code.specs.Elements.{access, reached, write_from}
use Rattle.isp_lower_code.specs.Found.{operand, operand_of, found}
use Rattle.isp_lower_code.specs.Spans.{expr_places}
use Rattle.isp_lower_code.specs.Simple.{assign_code, assign_places}
use Rattle.isp_lower_code.proofs.Base.{are_front, are_back, spares_less}
use Rattle.isp_lower_code.proofs.Found.{few, operand_low}
use Rattle.isp_lower_code.proofs.Nodes.{enters_part, enters_later, operand_runs}
use Rattle.isp_lower_code.proofs.PlainNodes.{means}
use Rattle.isp_lower_code.proofs.ElementRuns.{PlaceHolds}
use Rattle.isp_lower_code.proofs.Exprs.{expr_runs}
use Rattle.isp_lower_code.proofs.Done.{done_after, bind_done}
use Rattle.isp_lower_code.proofs.Places.{place_runs, place_kept}
use Rattle.isp_lower_code.proofs.Reached.{access_done}
use Rattle.isp_lower_code.proofs.Variables.{variable_runs}
use Rattle.isp_lower_code.proofs.Kept.{Keeps, low_more, runs_kept, value_still}
use Rattle.isp_lower_code.proofs.Parts.{ExprParts, SimpleParts}
use Rattle.isp_lower_code.specs.Asks.{beyond}

-- the slot after that of an index is not below it
pub beyond_more : (z : TPlace) (n : ℕ) → (n ≤ beyond z n) × (beyond z n ≤ n + 1)
beyond_more (t_variable v t sp) n = (omega arith, omega arith)
beyond_more (t_element b i t sp) n = (omega arith, omega arith)

module _ (w : Setting) (ready : IsSettled w) where
  pub assign_runs : (z : TPlace) (x : TExpr) (sp : Span) (pc p k n q : ℕ) (a : Mask) (s : State) (c : Conf) → SimpleParts w (t_assign z x sp) n
      → AreAt w.routine.code pc (assign_code w.layout z x pc p k n) → AreAt w.code.places p (assign_places w.layout z x) → Enters w pc k n a s c q
      → DoneRuns w c (pc + length (assign_code w.layout z x pc p k n)) n q (simple (gang_of w) w.frame (calls_of w) (t_assign z x sp) a s)
  assign_runs (t_variable v t sv) x sp pc p k n q a s c fit has places b =
      let fx : heads x ≤ 1 = few w x n fit.2 in
      variable_runs w ready t.rate t.elem v x pc p k n (64 + q) q a (tick (tick s)) c fit.3 fit.0.0 fit.1 fit.2 has
      (are_front w.code.places p (expr_places w.layout x) _ places) (omega arith)
      (enters_part w ready pc k n (64 + q) (32 + q) a (tick s) c (omega arith) (enters_part w ready pc k n (32 + q) q a s c (omega arith) b))
  assign_runs (t_element y i t sv) x sp pc p k n q a s c fit has places b =
      let r = t.rate in
      let m = n + 1 in
      let z = t_element y i t sv in
      let lk : k < n = b.low in
      let fx : heads x ≤ 1 = few w x m fit.2 in
      let ci = index_code w.layout z pc p k n in
      let pc1 = pc + length ci in
      let p1 = p + length (expr_places w.layout i) in
      let cx = expr_code w.layout x pc1 p1 k m in
      let ca = operand_of w.layout r x k m cx in
      let v = access w.layout y.ty.rate t.rate i n in
      let u = operand w.layout r x m in
      let pw = p1 + length (expr_places w.layout x) in
      let last = write_from w.layout v (type_of i).elem t.rate (w.layout.array y.number) (reached w.layout v t.rate i n) u pw (pc1 + length ca) k (n + 2) in
      let end = pc + length (ci ++ (ca ++ last)) in
      let to : pc1 + length ca + length last ≡ end = omega (arith, length-append ci (ca ++ last), length-append ca last) in
      let h1 : AreAt w.routine.code pc1 (ca ++ last) = are_back w.routine.code pc ci (ca ++ last) has in
      let ha : AreAt w.routine.code pc1 ca = are_front w.routine.code pc1 ca last h1 in
      let pl = are_back w.code.places p (expr_places w.layout i) _ places in
      bind_done w ready c pc1 n 12 q (PlaceHolds w ready z n a) (place (gang_of w) w.frame (calls_of w) z a (tick s)) _ end n
      (place_runs w ready z pc p k n 12 q a (tick s) c (omega arith) fit.0 (are_front w.routine.code pc ci _ has) (are_front w.code.places p (expr_places w.layout i) _ places) (enters_part w ready pc k n q q a s c (omega arith) b))
      (λ at s1 ok.
      let c1 = ok.conf in
      done_after w ready c c1 ok.steps end n q _ ok.comes ok.spares ok.masks
      (bind_done w ready c1 (pc1 + length ca) m 12 (ok.steps + q) (λ d c'. Holds r a u d c' × Keeps w m c1 c') (means w ready x a s1) _ end n
      (runs_kept w c1 (pc1 + length ca) m (12 + (ok.steps + q)) (Holds r a u) (means w ready x a s1) s1 ok.stands (value_still w ready x m a s1 fit.2)
      (operand_runs w ready c1 pc1 k m (11 + (ok.steps + q)) (12 + (ok.steps + q)) a s1 r t.elem x cx fit.1 (omega arith)
      (enters_later w ready pc pc1 k n m (11 + (ok.steps + q)) q (12 + q) a s s1 c (omega arith) b ok (omega arith)) ha
      (λ at. expr_runs w ready x pc1 p1 k m (11 + (ok.steps + q)) (1 + (12 + (ok.steps + q))) a s1 c1 fit.2 at
      (are_front w.code.places p1 (expr_places w.layout x) _ pl) (omega arith)
      (enters_later w ready pc pc1 k n m (11 + (ok.steps + q)) q (12 + q) a s s1 c (omega arith) b ok (omega arith)))))
      (λ d s2 ok2.
      access_done w ready y i t sv n fit.0 at d c1 ok2.conf ok2.steps (pc1 + length ca) end k u (n + 2) pw (ok.steps + q) a s2 (omega arith) (omega arith)
      (low_more w r (m + 1) (n + 2) u (omega arith) (operand_low w ready r t.elem x m fit.1 fit.2)) ok2.comes ok2.at
      (are_back w.routine.code pc1 ca last h1) to (are_back w.code.places p1 (expr_places w.layout x) _ pl).0 ok2.stands
      (spares_less w n m c1 ok2.conf (omega arith) ok2.spares) (λ r g. ok2.masks r (omega arith))
      (ok2.masks k (omega arith) ∙ ok.masks k lk ∙ b.mask) b.some b.inside lk (omega (arith, ok2.bound))
      (place_kept w ready z n a at c1 ok2.conf fit.0 ok2.holds.1 ok.holds) ok2.holds.0)))

  pub value_runs : (x : TExpr) (pc p k n q : ℕ) (a : Mask) (s : State) (c : Conf) → ExprParts w x n
      → AreAt w.routine.code pc (expr_code w.layout x pc p k n) → AreAt w.code.places p (expr_places w.layout x) → Enters w pc k n a s c q
      → DoneRuns w c (pc + length (expr_code w.layout x pc p k n)) n q (simple (gang_of w) w.frame (calls_of w) (t_value x) a s)
  value_runs x pc p k n q a s c fit has places b =
      let fx : heads x ≤ 1 = few w x n fit in
      bind_done w ready c (pc + length (expr_code w.layout x pc p k n)) n 1 q (Holds (type_of x).rate a (found w.layout x n)) (means w ready x a (tick s)) _ _ n
      (expr_runs w ready x pc p k n (32 + q) (1 + q) a (tick s) c fit has places (omega arith) (enters_part w ready pc k n (32 + q) q a s c (omega arith) b))
      (λ m s1 ok. record { conf = ok.conf; steps = ok.steps; comes = ok.comes; at = ok.at; stands = ok.stands; spares = ok.spares; masks = ok.masks; bound = omega (arith, ok.bound) })
