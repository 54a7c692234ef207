-- A value of one rate comes where another is wanted, and a choice leaves the value that is chosen.
use Rattle.std.proofs.Common.{◌≡◌, ℕ, ◌+◌, ◌<◌, ◌≤◌, List, [], ◌∷◌, ◌++◌, length, Bool, true, false, refl, sym, subst, arith, length-append}
use Rattle.std.specs.Prelude.{◌&&◌}
use Rattle.isp_base.specs.Sets.{Mask}
use Rattle.isp_base.specs.declared.types.Elem.{Elem}
use Rattle.isp_base.specs.declared.types.Rate.{Rate}
use Rattle.isp_base.specs.declared.types.Rate.TheVariants.{Uniform, Varying}
use Rattle.isp_base.specs.declared.types.Span.{Span}
use Rattle.isp_code.specs.Conf.{Conf}
use Rattle.isp_code.specs.declared.instr.Instr.{Instr}
use Rattle.isp_meaning.specs.State.{State, tick}
use Rattle.isp_meaning.specs.Payloads.{Payload}
use Rattle.isp_meaning.specs.Outcomes.{Val}
use Rattle.isp_base.specs.declared.types.Ty.{Ty}
use Rattle.isp_typed.specs.Fine.{heads}
use Rattle.isp_typed.specs.Typed.{TExpr, t_choose}
use Rattle.isp_typed.specs.Typed.{type_of}
use Rattle.isp_meaning.specs.Calls.{same_rate}
use Rattle.isp_lower_code.specs.Setting.{Setting, IsSettled, AreAt, Holds}
use Rattle.isp_lower_code.specs.Runs.{Enters, Runs}
use Rattle.isp_lower_code.specs.Code.{expr_code, choose_code, choose_to}
use Rattle.isp_lower_code.specs.Found.{part_to, lift_to, lifted, found, operand_of, lift_code}
use Rattle.isp_lower_code.specs.Instructions.{select}
use Rattle.isp_lower_code.specs.Spans.{expr_places}
use Rattle.isp_lower_code.specs.Stays.{stays, stays_at, is_short}
use Rattle.isp_lower_code.proofs.Base.{are_front, are_back}
use Rattle.isp_lower_code.proofs.Combine.{lift_runs}
use Rattle.isp_lower_code.proofs.Found.{few, found_low, operand_low}
use Rattle.isp_lower_code.proofs.Choose.{choose_front, choose_runs}
use Rattle.isp_lower_code.proofs.Short.{same_rate-is, InPlace, stays_in_place, short_runs}
use Rattle.isp_lower_code.proofs.Targets.{Target, InSlot, target, Leaves}
use Rattle.isp_lower_code.proofs.Nodes.{enters_part, operand_runs}
use Rattle.isp_lower_code.proofs.Kept.{value_still}
use Rattle.isp_lower_code.proofs.Parts.{ExprParts}
use Rattle.isp_lower_code.specs.Asks.{first_slot, second_slot}
use Rattle.isp_lower_code.specs.Rated.{Reaches}
use Rattle.isp_lower_code.proofs.PlainNodes.{means, RunsHere}

module _ (w : Setting) (ready : IsSettled w) where
  -- a part of one rate where another is wanted
  cast_on : (c : Conf) (pc k n q : ℕ) (a : Mask) (v : Val Payload) (r given : Rate) (e : Elem) (f : ℕ) (code : List Instr) → Reaches given r
      → c.masks k ≡ a → k < n → AreAt w.routine.code pc (code ++ lift_code w.layout r given e f k n)
      → (AreAt w.routine.code pc code → Runs w c (pc + length code) n (1 + q) (Holds given a f) v)
      → Runs w c (pc + length (code ++ lift_code w.layout r given e f k n)) n q (Holds r a (lifted w.layout r given e f n)) v
  cast_on c pc k n q a v r given e f code re em lk has run =
      let lift = lift_code w.layout r given e f k n in
      let to : pc + length code + length lift ≡ pc + length (code ++ lift) = omega (arith, length-append code lift) in
      subst (λ p. Runs w c p n q (Holds r a (lifted w.layout r given e f n)) v) to (lift_runs w ready c (pc + length code) k n q a v r given e f re em lk (are_back w.routine.code pc code lift has) (run (are_front w.routine.code pc code lift has)))

  pub cast_runs : (c : Conf) (pc k n q : ℕ) (a : Mask) (v : Val Payload) (r given : Rate) (e : Elem) (f : ℕ) (code : ℕ → List Instr) → Reaches given r
      → c.masks k ≡ a → k < n → AreAt w.routine.code pc
      (code (part_to w.layout r given (lifted w.layout r given e f n) f) ++ lift_to w.layout r given (lifted w.layout r given e f n) f k)
      → (AreAt w.routine.code pc (code f) → Runs w c (pc + length (code f)) n (1 + q) (Holds given a f) v)
      → Runs w c (pc + length (code (part_to w.layout r given (lifted w.layout r given e f n) f)
      ++ lift_to w.layout r given (lifted w.layout r given e f n) f k)) n q (Holds r a (lifted w.layout r given e f n)) v
  cast_runs c pc k n q a v Uniform Uniform e f code re em lk has run = cast_on c pc k n q a v Uniform Uniform e f (code f) re em lk has run
  cast_runs c pc k n q a v Uniform Varying e f code re em lk has run = absurd re
  cast_runs c pc k n q a v Varying Uniform e f code re em lk has run = cast_on c pc k n q a v Varying Uniform e f (code f) re em lk has run
  cast_runs c pc k n q a v Varying Varying e f code re em lk has run = cast_on c pc k n q a v Varying Varying e f (code f) re em lk has run

  abbrev choosing : TExpr → TExpr → TExpr → Ty → ℕ → ℕ → ℕ → ℕ → List Instr
  choosing e x y t pc p k n =
      choose_code w.layout (type_of e).rate t.rate t.elem x y (found w.layout e n) pc k n (expr_code w.layout e pc p k n)
      (λ pc1 m i. operand_of w.layout t.rate x m i (expr_code w.layout x pc1 (p + length (expr_places w.layout e)) m i))
      (λ pc1 m i. operand_of w.layout t.rate y m i (expr_code w.layout y pc1
      (p + length (expr_places w.layout e) + length (expr_places w.layout x)) m i))

  -- both sides may have code
  long_node : (e x y : TExpr) (t : Ty) (sp : Span) → RunsHere w ready e → RunsHere w ready x → RunsHere w ready y → (pc p k n q rest : ℕ) (a : Mask) (s : State) (c : Conf)
      → ExprParts w (t_choose e x y t sp) n → AreAt w.routine.code pc (choosing e x y t pc p k n)
      → AreAt w.code.places p (expr_places w.layout (t_choose e x y t sp)) → rest ≤ 5 + q → Enters w pc k n a s c q
      → Runs w c (pc + length (choosing e x y t pc p k n)) n rest (Holds t.rate a (w.layout.spare t.rate t.elem n)) (means w ready (t_choose e x y t sp) a s)
  long_node e x y t sp ihe ihx ihy pc p k n q rest a s c fit has places le b =
      let g = (type_of e).rate in
      let n1 = first_slot g n in
      let n2 = second_slot g n in
      let fe : heads e ≤ 1 = few w e n fit.5 in
      let fx : heads x ≤ 1 = few w x n1 fit.6 in
      let fy : heads y ≤ 1 = few w y n2 fit.7 in
      let ce = expr_code w.layout e pc p k n in
      let he : AreAt w.routine.code pc ce = choose_front w ready g t.rate t.elem x y (found w.layout e n) pc k n ce _ _ has in
      let p1 = p + length (expr_places w.layout e) in
      let p2 = p1 + length (expr_places w.layout x) in
      let pl = are_back w.code.places p (expr_places w.layout e) _ places in
      let ply = are_back w.code.places p1 (expr_places w.layout x) _ pl in
      choose_runs w ready g t.rate t.elem x y c pc k n rest a (means w ready e a (tick s)) (λ z s1. means w ready x z s1) (λ z s1. means w ready y z s1) (found w.layout e n)
      ce (λ pc1 m i. operand_of w.layout t.rate x m i (expr_code w.layout x pc1 p1 m i))
      (λ pc1 m i. operand_of w.layout t.rate y m i (expr_code w.layout y pc1 p2 m i)) fit.1 b.mask b.low b.some b.inside
      (found_low w ready e n fit.5) (operand_low w ready t.rate t.elem x n1 fit.3 fit.6) has
      (ihe pc p k n (32 + q) (5 + rest) a (tick s) c fit.5 he (are_front w.code.places p (expr_places w.layout e) _ places) (omega arith) (enters_part w ready pc k n (32 + q) q a s c (omega arith) b))
      (λ T s1 c1 pc1 z y j le1 at en. operand_runs w ready c1 pc1 j n1 z y T s1 t.rate t.elem x (expr_code w.layout x pc1 p1 j n1) fit.3 (omega arith) en at
      (λ at. ihx pc1 p1 j n1 z (1 + y) T s1 c1 fit.6 at (are_front w.code.places p1 (expr_places w.layout x) _ pl) (omega arith) en))
      (λ T s1 c1 pc1 z u j le1 at en. operand_runs w ready c1 pc1 j n2 z u T s1 t.rate t.elem y (expr_code w.layout y pc1 p2 j n2) fit.4 (omega arith) en at
      (λ at. ihy pc1 p2 j n2 z (1 + u) T s1 c1 fit.7 at ply (omega arith) en))
      (λ T s1. value_still w ready x n1 T s1 fit.6) (λ T s1. value_still w ready y n2 T s1 fit.7)

  -- neither side has code
  short_on : (u : Target) (e x y : TExpr) (t : Ty) (sp : Span) → RunsHere w ready e → t.rate ≡ (type_of e).rate → stays_at w.layout t.rate x ≡ true
      → stays_at w.layout t.rate y ≡ true → (pc p k n q rest : ℕ) (a : Mask) (s : State) (c : Conf) → ExprParts w (t_choose e x y t sp) n
      → AreAt w.routine.code pc (expr_code w.layout e pc p k n
      ++ select t.rate (target w.layout u t.rate t.elem n) (found w.layout e n) (found w.layout x n) (found w.layout y n) k ∷ [])
      → AreAt w.code.places p (expr_places w.layout e) → rest ≤ 5 + q → Enters w pc k n a s c q
      → Leaves w u (target w.layout u t.rate t.elem n) c
      (pc + length (expr_code w.layout e pc p k n ++ select t.rate (target w.layout u t.rate t.elem n) (found w.layout e n) (found w.layout x n)
      (found w.layout y n) k ∷ [])) n rest t.rate a (means w ready (t_choose e x y t sp) a s)
  short_on u e x y t sp ih er ex ey pc p k n q rest a s c fit has places le b =
      let fe : heads e ≤ 1 = few w e n fit.5 in
      short_runs w ready u t.rate t.elem (found w.layout e n) (found w.layout x n) (found w.layout y n) (means w ready x) (means w ready y) c pc k n rest a
      (means w ready e a (tick s)) (expr_code w.layout e pc p k n) b.mask b.low b.some b.inside (there x (first_slot (type_of e).rate n) fit.6 ex) (there y (second_slot (type_of e).rate n) fit.7 ey) has
      (subst (λ r. Runs w c (pc + length (expr_code w.layout e pc p k n)) n (1 + rest) (Holds r a (found w.layout e n)) (means w ready e a (tick s))) (sym er)
      (ih pc p k n (32 + q) (1 + rest) a (tick s) c fit.5 (are_front w.routine.code pc (expr_code w.layout e pc p k n) _ has) places (omega arith) (enters_part w ready pc k n (32 + q) q a s c (omega arith) b)))
    where
      there : (z : TExpr) (m : ℕ) → ExprParts w z m → stays_at w.layout t.rate z ≡ true → InPlace w t.rate (found w.layout z n) (means w ready z)
      there z m fz h = go (same_rate t.rate (type_of z).rate) refl h
        where
          go : (d : Bool) → same_rate t.rate (type_of z).rate ≡ d → (d && stays w.layout z) ≡ true → InPlace w t.rate (found w.layout z n) (means w ready z)
          go true ed hz = subst (λ r. InPlace w r (found w.layout z n) (means w ready z)) (sym (same_rate-is t.rate (type_of z).rate ed)) (stays_in_place w z n m fz hz)
          go false ed hz = absurd (cc)

  pub choose_node : (u : Target) (e x y : TExpr) (t : Ty) (sp : Span) → RunsHere w ready e → is_short w.layout t.rate e x y ≡ true
      → (pc p k n q rest : ℕ) (a : Mask) (s : State) (c : Conf) → ExprParts w (t_choose e x y t sp) n
      → AreAt w.routine.code pc (expr_code w.layout e pc p k n
      ++ select t.rate (target w.layout u t.rate t.elem n) (found w.layout e n) (found w.layout x n) (found w.layout y n) k ∷ [])
      → AreAt w.code.places p (expr_places w.layout e) → rest ≤ 5 + q → Enters w pc k n a s c q
      → Leaves w u (target w.layout u t.rate t.elem n) c
      (pc + length (expr_code w.layout e pc p k n ++ select t.rate (target w.layout u t.rate t.elem n) (found w.layout e n) (found w.layout x n)
      (found w.layout y n) k ∷ [])) n rest t.rate a (means w ready (t_choose e x y t sp) a s)
  choose_node u e x y t sp ih ez pc p k n q rest a s c fit has places le b = go (same_rate t.rate (type_of e).rate) (stays_at w.layout t.rate x) (stays_at w.layout t.rate y) refl refl refl ez
    where
      go : (d1 d2 d3 : Bool) → same_rate t.rate (type_of e).rate ≡ d1 → stays_at w.layout t.rate x ≡ d2 → stays_at w.layout t.rate y ≡ d3
          → (d1 && (d2 && d3)) ≡ true → Leaves w u (target w.layout u t.rate t.elem n) c
          (pc + length (expr_code w.layout e pc p k n ++ select t.rate (target w.layout u t.rate t.elem n) (found w.layout e n) (found w.layout x n)
          (found w.layout y n) k ∷ [])) n rest t.rate a (means w ready (t_choose e x y t sp) a s)
      go true true true e1 e2 e3 h = short_on u e x y t sp ih (same_rate-is t.rate (type_of e).rate e1) e2 e3 pc p k n q rest a s c fit has places le b
      go true true false e1 e2 e3 h = absurd (cc)
      go true false d3 e1 e2 e3 h = absurd (cc)
      go false d2 d3 e1 e2 e3 h = absurd (cc)

  pub choose_any : (e x y : TExpr) (t : Ty) (sp : Span) → RunsHere w ready e → RunsHere w ready x → RunsHere w ready y → RunsHere w ready (t_choose e x y t sp)
  choose_any e x y t sp ihe ihx ihy pc p k n q rest a s c fit has places le b = go (is_short w.layout t.rate e x y) refl has
    where
      code : Bool → List Instr
      code z = choose_to w.layout z (w.layout.spare t.rate t.elem n) e x y t pc k n (expr_code w.layout e pc p k n)
          (λ pc1 m i. operand_of w.layout t.rate x m i (expr_code w.layout x pc1 (p + length (expr_places w.layout e)) m i))
          (λ pc1 m i. operand_of w.layout t.rate y m i (expr_code w.layout y pc1
          (p + length (expr_places w.layout e) + length (expr_places w.layout x)) m i))

      go : (z : Bool) → is_short w.layout t.rate e x y ≡ z → AreAt w.routine.code pc (code z) → Runs w c (pc + length (code z)) n rest (Holds t.rate a (w.layout.spare t.rate t.elem n)) (means w ready (t_choose e x y t sp) a s)
      go true ez at = choose_node InSlot e x y t sp ihe ez pc p k n q rest a s c fit at (are_front w.code.places p (expr_places w.layout e) _ places) (omega arith) b
      go false ez at = long_node e x y t sp ihe ihx ihy pc p k n q rest a s c fit at places (omega arith) b
