-- A constant, a variable, a conversion and an operator leave their value, given what holds of their parts.
use Rattle.std.proofs.Common.{◌≡◌, ℕ, ◌+◌, ◌<◌, ◌≤◌, ◌%◌, ◌^◌, List, [], ◌∷◌, length, Option, Some, None, Bool, true, false, refl, sym, ap, ◌∙◌, subst, arith}
use Rattle.std.specs.Prelude.{slice_get}
use Rattle.isp_base.specs.Access.{is_zero}
use Rattle.isp_base.specs.Maps.{on}
use Rattle.isp_base.specs.Sets.{Mask}
use Rattle.isp_base.specs.Unary.{unary_bits}
use Rattle.isp_base.specs.Values.{width, number, wrap, op_bits, compare_bits}
use Rattle.isp_base.specs.declared.operators.BinOp.{BinOp}
use Rattle.isp_base.specs.declared.operators.Compare.{Compare}
use Rattle.isp_base.specs.declared.operators.UnaryOp.{UnaryOp}
use Rattle.isp_base.specs.declared.trap.TrapKind.TheVariants.{Divide}
use Rattle.isp_base.specs.declared.types.Elem.{Elem}
use Rattle.isp_base.specs.declared.types.Elem.TheVariants.{Bool as Truth, I32}
use Rattle.isp_base.specs.declared.types.Rate.{Rate}
use Rattle.isp_base.specs.declared.types.Rate.TheVariants.{Uniform, Varying}
use Rattle.isp_base.specs.declared.types.Span.{Span}
use Rattle.isp_base.specs.declared.types.Value.{Value}
use Rattle.isp_code.specs.Conf.{Conf, Go}
use Rattle.isp_code.specs.Registers.{elem_of}
use Rattle.isp_code.specs.declared.instr.Instr.{Instr}
use Rattle.isp_meaning.specs.State.{State, tick}
use Rattle.isp_meaning.specs.Payloads.{Payload, One, Each, mapped, joined, converted, offender}
use Rattle.isp_meaning.specs.Outcomes.{Val, Gives, bind}
use Rattle.isp_meaning.specs.Places.{variable}
use Rattle.isp_meaning.specs.Expressions.{value}
use Rattle.isp_base.specs.declared.types.Ty.{Ty}
use Rattle.isp_typed.specs.Fine.{heads}
use Rattle.isp_typed.specs.Typed.{TExpr, t_constant, t_program_index, t_place, t_convert, t_unary, t_binary, t_compare}
use Rattle.isp_typed.specs.Typed.{t_variable}
use Rattle.isp_typed.specs.Typed.{type_of}
use Rattle.isp_lower_code.specs.Layout.{register}
use Rattle.isp_lower_code.specs.Setting.{Setting, IsSettled, gang_of, calls_of, AreAt, Stands, at_rate, held_at, Holds}
use Rattle.isp_lower_code.specs.Runs.{Enters, Runs}
use Rattle.isp_lower_code.specs.Code.{variable_read, expr_code, expr_to}
use Rattle.isp_lower_code.specs.Found.{is_copied, is_kept, kept_found, variable_found, convert_to, found, operand, operand_of}
use Rattle.isp_lower_code.specs.Instructions.{copy, convert, constant}
use Rattle.isp_lower_code.specs.Known.{bits_as, unless_kept, constant_of}
use Rattle.isp_lower_code.specs.Spans.{expr_places}
use Rattle.isp_lower_code.proofs.Base.{are_front, are_back, comes_none, at_to, spares_all}
use Rattle.isp_lower_code.proofs.Rates.{at_offender, filled_on, filled_held}
use Rattle.isp_lower_code.proofs.Lines.{set_at, value_at, copy_line, convert_line, unary_line, compare_line, operate_at}
use Rattle.isp_lower_code.proofs.Values.{wrap_bits, constant_is}
use Rattle.isp_lower_code.proofs.Found.{few, constant_is_one, found_typed, operand_typed, operand_low}
use Rattle.isp_lower_code.proofs.Targets.{Target, InSlot, target, Leaves}
use Rattle.isp_lower_code.proofs.Nodes.{enters_part, enters_later, leaf_runs, operand_runs, one_runs, pair_runs}
use Rattle.isp_lower_code.proofs.Kept.{IsRead, is_read, value_still}
use Rattle.isp_lower_code.proofs.Parts.{ExprParts}
use Rattle.isp_lower_code.specs.Tables.{IsTyped}

module _ (w : Setting) (ready : IsSettled w) where
  -- what an expression means here
  abbrev pub means : TExpr → Mask → State → Val Payload
  means = value (gang_of w) w.frame (calls_of w)

  pub variable_held : (r : Rate) (v : ℕ) (a : Mask) (s : State) (c : Conf) → IsRead w r v → Stands w s c → at_rate r a (variable r v a s) ≡ held_at r c.scalars c.vectors a (w.layout.variable r v)
  variable_held Uniform v a s c read st = ap One (sym (st.uniforms v read))
  variable_held Varying v a s c read st = ap (λ z. Each (on a z)) (sym (st.varying v))

  pub constant_runs : (g : Target) (pc k n q rest : ℕ) (a : Mask) (s : State) (c : Conf) (t : Elem) (bits b : ℕ) → rest ≤ 31 + q
      → Enters w pc k n a s c q → IsTyped w Uniform (target w.layout g Uniform t n) t
      → slice_get w.routine.code pc ≡ Some (constant (target w.layout g Uniform t n) t bits) → wrap t (number t bits) ≡ b
      → Leaves w g (target w.layout g Uniform t n) c (pc + 1) n rest Uniform a (Gives (One b) (tick s))
  constant_runs g pc k n q rest a s c t bits b le e ty has is =
      let d = target w.layout g Uniform t n in
      leaf_runs w ready g pc k n q rest a s c (constant d t bits) Uniform t (One b) (One b) le e has refl refl
      (ap (λ u. Go (set_at Uniform c d (One (wrap u (number t bits))))) ty ∙ ap (λ z. Go (set_at Uniform c d (One z))) is)

  -- a value as one of another type
  pub convert_runs : (g : Target) (x : TExpr) (e : Elem) (pc k n q rest : ℕ) (a : Mask) (s : State) (c : Conf) (code : List Instr) → rest ≤ 31 + q
      → Enters w pc k n a s c q → IsTyped w (type_of x).rate (found w.layout x n) (type_of x).elem
      → IsTyped w (type_of x).rate (target w.layout g (type_of x).rate e n) e
      → AreAt w.routine.code pc (convert_to w.layout (constant_of x) e (type_of x).rate (target w.layout g (type_of x).rate e n) (found w.layout x n)
      k code) → (AreAt w.routine.code pc code → Runs w c (pc + length code) n (1 + rest) (Holds (type_of x).rate a (found w.layout x n))
      (means x a s)) → Leaves w g (target w.layout g (type_of x).rate e n) c
      (pc + length (convert_to w.layout (constant_of x) e (type_of x).rate (target w.layout g (type_of x).rate e n) (found w.layout x n) k code)) n
      rest (type_of x).rate a (bind (means x a s) (λ m s1. Gives (mapped (converted (type_of x).elem e) m) s1))
  convert_runs g x e pc k n q rest a s c code le b tx te has run = go (constant_of x) refl has
    where
      d : ℕ
      d = target w.layout g (type_of x).rate e n

      constantly : (v : Value) (sp : Span) → slice_get w.routine.code pc
          ≡ Some (constant (target w.layout g Uniform e n) e (converted v.elem e v.bits)) → IsTyped w Uniform (target w.layout g Uniform e n) e
          → Leaves w g (target w.layout g Uniform e n) c (pc + 1) n rest Uniform a
          (Gives (One (converted v.elem e (v.bits % 2 ^ width v.elem))) (tick s))
      constantly v sp at ty =
          constant_runs g pc k n q rest a s c e (converted v.elem e v.bits) (converted v.elem e (v.bits % 2 ^ width v.elem)) le b ty at (constant_is v.elem e v.bits)

      go : (o : Option Value) → constant_of x ≡ o → AreAt w.routine.code pc (convert_to w.layout o e (type_of x).rate d (found w.layout x n) k code)
          → Leaves w g d c (pc + length (convert_to w.layout o e (type_of x).rate d (found w.layout x n) k code)) n rest (type_of x).rate a
          (bind (means x a s) (λ m s1. Gives (mapped (converted (type_of x).elem e) m) s1))
      go None eo at =
          one_runs w ready g c pc k n rest a (means x a s) (type_of x).rate e (found w.layout x n) code (convert (type_of x).rate d (found w.layout x n) k) (converted (type_of x).elem e) b.mask b.low at
          (λ c2. convert_line w.code w.routine c2 (type_of x).rate d (found w.layout x n) k
          ∙ ap (λ u. Go (set_at (type_of x).rate c2 d (mapped (converted u (elem_of w.routine (register (type_of x).rate d)))
          (value_at (type_of x).rate c2 k (found w.layout x n))))) tx
          ∙ ap (λ u. Go (set_at (type_of x).rate c2 d (mapped (converted (type_of x).elem u)
          (value_at (type_of x).rate c2 k (found w.layout x n))))) te)
          (run (are_front w.routine.code pc code _ at))
      go (Some v) eo at =
          let one = constant_is_one x v eo in
          subst (λ y. slice_get w.routine.code pc ≡ Some (constant (target w.layout g (type_of y).rate e n) e (converted v.elem e v.bits))
          → IsTyped w (type_of y).rate (target w.layout g (type_of y).rate e n) e
          → Leaves w g (target w.layout g (type_of y).rate e n) c (pc + 1) n rest (type_of y).rate a
          (bind (means y a s) (λ m s1. Gives (mapped (converted (type_of y).elem e) m) s1))) (sym one.1) (λ at ty. constantly v one.0 at ty) at.0
          te

  -- ---- one node, given what holds of its parts

  -- five steps are left after it, or four after a conversion, which has no count of its own
  abbrev pub RunsHere : TExpr → Type 0
  RunsHere x =
      (pc p k n q rest : ℕ) (a : Mask) (s : State) (c : Conf) → ExprParts w x n → AreAt w.routine.code pc (expr_code w.layout x pc p k n)
      → AreAt w.code.places p (expr_places w.layout x) → heads x + rest ≤ 5 + q → Enters w pc k n a s c q
      → Runs w c (pc + length (expr_code w.layout x pc p k n)) n rest (Holds (type_of x).rate a (found w.layout x n)) (means x a s)

  -- the node leaves its value in a slot, or in a variable
  abbrev pub NodeRuns : Target → TExpr → Type 0
  NodeRuns u z =
      (pc p k n q rest : ℕ) (a : Mask) (s : State) (c : Conf) → ExprParts w z n
      → IsTyped w (type_of z).rate (target w.layout u (type_of z).rate (type_of z).elem n) (type_of z).elem
      → AreAt w.routine.code pc (expr_to w.layout (target w.layout u (type_of z).rate (type_of z).elem n) z pc p k n)
      → AreAt w.code.places p (expr_places w.layout z) → heads z + rest ≤ 5 + q → Enters w pc k n a s c q
      → Leaves w u (target w.layout u (type_of z).rate (type_of z).elem n) c
      (pc + length (expr_to w.layout (target w.layout u (type_of z).rate (type_of z).elem n) z pc p k n)) n rest (type_of z).rate a (means z a s)

  -- a constant that is kept is there, and needs no code
  kept_runs : (pc k n q rest : ℕ) (a : Mask) (s : State) (c : Conf) (t : Elem) (bits b : ℕ) → rest ≤ 31 + q → Enters w pc k n a s c q
      → w.layout.kept Uniform t bits ≡ true → wrap t (number t bits) ≡ b
      → Runs w c (pc + 0) n rest (Holds Uniform a (w.layout.constant Uniform t bits)) (Gives (One b) (tick s))
  kept_runs pc k n q rest a s c t bits b le e kept is = record {
    conf = c;
    steps = 0;
    comes = comes_none w c;
    at = at_to w c pc _ e.at (omega arith);
    stands = e.stands;
    spares = spares_all w n c;
    masks = λ j h. refl;
    holds = ap One (sym is ∙ wrap_bits t bits ∙ sym (e.stands.constants Uniform t bits kept));
    bound = omega (arith, le, e.used);
  }

  pub number_runs : (v : Value) (sp : Span) → RunsHere (t_constant v sp)
  number_runs v sp pc p k n q rest a s c fit has places le b = go (w.layout.kept Uniform v.elem v.bits) refl has
    where
      go : (z : Bool) → w.layout.kept Uniform v.elem v.bits ≡ z
          → AreAt w.routine.code pc (unless_kept z (constant (kept_found w.layout z Uniform v.elem v.bits n) v.elem v.bits ∷ []))
          → Runs w c (pc + length (unless_kept z (constant (kept_found w.layout z Uniform v.elem v.bits n) v.elem v.bits ∷ []))) n rest
          (Holds Uniform a (kept_found w.layout z Uniform v.elem v.bits n)) (Gives (One (v.bits % 2 ^ width v.elem)) (tick s))
      go true e at = kept_runs pc k n q rest a s c v.elem v.bits (v.bits % 2 ^ width v.elem) (omega arith) b e (wrap_bits v.elem v.bits)
      go false e at = constant_runs InSlot pc k n q rest a s c v.elem v.bits (v.bits % 2 ^ width v.elem) (omega arith) b fit at.0 (wrap_bits v.elem v.bits)

  pub index_node : (u : Target) (sp : Span) → NodeRuns u (t_program_index sp)
  index_node u sp pc p k n q rest a s c fit ty has places le b =
      leaf_runs w ready u pc k n q rest a s c _ Varying I32 (Each (on a (λ i. i))) (Each (on a (λ i. i))) (omega arith) b has.0 refl
      (λ old. ap Each (filled_on a (λ i. i) old)) (ap (λ m. Go (set_at Varying c (target w.layout u Varying I32 n) (Each (on m (λ i. i)))))
      b.mask)

  -- a variable is copied where a packed load writes it
  pub copied_node : (u : Target) (v : ℕ) (t : Ty) (pc k n q rest : ℕ) (a : Mask) (s : State) (c : Conf) → IsRead w t.rate v → rest ≤ 31 + q → Enters w pc k n a s c q
      → slice_get w.routine.code pc ≡ Some (copy t.rate (target w.layout u t.rate t.elem n) (w.layout.variable t.rate v) k)
      → Leaves w u (target w.layout u t.rate t.elem n) c (pc + 1) n rest t.rate a (Gives (variable t.rate v a (tick s)) (tick s))
  copied_node u v t pc k n q rest a s c read le b has =
      let d = target w.layout u t.rate t.elem n in
      let x = w.layout.variable t.rate v in
      leaf_runs w ready u pc k n q rest a s c (copy t.rate d x k) t.rate t.elem (variable t.rate v a (tick s))
      (held_at t.rate c.scalars c.vectors a x) le b has (variable_held t.rate v a (tick s) c read b.stands)
      (filled_held t.rate a c.scalars c.vectors x)
      (copy_line w.code w.routine c t.rate d x k ∙ ap (λ m. Go (set_at t.rate c d (held_at t.rate c.scalars c.vectors m x))) b.mask)

  -- else it stays where it is
  pub variable_runs : (v : ℕ) (t : Ty) (sp : Span) → RunsHere (t_place (t_variable v t sp))
  variable_runs v t sp pc p k n q rest a s c fit has places le b = go (is_copied w.layout t.rate v) has
    where
      read : IsRead w t.rate v
      read = is_read w t.rate t.elem v fit.0.1

      go : (d : Bool) → AreAt w.routine.code pc (variable_read w.layout d (variable_found w.layout d t v n) t.rate v k)
          → Runs w c (pc + length (variable_read w.layout d (variable_found w.layout d t v n) t.rate v k)) n rest
          (Holds t.rate a (variable_found w.layout d t v n)) (Gives (variable t.rate v a (tick s)) (tick s))
      go true at = copied_node InSlot v t pc k n q rest a s c read (omega (arith, le)) b at.0
      go false at = record {
        conf = c;
        steps = 0;
        comes = comes_none w c;
        at = at_to w c pc _ b.at (omega arith);
        stands = b.stands;
        spares = spares_all w n c;
        masks = λ j h. refl;
        holds = variable_held t.rate v a (tick s) c read b.stands;
        bound = omega (arith, le, b.used);
      }

  -- a conversion, but of a constant that is kept
  pub convert_node : (u : Target) (e : Elem) (x : TExpr) → RunsHere x → (pc p k n q rest : ℕ) (a : Mask) (s : State) (c : Conf)
      → ExprParts w (t_convert e x) n → IsTyped w (type_of x).rate (target w.layout u (type_of x).rate e n) e
      → AreAt w.routine.code pc (convert_to w.layout (constant_of x) e (type_of x).rate (target w.layout u (type_of x).rate e n) (found w.layout x n)
      k (expr_code w.layout x pc p k n)) → AreAt w.code.places p (expr_places w.layout x) → heads (t_convert e x) + rest ≤ 5 + q
      → Enters w pc k n a s c q → Leaves w u (target w.layout u (type_of x).rate e n) c
      (pc + length (convert_to w.layout (constant_of x) e (type_of x).rate (target w.layout u (type_of x).rate e n) (found w.layout x n) k
      (expr_code w.layout x pc p k n))) n rest (type_of x).rate a (means (t_convert e x) a s)
  convert_node u e x ih pc p k n q rest a s c fit ty has places le b =
      convert_runs u x e pc k n q rest a s c (expr_code w.layout x pc p k n) (omega arith) b (found_typed w ready x n fit.2) ty has
      (λ at. ih pc p k n q (1 + rest) a s c fit.2 at places (omega (arith, le)) b)

  pub converted_runs : (e : Elem) (x : TExpr) → RunsHere x → RunsHere (t_convert e x)
  converted_runs e x ih pc p k n q rest a s c fit has places le b = go (is_kept w.layout (constant_of x) (type_of x).rate e) refl has
    where
      r : Rate
      r = (type_of x).rate

      place : Bool → ℕ
      place z = kept_found w.layout z r e (bits_as (constant_of x) e) n

      code : Bool → List Instr
      code z = unless_kept z (convert_to w.layout (constant_of x) e r (place z) (found w.layout x n) k (expr_code w.layout x pc p k n))

      there : (o : Option Value) → constant_of x ≡ o → is_kept w.layout o r e ≡ true → Runs w c (pc + 0) n rest (Holds r a (w.layout.constant r e (bits_as o e))) (means (t_convert e x) a s)
      there None eo h = absurd (cc)
      there (Some v) eo h =
          let one = constant_is_one x v eo in
          let m = converted v.elem e v.bits in
          subst (λ y. w.layout.kept (type_of y).rate e m ≡ true
          → Runs w c (pc + 0) n rest (Holds (type_of y).rate a (w.layout.constant (type_of y).rate e m))
          (bind (means y a s) (λ m s1. Gives (mapped (converted (type_of y).elem e) m) s1))) (sym one.1)
          (λ kept. kept_runs pc k n q rest a s c e m (converted v.elem e (v.bits % 2 ^ width v.elem)) (omega (arith, le)) b kept (constant_is v.elem e v.bits)) h

      go : (z : Bool) → is_kept w.layout (constant_of x) r e ≡ z → AreAt w.routine.code pc (code z) → Runs w c (pc + length (code z)) n rest (Holds r a (place z)) (means (t_convert e x) a s)
      go true ez at = there (constant_of x) refl ez
      go false ez at = convert_node InSlot e x ih pc p k n q rest a s c fit fit.1 at places le b

  pub unary_node : (u : Target) (o : UnaryOp) (x : TExpr) (t : Ty) (sp : Span) → RunsHere x → NodeRuns u (t_unary o x t sp)
  unary_node u o x t sp ih pc p k n q rest a s c fit ty has places le b =
      let f : heads x ≤ 1 = few w x n fit.2 in
      let cx = expr_code w.layout x pc p k n in
      let ca = operand_of w.layout t.rate x k n cx in
      let ha : AreAt w.routine.code pc ca = are_front w.routine.code pc ca _ has in
      one_runs w ready u c pc k n rest a (means x a (tick s)) t.rate t.elem (operand w.layout t.rate x n) ca _ (unary_bits o t.elem) b.mask b.low has
      (λ c2. unary_line w.code w.routine c2 t.rate o (target w.layout u t.rate t.elem n) (operand w.layout t.rate x n) k
      ∙ ap (λ g. Go (set_at t.rate c2 (target w.layout u t.rate t.elem n)
      (mapped (unary_bits o g) (value_at t.rate c2 k (operand w.layout t.rate x n))))) ty)
      (operand_runs w ready c pc k n (32 + q) (1 + rest) a (tick s) t.rate t.elem x cx fit.0 (omega arith) (enters_part w ready pc k n (32 + q) q a s c (omega arith) b) ha
      (λ at. ih pc p k n (32 + q) (1 + (1 + rest)) a (tick s) c fit.2 at places (omega arith) (enters_part w ready pc k n (32 + q) q a s c (omega arith) b)))

  pub binary_node : (u : Target) (o : BinOp) (x y : TExpr) (t : Ty) (sp : Span) → RunsHere x → RunsHere y → NodeRuns u (t_binary o x y t sp)
  binary_node u o x y t sp ihx ihy pc p k n q rest a s c fit ty has places le b =
      let fx : heads x ≤ 1 = few w x n fit.3 in
      let fy : heads y ≤ 1 = few w y (n + 1) fit.4 in
      let lk : k < n = b.low in
      let cx = expr_code w.layout x pc p k n in
      let ca = operand_of w.layout t.rate x k n cx in
      let ha : AreAt w.routine.code pc ca = are_front w.routine.code pc ca _ has in
      let p1 = p + length (expr_places w.layout x) in
      let pl = are_back w.code.places p (expr_places w.layout x) _ places in
      let cy = λ (pc1 : ℕ). expr_code w.layout y pc1 p1 k (n + 1) in
      let hb : AreAt w.routine.code (pc + length ca) (operand_of w.layout t.rate y k (n + 1) (cy (pc + length ca))) = are_front w.routine.code
      (pc + length ca) (operand_of w.layout t.rate y k (n + 1) (cy (pc + length ca))) _ (are_back w.routine.code pc ca _ has) in
      pair_runs w ready u c pc k n rest a (means x a (tick s)) (λ m s1. means y a s1) t.rate t.elem (operand w.layout t.rate x n)
      (operand w.layout t.rate y (n + 1)) ca (λ pc1. operand_of w.layout t.rate y k (n + 1) (cy pc1)) _ (op_bits o t.elem)
      (offender (gang_of w) (is_zero o t.elem) a) Divide sp b.mask lk (operand_low w ready t.rate t.elem x n fit.0 fit.3) has
      (at_offender t.rate (gang_of w) a (is_zero o t.elem))
      (λ c2 em. operate_at w.code w.routine c2 t.rate o t.elem (target w.layout u t.rate t.elem n) (operand w.layout t.rate x n) (operand w.layout t.rate y (n + 1)) k _ a sp b.some em ty (are_back w.code.places p1 (expr_places w.layout y) _ pl))
      (operand_runs w ready c pc k n (32 + q) (1 + rest) a (tick s) t.rate t.elem x cx fit.0 (omega arith) (enters_part w ready pc k n (32 + q) q a s c (omega arith) b) ha
      (λ at. ihx pc p k n (32 + q) (1 + (1 + rest)) a (tick s) c fit.3 at (are_front w.code.places p (expr_places w.layout x) _ places) (omega arith) (enters_part w ready pc k n (32 + q) q a s c (omega arith) b)))
      (λ m s1 ok.
      operand_runs w ready ok.conf (pc + length ca) k (n + 1) (ok.steps + rest) (1 + (ok.steps + rest)) a s1 t.rate t.elem y (cy (pc + length ca))
      fit.1 (omega arith) (enters_later w ready pc (pc + length ca) k n (n + 1) (ok.steps + rest) q (1 + rest) a s s1 c (omega arith) b ok
      (omega arith)) hb
      (λ at. ihy (pc + length ca) p1 k (n + 1) (ok.steps + rest) (1 + (1 + (ok.steps + rest))) a s1 ok.conf fit.4 at
      (are_front w.code.places p1 (expr_places w.layout y) _ pl) (omega arith)
      (enters_later w ready pc (pc + length ca) k n (n + 1) (ok.steps + rest) q (1 + rest) a s s1 c (omega arith) b ok (omega arith))))
      (λ m s1. value_still w ready y (n + 1) a s1 fit.4)

  pub compare_node : (u : Target) (o : Compare) (x y : TExpr) (r : Rate) (sp : Span) → RunsHere x → RunsHere y → NodeRuns u (t_compare o x y r sp)
  compare_node u o x y r sp ihx ihy pc p k n q rest a s c fit ty has places le b =
      let fx : heads x ≤ 1 = few w x n fit.3 in
      let fy : heads y ≤ 1 = few w y (n + 1) fit.4 in
      let lk : k < n = b.low in
      let cx = expr_code w.layout x pc p k n in
      let ca = operand_of w.layout r x k n cx in
      let ha : AreAt w.routine.code pc ca = are_front w.routine.code pc ca _ has in
      let p1 = p + length (expr_places w.layout x) in
      let pl = are_back w.code.places p (expr_places w.layout x) _ places in
      let cy = λ (pc1 : ℕ). expr_code w.layout y pc1 p1 k (n + 1) in
      let hb : AreAt w.routine.code (pc + length ca) (operand_of w.layout r y k (n + 1) (cy (pc + length ca))) = are_front w.routine.code
      (pc + length ca) (operand_of w.layout r y k (n + 1) (cy (pc + length ca))) _ (are_back w.routine.code pc ca _ has) in
      pair_runs w ready u c pc k n rest a (means x a (tick s)) (λ m s1. means y a s1) r Truth (operand w.layout r x n) (operand w.layout r y (n + 1))
      ca (λ pc1. operand_of w.layout r y k (n + 1) (cy pc1)) _ (compare_bits o (type_of x).elem) (λ z. None) Divide sp b.mask lk
      (operand_low w ready r (type_of x).elem x n fit.0 fit.3) has (λ z. refl)
      (λ c2 em. compare_line w.code w.routine c2 r o (target w.layout u r Truth n) (operand w.layout r x n) (operand w.layout r y (n + 1)) k
      ∙ ap (λ g. Go (set_at r c2 (target w.layout u r Truth n)
      (joined (compare_bits o g) (c2.masks k) (value_at r c2 k (operand w.layout r x n)) (value_at r c2 k (operand w.layout r y (n + 1))))))
      (operand_typed w ready r (type_of x).elem x n fit.0 fit.3)
      ∙ ap (λ m. Go (set_at r c2 (target w.layout u r Truth n) (joined (compare_bits o (type_of x).elem) m (held_at r c2.scalars c2.vectors m (operand w.layout r x n)) (held_at r c2.scalars c2.vectors m (operand w.layout r y (n + 1)))))) em)
      (operand_runs w ready c pc k n (32 + q) (1 + rest) a (tick s) r (type_of x).elem x cx fit.0 (omega arith) (enters_part w ready pc k n (32 + q) q a s c (omega arith) b) ha
      (λ at. ihx pc p k n (32 + q) (1 + (1 + rest)) a (tick s) c fit.3 at (are_front w.code.places p (expr_places w.layout x) _ places) (omega arith) (enters_part w ready pc k n (32 + q) q a s c (omega arith) b)))
      (λ m s1 ok.
      operand_runs w ready ok.conf (pc + length ca) k (n + 1) (ok.steps + rest) (1 + (ok.steps + rest)) a s1 r (type_of x).elem y
      (cy (pc + length ca)) fit.1 (omega arith) (enters_later w ready pc (pc + length ca) k n (n + 1) (ok.steps + rest) q (1 + rest) a s s1 c
      (omega arith) b ok (omega arith)) hb
      (λ at. ihy (pc + length ca) p1 k (n + 1) (ok.steps + rest) (1 + (1 + (ok.steps + rest))) a s1 ok.conf fit.4 at pl (omega arith)
      (enters_later w ready pc (pc + length ca) k n (n + 1) (ok.steps + rest) q (1 + rest) a s s1 c (omega arith) b ok (omega arith))))
      (λ m s1. value_still w ready y (n + 1) a s1 fit.4)
