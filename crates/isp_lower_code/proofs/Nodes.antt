-- One node of an expression, given what holds of its operands.
use Rattle.std.proofs.Common.{◌≡◌, ℕ, ◌+◌, ◌%◌, ◌^◌, ◌<◌, ◌≤◌, List, [], ◌∷◌, ◌++◌, length, Option, Some, None, Bool, true, false, refl, sym, ap, ◌∙◌, subst, arith, length-append}
use Rattle.std.specs.Prelude.{slice_get}
use Rattle.std.proofs.lemmas.Option.{same_Some}
use Rattle.isp_base.specs.Maps.{on}
use Rattle.isp_base.specs.Sets.{Mask}
use Rattle.isp_base.specs.Values.{width}
use Rattle.isp_base.specs.declared.trap.TrapKind.{TrapKind}
use Rattle.isp_base.specs.declared.trap.TrapKind.TheVariants.{Divide}
use Rattle.isp_base.specs.declared.types.Elem.{Elem}
use Rattle.isp_base.specs.declared.types.Rate.{Rate}
use Rattle.isp_base.specs.declared.types.Rate.TheVariants.{Uniform, Varying}
use Rattle.isp_base.specs.declared.types.Value.{Value}
use Rattle.isp_base.specs.declared.types.Span.{Span}
use Rattle.isp_code.specs.Calls.{no_place}
use Rattle.isp_code.specs.Conf.{Conf, Go}
use Rattle.isp_code.specs.Lines.{act}
use Rattle.isp_code.specs.declared.instr.Instr.{Instr}
use Rattle.isp_meaning.specs.State.{State, tick}
use Rattle.isp_meaning.specs.Payloads.{Payload, One, Each, converted, mapped, joined}
use Rattle.isp_meaning.specs.Outcomes.{Val, Gives, bind, checked}
use Rattle.isp_meaning.specs.Expressions.{value}
use Rattle.isp_typed.specs.Fine.{heads}
use Rattle.isp_typed.specs.Typed.{TExpr, t_constant, t_program_index, t_place, t_convert, t_cast, t_unary, t_binary, t_compare, t_logic, t_choose, t_call, t_library, t_packed_store, t_packed_load, type_of}
use Rattle.isp_lower_code.specs.Setting.{Setting, IsSettled, gang_of, calls_of, AreAt, at_rate, held_at, Holds}
use Rattle.isp_lower_code.specs.Runs.{Enters, Ok, Runs}
use Rattle.isp_lower_code.specs.Found.{found, in_vector, operand, operand_by, operand_of, lift_code, vector_of}
use Rattle.isp_lower_code.specs.Known.{constant_of, known, known_as, unless_kept}
use Rattle.isp_lower_code.specs.Pieces.{pair_code}
use Rattle.isp_lower_code.proofs.Base.{are_front, are_back, at_to, comes_none, moved_by, spares_all, spares_less}
use Rattle.isp_lower_code.proofs.Rates.{Filled, at_mapped, at_joined, filled_mapped, filled_joined, on_everywhere}
use Rattle.isp_lower_code.proofs.Lines.{set_at, value_at}
use Rattle.isp_lower_code.proofs.Combine.{lift_runs}
use Rattle.isp_lower_code.proofs.Found.{constant_is_one}
use Rattle.isp_lower_code.proofs.Values.{constant_is, wrap_bits}
use Rattle.isp_lower_code.proofs.Targets.{Target, target, Leaves, leaves_after, bind_leaves, write_sure}
use Rattle.isp_lower_code.proofs.Kept.{Low, runs_kept, held_kept}
use Rattle.isp_meaning.specs.Loads.{KeepsBy}
use Rattle.isp_lower_code.proofs.Parts.{OperandFits}

module _ (w : Setting) (ready : IsSettled w) where
  pub enters_less : (pc k n z q : ℕ) (a : Mask) (s : State) (c : Conf) → z ≤ q → Enters w pc k n a s c q → Enters w pc k n a s c z
  enters_less pc k n z q a s c le b = record { at = b.at; mask = b.mask; some = b.some; inside = b.inside; stands = b.stands; used = omega (arith, b.used); low = b.low }

  -- a node counts, and its first part begins
  pub enters_part : (pc k n z q : ℕ) (a : Mask) (s : State) (c : Conf) → z ≤ 32 + q → Enters w pc k n a s c q → Enters w pc k n a (tick s) c z
  enters_part pc k n z q a s c le b = record { at = b.at; mask = b.mask; some = b.some; inside = b.inside; stands = b.stands; used = omega (arith, b.used); low = b.low }

  -- a later part
  pub enters_later : {P : Conf → Type 0} (pc pc1 k n m z q q1 : ℕ) (a : Mask) (s s1 : State) (c : Conf) → n ≤ m → Enters w pc k n a s c q → (ok : Ok w c pc1 n q1 P s1) → z ≤ ok.steps + q1 → Enters w pc1 k m a s1 ok.conf z
  enters_later pc pc1 k n m z q q1 a s s1 c lt b ok le = record { at = ok.at; mask = ok.masks k b.low ∙ b.mask; some = b.some; inside = b.inside; stands = ok.stands; used = omega (arith, ok.bound); low = omega (arith, b.low) }

  -- one instruction that gives a value
  pub leaf_runs : (g : Target) (pc k n q rest : ℕ) (a : Mask) (s : State) (c : Conf) (i : Instr) (r : Rate) (t : Elem) (x y : Payload) → rest ≤ 31 + q
      → Enters w pc k n a s c q → slice_get w.routine.code pc ≡ Some i → at_rate r a x ≡ y → Filled r a y
      → act w.code w.routine c i ≡ Go (set_at r c (target w.layout g r t n) y)
      → Leaves w g (target w.layout g r t n) c (pc + 1) n rest r a (Gives x (tick s))
  leaf_runs g pc k n q rest a s c i r t x y le b has ex fill is =
      write_sure w ready g c c 0 pc (pc + 1) n rest a (tick s) i r t None Divide no_place x y (comes_none w c) b.at refl has b.stands (spares_all w n c) (λ k lt. refl) (omega (arith, b.used)) ex fill is

  -- a constant that is kept in a vector
  known_value : (x : TExpr) (v : Value) (a : Mask) (s : State) → known x ≡ Some v → value (gang_of w) w.frame (calls_of w) x a s ≡ Gives (One (v.bits % 2 ^ width v.elem)) (tick s)
  known_value (t_constant u sp) v a s e = let h : u ≡ v = cc in ap (λ z. Gives (One (z.bits % 2 ^ width z.elem)) (tick s)) h
  known_value (t_convert t x) v a s e = go (constant_of x) refl e
    where
      go : (o : Option Value) → constant_of x ≡ o → known_as t o ≡ Some v → bind (value (gang_of w) w.frame (calls_of w) x a s) (λ m s1. Gives (mapped (converted (type_of x).elem t) m) s1) ≡ Gives (One (v.bits % 2 ^ width v.elem)) (tick s)
      go None eo h = absurd (cc)
      go (Some u) eo h =
          let one = constant_is_one x u eo in
          let b = converted u.elem t u.bits in
          ap (λ y. bind (value (gang_of w) w.frame (calls_of w) y a s) (λ m s1. Gives (mapped (converted (type_of y).elem t) m) s1)) one.1
          ∙ ap (λ z. Gives (One z) (tick s)) (sym (constant_is u.elem t u.bits) ∙ wrap_bits t b)
          ∙ ap (λ z. Gives (One (z.bits % 2 ^ width z.elem)) (tick s)) (same_Some (record { elem = t; bits = b }) v h)
  known_value (t_program_index sp) v a s e = absurd (cc)
  known_value (t_place p) v a s e = absurd (cc)
  known_value (t_cast x t sp) v a s e = absurd (cc)
  known_value (t_unary o x t sp) v a s e = absurd (cc)
  known_value (t_binary o x y t sp) v a s e = absurd (cc)
  known_value (t_compare d x y r sp) v a s e = absurd (cc)
  known_value (t_logic g x y r sp) v a s e = absurd (cc)
  known_value (t_choose d x y t sp) v a s e = absurd (cc)
  known_value (t_call d t) v a s e = absurd (cc)
  known_value (t_library g t xs u sp) v a s e = absurd (cc)
  known_value (t_packed_store b x sp) v a s e = absurd (cc)
  known_value (t_packed_load b u sp) v a s e = absurd (cc)

  vector_runs : (r : Rate) (x : TExpr) (pc k n q rest : ℕ) (a : Mask) (s : State) (c : Conf) → rest ≤ 31 + q → Enters w pc k n a s c q
      → in_vector w.layout r (known x) ≡ true → Runs w c (pc + 0) n rest (Holds r a (vector_of w.layout (known x)))
      (value (gang_of w) w.frame (calls_of w) x a s)
  vector_runs r x pc k n q rest a s c le b is = go r (known x) refl is
    where
      go : (g : Rate) (o : Option Value) → known x ≡ o → in_vector w.layout g o ≡ true → Runs w c (pc + 0) n rest (Holds g a (vector_of w.layout o)) (value (gang_of w) w.frame (calls_of w) x a s)
      go Uniform o eo h = absurd (cc)
      go Varying None eo h = absurd (cc)
      go Varying (Some v) eo h =
          let z = v.bits % 2 ^ width v.elem in
          subst (Runs w c (pc + 0) n rest (Holds Varying a (w.layout.constant Varying v.elem v.bits))) (sym (known_value x v a s eo))
          (record {
            conf = c;
            steps = 0;
            comes = comes_none w c;
            at = at_to w c pc _ b.at (omega arith);
            stands = b.stands;
            spares = spares_all w n c;
            masks = λ j lt. refl;
            holds = ap Each (sym (on_everywhere (gang_of w) z a (λ p h. (b.inside p h).0)) ∙ ap (on a) (sym (b.stands.constants Varying v.elem v.bits h)));
            bound = omega (arith, le, b.used);
          })

  -- an operand, by the run of its own code
  pub operand_runs : (c : Conf) (pc k n q rest : ℕ) (a : Mask) (s : State) (r : Rate) (t : Elem) (x : TExpr) (code : List Instr)
      → OperandFits w r t x n → heads x + (1 + rest) ≤ 5 + q → Enters w pc k n a s c q → AreAt w.routine.code pc (operand_of w.layout r x k n code)
      → (AreAt w.routine.code pc code → Runs w c (pc + length code) n (1 + rest) (Holds (type_of x).rate a (found w.layout x n))
      (value (gang_of w) w.frame (calls_of w) x a s)) → Runs w c (pc + length (operand_of w.layout r x k n code)) n rest
      (Holds r a (operand w.layout r x n)) (value (gang_of w) w.frame (calls_of w) x a s)
  operand_runs c pc k n q rest a s r t x code fit le b has run = go (in_vector w.layout r (known x)) refl has
    where
      lift : List Instr
      lift = lift_code w.layout r (type_of x).rate (type_of x).elem (found w.layout x n) k n

      go : (z : Bool) → in_vector w.layout r (known x) ≡ z → AreAt w.routine.code pc (unless_kept z (code ++ lift))
          → Runs w c (pc + length (unless_kept z (code ++ lift))) n rest (Holds r a (operand_by w.layout z r x n))
          (value (gang_of w) w.frame (calls_of w) x a s)
      go true e at = vector_runs r x pc k n q rest a s c (omega (arith, le)) b e
      go false e at =
          let v = value (gang_of w) w.frame (calls_of w) x a s in
          let to : pc + length code + length lift ≡ pc + length (code ++ lift) = omega (arith, length-append code lift) in
          subst (λ p. Runs w c p n rest (Holds r a (operand_by w.layout false r x n)) v) to
          (lift_runs w ready c (pc + length code) k n rest a v r (type_of x).rate (type_of x).elem (found w.layout x n) fit.reaches b.mask b.low (are_back w.routine.code pc code lift at) (run (are_front w.routine.code pc code lift at)))

  -- an operand and an instruction on it
  pub one_runs : (g : Target) (c : Conf) (pc k n q : ℕ) (a : Mask) (va : Val Payload) (r : Rate) (t : Elem) (x : ℕ) (ca : List Instr) (i : Instr)
      (f : ℕ → ℕ) → c.masks k ≡ a → k < n → AreAt w.routine.code pc (ca ++ i ∷ [])
      → ((c : Conf) → act w.code w.routine c i ≡ Go (set_at r c (target w.layout g r t n) (mapped f (value_at r c k x))))
      → Runs w c (pc + length ca) n (1 + q) (Holds r a x) va
      → Leaves w g (target w.layout g r t n) c (pc + length (ca ++ i ∷ [])) n q r a (bind va (λ m s. Gives (mapped f m) s))
  one_runs g c pc k n q a va r t x ca i f em lt has line ra =
      let to : pc + length ca + 1 ≡ pc + length (ca ++ i ∷ []) = omega (arith, length-append ca (i ∷ [])) in
      bind_leaves w ready g (target w.layout g r t n) c (pc + length ca) n 1 q _ va _ _ n r a ra
      (λ m s ok.
      let c2 = ok.conf in
      let y = mapped f (held_at r c2.scalars c2.vectors a x) in
      let is : act w.code w.routine c2 i ≡ Go (set_at r c2 (target w.layout g r t n) y) = line c2 ∙ ap (λ b. Go (set_at r c2 (target w.layout g r t n) (mapped f (held_at r c2.scalars c2.vectors b x)))) (ok.masks k lt ∙ em) in
      write_sure w ready g c c2 ok.steps (pc + length ca) _ n q a s i r t None Divide no_place (mapped f m) y ok.comes ok.at to
      (are_back w.routine.code pc ca (i ∷ []) has).0 ok.stands ok.spares ok.masks (omega (arith, ok.bound))
      (at_mapped r a f m ∙ ap (mapped f) ok.holds) (filled_mapped r a f c2.scalars c2.vectors x) is)

  -- two operands and an instruction on them, which may trap by the second
  pub pair_runs : (g : Target) (c : Conf) (pc k n q : ℕ) (a : Mask) (va : Val Payload) (vb : Payload → State → Val Payload) (r : Rate) (t : Elem)
      (x y : ℕ) (ca : List Instr) (cb : ℕ → List Instr) (i : Instr) (f : ℕ → ℕ → ℕ) (o : Payload → Option ℕ) (kind : TrapKind) (sp : Span)
      → c.masks k ≡ a → k < n → Low w r (n + 1) x → AreAt w.routine.code pc (pair_code pc ca cb i) → ((z : Payload) → o z ≡ o (at_rate r a z))
      → ((c : Conf) → c.masks k ≡ a → act w.code w.routine c i
      ≡ moved_by (o (held_at r c.scalars c.vectors a y)) kind sp
      (set_at r c (target w.layout g r t n) (joined f a (held_at r c.scalars c.vectors a x) (held_at r c.scalars c.vectors a y))))
      → Runs w c (pc + length ca) n (1 + q) (Holds r a x) va
      → ((m : Payload) (s : State) (ok : Ok w c (pc + length ca) n (1 + q) (Holds r a x m) s)
      → Runs w ok.conf (pc + length ca + length (cb (pc + length ca))) (n + 1) (1 + (ok.steps + q)) (Holds r a y) (vb m s))
      → ((m : Payload) (s : State) → KeepsBy w.layout.loaded s (vb m s))
      → Leaves w g (target w.layout g r t n) c (pc + length (pair_code pc ca cb i)) n q r a
      (bind va (λ m s. bind (vb m s) (λ z s'. checked (o z) kind sp s' (joined f a m z))))
  pair_runs g c pc k n q a va vb r t x y ca cb i f o kind sp em lt low has ocong line ra rb still =
      let b = cb (pc + length ca) in
      let to : pc + length ca + length b + 1 ≡ pc + length (ca ++ (b ++ i ∷ [])) = omega (arith, length-append ca (b ++ i ∷ []), length-append b (i ∷ [])) in
      let here = (are_back w.routine.code (pc + length ca) b (i ∷ []) (are_back w.routine.code pc ca (b ++ i ∷ []) has)).0 in
      bind_leaves w ready g (target w.layout g r t n) c (pc + length ca) n 1 q _ va _ _ n r a ra
      (λ m s ok.
      let c1 = ok.conf in
      leaves_after w ready g (target w.layout g r t n) c c1 ok.steps _ n q r a _ ok.comes ok.spares ok.masks
      (bind_leaves w ready g (target w.layout g r t n) c1 _ (n + 1) 1 (ok.steps + q) _ (vb m s) _ _ n r a (runs_kept w c1 _ (n + 1) (1 + (ok.steps + q)) (Holds r a y) (vb m s) s ok.stands (still m s) (rb m s ok))
      (λ z s' ok2.
      let c2 = ok2.conf in
      let u = held_at r c2.scalars c2.vectors a x in
      let v = held_at r c2.scalars c2.vectors a y in
      let e2 : c2.masks k ≡ a = ok2.masks k (omega arith) ∙ ok.masks k lt ∙ em in
      let ex : at_rate r a m ≡ u = ok.holds ∙ sym (held_kept w r (n + 1) c1 c2 a x ok2.holds.1 low) in
      let eo : o v ≡ o z = ap o (sym ok2.holds.0) ∙ sym (ocong z) in
      let is : act w.code w.routine c2 i ≡ moved_by (o z) kind sp (set_at r c2 (target w.layout g r t n) (joined f a u v)) = line c2 e2 ∙ ap (λ p. moved_by p kind sp (set_at r c2 (target w.layout g r t n) (joined f a u v))) eo in
      write_sure w ready g c1 c2 ok2.steps _ _ n (ok.steps + q) a s' i r t (o z) kind sp (joined f a m z) (joined f a u v) ok2.comes ok2.at to here
      ok2.stands (spares_less w n (n + 1) c1 c2 (omega arith) ok2.spares) (λ j h. ok2.masks j (omega arith)) (omega (arith, ok2.bound))
      (at_joined r a f m z ∙ ap (λ p. joined f a p (at_rate r a z)) ex ∙ ap (joined f a u) ok2.holds.0)
      (filled_joined r a f c2.scalars c2.vectors x y) is)))
