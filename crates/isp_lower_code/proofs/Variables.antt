-- A variable gets the value of an expression: from its last instruction where that writes it, else by a copy.
use Rattle.std.proofs.Common.{◌≡◌, ℕ, ◌+◌, ◌%◌, ◌^◌, ◌<◌, ◌≤◌, List, [], ◌∷◌, ◌++◌, length, Bool, true, false, refl, sym, ◌∙◌, subst, arith, length-append}
use Rattle.std.specs.Prelude.{not}
use Rattle.isp_base.specs.Sets.{Mask}
use Rattle.isp_base.specs.Values.{width}
use Rattle.isp_base.specs.declared.types.Elem.{Elem}
use Rattle.isp_base.specs.declared.types.Rate.{Rate}
use Rattle.isp_base.specs.declared.types.Rate.TheVariants.{Uniform, Varying}
use Rattle.isp_code.specs.Conf.{Conf}
use Rattle.isp_code.specs.declared.instr.Instr.{Instr}
use Rattle.isp_typed.specs.Fine.{heads}
use Rattle.isp_typed.specs.Typed.{TExpr, t_constant, t_program_index, t_place, t_convert, t_cast, t_unary, t_binary, t_compare, t_logic, t_choose, t_call, t_called, t_library, t_packed_store, t_packed_load, t_variable, t_element, type_of}
use Rattle.isp_meaning.specs.State.{State, tick}
use Rattle.isp_meaning.specs.Payloads.{Payload}
use Rattle.isp_meaning.specs.Outcomes.{Val, Gives, bind}
use Rattle.isp_meaning.specs.Places.{written}
use Rattle.isp_lower_code.specs.Setting.{Setting, IsSettled, AreAt, Holds}
use Rattle.isp_lower_code.specs.Runs.{Enters, Runs, DoneRuns}
use Rattle.isp_lower_code.specs.Code.{variable_read, expr_code, expr_to, choose_to, variable_from, variable_code}
use Rattle.isp_lower_code.specs.Found.{convert_to, is_copied, is_kept, part_to, lift_to, found, operand, operand_of}
use Rattle.isp_lower_code.specs.Instructions.{constant, copy}
use Rattle.isp_lower_code.specs.Known.{constant_of, unless_kept}
use Rattle.isp_lower_code.specs.Spans.{expr_places}
use Rattle.isp_lower_code.specs.Stays.{writes_part, writes_last, is_short}
use Rattle.isp_lower_code.proofs.Base.{MayWrite, are_front, are_back}
use Rattle.isp_lower_code.proofs.Done.{bind_done, variable_done, splat_done}
use Rattle.isp_lower_code.proofs.Found.{few}
use Rattle.isp_lower_code.proofs.Values.{wrap_bits}
use Rattle.isp_lower_code.proofs.Targets.{InVariable}
use Rattle.isp_lower_code.proofs.Nodes.{enters_part, operand_runs}
use Rattle.isp_lower_code.proofs.PlainNodes.{means, NodeRuns, constant_runs, index_node, convert_node, unary_node, binary_node, compare_node, copied_node}
use Rattle.isp_lower_code.proofs.Reached.{element_node}
use Rattle.isp_lower_code.proofs.ChoiceNodes.{choose_node}
use Rattle.isp_lower_code.proofs.PackedNodes.{packed_store_node, packed_load_node}
use Rattle.isp_lower_code.proofs.LibraryNodes.{library_node}
use Rattle.isp_lower_code.proofs.CallNodes.{call_node}
use Rattle.isp_lower_code.proofs.Exprs.{expr_runs, base_runs, values_run, arguments_run}
use Rattle.isp_lower_code.proofs.Kept.{is_read}
use Rattle.isp_lower_code.proofs.Parts.{ExprParts, OperandFits}
use Rattle.isp_lower_code.specs.Rated.{Reaches}
use Rattle.isp_lower_code.specs.Tables.{IsTyped}

module _ (w : Setting) (ready : IsSettled w) where
  -- a part that may be of another rate
  part_done : (v : ℕ) (e : Bool) (c : Conf) (pc k n q : ℕ) (a : Mask) (vx : Val Payload) (r given : Rate) (f : ℕ) (code : ℕ → List Instr)
      → Reaches given r → MayWrite w r v → c.masks k ≡ a → k < n → writes_part w.layout r given e ≡ true
      → AreAt w.routine.code pc (code (part_to w.layout r given (w.layout.variable r v) f) ++ lift_to w.layout r given (w.layout.variable r v) f k)
      → (AreAt w.routine.code pc (code f) → Runs w c (pc + length (code f)) n (1 + q) (Holds given a f) vx)
      → (given ≡ r → e ≡ true → AreAt w.routine.code pc (code (w.layout.variable given v))
      → DoneRuns w c (pc + length (code (w.layout.variable given v))) n q (bind vx (λ m s. Gives tt (written given v a m s))))
      → DoneRuns w c (pc + length (code (part_to w.layout r given (w.layout.variable r v) f) ++ lift_to w.layout r given (w.layout.variable r v) f k))
      n q (bind vx (λ m s. Gives tt (written r v a m s)))
  part_done v e c pc k n q a vx Uniform Uniform f code re other em lk es has copied direct = plain v c pc n q a vx Uniform (code (w.layout.variable Uniform v)) (direct refl es (are_front w.routine.code pc (code (w.layout.variable Uniform v)) _ has))
    where
      plain : (v : ℕ) (c : Conf) (pc n q : ℕ) (a : Mask) (vx : Val Payload) (r : Rate) (xs : List Instr)
          → DoneRuns w c (pc + length xs) n q (bind vx (λ m s. Gives tt (written r v a m s)))
          → DoneRuns w c (pc + length (xs ++ [])) n q (bind vx (λ m s. Gives tt (written r v a m s)))
      plain v c pc n q a vx r xs run = let to : pc + length xs ≡ pc + length (xs ++ []) = omega (arith, length-append xs []) in subst (λ g. DoneRuns w c g n q (bind vx (λ m s. Gives tt (written r v a m s)))) to run
  part_done v e c pc k n q a vx Uniform Varying f code re other em lk es has copied direct = absurd re
  part_done v e c pc k n q a vx Varying Varying f code re other em lk es has copied direct =
      let xs = code (w.layout.variable Varying v) in
      let to : pc + length xs ≡ pc + length (xs ++ []) = omega (arith, length-append xs []) in
      subst (λ g. DoneRuns w c g n q (bind vx (λ m s. Gives tt (written Varying v a m s)))) to (direct refl es (are_front w.routine.code pc xs _ has))
  part_done v e c pc k n q a vx Varying Uniform f code re other em lk es has copied direct =
      let xs = code f in
      let to : pc + length xs + 1 ≡ pc + length (xs ++ lift_to w.layout Varying Uniform (w.layout.variable Varying v) f k) = omega (arith, length-append xs (lift_to w.layout Varying Uniform (w.layout.variable Varying v) f k)) in
      bind_done w ready c (pc + length xs) n 1 q (Holds Uniform a f) vx _ _ n (copied (are_front w.routine.code pc xs _ has))
      (λ m s ok. splat_done w ready v m a s c ok.conf ok.steps (pc + length xs) _ k f n q ok.comes ok.at to (are_back w.routine.code pc xs _ has).0 ok.stands ok.spares ok.masks (ok.masks k lk ∙ em) (omega (arith, ok.bound)) ok.holds other.0)

  -- an expression whose last instruction writes the variable
  direct_runs : (v : ℕ) (x : TExpr) → writes_last w.layout x ≡ true → NodeRuns w ready (InVariable v) x
  direct_runs v (t_constant u sp) e pc p k n q rest a s c fit ty has places le b = go (w.layout.kept Uniform u.elem u.bits) e has
    where
      code : Bool → List Instr
      code z = unless_kept z (constant (w.layout.variable Uniform v) u.elem u.bits ∷ [])

      go : (z : Bool) → not z ≡ true → AreAt w.routine.code pc (code z) → MayWrite w Uniform v → DoneRuns w c (pc + length (code z)) n rest (bind (means w ready (t_constant u sp) a s) (λ m s. Gives tt (written Uniform v a m s)))
      go true h at = absurd (cc)
      go false h at = constant_runs w ready (InVariable v) pc k n q rest a s c u.elem u.bits (u.bits % 2 ^ width u.elem) (omega (arith, le)) b ty at.0 (wrap_bits u.elem u.bits)
  direct_runs v (t_program_index sp) e pc p k n q rest a s c fit ty has places le b = index_node w ready (InVariable v) sp pc p k n q rest a s c fit ty has places le b
  direct_runs v (t_place (t_variable u t sp)) e pc p k n q rest a s c fit ty has places le b = go (is_copied w.layout t.rate u) e has
    where
      go : (z : Bool) → z ≡ true → AreAt w.routine.code pc (variable_read w.layout z (w.layout.variable t.rate v) t.rate u k) → MayWrite w t.rate v
          → DoneRuns w c (pc + length (variable_read w.layout z (w.layout.variable t.rate v) t.rate u k)) n rest
          (bind (means w ready (t_place (t_variable u t sp)) a s) (λ m s. Gives tt (written t.rate v a m s)))
      go true h at = copied_node w ready (InVariable v) u t pc k n q rest a s c (is_read w t.rate t.elem u fit.0.1) (omega (arith, le)) b at.0
      go false h at = absurd (cc)
  direct_runs v (t_place (t_element y i t sp)) e pc p k n q rest a s c fit ty has places le b = element_node w ready (InVariable v) y i t sp (expr_runs w ready i) pc p k n q rest a s c fit ty has places le b
  direct_runs v (t_convert u x) e pc p k n q rest a s c fit ty has places le b = go (is_kept w.layout (constant_of x) (type_of x).rate u) e has
    where
      code : Bool → List Instr
      code z = unless_kept z (convert_to w.layout (constant_of x) u (type_of x).rate (w.layout.variable (type_of x).rate v) (found w.layout x n) k (expr_code w.layout x pc p k n))

      go : (z : Bool) → not z ≡ true → AreAt w.routine.code pc (code z) → MayWrite w (type_of x).rate v → DoneRuns w c (pc + length (code z)) n rest (bind (means w ready (t_convert u x) a s) (λ m s. Gives tt (written (type_of x).rate v a m s)))
      go true h at = absurd (cc)
      go false h at = convert_node w ready (InVariable v) u x (expr_runs w ready x) pc p k n q rest a s c fit ty at places le b
  direct_runs v (t_cast x t sp) e pc p k n q rest a s c fit ty has places le b = λ other.
      let f : heads x ≤ 1 = few w x n fit.1 in
      part_done v (writes_last w.layout x) c pc k n rest a (means w ready x a (tick s)) t.rate (type_of x).rate (found w.layout x n) (λ d. expr_to w.layout d x pc p k n) fit.0.reaches other b.mask b.low e has
      (λ at. expr_runs w ready x pc p k n (32 + q) (1 + rest) a (tick s) c fit.1 at places (omega arith) (enters_part w ready pc k n (32 + q) q a s c (omega arith) b))
      (λ same es at. direct_runs v x es pc p k n (32 + q) rest a (tick s) c fit.1 (typed same) at places (omega arith) (enters_part w ready pc k n (32 + q) q a s c (omega arith) b) (subst (λ g. MayWrite w g v) (sym same) other))
    where
      typed : (type_of x).rate ≡ t.rate → IsTyped w (type_of x).rate (w.layout.variable (type_of x).rate v) (type_of x).elem
      typed same = subst (λ g. IsTyped w g (w.layout.variable g v) (type_of x).elem) (sym same) (ty ∙ sym fit.0.elem)
  direct_runs v (t_unary o x t sp) e pc p k n q rest a s c fit ty has places le b = unary_node w ready (InVariable v) o x t sp (expr_runs w ready x) pc p k n q rest a s c fit ty has places le b
  direct_runs v (t_binary o x y t sp) e pc p k n q rest a s c fit ty has places le b = binary_node w ready (InVariable v) o x y t sp (expr_runs w ready x) (expr_runs w ready y) pc p k n q rest a s c fit ty has places le b
  direct_runs v (t_compare o x y r sp) e pc p k n q rest a s c fit ty has places le b = compare_node w ready (InVariable v) o x y r sp (expr_runs w ready x) (expr_runs w ready y) pc p k n q rest a s c fit ty has places le b
  direct_runs v (t_logic g x y r sp) e pc p k n q rest a s c fit ty has places le b = absurd (cc)
  direct_runs v (t_choose d x y t sp) e pc p k n q rest a s c fit ty has places le b = go (is_short w.layout t.rate d x y) refl e has
    where
      code : Bool → List Instr
      code z = choose_to w.layout z (w.layout.variable t.rate v) d x y t pc k n (expr_code w.layout d pc p k n)
          (λ pc1 m i. operand_of w.layout t.rate x m i (expr_code w.layout x pc1 (p + length (expr_places w.layout d)) m i))
          (λ pc1 m i. operand_of w.layout t.rate y m i (expr_code w.layout y pc1
          (p + length (expr_places w.layout d) + length (expr_places w.layout x)) m i))

      go : (z : Bool) → is_short w.layout t.rate d x y ≡ z → z ≡ true → AreAt w.routine.code pc (code z) → MayWrite w t.rate v
          → DoneRuns w c (pc + length (code z)) n rest (bind (means w ready (t_choose d x y t sp) a s) (λ m s. Gives tt (written t.rate v a m s)))
      go true ez h at = choose_node w ready (InVariable v) d x y t sp (expr_runs w ready d) ez pc p k n q rest a s c fit at (are_front w.code.places p (expr_places w.layout d) _ places) (omega arith) b
      go false ez h at = absurd (cc)
  direct_runs v (t_call (t_called g xs sp) t) e pc p k n q rest a s c fit ty has places le b = call_node w ready (InVariable v) g xs sp t (arguments_run w ready xs) pc p k n q rest a s c fit ty has places le b
  direct_runs v (t_library g u xs t sp) e pc p k n q rest a s c fit ty has places le b = library_node w ready (InVariable v) g u xs t sp (values_run w ready xs) pc p k n q rest a s c fit ty has places le b
  direct_runs v (t_packed_store d x sp) e pc p k n q rest a s c fit ty has places le b = packed_store_node w ready (InVariable v) d x sp (base_runs w ready d) (expr_runs w ready x) pc p k n q rest a s c fit ty has places le b
  direct_runs v (t_packed_load d u sp) e pc p k n q rest a s c fit ty has places le b = packed_load_node w ready (InVariable v) d u sp (base_runs w ready d) pc p k n q rest a s c fit ty has places le b

  pub variable_runs : (r : Rate) (e : Elem) (v : ℕ) (x : TExpr) (pc p k n q rest : ℕ) (a : Mask) (s : State) (c : Conf) → MayWrite w r v
      → IsTyped w r (w.layout.variable r v) e → OperandFits w r e x n → ExprParts w x n
      → AreAt w.routine.code pc (variable_code w.layout r v x pc p k n) → AreAt w.code.places p (expr_places w.layout x) → heads x + rest ≤ 3 + q
      → Enters w pc k n a s c q → DoneRuns w c (pc + length (variable_code w.layout r v x pc p k n)) n rest
      (bind (means w ready x a s) (λ m s1. Gives tt (written r v a m s1)))
  variable_runs r e v x pc p k n q rest a s c other ty ofit fit has places le b = go (writes_part w.layout r (type_of x).rate (writes_last w.layout x)) refl has
    where
      d : ℕ
      d = w.layout.variable r v

      typed : (type_of x).rate ≡ r → IsTyped w (type_of x).rate (w.layout.variable (type_of x).rate v) (type_of x).elem
      typed same = subst (λ g. IsTyped w g (w.layout.variable g v) (type_of x).elem) (sym same) (ty ∙ sym ofit.elem)

      go : (z : Bool) → writes_part w.layout r (type_of x).rate (writes_last w.layout x) ≡ z
          → AreAt w.routine.code pc (variable_from w.layout z r d x pc p k n)
          → DoneRuns w c (pc + length (variable_from w.layout z r d x pc p k n)) n rest
          (bind (means w ready x a s) (λ m s1. Gives tt (written r v a m s1)))
      go true ez at =
          part_done v (writes_last w.layout x) c pc k n rest a (means w ready x a s) r (type_of x).rate (found w.layout x n) (λ d. expr_to w.layout d x pc p k n) ofit.reaches other b.mask b.low ez at
          (λ h. expr_runs w ready x pc p k n q (1 + rest) a s c fit h places (omega arith) b)
          (λ same es h. direct_runs v x es pc p k n q rest a s c fit (typed same) h places (omega arith) b (subst (λ g. MayWrite w g v) (sym same) other))
      go false ez at =
          let cx = expr_code w.layout x pc p k n in
          let ca = operand_of w.layout r x k n cx in
          let last = copy r d (operand w.layout r x n) k ∷ [] in
          let ha : AreAt w.routine.code pc ca = are_front w.routine.code pc ca last at in
          let to : pc + length ca + 1 ≡ pc + length (ca ++ last) = omega (arith, length-append ca last) in
          bind_done w ready c (pc + length ca) n 1 rest (Holds r a (operand w.layout r x n)) (means w ready x a s) _ _ n
          (operand_runs w ready c pc k n q (1 + rest) a s r e x cx ofit (omega arith) b ha
          (λ at. expr_runs w ready x pc p k n q (1 + (1 + rest)) a s c fit at places (omega arith) b))
          (λ m s2 ok. variable_done w ready r v m a s2 c ok.conf ok.steps (pc + length ca) _ k (operand w.layout r x n) n rest ok.comes ok.at to
          (are_back w.routine.code pc ca last at).0 ok.stands ok.spares ok.masks (ok.masks k b.low ∙ b.mask) (omega (arith, ok.bound)) ok.holds
          other)
