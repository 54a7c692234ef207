-- The code of an expression gives the expression's value.
use Rattle.std.proofs.Common.{◌≡◌, ℕ, ◌+◌, ◌<◌, ◌≤◌, [], ◌∷◌, ◌++◌, length, refl, subst, arith, length-append}
use Rattle.isp_base.specs.Sets.{Mask}
use Rattle.isp_base.specs.declared.types.Elem.TheVariants.{Bool as Truth}
use Rattle.isp_base.specs.declared.types.Rate.TheVariants.{Uniform, Varying}
use Rattle.isp_base.specs.declared.types.Span.{Span}
use Rattle.isp_code.specs.Calls.{place_at}
use Rattle.isp_code.specs.Conf.{Conf}
use Rattle.isp_meaning.specs.State.{State, tick}
use Rattle.isp_meaning.specs.Outcomes.{Gives, bind}
use Rattle.isp_meaning.specs.Expressions.{Values, values, arguments, passed}
use Rattle.isp_typed.specs.Fine.{heads}
use Rattle.isp_typed.specs.declared.variable.Holds.{Holds as Held}
use Rattle.isp_typed.specs.declared.variable.Holds.TheVariants as holds
use Rattle.isp_typed.specs.Typed.{TExpr, t_constant, t_program_index, t_place, t_convert, t_cast, t_unary, t_binary, t_compare, t_logic, t_choose, t_call, t_library}
use Rattle.isp_typed.specs.Typed.{t_packed_store, t_packed_load, t_variable, t_element, TBase, t_whole, t_from, TArgument, t_by_value, t_by_name, t_called}
use Rattle.isp_typed.specs.Typed.{TArguments, t_no_arguments, t_argument_then, TExprs, t_no_exprs, t_expr_then, type_of}
use Rattle.isp_lower_code.specs.Callees.{later, next_rate, rate_held, rates_held}
use Rattle.isp_lower_code.specs.Calls.{IsHanded, AreHanded}
use Rattle.isp_lower_code.specs.Setting.{Setting, IsSettled, gang_of, calls_of, AreAt, Holds}
use Rattle.isp_lower_code.specs.Runs.{Enters, Runs}
use Rattle.isp_lower_code.specs.Code.{expr_code, expr_to, values_code, value_registers, argument_register, argument_registers, argument_code, arguments_code}
use Rattle.isp_lower_code.specs.Found.{found, operand, operand_of}
use Rattle.isp_lower_code.specs.Spans.{expr_places, argument_places}
use Rattle.isp_lower_code.proofs.Base.{are_front, are_back, comes_none, at_to, spares_all}
use Rattle.isp_lower_code.proofs.Combine.{runs_after, bind_runs, told_as}
use Rattle.isp_lower_code.proofs.Found.{few}
use Rattle.isp_lower_code.proofs.Logic.{logic_one, logic_each}
use Rattle.isp_lower_code.proofs.Targets.{InSlot}
use Rattle.isp_lower_code.proofs.Nodes.{enters_part, enters_later, operand_runs}
use Rattle.isp_lower_code.proofs.InRow.{AllHold}
use Rattle.isp_lower_code.proofs.Kept.{arguments_still, values_still}
use Rattle.isp_lower_code.proofs.Parts.{ExprParts, ArgumentParts}
use Rattle.isp_lower_code.proofs.PlainNodes.{means, number_runs, index_node, variable_runs, converted_runs, unary_node, binary_node, compare_node}
use Rattle.isp_lower_code.proofs.Reached.{element_node}
use Rattle.isp_lower_code.proofs.ChoiceNodes.{cast_runs, choose_any}
use Rattle.isp_lower_code.proofs.PackedNodes.{BaseRuns, whole_base, from_base, packed_store_node, packed_load_node}
use Rattle.isp_lower_code.proofs.LibraryNodes.{held_both, ValuesRun, library_node}
use Rattle.isp_lower_code.proofs.CallNodes.{named_run, handed_both, ArgumentsRun, call_node}

-- the places of a node are in the code
abbrev PlaceIs : Setting → ℕ → Span → Type 0
PlaceIs w p sp = place_at w.code p ≡ sp

module _ (w : Setting) (ready : IsSettled w) where
  mutual
    pub expr_runs : (x : TExpr) (pc p k n q rest : ℕ) (a : Mask) (s : State) (c : Conf) → ExprParts w x n
        → AreAt w.routine.code pc (expr_code w.layout x pc p k n) → AreAt w.code.places p (expr_places w.layout x) → heads x + rest ≤ 5 + q
        → Enters w pc k n a s c q → Runs w c (pc + length (expr_code w.layout x pc p k n)) n rest (Holds (type_of x).rate a (found w.layout x n))
        (means w ready x a s)
    expr_runs (t_constant v sp) pc p k n q rest a s c fit has places le b = number_runs w ready v sp pc p k n q rest a s c fit has places le b
    expr_runs (t_program_index sp) pc p k n q rest a s c fit has places le b = index_node w ready InSlot sp pc p k n q rest a s c fit fit has places le b
    expr_runs (t_place (t_variable v t sp)) pc p k n q rest a s c fit has places le b = variable_runs w ready v t sp pc p k n q rest a s c fit has places le b
    expr_runs (t_place (t_element y i t sp)) pc p k n q rest a s c fit has places le b = element_node w ready InSlot y i t sp
        (λ pc p k n q rest a s c f h pl le z. expr_runs i pc p k n q rest a s c f h pl le z) pc p k n q rest a s c fit fit.1 has places le b
    expr_runs (t_convert e x) pc p k n q rest a s c fit has places le b = converted_runs w ready e x (λ pc p k n q rest a s c f h pl le z. expr_runs x pc p k n q rest a s c f h pl le z) pc p k n q rest a s c fit has places le b
    expr_runs (t_cast x t sp) pc p k n q rest a s c fit has places le b =
        let f : heads x ≤ 1 = few w x n fit.1 in
        cast_runs w ready c pc k n rest a (means w ready x a (tick s)) t.rate (type_of x).rate (type_of x).elem (found w.layout x n) (λ d. expr_to w.layout d x pc p k n) fit.0.reaches b.mask b.low has
        (λ at. expr_runs x pc p k n (32 + q) (1 + rest) a (tick s) c fit.1 at places (omega arith) (enters_part w ready pc k n (32 + q) q a s c (omega arith) b))
    expr_runs (t_unary o x t sp) pc p k n q rest a s c fit has places le b = unary_node w ready InSlot o x t sp (λ pc p k n q rest a s c f h pl le z. expr_runs x pc p k n q rest a s c f h pl le z) pc p k n q rest a s c fit fit.1 has places le b
    expr_runs (t_binary o x y t sp) pc p k n q rest a s c fit has places le b = binary_node w ready InSlot o x y t sp
        (λ pc p k n q rest a s c f h pl le z. expr_runs x pc p k n q rest a s c f h pl le z)
        (λ pc p k n q rest a s c f h pl le z. expr_runs y pc p k n q rest a s c f h pl le z) pc p k n q rest a s c fit fit.2 has places le b
    expr_runs (t_compare o x y r sp) pc p k n q rest a s c fit has places le b = compare_node w ready InSlot o x y r sp
        (λ pc p k n q rest a s c f h pl le z. expr_runs x pc p k n q rest a s c f h pl le z)
        (λ pc p k n q rest a s c f h pl le z. expr_runs y pc p k n q rest a s c f h pl le z) pc p k n q rest a s c fit fit.2 has places le b
    expr_runs (t_logic g x y Uniform sp) pc p k n q rest a s c fit has places le b =
        let fx : heads x ≤ 1 = few w x n fit.3 in
        let fy : heads y ≤ 1 = few w y (n + 1) fit.4 in
        let lk : k < n = b.low in
        let cx = expr_code w.layout x pc p k n in
        let ca = operand_of w.layout Uniform x k n cx in
        let ha : AreAt w.routine.code pc ca = are_front w.routine.code pc ca _ (are_front w.routine.code pc (ca ++ _) _ has) in
        let p1 = p + length (expr_places w.layout x) in
        let pl = are_back w.code.places p (expr_places w.layout x) _ places in
        logic_one w ready g c pc k n rest a (means w ready x a (tick s)) (λ z s1. means w ready y z s1) (operand w.layout Uniform x n)
        (operand w.layout Uniform y (n + 1)) ca (λ pc1 m. operand_of w.layout Uniform y m (n + 1) (expr_code w.layout y pc1 p1 m (n + 1))) b.mask
        lk b.some b.inside has
        (operand_runs w ready c pc k n (32 + q) (1 + (1 + rest)) a (tick s) Uniform Truth x cx fit.0 (omega arith) (enters_part w ready pc k n (32 + q) q a s c (omega arith) b) ha
        (λ at. expr_runs x pc p k n (32 + q) (1 + (1 + (1 + rest))) a (tick s) c fit.3 at (are_front w.code.places p (expr_places w.layout x) _ places) (omega arith) (enters_part w ready pc k n (32 + q) q a s c (omega arith) b)))
        (λ s1 c1 pc1 z at en. operand_runs w ready c1 pc1 k (n + 1) z (1 + z) a s1 Uniform Truth y (expr_code w.layout y pc1 p1 k (n + 1)) fit.1 (omega arith) en at
        (λ at. expr_runs y pc1 p1 k (n + 1) z (1 + (1 + z)) a s1 c1 fit.4 at pl (omega arith) en))
    expr_runs (t_logic g x y Varying sp) pc p k n q rest a s c fit has places le b =
        let fx : heads x ≤ 1 = few w x n fit.3 in
        let fy : heads y ≤ 1 = few w y (n + 1) fit.4 in
        let lk : k < n = b.low in
        let cx = expr_code w.layout x pc p k n in
        let ca = operand_of w.layout Varying x k n cx in
        let ha : AreAt w.routine.code pc ca = are_front w.routine.code pc ca _ (are_front w.routine.code pc (ca ++ _) _ has) in
        let p1 = p + length (expr_places w.layout x) in
        let pl = are_back w.code.places p (expr_places w.layout x) _ places in
        logic_each w ready g c pc k n rest a (means w ready x a (tick s)) (λ z s1. means w ready y z s1) (operand w.layout Varying x n)
        (operand w.layout Varying y (n + 1)) ca (λ pc1 m. operand_of w.layout Varying y m (n + 1) (expr_code w.layout y pc1 p1 m (n + 1))) b.mask
        lk b.some b.inside has
        (operand_runs w ready c pc k n (32 + q) (1 + (2 + (1 + rest))) a (tick s) Varying Truth x cx fit.0 (omega arith) (enters_part w ready pc k n (32 + q) q a s c (omega arith) b) ha
        (λ at. expr_runs x pc p k n (32 + q) (1 + (1 + (2 + (1 + rest)))) a (tick s) c fit.3 at (are_front w.code.places p (expr_places w.layout x) _ places) (omega arith) (enters_part w ready pc k n (32 + q) q a s c (omega arith) b)))
        (λ T s1 c1 pc1 z at en. operand_runs w ready c1 pc1 n (n + 1) z (1 + z) T s1 Varying Truth y (expr_code w.layout y pc1 p1 n (n + 1)) fit.1 (omega arith) en at
        (λ at. expr_runs y pc1 p1 n (n + 1) z (1 + (1 + z)) T s1 c1 fit.4 at pl (omega arith) en))
    expr_runs (t_choose e x y t sp) pc p k n q rest a s c fit has places le b = choose_any w ready e x y t sp
        (λ pc p k n q rest a s c f h pl le z. expr_runs e pc p k n q rest a s c f h pl le z)
        (λ pc p k n q rest a s c f h pl le z. expr_runs x pc p k n q rest a s c f h pl le z)
        (λ pc p k n q rest a s c f h pl le z. expr_runs y pc p k n q rest a s c f h pl le z) pc p k n q rest a s c fit has places le b
    expr_runs (t_call (t_called g xs sp) t) pc p k n q rest a s c fit has places le b = call_node w ready InSlot g xs sp t
        (λ vs pc p k n q rest a s c f h pl le z. arguments_run xs vs pc p k n q rest a s c f h pl le z) pc p k n q rest a s c fit fit.0 has places le
        b
    expr_runs (t_library g e xs t sp) pc p k n q rest a s c fit has places le b = library_node w ready InSlot g e xs t sp
        (λ rs pc p k n q rest a s c f h pl le z. values_run xs rs pc p k n q rest a s c f h pl le z) pc p k n q rest a s c fit fit.1 has places le b
    expr_runs (t_packed_store d x sp) pc p k n q rest a s c fit has places le b = packed_store_node w ready InSlot d x sp
        (λ pc p k n q rest a s c f h pl le z. base_runs d pc p k n q rest a s c f h pl le z)
        (λ pc p k n q rest a s c f h pl le z. expr_runs x pc p k n q rest a s c f h pl le z) pc p k n q rest a s c fit fit.0 has places le b
    expr_runs (t_packed_load d v sp) pc p k n q rest a s c fit has places le b = packed_load_node w ready InSlot d v sp
        (λ pc p k n q rest a s c f h pl le z. base_runs d pc p k n q rest a s c f h pl le z) pc p k n q rest a s c fit fit.0 has places le b

    -- the number of the first element of a packed call
    pub base_runs : (d : TBase) → BaseRuns w ready d
    base_runs (t_whole y sp) pc p k n q rest a s c fit has places le b = whole_base w ready y sp pc k n q rest a s c fit.2 has.0 le b
    base_runs (t_from y i sp) pc p k n q rest a s c fit has places le b = from_base w ready y i sp (λ pc p k n q rest a s c f h pl le z. expr_runs i pc p k n q rest a s c f h pl le z) pc p k n q rest a s c fit has places le b

    -- values, each at its slot
    pub values_run : (xs : TExprs) → ValuesRun w ready xs
    values_run t_no_exprs rs pc p k n q rest a s c fit has places le b = record {
      conf = c;
      steps = 0;
      comes = comes_none w c;
      at = at_to w c pc _ b.at (omega arith);
      stands = b.stands;
      spares = spares_all w n c;
      masks = λ j h. refl;
      holds = tt;
      bound = omega (arith, le, b.used);
    }
    values_run (t_expr_then x xs) rs pc p k n q rest a s c fit has places le b =
        let r = next_rate rs in
        let f : heads x ≤ 1 = few w x n fit.1 in
        let cx = expr_code w.layout x pc p k n in
        let ca = operand_of w.layout r x k n cx in
        let pc1 = pc + length ca in
        let px = expr_places w.layout x in
        let p1 = p + length px in
        let cb = values_code w.layout (later rs) xs pc1 p1 k (n + 1) in
        let regs = value_registers w.layout (later rs) xs (n + 1) in
        let to : pc1 + length cb ≡ pc + length (ca ++ cb) = omega (arith, length-append ca cb) in
        let ha : AreAt w.routine.code pc ca = are_front w.routine.code pc ca cb has in
        bind_runs w ready c pc1 n 0 rest (Holds r a (operand w.layout r x n)) (means w ready x a s) _ (pc + length (ca ++ cb)) n (λ ms c'. AllHold rs a (operand w.layout r x n ∷ regs) ms c')
        (operand_runs w ready c pc k n q (0 + rest) a s r (type_of x).elem x cx fit.0 (omega (arith, le)) b ha
        (λ at. expr_runs x pc p k n q (1 + (0 + rest)) a s c fit.1 at (are_front w.code.places p px _ places) (omega (arith, le)) b))
        (λ m s1 ok.
        runs_after w ready c ok.conf ok.steps (pc + length (ca ++ cb)) n rest _ _ ok.comes ok.spares ok.masks
        (subst (λ g. Runs w ok.conf g n (ok.steps + rest) (λ ms c'. AllHold rs a (operand w.layout r x n ∷ regs) ms c') (bind (values (gang_of w) w.frame (calls_of w) xs a s1) (λ ms s2. Gives (m ∷ ms) s2))) to
        (held_both w ready rs x regs n (pc1 + length cb) (ok.steps + rest) a m s1 ok.conf (values (gang_of w) w.frame (calls_of w) xs a s1) fit.0 fit.1 ok.stands (values_still w ready (later rs) xs (n + 1) a s1 fit.2) ok.holds
        (values_run xs (later rs) pc1 p1 k (n + 1) (ok.steps + rest) (ok.steps + rest) a s1 ok.conf fit.2 (are_back w.routine.code pc ca cb has)
        (are_back w.code.places p px _ places) (omega arith)
        (enters_later w ready pc pc1 k n (n + 1) (ok.steps + rest) q (0 + rest) a s s1 c (omega arith) b ok (omega arith))))))

    -- the arguments of a call, each at its slot
    pub arguments_run : (xs : TArguments) → ArgumentsRun w ready xs
    arguments_run t_no_arguments [] pc p k n q rest a s c fit has places le b = record {
      conf = c;
      steps = 0;
      comes = comes_none w c;
      at = at_to w c pc _ b.at (omega arith);
      stands = b.stands;
      spares = spares_all w n c;
      masks = λ j h. refl;
      holds = tt;
      bound = omega (arith, b.used);
    }
    arguments_run t_no_arguments (v ∷ vs) pc p k n q rest a s c fit has places le b = absurd fit
    arguments_run (t_argument_then x xs) [] pc p k n q rest a s c fit has places le b = absurd fit
    arguments_run (t_argument_then x xs) (v ∷ vs) pc p k n q rest a s c fit has places le b =
        let r = rate_held v.holds in
        let ca = argument_code w.layout r x pc p k n in
        let pc1 = pc + length ca in
        let px = argument_places w.layout x in
        let p1 = p + length px in
        let cb = arguments_code w.layout (rates_held vs) xs pc1 p1 k (n + 1) in
        let regs = argument_registers w.layout (rates_held vs) xs (n + 1) in
        let to : pc1 + length cb ≡ pc + length (ca ++ cb) = omega (arith, length-append ca cb) in
        bind_runs w ready c pc1 n 0 rest (λ z c'. IsHanded a c' v.holds z (argument_register w.layout r x n))
        (passed (gang_of w) w.frame (calls_of w) x a s) _ (pc + length (ca ++ cb)) n
        (λ zs c'. AreHanded a c' (v ∷ vs) zs (argument_register w.layout r x n ∷ regs))
        (argument_run v.holds x pc p k n q (0 + rest) a s c fit.0 (are_front w.routine.code pc ca cb has) (are_front w.code.places p px _ places) (omega (arith, le)) b)
        (λ z s1 ok.
        runs_after w ready c ok.conf ok.steps (pc + length (ca ++ cb)) n rest _ _ ok.comes ok.spares ok.masks
        (subst (λ g. Runs w ok.conf g n (ok.steps + rest) (λ zs c'. AreHanded a c' (v ∷ vs) zs (argument_register w.layout r x n ∷ regs)) (bind (arguments (gang_of w) w.frame (calls_of w) xs a s1) (λ zs s2. Gives (z ∷ zs) s2))) to
        (handed_both w ready v.holds x vs regs n (pc1 + length cb) (ok.steps + rest) a z s1 ok.conf (arguments (gang_of w) w.frame (calls_of w) xs a s1) fit.0 ok.at.home_is ok.stands (arguments_still w ready vs xs (n + 1) a s1 fit.1) ok.holds
        (arguments_run xs vs pc1 p1 k (n + 1) (ok.steps + rest) (ok.steps + rest) a s1 ok.conf fit.1 (are_back w.routine.code pc ca cb has)
        (are_back w.code.places p px _ places) (omega arith)
        (enters_later w ready pc pc1 k n (n + 1) (ok.steps + rest) q (0 + rest) a s s1 c (omega arith) b ok (omega arith))))))

    argument_run : (y : Held) (x : TArgument) (pc p k n q rest : ℕ) (a : Mask) (s : State) (c : Conf) → ArgumentParts w y x n
        → AreAt w.routine.code pc (argument_code w.layout (rate_held y) x pc p k n) → AreAt w.code.places p (argument_places w.layout x) → rest ≤ q
        → Enters w pc k n a s c q → Runs w c (pc + length (argument_code w.layout (rate_held y) x pc p k n)) n rest
        (λ z c'. IsHanded a c' y z (argument_register w.layout (rate_held y) x n)) (passed (gang_of w) w.frame (calls_of w) x a s)
    argument_run (holds.Value t) (t_by_value x) pc p k n q rest a s c fit has places le b =
        let f : heads x ≤ 1 = few w x n fit.1 in
        let cx = expr_code w.layout x pc p k n in
        let ca = operand_of w.layout t.rate x k n cx in
        told_as w ready c (pc + length ca) n rest (Holds t.rate a (operand w.layout t.rate x n)) _ (means w ready x a s) Values (λ m c1 h. (refl, h))
        (operand_runs w ready c pc k n q rest a s t.rate t.elem x cx fit.0 (omega arith) b has
        (λ at. expr_runs x pc p k n q (1 + rest) a s c fit.1 at places (omega arith) b))
    argument_run (holds.Value t) (t_by_name y sp) pc p k n q rest a s c fit has places le b = absurd fit
    argument_run (holds.Given e) (t_by_value x) pc p k n q rest a s c fit has places le b = absurd fit
    argument_run (holds.Given e) (t_by_name y sp) pc p k n q rest a s c fit has places le b = named_run w ready e y sp pc k n q rest a s c fit.0 fit.1 le b
    argument_run (holds.Local t m) (t_by_value x) pc p k n q rest a s c fit has places le b = absurd fit
    argument_run (holds.Local t m) (t_by_name y sp) pc p k n q rest a s c fit has places le b = absurd fit
