-- An expression over a set gives each member what its run alone answers. One line a node.
use Rattle.std.proofs.Common.{◌≡◌, ℕ, refl, sym, ap, subst}
use Rattle.std.specs.Prelude.{List, [], ◌∷◌, Option, Some, ◌%◌, ◌^◌}
use Rattle.isp_base.specs.Access.{is_zero}
use Rattle.isp_base.specs.Sets.{Mask}
use Rattle.isp_base.specs.Maps.{on}
use Rattle.isp_base.specs.Unary.{unary_bits}
use Rattle.isp_base.specs.Values.{width, op_bits, compare_bits}
use Rattle.isp_base.specs.declared.types.Rate.{Rate}
use Rattle.isp_base.specs.declared.types.Rate.TheVariants.{Uniform, Varying}
use Rattle.isp_base.specs.declared.types.Span.{Span}
use Rattle.isp_base.specs.declared.types.Ty.{Ty}
use Rattle.isp_base.specs.declared.trap.TrapKind.TheVariants.{Divide, Index}
use Rattle.isp_typed.specs.Fine.{params_of, rates_of}
use Rattle.isp_typed.specs.Scoped.{Scope}
use Rattle.isp_typed.specs.declared.variable.Holds.{Holds}
use Rattle.isp_typed.specs.declared.variable.Holds.TheVariants as holds
use Rattle.isp_typed.specs.declared.variable.Variable.{Variable as AVar}
use Rattle.isp_typed.specs.Typed.{TExpr, t_constant, t_program_index, t_place, t_convert, t_cast, t_unary, t_binary, t_compare, t_logic, t_choose, t_call, t_library, t_packed_store}
use Rattle.isp_typed.specs.Typed.{t_packed_load, TPlace, t_variable, t_element, TArgument, t_by_value, t_by_name, TCall, t_called, TArguments, t_no_arguments, t_argument_then, TExprs}
use Rattle.isp_typed.specs.Typed.{t_no_exprs, t_expr_then, TFunction, rate_of, rate_or, elem_of, place_span, place_type}
use Rattle.isp_meaning.specs.State.{Frame}
use Rattle.isp_meaning.specs.Payloads.{One, Each, converted, is_true}
use Rattle.isp_meaning.specs.Outcomes.{checked}
use Rattle.isp_meaning.specs.Places.{Place, Variable, Element, outside, held}
use Rattle.isp_meaning.specs.Expressions.{Passed, Values, Store, Calls, needs, value, place, values, call, arguments, passed}
use Rattle.isp_solo_meaning.specs.Answers.{reached}
use Rattle.isp_solo_meaning.specs.Places.{Spot, AVariable, AnElement}
use Rattle.isp_solo_meaning.specs.Values.{OwnCalls, held as own_held, answer, spot, answers, answer_call, arguments as own_arguments, passed as own_passed}
use Rattle.isp_solo_laws.specs.Stands.{World, TouchNothing, AreSome, Up}
use Rattle.isp_solo_laws.specs.Values.{Sim, Stand, PlaceStands, ListStands, PassedAt, Suits, PassedStand, AnswerStands, CallsAgree}
use Rattle.isp_solo_laws.proofs.Grow.{up_then, up_has, up_choose, up_unless}
use Rattle.isp_solo_laws.proofs.Grows.{held_up, answer_up, answers_up, arguments_up}
use Rattle.isp_solo_laws.proofs.Lanes.{mapped_stand, joined_stand, one_stands, stand_as}
use Rattle.isp_solo_laws.proofs.Sims.{sim_has, sim_same, sim_as, sim_tick, sim_then, sim_checked}
use Rattle.isp_solo_laws.proofs.Held.{variable_sim, element_sim, not_uniform}
use Rattle.isp_solo_laws.proofs.Parts.{logic_sim, choose_sim}
use Rattle.isp_solo_laws.proofs.Fair.{Fair, FairPlace, FairAll, FairCall, FairArguments, FairArgument}
use Rattle.isp_solo_laws.proofs.Listed.{library_stands}

or_first : (q r s : Rate) → (q ≡ Uniform → rate_or r s ≡ Uniform) → q ≡ Uniform → r ≡ Uniform
or_first q Uniform s h e = refl
or_first q Varying s h e = absurd (not_uniform (h e))

or_second : (q r s : Rate) → (q ≡ Uniform → rate_or r s ≡ Uniform) → q ≡ Uniform → s ≡ Uniform
or_second q Uniform s h e = h e
or_second q Varying s h e = absurd (not_uniform (h e))

module _ (w : World) (touch : TouchNothing w.gang w.last) (fs : List TFunction) (IsCallable : ℕ → Type 0) (calls : Calls) (own : ℕ → OwnCalls) (agree : CallsAgree w fs IsCallable calls own) (v : Scope) where
  pub calls_up : (p f : ℕ) (sp : Span) (xs : List Passed) (caller : Frame) → Up reached (own p f sp xs caller)
  calls_up p f sp xs caller = record { more = λ s. agree.more p f sp xs caller s }

  -- what is read at a place
  pub held_sim : (a : Mask) → AreSome w.gang a → (q : TPlace) → FairPlace w.frame fs IsCallable v q → (x : Place) (spots : ℕ → Spot) → PlaceStands w.gang a q x spots
      → Sim w v a (Stand w.gang a (place_type q).rate) (λ s. checked (outside w.gang w.frame x a) Index (place_span q) s (held w.gang w.frame x a s)) (λ p s. own_held w.begin p w.frame (place_span q) (spots p) s)
  held_sim a i (t_variable k t sp) fair x spots r =
      subst (λ z. Sim w v a (Stand w.gang a t.rate) (λ s. checked (outside w.gang w.frame z a) Index sp s (held w.gang w.frame z a s)) (λ p s. own_held w.begin p w.frame sp (spots p) s)) (sym r.0)
      (sim_same w v a (Stand w.gang a t.rate) _ _ _ (λ p s. ap (λ z. own_held w.begin p w.frame sp z s) (r.1 p)) (variable_sim w touch v a i t.rate k sp fair))
  held_sim a i (t_element b e t sp) fair x spots r =
      subst (λ z. Sim w v a (Stand w.gang a t.rate) (λ s. checked (outside w.gang w.frame z a) Index sp s (held w.gang w.frame z a s)) (λ p s. own_held w.begin p w.frame sp (spots p) s)) (sym r.2)
      (sim_same w v a (Stand w.gang a t.rate) _ _ _ (λ p s. ap (λ z. own_held w.begin p w.frame sp z s) (r.3 p)) (element_sim w touch v a i b.ty.rate t.rate b (elem_of e) r.0 r.1 (rate_of e) sp fair.1 fair.2 fair.3 r.4))

  mutual
    pub value_sim : (x : TExpr) → Fair w.frame fs IsCallable v x → (a : Mask) → AreSome w.gang a → Sim w v a (Stand w.gang a (rate_of x)) (value w.gang w.frame calls x a) (λ p. answer w.begin p w.frame (own p) x)
    value_sim (t_constant c sp) f a i = sim_tick w v a _ _ _ (sim_has w v a _ _ _ (one_stands w.gang a Uniform (c.bits % 2 ^ width c.elem)))
    value_sim (t_program_index sp) f a i = sim_tick w v a _ _ _ (sim_has w v a (Stand w.gang a Varying) (Each (on a (λ p. p))) (λ p. p) (record { at = λ p. refl; one = λ j e. absurd (not_uniform e) }))
    value_sim (t_place q) f a i = sim_then w v a (PlaceStands w.gang a q) _ _ _ _ _ (place_sim q f a i) (λ p y. held_up w.begin p w.frame (place_span q) y) (λ x y r. held_sim a i q f x y r)
    value_sim (t_convert e x) f a i =
        sim_then w v a (Stand w.gang a (rate_of x)) _ _ _ _ _ (value_sim x f a i) (λ p y. up_has _) (λ m y r. sim_has w v a _ _ _ (mapped_stand w.gang a (rate_of x) (rate_of x) (converted (elem_of x) e) m y (λ j. j) r))
    value_sim (t_cast x t sp) f a i = sim_tick w v a _ _ _ (sim_as w v a (Stand w.gang a (rate_of x)) (Stand w.gang a t.rate) _ _ (λ m y r. stand_as w.gang a (rate_of x) t.rate m y f.1 r) (value_sim x f.0 a i))
    value_sim (t_unary op x t sp) f a i =
        sim_then w v a (Stand w.gang a (rate_of x)) _ _ _ _ _ (sim_tick w v a _ _ _ (value_sim x f.0 a i)) (λ p y. up_has _) (λ m y r. sim_has w v a _ _ _ (mapped_stand w.gang a (rate_of x) t.rate (unary_bits op t.elem) m y f.1 r))
    value_sim (t_binary op x y t sp) f a i =
        sim_then w v a (Stand w.gang a (rate_of x)) _ _ _ _ _ (sim_tick w v a _ _ _ (value_sim x f.0 a i)) (λ p j. up_then _ _ (answer_up w.begin p w.frame (own p) (calls_up p) y) (λ k. up_unless (is_zero op t.elem k) Divide sp p _))
        (λ m j r. sim_then w v a (Stand w.gang a (rate_of y)) _ _ _ _ _ (value_sim y f.1 a i) (λ p k. up_unless (is_zero op t.elem k) Divide sp p _)
        (λ n k q. sim_checked w v a i (Stand w.gang a t.rate) (is_zero op t.elem) n k Divide sp _ _ q.at (joined_stand w.gang a (rate_of x) (rate_of y) t.rate (op_bits op t.elem) m n j k f.2 f.3 r q)))
    value_sim (t_compare c x y r0 sp) f a i =
        sim_then w v a (Stand w.gang a (rate_of x)) _ _ _ _ _ (sim_tick w v a _ _ _ (value_sim x f.0 a i)) (λ p j. up_then _ _ (answer_up w.begin p w.frame (own p) (calls_up p) y) (λ k. up_has _))
        (λ m j r. sim_then w v a (Stand w.gang a (rate_of y)) _ _ _ _ _ (value_sim y f.1 a i) (λ p k. up_has _)
        (λ n k q. sim_has w v a _ _ _ (joined_stand w.gang a (rate_of x) (rate_of y) r0 (compare_bits c (elem_of x)) m n j k f.2 f.3 r q)))
    value_sim (t_logic l x y r0 sp) f a i =
        sim_then w v a (Stand w.gang a (rate_of x)) _ _ _ _ _ (sim_tick w v a _ _ _ (value_sim x f.0 a i)) (λ p j. up_choose reached (needs l j) _ _ (answer_up w.begin p w.frame (own p) (calls_up p) y) (up_has j))
        (λ m j r. logic_sim w v a i l (rate_of x) (rate_of y) r0 (value w.gang w.frame calls y) (λ p. answer w.begin p w.frame (own p) y) m j f.2 f.3 r (λ k ik. value_sim y f.1 k ik))
    value_sim (t_choose c x y t sp) f a i =
        sim_then w v a (Stand w.gang a (rate_of c)) _ _ _ _ _ (sim_tick w v a _ _ _ (value_sim c f.0 a i))
        (λ p j. up_choose reached (is_true j) _ _ (answer_up w.begin p w.frame (own p) (calls_up p) x)
        (answer_up w.begin p w.frame (own p) (calls_up p) y))
        (λ m j r. choose_sim w v a i (rate_of c) (rate_of x) (rate_of y) t.rate (value w.gang w.frame calls x) (value w.gang w.frame calls y)
        (λ p. answer w.begin p w.frame (own p) x) (λ p. answer w.begin p w.frame (own p) y) m j f.3 f.4 f.5 r (λ k ik. value_sim x f.1 k ik)
        (λ k ik. value_sim y f.2 k ik))
    value_sim (t_call c t) f a i = call_sim c (Some t) f a i
    value_sim (t_library g e xs t sp) f a i =
        sim_then w v a (ListStands w.gang a (rates_of xs)) _ _ _ _ _ (sim_tick w v a _ _ _ (values_sim xs f.1 a i)) (λ p ys. up_has _) (λ ms ys r. sim_has w v a _ _ _ (library_stands w.gang a g e (rates_of xs) t.rate ms ys f.0 f.2 r))
    value_sim (t_packed_store b x sp) f a i = absurd f
    value_sim (t_packed_load b k sp) f a i = absurd f

    pub place_sim : (q : TPlace) → FairPlace w.frame fs IsCallable v q → (a : Mask) → AreSome w.gang a → Sim w v a (PlaceStands w.gang a q) (place w.gang w.frame calls q a) (λ p. spot w.begin p w.frame (own p) q)
    place_sim (t_variable k t sp) f a i = sim_tick w v a _ _ _ (sim_has w v a (PlaceStands w.gang a (t_variable k t sp)) (Variable k t) (λ p. AVariable k t) (refl, λ p. refl))
    place_sim (t_element b e t sp) f a i =
        sim_then w v a (Stand w.gang a (rate_of e)) _ _ _ _ _ (sim_tick w v a _ _ _ (value_sim e f.0 a i)) (λ p j. up_has _)
        (λ m y r. sim_has w v a (PlaceStands w.gang a (t_element b e t sp)) (Element b (elem_of e) m) (λ p. AnElement b (elem_of e) (y p))
        (m, y, refl, λ p. refl, r))

    pub values_sim : (xs : TExprs) → FairAll w.frame fs IsCallable v xs → (a : Mask) → AreSome w.gang a → Sim w v a (ListStands w.gang a (rates_of xs)) (values w.gang w.frame calls xs a) (λ p. answers w.begin p w.frame (own p) xs)
    values_sim t_no_exprs f a i = sim_has w v a (ListStands w.gang a Uniform) [] (λ p. []) (record { at = λ p. tt; one = λ j e. tt })
    values_sim (t_expr_then x xs) f a i =
        sim_then w v a (Stand w.gang a (rate_of x)) _ _ _ _ _ (value_sim x f.0 a i) (λ p j. up_then _ _ (answers_up w.begin p w.frame (own p) (calls_up p) xs) (λ js. up_has _))
        (λ m y r. sim_then w v a (ListStands w.gang a (rates_of xs)) _ _ _ _ _ (values_sim xs f.1 a i) (λ p js. up_has _)
        (λ ms ys q. sim_has w v a (ListStands w.gang a (rate_or (rate_of x) (rates_of xs))) (m ∷ ms) (λ p. y p ∷ ys p)
        (record {
          at = λ p. (r.at p, q.at p);
          one = λ j e.
              (r.one j (or_first Uniform (rate_of x) (rates_of xs) (λ d. e) refl), q.one j (or_second Uniform (rate_of x) (rates_of xs) (λ d. e) refl));
        })))

    pub call_sim : (c : TCall) (t : Option Ty) → FairCall w.frame fs IsCallable v c t → (a : Mask) → AreSome w.gang a → Sim w v a (AnswerStands w.gang a t) (call w.gang w.frame calls c a) (λ p. answer_call w.begin p w.frame (own p) c)
    call_sim (t_called k xs sp) t f a i =
        sim_then w v a (PassedStand w.frame.opened a (params_of f.0)) _ _ _ _ _ (sim_tick w v a _ _ _ (arguments_sim (params_of f.0) xs f.4 a i)) (λ p ys. calls_up p k sp ys w.frame)
        (λ ms ys r. subst (λ z. Sim w v a (AnswerStands w.gang a z) (calls k sp a ms w.frame) (λ p. own p k sp (ys p) w.frame)) f.2 (agree.go v a k f.0 sp ms ys f.1 f.3 i r))

    pub arguments_sim : (us : List AVar) (xs : TArguments) → FairArguments w.frame fs IsCallable v us xs → (a : Mask) → AreSome w.gang a
        → Sim w v a (PassedStand w.frame.opened a us) (arguments w.gang w.frame calls xs a) (λ p. own_arguments w.begin p w.frame (own p) xs)
    arguments_sim [] t_no_arguments f a i = sim_has w v a (PassedStand w.frame.opened a []) [] (λ p. []) (record { at = λ p. tt; suit = tt })
    arguments_sim [] (t_argument_then x xs) f a i = absurd f
    arguments_sim (u ∷ us) t_no_arguments f a i = absurd f
    arguments_sim (u ∷ us) (t_argument_then x xs) f a i =
        sim_then w v a (λ m y. ((p : ℕ) → PassedAt a p m (y p)) × Suits w.frame.opened u.holds m) _ _ _ _ _ (passed_sim u.holds x f.0 a i) (λ p j. up_then _ _ (arguments_up w.begin p w.frame (own p) (calls_up p) xs) (λ js. up_has _))
        (λ m y r. sim_then w v a (PassedStand w.frame.opened a us) _ _ _ _ _ (arguments_sim us xs f.1 a i) (λ p js. up_has _)
        (λ ms ys q. sim_has w v a (PassedStand w.frame.opened a (u ∷ us)) (m ∷ ms) (λ p. y p ∷ ys p) (record { at = λ p. (r.0 p, q.at p); suit = (r.1, q.suit) })))

    passed_sim : (h : Holds) (x : TArgument) → FairArgument w.frame fs IsCallable v h x → (a : Mask) → AreSome w.gang a
        → Sim w v a (λ m y. ((p : ℕ) → PassedAt a p m (y p)) × Suits w.frame.opened h m) (passed w.gang w.frame calls x a) (λ p. own_passed w.begin p w.frame (own p) x)
    passed_sim (holds.Value t) (t_by_value x) f a i =
        sim_then w v a (Stand w.gang a (rate_of x)) _ _ _ _ _ (value_sim x f.0 a i) (λ p j. up_has _)
        (λ m y r. sim_has w v a (λ m y. ((p : ℕ) → PassedAt a p m (y p)) × Suits w.frame.opened (holds.Value t) m) (Values m) (λ p. Values (One (y p))) (r.at, λ e. r.one i.some (f.1 e)))
    passed_sim (holds.Given e) (t_by_name b sp) f a i =
        sim_tick w v a _ _ _ (sim_has w v a (λ m y. ((p : ℕ) → PassedAt a p m (y p)) × Suits w.frame.opened (holds.Given e) m) (Store (w.frame.named b.number)) (λ p. Store (w.frame.named b.number)) (λ p. refl, f))
    passed_sim (holds.Value t) (t_by_name b sp) f a i = absurd f
    passed_sim (holds.Given e) (t_by_value x) f a i = absurd f
    passed_sim (holds.Local t n) x f a i = absurd f
