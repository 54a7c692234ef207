-- Assignments and declarations, one line a node: each member keeps what its own run keeps.
use Rattle.std.proofs.Common.{◌≡◌, ℕ, suc, Bool, true, false, refl, sym, ap, ◌∙◌, subst}
use Rattle.std.specs.Prelude.{List, [], ◌∷◌, None}
use Rattle.isp_base.specs.Access.{is_outside, is_zero}
use Rattle.isp_base.specs.Sets.{Mask}
use Rattle.isp_base.specs.Values.{op_bits}
use Rattle.isp_base.specs.declared.operators.BinOp.{BinOp}
use Rattle.isp_base.specs.declared.types.Elem.{Elem}
use Rattle.isp_base.specs.declared.types.Rate.{Rate}
use Rattle.isp_base.specs.declared.types.Rate.TheVariants.{Uniform, Varying}
use Rattle.isp_base.specs.declared.types.Span.{Span}
use Rattle.isp_base.specs.declared.trap.TrapKind.TheVariants.{Divide, Index}
use Rattle.isp_typed.specs.Scoped.{Scope, declared, scope_after}
use Rattle.isp_typed.specs.declared.variable.Variable.{Variable as AVar}
use Rattle.isp_typed.specs.Typed.{TPlace, t_variable, t_element, TFunction, rate_of, elem_of, place_span, place_type, TItem, t_plain, t_with_value, t_with_size, TSimple, t_value, t_run, t_assign, t_update, t_step}
use Rattle.isp_meaning.specs.State.{State, Frame, tick, extent}
use Rattle.isp_meaning.specs.Payloads.{Payload, One, converted}
use Rattle.isp_meaning.specs.Outcomes.{Val, Gives, Done, bind, checked}
use Rattle.isp_meaning.specs.Places.{Place, outside, kept}
use Rattle.isp_meaning.specs.Expressions.{Passed, Calls}
use Rattle.isp_meaning.specs.Simple.{cleared, update, simple, item, items}
use Rattle.isp_solo_meaning.specs.Alone.{Alone}
use Rattle.isp_solo_meaning.specs.Answers.{Answer, Has, reached, and_then, unless}
use Rattle.isp_solo_meaning.specs.Places.{Spot, outside as own_outside, kept as own_kept, cleared as own_cleared}
use Rattle.isp_solo_meaning.specs.Steps.{update as own_update, simple as own_simple, item as own_item, items as own_items}
use Rattle.isp_solo_meaning.specs.Values.{OwnCalls}
use Rattle.isp_solo_laws.specs.Stands.{World, TouchNothing, Same, AreSome, Up}
use Rattle.isp_solo_laws.specs.Values.{AnswersAlone, Agrees, Sim, Stand, PlaceStands, AnswerStands, CallsAgree}
use Rattle.isp_solo_laws.specs.Statements.{Acts, ActSim}
use Rattle.isp_solo_laws.specs.Asked.{uniforms_in}
use Rattle.isp_solo_laws.proofs.Grow.{up_then, up_has, up_unless}
use Rattle.isp_solo_laws.proofs.Grows.{answer_up, keeps_up, writes_up, update_up, items_up}
use Rattle.isp_solo_laws.proofs.Lanes.{mapped_stand, joined_stand, one_stands, stand_as}
use Rattle.isp_solo_laws.proofs.Sims.{first_ends, next_ends, next_alone, has_alone, same_on, sim_has, sim_same, sim_tick, sim_checked, EndsIf}
use Rattle.isp_solo_laws.proofs.Fair.{Follows, Fair, FairPlace, FairCall}
use Rattle.isp_solo_laws.proofs.Expressions.{held_sim, value_sim, place_sim, call_sim}
use Rattle.isp_solo_laws.proofs.Writes.{written_sim}
use Rattle.isp_solo_laws.proofs.Stores.{element_kept_sim, own_cleared_sim}

-- ---- one after the other

module _ (w : World) (closed : ℕ → Bool) (v v1 : Scope) (a : Mask) where
  -- nothing is done
  pub act_done : ((k : ℕ) → v1 k ≡ true → v k ≡ true) → ActSim w closed v v1 a (λ s. Gives tt s) (λ p s. Has tt s)
  act_done wider = record {
    go = λ s σ st sa ends. record { s = s; after = σ; is = refl; alone = λ p. has_alone (a p) (σ p) tt; quiet = λ k i. refl; own_quiet = λ p k i. refl; same = λ p k i j. sa p k i (wider k j); stands = st };
  }

  pub act_tick : (f : State → Val Done) (own : ℕ → Alone → Answer Done) → ActSim w closed v v1 a f own → ActSim w closed v v1 a (λ s. f (tick s)) own
  act_tick f own x = record { go = λ s σ st sa ends. x.go (tick s) σ st sa ends }

  -- the instances do the same in other words
  pub act_same : (f : State → Val Done) (own own2 : ℕ → Alone → Answer Done) → ((p : ℕ) (s : Alone) → own2 p s ≡ own p s) → ActSim w closed v v1 a f own → ActSim w closed v v1 a f own2
  act_same f own own2 e x = record { go = λ s σ st sa ends. moved s σ (x.go s σ st sa (λ p. subst (EndsIf (w.last p) (a p)) (e p (σ p)) (ends p))) } where
    moved : (s : State) (σ : ℕ → Alone) → Acts w closed v1 a (λ p. own p (σ p)) σ (f s) s.uniforms → Acts w closed v1 a (λ p. own2 p (σ p)) σ (f s) s.uniforms
    moved s σ ok = record { s = ok.s; after = ok.after; is = ok.is; alone = λ p. subst (λ r. AnswersAlone (a p) r (σ p) tt (ok.after p)) (sym (e p (σ p))) (ok.alone p); quiet = ok.quiet; own_quiet = ok.own_quiet; same = ok.same; stands = ok.stands }

  -- after a value
  pub act_after : {A B : Type 0} (R : A → (ℕ → B) → Type 0) (f : State → Val A) (own : ℕ → Alone → Answer B) (go : A → State → Val Done) (own_go : ℕ → B → Alone → Answer Done)
      → Sim w v a R f own → ((p : ℕ) (y : B) → Up reached (own_go p y)) → ((x : A) (y : ℕ → B) → R x y → ActSim w closed v v1 a (go x) (λ p. own_go p (y p)))
      → ActSim w closed v v1 a (λ s. bind (f s) go) (λ p s. and_then (own p s) (own_go p))
  act_after {A} {B} R f own go own_go first up next = record { go = λ s σ st sa ends. join s σ sa ends (first.go s σ st sa (λ p. first_ends (w.last p) (a p) (own p (σ p)) (own_go p) (up p) (ends p))) } where
    join : (s : State) (σ : ℕ → Alone) → Same v a s.uniforms σ → ((p : ℕ) → EndsIf (w.last p) (a p) (and_then (own p (σ p)) (own_go p))) → Agrees w a R (λ p. own p (σ p)) σ (f s) s.uniforms
        → Acts w closed v1 a (λ p. and_then (own p (σ p)) (own_go p)) σ (bind (f s) go) s.uniforms
    join s σ sa ends ok =
        let ok2 = (next ok.x ok.y ok.value).go ok.s ok.after ok.stands
        (same_on w v a a s.uniforms ok.s.uniforms σ ok.after (λ p t. t) ok.uniforms ok.own_uniforms sa)
        (λ p. next_ends (w.last p) (a p) (own p (σ p)) (own_go p) (σ p) (ok.after p) (ok.y p) (ok.alone p) (ends p)) in
        record {
          s = ok2.s;
          after = ok2.after;
          is = ap (λ z. bind z go) ok.is ∙ ok2.is;
          alone = λ p. next_alone (a p) (own p (σ p)) (own_go p) (σ p) (ok.after p) (ok2.after p) (ok.y p) tt (ok.alone p) (ok2.alone p);
          quiet = λ k i. ok2.quiet k i ∙ ap (λ g. g k) ok.uniforms;
          own_quiet = λ p k i. ok2.own_quiet p k i ∙ ap (λ g. g k) (ok.own_uniforms p);
          same = ok2.same;
          stands = ok2.stands;
        }

  -- after another one, which may declare what is known here
  pub act_then : (v2 : Scope) (f g : State → Val Done) (own own_g : ℕ → Alone → Answer Done) → ActSim w closed v v1 a f own → ((p : ℕ) → Up reached (own_g p)) → ActSim w closed v1 v2 a g own_g
      → ActSim w closed v v2 a (λ s. bind (f s) (λ _ s1. g s1)) (λ p s. and_then (own p s) (λ _ s1. own_g p s1))
  act_then v2 f g own own_g first up next = record { go = λ s σ st sa ends. join s σ ends (first.go s σ st sa (λ p. first_ends (w.last p) (a p) (own p (σ p)) (λ u s1. own_g p s1) (λ u. up p) (ends p))) } where
    join : (s : State) (σ : ℕ → Alone) → ((p : ℕ) → EndsIf (w.last p) (a p) (and_then (own p (σ p)) (λ u s1. own_g p s1))) → Acts w closed v1 a (λ p. own p (σ p)) σ (f s) s.uniforms
        → Acts w closed v2 a (λ p. and_then (own p (σ p)) (λ u s1. own_g p s1)) σ (bind (f s) (λ u s1. g s1)) s.uniforms
    join s σ ends ok =
        let ok2 = next.go ok.s ok.after ok.stands ok.same (λ p. next_ends (w.last p) (a p) (own p (σ p)) (λ u s1. own_g p s1) (σ p) (ok.after p) tt (ok.alone p) (ends p)) in
        record {
          s = ok2.s;
          after = ok2.after;
          is = ap (λ z. bind z (λ u s1. g s1)) ok.is ∙ ok2.is;
          alone = λ p. next_alone (a p) (own p (σ p)) (λ u s1. own_g p s1) (σ p) (ok.after p) (ok2.after p) tt tt (ok.alone p) (ok2.alone p);
          quiet = λ k i. ok2.quiet k i ∙ ok.quiet k i;
          own_quiet = λ p k i. ok2.own_quiet p k i ∙ ok.own_quiet p k i;
          same = ok2.same;
          stands = ok2.stands;
        }

-- ---- what is asked of them, one line a node

-- a uniform variable that is assigned is not closed; elements are free
abbrev pub MayAssign : (ℕ → Bool) → TPlace → Type 0
MayAssign closed (t_variable k t s) = t.rate ≡ Uniform → closed k ≡ false
MayAssign closed (t_element b i t s) = Unit {0}

-- a declaration adds its variable alone to what is known, and one that is varying adds nothing
pub record Declares (closed : ℕ → Bool) (v v1 : Scope) (k : ℕ) (r : Rate) : Type 0 where
  pub free : r ≡ Uniform → closed k ≡ false
  pub older : (n : ℕ) → v1 n ≡ true → (n ≡ k → ⊥) → v n ≡ true
  pub wider : r ≡ Varying → (n : ℕ) → v1 n ≡ true → v n ≡ true

module _ (frame : Frame) (fs : List TFunction) (IsCallable : ℕ → Type 0) (closed : ℕ → Bool) where
  abbrev pub FairSimple : Scope → TSimple → Type 0
  FairSimple v (t_value x) = Fair frame fs IsCallable v x
  FairSimple v (t_run c) = FairCall frame fs IsCallable v c None
  FairSimple v (t_assign q x s) = FairPlace frame fs IsCallable v q × MayAssign closed q × Fair frame fs IsCallable v x × Follows (place_type q).rate (rate_of x)
  FairSimple v (t_update op e q x s) = FairPlace frame fs IsCallable v q × MayAssign closed q × Fair frame fs IsCallable v x × Follows (place_type q).rate (rate_of x)
  FairSimple v (t_step op e q s) = FairPlace frame fs IsCallable v q × MayAssign closed q

  abbrev pub FairItem : Scope → Scope → TItem → Type 0
  FairItem v v1 (t_plain k t s) = Declares closed v v1 k t.rate
  FairItem v v1 (t_with_value k t x s) = Declares closed v v1 k t.rate × Fair frame fs IsCallable v x × Follows t.rate (rate_of x)
  FairItem v v1 (t_with_size b s) = (b.ty.rate ≡ Varying) × ((n : ℕ) → v1 n ≡ true → v n ≡ true)

  module _ (vars : List AVar) where
    abbrev pub FairItems : Scope → ℕ → List TItem → Type 0
    FairItems u n [] = Unit {0}
    FairItems u n (x ∷ xs) = FairItem (uniforms_in vars u) (uniforms_in vars (declared n u)) x × FairItems (declared n u) (suc n) xs

-- ---- the laws

module _ (w : World) (touch : TouchNothing w.gang w.last) (fs : List TFunction) (IsCallable : ℕ → Type 0) (calls : Calls) (own : ℕ → OwnCalls) (agree : CallsAgree w fs IsCallable calls own) (closed : ℕ → Bool) (a : Mask) (i : AreSome w.gang a) where
  ups : (p f : ℕ) (sp : Span) (xs : List Passed) (caller : Frame) → Up reached (own p f sp xs caller)
  ups p f sp xs caller = record { more = λ s. agree.more p f sp xs caller s }

  keep : (p : ℕ) (r : Spot) (x : ℕ) → Up {R = Answer Done} reached (λ s. Has tt (own_kept w.frame r x s))
  keep p r x = keeps_up w.begin p w.frame (own p) (ups p) r x

  abbrev has_kept : Spot → ℕ → Alone → Answer Done
  has_kept r x s = Has tt (own_kept w.frame r x s)

  module _ (v : Scope) where
    -- a place is written
    kept_sim : (q : TPlace) → MayAssign closed q → (x : Place) (spots : ℕ → Spot) → PlaceStands w.gang a q x spots → (r : Rate) (m : Payload) (y : ℕ → ℕ) → Follows (place_type q).rate r → Stand w.gang a r m y
        → ActSim w closed v v a (λ s. Gives tt (kept w.gang w.frame x a m s)) (λ p s. Has tt (own_kept w.frame (spots p) (y p) s))
    kept_sim (t_variable k t sp) may x spots at r m y u h =
        subst (λ z. ActSim w closed v v a (λ s. Gives tt (kept w.gang w.frame z a m s)) (λ p s. Has tt (own_kept w.frame (spots p) (y p) s))) (sym at.0)
        (act_same w closed v v a _ _ _ (λ p s. ap (λ z. has_kept z (y p) s) (at.1 p)) (written_sim w closed v v a i t.rate k m y (stand_as w.gang a r t.rate m y u h) may (λ n j d. j) (λ e n j. j)))
    kept_sim (t_element b e t sp) may x spots at r m y u h =
        subst (λ z. ActSim w closed v v a (λ s. Gives tt (kept w.gang w.frame z a m s)) (λ p s. Has tt (own_kept w.frame (spots p) (y p) s))) (sym at.2)
        (act_same w closed v v a _ _ _ (λ p s. ap (λ z. has_kept z (y p) s) (at.3 p)) (element_kept_sim w touch closed v v a i (λ n j. j) b.ty.rate b (elem_of e) at.0 at.1 (rate_of e) r m y at.4 h))

    -- the index of a place is checked
    outside_sim : (q : TPlace) (x : Place) (spots : ℕ → Spot) → PlaceStands w.gang a q x spots → (r : Rate) (m : Payload) (y : ℕ → ℕ) → Stand w.gang a r m y
        → Sim w v a (Stand w.gang a r) (λ s. checked (outside w.gang w.frame x a) Index (place_span q) s m) (λ p s. unless (own_outside w.frame (spots p)) Index (place_span q) p s (y p))
    outside_sim (t_variable k t sp) x spots at r m y h =
        subst (λ z. Sim w v a (Stand w.gang a r) (λ s. checked (outside w.gang w.frame z a) Index sp s m) (λ p s. unless (own_outside w.frame (spots p)) Index sp p s (y p))) (sym at.0)
        (sim_same w v a (Stand w.gang a r) _ _ _ (λ p s. ap (λ z. unless (own_outside w.frame z) Index sp p s (y p)) (at.1 p)) (sim_has w v a (Stand w.gang a r) m y h))
    outside_sim (t_element b e t sp) x spots at r m y h =
        subst (λ z. Sim w v a (Stand w.gang a r) (λ s. checked (outside w.gang w.frame z a) Index sp s m) (λ p s. unless (own_outside w.frame (spots p)) Index sp p s (y p))) (sym at.2)
        (sim_same w v a (Stand w.gang a r) _ _ _ (λ p s. ap (λ z. unless (own_outside w.frame z) Index sp p s (y p)) (at.3 p))
        (sim_checked w v a i (Stand w.gang a r) (is_outside (elem_of e) (extent w.frame b)) at.0 at.1 Index sp m y at.4.at h))

    update_sim : (op : BinOp) (t : Elem) (q : TPlace) → FairPlace w.frame fs IsCallable v q → MayAssign closed q → (x : Place) (spots : ℕ → Spot)
        → PlaceStands w.gang a q x spots → (r : Rate) (m : Payload) (y : ℕ → ℕ) (sp : Span) → Follows (place_type q).rate r → Stand w.gang a r m y
        → ActSim w closed v v a (update w.gang w.frame calls op t q x m sp a) (λ p. own_update w.begin p w.frame (own p) op t q (spots p) (y p) sp)
    update_sim op t q fair may x spots at r m y sp u h =
        act_after w closed v v a (Stand w.gang a (place_type q).rate) _ _ _ _ (held_sim w touch fs IsCallable calls own agree v a i q fair x spots at) (λ p z. up_then _ _ (up_unless (is_zero op t (y p)) Divide sp p _) (λ k. keep p (spots p) _))
        (λ n z hn. act_after w closed v v a (Stand w.gang a (place_type q).rate) _ _ _ _
        (sim_checked w v a i (Stand w.gang a (place_type q).rate) (is_zero op t) m y Divide sp _ _ h.at
        (joined_stand w.gang a (place_type q).rate r (place_type q).rate (op_bits op t) _ m _ y (λ e. e) u (mapped_stand w.gang a (place_type q).rate (place_type q).rate (converted (place_type q).elem t) n z (λ e. e) hn) h))
        (λ p k. keep p (spots p) _)
        (λ o k ho. kept_sim q may x spots at (place_type q).rate _ _ (λ e. e) (mapped_stand w.gang a (place_type q).rate (place_type q).rate (converted t (place_type q).elem) o k (λ e. e) ho)))

    pub simple_sim : (x : TSimple) → FairSimple w.frame fs IsCallable closed v x → ActSim w closed v v a (simple w.gang w.frame calls x a) (λ p. own_simple w.begin p w.frame (own p) x)
    simple_sim (t_value x) f =
        act_after w closed v v a (Stand w.gang a (rate_of x)) _ _ _ _ (sim_tick w v a _ _ _ (value_sim w touch fs IsCallable calls own agree v x f a i)) (λ p y. up_has tt) (λ m y h. act_done w closed v v a (λ k j. j))
    simple_sim (t_run c) f =
        act_after w closed v v a (AnswerStands w.gang a None) _ _ _ _ (sim_tick w v a _ _ _ (call_sim w touch fs IsCallable calls own agree v c None f a i)) (λ p y. up_has tt) (λ m y h. act_done w closed v v a (λ k j. j))
    simple_sim (t_assign q x sp) f =
        act_after w closed v v a (PlaceStands w.gang a q) _ _ _ _ (sim_tick w v a _ _ _ (place_sim w touch fs IsCallable calls own agree v q f.0 a i))
        (λ p r. up_then _ _ (answer_up w.begin p w.frame (own p) (ups p) x) (λ k. up_then _ _ (up_unless (own_outside w.frame r) Index (place_span q) p k) (λ j. keep p r j)))
        (λ z spots at. act_after w closed v v a (Stand w.gang a (rate_of x)) _ _ _ _ (value_sim w touch fs IsCallable calls own agree v x f.2 a i)
        (λ p k. up_then _ _ (up_unless (own_outside w.frame (spots p)) Index (place_span q) p k) (λ j. keep p (spots p) j))
        (λ m y h. act_after w closed v v a (Stand w.gang a (rate_of x)) _ _ _ _ (outside_sim q z spots at (rate_of x) m y h) (λ p j. keep p (spots p) j) (λ n k hn. kept_sim q f.1 z spots at (rate_of x) n k f.3 hn)))
    simple_sim (t_update op t q x sp) f =
        act_after w closed v v a (PlaceStands w.gang a q) _ _ _ _ (sim_tick w v a _ _ _ (place_sim w touch fs IsCallable calls own agree v q f.0 a i))
        (λ p r. up_then _ _ (answer_up w.begin p w.frame (own p) (ups p) x) (λ j. update_up w.begin p w.frame (own p) (ups p) op t q r j sp))
        (λ z spots at. act_after w closed v v a (Stand w.gang a (rate_of x)) _ _ _ _ (value_sim w touch fs IsCallable calls own agree v x f.2 a i) (λ p j. update_up w.begin p w.frame (own p) (ups p) op t q (spots p) j sp)
        (λ m y h. update_sim op t q f.0 f.1 z spots at (rate_of x) m y sp f.3 h))
    simple_sim (t_step op t q sp) f =
        act_after w closed v v a (PlaceStands w.gang a q) _ _ _ _ (sim_tick w v a _ _ _ (place_sim w touch fs IsCallable calls own agree v q f.0 a i)) (λ p r. update_up w.begin p w.frame (own p) (ups p) op t q r 1 sp)
        (λ z spots at. update_sim op t q f.0 f.1 z spots at Uniform (One 1) (λ p. 1) sp (λ e. refl) (one_stands w.gang a Uniform 1))

  item_sim : (v v1 : Scope) (x : TItem) → FairItem w.frame fs IsCallable closed v v1 x → ActSim w closed v v1 a (item w.gang w.frame calls x a) (λ p. own_item w.begin p w.frame (own p) x)
  item_sim v v1 (t_plain k t sp) f = act_tick w closed v v1 a _ _ (written_sim w closed v v1 a i t.rate k (One 0) (λ p. 0) (one_stands w.gang a t.rate 0) f.free f.older f.wider)
  item_sim v v1 (t_with_value k t x sp) f =
      act_after w closed v v1 a (Stand w.gang a (rate_of x)) _ _ _ _ (sim_tick w v a _ _ _ (value_sim w touch fs IsCallable calls own agree v x f.1 a i)) (λ p y. writes_up w.begin p w.frame (own p) (ups p) t.rate k y)
      (λ m y h. written_sim w closed v v1 a i t.rate k m y (stand_as w.gang a (rate_of x) t.rate m y f.2 h) f.0.free f.0.older f.0.wider)
  item_sim v v1 (t_with_size b sp) f =
      subst (λ r. ActSim w closed v v1 a (λ s. Gives tt (cleared w.frame r b.number a (tick s))) (λ p s. Has tt (own_cleared w.frame r b.number s))) (sym f.0)
      (act_tick w closed v v1 a (λ s. Gives tt (cleared w.frame Varying b.number a s)) _ (own_cleared_sim w touch closed v v1 a i f.1 b.number))

  module _ (vars : List AVar) where
    pub items_sim : (u : Scope) (n : ℕ) (xs : List TItem) → FairItems w.frame fs IsCallable closed vars u n xs
        → ActSim w closed (uniforms_in vars u) (uniforms_in vars (scope_after u n xs)) a (items w.gang w.frame calls xs a) (λ p. own_items w.begin p w.frame (own p) xs)
    items_sim u n [] f = act_done w closed (uniforms_in vars u) (uniforms_in vars u) a (λ k j. j)
    items_sim u n (x ∷ xs) f =
        act_then w closed (uniforms_in vars u) (uniforms_in vars (declared n u)) a (uniforms_in vars (scope_after (declared n u) (suc n) xs)) _ _ _ _
        (item_sim (uniforms_in vars u) (uniforms_in vars (declared n u)) x f.0) (λ p. items_up w.begin p w.frame (own p) (ups p) xs) (items_sim (declared n u) (suc n) xs f.1)
