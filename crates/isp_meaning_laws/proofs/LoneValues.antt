-- An expression over the set of one instance comes to what that instance answers alone. One line a node.
use Rattle.std.proofs.Common.{◌≡◌, ℕ, ◌<◌, inl, inr, Bool, true, false, refl, sym, ap, ap₂, ◌∙◌, subst, true≢false}
use Rattle.std.proofs.Math.Path.{fun_ext}
use Rattle.std.specs.Prelude.{List, [], ◌∷◌, Option, Some, None, not, get_or, slice_get, if◌then◌else◌, nat_eq}
use Rattle.isp_base.specs.Access.{is_zero}
use Rattle.isp_base.specs.Maps.{where_true}
use Rattle.isp_base.specs.Sets.{Mask, lone}
use Rattle.isp_base.specs.Unary.{unary_bits}
use Rattle.isp_base.specs.Values.{op_bits, compare_bits}
use Rattle.isp_base.specs.declared.operators.BinOp.TheVariants as op
use Rattle.isp_base.specs.declared.operators.UnaryOp.TheVariants.{Absolute}
use Rattle.isp_base.specs.declared.types.Elem.{Elem}
use Rattle.isp_base.specs.declared.types.Rate.{Rate}
use Rattle.isp_base.specs.declared.types.Rate.TheVariants.{Uniform, Varying}
use Rattle.isp_base.specs.declared.types.Span.{Span}
use Rattle.isp_base.specs.declared.types.Ty.{Ty}
use Rattle.isp_base.specs.declared.trap.TrapKind.TheVariants.{Divide}
use Rattle.isp_typed.specs.Fine.{params_of, rates_of}
use Rattle.isp_typed.specs.declared.library.Library.{Library}
use Rattle.isp_typed.specs.declared.library.Library.TheVariants as library
use Rattle.isp_typed.specs.declared.variable.Holds.{Holds}
use Rattle.isp_typed.specs.declared.variable.Holds.TheVariants as holds
use Rattle.isp_typed.specs.declared.variable.Logic.{Logic}
use Rattle.isp_typed.specs.declared.variable.Variable.{Variable as AVar}
use Rattle.isp_typed.specs.Typed.{TExpr, t_constant, t_program_index, t_place, t_convert, t_cast, t_unary, t_binary, t_compare, t_logic, t_choose, t_call, t_library}
use Rattle.isp_typed.specs.Typed.{t_packed_store, t_packed_load, TPlace, t_variable, t_element, TArgument, t_by_value, t_by_name, TCall, t_called, TArguments, t_no_arguments}
use Rattle.isp_typed.specs.Typed.{t_argument_then, TExprs, t_no_exprs, t_expr_then, TFunction, rate_of, rate_or, elem_of}
use Rattle.isp_independence.specs.Crossing.{looks_across}
use Rattle.isp_meaning.specs.State.{State, tick}
use Rattle.isp_meaning.specs.Payloads.{Payload, One, Each, converted, is_true, is_false, spread, nothing, kept_by, layer, first_of_two, selected}
use Rattle.isp_meaning.specs.Outcomes.{Val, Gives, bind, if_so, value_unless_empty}
use Rattle.isp_meaning.specs.Library.{library_value, argument, chosen_by, chosen_one}
use Rattle.isp_meaning.specs.Expressions.{Passed, Values, Store, Calls, needs, settled, value, place, values, call, arguments, passed}
use Rattle.isp_solo_meaning.specs.Alone.{Alone}
use Rattle.isp_solo_meaning.specs.Answers.{Answer, Has, choose}
use Rattle.isp_solo_meaning.specs.Values.{OwnCalls, by_instance, answer, spot, answers, answer_call, arguments as own_arguments, passed as own_passed}
use Rattle.isp_meaning_laws.specs.Lone.{World, Stands, IsValue, IsAnswer}
use Rattle.isp_meaning_laws.proofs.LoneSets.{just, just_is, where_just, lone_if}
use Rattle.isp_meaning_laws.proofs.LoneSims.{CameTo, Follows, not_uniform, rated, as_rate, mapped_value, joined_value, spread_value, kept_value, offender_value, came_has, came_then, came_as, came_alone, came_unless, came_checked}
use Rattle.isp_meaning_laws.proofs.LoneFair.{Fair, FairPlace, FairAll, FairCall, FairArguments, FairArgument}
use Rattle.isp_meaning_laws.proofs.LoneHeld.{PlaceIs, held_came}

-- ---- rates

pub or_first : (q r s : Rate) → Follows q (rate_or r s) → Follows q r
or_first q Uniform s h e = refl
or_first q Varying s h e = absurd (not_uniform (h e))

pub or_second : (q r s : Rate) → Follows q (rate_or r s) → Follows q s
or_second q Uniform s h e = h e
or_second q Varying s h e = absurd (not_uniform (h e))

-- ---- what is handed to a call

abbrev pub PassedIs : World → Holds → Passed → Passed → Type 0
PassedIs w (holds.Value t) (Values m) z = (y : ℕ) × (z ≡ Values (One y)) × IsValue w.instance t.rate m y
PassedIs w (holds.Given e) (Store b) z = (z ≡ Store b) × (b < w.frame.opened)
PassedIs w h x z = ⊥

abbrev pub AllPassed : World → List AVar → List Passed → List Passed → Type 0
AllPassed w [] [] [] = Unit {0}
AllPassed w (v ∷ vs) (x ∷ xs) (y ∷ ys) = PassedIs w v.holds x y × AllPassed w vs xs ys
AllPassed w vs xs ys = ⊥

-- calls of these functions come to what the instance does alone
pub record CallsAgree (w : World) (fs : List TFunction) (IsCallable : ℕ → Type 0) (calls : Calls) (own : OwnCalls) : Type 0 where
  pub go : (k : ℕ) (g : TFunction) (sp : Span) (xs ys : List Passed) (s : State) (t : Alone) → slice_get fs k ≡ Some g → IsCallable k → AllPassed w (params_of g) xs ys → Stands w s t
      → CameTo w (IsAnswer w.instance g.answer) (calls k sp (lone (Some w.instance)) xs w.frame s) (own k sp ys w.frame t)

-- ---- values of a set of one

module _ (p : ℕ) where
  layer_first : (y z : ℕ) → layer (just p z) (just p y) ≡ just p z
  layer_first y z = fun_ext (λ q. at (nat_eq q p)) where
    at : (b : Bool) → first_of_two (if b then Some z else None) (if b then Some y else None) ≡ (if b then Some z else None)
    at true = refl
    at false = refl

  layer_none : (z : ℕ) → layer (just p z) (λ q. None) ≡ just p z
  layer_none z = fun_ext (λ q. at (nat_eq q p)) where
    at : (b : Bool) → first_of_two (if b then Some z else None) None ≡ (if b then Some z else None)
    at true = refl
    at false = refl

  passing : (f : ℕ → Bool) (y : ℕ) (b : Bool) → f y ≡ b → where_true f (just p y) ≡ lone_if p b
  passing f y b e = where_just p f y ∙ ap (lone_if p) e

  -- `&&` and `||`
  settled_new : (l : Logic) (r q t : Rate) (m n : Payload) (i z : ℕ) → needs l i ≡ true → Follows t r → Follows t q → IsValue p r m i → IsValue p q n z → IsValue p t (settled l (lone (Some p)) m n) z
  settled_new l r q t m n i z e f g (inl d) h =
      as_rate p t q _ z g (subst (λ x. IsValue p q x z) (sym (ap (λ x. settled l (lone (Some p)) x n) d ∙ ap (λ b. if b then n else One i) e)) h)
  settled_new l r q t m n i z e f g (inr d) h =
      inr (rated p t r f d.0, ap (λ x. settled l (lone (Some p)) x n) d.1 ∙ ap (λ a. Each (layer (spread a n) (just p i))) (passing (needs l) i true e) ∙ ap (λ x. Each (layer x (just p i))) (spread_value p q n z h) ∙ ap Each (layer_first i z))

  settled_old : (l : Logic) (r t : Rate) (m : Payload) (i : ℕ) → needs l i ≡ false → Follows t r → IsValue p r m i → IsValue p t (settled l (lone (Some p)) m nothing) i
  settled_old l r t m i e f (inl d) = inl (ap (λ x. settled l (lone (Some p)) x nothing) d ∙ ap (λ b. if b then nothing else One i) e)
  settled_old l r t m i e f (inr d) = inr (rated p t r f d.0, ap (λ x. settled l (lone (Some p)) x nothing) d.1)

  -- `?:`
  selected_first : (r q t : Rate) (k m : Payload) (i z : ℕ) → is_true i ≡ true → Follows t r → Follows t q → IsValue p r k i → IsValue p q m z → IsValue p t (selected (lone (Some p)) k m nothing) z
  selected_first r q t k m i z e f g (inl d) h =
      as_rate p t q _ z g (subst (λ x. IsValue p q x z) (sym (ap (λ x. selected (lone (Some p)) x m nothing) d ∙ ap (λ b. if b then m else nothing) e)) h)
  selected_first r q t k m i z e f g (inr d) h =
      inr (rated p t r f d.0, ap (λ x. selected (lone (Some p)) x m nothing) d.1 ∙ ap (λ a. Each (layer (spread a m) (λ j. None))) (passing is_true i true e) ∙ ap (λ x. Each (layer x (λ j. None))) (spread_value p q m z h) ∙ ap Each (layer_none z))

  selected_second : (r q t : Rate) (k n : Payload) (i z : ℕ) → is_true i ≡ false → Follows t r → Follows t q → IsValue p r k i → IsValue p q n z → IsValue p t (selected (lone (Some p)) k nothing n) z
  selected_second r q t k n i z e f g (inl d) h =
      as_rate p t q _ z g (subst (λ x. IsValue p q x z) (sym (ap (λ x. selected (lone (Some p)) x nothing n) d ∙ ap (λ b. if b then nothing else n) e)) h)
  selected_second r q t k n i z e f g (inr d) h =
      inr (rated p t r f d.0, ap (λ x. selected (lone (Some p)) x nothing n) d.1 ∙ ap (λ a. Each (spread a n)) (passing is_false i true (ap not e)) ∙ ap Each (spread_value p q n z h))

  -- ---- several values, and the library's functions that look at no other instance

  abbrev pub AllValues : Rate → List Payload → List ℕ → Type 0
  AllValues r [] [] = Unit {0}
  AllValues r (m ∷ ms) (y ∷ ys) = IsValue p r m y × AllValues r ms ys
  AllValues r ms ys = ⊥

  first_value : (r : Rate) (ms : List Payload) (ys : List ℕ) → AllValues r ms ys → IsValue p r (argument ms 0) (get_or ys 0 0)
  first_value r [] [] h = inl refl
  first_value r [] (y ∷ ys) h = absurd h
  first_value r (m ∷ ms) [] h = absurd h
  first_value r (m ∷ ms) (y ∷ ys) h = h.0

  second_value : (r : Rate) (ms : List Payload) (ys : List ℕ) → AllValues r ms ys → IsValue p r (argument ms 1) (get_or ys 1 0)
  second_value r [] [] h = inl refl
  second_value r [] (y ∷ ys) h = absurd h
  second_value r (m ∷ ms) [] h = absurd h
  second_value r (m ∷ ms) (y ∷ ys) h = first_value r ms ys h.1

  third_value : (r : Rate) (ms : List Payload) (ys : List ℕ) → AllValues r ms ys → IsValue p r (argument ms 2) (get_or ys 2 0)
  third_value r [] [] h = inl refl
  third_value r [] (y ∷ ys) h = absurd h
  third_value r (m ∷ ms) [] h = absurd h
  third_value r (m ∷ ms) (y ∷ ys) h = second_value r ms ys h.1

  chosen_value : (r : Rate) (c m n : Payload) (i x z : ℕ) → IsValue p r c i → IsValue p r m x → IsValue p r n z → IsValue p r (chosen_by (lone (Some p)) c m n) (if is_true i then x else z)
  chosen_value r c m n i x z (inl d) h k = subst (λ y. IsValue p r (chosen_by (lone (Some p)) y m n) (if is_true i then x else z)) (sym d) (at (is_true i)) where
    at : (b : Bool) → IsValue p r (if b then m else n) (if b then x else z)
    at true = h
    at false = k
  chosen_value r c m n i x z (inr d) h k =
      inr (d.0, ap (λ y. chosen_by (lone (Some p)) y m n) d.1 ∙ ap₂ (λ y j. Each (λ q. chosen_one (just p i q) (y q) (j q))) (spread_value p r m x h) (spread_value p r n z k) ∙ ap Each (fun_ext (λ q. at (nat_eq q p) (is_true i) refl))) where
        at : (b t : Bool) → is_true i ≡ t → chosen_one (if b then Some i else None) (if b then Some x else None) (if b then Some z else None) ≡ (if b then Some (if t then x else z) else None)
        at true true e = ap (λ t. if t then Some x else Some z) e
        at true false e = ap (λ t. if t then Some x else Some z) e
        at false t e = refl

  library_is : (gang : ℕ) (f : Library) (t : Elem) (r : Rate) (ms : List Payload) (ys : List ℕ) → looks_across f ≡ false → AllValues r ms ys
      → IsValue p r (library_value gang t (lone (Some p)) f (argument ms 0) (argument ms 1) (argument ms 2)) (by_instance f t (get_or ys 0 0) (get_or ys 1 0) (get_or ys 2 0))
  library_is gang f t r ms ys alone h = go f alone where
    x : IsValue p r (argument ms 0) (get_or ys 0 0)
    x = first_value r ms ys h

    y : IsValue p r (argument ms 1) (get_or ys 1 0)
    y = second_value r ms ys h

    z : IsValue p r (argument ms 2) (get_or ys 2 0)
    z = third_value r ms ys h

    go : (f : Library) → looks_across f ≡ false → IsValue p r (library_value gang t (lone (Some p)) f (argument ms 0) (argument ms 1) (argument ms 2)) (by_instance f t (get_or ys 0 0) (get_or ys 1 0) (get_or ys 2 0))
    go library.Min e = joined_value p (op_bits op.Min t) r r r _ _ _ _ (λ i. i) (λ i. i) x y
    go library.Max e = joined_value p (op_bits op.Max t) r r r _ _ _ _ (λ i. i) (λ i. i) x y
    go library.Clamp e = joined_value p (op_bits op.Min t) r r r _ _ _ _ (λ i. i) (λ i. i) (joined_value p (op_bits op.Max t) r r r _ _ _ _ (λ i. i) (λ i. i) x y) z
    go library.Abs e = mapped_value p (unary_bits Absolute t) r _ _ x
    go library.Select e = chosen_value r _ _ _ _ _ _ x y z
    go other e = absurd (true≢false e)

-- ---- operands that are needed or not

-- from each state that stands for that of the instance
abbrev pub Brings : World → Rate → (State → Val Payload) → (Alone → Answer ℕ) → Type 0
Brings w r f own = (s : State) (t : Alone) → Stands w s t → CameTo w (IsValue w.instance r) (f s) (own t)

module _ (w : World) (gang : ℕ) (lt : w.instance < gang) where
  logic_came : (l : Logic) (r q u : Rate) (m : Payload) (i : ℕ) (f : Mask → State → Val Payload) (own : Alone → Answer ℕ) (s : State) (t : Alone)
      → Follows u r → Follows u q → IsValue w.instance r m i → Stands w s t → Brings w q (f (lone (Some w.instance))) own
      → CameTo w (IsValue w.instance u) (bind (value_unless_empty gang (kept_by (needs l) (lone (Some w.instance)) m) s f) (λ n s2. Gives (settled l (lone (Some w.instance)) m n) s2)) (choose (needs l i) own (Has i) t)
  logic_came l r q u m i f own s t g h k st later = came_unless w gang lt (IsValue w.instance u) _ (needs l i) f _ _ s (kept_value w.instance (needs l) r m i k) (at (needs l i) refl) where
    at : (b : Bool) → needs l i ≡ b → CameTo w (IsValue w.instance u) (bind (if_so b (f (lone_if w.instance b)) (Gives nothing) s) (λ n s2. Gives (settled l (lone (Some w.instance)) m n) s2)) (choose b own (Has i) t)
    at true e = came_alone w (IsValue w.instance q) (IsValue w.instance u) _ _ _ (later s t st) (λ n z s2 t2 x st2. came_has w _ _ _ _ _ (settled_new w.instance l r q u m n i z e g h k x) st2)
    at false e = came_has w _ _ _ _ _ (settled_old w.instance l r u m i e g k) st

  choose_came : (r q q2 u : Rate) (m : Payload) (i : ℕ) (f f2 : Mask → State → Val Payload) (own own2 : Alone → Answer ℕ) (s : State) (t : Alone) → Follows u r → Follows u q → Follows u q2 → IsValue w.instance r m i → Stands w s t
      → Brings w q (f (lone (Some w.instance))) own → Brings w q2 (f2 (lone (Some w.instance))) own2
      → CameTo w (IsValue w.instance u) (bind (value_unless_empty gang (kept_by is_true (lone (Some w.instance)) m) s f)
      (λ n s2. bind (value_unless_empty gang (kept_by is_false (lone (Some w.instance)) m) s2 f2)
      (λ n2 s3. Gives (selected (lone (Some w.instance)) m n n2) s3))) (choose (is_true i) own own2 t)
  choose_came r q q2 u m i f f2 own own2 s t g h h2 k st first second = came_unless w gang lt (IsValue w.instance u) _ (is_true i) f _ _ s (kept_value w.instance is_true r m i k) (at (is_true i) refl) where
    rest : (b : Bool) → is_true i ≡ b → (n : Payload) (s2 : State) (own3 : Answer ℕ)
        → CameTo w (IsValue w.instance u) (bind (if_so (not b) (f2 (lone_if w.instance (not b))) (Gives nothing) s2) (λ n2 s3. Gives (selected (lone (Some w.instance)) m n n2) s3)) own3
        → CameTo w (IsValue w.instance u) (bind (value_unless_empty gang (kept_by is_false (lone (Some w.instance)) m) s2 f2) (λ n2 s3. Gives (selected (lone (Some w.instance)) m n n2) s3)) own3
    rest b e n s2 own3 x = came_unless w gang lt (IsValue w.instance u) _ (not b) f2 _ own3 s2 (kept_value w.instance is_false r m i k ∙ ap (λ c. lone_if w.instance (not c)) e) x

    at : (b : Bool) → is_true i ≡ b → CameTo w (IsValue w.instance u)
        (bind (if_so b (f (lone_if w.instance b)) (Gives nothing) s)
        (λ n s2. bind (value_unless_empty gang (kept_by is_false (lone (Some w.instance)) m) s2 f2)
        (λ n2 s3. Gives (selected (lone (Some w.instance)) m n n2) s3))) (choose b own own2 t)
    at true e = came_alone w (IsValue w.instance q) (IsValue w.instance u) _ _ _ (first s t st) (λ n z s2 t2 x st2. rest true e n s2 _ (came_has w _ _ _ _ _ (selected_first w.instance r q u m n i z e g h k x) st2))
    at false e = rest false e nothing s _ (came_alone w (IsValue w.instance q2) (IsValue w.instance u) _ _ _ (second s t st) (λ n z s2 t2 x st2. came_has w _ _ _ _ _ (selected_second w.instance r q2 u m n i z e g h2 k x) st2))

-- ---- expressions

module _ (w : World) (gang : ℕ) (lt : w.instance < gang) (fs : List TFunction) (IsCallable : ℕ → Type 0) (calls : Calls) (own : OwnCalls) (agree : CallsAgree w fs IsCallable calls own) where
  mutual
    pub value_came : (x : TExpr) → Fair w.frame fs IsCallable x → (s : State) (t : Alone) → Stands w s t
        → CameTo w (IsValue w.instance (rate_of x)) (value gang w.frame calls x (lone (Some w.instance)) s) (answer w.begin w.instance w.frame own x t)
    value_came (t_constant c sp) f s t st = came_has w _ _ _ _ _ (inl refl) st
    value_came (t_program_index sp) f s t st = came_has w (IsValue w.instance Varying) _ _ _ _ (inr (refl, ap Each (just_is w.instance (λ q. q) w.instance refl))) st
    value_came (t_place q) f s t st =
        came_then w (PlaceIs w.instance q) _ _ _ _ _ (place_came q f s t st) (λ x z s1 t1 r st1. held_came w gang lt q fs IsCallable f x z s1 t1 r st1)
    value_came (t_convert e x) f s t st =
        came_then w (IsValue w.instance (rate_of x)) _ _ _ _ _ (value_came x f s t st) (λ m y s1 t1 r st1. came_has w _ _ _ _ _ (mapped_value w.instance (converted (elem_of x) e) (rate_of x) m y r) st1)
    value_came (t_cast x u sp) f s t st = came_as w (IsValue w.instance (rate_of x)) (IsValue w.instance u.rate) _ _ (λ m y r. as_rate w.instance u.rate (rate_of x) m y f.1 r) (value_came x f.0 (tick s) t st)
    value_came (t_unary op x u sp) f s t st =
        came_then w (IsValue w.instance (rate_of x)) _ _ _ _ _ (value_came x f.0 (tick s) t st)
        (λ m y s1 t1 r st1. came_has w _ _ _ _ _ (as_rate w.instance u.rate (rate_of x) _ _ f.1 (mapped_value w.instance (unary_bits op u.elem) (rate_of x) m y r)) st1)
    value_came (t_binary op x y u sp) f s t st =
        came_then w (IsValue w.instance (rate_of x)) _ _ _ _ _ (value_came x f.0 (tick s) t st)
        (λ m i s1 t1 r st1. came_then w (IsValue w.instance (rate_of y)) _ _ _ _ _ (value_came y f.1 s1 t1 st1)
        (λ n j s2 t2 q st2. came_checked w _ _ _ Divide sp _ _ s2 t2 (offender_value w.instance gang lt (is_zero op u.elem) (rate_of y) n j q) (joined_value w.instance (op_bits op u.elem) (rate_of x) (rate_of y) u.rate m n i j f.2 f.3 r q) st2))
    value_came (t_compare c x y u sp) f s t st =
        came_then w (IsValue w.instance (rate_of x)) _ _ _ _ _ (value_came x f.0 (tick s) t st)
        (λ m i s1 t1 r st1. came_then w (IsValue w.instance (rate_of y)) _ _ _ _ _ (value_came y f.1 s1 t1 st1)
        (λ n j s2 t2 q st2. came_has w _ _ _ _ _ (joined_value w.instance (compare_bits c (elem_of x)) (rate_of x) (rate_of y) u m n i j f.2 f.3 r q) st2))
    value_came (t_logic l x y u sp) f s t st =
        came_then w (IsValue w.instance (rate_of x)) _ _ _ _ _ (value_came x f.0 (tick s) t st)
        (λ m i s1 t1 r st1. logic_came w gang lt l (rate_of x) (rate_of y) u m i (value gang w.frame calls y) (answer w.begin w.instance w.frame own y) s1 t1 f.2 f.3 r st1 (λ s2 t2 st2. value_came y f.1 s2 t2 st2))
    value_came (t_choose c x y u sp) f s t st =
        came_then w (IsValue w.instance (rate_of c)) _ _ _ _ _ (value_came c f.0 (tick s) t st)
        (λ m i s1 t1 r st1. choose_came w gang lt (rate_of c) (rate_of x) (rate_of y) u.rate m i (value gang w.frame calls x)
        (value gang w.frame calls y) (answer w.begin w.instance w.frame own x) (answer w.begin w.instance w.frame own y) s1 t1 f.3 f.4 f.5 r st1
        (λ s2 t2 st2. value_came x f.1 s2 t2 st2) (λ s2 t2 st2. value_came y f.2 s2 t2 st2))
    value_came (t_call c u) f s t st = call_came c (Some u) f s t st
    value_came (t_library g e xs u sp) f s t st =
        came_then w (AllValues w.instance u.rate) _ _ _ _ _ (values_came u.rate xs f.1 f.2 (tick s) t st) (λ ms ys s1 t1 r st1. came_has w _ _ _ _ _ (library_is w.instance gang g e u.rate ms ys f.0 r) st1)
    value_came (t_packed_store b x sp) f s t st = absurd f
    value_came (t_packed_load b k sp) f s t st = absurd f

    pub place_came : (q : TPlace) → FairPlace w.frame fs IsCallable q → (s : State) (t : Alone) → Stands w s t → CameTo w (PlaceIs w.instance q) (place gang w.frame calls q (lone (Some w.instance)) s) (spot w.begin w.instance w.frame own q t)
    place_came (t_variable k u sp) f s t st = came_has w (PlaceIs w.instance (t_variable k u sp)) _ _ _ _ (refl, refl) st
    place_came (t_element b i u sp) f s t st =
        came_then w (IsValue w.instance (rate_of i)) _ _ _ _ _ (value_came i f.0 (tick s) t st) (λ m y s1 t1 r st1. came_has w (PlaceIs w.instance (t_element b i u sp)) _ _ _ _ (m, y, refl, refl, r) st1)

    -- of the rate q, which is uniform only where all are
    values_came : (q : Rate) (xs : TExprs) → FairAll w.frame fs IsCallable xs → Follows q (rates_of xs) → (s : State) (t : Alone) → Stands w s t
        → CameTo w (AllValues w.instance q) (values gang w.frame calls xs (lone (Some w.instance)) s) (answers w.begin w.instance w.frame own xs t)
    values_came q t_no_exprs f g s t st = came_has w (AllValues w.instance q) [] [] s t tt st
    values_came q (t_expr_then x xs) f g s t st =
        came_then w (IsValue w.instance (rate_of x)) _ _ _ _ _ (value_came x f.0 s t st)
        (λ m y s1 t1 r st1. came_then w (AllValues w.instance q) _ _ _ _ _ (values_came q xs f.1 (or_second q (rate_of x) (rates_of xs) g) s1 t1 st1)
        (λ ms ys s2 t2 h st2. came_has w (AllValues w.instance q) (m ∷ ms) (y ∷ ys) s2 t2 (as_rate w.instance q (rate_of x) m y (or_first q (rate_of x) (rates_of xs) g) r, h) st2))

    pub call_came : (c : TCall) (u : Option Ty) → FairCall w.frame fs IsCallable c u → (s : State) (t : Alone) → Stands w s t
        → CameTo w (IsAnswer w.instance u) (call gang w.frame calls c (lone (Some w.instance)) s) (answer_call w.begin w.instance w.frame own c t)
    call_came (t_called k xs sp) u f s t st =
        came_then w (AllPassed w (params_of f.0)) _ _ _ _ _ (arguments_came (params_of f.0) xs f.4 (tick s) t st)
        (λ ms ys s1 t1 r st1. subst (λ z. CameTo w (IsAnswer w.instance z) (calls k sp (lone (Some w.instance)) ms w.frame s1) (own k sp ys w.frame t1)) f.2 (agree.go k f.0 sp ms ys s1 t1 f.1 f.3 r st1))

    arguments_came : (us : List AVar) (xs : TArguments) → FairArguments w.frame fs IsCallable us xs → (s : State) (t : Alone) → Stands w s t
        → CameTo w (AllPassed w us) (arguments gang w.frame calls xs (lone (Some w.instance)) s) (own_arguments w.begin w.instance w.frame own xs t)
    arguments_came [] t_no_arguments f s t st = came_has w (AllPassed w []) [] [] s t tt st
    arguments_came [] (t_argument_then x xs) f s t st = absurd f
    arguments_came (u ∷ us) t_no_arguments f s t st = absurd f
    arguments_came (u ∷ us) (t_argument_then x xs) f s t st =
        came_then w (PassedIs w u.holds) _ _ _ _ _ (passed_came u.holds x f.0 s t st)
        (λ m y s1 t1 r st1. came_then w (AllPassed w us) _ _ _ _ _ (arguments_came us xs f.1 s1 t1 st1) (λ ms ys s2 t2 h st2. came_has w (AllPassed w (u ∷ us)) (m ∷ ms) (y ∷ ys) s2 t2 (r, h) st2))

    passed_came : (h : Holds) (x : TArgument) → FairArgument w.frame fs IsCallable h x → (s : State) (t : Alone) → Stands w s t
        → CameTo w (PassedIs w h) (passed gang w.frame calls x (lone (Some w.instance)) s) (own_passed w.begin w.instance w.frame own x t)
    passed_came (holds.Value u) (t_by_value x) f s t st =
        came_then w (IsValue w.instance (rate_of x)) _ _ _ _ _ (value_came x f.0 s t st)
        (λ m y s1 t1 r st1. came_has w (PassedIs w (holds.Value u)) (Values m) (Values (One y)) s1 t1 (y, refl, as_rate w.instance u.rate (rate_of x) m y f.1 r) st1)
    passed_came (holds.Given e) (t_by_name b sp) f s t st = came_has w (PassedIs w (holds.Given e)) (Store (w.frame.named b.number)) (Store (w.frame.named b.number)) (tick s) t (refl, f) st
    passed_came (holds.Value u) (t_by_name b sp) f s t st = absurd f
    passed_came (holds.Given e) (t_by_value x) f s t st = absurd f
    passed_came (holds.Local u n) x f s t st = absurd f
