-- A uniform expression gives one value.
use Rattle.std.specs.Prelude.{◌≡◌, ℕ, zero, suc, List, [], ◌∷◌, Option, Some, None, Bool, true, false, not, if◌then◌else◌, slice_get}
use Rattle.std.proofs.Common.{refl, sym, ap, ◌∙◌, subst, inl, inr}
use Rattle.isp_base.specs.Access.{is_zero}
use Rattle.isp_base.specs.Sets.{Mask, nobody, any}
use Rattle.isp_base.specs.Types.{gang_width}
use Rattle.isp_base.specs.declared.types.Elem.{Elem}
use Rattle.isp_base.specs.declared.types.Rate.{Rate}
use Rattle.isp_base.specs.declared.types.Rate.TheVariants.{Uniform, Varying}
use Rattle.isp_base.specs.declared.types.Span.{Span}
use Rattle.isp_base.specs.declared.types.Ty.{Ty}
use Rattle.isp_base.specs.declared.trap.Trap.{Trap}
use Rattle.isp_base.specs.declared.trap.TrapKind.{TrapKind}
use Rattle.isp_base.specs.declared.trap.TrapKind.TheVariants.{Divide, Index}
use Rattle.isp_lex.specs.declared.fault.Fault.{Fault}
use Rattle.isp_typed.specs.Fine.{FineExpr, FinePlace, FineCall, FineParts, rates_of}
use Rattle.isp_typed.specs.Library.{parts, library_type}
use Rattle.isp_typed.specs.Typed.{TExpr, t_constant, t_program_index, t_place, t_convert, t_cast, t_unary, t_binary, t_compare, t_logic, t_choose, t_call, t_library, t_packed_store, t_packed_load, TPlace}
use Rattle.isp_typed.specs.Typed.{t_variable, t_element, TCall, t_called, TExprs, t_no_exprs, t_expr_then, rate_of, rate_or, span_of, place_type, place_span, TFunction, Program}
use Rattle.isp_typed.specs.declared.library.Library.{Library}
use Rattle.isp_typed.specs.declared.library.Library.TheVariants as library
use Rattle.isp_typed.specs.declared.library.Part.{Part}
use Rattle.isp_typed.specs.declared.variable.Logic.{Logic}
use Rattle.isp_typed.specs.declared.variable.Variable.{Variable}
use Rattle.isp_rates.specs.Rates.{RateBreach, DemandBreach, ExprBreach, PlaceBreach, ValuesBreach}
use Rattle.isp_meaning.specs.State.{State, Frame, tick}
use Rattle.isp_meaning.specs.Payloads.{Payload, One, Each, is_true, mapped, joined, kept_by, selected, nothing, offender, is_false}
use Rattle.isp_meaning.specs.Outcomes.{Val, Gives, Fails, Stops, Res, Went, Trapped, Cut, bind, checked, if_so, value_unless_empty}
use Rattle.isp_meaning.specs.Places.{Place, Variable as AVariable, Element, variable, elements, outside, held}
use Rattle.isp_meaning.specs.Library.{library_value, argument, chosen_by}
use Rattle.isp_meaning.specs.Expressions.{Passed, Calls, needs, settled, value, place, first_element, values, call, arguments}
use Rattle.isp_meaning.specs.Calls.{ended, called, calls_at, answer_of, answer_at}
use Rattle.isp_type_laws.specs.Uniform.{Sole, SoleBy, UniformGivesOne}
use Rattle.isp_type_laws.proofs.Expressions.{NoneOf, demand_own, is_uniform}

-- ---- rates

or_left : (r q : Rate) → rate_or r q ≡ Uniform → r ≡ Uniform
or_left Uniform q e = refl
or_left Varying q e = absurd (cc)

or_right : (r q : Rate) → rate_or r q ≡ Uniform → q ≡ Uniform
or_right Uniform q e = e
or_right Varying q e = absurd (cc)

-- what is given where a uniform value is wanted
demand_rate : (wanted : Rate) (x : TExpr) (B : Fault → Type 0) → NoneOf (DemandBreach wanted x B) → wanted ≡ Uniform → rate_of x ≡ Uniform
demand_rate wanted x B n e =
    is_uniform (rate_of x) (span_of x) (λ f b. n f (inr (λ g k. n g (inl k), subst (λ r. RateBreach r (rate_of x) (span_of x) f) (sym e) b)))

-- ---- values

mapped_sole : (f : ℕ → ℕ) (m : Payload) → Sole m → Sole (mapped f m)
mapped_sole f (One x) h = tt
mapped_sole f (Each x) h = absurd h

joined_sole : (f : ℕ → ℕ → ℕ) (a : Mask) (m n : Payload) → Sole m → Sole n → Sole (joined f a m n)
joined_sole f a (One x) (One y) h k = tt
joined_sole f a (One x) (Each y) h k = absurd k
joined_sole f a (Each x) n h k = absurd h

settled_sole : (t : Bool) (x : ℕ) (n : Payload) → (t ≡ true → Sole n) → Sole (if t then n else One x)
settled_sole true x n h = h refl
settled_sole false x n h = tt

selected_sole : (t : Bool) (m n : Payload) → (t ≡ true → Sole m) → (not t ≡ true → Sole n) → Sole (if t then m else n)
selected_sole true m n h k = h refl
selected_sole false m n h k = k refl

chosen_sole : (a : Mask) (c m n : Payload) → Sole c → Sole m → Sole n → Sole (chosen_by a c m n)
chosen_sole a (One c) m n h k j = selected_sole (is_true c) m n (λ e. k) (λ e. j)
chosen_sole a (Each c) m n h k j = absurd h

record AreSole (x y z : Payload) : Type 0 where
  pub first : Sole x
  pub second : Sole y
  pub third : Sole z

-- what combines across instances gives one value, what moves values across them is varying, all else is as its values are
library_sole : (gang : ℕ) (t : Elem) (a : Mask) (f : Library) (r : Rate) (x y z : Payload) → (library_type f t r).rate ≡ Uniform → (r ≡ Uniform → AreSole x y z) → Sole (library_value gang t a f x y z)
library_sole gang t a library.ReduceAdd r x y z e h = tt
library_sole gang t a library.ReduceMin r x y z e h = tt
library_sole gang t a library.ReduceMax r x y z e h = tt
library_sole gang t a library.ReduceEqual r x y z e h = tt
library_sole gang t a library.Any r x y z e h = tt
library_sole gang t a library.All r x y z e h = tt
library_sole gang t a library.None r x y z e h = tt
library_sole gang t a library.ScanAdd r x y z e h = absurd (cc)
library_sole gang t a library.ScanAnd r x y z e h = absurd (cc)
library_sole gang t a library.ScanOr r x y z e h = absurd (cc)
library_sole gang t a library.Broadcast r x y z e h = absurd (cc)
library_sole gang t a library.Rotate r x y z e h = absurd (cc)
library_sole gang t a library.Shift r x y z e h = absurd (cc)
library_sole gang t a library.Shuffle r x y z e h = absurd (cc)
library_sole gang t a library.ShuffleTwo r x y z e h = absurd (cc)
library_sole gang t a library.Extract r x y z e h = tt
library_sole gang t a library.Insert r x y z e h = absurd (cc)
library_sole gang t a library.Min r x y z e h = joined_sole _ a x y (h e).first (h e).second
library_sole gang t a library.Max r x y z e h = joined_sole _ a x y (h e).first (h e).second
library_sole gang t a library.Clamp r x y z e h = joined_sole _ a (joined _ a x y) z (joined_sole _ a x y (h e).first (h e).second) (h e).third
library_sole gang t a library.Abs r x y z e h = mapped_sole _ x (h e).first
library_sole gang t a library.Select r x y z e h = chosen_sole a x y z (h e).first (h e).second (h e).third

abbrev AllSole : List Payload → Type 0
AllSole [] = Unit {0}
AllSole (m ∷ ms) = Sole m × AllSole ms

both_sole : (m : Payload) (ms : List Payload) → Sole m → AllSole ms → AllSole (m ∷ ms)
both_sole m ms h k = (h, k)

argument_sole : (ms : List Payload) (k : ℕ) → AllSole ms → Sole (argument ms k)
argument_sole [] k h = tt
argument_sole (m ∷ ms) zero h = h.0
argument_sole (m ∷ ms) (suc k) h = argument_sole ms k h.1

-- a place where one value is held
abbrev PlaceSole : Place → Type 0
PlaceSole (AVariable v t) = t.rate ≡ Uniform
PlaceSole (Element b t i) = (b.ty.rate ≡ Uniform) × Sole i

held_sole : (gang : ℕ) (frame : Frame) (q : Place) (a : Mask) (s : State) → PlaceSole q → Sole (held gang frame q a s)
held_sole gang frame (AVariable v t) a s h = subst (λ r. Sole (variable r v a s)) (sym h) tt
held_sole gang frame (Element b t i) a s h = subst (λ r. Sole (elements frame b t i a r s)) (sym h.0) (mapped_sole _ i h.1)

-- ---- outcomes that give what is so

data By {A : Type 0} (Q : A → Type 0) : Val A → Type 0 where
  gives : {x : A} {s : State} → Q x → By Q (Gives x s)
  fails : {t : Trap} {s : State} → By Q (Fails t s)
  stops : {s : State} → By Q (Stops s)

given : {A : Type 0} (Q : A → Type 0) (x : A) (s : State) → By Q (Gives x s) → Q x
given Q x s (gives h) = h

bind_by : {A B : Type 0} (Q : A → Type 0) (R : B → Type 0) (v : Val A) (go : A → State → Val B) → By Q v → ((x : A) (s : State) → Q x → By R (go x s)) → By R (bind v go)
bind_by Q R (Gives x s) go h f = f x s (given Q x s h)
bind_by Q R (Fails t s) go h f = fails
bind_by Q R (Stops s) go h f = stops

checked_by : {A : Type 0} (Q : A → Type 0) (o : Option ℕ) (k : TrapKind) (sp : Span) (s : State) (x : A) → Q x → By Q (checked o k sp s x)
checked_by Q None k sp s x h = gives h
checked_by Q (Some i) k sp s x h = fails

under : {A : Type 0} (E : Type 0) (Q : A → Type 0) (v : Val A) → (E → By Q v) → By (λ n. E → Q n) v
under E Q (Gives x s) h = gives (λ e. given Q x s (h e))
under E Q (Fails t s) h = fails
under E Q (Stops s) h = stops

-- what holds of all
of_all : {A : Type 0} (Q : A → Type 0) (v : Val A) → ((x : A) → Q x) → By Q v
of_all Q (Gives x s) h = gives (h x)
of_all Q (Fails t s) h = fails
of_all Q (Stops s) h = stops

abbrev Anything : {A : Type 0} → A → Type 0
Anything x = Unit {0}

-- whatever the first gives
then_by : {A B : Type 0} (R : B → Type 0) (v : Val A) (go : A → State → Val B) → ((x : A) (s : State) → By R (go x s)) → By R (bind v go)
then_by R v go f = bind_by Anything R v go (of_all Anything v (λ x. tt)) (λ x s h. f x s)

sole_by : (v : Val Payload) → By Sole v → SoleBy v
sole_by (Gives m s) h = given Sole m s h
sole_by (Fails t s) h = tt
sole_by (Stops s) h = tt

-- ---- operands that not every value of the first one asks for

module _ (gang : ℕ) (a : Mask) (some : any gang a ≡ true) where
  later_sole : (t : Bool) (s : State) (f : Mask → State → Val Payload) → By Sole (f a s) → By (λ n. t ≡ true → Sole n) (value_unless_empty gang (if t then a else nobody) s f)
  later_sole true s f h = subst (λ b. By (λ n. true ≡ true → Sole n) (if_so b (f a) (Gives nothing) s)) (sym some) (under (true ≡ true) Sole (f a s) (λ e. h))
  later_sole false s f h = of_all (λ n. false ≡ true → Sole n) _ (λ n e. absurd (cc))

  logic_sole : (l : Logic) (m : Payload) (s : State) (f : Mask → State → Val Payload) → Sole m → By Sole (f a s) → By Sole (bind (value_unless_empty gang (kept_by (needs l) a m) s f) (λ n s2. Gives (settled l a m n) s2))
  logic_sole l (One x) s f h k = bind_by (λ n. needs l x ≡ true → Sole n) Sole _ _ (later_sole (needs l x) s f k) (λ n s2 j. gives (settled_sole (needs l x) x n j))
  logic_sole l (Each x) s f h k = absurd h

  choose_sole : (c : Payload) (s : State) (f g : Mask → State → Val Payload) → Sole c → ((s : State) → By Sole (f a s))
      → ((s : State) → By Sole (g a s)) → By Sole (bind (value_unless_empty gang (kept_by is_true a c) s f)
      (λ m s2. bind (value_unless_empty gang (kept_by is_false a c) s2 g) (λ n s3. Gives (selected a c m n) s3)))
  choose_sole (One c) s f g h k j =
      bind_by (λ m. is_true c ≡ true → Sole m) Sole _ _ (later_sole (is_true c) s f (k s)) (λ m s2 u. bind_by (λ n. is_false c ≡ true → Sole n) Sole _ _ (later_sole (is_false c) s2 g (j s2)) (λ n s3 w. gives (selected_sole (is_true c) m n u w)))
  choose_sole (Each c) s f g h k j = absurd h

-- ---- expressions

-- a function whose result is uniform gives one value
abbrev CallsSole : List TFunction → Calls → Type 0
CallsSole fs calls =
    (k : ℕ) (g : TFunction) (t : Ty) → slice_get fs k ≡ Some g → g.answer ≡ Some t → t.rate ≡ Uniform → (sp : Span) (a : Mask) (ps : List Passed) (frame : Frame) (s : State) → By Sole (calls k sp a ps frame s)

module _ (gang : ℕ) (fs : List TFunction) (vars : List Variable) (frame : Frame) (calls : Calls) (sole : CallsSole fs calls) (a : Mask) (some : any gang a ≡ true) where
  mutual
    value_sole : (x : TExpr) → FineExpr fs vars x → NoneOf (ExprBreach fs x) → rate_of x ≡ Uniform → (s : State) → By Sole (value gang frame calls x a s)
    value_sole (t_constant v sp) f n e s = gives tt
    value_sole (t_program_index sp) f n e s = absurd (cc)
    value_sole (t_place q) f n e s =
        bind_by PlaceSole Sole _ _ (place_sole q f n e s) (λ r s1 k. checked_by Sole (outside gang frame r a) Index (place_span q) s1 _ (held_sole gang frame r a s1 k))
    value_sole (t_convert t x) f n e s = bind_by Sole Sole _ _ (value_sole x f.0 n e s) (λ m s1 k. gives (mapped_sole _ m k))
    value_sole (t_cast x t sp) f n e s = value_sole x f.0 (demand_own t.rate x (ExprBreach fs x) n) (demand_rate t.rate x (ExprBreach fs x) n e) (tick s)
    value_sole (t_unary op x t sp) f n e s =
        bind_by Sole Sole _ _ (value_sole x f.0 n (ap (λ z. z.rate) f.1 ∙ e) (tick s)) (λ m s1 k. gives (mapped_sole _ m k))
    value_sole (t_binary op x y t sp) f n e s =
        let rates : rate_or (rate_of x) (rate_of y) ≡ Uniform = sym f.2.rate ∙ e in
        bind_by Sole Sole _ _ (value_sole x f.0 (λ g b. n g (inl b)) (or_left (rate_of x) (rate_of y) rates) (tick s))
        (λ m s1 k. bind_by Sole Sole _ _ (value_sole y f.1 (λ g b. n g (inr b)) (or_right (rate_of x) (rate_of y) rates) s1)
        (λ u s2 j. checked_by Sole (offender gang (is_zero op t.elem) a u) Divide sp s2 _ (joined_sole _ a m u k j)))
    value_sole (t_compare c x y r sp) f n e s =
        let rates : rate_or (rate_of x) (rate_of y) ≡ Uniform = sym f.2.rate ∙ e in
        bind_by Sole Sole _ _ (value_sole x f.0 (λ g b. n g (inl b)) (or_left (rate_of x) (rate_of y) rates) (tick s))
        (λ m s1 k. bind_by Sole Sole _ _ (value_sole y f.1 (λ g b. n g (inr b)) (or_right (rate_of x) (rate_of y) rates) s1)
        (λ u s2 j. gives (joined_sole _ a m u k j)))
    value_sole (t_logic l x y r sp) f n e s =
        let rates : rate_or (rate_of x) (rate_of y) ≡ Uniform = sym f.2.rate ∙ e in
        bind_by Sole Sole _ _ (value_sole x f.0 (λ g b. n g (inl b)) (or_left (rate_of x) (rate_of y) rates) (tick s))
        (λ m s1 k. logic_sole gang a some l m s1 (value gang frame calls y) k
        (value_sole y f.1 (λ g b. n g (inr b)) (or_right (rate_of x) (rate_of y) rates) s1))
    value_sole (t_choose c x y t sp) f n e s =
        let rates : rate_or (rate_of c) (rate_or (rate_of x) (rate_of y)) ≡ Uniform = sym f.6 ∙ e in
        let later : rate_or (rate_of x) (rate_of y) ≡ Uniform = or_right (rate_of c) (rate_or (rate_of x) (rate_of y)) rates in
        bind_by Sole Sole _ _ (value_sole c f.0 (λ g b. n g (inl b)) (or_left (rate_of c) (rate_or (rate_of x) (rate_of y)) rates) (tick s))
        (λ m s1 k. choose_sole gang a some m s1 (value gang frame calls x) (value gang frame calls y) k
        (value_sole x f.1 (λ g b. n g (inr (inl b))) (or_left (rate_of x) (rate_of y) later))
        (value_sole y f.2 (λ g b. n g (inr (inr b))) (or_right (rate_of x) (rate_of y) later)))
    value_sole (t_call c t) f n e s = call_sole c t f e s
    value_sole (t_library g t xs u sp) f n e s =
        bind_by (λ ms. rates_of xs ≡ Uniform → AllSole ms) Sole _ _ (under (rates_of xs ≡ Uniform) AllSole (values gang frame calls xs a (tick s)) (λ r. values_sole t (parts g) xs f.0 n r (tick s)))
        (λ ms s1 k. gives (library_sole gang t a g (rates_of xs) (argument ms 0) (argument ms 1) (argument ms 2) (sym (ap (λ z. z.rate) f.2) ∙ e)
        (λ r. record { first = argument_sole ms 0 (k r); second = argument_sole ms 1 (k r); third = argument_sole ms 2 (k r) })))
    value_sole (t_packed_store b x sp) f n e s =
        then_by Sole (first_element gang frame calls b a (tick s)) _ (λ z s1. then_by Sole (value gang frame calls x a s1) _ (λ m s2. then_by Sole _ _ (λ u s3. gives tt)))
    value_sole (t_packed_load b v sp) f n e s =
        then_by Sole (first_element gang frame calls b a (tick s)) _ (λ z s1. then_by Sole _ _ (λ u s2. gives tt))

    place_sole : (q : TPlace) → FinePlace fs vars q → NoneOf (PlaceBreach fs q) → (place_type q).rate ≡ Uniform → (s : State) → By PlaceSole (place gang frame calls q a s)
    place_sole (t_variable v t sp) f n e s = gives e
    place_sole (t_element b i t sp) f n e s =
        let rates : rate_or b.ty.rate (rate_of i) ≡ Uniform = sym (ap (λ z. z.rate) f.2) ∙ e in
        bind_by Sole PlaceSole _ _ (value_sole i f.1 n (or_right b.ty.rate (rate_of i) rates) (tick s)) (λ m s1 k. gives (or_left b.ty.rate (rate_of i) rates, k))

    values_sole : (t : Elem) (ps : List Part) (xs : TExprs) → FineParts fs vars t ps xs → NoneOf (ValuesBreach fs ps xs) → rates_of xs ≡ Uniform → (s : State) → By AllSole (values gang frame calls xs a s)
    values_sole t [] t_no_exprs f n e s = gives tt
    values_sole t [] (t_expr_then x xs) f n e s = absurd f
    values_sole t (p ∷ ps) t_no_exprs f n e s = absurd f
    values_sole t (p ∷ ps) (t_expr_then x xs) f n e s =
        bind_by Sole AllSole _ _ (value_sole x f.0 (λ g b. n g (inl (inl b))) (or_left (rate_of x) (rates_of xs) e) s)
        (λ m s1 k. bind_by AllSole AllSole _ _ (values_sole t ps xs f.2 (λ g b. n g (inr b)) (or_right (rate_of x) (rates_of xs) e) s1)
        (λ ms s2 j. gives (both_sole m ms k j)))

    call_sole : (c : TCall) (t : Ty) → FineCall fs vars c (Some t) → t.rate ≡ Uniform → (s : State) → By Sole (call gang frame calls c a s)
    call_sole (t_called k xs sp) t f e s = then_by Sole (arguments gang frame calls xs a (tick s)) _ (λ ps s1. sole k f.0 t f.1 f.2 e sp a ps frame s1)

-- ---- calls: a uniform result is that of the last `return`, and 0 without one

answer_sole : (o : Option Ty) (t : Ty) → o ≡ Some t → t.rate ≡ Uniform → (a : Mask) (s : State) → Sole (answer_of o a s)
answer_sole o t e r a s = subst (λ z. Sole (answer_of z a s)) (sym e) (subst (λ z. Sole (answer_at z a s)) (sym r) tt)

ended_sole : (o : Option Ty) (t : Ty) → o ≡ Some t → t.rate ≡ Uniform → (frame : Frame) (a : Mask) (before : State) (v : Res) → By Sole (ended o frame a before v)
ended_sole o t e r frame a before (Went s g b c d) = gives (answer_sole o t e r a s)
ended_sole o t e r frame a before (Trapped trap s) = fails
ended_sole o t e r frame a before (Cut s) = stops

calls_sole : (program : Program) (most left : ℕ) → CallsSole program.functions (calls_at program most left)
calls_sole program most zero k g t i e r sp a ps frame s = fails
calls_sole program most (suc left) k g t i e r sp a ps frame s =
    subst (λ o. By Sole (called program most (calls_at program most left) o a ps frame s)) (sym i) (ended_sole g.answer t e r frame a s _)

pub uniform_gives_one : UniformGivesOne
uniform_gives_one program vars most left frame x a s h e some =
    sole_by _ (value_sole (gang_width program.gang) program.functions vars frame (calls_at program most left) (calls_sole program most left) a some x h.fine h.sound e s)
