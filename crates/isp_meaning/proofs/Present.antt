-- Each member of a set inside the gang has a value of an expression.
use Rattle.std.specs.Prelude.{◌≡◌, ℕ, ◌<◌, List, [], ◌∷◌, Option, Some, None, Bool, true, false, not, ◌||◌, if◌then◌else◌, slice_get, zero, suc}
use Rattle.std.proofs.Common.{refl, sym, ap, ◌∙◌, subst, ⊎_elim, arith}
use Rattle.std.proofs.lemmas.Bool.{cases_eq}
use Rattle.isp_base.specs.Access.{is_zero, element}
use Rattle.isp_base.specs.Cross.{packed_outside}
use Rattle.isp_base.specs.Maps.{each1, each2, holds, where_true}
use Rattle.isp_base.specs.Sets.{Mask, nobody, any, lowest}
use Rattle.isp_base.specs.Types.{gang_width}
use Rattle.isp_base.specs.declared.types.Elem.{Elem}
use Rattle.isp_base.specs.declared.types.Rate.{Rate}
use Rattle.isp_base.specs.declared.types.Rate.TheVariants.{Uniform, Varying}
use Rattle.isp_base.specs.declared.types.Span.{Span}
use Rattle.isp_base.specs.declared.types.Ty.{Ty}
use Rattle.isp_base.specs.declared.trap.Trap.{Trap}
use Rattle.isp_base.specs.declared.trap.TrapKind.{TrapKind}
use Rattle.isp_base.specs.declared.trap.TrapKind.TheVariants.{Divide, Index}
use Rattle.isp_typed.specs.Typed.{TExpr, t_constant, t_program_index, t_place, t_convert, t_cast, t_unary, t_binary, t_compare, t_logic, t_choose, t_call, t_library, t_packed_store}
use Rattle.isp_typed.specs.Typed.{t_packed_load, TPlace, t_variable, t_element, TBase, t_whole, t_from, TArgument, t_by_value, t_by_name, TCall, t_called, TArguments}
use Rattle.isp_typed.specs.Typed.{t_no_arguments, t_argument_then, TExprs, t_no_exprs, t_expr_then, place_span, TFunction, Program}
use Rattle.isp_typed.specs.declared.library.Library.{Library}
use Rattle.isp_typed.specs.declared.library.Library.TheVariants as library
use Rattle.isp_typed.specs.declared.variable.Logic.{Logic}
use Rattle.isp_meaning.specs.State.{State, Frame, tick, extent}
use Rattle.isp_meaning.specs.Payloads.{Payload, One, Each, is_true, is_false, spread, mapped, joined, kept_by, selected, nothing, offender, first_of_two}
use Rattle.isp_meaning.specs.Outcomes.{Val, Gives, Fails, Stops, Res, Went, Trapped, Cut, bind, checked, if_so, value_unless_empty}
use Rattle.isp_meaning.specs.Places.{Place, Variable, Element, variable, elements, outside, held}
use Rattle.isp_meaning.specs.Library.{library_value, argument, chosen_one, chosen_by}
use Rattle.isp_meaning.specs.Expressions.{Passed, Calls, needs, settled, base_array, value, place, first_element, values, call, arguments, passed}
use Rattle.isp_meaning.specs.Calls.{ended, called, calls_at, answer_of, answer_at}
use Rattle.isp_meaning.specs.Laws.{Present, HasOne, HasOneBy, EachHasOne}

-- ---- of a set with a member in the gang some are there

or_left : (b c : Bool) → b ≡ true → (b || c) ≡ true
or_left b c h = ap (λ t. t || c) h

or_right : (b c : Bool) → c ≡ true → (b || c) ≡ true
or_right true c h = refl
or_right false c h = h

any_here : (n p : ℕ) (a : Mask) → p < n → a p ≡ true → any n a ≡ true
any_here zero p a low h = absurd (omega (arith, low))
any_here (suc n) p a low h =
    ⊎_elim (λ e. or_right (any n a) (a n) (subst (λ (q : ℕ). a q ≡ true) e h)) (λ ne. or_left (any n a) (a n) (any_here n p a (omega (arith, low, ne)) h)) (cases_eq p n)

-- ---- values of one instance

present1 : (f : ℕ → ℕ) (o : Option ℕ) → Present o → Present (each1 f o)
present1 f None h = h
present1 f (Some x) h = tt

present2 : (f : ℕ → ℕ → ℕ) (o q : Option ℕ) → Present o → Present q → Present (each2 f o q)
present2 f None q h k = h
present2 f (Some x) None h k = k
present2 f (Some x) (Some y) h k = tt

first_left : (o q : Option ℕ) → Present o → Present (first_of_two o q)
first_left None q h = absurd h
first_left (Some x) q h = tt

first_right : (o q : Option ℕ) → Present q → Present (first_of_two o q)
first_right None q h = h
first_right (Some x) q h = tt

chosen_present : (o q r : Option ℕ) → Present o → Present q → Present r → Present (chosen_one o q r)
chosen_present None q r h k j = h
chosen_present (Some c) q r h k j = by (is_true c)
  where
    by : (t : Bool) → Present (if t then q else r)
    by true = k
    by false = j

others : (o : Option ℕ) → Present o → holds is_false o ≡ not (holds is_true o)
others None h = absurd h
others (Some x) h = refl

-- ---- outcomes that give what is so

data By {A : Type 0} (Q : A → Type 0) : Val A → Type 0 where
  gives : {x : A} {s : State} → Q x → By Q (Gives x s)
  fails : {t : Trap} {s : State} → By Q (Fails t s)
  stops : {s : State} → By Q (Stops s)

given : {A : Type 0} (Q : A → Type 0) (x : A) (s : State) → By Q (Gives x s) → Q x
given Q x s (gives h) = h

bind_here : {A B : Type 0} (Q : A → Type 0) (R : B → Type 0) (v : Val A) (go : A → State → Val B) → By Q v → ((x : A) (s : State) → Q x → By R (go x s)) → By R (bind v go)
bind_here Q R (Gives x s) go h f = f x s (given Q x s h)
bind_here Q R (Fails t s) go h f = fails
bind_here Q R (Stops s) go h f = stops

checked_here : {A : Type 0} (Q : A → Type 0) (o : Option ℕ) (k : TrapKind) (sp : Span) (s : State) (x : A) → Q x → By Q (checked o k sp s x)
checked_here Q None k sp s x h = gives h
checked_here Q (Some i) k sp s x h = fails

under : (E : Type 0) (Q : Payload → Type 0) (v : Val Payload) → (E → By Q v) → By (λ n. E → Q n) v
under E Q (Gives x s) h = gives (λ e. given Q x s (h e))
under E Q (Fails t s) h = fails
under E Q (Stops s) h = stops

abbrev Any : {A : Type 0} → A → Type 0
Any x = Unit {0}

-- ---- values over a set

module _ (p : ℕ) where
  abbrev HasPlace : Place → Type 0
  HasPlace (Variable v t) = Unit {0}
  HasPlace (Element b t i) = HasOne p i

  abbrev HasAll : List Payload → Type 0
  HasAll [] = Unit {0}
  HasAll (m ∷ ms) = HasOne p m × HasAll ms

  both_have : (m : Payload) (ms : List Payload) → HasOne p m → HasAll ms → HasAll (m ∷ ms)
  both_have m ms h k = (h, k)

  on_some : (a : Mask) (x : ℕ) → a p ≡ true → Present (if a p then Some x else None)
  on_some a x h = subst (λ (t : Bool). Present (if t then Some x else None)) (sym h) tt

  spread_here : (a : Mask) (m : Payload) → a p ≡ true → HasOne p m → Present (spread a m p)
  spread_here a (One x) h k = on_some a x h
  spread_here a (Each x) h k = k

  mapped_here : (f : ℕ → ℕ) (m : Payload) → HasOne p m → HasOne p (mapped f m)
  mapped_here f (One x) k = tt
  mapped_here f (Each x) k = present1 f (x p) k

  joined_here : (f : ℕ → ℕ → ℕ) (a : Mask) (m n : Payload) → a p ≡ true → HasOne p m → HasOne p n → HasOne p (joined f a m n)
  joined_here f a (One x) (One y) h k j = tt
  joined_here f a (One x) (Each y) h k j = present2 f (spread a (One x) p) (y p) (on_some a x h) j
  joined_here f a (Each x) n h k j = present2 f (x p) (spread a n p) k (spread_here a n h j)

  -- the later values are there where they are needed
  settled_here : (l : Logic) (a : Mask) (m n : Payload) → a p ≡ true → HasOne p m → (kept_by (needs l) a m p ≡ true → HasOne p n) → HasOne p (settled l a m n)
  settled_here l a (One x) n h k j = by (needs l x) j
    where
      by : (t : Bool) → ((if t then a else nobody) p ≡ true → HasOne p n) → HasOne p (if t then n else One x)
      by true i = i h
      by false i = tt
  settled_here l a (Each x) n h k j = first_right (spread (where_true (needs l) x) n p) (x p) k

  selected_here : (a : Mask) (c m n : Payload) → a p ≡ true → HasOne p c → (kept_by is_true a c p ≡ true → HasOne p m) → (kept_by is_false a c p ≡ true → HasOne p n) → HasOne p (selected a c m n)
  selected_here a (One c) m n h k i j = by (is_true c) i j
    where
      by : (t : Bool) → ((if t then a else nobody) p ≡ true → HasOne p m) → ((if not t then a else nobody) p ≡ true → HasOne p n) → HasOne p (if t then m else n)
      by true u v = u h
      by false u v = v h
  selected_here a (Each c) m n h k i j = by (where_true is_true c p) refl (others (c p) k)
    where
      yes : Option ℕ
      yes = spread (where_true is_true c) m p

      no : Option ℕ
      no = spread (where_true is_false c) n p

      by : (t : Bool) → where_true is_true c p ≡ t → where_true is_false c p ≡ not t → Present (first_of_two yes no)
      by true e f = first_left yes no (spread_here (where_true is_true c) m e (i e))
      by false e f = first_right yes no (spread_here (where_true is_false c) n f (j f))

  chosen_here : (a : Mask) (c m n : Payload) → a p ≡ true → HasOne p c → HasOne p m → HasOne p n → HasOne p (chosen_by a c m n)
  chosen_here a (One c) m n h k i j = by (is_true c)
    where
      by : (t : Bool) → HasOne p (if t then m else n)
      by true = i
      by false = j
  chosen_here a (Each c) m n h k i j = chosen_present (c p) (spread a m p) (spread a n p) k (spread_here a m h i) (spread_here a n h j)

  library_here : (gang : ℕ) (t : Elem) (a : Mask) (f : Library) (x y z : Payload) → a p ≡ true → HasOne p x → HasOne p y → HasOne p z → HasOne p (library_value gang t a f x y z)
  library_here gang t a library.ReduceAdd x y z h i j k = tt
  library_here gang t a library.ReduceMin x y z h i j k = tt
  library_here gang t a library.ReduceMax x y z h i j k = tt
  library_here gang t a library.ReduceEqual x y z h i j k = tt
  library_here gang t a library.Any x y z h i j k = tt
  library_here gang t a library.All x y z h i j k = tt
  library_here gang t a library.None x y z h i j k = tt
  library_here gang t a library.ScanAdd x y z h i j k = on_some a _ h
  library_here gang t a library.ScanAnd x y z h i j k = on_some a _ h
  library_here gang t a library.ScanOr x y z h i j k = on_some a _ h
  library_here gang t a library.Broadcast x y z h i j k = on_some a _ h
  library_here gang t a library.Rotate x y z h i j k = on_some a _ h
  library_here gang t a library.Shift x y z h i j k = on_some a _ h
  library_here gang t a library.Shuffle x y z h i j k = on_some a _ h
  library_here gang t a library.ShuffleTwo x y z h i j k = on_some a _ h
  library_here gang t a library.Extract x y z h i j k = tt
  library_here gang t a library.Insert x y z h i j k = on_some a _ h
  library_here gang t a library.Min x y z h i j k = joined_here _ a x y h i j
  library_here gang t a library.Max x y z h i j k = joined_here _ a x y h i j
  library_here gang t a library.Clamp x y z h i j k = joined_here _ a (joined _ a x y) z h (joined_here _ a x y h i j) k
  library_here gang t a library.Abs x y z h i j k = mapped_here _ x i
  library_here gang t a library.Select x y z h i j k = chosen_here a x y z h i j k

  argument_here : (ms : List Payload) (k : ℕ) → HasAll ms → HasOne p (argument ms k)
  argument_here [] k h = tt
  argument_here (m ∷ ms) zero h = h.0
  argument_here (m ∷ ms) (suc k) h = argument_here ms k h.1

  held_here : (gang : ℕ) (frame : Frame) (q : Place) (a : Mask) (s : State) → a p ≡ true → HasPlace q → HasOne p (held gang frame q a s)
  held_here gang frame (Variable v t) a s h k = by t.rate
    where
      by : (r : Rate) → HasOne p (variable r v a s)
      by Uniform = tt
      by Varying = on_some a (s.varying v p) h
  held_here gang frame (Element b t i) a s h k = by b.ty.rate
    where
      by : (r : Rate) → HasOne p (elements frame b t i a r s)
      by Uniform = mapped_here _ i k
      by Varying = present1 (λ x. s.own b.number (element t x) p) (spread a i p) (spread_here a i h k)

  -- ---- outcomes

  unless_here : (gang : ℕ) → p < gang → (a : Mask) (s : State) (f : Mask → State → Val Payload) → (a p ≡ true → By (HasOne p) (f a s)) → By (λ n. a p ≡ true → HasOne p n) (value_unless_empty gang a s f)
  unless_here gang low a s f h = by (any gang a) refl
    where
      by : (t : Bool) → any gang a ≡ t → By (λ n. a p ≡ true → HasOne p n) (if_so t (f a) (Gives nothing) s)
      by true e = under (a p ≡ true) (HasOne p) (f a s) h
      by false e = gives (λ k. absurd (off (sym (any_here gang p a low k) ∙ e)))
        where
          off : true ≡ false → ⊥
          off q = cc

-- ---- expressions

abbrev CallsHere : Calls → Type 0
CallsHere calls = (f : ℕ) (sp : Span) (a : Mask) (xs : List Passed) (frame : Frame) (s : State) (p : ℕ) → a p ≡ true → By (HasOne p) (calls f sp a xs frame s)

module _ (gang : ℕ) (frame : Frame) (calls : Calls) (here : CallsHere calls) (p : ℕ) (low : p < gang) where
  mutual
    value_here : (x : TExpr) (a : Mask) (s : State) → a p ≡ true → By (HasOne p) (value gang frame calls x a s)
    value_here (t_constant v sp) a s h = gives tt
    value_here (t_program_index sp) a s h = gives (on_some p a _ h)
    value_here (t_place q) a s h =
        bind_here (HasPlace p) (HasOne p) _ _ (place_here q a s h) (λ r s1 k. checked_here (HasOne p) (outside gang frame r a) Index (place_span q) s1 _ (held_here p gang frame r a s1 h k))
    value_here (t_convert e x) a s h = bind_here (HasOne p) (HasOne p) _ _ (value_here x a s h) (λ m s1 k. gives (mapped_here p _ m k))
    value_here (t_cast x t sp) a s h = value_here x a (tick s) h
    value_here (t_unary op x t sp) a s h = bind_here (HasOne p) (HasOne p) _ _ (value_here x a (tick s) h) (λ m s1 k. gives (mapped_here p _ m k))
    value_here (t_binary op x y t sp) a s h =
        bind_here (HasOne p) (HasOne p) _ _ (value_here x a (tick s) h)
        (λ m s1 k. bind_here (HasOne p) (HasOne p) _ _ (value_here y a s1 h)
        (λ n s2 j. checked_here (HasOne p) (offender gang (is_zero op t.elem) a n) Divide sp s2 _ (joined_here p _ a m n h k j)))
    value_here (t_compare c x y r sp) a s h =
        bind_here (HasOne p) (HasOne p) _ _ (value_here x a (tick s) h) (λ m s1 k. bind_here (HasOne p) (HasOne p) _ _ (value_here y a s1 h) (λ n s2 j. gives (joined_here p _ a m n h k j)))
    value_here (t_logic l x y r sp) a s h =
        bind_here (HasOne p) (HasOne p) _ _ (value_here x a (tick s) h)
        (λ m s1 k. bind_here (λ n. kept_by (needs l) a m p ≡ true → HasOne p n) (HasOne p) _ _ (unless_here p gang low (kept_by (needs l) a m) s1 (value gang frame calls y) (value_here y (kept_by (needs l) a m) s1))
        (λ n s2 j. gives (settled_here p l a m n h k j)))
    value_here (t_choose c x y t sp) a s h =
        bind_here (HasOne p) (HasOne p) _ _ (value_here c a (tick s) h)
        (λ k s1 kc. bind_here (λ m. kept_by is_true a k p ≡ true → HasOne p m) (HasOne p) _ _ (unless_here p gang low (kept_by is_true a k) s1 (value gang frame calls x) (value_here x (kept_by is_true a k) s1))
        (λ m s2 i. bind_here (λ n. kept_by is_false a k p ≡ true → HasOne p n) (HasOne p) _ _ (unless_here p gang low (kept_by is_false a k) s2 (value gang frame calls y) (value_here y (kept_by is_false a k) s2))
        (λ n s3 j. gives (selected_here p a k m n h kc i j))))
    value_here (t_call c t) a s h = call_here c a s h
    value_here (t_library f e xs t sp) a s h =
        bind_here (HasAll p) (HasOne p) _ _ (values_here xs a (tick s) h)
        (λ ms s1 k. gives (library_here p gang e a f (argument ms 0) (argument ms 1) (argument ms 2) h (argument_here p ms 0 k) (argument_here p ms 1 k) (argument_here p ms 2 k)))
    value_here (t_packed_store b x sp) a s h =
        bind_here Any (HasOne p) _ _ (first_here b a (tick s) h)
        (λ z s1 _. bind_here (HasOne p) (HasOne p) _ _ (value_here x a s1 h)
        (λ m s2 k. bind_here (HasOne p) (HasOne p) _ _ (checked_here (HasOne p) (lowest gang (packed_outside (extent frame (base_array b)) z a))
        Index sp s2 m k) (λ n s3 j. gives tt)))
    value_here (t_packed_load b v sp) a s h =
        bind_here Any (HasOne p) _ _ (first_here b a (tick s) h)
        (λ z s1 _. bind_here (HasOne p) (HasOne p) _ _ (checked_here (HasOne p) (lowest gang (packed_outside (extent frame (base_array b)) z a)) Index sp (tick s1) _ (on_some p a _ h)) (λ n s2 j. gives tt))

    place_here : (q : TPlace) (a : Mask) (s : State) → a p ≡ true → By (HasPlace p) (place gang frame calls q a s)
    place_here (t_variable v t sp) a s h = gives tt
    place_here (t_element b i t sp) a s h = bind_here (HasOne p) (HasPlace p) _ _ (value_here i a (tick s) h) (λ m s1 k. gives k)

    first_here : (b : TBase) (a : Mask) (s : State) → a p ≡ true → By Any (first_element gang frame calls b a s)
    first_here (t_whole b sp) a s h = gives tt
    first_here (t_from b i sp) a s h = bind_here (HasOne p) Any _ _ (value_here i a (tick s) h) (λ m s1 k. gives tt)

    values_here : (xs : TExprs) (a : Mask) (s : State) → a p ≡ true → By (HasAll p) (values gang frame calls xs a s)
    values_here t_no_exprs a s h = gives tt
    values_here (t_expr_then x xs) a s h =
        bind_here (HasOne p) (HasAll p) _ _ (value_here x a s h) (λ m s1 k. bind_here (HasAll p) (HasAll p) _ _ (values_here xs a s1 h) (λ ms s2 j. gives (both_have p m ms k j)))

    call_here : (c : TCall) (a : Mask) (s : State) → a p ≡ true → By (HasOne p) (call gang frame calls c a s)
    call_here (t_called f xs sp) a s h = bind_here Any (HasOne p) _ _ (arguments_here xs a (tick s) h) (λ ps s1 _. here f sp a ps frame s1 p h)

    arguments_here : (xs : TArguments) (a : Mask) (s : State) → a p ≡ true → By Any (arguments gang frame calls xs a s)
    arguments_here t_no_arguments a s h = gives tt
    arguments_here (t_argument_then x xs) a s h =
        bind_here Any Any _ _ (passed_here x a s h) (λ m s1 _. bind_here Any Any _ _ (arguments_here xs a s1 h) (λ ms s2 _. gives tt))

    passed_here : (x : TArgument) (a : Mask) (s : State) → a p ≡ true → By Any (passed gang frame calls x a s)
    passed_here (t_by_value x) a s h = bind_here (HasOne p) Any _ _ (value_here x a s h) (λ m s1 k. gives tt)
    passed_here (t_by_name b sp) a s h = gives tt

-- ---- calls give each member its result

answer_here : (p : ℕ) (t : Option Ty) (a : Mask) (s : State) → a p ≡ true → HasOne p (answer_of t a s)
answer_here p None a s h = tt
answer_here p (Some t) a s h = by t.rate
  where
    by : (r : Rate) → HasOne p (answer_at r a s)
    by Uniform = tt
    by Varying = on_some p a (s.results p) h

ended_here : (p : ℕ) (t : Option Ty) (frame : Frame) (a : Mask) (before : State) (v : Res) → a p ≡ true → By (HasOne p) (ended t frame a before v)
ended_here p t frame a before (Went s g b c r) h = gives (answer_here p t a s h)
ended_here p t frame a before (Trapped x s) h = fails
ended_here p t frame a before (Cut s) h = stops

calls_here : (program : Program) (most left : ℕ) → CallsHere (calls_at program most left)
calls_here program most zero f sp a xs frame s p h = fails
calls_here program most (suc left) f sp a xs frame s p h = by (slice_get program.functions f)
  where
    by : (o : Option TFunction) → By (HasOne p) (called program most (calls_at program most left) o a xs frame s)
    by None = stops
    by (Some g) = ended_here p g.answer frame a s _ h

has_by : (p : ℕ) (v : Val Payload) → By (HasOne p) v → HasOneBy p v
has_by p (Gives x s) h = given (HasOne p) x s h
has_by p (Fails t s) h = tt
has_by p (Stops s) h = tt

pub each_has_one : EachHasOne
each_has_one program most left frame x a s p low h =
    has_by p _ (value_here (gang_width program.gang) frame (calls_at program most left) (calls_here program most left) p low x a s h)
