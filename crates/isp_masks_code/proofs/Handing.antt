-- What is handed over to a call: the registers of each class, in order, are the values and the arrays of its parameters.
use Rattle.std.proofs.Common.{◌≡◌, ℕ, zero, suc, ◌<◌, ◌≤◌, ◌^◌, List, [], ◌∷◌, length, take, Option, Some, None, Bool, true, false, refl, sym, ap, ◌∙◌, subst, arith}
use Rattle.std.proofs.lemmas.Option.{same_Some}
use Rattle.std.specs.Prelude.{if◌then◌else◌, slice_get}
use Rattle.isp_base.specs.Maps.{Lanes, on, over}
use Rattle.isp_base.specs.Sets.{Mask}
use Rattle.isp_base.specs.declared.signature.Parameter.{Parameter}
use Rattle.isp_base.specs.declared.types.Elem.{Elem}
use Rattle.isp_base.specs.declared.types.Rate.{Rate}
use Rattle.isp_base.specs.declared.types.Rate.TheVariants.{Uniform, Varying}
use Rattle.isp_code.specs.Calls.{if_number, numbers, from}
use Rattle.isp_code.specs.Conf.{Conf}
use Rattle.isp_code.specs.Registers.{same_class}
use Rattle.isp_code.specs.declared.register.Class.TheVariants as class
use Rattle.isp_code.specs.declared.register.Register.{Register}
use Rattle.isp_typed.specs.Fine.{IsParam, AreParams, params_of}
use Rattle.isp_typed.specs.Typed.{TFunction}
use Rattle.isp_typed.specs.declared.variable.Holds.{Holds as Held}
use Rattle.isp_typed.specs.declared.variable.Holds.TheVariants as holds
use Rattle.isp_typed.specs.declared.variable.Variable.{Variable}
use Rattle.isp_meaning.specs.Calls.{one_passed, each_passed, is_value, same_rate}
use Rattle.isp_meaning.specs.Expressions.{Passed, Values, Store}
use Rattle.isp_meaning.specs.Payloads.{Payload, One, Each, sole, spread}
use Rattle.isp_meaning.specs.State.{Frame}
use Rattle.isp_lower_code.specs.Calls.{IsHanded, AreHanded}
use Rattle.isp_lower_code.specs.Held.{Holds}
use Rattle.isp_lower_code.specs.Layout.{Layout, class_at}
use Rattle.isp_masks_code.specs.Arrays.{array_then, array_count, ArraysStand}
use Rattle.isp_masks_code.specs.Passing.{count_if, count_value, value_count, HasRate, Passes}
use Rattle.isp_masks_code.proofs.Arrays.{Opens}
use Rattle.isp_code.specs.Listing.{Routine}

-- ---- classes

same_self : (r : Rate) → same_class (class_at r) (class_at r) ≡ true
same_self Uniform = refl
same_self Varying = refl

same_classes : (r s : Rate) → same_class (class_at s) (class_at r) ≡ same_rate r s
same_classes Uniform Uniform = refl
same_classes Uniform Varying = refl
same_classes Varying Uniform = refl
same_classes Varying Varying = refl

no_value : (r : Rate) → same_class class.Array (class_at r) ≡ false
no_value Uniform = refl
no_value Varying = refl

no_array : (r : Rate) → same_class (class_at r) class.Array ≡ false
no_array Uniform = refl
no_array Varying = refl

past_one : (b : Bool) (y n : ℕ) (ns : List ℕ) → slice_get (if_number b y ns) (count_if b n) ≡ slice_get ns n
past_one true y n ns = refl
past_one false y n ns = refl

longer_one : (b : Bool) (y n : ℕ) (ns : List ℕ) → length ns ≡ n → length (if_number b y ns) ≡ count_if b n
longer_one true y n ns e = ap suc e
longer_one false y n ns e = e

module _ (a : Mask) (c : Conf) where
  -- ---- values

  record IsValue (r : Rate) (o : Option ℕ) (z : Option Passed) : Type 0 where
    number : ℕ
    value : Payload
    at : o ≡ Some number
    passed : z ≡ Some (Values value)
    held : Holds r a number value c

  value_first : (r : Rate) (y : Held) (z : Passed) (x : Register) (xs : List Register) → HasRate r y → IsHanded a c y z x → IsValue r (slice_get (numbers (class_at r) (x ∷ xs)) 0) (Some z)
  value_first r (holds.Value t) (Values m) x xs has h =
      let ec : same_class x.class (class_at r) ≡ true = ap (λ k. same_class k (class_at r)) (h.0 ∙ ap class_at has) ∙ same_self r in
      record { number = x.number; value = m; at = ap (λ b. slice_get (if_number b x.number (numbers (class_at r) xs)) 0) ec; passed = refl; held = subst (λ q. Holds q a x.number m c) has h.1 }
  value_first r (holds.Value t) (Store b) x xs has h = absurd h
  value_first r (holds.Given e) z x xs has h = absurd has
  value_first r (holds.Local t n) z x xs has h = absurd has

  -- a register for one parameter more
  value_past : (r : Rate) (y : Held) (z : Passed) (x : Register) (xs : List Register) (n : ℕ) → IsHanded a c y z x → slice_get (numbers (class_at r) (x ∷ xs)) (count_value r y n) ≡ slice_get (numbers (class_at r) xs) n
  value_past r (holds.Value t) (Values m) x xs n h =
      let ec : same_class x.class (class_at r) ≡ same_rate r t.rate = ap (λ k. same_class k (class_at r)) h.0 ∙ same_classes r t.rate in
      ap (λ b. slice_get (if_number b x.number (numbers (class_at r) xs)) (count_if (same_rate r t.rate) n)) ec ∙ past_one (same_rate r t.rate) x.number n (numbers (class_at r) xs)
  value_past r (holds.Value t) (Store b) x xs n h = absurd h
  value_past r (holds.Given e) (Values m) x xs n h = absurd h
  value_past r (holds.Given e) (Store b) x xs n h =
      ap (λ k. slice_get (if_number (same_class k (class_at r)) x.number (numbers (class_at r) xs)) n) h.0 ∙ ap (λ k. slice_get (if_number k x.number (numbers (class_at r) xs)) n) (no_value r)
  value_past r (holds.Local t m) (Values z) x xs n h = absurd h
  value_past r (holds.Local t m) (Store z) x xs n h = absurd h

  value_longer : (r : Rate) (y : Held) (z : Passed) (x : Register) (xs : List Register) (n : ℕ) → IsHanded a c y z x → length (numbers (class_at r) xs) ≡ n → length (numbers (class_at r) (x ∷ xs)) ≡ count_value r y n
  value_longer r (holds.Value t) (Values m) x xs n h e =
      let ec : same_class x.class (class_at r) ≡ same_rate r t.rate = ap (λ k. same_class k (class_at r)) h.0 ∙ same_classes r t.rate in
      ap (λ b. length (if_number b x.number (numbers (class_at r) xs))) ec ∙ longer_one (same_rate r t.rate) x.number n (numbers (class_at r) xs) e
  value_longer r (holds.Value t) (Store b) x xs n h e = absurd h
  value_longer r (holds.Given u) (Values m) x xs n h e = absurd h
  value_longer r (holds.Given u) (Store b) x xs n h e =
      ap (λ k. length (if_number (same_class k (class_at r)) x.number (numbers (class_at r) xs))) h.0 ∙ ap (λ k. length (if_number k x.number (numbers (class_at r) xs))) (no_value r) ∙ e
  value_longer r (holds.Local t m) (Values z) x xs n h e = absurd h
  value_longer r (holds.Local t m) (Store z) x xs n h e = absurd h

  value_handed : (r : Rate) (vs : List Variable) (zs : List Passed) (xs : List Register) (v : ℕ) (y : Variable) → AreHanded a c vs zs xs
      → slice_get vs v ≡ Some y → HasRate r y.holds → IsValue r (slice_get (numbers (class_at r) xs) (value_count r (take v vs))) (slice_get zs v)
  value_handed r [] zs xs v y h e has = absurd (cc)
  value_handed r (w ∷ vs) [] xs v y h e has = absurd h
  value_handed r (w ∷ vs) (z ∷ zs) [] v y h e has = absurd h
  value_handed r (w ∷ vs) (z ∷ zs) (x ∷ xs) zero y h e has = value_first r w.holds z x xs (subst (λ (k : Variable). HasRate r k.holds) (sym (same_Some w y e)) has) h.0
  value_handed r (w ∷ vs) (z ∷ zs) (x ∷ xs) (suc v) y h e has =
      subst (λ o. IsValue r o (slice_get zs v)) (sym (value_past r w.holds z x xs (value_count r (take v vs)) h.0)) (value_handed r vs zs xs v y h.1 e has)

  values_counted : (r : Rate) (vs : List Variable) (zs : List Passed) (xs : List Register) → AreHanded a c vs zs xs → length (numbers (class_at r) xs) ≡ value_count r vs
  values_counted r [] [] [] h = refl
  values_counted r [] [] (x ∷ xs) h = absurd h
  values_counted r [] (z ∷ zs) xs h = absurd h
  values_counted r (w ∷ vs) [] xs h = absurd h
  values_counted r (w ∷ vs) (z ∷ zs) [] h = absurd h
  values_counted r (w ∷ vs) (z ∷ zs) (x ∷ xs) h = value_longer r w.holds z x xs (value_count r vs) h.0 (values_counted r vs zs xs h.1)

  nothing_past : (vs : List Variable) (zs : List Passed) (xs : List Register) (v : ℕ) → AreHanded a c vs zs xs → slice_get vs v ≡ None → slice_get zs v ≡ None
  nothing_past [] [] xs v h e = refl
  nothing_past [] (z ∷ zs) xs v h e = absurd h
  nothing_past (w ∷ vs) [] xs v h e = absurd h
  nothing_past (w ∷ vs) (z ∷ zs) [] v h e = absurd h
  nothing_past (w ∷ vs) (z ∷ zs) (x ∷ xs) zero h e = absurd (cc)
  nothing_past (w ∷ vs) (z ∷ zs) (x ∷ xs) (suc v) h e = nothing_past vs zs xs v h.1 e

  -- ---- arrays

  record IsArray (o : Option ℕ) (z : Option Passed) : Type 0 where
    number : ℕ
    at : o ≡ Some number
    passed : z ≡ Some (Store (c.home.named number))
    below : c.home.named number < c.home.opened
    few : c.home.sizes (c.home.named number) ≤ 2 ^ 63

  array_first : (y : Held) (e : Elem) (z : Passed) (x : Register) (xs : List Register) → y ≡ holds.Given e → IsHanded a c y z x → IsArray (slice_get (numbers class.Array (x ∷ xs)) 0) (Some z)
  array_first (holds.Value t) e z x xs k h = absurd (cc)
  array_first (holds.Given u) e (Values m) x xs k h = absurd h
  array_first (holds.Given u) e (Store b) x xs k h =
      record {
        number = x.number;
        at = ap (λ q. slice_get (if_number (same_class q class.Array) x.number (numbers class.Array xs)) 0) h.0;
        passed = ap
            (λ q. Some (Store q)) (sym h.1);
        below = subst (λ q. q < c.home.opened) (sym h.1) h.2;
        few = subst (λ q. c.home.sizes q ≤ 2 ^ 63) (sym h.1)
            h.3;
      }
  array_first (holds.Local t n) e z x xs k h = absurd (cc)

  array_past : (p : Parameter) (y : Held) (z : Passed) (x : Register) (xs : List Register) (n : ℕ) → IsParam p y → IsHanded a c y z x → slice_get (numbers class.Array (x ∷ xs)) (array_then p.is_array n) ≡ slice_get (numbers class.Array xs) n
  array_past p (holds.Value t) (Values m) x xs n i h =
      ap (λ b. slice_get (numbers class.Array (x ∷ xs)) (array_then b n)) i.0
      ∙ ap (λ q. slice_get (if_number (same_class q class.Array) x.number (numbers class.Array xs)) n) h.0
      ∙ ap (λ q. slice_get (if_number q x.number (numbers class.Array xs)) n) (no_array t.rate)
  array_past p (holds.Value t) (Store b) x xs n i h = absurd h
  array_past p (holds.Given u) (Values m) x xs n i h = absurd h
  array_past p (holds.Given u) (Store b) x xs n i h =
      ap (λ b. slice_get (numbers class.Array (x ∷ xs)) (array_then b n)) i.0 ∙ ap (λ q. slice_get (if_number (same_class q class.Array) x.number (numbers class.Array xs)) (suc n)) h.0
  array_past p (holds.Local t m) z x xs n i h = absurd i

  array_handed : (ps : List Parameter) (vs : List Variable) (zs : List Passed) (xs : List Register) (v : ℕ) (y : Variable) (e : Elem)
      → AreParams ps vs → AreHanded a c vs zs xs → slice_get vs v ≡ Some y → y.holds ≡ holds.Given e
      → IsArray (slice_get (numbers class.Array xs) (array_count (take v ps))) (slice_get zs v)
  array_handed ps [] zs xs v y e are h g k = absurd (cc)
  array_handed [] (w ∷ vs) zs xs v y e are h g k = absurd are
  array_handed (p ∷ ps) (w ∷ vs) [] xs v y e are h g k = absurd h
  array_handed (p ∷ ps) (w ∷ vs) (z ∷ zs) [] v y e are h g k = absurd h
  array_handed (p ∷ ps) (w ∷ vs) (z ∷ zs) (x ∷ xs) zero y e are h g k = array_first w.holds e z x xs (ap (λ (q : Variable). q.holds) (same_Some w y g) ∙ k) h.0
  array_handed (p ∷ ps) (w ∷ vs) (z ∷ zs) (x ∷ xs) (suc v) y e are h g k =
      subst (λ o. IsArray o (slice_get zs v)) (sym (array_past p w.holds z x xs (array_count (take v ps)) are.0 h.0)) (array_handed ps vs zs xs v y e are.1 h.1 g k)

  -- ---- the parameters' registers

  abbrev pub scalars_of : List Register → ℕ → ℕ
  scalars_of xs r = from 0 c.scalars (slice_get (numbers class.Scalar xs) r)

  abbrev pub vectors_of : Mask → List Register → ℕ → Lanes
  vectors_of m xs r = from (λ p. 0) (λ x. over (on m (c.vectors x)) (λ p. 0)) (slice_get (numbers class.Vector xs) r)

  one_is : (y : Variable) (o : Option ℕ) (z : Option Passed) → HasRate Uniform y.holds → IsValue Uniform o z → from 0 c.scalars o ≡ one_passed (Some y) z
  one_is y o z has v = ap (from 0 c.scalars) v.at ∙ ap sole (sym v.held) ∙ sym (held y.holds has) ∙ ap (one_passed (Some y)) (sym v.passed)
    where
      held : (h : Held) → HasRate Uniform h → (if is_value Uniform h then sole v.value else 0) ≡ sole v.value
      held (holds.Value t) e = ap (λ r. if same_rate Uniform r then sole v.value else 0) e
      held (holds.Given t) e = absurd e
      held (holds.Local t n) e = absurd e

  abbrev lanes_of : Payload → Lanes
  lanes_of (One x) = λ p. 0
  lanes_of (Each x) = over x (λ p. 0)

  each_is : (y : Variable) (o : Option ℕ) (z : Option Passed) → HasRate Varying y.holds → IsValue Varying o z → from (λ p. 0) (λ x. over (on a (c.vectors x)) (λ p. 0)) o ≡ each_passed (Some y) a z
  each_is y o z has v = ap (from (λ p. 0) (λ x. over (on a (c.vectors x)) (λ p. 0))) v.at ∙ ap lanes_of (sym v.held) ∙ sym (held y.holds has) ∙ ap (each_passed (Some y) a) (sym v.passed)
    where
      held : (h : Held) → HasRate Varying h → (if is_value Varying h then over (spread a v.value) (λ p. 0) else (λ p. 0)) ≡ over (spread a v.value) (λ p. 0)
      held (holds.Value t) e = ap (λ r. if same_rate Varying r then over (spread a v.value) (λ p. 0) else (λ p. 0)) e
      held (holds.Given t) e = absurd e
      held (holds.Local t n) e = absurd e

  pub passes : (vs : List Variable) (zs : List Passed) (xs : List Register) (m : Mask) → m ≡ a → AreHanded a c vs zs xs → Passes vs (scalars_of xs) (vectors_of m xs) zs a
  passes vs zs xs m em h = record {
    ones = λ v y e has. one_is y _ (slice_get zs v) has (value_handed Uniform vs zs xs v y h e has);
    each = λ v y e has. ap (λ k. vectors_of k xs (value_count Varying (take v vs))) em ∙ each_is y _ (slice_get zs v) has (value_handed Varying vs zs xs v y h e has);
    ones_end = λ d le. ap (from 0 c.scalars) (none_past (numbers class.Scalar xs) d (omega (arith, le, values_counted Uniform vs zs xs h)));
    each_end = λ d le. ap (from (λ p. 0) (λ x. over (on m (c.vectors x)) (λ p. 0))) (none_past (numbers class.Vector xs) d (omega (arith, le, values_counted Varying vs zs xs h)));
    only = λ v e. nothing_past vs zs xs v h e;
  }
    where
      none_past : (ns : List ℕ) (d : ℕ) → length ns ≤ d → slice_get ns d ≡ None
      none_past [] d le = refl
      none_past (n ∷ ns) zero le = absurd (omega (arith, le))
      none_past (n ∷ ns) (suc d) le = none_past ns d (omega (arith, le))

  -- ---- the parameters' arrays

  -- a variable with the number of a parameter is that parameter
  param_at : (n : ℕ) (ps : List Parameter) (vs : List Variable) (v : ℕ) (p : Parameter) (y : Variable) → AreParams ps (take n vs) → slice_get ps v ≡ Some p → slice_get vs v ≡ Some y → slice_get (take n vs) v ≡ Some y
  param_at n [] vs v p y are e g = absurd (cc)
  param_at zero (q ∷ ps) vs v p y are e g = absurd are
  param_at (suc n) (q ∷ ps) [] v p y are e g = absurd are
  param_at (suc n) (q ∷ ps) (w ∷ vs) zero p y are e g = g
  param_at (suc n) (q ∷ ps) (w ∷ vs) (suc v) p y are e g = param_at n ps vs v p y are.1 e g

  no_param : (ps : List Parameter) (vs : List Variable) (v : ℕ) → AreParams ps vs → slice_get ps v ≡ None → slice_get vs v ≡ None
  no_param [] [] v are e = refl
  no_param [] (w ∷ vs) v are e = absurd are
  no_param (p ∷ ps) [] v are e = absurd are
  no_param (p ∷ ps) (w ∷ vs) zero are e = absurd (cc)
  no_param (p ∷ ps) (w ∷ vs) (suc v) are e = no_param ps vs v are.1 e

  abbrev pub names_of : List Register → ℕ → ℕ
  names_of xs k = from 0 c.home.named (slice_get (numbers class.Array xs) k)

  pub opens : (h : TFunction) (g : Routine) (l : Layout) (zs : List Passed) (xs : List Register) (caller : Frame) → ArraysStand h g l
      → AreParams h.parameters (params_of h) → AreHanded a c (params_of h) zs xs → c.home.opened ≡ caller.opened → c.home.sizes ≡ caller.sizes
      → Opens h (names_of xs) zs caller
  opens h g l zs xs caller stand are hands eo es = record {
    given = λ v y e ey k.
        let is = stand.given v y e ey k in
        let one = array_handed h.parameters (params_of h) zs xs v y e are hands (param_at (length h.params) h.parameters h.variables v is.0 y are is.1 ey) k in
        let named : names_of xs (array_count (take v h.parameters)) ≡ c.home.named one.number = ap (from 0 c.home.named) one.at in
        record {
          store = one.passed ∙ ap (λ z. Some (Store z)) (sym named);
          below = subst (λ z. z < caller.opened) (sym named) (subst (λ z. c.home.named one.number < z) eo one.below);
          few = subst (λ z. caller.sizes z ≤ 2 ^ 63) (sym named) (subst (λ z. z (c.home.named one.number) ≤ 2 ^ 63) es one.few);
        };
    local = λ v none. nothing_past (params_of h) zs xs v hands (no_param h.parameters (params_of h) v are none);
  }
