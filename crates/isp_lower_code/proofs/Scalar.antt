-- The code of a scalar expression does what it means: in a setting that is the same but for the function's variables, of which each known one is
-- uniform, and in a state in which it has its scalar.
use Rattle.std.proofs.Common.{◌≡◌, ℕ, zero, suc, ◌+◌, List, [], ◌∷◌, length, Option, Some, None, Bool, true, false, refl, sym, ap, ◌∙◌, subst, arith}
use Rattle.std.specs.Prelude.{◌||◌, if◌then◌else◌, slice_get}
use Rattle.std.proofs.lemmas.Option.{same_Some}
use Rattle.isp_base.specs.Sets.{Mask}
use Rattle.isp_base.specs.declared.trap.Trap.{Trap}
use Rattle.isp_base.specs.declared.types.Elem.{Elem}
use Rattle.isp_base.specs.declared.types.Rate.{Rate}
use Rattle.isp_base.specs.declared.types.Rate.TheVariants.{Uniform, Varying}
use Rattle.isp_base.specs.declared.types.Span.{Span}
use Rattle.isp_base.specs.declared.types.Ty.{Ty}
use Rattle.isp_code.specs.Conf.{Conf}
use Rattle.isp_code.specs.declared.instr.Call.{Call}
use Rattle.isp_typed.specs.Fine.{FineExpr, HoldsArray, array_type}
use Rattle.isp_typed.specs.Typed.{TExpr, TFunction, elem_of, ty_of, type_of}
use Rattle.isp_typed.specs.declared.variable.ArrayVariable.{ArrayVariable}
use Rattle.isp_typed.specs.declared.variable.Holds.{Holds as Held}
use Rattle.isp_typed.specs.declared.variable.Holds.TheVariants as holds
use Rattle.isp_typed.specs.declared.variable.Variable.{Variable}
use Rattle.isp_meaning.specs.Expressions.{Passed, value}
use Rattle.isp_meaning.specs.Outcomes.{Val, Gives, Fails, Stops}
use Rattle.isp_meaning.specs.Payloads.{Payload, One, sole}
use Rattle.isp_meaning.specs.State.{State}
use Rattle.isp_steady.specs.Known.{Known, Unknown, Steady, Linear, is_known, AreAsKnown}
use Rattle.isp_steady.specs.Steady.{steady}
use Rattle.isp_steady.specs.Linear.{linear}
use Rattle.isp_steady.specs.Alone.{alone, lent}
use Rattle.isp_steady.specs.Singled.{held_single, as_known, singled}
use Rattle.isp_steady.specs.Values.{Sole, Comes, Traps, over_set, IsOne, IsCounted, ComesTo, SameForAll}
use Rattle.isp_steady.proofs.Lemmas.{array_fine, linear_counts_on, scalars_are_fine, singled_at, steady_gives_one, steady_rate, linear_rate}
use Rattle.isp_lower_code.specs.Asks.{Ask, expr_asks}
use Rattle.isp_lower_code.specs.Code.{expr_code}
use Rattle.isp_lower_code.specs.Fits.{ExprFits, InTable}
use Rattle.isp_lower_code.specs.Layout.{HasNoRows, KnowsNothing}
use Rattle.isp_lower_code.specs.RowCode.{row_index_asks}
use Rattle.isp_lower_code.specs.Found.{found}
use Rattle.isp_lower_code.specs.Runs.{Enters, Failed, Runs}
use Rattle.isp_lower_code.specs.Scalar.{AreVarying, IsBy, ScalarsHold}
use Rattle.isp_lower_code.specs.Setting.{ArrayFits, ArrayFitsAt, AreAt, Holds, IsCalling, IsSettled, IsUniform, IsVarying, Setting, Stands, calls_of, gang_of, is_constant}
use Rattle.isp_lower_code.specs.Spans.{expr_places}
use Rattle.isp_lower_code.specs.Tables.{AnyMask, IsLoadedIn, IsNamedIn}
use Rattle.isp_lower_code.proofs.Base.{not_both}
use Rattle.isp_lower_code.proofs.Begins.{all_grow}
use Rattle.isp_lower_code.proofs.Exprs.{expr_runs}
use Rattle.isp_lower_code.proofs.Fitting.{expr_parts}
use Rattle.isp_lower_code.proofs.Fixed.{unknown_holds}
use Rattle.isp_lower_code.proofs.Found.{few}
use Rattle.isp_lower_code.proofs.ScalarRates.{alone_rated}

-- ---- the variables, of which each known one is uniform

singled_from : (known : ℕ → Known) (vars : List Variable) (v : ℕ) (y : Variable) → slice_get (singled known vars) v ≡ Some y → (x : Variable) × (slice_get vars v ≡ Some x) × (as_known (known v) x ≡ y)
singled_from known [] v y e = absurd (cc)
singled_from known (x ∷ xs) zero y e = (x, refl, same_Some _ y e)
singled_from known (x ∷ xs) (suc v) y e = singled_from (λ i. known (suc i)) xs v y e

array_back : (h : Held) (t : Ty) → array_type (held_single h) ≡ Some t → array_type h ≡ Some t
array_back (holds.Value u) t e = e
array_back (holds.Given f) t e = e
array_back (holds.Local u n) t e = e

array_known : (k : Known) (x : Variable) (t : Ty) → array_type (as_known k x).holds ≡ Some t → array_type x.holds ≡ Some t
array_known Unknown x t e = e
array_known Steady x t e = array_back x.holds t e
array_known Linear x t e = array_back x.holds t e

same_constant : (k : Known) (x : Variable) → (as_known k x).constant ≡ x.constant
same_constant Unknown x = refl
same_constant Steady x = refl
same_constant Linear x = refl

-- a value that is uniform stays so, and one that is known becomes so
still_one : (k : Known) (t : Elem) (c : Bool) → as_known k (record { holds = holds.Value (ty_of Uniform t); constant = c }) ≡ record { holds = holds.Value (ty_of Uniform t); constant = c }
still_one Unknown t c = refl
still_one Steady t c = refl
still_one Linear t c = refl

then_one : (k : Known) (t : Elem) (c : Bool) → is_known k ≡ true → as_known k (record { holds = holds.Value (ty_of Varying t); constant = c }) ≡ record { holds = holds.Value (ty_of Uniform t); constant = c }
then_one Unknown t c e = absurd (cc)
then_one Steady t c e = refl
then_one Linear t c e = refl

module _ (known : ℕ → Known) (vars : List Variable) where
  one_stays : (v : ℕ) → IsUniform vars v → IsUniform (singled known vars) v
  one_stays v h = (h.0, record { constant = h.1.constant; is = singled_at known vars v _ h.1.is ∙ ap Some (still_one (known v) h.0 h.1.constant) })

  known_one : (v : ℕ) → is_known (known v) ≡ true → IsVarying vars v → IsUniform (singled known vars) v
  known_one v e h = (h.0, record { constant = h.1.constant; is = singled_at known vars v _ h.1.is ∙ ap Some (then_one (known v) h.0 h.1.constant e) })

  varying_stays : (v : ℕ) → known v ≡ Unknown → IsVarying vars v → IsVarying (singled known vars) v
  varying_stays v e h = (h.0, record { constant = h.1.constant; is = singled_at known vars v _ h.1.is ∙ ap (λ k. Some (as_known k (record { holds = holds.Value (ty_of Varying h.0); constant = h.1.constant }))) e })

  pub one_was : (v : ℕ) → known v ≡ Unknown → IsUniform (singled known vars) v → IsUniform vars v
  one_was v e h =
      let from = singled_from known vars v _ h.1.is in
      (h.0, record { constant = h.1.constant; is = from.1 ∙ ap Some (ap (λ k. as_known k from.0) (sym e) ∙ from.2) })

  array_was : (b : ArrayVariable) → HoldsArray (singled known vars) b → HoldsArray vars b
  array_was b h =
      let from = singled_from known vars b.number h.variable h.is in
      record {
        variable = from.0;
        is = from.1;
        ty = array_known (known b.number) from.0 b.ty (ap (λ (z : Variable). array_type z.holds) from.2 ∙ h.ty);
        constant = h.constant ∙ sym (ap (λ (z : Variable). z.constant) from.2) ∙ same_constant (known b.number) from.0;
      }

  constant_stays : (v : ℕ) → is_constant (slice_get vars v) ≡ true → is_constant (slice_get (singled known vars) v) ≡ true
  constant_stays v h = go (slice_get vars v) refl h
    where
      go : (o : Option Variable) → slice_get vars v ≡ o → is_constant o ≡ true → is_constant (slice_get (singled known vars) v) ≡ true
      go None e c = absurd (cc)
      go (Some x) e c = ap is_constant (singled_at known vars v x e) ∙ same_constant (known v) x ∙ c

-- ---- the call with these variables

abbrev pub singled_in : Setting → (ℕ → Known) → Setting
singled_in w known = record w { function = record w.function { variables = singled known w.function.variables } }

module _ (w : Setting) (known : ℕ → Known) where
  arrays_at : (r : Rate) (b : ArrayVariable) → ArrayFitsAt w r b → ArrayFitsAt (singled_in w known) r b
  arrays_at Uniform b f = f
  arrays_at Varying b f = f

  array_fits : (b : ArrayVariable) → ArrayFits w b → ArrayFits (singled_in w known) b
  array_fits b f = record { is = arrays_at b.ty.rate b f.is; below = f.below; few = f.few }

  calling : (i : Call) (g : TFunction) (pc q : ℕ) (sp : Span) (a : Mask) (ps : List Passed) (s : State) (c : Conf) → IsCalling (singled_in w known) i g pc q sp a ps s c → IsCalling w i g pc q sp a ps s c
  calling i g pc q sp a ps s c f =
      record { function = f.function; here = f.here; place = f.place; at = f.at; mask = f.mask; some = f.some; inside = f.inside; hands = f.hands; result = f.result; arrays_are = f.arrays_are; out_is = f.out_is; used = f.used }

  pub table : (a : Ask) → InTable w a → InTable (singled_in w known) a
  table a f =
      let held = λ (b : ArrayVariable) (h : HoldsArray w.function.variables b). array_fine w.program.functions w.function.variables known b h in
      all_grow (IsNamedIn w.routine w.layout) (IsNamedIn w.routine w.layout) (HoldsArray w.function.variables)
      (HoldsArray (singled known w.function.variables)) (HoldsArray w.function.variables) (HoldsArray (singled known w.function.variables)) AnyMask
      AnyMask (IsLoadedIn w.layout) (IsLoadedIn w.layout) (λ r x t h. h) held held (λ k h. h) (λ v h. h) a f

  pub settled : IsSettled w → HasNoRows w.layout → KnowsNothing w.layout → IsSettled (singled_in w known)
  settled f none nothing =
      record {
        gang = f.gang;
        found = f.found;
        apart = f.apart;
        rates = f.rates;
        deep = f.deep;
        answer = f.answer;
        opened = f.opened;
        sizes = f.sizes;
        arrays = λ b held. array_fits b (f.arrays b (array_was known w.function.variables b held));
        calls = λ i g pc q sp a ps s c calls. f.calls i g pc q sp a ps s c (calling i g pc q sp a ps s c calls);
        counter = λ i is.
            let k = f.counter i is in
            record { typed = k.typed; constant = constant_stays known w.function.variables i k.constant; unloaded = k.unloaded };
        known = λ v is. let no : true ≡ false = sym is ∙ ap is_known (nothing v) in absurd (cc);
        constants = f.constants;
        rows = λ i n fine is. let no : true ≡ false = sym is ∙ none i n in absurd (cc);
        sets = λ rs is. let m = f.sets rs is in record { apart = m.apart; typed = m.typed; unloaded = m.unloaded; there = λ i n e. table (row_index_asks i n) (m.there i n e) };
      }

  -- ---- the machine stands for a state there, and here

  module _ (nothing : KnowsNothing w.layout) (scalars : ℕ → ℕ) (s : State) (c : Conf) where
    abbrev either : (v : ℕ) → Known → ℕ
    either v k = if is_known k then scalars v else s.uniforms v

    stands_there : Stands w s c → ScalarsHold w.layout known scalars c → Stands (singled_in w known) (lent known scalars s) c
    stands_there f hold =
        record { uniforms = λ v is. one v is (known v) refl; varying = f.varying; result = f.result; results = f.results; own_arrays = f.own_arrays; arrays_are = f.arrays_are; out_is = f.out_is; run = f.run; known = unknown_holds (singled known w.function.variables) w.layout w.members c.scalars s.varying nothing; constants = f.constants }
      where
        one : (v : ℕ) → IsUniform (singled known w.function.variables) v → (k : Known) → known v ≡ k → c.scalars (w.layout.variable Uniform v) ≡ either v (known v)
        one v is Unknown e = f.uniforms v (one_was known w.function.variables v e is) ∙ sym (ap (either v) e)
        one v is Steady e = hold v (ap is_known e) ∙ sym (ap (either v) e)
        one v is Linear e = hold v (ap is_known e) ∙ sym (ap (either v) e)

    stands_here : AreVarying w.function.variables known → Stands (singled_in w known) (lent known scalars s) c → Stands w s c
    stands_here vary f =
        record { uniforms = λ v is. f.uniforms v (one_stays known w.function.variables v is) ∙ other v is (known v) refl; varying = f.varying; result = f.result; results = f.results; own_arrays = f.own_arrays; arrays_are = f.arrays_are; out_is = f.out_is; run = f.run; known = unknown_holds w.function.variables w.layout w.members c.scalars s.varying nothing; constants = f.constants }
      where
        other : (v : ℕ) → IsUniform w.function.variables v → (k : Known) → known v ≡ k → either v (known v) ≡ s.uniforms v
        other v is Unknown e = ap (either v) e
        other v is Steady e = absurd (not_both w.function.variables v (vary v (ap is_known e)) is)
        other v is Linear e = absurd (not_both w.function.variables v (vary v (ap is_known e)) is)

    scalars_here : AreVarying w.function.variables known → Stands (singled_in w known) (lent known scalars s) c → ScalarsHold w.layout known scalars c
    scalars_here vary f v e =
        f.uniforms v (known_one known w.function.variables v e (vary v e)) ∙ ap (λ b. if b then scalars v else s.uniforms v) e

  -- ---- the code runs

  module _ (ready : IsSettled w) (none : HasNoRows w.layout) (nothing : KnowsNothing w.layout) (scalars : ℕ → ℕ) (x : TExpr) where
    abbrev there : Setting
    there = singled_in w known

    abbrev Scalar : ℕ → Mask → Payload → Conf → Type 0
    Scalar n a m c = IsBy (steady known x) (elem_of x) a (c.scalars (found w.layout (alone x) n)) m × ScalarsHold w.layout known scalars c

    one_held : (r : Rate) (a : Mask) (d u : ℕ) (c : Conf) → r ≡ Uniform → Holds r a d (One u) c → u ≡ c.scalars d
    one_held Uniform a d u c e h = ap sole h
    one_held Varying a d u c e h = absurd (cc)

    failed_here : (c : Conf) (q : ℕ) (t : Trap) (s : State) → Failed there c q t (lent known scalars s) → Failed w c q t s
    failed_here c q t s f = record { conf = f.conf; steps = f.steps; fails = f.fails; arrays_are = f.arrays_are; out_is = f.out_is; bound = f.bound }

    module _ (vary : AreVarying w.function.variables known) (uniform : (type_of (alone x)).rate ≡ Uniform) (c : Conf) (end n q : ℕ) (a : Mask)
        (hold : ScalarsHold w.layout known scalars c) (Is : Mask → ℕ → Payload → Type 0) (to : (u : ℕ) (m : Payload) → Is a u m → IsBy (steady known x) (elem_of x) a u m) where
      came : (o : Sole) (v : Val Payload) → ComesTo (gang_of w) Is a o v
          → Runs there c end n q (Holds (type_of (alone x)).rate a (found w.layout (alone x) n)) (over_set (gang_of w) (lent known scalars) a o)
          → Runs w c end n q (Scalar n a) v
      came (Comes u s) (Gives m s1) h r =
          let is : u ≡ r.conf.scalars (found w.layout (alone x) n) = one_held (type_of (alone x)).rate a (found w.layout (alone x) n) u r.conf uniform r.holds in
          subst (λ z. Runs w c end n q (Scalar n a) (Gives m z)) (sym h.1)
          (record {
            conf = r.conf;
            steps = r.steps;
            comes = r.comes;
            at = r.at;
            stands = stands_here nothing scalars s r.conf vary r.stands;
            spares = r.spares;
            masks = r.masks;
            holds = (subst (λ z. IsBy (steady known x) (elem_of x) a z m) is (to u m h.0), scalars_here nothing scalars s r.conf vary r.stands);
            bound = r.bound;
          })
      came (Comes u s) (Fails t s1) h r = absurd h
      came (Comes u s) (Stops s1) h r = absurd h
      came (Traps kind place s) v h r = subst (Runs w c end n q (Scalar n a)) (sym h) (failed_here c q _ s r)

    pub scalar_runs : (pc p k n q : ℕ) (a : Mask) (s : State) (c : Conf) → FineExpr w.program.functions w.function.variables x
        → (steady known x || linear known x) ≡ true → AreVarying w.function.variables known → InTable w (expr_asks (alone x) n)
        → AreAt w.routine.code pc (expr_code w.layout (alone x) pc p k n) → AreAt w.code.places p (expr_places w.layout (alone x))
        → AreAsKnown w.function.variables known scalars a s → ScalarsHold w.layout known scalars c → Enters w pc k n a s c q
        → Runs w c (pc + length (expr_code w.layout (alone x) pc p k n)) n (4 + q) (Scalar n a) (value (gang_of w) w.frame (calls_of w) x a s)
    scalar_runs pc p k n q a s c fine is vary named has places are hold b = go (steady known x) refl is
      where
        end : ℕ
        end = pc + length (expr_code w.layout (alone x) pc p k n)

        fits : ExprFits there (alone x) n
        fits = record { fine = (scalars_are_fine w.program.functions w.function.variables known x fine is).0; rated = alone_rated w.program.functions known x is; named = table (expr_asks (alone x) n) named }

        enters : Enters there pc k n a (lent known scalars s) c q
        enters = record { at = b.at; mask = b.mask; some = b.some; inside = b.inside; stands = stands_there nothing scalars s c b.stands hold; used = b.used; low = b.low }

        runs : Runs there c end n (4 + q) (Holds (type_of (alone x)).rate a (found w.layout (alone x) n)) (value (gang_of w) w.frame (calls_of w) (alone x) a (lent known scalars s))
        runs =
            let parts = expr_parts there (alone x) n fits in
            expr_runs there (settled ready none nothing) (alone x) pc p k n q (4 + q) a (lent known scalars s) c parts has places (omega (arith, few there (alone x) n parts)) enters

        by : (Is : Mask → ℕ → Payload → Type 0) → ((u : ℕ) (m : Payload) → Is a u m → IsBy (steady known x) (elem_of x) a u m) → (type_of (alone x)).rate ≡ Uniform
            → SameForAll (gang_of w) w.frame (calls_of w) known scalars x Is a s
            → Runs w c end n (4 + q) (Scalar n a) (value (gang_of w) w.frame (calls_of w) x a s)
        by Is to uniform same =
            came vary uniform c end n (4 + q) a hold Is to same.0 (value (gang_of w) w.frame (calls_of w) x a s) (same.1 a (λ i h. h) b.some)
            (subst (Runs there c end n (4 + q) (Holds (type_of (alone x)).rate a (found w.layout (alone x) n))) (same.2 a b.some) runs)

        go : (d : Bool) → steady known x ≡ d → (d || linear known x) ≡ true → Runs w c end n (4 + q) (Scalar n a) (value (gang_of w) w.frame (calls_of w) x a s)
        go true e h =
            by IsOne (λ u m g. subst (λ d. IsBy d (elem_of x) a u m) (sym e) g) (steady_rate known x e)
            (steady_gives_one (gang_of w) w.function.variables w.frame (calls_of w) known scalars x a s e are)
        go false e h =
            by (IsCounted (elem_of x)) (λ u m g. subst (λ d. IsBy d (elem_of x) a u m) (sym e) g) (linear_rate known x h)
            (linear_counts_on w.code.gang w.program.functions w.function.variables w.frame (calls_of w) known scalars x a s fine h (λ i g. (b.inside i g).0) are)
