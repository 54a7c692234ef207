-- What stays of the shared arrays and of the output: a run beside itself, where something holds of these two.
use Rattle.std.proofs.Common.{◌≡◌, ℕ, ◌<◌, true, refl, ap, subst, arith}
use Rattle.std.proofs.lemmas.Bool.Decides.{nat_tests}
use Rattle.std.specs.Prelude.{◌+◌, ◌++◌, List, Option, Some, None, nat_lt, if◌then◌else◌, ℤ}
use Rattle.isp_base.specs.Sets.{Mask, any}
use Rattle.isp_base.specs.declared.types.Elem.{Elem}
use Rattle.isp_base.specs.declared.types.Rate.{Rate}
use Rattle.isp_base.specs.declared.types.Rate.TheVariants.{Uniform, Varying}
use Rattle.isp_base.specs.declared.types.Span.{Span}
use Rattle.isp_base.specs.declared.types.Ty.{Ty}
use Rattle.isp_typed.specs.declared.variable.ArrayVariable.{ArrayVariable}
use Rattle.isp_typed.specs.Typed.{TExpr, type_of}
use Rattle.isp_meaning.specs.Calls.{ended}
use Rattle.isp_meaning.specs.Expressions.{Passed, Values, Store, Calls, packed_held, packed_kept, value}
use Rattle.isp_meaning.specs.Outcomes.{Val, Gives, Fails, Stops, Res, Went, Trapped, Cut}
use Rattle.isp_meaning.specs.Payloads.{Payload}
use Rattle.isp_meaning.specs.Places.{held, written, with_elements}
use Rattle.isp_meaning.specs.Runs.{state_of}
use Rattle.isp_meaning.specs.Simple.{cleared}
use Rattle.isp_meaning.specs.State.{State, Frame, below}
use Rattle.isp_meaning.specs.Statements.{answered, answered_at}
use Rattle.isp_meaning_laws.specs.Acts.{Act, At, Packed, Whole, Handed, Called, Printed}
use Rattle.isp_meaning_laws.specs.Stays.{left_by}
use Rattle.isp_meaning_laws.proofs.Twins.{Free, Part, OutBy, Twin, TwinRes}
use Rattle.isp_meaning_laws.proofs.TwinValues.{AllOf, FineBy, Ground}

-- K holds of the arrays and the output
module _ (gang : ℕ) (m : Mask) (K : (ℕ → ℕ → ℕ) → List ℕ → Type 0) where
  abbrev pub Has : State → Type 0
  Has s = K s.arrays s.out

  abbrev pub Stay : State → State → Type 0
  Stay s t = (s ≡ t) × Has s

  -- ---- what it rests on, of a frame and its calls

  module _ (frame : Frame) (calls : Calls) (P : Act → Type 0) (G : Passed → Type 0) where
    abbrev pub Safe : ArrayVariable → Elem → Mask → Payload → Type 0
    Safe b e a i = (x : Payload) (s : State) → Has s → Has (with_elements frame b e i a gang b.ty.rate x s)

    abbrev pub SafeBy : ArrayVariable → Elem → Mask → Val Payload → Type 0
    SafeBy b e a (Gives i s) = Safe b e a i
    SafeBy b e a (Fails d s) = Unit {0}
    SafeBy b e a (Stops s) = Unit {0}

    pub record Leaves : Type 0 where
      pub stores : (b : ArrayVariable) (i : TExpr) → P (At b i) → (a : Mask) (s : State) → Part m a → any gang a ≡ true → SafeBy b (type_of i).elem a (value gang frame calls i a s)
      pub run_stores : (b : ArrayVariable) → P (Packed b) → (z : ℤ) (a : Mask) (x : Payload) (s : State) → Has s → Has (packed_kept gang (frame.named b.number) z a x s)
      pub clears : (b : ArrayVariable) → P (Whole b) → (a : Mask) (s : State) → Has s → Has (cleared frame b.ty.rate b.number a s)
      pub prints : P Printed → (w : List ℕ) (s : State) → Has s → K s.arrays (s.out ++ w)
      pub gives_value : (x : Payload) → G (Values x)
      pub hands : (b : ArrayVariable) → P (Handed b) → G (Store (frame.named b.number))
      pub asks : (f : ℕ) → P (Called f) → (sp : Span) (a : Mask) (xs : List Passed) (s : State) → AllOf G xs → Part m a → any gang a ≡ true → Has s → Twin m Stay Free (calls f sp a xs frame s) (calls f sp a xs frame s)
      pub outs : (x : TExpr) (a : Mask) (s : State) → Part m a → OutBy m (value gang frame calls x a s)

    written_has : (r : Rate) (v : ℕ) (a : Mask) (x : Payload) (s : State) → Has s → Has (written r v a x s)
    written_has Uniform v a x s h = h
    written_has Varying v a x s h = h

    answered_has : (o : Option Ty) (a : Mask) (x : Payload) (s : State) → Has s → Has (answered o a x s)
    answered_has None a x s h = h
    answered_has (Some k) a x s h = by k.rate where
      by : (r : Rate) → Has (answered_at r a x s)
      by Uniform = h
      by Varying = h

    fine_by : (b : ArrayVariable) (e : Elem) (a : Mask) (v : Val Payload) → SafeBy b e a v → FineBy gang frame calls calls m P G Stay b e a v
    fine_by b e a (Gives i s) h = λ x s1 t1 l. (ap (λ z. with_elements frame b e i a gang b.ty.rate x z) l.0, h x s1 l.1)
    fine_by b e a (Fails d s) h = tt
    fine_by b e a (Stops s) h = tt

    worked : (k : ℕ) (s t : State) → s ≡ t → record s { work = s.work + k } ≡ record t { work = t.work + k }
    worked k s t e = ap (λ (z : State). by z) e where
      by : State → State
      by z = record z { work = z.work + k }

    printed : (w : List ℕ) (s t : State) → s ≡ t → record s { out = s.out ++ w } ≡ record t { out = t.out ++ w }
    printed w s t e = ap (λ (z : State). by z) e where
      by : State → State
      by z = record z { out = z.out ++ w }

    pub grounded : Leaves → Ground gang frame calls calls m P G Stay
    grounded it =
        record {
          works = λ k s t l. (worked k s t l.0, l.1);
          holds = λ q a s t _ _ l. ap (held gang frame q a) l.0;
          writes = λ r v a x s t _ l. (ap (λ z. written r v a x z) l.0, written_has r v a x s l.1);
          stores = λ b i p a s sub e. fine_by b (type_of i).elem a _ (it.stores b i p a s sub e);
          run_holds = λ k z a s t l. ap (λ u. packed_held k z a u) l.0;
          run_stores = λ b p z a x s t l. (ap (λ u. packed_kept gang (frame.named b.number) z a x u) l.0, it.run_stores b p z a x s l.1);
          clears = λ b p a s t _ l. (ap (λ u. cleared frame b.ty.rate b.number a u) l.0, it.clears b p a s l.1);
          answers = λ a x s t _ l. (ap (λ u. answered frame.answer a x u) l.0, answered_has frame.answer a x s l.1);
          prints = λ p w s t l. (printed w s t l.0, it.prints p w s l.1);
          gives_value = it.gives_value;
          hands = it.hands;
          asks = λ f p sp a xs s t k sub e l. subst (λ u. Twin m Stay Free (calls f sp a xs frame s) (calls f sp a xs frame u)) l.0 (it.asks f p sp a xs s k sub e l.1);
          outs = it.outs;
        }

  -- ---- the end of a call, and of code

  pub ended_kept : (o : Option Ty) (caller : Frame) (a : Mask) (s : State) (v : Res) → ((arrays : ℕ → ℕ → ℕ) (out : List ℕ) → K arrays out → K (below caller.opened arrays) out) → TwinRes m Stay v v
      → Twin m Stay Free (ended o caller a s v) (ended o caller a s v)
  ended_kept o caller a s (Went s1 g b c r) k h = record { by = (refl, tt, (refl, k s1.arrays s1.out h.by.1.1)) }
  ended_kept o caller a s (Trapped e s1) k h = record { by = h.by }
  ended_kept o caller a s (Cut s1) k h = record { by = h.by }

  pub value_has : (v : Val Payload) → Twin m Stay Free v v → Has (state_of v)
  value_has (Gives x s) h = h.by.2.1
  value_has (Fails e s) h = h.by.1.1
  value_has (Stops s) h = h.by.1

  pub run_has : (v : Res) → TwinRes m Stay v v → Has (left_by v)
  run_has (Went s g b c r) h = h.by.1.1
  run_has (Trapped e s) h = h.by.1.1
  run_has (Cut s) h = h.by.1

-- the open stores are as they are
pub below_is : (n : ℕ) (arrays : ℕ → ℕ → ℕ) (k e : ℕ) → k < n → below n arrays k e ≡ arrays k e
below_is n arrays k e lt = let t : nat_lt k n ≡ true = grind (arith, lt, nat_tests) in ap (λ b. (if b then arrays k else (λ d. 0)) e) t
