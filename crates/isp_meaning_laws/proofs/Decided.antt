-- The members of a set decide what code comes to over it: from states that are alike for the set the same comes.
use Rattle.std.proofs.Common.{◌≡◌, ℕ, zero, suc, inl, inr, Bool, true, false, refl, sym, ap, ap₂, ◌∙◌, subst, true≢false}
use Rattle.std.proofs.Math.Path.{fun_ext}
use Rattle.std.specs.Prelude.{◌+◌, ◌++◌, List, Option, Some, None, nat_eq, slice_get, if◌then◌else◌, unsigned_abs}
use Rattle.isp_base.specs.Access.{element, scatter}
use Rattle.isp_base.specs.Cross.{packed_index, packed_places}
use Rattle.isp_base.specs.Maps.{Lanes, on, or_old, each1, holds, put}
use Rattle.isp_base.specs.Sets.{Mask, any}
use Rattle.isp_base.specs.Types.{gang_width}
use Rattle.isp_base.specs.declared.types.Elem.{Elem}
use Rattle.isp_base.specs.declared.types.Rate.{Rate}
use Rattle.isp_base.specs.declared.types.Rate.TheVariants.{Uniform, Varying}
use Rattle.isp_base.specs.declared.types.Span.{Span}
use Rattle.isp_base.specs.declared.types.Ty.{Ty}
use Rattle.isp_typed.specs.declared.variable.ArrayVariable.{ArrayVariable}
use Rattle.isp_typed.specs.Typed.{TExpr, TStmt, TFunction, Program, type_of}
use Rattle.isp_meaning.specs.Calls.{begun, ended, called, calls_at, frame_of}
use Rattle.isp_meaning.specs.Expressions.{Passed, Calls, value}
use Rattle.isp_meaning.specs.Laws.{LeavesBy}
use Rattle.isp_meaning.specs.Outcomes.{Val, Gives, Fails, Stops, Res, Went, Trapped, Cut}
use Rattle.isp_meaning.specs.Payloads.{Payload, One, Each, mapped, sole, spread}
use Rattle.isp_meaning.specs.Places.{Place, Variable, Element, held, variable, elements, written, with_elements, stored}
use Rattle.isp_meaning.specs.Simple.{cleared}
use Rattle.isp_meaning.specs.State.{State, Frame}
use Rattle.isp_meaning.specs.Statements.{run, block, answered, answered_at}
use Rattle.isp_meaning.proofs.Others.{others_stay}
use Rattle.isp_meaning.proofs.Parts.{four_sets}
use Rattle.isp_meaning_laws.specs.Acts.{Act}
use Rattle.isp_meaning_laws.specs.Decides.{Alike, SameValue, SameEnd, SameWithMembers, MembersDecide, NobodyRuns, Ways}
use Rattle.isp_meaning_laws.proofs.MemberSets.{parts_in, PartsIn}
use Rattle.isp_meaning_laws.proofs.Twins.{Free, Part, Out, OutBy, PartBy, Twin, TwinRes}
use Rattle.isp_meaning_laws.proofs.TwinValues.{PlaceOut, FineBy, Ground, value_same}
use Rattle.isp_meaning_laws.proofs.TwinRuns.{run_same}

module _ (m : Mask) where
  -- ---- states that are alike stay so

  same : (s : State) → Alike m s s
  same s =
      record { uniforms = refl; varying = λ v p _. refl; own = λ v e p _. refl; result = refl; results = λ p _. refl; arrays = refl; out = refl; work = refl }

  works : (k : ℕ) (s t : State) → Alike m s t → Alike m (record s { work = s.work + k }) (record t { work = t.work + k })
  works k s t l =
      record { uniforms = l.uniforms; varying = l.varying; own = l.own; result = l.result; results = l.results; arrays = l.arrays; out = l.out; work = ap (λ z. z + k) l.work }

  prints : (w : List ℕ) (s t : State) → Alike m s t → Alike m (record s { out = s.out ++ w }) (record t { out = t.out ++ w })
  prints w s t l =
      record { uniforms = l.uniforms; varying = l.varying; own = l.own; result = l.result; results = l.results; arrays = l.arrays; out = ap (λ z. z ++ w) l.out; work = l.work }

  stores : (f : (ℕ → ℕ → ℕ) → ℕ → ℕ → ℕ) (s t : State) → Alike m s t → Alike m (record s { arrays = f s.arrays }) (record t { arrays = f t.arrays })
  stores f s t l =
      record { uniforms = l.uniforms; varying = l.varying; own = l.own; result = l.result; results = l.results; arrays = ap f l.arrays; out = l.out; work = l.work }

  put_lane : (f g : ℕ → Lanes) (d : ℕ) (x y : Lanes) (p : ℕ) → x p ≡ y p → ((w : ℕ) → f w p ≡ g w p) → (w : ℕ) → put f d x w p ≡ put g d y w p
  put_lane f g d x y p e h w = go (nat_eq w d) where
    go : (t : Bool) → (if t then x else f w) p ≡ (if t then y else g w) p
    go true = e
    go false = h w

  put_own : (f g : ℕ → ℕ → Lanes) (d : ℕ) (x y : ℕ → Lanes) (p : ℕ) → ((e : ℕ) → x e p ≡ y e p) → ((w e : ℕ) → f w e p ≡ g w e p) → (w e : ℕ) → put f d x w e p ≡ put g d y w e p
  put_own f g d x y p h k w e = go (nat_eq w d) where
    go : (t : Bool) → (if t then x else f w) e p ≡ (if t then y else g w) e p
    go true = h e
    go false = k w e

  writes : (r : Rate) (v : ℕ) (a : Mask) (x : Payload) (s t : State) → Part m a → Alike m s t → Alike m (written r v a x s) (written r v a x t)
  writes Uniform v a x s t sub l =
      record { uniforms = ap (λ u. put u v (sole x)) l.uniforms; varying = l.varying; own = l.own; result = l.result; results = l.results; arrays = l.arrays; out = l.out; work = l.work }
  writes Varying v a x s t sub l =
      record {
        uniforms = l.uniforms;
        varying = λ w p i. put_lane s.varying t.varying v _ _ p (ap (or_old (spread a x p)) (l.varying v p i)) (λ u. l.varying u p i) w;
        own = l.own;
        result = l.result;
        results = l.results;
        arrays = l.arrays;
        out = l.out;
        work = l.work;
      }

  owns : (v : ℕ) (x y : ℕ → Lanes) (s t : State) → Alike m s t → ((e p : ℕ) → m p ≡ true → x e p ≡ y e p) → Alike m (record s { own = put s.own v x }) (record t { own = put t.own v y })
  owns v x y s t l h =
      record {
        uniforms = l.uniforms;
        varying = l.varying;
        own = λ w e p i. put_own s.own t.own v x y p (λ d. h d p i) (λ u d. l.own u d p i) w e;
        result = l.result;
        results = l.results;
        arrays = l.arrays;
        out = l.out;
        work = l.work;
      }

  answers : (o : Option Ty) (a : Mask) (x : Payload) (s t : State) → Part m a → Alike m s t → Alike m (answered o a x s) (answered o a x t)
  answers None a x s t sub l = l
  answers (Some k) a x s t sub l = by k.rate where
    by : (r : Rate) → Alike m (answered_at r a x s) (answered_at r a x t)
    by Uniform =
        record { uniforms = l.uniforms; varying = l.varying; own = l.own; result = refl; results = l.results; arrays = l.arrays; out = l.out; work = l.work }
    by Varying =
        record { uniforms = l.uniforms; varying = l.varying; own = l.own; result = l.result; results = λ p i. ap (or_old (spread a x p)) (l.results p i); arrays = l.arrays; out = l.out; work = l.work }

  clears : (frame : Frame) (r : Rate) (v : ℕ) (a : Mask) (s t : State) → Alike m s t → Alike m (cleared frame r v a s) (cleared frame r v a t)
  clears frame Uniform v a s t l = stores (λ g. put g (frame.named v) (λ e. 0)) s t l
  clears frame Varying v a s t l = owns v _ _ s t l (λ e p i. ap (λ z. if a p then 0 else z) (l.own v e p i))

  with_like : (gang : ℕ) (frame : Frame) (b : ArrayVariable) (k : Elem) (i : Payload) (a : Mask) (r : Rate) (x : Payload) (s t : State) → Alike m s t → Alike m (with_elements frame b k i a gang r x s) (with_elements frame b k i a gang r x t)
  with_like gang frame b k i a Uniform x s t l = stores (λ g. put g (frame.named b.number) (stored gang a (mapped (element k) i) x (g (frame.named b.number)))) s t l
  with_like gang frame b k i a Varying x s t l =
      owns b.number _ _ s t l (λ e p j. ap (λ z. if holds (λ d. nat_eq d e) (spread a (mapped (element k) i) p) then or_old (spread a x p) z else z) (l.own b.number e p j))

  -- ---- what members hold is the same

  some_same : (b : Bool) (x y : ℕ) → (b ≡ true → x ≡ y) → (if b then Some x else None) ≡ (if b then Some y else None)
  some_same true x y h = ap Some (h refl)
  some_same false x y h = refl

  none_spread : (a : Mask) (i : Payload) (p : ℕ) → Part m a → Out m i → m p ≡ false → spread a i p ≡ None
  none_spread a (Each i) p sub o e = o p e
  none_spread a (One i) p sub o e = go (a p) refl where
    go : (b : Bool) → a p ≡ b → (if b then Some i else None) ≡ None
    go true j = absurd (true≢false (sym (sub p j) ∙ e))
    go false j = refl

  holds_same : (gang : ℕ) (frame : Frame) (q : Place) (a : Mask) (s t : State) → Part m a → PlaceOut m q → Alike m s t → held gang frame q a s ≡ held gang frame q a t
  holds_same gang frame (Variable v k) a s t sub o l = by k.rate where
    by : (r : Rate) → variable r v a s ≡ variable r v a t
    by Uniform = ap (λ u. One (u v)) l.uniforms
    by Varying = ap Each (fun_ext (λ p. some_same (a p) _ _ (λ e. l.varying v p (sub p e))))
  holds_same gang frame (Element b k i) a s t sub o l = by b.ty.rate where
    at : (p : ℕ) (y : Option ℕ) → m p ≡ true → each1 (λ x. s.own b.number (element k x) p) y ≡ each1 (λ x. t.own b.number (element k x) p) y
    at p None e = refl
    at p (Some x) e = ap Some (l.own b.number (element k x) p e)

    each : (p : ℕ) (c : Bool) → m p ≡ c → each1 (λ x. s.own b.number (element k x) p) (spread a i p) ≡ each1 (λ x. t.own b.number (element k x) p) (spread a i p)
    each p true e = at p (spread a i p) e
    each p false e = ap (each1 (λ x. s.own b.number (element k x) p)) (none_spread a i p sub o e) ∙ sym (ap (each1 (λ x. t.own b.number (element k x) p)) (none_spread a i p sub o e))

    by : (r : Rate) → elements frame b k i a r s ≡ elements frame b k i a r t
    by Uniform = ap (λ g. mapped (λ x. g (frame.named b.number) (element k x)) i) l.arrays
    by Varying = ap Each (fun_ext (λ p. each p (m p) refl))

  -- ---- so the same comes, where it does of calls

  abbrev All : Act → Type 0
  All d = Unit {0}

  abbrev Any : Passed → Type 0
  Any x = Unit {0}

  abbrev AsksOf : ℕ → Frame → Calls → Calls → Type 0
  AsksOf gang frame calls other =
      (f : ℕ) (sp : Span) (a : Mask) (xs : List Passed) (s t : State) → Part m a → any gang a ≡ true → Alike m s t → Twin m (Alike m) Free (calls f sp a xs frame s) (other f sp a xs frame t)

  ground : (gang : ℕ) (frame : Frame) (calls other : Calls) → AsksOf gang frame calls other → ((x : TExpr) (a : Mask) (s : State) → Part m a → OutBy m (value gang frame calls x a s)) → Ground gang frame calls other m All Any (Alike m)
  ground gang frame calls other asked outs =
      record {
        works = works;
        holds = holds_same gang frame;
        writes = writes;
        stores = λ b i _ a s sub e. fine b (type_of i).elem a (value gang frame calls i a s);
        run_holds = λ k z a s t l. ap (λ g. Each (on a (λ p. g k (unsigned_abs (packed_index z a p))))) l.arrays;
        run_stores = λ b _ z a x s t l. stores (λ g. put g (frame.named b.number) (scatter gang (packed_places z a) (spread a x) (g (frame.named b.number)))) s t l;
        clears = λ b _ a s t sub l. clears frame b.ty.rate b.number a s t l;
        answers = answers frame.answer;
        prints = λ _ w s t l. prints w s t l;
        gives_value = λ x. tt;
        hands = λ b _. tt;
        asks = λ f _ sp a xs s t _ sub e l. asked f sp a xs s t sub e l;
        outs = outs;
      } where
        fine : (b : ArrayVariable) (k : Elem) (a : Mask) (v : Val Payload) → FineBy gang frame calls other m All Any (Alike m) b k a v
        fine b k a (Gives i s1) = λ x s t l. with_like gang frame b k i a b.ty.rate x s t l
        fine b k a (Fails d s1) = tt
        fine b k a (Stops s1) = tt

-- ---- calls from states that are alike begin alike

begun_alike : (m : Mask) (g : TFunction) (xs : List Passed) (caller : Frame) (a : Mask) (s t : State) → Alike m s t → begun g xs caller a s ≡ begun g xs caller a t
begun_alike m g xs caller a s t l = ap (λ z. from z s.out s.work) l.arrays ∙ ap (λ z. from t.arrays z s.work) l.out ∙ ap (λ z. from t.arrays t.out z) l.work where
  from : (ℕ → ℕ → ℕ) → List ℕ → ℕ → State
  from arrays out work = begun g xs caller a (record s { arrays = arrays; out = out; work = work })

ended_alike : (m : Mask) (o : Option Ty) (caller : Frame) (a : Mask) (s t : State) (v : Res) → Alike m s t → Twin m (Alike m) Free (ended o caller a s v) (ended o caller a t v)
ended_alike m o caller a s t (Went s1 g b c r) l =
    record { by = (refl, tt, record { uniforms = l.uniforms; varying = l.varying; own = l.own; result = l.result; results = l.results; arrays = refl; out = refl; work = refl }) }
ended_alike m o caller a s t (Trapped e s1) l = record { by = (refl, same m s1) }
ended_alike m o caller a s t (Cut s1) l = record { by = same m s1 }

calls_alike : (m : Mask) (program : Program) (most left : ℕ) (frame : Frame) → AsksOf m (gang_width program.gang) frame (calls_at program most left) (calls_at program most left)
calls_alike m program most zero frame f sp a xs s t sub e l = record { by = (refl, l) }
calls_alike m program most (suc left) frame f sp a xs s t sub e l = go (slice_get program.functions f) where
  go : (o : Option TFunction) → Twin m (Alike m) Free (called program most (calls_at program most left) o a xs frame s) (called program most (calls_at program most left) o a xs frame t)
  go None = record { by = l }
  go (Some g) =
      subst (λ z. Twin m (Alike m) Free (ended g.answer frame a s (body (begun g xs frame a s))) (ended g.answer frame a t (body z))) (begun_alike m g xs frame a s t l) (ended_alike m g.answer frame a s t (body (begun g xs frame a s)) l) where
        body : State → Res
        body z = block (gang_width program.gang) (frame_of g xs frame) (calls_at program most left) most g.body a z

-- ---- values and ways of a program are of the set

off_part : (m a : Mask) (p : ℕ) → Part m a → m p ≡ false → a p ≡ false
off_part m a p sub e = go (a p) refl where
  go : (b : Bool) → a p ≡ b → b ≡ false
  go true i = absurd (true≢false (sym (sub p i) ∙ e))
  go false i = refl

pub program_outs : (m : Mask) (program : Program) (most left : ℕ) (frame : Frame) (x : TExpr) (a : Mask) (s : State) → Part m a → OutBy m (value (gang_width program.gang) frame (calls_at program most left) x a s)
program_outs m program most left frame x a s sub = go (value (gang_width program.gang) frame (calls_at program most left) x a s) (λ p e. others_stay.expression program most left frame x a s p (off_part m a p sub e)) where
  go : (v : Val Payload) → ((p : ℕ) → m p ≡ false → LeavesBy p s v) → OutBy m v
  go (Gives y s1) k = λ p e. (k p e).0
  go (Fails d s1) k = tt
  go (Stops s1) k = tt

pub program_parts : (m : Mask) (program : Program) (most left : ℕ) (frame : Frame) (x : TStmt) (a : Mask) (s : State) → Part m a → PartBy m (run (gang_width program.gang) frame (calls_at program most left) most x a s)
program_parts m program most left frame x a s sub = go _ (parts_in a _ (four_sets program most left frame x a s)) where
  go : (v : Res) → PartsIn a v → PartBy m v
  go (Went s1 g b c r) h = (λ p e. sub p (h.0 p e), λ p e. sub p (h.1 p e))
  go (Trapped d s1) h = tt
  go (Cut s1) h = tt

-- ---- whoever is off

same_value : (m : Mask) (v w : Val Payload) → Twin m (Alike m) Free v w → SameValue m v w
same_value m (Gives x s) (Gives y t) h = (h.by.0, h.by.2)
same_value m (Fails e s) (Fails d t) h = h.by
same_value m (Stops s) (Stops t) h = h.by
same_value m (Gives x s) (Fails d t) h = h.by
same_value m (Gives x s) (Stops t) h = h.by
same_value m (Fails e s) (Gives y t) h = h.by
same_value m (Fails e s) (Stops t) h = h.by
same_value m (Stops s) (Gives y t) h = h.by
same_value m (Stops s) (Fails d t) h = h.by

same_end : (m : Mask) (v w : Res) → TwinRes m (Alike m) v w → SameEnd m v w
same_end m (Went s g b c r) (Went t g1 b1 c1 r1) h = h.by
same_end m (Trapped e s) (Trapped d t) h = h.by
same_end m (Cut s) (Cut t) h = h.by
same_end m (Went s g b c r) (Trapped d t) h = h.by
same_end m (Went s g b c r) (Cut t) h = h.by
same_end m (Trapped e s) (Went t g b c r) h = h.by
same_end m (Trapped e s) (Cut t) h = h.by
same_end m (Cut s) (Went t g b c r) h = h.by
same_end m (Cut s) (Trapped d t) h = h.by

program_ground : (m : Mask) (program : Program) (most left : ℕ) (frame : Frame) → Ground (gang_width program.gang) frame (calls_at program most left) (calls_at program most left) m (All m) (Any m) (Alike m)
program_ground m program most left frame = ground m _ frame _ _ (calls_alike m program most left frame) (program_outs m program most left frame)

-- ---- calls over empty sets

abbrev everybody : Mask
everybody p = true

state_same : (s t : State) → Alike everybody s t → s ≡ t
state_same s t l =
    ap (λ z. record s { uniforms = z }) l.uniforms
    ∙ ap (λ z. record s { uniforms = t.uniforms; varying = z }) (fun_ext (λ v. fun_ext (λ p. l.varying v p refl)))
    ∙ ap (λ z. record s { uniforms = t.uniforms; varying = t.varying; own = z }) (fun_ext (λ v. fun_ext (λ e. fun_ext (λ p. l.own v e p refl))))
    ∙ ap (λ z. record t { result = z; results = s.results; arrays = s.arrays; out = s.out; work = s.work }) l.result
    ∙ ap (λ z. record t { results = z; arrays = s.arrays; out = s.out; work = s.work }) (fun_ext (λ p. l.results p refl))
    ∙ ap (λ z. record t { arrays = z; out = s.out; work = s.work }) l.arrays
    ∙ ap (λ z. record t { out = z; work = s.work }) l.out
    ∙ ap (λ z. record t { work = z }) l.work

itself : (v : Val Payload) → Twin everybody (Alike everybody) Free v v
itself (Gives x s) = record { by = (refl, tt, same everybody s) }
itself (Fails e s) = record { by = (refl, same everybody s) }
itself (Stops s) = record { by = same everybody s }

value_equal : (v w : Val Payload) → Twin everybody (Alike everybody) Free v w → v ≡ w
value_equal (Gives x s) (Gives y t) h = ap₂ (λ z u. Gives z u) h.by.0 (state_same s t h.by.2)
value_equal (Fails e s) (Fails d t) h = ap₂ (λ z u. Fails z u) h.by.0 (state_same s t h.by.1)
value_equal (Stops s) (Stops t) h = ap (λ u. Stops u) (state_same s t h.by)
value_equal (Gives x s) (Fails d t) h = absurd h.by
value_equal (Gives x s) (Stops t) h = absurd h.by
value_equal (Fails e s) (Gives y t) h = absurd h.by
value_equal (Fails e s) (Stops t) h = absurd h.by
value_equal (Stops s) (Gives y t) h = absurd h.by
value_equal (Stops s) (Fails d t) h = absurd h.by

end_equal : (v w : Res) → TwinRes everybody (Alike everybody) v w → v ≡ w
end_equal (Went s g b c r) (Went t g1 b1 c1 r1) h = ap₂ (λ (z : Ways) (u : State). Went u z.0 z.1 z.2 z.3) h.by.0 (state_same s t h.by.1)
end_equal (Trapped e s) (Trapped d t) h = ap₂ (λ z u. Trapped z u) h.by.0 (state_same s t h.by.1)
end_equal (Cut s) (Cut t) h = ap (λ u. Cut u) (state_same s t h.by)
end_equal (Went s g b c r) (Trapped d t) h = absurd h.by
end_equal (Went s g b c r) (Cut t) h = absurd h.by
end_equal (Trapped e s) (Went t g b c r) h = absurd h.by
end_equal (Trapped e s) (Cut t) h = absurd h.by
end_equal (Cut s) (Went t g b c r) h = absurd h.by
end_equal (Cut s) (Trapped d t) h = absurd h.by

module _ (gang : ℕ) (frame : Frame) (calls other : Calls) (alike : SameWithMembers gang calls other) where
  any_out : (v : Val Payload) → OutBy everybody v
  any_out (Gives x s) = λ p e. absurd (true≢false e)
  any_out (Fails e s) = tt
  any_out (Stops s) = tt

  any_part : (v : Res) → PartBy everybody v
  any_part (Went s g b c r) = (λ p _. refl, λ p _. refl)
  any_part (Trapped e s) = tt
  any_part (Cut s) = tt

  asked : AsksOf everybody gang frame calls other
  asked f sp a xs s t sub e l =
      subst (λ z. Twin everybody (Alike everybody) Free (calls f sp a xs frame s) z) (alike f sp a xs frame s e ∙ ap (λ z. other f sp a xs frame z) (state_same s t l)) (itself (calls f sp a xs frame s))

  whole_ground : Ground gang frame calls other everybody (All everybody) (Any everybody) (Alike everybody)
  whole_ground = ground everybody gang frame calls other asked (λ x a s _. any_out (value gang frame calls x a s))

  value_nobody : (x : TExpr) (a : Mask) (s : State) → any gang a ≡ true → value gang frame calls x a s ≡ value gang frame other x a s
  value_nobody x a s e =
      value_equal _ _ (value_same gang frame calls other everybody (All everybody) (Any everybody) (Alike everybody) whole_ground x (inl (λ d. tt)) a s s (λ p _. refl) e (same everybody s))

  run_nobody : (most : ℕ) (x : TStmt) (a : Mask) (s : State) → any gang a ≡ true → run gang frame calls most x a s ≡ run gang frame other most x a s
  run_nobody most x a s e =
      end_equal _ _ (run_same gang frame calls other everybody (All everybody) (Any everybody) (Alike everybody) whole_ground most (λ y b z _. any_part (run gang frame calls most y b z)) x (inl (λ p. refl)) (inl (λ d. tt)) a s s
      (λ p _. refl) e (same everybody s))

pub members_decide : MembersDecide
members_decide =
    record {
      expression = λ program most levels frame x a s t some l. same_value a _ _ (value_same _ frame _ _ a (All a) (Any a) (Alike a) (program_ground a program most levels frame) x (inl (λ d. tt)) a s t (λ p e. e) some l);
      statement = λ program most levels frame x a s t masked some l. same_end a _ _ (run_same _ frame _ _ a (All a) (Any a) (Alike a) (program_ground a program most levels frame) most
          (program_parts a program most levels frame) x (inr masked) (inl (λ d. tt)) a s t (λ p e. e) some l);
    }

pub nobody_runs : NobodyRuns
nobody_runs =
    record {
      expression = λ gang frame calls other x a s alike some. value_nobody gang frame calls other alike x a s some;
      statement = λ gang frame calls other most x a s alike some. run_nobody gang frame calls other alike most x a s some;
    }
