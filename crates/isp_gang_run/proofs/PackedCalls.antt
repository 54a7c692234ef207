-- What packed calls leave to be done.
use Rattle.std.proofs.Common.{◌≡◌, refl, sym, ap, ap₂, ◌∙◌, subst, ℕ, ◌+◌, List, Bor, Bool, Option, Some, None, pos, Vec, Global}
use Rattle.isp_base.specs.Access.{scatter}
use Rattle.isp_base.specs.Cross.{rank, packed_outside, packed_places}
use Rattle.isp_base.specs.Maps.{Map, put}
use Rattle.isp_base.specs.Sets.{flag_of, lowest}
use Rattle.isp_base.specs.Traps.{trap}
use Rattle.isp_base.specs.Types.{gang_width}
use Rattle.isp_base.specs.Values.{number, number_to}
use Rattle.isp_base.specs.declared.types.Elem.{Elem}
use Rattle.isp_base.specs.declared.types.Elem.TheVariants.{I32}
use Rattle.isp_base.specs.declared.types.Rate.TheVariants.{Varying}
use Rattle.isp_base.specs.declared.types.Span.{Span}
use Rattle.isp_base.specs.declared.trap.TrapKind.TheVariants.{Index}
use Rattle.isp_typed.specs.Typed.{TExpr, t_whole, t_from, t_packed_store, t_packed_load, type_of}
use Rattle.isp_typed.specs.Views.{base_of, expr_of, program_of}
use Rattle.isp_typed.specs.declared.expr.TypedBase.{TypedBase}
use Rattle.isp_typed.specs.declared.expr.TypedExpr.{TypedExpr}
use Rattle.isp_typed.specs.declared.variable.ArrayVariable.{ArrayVariable}
use Rattle.isp_meaning.specs.State.{State, extent}
use Rattle.isp_meaning.specs.Payloads.{Payload, One, sole, spread}
use Rattle.isp_meaning.specs.Outcomes.{Val, Gives, Fails, Stops, bind, checked}
use Rattle.isp_meaning.specs.Places.{written}
use Rattle.isp_meaning.specs.Expressions.{packed_held, packed_kept}
use Rattle.isp_gang_values.specs.Seen.{payload_of}
use Rattle.isp_gang_values.specs.declared.computed.Computed.{Computed}
use Rattle.isp_gang_values.specs.declared.computed.Computed.TheVariants as computed
use Rattle.isp_gang_arrays.specs.Packing.{places_at}
use Rattle.isp_gang_run.specs.Passing.{packs, packs_from}
use Rattle.isp_gang_run.specs.Seen.{frame_seen, state_seen}
use Rattle.isp_gang_arrays.specs.Stores.{stores_of}
use Rattle.isp_gang_run.specs.Tasks.{Store, Goes, First, Halts, refused, trapped, cut, Comes, Does, Changes, go, given, does, rest, pack, value_at, store_seen}
use Rattle.isp_gang_run.specs.declared.counting.Work.{Work}
use Rattle.isp_gang_run.specs.declared.state.Evaluator.{Evaluator}
use Rattle.isp_gang_run.specs.declared.state.Stop.{Stop}
use Rattle.isp_gang_run.specs.declared.state.Stop.TheVariants as stop
use Rattle.isp_gang_run.specs.declared.tasks.Elements.{Elements}
use Rattle.isp_gang_run.specs.declared.tasks.Packing.{Packing}
use Rattle.isp_gang_run.specs.declared.tasks.Packing.TheVariants as packing
use Rattle.isp_gang_run.specs.declared.tasks.Task.TheVariants as task
use Rattle.isp_gang_run.proofs.Changes.{changed_rest, changed_store}
use Rattle.isp_gang_run.proofs.Counts.{Adds, work_of, counts_same, counts_more, counts_one}
use Rattle.isp_gang_arrays.proofs.Packs.{stored_within}
use Rattle.isp_gang_run.proofs.Steps.{regiven, then_given_in}
use Rattle.isp_gang_run.proofs.Turns.{halts_same}

-- ---- the node counts, then comes the base

module _ (old new : Evaluator) (work : Work) (one : Adds old work 1) (x : Bor TypedExpr) (set : List Bool) (b : Bor TypedBase) (sp : Span) where
  abbrev pub packed_as : Packing → TExpr
  packed_as (packing.Store y) = t_packed_store (base_of b.now) (expr_of y.now) sp
  packed_as (packing.Load v) = t_packed_load (base_of b.now) v sp

  -- the registers are not looked at
  node_is : (p : Packing) → expr_of x.now ≡ packed_as p → (w : ℕ) → does old (task.Value x set) (store_seen old w) ≡ packs old p (base_of b.now) sp (flag_of set) (store_seen old (w + 1))
  node_is (packing.Store y) is w =
      ap (λ n. given (store_seen old w) (value_at (program_of old.program.now) old.turns (store_seen old w) n (flag_of set) (state_seen old w))) is
      ∙ sym (regiven (store_seen old w) (payload_of old.value) (state_seen old (w + 1)) _)
  node_is (packing.Load v) is w =
      ap (λ n. given (store_seen old w) (value_at (program_of old.program.now) old.turns (store_seen old w) n (flag_of set) (state_seen old w))) is
      ∙ sym (regiven (store_seen old w) (payload_of old.value) (state_seen old (w + 1)) _)

  pub packed_node : (p : Packing) → expr_of x.now ≡ packed_as p → Comes (record old { work = work }) new (packs old p (base_of b.now) sp (flag_of set)) → Does old new (task.Value x set)
  packed_node p is c =
      record {
        by = λ w. (
          (c.by (w + 1)).0,
          ap (λ g. go g (rest old)) (node_is p is w)
              ∙ (c.by (w + 1)).1,
        );
        counts = λ w k. c.counts (w + 1) (counts_more old work 1 w one k);
      }

  pub packed_node_halts : (p : Packing) (e : Stop) → expr_of x.now ≡ packed_as p → Halts (record old { work = work }) new (packs old p (base_of b.now) sp (flag_of set)) e → Halts old new (does old (task.Value x set)) e
  packed_node_halts p e is h = by h
    where
      by : Halts (record old { work = work }) new (packs old p (base_of b.now) sp (flag_of set)) e → Halts old new (does old (task.Value x set)) e
      by (refused r) = refused r
      by (trapped t i g h) = trapped t i (λ w. ((g (w + 1)).0, node_is p is w ∙ (g (w + 1)).1)) (λ w k. h (w + 1) (counts_more old work 1 w one k))
      by (cut i g h) = cut i (λ w. ((g (w + 1)).0, node_is p is w ∙ (g (w + 1)).1)) (λ w k. h (w + 1) (counts_more old work 1 w one k))

-- ---- the base

from_none : number I32 0 ≡ pos 0
unfolding number_to
from_none = refl

module _ (old new : Evaluator) (work : Work) (one : Adds old work 1) (p : Packing) (b : TypedBase) (span : Span) (set : List Bool) where
  -- the whole array: from the first element on
  whole_is : (v : ArrayVariable) (sp : Span) → base_of b ≡ t_whole v sp → (w : ℕ)
      → packs old p (base_of b) span (flag_of set) (store_seen old w)
      ≡ does (record old { value = computed.One 0 }) (task.Packed p v I32 span set) (store_seen (record old { value = computed.One 0 }) (w + 1))
  whole_is v sp is w =
      ap (λ k. packs old p k span (flag_of set) (store_seen old w)) is
      ∙ ap (λ z. given (store_seen old w) (pack (program_of old.program.now) old.turns p v z span (flag_of set) (frame_seen old.here) old.left (state_seen old (w + 1)))) (sym from_none)
      ∙ sym (regiven (store_seen old w) (One 0) (state_seen old (w + 1)) (pack (program_of old.program.now) old.turns p v (number I32 0) span (flag_of set) (frame_seen old.here) old.left (state_seen old (w + 1))))

  pub whole_comes : (v : ArrayVariable) (sp : Span) → base_of b ≡ t_whole v sp → Does (record old { work = work; value = computed.One 0 }) new (task.Packed p v I32 span set) → Comes old new (packs old p (base_of b) span (flag_of set))
  whole_comes v sp is d =
      record {
        by = λ w. (
          (d.by (w + 1)).0,
          ap (λ g. go g (rest old)) (whole_is v sp is w)
              ∙ (d.by (w + 1)).1,
        );
        counts = λ w k. d.counts (w + 1) (counts_more old work 1 w one k);
      }

  pub whole_halts : (v : ArrayVariable) (sp : Span) (e : Stop) → base_of b ≡ t_whole v sp
      → Halts (record old { work = work; value = computed.One 0 }) new (does (record old { value = computed.One 0 }) (task.Packed p v I32 span set)) e
      → Halts old new (packs old p (base_of b) span (flag_of set)) e
  whole_halts v sp e is h = by h
    where
      by : Halts (record old { work = work; value = computed.One 0 }) new (does (record old { value = computed.One 0 }) (task.Packed p v I32 span set)) e → Halts old new (packs old p (base_of b) span (flag_of set)) e
      by (refused r) = refused r
      by (trapped t i g h) = trapped t i (λ w. ((g (w + 1)).0, whole_is v sp is w ∙ (g (w + 1)).1)) (λ w k. h (w + 1) (counts_more old work 1 w one k))
      by (cut i g h) = cut i (λ w. ((g (w + 1)).0, whole_is v sp is w ∙ (g (w + 1)).1)) (λ w k. h (w + 1) (counts_more old work 1 w one k))

  -- from an index on
  from_next : (v : ArrayVariable) (t : Elem) (r : Store) (s : State) (u : Val Payload) (next : Store → Goes)
      → go (given r (bind (bind u (λ m s1. Gives (number t (sole m)) s1)) (λ z s2. pack (program_of old.program.now) old.turns p v z span (flag_of set) r.frame r.left s2))) next
      ≡ go (given (record r { state = s }) u) (λ q. go (does old (task.Packed p v t span set) q) next)
  from_next v t r s (Gives m s1) next = ap (λ g. go g next) (sym (regiven r m s1 (pack (program_of old.program.now) old.turns p v (number t (sole m)) span (flag_of set) r.frame r.left s1)))
  from_next v t r s (Fails x s1) next = refl
  from_next v t r s (Stops s1) next = refl

  pub from_comes : (v : ArrayVariable) (y : Bor TypedExpr) (t : Elem) (sp : Span) → t ≡ (type_of (expr_of y.now)).elem
      → base_of b ≡ t_from v (expr_of y.now) sp → First (record old { work = work }) new (task.Value y set) (task.Packed p v t span set)
      → Comes old new (packs old p (base_of b) span (flag_of set))
  from_comes v y t sp typed is f =
      record {
        by = λ w. (
          w + 1,
          ap (λ k. go (packs old p k span (flag_of set) (store_seen old w)) (rest old)) is
              ∙ ap (λ e. go (given (store_seen old w) (bind (bind
              (value_at (program_of old.program.now) old.turns (store_seen old w) (expr_of y.now) (flag_of set) (state_seen old (w + 1)))
              (λ m s1. Gives (number e (sole m)) s1)) (λ z s2. pack (program_of old.program.now) old.turns p v z span (flag_of set)
              (frame_seen old.here) old.left s2))) (rest old)) (sym typed)
              ∙ from_next v t (store_seen old w) (state_seen old (w + 1)) (value_at (program_of old.program.now) old.turns (store_seen old w) (expr_of y.now) (flag_of set) (state_seen old (w + 1))) (rest old)
              ∙ sym (f.by (w + 1)),
        );
        counts = λ w k. counts_one old new work w one f.work k;
      }

-- ---- the first index was found

pub store_next : (old new : Evaluator) (y : Bor TypedExpr) (v : ArrayVariable) (t : Elem) (n : ℕ) (span : Span) (set : List Bool) (p : Packing)
    → p ≡ packing.Store y → n ≡ sole (payload_of old.value)
    → First old new (task.Value y set) (task.PackedStore (record { array = v; elem = t; first = n }) span set)
    → Does old new (task.Packed p v t span set)
store_next old new y v t n span set p is e f =
    subst (λ k. Does old new (task.Packed k v t span set)) (sym is)
    (record {
      by = λ w. (
        w,
        ap (λ k. go (given (store_seen old w) (pack (program_of old.program.now) old.turns (packing.Store y) v (number t k) span (flag_of set) (frame_seen old.here) old.left (state_seen old w))) (rest old)) (sym e)
            ∙ then_given_in (store_seen old w) (value_at (program_of old.program.now) old.turns (store_seen old w) (expr_of y.now) (flag_of set) (state_seen old w))
            (λ fr l m s. bind (checked (lowest (gang_width old.program.now.gang) (packed_outside (extent fr v) (number t n) (flag_of set))) Index span
            s m) (λ k s1. Gives (One (rank (flag_of set) (gang_width old.program.now.gang)))
            (packed_kept (gang_width old.program.now.gang) (fr.named v.number) (number t n) (flag_of set) k s1))) (rest old)
            ∙ sym (f.by w),
      );
      counts = λ w k. counts_same old new w f.work k;
    })

load_is : (old : Evaluator) (v n : ℕ) (b : ArrayVariable) (t : Elem) (span : Span) (set : List Bool) (p : Packing) → p ≡ packing.Load v
    → n ≡ sole (payload_of old.value) → (w : ℕ) → does old (task.Packed p b t span set) (store_seen old w)
    ≡ packs_from old (packing.Load v) b (number t n) span (flag_of set) (store_seen old w)
load_is old v n b t span set p is e w =
    ap₂ (λ (q : Packing) (k : ℕ). given (store_seen old w) (pack (program_of old.program.now) old.turns q b (number t k) span (flag_of set) (frame_seen old.here) old.left (state_seen old w))) is (sym e)

pub load_next : (old new : Evaluator) (v n : ℕ) (b : ArrayVariable) (t : Elem) (span : Span) (set : List Bool) (p : Packing) → p ≡ packing.Load v
    → n ≡ sole (payload_of old.value) → Comes old new (packs_from old (packing.Load v) b (number t n) span (flag_of set))
    → Does old new (task.Packed p b t span set)
load_next old new v n b t span set p is e c = record { by = λ w. ((c.by w).0, ap (λ g. go g (rest old)) (load_is old v n b t span set p is e w) ∙ (c.by w).1); counts = c.counts }

pub load_next_halts : (old new : Evaluator) (v n : ℕ) (b : ArrayVariable) (t : Elem) (span : Span) (set : List Bool) (p : Packing) (e : Stop)
    → p ≡ packing.Load v → n ≡ sole (payload_of old.value) → Halts old new (packs_from old (packing.Load v) b (number t n) span (flag_of set)) e
    → Halts old new (does old (task.Packed p b t span set)) e
load_next_halts old new v n b t span set p e is eq h = halts_same old new (does old (task.Packed p b t span set)) (packs_from old (packing.Load v) b (number t n) span (flag_of set)) e (load_is old v n b t span set p is eq) h

-- ---- the access

module _ (old : Evaluator) (es : Elements) (span : Span) (set : List Bool) where
  abbrev pub offending : Option ℕ
  offending = lowest (gang_width old.program.now.gang) (packed_outside (extent (frame_seen old.here) es.array) (number es.elem es.first) (flag_of set))

  loads : (v : ℕ) (o : Option ℕ) → offending ≡ o → (w : ℕ) → packs_from old (packing.Load v) es.array (number es.elem es.first) span (flag_of set) (store_seen old w)
      ≡ given (store_seen old w) (bind (checked o Index span (state_seen old (w + 1))
      (packed_held ((frame_seen old.here).named es.array.number) (number es.elem es.first) (flag_of set) (state_seen old w)))
      (λ m s. Gives (One (rank (flag_of set) (gang_width old.program.now.gang))) (written Varying v (flag_of set) m s)))
  loads v o e w =
      ap (λ k. given (store_seen old w) (bind (checked k Index span (state_seen old (w + 1))
      (packed_held ((frame_seen old.here).named es.array.number) (number es.elem es.first) (flag_of set) (state_seen old w)))
      (λ m s. Gives (One (rank (flag_of set) (gang_width old.program.now.gang))) (written Varying v (flag_of set) m s)))) e

  -- into a variable
  pub load_comes : (work : Work) (one : Adds old work 1) (v : ℕ) (new : Evaluator) (m : Payload) (c : Computed) → offending ≡ None
      → ((w : ℕ) → m ≡ packed_held ((frame_seen old.here).named es.array.number) (number es.elem es.first) (flag_of set) (state_seen old w))
      → Changes (record old { work = work }) new (written Varying v (flag_of set) m)
      → payload_of c ≡ One (rank (flag_of set) (gang_width old.program.now.gang))
      → Comes old (record new { value = c }) (packs_from old (packing.Load v) es.array (number es.elem es.first) span (flag_of set))
  load_comes work one v new m c none is ch e =
      record {
        by = λ w. (
          w + 1,
          ap (λ g. go g (rest old)) (loads v None none w)
              ∙ ap₂ (λ (x y : Payload). rest old (record (store_seen old w) { state = written Varying v (flag_of set) x (state_seen old (w + 1)); value = y })) (sym (is w)) (sym e)
              ∙ sym (ap₂ (λ (h : Store → Goes) (r : Store). h (record r { value = payload_of c }))
              (changed_rest (record old { work = work }) new (written Varying v (flag_of set) m) ch)
              (changed_store (record old { work = work }) new (written Varying v (flag_of set) m) ch (w + 1))),
        );
        counts = λ w k. counts_one old new work w one (ap work_of ch.same) k;
      }

  pub load_halts : (work : Work) (one : Adds old work 1) (v : ℕ) (e : Stop) (i : ℕ) → offending ≡ Some i → e ≡ stop.Trapped (trap Index span i)
      → Halts old (record old { work = work }) (packs_from old (packing.Load v) es.array (number es.elem es.first) span (flag_of set)) e
  load_halts work one v e i some is =
      trapped (trap Index span i) is (λ w. (w + 1, loads v (Some i) some w)) (λ w k. counts_more old work 1 w one k)

  stores : (o : Option ℕ) → offending ≡ o → (w : ℕ) → does old (task.PackedStore es span set) (store_seen old w)
      ≡ given (store_seen old w) (bind (checked o Index span (state_seen old w) (payload_of old.value))
      (λ m s. Gives (One (rank (flag_of set) (gang_width old.program.now.gang)))
      (packed_kept (gang_width old.program.now.gang) ((frame_seen old.here).named es.array.number) (number es.elem es.first) (flag_of set) m s)))
  stores o e w =
      ap (λ k. given (store_seen old w) (bind (checked k Index span (state_seen old w) (payload_of old.value))
      (λ m s. Gives (One (rank (flag_of set) (gang_width old.program.now.gang)))
      (packed_kept (gang_width old.program.now.gang) ((frame_seen old.here).named es.array.number) (number es.elem es.first) (flag_of set) m s))))
      e

  -- into a store
  pub store_does : (st : Vec (Vec ℕ Global) Global) (c : Computed) (places values : Map) (k : ℕ) → offending ≡ None
      → k ≡ (frame_seen old.here).named es.array.number
      → places ≡ places_at (extent (frame_seen old.here) es.array) (number es.elem es.first) (flag_of set)
      → values ≡ spread (flag_of set) (payload_of old.value)
      → stores_of st.items ≡ put (stores_of old.stores.items) k (scatter (gang_width old.program.now.gang) places values (stores_of old.stores.items k)) → payload_of c ≡ One (rank (flag_of set) (gang_width old.program.now.gang))
      → Does old (record old { stores = st; value = c }) (task.PackedStore es span set)
  store_does st c places values k none named ep ev put_is e =
      record {
        by = λ w.
            let g = gang_width old.program.now.gang in
            let f = stores_of old.stores.items in
            let j = (frame_seen old.here).named es.array.number in
            let kept : stores_of st.items ≡ put f j (scatter g (packed_places (number es.elem es.first) (flag_of set)) (spread (flag_of set) (payload_of old.value)) (f j)) =
            put_is ∙ ap (λ i. put f i (scatter g places values (f i))) named ∙ ap₂ (λ (x y : Map). put f j (scatter g x y (f j))) ep ev
            ∙ ap (λ x. put f j x) (stored_within g (extent (frame_seen old.here) es.array) (number es.elem es.first) (flag_of set) (spread (flag_of set) (payload_of old.value)) (f j) none) in (
              w,
              ap (λ x. go x (rest old)) (stores None none w)
                  ∙ ap₂ (λ (x : ℕ → ℕ → ℕ) (y : Payload). rest old (record (store_seen old w) { state = record (state_seen old w) { arrays = x }; value = y })) (sym kept) (sym e),
            );
        counts = λ w k. k;
      }

  pub store_halts : (e : Stop) (i : ℕ) → offending ≡ Some i → e ≡ stop.Trapped (trap Index span i) → Halts old old (does old (task.PackedStore es span set)) e
  store_halts e i some is = trapped (trap Index span i) is (λ w. (w, stores (Some i) some w)) (λ w k. k)
