-- A variable that code does not set is as it was.
use Rattle.std.specs.Prelude.{◌≡◌, ℕ, zero, suc, List, [], ◌∷◌, ◌++◌, map, Option, Some, None, Bool, true, false, ◌||◌, nat_eq, if◌then◌else◌, ℤ}
use Rattle.std.proofs.Common.{refl, ap, ◌∙◌}
use Rattle.isp_base.specs.Access.{is_zero}
use Rattle.isp_base.specs.Sets.{Mask, nobody, union, without, any, lone, everyone}
use Rattle.isp_base.specs.Maps.{Map, on, over, where_true}
use Rattle.isp_base.specs.Values.{wrap}
use Rattle.isp_base.specs.Types.{gang_width}
use Rattle.isp_base.specs.declared.operators.BinOp.{BinOp}
use Rattle.isp_base.specs.declared.types.Elem.{Elem}
use Rattle.isp_base.specs.declared.types.Elem.TheVariants.{I32}
use Rattle.isp_base.specs.declared.types.Rate.{Rate}
use Rattle.isp_base.specs.declared.types.Rate.TheVariants.{Uniform, Varying}
use Rattle.isp_base.specs.declared.types.Span.{Span}
use Rattle.isp_base.specs.declared.types.Ty.{Ty}
use Rattle.isp_base.specs.declared.trap.TrapKind.{TrapKind}
use Rattle.isp_base.specs.declared.trap.TrapKind.TheVariants.{Divide, Index, Assert}
use Rattle.isp_tree.specs.declared.stmt.Jump.{Jump}
use Rattle.isp_tree.specs.declared.stmt.Jump.TheVariants.{Break, Continue}
use Rattle.isp_typed.specs.Typed.{Program, TExpr, t_call, t_exprs, elem_of, ty_of, TExprs, t_no_exprs, t_expr_then, TCall, TPlace, t_variable, t_element, place_type, place_span}
use Rattle.isp_typed.specs.Typed.{TItem, t_plain, t_with_value, t_with_size, TSimple, t_value, t_run, t_assign, t_update, t_step, TFirst, t_first_declare, t_first_simple, TRange}
use Rattle.isp_typed.specs.Typed.{TStmt, t_block, t_declare, t_simple, t_if, t_if_else, t_while, t_do, t_for, t_foreach, t_foreach_active, t_foreach_unique}
use Rattle.isp_typed.specs.Typed.{t_unmasked, t_jump, t_return, t_print, t_assert, TBlock, t_braces, TStmts, t_no_stmts, t_stmt_then}
use Rattle.isp_meaning.specs.State.{State, Frame, tick}
use Rattle.isp_meaning.specs.Payloads.{Payload, One, Each, is_true, is_false, kept_by, sole, offender, mapped, converted, spread}
use Rattle.isp_meaning.specs.Outcomes.{Val, Gives, Fails, Stops, Res, Went, Trapped, Cut, Done, bind, with_value, checked, go_on, went_all, if_so, unless_empty}
use Rattle.isp_meaning.specs.Places.{Place, Variable, Element, written, with_elements, outside, held, kept}
use Rattle.isp_meaning.specs.Expressions.{Calls, value, place, values, call}
use Rattle.isp_meaning.specs.Simple.{cleared, update, simple, item, items, first_part, step_part, no_step}
use Rattle.isp_meaning.specs.Loops.{loop_end, tested, turns}
use Rattle.isp_meaning.specs.Loads.{loads, all_load, call_loads, KeepsBy}
use Rattle.isp_meaning.specs.Rounds.{Range, Run, rounds, round_of_one, members, firsts, round_of_value, last_run, with_outer, joined_lists, runs_of, from_on, runs_for, length_of, set_indices, round_of_run}
use Rattle.isp_meaning.specs.Statements.{all_go, answered, answered_at, branches, jumped, ranges, test_part, run, block, run_all}
use Rattle.isp_meaning.specs.Calls.{calls_at}
use Rattle.isp_meaning.proofs.Loads.{variables_stay}
use Rattle.isp_steady.specs.Assigns.{if_there, target_sets, item_sets, items_set, simple_sets, first_sets, ranges_set, assigns, block_assigns, all_assign, IsUnset, UnsetBy, StaysUnset}

neither : (b c : Bool) → (b || c) ≡ false → (b ≡ false) × (c ≡ false)
neither true c e = absurd (cc)
neither false c e = (refl, e)

module _ (v : ℕ) where
  same : (s : State) → IsUnset v s s
  same s = (refl, refl)

  still : (s s1 s2 : State) → IsUnset v s s1 → IsUnset v s1 s2 → IsUnset v s s2
  still s s1 s2 h k = (k.0 ∙ h.0, k.1 ∙ h.1)

  -- ---- values

  abbrev pub Keeps : {A : Type 0} → (A → Type 0) → State → Val A → Type 0
  Keeps Q s (Gives x s1) = Q x × IsUnset v s s1
  Keeps Q s (Fails t s1) = Unit {0}
  Keeps Q s (Stops s1) = Unit {0}

  abbrev pub Any : {A : Type 0} → A → Type 0
  Any x = Unit {0}

  keeps_on : {A : Type 0} (Q : A → Type 0) (s s1 : State) (w : Val A) → IsUnset v s s1 → Keeps Q s1 w → Keeps Q s w
  keeps_on Q s s1 (Gives x s2) h k = (k.0, still s s1 s2 h k.1)
  keeps_on Q s s1 (Fails t s2) h k = tt
  keeps_on Q s s1 (Stops s2) h k = tt

  bind_keeps : {A B : Type 0} (Q : A → Type 0) (R : B → Type 0) (s : State) (w : Val A) (go : A → State → Val B) → Keeps Q s w → ((x : A) (s1 : State) → Q x → Keeps R s1 (go x s1)) → Keeps R s (bind w go)
  bind_keeps Q R s (Gives x s1) go h f = keeps_on R s s1 (go x s1) h.1 (f x s1 h.0)
  bind_keeps Q R s (Fails t s1) go h f = tt
  bind_keeps Q R s (Stops s1) go h f = tt

  checked_keeps : {A : Type 0} (Q : A → Type 0) (o : Option ℕ) (k : TrapKind) (sp : Span) (s : State) (x : A) → Q x → Keeps Q s (checked o k sp s x)
  checked_keeps Q None k sp s x h = (h, same s)
  checked_keeps Q (Some i) k sp s x h = tt

  by_loads : (but : ℕ → Bool) (s : State) (w : Val Payload) → but v ≡ false → KeepsBy but s w → Keeps Any s w
  by_loads but s (Gives x s1) e h = (tt, (ap (λ f. f v) h.0, h.1 v e))
  by_loads but s (Fails t s1) e h = tt
  by_loads but s (Stops s1) e h = tt

  -- a place that is not the variable
  abbrev Elsewhere : Place → Type 0
  Elsewhere (Variable w t) = nat_eq v w ≡ false
  Elsewhere (Element b t i) = Unit {0}

  written_keeps : (r : Rate) (w : ℕ) (a : Mask) (m : Payload) (s : State) → nat_eq v w ≡ false → IsUnset v s (written r w a m s)
  written_keeps Uniform w a m s e = (ap (λ t. if t then sole m else s.uniforms v) e, refl)
  written_keeps Varying w a m s e = (refl, ap (λ t. if t then over (spread a m) (s.varying w) else s.varying v) e)

  kept_keeps : (gang : ℕ) (frame : Frame) (q : Place) (a : Mask) (m : Payload) (s : State) → Elsewhere q → IsUnset v s (kept gang frame q a m s)
  kept_keeps gang frame (Variable w t) a m s e = written_keeps t.rate w a m s e
  kept_keeps gang frame (Element b t i) a m s e = by b.ty.rate
    where
      by : (r : Rate) → IsUnset v s (with_elements frame b t i a gang r m s)
      by Uniform = same s
      by Varying = same s

  cleared_keeps : (frame : Frame) (r : Rate) (w : ℕ) (a : Mask) (s : State) → IsUnset v s (cleared frame r w a s)
  cleared_keeps frame Uniform w a s = same s
  cleared_keeps frame Varying w a s = same s

  -- ---- control

  record Stays (s : State) (x : Res) : Type 0 where
    pub by : UnsetBy v s x

  on_still : (s s1 : State) (x : Res) → IsUnset v s s1 → UnsetBy v s1 x → UnsetBy v s x
  on_still s s1 (Went s2 g b c r) h k = still s s1 s2 h k
  on_still s s1 (Trapped t s2) h k = tt
  on_still s s1 (Cut s2) h k = tt

  stays_on : (s s1 : State) (x : Res) → IsUnset v s s1 → Stays s1 x → Stays s x
  stays_on s s1 x h k = record { by = on_still s s1 x h k.by }

  with_stays : {A : Type 0} (Q : A → Type 0) (s : State) (w : Val A) (go : A → State → Res) → Keeps Q s w → ((x : A) (s1 : State) → Q x → Stays s1 (go x s1)) → Stays s (with_value w go)
  with_stays Q s (Gives x s1) go h f = stays_on s s1 (go x s1) h.1 (f x s1 h.0)
  with_stays Q s (Fails t s1) go h f = record { by = tt }
  with_stays Q s (Stops s1) go h f = record { by = tt }

  go_stays : (s : State) (x : Res) (go : State → Mask → Mask → Mask → Mask → Res) → Stays s x → ((s1 : State) (g b c r : Mask) → Stays s1 (go s1 g b c r)) → Stays s (go_on x go)
  go_stays s (Went s1 g b c r) go h f = stays_on s s1 (go s1 g b c r) h.by (f s1 g b c r)
  go_stays s (Trapped t s1) go h f = record { by = tt }
  go_stays s (Cut s1) go h f = record { by = tt }

  went_stays : (s : State) (g b c r : Mask) → Stays s (Went s g b c r)
  went_stays s g b c r = record { by = same s }

  if_stays : (s : State) (t : Bool) (m n : State → Res) → Stays s (m s) → Stays s (n s) → Stays s (if_so t m n s)
  if_stays s true m n h k = h
  if_stays s false m n h k = k

  abbrev BodyStays : (Mask → State → Res) → Type 0
  BodyStays body = (a : Mask) (s : State) → Stays s (body a s)

  unless_stays : (gang : ℕ) (a : Mask) (s : State) (f : Mask → State → Res) → BodyStays f → Stays s (unless_empty gang a s f)
  unless_stays gang a s f k = if_stays s (any gang a) (f a) (went_all a) (k a s) (went_stays s a nobody nobody nobody)

  all_stay : BodyStays went_all
  all_stay a s = went_stays s a nobody nobody nobody

  branches_stay : (gang : ℕ) (a : Mask) (f g : Mask → State → Res) → BodyStays f → BodyStays g → (m : Payload) (s : State) → Stays s (branches gang a f g m s)
  branches_stay gang a f g h k (One c) s = if_stays s (is_true c) (f a) (g a) (h a s) (k a s)
  branches_stay gang a f g h k (Each c) s =
      go_stays s _ _ (unless_stays gang (where_true is_true c) s f h)
      (λ s1 g1 b c1 r. go_stays s1 _ _ (unless_stays gang (without a (where_true is_true c)) s1 g k) (λ s2 g2 b2 c2 r2. went_stays s2 _ _ _ _))

  module _ (gang : ℕ) (test : Mask → State → Val Payload) (body : Mask → State → Res) (step : Mask → State → Val Done) (all : Mask)
      (tests : (a : Mask) (s : State) → Keeps Any s (test a s)) (bodies : BodyStays body) (steps : (a : Mask) (s : State) → Keeps Any s (step a s)) where
    abbrev TurnStays : (Mask → Mask → State → Res) → Type 0
    TurnStays turn = (k r : Mask) (s : State) → Stays s (turn k r s)

    end_stays : (r : Mask) (s : State) → Stays s (loop_end gang test body step all r s)
    end_stays r s = went_stays s _ _ _ _

    tested_stays : (turn : Mask → Mask → State → Res) → TurnStays turn → (live r : Mask) (s : State) → Stays s (tested gang test body step all turn live r s)
    tested_stays turn h live r s =
        with_stays Any s (test live s) _ (tests live s) (λ m s1 _. if_stays s1 (any gang (kept_by is_true live m)) _ _ (h (kept_by is_true live m) r s1) (end_stays r s1))

    turns_stay : (n : ℕ) → TurnStays (turns gang test body step all n)
    turns_stay zero k r s = record { by = tt }
    turns_stay (suc n) k r s =
        go_stays s _ _ (stays_on s (tick s) _ (same s) (bodies k (tick s)))
        (λ s1 g b c r1. if_stays s1 (any gang (union g c)) _ _
        (with_stays Any s1 (step (union g c) s1) _ (steps (union g c) s1) (λ _ s2 _. tested_stays _ (turns_stay n) (union g c) (union r r1) s2))
        (end_stays (union r r1) s1))

  -- ---- rounds

  active_stay : (body : Mask → State → Res) (all : Mask) (index : ℕ) (qs : List ℕ) → BodyStays body → nat_eq v index ≡ false → (s : State) → Stays s (rounds body all (map (round_of_one index) qs) s)
  active_stay body all index [] h e s = all_stay all s
  active_stay body all index (q ∷ qs) h e s =
      go_stays s _ _ (stays_on s ((round_of_one index q).begins s) _ (written_keeps Uniform index (lone (Some q)) (One q) (tick s) e) (h (lone (Some q)) ((round_of_one index q).begins s)))
      (λ s1 g b c r. active_stay body all index qs h e s1)

  unique_stay : (body : Mask → State → Res) (all : Mask) (u t : Elem) (x : Map) (index : ℕ) (qs : List ℕ) → BodyStays body → nat_eq v index ≡ false → (s : State) → Stays s (rounds body all (map (round_of_value u t x index) qs) s)
  unique_stay body all u t x index [] h e s = all_stay all s
  unique_stay body all u t x index (q ∷ qs) h e s =
      let one = round_of_value u t x index q in
      go_stays s _ _ (stays_on s (one.begins s) _ (written_keeps Uniform index one.members (One (converted u t _)) (tick s) e) (h one.members (one.begins s))) (λ s1 g b c r. unique_stay body all u t x index qs h e s1)

  -- runs of a `foreach`, none of whose indices is the variable
  abbrev IndicesOff : List (ℕ × (ℕ → ℤ)) → Type 0
  IndicesOff [] = Unit {0}
  IndicesOff (x ∷ xs) = (nat_eq v x.0 ≡ false) × IndicesOff xs

  abbrev RunsOff : List Run → Type 0
  RunsOff [] = Unit {0}
  RunsOff (x ∷ xs) = IndicesOff x.indices × RunsOff xs

  abbrev RangesOff : List Range → Type 0
  RangesOff [] = Unit {0}
  RangesOff (x ∷ xs) = (nat_eq v x.index ≡ false) × RangesOff xs

  set_keeps : (a : Mask) (xs : List (ℕ × (ℕ → ℤ))) → IndicesOff xs → (s : State) → IsUnset v s (set_indices a xs s)
  set_keeps a [] h s = same s
  set_keeps a (x ∷ xs) h s =
      let m : Payload = Each (on a (λ p. wrap I32 (x.1 p))) in
      let s1 : State = written Varying x.0 a m s in
      still s s1 (set_indices a xs s1) (written_keeps Varying x.0 a m s h.0) (set_keeps a xs h.1 s1)

  runs_join : (xs ys : List Run) → RunsOff xs → RunsOff ys → RunsOff (xs ++ ys)
  runs_join [] ys h k = k
  runs_join (x ∷ xs) ys h k = (h.0, runs_join xs ys h.1 k)

  last_off : (gang : ℕ) (r : Range) (zs : List ℤ) → nat_eq v r.index ≡ false → RunsOff (map (last_run gang r) zs)
  last_off gang r [] e = tt
  last_off gang r (z ∷ zs) e = ((e, tt), last_off gang r zs e)

  outer_off : (index : ℕ) (z : ℤ) (xs : List Run) → nat_eq v index ≡ false → RunsOff xs → RunsOff (map (with_outer index z) xs)
  outer_off index z [] e h = tt
  outer_off index z (x ∷ xs) e h = ((e, h.0), outer_off index z xs e h.1)

  joined_off : (index : ℕ) (xs : List Run) (zs : List ℤ) → nat_eq v index ≡ false → RunsOff xs → RunsOff (joined_lists (map (λ z. map (with_outer index z) xs) zs))
  joined_off index xs [] e h = tt
  joined_off index xs (z ∷ zs) e h = runs_join (map (with_outer index z) xs) _ (outer_off index z xs e h) (joined_off index xs zs e h)

  runs_off : (gang : ℕ) (rs : List Range) → RangesOff rs → RunsOff (runs_of gang rs)
  runs_off gang [] h = tt
  runs_off gang (r ∷ []) h = last_off gang r (from_on gang (runs_for gang (length_of r)) r.start) h.0
  runs_off gang (r ∷ q ∷ rs) h = joined_off r.index (runs_of gang (q ∷ rs)) (from_on 1 (length_of r) r.start) h.0 (runs_off gang (q ∷ rs) h.1)

  foreach_stay : (body : Mask → State → Res) (all : Mask) (xs : List Run) → BodyStays body → RunsOff xs → (s : State) → Stays s (rounds body all (map round_of_run xs) s)
  foreach_stay body all [] h k s = all_stay all s
  foreach_stay body all (x ∷ xs) h k s =
      go_stays s _ _ (stays_on s (set_indices x.members x.indices s) _ (set_keeps x.members x.indices k.0 s) (h x.members (set_indices x.members x.indices s))) (λ s1 g b c r. foreach_stay body all xs h k.1 s1)

  answered_keeps : (t : Option Ty) (a : Mask) (m : Payload) (s : State) → IsUnset v s (answered t a m s)
  answered_keeps None a m s = same s
  answered_keeps (Some t) a m s = by t.rate
    where
      by : (r : Rate) → IsUnset v s (answered_at r a m s)
      by Uniform = same s
      by Varying = same s

  jumped_stays : (j : Jump) (a : Mask) (s : State) → Stays s (jumped j a s)
  jumped_stays Break a s = record { by = same s }
  jumped_stays Continue a s = record { by = same s }

  all_go_stays : (a : Mask) (s : State) (w : Val Done) → Keeps Any s w → Stays s (all_go a w)
  all_go_stays a s w k = with_stays Any s w _ k (λ _ s1 _. all_stay a s1)

  no_step_keeps : (a : Mask) (s : State) → Keeps Any s (no_step a s)
  no_step_keeps a s = (tt, same s)

  -- ---- code

  module _ (program : Program) (most left : ℕ) (frame : Frame) where
    abbrev gang : ℕ
    gang = gang_width program.gang

    abbrev calls : Calls
    calls = calls_at program most left

    pub value_keeps : (x : TExpr) (a : Mask) (s : State) → loads x v ≡ false → Keeps Any s (value gang frame calls x a s)
    value_keeps x a s e = by_loads (loads x) s _ e (variables_stay program most left frame x a s)

    call_keeps : (c : TCall) (a : Mask) (s : State) → call_loads c v ≡ false → Keeps Any s (call gang frame calls c a s)
    call_keeps c a s e = value_keeps (t_call c (ty_of Uniform I32)) a s e

    values_keep : (xs : TExprs) (a : Mask) (s : State) → all_load xs v ≡ false → Keeps Any s (values gang frame calls xs a s)
    values_keep t_no_exprs a s e = (tt, same s)
    values_keep (t_expr_then x xs) a s e =
        let k = neither _ _ e in
        bind_keeps Any Any s _ _ (value_keeps x a s k.0) (λ m s1 _. bind_keeps Any Any s1 _ _ (values_keep xs a s1 k.1) (λ ms s2 _. (tt, same s2)))

    place_keeps : (q : TPlace) (a : Mask) (s : State) → target_sets q v ≡ false → Keeps Elsewhere s (place gang frame calls q a s)
    place_keeps (t_variable w t sp) a s e = (e, same s)
    place_keeps (t_element b i t sp) a s e = bind_keeps Any Elsewhere s _ _ (value_keeps i a (tick s) e) (λ m s1 _. (tt, same s1))

    update_keeps : (op : BinOp) (t : Elem) (q : TPlace) (r : Place) (y : Payload) (sp : Span) (a : Mask) (s : State) → Elsewhere r → Keeps Any s (update gang frame calls op t q r y sp a s)
    update_keeps op t q r y sp a s k =
        bind_keeps Any Any s _ _ (checked_keeps Any (outside gang frame r a) Index (place_span q) s (held gang frame r a s) tt)
        (λ x s1 _. bind_keeps Any Any s1 _ _ (checked_keeps Any (offender gang (is_zero op t) a y) Divide sp s1 _ tt)
        (λ z s2 _. (tt, kept_keeps gang frame r a (mapped (converted t (place_type q).elem) z) s2 k)))

    simple_keeps : (x : TSimple) (a : Mask) (s : State) → simple_sets x v ≡ false → Keeps Any s (simple gang frame calls x a s)
    simple_keeps (t_value x) a s e = bind_keeps Any Any s _ _ (value_keeps x a (tick s) e) (λ m s1 _. (tt, same s1))
    simple_keeps (t_run c) a s e = bind_keeps Any Any s _ _ (call_keeps c a (tick s) e) (λ m s1 _. (tt, same s1))
    simple_keeps (t_assign q x sp) a s e =
        let n = neither _ _ e in
        bind_keeps Elsewhere Any s _ _ (place_keeps q a (tick s) n.0)
        (λ r s1 k. bind_keeps Any Any s1 _ _ (value_keeps x a s1 n.1)
        (λ m s2 _. bind_keeps Any Any s2 _ _ (checked_keeps Any (outside gang frame r a) Index (place_span q) s2 m tt)
        (λ z s3 _. (tt, kept_keeps gang frame r a z s3 k))))
    simple_keeps (t_update op t q x sp) a s e =
        let n = neither _ _ e in
        bind_keeps Elsewhere Any s _ _ (place_keeps q a (tick s) n.0)
        (λ r s1 k. bind_keeps Any Any s1 _ _ (value_keeps x a s1 n.1) (λ y s2 _. update_keeps op t q r y sp a s2 k))
    simple_keeps (t_step op t q sp) a s e =
        bind_keeps Elsewhere Any s _ _ (place_keeps q a (tick s) e) (λ r s1 k. update_keeps op t q r (One 1) sp a s1 k)

    item_keeps : (x : TItem) (a : Mask) (s : State) → item_sets x v ≡ false → Keeps Any s (item gang frame calls x a s)
    item_keeps (t_plain w t sp) a s e = (tt, written_keeps t.rate w a (One 0) (tick s) e)
    item_keeps (t_with_value w t x sp) a s e =
        let n = neither _ _ e in
        bind_keeps Any Any s _ _ (value_keeps x a (tick s) n.0) (λ m s1 _. (tt, written_keeps t.rate w a m s1 n.1))
    item_keeps (t_with_size b sp) a s e = (tt, cleared_keeps frame b.ty.rate b.number a (tick s))

    items_keep : (xs : List TItem) (a : Mask) (s : State) → items_set xs v ≡ false → Keeps Any s (items gang frame calls xs a s)
    items_keep [] a s e = (tt, same s)
    items_keep (x ∷ xs) a s e = let n = neither _ _ e in bind_keeps Any Any s _ _ (item_keeps x a s n.0) (λ _ s1 _. items_keep xs a s1 n.1)

    pub first_keeps : (x : Option TFirst) (a : Mask) (s : State) → if_there first_sets x v ≡ false → Keeps Any s (first_part gang frame calls x a s)
    first_keeps None a s e = (tt, same s)
    first_keeps (Some (t_first_declare xs sp)) a s e = items_keep xs a (tick s) e
    first_keeps (Some (t_first_simple x)) a s e = simple_keeps x a s e

    pub step_keeps : (x : Option TSimple) (a : Mask) (s : State) → if_there simple_sets x v ≡ false → Keeps Any s (step_part gang frame calls x a s)
    step_keeps None a s e = (tt, same s)
    step_keeps (Some x) a s e = simple_keeps x a s e

    pub test_keeps : (x : Option TExpr) (a : Mask) (s : State) → if_there loads x v ≡ false → Keeps Any s (test_part gang frame calls x a s)
    test_keeps None a s e = (tt, same s)
    test_keeps (Some x) a s e = value_keeps x a s e

    ranges_keep : (rs : List TRange) (a : Mask) (s : State) → ranges_set rs v ≡ false → Keeps RangesOff s (ranges gang frame calls rs a s)
    ranges_keep [] a s e = (tt, same s)
    ranges_keep (r ∷ rs) a s e =
        let n = neither _ _ e in
        let o = neither _ _ n.1 in
        let u = neither _ _ o.1 in
        bind_keeps Any RangesOff s _ _ (value_keeps r.start a s o.0)
        (λ m s1 _. bind_keeps Any RangesOff s1 _ _ (value_keeps r.end a s1 u.0)
        (λ k s2 _. bind_keeps RangesOff RangesOff s2 _ _ (ranges_keep rs a s2 u.1) (λ xs s3 h. ((n.0, h), same s3))))

    mutual
      run_stays : (x : TStmt) → assigns x v ≡ false → BodyStays (run gang frame calls most x)
      run_stays (t_block b) e a s = block_stays b e a s
      run_stays (t_declare xs sp) e a s = stays_on s (tick s) _ (same s) (all_go_stays a (tick s) (items gang frame calls xs a (tick s)) (items_keep xs a (tick s) e))
      run_stays (t_simple x sp) e a s = all_go_stays a s (simple gang frame calls x a s) (simple_keeps x a s e)
      run_stays (t_if f k test x sp) e a s =
          let n = neither _ _ e in
          with_stays Any s (value gang frame calls test a (tick s)) _ (value_keeps test a (tick s) n.0) (λ m s1 _. branches_stay gang a (run gang frame calls most x) went_all (run_stays x n.1) all_stay m s1)
      run_stays (t_if_else f k test x y sp) e a s =
          let n = neither _ _ e in
          let o = neither _ _ n.1 in
          with_stays Any s (value gang frame calls test a (tick s)) _ (value_keeps test a (tick s) n.0)
          (λ m s1 _. branches_stay gang a (run gang frame calls most x) (run gang frame calls most y) (run_stays x o.0) (run_stays y o.1) m s1)
      run_stays (t_while f k test x sp) e a s =
          let n = neither _ _ e in
          let tests = λ (l : Mask) (s1 : State). value_keeps test l s1 n.0 in
          stays_on s (tick s) _ (same s) (tested_stays gang (value gang frame calls test) (run gang frame calls most x) no_step a tests (run_stays x n.1) no_step_keeps _
          (turns_stay gang (value gang frame calls test) (run gang frame calls most x) no_step a tests (run_stays x n.1) no_step_keeps most) a nobody (tick s))
      run_stays (t_do f k x test sp) e a s =
          let n = neither _ _ e in
          stays_on s (tick s) _ (same s) (turns_stay gang (value gang frame calls test) (run gang frame calls most x) no_step a (λ l s1. value_keeps test l s1 n.0)
          (run_stays x n.1) no_step_keeps most a nobody (tick s))
      run_stays (t_for f k first test step i x sp) e a s =
          let n = neither _ _ e in
          let o = neither _ _ n.1 in
          let u = neither _ _ o.1 in
          with_stays Any s (first_part gang frame calls first a (tick s)) _ (first_keeps first a (tick s) n.0)
          (λ _ s1 _. tested_stays gang (test_part gang frame calls test) (run gang frame calls most x) (step_part gang frame calls step) a
          (λ l s2. test_keeps test l s2 o.0) (run_stays x u.1) (λ l s2. step_keeps step l s2 u.0) _
          (turns_stay gang (test_part gang frame calls test) (run gang frame calls most x) (step_part gang frame calls step) a
          (λ l s2. test_keeps test l s2 o.0) (run_stays x u.1) (λ l s2. step_keeps step l s2 u.0) most) a nobody s1)
      run_stays (t_foreach w k rs x sp) e a s =
          let n = neither _ _ e in
          with_stays RangesOff s (ranges gang frame calls rs a (tick s)) _ (ranges_keep rs a (tick s) n.0)
          (λ xs s1 h. stays_on s1 _ _ (same s1) (foreach_stay (run gang frame calls most x) a (runs_of gang xs) (run_stays x n.1) (runs_off gang xs h) _))
      run_stays (t_foreach_active w k i x sp) e a s =
          let n = neither _ _ e in
          stays_on s (tick s) _ (same s) (active_stay (run gang frame calls most x) a i (members gang a) (run_stays x n.1) n.0 (tick s))
      run_stays (t_foreach_unique w k i t test x sp) e a s =
          let n = neither _ _ e in
          let o = neither _ _ n.1 in
          with_stays Any s (value gang frame calls test a (tick s)) _ (value_keeps test a (tick s) o.0)
          (λ m s1 _. unique_stay (run gang frame calls most x) a (elem_of test) t (spread a m) i (members gang (firsts (elem_of test) (spread a m))) (run_stays x o.1) n.0 s1)
      run_stays (t_unmasked w b sp) e a s =
          stays_on s (tick s) _ (same s) (go_stays (tick s) (block gang frame calls most b (everyone gang) (tick s)) _ (block_stays b e (everyone gang) (tick s)) (λ s1 g b1 c r. all_stay a s1))
      run_stays (t_jump j w sp) e a s = stays_on s (tick s) _ (same s) (jumped_stays j a (tick s))
      run_stays (t_return w None sp) e a s = record { by = same s }
      run_stays (t_return w (Some x) sp) e a s =
          with_stays Any s (value gang frame calls x a (tick s)) _ (value_keeps x a (tick s) e) (λ m s1 _. record { by = answered_keeps frame.answer a m s1 })
      run_stays (t_print w text xs sp) e a s =
          with_stays Any s (values gang frame calls (t_exprs xs) a (tick s)) _ (values_keep (t_exprs xs) a (tick s) e) (λ ms s1 _. record { by = same s1 })
      run_stays (t_assert x c sp) e a s =
          with_stays Any s (value gang frame calls x a (tick s)) _ (value_keeps x a (tick s) e)
          (λ m s1 _. all_go_stays a s1 (checked (offender gang is_false a m) Assert c s1 tt) (checked_keeps Any (offender gang is_false a m) Assert c s1 tt tt))

      block_stays : (b : TBlock) → block_assigns b v ≡ false → BodyStays (block gang frame calls most b)
      block_stays (t_braces xs sp) e a s = stays_on s (tick s) _ (same s) (run_all_stays xs e a (tick s))

      run_all_stays : (xs : TStmts) → all_assign xs v ≡ false → BodyStays (run_all gang frame calls most xs)
      run_all_stays t_no_stmts e a s = all_stay a s
      run_all_stays (t_stmt_then x xs) e a s =
          let n = neither _ _ e in
          go_stays s _ _ (run_stays x n.0 a s)
          (λ s1 g b c r. go_stays s1 _ _ (unless_stays gang g s1 (run_all gang frame calls most xs) (run_all_stays xs n.1)) (λ s2 g2 b2 c2 r2. went_stays s2 _ _ _ _))

    pub statement_stays : (x : TStmt) (a : Mask) (s : State) → assigns x v ≡ false → UnsetBy v s (run gang frame calls most x a s)
    statement_stays x a s e = (run_stays x e a s).by

    pub statements_stay : (xs : TStmts) (a : Mask) (s : State) → all_assign xs v ≡ false → UnsetBy v s (run_all gang frame calls most xs a s)
    statements_stay xs a s e = (run_all_stays xs e a s).by

pub stays_unset : StaysUnset
stays_unset w x a s v e = statement_stays v w.program w.most w.left w.frame x a s e
