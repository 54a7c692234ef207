-- What a statement leaves is a state whose values fit their types.
use Rattle.std.specs.Prelude.{◌≡◌, ℕ, zero, suc, ◌+◌, ◌^◌, ◌<◌, ◌≤◌, List, [], ◌∷◌, ◌++◌, map, Option, Some, None, Bool, true, false, ℤ, slice_get}
use Rattle.std.specs.List.{All}
use Rattle.std.proofs.Common.{refl, ap, subst, arith, pow_pos, inl, inr}
use Rattle.std.proofs.lemmas.List.Elements.{All-head, All-tail}
use Rattle.isp_base.specs.Access.{is_zero}
use Rattle.isp_base.specs.Cross.{or_zero}
use Rattle.isp_base.specs.Maps.{Map, on, where_true}
use Rattle.isp_base.specs.Sets.{Mask, nobody, everyone, union, without, any, lone}
use Rattle.isp_base.specs.Types.{widest}
use Rattle.isp_base.specs.Values.{width, wrap}
use Rattle.isp_base.specs.declared.operators.BinOp.{BinOp}
use Rattle.isp_base.specs.declared.types.Elem.{Elem}
use Rattle.isp_base.specs.declared.types.Elem.TheVariants.{Bool as Truth, I32, I64}
use Rattle.isp_base.specs.declared.types.Rate.TheVariants.{Uniform, Varying}
use Rattle.isp_base.specs.declared.types.Span.{Span}
use Rattle.isp_base.specs.declared.types.Ty.{Ty}
use Rattle.isp_base.specs.declared.trap.TrapKind.TheVariants.{Divide, Index, Assert}
use Rattle.isp_tree.specs.Sound.{IfAny}
use Rattle.isp_tree.specs.declared.stmt.Jump.{Jump}
use Rattle.isp_tree.specs.declared.stmt.Jump.TheVariants.{Break, Continue}
use Rattle.isp_typed.specs.Fine.{FineExpr, FineTarget, FinePlace, FineValue, FineItem, FineSimple, FineFirst, FineRange, FineReturned, FineStmt, FineBlock, FineStmts, FineFunction}
use Rattle.isp_typed.specs.Typed.{TExpr, elem_of, TPlace, t_variable, t_element, place_type, place_span, TItem, t_plain, t_with_value, t_with_size, TSimple, t_value}
use Rattle.isp_typed.specs.Typed.{t_run, t_assign, t_update, t_step, TFirst, t_first_declare, t_first_simple, TRange, TFunction}
use Rattle.isp_typed.specs.Typed.{TStmt, t_block, t_declare, t_simple, t_if, t_if_else, t_while, t_do, t_for, t_foreach, t_foreach_active, t_foreach_unique}
use Rattle.isp_typed.specs.Typed.{t_unmasked, t_jump, t_return, t_print, t_assert, TBlock, t_braces, TStmts, t_no_stmts, t_stmt_then}
use Rattle.isp_rates.specs.Breaches.{OfAny, OfEach}
use Rattle.isp_rates.specs.Rates.{ExprBreach, PlaceBreach}
use Rattle.isp_rates.specs.Exits.{in_loop, in_foreach, in_turns, in_unmasked, returned_rate, ItemBreach, SimpleBreach, FirstBreach, RangeBreach, StmtBreach, BlockBreach, StmtsBreach}
use Rattle.isp_rates.specs.declared.exits.Within.{Within}
use Rattle.isp_meaning.specs.State.{State, tick}
use Rattle.isp_meaning.specs.Payloads.{Payload, One, Each, is_true, is_false, kept_by, offender, mapped, converted, spread}
use Rattle.isp_meaning.specs.Outcomes.{Val, Res, Done}
use Rattle.isp_meaning.specs.Places.{Place, outside, held}
use Rattle.isp_meaning.specs.Expressions.{Calls, value, place}
use Rattle.isp_meaning.specs.Simple.{update, simple, item, items, first_part, step_part}
use Rattle.isp_meaning.specs.Loops.{tested, turns}
use Rattle.isp_meaning.specs.Rounds.{Round, rounds, round_of_one, active_rounds, members, if_listed, holders, firsts, round_of_value, unique_rounds, Range, Run}
use Rattle.isp_meaning.specs.Rounds.{last_run, with_outer, joined_lists, round_of_run, runs_of, foreach_rounds, set_indices, counted}
use Rattle.isp_meaning.specs.Statements.{all_go, branches, jumped, ranges, test_part, run, block, run_all}
use Rattle.isp_type_laws.proofs.Bounds.{Fits, wrap_lt, convert_lt, on_under, mapped_bounded}
use Rattle.isp_type_laws.proofs.Typing.{World, Stands, elem_if, elem_at, answer_elem, Sound, ValFits, ResFits, Any, PlaceFits, left_of, gives_fits, bind_fits, any_fits, with_fits}
use Rattle.isp_type_laws.proofs.Typing.{checked_fits, go_fits, if_fits, went_fits, unless_fits, written_fits, kept_fits, cleared_fits, answered_fits}
use Rattle.isp_type_laws.proofs.Expressions.{NoneOf, demand_own, CallsFit, value_fits, place_fits, call_fits, values_any}

-- ---- control

module _ (gang : ℕ) (w : World) where
  abbrev TestsFit : (Mask → State → Val Payload) → Type 0
  TestsFit test = (a : Mask) (s : State) → Sound gang w s → ValFits gang w (Any gang w) (test a s)

  abbrev StepsFit : (Mask → State → Val Done) → Type 0
  StepsFit step = (a : Mask) (s : State) → Sound gang w s → ValFits gang w (Any gang w) (step a s)

  abbrev BodiesFit : (Mask → State → Res) → Type 0
  BodiesFit body = (a : Mask) (s : State) → Sound gang w s → ResFits gang w (body a s)

  abbrev TurnsFit : (Mask → Mask → State → Res) → Type 0
  TurnsFit turn = (k r : Mask) (s : State) → Sound gang w s → ResFits gang w (turn k r s)

  all_fits : (a : Mask) (v : Val Done) → ValFits gang w (Any gang w) v → ResFits gang w (all_go a v)
  all_fits a v h = with_fits gang w (Any gang w) v _ h (λ x s _ k. went_fits gang w s _ _ _ _ k)

  branches_fit : (a : Mask) (f g : Mask → State → Res) → BodiesFit f → BodiesFit g → (m : Payload) (s : State) → Sound gang w s → ResFits gang w (branches gang a f g m s)
  branches_fit a f g p q (One c) s h = if_fits gang w (is_true c) _ _ s (p a s h) (q a s h)
  branches_fit a f g p q (Each c) s h =
      go_fits gang w _ _ (unless_fits gang w gang (where_true is_true c) s f (p _ s h) h)
      (λ s1 _ _ _ _ h1. go_fits gang w _ _ (unless_fits gang w gang (without a (where_true is_true c)) s1 g (q _ s1 h1) h1)
      (λ s2 _ _ _ _ h2. went_fits gang w s2 _ _ _ _ h2))

  module _ (test : Mask → State → Val Payload) (body : Mask → State → Res) (step : Mask → State → Val Done) (all : Mask) (tests : TestsFit test) (bodies : BodiesFit body) (steps : StepsFit step) where
    tested_fits : (turn : Mask → Mask → State → Res) → TurnsFit turn → (live r : Mask) (s : State) → Sound gang w s → ResFits gang w (tested gang test body step all turn live r s)
    tested_fits turn p live r s h =
        with_fits gang w (Any gang w) _ _ (tests live s h) (λ m s1 _ h1. if_fits gang w (any gang (kept_by is_true live m)) _ _ s1 (p (kept_by is_true live m) r s1 h1) (went_fits gang w s1 _ _ _ _ h1))

    turns_fit : (n : ℕ) → TurnsFit (turns gang test body step all n)
    turns_fit zero k r s h = record { by = left_of gang w s h }
    turns_fit (suc n) k r s h =
        go_fits gang w _ _ (bodies k (tick s) h) (λ s1 g b c r1 h1. if_fits gang w (any gang (union g c)) _ _ s1
        (with_fits gang w (Any gang w) _ _ (steps (union g c) s1 h1) (λ _ s2 _ h2. tested_fits _ (turns_fit n) (union g c) (union r r1) s2 h2))
        (went_fits gang w s1 _ _ _ _ h1))

  -- ---- rounds

  -- what is done before each round
  abbrev RoundsFit : List Round → Type 0
  RoundsFit [] = Unit {0}
  RoundsFit (x ∷ xs) = ((s : State) → Sound gang w s → Sound gang w (x.begins s)) × RoundsFit xs

  rounds_fit : (body : Mask → State → Res) → BodiesFit body → (all : Mask) (xs : List Round) → RoundsFit xs → (s : State) → Sound gang w s → ResFits gang w (rounds body all xs s)
  rounds_fit body p all [] q s h = went_fits gang w s _ _ _ _ h
  rounds_fit body p all (x ∷ xs) q s h = go_fits gang w _ _ (p x.members (x.begins s) (q.0 s h)) (λ s1 _ _ _ _ h1. rounds_fit body p all xs q.1 s1 h1)

  -- the indices are variables of int32
  abbrev RangesFit : List Range → Type 0
  RangesFit [] = Unit {0}
  RangesFit (r ∷ rs) = (elem_at w r.index ≡ I32) × RangesFit rs

  abbrev IndicesFit : List (ℕ × (ℕ → ℤ)) → Type 0
  IndicesFit [] = Unit {0}
  IndicesFit (x ∷ xs) = (elem_at w x.0 ≡ I32) × IndicesFit xs

  abbrev RunsFit : List Run → Type 0
  RunsFit [] = Unit {0}
  RunsFit (x ∷ xs) = IndicesFit x.indices × RunsFit xs

  indices_fit : (a : Mask) (xs : List (ℕ × (ℕ → ℤ))) → IndicesFit xs → (s : State) → Sound gang w s → Sound gang w (set_indices a xs s)
  indices_fit a [] q s h = h
  indices_fit a (x ∷ xs) q s h =
      indices_fit a xs q.1 _ (written_fits gang w I32 Varying x.0 a (Each (on a (λ p. wrap I32 (x.1 p)))) s q.0 (λ p l. on_under (2 ^ 32) a (λ i. wrap I32 (x.1 i)) p (wrap_lt I32 (x.1 p))) h)

  runs_rounds : (xs : List Run) → RunsFit xs → RoundsFit (map round_of_run xs)
  runs_rounds [] q = tt
  runs_rounds (x ∷ xs) q = (λ s h. indices_fit x.members x.indices q.0 s h, runs_rounds xs q.1)

  last_fit : (r : Range) → elem_at w r.index ≡ I32 → (zs : List ℤ) → RunsFit (map (last_run gang r) zs)
  last_fit r q [] = tt
  last_fit r q (z ∷ zs) = ((q, tt), last_fit r q zs)

  outer_fit : (i : ℕ) → elem_at w i ≡ I32 → (z : ℤ) (xs : List Run) → RunsFit xs → RunsFit (map (with_outer i z) xs)
  outer_fit i q z [] h = tt
  outer_fit i q z (x ∷ xs) h = ((q, h.0), outer_fit i q z xs h.1)

  runs_on : (xs ys : List Run) → RunsFit xs → RunsFit ys → RunsFit (xs ++ ys)
  runs_on [] ys h k = k
  runs_on (x ∷ xs) ys h k = (h.0, runs_on xs ys h.1 k)

  joined_fit : (i : ℕ) → elem_at w i ≡ I32 → (xs : List Run) → RunsFit xs → (zs : List ℤ) → RunsFit (joined_lists (map (λ z. map (with_outer i z) xs) zs))
  joined_fit i q xs h [] = tt
  joined_fit i q xs h (z ∷ zs) = runs_on (map (with_outer i z) xs) _ (outer_fit i q z xs h) (joined_fit i q xs h zs)

  runs_fit : (rs : List Range) → RangesFit rs → RunsFit (runs_of gang rs)
  runs_fit [] q = tt
  runs_fit (r ∷ []) q = last_fit r q.0 _
  runs_fit (r ∷ o ∷ rs) q = joined_fit r.index q.0 (runs_of gang (o ∷ rs)) (runs_fit (o ∷ rs) q.1) _

  -- the members are numbers below that of the instances
  abbrev AllBelow : List ℕ → Type 0
  AllBelow [] = Unit {0}
  AllBelow (p ∷ ps) = (p < gang) × AllBelow ps

  below_on : (ps qs : List ℕ) → AllBelow ps → AllBelow qs → AllBelow (ps ++ qs)
  below_on [] qs h k = k
  below_on (p ∷ ps) qs h k = (h.0, below_on ps qs h.1 k)

  listed_below : (t : Bool) (p : ℕ) → p < gang → AllBelow (if_listed t p)
  listed_below true p l = (l, tt)
  listed_below false p l = tt

  members_below : (n : ℕ) (a : Mask) → n ≤ gang → AllBelow (members n a)
  members_below zero a l = tt
  members_below (suc n) a l = below_on (members n a) (if_listed (a n) n) (members_below n a (omega arith)) (listed_below (a n) n (omega arith))

  active_fit : gang ≤ widest → (i : ℕ) → elem_at w i ≡ I64 → (ps : List ℕ) → AllBelow ps → RoundsFit (map (round_of_one i) ps)
  active_fit few i q [] h = tt
  active_fit few i q (p ∷ ps) h = (λ s k. written_fits gang w I64 Uniform i (lone (Some p)) (One p) (tick s) q (omega (arith, h.0, few)) k, active_fit few i q ps h.1)

  unique_fit : (u t : Elem) (x : Map) (i : ℕ) → elem_at w i ≡ t → (ps : List ℕ) → RoundsFit (map (round_of_value u t x i) ps)
  unique_fit u t x i q [] = tt
  unique_fit u t x i q (p ∷ ps) =
      (λ s k. written_fits gang w t Uniform i (holders u x p) (One (converted u t (or_zero (x p)))) (tick s) q (convert_lt t _) k, unique_fit u t x i q ps)

  jumped_fits : (j : Jump) (a : Mask) (s : State) → Sound gang w s → ResFits gang w (jumped j a s)
  jumped_fits Break a s h = went_fits gang w s _ _ _ _ h
  jumped_fits Continue a s h = went_fits gang w s _ _ _ _ h

-- ---- statements

module _ (gang : ℕ) (some : 0 < gang) (few : gang ≤ widest) (fs : List TFunction) (each : (k : ℕ) (g : TFunction) → slice_get fs k ≡ Some g → FineFunction fs g) (calls : Calls) (fit : CallsFit gang fs calls) (w : World) (stands : Stands w) where
  -- a value of a type, or one of which nothing is asked
  typed_fits : (e : Elem) (x : TExpr) → FineValue fs w.variables e x → NoneOf (ExprBreach fs x) → (a : Mask) (s : State) → Sound gang w s → ValFits gang w (Fits gang e) (value gang w.frame calls x a s)
  typed_fits e x f n a s h =
      subst (λ z. ValFits gang w (Fits gang z) (value gang w.frame calls x a s)) f.1 (value_fits gang some few fs each calls fit w stands x f.0 n a s h)

  plain_fits : (x : TExpr) → FineExpr fs w.variables x → NoneOf (ExprBreach fs x) → (a : Mask) (s : State) → Sound gang w s → ValFits gang w (Any gang w) (value gang w.frame calls x a s)
  plain_fits x f n a s h = any_fits gang w (Fits gang (elem_of x)) _ (value_fits gang some few fs each calls fit w stands x f n a s h)

  target_place : (q : TPlace) → FineTarget fs w.variables q → FinePlace fs w.variables q
  target_place (t_variable k t sp) f = record { constant = false; is = f }
  target_place (t_element b i t sp) f = f.0

  target_fits : (q : TPlace) → FineTarget fs w.variables q → NoneOf (PlaceBreach fs q) → (a : Mask) (s : State) → Sound gang w s → ValFits gang w (PlaceFits gang w (place_type q).elem) (place gang w.frame calls q a s)
  target_fits q f n a s h = place_fits gang some few fs each calls fit w stands q (target_place q f) n a s h

  update_fits : (op : BinOp) (t : Elem) (q : TPlace) (r : Place) (y : Payload) (sp : Span) (a : Mask) (s : State) → PlaceFits gang w (place_type q).elem r → Sound gang w s → ValFits gang w (Any gang w) (update gang w.frame calls op t q r y sp a s)
  update_fits op t q r y sp a s k h =
      bind_fits gang w (Any gang w) (Any gang w) _ _ (checked_fits gang w (Any gang w) (outside gang w.frame r a) Index (place_span q) s
      (held gang w.frame r a s) tt h) (λ x s1 _ h1. bind_fits gang w (Any gang w) (Any gang w) _ _
      (checked_fits gang w (Any gang w) (offender gang (is_zero op t) a y) Divide sp s1 _ tt h1)
      (λ z s2 _ h2. gives_fits gang w (Any gang w) tt _ tt
      (kept_fits gang w (place_type q).elem r a (mapped (converted t (place_type q).elem) z) s2 k
      (mapped_bounded gang (2 ^ width (place_type q).elem) (converted t (place_type q).elem) (λ i. convert_lt (place_type q).elem _) z) h2)))

  simple_fits : (x : TSimple) → FineSimple fs w.variables x → NoneOf (SimpleBreach fs x) → (a : Mask) (s : State) → Sound gang w s → ValFits gang w (Any gang w) (simple gang w.frame calls x a s)
  simple_fits (t_value x) f n a s h = bind_fits gang w (Any gang w) (Any gang w) _ _ (plain_fits x f n a (tick s) h) (λ m s1 _ h1. gives_fits gang w (Any gang w) tt s1 tt h1)
  simple_fits (t_run c) f n a s h =
      bind_fits gang w (Fits gang Truth) (Any gang w) _ _ (call_fits gang some few fs each calls fit w stands c None f n a (tick s) h) (λ m s1 _ h1. gives_fits gang w (Any gang w) tt s1 tt h1)
  simple_fits (t_assign q x sp) f n a s h =
      bind_fits gang w (PlaceFits gang w (place_type q).elem) (Any gang w) _ _ (target_fits q f.0 (λ e b. n e (inl b)) a (tick s) h)
      (λ r s1 k h1. bind_fits gang w (Fits gang (place_type q).elem) (Any gang w) _ _
      (typed_fits (place_type q).elem x f.1 (demand_own (place_type q).rate x (ExprBreach fs x) (λ e b. n e (inr b))) a s1 h1)
      (λ m s2 i h2. bind_fits gang w (Fits gang (place_type q).elem) (Any gang w) _ _
      (checked_fits gang w (Fits gang (place_type q).elem) (outside gang w.frame r a) Index (place_span q) s2 m i h2)
      (λ u s3 j h3. gives_fits gang w (Any gang w) tt _ tt (kept_fits gang w (place_type q).elem r a u s3 k j h3))))
  simple_fits (t_update op t q x sp) f n a s h =
      bind_fits gang w (PlaceFits gang w (place_type q).elem) (Any gang w) _ _ (target_fits q f.0 (λ e b. n e (inl b)) a (tick s) h)
      (λ r s1 k h1. bind_fits gang w (Any gang w) (Any gang w) _ _
      (plain_fits x f.1.0 (demand_own (place_type q).rate x (ExprBreach fs x) (λ e b. n e (inr b))) a s1 h1)
      (λ y s2 _ h2. update_fits op t q r y sp a s2 k h2))
  simple_fits (t_step op t q sp) f n a s h =
      bind_fits gang w (PlaceFits gang w (place_type q).elem) (Any gang w) _ _ (target_fits q f.0 n a (tick s) h) (λ r s1 k h1. update_fits op t q r (One 1) sp a s1 k h1)

  item_fits : (x : TItem) → FineItem fs w.variables x → NoneOf (ItemBreach fs x) → (a : Mask) (s : State) → Sound gang w s → ValFits gang w (Any gang w) (item gang w.frame calls x a s)
  item_fits (t_plain v t sp) f n a s h = gives_fits gang w (Any gang w) tt _ tt (written_fits gang w t.elem t.rate v a (One 0) (tick s) (ap elem_if f.is) (pow_pos (width t.elem)) h)
  item_fits (t_with_value v t x sp) f n a s h =
      bind_fits gang w (Fits gang t.elem) (Any gang w) _ _ (typed_fits t.elem x f.1 (demand_own t.rate x (ExprBreach fs x) n) a (tick s) h)
      (λ m s1 k h1. gives_fits gang w (Any gang w) tt _ tt (written_fits gang w t.elem t.rate v a m s1 (ap elem_if f.0.is) k h1))
  item_fits (t_with_size b sp) f n a s h = gives_fits gang w (Any gang w) tt _ tt (cleared_fits gang w b.ty.rate b.number a (tick s) h)

  items_fit : (xs : List TItem) → All (FineItem fs w.variables) xs → NoneOf (OfEach (ItemBreach fs) xs) → (a : Mask) (s : State) → Sound gang w s → ValFits gang w (Any gang w) (items gang w.frame calls xs a s)
  items_fit [] f n a s h = gives_fits gang w (Any gang w) tt s tt h
  items_fit (x ∷ xs) f n a s h =
      bind_fits gang w (Any gang w) (Any gang w) _ _ (item_fits x (All-head (FineItem fs w.variables) x xs f) (λ e b. n e (inl b)) a s h) (λ _ s1 _ h1. items_fit xs (All-tail (FineItem fs w.variables) x xs f) (λ e b. n e (inr b)) a s1 h1)

  first_fits : (x : Option TFirst) → IfAny (FineFirst fs w.variables) x → NoneOf (OfAny (FirstBreach fs) x) → (a : Mask) (s : State) → Sound gang w s → ValFits gang w (Any gang w) (first_part gang w.frame calls x a s)
  first_fits None f n a s h = gives_fits gang w (Any gang w) tt s tt h
  first_fits (Some (t_first_declare xs sp)) f n a s h = items_fit xs f n a (tick s) h
  first_fits (Some (t_first_simple x)) f n a s h = simple_fits x f n a s h

  step_fits : (x : Option TSimple) → IfAny (FineSimple fs w.variables) x → NoneOf (OfAny (SimpleBreach fs) x) → StepsFit gang w (step_part gang w.frame calls x)
  step_fits None f n a s h = gives_fits gang w (Any gang w) tt s tt h
  step_fits (Some x) f n a s h = simple_fits x f n a s h

  test_fits : (x : Option TExpr) → IfAny (FineValue fs w.variables Truth) x → NoneOf (OfAny (ExprBreach fs) x) → TestsFit gang w (test_part gang w.frame calls x)
  test_fits None f n a s h = gives_fits gang w (Any gang w) (One 1) s tt h
  test_fits (Some x) f n a s h = plain_fits x f.0 n a s h

  ranges_fit : (rs : List TRange) → All (FineRange fs w.variables) rs → NoneOf (OfEach (RangeBreach fs) rs) → (a : Mask) (s : State) → Sound gang w s → ValFits gang w (RangesFit gang w) (ranges gang w.frame calls rs a s)
  ranges_fit [] f n a s h = gives_fits gang w (RangesFit gang w) [] s tt h
  ranges_fit (r ∷ rs) f n a s h =
      let fine = All-head (FineRange fs w.variables) r rs f in
      bind_fits gang w (Any gang w) (RangesFit gang w) _ _
      (plain_fits r.start fine.start.0 (demand_own Uniform r.start (ExprBreach fs r.start) (λ e b. n e (inl (inl b)))) a s h)
      (λ m s1 _ h1. bind_fits gang w (Any gang w) (RangesFit gang w) _ _
      (plain_fits r.end fine.end.0 (demand_own Uniform r.end (ExprBreach fs r.end) (λ e b. n e (inl (inr b)))) a s1 h1)
      (λ u s2 _ h2. bind_fits gang w (RangesFit gang w) (RangesFit gang w) _ _
      (ranges_fit rs (All-tail (FineRange fs w.variables) r rs f) (λ e b. n e (inr b)) a s2 h2)
      (λ xs s3 k h3. gives_fits gang w (RangesFit gang w) _ s3 (ap elem_if fine.index, k) h3)))

  returned_fine : (o : Option Ty) (x : TExpr) → FineReturned fs w.variables o (Some x) → FineValue fs w.variables (answer_elem o) x
  returned_fine None x f = absurd f
  returned_fine (Some t) x f = f

  module _ (most : ℕ) where
    mutual
      run_fits : (x : TStmt) → FineStmt fs w.variables w.frame.answer x → (i : Within) → NoneOf (StmtBreach fs w.frame.answer i x) → BodiesFit gang w (run gang w.frame calls most x)
      run_fits (t_block b) f i n a s h = block_fits b f i n a s h
      run_fits (t_declare xs sp) f i n a s h = all_fits gang w a _ (items_fit xs f n a (tick s) h)
      run_fits (t_simple x sp) f i n a s h = all_fits gang w a _ (simple_fits x f n a s h)
      run_fits (t_if o k e x sp) f i n a s h =
          with_fits gang w (Any gang w) _ _ (plain_fits e f.1.0 (λ z b. n z (inl b)) a (tick s) h) (λ m s1 _ h1. branches_fit gang w a _ _ (run_fits x f.2 i (λ z b. n z (inr b))) (λ b s2 h2. went_fits gang w s2 b nobody nobody nobody h2) m s1 h1)
      run_fits (t_if_else o k e x y sp) f i n a s h =
          with_fits gang w (Any gang w) _ _ (plain_fits e f.1.0 (λ z b. n z (inl b)) a (tick s) h) (λ m s1 _ h1. branches_fit gang w a _ _ (run_fits x f.2 i (λ z b. n z (inr (inl b)))) (run_fits y f.3 i (λ z b. n z (inr (inr b)))) m s1 h1)
      run_fits (t_while o k e x sp) f i n a s h =
          tested_fits gang w _ _ _ a (plain_fits e f.1.0 (λ z b. n z (inl b))) (run_fits x f.2 (in_loop i) (λ z b. n z (inr b)))
          (λ l s1 h1. gives_fits gang w (Any gang w) tt s1 tt h1) _
          (turns_fit gang w _ _ _ a (plain_fits e f.1.0 (λ z b. n z (inl b))) (run_fits x f.2 (in_loop i) (λ z b. n z (inr b)))
          (λ l s1 h1. gives_fits gang w (Any gang w) tt s1 tt h1) most) a nobody (tick s) h
      run_fits (t_do o k x e sp) f i n a s h =
          turns_fit gang w _ _ _ a (plain_fits e f.2.0 (λ z b. n z (inr b))) (run_fits x f.1 (in_loop i) (λ z b. n z (inl b))) (λ l s1 h1. gives_fits gang w (Any gang w) tt s1 tt h1) most a nobody (tick s) h
      run_fits (t_for o k first e step inside x sp) f i n a s h =
          with_fits gang w (Any gang w) _ _ (first_fits first f.2 (λ z b. n z (inl b)) a (tick s) h)
          (λ _ s1 _ h1. tested_fits gang w _ _ _ a (test_fits e f.3 (λ z b. n z (inr (inl b))))
          (run_fits x f.5 (in_loop i) (λ z b. n z (inr (inr (inr b))))) (step_fits step f.4 (λ z b. n z (inr (inr (inl b))))) _
          (turns_fit gang w _ _ _ a (test_fits e f.3 (λ z b. n z (inr (inl b)))) (run_fits x f.5 (in_loop i) (λ z b. n z (inr (inr (inr b)))))
          (step_fits step f.4 (λ z b. n z (inr (inr (inl b))))) most) a nobody s1 h1)
      run_fits (t_foreach o k rs x sp) f i n a s h =
          with_fits gang w (RangesFit gang w) _ _ (ranges_fit rs f.1 (λ z b. n z (inr (inl b))) a (tick s) h)
          (λ xs s1 q h1. rounds_fit gang w _ (run_fits x f.2 (in_foreach i) (λ z b. n z (inr (inr b)))) a (foreach_rounds gang xs)
          (runs_rounds gang w (runs_of gang xs) (runs_fit gang w xs q)) (record s1 { work = s1.work + counted gang 1 xs }) h1)
      run_fits (t_foreach_active o k v x sp) f i n a s h =
          rounds_fit gang w _ (run_fits x f.2 (in_turns i) n) a (active_rounds gang v a) (active_fit gang w few v (ap elem_if f.1) (members gang a) (members_below gang w gang a (omega arith))) (tick s) h
      run_fits (t_foreach_unique o k v t e x sp) f i n a s h =
          with_fits gang w (Any gang w) _ _ (plain_fits e f.2.0 (λ z b. n z (inl b)) a (tick s) h)
          (λ m s1 _ h1. rounds_fit gang w _ (run_fits x f.3 (in_turns i) (λ z b. n z (inr b))) a (unique_rounds gang (elem_of e) t v (spread a m))
          (unique_fit gang w (elem_of e) t (spread a m) v (ap elem_if f.1) (members gang (firsts (elem_of e) (spread a m)))) s1 h1)
      run_fits (t_unmasked o b sp) f i n a s h = go_fits gang w _ _ (block_fits b f (in_unmasked i) n (everyone gang) (tick s) h) (λ s1 _ _ _ _ h1. went_fits gang w s1 _ _ _ _ h1)
      run_fits (t_jump j o sp) f i n a s h = jumped_fits gang w j a (tick s) h
      run_fits (t_return o None sp) f i n a s h = went_fits gang w (tick s) _ _ _ _ h
      run_fits (t_return o (Some x) sp) f i n a s h =
          with_fits gang w (Fits gang (answer_elem w.frame.answer)) _ _
          (typed_fits (answer_elem w.frame.answer) x (returned_fine w.frame.answer x f)
          (demand_own (returned_rate w.frame.answer) x (ExprBreach fs x) (λ z b. n z (inr b))) a (tick s) h)
          (λ m s1 k h1. went_fits gang w _ _ _ _ _ (answered_fits gang w w.frame.answer a m s1 refl k h1))
      run_fits (t_print o text xs sp) f i n a s h =
          with_fits gang w (Any gang w) _ _ (values_any gang some few fs each calls fit w stands xs f.1 n a (tick s) h) (λ ms s1 _ h1. went_fits gang w _ _ _ _ _ h1)
      run_fits (t_assert x c sp) f i n a s h =
          with_fits gang w (Any gang w) _ _ (plain_fits x f.0.0 n a (tick s) h) (λ m s1 _ h1. all_fits gang w a _ (checked_fits gang w (Any gang w) (offender gang is_false a m) Assert c s1 tt tt h1))

      pub block_fits : (b : TBlock) → FineBlock fs w.variables w.frame.answer b → (i : Within) → NoneOf (BlockBreach fs w.frame.answer i b) → BodiesFit gang w (block gang w.frame calls most b)
      block_fits (t_braces xs sp) f i n a s h = run_all_fit xs f i n a (tick s) h

      run_all_fit : (xs : TStmts) → FineStmts fs w.variables w.frame.answer xs → (i : Within) → NoneOf (StmtsBreach fs w.frame.answer i xs) → BodiesFit gang w (run_all gang w.frame calls most xs)
      run_all_fit t_no_stmts f i n a s h = went_fits gang w s _ _ _ _ h
      run_all_fit (t_stmt_then x xs) f i n a s h =
          go_fits gang w _ _ (run_fits x f.0 i (λ z b. n z (inl b)) a s h)
          (λ s1 g _ _ _ h1. go_fits gang w _ _ (unless_fits gang w gang g s1 (run_all gang w.frame calls most xs)
          (run_all_fit xs f.1 i (λ z b. n z (inr b)) g s1 h1) h1) (λ s2 _ _ _ _ h2. went_fits gang w s2 _ _ _ _ h2))
