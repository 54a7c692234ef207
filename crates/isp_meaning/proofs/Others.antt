-- Nothing of an instance outside the set changes by a statement, unless a `foreach` or an `unmasked` stands in it.
use Rattle.std.specs.Prelude.{◌≡◌, ℕ, zero, suc, List, [], ◌∷◌, ◌++◌, map, Option, Some, None, Bool, true, false, not, ◌&&◌, ◌||◌, nat_eq}
use Rattle.std.proofs.Common.{refl, sym, ap, ◌∙◌, arith}
use Rattle.std.proofs.lemmas.Bool.{ne_eqb}
use Rattle.isp_base.specs.Access.{is_zero}
use Rattle.isp_base.specs.Sets.{Mask, nobody, union, without, any, lone}
use Rattle.isp_base.specs.Maps.{Map, or_old, holds, where_true}
use Rattle.isp_base.specs.Types.{gang_width}
use Rattle.isp_base.specs.declared.operators.BinOp.{BinOp}
use Rattle.isp_base.specs.declared.types.Elem.{Elem}
use Rattle.isp_base.specs.declared.types.Rate.{Rate}
use Rattle.isp_base.specs.declared.types.Rate.TheVariants.{Uniform, Varying}
use Rattle.isp_base.specs.declared.types.Span.{Span}
use Rattle.isp_base.specs.declared.types.Ty.{Ty}
use Rattle.isp_base.specs.declared.trap.TrapKind.TheVariants.{Divide, Index, Assert}
use Rattle.isp_tree.specs.declared.stmt.Jump.{Jump}
use Rattle.isp_tree.specs.declared.stmt.Jump.TheVariants.{Break, Continue}
use Rattle.isp_typed.specs.Typed.{TExpr, t_exprs, elem_of, TPlace, place_type, place_span, TItem, t_plain, t_with_value, t_with_size, TSimple, t_value, t_run, t_assign, t_update, t_step, TFirst}
use Rattle.isp_typed.specs.Typed.{t_first_declare, t_first_simple, TStmt, t_block, t_declare, t_simple, t_if, t_if_else, t_while, t_do, t_for, t_foreach, t_foreach_active, t_foreach_unique}
use Rattle.isp_typed.specs.Typed.{t_unmasked, t_jump, t_return, t_print, t_assert, TBlock, t_braces, TStmts, t_no_stmts, t_stmt_then}
use Rattle.isp_meaning.specs.State.{State, Frame, tick}
use Rattle.isp_meaning.specs.Payloads.{Payload, One, Each, is_true, is_false, kept_by, offender, mapped, converted, spread}
use Rattle.isp_meaning.specs.Outcomes.{Val, Gives, Fails, Stops, Res, Went, Trapped, Cut, Done, with_value, checked, go_on, went_all, if_so, unless_empty}
use Rattle.isp_meaning.specs.Places.{Place, outside, held}
use Rattle.isp_meaning.specs.Expressions.{Calls, value, values}
use Rattle.isp_meaning.specs.Simple.{update, simple, item, items, first_part, step_part}
use Rattle.isp_meaning.specs.Loops.{loop_end, tested, turns}
use Rattle.isp_meaning.specs.Rounds.{rounds, round_of_one, members, if_listed, firsts, holders, round_of_value}
use Rattle.isp_meaning.specs.Statements.{all_go, answered, answered_at, branches, jumped, test_part, run, block, run_all}
use Rattle.isp_meaning.specs.Calls.{calls_at}
use Rattle.isp_meaning.specs.Laws.{Untouched, Masked, MaskedBlock, MaskedAll, LeavesBy, Leaves, OthersStay}
use Rattle.isp_meaning.proofs.Outside.{Absent, AbsentPlace, AbsentAll, Any, Off, CallsOff, same, touch_on, kept_off, spread_none, mapped_absent, joined_absent, held_absent, checked_off}
use Rattle.isp_meaning.proofs.Outside.{written_off, kept_off_at, cleared_off, bind_off, value_off, place_off, values_off, call_off, calls_off}

-- ---- simple statements

module _ (gang : ℕ) (frame : Frame) (calls : Calls) (off : CallsOff calls) (p : ℕ) where
  update_off : (op : BinOp) (t : Elem) (q : TPlace) (r : Place) (y : Payload) (sp : Span) (a : Mask) (s : State) → a p ≡ false → AbsentPlace p r → Off p (Any p) s (update gang frame calls op t q r y sp a s)
  update_off op t q r y sp a s h k =
      bind_off p (Absent p) (Any p) s _ _ (checked_off p (Absent p) (outside gang frame r a) Index (place_span q) s (held gang frame r a s)
      (held_absent p gang frame r a s h k)) (λ x s1 i. bind_off p (Absent p) (Any p) s1 _ _
      (checked_off p (Absent p) (offender gang (is_zero op t) a y) Divide sp s1 _
      (joined_absent p _ a (mapped (converted (place_type q).elem t) x) y h (mapped_absent p _ x i)))
      (λ z s2 j. (tt, kept_off_at p gang frame r a (mapped (converted t (place_type q).elem) z) s2 h k (mapped_absent p _ z j))))

  simple_off : (x : TSimple) (a : Mask) (s : State) → a p ≡ false → Off p (Any p) s (simple gang frame calls x a s)
  simple_off (t_value x) a s h = bind_off p (Absent p) (Any p) s _ _ (value_off gang frame calls off p x a (tick s) h) (λ m s1 k. (tt, same p s1))
  simple_off (t_run c) a s h = bind_off p (Absent p) (Any p) s _ _ (call_off gang frame calls off p c a (tick s) h) (λ m s1 k. (tt, same p s1))
  simple_off (t_assign q x sp) a s h =
      bind_off p (AbsentPlace p) (Any p) s _ _ (place_off gang frame calls off p q a (tick s) h)
      (λ r s1 k. bind_off p (Absent p) (Any p) s1 _ _ (value_off gang frame calls off p x a s1 h)
      (λ m s2 i. bind_off p (Absent p) (Any p) s2 _ _ (checked_off p (Absent p) (outside gang frame r a) Index (place_span q) s2 m i)
      (λ n s3 j. (tt, kept_off_at p gang frame r a n s3 h k j))))
  simple_off (t_update op t q x sp) a s h =
      bind_off p (AbsentPlace p) (Any p) s _ _ (place_off gang frame calls off p q a (tick s) h) (λ r s1 k. bind_off p (Absent p) (Any p) s1 _ _ (value_off gang frame calls off p x a s1 h) (λ y s2 i. update_off op t q r y sp a s2 h k))
  simple_off (t_step op t q sp) a s h =
      bind_off p (AbsentPlace p) (Any p) s _ _ (place_off gang frame calls off p q a (tick s) h) (λ r s1 k. update_off op t q r (One 1) sp a s1 h k)

  item_off : (x : TItem) (a : Mask) (s : State) → a p ≡ false → Off p (Any p) s (item gang frame calls x a s)
  item_off (t_plain v t sp) a s h = (tt, written_off p t.rate v a (One 0) (tick s) h tt)
  item_off (t_with_value v t x sp) a s h = bind_off p (Absent p) (Any p) s _ _ (value_off gang frame calls off p x a (tick s) h) (λ m s1 k. (tt, written_off p t.rate v a m s1 h k))
  item_off (t_with_size b sp) a s h = (tt, cleared_off p frame b.ty.rate b.number a (tick s) h)

  items_off : (xs : List TItem) (a : Mask) (s : State) → a p ≡ false → Off p (Any p) s (items gang frame calls xs a s)
  items_off [] a s h = (tt, same p s)
  items_off (x ∷ xs) a s h = bind_off p (Any p) (Any p) s _ _ (item_off x a s h) (λ _ s1 _. items_off xs a s1 h)

  first_part_off : (x : Option TFirst) (a : Mask) (s : State) → a p ≡ false → Off p (Any p) s (first_part gang frame calls x a s)
  first_part_off None a s h = (tt, same p s)
  first_part_off (Some (t_first_declare xs sp)) a s h = items_off xs a (tick s) h
  first_part_off (Some (t_first_simple x)) a s h = simple_off x a s h

  step_part_off : (x : Option TSimple) (a : Mask) (s : State) → a p ≡ false → Off p (Any p) s (step_part gang frame calls x a s)
  step_part_off None a s h = (tt, same p s)
  step_part_off (Some x) a s h = simple_off x a s h

  test_part_off : (x : Option TExpr) (a : Mask) (s : State) → a p ≡ false → Off p (Absent p) s (test_part gang frame calls x a s)
  test_part_off None a s h = (tt, same p s)
  test_part_off (Some x) a s h = value_off gang frame calls off p x a s h

-- ---- control: the instance is in none of the sets, and stays as it is

module _ (p : ℕ) where
  abbrev Still : State → Res → Type 0
  Still s (Went s1 g b c r) = Untouched p s s1 × (g p ≡ false) × (b p ≡ false) × (c p ≡ false) × (r p ≡ false)
  Still s (Trapped t s1) = Unit {0}
  Still s (Cut s1) = Unit {0}

  record Stays (s : State) (v : Res) : Type 0 where
    pub by : Still s v

  on_still : (s s1 : State) (v : Res) → Untouched p s s1 → Still s1 v → Still s v
  on_still s s1 (Went s2 g b c r) h k = (touch_on p s s1 s2 h k.0, k.1, k.2, k.3, k.4)
  on_still s s1 (Trapped t s2) h k = tt
  on_still s s1 (Cut s2) h k = tt

  stays_on : (s s1 : State) (v : Res) → Untouched p s s1 → Stays s1 v → Stays s v
  stays_on s s1 v h k = record { by = on_still s s1 v h k.by }

  with_stays : {A : Type 0} (Q : A → Type 0) (s : State) (v : Val A) (go : A → State → Res) → Off p Q s v → ((x : A) (s1 : State) → Q x → Stays s1 (go x s1)) → Stays s (with_value v go)
  with_stays Q s (Gives x s1) go h f = stays_on s s1 (go x s1) h.1 (f x s1 h.0)
  with_stays Q s (Fails t s1) go h f = record { by = tt }
  with_stays Q s (Stops s1) go h f = record { by = tt }

  go_stays : (s : State) (v : Res) (go : State → Mask → Mask → Mask → Mask → Res) → Stays s v → ((s1 : State) (g b c r : Mask) → g p ≡ false → b p ≡ false → c p ≡ false → r p ≡ false → Stays s1 (go s1 g b c r)) → Stays s (go_on v go)
  go_stays s (Went s1 g b c r) go h f = stays_on s s1 (go s1 g b c r) h.by.0 (f s1 g b c r h.by.1 h.by.2 h.by.3 h.by.4)
  go_stays s (Trapped t s1) go h f = record { by = tt }
  go_stays s (Cut s1) go h f = record { by = tt }

  all_stays : (a : Mask) (s : State) → a p ≡ false → Stays s (went_all a s)
  all_stays a s h = record { by = (same p s, h, refl, refl, refl) }

  if_stays : (s : State) (t : Bool) (m n : State → Res) → Stays s (m s) → Stays s (n s) → Stays s (if_so t m n s)
  if_stays s true m n h k = h
  if_stays s false m n h k = k

  unless_stays : (gang : ℕ) (a : Mask) (s : State) (f : Mask → State → Res) → a p ≡ false → Stays s (f a s) → Stays s (unless_empty gang a s f)
  unless_stays gang a s f h k = if_stays s (any gang a) (f a) (went_all a) k (all_stays a s h)

  abbrev BodyStays : (Mask → State → Res) → Type 0
  BodyStays body = (a : Mask) (s : State) → a p ≡ false → Stays s (body a s)

  joined_off : (g h : Bool) → g ≡ false → h ≡ false → (g || h) ≡ false
  joined_off g h i j = ap (λ z. z || h) i ∙ j

  branches_stay : (gang : ℕ) (a : Mask) (f g : Mask → State → Res) → BodyStays f → BodyStays g → a p ≡ false → (m : Payload) (s : State) → Absent p m → Stays s (branches gang a f g m s)
  branches_stay gang a f g h k i (One c) s e = if_stays s (is_true c) (f a) (g a) (h a s i) (k a s i)
  branches_stay gang a f g h k i (Each c) s e =
      let t : where_true is_true c p ≡ false = ap (holds is_true) e in
      let u : without a (where_true is_true c) p ≡ false = ap (λ z. z && not (where_true is_true c p)) i in
      go_stays s _ _ (unless_stays gang (where_true is_true c) s f t (h _ s t))
      (λ s1 g1 b c1 r e1 e2 e3 e4. go_stays s1 _ _ (unless_stays gang (without a (where_true is_true c)) s1 g u (k _ s1 u))
      (λ s2 g2 b2 c2 r2 o1 o2 o3 o4. record {
        by = (
          same p s2,
          joined_off (g1 p) (g2 p) e1 o1,
          joined_off (b p) (b2 p) e2 o2,
          joined_off (c1 p)
              (c2 p) e3 o3,
          joined_off (r p) (r2 p) e4 o4,
        );
      }))

  module _ (gang : ℕ) (test : Mask → State → Val Payload) (body : Mask → State → Res) (step : Mask → State → Val Done) (all : Mask)
      (tests : (a : Mask) (s : State) → a p ≡ false → Off p (Absent p) s (test a s)) (bodies : BodyStays body)
      (steps : (a : Mask) (s : State) → a p ≡ false → Off p (Any p) s (step a s)) (out : all p ≡ false) where
    abbrev TurnStays : (Mask → Mask → State → Res) → Type 0
    TurnStays turn = (k r : Mask) (s : State) → k p ≡ false → r p ≡ false → Stays s (turn k r s)

    end_stays : (r : Mask) (s : State) → r p ≡ false → Stays s (loop_end gang test body step all r s)
    end_stays r s h = record { by = (same p s, ap (λ z. z && not (r p)) out, refl, refl, h) }

    tested_stays : (turn : Mask → Mask → State → Res) → TurnStays turn → (live r : Mask) (s : State) → live p ≡ false → r p ≡ false → Stays s (tested gang test body step all turn live r s)
    tested_stays turn h live r s l w =
        with_stays (Absent p) s (test live s) _ (tests live s l) (λ m s1 e. if_stays s1 (any gang (kept_by is_true live m)) _ _ (h (kept_by is_true live m) r s1 (kept_off p is_true live m l e) w) (end_stays r s1 w))

    turns_stay : (n : ℕ) → TurnStays (turns gang test body step all n)
    turns_stay zero k r s l w = record { by = tt }
    turns_stay (suc n) k r s l w =
        go_stays s _ _ (stays_on s (tick s) _ (same p s) (bodies k (tick s) l))
        (λ s1 g b c r1 e1 e2 e3 e4. if_stays s1 (any gang (union g c)) _ _
        (with_stays (Any p) s1 (step (union g c) s1) _ (steps (union g c) s1 (joined_off (g p) (c p) e1 e3))
        (λ _ s2 _. tested_stays _ (turns_stay n) (union g c) (union r r1) s2 (joined_off (g p) (c p) e1 e3) (joined_off (r p) (r1 p) w e4)))
        (end_stays (union r r1) s1 (joined_off (r p) (r1 p) w e4)))

  -- ---- the members of a set, one by one

  abbrev Others : List ℕ → Type 0
  Others [] = Unit {0}
  Others (q ∷ qs) = (nat_eq p q ≡ false) × Others qs

  others_join : (xs ys : List ℕ) → Others xs → Others ys → Others (xs ++ ys)
  others_join [] ys h k = k
  others_join (x ∷ xs) ys h k = (h.0, others_join xs ys h.1 k)

  other : (a : Mask) (q : ℕ) → a p ≡ false → a q ≡ true → nat_eq p q ≡ false
  other a q h k = ne_eqb p q (λ e. let z : 0 ≡ 1 = ap bit_of (sym h ∙ ap a e ∙ k) in absurd (omega arith))
    where
      bit_of : Bool → ℕ
      bit_of true = 1
      bit_of false = 0

  listed_other : (a : Mask) (n : ℕ) → a p ≡ false → (t : Bool) → a n ≡ t → Others (if_listed t n)
  listed_other a n h true e = (other a n h e, tt)
  listed_other a n h false e = tt

  members_other : (n : ℕ) (a : Mask) → a p ≡ false → Others (members n a)
  members_other zero a h = tt
  members_other (suc n) a h = others_join (members n a) (if_listed (a n) n) (members_other n a h) (listed_other a n h (a n) refl)

  active_stay : (body : Mask → State → Res) (all : Mask) (index : ℕ) (qs : List ℕ) → BodyStays body → all p ≡ false → Others qs → (s : State) → Stays s (rounds body all (map (round_of_one index) qs) s)
  active_stay body all index [] h i k s = all_stays all s i
  active_stay body all index (q ∷ qs) h i k s =
      go_stays s _ _ (stays_on s ((round_of_one index q).begins s) _ (same p s) (h (lone (Some q)) ((round_of_one index q).begins s) k.0)) (λ s1 g b c r e1 e2 e3 e4. active_stay body all index qs h i k.1 s1)

  -- those that hold a value: the instance has none
  unique_stay : (body : Mask → State → Res) (all : Mask) (u t : Elem) (x : Map) (index : ℕ) (qs : List ℕ) → BodyStays body → all p ≡ false → x p ≡ None → (s : State) → Stays s (rounds body all (map (round_of_value u t x index) qs) s)
  unique_stay body all u t x index [] h i k s = all_stays all s i
  unique_stay body all u t x index (q ∷ qs) h i k s =
      go_stays s _ _ (stays_on s ((round_of_value u t x index q).begins s) _ (same p s) (h (holders u x q) ((round_of_value u t x index q).begins s) (ap (holds _) k))) (λ s1 g b c r e1 e2 e3 e4. unique_stay body all u t x index qs h i k s1)

  answered_off : (t : Option Ty) (a : Mask) (m : Payload) (s : State) → a p ≡ false → Absent p m → Untouched p s (answered t a m s)
  answered_off None a m s h k = same p s
  answered_off (Some t) a m s h k = by t.rate
    where
      by : (r : Rate) → Untouched p s (answered_at r a m s)
      by Uniform = same p s
      by Varying = (λ v. refl, λ v e. refl, ap (λ z. or_old z (s.results p)) (spread_none p a m h k))

  jumped_stays : (j : Jump) (a : Mask) (s : State) → a p ≡ false → Stays s (jumped j a s)
  jumped_stays Break a s h = record { by = (same p s, refl, h, refl, refl) }
  jumped_stays Continue a s h = record { by = (same p s, refl, refl, h, refl) }

  all_go_stays : (a : Mask) (s : State) (v : Val Done) → a p ≡ false → Off p (Any p) s v → Stays s (all_go a v)
  all_go_stays a s v h k = with_stays (Any p) s v _ k (λ _ s1 _. all_stays a s1 h)

  module _ (gang : ℕ) (frame : Frame) (calls : Calls) (off : CallsOff calls) (most : ℕ) where
    mutual
      run_stays : (x : TStmt) → Masked x → BodyStays (run gang frame calls most x)
      run_stays (t_block b) m a s h = block_stays b m a s h
      run_stays (t_declare xs sp) m a s h = stays_on s (tick s) _ (same p s) (all_go_stays a (tick s) (items gang frame calls xs a (tick s)) h (items_off gang frame calls off p xs a (tick s) h))
      run_stays (t_simple x sp) m a s h = all_go_stays a s (simple gang frame calls x a s) h (simple_off gang frame calls off p x a s h)
      run_stays (t_if f k e x sp) m a s h =
          with_stays (Absent p) s (value gang frame calls e a (tick s)) _ (value_off gang frame calls off p e a (tick s) h) (λ v s1 i. branches_stay gang a (run gang frame calls most x) went_all (run_stays x m) all_stays h v s1 i)
      run_stays (t_if_else f k e x y sp) m a s h =
          with_stays (Absent p) s (value gang frame calls e a (tick s)) _ (value_off gang frame calls off p e a (tick s) h)
          (λ v s1 i. branches_stay gang a (run gang frame calls most x) (run gang frame calls most y) (run_stays x m.0) (run_stays y m.1) h v s1
          i)
      run_stays (t_while f k e x sp) m a s h =
          stays_on s (tick s) _ (same p s) (tested_stays gang (value gang frame calls e) (run gang frame calls most x) (λ l s1. Gives tt s1) a
          (value_off gang frame calls off p e) (run_stays x m) (λ l s1 _. (tt, same p s1)) h _
          (turns_stay gang (value gang frame calls e) (run gang frame calls most x) (λ l s1. Gives tt s1) a (value_off gang frame calls off p e)
          (run_stays x m) (λ l s1 _. (tt, same p s1)) h most) a nobody (tick s) h refl)
      run_stays (t_do f k x e sp) m a s h =
          stays_on s (tick s) _ (same p s) (turns_stay gang (value gang frame calls e) (run gang frame calls most x) (λ l s1. Gives tt s1) a
          (value_off gang frame calls off p e) (run_stays x m) (λ l s1 _. (tt, same p s1)) h most a nobody (tick s) h refl)
      run_stays (t_for f k first e step i x sp) m a s h =
          with_stays (Any p) s (first_part gang frame calls first a (tick s)) _ (first_part_off gang frame calls off p first a (tick s) h)
          (λ _ s1 _. tested_stays gang (test_part gang frame calls e) (run gang frame calls most x) (step_part gang frame calls step) a
          (test_part_off gang frame calls off p e) (run_stays x m) (step_part_off gang frame calls off p step) h _
          (turns_stay gang (test_part gang frame calls e) (run gang frame calls most x) (step_part gang frame calls step) a
          (test_part_off gang frame calls off p e) (run_stays x m) (step_part_off gang frame calls off p step) h most) a nobody s1 h refl)
      run_stays (t_foreach w k rs x sp) m a s h = absurd m
      run_stays (t_foreach_active w k i x sp) m a s h =
          stays_on s (tick s) _ (same p s) (active_stay (run gang frame calls most x) a i (members gang a) (run_stays x m) h (members_other gang a h) (tick s))
      run_stays (t_foreach_unique w k i t e x sp) m a s h =
          with_stays (Absent p) s (value gang frame calls e a (tick s)) _ (value_off gang frame calls off p e a (tick s) h)
          (λ v s1 j. unique_stay (run gang frame calls most x) a (elem_of e) t (spread a v) i (members gang (firsts (elem_of e) (spread a v)))
          (run_stays x m) h (spread_none p a v h j) s1)
      run_stays (t_unmasked w b sp) m a s h = absurd m
      run_stays (t_jump j w sp) m a s h = stays_on s (tick s) _ (same p s) (jumped_stays j a (tick s) h)
      run_stays (t_return w None sp) m a s h = record { by = (same p s, refl, refl, refl, h) }
      run_stays (t_return w (Some x) sp) m a s h =
          with_stays (Absent p) s (value gang frame calls x a (tick s)) _ (value_off gang frame calls off p x a (tick s) h) (λ v s1 i. record { by = (answered_off frame.answer a v s1 h i, refl, refl, refl, h) })
      run_stays (t_print w text xs sp) m a s h =
          with_stays (AbsentAll p) s (values gang frame calls (t_exprs xs) a (tick s)) _ (values_off gang frame calls off p (t_exprs xs) a (tick s) h) (λ ms s1 i. record { by = (same p s1, h, refl, refl, refl) })
      run_stays (t_assert x c sp) m a s h =
          with_stays (Absent p) s (value gang frame calls x a (tick s)) _ (value_off gang frame calls off p x a (tick s) h)
          (λ v s1 i. all_go_stays a s1 (checked (offender gang is_false a v) Assert c s1 tt) h
          (checked_off p (Any p) (offender gang is_false a v) Assert c s1 tt tt))

      block_stays : (b : TBlock) → MaskedBlock b → BodyStays (block gang frame calls most b)
      block_stays (t_braces xs sp) m a s h = stays_on s (tick s) _ (same p s) (run_all_stays xs m a (tick s) h)

      run_all_stays : (xs : TStmts) → MaskedAll xs → BodyStays (run_all gang frame calls most xs)
      run_all_stays t_no_stmts m a s h = all_stays a s h
      run_all_stays (t_stmt_then x xs) m a s h =
          go_stays s _ _ (run_stays x m.0 a s h) (λ s1 g b c r e1 e2 e3 e4. go_stays s1 _ _
          (unless_stays gang g s1 (run_all gang frame calls most xs) e1 (run_all_stays xs m.1 g s1 e1))
          (λ s2 g2 b2 c2 r2 o1 o2 o3 o4. record {
            by = (
              same p s2,
              o1,
              joined_off (b p) (b2 p) e2 o2,
              joined_off (c p) (c2 p) e3 o3,
              joined_off
                  (r p) (r2 p) e4 o4,
            );
          }))

leaves_by : (p : ℕ) (s : State) (v : Val Payload) → Off p (Absent p) s v → LeavesBy p s v
leaves_by p s (Gives (One x) s1) h = h
leaves_by p s (Gives (Each x) s1) h = h
leaves_by p s (Fails t s1) h = tt
leaves_by p s (Stops s1) h = tt

leaves_of : (p : ℕ) (s : State) (v : Res) → Still p s v → Leaves p s v
leaves_of p s (Went s1 g b c r) h = h.0
leaves_of p s (Trapped t s1) h = tt
leaves_of p s (Cut s1) h = tt

pub others_stay : OthersStay
others_stay =
    record {
      expression = λ program most left frame x a s p h. leaves_by p s _ (value_off (gang_width program.gang) frame (calls_at program most left) (calls_off program most left) p x a s h);
      statement = λ program most left frame x m a s p h. leaves_of p s _ (run_stays p (gang_width program.gang) frame (calls_at program most left) (calls_off program most left) most x m a s h).by;
    }
