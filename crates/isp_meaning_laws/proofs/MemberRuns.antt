-- Loops, statements and calls: the sets over which they run what stands in them are parts of the set.
use Rattle.std.proofs.Common.{◌≡◌, ℕ, zero, suc, ◌<◌, ◌≤◌, ◌⊎◌, inl, inr, Bool, true, false, refl, ap, ◌∙◌, arith}
use Rattle.std.specs.Prelude.{List, [], ◌∷◌, ◌++◌, map, Some, None, slice_get}
use Rattle.isp_base.specs.Cross.{or_zero}
use Rattle.isp_base.specs.Maps.{Map, where_true}
use Rattle.isp_base.specs.Sets.{Mask, nobody, everyone, union, without, any, lone}
use Rattle.isp_base.specs.Types.{gang_width}
use Rattle.isp_base.specs.Values.{number, compare_to}
use Rattle.isp_base.specs.declared.operators.Compare.TheVariants.{Equal}
use Rattle.isp_base.specs.declared.types.Elem.{Elem}
use Rattle.isp_base.specs.declared.trap.TrapKind.TheVariants.{Assert}
use Rattle.isp_tree.specs.declared.stmt.Jump.TheVariants.{Break, Continue}
use Rattle.isp_typed.specs.Typed.{TExpr, elem_of, TStmt, t_block, t_declare, t_simple, t_if, t_if_else, t_while, t_do, t_for, t_foreach, t_foreach_active, t_foreach_unique}
use Rattle.isp_typed.specs.Typed.{t_unmasked, t_jump, t_return, t_print, t_assert, TBlock, t_braces, TStmts, t_no_stmts, t_stmt_then, Program}
use Rattle.isp_independence.specs.Reaches.{expr_calls, simple_calls, first_calls, range_calls, calls_of_any, calls_of_each, stmt_calls, block_calls, stmts_calls}
use Rattle.isp_meaning.specs.Calls.{calls_at}
use Rattle.isp_meaning.specs.Distinct.{InOrder}
use Rattle.isp_meaning.specs.Laws.{Masked, MaskedBlock, MaskedAll}
use Rattle.isp_meaning.specs.Loops.{loop_end, tested, stepped, turns}
use Rattle.isp_meaning.specs.Outcomes.{Val, Res, Done, went_all, unless_empty}
use Rattle.isp_meaning.specs.Payloads.{Payload, One, Each, spread, is_true, is_false, kept_by}
use Rattle.isp_meaning.specs.Rounds.{Range, Run, rounds, round_of_one, members, if_listed, holders, firsts, round_of_value, round_of_run, runs_of}
use Rattle.isp_meaning.specs.Simple.{no_step, step_part}
use Rattle.isp_meaning.specs.State.{State, Frame, tick}
use Rattle.isp_meaning.specs.Statements.{all_go, branches, test_part, run, block, run_all}
use Rattle.isp_meaning.specs.Expressions.{value}
use Rattle.isp_meaning.proofs.Distinct.{each_value_once}
use Rattle.isp_meaning.proofs.Members.{any_at, lowest_below, lowest_in}
use Rattle.isp_meaning.proofs.Parts.{four_sets}
use Rattle.isp_meaning_laws.proofs.Dealt.{dealt_once}
use Rattle.isp_meaning_laws.proofs.LoneSets.{eq_true, any_lone}
use Rattle.isp_meaning_laws.proofs.MemberSets.{everyone_some, some_gang, and_inside, union_inside, NoneOut, kept_inside, spread_out, PartsIn, parts_in, Sub, sub_inside}
use Rattle.isp_meaning_laws.proofs.MemberSets.{Free, Named, NamedRes, gives_named, with_named, went_named, go_named, then_named, if_named, offender_checked}
use Rattle.isp_meaning_laws.proofs.MemberValues.{Each_of, first, second, CallsNamed, value_out, listed_named, simple_named, items_named, first_part_named, step_part_named, test_part_out, ranges_named}

module _ (gang : ℕ) (m : Mask) where
  -- what runs over a part of the set that is not empty
  abbrev pub Runs : (Mask → State → Res) → Type 0
  Runs f = (a : Mask) (s : State) → Sub gang m a → any gang a ≡ true → NamedRes gang m (f a s)

  unless_named : (a : Mask) (s : State) (f : Mask → State → Res) → Sub gang m a → Runs f → NamedRes gang m (unless_empty gang a s f)
  unless_named a s f sub h = if_named gang m (any gang a) (f a) (went_all a) s (λ e. h a s sub e) (λ _. went_named gang m a s)

  all_go_named : (a : Mask) (v : Val Done) → Named gang m Free v → NamedRes gang m (all_go a v)
  all_go_named a v h = with_named gang m Free v _ h (λ _ s _. went_named gang m a s)

  branches_named : (a : Mask) (f g : Mask → State → Res) → Sub gang m a → any gang a ≡ true → Runs f → Runs g → (y : Payload) (s : State) → NoneOut a y → NamedRes gang m (branches gang a f g y s)
  branches_named a f g sub e h k (One c) s i = if_named gang m (is_true c) (f a) (g a) s (λ _. h a s sub e) (λ _. k a s sub e)
  branches_named a f g sub e h k (Each c) s i =
      then_named gang m _ _ (unless_named (where_true is_true c) s f (sub_inside gang m a _ sub (kept_inside is_true a (Each c) i)) h)
      (λ s1 g1 b c1 r. then_named gang m _ _ (unless_named (without a (where_true is_true c)) s1 g (sub_inside gang m a _ sub (and_inside a _)) k) (λ s2 g2 b2 c2 r2. record { by = tt }))

  module _ (test : Mask → State → Val Payload) (body : Mask → State → Res) (step : Mask → State → Val Done) (all : Mask)
      (tests : (a : Mask) (s : State) → Sub gang m a → any gang a ≡ true → Named gang m (NoneOut a) (test a s)) (bodies : Runs body)
      (parts : (a : Mask) (s : State) → PartsIn a (body a s)) (steps : (a : Mask) (s : State) → Sub gang m a → any gang a ≡ true → Named gang m Free (step a s)) where
    abbrev Turn : (Mask → Mask → State → Res) → Type 0
    Turn turn = (k r : Mask) (s : State) → Sub gang m k → any gang k ≡ true → NamedRes gang m (turn k r s)

    pub tested_named : (turn : Mask → Mask → State → Res) → Turn turn → (live r : Mask) (s : State) → Sub gang m live → any gang live ≡ true → NamedRes gang m (tested gang test body step all turn live r s)
    tested_named turn h live r s sub e =
        with_named gang m (NoneOut live) (test live s) _ (tests live s sub e) (λ y s1 k. if_named gang m (any gang (kept_by is_true live y)) (turn (kept_by is_true live y) r) (loop_end gang test body step all r) s1
        (λ i. h (kept_by is_true live y) r s1 (sub_inside gang m live _ sub (kept_inside is_true live y k)) i) (λ _. record { by = tt }))

    pub turns_named : (n : ℕ) → Turn (turns gang test body step all n)
    turns_named zero k r s sub e = record { by = tt }
    turns_named (suc n) k r s sub e =
        go_named gang m k (body k (tick s)) _ (bodies k (tick s) sub e) (parts k (tick s)) (λ s1 g b c r1 i j. let live : Sub gang m (union g c) = sub_inside gang m k (union g c) sub (union_inside k g c i j)
        in if_named gang m (any gang (union g c)) (stepped gang test body step all (turns gang test body step all n) (union g c) (union r r1)) (loop_end gang test body step all (union r r1)) s1
        (λ o. with_named gang m Free (step (union g c) s1) _ (steps (union g c) s1 live o) (λ _ s2 _. tested_named (turns gang test body step all n) (turns_named n) (union g c) (union r r1) s2 live o)) (λ _. record { by = tt }))

  -- ---- rounds

  abbrev AllSome : List Run → Type 0
  AllSome [] = Unit {0}
  AllSome (x ∷ xs) = (any gang x.members ≡ true) × AllSome xs

  all_some : (xs : List Run) → ((k : ℕ) (x : Run) → slice_get xs k ≡ Some x → any gang x.members ≡ true) → AllSome xs
  all_some [] h = tt
  all_some (x ∷ xs) h = (h 0 x refl, all_some xs (λ k y e. h (suc k) y e))

  pub runs_some : 0 < gang → (rs : List Range) → AllSome (runs_of gang rs)
  runs_some lt [] = tt
  runs_some lt (r ∷ rs) = all_some (runs_of gang (r ∷ rs)) (dealt_once gang (r ∷ rs) lt (omega arith)).some

  pub runs_named : (body : Mask → State → Res) (all : Mask) → ((p : ℕ) → p < gang → m p ≡ true) → Runs body → (xs : List Run) → AllSome xs → (s : State) → NamedRes gang m (rounds body all (map round_of_run xs) s)
  runs_named body all whole h [] i s = went_named gang m all s
  runs_named body all whole h (x ∷ xs) i s =
      then_named gang m _ _ (h x.members ((round_of_run x).begins s) (λ p lt _. whole p lt) i.0) (λ s1 g b c r. runs_named body all whole h xs i.1 s1)

  -- the members of a part of the set, one by one
  abbrev AllOn : List ℕ → Type 0
  AllOn [] = Unit {0}
  AllOn (p ∷ ps) = ((p < gang) × (m p ≡ true)) × AllOn ps

  on_join : (xs ys : List ℕ) → AllOn xs → AllOn ys → AllOn (xs ++ ys)
  on_join [] ys h k = k
  on_join (x ∷ xs) ys h k = (h.0, on_join xs ys h.1 k)

  pub members_on : (n : ℕ) (a : Mask) → n ≤ gang → Sub gang m a → AllOn (members n a)
  members_on zero a le sub = tt
  members_on (suc n) a le sub = on_join (members n a) (if_listed (a n) n) (members_on n a (omega (arith, le)) sub) (go (a n) refl) where
    go : (t : Bool) → a n ≡ t → AllOn (if_listed t n)
    go true e = let lt : n < gang = omega (arith, le) in ((lt, sub n lt e), tt)
    go false e = tt

  pub active_named : (body : Mask → State → Res) (all : Mask) (index : ℕ) → Runs body → (ps : List ℕ) → AllOn ps → (s : State) → NamedRes gang m (rounds body all (map (round_of_one index) ps) s)
  active_named body all index h [] i s = went_named gang m all s
  active_named body all index h (p ∷ ps) i s =
      then_named gang m _ _ (h (lone (Some p)) ((round_of_one index p).begins s) (λ q lt e. ap m (eq_true q p e) ∙ i.0.1) (any_lone p gang i.0.0)) (λ s1 g b c r. active_named body all index h ps i.1 s1)

  -- those that hold a value are of the set, and there is one
  pub unique_named : (body : Mask → State → Res) (all a : Mask) (u t : Elem) (x : Map) (index : ℕ) → Runs body → Sub gang m a → NoneOut a (Each x) → (least : ℕ) (qs : List ℕ) → InOrder gang least (map (round_of_value u t x index) qs) → (s : State)
      → NamedRes gang m (rounds body all (map (round_of_value u t x index) qs) s)
  unique_named body all a u t x index h sub out least [] i s = went_named gang m all s
  unique_named body all a u t x index h sub out least (q ∷ qs) i s =
      let members = holders u x q in
      then_named gang m _ _
      (h members ((round_of_value u t x index q).begins s) (sub_inside gang m a members sub (kept_inside (λ b. compare_to Equal (number u b) (number u (or_zero (x q)))) a (Each x) out))
      (any_at gang members i.0 (lowest_below gang members i.0 i.1) (lowest_in gang members i.0 i.1)))
      (λ s1 g b c r. unique_named body all a u t x index h sub out (suc i.0) qs i.3 s1)

module _ (program : Program) (most left : ℕ) (m : Mask) (Ok : ℕ → Type 0) (calls : CallsNamed program most m Ok left) (frame : Frame) where
  abbrev N : ℕ
  N = gang_width program.gang

  -- all of the gang is in the set
  abbrev Whole : Type 0
  Whole = (p : ℕ) → p < N → m p ≡ true

  parts : (x : TStmt) (a : Mask) (s : State) → PartsIn a (run N frame (calls_at program most left) most x a s)
  parts x a s = parts_in a _ (four_sets program most left frame x a s)

  value_of : (x : TExpr) → Each_of Ok (expr_calls x) → (a : Mask) (s : State) → Sub N m a → any N a ≡ true → Named N m (NoneOut a) (value N frame (calls_at program most left) x a s)
  value_of = value_out program most left m Ok calls frame

  no_step_named : (a : Mask) (s : State) → Sub N m a → any N a ≡ true → Named N m Free (no_step a s)
  no_step_named a s h e = gives_named N m Free tt s tt

  lhs : (xs ys : List ℕ) → Each_of Ok (xs ++ ys) → Each_of Ok xs
  lhs xs ys c = first Ok xs ys c

  rhs : (xs ys : List ℕ) → Each_of Ok (xs ++ ys) → Each_of Ok ys
  rhs xs ys c = second Ok xs ys c

  fst_of : {A B : Type 0} → Whole ⊎ (A × B) → Whole ⊎ A
  fst_of (inl w) = inl w
  fst_of (inr h) = inr h.0

  snd_of : {A B : Type 0} → Whole ⊎ (A × B) → Whole ⊎ B
  snd_of (inl w) = inl w
  snd_of (inr h) = inr h.1

  whole_of : Whole ⊎ ⊥ → Whole
  whole_of (inl w) = w
  whole_of (inr h) = absurd h

  mutual
    pub run_named : (x : TStmt) → Whole ⊎ Masked x → Each_of Ok (stmt_calls x) → Runs N m (run N frame (calls_at program most left) most x)
    run_named (t_block b) f c a s h e = block_named b f c a s h e
    run_named (t_declare xs sp) f c a s h e = all_go_named N m a _ (items_named program most left m Ok calls frame xs c a (tick s) h e)
    run_named (t_simple x sp) f c a s h e = all_go_named N m a _ (simple_named program most left m Ok calls frame x c a s h e)
    run_named (t_if o k x y sp) f c a s h e =
        with_named N m (NoneOut a) _ _ (value_of x (lhs (expr_calls x) (stmt_calls y) c) a (tick s) h e) (λ v s1 i. branches_named N m a _ _ h e (run_named y f (rhs (expr_calls x) (stmt_calls y) c)) (λ b s2 _ _. went_named N m b s2) v s1 i)
    run_named (t_if_else o k x y z sp) f c a s h e =
        let d = lhs (expr_calls x ++ stmt_calls y) (stmt_calls z) c in
        with_named N m (NoneOut a) _ _ (value_of x (lhs (expr_calls x) (stmt_calls y) d) a (tick s) h e)
        (λ v s1 i. branches_named N m a _ _ h e (run_named y (fst_of f) (rhs (expr_calls x) (stmt_calls y) d)) (run_named z (snd_of f) (rhs (expr_calls x ++ stmt_calls y) (stmt_calls z) c)) v s1 i)
    run_named (t_while o k x y sp) f c a s h e =
        let t = value_of x (lhs (expr_calls x) (stmt_calls y) c) in let b = run_named y f (rhs (expr_calls x) (stmt_calls y) c) in
        tested_named N m (value N frame (calls_at program most left) x) (run N frame (calls_at program most left) most y) no_step a t b (parts y) no_step_named _
        (turns_named N m (value N frame (calls_at program most left) x) (run N frame (calls_at program most left) most y) no_step a t b (parts y) no_step_named most) a nobody (tick s) h e
    run_named (t_do o k y x sp) f c a s h e =
        turns_named N m (value N frame (calls_at program most left) x) (run N frame (calls_at program most left) most y) no_step a
        (value_of x (rhs (stmt_calls y) (expr_calls x) c)) (run_named y f (lhs (stmt_calls y) (expr_calls x) c)) (parts y) no_step_named most a nobody (tick s) h e
    run_named (t_for o k i x p j y sp) f c a s h e =
        let ci = calls_of_any first_calls i in let cx = calls_of_any expr_calls x in let cp = calls_of_any simple_calls p in
        let c2 = lhs ((ci ++ cx) ++ cp) (stmt_calls y) c in let c1 = lhs (ci ++ cx) cp c2 in
        let t = test_part_out program most left m Ok calls frame x (rhs ci cx c1) in
        let n = step_part_named program most left m Ok calls frame p (rhs (ci ++ cx) cp c2) in
        let b = run_named y f (rhs ((ci ++ cx) ++ cp) (stmt_calls y) c) in
        with_named N m Free _ _ (first_part_named program most left m Ok calls frame i (lhs ci cx c1) a (tick s) h e)
        (λ _ s1 _. tested_named N m (test_part N frame (calls_at program most left) x) (run N frame (calls_at program most left) most y) (step_part N frame (calls_at program most left) p) a t b (parts y) n _
        (turns_named N m (test_part N frame (calls_at program most left) x) (run N frame (calls_at program most left) most y) (step_part N frame (calls_at program most left) p) a t b (parts y) n most) a nobody s1 h e)
    run_named (t_foreach w k rs y sp) f c a s h e =
        with_named N m Free _ _ (ranges_named program most left m Ok calls frame rs (lhs (calls_of_each range_calls rs) (stmt_calls y) c) a (tick s) h e)
        (λ xs s1 _. runs_named N m (run N frame (calls_at program most left) most y) a (whole_of f)
        (run_named y (inl (whole_of f)) (rhs (calls_of_each range_calls rs) (stmt_calls y) c)) (runs_of N xs) (runs_some N m (some_gang N a e) xs) _)
    run_named (t_foreach_active w k i y sp) f c a s h e =
        active_named N m (run N frame (calls_at program most left) most y) a i (run_named y f c) (members N a) (members_on N m N a (omega arith) h) (tick s)
    run_named (t_foreach_unique w k i t x y sp) f c a s h e =
        with_named N m (NoneOut a) _ _ (value_of x (lhs (expr_calls x) (stmt_calls y) c) a (tick s) h e)
        (λ v s1 o. unique_named N m (run N frame (calls_at program most left) most y) a a (elem_of x) t (spread a v) i (run_named y f (rhs (expr_calls x) (stmt_calls y) c)) h (spread_out a v o) 0
        (members N (firsts (elem_of x) (spread a v))) (each_value_once.in_order N (elem_of x) t i (spread a v)) s1)
    run_named (t_unmasked w b sp) f c a s h e =
        then_named N m _ _ (block_named b (inl (whole_of f)) c (everyone N) (tick s) (λ p lt _. whole_of f p lt) (everyone_some N a e)) (λ s1 g b' c' r. went_named N m a s1)
    run_named (t_jump Break w sp) f c a s h e = record { by = tt }
    run_named (t_jump Continue w sp) f c a s h e = record { by = tt }
    run_named (t_return w None sp) f c a s h e = record { by = tt }
    run_named (t_return w (Some x) sp) f c a s h e = with_named N m (NoneOut a) _ _ (value_of x c a (tick s) h e) (λ v s1 _. record { by = tt })
    run_named (t_print w text xs sp) f c a s h e =
        with_named N m Free _ _ (listed_named program most left m Ok calls frame xs c a (tick s) h e) (λ vs s1 _. record { by = tt })
    run_named (t_assert x w sp) f c a s h e =
        with_named N m (NoneOut a) _ _ (value_of x c a (tick s) h e) (λ v s1 i. all_go_named N m a _ (offender_checked N m Free is_false a v Assert w s1 tt h i tt))

    pub block_named : (b : TBlock) → Whole ⊎ MaskedBlock b → Each_of Ok (block_calls b) → Runs N m (block N frame (calls_at program most left) most b)
    block_named (t_braces xs sp) f c a s h e = all_named xs f c a (tick s) h e

    all_named : (xs : TStmts) → Whole ⊎ MaskedAll xs → Each_of Ok (stmts_calls xs) → Runs N m (run_all N frame (calls_at program most left) most xs)
    all_named t_no_stmts f c a s h e = went_named N m a s
    all_named (t_stmt_then x xs) f c a s h e =
        go_named N m a _ _ (run_named x (fst_of f) (lhs (stmt_calls x) (stmts_calls xs) c) a s h e) (parts x a s)
        (λ s1 g b c' r i j. then_named N m _ _ (unless_named N m g s1 _ (sub_inside N m a g h i) (all_named xs (snd_of f) (rhs (stmt_calls x) (stmts_calls xs) c))) (λ s2 g2 b2 c2 r2. record { by = tt }))
