-- Nobody leaves a statement but as its exits_of say.
use Rattle.std.proofs.Common.{◌≡◌, ℕ, zero, suc, ◌+◌, List, [], ◌∷◌, Some, None, Bool, true, false, refl, ap, ◌∙◌}
use Rattle.isp_base.specs.Maps.{where_true}
use Rattle.isp_base.specs.Sets.{Mask, nobody, everyone, union, without, any}
use Rattle.isp_base.specs.declared.trap.TrapKind.TheVariants.{Assert}
use Rattle.isp_tree.specs.declared.stmt.Jump.{Jump}
use Rattle.isp_tree.specs.declared.stmt.Jump.TheVariants.{Break, Continue}
use Rattle.isp_typed.specs.Typed.{t_exprs, elem_of, TStmt, t_block, t_declare, t_simple, t_if, t_if_else, t_while, t_do, t_for, t_foreach, t_foreach_active, t_foreach_unique}
use Rattle.isp_typed.specs.Typed.{t_unmasked, t_jump, t_return, t_print, t_assert, TBlock, t_braces, TStmts, t_no_stmts, t_stmt_then}
use Rattle.isp_meaning.specs.Expressions.{Calls, value, values}
use Rattle.isp_meaning.specs.Loops.{loop_end, tested, stepped, turns}
use Rattle.isp_meaning.specs.Outcomes.{Val, Gives, Fails, Stops, Done, Res, Went, Trapped, Cut, checked, with_value, go_on, went_all, then_run, both_sides, unless_empty, if_so}
use Rattle.isp_meaning.specs.Payloads.{Payload, One, Each, is_true, is_false, kept_by, offender, spread}
use Rattle.isp_meaning.specs.Rounds.{Round, rounds, active_rounds, unique_rounds, foreach_rounds, counted}
use Rattle.isp_meaning.specs.Simple.{simple, items, first_part, step_part}
use Rattle.isp_meaning.specs.State.{State, Frame, tick}
use Rattle.isp_meaning.specs.Statements.{all_go, branches, jumped, ranges, test_part, run, block, run_all}
use Rattle.isp_masks_code.specs.Exits.{none_leave, either_leaves, only_returns, jump_exits, exits_of, block_exits, all_exits, Leave}
use Rattle.isp_masks_code.specs.declared.exits.Exits.{Exits}
use Rattle.isp_masks_code.proofs.Unions.{neither}

union_both : (a b : Mask) → a ≡ nobody → b ≡ nobody → union a b ≡ nobody
union_both a b ea eb = ap (λ z. union z b) ea ∙ ap (union nobody) eb

leave_first : (e f : Exits) (v : Res) → Leave e v → Leave (either_leaves e f) v
leave_first e f (Went s g b c r) h = (
  λ z. h.0 (neither e.breaks f.breaks z).0,
  λ z. h.1 (neither e.continues f.continues z).0,
  λ z. h.2 (neither e.returns f.returns z).0,
)
leave_first e f (Trapped t s) h = tt
leave_first e f (Cut s) h = tt

leave_second : (e f : Exits) (v : Res) → Leave f v → Leave (either_leaves e f) v
leave_second e f (Went s g b c r) h = (
  λ z. h.0 (neither e.breaks f.breaks z).1,
  λ z. h.1 (neither e.continues f.continues z).1,
  λ z. h.2 (neither e.returns f.returns z).1,
)
leave_second e f (Trapped t s) h = tt
leave_second e f (Cut s) h = tt

module _ (e : Exits) where
  all_leave : (a : Mask) (s : State) → Leave e (went_all a s)
  all_leave a s = (λ z. refl, λ z. refl, λ z. refl)

  with_leave : {A : Type 0} (v : Val A) (go : A → State → Res) → ((x : A) (s : State) → Leave e (go x s)) → Leave e (with_value v go)
  with_leave (Gives x s) go h = h x s
  with_leave (Fails t s) go h = tt
  with_leave (Stops s) go h = tt

  go_leave : (a : Mask) (v : Val Done) → Leave e (all_go a v)
  go_leave a v = with_leave v (λ _ s. went_all a s) (λ x s. all_leave a s)

  so_leave : (b : Bool) (does other : State → Res) (s : State) → Leave e (does s) → Leave e (other s) → Leave e (if_so b does other s)
  so_leave true does other s h k = h
  so_leave false does other s h k = k

  unless_leave : (gang : ℕ) (a : Mask) (s : State) (v : Mask → State → Res) → Leave e (v a s) → Leave e (unless_empty gang a s v)
  unless_leave gang a s v h = so_leave (any gang a) (v a) (went_all a) s h (all_leave a s)

  -- one after another, or both sides of a choice
  then_leave : (u : Res) (second : Mask → State → Res) → Leave e u → ((g : Mask) (s : State) → Leave e (second g s)) → Leave e (then_run u second)
  then_leave (Went s g b c r) second h k = join (second g s) (k g s)
    where
      join : (v : Res) → Leave e v → Leave e (go_on v (λ s' g' b' c' r'. Went s' g' (union b b') (union c c') (union r r')))
      join (Went s' g' b' c' r') j = (λ z. union_both b b' (h.0 z) (j.0 z), λ z. union_both c c' (h.1 z) (j.1 z), λ z. union_both r r' (h.2 z) (j.2 z))
      join (Trapped t s') j = tt
      join (Cut s') j = tt
  then_leave (Trapped t s) second h k = tt
  then_leave (Cut s) second h k = tt

  sides_leave : (u : Res) (second : State → Res) → Leave e u → ((s : State) → Leave e (second s)) → Leave e (both_sides u second)
  sides_leave (Went s g b c r) second h k = join (second s) (k s)
    where
      join : (v : Res) → Leave e v → Leave e (go_on v (λ s' g' b' c' r'. Went s' (union g g') (union b b') (union c c') (union r r')))
      join (Went s' g' b' c' r') j = (λ z. union_both b b' (h.0 z) (j.0 z), λ z. union_both c c' (h.1 z) (j.1 z), λ z. union_both r r' (h.2 z) (j.2 z))
      join (Trapped t s') j = tt
      join (Cut s') j = tt
  sides_leave (Trapped t s) second h k = tt
  sides_leave (Cut s) second h k = tt

  branches_leave : (gang : ℕ) (a : Mask) (first second : Mask → State → Res) (m : Payload) (s : State) → ((t : Mask) (s : State) → Leave e (first t s)) → ((t : Mask) (s : State) → Leave e (second t s)) → Leave e (branches gang a first second m s)
  branches_leave gang a first second (One x) s h k = so_leave (is_true x) (first a) (second a) s (h a s) (k a s)
  branches_leave gang a first second (Each x) s h k =
      sides_leave (unless_empty gang (where_true is_true x) s first) (λ s1. unless_empty gang (without a (where_true is_true x)) s1 second)
      (unless_leave gang (where_true is_true x) s first (h (where_true is_true x) s)) (λ s1. unless_leave gang (without a (where_true is_true x)) s1 second (k (without a (where_true is_true x)) s1))

  -- ---- loops: those that break and continue stay in them

  module _ (gang : ℕ) (test : Mask → State → Val Payload) (body : Mask → State → Res) (step : Mask → State → Val Done) (all : Mask) (in_body : (t : Mask) (s : State) → Leave e (body t s)) where
    abbrev Returned : Mask → Type 0
    Returned r = e.returns ≡ false → r ≡ nobody

    loop_leave : {A : Type 0} (v : Val A) (go : A → State → Res) → ((x : A) (s : State) → Leave (only_returns e) (go x s)) → Leave (only_returns e) (with_value v go)
    loop_leave (Gives x s) go h = h x s
    loop_leave (Fails t s) go h = tt
    loop_leave (Stops s) go h = tt

    end_leaves : (r : Mask) (s : State) → Returned r → Leave (only_returns e) (loop_end gang test body step all r s)
    end_leaves r s h = (λ z. refl, λ z. refl, h)

    tested_leave : (turn : Mask → Mask → State → Res) (live r : Mask) (s : State) → Returned r
        → ((kept r : Mask) (s : State) → Returned r → Leave (only_returns e) (turn kept r s))
        → Leave (only_returns e) (tested gang test body step all turn live r s)
    tested_leave turn live r s h k = loop_leave (test live s) _ (λ m s1. by (any gang (kept_by is_true live m)) m s1)
      where
        by : (b : Bool) (m : Payload) (s1 : State) → Leave (only_returns e) (if_so b (turn (kept_by is_true live m) r) (loop_end gang test body step all r) s1)
        by true m s1 = k (kept_by is_true live m) r s1 h
        by false m s1 = end_leaves r s1 h

    turns_leave : (n : ℕ) (kept r : Mask) (s : State) → Returned r → Leave (only_returns e) (turns gang test body step all n kept r s)
    turns_leave zero kept r s h = tt
    turns_leave (suc n) kept r s h = by (turns_leave n) (body kept (tick s)) (in_body kept (tick s))
      where
        by : ((kept r : Mask) (s : State) → Returned r → Leave (only_returns e) (turns gang test body step all n kept r s)) → (v : Res) → Leave e v
            → Leave (only_returns e) (go_on v (λ s1 g b c r1. if_so (any gang (union g c))
            (stepped gang test body step all (turns gang test body step all n) (union g c) (union r r1))
            (loop_end gang test body step all (union r r1)) s1))
        by later (Went s1 g b c r1) k = again (any gang (union g c))
          where
            more : Returned (union r r1)
            more = λ z. union_both r r1 (h z) (k.2 z)

            again : (d : Bool) → Leave (only_returns e) (if_so d (stepped gang test body step all (turns gang test body step all n) (union g c) (union r r1)) (loop_end gang test body step all (union r r1)) s1)
            again true = loop_leave (step (union g c) s1) _ (λ x s2. tested_leave (turns gang test body step all n) (union g c) (union r r1) s2 more later)
            again false = end_leaves (union r r1) s1 more
        by later (Trapped t s1) k = tt
        by later (Cut s1) k = tt

rounds_leave : (body : Mask → State → Res) (all : Mask) (xs : List Round) (s : State) → Leave none_leave (rounds body all xs s)
rounds_leave body all [] s = all_leave none_leave all s
rounds_leave body all (x ∷ xs) s = by (rounds_leave body all xs) (body x.members (x.begins s))
  where
    by : ((s : State) → Leave none_leave (rounds body all xs s)) → (v : Res) → Leave none_leave (go_on v (λ s1 g b c r. rounds body all xs s1))
    by later (Went s1 g b c r) = later s1
    by later (Trapped t s1) = tt
    by later (Cut s1) = tt

jump_leaves : (j : Jump) (a : Mask) (s : State) → Leave (jump_exits j) (jumped j a s)
jump_leaves Break a s = (λ z. absurd (cc), λ z. refl, λ z. refl)
jump_leaves Continue a s = (λ z. refl, λ z. absurd (cc), λ z. refl)

unmasked_leaves : (a : Mask) (v : Res) → Leave none_leave (go_on v (λ s1 g b c r. went_all a s1))
unmasked_leaves a (Went s1 g b c r) = all_leave none_leave a s1
unmasked_leaves a (Trapped t s1) = tt
unmasked_leaves a (Cut s1) = tt

module _ (gang : ℕ) (frame : Frame) (calls : Calls) (most : ℕ) where
  mutual
    pub run_leaves : (x : TStmt) (a : Mask) (s : State) → Leave (exits_of x) (run gang frame calls most x a s)
    run_leaves (t_block b) a s = block_leaves b a s
    run_leaves (t_declare xs sp) a s = go_leave none_leave a (items gang frame calls xs a (tick s))
    run_leaves (t_simple x sp) a s = go_leave none_leave a (simple gang frame calls x a s)
    run_leaves (t_if f g c x sp) a s =
        with_leave (exits_of x) (value gang frame calls c a (tick s)) _ (λ m s1. branches_leave (exits_of x) gang a (run gang frame calls most x) went_all m s1 (run_leaves x) (all_leave (exits_of x)))
    run_leaves (t_if_else f g c x y sp) a s =
        let e = either_leaves (exits_of x) (exits_of y) in
        with_leave e (value gang frame calls c a (tick s)) _
        (λ m s1. branches_leave e gang a (run gang frame calls most x) (run gang frame calls most y) m s1
        (λ t s2. leave_first (exits_of x) (exits_of y) (run gang frame calls most x t s2) (run_leaves x t s2))
        (λ t s2. leave_second (exits_of x) (exits_of y) (run gang frame calls most y t s2) (run_leaves y t s2)))
    run_leaves (t_while f g c x sp) a s =
        tested_leave (exits_of x) gang (value gang frame calls c) (run gang frame calls most x) (λ l s1. Gives tt s1) a (run_leaves x) _ a nobody
        (tick s) (λ z. refl) (turns_leave (exits_of x) gang (value gang frame calls c) (run gang frame calls most x) (λ l s1. Gives tt s1) a
        (run_leaves x) most)
    run_leaves (t_do f g x c sp) a s = turns_leave (exits_of x) gang (value gang frame calls c) (run gang frame calls most x) (λ l s1. Gives tt s1) a (run_leaves x) most a nobody (tick s) (λ z. refl)
    run_leaves (t_for f g first c step i x sp) a s =
        with_leave (only_returns (exits_of x)) (first_part gang frame calls first a (tick s)) _
        (λ _ s1. tested_leave (exits_of x) gang (test_part gang frame calls c) (run gang frame calls most x) (step_part gang frame calls step) a
        (run_leaves x) _ a nobody s1 (λ z. refl) (turns_leave (exits_of x) gang (test_part gang frame calls c) (run gang frame calls most x)
        (step_part gang frame calls step) a (run_leaves x) most))
    run_leaves (t_foreach w g rs x sp) a s =
        with_leave none_leave (ranges gang frame calls rs a (tick s)) _ (λ xs s1. rounds_leave (run gang frame calls most x) a (foreach_rounds gang xs) (record s1 { work = s1.work + counted gang 1 xs }))
    run_leaves (t_foreach_active w g i x sp) a s = rounds_leave (run gang frame calls most x) a (active_rounds gang i a) (tick s)
    run_leaves (t_foreach_unique w g i t e x sp) a s =
        with_leave none_leave (value gang frame calls e a (tick s)) _ (λ m s1. rounds_leave (run gang frame calls most x) a (unique_rounds gang (elem_of e) t i (spread a m)) s1)
    run_leaves (t_unmasked w b sp) a s = unmasked_leaves a (block gang frame calls most b (everyone gang) (tick s))
    run_leaves (t_jump j w sp) a s = jump_leaves j a (tick s)
    run_leaves (t_return w None sp) a s = (λ z. refl, λ z. refl, λ z. absurd (cc))
    run_leaves (t_return w (Some x) sp) a s =
        with_leave (exits_of (t_return w (Some x) sp)) (value gang frame calls x a (tick s)) _ (λ m s1. (λ z. refl, λ z. refl, λ z. absurd (cc)))
    run_leaves (t_print w text xs sp) a s = with_leave none_leave (values gang frame calls (t_exprs xs) a (tick s)) _ (λ ms s1. (λ z. refl, λ z. refl, λ z. refl))
    run_leaves (t_assert x k sp) a s = with_leave none_leave (value gang frame calls x a (tick s)) _ (λ m s1. go_leave none_leave a (checked (offender gang is_false a m) Assert k s1 tt))

    block_leaves : (b : TBlock) (a : Mask) (s : State) → Leave (block_exits b) (block gang frame calls most b a s)
    block_leaves (t_braces xs sp) a s = all_leaves xs a (tick s)

    all_leaves : (xs : TStmts) (a : Mask) (s : State) → Leave (all_exits xs) (run_all gang frame calls most xs a s)
    all_leaves t_no_stmts a s = all_leave none_leave a s
    all_leaves (t_stmt_then x xs) a s =
        then_leave (either_leaves (exits_of x) (all_exits xs)) (run gang frame calls most x a s)
        (λ g s1. unless_empty gang g s1 (run_all gang frame calls most xs))
        (leave_first (exits_of x) (all_exits xs) (run gang frame calls most x a s) (run_leaves x a s))
        (λ g s1. leave_second (exits_of x) (all_exits xs) (unless_empty gang g s1 (run_all gang frame calls most xs)) (unless_leave (all_exits xs) gang g s1 (run_all gang frame calls most xs) (all_leaves xs g s1)))
