-- More turns change nothing of a run that is over, and go on with what a cut run printed.
use Rattle.std.specs.Prelude.{ℕ, zero, suc, ◌+◌, ◌≤◌, List, [], ◌∷◌, map, Option, Some, None, ℤ, slice_get}
use Rattle.std.proofs.Common.{refl, ap, arith}
use Rattle.isp_base.specs.Access.{is_zero}
use Rattle.isp_base.specs.Prefixes.{IsPrefix}
use Rattle.isp_base.specs.Sets.{Mask, nobody, everyone, union, without, any, lowest}
use Rattle.isp_base.specs.Maps.{Map, where_true}
use Rattle.isp_base.specs.Types.{gang_width}
use Rattle.isp_base.specs.declared.operators.BinOp.{BinOp}
use Rattle.isp_base.specs.declared.signature.Argument.{Argument}
use Rattle.isp_base.specs.declared.types.Elem.{Elem}
use Rattle.isp_base.specs.declared.types.Rate.{Rate}
use Rattle.isp_base.specs.declared.types.Rate.TheVariants.{Uniform, Varying}
use Rattle.isp_base.specs.declared.types.Span.{Span}
use Rattle.isp_base.specs.declared.types.Ty.{Ty}
use Rattle.isp_base.specs.declared.trap.TrapKind.TheVariants.{Divide, Index, Assert}
use Rattle.isp_tree.specs.declared.stmt.Jump.{Jump}
use Rattle.isp_tree.specs.declared.stmt.Jump.TheVariants.{Break, Continue}
use Rattle.isp_typed.specs.Typed.{TExpr, t_constant, t_program_index, t_place, t_convert, t_cast, t_unary, t_binary, t_compare, t_logic, t_choose, t_call, t_library}
use Rattle.isp_typed.specs.Typed.{t_packed_store, t_packed_load, TPlace, t_variable, t_element, TBase, t_whole, t_from, TArgument, t_by_value, t_by_name, TCall, t_called}
use Rattle.isp_typed.specs.Typed.{TArguments, t_no_arguments, t_argument_then, TExprs, t_exprs, t_no_exprs, t_expr_then, place_span, elem_of}
use Rattle.isp_typed.specs.Typed.{TItem, t_plain, t_with_value, t_with_size, TSimple, t_value, t_run, t_assign, t_update, t_step, TFirst, t_first_declare, t_first_simple, TRange}
use Rattle.isp_typed.specs.Typed.{TStmt, t_block, t_declare, t_simple, t_if, t_if_else, t_while, t_do, t_for, t_foreach, t_foreach_active, t_foreach_unique, t_unmasked, t_jump}
use Rattle.isp_typed.specs.Typed.{t_return, t_print, t_assert, TBlock, t_braces, TStmts, t_no_stmts, t_stmt_then, TFunction, Program}
use Rattle.isp_meaning.specs.State.{State, Frame, tick, extent}
use Rattle.isp_meaning.specs.Payloads.{Payload, One, Each, is_true, is_false, kept_by, offender, spread}
use Rattle.isp_meaning.specs.Outcomes.{Val, Gives, Fails, Stops, Res, Went, Trapped, Cut, Done, go_on, if_so}
use Rattle.isp_meaning.specs.Places.{Place, Variable, Element, written, with_elements, outside, kept}
use Rattle.isp_base.specs.Cross.{packed_outside}
use Rattle.isp_meaning.specs.Expressions.{Passed, Calls, needs, base_array, value, place, first_element, values, call, arguments, passed}
use Rattle.isp_meaning.specs.Simple.{cleared, update, simple, item, items, first_part, step_part}
use Rattle.isp_meaning.specs.Loops.{loop_end, tested, stepped, turns}
use Rattle.isp_meaning.specs.Rounds.{Round, rounds, round_of_one, active_rounds, members, firsts, round_of_value, unique_rounds, Run, round_of_run, runs_of, foreach_rounds, set_indices, counted}
use Rattle.isp_base.specs.Prints.{print_text}
use Rattle.isp_meaning.specs.Printing.{shown_all}
use Rattle.isp_meaning.specs.Statements.{all_go, branches, answered, answered_at, jumped, ranges, test_part, run, block, run_all}
use Rattle.isp_meaning.specs.Calls.{frame_of, begun, ended, called, calls_at, most_calls}
use Rattle.isp_meaning.specs.Runs.{handed, first_frame, first_state, no_place, outcome_of}
use Rattle.isp_meaning.specs.Laws.{Later, MoreTurns}
use Rattle.isp_meaning.proofs.Grown.{prefix_self, prefix_on, out_val, out_res, LaterVal, LaterRes, Grown, GrownRes, gives_grown, checked_grown, went_grown, bind_grown, with_grown, go_grown, if_res_grown, unless_grown, value_unless_grown}

-- ---- what changes no output

written_out : (r : Rate) (v : ℕ) (a : Mask) (x : Payload) (s : State) → IsPrefix s.out (written r v a x s).out
written_out Uniform v a x s = prefix_self s.out
written_out Varying v a x s = prefix_self s.out

elements_out : (gang : ℕ) (frame : Frame) (q : Place) (a : Mask) (x : Payload) (s : State) → IsPrefix s.out (kept gang frame q a x s).out
elements_out gang frame (Variable v t) a x s = written_out t.rate v a x s
elements_out gang frame (Element b t i) a x s = by_rate b.ty.rate
  where
    by_rate : (r : Rate) → IsPrefix s.out (with_elements frame b t i a gang r x s).out
    by_rate Uniform = prefix_self s.out
    by_rate Varying = prefix_self s.out

cleared_out : (frame : Frame) (r : Rate) (v : ℕ) (a : Mask) (s : State) → IsPrefix s.out (cleared frame r v a s).out
cleared_out frame Uniform v a s = prefix_self s.out
cleared_out frame Varying v a s = prefix_self s.out

indices_out : (a : Mask) (xs : List (ℕ × (ℕ → ℤ))) (s : State) → IsPrefix s.out (set_indices a xs s).out
indices_out a [] s = prefix_self s.out
indices_out a (x ∷ xs) s = indices_out a xs _

answered_out : (t : Option Ty) (a : Mask) (x : Payload) (s : State) → IsPrefix s.out (answered t a x s).out
answered_out None a x s = prefix_self s.out
answered_out (Some t) a x s = by_rate t.rate
  where
    by_rate : (r : Rate) → IsPrefix s.out (answered_at r a x s).out
    by_rate Uniform = prefix_self s.out
    by_rate Varying = prefix_self s.out

gives_on : {A : Type 0} (o : List ℕ) (x : A) (s : State) → IsPrefix o s.out → Grown o (Gives x s) (Gives x s)
gives_on o x s p = record { from = p; later = refl }

went_on : (o : List ℕ) (s : State) (g b c r : Mask) → IsPrefix o s.out → GrownRes o (Went s g b c r) (Went s g b c r)
went_on o s g b c r p = record { from = p; later = refl }

-- ---- calls that may make more turns

abbrev CallsGrow : Calls → Calls → Type 0
CallsGrow calls calls' = (f : ℕ) (p : Span) (a : Mask) (xs : List Passed) (frame : Frame) (s : State) → Grown s.out (calls f p a xs frame s) (calls' f p a xs frame s)

module _ (gang : ℕ) (frame : Frame) (calls calls' : Calls) (grow : CallsGrow calls calls') where
  mutual
    value_grows : (x : TExpr) (a : Mask) (s : State) → Grown s.out (value gang frame calls x a s) (value gang frame calls' x a s)
    value_grows (t_constant v sp) a s = gives_grown _ (tick s)
    value_grows (t_program_index sp) a s = gives_grown _ (tick s)
    value_grows (t_place p) a s = bind_grown s.out _ _ _ _ (place_grows p a s) (λ q s1. checked_grown (outside gang frame q a) Index (place_span p) s1 _)
    value_grows (t_convert e x) a s = bind_grown s.out _ _ _ _ (value_grows x a s) (λ m s1. gives_grown _ s1)
    value_grows (t_cast x t sp) a s = value_grows x a (tick s)
    value_grows (t_unary op x t sp) a s = bind_grown s.out _ _ _ _ (value_grows x a (tick s)) (λ m s1. gives_grown _ s1)
    value_grows (t_binary op x y t sp) a s =
        bind_grown s.out _ _ _ _ (value_grows x a (tick s)) (λ m s1. bind_grown s1.out _ _ _ _ (value_grows y a s1) (λ n s2. checked_grown (offender gang (is_zero op t.elem) a n) Divide sp s2 _))
    value_grows (t_compare c x y r sp) a s =
        bind_grown s.out _ _ _ _ (value_grows x a (tick s)) (λ m s1. bind_grown s1.out _ _ _ _ (value_grows y a s1) (λ n s2. gives_grown _ s2))
    value_grows (t_logic l x y r sp) a s =
        bind_grown s.out _ _ _ _ (value_grows x a (tick s)) (λ m s1. bind_grown s1.out _ _ _ _ (value_unless_grown gang (kept_by (needs l) a m) s1 _ _ (value_grows y)) (λ n s2. gives_grown _ s2))
    value_grows (t_choose c x y t sp) a s =
        bind_grown s.out _ _ _ _ (value_grows c a (tick s))
        (λ k s1. bind_grown s1.out _ _ _ _ (value_unless_grown gang (kept_by is_true a k) s1 _ _ (value_grows x))
        (λ m s2. bind_grown s2.out _ _ _ _ (value_unless_grown gang (kept_by is_false a k) s2 _ _ (value_grows y)) (λ n s3. gives_grown _ s3)))
    value_grows (t_call c t) a s = call_grows c a s
    value_grows (t_library f e xs t sp) a s = bind_grown s.out _ _ _ _ (values_grow xs a (tick s)) (λ ms s1. gives_grown _ s1)
    value_grows (t_packed_store b x sp) a s =
        bind_grown s.out _ _ _ _ (first_grows b a (tick s))
        (λ z s1. bind_grown s1.out _ _ _ _ (value_grows x a s1)
        (λ m s2. bind_grown s2.out _ _ _ _ (checked_grown (lowest gang (packed_outside (extent frame (base_array b)) z a)) Index sp s2 m)
        (λ n s3. gives_on s3.out _ _ (prefix_self s3.out))))
    value_grows (t_packed_load b v sp) a s =
        bind_grown s.out _ _ _ _ (first_grows b a (tick s)) (λ z s1. bind_grown s1.out _ _ _ _ (checked_grown (lowest gang (packed_outside (extent frame (base_array b)) z a)) Index sp (tick s1) _) (λ n s2. gives_on s2.out _ _ (prefix_self s2.out)))

    place_grows : (p : TPlace) (a : Mask) (s : State) → Grown s.out (place gang frame calls p a s) (place gang frame calls' p a s)
    place_grows (t_variable v t sp) a s = gives_grown _ (tick s)
    place_grows (t_element b i t sp) a s = bind_grown s.out _ _ _ _ (value_grows i a (tick s)) (λ m s1. gives_grown _ s1)

    first_grows : (b : TBase) (a : Mask) (s : State) → Grown s.out (first_element gang frame calls b a s) (first_element gang frame calls' b a s)
    first_grows (t_whole b sp) a s = gives_grown _ (tick s)
    first_grows (t_from b i sp) a s = bind_grown s.out _ _ _ _ (value_grows i a (tick s)) (λ m s1. gives_grown _ s1)

    values_grow : (xs : TExprs) (a : Mask) (s : State) → Grown s.out (values gang frame calls xs a s) (values gang frame calls' xs a s)
    values_grow t_no_exprs a s = gives_grown _ s
    values_grow (t_expr_then x xs) a s =
        bind_grown s.out _ _ _ _ (value_grows x a s) (λ m s1. bind_grown s1.out _ _ _ _ (values_grow xs a s1) (λ ms s2. gives_grown _ s2))

    call_grows : (c : TCall) (a : Mask) (s : State) → Grown s.out (call gang frame calls c a s) (call gang frame calls' c a s)
    call_grows (t_called f xs sp) a s = bind_grown s.out _ _ _ _ (arguments_grow xs a (tick s)) (λ ps s1. grow f sp a ps frame s1)

    arguments_grow : (xs : TArguments) (a : Mask) (s : State) → Grown s.out (arguments gang frame calls xs a s) (arguments gang frame calls' xs a s)
    arguments_grow t_no_arguments a s = gives_grown _ s
    arguments_grow (t_argument_then x xs) a s =
        bind_grown s.out _ _ _ _ (passed_grows x a s) (λ m s1. bind_grown s1.out _ _ _ _ (arguments_grow xs a s1) (λ ms s2. gives_grown _ s2))

    passed_grows : (x : TArgument) (a : Mask) (s : State) → Grown s.out (passed gang frame calls x a s) (passed gang frame calls' x a s)
    passed_grows (t_by_value x) a s = bind_grown s.out _ _ _ _ (value_grows x a s) (λ m s1. gives_grown _ s1)
    passed_grows (t_by_name b sp) a s = gives_grown _ (tick s)

  -- ---- simple statements

  update_grows : (op : BinOp) (t : Elem) (p : TPlace) (q : Place) (y : Payload) (sp : Span) (a : Mask) (s : State) → Grown s.out (update gang frame calls op t p q y sp a s) (update gang frame calls' op t p q y sp a s)
  update_grows op t p q y sp a s =
      bind_grown s.out _ _ _ _ (checked_grown (outside gang frame q a) Index (place_span p) s _)
      (λ x s1. bind_grown s1.out _ _ _ _ (checked_grown (offender gang (is_zero op t) a y) Divide sp s1 _)
      (λ z s2. gives_on s2.out _ _ (elements_out gang frame q a _ s2)))

  simple_grows : (x : TSimple) (a : Mask) (s : State) → Grown s.out (simple gang frame calls x a s) (simple gang frame calls' x a s)
  simple_grows (t_value x) a s = bind_grown s.out _ _ _ _ (value_grows x a (tick s)) (λ m s1. gives_grown _ s1)
  simple_grows (t_run c) a s = bind_grown s.out _ _ _ _ (call_grows c a (tick s)) (λ m s1. gives_grown _ s1)
  simple_grows (t_assign p x sp) a s =
      bind_grown s.out _ _ _ _ (place_grows p a (tick s))
      (λ q s1. bind_grown s1.out _ _ _ _ (value_grows x a s1)
      (λ m s2. bind_grown s2.out _ _ _ _ (checked_grown (outside gang frame q a) Index (place_span p) s2 m)
      (λ n s3. gives_on s3.out _ _ (elements_out gang frame q a n s3))))
  simple_grows (t_update op t p x sp) a s =
      bind_grown s.out _ _ _ _ (place_grows p a (tick s)) (λ q s1. bind_grown s1.out _ _ _ _ (value_grows x a s1) (λ y s2. update_grows op t p q y sp a s2))
  simple_grows (t_step op t p sp) a s = bind_grown s.out _ _ _ _ (place_grows p a (tick s)) (λ q s1. update_grows op t p q (One 1) sp a s1)

  item_grows : (x : TItem) (a : Mask) (s : State) → Grown s.out (item gang frame calls x a s) (item gang frame calls' x a s)
  item_grows (t_plain v t sp) a s = gives_on s.out _ _ (written_out t.rate v a (One 0) (tick s))
  item_grows (t_with_value v t x sp) a s = bind_grown s.out _ _ _ _ (value_grows x a (tick s)) (λ m s1. gives_on s1.out _ _ (written_out t.rate v a m s1))
  item_grows (t_with_size b sp) a s = gives_on s.out _ _ (cleared_out frame b.ty.rate b.number a (tick s))

  items_grow : (xs : List TItem) (a : Mask) (s : State) → Grown s.out (items gang frame calls xs a s) (items gang frame calls' xs a s)
  items_grow [] a s = gives_grown _ s
  items_grow (x ∷ xs) a s = bind_grown s.out _ _ _ _ (item_grows x a s) (λ _ s1. items_grow xs a s1)

  first_part_grows : (x : Option TFirst) (a : Mask) (s : State) → Grown s.out (first_part gang frame calls x a s) (first_part gang frame calls' x a s)
  first_part_grows None a s = gives_grown _ s
  first_part_grows (Some (t_first_declare xs sp)) a s = items_grow xs a (tick s)
  first_part_grows (Some (t_first_simple x)) a s = simple_grows x a s

  step_part_grows : (x : Option TSimple) (a : Mask) (s : State) → Grown s.out (step_part gang frame calls x a s) (step_part gang frame calls' x a s)
  step_part_grows None a s = gives_grown _ s
  step_part_grows (Some x) a s = simple_grows x a s

  ranges_grow : (rs : List TRange) (a : Mask) (s : State) → Grown s.out (ranges gang frame calls rs a s) (ranges gang frame calls' rs a s)
  ranges_grow [] a s = gives_grown _ s
  ranges_grow (r ∷ rs) a s =
      bind_grown s.out _ _ _ _ (value_grows r.start a s) (λ m s1. bind_grown s1.out _ _ _ _ (value_grows r.end a s1) (λ n s2. bind_grown s2.out _ _ _ _ (ranges_grow rs a s2) (λ xs s3. gives_grown _ s3)))

  test_part_grows : (x : Option TExpr) (a : Mask) (s : State) → Grown s.out (test_part gang frame calls x a s) (test_part gang frame calls' x a s)
  test_part_grows None a s = gives_grown _ s
  test_part_grows (Some x) a s = value_grows x a s

-- ---- control

abbrev Tests : (Mask → State → Val Payload) → (Mask → State → Val Payload) → Type 0
Tests test test' = (a : Mask) (s : State) → Grown s.out (test a s) (test' a s)

abbrev Steps : (Mask → State → Val Done) → (Mask → State → Val Done) → Type 0
Steps step step' = (a : Mask) (s : State) → Grown s.out (step a s) (step' a s)

abbrev Bodies : (Mask → State → Res) → (Mask → State → Res) → Type 0
Bodies body body' = (a : Mask) (s : State) → GrownRes s.out (body a s) (body' a s)

abbrev Turns : (Mask → Mask → State → Res) → (Mask → Mask → State → Res) → Type 0
Turns turn turn' = (k r : Mask) (s : State) → GrownRes s.out (turn k r s) (turn' k r s)

all_go_grows : (o : List ℕ) (a : Mask) (v v' : Val Done) → Grown o v v' → GrownRes o (all_go a v) (all_go a v')
all_go_grows o a v v' p = with_grown o v v' _ _ p (λ _ s. went_grown s _ _ _ _)

module _ (gang : ℕ) (test test' : Mask → State → Val Payload) (body body' : Mask → State → Res) (step step' : Mask → State → Val Done) (all : Mask) (tests : Tests test test') (bodies : Bodies body body') (steps : Steps step step') where
  tested_grows : (turn turn' : Mask → Mask → State → Res) → Turns turn turn' → (live r : Mask) (s : State) → GrownRes s.out (tested gang test body step all turn live r s) (tested gang test' body' step' all turn' live r s)
  tested_grows turn turn' go live r s =
      with_grown s.out _ _ _ _ (tests live s) (λ m s1. if_res_grown s1.out (any gang (kept_by is_true live m)) _ _ _ _ s1 (go (kept_by is_true live m) r s1) (went_grown s1 _ _ _ _))

  turn_grows : (turn turn' : Mask → Mask → State → Res) → Turns turn turn' → (k r : Mask) (s : State) → GrownRes s.out
      (go_on (body k (tick s)) (λ s1 g b c r1. if_so (any gang (union g c)) (stepped gang test body step all turn (union g c) (union r r1)) (loop_end gang test body step all (union r r1)) s1))
      (go_on (body' k (tick s)) (λ s1 g b c r1. if_so (any gang (union g c)) (stepped gang test' body' step' all turn' (union g c) (union r r1)) (loop_end gang test' body' step' all (union r r1)) s1))
  turn_grows turn turn' go k r s =
      go_grown s.out _ _ _ _ (bodies k (tick s)) (λ s1 g b c r1. if_res_grown s1.out (any gang (union g c)) _ _ _ _ s1
      (with_grown s1.out _ _ _ _ (steps (union g c) s1) (λ _ s2. tested_grows turn turn' go (union g c) (union r r1) s2)) (went_grown s1 _ _ _ _))

  turns_same : (n : ℕ) → Turns (turns gang test body step all n) (turns gang test' body' step' all n)
  turns_same zero k r s = record { from = prefix_self s.out; later = prefix_self s.out }
  turns_same (suc n) k r s = turn_grows _ _ (turns_same n) k r s

  turns_grow : (n n' : ℕ) → n ≤ n' → Turns (turns gang test body step all n) (turns gang test' body' step' all n')
  turns_grow zero n' le k r s = record { from = (turns_same n' k r s).from; later = (turns_same n' k r s).from }
  turns_grow (suc n) zero le k r s = absurd (omega arith)
  turns_grow (suc n) (suc n') le k r s = turn_grows _ _ (turns_grow n n' (omega arith)) k r s

branches_grow : (gang : ℕ) (a : Mask) (f f' g g' : Mask → State → Res) → Bodies f f' → Bodies g g' → (m : Payload) (s : State) → GrownRes s.out (branches gang a f g m s) (branches gang a f' g' m s)
branches_grow gang a f f' g g' p q (One c) s = if_res_grown s.out (is_true c) _ _ _ _ s (p a s) (q a s)
branches_grow gang a f f' g g' p q (Each c) s =
    go_grown s.out _ _ _ _ (unless_grown gang (where_true is_true c) s f f' p) (λ s1 h b d r. go_grown s1.out _ _ _ _ (unless_grown gang (without a (where_true is_true c)) s1 g g' q) (λ s2 _ _ _ _. went_grown s2 _ _ _ _))

-- rounds that print nothing before their bodies
abbrev Quiet : List Round → Type 0
Quiet [] = Unit {0}
Quiet (x ∷ xs) = ((s : State) → IsPrefix s.out (x.begins s).out) × Quiet xs

active_quiet : (index : ℕ) (ps : List ℕ) → Quiet (map (round_of_one index) ps)
active_quiet index [] = tt
active_quiet index (p ∷ ps) = (λ s. prefix_self s.out, active_quiet index ps)

unique_quiet : (u t : Elem) (x : Map) (index : ℕ) (ps : List ℕ) → Quiet (map (round_of_value u t x index) ps)
unique_quiet u t x index [] = tt
unique_quiet u t x index (p ∷ ps) = (λ s. prefix_self s.out, unique_quiet u t x index ps)

runs_quiet : (xs : List Run) → Quiet (map round_of_run xs)
runs_quiet [] = tt
runs_quiet (x ∷ xs) = (λ s. indices_out x.members x.indices s, runs_quiet xs)

grown_on : (o : List ℕ) (s : State) (v v' : Res) → IsPrefix o s.out → GrownRes s.out v v' → GrownRes o v v'
grown_on o s v v' p q = record { from = prefix_on o s.out (out_res v') p q.from; later = q.later }

rounds_grow : (body body' : Mask → State → Res) → Bodies body body' → (all : Mask) (xs : List Round) → Quiet xs → (s : State) → GrownRes s.out (rounds body all xs s) (rounds body' all xs s)
rounds_grow body body' p all [] q s = went_grown s _ _ _ _
rounds_grow body body' p all (x ∷ xs) q s =
    grown_on s.out (x.begins s) _ _ (q.0 s) (go_grown (x.begins s).out _ _ _ _ (p x.members (x.begins s)) (λ s1 g b c r. rounds_grow body body' p all xs q.1 s1))

jumped_grows : (j : Jump) (a : Mask) (s : State) → GrownRes s.out (jumped j a s) (jumped j a s)
jumped_grows Break a s = went_grown s _ _ _ _
jumped_grows Continue a s = went_grown s _ _ _ _

module _ (gang : ℕ) (frame : Frame) (calls calls' : Calls) (grow : CallsGrow calls calls') (n n' : ℕ) (le : n ≤ n') where
  mutual
    run_grows : (x : TStmt) (a : Mask) (s : State) → GrownRes s.out (run gang frame calls n x a s) (run gang frame calls' n' x a s)
    run_grows (t_block b) a s = block_grows b a s
    run_grows (t_declare xs sp) a s = all_go_grows s.out a _ _ (items_grow gang frame calls calls' grow xs a (tick s))
    run_grows (t_simple x sp) a s = all_go_grows s.out a _ _ (simple_grows gang frame calls calls' grow x a s)
    run_grows (t_if f k e x sp) a s =
        with_grown s.out _ _ _ _ (value_grows gang frame calls calls' grow e a (tick s)) (λ m s1. branches_grow gang a _ _ _ _ (run_grows x) (λ b s2. went_grown s2 b nobody nobody nobody) m s1)
    run_grows (t_if_else f k e x y sp) a s =
        with_grown s.out _ _ _ _ (value_grows gang frame calls calls' grow e a (tick s)) (λ m s1. branches_grow gang a _ _ _ _ (run_grows x) (run_grows y) m s1)
    run_grows (t_while f k e x sp) a s =
        tested_grows gang _ _ _ _ _ _ a (value_grows gang frame calls calls' grow e) (run_grows x) (λ l s1. gives_grown tt s1) _ _
        (turns_grow gang _ _ _ _ _ _ a (value_grows gang frame calls calls' grow e) (run_grows x) (λ l s1. gives_grown tt s1) n n' le) a nobody
        (tick s)
    run_grows (t_do f k x e sp) a s =
        turns_grow gang _ _ _ _ _ _ a (value_grows gang frame calls calls' grow e) (run_grows x) (λ l s1. gives_grown tt s1) n n' le a nobody (tick s)
    run_grows (t_for f k first e step i x sp) a s =
        with_grown s.out _ _ _ _ (first_part_grows gang frame calls calls' grow first a (tick s))
        (λ _ s1. tested_grows gang _ _ _ _ _ _ a (test_part_grows gang frame calls calls' grow e) (run_grows x)
        (step_part_grows gang frame calls calls' grow step) _ _
        (turns_grow gang _ _ _ _ _ _ a (test_part_grows gang frame calls calls' grow e) (run_grows x)
        (step_part_grows gang frame calls calls' grow step) n n' le) a nobody s1)
    run_grows (t_foreach w k rs x sp) a s =
        with_grown s.out _ _ _ _ (ranges_grow gang frame calls calls' grow rs a (tick s)) (λ xs s1. rounds_grow _ _ (run_grows x) a (foreach_rounds gang xs) (runs_quiet (runs_of gang xs)) (record s1 { work = s1.work + counted gang 1 xs }))
    run_grows (t_foreach_active w k i x sp) a s = rounds_grow _ _ (run_grows x) a (active_rounds gang i a) (active_quiet i (members gang a)) (tick s)
    run_grows (t_foreach_unique w k i t e x sp) a s =
        with_grown s.out _ _ _ _ (value_grows gang frame calls calls' grow e a (tick s))
        (λ m s1. rounds_grow _ _ (run_grows x) a (unique_rounds gang (elem_of e) t i (spread a m))
        (unique_quiet (elem_of e) t (spread a m) i (members gang (firsts (elem_of e) (spread a m)))) s1)
    run_grows (t_unmasked w b sp) a s = go_grown s.out _ _ _ _ (block_grows b (everyone gang) (tick s)) (λ s1 g b' c r. went_grown s1 _ _ _ _)
    run_grows (t_jump j w sp) a s = jumped_grows j a (tick s)
    run_grows (t_return w None sp) a s = went_grown (tick s) _ _ _ _
    run_grows (t_return w (Some x) sp) a s =
        with_grown s.out _ _ _ _ (value_grows gang frame calls calls' grow x a (tick s)) (λ m s1. went_on s1.out _ _ _ _ _ (answered_out frame.answer a m s1))
    run_grows (t_print w text xs sp) a s =
        with_grown s.out _ _ _ _ (values_grow gang frame calls calls' grow (t_exprs xs) a (tick s)) (λ ms s1. went_on s1.out _ _ _ _ _ (print_text text (shown_all gang a xs ms), refl))
    run_grows (t_assert x c sp) a s =
        with_grown s.out _ _ _ _ (value_grows gang frame calls calls' grow x a (tick s)) (λ m s1. all_go_grows s1.out a _ _ (checked_grown (offender gang is_false a m) Assert c s1 tt))

    block_grows : (b : TBlock) (a : Mask) (s : State) → GrownRes s.out (block gang frame calls n b a s) (block gang frame calls' n' b a s)
    block_grows (t_braces xs sp) a s = run_all_grows xs a (tick s)

    run_all_grows : (xs : TStmts) (a : Mask) (s : State) → GrownRes s.out (run_all gang frame calls n xs a s) (run_all gang frame calls' n' xs a s)
    run_all_grows t_no_stmts a s = went_grown s _ _ _ _
    run_all_grows (t_stmt_then x xs) a s =
        go_grown s.out _ _ _ _ (run_grows x a s) (λ s1 g b c r. go_grown s1.out _ _ _ _ (unless_grown gang g s1 _ _ (run_all_grows xs)) (λ s2 _ _ _ _. went_grown s2 _ _ _ _))

-- ---- calls, by the levels left

ended_from : (t : Option Ty) (frame : Frame) (a : Mask) (before : State) (o : List ℕ) (v : Res) → IsPrefix o (out_res v) → IsPrefix o (out_val (ended t frame a before v))
ended_from t frame a before o (Went s g b c r) p = p
ended_from t frame a before o (Trapped x s) p = p
ended_from t frame a before o (Cut s) p = p

ended_later : (t : Option Ty) (frame : Frame) (a : Mask) (before : State) (v v' : Res) → LaterRes v v' → LaterVal (ended t frame a before v) (ended t frame a before v')
ended_later t frame a before (Went s g b c r) v' l = ap (ended t frame a before) l
ended_later t frame a before (Trapped x s) v' l = ap (ended t frame a before) l
ended_later t frame a before (Cut s) v' l = ended_from t frame a before s.out v' l

module _ (program : Program) (n n' : ℕ) (le : n ≤ n') where
  called_grows : (calls calls' : Calls) → CallsGrow calls calls' → (o : Option TFunction) (a : Mask) (xs : List Passed) (frame : Frame) (s : State) → Grown s.out (called program n calls o a xs frame s) (called program n' calls' o a xs frame s)
  called_grows calls calls' grow None a xs frame s = record { from = prefix_self s.out; later = prefix_self s.out }
  called_grows calls calls' grow (Some f) a xs frame s =
      let ran = block_grows (gang_width program.gang) (frame_of f xs frame) calls calls' grow n n' le f.body a (begun f xs frame a s) in
      record {
        from = ended_from f.answer frame a s s.out (block (gang_width program.gang) (frame_of f xs frame) calls' n' f.body a (begun f xs frame a s)) ran.from;
        later = ended_later f.answer frame a s (block (gang_width program.gang) (frame_of f xs frame) calls n f.body a (begun f xs frame a s)) _ ran.later;
      }

  calls_grow : (left : ℕ) → CallsGrow (calls_at program n left) (calls_at program n' left)
  calls_grow zero f p a xs frame s = record { from = prefix_self s.out; later = refl }
  calls_grow (suc left) f p a xs frame s = called_grows _ _ (calls_grow left) (slice_get program.functions f) a xs frame s

-- ---- runs

outcome_later : (t : Option Elem) (xs : List Argument) (v v' : Val Payload) → LaterVal v v' → Later (outcome_of t xs v) (outcome_of t xs v')
outcome_later t xs (Gives x s) v' l = ap (outcome_of t xs) l
outcome_later t xs (Fails k s) v' l = ap (outcome_of t xs) l
outcome_later t xs (Stops s) (Gives x s1) l = l
outcome_later t xs (Stops s) (Fails k s1) l = l
outcome_later t xs (Stops s) (Stops s1) l = l

pub more_turns : MoreTurns
more_turns program f n m xs le =
    outcome_later _ xs _ _ (calls_grow program n m le most_calls f no_place (everyone (gang_width program.gang)) (handed 0 xs) (first_frame xs) (first_state xs)).later
