-- What tasks do, in the words of the definitions of an instance alone, and what a list of them comes to.
use Rattle.std.specs.Prelude.{◌≡◌, ◌≤◌, ◌+◌, ℕ, Bool, true, false, List, [], ◌∷◌, ◌++◌, map, option_map, Option, Some, None, Result, Ok, Err, get_or}
use Rattle.std.proofs.Common.{Bor}
use Rattle.isp_base.specs.Access.{is_zero}
use Rattle.isp_base.specs.Types.{gang_width}
use Rattle.isp_base.specs.declared.types.Elem.{Elem}
use Rattle.isp_base.specs.declared.types.Elem.TheVariants.{I32}
use Rattle.isp_base.specs.declared.types.Rate.TheVariants.{Uniform}
use Rattle.isp_base.specs.declared.types.Span.{Span}
use Rattle.isp_base.specs.Unary.{unary_bits}
use Rattle.isp_base.specs.Values.{number, op_bits, compare_bits}
use Rattle.isp_base.specs.declared.operators.BinOp.{BinOp}
use Rattle.isp_base.specs.declared.trap.Trap.{Trap}
use Rattle.isp_base.specs.declared.trap.TrapKind.TheVariants.{Assert, Divide, Index}
use Rattle.isp_typed.specs.Typed.{TExpr, elem_of, TPlace, place_span, TItem, TArgument, TRange, TCall, t_called, t_arguments, t_exprs, TBlock, TStmt, t_stmts, TFirst, TFunction}
use Rattle.isp_typed.specs.declared.stmt.TypedStmt.{TypedStmt}
use Rattle.isp_typed.specs.declared.variable.ArrayVariable.{ArrayVariable}
use Rattle.isp_typed.specs.Views.{expr_of, exprs_of, place_of, call_of, arguments_of, ranges_of, simple_of, items_of, stmt_of, stmts_of, program_of}
use Rattle.isp_meaning.specs.State.{Frame}
use Rattle.isp_meaning.specs.Payloads.{One, is_true, is_false, converted}
use Rattle.isp_meaning.specs.Expressions.{Passed, Values, needs}
use Rattle.isp_meaning.specs.Rounds.{Range, Run, runs_of}
use Rattle.isp_solo_meaning.specs.Alone.{Alone, written}
use Rattle.isp_solo_meaning.specs.Answers as Answers
use Rattle.isp_solo_meaning.specs.Answers.{Answer, Has, Bad, Long, Going, Returned, End, Does, Dies, Lasts, Done, and_then, unless, choose, with_answer, then_on, then_always}
use Rattle.isp_solo_meaning.specs.Places.{Spot, AnElement, outside, kept}
use Rattle.isp_solo_meaning.specs.Values.{OwnCalls, by_instance, found, held, answer, answers, answer_call, arguments, spot}
use Rattle.isp_solo_meaning.specs.Steps.{update, simple, item, items, first_part, step_part}
use Rattle.isp_solo_meaning.specs.Loops.{tested, turned, turns, stepped, rounds}
use Rattle.isp_solo_meaning.specs.Does.{bounds, does, does_block, does_all, test_part}
use Rattle.isp_solo_meaning.specs.Calls.{called, own_calls}
use Rattle.isp_solo_run.specs.Arrays.{bound_seen}
use Rattle.isp_gang_values.specs.Left.{range_seen, runs_left}
use Rattle.isp_solo_run.specs.Due.{due, left_after, task_due, value_due, values_due, hand_due, called_due, call_due, body_due, write_due, target_due, item_due, block_due, all_due, branch_due, turn_due}
use Rattle.isp_solo_run.specs.Due.{first_due, test_due, turns_due, step_due, bounds_due}
use Rattle.isp_solo_run.specs.Most.{one, two}
use Rattle.isp_solo_run.specs.Seen.{frame_seen, state_of, with_variables, how_seen, spot_seen, passed_seen}
use Rattle.isp_solo_run.specs.declared.loops.Turning.{Turning}
use Rattle.isp_solo_run.specs.declared.places.Writing.{Writing}
use Rattle.isp_solo_run.specs.declared.places.Writing.TheVariants as writing
use Rattle.isp_solo_run.specs.declared.rounds.Bounds.{Bounds}
use Rattle.isp_solo_run.specs.declared.rounds.Rounds.{Rounds}
use Rattle.isp_solo_run.specs.declared.state.How.{How}
use Rattle.isp_solo_run.specs.declared.state.Setting.{Setting}
use Rattle.isp_solo_run.specs.declared.state.Single.{Single}
use Rattle.isp_solo_run.specs.declared.state.Stop.{Stop}
use Rattle.isp_solo_run.specs.declared.state.Stop.TheVariants as stop
use Rattle.isp_solo_run.specs.declared.tasks.Branches.{Branches}
use Rattle.isp_solo_run.specs.declared.tasks.Gathering.{Gathering}
use Rattle.isp_solo_run.specs.declared.tasks.Gathering.TheVariants as gathering
use Rattle.isp_solo_run.specs.declared.tasks.Joining.{Joining}
use Rattle.isp_solo_run.specs.declared.tasks.Joining.TheVariants as joining
use Rattle.isp_solo_run.specs.declared.tasks.Statements.{Statements}
use Rattle.isp_solo_run.specs.declared.tasks.Task.{Task}
use Rattle.isp_solo_run.specs.declared.tasks.Task.TheVariants as task
use Rattle.isp_solo_run.specs.declared.tasks.Unique.{Unique}

-- The running call's frame, how many more calls may run, the state, and two registers: what the last expression gave, and how the
-- last statement was left. An expression leaves Going in the second, a statement leaves 0 in the first.
pub record Store : Type 0 where
  pub frame : Frame
  pub left : ℕ
  pub state : Alone
  pub value : ℕ
  pub how : Answers.How

-- what tasks come to
pub data Goes : Type 0 where
  On : Store → Goes
  Trapped : Trap → Alone → Goes
  Cut : Alone → Goes

abbrev pub go : Goes → (Store → Goes) → Goes
go (On r) next = next r
go (Trapped t s) next = Trapped t s
go (Cut s) next = Cut s

-- so it goes on, where a call has this frame and so many levels left
abbrev pub value_on : Frame → ℕ → Answer ℕ → Goes
value_on fr l (Has x s) = On (record { frame = fr; left = l; state = s; value = x; how = Going })
value_on fr l (Bad t s) = Trapped t s
value_on fr l (Long s) = Cut s

abbrev pub done_on : Frame → ℕ → Answer Done → Goes
done_on fr l (Has x s) = On (record { frame = fr; left = l; state = s; value = 0; how = Going })
done_on fr l (Bad t s) = Trapped t s
done_on fr l (Long s) = Cut s

abbrev pub end_on : Frame → ℕ → End → Goes
end_on fr l (Does s h) = On (record { frame = fr; left = l; state = s; value = 0; how = h })
end_on fr l (Dies t s) = Trapped t s
end_on fr l (Lasts s) = Cut s

-- a value goes into its register; what comes after what was done for its effect; what comes after a statement
abbrev pub given : Store → Answer ℕ → Goes
given r = value_on r.frame r.left

abbrev pub done : Store → Answer Done → Goes
done r = done_on r.frame r.left

abbrev pub ran : Store → End → Goes
ran r = end_on r.frame r.left

-- a range whose bounds were found
abbrev pub found_range : Bounds → ℕ → ℕ → Range
found_range b i j = record { index = b.range.now.index; start = number I32 i; end = number I32 j }

-- what expressions and statements mean in a setting, with a frame and so many levels left
module _ (c : Setting) where
  abbrev pub bound_in : ℕ → ℕ → ℕ
  bound_in = bound_seen c.bound.now

  abbrev pub calls_in : ℕ → OwnCalls
  calls_in = own_calls (program_of c.program.now) c.turns bound_in c.instance

  abbrev pub value_at : Store → TExpr → Alone → Answer ℕ
  value_at r = answer bound_in c.instance r.frame (calls_in r.left)

  abbrev pub values_at : Store → List TExpr → Alone → Answer (List ℕ)
  values_at r xs = answers bound_in c.instance r.frame (calls_in r.left) (t_exprs xs)

  abbrev pub run_in : Frame → ℕ → TStmt → Alone → End
  run_in fr l = does (gang_width c.program.now.gang) bound_in c.instance fr (calls_in l) c.turns

  abbrev pub block_in : Frame → ℕ → TBlock → Alone → End
  block_in fr l = does_block (gang_width c.program.now.gang) bound_in c.instance fr (calls_in l) c.turns

  abbrev pub all_in : Frame → ℕ → List TStmt → Alone → End
  all_in fr l xs = does_all (gang_width c.program.now.gang) bound_in c.instance fr (calls_in l) c.turns (t_stmts xs)

  abbrev pub perhaps_in : Frame → ℕ → Option TStmt → Alone → End
  perhaps_in fr l None s = Does s Going
  perhaps_in fr l (Some x) s = run_in fr l x s

  -- a turn that is taken alone: however it is left, the instance goes on
  abbrev pub turn_in : Frame → ℕ → ℕ → ℕ → TStmt → Alone → End
  turn_in fr l i b x s = then_always (run_in fr l x (written Uniform i b s)) (λ s1. Does s1 Going)

  -- an operator on two values
  abbrev pub join : Joining → ℕ → ℕ → Alone → Answer ℕ
  join (joining.Operate op t span) i j s = unless (is_zero op t j) Divide span c.instance s (op_bits op t i j)
  join (joining.Compare k t) i j s = Has (compare_bits k t i j) s

  -- what is done with several values
  abbrev pub gathered : Gathering → List ℕ → Alone → Answer ℕ
  gathered (gathering.Library f e) is s = Has (by_instance f e (get_or is 0 0) (get_or is 1 0) (get_or is 2 0)) s
  gathered gathering.Print is s = Has 0 s

  -- the values that are left, and then that
  abbrev pub gather : Gathering → List TExpr → List ℕ → Store → Goes
  gather g xs before r = given r (and_then (values_at r xs r.state) (λ is s. gathered g (before ++ is) s))

  -- the arguments that are left, and then the call
  abbrev pub hand : TCall → List TArgument → List Passed → Store → Goes
  hand (t_called f all sp) xs before r =
      given r (and_then (arguments bound_in c.instance r.frame (calls_in r.left) (t_arguments xs) r.state) (λ ps s. calls_in r.left f sp (before ++ ps) r.frame s))

  -- a place is known: the right side, then the access
  abbrev pub assign : Store → TPlace → Spot → ℕ → Alone → Answer Done
  assign r q k i s = and_then (unless (outside r.frame k) Index (place_span q) c.instance s i) (λ j s1. Has tt (kept r.frame k j s1))

  abbrev pub write : Writing → TPlace → Spot → Store → Alone → Answer Done
  write (writing.Assign x) q k r s = and_then (value_at r (expr_of x.now) s) (λ i s1. assign r q k i s1)
  write (writing.Update op t x sp) q k r s =
      and_then (value_at r (expr_of x.now) s) (λ j s1. update bound_in c.instance r.frame (calls_in r.left) op t q k j sp s1)
  write (writing.Step op t sp) q k r s = update bound_in c.instance r.frame (calls_in r.left) op t q k 1 sp s

  -- a loop's parts, and its turns
  abbrev pub test_in : Frame → ℕ → Turning → Alone → Answer ℕ
  test_in fr l p = test_part bound_in c.instance fr (calls_in l) (option_map (λ x. expr_of x.now) p.test)

  abbrev pub body_in : Frame → ℕ → Turning → Alone → End
  body_in fr l p = run_in fr l (stmt_of p.body.now)

  abbrev pub step_in : Frame → ℕ → Turning → Alone → Answer Done
  step_in fr l p = step_part bound_in c.instance fr (calls_in l) (option_map (λ x. simple_of x.now) p.step)

  abbrev pub turns_in : Frame → ℕ → Turning → ℕ → Alone → End
  turns_in fr l p = turns (test_in fr l p) (body_in fr l p) (step_in fr l p)

  abbrev pub tested_in : Frame → ℕ → Turning → (Alone → End) → Alone → End
  tested_in fr l p = tested (test_in fr l p) (body_in fr l p) (step_in fr l p)

  abbrev pub stepped_in : Frame → ℕ → Turning → (Alone → End) → Alone → End
  stepped_in fr l p = stepped (test_in fr l p) (body_in fr l p) (step_in fr l p)

  abbrev pub turned_in : Frame → ℕ → Turning → End → (Alone → End) → End
  turned_in fr l p = turned (test_in fr l p) (body_in fr l p) (step_in fr l p)

  -- a statement was run: the others, where it went on
  abbrev pub followed : Statements → Store → Goes
  followed b r = ran r (then_on (Does r.state r.how) (all_in r.frame r.left (stmts_of b.rest.now)))

  -- the test of an `if` was found
  abbrev pub branched : Branches → Store → Goes
  branched b r =
      ran r (choose (is_true r.value) (run_in r.frame r.left (stmt_of b.then.now)) (perhaps_in r.frame r.left (option_map (λ z. stmt_of z.now) b.otherwise)) r.state)

  -- the value of a `foreach_unique` was found: its turn
  abbrev pub turn_with : Unique → Store → Goes
  turn_with u r = ran r (turn_in r.frame r.left u.index (converted u.from u.to r.value) (stmt_of u.body.now) r.state)

  -- a loop goes on with its test, with what the test found, and with how the body was left
  abbrev pub test_then : Turning → Store → Goes
  test_then t r = ran r (tested_in r.frame r.left t (turns_in r.frame r.left t t.left) r.state)

  abbrev pub test_kept : Turning → Store → Goes
  test_kept t r = ran r (choose (is_true r.value) (turns_in r.frame r.left t t.left) (λ s. Does s Going) r.state)

  abbrev pub body_then : Turning → Store → Goes
  body_then t r = ran r (turned_in r.frame r.left t (Does r.state r.how) (stepped_in r.frame r.left t (turns_in r.frame r.left t t.left)))

  -- the runs of a `foreach`, in a list or with what is left of them
  abbrev pub runs_in : Frame → ℕ → Bor TypedStmt → List Run → Alone → End
  runs_in fr l body = rounds (run_in fr l (stmt_of body.now)) c.instance

  abbrev pub round_on : Rounds → Store → Goes
  round_on b r = ran r (runs_in r.frame r.left b.body (runs_left (gang_width c.program.now.gang) b.ranges.items) r.state)

  -- the bounds that are left, and then the runs
  abbrev pub bound_by : Bor TypedStmt → List Range → Frame → ℕ → List Range → Alone → End
  bound_by body before fr l xs = runs_in fr l body (runs_of (gang_width c.program.now.gang) (before ++ xs))

  abbrev pub bounded : List TRange → List Range → Bor TypedStmt → Store → Goes
  bounded rs before body r = ran r (with_answer (bounds bound_in c.instance r.frame (calls_in r.left) rs r.state) (bound_by body before r.frame r.left))

  -- both bounds of a range were found
  abbrev pub range_then : Bounds → ℕ → ℕ → Store → Goes
  range_then b i j = bounded (ranges_of b.rest.now) (map range_seen b.done.items ++ found_range b i j ∷ []) b.body

  -- the start was found
  abbrev pub end_then : Bounds → ℕ → Store → Goes
  end_then b i r = go (given r (value_at r (expr_of b.range.now.end) r.state)) (λ q. range_then b i q.value q)

  abbrev pub act : Task → Store → Goes
  act (task.Value x) r = given r (value_at r (expr_of x.now) r.state)
  act (task.Load b t sp) r = given r (held bound_in c.instance r.frame sp (AnElement b t r.value) r.state)
  act (task.Convert from to) r = given r (Has (converted from to r.value) r.state)
  act (task.Unary op t) r = given r (Has (unary_bits op t r.value) r.state)
  act (task.Right j y) r = given r (and_then (value_at r (expr_of y.now) r.state) (λ n s. join j r.value n s))
  act (task.Join j i) r = given r (join j i r.value r.state)
  act (task.Logic l y) r = given r (choose (needs l r.value) (value_at r (expr_of y.now)) (Has r.value) r.state)
  act (task.Choose x y) r = given r (choose (is_true r.value) (value_at r (expr_of x.now)) (value_at r (expr_of y.now)) r.state)
  act (task.Values g ys before) r = gather g (exprs_of ys.now) (before.items ++ r.value ∷ []) r
  act (task.Arguments k ys before) r = hand (call_of k.now) (arguments_of ys.now) (map passed_seen before.items) r
  act (task.Argument k ys before) r = hand (call_of k.now) (arguments_of ys.now) (map passed_seen before.items ++ Values (One r.value) ∷ []) r
  -- the caller has its frame, its level and its variables again
  act (task.Return caller left) r =
      On (record {
        frame = frame_seen caller.value;
        left = left;
        state = with_variables caller.value r.state;
        value = r.state.result;
        how = Going;
      })
  act (task.Simple x) r = done r (simple bound_in c.instance r.frame (calls_in r.left) (simple_of x.now) r.state)
  act task.Go r = done r (Has tt r.state)
  act (task.Indexed q b t w) r = done r (write w (place_of q.now) (AnElement b t r.value) r r.state)
  act (task.Assign k sp) r = done r (and_then (unless (outside r.frame (spot_seen k)) Index sp c.instance r.state r.value) (λ j s. Has tt (kept r.frame (spot_seen k) j s)))
  act (task.Update op t k q sp) r =
      done r (update bound_in c.instance r.frame (calls_in r.left) op t (place_of q.now) (spot_seen k) r.value sp r.state)
  act (task.Items xs) r = done r (items bound_in c.instance r.frame (calls_in r.left) (items_of xs.now) r.state)
  act (task.Declared v t) r = done r (Has tt (written t.rate v r.value r.state))
  act (task.Run x) r = ran r (run_in r.frame r.left (stmt_of x.now) r.state)
  act (task.Statements b) r = followed b.value r
  act (task.Branch b) r = branched b.value r
  act task.Answer r = ran r (Does (record r.state { result = r.value }) Returned)
  act (task.Assert sp) r = done r (unless (is_false r.value) Assert sp c.instance r.state tt)
  act (task.Turn b) r = turn_with b.value r
  act (task.Test b) r = test_then b.value r
  act (task.Tested b) r = test_kept b.value r
  act (task.Turned b) r = body_then b.value r
  act (task.Start b) r = end_then b.value r.value r
  act (task.End i b) r = range_then b.value i r.value r
  act (task.Rounds b) r = round_on b.value r

  -- the tasks of a stack, the last one first
  abbrev pub finish : List Task → Store → Goes
  finish [] r = On r
  finish (t ∷ ts) r = go (finish ts r) (act t)

abbrev pub state_seen : Single → Alone
state_seen e = state_of e.here e.arrays

abbrev pub store_seen : Single → Store
store_seen e = record { frame = frame_seen e.here; left = e.left; state = state_seen e; value = e.value; how = how_seen e.how }

abbrev pub does_task : Single → Task → Store → Goes
does_task e = act e.setting

abbrev pub does_both : Single → Task → Task → Store → Goes
does_both e t u r = go (does_task e t r) (does_task e u)

abbrev pub rest : Single → Store → Goes
rest e = finish e.setting e.tasks.items

-- how many tasks are done at most, as it stands; and where so many more calls may run
abbrev pub due_now : Single → ℕ
due_now e = due e.setting e.tasks.items e.left

abbrev pub due_at : Single → ℕ → ℕ
due_at e = due e.setting e.tasks.items

-- What a call in the code tells: where it went on, all that there is to do after f comes to what is left to do then, and it left at most n
-- tasks more to be done; after it l more calls may run. Where it trapped or was cut, so does f, in the state that was reached. Memory
-- is refused where a growth was.
abbrev pub TellsAt : ℕ → Result (Unit {0}) Stop → Single → Single → (Store → Goes) → ℕ → Type 0
TellsAt l (Ok x) old new f n = (go (f (store_seen old)) (rest old) ≡ rest new (store_seen new)) × (due_now new ≤ n + due_at old l)
TellsAt l (Err stop.Memory) old new f n = Unit {0}
TellsAt l (Err (stop.Trapped t)) old new f n = f (store_seen old) ≡ Trapped t (state_seen new)
TellsAt l (Err stop.Cut) old new f n = f (store_seen old) ≡ Cut (state_seen new)

abbrev pub Tells : Result (Unit {0}) Stop → Single → Single → (Store → Goes) → ℕ → Type 0
Tells q old new = TellsAt old.left q old new

-- what the handler of a task tells
abbrev pub DoesTask : Result (Unit {0}) Stop → Single → Single → Task → Type 0
DoesTask q old new t = TellsAt (left_after t old.left) q old new (does_task old t) (task_due old.setting old.left t)

-- a task waits; a task, and then another
abbrev pub Waits : Result (Unit {0}) Stop → Single → Single → Task → Type 0
Waits q old new t = TellsAt (left_after t old.left) q old new (does_task old t) (one (task_due old.setting old.left t))

abbrev pub both_due : Single → Task → Task → ℕ
both_due e t u = two (task_due e.setting e.left t) (task_due e.setting (left_after t e.left) u)

abbrev pub WaitBoth : Result (Unit {0}) Stop → Single → Single → Task → Task → Type 0
WaitBoth q old new t u = TellsAt (left_after u (left_after t old.left)) q old new (does_both old t u) (both_due old t u)

-- ---- groups of tasks

-- those of statements, also of a `foreach`; all others are of expressions and calls
abbrev pub is_of_foreach : Task → Bool
is_of_foreach (task.Start b) = true
is_of_foreach (task.End i b) = true
is_of_foreach (task.Rounds b) = true
is_of_foreach t = false

abbrev pub is_of_statements : Task → Bool
is_of_statements (task.Simple x) = true
is_of_statements task.Go = true
is_of_statements (task.Indexed q b t w) = true
is_of_statements (task.Assign k sp) = true
is_of_statements (task.Update op t k q sp) = true
is_of_statements (task.Items xs) = true
is_of_statements (task.Declared v t) = true
is_of_statements (task.Run x) = true
is_of_statements (task.Statements b) = true
is_of_statements (task.Branch b) = true
is_of_statements task.Answer = true
is_of_statements (task.Assert sp) = true
is_of_statements (task.Turn b) = true
is_of_statements (task.Test b) = true
is_of_statements (task.Tested b) = true
is_of_statements (task.Turned b) = true
is_of_statements t = is_of_foreach t

-- ---- what the parts of an evaluation come to

abbrev pub gives : ℕ → Store → Goes
gives x r = given r (Has x r.state)

abbrev pub goes : Store → Goes
goes r = done r (Has tt r.state)

abbrev pub leaves : How → Store → Goes
leaves h r = ran r (Does r.state (how_seen h))

-- an expression, a place that is known and one whose index comes first, an update, a declared item, a statement and a block
abbrev pub finds : Single → TExpr → Store → Goes
finds e x r = given r (value_at e.setting r x r.state)

abbrev pub loads : Single → Span → Spot → Store → Goes
loads e sp k r = given r (held (bound_in e.setting) e.setting.instance r.frame sp k r.state)

abbrev pub gathers : Single → Gathering → List TExpr → List ℕ → Store → Goes
gathers e = gather e.setting

abbrev pub hands : Single → TCall → List TArgument → List Passed → Store → Goes
hands e = hand e.setting

abbrev pub writes : Single → Writing → TPlace → Spot → Store → Goes
writes e w q k r = done r (write e.setting w q k r r.state)

abbrev pub targets : Single → Writing → TPlace → Store → Goes
targets e w q r =
    done r (and_then (spot (bound_in e.setting) e.setting.instance r.frame (calls_in e.setting r.left) q r.state) (λ k s. write e.setting w q k r s))

abbrev pub updates : Single → BinOp → Elem → TPlace → Spot → ℕ → Span → Store → Goes
updates e op t q k j sp r = done r (update (bound_in e.setting) e.setting.instance r.frame (calls_in e.setting r.left) op t q k j sp r.state)

abbrev pub declares : Single → TItem → Store → Goes
declares e x r = done r (item (bound_in e.setting) e.setting.instance r.frame (calls_in e.setting r.left) x r.state)

abbrev pub runs : Single → TStmt → Store → Goes
runs e x r = ran r (run_in e.setting r.frame r.left x r.state)

abbrev pub blocks : Single → TBlock → Store → Goes
blocks e b r = ran r (block_in e.setting r.frame r.left b r.state)

abbrev pub runs_all : Single → List TStmt → Store → Goes
runs_all e xs r = ran r (all_in e.setting r.frame r.left xs r.state)

-- the one turn of a `foreach_active` or a `foreach_unique`, with these bits as its index
abbrev pub takes_turn : Single → ℕ → ℕ → TStmt → Store → Goes
takes_turn e i b x r = ran r (turn_in e.setting r.frame r.left i b x r.state)

-- a value, and then the turn
abbrev pub turns_by_value : Single → ℕ → Elem → TExpr → TStmt → Store → Goes
turns_by_value e i t x body r = ran r (with_answer (value_at e.setting r x r.state) (λ b s. turn_in e.setting r.frame r.left i (converted (elem_of x) t b) body s))

abbrev pub turns_with : Single → Unique → Store → Goes
turns_with e = turn_with e.setting

-- a call by the function's number, with what is handed over
abbrev pub enters : Single → ℕ → Span → List Passed → Store → Goes
enters e f sp ps r = given r (calls_in e.setting r.left f sp ps r.frame r.state)

abbrev pub calls_on : Single → TCall → Store → Goes
calls_on e k r = given r (answer_call (bound_in e.setting) e.setting.instance r.frame (calls_in e.setting r.left) k r.state)

abbrev pub calls_and_goes : Single → TCall → Store → Goes
calls_and_goes e k r = go (calls_on e k r) goes

-- and the function itself, with so many levels left
abbrev pub does_call : Single → ℕ → TFunction → List Passed → Store → Goes
does_call e left f ps r =
    given r (called (program_of e.setting.program.now) e.setting.turns (bound_in e.setting) e.setting.instance (calls_in e.setting left) (Some f) ps r.frame r.state)

-- the turns that are left of a loop
abbrev pub turns_on : Single → Turning → Store → Goes
turns_on e t r = ran r (turns_in e.setting r.frame r.left t t.left r.state)

abbrev pub tests_on : Single → Turning → Store → Goes
tests_on e = test_then e.setting

abbrev pub keeps_on : Single → Turning → Store → Goes
keeps_on e = test_kept e.setting

abbrev pub turned_on : Single → Turning → Store → Goes
turned_on e = body_then e.setting

abbrev pub follows : Single → Statements → Store → Goes
follows e = followed e.setting

-- an `if`: its test, and then a branch
abbrev pub branches_on : Single → Branches → Store → Goes
branches_on e = branched e.setting

abbrev pub chooses : Single → TExpr → Branches → Store → Goes
chooses e x b r = go (finds e x r) (branches_on e b)

-- the step and then the test, and the first part of a `for` and then the test
abbrev pub steps_on : Single → Turning → Store → Goes
steps_on e t r = ran r (stepped_in e.setting r.frame r.left t (turns_in e.setting r.frame r.left t t.left) r.state)

abbrev pub firsts : Single → Option TFirst → Turning → Store → Goes
firsts e x t r =
    ran r (with_answer (first_part (bound_in e.setting) e.setting.instance r.frame (calls_in e.setting r.left) x r.state)
    (λ _ s. tested_in e.setting r.frame r.left t (turns_in e.setting r.frame r.left t t.left) s))

-- the bounds of a `foreach` that are left, and its runs once all are found
abbrev pub bounds_on : Single → List TRange → List Range → Bor TypedStmt → Store → Goes
bounds_on e = bounded e.setting

abbrev pub begins_on : Single → List Range → Bor TypedStmt → Store → Goes
begins_on e xs body r = ran r (runs_in e.setting r.frame r.left body (runs_of (gang_width e.setting.program.now.gang) xs) r.state)

-- ---- what the calls of the code tell, by what they do

abbrev pub FindsValue : Result (Unit {0}) Stop → Single → Single → TExpr → Type 0
FindsValue q old new x = Tells q old new (finds old x) (value_due old.setting old.left x)

abbrev pub Gathers : Result (Unit {0}) Stop → Single → Single → Gathering → List TExpr → List ℕ → Type 0
Gathers q old new g xs before = Tells q old new (gathers old g xs before) (values_due old.setting old.left xs)

abbrev pub Hands : Result (Unit {0}) Stop → Single → Single → TCall → List TArgument → List Passed → Type 0
Hands q old new k xs before = Tells q old new (hands old k xs before) (hand_due old.setting old.left k xs)

abbrev pub Calls : Result (Unit {0}) Stop → Single → Single → TCall → Type 0
Calls q old new k = Tells q old new (calls_on old k) (called_due old.setting old.left k)

abbrev pub CallsAndGoes : Result (Unit {0}) Stop → Single → Single → TCall → Type 0
CallsAndGoes q old new k = Tells q old new (calls_and_goes old k) (called_due old.setting old.left k + one 0)

abbrev pub Enters : Result (Unit {0}) Stop → Single → Single → ℕ → Span → List Passed → Type 0
Enters q old new f sp ps = Tells q old new (enters old f sp ps) (call_due old.setting old.left f)

abbrev pub DoesCall : Result (Unit {0}) Stop → Single → Single → ℕ → TFunction → List Passed → Type 0
DoesCall q old new l f ps = Tells q old new (does_call old l f ps) (body_due old.setting l f)

abbrev pub Writes : Result (Unit {0}) Stop → Single → Single → Writing → TPlace → Spot → Type 0
Writes q old new w p k = Tells q old new (writes old w p k) (write_due old.setting old.left w)

abbrev pub Targets : Result (Unit {0}) Stop → Single → Single → Writing → TPlace → Type 0
Targets q old new w p = Tells q old new (targets old w p) (target_due old.setting old.left w p)

abbrev pub Declares : Result (Unit {0}) Stop → Single → Single → TItem → Type 0
Declares q old new x = Tells q old new (declares old x) (item_due old.setting old.left x)

abbrev pub RunsBlock : Result (Unit {0}) Stop → Single → Single → TBlock → Type 0
RunsBlock q old new b = Tells q old new (blocks old b) (block_due old.setting old.left b)

abbrev pub RunsAll : Result (Unit {0}) Stop → Single → Single → List TStmt → Type 0
RunsAll q old new xs = Tells q old new (runs_all old xs) (all_due old.setting old.left xs)

abbrev pub Follows : Result (Unit {0}) Stop → Single → Single → Statements → Type 0
Follows q old new b = Tells q old new (follows old b) (all_due old.setting old.left (stmts_of b.rest.now))

abbrev pub Chooses : Result (Unit {0}) Stop → Single → Single → TExpr → Branches → Type 0
Chooses q old new x b = Tells q old new (chooses old x b) (two (value_due old.setting old.left x) (branch_due old.setting old.left b))

abbrev pub BranchesOn : Result (Unit {0}) Stop → Single → Single → Branches → Type 0
BranchesOn q old new b = Tells q old new (branches_on old b) (branch_due old.setting old.left b)

abbrev pub TakesTurn : Result (Unit {0}) Stop → Single → Single → ℕ → ℕ → TStmt → Type 0
TakesTurn q old new i b x = Tells q old new (takes_turn old i b x) (turn_due old.setting old.left x)

abbrev pub TurnsWith : Result (Unit {0}) Stop → Single → Single → Unique → Type 0
TurnsWith q old new u = Tells q old new (turns_with old u) (turn_due old.setting old.left (stmt_of u.body.now))

abbrev pub TurnsByValue : Result (Unit {0}) Stop → Single → Single → ℕ → Elem → TExpr → TStmt → Type 0
TurnsByValue q old new i t x body = Tells q old new (turns_by_value old i t x body) (two (value_due old.setting old.left x) (turn_due old.setting old.left body))

abbrev pub Firsts : Result (Unit {0}) Stop → Single → Single → Option TFirst → Turning → Type 0
Firsts q old new x t = Tells q old new (firsts old x t) (first_due old.setting old.left x t)

abbrev pub Tests : Result (Unit {0}) Stop → Single → Single → Turning → Type 0
Tests q old new t = Tells q old new (tests_on old t) (test_due old.setting old.left t)

abbrev pub KeepsOn : Result (Unit {0}) Stop → Single → Single → Turning → Type 0
KeepsOn q old new t = Tells q old new (keeps_on old t) (turns_due old.setting old.left t)

abbrev pub Turns : Result (Unit {0}) Stop → Single → Single → Turning → Type 0
Turns q old new t = Tells q old new (turns_on old t) (turns_due old.setting old.left t)

abbrev pub TurnedOn : Result (Unit {0}) Stop → Single → Single → Turning → Type 0
TurnedOn q old new t = Tells q old new (turned_on old t) (step_due old.setting old.left t)

abbrev pub StepsOn : Result (Unit {0}) Stop → Single → Single → Turning → Type 0
StepsOn q old new t = Tells q old new (steps_on old t) (step_due old.setting old.left t)

abbrev pub Bounded : Result (Unit {0}) Stop → Single → Single → List TRange → List Range → Bor TypedStmt → Type 0
Bounded q old new rs before body = Tells q old new (bounds_on old rs before body) (bounds_due old.setting old.left rs before body)

abbrev pub Begins : Result (Unit {0}) Stop → Single → Single → List Range → Bor TypedStmt → Type 0
Begins q old new xs body = Tells q old new (begins_on old xs body) (bounds_due old.setting old.left [] xs body)

-- what is held at a place: the value, or a trap
abbrev pub Finds : Result ℕ Stop → Single → Single → Span → Spot → Type 0
Finds (Ok x) old new sp k = (held (bound_in old.setting) old.setting.instance (frame_seen old.here) sp k (state_seen old) ≡ Has x (state_seen new)) × (new ≡ record old { arrays = new.arrays })
Finds (Err stop.Memory) old new sp k = Unit {0}
Finds (Err (stop.Trapped t)) old new sp k = held (bound_in old.setting) old.setting.instance (frame_seen old.here) sp k (state_seen old) ≡ Bad t (state_seen new)
Finds (Err stop.Cut) old new sp k = ⊥

-- what an array has at an element
abbrev pub HasFound : Result ℕ Stop → Single → Single → ArrayVariable → ℕ → Type 0
HasFound (Ok x) old new b e = (found (bound_in old.setting) old.setting.instance (frame_seen old.here) b.ty.rate b e (state_seen old) ≡ Has x (state_seen new)) × (new ≡ record old { arrays = new.arrays })
HasFound (Err stop.Memory) old new b e = Unit {0}
HasFound (Err (stop.Trapped t)) old new b e = ⊥
HasFound (Err stop.Cut) old new b e = ⊥

-- the state is changed so, and nothing else
pub record Changes (old new : Single) (f : Alone → Alone) : Type 0 where
  pub state : state_seen new ≡ f (state_seen old)
  pub frame : frame_seen new.here ≡ frame_seen old.here
  pub same : new ≡ record old { here = new.here; arrays = new.arrays }

-- What a whole run of the tasks tells: where it ended, f comes to the registers as they are then; else as Tells has it.
abbrev pub Ends : Result (Unit {0}) Stop → Single → Single → (Store → Goes) → Type 0
Ends (Ok x) old new f = f (store_seen old) ≡ On (store_seen new)
Ends (Err e) old new f = Tells (Err e) old new f 0
