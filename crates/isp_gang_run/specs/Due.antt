-- How many tasks are done at most for each task and for a list of them: by what the program says and by the turns and runs that are left,
-- whatever the registers hold. So a step that leaves fewer is progress.
use Rattle.std.specs.Prelude.{ℕ, suc, ◌≤◌, ◌+◌, ◌*◌, ◌^◌, List, [], ◌∷◌, map, length, Option, Some, None, option_map}
use Rattle.std.proofs.Common.{Bor}
use Rattle.isp_base.specs.Sets.{Mask, flag_of}
use Rattle.isp_base.specs.Types.{gang_width}
use Rattle.isp_typed.specs.Typed.{TExpr, TPlace, TBase, TArgument, t_arguments, t_exprs, TCall, t_called, TItem, TSimple, TFirst, TRange, TStmt, t_stmts, TBlock, TFunction, Program}
use Rattle.isp_typed.specs.declared.expr.TypedExpr.{TypedExpr}
use Rattle.isp_typed.specs.declared.stmt.TypedFirst.{TypedFirst}
use Rattle.isp_typed.specs.declared.stmt.TypedStmt.{TypedStmt}
use Rattle.isp_typed.specs.Views.{expr_of, exprs_of, call_of, arguments_of, first_of, ranges_of, simple_of, items_of, stmt_of, stmts_of, program_of}
use Rattle.isp_meaning.specs.Rounds.{Range, members, unique_rounds}
use Rattle.isp_gang_values.specs.Left.{range_seen, runs_left}
use Rattle.isp_gang_values.specs.Seen.{map_of, payload_of}
use Rattle.isp_gang_run.specs.Most.{one, two, expr_most, place_most, base_most, exprs_most, call_most, arguments_most, simple_most, item_most, items_most, second_most, branch_most}
use Rattle.isp_gang_run.specs.Most.{give_most, first_most, test_most, step_most, turns_most, rounds_most, runs_most, bounds_most, stmt_most, block_most, stmts_most, function_most, calls_most}
use Rattle.isp_gang_run.specs.declared.distinct.Distinct.{Distinct}
use Rattle.isp_gang_run.specs.declared.loops.Looping.{Looping}
use Rattle.isp_gang_run.specs.declared.places.Writing.{Writing}
use Rattle.isp_gang_run.specs.declared.places.Writing.TheVariants as writing
use Rattle.isp_gang_run.specs.declared.rounds.Bounds.{Bounds}
use Rattle.isp_gang_run.specs.declared.rounds.Members.{Members}
use Rattle.isp_gang_run.specs.declared.rounds.Rounds.{Rounds}
use Rattle.isp_gang_run.specs.declared.state.Evaluator.{Evaluator}
use Rattle.isp_gang_run.specs.declared.tasks.Packing.{Packing}
use Rattle.isp_gang_run.specs.declared.tasks.Packing.TheVariants as packing
use Rattle.isp_gang_run.specs.declared.tasks.Task.{Task}
use Rattle.isp_gang_run.specs.declared.tasks.Task.TheVariants as task

-- how many more calls may run after a task, where so many may run before it
abbrev pub left_after : Task → ℕ → ℕ
left_after (task.Return caller left sets set) l = left
left_after t l = l

-- and after a list of them, the last one first
abbrev pub left_below : List Task → ℕ → ℕ
left_below [] l = l
left_below (t ∷ ts) l = left_after t (left_below ts l)

module _ (program : Program) (turns l : ℕ) where
  abbrev pub gang_due : ℕ
  gang_due = gang_width program.gang

  -- the call of a function by its number, a value, values, a statement, a block, statements
  abbrev pub call_due : ℕ → ℕ
  call_due = calls_most program turns l

  abbrev pub value_due : TExpr → ℕ
  value_due = expr_most call_due

  abbrev pub values_due : List TExpr → ℕ
  values_due xs = exprs_most call_due (t_exprs xs)

  abbrev pub run_due : TStmt → ℕ
  run_due = stmt_most gang_due call_due turns

  abbrev pub block_due : TBlock → ℕ
  block_due = block_most gang_due call_due turns

  abbrev pub all_due : List TStmt → ℕ
  all_due xs = stmts_most gang_due call_due turns (t_stmts xs)

  -- the arguments that are left, and then the call; a call; the body of a function, and then the caller
  abbrev pub hand_due : TCall → List TArgument → ℕ
  hand_due (t_called f all sp) xs = arguments_most call_due (t_arguments xs) (call_due f)

  abbrev pub called_due : TCall → ℕ
  called_due = call_most call_due

  abbrev pub body_due : TFunction → ℕ
  body_due f = function_most gang_due turns call_due (Some f)

  -- a packed call once its first element is known, and with it
  abbrev pub packing_due : Packing → ℕ
  packing_due (packing.Store x) = two (value_due (expr_of x.now)) 0
  packing_due (packing.Load v) = 0

  abbrev pub packs_due : Packing → TBase → ℕ
  packs_due p b = base_most call_due b (packing_due p)

  -- what stands before a semicolon, declared items
  abbrev pub simple_due : TSimple → ℕ
  simple_due = simple_most call_due

  abbrev pub item_due : TItem → ℕ
  item_due = item_most call_due

  abbrev pub items_due : List TItem → ℕ
  items_due = items_most call_due

  -- the right side, where there is one; with the place before it
  abbrev pub write_due : Writing → ℕ
  write_due (writing.Assign x) = two (value_due (expr_of x.now)) 0
  write_due (writing.Update o x) = two (value_due (expr_of x.now)) 0
  write_due (writing.Step o) = 0

  abbrev pub target_due : Writing → TPlace → ℕ
  target_due w q = place_most call_due q (write_due w)

  -- a statement that may be left out; the branches of an `if`, and the second alone
  abbrev pub perhaps_due : Option (Bor TypedStmt) → ℕ
  perhaps_due None = 0
  perhaps_due (Some x) = one (run_due (stmt_of x.now))

  abbrev pub branch_due : Bor TypedStmt → Option (Bor TypedStmt) → ℕ
  branch_due x y = branch_most (run_due (stmt_of x.now)) (option_map (λ z. run_due (stmt_of z.now)) y)

  abbrev pub second_due : Option (Bor TypedStmt) → ℕ
  second_due y = second_most (option_map (λ z. run_due (stmt_of z.now)) y)

  -- a `return`
  abbrev pub give_due : Option (Bor TypedExpr) → ℕ
  give_due x = give_most call_due (option_map (λ y. expr_of y.now) x)

  -- a loop of which so many turns are left: from a turn on, from its test on, from after its body on
  abbrev pub turns_due : Looping → ℕ → ℕ
  turns_due p =
      turns_most (run_due (stmt_of p.body.now)) (test_most call_due (option_map (λ x. expr_of x.now) p.test))
      (step_most call_due (option_map (λ x. simple_of x.now) p.step))

  abbrev pub test_due : Looping → ℕ → ℕ
  test_due p n = test_most call_due (option_map (λ x. expr_of x.now) p.test) (turns_due p n)

  abbrev pub step_due : Looping → ℕ → ℕ
  step_due p n = step_most call_due (option_map (λ x. simple_of x.now) p.step) (test_due p n)

  -- the first part of a `for`
  abbrev pub first_due : Option (Bor TypedFirst) → ℕ
  first_due x = first_most call_due (option_map (λ y. first_of y.now) x)

  -- the bounds that are left of a `foreach`, where those before are of these ranges; the end of a range may be any int32; its runs
  abbrev pub bounds_due : List TRange → List Range → Bor TypedStmt → ℕ
  bounds_due rs before body = bounds_most call_due (run_due (stmt_of body.now)) rs (runs_most before)

  abbrev pub end_due : Bounds → ℕ
  end_due b = bounds_most call_due (run_due (stmt_of b.body.now)) (ranges_of b.rest.now) (runs_most (map range_seen b.done.items) * 2 ^ 32)

  abbrev pub rounds_due : Rounds → ℕ
  rounds_due b = rounds_most (run_due (stmt_of b.body.now)) (length (runs_left gang_due b.ranges.items))

  -- the members that are left of a `foreach_active`, the values that are left of a `foreach_unique`, and both before they are known
  abbrev pub members_due : Members → ℕ
  members_due b = rounds_most (run_due (stmt_of b.body.now)) (length (members gang_due (flag_of b.left)))

  abbrev pub distinct_due : Distinct → ℕ
  distinct_due d = rounds_most (run_due (stmt_of d.unique.body.now)) (length (unique_rounds gang_due d.unique.from d.unique.to d.unique.index (map_of d.row)))

  abbrev pub each_due : Bor TypedStmt → ℕ
  each_due body = rounds_most (run_due (stmt_of body.now)) gang_due

  -- those that a task leaves
  abbrev pub task_due : Task → ℕ
  task_due (task.Value x set) = value_due (expr_of x.now)
  task_due (task.Load b t sp set) = 0
  task_due (task.Convert from to) = 0
  task_due (task.Unary op t) = 0
  task_due (task.Right j y set) = two (value_due (expr_of y.now)) 0
  task_due (task.Join j m set) = 0
  task_due (task.Logic k y set) = two (value_due (expr_of y.now)) 0
  task_due (task.Settle k m set) = 0
  task_due (task.Choose x y set) = two (value_due (expr_of x.now)) (two (value_due (expr_of y.now)) 0)
  task_due (task.Otherwise k y set) = two (value_due (expr_of y.now)) 0
  task_due (task.Select k m set) = 0
  task_due (task.Values g ys before set) = values_due (exprs_of ys.now)
  task_due (task.Packed p b t sp set) = packing_due p
  task_due (task.PackedStore x sp set) = 0
  task_due (task.Call k set) = called_due (call_of k.now)
  task_due (task.Arguments k ys before set) = hand_due (call_of k.now) (arguments_of ys.now)
  task_due (task.Argument k ys before set) = one (hand_due (call_of k.now) (arguments_of ys.now))
  task_due (task.Return caller left sets set) = 0
  task_due (task.Simple x set) = simple_due (simple_of x.now)
  task_due task.Forget = 0
  task_due (task.Indexed q b t w set) = write_due w
  task_due (task.Assign k sp set) = 0
  task_due (task.Update o k q set) = 0
  task_due (task.Items xs set) = items_due (items_of xs.now)
  task_due (task.Declared v t set) = 0
  task_due (task.Run x set) = run_due (stmt_of x.now)
  task_due (task.Statements b) = all_due (stmts_of b.value.rest.now)
  task_due (task.Went set) = 0
  task_due (task.Branch b) = branch_due b.value.then b.value.otherwise
  task_due (task.Second b) = second_due b.value.otherwise
  task_due (task.Unite p) = 0
  task_due (task.Answer set) = 0
  task_due (task.Assert sp set) = 0
  task_due (task.Test b) = test_due b.value.looping b.value.left
  task_due (task.Tested b) = turns_due b.value.looping b.value.left
  task_due (task.Turned b) = step_due b.value.looping b.value.left
  task_due (task.Start b) = two (value_due (expr_of b.value.range.now.end)) (end_due b.value)
  task_due (task.End i b) = end_due b.value
  task_due (task.Rounds b) = rounds_due b.value
  task_due (task.Members b) = members_due b.value
  task_due (task.Unique b) = each_due b.value.body
  task_due (task.Distinct b) = distinct_due b.value

-- those of a list of tasks, the last one first, where so many more calls may run
abbrev pub due : Program → ℕ → List Task → ℕ → ℕ
due p n [] l = 0
due p n (t ∷ ts) l = due p n ts l + one (task_due p n (left_below ts l) t)

-- how many tasks are done at most, as it stands; and where so many more calls may run
abbrev pub due_at : Evaluator → ℕ → ℕ
due_at e = due (program_of e.program.now) e.turns e.tasks.items

abbrev pub due_now : Evaluator → ℕ
due_now e = due_at e e.left

-- a number of those above, in the program, with the turns and the calls that are left
abbrev pub own : {A : Type 0} → Evaluator → (Program → ℕ → ℕ → A) → A
own e f = f (program_of e.program.now) e.turns e.left

-- What a call in the code leaves: at most n tasks more than there were, where l more calls may run after it.
abbrev pub LeavesAt : ℕ → Evaluator → Evaluator → ℕ → Type 0
LeavesAt l old new n = due_now new ≤ n + due_at old l

abbrev pub Leaves : Evaluator → Evaluator → ℕ → Type 0
Leaves old new = LeavesAt old.left old new

-- the handler of a task; a task that waits, and two, of which the first is done before the second
abbrev pub LeavesOf : Evaluator → Evaluator → Task → Type 0
LeavesOf old new t = LeavesAt (left_after t old.left) old new (own old task_due t)

abbrev pub Waits : Evaluator → Evaluator → Task → Type 0
Waits old new t = LeavesAt (left_after t old.left) old new (one (own old task_due t))

abbrev pub WaitBoth : Evaluator → Evaluator → Task → Task → Type 0
WaitBoth old new t u =
    LeavesAt (left_after u (left_after t old.left)) old new (two (own old task_due t) (task_due (program_of old.program.now) old.turns (left_after t old.left) u))
