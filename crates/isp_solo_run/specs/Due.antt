-- How many tasks are done at most for each task and for a list of them: by what the program says and by the turns and runs that are left,
-- whatever the registers hold. So a step that leaves fewer is progress.
use Rattle.std.specs.Prelude.{ℕ, suc, ◌+◌, ◌*◌, ◌^◌, List, [], ◌∷◌, map, length, Option, Some, option_map}
use Rattle.std.proofs.Common.{Bor}
use Rattle.isp_base.specs.Types.{gang_width}
use Rattle.isp_typed.specs.Typed.{TExpr, TPlace, TArgument, t_arguments, t_exprs, TCall, t_called, TItem, TSimple, TFirst, TRange, TStmt, t_stmts, TBlock, TFunction}
use Rattle.isp_meaning.specs.Rounds.{Range}
use Rattle.isp_typed.specs.declared.stmt.TypedStmt.{TypedStmt}
use Rattle.isp_typed.specs.Views.{expr_of, exprs_of, call_of, arguments_of, ranges_of, simple_of, items_of, stmt_of, stmts_of, program_of}
use Rattle.isp_gang_values.specs.Left.{range_seen, runs_left}
use Rattle.isp_solo_run.specs.Most.{one, two, expr_most, place_most, exprs_most, call_most, arguments_most, simple_most, item_most, items_most, branch_most, first_most, test_most, step_most}
use Rattle.isp_solo_run.specs.Most.{turns_most, rounds_most, runs_most, bounds_most, stmt_most, block_most, stmts_most, function_most, calls_most}
use Rattle.isp_solo_run.specs.declared.loops.Turning.{Turning}
use Rattle.isp_solo_run.specs.declared.places.Writing.{Writing}
use Rattle.isp_solo_run.specs.declared.places.Writing.TheVariants as writing
use Rattle.isp_solo_run.specs.declared.rounds.Bounds.{Bounds}
use Rattle.isp_solo_run.specs.declared.rounds.Rounds.{Rounds}
use Rattle.isp_solo_run.specs.declared.state.Setting.{Setting}
use Rattle.isp_solo_run.specs.declared.tasks.Branches.{Branches}
use Rattle.isp_solo_run.specs.declared.tasks.Statements.{Statements}
use Rattle.isp_solo_run.specs.declared.tasks.Task.{Task}
use Rattle.isp_solo_run.specs.declared.tasks.Task.TheVariants as task

-- how many more calls may run after a task, where so many may run before it
abbrev pub left_after : Task → ℕ → ℕ
left_after (task.Return caller left) l = left
left_after t l = l

-- and after a list of them, the last one first
abbrev pub left_below : List Task → ℕ → ℕ
left_below [] l = l
left_below (t ∷ ts) l = left_after t (left_below ts l)

module _ (c : Setting) (l : ℕ) where
  -- the call of a function by its number, a value, values, a statement, a block, statements
  abbrev pub call_due : ℕ → ℕ
  call_due = calls_most (program_of c.program.now) c.turns l

  abbrev pub value_due : TExpr → ℕ
  value_due = expr_most call_due

  abbrev pub values_due : List TExpr → ℕ
  values_due xs = exprs_most call_due (t_exprs xs)

  abbrev pub run_due : TStmt → ℕ
  run_due = stmt_most call_due c.turns

  abbrev pub block_due : TBlock → ℕ
  block_due = block_most call_due c.turns

  abbrev pub all_due : List TStmt → ℕ
  all_due xs = stmts_most call_due c.turns (t_stmts xs)

  -- the arguments that are left, and then the call
  abbrev pub hand_due : TCall → List TArgument → ℕ
  hand_due (t_called f all sp) xs = arguments_most call_due (t_arguments xs) (call_due f)

  abbrev pub called_due : TCall → ℕ
  called_due = call_most call_due

  -- the body of a function, and then the caller
  abbrev pub body_due : TFunction → ℕ
  body_due f = function_most c.turns call_due (Some f)

  abbrev pub simple_due : TSimple → ℕ
  simple_due = simple_most call_due

  abbrev pub item_due : TItem → ℕ
  item_due = item_most call_due

  abbrev pub items_due : List TItem → ℕ
  items_due = items_most call_due

  -- the right side, where there is one; with the place before it
  abbrev pub write_due : Writing → ℕ
  write_due (writing.Assign x) = two (value_due (expr_of x.now)) 0
  write_due (writing.Update op t x sp) = two (value_due (expr_of x.now)) 0
  write_due (writing.Step op t sp) = 0

  abbrev pub target_due : Writing → TPlace → ℕ
  target_due w q = place_most call_due q (write_due w)

  abbrev pub branch_due : Branches → ℕ
  branch_due b = branch_most (run_due (stmt_of b.then.now)) (option_map (λ x. run_due (stmt_of x.now)) b.otherwise)

  -- the one turn of a `foreach_active` or a `foreach_unique`
  abbrev pub turn_due : TStmt → ℕ
  turn_due x = two (run_due x) 0

  -- a loop from a turn on, from its test on, from after its body on
  abbrev pub turns_due : Turning → ℕ
  turns_due t =
      turns_most (run_due (stmt_of t.body.now)) (test_most call_due (option_map (λ x. expr_of x.now) t.test)) (step_most call_due (option_map (λ x. simple_of x.now) t.step)) t.left

  abbrev pub test_due : Turning → ℕ
  test_due t = test_most call_due (option_map (λ x. expr_of x.now) t.test) (turns_due t)

  abbrev pub step_due : Turning → ℕ
  step_due t = step_most call_due (option_map (λ x. simple_of x.now) t.step) (test_due t)

  abbrev pub first_due : Option TFirst → Turning → ℕ
  first_due x t = first_most call_due x (test_due t)

  -- the bounds that are left of a `foreach`, where those before are of these ranges, and its runs
  abbrev pub bounds_due : List TRange → List Range → Bor TypedStmt → ℕ
  bounds_due rs before body = bounds_most call_due (run_due (stmt_of body.now)) rs (runs_most before)

  -- the end of a range may be any int32
  abbrev pub end_due : Bounds → ℕ
  end_due b = bounds_most call_due (run_due (stmt_of b.body.now)) (ranges_of b.rest.now) (runs_most (map range_seen b.done.items) * 2 ^ 32)

  abbrev pub rounds_due : Rounds → ℕ
  rounds_due b = rounds_most (run_due (stmt_of b.body.now)) (length (runs_left (gang_width c.program.now.gang) b.ranges.items))

  -- those that a task leaves
  abbrev pub task_due : Task → ℕ
  task_due (task.Value x) = value_due (expr_of x.now)
  task_due (task.Load b t sp) = 0
  task_due (task.Convert from to) = 0
  task_due (task.Unary op t) = 0
  task_due (task.Right j y) = two (value_due (expr_of y.now)) 0
  task_due (task.Join j i) = 0
  task_due (task.Logic l y) = one (value_due (expr_of y.now))
  task_due (task.Choose x y) = two (value_due (expr_of x.now)) (value_due (expr_of y.now))
  task_due (task.Values g ys before) = values_due (exprs_of ys.now)
  task_due (task.Arguments k ys before) = hand_due (call_of k.now) (arguments_of ys.now)
  task_due (task.Argument k ys before) = hand_due (call_of k.now) (arguments_of ys.now)
  task_due (task.Return caller left) = 0
  task_due (task.Simple x) = simple_due (simple_of x.now)
  task_due task.Go = 0
  task_due (task.Indexed q b t w) = write_due w
  task_due (task.Assign k sp) = 0
  task_due (task.Update op t k q sp) = 0
  task_due (task.Items xs) = items_due (items_of xs.now)
  task_due (task.Declared v t) = 0
  task_due (task.Run x) = run_due (stmt_of x.now)
  task_due (task.Statements b) = all_due (stmts_of b.value.rest.now)
  task_due (task.Branch b) = branch_due b.value
  task_due task.Answer = 0
  task_due (task.Assert sp) = 0
  task_due (task.Turn b) = turn_due (stmt_of b.value.body.now)
  task_due (task.Test b) = test_due b.value
  task_due (task.Tested b) = turns_due b.value
  task_due (task.Turned b) = step_due b.value
  task_due (task.Start b) = two (value_due (expr_of b.value.range.now.end)) (end_due b.value)
  task_due (task.End i b) = end_due b.value
  task_due (task.Rounds b) = rounds_due b.value

-- those of a list of tasks, the last one first, where so many more calls may run
abbrev pub due : Setting → List Task → ℕ → ℕ
due c [] l = 0
due c (t ∷ ts) l = due c ts l + one (task_due c (left_below ts l) t)
