-- What tasks do, in the words of the meaning, and what a list of them comes to.
use Rattle.std.specs.Prelude.{◌≡◌, ℕ, ℤ, ◌+◌, List, [], ◌∷◌, ◌++◌, map, option_map, Option, Some, None}
use Rattle.std.proofs.Common.{Bor}
use Rattle.isp_base.specs.Access.{is_zero}
use Rattle.isp_base.specs.Cross.{rank, packed_outside}
use Rattle.isp_base.specs.Sets.{Mask, any, flag_of, lowest, nobody, union}
use Rattle.isp_base.specs.Types.{gang_width}
use Rattle.isp_base.specs.Unary.{unary_bits}
use Rattle.isp_base.specs.Values.{op_bits, compare_bits, number}
use Rattle.isp_base.specs.declared.trap.Trap.{Trap}
use Rattle.isp_base.specs.declared.types.Elem.TheVariants.{I32}
use Rattle.isp_base.specs.declared.trap.TrapKind.TheVariants.{Assert, Divide, Index}
use Rattle.isp_typed.specs.Typed.{TExpr, TPlace, place_span, TItem, TArgument, TCall, t_called, t_arguments, t_exprs, TBlock, TStmt, t_stmts, TRange, Program}
use Rattle.isp_typed.specs.declared.stmt.TypedStmt.{TypedStmt}
use Rattle.isp_typed.specs.Views.{expr_of, exprs_of, place_of, call_of, arguments_of, simple_of, items_of, ranges_of, stmt_of, stmts_of, program_of}
use Rattle.isp_meaning.specs.State.{State, Frame, extent, tick}
use Rattle.isp_base.specs.declared.types.Rate.TheVariants.{Varying}
use Rattle.isp_base.specs.declared.types.Span.{Span}
use Rattle.isp_typed.specs.declared.variable.ArrayVariable.{ArrayVariable}
use Rattle.isp_meaning.specs.Payloads.{Payload, One, is_true, is_false, sole, spread, joined, kept_by, mapped, converted, offender, selected}
use Rattle.isp_meaning.specs.Outcomes as Outcomes
use Rattle.isp_meaning.specs.Outcomes.{Val, Gives, Fails, Stops, Res, Went, Done, went_all, bind, checked, go_on, then_run, both_sides, if_so, unless_empty, value_unless_empty, with_value}
use Rattle.isp_meaning.specs.Places.{Place, Element, held, outside, kept, written}
use Rattle.isp_meaning.specs.Expressions.{Calls, Passed, Values, needs, settled, value, place, values, call, arguments, packed_held, packed_kept}
use Rattle.isp_meaning.specs.Library.{library_value, argument}
use Rattle.isp_meaning.specs.Simple.{simple, item, items, update, step_part}
use Rattle.isp_meaning.specs.Loops.{loop_end, turns, tested, stepped}
use Rattle.isp_base.specs.Prints.{print_text}
use Rattle.isp_meaning.specs.Printing.{shown_all}
use Rattle.isp_meaning.specs.Rounds.{Range, rounds, active_rounds, unique_rounds, foreach_rounds, round_of_run, counted}
use Rattle.isp_meaning.specs.Statements.{block, run, run_all, ranges, test_part, branches, all_go, answered}
use Rattle.isp_meaning.specs.Calls.{calls_at, resumed, answer_of}
use Rattle.isp_base.specs.Maps.{Map}
use Rattle.isp_gang_values.specs.Seen.{map_of, payload_of}
use Rattle.isp_gang_run.specs.Capped.{capped}
use Rattle.isp_gang_values.specs.Left.{range_seen, runs_left}
use Rattle.isp_gang_run.specs.Seen.{frame_seen, state_seen, variables_seen, place_seen, passed_seen}
use Rattle.isp_gang_run.specs.declared.state.Evaluator.{Evaluator}
use Rattle.isp_gang_run.specs.declared.loops.Looping.{Looping}
use Rattle.isp_gang_run.specs.declared.loops.Turning.{Turning}
use Rattle.isp_gang_run.specs.declared.distinct.Unique.{Unique}
use Rattle.isp_gang_run.specs.declared.rounds.Bounds.{Bounds}
use Rattle.isp_gang_run.specs.declared.state.Exits.{Exits}
use Rattle.isp_gang_run.specs.declared.state.Sets.{Sets}
use Rattle.isp_gang_run.specs.declared.state.Stop.{Stop}
use Rattle.isp_gang_run.specs.declared.state.Stop.TheVariants as stop
use Rattle.isp_gang_run.specs.declared.places.Writing.{Writing}
use Rattle.isp_gang_run.specs.declared.places.Writing.TheVariants as writing
use Rattle.isp_gang_run.specs.declared.tasks.Gathering.{Gathering}
use Rattle.isp_gang_run.specs.declared.tasks.Gathering.TheVariants as gathering
use Rattle.isp_gang_run.specs.declared.tasks.Joining.{Joining}
use Rattle.isp_gang_run.specs.declared.tasks.Joining.TheVariants as joining
use Rattle.isp_gang_run.specs.declared.tasks.Packing.{Packing}
use Rattle.isp_gang_run.specs.declared.tasks.Packing.TheVariants as packing
use Rattle.isp_gang_run.specs.declared.tasks.Task.{Task}
use Rattle.isp_gang_run.specs.declared.tasks.Task.TheVariants as task

-- where the members of a set went by a statement
pub record Parts : Type 0 where
  pub went : Mask
  pub broke : Mask
  pub continued : Mask
  pub returned : Mask

-- The running call's frame, how many more calls may run, the state, and two registers: what the last expression gave,
-- and where the last statement left its members. An expression leaves the second as it was, a statement leaves 0 in the
-- first.
pub record Store : Type 0 where
  pub frame : Frame
  pub left : ℕ
  pub state : State
  pub value : Payload
  pub parts : Parts

-- what tasks come to
pub data Goes : Type 0 where
  On : Store → Goes
  Trapped : Trap → State → Goes
  Cut : State → Goes

abbrev pub go : Goes → (Store → Goes) → Goes
go (On s) next = next s
go (Trapped t s) next = Trapped t s
go (Cut s) next = Cut s

-- going on with a value
abbrev pub go_with : {A : Type 0} → Val A → (A → State → Goes) → Goes
go_with (Gives m s) next = next m s
go_with (Fails t s) next = Trapped t s
go_with (Stops s) next = Cut s

-- a value goes into its register
abbrev pub given : Store → Val Payload → Goes
given r (Gives m s) = On (record r { state = s; value = m })
given r (Fails t s) = Trapped t s
given r (Stops s) = Cut s

-- what comes after a statement: 0 as a value, and where it left its members
abbrev pub ran : Store → Res → Goes
ran r (Went s g b c q) = On (record r { state = s; value = One 0; parts = record { went = g; broke = b; continued = c; returned = q } })
ran r (Outcomes.Trapped t s) = Trapped t s
ran r (Outcomes.Cut s) = Cut s

-- likewise, where all of the set go on and nothing is said of where they went
abbrev pub done : Store → Val Done → Goes
done r v = go_with v (λ _ s. On (record r { state = s; value = One 0 }))

abbrev pub parts_seen : Sets → Parts
parts_seen p = record { went = flag_of p.went; broke = flag_of p.exits.broke; continued = flag_of p.exits.continued; returned = flag_of p.exits.returned }

-- where members were left, as a statement's result
abbrev pub left_as : Parts → State → Res
left_as p s = Went s p.went p.broke p.continued p.returned

-- members that left before have left too
abbrev pub left_too : Exits → State → (went broke continued returned : Mask) → Res
left_too e s g b c q = Went s g (union (flag_of e.broke) b) (union (flag_of e.continued) c) (union (flag_of e.returned) q)

-- all of a set go on
abbrev pub all_parts : Mask → Parts
all_parts a = record { went = a; broke = nobody; continued = nobody; returned = nobody }

abbrev pub store_seen : Evaluator → ℕ → Store
store_seen e w = record { frame = frame_seen e.here; left = e.left; state = state_seen e w; value = payload_of e.value; parts = parts_seen e.sets }

-- an operator on two values
abbrev pub join : ℕ → Joining → Mask → Payload → Payload → State → Val Payload
join gang (joining.Operate o) a m n s = checked (offender gang (is_zero o.operator o.elem) a n) Divide o.span s (joined (op_bits o.operator o.elem) a m n)
join gang (joining.Compare c t) a m n s = Gives (joined (compare_bits c t) a m n) s

module _ (program : Program) (most : ℕ) where
  abbrev pub gang_of : ℕ
  gang_of = gang_width program.gang

  -- an expression in the registers' state
  abbrev pub value_at : Store → TExpr → Mask → State → Val Payload
  value_at r x a s = value gang_of r.frame (calls_at program most r.left) x a s

  -- likewise over a set that may be empty
  abbrev pub perhaps : Store → TExpr → Mask → State → Val Payload
  perhaps r x a s = value_unless_empty gang_of a s (value_at r x)

  abbrev pub calls_in : Store → Calls
  calls_in r = calls_at program most r.left

  -- a block in the registers' state
  abbrev pub block_at : Store → TBlock → Mask → State → Res
  block_at r b a s = block gang_of r.frame (calls_in r) most b a s

  -- what is done with several values
  abbrev pub gathered : Gathering → Mask → List Payload → Store → State → Goes
  gathered (gathering.Library f e) a ms r s =
      given r (Gives (library_value gang_of e a f (argument ms 0) (argument ms 1) (argument ms 2)) s)
  gathered (gathering.Print text xs) a ms r s =
      ran r (went_all a (record s { out = s.out ++ print_text text.now (shown_all gang_of a (exprs_of xs.now) ms) }))

  -- the values that are left, and then that
  abbrev pub gather : Gathering → List TExpr → List Payload → Mask → Store → Goes
  gather g xs before a r =
      go_with (values gang_of r.frame (calls_in r) (t_exprs xs) a r.state) (λ ms s. gathered g a (before ++ ms) r s)

  -- the arguments that are left, and then the call
  abbrev pub hand : TCall → List TArgument → List Passed → Mask → Store → Goes
  hand (t_called f all sp) xs before a r =
      given r (bind (arguments gang_of r.frame (calls_in r) (t_arguments xs) a r.state) (λ ps s. calls_in r f sp a (before ++ ps) r.frame s))

  -- a packed call, once its first element is known: the value or the variable, then the access
  abbrev pub pack : Packing → ArrayVariable → ℤ → Span → Mask → Frame → ℕ → State → Val Payload
  pack (packing.Store x) b z span a fr l s =
      bind (value gang_of fr (calls_at program most l) (expr_of x.now) a s)
      (λ m s2. bind (checked (lowest gang_of (packed_outside (extent fr b) z a)) Index span s2 m)
      (λ n s3. Gives (One (rank a gang_of)) (packed_kept gang_of (fr.named b.number) z a n s3)))
  pack (packing.Load v) b z span a fr l s =
      bind (checked (lowest gang_of (packed_outside (extent fr b) z a)) Index span (tick s) (packed_held (fr.named b.number) z a s))
      (λ n s2. Gives (One (rank a gang_of)) (written Varying v a n s2))

  -- a place is known: the right side, then the access
  abbrev pub write : Writing → TPlace → Place → Mask → Store → State → Val Done
  write (writing.Assign x) p q a r s =
      bind (value_at r (expr_of x.now) a s) (λ m s2. bind (checked (outside gang_of r.frame q a) Index (place_span p) s2 m)
      (λ n s3. Gives tt (kept gang_of r.frame q a n s3)))
  write (writing.Update o x) p q a r s =
      bind (value_at r (expr_of x.now) a s) (λ y s2. update gang_of r.frame (calls_in r) o.operator o.elem p q y o.span a s2)
  write (writing.Step o) p q a r s = update gang_of r.frame (calls_in r) o.operator o.elem p q (One 1) o.span a s

  -- in a frame, with so many calls left: a statement, one that may be left out, and one after the other
  abbrev pub run_in : Frame → ℕ → TStmt → Mask → State → Res
  run_in fr l = run gang_of fr (calls_at program most l) most

  abbrev pub perhaps_run : Frame → ℕ → Option TStmt → Mask → State → Res
  perhaps_run fr l None = went_all
  perhaps_run fr l (Some x) = run_in fr l x

  abbrev pub all_in : Frame → ℕ → List TStmt → Mask → State → Res
  all_in fr l xs = run_all gang_of fr (calls_at program most l) most (t_stmts xs)

  -- a loop's parts, and its turns
  abbrev pub test_in : Frame → ℕ → Looping → Mask → State → Val Payload
  test_in fr l p = test_part gang_of fr (calls_at program most l) (option_map (λ x. expr_of x.now) p.test)

  abbrev pub body_in : Frame → ℕ → Looping → Mask → State → Res
  body_in fr l p = run_in fr l (stmt_of p.body.now)

  abbrev pub step_in : Frame → ℕ → Looping → Mask → State → Val Done
  step_in fr l p = step_part gang_of fr (calls_at program most l) (option_map (λ x. simple_of x.now) p.step)

  abbrev pub turns_in : Frame → ℕ → Looping → Mask → ℕ → Mask → Mask → State → Res
  turns_in fr l p all = turns gang_of (test_in fr l p) (body_in fr l p) (step_in fr l p) all

  abbrev pub tested_in : Frame → ℕ → Looping → Mask → ℕ → Mask → Mask → State → Res
  tested_in fr l p all n = tested gang_of (test_in fr l p) (body_in fr l p) (step_in fr l p) all (turns_in fr l p all n)

  abbrev pub stepped_in : Frame → ℕ → Looping → Mask → ℕ → Mask → Mask → State → Res
  stepped_in fr l p all n = stepped gang_of (test_in fr l p) (body_in fr l p) (step_in fr l p) all (turns_in fr l p all n)

  abbrev pub ends_in : Frame → ℕ → Looping → Mask → Mask → State → Res
  ends_in fr l p all = loop_end gang_of (test_in fr l p) (body_in fr l p) (step_in fr l p) all

  -- the runs of a `foreach`, once its ranges are known
  abbrev pub rounds_from : Frame → ℕ → TStmt → Mask → List Range → State → Res
  rounds_from fr l body a xs s = rounds (run_in fr l body) a (foreach_rounds gang_of xs) (record s { work = s.work + counted gang_of 1 xs })

  -- the end of a range was found: its range, and those that come after it
  abbrev pub ended : ℕ → ℤ → List TRange → Mask → Frame → ℕ → Payload → State → Val (List Range)
  ended index start rs a fr l n s =
      bind (ranges gang_of fr (calls_at program most l) rs a s) (λ xs s1. Gives (record { index = index; start = start; end = number I32 (sole n) } ∷ xs) s1)

  -- and then the runs
  abbrev pub found : Bounds → Frame → ℕ → List Range → State → Res
  found b fr l xs s = rounds_from fr l (stmt_of b.body.now) (flag_of b.set) (map range_seen b.done.items ++ xs) s

  -- the turns of a `foreach_unique`, of these values
  abbrev pub distinct_in : Unique → Map → Frame → ℕ → State → Res
  distinct_in u m fr l s = rounds (run_in fr l (stmt_of u.body.now)) (flag_of u.set) (unique_rounds gang_of u.from u.to u.index m) s

  abbrev pub act : Task → Store → Goes
  act (task.Value x set) r = given r (value_at r (expr_of x.now) (flag_of set) r.state)
  act (task.Load b t span set) r =
      given r (checked (outside gang_of r.frame (Element b t r.value) (flag_of set)) Index span r.state
      (held gang_of r.frame (Element b t r.value) (flag_of set) r.state))
  act (task.Convert from to) r = given r (Gives (mapped (converted from to) r.value) r.state)
  act (task.Unary op t) r = given r (Gives (mapped (unary_bits op t) r.value) r.state)
  act (task.Right j y set) r =
      given r (bind (value_at r (expr_of y.now) (flag_of set) r.state) (λ n s. join gang_of j (flag_of set) r.value n s))
  act (task.Join j m set) r = given r (join gang_of j (flag_of set) (payload_of m) r.value r.state)
  act (task.Logic l y set) r =
      given r (bind (perhaps r (expr_of y.now) (kept_by (needs l) (flag_of set) r.value) r.state) (λ n s. Gives (settled l (flag_of set) r.value n) s))
  act (task.Settle l m set) r = given r (Gives (settled l (flag_of set) (payload_of m) r.value) r.state)
  act (task.Choose x y set) r =
      given r (bind (perhaps r (expr_of x.now) (kept_by is_true (flag_of set) r.value) r.state)
      (λ m s1. bind (perhaps r (expr_of y.now) (kept_by is_false (flag_of set) r.value) s1) (λ n s2. Gives (selected (flag_of set) r.value m n) s2)))
  act (task.Otherwise k y set) r =
      given r (bind (perhaps r (expr_of y.now) (kept_by is_false (flag_of set) (payload_of k)) r.state)
      (λ n s. Gives (selected (flag_of set) (payload_of k) r.value n) s))
  act (task.Select k m set) r = given r (Gives (selected (flag_of set) (payload_of k) (payload_of m) r.value) r.state)
  act (task.Call c set) r =
      given r (call gang_of r.frame (calls_at program most r.left) (call_of c.now) (flag_of set) r.state)
  act (task.Values g ys before set) r = gather g (exprs_of ys.now) (map payload_of before.items ++ r.value ∷ []) (flag_of set) r
  act (task.Argument c ys before set) r =
      hand (call_of c.now) (arguments_of ys.now) (map passed_seen before.items ++ Values r.value ∷ []) (flag_of set) r
  act (task.Arguments c ys before set) r = hand (call_of c.now) (arguments_of ys.now) (map passed_seen before.items) (flag_of set) r
  act (task.Packed p b t span set) r = given r (pack p b (number t (sole r.value)) span (flag_of set) r.frame r.left r.state)
  act (task.PackedStore x span set) r =
      given r (bind (checked (lowest gang_of (packed_outside (extent r.frame x.array) (number x.elem x.first) (flag_of set))) Index span r.state r.value)
      (λ n s. Gives (One (rank (flag_of set) gang_of)) (packed_kept gang_of (r.frame.named x.array.number) (number x.elem x.first) (flag_of set) n s)))
  -- the caller has its frame, its level, its variables and its registers again
  act (task.Return caller left parts set) r =
      On (record {
        frame = frame_seen caller.value;
        left = left;
        state = resumed (frame_seen caller.value) (variables_seen caller.value r.state.arrays r.state.out r.state.work) r.state;
        value = answer_of r.frame.answer (flag_of set) r.state;
        parts = parts_seen parts;
      })
  act (task.Simple x set) r = done r (simple gang_of r.frame (calls_in r) (simple_of x.now) (flag_of set) r.state)
  act task.Forget r = done r (Gives tt r.state)
  act (task.Indexed p b t w set) r = done r (write w (place_of p.now) (Element b t r.value) (flag_of set) r r.state)
  act (task.Assign q span set) r =
      done r (bind (checked (outside gang_of r.frame (place_seen q) (flag_of set)) Index span r.state r.value)
      (λ n s. Gives tt (kept gang_of r.frame (place_seen q) (flag_of set) n s)))
  act (task.Update o q p set) r =
      done r (update gang_of r.frame (calls_in r) o.operator o.elem (place_of p.now) (place_seen q) r.value o.span (flag_of set) r.state)
  act (task.Items xs set) r = done r (items gang_of r.frame (calls_in r) (items_of xs.now) (flag_of set) r.state)
  act (task.Declared v t set) r = done r (Gives tt (written t.rate v (flag_of set) r.value r.state))
  act (task.Run x set) r = ran r (run_in r.frame r.left (stmt_of x.now) (flag_of set) r.state)
  act (task.Statements x) r =
      ran r (go_on (then_run (left_as r.parts r.state) (λ g s. unless_empty gang_of g s (all_in r.frame r.left (stmts_of x.value.rest.now))))
      (left_too x.value.before))
  act (task.Went set) r = ran r (went_all (flag_of set) r.state)
  act (task.Branch x) r =
      ran r (branches gang_of (flag_of x.value.set) (run_in r.frame r.left (stmt_of x.value.then.now))
      (perhaps_run r.frame r.left (option_map (λ y. stmt_of y.now) x.value.otherwise)) r.value r.state)
  act (task.Second x) r =
      ran r (both_sides (left_as r.parts r.state) (λ s. unless_empty gang_of (flag_of x.value.set) s
      (perhaps_run r.frame r.left (option_map (λ y. stmt_of y.now) x.value.otherwise))))
  act (task.Unite p) r = ran r (both_sides (left_as (parts_seen p) r.state) (left_as r.parts))
  act (task.Answer set) r = ran r (Went (answered r.frame.answer (flag_of set) r.value r.state) nobody nobody nobody (flag_of set))
  act (task.Assert span set) r =
      ran r (all_go (flag_of set) (checked (offender gang_of is_false (flag_of set) r.value) Assert span r.state tt))
  act (task.Test x) r =
      ran r (tested_in r.frame r.left x.value.looping (flag_of x.value.all) x.value.left (flag_of x.value.live) (flag_of x.value.returned) r.state)
  act (task.Tested x) r =
      let kept = kept_by is_true (flag_of x.value.live) r.value in
      ran r (if_so (any gang_of kept) (turns_in r.frame r.left x.value.looping (flag_of x.value.all) x.value.left kept (flag_of x.value.returned))
      (ends_in r.frame r.left x.value.looping (flag_of x.value.all) (flag_of x.value.returned)) r.state)
  act (task.Turned x) r =
      let live = union r.parts.went r.parts.continued in
      let returned = union (flag_of x.value.returned) r.parts.returned in
      ran r (if_so (any gang_of live) (stepped_in r.frame r.left x.value.looping (flag_of x.value.all) x.value.left live returned)
      (ends_in r.frame r.left x.value.looping (flag_of x.value.all) returned) r.state)
  act (task.Start b) r =
      ran r (with_value (bind (value_at r (expr_of b.value.range.now.end) (flag_of b.value.set) r.state)
      (ended b.value.range.now.index (number I32 (sole r.value)) (ranges_of b.value.rest.now) (flag_of b.value.set) r.frame r.left))
      (found b.value r.frame r.left))
  act (task.End start b) r =
      ran r (with_value (ended b.value.range.now.index (number I32 start) (ranges_of b.value.rest.now) (flag_of b.value.set)
      r.frame r.left r.value r.state) (found b.value r.frame r.left))
  act (task.Rounds x) r =
      ran r (rounds (run_in r.frame r.left (stmt_of x.value.body.now)) (flag_of x.value.set)
      (map round_of_run (runs_left gang_of x.value.ranges.items)) r.state)
  act (task.Members x) r =
      ran r (rounds (run_in r.frame r.left (stmt_of x.value.body.now)) (flag_of x.value.set)
      (active_rounds gang_of x.value.index (flag_of x.value.left)) r.state)
  act (task.Unique x) r = ran r (distinct_in x.value (spread (flag_of x.value.set) r.value) r.frame r.left r.state)
  act (task.Distinct x) r = ran r (distinct_in x.value.unique (map_of x.value.row) r.frame r.left r.state)

  -- the tasks of a stack, the last one first
  abbrev pub finish : List Task → Store → Goes
  finish [] r = On r
  finish (t ∷ ts) r = go (finish ts r) (act t)

abbrev pub does : Evaluator → Task → Store → Goes
does e = act (program_of e.program.now) e.turns

abbrev pub rest : Evaluator → Store → Goes
rest e = finish (program_of e.program.now) e.turns e.tasks.items

-- that much work is what an evaluator counts
abbrev pub Counts : Evaluator → ℕ → Type 0
Counts e w = e.work.count ≡ capped w

-- All that the one has still to do, after that much work, comes to what this and then the other's tasks come to, after the
-- work that the other counts.
pub record Comes (old new : Evaluator) (f : Store → Goes) : Type 0 where
  pub by : (w : ℕ) → (w' : ℕ) × (go (f (store_seen old w)) (rest old) ≡ rest new (store_seen new w'))
  pub counts : (w : ℕ) → Counts old w → Counts new (by w).0

-- why this stops before its end: memory is refused, it traps, or is cut, after the work that is counted
pub data Halts (old new : Evaluator) (f : Store → Goes) (e : Stop) : Type 0 where
  refused : e ≡ stop.Memory → Halts old new f e
  trapped : (x : Trap) → e ≡ stop.Trapped x → (by : (w : ℕ) → (w' : ℕ) × (f (store_seen old w) ≡ Trapped x (state_seen new w')))
      → ((w : ℕ) → Counts old w → Counts new (by w).0) → Halts old new f e
  cut : e ≡ stop.Cut → (by : (w : ℕ) → (w' : ℕ) × (f (store_seen old w) ≡ Cut (state_seen new w')))
      → ((w : ℕ) → Counts old w → Counts new (by w).0) → Halts old new f e

-- the state is changed so, and nothing else
pub record Changes (old new : Evaluator) (f : State → State) : Type 0 where
  pub state : (w : ℕ) → state_seen new w ≡ f (state_seen old w)
  pub frame : frame_seen new.here ≡ frame_seen old.here
  pub same : new ≡ record old { here = new.here; stores = new.stores }

-- an expression, and a block, in the state that an evaluator is
abbrev pub finds : Evaluator → TExpr → Mask → Store → Goes
finds e x a r = given r (value_at (program_of e.program.now) e.turns r x a r.state)

abbrev pub blocks : Evaluator → TBlock → Mask → Store → Goes
blocks e b a r = ran r (block_at (program_of e.program.now) e.turns r b a r.state)

-- a place that is known is written, and a place whose index comes first
abbrev pub writes : Evaluator → Writing → TPlace → Place → Mask → Store → Goes
writes e w p q a r = done r (write (program_of e.program.now) e.turns w p q a r r.state)

abbrev pub targets : Evaluator → Writing → TPlace → Mask → Store → Goes
targets e w p a r =
    done r (bind (place (gang_of (program_of e.program.now) e.turns) r.frame (calls_in (program_of e.program.now) e.turns r) p a r.state)
    (λ q s. write (program_of e.program.now) e.turns w p q a r s))

-- a declared item
abbrev pub declares : Evaluator → TItem → Mask → Store → Goes
declares e x a r = done r (item (gang_of (program_of e.program.now) e.turns) r.frame (calls_in (program_of e.program.now) e.turns r) x a r.state)

-- likewise of a task
pub record Does (old new : Evaluator) (t : Task) : Type 0 where
  pub by : (w : ℕ) → (w' : ℕ) × (go (does old t (store_seen old w)) (rest old) ≡ rest new (store_seen new w'))
  pub counts : (w : ℕ) → Counts old w → Counts new (by w).0

-- first the one task, then the other, then what the old one had to do
pub record First (old new : Evaluator) (u t : Task) : Type 0 where
  pub by : (w : ℕ) → rest new (store_seen new w) ≡ go (does old u (store_seen old w)) (λ r. go (does old t r) (rest old))
  pub work : new.work ≡ old.work

-- likewise, where one node more was reached
pub record Reaches (old new : Evaluator) (u t : Task) : Type 0 where
  pub by : (w : ℕ) → rest new (store_seen new w) ≡ go (does old u (store_seen old w)) (λ r. go (does old t r) (rest old))
  pub work : new.work.count ≡ capped (old.work.count + 1)

-- first the one, then the other, where the first is an expression over a set that may be empty
pub record FirstValue (old new : Evaluator) (x : TExpr) (a : Mask) (t : Task) : Type 0 where
  pub by : (w : ℕ) → rest new (store_seen new w) ≡ go (given (store_seen old w)
      (perhaps (program_of old.program.now) old.turns (store_seen old w) x a (state_seen old w))) (λ r. go (does old t r) (rest old))
  pub work : new.work ≡ old.work

pub record Traps (old new : Evaluator) (t : Task) (trap : Trap) : Type 0 where
  pub by : (w : ℕ) → (w' : ℕ) × (does old t (store_seen old w) ≡ Trapped trap (state_seen new w'))
  pub counts : (w : ℕ) → Counts old w → Counts new (by w).0

-- a statement that may be left out
abbrev pub runs : Evaluator → Option (Bor TypedStmt) → Mask → Store → Goes
runs e x a r = ran r (perhaps_run (program_of e.program.now) e.turns r.frame r.left (option_map (λ y. stmt_of y.now) x) a r.state)

-- likewise, over a set that may be empty, and then a task
abbrev pub runs_then : Evaluator → Option (Bor TypedStmt) → Mask → Task → Store → Goes
runs_then e x a t r =
    go (ran r (unless_empty (gang_width e.program.now.gang) a r.state
    (perhaps_run (program_of e.program.now) e.turns r.frame r.left (option_map (λ y. stmt_of y.now) x)))) (does e t)

-- the statements that are left, where some members left before
abbrev pub runs_all : Evaluator → List TypedStmt → Exits → Mask → Store → Goes
runs_all e xs before a r =
    ran r (go_on (all_in (program_of e.program.now) e.turns r.frame r.left (stmts_of xs) a r.state) (left_too before))

-- the turns that are left of a loop
abbrev pub turns_on : Evaluator → Turning → Store → Goes
turns_on e t r =
    ran r (turns_in (program_of e.program.now) e.turns r.frame r.left t.looping (flag_of t.all) t.left (flag_of t.live) (flag_of t.returned) r.state)

-- a loop's test, what comes once it was found, the step, what comes once the body was run, and the end
abbrev pub tests_on : Evaluator → Turning → Store → Goes
tests_on e t r =
    ran r (tested_in (program_of e.program.now) e.turns r.frame r.left t.looping (flag_of t.all) t.left (flag_of t.live) (flag_of t.returned) r.state)

abbrev pub ends_on : Evaluator → Turning → Store → Goes
ends_on e t r = ran r (ends_in (program_of e.program.now) e.turns r.frame r.left t.looping (flag_of t.all) (flag_of t.returned) r.state)

abbrev pub keeps_on : Evaluator → Turning → Store → Goes
keeps_on e t r =
    let kept = kept_by is_true (flag_of t.live) r.value in
    ran r (if_so (any (gang_width e.program.now.gang) kept) (turns_in (program_of e.program.now) e.turns r.frame r.left t.looping (flag_of t.all)
    t.left kept (flag_of t.returned)) (ends_in (program_of e.program.now) e.turns r.frame r.left t.looping (flag_of t.all) (flag_of t.returned)) r.state)

abbrev pub steps_on : Evaluator → Turning → Store → Goes
steps_on e t r =
    ran r (stepped_in (program_of e.program.now) e.turns r.frame r.left t.looping (flag_of t.all) t.left (flag_of t.live) (flag_of t.returned) r.state)

abbrev pub turned_on : Evaluator → Turning → Store → Goes
turned_on e t r =
    let live = union r.parts.went r.parts.continued in
    let returned = union (flag_of t.returned) r.parts.returned in
    ran r (if_so (any (gang_width e.program.now.gang) live) (stepped_in (program_of e.program.now) e.turns r.frame r.left t.looping (flag_of t.all)
    t.left live returned) (ends_in (program_of e.program.now) e.turns r.frame r.left t.looping (flag_of t.all) returned) r.state)
