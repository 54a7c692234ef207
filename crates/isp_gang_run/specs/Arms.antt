-- What each kind of statement comes to, in the words of the meaning.
use Rattle.std.specs.Prelude.{List, ◌++◌, map, option_map, ℕ, Option, Some, None}
use Rattle.std.proofs.Common.{Bor}
use Rattle.isp_base.specs.Sets.{Mask, everyone, nobody}
use Rattle.isp_base.specs.Types.{gang_width}
use Rattle.isp_base.specs.declared.trap.TrapKind.TheVariants.{Assert}
use Rattle.isp_base.specs.declared.types.Span.{Span}
use Rattle.isp_tree.specs.declared.stmt.Jump.{Jump}
use Rattle.isp_typed.specs.Typed.{TExpr, TItem, TSimple, t_exprs, TBlock}
use Rattle.isp_typed.specs.declared.expr.TypedExpr.{TypedExpr}
use Rattle.isp_typed.specs.declared.stmt.TypedFirst.{TypedFirst}
use Rattle.isp_typed.specs.declared.stmt.TypedSimple.{TypedSimple}
use Rattle.isp_typed.specs.declared.stmt.TypedStmt.{TypedStmt}
use Rattle.isp_typed.specs.Views.{expr_of, exprs_of, first_of, stmt_of, program_of}
use Rattle.isp_meaning.specs.State.{State, Frame, tick}
use Rattle.isp_meaning.specs.Payloads.{Payload, is_false, offender}
use Rattle.isp_meaning.specs.Outcomes.{Val, Res, Went, Done, went_all, checked, go_on, with_value}
use Rattle.isp_meaning.specs.Expressions.{values}
use Rattle.isp_meaning.specs.Simple.{simple, items, first_part}
use Rattle.isp_base.specs.Prints.{print_text}
use Rattle.isp_meaning.specs.Printing.{shown_all}
use Rattle.isp_meaning.specs.Statements.{branches, all_go, answered, jumped}
use Rattle.isp_meaning.specs.Calls.{calls_at}
use Rattle.isp_gang_values.specs.Seen.{payload_of}
use Rattle.isp_gang_values.specs.declared.computed.Computed.{Computed}
use Rattle.isp_gang_run.specs.Tasks.{Store, Goes, ran, done, value_at, calls_in, block_at, run_in, perhaps_run, tested_in, turns_in}
use Rattle.isp_gang_run.specs.declared.loops.Looping.{Looping}
use Rattle.isp_gang_run.specs.declared.state.Evaluator.{Evaluator}

-- ---- statements: each counts, then come its parts

abbrev pub declares_all : Evaluator → List TItem → Mask → Store → Goes
declares_all e xs a r = ran r (all_go a (items (gang_width e.program.now.gang) r.frame (calls_in (program_of e.program.now) e.turns r) xs a (tick r.state)))

abbrev pub all_does : Evaluator → TSimple → Mask → Store → Goes
all_does e x a r = ran r (all_go a (simple (gang_width e.program.now.gang) r.frame (calls_in (program_of e.program.now) e.turns r) x a r.state))

abbrev pub chooses : Evaluator → TExpr → Bor TypedStmt → Option (Bor TypedStmt) → Mask → Store → Goes
chooses e x y z a r =
    ran r (with_value (value_at (program_of e.program.now) e.turns r x a (tick r.state))
    (branches (gang_width e.program.now.gang) a (run_in (program_of e.program.now) e.turns r.frame r.left (stmt_of y.now))
    (perhaps_run (program_of e.program.now) e.turns r.frame r.left (option_map (λ v. stmt_of v.now) z))))

abbrev pub unmasks : Evaluator → TBlock → Mask → Store → Goes
unmasks e b a r =
    ran r (go_on (block_at (program_of e.program.now) e.turns r b (everyone (gang_width e.program.now.gang)) (tick r.state)) (λ s g b' c q. went_all a s))

abbrev pub jumps : Evaluator → Jump → Mask → Store → Goes
jumps e j a r = ran r (jumped j a (tick r.state))

abbrev pub gives : Evaluator → Option (Bor TypedExpr) → Mask → Store → Goes
gives e None a r = ran r (Went (tick r.state) nobody nobody nobody a)
gives e (Some x) a r =
    ran r (with_value (value_at (program_of e.program.now) e.turns r (expr_of x.now) a (tick r.state))
    (λ m s. Went (answered r.frame.answer a m s) nobody nobody nobody a))

abbrev pub claims : Evaluator → TExpr → Span → Mask → Store → Goes
claims e x span a r =
    ran r (with_value (value_at (program_of e.program.now) e.turns r x a (tick r.state))
    (λ m s. all_go a (checked (offender (gang_width e.program.now.gang) is_false a m) Assert span s tt)))

-- what is printed, of values that were found, and of those that come first
abbrev pub shows : Evaluator → List ℕ → List TExpr → Mask → List Payload → State → Res
shows e text xs a ms s = went_all a (record s { out = s.out ++ print_text text (shown_all (gang_width e.program.now.gang) a xs ms) })

abbrev pub prints : Evaluator → List ℕ → List TypedExpr → List Computed → Mask → Store → Goes
prints e text xs ms a r = ran r (shows e text (exprs_of xs) a (map payload_of ms) r.state)

abbrev pub prints_all : Evaluator → List ℕ → List TExpr → Mask → Store → Goes
prints_all e text xs a r =
    ran r (with_value (values (gang_width e.program.now.gang) r.frame (calls_in (program_of e.program.now) e.turns r) (t_exprs xs) a (tick r.state))
    (λ ms s. shows e text xs a ms s))

-- ---- a loop that a set enters: by its first part and its test, or by a turn

abbrev pub looping : Option (Bor TypedExpr) → Option (Bor TypedSimple) → Bor TypedStmt → Looping
looping test step body = record { test = test; step = step; body = body }

-- the first part
abbrev pub first_in : Evaluator → Frame → ℕ → Option (Bor TypedFirst) → Mask → State → Val Done
first_in e fr l x = first_part (gang_width e.program.now.gang) fr (calls_at (program_of e.program.now) e.turns l) (option_map (λ v. first_of v.now) x)

abbrev pub firsts : Evaluator → Option (Bor TypedFirst) → Mask → Store → Goes
firsts e x a r = done r (first_in e r.frame r.left x a r.state)

abbrev pub enters : Evaluator → Option (Bor TypedFirst) → Option (Bor TypedExpr) → Option (Bor TypedSimple) → Bor TypedStmt → Mask → Store → Goes
enters e first test step body a r =
    ran r (with_value (first_in e r.frame r.left first a (tick r.state))
    (λ _ s. tested_in (program_of e.program.now) e.turns r.frame r.left (looping test step body) a e.turns a nobody s))

abbrev pub enters_by_turn : Evaluator → Option (Bor TypedExpr) → Bor TypedStmt → Mask → Store → Goes
enters_by_turn e test body a r =
    ran r (turns_in (program_of e.program.now) e.turns r.frame r.left (looping test None body) a e.turns a nobody (tick r.state))
