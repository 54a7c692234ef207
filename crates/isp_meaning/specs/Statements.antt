-- What a statement does over a set of instances that is not empty.
use Rattle.std.specs.Prelude.{ℕ, ◌+◌, List, [], ◌∷◌, ◌++◌, Option, Some, None}
use Rattle.isp_base.specs.Sets.{Mask, nobody, everyone, without}
use Rattle.isp_base.specs.Maps.{where_true, over}
use Rattle.isp_base.specs.Values.{number}
use Rattle.isp_base.specs.declared.types.Elem.TheVariants.{I32}
use Rattle.isp_base.specs.declared.types.Rate.{Rate}
use Rattle.isp_base.specs.declared.types.Rate.TheVariants.{Uniform, Varying}
use Rattle.isp_base.specs.declared.types.Ty.{Ty}
use Rattle.isp_base.specs.declared.trap.TrapKind.TheVariants.{Assert}
use Rattle.isp_tree.specs.declared.stmt.Jump.{Jump}
use Rattle.isp_tree.specs.declared.stmt.Jump.TheVariants.{Break, Continue}
use Rattle.isp_typed.specs.Typed.{TExpr, t_exprs, elem_of, TRange, TStmt, t_block, t_declare, t_simple, t_if, t_if_else, t_while, t_do, t_for, t_foreach, t_foreach_active}
use Rattle.isp_typed.specs.Typed.{t_foreach_unique, t_unmasked, t_jump, t_return, t_print, t_assert, TBlock, t_braces, TStmts, t_no_stmts, t_stmt_then}
use Rattle.isp_meaning.specs.State.{State, Frame, tick}
use Rattle.isp_meaning.specs.Payloads.{Payload, One, Each, is_true, is_false, sole, spread, offender}
use Rattle.isp_meaning.specs.Outcomes.{Val, Gives, Res, Went, Done, bind, with_value, checked, go_on, went_all, then_run, both_sides, unless_empty, if_so}
use Rattle.isp_meaning.specs.Expressions.{Calls, value, values}
use Rattle.isp_meaning.specs.Simple.{simple, items, first_part, no_step, step_part}
use Rattle.isp_meaning.specs.Loops.{do_turns, while_turns}
use Rattle.isp_meaning.specs.Rounds.{Range, rounds, active_rounds, unique_rounds, foreach_rounds, counted}
use Rattle.isp_base.specs.Prints.{print_text}
use Rattle.isp_meaning.specs.Printing.{shown_all}

-- all of the set go on
abbrev pub all_go : Mask → Val Done → Res
all_go a v = with_value v (λ _ s. went_all a s)

-- A uniform test chooses one branch for the set. With a varying test the first branch runs over those for which it is
-- true, then the second over the others.
module _ (gang : ℕ) (a : Mask) (first second : Mask → State → Res) where
  abbrev pub branches : Payload → State → Res
  branches (One c) s = if_so (is_true c) (first a) (second a) s
  branches (Each c) s =
      both_sides (unless_empty gang (where_true is_true c) s first) (λ s1. unless_empty gang (without a (where_true is_true c)) s1 second)

-- a `return` with a value: for the gang once, or for each member of the set
abbrev pub answered_at : Rate → Mask → Payload → State → State
answered_at Uniform a x s = record s { result = sole x }
answered_at Varying a x s = record s { results = over (spread a x) s.results }

abbrev pub answered : Option Ty → Mask → Payload → State → State
answered None a x s = s
answered (Some t) a x s = answered_at t.rate a x s

abbrev pub jumped : Jump → Mask → State → Res
jumped Break a s = Went s nobody a nobody nobody
jumped Continue a s = Went s nobody nobody a nobody

module _ (gang : ℕ) (frame : Frame) (calls : Calls) where
  -- the bounds of ranges from left to right: whole numbers, from int32
  abbrev pub ranges : List TRange → Mask → State → Val (List Range)
  ranges [] a s = Gives [] s
  ranges (r ∷ rs) a s =
      bind (value gang frame calls r.start a s) (λ m s1.
      bind (value gang frame calls r.end a s1) (λ n s2.
      bind (ranges rs a s2) (λ xs s3.
      Gives (record { index = r.index; start = number I32 (sole m); end = number I32 (sole n) } ∷ xs) s3)))

  -- a test that is left out is true
  abbrev pub test_part : Option TExpr → Mask → State → Val Payload
  test_part None a s = Gives (One 1) s
  test_part (Some x) a s = value gang frame calls x a s

-- The number bounds the turns that a loop makes each time it is entered.
module _ (gang : ℕ) (frame : Frame) (calls : Calls) (most : ℕ) where
  abbrev mutual
    -- each statement counts before its parts
    pub run : TStmt → Mask → State → Res
    run (t_block b) a s = block b a s
    run (t_declare xs sp) a s = all_go a (items gang frame calls xs a (tick s))
    run (t_simple x sp) a s = all_go a (simple gang frame calls x a s)
    run (t_if f k e x sp) a s =
        with_value (value gang frame calls e a (tick s)) (λ m s1. branches gang a (run x) went_all m s1)
    run (t_if_else f k e x y sp) a s =
        with_value (value gang frame calls e a (tick s)) (λ m s1. branches gang a (run x) (run y) m s1)
    run (t_while f k e x sp) a s = while_turns gang (value gang frame calls e) (run x) no_step a most (tick s)
    run (t_do f k x e sp) a s = do_turns gang (value gang frame calls e) (run x) no_step a most (tick s)
    run (t_for f k first e step i x sp) a s =
        with_value (first_part gang frame calls first a (tick s))
        (λ _ s1. while_turns gang (test_part gang frame calls e) (run x) (step_part gang frame calls step) a most s1)
    -- The bounds are taken by the set; in the runs all instances take part.
    run (t_foreach w k rs x sp) a s =
        with_value (ranges gang frame calls rs a (tick s)) (λ xs s1. rounds (run x) a (foreach_rounds gang xs) (record s1 { work = s1.work + counted gang 1 xs }))
    run (t_foreach_active w k i x sp) a s = rounds (run x) a (active_rounds gang i a) (tick s)
    -- the value is taken once
    run (t_foreach_unique w k i t e x sp) a s =
        with_value (value gang frame calls e a (tick s)) (λ m s1. rounds (run x) a (unique_rounds gang (elem_of e) t i (spread a m)) s1)
    run (t_unmasked w b sp) a s = go_on (block b (everyone gang) (tick s)) (λ s1 g b' c r. went_all a s1)
    run (t_jump j w sp) a s = jumped j a (tick s)
    run (t_return w None sp) a s = Went (tick s) nobody nobody nobody a
    run (t_return w (Some x) sp) a s =
        with_value (value gang frame calls x a (tick s)) (λ m s1. Went (answered frame.answer a m s1) nobody nobody nobody a)
    -- all values, then the text
    run (t_print w text xs sp) a s =
        with_value (values gang frame calls (t_exprs xs) a (tick s)) (λ ms s1. went_all a (record s1 { out = s1.out ++ print_text text (shown_all gang a xs ms) }))
    run (t_assert x c sp) a s =
        with_value (value gang frame calls x a (tick s)) (λ m s1. all_go a (checked (offender gang is_false a m) Assert c s1 tt))

    -- the block counts; then one statement after the other
    pub block : TBlock → Mask → State → Res
    block (t_braces xs sp) a s = run_all xs a (tick s)

    -- each over those that went on from the one before
    pub run_all : TStmts → Mask → State → Res
    run_all t_no_stmts a s = went_all a s
    run_all (t_stmt_then x xs) a s = then_run (run x a s) (λ g s1. unless_empty gang g s1 (run_all xs))
