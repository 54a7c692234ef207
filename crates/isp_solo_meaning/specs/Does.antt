-- What a statement does in one instance.
use Rattle.std.specs.Prelude.{ℕ, List, [], ◌∷◌, Option, Some, None}
use Rattle.isp_base.specs.Values.{number}
use Rattle.isp_base.specs.declared.types.Elem.TheVariants.{I32}
use Rattle.isp_base.specs.declared.types.Rate.TheVariants.{Uniform}
use Rattle.isp_base.specs.declared.trap.TrapKind.TheVariants.{Assert}
use Rattle.isp_tree.specs.declared.stmt.Jump.{Jump}
use Rattle.isp_tree.specs.declared.stmt.Jump.TheVariants.{Break, Continue}
use Rattle.isp_typed.specs.Typed.{TExpr, t_exprs, elem_of, TRange, TStmt, t_block, t_declare, t_simple, t_if, t_if_else, t_while, t_do, t_for, t_foreach, t_foreach_active}
use Rattle.isp_typed.specs.Typed.{t_foreach_unique, t_unmasked, t_jump, t_return, t_print, t_assert, TBlock, t_braces, TStmts, t_no_stmts, t_stmt_then}
use Rattle.isp_meaning.specs.State.{Frame}
use Rattle.isp_meaning.specs.Payloads.{is_true, is_false, converted}
use Rattle.isp_meaning.specs.Rounds.{Range, runs_of}
use Rattle.isp_solo_meaning.specs.Alone.{Alone, written}
use Rattle.isp_solo_meaning.specs.Answers.{Answer, Has, How, Going, Broke, Continued, Returned, End, Does, Done, and_then, with_answer, unless, choose, then_on, then_always}
use Rattle.isp_solo_meaning.specs.Values.{OwnCalls, answer, answers}
use Rattle.isp_solo_meaning.specs.Steps.{simple, items, first_part, step_part}
use Rattle.isp_solo_meaning.specs.Loops.{tested, turns, rounds}

abbrev pub goes_on : Answer Done → End
goes_on a = with_answer a (λ _ s. Does s Going)

abbrev pub jumped : Jump → How
jumped Break = Broke
jumped Continue = Continued

module _ (m : ℕ → ℕ → ℕ) (p : ℕ) (frame : Frame) (calls : OwnCalls) where
  -- the bounds of ranges from left to right: whole numbers, from int32
  abbrev pub bounds : List TRange → Alone → Answer (List Range)
  bounds [] s = Has [] s
  bounds (r ∷ rs) s =
      and_then (answer m p frame calls r.start s) (λ i s1. and_then (answer m p frame calls r.end s1) (λ j s2. and_then (bounds rs s2) (λ xs s3. Has (record { index = r.index; start = number I32 i; end = number I32 j } ∷ xs) s3)))

  -- a test that is left out is true
  abbrev pub test_part : Option TExpr → Alone → Answer ℕ
  test_part None s = Has 1 s
  test_part (Some x) s = answer m p frame calls x s

-- The gang deals out the runs of a `foreach`. The number bounds the turns that a loop makes each time it is entered.
module _ (gang : ℕ) (m : ℕ → ℕ → ℕ) (p : ℕ) (frame : Frame) (calls : OwnCalls) (most : ℕ) where
  abbrev mutual
    pub does : TStmt → Alone → End
    does (t_block b) s = does_block b s
    does (t_declare xs sp) s = goes_on (items m p frame calls xs s)
    does (t_simple x sp) s = goes_on (simple m p frame calls x s)
    does (t_if f n e x sp) s = with_answer (answer m p frame calls e s) (λ i s1. choose (is_true i) (does x) (λ s2. Does s2 Going) s1)
    does (t_if_else f n e x y sp) s = with_answer (answer m p frame calls e s) (λ i s1. choose (is_true i) (does x) (does y) s1)
    does (t_while f n e x sp) s =
        tested (answer m p frame calls e) (does x) (Has tt) (turns (answer m p frame calls e) (does x) (Has tt) most) s
    does (t_do f n x e sp) s = turns (answer m p frame calls e) (does x) (Has tt) most s
    does (t_for f n first e step i x sp) s =
        with_answer (first_part m p frame calls first s) (λ _ s1. tested (test_part m p frame calls e) (does x) (step_part m p frame calls step) (turns (test_part m p frame calls e) (does x) (step_part m p frame calls step) most) s1)
    does (t_foreach w n rs x sp) s = with_answer (bounds m p frame calls rs s) (λ xs s1. rounds (does x) p (runs_of gang xs) s1)
    -- no independent entry has these four: alone, an instance takes its one turn, runs the body, and prints nothing
    does (t_foreach_active w n i x sp) s = then_always (does x (written Uniform i p s)) (λ s1. Does s1 Going)
    does (t_foreach_unique w n i t e x sp) s =
        with_answer (answer m p frame calls e s) (λ b s1. then_always (does x (written Uniform i (converted (elem_of e) t b) s1)) (λ s2. Does s2 Going))
    does (t_unmasked w b sp) s = then_always (does_block b s) (λ s1. Does s1 Going)
    does (t_print w text xs sp) s = with_answer (answers m p frame calls (t_exprs xs) s) (λ is s1. Does s1 Going)
    does (t_jump j w sp) s = Does s (jumped j)
    does (t_return w None sp) s = Does s Returned
    does (t_return w (Some x) sp) s = with_answer (answer m p frame calls x s) (λ i s1. Does (record s1 { result = i }) Returned)
    does (t_assert x c sp) s =
        with_answer (answer m p frame calls x s) (λ i s1. goes_on (unless (is_false i) Assert c p s1 tt))

    pub does_block : TBlock → Alone → End
    does_block (t_braces xs sp) s = does_all xs s

    pub does_all : TStmts → Alone → End
    does_all t_no_stmts s = Does s Going
    does_all (t_stmt_then x xs) s = then_on (does x s) (does_all xs)
