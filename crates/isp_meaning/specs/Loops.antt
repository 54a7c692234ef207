-- Loops whose body runs while a test keeps some: one function for `while`, `do` and `for`.
use Rattle.std.specs.Prelude.{ℕ, zero, suc}
use Rattle.isp_base.specs.Sets.{Mask, nobody, union, without, any}
use Rattle.isp_meaning.specs.State.{State, tick}
use Rattle.isp_meaning.specs.Payloads.{Payload, is_true, kept_by}
use Rattle.isp_meaning.specs.Outcomes.{Val, Res, Went, Cut, Done, with_value, go_on, if_so}

-- The test, the body and the step as functions of a set and the state; `all` is the set that entered.
module _ (gang : ℕ) (test : Mask → State → Val Payload) (body : Mask → State → Res) (step : Mask → State → Val Done) (all : Mask) where
  -- the end: those that did not return went on
  abbrev pub loop_end : Mask → State → Res
  loop_end returned s = Went s (without all returned) nobody nobody returned

  -- the live instances take the test, and those that it keeps go on with a turn
  abbrev pub tested : (Mask → Mask → State → Res) → Mask → Mask → State → Res
  tested turn live returned s =
      with_value (test live s) (λ m s1. if_so (any gang (kept_by is_true live m)) (turn (kept_by is_true live m) returned) (loop_end returned) s1)

  -- the live instances make the step, then take the test
  abbrev pub stepped : (Mask → Mask → State → Res) → Mask → Mask → State → Res
  stepped turn live returned s = with_value (step live s) (λ _ s1. tested turn live returned s1)

  -- A turn of some instances with n turns left: with none left it is cut; else the body runs, and those that went on or
  -- continued are live, if there are any.
  abbrev pub turns : ℕ → Mask → Mask → State → Res
  turns zero kept returned s = Cut s
  turns (suc n) kept returned s =
      go_on (body kept (tick s)) (λ s1 g b c r. if_so (any gang (union g c)) (stepped (turns n) (union g c) (union returned r)) (loop_end (union returned r)) s1)

  -- a loop that all enter, with n turns: `do` begins with its body, `while` and `for` with the test
  abbrev pub do_turns : ℕ → State → Res
  do_turns n s = turns n all nobody s

  abbrev pub while_turns : ℕ → State → Res
  while_turns n s = tested (turns n) all nobody s
