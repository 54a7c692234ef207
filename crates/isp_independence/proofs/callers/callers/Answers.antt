use Rattle.std.proofs.Common.{ℕ, List, ◌≡◌, sym, subst, length, arith, Vec, Global}
use Rattle.std.specs.Prelude.{[], replicate, Contains}
use Rattle.std.proofs.lemmas.List.{length-map}
use Rattle.isp_independence.specs.Tables.{lists_of}
use Rattle.isp_independence.specs.reader.Paths.{Adds}
use Rattle.isp_independence.proofs.Turning.{row_read, rows_more, reversed}
use Rattle.isp_independence.proofs.callers.callers.Goals as goal

pub loop-caller-preserved : goal.loop-caller-preserved
loop-caller-preserved c =
    let calls = c.args.calls.now in
    let i = c.loop-caller.caller in
    let row = c.index-calls-caller.result in
    let old = lists_of c.loop-caller.callers.items in
    let new = lists_of c.add_row.new.callers.items in
    rows_more (replicate (length calls) []) old new (lists_of calls) i row.items (row_read calls i row c.loop-caller-test.true c.index-calls-caller.is) c.loop-caller.invariant
    (subst (λ (xs : List ℕ). Adds old new (λ a b. Contains xs a × (b ≡ i))) c.as_slice.ensures.value c.in_ok-add_row.ensures)

pub returns : goal.returns
returns c =
    let calls = c.args.calls.now in
    let same : length (lists_of calls) ≡ length calls = length-map calls (λ (v : Vec ℕ Global). v.items) in
    reversed (lists_of calls) (lists_of c.loop-caller.callers.items) (length calls) c.loop-caller.caller (sym same) (omega (arith, same, c.loop-caller-test.false)) c.loop-caller.invariant
