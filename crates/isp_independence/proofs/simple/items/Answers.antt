use Rattle.std.proofs.Common.{refl}
use Rattle.std.specs.Prelude.{List}
use Rattle.isp_typed.specs.declared.stmt.TypedItem as rust
use Rattle.isp_typed.specs.Views.{item_of, items_of}
use Rattle.isp_independence.specs.reader.Answers.{item_answer, of_each}
use Rattle.isp_independence.proofs.Steps.{each_step}
use Rattle.isp_independence.proofs.simple.items.Goals as goal

pub loop-declared-preserved : goal.loop-declared-preserved
loop-declared-preserved c =
    rw (c.first-seen.ensures, c.item.ensures)
    (each_step (λ (xs : List rust.TypedItem). of_each item_answer (items_of xs)) (λ (x : rust.TypedItem). item_answer (item_of x)) (λ x xs. refl)
    c.args.all.now c.loop-declared.declared-index c.declared-item.result c.loop-declared.seen _ c.loop-declared-test.true c.declared-item.is c.loop-declared.invariant)
