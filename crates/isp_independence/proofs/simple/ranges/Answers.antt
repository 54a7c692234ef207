use Rattle.std.proofs.Common.{refl}
use Rattle.std.specs.Prelude.{List}
use Rattle.isp_typed.specs.declared.stmt.TypedRange as rust
use Rattle.isp_typed.specs.Views.{range_of, ranges_of}
use Rattle.isp_independence.specs.reader.Answers.{range_answer, of_each}
use Rattle.isp_independence.proofs.Steps.{each_step}
use Rattle.isp_independence.proofs.simple.ranges.Goals as goal

pub loop-r-preserved : goal.loop-r-preserved
loop-r-preserved c =
    rw (c.first-seen.ensures, c.range.ensures)
    (each_step (λ (xs : List rust.TypedRange). of_each range_answer (ranges_of xs)) (λ (x : rust.TypedRange). range_answer (range_of x)) (λ x xs. refl)
    c.args.all.now c.loop-r.r-index c.r-item.result c.loop-r.seen _ c.loop-r-test.true c.r-item.is c.loop-r.invariant)
