use Rattle.std.proofs.Common.{refl}
use Rattle.std.specs.Prelude.{List}
use Rattle.isp_typed.specs.declared.function.TypedFunction as rust
use Rattle.isp_typed.specs.Views.{function_of, functions_of}
use Rattle.isp_rates.specs.reader.Faults.{function_fault, of_each}
use Rattle.isp_rates.proofs.Steps.{each_step}
use Rattle.isp_rates.proofs.function.functions.Goals as goal

pub loop-one-preserved : goal.loop-one-preserved
loop-one-preserved c =
    let fs = functions_of c.args.functions.now in
    rw (c.first-seen.ensures, c.function.ensures)
    (each_step (λ (xs : List rust.TypedFunction). of_each (function_fault fs) (functions_of xs)) (λ (x : rust.TypedFunction). function_fault fs (function_of x)) (λ x xs. refl)
    c.args.functions.now c.loop-one.one-index c.one-item.result c.loop-one.seen _ c.loop-one-test.true c.one-item.is c.loop-one.invariant)
