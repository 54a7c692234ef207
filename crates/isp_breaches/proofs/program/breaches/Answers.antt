use Rattle.isp_typed.specs.Views.{program_of}
use Rattle.isp_rates.specs.Program.{ProgramBreach}
use Rattle.isp_breaches.proofs.Listed.{kept_lists}
use Rattle.isp_breaches.proofs.Walks.{walked_lists}
use Rattle.isp_breaches.proofs.First.{first_least}
use Rattle.isp_breaches.proofs.program.breaches.Goals as goal

pub returns : goal.returns
returns c =
    let p = c.args.program.now in
    let met = walked_lists p _ _ _ c.new-found.ensures.items c.deref.ensures.value c.in_ok-functions.ensures in
    let here = kept_lists _ _ (ProgramBreach (program_of p)) met c.put_in_order.ensures.keeps c.put_in_order.ensures.adds_none in
    record { listed = λ f. (here.told f, here.all f); ordered = c.put_in_order.ensures.ordered; first = first_least _ _ here c.put_in_order.ensures.ordered }
