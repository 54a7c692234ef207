use Rattle.isp_typed.specs.Views.{program_of}
use Rattle.isp_hints.proofs.Listed.{lists}
use Rattle.isp_hints.proofs.program.hints.Goals as goal

pub returns : goal.returns
returns c =
    let order = c.put_in_order.ensures in
    record {
      listed = lists c.args.code.now (program_of c.args.program.now) _ _ _ _ c.new-found.ensures.items c.in_ok-accesses.ensures c.in_ok-loops.ensures order.keeps order.adds_none;
      ordered = order.ordered;
    }
