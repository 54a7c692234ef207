use Rattle.isp_model.proofs.Endings.{gave_as, trapped_as}
use Rattle.isp_model.proofs.ending.outcome.Goals as goal

pub returns-in-Gave-clause-is : goal.returns-in-Gave-clause-is
returns-in-Gave-clause-is c v is fit =
    gave_as c.args.function.now.signature.result c.args.arguments.now c.args.run v is fit c.in-Gave.value c.in_ok-arrays-in-Gave.field-0.items c.answer.result
    c.in-Gave.is c.in_ok-arrays-in-Gave.ensures c.answer.ensures

pub returns-in-Trapped-clause-is : goal.returns-in-Trapped-clause-is
returns-in-Trapped-clause-is c v is fit =
    trapped_as c.args.function.now.signature.result c.args.arguments.now c.args.run v is fit c.in-Trapped.trap c.in_ok-arrays-in-Trapped.field-0.items
    c.in-Trapped.is c.in_ok-arrays-in-Trapped.ensures
