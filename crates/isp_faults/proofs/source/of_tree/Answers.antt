use Rattle.isp_tree.specs.Views.{functions_of as tree_of}
use Rattle.isp_typed.specs.Views.{program_of}
use Rattle.isp_faults.proofs.Lists.{names_list, program_list}
use Rattle.isp_faults.proofs.source.of_tree.Goals as goal

pub returns-in-Ok : goal.returns-in-Ok
returns-in-Ok c =
    let sound = c.breaches.ensures in
    program_list c.breaches.result c.args.gang (tree_of c.args.tree.now) (program_of c.in-Ok.typed) c.in-Ok.ensures.accepted
    (rw c.program.ensures.same at sound.listed) sound.ordered (rw c.program.ensures.same at sound.first)

pub returns-in-Err-Refused : goal.returns-in-Err-Refused
returns-in-Err-Refused c =
    let all = c.name_breaches.ensures in
    names_list c.name_breaches.result c.args.gang (tree_of c.args.tree.now) _ (c.in-Err-Refused.ensures.refused _ c.in-Err-Refused.field-0-is) all.listed all.ordered all.first
