use Rattle.std.proofs.Common.{map, subst}
use Rattle.isp_tree.specs.Views.{function_of as read_function}
use Rattle.isp_typed.specs.Promise.{Refuses}
use Rattle.isp_typed.specs.Views.{functions_of}
use Rattle.isp_types.specs.Functions.{IsProgram, Breach}
use Rattle.isp_types.specs.reader.Boxes.{listed_functions}
use Rattle.isp_types.proofs.FunctionSteps.{accepted, refused, ok_seen, err_seen, fault_is}
use Rattle.isp_types.proofs.fine.Functions.{program_fine}
use Rattle.isp_types.proofs.scoped.Functions.{program_scoped}
use Rattle.isp_types.proofs.program.resolve.Goals as goal

pub returns-in-Ok-clause-accepted : goal.returns-in-Ok-clause-accepted
returns-in-Ok-clause-accepted c =
    let fs = map read_function c.args.tree.now in
    rw c.new.ensures (accepted c.args.gang fs (functions_of c.in-Ok.functions.items)
    (ok_seen listed_functions _ _ _ c.in-Ok.is (rw (c.in_ok-headers.ensures, c.functions.ensures.functions, c.functions-2.ensures.functions) at c.in_ok-functions.ensures)))

pub returns-clause-refused : goal.returns-clause-refused
returns-clause-refused c = λ f e.
    let fs = map read_function c.args.tree.now in
    subst (Refuses (IsProgram c.args.gang fs) (Breach c.args.gang fs)) (fault_is _ f e)
    (refused c.args.gang fs c.in-Err.fault
    (err_seen listed_functions _ _ _ c.in-Err.is (rw (c.in_ok-headers.ensures, c.functions.ensures.functions, c.functions-2.ensures.functions) at c.in_ok-functions.ensures)))

pub new-requires : goal.new-requires
new-requires c =
    let fs = map read_function c.args.tree.now in
    let a = accepted c.args.gang fs (functions_of c.in-Ok.functions.items)
    (ok_seen listed_functions _ _ _ c.in-Ok.is (rw (c.in_ok-headers.ensures, c.functions.ensures.functions, c.functions-2.ensures.functions) at c.in_ok-functions.ensures)) in
    record { fine = program_fine c.args.gang fs _ c.functions.ensures.sound a.is; scoped = program_scoped c.args.gang fs _ c.functions.ensures.sound a.is }
