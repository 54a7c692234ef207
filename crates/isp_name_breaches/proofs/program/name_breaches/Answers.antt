use Rattle.std.proofs.Common.{map}
use Rattle.isp_tree.specs.Views.{function_of as read_function}
use Rattle.isp_types.specs.Functions.{Breach}
use Rattle.isp_name_breaches.proofs.Programs.{program_lists}
use Rattle.isp_name_breaches.proofs.First.{put_in_order}
use Rattle.isp_name_breaches.proofs.program.name_breaches.Goals as goal

pub returns : goal.returns
returns c =
    let fs = map read_function c.args.tree.now in
    let walked = rw (c.in_ok-headers.ensures, c.functions.ensures.functions, c.functions-2.ensures.functions) at c.in_ok-functions.ensures in
    let done = put_in_order _ _ _ _ (Breach c.args.gang fs) c.new-walk.ensures walked (program_lists c.args.gang fs)
    c.put_in_order.ensures.keeps c.put_in_order.ensures.adds_none c.put_in_order.ensures.ordered in
    record { listed = λ f. (done.lists.told f, done.lists.all f); ordered = c.put_in_order.ensures.ordered; first = done.first }
