use Rattle.std.proofs.Common.{◌+◌, drop, take, map}
use Rattle.isp_tree.specs.declared.function.Function.{Function}
use Rattle.isp_types.proofs.Joined.{split_at, map_step}
use Rattle.isp_types.proofs.FunctionSteps.{taken_step}
use Rattle.isp_name_breaches.proofs.StmtSteps.{functions_step}
use Rattle.isp_name_breaches.proofs.program.functions.Goals as goal

pub loop-f-preserved : goal.loop-f-preserved
loop-f-preserved c =
    let h = c.loop-f.invariant in
    let xs = c.args.all.now in
    let i = c.loop-f.f-index in
    let x = c.f-item.result in
    let name = λ (f : Function). f.word.name in
    let split = split_at xs i x c.loop-f-test.true c.f-item.is in
    let one_more = map_step name xs i x c.loop-f-test.true c.f-item.is in
    record {
      names = λ w. rw one_more (taken_step (map name (take i xs)) (name x) w _ _ (h.names w) (c.in_ok-take.ensures w));
      found = rw one_more (functions_step c.args.setting.now.gang c.args.setting.now.headers.now (map name (take i xs)) (drop i xs) (drop (i + 1) xs) _ _ _ _ x _ _
          split c.in_ok-tell.ensures c.name_fault.ensures (h.names (name x)) c.in_ok-function.ensures h.found);
    }
