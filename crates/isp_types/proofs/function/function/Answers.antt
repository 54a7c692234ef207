use Rattle.isp_tree.specs.Views.{function_of as read_function, block_of as read_block}
use Rattle.isp_typed.specs.Verdicts.{beside}
use Rattle.isp_typed.specs.Views.{block_of, function_of}
use Rattle.isp_types.proofs.FunctionSteps.{function_found, function_fails, body_seen}
use Rattle.isp_types.proofs.function.function.Goals as goal

pub returns-in_ok-make_function-in-Ok : goal.returns-in_ok-make_function-in-Ok
returns-in_ok-make_function-in-Ok c =
    let gang = c.args.setting.now.gang in
    let hs = c.args.setting.now.headers.now in
    let f = read_function c.args.f.now in
    let ans = c.answer_said-answer.result in
    let p = c.in_ok-seen.ensures in
    let s = c.in_ok-body.ensures in
    let inside = rw (c.new-scope.ensures, c.new-variables.ensures.items, c.deref.ensures.value) at (p.fault gang hs ans (read_block c.args.f.now.body)) in
    let variables = rw (p.names, p.variables, c.new-scope.ensures, c.new-variables.ensures.items, c.deref.ensures.value) at s.variables in
    function_found gang hs f c.args.taken block_of ans (beside c.in_ok-seen.seen c.in_ok-body.body) (function_of c.in_ok-make_function-in-Ok.field-0) c.block.new.walk.variables.items c.in-Ok.answer c.in-Ok.body
    c.in_ok-make_function-in-Ok.ensures variables c.answer_said-answer.ensures (body_seen block_of c.in_ok-seen.seen c.in_ok-body.body _ _ s.value inside)
    (cc)

pub returns-in-Err : goal.returns-in-Err
returns-in-Err c =
    let gang = c.args.setting.now.gang in
    let hs = c.args.setting.now.headers.now in
    let f = read_function c.args.f.now in
    let ans = c.answer_said-answer.result in
    let p = c.in_ok-seen.ensures in
    let s = c.in_ok-body.ensures in
    let inside = rw (c.new-scope.ensures, c.new-variables.ensures.items, c.deref.ensures.value) at (p.fault gang hs ans (read_block c.args.f.now.body)) in
    function_fails gang hs f c.args.taken block_of ans (beside c.in_ok-seen.seen c.in_ok-body.body) c.in-Err.fault c.answer_said-answer.ensures
    (body_seen block_of c.in_ok-seen.seen c.in_ok-body.body _ _ s.value inside) (cc)
