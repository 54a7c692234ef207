use Rattle.std.proofs.Common.{◌≡◌, length, arith}
use Rattle.isp_forms.specs.Tables.{lists_of}
use Rattle.isp_wasm_module.proofs.Contents.{whole_chain}
use Rattle.isp_wasm_module.proofs.sections.written.Goals as goal

pub returns : goal.returns
returns c =
    let long : c.in-Ok.length ≡ length c.in_ok-memory.memory.items = omega (arith, c.in-Ok.ensures) in
    whole_chain c.args.source.code.now c.code.result.now (lists_of c.args.source.forms.now) c.in_ok-memory.memory.items c.in-Ok.length _ _ _ _ _ _ c.in_ok-memory.ensures c.code.ensures.same long c.new-out.ensures
    c.in_ok-all.ensures c.in_ok-push_signatures.ensures c.in_ok-push_memory.ensures c.in_ok-push_contents.ensures c.into_vec.ensures
