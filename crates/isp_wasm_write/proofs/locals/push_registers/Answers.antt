use Rattle.std.proofs.Common.{◌≡◌, ap, ◌∙◌}
use Rattle.isp_code.specs.Listing.{routine_of}
use Rattle.isp_code.specs.Registers.{Table, vectors_of}
use Rattle.isp_wasm_write.proofs.Listed.{own_chain}
use Rattle.isp_wasm_write.proofs.locals.push_registers.Goals as goal

pub returns-clause-own : goal.returns-clause-own
returns-clause-own c =
    let h = routine_of c.args.function.now in
    let vs : c.vectors-vectors.result.now ≡ vectors_of h = c.vectors-vectors.ensures ∙ ap (λ (t : Table). t.vectors) c.requires.registers in
    own_chain c.args.lanes h _ _ _ _ _ _ _ _ _ c.parts_for.ensures.is c.passed-first.ensures (c.len.ensures ∙ c.args.function.now.scalars.ok.0) vs c.in_ok-push_spares.ensures c.in_ok-push_scalars.ensures
    c.in_ok-push_vectors.ensures c.in_ok-push_masks.ensures
