use Rattle.std.proofs.Common.{◌≡◌, length, ap, ◌∙◌, arith}
use Rattle.isp_code.specs.Listing.{routine_of}
use Rattle.isp_code.specs.Registers.{Table, vectors_of}
use Rattle.isp_wasm.specs.Locals.{vector_places}
use Rattle.isp_wasm_write.proofs.Listed.{own_long}
use Rattle.isp_wasm_write.proofs.limits.own_count.Goals as goal

pub returns-clause-is : goal.returns-clause-is
returns-clause-is c =
    let h = routine_of c.args.function.now in
    let vs : c.vectors.result.now ≡ vectors_of h = c.vectors.ensures ∙ ap (λ (t : Table). t.vectors) c.requires.registers in
    let ms : c.masks.result ≡ h.masks = c.masks.ensures ∙ ap (λ (t : Table). t.masks) c.requires.registers in
    let parts = ap (λ l. length (vector_places c.args.lanes l 0)) vs in
    let whole = own_long c.args.lanes h in
    let a = c.from-spares.ensures in
    let b = c.len-scalars.ensures in
    let d = c.from-masks.ensures in
    omega (arith, whole, parts, ms, a, b, d, c.parts_for.ensures.is, c.part_count.ensures.is, c.args.function.now.locals.ok.0, c.len.ensures)
