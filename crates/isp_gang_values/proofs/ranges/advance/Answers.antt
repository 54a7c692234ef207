use Rattle.std.proofs.Common.{◌≡◌, ap, ◌∙◌, ◌-◌, ◌<◌, length, arith, w64}
use Rattle.std.specs.Prelude.{pos}
use Rattle.std.proofs.lemmas.Int.{to_z-of_z}
use Rattle.isp_base.specs.Types.{gang_width}
use Rattle.isp_gang_values.specs.Left.{stepped}
use Rattle.isp_gang_values.proofs.Left.{last_advanced}
use Rattle.isp_gang_values.proofs.ranges.advance.Goals as goal

pub returns-then-count-gt0 : goal.returns-then-count-gt0
returns-then-count-gt0 c =
    let xs = c.args.ranges.now.items in
    let h : 0 < length xs = omega (arith, c.if-count-gt0.true, c.len-count.ensures) in
    let e : c.len-count.result - 1 ≡ length xs - 1 = omega (arith, c.len-count.ensures) in
    last_advanced (gang_width c.args.gang) (c.len-count.result - 1) xs c.index.result.now c.index_mut.result.now _ h e c.index.ensures c.index_mut.ensures.value
    (to_z-of_z w64 c.further-next.result (record { sfits = c.further-next.type_inv }) ∙ c.further-next.ensures ∙ ap (λ n. stepped c.index.result.now (pos n)) c.width.ensures)
