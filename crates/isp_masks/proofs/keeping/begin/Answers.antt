use Rattle.isp_lower.specs.Emitted.{layout}
use Rattle.isp_masks.proofs.ConstantRows.{is_empty, none_begins, not_empty, some_begin}
use Rattle.isp_masks.proofs.keeping.begin.Goals as goal

pub returns : goal.returns
returns c =
    let ks = c.args.all.now in
    some_begin (layout c.args.on.now) c.args.slot.number ks (not_empty ks c.is_empty.result c.is_empty.ensures c.if-is_empty.false) c.args.b.now c.push.new.self c.each.new.b
    (rw c.fill_mask.ensures at c.in_ok-push.ensures) c.in_ok-each.ensures

pub returns-then-is_empty : goal.returns-then-is_empty
returns-then-is_empty c = let ks = c.args.all.now in none_begins (layout c.args.on.now) c.args.slot.number ks (is_empty ks c.is_empty.result c.is_empty.ensures c.if-is_empty.true) c.args.b.now
