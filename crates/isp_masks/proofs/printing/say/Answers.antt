use Rattle.std.proofs.Common.{arith}
use Rattle.isp_masks.proofs.Telling.{said, said_none}
use Rattle.isp_masks.proofs.printing.say.Goals as goal

pub returns-in-empty : goal.returns-in-empty
returns-in-empty c = said_none c.args.b.now c.args.words.now (omega (arith, c.in-empty.len_below))

pub returns-in_ok-add-in_default : goal.returns-in_ok-add-in_default
returns-in_ok-add-in_default c =
    said c.args.b.now c.text.new.self c.add.new.self c.args.words.now c.in_ok-named-in_default.named.number (omega (arith, c.in_default.len_at_least))
    c.in_ok-named-in_default.ensures.number c.in_ok-named-in_default.ensures.added (rw c.naming.ensures at c.in_ok-add-in_default.ensures)
