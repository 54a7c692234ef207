use Rattle.std.proofs.Common.{arith, rules, ◌∙◌}
use Rattle.isp_asm.proofs.Spelled.{high_bad, hex_right, some_bytes}
use Rattle.isp_asm.proofs.words.hex.Goals as goal

pub returns-in_err-hex_value-clause-err : goal.returns-in_err-hex_value-clause-err
returns-in_err-hex_value-clause-err c =
    let h = c.loop-rest.invariant.same ∙ high_bad c.loop-rest.rest.now c.in-len2-up.len_at_least c.in_err-hex_value.ensures.err.1 in
    grind (arith, h)

pub returns-clause-ok : goal.returns-clause-ok
returns-clause-ok c =
    hex_right c.loop-rest.bytes.items c.loop-rest.rest.now c.args.word.now c.loop-rest.invariant.spelled c.loop-rest.invariant.same (search rules) (search rules)

pub returns-clause-fits : goal.returns-clause-fits
returns-clause-fits c = some_bytes c.loop-rest.bytes.items (search rules) c.loop-rest.invariant.bytes
