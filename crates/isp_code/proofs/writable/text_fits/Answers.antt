use Rattle.std.proofs.Common.{arith}
use Rattle.isp_code.proofs.TextBytes.{byte_tested, text_tested}
use Rattle.isp_code.proofs.writable.text_fits.Goals as goal

pub returns-clause-written : goal.returns-clause-written
returns-clause-written c = text_tested c.args.text.now c.is_empty.result c.is_empty.ensures (λ k. let h = c.type_inv.text k in omega (arith, h))

pub returns-clause-typed : goal.returns-clause-typed
returns-clause-typed c = byte_tested c.args.text.now c.is_empty.result c.is_empty.ensures
