use Rattle.std.proofs.Common.{arith}
use Rattle.std.proofs.lemmas.Grind.{common_steps}
use Rattle.isp_native.proofs.Pieces.{from_number}
use Rattle.isp_native.proofs.page.Page.texts.Goals as goal

pub loop-number-preserved : goal.loop-number-preserved
loop-number-preserved c = grind (arith, common_steps, from_number c.args.code.now.texts c.loop-number.number c.text.result.now c.text.ensures)
