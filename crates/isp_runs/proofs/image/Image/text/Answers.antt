use Rattle.isp_runs.proofs.Loads.{written}
use Rattle.isp_runs.proofs.image.Image.text.Goals as goal

pub returns : goal.returns
returns c = written c.code.result.now c.args.self.now c.write.result c.code.ensures.same c.code.ensures.writable c.code.ensures.fine c.write.ensures
