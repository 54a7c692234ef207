use Rattle.isp_files.proofs.Steps.{digits_first}
use Rattle.isp_files.proofs.reader.Reader.number.Goals as goal

pub value-requires : goal.value-requires
value-requires c = digits_first c.self.inside.rest.now c.digits-count.result c.digits-count.ensures.count
