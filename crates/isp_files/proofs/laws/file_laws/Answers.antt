use Rattle.isp_files.proofs.Whole.{npy_back}
use Rattle.isp_files.proofs.laws.file_laws.Goals as goal

pub returns : goal.returns
returns c = npy_back
