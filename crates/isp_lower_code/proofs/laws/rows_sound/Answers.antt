use Rattle.isp_lower_code.proofs.RowSound.{rows_sound}
use Rattle.isp_lower_code.proofs.laws.rows_sound.Goals as goal

pub returns : goal.returns
returns c = rows_sound
