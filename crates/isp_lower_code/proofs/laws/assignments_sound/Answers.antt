use Rattle.isp_lower_code.proofs.Rated.{simple_tree}
use Rattle.isp_lower_code.proofs.SoundSimples.{simple_sound}
use Rattle.isp_lower_code.proofs.laws.assignments_sound.Goals as goal

pub returns : goal.returns
returns c = λ fs vars code h l x n links fine rated has. simple_sound fs code h l links x n (simple_tree fs vars x fine rated) has
