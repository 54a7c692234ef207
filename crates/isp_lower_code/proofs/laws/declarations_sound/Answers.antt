use Rattle.isp_lower_code.proofs.Rated.{items_tree}
use Rattle.isp_lower_code.proofs.SoundSimples.{items_sound}
use Rattle.isp_lower_code.proofs.laws.declarations_sound.Goals as goal

pub returns : goal.returns
returns c = λ fs vars code h l xs n links fine rated has. items_sound fs code h l links xs n (items_tree fs vars xs fine rated) has
