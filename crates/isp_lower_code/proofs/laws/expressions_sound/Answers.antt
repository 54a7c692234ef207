use Rattle.isp_lower_code.proofs.Rated.{expr_tree}
use Rattle.isp_lower_code.proofs.SoundFound.{found_there}
use Rattle.isp_lower_code.proofs.SoundExprs.{value_sound}
use Rattle.isp_lower_code.proofs.laws.expressions_sound.Goals as goal

pub returns : goal.returns
returns c = record {
  part = λ fs vars code h l x n links fine rated has. value_sound fs code h l links x n (expr_tree fs vars x fine rated) has;
  there = λ fs vars h l x n kept fine rated has. found_there fs h l kept x n (expr_tree fs vars x fine rated) has;
}
