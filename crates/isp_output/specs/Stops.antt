-- How a machine stands that stopped, and what it added to its output.
use Rattle.std.specs.Prelude.{◌≡◌, ℕ, ◌≤◌, ◌++◌, List}
use Rattle.isp_code.specs.Conf.{State}
use Rattle.isp_machine.specs.Kept.{Kept, state}
use Rattle.isp_machine.specs.Runs.{IsRunning, IsTrapped, IsEnded, Made, conf}
use Rattle.isp_machine.specs.declared.stop.Stop.{Stop}
use Rattle.isp_machine.specs.declared.stop.Stop.TheVariants.{Running, Trapped, Ended, Memory}

abbrev pub StopsAs : Stop → State → Type 0
StopsAs Running s = IsRunning s
StopsAs (Trapped t) s = IsTrapped t s
StopsAs Ended s = IsEnded s
StopsAs Memory s = ⊥

-- it made some number of instructions up to this one, or fewer to an end
abbrev pub MadeSome : ℕ → Kept → Kept → Type 0
MadeSome b old now = (m : ℕ) × (m ≤ b) × Made m old now

-- its output so far
abbrev pub out_now : Kept → List ℕ
out_now m = (conf (state m)).out

-- the bytes that were added to its output are such
pub record Adds (old now : Kept) (such : List ℕ → Type 0) : Type 0 where
  pub bytes : List ℕ
  pub added : out_now now ≡ out_now old ++ bytes
  pub are : such bytes
