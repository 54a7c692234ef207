-- What the runs of the first instances come to, taken together.
use Rattle.std.specs.Prelude.{◌≡◌, ℕ, ◌+◌, ◌<◌, List}
use Rattle.isp_base.specs.Rows.{Row}
use Rattle.isp_solo_meaning.specs.Answers.{Answer}
use Rattle.isp_solo_meaning.specs.Runs.{IsEnded, value_of}
use Rattle.isp_solo_run.specs.Ends.{IsRunOf}
use Rattle.isp_solo_run.specs.Touches.{touched_by}
use Rattle.isp_solo_run.specs.declared.running.Ending.TheVariants.{Gave}
use Rattle.isp_solo_run.specs.declared.running.Run.{Run}
use Rattle.isp_solo.specs.Left.{rows_left}
use Rattle.isp_solo.specs.Touched.{touched_seen}
use Rattle.isp_solo.specs.declared.together.Together.{Together}

-- of the first n instances, where the arrays were rs: how they touched the elements, what they left, and what the first gave
pub record AreTogether (run : ℕ → Answer ℕ) (rs : List Row) (n : ℕ) (t : Together) : Type 0 where
  pub end : (p : ℕ) → p < n → IsEnded (run p)
  pub touched : (b e : ℕ) → touched_seen t.touched.items b e ≡ touched_by run n b e
  pub arrays : t.arrays.items ≡ rows_left run rs n
  pub given : 0 < n → t.given ≡ value_of (run 0)

-- the run of instance n, which gave this value, is taken in
abbrev pub Adds : Run → ℕ → ℕ → Together → Together → Type 0
Adds r n value old new =
    (run : ℕ → Answer ℕ) (rs : List Row) → AreTogether run rs n old → IsRunOf (run n) r → r.ending ≡ Gave value → AreTogether run rs (n + 1) new
