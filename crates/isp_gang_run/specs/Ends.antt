-- What a list of tasks comes to in the end.
use Rattle.std.specs.Prelude.{◌≡◌, ℕ}
use Rattle.isp_gang_run.specs.Tasks.{Store, Goes, On, Counts, rest, store_seen}
use Rattle.isp_gang_run.specs.declared.state.Evaluator.{Evaluator}

-- this comes to the registers as they are then
pub record Ends (old new : Evaluator) (f : Store → Goes) : Type 0 where
  pub by : (w : ℕ) → (w' : ℕ) × (f (store_seen old w) ≡ On (store_seen new w'))
  pub counts : (w : ℕ) → Counts old w → Counts new (by w).0

-- what the one has still to do comes to what the other has still to do
pub record Leads (old new : Evaluator) : Type 0 where
  pub by : (w : ℕ) → (w' : ℕ) × (rest old (store_seen old w) ≡ rest new (store_seen new w'))
  pub counts : (w : ℕ) → Counts old w → Counts new (by w).0
