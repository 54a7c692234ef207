-- Runs of the code, whatever call they are in. The steps ride along as a potential: q steps were made before, within 32 for
-- each unit of the work so far.
use Rattle.std.specs.Prelude.{◌≡◌, ◌≤◌, ℕ, ◌+◌, ◌*◌, List}
use Rattle.isp_base.specs.Prefixes.{IsPrefix}
use Rattle.isp_base.specs.declared.trap.Trap.{Trap}
use Rattle.isp_code.specs.Conf as machine
use Rattle.isp_code.specs.Conf.{Conf}
use Rattle.isp_code.specs.Listing.{Listing}
use Rattle.isp_code.specs.Machine.{after}
use Rattle.isp_meaning.specs.State.{State}

module _ (code : Listing) where
  -- the machine goes from one configuration to another in so many steps
  abbrev pub ComesIn : Conf → ℕ → Conf → Type 0
  ComesIn c t c' = after code t (machine.Runs c) ≡ machine.Runs c'

  -- the code trapped
  pub record FailedIn (c : Conf) (q : ℕ) (t : Trap) (s : State) : Type 0 where
    pub conf : Conf
    pub steps : ℕ
    pub fails : after code steps (machine.Runs c) ≡ machine.Trapped t conf
    pub arrays_are : conf.arrays ≡ s.arrays
    pub out_is : conf.out ≡ s.out
    pub bound : steps + q ≤ 32 * s.work

  -- the code goes on past so many turns
  pub record StoppedIn (turns : ℕ) (c : Conf) (q : ℕ) (s : State) : Type 0 where
    pub conf : Conf
    pub steps : ℕ
    pub far : turns ≤ steps
    pub goes : ComesIn c steps conf
    pub out_is : conf.out ≡ s.out
    pub bound : steps + q ≤ 32 * s.work

  -- after so many steps the machine still runs, and P holds of its output
  pub record StillRuns (c : Conf) (m : ℕ) (P : List ℕ → Type 0) : Type 0 where
    pub conf : Conf
    pub comes : ComesIn c m conf
    pub writes : P conf.out

  -- The code goes on without end, as a meaning that is cut for each number of turns, with these states: the output of each cut
  -- is the beginning of that after some number of steps, and the output after each number of steps is the beginning of
  -- that of some cut.
  pub record GoesOn (c : Conf) (cuts : ℕ → State) : Type 0 where
    pub reaches : (n : ℕ) → (m : ℕ) × StillRuns c m (λ out. IsPrefix (cuts n).out out)
    pub so_far : (m : ℕ) → (n : ℕ) × StillRuns c m (λ out. IsPrefix out (cuts n).out)
