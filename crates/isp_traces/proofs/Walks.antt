-- Counts along a run.
use Rattle.std.proofs.Common.{◌≡◌, ◌≢◌, refl, ◌∙◌, subst, ℕ, suc, ◌<◌, ◌≤◌, arith}
use Rattle.isp_code.specs.Conf.{State}
use Rattle.isp_machine.specs.Kept.{Kept, state}
use Rattle.isp_machine.specs.Runs.{Made, RunGives}
use Rattle.isp_machine.specs.declared.stop.Stop.{Stop}
use Rattle.isp_machine.specs.declared.stop.Stop.TheVariants.{Running, Trapped as StopTrapped, Ended as StopEnded, Memory}
use Rattle.isp_traces.specs.Counting.{CountGives}
use Rattle.isp_traces.specs.declared.tallies.Counts.{Counts}
use Rattle.isp_traces.proofs.Executes.{sums_counted}
use Rattle.isp_traces.proofs.Sums.{AreSums}
use Rattle.isp_traces.proofs.Ends.{IsOver, counts_later, ended_over, made_later, made_next, trapped_over}

-- so far: what `run` answers for the steps that are made, which is not that memory was refused, and their counts
abbrev pub SoFar : ℕ → Kept → Kept → Stop → Counts → Type 0
SoFar m old now Memory counts = ⊥
SoFar m old now stop counts = RunGives m old now stop × AreSums old.code (state old) m counts

pub begun : (old now : Kept) (stop : Stop) (counts : Counts) → RunGives 0 old now stop → AreSums old.code (state old) 0 counts → SoFar 0 old now stop counts
begun old now Running counts gives are = (gives, are)
begun old now (StopTrapped t) counts gives are = (gives, are)
begun old now StopEnded counts gives are = (gives, are)
begun old now Memory counts gives are = absurd (omega (arith, gives.1))

pub next : (old mid now : Kept) (m : ℕ) (stop : Stop) (counts : Counts) → stop ≢ Memory → Made m old mid → RunGives 1 mid now stop → AreSums old.code (state old) (suc m) counts → SoFar (suc m) old now stop counts
next old mid now m Running counts off made gives are = ((made_next old mid now m made gives.0, gives.1), are)
next old mid now m (StopTrapped t) counts off made gives are = ((made_next old mid now m made gives.0, gives.1), are)
next old mid now m StopEnded counts off made gives are = ((made_next old mid now m made gives.0, gives.1), are)
next old mid now m Memory counts off made gives are = absurd (off refl)

-- memory was refused at the next instruction
pub refused : (old mid now : Kept) (m b : ℕ) (counts : Counts) → m < b → Made m old mid → RunGives 1 mid now Memory → AreSums old.code (state old) m counts → CountGives b old now Memory counts
refused old mid now m b counts low made gives are =
    let none : gives.0 ≡ 0 = omega (arith, gives.1) in
    let same : Made 0 mid now = subst (λ (k : ℕ). Made k mid now) none gives.2 in
    (m, low, record { state_is = same.state_is ∙ made.state_is; code_same = same.code_same ∙ made.code_same; given_same = same.given_same ∙ made.given_same }, gives.3, sums_counted old.code (state old) m counts are)

-- an end before the budget is used up
pub over : (old now : Kept) (m b : ℕ) (stop : Stop) (counts : Counts) → stop ≢ Running → m ≤ b → SoFar m old now stop counts → CountGives b old now stop counts
over old now m b Running counts off le so = absurd (off refl)
over old now m b (StopTrapped t) counts off le so =
    let end = trapped_over t (state now) so.0.1 in
    ((made_later old now m b le end so.0.0, so.0.1), sums_counted old.code (state old) b counts (counts_later old.code (state old) m (subst (λ (z : State). IsOver z) so.0.0.state_is end) b counts le so.1))
over old now m b StopEnded counts off le so =
    let end = ended_over (state now) so.0.1 in
    ((made_later old now m b le end so.0.0, so.0.1), sums_counted old.code (state old) b counts (counts_later old.code (state old) m (subst (λ (z : State). IsOver z) so.0.0.state_is end) b counts le so.1))
over old now m b Memory counts off le so = absurd so

-- the budget is used up
pub all_made : (old now : Kept) (m : ℕ) (stop : Stop) (counts : Counts) → SoFar m old now stop counts → CountGives m old now stop counts
all_made old now m Running counts so = (so.0, sums_counted old.code (state old) m counts so.1)
all_made old now m (StopTrapped t) counts so = (so.0, sums_counted old.code (state old) m counts so.1)
all_made old now m StopEnded counts so = (so.0, sums_counted old.code (state old) m counts so.1)
all_made old now m Memory counts so = absurd so

-- the code is that of before
pub so_code : (old now : Kept) (m : ℕ) (stop : Stop) (counts : Counts) → SoFar m old now stop counts → now.code ≡ old.code
so_code old now m Running counts so = so.0.0.code_same
so_code old now m (StopTrapped t) counts so = so.0.0.code_same
so_code old now m StopEnded counts so = so.0.0.code_same
so_code old now m Memory counts so = absurd so
