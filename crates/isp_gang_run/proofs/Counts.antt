-- What an evaluator counts.
use Rattle.std.proofs.Common.{◌≡◌, ap, ◌∙◌, ℕ, ◌+◌, arith}
use Rattle.isp_gang_run.specs.Capped.{capped}
use Rattle.isp_gang_run.specs.Tasks.{Counts}
use Rattle.isp_gang_run.specs.declared.counting.Work.{Work}
use Rattle.isp_gang_run.specs.declared.state.Evaluator.{Evaluator}

-- that much more than one counts
abbrev pub Adds : Evaluator → Work → ℕ → Type 0
Adds e work n = work.count ≡ capped (e.work.count + n)

abbrev pub work_of : Evaluator → Work
work_of e = e.work

pub capped_more : (n w : ℕ) → capped (capped w + n) ≡ capped (w + n)
capped_more n w = omega arith

pub counts_more : (old : Evaluator) (work : Work) (n w : ℕ) → Adds old work n → Counts old w → work.count ≡ capped (w + n)
counts_more old work n w more c = more ∙ ap (λ k. capped (k + n)) c ∙ capped_more n w

pub counts_same : (mid new : Evaluator) (w : ℕ) → new.work ≡ mid.work → Counts mid w → Counts new w
counts_same mid new w e c = ap (λ (x : Work). x.count) e ∙ c

-- one more, and then the same
pub counts_one : (old new : Evaluator) (work : Work) (w : ℕ) → Adds old work 1 → new.work ≡ work → Counts old w → Counts new (w + 1)
counts_one old new work w one e c = counts_same (record old { work = work }) new (w + 1) e (counts_more old work 1 w one c)

-- what is added is capped too
pub adds_capped : (e : Evaluator) (work : Work) (r k : ℕ) → Adds e work r → r ≡ capped k → Adds e work k
adds_capped e work r k more is = more ∙ ap (λ n. capped (e.work.count + n)) is ∙ capped_both e.work.count k
  where
    capped_both : (a b : ℕ) → capped (a + capped b) ≡ capped (a + b)
    capped_both a b = omega arith
