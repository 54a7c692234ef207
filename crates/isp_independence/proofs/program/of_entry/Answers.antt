use Rattle.std.proofs.Common.{◌≡◌, ℕ, zero, suc, ◌<◌, refl, arith, get_or}
use Rattle.std.specs.Prelude.{List, [], ◌∷◌, length}
use Rattle.isp_independence.specs.reader.Answers.{of_each}
use Rattle.isp_independence.specs.reader.Paths.{found_at}
use Rattle.isp_independence.proofs.Steps.{each_step}
use Rattle.isp_independence.proofs.program.of_entry.Goals as goal

either_default : (xs : List ℕ) (i d e : ℕ) → i < length xs → get_or xs i d ≡ get_or xs i e
either_default [] i d e h = absurd (omega (arith, h))
either_default (x ∷ xs) zero d e h = refl
either_default (x ∷ xs) (suc i) d e h = either_default xs i d e (omega (arith, h))

pub loop-called-preserved : goal.loop-called-preserved
loop-called-preserved c =
    let least = c.args.least.now in
    let xs = c.args.calls.now in
    let i = c.loop-called.called-index in
    rw (c.first-seen.ensures, c.known.ensures)
    (each_step (of_each (found_at least)) (found_at least) (λ x xs. refl) xs i (get_or xs i 0) c.loop-called.seen _ c.loop-called-test.true
    (either_default xs i 0 (get_or xs i 0) c.loop-called-test.true) c.loop-called.invariant)
