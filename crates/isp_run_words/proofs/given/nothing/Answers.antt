use Rattle.std.proofs.Common.{List, [], ◌∷◌, ◌++◌, ℕ, ap, ◌∙◌}
use Rattle.isp_base.specs.Rows.{Row}
use Rattle.isp_run_words.proofs.Turns.{zeros_more}
use Rattle.isp_run_words.proofs.given.nothing.Goals as goal

pub loop-done-preserved : goal.loop-done-preserved
loop-done-preserved c =
    c.in_ok-push.ensures.ok
    ∙ ap (λ (r : Row). let s : Row = record { elem = r.elem; bits = r.bits ++ 0 ∷ [] } in s) c.loop-done.invariant
    ∙ ap (λ (l : List ℕ). let s : Row = record { elem = c.args.elem; bits = l } in s) (zeros_more c.loop-done._done)
