use Rattle.std.proofs.Common.{ℕ, Bool, Option, ap₂, ◌∙◌}
use Rattle.isp_gang_values.specs.Growing.{values_of}
use Rattle.isp_solo_run.specs.Arrays.{marks_of, wrote_at}
use Rattle.isp_solo_run.proofs.Changed.{stored_at}
use Rattle.isp_solo_run.proofs.arrays.Shared.store.Goals as goal

pub returns-clause-wrote : goal.returns-clause-wrote
returns-clause-wrote c =
    let old = c.args.self.now in
    ap₂ {C = ℕ → Option ℕ} (λ (f : ℕ → Bool) (g : ℕ → ℕ) e. wrote_at (f e) old.declared (g e)) c.in_ok-mark.ensures c.in_ok-put.ensures.ok
    ∙ stored_at (marks_of old.stored.items) (values_of old.work.items) old.declared c.args.place c.args.bits
