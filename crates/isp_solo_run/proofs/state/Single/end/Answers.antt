use Rattle.isp_solo_run.proofs.Foreach.{end_tells}
use Rattle.std.proofs.Common.{◌≡◌, ℕ, ap₂, ◌∙◌, w32}
use Rattle.std.specs.Prelude.{ℤ}
use Rattle.std.proofs.lemmas.Int.{to_z-of_z}
use Rattle.isp_meaning.specs.Rounds as Meaning
use Rattle.isp_solo_run.specs.Tasks.{store_seen}
use Rattle.isp_solo_run.proofs.Foreach.{end_is}
use Rattle.isp_solo_run.proofs.Steps.{tells_by}
use Rattle.isp_solo_run.proofs.state.Single.end.Goals as goal

seen : (i : ℕ) (a b p q : ℤ) → a ≡ p → b ≡ q → ◌≡◌ {A = Meaning.Range} (record { index = i; start = a; end = b }) (record { index = i; start = p; end = q })
seen i a b p q e f = ap₂ (λ (x y : ℤ). record { index = i; start = x; end = y }) e f

pub returns-in-Ok : goal.returns-in-Ok
returns-in-Ok c =
    let old = c.args.self.now in
    end_tells c.bounds.result old c.bounds.new.self c.args.bounds c.args.start c.into_inner-done.result _ c.push.new.self.items c.into_inner-done.ensures
    (seen c.into_inner-done.result.range.now.index _ _ _ _
    (to_z-of_z w32 c.int-start.result (record { sfits = c.int-start.type_inv }) ∙ c.int-start.ensures)
    (to_z-of_z w32 c.int-end.result (record { sfits = c.int-end.type_inv }) ∙ c.int-end.ensures))
    c.in-Ok.ensures.items c.bounds.ensures
