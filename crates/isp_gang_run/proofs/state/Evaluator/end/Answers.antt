use Rattle.isp_gang_run.proofs.Fewer.{end_fewer}
use Rattle.isp_gang_values.specs.Seen.{payload_of}
use Rattle.isp_meaning.specs.Payloads.{sole}
use Rattle.isp_gang_run.proofs.Progress.{leaves_within}
use Rattle.isp_gang_run.specs.Due.{end_due, own}
use Rattle.std.proofs.Common.{◌≡◌, ℕ, ap, ap₂, ◌∙◌, w32}
use Rattle.std.specs.Prelude.{ℤ}
use Rattle.std.proofs.lemmas.Int.{to_z-of_z}
use Rattle.isp_base.specs.Values.{number}
use Rattle.isp_base.specs.declared.types.Elem.TheVariants.{I32}
use Rattle.isp_meaning.specs.Rounds as Meaning
use Rattle.isp_gang_run.proofs.Foreach.{end_goes}
use Rattle.isp_gang_run.proofs.state.Evaluator.end.Goals as goal

seen : (i : ℕ) (a b p q : ℤ) → a ≡ p → b ≡ q → ◌≡◌ {A = Meaning.Range} (record { index = i; start = a; end = b }) (record { index = i; start = p; end = q })
seen i a b p q e f = ap₂ (λ (x y : ℤ). record { index = i; start = x; end = y }) e f

pub returns-clause-ok : goal.returns-clause-ok
returns-clause-ok c =
    end_goes c.args.self.now c.bounds.new.self c.args.bounds c.args.start c.into_inner-done.result _ c.push.new.self.items c.into_inner-done.ensures
    (seen c.into_inner-done.result.range.now.index _ _ _ _
    (to_z-of_z w32 c.int-start.result (record { sfits = c.int-start.type_inv }) ∙ c.int-start.ensures)
    (to_z-of_z w32 c.int-end.result (record { sfits = c.int-end.type_inv }) ∙ c.int-end.ensures ∙ ap (number I32) c.sole.ensures))
    c.in_ok-push.ensures.items c.in_ok-bounds.ensures.ok

pub returns-clause-fewer : goal.returns-clause-fewer
returns-clause-fewer c =
    leaves_within c.args.self.now c.bounds.new.self c.args.self.now.left (own c.args.self.now end_due c.args.bounds.value) _ (end_fewer c.args.self.now c.args.bounds c.args.start (sole (payload_of c.args.self.now.value)) c.into_inner-done.result _ c.push.new.self.items c.into_inner-done.ensures
    (seen c.into_inner-done.result.range.now.index _ _ _ _
    (to_z-of_z w32 c.int-start.result (record { sfits = c.int-start.type_inv }) ∙ c.int-start.ensures)
    (to_z-of_z w32 c.int-end.result (record { sfits = c.int-end.type_inv }) ∙ c.int-end.ensures ∙ ap (number I32) c.sole.ensures))
    c.in_ok-push.ensures.items) c.in_ok-bounds.ensures.fewer
