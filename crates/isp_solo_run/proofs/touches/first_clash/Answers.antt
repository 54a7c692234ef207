use Rattle.std.proofs.Common.{◌≡◌, sym, ap, ⊎_elim, arith, ◌∙◌}
use Rattle.std.proofs.lemmas.Bool.{cases_eq}
use Rattle.isp_gang_values.proofs.Vectors.{at_there}
use Rattle.isp_solo_run.specs.Touches.{is_clash, touch_in}
use Rattle.isp_solo_run.specs.declared.touches.Touch.TheVariants.{Nobody}
use Rattle.isp_solo_run.proofs.touches.first_clash.Goals as goal

pub returns-then-is_clash : goal.returns-then-is_clash
returns-then-is_clash c =
    (c.loop-place-test.true, ap is_clash (at_there (λ t. t) Nobody c.args.touches.now c.loop-place.place _ c.loop-place-test.true) ∙ sym c.is_clash.ensures ∙ c.if-is_clash.true, c.loop-place.invariant)

pub loop-place-preserved : goal.loop-place-preserved
loop-place-preserved c e h =
    ⊎_elim
    (λ (i : e ≡ c.loop-place.place). ap (λ k. is_clash (touch_in c.args.touches.now k)) i ∙ ap is_clash (at_there (λ t. t) Nobody c.args.touches.now c.loop-place.place _ c.loop-place-test.true) ∙ sym c.is_clash.ensures ∙ c.if-is_clash.false)
    (λ ne. c.loop-place.invariant e (omega (arith, h, ne))) (cases_eq e c.loop-place.place)
