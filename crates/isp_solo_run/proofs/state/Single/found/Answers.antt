use Rattle.std.proofs.Common.{◌∙◌, ap, ap₂, sym, refl, ℕ, Bool, Option, true}
use Rattle.isp_solo_meaning.specs.Alone.{put_in}
use Rattle.isp_solo_meaning.specs.Answers.{Has}
use Rattle.isp_solo_meaning.specs.Values.{found}
use Rattle.isp_base.specs.Maps.{or_old}
use Rattle.isp_base.specs.declared.types.Rate.{Rate}
use Rattle.isp_solo_run.specs.Seen.{frame_seen, own_of}
use Rattle.isp_solo_run.specs.Tasks.{bound_in, state_seen}
use Rattle.isp_solo_run.proofs.Results.{at_ok, at_found}
use Rattle.isp_solo_run.proofs.state.Single.found.Goals as goal

pub returns-in-Ok : goal.returns-in-Ok
returns-in-Ok c =
    let old = c.args.self.now in (
      ap (λ (r : Rate). found (bound_in old.setting) old.setting.instance (frame_seen old.here) r c.args.array c.args.place (state_seen old)) c.in-Uniform.is
          ∙ ap (λ b. Has (or_old ((state_seen old).wrote b c.args.place) (bound_in old.setting b c.args.place)) (record (state_seen old) { read = put_in (state_seen old).read b c.args.place true })) (sym c.store-store.ensures)
          ∙ ap (λ x. Has x (record (state_seen old) { read = put_in (state_seen old).read c.store-store.result c.args.place true })) (sym (at_found _ c.read.result _ c.in-Ok.is c.read.ensures.found))
          ∙ ap₂ (λ (w : ℕ → ℕ → Option ℕ) (k : ℕ → ℕ → Bool). Has c.in-Ok.bits (record (state_seen old) { wrote = w; read = k }))
          (sym (at_ok c.read.result _ c.in-Ok.is c.read.ensures.wrote)) (sym (at_ok c.read.result _ c.in-Ok.is c.read.ensures.read)),
      refl,
    )

pub returns-in-Varying : goal.returns-in-Varying
returns-in-Varying c =
    let old = c.args.self.now in (
      ap (λ (r : Rate). found (bound_in old.setting) old.setting.instance (frame_seen old.here) r c.args.array c.args.place (state_seen old)) c.in-Varying.is
          ∙ ap (λ x. Has x (state_seen old)) (sym (c.own_at.ensures ∙ ap (λ xs. own_of xs c.args.array.number c.args.place) c.as_slice.ensures.value)),
      refl,
    )
