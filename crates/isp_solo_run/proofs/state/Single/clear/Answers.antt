use Rattle.std.proofs.Common.{◌∙◌, ap, sym, Some}
use Rattle.isp_solo_meaning.specs.Places.{cleared}
use Rattle.isp_base.specs.Maps.{put}
use Rattle.isp_base.specs.declared.types.Rate.{Rate}
use Rattle.isp_solo_run.specs.Seen.{frame_seen, own_of}
use Rattle.isp_solo_run.specs.Tasks.{state_seen}
use Rattle.isp_solo_run.proofs.Changes.{arrays_changed, own_changed}
use Rattle.isp_solo_run.proofs.state.Single.clear.Goals as goal

pub returns-in_ok-declare-in-Uniform : goal.returns-in_ok-declare-in-Uniform
returns-in_ok-declare-in-Uniform c =
    let old = c.args.self.now in
    arrays_changed old c.declare.new.self (cleared (frame_seen old.here) c.args.array.ty.rate c.args.array.number)
    (put (state_seen old).wrote c.store-store.result (λ e. Some 0)) c.in_ok-declare-in-Uniform.ensures.wrote
    c.in_ok-declare-in-Uniform.ensures.read
    (ap (λ (r : Rate). cleared (frame_seen old.here) r c.args.array.number (state_seen old)) c.in-Uniform.is ∙ ap (λ b. record (state_seen old) { wrote = put (state_seen old).wrote b (λ e. Some 0) }) (sym c.store-store.ensures))

pub returns-in-Varying : goal.returns-in-Varying
returns-in-Varying c =
    let old = c.args.self.now in
    own_changed old c.clear_own.new.arrays (cleared (frame_seen old.here) c.args.array.ty.rate c.args.array.number) (put (own_of old.here.own.items) c.args.array.number (λ e. 0)) c.clear_own.ensures
    (ap (λ (r : Rate). cleared (frame_seen old.here) r c.args.array.number (state_seen old)) c.in-Varying.is)
