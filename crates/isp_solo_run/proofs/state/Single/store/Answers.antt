use Rattle.std.proofs.Common.{◌∙◌, ap, sym, Some}
use Rattle.isp_solo_meaning.specs.Alone.{put_in}
use Rattle.isp_solo_meaning.specs.Places.{element_kept}
use Rattle.isp_base.specs.declared.types.Rate.{Rate}
use Rattle.isp_solo_run.specs.Seen.{frame_seen, own_of}
use Rattle.isp_solo_run.specs.Tasks.{state_seen}
use Rattle.isp_solo_run.proofs.Changes.{arrays_changed, own_changed}
use Rattle.isp_solo_run.proofs.state.Single.store.Goals as goal

pub returns-in_ok-store-in-Uniform : goal.returns-in_ok-store-in-Uniform
returns-in_ok-store-in-Uniform c =
    let old = c.args.self.now in
    arrays_changed old c.store.new.self (element_kept (frame_seen old.here) c.args.array.ty.rate c.args.array c.args.place c.args.bits)
    (put_in (state_seen old).wrote c.store-store.result c.args.place (Some c.args.bits)) c.in_ok-store-in-Uniform.ensures.wrote
    c.in_ok-store-in-Uniform.ensures.read
    (ap (λ (r : Rate). element_kept (frame_seen old.here) r c.args.array c.args.place c.args.bits (state_seen old)) c.in-Uniform.is
    ∙ ap (λ b. record (state_seen old) { wrote = put_in (state_seen old).wrote b c.args.place (Some c.args.bits) }) (sym c.store-store.ensures))

pub returns-in_ok-put_own-in-Varying : goal.returns-in_ok-put_own-in-Varying
returns-in_ok-put_own-in-Varying c =
    let old = c.args.self.now in
    own_changed old c.put_own.new.arrays (element_kept (frame_seen old.here) c.args.array.ty.rate c.args.array c.args.place c.args.bits)
    (put_in (own_of old.here.own.items) c.args.array.number c.args.place c.args.bits) c.in_ok-put_own-in-Varying.ensures
    (ap (λ (r : Rate). element_kept (frame_seen old.here) r c.args.array c.args.place c.args.bits (state_seen old)) c.in-Varying.is)
