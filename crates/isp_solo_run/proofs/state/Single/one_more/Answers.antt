use Rattle.std.proofs.Common.{ap, sym}
use Rattle.isp_typed.specs.Views.{exprs_of}
use Rattle.isp_solo_run.specs.Tasks.{gathers, store_seen}
use Rattle.isp_solo_run.proofs.Steps.{tells_by}
use Rattle.isp_solo_run.proofs.state.Single.one_more.Goals as goal

pub returns-in-Ok : goal.returns-in-Ok
returns-in-Ok c =
    let old = c.args.self.now in
    tells_by _ c.values.result old c.values.new.self _ _ (ap (λ xs. gathers old c.args.gathering (exprs_of c.args.rest.now) xs (store_seen old)) (sym (c.in-Ok.ensures.items))) c.values.ensures
