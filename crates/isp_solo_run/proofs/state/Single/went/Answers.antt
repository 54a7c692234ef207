use Rattle.isp_solo_run.proofs.Steps.{tells_within}
use Rattle.std.proofs.Common.{arith}
use Rattle.std.proofs.Common.{ap}
use Rattle.isp_solo_run.specs.Seen.{how_seen}
use Rattle.isp_solo_run.specs.Tasks.{store_seen}
use Rattle.isp_solo_run.specs.declared.state.How.TheVariants as how
use Rattle.isp_solo_run.proofs.Runs.{others_follow, others_skipped}
use Rattle.isp_solo_run.proofs.Steps.{tells_by}
use Rattle.isp_solo_run.proofs.state.Single.went.Goals as goal

pub returns-in-Going : goal.returns-in-Going
returns-in-Going c =
    let old = c.args.self.now in
    tells_by _ c.statements.result old c.statements.new.self _ _ (others_follow old (store_seen old) c.args.statements (ap how_seen c.in-Going.is)) c.statements.ensures

pub returns-in-Broke : goal.returns-in-Broke
returns-in-Broke c =
    let old = c.args.self.now in
    tells_within 0 _ c.leave.result old c.leave.new.self _ (omega arith)
    (tells_by 0 c.leave.result old c.leave.new.self _ _ (others_skipped old (store_seen old) c.args.statements how.Broke (ap how_seen c.in-Broke.is) (λ e. let k : ⊥ = cc in k)) c.leave.ensures)

pub returns-in-Continued : goal.returns-in-Continued
returns-in-Continued c =
    let old = c.args.self.now in
    tells_within 0 _ c.leave-in-Continued.result old c.leave-in-Continued.new.self _ (omega arith)
    (tells_by 0 c.leave-in-Continued.result old c.leave-in-Continued.new.self _ _ (others_skipped old (store_seen old) c.args.statements how.Continued (ap how_seen c.in-Continued.is) (λ e. let k : ⊥ = cc in k)) c.leave-in-Continued.ensures)

pub returns-in-Returned : goal.returns-in-Returned
returns-in-Returned c =
    let old = c.args.self.now in
    tells_within 0 _ c.leave-in-Returned.result old c.leave-in-Returned.new.self _ (omega arith)
    (tells_by 0 c.leave-in-Returned.result old c.leave-in-Returned.new.self _ _ (others_skipped old (store_seen old) c.args.statements how.Returned (ap how_seen c.in-Returned.is) (λ e. let k : ⊥ = cc in k)) c.leave-in-Returned.ensures)
