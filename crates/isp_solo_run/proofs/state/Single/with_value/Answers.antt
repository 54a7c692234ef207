use Rattle.std.proofs.Common.{sym, ap, ℕ}
use Rattle.isp_typed.specs.Views.{stmt_of}
use Rattle.isp_solo_run.specs.Tasks.{takes_turn, store_seen}
use Rattle.isp_solo_run.proofs.Steps.{tells_by}
use Rattle.isp_solo_run.proofs.state.Single.with_value.Goals as goal

pub returns : goal.returns
returns c =
    let old = c.args.self.now in
    tells_by _ c.alone.result old c.alone.new.self _ _ (ap (λ (b : ℕ). takes_turn old c.args.unique.index b (stmt_of c.args.unique.body.now) (store_seen old)) (sym c.convert-bits.ensures)) c.alone.ensures
