use Rattle.std.proofs.Common.{sym, ◌∙◌}
use Rattle.isp_lanes_read.specs.Rows.{rows_of}
use Rattle.isp_lanes_read.proofs.Freed.{free_writes}
use Rattle.isp_lanes_read.proofs.Holding.{masks_hold}
use Rattle.isp_lanes_read.proofs.Runs.{runs_agree}
use Rattle.isp_lanes_read.proofs.checker.check.Goals as goal

pub returns-clause-masks : goal.returns-clause-masks
returns-clause-masks c = λ e. masks_hold c.args.code.now (rows_of c.args.tables.now) (sym c.all_pass.ensures ∙ e)

pub returns-clause-runs : goal.returns-clause-runs
returns-clause-runs c = λ e. runs_agree c.args.code.now (rows_of c.args.tables.now) (sym c.all_pass.ensures ∙ e)

pub returns-clause-writes : goal.returns-clause-writes
returns-clause-writes c = free_writes c.args.code.now (rows_of c.args.tables.now)
