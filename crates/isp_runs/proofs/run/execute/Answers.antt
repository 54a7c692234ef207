use Rattle.std.proofs.Common.{None}
use Rattle.isp_runs.proofs.Sends.{never_cut}
use Rattle.isp_runs.proofs.run.execute.Goals as goal

pub returns-clause-machine : goal.returns-clause-machine
returns-clause-machine c = c.run_to.ensures.machine (never_cut c.args.image.now c.args.entry.now c.args.json.now c.args.budget None None c.run_to.result c.run_to.ensures.sends)

pub returns-clause-means : goal.returns-clause-means
returns-clause-means c = c.run_to.ensures.means (never_cut c.args.image.now c.args.entry.now c.args.json.now c.args.budget None None c.run_to.result c.run_to.ensures.sends)
