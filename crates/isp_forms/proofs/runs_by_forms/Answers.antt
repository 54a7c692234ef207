use Rattle.isp_forms.proofs.Runs.{runs_by_forms}
use Rattle.isp_forms.proofs.runs_by_forms.Goals as goal

pub returns : goal.returns
returns c = runs_by_forms
