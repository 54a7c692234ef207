use Rattle.isp_lanes_forms.proofs.Harmless.{forms_are_harmless}
use Rattle.isp_lanes_forms.proofs.forms_are_harmless.Goals as goal

pub returns : goal.returns
returns c = forms_are_harmless
