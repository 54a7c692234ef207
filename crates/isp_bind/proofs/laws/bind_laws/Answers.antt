use Rattle.isp_bind.proofs.Promised.{no_json, only_no_json, in_range, out_of_range, shown_again}
use Rattle.isp_bind.proofs.laws.bind_laws.Goals as goal

pub returns-clause-no_json : goal.returns-clause-no_json
returns-clause-no_json c = no_json

pub returns-clause-only_no_json : goal.returns-clause-only_no_json
returns-clause-only_no_json c = only_no_json

pub returns-clause-in_range : goal.returns-clause-in_range
returns-clause-in_range c = in_range

pub returns-clause-out_of_range : goal.returns-clause-out_of_range
returns-clause-out_of_range c = out_of_range

pub returns-clause-shown_again : goal.returns-clause-shown_again
returns-clause-shown_again c = shown_again
