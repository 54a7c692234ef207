use Rattle.isp_c_laws.proofs.FromSource.{from_source, from_source_to_c, from_source_to_wasm}
use Rattle.isp_c_laws.proofs.laws.from_source.Goals as goal

pub returns-clause-bytes : goal.returns-clause-bytes
returns-clause-bytes c = from_source c.text_laws.ensures.one c.text_laws.ensures.faultless c.bound_headline.ensures

pub returns-clause-file : goal.returns-clause-file
returns-clause-file c = from_source_to_c c.text_laws.ensures.one c.text_laws.ensures.faultless

pub returns-clause-module : goal.returns-clause-module
returns-clause-module c = from_source_to_wasm c.text_laws.ensures.one c.text_laws.ensures.faultless c.module_headline.ensures
