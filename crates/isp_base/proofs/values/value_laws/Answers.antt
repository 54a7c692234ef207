use Rattle.isp_base.specs.Values.{width}
use Rattle.isp_base.proofs.Wraps.{wrap_to-lt}
use Rattle.isp_base.proofs.Laws.{value_is, same_is, only_is, back_is, bits_are}
use Rattle.isp_base.proofs.values.value_laws.Goals as goal

pub returns-clause-fits : goal.returns-clause-fits
returns-clause-fits c = λ t z. wrap_to-lt (width t) z

pub returns-clause-value : goal.returns-clause-value
returns-clause-value c = value_is

pub returns-clause-same : goal.returns-clause-same
returns-clause-same c = same_is

pub returns-clause-only : goal.returns-clause-only
returns-clause-only c = only_is

pub returns-clause-back : goal.returns-clause-back
returns-clause-back c = back_is

pub returns-clause-bits : goal.returns-clause-bits
returns-clause-bits c = bits_are
