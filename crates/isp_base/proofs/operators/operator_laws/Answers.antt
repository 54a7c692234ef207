use Rattle.isp_base.proofs.Roundings.{quotient_is, floor_is, amount_is_modulo, least_is}
use Rattle.isp_base.proofs.Unaries.{invert_turns}
use Rattle.isp_base.proofs.operators.operator_laws.Goals as goal

pub returns-clause-quotient : goal.returns-clause-quotient
returns-clause-quotient c = quotient_is

pub returns-clause-shift : goal.returns-clause-shift
returns-clause-shift c = floor_is

pub returns-clause-amount : goal.returns-clause-amount
returns-clause-amount c = amount_is_modulo

pub returns-clause-least : goal.returns-clause-least
returns-clause-least c = least_is

pub returns-clause-invert : goal.returns-clause-invert
returns-clause-invert c = invert_turns
