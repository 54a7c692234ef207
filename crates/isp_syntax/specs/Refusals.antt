-- Which fault a refusal is, for the contracts of the parser's own functions: no part of what `parse` promises.
use Rattle.std.specs.Prelude.{ℕ, List}
use Rattle.isp_lex.specs.Faults.{fault}
use Rattle.isp_lex.specs.declared.fault.Fault.{Fault}
use Rattle.isp_lex.specs.declared.fault.Rule.TheVariants as rule
use Rattle.isp_lex.specs.declared.token.Token.{Token}
use Rattle.isp_syntax.specs.Promise.{refused_span, rule_at}
use Rattle.isp_grammar.specs.declared.stop.Why.{Why}
use Rattle.isp_grammar.specs.declared.stop.Why.TheVariants.{Unexpected, TooDeep}

-- the fault of a refusal whose first token stands at the front
abbrev pub fault_of : Why → ℕ → List Token → Fault
fault_of Unexpected end ts = fault (rule_at ts) (refused_span end ts)
fault_of TooDeep end ts = fault rule.TooDeep (refused_span end ts)
