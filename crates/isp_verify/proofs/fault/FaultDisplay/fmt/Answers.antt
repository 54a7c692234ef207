use Rattle.std.proofs.Common.{◌≡◌, List, ℕ, ◌++◌, codes, append_assoc, sym, ◌∙◌}
use Rattle.std.specs.Fmt.{decimal}
use Rattle.std.proofs.Output.{has_written_of_eq}
use Rattle.isp_verify.specs.FaultTexts.{rule_text, fault_text}
use Rattle.isp_verify.specs.declared.fault.Fault.{Fault}
use Rattle.isp_verify.proofs.fault.FaultDisplay.fmt.Goals as goal

grouped : (r a f b i : List ℕ) → r ++ (a ++ (f ++ (b ++ i))) ≡ r ++ a ++ f ++ b ++ i
grouped r a f b i = sym (append_assoc r a (f ++ (b ++ i))) ∙ sym (append_assoc (r ++ a) f (b ++ i)) ∙ sym (append_assoc (r ++ a ++ f) b i)

text_is : (f : Fault) → rule_text f.rule ++ (codes " in function " ++ (decimal f.function ++ (codes ", instruction " ++ decimal f.instruction))) ≡ fault_text f
text_is f = grouped (rule_text f.rule) (codes " in function ") (decimal f.function) (codes ", instruction ") (decimal f.instruction)

pub returns-clause-writes : goal.returns-clause-writes
returns-clause-writes g c = λ plain ok. has_written_of_eq _ _ _ _ _ (text_is c.args.self.now) (c.write.ensures.writes plain ok)
