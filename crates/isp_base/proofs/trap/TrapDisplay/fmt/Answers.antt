use Rattle.std.proofs.Common.{◌≡◌, List, ℕ, ◌++◌, codes, append_assoc, sym, ap, ◌∙◌}
use Rattle.std.specs.Fmt.{decimal}
use Rattle.std.proofs.Output.{has_written_of_eq}
use Rattle.isp_base.specs.Types.{span_text}
use Rattle.isp_base.specs.Traps.{kind_text, trap_text}
use Rattle.isp_base.specs.declared.trap.Trap.{Trap}
use Rattle.isp_base.proofs.trap.TrapDisplay.fmt.Goals as goal

grouped : (k a p b i : List ℕ) → k ++ (a ++ (p ++ (b ++ i))) ≡ k ++ a ++ p ++ b ++ i
grouped k a p b i = sym (append_assoc k a (p ++ (b ++ i))) ∙ sym (append_assoc (k ++ a) p (b ++ i)) ∙ sym (append_assoc (k ++ a ++ p) b i)

text_is : (t : Trap) → codes "trap " ++ (kind_text t.kind ++ (codes " at " ++ (span_text t.place ++ (codes ", instance " ++ decimal t.instance)))) ≡ trap_text t
text_is t = ap (λ r. codes "trap " ++ r) (grouped (kind_text t.kind) (codes " at ") (span_text t.place) (codes ", instance ") (decimal t.instance))

pub returns-clause-writes : goal.returns-clause-writes
returns-clause-writes g c = λ plain ok. has_written_of_eq _ _ _ _ _ (text_is c.args.self.now) (c.write.ensures.writes plain ok)
