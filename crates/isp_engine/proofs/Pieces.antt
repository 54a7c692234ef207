-- The lines on standard error, by the pieces that are written.
use Rattle.std.proofs.Common.{◌≡◌, ◌++◌, [], ℕ, List, codes, append_assoc, ap}
use Rattle.std.specs.Fmt.{decimal}
use Rattle.isp_asm.specs.Faults.{rule_text}
use Rattle.isp_asm.specs.declared.fault.Fault.{Fault as TextFault}
use Rattle.isp_base.specs.Traps.{kind_text}
use Rattle.isp_base.specs.declared.trap.Trap.{Trap}
use Rattle.isp_lex.specs.Faults as lex
use Rattle.isp_lex.specs.declared.fault.Fault.{Fault}
use Rattle.isp_verify.specs.FaultTexts as verify
use Rattle.isp_verify.specs.declared.fault.Fault.{Fault as CodeRefusal}
use Rattle.isp_independence.specs.Dependences.{number_of}
use Rattle.isp_independence.specs.declared.dependence.Dependence.{Dependence}
use Rattle.isp_engine.specs.Failures.{clash_line, failure_line}
use Rattle.isp_engine.specs.declared.failure.Failure.TheVariants.{Source, Trapped, TurnsUsed, Code, NotIndependent}
use Rattle.isp_runs.specs.declared.fault.CodeFault.TheVariants as code_fault

regrouped : (k a s d e b i n : List ℕ) → k ++ (a ++ (s ++ (d ++ (e ++ (b ++ (i ++ n)))))) ≡ (k ++ a ++ (s ++ d ++ e) ++ b ++ i) ++ n
regrouped k a s d e b i n = simp append_assoc

ruled : (r s m a f b i n : List ℕ) → r ++ (s ++ (m ++ (a ++ (f ++ (b ++ (i ++ n)))))) ≡ ((r ++ (s ++ m)) ++ a ++ f ++ b ++ i) ++ n
ruled r s m a f b i n = simp append_assoc

pub source_line : (f : Fault) (number name start end : List ℕ) → number ≡ decimal (lex.number_of f.rule) → name ≡ lex.name_of f.rule
    → start ≡ decimal f.span.start → end ≡ decimal f.span.end
    → codes "isp: " ++ (number ++ (codes " " ++ (name ++ (codes " at " ++ (start ++ (codes ".." ++ (end ++ (codes "\n" ++ []))))))))
    ≡ failure_line (Source f)
source_line f number name start end a b c d = rw (a, b, c, d) (simp append_assoc)

pub trap_line : (t : Trap) (kind start end instance : List ℕ) → kind ≡ kind_text t.kind → start ≡ decimal t.place.start → end ≡ decimal t.place.end
    → instance ≡ decimal t.instance → codes "isp: trap "
    ++ (kind ++ (codes " at " ++ (start ++ (codes ".." ++ (end ++ (codes ", instance " ++ (instance ++ (codes "\n" ++ []))))))))
    ≡ failure_line (Trapped t)
trap_line t kind start end instance a b c d =
    rw (a, b, c, d)
    (ap (λ z. codes "isp: trap " ++ z) (regrouped (kind_text t.kind) (codes " at ") (decimal t.place.start) (codes "..") (decimal t.place.end) (codes ", instance ") (decimal t.instance) (codes "\n")))

pub text_line : (f : TextFault) (rule line : List ℕ) → rule ≡ rule_text f.rule → line ≡ decimal f.line → codes "isp: " ++ (rule ++ (codes " at line " ++ (line ++ (codes "\n" ++ [])))) ≡ failure_line (Code (code_fault.Text f))
text_line f rule line a b = rw (a, b) (simp append_assoc)

pub code_line : (f : CodeRefusal) (number name function instruction : List ℕ) → number ≡ decimal (verify.number_of f.rule)
    → name ≡ verify.name_of f.rule → function ≡ decimal f.function → instruction ≡ decimal f.instruction
    → codes "isp: " ++ (number ++ (codes " " ++ (name
    ++ (codes " in function " ++ (function ++ (codes ", instruction " ++ (instruction ++ (codes "\n" ++ []))))))))
    ≡ failure_line (Code (code_fault.Code f))
code_line f number name function instruction a b c d =
    rw (a, b, c, d)
    (ap (λ z. codes "isp: " ++ z) (ruled (decimal (verify.number_of f.rule)) (codes " ") (verify.name_of f.rule) (codes " in function ") (decimal f.function) (codes ", instruction ") (decimal f.instruction) (codes "\n")))

pub turns_line : (p : ℕ) (instance : List ℕ) → instance ≡ decimal p → codes "isp: turns used, instance " ++ (instance ++ (codes "\n" ++ [])) ≡ failure_line (TurnsUsed p)
turns_line p instance a = rw a (simp append_assoc)

pub dependence_line : (d : Dependence) (rule start end : List ℕ) → rule ≡ decimal (number_of d.rule) → start ≡ decimal d.span.start
    → end ≡ decimal d.span.end → codes "isp: rule " ++ (rule ++ (codes " at " ++ (start ++ (codes ".." ++ (end ++ (codes "\n" ++ []))))))
    ≡ failure_line (NotIndependent d)
dependence_line d rule start end a b c = rw (a, b, c) (ap (λ z. codes "isp: rule " ++ z) (simp append_assoc))

pub clash_line_is : (name : List ℕ) (e : ℕ) (element : List ℕ) → element ≡ decimal e → codes "isp: not apart: " ++ (name ++ (codes " " ++ (element ++ (codes "\n" ++ [])))) ≡ clash_line name e
clash_line_is name e element a = rw a (simp append_assoc)
