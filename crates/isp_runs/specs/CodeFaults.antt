-- What loading answers where a text or its code is refused, and how a refusal is shown.
use Rattle.std.specs.Prelude.{ℕ, List, codes}
use Rattle.isp_asm.specs.Faults as asm
use Rattle.isp_asm.specs.declared.fault.AsmFault.{AsmFault}
use Rattle.isp_asm.specs.declared.fault.AsmFault.TheVariants as asm_fault
use Rattle.isp_verify.specs.FaultTexts as verify
use Rattle.isp_verify.specs.declared.fault.VerifyFault.{VerifyFault}
use Rattle.isp_verify.specs.declared.fault.VerifyFault.TheVariants as verify_fault
use Rattle.isp_runs.specs.declared.fault.CodeFault.{CodeFault}
use Rattle.isp_runs.specs.declared.fault.CodeFault.TheVariants as code_fault

abbrev pub text_refusal : AsmFault → CodeFault
text_refusal asm_fault.Memory = code_fault.Memory
text_refusal (asm_fault.Refused f) = code_fault.Text f

abbrev pub code_refusal : VerifyFault → CodeFault
code_refusal verify_fault.Memory = code_fault.Memory
code_refusal (verify_fault.Refused f) = code_fault.Code f

abbrev pub code_fault_text : CodeFault → List ℕ
code_fault_text code_fault.Memory = codes "memory"
code_fault_text (code_fault.Text f) = asm.fault_text f
code_fault_text (code_fault.Code f) = verify.fault_text f
