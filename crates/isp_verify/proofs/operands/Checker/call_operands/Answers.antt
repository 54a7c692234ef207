use Rattle.std.proofs.Common.{sym, ◌∙◌, ap, map}
use Rattle.isp_code.specs.Listing.{routine_of}
use Rattle.isp_code.specs.Operands.{any_register}
use Rattle.isp_verify.specs.Faults.{operands_fault}
use Rattle.isp_verify.proofs.CallParts.{call_parts, first, later}
use Rattle.isp_verify.proofs.operands.Checker.call_operands.Goals as goal

pub returns-in-Some-passed : goal.returns-in-Some-passed
returns-in-Some-passed c =
    let passed = c.in-Some-passed.ensures ∙ ap (λ xs. operands_fault c.args.self.now.code.now (routine_of c.args.self.now.function.now) (map any_register xs)) c.as_slice.ensures in
    sym (call_parts c.args.self.now.code.now (routine_of c.args.self.now.function.now) c.args.call.now ∙ later _ _ c.in_default.ensures ∙ later _ _ c.in_default-all.ensures ∙ first _ _ _ passed)

pub returns : goal.returns
returns c =
    let passed = c.in_default-passed.ensures ∙ ap (λ xs. operands_fault c.args.self.now.code.now (routine_of c.args.self.now.function.now) (map any_register xs)) c.as_slice.ensures in
    c.all-2.ensures ∙ sym (call_parts c.args.self.now.code.now (routine_of c.args.self.now.function.now) c.args.call.now ∙ later _ _ c.in_default.ensures ∙ later _ _ c.in_default-all.ensures ∙ later _ _ passed)
