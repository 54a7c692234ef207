use Rattle.std.proofs.Common.{◌∙◌, ap, List, [], Some}
use Rattle.isp_code.specs.declared.instr.Instr.{Instr}
use Rattle.isp_typed.specs.Views.{function_of}
use Rattle.isp_lower.specs.Drafts.{Draft, begun, draft_of, heading_in}
use Rattle.isp_lower_code.specs.FirstRows.{first_rows}
use Rattle.isp_registers.specs.Growth.{rows_of}
use Rattle.isp_lower_code.specs.Header.{Heading}
use Rattle.isp_lower_code.specs.Rows.{Rows}
use Rattle.isp_lower.proofs.types.Emitter.begin.Goals as goal

pub returns-clause-begun : goal.returns-clause-begun
returns-clause-begun c =
    let h = c.in_ok-heading.heading in
    let r = c.in_ok-registers.registers in
    let d = begun (function_of c.args.f.now) (draft_of c.args.self.now) in
    ap (λ (x : List Instr). record (draft_of c.close.new.self) { heading = Some (heading_in h); rows = rows_of r; masks = 3; code = x }) c.new.ensures.items
    ∙ ap (λ (x : Draft). record x { heading = Some (heading_in h); rows = rows_of r; masks = 3; code = [] }) c.in_ok-close.ensures.closed
    ∙ ap (λ (x : Heading). record d { heading = Some x; rows = rows_of r }) c.in_ok-heading.ensures
    ∙ ap (λ (x : Rows). record d { rows = x }) (c.in_ok-registers.ensures ∙ ap (λ vs. first_rows vs c.args.f.now.result) c.as_slice.ensures.value)
