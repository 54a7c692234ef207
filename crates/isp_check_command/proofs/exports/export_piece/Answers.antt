use Rattle.isp_typed.specs.Views.{program_of}
use Rattle.isp_check_command.specs.Pages.{ExportMessage}
use Rattle.isp_check_command.proofs.Pages.{if_ok, is_exported, not_exported}
use Rattle.isp_check_command.proofs.exports.export_piece.Goals as goal

pub export_line-requires : goal.export_line-requires
export_line-requires c = c.requires c.if-function.true

pub returns-then-function : goal.returns-then-function
returns-then-function c =
    let told = ExportMessage c.args.request.now c.args.text.now (program_of c.args.checked.now) in
    if_ok c.export_line.result c.export_line.ensures (λ s h. is_exported told c.args.function.now _ c.if-function.true h)

pub returns-else-function : goal.returns-else-function
returns-else-function c =
    let told = ExportMessage c.args.request.now c.args.text.now (program_of c.args.checked.now) in
    not_exported told c.args.function.now _ c.if-function.false c.new.ensures.bytes
