use Rattle.std.proofs.Common.{◌≡◌, Some, string_bytes}
use Rattle.std.proofs.lemmas.Result.{IfOk-weaker}
use Rattle.isp_lanes_read.specs.Rows.{rows_of}
use Rattle.isp_native.specs.Text.{IsCText, c_text}
use Rattle.isp_native.specs.reader.Forms.{form_at}
use Rattle.isp_native.proofs.Rights.{laws_of, text_right}
use Rattle.isp_native.proofs.writer.write.Goals as goal

pub returns-in-Some : goal.returns-in-Some
returns-in-Some c =
    let laws = laws_of c.args.code.now c.in-Some.tables _ c.in-Some.is c.in_ok-tables.ensures in
    IfOk-weaker c.written.result (λ s. string_bytes s ≡ c_text c.args.code.now (form_at (Some (rows_of c.in-Some.tables)))) (λ s. IsCText c.args.code.now (string_bytes s))
    (λ s e. text_right c.args.code.now (rows_of c.in-Some.tables) (string_bytes s) laws e) c.written.ensures
