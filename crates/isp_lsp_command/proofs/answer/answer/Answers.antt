use Rattle.std.proofs.Common.{map, subst, sym}
use Rattle.std.specs.Prelude.{string_bytes}
use Rattle.serde_json.specs.View.{view}
use Rattle.isp_server.specs.Connections.{connection_of}
use Rattle.isp_lsp_command.specs.Sessions.{AllFramed}
use Rattle.isp_lsp_command.proofs.answer.answer.Goals as goal

pub returns-in-Ok-write_all-clause-ok : goal.returns-in-Ok-write_all-clause-ok
returns-in-Ok-write_all-clause-ok g c =
    let messages = map view c.in-Ok.reply.messages.items in
    let framed = subst (λ z. AllFramed (map view z) (string_bytes c.in-Ok-all_framed.bytes)) c.as_slice.ensures.value c.in-Ok-all_framed.ensures in
    (c.as_bytes.result.now, (messages, c.in-Ok.ensures.ok, subst (AllFramed messages) (sym c.as_bytes.ensures.value) framed), c.in-Ok-write_all.ensures.ok)

pub returns-clause-err : goal.returns-clause-err
returns-clause-err g c =
    let messages = map view c.in-Ok.reply.messages.items in
    let framed = subst (λ z. AllFramed (map view z) (string_bytes c.in-Ok-all_framed.bytes)) c.as_slice.ensures.value c.in-Ok-all_framed.ensures in
    (connection_of c.answer.new.self, c.in-Ok.reply.next, c.as_bytes.result.now, (messages, c.in-Ok.ensures.ok, subst (AllFramed messages) (sym c.as_bytes.ensures.value) framed), c.in-Err.ensures.err)
