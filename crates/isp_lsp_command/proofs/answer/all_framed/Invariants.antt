use Rattle.std.proofs.Common.{map, take}
use Rattle.std.specs.Prelude.{string_bytes}
use Rattle.serde_json.specs.View.{view}
use Rattle.isp_lsp_command.specs.Sessions.{AllFramed}
use Rattle.isp_lsp_command.proofs.answer.all_framed.Given as goal

-- the messages so far
abbrev pub invariant-loop-message : goal.invariant-loop-message
invariant-loop-message l = AllFramed (map view (take l.message-index l.messages)) (string_bytes l.bytes)
