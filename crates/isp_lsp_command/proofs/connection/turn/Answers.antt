use Rattle.std.proofs.Common.{subst}
use Rattle.std.proofs.lemmas.Result.{err_from_is_err_and}
use Rattle.std.specs.Prelude.{slice_range}
use Rattle.isp_rpc_frames.specs.Messages.{IsMessage, IsPart}
use Rattle.isp_server.specs.Connections.{connection_of}
use Rattle.isp_lsp_command.specs.reader.Turns.{Answers, Fails}
use Rattle.isp_lsp_command.proofs.Turns.{ends_failed, ends_so, reads, stands_next}
use Rattle.isp_lsp_command.proofs.connection.turn.Goals as goal

pub returns-in_err-next-in-Ok-Message : goal.returns-in_err-next-in-Ok-Message
returns-in_err-next-in-Ok-Message g c first had held s =
    let old = connection_of c.args.server.now in
    let left = g.R.Read.remaining c.args.input.now in
    let before = g.O.Sink.written c.args.out.now in
    let now = g.O.Sink.written c.answer.new.out in
    let f = g.O.Sink.has_failed c.args.out.now in
    let k = g.O.Sink.has_failed c.answer.new.out in
    let start = c.in-Ok-Message.start in
    let end = c.in-Ok-Message.end in
    let m = subst (λ z. IsMessage z start end) c.as_slice.ensures.value (rw c.in-Ok-Message.field-0-is at c.in-Ok-Message.ensures) in
    let p = err_from_is_err_and c.from_residual.result c.from_residual.ensures.1 in
    let h = subst (λ z. Fails old (slice_range z start end) before now k c.in_err-next-in-Ok-Message.field-0.0) c.deref.ensures.value c.in_err-next-in-Ok-Message.ensures.err in
    rw (p.1, p.2) (ends_failed first old had held left before now f k c.args.unread.now.items start end _ m h s)

pub returns-in-GoOn : goal.returns-in-GoOn
returns-in-GoOn g c first had held s =
    let old = connection_of c.args.server.now in
    let new = connection_of c.answer.new.server in
    let left = g.R.Read.remaining c.args.input.now in
    let before = g.O.Sink.written c.args.out.now in
    let now = g.O.Sink.written c.answer.new.out in
    let f = g.O.Sink.has_failed c.args.out.now in
    let k = g.O.Sink.has_failed c.answer.new.out in
    let start = c.in-Ok-Message.start in
    let end = c.in-Ok-Message.end in
    let m = subst (λ z. IsMessage z start end) c.as_slice.ensures.value (rw c.in-Ok-Message.field-0-is at c.in-Ok-Message.ensures) in
    let h = subst (λ z. Answers old (slice_range z start end) new before now k c.in_ok-next-in-Ok-Message.next) c.deref.ensures.value c.in_ok-next-in-Ok-Message.ensures.ok in
    let goes = subst (λ z. Answers old (slice_range c.args.unread.now.items start end) new before now k z) c.in-GoOn.is h in
    rw c.drop_front.ensures (stands_next first old new had held left before now f k c.args.unread.now.items start end m goes s)

pub returns-in-End : goal.returns-in-End
returns-in-End g c first had held s =
    let old = connection_of c.args.server.now in
    let new = connection_of c.answer.new.server in
    let left = g.R.Read.remaining c.args.input.now in
    let before = g.O.Sink.written c.args.out.now in
    let now = g.O.Sink.written c.answer.new.out in
    let f = g.O.Sink.has_failed c.args.out.now in
    let k = g.O.Sink.has_failed c.answer.new.out in
    let start = c.in-Ok-Message.start in
    let end = c.in-Ok-Message.end in
    let m = subst (λ z. IsMessage z start end) c.as_slice.ensures.value (rw c.in-Ok-Message.field-0-is at c.in-Ok-Message.ensures) in
    let h = subst (λ z. Answers old (slice_range z start end) new before now k c.in_ok-next-in-Ok-Message.next) c.deref.ensures.value c.in_ok-next-in-Ok-Message.ensures.ok in
    let ends = subst (λ z. Answers old (slice_range c.args.unread.now.items start end) new before now k z) c.in-End.is h in
    ends_so first old new had held left before now f k c.args.unread.now.items start end c.in-End.status m ends s

pub returns-in-Ok-Part : goal.returns-in-Ok-Part
returns-in-Ok-Part g c first had held s =
    let part = subst IsPart c.as_slice.ensures.value (rw c.in-Ok-Part.field-0-is at c.in-Ok-Part.ensures) in
    reads first (connection_of c.args.server.now) had held (g.R.Read.remaining c.args.input.now) (g.R.Read.remaining c.read_more.new.input) (g.O.Sink.written c.args.out.now) (g.O.Sink.has_failed c.args.out.now)
    c.args.unread.now.items c.read_more.new.unread.items c.read_more.result part c.read_more.ensures s
