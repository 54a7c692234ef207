use Rattle.std.proofs.Common.{ap, inr, refl, rules, subst, ◌∙◌}
use Rattle.isp_engine.specs.Told.{Told}
use Rattle.isp_wasm_file.specs.Lines.{refusal_line}
use Rattle.isp_code_commands.proofs.wasm.tell_why.Goals as goal

pub returns-in-Ok : goal.returns-in-Ok
returns-in-Ok g c =
    let is = c.as_str.ensures.value ∙ c.in-Ok.ensures ∙ ap (λ code. refusal_line code c.args.refusal) c.code.ensures.same in
    inr (search rules, refl, subst (λ line. Told line (g.E.Sink.written c.args.err.now) (g.E.Sink.written c.tell.new.err) (g.E.Sink.has_failed c.tell.new.err)) is c.tell.ensures)
