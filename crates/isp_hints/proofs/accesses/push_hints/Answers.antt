use Rattle.std.proofs.Common.{rules, ap, ◌∙◌, ◌++◌, [], Option}
use Rattle.std.specs.List.{cons_option}
use Rattle.isp_hints.proofs.More.{instr_more}
use Rattle.isp_hints.specs.Accesses.{hint_of}
use Rattle.isp_hints.specs.declared.hint.Hint.{Hint}
use Rattle.isp_hints.proofs.accesses.push_hints.Goals as goal

pub loop-number-preserved : goal.loop-number-preserved
loop-number-preserved c =
    let text = c.loop-number.found.items in
    instr_more c.args.code.now c.args.instrs.now.items c.loop-number.number _ c.args.found.now.items text c.push_some.new.found.items (search rules) c.loop-number.invariant
    (c.in_ok-push_some.ensures ∙ ap (λ (h : Option Hint). text ++ cons_option h []) (c.hint_of.ensures ∙ ap (hint_of c.args.code.now) c.index.ensures))
