use Rattle.std.proofs.Common.{Ok, sym, ap, ◌∙◌, arith}
use Rattle.isp_grammar.specs.reader.Choices.{signs_at}
use Rattle.isp_grammar.specs.reader.Programs.{linkage_of}
use Rattle.isp_grammar.proofs.FunctionSteps.{linkages_are, linkages_end, linkages_step, linkage_shorter}
use Rattle.isp_grammar.proofs.function.linkages.Goals as goal

pub returns-in_default-clause-value : goal.returns-in_default-clause-value
returns-in_default-clause-value c =
    let n = sym c.linkage_at.ensures ∙ c.in_default.is in
    linkages_are c.args.tokens.now ∙ ap Ok (linkages_end c.each.all.items c.each.rest.now (signs_at linkage_of c.args.tokens.now) n c.each.invariant.value)

pub each-preserved : goal.each-preserved
each-preserved c =
    let s = sym c.linkage_at.ensures ∙ c.in-Some.is in
    let w = linkages_step c.each.all.items c.in-Some.linkage c.each.rest.now (signs_at linkage_of c.args.tokens.now) s c.each.invariant.value in
    rw (c.in_ok-push.ensures.items, c.tail-rest.ensures) (record {
      rest = omega (arith, c.each.invariant.rest, linkage_shorter c.each.rest.now c.in-Some.linkage s);
      value = w;
    })
