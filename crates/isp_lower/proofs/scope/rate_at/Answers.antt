use Rattle.std.proofs.Common.{◌∙◌, refl, sym}
use Rattle.std.proofs.lemmas.Option.{slice_get_past, slice_get_read}
use Rattle.isp_lower.proofs.Arguments.{rate_none, rate_there}
use Rattle.isp_lower.proofs.scope.rate_at.Goals as goal

pub returns-in-Some : goal.returns-in-Some
returns-in-Some c =
    let vs = c.args.variables.now in
    let v = c.in-Some.variable.now in
    let there = c.in-Some.ensures.lookup.3 in
    c.rate_held.ensures ∙ sym (rate_there vs c.args.count c.args.place v c.if-place-count.false (slice_get_read vs _ c.args.place v refl there.0 (there.1 v)))

pub returns-in-None : goal.returns-in-None
returns-in-None c =
    let vs = c.args.variables.now in
    sym (rate_none vs c.args.count c.args.place (slice_get_past vs c.args.place c.in-None.ensures.lookup.3))
