use Rattle.std.proofs.Common.{◌≡◌, ap, ◌∙◌, map, length, arith}
use Rattle.isp_tree.specs.Views.{range_of as read_range}
use Rattle.isp_types.specs.reader.Lists.{bounds_verdict}
use Rattle.isp_types.proofs.PartSteps.{bounds_of, one_more, no_more, first_agrees, rest_agrees, bounds_part, ranges_step, ranges_end, range_names_step, range_variables_step}
use Rattle.isp_types.proofs.parts.ranges.Goals as goal

pub loop-r-preserved : goal.loop-r-preserved
loop-r-preserved c =
    let gang = c.args.setting.now.gang in
    let hs = c.args.setting.now.headers.now in
    let ns = c.args.scope.now in
    let verdict = bounds_verdict gang hs ns in
    let h = c.loop-r.invariant in
    let r = c.in-Some.r.now in
    let t = one_more c.loop-r.r-iterator c.next.new.self c.next.result (c.in-Some.r, c.in-Some.bounds) c.in-Some.is c.next.ensures.steps in
    let number : c.len-number.result ≡ length c.loop-r.variables.items = c.len-number.ensures ∙ c.loop-r.variables.ok.0 in
    let names = rw (number, c.foreach_index-variable.ensures) at c.in_ok-push-2.ensures.ok in
    let variables = rw c.foreach_index-variable.ensures at c.in_ok-push.ensures.items in
    let bounds = first_agrees bounds_of verdict _ _ _ _ c.in-Some.bounds (read_range r) t.1 (ap (map read_range) t.0) h.bounds in
    let part = rw (number, c.beside.ensures, c.twice-seen.ensures, c.len-start.ensures) at c.in_ok-part.ensures ∙ bounds_part _ (length c.loop-r.variables.items) r.span _ c.in-Some.bounds _ bounds in
    record {
      long = omega (arith, h.long, t.2, ap length t.1);
      bounds = rest_agrees bounds_of verdict _ _ _ _ c.in-Some.bounds (read_range r) t.1 (ap (map read_range) t.0) h.bounds;
      value = rw (c.in_ok-done.ensures, part, names, variables) (ranges_step gang hs ns (length ns) c.loop-r.scope c.loop-r.variables.items _ _ _ _ r t.0 h.value);
      names = rw (names, variables) (range_names_step c.loop-r.scope c.loop-r.variables.items _ _ _ r t.0 h.names);
      variables = rw variables (range_variables_step c.loop-r.variables.items _ _ _ r t.0 h.variables);
    }

pub returns-clause-value : goal.returns-clause-value
returns-clause-value c =
    let gang = c.args.setting.now.gang in
    let hs = c.args.setting.now.headers.now in
    let ns = c.args.scope.now in
    let h = c.loop-r.invariant in
    let none = no_more bounds_of (bounds_verdict gang hs ns) read_range c.loop-r.r-iterator c.next.new.self c.next.result c.in-None.is c.next.ensures.steps h.long h.bounds in
    ranges_end gang hs ns (length ns) c.loop-r.scope c.loop-r.variables.items _ _ _ none h.value
