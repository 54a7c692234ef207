use Rattle.std.proofs.Common.{◌≤◌, ◌+◌, List, drop, map, sym, subst, ap, ◌∙◌}
use Rattle.serde_json.specs.Data.{depth}
use Rattle.serde_json.specs.Read.{max_depth}
use Rattle.serde_json.specs.View.{items_view, view}
use Rattle.serde_json.specs.declared.value.Value.{Value}
use Rattle.isp_case_files.specs.Cases.{Listed, as_listed, cases_from}
use Rattle.isp_case_files.proofs.Depths.{value_within}
use Rattle.isp_case_files.proofs.Turns.{done_next, listed_push, with_done}
use Rattle.isp_case_files.proofs.reading.cases_from.Goals as goal

pub case_of-requires : goal.case_of-requires
case_of-requires c =
    let v = c.index-values-place.result in
    subst (λ (w : Value). depth (view w) ≤ max_depth) (sym c.index-values-place.is) (value_within c.args.values.now c.loop-place.place v max_depth c.loop-place-test.true c.requires)

pub loop-place-preserved : goal.loop-place-preserved
loop-place-preserved c =
    let vs = c.args.values.now in
    let i = c.loop-place.place in
    let done = c.loop-place.found.items in
    let one = c.in_ok-one.one in
    let grown = ap (map as_listed) c.in_ok-push.ensures.items ∙ listed_push done one in
    c.loop-place.invariant
    ∙ done_next vs (map as_listed done) i c.index-values-place.result (as_listed one) c.loop-place-test.true c.index-values-place.is c.in_ok-one.ensures.ok
    ∙ ap (λ (l : List Listed). with_done l (cases_from (i + 1 + 1) (items_view (drop (i + 1) vs)))) (sym grown)
