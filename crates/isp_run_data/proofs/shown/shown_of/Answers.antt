use Rattle.std.proofs.Common.{◌≡◌, ◌+◌, ◌<◌, ◌++◌, [], ◌∷◌, List, length, get_or, subst, if◌then◌else◌}
use Rattle.std.specs.Vec.Iter.{into_iter_items}
use Rattle.isp_base.specs.Rows.{Row}
use Rattle.isp_base.specs.declared.signature.Parameter.{Parameter}
use Rattle.isp_run_data.specs.Showing.{is_hidden}
use Rattle.isp_run_data.proofs.Turns.{turn_array, turn_value}
use Rattle.isp_run_data.proofs.shown.shown_of.Goals as goal
use Rattle.isp_run_data.proofs.shown.shown_of.Goals.{then-parameter+in-Some-next+in_ok-offer, else-parameter}

abbrev first_of : Parameter × Row → Parameter
first_of x = x.0

abbrev second_of : Parameter × Row → Row
second_of x = x.1

pub loop-parameter-preserved : goal.loop-parameter-preserved
loop-parameter-preserved c =
    let outs = c.args.outputs.now in
    let ps = c.args.function.now.signature.params.items in
    let k = c.loop-parameter.parameter-index in
    let p = c.parameter-item.result in
    let v = c.in-Some.variable.now in
    let vs = c.loop-parameter.variables.now in
    let others = c.in-Some.others.now in
    let same = c.deref-parameter-items.ensures.value in
    let less = subst (λ (l : List Parameter). k < length l) same c.loop-parameter-test.true in
    let is = subst (λ (l : List Parameter). p ≡ get_or l k p) same c.parameter-item.is in
    let first : vs ≡ v ∷ others = c.in-Some.ensures.cases.0 in
    let held = c.loop-parameter.shown in
    let left = c.loop-parameter.left in
    let inv = c.loop-parameter.invariant in
    elim c.if-parameter.branch [
      | then-parameter+in-Some-next+in_ok-offer w ↦
          let r = w.in-Some-next.array in
          let next : into_iter_items left ≡ r ∷ into_iter_items c.if-parameter.left = rw w.left-is w.in-Some-next.ensures.items in
          let params : c.if-parameter.shown.signature.params.items ≡ held.signature.params.items ++ (if is_hidden outs p v then [] else p ∷ []) = rw w.shown-is w.in_ok-offer.ensures.params in
          let arrays : c.if-parameter.shown.arrays.items ≡ held.arrays.items ++ (if is_hidden outs p v then [] else r ∷ []) = rw w.shown-is w.in_ok-offer.ensures.arrays in
          record {
            params = turn_array outs first_of _ _ ps k p v vs others less is first _ _ r _ w.if-parameter.true next params inv.params;
            arrays = turn_array outs second_of _ _ ps k p v vs others less is first _ _ r _ w.if-parameter.true next arrays inv.arrays;
          }
      | else-parameter w ↦
          rw (w.shown-is, w.left-is) (record {
            params = turn_value outs first_of _ _ ps k p v vs others less is first _ w.if-parameter.false inv.params;
            arrays = turn_value outs second_of _ _ ps k p v vs others less is first _ w.if-parameter.false inv.arrays;
          })
    ]
