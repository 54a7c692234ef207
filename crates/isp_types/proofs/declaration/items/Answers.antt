use Rattle.isp_typed.specs.Verdicts.{made}
use Rattle.isp_types.specs.reader.Boxes.{listed_items}
use Rattle.isp_types.proofs.ItemSteps.{items_step, names_step, variables_step}
use Rattle.isp_types.proofs.declaration.items.Goals as goal

pub loop-x-preserved : goal.loop-x-preserved
loop-x-preserved c =
    let gang = c.args.setting.now.gang in
    let hs = c.args.setting.now.headers.now in
    let words = c.args.words in
    record {
      value = items_step gang words c.args.all.now c.loop-x.x-index c.x-item.result c.loop-x-test.true c.x-item.is c.loop-x.scope _ c.loop-x.variables.items _
          c.in_ok-part.ensures.names c.in_ok-part.ensures.variables hs c.args.start (made listed_items c.loop-x.done) _ _ _
          c.in_ok-part.ensures.value c.in_ok-done.ensures c.loop-x.invariant.value;
      names = names_step gang words c.args.all.now c.loop-x.x-index c.x-item.result c.loop-x-test.true c.x-item.is c.loop-x.scope _ c.loop-x.variables.items _
          c.in_ok-part.ensures.names c.in_ok-part.ensures.variables _ c.loop-x.invariant.names;
      variables = variables_step gang words c.args.all.now c.loop-x.x-index c.x-item.result c.loop-x-test.true c.x-item.is c.loop-x.scope _ c.loop-x.variables.items _
          c.in_ok-part.ensures.names c.in_ok-part.ensures.variables _ c.loop-x.invariant.variables;
    }
