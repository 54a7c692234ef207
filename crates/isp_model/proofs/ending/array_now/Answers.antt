use Rattle.isp_gang_arrays.specs.Stores.{stores_of}
use Rattle.isp_model.proofs.Cutting.{cut_more}
use Rattle.isp_model.proofs.ending.array_now.Goals as goal

pub loop-place-preserved : goal.loop-place-preserved
loop-place-preserved c =
    cut_more c.args.array.now.elem c.elem-in-loop-place.result (stores_of c.args.run.now.stores.items c.args.store) c.loop-place.place
    c.element.result c.low_bits.result c.loop-place.now c.push.new.self c.loop-place.invariant c.elem-in-loop-place.ensures c.element.ensures
    c.low_bits.ensures c.in_ok-push.ensures.ok
