use Rattle.isp_frames.proofs.Stored.{goes_store}
use Rattle.isp_machine.proofs.stores.store.Goals as goal

pub returns-in-Ok-clause-ok : goal.returns-in-Ok-clause-ok
returns-in-Ok-clause-ok g c =
    goes_store c.args.here.now c.args.stores.now c.args.frame.now c.args.access.array c.args.access.index c.args.y c.args.access.mask
    c.args.access.place c.requires.operands.0.1 c.store-store.result c.scalar-index.result c.scalar-bits.result c.store-store.ensures.value
    c.store-store.ensures.size c.scalar-index.ensures.value c.scalar-bits.ensures.value
    c.requires.works.shaped c.requires.works.arrays c.store.new.self c.next.new.self c.in-Ok.ensures.inside c.in-Ok.ensures.elements c.in-Ok.ensures.shapes c.next.ensures
