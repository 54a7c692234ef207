use Rattle.std.proofs.Common.{Some}
use Rattle.isp_solo_run.proofs.Changed.{wrote_set, read_kept}
use Rattle.isp_solo_run.proofs.arrays.Arrays.store.Goals as goal

pub returns-clause-wrote : goal.returns-clause-wrote
returns-clause-wrote c =
    wrote_set c.args.self.now.stores.items c.reach.new.self.stores.items c.args.store c.args.place (Some c.args.bits) c.index_mut.result.now
    c.store.new.self c.in_ok-reach.ensures.there c.in_ok-reach.ensures.wrote c.index_mut.ensures.value c.in_ok-store.ensures.wrote

pub returns-clause-read : goal.returns-clause-read
returns-clause-read c =
    read_kept c.args.self.now.stores.items c.reach.new.self.stores.items c.args.store c.index_mut.result.now c.store.new.self c.in_ok-reach.ensures.there c.in_ok-reach.ensures.read c.index_mut.ensures.value c.in_ok-store.ensures.read
