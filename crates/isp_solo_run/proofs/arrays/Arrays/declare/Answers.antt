use Rattle.std.proofs.Common.{Some}
use Rattle.isp_solo_run.proofs.Changed.{wrote_whole, read_kept}
use Rattle.isp_solo_run.proofs.arrays.Arrays.declare.Goals as goal

pub returns-clause-wrote : goal.returns-clause-wrote
returns-clause-wrote c = wrote_whole c.args.self.now.stores.items c.reach.new.self.stores.items c.args.store c.declare.new.self (Some 0) c.in_ok-reach.ensures.there c.in_ok-reach.ensures.wrote c.declare.ensures.wrote

pub returns-clause-read : goal.returns-clause-read
returns-clause-read c =
    read_kept c.args.self.now.stores.items c.reach.new.self.stores.items c.args.store c.index_mut.result.now c.declare.new.self c.in_ok-reach.ensures.there c.in_ok-reach.ensures.read c.index_mut.ensures.value c.declare.ensures.read
