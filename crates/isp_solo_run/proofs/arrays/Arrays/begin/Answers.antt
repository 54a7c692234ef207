use Rattle.std.proofs.Common.{refl, arith, ◌∙◌}
use Rattle.std.proofs.Math.ListN.{length-set}
use Rattle.isp_solo_run.proofs.Changed.{fresh_none, fresh_next, fresh_wrote, fresh_read}
use Rattle.isp_solo_run.proofs.arrays.Arrays.begin.Goals as goal

pub loop-store-init : goal.loop-store-init
loop-store-init c = record { fresh = fresh_none c.args.self.now.stores.items; long = refl }

pub loop-store-preserved : goal.loop-store-preserved
loop-store-preserved c =
    record {
      fresh = fresh_next c.loop-store.self.stores.items c.loop-store.store c.begin.new.self c.loop-store.invariant.fresh
          (omega (arith, c.loop-store.invariant.long, c.loop-store-test.true, c.len-store-end.ensures)) c.begin.ensures.wrote c.begin.ensures.read;
      long = length-set c.loop-store.self.stores.items c.loop-store.store c.begin.new.self ∙ c.loop-store.invariant.long;
    }

pub returns-clause-wrote : goal.returns-clause-wrote
returns-clause-wrote c = fresh_wrote c.loop-store.self.stores.items c.loop-store.store c.loop-store.invariant.fresh (omega (arith, c.loop-store.invariant.long, c.loop-store-test.false, c.len-store-end.ensures))

pub returns-clause-read : goal.returns-clause-read
returns-clause-read c = fresh_read c.loop-store.self.stores.items c.loop-store.store c.loop-store.invariant.fresh (omega (arith, c.loop-store.invariant.long, c.loop-store-test.false, c.len-store-end.ensures))
