use Rattle.std.proofs.Common.{ap, length, ◌∙◌, None, false}
use Rattle.isp_gang_values.proofs.Vectors.{padded_all, longer}
use Rattle.isp_solo_run.specs.Arrays.{wrote_in, read_in, wrote_seen, read_seen}
use Rattle.isp_solo_run.proofs.arrays.Arrays.reach.Goals as goal

pub loop-next-preserved : goal.loop-next-preserved
loop-next-preserved c =
    record {
      wrote = ap wrote_seen c.in_ok-push.ensures.items ∙ padded_all wrote_in (λ e. None) c.loop-next.self.stores.items c.new.result c.new.ensures.wrote ∙ c.loop-next.invariant.wrote;
      read = ap read_seen c.in_ok-push.ensures.items ∙ padded_all read_in (λ e. false) c.loop-next.self.stores.items c.new.result c.new.ensures.read ∙ c.loop-next.invariant.read;
      long = ap length c.in_ok-push.ensures.items ∙ longer c.loop-next.self.stores.items c.new.result c.loop-next._next c.loop-next.invariant.long;
    }

pub returns-in_ok-push-2-clause-wrote : goal.returns-in_ok-push-2-clause-wrote
returns-in_ok-push-2-clause-wrote c =
    ap wrote_seen c.in_ok-push-2.ensures.items ∙ padded_all wrote_in (λ e. None) c.loop-next.self.stores.items c.new-then-len-store.result c.new-then-len-store.ensures.wrote ∙ c.loop-next.invariant.wrote

pub returns-in_ok-push-2-clause-read : goal.returns-in_ok-push-2-clause-read
returns-in_ok-push-2-clause-read c =
    ap read_seen c.in_ok-push-2.ensures.items ∙ padded_all read_in (λ e. false) c.loop-next.self.stores.items c.new-then-len-store.result c.new-then-len-store.ensures.read ∙ c.loop-next.invariant.read
