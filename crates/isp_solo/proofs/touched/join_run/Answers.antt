use Rattle.std.proofs.Common.{ap, arith, ◌∙◌, ℕ}
use Rattle.std.specs.Prelude.{is_some}
use Rattle.std.proofs.Math.ListN.{length-set}
use Rattle.isp_solo_run.specs.Arrays.{read_seen, wrote_seen}
use Rattle.isp_solo_run.specs.Touches.{touched}
use Rattle.isp_solo_run.specs.declared.touches.Touch.{Touch}
use Rattle.isp_solo.proofs.Joining.{joined_next, joined_all}
use Rattle.isp_solo.proofs.touched.join_run.Goals as goal

pub loop-store-preserved : goal.loop-store-preserved
loop-store-preserved c =
    record {
      joined = joined_next c.args.instance c.args.arrays.now.stores.items c.reach_array.new.touched.items c.loop-store.touched.items c.loop-store.store c.join.new.self c.index_mut.result.now c.index.result.now c.loop-store.invariant.joined
          (omega (arith, c.loop-store.invariant.long, c.loop-store-test.true, c.len-store-end.ensures, c.in_ok-reach_array.ensures.long))
          (omega (arith, c.loop-store-test.true, c.len-store-end.ensures)) c.index_mut.ensures.value c.index.ensures c.in_ok-join.ensures;
      long = length-set c.loop-store.touched.items c.loop-store.store c.join.new.self ∙ c.loop-store.invariant.long;
    }

pub returns : goal.returns
returns c b e =
    joined_all c.args.instance c.args.arrays.now.stores.items c.reach_array.new.touched.items c.loop-store.touched.items c.loop-store.store c.loop-store.invariant.joined (omega (arith, c.loop-store-test.false, c.len-store-end.ensures)) b e
    ∙ ap (λ (f : ℕ → ℕ → Touch). touched (f b e) c.args.instance (read_seen c.args.arrays.now.stores.items b e) (is_some (wrote_seen c.args.arrays.now.stores.items b e))) c.in_ok-reach_array.ensures.same
