use Rattle.std.proofs.Common.{◌≡◌, ℕ, suc, ◌+◌, List, arith, ap, subst, sym, ◌∙◌, get_or}
use Rattle.std.specs.Prelude.{slice_set}
use Rattle.isp_base.specs.Rows.{Row}
use Rattle.isp_solo_run.specs.Arrays.{wrote_seen}
use Rattle.isp_solo.specs.Left.{row_over}
use Rattle.isp_solo.proofs.Leaving.{all_over, first_over, one_over}
use Rattle.isp_solo.proofs.left.store_run.Goals as goal

pub loop-store-preserved : goal.loop-store-preserved
loop-store-preserved c =
    ap (λ (xs : List Row). slice_set xs c.loop-store.store c.store_in.new.array) c.loop-store.invariant
    ∙ one_over c.loop-store.store c.args.arrays.now (wrote_seen c.args.run.now.stores.items) c.index-arrays-store.result c.store_in.new.array (omega (arith, c.loop-store-test.true))
    (subst (λ (xs : List Row). c.index-arrays-store.result ≡ get_or xs c.loop-store.store c.index-arrays-store.result) c.loop-store.invariant c.index-arrays-store.is)
    (c.store_in.ensures ∙ ap (λ (r : Row). row_over r (wrote_seen c.args.run.now.stores.items c.loop-store.store)) (sym c.index-arrays-store.is))
    ∙ ap (λ (n : ℕ). first_over n c.args.arrays.now (wrote_seen c.args.run.now.stores.items)) (let i : suc c.loop-store.store ≡ c.loop-store.store + 1 = omega arith in i)

pub returns : goal.returns
returns c = c.loop-store.invariant ∙ all_over c.loop-store.store c.args.arrays.now (wrote_seen c.args.run.now.stores.items) (omega (arith, c.loop-store-test.false))
