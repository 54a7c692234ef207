use Rattle.std.proofs.Common.{◌≡◌, ap, ◌∙◌, length, rules, List}
use Rattle.std.proofs.lemmas.List.{with_items_is}
use Rattle.isp_base.specs.Rows.{Row}
use Rattle.isp_solo_run.specs.Arrays.{wrote_seen}
use Rattle.isp_solo.specs.Left.{rows_over}
use Rattle.isp_solo.proofs.Taking.{one_together}
use Rattle.isp_solo.proofs.together.Together.add.Goals as goal

pub returns : goal.returns
returns c = λ runs rs before is gave.
    let long : length c.store_run.new.arrays ≡ c.args.self.now.arrays.len = search rules in
    one_together runs rs c.args.instance c.args.self.now _ c.args.run.now c.args.value gave before is c.in_ok-join_run.ensures
    (with_items_is c.args.self.now.arrays c.store_run.new.arrays long ∙ c.store_run.ensures ∙ ap (λ (xs : List Row). rows_over xs (wrote_seen c.args.run.now.arrays.stores.items)) c.as_mut_slice.ensures.value)
    c.first_given-self.ensures.first c.first_given-self.ensures.later
