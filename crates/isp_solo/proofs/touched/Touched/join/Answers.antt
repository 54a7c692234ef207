use Rattle.std.proofs.Common.{◌≡◌, ◌<◌, ap, subst, ◌∙◌, ℕ, length, arith, rules}
use Rattle.std.specs.Prelude.{List, is_some}
use Rattle.std.proofs.lemmas.List.{with_items_is}
use Rattle.isp_gang_values.specs.Growing.{at_each}
use Rattle.isp_solo_run.specs.Arrays.{read_in, wrote_in}
use Rattle.isp_solo_run.specs.Touches.{touched, touch_in}
use Rattle.isp_solo_run.specs.declared.touches.Touch.{Touch}
use Rattle.isp_solo.proofs.Joining.{joined_at}
use Rattle.isp_solo.proofs.touched.Touched.join.Goals as goal

pub returns : goal.returns
returns c e =
    let long : length c.join.new.touches ≡ c.reach-2.new.self.first.len = search rules in
    ap (λ (xs : List Touch). at_each (λ (x : Touch). x) c.touched-self.result xs e) (with_items_is c.reach-2.new.self.first c.join.new.touches long)
    ∙ joined_at c.reach-2.new.self.others c.args.instance c.args.array.now c.reach-2.new.self.first.items c.join.new.touches c.touched-self.result
    (c.join.ensures.long ∙ ap length c.as_mut_slice.ensures.value) (omega (arith, c.in_ok-reach.ensures.long, c.in_ok-reach-2.ensures.longer, c.len.ensures)) (omega (arith, c.in_ok-reach-2.ensures.long, c.len-2.ensures))
    (subst (λ (xs : List Touch). (i : ℕ) → i < length xs → touch_in c.join.new.touches i ≡ touched (touch_in xs i) c.args.instance (read_in c.args.array.now i) (is_some (wrote_in c.args.array.now i))) c.as_mut_slice.ensures.value c.join.ensures.each)
    c.touched-self.ensures e
    ∙ ap (λ (f : ℕ → Touch). touched (f e) c.args.instance (read_in c.args.array.now e) (is_some (wrote_in c.args.array.now e))) (c.in_ok-reach-2.ensures.same ∙ c.in_ok-reach.ensures.same)
