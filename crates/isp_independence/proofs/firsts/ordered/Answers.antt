use Rattle.std.proofs.Common.{rules}
use Rattle.std.proofs.lemmas.List.Sorted.{answers_always}
use Rattle.isp_independence.proofs.InOrder.{place_and_rule, order_is}
use Rattle.isp_independence.proofs.firsts.ordered.Goals as goal

pub returns : goal.returns
returns c =
    order_is c.args.own.now c.in_ok-breaches.breaches.items c.sort_unstable_by_key.new.self.items c.in_ok-breaches.ensures c.sort_unstable_by_key.ensures.permutation
    (c.sort_unstable_by_key.ensures.sorted place_and_rule (answers_always _ _ _ (λ f a r g h. search rules)))
