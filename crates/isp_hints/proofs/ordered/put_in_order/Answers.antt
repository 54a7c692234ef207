use Rattle.std.proofs.Common.{rules}
use Rattle.std.proofs.lemmas.Fn.{dedup_same}
use Rattle.std.proofs.lemmas.List.Sorted.{answers_always}
use Rattle.isp_hints.proofs.InOrder.{key_of, same_key, sorted_once, once_keeps, once_adds_none}
use Rattle.isp_hints.proofs.ordered.put_in_order.Goals as goal

pub returns : goal.returns
returns c =
    let moved = c.sort_unstable_by_key.ensures.permutation in
    let once = dedup_same _ same_key _ (λ x y b f' x' y' k. search rules) _ _ c.dedup_by_key.ensures.filtered in
    record {
      keeps = once_keeps _ _ _ moved once;
      adds_none = once_adds_none _ _ _ moved once;
      ordered = sorted_once _ _ (c.sort_unstable_by_key.ensures.sorted key_of (answers_always _ _ _ (λ f a r g h. search rules))) once;
    }
