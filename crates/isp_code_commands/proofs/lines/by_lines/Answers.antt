use Rattle.std.proofs.Common.{rules, ◌≡◌, ◌∙◌, ap, refl, suc, ◌+◌, ◌^◌, ◌<◌, map, take, length, vec_len, arith}
use Rattle.std.specs.List.{range_with_len}
use Rattle.std.proofs.Math.Seq.{take-length}
use Rattle.isp_base.specs.declared.types.Span.{Span}
use Rattle.isp_code_commands.proofs.Feeds.{feeds_at, feeds_long, feeds_to, few_feeds, line_at, lines_more}
use Rattle.isp_code_commands.proofs.lines.by_lines.Goals as goal

pub index-requires : goal.index-requires
index-requires c =
    let text = c.args.text.now in
    let e : c.in_ok-feeds.feeds.items ≡ map (feeds_to text) (range_with_len 0 (suc (length text))) = c.in_ok-feeds.ensures ∙ ap (λ t. map (feeds_to t) (range_with_len 0 (suc (length t)))) c.as_bytes.ensures.value in
    let v : vec_len c.in_ok-feeds.feeds ≡ length c.in_ok-feeds.feeds.items = search rules in
    let n = feeds_long text c.in_ok-feeds.feeds.items e in
    omega (arith, c.min.ensures, v, n)

pub loop-place-preserved : goal.loop-place-preserved
loop-place-preserved c =
    let text = c.args.text.now in
    let e : c.in_ok-feeds.feeds.items ≡ map (feeds_to text) (range_with_len 0 (suc (length text))) = c.in_ok-feeds.ensures ∙ ap (λ t. map (feeds_to t) (range_with_len 0 (suc (length t)))) c.as_bytes.ensures.value in
    let d : Span = record { start = 0; end = 0 } in
    lines_more text c.args.places.now c.loop-place.place-index c.index.result.now d c.loop-place.of_places.items c.push.new.self.items c.loop-place-test.true c.loop-place.invariant c.in_ok-push.ensures.items
    (c.index.ensures ∙ feeds_at text c.in_ok-feeds.feeds.items e _ c.min.result c.index.result.now c.min.ensures)

pub index-requires-2 : goal.index-requires-2
index-requires-2 c =
    let text = c.args.text.now in
    let e : c.in_ok-feeds.feeds.items ≡ map (feeds_to text) (range_with_len 0 (suc (length text))) = c.in_ok-feeds.ensures ∙ ap (λ t. map (feeds_to t) (range_with_len 0 (suc (length t)))) c.as_bytes.ensures.value in
    let v : vec_len c.in_ok-feeds.feeds ≡ length c.in_ok-feeds.feeds.items = search rules in
    let n = feeds_long text c.in_ok-feeds.feeds.items e in
    omega (arith, v, n)

pub overflow_add-result : goal.overflow_add-result
overflow_add-result c =
    let text = c.args.text.now in
    let e : c.in_ok-feeds.feeds.items ≡ map (feeds_to text) (range_with_len 0 (suc (length text))) = c.in_ok-feeds.ensures ∙ ap (λ t. map (feeds_to t) (range_with_len 0 (suc (length t)))) c.as_bytes.ensures.value in
    let few = few_feeds text c.in_ok-feeds.feeds.items e (length text) c.index-2.result.now c.index-2.result.now refl c.index-2.ensures in
    let small : length text + 1 < 2 ^ 64 = search rules in
    omega (arith, few.1, small)

pub returns : goal.returns
returns c =
    let text = c.args.text.now in
    let e : c.in_ok-feeds.feeds.items ≡ map (feeds_to text) (range_with_len 0 (suc (length text))) = c.in_ok-feeds.ensures ∙ ap (λ t. map (feeds_to t) (range_with_len 0 (suc (length t)))) c.as_bytes.ensures.value in
    let few = few_feeds text c.in_ok-feeds.feeds.items e (length text) c.index-2.result.now c.index-2.result.now refl c.index-2.ensures in
    let all : c.loop-place.place-index ≡ length c.args.places.now = search rules in
    let one : c.index-2.result.now + 1 ≡ 1 + feeds_to text (length text) = omega (arith, few.0) in
    record {
      places_are = c.loop-place.invariant ∙ ap (λ k. map (line_at text) (take k c.args.places.now)) all ∙ ap (map (line_at text)) (take-length c.args.places.now);
      count_is = one;
    }
