use Rattle.std.proofs.Common.{Vec, Global, ℕ, ◌≡◌, ◌<◌, length, map, take, true, sym, ap, ◌∙◌, arith, length-append}
use Rattle.std.proofs.lemmas.List.{length-map, length-take-le}
use Rattle.std.proofs.lemmas.List.Folds.{list_all-map}
use Rattle.isp_code.specs.Listing.{Listing}
use Rattle.isp_code.specs.Writable.{has_byte}
use Rattle.isp_lower_code.proofs.Lemmas.{all_at, no_room}
use Rattle.isp_lower.proofs.listing.add_texts.Goals as goal

pub unreachable-requires : goal.unreachable-requires
unreachable-requires c =
    let texts = c.args.texts.now in
    let i = c.loop-text.text-index in
    let there = c.loop-text-test.true in
    let some : has_byte c.text-item.result.items ≡ true = ap (λ t. has_byte t.items) c.text-item.is ∙ all_at (λ t. has_byte t.items) texts i c.text-item.result (sym (list_all-map has_byte (λ t. t.items) texts) ∙ c.requires.fit) there in
    let added = ap (λ (l : Listing). length l.texts) c.loop-text.invariant ∙ length-append c.args.code.now.texts (map (λ t. t.items) (take i texts)) in
    let so_many = length-map (take i texts) (λ (t : Vec ℕ Global). t.items) ∙ length-take-le i texts (omega (arith, there)) in
    let few : length c.loop-text.code.texts < 4294967296 = omega (arith, added, so_many, there, c.requires.few) in
    no_room c.loop-text.code.texts (has_byte c.as_slice.result.now) few (ap has_byte c.as_slice.ensures.value ∙ some) (c.in-Err-OverLimit.ensures.typed c.in-Err-OverLimit.field-0-is)
