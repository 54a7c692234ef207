-- Where a line begins.
use Rattle.std.proofs.Common.{◌≡◌, ◌≤◌, ◌<◌, ◌-◌, ℕ, List, true, false, not, length, take, get_or, slice_index, ap, sym, ◌∙◌, arith, rules}
use Rattle.std.specs.List.{suffix_len}
use Rattle.std.proofs.lemmas.List.Sums.{suffix_len_is}
use Rattle.std.proofs.lemmas.Grind.{common_steps}
use Rattle.isp_places.specs.Lines.{is_feed, line_start}

module _ (text : List ℕ) (at start : ℕ) (short : at ≤ length text) (low : start ≤ at) where
  long : length (take at text) ≡ at
  long = grind (arith, common_steps)

  front : (k : ℕ) → k < at → get_or (take at text) k 0 ≡ get_or text k 0
  front k within = grind (arith, common_steps)

  pub start_is : ((k : ℕ) → start ≤ k → k < at → is_feed (slice_index text k) ≡ false)
      → (0 < start → is_feed (slice_index text (start - 1)) ≡ true) → start ≡ line_start text at
  start_is none feed =
      let all : suffix_len (λ b. not (is_feed b)) (take at text) ≡ length (take at text) - start =
      suffix_len_is (λ b. not (is_feed b)) (take at text) start 0 (omega (arith, long, low))
      (λ k past within. let inside : k < at = omega (arith, within, long) in ap (λ z. not (is_feed z)) (front k inside) ∙ ap not (none k past inside))
      (λ some. let inside : start - 1 < at = omega (arith, some, low) in ap (λ z. not (is_feed z)) (front (start - 1) inside) ∙ ap not (feed some)) in
      omega (arith, all, long, low)
