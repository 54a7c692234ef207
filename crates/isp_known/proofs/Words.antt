-- Where the word around a byte begins and ends.
use Rattle.std.proofs.Common.{◌≡◌, ℕ, ◌+◌, ◌-◌, ◌<◌, ◌≤◌, true, false, List, length, take, drop, get_or, ap, ◌∙◌, length-drop, get_or-take, get_or-drop, arith}
use Rattle.std.specs.List.{prefix_len, suffix_len}
use Rattle.std.proofs.lemmas.Grind.{common_steps}
use Rattle.std.proofs.lemmas.List.Sums.{prefix_len_is, suffix_len_is}
use Rattle.isp_lex.specs.Bytes.{is_word_byte}

module _ (text : List ℕ) (at start : ℕ) (short : at ≤ length text) (low : start ≤ at) where
  pub start_is : ((k : ℕ) → start ≤ k → k < at → is_word_byte (get_or text k 0) ≡ true)
      → (0 < start → is_word_byte (get_or text (start - 1) 0) ≡ false) → start ≡ at - suffix_len is_word_byte (take at text)
  start_is all end =
      let long : length (take at text) ≡ at = grind (arith, common_steps, short) in
      let e : suffix_len is_word_byte (take at text) ≡ length (take at text) - start =
      suffix_len_is is_word_byte (take at text) start 0 (omega (arith, long, low))
      (λ k past within. let inside : k < at = omega (arith, within, long) in ap is_word_byte (get_or-take at text k 0 inside) ∙ all k past inside)
      (λ some. let inside : start - 1 < at = omega (arith, some, low) in ap is_word_byte (get_or-take at text (start - 1) 0 inside) ∙ end some) in
      omega (arith, e, long, low)

module _ (text : List ℕ) (at end : ℕ) (low : at ≤ end) (high : end ≤ length text) where
  pub end_is : ((k : ℕ) → at ≤ k → k < end → is_word_byte (get_or text k 0) ≡ true)
      → (end < length text → is_word_byte (get_or text end 0) ≡ false) → end ≡ at + prefix_len is_word_byte (drop at text)
  end_is all stop =
      let long : length (drop at text) ≡ length text - at = length-drop at text in
      let sum : at + (end - at) ≡ end = omega (arith, low) in
      let e : prefix_len is_word_byte (drop at text) ≡ end - at =
      prefix_len_is is_word_byte (drop at text) (end - at) 0 (omega (arith, long, low, high))
      (λ k within. ap is_word_byte (get_or-drop at text k 0) ∙ all (at + k) (omega arith) (omega (arith, within, low)))
      (λ more. ap is_word_byte (get_or-drop at text (end - at) 0) ∙ (ap (λ (n : ℕ). is_word_byte (get_or text n 0)) sum ∙ stop (omega (arith, more, long)))) in
      omega (arith, e, low)
