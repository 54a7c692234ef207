-- Whether a line ends after a byte, and what is left of a text.
use Rattle.std.proofs.Common.{◌≡◌, ◌≤◌, ◌<◌, ◌+◌, ◌-◌, ◌*◌, ℕ, Bool, List, [], ◌∷◌, true, false, zero, suc, not, length, take, drop, get_or, refl, ap, sym, ◌∙◌, arith}
use Rattle.std.specs.List.{suffix_len, sum_by}
use Rattle.std.proofs.lemmas.List.Sums.{suffix_len_is}
use Rattle.std.proofs.lemmas.List.{drop_all, drop_more, get_or-take}
use Rattle.std.proofs.lemmas.Grind.{common_steps}
use native.Mathlib.Numerals.{unary_clauses}
use Rattle.isp_positions.specs.Positions.{ends_line, line_ends, line_start, start_of_line, units_of}

pub ends_long : (text : List ℕ) → length (line_ends text) ≡ length text
ends_long [] = refl
ends_long (b ∷ rest) = ap suc (ends_long rest)

by_next : (text : List ℕ) (at : ℕ) → at < length text → get_or (line_ends text) at false ≡ ends_line (get_or text at 0) (get_or text (suc at) 0)
by_next [] at inside = absurd (omega (arith, inside))
by_next (b ∷ rest) zero inside = refl
by_next (b ∷ rest) (suc at) inside = by_next rest at (omega (arith, inside))

pub ends_at : (text : List ℕ) (at : ℕ) → at < length text → get_or (line_ends text) at false ≡ ends_line (get_or text at 0) (get_or text (at + 1) 0)
ends_at text at inside = simp unary_clauses (by_next text at inside)

-- ---- the lines that are left behind a byte

pub line_ends_here : (ends : List Bool) (at left : ℕ) → at < length ends → 0 < left → get_or ends at false ≡ true → start_of_line left (drop at ends) ≡ 1 + start_of_line (left - 1) (drop (at + 1) ends)
line_ends_here ends at zero inside some is = absurd (omega (arith, some))
line_ends_here ends at (suc left) inside some is =
    let one : suc left - 1 ≡ left = omega arith in
    rw (drop_more ends at false inside, is, one) refl

pub line_goes_on : (ends : List Bool) (at left : ℕ) → at < length ends → 0 < left → get_or ends at false ≡ false → start_of_line left (drop at ends) ≡ 1 + start_of_line left (drop (at + 1) ends)
line_goes_on ends at zero inside some is = absurd (omega (arith, some))
line_goes_on ends at (suc left) inside some is = rw (drop_more ends at false inside, is) refl

pub text_ends : (ends : List Bool) (at left : ℕ) → length ends ≤ at → 0 ≡ start_of_line left (drop at ends)
text_ends ends at zero past = refl
text_ends ends at (suc left) past = rw (drop_all at ends past) refl

-- ---- units

-- a byte has two units at most
unit_few : (b : ℕ) → units_of b ≤ 2
unit_few b = grind (arith, common_steps)

pub units_few : (bytes : List ℕ) → sum_by units_of bytes ≤ 2 * length bytes
units_few [] = omega arith
units_few (b ∷ rest) = grind (arith, common_steps, unit_few b, units_few rest)

module _ (text : List ℕ) (at start : ℕ) (short : at ≤ length text) (low : start ≤ at) where
  pub start_is : ((k : ℕ) → start ≤ k → k < at → get_or (line_ends text) k false ≡ false)
      → (0 < start → get_or (line_ends text) (start - 1) false ≡ true) → start ≡ line_start text at
  start_is none end =
      let long : length (take at (line_ends text)) ≡ at = grind (arith, common_steps, short, ends_long text) in
      let all : suffix_len not (take at (line_ends text)) ≡ length (take at (line_ends text)) - start =
      suffix_len_is not (take at (line_ends text)) start false (omega (arith, long, low))
      (λ k past within. let inside : k < at = omega (arith, within, long) in ap not (get_or-take at (line_ends text) k false inside ∙ none k past inside))
      (λ some. let inside : start - 1 < at = omega (arith, some, low) in ap not (get_or-take at (line_ends text) (start - 1) false inside ∙ end some)) in
      omega (arith, all, long, low)
