-- A place of a text stands between two of its characters.
use Rattle.std.proofs.Common.{◌≡◌, ◌≤◌, ◌<◌, ◌+◌, ◌-◌, ℕ, zero, suc, Bool, true, false, List, [], ◌∷◌, length, drop, refl, ap, cond, arith, inl, inr}
use Rattle.std.specs.Str.{IsCharBoundary}
use Rattle.std.proofs.lemmas.Bool.{cases_lt}
use Rattle.std.proofs.lemmas.Bool.Decides.{nat_tests}
use Rattle.std.proofs.lemmas.Str.{IsCharBoundary-from_rest}
use Rattle.isp_positions.specs.Positions.{goes_on, line_ends, offset_of, start_of_line, units_of, within}

goes_on_inside : (left b : ℕ) → 128 ≤ b → b < 192 → goes_on left b ≡ true
goes_on_inside left b past inside = grind (arith, nat_tests)

-- a byte at which the count of units stops is the first of its character
stops_at_first : (left b : ℕ) → goes_on left b ≡ false → 128 ≤ b → 192 ≤ b
stops_at_first left b h past = elim (cases_lt b 192) [ inl inside ↦ cc (goes_on_inside left b past inside) | inr e ↦ e ]

cut_by : (test : Bool) (left b : ℕ) (rest : List ℕ) → goes_on left b ≡ test → IsCharBoundary rest (within (left - units_of b) rest)
    → IsCharBoundary (b ∷ rest) (cond test (1 + within (left - units_of b) rest) 0)
cut_by true left b rest e h = IsCharBoundary-from_rest (b ∷ rest) 1 (within (left - units_of b) rest) (omega arith) h
cut_by false left b rest e h = (omega arith, λ below past. stops_at_first left b e past)

within_cut : (left : ℕ) (rest : List ℕ) → IsCharBoundary rest (within left rest)
within_cut left [] = (omega arith, λ below past. absurd (omega arith))
within_cut left (b ∷ rest) = cut_by (goes_on left b) left b rest refl (within_cut (left - units_of b) rest)

ends_length : (text : List ℕ) → length (line_ends text) ≡ length text
ends_length [] = refl
ends_length (b ∷ rest) = ap suc (ends_length rest)

start_short : (n : ℕ) (ends : List Bool) → start_of_line n ends ≤ length ends
start_short zero ends = omega arith
start_short (suc n) [] = omega arith
start_short (suc n) (true ∷ ends) = omega (arith, start_short n ends)
start_short (suc n) (false ∷ ends) = omega (arith, start_short (suc n) ends)

pub offset_cut : (text : List ℕ) (line character : ℕ) → IsCharBoundary text (offset_of text line character)
offset_cut text line character =
    let start : ℕ = start_of_line line (line_ends text) in
    let short : start ≤ length text = omega (arith, start_short line (line_ends text), ends_length text) in
    IsCharBoundary-from_rest text start (within character (drop start text)) short (within_cut character (drop start text))
