-- Where a byte of a text stands, as the language server protocol counts it, and which byte stands at such a place.
--     line_of text at, character_of text at     its line, and the units of UTF-16 before it there, both from 0
--     line_start text at                        where its line begins
--     offset_of text line character             the byte there, or the end of the line, or of the text, where the place is past it
use Rattle.std.specs.Prelude.{ℕ, ◌+◌, ◌-◌, ◌==◌, ◌||◌, ◌&&◌, List, [], ◌∷◌, Bool, true, false, not, nat_lt, take, drop, get_or, slice_range, zero, suc, if◌then◌else◌}
use Rattle.std.specs.List.{count_by, suffix_len, sum_by}

-- a line ends after a line feed, and after a carriage return that no line feed follows
abbrev pub ends_line : ℕ → ℕ → Bool
ends_line b next = (b == 10) || ((b == 13) && not (next == 10))

-- for each byte, whether a line ends after it
abbrev pub line_ends : List ℕ → List Bool
line_ends [] = []
line_ends (b ∷ rest) = ends_line b (get_or rest 0 0) ∷ line_ends rest

abbrev pub line_of : List ℕ → ℕ → ℕ
line_of text at = count_by (λ ends. ends) (take at (line_ends text))

abbrev pub line_start : List ℕ → ℕ → ℕ
line_start text at = at - suffix_len not (take at (line_ends text))

-- the units of UTF-16 that a byte of UTF-8 stands for: those of its character at the first byte, none at the others
abbrev pub units_of : ℕ → ℕ
units_of b = if nat_lt b 128 then 1 else if nat_lt b 192 then 0 else if nat_lt b 240 then 1 else 2

abbrev pub units : List ℕ → ℕ
units bytes = sum_by units_of bytes

abbrev pub character_of : List ℕ → ℕ → ℕ
character_of text at = units (slice_range text (line_start text at) at)

-- ---- from a place to a byte

-- where a line begins: after so many line ends, or at the end of the text
abbrev pub start_of_line : ℕ → List Bool → ℕ
start_of_line zero ends = 0
start_of_line (suc n) [] = 0
start_of_line (suc n) (true ∷ ends) = 1 + start_of_line n ends
start_of_line (suc n) (false ∷ ends) = 1 + start_of_line (suc n) ends

-- a byte of the line's text that has no more units than are left
abbrev pub goes_on : ℕ → ℕ → Bool
goes_on left b = not ((b == 10) || (b == 13) || nat_lt left (units_of b))

-- how many bytes before the end of their line have so many units, whole characters alone
abbrev pub within : ℕ → List ℕ → ℕ
within left [] = 0
within left (b ∷ rest) = if goes_on left b then 1 + within (left - units_of b) rest else 0

abbrev pub offset_of : List ℕ → ℕ → ℕ → ℕ
offset_of text line character = let start = start_of_line line (line_ends text) in start + within character (drop start text)
