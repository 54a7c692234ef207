-- Where a byte of a text stands, as an editor counts it.
--     line_of text at, column_of text at     line and column of the byte at a place, from 1, the column in characters
--     line_start, line_end                   where its line begins, and where it ends
--     marks_of text start end                what is shown below the line of a span: carets below its characters
use Rattle.std.specs.Prelude.{ℕ, ◌+◌, ◌-◌, ◌==◌, ◌||◌, ◌&&◌, List, ◌++◌, Bool, not, nat_lt, take, drop, filter, map, min, max, replicate, slice_range, if◌then◌else◌}
use Rattle.std.specs.List.{count_by, position_or_len, suffix_len}

abbrev pub is_feed : ℕ → Bool
is_feed b = b == 10

-- a carriage return or a line feed
abbrev pub ends_line : ℕ → Bool
ends_line b = (b == 13) || (b == 10)

-- the first byte of a character of UTF-8
abbrev pub begins_char : ℕ → Bool
begins_char b = nat_lt b 128 || not (nat_lt b 192)

-- after the last line feed before the place
abbrev pub line_start : List ℕ → ℕ → ℕ
line_start text at = at - suffix_len (λ b. not (is_feed b)) (take at text)

-- before the first carriage return or line feed from the place on
abbrev pub line_end : List ℕ → ℕ → ℕ
line_end text at = at + position_or_len ends_line (drop at text)

-- 1 and the line feeds before the place
abbrev pub line_of : List ℕ → ℕ → ℕ
line_of text at = 1 + count_by is_feed (take at text)

-- 1 and the characters before the place in its line
abbrev pub column_of : List ℕ → ℕ → ℕ
column_of text at = 1 + count_by begins_char (slice_range text (line_start text at) at)

-- ---- carets

-- what stands below a character before them, by its first byte: a tab below a tab, else a blank
abbrev pub under : ℕ → ℕ
under b = if b == 9 then 9 else 32

-- where a span ends in the line in which it begins
abbrev pub span_end : List ℕ → ℕ → ℕ → ℕ
span_end text start end = max start (min end (line_end text start))

abbrev pub blanks_of : List ℕ → List ℕ
blanks_of bytes = map under (filter begins_char bytes)

-- a caret for each character of the span, and one for an empty span
abbrev pub carets_of : List ℕ → List ℕ
carets_of bytes = replicate (max 1 (count_by begins_char bytes)) 94

abbrev pub marks_of : List ℕ → ℕ → ℕ → List ℕ
marks_of text start end = blanks_of (slice_range text (line_start text start) start) ++ carets_of (slice_range text start (span_end text start end))
