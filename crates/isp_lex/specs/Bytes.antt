-- Classes of bytes, by their ASCII codes.
use Rattle.std.specs.Prelude.{ℕ, Bool, true, false, ◌&&◌, ◌||◌, ◌==◌, not, List, [], ◌∷◌}
use Rattle.std.specs.Char.{is_ascii_alphabetic, is_ascii_alphanumeric}

-- space, tab, carriage return, line feed
abbrev pub is_blank : ℕ → Bool
is_blank byte = (byte == 32 || byte == 9) || (byte == 13 || byte == 10)

-- a letter or `_`
abbrev pub is_letter : ℕ → Bool
is_letter byte = is_ascii_alphabetic byte || byte == 95

-- a letter, a digit or `_`
abbrev pub is_word_byte : ℕ → Bool
is_word_byte byte = is_ascii_alphanumeric byte || byte == 95

-- any byte but a line feed
abbrev pub is_line_byte : ℕ → Bool
is_line_byte byte = not (byte == 10)

-- each byte passes the test
abbrev pub all : (ℕ → Bool) → List ℕ → Bool
all test [] = true
all test (byte ∷ bytes) = test byte && all test bytes

-- there is a first byte, and it passes the test
abbrev pub begins : (ℕ → Bool) → List ℕ → Bool
begins test [] = false
begins test (byte ∷ bytes) = test byte

-- this byte comes first
abbrev pub next_is : ℕ → List ℕ → Bool
next_is wanted bytes = begins (λ byte. byte == wanted) bytes
