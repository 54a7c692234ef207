-- A line in the room that a report has for it.
use Rattle.std.specs.Prelude.{ℕ, ◌-◌, List, ◌++◌, length, replicate, take, Bool}

-- what was written of a line, and whether there was more
pub record Written : Type 0 where
  pub text : List ℕ
  pub failed : Bool

-- a text in a room for 128 bytes, with zeros after it
abbrev pub padded : List ℕ → List ℕ
padded text = text ++ replicate (128 - length text) 0

-- a line in a report: 127 bytes of it at most, so that a zero stands after them
abbrev pub line_bytes : List ℕ → List ℕ
line_bytes line = padded (take 127 line)
