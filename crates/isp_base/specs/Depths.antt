-- How deep calls go.
use Rattle.std.specs.Prelude.{ℕ}

-- how many calls may run, one in the other
abbrev pub most_calls : ℕ
most_calls = 256
