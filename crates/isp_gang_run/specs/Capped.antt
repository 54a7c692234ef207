-- How work is counted: exactly, up to the most that 64 bits count, where it stays.
use Rattle.std.specs.Prelude.{ℕ, min}

abbrev pub capped : ℕ → ℕ
capped n = min n 18446744073709551615
