-- What the bits of a bool say.
use Rattle.std.specs.Prelude.{ℕ, ◌==◌, Bool, not}

abbrev pub is_true : ℕ → Bool
is_true bits = not (bits == 0)
