-- What a write to a sink does.
use Rattle.std.specs.Prelude.{◌≡◌, ◌++◌, ◌&&◌, ◌==◌, ℕ, List, length, take, Bool, true, false, not, Option, option_map, Result, Ok, Err}
use Rattle.isp_output.specs.declared.sink.SinkFault.{SinkFault}

-- the write failed, or took no byte of a slice that is not empty
abbrev pub refuses : Result ℕ SinkFault → List ℕ → Bool
refuses (Ok n) bytes = (n == 0) && not (length bytes == 0)
refuses (Err e) bytes = true

-- the bytes held, where they are told, and these after them
abbrev pub adds : List ℕ → Option (List ℕ) → Option (List ℕ)
adds bytes held = option_map (λ h. h ++ bytes) held

-- the bytes held, before and after: the prefix that was taken is added
abbrev pub Takes : Option (List ℕ) → Option (List ℕ) → Result ℕ SinkFault → List ℕ → Type 0
Takes old new (Ok n) bytes = new ≡ adds (take n bytes) old
Takes old new (Err e) bytes = new ≡ old

-- what a sink held, what it holds, and whether it has failed: it took all of the bytes
abbrev pub TookAll : List ℕ → Option (List ℕ) → Option (List ℕ) → Bool → Type 0
TookAll bytes old new failed = (new ≡ adds bytes old) × (failed ≡ false)

-- the first of them
abbrev pub TookFirst : List ℕ → Option (List ℕ) → Option (List ℕ) → Type 0
TookFirst bytes old new = (n : ℕ) × (new ≡ adds (take n bytes) old)

-- or it failed, and took the first of them
abbrev pub TookSome : List ℕ → Option (List ℕ) → Option (List ℕ) → Bool → Type 0
TookSome bytes old new failed = TookFirst bytes old new × (failed ≡ true)
