-- What went out of a line that is told once, and never again.
use Rattle.std.specs.Prelude.{◌⊎◌, ℕ, List, Bool, Option, Result, Ok, Err, ⊤}
use Rattle.isp_output.specs.Sinks.{TookAll, TookSome}
use Rattle.isp_output.specs.declared.sink.SinkFault.{SinkFault}

-- a writer that stops at the first fault: all of the bytes where it answers no fault, else the first of them
abbrev pub Wrote : List ℕ → Option (List ℕ) → Option (List ℕ) → Bool → Result ⊤ SinkFault → Type 0
Wrote bytes old new failed (Ok u) = TookAll bytes old new failed
Wrote bytes old new failed (Err e) = TookSome bytes old new failed

-- all of the bytes, or the first of them where the sink has failed
abbrev pub Told : List ℕ → Option (List ℕ) → Option (List ℕ) → Bool → Type 0
Told bytes old new failed = TookAll bytes old new failed ⊎ TookSome bytes old new failed
