-- What reading a file of bytes answers.
use Rattle.std.proofs.Common.{Vec, Global}
use Rattle.std.specs.Prelude.{ℕ, List, Option, Some, None, Result, Ok, Err}
use Rattle.isp_run_words.specs.declared.files.DataFault.{DataFault}
use Rattle.isp_run_words.specs.declared.files.DataFault.TheVariants.{CannotRead, Memory}

-- bytes that may be found there, or that nothing can be read where that may be; or memory was refused
abbrev pub Found : (Option (List ℕ) → Type 0) → Result (Vec ℕ Global) DataFault → Type 0
Found has (Ok bytes) = has (Some bytes.items)
Found has (Err CannotRead) = has None
Found has (Err Memory) = Unit {0}
