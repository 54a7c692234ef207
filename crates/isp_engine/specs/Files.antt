-- What reading a file answers.
use Rattle.std.specs.Prelude.{ℕ, List, Option, Some, None, Result, Ok, Err, String, string_bytes}
use Rattle.std.specs.declared.alloc.Global.{Global}
use Rattle.isp_engine.specs.declared.files.FileFault.{FileFault}
use Rattle.isp_engine.specs.declared.files.FileFault.TheVariants.{CannotRead, Memory}

-- a text that may be found there, or that nothing can be read where that may be; or memory was refused
abbrev pub Found : (Option (List ℕ) → Type 0) → Result (String Global) FileFault → Type 0
Found holds (Ok s) = holds (Some (string_bytes s))
Found holds (Err CannotRead) = holds None
Found holds (Err Memory) = Unit {0}
