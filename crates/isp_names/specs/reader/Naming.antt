-- The refusals that a new name gets by itself. `P` is why it is no name.
use Rattle.std.specs.Prelude.{◌≢◌, ℕ, List, None}
use Rattle.isp_exprs.specs.Callees.{library_named}
use Rattle.isp_names.specs.declared.fault.RenameFault.{RenameFault}
use Rattle.isp_names.specs.declared.fault.RenameFault.TheVariants.{Memory, NoProgram, NoName, NotAName, OfLibrary, Clash, Captured}

abbrev pub RefusesBy : Type 0 → List ℕ → RenameFault → Type 0
RefusesBy P name Memory = Unit {0}
RefusesBy P name (NoProgram f) = ⊥
RefusesBy P name NoName = ⊥
RefusesBy P name NotAName = P
RefusesBy P name OfLibrary = library_named name ≢ None
RefusesBy P name (Clash f) = ⊥
RefusesBy P name Captured = ⊥
