-- The refusals that a text gets by itself: as it is, and with the new name.
use Rattle.isp_lex.specs.declared.fault.Fault.{Fault}
use Rattle.isp_names.specs.declared.fault.RenameFault.{RenameFault}
use Rattle.isp_names.specs.declared.fault.RenameFault.TheVariants.{Memory, NoProgram, NoName, NotAName, OfLibrary, Clash, Captured}

abbrev pub OnlyNoProgram : (Fault → Type 0) → RenameFault → Type 0
OnlyNoProgram P Memory = Unit {0}
OnlyNoProgram P (NoProgram f) = P f
OnlyNoProgram P NoName = ⊥
OnlyNoProgram P NotAName = ⊥
OnlyNoProgram P OfLibrary = ⊥
OnlyNoProgram P (Clash f) = ⊥
OnlyNoProgram P Captured = ⊥

abbrev pub OnlyClash : (Fault → Type 0) → RenameFault → Type 0
OnlyClash P Memory = Unit {0}
OnlyClash P (NoProgram f) = ⊥
OnlyClash P NoName = ⊥
OnlyClash P NotAName = ⊥
OnlyClash P OfLibrary = ⊥
OnlyClash P (Clash f) = P f
OnlyClash P Captured = Unit {0}
