-- Forms that no run of the code can tell, whichever function it begins with.
use Rattle.std.specs.Prelude.{◌≡◌, ℕ, List, Some, slice_get}
use Rattle.isp_base.specs.declared.signature.Argument.{Argument}
use Rattle.isp_code.specs.Listing.{Listing, Routine}
use Rattle.isp_code.specs.Machine.{first_conf}
use Rattle.isp_forms.specs.Runs.{Forms, AreHarmless}

-- Forms are harmless wherever a run of the code begins.
abbrev pub BeginHarmless : Listing → Forms → Type 0
BeginHarmless code forms = (f : ℕ) (h : Routine) (xs : List Argument) → slice_get code.routines f ≡ Some h → AreHarmless code forms (first_conf code f h xs)
