-- What a text gives, in the words of isp_engine, and the page of code.
--     GivesCode, GivesNone    the code that a text gives, or why it gives none
--     IsCPage                 the C file of code, or its prototypes
use Rattle.std.specs.Prelude.{◌≡◌, ℕ, List, Bool, true, false, Option, Some, None}
use Rattle.isp_base.specs.declared.types.Gang.{Gang}
use Rattle.isp_code.specs.Listing.{Listing}
use Rattle.isp_native.specs.Text.{IsCText, header_text}
use Rattle.isp_engine.specs.declared.failure.Failure.{Failure}
use Rattle.isp_engine.specs.declared.failure.Failure.TheVariants.{Source, Code, Memory}
use Rattle.isp_front.specs.Front.{IsFaulty}
use Rattle.isp_runs.specs.Compilation.{IsCompilation}
use Rattle.isp_runs.specs.Loading.{IsLoaded, IsNotLoaded}

-- of a source for a gang what it is compiled to, or where there is no gang the code whose text it is
abbrev pub GivesCode : Option Gang → List ℕ → Listing → Type 0
GivesCode (Some gang) text code = IsCompilation gang text code
GivesCode None text code = IsLoaded text code

abbrev pub GivesNone : Option Gang → List ℕ → Failure → Type 0
GivesNone gang text Memory = Unit {0}
GivesNone (Some gang) text (Source f) = IsFaulty gang text f
GivesNone None text (Code f) = IsNotLoaded text f
GivesNone gang text f = ⊥

-- prototypes, or the whole file
abbrev pub IsCPage : Bool → Listing → List ℕ → Type 0
IsCPage true code page = page ≡ header_text code
IsCPage false code page = IsCText code page
