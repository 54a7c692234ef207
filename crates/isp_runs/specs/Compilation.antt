-- When code is what a text means.
use Rattle.std.specs.Prelude.{ℕ, List}
use Rattle.isp_base.specs.declared.types.Gang.{Gang}
use Rattle.isp_code.specs.Listing.{Listing}
use Rattle.isp_typed.specs.Typed.{Program}
use Rattle.isp_masks_code.specs.Agreement.{Agrees}
use Rattle.isp_rates.specs.Accepted.{IsAccepted}
use Rattle.isp_front.specs.Front.{IsSource}

-- the text is the source of a program that is accepted, and the code agrees with it
pub record IsCompilation (gang : Gang) (text : List ℕ) (code : Listing) : Type 0 where
  pub program : Program
  pub source : IsSource gang text program
  pub accepted : IsAccepted program
  pub agrees : Agrees program code
