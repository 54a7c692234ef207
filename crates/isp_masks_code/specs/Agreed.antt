-- What is promised of the code of a program that names, types and rates accept: it agrees with the program, and the verifier
-- accepts it.
use Rattle.std.specs.Prelude.{◌≡◌, None}
use Rattle.isp_code.specs.Listing.{Listing}
use Rattle.isp_rates.specs.Accepted.{IsAccepted}
use Rattle.isp_typed.specs.Typed.{Program}
use Rattle.isp_verify.specs.Faults.{code_fault}
use Rattle.isp_masks_code.specs.Agreement.{Agrees}
use Rattle.isp_masks_code.specs.Lowered.{HasCode}

pub record LoweredAgrees : Type 0 where
  pub agrees : (program : Program) (code : Listing) → IsAccepted program → HasCode program code → Agrees program code
  pub accepted : (program : Program) (code : Listing) → IsAccepted program → HasCode program code → code_fault code ≡ None
