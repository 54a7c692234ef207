-- When code is what a text is.
--     IsCodeOf text code    the text is that of the code, and so of no other
--     IsLoaded              and the verifier finds no fault in the code
--     IsNotLoaded           why a text gives no code that can be run
use Rattle.std.specs.Prelude.{◌≡◌, ℕ, List, Some, None}
use Rattle.isp_asm.specs.Faults.{fault_of}
use Rattle.isp_asm.specs.Spelling.{text_of}
use Rattle.isp_code.specs.Listing.{Listing}
use Rattle.isp_code.specs.Writable.{IsWritable}
use Rattle.isp_verify.specs.Faults.{code_fault}
use Rattle.isp_runs.specs.declared.fault.CodeFault.{CodeFault}
use Rattle.isp_runs.specs.declared.fault.CodeFault.TheVariants.{Memory, Text, Code}

-- the code can be written, and this is its text: no two such codes have one text
pub record IsCodeOf (text : List ℕ) (code : Listing) : Type 0 where
  pub writable : IsWritable code
  pub is : text_of code ≡ text

-- the text is that of code in which the verifier finds no fault
pub record IsLoaded (text : List ℕ) (code : Listing) : Type 0 where
  pub of : IsCodeOf text code
  pub fine : code_fault code ≡ None

-- the text is that of no code, for its first fault; or the verifier finds this fault first in the code of the text
abbrev pub IsNotLoaded : List ℕ → CodeFault → Type 0
IsNotLoaded text Memory = ⊥
IsNotLoaded text (Text f) = fault_of text ≡ Some f
IsNotLoaded text (Code f) = (code : Listing) × IsCodeOf text code × (code_fault code ≡ Some f)
