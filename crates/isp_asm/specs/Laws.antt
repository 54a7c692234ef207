-- Laws of code text.
use Rattle.std.specs.Prelude.{◌≡◌, None}
use Rattle.isp_code.specs.Listing.{Listing}
use Rattle.isp_code.specs.Writable.{IsWritable}
use Rattle.isp_asm.specs.Faults.{fault_of}
use Rattle.isp_asm.specs.Spelling.{text_of}

-- no two codes have one text
abbrev pub OneText : Type 0
OneText = (c d : Listing) → IsWritable c → IsWritable d → text_of c ≡ text_of d → c ≡ d

-- the text of code has no fault
abbrev pub Faultless : Type 0
Faultless = (c : Listing) → IsWritable c → fault_of (text_of c) ≡ None
