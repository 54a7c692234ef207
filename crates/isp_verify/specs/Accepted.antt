-- What code has that is accepted, given of headers and of lines, and not of faults.
use Rattle.std.specs.Prelude.{◌≡◌, ℕ, take, Some, None, true, slice_get}
use Rattle.isp_code.specs.Fine.{AllFine, CallsFine}
use Rattle.isp_code.specs.Listing.{Listing, Routine}
use Rattle.isp_code.specs.Operands.{operands}
use Rattle.isp_code.specs.declared.instr.Instr.{Instr}
use Rattle.isp_verify.specs.Faults.{header_fits, stays, last, code_fault}

-- The header of each function fits, after those before it. Each of its instructions has its operands, there and of their
-- types, and fits what it calls; the last one is a jump or a return.
pub record IsFine (code : Listing) : Type 0 where
  pub headers : (f : ℕ) (h : Routine) → slice_get code.routines f ≡ Some h → header_fits (take f code.routines) h ≡ true
  pub lines : (f : ℕ) (h : Routine) → slice_get code.routines f ≡ Some h → (pc : ℕ) (i : Instr) → slice_get h.code pc ≡ Some i → AllFine code h (operands i) × CallsFine code h i
  pub ends : (f : ℕ) (h : Routine) → slice_get code.routines f ≡ Some h → stays (slice_get h.code (last h)) ≡ true

-- Such code has no fault.
abbrev pub FineIsAccepted : Type 0
FineIsAccepted = (code : Listing) → IsFine code → code_fault code ≡ None

-- And code without a fault is such code.
abbrev pub AcceptedIsFine : Type 0
AcceptedIsFine = (code : Listing) → code_fault code ≡ None → IsFine code
