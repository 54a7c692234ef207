-- What an engine does not take of a function: https://webassembly.github.io/spec/js-api/#limits.
use Rattle.std.specs.Prelude.{◌≡◌, ℕ, ◌+◌, ◌^◌, length, Option, Some, None, if◌then◌else◌, nat_lt}
use Rattle.isp_code.specs.Listing.{Routine}
use Rattle.isp_wasm.specs.Locals.{own_places}
use Rattle.isp_wasm_write.specs.Settings.{given_places}
use Rattle.isp_wasm_write.specs.declared.kernel.Caller.{Caller}
use Rattle.isp_wasm_write.specs.declared.refusal.Refusal.{Refusal}
use Rattle.isp_wasm_write.specs.declared.refusal.Refusal.TheVariants.{Memory, NoLocal, TooManyParameters, TooManyLocals, TooLong}

-- More than 1,000 parameters, or more than 50,000 locals with them. The number of an instruction has 32 bits.
abbrev pub limit_fault : Caller → ℕ → Routine → Option Refusal
limit_fault c lanes h =
    if nat_lt 1000 (length (given_places c lanes h)) then Some TooManyParameters
    else (if nat_lt 50000 (length (given_places c lanes h) + length (own_places lanes h)) then Some TooManyLocals
    else (if nat_lt (length h.code) (2 ^ 32) then None else Some TooLong))

-- why it is refused, or that it fits, and something else is refused
abbrev pub explains : Refusal → Option Refusal → Type 0
explains Memory f = f ≡ None
explains NoLocal f = f ≡ None
explains e f = f ≡ Some e
