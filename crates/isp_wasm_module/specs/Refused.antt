-- Why no module is made of code: the first function that is not covered, or that an engine does not take.
use Rattle.std.specs.Prelude.{◌≡◌, ℕ, suc, List, [], ◌∷◌, Option, Some, None, ◌&&◌, if◌then◌else◌}
use Rattle.isp_base.specs.Types.{gang_width}
use Rattle.isp_code.specs.Listing.{Listing, Routine}
use Rattle.isp_wasm.specs.Module.{is_covered, is_called, all_plain}
use Rattle.isp_wasm_write.specs.Limits.{limit_fault}
use Rattle.isp_wasm_write.specs.declared.kernel.Caller.TheVariants.{Host, Function}
use Rattle.isp_wasm_write.specs.declared.refusal.Refusal.{Refusal as Limit}
use Rattle.isp_wasm_write.specs.declared.refusal.Refusal.TheVariants as limits
use Rattle.isp_wasm_module.specs.declared.refusal.Refusal.{Refusal}
use Rattle.isp_wasm_module.specs.declared.refusal.Refusal.TheVariants.{Memory, NoLocal, TooLong, NotCovered, TooManyParameters, TooManyLocals}

-- what an engine does not take of function f
abbrev pub named : ℕ → Option Limit → Option Refusal
named f (Some limits.TooManyParameters) = Some (TooManyParameters f)
named f (Some limits.TooManyLocals) = Some (TooManyLocals f)
named f r = None

abbrev pub or_later : Option Refusal → Option Refusal → Option Refusal
or_later (Some r) later = Some r
or_later None later = later

module _ (code : Listing) where
  -- of the function that a host calls
  abbrev pub exported_refusal : ℕ → Routine → Option Refusal
  exported_refusal f h =
      if h.exported then (if is_covered code h then named f (limit_fault Host (gang_width code.gang) h) else Some (NotCovered f)) else None

  -- of the one that other functions call
  abbrev pub inner_refusal : ℕ → Routine → Option Refusal
  inner_refusal f h = if is_called code f && all_plain code then named f (limit_fault Function (gang_width code.gang) h) else None

  abbrev pub function_refusal : ℕ → Routine → Option Refusal
  function_refusal f h = or_later (exported_refusal f h) (inner_refusal f h)

  -- of functions from number f on
  abbrev pub first_refusal : ℕ → List Routine → Option Refusal
  first_refusal f [] = None
  first_refusal f (h ∷ hs) = or_later (function_refusal f h) (first_refusal (suc f) hs)

  abbrev pub module_refusal : Option Refusal
  module_refusal = first_refusal 0 code.routines

-- a refusal is that of the code, or there is none and something else is refused
abbrev pub explains : Refusal → Option Refusal → Type 0
explains Memory f = f ≡ None
explains NoLocal f = f ≡ None
explains TooLong f = f ≡ None
explains r f = f ≡ Some r
