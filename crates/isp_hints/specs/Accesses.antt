-- Which accesses of code are slow: its gathers and scatters, whose elements are read and written one by one.
use Rattle.std.specs.Prelude.{List, [], ◌∷◌, ◌++◌, Option, Some, None, slice_get}
use Rattle.std.specs.List.{filter_map}
use Rattle.isp_base.specs.declared.types.Span.{Span}
use Rattle.isp_code.specs.Listing.{Listing, Routine}
use Rattle.isp_code.specs.declared.instr.Instr.{Instr}
use Rattle.isp_code.specs.declared.instr.Instr.TheVariants as instr
use Rattle.isp_code.specs.declared.instr.VectorInstr.{VectorInstr}
use Rattle.isp_code.specs.declared.instr.VectorInstr.TheVariants as vector
use Rattle.isp_hints.specs.declared.hint.Hint.{Hint}
use Rattle.isp_hints.specs.declared.hint.Slow.{Slow}
use Rattle.isp_hints.specs.declared.hint.Slow.TheVariants.{Gathered, Scattered}

-- at a place that the code has
abbrev pub at : Slow → Option Span → Option Hint
at slow None = None
at slow (Some place) = Some (record { slow = slow; place = place })

-- one line for each kind of instruction
module _ (code : Listing) where
  abbrev pub vector_hint : VectorInstr → Option Hint
  vector_hint (vector.Gather a i k q) = at Gathered (slice_get code.places q)
  vector_hint i = None

  abbrev pub hint_of : Instr → Option Hint
  hint_of (instr.Vector d i) = vector_hint i
  hint_of (instr.Scatter a i y k q) = at Scattered (slice_get code.places q)
  hint_of i = None

  abbrev pub hints_in : List Instr → List Hint
  hints_in is = filter_map hint_of is

  abbrev pub all_hints : List Routine → List Hint
  all_hints [] = []
  all_hints (h ∷ hs) = hints_in h.code ++ all_hints hs

abbrev pub accesses_of : Listing → List Hint
accesses_of code = all_hints code code.routines
