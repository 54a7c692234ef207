-- The line that says why there is no file.
use Rattle.std.specs.Prelude.{ℕ, List, [], ◌∷◌, ◌++◌, codes, slice_get}
use Rattle.std.specs.Option.{option_map_or}
use Rattle.isp_code.specs.Listing.{Listing, Routine}
use Rattle.isp_wasm_module.specs.declared.refusal.Refusal.{Refusal}
use Rattle.isp_wasm_module.specs.declared.refusal.Refusal.TheVariants.{Memory, NoLocal, TooLong, NotCovered, TooManyParameters, TooManyLocals}

-- what is wrong, and what to write instead
abbrev pub reason_text : Refusal → List ℕ
reason_text Memory = codes "memory was refused."
reason_text NoLocal = codes "a register has no local. Fix: none, for this is a fault of isp: report it."
reason_text TooLong = codes "a part of it would have 4 GB. Fix: put the functions into several files."
reason_text (NotCovered f) =
    codes "4 GB of local arrays, in it or, where it calls one, in any function; or of texts. Fix: smaller arrays, or fewer."
reason_text (TooManyParameters f) = codes "more than 1,000 parameters, of which an array is two. Fix: put values into an array."
reason_text (TooManyLocals f) = codes "more than 50,000 locals. Fix: take a smaller gang, or make a function of a part."

-- the name of a function, by its number
abbrev pub name_at : Listing → ℕ → List ℕ
name_at code f = option_map_or (λ (h : Routine). h.name) (slice_get code.routines f) []

-- the function that it is of, if it is of one
abbrev pub place_text : Listing → Refusal → List ℕ
place_text code (NotCovered f) = name_at code f ++ codes ": "
place_text code (TooManyParameters f) = name_at code f ++ codes ": "
place_text code (TooManyLocals f) = name_at code f ++ codes ": "
place_text code r = []

abbrev pub refusal_line : Listing → Refusal → List ℕ
refusal_line code r = codes "isp: no module: " ++ (place_text code r ++ (reason_text r ++ 10 ∷ []))
