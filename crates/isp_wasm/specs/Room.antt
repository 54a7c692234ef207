-- How many bytes are enough for the arrays that a function opens, and those that it calls.
use Rattle.std.specs.Prelude.{◌≡◌, ℕ, ◌*◌, ◌≤◌, List, [], ◌∷◌, Some, if◌then◌else◌, nat_lt, slice_get}
use Rattle.isp_base.specs.Depths.{most_calls}
use Rattle.isp_base.specs.Types.{gang_width}
use Rattle.isp_base.specs.declared.signature.Argument.{Argument}
use Rattle.isp_code.specs.Conf as machine
use Rattle.isp_code.specs.Conf.{Conf}
use Rattle.isp_code.specs.Listing.{Listing, Routine}
use Rattle.isp_code.specs.Machine.{after, first_conf}
use Rattle.isp_wasm.specs.Stack.{has_call, bytes_in, open_bytes}

-- those of the function that opens most
abbrev pub widest_bytes : ℕ → List Routine → ℕ
widest_bytes lanes [] = 0
widest_bytes lanes (h ∷ hs) = if nat_lt (bytes_in lanes h.locals) (widest_bytes lanes hs) then widest_bytes lanes hs else bytes_in lanes h.locals

-- a function that calls none has its own alone; else as many calls may run as may at once
abbrev pub enough_bytes : Listing → Routine → ℕ
enough_bytes code h =
    if has_call h then most_calls * widest_bytes (gang_width code.gang) code.routines else bytes_in (gang_width code.gang) h.locals

-- at each step of a run
abbrev pub RoomIsEnough : Type 0
RoomIsEnough =
    (code : Listing) (f : ℕ) (h : Routine) → slice_get code.routines f ≡ Some h → (xs : List Argument) (m : ℕ) (c : Conf)
    → after code m (machine.Runs (first_conf code f h xs)) ≡ machine.Runs c → open_bytes code c ≤ enough_bytes code h
