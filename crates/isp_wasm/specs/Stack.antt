-- Where the arrays lie that functions open: from an address on that the host sets, those of each call after those of the call
-- that waits for it.
use Rattle.std.specs.Prelude.{ℕ, suc, ◌+◌, ◌-◌, ◌*◌, ◌<◌, List, [], ◌∷◌, Option, Some, None, Bool, true, false, not, ◌||◌, nat_lt, slice_get, slice_index, slice_index_or, if◌then◌else◌}
use Rattle.std.specs.List.{list_any}
use Rattle.isp_base.specs.Types.{gang_width}
use Rattle.isp_base.specs.declared.types.Elem.{Elem}
use Rattle.isp_base.specs.declared.types.Elem.TheVariants.{Bool as Truth}
use Rattle.isp_code.specs.Calls.{if_shared}
use Rattle.isp_code.specs.Conf.{Frame, Conf}
use Rattle.isp_code.specs.Listing.{Listing, Routine}
use Rattle.isp_code.specs.Registers.{is_per_instance}
use Rattle.isp_code.specs.declared.function.Local.{Local}
use Rattle.isp_code.specs.declared.instr.Instr.{Instr}
use Rattle.isp_code.specs.declared.instr.Instr.TheVariants as instr
use Rattle.isp_wasm_meaning.specs.Meaning.{cleared}
use Rattle.isp_wasm.specs.Places.{Setting, bytes_of}

-- ---- whether there are any

abbrev pub is_call : Instr → Bool
is_call (instr.Call c) = true
is_call i = false

abbrev pub has_call : Routine → Bool
has_call h = list_any is_call h.code

abbrev pub none_open : List Local → Bool
none_open [] = true
none_open (l ∷ ls) = false

-- a function that opens arrays, or calls one that may
abbrev pub uses_stack : Routine → Bool
uses_stack h = has_call h || not (none_open h.locals)

-- ---- how many bytes they have

-- of an array; each lane of a gang may have its own
abbrev pub copies : ℕ → Bool → ℕ
copies lanes own = if own then lanes else 1

abbrev pub local_bytes : ℕ → Local → ℕ
local_bytes lanes l = copies lanes (is_per_instance l.sharing) * (l.size * bytes_of l.elem)

abbrev pub bytes_in : ℕ → List Local → ℕ
bytes_in lanes [] = 0
bytes_in lanes (l ∷ ls) = local_bytes lanes l + bytes_in lanes ls

-- of a function, by its number
abbrev pub bytes_if : ℕ → Option Routine → ℕ
bytes_if lanes None = 0
bytes_if lanes (Some h) = bytes_in lanes h.locals

abbrev pub function_bytes : Listing → ℕ → ℕ
function_bytes code f = bytes_if (gang_width code.gang) (slice_get code.routines f)

-- of the calls that wait, the innermost first, and of all calls
abbrev pub waiting_bytes : Listing → List Frame → ℕ
waiting_bytes code [] = 0
waiting_bytes code (fr ∷ rest) = waiting_bytes code rest + function_bytes code fr.home.fn

abbrev pub open_bytes : Listing → Conf → ℕ
open_bytes code c = waiting_bytes code c.waiting + function_bytes code c.home.fn

-- ---- where the next one lies

abbrev pub start : Option ℕ → ℕ
start None = 0
start (Some a) = a

-- that much further up
abbrev pub moved_up : Option ℕ → ℕ → Option ℕ
moved_up None n = None
moved_up (Some a) n = Some (a + n)

module _ (w : Setting) where
  -- where a function's arrays begin, and where they end; and from where on they may lie, if any may be opened
  abbrev pub bottom : ℕ
  bottom = start w.stack + waiting_bytes w.code w.waiting

  abbrev pub top : ℕ
  top = bottom + bytes_in (gang_width w.code.gang) w.routine.locals

  abbrev pub floor : Option ℕ
  floor = moved_up w.stack (waiting_bytes w.code w.waiting)

-- a byte that no array takes that a function opens, or one that it calls
abbrev pub IsBelow : Option ℕ → ℕ → Type 0
IsBelow None a = Unit {0}
IsBelow (Some n) a = a < n

-- ---- the stores that a function opens, one for each array that all lanes share

-- where each begins, if the first array does there
abbrev pub shared_starts : ℕ → ℕ → List Local → List ℕ
shared_starts lanes t [] = []
shared_starts lanes t (l ∷ ls) = if_shared (is_per_instance l.sharing) t (shared_starts lanes (t + local_bytes lanes l) ls)

abbrev pub if_shared_elem : Bool → Elem → List Elem → List Elem
if_shared_elem true t ts = ts
if_shared_elem false t ts = t ∷ ts

abbrev pub shared_elems : List Local → List Elem
shared_elems [] = []
shared_elems (l ∷ ls) = if_shared_elem (is_per_instance l.sharing) l.elem (shared_elems ls)

-- so many stores as before, and then these
abbrev pub with_starts : ℕ → (ℕ → ℕ) → List ℕ → ℕ → ℕ
with_starts n begins starts b = if nat_lt b n then begins b else slice_index starts (b - n)

abbrev pub with_elems : ℕ → (ℕ → Elem) → List Elem → ℕ → Elem
with_elems n elems ts b = if nat_lt b n then elems b else slice_index_or ts (b - n) Truth

-- the memory where they are opened from an address on: zeros there, and in one byte after the last
abbrev pub opened_memory : ℕ → ℕ → List Local → (ℕ → ℕ) → ℕ → ℕ
opened_memory lanes t [] memory = memory
opened_memory lanes t (l ∷ ls) memory = cleared (suc (bytes_in lanes (l ∷ ls))) t memory
