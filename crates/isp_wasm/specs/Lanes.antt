-- Arrays of which each lane has its own, as stores: they come after those of the machine, one for each array and lane.
use Rattle.std.specs.Prelude.{ℕ, suc, ◌+◌, ◌-◌, ◌*◌, ◌/◌, ◌%◌, take, Option, Some, None, ◌&&◌, if◌then◌else◌, nat_lt, slice_get}
use Rattle.isp_base.specs.declared.types.Elem.{Elem}
use Rattle.isp_base.specs.declared.types.Elem.TheVariants.{Bool as Truth}
use Rattle.isp_code.specs.Lines.{local_size}
use Rattle.isp_code.specs.Listing.{Routine}
use Rattle.isp_code.specs.Registers.{passed, is_per_lane}
use Rattle.isp_code.specs.declared.function.Local.{Local}
use Rattle.isp_code.specs.declared.register.Class.TheVariants as class
use Rattle.isp_code.specs.declared.register.Register.{Register}
use Rattle.isp_wasm.specs.Places.{Setting, bytes_of}
use Rattle.isp_wasm.specs.Stack.{bytes_in}

abbrev pub array_register : ℕ → Register
array_register a = record { class = class.Array; number = a }

-- the store that array a is for lane p
abbrev pub store_at : Setting → ℕ → ℕ → ℕ
store_at w a p = if is_per_lane w.routine (array_register a) then suc (w.home.opened + (32 * a + p)) else w.home.named a

-- stores up to number n, and then others
abbrev pub with_lanes : {A : Type 0} → ℕ → (ℕ → A) → (ℕ → A) → ℕ → A
with_lanes n shared own b = if nat_lt b (suc n) then shared b else own (b - suc n)

-- number k of those after is array k / 32 of lane k % 32: how it is declared, if there is one
abbrev pub own_local : ℕ → Routine → ℕ → Option Local
own_local lanes h k =
    if is_per_lane h (array_register (k / 32)) && nat_lt (k % 32) lanes then slice_get h.locals (k / 32 - passed h) else None

abbrev pub own_size : ℕ → Routine → ℕ → ℕ
own_size lanes h k = local_size (own_local lanes h k)

abbrev pub elem_declared : Option Local → Elem
elem_declared None = Truth
elem_declared (Some l) = l.elem

abbrev pub own_elem : ℕ → Routine → ℕ → Elem
own_elem lanes h k = elem_declared (own_local lanes h k)

-- the copy of lane p, if the first one begins at t
abbrev pub copy_start : Option Local → ℕ → ℕ → ℕ
copy_start None t p = 0
copy_start (Some l) t p = t + p * (l.size * bytes_of l.elem)

-- where it begins, if the first array of the function begins at t
abbrev pub own_start : ℕ → ℕ → Routine → ℕ → ℕ
own_start lanes t h k = copy_start (own_local lanes h k) (t + bytes_in lanes (take (k / 32 - passed h) h.locals)) (k % 32)
