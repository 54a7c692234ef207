-- What a run executes.
use Rattle.std.specs.Prelude.{ℕ, List, Option, Some, None, ◌&&◌, slice_get}
use Rattle.std.specs.List.{filter_map, range_with_len}
use Rattle.isp_base.specs.Cross.{rank}
use Rattle.isp_base.specs.Sets.{Mask}
use Rattle.isp_base.specs.Types.{gang_width}
use Rattle.isp_code.specs.Conf.{Conf, State, Runs, Trapped, Ended}
use Rattle.isp_code.specs.Listing.{Listing, Routine}
use Rattle.isp_code.specs.Machine.{after}
use Rattle.isp_code.specs.declared.instr.Instr.{Instr}
use Rattle.isp_code.specs.declared.register.Class.TheVariants as class
use Rattle.isp_code.specs.declared.register.Register.{Register}
use Rattle.isp_machine.specs.Seen.{has_register}
use Rattle.isp_traces.specs.Kinds.{kind_of}
use Rattle.isp_traces.specs.Named.{place_of}
use Rattle.isp_traces.specs.Operands.{under}
use Rattle.isp_traces.specs.declared.counting.Executed.{Executed}

-- the instruction of this number
abbrev pub instr_in : Option Routine → ℕ → Option Instr
instr_in None pc = None
instr_in (Some h) pc = slice_get h.code pc

abbrev pub instr_at : Listing → Conf → Option Instr
instr_at code c = instr_in (slice_get code.routines c.home.fn) c.pc

-- the set that a mask register has; none where the function has no such register, which accepted code never names
abbrev pub mask_held : Listing → Conf → Register → Mask
mask_held code c k p = has_register (slice_get code.routines c.home.fn) class.Mask k.number && c.masks k.number p

-- how many lanes are on in a mask, if there is one
abbrev pub lanes_on : Listing → Conf → Option Register → Option ℕ
lanes_on code c None = None
lanes_on code c (Some k) = Some (rank (mask_held code c k) (gang_width code.gang))

-- an instruction as it is counted: its function, its kind, the place that it names, and how many lanes are on in the mask under which it stands
abbrev pub as_executed : Listing → Conf → Option Instr → Option Executed
as_executed code c None = None
as_executed code c (Some i) = Some (record { function = c.home.fn; kind = kind_of i; place = place_of i; on = lanes_on code c (under i) })

-- what is executed next; at an end nothing
abbrev pub next : Listing → State → Option Executed
next code (Runs c) = as_executed code c (instr_at code c)
next code (Trapped t c) = None
next code (Ended x c) = None

-- what the first m steps from a state execute
abbrev pub executed : Listing → State → ℕ → List Executed
executed code s m = filter_map (λ k. next code (after code k s)) (range_with_len 0 m)
