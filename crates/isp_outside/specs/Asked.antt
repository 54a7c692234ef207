-- Which element an instance asks for in the instruction at which a configuration stands.
--     load, store, gather, scatter    the element at the index
--     vload, vstore                   as many elements after the index as the instance's number says
--     pload, pstore                   as many elements after it as lanes below the instance are on
use Rattle.std.specs.Prelude.{ℕ, zero, suc, ◌+◌, ◌&&◌, Bool, true, Option, Some, None, nat_lt, slice_get, if◌then◌else◌}
use Rattle.isp_base.specs.Types.{gang_width}
use Rattle.isp_base.specs.Values.{number}
use Rattle.isp_base.specs.declared.types.Elem.TheVariants.{I64}
use Rattle.isp_code.specs.Conf.{Conf}
use Rattle.isp_code.specs.Listing.{Listing, Routine}
use Rattle.isp_code.specs.declared.instr.Instr.{Instr}
use Rattle.isp_code.specs.declared.instr.Instr.TheVariants as instr
use Rattle.isp_code.specs.declared.instr.ScalarInstr.{ScalarInstr}
use Rattle.isp_code.specs.declared.instr.ScalarInstr.TheVariants as scalar
use Rattle.isp_code.specs.declared.instr.VectorInstr.{VectorInstr}
use Rattle.isp_code.specs.declared.instr.VectorInstr.TheVariants as vector
use Rattle.isp_code.specs.declared.register.Class.{Class}
use Rattle.isp_code.specs.declared.register.Class.TheVariants.{Scalar, Vector, Mask}
use Rattle.isp_code.specs.declared.register.Register.{Register}
use Rattle.isp_machine.specs.Seen.{has_register, size_in}
use Rattle.isp_outside.specs.declared.outside.Outside.{Outside}

-- an index of 64 bits, the elements after it and the array's size, where they are there
abbrev pub access : Option ℕ → ℕ → Option ℕ → Option Outside
access (Some bits) after (Some size) = Some (record { index = number I64 bits; after = after; size = size })
access index after size = None

abbrev pub if_on : Option Bool → ℕ
if_on (Some true) = 1
if_on flag = 0

-- the instruction of a function, if there is a function and it is there
abbrev pub instr_in : Option Routine → ℕ → Option Instr
instr_in None pc = None
instr_in (Some h) pc = slice_get h.code pc

-- in a configuration of some code
module _ (code : Listing) (c : Conf) where
  abbrev pub routine : Option Routine
  routine = slice_get code.routines c.home.fn

  abbrev pub has : Class → Register → Bool
  has k r = has_register routine k r.number

  abbrev pub has_lane : ℕ → Bool
  has_lane p = nat_lt p (gang_width code.gang)

  -- what a scalar register has, a lane of a vector register, and how many elements an array has
  abbrev pub scalar_at : Register → Option ℕ
  scalar_at r = if has Scalar r then Some (c.scalars r.number) else None

  abbrev pub lane_at : Register → ℕ → Option ℕ
  lane_at r p = if has Vector r && has_lane p then Some (c.vectors r.number p) else None

  abbrev pub size_at : Register → Option ℕ
  size_at a = size_in code c a.number routine

  -- how many lanes of a mask are on below a lane
  abbrev pub flag_at : Register → ℕ → Option Bool
  flag_at k p = if has Mask k && has_lane p then Some (c.masks k.number p) else None

  abbrev pub on_below : Register → ℕ → ℕ
  on_below k zero = 0
  on_below k (suc p) = on_below k p + if_on (flag_at k p)

  abbrev pub by_scalar : ScalarInstr → Option Outside
  by_scalar (scalar.Load a i k q) = access (scalar_at i) 0 (size_at a)
  by_scalar i = None

  abbrev pub by_vector : ℕ → VectorInstr → Option Outside
  by_vector p (vector.Gather a i k q) = access (lane_at i p) 0 (size_at a)
  by_vector p (vector.LoadRun a i k q) = access (scalar_at i) p (size_at a)
  by_vector p i = None

  -- by the instruction
  abbrev pub asked_by : ℕ → Instr → Option Outside
  asked_by p (instr.Scalar d i) = by_scalar i
  asked_by p (instr.Vector d i) = by_vector p i
  asked_by p (instr.Store a i y k q) = access (scalar_at i) 0 (size_at a)
  asked_by p (instr.Scatter a i y k q) = access (lane_at i p) 0 (size_at a)
  asked_by p (instr.StoreRun a i y k q) = access (scalar_at i) p (size_at a)
  asked_by p (instr.PackedStore d a i y k q) = access (scalar_at i) (on_below k p) (size_at a)
  asked_by p (instr.PackedLoad d a i y k q) = access (scalar_at i) (on_below k p) (size_at a)
  asked_by p i = None

  abbrev pub asked_if : ℕ → Option Instr → Option Outside
  asked_if p None = None
  asked_if p (Some i) = asked_by p i

  abbrev pub outside_of : ℕ → Option Outside
  outside_of p = asked_if p (instr_in routine c.pc)
