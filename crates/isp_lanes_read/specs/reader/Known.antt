-- What follows from a row by one step: which sets lie in which, and which lanes are read.
use Rattle.std.specs.Prelude.{ℕ, Option, Some, None, Bool, true, false, ◌&&◌, ◌||◌, nat_eq}
use Rattle.std.specs.List.{list_any}
use Rattle.isp_code.specs.declared.instr.MaskInstr.{MaskInstr}
use Rattle.isp_code.specs.declared.instr.MaskInstr.TheVariants as mask
use Rattle.isp_code.specs.declared.instr.MaskOp.{MaskOp}
use Rattle.isp_code.specs.declared.instr.MaskOp.TheVariants as mask_op
use Rattle.isp_code.specs.declared.register.Register.{Register}
use Rattle.isp_lanes_read.specs.Rows.{Row}
use Rattle.isp_lanes_read.specs.declared.bound.Bound.{Bound}
use Rattle.isp_lanes_read.specs.declared.bound.Bound.TheVariants.{One, Either, Together}
use Rattle.isp_lanes_read.specs.declared.table.Inclusion.{Inclusion}
use Rattle.isp_lanes_read.specs.declared.table.LaneSet.{LaneSet}
use Rattle.isp_lanes_read.specs.declared.table.LaneSet.TheVariants as lanes
use Rattle.isp_lanes_read.specs.declared.table.Reading.{Reading}

abbrev pub same_set : LaneSet → LaneSet → Bool
same_set (lanes.Mask k) (lanes.Mask j) = nat_eq k j
same_set lanes.Gang lanes.Gang = true
same_set lanes.Call lanes.Call = true
same_set lanes.Nobody lanes.Nobody = true
same_set a b = false

-- each set lies in itself and in the gang, and the empty one in each
abbrev pub is_plain : LaneSet → LaneSet → Bool
is_plain a b = same_set a b || (same_set b lanes.Gang || same_set a lanes.Nobody)

abbrev pub is_inclusion : LaneSet → LaneSet → Inclusion → Bool
is_inclusion a b x = same_set x.part a && same_set x.whole b

abbrev pub is_listed : Row → LaneSet → LaneSet → Bool
is_listed row a b = list_any (is_inclusion a b) row.within

abbrev pub in_row : Row → LaneSet → LaneSet → Bool
in_row row a b = is_plain a b || (is_listed row a b || (is_listed row a lanes.Nobody || is_listed row lanes.Gang b))

-- with one more inclusion, that a jump tells
abbrev pub through : Row → Option Inclusion → LaneSet → LaneSet → Bool
through row None a b = false
through row (Some x) a b = in_row row a x.part && in_row row x.whole b

-- the lanes of a mask that is written, from above and from below
abbrev pub combined_upper : MaskOp → LaneSet → LaneSet → Bound
combined_upper mask_op.And a b = Either a b
combined_upper mask_op.Or a b = Together a b
combined_upper mask_op.AndNot a b = One a

abbrev pub combined_lower : MaskOp → LaneSet → LaneSet → Bound
combined_lower mask_op.And a b = Together a b
combined_lower mask_op.Or a b = Either a b
combined_lower mask_op.AndNot a b = One lanes.Nobody

abbrev pub set_of : Register → LaneSet
set_of k = lanes.Mask k.number

abbrev pub upper : MaskInstr → Bound
upper (mask.Copy x) = One (set_of x)
upper (mask.Binary o x y) = combined_upper o (set_of x) (set_of y)
upper mask.Full = One lanes.Gang
upper mask.Off = One lanes.Nobody
upper (mask.Test x y) = One (set_of y)
upper (mask.Lowest x) = One (set_of x)
upper (mask.Range x y) = One lanes.Gang

abbrev pub lower : MaskInstr → Bound
lower (mask.Copy x) = One (set_of x)
lower (mask.Binary o x y) = combined_lower o (set_of x) (set_of y)
lower mask.Full = One lanes.Gang
lower i = One lanes.Nobody

abbrev pub meets : (LaneSet → Bool) → Bound → Bool
meets test (One a) = test a
meets test (Either a b) = test a || test b
meets test (Together a b) = test a && test b

module _ (row : Row) (more : Option Inclusion) where
  abbrev pub implied : LaneSet → LaneSet → Bool
  implied a b = in_row row a b || through row more a b

  -- a row has lanes of a vector among those that are read, if there are any
  abbrev pub is_reading : ℕ → LaneSet → Reading → Bool
  is_reading v a r = nat_eq r.vector v && implied a r.lanes

  abbrev pub covers : ℕ → LaneSet → Bool
  covers v a = implied a lanes.Nobody || list_any (is_reading v a) row.read
