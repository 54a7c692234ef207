-- When tables pass: what the rows before an instruction say leads to what they say where control goes on.
use Rattle.std.specs.Prelude.{ℕ, zero, suc, ◌+◌, List, [], ◌∷◌, Option, Some, None, Bool, true, false, not, ◌&&◌, ◌||◌, nat_eq, slice_get}
use Rattle.std.specs.List.{list_all}
use Rattle.isp_code.specs.Listing.{Listing, Routine}
use Rattle.isp_code.specs.declared.instr.Instr.{Instr}
use Rattle.isp_code.specs.declared.instr.Instr.TheVariants as instr
use Rattle.isp_code.specs.declared.instr.JumpTest.{JumpTest}
use Rattle.isp_code.specs.declared.instr.JumpTest.TheVariants as jump
use Rattle.isp_code.specs.declared.instr.MaskInstr.{MaskInstr}
use Rattle.isp_code.specs.declared.register.Register.{Register}
use Rattle.isp_lanes_read.specs.Free.{is_useless}
use Rattle.isp_lanes_read.specs.Reads.{reads, written, gives_lanes}
use Rattle.isp_lanes_read.specs.Rows.{Row, Rows, row_in, table_at}
use Rattle.isp_lanes_read.specs.Standing.{takes_lanes, routine_gives}
use Rattle.isp_lanes_read.specs.reader.Known.{same_set, is_plain, set_of, upper, lower, meets, implied, covers}
use Rattle.isp_lanes_read.specs.declared.table.Inclusion.{Inclusion}
use Rattle.isp_lanes_read.specs.declared.table.LaneSet.{LaneSet}
use Rattle.isp_lanes_read.specs.declared.table.LaneSet.TheVariants as lanes
use Rattle.isp_lanes_read.specs.declared.table.Reading.{Reading}

-- where control goes on after an instruction, and what is known there of a mask besides
pub record Edge : Type 0 where
  pub to : ℕ
  pub more : Option Inclusion

abbrev pub is_empty : Register → Option Inclusion
is_empty k = Some (record { part = set_of k; whole = lanes.Nobody })

abbrev pub is_full : Register → Option Inclusion
is_full k = Some (record { part = lanes.Gang; whole = set_of k })

abbrev pub if_taken : JumpTest → Register → Option Inclusion
if_taken jump.Off k = is_empty k
if_taken jump.All k = is_full k
if_taken t k = None

abbrev pub if_passed : JumpTest → Register → Option Inclusion
if_passed jump.On k = is_empty k
if_passed t k = None

abbrev pub edges : ℕ → Instr → List Edge
edges pc (instr.Jump to) = record { to = to; more = None } ∷ []
edges pc (instr.JumpIf t x to) = record { to = to; more = if_taken t x } ∷ record { to = pc + 1; more = if_passed t x } ∷ []
edges pc (instr.Return x) = []
edges pc i = record { to = pc + 1; more = None } ∷ []

-- the mask that an instruction writes, and what it becomes
pub record MaskWrite : Type 0 where
  pub mask : Register
  pub value : MaskInstr

abbrev pub mask_written : Instr → Option MaskWrite
mask_written (instr.Mask d i) = Some (record { mask = d; value = i })
mask_written i = None

module _ (row : Row) (more : Option Inclusion) where
  -- an inclusion of sets after a mask was written, by whether each of them is this mask
  abbrev pub follows_written : Bool → Bool → MaskInstr → Inclusion → Bool
  follows_written true true i x = true
  follows_written true false i x = meets (λ a. implied row more a x.whole) (upper i)
  follows_written false true i x = meets (implied row more x.part) (lower i)
  follows_written false false i x = implied row more x.part x.whole

  abbrev pub follows : Option MaskWrite → Inclusion → Bool
  follows None x = implied row more x.part x.whole
  follows (Some w) x = follows_written (same_set x.part (set_of w.mask)) (same_set x.whole (set_of w.mask)) w.value x

  -- lanes that are read after an instruction are those that it writes, or are read before it
  abbrev pub is_rewritten : Option Reading → Reading → Bool
  is_rewritten None r = false
  is_rewritten (Some w) r = nat_eq r.vector w.vector && implied row more r.lanes w.lanes

  abbrev pub comes_written : Bool → MaskInstr → Reading → Bool
  comes_written true i r = meets (covers row more r.vector) (upper i)
  comes_written false i r = covers row more r.vector r.lanes

  abbrev pub comes_back : Option MaskWrite → Reading → Bool
  comes_back None r = covers row more r.vector r.lanes
  comes_back (Some w) r = comes_written (same_set r.lanes (set_of w.mask)) w.value r

  abbrev pub comes : Instr → Reading → Bool
  comes i r = is_rewritten (written i) r || comes_back (mask_written i) r

abbrev pub edge_passes : List Row → Row → Instr → Edge → Bool
edge_passes table row i e =
    list_all (follows row e.more (mask_written i)) (row_in table e.to).within && list_all (comes row e.more i) (row_in table e.to).read

abbrev pub covers_reading : Row → Reading → Bool
covers_reading row r = covers row None r.vector r.lanes

abbrev pub reads_pass : Row → Row → Routine → Instr → Bool
reads_pass row next h i = is_useless next i || list_all (covers_reading row) (reads h i)

-- a call takes lanes from a function that gives them, and this one gives something back
abbrev pub gives_something : Option Register → Bool
gives_something None = false
gives_something (Some x) = true

abbrev pub call_passes : Listing → Routine → Instr → Bool
call_passes code h (instr.Call c) = not (takes_lanes c.result) || routine_gives (slice_get code.routines c.function)
call_passes code h (instr.Return x) = not (gives_lanes h.returns) || gives_something x
call_passes code h i = true

-- the line of one instruction, in a function with this table
abbrev pub line_passes : Listing → List Row → Routine → ℕ → Instr → Bool
line_passes code table h pc i =
    reads_pass (row_in table pc) (row_in table (pc + 1)) h i && (call_passes code h i && list_all (edge_passes table (row_in table pc) i) (edges pc i))

abbrev pub lines_pass : Listing → List Row → Routine → ℕ → List Instr → Bool
lines_pass code table h pc [] = true
lines_pass code table h pc (i ∷ is) = line_passes code table h pc i && lines_pass code table h (suc pc) is

-- a set where a call begins: the first mask is that of the call, the others are empty
abbrev pub first_mask : ℕ → LaneSet
first_mask zero = lanes.Call
first_mask (suc k) = lanes.Nobody

abbrev pub at_head : LaneSet → LaneSet
at_head (lanes.Mask k) = first_mask k
at_head a = a

abbrev pub begins_so : Inclusion → Bool
begins_so x = is_plain (at_head x.part) (at_head x.whole)

abbrev pub function_passes : Listing → List Row → Routine → Bool
function_passes code table h = list_all begins_so (row_in table 0).within && lines_pass code table h 0 h.code

abbrev pub functions_pass : Listing → Rows → ℕ → List Routine → Bool
functions_pass code rows f [] = true
functions_pass code rows f (h ∷ hs) = function_passes code (table_at rows f) h && functions_pass code rows (suc f) hs

abbrev pub passes : Listing → Rows → Bool
passes code rows = functions_pass code rows 0 code.routines
