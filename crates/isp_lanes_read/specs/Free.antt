-- Writes that need not keep the lanes that are off, and instructions that can be left out, by the rows before and after them.
use Rattle.std.specs.Prelude.{ℕ, Option, Some, None, Bool, true, false, not, ◌&&◌, ◌||◌, nat_eq}
use Rattle.std.specs.List.{list_any, list_all}
use Rattle.isp_code.specs.declared.instr.Instr.{Instr}
use Rattle.isp_code.specs.declared.instr.Instr.TheVariants as instr
use Rattle.isp_lanes_read.specs.Reads.{written, is_pure}
use Rattle.isp_lanes_read.specs.Rows.{Row}
use Rattle.isp_lanes_read.specs.declared.table.Reading.{Reading}
use Rattle.isp_lanes_read.specs.reader.Known.{implied}

-- lanes that are read are of another vector, or are written
abbrev pub stays_in : Row → Reading → Reading → Bool
stays_in row w r = not (nat_eq r.vector w.vector) || implied row None r.lanes w.lanes

abbrev pub is_free_write : Row → Row → Option Reading → Bool
is_free_write row next None = false
is_free_write row next (Some w) = list_all (stays_in row w) next.read

-- of the vector that an instruction writes, no other lane is read after it
abbrev pub is_free : Row → Row → Instr → Bool
is_free row next i = is_free_write row next (written i)

-- a vector of which no lane is read
abbrev pub is_of : ℕ → Reading → Bool
is_of v r = nat_eq r.vector v

abbrev pub is_unread : Row → ℕ → Bool
is_unread row v = not (list_any (is_of v) row.read)

-- an instruction that can be left out, by the row after it: it never traps, and writes a vector that nobody reads
abbrev pub is_useless : Row → Instr → Bool
is_useless next (instr.Vector d i) = is_pure i && is_unread next d.number
is_useless next i = false

abbrev pub is_call : Instr → Bool
is_call (instr.Call c) = true
is_call i = false
