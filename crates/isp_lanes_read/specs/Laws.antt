-- What holds of the runs of code whose tables pass the check.
use Rattle.std.specs.Prelude.{◌≡◌, ℕ, ◌+◌, List, Some, true, false, if◌then◌else◌, slice_get}
use Rattle.isp_base.specs.Arguments.{rows as stores}
use Rattle.isp_base.specs.Maps.{Lanes, put}
use Rattle.isp_base.specs.declared.signature.Argument.{Argument}
use Rattle.isp_code.specs.Conf.{Conf, Go, State, Runs}
use Rattle.isp_code.specs.Lines.{act, next}
use Rattle.isp_code.specs.Listing.{Listing, Routine}
use Rattle.isp_code.specs.Machine.{after, first_conf, advance, outcome, outcome_after}
use Rattle.isp_code.specs.declared.instr.Instr.{Instr}
use Rattle.isp_lanes_read.specs.Lanes.{IsWithin, sets, IsRead}
use Rattle.isp_lanes_read.specs.Free.{is_free, is_useless, is_call}
use Rattle.isp_lanes_read.specs.Reads.{written}
use Rattle.isp_lanes_read.specs.Rows.{Rows, row_at}
use Rattle.isp_lanes_read.specs.declared.table.LaneSet.{LaneSet}
use Rattle.isp_lanes_read.specs.reader.Known.{in_row}
use Rattle.isp_lanes_read.specs.Standing.{Holds, Alike, StateHolds, StatesAlike, Forgetful}
use Rattle.isp_lanes_read.specs.declared.table.Reading.{Reading}

-- What tables say of masks is so where a run begins, and after each step; so it is wherever a run stands.
pub record MasksHold (code : Listing) (rows : Rows) : Type 0 where
  pub begins : (f : ℕ) (h : Routine) (xs : List Argument) → slice_get code.routines f ≡ Some h → Holds code rows (first_conf code f h xs)
  pub goes_on : (s : State) → StateHolds code rows s → StateHolds code rows (advance code s)
  pub always : (f : ℕ) (h : Routine) (xs : List Argument) → slice_get code.routines f ≡ Some h → (m : ℕ) → StateHolds code rows (after code m (Runs (first_conf code f h xs)))

-- Two runs that agree in all that may still be read keep to that, step by step, and so over a third one; and a run that forgets
-- lanes that nobody reads has the outcome of the machine: the same arrays, value, trap and output.
pub record RunsAgree (code : Listing) (rows : Rows) : Type 0 where
  pub steps : (s t : State) → StateHolds code rows s → StatesAlike code rows s t → StatesAlike code rows (advance code s) (advance code t)
  pub joins : (s t u : State) → StatesAlike code rows s t → StatesAlike code rows t u → StatesAlike code rows s u
  pub outcomes : (f : ℕ) (h : Routine) (xs : List Argument) → slice_get code.routines f ≡ Some h → (m : ℕ) (t : State)
      → Forgetful code rows m (Runs (first_conf code f h xs)) t → outcome (stores xs) t ≡ outcome_after code f h xs m

-- Where a configuration stands before an instruction: sets lie in others as the row tells. If it writes a vector freely, each lane
-- of that vector that is read after it is one that was written, so the others may become anything; and if it is useless it may be
-- left out.
pub record WritesFree (code : Listing) (rows : Rows) (c : Conf) (h : Routine) (i : Instr) : Type 0 where
  pub within : (a b : LaneSet) → in_row (row_at rows c.home.fn c.pc) a b ≡ true → IsWithin (sets code c a) (sets code c b)
  pub free : (w : Reading) → written i ≡ Some w → is_free (row_at rows c.home.fn c.pc) (row_at rows c.home.fn (c.pc + 1)) i ≡ true
      → (p : ℕ) → IsRead (sets code c) (row_at rows c.home.fn (c.pc + 1)) w.vector p → sets code c w.lanes p ≡ true
  pub forgets : (w : Reading) → written i ≡ Some w → is_call i ≡ false → is_free (row_at rows c.home.fn c.pc) (row_at rows c.home.fn (c.pc + 1)) i ≡ true
      → (a : Conf) → act code h c i ≡ Go a → (old : Lanes) → Alike code rows a (record a { vectors = put a.vectors w.vector (λ p. if sets code c w.lanes p then a.vectors w.vector p else old p) })
  pub skips : is_useless (row_at rows c.home.fn (c.pc + 1)) i ≡ true → (a : Conf) → act code h c i ≡ Go a → Alike code rows a (next c)

abbrev pub FreeWrites : Listing → Rows → Type 0
FreeWrites code rows =
    (c : Conf) → Holds code rows c → (h : Routine) → slice_get code.routines c.home.fn ≡ Some h → (i : Instr) → slice_get h.code c.pc ≡ Some i → WritesFree code rows c h i
