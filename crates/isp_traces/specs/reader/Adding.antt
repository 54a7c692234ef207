-- How an instruction is added to counts.
use Rattle.std.specs.Prelude.{◌≡◌, ℕ, ◌+◌, ◌*◌, ◌<◌, ◌≤◌, ◌^◌, List, length, get_or, slice_set, nat_lt, if◌then◌else◌, Option, Some, None}
use Rattle.isp_traces.specs.Kinds.{number_of}
use Rattle.isp_traces.specs.Named.{group_of}
use Rattle.isp_traces.specs.Tallies.{nothing}
use Rattle.isp_traces.specs.declared.counting.Executed.{Executed}
use Rattle.isp_traces.specs.declared.kinds.Kind.{Kind}
use Rattle.isp_traces.specs.declared.tallies.Counts.{Counts}
use Rattle.isp_traces.specs.declared.tallies.Tally.{Tally}

-- of one instruction, with the number of lanes on in its mask, if it has one
abbrev pub one : Option ℕ → Tally
one None = record { instructions = 1; masked = 0; lanes_on = 0 }
one (Some on) = record { instructions = 1; masked = 1; lanes_on = on }

-- part by part
abbrev pub plus : Tally → Tally → Tally
plus t u = record { instructions = t.instructions + u.instructions; masked = t.masked + u.masked; lanes_on = t.lanes_on + u.lanes_on }

-- there are fewer than 2 ^ 64 - 1 instructions, no more of them under masks, and at most 64 lanes in each mask
pub record HasRoom (t : Tally) : Type 0 where
  pub few : t.instructions + 1 < 2 ^ 64
  pub fewer : t.masked ≤ t.instructions
  pub lanes : t.lanes_on ≤ 64 * t.instructions

pub record HaveRoom (c : Counts) : Type 0 where
  pub total : HasRoom c.total
  pub functions : (f : ℕ) → f < length c.functions.items → HasRoom (get_or c.functions.items f nothing)
  pub kinds : (k : Kind) → HasRoom (get_or c.kinds.items (number_of k) nothing)
  pub kind_count : length c.kinds.items ≡ 8
  pub groups : (g : ℕ) → g < length c.groups.tallies.items → HasRoom (get_or c.groups.tallies.items g nothing)

-- one more instruction in tally number `at` of a list
abbrev pub added : List Tally → ℕ → Option ℕ → List Tally
added ts at on = slice_set ts at (plus (get_or ts at nothing) (one on))

-- the same in the tally of a number that is there, if there is a number
abbrev pub added_there : List Tally → Option ℕ → Option ℕ → List Tally
added_there ts None on = ts
added_there ts (Some p) on = if nat_lt p (length ts) then added ts p on else ts

pub record Adds (e : Executed) (old now : Counts) : Type 0 where
  pub total : now.total ≡ plus old.total (one e.on)
  pub functions : now.functions.items ≡ added old.functions.items e.function e.on
  pub kinds : now.kinds.items ≡ added old.kinds.items (number_of e.kind) e.on
  pub of_places : now.groups.of_places.items ≡ old.groups.of_places.items
  pub groups : now.groups.tallies.items ≡ added_there old.groups.tallies.items (group_of old.groups.of_places.items e.place) e.on

abbrev pub AddsIf : Option Executed → Counts → Counts → Type 0
AddsIf None old now = now ≡ old
AddsIf (Some e) old now = Adds e old now
