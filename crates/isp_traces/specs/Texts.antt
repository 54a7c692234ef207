-- Counts as a line of JSON: `{"instructions":16,"masked":11,"lanes_on":36,"lanes":44,"functions":{..},"kinds":{..}}`.
use Rattle.std.specs.Prelude.{ℕ, zero, suc, List, [], ◌++◌, codes, get_or, length, map, ◌+◌, Bool, nat_lt, if◌then◌else◌}
use Rattle.std.specs.Fmt.{decimal}
use Rattle.isp_base.specs.Prints.{comma}
use Rattle.isp_base.specs.Types.{gang_width}
use Rattle.isp_code.specs.Listing.{Listing, Routine}
use Rattle.isp_traces.specs.Kinds.{name_of}
use Rattle.isp_traces.specs.Tallies.{all_kinds, nothing, lanes_of}
use Rattle.isp_traces.specs.declared.tallies.Counts.{Counts}
use Rattle.isp_traces.specs.declared.tallies.Tally.{Tally}

-- the four numbers, for a gang of n
abbrev pub tally_text : ℕ → Tally → List ℕ
tally_text n t =
    codes "\"instructions\":" ++ decimal t.instructions ++ codes ",\"masked\":" ++ decimal t.masked
    ++ codes ",\"lanes_on\":" ++ decimal t.lanes_on ++ codes ",\"lanes\":" ++ decimal (lanes_of n t)

-- member k: its name, and the four numbers in braces
abbrev pub member_text : ℕ → ℕ → List ℕ → Tally → List ℕ
member_text n k name t = comma k ++ codes "\"" ++ name ++ codes "\":{" ++ tally_text n t ++ codes "}"

-- the first k members
abbrev pub members_text : ℕ → List (List ℕ) → List Tally → ℕ → List ℕ
members_text n names ts zero = []
members_text n names ts (suc k) = members_text n names ts k ++ member_text n k (get_or names k []) (get_or ts k nothing)

abbrev pub routine_name : Routine → List ℕ
routine_name h = h.name

abbrev pub kind_names : List (List ℕ)
kind_names = map name_of all_kinds

abbrev pub counts_text : Listing → Counts → List ℕ
counts_text code counts =
    codes "{" ++ tally_text (gang_width code.gang) counts.total
    ++ codes ",\"functions\":{" ++ members_text (gang_width code.gang) (map routine_name code.routines) counts.functions.items (length code.routines)
    ++ codes "},\"kinds\":{" ++ members_text (gang_width code.gang) kind_names counts.kinds.items 8 ++ codes "}}\n"

-- ---- counts by lines: `{"lines":{"3":{..},"7":{..}}}`, where group k has the places of line k + 1

-- some instruction names a place there
abbrev pub is_busy : Tally → Bool
is_busy t = nat_lt 0 t.instructions

-- how many of the first k lines are busy
abbrev pub busy_before : List Tally → ℕ → ℕ
busy_before ts zero = 0
busy_before ts (suc k) = busy_before ts k + (if is_busy (get_or ts k nothing) then 1 else 0)

-- a member of its number for line k + 1, where it is busy
abbrev pub line_text : ℕ → ℕ → ℕ → Tally → List ℕ
line_text n busy k t = if is_busy t then member_text n busy (decimal (suc k)) t else []

abbrev pub busy_text : ℕ → List Tally → ℕ → List ℕ
busy_text n ts zero = []
busy_text n ts (suc k) = busy_text n ts k ++ line_text n (busy_before ts k) k (get_or ts k nothing)

abbrev pub lines_text : ℕ → List Tally → List ℕ
lines_text n ts = codes "{\"lines\":{" ++ busy_text n ts (length ts) ++ codes "}}\n"
