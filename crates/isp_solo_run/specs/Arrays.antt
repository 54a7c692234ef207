-- Arrays that all instances share, as the run of one finds them. An element has its working value where it was stored in
-- this run, 0 where its array was declared in it, else what the run began with.
use Rattle.std.specs.Prelude.{ℕ, Bool, true, false, List, map, Option, Some, None, slice_index}
use Rattle.std.proofs.Common.{Bor}
use Rattle.isp_base.specs.Arguments.{row_bits}
use Rattle.isp_base.specs.Rows.{Row}
use Rattle.isp_gang_values.specs.Growing.{at_each, values_of}
use Rattle.isp_solo_run.specs.declared.arrays.Shared.{Shared}

-- marks by number: none past the last
abbrev pub marks_of : List Bool → ℕ → Bool
marks_of = at_each (λ x. x) false

-- what a run stored in an element: its mark, whether the array was declared, its working value
abbrev pub wrote_at : Bool → Bool → ℕ → Option ℕ
wrote_at true declared x = Some x
wrote_at false true x = Some 0
wrote_at false false x = None

abbrev pub wrote_in : Shared → ℕ → Option ℕ
wrote_in s e = wrote_at (marks_of s.stored.items e) s.declared (values_of s.work.items e)

abbrev pub read_in : Shared → ℕ → Bool
read_in s = marks_of s.read.items

-- of all arrays, by store and element
abbrev pub wrote_seen : List Shared → ℕ → ℕ → Option ℕ
wrote_seen = at_each wrote_in (λ e. None)

abbrev pub read_seen : List Shared → ℕ → ℕ → Bool
read_seen = at_each read_in (λ e. false)

-- the arrays that a run begins with
abbrev pub bound_seen : List (Bor Row) → ℕ → ℕ → ℕ
bound_seen rs b e = slice_index (row_bits (map (λ r. r.now) rs) b) e
