-- What a call begins with, by the number of a variable.
use Rattle.std.specs.Prelude.{ℕ, ◌+◌, List, [], Option, Some, None, length, slice_get, take}
use Rattle.isp_base.specs.declared.types.Rate.{Rate}
use Rattle.isp_typed.specs.declared.variable.Variable.{Variable}
use Rattle.isp_meaning.specs.Calls.{shared_sizes, size_of, store_or}
use Rattle.isp_meaning.specs.Expressions.{Passed}
use Rattle.isp_solo_meaning.specs.Calls.{value_passed}

-- its store, where n stores are open; its value among those of a rate
abbrev pub named_at : List Variable → List Passed → ℕ → ℕ → ℕ
named_at vs ps n v = store_or (slice_get ps v) (n + length (shared_sizes (take v vs)))

abbrev pub passed_at : Rate → List Variable → List Passed → ℕ → ℕ
passed_at r vs ps v = value_passed r (slice_get vs v) (slice_get ps v)

-- the stores that a variable opens, by their sizes
abbrev pub opened_by : Option Variable → List ℕ
opened_by None = []
opened_by (Some v) = size_of v.holds []
