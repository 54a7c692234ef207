-- What a call begins with, by the number of a variable.
use Rattle.std.specs.Prelude.{ℕ, ◌+◌, List, [], Option, Some, None, length, slice_get, take}
use Rattle.isp_base.specs.Maps.{Lanes, over}
use Rattle.isp_base.specs.Sets.{Mask}
use Rattle.isp_typed.specs.declared.variable.Variable.{Variable}
use Rattle.isp_meaning.specs.Calls.{each_passed, one_passed, shared_sizes, size_of, store_or}
use Rattle.isp_meaning.specs.Expressions.{Passed}
use Rattle.isp_meaning.specs.Payloads.{Payload, spread}

-- its store, where n stores are open; a uniform and a varying parameter
abbrev pub named_at : List Variable → List Passed → ℕ → ℕ → ℕ
named_at vs ps n v = store_or (slice_get ps v) (n + length (shared_sizes (take v vs)))

abbrev pub one_at : List Variable → List Passed → ℕ → ℕ
one_at vs ps v = one_passed (slice_get vs v) (slice_get ps v)

abbrev pub each_at : List Variable → List Passed → Mask → ℕ → Lanes
each_at vs ps a v = each_passed (slice_get vs v) a (slice_get ps v)

-- what is handed to a varying parameter, if something is
abbrev pub each_given : Mask → Option Payload → Lanes
each_given a None = λ p. 0
each_given a (Some x) = over (spread a x) (λ p. 0)

-- the stores that a variable opens, by their sizes
abbrev pub opened_by : Option Variable → List ℕ
opened_by None = []
opened_by (Some v) = size_of v.holds []
