-- The runs of a `foreach` that are left, where the next number of each range is known.
--     runs_left gang rs     those from the next numbers on
--     is_ready rs           whether the next numbers make a run
--     advanced gang rs      the last range moves on by a run
use Rattle.std.specs.Prelude.{ℕ, zero, suc, List, [], ◌∷◌, ◌++◌, map, take, drop, Bool, true, false, ◌&&◌, not, ◌||◌, nat_lt, ℤ, pos, ◌+ℤ◌, ◌-ℤ◌, int_lt, if◌then◌else◌}
use Rattle.isp_base.specs.Sets.{Mask, nobody}
use Rattle.isp_meaning.specs.Rounds as Meaning
use Rattle.isp_meaning.specs.Rounds.{Run, from_zero, runs_for, from_on, last_run, with_outer, joined_lists, runs_of}
use Rattle.isp_gang_values.specs.declared.ranges.Range.{Range}

abbrev pub range_seen : Range → Meaning.Range
range_seen r = record { index = r.index; start = r.start; end = r.end }

abbrev pub at_start : Range → Range
at_start r = record r { next = r.start }

-- the ranges from one on begin again
abbrev pub restarted : ℕ → List Range → List Range
restarted n rs = take n rs ++ map at_start (drop n rs)

-- so many numbers further, unless the end is reached
abbrev pub stepped : Range → ℤ → ℤ
stepped r k = if int_lt r.next r.end then r.next +ℤ k else r.next

-- numbers carry into a range, and those after it begin again
abbrev pub carried : ℕ → List Range → List Range
carried k [] = []
carried zero (r ∷ rs) = record r { next = stepped r (pos 1) } ∷ map at_start rs
carried (suc k) (r ∷ rs) = r ∷ carried k rs

-- ---- the runs that are left

-- n numbers of an outer range from z on: with the first go those inner runs that are left, with each other one all
abbrev pub outer_left : ℕ → ℤ → ℕ → List Run → List Run → List Run
outer_left index z zero first all = []
outer_left index z (suc n) first all = map (with_outer index z) first ++ joined_lists (map (λ k. map (with_outer index k) all) (from_on 1 n (z +ℤ pos 1)))

abbrev pub left_of : ℕ → List Range → List Run
left_of gang [] = []
left_of gang (r ∷ []) = map (last_run gang (range_seen r)) (from_on gang (runs_for gang (from_zero (r.end -ℤ r.next))) r.next)
left_of gang (r ∷ rs) = outer_left r.index r.next (from_zero (r.end -ℤ r.next)) (left_of gang rs) (runs_of gang (map range_seen rs))

-- each range has numbers; the next number of each is below its end
abbrev pub have_numbers : List Range → Bool
have_numbers [] = true
have_numbers (r ∷ rs) = int_lt r.start r.end && have_numbers rs

abbrev pub are_within : List Range → Bool
are_within [] = true
are_within (r ∷ rs) = int_lt r.next r.end && are_within rs

-- where a range has no number there is no run
abbrev pub runs_left : ℕ → List Range → List Run
runs_left gang rs = if have_numbers rs then left_of gang rs else []

-- ---- the run that comes next

-- the next numbers of all but the first, where all have numbers, are below their ends
abbrev pub tail_within : List Range → Bool
tail_within rs = not (have_numbers rs) || are_within (drop 1 rs)

abbrev pub some_range : List Range → Bool
some_range [] = false
some_range (r ∷ rs) = true

-- a range has numbers and its next one is among them
abbrev pub goes : Range → Bool
goes r = int_lt r.start r.end && int_lt r.next r.end

abbrev pub all_go : List Range → Bool
all_go [] = true
all_go (r ∷ rs) = goes r && all_go rs

abbrev pub is_ready : List Range → Bool
is_ready rs = some_range rs && all_go rs

-- the number of an index in an instance
abbrev pub number_now : ℤ → Bool → ℕ → ℤ
number_now z is_last p = if is_last then z +ℤ pos p else z

abbrev pub indices_now : List Range → List (ℕ × (ℕ → ℤ))
indices_now [] = []
indices_now (r ∷ []) = (r.index, λ p. r.next +ℤ pos p) ∷ []
indices_now (r ∷ rs) = (r.index, λ p. r.next) ∷ indices_now rs

abbrev pub numbers_below : ℕ → ℤ → ℤ → Mask
numbers_below gang z end p = nat_lt p gang && int_lt (z +ℤ pos p) end

abbrev pub members_now : ℕ → List Range → Mask
members_now gang [] = nobody
members_now gang (r ∷ []) = numbers_below gang r.next r.end
members_now gang (r ∷ rs) = members_now gang rs

-- the last range moves on by a run
abbrev pub advanced : ℕ → List Range → List Range
advanced gang [] = []
advanced gang (r ∷ []) = record r { next = stepped r (pos gang) } ∷ []
advanced gang (r ∷ rs) = r ∷ advanced gang rs
