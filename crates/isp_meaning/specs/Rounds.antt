-- Bodies that run over each of a list of sets: `foreach`, `foreach_active` and `foreach_unique`.
use Rattle.std.specs.Prelude.{ℕ, zero, suc, ◌+◌, ◌-◌, ◌*◌, ◌/◌, List, [], ◌∷◌, ◌++◌, map, Bool, true, false, not, ◌&&◌, nat_lt, ℤ, pos, negsuc, ◌+ℤ◌, ◌-ℤ◌, int_lt}
use Rattle.isp_base.specs.Cross.{or_zero}
use Rattle.isp_base.specs.Sets.{Mask, any, lone}
use Rattle.isp_base.specs.Maps.{Map, on, where_true}
use Rattle.isp_base.specs.Values.{number, wrap, compare_to}
use Rattle.isp_base.specs.declared.operators.Compare.TheVariants.{Equal}
use Rattle.isp_base.specs.declared.types.Elem.{Elem}
use Rattle.isp_base.specs.declared.types.Elem.TheVariants.{I32}
use Rattle.isp_base.specs.declared.types.Rate.TheVariants.{Uniform, Varying}
use Rattle.std.specs.Prelude.{Some}
use Rattle.isp_meaning.specs.State.{State, tick}
use Rattle.isp_meaning.specs.Payloads.{One, Each, converted}
use Rattle.isp_meaning.specs.Outcomes.{Res, go_on, went_all}
use Rattle.isp_meaning.specs.Places.{written}

-- a set over which the body runs, and what is done before it
pub record Round : Type 0 where
  pub members : Mask
  pub begins : State → State

-- one after the other; afterwards all that came to them go on
abbrev pub rounds : (Mask → State → Res) → Mask → List Round → State → Res
rounds body all [] s = went_all all s
rounds body all (x ∷ xs) s = go_on (body x.members (x.begins s)) (λ s1 g b c r. rounds body all xs s1)

-- ---- foreach_active: each member alone, from the lowest

abbrev pub if_listed : Bool → ℕ → List ℕ
if_listed true p = p ∷ []
if_listed false p = []

-- the members below n, in order
abbrev pub members : ℕ → Mask → List ℕ
members zero a = []
members (suc n) a = members n a ++ if_listed (a n) n

-- its turn counts; the index is uniform
abbrev pub round_of_one : ℕ → ℕ → Round
round_of_one index p = record { members = lone (Some p); begins = λ s. written Uniform index (lone (Some p)) (One p) (tick s) }

abbrev pub active_rounds : ℕ → ℕ → Mask → List Round
active_rounds gang index a = map (round_of_one index) (members gang a)

-- ---- foreach_unique: for each distinct value those that hold it, in the order of the lowest that holds it

-- who has a value
abbrev pub have : Map → Mask
have x = where_true (λ b. true) x

-- who holds a number, in the type u
abbrev pub holding : Elem → ℤ → Map → Mask
holding u z x = where_true (λ b. compare_to Equal (number u b) z) x

-- who holds the value of p
abbrev pub holders : Elem → Map → ℕ → Mask
holders u x p = holding u (number u (or_zero (x p))) x

-- who holds a value that no lower one holds
abbrev pub firsts : Elem → Map → Mask
firsts u x p = have x p && not (any p (holders u x p))

-- its turn counts; the index is uniform, the value in the type t
abbrev pub round_of_value : Elem → Elem → Map → ℕ → ℕ → Round
round_of_value u t x index p =
    record { members = holders u x p; begins = λ s. written Uniform index (holders u x p) (One (converted u t (or_zero (x p)))) (tick s) }

abbrev pub unique_rounds : ℕ → Elem → Elem → ℕ → Map → List Round
unique_rounds gang u t index x = map (round_of_value u t x index) (members gang (firsts u x))

-- ---- foreach: runs over ranges

-- an index, and the whole numbers from the start to below the end
pub record Range : Type 0 where
  pub index : ℕ
  pub start : ℤ
  pub end : ℤ

-- 0 below 0
abbrev pub from_zero : ℤ → ℕ
from_zero (pos n) = n
from_zero (negsuc n) = 0

abbrev pub length_of : Range → ℕ
length_of r = from_zero (r.end -ℤ r.start)

-- in how many runs a gang takes so many numbers
abbrev pub runs_for : ℕ → ℕ → ℕ
runs_for gang count = (count + (gang - 1)) / gang

-- n whole numbers from z on, each greater than the one before by k
abbrev pub from_on : ℕ → ℕ → ℤ → List ℤ
from_on k zero z = []
from_on k (suc n) z = z ∷ from_on k n (z +ℤ pos k)

-- a run: the indices with their values in each instance, and the instances that are on
pub record Run : Type 0 where
  pub indices : List (ℕ × (ℕ → ℤ))
  pub members : Mask

-- in the last range instance p has the run's first number and p
abbrev pub last_run : ℕ → Range → ℤ → Run
last_run gang r z = record { indices = (r.index, λ p. z +ℤ pos p) ∷ []; members = λ p. nat_lt p gang && int_lt (z +ℤ pos p) r.end }

abbrev pub with_outer : ℕ → ℤ → Run → Run
with_outer index z x = record { indices = (index, λ p. z) ∷ x.indices; members = x.members }

abbrev pub joined_lists : {A : Type 0} → List (List A) → List A
joined_lists [] = []
joined_lists (xs ∷ xss) = xs ++ joined_lists xss

-- outer numbers first
abbrev pub runs_of : ℕ → List Range → List Run
runs_of gang [] = []
runs_of gang (r ∷ []) = map (last_run gang r) (from_on gang (runs_for gang (length_of r)) r.start)
runs_of gang (r ∷ rs) = joined_lists (map (λ z. map (with_outer r.index z) (runs_of gang rs)) (from_on 1 (length_of r) r.start))

-- the indices are int32 and set for the instances that are on
abbrev pub set_indices : Mask → List (ℕ × (ℕ → ℤ)) → State → State
set_indices a [] s = s
set_indices a (x ∷ xs) s = set_indices a xs (written Varying x.0 a (Each (on a (λ p. wrap I32 (x.1 p)))) s)

abbrev pub round_of_run : Run → Round
round_of_run x = record { members = x.members; begins = set_indices x.members x.indices }

abbrev pub foreach_rounds : ℕ → List Range → List Round
foreach_rounds gang rs = map round_of_run (runs_of gang rs)

-- what the ranges count, where so many runs of the outer ones are made: the products of the lengths up to each, in the
-- last of its runs
abbrev pub counted : ℕ → ℕ → List Range → ℕ
counted gang outer [] = 0
counted gang outer (r ∷ []) = outer * runs_for gang (length_of r)
counted gang outer (r ∷ rs) = outer * length_of r + counted gang (outer * length_of r) rs
