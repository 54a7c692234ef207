-- All that is slow in a program with its code, told in the order of the places.
--     IsHint      an access of the code is slow, or a loop of the program
--     Before      which of two hints is told first
--     AreHints    all of them, each once
use Rattle.std.specs.Prelude.{◌≡◌, ◌<◌, ◌↔◌, ◌⊎◌, ℕ, List, AllPairs, Contains}
use Rattle.isp_code.specs.Listing.{Listing}
use Rattle.isp_typed.specs.Typed.{Program}
use Rattle.isp_hints.specs.Accesses.{accesses_of}
use Rattle.isp_hints.specs.Loops.{loops_of}
use Rattle.isp_hints.specs.declared.hint.Hint.{Hint}
use Rattle.isp_hints.specs.declared.hint.Slow.{Slow}
use Rattle.isp_hints.specs.declared.hint.Slow.TheVariants.{Gathered, Scattered, Parted, LeftOff}

abbrev pub IsHint : Listing → Program → Hint → Type 0
IsHint code program h = Contains (accesses_of code) h ⊎ Contains (loops_of program) h

-- which kind is told first of one place
abbrev pub number_of : Slow → ℕ
number_of Gathered = 0
number_of Scattered = 1
number_of Parted = 2
number_of LeftOff = 3

-- by where their places start, then by where these end, then by their kinds; so no hint is told before itself
pub record Before (f g : Hint) : Type 0 where
  pub order : (f.place.start < g.place.start) ⊎ ((f.place.start ≡ g.place.start) × ((f.place.end < g.place.end) ⊎ ((f.place.end ≡ g.place.end) × (number_of f.slow < number_of g.slow))))

-- the hints that there are and no other, each before those that follow it
pub record AreHints (code : Listing) (program : Program) (xs : List Hint) : Type 0 where
  pub listed : (h : Hint) → Contains xs h ↔ IsHint code program h
  pub ordered : AllPairs Before xs
