-- How the runs of instances, each alone from the same arrays, touched an element, taken together one run after the other.
use Rattle.std.specs.Prelude.{◌≡◌, ℕ, zero, suc, ◌<◌, Bool, true, false, ◌||◌, List, Option, Some, None, is_some, length}
use Rattle.std.proofs.Common.{Vec, Global}
use Rattle.isp_solo_meaning.specs.Answers.{Answer, reached}
use Rattle.isp_solo_meaning.specs.Touched.{Clash}
use Rattle.isp_gang_values.specs.Growing.{at_each}
use Rattle.isp_solo_run.specs.declared.touches.Touch.{Touch}
use Rattle.isp_solo_run.specs.declared.touches.Touch.TheVariants.{Nobody, One, Several}

-- one more instance touched it, and stored there or not
abbrev pub joined : Touch → ℕ → Bool → Touch
joined Nobody p stored = One p stored
joined (One q before) p stored = Several (before || stored)
joined (Several before) p stored = Several (before || stored)

-- one more instance read it or not, and stored there or not
abbrev pub touched : Touch → ℕ → Bool → Bool → Touch
touched t p false false = t
touched t p true false = joined t p false
touched t p false true = joined t p true
touched t p true true = joined t p true

-- by the first n instances
abbrev pub touched_by : (ℕ → Answer ℕ) → ℕ → ℕ → ℕ → Touch
touched_by run zero b e = Nobody
touched_by run (suc n) b e = touched (touched_by run n b e) n ((reached (run n)).read b e) (is_some ((reached (run n)).wrote b e))

-- two touched it, and one stored there
abbrev pub is_clash : Touch → Bool
is_clash Nobody = false
is_clash (One p stored) = false
is_clash (Several stored) = stored

-- That is so exactly where two instances clash.
abbrev pub ClashesAreFound : Type 0
ClashesAreFound =
    (run : ℕ → Answer ℕ) (gang b e : ℕ)
    → (is_clash (touched_by run gang b e) ≡ true → Clash gang run b e) × (Clash gang run b e → is_clash (touched_by run gang b e) ≡ true)

-- ---- lists of touches, by store and element

abbrev pub touch_in : List Touch → ℕ → Touch
touch_in = at_each (λ t. t) Nobody

abbrev pub touch_seen : List (Vec Touch Global) → ℕ → ℕ → Touch
touch_seen = at_each (λ v. touch_in v.items) (λ e. Nobody)

-- the first place at which instances clash, if there is one
abbrev pub FirstClash : List Touch → Option ℕ → Type 0
FirstClash ts None = (e : ℕ) → e < length ts → is_clash (touch_in ts e) ≡ false
FirstClash ts (Some n) = (n < length ts) × (is_clash (touch_in ts n) ≡ true) × ((e : ℕ) → e < n → is_clash (touch_in ts e) ≡ false)
