-- How all elements of all arrays were touched, by array and element, and the first at which two clash.
use Rattle.std.specs.Prelude.{◌≡◌, ℕ, ◌<◌, List, Option, Some, None, true, false}
use Rattle.isp_gang_values.specs.Growing.{at_each}
use Rattle.isp_solo_run.specs.Touches.{is_clash}
use Rattle.isp_solo_run.specs.declared.touches.Touch.{Touch}
use Rattle.isp_solo_run.specs.declared.touches.Touch.TheVariants.{Nobody}
use Rattle.isp_solo.specs.declared.touched.Touched.{Touched}

abbrev pub touched_at : Touched → ℕ → Touch
touched_at t = at_each (λ x. x) t.others t.first.items

abbrev pub touched_seen : List Touched → ℕ → ℕ → Touch
touched_seen = at_each touched_at (λ e. Nobody)

-- the first element of an array at which two clash, if there is one
abbrev pub FirstAt : (ℕ → Touch) → Option ℕ → Type 0
FirstAt t None = (e : ℕ) → is_clash (t e) ≡ false
FirstAt t (Some n) = (is_clash (t n) ≡ true) × ((e : ℕ) → e < n → is_clash (t e) ≡ false)

-- likewise the first of all arrays, by array and element
abbrev pub FirstOfAll : (ℕ → ℕ → Touch) → Option (ℕ × ℕ) → Type 0
FirstOfAll t None = (b e : ℕ) → is_clash (t b e) ≡ false
FirstOfAll t (Some x) =
    (is_clash (t x.0 x.1) ≡ true) × ((b e : ℕ) → b < x.0 → is_clash (t b e) ≡ false) × ((e : ℕ) → e < x.1 → is_clash (t x.0 e) ≡ false)
