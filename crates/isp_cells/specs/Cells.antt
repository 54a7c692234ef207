-- What lanes find and leave in the places of an array. A cell is what stands at one place: a word that all lanes share, or a word
-- for each lane.
--     find c p      what lane p finds in a cell
--     with c p v    the cell after lane p has left v
use Rattle.std.specs.Prelude.{ℕ, zero, suc, List, [], ◌∷◌, Bool, true, false, slice_set}
use Rattle.isp_base.specs.Maps.{Lanes, lane_of}
use Rattle.isp_base.specs.Sets.{Mask}

-- what lane p finds at place e, 0 past the end
abbrev pub found : {A : Type 0} → (A → ℕ → ℕ) → List A → ℕ → ℕ → ℕ
found find [] e p = 0
found find (c ∷ cs) zero p = find c p
found find (c ∷ cs) (suc e) p = found find cs e p

-- a lane that is in the set leaves a word at place e
abbrev pub left : {A : Type 0} → (A → ℕ → ℕ → A) → Bool → ℕ → ℕ → ℕ → List A → List A
left with b e p v [] = []
left with false e p v (c ∷ cs) = c ∷ cs
left with true zero p v (c ∷ cs) = with c p v ∷ cs
left with true (suc e) p v (c ∷ cs) = c ∷ left with true e p v cs

-- the first n lanes of a set have left their words, the highest last
abbrev pub stored : {A : Type 0} → (A → ℕ → ℕ → A) → ℕ → Mask → Lanes → Lanes → List A → List A
stored with zero a x y cs = cs
stored with (suc n) a x y cs = left with (a n) (x n) n (y n) (stored with n a x y cs)

-- the word of all lanes, after one has left its own
abbrev pub word_with : ℕ → ℕ → ℕ → ℕ
word_with word lane bits = bits

-- a lane's word of a row
abbrev pub row_word : List ℕ → ℕ → ℕ
row_word words lane = lane_of words lane

abbrev pub row_with : List ℕ → ℕ → ℕ → List ℕ
row_with words lane bits = slice_set words lane bits

-- zero in the lanes of a set, in the first k places
abbrev pub cleared : {A : Type 0} → (A → ℕ → ℕ → A) → ℕ → Mask → ℕ → List A → List A
cleared with n a zero cs = cs
cleared with n a (suc k) cs = stored with n a (λ p. k) (λ p. 0) (cleared with n a k cs)
