-- A function begins with the constants that its layout keeps: a scalar gets one by `const`, a vector by a `splat` of a spare scalar of slot n under
-- mask n, which has every lane of the gang.
use Rattle.std.specs.Prelude.{◌≡◌, ◌≤◌, ◌⊎◌, ℕ, ◌+◌, List, [], ◌∷◌, ◌++◌, true}
use Rattle.isp_base.specs.declared.types.Elem.{Elem}
use Rattle.isp_base.specs.declared.types.Rate.{Rate}
use Rattle.isp_base.specs.declared.types.Rate.TheVariants.{Uniform, Varying}
use Rattle.isp_code.specs.declared.instr.Instr.{Instr}
use Rattle.isp_lower_code.specs.Asks.{Ask, Nothing, Both, MaskOf, spare_ask}
use Rattle.isp_lower_code.specs.Instructions.{constant, splat}
use Rattle.isp_lower_code.specs.Layout.{Layout}
use Rattle.isp_lower_code.specs.declared.constant.Constant.{Constant}
use Rattle.isp_masks_code.specs.Rounds.{fill_mask}

-- ---- the code

module _ (l : Layout) (n : ℕ) where
  abbrev pub keep_at : Rate → Elem → ℕ → List Instr
  keep_at Uniform t b = constant (l.constant Uniform t b) t b ∷ []
  keep_at Varying t b = constant (l.spare Uniform t n) t b ∷ (splat (l.constant Varying t b) (l.spare Uniform t n) n ∷ [])

  abbrev pub keep_code : List Constant → List Instr
  keep_code [] = []
  keep_code (x ∷ xs) = keep_at x.rate x.elem x.bits ++ keep_code xs

  -- nothing, where nothing is kept
  abbrev pub constants_code : List Constant → List Instr
  constants_code [] = []
  constants_code (x ∷ xs) = fill_mask n ∷ keep_code (x ∷ xs)

-- how many instructions keep them
abbrev pub steps_at : Rate → ℕ
steps_at Uniform = 1
steps_at Varying = 2

abbrev pub keep_steps : List Constant → ℕ
keep_steps [] = 0
keep_steps (x ∷ xs) = steps_at x.rate + keep_steps xs

-- what it asks for
abbrev pub constants_asks : ℕ → List Constant → Ask
constants_asks n [] = Nothing
constants_asks n (x ∷ xs) = Both (MaskOf n) (Both (spare_ask Uniform x.elem n) (constants_asks n xs))

-- ---- the constants that are kept

abbrev pub Each : (Constant → Type 0) → List Constant → Type 0
Each P [] = Unit {0}
Each P (x ∷ xs) = P x × Each P xs

abbrev pub IsIn : List Constant → Constant → Type 0
IsIn [] x = ⊥
IsIn (y ∷ ys) x = (y ≡ x) ⊎ IsIn ys x

-- a layout keeps these and no other ones, and the code that makes them is short
pub record KeepsThem (l : Layout) (ks : List Constant) : Type 0 where
  pub all : Each (λ x. l.kept x.rate x.elem x.bits ≡ true) ks
  pub only : (r : Rate) (t : Elem) (b : ℕ) → l.kept r t b ≡ true → IsIn ks (record { rate = r; elem = t; bits = b })
  pub short : keep_steps ks ≤ 24
