-- How much code asks for: numbers that can be had, registers for which there is room, and masks.
use Rattle.std.specs.Prelude.{◌≡◌, ◌<◌, ◌≤◌, ◌+◌, ℕ, length, max}
use Rattle.isp_lower_code.specs.Asks.{Ask, Nothing, Both, Register, ArrayOf, LocalOf, MaskOf, Number, Loads, All}
use Rattle.isp_lower_code.specs.Rows.{Rows}
use Rattle.isp_lower_code.specs.Tables.{AnyArray}

-- each number and each mask that is asked for can be had: none is too great
abbrev pub HasNumbers : Ask → Type 0
HasNumbers a = All (λ r x t. Unit {0}) AnyArray AnyArray (λ k. k < 4294967295) (λ v. Unit {0}) a

-- how many registers of a class are asked for at most
abbrev pub registers_asked : Ask → ℕ
registers_asked Nothing = 0
registers_asked (Both x y) = registers_asked x + registers_asked y
registers_asked (Register r x t) = 1
registers_asked (ArrayOf b) = 0
registers_asked (LocalOf b) = 0
registers_asked (MaskOf k) = 0
registers_asked (Number k) = 0
registers_asked (Loads v) = 0

-- how many masks there are once those that are asked for are there too
abbrev pub masks_with : ℕ → Ask → ℕ
masks_with m Nothing = m
masks_with m (Both x y) = masks_with (masks_with m x) y
masks_with m (Register r x t) = m
masks_with m (ArrayOf b) = m
masks_with m (LocalOf b) = m
masks_with m (MaskOf k) = max m (k + 1)
masks_with m (Number k) = m
masks_with m (Loads v) = m

-- the registers and arrays that are there leave room for what is asked for
pub record HasRoom (rows : Rows) (a : Ask) : Type 0 where
  pub scalars : length rows.scalars + registers_asked a ≤ 4294967295
  pub vectors : length rows.vectors + registers_asked a ≤ 4294967295
  pub arrays : length rows.arrays ≤ 4294967295

-- at most so many registers of each rate are added, and no array
pub record GrowsBy (n : ℕ) (old new : Rows) : Type 0 where
  pub scalars : length new.scalars ≤ length old.scalars + n
  pub vectors : length new.vectors ≤ length old.vectors + n
  pub arrays : new.arrays ≡ old.arrays
