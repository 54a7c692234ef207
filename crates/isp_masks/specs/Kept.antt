-- What becomes of a function's registers when constants are kept.
use Rattle.std.specs.Prelude.{◌≡◌, ◌≤◌, ◌⊎◌, ℕ, ◌+◌, List, length, true}
use Rattle.isp_base.specs.declared.types.Elem.{Elem}
use Rattle.isp_base.specs.declared.types.Rate.{Rate}
use Rattle.isp_registers.specs.Growth.{Longer, rows_of}
use Rattle.isp_lower_code.specs.Room.{GrowsBy}
use Rattle.isp_lower_code.specs.Rows.{keeps, rows_at}
use Rattle.isp_lower_code.specs.declared.constant.Constant.{Constant}
use Rattle.isp_registers.specs.declared.registers.Registers.{Registers}
use Rattle.isp_masks_code.specs.Keeping.{Each, IsIn}

-- registers keep these too
pub record KeepsAll (old new : Registers) (ks : List Constant) : Type 0 where
  pub rows : Longer old new
  pub all : Each (λ x. keeps (rows_at (rows_of new) x.rate) x.elem x.bits ≡ true) ks
  pub few : GrowsBy (length ks) (rows_of old) (rows_of new)
  pub only : (r : Rate) (t : Elem) (b : ℕ) → keeps (rows_at (rows_of new) r) t b ≡ true → (keeps (rows_at (rows_of old) r) t b ≡ true) ⊎ IsIn ks (record { rate = r; elem = t; bits = b })
