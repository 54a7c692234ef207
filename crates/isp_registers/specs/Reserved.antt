-- What a walk reserves: what was there stays, and what is asked for is there. The variables of a function and what it gives
-- back have their registers from its beginning, so of these nothing is reserved.
use Rattle.std.specs.Prelude.{◌≡◌, ◌<◌, ◌≤◌, ◌+◌, ℕ}
use Rattle.isp_base.specs.declared.types.Elem.{Elem}
use Rattle.isp_base.specs.declared.types.Elem.TheVariants.{Bool as Truth, I32}
use Rattle.isp_base.specs.declared.types.Rate.{Rate}
use Rattle.isp_base.specs.declared.types.Rate.TheVariants.{Uniform, Varying}
use Rattle.isp_base.specs.declared.types.Ty.{Ty}
use Rattle.isp_typed.specs.Typed.{TBase, TExpr, base_array, type_of}
use Rattle.isp_lower_code.specs.Asks.{Ask, Both, Register, Number, Loads, All, base_asks, expr_asks, operand_asks, operands_asks, sides_ask, spare_ask, test_asks, first_slot, second_slot}
use Rattle.isp_registers.specs.Growth.{Grows, HasArray, HasLoaded, HasRow, rows_of}
use Rattle.isp_lower_code.specs.Room.{GrowsBy, masks_with, registers_asked}
use Rattle.isp_lower_code.specs.Rows.{Name, Variable, Result, Spare, Place, Fresh, Kept}
use Rattle.isp_lower_code.specs.Tables.{AnyArray}
use Rattle.isp_registers.specs.declared.registers.Registers.{Registers}
use Rattle.isp_registers.specs.declared.reserve.Reserve.{Reserve}

abbrev pub Has : Reserve → Ask → Type 0
Has r a = All (HasRow r.registers) (HasArray r.registers) (HasArray r.registers) (λ k. k < r.masks) (HasLoaded r.registers) a

-- a register is there if it is a spare one
abbrev pub HasSpare : Registers → Rate → Name → Elem → Type 0
HasSpare r rate (Variable v) t = Unit {0}
HasSpare r rate Result t = Unit {0}
HasSpare r rate (Spare u j) t = HasRow r rate (Spare u j) t
HasSpare r rate Place t = HasRow r rate Place t
HasSpare r rate (Fresh j) t = HasRow r rate (Fresh j) t
HasSpare r rate (Kept u b) t = HasRow r rate (Kept u b) t

abbrev pub IsReserved : Reserve → Ask → Type 0
IsReserved r a = All (HasSpare r.registers) AnyArray AnyArray (λ k. k < r.masks) (HasLoaded r.registers) a

-- ---- what a walk gives: what was there stays, what is asked for is there, and no more registers and masks are added than that; arrays are not added

pub record Gives (old new : Reserve) (a : Ask) : Type 0 where
  pub rows : Grows old.registers new.registers
  pub masks : old.masks ≤ new.masks
  pub has : IsReserved new a
  pub few : GrowsBy (registers_asked a) (rows_of old.registers) (rows_of new.registers)
  pub masks_are : new.masks ≡ masks_with old.masks a

-- ---- what single walks ask for: of two bools, of a choice, and of packed calls

abbrev pub logic_asks : Rate → TExpr → TExpr → ℕ → Ask
logic_asks r x y n = Both (spare_ask r Truth n) (Both (test_asks r n) (operands_asks r x y n))

abbrev pub choice_asks : Ty → TExpr → TExpr → TExpr → ℕ → Ask
choice_asks t c x y n =
    let i = first_slot (type_of c).rate n in
    let j = second_slot (type_of c).rate n in
    Both (spare_ask t.rate t.elem n) (Both (expr_asks c n) (Both (operand_asks t.rate x i) (Both (operand_asks t.rate y j) (sides_ask (type_of c).rate n))))

abbrev pub packed_store_asks : TBase → TExpr → ℕ → Ask
packed_store_asks b x n = Both (spare_ask Uniform I32 n) (Both (base_asks b n) (Both (Number (n + 1)) (operand_asks Varying x (n + 1))))

abbrev pub packed_load_asks : TBase → ℕ → ℕ → Ask
packed_load_asks b v n = Both (spare_ask Uniform I32 n) (Both (base_asks b n) (Both (Register Varying (Variable v) (base_array b).ty.elem) (Loads v)))
