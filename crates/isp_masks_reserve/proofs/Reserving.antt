-- What a walk is given without reserving it: a variable has its register from the beginning, and a number takes none.
use Rattle.std.proofs.Common.{ℕ, ◌<◌, refl, arith}
use Rattle.isp_base.specs.declared.types.Elem.{Elem}
use Rattle.isp_base.specs.declared.types.Rate.{Rate}
use Rattle.isp_lower_code.specs.Asks.{Number, Register}
use Rattle.isp_registers.specs.Reserved.{Gives}
use Rattle.isp_lower_code.specs.Rows.{Variable}
use Rattle.isp_registers.specs.declared.reserve.Reserve.{Reserve}
use Rattle.isp_registers.proofs.Lemmas.{gives_none}

pub variable_reserved : (a : Reserve) (r : Rate) (v : ℕ) (t : Elem) → Gives a a (Register r (Variable v) t)
variable_reserved a r v t =
    let none = gives_none a in
    record { rows = none.rows; masks = none.masks; has = tt; few = record { scalars = omega arith; vectors = omega arith; arrays = refl }; masks_are = refl }

pub number_reserved : (a : Reserve) (k : ℕ) → k < 4294967296 → Gives a a (Number k)
number_reserved a k low =
    let none = gives_none a in
    record { rows = none.rows; masks = none.masks; has = low; few = record { scalars = omega arith; vectors = omega arith; arrays = refl }; masks_are = refl }
