-- The constant that an expression is, if it is one, converted or not; and code that is left out where that constant is kept.
use Rattle.std.specs.Prelude.{ℕ, [], List, Option, Some, None, Bool, true, false}
use Rattle.isp_base.specs.declared.types.Elem.{Elem}
use Rattle.isp_base.specs.declared.types.Value.{Value}
use Rattle.isp_code.specs.declared.instr.Instr.{Instr}
use Rattle.isp_typed.specs.Typed.{TExpr, t_constant, t_convert}
use Rattle.isp_meaning.specs.Payloads.{converted}

abbrev pub constant_of : TExpr → Option Value
constant_of (t_constant v sp) = Some v
constant_of x = None

-- the constant that an expression is, converted or not
abbrev pub known_as : Elem → Option Value → Option Value
known_as e None = None
known_as e (Some v) = Some (record { elem = e; bits = converted v.elem e v.bits })

abbrev pub known : TExpr → Option Value
known (t_constant v sp) = Some v
known (t_convert e x) = known_as e (constant_of x)
known x = None

-- a constant as one of a type, and code that is left out where it is kept
abbrev pub bits_as : Option Value → Elem → ℕ
bits_as None e = 0
bits_as (Some v) e = converted v.elem e v.bits

abbrev pub unless_kept : Bool → List Instr → List Instr
unless_kept true code = []
unless_kept false code = code
