-- What the verifier says of accepted code, and what else there is to ask of an instruction.
use Rattle.std.specs.Prelude.{◌≡◌, true, false}
use Rattle.isp_code.specs.Fine.{AllFine, CallFine, IsThere}
use Rattle.isp_code.specs.Operands.{operands}
use Rattle.isp_code.specs.Registers.{is_per_lane, is_local}
use Rattle.isp_code.specs.declared.instr.Instr.{Instr}
use Rattle.isp_code.specs.declared.instr.Instr.TheVariants as instr
use Rattle.isp_code.specs.declared.register.Class.TheVariants as class
use Rattle.isp_code.specs.declared.register.Register.{Register}
use Rattle.isp_wasm.specs.Places.{Setting, elem}
use Rattle.isp_wasm.specs.Thin.{IsArray, IsOpened, IsOwn, IsHead, IsThin}

module _ (w : Setting) where
  -- each array lies in memory as it is declared, also those that the function opens, and those of which each lane has its own
  pub record HasArrays : Type 0 where
    pub shared : (a : Register) → IsThere w.routine class.Array a → is_per_lane w.routine a ≡ false → IsArray w a (elem w a)
    pub opened : (a : Register) → IsThere w.routine class.Array a → is_per_lane w.routine a ≡ false → is_local w.routine a ≡ true → IsOpened w a
    pub own : (a : Register) → IsThere w.routine class.Array a → is_per_lane w.routine a ≡ true → IsOwn w a (elem w a)

  -- a form that has a template; a jump is to a rung, and a call fits what it calls
  abbrev pub HasTemplate : Instr → Type 0
  HasTemplate (instr.Call k) = CallFine w.code w.routine k
  HasTemplate (instr.Jump to) = IsHead w to
  HasTemplate (instr.JumpIf t x to) = IsHead w to
  HasTemplate i = Unit {0}

-- an instruction whose operands are as the table asks, as those of accepted code are
abbrev pub FineIsThin : Type 0
FineIsThin = (w : Setting) → HasArrays w → (i : Instr) → HasTemplate w i → AllFine w.code w.routine (operands i) → IsThin w i
