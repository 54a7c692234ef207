-- A lane's own copy of an array, as the code names it.
use Rattle.std.specs.Prelude.{ℕ}
use Rattle.isp_code.specs.declared.register.Register.{Register}
use Rattle.isp_wasm_meaning.specs.Syntax.{Code, Const32, Skip, Clear, If}
use Rattle.isp_wasm.specs.Places.{Setting}
use Rattle.isp_wasm.specs.Templates.{is_member, base_at, opened_bytes}

-- it is zeroed, where a mask has the lane
abbrev pub member_zeroed : Setting → Register → Register → ℕ → Code
member_zeroed w a k p = If (is_member w k p) (Clear (base_at w a p) (Const32 (opened_bytes w a))) Skip
