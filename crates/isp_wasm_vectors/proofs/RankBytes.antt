-- How many lanes a mask has, with one lane more.
use Rattle.std.proofs.Common.{◌≡◌, ℕ, ◌+◌, ◌++◌, ap, add-one}
use Rattle.isp_code.specs.declared.register.Register.{Register}
use Rattle.isp_wasm_meaning.specs.Syntax.{I32, I64, Add, And, ExtendU, Of, BitsOf, Const32, One, Two}
use Rattle.isp_wasm.specs.Places.{Setting}
use Rattle.isp_wasm.specs.Templates.{is_member, rank_expr}
use Rattle.isp_wasm_binary.specs.Operators.{binary_bytes}
use Rattle.isp_wasm_binary.specs.Instructions.{expr_bytes}

pub one_more_ranked : (w : Setting) (k : Register) (n : ℕ)
    → expr_bytes (rank_expr w k (n + 1)) ≡ expr_bytes (rank_expr w k n) ++ (expr_bytes (One ExtendU (Two (BitsOf I32 And) (is_member w k n) (Const32 1))) ++ binary_bytes (Of I64 Add))
one_more_ranked w k n = ap (λ m. expr_bytes (rank_expr w k m)) (add-one n)
