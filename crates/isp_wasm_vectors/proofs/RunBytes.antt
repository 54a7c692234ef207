-- A loop over the lanes is code of some instruction, so an `if` whose second branch it is has an `else`.
use Rattle.std.proofs.Common.{◌≡◌, ℕ, ◌++◌, ◌&&◌, false, refl, sym, ap}
use Rattle.isp_base.specs.Types.{gang_width}
use Rattle.isp_base.specs.declared.types.Gang.{Gang}
use Rattle.isp_base.specs.declared.types.Gang.TheVariants.{W4, W8, W16, W32}
use Rattle.isp_code.specs.declared.register.Register.{Register}
use Rattle.isp_wasm_meaning.specs.Syntax.{Expr, Code, If, Skip}
use Rattle.isp_wasm.specs.Places.{Setting}
use Rattle.isp_wasm.specs.Templates.{each, lane_loop, lane_stores, run_index, is_member}
use Rattle.isp_wasm_vectors.specs.declared.runs.Run.{Run}
use Rattle.isp_wasm_vectors.specs.reader.Runs.{store_lanes}
use Rattle.isp_wasm_binary.specs.Instructions.{If_word, Else_word, End_word, code_bytes, expr_bytes, word_bytes, is_nothing, else_bytes}

loop_is_some : (g : Gang) (test : ℕ → Expr) (body : ℕ → Code) → is_nothing (each (gang_width g) (λ p. If (test p) (body p) Skip)) ≡ false
loop_is_some W4 test body = refl
loop_is_some W8 test body = refl
loop_is_some W16 test body = refl
loop_is_some W32 test body = refl

module _ (w : Setting) (k : Register) (body : ℕ → Code) where
  pub lanes_are_some : is_nothing (lane_loop w k body) ≡ false
  lanes_are_some = loop_is_some w.code.gang (is_member w k) body

-- checks and then stores
pub stores_are_some : (w : Setting) (r : Run) (y : Register) → is_nothing (store_lanes w r y) ≡ false
stores_are_some w r y = ap (λ b. b && is_nothing (lane_stores w r.array (run_index w r.index) y r.mask)) (lanes_are_some w r.mask _)

-- the bytes of an `if` whose second branch is code of some instruction
pub with_else : (c : Expr) (a b : Code) → is_nothing b ≡ false
    → expr_bytes c ++ (word_bytes If_word ++ (code_bytes a ++ ((word_bytes Else_word ++ code_bytes b) ++ word_bytes End_word))) ≡ code_bytes (If c a b)
with_else c a b h = ap (λ n. expr_bytes c ++ (word_bytes If_word ++ (code_bytes a ++ (else_bytes n (code_bytes b) ++ word_bytes End_word)))) (sym h)
