-- A jump where a test is passed.
use Rattle.std.proofs.Common.{◌≡◌, ℕ, suc, ◌+◌, ◌++◌, refl, ap, ◌∙◌, arith}
use Rattle.isp_code.specs.declared.instr.Instr.TheVariants as instrs
use Rattle.isp_code.specs.declared.instr.JumpTest.{JumpTest}
use Rattle.isp_code.specs.declared.instr.JumpTest.TheVariants as jump
use Rattle.isp_code.specs.declared.register.Register.{Register}
use Rattle.isp_forms.specs.declared.form.Form.TheVariants.{Kept}
use Rattle.isp_wasm.specs.Places.{Setting}
use Rattle.isp_wasm.specs.Templates.{code_of, jump_to}
use Rattle.isp_wasm_binary.specs.Instructions.{code_bytes, expr_bytes, word_bytes, If_word, End_word}
use Rattle.isp_wasm_write.specs.reader.Jumps.{test_expr}

by_test : (w : Setting) (t : JumpTest) (x : Register) (depth to : ℕ)
    → code_bytes (code_of w depth Kept (instrs.JumpIf t x to)) ≡ expr_bytes (test_expr w t x) ++ (word_bytes If_word ++ (code_bytes (jump_to w (suc depth) to) ++ word_bytes End_word))
by_test w jump.False x depth to = refl
by_test w jump.True x depth to = refl
by_test w jump.Off x depth to = refl
by_test w jump.On x depth to = refl
by_test w jump.All x depth to = refl

pub tested_is : (w : Setting) (t : JumpTest) (x : Register) (depth to : ℕ)
    → code_bytes (code_of w depth Kept (instrs.JumpIf t x to)) ≡ expr_bytes (test_expr w t x) ++ (word_bytes If_word ++ (code_bytes (jump_to w (depth + 1) to) ++ word_bytes End_word))
tested_is w t x depth to =
    by_test w t x depth to ∙ ap (λ n. expr_bytes (test_expr w t x) ++ (word_bytes If_word ++ (code_bytes (jump_to w n to) ++ word_bytes End_word))) (let same : suc depth ≡ depth + 1 = omega arith in same)
