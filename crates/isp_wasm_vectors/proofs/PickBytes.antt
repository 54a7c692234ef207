-- The bytes of a choice of one more value.
use Rattle.std.proofs.Common.{◌≡◌, ℕ, suc, ◌+◌, ◌-◌, ◌++◌, ◌<◌, ap, sym, ◌∙◌, arith, add-one}
use Rattle.isp_code.specs.declared.register.Register.{Register}
use Rattle.isp_wasm_meaning.specs.Syntax.{I32, Eq, Compare, Const32}
use Rattle.isp_wasm.specs.Places.{Setting}
use Rattle.isp_wasm.specs.Templates.{first_value, is_member}
use Rattle.isp_wasm_binary.specs.Operators.{binary_bytes}
use Rattle.isp_wasm_binary.specs.Instructions.{Select_word, expr_bytes, word_bytes}
use Rattle.isp_wasm_vectors.specs.declared.picks.Pick.{Pick}
use Rattle.isp_wasm_vectors.specs.reader.Across.{lane_value, number_of, value_of, pick_expr}

module _ (w : Setting) where
  pick_at : (c : Pick) (n m : ℕ) → n ≡ m + 1
      → expr_bytes (pick_expr w c n) ≡ expr_bytes (value_of w c m) ++ (expr_bytes (pick_expr w c m)
      ++ ((expr_bytes (number_of w c) ++ (expr_bytes (Const32 m) ++ binary_bytes (Compare I32 Eq))) ++ word_bytes Select_word))
  pick_at c n m e = ap (λ k. expr_bytes (pick_expr w c k)) (e ∙ add-one m)

  pub pick_more : (c : Pick) (n : ℕ) → 0 < n
      → expr_bytes (pick_expr w c n) ≡ expr_bytes (value_of w c (n - 1)) ++ (expr_bytes (pick_expr w c (n - 1))
      ++ ((expr_bytes (number_of w c) ++ (expr_bytes (Const32 (n - 1)) ++ binary_bytes (Compare I32 Eq))) ++ word_bytes Select_word))
  pick_more c n h = pick_at c n (n - 1) (omega arith)

  first_at : (x k : Register) (n m p : ℕ) → n ≡ m + 1
      → expr_bytes (first_value w x k n p) ≡ expr_bytes (lane_value w x p) ++ (expr_bytes (first_value w x k m (suc p))
      ++ (expr_bytes (is_member w k p) ++ word_bytes Select_word))
  first_at x k n m p e = ap (λ i. expr_bytes (first_value w x k i p)) (e ∙ add-one m)

  pub first_more : (x k : Register) (n p : ℕ) → 0 < n
      → expr_bytes (first_value w x k n p) ≡ expr_bytes (lane_value w x p) ++ (expr_bytes (first_value w x k (n - 1) (p + 1))
      ++ (expr_bytes (is_member w k p) ++ word_bytes Select_word))
  first_more x k n p h =
      first_at x k n (n - 1) p (omega arith)
      ∙ ap (λ q. expr_bytes (lane_value w x p) ++ (expr_bytes (first_value w x k (n - 1) q) ++ (expr_bytes (is_member w k p) ++ word_bytes Select_word))) (sym (add-one p))
