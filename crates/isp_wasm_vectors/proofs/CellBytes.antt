-- The bytes of values that become lanes.
use Rattle.std.proofs.Common.{◌≡◌, ℕ, List, ◌+◌, ◌/◌, ◌%◌, ◌++◌, refl, ap, sym, ◌∙◌, add-one, append_assoc, append-nil}
use Rattle.isp_base.specs.declared.types.Elem.{Elem}
use Rattle.isp_base.specs.declared.types.Elem.TheVariants.{Bool as Truth, I8, U8, I16, U16, I32, U32, I64, U64}
use Rattle.isp_code.specs.declared.instr.VectorInstr.{VectorInstr}
use Rattle.isp_code.specs.declared.register.Register.{Register}
use Rattle.isp_wasm_meaning.specs.Meaning.{count}
use Rattle.isp_wasm_meaning.specs.Syntax.{Expr, Replace}
use Rattle.isp_wasm.specs.Places.{Setting, Vector, elem, shape}
use Rattle.isp_wasm.specs.Rows.{as_cell}
use Rattle.isp_wasm.specs.Templates.{set_lane, vector_local}
use Rattle.isp_wasm_binary.specs.Operators.{binary_bytes}
use Rattle.isp_wasm_binary.specs.Instructions.{Set_word, code_bytes, expr_bytes, word_bytes}
use Rattle.isp_wasm_vectors.specs.declared.quotients.Target.{Target}
use Rattle.isp_wasm_vectors.specs.declared.quotients.Target.TheVariants as target
use Rattle.isp_wasm_vectors.specs.reader.Quotients.{put, put_head, put_tail}
use Rattle.isp_wasm_vectors.specs.reader.Tails.{cell_head, cell_tail, lane_head, lane_tail}
use Rattle.isp_wasm_vectors.specs.reader.Vectors.{lane_of, laned_to, placed_tail}

around : (o h x t p s : List ℕ) → (o ++ ((h ++ (x ++ t)) ++ p)) ++ s ≡ (o ++ h) ++ (x ++ (t ++ (p ++ s)))
around o h x t p s = simp append_assoc

pub cell_bytes : (t : Elem) (x : Expr) → expr_bytes (as_cell t x) ≡ cell_head t ++ (expr_bytes x ++ cell_tail t)
cell_bytes Truth x = refl
cell_bytes I8 x = sym (append-nil (expr_bytes x))
cell_bytes U8 x = sym (append-nil (expr_bytes x))
cell_bytes I16 x = sym (append-nil (expr_bytes x))
cell_bytes U16 x = sym (append-nil (expr_bytes x))
cell_bytes I32 x = sym (append-nil (expr_bytes x))
cell_bytes U32 x = sym (append-nil (expr_bytes x))
cell_bytes I64 x = sym (append-nil (expr_bytes x))
cell_bytes U64 x = sym (append-nil (expr_bytes x))

module _ (w : Setting) where
  pub lane_bytes : (d : Register) (p : ℕ) (x : Expr) → code_bytes (set_lane w d p x) ≡ lane_head w d p ++ (expr_bytes x ++ lane_tail w d p)
  lane_bytes d p x =
      let t = elem w d in
      let n = count (shape w d) in
      let had = expr_bytes (vector_local w d (p / n)) in
      let put = binary_bytes (Replace (shape w d) (p % n)) in
      let set = word_bytes (Set_word (w.local (Vector d.number (p / n)))) in
      ap (λ bs. (had ++ (bs ++ put)) ++ set) (cell_bytes t x) ∙ around had (cell_head t) (expr_bytes x) (cell_tail t) put set

  pub put_bytes : (to : Target) (x : Expr) → code_bytes (put w to x) ≡ put_head w to ++ (expr_bytes x ++ put_tail w to)
  put_bytes (target.Scalar d) x = refl
  put_bytes (target.Lane d p) x = lane_bytes d p x

  -- one lane more
  pub one_more : (d : Register) (is : VectorInstr) (first n : ℕ)
      → expr_bytes (laned_to w d is first (n + 1)) ≡ expr_bytes (laned_to w d is first n) ++ placed_tail w d is first n
  one_more d is first n = ap (λ m. expr_bytes (laned_to w d is first m)) (add-one n) ∙ simp (cell_bytes (elem w d) (lane_of w d is (first + n)), append_assoc)
