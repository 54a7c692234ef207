-- The bytes of an operator's result over one more lane.
use Rattle.std.proofs.Common.{◌≡◌, ℕ, ◌+◌, ◌++◌, refl, ap, add-one, append_assoc, append-nil, sym, ◌∙◌}
use Rattle.isp_base.specs.declared.types.Elem.{Elem}
use Rattle.isp_base.specs.declared.types.Elem.TheVariants.{Bool as Truth, I8, U8, I16, U16, I32, U32, I64, U64}
use Rattle.isp_code.specs.declared.instr.Scan.{Scan}
use Rattle.isp_code.specs.declared.instr.Scan.TheVariants as scan
use Rattle.isp_wasm_meaning.specs.Syntax.{Add, Of, Expr, Two}
use Rattle.isp_wasm.specs.Places.{Setting, size_of}
use Rattle.isp_wasm.specs.Words.{cut, plain_expr}
use Rattle.isp_wasm_binary.specs.Instructions.{expr_bytes}
use Rattle.isp_wasm_write.specs.reader.Tails.{cut_tail}
use Rattle.isp_wasm_vectors.specs.declared.folds.Fold.{Fold}
use Rattle.isp_wasm_vectors.specs.reader.Across.{plain_of, taken_expr, fold_expr}
use Rattle.isp_wasm_vectors.specs.reader.Tails.{join_tail}

cut_bytes : (t : Elem) (x : Expr) → expr_bytes (cut t x) ≡ expr_bytes x ++ cut_tail t
cut_bytes I8 x = refl
cut_bytes U8 x = refl
cut_bytes I16 x = refl
cut_bytes U16 x = refl
cut_bytes Truth x = sym (append-nil (expr_bytes x))
cut_bytes I32 x = sym (append-nil (expr_bytes x))
cut_bytes U32 x = sym (append-nil (expr_bytes x))
cut_bytes I64 x = sym (append-nil (expr_bytes x))
cut_bytes U64 x = sym (append-nil (expr_bytes x))

pub join_bytes : (o : Scan) (t : Elem) (x y : Expr) → expr_bytes (plain_expr (plain_of o) t x y) ≡ expr_bytes x ++ (expr_bytes y ++ join_tail o t)
join_bytes scan.Add t x y = cut_bytes t (Two (Of (size_of t) Add) x y) ∙ simp append_assoc
join_bytes scan.And t x y = refl
join_bytes scan.Or t x y = refl

pub one_more : (w : Setting) (f : Fold) (n : ℕ) → expr_bytes (fold_expr w f (n + 1)) ≡ expr_bytes (fold_expr w f n) ++ (expr_bytes (taken_expr w f n) ++ join_tail f.op f.elem)
one_more w f n = ap (λ m. expr_bytes (fold_expr w f m)) (add-one n) ∙ join_bytes f.op f.elem (fold_expr w f n) (taken_expr w f n)
