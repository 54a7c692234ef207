-- What operators make of a part, as of a row of which it is a part.
use Rattle.std.proofs.Common.{◌≡◌, ℕ, refl, ap, ◌∙◌}
use Rattle.isp_base.specs.declared.operators.Compare.{Compare}
use Rattle.isp_base.specs.declared.operators.Compare.TheVariants as compare
use Rattle.isp_base.specs.declared.operators.UnaryOp.{UnaryOp}
use Rattle.isp_base.specs.declared.operators.UnaryOp.TheVariants as unary
use Rattle.isp_base.specs.declared.types.Elem.{Elem}
use Rattle.isp_base.specs.declared.types.Elem.TheVariants.{Bool as Truth, I8, U8, I16, U16, I32, U32, I64, U64}
use Rattle.isp_wasm_meaning.specs.Syntax.{Shape, I8x16, I16x8, I32x4, I64x2, Expr, Bits, Xor, Lanes, Sub, Const128, Two, Bitselect}
use Rattle.isp_wasm.specs.Places.{shape_of}
use Rattle.isp_wasm.specs.Rows.{below_row, compare_row, unary_row, widened, ones}
use Rattle.isp_wasm_binary.specs.Instructions.{expr_bytes}
use Rattle.isp_wasm_vectors.specs.reader.Parts.{byte_part}

pub below_is : (t : Elem) (x y : ℕ → Expr) (j : ℕ) → below_row t (λ _. x j) (λ _. y j) 0 ≡ below_row t x y j
below_is Truth x y j = refl
below_is I8 x y j = refl
below_is U8 x y j = refl
below_is I16 x y j = refl
below_is U16 x y j = refl
below_is I32 x y j = refl
below_is U32 x y j = refl
below_is I64 x y j = refl
below_is U64 x y j = refl

pub compare_is : (o : Compare) (t : Elem) (x y : ℕ → Expr) (j : ℕ) → compare_row o t (λ _. x j) (λ _. y j) 0 ≡ compare_row o t x y j
compare_is compare.Equal t x y j = refl
compare_is compare.NotEqual t x y j = refl
compare_is compare.Less t x y j = below_is t x y j
compare_is compare.LessOrEqual t x y j = ap (λ e. Two (Bits Xor) e ones) (below_is t y x j)
compare_is compare.Greater t x y j = below_is t y x j
compare_is compare.GreaterOrEqual t x y j = ap (λ e. Two (Bits Xor) e ones) (below_is t x y j)

pub unary_is : (o : UnaryOp) (t : Elem) (x : ℕ → Expr) (j : ℕ) → unary_row o t (λ _. x j) 0 ≡ unary_row o t x j
unary_is unary.Negate t x j = refl
unary_is unary.Invert t x j = refl
unary_is unary.Absolute t x j = ap (Bitselect (Two (Lanes (shape_of t) Sub) (Const128 0) (x j)) (x j)) (below_is t x (λ _. Const128 0) j)
unary_is unary.Not t x j = refl

widened_is : (s : Shape) (e : ℕ → Expr) (j : ℕ) → widened s (λ _. e (byte_part s j)) j ≡ widened s e j
widened_is I8x16 e j = refl
widened_is I16x8 e j = refl
widened_is I32x4 e j = refl
widened_is I64x2 e j = refl

-- ---- of parts that are there already

pub below_from : (t : Elem) (a b : Expr) (x y : ℕ → Expr) (j : ℕ) → a ≡ x j → b ≡ y j → expr_bytes (below_row t (λ _. a) (λ _. b) 0) ≡ expr_bytes (below_row t x y j)
below_from t a b x y j p q = ap (λ e. expr_bytes (below_row t (λ _. e) (λ _. b) 0)) p ∙ ap (λ e. expr_bytes (below_row t (λ _. x j) (λ _. e) 0)) q ∙ ap expr_bytes (below_is t x y j)

pub compare_from : (o : Compare) (t : Elem) (a b : Expr) (x y : ℕ → Expr) (j : ℕ)
    → a ≡ x j → b ≡ y j → expr_bytes (compare_row o t (λ _. a) (λ _. b) 0) ≡ expr_bytes (compare_row o t x y j)
compare_from o t a b x y j p q =
    ap (λ e. expr_bytes (compare_row o t (λ _. e) (λ _. b) 0)) p ∙ ap (λ e. expr_bytes (compare_row o t (λ _. x j) (λ _. e) 0)) q ∙ ap expr_bytes (compare_is o t x y j)

pub unary_from : (o : UnaryOp) (t : Elem) (a : Expr) (x : ℕ → Expr) (j : ℕ) → a ≡ x j → expr_bytes (unary_row o t (λ _. a) 0) ≡ expr_bytes (unary_row o t x j)
unary_from o t a x j p = ap (λ e. expr_bytes (unary_row o t (λ _. e) 0)) p ∙ ap expr_bytes (unary_is o t x j)

pub widened_from : (s : Shape) (a : Expr) (e : ℕ → Expr) (j : ℕ) → a ≡ e (byte_part s j) → expr_bytes (widened s (λ _. a) j) ≡ expr_bytes (widened s e j)
widened_from s a e j p = ap (λ b. expr_bytes (widened s (λ _. b) j)) p ∙ ap expr_bytes (widened_is s e j)
