-- The bytes after lanes that are made those of another type.
use Rattle.std.proofs.Common.{◌≡◌, ℕ, ◌++◌, ◌-◌, ◌^◌, ◌<◌, ◌≤◌, Bool, true, false, refl, sym, arith, append-nil, lit≤}
use Rattle.std.specs.Prelude.{if◌then◌else◌, nat_lt, []}
use Rattle.isp_base.specs.Values.{width}
use Rattle.isp_base.specs.declared.types.Elem.{Elem}
use Rattle.isp_base.specs.declared.types.Elem.TheVariants.{Bool as Truth, I8, U8, I16, U16, I32, U32, I64, U64}
use Rattle.isp_wasm_meaning.specs.Meaning.{of_lanes, wide}
use Rattle.isp_wasm_meaning.specs.Syntax.{And, Bits, Expr, Const128, Two}
use Rattle.isp_wasm.specs.Places.{shape_of}
use Rattle.isp_wasm.specs.Rows.{without_sign}
use Rattle.isp_wasm_binary.specs.Instructions.{expr_bytes}
use Rattle.isp_wasm_binary.specs.Operators.{binary_bytes}
use Rattle.isp_wasm_vectors.specs.reader.Tails.{unsigned_tail}

lane_holds : (t : Elem) → width t ≤ wide (shape_of t)
lane_holds Truth = lit≤ tt
lane_holds I8 = lit≤ tt
lane_holds U8 = lit≤ tt
lane_holds I16 = lit≤ tt
lane_holds U16 = lit≤ tt
lane_holds I32 = lit≤ tt
lane_holds U32 = lit≤ tt
lane_holds I64 = lit≤ tt
lane_holds U64 = lit≤ tt

-- a lane has room for values of a narrower type
pub value_fits : (t u : Elem) → width t < width u → width t < wide (shape_of u)
value_fits t u h = let low = lane_holds u in omega (arith, h, low)

masked_bytes : (b : Bool) (x : Expr) (n : ℕ)
    → expr_bytes (if b then Two (Bits And) x (Const128 n) else x) ≡ expr_bytes x ++ (if b then expr_bytes (Const128 n) ++ binary_bytes (Bits And) else [])
masked_bytes true x n = refl
masked_bytes false x n = sym (append-nil (expr_bytes x))

pub without_sign_bytes : (t u : Elem) (e : ℕ → Expr) (j : ℕ) → expr_bytes (without_sign t u e j) ≡ expr_bytes (e j) ++ unsigned_tail t u
without_sign_bytes I8 u e j = sym (append-nil (expr_bytes (e j)))
without_sign_bytes I16 u e j = sym (append-nil (expr_bytes (e j)))
without_sign_bytes I32 u e j = sym (append-nil (expr_bytes (e j)))
without_sign_bytes I64 u e j = sym (append-nil (expr_bytes (e j)))
without_sign_bytes Truth u e j = masked_bytes (nat_lt 1 (width u)) (e j) (of_lanes (shape_of u) (λ i. 2 ^ 1 - 1))
without_sign_bytes U8 u e j = masked_bytes (nat_lt 8 (width u)) (e j) (of_lanes (shape_of u) (λ i. 2 ^ 8 - 1))
without_sign_bytes U16 u e j = masked_bytes (nat_lt 16 (width u)) (e j) (of_lanes (shape_of u) (λ i. 2 ^ 16 - 1))
without_sign_bytes U32 u e j = masked_bytes (nat_lt 32 (width u)) (e j) (of_lanes (shape_of u) (λ i. 2 ^ 32 - 1))
without_sign_bytes U64 u e j = masked_bytes (nat_lt 64 (width u)) (e j) (of_lanes (shape_of u) (λ i. 2 ^ 64 - 1))
