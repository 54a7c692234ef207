-- The bytes of an expression whose value is cut or gets its sign: those of the value, and then what its type adds.
use Rattle.std.proofs.Common.{◌≡◌, ℕ, ◌++◌, refl, sym, append-nil, Bool, true, false, ◌%◌}
use Rattle.std.specs.Prelude.{nat_eq, if◌then◌else◌}
use Rattle.isp_base.specs.declared.types.Elem.{Elem}
use Rattle.isp_base.specs.declared.types.Elem.TheVariants.{Bool as Truth, I8, U8, I16, U16, I32, U32, I64, U64}
use Rattle.isp_wasm_meaning.specs.Syntax as wasm
use Rattle.isp_wasm_meaning.specs.Syntax.{ExtendLow, ExtendHigh, Expr, One}
use Rattle.isp_wasm_binary.specs.Operators.{unary_bytes}
use Rattle.isp_wasm_binary.specs.Instructions.{expr_bytes}
use Rattle.isp_wasm.specs.Words.{with_sign, cut, amount_of, longer, sized}
use Rattle.isp_wasm.specs.Rows.{half}
use Rattle.isp_wasm_write.specs.reader.Tails.{half_tail, sign_tail, cut_tail, amount_tail, longer_tail, sized_tail}

pub sign_bytes : (t : Elem) (x : Expr) → expr_bytes (with_sign t x) ≡ expr_bytes x ++ sign_tail t
sign_bytes I8 x = refl
sign_bytes I16 x = refl
sign_bytes Truth x = sym (append-nil (expr_bytes x))
sign_bytes U8 x = sym (append-nil (expr_bytes x))
sign_bytes U16 x = sym (append-nil (expr_bytes x))
sign_bytes I32 x = sym (append-nil (expr_bytes x))
sign_bytes U32 x = sym (append-nil (expr_bytes x))
sign_bytes I64 x = sym (append-nil (expr_bytes x))
sign_bytes U64 x = sym (append-nil (expr_bytes x))

pub cut_bytes : (t : Elem) (x : Expr) → expr_bytes (cut t x) ≡ expr_bytes x ++ cut_tail t
cut_bytes I8 x = refl
cut_bytes U8 x = refl
cut_bytes I16 x = refl
cut_bytes U16 x = refl
cut_bytes Truth x = sym (append-nil (expr_bytes x))
cut_bytes I32 x = sym (append-nil (expr_bytes x))
cut_bytes U32 x = sym (append-nil (expr_bytes x))
cut_bytes I64 x = sym (append-nil (expr_bytes x))
cut_bytes U64 x = sym (append-nil (expr_bytes x))

pub amount_bytes : (t : Elem) (x : Expr) → expr_bytes (amount_of t x) ≡ expr_bytes x ++ amount_tail t
amount_bytes I8 x = refl
amount_bytes U8 x = refl
amount_bytes I16 x = refl
amount_bytes U16 x = refl
amount_bytes Truth x = sym (append-nil (expr_bytes x))
amount_bytes I32 x = sym (append-nil (expr_bytes x))
amount_bytes U32 x = sym (append-nil (expr_bytes x))
amount_bytes I64 x = sym (append-nil (expr_bytes x))
amount_bytes U64 x = sym (append-nil (expr_bytes x))

pub longer_bytes : (t : Elem) (x : Expr) → expr_bytes (longer t x) ≡ expr_bytes x ++ longer_tail t
longer_bytes I8 x = refl
longer_bytes I16 x = refl
longer_bytes I32 x = refl
longer_bytes Truth x = refl
longer_bytes U8 x = refl
longer_bytes U16 x = refl
longer_bytes U32 x = refl
longer_bytes I64 x = refl
longer_bytes U64 x = refl

pub sized_bytes : (t : Elem) (a b : wasm.Size) (x : Expr) → expr_bytes (sized t a b x) ≡ expr_bytes x ++ sized_tail t a b
sized_bytes t wasm.I32 wasm.I64 x = longer_bytes t x
sized_bytes t wasm.I64 wasm.I32 x = refl
sized_bytes t wasm.I32 wasm.I32 x = sym (append-nil (expr_bytes x))
sized_bytes t wasm.I64 wasm.I64 x = sym (append-nil (expr_bytes x))

pub half_bytes : (s : wasm.Shape) (j : ℕ) (x : Expr) → expr_bytes (half s j x) ≡ expr_bytes x ++ half_tail s j
half_bytes s j x = by (nat_eq (j % 2) 0)
  where
    by : (b : Bool) → expr_bytes (if b then One (ExtendLow s) x else One (ExtendHigh s) x) ≡ expr_bytes x ++ (if b then unary_bytes (ExtendLow s) else unary_bytes (ExtendHigh s))
    by true = refl
    by false = refl
