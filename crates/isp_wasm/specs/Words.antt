-- The WebAssembly of one value. A value of 8 or 16 bits is held without its sign, a bool is 0 or 1: a local has the bits.
use Rattle.std.specs.Prelude.{ℕ, ◌-◌, ◌^◌}
use Rattle.isp_base.specs.Values.{width}
use Rattle.isp_base.specs.declared.operators.Compare.{Compare}
use Rattle.isp_base.specs.declared.operators.Compare.TheVariants as compare
use Rattle.isp_base.specs.declared.operators.UnaryOp.{UnaryOp}
use Rattle.isp_base.specs.declared.operators.UnaryOp.TheVariants as unary
use Rattle.isp_base.specs.declared.types.Elem.{Elem}
use Rattle.isp_base.specs.declared.types.Elem.TheVariants.{Bool as Truth, I8, U8, I16, U16, I32, I64}
use Rattle.isp_code.specs.declared.instr.Plain.{Plain}
use Rattle.isp_code.specs.declared.instr.Plain.TheVariants as plain
use Rattle.isp_wasm_meaning.specs.Syntax as wasm
use Rattle.isp_wasm_meaning.specs.Syntax.{Size, Whole, Add, Sub, Mul, Bitwise, And, Or, Xor, Shift, Shl, ShrU, ShrS, Test, Eq, Ne, LtU, LtS, Eqz, Wrap, ExtendU, ExtendS, Extend8S, Extend16S, Of, BitsOf, ShiftOf, Expr, Const32, Const64, One, Two, Select}
use Rattle.isp_wasm.specs.Places.{size_of}

abbrev pub constant : Size → ℕ → Expr
constant wasm.I32 n = Const32 n
constant wasm.I64 n = Const64 n

-- with its sign, where a value has fewer bits than its local
abbrev pub with_sign : Elem → Expr → Expr
with_sign I8 x = One Extend8S x
with_sign I16 x = One Extend16S x
with_sign t x = x

-- the low bits, of as many as a value has
abbrev pub cut : Elem → Expr → Expr
cut I8 x = Two (BitsOf wasm.I32 And) x (Const32 (2 ^ 8 - 1))
cut U8 x = Two (BitsOf wasm.I32 And) x (Const32 (2 ^ 8 - 1))
cut I16 x = Two (BitsOf wasm.I32 And) x (Const32 (2 ^ 16 - 1))
cut U16 x = Two (BitsOf wasm.I32 And) x (Const32 (2 ^ 16 - 1))
cut t x = x

-- a shift's amount, which WebAssembly takes modulo 32 or 64
abbrev pub amount_of : Elem → Expr → Expr
amount_of I8 x = Two (BitsOf wasm.I32 And) x (Const32 7)
amount_of U8 x = Two (BitsOf wasm.I32 And) x (Const32 7)
amount_of I16 x = Two (BitsOf wasm.I32 And) x (Const32 15)
amount_of U16 x = Two (BitsOf wasm.I32 And) x (Const32 15)
amount_of t x = x

-- below, and to the right, is for signed or unsigned numbers
abbrev pub less_of : Elem → Test
less_of I8 = LtS
less_of I16 = LtS
less_of I32 = LtS
less_of I64 = LtS
less_of t = LtU

abbrev pub right_of : Elem → Shift
right_of I8 = ShrS
right_of I16 = ShrS
right_of I32 = ShrS
right_of I64 = ShrS
right_of t = ShrU

abbrev pub below : Elem → Expr → Expr → Expr
below t x y = Two (wasm.Compare (size_of t) (less_of t)) (with_sign t x) (with_sign t y)

abbrev pub whole_expr : Elem → Whole → Expr → Expr → Expr
whole_expr t o x y = cut t (Two (Of (size_of t) o) x y)

abbrev pub plain_expr : Plain → Elem → Expr → Expr → Expr
plain_expr plain.Add t x y = whole_expr t Add x y
plain_expr plain.Sub t x y = whole_expr t Sub x y
plain_expr plain.Mul t x y = whole_expr t Mul x y
plain_expr plain.And t x y = Two (BitsOf (size_of t) And) x y
plain_expr plain.Or t x y = Two (BitsOf (size_of t) Or) x y
plain_expr plain.Xor t x y = Two (BitsOf (size_of t) Xor) x y
plain_expr plain.Shl t x y = cut t (Two (ShiftOf (size_of t) Shl) x (amount_of t y))
plain_expr plain.Shr t x y = cut t (Two (ShiftOf (size_of t) (right_of t)) (with_sign t x) (amount_of t y))
plain_expr plain.Min t x y = Select (below t y x) y x
plain_expr plain.Max t x y = Select (below t y x) x y

abbrev pub unary_expr : UnaryOp → Elem → Expr → Expr
unary_expr unary.Negate t x = whole_expr t Sub (constant (size_of t) 0) x
unary_expr unary.Invert t x = Two (BitsOf (size_of t) Xor) x (constant (size_of t) (2 ^ width t - 1))
unary_expr unary.Absolute t x = Select (below t x (constant (size_of t) 0)) (whole_expr t Sub (constant (size_of t) 0) x) x
unary_expr unary.Not t x = One (Eqz (size_of t)) x

abbrev pub compare_expr : Compare → Elem → Expr → Expr → Expr
compare_expr compare.Equal t x y = Two (wasm.Compare (size_of t) Eq) x y
compare_expr compare.NotEqual t x y = Two (wasm.Compare (size_of t) Ne) x y
compare_expr compare.Less t x y = below t x y
compare_expr compare.LessOrEqual t x y = One (Eqz wasm.I32) (below t y x)
compare_expr compare.Greater t x y = below t y x
compare_expr compare.GreaterOrEqual t x y = One (Eqz wasm.I32) (below t x y)

-- ---- conversions

abbrev pub longer : Elem → Expr → Expr
longer I8 x = One ExtendS x
longer I16 x = One ExtendS x
longer I32 x = One ExtendS x
longer t x = One ExtendU x

-- a number of 32 or 64 bits as one of another size
abbrev pub sized : Elem → Size → Size → Expr → Expr
sized t wasm.I32 wasm.I64 x = longer t x
sized t wasm.I64 wasm.I32 x = One Wrap x
sized t a b x = x

-- from a type to another
abbrev pub convert_expr : Elem → Elem → Expr → Expr
convert_expr t Truth x = Two (wasm.Compare (size_of t) Ne) x (constant (size_of t) 0)
convert_expr t u x = cut u (sized t (size_of t) (size_of u) (with_sign t x))
