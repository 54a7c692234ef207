-- What wat2wasm made of each instruction, and of a module, and that the definitions say the same. Written by tools/wasm_bytes.py.
use Rattle.std.proofs.Common.{◌≡◌, ◌^◌, ◌-◌, ◌+◌, ◌*◌, [], ◌∷◌, refl, Some, None, true, false}
use Rattle.std.specs.Prelude.{codes}
use Rattle.isp_wasm_meaning.specs.Lists.{evens}
use Rattle.isp_wasm_meaning.specs.Syntax.{I8x16, I16x8, I32x4, I64x2, I32, I64, Add, Sub, Mul, And, Or, Xor, Shl, ShrU, ShrS, Eq, Ne, LtU, LtS, DivU, RemU}
use Rattle.isp_wasm_meaning.specs.Syntax.{Eqz, Ctz, Wrap, ExtendU, ExtendS, Extend8S, Extend16S, Splat, Extract, ExtendLow, ExtendHigh, Bitmask}
use Rattle.isp_wasm_meaning.specs.Syntax.{Of, BitsOf, ShiftOf, Compare, Lanes, CompareLanes, ShiftLanes, Bits, Replace, Shuffle}
use Rattle.isp_wasm_meaning.specs.Syntax.{Const32, Const64, Const128, Local, One, Two, Select, Bitselect}
use Rattle.isp_wasm_meaning.specs.Syntax.{Skip, Then, Set, Load, Store, Divide, If, Block, Loop, Br, BrTable, Return, Unreachable, Call, Write, Fail}
use Rattle.isp_wasm_meaning.specs.Syntax.{SignedText, UnsignedText, TruthText, ByteText, Print, GetGlobal, SetGlobal, Clear}
use Rattle.isp_wasm_binary.specs.Numbers.{groups, u32, signed_groups, i32, i64, low_bytes, v128}
use Rattle.isp_wasm_binary.specs.Instructions.{code_bytes}
use Rattle.isp_wasm_binary.specs.Modules.{FunctionKind, MemoryKind, GlobalKind, sections_bytes}
use Rattle.isp_wasm_binary.specs.Binary.{bytes_of}
use Rattle.isp_wasm_meaning.specs.Module as types

add_i32 : code_bytes (Set 0 (Two (Of I32 Add) (Local 0) (Local 1))) ≡ 32 ∷ 0 ∷ 32 ∷ 1 ∷ 106 ∷ 33 ∷ 0 ∷ []
unfolding groups u32 signed_groups i32 i64 low_bytes v128
add_i32 = refl

sub_i32 : code_bytes (Set 0 (Two (Of I32 Sub) (Local 0) (Local 1))) ≡ 32 ∷ 0 ∷ 32 ∷ 1 ∷ 107 ∷ 33 ∷ 0 ∷ []
unfolding groups u32 signed_groups i32 i64 low_bytes v128
sub_i32 = refl

mul_i32 : code_bytes (Set 0 (Two (Of I32 Mul) (Local 0) (Local 1))) ≡ 32 ∷ 0 ∷ 32 ∷ 1 ∷ 108 ∷ 33 ∷ 0 ∷ []
unfolding groups u32 signed_groups i32 i64 low_bytes v128
mul_i32 = refl

and_i32 : code_bytes (Set 0 (Two (BitsOf I32 And) (Local 0) (Local 1))) ≡ 32 ∷ 0 ∷ 32 ∷ 1 ∷ 113 ∷ 33 ∷ 0 ∷ []
unfolding groups u32 signed_groups i32 i64 low_bytes v128
and_i32 = refl

or_i32 : code_bytes (Set 0 (Two (BitsOf I32 Or) (Local 0) (Local 1))) ≡ 32 ∷ 0 ∷ 32 ∷ 1 ∷ 114 ∷ 33 ∷ 0 ∷ []
unfolding groups u32 signed_groups i32 i64 low_bytes v128
or_i32 = refl

xor_i32 : code_bytes (Set 0 (Two (BitsOf I32 Xor) (Local 0) (Local 1))) ≡ 32 ∷ 0 ∷ 32 ∷ 1 ∷ 115 ∷ 33 ∷ 0 ∷ []
unfolding groups u32 signed_groups i32 i64 low_bytes v128
xor_i32 = refl

shl_i32 : code_bytes (Set 0 (Two (ShiftOf I32 Shl) (Local 0) (Local 1))) ≡ 32 ∷ 0 ∷ 32 ∷ 1 ∷ 116 ∷ 33 ∷ 0 ∷ []
unfolding groups u32 signed_groups i32 i64 low_bytes v128
shl_i32 = refl

shr_u_i32 : code_bytes (Set 0 (Two (ShiftOf I32 ShrU) (Local 0) (Local 1))) ≡ 32 ∷ 0 ∷ 32 ∷ 1 ∷ 118 ∷ 33 ∷ 0 ∷ []
unfolding groups u32 signed_groups i32 i64 low_bytes v128
shr_u_i32 = refl

shr_s_i32 : code_bytes (Set 0 (Two (ShiftOf I32 ShrS) (Local 0) (Local 1))) ≡ 32 ∷ 0 ∷ 32 ∷ 1 ∷ 117 ∷ 33 ∷ 0 ∷ []
unfolding groups u32 signed_groups i32 i64 low_bytes v128
shr_s_i32 = refl

eq_i32 : code_bytes (Set 0 (Two (Compare I32 Eq) (Local 0) (Local 1))) ≡ 32 ∷ 0 ∷ 32 ∷ 1 ∷ 70 ∷ 33 ∷ 0 ∷ []
unfolding groups u32 signed_groups i32 i64 low_bytes v128
eq_i32 = refl

ne_i32 : code_bytes (Set 0 (Two (Compare I32 Ne) (Local 0) (Local 1))) ≡ 32 ∷ 0 ∷ 32 ∷ 1 ∷ 71 ∷ 33 ∷ 0 ∷ []
unfolding groups u32 signed_groups i32 i64 low_bytes v128
ne_i32 = refl

lt_u_i32 : code_bytes (Set 0 (Two (Compare I32 LtU) (Local 0) (Local 1))) ≡ 32 ∷ 0 ∷ 32 ∷ 1 ∷ 73 ∷ 33 ∷ 0 ∷ []
unfolding groups u32 signed_groups i32 i64 low_bytes v128
lt_u_i32 = refl

lt_s_i32 : code_bytes (Set 0 (Two (Compare I32 LtS) (Local 0) (Local 1))) ≡ 32 ∷ 0 ∷ 32 ∷ 1 ∷ 72 ∷ 33 ∷ 0 ∷ []
unfolding groups u32 signed_groups i32 i64 low_bytes v128
lt_s_i32 = refl

div_u_i32 : code_bytes (Divide I32 DivU 0 (Local 0) (Local 1)) ≡ 32 ∷ 0 ∷ 32 ∷ 1 ∷ 110 ∷ 33 ∷ 0 ∷ []
unfolding groups u32 signed_groups i32 i64 low_bytes v128
div_u_i32 = refl

rem_u_i32 : code_bytes (Divide I32 RemU 0 (Local 0) (Local 1)) ≡ 32 ∷ 0 ∷ 32 ∷ 1 ∷ 112 ∷ 33 ∷ 0 ∷ []
unfolding groups u32 signed_groups i32 i64 low_bytes v128
rem_u_i32 = refl

eqz_i32 : code_bytes (Set 0 (One (Eqz I32) (Local 0))) ≡ 32 ∷ 0 ∷ 69 ∷ 33 ∷ 0 ∷ []
unfolding groups u32 signed_groups i32 i64 low_bytes v128
eqz_i32 = refl

ctz_i32 : code_bytes (Set 0 (One (Ctz I32) (Local 0))) ≡ 32 ∷ 0 ∷ 104 ∷ 33 ∷ 0 ∷ []
unfolding groups u32 signed_groups i32 i64 low_bytes v128
ctz_i32 = refl

add_i64 : code_bytes (Set 2 (Two (Of I64 Add) (Local 2) (Local 3))) ≡ 32 ∷ 2 ∷ 32 ∷ 3 ∷ 124 ∷ 33 ∷ 2 ∷ []
unfolding groups u32 signed_groups i32 i64 low_bytes v128
add_i64 = refl

sub_i64 : code_bytes (Set 2 (Two (Of I64 Sub) (Local 2) (Local 3))) ≡ 32 ∷ 2 ∷ 32 ∷ 3 ∷ 125 ∷ 33 ∷ 2 ∷ []
unfolding groups u32 signed_groups i32 i64 low_bytes v128
sub_i64 = refl

mul_i64 : code_bytes (Set 2 (Two (Of I64 Mul) (Local 2) (Local 3))) ≡ 32 ∷ 2 ∷ 32 ∷ 3 ∷ 126 ∷ 33 ∷ 2 ∷ []
unfolding groups u32 signed_groups i32 i64 low_bytes v128
mul_i64 = refl

and_i64 : code_bytes (Set 2 (Two (BitsOf I64 And) (Local 2) (Local 3))) ≡ 32 ∷ 2 ∷ 32 ∷ 3 ∷ 131 ∷ 33 ∷ 2 ∷ []
unfolding groups u32 signed_groups i32 i64 low_bytes v128
and_i64 = refl

or_i64 : code_bytes (Set 2 (Two (BitsOf I64 Or) (Local 2) (Local 3))) ≡ 32 ∷ 2 ∷ 32 ∷ 3 ∷ 132 ∷ 33 ∷ 2 ∷ []
unfolding groups u32 signed_groups i32 i64 low_bytes v128
or_i64 = refl

xor_i64 : code_bytes (Set 2 (Two (BitsOf I64 Xor) (Local 2) (Local 3))) ≡ 32 ∷ 2 ∷ 32 ∷ 3 ∷ 133 ∷ 33 ∷ 2 ∷ []
unfolding groups u32 signed_groups i32 i64 low_bytes v128
xor_i64 = refl

shl_i64 : code_bytes (Set 2 (Two (ShiftOf I64 Shl) (Local 2) (Local 3))) ≡ 32 ∷ 2 ∷ 32 ∷ 3 ∷ 134 ∷ 33 ∷ 2 ∷ []
unfolding groups u32 signed_groups i32 i64 low_bytes v128
shl_i64 = refl

shr_u_i64 : code_bytes (Set 2 (Two (ShiftOf I64 ShrU) (Local 2) (Local 3))) ≡ 32 ∷ 2 ∷ 32 ∷ 3 ∷ 136 ∷ 33 ∷ 2 ∷ []
unfolding groups u32 signed_groups i32 i64 low_bytes v128
shr_u_i64 = refl

shr_s_i64 : code_bytes (Set 2 (Two (ShiftOf I64 ShrS) (Local 2) (Local 3))) ≡ 32 ∷ 2 ∷ 32 ∷ 3 ∷ 135 ∷ 33 ∷ 2 ∷ []
unfolding groups u32 signed_groups i32 i64 low_bytes v128
shr_s_i64 = refl

eq_i64 : code_bytes (Set 0 (Two (Compare I64 Eq) (Local 2) (Local 3))) ≡ 32 ∷ 2 ∷ 32 ∷ 3 ∷ 81 ∷ 33 ∷ 0 ∷ []
unfolding groups u32 signed_groups i32 i64 low_bytes v128
eq_i64 = refl

ne_i64 : code_bytes (Set 0 (Two (Compare I64 Ne) (Local 2) (Local 3))) ≡ 32 ∷ 2 ∷ 32 ∷ 3 ∷ 82 ∷ 33 ∷ 0 ∷ []
unfolding groups u32 signed_groups i32 i64 low_bytes v128
ne_i64 = refl

lt_u_i64 : code_bytes (Set 0 (Two (Compare I64 LtU) (Local 2) (Local 3))) ≡ 32 ∷ 2 ∷ 32 ∷ 3 ∷ 84 ∷ 33 ∷ 0 ∷ []
unfolding groups u32 signed_groups i32 i64 low_bytes v128
lt_u_i64 = refl

lt_s_i64 : code_bytes (Set 0 (Two (Compare I64 LtS) (Local 2) (Local 3))) ≡ 32 ∷ 2 ∷ 32 ∷ 3 ∷ 83 ∷ 33 ∷ 0 ∷ []
unfolding groups u32 signed_groups i32 i64 low_bytes v128
lt_s_i64 = refl

div_u_i64 : code_bytes (Divide I64 DivU 2 (Local 2) (Local 3)) ≡ 32 ∷ 2 ∷ 32 ∷ 3 ∷ 128 ∷ 33 ∷ 2 ∷ []
unfolding groups u32 signed_groups i32 i64 low_bytes v128
div_u_i64 = refl

rem_u_i64 : code_bytes (Divide I64 RemU 2 (Local 2) (Local 3)) ≡ 32 ∷ 2 ∷ 32 ∷ 3 ∷ 130 ∷ 33 ∷ 2 ∷ []
unfolding groups u32 signed_groups i32 i64 low_bytes v128
rem_u_i64 = refl

eqz_i64 : code_bytes (Set 0 (One (Eqz I64) (Local 2))) ≡ 32 ∷ 2 ∷ 80 ∷ 33 ∷ 0 ∷ []
unfolding groups u32 signed_groups i32 i64 low_bytes v128
eqz_i64 = refl

ctz_i64 : code_bytes (Set 2 (One (Ctz I64) (Local 2))) ≡ 32 ∷ 2 ∷ 122 ∷ 33 ∷ 2 ∷ []
unfolding groups u32 signed_groups i32 i64 low_bytes v128
ctz_i64 = refl

wrap : code_bytes (Set 0 (One Wrap (Local 2))) ≡ 32 ∷ 2 ∷ 167 ∷ 33 ∷ 0 ∷ []
unfolding groups u32 signed_groups i32 i64 low_bytes v128
wrap = refl

extendu : code_bytes (Set 2 (One ExtendU (Local 0))) ≡ 32 ∷ 0 ∷ 173 ∷ 33 ∷ 2 ∷ []
unfolding groups u32 signed_groups i32 i64 low_bytes v128
extendu = refl

extends : code_bytes (Set 2 (One ExtendS (Local 0))) ≡ 32 ∷ 0 ∷ 172 ∷ 33 ∷ 2 ∷ []
unfolding groups u32 signed_groups i32 i64 low_bytes v128
extends = refl

extend8s : code_bytes (Set 0 (One Extend8S (Local 0))) ≡ 32 ∷ 0 ∷ 192 ∷ 33 ∷ 0 ∷ []
unfolding groups u32 signed_groups i32 i64 low_bytes v128
extend8s = refl

extend16s : code_bytes (Set 0 (One Extend16S (Local 0))) ≡ 32 ∷ 0 ∷ 193 ∷ 33 ∷ 0 ∷ []
unfolding groups u32 signed_groups i32 i64 low_bytes v128
extend16s = refl

i32_0 : code_bytes (Set 0 (Const32 0)) ≡ 65 ∷ 0 ∷ 33 ∷ 0 ∷ []
unfolding groups u32 signed_groups i32 i64 low_bytes v128
i32_0 = refl

i32_63 : code_bytes (Set 0 (Const32 63)) ≡ 65 ∷ 63 ∷ 33 ∷ 0 ∷ []
unfolding groups u32 signed_groups i32 i64 low_bytes v128
i32_63 = refl

i32_64 : code_bytes (Set 0 (Const32 64)) ≡ 65 ∷ 192 ∷ 0 ∷ 33 ∷ 0 ∷ []
unfolding groups u32 signed_groups i32 i64 low_bytes v128
i32_64 = refl

i32_127 : code_bytes (Set 0 (Const32 127)) ≡ 65 ∷ 255 ∷ 0 ∷ 33 ∷ 0 ∷ []
unfolding groups u32 signed_groups i32 i64 low_bytes v128
i32_127 = refl

i32_128 : code_bytes (Set 0 (Const32 128)) ≡ 65 ∷ 128 ∷ 1 ∷ 33 ∷ 0 ∷ []
unfolding groups u32 signed_groups i32 i64 low_bytes v128
i32_128 = refl

i32_8191 : code_bytes (Set 0 (Const32 8191)) ≡ 65 ∷ 255 ∷ 63 ∷ 33 ∷ 0 ∷ []
unfolding groups u32 signed_groups i32 i64 low_bytes v128
i32_8191 = refl

i32_8192 : code_bytes (Set 0 (Const32 8192)) ≡ 65 ∷ 128 ∷ 192 ∷ 0 ∷ 33 ∷ 0 ∷ []
unfolding groups u32 signed_groups i32 i64 low_bytes v128
i32_8192 = refl

i32_1048576 : code_bytes (Set 0 (Const32 1048576)) ≡ 65 ∷ 128 ∷ 128 ∷ 192 ∷ 0 ∷ 33 ∷ 0 ∷ []
unfolding groups u32 signed_groups i32 i64 low_bytes v128
i32_1048576 = refl

i32_2147483647 : code_bytes (Set 0 (Const32 2147483647)) ≡ 65 ∷ 255 ∷ 255 ∷ 255 ∷ 255 ∷ 7 ∷ 33 ∷ 0 ∷ []
unfolding groups u32 signed_groups i32 i64 low_bytes v128
i32_2147483647 = refl

i32_2147483648 : code_bytes (Set 0 (Const32 2147483648)) ≡ 65 ∷ 128 ∷ 128 ∷ 128 ∷ 128 ∷ 120 ∷ 33 ∷ 0 ∷ []
unfolding groups u32 signed_groups i32 i64 low_bytes v128
i32_2147483648 = refl

i32_2147483649 : code_bytes (Set 0 (Const32 2147483649)) ≡ 65 ∷ 129 ∷ 128 ∷ 128 ∷ 128 ∷ 120 ∷ 33 ∷ 0 ∷ []
unfolding groups u32 signed_groups i32 i64 low_bytes v128
i32_2147483649 = refl

i32_4294959103 : code_bytes (Set 0 (Const32 4294959103)) ≡ 65 ∷ 255 ∷ 191 ∷ 127 ∷ 33 ∷ 0 ∷ []
unfolding groups u32 signed_groups i32 i64 low_bytes v128
i32_4294959103 = refl

i32_4294959104 : code_bytes (Set 0 (Const32 4294959104)) ≡ 65 ∷ 128 ∷ 64 ∷ 33 ∷ 0 ∷ []
unfolding groups u32 signed_groups i32 i64 low_bytes v128
i32_4294959104 = refl

i32_4294967231 : code_bytes (Set 0 (Const32 4294967231)) ≡ 65 ∷ 191 ∷ 127 ∷ 33 ∷ 0 ∷ []
unfolding groups u32 signed_groups i32 i64 low_bytes v128
i32_4294967231 = refl

i32_4294967232 : code_bytes (Set 0 (Const32 4294967232)) ≡ 65 ∷ 64 ∷ 33 ∷ 0 ∷ []
unfolding groups u32 signed_groups i32 i64 low_bytes v128
i32_4294967232 = refl

i32_4294967295 : code_bytes (Set 0 (Const32 4294967295)) ≡ 65 ∷ 127 ∷ 33 ∷ 0 ∷ []
unfolding groups u32 signed_groups i32 i64 low_bytes v128
i32_4294967295 = refl

i64_0 : code_bytes (Set 2 (Const64 0)) ≡ 66 ∷ 0 ∷ 33 ∷ 2 ∷ []
unfolding groups u32 signed_groups i32 i64 low_bytes v128
i64_0 = refl

i64_63 : code_bytes (Set 2 (Const64 63)) ≡ 66 ∷ 63 ∷ 33 ∷ 2 ∷ []
unfolding groups u32 signed_groups i32 i64 low_bytes v128
i64_63 = refl

i64_64 : code_bytes (Set 2 (Const64 64)) ≡ 66 ∷ 192 ∷ 0 ∷ 33 ∷ 2 ∷ []
unfolding groups u32 signed_groups i32 i64 low_bytes v128
i64_64 = refl

i64_127 : code_bytes (Set 2 (Const64 127)) ≡ 66 ∷ 255 ∷ 0 ∷ 33 ∷ 2 ∷ []
unfolding groups u32 signed_groups i32 i64 low_bytes v128
i64_127 = refl

i64_128 : code_bytes (Set 2 (Const64 128)) ≡ 66 ∷ 128 ∷ 1 ∷ 33 ∷ 2 ∷ []
unfolding groups u32 signed_groups i32 i64 low_bytes v128
i64_128 = refl

i64_8191 : code_bytes (Set 2 (Const64 8191)) ≡ 66 ∷ 255 ∷ 63 ∷ 33 ∷ 2 ∷ []
unfolding groups u32 signed_groups i32 i64 low_bytes v128
i64_8191 = refl

i64_8192 : code_bytes (Set 2 (Const64 8192)) ≡ 66 ∷ 128 ∷ 192 ∷ 0 ∷ 33 ∷ 2 ∷ []
unfolding groups u32 signed_groups i32 i64 low_bytes v128
i64_8192 = refl

i64_1048576 : code_bytes (Set 2 (Const64 1048576)) ≡ 66 ∷ 128 ∷ 128 ∷ 192 ∷ 0 ∷ 33 ∷ 2 ∷ []
unfolding groups u32 signed_groups i32 i64 low_bytes v128
i64_1048576 = refl

i64_9223372036854775807 : code_bytes (Set 2 (Const64 9223372036854775807)) ≡ 66 ∷ 255 ∷ 255 ∷ 255 ∷ 255 ∷ 255 ∷ 255 ∷ 255 ∷ 255 ∷ 255 ∷ 0 ∷ 33 ∷ 2 ∷ []
unfolding groups u32 signed_groups i32 i64 low_bytes v128
i64_9223372036854775807 = refl

i64_9223372036854775808 : code_bytes (Set 2 (Const64 9223372036854775808)) ≡ 66 ∷ 128 ∷ 128 ∷ 128 ∷ 128 ∷ 128 ∷ 128 ∷ 128 ∷ 128 ∷ 128 ∷ 127 ∷ 33 ∷ 2 ∷ []
unfolding groups u32 signed_groups i32 i64 low_bytes v128
i64_9223372036854775808 = refl

i64_9223372036854775809 : code_bytes (Set 2 (Const64 9223372036854775809)) ≡ 66 ∷ 129 ∷ 128 ∷ 128 ∷ 128 ∷ 128 ∷ 128 ∷ 128 ∷ 128 ∷ 128 ∷ 127 ∷ 33 ∷ 2 ∷ []
unfolding groups u32 signed_groups i32 i64 low_bytes v128
i64_9223372036854775809 = refl

i64_18446744073709543423 : code_bytes (Set 2 (Const64 18446744073709543423)) ≡ 66 ∷ 255 ∷ 191 ∷ 127 ∷ 33 ∷ 2 ∷ []
unfolding groups u32 signed_groups i32 i64 low_bytes v128
i64_18446744073709543423 = refl

i64_18446744073709543424 : code_bytes (Set 2 (Const64 18446744073709543424)) ≡ 66 ∷ 128 ∷ 64 ∷ 33 ∷ 2 ∷ []
unfolding groups u32 signed_groups i32 i64 low_bytes v128
i64_18446744073709543424 = refl

i64_18446744073709551551 : code_bytes (Set 2 (Const64 18446744073709551551)) ≡ 66 ∷ 191 ∷ 127 ∷ 33 ∷ 2 ∷ []
unfolding groups u32 signed_groups i32 i64 low_bytes v128
i64_18446744073709551551 = refl

i64_18446744073709551552 : code_bytes (Set 2 (Const64 18446744073709551552)) ≡ 66 ∷ 64 ∷ 33 ∷ 2 ∷ []
unfolding groups u32 signed_groups i32 i64 low_bytes v128
i64_18446744073709551552 = refl

i64_18446744073709551615 : code_bytes (Set 2 (Const64 18446744073709551615)) ≡ 66 ∷ 127 ∷ 33 ∷ 2 ∷ []
unfolding groups u32 signed_groups i32 i64 low_bytes v128
i64_18446744073709551615 = refl

add_i8x16 : code_bytes (Set 4 (Two (Lanes I8x16 Add) (Local 4) (Local 5))) ≡ 32 ∷ 4 ∷ 32 ∷ 5 ∷ 253 ∷ 110 ∷ 33 ∷ 4 ∷ []
unfolding groups u32 signed_groups i32 i64 low_bytes v128
add_i8x16 = refl

sub_i8x16 : code_bytes (Set 4 (Two (Lanes I8x16 Sub) (Local 4) (Local 5))) ≡ 32 ∷ 4 ∷ 32 ∷ 5 ∷ 253 ∷ 113 ∷ 33 ∷ 4 ∷ []
unfolding groups u32 signed_groups i32 i64 low_bytes v128
sub_i8x16 = refl

eq_i8x16 : code_bytes (Set 4 (Two (CompareLanes I8x16 Eq) (Local 4) (Local 5))) ≡ 32 ∷ 4 ∷ 32 ∷ 5 ∷ 253 ∷ 35 ∷ 33 ∷ 4 ∷ []
unfolding groups u32 signed_groups i32 i64 low_bytes v128
eq_i8x16 = refl

ne_i8x16 : code_bytes (Set 4 (Two (CompareLanes I8x16 Ne) (Local 4) (Local 5))) ≡ 32 ∷ 4 ∷ 32 ∷ 5 ∷ 253 ∷ 36 ∷ 33 ∷ 4 ∷ []
unfolding groups u32 signed_groups i32 i64 low_bytes v128
ne_i8x16 = refl

lt_u_i8x16 : code_bytes (Set 4 (Two (CompareLanes I8x16 LtU) (Local 4) (Local 5))) ≡ 32 ∷ 4 ∷ 32 ∷ 5 ∷ 253 ∷ 38 ∷ 33 ∷ 4 ∷ []
unfolding groups u32 signed_groups i32 i64 low_bytes v128
lt_u_i8x16 = refl

lt_s_i8x16 : code_bytes (Set 4 (Two (CompareLanes I8x16 LtS) (Local 4) (Local 5))) ≡ 32 ∷ 4 ∷ 32 ∷ 5 ∷ 253 ∷ 37 ∷ 33 ∷ 4 ∷ []
unfolding groups u32 signed_groups i32 i64 low_bytes v128
lt_s_i8x16 = refl

shl_i8x16 : code_bytes (Set 4 (Two (ShiftLanes I8x16 Shl) (Local 4) (Local 0))) ≡ 32 ∷ 4 ∷ 32 ∷ 0 ∷ 253 ∷ 107 ∷ 33 ∷ 4 ∷ []
unfolding groups u32 signed_groups i32 i64 low_bytes v128
shl_i8x16 = refl

shr_u_i8x16 : code_bytes (Set 4 (Two (ShiftLanes I8x16 ShrU) (Local 4) (Local 0))) ≡ 32 ∷ 4 ∷ 32 ∷ 0 ∷ 253 ∷ 109 ∷ 33 ∷ 4 ∷ []
unfolding groups u32 signed_groups i32 i64 low_bytes v128
shr_u_i8x16 = refl

shr_s_i8x16 : code_bytes (Set 4 (Two (ShiftLanes I8x16 ShrS) (Local 4) (Local 0))) ≡ 32 ∷ 4 ∷ 32 ∷ 0 ∷ 253 ∷ 108 ∷ 33 ∷ 4 ∷ []
unfolding groups u32 signed_groups i32 i64 low_bytes v128
shr_s_i8x16 = refl

splat_i8x16 : code_bytes (Set 4 (One (Splat I8x16) (Local 0))) ≡ 32 ∷ 0 ∷ 253 ∷ 15 ∷ 33 ∷ 4 ∷ []
unfolding groups u32 signed_groups i32 i64 low_bytes v128
splat_i8x16 = refl

bitmask_i8x16 : code_bytes (Set 0 (One (Bitmask I8x16) (Local 4))) ≡ 32 ∷ 4 ∷ 253 ∷ 100 ∷ 33 ∷ 0 ∷ []
unfolding groups u32 signed_groups i32 i64 low_bytes v128
bitmask_i8x16 = refl

extract_i8x16_0 : code_bytes (Set 0 (One (Extract I8x16 0) (Local 4))) ≡ 32 ∷ 4 ∷ 253 ∷ 22 ∷ 0 ∷ 33 ∷ 0 ∷ []
unfolding groups u32 signed_groups i32 i64 low_bytes v128
extract_i8x16_0 = refl

replace_i8x16_0 : code_bytes (Set 4 (Two (Replace I8x16 0) (Local 4) (Local 0))) ≡ 32 ∷ 4 ∷ 32 ∷ 0 ∷ 253 ∷ 23 ∷ 0 ∷ 33 ∷ 4 ∷ []
unfolding groups u32 signed_groups i32 i64 low_bytes v128
replace_i8x16_0 = refl

extract_i8x16_15 : code_bytes (Set 0 (One (Extract I8x16 15) (Local 4))) ≡ 32 ∷ 4 ∷ 253 ∷ 22 ∷ 15 ∷ 33 ∷ 0 ∷ []
unfolding groups u32 signed_groups i32 i64 low_bytes v128
extract_i8x16_15 = refl

replace_i8x16_15 : code_bytes (Set 4 (Two (Replace I8x16 15) (Local 4) (Local 0))) ≡ 32 ∷ 4 ∷ 32 ∷ 0 ∷ 253 ∷ 23 ∷ 15 ∷ 33 ∷ 4 ∷ []
unfolding groups u32 signed_groups i32 i64 low_bytes v128
replace_i8x16_15 = refl

add_i16x8 : code_bytes (Set 4 (Two (Lanes I16x8 Add) (Local 4) (Local 5))) ≡ 32 ∷ 4 ∷ 32 ∷ 5 ∷ 253 ∷ 142 ∷ 1 ∷ 33 ∷ 4 ∷ []
unfolding groups u32 signed_groups i32 i64 low_bytes v128
add_i16x8 = refl

sub_i16x8 : code_bytes (Set 4 (Two (Lanes I16x8 Sub) (Local 4) (Local 5))) ≡ 32 ∷ 4 ∷ 32 ∷ 5 ∷ 253 ∷ 145 ∷ 1 ∷ 33 ∷ 4 ∷ []
unfolding groups u32 signed_groups i32 i64 low_bytes v128
sub_i16x8 = refl

mul_i16x8 : code_bytes (Set 4 (Two (Lanes I16x8 Mul) (Local 4) (Local 5))) ≡ 32 ∷ 4 ∷ 32 ∷ 5 ∷ 253 ∷ 149 ∷ 1 ∷ 33 ∷ 4 ∷ []
unfolding groups u32 signed_groups i32 i64 low_bytes v128
mul_i16x8 = refl

eq_i16x8 : code_bytes (Set 4 (Two (CompareLanes I16x8 Eq) (Local 4) (Local 5))) ≡ 32 ∷ 4 ∷ 32 ∷ 5 ∷ 253 ∷ 45 ∷ 33 ∷ 4 ∷ []
unfolding groups u32 signed_groups i32 i64 low_bytes v128
eq_i16x8 = refl

ne_i16x8 : code_bytes (Set 4 (Two (CompareLanes I16x8 Ne) (Local 4) (Local 5))) ≡ 32 ∷ 4 ∷ 32 ∷ 5 ∷ 253 ∷ 46 ∷ 33 ∷ 4 ∷ []
unfolding groups u32 signed_groups i32 i64 low_bytes v128
ne_i16x8 = refl

lt_u_i16x8 : code_bytes (Set 4 (Two (CompareLanes I16x8 LtU) (Local 4) (Local 5))) ≡ 32 ∷ 4 ∷ 32 ∷ 5 ∷ 253 ∷ 48 ∷ 33 ∷ 4 ∷ []
unfolding groups u32 signed_groups i32 i64 low_bytes v128
lt_u_i16x8 = refl

lt_s_i16x8 : code_bytes (Set 4 (Two (CompareLanes I16x8 LtS) (Local 4) (Local 5))) ≡ 32 ∷ 4 ∷ 32 ∷ 5 ∷ 253 ∷ 47 ∷ 33 ∷ 4 ∷ []
unfolding groups u32 signed_groups i32 i64 low_bytes v128
lt_s_i16x8 = refl

shl_i16x8 : code_bytes (Set 4 (Two (ShiftLanes I16x8 Shl) (Local 4) (Local 0))) ≡ 32 ∷ 4 ∷ 32 ∷ 0 ∷ 253 ∷ 139 ∷ 1 ∷ 33 ∷ 4 ∷ []
unfolding groups u32 signed_groups i32 i64 low_bytes v128
shl_i16x8 = refl

shr_u_i16x8 : code_bytes (Set 4 (Two (ShiftLanes I16x8 ShrU) (Local 4) (Local 0))) ≡ 32 ∷ 4 ∷ 32 ∷ 0 ∷ 253 ∷ 141 ∷ 1 ∷ 33 ∷ 4 ∷ []
unfolding groups u32 signed_groups i32 i64 low_bytes v128
shr_u_i16x8 = refl

shr_s_i16x8 : code_bytes (Set 4 (Two (ShiftLanes I16x8 ShrS) (Local 4) (Local 0))) ≡ 32 ∷ 4 ∷ 32 ∷ 0 ∷ 253 ∷ 140 ∷ 1 ∷ 33 ∷ 4 ∷ []
unfolding groups u32 signed_groups i32 i64 low_bytes v128
shr_s_i16x8 = refl

splat_i16x8 : code_bytes (Set 4 (One (Splat I16x8) (Local 0))) ≡ 32 ∷ 0 ∷ 253 ∷ 16 ∷ 33 ∷ 4 ∷ []
unfolding groups u32 signed_groups i32 i64 low_bytes v128
splat_i16x8 = refl

bitmask_i16x8 : code_bytes (Set 0 (One (Bitmask I16x8) (Local 4))) ≡ 32 ∷ 4 ∷ 253 ∷ 132 ∷ 1 ∷ 33 ∷ 0 ∷ []
unfolding groups u32 signed_groups i32 i64 low_bytes v128
bitmask_i16x8 = refl

extract_i16x8_0 : code_bytes (Set 0 (One (Extract I16x8 0) (Local 4))) ≡ 32 ∷ 4 ∷ 253 ∷ 25 ∷ 0 ∷ 33 ∷ 0 ∷ []
unfolding groups u32 signed_groups i32 i64 low_bytes v128
extract_i16x8_0 = refl

replace_i16x8_0 : code_bytes (Set 4 (Two (Replace I16x8 0) (Local 4) (Local 0))) ≡ 32 ∷ 4 ∷ 32 ∷ 0 ∷ 253 ∷ 26 ∷ 0 ∷ 33 ∷ 4 ∷ []
unfolding groups u32 signed_groups i32 i64 low_bytes v128
replace_i16x8_0 = refl

extract_i16x8_7 : code_bytes (Set 0 (One (Extract I16x8 7) (Local 4))) ≡ 32 ∷ 4 ∷ 253 ∷ 25 ∷ 7 ∷ 33 ∷ 0 ∷ []
unfolding groups u32 signed_groups i32 i64 low_bytes v128
extract_i16x8_7 = refl

replace_i16x8_7 : code_bytes (Set 4 (Two (Replace I16x8 7) (Local 4) (Local 0))) ≡ 32 ∷ 4 ∷ 32 ∷ 0 ∷ 253 ∷ 26 ∷ 7 ∷ 33 ∷ 4 ∷ []
unfolding groups u32 signed_groups i32 i64 low_bytes v128
replace_i16x8_7 = refl

extend_low_i16x8 : code_bytes (Set 4 (One (ExtendLow I16x8) (Local 4))) ≡ 32 ∷ 4 ∷ 253 ∷ 135 ∷ 1 ∷ 33 ∷ 4 ∷ []
unfolding groups u32 signed_groups i32 i64 low_bytes v128
extend_low_i16x8 = refl

extend_high_i16x8 : code_bytes (Set 4 (One (ExtendHigh I16x8) (Local 4))) ≡ 32 ∷ 4 ∷ 253 ∷ 136 ∷ 1 ∷ 33 ∷ 4 ∷ []
unfolding groups u32 signed_groups i32 i64 low_bytes v128
extend_high_i16x8 = refl

evens_i16x8 : code_bytes (Set 4 (Two (Shuffle (evens I16x8)) (Local 4) (Local 5))) ≡ 32 ∷ 4 ∷ 32 ∷ 5 ∷ 253 ∷ 13 ∷ 0 ∷ 2 ∷ 4 ∷ 6 ∷ 8 ∷ 10 ∷ 12 ∷ 14 ∷ 16 ∷ 18 ∷ 20 ∷ 22 ∷ 24 ∷ 26 ∷ 28 ∷ 30 ∷ 33 ∷ 4 ∷ []
unfolding groups u32 signed_groups i32 i64 low_bytes v128
evens_i16x8 = refl

add_i32x4 : code_bytes (Set 4 (Two (Lanes I32x4 Add) (Local 4) (Local 5))) ≡ 32 ∷ 4 ∷ 32 ∷ 5 ∷ 253 ∷ 174 ∷ 1 ∷ 33 ∷ 4 ∷ []
unfolding groups u32 signed_groups i32 i64 low_bytes v128
add_i32x4 = refl

sub_i32x4 : code_bytes (Set 4 (Two (Lanes I32x4 Sub) (Local 4) (Local 5))) ≡ 32 ∷ 4 ∷ 32 ∷ 5 ∷ 253 ∷ 177 ∷ 1 ∷ 33 ∷ 4 ∷ []
unfolding groups u32 signed_groups i32 i64 low_bytes v128
sub_i32x4 = refl

mul_i32x4 : code_bytes (Set 4 (Two (Lanes I32x4 Mul) (Local 4) (Local 5))) ≡ 32 ∷ 4 ∷ 32 ∷ 5 ∷ 253 ∷ 181 ∷ 1 ∷ 33 ∷ 4 ∷ []
unfolding groups u32 signed_groups i32 i64 low_bytes v128
mul_i32x4 = refl

eq_i32x4 : code_bytes (Set 4 (Two (CompareLanes I32x4 Eq) (Local 4) (Local 5))) ≡ 32 ∷ 4 ∷ 32 ∷ 5 ∷ 253 ∷ 55 ∷ 33 ∷ 4 ∷ []
unfolding groups u32 signed_groups i32 i64 low_bytes v128
eq_i32x4 = refl

ne_i32x4 : code_bytes (Set 4 (Two (CompareLanes I32x4 Ne) (Local 4) (Local 5))) ≡ 32 ∷ 4 ∷ 32 ∷ 5 ∷ 253 ∷ 56 ∷ 33 ∷ 4 ∷ []
unfolding groups u32 signed_groups i32 i64 low_bytes v128
ne_i32x4 = refl

lt_u_i32x4 : code_bytes (Set 4 (Two (CompareLanes I32x4 LtU) (Local 4) (Local 5))) ≡ 32 ∷ 4 ∷ 32 ∷ 5 ∷ 253 ∷ 58 ∷ 33 ∷ 4 ∷ []
unfolding groups u32 signed_groups i32 i64 low_bytes v128
lt_u_i32x4 = refl

lt_s_i32x4 : code_bytes (Set 4 (Two (CompareLanes I32x4 LtS) (Local 4) (Local 5))) ≡ 32 ∷ 4 ∷ 32 ∷ 5 ∷ 253 ∷ 57 ∷ 33 ∷ 4 ∷ []
unfolding groups u32 signed_groups i32 i64 low_bytes v128
lt_s_i32x4 = refl

shl_i32x4 : code_bytes (Set 4 (Two (ShiftLanes I32x4 Shl) (Local 4) (Local 0))) ≡ 32 ∷ 4 ∷ 32 ∷ 0 ∷ 253 ∷ 171 ∷ 1 ∷ 33 ∷ 4 ∷ []
unfolding groups u32 signed_groups i32 i64 low_bytes v128
shl_i32x4 = refl

shr_u_i32x4 : code_bytes (Set 4 (Two (ShiftLanes I32x4 ShrU) (Local 4) (Local 0))) ≡ 32 ∷ 4 ∷ 32 ∷ 0 ∷ 253 ∷ 173 ∷ 1 ∷ 33 ∷ 4 ∷ []
unfolding groups u32 signed_groups i32 i64 low_bytes v128
shr_u_i32x4 = refl

shr_s_i32x4 : code_bytes (Set 4 (Two (ShiftLanes I32x4 ShrS) (Local 4) (Local 0))) ≡ 32 ∷ 4 ∷ 32 ∷ 0 ∷ 253 ∷ 172 ∷ 1 ∷ 33 ∷ 4 ∷ []
unfolding groups u32 signed_groups i32 i64 low_bytes v128
shr_s_i32x4 = refl

splat_i32x4 : code_bytes (Set 4 (One (Splat I32x4) (Local 0))) ≡ 32 ∷ 0 ∷ 253 ∷ 17 ∷ 33 ∷ 4 ∷ []
unfolding groups u32 signed_groups i32 i64 low_bytes v128
splat_i32x4 = refl

bitmask_i32x4 : code_bytes (Set 0 (One (Bitmask I32x4) (Local 4))) ≡ 32 ∷ 4 ∷ 253 ∷ 164 ∷ 1 ∷ 33 ∷ 0 ∷ []
unfolding groups u32 signed_groups i32 i64 low_bytes v128
bitmask_i32x4 = refl

extract_i32x4_0 : code_bytes (Set 0 (One (Extract I32x4 0) (Local 4))) ≡ 32 ∷ 4 ∷ 253 ∷ 27 ∷ 0 ∷ 33 ∷ 0 ∷ []
unfolding groups u32 signed_groups i32 i64 low_bytes v128
extract_i32x4_0 = refl

replace_i32x4_0 : code_bytes (Set 4 (Two (Replace I32x4 0) (Local 4) (Local 0))) ≡ 32 ∷ 4 ∷ 32 ∷ 0 ∷ 253 ∷ 28 ∷ 0 ∷ 33 ∷ 4 ∷ []
unfolding groups u32 signed_groups i32 i64 low_bytes v128
replace_i32x4_0 = refl

extract_i32x4_3 : code_bytes (Set 0 (One (Extract I32x4 3) (Local 4))) ≡ 32 ∷ 4 ∷ 253 ∷ 27 ∷ 3 ∷ 33 ∷ 0 ∷ []
unfolding groups u32 signed_groups i32 i64 low_bytes v128
extract_i32x4_3 = refl

replace_i32x4_3 : code_bytes (Set 4 (Two (Replace I32x4 3) (Local 4) (Local 0))) ≡ 32 ∷ 4 ∷ 32 ∷ 0 ∷ 253 ∷ 28 ∷ 3 ∷ 33 ∷ 4 ∷ []
unfolding groups u32 signed_groups i32 i64 low_bytes v128
replace_i32x4_3 = refl

extend_low_i32x4 : code_bytes (Set 4 (One (ExtendLow I32x4) (Local 4))) ≡ 32 ∷ 4 ∷ 253 ∷ 167 ∷ 1 ∷ 33 ∷ 4 ∷ []
unfolding groups u32 signed_groups i32 i64 low_bytes v128
extend_low_i32x4 = refl

extend_high_i32x4 : code_bytes (Set 4 (One (ExtendHigh I32x4) (Local 4))) ≡ 32 ∷ 4 ∷ 253 ∷ 168 ∷ 1 ∷ 33 ∷ 4 ∷ []
unfolding groups u32 signed_groups i32 i64 low_bytes v128
extend_high_i32x4 = refl

evens_i32x4 : code_bytes (Set 4 (Two (Shuffle (evens I32x4)) (Local 4) (Local 5))) ≡ 32 ∷ 4 ∷ 32 ∷ 5 ∷ 253 ∷ 13 ∷ 0 ∷ 1 ∷ 4 ∷ 5 ∷ 8 ∷ 9 ∷ 12 ∷ 13 ∷ 16 ∷ 17 ∷ 20 ∷ 21 ∷ 24 ∷ 25 ∷ 28 ∷ 29 ∷ 33 ∷ 4 ∷ []
unfolding groups u32 signed_groups i32 i64 low_bytes v128
evens_i32x4 = refl

add_i64x2 : code_bytes (Set 4 (Two (Lanes I64x2 Add) (Local 4) (Local 5))) ≡ 32 ∷ 4 ∷ 32 ∷ 5 ∷ 253 ∷ 206 ∷ 1 ∷ 33 ∷ 4 ∷ []
unfolding groups u32 signed_groups i32 i64 low_bytes v128
add_i64x2 = refl

sub_i64x2 : code_bytes (Set 4 (Two (Lanes I64x2 Sub) (Local 4) (Local 5))) ≡ 32 ∷ 4 ∷ 32 ∷ 5 ∷ 253 ∷ 209 ∷ 1 ∷ 33 ∷ 4 ∷ []
unfolding groups u32 signed_groups i32 i64 low_bytes v128
sub_i64x2 = refl

mul_i64x2 : code_bytes (Set 4 (Two (Lanes I64x2 Mul) (Local 4) (Local 5))) ≡ 32 ∷ 4 ∷ 32 ∷ 5 ∷ 253 ∷ 213 ∷ 1 ∷ 33 ∷ 4 ∷ []
unfolding groups u32 signed_groups i32 i64 low_bytes v128
mul_i64x2 = refl

eq_i64x2 : code_bytes (Set 4 (Two (CompareLanes I64x2 Eq) (Local 4) (Local 5))) ≡ 32 ∷ 4 ∷ 32 ∷ 5 ∷ 253 ∷ 214 ∷ 1 ∷ 33 ∷ 4 ∷ []
unfolding groups u32 signed_groups i32 i64 low_bytes v128
eq_i64x2 = refl

ne_i64x2 : code_bytes (Set 4 (Two (CompareLanes I64x2 Ne) (Local 4) (Local 5))) ≡ 32 ∷ 4 ∷ 32 ∷ 5 ∷ 253 ∷ 215 ∷ 1 ∷ 33 ∷ 4 ∷ []
unfolding groups u32 signed_groups i32 i64 low_bytes v128
ne_i64x2 = refl

lt_s_i64x2 : code_bytes (Set 4 (Two (CompareLanes I64x2 LtS) (Local 4) (Local 5))) ≡ 32 ∷ 4 ∷ 32 ∷ 5 ∷ 253 ∷ 216 ∷ 1 ∷ 33 ∷ 4 ∷ []
unfolding groups u32 signed_groups i32 i64 low_bytes v128
lt_s_i64x2 = refl

shl_i64x2 : code_bytes (Set 4 (Two (ShiftLanes I64x2 Shl) (Local 4) (Local 0))) ≡ 32 ∷ 4 ∷ 32 ∷ 0 ∷ 253 ∷ 203 ∷ 1 ∷ 33 ∷ 4 ∷ []
unfolding groups u32 signed_groups i32 i64 low_bytes v128
shl_i64x2 = refl

shr_u_i64x2 : code_bytes (Set 4 (Two (ShiftLanes I64x2 ShrU) (Local 4) (Local 0))) ≡ 32 ∷ 4 ∷ 32 ∷ 0 ∷ 253 ∷ 205 ∷ 1 ∷ 33 ∷ 4 ∷ []
unfolding groups u32 signed_groups i32 i64 low_bytes v128
shr_u_i64x2 = refl

shr_s_i64x2 : code_bytes (Set 4 (Two (ShiftLanes I64x2 ShrS) (Local 4) (Local 0))) ≡ 32 ∷ 4 ∷ 32 ∷ 0 ∷ 253 ∷ 204 ∷ 1 ∷ 33 ∷ 4 ∷ []
unfolding groups u32 signed_groups i32 i64 low_bytes v128
shr_s_i64x2 = refl

splat_i64x2 : code_bytes (Set 4 (One (Splat I64x2) (Local 2))) ≡ 32 ∷ 2 ∷ 253 ∷ 18 ∷ 33 ∷ 4 ∷ []
unfolding groups u32 signed_groups i32 i64 low_bytes v128
splat_i64x2 = refl

bitmask_i64x2 : code_bytes (Set 0 (One (Bitmask I64x2) (Local 4))) ≡ 32 ∷ 4 ∷ 253 ∷ 196 ∷ 1 ∷ 33 ∷ 0 ∷ []
unfolding groups u32 signed_groups i32 i64 low_bytes v128
bitmask_i64x2 = refl

extract_i64x2_0 : code_bytes (Set 2 (One (Extract I64x2 0) (Local 4))) ≡ 32 ∷ 4 ∷ 253 ∷ 29 ∷ 0 ∷ 33 ∷ 2 ∷ []
unfolding groups u32 signed_groups i32 i64 low_bytes v128
extract_i64x2_0 = refl

replace_i64x2_0 : code_bytes (Set 4 (Two (Replace I64x2 0) (Local 4) (Local 2))) ≡ 32 ∷ 4 ∷ 32 ∷ 2 ∷ 253 ∷ 30 ∷ 0 ∷ 33 ∷ 4 ∷ []
unfolding groups u32 signed_groups i32 i64 low_bytes v128
replace_i64x2_0 = refl

extract_i64x2_1 : code_bytes (Set 2 (One (Extract I64x2 1) (Local 4))) ≡ 32 ∷ 4 ∷ 253 ∷ 29 ∷ 1 ∷ 33 ∷ 2 ∷ []
unfolding groups u32 signed_groups i32 i64 low_bytes v128
extract_i64x2_1 = refl

replace_i64x2_1 : code_bytes (Set 4 (Two (Replace I64x2 1) (Local 4) (Local 2))) ≡ 32 ∷ 4 ∷ 32 ∷ 2 ∷ 253 ∷ 30 ∷ 1 ∷ 33 ∷ 4 ∷ []
unfolding groups u32 signed_groups i32 i64 low_bytes v128
replace_i64x2_1 = refl

extend_low_i64x2 : code_bytes (Set 4 (One (ExtendLow I64x2) (Local 4))) ≡ 32 ∷ 4 ∷ 253 ∷ 199 ∷ 1 ∷ 33 ∷ 4 ∷ []
unfolding groups u32 signed_groups i32 i64 low_bytes v128
extend_low_i64x2 = refl

extend_high_i64x2 : code_bytes (Set 4 (One (ExtendHigh I64x2) (Local 4))) ≡ 32 ∷ 4 ∷ 253 ∷ 200 ∷ 1 ∷ 33 ∷ 4 ∷ []
unfolding groups u32 signed_groups i32 i64 low_bytes v128
extend_high_i64x2 = refl

evens_i64x2 : code_bytes (Set 4 (Two (Shuffle (evens I64x2)) (Local 4) (Local 5))) ≡ 32 ∷ 4 ∷ 32 ∷ 5 ∷ 253 ∷ 13 ∷ 0 ∷ 1 ∷ 2 ∷ 3 ∷ 8 ∷ 9 ∷ 10 ∷ 11 ∷ 16 ∷ 17 ∷ 18 ∷ 19 ∷ 24 ∷ 25 ∷ 26 ∷ 27 ∷ 33 ∷ 4 ∷ []
unfolding groups u32 signed_groups i32 i64 low_bytes v128
evens_i64x2 = refl

and_v128 : code_bytes (Set 4 (Two (Bits And) (Local 4) (Local 5))) ≡ 32 ∷ 4 ∷ 32 ∷ 5 ∷ 253 ∷ 78 ∷ 33 ∷ 4 ∷ []
unfolding groups u32 signed_groups i32 i64 low_bytes v128
and_v128 = refl

or_v128 : code_bytes (Set 4 (Two (Bits Or) (Local 4) (Local 5))) ≡ 32 ∷ 4 ∷ 32 ∷ 5 ∷ 253 ∷ 80 ∷ 33 ∷ 4 ∷ []
unfolding groups u32 signed_groups i32 i64 low_bytes v128
or_v128 = refl

xor_v128 : code_bytes (Set 4 (Two (Bits Xor) (Local 4) (Local 5))) ≡ 32 ∷ 4 ∷ 32 ∷ 5 ∷ 253 ∷ 81 ∷ 33 ∷ 4 ∷ []
unfolding groups u32 signed_groups i32 i64 low_bytes v128
xor_v128 = refl

const_v128 : code_bytes (Set 4 (Const128 172053881732050977361830585102244287362)) ≡ 253 ∷ 12 ∷ 130 ∷ 147 ∷ 164 ∷ 181 ∷ 198 ∷ 215 ∷ 232 ∷ 249 ∷ 10 ∷ 27 ∷ 44 ∷ 61 ∷ 78 ∷ 95 ∷ 112 ∷ 129 ∷ 33 ∷ 4 ∷ []
unfolding groups u32 signed_groups i32 i64 low_bytes v128
const_v128 = refl

bitselect : code_bytes (Set 4 (Bitselect (Local 4) (Local 5) (Local 4))) ≡ 32 ∷ 4 ∷ 32 ∷ 5 ∷ 32 ∷ 4 ∷ 253 ∷ 82 ∷ 33 ∷ 4 ∷ []
unfolding groups u32 signed_groups i32 i64 low_bytes v128
bitselect = refl

select : code_bytes (Set 0 (Select (Local 0) (Local 1) (Const32 7))) ≡ 32 ∷ 1 ∷ 65 ∷ 7 ∷ 32 ∷ 0 ∷ 27 ∷ 33 ∷ 0 ∷ []
unfolding groups u32 signed_groups i32 i64 low_bytes v128
select = refl

far_local : code_bytes (Set 300 (Local 129)) ≡ 32 ∷ 129 ∷ 1 ∷ 33 ∷ 172 ∷ 2 ∷ []
unfolding groups u32 signed_groups i32 i64 low_bytes v128
far_local = refl

load_1 : code_bytes (Load 1 0 (Local 1) 0) ≡ 32 ∷ 1 ∷ 45 ∷ 0 ∷ 0 ∷ 33 ∷ 0 ∷ []
unfolding groups u32 signed_groups i32 i64 low_bytes v128
load_1 = refl

load_2 : code_bytes (Load 2 0 (Local 1) 2) ≡ 32 ∷ 1 ∷ 47 ∷ 1 ∷ 2 ∷ 33 ∷ 0 ∷ []
unfolding groups u32 signed_groups i32 i64 low_bytes v128
load_2 = refl

load_4 : code_bytes (Load 4 0 (Local 1) 128) ≡ 32 ∷ 1 ∷ 40 ∷ 2 ∷ 128 ∷ 1 ∷ 33 ∷ 0 ∷ []
unfolding groups u32 signed_groups i32 i64 low_bytes v128
load_4 = refl

load_8 : code_bytes (Load 8 2 (Local 1) 1048576) ≡ 32 ∷ 1 ∷ 41 ∷ 3 ∷ 128 ∷ 128 ∷ 64 ∷ 33 ∷ 2 ∷ []
unfolding groups u32 signed_groups i32 i64 low_bytes v128
load_8 = refl

load_16 : code_bytes (Load 16 4 (Local 1) 16) ≡ 32 ∷ 1 ∷ 253 ∷ 0 ∷ 4 ∷ 16 ∷ 33 ∷ 4 ∷ []
unfolding groups u32 signed_groups i32 i64 low_bytes v128
load_16 = refl

store_1 : code_bytes (Store 1 (Local 0) 3 (Local 1)) ≡ 32 ∷ 0 ∷ 32 ∷ 1 ∷ 58 ∷ 0 ∷ 3 ∷ []
unfolding groups u32 signed_groups i32 i64 low_bytes v128
store_1 = refl

store_2 : code_bytes (Store 2 (Local 0) 0 (Local 1)) ≡ 32 ∷ 0 ∷ 32 ∷ 1 ∷ 59 ∷ 1 ∷ 0 ∷ []
unfolding groups u32 signed_groups i32 i64 low_bytes v128
store_2 = refl

store_4 : code_bytes (Store 4 (Local 0) 127 (Local 1)) ≡ 32 ∷ 0 ∷ 32 ∷ 1 ∷ 54 ∷ 2 ∷ 127 ∷ []
unfolding groups u32 signed_groups i32 i64 low_bytes v128
store_4 = refl

store_8 : code_bytes (Store 8 (Local 0) 300 (Local 3)) ≡ 32 ∷ 0 ∷ 32 ∷ 3 ∷ 55 ∷ 3 ∷ 172 ∷ 2 ∷ []
unfolding groups u32 signed_groups i32 i64 low_bytes v128
store_8 = refl

store_16 : code_bytes (Store 16 (Local 0) 240 (Local 5)) ≡ 32 ∷ 0 ∷ 32 ∷ 5 ∷ 253 ∷ 11 ∷ 4 ∷ 240 ∷ 1 ∷ []
unfolding groups u32 signed_groups i32 i64 low_bytes v128
store_16 = refl

if : code_bytes (If (Local 0) (Set 0 (Local 1)) Skip) ≡ 32 ∷ 0 ∷ 4 ∷ 64 ∷ 32 ∷ 1 ∷ 33 ∷ 0 ∷ 11 ∷ []
unfolding groups u32 signed_groups i32 i64 low_bytes v128
if = refl

if_else : code_bytes (If (Local 0) Skip (Then (Set 0 (Local 1)) (Set 1 (Local 0)))) ≡ 32 ∷ 0 ∷ 4 ∷ 64 ∷ 5 ∷ 32 ∷ 1 ∷ 33 ∷ 0 ∷ 32 ∷ 0 ∷ 33 ∷ 1 ∷ 11 ∷ []
unfolding groups u32 signed_groups i32 i64 low_bytes v128
if_else = refl

block : code_bytes (Block (Then (Br 0) (Set 0 (Local 1)))) ≡ 2 ∷ 64 ∷ 12 ∷ 0 ∷ 32 ∷ 1 ∷ 33 ∷ 0 ∷ 11 ∷ []
unfolding groups u32 signed_groups i32 i64 low_bytes v128
block = refl

loop : code_bytes (Loop (If (Local 0) (Br 1) Skip)) ≡ 3 ∷ 64 ∷ 32 ∷ 0 ∷ 4 ∷ 64 ∷ 12 ∷ 1 ∷ 11 ∷ 11 ∷ []
unfolding groups u32 signed_groups i32 i64 low_bytes v128
loop = refl

br_table : code_bytes (Block (Block (BrTable (0 ∷ 1 ∷ []) 1 (Local 0)))) ≡ 2 ∷ 64 ∷ 2 ∷ 64 ∷ 32 ∷ 0 ∷ 14 ∷ 2 ∷ 0 ∷ 1 ∷ 1 ∷ 11 ∷ 11 ∷ []
unfolding groups u32 signed_groups i32 i64 low_bytes v128
br_table = refl

long_br_table : code_bytes (Block (Block (BrTable (1 ∷ 0 ∷ 0 ∷ 1 ∷ 0 ∷ 0 ∷ 1 ∷ 0 ∷ 0 ∷ 1 ∷ 0 ∷ 0 ∷ 1 ∷ 0 ∷ 0 ∷ 1 ∷ 0 ∷ 0 ∷ 1 ∷ 0 ∷ 0 ∷ 1 ∷ 0 ∷ 0 ∷ 1 ∷ 0 ∷ 0 ∷ 1 ∷ 0 ∷ 0 ∷ 1 ∷ 0 ∷ 0 ∷ 1 ∷ 0 ∷ 0 ∷ 1 ∷ 0 ∷ 0 ∷ 1 ∷ 0 ∷ 0 ∷ 1 ∷ 0 ∷ 0 ∷ 1 ∷ 0 ∷ 0 ∷ 1 ∷ 0 ∷ 0 ∷ 1 ∷ 0 ∷ 0 ∷ 1 ∷ 0 ∷ 0 ∷ 1 ∷ 0 ∷ 0 ∷ 1 ∷ 0 ∷ 0 ∷ 1 ∷ 0 ∷ 0 ∷ 1 ∷ 0 ∷ 0 ∷ 1 ∷ 0 ∷ 0 ∷ 1 ∷ 0 ∷ 0 ∷ 1 ∷ 0 ∷ 0 ∷ 1 ∷ 0 ∷ 0 ∷ 1 ∷ 0 ∷ 0 ∷ 1 ∷ 0 ∷ 0 ∷ 1 ∷ 0 ∷ 0 ∷ 1 ∷ 0 ∷ 0 ∷ 1 ∷ 0 ∷ 0 ∷ 1 ∷ 0 ∷ 0 ∷ 1 ∷ 0 ∷ 0 ∷ 1 ∷ 0 ∷ 0 ∷ 1 ∷ 0 ∷ 0 ∷ 1 ∷ 0 ∷ 0 ∷ 1 ∷ 0 ∷ 0 ∷ 1 ∷ 0 ∷ 0 ∷ 1 ∷ 0 ∷ 0 ∷ 1 ∷ 0 ∷ 0 ∷ 1 ∷ 0 ∷ 0 ∷ 1 ∷ 0 ∷ 0 ∷ 1 ∷ []) 0 (Local 0)))) ≡ 2 ∷ 64 ∷ 2 ∷ 64 ∷ 32 ∷ 0 ∷ 14 ∷ 130 ∷ 1 ∷ 1 ∷ 0 ∷ 0 ∷ 1 ∷ 0 ∷ 0 ∷ 1 ∷ 0 ∷ 0 ∷ 1 ∷ 0 ∷ 0 ∷ 1 ∷ 0 ∷ 0 ∷ 1 ∷ 0 ∷ 0 ∷ 1 ∷ 0 ∷ 0 ∷ 1 ∷ 0 ∷ 0 ∷ 1 ∷ 0 ∷ 0 ∷ 1 ∷ 0 ∷ 0 ∷ 1 ∷ 0 ∷ 0 ∷ 1 ∷ 0 ∷ 0 ∷ 1 ∷ 0 ∷ 0 ∷ 1 ∷ 0 ∷ 0 ∷ 1 ∷ 0 ∷ 0 ∷ 1 ∷ 0 ∷ 0 ∷ 1 ∷ 0 ∷ 0 ∷ 1 ∷ 0 ∷ 0 ∷ 1 ∷ 0 ∷ 0 ∷ 1 ∷ 0 ∷ 0 ∷ 1 ∷ 0 ∷ 0 ∷ 1 ∷ 0 ∷ 0 ∷ 1 ∷ 0 ∷ 0 ∷ 1 ∷ 0 ∷ 0 ∷ 1 ∷ 0 ∷ 0 ∷ 1 ∷ 0 ∷ 0 ∷ 1 ∷ 0 ∷ 0 ∷ 1 ∷ 0 ∷ 0 ∷ 1 ∷ 0 ∷ 0 ∷ 1 ∷ 0 ∷ 0 ∷ 1 ∷ 0 ∷ 0 ∷ 1 ∷ 0 ∷ 0 ∷ 1 ∷ 0 ∷ 0 ∷ 1 ∷ 0 ∷ 0 ∷ 1 ∷ 0 ∷ 0 ∷ 1 ∷ 0 ∷ 0 ∷ 1 ∷ 0 ∷ 0 ∷ 1 ∷ 0 ∷ 0 ∷ 1 ∷ 0 ∷ 0 ∷ 1 ∷ 0 ∷ 0 ∷ 1 ∷ 0 ∷ 0 ∷ 1 ∷ 0 ∷ 0 ∷ 1 ∷ 0 ∷ 0 ∷ 1 ∷ 0 ∷ 11 ∷ 11 ∷ []
unfolding groups u32 signed_groups i32 i64 low_bytes v128
long_br_table = refl

return : code_bytes (Return None) ≡ 15 ∷ []
unfolding groups u32 signed_groups i32 i64 low_bytes v128
return = refl

return_value : code_bytes (Return (Some (Local 2))) ≡ 32 ∷ 2 ∷ 15 ∷ []
unfolding groups u32 signed_groups i32 i64 low_bytes v128
return_value = refl

unreachable : code_bytes (Unreachable) ≡ 0 ∷ []
unfolding groups u32 signed_groups i32 i64 low_bytes v128
unreachable = refl

call : code_bytes (Call 3 [] None) ≡ 16 ∷ 9 ∷ []
unfolding groups u32 signed_groups i32 i64 low_bytes v128
call = refl

call_with : code_bytes (Call 2 (Local 0 ∷ Local 2 ∷ []) (Some 1)) ≡ 32 ∷ 0 ∷ 32 ∷ 2 ∷ 16 ∷ 8 ∷ 33 ∷ 1 ∷ []
unfolding groups u32 signed_groups i32 i64 low_bytes v128
call_with = refl

write : code_bytes (Write (Local 0) (Const32 12)) ≡ 32 ∷ 0 ∷ 65 ∷ 12 ∷ 16 ∷ 0 ∷ []
unfolding groups u32 signed_groups i32 i64 low_bytes v128
write = refl

print_signed : code_bytes (Print SignedText (Local 2)) ≡ 32 ∷ 2 ∷ 16 ∷ 2 ∷ []
unfolding groups u32 signed_groups i32 i64 low_bytes v128
print_signed = refl

print_unsigned : code_bytes (Print UnsignedText (Local 2)) ≡ 32 ∷ 2 ∷ 16 ∷ 3 ∷ []
unfolding groups u32 signed_groups i32 i64 low_bytes v128
print_unsigned = refl

print_bool : code_bytes (Print TruthText (Local 0)) ≡ 32 ∷ 0 ∷ 16 ∷ 4 ∷ []
unfolding groups u32 signed_groups i32 i64 low_bytes v128
print_bool = refl

print_byte : code_bytes (Print ByteText (Local 0)) ≡ 32 ∷ 0 ∷ 16 ∷ 5 ∷ []
unfolding groups u32 signed_groups i32 i64 low_bytes v128
print_byte = refl

get_global : code_bytes (GetGlobal 4 1) ≡ 35 ∷ 1 ∷ 33 ∷ 4 ∷ []
unfolding groups u32 signed_groups i32 i64 low_bytes v128
get_global = refl

set_global : code_bytes (SetGlobal 1 (Local 5)) ≡ 32 ∷ 5 ∷ 36 ∷ 1 ∷ []
unfolding groups u32 signed_groups i32 i64 low_bytes v128
set_global = refl

clear : code_bytes (Clear (Local 0) (Const32 300)) ≡ 32 ∷ 0 ∷ 65 ∷ 0 ∷ 65 ∷ 172 ∷ 2 ∷ 252 ∷ 11 ∷ 0 ∷ []
unfolding groups u32 signed_groups i32 i64 low_bytes v128
clear = refl

fail : code_bytes (Fail 2 70 4294967295 (Local 1)) ≡ 65 ∷ 2 ∷ 65 ∷ 198 ∷ 0 ∷ 65 ∷ 127 ∷ 32 ∷ 1 ∷ 16 ∷ 1 ∷ 0 ∷ []
unfolding groups u32 signed_groups i32 i64 low_bytes v128
fail = refl

all_sections : sections_bytes (record {
  types = record { params = types.I32 ∷ types.I32 ∷ []; results = [] } ∷ record { params = types.I32 ∷ types.I32 ∷ types.I32 ∷ types.I32 ∷ []; results = [] }
      ∷ record { params = types.I32 ∷ types.I64 ∷ types.V128 ∷ []; results = types.I32 ∷ [] } ∷ [];
  imports = record { from = codes "isp"; name = codes "write"; type = 0 } ∷ record { from = codes "isp"; name = codes "trap"; type = 1 } ∷ [];
  functions =
      record {
        type = 2;
        locals = record { count = 2; type = types.I32 } ∷ record { count = 1; type = types.I64 } ∷ record { count = 3; type = types.V128 } ∷ [];
        code = Then (Then (Set 3 (Local 0)) (Return (Some (Two (Of I32 Add) (Local 3) (Const32 1))))) Unreachable;
      }
      ∷ record { type = 0; locals = []; code = Unreachable } ∷ [];
  pages = 17;
  globals = record { type = types.I32; changes = false; first = 1024 } ∷ record { type = types.I32; changes = true; first = 2 ^ 32 - 1 }
      ∷ record { type = types.I64; changes = false; first = 2 ^ 64 - 5 } ∷ record { type = types.V128; changes = true; first = 258 + 3 * 2 ^ 64 } ∷ [];
  exports =
      record { name = codes "double"; kind = FunctionKind; index = 2 } ∷ record { name = codes "memory"; kind = MemoryKind; index = 0 }
      ∷ record { name = codes "isp.base"; kind = GlobalKind; index = 0 } ∷ record { name = 195 ∷ 169 ∷ []; kind = FunctionKind; index = 3 } ∷ [];
  pieces = record { at = 64; has = codes "hello\n" } ∷ record { at = 300; has = [] } ∷ [];
}) ≡ 0 ∷ 97 ∷ 115 ∷ 109 ∷ 1 ∷ 0 ∷ 0 ∷ 0 ∷ 1 ∷ 20 ∷ 3 ∷ 96 ∷ 2 ∷ 127 ∷ 127 ∷ 0 ∷ 96 ∷ 4 ∷ 127 ∷ 127 ∷ 127 ∷ 127 ∷ 0 ∷ 96 ∷ 3 ∷ 127 ∷ 126 ∷ 123 ∷ 1 ∷ 127 ∷ 2 ∷ 24 ∷ 2 ∷ 3 ∷ 105 ∷ 115 ∷ 112 ∷ 5 ∷ 119 ∷ 114 ∷ 105 ∷ 116 ∷ 101 ∷ 0 ∷ 0 ∷ 3 ∷ 105 ∷ 115 ∷ 112 ∷ 4 ∷ 116 ∷ 114 ∷ 97 ∷ 112 ∷ 0 ∷ 1 ∷ 3 ∷ 3 ∷ 2 ∷ 2 ∷ 0 ∷ 5 ∷ 3 ∷ 1 ∷ 0 ∷ 17 ∷ 6 ∷ 38 ∷ 4 ∷ 127 ∷ 0 ∷ 65 ∷ 128 ∷ 8 ∷ 11 ∷ 127 ∷ 1 ∷ 65 ∷ 127 ∷ 11 ∷ 126 ∷ 0 ∷ 66 ∷ 123 ∷ 11 ∷ 123 ∷ 1 ∷ 253 ∷ 12 ∷ 2 ∷ 1 ∷ 0 ∷ 0 ∷ 0 ∷ 0 ∷ 0 ∷ 0 ∷ 3 ∷ 0 ∷ 0 ∷ 0 ∷ 0 ∷ 0 ∷ 0 ∷ 0 ∷ 11 ∷ 7 ∷ 35 ∷ 4 ∷ 6 ∷ 100 ∷ 111 ∷ 117 ∷ 98 ∷ 108 ∷ 101 ∷ 0 ∷ 2 ∷ 6 ∷ 109 ∷ 101 ∷ 109 ∷ 111 ∷ 114 ∷ 121 ∷ 2 ∷ 0 ∷ 8 ∷ 105 ∷ 115 ∷ 112 ∷ 46 ∷ 98 ∷ 97 ∷ 115 ∷ 101 ∷ 3 ∷ 0 ∷ 2 ∷ 195 ∷ 169 ∷ 0 ∷ 3 ∷ 10 ∷ 25 ∷ 2 ∷ 19 ∷ 3 ∷ 2 ∷ 127 ∷ 1 ∷ 126 ∷ 3 ∷ 123 ∷ 32 ∷ 0 ∷ 33 ∷ 3 ∷ 32 ∷ 3 ∷ 65 ∷ 1 ∷ 106 ∷ 15 ∷ 0 ∷ 11 ∷ 3 ∷ 0 ∷ 0 ∷ 11 ∷ 11 ∷ 19 ∷ 2 ∷ 0 ∷ 65 ∷ 192 ∷ 0 ∷ 11 ∷ 6 ∷ 104 ∷ 101 ∷ 108 ∷ 108 ∷ 111 ∷ 10 ∷ 0 ∷ 65 ∷ 172 ∷ 2 ∷ 11 ∷ 0 ∷ []
unfolding groups u32 signed_groups i32 i64 low_bytes v128 sections_bytes
all_sections = refl

whole_module : bytes_of (record {
  functions =
      record {
        export = Some (codes "first");
        params = types.I32 ∷ types.I32 ∷ types.I64 ∷ [];
        result = Some types.I32;
        locals = types.I32 ∷ types.I32 ∷ types.V128 ∷ types.V128 ∷ types.I64 ∷ types.I32 ∷ [];
        code = Then (Then (Write (Local 1) (Const32 6)) (Return (Some (Local 0)))) Unreachable;
      }
      ∷ types.unused
      ∷ record { export = Some (codes "last"); params = types.I64 ∷ []; result = None; locals = []; code = Then (Return None) Unreachable } ∷ [];
  memory = codes "hello\n";
}) ≡ 0 ∷ 97 ∷ 115 ∷ 109 ∷ 1 ∷ 0 ∷ 0 ∷ 0 ∷ 1 ∷ 43 ∷ 9 ∷ 96 ∷ 2 ∷ 127 ∷ 127 ∷ 0 ∷ 96 ∷ 4 ∷ 127 ∷ 127 ∷ 127 ∷ 127 ∷ 0 ∷ 96 ∷ 1 ∷ 126 ∷ 0 ∷ 96 ∷ 1 ∷ 126 ∷ 0 ∷ 96 ∷ 1 ∷ 127 ∷ 0 ∷ 96 ∷ 1 ∷ 127 ∷ 0 ∷ 96 ∷ 3 ∷ 127 ∷ 127 ∷ 126 ∷ 1 ∷ 127 ∷ 96 ∷ 0 ∷ 0 ∷ 96 ∷ 1 ∷ 126 ∷ 0 ∷ 2 ∷ 98 ∷ 6 ∷ 3 ∷ 105 ∷ 115 ∷ 112 ∷ 5 ∷ 119 ∷ 114 ∷ 105 ∷ 116 ∷ 101 ∷ 0 ∷ 0 ∷ 3 ∷ 105 ∷ 115 ∷ 112 ∷ 4 ∷ 116 ∷ 114 ∷ 97 ∷ 112 ∷ 0 ∷ 1 ∷ 3 ∷ 105 ∷ 115 ∷ 112 ∷ 12 ∷ 112 ∷ 114 ∷ 105 ∷ 110 ∷ 116 ∷ 95 ∷ 115 ∷ 105 ∷ 103 ∷ 110 ∷ 101 ∷ 100 ∷ 0 ∷ 2 ∷ 3 ∷ 105 ∷ 115 ∷ 112 ∷ 14 ∷ 112 ∷ 114 ∷ 105 ∷ 110 ∷ 116 ∷ 95 ∷ 117 ∷ 110 ∷ 115 ∷ 105 ∷ 103 ∷ 110 ∷ 101 ∷ 100 ∷ 0 ∷ 3 ∷ 3 ∷ 105 ∷ 115 ∷ 112 ∷ 10 ∷ 112 ∷ 114 ∷ 105 ∷ 110 ∷ 116 ∷ 95 ∷ 98 ∷ 111 ∷ 111 ∷ 108 ∷ 0 ∷ 4 ∷ 3 ∷ 105 ∷ 115 ∷ 112 ∷ 10 ∷ 112 ∷ 114 ∷ 105 ∷ 110 ∷ 116 ∷ 95 ∷ 98 ∷ 121 ∷ 116 ∷ 101 ∷ 0 ∷ 5 ∷ 3 ∷ 4 ∷ 3 ∷ 6 ∷ 7 ∷ 8 ∷ 5 ∷ 3 ∷ 1 ∷ 0 ∷ 1 ∷ 6 ∷ 219 ∷ 2 ∷ 18 ∷ 127 ∷ 0 ∷ 65 ∷ 6 ∷ 11 ∷ 123 ∷ 1 ∷ 253 ∷ 12 ∷ 0 ∷ 0 ∷ 0 ∷ 0 ∷ 0 ∷ 0 ∷ 0 ∷ 0 ∷ 0 ∷ 0 ∷ 0 ∷ 0 ∷ 0 ∷ 0 ∷ 0 ∷ 0 ∷ 11 ∷ 123 ∷ 1 ∷ 253 ∷ 12 ∷ 0 ∷ 0 ∷ 0 ∷ 0 ∷ 0 ∷ 0 ∷ 0 ∷ 0 ∷ 0 ∷ 0 ∷ 0 ∷ 0 ∷ 0 ∷ 0 ∷ 0 ∷ 0 ∷ 11 ∷ 123 ∷ 1 ∷ 253 ∷ 12 ∷ 0 ∷ 0 ∷ 0 ∷ 0 ∷ 0 ∷ 0 ∷ 0 ∷ 0 ∷ 0 ∷ 0 ∷ 0 ∷ 0 ∷ 0 ∷ 0 ∷ 0 ∷ 0 ∷ 11 ∷ 123 ∷ 1 ∷ 253 ∷ 12 ∷ 0 ∷ 0 ∷ 0 ∷ 0 ∷ 0 ∷ 0 ∷ 0 ∷ 0 ∷ 0 ∷ 0 ∷ 0 ∷ 0 ∷ 0 ∷ 0 ∷ 0 ∷ 0 ∷ 11 ∷ 123 ∷ 1 ∷ 253 ∷ 12 ∷ 0 ∷ 0 ∷ 0 ∷ 0 ∷ 0 ∷ 0 ∷ 0 ∷ 0 ∷ 0 ∷ 0 ∷ 0 ∷ 0 ∷ 0 ∷ 0 ∷ 0 ∷ 0 ∷ 11 ∷ 123 ∷ 1 ∷ 253 ∷ 12 ∷ 0 ∷ 0 ∷ 0 ∷ 0 ∷ 0 ∷ 0 ∷ 0 ∷ 0 ∷ 0 ∷ 0 ∷ 0 ∷ 0 ∷ 0 ∷ 0 ∷ 0 ∷ 0 ∷ 11 ∷ 123 ∷ 1 ∷ 253 ∷ 12 ∷ 0 ∷ 0 ∷ 0 ∷ 0 ∷ 0 ∷ 0 ∷ 0 ∷ 0 ∷ 0 ∷ 0 ∷ 0 ∷ 0 ∷ 0 ∷ 0 ∷ 0 ∷ 0 ∷ 11 ∷ 123 ∷ 1 ∷ 253 ∷ 12 ∷ 0 ∷ 0 ∷ 0 ∷ 0 ∷ 0 ∷ 0 ∷ 0 ∷ 0 ∷ 0 ∷ 0 ∷ 0 ∷ 0 ∷ 0 ∷ 0 ∷ 0 ∷ 0 ∷ 11 ∷ 123 ∷ 1 ∷ 253 ∷ 12 ∷ 0 ∷ 0 ∷ 0 ∷ 0 ∷ 0 ∷ 0 ∷ 0 ∷ 0 ∷ 0 ∷ 0 ∷ 0 ∷ 0 ∷ 0 ∷ 0 ∷ 0 ∷ 0 ∷ 11 ∷ 123 ∷ 1 ∷ 253 ∷ 12 ∷ 0 ∷ 0 ∷ 0 ∷ 0 ∷ 0 ∷ 0 ∷ 0 ∷ 0 ∷ 0 ∷ 0 ∷ 0 ∷ 0 ∷ 0 ∷ 0 ∷ 0 ∷ 0 ∷ 11 ∷ 123 ∷ 1 ∷ 253 ∷ 12 ∷ 0 ∷ 0 ∷ 0 ∷ 0 ∷ 0 ∷ 0 ∷ 0 ∷ 0 ∷ 0 ∷ 0 ∷ 0 ∷ 0 ∷ 0 ∷ 0 ∷ 0 ∷ 0 ∷ 11 ∷ 123 ∷ 1 ∷ 253 ∷ 12 ∷ 0 ∷ 0 ∷ 0 ∷ 0 ∷ 0 ∷ 0 ∷ 0 ∷ 0 ∷ 0 ∷ 0 ∷ 0 ∷ 0 ∷ 0 ∷ 0 ∷ 0 ∷ 0 ∷ 11 ∷ 123 ∷ 1 ∷ 253 ∷ 12 ∷ 0 ∷ 0 ∷ 0 ∷ 0 ∷ 0 ∷ 0 ∷ 0 ∷ 0 ∷ 0 ∷ 0 ∷ 0 ∷ 0 ∷ 0 ∷ 0 ∷ 0 ∷ 0 ∷ 11 ∷ 123 ∷ 1 ∷ 253 ∷ 12 ∷ 0 ∷ 0 ∷ 0 ∷ 0 ∷ 0 ∷ 0 ∷ 0 ∷ 0 ∷ 0 ∷ 0 ∷ 0 ∷ 0 ∷ 0 ∷ 0 ∷ 0 ∷ 0 ∷ 11 ∷ 123 ∷ 1 ∷ 253 ∷ 12 ∷ 0 ∷ 0 ∷ 0 ∷ 0 ∷ 0 ∷ 0 ∷ 0 ∷ 0 ∷ 0 ∷ 0 ∷ 0 ∷ 0 ∷ 0 ∷ 0 ∷ 0 ∷ 0 ∷ 11 ∷ 123 ∷ 1 ∷ 253 ∷ 12 ∷ 0 ∷ 0 ∷ 0 ∷ 0 ∷ 0 ∷ 0 ∷ 0 ∷ 0 ∷ 0 ∷ 0 ∷ 0 ∷ 0 ∷ 0 ∷ 0 ∷ 0 ∷ 0 ∷ 11 ∷ 127 ∷ 1 ∷ 65 ∷ 6 ∷ 11 ∷ 7 ∷ 52 ∷ 5 ∷ 10 ∷ 105 ∷ 115 ∷ 112 ∷ 46 ∷ 109 ∷ 101 ∷ 109 ∷ 111 ∷ 114 ∷ 121 ∷ 2 ∷ 0 ∷ 8 ∷ 105 ∷ 115 ∷ 112 ∷ 46 ∷ 98 ∷ 97 ∷ 115 ∷ 101 ∷ 3 ∷ 0 ∷ 9 ∷ 105 ∷ 115 ∷ 112 ∷ 46 ∷ 115 ∷ 116 ∷ 97 ∷ 99 ∷ 107 ∷ 3 ∷ 17 ∷ 5 ∷ 102 ∷ 105 ∷ 114 ∷ 115 ∷ 116 ∷ 0 ∷ 6 ∷ 4 ∷ 108 ∷ 97 ∷ 115 ∷ 116 ∷ 0 ∷ 8 ∷ 10 ∷ 31 ∷ 3 ∷ 20 ∷ 4 ∷ 2 ∷ 127 ∷ 2 ∷ 123 ∷ 1 ∷ 126 ∷ 1 ∷ 127 ∷ 32 ∷ 1 ∷ 65 ∷ 6 ∷ 16 ∷ 0 ∷ 32 ∷ 0 ∷ 15 ∷ 0 ∷ 11 ∷ 3 ∷ 0 ∷ 0 ∷ 11 ∷ 4 ∷ 0 ∷ 15 ∷ 0 ∷ 11 ∷ 11 ∷ 12 ∷ 1 ∷ 0 ∷ 65 ∷ 0 ∷ 11 ∷ 6 ∷ 104 ∷ 101 ∷ 108 ∷ 108 ∷ 111 ∷ 10 ∷ []
unfolding groups u32 signed_groups i32 i64 low_bytes v128 sections_bytes
whole_module = refl
