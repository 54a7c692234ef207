-- The opcodes of operators: 5.4.7 numeric, 5.4.8 vector instructions, of the core specification of WebAssembly 2.0.
use Rattle.std.specs.Prelude.{ℕ, ◌+◌, List, [], ◌∷◌, ◌++◌, slice_index}
use Rattle.isp_wasm_meaning.specs.Lists.{listed}
use Rattle.isp_wasm_meaning.specs.Syntax.{Shape, I8x16, I16x8, I32x4, I64x2, Size, I32, I64, Whole, Add, Sub, Mul, Bitwise, And, Or, Xor, Shift, Shl, ShrU, ShrS, Test, Eq, Ne, LtU, LtS, Division, DivU, RemU}
use Rattle.isp_wasm_meaning.specs.Syntax.{Unary, Eqz, Ctz, Wrap, ExtendU, ExtendS, Extend8S, Extend16S, Splat, Extract, ExtendLow, ExtendHigh, Bitmask}
use Rattle.isp_wasm_meaning.specs.Syntax.{Binary, Of, BitsOf, ShiftOf, Compare, Lanes, CompareLanes, ShiftLanes, Bits, Replace, Shuffle}
use Rattle.isp_wasm_binary.specs.Numbers.{u32}

-- 5.4.8 an instruction on v128: the byte 0xFD, and a number
abbrev pub simd : ℕ → List ℕ
simd n = 0xFD ∷ u32 n

-- an operator that the standard has not, as a product of bytes: a number of no instruction, which no engine takes
abbrev pub no_such : ℕ → List ℕ
no_such n = simd (2000 + n)

-- 5.4.7 add, sub, mul; and, or, xor; shl, shr_u, shr_s; eq, ne, lt_u, lt_s; div_u, rem_u
abbrev pub whole_bytes : Size → Whole → List ℕ
whole_bytes I32 Add = 0x6A ∷ []
whole_bytes I32 Sub = 0x6B ∷ []
whole_bytes I32 Mul = 0x6C ∷ []
whole_bytes I64 Add = 0x7C ∷ []
whole_bytes I64 Sub = 0x7D ∷ []
whole_bytes I64 Mul = 0x7E ∷ []

abbrev pub bitwise_bytes : Size → Bitwise → List ℕ
bitwise_bytes I32 And = 0x71 ∷ []
bitwise_bytes I32 Or = 0x72 ∷ []
bitwise_bytes I32 Xor = 0x73 ∷ []
bitwise_bytes I64 And = 0x83 ∷ []
bitwise_bytes I64 Or = 0x84 ∷ []
bitwise_bytes I64 Xor = 0x85 ∷ []

abbrev pub shift_bytes : Size → Shift → List ℕ
shift_bytes I32 Shl = 0x74 ∷ []
shift_bytes I32 ShrS = 0x75 ∷ []
shift_bytes I32 ShrU = 0x76 ∷ []
shift_bytes I64 Shl = 0x86 ∷ []
shift_bytes I64 ShrS = 0x87 ∷ []
shift_bytes I64 ShrU = 0x88 ∷ []

abbrev pub test_bytes : Size → Test → List ℕ
test_bytes I32 Eq = 0x46 ∷ []
test_bytes I32 Ne = 0x47 ∷ []
test_bytes I32 LtS = 0x48 ∷ []
test_bytes I32 LtU = 0x49 ∷ []
test_bytes I64 Eq = 0x51 ∷ []
test_bytes I64 Ne = 0x52 ∷ []
test_bytes I64 LtS = 0x53 ∷ []
test_bytes I64 LtU = 0x54 ∷ []

abbrev pub division_bytes : Size → Division → List ℕ
division_bytes I32 DivU = 0x6E ∷ []
division_bytes I32 RemU = 0x70 ∷ []
division_bytes I64 DivU = 0x80 ∷ []
division_bytes I64 RemU = 0x82 ∷ []

abbrev pub eqz_bytes : Size → List ℕ
eqz_bytes I32 = 0x45 ∷ []
eqz_bytes I64 = 0x50 ∷ []

abbrev pub ctz_bytes : Size → List ℕ
ctz_bytes I32 = 0x68 ∷ []
ctz_bytes I64 = 0x7A ∷ []

-- 5.4.8 splat; extract_lane, of 8 and 16 bits extract_lane_u; replace_lane; extend_low_s and extend_high_s; bitmask
abbrev pub splat_bytes : Shape → List ℕ
splat_bytes I8x16 = simd 15
splat_bytes I16x8 = simd 16
splat_bytes I32x4 = simd 17
splat_bytes I64x2 = simd 18

abbrev pub extract_bytes : Shape → List ℕ
extract_bytes I8x16 = simd 22
extract_bytes I16x8 = simd 25
extract_bytes I32x4 = simd 27
extract_bytes I64x2 = simd 29

abbrev pub replace_bytes : Shape → List ℕ
replace_bytes I8x16 = simd 23
replace_bytes I16x8 = simd 26
replace_bytes I32x4 = simd 28
replace_bytes I64x2 = simd 30

abbrev pub extend_low_bytes : Shape → List ℕ
extend_low_bytes I8x16 = no_such 0
extend_low_bytes I16x8 = simd 135
extend_low_bytes I32x4 = simd 167
extend_low_bytes I64x2 = simd 199

abbrev pub extend_high_bytes : Shape → List ℕ
extend_high_bytes I8x16 = no_such 1
extend_high_bytes I16x8 = simd 136
extend_high_bytes I32x4 = simd 168
extend_high_bytes I64x2 = simd 200

abbrev pub bitmask_bytes : Shape → List ℕ
bitmask_bytes I8x16 = simd 100
bitmask_bytes I16x8 = simd 132
bitmask_bytes I32x4 = simd 164
bitmask_bytes I64x2 = simd 196

-- add, sub, mul; eq, ne, lt_u, lt_s; shl, shr_s, shr_u; v128.and, or, xor
abbrev pub lanes_bytes : Shape → Whole → List ℕ
lanes_bytes I8x16 Add = simd 110
lanes_bytes I8x16 Sub = simd 113
lanes_bytes I8x16 Mul = no_such 2
lanes_bytes I16x8 Add = simd 142
lanes_bytes I16x8 Sub = simd 145
lanes_bytes I16x8 Mul = simd 149
lanes_bytes I32x4 Add = simd 174
lanes_bytes I32x4 Sub = simd 177
lanes_bytes I32x4 Mul = simd 181
lanes_bytes I64x2 Add = simd 206
lanes_bytes I64x2 Sub = simd 209
lanes_bytes I64x2 Mul = simd 213

abbrev pub compare_bytes : Shape → Test → List ℕ
compare_bytes I8x16 Eq = simd 35
compare_bytes I8x16 Ne = simd 36
compare_bytes I8x16 LtS = simd 37
compare_bytes I8x16 LtU = simd 38
compare_bytes I16x8 Eq = simd 45
compare_bytes I16x8 Ne = simd 46
compare_bytes I16x8 LtS = simd 47
compare_bytes I16x8 LtU = simd 48
compare_bytes I32x4 Eq = simd 55
compare_bytes I32x4 Ne = simd 56
compare_bytes I32x4 LtS = simd 57
compare_bytes I32x4 LtU = simd 58
compare_bytes I64x2 Eq = simd 214
compare_bytes I64x2 Ne = simd 215
compare_bytes I64x2 LtS = simd 216
compare_bytes I64x2 LtU = no_such 3

abbrev pub shift_lanes_bytes : Shape → Shift → List ℕ
shift_lanes_bytes I8x16 Shl = simd 107
shift_lanes_bytes I8x16 ShrS = simd 108
shift_lanes_bytes I8x16 ShrU = simd 109
shift_lanes_bytes I16x8 Shl = simd 139
shift_lanes_bytes I16x8 ShrS = simd 140
shift_lanes_bytes I16x8 ShrU = simd 141
shift_lanes_bytes I32x4 Shl = simd 171
shift_lanes_bytes I32x4 ShrS = simd 172
shift_lanes_bytes I32x4 ShrU = simd 173
shift_lanes_bytes I64x2 Shl = simd 203
shift_lanes_bytes I64x2 ShrS = simd 204
shift_lanes_bytes I64x2 ShrU = simd 205

abbrev pub bits_bytes : Bitwise → List ℕ
bits_bytes And = simd 78
bits_bytes Or = simd 80
bits_bytes Xor = simd 81

-- an operator on one value, with the lane that it names
abbrev pub unary_bytes : Unary → List ℕ
unary_bytes (Eqz t) = eqz_bytes t
unary_bytes (Ctz t) = ctz_bytes t
unary_bytes Wrap = 0xA7 ∷ []
unary_bytes ExtendS = 0xAC ∷ []
unary_bytes ExtendU = 0xAD ∷ []
unary_bytes Extend8S = 0xC0 ∷ []
unary_bytes Extend16S = 0xC1 ∷ []
unary_bytes (Splat s) = splat_bytes s
unary_bytes (Extract s k) = extract_bytes s ++ k ∷ []
unary_bytes (ExtendLow s) = extend_low_bytes s
unary_bytes (ExtendHigh s) = extend_high_bytes s
unary_bytes (Bitmask s) = bitmask_bytes s

-- and on two; i8x16.shuffle has 16 lanes
abbrev pub binary_bytes : Binary → List ℕ
binary_bytes (Of t o) = whole_bytes t o
binary_bytes (BitsOf t o) = bitwise_bytes t o
binary_bytes (ShiftOf t o) = shift_bytes t o
binary_bytes (Compare t o) = test_bytes t o
binary_bytes (Lanes s o) = lanes_bytes s o
binary_bytes (CompareLanes s o) = compare_bytes s o
binary_bytes (ShiftLanes s o) = shift_lanes_bytes s o
binary_bytes (Bits o) = bits_bytes o
binary_bytes (Replace s k) = replace_bytes s ++ k ∷ []
binary_bytes (Shuffle cs) = simd 13 ++ listed 16 (slice_index cs)
