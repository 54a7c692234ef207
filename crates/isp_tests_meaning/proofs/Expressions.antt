-- Expressions: what each program does in so many turns and what its work is, against an independent implementation.
use Rattle.std.specs.Prelude.{◌≡◌, false, List, [], ◌∷◌, Some, None}
use Rattle.std.proofs.Common.{refl}
use Rattle.std.specs.Fmt.{digits}
use Rattle.isp_base.specs.Values.{number_to, wrap_to, amount, not_zero}
use Rattle.isp_base.specs.Outcomes.{Ends}
use Rattle.isp_base.specs.declared.types.Gang.TheVariants.{W4, W8, W16}
use Rattle.isp_base.specs.declared.types.Elem.TheVariants.{Bool as Truth, I8, U8, I16, U16, I32, U32, I64, U64}
use Rattle.isp_base.specs.declared.types.Rate.TheVariants.{Uniform, Varying}
use Rattle.isp_base.specs.declared.operators.BinOp.TheVariants as op
use Rattle.isp_base.specs.declared.operators.UnaryOp.TheVariants as un
use Rattle.isp_base.specs.declared.operators.Compare.TheVariants as cmp
use Rattle.isp_base.specs.declared.signature.Argument.{Argument}
use Rattle.isp_base.specs.declared.signature.Argument.TheVariants.{Array as AnArray, Value as AValue}
use Rattle.isp_typed.specs.declared.library.Library.TheVariants as lib
use Rattle.isp_typed.specs.declared.variable.Holds.TheVariants.{Value as AVariable, Given, Local}
use Rattle.isp_typed.specs.declared.variable.Logic.TheVariants as logic
use Rattle.isp_typed.specs.Typed.{t_program_index, t_place, t_convert, t_cast, t_unary, t_binary, t_compare, t_logic, t_choose, t_library, t_variable, t_element, t_exprs}
use Rattle.isp_typed.specs.Typed.{t_with_value, t_with_size, t_value, t_assign, t_update, t_step}
use Rattle.isp_typed.specs.Typed.{t_block, t_declare, t_simple, t_return, t_braces, t_stmts, Program}
use Rattle.isp_meaning.specs.Runs.{run_of, work_of}
use Rattle.isp_tests_meaning.specs.Terms.{s, u, v, cn, ar, vr, rw, fn, pr}

-- export void f(uniform int a[], uniform uint16 o[], uniform bool n) { int x = 0b1100LL; ; a[programIndex] = programIndex - (x ? x : 5) == (x ? a[programIndex] : programIndex); o[programIndex] = x; }
abbrev program_4 : Program
program_4 = pr W4 ((fn None None ((vr (Given I32) false) ∷ (vr (Given U16) false) ∷ (vr (AVariable (u Truth)) false) ∷ (vr (AVariable (v I32)) false)
    ∷ []) (t_braces (t_stmts ((t_declare ((t_with_value 3 (v I32) (t_convert I32 (cn I64 12 (s 77 85))) (s 73 85)) ∷ []) (s 69 86)) ∷
    (t_block (t_braces (t_stmts ([])) (s 87 88))) ∷ (t_simple
    (t_assign (t_element (ar 0 (u I32) false) (t_program_index (s 91 103)) (v I32) (s 89 104))
    (t_convert I32 (t_compare cmp.Equal (t_binary op.Sub (t_program_index (s 107 119))
    (t_cast (t_choose (t_convert Truth (t_place (t_variable 3 (v I32) (s 123 124)))) (t_place (t_variable 3 (v I32) (s 127 128)))
    (cn I32 5 (s 131 132)) (v I32) (s 123 132)) (v I32) (s 122 133)) (v I32) (s 107 133))
    (t_cast (t_choose (t_convert Truth (t_place (t_variable 3 (v I32) (s 138 139))))
    (t_place (t_element (ar 0 (u I32) false) (t_program_index (s 144 156)) (v I32) (s 142 157))) (t_program_index (s 160 172)) (v I32) (s 138 172))
    (v I32) (s 137 173)) Varying (s 107 173))) (s 89 173)) (s 89 174)) ∷
    (t_simple (t_assign (t_element (ar 1 (u U16) false) (t_program_index (s 177 189)) (v U16) (s 175 190))
    (t_convert U16 (t_place (t_variable 3 (v I32) (s 193 194)))) (s 175 194)) (s 175 195)) ∷ [])) (s 67 197))) ∷ [])

abbrev arguments_4 : List Argument
arguments_4 = ((AnArray (rw I32 (2147483646 ∷ 0 ∷ 8 ∷ 2273629467 ∷ []))) ∷ (AnArray (rw U16 (3 ∷ 2 ∷ 3 ∷ 0 ∷ 3 ∷ 65535 ∷ []))) ∷ (AValue (record { elem = Truth; bits = 1 })) ∷ [])

run_4_of_0 : run_of program_4 0 0 arguments_4 ≡ Ends ((rw I32 (0 ∷ 0 ∷ 0 ∷ 0 ∷ [])) ∷ (rw U16 (12 ∷ 12 ∷ 12 ∷ 12 ∷ 3 ∷ 65535 ∷ [])) ∷ []) None ([])
unfolding digits number_to wrap_to amount not_zero
run_4_of_0 = refl

work_4_of_0 : work_of program_4 0 0 arguments_4 ≡ 24
unfolding digits number_to wrap_to amount not_zero
work_4_of_0 = refl

-- export void f(uniform signed a[], uniform unsigned int o[], uniform int n) { int x = n & n - max(a[programIndex], o[programIndex]); ; signed v1 = x
-- >> 0b1001LL ^ (o[programIndex]) << 0x770cc0f1u < programIndex > programIndex; --v1; o[programIndex] = x; }
abbrev program_8 : Program
program_8 = pr W8 ((fn None None ((vr (Given I32) false) ∷ (vr (Given U32) false) ∷ (vr (AVariable (u I32)) false) ∷ (vr (AVariable (v I32)) false) ∷
    (vr (AVariable (v I32)) false) ∷ []) (t_braces (t_stmts
    ((t_declare ((t_with_value 3 (v I32) (t_convert I32
    (t_binary op.And (t_convert U32 (t_place (t_variable 2 (u I32) (s 85 86))))
    (t_binary op.Sub (t_convert U32 (t_place (t_variable 2 (u I32) (s 89 90))))
    (t_library lib.Max U32 (t_exprs ((t_convert U32 (t_place (t_element (ar 0 (u I32) false) (t_program_index (s 99 111)) (v I32) (s 97 112)))) ∷
    (t_place (t_element (ar 1 (u U32) false) (t_program_index (s 116 128)) (v U32) (s 114 129))) ∷ [])) (v U32) (s 93 130)) (v U32) (s 89 130))
    (v U32) (s 85 130))) (s 81 130)) ∷ []) (s 77 131)) ∷ (t_block (t_braces (t_stmts ([])) (s 132 133))) ∷
    (t_declare ((t_with_value 4 (v I32) (t_convert I32
    (t_binary op.Xor (t_binary op.Shr (t_convert I64 (t_place (t_variable 3 (v I32) (s 146 147)))) (cn I64 9 (s 151 159)) (v I64) (s 146 159))
    (t_convert I64 (t_compare cmp.Greater (t_convert I32
    (t_compare cmp.Less (t_binary op.Shl (t_cast (t_place (t_element (ar 1 (u U32) false) (t_program_index (s 165 177)) (v U32) (s 163 178))) (v U32)
    (s 162 179)) (cn U32 1997324529 (s 183 194)) (v U32) (s 162 194)) (t_convert U32 (t_program_index (s 197 209))) Varying (s 162 209)))
    (t_program_index (s 212 224)) Varying (s 162 224))) (v I64) (s 146 224))) (s 141 224)) ∷ []) (s 134 225)) ∷
    (t_simple (t_step op.Sub I32 (t_variable 4 (v I32) (s 228 230)) (s 226 230)) (s 226 231)) ∷
    (t_simple (t_assign (t_element (ar 1 (u U32) false) (t_program_index (s 234 246)) (v U32) (s 232 247))
    (t_convert U32 (t_place (t_variable 3 (v I32) (s 250 251)))) (s 232 251)) (s 232 252)) ∷ [])) (s 75 254))) ∷ [])

abbrev arguments_8 : List Argument
arguments_8 = ((AnArray (rw I32 (4294967295 ∷ 6 ∷ 4294967288 ∷ 2147483649 ∷ 9 ∷ 7 ∷ 7 ∷ 1 ∷ 4294967294 ∷ 2780757293 ∷ 2147483648 ∷ 6 ∷ []))) ∷
    (AnArray (rw U32 (8 ∷ 9 ∷ 5 ∷ 6 ∷ 3 ∷ 6 ∷ 4294967294 ∷ 4294967294 ∷ 1145227718 ∷ 4 ∷ 8 ∷ 3603580043 ∷ []))) ∷
    (AValue (record { elem = I32; bits = 4 })) ∷ [])

run_8_of_0 : run_of program_8 0 0 arguments_8 ≡ Ends
    ((rw I32 (4294967295 ∷ 6 ∷ 4294967288 ∷ 2147483649 ∷ 9 ∷ 7 ∷ 7 ∷ 1 ∷ 4294967294 ∷ 2780757293 ∷ 2147483648 ∷ 6 ∷ [])) ∷
    (rw U32 (4 ∷ 0 ∷ 4 ∷ 0 ∷ 0 ∷ 4 ∷ 4 ∷ 4 ∷ 1145227718 ∷ 4 ∷ 8 ∷ 3603580043 ∷ [])) ∷ []) None ([])
unfolding digits number_to wrap_to amount not_zero
run_8_of_0 = refl

work_8_of_0 : work_of program_8 0 0 arguments_8 ≡ 34
unfolding digits number_to wrap_to amount not_zero
work_8_of_0 = refl

-- export uniform signed int f(uniform int a[], uniform uint8 o[], uniform signed n) { int x = (bool) 3 ^ programIndex; signed int64 v1 = x; o[((n) / (n | 1)) & 15] <<= n; ; o[programIndex] = x; return - n; }
abbrev program_14 : Program
program_14 = pr W16 ((fn (Some I32) (Some (u I32))
    ((vr (Given I32) false) ∷ (vr (Given U8) false) ∷ (vr (AVariable (u I32)) false) ∷ (vr (AVariable (v I32)) false) ∷ (vr (AVariable (v I64)) false)
    ∷ []) (t_braces (t_stmts ((t_declare ((t_with_value 3 (v I32)
    (t_binary op.Xor (t_convert I32 (t_cast (t_convert Truth (cn I32 3 (s 99 100))) (u Truth) (s 92 100))) (t_program_index (s 103 115)) (v I32)
    (s 92 115)) (s 88 115)) ∷ []) (s 84 116)) ∷ (t_declare
    ((t_with_value 4 (v I64) (t_convert I64 (t_place (t_variable 3 (v I32) (s 135 136)))) (s 130 136)) ∷ []) (s 117 137)) ∷
    (t_simple (t_update op.Shl I32 (t_element (ar 1 (u U8) false)
    (t_binary op.And (t_cast (t_binary op.Div (t_cast (t_place (t_variable 2 (u I32) (s 142 143))) (u I32) (s 141 144))
    (t_cast (t_binary op.Or (t_place (t_variable 2 (u I32) (s 148 149))) (cn I32 1 (s 152 153)) (u I32) (s 148 153)) (u I32) (s 147 154)) (u I32)
    (s 141 154)) (u I32) (s 140 155)) (cn I32 15 (s 158 160)) (u I32) (s 140 160)) (u U8) (s 138 161)) (t_place (t_variable 2 (u I32) (s 166 167)))
    (s 138 167)) (s 138 168)) ∷ (t_block (t_braces (t_stmts ([])) (s 169 170))) ∷
    (t_simple (t_assign (t_element (ar 1 (u U8) false) (t_program_index (s 173 185)) (v U8) (s 171 186))
    (t_convert U8 (t_place (t_variable 3 (v I32) (s 189 190)))) (s 171 190)) (s 171 191)) ∷
    (t_return (s 192 198) (Some (t_unary un.Negate (t_place (t_variable 2 (u I32) (s 201 202))) (u I32) (s 199 202))) (s 192 203)) ∷ [])) (s 82 205)))
    ∷ [])

abbrev arguments_14 : List Argument
arguments_14 = ((AnArray (rw I32 (4294967294 ∷ 4294967292 ∷ 4294967287 ∷ 2 ∷ 4294967294 ∷ 4294967290 ∷ 4294967288 ∷ 4 ∷ 326580574 ∷ 4294967295 ∷
    2371528719 ∷ 4294967290 ∷ 2147483646 ∷ 2 ∷ 2422769270 ∷ 3 ∷ 2147483649 ∷ 4294967293 ∷ 4294967294 ∷ []))) ∷
    (AnArray (rw U8 (4 ∷ 1 ∷ 98 ∷ 228 ∷ 0 ∷ 254 ∷ 9 ∷ 1 ∷ 3 ∷ 254 ∷ 6 ∷ 1 ∷ 255 ∷ 3 ∷ 235 ∷ 48 ∷ []))) ∷
    (AValue (record { elem = I32; bits = 4294967295 })) ∷ [])

run_14_of_0 : run_of program_14 0 0 arguments_14
    ≡ Ends ((rw I32 (4294967294 ∷ 4294967292 ∷ 4294967287 ∷ 2 ∷ 4294967294 ∷ 4294967290 ∷ 4294967288 ∷ 4 ∷ 326580574 ∷ 4294967295 ∷ 2371528719 ∷
    4294967290 ∷ 2147483646 ∷ 2 ∷ 2422769270 ∷ 3 ∷ 2147483649 ∷ 4294967293 ∷ 4294967294 ∷ [])) ∷
    (rw U8 (1 ∷ 0 ∷ 3 ∷ 2 ∷ 5 ∷ 4 ∷ 7 ∷ 6 ∷ 9 ∷ 8 ∷ 11 ∷ 10 ∷ 13 ∷ 12 ∷ 15 ∷ 14 ∷ [])) ∷ []) (Some (record { elem = I32; bits = 1 })) ([])
unfolding digits number_to wrap_to amount not_zero
run_14_of_0 = refl

work_14_of_0 : work_of program_14 0 0 arguments_14 ≡ 31
unfolding digits number_to wrap_to amount not_zero
work_14_of_0 = refl

-- export uniform signed int f(uniform int a[], uniform unsigned int64 o[], uniform int32 z[], uniform int n) { int x = ((n) / (n | 1)); o[programIndex] += a[programIndex]; n; n--; o[programIndex] = x; return ~ n - n; }
abbrev program_15 : Program
program_15 = pr W4 ((fn (Some I32) (Some (u I32))
    ((vr (Given I32) false) ∷ (vr (Given U64) false) ∷ (vr (Given I32) false) ∷ (vr (AVariable (u I32)) false) ∷ (vr (AVariable (v I32)) false) ∷ [])
    (t_braces (t_stmts ((t_declare ((t_with_value 4 (v I32)
    (t_cast (t_binary op.Div (t_cast (t_place (t_variable 3 (u I32) (s 119 120))) (u I32) (s 118 121))
    (t_cast (t_binary op.Or (t_place (t_variable 3 (u I32) (s 125 126))) (cn I32 1 (s 129 130)) (u I32) (s 125 130)) (u I32) (s 124 131)) (u I32)
    (s 118 131)) (u I32) (s 117 132)) (s 113 132)) ∷ []) (s 109 133)) ∷
    (t_simple (t_update op.Add U64 (t_element (ar 1 (u U64) false) (t_program_index (s 136 148)) (v U64) (s 134 149))
    (t_convert U64 (t_place (t_element (ar 0 (u I32) false) (t_program_index (s 155 167)) (v I32) (s 153 168)))) (s 134 168)) (s 134 169)) ∷
    (t_simple (t_value (t_place (t_variable 3 (u I32) (s 170 171)))) (s 170 172)) ∷
    (t_simple (t_step op.Sub I32 (t_variable 3 (u I32) (s 173 174)) (s 173 176)) (s 173 177)) ∷
    (t_simple (t_assign (t_element (ar 1 (u U64) false) (t_program_index (s 180 192)) (v U64) (s 178 193))
    (t_convert U64 (t_place (t_variable 4 (v I32) (s 196 197)))) (s 178 197)) (s 178 198)) ∷
    (t_return (s 199 205) (Some (t_binary op.Sub (t_unary un.Invert (t_place (t_variable 3 (u I32) (s 208 209))) (u I32) (s 206 209))
    (t_place (t_variable 3 (u I32) (s 212 213))) (u I32) (s 206 213))) (s 199 214)) ∷ [])) (s 107 216))) ∷ [])

abbrev arguments_15 : List Argument
arguments_15 = ((AnArray (rw I32 (1324986517 ∷ 4294967295 ∷ 9 ∷ 4294967290 ∷ 2147483647 ∷ 4294967289 ∷ 2147483646 ∷ 2147483648 ∷ []))) ∷
    (AnArray (rw U64 (6879086822021926346 ∷ 18446744073709551615 ∷ 9 ∷ 4 ∷ 6 ∷ 4 ∷ 1 ∷ 11723293262624564996 ∷ []))) ∷
    (AnArray (rw I32 (4294967289 ∷ 2147483649 ∷ 4171978119 ∷ 1 ∷ 1951825568 ∷ []))) ∷ (AValue (record { elem = I32; bits = 4084259830 })) ∷ [])

run_15_of_0 : run_of program_15 0 0 arguments_15
    ≡ Ends ((rw I32 (1324986517 ∷ 4294967295 ∷ 9 ∷ 4294967290 ∷ 2147483647 ∷ 4294967289 ∷ 2147483646 ∷ 2147483648 ∷ [])) ∷
    (rw U64 (1 ∷ 1 ∷ 1 ∷ 1 ∷ 6 ∷ 4 ∷ 1 ∷ 11723293262624564996 ∷ [])) ∷ (rw I32 (4294967289 ∷ 2147483649 ∷ 4171978119 ∷ 1 ∷ 1951825568 ∷ [])) ∷ [])
    (Some (record { elem = I32; bits = 421414933 })) ([])
unfolding digits number_to wrap_to amount not_zero
run_15_of_0 = refl

work_15_of_0 : work_of program_15 0 0 arguments_15 ≡ 29
unfolding digits number_to wrap_to amount not_zero
work_15_of_0 = refl

-- export uniform uint8 f(uniform signed int a[], uniform int16 o[], uniform uint8 n) { int x = n; varying signed v1 = abs((! programIndex)), v2 =
-- (uint8) (n ? programIndex : n) + max(~ x, !(a[programIndex])); v1--; a[programIndex] += x; return (programCount) < n > n; }
abbrev program_23 : Program
program_23 = pr W4 ((fn (Some U8) (Some (u U8)) ((vr (Given I32) false) ∷ (vr (Given I16) false) ∷ (vr (AVariable (u U8)) false) ∷
    (vr (AVariable (v I32)) false) ∷ (vr (AVariable (v I32)) false) ∷ (vr (AVariable (v I32)) false) ∷ [])
    (t_braces (t_stmts ((t_declare ((t_with_value 3 (v I32) (t_convert I32 (t_place (t_variable 2 (u U8) (s 93 94)))) (s 89 94)) ∷ []) (s 85 95)) ∷
    (t_declare ((t_with_value 4 (v I32) (t_library lib.Abs I32
    (t_exprs ((t_convert I32 (t_cast (t_unary un.Not (t_convert Truth (t_program_index (s 123 135))) (v Truth) (s 121 135)) (v Truth) (s 120 136))) ∷
    [])) (v I32) (s 116 137)) (s 111 137)) ∷ (t_with_value 5 (v I32)
    (t_binary op.Add (t_convert I32 (t_cast (t_convert U8
    (t_cast (t_choose (t_convert Truth (t_place (t_variable 2 (u U8) (s 153 154)))) (t_program_index (s 157 169))
    (t_convert I32 (t_place (t_variable 2 (u U8) (s 172 173)))) (v I32) (s 153 173)) (v I32) (s 152 174))) (v U8) (s 144 174)))
    (t_library lib.Max I32 (t_exprs ((t_unary un.Invert (t_place (t_variable 3 (v I32) (s 183 184))) (v I32) (s 181 184)) ∷
    (t_convert I32 (t_unary un.Not (t_convert Truth (t_cast
    (t_place (t_element (ar 0 (u I32) false) (t_program_index (s 190 202)) (v I32) (s 188 203))) (v I32) (s 187 204))) (v Truth) (s 186 204))) ∷ []))
    (v I32) (s 177 205)) (v I32) (s 144 205)) (s 139 205)) ∷ []) (s 96 206)) ∷
    (t_simple (t_step op.Sub I32 (t_variable 4 (v I32) (s 207 209)) (s 207 211)) (s 207 212)) ∷
    (t_simple (t_update op.Add I32 (t_element (ar 0 (u I32) false) (t_program_index (s 215 227)) (v I32) (s 213 228))
    (t_place (t_variable 3 (v I32) (s 232 233))) (s 213 233)) (s 213 234)) ∷
    (t_return (s 235 241) (Some (t_convert U8 (t_compare cmp.Greater
    (t_convert I32 (t_compare cmp.Less (t_cast (cn I32 4 (s 243 255)) (u I32) (s 242 256)) (t_convert I32 (t_place (t_variable 2 (u U8) (s 259 260))))
    Uniform (s 242 260))) (t_convert I32 (t_place (t_variable 2 (u U8) (s 263 264)))) Uniform (s 242 264)))) (s 235 265)) ∷ [])) (s 83 267))) ∷ [])

abbrev arguments_23 : List Argument
arguments_23 = ((AnArray (rw I32 (2147483649 ∷ 2147483646 ∷ 4294967293 ∷ 7 ∷ []))) ∷ (AnArray (rw I16 (65527 ∷ 5 ∷ 65528 ∷ 46195 ∷ 32766 ∷ 65532 ∷ 0 ∷ 49505 ∷ []))) ∷ (AValue (record { elem = U8; bits = 3 })) ∷ [])

run_23_of_0 : run_of program_23 0 0 arguments_23 ≡ Ends ((rw I32 (2147483652 ∷ 2147483649 ∷ 0 ∷ 10 ∷ [])) ∷ (rw I16 (65527 ∷ 5 ∷ 65528 ∷ 46195 ∷ 32766 ∷ 65532 ∷ 0 ∷ 49505 ∷ [])) ∷ []) (Some (record { elem = U8; bits = 0 })) ([])
unfolding digits number_to wrap_to amount not_zero
run_23_of_0 = refl

work_23_of_0 : work_of program_23 0 0 arguments_23 ≡ 37
unfolding digits number_to wrap_to amount not_zero
work_23_of_0 = refl

-- export void f(uniform signed a[], uniform int8 o[], uniform int n) { int x = (o[programIndex] + 3 ? programIndex + programIndex : programIndex ^ n); o[5] = ~ 43ULL > n <= 0l ^ n || a[0]; ; o[programIndex] = x; }
abbrev program_28 : Program
program_28 = pr W4 ((fn None None ((vr (Given I32) false) ∷ (vr (Given I8) false) ∷ (vr (AVariable (u I32)) false) ∷ (vr (AVariable (v I32)) false) ∷
    []) (t_braces (t_stmts ((t_declare ((t_with_value 3 (v I32)
    (t_cast (t_choose (t_convert Truth (t_binary op.Add
    (t_convert I32 (t_place (t_element (ar 1 (u I8) false) (t_program_index (s 80 92)) (v I8) (s 78 93)))) (cn I32 3 (s 96 97)) (v I32) (s 78 97)))
    (t_binary op.Add (t_program_index (s 100 112)) (t_program_index (s 115 127)) (v I32) (s 100 127))
    (t_binary op.Xor (t_program_index (s 130 142)) (t_place (t_variable 2 (u I32) (s 145 146))) (v I32) (s 130 146)) (v I32) (s 78 146)) (v I32)
    (s 77 147)) (s 73 147)) ∷ []) (s 69 148)) ∷ (t_simple
    (t_assign (t_element (ar 1 (u I8) false) (cn I32 5 (s 151 152)) (u I8) (s 149 153))
    (t_convert I8 (t_logic logic.Or (t_convert Truth
    (t_binary op.Xor (t_convert I32 (t_compare cmp.LessOrEqual
    (t_convert I64 (t_compare cmp.Greater (t_unary un.Invert (cn U64 43 (s 158 163)) (u U64) (s 156 163))
    (t_convert U64 (t_place (t_variable 2 (u I32) (s 166 167)))) Uniform (s 156 167))) (cn I64 0 (s 171 173)) Uniform (s 156 173)))
    (t_place (t_variable 2 (u I32) (s 176 177))) (u I32) (s 156 177)))
    (t_convert Truth (t_place (t_element (ar 0 (u I32) false) (cn I32 0 (s 183 184)) (u I32) (s 181 185)))) Uniform (s 156 185))) (s 149 185))
    (s 149 186)) ∷ (t_block (t_braces (t_stmts ([])) (s 187 188))) ∷
    (t_simple (t_assign (t_element (ar 1 (u I8) false) (t_program_index (s 191 203)) (v I8) (s 189 204))
    (t_convert I8 (t_place (t_variable 3 (v I32) (s 207 208)))) (s 189 208)) (s 189 209)) ∷ [])) (s 67 211))) ∷ [])

abbrev arguments_28 : List Argument
arguments_28 = ((AnArray (rw I32 (6 ∷ 4294967289 ∷ 2147483646 ∷ 9 ∷ []))) ∷ (AnArray (rw I8 (252 ∷ 127 ∷ 254 ∷ 3 ∷ 3 ∷ 1 ∷ 128 ∷ 254 ∷ []))) ∷ (AValue (record { elem = I32; bits = 5 })) ∷ [])

run_28_of_0 : run_of program_28 0 0 arguments_28 ≡ Ends ((rw I32 (6 ∷ 4294967289 ∷ 2147483646 ∷ 9 ∷ [])) ∷ (rw I8 (0 ∷ 2 ∷ 4 ∷ 6 ∷ 3 ∷ 1 ∷ 128 ∷ 254 ∷ [])) ∷ []) None ([])
unfolding digits number_to wrap_to amount not_zero
run_28_of_0 = refl

work_28_of_0 : work_of program_28 0 0 arguments_28 ≡ 29
unfolding digits number_to wrap_to amount not_zero
work_28_of_0 = refl

-- export void f(uniform signed a[], uniform unsigned int64 o[], uniform signed int n) { int x = (~(n)); o[(programIndex ^ (-(n))) & 15] >>=
-- programIndex == programIndex; { int16 v1 = n, v2 = ~ programIndex << o[programIndex] == o[programIndex] + n; ; } o[programIndex] = x; }
abbrev program_39 : Program
program_39 = pr W16 ((fn None None ((vr (Given I32) false) ∷ (vr (Given U64) false) ∷ (vr (AVariable (u I32)) false) ∷ (vr (AVariable (v I32)) false)
    ∷ (vr (AVariable (v I16)) false) ∷ (vr (AVariable (v I16)) false) ∷ [])
    (t_braces (t_stmts ((t_declare ((t_with_value 3 (v I32)
    (t_cast (t_unary un.Invert (t_cast (t_place (t_variable 2 (u I32) (s 97 98))) (u I32) (s 96 99)) (u I32) (s 95 99)) (u I32) (s 94 100))
    (s 90 100)) ∷ []) (s 86 101)) ∷ (t_simple (t_update op.Shr U64
    (t_element (ar 1 (u U64) false) (t_binary op.And
    (t_cast (t_binary op.Xor (t_program_index (s 105 117))
    (t_cast (t_unary un.Negate (t_cast (t_place (t_variable 2 (u I32) (s 123 124))) (u I32) (s 122 125)) (u I32) (s 121 125)) (u I32) (s 120 126))
    (v I32) (s 105 126)) (v I32) (s 104 127)) (cn I32 15 (s 130 132)) (v I32) (s 104 132)) (v U64) (s 102 133))
    (t_convert U64 (t_compare cmp.Equal (t_program_index (s 138 150)) (t_program_index (s 154 166)) Varying (s 138 166))) (s 102 166)) (s 102 167)) ∷
    (t_block (t_braces (t_stmts ((t_declare ((t_with_value 4 (v I16) (t_convert I16 (t_place (t_variable 2 (u I32) (s 181 182)))) (s 176 182)) ∷
    (t_with_value 5 (v I16) (t_convert I16 (t_compare cmp.Equal
    (t_binary op.Shl (t_convert U64 (t_unary un.Invert (t_program_index (s 191 203)) (v I32) (s 189 203)))
    (t_place (t_element (ar 1 (u U64) false) (t_program_index (s 209 221)) (v U64) (s 207 222))) (v U64) (s 189 222))
    (t_binary op.Add (t_place (t_element (ar 1 (u U64) false) (t_program_index (s 228 240)) (v U64) (s 226 241)))
    (t_convert U64 (t_place (t_variable 2 (u I32) (s 244 245)))) (v U64) (s 226 245)) Varying (s 189 245))) (s 184 245)) ∷ []) (s 170 246)) ∷
    (t_block (t_braces (t_stmts ([])) (s 247 248))) ∷ [])) (s 168 250))) ∷
    (t_simple (t_assign (t_element (ar 1 (u U64) false) (t_program_index (s 253 265)) (v U64) (s 251 266))
    (t_convert U64 (t_place (t_variable 3 (v I32) (s 269 270)))) (s 251 270)) (s 251 271)) ∷ [])) (s 84 273))) ∷ [])

abbrev arguments_39 : List Argument
arguments_39 = ((AnArray (rw I32 (4294967292 ∷ 6 ∷ 9 ∷ 2147483647 ∷ 0 ∷ 4294967288 ∷ 2147483647 ∷ 4 ∷ 4294967293 ∷ 7 ∷ 4294967291 ∷ 2147483649 ∷ 0 ∷
    4294967293 ∷ 4294967293 ∷ 2878137735 ∷ 4294967291 ∷ 1355728952 ∷ []))) ∷
    (AnArray (rw U64 (9 ∷ 1152305280374955301 ∷ 3 ∷ 10505759092320445948 ∷ 9 ∷ 3 ∷ 18446744073709551615 ∷ 0 ∷ 0 ∷ 6 ∷ 4 ∷ 4 ∷ 8 ∷ 0 ∷
    14799612666811303617 ∷ 1 ∷ 18446744073709551615 ∷ 0 ∷ 15069707757911063388 ∷ []))) ∷ (AValue (record { elem = I32; bits = 3509785566 })) ∷ [])

run_39_of_0 : run_of program_39 0 0 arguments_39
    ≡ Ends ((rw I32 (4294967292 ∷ 6 ∷ 9 ∷ 2147483647 ∷ 0 ∷ 4294967288 ∷ 2147483647 ∷ 4 ∷ 4294967293 ∷ 7 ∷ 4294967291 ∷ 2147483649 ∷ 0 ∷ 4294967293 ∷
    4294967293 ∷ 2878137735 ∷ 4294967291 ∷ 1355728952 ∷ [])) ∷
    (rw U64 (785181729 ∷ 785181729 ∷ 785181729 ∷ 785181729 ∷ 785181729 ∷ 785181729 ∷ 785181729 ∷ 785181729 ∷ 785181729 ∷ 785181729 ∷ 785181729 ∷
    785181729 ∷ 785181729 ∷ 785181729 ∷ 785181729 ∷ 785181729 ∷ 18446744073709551615 ∷ 0 ∷ 15069707757911063388 ∷ [])) ∷ []) None ([])
unfolding digits number_to wrap_to amount not_zero
run_39_of_0 = refl

work_39_of_0 : work_of program_39 0 0 arguments_39 ≡ 41
unfolding digits number_to wrap_to amount not_zero
work_39_of_0 = refl

-- export void f(uniform int32 a[], uniform unsigned int64 o[], uniform int16 n) { int x = (a[4] ? o[programIndex] <= 0x1 : 128 | n); int v1 = x; v1
-- >>= ~ x >> programIndex != programIndex < 5 > (int) programCount; uniform unsigned int8 v2 = n; a[programIndex] += x; }
abbrev program_41 : Program
program_41 = pr W4 ((fn None None ((vr (Given I32) false) ∷ (vr (Given U64) false) ∷ (vr (AVariable (u I16)) false) ∷ (vr (AVariable (v I32)) false) ∷
    (vr (AVariable (v I32)) false) ∷ (vr (AVariable (u U8)) false) ∷ [])
    (t_braces (t_stmts ((t_declare ((t_with_value 3 (v I32)
    (t_cast (t_choose (t_convert Truth (t_place (t_element (ar 0 (u I32) false) (cn I32 4 (s 91 92)) (u I32) (s 89 93))))
    (t_convert I32 (t_compare cmp.LessOrEqual (t_place (t_element (ar 1 (u U64) false) (t_program_index (s 98 110)) (v U64) (s 96 111)))
    (t_convert U64 (cn I32 1 (s 115 118))) Varying (s 96 118)))
    (t_binary op.Or (cn I32 128 (s 121 124)) (t_convert I32 (t_place (t_variable 2 (u I16) (s 127 128)))) (u I32) (s 121 128)) (v I32) (s 89 128))
    (v I32) (s 88 129)) (s 84 129)) ∷ []) (s 80 130)) ∷
    (t_declare ((t_with_value 4 (v I32) (t_place (t_variable 3 (v I32) (s 140 141))) (s 135 141)) ∷ []) (s 131 142)) ∷
    (t_simple (t_update op.Shr I32 (t_variable 4 (v I32) (s 143 145))
    (t_convert I32 (t_compare cmp.NotEqual (t_binary op.Shr (t_unary un.Invert (t_place (t_variable 3 (v I32) (s 152 153))) (v I32) (s 150 153))
    (t_program_index (s 157 169)) (v I32) (s 150 169))
    (t_convert I32 (t_compare cmp.Greater (t_convert I32
    (t_compare cmp.Less (t_program_index (s 173 185)) (cn I32 5 (s 188 189)) Varying (s 173 189))) (t_cast (cn I32 4 (s 198 210)) (u I32) (s 192 210))
    Varying (s 173 210))) Varying (s 150 210))) (s 143 210)) (s 143 211)) ∷
    (t_declare ((t_with_value 5 (u U8) (t_convert U8 (t_place (t_variable 2 (u I16) (s 239 240)))) (s 234 240)) ∷ []) (s 212 241)) ∷
    (t_simple (t_update op.Add I32 (t_element (ar 0 (u I32) false) (t_program_index (s 244 256)) (v I32) (s 242 257))
    (t_place (t_variable 3 (v I32) (s 261 262))) (s 242 262)) (s 242 263)) ∷ [])) (s 78 265))) ∷ [])

abbrev arguments_41 : List Argument
arguments_41 = ((AnArray (rw I32 (4294967290 ∷ 6 ∷ 1 ∷ 1 ∷ 1328062845 ∷ 2 ∷ 4294967287 ∷ []))) ∷ (AnArray (rw U64 (2 ∷ 0 ∷ 2 ∷ 4 ∷ 9 ∷ 7 ∷ 3 ∷ []))) ∷ (AValue (record { elem = I16; bits = 64706 })) ∷ [])

run_41_of_0 : run_of program_41 0 0 arguments_41 ≡ Ends ((rw I32 (4294967290 ∷ 7 ∷ 1 ∷ 1 ∷ 1328062845 ∷ 2 ∷ 4294967287 ∷ [])) ∷ (rw U64 (2 ∷ 0 ∷ 2 ∷ 4 ∷ 9 ∷ 7 ∷ 3 ∷ [])) ∷ []) None ([])
unfolding digits number_to wrap_to amount not_zero
run_41_of_0 = refl

work_41_of_0 : work_of program_41 0 0 arguments_41 ≡ 34
unfolding digits number_to wrap_to amount not_zero
work_41_of_0 = refl

-- export void f(uniform signed a[], uniform uint o[], uniform uint8 z[], uniform int n) { int x = (max(n, programIndex)) % ((((a[programIndex]) / (programCount | 1) | 1)) | 1); ; o[programIndex] ^= n; o[programIndex] = x; }
abbrev program_42 : Program
program_42 = pr W8 ((fn None None ((vr (Given I32) false) ∷ (vr (Given U32) false) ∷ (vr (Given U8) false) ∷ (vr (AVariable (u I32)) false) ∷
    (vr (AVariable (v I32)) false) ∷ []) (t_braces (t_stmts
    ((t_declare ((t_with_value 4 (v I32) (t_binary op.Rem
    (t_cast (t_library lib.Max I32 (t_exprs ((t_place (t_variable 3 (u I32) (s 101 102))) ∷ (t_program_index (s 104 116)) ∷ [])) (v I32) (s 97 117))
    (v I32) (s 96 118)) (t_cast (t_binary op.Or (t_cast
    (t_cast (t_binary op.Or (t_binary op.Div (t_cast (t_place (t_element (ar 0 (u I32) false) (t_program_index (s 127 139)) (v I32) (s 125 140)))
    (v I32) (s 124 141)) (t_cast (t_binary op.Or (cn I32 8 (s 145 157)) (cn I32 1 (s 160 161)) (u I32) (s 145 161)) (u I32) (s 144 162)) (v I32)
    (s 124 162)) (cn I32 1 (s 165 166)) (v I32) (s 124 166)) (v I32) (s 123 167)) (v I32) (s 122 168)) (cn I32 1 (s 171 172)) (v I32) (s 122 172))
    (v I32) (s 121 173)) (v I32) (s 96 173)) (s 92 173)) ∷ []) (s 88 174)) ∷ (t_block (t_braces (t_stmts ([])) (s 175 176))) ∷
    (t_simple (t_update op.Xor U32 (t_element (ar 1 (u U32) false) (t_program_index (s 179 191)) (v U32) (s 177 192))
    (t_convert U32 (t_place (t_variable 3 (u I32) (s 196 197)))) (s 177 197)) (s 177 198)) ∷
    (t_simple (t_assign (t_element (ar 1 (u U32) false) (t_program_index (s 201 213)) (v U32) (s 199 214))
    (t_convert U32 (t_place (t_variable 4 (v I32) (s 217 218)))) (s 199 218)) (s 199 219)) ∷ [])) (s 86 221))) ∷ [])

abbrev arguments_42 : List Argument
arguments_42 = ((AnArray (rw I32 (4294967291 ∷ 2037495210 ∷ 896812548 ∷ 9 ∷ 4294967289 ∷ 205910728 ∷ 4104228502 ∷ 8 ∷ 2147483646 ∷ 4045497413 ∷ [])))
    ∷ (AnArray (rw U32 (0 ∷ 5 ∷ 1 ∷ 3 ∷ 9 ∷ 0 ∷ 0 ∷ 516752031 ∷ 3360627787 ∷ []))) ∷ (AnArray (rw U8 (4 ∷ []))) ∷
    (AValue (record { elem = I32; bits = 4294967293 })) ∷ [])

run_42_of_0 : run_of program_42 0 0 arguments_42
    ≡ Ends ((rw I32 (4294967291 ∷ 2037495210 ∷ 896812548 ∷ 9 ∷ 4294967289 ∷ 205910728 ∷ 4104228502 ∷ 8 ∷ 2147483646 ∷ 4045497413 ∷ [])) ∷
    (rw U32 (0 ∷ 1 ∷ 2 ∷ 0 ∷ 0 ∷ 5 ∷ 6 ∷ 0 ∷ 3360627787 ∷ [])) ∷ (rw U8 (4 ∷ [])) ∷ []) None ([])
unfolding digits number_to wrap_to amount not_zero
run_42_of_0 = refl

work_42_of_0 : work_of program_42 0 0 arguments_42 ≡ 32
unfolding digits number_to wrap_to amount not_zero
work_42_of_0 = refl

-- export void f(uniform int32 a[], uniform unsigned int64 o[], uniform int32 z[], uniform int n) { int x = n; x++; { { - x; varying int t1[8]; } } bool v2 = 0b1100LL; o[programIndex] = x; }
abbrev program_49 : Program
program_49 = pr W16 ((fn None None ((vr (Given I32) false) ∷ (vr (Given U64) false) ∷ (vr (Given I32) false) ∷ (vr (AVariable (u I32)) false) ∷
    (vr (AVariable (v I32)) false) ∷ (vr (Local (v I32) 8) false) ∷ (vr (AVariable (v Truth)) false) ∷ [])
    (t_braces (t_stmts ((t_declare ((t_with_value 4 (v I32) (t_place (t_variable 3 (u I32) (s 105 106))) (s 101 106)) ∷ []) (s 97 107)) ∷
    (t_simple (t_step op.Add I32 (t_variable 4 (v I32) (s 108 109)) (s 108 111)) (s 108 112)) ∷
    (t_block (t_braces (t_stmts ((t_block (t_braces (t_stmts
    ((t_simple (t_value (t_unary un.Negate (t_place (t_variable 4 (v I32) (s 119 120))) (v I32) (s 117 120))) (s 117 121)) ∷
    (t_declare ((t_with_size (ar 5 (v I32) false) (s 134 139)) ∷ []) (s 122 140)) ∷ [])) (s 115 142))) ∷ [])) (s 113 144))) ∷
    (t_declare ((t_with_value 6 (v Truth) (t_convert Truth (cn I64 12 (s 155 163))) (s 150 163)) ∷ []) (s 145 164)) ∷
    (t_simple (t_assign (t_element (ar 1 (u U64) false) (t_program_index (s 167 179)) (v U64) (s 165 180))
    (t_convert U64 (t_place (t_variable 4 (v I32) (s 183 184)))) (s 165 184)) (s 165 185)) ∷ [])) (s 95 187))) ∷ [])

abbrev arguments_49 : List Argument
arguments_49 = ((AnArray (rw I32 (4294967295 ∷ 4294967295 ∷ 3154503709 ∷ 2147483649 ∷ 1969428082 ∷ 4294967288 ∷ 4 ∷ 4294967289 ∷ 2824589154 ∷
    1063460115 ∷ 3925699284 ∷ 8 ∷ 4294967287 ∷ 4294967287 ∷ 4294967292 ∷ 4 ∷ 3 ∷ []))) ∷
    (AnArray (rw U64 (16557670230831811413 ∷ 0 ∷ 6 ∷ 18446744073709551614 ∷ 1 ∷ 9 ∷ 2 ∷ 16832201867470786428 ∷ 8 ∷ 0 ∷ 9 ∷ 1 ∷ 0 ∷ 5296489936744843518
    ∷ 7 ∷ 3 ∷ []))) ∷ (AnArray (rw I32 (4294967291 ∷ 2147483649 ∷ 2147483649 ∷ []))) ∷ (AValue (record { elem = I32; bits = 4294967291 })) ∷ [])

run_49_of_0 : run_of program_49 0 0 arguments_49
    ≡ Ends ((rw I32 (4294967295 ∷ 4294967295 ∷ 3154503709 ∷ 2147483649 ∷ 1969428082 ∷ 4294967288 ∷ 4 ∷ 4294967289 ∷ 2824589154 ∷ 1063460115 ∷
    3925699284 ∷ 8 ∷ 4294967287 ∷ 4294967287 ∷ 4294967292 ∷ 4 ∷ 3 ∷ [])) ∷
    (rw U64 (18446744073709551612 ∷ 18446744073709551612 ∷ 18446744073709551612 ∷ 18446744073709551612 ∷ 18446744073709551612 ∷ 18446744073709551612 ∷
    18446744073709551612 ∷ 18446744073709551612 ∷ 18446744073709551612 ∷ 18446744073709551612 ∷ 18446744073709551612 ∷ 18446744073709551612 ∷
    18446744073709551612 ∷ 18446744073709551612 ∷ 18446744073709551612 ∷ 18446744073709551612 ∷ [])) ∷
    (rw I32 (4294967291 ∷ 2147483649 ∷ 2147483649 ∷ [])) ∷ []) None ([])
unfolding digits number_to wrap_to amount not_zero
run_49_of_0 = refl

work_49_of_0 : work_of program_49 0 0 arguments_49 ≡ 20
unfolding digits number_to wrap_to amount not_zero
work_49_of_0 = refl

-- export void f(uniform int a[], uniform signed int8 o[], uniform int z[]) { int x = ((varying int) programIndex); x <<= x; { a[programIndex] +=
-- clamp(x, x, programIndex) | (unsigned int) x - max(programIndex, x) || programIndex; } o[programIndex] = x; }
abbrev program_50 : Program
program_50 = pr W4 ((fn None None ((vr (Given I32) false) ∷ (vr (Given I8) false) ∷ (vr (Given I32) false) ∷ (vr (AVariable (v I32)) false) ∷ [])
    (t_braces (t_stmts ((t_declare ((t_with_value 3 (v I32) (t_cast (t_cast (t_program_index (s 98 110)) (v I32) (s 84 110)) (v I32) (s 83 111))
    (s 79 111)) ∷ []) (s 75 112)) ∷ (t_simple (t_update op.Shl I32 (t_variable 3 (v I32) (s 113 114)) (t_place (t_variable 3 (v I32) (s 119 120)))
    (s 113 120)) (s 113 121)) ∷ (t_block (t_braces (t_stmts
    ((t_simple (t_update op.Add I32 (t_element (ar 0 (u I32) false) (t_program_index (s 126 138)) (v I32) (s 124 139))
    (t_convert I32 (t_logic logic.Or (t_convert Truth
    (t_binary op.Or (t_convert U32 (t_library lib.Clamp I32
    (t_exprs ((t_place (t_variable 3 (v I32) (s 149 150))) ∷ (t_place (t_variable 3 (v I32) (s 152 153))) ∷ (t_program_index (s 155 167)) ∷ []))
    (v I32) (s 143 168))) (t_binary op.Sub (t_cast (t_convert U32 (t_place (t_variable 3 (v I32) (s 186 187)))) (v U32) (s 171 187))
    (t_convert U32 (t_library lib.Max I32 (t_exprs ((t_program_index (s 194 206)) ∷ (t_place (t_variable 3 (v I32) (s 208 209))) ∷ [])) (v I32)
    (s 190 210))) (v U32) (s 171 210)) (v U32) (s 143 210))) (t_convert Truth (t_program_index (s 214 226))) Varying (s 143 226))) (s 124 226))
    (s 124 227)) ∷ [])) (s 122 229))) ∷ (t_simple (t_assign (t_element (ar 1 (u I8) false) (t_program_index (s 232 244)) (v I8) (s 230 245))
    (t_convert I8 (t_place (t_variable 3 (v I32) (s 248 249)))) (s 230 249)) (s 230 250)) ∷ [])) (s 73 252))) ∷ [])

abbrev arguments_50 : List Argument
arguments_50 = ((AnArray (rw I32 (4294967289 ∷ 2 ∷ 4294967287 ∷ 4294967291 ∷ 4 ∷ []))) ∷ (AnArray (rw I8 (126 ∷ 7 ∷ 250 ∷ 1 ∷ 254 ∷ 253 ∷ 2 ∷ 128 ∷ []))) ∷ (AnArray (rw I32 (2147483646 ∷ 4294967290 ∷ []))) ∷ [])

run_50_of_0 : run_of program_50 0 0 arguments_50 ≡ Ends ((rw I32 (4294967289 ∷ 3 ∷ 4294967288 ∷ 4294967292 ∷ 4 ∷ [])) ∷ (rw I8 (0 ∷ 2 ∷ 8 ∷ 24 ∷ 254 ∷ 253 ∷ 2 ∷ 128 ∷ [])) ∷ (rw I32 (2147483646 ∷ 4294967290 ∷ [])) ∷ []) None ([])
unfolding digits number_to wrap_to amount not_zero
run_50_of_0 = refl

work_50_of_0 : work_of program_50 0 0 arguments_50 ≡ 30
unfolding digits number_to wrap_to amount not_zero
work_50_of_0 = refl

-- export void f(uniform signed a[], uniform signed int64 o[], uniform unsigned int64 z[], uniform signed int n) { int x = ~((o[programIndex])); ~(x);
-- --x; o[(programIndex ^ (n)) & 15] = (n & a[programIndex]) << (programIndex ^ x); a[programIndex] += x; }
abbrev program_55 : Program
program_55 = pr W16 ((fn None None ((vr (Given I32) false) ∷ (vr (Given I64) false) ∷ (vr (Given U64) false) ∷ (vr (AVariable (u I32)) false) ∷
    (vr (AVariable (v I32)) false) ∷ []) (t_braces (t_stmts
    ((t_declare ((t_with_value 4 (v I32) (t_convert I32
    (t_unary un.Invert (t_cast (t_cast (t_place (t_element (ar 1 (u I64) false) (t_program_index (s 125 137)) (v I64) (s 123 138))) (v I64)
    (s 122 139)) (v I64) (s 121 140)) (v I64) (s 120 140))) (s 116 140)) ∷ []) (s 112 141)) ∷
    (t_simple (t_value (t_unary un.Invert (t_cast (t_place (t_variable 4 (v I32) (s 144 145))) (v I32) (s 143 146)) (v I32) (s 142 146))) (s 142 147))
    ∷ (t_simple (t_step op.Sub I32 (t_variable 4 (v I32) (s 150 151)) (s 148 151)) (s 148 152)) ∷
    (t_simple (t_assign (t_element (ar 1 (u I64) false)
    (t_binary op.And (t_cast (t_binary op.Xor (t_program_index (s 156 168)) (t_cast (t_place (t_variable 3 (u I32) (s 172 173))) (u I32) (s 171 174))
    (v I32) (s 156 174)) (v I32) (s 155 175)) (cn I32 15 (s 178 180)) (v I32) (s 155 180)) (v I64) (s 153 181))
    (t_convert I64 (t_binary op.Shl (t_cast (t_binary op.And (t_place (t_variable 3 (u I32) (s 185 186)))
    (t_place (t_element (ar 0 (u I32) false) (t_program_index (s 191 203)) (v I32) (s 189 204))) (v I32) (s 185 204)) (v I32) (s 184 205))
    (t_cast (t_binary op.Xor (t_program_index (s 210 222)) (t_place (t_variable 4 (v I32) (s 225 226))) (v I32) (s 210 226)) (v I32) (s 209 227))
    (v I32) (s 184 227))) (s 153 227)) (s 153 228)) ∷
    (t_simple (t_update op.Add I32 (t_element (ar 0 (u I32) false) (t_program_index (s 231 243)) (v I32) (s 229 244))
    (t_place (t_variable 4 (v I32) (s 248 249))) (s 229 249)) (s 229 250)) ∷ [])) (s 110 252))) ∷ [])

abbrev arguments_55 : List Argument
arguments_55 = ((AnArray (rw I32 (4294967289 ∷ 2338870207 ∷ 9 ∷ 4294967293 ∷ 4228642856 ∷ 3649274577 ∷ 2147483647 ∷ 3117278334 ∷ 2147483646 ∷
    4294967293 ∷ 4294967288 ∷ 5 ∷ 4294967292 ∷ 2147483646 ∷ 2807027609 ∷ 4294967292 ∷ 2 ∷ 308290008 ∷ []))) ∷
    (AnArray (rw I64 (2 ∷ 5 ∷ 1511807335706203975 ∷ 4 ∷ 9 ∷ 6 ∷ 18446744073709551607 ∷ 2 ∷ 4 ∷ 11406686932616454860 ∷ 17581661405305593587 ∷ 7 ∷
    9223372036854775809 ∷ 18446744073709551609 ∷ 18446744073709551611 ∷ 7191207865297807542 ∷ 9 ∷ 9 ∷ []))) ∷
    (AnArray (rw U64 (1 ∷ 12009364907796751878 ∷ 0 ∷ 18446744073709551615 ∷ 0 ∷ 8 ∷ []))) ∷ (AValue (record { elem = I32; bits = 4294967288 })) ∷ [])

run_55_of_0 : run_of program_55 0 0 arguments_55
    ≡ Ends ((rw I32 (4294967285 ∷ 2338870200 ∷ 4066830528 ∷ 4294967287 ∷ 4228642845 ∷ 3649274569 ∷ 2147483654 ∷ 3117278330 ∷ 2147483640 ∷ 2236505391 ∷
    2140184835 ∷ 4294967292 ∷ 4294967289 ∷ 2147483651 ∷ 2807027612 ∷ 317577028 ∷ 2 ∷ 308290008 ∷ [])) ∷
    (rw I64 (18446744073707454464 ∷ 18446744072635809792 ∷ 18446744073709551600 ∷ 0 ∷ 18446744073708503040 ∷ 18446744073709549568 ∷
    18446744073624813568 ∷ 18446744073709550592 ∷ 18446744071562067968 ∷ 18446744072501592064 ∷ 16777216 ∷ 18446744073441116160 ∷ 18446744073446359040
    ∷ 0 ∷ 18446744073709551600 ∷ 18446744072635809792 ∷ 9 ∷ 9 ∷ [])) ∷ (rw U64 (1 ∷ 12009364907796751878 ∷ 0 ∷ 18446744073709551615 ∷ 0 ∷ 8 ∷ [])) ∷
    []) None ([])
unfolding digits number_to wrap_to amount not_zero
run_55_of_0 = refl

work_55_of_0 : work_of program_55 0 0 arguments_55 ≡ 37
unfolding digits number_to wrap_to amount not_zero
work_55_of_0 = refl
