-- `if` over some of the instances: what each program does in so many turns and what its work is, against an independent implementation.
use Rattle.std.specs.Prelude.{◌≡◌, false, List, [], ◌∷◌, Some, None}
use Rattle.std.proofs.Common.{refl}
use Rattle.std.specs.Fmt.{digits}
use Rattle.isp_base.specs.Values.{number_to, wrap_to, amount, not_zero}
use Rattle.isp_base.specs.Outcomes.{Ends}
use Rattle.isp_base.specs.declared.types.Gang.TheVariants.{W4, W8, W16}
use Rattle.isp_base.specs.declared.types.Elem.TheVariants.{Bool as Truth, I8, U8, I16, U16, I32, U32, I64, U64}
use Rattle.isp_base.specs.declared.types.Rate.TheVariants.{Uniform, Varying}
use Rattle.isp_base.specs.declared.operators.BinOp.TheVariants as op
use Rattle.isp_base.specs.declared.operators.UnaryOp.TheVariants as un
use Rattle.isp_base.specs.declared.operators.Compare.TheVariants as cmp
use Rattle.isp_base.specs.declared.signature.Argument.{Argument}
use Rattle.isp_base.specs.declared.signature.Argument.TheVariants.{Array as AnArray, Value as AValue}
use Rattle.isp_tree.specs.declared.stmt.Form.TheVariants.{Plain}
use Rattle.isp_typed.specs.declared.library.Library.TheVariants as lib
use Rattle.isp_typed.specs.declared.variable.Holds.TheVariants.{Value as AVariable, Given, Local}
use Rattle.isp_typed.specs.declared.variable.Logic.TheVariants as logic
use Rattle.isp_typed.specs.Typed.{t_program_index, t_place, t_convert, t_cast, t_unary, t_binary, t_compare, t_logic, t_choose, t_library, t_variable, t_element, t_exprs}
use Rattle.isp_typed.specs.Typed.{t_plain, t_with_value, t_with_size, t_value, t_assign, t_update, t_step}
use Rattle.isp_typed.specs.Typed.{t_block, t_declare, t_simple, t_if, t_if_else, t_return, t_braces, t_stmts, Program}
use Rattle.isp_meaning.specs.Runs.{run_of, work_of}
use Rattle.isp_tests_meaning.specs.Terms.{s, u, v, cn, ar, vr, rw, fn, pr}

-- export uniform int16 f(uniform int a[], uniform signed o[]) { int x = ~(max(programIndex, 0)); x >>= max((uint64) o[programIndex] >> 0, !(- 3));
-- a[(~(x)) & 3] >>= (3 >> 0b1000LL) << (unsigned int8) o[(o[2] == 256) & 7] | 0b1101u; o[programIndex] = x; return - 256; }
abbrev program_6 : Program
program_6 = pr W4 ((fn (Some I16) (Some (u I16)) ((vr (Given I32) false) ∷ (vr (Given I32) false) ∷ (vr (AVariable (v I32)) false) ∷ [])
    (t_braces (t_stmts ((t_declare ((t_with_value 2 (v I32)
    (t_unary un.Invert (t_cast (t_library lib.Max I32 (t_exprs ((t_program_index (s 76 88)) ∷ (cn I32 0 (s 90 91)) ∷ [])) (v I32) (s 72 92)) (v I32)
    (s 71 93)) (v I32) (s 70 93)) (s 66 93)) ∷ []) (s 62 94)) ∷
    (t_simple (t_update op.Shr U64 (t_variable 2 (v I32) (s 95 96))
    (t_library lib.Max U64 (t_exprs ((t_binary op.Shr
    (t_cast (t_convert U64 (t_place (t_element (ar 1 (u I32) false) (t_program_index (s 116 128)) (v I32) (s 114 129)))) (v U64) (s 105 129))
    (t_convert U64 (cn I32 0 (s 133 134))) (v U64) (s 105 134)) ∷
    (t_convert U64 (t_unary un.Not (t_convert Truth (t_cast (t_unary un.Negate (cn I32 3 (s 140 141)) (u I32) (s 138 141)) (u I32) (s 137 142)))
    (u Truth) (s 136 142))) ∷ [])) (v U64) (s 101 143)) (s 95 143)) (s 95 144)) ∷
    (t_simple (t_update op.Shr I64 (t_element (ar 0 (u I32) false)
    (t_binary op.And (t_cast (t_unary un.Invert (t_cast (t_place (t_variable 2 (v I32) (s 150 151))) (v I32) (s 149 152)) (v I32) (s 148 152)) (v I32)
    (s 147 153)) (cn I32 3 (s 156 157)) (v I32) (s 147 157)) (v I32) (s 145 158))
    (t_binary op.Or (t_binary op.Shl (t_cast (t_binary op.Shr (t_convert I64 (cn I32 3 (s 164 165))) (cn I64 8 (s 169 177)) (u I64) (s 164 177))
    (u I64) (s 163 178)) (t_convert I64 (t_cast (t_convert U8
    (t_place (t_element (ar 1 (u I32) false) (t_binary op.And
    (t_convert I32 (t_cast (t_compare cmp.Equal (t_place (t_element (ar 1 (u I32) false) (cn I32 2 (s 203 204)) (u I32) (s 201 205)))
    (cn I32 256 (s 209 212)) Uniform (s 201 212)) (u Truth) (s 200 213))) (cn I32 7 (s 216 217)) (u I32) (s 200 217)) (u I32) (s 198 218)))) (u U8)
    (s 182 218))) (u I64) (s 163 218)) (t_convert I64 (cn U32 13 (s 221 228))) (u I64) (s 163 228)) (s 145 228)) (s 145 229)) ∷
    (t_simple (t_assign (t_element (ar 1 (u I32) false) (t_program_index (s 232 244)) (v I32) (s 230 245))
    (t_place (t_variable 2 (v I32) (s 248 249))) (s 230 249)) (s 230 250)) ∷
    (t_return (s 251 257) (Some (t_convert I16 (t_unary un.Negate (cn I32 256 (s 260 263)) (u I32) (s 258 263)))) (s 251 264)) ∷ [])) (s 60 266))) ∷
    [])

abbrev arguments_6 : List Argument
arguments_6 = ((AnArray (rw I32 (4294967290 ∷ 2147483646 ∷ 4294967291 ∷ 4027197097 ∷ []))) ∷ (AnArray (rw I32 (2147483647 ∷ 2147483647 ∷ 1370964256 ∷ 4 ∷ 2 ∷ 0 ∷ 2066270025 ∷ 4294967295 ∷ []))) ∷ [])

run_6_of_0 : run_of program_6 0 0 arguments_6 ≡ Ends
    ((rw I32 (4294967295 ∷ 2147483646 ∷ 4294967295 ∷ 4027197097 ∷ [])) ∷
    (rw I32 (1 ∷ 1 ∷ 4294967295 ∷ 4294967295 ∷ 2 ∷ 0 ∷ 2066270025 ∷ 4294967295 ∷ [])) ∷ []) (Some (record { elem = I16; bits = 65280 })) ([])
unfolding digits number_to wrap_to amount not_zero
run_6_of_0 = refl

work_6_of_0 : work_of program_6 0 0 arguments_6 ≡ 51
unfolding digits number_to wrap_to amount not_zero
work_6_of_0 = refl

-- export uniform unsigned int f(uniform int a[], uniform signed int64 o[], uniform uint8 z[], uniform int64 n) { int x = !((unsigned int16) n); ;
-- uniform int16 v1 = n; uniform signed int8 t2[3]; if ((n || programCount ? 1 : 9223372036854775807 < v1)) { varying signed int8 v3 = !(~(2)) *
-- !((programIndex) % (v1 | 1)), v4 = t2[(programIndex ^ ((2 ? v1 : programCount))) & 1]; } o[programIndex] = x; return ((int16) v1); }
abbrev program_10 : Program
program_10 = pr W8 ((fn (Some U32) (Some (u U32))
    ((vr (Given I32) false) ∷ (vr (Given I64) false) ∷ (vr (Given U8) false) ∷ (vr (AVariable (u I64)) false) ∷ (vr (AVariable (v I32)) false) ∷
    (vr (AVariable (u I16)) false) ∷ (vr (Local (u I8) 3) false) ∷ (vr (AVariable (v I8)) false) ∷ (vr (AVariable (v I8)) false) ∷ [])
    (t_braces (t_stmts ((t_declare ((t_with_value 4 (v I32)
    (t_convert I32 (t_unary un.Not (t_convert Truth (t_cast (t_cast (t_convert U16 (t_place (t_variable 3 (u I64) (s 138 139)))) (u U16) (s 121 139))
    (u U16) (s 120 140))) (u Truth) (s 119 140))) (s 115 140)) ∷ []) (s 111 141)) ∷ (t_block (t_braces (t_stmts ([])) (s 142 143))) ∷
    (t_declare ((t_with_value 5 (u I16) (t_convert I16 (t_place (t_variable 3 (u I64) (s 163 164)))) (s 158 164)) ∷ []) (s 144 165)) ∷
    (t_declare ((t_with_size (ar 6 (u I8) false) (s 186 191)) ∷ []) (s 166 192)) ∷
    (t_if Plain 7 (t_convert Truth (t_cast (t_choose
    (t_logic logic.Or (t_convert Truth (t_place (t_variable 3 (u I64) (s 198 199)))) (t_convert Truth (cn I32 8 (s 203 215))) Uniform (s 198 215))
    (cn I32 1 (s 218 219)) (t_convert I32 (t_compare cmp.Less (cn I64 9223372036854775807 (s 222 241))
    (t_convert I64 (t_place (t_variable 5 (u I16) (s 244 246)))) Uniform (s 222 246))) (u I32) (s 198 246)) (u I32) (s 197 247)))
    (t_block (t_braces (t_stmts ((t_declare ((t_with_value 7 (v I8)
    (t_convert I8 (t_binary op.Mul (t_convert I32 (t_unary un.Not
    (t_convert Truth (t_cast (t_unary un.Invert (t_cast (cn I32 2 (s 280 281)) (u I32) (s 279 282)) (u I32) (s 278 282)) (u I32) (s 277 283)))
    (u Truth) (s 276 283))) (t_convert I32 (t_unary un.Not
    (t_convert Truth (t_cast (t_binary op.Rem (t_cast (t_program_index (s 289 301)) (v I32) (s 288 302))
    (t_cast (t_binary op.Or (t_convert I32 (t_place (t_variable 5 (u I16) (s 306 308)))) (cn I32 1 (s 311 312)) (u I32) (s 306 312)) (u I32)
    (s 305 313)) (v I32) (s 288 313)) (v I32) (s 287 314))) (v Truth) (s 286 314))) (v I32) (s 276 314))) (s 271 314)) ∷
    (t_with_value 8 (v I8) (t_place (t_element (ar 6 (u I8) false)
    (t_binary op.And (t_cast (t_binary op.Xor (t_program_index (s 325 337))
    (t_cast (t_cast (t_choose (t_convert Truth (cn I32 2 (s 342 343))) (t_convert I32 (t_place (t_variable 5 (u I16) (s 346 348))))
    (cn I32 8 (s 351 363)) (u I32) (s 342 363)) (u I32) (s 341 364)) (u I32) (s 340 365)) (v I32) (s 325 365)) (v I32) (s 324 366))
    (cn I32 1 (s 369 370)) (v I32) (s 324 370)) (v I8) (s 321 371))) (s 316 371)) ∷ []) (s 251 372)) ∷ [])) (s 249 374))) (s 193 374)) ∷
    (t_simple (t_assign (t_element (ar 1 (u I64) false) (t_program_index (s 377 389)) (v I64) (s 375 390))
    (t_convert I64 (t_place (t_variable 4 (v I32) (s 393 394)))) (s 375 394)) (s 375 395)) ∷
    (t_return (s 396 402) (Some (t_convert U32 (t_cast (t_cast (t_place (t_variable 5 (u I16) (s 412 414))) (u I16) (s 404 414)) (u I16)
    (s 403 415)))) (s 396 416)) ∷ [])) (s 109 418))) ∷ [])

abbrev arguments_10 : List Argument
arguments_10 = ((AnArray (rw I32 (4294967294 ∷ 828751078 ∷ 253402804 ∷ 2 ∷ 4294967291 ∷ 2 ∷ 9 ∷ 2147483646 ∷ []))) ∷
    (AnArray (rw I64 (7 ∷ 18446744073709551615 ∷ 5 ∷ 9223372036854775809 ∷ 18446744073709551607 ∷ 9223372036854775809 ∷ 7 ∷ 18446744073709551607 ∷
    9223372036854775807 ∷ 9223372036854775806 ∷ 18446744073709551615 ∷ 14521608190098911377 ∷ []))) ∷ (AnArray (rw U8 (8 ∷ 1 ∷ 5 ∷ 255 ∷ 0 ∷ []))) ∷
    (AValue (record { elem = I64; bits = 9223372036854775806 })) ∷ [])

run_10_of_0 : run_of program_10 0 0 arguments_10
    ≡ Ends ((rw I32 (4294967294 ∷ 828751078 ∷ 253402804 ∷ 2 ∷ 4294967291 ∷ 2 ∷ 9 ∷ 2147483646 ∷ [])) ∷
    (rw I64 (0 ∷ 0 ∷ 0 ∷ 0 ∷ 0 ∷ 0 ∷ 0 ∷ 0 ∷ 9223372036854775807 ∷ 9223372036854775806 ∷ 18446744073709551615 ∷ 14521608190098911377 ∷ [])) ∷
    (rw U8 (8 ∷ 1 ∷ 5 ∷ 255 ∷ 0 ∷ [])) ∷ []) (Some (record { elem = U32; bits = 4294967294 })) ([])
unfolding digits number_to wrap_to amount not_zero
run_10_of_0 = refl

work_10_of_0 : work_of program_10 0 0 arguments_10 ≡ 57
unfolding digits number_to wrap_to amount not_zero
work_10_of_0 = refl

-- export void f(uniform int32 a[], uniform signed int64 o[], uniform int32 z[], uniform signed n) { int x = n; { uniform bool t1[2]; } x = (x) / (((((signed int) programIndex) / ((int) x | 1) | 1)) | 1); o[programIndex] = x; }
abbrev program_17 : Program
program_17 = pr W4 ((fn None None ((vr (Given I32) false) ∷ (vr (Given I64) false) ∷ (vr (Given I32) false) ∷ (vr (AVariable (u I32)) false) ∷
    (vr (AVariable (v I32)) false) ∷ (vr (Local (u Truth) 2) false) ∷ [])
    (t_braces (t_stmts ((t_declare ((t_with_value 4 (v I32) (t_place (t_variable 3 (u I32) (s 106 107))) (s 102 107)) ∷ []) (s 98 108)) ∷
    (t_block (t_braces (t_stmts ((t_declare ((t_with_size (ar 5 (u Truth) false) (s 124 129)) ∷ []) (s 111 130)) ∷ [])) (s 109 132))) ∷
    (t_simple (t_assign (t_variable 4 (v I32) (s 133 134))
    (t_binary op.Div (t_cast (t_place (t_variable 4 (v I32) (s 138 139))) (v I32) (s 137 140))
    (t_cast (t_binary op.Or (t_cast (t_cast (t_binary op.Or
    (t_binary op.Div (t_cast (t_cast (t_program_index (s 160 172)) (v I32) (s 147 172)) (v I32) (s 146 173))
    (t_cast (t_binary op.Or (t_cast (t_place (t_variable 4 (v I32) (s 183 184))) (v I32) (s 177 184)) (cn I32 1 (s 187 188)) (v I32) (s 177 188))
    (v I32) (s 176 189)) (v I32) (s 146 189)) (cn I32 1 (s 192 193)) (v I32) (s 146 193)) (v I32) (s 145 194)) (v I32) (s 144 195))
    (cn I32 1 (s 198 199)) (v I32) (s 144 199)) (v I32) (s 143 200)) (v I32) (s 137 200)) (s 133 200)) (s 133 201)) ∷
    (t_simple (t_assign (t_element (ar 1 (u I64) false) (t_program_index (s 204 216)) (v I64) (s 202 217))
    (t_convert I64 (t_place (t_variable 4 (v I32) (s 220 221)))) (s 202 221)) (s 202 222)) ∷ [])) (s 96 224))) ∷ [])

abbrev arguments_17 : List Argument
arguments_17 = ((AnArray (rw I32 (9 ∷ 4294967288 ∷ 4 ∷ 2598399147 ∷ 9 ∷ 4294967294 ∷ 3506643395 ∷ 8 ∷ []))) ∷
    (AnArray (rw I64 (9 ∷ 9223372036854775807 ∷ 13106844124213546510 ∷ 0 ∷ 13511320676270768689 ∷ 18446744073709551615 ∷ 18446744073709551614 ∷
    12403398949723960802 ∷ []))) ∷ (AnArray (rw I32 (7 ∷ 4294967293 ∷ []))) ∷ (AValue (record { elem = I32; bits = 2147483648 })) ∷ [])

run_17_of_0 : run_of program_17 0 0 arguments_17
    ≡ Ends ((rw I32 (9 ∷ 4294967288 ∷ 4 ∷ 2598399147 ∷ 9 ∷ 4294967294 ∷ 3506643395 ∷ 8 ∷ [])) ∷
    (rw I64 (18446744071562067968 ∷ 18446744071562067968 ∷ 18446744071562067968 ∷ 18446744071562067968 ∷ 13511320676270768689 ∷ 18446744073709551615 ∷
    18446744073709551614 ∷ 12403398949723960802 ∷ [])) ∷ (rw I32 (7 ∷ 4294967293 ∷ [])) ∷ []) None ([])
unfolding digits number_to wrap_to amount not_zero
run_17_of_0 = refl

work_17_of_0 : work_of program_17 0 0 arguments_17 ≡ 32
unfolding digits number_to wrap_to amount not_zero
work_17_of_0 = refl

-- export void f(uniform signed a[], uniform unsigned int8 o[], uniform signed z[], uniform int n) { int x = - (18l); uniform int64 v1, v2 = 0; int v3
-- = ((0b1110u) > programIndex ? (0b10000 && programIndex) % ((unsigned int16) 8 | 1) : programIndex >= !(n)); signed int t4[2]; o[programIndex] = x;
-- }
abbrev program_22 : Program
program_22 = pr W4 ((fn None None ((vr (Given I32) false) ∷ (vr (Given U8) false) ∷ (vr (Given I32) false) ∷ (vr (AVariable (u I32)) false) ∷
    (vr (AVariable (v I32)) false) ∷ (vr (AVariable (u I64)) false) ∷ (vr (AVariable (u I64)) false) ∷ (vr (AVariable (v I32)) false) ∷
    (vr (Local (v I32) 2) false) ∷ []) (t_braces (t_stmts
    ((t_declare ((t_with_value 4 (v I32) (t_convert I32 (t_unary un.Negate (t_cast (cn I64 18 (s 109 112)) (u I64) (s 108 113)) (u I64) (s 106 113)))
    (s 102 113)) ∷ []) (s 98 114)) ∷ (t_declare ((t_plain 5 (u I64) (s 129 131)) ∷
    (t_with_value 6 (u I64) (t_convert I64 (cn I32 0 (s 138 139))) (s 133 139)) ∷ []) (s 115 140)) ∷
    (t_declare ((t_with_value 7 (v I32) (t_cast (t_choose
    (t_compare cmp.Greater (t_cast (cn U32 14 (s 152 159)) (u U32) (s 151 160)) (t_convert U32 (t_program_index (s 163 175))) Varying (s 151 175))
    (t_binary op.Rem (t_convert I32 (t_cast (t_logic logic.And (t_convert Truth (cn I32 16 (s 179 186)))
    (t_convert Truth (t_program_index (s 190 202))) Varying (s 179 202)) (v Truth) (s 178 203)))
    (t_cast (t_binary op.Or (t_convert I32 (t_cast (t_convert U16 (cn I32 8 (s 224 225))) (u U16) (s 207 225))) (cn I32 1 (s 228 229)) (u I32)
    (s 207 229)) (u I32) (s 206 230)) (v I32) (s 178 230))
    (t_convert I32 (t_compare cmp.GreaterOrEqual (t_program_index (s 233 245))
    (t_convert I32 (t_unary un.Not (t_convert Truth (t_cast (t_place (t_variable 3 (u I32) (s 251 252))) (u I32) (s 250 253))) (u Truth) (s 249 253)))
    Varying (s 233 253))) (v I32) (s 151 253)) (v I32) (s 150 254)) (s 145 254)) ∷ []) (s 141 255)) ∷
    (t_declare ((t_with_size (ar 8 (v I32) false) (s 267 272)) ∷ []) (s 256 273)) ∷
    (t_simple (t_assign (t_element (ar 1 (u U8) false) (t_program_index (s 276 288)) (v U8) (s 274 289))
    (t_convert U8 (t_place (t_variable 4 (v I32) (s 292 293)))) (s 274 293)) (s 274 294)) ∷ [])) (s 96 296))) ∷ [])

abbrev arguments_22 : List Argument
arguments_22 = ((AnArray (rw I32 (5 ∷ 1 ∷ 4294967292 ∷ 43562753 ∷ []))) ∷ (AnArray (rw U8 (213 ∷ 5 ∷ 200 ∷ 1 ∷ 1 ∷ 3 ∷ 1 ∷ 3 ∷ []))) ∷
    (AnArray (rw I32 (2147483649 ∷ 1 ∷ 2147483648 ∷ 0 ∷ []))) ∷ (AValue (record { elem = I32; bits = 4294967288 })) ∷ [])

run_22_of_0 : run_of program_22 0 0 arguments_22 ≡ Ends ((rw I32 (5 ∷ 1 ∷ 4294967292 ∷ 43562753 ∷ [])) ∷ (rw U8 (238 ∷ 238 ∷ 238 ∷ 238 ∷ 1 ∷ 3 ∷ 1 ∷ 3 ∷ [])) ∷ (rw I32 (2147483649 ∷ 1 ∷ 2147483648 ∷ 0 ∷ [])) ∷ []) None ([])
unfolding digits number_to wrap_to amount not_zero
run_22_of_0 = refl

work_22_of_0 : work_of program_22 0 0 arguments_22 ≡ 34
unfolding digits number_to wrap_to amount not_zero
work_22_of_0 = refl

-- export void f(uniform signed int a[], uniform unsigned int o[], uniform signed int n) { int x = n; ; n <<= n; o[programIndex] = (unsigned int64) x & programIndex || 0b1000 <= x; o[programIndex] = x; }
abbrev program_24 : Program
program_24 = pr W4 ((fn None None ((vr (Given I32) false) ∷ (vr (Given U32) false) ∷ (vr (AVariable (u I32)) false) ∷ (vr (AVariable (v I32)) false) ∷
    []) (t_braces (t_stmts ((t_declare ((t_with_value 3 (v I32) (t_place (t_variable 2 (u I32) (s 96 97))) (s 92 97)) ∷ []) (s 88 98)) ∷
    (t_block (t_braces (t_stmts ([])) (s 99 100))) ∷
    (t_simple (t_update op.Shl I32 (t_variable 2 (u I32) (s 101 102)) (t_place (t_variable 2 (u I32) (s 107 108))) (s 101 108)) (s 101 109)) ∷
    (t_simple (t_assign (t_element (ar 1 (u U32) false) (t_program_index (s 112 124)) (v U32) (s 110 125))
    (t_convert U32 (t_logic logic.Or (t_convert Truth
    (t_binary op.And (t_cast (t_convert U64 (t_place (t_variable 3 (v I32) (s 145 146)))) (v U64) (s 128 146))
    (t_convert U64 (t_program_index (s 149 161))) (v U64) (s 128 161)))
    (t_compare cmp.LessOrEqual (cn I32 8 (s 165 171)) (t_place (t_variable 3 (v I32) (s 175 176))) Varying (s 165 176)) Varying (s 128 176)))
    (s 110 176)) (s 110 177)) ∷ (t_simple (t_assign (t_element (ar 1 (u U32) false) (t_program_index (s 180 192)) (v U32) (s 178 193))
    (t_convert U32 (t_place (t_variable 3 (v I32) (s 196 197)))) (s 178 197)) (s 178 198)) ∷ [])) (s 86 200))) ∷ [])

abbrev arguments_24 : List Argument
arguments_24 = ((AnArray (rw I32 (2867608733 ∷ 1462222333 ∷ 9 ∷ 2147483648 ∷ []))) ∷ (AnArray (rw U32 (3 ∷ 8 ∷ 3 ∷ 469617720 ∷ 8 ∷ 3641362764 ∷ []))) ∷ (AValue (record { elem = I32; bits = 4 })) ∷ [])

run_24_of_0 : run_of program_24 0 0 arguments_24 ≡ Ends ((rw I32 (2867608733 ∷ 1462222333 ∷ 9 ∷ 2147483648 ∷ [])) ∷ (rw U32 (4 ∷ 4 ∷ 4 ∷ 4 ∷ 8 ∷ 3641362764 ∷ [])) ∷ []) None ([])
unfolding digits number_to wrap_to amount not_zero
run_24_of_0 = refl

work_24_of_0 : work_of program_24 0 0 arguments_24 ≡ 23
unfolding digits number_to wrap_to amount not_zero
work_24_of_0 = refl

-- export void f(uniform signed int a[], uniform uint8 o[], uniform signed int z[], uniform uint16 n) { int x = ~ n << n; int16 t1[5]; --n; uniform
-- int32 v2 = ((signed int) n) / ((((n) / (n | 1) | 1)) | 1) >> max(n + n, 1), v3 = 0x6 << ~((a[(n) & 15])); o[programIndex] = x; }
abbrev program_36 : Program
program_36 = pr W16 ((fn None None ((vr (Given I32) false) ∷ (vr (Given U8) false) ∷ (vr (Given I32) false) ∷ (vr (AVariable (u U16)) false) ∷
    (vr (AVariable (v I32)) false) ∷ (vr (Local (v I16) 5) false) ∷ (vr (AVariable (u I32)) false) ∷ (vr (AVariable (u I32)) false) ∷ [])
    (t_braces (t_stmts ((t_declare ((t_with_value 4 (v I32)
    (t_convert I32 (t_binary op.Shl (t_unary un.Invert (t_place (t_variable 3 (u U16) (s 111 112))) (u U16) (s 109 112))
    (t_place (t_variable 3 (u U16) (s 116 117))) (u U16) (s 109 117))) (s 105 117)) ∷ []) (s 101 118)) ∷
    (t_declare ((t_with_size (ar 5 (v I16) false) (s 125 130)) ∷ []) (s 119 131)) ∷
    (t_simple (t_step op.Sub I32 (t_variable 3 (u U16) (s 134 135)) (s 132 135)) (s 132 136)) ∷
    (t_declare ((t_with_value 6 (u I32) (t_binary op.Shr
    (t_binary op.Div (t_cast (t_cast (t_convert I32 (t_place (t_variable 3 (u U16) (s 170 171)))) (u I32) (s 157 171)) (u I32) (s 156 172))
    (t_cast (t_binary op.Or (t_cast (t_cast (t_binary op.Or
    (t_binary op.Div (t_convert I32 (t_cast (t_place (t_variable 3 (u U16) (s 179 180))) (u U16) (s 178 181)))
    (t_cast (t_binary op.Or (t_convert I32 (t_place (t_variable 3 (u U16) (s 185 186)))) (cn I32 1 (s 189 190)) (u I32) (s 185 190)) (u I32)
    (s 184 191)) (u I32) (s 178 191)) (cn I32 1 (s 194 195)) (u I32) (s 178 195)) (u I32) (s 177 196)) (u I32) (s 176 197)) (cn I32 1 (s 200 201))
    (u I32) (s 176 201)) (u I32) (s 175 202)) (u I32) (s 156 202))
    (t_library lib.Max I32 (t_exprs ((t_convert I32 (t_binary op.Add (t_place (t_variable 3 (u U16) (s 210 211)))
    (t_place (t_variable 3 (u U16) (s 214 215))) (u U16) (s 210 215))) ∷ (cn I32 1 (s 217 218)) ∷ [])) (u I32) (s 206 219)) (u I32) (s 156 219))
    (s 151 219)) ∷ (t_with_value 7 (u I32) (t_binary op.Shl (cn I32 6 (s 226 229))
    (t_unary un.Invert (t_cast (t_cast (t_place (t_element (ar 0 (u I32) false)
    (t_binary op.And (t_convert I32 (t_cast (t_place (t_variable 3 (u U16) (s 239 240))) (u U16) (s 238 241))) (cn I32 15 (s 244 246)) (u I32)
    (s 238 246)) (u I32) (s 236 247))) (u I32) (s 235 248)) (u I32) (s 234 249)) (u I32) (s 233 249)) (u I32) (s 226 249)) (s 221 249)) ∷ [])
    (s 137 250)) ∷ (t_simple (t_assign (t_element (ar 1 (u U8) false) (t_program_index (s 253 265)) (v U8) (s 251 266))
    (t_convert U8 (t_place (t_variable 4 (v I32) (s 269 270)))) (s 251 270)) (s 251 271)) ∷ [])) (s 99 273))) ∷ [])

abbrev arguments_36 : List Argument
arguments_36 = ((AnArray (rw I32 (2 ∷ 4294967289 ∷ 4294967287 ∷ 0 ∷ 4294967293 ∷ 2147483646 ∷ 76140036 ∷ 2147483646 ∷ 7 ∷ 0 ∷ 0 ∷ 2147483646 ∷
    4294967293 ∷ 4294967295 ∷ 2978424111 ∷ 691274750 ∷ 8 ∷ 4294967292 ∷ []))) ∷
    (AnArray (rw U8 (7 ∷ 4 ∷ 3 ∷ 1 ∷ 90 ∷ 8 ∷ 9 ∷ 1 ∷ 2 ∷ 0 ∷ 8 ∷ 7 ∷ 255 ∷ 3 ∷ 8 ∷ 6 ∷ 3 ∷ 1 ∷ 254 ∷ 36 ∷ []))) ∷
    (AnArray (rw I32 (4294967295 ∷ 2147483647 ∷ 4294967293 ∷ 1815610624 ∷ []))) ∷ (AValue (record { elem = U16; bits = 2 })) ∷ [])

run_36_of_0 : run_of program_36 0 0 arguments_36
    ≡ Ends ((rw I32 (2 ∷ 4294967289 ∷ 4294967287 ∷ 0 ∷ 4294967293 ∷ 2147483646 ∷ 76140036 ∷ 2147483646 ∷ 7 ∷ 0 ∷ 0 ∷ 2147483646 ∷ 4294967293 ∷
    4294967295 ∷ 2978424111 ∷ 691274750 ∷ 8 ∷ 4294967292 ∷ [])) ∷
    (rw U8 (244 ∷ 244 ∷ 244 ∷ 244 ∷ 244 ∷ 244 ∷ 244 ∷ 244 ∷ 244 ∷ 244 ∷ 244 ∷ 244 ∷ 244 ∷ 244 ∷ 244 ∷ 244 ∷ 3 ∷ 1 ∷ 254 ∷ 36 ∷ [])) ∷
    (rw I32 (4294967295 ∷ 2147483647 ∷ 4294967293 ∷ 1815610624 ∷ [])) ∷ []) None ([])
unfolding digits number_to wrap_to amount not_zero
run_36_of_0 = refl

work_36_of_0 : work_of program_36 0 0 arguments_36 ≡ 52
unfolding digits number_to wrap_to amount not_zero
work_36_of_0 = refl

-- export void f(uniform signed a[], uniform unsigned int8 o[], uniform signed int n) { int x = 65535 || programIndex > o[programIndex] >> n; if
-- (-((n))) { uniform signed v1; } if ((n ? n : a[programIndex]) >= n == programIndex) { --x; } else { x++; } n; o[programIndex] = x; }
abbrev program_42 : Program
program_42 = pr W8 ((fn None None ((vr (Given I32) false) ∷ (vr (Given U8) false) ∷ (vr (AVariable (u I32)) false) ∷ (vr (AVariable (v I32)) false) ∷
    (vr (AVariable (u I32)) false) ∷ []) (t_braces (t_stmts
    ((t_declare ((t_with_value 3 (v I32) (t_convert I32
    (t_logic logic.Or (t_convert Truth (cn I32 65535 (s 93 98)))
    (t_compare cmp.Greater (t_program_index (s 102 114))
    (t_binary op.Shr (t_convert I32 (t_place (t_element (ar 1 (u U8) false) (t_program_index (s 119 131)) (v U8) (s 117 132))))
    (t_place (t_variable 2 (u I32) (s 136 137))) (v I32) (s 117 137)) Varying (s 102 137)) Varying (s 93 137))) (s 89 137)) ∷ []) (s 85 138)) ∷
    (t_if Plain 4 (t_convert Truth (t_unary un.Negate
    (t_cast (t_cast (t_place (t_variable 2 (u I32) (s 146 147))) (u I32) (s 145 148)) (u I32) (s 144 149)) (u I32) (s 143 149)))
    (t_block (t_braces (t_stmts ((t_declare ((t_plain 4 (u I32) (s 168 170)) ∷ []) (s 153 171)) ∷ [])) (s 151 173))) (s 139 173)) ∷
    (t_if_else Plain 5 (t_compare cmp.Equal (t_convert I32
    (t_compare cmp.GreaterOrEqual (t_cast (t_choose (t_convert Truth (t_place (t_variable 2 (u I32) (s 179 180))))
    (t_place (t_variable 2 (u I32) (s 183 184))) (t_place (t_element (ar 0 (u I32) false) (t_program_index (s 189 201)) (v I32) (s 187 202))) (v I32)
    (s 179 202)) (v I32) (s 178 203)) (t_place (t_variable 2 (u I32) (s 207 208))) Varying (s 178 208))) (t_program_index (s 212 224)) Varying
    (s 178 224)) (t_block (t_braces (t_stmts ((t_simple (t_step op.Sub I32 (t_variable 3 (v I32) (s 230 231)) (s 228 231)) (s 228 232)) ∷ []))
    (s 226 234))) (t_block (t_braces (t_stmts ((t_simple (t_step op.Add I32 (t_variable 3 (v I32) (s 242 243)) (s 242 245)) (s 242 246)) ∷ []))
    (s 240 248))) (s 174 248)) ∷ (t_simple (t_value (t_place (t_variable 2 (u I32) (s 249 250)))) (s 249 251)) ∷
    (t_simple (t_assign (t_element (ar 1 (u U8) false) (t_program_index (s 254 266)) (v U8) (s 252 267))
    (t_convert U8 (t_place (t_variable 3 (v I32) (s 270 271)))) (s 252 271)) (s 252 272)) ∷ [])) (s 83 274))) ∷ [])

abbrev arguments_42 : List Argument
arguments_42 = ((AnArray (rw I32 (1458502183 ∷ 4294967295 ∷ 2147483646 ∷ 2147483647 ∷ 4294967288 ∷ 4294967287 ∷ 4294967287 ∷ 2816853053 ∷ []))) ∷
    (AnArray (rw U8 (145 ∷ 5 ∷ 9 ∷ 40 ∷ 9 ∷ 178 ∷ 4 ∷ 255 ∷ 226 ∷ 3 ∷ 159 ∷ []))) ∷ (AValue (record { elem = I32; bits = 0 })) ∷ [])

run_42_of_0 : run_of program_42 0 0 arguments_42
    ≡ Ends ((rw I32 (1458502183 ∷ 4294967295 ∷ 2147483646 ∷ 2147483647 ∷ 4294967288 ∷ 4294967287 ∷ 4294967287 ∷ 2816853053 ∷ [])) ∷
    (rw U8 (2 ∷ 2 ∷ 2 ∷ 2 ∷ 2 ∷ 2 ∷ 2 ∷ 2 ∷ 226 ∷ 3 ∷ 159 ∷ [])) ∷ []) None ([])
unfolding digits number_to wrap_to amount not_zero
run_42_of_0 = refl

work_42_of_0 : work_of program_42 0 0 arguments_42 ≡ 29
unfolding digits number_to wrap_to amount not_zero
work_42_of_0 = refl

-- export uniform signed int8 f(uniform signed int a[], uniform int64 o[], uniform unsigned int16 n) { int x = programIndex & programIndex == !
-- programIndex; n &= a[(9 >= n) & 15]; o[(programIndex ^ (n | n)) & 15] -= programIndex + x; a[programIndex] += x; return ~ (uniform uint16) n; }
abbrev program_48 : Program
program_48 = pr W16 ((fn (Some I8) (Some (u I8))
    ((vr (Given I32) false) ∷ (vr (Given I64) false) ∷ (vr (AVariable (u U16)) false) ∷ (vr (AVariable (v I32)) false) ∷ [])
    (t_braces (t_stmts ((t_declare ((t_with_value 3 (v I32)
    (t_binary op.And (t_program_index (s 108 120)) (t_convert I32
    (t_compare cmp.Equal (t_program_index (s 123 135))
    (t_convert I32 (t_unary un.Not (t_convert Truth (t_program_index (s 141 153))) (v Truth) (s 139 153))) Varying (s 123 153))) (v I32) (s 108 153))
    (s 104 153)) ∷ []) (s 100 154)) ∷ (t_simple (t_update op.And I32 (t_variable 2 (u U16) (s 155 156))
    (t_place (t_element (ar 0 (u I32) false) (t_binary op.And
    (t_convert I32 (t_cast (t_compare cmp.GreaterOrEqual (cn I32 9 (s 163 164)) (t_convert I32 (t_place (t_variable 2 (u U16) (s 168 169)))) Uniform
    (s 163 169)) (u Truth) (s 162 170))) (cn I32 15 (s 173 175)) (u I32) (s 162 175)) (u I32) (s 160 176))) (s 155 176)) (s 155 177)) ∷
    (t_simple (t_update op.Sub I64 (t_element (ar 1 (u I64) false)
    (t_binary op.And (t_cast (t_binary op.Xor (t_program_index (s 181 193))
    (t_convert I32 (t_cast (t_binary op.Or (t_place (t_variable 2 (u U16) (s 197 198))) (t_place (t_variable 2 (u U16) (s 201 202))) (u U16)
    (s 197 202)) (u U16) (s 196 203))) (v I32) (s 181 203)) (v I32) (s 180 204)) (cn I32 15 (s 207 209)) (v I32) (s 180 209)) (v I64) (s 178 210))
    (t_convert I64 (t_binary op.Add (t_program_index (s 214 226)) (t_place (t_variable 3 (v I32) (s 229 230))) (v I32) (s 214 230))) (s 178 230))
    (s 178 231)) ∷ (t_simple (t_update op.Add I32 (t_element (ar 0 (u I32) false) (t_program_index (s 234 246)) (v I32) (s 232 247))
    (t_place (t_variable 3 (v I32) (s 251 252))) (s 232 252)) (s 232 253)) ∷
    (t_return (s 254 260) (Some (t_convert I8 (t_unary un.Invert (t_cast (t_place (t_variable 2 (u U16) (s 280 281))) (u U16) (s 263 281)) (u U16)
    (s 261 281)))) (s 254 282)) ∷ [])) (s 98 284))) ∷ [])

abbrev arguments_48 : List Argument
arguments_48 = ((AnArray (rw I32 (2147483646 ∷ 3 ∷ 4294967289 ∷ 5 ∷ 4294967288 ∷ 2147483648 ∷ 1 ∷ 0 ∷ 1 ∷ 7 ∷ 1359130113 ∷ 2147483647 ∷ 45892964 ∷
    865714292 ∷ 6 ∷ 0 ∷ 4269086448 ∷ 2147483649 ∷ 2730744663 ∷ 4294967292 ∷ []))) ∷
    (AnArray (rw I64 (2541739365445949894 ∷ 18446744073709551609 ∷ 3 ∷ 0 ∷ 18446744073709551610 ∷ 9223372036854775807 ∷ 18446744073709551614 ∷ 3 ∷
    10788298256548520555 ∷ 9223372036854775808 ∷ 9223372036854775806 ∷ 15983699389543805092 ∷ 13290146460632670088 ∷ 1 ∷ 10870257908955862192 ∷
    9223372036854775806 ∷ 18446744073709551608 ∷ []))) ∷ (AValue (record { elem = U16; bits = 47887 })) ∷ [])

run_48_of_0 : run_of program_48 0 0 arguments_48
    ≡ Ends ((rw I32 (2147483646 ∷ 3 ∷ 4294967289 ∷ 5 ∷ 4294967288 ∷ 2147483648 ∷ 1 ∷ 0 ∷ 1 ∷ 7 ∷ 1359130113 ∷ 2147483647 ∷ 45892964 ∷ 865714292 ∷ 6 ∷
    0 ∷ 4269086448 ∷ 2147483649 ∷ 2730744663 ∷ 4294967292 ∷ [])) ∷
    (rw I64 (2541739365445949880 ∷ 18446744073709551594 ∷ 18446744073709551607 ∷ 18446744073709551603 ∷ 18446744073709551600 ∷ 9223372036854775796 ∷
    18446744073709551606 ∷ 18446744073709551610 ∷ 10788298256548520549 ∷ 9223372036854775801 ∷ 9223372036854775802 ∷ 15983699389543805087 ∷
    13290146460632670086 ∷ 18446744073709551614 ∷ 10870257908955862192 ∷ 9223372036854775805 ∷ 18446744073709551608 ∷ [])) ∷ [])
    (Some (record { elem = I8; bits = 241 })) ([])
unfolding digits number_to wrap_to amount not_zero
run_48_of_0 = refl

work_48_of_0 : work_of program_48 0 0 arguments_48 ≡ 40
unfolding digits number_to wrap_to amount not_zero
work_48_of_0 = refl

-- export uniform uint f(uniform int a[], uniform uint64 o[]) { int x = a[programIndex] << (o[programIndex]) / (32767 | 1); x -= (x + 0b1010u -
-- (unsigned int16) x); a[programIndex] >>= ((o[programIndex] ? x : x)) & x; o[programIndex] = x; return -(1); }
abbrev program_53 : Program
program_53 = pr W4 ((fn (Some U32) (Some (u U32)) ((vr (Given I32) false) ∷ (vr (Given U64) false) ∷ (vr (AVariable (v I32)) false) ∷ [])
    (t_braces (t_stmts ((t_declare ((t_with_value 2 (v I32)
    (t_convert I32 (t_binary op.Shl (t_convert U64 (t_place (t_element (ar 0 (u I32) false) (t_program_index (s 71 83)) (v I32) (s 69 84))))
    (t_binary op.Div (t_cast (t_place (t_element (ar 1 (u U64) false) (t_program_index (s 91 103)) (v U64) (s 89 104))) (v U64) (s 88 105))
    (t_convert U64 (t_cast (t_binary op.Or (cn I32 32767 (s 109 114)) (cn I32 1 (s 117 118)) (u I32) (s 109 118)) (u I32) (s 108 119))) (v U64)
    (s 88 119)) (v U64) (s 69 119))) (s 65 119)) ∷ []) (s 61 120)) ∷
    (t_simple (t_update op.Sub U32 (t_variable 2 (v I32) (s 121 122))
    (t_cast (t_binary op.Sub (t_binary op.Add (t_convert U32 (t_place (t_variable 2 (v I32) (s 127 128)))) (cn U32 10 (s 131 138)) (v U32)
    (s 127 138)) (t_convert U32 (t_cast (t_convert U16 (t_place (t_variable 2 (v I32) (s 158 159)))) (v U16) (s 141 159))) (v U32) (s 127 159))
    (v U32) (s 126 160)) (s 121 160)) (s 121 161)) ∷
    (t_simple (t_update op.Shr I32 (t_element (ar 0 (u I32) false) (t_program_index (s 164 176)) (v I32) (s 162 177))
    (t_binary op.And (t_cast (t_cast (t_choose (t_convert Truth
    (t_place (t_element (ar 1 (u U64) false) (t_program_index (s 186 198)) (v U64) (s 184 199)))) (t_place (t_variable 2 (v I32) (s 202 203)))
    (t_place (t_variable 2 (v I32) (s 206 207))) (v I32) (s 184 207)) (v I32) (s 183 208)) (v I32) (s 182 209))
    (t_place (t_variable 2 (v I32) (s 212 213))) (v I32) (s 182 213)) (s 162 213)) (s 162 214)) ∷
    (t_simple (t_assign (t_element (ar 1 (u U64) false) (t_program_index (s 217 229)) (v U64) (s 215 230))
    (t_convert U64 (t_place (t_variable 2 (v I32) (s 233 234)))) (s 215 234)) (s 215 235)) ∷
    (t_return (s 236 242) (Some (t_convert U32 (t_unary un.Negate (t_cast (cn I32 1 (s 245 246)) (u I32) (s 244 247)) (u I32) (s 243 247))))
    (s 236 248)) ∷ [])) (s 59 250))) ∷ [])

abbrev arguments_53 : List Argument
arguments_53 = ((AnArray (rw I32 (4294967295 ∷ 2938912492 ∷ 1069898107 ∷ 9 ∷ 4 ∷ []))) ∷ (AnArray (rw U64 (18446744073709551614 ∷ 5 ∷ 18446744073709551614 ∷ 8 ∷ 17100840380538347000 ∷ 4 ∷ 1 ∷ []))) ∷ [])

run_53_of_0 : run_of program_53 0 0 arguments_53
    ≡ Ends ((rw I32 (4294967295 ∷ 3955953595 ∷ 255 ∷ 0 ∷ 4 ∷ [])) ∷
    (rw U64 (18446744073709551606 ∷ 16098 ∷ 18446744073709551606 ∷ 18446744073709551615 ∷ 17100840380538347000 ∷ 4 ∷ 1 ∷ [])) ∷ [])
    (Some (record { elem = U32; bits = 4294967295 })) ([])
unfolding digits number_to wrap_to amount not_zero
run_53_of_0 = refl

work_53_of_0 : work_of program_53 0 0 arguments_53 ≡ 42
unfolding digits number_to wrap_to amount not_zero
work_53_of_0 = refl

-- export void f(uniform signed a[], uniform uint8 o[], uniform signed n) { int x = -((int) n); n |= (4294967296 >> 2147483647 <= 9223372036854775807 || n); uniform signed int v1 = 4294967295 * n; o[programIndex] = x; }
abbrev program_59 : Program
program_59 = pr W16 ((fn None None ((vr (Given I32) false) ∷ (vr (Given U8) false) ∷ (vr (AVariable (u I32)) false) ∷ (vr (AVariable (v I32)) false) ∷
    (vr (AVariable (u I32)) false) ∷ []) (t_braces (t_stmts
    ((t_declare ((t_with_value 3 (v I32) (t_unary un.Negate
    (t_cast (t_cast (t_place (t_variable 2 (u I32) (s 89 90))) (u I32) (s 83 90)) (u I32) (s 82 91)) (u I32) (s 81 91)) (s 77 91)) ∷ []) (s 73 92)) ∷
    (t_simple (t_update op.Or I32 (t_variable 2 (u I32) (s 93 94))
    (t_convert I32 (t_cast (t_logic logic.Or (t_compare cmp.LessOrEqual
    (t_binary op.Shr (cn I64 4294967296 (s 99 109)) (t_convert I64 (cn I32 2147483647 (s 113 123))) (u I64) (s 99 123))
    (cn I64 9223372036854775807 (s 127 146)) Uniform (s 99 146)) (t_convert Truth (t_place (t_variable 2 (u I32) (s 150 151)))) Uniform (s 99 151))
    (u Truth) (s 98 152))) (s 93 152)) (s 93 153)) ∷
    (t_declare ((t_with_value 4 (u I32) (t_convert I32
    (t_binary op.Mul (cn I64 4294967295 (s 178 188)) (t_convert I64 (t_place (t_variable 2 (u I32) (s 191 192)))) (u I64) (s 178 192))) (s 173 192)) ∷
    []) (s 154 193)) ∷ (t_simple (t_assign (t_element (ar 1 (u U8) false) (t_program_index (s 196 208)) (v U8) (s 194 209))
    (t_convert U8 (t_place (t_variable 3 (v I32) (s 212 213)))) (s 194 213)) (s 194 214)) ∷ [])) (s 71 216))) ∷ [])

abbrev arguments_59 : List Argument
arguments_59 = ((AnArray (rw I32 (5 ∷ 2 ∷ 7 ∷ 3145588185 ∷ 3 ∷ 4294967288 ∷ 2147483647 ∷ 4294967293 ∷ 2118127188 ∷ 1 ∷ 4294967293 ∷ 4294967289 ∷
    2147483648 ∷ 2147483647 ∷ 4294967288 ∷ 1736269610 ∷ 3073573773 ∷ 6 ∷ 0 ∷ 4294967293 ∷ []))) ∷
    (AnArray (rw U8 (1 ∷ 0 ∷ 4 ∷ 201 ∷ 36 ∷ 0 ∷ 255 ∷ 80 ∷ 1 ∷ 9 ∷ 3 ∷ 3 ∷ 179 ∷ 253 ∷ 1 ∷ 2 ∷ 0 ∷ 3 ∷ 6 ∷ 9 ∷ []))) ∷
    (AValue (record { elem = I32; bits = 4294967293 })) ∷ [])

run_59_of_0 : run_of program_59 0 0 arguments_59
    ≡ Ends ((rw I32 (5 ∷ 2 ∷ 7 ∷ 3145588185 ∷ 3 ∷ 4294967288 ∷ 2147483647 ∷ 4294967293 ∷ 2118127188 ∷ 1 ∷ 4294967293 ∷ 4294967289 ∷ 2147483648 ∷
    2147483647 ∷ 4294967288 ∷ 1736269610 ∷ 3073573773 ∷ 6 ∷ 0 ∷ 4294967293 ∷ [])) ∷
    (rw U8 (3 ∷ 3 ∷ 3 ∷ 3 ∷ 3 ∷ 3 ∷ 3 ∷ 3 ∷ 3 ∷ 3 ∷ 3 ∷ 3 ∷ 3 ∷ 3 ∷ 3 ∷ 3 ∷ 0 ∷ 3 ∷ 6 ∷ 9 ∷ [])) ∷ []) None ([])
unfolding digits number_to wrap_to amount not_zero
run_59_of_0 = refl

work_59_of_0 : work_of program_59 0 0 arguments_59 ≡ 25
unfolding digits number_to wrap_to amount not_zero
work_59_of_0 = refl

-- export void f(uniform int32 a[], uniform int8 o[]) { int x = clamp(a[(programIndex ^ (a[(programIndex ^ (programCount)) & 7])) & 7], (signed int64)
-- o[programIndex], (programIndex)); ; varying signed v1 = (programIndex - x) / (((7 == 1 | 1)) | 1) <= (programCount >> 2147483647); a[programIndex]
-- += x; }
abbrev program_65 : Program
program_65 = pr W8 ((fn None None ((vr (Given I32) false) ∷ (vr (Given I8) false) ∷ (vr (AVariable (v I32)) false) ∷ (vr (AVariable (v I32)) false) ∷
    []) (t_braces (t_stmts ((t_declare ((t_with_value 2 (v I32)
    (t_convert I32 (t_library lib.Clamp I64 (t_exprs
    ((t_convert I64 (t_place (t_element (ar 0 (u I32) false)
    (t_binary op.And (t_cast (t_binary op.Xor (t_program_index (s 70 82))
    (t_cast (t_place (t_element (ar 0 (u I32) false)
    (t_binary op.And (t_cast (t_binary op.Xor (t_program_index (s 89 101)) (t_cast (cn I32 8 (s 105 117)) (u I32) (s 104 118)) (v I32) (s 89 118))
    (v I32) (s 88 119)) (cn I32 7 (s 122 123)) (v I32) (s 88 123)) (v I32) (s 86 124))) (v I32) (s 85 125)) (v I32) (s 70 125)) (v I32) (s 69 126))
    (cn I32 7 (s 129 130)) (v I32) (s 69 130)) (v I32) (s 67 131)))) ∷
    (t_cast (t_convert I64 (t_place (t_element (ar 1 (u I8) false) (t_program_index (s 150 162)) (v I8) (s 148 163)))) (v I64) (s 133 163)) ∷
    (t_convert I64 (t_cast (t_program_index (s 166 178)) (v I32) (s 165 179))) ∷ [])) (v I64) (s 61 180))) (s 57 180)) ∷ []) (s 53 181)) ∷
    (t_block (t_braces (t_stmts ([])) (s 182 183))) ∷
    (t_declare ((t_with_value 3 (v I32) (t_convert I32
    (t_compare cmp.LessOrEqual (t_binary op.Div (t_cast
    (t_binary op.Sub (t_program_index (s 205 217)) (t_place (t_variable 2 (v I32) (s 220 221))) (v I32) (s 205 221)) (v I32) (s 204 222))
    (t_cast (t_binary op.Or (t_cast (t_cast (t_binary op.Or
    (t_convert I32 (t_compare cmp.Equal (cn I32 7 (s 228 229)) (cn I32 1 (s 233 234)) Uniform (s 228 234))) (cn I32 1 (s 237 238)) (u I32)
    (s 228 238)) (u I32) (s 227 239)) (u I32) (s 226 240)) (cn I32 1 (s 243 244)) (u I32) (s 226 244)) (u I32) (s 225 245)) (v I32) (s 204 245))
    (t_cast (t_binary op.Shr (cn I32 8 (s 250 262)) (cn I32 2147483647 (s 266 276)) (u I32) (s 250 276)) (u I32) (s 249 277)) Varying (s 204 277)))
    (s 199 277)) ∷ []) (s 184 278)) ∷ (t_simple (t_update op.Add I32
    (t_element (ar 0 (u I32) false) (t_program_index (s 281 293)) (v I32) (s 279 294)) (t_place (t_variable 2 (v I32) (s 298 299))) (s 279 299))
    (s 279 300)) ∷ [])) (s 51 302))) ∷ [])

abbrev arguments_65 : List Argument
arguments_65 = ((AnArray (rw I32 (4294967295 ∷ 2147483649 ∷ 3560051431 ∷ 2806797744 ∷ 4 ∷ 6 ∷ 4294967292 ∷ 4294967294 ∷ 4294967289 ∷ []))) ∷ (AnArray (rw I8 (21 ∷ 126 ∷ 122 ∷ 254 ∷ 203 ∷ 127 ∷ 127 ∷ 6 ∷ 250 ∷ 2 ∷ 153 ∷ []))) ∷ [])

run_65_of_0 : run_of program_65 0 0 arguments_65 ≡ Ends ((rw I32 (4294967295 ∷ 2147483650 ∷ 3560051433 ∷ 2806797742 ∷ 3 ∷ 11 ∷ 2 ∷ 4 ∷ 4294967289 ∷ [])) ∷ (rw I8 (21 ∷ 126 ∷ 122 ∷ 254 ∷ 203 ∷ 127 ∷ 127 ∷ 6 ∷ 250 ∷ 2 ∷ 153 ∷ [])) ∷ []) None ([])
unfolding digits number_to wrap_to amount not_zero
run_65_of_0 = refl

work_65_of_0 : work_of program_65 0 0 arguments_65 ≡ 51
unfolding digits number_to wrap_to amount not_zero
work_65_of_0 = refl

-- export uniform signed f(uniform int a[], uniform signed int8 o[], uniform uint32 n) { int x = (bool) o[programIndex] == 2 & a[(3) & 3]; x = (signed) programIndex + n & o[programIndex]; ++n; o[programIndex] = x; return n; }
abbrev program_68 : Program
program_68 = pr W4 ((fn (Some I32) (Some (u I32))
    ((vr (Given I32) false) ∷ (vr (Given I8) false) ∷ (vr (AVariable (u U32)) false) ∷ (vr (AVariable (v I32)) false) ∷ [])
    (t_braces (t_stmts ((t_declare ((t_with_value 3 (v I32)
    (t_binary op.And (t_convert I32 (t_compare cmp.Equal
    (t_convert I32 (t_cast (t_convert Truth (t_place (t_element (ar 1 (u I8) false) (t_program_index (s 103 115)) (v I8) (s 101 116)))) (v Truth)
    (s 94 116))) (cn I32 2 (s 120 121)) Varying (s 94 121)))
    (t_place (t_element (ar 0 (u I32) false) (t_binary op.And (t_cast (cn I32 3 (s 127 128)) (u I32) (s 126 129)) (cn I32 3 (s 132 133)) (u I32)
    (s 126 133)) (u I32) (s 124 134))) (v I32) (s 94 134)) (s 90 134)) ∷ []) (s 86 135)) ∷
    (t_simple (t_assign (t_variable 3 (v I32) (s 136 137))
    (t_convert I32 (t_binary op.And (t_binary op.Add (t_convert U32 (t_cast (t_program_index (s 149 161)) (v I32) (s 140 161)))
    (t_place (t_variable 2 (u U32) (s 164 165))) (v U32) (s 140 165))
    (t_convert U32 (t_place (t_element (ar 1 (u I8) false) (t_program_index (s 170 182)) (v I8) (s 168 183)))) (v U32) (s 140 183))) (s 136 183))
    (s 136 184)) ∷ (t_simple (t_step op.Add U32 (t_variable 2 (u U32) (s 187 188)) (s 185 188)) (s 185 189)) ∷
    (t_simple (t_assign (t_element (ar 1 (u I8) false) (t_program_index (s 192 204)) (v I8) (s 190 205))
    (t_convert I8 (t_place (t_variable 3 (v I32) (s 208 209)))) (s 190 209)) (s 190 210)) ∷
    (t_return (s 211 217) (Some (t_convert I32 (t_place (t_variable 2 (u U32) (s 218 219))))) (s 211 220)) ∷ [])) (s 84 222))) ∷ [])

abbrev arguments_68 : List Argument
arguments_68 = ((AnArray (rw I32 (2147483647 ∷ 4294967290 ∷ 7 ∷ 4294967288 ∷ 2147483647 ∷ []))) ∷ (AnArray (rw I8 (0 ∷ 222 ∷ 7 ∷ 129 ∷ 248 ∷ 98 ∷ 253 ∷ 6 ∷ []))) ∷ (AValue (record { elem = U32; bits = 1 })) ∷ [])

run_68_of_0 : run_of program_68 0 0 arguments_68 ≡ Ends ((rw I32 (2147483647 ∷ 4294967290 ∷ 7 ∷ 4294967288 ∷ 2147483647 ∷ [])) ∷ (rw I8 (0 ∷ 2 ∷ 3 ∷ 0 ∷ 248 ∷ 98 ∷ 253 ∷ 6 ∷ [])) ∷ []) (Some (record { elem = I32; bits = 2 })) ([])
unfolding digits number_to wrap_to amount not_zero
run_68_of_0 = refl

work_68_of_0 : work_of program_68 0 0 arguments_68 ≡ 31
unfolding digits number_to wrap_to amount not_zero
work_68_of_0 = refl
