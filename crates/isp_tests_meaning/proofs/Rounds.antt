-- `foreach` and `foreach_active`: what each program does in so many turns and what its work is, against an independent implementation.
use Rattle.std.specs.Prelude.{◌≡◌, true, false, List, [], ◌∷◌, Some, None}
use Rattle.std.proofs.Common.{refl}
use Rattle.std.specs.Fmt.{digits}
use Rattle.isp_base.specs.Values.{number_to, wrap_to, amount, not_zero}
use Rattle.isp_base.specs.Outcomes.{Ends}
use Rattle.isp_base.specs.declared.types.Gang.TheVariants.{W4, W8, W16}
use Rattle.isp_base.specs.declared.types.Elem.TheVariants.{Bool as Truth, I8, U8, I16, U16, I32, U32, I64, U64}
use Rattle.isp_base.specs.declared.types.Rate.TheVariants.{Uniform, Varying}
use Rattle.isp_base.specs.declared.operators.BinOp.TheVariants as op
use Rattle.isp_base.specs.declared.operators.UnaryOp.TheVariants as un
use Rattle.isp_base.specs.declared.operators.Compare.TheVariants as cmp
use Rattle.isp_base.specs.declared.signature.Argument.{Argument}
use Rattle.isp_base.specs.declared.signature.Argument.TheVariants.{Array as AnArray, Value as AValue}
use Rattle.isp_tree.specs.declared.stmt.Form.TheVariants.{Plain}
use Rattle.isp_typed.specs.declared.library.Library.TheVariants as lib
use Rattle.isp_typed.specs.declared.variable.Holds.TheVariants.{Value as AVariable, Given, Local}
use Rattle.isp_typed.specs.declared.variable.Logic.TheVariants as logic
use Rattle.isp_typed.specs.Typed.{t_program_index, t_place, t_convert, t_cast, t_unary, t_binary, t_compare, t_logic, t_choose, t_library, t_variable, t_element, t_exprs}
use Rattle.isp_typed.specs.Typed.{t_plain, t_with_value, t_with_size, t_value, t_assign, t_update, t_step}
use Rattle.isp_typed.specs.Typed.{t_block, t_declare, t_simple, t_if, t_if_else, t_foreach, t_foreach_active, t_unmasked, t_return, t_braces, t_stmts, Program}
use Rattle.isp_meaning.specs.Runs.{run_of, work_of}
use Rattle.isp_tests_meaning.specs.Terms.{s, u, v, cn, ar, rg, vr, rw, fn, pr}

-- export uniform int f(uniform int32 a[], uniform uint64 o[], uniform int n) { int x = (uint8) min(n, n); bool v1 = n; uniform int v2 = clamp(n, 0b1u
-- - 0x670e5ada3afdc76c, select(a[(n * 0x1f) & 15], 9, n)) && programCount; int32 v3; o[programIndex] = x; return !((true) / (32767 | 1)); }
abbrev program_2 : Program
program_2 = pr W16 ((fn (Some I32) (Some (u I32))
    ((vr (Given I32) false) ∷ (vr (Given U64) false) ∷ (vr (AVariable (u I32)) false) ∷ (vr (AVariable (v I32)) false) ∷
    (vr (AVariable (v Truth)) false) ∷ (vr (AVariable (u I32)) false) ∷ (vr (AVariable (v I32)) false) ∷ [])
    (t_braces (t_stmts ((t_declare ((t_with_value 3 (v I32)
    (t_convert I32 (t_cast (t_convert U8 (t_library lib.Min I32
    (t_exprs ((t_place (t_variable 2 (u I32) (s 97 98))) ∷ (t_place (t_variable 2 (u I32) (s 100 101))) ∷ [])) (u I32) (s 93 102))) (u U8)
    (s 85 102))) (s 81 102)) ∷ []) (s 77 103)) ∷ (t_declare
    ((t_with_value 4 (v Truth) (t_convert Truth (t_place (t_variable 2 (u I32) (s 114 115)))) (s 109 115)) ∷ []) (s 104 116)) ∷
    (t_declare ((t_with_value 5 (u I32) (t_convert I32
    (t_logic logic.And (t_convert Truth (t_library lib.Clamp I64
    (t_exprs ((t_convert I64 (t_place (t_variable 2 (u I32) (s 140 141)))) ∷
    (t_binary op.Sub (t_convert I64 (cn U32 1 (s 143 147))) (cn I64 7425972728919607148 (s 150 168)) (u I64) (s 143 168)) ∷
    (t_convert I64 (t_library lib.Select I32 (t_exprs
    ((t_convert Truth (t_place (t_element (ar 0 (u I32) false)
    (t_binary op.And (t_cast (t_binary op.Mul (t_place (t_variable 2 (u I32) (s 180 181))) (cn I32 31 (s 184 188)) (u I32) (s 180 188)) (u I32)
    (s 179 189)) (cn I32 15 (s 192 194)) (u I32) (s 179 194)) (u I32) (s 177 195)))) ∷ (cn I32 9 (s 197 198)) ∷
    (t_place (t_variable 2 (u I32) (s 200 201))) ∷ [])) (u I32) (s 170 202))) ∷ [])) (u I64) (s 134 203))) (t_convert Truth (cn I32 16 (s 207 219)))
    Uniform (s 134 219))) (s 129 219)) ∷ []) (s 117 220)) ∷ (t_declare ((t_plain 6 (v I32) (s 227 229)) ∷ []) (s 221 230)) ∷
    (t_simple (t_assign (t_element (ar 1 (u U64) false) (t_program_index (s 233 245)) (v U64) (s 231 246))
    (t_convert U64 (t_place (t_variable 3 (v I32) (s 249 250)))) (s 231 250)) (s 231 251)) ∷
    (t_return (s 252 258) (Some (t_convert I32 (t_unary un.Not
    (t_convert Truth (t_cast (t_binary op.Div (t_convert I32 (t_cast (cn Truth 1 (s 262 266)) (u Truth) (s 261 267)))
    (t_cast (t_binary op.Or (cn I32 32767 (s 271 276)) (cn I32 1 (s 279 280)) (u I32) (s 271 280)) (u I32) (s 270 281)) (u I32) (s 261 281)) (u I32)
    (s 260 282))) (u Truth) (s 259 282)))) (s 252 283)) ∷ [])) (s 75 285))) ∷ [])

abbrev arguments_2 : List Argument
arguments_2 = ((AnArray (rw I32 (4 ∷ 2 ∷ 7 ∷ 2147483648 ∷ 1 ∷ 309391513 ∷ 6 ∷ 2147483649 ∷ 9 ∷ 7 ∷ 9 ∷ 2147483647 ∷ 3430881060 ∷ 2147483649 ∷ 3 ∷
    4294967293 ∷ []))) ∷ (AnArray (rw U64 (9 ∷ 18446744073709551615 ∷ 2 ∷ 9 ∷ 1 ∷ 6 ∷ 0 ∷ 10453398406664788751 ∷ 9 ∷ 3 ∷ 1 ∷ 18446744073709551615 ∷ 8
    ∷ 3 ∷ 9 ∷ 8559850609957702196 ∷ 9972805519259375396 ∷ []))) ∷ (AValue (record { elem = I32; bits = 5 })) ∷ [])

run_2_of_0 : run_of program_2 0 0 arguments_2 ≡ Ends
    ((rw I32 (4 ∷ 2 ∷ 7 ∷ 2147483648 ∷ 1 ∷ 309391513 ∷ 6 ∷ 2147483649 ∷ 9 ∷ 7 ∷ 9 ∷ 2147483647 ∷ 3430881060 ∷ 2147483649 ∷ 3 ∷ 4294967293 ∷ [])) ∷
    (rw U64 (5 ∷ 5 ∷ 5 ∷ 5 ∷ 5 ∷ 5 ∷ 5 ∷ 5 ∷ 5 ∷ 5 ∷ 5 ∷ 5 ∷ 5 ∷ 5 ∷ 5 ∷ 5 ∷ 9972805519259375396 ∷ [])) ∷ []) (Some (record { elem = I32; bits = 1 }))
    ([])
unfolding digits number_to wrap_to amount not_zero
run_2_of_0 = refl

work_2_of_0 : work_of program_2 0 0 arguments_2 ≡ 45
unfolding digits number_to wrap_to amount not_zero
work_2_of_0 = refl

-- export void f(uniform signed int a[], uniform unsigned int8 o[], uniform bool z[]) { int x = -(o[programIndex] * z[(programIndex ^ (z[(programIndex
-- ^ (! o[programIndex])) & 3])) & 3]); foreach_tiled (i1 = 0 ... 4, i2 = 0 ... 2) { varying signed v3 = (z[(programIndex ^ (i1)) & 3]);
-- a[programIndex]; } signed int64 v4 = x * x, v5; ; x |= programIndex; a[programIndex] += x; }
abbrev program_4 : Program
program_4 = pr W8 ((fn None None ((vr (Given I32) false) ∷ (vr (Given U8) false) ∷ (vr (Given Truth) false) ∷ (vr (AVariable (v I32)) false) ∷
    (vr (AVariable (v I32)) true) ∷ (vr (AVariable (v I32)) true) ∷ (vr (AVariable (v I32)) false) ∷ (vr (AVariable (v I64)) false) ∷
    (vr (AVariable (v I64)) false) ∷ []) (t_braces (t_stmts
    ((t_declare ((t_with_value 3 (v I32) (t_unary un.Negate
    (t_cast (t_binary op.Mul (t_convert I32 (t_place (t_element (ar 1 (u U8) false) (t_program_index (s 97 109)) (v U8) (s 95 110))))
    (t_convert I32 (t_place (t_element (ar 2 (u Truth) false)
    (t_binary op.And (t_cast (t_binary op.Xor (t_program_index (s 116 128))
    (t_convert I32 (t_cast (t_place (t_element (ar 2 (u Truth) false)
    (t_binary op.And (t_cast (t_binary op.Xor (t_program_index (s 135 147))
    (t_convert I32 (t_cast (t_unary un.Not (t_convert Truth
    (t_place (t_element (ar 1 (u U8) false) (t_program_index (s 155 167)) (v U8) (s 153 168)))) (v Truth) (s 151 168)) (v Truth) (s 150 169))) (v I32)
    (s 135 169)) (v I32) (s 134 170)) (cn I32 3 (s 173 174)) (v I32) (s 134 174)) (v Truth) (s 132 175))) (v Truth) (s 131 176))) (v I32) (s 116 176))
    (v I32) (s 115 177)) (cn I32 3 (s 180 181)) (v I32) (s 115 181)) (v Truth) (s 113 182)))) (v I32) (s 95 182)) (v I32) (s 94 183)) (v I32)
    (s 93 183)) (s 89 183)) ∷ []) (s 85 184)) ∷ (t_foreach (s 185 198) 4
    ((rg 4 (cn I32 0 (s 205 206)) (cn I32 4 (s 211 212)) (s 200 212)) ∷ (rg 5 (cn I32 0 (s 219 220)) (cn I32 2 (s 225 226)) (s 214 226)) ∷ [])
    (t_block (t_braces (t_stmts ((t_declare ((t_with_value 6 (v I32)
    (t_convert I32 (t_cast (t_place (t_element (ar 2 (u Truth) false)
    (t_binary op.And (t_cast (t_binary op.Xor (t_program_index (s 254 266)) (t_cast (t_place (t_variable 4 (v I32) (s 270 272))) (v I32) (s 269 273))
    (v I32) (s 254 273)) (v I32) (s 253 274)) (cn I32 3 (s 277 278)) (v I32) (s 253 278)) (v Truth) (s 251 279))) (v Truth) (s 250 280))) (s 245 280))
    ∷ []) (s 230 281)) ∷ (t_simple (t_value (t_place (t_element (ar 0 (u I32) false) (t_program_index (s 284 296)) (v I32) (s 282 297)))) (s 282 298))
    ∷ [])) (s 228 300))) (s 185 300)) ∷ (t_declare ((t_with_value 7 (v I64)
    (t_convert I64 (t_binary op.Mul (t_place (t_variable 3 (v I32) (s 319 320))) (t_place (t_variable 3 (v I32) (s 323 324))) (v I32) (s 319 324)))
    (s 314 324)) ∷ (t_plain 8 (v I64) (s 326 328)) ∷ []) (s 301 329)) ∷ (t_block (t_braces (t_stmts ([])) (s 330 331))) ∷
    (t_simple (t_update op.Or I32 (t_variable 3 (v I32) (s 332 333)) (t_program_index (s 337 349)) (s 332 349)) (s 332 350)) ∷
    (t_simple (t_update op.Add I32 (t_element (ar 0 (u I32) false) (t_program_index (s 353 365)) (v I32) (s 351 366))
    (t_place (t_variable 3 (v I32) (s 370 371))) (s 351 371)) (s 351 372)) ∷ [])) (s 83 374))) ∷ [])

abbrev arguments_4 : List Argument
arguments_4 = ((AnArray (rw I32 (3450290886 ∷ 4294967294 ∷ 2147483649 ∷ 2147483646 ∷ 4 ∷ 5 ∷ 4294967293 ∷ 2147483649 ∷ []))) ∷ (AnArray (rw U8 (22 ∷ 0 ∷ 0 ∷ 8 ∷ 2 ∷ 48 ∷ 5 ∷ 254 ∷ 2 ∷ []))) ∷ (AnArray (rw Truth (1 ∷ 0 ∷ 1 ∷ 0 ∷ 0 ∷ 0 ∷ []))) ∷ [])

run_4_of_0 : run_of program_4 0 0 arguments_4 ≡ Ends
    ((rw I32 (3450290886 ∷ 4294967295 ∷ 2147483651 ∷ 2147483649 ∷ 8 ∷ 10 ∷ 3 ∷ 2147483656 ∷ [])) ∷
    (rw U8 (22 ∷ 0 ∷ 0 ∷ 8 ∷ 2 ∷ 48 ∷ 5 ∷ 254 ∷ 2 ∷ [])) ∷ (rw Truth (1 ∷ 0 ∷ 1 ∷ 0 ∷ 0 ∷ 0 ∷ [])) ∷ []) None ([])
unfolding digits number_to wrap_to amount not_zero
run_4_of_0 = refl

work_4_of_0 : work_of program_4 0 0 arguments_4 ≡ 112
unfolding digits number_to wrap_to amount not_zero
work_4_of_0 = refl

-- export void f(uniform signed a[], uniform unsigned int8 o[], uniform signed int n) { int x = max(n, 7); unsigned int16 v1 = (min(x == programIndex, (o[(programIndex ^ (x)) & 3]))); v1 = programIndex <= x == v1 != n; a[programIndex] += x; }
abbrev program_5 : Program
program_5 = pr W4 ((fn None None ((vr (Given I32) false) ∷ (vr (Given U8) false) ∷ (vr (AVariable (u I32)) false) ∷ (vr (AVariable (v I32)) false) ∷
    (vr (AVariable (v U16)) false) ∷ []) (t_braces (t_stmts
    ((t_declare ((t_with_value 3 (v I32) (t_library lib.Max I32 (t_exprs ((t_place (t_variable 2 (u I32) (s 97 98))) ∷ (cn I32 7 (s 100 101)) ∷ []))
    (u I32) (s 93 102)) (s 89 102)) ∷ []) (s 85 103)) ∷
    (t_declare ((t_with_value 4 (v U16) (t_convert U16
    (t_cast (t_library lib.Min I32 (t_exprs ((t_convert I32
    (t_compare cmp.Equal (t_place (t_variable 3 (v I32) (s 129 130))) (t_program_index (s 134 146)) Varying (s 129 146))) ∷
    (t_convert I32 (t_cast (t_place (t_element (ar 1 (u U8) false)
    (t_binary op.And (t_cast (t_binary op.Xor (t_program_index (s 152 164)) (t_cast (t_place (t_variable 3 (v I32) (s 168 169))) (v I32) (s 167 170))
    (v I32) (s 152 170)) (v I32) (s 151 171)) (cn I32 3 (s 174 175)) (v I32) (s 151 175)) (v U8) (s 149 176))) (v U8) (s 148 177))) ∷ [])) (v I32)
    (s 125 178)) (v I32) (s 124 179))) (s 119 179)) ∷ []) (s 104 180)) ∷
    (t_simple (t_assign (t_variable 4 (v U16) (s 181 183))
    (t_convert U16 (t_compare cmp.NotEqual (t_convert I32
    (t_compare cmp.Equal (t_convert I32 (t_compare cmp.LessOrEqual (t_program_index (s 186 198)) (t_place (t_variable 3 (v I32) (s 202 203))) Varying
    (s 186 203))) (t_convert I32 (t_place (t_variable 4 (v U16) (s 207 209)))) Varying (s 186 209))) (t_place (t_variable 2 (u I32) (s 213 214)))
    Varying (s 186 214))) (s 181 214)) (s 181 215)) ∷
    (t_simple (t_update op.Add I32 (t_element (ar 0 (u I32) false) (t_program_index (s 218 230)) (v I32) (s 216 231))
    (t_place (t_variable 3 (v I32) (s 235 236))) (s 216 236)) (s 216 237)) ∷ [])) (s 83 239))) ∷ [])

abbrev arguments_5 : List Argument
arguments_5 = ((AnArray (rw I32 (2147483647 ∷ 2147483646 ∷ 2 ∷ 4294967294 ∷ 4294967294 ∷ 4294967291 ∷ 4294967289 ∷ []))) ∷ (AnArray (rw U8 (63 ∷ 5 ∷ 212 ∷ 203 ∷ 254 ∷ 7 ∷ []))) ∷ (AValue (record { elem = I32; bits = 1 })) ∷ [])

run_5_of_0 : run_of program_5 0 0 arguments_5 ≡ Ends ((rw I32 (2147483654 ∷ 2147483653 ∷ 9 ∷ 5 ∷ 4294967294 ∷ 4294967291 ∷ 4294967289 ∷ [])) ∷ (rw U8 (63 ∷ 5 ∷ 212 ∷ 203 ∷ 254 ∷ 7 ∷ [])) ∷ []) None ([])
unfolding digits number_to wrap_to amount not_zero
run_5_of_0 = refl

work_5_of_0 : work_of program_5 0 0 arguments_5 ≡ 35
unfolding digits number_to wrap_to amount not_zero
work_5_of_0 = refl

-- export void f(uniform signed int a[], uniform int o[], uniform signed z[]) { int x = z[programIndex]; if (4 & o[((x)) & 3] | x) { o[(programIndex ^
-- (x)) & 3] = x; ; bool v1 = x, v2 = (int) x < x == 4294967295; } foreach_active (i3) { programIndex; } a[programIndex] += x; }
abbrev program_7 : Program
program_7 = pr W4 ((fn None None ((vr (Given I32) false) ∷ (vr (Given I32) false) ∷ (vr (Given I32) false) ∷ (vr (AVariable (v I32)) false) ∷
    (vr (AVariable (v Truth)) false) ∷ (vr (AVariable (v Truth)) false) ∷ (vr (AVariable (u I64)) true) ∷ [])
    (t_braces (t_stmts ((t_declare ((t_with_value 3 (v I32) (t_place (t_element (ar 2 (u I32) false) (t_program_index (s 87 99)) (v I32) (s 85 100)))
    (s 81 100)) ∷ []) (s 77 101)) ∷ (t_if Plain 4 (t_convert Truth
    (t_binary op.Or (t_binary op.And (cn I32 4 (s 106 107))
    (t_place (t_element (ar 1 (u I32) false) (t_binary op.And
    (t_cast (t_cast (t_place (t_variable 3 (v I32) (s 114 115))) (v I32) (s 113 116)) (v I32) (s 112 117)) (cn I32 3 (s 120 121)) (v I32) (s 112 121))
    (v I32) (s 110 122))) (v I32) (s 106 122)) (t_place (t_variable 3 (v I32) (s 125 126))) (v I32) (s 106 126)))
    (t_block (t_braces (t_stmts ((t_simple (t_assign
    (t_element (ar 1 (u I32) false) (t_binary op.And
    (t_cast (t_binary op.Xor (t_program_index (s 133 145)) (t_cast (t_place (t_variable 3 (v I32) (s 149 150))) (v I32) (s 148 151)) (v I32)
    (s 133 151)) (v I32) (s 132 152)) (cn I32 3 (s 155 156)) (v I32) (s 132 156)) (v I32) (s 130 157)) (t_place (t_variable 3 (v I32) (s 160 161)))
    (s 130 161)) (s 130 162)) ∷ (t_block (t_braces (t_stmts ([])) (s 163 164))) ∷
    (t_declare ((t_with_value 4 (v Truth) (t_convert Truth (t_place (t_variable 3 (v I32) (s 175 176)))) (s 170 176)) ∷
    (t_with_value 5 (v Truth) (t_compare cmp.Equal (t_convert I64
    (t_compare cmp.Less (t_cast (t_place (t_variable 3 (v I32) (s 189 190))) (v I32) (s 183 190)) (t_place (t_variable 3 (v I32) (s 193 194))) Varying
    (s 183 194))) (cn I64 4294967295 (s 198 208)) Varying (s 183 208)) (s 178 208)) ∷ []) (s 165 209)) ∷ [])) (s 128 211))) (s 102 211)) ∷
    (t_foreach_active (s 212 226) 6 6 (t_block (t_braces (t_stmts ((t_simple (t_value (t_program_index (s 234 246))) (s 234 247)) ∷ [])) (s 232 249)))
    (s 212 249)) ∷ (t_simple (t_update op.Add I32 (t_element (ar 0 (u I32) false) (t_program_index (s 252 264)) (v I32) (s 250 265))
    (t_place (t_variable 3 (v I32) (s 269 270))) (s 250 270)) (s 250 271)) ∷ [])) (s 75 273))) ∷ [])

abbrev arguments_7 : List Argument
arguments_7 = ((AnArray (rw I32 (3 ∷ 8 ∷ 4294967293 ∷ 2147483646 ∷ 604454175 ∷ 4294967287 ∷ 1 ∷ []))) ∷
    (AnArray (rw I32 (4294967289 ∷ 4294967294 ∷ 8 ∷ 2 ∷ 8 ∷ []))) ∷
    (AnArray (rw I32 (6 ∷ 4294967293 ∷ 2524943672 ∷ 4294967289 ∷ 2147483648 ∷ 4294967292 ∷ []))) ∷ [])

run_7_of_0 : run_of program_7 0 0 arguments_7 ≡ Ends
    ((rw I32 (9 ∷ 5 ∷ 2524943669 ∷ 2147483639 ∷ 604454175 ∷ 4294967287 ∷ 1 ∷ [])) ∷ (rw I32 (4294967293 ∷ 4294967294 ∷ 4294967289 ∷ 2 ∷ 8 ∷ [])) ∷
    (rw I32 (6 ∷ 4294967293 ∷ 2524943672 ∷ 4294967289 ∷ 2147483648 ∷ 4294967292 ∷ [])) ∷ []) None ([])
unfolding digits number_to wrap_to amount not_zero
run_7_of_0 = refl

work_7_of_0 : work_of program_7 0 0 arguments_7 ≡ 59
unfolding digits number_to wrap_to amount not_zero
work_7_of_0 = refl

-- export void f(uniform int a[], uniform uint8 o[], uniform signed n) { int x = ~ n | 0 * o[programIndex]; ; o[9] += (abs(0xe8u)) % (n | 1); --n; a[programIndex] += x; }
abbrev program_13 : Program
program_13 = pr W8 ((fn None None ((vr (Given I32) false) ∷ (vr (Given U8) false) ∷ (vr (AVariable (u I32)) false) ∷ (vr (AVariable (v I32)) false) ∷
    []) (t_braces (t_stmts ((t_declare ((t_with_value 3 (v I32)
    (t_binary op.Or (t_unary un.Invert (t_place (t_variable 2 (u I32) (s 80 81))) (u I32) (s 78 81))
    (t_binary op.Mul (cn I32 0 (s 84 85)) (t_convert I32 (t_place (t_element (ar 1 (u U8) false) (t_program_index (s 90 102)) (v U8) (s 88 103))))
    (v I32) (s 84 103)) (v I32) (s 78 103)) (s 74 103)) ∷ []) (s 70 104)) ∷ (t_block (t_braces (t_stmts ([])) (s 105 106))) ∷
    (t_simple (t_update op.Add U32 (t_element (ar 1 (u U8) false) (cn I32 9 (s 109 110)) (u U8) (s 107 111))
    (t_binary op.Rem (t_cast (t_library lib.Abs U32 (t_exprs ((cn U32 232 (s 120 125)) ∷ [])) (u U32) (s 116 126)) (u U32) (s 115 127))
    (t_convert U32 (t_cast (t_binary op.Or (t_place (t_variable 2 (u I32) (s 131 132))) (cn I32 1 (s 135 136)) (u I32) (s 131 136)) (u I32)
    (s 130 137))) (u U32) (s 115 137)) (s 107 137)) (s 107 138)) ∷
    (t_simple (t_step op.Sub I32 (t_variable 2 (u I32) (s 141 142)) (s 139 142)) (s 139 143)) ∷
    (t_simple (t_update op.Add I32 (t_element (ar 0 (u I32) false) (t_program_index (s 146 158)) (v I32) (s 144 159))
    (t_place (t_variable 3 (v I32) (s 163 164))) (s 144 164)) (s 144 165)) ∷ [])) (s 68 167))) ∷ [])

abbrev arguments_13 : List Argument
arguments_13 = ((AnArray (rw I32 (5 ∷ 0 ∷ 2147483646 ∷ 4294967294 ∷ 4294967290 ∷ 4294967288 ∷ 2530843495 ∷ 4294967294 ∷ []))) ∷
    (AnArray (rw U8 (254 ∷ 5 ∷ 0 ∷ 9 ∷ 7 ∷ 156 ∷ 2 ∷ 8 ∷ 254 ∷ 8 ∷ 9 ∷ 1 ∷ []))) ∷ (AValue (record { elem = I32; bits = 0 })) ∷ [])

run_13_of_0 : run_of program_13 0 0 arguments_13 ≡ Ends ((rw I32 (4 ∷ 4294967295 ∷ 2147483645 ∷ 4294967293 ∷ 4294967289 ∷ 4294967287 ∷ 2530843494 ∷ 4294967293 ∷ [])) ∷ (rw U8 (254 ∷ 5 ∷ 0 ∷ 9 ∷ 7 ∷ 156 ∷ 2 ∷ 8 ∷ 254 ∷ 8 ∷ 9 ∷ 1 ∷ [])) ∷ []) None ([])
unfolding digits number_to wrap_to amount not_zero
run_13_of_0 = refl

work_13_of_0 : work_of program_13 0 0 arguments_13 ≡ 28
unfolding digits number_to wrap_to amount not_zero
work_13_of_0 = refl

-- export void f(uniform int32 a[], uniform int16 o[], uniform int32 z[], uniform int16 n) { int x = max(n, a[(programIndex ^ (z[(programIndex <=
-- 0x4080a16bu) & 3] <= 7)) & 7]) >= ~ n; int32 v1 = a[programIndex]; if (n) { n -= a[(n) & 7]; } n < o[programIndex]; o[programIndex] = x; }
abbrev program_20 : Program
program_20 = pr W8 ((fn None None ((vr (Given I32) false) ∷ (vr (Given I16) false) ∷ (vr (Given I32) false) ∷ (vr (AVariable (u I16)) false) ∷
    (vr (AVariable (v I32)) false) ∷ (vr (AVariable (v I32)) false) ∷ [])
    (t_braces (t_stmts ((t_declare ((t_with_value 4 (v I32)
    (t_convert I32 (t_compare cmp.GreaterOrEqual (t_library lib.Max I32
    (t_exprs ((t_convert I32 (t_place (t_variable 3 (u I16) (s 102 103)))) ∷
    (t_place (t_element (ar 0 (u I32) false) (t_binary op.And
    (t_cast (t_binary op.Xor (t_program_index (s 108 120))
    (t_convert I32 (t_cast (t_compare cmp.LessOrEqual
    (t_place (t_element (ar 2 (u I32) false) (t_binary op.And
    (t_convert I32 (t_cast (t_compare cmp.LessOrEqual (t_convert U32 (t_program_index (s 127 139))) (cn U32 1082171755 (s 143 154)) Varying
    (s 127 154)) (v Truth) (s 126 155))) (cn I32 3 (s 158 159)) (v I32) (s 126 159)) (v I32) (s 124 160))) (cn I32 7 (s 164 165)) Varying (s 124 165))
    (v Truth) (s 123 166))) (v I32) (s 108 166)) (v I32) (s 107 167)) (cn I32 7 (s 170 171)) (v I32) (s 107 171)) (v I32) (s 105 172))) ∷ [])) (v I32)
    (s 98 173)) (t_convert I32 (t_unary un.Invert (t_place (t_variable 3 (u I16) (s 179 180))) (u I16) (s 177 180))) Varying (s 98 180))) (s 94 180))
    ∷ []) (s 90 181)) ∷ (t_declare ((t_with_value 5 (v I32)
    (t_place (t_element (ar 0 (u I32) false) (t_program_index (s 195 207)) (v I32) (s 193 208))) (s 188 208)) ∷ []) (s 182 209)) ∷
    (t_if Plain 6 (t_convert Truth (t_place (t_variable 3 (u I16) (s 214 215))))
    (t_block (t_braces (t_stmts ((t_simple (t_update op.Sub I32 (t_variable 3 (u I16) (s 219 220))
    (t_place (t_element (ar 0 (u I32) false) (t_binary op.And
    (t_convert I32 (t_cast (t_place (t_variable 3 (u I16) (s 227 228))) (u I16) (s 226 229))) (cn I32 7 (s 232 233)) (u I32) (s 226 233)) (u I32)
    (s 224 234))) (s 219 234)) (s 219 235)) ∷ [])) (s 217 237))) (s 210 237)) ∷
    (t_simple (t_value (t_compare cmp.Less (t_place (t_variable 3 (u I16) (s 238 239)))
    (t_place (t_element (ar 1 (u I16) false) (t_program_index (s 244 256)) (v I16) (s 242 257))) Varying (s 238 257))) (s 238 258)) ∷
    (t_simple (t_assign (t_element (ar 1 (u I16) false) (t_program_index (s 261 273)) (v I16) (s 259 274))
    (t_convert I16 (t_place (t_variable 4 (v I32) (s 277 278)))) (s 259 278)) (s 259 279)) ∷ [])) (s 88 281))) ∷ [])

abbrev arguments_20 : List Argument
arguments_20 = ((AnArray (rw I32 (7 ∷ 2147483649 ∷ 2147483646 ∷ 2080089676 ∷ 2147483646 ∷ 4 ∷ 4 ∷ 3 ∷ 2147483649 ∷ []))) ∷
    (AnArray (rw I16 (6 ∷ 45160 ∷ 43257 ∷ 32767 ∷ 27124 ∷ 32769 ∷ 12076 ∷ 8 ∷ 32768 ∷ 65527 ∷ 65530 ∷ 32766 ∷ []))) ∷
    (AnArray (rw I32 (7 ∷ 4294967291 ∷ 5 ∷ 4294967293 ∷ 2147483649 ∷ 9 ∷ []))) ∷ (AValue (record { elem = I16; bits = 5 })) ∷ [])

run_20_of_0 : run_of program_20 0 0 arguments_20
    ≡ Ends ((rw I32 (7 ∷ 2147483649 ∷ 2147483646 ∷ 2080089676 ∷ 2147483646 ∷ 4 ∷ 4 ∷ 3 ∷ 2147483649 ∷ [])) ∷
    (rw I16 (1 ∷ 1 ∷ 1 ∷ 1 ∷ 1 ∷ 1 ∷ 1 ∷ 1 ∷ 32768 ∷ 65527 ∷ 65530 ∷ 32766 ∷ [])) ∷ (rw I32 (7 ∷ 4294967291 ∷ 5 ∷ 4294967293 ∷ 2147483649 ∷ 9 ∷ [])) ∷
    []) None ([])
unfolding digits number_to wrap_to amount not_zero
run_20_of_0 = refl

work_20_of_0 : work_of program_20 0 0 arguments_20 ≡ 47
unfolding digits number_to wrap_to amount not_zero
work_20_of_0 = refl

-- export uniform int64 f(uniform signed int a[], uniform uint64 o[], uniform bool n) { int x = min(32767 & programIndex, programIndex + 4); if (x)
-- return n; unmasked { o[programIndex] = ~ (19ll >> programIndex ? n : (x)); } a[programIndex] += x; return select(! n, n > n, n); }
abbrev program_30 : Program
program_30 = pr W4 ((fn (Some I64) (Some (u I64))
    ((vr (Given I32) false) ∷ (vr (Given U64) false) ∷ (vr (AVariable (u Truth)) false) ∷ (vr (AVariable (v I32)) false) ∷ [])
    (t_braces (t_stmts ((t_declare ((t_with_value 3 (v I32)
    (t_library lib.Min I32 (t_exprs ((t_binary op.And (cn I32 32767 (s 97 102)) (t_program_index (s 105 117)) (v I32) (s 97 117)) ∷
    (t_binary op.Add (t_program_index (s 119 131)) (cn I32 4 (s 134 135)) (v I32) (s 119 135)) ∷ [])) (v I32) (s 93 136)) (s 89 136)) ∷ [])
    (s 85 137)) ∷ (t_if Plain 4 (t_convert Truth (t_place (t_variable 3 (v I32) (s 142 143))))
    (t_return (s 145 151) (Some (t_convert I64 (t_place (t_variable 2 (u Truth) (s 152 153))))) (s 145 154)) (s 138 154)) ∷
    (t_unmasked (s 155 163) (t_braces (t_stmts ((t_simple
    (t_assign (t_element (ar 1 (u U64) false) (t_program_index (s 168 180)) (v U64) (s 166 181))
    (t_convert U64 (t_unary un.Invert (t_cast (t_choose
    (t_convert Truth (t_binary op.Shr (cn I64 19 (s 187 191)) (t_convert I64 (t_program_index (s 195 207))) (v I64) (s 187 207)))
    (t_convert I32 (t_place (t_variable 2 (u Truth) (s 210 211)))) (t_cast (t_place (t_variable 3 (v I32) (s 215 216))) (v I32) (s 214 217)) (v I32)
    (s 187 217)) (v I32) (s 186 218)) (v I32) (s 184 218))) (s 166 218)) (s 166 219)) ∷ [])) (s 164 221)) (s 155 221)) ∷
    (t_simple (t_update op.Add I32 (t_element (ar 0 (u I32) false) (t_program_index (s 224 236)) (v I32) (s 222 237))
    (t_place (t_variable 3 (v I32) (s 241 242))) (s 222 242)) (s 222 243)) ∷
    (t_return (s 244 250) (Some (t_convert I64 (t_library lib.Select Truth
    (t_exprs ((t_unary un.Not (t_place (t_variable 2 (u Truth) (s 260 261))) (u Truth) (s 258 261)) ∷
    (t_compare cmp.Greater (t_convert I32 (t_place (t_variable 2 (u Truth) (s 263 264))))
    (t_convert I32 (t_place (t_variable 2 (u Truth) (s 267 268)))) Uniform (s 263 268)) ∷ (t_place (t_variable 2 (u Truth) (s 270 271))) ∷ []))
    (u Truth) (s 251 272)))) (s 244 273)) ∷ [])) (s 83 275))) ∷ [])

abbrev arguments_30 : List Argument
arguments_30 = ((AnArray (rw I32 (7 ∷ 994128830 ∷ 4294967290 ∷ 9 ∷ 2147483649 ∷ 1184619797 ∷ 784590162 ∷ 2147483646 ∷ []))) ∷ (AnArray (rw U64 (1 ∷ 4 ∷ 8 ∷ 0 ∷ 5 ∷ []))) ∷ (AValue (record { elem = Truth; bits = 0 })) ∷ [])

run_30_of_0 : run_of program_30 0 0 arguments_30
    ≡ Ends ((rw I32 (7 ∷ 994128830 ∷ 4294967290 ∷ 9 ∷ 2147483649 ∷ 1184619797 ∷ 784590162 ∷ 2147483646 ∷ [])) ∷
    (rw U64 (18446744073709551615 ∷ 18446744073709551615 ∷ 18446744073709551615 ∷ 18446744073709551615 ∷ 5 ∷ [])) ∷ [])
    (Some (record { elem = I64; bits = 0 })) ([])
unfolding digits number_to wrap_to amount not_zero
run_30_of_0 = refl

work_30_of_0 : work_of program_30 0 0 arguments_30 ≡ 38
unfolding digits number_to wrap_to amount not_zero
work_30_of_0 = refl

-- export uniform int16 f(uniform signed a[], uniform uint64 o[]) { int x = (a[programIndex] ? a[programIndex] << programIndex : (o[programIndex] ?
-- programIndex : o[(programIndex ^ (o[programIndex])) & 7])); if ((varying int32) x < programCount) { foreach_active (i1) { int t2[5]; x--; } x--; }
-- else { uniform signed t3[1]; } x--; o[programIndex] = x; return (0); }
abbrev program_43 : Program
program_43 = pr W8 ((fn (Some I16) (Some (u I16))
    ((vr (Given I32) false) ∷ (vr (Given U64) false) ∷ (vr (AVariable (v I32)) false) ∷ (vr (AVariable (u I64)) true) ∷ (vr (Local (v I32) 5) false) ∷
    (vr (Local (u I32) 1) false) ∷ []) (t_braces (t_stmts
    ((t_declare ((t_with_value 2 (v I32) (t_convert I32
    (t_cast (t_choose (t_convert Truth (t_place (t_element (ar 0 (u I32) false) (t_program_index (s 76 88)) (v I32) (s 74 89))))
    (t_convert U64 (t_binary op.Shl (t_place (t_element (ar 0 (u I32) false) (t_program_index (s 94 106)) (v I32) (s 92 107)))
    (t_program_index (s 111 123)) (v I32) (s 92 123)))
    (t_cast (t_choose (t_convert Truth (t_place (t_element (ar 1 (u U64) false) (t_program_index (s 129 141)) (v U64) (s 127 142))))
    (t_convert U64 (t_program_index (s 145 157))) (t_place
    (t_element (ar 1 (u U64) false) (t_binary op.And
    (t_cast (t_binary op.Xor (t_convert U64 (t_program_index (s 163 175)))
    (t_cast (t_place (t_element (ar 1 (u U64) false) (t_program_index (s 181 193)) (v U64) (s 179 194))) (v U64) (s 178 195)) (v U64) (s 163 195))
    (v U64) (s 162 196)) (t_convert U64 (cn I32 7 (s 199 200))) (v U64) (s 162 200)) (v U64) (s 160 201))) (v U64) (s 127 201)) (v U64) (s 126 202))
    (v U64) (s 74 202)) (v U64) (s 73 203))) (s 69 203)) ∷ []) (s 65 204)) ∷
    (t_if_else Plain 3 (t_compare cmp.Less (t_cast (t_place (t_variable 2 (v I32) (s 225 226))) (v I32) (s 209 226)) (cn I32 8 (s 229 241)) Varying
    (s 209 241)) (t_block (t_braces (t_stmts ((t_foreach_active (s 245 259) 3 3
    (t_block (t_braces (t_stmts ((t_declare ((t_with_size (ar 4 (v I32) false) (s 271 276)) ∷ []) (s 267 277)) ∷
    (t_simple (t_step op.Sub I32 (t_variable 2 (v I32) (s 278 279)) (s 278 281)) (s 278 282)) ∷ [])) (s 265 284))) (s 245 284)) ∷
    (t_simple (t_step op.Sub I32 (t_variable 2 (v I32) (s 285 286)) (s 285 288)) (s 285 289)) ∷ [])) (s 243 291)))
    (t_block (t_braces (t_stmts ((t_declare ((t_with_size (ar 5 (u I32) false) (s 314 319)) ∷ []) (s 299 320)) ∷ [])) (s 297 322))) (s 205 322)) ∷
    (t_simple (t_step op.Sub I32 (t_variable 2 (v I32) (s 323 324)) (s 323 326)) (s 323 327)) ∷
    (t_simple (t_assign (t_element (ar 1 (u U64) false) (t_program_index (s 330 342)) (v U64) (s 328 343))
    (t_convert U64 (t_place (t_variable 2 (v I32) (s 346 347)))) (s 328 347)) (s 328 348)) ∷
    (t_return (s 349 355) (Some (t_convert I16 (t_cast (cn I32 0 (s 357 358)) (u I32) (s 356 359)))) (s 349 360)) ∷ [])) (s 63 362))) ∷ [])

abbrev arguments_43 : List Argument
arguments_43 = ((AnArray (rw I32 (4294967291 ∷ 4294967288 ∷ 2926014579 ∷ 4294967291 ∷ 2147483646 ∷ 1158478292 ∷ 5 ∷ 1631920381 ∷ []))) ∷ (AnArray (rw U64 (3 ∷ 4049515903790066673 ∷ 1 ∷ 4 ∷ 4 ∷ 14222324544261855117 ∷ 9 ∷ 9 ∷ 3 ∷ []))) ∷ [])

run_43_of_0 : run_of program_43 0 0 arguments_43
    ≡ Ends ((rw I32 (4294967291 ∷ 4294967288 ∷ 2926014579 ∷ 4294967291 ∷ 2147483646 ∷ 1158478292 ∷ 5 ∷ 1631920381 ∷ [])) ∷
    (rw U64 (18446744073709551608 ∷ 18446744073709551597 ∷ 18446744072528708041 ∷ 18446744073709551573 ∷ 18446744073709551581 ∷ 18446744072126151293 ∷
    319 ∷ 18446744072141962877 ∷ 3 ∷ [])) ∷ []) (Some (record { elem = I16; bits = 0 })) ([])
unfolding digits number_to wrap_to amount not_zero
run_43_of_0 = refl

work_43_of_0 : work_of program_43 0 0 arguments_43 ≡ 74
unfolding digits number_to wrap_to amount not_zero
work_43_of_0 = refl

-- export void f(uniform signed int a[], uniform int16 o[], uniform signed int n) { int x = n * a[programIndex] * 0xae - a[(programIndex > n) & 7]; if
-- (n) { ; } else { if (9 >> 6) return; } { uniform signed v1 = 1 || (uniform signed int) 2 || (signed) abs(n); } unmasked { unmasked { x++; }
-- max(o[programIndex], 2); } ; if (programIndex) return; o[programIndex] = x; }
abbrev program_44 : Program
program_44 = pr W8 ((fn None None ((vr (Given I32) false) ∷ (vr (Given I16) false) ∷ (vr (AVariable (u I32)) false) ∷ (vr (AVariable (v I32)) false) ∷
    (vr (AVariable (u I32)) false) ∷ []) (t_braces (t_stmts
    ((t_declare ((t_with_value 3 (v I32) (t_binary op.Sub
    (t_binary op.Mul (t_binary op.Mul (t_place (t_variable 2 (u I32) (s 89 90)))
    (t_place (t_element (ar 0 (u I32) false) (t_program_index (s 95 107)) (v I32) (s 93 108))) (v I32) (s 89 108)) (cn I32 174 (s 111 115)) (v I32)
    (s 89 115)) (t_place (t_element (ar 0 (u I32) false)
    (t_binary op.And (t_convert I32 (t_cast (t_compare cmp.Greater (t_program_index (s 121 133)) (t_place (t_variable 2 (u I32) (s 136 137))) Varying
    (s 121 137)) (v Truth) (s 120 138))) (cn I32 7 (s 141 142)) (v I32) (s 120 142)) (v I32) (s 118 143))) (v I32) (s 89 143)) (s 85 143)) ∷ [])
    (s 81 144)) ∷ (t_if_else Plain 4 (t_convert Truth (t_place (t_variable 2 (u I32) (s 149 150))))
    (t_block (t_braces (t_stmts ((t_block (t_braces (t_stmts ([])) (s 154 155))) ∷ [])) (s 152 157)))
    (t_block (t_braces (t_stmts ((t_if Plain 4 (t_convert Truth (t_binary op.Shr (cn I32 9 (s 169 170)) (cn I32 6 (s 174 175)) (u I32) (s 169 175)))
    (t_return (s 177 183) None (s 177 184)) (s 165 184)) ∷ [])) (s 163 186))) (s 145 186)) ∷
    (t_block (t_braces (t_stmts ((t_declare ((t_with_value 4 (u I32)
    (t_convert I32 (t_logic logic.Or (t_logic logic.Or (t_convert Truth (cn I32 1 (s 209 210)))
    (t_convert Truth (t_cast (cn I32 2 (s 235 236)) (u I32) (s 214 236))) Uniform (s 209 236))
    (t_convert Truth (t_cast (t_library lib.Abs I32 (t_exprs ((t_place (t_variable 2 (u I32) (s 253 254))) ∷ [])) (u I32) (s 249 255)) (u I32)
    (s 240 255))) Uniform (s 209 255))) (s 204 255)) ∷ []) (s 189 256)) ∷ [])) (s 187 258))) ∷
    (t_unmasked (s 259 267) (t_braces (t_stmts ((t_unmasked (s 270 278)
    (t_braces (t_stmts ((t_simple (t_step op.Add I32 (t_variable 3 (v I32) (s 281 282)) (s 281 284)) (s 281 285)) ∷ [])) (s 279 287)) (s 270 287)) ∷
    (t_simple (t_value (t_library lib.Max I32 (t_exprs
    ((t_convert I32 (t_place (t_element (ar 1 (u I16) false) (t_program_index (s 294 306)) (v I16) (s 292 307)))) ∷ (cn I32 2 (s 309 310)) ∷ []))
    (v I32) (s 288 311))) (s 288 312)) ∷ [])) (s 268 314)) (s 259 314)) ∷ (t_block (t_braces (t_stmts ([])) (s 315 316))) ∷
    (t_if Plain 5 (t_convert Truth (t_program_index (s 321 333))) (t_return (s 335 341) None (s 335 342)) (s 317 342)) ∷
    (t_simple (t_assign (t_element (ar 1 (u I16) false) (t_program_index (s 345 357)) (v I16) (s 343 358))
    (t_convert I16 (t_place (t_variable 3 (v I32) (s 361 362)))) (s 343 362)) (s 343 363)) ∷ [])) (s 79 365))) ∷ [])

abbrev arguments_44 : List Argument
arguments_44 = ((AnArray (rw I32 (4294967290 ∷ 4294967291 ∷ 2387906338 ∷ 4294967293 ∷ 4294967289 ∷ 4 ∷ 2 ∷ 9 ∷ 5 ∷ 4294967295 ∷ 0 ∷ 4294967288 ∷ [])))
    ∷ (AnArray (rw I16 (32766 ∷ 8 ∷ 3844 ∷ 32768 ∷ 2 ∷ 9 ∷ 65535 ∷ 65530 ∷ 65535 ∷ 32768 ∷ 2 ∷ []))) ∷
    (AValue (record { elem = I32; bits = 4294967294 })) ∷ [])

run_44_of_0 : run_of program_44 0 0 arguments_44
    ≡ Ends ((rw I32 (4294967290 ∷ 4294967291 ∷ 2387906338 ∷ 4294967293 ∷ 4294967289 ∷ 4 ∷ 2 ∷ 9 ∷ 5 ∷ 4294967295 ∷ 0 ∷ 4294967288 ∷ [])) ∷
    (rw I16 (2094 ∷ 8 ∷ 3844 ∷ 32768 ∷ 2 ∷ 9 ∷ 65535 ∷ 65530 ∷ 65535 ∷ 32768 ∷ 2 ∷ [])) ∷ []) None ([])
unfolding digits number_to wrap_to amount not_zero
run_44_of_0 = refl

work_44_of_0 : work_of program_44 0 0 arguments_44 ≡ 46
unfolding digits number_to wrap_to amount not_zero
work_44_of_0 = refl

-- export uniform int f(uniform signed int a[], uniform unsigned int8 o[], uniform bool z[], uniform signed int n) { int x = n >= programIndex <= n;
-- int32 v1 = ((signed int) ~ 128); if (programIndex >> programIndex) return (n > 6) / (((65535 & n | 1)) | 1); a[programIndex] &= (int16)
-- o[programIndex]; o[programIndex] = x; return 4294967296 > 2 * programCount; }
abbrev program_45 : Program
program_45 = pr W4 ((fn (Some I32) (Some (u I32))
    ((vr (Given I32) false) ∷ (vr (Given U8) false) ∷ (vr (Given Truth) false) ∷ (vr (AVariable (u I32)) false) ∷ (vr (AVariable (v I32)) false) ∷
    (vr (AVariable (v I32)) false) ∷ []) (t_braces (t_stmts
    ((t_declare ((t_with_value 4 (v I32) (t_convert I32
    (t_compare cmp.LessOrEqual (t_convert I32 (t_compare cmp.GreaterOrEqual (t_place (t_variable 3 (u I32) (s 122 123))) (t_program_index (s 127 139))
    Varying (s 122 139))) (t_place (t_variable 3 (u I32) (s 143 144))) Varying (s 122 144))) (s 118 144)) ∷ []) (s 114 145)) ∷
    (t_declare ((t_with_value 5 (v I32) (t_cast (t_cast (t_unary un.Invert (cn I32 128 (s 173 176)) (u I32) (s 171 176)) (u I32) (s 158 176)) (u I32)
    (s 157 177)) (s 152 177)) ∷ []) (s 146 178)) ∷ (t_if Plain 6
    (t_convert Truth (t_binary op.Shr (t_program_index (s 183 195)) (t_program_index (s 199 211)) (v I32) (s 183 211)))
    (t_return (s 213 219) (Some (t_binary op.Div (t_convert I32
    (t_cast (t_compare cmp.Greater (t_place (t_variable 3 (u I32) (s 221 222))) (cn I32 6 (s 225 226)) Uniform (s 221 226)) (u Truth) (s 220 227)))
    (t_cast (t_binary op.Or (t_cast (t_cast (t_binary op.Or
    (t_binary op.And (cn I32 65535 (s 233 238)) (t_place (t_variable 3 (u I32) (s 241 242))) (u I32) (s 233 242)) (cn I32 1 (s 245 246)) (u I32)
    (s 233 246)) (u I32) (s 232 247)) (u I32) (s 231 248)) (cn I32 1 (s 251 252)) (u I32) (s 231 252)) (u I32) (s 230 253)) (u I32) (s 220 253)))
    (s 213 254)) (s 179 254)) ∷ (t_simple (t_update op.And I32 (t_element (ar 0 (u I32) false) (t_program_index (s 257 269)) (v I32) (s 255 270))
    (t_convert I32 (t_cast (t_convert I16 (t_place (t_element (ar 1 (u U8) false) (t_program_index (s 284 296)) (v U8) (s 282 297)))) (v I16)
    (s 274 297))) (s 255 297)) (s 255 298)) ∷ (t_simple
    (t_assign (t_element (ar 1 (u U8) false) (t_program_index (s 301 313)) (v U8) (s 299 314))
    (t_convert U8 (t_place (t_variable 4 (v I32) (s 317 318)))) (s 299 318)) (s 299 319)) ∷
    (t_return (s 320 326) (Some (t_convert I32 (t_compare cmp.Greater (cn I64 4294967296 (s 327 337))
    (t_convert I64 (t_binary op.Mul (cn I32 2 (s 340 341)) (cn I32 4 (s 344 356)) (u I32) (s 340 356))) Uniform (s 327 356)))) (s 320 357)) ∷ []))
    (s 112 359))) ∷ [])

abbrev arguments_45 : List Argument
arguments_45 = ((AnArray (rw I32 (831603230 ∷ 949696553 ∷ 154510464 ∷ 5 ∷ 5 ∷ 2147483648 ∷ []))) ∷ (AnArray (rw U8 (7 ∷ 8 ∷ 7 ∷ 6 ∷ 0 ∷ 6 ∷ []))) ∷ (AnArray (rw Truth (0 ∷ 1 ∷ 0 ∷ []))) ∷ (AValue (record { elem = I32; bits = 4294967294 })) ∷ [])

run_45_of_0 : run_of program_45 0 0 arguments_45 ≡ Ends ((rw I32 (6 ∷ 8 ∷ 0 ∷ 4 ∷ 5 ∷ 2147483648 ∷ [])) ∷ (rw U8 (0 ∷ 0 ∷ 0 ∷ 0 ∷ 0 ∷ 6 ∷ [])) ∷ (rw Truth (0 ∷ 1 ∷ 0 ∷ [])) ∷ []) (Some (record { elem = I32; bits = 1 })) ([])
unfolding digits number_to wrap_to amount not_zero
run_45_of_0 = refl

work_45_of_0 : work_of program_45 0 0 arguments_45 ≡ 34
unfolding digits number_to wrap_to amount not_zero
work_45_of_0 = refl

-- export void f(uniform signed a[], uniform int8 o[], uniform bool n) { int x = programIndex >> (signed int64) programIndex; foreach (i1 = 2 ... 0,
-- i2 = 0 ... programCount) { x <<= o[programIndex] >> ! 0 != programCount; x -= ~ ~ i2 >= ~ i2; ; } uniform signed t3[2]; unmasked { a[3] >>= ((7) %
-- (4294967296 | 1)) && n; } int v4 = (- n * programIndex); o[programIndex] = x; }
abbrev program_61 : Program
program_61 = pr W4 ((fn None None ((vr (Given I32) false) ∷ (vr (Given I8) false) ∷ (vr (AVariable (u Truth)) false) ∷ (vr (AVariable (v I32)) false)
    ∷ (vr (AVariable (v I32)) true) ∷ (vr (AVariable (v I32)) true) ∷ (vr (Local (u I32) 2) false) ∷ (vr (AVariable (v I32)) false) ∷ [])
    (t_braces (t_stmts ((t_declare ((t_with_value 3 (v I32)
    (t_convert I32 (t_binary op.Shr (t_convert I64 (t_program_index (s 78 90)))
    (t_cast (t_convert I64 (t_program_index (s 109 121))) (v I64) (s 94 121)) (v I64) (s 78 121))) (s 74 121)) ∷ []) (s 70 122)) ∷
    (t_foreach (s 123 130) 4 ((rg 4 (cn I32 2 (s 137 138)) (cn I32 0 (s 143 144)) (s 132 144)) ∷
    (rg 5 (cn I32 0 (s 151 152)) (cn I32 4 (s 157 169)) (s 146 169)) ∷ [])
    (t_block (t_braces (t_stmts ((t_simple (t_update op.Shl I32 (t_variable 3 (v I32) (s 173 174))
    (t_convert I32 (t_compare cmp.NotEqual (t_binary op.Shr
    (t_convert I32 (t_place (t_element (ar 1 (u I8) false) (t_program_index (s 181 193)) (v I8) (s 179 194))))
    (t_convert I32 (t_unary un.Not (t_convert Truth (cn I32 0 (s 200 201))) (u Truth) (s 198 201))) (v I32) (s 179 201)) (cn I32 4 (s 205 217))
    Varying (s 179 217))) (s 173 217)) (s 173 218)) ∷
    (t_simple (t_update op.Sub I32 (t_variable 3 (v I32) (s 219 220))
    (t_convert I32 (t_compare cmp.GreaterOrEqual (t_unary un.Invert
    (t_unary un.Invert (t_place (t_variable 5 (v I32) (s 228 230))) (v I32) (s 226 230)) (v I32) (s 224 230))
    (t_unary un.Invert (t_place (t_variable 5 (v I32) (s 236 238))) (v I32) (s 234 238)) Varying (s 224 238))) (s 219 238)) (s 219 239)) ∷
    (t_block (t_braces (t_stmts ([])) (s 240 241))) ∷ [])) (s 171 243))) (s 123 243)) ∷
    (t_declare ((t_with_size (ar 6 (u I32) false) (s 259 264)) ∷ []) (s 244 265)) ∷
    (t_unmasked (s 266 274) (t_braces (t_stmts ((t_simple
    (t_update op.Shr I32 (t_element (ar 0 (u I32) false) (cn I32 3 (s 279 280)) (u I32) (s 277 281))
    (t_convert I32 (t_logic logic.And (t_convert Truth
    (t_cast (t_binary op.Rem (t_convert I64 (t_cast (cn I32 7 (s 288 289)) (u I32) (s 287 290)))
    (t_cast (t_binary op.Or (cn I64 4294967296 (s 294 304)) (t_convert I64 (cn I32 1 (s 307 308))) (u I64) (s 294 308)) (u I64) (s 293 309)) (u I64)
    (s 287 309)) (u I64) (s 286 310))) (t_place (t_variable 2 (u Truth) (s 314 315))) Uniform (s 286 315))) (s 277 315)) (s 277 316)) ∷ []))
    (s 275 318)) (s 266 318)) ∷ (t_declare ((t_with_value 7 (v I32)
    (t_cast (t_binary op.Mul (t_unary un.Negate (t_convert I32 (t_place (t_variable 2 (u Truth) (s 331 332)))) (u I32) (s 329 332))
    (t_program_index (s 335 347)) (v I32) (s 329 347)) (v I32) (s 328 348)) (s 323 348)) ∷ []) (s 319 349)) ∷
    (t_simple (t_assign (t_element (ar 1 (u I8) false) (t_program_index (s 352 364)) (v I8) (s 350 365))
    (t_convert I8 (t_place (t_variable 3 (v I32) (s 368 369)))) (s 350 369)) (s 350 370)) ∷ [])) (s 68 372))) ∷ [])

abbrev arguments_61 : List Argument
arguments_61 = ((AnArray (rw I32 (2147483649 ∷ 1253136278 ∷ 8 ∷ 2147483648 ∷ 2139361087 ∷ 4294967295 ∷ []))) ∷ (AnArray (rw I8 (127 ∷ 2 ∷ 8 ∷ 129 ∷ 254 ∷ 251 ∷ 252 ∷ 127 ∷ []))) ∷ (AValue (record { elem = Truth; bits = 0 })) ∷ [])

run_61_of_0 : run_of program_61 0 0 arguments_61 ≡ Ends ((rw I32 (2147483649 ∷ 1253136278 ∷ 8 ∷ 2147483648 ∷ 2139361087 ∷ 4294967295 ∷ [])) ∷ (rw I8 (0 ∷ 0 ∷ 0 ∷ 0 ∷ 254 ∷ 251 ∷ 252 ∷ 127 ∷ [])) ∷ []) None ([])
unfolding digits number_to wrap_to amount not_zero
run_61_of_0 = refl

work_61_of_0 : work_of program_61 0 0 arguments_61 ≡ 40
unfolding digits number_to wrap_to amount not_zero
work_61_of_0 = refl

-- export void f(uniform signed a[], uniform int16 o[]) { int x = programIndex != o[(9 * a[4]) & 7] < o[programIndex] | a[((0b11011 ? o[programIndex] : 5)) & 7]; x++; x ^= programIndex; x--; o[programIndex] = x; }
abbrev program_62 : Program
program_62 = pr W8 ((fn None None ((vr (Given I32) false) ∷ (vr (Given I16) false) ∷ (vr (AVariable (v I32)) false) ∷ [])
    (t_braces (t_stmts ((t_declare ((t_with_value 2 (v I32)
    (t_binary op.Or (t_convert I32 (t_compare cmp.NotEqual (t_program_index (s 63 75))
    (t_convert I32 (t_compare cmp.Less (t_place (t_element (ar 1 (u I16) false)
    (t_binary op.And (t_cast (t_binary op.Mul (cn I32 9 (s 82 83)) (t_place (t_element (ar 0 (u I32) false) (cn I32 4 (s 88 89)) (u I32) (s 86 90)))
    (u I32) (s 82 90)) (u I32) (s 81 91)) (cn I32 7 (s 94 95)) (u I32) (s 81 95)) (u I16) (s 79 96)))
    (t_place (t_element (ar 1 (u I16) false) (t_program_index (s 101 113)) (v I16) (s 99 114))) Varying (s 79 114))) Varying (s 63 114)))
    (t_place (t_element (ar 0 (u I32) false) (t_binary op.And
    (t_cast (t_cast (t_choose (t_convert Truth (cn I32 27 (s 121 128)))
    (t_convert I32 (t_place (t_element (ar 1 (u I16) false) (t_program_index (s 133 145)) (v I16) (s 131 146)))) (cn I32 5 (s 149 150)) (v I32)
    (s 121 150)) (v I32) (s 120 151)) (v I32) (s 119 152)) (cn I32 7 (s 155 156)) (v I32) (s 119 156)) (v I32) (s 117 157))) (v I32) (s 63 157))
    (s 59 157)) ∷ []) (s 55 158)) ∷ (t_simple (t_step op.Add I32 (t_variable 2 (v I32) (s 159 160)) (s 159 162)) (s 159 163)) ∷
    (t_simple (t_update op.Xor I32 (t_variable 2 (v I32) (s 164 165)) (t_program_index (s 169 181)) (s 164 181)) (s 164 182)) ∷
    (t_simple (t_step op.Sub I32 (t_variable 2 (v I32) (s 183 184)) (s 183 186)) (s 183 187)) ∷
    (t_simple (t_assign (t_element (ar 1 (u I16) false) (t_program_index (s 190 202)) (v I16) (s 188 203))
    (t_convert I16 (t_place (t_variable 2 (v I32) (s 206 207)))) (s 188 207)) (s 188 208)) ∷ [])) (s 53 210))) ∷ [])

abbrev arguments_62 : List Argument
arguments_62 = ((AnArray (rw I32 (4294967291 ∷ 4294967288 ∷ 1683457182 ∷ 4294967291 ∷ 1491722623 ∷ 4294967292 ∷ 1191565149 ∷ 4294967292 ∷ []))) ∷ (AnArray (rw I16 (9 ∷ 0 ∷ 8 ∷ 40874 ∷ 8 ∷ 2 ∷ 53534 ∷ 13109 ∷ 65528 ∷ 65527 ∷ []))) ∷ [])

run_62_of_0 : run_of program_62 0 0 arguments_62
    ≡ Ends ((rw I32 (4294967291 ∷ 4294967288 ∷ 1683457182 ∷ 4294967291 ∷ 1491722623 ∷ 4294967292 ∷ 1191565149 ∷ 4294967292 ∷ [])) ∷
    (rw I16 (65528 ∷ 65532 ∷ 65533 ∷ 33954 ∷ 65527 ∷ 33956 ∷ 55127 ∷ 65528 ∷ 65528 ∷ 65527 ∷ [])) ∷ []) None ([])
unfolding digits number_to wrap_to amount not_zero
run_62_of_0 = refl

work_62_of_0 : work_of program_62 0 0 arguments_62 ≡ 37
unfolding digits number_to wrap_to amount not_zero
work_62_of_0 = refl
