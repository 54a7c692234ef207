-- Programs 12 to 23 of rows that were found outside, as theorems. Written by tools/sample_theorems.py.
use Rattle.std.specs.Prelude.{◌≡◌, true, false, List, [], ◌∷◌, Some, None}
use Rattle.std.proofs.Common.{refl}
use Rattle.std.specs.Fmt.{digits}
use Rattle.isp_base.specs.Values.{number_to, wrap_to, amount, not_zero}
use Rattle.isp_base.specs.Outcomes.{Ends, Traps, GoesOn}
use Rattle.isp_base.specs.Traps.{trap}
use Rattle.isp_base.specs.declared.types.Gang.TheVariants.{W4, W8, W16}
use Rattle.isp_base.specs.declared.types.Elem.TheVariants.{Bool as Truth, I8, U8, I16, U16, I32, U32, I64, U64}
use Rattle.isp_base.specs.declared.types.Rate.TheVariants.{Uniform, Varying}
use Rattle.isp_base.specs.declared.trap.TrapKind.TheVariants as kind
use Rattle.isp_base.specs.declared.operators.BinOp.TheVariants as op
use Rattle.isp_base.specs.declared.operators.UnaryOp.TheVariants as un
use Rattle.isp_base.specs.declared.operators.Compare.TheVariants as cmp
use Rattle.isp_base.specs.declared.signature.Argument.{Argument}
use Rattle.isp_base.specs.declared.signature.Argument.TheVariants.{Array as AnArray, Value as AValue}
use Rattle.isp_tree.specs.declared.stmt.Form.TheVariants.{Plain}
use Rattle.isp_tree.specs.declared.stmt.Jump.TheVariants.{Break}
use Rattle.isp_typed.specs.declared.library.Library.TheVariants as lib
use Rattle.isp_typed.specs.declared.variable.Holds.TheVariants.{Value as AVariable, Given, Local}
use Rattle.isp_typed.specs.declared.variable.Logic.TheVariants as logic
use Rattle.isp_typed.specs.Typed.{t_program_index, t_place, t_convert, t_cast, t_unary, t_binary, t_compare, t_logic, t_choose, t_call, t_library, t_packed_store}
use Rattle.isp_typed.specs.Typed.{t_packed_load, t_variable, t_element, t_whole, t_from, t_by_value, t_called, t_arguments, t_exprs}
use Rattle.isp_typed.specs.Typed.{t_plain, t_with_value, t_with_size, t_value, t_run, t_assign, t_update, t_step, t_first_declare}
use Rattle.isp_typed.specs.Typed.{t_block, t_declare, t_simple, t_if, t_if_else, t_while, t_do, t_for, t_foreach, t_foreach_active, t_unmasked}
use Rattle.isp_typed.specs.Typed.{t_jump, t_return, t_print, t_assert, t_braces, t_stmts, Program}
use Rattle.isp_meaning.specs.Runs.{run_of, work_of}
use Rattle.isp_tests_meaning.specs.Terms.{s, u, v, cn, ar, rg, vr, rw, fn, pr}

-- programs: library 37
-- export void f(uniform int32 a[], uniform signed o[], uniform uint64 n) { int x = n; int t1[5]; a[2] &= reduce_add(t1[(programIndex ^ (x)) & 3]);
-- packed_store_active(&o[0], x); a[programIndex] += x; }
abbrev program_12 : Program
program_12 = pr W4 ((fn None None ((vr (Given I32) false) ∷ (vr (Given I32) false) ∷ (vr (AVariable (u U64)) false) ∷ (vr (AVariable (v I32)) false) ∷
    (vr (Local (v I32) 5) false) ∷ []) (t_braces (t_stmts ((t_declare ((t_with_value 3 (v I32) (t_convert I32 (t_place (t_variable 2 (u U64) (s 81
    82)))) (s 77 82)) ∷ []) (s 73 83)) ∷ (t_declare ((t_with_size (ar 4 (v I32) false) (s 88 93)) ∷ []) (s 84 94)) ∷ (t_simple (t_update op.And I64
    (t_element (ar 0 (u I32) false) (cn I32 2 (s 97 98)) (u I32) (s 95 99)) (t_library lib.ReduceAdd I32 (t_exprs ((t_place (t_element (ar 4 (v I32)
    false) (t_binary op.And (t_cast (t_binary op.Xor (t_program_index (s 118 130)) (t_cast (t_place (t_variable 3 (v I32) (s 134 135))) (v I32) (s 133
    136)) (v I32) (s 118 136)) (v I32) (s 117 137)) (cn I32 3 (s 140 141)) (v I32) (s 117 141)) (v I32) (s 114 142))) ∷ [])) (u I64) (s 103 143)) (s
    95 143)) (s 95 144)) ∷ (t_simple (t_value (t_packed_store (t_from (ar 1 (u I32) false) (cn I32 0 (s 168 169)) (s 166 167)) (t_place (t_variable 3
    (v I32) (s 172 173))) (s 145 174))) (s 145 175)) ∷ (t_simple (t_update op.Add I32 (t_element (ar 0 (u I32) false) (t_program_index (s 178 190)) (v
    I32) (s 176 191)) (t_place (t_variable 3 (v I32) (s 195 196))) (s 176 196)) (s 176 197)) ∷ [])) (s 71 199))) ∷ [])

abbrev arguments_12 : List Argument
arguments_12 = ((AnArray (rw I32 (8 ∷ 3 ∷ 4294967291 ∷ 4294967291 ∷ 2147483647 ∷ 9 ∷ 2147483646 ∷ 4294967289 ∷ []))) ∷ (AnArray (rw I32 (2147483649 ∷
    4294967288 ∷ 2147483646 ∷ 0 ∷ 2147483647 ∷ 3908171971 ∷ []))) ∷ (AValue (record { elem = U64; bits = 18446744073709551614 })) ∷ [])

run_12_of_0 : run_of program_12 0 0 arguments_12 ≡ Ends ((rw I32 (6 ∷ 1 ∷ 4294967294 ∷ 4294967289 ∷ 2147483647 ∷ 9 ∷ 2147483646 ∷ 4294967289 ∷ [])) ∷
    (rw I32 (4294967294 ∷ 4294967294 ∷ 4294967294 ∷ 4294967294 ∷ 2147483647 ∷ 3908171971 ∷ [])) ∷ []) None ([])
unfolding digits number_to wrap_to amount not_zero
run_12_of_0 = refl

work_12_of_0 : work_of program_12 0 0 arguments_12 ≡ 27
unfolding digits number_to wrap_to amount not_zero
work_12_of_0 = refl

-- programs: library 40
-- export void f(uniform signed a[], uniform int16 o[], uniform int32 n) { int x = 1 >> !(n); const uniform int8 v1 = extract(-(programCount) && (4 ?
-- n : programIndex), 9); packed_store_active(&a, v1 || n < n); unsigned v2 = v1 == exclusive_scan_add((programIndex) % (programCount | 1)), v3;
-- a[programIndex] += x; }
abbrev program_13 : Program
program_13 = pr W8 ((fn None None ((vr (Given I32) false) ∷ (vr (Given I16) false) ∷ (vr (AVariable (u I32)) false) ∷ (vr (AVariable (v I32)) false) ∷
    (vr (AVariable (u I8)) true) ∷ (vr (AVariable (v U32)) false) ∷ (vr (AVariable (v U32)) false) ∷ []) (t_braces (t_stmts ((t_declare ((t_with_value
    3 (v I32) (t_binary op.Shr (cn I32 1 (s 80 81)) (t_convert I32 (t_unary un.Not (t_convert Truth (t_cast (t_place (t_variable 2 (u I32) (s 87 88)))
    (u I32) (s 86 89))) (u Truth) (s 85 89))) (u I32) (s 80 89)) (s 76 89)) ∷ []) (s 72 90)) ∷ (t_declare ((t_with_value 4 (u I8) (t_convert I8
    (t_library lib.Extract I32 (t_exprs ((t_convert I32 (t_logic logic.And (t_convert Truth (t_unary un.Negate (t_cast (cn I32 8 (s 125 137)) (u I32)
    (s 124 138)) (u I32) (s 123 138))) (t_convert Truth (t_cast (t_choose (t_convert Truth (cn I32 4 (s 143 144))) (t_place (t_variable 2 (u I32) (s
    147 148))) (t_program_index (s 151 163)) (v I32) (s 143 163)) (v I32) (s 142 164))) Varying (s 123 164))) ∷ (cn I32 9 (s 166 167)) ∷ [])) (u I32)
    (s 115 168))) (s 110 168)) ∷ []) (s 91 169)) ∷ (t_simple (t_value (t_packed_store (t_whole (ar 0 (u I32) false) (s 191 192)) (t_convert I32
    (t_logic logic.Or (t_convert Truth (t_place (t_variable 4 (u I8) (s 194 196)))) (t_compare cmp.Less (t_place (t_variable 2 (u I32) (s 200 201)))
    (t_place (t_variable 2 (u I32) (s 204 205))) Uniform (s 200 205)) Uniform (s 194 205))) (s 170 206))) (s 170 207)) ∷ (t_declare ((t_with_value 5
    (v U32) (t_convert U32 (t_compare cmp.Equal (t_convert I32 (t_place (t_variable 4 (u I8) (s 222 224)))) (t_library lib.ScanAdd I32 (t_exprs
    ((t_binary op.Rem (t_cast (t_program_index (s 248 260)) (v I32) (s 247 261)) (t_cast (t_binary op.Or (cn I32 8 (s 265 277)) (cn I32 1 (s 280 281))
    (u I32) (s 265 281)) (u I32) (s 264 282)) (v I32) (s 247 282)) ∷ [])) (v I32) (s 228 283)) Varying (s 222 283))) (s 217 283)) ∷ (t_plain 6 (v U32)
    (s 285 287)) ∷ []) (s 208 288)) ∷ (t_simple (t_update op.Add I32 (t_element (ar 0 (u I32) false) (t_program_index (s 291 303)) (v I32) (s 289
    304)) (t_place (t_variable 3 (v I32) (s 308 309))) (s 289 309)) (s 289 310)) ∷ [])) (s 70 312))) ∷ [])

abbrev arguments_13 : List Argument
arguments_13 = ((AnArray (rw I32 (2147483646 ∷ 5 ∷ 2 ∷ 4294967294 ∷ 4294967293 ∷ 4294967295 ∷ 2147483649 ∷ 7 ∷ 2682519617 ∷ 4294967288 ∷ 9 ∷ []))) ∷
    (AnArray (rw I16 (51472 ∷ 65535 ∷ 65531 ∷ 24914 ∷ 65533 ∷ 65531 ∷ 65534 ∷ 6 ∷ 1 ∷ 65531 ∷ 36086 ∷ []))) ∷ (AValue
    (record { elem = I32; bits = 4294967291 })) ∷ [])

run_13_of_0 : run_of program_13 0 0 arguments_13 ≡ Ends ((rw I32 (2 ∷ 2 ∷ 2 ∷ 2 ∷ 2 ∷ 2 ∷ 2 ∷ 2 ∷ 2682519617 ∷ 4294967288 ∷ 9 ∷ [])) ∷ (rw I16 (51472
    ∷ 65535 ∷ 65531 ∷ 24914 ∷ 65533 ∷ 65531 ∷ 65534 ∷ 6 ∷ 1 ∷ 65531 ∷ 36086 ∷ [])) ∷ []) None ([])
unfolding digits number_to wrap_to amount not_zero
run_13_of_0 = refl

work_13_of_0 : work_of program_13 0 0 arguments_13 ≡ 42
unfolding digits number_to wrap_to amount not_zero
work_13_of_0 = refl

-- programs: library 50
-- export void f(uniform int32 a[], uniform int64 o[], uniform int32 z[]) { int x = ~ o[programIndex] << (z[(programIndex ^ (z[0])) & 0]); {
-- packed_load_active(a, &x); } { int k1 = 0; for (;;) { if (k1 > 1) break; k1 += programIndex + 1; ; if (exclusive_scan_and(k1) >> k1 *
-- programIndex) { packed_store_active(a, (o[programIndex] > x)); uniform unsigned int8 t2[8]; } } } x--; ++x; { { ++x; int v3 = none(~(0b1100u)
-- >> (x ? x : programIndex)); packed_load_active(a, &v3); } } a[programIndex] += x; }
abbrev program_14 : Program
program_14 = pr W4 ((fn None None ((vr (Given I32) false) ∷ (vr (Given I64) false) ∷ (vr (Given I32) false) ∷ (vr (AVariable (v I32)) false) ∷ (vr
    (AVariable (v I32)) false) ∷ (vr (Local (u U8) 8) false) ∷ (vr (AVariable (v I32)) false) ∷ []) (t_braces (t_stmts ((t_declare ((t_with_value 3 (v
    I32) (t_convert I32 (t_binary op.Shl (t_unary un.Invert (t_place (t_element (ar 1 (u I64) false) (t_program_index (s 85 97)) (v I64) (s 83 98)))
    (v I64) (s 81 98)) (t_convert I64 (t_cast (t_place (t_element (ar 2 (u I32) false) (t_binary op.And (t_cast (t_binary op.Xor (t_program_index (s
    106 118)) (t_cast (t_place (t_element (ar 2 (u I32) false) (cn I32 0 (s 124 125)) (u I32) (s 122 126))) (u I32) (s 121 127)) (v I32) (s 106 127))
    (v I32) (s 105 128)) (cn I32 0 (s 131 132)) (v I32) (s 105 132)) (v I32) (s 103 133))) (v I32) (s 102 134))) (v I64) (s 81 134))) (s 77 134)) ∷
    []) (s 73 135)) ∷ (t_block (t_braces (t_stmts ((t_simple (t_value (t_packed_load (t_whole (ar 0 (u I32) false) (s 157 158)) 3 (s 138 163))) (s 138
    164)) ∷ [])) (s 136 166))) ∷ (t_block (t_braces (t_stmts ((t_declare ((t_with_value 4 (v I32) (cn I32 0 (s 178 179)) (s 173 179)) ∷ []) (s 169
    180)) ∷ (t_for Plain 5 None None None 5 (t_block (t_braces (t_stmts ((t_if Plain 5 (t_compare cmp.Greater (t_place (t_variable 4 (v I32) (s 196
    198))) (cn I32 1 (s 201 202)) Varying (s 196 202)) (t_jump Break (s 204 209) (s 204 210)) (s 192 210)) ∷ (t_simple (t_update op.Add I32
    (t_variable 4 (v I32) (s 211 213)) (t_binary op.Add (t_program_index (s 217 229)) (cn I32 1 (s 232 233)) (v I32) (s 217 233)) (s 211 233)) (s 211
    234)) ∷ (t_block (t_braces (t_stmts ([])) (s 236 237))) ∷ (t_if Plain 5 (t_convert Truth (t_binary op.Shr (t_library lib.ScanAnd I32 (t_exprs
    ((t_place (t_variable 4 (v I32) (s 261 263))) ∷ [])) (v I32) (s 242 264)) (t_binary op.Mul (t_place (t_variable 4 (v I32) (s 268 270)))
    (t_program_index (s 273 285)) (v I32) (s 268 285)) (v I32) (s 242 285))) (t_block (t_braces (t_stmts ((t_simple (t_value (t_packed_store (t_whole
    (ar 0 (u I32) false) (s 309 310)) (t_convert I32 (t_cast (t_compare cmp.Greater (t_place (t_element (ar 1 (u I64) false) (t_program_index (s 315
    327)) (v I64) (s 313 328))) (t_convert I64 (t_place (t_variable 3 (v I32) (s 331 332)))) Varying (s 313 332)) (v Truth) (s 312 333))) (s 289
    334))) (s 289 335)) ∷ (t_declare ((t_with_size (ar 5 (u U8) false) (s 358 363)) ∷ []) (s 336 364)) ∷ [])) (s 287 366))) (s 238 366)) ∷ [])) (s 190
    368))) (s 181 368)) ∷ [])) (s 167 370))) ∷ (t_simple (t_step op.Sub I32 (t_variable 3 (v I32) (s 371 372)) (s 371 374)) (s 371 375)) ∷ (t_simple
    (t_step op.Add I32 (t_variable 3 (v I32) (s 378 379)) (s 376 379)) (s 376 380)) ∷ (t_block (t_braces (t_stmts ((t_block (t_braces (t_stmts
    ((t_simple (t_step op.Add I32 (t_variable 3 (v I32) (s 387 388)) (s 385 388)) (s 385 389)) ∷ (t_declare ((t_with_value 6 (v I32) (t_convert I32
    (t_library lib.None Truth (t_exprs ((t_convert Truth (t_binary op.Shr (t_unary un.Invert (t_cast (cn U32 12 (s 406 413)) (u U32) (s 405 414)) (u
    U32) (s 404 414)) (t_convert U32 (t_cast (t_choose (t_convert Truth (t_place (t_variable 3 (v I32) (s 419 420)))) (t_place (t_variable 3 (v I32)
    (s 423 424))) (t_program_index (s 427 439)) (v I32) (s 419 439)) (v I32) (s 418 440))) (v U32) (s 404 440))) ∷ [])) (u Truth) (s 399 441))) (s 394
    441)) ∷ []) (s 390 442)) ∷ (t_simple (t_value (t_packed_load (t_whole (ar 0 (u I32) false) (s 462 463)) 6 (s 443 469))) (s 443 470)) ∷ [])) (s 383
    472))) ∷ [])) (s 381 474))) ∷ (t_simple (t_update op.Add I32 (t_element (ar 0 (u I32) false) (t_program_index (s 477 489)) (v I32) (s 475 490))
    (t_place (t_variable 3 (v I32) (s 494 495))) (s 475 495)) (s 475 496)) ∷ [])) (s 71 498))) ∷ [])

abbrev arguments_14 : List Argument
arguments_14 = ((AnArray (rw I32 (4294967289 ∷ 8 ∷ 4294967287 ∷ 9 ∷ 4294967287 ∷ 4 ∷ []))) ∷ (AnArray (rw I64 (18446744073709551608 ∷
    4904086959602905329 ∷ 9223372036854775809 ∷ 9 ∷ 15839707843030597299 ∷ 874658965315785601 ∷ 14590945767828288420 ∷ 9223372036854775807 ∷ []))) ∷
    (AnArray (rw I32 (4294967287 ∷ []))) ∷ [])

run_14_of_2 : run_of program_14 0 2 arguments_14 ≡ GoesOn ([])
unfolding digits number_to wrap_to amount not_zero
run_14_of_2 = refl

work_14_of_2 : work_of program_14 0 2 arguments_14 ≡ 88
unfolding digits number_to wrap_to amount not_zero
work_14_of_2 = refl

-- programs: library 58
-- export void f(uniform signed int a[], uniform uint64 o[], uniform int z[]) { int x = exclusive_scan_or(programIndex) ^ (z[(programIndex ^
-- (z[(a[programIndex]) & 3])) & 3]) / (((z[(reduce_min(4)) & 3] | 1)) | 1); if (o[(9) & 15]) { x--; } else { (programCount) % (x | 1);
-- packed_load_active(&a, &x); } packed_load_active(&a[0], &x); o[programIndex] = x; }
abbrev program_15 : Program
program_15 = pr W16 ((fn None None ((vr (Given I32) false) ∷ (vr (Given U64) false) ∷ (vr (Given I32) false) ∷ (vr (AVariable (v I32)) false) ∷ [])
    (t_braces (t_stmts ((t_declare ((t_with_value 3 (v I32) (t_binary op.Xor (t_library lib.ScanOr I32 (t_exprs ((t_program_index (s 103 115)) ∷ []))
    (v I32) (s 85 116)) (t_binary op.Div (t_cast (t_place (t_element (ar 2 (u I32) false) (t_binary op.And (t_cast (t_binary op.Xor (t_program_index
    (s 123 135)) (t_cast (t_place (t_element (ar 2 (u I32) false) (t_binary op.And (t_cast (t_place (t_element (ar 0 (u I32) false) (t_program_index
    (s 144 156)) (v I32) (s 142 157))) (v I32) (s 141 158)) (cn I32 3 (s 161 162)) (v I32) (s 141 162)) (v I32) (s 139 163))) (v I32) (s 138 164)) (v
    I32) (s 123 164)) (v I32) (s 122 165)) (cn I32 3 (s 168 169)) (v I32) (s 122 169)) (v I32) (s 120 170))) (v I32) (s 119 171)) (t_cast (t_binary
    op.Or (t_cast (t_cast (t_binary op.Or (t_place (t_element (ar 2 (u I32) false) (t_binary op.And (t_cast (t_library lib.ReduceMin I32 (t_exprs ((cn
    I32 4 (s 191 192)) ∷ [])) (u I32) (s 180 193)) (u I32) (s 179 194)) (cn I32 3 (s 197 198)) (u I32) (s 179 198)) (u I32) (s 177 199))) (cn I32 1 (s
    202 203)) (u I32) (s 177 203)) (u I32) (s 176 204)) (u I32) (s 175 205)) (cn I32 1 (s 208 209)) (u I32) (s 175 209)) (u I32) (s 174 210)) (v I32)
    (s 119 210)) (v I32) (s 85 210)) (s 81 210)) ∷ []) (s 77 211)) ∷ (t_if_else Plain 4 (t_convert Truth (t_place (t_element (ar 1 (u U64) false)
    (t_binary op.And (t_cast (cn I32 9 (s 219 220)) (u I32) (s 218 221)) (cn I32 15 (s 224 226)) (u I32) (s 218 226)) (u U64) (s 216 227)))) (t_block
    (t_braces (t_stmts ((t_simple (t_step op.Sub I32 (t_variable 3 (v I32) (s 231 232)) (s 231 234)) (s 231 235)) ∷ [])) (s 229 237))) (t_block
    (t_braces (t_stmts ((t_simple (t_value (t_binary op.Rem (t_cast (cn I32 16 (s 246 258)) (u I32) (s 245 259)) (t_cast (t_binary op.Or (t_place
    (t_variable 3 (v I32) (s 263 264))) (cn I32 1 (s 267 268)) (v I32) (s 263 268)) (v I32) (s 262 269)) (v I32) (s 245 269))) (s 245 270)) ∷
    (t_simple (t_value (t_packed_load (t_whole (ar 0 (u I32) false) (s 291 292)) 3 (s 271 297))) (s 271 298)) ∷ [])) (s 243 300))) (s 212 300)) ∷
    (t_simple (t_value (t_packed_load (t_from (ar 0 (u I32) false) (cn I32 0 (s 323 324)) (s 321 322)) 3 (s 301 330))) (s 301 331)) ∷ (t_simple
    (t_assign (t_element (ar 1 (u U64) false) (t_program_index (s 334 346)) (v U64) (s 332 347)) (t_convert U64 (t_place (t_variable 3 (v I32) (s 350
    351)))) (s 332 351)) (s 332 352)) ∷ [])) (s 75 354))) ∷ [])

abbrev arguments_15 : List Argument
arguments_15 = ((AnArray (rw I32 (5 ∷ 2147483647 ∷ 520074411 ∷ 9 ∷ 7 ∷ 4294967292 ∷ 2147483646 ∷ 2147483646 ∷ 4294967288 ∷ 4294967291 ∷ 9 ∷ 3272697094
    ∷ 4294967294 ∷ 4294967293 ∷ 9 ∷ 2147483646 ∷ 1 ∷ []))) ∷ (AnArray (rw U64 (4 ∷ 18120422434076792524 ∷ 1 ∷ 7 ∷ 6 ∷ 6 ∷ 18446744073709551614 ∷ 4 ∷ 4
    ∷ 1 ∷ 9318655813819850548 ∷ 4 ∷ 3 ∷ 5 ∷ 5 ∷ 7 ∷ 0 ∷ 9 ∷ []))) ∷ (AnArray (rw I32 (4294967289 ∷ 881395670 ∷ 5 ∷ 5 ∷ []))) ∷ [])

run_15_of_0 : run_of program_15 0 0 arguments_15 ≡ Ends ((rw I32 (5 ∷ 2147483647 ∷ 520074411 ∷ 9 ∷ 7 ∷ 4294967292 ∷ 2147483646 ∷ 2147483646 ∷
    4294967288 ∷ 4294967291 ∷ 9 ∷ 3272697094 ∷ 4294967294 ∷ 4294967293 ∷ 9 ∷ 2147483646 ∷ 1 ∷ [])) ∷ (rw U64 (5 ∷ 2147483647 ∷ 520074411 ∷ 9 ∷ 7 ∷
    18446744073709551612 ∷ 2147483646 ∷ 2147483646 ∷ 18446744073709551608 ∷ 18446744073709551611 ∷ 9 ∷ 18446744072687281414 ∷ 18446744073709551614 ∷
    18446744073709551613 ∷ 9 ∷ 2147483646 ∷ 0 ∷ 9 ∷ [])) ∷ (rw I32 (4294967289 ∷ 881395670 ∷ 5 ∷ 5 ∷ [])) ∷ []) None ([])
unfolding digits number_to wrap_to amount not_zero
run_15_of_0 = refl

work_15_of_0 : work_of program_15 0 0 arguments_15 ≡ 52
unfolding digits number_to wrap_to amount not_zero
work_15_of_0 = refl

-- programs: library 60
-- export void f(uniform int a[], uniform uint16 o[]) { int x = a[(programIndex ^ (abs(o[(programIndex ^ (5 ^ o[programIndex])) & 7]))) & 7] -
-- (a[(programIndex ^ (max(5, o[programIndex]))) & 7]); x ^= insert(clamp(a[programIndex], programIndex, o[programIndex]) !=
-- exclusive_scan_add(2), 1, none(min(x, x))); packed_store_active(&a, shuffle(reduce_min(5), o[2] < o[(programIndex ^ (x)) & 7])); ;
-- packed_load_active(&a, &x); o[programIndex] = x; }
abbrev program_16 : Program
program_16 = pr W8 ((fn None None ((vr (Given I32) false) ∷ (vr (Given U16) false) ∷ (vr (AVariable (v I32)) false) ∷ []) (t_braces (t_stmts
    ((t_declare ((t_with_value 2 (v I32) (t_binary op.Sub (t_place (t_element (ar 0 (u I32) false) (t_binary op.And (t_cast (t_binary op.Xor
    (t_program_index (s 64 76)) (t_convert I32 (t_cast (t_library lib.Abs U16 (t_exprs ((t_place (t_element (ar 1 (u U16) false) (t_binary op.And
    (t_cast (t_binary op.Xor (t_program_index (s 87 99)) (t_cast (t_binary op.Xor (cn I32 5 (s 103 104)) (t_convert I32 (t_place (t_element (ar 1 (u
    U16) false) (t_program_index (s 109 121)) (v U16) (s 107 122)))) (v I32) (s 103 122)) (v I32) (s 102 123)) (v I32) (s 87 123)) (v I32) (s 86 124))
    (cn I32 7 (s 127 128)) (v I32) (s 86 128)) (v U16) (s 84 129))) ∷ [])) (v U16) (s 80 130)) (v U16) (s 79 131))) (v I32) (s 64 131)) (v I32) (s 63
    132)) (cn I32 7 (s 135 136)) (v I32) (s 63 136)) (v I32) (s 61 137))) (t_cast (t_place (t_element (ar 0 (u I32) false) (t_binary op.And (t_cast
    (t_binary op.Xor (t_program_index (s 144 156)) (t_cast (t_library lib.Max I32 (t_exprs ((cn I32 5 (s 164 165)) ∷ (t_convert I32 (t_place
    (t_element (ar 1 (u U16) false) (t_program_index (s 169 181)) (v U16) (s 167 182)))) ∷ [])) (v I32) (s 160 183)) (v I32) (s 159 184)) (v I32) (s
    144 184)) (v I32) (s 143 185)) (cn I32 7 (s 188 189)) (v I32) (s 143 189)) (v I32) (s 141 190))) (v I32) (s 140 191)) (v I32) (s 61 191)) (s 57
    191)) ∷ []) (s 53 192)) ∷ (t_simple (t_update op.Xor I32 (t_variable 2 (v I32) (s 193 194)) (t_library lib.Insert I32 (t_exprs ((t_convert I32
    (t_compare cmp.NotEqual (t_library lib.Clamp I32 (t_exprs ((t_place (t_element (ar 0 (u I32) false) (t_program_index (s 213 225)) (v I32) (s 211
    226))) ∷ (t_program_index (s 228 240)) ∷ (t_convert I32 (t_place (t_element (ar 1 (u U16) false) (t_program_index (s 244 256)) (v U16) (s 242
    257)))) ∷ [])) (v I32) (s 205 258)) (t_library lib.ScanAdd I32 (t_exprs ((cn I32 2 (s 281 282)) ∷ [])) (v I32) (s 262 283)) Varying (s 205 283)))
    ∷ (cn I32 1 (s 285 286)) ∷ (t_convert I32 (t_library lib.None Truth (t_exprs ((t_convert Truth (t_library lib.Min I32 (t_exprs ((t_place
    (t_variable 2 (v I32) (s 297 298))) ∷ (t_place (t_variable 2 (v I32) (s 300 301))) ∷ [])) (v I32) (s 293 302))) ∷ [])) (u Truth) (s 288 303))) ∷
    [])) (v I32) (s 198 304)) (s 193 304)) (s 193 305)) ∷ (t_simple (t_value (t_packed_store (t_whole (ar 0 (u I32) false) (s 327 328)) (t_library
    lib.Shuffle I32 (t_exprs ((t_library lib.ReduceMin I32 (t_exprs ((cn I32 5 (s 349 350)) ∷ [])) (u I32) (s 338 351)) ∷ (t_convert I32 (t_compare
    cmp.Less (t_place (t_element (ar 1 (u U16) false) (cn I32 2 (s 355 356)) (u U16) (s 353 357))) (t_place (t_element (ar 1 (u U16) false) (t_binary
    op.And (t_cast (t_binary op.Xor (t_program_index (s 363 375)) (t_cast (t_place (t_variable 2 (v I32) (s 379 380))) (v I32) (s 378 381)) (v I32) (s
    363 381)) (v I32) (s 362 382)) (cn I32 7 (s 385 386)) (v I32) (s 362 386)) (v U16) (s 360 387))) Varying (s 353 387))) ∷ [])) (v I32) (s 330 388))
    (s 306 389))) (s 306 390)) ∷ (t_block (t_braces (t_stmts ([])) (s 391 392))) ∷ (t_simple (t_value (t_packed_load (t_whole (ar 0 (u I32) false) (s
    413 414)) 2 (s 393 419))) (s 393 420)) ∷ (t_simple (t_assign (t_element (ar 1 (u U16) false) (t_program_index (s 423 435)) (v U16) (s 421 436))
    (t_convert U16 (t_place (t_variable 2 (v I32) (s 439 440)))) (s 421 440)) (s 421 441)) ∷ [])) (s 51 443))) ∷ [])

abbrev arguments_16 : List Argument
arguments_16 = ((AnArray (rw I32 (7 ∷ 2636375579 ∷ 2070594985 ∷ 2 ∷ 3 ∷ 9 ∷ 4294967287 ∷ 2757443487 ∷ 2 ∷ 2147483648 ∷ 2147483649 ∷ []))) ∷ (AnArray
    (rw U16 (54142 ∷ 8 ∷ 65534 ∷ 7 ∷ 1 ∷ 1 ∷ 14272 ∷ 8 ∷ 4 ∷ []))) ∷ [])

run_16_of_0 : run_of program_16 0 0 arguments_16 ≡ Ends ((rw I32 (5 ∷ 5 ∷ 5 ∷ 5 ∷ 5 ∷ 5 ∷ 5 ∷ 5 ∷ 2 ∷ 2147483648 ∷ 2147483649 ∷ [])) ∷ (rw U16 (5 ∷ 5
    ∷ 5 ∷ 5 ∷ 5 ∷ 5 ∷ 5 ∷ 5 ∷ 4 ∷ [])) ∷ []) None ([])
unfolding digits number_to wrap_to amount not_zero
run_16_of_0 = refl

work_16_of_0 : work_of program_16 0 0 arguments_16 ≡ 78
unfolding digits number_to wrap_to amount not_zero
work_16_of_0 = refl

-- programs: library 62
-- export void f(uniform signed a[], uniform signed int64 o[], uniform int32 n) { int x = shift(n | 9, 9); o[programIndex] *= broadcast((int)
-- extract(n, 1), -6); if (x || a[0] << all(n)) { programIndex; x--; if (~(n < 12Lu)) { uniform int v1 = n; x = broadcast(insert(o[14], o[18], n)
-- < max(o[7], x), -1); v1 = (! (o[(n) & 15]) ? n : any(9)); } } o[programIndex] = x; }
abbrev program_17 : Program
program_17 = pr W16 ((fn None None ((vr (Given I32) false) ∷ (vr (Given I64) false) ∷ (vr (AVariable (u I32)) false) ∷ (vr (AVariable (v I32)) false)
    ∷ (vr (AVariable (u I32)) false) ∷ []) (t_braces (t_stmts ((t_declare ((t_with_value 3 (v I32) (t_library lib.Shift I32 (t_exprs ((t_binary op.Or
    (t_place (t_variable 2 (u I32) (s 93 94))) (cn I32 9 (s 97 98)) (u I32) (s 93 98)) ∷ (cn I32 9 (s 100 101)) ∷ [])) (v I32) (s 87 102)) (s 83 102))
    ∷ []) (s 79 103)) ∷ (t_simple (t_update op.Mul I64 (t_element (ar 1 (u I64) false) (t_program_index (s 106 118)) (v I64) (s 104 119)) (t_convert
    I64 (t_library lib.Broadcast I32 (t_exprs ((t_cast (t_library lib.Extract I32 (t_exprs ((t_place (t_variable 2 (u I32) (s 147 148))) ∷ (cn I32 1
    (s 150 151)) ∷ [])) (u I32) (s 139 152)) (u I32) (s 133 152)) ∷ (t_unary un.Negate (cn I32 6 (s 155 156)) (u I32) (s 154 156)) ∷ [])) (v I32) (s
    123 157))) (s 104 157)) (s 104 158)) ∷ (t_if Plain 4 (t_logic logic.Or (t_convert Truth (t_place (t_variable 3 (v I32) (s 163 164)))) (t_convert
    Truth (t_binary op.Shl (t_place (t_element (ar 0 (u I32) false) (cn I32 0 (s 170 171)) (u I32) (s 168 172))) (t_convert I32 (t_library lib.All
    Truth (t_exprs ((t_convert Truth (t_place (t_variable 2 (u I32) (s 180 181)))) ∷ [])) (u Truth) (s 176 182))) (u I32) (s 168 182))) Varying (s 163
    182)) (t_block (t_braces (t_stmts ((t_simple (t_value (t_program_index (s 186 198))) (s 186 199)) ∷ (t_simple (t_step op.Sub I32 (t_variable 3 (v
    I32) (s 200 201)) (s 200 203)) (s 200 204)) ∷ (t_if Plain 4 (t_convert Truth (t_unary un.Invert (t_convert I32 (t_cast (t_compare cmp.Less
    (t_convert U64 (t_place (t_variable 2 (u I32) (s 211 212)))) (cn U64 12 (s 215 219)) Uniform (s 211 219)) (u Truth) (s 210 220))) (u I32) (s 209
    220))) (t_block (t_braces (t_stmts ((t_declare ((t_with_value 4 (u I32) (t_place (t_variable 2 (u I32) (s 241 242))) (s 236 242)) ∷ []) (s 224
    243)) ∷ (t_simple (t_assign (t_variable 3 (v I32) (s 244 245)) (t_library lib.Broadcast I32 (t_exprs ((t_convert I32 (t_compare cmp.Less
    (t_library lib.Insert I64 (t_exprs ((t_place (t_element (ar 1 (u I64) false) (cn I32 14 (s 267 269)) (u I64) (s 265 270))) ∷ (t_convert I32
    (t_place (t_element (ar 1 (u I64) false) (cn I32 18 (s 274 276)) (u I64) (s 272 277)))) ∷ (t_convert I64 (t_place (t_variable 2 (u I32) (s 279
    280)))) ∷ [])) (v I64) (s 258 281)) (t_library lib.Max I64 (t_exprs ((t_place (t_element (ar 1 (u I64) false) (cn I32 7 (s 290 291)) (u I64) (s
    288 292))) ∷ (t_convert I64 (t_place (t_variable 3 (v I32) (s 294 295)))) ∷ [])) (v I64) (s 284 296)) Varying (s 258 296))) ∷ (t_unary un.Negate
    (cn I32 1 (s 299 300)) (u I32) (s 298 300)) ∷ [])) (v I32) (s 248 301)) (s 244 301)) (s 244 302)) ∷ (t_simple (t_assign (t_variable 4 (u I32) (s
    303 305)) (t_cast (t_choose (t_unary un.Not (t_convert Truth (t_cast (t_place (t_element (ar 1 (u I64) false) (t_binary op.And (t_cast (t_place
    (t_variable 2 (u I32) (s 315 316))) (u I32) (s 314 317)) (cn I32 15 (s 320 322)) (u I32) (s 314 322)) (u I64) (s 312 323))) (u I64) (s 311 324)))
    (u Truth) (s 309 324)) (t_place (t_variable 2 (u I32) (s 327 328))) (t_convert I32 (t_library lib.Any Truth (t_exprs ((t_convert Truth (cn I32 9
    (s 335 336))) ∷ [])) (u Truth) (s 331 337))) (u I32) (s 309 337)) (u I32) (s 308 338)) (s 303 338)) (s 303 339)) ∷ [])) (s 222 341))) (s 205 341))
    ∷ [])) (s 184 343))) (s 159 343)) ∷ (t_simple (t_assign (t_element (ar 1 (u I64) false) (t_program_index (s 346 358)) (v I64) (s 344 359))
    (t_convert I64 (t_place (t_variable 3 (v I32) (s 362 363)))) (s 344 363)) (s 344 364)) ∷ [])) (s 77 366))) ∷ [])

abbrev arguments_17 : List Argument
arguments_17 = ((AnArray (rw I32 (4294967294 ∷ 2147483648 ∷ 1330247544 ∷ 2147483648 ∷ 2147483647 ∷ 660400844 ∷ 2147483648 ∷ 2147483647 ∷ 2147483646 ∷
    2 ∷ 9 ∷ 4294967287 ∷ 2147483648 ∷ 4294967294 ∷ 6 ∷ 4294967288 ∷ []))) ∷ (AnArray (rw I64 (7 ∷ 6 ∷ 18446744073709551609 ∷ 9223372036854775807 ∷ 6 ∷
    4457360482928036987 ∷ 18446744073709551608 ∷ 6199864454745974335 ∷ 18446744073709551610 ∷ 8 ∷ 9223372036854775809 ∷ 18446744073709551608 ∷
    9223372036854775807 ∷ 9223372036854775808 ∷ 18446744073709551608 ∷ 6 ∷ 7 ∷ 7 ∷ 18446744073709551614 ∷ 9223372036854775806 ∷ []))) ∷ (AValue
    (record { elem = I32; bits = 3 })) ∷ [])

run_17_of_0 : run_of program_17 0 0 arguments_17 ≡ Ends ((rw I32 (4294967294 ∷ 2147483648 ∷ 1330247544 ∷ 2147483648 ∷ 2147483647 ∷ 660400844 ∷
    2147483648 ∷ 2147483647 ∷ 2147483646 ∷ 2 ∷ 9 ∷ 4294967287 ∷ 2147483648 ∷ 4294967294 ∷ 6 ∷ 4294967288 ∷ [])) ∷ (rw I64 (1 ∷ 1 ∷ 1 ∷ 1 ∷ 1 ∷ 1 ∷ 1 ∷
    1 ∷ 1 ∷ 1 ∷ 1 ∷ 1 ∷ 1 ∷ 1 ∷ 1 ∷ 1 ∷ 7 ∷ 7 ∷ 18446744073709551614 ∷ 9223372036854775806 ∷ [])) ∷ []) None ([])
unfolding digits number_to wrap_to amount not_zero
run_17_of_0 = refl

work_17_of_0 : work_of program_17 0 0 arguments_17 ≡ 74
unfolding digits number_to wrap_to amount not_zero
work_17_of_0 = refl

-- programs: loops 8
-- export void f(uniform int a[], uniform unsigned int o[], uniform signed z[], uniform int32 n) { int x = n; x--; if (-(x)) return; o[programIndex]
-- = x; }
abbrev program_18 : Program
program_18 = pr W8 ((fn None None ((vr (Given I32) false) ∷ (vr (Given U32) false) ∷ (vr (Given I32) false) ∷ (vr (AVariable (u I32)) false) ∷ (vr
    (AVariable (v I32)) false) ∷ []) (t_braces (t_stmts ((t_declare ((t_with_value 4 (v I32) (t_place (t_variable 3 (u I32) (s 104 105))) (s 100 105))
    ∷ []) (s 96 106)) ∷ (t_simple (t_step op.Sub I32 (t_variable 4 (v I32) (s 107 108)) (s 107 110)) (s 107 111)) ∷ (t_if Plain 5 (t_convert Truth
    (t_unary un.Negate (t_cast (t_place (t_variable 4 (v I32) (s 118 119))) (v I32) (s 117 120)) (v I32) (s 116 120))) (t_return (s 122 128) None (s
    122 129)) (s 112 129)) ∷ (t_simple (t_assign (t_element (ar 1 (u U32) false) (t_program_index (s 132 144)) (v U32) (s 130 145)) (t_convert U32
    (t_place (t_variable 4 (v I32) (s 148 149)))) (s 130 149)) (s 130 150)) ∷ [])) (s 94 152))) ∷ [])

abbrev arguments_18 : List Argument
arguments_18 = ((AnArray (rw I32 (4294967294 ∷ 9 ∷ 1 ∷ 8 ∷ 4294967290 ∷ 4294967294 ∷ 2147483648 ∷ 1 ∷ 4294967291 ∷ 3 ∷ 2147483646 ∷ 2147483646 ∷ [])))
    ∷ (AnArray (rw U32 (6 ∷ 4294967294 ∷ 7 ∷ 1 ∷ 381744571 ∷ 0 ∷ 8 ∷ 0 ∷ 3776175505 ∷ []))) ∷ (AnArray (rw I32 (4 ∷ 9 ∷ 798485588 ∷ 2147483646 ∷
    4294967292 ∷ 2147483648 ∷ []))) ∷ (AValue (record { elem = I32; bits = 2147483648 })) ∷ [])

run_18_of_0 : run_of program_18 0 0 arguments_18 ≡ Ends ((rw I32 (4294967294 ∷ 9 ∷ 1 ∷ 8 ∷ 4294967290 ∷ 4294967294 ∷ 2147483648 ∷ 1 ∷ 4294967291 ∷ 3 ∷
    2147483646 ∷ 2147483646 ∷ [])) ∷ (rw U32 (6 ∷ 4294967294 ∷ 7 ∷ 1 ∷ 381744571 ∷ 0 ∷ 8 ∷ 0 ∷ 3776175505 ∷ [])) ∷ (rw I32 (4 ∷ 9 ∷ 798485588 ∷
    2147483646 ∷ 4294967292 ∷ 2147483648 ∷ [])) ∷ []) None ([])
unfolding digits number_to wrap_to amount not_zero
run_18_of_0 = refl

work_18_of_0 : work_of program_18 0 0 arguments_18 ≡ 11
unfolding digits number_to wrap_to amount not_zero
work_18_of_0 = refl

-- programs: loops 42
-- export void f(uniform signed a[], uniform int o[], uniform unsigned int8 n) { int x = (int32) n; a[4] >>= (unsigned int16) ~ a[(n == 4) & 3] >
-- 0x8u * 2; x && n; if (programIndex != 2) return; x &= x; a[programIndex] += x; }
abbrev program_19 : Program
program_19 = pr W4 ((fn None None ((vr (Given I32) false) ∷ (vr (Given I32) false) ∷ (vr (AVariable (u U8)) false) ∷ (vr (AVariable (v I32)) false) ∷
    []) (t_braces (t_stmts ((t_declare ((t_with_value 3 (v I32) (t_cast (t_convert I32 (t_place (t_variable 2 (u U8) (s 94 95)))) (u I32) (s 86 95))
    (s 82 95)) ∷ []) (s 78 96)) ∷ (t_simple (t_update op.Shr I32 (t_element (ar 0 (u I32) false) (cn I32 4 (s 99 100)) (u I32) (s 97 101)) (t_convert
    I32 (t_compare cmp.Greater (t_convert U32 (t_cast (t_convert U16 (t_unary un.Invert (t_place (t_element (ar 0 (u I32) false) (t_binary op.And
    (t_convert I32 (t_cast (t_compare cmp.Equal (t_convert I32 (t_place (t_variable 2 (u U8) (s 128 129)))) (cn I32 4 (s 133 134)) Uniform (s 128
    134)) (u Truth) (s 127 135))) (cn I32 3 (s 138 139)) (u I32) (s 127 139)) (u I32) (s 125 140))) (u I32) (s 123 140))) (u U16) (s 106 140)))
    (t_binary op.Mul (cn U32 8 (s 143 147)) (t_convert U32 (cn I32 2 (s 150 151))) (u U32) (s 143 151)) Uniform (s 106 151))) (s 97 151)) (s 97 152))
    ∷ (t_simple (t_value (t_logic logic.And (t_convert Truth (t_place (t_variable 3 (v I32) (s 153 154)))) (t_convert Truth (t_place (t_variable 2 (u
    U8) (s 158 159)))) Varying (s 153 159))) (s 153 160)) ∷ (t_if Plain 4 (t_compare cmp.NotEqual (t_program_index (s 165 177)) (cn I32 2 (s 181 182))
    Varying (s 165 182)) (t_return (s 184 190) None (s 184 191)) (s 161 191)) ∷ (t_simple (t_update op.And I32 (t_variable 3 (v I32) (s 192 193))
    (t_place (t_variable 3 (v I32) (s 197 198))) (s 192 198)) (s 192 199)) ∷ (t_simple (t_update op.Add I32 (t_element (ar 0 (u I32) false)
    (t_program_index (s 202 214)) (v I32) (s 200 215)) (t_place (t_variable 3 (v I32) (s 219 220))) (s 200 220)) (s 200 221)) ∷ [])) (s 76 223))) ∷
    [])

abbrev arguments_19 : List Argument
arguments_19 = ((AnArray (rw I32 (826530669 ∷ 2147483646 ∷ 4294967292 ∷ 4294967290 ∷ 3 ∷ 4294967293 ∷ []))) ∷ (AnArray (rw I32 (4294967295 ∷ 4 ∷
    4294967290 ∷ 2147483647 ∷ 4294967288 ∷ 2147483646 ∷ 5 ∷ []))) ∷ (AValue (record { elem = U8; bits = 1 })) ∷ [])

run_19_of_0 : run_of program_19 0 0 arguments_19 ≡ Ends ((rw I32 (826530669 ∷ 2147483646 ∷ 4294967293 ∷ 4294967290 ∷ 1 ∷ 4294967293 ∷ [])) ∷ (rw I32
    (4294967295 ∷ 4 ∷ 4294967290 ∷ 2147483647 ∷ 4294967288 ∷ 2147483646 ∷ 5 ∷ [])) ∷ []) None ([])
unfolding digits number_to wrap_to amount not_zero
run_19_of_0 = refl

work_19_of_0 : work_of program_19 0 0 arguments_19 ≡ 37
unfolding digits number_to wrap_to amount not_zero
work_19_of_0 = refl

-- programs: mixed 108
-- void g0() { { return; return; } ; unmasked { ; ; ; } } varying signed g1(uniform int16 p1, signed int8 p2) { { int k3 = 0; do { k3++; g0(); p1 |=
-- (signed int) 0; p2 <<= k3; } while (k3 < 3); } foreach_active (i4) { ; } unmasked { print("\n%é%\n", false || p1, programCount + p2 < (p1)); ;
-- } return (p2) % (programIndex | 1) != (programIndex) % (p1 | 1); } export uniform signed f(uniform signed int a[], uniform int64 o[], uniform
-- int32 z[], uniform int32 n) { int x = g1(z[3], n) == clamp(n, n, o[programIndex]); uint8 v5 = !(max(5, n)) * g1(n < programCount, x | 5), v6 =
-- programIndex; n |= ~ n; o[programIndex] = x; return abs(z[(4294967296 << 2147483647) & 3]) & programCount + 0; }
abbrev program_20 : Program
program_20 = pr W16 ((fn None None ([]) (t_braces (t_stmts ((t_block (t_braces (t_stmts ((t_return (s 14 20) None (s 14 21)) ∷ (t_return (s 22 28)
    None (s 22 29)) ∷ [])) (s 12 31))) ∷ (t_block (t_braces (t_stmts ([])) (s 32 33))) ∷ (t_unmasked (s 34 42) (t_braces (t_stmts ((t_block (t_braces
    (t_stmts ([])) (s 45 46))) ∷ (t_block (t_braces (t_stmts ([])) (s 47 48))) ∷ (t_block (t_braces (t_stmts ([])) (s 49 50))) ∷ [])) (s 43 52)) (s 34
    52)) ∷ [])) (s 10 54))) ∷ (fn (Some I32) (Some (v I32)) ((vr (AVariable (u I16)) false) ∷ (vr (AVariable (v I8)) false) ∷ (vr (AVariable (v I32))
    false) ∷ (vr (AVariable (u I64)) true) ∷ []) (t_braces (t_stmts ((t_block (t_braces (t_stmts ((t_declare ((t_with_value 2 (v I32) (cn I32 0 (s 120
    121)) (s 115 121)) ∷ []) (s 111 122)) ∷ (t_do Plain 3 (t_block (t_braces (t_stmts ((t_simple (t_step op.Add I32 (t_variable 2 (v I32) (s 128 130))
    (s 128 132)) (s 128 133)) ∷ (t_simple (t_run (t_called 0 (t_arguments ([])) (s 135 139))) (s 135 140)) ∷ (t_simple (t_update op.Or I32 (t_variable
    0 (u I16) (s 141 143)) (t_cast (cn I32 0 (s 160 161)) (u I32) (s 147 161)) (s 141 161)) (s 141 162)) ∷ (t_simple (t_update op.Shl I32 (t_variable
    1 (v I8) (s 163 165)) (t_place (t_variable 2 (v I32) (s 170 172))) (s 163 172)) (s 163 173)) ∷ [])) (s 126 175))) (t_compare cmp.Less (t_place
    (t_variable 2 (v I32) (s 183 185))) (cn I32 3 (s 188 189)) Varying (s 183 189)) (s 123 191)) ∷ [])) (s 109 193))) ∷ (t_foreach_active (s 194 208)
    3 3 (t_block (t_braces (t_stmts ((t_block (t_braces (t_stmts ([])) (s 216 217))) ∷ [])) (s 214 219))) (s 194 219)) ∷ (t_unmasked (s 220 228)
    (t_braces (t_stmts ((t_print (s 231 236) (10 ∷ 37 ∷ 195 ∷ 169 ∷ 37 ∷ 10 ∷ []) ((t_logic logic.Or (cn Truth 0 (s 249 254)) (t_convert Truth
    (t_place (t_variable 0 (u I16) (s 258 260)))) Uniform (s 249 260)) ∷ (t_compare cmp.Less (t_binary op.Add (cn I32 16 (s 262 274)) (t_convert I32
    (t_place (t_variable 1 (v I8) (s 277 279)))) (v I32) (s 262 279)) (t_convert I32 (t_cast (t_place (t_variable 0 (u I16) (s 283 285))) (u I16) (s
    282 286))) Varying (s 262 286)) ∷ []) (s 231 288)) ∷ (t_block (t_braces (t_stmts ([])) (s 289 290))) ∷ [])) (s 229 292)) (s 220 292)) ∷ (t_return
    (s 293 299) (Some (t_convert I32 (t_compare cmp.NotEqual (t_binary op.Rem (t_convert I32 (t_cast (t_place (t_variable 1 (v I8) (s 301 303))) (v
    I8) (s 300 304))) (t_cast (t_binary op.Or (t_program_index (s 308 320)) (cn I32 1 (s 323 324)) (v I32) (s 308 324)) (v I32) (s 307 325)) (v I32)
    (s 300 325)) (t_binary op.Rem (t_cast (t_program_index (s 330 342)) (v I32) (s 329 343)) (t_cast (t_binary op.Or (t_convert I32 (t_place
    (t_variable 0 (u I16) (s 347 349)))) (cn I32 1 (s 352 353)) (u I32) (s 347 353)) (u I32) (s 346 354)) (v I32) (s 329 354)) Varying (s 300 354))))
    (s 293 355)) ∷ [])) (s 107 357))) ∷ (fn (Some I32) (Some (u I32)) ((vr (Given I32) false) ∷ (vr (Given I64) false) ∷ (vr (Given I32) false) ∷ (vr
    (AVariable (u I32)) false) ∷ (vr (AVariable (v I32)) false) ∷ (vr (AVariable (v U8)) false) ∷ (vr (AVariable (v U8)) false) ∷ []) (t_braces
    (t_stmts ((t_declare ((t_with_value 4 (v I32) (t_convert I32 (t_compare cmp.Equal (t_convert I64 (t_call (t_called 1 (t_arguments ((t_by_value
    (t_convert I16 (t_place (t_element (ar 2 (u I32) false) (cn I32 3 (s 476 477)) (u I32) (s 474 478))))) ∷ (t_by_value (t_convert I8 (t_place
    (t_variable 3 (u I32) (s 480 481))))) ∷ [])) (s 471 482)) (v I32))) (t_library lib.Clamp I64 (t_exprs ((t_convert I64 (t_place (t_variable 3 (u
    I32) (s 492 493)))) ∷ (t_convert I64 (t_place (t_variable 3 (u I32) (s 495 496)))) ∷ (t_place (t_element (ar 1 (u I64) false) (t_program_index (s
    500 512)) (v I64) (s 498 513))) ∷ [])) (v I64) (s 486 514)) Varying (s 471 514))) (s 467 514)) ∷ []) (s 463 515)) ∷ (t_declare ((t_with_value 5 (v
    U8) (t_convert U8 (t_binary op.Mul (t_convert I32 (t_unary un.Not (t_convert Truth (t_cast (t_library lib.Max I32 (t_exprs ((cn I32 5 (s 533 534))
    ∷ (t_place (t_variable 3 (u I32) (s 536 537))) ∷ [])) (u I32) (s 529 538)) (u I32) (s 528 539))) (u Truth) (s 527 539))) (t_call (t_called 1
    (t_arguments ((t_by_value (t_convert I16 (t_compare cmp.Less (t_place (t_variable 3 (u I32) (s 545 546))) (cn I32 16 (s 549 561)) Uniform (s 545
    561)))) ∷ (t_by_value (t_convert I8 (t_binary op.Or (t_place (t_variable 4 (v I32) (s 563 564))) (cn I32 5 (s 567 568)) (v I32) (s 563 568)))) ∷
    [])) (s 542 569)) (v I32)) (v I32) (s 527 569))) (s 522 569)) ∷ (t_with_value 6 (v U8) (t_convert U8 (t_program_index (s 576 588))) (s 571 588)) ∷
    []) (s 516 589)) ∷ (t_simple (t_update op.Or I32 (t_variable 3 (u I32) (s 590 591)) (t_unary un.Invert (t_place (t_variable 3 (u I32) (s 597
    598))) (u I32) (s 595 598)) (s 590 598)) (s 590 599)) ∷ (t_simple (t_assign (t_element (ar 1 (u I64) false) (t_program_index (s 602 614)) (v I64)
    (s 600 615)) (t_convert I64 (t_place (t_variable 4 (v I32) (s 618 619)))) (s 600 619)) (s 600 620)) ∷ (t_return (s 621 627) (Some (t_binary op.And
    (t_library lib.Abs I32 (t_exprs ((t_place (t_element (ar 2 (u I32) false) (t_binary op.And (t_cast (t_binary op.Shl (cn I64 4294967296 (s 635
    645)) (t_convert I64 (cn I32 2147483647 (s 649 659))) (u I64) (s 635 659)) (u I64) (s 634 660)) (t_convert I64 (cn I32 3 (s 663 664))) (u I64) (s
    634 664)) (u I32) (s 632 665))) ∷ [])) (u I32) (s 628 666)) (t_binary op.Add (cn I32 16 (s 669 681)) (cn I32 0 (s 684 685)) (u I32) (s 669 685))
    (u I32) (s 628 685))) (s 621 686)) ∷ [])) (s 461 688))) ∷ [])

abbrev arguments_20 : List Argument
arguments_20 = ((AnArray (rw I32 (2523941122 ∷ 2147483648 ∷ 525332953 ∷ 4294967287 ∷ 2147483648 ∷ 4294967291 ∷ 3 ∷ 3 ∷ 4294967288 ∷ 8 ∷ 1 ∷ 3 ∷
    2147483647 ∷ 4294967288 ∷ 4 ∷ 4 ∷ 6 ∷ 4 ∷ []))) ∷ (AnArray (rw I64 (9 ∷ 3 ∷ 18446744073709551609 ∷ 18446744073709551610 ∷ 18446744073709551611 ∷
    9223372036854775806 ∷ 12110239899052710507 ∷ 2 ∷ 18446744073709551614 ∷ 9223372036854775807 ∷ 9223372036854775808 ∷ 9223372036854775808 ∷ 0 ∷
    18446744073709551615 ∷ 18446744073709551615 ∷ 9223372036854775807 ∷ 5 ∷ []))) ∷ (AnArray (rw I32 (2147483649 ∷ 1004242678 ∷ 4294967289 ∷
    4294967288 ∷ []))) ∷ (AValue (record { elem = I32; bits = 8 })) ∷ [])

run_20_of_1 : run_of program_20 2 1 arguments_20 ≡ GoesOn ([])
unfolding digits number_to wrap_to amount not_zero
run_20_of_1 = refl

work_20_of_1 : work_of program_20 2 1 arguments_20 ≡ 33
unfolding digits number_to wrap_to amount not_zero
work_20_of_1 = refl

-- programs: print 12
-- export void f(uniform int32 a[], uniform int16 o[], uniform signed n) { int x = (int32) n; x++; while (true) { print("\\%é%z\n", 5, (n) < (n) % (9
-- | 1)); } o[programIndex] = x; }
abbrev program_21 : Program
program_21 = pr W16 ((fn None None ((vr (Given I32) false) ∷ (vr (Given I16) false) ∷ (vr (AVariable (u I32)) false) ∷ (vr (AVariable (v I32)) false)
    ∷ []) (t_braces (t_stmts ((t_declare ((t_with_value 3 (v I32) (t_cast (t_place (t_variable 2 (u I32) (s 88 89))) (u I32) (s 80 89)) (s 76 89)) ∷
    []) (s 72 90)) ∷ (t_simple (t_step op.Add I32 (t_variable 3 (v I32) (s 91 92)) (s 91 94)) (s 91 95)) ∷ (t_while Plain 4 (cn Truth 1 (s 103 107))
    (t_block (t_braces (t_stmts ((t_print (s 111 116) (92 ∷ 37 ∷ 195 ∷ 169 ∷ 37 ∷ 122 ∷ 10 ∷ []) ((cn I32 5 (s 130 131)) ∷ (t_compare cmp.Less (t_cast
    (t_place (t_variable 2 (u I32) (s 134 135))) (u I32) (s 133 136)) (t_binary op.Rem (t_cast (t_place (t_variable 2 (u I32) (s 140 141))) (u I32) (s
    139 142)) (t_cast (t_binary op.Or (cn I32 9 (s 146 147)) (cn I32 1 (s 150 151)) (u I32) (s 146 151)) (u I32) (s 145 152)) (u I32) (s 139 152))
    Uniform (s 133 152)) ∷ []) (s 111 154)) ∷ [])) (s 109 156))) (s 96 156)) ∷ (t_simple (t_assign (t_element (ar 1 (u I16) false) (t_program_index (s
    159 171)) (v I16) (s 157 172)) (t_convert I16 (t_place (t_variable 3 (v I32) (s 175 176)))) (s 157 176)) (s 157 177)) ∷ [])) (s 70 179))) ∷ [])

abbrev arguments_21 : List Argument
arguments_21 = ((AnArray (rw I32 (52867535 ∷ 2147483647 ∷ 4294967292 ∷ 4294967293 ∷ 2147483648 ∷ 3078871470 ∷ 2 ∷ 2147483649 ∷ 2147483646 ∷ 4294967291
    ∷ 2147483646 ∷ 1 ∷ 2147483649 ∷ 4294967288 ∷ 2147483646 ∷ 4272352770 ∷ 4 ∷ 2147483649 ∷ 2147483647 ∷ 4294967290 ∷ []))) ∷ (AnArray (rw I16 (65531
    ∷ 4540 ∷ 44382 ∷ 65528 ∷ 65530 ∷ 65529 ∷ 14772 ∷ 65531 ∷ 65533 ∷ 65530 ∷ 32769 ∷ 626 ∷ 65528 ∷ 32767 ∷ 65529 ∷ 65529 ∷ 65533 ∷ 32769 ∷ 4 ∷ 32769 ∷
    []))) ∷ (AValue (record { elem = I32; bits = 2147483648 })) ∷ [])

run_21_of_1 : run_of program_21 0 1 arguments_21 ≡ GoesOn (92 ∷ 53 ∷ 195 ∷ 169 ∷ 116 ∷ 114 ∷ 117 ∷ 101 ∷ 122 ∷ 10 ∷ [])
unfolding digits number_to wrap_to amount not_zero
run_21_of_1 = refl

work_21_of_1 : work_of program_21 0 1 arguments_21 ≡ 24
unfolding digits number_to wrap_to amount not_zero
work_21_of_1 = refl

-- programs: print 51
-- export uniform int32 f(uniform int a[], uniform uint16 o[], uniform uint16 n) { int x = n < - n; for (uniform int k1 = 0; k1 < 4; k1++) { --n;
-- print("é%z\n", - n >> ! k1); { uniform int k2 = 0; do { k2++; unsigned v3; } while (k2 < 3); } } { print("\n"); } a[programIndex] += x; return
-- n; }
abbrev program_22 : Program
program_22 = pr W8 ((fn (Some I32) (Some (u I32)) ((vr (Given I32) false) ∷ (vr (Given U16) false) ∷ (vr (AVariable (u U16)) false) ∷ (vr (AVariable
    (v I32)) false) ∷ (vr (AVariable (u I32)) false) ∷ (vr (AVariable (u I32)) false) ∷ (vr (AVariable (v U32)) false) ∷ []) (t_braces (t_stmts
    ((t_declare ((t_with_value 3 (v I32) (t_convert I32 (t_compare cmp.Less (t_place (t_variable 2 (u U16) (s 88 89))) (t_unary un.Negate (t_place
    (t_variable 2 (u U16) (s 94 95))) (u U16) (s 92 95)) Uniform (s 88 95))) (s 84 95)) ∷ []) (s 80 96)) ∷ (t_for Plain 4 (Some (t_first_declare
    ((t_with_value 4 (u I32) (cn I32 0 (s 119 120)) (s 114 120)) ∷ []) (s 102 120))) (Some (t_compare cmp.Less (t_place (t_variable 4 (u I32) (s 122
    124))) (cn I32 4 (s 127 128)) Uniform (s 122 128))) (Some (t_step op.Add I32 (t_variable 4 (u I32) (s 130 132)) (s 130 134))) 5 (t_block (t_braces
    (t_stmts ((t_simple (t_step op.Sub I32 (t_variable 2 (u U16) (s 140 141)) (s 138 141)) (s 138 142)) ∷ (t_print (s 143 148) (195 ∷ 169 ∷ 37 ∷ 122 ∷
    10 ∷ []) ((t_binary op.Shr (t_convert I32 (t_unary un.Negate (t_place (t_variable 2 (u U16) (s 161 162))) (u U16) (s 159 162))) (t_convert I32
    (t_unary un.Not (t_convert Truth (t_place (t_variable 4 (u I32) (s 168 170)))) (u Truth) (s 166 170))) (u I32) (s 159 170)) ∷ []) (s 143 172)) ∷
    (t_block (t_braces (t_stmts ((t_declare ((t_with_value 5 (u I32) (cn I32 0 (s 192 193)) (s 187 193)) ∷ []) (s 175 194)) ∷ (t_do Plain 6 (t_block
    (t_braces (t_stmts ((t_simple (t_step op.Add I32 (t_variable 5 (u I32) (s 200 202)) (s 200 204)) (s 200 205)) ∷ (t_declare ((t_plain 6 (v U32) (s
    216 218)) ∷ []) (s 207 219)) ∷ [])) (s 198 221))) (t_compare cmp.Less (t_place (t_variable 5 (u I32) (s 229 231))) (cn I32 3 (s 234 235)) Uniform
    (s 229 235)) (s 195 237)) ∷ [])) (s 173 239))) ∷ [])) (s 136 241))) (s 97 241)) ∷ (t_block (t_braces (t_stmts ((t_print (s 244 249) (10 ∷ []) ([])
    (s 244 256)) ∷ [])) (s 242 258))) ∷ (t_simple (t_update op.Add I32 (t_element (ar 0 (u I32) false) (t_program_index (s 261 273)) (v I32) (s 259
    274)) (t_place (t_variable 3 (v I32) (s 278 279))) (s 259 279)) (s 259 280)) ∷ (t_return (s 281 287) (Some (t_convert I32 (t_place (t_variable 2
    (u U16) (s 288 289))))) (s 281 290)) ∷ [])) (s 78 292))) ∷ [])

abbrev arguments_22 : List Argument
arguments_22 = ((AnArray (rw I32 (4294967291 ∷ 4294967292 ∷ 2476981729 ∷ 2147483646 ∷ 2 ∷ 4294967292 ∷ 8 ∷ 4294967290 ∷ 2147483648 ∷ 2147483647 ∷ 5 ∷
    2147483646 ∷ []))) ∷ (AnArray (rw U16 (52670 ∷ 65535 ∷ 0 ∷ 7 ∷ 65534 ∷ 57435 ∷ 1 ∷ 5 ∷ []))) ∷ (AValue (record { elem = U16; bits = 1 })) ∷ [])

run_22_of_1 : run_of program_22 0 1 arguments_22 ≡ GoesOn (195 ∷ 169 ∷ 48 ∷ 122 ∷ 10 ∷ [])
unfolding digits number_to wrap_to amount not_zero
run_22_of_1 = refl

work_22_of_1 : work_of program_22 0 1 arguments_22 ≡ 38
unfolding digits number_to wrap_to amount not_zero
work_22_of_1 = refl

-- programs: traps 14
-- void g0(uniform int p1) { uniform unsigned v2 = p1; } export void f(uniform int32 a[], uniform unsigned int64 o[], uniform signed int n) { int x =
-- (varying uint64) (5); print("é%=% %z\n", programIndex, 9223372036854775807, x); assert(0 > 0); foreach (i3 = 0 ... 3) { ; } o[programIndex] =
-- x; }
abbrev program_23 : Program
program_23 = pr W4 ((fn None None ((vr (AVariable (u I32)) false) ∷ (vr (AVariable (u U32)) false) ∷ []) (t_braces (t_stmts ((t_declare ((t_with_value
    1 (u U32) (t_convert U32 (t_place (t_variable 0 (u I32) (s 48 50)))) (s 43 50)) ∷ []) (s 26 51)) ∷ [])) (s 24 53))) ∷ (fn None None ((vr (Given
    I32) false) ∷ (vr (Given U64) false) ∷ (vr (AVariable (u I32)) false) ∷ (vr (AVariable (v I32)) false) ∷ (vr (AVariable (v I32)) true) ∷ [])
    (t_braces (t_stmts ((t_declare ((t_with_value 3 (v I32) (t_convert I32 (t_cast (t_convert U64 (t_cast (cn I32 5 (s 165 166)) (u I32) (s 164 167)))
    (v U64) (s 147 167))) (s 143 167)) ∷ []) (s 139 168)) ∷ (t_print (s 169 174) (195 ∷ 169 ∷ 37 ∷ 61 ∷ 37 ∷ 32 ∷ 37 ∷ 122 ∷ 10 ∷ [])
    ((t_program_index (s 189 201)) ∷ (cn I64 9223372036854775807 (s 203 222)) ∷ (t_place (t_variable 3 (v I32) (s 224 225))) ∷ []) (s 169 227)) ∷
    (t_assert (t_compare cmp.Greater (cn I32 0 (s 235 236)) (cn I32 0 (s 239 240)) Uniform (s 235 240)) (s 228 241) (s 228 242)) ∷ (t_foreach (s 243
    250) 4 ((rg 4 (cn I32 0 (s 257 258)) (cn I32 3 (s 263 264)) (s 252 264)) ∷ []) (t_block (t_braces (t_stmts ((t_block (t_braces (t_stmts ([])) (s
    268 269))) ∷ [])) (s 266 271))) (s 243 271)) ∷ (t_simple (t_assign (t_element (ar 1 (u U64) false) (t_program_index (s 274 286)) (v U64) (s 272
    287)) (t_convert U64 (t_place (t_variable 3 (v I32) (s 290 291)))) (s 272 291)) (s 272 292)) ∷ [])) (s 137 294))) ∷ [])

abbrev arguments_23 : List Argument
arguments_23 = ((AnArray (rw I32 (4 ∷ 2 ∷ 5 ∷ 4294967292 ∷ 7 ∷ 4290468888 ∷ 4294967289 ∷ 0 ∷ []))) ∷ (AnArray (rw U64 (5 ∷ 3 ∷ 2 ∷
    12462855940541863721 ∷ 0 ∷ []))) ∷ (AValue (record { elem = I32; bits = 2147483649 })) ∷ [])

run_23_of_0 : run_of program_23 1 0 arguments_23 ≡ Traps (trap kind.Assert (s 228 241) 0) ((rw I32 (4 ∷ 2 ∷ 5 ∷ 4294967292 ∷ 7 ∷ 4290468888 ∷
    4294967289 ∷ 0 ∷ [])) ∷ (rw U64 (5 ∷ 3 ∷ 2 ∷ 12462855940541863721 ∷ 0 ∷ [])) ∷ []) (195 ∷ 169 ∷ 91 ∷ 48 ∷ 44 ∷ 49 ∷ 44 ∷ 50 ∷ 44 ∷ 51 ∷ 93 ∷ 61 ∷
    57 ∷ 50 ∷ 50 ∷ 51 ∷ 51 ∷ 55 ∷ 50 ∷ 48 ∷ 51 ∷ 54 ∷ 56 ∷ 53 ∷ 52 ∷ 55 ∷ 55 ∷ 53 ∷ 56 ∷ 48 ∷ 55 ∷ 32 ∷ 91 ∷ 53 ∷ 44 ∷ 53 ∷ 44 ∷ 53 ∷ 44 ∷ 53 ∷ 93 ∷
    122 ∷ 10 ∷ [])
unfolding digits number_to wrap_to amount not_zero
run_23_of_0 = refl

work_23_of_0 : work_of program_23 1 0 arguments_23 ≡ 14
unfolding digits number_to wrap_to amount not_zero
work_23_of_0 = refl
