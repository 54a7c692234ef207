-- Calls of functions: what each program does in so many turns and what its work is, against an independent implementation.
use Rattle.std.specs.Prelude.{◌≡◌, false, List, [], ◌∷◌, Some, None}
use Rattle.std.proofs.Common.{refl}
use Rattle.std.specs.Fmt.{digits}
use Rattle.isp_base.specs.Values.{number_to, wrap_to, amount, not_zero}
use Rattle.isp_base.specs.Outcomes.{Ends, GoesOn}
use Rattle.isp_base.specs.declared.types.Gang.TheVariants.{W4, W8, W16}
use Rattle.isp_base.specs.declared.types.Elem.TheVariants.{Bool as Truth, I8, U8, I16, U16, I32, U32, I64, U64}
use Rattle.isp_base.specs.declared.types.Rate.TheVariants.{Uniform, Varying}
use Rattle.isp_base.specs.declared.operators.BinOp.TheVariants as op
use Rattle.isp_base.specs.declared.operators.UnaryOp.TheVariants as un
use Rattle.isp_base.specs.declared.operators.Compare.TheVariants as cmp
use Rattle.isp_base.specs.declared.signature.Argument.{Argument}
use Rattle.isp_base.specs.declared.signature.Argument.TheVariants.{Array as AnArray, Value as AValue}
use Rattle.isp_tree.specs.declared.stmt.Form.TheVariants.{Plain}
use Rattle.isp_typed.specs.declared.library.Library.TheVariants as lib
use Rattle.isp_typed.specs.declared.variable.Holds.TheVariants.{Value as AVariable, Given, Local}
use Rattle.isp_typed.specs.declared.variable.Logic.TheVariants as logic
use Rattle.isp_typed.specs.Typed.{t_program_index, t_place, t_convert, t_cast, t_unary, t_binary, t_compare, t_logic, t_choose, t_call, t_library, t_variable, t_element, t_by_value, t_by_name, t_called, t_arguments, t_exprs}
use Rattle.isp_typed.specs.Typed.{t_plain, t_with_value, t_with_size, t_value, t_run, t_assign, t_update, t_step, t_first_declare}
use Rattle.isp_typed.specs.Typed.{t_block, t_declare, t_simple, t_if, t_if_else, t_do, t_for, t_return, t_braces, t_stmts, Program}
use Rattle.isp_meaning.specs.Runs.{run_of, work_of}
use Rattle.isp_tests_meaning.specs.Terms.{s, u, v, cn, ar, vr, rw, fn, pr}

-- export void f(uniform signed int a[], uniform unsigned o[]) { int x = 13ll; { int k5 = programIndex; do { k5++;  ; } while (k5 < 2); } return; a[programIndex] += x; }
-- uniform int g0(bool p1, signed int p2) { { --p2; p2 = (p2); ; } return 1; }
-- int64 g1() { ; ; cif (programIndex > g0(programIndex, 0)) { ; ; } else { if (g0(4, programIndex)) return ~(! programIndex); ; ; } return -(g0(programIndex, programIndex)); }
-- varying uint16 g2(signed n4, int16 p3) { if (n4 <= 0) return ! programIndex || 6 > 9223372036854775807; p3 += g2(n4 - 1, p3 ^ programCount); return programIndex >> n4 && programIndex; p3 ^= g1() + g1(); return (programIndex) / (((!
-- programIndex | 1)) | 1); }
abbrev program_2 : Program
program_2 = pr W8 ((fn None None ((vr (Given I32) false) ∷ (vr (Given U32) false) ∷ (vr (AVariable (v I32)) false) ∷ (vr (AVariable (v I32)) false) ∷ [])
    (t_braces (t_stmts ((t_declare ((t_with_value 2 (v I32) (t_convert I32 (cn I64 13 (s 70 74))) (s 66 74)) ∷ []) (s 62 75)) ∷
    (t_block (t_braces (t_stmts ((t_declare ((t_with_value 3 (v I32) (t_program_index (s 87 99)) (s 82 99)) ∷ []) (s 78 100)) ∷
    (t_do Plain 4 (t_block (t_braces (t_stmts ((t_simple (t_step op.Add I32 (t_variable 3 (v I32) (s 106 108)) (s 106 110)) (s 106 111)) ∷ (t_block (t_braces (t_stmts ([])) (s 113 114))) ∷ [])) (s 104 116)))
    (t_compare cmp.Less (t_place (t_variable 3 (v I32) (s 124 126))) (cn I32 2 (s 129 130)) Varying (s 124 130)) (s 101 132)) ∷ [])) (s 76 134))) ∷ (t_return (s 135 141) None (s 135 142)) ∷
    (t_simple (t_update op.Add I32 (t_element (ar 0 (u I32) false) (t_program_index (s 145 157)) (v I32) (s 143 158)) (t_place (t_variable 2 (v I32) (s 162 163))) (s 143 163)) (s 143 164)) ∷ [])) (s 60 166))) ∷
    (fn (Some I32) (Some (u I32)) ((vr (AVariable (v Truth)) false) ∷ (vr (AVariable (v I32)) false) ∷ [])
    (t_braces (t_stmts ((t_block (t_braces (t_stmts ((t_simple (t_step op.Sub I32 (t_variable 1 (v I32) (s 212 214)) (s 210 214)) (s 210 215)) ∷
    (t_simple (t_assign (t_variable 1 (v I32) (s 216 218)) (t_cast (t_place (t_variable 1 (v I32) (s 222 224))) (v I32) (s 221 225)) (s 216 225)) (s 216 226)) ∷ (t_block (t_braces (t_stmts ([])) (s 227 228))) ∷ [])) (s 208 230))) ∷
    (t_return (s 231 237) (Some (cn I32 1 (s 238 239))) (s 231 240)) ∷ [])) (s 206 242))) ∷
    (fn (Some I64) (Some (v I64)) ([]) (t_braces (t_stmts
    ((t_block (t_braces (t_stmts ([])) (s 256 257))) ∷ (t_block (t_braces (t_stmts ([])) (s 258 259))) ∷
    (t_if_else Plain 0 (t_compare cmp.Greater (t_program_index (s 265 277)) (t_call (t_called 1 (t_arguments ((t_by_value (t_convert Truth (t_program_index (s 283 295)))) ∷ (t_by_value (cn I32 0 (s 297 298))) ∷ [])) (s 280 299)) (u I32)) Varying
    (s 265 299)) (t_block (t_braces (t_stmts ((t_block (t_braces (t_stmts ([])) (s 303 304))) ∷ (t_block (t_braces (t_stmts ([])) (s 305 306))) ∷ [])) (s 301 308)))
    (t_block (t_braces (t_stmts ((t_if Plain 0 (t_convert Truth (t_call (t_called 1 (t_arguments ((t_by_value (t_convert Truth (cn I32 4 (s 323 324)))) ∷ (t_by_value (t_program_index (s 326 338))) ∷ [])) (s 320 339)) (u I32)))
    (t_return (s 341 347) (Some (t_convert I64 (t_unary un.Invert (t_convert I32 (t_cast (t_unary un.Not (t_convert Truth (t_program_index (s 352 364))) (v Truth) (s 350 364)) (v Truth) (s 349 365))) (v I32) (s 348 365)))) (s 341 366))
    (s 316 366)) ∷ (t_block (t_braces (t_stmts ([])) (s 367 368))) ∷ (t_block (t_braces (t_stmts ([])) (s 369 370))) ∷ [])) (s 314 372))) (s 260 372)) ∷
    (t_return (s 373 379) (Some (t_convert I64 (t_unary un.Negate
    (t_cast (t_call (t_called 1 (t_arguments ((t_by_value (t_convert Truth (t_program_index (s 385 397)))) ∷ (t_by_value (t_program_index (s 399 411))) ∷ [])) (s 382 412)) (u I32)) (u I32) (s 381 413)) (u I32) (s 380 413)))) (s 373 414)) ∷ []))
    (s 254 416))) ∷ (fn (Some U16) (Some (v U16)) ((vr (AVariable (v I32)) false) ∷ (vr (AVariable (v I16)) false) ∷ [])
    (t_braces (t_stmts ((t_if Plain 2 (t_compare cmp.LessOrEqual (t_place (t_variable 0 (v I32) (s 462 464))) (cn I32 0 (s 468 469)) Varying (s 462 469))
    (t_return (s 471 477) (Some (t_convert U16 (t_logic logic.Or (t_unary un.Not (t_convert Truth (t_program_index (s 480 492))) (v Truth) (s 478 492))
    (t_compare cmp.Greater (t_convert I64 (cn I32 6 (s 496 497))) (cn I64 9223372036854775807 (s 500 519)) Uniform (s 496 519)) Varying (s 478 519)))) (s 471 520)) (s 458 520)) ∷
    (t_simple (t_update op.Add U16 (t_variable 1 (v I16) (s 521 523))
    (t_call (t_called 3 (t_arguments ((t_by_value (t_binary op.Sub (t_place (t_variable 0 (v I32) (s 530 532))) (cn I32 1 (s 535 536)) (v I32) (s 530 536))) ∷
    (t_by_value (t_convert I16 (t_binary op.Xor (t_convert I32 (t_place (t_variable 1 (v I16) (s 538 540)))) (cn I32 8 (s 543 555)) (v I32) (s 538 555)))) ∷ [])) (s 527 556)) (v U16)) (s 521 556)) (s 521 557)) ∷
    (t_return (s 558 564) (Some (t_convert U16 (t_logic logic.And (t_convert Truth (t_binary op.Shr (t_program_index (s 565 577)) (t_place (t_variable 0 (v I32) (s 581 583))) (v I32) (s 565 583))) (t_convert Truth (t_program_index (s 587 599)))
    Varying (s 565 599)))) (s 558 600)) ∷ (t_simple (t_update op.Xor I64 (t_variable 1 (v I16) (s 601 603))
    (t_binary op.Add (t_call (t_called 2 (t_arguments ([])) (s 607 611)) (v I64)) (t_call (t_called 2 (t_arguments ([])) (s 614 618)) (v I64)) (v I64) (s 607 618)) (s 601 618)) (s 601 619)) ∷
    (t_return (s 620 626) (Some (t_convert U16 (t_binary op.Div (t_cast (t_program_index (s 628 640)) (v I32) (s 627 641))
    (t_cast (t_binary op.Or (t_cast (t_cast (t_binary op.Or (t_convert I32 (t_unary un.Not (t_convert Truth (t_program_index (s 649 661))) (v Truth) (s 647 661))) (cn I32 1 (s 664 665)) (v I32) (s 647 665)) (v I32) (s 646 666)) (v I32)
    (s 645 667)) (cn I32 1 (s 670 671)) (v I32) (s 645 671)) (v I32) (s 644 672)) (v I32) (s 627 672)))) (s 620 673)) ∷ [])) (s 456 675))) ∷ [])

abbrev arguments_2 : List Argument
arguments_2 = ((AnArray (rw I32 (4294967289 ∷ 4294967292 ∷ 4294967291 ∷ 5 ∷ 2147483649 ∷ 4294967290 ∷ 9 ∷ 2147483649 ∷ 5 ∷ 4294967294 ∷ []))) ∷ (AnArray (rw U32 (9 ∷ 3118251561 ∷ 3734979843 ∷ 7 ∷ 6 ∷ 0 ∷ 2 ∷ 4 ∷ []))) ∷ [])

run_2_of_0 : run_of program_2 0 0 arguments_2 ≡ GoesOn ([])
unfolding digits number_to wrap_to amount not_zero
run_2_of_0 = refl

work_2_of_0 : work_of program_2 0 0 arguments_2 ≡ 9
unfolding digits number_to wrap_to amount not_zero
work_2_of_0 = refl

run_2_of_1 : run_of program_2 0 1 arguments_2 ≡ GoesOn ([])
unfolding digits number_to wrap_to amount not_zero
run_2_of_1 = refl

work_2_of_1 : work_of program_2 0 1 arguments_2 ≡ 17
unfolding digits number_to wrap_to amount not_zero
work_2_of_1 = refl

run_2_of_2 : run_of program_2 0 2 arguments_2 ≡ Ends ((rw I32 (4294967289 ∷ 4294967292 ∷ 4294967291 ∷ 5 ∷ 2147483649 ∷ 4294967290 ∷ 9 ∷ 2147483649 ∷ 5 ∷ 4294967294 ∷ [])) ∷ (rw U32 (9 ∷ 3118251561 ∷ 3734979843 ∷ 7 ∷ 6 ∷ 0 ∷ 2 ∷ 4 ∷ [])) ∷ [])
    None ([])
unfolding digits number_to wrap_to amount not_zero
run_2_of_2 = refl

work_2_of_2 : work_of program_2 0 2 arguments_2 ≡ 26
unfolding digits number_to wrap_to amount not_zero
work_2_of_2 = refl

-- bool g0(uniform int16 p1, signed p2) { p2--; return (signed int) p2; }
-- uint16 g1(int32 p3, int32 p4) { p4 = - p3; return -(programIndex * programIndex); return (0x4b6be6e8ddd7b2fa ? 33ll : programIndex); }
-- uniform unsigned int16 g2() { cif (2 ^ 4) { g1(programIndex < programIndex, min(programIndex, programIndex)); ; ; } else { ; ; g0(2147483647 >= 0x7e70dcc, !(programIndex)); } return -(~(5)); }
-- export void f(uniform signed int a[], uniform int16 o[], uniform int32 n) { int x = programIndex + g0(74ULL, n); int v5 = (92ll); v5 += g2(); uniform bool t6[2]; uniform signed int t7[5]; uniform int64 v8 = g2(), v9 = v8; a[programIndex] += x; }
abbrev program_22 : Program
program_22 = pr W4 ((fn (Some Truth) (Some (v Truth)) ((vr (AVariable (u I16)) false) ∷ (vr (AVariable (v I32)) false) ∷ [])
    (t_braces (t_stmts ((t_simple (t_step op.Sub I32 (t_variable 1 (v I32) (s 39 41)) (s 39 43)) (s 39 44)) ∷ (t_return (s 45 51) (Some (t_convert Truth (t_cast (t_place (t_variable 1 (v I32) (s 65 67))) (v I32) (s 52 67)))) (s 45 68)) ∷ []))
    (s 37 70))) ∷ (fn (Some U16) (Some (v U16)) ((vr (AVariable (v I32)) false) ∷ (vr (AVariable (v I32)) false) ∷ [])
    (t_braces (t_stmts ((t_simple (t_assign (t_variable 1 (v I32) (s 103 105)) (t_unary un.Negate (t_place (t_variable 0 (v I32) (s 110 112))) (v I32) (s 108 112)) (s 103 112)) (s 103 113)) ∷
    (t_return (s 114 120) (Some (t_convert U16 (t_unary un.Negate (t_cast (t_binary op.Mul (t_program_index (s 123 135)) (t_program_index (s 138 150)) (v I32) (s 123 150)) (v I32) (s 122 151)) (v I32) (s 121 151)))) (s 114 152)) ∷
    (t_return (s 153 159) (Some (t_convert U16 (t_cast (t_choose (t_convert Truth (cn I64 5434691263181337338 (s 161 179))) (cn I64 33 (s 182 186)) (t_convert I64 (t_program_index (s 189 201))) (v I64) (s 161 201)) (v I64) (s 160 202))))
    (s 153 203)) ∷ [])) (s 101 205))) ∷ (fn (Some U16) (Some (u U16)) ([])
    (t_braces (t_stmts ((t_if_else Plain 0 (t_convert Truth (t_binary op.Xor (cn I32 2 (s 241 242)) (cn I32 4 (s 245 246)) (u I32) (s 241 246)))
    (t_block (t_braces (t_stmts ((t_simple (t_value (t_call
    (t_called 1 (t_arguments ((t_by_value (t_convert I32 (t_compare cmp.Less (t_program_index (s 253 265)) (t_program_index (s 268 280)) Varying (s 253 280)))) ∷
    (t_by_value (t_library lib.Min I32 (t_exprs ((t_program_index (s 286 298)) ∷ (t_program_index (s 300 312)) ∷ [])) (v I32) (s 282 313))) ∷ [])) (s 250 314)) (v U16))) (s 250 315)) ∷ (t_block (t_braces (t_stmts ([])) (s 316 317))) ∷
    (t_block (t_braces (t_stmts ([])) (s 318 319))) ∷ [])) (s 248 321)))
    (t_block (t_braces (t_stmts ((t_block (t_braces (t_stmts ([])) (s 329 330))) ∷ (t_block (t_braces (t_stmts ([])) (s 331 332))) ∷
    (t_simple (t_value (t_call (t_called 0 (t_arguments
    ((t_by_value (t_convert I16 (t_compare cmp.GreaterOrEqual (cn I32 2147483647 (s 336 346)) (cn I32 132582860 (s 350 359)) Uniform (s 336 359)))) ∷
    (t_by_value (t_convert I32 (t_unary un.Not (t_convert Truth (t_cast (t_program_index (s 363 375)) (v I32) (s 362 376))) (v Truth) (s 361 376)))) ∷ [])) (s 333 377)) (v Truth))) (s 333 378)) ∷ [])) (s 327 380))) (s 236 380)) ∷
    (t_return (s 381 387) (Some (t_convert U16 (t_unary un.Negate (t_cast (t_unary un.Invert (t_cast (cn I32 5 (s 392 393)) (u I32) (s 391 394)) (u I32) (s 390 394)) (u I32) (s 389 395)) (u I32) (s 388 395)))) (s 381 396)) ∷ [])) (s 234 398))) ∷
    (fn None None ((vr (Given I32) false) ∷ (vr (Given I16) false) ∷ (vr (AVariable (u I32)) false) ∷ (vr (AVariable (v I32)) false) ∷ (vr (AVariable (v I32)) false) ∷ (vr (Local (u Truth) 2) false) ∷ (vr (Local (u I32) 5) false) ∷
    (vr (AVariable (u I64)) false) ∷ (vr (AVariable (u I64)) false) ∷ [])
    (t_braces (t_stmts ((t_declare ((t_with_value 3 (v I32)
    (t_binary op.Add (t_program_index (s 483 495)) (t_convert I32 (t_call (t_called 0 (t_arguments ((t_by_value (t_convert I16 (cn U64 74 (s 501 506)))) ∷ (t_by_value (t_place (t_variable 2 (u I32) (s 508 509)))) ∷ [])) (s 498 510)) (v Truth)))
    (v I32) (s 483 510)) (s 479 510)) ∷ []) (s 475 511)) ∷ (t_declare ((t_with_value 4 (v I32) (t_convert I32 (t_cast (cn I64 92 (s 522 526)) (u I64) (s 521 527))) (s 516 527)) ∷ []) (s 512 528)) ∷
    (t_simple (t_update op.Add I32 (t_variable 4 (v I32) (s 529 531)) (t_convert I32 (t_call (t_called 2 (t_arguments ([])) (s 535 539)) (u U16))) (s 529 539)) (s 529 540)) ∷
    (t_declare ((t_with_size (ar 5 (u Truth) false) (s 554 559)) ∷ []) (s 541 560)) ∷ (t_declare ((t_with_size (ar 6 (u I32) false) (s 580 585)) ∷ []) (s 561 586)) ∷
    (t_declare ((t_with_value 7 (u I64) (t_convert I64 (t_call (t_called 2 (t_arguments ([])) (s 606 610)) (u U16))) (s 601 610)) ∷ (t_with_value 8 (u I64) (t_place (t_variable 7 (u I64) (s 617 619))) (s 612 619)) ∷ []) (s 587 620)) ∷
    (t_simple (t_update op.Add I32 (t_element (ar 0 (u I32) false) (t_program_index (s 623 635)) (v I32) (s 621 636)) (t_place (t_variable 3 (v I32) (s 640 641))) (s 621 641)) (s 621 642)) ∷ [])) (s 473 644))) ∷ [])

abbrev arguments_22 : List Argument
arguments_22 = ((AnArray (rw I32 (2147483646 ∷ 4294967293 ∷ 4294967294 ∷ 4294967290 ∷ 4294967289 ∷ 132177705 ∷ []))) ∷ (AnArray (rw I16 (65527 ∷ 32767 ∷ 32766 ∷ 7 ∷ []))) ∷ (AValue (record { elem = I32; bits = 4294967293 })) ∷ [])

run_22_of_0 : run_of program_22 3 0 arguments_22 ≡ Ends ((rw I32 (2147483647 ∷ 4294967295 ∷ 1 ∷ 4294967294 ∷ 4294967289 ∷ 132177705 ∷ [])) ∷ (rw I16 (65527 ∷ 32767 ∷ 32766 ∷ 7 ∷ [])) ∷ []) None ([])
unfolding digits number_to wrap_to amount not_zero
run_22_of_0 = refl

work_22_of_0 : work_of program_22 3 0 arguments_22 ≡ 100
unfolding digits number_to wrap_to amount not_zero
work_22_of_0 = refl

-- uniform unsigned int g0(varying signed int8 p1) { { uniform uint8 v2; v2 <<= 47l; } p1 = p1 < p1 || programCount >= p1; return select(true, (0x5b71fb583a5f6252), - 7); }
-- void g1() { uniform int v3 = ~ g0(programCount) & abs(64ULL), v4 = (4) % (0xc0a5c79d2b89c8f4u | 1); }
-- unsigned int16 g2(signed n5) { if (n5 <= 0) return ((programIndex) / (n5 | 1)); g2(n5 - 1); g1(); return g0(g0(n5)); }
-- export void f(uniform int a[], uniform int16 o[], uniform unsigned int8 n) { int x = (o[(programIndex ^ (g0(7))) & 3] ? programIndex : n) & programCount + o[programIndex]; x ^= max((int64) g0(n), g2((programCount) & 3)); { ++x; }
-- o[programIndex] = x; }
abbrev program_23 : Program
program_23 = pr W4 ((fn (Some U32) (Some (u U32)) ((vr (AVariable (v I8)) false) ∷ (vr (AVariable (u U8)) false) ∷ [])
    (t_braces (t_stmts ((t_block (t_braces (t_stmts ((t_declare ((t_plain 1 (u U8) (s 66 68)) ∷ []) (s 52 69)) ∷ (t_simple (t_update op.Shl I64 (t_variable 1 (u U8) (s 70 72)) (cn I64 47 (s 77 80)) (s 70 80)) (s 70 81)) ∷ [])) (s 50 83))) ∷
    (t_simple (t_assign (t_variable 0 (v I8) (s 84 86))
    (t_convert I8 (t_logic logic.Or (t_compare cmp.Less (t_place (t_variable 0 (v I8) (s 89 91))) (t_place (t_variable 0 (v I8) (s 94 96))) Varying (s 89 96))
    (t_compare cmp.GreaterOrEqual (cn I32 4 (s 100 112)) (t_convert I32 (t_place (t_variable 0 (v I8) (s 116 118)))) Varying (s 100 118)) Varying (s 89 118))) (s 84 118)) (s 84 119)) ∷
    (t_return (s 120 126) (Some (t_convert U32 (t_library lib.Select I64
    (t_exprs ((cn Truth 1 (s 134 138)) ∷ (t_cast (cn I64 6589324086174769746 (s 141 159)) (u I64) (s 140 160)) ∷ (t_convert I64 (t_unary un.Negate (cn I32 7 (s 164 165)) (u I32) (s 162 165))) ∷ [])) (u I64) (s 127 166)))) (s 120 167)) ∷ []))
    (s 48 169))) ∷ (fn None None ((vr (AVariable (u I32)) false) ∷ (vr (AVariable (u I32)) false) ∷ [])
    (t_braces (t_stmts ((t_declare ((t_with_value 0 (u I32)
    (t_convert I32 (t_binary op.And (t_convert U64 (t_unary un.Invert (t_call (t_called 0 (t_arguments ((t_by_value (t_convert I8 (cn I32 4 (s 204 216)))) ∷ [])) (s 201 217)) (u U32)) (u U32) (s 199 217)))
    (t_library lib.Abs U64 (t_exprs ((cn U64 64 (s 224 229)) ∷ [])) (u U64) (s 220 230)) (u U64) (s 199 230))) (s 194 230)) ∷
    (t_with_value 1 (u I32) (t_convert I32 (t_binary op.Rem (t_convert U64 (t_cast (cn I32 4 (s 238 239)) (u I32) (s 237 240)))
    (t_cast (t_binary op.Or (cn U64 13881720904293665012 (s 244 263)) (t_convert U64 (cn I32 1 (s 266 267))) (u U64) (s 244 267)) (u U64) (s 243 268)) (u U64) (s 237 268))) (s 232 268)) ∷ []) (s 182 269)) ∷ [])) (s 180 271))) ∷
    (fn (Some U16) (Some (v U16)) ((vr (AVariable (v I32)) false) ∷ [])
    (t_braces (t_stmts ((t_if Plain 1 (t_compare cmp.LessOrEqual (t_place (t_variable 0 (v I32) (s 307 309))) (cn I32 0 (s 313 314)) Varying (s 307 314))
    (t_return (s 316 322) (Some (t_convert U16 (t_cast
    (t_binary op.Div (t_cast (t_program_index (s 325 337)) (v I32) (s 324 338)) (t_cast (t_binary op.Or (t_place (t_variable 0 (v I32) (s 342 344))) (cn I32 1 (s 347 348)) (v I32) (s 342 348)) (v I32) (s 341 349)) (v I32) (s 324 349)) (v I32)
    (s 323 350)))) (s 316 351)) (s 303 351)) ∷ (t_simple
    (t_value (t_call (t_called 2 (t_arguments ((t_by_value (t_binary op.Sub (t_place (t_variable 0 (v I32) (s 355 357))) (cn I32 1 (s 360 361)) (v I32) (s 355 361))) ∷ [])) (s 352 362)) (v U16))) (s 352 363)) ∷
    (t_simple (t_run (t_called 1 (t_arguments ([])) (s 364 368))) (s 364 369)) ∷
    (t_return (s 370 376) (Some (t_convert U16 (t_call
    (t_called 0 (t_arguments ((t_by_value (t_convert I8 (t_call (t_called 0 (t_arguments ((t_by_value (t_convert I8 (t_place (t_variable 0 (v I32) (s 383 385))))) ∷ [])) (s 380 386)) (u U32)))) ∷ [])) (s 377 387)) (u U32)))) (s 370 388)) ∷ []))
    (s 301 390))) ∷ (fn None None ((vr (Given I32) false) ∷ (vr (Given I16) false) ∷ (vr (AVariable (u U8)) false) ∷ (vr (AVariable (v I32)) false) ∷ [])
    (t_braces (t_stmts ((t_declare ((t_with_value 3 (v I32)
    (t_binary op.And (t_cast (t_choose (t_convert Truth
    (t_place (t_element (ar 1 (u I16) false) (t_binary op.And
    (t_cast (t_binary op.Xor (t_convert U32 (t_program_index (s 480 492))) (t_cast (t_call (t_called 0 (t_arguments ((t_by_value (t_convert I8 (cn I32 7 (s 499 500)))) ∷ [])) (s 496 501)) (u U32)) (u U32) (s 495 502)) (v U32) (s 480 502))
    (v U32) (s 479 503)) (t_convert U32 (cn I32 3 (s 506 507))) (v U32) (s 479 507)) (v I16) (s 477 508)))) (t_program_index (s 511 523)) (t_convert I32 (t_place (t_variable 2 (u U8) (s 526 527)))) (v I32) (s 477 527)) (v I32) (s 476 528))
    (t_binary op.Add (cn I32 4 (s 531 543)) (t_convert I32 (t_place (t_element (ar 1 (u I16) false) (t_program_index (s 548 560)) (v I16) (s 546 561)))) (v I32) (s 531 561)) (v I32) (s 476 561)) (s 472 561)) ∷ []) (s 468 562)) ∷
    (t_simple (t_update op.Xor I64 (t_variable 3 (v I32) (s 563 564))
    (t_library lib.Max I64 (t_exprs ((t_cast (t_convert I64 (t_call (t_called 0 (t_arguments ((t_by_value (t_convert I8 (t_place (t_variable 2 (u U8) (s 583 584))))) ∷ [])) (s 580 585)) (u U32))) (u I64) (s 572 585)) ∷
    (t_convert I64 (t_call (t_called 2 (t_arguments ((t_by_value (t_binary op.And (t_cast (cn I32 4 (s 591 603)) (u I32) (s 590 604)) (cn I32 3 (s 607 608)) (u I32) (s 590 608))) ∷ [])) (s 587 609)) (v U16))) ∷ [])) (v I64) (s 568 610))
    (s 563 610)) (s 563 611)) ∷ (t_block (t_braces (t_stmts ((t_simple (t_step op.Add I32 (t_variable 3 (v I32) (s 616 617)) (s 614 617)) (s 614 618)) ∷ [])) (s 612 620))) ∷
    (t_simple (t_assign (t_element (ar 1 (u I16) false) (t_program_index (s 623 635)) (v I16) (s 621 636)) (t_convert I16 (t_place (t_variable 3 (v I32) (s 639 640)))) (s 621 640)) (s 621 641)) ∷ [])) (s 466 643))) ∷ [])

abbrev arguments_23 : List Argument
arguments_23 = ((AnArray (rw I32 (2147483647 ∷ 2111349563 ∷ 2 ∷ 2147483648 ∷ 4294967290 ∷ 4294967290 ∷ 1175897350 ∷ 1150311701 ∷ []))) ∷ (AnArray (rw I16 (4 ∷ 32769 ∷ 32768 ∷ 65535 ∷ []))) ∷ (AValue (record { elem = U8; bits = 8 })) ∷ [])

run_23_of_0 : run_of program_23 3 0 arguments_23 ≡ Ends ((rw I32 (2147483647 ∷ 2111349563 ∷ 2 ∷ 2147483648 ∷ 4294967290 ∷ 4294967290 ∷ 1175897350 ∷ 1150311701 ∷ [])) ∷ (rw I16 (25171 ∷ 25172 ∷ 25171 ∷ 25170 ∷ [])) ∷ []) None ([])
unfolding digits number_to wrap_to amount not_zero
run_23_of_0 = refl

work_23_of_0 : work_of program_23 3 0 arguments_23 ≡ 98
unfolding digits number_to wrap_to amount not_zero
work_23_of_0 = refl

-- signed int g0() { int32 v1 = (2 && programIndex > programIndex) % 3; return v1; }
-- bool g1() { return (uint16) programIndex; return ~ programIndex; }
-- void g2(uniform int64 p2, uniform int32 b3[]) { ++p2; b3[(p2 >= b3[(0 != 8) & 3]) & 3] <<= (uint) min(p2 && 5, p2 < p2); if (! 127) { p2 += (p2) > p2; } else { p2 >>= - ((uniform unsigned int64) p2 ? (b3[3]) : p2); } }
-- export uniform int32 f(uniform signed a[], uniform int32 o[], uniform int n) { int x = (g0() ? o[(programIndex <= o[(programIndex ^ (g0())) & 3]) & 3] != 2147483648 : g0()); o[programIndex] = x; if (g1()) { int32 t4[5]; } a[programIndex] +=
-- x; return n != n; }
abbrev program_40 : Program
program_40 = pr W4 ((fn (Some I32) (Some (v I32)) ((vr (AVariable (v I32)) false) ∷ [])
    (t_braces (t_stmts ((t_declare ((t_with_value 0 (v I32)
    (t_binary op.Rem (t_convert I32 (t_cast (t_logic logic.And (t_convert Truth (cn I32 2 (s 30 31))) (t_compare cmp.Greater (t_program_index (s 35 47)) (t_program_index (s 50 62)) Varying (s 35 62)) Varying (s 30 62)) (v Truth) (s 29 63)))
    (cn I32 3 (s 66 67)) (v I32) (s 29 67)) (s 24 67)) ∷ []) (s 18 68)) ∷ (t_return (s 69 75) (Some (t_place (t_variable 0 (v I32) (s 76 78)))) (s 69 79)) ∷ [])) (s 16 81))) ∷
    (fn (Some Truth) (Some (v Truth)) ([]) (t_braces
    (t_stmts ((t_return (s 94 100) (Some (t_convert Truth (t_cast (t_convert U16 (t_program_index (s 110 122))) (v U16) (s 101 122)))) (s 94 123)) ∷
    (t_return (s 124 130) (Some (t_convert Truth (t_unary un.Invert (t_program_index (s 133 145)) (v I32) (s 131 145)))) (s 124 146)) ∷ [])) (s 92 148))) ∷
    (fn None None ((vr (AVariable (u I64)) false) ∷ (vr (Given I32) false) ∷ [])
    (t_braces (t_stmts ((t_simple (t_step op.Add I64 (t_variable 0 (u I64) (s 199 201)) (s 197 201)) (s 197 202)) ∷
    (t_simple (t_update op.Shl U32 (t_element (ar 1 (u I32) false)
    (t_binary op.And (t_convert I32 (t_cast (t_compare cmp.GreaterOrEqual (t_place (t_variable 0 (u I64) (s 207 209)))
    (t_convert I64 (t_place (t_element (ar 1 (u I32) false)
    (t_binary op.And (t_convert I32 (t_cast (t_compare cmp.NotEqual (cn I32 0 (s 217 218)) (cn I32 8 (s 222 223)) Uniform (s 217 223)) (u Truth) (s 216 224))) (cn I32 3 (s 227 228)) (u I32) (s 216 228)) (u I32) (s 213 229)))) Uniform
    (s 207 229)) (u Truth) (s 206 230))) (cn I32 3 (s 233 234)) (u I32) (s 206 234)) (u I32) (s 203 235))
    (t_cast (t_convert U32 (t_library lib.Min I32 (t_exprs
    ((t_convert I32 (t_logic logic.And (t_convert Truth (t_place (t_variable 0 (u I64) (s 251 253)))) (t_convert Truth (cn I32 5 (s 257 258))) Uniform (s 251 258))) ∷
    (t_convert I32 (t_compare cmp.Less (t_place (t_variable 0 (u I64) (s 260 262))) (t_place (t_variable 0 (u I64) (s 265 267))) Uniform (s 260 267))) ∷ [])) (u I32) (s 247 268))) (u U32) (s 240 268)) (s 203 268)) (s 203 269)) ∷
    (t_if_else Plain 2 (t_unary un.Not (t_convert Truth (cn I32 127 (s 276 279))) (u Truth) (s 274 279))
    (t_block (t_braces (t_stmts ((t_simple (t_update op.Add I64 (t_variable 0 (u I64) (s 283 285))
    (t_convert I64 (t_compare cmp.Greater (t_cast (t_place (t_variable 0 (u I64) (s 290 292))) (u I64) (s 289 293)) (t_place (t_variable 0 (u I64) (s 296 298))) Uniform (s 289 298))) (s 283 298)) (s 283 299)) ∷ [])) (s 281 301)))
    (t_block (t_braces (t_stmts ((t_simple (t_update op.Shr I64 (t_variable 0 (u I64) (s 309 311))
    (t_unary un.Negate (t_cast (t_choose (t_convert Truth (t_cast (t_convert U64 (t_place (t_variable 0 (u I64) (s 344 346)))) (u U64) (s 319 346)))
    (t_convert I64 (t_cast (t_place (t_element (ar 1 (u I32) false) (cn I32 3 (s 353 354)) (u I32) (s 350 355))) (u I32) (s 349 356))) (t_place (t_variable 0 (u I64) (s 359 361))) (u I64) (s 319 361)) (u I64) (s 318 362)) (u I64) (s 316 362))
    (s 309 362)) (s 309 363)) ∷ [])) (s 307 365))) (s 270 365)) ∷ [])) (s 195 367))) ∷
    (fn (Some I32) (Some (u I32)) ((vr (Given I32) false) ∷ (vr (Given I32) false) ∷ (vr (AVariable (u I32)) false) ∷ (vr (AVariable (v I32)) false) ∷ (vr (Local (v I32) 5) false) ∷ [])
    (t_braces (t_stmts ((t_declare ((t_with_value 3 (v I32)
    (t_cast (t_choose (t_convert Truth (t_call (t_called 0 (t_arguments ([])) (s 456 460)) (v I32)))
    (t_convert I32 (t_compare cmp.NotEqual (t_convert I64
    (t_place (t_element (ar 1 (u I32) false) (t_binary op.And
    (t_convert I32 (t_cast (t_compare cmp.LessOrEqual (t_program_index (s 466 478))
    (t_place (t_element (ar 1 (u I32) false) (t_binary op.And
    (t_cast (t_binary op.Xor (t_program_index (s 485 497)) (t_cast (t_call (t_called 0 (t_arguments ([])) (s 501 505)) (v I32)) (v I32) (s 500 506)) (v I32) (s 485 506)) (v I32) (s 484 507)) (cn I32 3 (s 510 511)) (v I32) (s 484 511)) (v I32)
    (s 482 512))) Varying (s 466 512)) (v Truth) (s 465 513))) (cn I32 3 (s 516 517)) (v I32) (s 465 517)) (v I32) (s 463 518)))) (cn I64 2147483648 (s 522 532)) Varying (s 463 532))) (t_call (t_called 0 (t_arguments ([])) (s 535 539)) (v I32))
    (v I32) (s 456 539)) (v I32) (s 455 540)) (s 451 540)) ∷ []) (s 447 541)) ∷
    (t_simple (t_assign (t_element (ar 1 (u I32) false) (t_program_index (s 544 556)) (v I32) (s 542 557)) (t_place (t_variable 3 (v I32) (s 560 561))) (s 542 561)) (s 542 562)) ∷
    (t_if Plain 4 (t_call (t_called 1 (t_arguments ([])) (s 567 571)) (v Truth)) (t_block (t_braces (t_stmts ((t_declare ((t_with_size (ar 4 (v I32) false) (s 581 586)) ∷ []) (s 575 587)) ∷ [])) (s 573 589))) (s 563 589)) ∷
    (t_simple (t_update op.Add I32 (t_element (ar 0 (u I32) false) (t_program_index (s 592 604)) (v I32) (s 590 605)) (t_place (t_variable 3 (v I32) (s 609 610))) (s 590 610)) (s 590 611)) ∷
    (t_return (s 612 618) (Some (t_convert I32 (t_compare cmp.NotEqual (t_place (t_variable 2 (u I32) (s 619 620))) (t_place (t_variable 2 (u I32) (s 624 625))) Uniform (s 619 625)))) (s 612 626)) ∷ [])) (s 445 628))) ∷ [])

abbrev arguments_40 : List Argument
arguments_40 = ((AnArray (rw I32 (2381968933 ∷ 2147483647 ∷ 2147483648 ∷ 2 ∷ []))) ∷ (AnArray (rw I32 (1 ∷ 4 ∷ 4294967292 ∷ 1 ∷ []))) ∷ (AValue (record { elem = I32; bits = 6 })) ∷ [])

run_40_of_0 : run_of program_40 3 0 arguments_40 ≡ Ends ((rw I32 (2381968933 ∷ 2147483647 ∷ 2147483648 ∷ 2 ∷ [])) ∷ (rw I32 (0 ∷ 0 ∷ 0 ∷ 0 ∷ [])) ∷ []) (Some (record { elem = I32; bits = 0 })) ([])
unfolding digits number_to wrap_to amount not_zero
run_40_of_0 = refl

work_40_of_0 : work_of program_40 3 0 arguments_40 ≡ 54
unfolding digits number_to wrap_to amount not_zero
work_40_of_0 = refl

-- int32 g0(varying int16 p1) { 2; ; ; return (int32) (uint64) p1; }
-- void g1(varying bool p2, uniform signed int p3) { if (g0((programIndex))) { if (g0(p2)) return; g0(0 || programIndex); p2 = ~ programIndex * p2 ^ p2; } else { g0(p3); if (8 <= 7) return; } g0(programIndex * programIndex); }
-- void g2() { signed v4, v5 = g0(v4) + 255 >> min(programIndex, v4) - (unsigned int) 0; cif (abs((varying signed) 7)) { int32 t6[5]; v5 = g0(v4 * v4) <= v4; v4 -= !(v5); } g0(! programIndex); }
-- export void f(uniform signed int a[], uniform int8 o[], uniform int16 n) { int x = g0(n >> 0); programIndex; ; --n; a[programIndex] += x; }
abbrev program_60 : Program
program_60 = pr W16 ((fn (Some I32) (Some (v I32)) ((vr (AVariable (v I16)) false) ∷ [])
    (t_braces (t_stmts ((t_simple (t_value (cn I32 2 (s 29 30))) (s 29 31)) ∷ (t_block (t_braces (t_stmts ([])) (s 32 33))) ∷ (t_block (t_braces (t_stmts ([])) (s 34 35))) ∷
    (t_return (s 36 42) (Some (t_cast (t_convert I32 (t_cast (t_convert U64 (t_place (t_variable 0 (v I16) (s 60 62)))) (v U64) (s 51 62))) (v I32) (s 43 62))) (s 36 63)) ∷ [])) (s 27 65))) ∷
    (fn None None ((vr (AVariable (v Truth)) false) ∷ (vr (AVariable (u I32)) false) ∷ [])
    (t_braces (t_stmts ((t_if_else Plain 2 (t_convert Truth (t_call (t_called 0 (t_arguments ((t_by_value (t_convert I16 (t_cast (t_program_index (s 124 136)) (v I32) (s 123 137)))) ∷ [])) (s 120 138)) (v I32)))
    (t_block (t_braces (t_stmts ((t_if Plain 2 (t_convert Truth (t_call (t_called 0 (t_arguments ((t_by_value (t_convert I16 (t_place (t_variable 0 (v Truth) (s 149 151))))) ∷ [])) (s 146 152)) (v I32))) (t_return (s 154 160) None (s 154 161))
    (s 142 161)) ∷ (t_simple (t_value (t_call (t_called 0 (t_arguments ((t_by_value (t_convert I16 (t_logic logic.Or (t_convert Truth (cn I32 0 (s 165 166))) (t_convert Truth (t_program_index (s 170 182))) Varying (s 165 182)))) ∷ []))
    (s 162 183)) (v I32))) (s 162 184)) ∷ (t_simple (t_assign (t_variable 0 (v Truth) (s 185 187))
    (t_convert Truth (t_binary op.Xor (t_binary op.Mul (t_unary un.Invert (t_program_index (s 192 204)) (v I32) (s 190 204)) (t_convert I32 (t_place (t_variable 0 (v Truth) (s 207 209)))) (v I32) (s 190 209))
    (t_convert I32 (t_place (t_variable 0 (v Truth) (s 212 214)))) (v I32) (s 190 214))) (s 185 214)) (s 185 215)) ∷ [])) (s 140 217)))
    (t_block (t_braces (t_stmts ((t_simple (t_value (t_call (t_called 0 (t_arguments ((t_by_value (t_convert I16 (t_place (t_variable 1 (u I32) (s 228 230))))) ∷ [])) (s 225 231)) (v I32))) (s 225 232)) ∷
    (t_if Plain 2 (t_compare cmp.LessOrEqual (cn I32 8 (s 237 238)) (cn I32 7 (s 242 243)) Uniform (s 237 243)) (t_return (s 245 251) None (s 245 252)) (s 233 252)) ∷ [])) (s 223 254))) (s 116 254)) ∷
    (t_simple (t_value (t_call (t_called 0 (t_arguments ((t_by_value (t_convert I16 (t_binary op.Mul (t_program_index (s 258 270)) (t_program_index (s 273 285)) (v I32) (s 258 285)))) ∷ [])) (s 255 286)) (v I32))) (s 255 287)) ∷ []))
    (s 114 289))) ∷ (fn None None ((vr (AVariable (v I32)) false) ∷ (vr (AVariable (v I32)) false) ∷ (vr (Local (v I32) 5) false) ∷ [])
    (t_braces (t_stmts ((t_declare ((t_plain 0 (v I32) (s 309 311)) ∷
    (t_with_value 1 (v I32) (t_convert I32 (t_binary op.Shr
    (t_convert U32 (t_binary op.Add (t_call (t_called 0 (t_arguments ((t_by_value (t_convert I16 (t_place (t_variable 0 (v I32) (s 321 323))))) ∷ [])) (s 318 324)) (v I32)) (cn I32 255 (s 327 330)) (v I32) (s 318 330)))
    (t_binary op.Sub (t_convert U32 (t_library lib.Min I32 (t_exprs ((t_program_index (s 338 350)) ∷ (t_place (t_variable 0 (v I32) (s 352 354))) ∷ [])) (v I32) (s 334 355))) (t_cast (t_convert U32 (cn I32 0 (s 373 374))) (u U32) (s 358 374))
    (v U32) (s 334 374)) (v U32) (s 318 374))) (s 313 374)) ∷ []) (s 302 375)) ∷
    (t_if Plain 2 (t_convert Truth (t_library lib.Abs I32 (t_exprs ((t_cast (cn I32 7 (s 402 403)) (v I32) (s 385 403)) ∷ [])) (v I32) (s 381 404)))
    (t_block (t_braces (t_stmts ((t_declare ((t_with_size (ar 2 (v I32) false) (s 414 419)) ∷ []) (s 408 420)) ∷
    (t_simple (t_assign (t_variable 1 (v I32) (s 421 423))
    (t_convert I32 (t_compare cmp.LessOrEqual (t_call
    (t_called 0 (t_arguments ((t_by_value (t_convert I16 (t_binary op.Mul (t_place (t_variable 0 (v I32) (s 429 431))) (t_place (t_variable 0 (v I32) (s 434 436))) (v I32) (s 429 436)))) ∷ [])) (s 426 437)) (v I32))
    (t_place (t_variable 0 (v I32) (s 441 443))) Varying (s 426 443))) (s 421 443)) (s 421 444)) ∷
    (t_simple (t_update op.Sub I32 (t_variable 0 (v I32) (s 445 447)) (t_convert I32 (t_unary un.Not (t_convert Truth (t_cast (t_place (t_variable 1 (v I32) (s 453 455))) (v I32) (s 452 456))) (v Truth) (s 451 456))) (s 445 456)) (s 445 457)) ∷
    [])) (s 406 459))) (s 376 459)) ∷ (t_simple (t_value (t_call (t_called 0 (t_arguments ((t_by_value (t_convert I16 (t_unary un.Not (t_convert Truth (t_program_index (s 465 477))) (v Truth) (s 463 477)))) ∷ [])) (s 460 478)) (v I32)))
    (s 460 479)) ∷ [])) (s 300 481))) ∷ (fn None None ((vr (Given I32) false) ∷ (vr (Given I8) false) ∷ (vr (AVariable (u I16)) false) ∷ (vr (AVariable (v I32)) false) ∷ [])
    (t_braces (t_stmts ((t_declare ((t_with_value 3 (v I32)
    (t_call (t_called 0 (t_arguments ((t_by_value (t_convert I16 (t_binary op.Shr (t_convert I32 (t_place (t_variable 2 (u I16) (s 568 569)))) (cn I32 0 (s 573 574)) (u I32) (s 568 574)))) ∷ [])) (s 565 575)) (v I32)) (s 561 575)) ∷ [])
    (s 557 576)) ∷ (t_simple (t_value (t_program_index (s 577 589))) (s 577 590)) ∷ (t_block (t_braces (t_stmts ([])) (s 591 592))) ∷ (t_simple (t_step op.Sub I32 (t_variable 2 (u I16) (s 595 596)) (s 593 596)) (s 593 597)) ∷
    (t_simple (t_update op.Add I32 (t_element (ar 0 (u I32) false) (t_program_index (s 600 612)) (v I32) (s 598 613)) (t_place (t_variable 3 (v I32) (s 617 618))) (s 598 618)) (s 598 619)) ∷ [])) (s 555 621))) ∷ [])

abbrev arguments_60 : List Argument
arguments_60 = ((AnArray (rw I32 (4294967293 ∷ 518345716 ∷ 2147483646 ∷ 2147483646 ∷ 8 ∷ 2147483647 ∷ 2147483647 ∷ 4294967292 ∷ 4294967292 ∷ 4085457045 ∷ 7 ∷ 4294967294 ∷ 2147483646 ∷ 4294967291 ∷ 3110948430 ∷ 4294967289 ∷ 4294967289 ∷ 3 ∷
    2087489367 ∷ 4294967294 ∷ []))) ∷ (AnArray (rw I8 (4 ∷ 5 ∷ 163 ∷ 2 ∷ 248 ∷ 7 ∷ 126 ∷ 253 ∷ 252 ∷ 248 ∷ 7 ∷ 2 ∷ 7 ∷ 128 ∷ 7 ∷ 128 ∷ 126 ∷ []))) ∷ (AValue (record { elem = I16; bits = 5 })) ∷ [])

run_60_of_0 : run_of program_60 3 0 arguments_60
    ≡ Ends ((rw I32 (2 ∷ 518345721 ∷ 2147483651 ∷ 2147483651 ∷ 13 ∷ 2147483652 ∷ 2147483652 ∷ 1 ∷ 1 ∷ 4085457050 ∷ 12 ∷ 3 ∷ 2147483651 ∷ 0 ∷ 3110948435 ∷ 4294967294 ∷ 4294967289 ∷ 3 ∷ 2087489367 ∷ 4294967294 ∷ [])) ∷
    (rw I8 (4 ∷ 5 ∷ 163 ∷ 2 ∷ 248 ∷ 7 ∷ 126 ∷ 253 ∷ 252 ∷ 248 ∷ 7 ∷ 2 ∷ 7 ∷ 128 ∷ 7 ∷ 128 ∷ 126 ∷ [])) ∷ []) None ([])
unfolding digits number_to wrap_to amount not_zero
run_60_of_0 = refl

work_60_of_0 : work_of program_60 3 0 arguments_60 ≡ 25
unfolding digits number_to wrap_to amount not_zero
work_60_of_0 = refl

-- void g0(uniform signed int b1[]) { ; signed v2 = programCount + programIndex >= clamp(programIndex, b1[programIndex], b1[(programIndex ^ (b1[programIndex])) & 3]); }
-- varying signed int64 g1(uniform int p3, bool p4) { ++p4; return (programIndex ? programIndex : p4) & 100; }
-- unsigned g2() { programIndex && programIndex; if (g1(0, programIndex)) return (programIndex != programIndex ? programIndex : - programIndex); return ! g1(7, programCount); }
-- export uniform bool f(uniform int32 a[], uniform uint8 o[]) { int x = a[0]; x <<= x; x = (g2() == -(x)); if (x && x) return programCount || o[1] >= !(o[((signed int) o[((4)) & 7]) & 7]); o[programIndex] = x; return o[((6 ? 0b11001LL : 4)) & 7]; }
abbrev program_61 : Program
program_61 = pr W4 ((fn None None ((vr (Given I32) false) ∷ (vr (AVariable (v I32)) false) ∷ [])
    (t_braces (t_stmts ((t_block (t_braces (t_stmts ([])) (s 35 36))) ∷
    (t_declare ((t_with_value 1 (v I32) (t_convert I32
    (t_compare cmp.GreaterOrEqual (t_binary op.Add (cn I32 4 (s 49 61)) (t_program_index (s 64 76)) (v I32) (s 49 76))
    (t_library lib.Clamp I32 (t_exprs ((t_program_index (s 86 98)) ∷ (t_place (t_element (ar 0 (u I32) false) (t_program_index (s 103 115)) (v I32) (s 100 116))) ∷
    (t_place (t_element (ar 0 (u I32) false) (t_binary op.And
    (t_cast (t_binary op.Xor (t_program_index (s 122 134)) (t_cast (t_place (t_element (ar 0 (u I32) false) (t_program_index (s 141 153)) (v I32) (s 138 154))) (v I32) (s 137 155)) (v I32) (s 122 155)) (v I32) (s 121 156)) (cn I32 3 (s 159 160))
    (v I32) (s 121 160)) (v I32) (s 118 161))) ∷ [])) (v I32) (s 80 162)) Varying (s 49 162))) (s 44 162)) ∷ []) (s 37 163)) ∷ [])) (s 33 165))) ∷
    (fn (Some I64) (Some (v I64)) ((vr (AVariable (u I32)) false) ∷ (vr (AVariable (v Truth)) false) ∷ [])
    (t_braces (t_stmts ((t_simple (t_step op.Add I32 (t_variable 1 (v Truth) (s 219 221)) (s 217 221)) (s 217 222)) ∷
    (t_return (s 223 229) (Some (t_convert I64 (t_binary op.And
    (t_cast (t_choose (t_convert Truth (t_program_index (s 231 243))) (t_program_index (s 246 258)) (t_convert I32 (t_place (t_variable 1 (v Truth) (s 261 263)))) (v I32) (s 231 263)) (v I32) (s 230 264)) (cn I32 100 (s 267 270)) (v I32)
    (s 230 270)))) (s 223 271)) ∷ [])) (s 215 273))) ∷
    (fn (Some U32) (Some (v U32)) ([]) (t_braces (t_stmts
    ((t_simple (t_value (t_logic logic.And (t_convert Truth (t_program_index (s 290 302))) (t_convert Truth (t_program_index (s 306 318))) Varying (s 290 318))) (s 290 319)) ∷
    (t_if Plain 0 (t_convert Truth (t_call (t_called 1 (t_arguments ((t_by_value (cn I32 0 (s 327 328))) ∷ (t_by_value (t_convert Truth (t_program_index (s 330 342)))) ∷ [])) (s 324 343)) (v I64)))
    (t_return (s 345 351) (Some (t_convert U32 (t_cast
    (t_choose (t_compare cmp.NotEqual (t_program_index (s 353 365)) (t_program_index (s 369 381)) Varying (s 353 381)) (t_program_index (s 384 396)) (t_unary un.Negate (t_program_index (s 401 413)) (v I32) (s 399 413)) (v I32) (s 353 413))
    (v I32) (s 352 414)))) (s 345 415)) (s 320 415)) ∷
    (t_return (s 416 422) (Some (t_convert U32 (t_unary un.Not (t_convert Truth (t_call (t_called 1 (t_arguments ((t_by_value (cn I32 7 (s 428 429))) ∷ (t_by_value (t_convert Truth (cn I32 4 (s 431 443)))) ∷ [])) (s 425 444)) (v I64))) (v Truth)
    (s 423 444)))) (s 416 445)) ∷ [])) (s 288 447))) ∷
    (fn (Some Truth) (Some (u Truth)) ((vr (Given I32) false) ∷ (vr (Given U8) false) ∷ (vr (AVariable (v I32)) false) ∷ [])
    (t_braces (t_stmts ((t_declare ((t_with_value 2 (v I32) (t_place (t_element (ar 0 (u I32) false) (cn I32 0 (s 520 521)) (u I32) (s 518 522))) (s 514 522)) ∷ []) (s 510 523)) ∷
    (t_simple (t_update op.Shl I32 (t_variable 2 (v I32) (s 524 525)) (t_place (t_variable 2 (v I32) (s 530 531))) (s 524 531)) (s 524 532)) ∷
    (t_simple (t_assign (t_variable 2 (v I32) (s 533 534))
    (t_convert I32 (t_cast (t_compare cmp.Equal (t_call (t_called 2 (t_arguments ([])) (s 538 542)) (v U32)) (t_convert U32 (t_unary un.Negate (t_cast (t_place (t_variable 2 (v I32) (s 548 549))) (v I32) (s 547 550)) (v I32) (s 546 550)))
    Varying (s 538 550)) (v Truth) (s 537 551))) (s 533 551)) (s 533 552)) ∷
    (t_if Plain 3 (t_logic logic.And (t_convert Truth (t_place (t_variable 2 (v I32) (s 557 558)))) (t_convert Truth (t_place (t_variable 2 (v I32) (s 562 563)))) Varying (s 557 563))
    (t_return (s 565 571) (Some (t_logic logic.Or (t_convert Truth (cn I32 4 (s 572 584)))
    (t_compare cmp.GreaterOrEqual (t_convert I32 (t_place (t_element (ar 1 (u U8) false) (cn I32 1 (s 590 591)) (u U8) (s 588 592))))
    (t_convert I32 (t_unary un.Not (t_convert Truth (t_cast
    (t_place (t_element (ar 1 (u U8) false) (t_binary op.And
    (t_cast (t_cast (t_convert I32 (t_place (t_element (ar 1 (u U8) false) (t_binary op.And (t_cast (t_cast (cn I32 4 (s 618 619)) (u I32) (s 617 620)) (u I32) (s 616 621)) (cn I32 7 (s 624 625)) (u I32) (s 616 625)) (u U8) (s 614 626))))
    (u I32) (s 601 626)) (u I32) (s 600 627)) (cn I32 7 (s 630 631)) (u I32) (s 600 631)) (u U8) (s 598 632))) (u U8) (s 597 633))) (u Truth) (s 596 633))) Uniform (s 588 633)) Uniform (s 572 633))) (s 565 634)) (s 553 634)) ∷
    (t_simple (t_assign (t_element (ar 1 (u U8) false) (t_program_index (s 637 649)) (v U8) (s 635 650)) (t_convert U8 (t_place (t_variable 2 (v I32) (s 653 654)))) (s 635 654)) (s 635 655)) ∷
    (t_return (s 656 662) (Some (t_convert Truth (t_place
    (t_element (ar 1 (u U8) false) (t_binary op.And (t_cast (t_cast (t_choose (t_convert Truth (cn I32 6 (s 667 668))) (cn I64 25 (s 671 680)) (t_convert I64 (cn I32 4 (s 683 684))) (u I64) (s 667 684)) (u I64) (s 666 685)) (u I64) (s 665 686))
    (t_convert I64 (cn I32 7 (s 689 690))) (u I64) (s 665 690)) (u U8) (s 663 691))))) (s 656 692)) ∷ [])) (s 508 694))) ∷ [])

abbrev arguments_61 : List Argument
arguments_61 = ((AnArray (rw I32 (2147483646 ∷ 0 ∷ 6 ∷ 0 ∷ 8 ∷ 4294967293 ∷ 4 ∷ 2193683394 ∷ []))) ∷ (AnArray (rw U8 (51 ∷ 5 ∷ 5 ∷ 4 ∷ 155 ∷ 8 ∷ 254 ∷ 9 ∷ []))) ∷ [])

run_61_of_0 : run_of program_61 3 0 arguments_61 ≡ Ends ((rw I32 (2147483646 ∷ 0 ∷ 6 ∷ 0 ∷ 8 ∷ 4294967293 ∷ 4 ∷ 2193683394 ∷ [])) ∷ (rw U8 (0 ∷ 0 ∷ 0 ∷ 0 ∷ 155 ∷ 8 ∷ 254 ∷ 9 ∷ [])) ∷ []) (Some (record { elem = Truth; bits = 0 })) ([])
unfolding digits number_to wrap_to amount not_zero
run_61_of_0 = refl

work_61_of_0 : work_of program_61 3 0 arguments_61 ≡ 68
unfolding digits number_to wrap_to amount not_zero
work_61_of_0 = refl

-- void g0(signed p1, uniform signed int p2) { { ; uniform signed int8 v3; p1 *= p1 ^ 0x95574b04 >> v3; } if (~(p2)) { p2 |= (max(5, 4294967296)) / (6 | 1) | select(2 ^ p2, ~(6), p2 ^ p2); p2; p1 ^= 5 + clamp(programIndex, p2, p2) !=
-- (programIndex) / (p1 | 1); } else { ; p1 |= p2; return; } }
-- int16 g1() { int v4 = min((programIndex), 5); }
-- void g2(uniform int32 n5) { if (n5 <= 0) return; g2(n5 - 1); uint64 t6[3]; }
-- export void f(uniform int32 a[], uniform uint8 o[], uniform int32 n) { int x = g1(); ++n; if (x == x) { ; --x; } uniform signed t7[5]; o[programIndex] = x; }
abbrev program_93 : Program
program_93 = pr W8 ((fn None None ((vr (AVariable (v I32)) false) ∷ (vr (AVariable (u I32)) false) ∷ (vr (AVariable (u I8)) false) ∷ [])
    (t_braces (t_stmts ((t_block (t_braces (t_stmts ((t_block (t_braces (t_stmts ([])) (s 46 47))) ∷ (t_declare ((t_plain 2 (u I8) (s 68 70)) ∷ []) (s 48 71)) ∷
    (t_simple (t_update op.Mul U32 (t_variable 0 (v I32) (s 72 74))
    (t_binary op.Xor (t_convert U32 (t_place (t_variable 0 (v I32) (s 78 80)))) (t_binary op.Shr (cn U32 2505526020 (s 83 93)) (t_convert U32 (t_place (t_variable 2 (u I8) (s 97 99)))) (u U32) (s 83 99)) (v U32) (s 78 99)) (s 72 99)) (s 72 100))
    ∷ [])) (s 44 102))) ∷ (t_if_else Plain 3 (t_convert Truth (t_unary un.Invert (t_cast (t_place (t_variable 1 (u I32) (s 109 111))) (u I32) (s 108 112)) (u I32) (s 107 112)))
    (t_block (t_braces (t_stmts ((t_simple (t_update op.Or I64 (t_variable 1 (u I32) (s 116 118))
    (t_binary op.Or (t_binary op.Div (t_cast (t_library lib.Max I64 (t_exprs ((t_convert I64 (cn I32 5 (s 127 128))) ∷ (cn I64 4294967296 (s 130 140)) ∷ [])) (u I64) (s 123 141)) (u I64) (s 122 142))
    (t_convert I64 (t_cast (t_binary op.Or (cn I32 6 (s 146 147)) (cn I32 1 (s 150 151)) (u I32) (s 146 151)) (u I32) (s 145 152))) (u I64) (s 122 152))
    (t_convert I64 (t_library lib.Select I32 (t_exprs
    ((t_convert Truth (t_binary op.Xor (cn I32 2 (s 162 163)) (t_place (t_variable 1 (u I32) (s 166 168))) (u I32) (s 162 168))) ∷ (t_unary un.Invert (t_cast (cn I32 6 (s 172 173)) (u I32) (s 171 174)) (u I32) (s 170 174)) ∷
    (t_binary op.Xor (t_place (t_variable 1 (u I32) (s 176 178))) (t_place (t_variable 1 (u I32) (s 181 183))) (u I32) (s 176 183)) ∷ [])) (u I32) (s 155 184))) (u I64) (s 122 184)) (s 116 184)) (s 116 185)) ∷
    (t_simple (t_value (t_place (t_variable 1 (u I32) (s 186 188)))) (s 186 189)) ∷
    (t_simple (t_update op.Xor I32 (t_variable 0 (v I32) (s 190 192))
    (t_convert I32 (t_compare cmp.NotEqual (t_binary op.Add (cn I32 5 (s 196 197))
    (t_library lib.Clamp I32 (t_exprs ((t_program_index (s 206 218)) ∷ (t_place (t_variable 1 (u I32) (s 220 222))) ∷ (t_place (t_variable 1 (u I32) (s 224 226))) ∷ [])) (v I32) (s 200 227)) (v I32) (s 196 227))
    (t_binary op.Div (t_cast (t_program_index (s 232 244)) (v I32) (s 231 245)) (t_cast (t_binary op.Or (t_place (t_variable 0 (v I32) (s 249 251))) (cn I32 1 (s 254 255)) (v I32) (s 249 255)) (v I32) (s 248 256)) (v I32) (s 231 256)) Varying
    (s 196 256))) (s 190 256)) (s 190 257)) ∷ [])) (s 114 259)))
    (t_block (t_braces (t_stmts ((t_block (t_braces (t_stmts ([])) (s 267 268))) ∷ (t_simple (t_update op.Or I32 (t_variable 0 (v I32) (s 269 271)) (t_place (t_variable 1 (u I32) (s 275 277))) (s 269 277)) (s 269 278)) ∷
    (t_return (s 279 285) None (s 279 286)) ∷ [])) (s 265 288))) (s 103 288)) ∷ [])) (s 42 290))) ∷
    (fn (Some I16) (Some (v I16)) ((vr (AVariable (v I32)) false) ∷ [])
    (t_braces (t_stmts ((t_declare ((t_with_value 0 (v I32) (t_library lib.Min I32 (t_exprs ((t_cast (t_program_index (s 318 330)) (v I32) (s 317 331)) ∷ (cn I32 5 (s 333 334)) ∷ [])) (v I32) (s 313 335)) (s 308 335)) ∷ []) (s 304 336)) ∷ []))
    (s 302 338))) ∷ (fn None None ((vr (AVariable (u I32)) false) ∷ (vr (Local (v U64) 3) false) ∷ [])
    (t_braces (t_stmts ((t_if Plain 1 (t_compare cmp.LessOrEqual (t_place (t_variable 0 (u I32) (s 371 373))) (cn I32 0 (s 377 378)) Uniform (s 371 378)) (t_return (s 380 386) None (s 380 387)) (s 367 387)) ∷
    (t_simple (t_run (t_called 2 (t_arguments ((t_by_value (t_binary op.Sub (t_place (t_variable 0 (u I32) (s 391 393))) (cn I32 1 (s 396 397)) (u I32) (s 391 397))) ∷ [])) (s 388 398))) (s 388 399)) ∷
    (t_declare ((t_with_size (ar 1 (v U64) false) (s 407 412)) ∷ []) (s 400 413)) ∷ [])) (s 365 415))) ∷
    (fn None None ((vr (Given I32) false) ∷ (vr (Given U8) false) ∷ (vr (AVariable (u I32)) false) ∷ (vr (AVariable (v I32)) false) ∷ (vr (Local (u I32) 5) false) ∷ [])
    (t_braces (t_stmts ((t_declare ((t_with_value 3 (v I32) (t_convert I32 (t_call (t_called 1 (t_arguments ([])) (s 495 499)) (v I16))) (s 491 499)) ∷ []) (s 487 500)) ∷
    (t_simple (t_step op.Add I32 (t_variable 2 (u I32) (s 503 504)) (s 501 504)) (s 501 505)) ∷
    (t_if Plain 4 (t_compare cmp.Equal (t_place (t_variable 3 (v I32) (s 510 511))) (t_place (t_variable 3 (v I32) (s 515 516))) Varying (s 510 516))
    (t_block (t_braces (t_stmts ((t_block (t_braces (t_stmts ([])) (s 520 521))) ∷ (t_simple (t_step op.Sub I32 (t_variable 3 (v I32) (s 524 525)) (s 522 525)) (s 522 526)) ∷ [])) (s 518 528))) (s 506 528)) ∷
    (t_declare ((t_with_size (ar 4 (u I32) false) (s 544 549)) ∷ []) (s 529 550)) ∷
    (t_simple (t_assign (t_element (ar 1 (u U8) false) (t_program_index (s 553 565)) (v U8) (s 551 566)) (t_convert U8 (t_place (t_variable 3 (v I32) (s 569 570)))) (s 551 570)) (s 551 571)) ∷ [])) (s 485 573))) ∷ [])

abbrev arguments_93 : List Argument
arguments_93 = ((AnArray (rw I32 (8 ∷ 0 ∷ 2147483649 ∷ 4294967293 ∷ 4 ∷ 1523673141 ∷ 6 ∷ 4294967293 ∷ 4294967293 ∷ []))) ∷ (AnArray (rw U8 (3 ∷ 9 ∷ 7 ∷ 6 ∷ 7 ∷ 3 ∷ 4 ∷ 9 ∷ 0 ∷ 2 ∷ 8 ∷ []))) ∷ (AValue (record { elem = I32; bits = 1547067299 })) ∷ [])

run_93_of_0 : run_of program_93 3 0 arguments_93 ≡ Ends ((rw I32 (8 ∷ 0 ∷ 2147483649 ∷ 4294967293 ∷ 4 ∷ 1523673141 ∷ 6 ∷ 4294967293 ∷ 4294967293 ∷ [])) ∷ (rw U8 (255 ∷ 255 ∷ 255 ∷ 255 ∷ 255 ∷ 255 ∷ 255 ∷ 255 ∷ 0 ∷ 2 ∷ 8 ∷ [])) ∷ []) None ([])
unfolding digits number_to wrap_to amount not_zero
run_93_of_0 = refl

work_93_of_0 : work_of program_93 3 0 arguments_93 ≡ 27
unfolding digits number_to wrap_to amount not_zero
work_93_of_0 = refl

-- signed g0(unsigned int16 p1) { int v2; ; p1 |= programIndex; return (signed) p1; }
-- void g1(varying signed int p3, uniform int p4) { ++p3; { p3--; p4 >>= p4 < ! programCount >> p4; } }
-- signed int8 g2(uniform signed n5) { if (n5 <= 0) return min(g0(n5), programIndex << programIndex); g2(n5 - 1); (n5 ? programIndex : 1); ; return g0(programIndex - n5); }
-- export void f(uniform int a[], uniform int o[], uniform signed n) { int x = (signed int) ! n; if (g2((n) & 3)) return; ; n &= !(o[4] >> o[3]); o[programIndex] = x; }
abbrev program_94 : Program
program_94 = pr W8 ((fn (Some I32) (Some (v I32)) ((vr (AVariable (v U16)) false) ∷ (vr (AVariable (v I32)) false) ∷ [])
    (t_braces (t_stmts ((t_declare ((t_plain 1 (v I32) (s 35 37)) ∷ []) (s 31 38)) ∷ (t_block (t_braces (t_stmts ([])) (s 39 40))) ∷ (t_simple (t_update op.Or I32 (t_variable 0 (v U16) (s 41 43)) (t_program_index (s 47 59)) (s 41 59)) (s 41 60))
    ∷ (t_return (s 61 67) (Some (t_cast (t_convert I32 (t_place (t_variable 0 (v U16) (s 77 79)))) (v I32) (s 68 79))) (s 61 80)) ∷ [])) (s 29 82))) ∷
    (fn None None ((vr (AVariable (v I32)) false) ∷ (vr (AVariable (u I32)) false) ∷ [])
    (t_braces (t_stmts ((t_simple (t_step op.Add I32 (t_variable 0 (v I32) (s 134 136)) (s 132 136)) (s 132 137)) ∷
    (t_block (t_braces (t_stmts ((t_simple (t_step op.Sub I32 (t_variable 0 (v I32) (s 140 142)) (s 140 144)) (s 140 145)) ∷
    (t_simple (t_update op.Shr I32 (t_variable 1 (u I32) (s 146 148))
    (t_convert I32 (t_compare cmp.Less (t_place (t_variable 1 (u I32) (s 153 155)))
    (t_binary op.Shr (t_convert I32 (t_unary un.Not (t_convert Truth (cn I32 8 (s 160 172))) (u Truth) (s 158 172))) (t_place (t_variable 1 (u I32) (s 176 178))) (u I32) (s 158 178)) Uniform (s 153 178))) (s 146 178)) (s 146 179)) ∷ []))
    (s 138 181))) ∷ [])) (s 130 183))) ∷ (fn (Some I8) (Some (v I8)) ((vr (AVariable (u I32)) false) ∷ [])
    (t_braces (t_stmts ((t_if Plain 1 (t_compare cmp.LessOrEqual (t_place (t_variable 0 (u I32) (s 224 226))) (cn I32 0 (s 230 231)) Uniform (s 224 231))
    (t_return (s 233 239) (Some (t_convert I8 (t_library lib.Min I32
    (t_exprs ((t_call (t_called 0 (t_arguments ((t_by_value (t_convert U16 (t_place (t_variable 0 (u I32) (s 247 249))))) ∷ [])) (s 244 250)) (v I32)) ∷
    (t_binary op.Shl (t_program_index (s 252 264)) (t_program_index (s 268 280)) (v I32) (s 252 280)) ∷ [])) (v I32) (s 240 281)))) (s 233 282)) (s 220 282)) ∷
    (t_simple (t_value (t_call (t_called 2 (t_arguments ((t_by_value (t_binary op.Sub (t_place (t_variable 0 (u I32) (s 286 288))) (cn I32 1 (s 291 292)) (u I32) (s 286 292))) ∷ [])) (s 283 293)) (v I8))) (s 283 294)) ∷
    (t_simple (t_value (t_cast (t_choose (t_convert Truth (t_place (t_variable 0 (u I32) (s 296 298)))) (t_program_index (s 301 313)) (cn I32 1 (s 316 317)) (v I32) (s 296 317)) (v I32) (s 295 318))) (s 295 319)) ∷
    (t_block (t_braces (t_stmts ([])) (s 320 321))) ∷
    (t_return (s 322 328) (Some (t_convert I8 (t_call (t_called 0 (t_arguments ((t_by_value (t_convert U16 (t_binary op.Sub (t_program_index (s 332 344)) (t_place (t_variable 0 (u I32) (s 347 349))) (v I32) (s 332 349)))) ∷ [])) (s 329 350))
    (v I32)))) (s 322 351)) ∷ [])) (s 218 353))) ∷ (fn None None ((vr (Given I32) false) ∷ (vr (Given I32) false) ∷ (vr (AVariable (u I32)) false) ∷ (vr (AVariable (v I32)) false) ∷ [])
    (t_braces (t_stmts ((t_declare ((t_with_value 3 (v I32) (t_cast (t_convert I32 (t_unary un.Not (t_convert Truth (t_place (t_variable 2 (u I32) (s 445 446)))) (u Truth) (s 443 446))) (u I32) (s 430 446)) (s 426 446)) ∷ []) (s 422 447)) ∷
    (t_if Plain 4 (t_convert Truth (t_call (t_called 2 (t_arguments ((t_by_value (t_binary op.And (t_cast (t_place (t_variable 2 (u I32) (s 456 457))) (u I32) (s 455 458)) (cn I32 3 (s 461 462)) (u I32) (s 455 462))) ∷ [])) (s 452 463)) (v I8)))
    (t_return (s 465 471) None (s 465 472)) (s 448 472)) ∷ (t_block (t_braces (t_stmts ([])) (s 473 474))) ∷
    (t_simple (t_update op.And I32 (t_variable 2 (u I32) (s 475 476))
    (t_convert I32 (t_unary un.Not (t_convert Truth (t_cast
    (t_binary op.Shr (t_place (t_element (ar 1 (u I32) false) (cn I32 4 (s 484 485)) (u I32) (s 482 486))) (t_place (t_element (ar 1 (u I32) false) (cn I32 3 (s 492 493)) (u I32) (s 490 494))) (u I32) (s 482 494)) (u I32) (s 481 495))) (u Truth)
    (s 480 495))) (s 475 495)) (s 475 496)) ∷ (t_simple (t_assign (t_element (ar 1 (u I32) false) (t_program_index (s 499 511)) (v I32) (s 497 512)) (t_place (t_variable 3 (v I32) (s 515 516))) (s 497 516)) (s 497 517)) ∷ [])) (s 420 519))) ∷
    [])

abbrev arguments_94 : List Argument
arguments_94 = ((AnArray (rw I32 (4294967290 ∷ 5 ∷ 7 ∷ 2234196409 ∷ 2066684351 ∷ 9 ∷ 2147483647 ∷ 3228376024 ∷ 2147483646 ∷ []))) ∷ (AnArray (rw I32 (4294967292 ∷ 0 ∷ 2147483647 ∷ 642197251 ∷ 4294967294 ∷ 1 ∷ 2147483646 ∷ 4083035083 ∷ []))) ∷
    (AValue (record { elem = I32; bits = 6 })) ∷ [])

run_94_of_0 : run_of program_94 3 0 arguments_94
    ≡ Ends ((rw I32 (4294967290 ∷ 5 ∷ 7 ∷ 2234196409 ∷ 2066684351 ∷ 9 ∷ 2147483647 ∷ 3228376024 ∷ 2147483646 ∷ [])) ∷ (rw I32 (4294967292 ∷ 0 ∷ 2147483647 ∷ 642197251 ∷ 4294967294 ∷ 1 ∷ 2147483646 ∷ 4083035083 ∷ [])) ∷ []) None ([])
unfolding digits number_to wrap_to amount not_zero
run_94_of_0 = refl

work_94_of_0 : work_of program_94 3 0 arguments_94 ≡ 97
unfolding digits number_to wrap_to amount not_zero
work_94_of_0 = refl

-- int16 g0() { ; ; int v1 = programIndex; return (v1) % (((v1 != v1 | 1)) | 1); }
-- void g1(uniform signed int64 p2, signed p3) { g0(); }
-- uniform int g2() { ; { ; } ; }
-- export void f(uniform signed a[], uniform uint8 o[], uniform int32 n) { int x = g2(); { n--; uniform int v4 = ((uniform int64) 2 ? (programCount) % (n | 1) : n | true) != ~((n ? a[((9223372036854775807)) & 3] : n)), v5; int64 t6[8]; } bool
-- t7[6]; ; if (41ULL >> t7[programIndex]) return; if (x) return; a[programIndex] += x; }
abbrev program_97 : Program
program_97 = pr W4 ((fn (Some I16) (Some (v I16)) ((vr (AVariable (v I32)) false) ∷ [])
    (t_braces (t_stmts ((t_block (t_braces (t_stmts ([])) (s 13 14))) ∷ (t_block (t_braces (t_stmts ([])) (s 15 16))) ∷ (t_declare ((t_with_value 0 (v I32) (t_program_index (s 26 38)) (s 21 38)) ∷ []) (s 17 39)) ∷
    (t_return (s 40 46) (Some (t_convert I16 (t_binary op.Rem (t_cast (t_place (t_variable 0 (v I32) (s 48 50))) (v I32) (s 47 51))
    (t_cast (t_binary op.Or (t_cast (t_cast (t_binary op.Or (t_convert I32 (t_compare cmp.NotEqual (t_place (t_variable 0 (v I32) (s 57 59))) (t_place (t_variable 0 (v I32) (s 63 65))) Varying (s 57 65))) (cn I32 1 (s 68 69)) (v I32) (s 57 69))
    (v I32) (s 56 70)) (v I32) (s 55 71)) (cn I32 1 (s 74 75)) (v I32) (s 55 75)) (v I32) (s 54 76)) (v I32) (s 47 76)))) (s 40 77)) ∷ [])) (s 11 79))) ∷
    (fn None None ((vr (AVariable (u I64)) false) ∷ (vr (AVariable (v I32)) false) ∷ []) (t_braces (t_stmts ((t_simple (t_value (t_call (t_called 0 (t_arguments ([])) (s 126 130)) (v I16))) (s 126 131)) ∷ [])) (s 124 133))) ∷
    (fn (Some I32) (Some (u I32)) ([]) (t_braces (t_stmts
    ((t_block (t_braces (t_stmts ([])) (s 153 154))) ∷ (t_block (t_braces (t_stmts ((t_block (t_braces (t_stmts ([])) (s 157 158))) ∷ [])) (s 155 160))) ∷ (t_block (t_braces (t_stmts ([])) (s 161 162))) ∷ [])) (s 151 164))) ∷
    (fn None None ((vr (Given I32) false) ∷ (vr (Given U8) false) ∷ (vr (AVariable (u I32)) false) ∷ (vr (AVariable (v I32)) false) ∷ (vr (AVariable (u I32)) false) ∷ (vr (AVariable (u I32)) false) ∷ (vr (Local (v I64) 8) false) ∷
    (vr (Local (v Truth) 6) false) ∷ []) (t_braces (t_stmts
    ((t_declare ((t_with_value 3 (v I32) (t_call (t_called 2 (t_arguments ([])) (s 245 249)) (u I32)) (s 241 249)) ∷ []) (s 237 250)) ∷
    (t_block (t_braces (t_stmts ((t_simple (t_step op.Sub I32 (t_variable 2 (u I32) (s 253 254)) (s 253 256)) (s 253 257)) ∷
    (t_declare ((t_with_value 4 (u I32) (t_convert I32
    (t_compare cmp.NotEqual (t_cast (t_choose (t_convert Truth (t_cast (t_convert I64 (cn I32 2 (s 292 293))) (u I64) (s 276 293)))
    (t_binary op.Rem (t_cast (cn I32 4 (s 297 309)) (u I32) (s 296 310)) (t_cast (t_binary op.Or (t_place (t_variable 2 (u I32) (s 314 315))) (cn I32 1 (s 318 319)) (u I32) (s 314 319)) (u I32) (s 313 320)) (u I32) (s 296 320))
    (t_binary op.Or (t_place (t_variable 2 (u I32) (s 323 324))) (t_convert I32 (cn Truth 1 (s 327 331))) (u I32) (s 323 331)) (u I32) (s 276 331)) (u I32) (s 275 332))
    (t_unary un.Invert (t_cast (t_cast (t_choose (t_convert Truth (t_place (t_variable 2 (u I32) (s 339 340))))
    (t_place (t_element (ar 0 (u I32) false) (t_binary op.And (t_cast (t_cast (cn I64 9223372036854775807 (s 347 366)) (u I64) (s 346 367)) (u I64) (s 345 368)) (t_convert I64 (cn I32 3 (s 371 372))) (u I64) (s 345 372)) (u I32) (s 343 373)))
    (t_place (t_variable 2 (u I32) (s 376 377))) (u I32) (s 339 377)) (u I32) (s 338 378)) (u I32) (s 337 379)) (u I32) (s 336 379)) Uniform (s 275 379))) (s 270 379)) ∷ (t_plain 5 (u I32) (s 381 383)) ∷ []) (s 258 384)) ∷
    (t_declare ((t_with_size (ar 6 (v I64) false) (s 391 396)) ∷ []) (s 385 397)) ∷ [])) (s 251 399))) ∷ (t_declare ((t_with_size (ar 7 (v Truth) false) (s 405 410)) ∷ []) (s 400 411)) ∷ (t_block (t_braces (t_stmts ([])) (s 412 413))) ∷
    (t_if Plain 8 (t_convert Truth (t_binary op.Shr (cn U64 41 (s 418 423)) (t_convert U64 (t_place (t_element (ar 7 (v Truth) false) (t_program_index (s 430 442)) (v Truth) (s 427 443)))) (v U64) (s 418 443)))
    (t_return (s 445 451) None (s 445 452)) (s 414 452)) ∷ (t_if Plain 8 (t_convert Truth (t_place (t_variable 3 (v I32) (s 457 458)))) (t_return (s 460 466) None (s 460 467)) (s 453 467)) ∷
    (t_simple (t_update op.Add I32 (t_element (ar 0 (u I32) false) (t_program_index (s 470 482)) (v I32) (s 468 483)) (t_place (t_variable 3 (v I32) (s 487 488))) (s 468 488)) (s 468 489)) ∷ [])) (s 235 491))) ∷ [])

abbrev arguments_97 : List Argument
arguments_97 = ((AnArray (rw I32 (2147483646 ∷ 4294967288 ∷ 4 ∷ 0 ∷ 4294967290 ∷ []))) ∷ (AnArray (rw U8 (0 ∷ 6 ∷ 8 ∷ 6 ∷ 150 ∷ 7 ∷ 1 ∷ []))) ∷ (AValue (record { elem = I32; bits = 4294967287 })) ∷ [])

run_97_of_0 : run_of program_97 3 0 arguments_97 ≡ Ends ((rw I32 (2147483646 ∷ 4294967288 ∷ 4 ∷ 0 ∷ 4294967290 ∷ [])) ∷ (rw U8 (0 ∷ 6 ∷ 8 ∷ 6 ∷ 150 ∷ 7 ∷ 1 ∷ [])) ∷ []) None ([])
unfolding digits number_to wrap_to amount not_zero
run_97_of_0 = refl

work_97_of_0 : work_of program_97 3 0 arguments_97 ≡ 49
unfolding digits number_to wrap_to amount not_zero
work_97_of_0 = refl

-- void g0() { ; }
-- void g1(signed int n1) { if (n1 <= 0) return; g1(n1 - 1); { int k2 = 0; do { k2++;  ; } while (k2 < 2); } }
-- void g2(uniform signed b3[]) { g1((programIndex) & 3); }
-- export uniform signed f(uniform int32 a[], uniform signed int o[]) { int x = (programIndex ? programIndex : 0) < -(programCount); a[(programIndex ^ (x >= programCount)) & 3] = ((a[programIndex]) % (x | 1) ? ~ 7 + !(programIndex) : 0b1001LL);
-- if (abs(x)) return o[7]; if ((varying signed int64) o[programIndex]) return 9 >= o[6]; a[programIndex] += x; return 33l << o[6]; }
abbrev program_125 : Program
program_125 = pr W4 ((fn None None ([]) (t_braces (t_stmts ((t_block (t_braces (t_stmts ([])) (s 12 13))) ∷ [])) (s 10 15))) ∷
    (fn None None ((vr (AVariable (v I32)) false) ∷ (vr (AVariable (v I32)) false) ∷ [])
    (t_braces (t_stmts ((t_if Plain 1 (t_compare cmp.LessOrEqual (t_place (t_variable 0 (v I32) (s 45 47))) (cn I32 0 (s 51 52)) Varying (s 45 52)) (t_return (s 54 60) None (s 54 61)) (s 41 61)) ∷
    (t_simple (t_run (t_called 1 (t_arguments ((t_by_value (t_binary op.Sub (t_place (t_variable 0 (v I32) (s 65 67))) (cn I32 1 (s 70 71)) (v I32) (s 65 71))) ∷ [])) (s 62 72))) (s 62 73)) ∷
    (t_block (t_braces (t_stmts ((t_declare ((t_with_value 1 (v I32) (cn I32 0 (s 85 86)) (s 80 86)) ∷ []) (s 76 87)) ∷
    (t_do Plain 2 (t_block (t_braces (t_stmts ((t_simple (t_step op.Add I32 (t_variable 1 (v I32) (s 93 95)) (s 93 97)) (s 93 98)) ∷ (t_block (t_braces (t_stmts ([])) (s 100 101))) ∷ [])) (s 91 103)))
    (t_compare cmp.Less (t_place (t_variable 1 (v I32) (s 111 113))) (cn I32 2 (s 116 117)) Varying (s 111 117)) (s 88 119)) ∷ [])) (s 74 121))) ∷ [])) (s 39 123))) ∷
    (fn None None ((vr (Given I32) false) ∷ []) (t_braces
    (t_stmts ((t_simple (t_run (t_called 1 (t_arguments ((t_by_value (t_binary op.And (t_cast (t_program_index (s 159 171)) (v I32) (s 158 172)) (cn I32 3 (s 175 176)) (v I32) (s 158 176))) ∷ [])) (s 155 177))) (s 155 178)) ∷ [])) (s 153 180)))
    ∷ (fn (Some I32) (Some (u I32)) ((vr (Given I32) false) ∷ (vr (Given I32) false) ∷ (vr (AVariable (v I32)) false) ∷ [])
    (t_braces (t_stmts ((t_declare ((t_with_value 2 (v I32)
    (t_convert I32 (t_compare cmp.Less (t_cast (t_choose (t_convert Truth (t_program_index (s 259 271))) (t_program_index (s 274 286)) (cn I32 0 (s 289 290)) (v I32) (s 259 290)) (v I32) (s 258 291))
    (t_unary un.Negate (t_cast (cn I32 4 (s 296 308)) (u I32) (s 295 309)) (u I32) (s 294 309)) Varying (s 258 309))) (s 254 309)) ∷ []) (s 250 310)) ∷
    (t_simple (t_assign (t_element (ar 0 (u I32) false)
    (t_binary op.And (t_cast (t_binary op.Xor (t_program_index (s 314 326)) (t_convert I32 (t_cast (t_compare cmp.GreaterOrEqual (t_place (t_variable 2 (v I32) (s 330 331))) (cn I32 4 (s 335 347)) Varying (s 330 347)) (v Truth) (s 329 348)))
    (v I32) (s 314 348)) (v I32) (s 313 349)) (cn I32 3 (s 352 353)) (v I32) (s 313 353)) (v I32) (s 311 354))
    (t_convert I32 (t_cast (t_choose (t_convert Truth
    (t_binary op.Rem (t_cast (t_place (t_element (ar 0 (u I32) false) (t_program_index (s 361 373)) (v I32) (s 359 374))) (v I32) (s 358 375))
    (t_cast (t_binary op.Or (t_place (t_variable 2 (v I32) (s 379 380))) (cn I32 1 (s 383 384)) (v I32) (s 379 384)) (v I32) (s 378 385)) (v I32) (s 358 385)))
    (t_convert I64 (t_binary op.Add (t_unary un.Invert (cn I32 7 (s 390 391)) (u I32) (s 388 391)) (t_convert I32 (t_unary un.Not (t_convert Truth (t_cast (t_program_index (s 396 408)) (v I32) (s 395 409))) (v Truth) (s 394 409))) (v I32)
    (s 388 409))) (cn I64 9 (s 412 420)) (v I64) (s 358 420)) (v I64) (s 357 421))) (s 311 421)) (s 311 422)) ∷
    (t_if Plain 3 (t_convert Truth (t_library lib.Abs I32 (t_exprs ((t_place (t_variable 2 (v I32) (s 431 432))) ∷ [])) (v I32) (s 427 433)))
    (t_return (s 435 441) (Some (t_place (t_element (ar 1 (u I32) false) (cn I32 7 (s 444 445)) (u I32) (s 442 446)))) (s 435 447)) (s 423 447)) ∷
    (t_if Plain 3 (t_convert Truth (t_cast (t_convert I64 (t_place (t_element (ar 1 (u I32) false) (t_program_index (s 477 489)) (v I32) (s 475 490)))) (v I64) (s 452 490)))
    (t_return (s 492 498) (Some (t_convert I32 (t_compare cmp.GreaterOrEqual (cn I32 9 (s 499 500)) (t_place (t_element (ar 1 (u I32) false) (cn I32 6 (s 506 507)) (u I32) (s 504 508))) Uniform (s 499 508)))) (s 492 509)) (s 448 509)) ∷
    (t_simple (t_update op.Add I32 (t_element (ar 0 (u I32) false) (t_program_index (s 512 524)) (v I32) (s 510 525)) (t_place (t_variable 2 (v I32) (s 529 530))) (s 510 530)) (s 510 531)) ∷
    (t_return (s 532 538) (Some (t_convert I32 (t_binary op.Shl (cn I64 33 (s 539 542)) (t_convert I64 (t_place (t_element (ar 1 (u I32) false) (cn I32 6 (s 548 549)) (u I32) (s 546 550)))) (u I64) (s 539 550)))) (s 532 551)) ∷ []))
    (s 248 553))) ∷ [])

abbrev arguments_125 : List Argument
arguments_125 = ((AnArray (rw I32 (2147483648 ∷ 7 ∷ 2548177450 ∷ 0 ∷ []))) ∷ (AnArray (rw I32 (4294967292 ∷ 4294967294 ∷ 8 ∷ 4 ∷ 4294967290 ∷ 2147483649 ∷ 3268325017 ∷ 2147483649 ∷ []))) ∷ [])

run_125_of_0 : run_of program_125 3 0 arguments_125 ≡ Ends ((rw I32 (9 ∷ 9 ∷ 9 ∷ 9 ∷ [])) ∷ (rw I32 (4294967292 ∷ 4294967294 ∷ 8 ∷ 4 ∷ 4294967290 ∷ 2147483649 ∷ 3268325017 ∷ 2147483649 ∷ [])) ∷ []) (Some (record { elem = I32; bits = 1 })) ([])
unfolding digits number_to wrap_to amount not_zero
run_125_of_0 = refl

work_125_of_0 : work_of program_125 3 0 arguments_125 ≡ 46
unfolding digits number_to wrap_to amount not_zero
work_125_of_0 = refl

-- uniform int g0(uniform signed b1[]) { b1[programIndex] >>= b1[0]; return (signed int) 8 >= b1[((8) % (((b1[(b1[0] ^ b1[3]) & 3] | 1)) | 1)) & 3]; }
-- void g1(uniform int32 n3, uniform int b2[]) { if (n3 <= 0) return; g1(n3 - 1, b2); ; cfor (uniform int k4 = 0; k4 < 2; k4++) { ; ; } }
-- signed g2(int32 p5, uniform uint8 p6, uniform signed b7[]) { b7[programIndex] |= g0(b7); p6 ^= (uniform uint16) (signed int) programCount; }
-- export uniform signed f(uniform int a[], uniform uint64 o[], uniform int n) { int x = g0(a); uniform unsigned int64 t8[1]; if (- n < 7) { abs(100); } o[programIndex] = x; return 4294967295; }
abbrev program_126 : Program
program_126 = pr W4 ((fn (Some I32) (Some (u I32)) ((vr (Given I32) false) ∷ [])
    (t_braces (t_stmts ((t_simple (t_update op.Shr I32 (t_element (ar 0 (u I32) false) (t_program_index (s 41 53)) (v I32) (s 38 54)) (t_place (t_element (ar 0 (u I32) false) (cn I32 0 (s 62 63)) (u I32) (s 59 64))) (s 38 64)) (s 38 65)) ∷
    (t_return (s 66 72) (Some (t_convert I32 (t_compare cmp.GreaterOrEqual (t_cast (cn I32 8 (s 86 87)) (u I32) (s 73 87))
    (t_place (t_element (ar 0 (u I32) false) (t_binary op.And
    (t_cast (t_binary op.Rem (t_cast (cn I32 8 (s 96 97)) (u I32) (s 95 98))
    (t_cast (t_binary op.Or (t_cast (t_cast (t_binary op.Or
    (t_place (t_element (ar 0 (u I32) false) (t_binary op.And
    (t_cast (t_binary op.Xor (t_place (t_element (ar 0 (u I32) false) (cn I32 0 (s 111 112)) (u I32) (s 108 113))) (t_place (t_element (ar 0 (u I32) false) (cn I32 3 (s 119 120)) (u I32) (s 116 121))) (u I32) (s 108 121)) (u I32) (s 107 122))
    (cn I32 3 (s 125 126)) (u I32) (s 107 126)) (u I32) (s 104 127))) (cn I32 1 (s 130 131)) (u I32) (s 104 131)) (u I32) (s 103 132)) (u I32) (s 102 133)) (cn I32 1 (s 136 137)) (u I32) (s 102 137)) (u I32) (s 101 138)) (u I32) (s 95 138))
    (u I32) (s 94 139)) (cn I32 3 (s 142 143)) (u I32) (s 94 143)) (u I32) (s 91 144))) Uniform (s 73 144)))) (s 66 145)) ∷ [])) (s 36 147))) ∷
    (fn None None ((vr (AVariable (u I32)) false) ∷ (vr (Given I32) false) ∷ (vr (AVariable (u I32)) false) ∷ [])
    (t_braces (t_stmts ((t_if Plain 2 (t_compare cmp.LessOrEqual (t_place (t_variable 0 (u I32) (s 198 200))) (cn I32 0 (s 204 205)) Uniform (s 198 205)) (t_return (s 207 213) None (s 207 214)) (s 194 214)) ∷
    (t_simple (t_run (t_called 1 (t_arguments ((t_by_value (t_binary op.Sub (t_place (t_variable 0 (u I32) (s 218 220))) (cn I32 1 (s 223 224)) (u I32) (s 218 224))) ∷ (t_by_name (ar 1 (u I32) false) (s 226 228)) ∷ [])) (s 215 229)))
    (s 215 230)) ∷ (t_block (t_braces (t_stmts ([])) (s 231 232))) ∷
    (t_for Plain 2 (Some (t_first_declare ((t_with_value 2 (u I32) (cn I32 0 (s 256 257)) (s 251 257)) ∷ []) (s 239 257))) (Some (t_compare cmp.Less (t_place (t_variable 2 (u I32) (s 259 261))) (cn I32 2 (s 264 265)) Uniform (s 259 265)))
    (Some (t_step op.Add I32 (t_variable 2 (u I32) (s 267 269)) (s 267 271))) 3 (t_block (t_braces (t_stmts ((t_block (t_braces (t_stmts ([])) (s 275 276))) ∷ (t_block (t_braces (t_stmts ([])) (s 277 278))) ∷ [])) (s 273 280))) (s 233 280)) ∷
    [])) (s 192 282))) ∷ (fn (Some I32) (Some (v I32)) ((vr (AVariable (v I32)) false) ∷ (vr (AVariable (u U8)) false) ∷ (vr (Given I32) false) ∷ [])
    (t_braces (t_stmts ((t_simple (t_update op.Or I32 (t_element (ar 2 (u I32) false) (t_program_index (s 347 359)) (v I32) (s 344 360)) (t_call (t_called 0 (t_arguments ((t_by_name (ar 2 (u I32) false) (s 367 369)) ∷ [])) (s 364 370)) (u I32))
    (s 344 370)) (s 344 371)) ∷ (t_simple (t_update op.Xor U16 (t_variable 1 (u U8) (s 372 374)) (t_cast (t_convert U16 (t_cast (cn I32 4 (s 408 420)) (u I32) (s 395 420))) (u U16) (s 378 420)) (s 372 420)) (s 372 421)) ∷ [])) (s 342 423))) ∷
    (fn (Some I32) (Some (u I32)) ((vr (Given I32) false) ∷ (vr (Given U64) false) ∷ (vr (AVariable (u I32)) false) ∷ (vr (AVariable (v I32)) false) ∷ (vr (Local (u U64) 1) false) ∷ [])
    (t_braces (t_stmts ((t_declare ((t_with_value 3 (v I32) (t_call (t_called 0 (t_arguments ((t_by_name (ar 0 (u I32) false) (s 513 514)) ∷ [])) (s 510 515)) (u I32)) (s 506 515)) ∷ []) (s 502 516)) ∷
    (t_declare ((t_with_size (ar 4 (u U64) false) (s 540 545)) ∷ []) (s 517 546)) ∷
    (t_if Plain 5 (t_compare cmp.Less (t_unary un.Negate (t_place (t_variable 2 (u I32) (s 553 554))) (u I32) (s 551 554)) (cn I32 7 (s 557 558)) Uniform (s 551 558))
    (t_block (t_braces (t_stmts ((t_simple (t_value (t_library lib.Abs I32 (t_exprs ((cn I32 100 (s 566 569)) ∷ [])) (u I32) (s 562 570))) (s 562 571)) ∷ [])) (s 560 573))) (s 547 573)) ∷
    (t_simple (t_assign (t_element (ar 1 (u U64) false) (t_program_index (s 576 588)) (v U64) (s 574 589)) (t_convert U64 (t_place (t_variable 3 (v I32) (s 592 593)))) (s 574 593)) (s 574 594)) ∷
    (t_return (s 595 601) (Some (t_convert I32 (cn I64 4294967295 (s 602 612)))) (s 595 613)) ∷ [])) (s 500 615))) ∷ [])

abbrev arguments_126 : List Argument
arguments_126 = ((AnArray (rw I32 (4294967292 ∷ 4 ∷ 4294967287 ∷ 3250154215 ∷ 4294967291 ∷ 4294967293 ∷ []))) ∷ (AnArray (rw U64 (0 ∷ 0 ∷ 16686203797565420478 ∷ 0 ∷ 4 ∷ []))) ∷ (AValue (record { elem = I32; bits = 0 })) ∷ [])

run_126_of_0 : run_of program_126 3 0 arguments_126 ≡ Ends ((rw I32 (4294967295 ∷ 0 ∷ 4294967295 ∷ 4294967292 ∷ 4294967291 ∷ 4294967293 ∷ [])) ∷ (rw U64 (1 ∷ 1 ∷ 1 ∷ 1 ∷ 4 ∷ [])) ∷ []) (Some (record { elem = I32; bits = 4294967295 })) ([])
unfolding digits number_to wrap_to amount not_zero
run_126_of_0 = refl

work_126_of_0 : work_of program_126 3 0 arguments_126 ≡ 55
unfolding digits number_to wrap_to amount not_zero
work_126_of_0 = refl

-- export void f(uniform int32 a[], uniform int o[]) { int x = programIndex; ; o[(programIndex ^ (0x79153cf3adc3753c ^ x)) & 7] = g0() == g0(); o[programIndex] = x; }
-- varying signed g0() { ; return programIndex <= 2147483647 * programIndex; }
-- int32 g1(uniform int n2, signed p1) { if (n2 <= 0) return 2; p1 += g1(n2 - 1, false + 3); p1--; p1 -= g0() && p1 < p1 * g0(); return ~(g0()); }
-- void g2() { if (programIndex) { if (programIndex > 0b11101LL) return; g1((6) & 3, programIndex - programIndex); } else { ; g0(); int v3 = - g0(); } ; }
abbrev program_158 : Program
program_158 = pr W8 ((fn None None ((vr (Given I32) false) ∷ (vr (Given I32) false) ∷ (vr (AVariable (v I32)) false) ∷ [])
    (t_braces (t_stmts ((t_declare ((t_with_value 2 (v I32) (t_program_index (s 60 72)) (s 56 72)) ∷ []) (s 52 73)) ∷ (t_block (t_braces (t_stmts ([])) (s 74 75))) ∷
    (t_simple (t_assign (t_element (ar 1 (u I32) false)
    (t_binary op.And (t_cast (t_binary op.Xor (t_convert I64 (t_program_index (s 79 91)))
    (t_cast (t_binary op.Xor (cn I64 8724946870390191420 (s 95 113)) (t_convert I64 (t_place (t_variable 2 (v I32) (s 116 117)))) (v I64) (s 95 117)) (v I64) (s 94 118)) (v I64) (s 79 118)) (v I64) (s 78 119))
    (t_convert I64 (cn I32 7 (s 122 123))) (v I64) (s 78 123)) (v I32) (s 76 124))
    (t_convert I32 (t_compare cmp.Equal (t_call (t_called 1 (t_arguments ([])) (s 127 131)) (v I32)) (t_call (t_called 1 (t_arguments ([])) (s 135 139)) (v I32)) Varying (s 127 139))) (s 76 139)) (s 76 140)) ∷
    (t_simple (t_assign (t_element (ar 1 (u I32) false) (t_program_index (s 143 155)) (v I32) (s 141 156)) (t_place (t_variable 2 (v I32) (s 159 160))) (s 141 160)) (s 141 161)) ∷ [])) (s 50 163))) ∷
    (fn (Some I32) (Some (v I32)) ([]) (t_braces (t_stmts
    ((t_block (t_braces (t_stmts ([])) (s 186 187))) ∷
    (t_return (s 188 194) (Some (t_convert I32 (t_compare cmp.LessOrEqual (t_program_index (s 195 207)) (t_binary op.Mul (cn I32 2147483647 (s 211 221)) (t_program_index (s 224 236)) (v I32) (s 211 236)) Varying (s 195 236)))) (s 188 237)) ∷
    [])) (s 184 239))) ∷ (fn (Some I32) (Some (v I32)) ((vr (AVariable (u I32)) false) ∷ (vr (AVariable (v I32)) false) ∷ [])
    (t_braces (t_stmts ((t_if Plain 2 (t_compare cmp.LessOrEqual (t_place (t_variable 0 (u I32) (s 282 284))) (cn I32 0 (s 288 289)) Uniform (s 282 289)) (t_return (s 291 297) (Some (cn I32 2 (s 298 299))) (s 291 300)) (s 278 300)) ∷
    (t_simple (t_update op.Add I32 (t_variable 1 (v I32) (s 301 303))
    (t_call (t_called 2 (t_arguments ((t_by_value (t_binary op.Sub (t_place (t_variable 0 (u I32) (s 310 312))) (cn I32 1 (s 315 316)) (u I32) (s 310 316))) ∷
    (t_by_value (t_binary op.Add (t_convert I32 (cn Truth 0 (s 318 323))) (cn I32 3 (s 326 327)) (u I32) (s 318 327))) ∷ [])) (s 307 328)) (v I32)) (s 301 328)) (s 301 329)) ∷
    (t_simple (t_step op.Sub I32 (t_variable 1 (v I32) (s 330 332)) (s 330 334)) (s 330 335)) ∷
    (t_simple (t_update op.Sub I32 (t_variable 1 (v I32) (s 336 338))
    (t_convert I32 (t_logic logic.And (t_convert Truth (t_call (t_called 1 (t_arguments ([])) (s 342 346)) (v I32)))
    (t_compare cmp.Less (t_place (t_variable 1 (v I32) (s 350 352))) (t_binary op.Mul (t_place (t_variable 1 (v I32) (s 355 357))) (t_call (t_called 1 (t_arguments ([])) (s 360 364)) (v I32)) (v I32) (s 355 364)) Varying (s 350 364)) Varying
    (s 342 364))) (s 336 364)) (s 336 365)) ∷ (t_return (s 366 372) (Some (t_unary un.Invert (t_cast (t_call (t_called 1 (t_arguments ([])) (s 375 379)) (v I32)) (v I32) (s 374 380)) (v I32) (s 373 380))) (s 366 381)) ∷ [])) (s 276 383))) ∷
    (fn None None ((vr (AVariable (v I32)) false) ∷ [])
    (t_braces (t_stmts ((t_if_else Plain 0 (t_convert Truth (t_program_index (s 400 412)))
    (t_block (t_braces (t_stmts ((t_if Plain 0 (t_compare cmp.Greater (t_convert I64 (t_program_index (s 420 432))) (cn I64 29 (s 435 444)) Varying (s 420 444)) (t_return (s 446 452) None (s 446 453)) (s 416 453)) ∷
    (t_simple (t_value (t_call (t_called 2 (t_arguments
    ((t_by_value (t_binary op.And (t_cast (cn I32 6 (s 458 459)) (u I32) (s 457 460)) (cn I32 3 (s 463 464)) (u I32) (s 457 464))) ∷ (t_by_value (t_binary op.Sub (t_program_index (s 466 478)) (t_program_index (s 481 493)) (v I32) (s 466 493))) ∷
    [])) (s 454 494)) (v I32))) (s 454 495)) ∷ [])) (s 414 497)))
    (t_block (t_braces (t_stmts ((t_block (t_braces (t_stmts ([])) (s 505 506))) ∷ (t_simple (t_value (t_call (t_called 1 (t_arguments ([])) (s 507 511)) (v I32))) (s 507 512)) ∷
    (t_declare ((t_with_value 0 (v I32) (t_unary un.Negate (t_call (t_called 1 (t_arguments ([])) (s 524 528)) (v I32)) (v I32) (s 522 528)) (s 517 528)) ∷ []) (s 513 529)) ∷ [])) (s 503 531))) (s 396 531)) ∷
    (t_block (t_braces (t_stmts ([])) (s 532 533))) ∷ [])) (s 394 535))) ∷ [])

abbrev arguments_158 : List Argument
arguments_158 = ((AnArray (rw I32 (4 ∷ 2147483649 ∷ 2147483648 ∷ 2 ∷ 4294967290 ∷ 4294967291 ∷ 1072516447 ∷ 2147483649 ∷ 4 ∷ []))) ∷
    (AnArray (rw I32 (4294967287 ∷ 2147483648 ∷ 2147483648 ∷ 92706640 ∷ 4294967293 ∷ 2 ∷ 3539475631 ∷ 2705107110 ∷ 2147483647 ∷ 9 ∷ 4294967289 ∷ []))) ∷ [])

run_158_of_0 : run_of program_158 0 0 arguments_158
    ≡ Ends ((rw I32 (4 ∷ 2147483649 ∷ 2147483648 ∷ 2 ∷ 4294967290 ∷ 4294967291 ∷ 1072516447 ∷ 2147483649 ∷ 4 ∷ [])) ∷ (rw I32 (0 ∷ 1 ∷ 2 ∷ 3 ∷ 4 ∷ 5 ∷ 6 ∷ 7 ∷ 2147483647 ∷ 9 ∷ 4294967289 ∷ [])) ∷ []) None ([])
unfolding digits number_to wrap_to amount not_zero
run_158_of_0 = refl

work_158_of_0 : work_of program_158 0 0 arguments_158 ≡ 39
unfolding digits number_to wrap_to amount not_zero
work_158_of_0 = refl
