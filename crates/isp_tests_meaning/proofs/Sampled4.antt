-- Programs 36 to 47 of rows that were found outside, as theorems. Written by tools/sample_theorems.py.
use Rattle.std.specs.Prelude.{◌≡◌, true, false, List, [], ◌∷◌, Some, None}
use Rattle.std.proofs.Common.{refl}
use Rattle.std.specs.Fmt.{digits}
use Rattle.isp_base.specs.Values.{number_to, wrap_to, amount, not_zero}
use Rattle.isp_base.specs.Outcomes.{Ends, Traps, GoesOn}
use Rattle.isp_base.specs.Traps.{trap}
use Rattle.isp_base.specs.declared.types.Gang.TheVariants.{W4, W32}
use Rattle.isp_base.specs.declared.types.Elem.TheVariants.{Bool as Truth, I8, U8, I16, U16, I32, U32, I64, U64}
use Rattle.isp_base.specs.declared.types.Rate.TheVariants.{Uniform, Varying}
use Rattle.isp_base.specs.declared.trap.TrapKind.TheVariants as kind
use Rattle.isp_base.specs.declared.operators.BinOp.TheVariants as op
use Rattle.isp_base.specs.declared.operators.UnaryOp.TheVariants as un
use Rattle.isp_base.specs.declared.operators.Compare.TheVariants as cmp
use Rattle.isp_base.specs.declared.signature.Argument.{Argument}
use Rattle.isp_base.specs.declared.signature.Argument.TheVariants.{Array as AnArray, Value as AValue}
use Rattle.isp_tree.specs.declared.stmt.Form.TheVariants.{Plain}
use Rattle.isp_tree.specs.declared.stmt.Jump.TheVariants.{Break, Continue}
use Rattle.isp_typed.specs.declared.library.Library.TheVariants as lib
use Rattle.isp_typed.specs.declared.variable.Holds.TheVariants.{Value as AVariable, Given, Local}
use Rattle.isp_typed.specs.declared.variable.Logic.TheVariants as logic
use Rattle.isp_typed.specs.Typed.{t_program_index, t_place, t_convert, t_cast, t_unary, t_binary, t_compare, t_logic, t_choose, t_call, t_library, t_packed_store}
use Rattle.isp_typed.specs.Typed.{t_packed_load, t_variable, t_element, t_whole, t_by_value, t_called, t_arguments, t_exprs}
use Rattle.isp_typed.specs.Typed.{t_plain, t_with_value, t_with_size, t_value, t_run, t_assign, t_update, t_step}
use Rattle.isp_typed.specs.Typed.{t_block, t_declare, t_simple, t_if, t_if_else, t_for, t_foreach, t_foreach_active, t_foreach_unique, t_unmasked}
use Rattle.isp_typed.specs.Typed.{t_jump, t_return, t_print, t_braces, t_stmts, Program}
use Rattle.isp_meaning.specs.Runs.{run_of, work_of}
use Rattle.isp_tests_meaning.specs.Terms.{s, u, v, cn, ar, rg, vr, rw, fn, pr}

-- unique_programs: unique 208
-- export uniform uint32 f(uniform signed a[], uniform unsigned int o[]) { int x = o[(65535 & o[programIndex]) & 3]; foreach_unique (u1 in ((8)) & 3)
-- { if (programIndex == 3) continue; { x <<= max(x == programIndex >= (uint32) 0, (signed int8) a[(u1) & 3] || (uint64) u1); } int t2[4]; { int
-- k3 = 0; for (;;) { if (k3 > 0) break; k3 += programIndex + 1; ; t2[((varying unsigned int16) x) & 3] &= exclusive_scan_and(programIndex + k3
-- >= programIndex + x); } } } int16 v4 = programIndex >= ((x)); uint v5 = o[programIndex] | x & ! 4294967296 >= v4 >> x > (int32) v4;
-- a[programIndex] += x; return reduce_add(programIndex) ^ a[2] ^ o[((a[(4u + a[3]) & 3]) / (5 | 1)) & 3]; }
abbrev program_36 : Program
program_36 = pr W4 ((fn (Some U32) (Some (u U32)) ((vr (Given I32) false) ∷ (vr (Given U32) false) ∷ (vr (AVariable (v I32)) false) ∷ (vr (AVariable
    (u I32)) true) ∷ (vr (Local (v I32) 4) false) ∷ (vr (AVariable (v I32)) false) ∷ (vr (AVariable (v I16)) false) ∷ (vr (AVariable (v U32)) false) ∷
    []) (t_braces (t_stmts ((t_declare ((t_with_value 2 (v I32) (t_convert I32 (t_place (t_element (ar 1 (u U32) false) (t_binary op.And (t_cast
    (t_binary op.And (t_convert U32 (cn I32 65535 (s 83 88))) (t_place (t_element (ar 1 (u U32) false) (t_program_index (s 93 105)) (v U32) (s 91
    106))) (v U32) (s 83 106)) (v U32) (s 82 107)) (t_convert U32 (cn I32 3 (s 110 111))) (v U32) (s 82 111)) (v U32) (s 80 112)))) (s 76 112)) ∷ [])
    (s 72 113)) ∷ (t_foreach_unique (s 114 128) 3 3 I32 (t_binary op.And (t_cast (t_cast (cn I32 8 (s 138 139)) (u I32) (s 137 140)) (u I32) (s 136
    141)) (cn I32 3 (s 144 145)) (u I32) (s 136 145)) (t_block (t_braces (t_stmts ((t_if Plain 4 (t_compare cmp.Equal (t_program_index (s 153 165))
    (cn I32 3 (s 169 170)) Varying (s 153 170)) (t_jump Continue (s 172 180) (s 172 181)) (s 149 181)) ∷ (t_block (t_braces (t_stmts ((t_simple
    (t_update op.Shl I32 (t_variable 2 (v I32) (s 185 186)) (t_library lib.Max I32 (t_exprs ((t_convert I32 (t_compare cmp.Equal (t_place (t_variable
    2 (v I32) (s 195 196))) (t_convert I32 (t_compare cmp.GreaterOrEqual (t_convert U32 (t_program_index (s 200 212))) (t_cast (t_convert U32 (cn I32
    0 (s 225 226))) (u U32) (s 216 226)) Varying (s 200 226))) Varying (s 195 226))) ∷ (t_convert I32 (t_logic logic.Or (t_convert Truth (t_cast
    (t_convert I8 (t_place (t_element (ar 0 (u I32) false) (t_binary op.And (t_cast (t_place (t_variable 3 (u I32) (s 245 247))) (u I32) (s 244 248))
    (cn I32 3 (s 251 252)) (u I32) (s 244 252)) (u I32) (s 242 253)))) (u I8) (s 228 253))) (t_convert Truth (t_cast (t_convert U64 (t_place
    (t_variable 3 (u I32) (s 266 268)))) (u U64) (s 257 268))) Uniform (s 228 268))) ∷ [])) (v I32) (s 191 269)) (s 185 269)) (s 185 270)) ∷ [])) (s
    183 272))) ∷ (t_declare ((t_with_size (ar 4 (v I32) false) (s 277 282)) ∷ []) (s 273 283)) ∷ (t_block (t_braces (t_stmts ((t_declare
    ((t_with_value 5 (v I32) (cn I32 0 (s 295 296)) (s 290 296)) ∷ []) (s 286 297)) ∷ (t_for Plain 6 None None None 6 (t_block (t_braces (t_stmts
    ((t_if Plain 6 (t_compare cmp.Greater (t_place (t_variable 5 (v I32) (s 313 315))) (cn I32 0 (s 318 319)) Varying (s 313 319)) (t_jump Break (s
    321 326) (s 321 327)) (s 309 327)) ∷ (t_simple (t_update op.Add I32 (t_variable 5 (v I32) (s 328 330)) (t_binary op.Add (t_program_index (s 334
    346)) (cn I32 1 (s 349 350)) (v I32) (s 334 350)) (s 328 350)) (s 328 351)) ∷ (t_block (t_braces (t_stmts ([])) (s 353 354))) ∷ (t_simple
    (t_update op.And I32 (t_element (ar 4 (v I32) false) (t_binary op.And (t_convert I32 (t_cast (t_cast (t_convert U16 (t_place (t_variable 2 (v I32)
    (s 384 385)))) (v U16) (s 359 385)) (v U16) (s 358 386))) (cn I32 3 (s 389 390)) (v I32) (s 358 390)) (v I32) (s 355 391)) (t_library lib.ScanAnd
    I32 (t_exprs ((t_convert I32 (t_compare cmp.GreaterOrEqual (t_binary op.Add (t_program_index (s 414 426)) (t_place (t_variable 5 (v I32) (s 429
    431))) (v I32) (s 414 431)) (t_binary op.Add (t_program_index (s 435 447)) (t_place (t_variable 2 (v I32) (s 450 451))) (v I32) (s 435 451))
    Varying (s 414 451))) ∷ [])) (v I32) (s 395 452)) (s 355 452)) (s 355 453)) ∷ [])) (s 307 455))) (s 298 455)) ∷ [])) (s 284 457))) ∷ [])) (s 147
    459))) (s 114 459)) ∷ (t_declare ((t_with_value 6 (v I16) (t_convert I16 (t_compare cmp.GreaterOrEqual (t_program_index (s 471 483)) (t_cast
    (t_cast (t_place (t_variable 2 (v I32) (s 489 490))) (v I32) (s 488 491)) (v I32) (s 487 492)) Varying (s 471 492))) (s 466 492)) ∷ []) (s 460
    493)) ∷ (t_declare ((t_with_value 7 (v U32) (t_binary op.Or (t_place (t_element (ar 1 (u U32) false) (t_program_index (s 506 518)) (v U32) (s 504
    519))) (t_convert U32 (t_binary op.And (t_place (t_variable 2 (v I32) (s 522 523))) (t_convert I32 (t_compare cmp.Greater (t_convert I32
    (t_compare cmp.GreaterOrEqual (t_convert I32 (t_unary un.Not (t_convert Truth (cn I64 4294967296 (s 528 538))) (u Truth) (s 526 538))) (t_binary
    op.Shr (t_convert I32 (t_place (t_variable 6 (v I16) (s 542 544)))) (t_place (t_variable 2 (v I32) (s 548 549))) (v I32) (s 542 549)) Varying (s
    526 549))) (t_cast (t_convert I32 (t_place (t_variable 6 (v I16) (s 560 562)))) (v I32) (s 552 562)) Varying (s 526 562))) (v I32) (s 522 562)))
    (v U32) (s 504 562)) (s 499 562)) ∷ []) (s 494 563)) ∷ (t_simple (t_update op.Add I32 (t_element (ar 0 (u I32) false) (t_program_index (s 566
    578)) (v I32) (s 564 579)) (t_place (t_variable 2 (v I32) (s 583 584))) (s 564 584)) (s 564 585)) ∷ (t_return (s 586 592) (Some (t_convert U32
    (t_binary op.Xor (t_binary op.Xor (t_library lib.ReduceAdd I32 (t_exprs ((t_program_index (s 604 616)) ∷ [])) (u I64) (s 593 617)) (t_convert I64
    (t_place (t_element (ar 0 (u I32) false) (cn I32 2 (s 622 623)) (u I32) (s 620 624)))) (u I64) (s 593 624)) (t_convert I64 (t_place (t_element (ar
    1 (u U32) false) (t_binary op.And (t_cast (t_binary op.Div (t_cast (t_place (t_element (ar 0 (u I32) false) (t_binary op.And (t_cast (t_binary
    op.Add (cn U32 4 (s 634 636)) (t_convert U32 (t_place (t_element (ar 0 (u I32) false) (cn I32 3 (s 641 642)) (u I32) (s 639 643)))) (u U32) (s 634
    643)) (u U32) (s 633 644)) (t_convert U32 (cn I32 3 (s 647 648))) (u U32) (s 633 648)) (u I32) (s 631 649))) (u I32) (s 630 650)) (t_cast
    (t_binary op.Or (cn I32 5 (s 654 655)) (cn I32 1 (s 658 659)) (u I32) (s 654 659)) (u I32) (s 653 660)) (u I32) (s 630 660)) (u I32) (s 629 661))
    (cn I32 3 (s 664 665)) (u I32) (s 629 665)) (u U32) (s 627 666)))) (u I64) (s 593 666)))) (s 586 667)) ∷ [])) (s 70 669))) ∷ [])

abbrev arguments_36 : List Argument
arguments_36 = ((AnArray (rw I32 (9 ∷ 2930357846 ∷ 5 ∷ 2147483647 ∷ 7 ∷ []))) ∷ (AnArray (rw U32 (3 ∷ 2224271617 ∷ 8 ∷ 4 ∷ []))) ∷ [])

run_36_of_1 : run_of program_36 0 1 arguments_36 ≡ GoesOn ([])
unfolding digits number_to wrap_to amount not_zero
run_36_of_1 = refl

work_36_of_1 : work_of program_36 0 1 arguments_36 ≡ 75
unfolding digits number_to wrap_to amount not_zero
work_36_of_1 = refl

run_36_of_2 : run_of program_36 0 2 arguments_36 ≡ Ends ((rw I32 (17 ∷ 3083933784 ∷ 11 ∷ 2147483650 ∷ 7 ∷ [])) ∷ (rw U32 (3 ∷ 2224271617 ∷ 8 ∷ 4 ∷
    [])) ∷ []) (Some (record { elem = U32; bits = 5 })) ([])
unfolding digits number_to wrap_to amount not_zero
run_36_of_2 = refl

work_36_of_2 : work_of program_36 0 2 arguments_36 ≡ 134
unfolding digits number_to wrap_to amount not_zero
work_36_of_2 = refl

-- unique_programs: unique 338
-- export void f(uniform int a[], uniform unsigned int o[], uniform unsigned int16 n) { int x = abs(7 < n); { unmasked { --n; n -= n; ; }
-- foreach_unique (u1 in 9 ^ n || (7 ? n : n)) { x = u1; x -= !(programCount << u1); print("\t%z\n", x | programIndex == !(programCount)); } ++n;
-- } unmasked { foreach_active (i2) { ; } foreach_unique (u3 in ((broadcast(x, -2) ? 80ULL == x : n)) < n + x) { if (programIndex == 3) continue;
-- n *= programCount; } } a[programIndex] += x; }
abbrev program_37 : Program
program_37 = pr W4 ((fn None None ((vr (Given I32) false) ∷ (vr (Given U32) false) ∷ (vr (AVariable (u U16)) false) ∷ (vr (AVariable (v I32)) false) ∷
    (vr (AVariable (u Truth)) true) ∷ (vr (AVariable (u I64)) true) ∷ (vr (AVariable (u Truth)) true) ∷ []) (t_braces (t_stmts ((t_declare
    ((t_with_value 3 (v I32) (t_library lib.Abs I32 (t_exprs ((t_convert I32 (t_compare cmp.Less (cn I32 7 (s 97 98)) (t_convert I32 (t_place
    (t_variable 2 (u U16) (s 101 102)))) Uniform (s 97 102))) ∷ [])) (u I32) (s 93 103)) (s 89 103)) ∷ []) (s 85 104)) ∷ (t_block (t_braces (t_stmts
    ((t_unmasked (s 107 115) (t_braces (t_stmts ((t_simple (t_step op.Sub I32 (t_variable 2 (u U16) (s 120 121)) (s 118 121)) (s 118 122)) ∷ (t_simple
    (t_update op.Sub U16 (t_variable 2 (u U16) (s 123 124)) (t_place (t_variable 2 (u U16) (s 128 129))) (s 123 129)) (s 123 130)) ∷ (t_block
    (t_braces (t_stmts ([])) (s 131 132))) ∷ [])) (s 116 134)) (s 107 134)) ∷ (t_foreach_unique (s 135 149) 4 4 Truth (t_convert I32 (t_logic logic.Or
    (t_convert Truth (t_binary op.Xor (cn I32 9 (s 157 158)) (t_convert I32 (t_place (t_variable 2 (u U16) (s 161 162)))) (u I32) (s 157 162)))
    (t_convert Truth (t_cast (t_choose (t_convert Truth (cn I32 7 (s 167 168))) (t_place (t_variable 2 (u U16) (s 171 172))) (t_place (t_variable 2 (u
    U16) (s 175 176))) (u U16) (s 167 176)) (u U16) (s 166 177))) Uniform (s 157 177))) (t_block (t_braces (t_stmts ((t_simple (t_assign (t_variable 3
    (v I32) (s 181 182)) (t_convert I32 (t_place (t_variable 4 (u Truth) (s 185 187)))) (s 181 187)) (s 181 188)) ∷ (t_simple (t_update op.Sub I32
    (t_variable 3 (v I32) (s 190 191)) (t_convert I32 (t_unary un.Not (t_convert Truth (t_cast (t_binary op.Shl (cn I32 4 (s 197 209)) (t_convert I32
    (t_place (t_variable 4 (u Truth) (s 213 215)))) (u I32) (s 197 215)) (u I32) (s 196 216))) (u Truth) (s 195 216))) (s 190 216)) (s 190 217)) ∷
    (t_print (s 218 223) (9 ∷ 37 ∷ 122 ∷ 10 ∷ []) ((t_binary op.Or (t_place (t_variable 3 (v I32) (s 234 235))) (t_convert I32 (t_compare cmp.Equal
    (t_program_index (s 238 250)) (t_convert I32 (t_unary un.Not (t_convert Truth (t_cast (cn I32 4 (s 256 268)) (u I32) (s 255 269))) (u Truth) (s
    254 269))) Varying (s 238 269))) (v I32) (s 234 269)) ∷ []) (s 218 271)) ∷ [])) (s 179 273))) (s 135 273)) ∷ (t_simple (t_step op.Add I32
    (t_variable 2 (u U16) (s 276 277)) (s 274 277)) (s 274 278)) ∷ [])) (s 105 280))) ∷ (t_unmasked (s 281 289) (t_braces (t_stmts ((t_foreach_active
    (s 292 306) 5 5 (t_block (t_braces (t_stmts ((t_block (t_braces (t_stmts ([])) (s 314 315))) ∷ [])) (s 312 317))) (s 292 317)) ∷ (t_foreach_unique
    (s 318 332) 6 6 Truth (t_convert I32 (t_compare cmp.Less (t_cast (t_cast (t_choose (t_convert Truth (t_library lib.Broadcast I32 (t_exprs
    ((t_place (t_variable 3 (v I32) (s 352 353))) ∷ (t_unary un.Negate (cn I32 2 (s 356 357)) (u I32) (s 355 357)) ∷ [])) (v I32) (s 342 358)))
    (t_convert I32 (t_compare cmp.Equal (cn U64 80 (s 361 366)) (t_convert U64 (t_place (t_variable 3 (v I32) (s 370 371)))) Varying (s 361 371)))
    (t_convert I32 (t_place (t_variable 2 (u U16) (s 374 375)))) (v I32) (s 342 375)) (v I32) (s 341 376)) (v I32) (s 340 377)) (t_binary op.Add
    (t_convert I32 (t_place (t_variable 2 (u U16) (s 380 381)))) (t_place (t_variable 3 (v I32) (s 384 385))) (v I32) (s 380 385)) Varying (s 340
    385))) (t_block (t_braces (t_stmts ((t_if Plain 7 (t_compare cmp.Equal (t_program_index (s 393 405)) (cn I32 3 (s 409 410)) Varying (s 393 410))
    (t_jump Continue (s 412 420) (s 412 421)) (s 389 421)) ∷ (t_simple (t_update op.Mul I32 (t_variable 2 (u U16) (s 423 424)) (cn I32 4 (s 428 440))
    (s 423 440)) (s 423 441)) ∷ [])) (s 387 443))) (s 318 443)) ∷ [])) (s 290 445)) (s 281 445)) ∷ (t_simple (t_update op.Add I32 (t_element (ar 0 (u
    I32) false) (t_program_index (s 448 460)) (v I32) (s 446 461)) (t_place (t_variable 3 (v I32) (s 465 466))) (s 446 466)) (s 446 467)) ∷ [])) (s 83
    469))) ∷ [])

abbrev arguments_37 : List Argument
arguments_37 = ((AnArray (rw I32 (2147483646 ∷ 9 ∷ 0 ∷ 0 ∷ 1 ∷ []))) ∷ (AnArray (rw U32 (3 ∷ 3 ∷ 9 ∷ 2 ∷ []))) ∷ (AValue
    (record { elem = U16; bits = 1 })) ∷ [])

run_37_of_0 : run_of program_37 0 0 arguments_37 ≡ Ends ((rw I32 (2147483647 ∷ 10 ∷ 1 ∷ 1 ∷ 1 ∷ [])) ∷ (rw U32 (3 ∷ 3 ∷ 9 ∷ 2 ∷ [])) ∷ []) None (9 ∷
    91 ∷ 49 ∷ 44 ∷ 49 ∷ 44 ∷ 49 ∷ 44 ∷ 49 ∷ 93 ∷ 122 ∷ 10 ∷ [])
unfolding digits number_to wrap_to amount not_zero
run_37_of_0 = refl

work_37_of_0 : work_of program_37 0 0 arguments_37 ≡ 87
unfolding digits number_to wrap_to amount not_zero
work_37_of_0 = refl

-- wide_programs: expr 410
-- export uniform int16 f(uniform int32 a[], uniform signed o[]) { int x = a[programIndex] <= o[programIndex] >= o[(programIndex ^ (a[programIndex]
-- >= o[28])) & 31] < 5; 0x2 + o[(programIndex ^ (x << programIndex)) & 31]; x &= min((! x) / (((!(5) | 1)) | 1), abs(x)); int32 t1[5];
-- t1[(programIndex ^ (29u)) & 3] ^= x; x--; a[programIndex] += x; return clamp((a[((int) a[8]) & 31]) % (0 | 1), a[(o[((o[17]) % (a[33] | 1)) &
-- 31] < o[30]) & 31] != 2, o[((unsigned int8) o[14]) & 31] >= a[21]); }
abbrev program_38 : Program
program_38 = pr W32 ((fn (Some I16) (Some (u I16)) ((vr (Given I32) false) ∷ (vr (Given I32) false) ∷ (vr (AVariable (v I32)) false) ∷ (vr (Local (v
    I32) 5) false) ∷ []) (t_braces (t_stmts ((t_declare ((t_with_value 2 (v I32) (t_convert I32 (t_compare cmp.Less (t_convert I32 (t_compare
    cmp.GreaterOrEqual (t_convert I32 (t_compare cmp.LessOrEqual (t_place (t_element (ar 0 (u I32) false) (t_program_index (s 74 86)) (v I32) (s 72
    87))) (t_place (t_element (ar 1 (u I32) false) (t_program_index (s 93 105)) (v I32) (s 91 106))) Varying (s 72 106))) (t_place (t_element (ar 1 (u
    I32) false) (t_binary op.And (t_cast (t_binary op.Xor (t_program_index (s 113 125)) (t_convert I32 (t_cast (t_compare cmp.GreaterOrEqual (t_place
    (t_element (ar 0 (u I32) false) (t_program_index (s 131 143)) (v I32) (s 129 144))) (t_place (t_element (ar 1 (u I32) false) (cn I32 28 (s 150
    152)) (u I32) (s 148 153))) Varying (s 129 153)) (v Truth) (s 128 154))) (v I32) (s 113 154)) (v I32) (s 112 155)) (cn I32 31 (s 158 160)) (v I32)
    (s 112 160)) (v I32) (s 110 161))) Varying (s 72 161))) (cn I32 5 (s 164 165)) Varying (s 72 165))) (s 68 165)) ∷ []) (s 64 166)) ∷ (t_simple
    (t_value (t_binary op.Add (cn I32 2 (s 167 170)) (t_place (t_element (ar 1 (u I32) false) (t_binary op.And (t_cast (t_binary op.Xor
    (t_program_index (s 176 188)) (t_cast (t_binary op.Shl (t_place (t_variable 2 (v I32) (s 192 193))) (t_program_index (s 197 209)) (v I32) (s 192
    209)) (v I32) (s 191 210)) (v I32) (s 176 210)) (v I32) (s 175 211)) (cn I32 31 (s 214 216)) (v I32) (s 175 216)) (v I32) (s 173 217))) (v I32) (s
    167 217))) (s 167 218)) ∷ (t_simple (t_update op.And I32 (t_variable 2 (v I32) (s 219 220)) (t_library lib.Min I32 (t_exprs ((t_binary op.Div
    (t_convert I32 (t_cast (t_unary un.Not (t_convert Truth (t_place (t_variable 2 (v I32) (s 231 232)))) (v Truth) (s 229 232)) (v Truth) (s 228
    233))) (t_cast (t_binary op.Or (t_cast (t_cast (t_binary op.Or (t_convert I32 (t_unary un.Not (t_convert Truth (t_cast (cn I32 5 (s 241 242)) (u
    I32) (s 240 243))) (u Truth) (s 239 243))) (cn I32 1 (s 246 247)) (u I32) (s 239 247)) (u I32) (s 238 248)) (u I32) (s 237 249)) (cn I32 1 (s 252
    253)) (u I32) (s 237 253)) (u I32) (s 236 254)) (v I32) (s 228 254)) ∷ (t_library lib.Abs I32 (t_exprs ((t_place (t_variable 2 (v I32) (s 260
    261))) ∷ [])) (v I32) (s 256 262)) ∷ [])) (v I32) (s 224 263)) (s 219 263)) (s 219 264)) ∷ (t_declare ((t_with_size (ar 3 (v I32) false) (s 271
    276)) ∷ []) (s 265 277)) ∷ (t_simple (t_update op.Xor I32 (t_element (ar 3 (v I32) false) (t_binary op.And (t_cast (t_binary op.Xor (t_convert U32
    (t_program_index (s 282 294))) (t_cast (cn U32 29 (s 298 301)) (u U32) (s 297 302)) (v U32) (s 282 302)) (v U32) (s 281 303)) (t_convert U32 (cn
    I32 3 (s 306 307))) (v U32) (s 281 307)) (v I32) (s 278 308)) (t_place (t_variable 2 (v I32) (s 312 313))) (s 278 313)) (s 278 314)) ∷ (t_simple
    (t_step op.Sub I32 (t_variable 2 (v I32) (s 315 316)) (s 315 318)) (s 315 319)) ∷ (t_simple (t_update op.Add I32 (t_element (ar 0 (u I32) false)
    (t_program_index (s 322 334)) (v I32) (s 320 335)) (t_place (t_variable 2 (v I32) (s 339 340))) (s 320 340)) (s 320 341)) ∷ (t_return (s 342 348)
    (Some (t_convert I16 (t_library lib.Clamp I32 (t_exprs ((t_binary op.Rem (t_cast (t_place (t_element (ar 0 (u I32) false) (t_binary op.And (t_cast
    (t_cast (t_place (t_element (ar 0 (u I32) false) (cn I32 8 (s 367 368)) (u I32) (s 365 369))) (u I32) (s 359 369)) (u I32) (s 358 370)) (cn I32 31
    (s 373 375)) (u I32) (s 358 375)) (u I32) (s 356 376))) (u I32) (s 355 377)) (t_cast (t_binary op.Or (cn I32 0 (s 381 382)) (cn I32 1 (s 385 386))
    (u I32) (s 381 386)) (u I32) (s 380 387)) (u I32) (s 355 387)) ∷ (t_convert I32 (t_compare cmp.NotEqual (t_place (t_element (ar 0 (u I32) false)
    (t_binary op.And (t_convert I32 (t_cast (t_compare cmp.Less (t_place (t_element (ar 1 (u I32) false) (t_binary op.And (t_cast (t_binary op.Rem
    (t_cast (t_place (t_element (ar 1 (u I32) false) (cn I32 17 (s 398 400)) (u I32) (s 396 401))) (u I32) (s 395 402)) (t_cast (t_binary op.Or
    (t_place (t_element (ar 0 (u I32) false) (cn I32 33 (s 408 410)) (u I32) (s 406 411))) (cn I32 1 (s 414 415)) (u I32) (s 406 415)) (u I32) (s 405
    416)) (u I32) (s 395 416)) (u I32) (s 394 417)) (cn I32 31 (s 420 422)) (u I32) (s 394 422)) (u I32) (s 392 423))) (t_place (t_element (ar 1 (u
    I32) false) (cn I32 30 (s 428 430)) (u I32) (s 426 431))) Uniform (s 392 431)) (u Truth) (s 391 432))) (cn I32 31 (s 435 437)) (u I32) (s 391
    437)) (u I32) (s 389 438))) (cn I32 2 (s 442 443)) Uniform (s 389 443))) ∷ (t_convert I32 (t_compare cmp.GreaterOrEqual (t_place (t_element (ar 1
    (u I32) false) (t_binary op.And (t_convert I32 (t_cast (t_cast (t_convert U8 (t_place (t_element (ar 1 (u I32) false) (cn I32 14 (s 466 468)) (u
    I32) (s 464 469)))) (u U8) (s 448 469)) (u U8) (s 447 470))) (cn I32 31 (s 473 475)) (u I32) (s 447 475)) (u I32) (s 445 476))) (t_place
    (t_element (ar 0 (u I32) false) (cn I32 21 (s 482 484)) (u I32) (s 480 485))) Uniform (s 445 485))) ∷ [])) (u I32) (s 349 486)))) (s 342 487)) ∷
    [])) (s 62 489))) ∷ [])

abbrev arguments_38 : List Argument
arguments_38 = ((AnArray (rw I32 (6 ∷ 2147483648 ∷ 1 ∷ 4294967292 ∷ 4294967291 ∷ 4294967289 ∷ 2147483648 ∷ 4 ∷ 1 ∷ 0 ∷ 2935653411 ∷ 4294967288 ∷
    4294967287 ∷ 2147483647 ∷ 9 ∷ 4222870368 ∷ 6 ∷ 1 ∷ 2147483648 ∷ 577251359 ∷ 2930404987 ∷ 2 ∷ 3134430443 ∷ 7 ∷ 7 ∷ 2147483647 ∷ 1591260580 ∷ 4 ∷
    4294967291 ∷ 4294967290 ∷ 4294967295 ∷ 3997977004 ∷ 2147483649 ∷ 4294967291 ∷ 4294967294 ∷ []))) ∷ (AnArray (rw I32 (4294967288 ∷ 8 ∷ 2797104364 ∷
    2147483646 ∷ 2 ∷ 4294967293 ∷ 4294967291 ∷ 3 ∷ 4294967287 ∷ 7 ∷ 4294967292 ∷ 2147483648 ∷ 4294967295 ∷ 4 ∷ 3211076468 ∷ 2147483648 ∷ 2147483648 ∷
    2 ∷ 2147483647 ∷ 2 ∷ 2147483646 ∷ 2147483648 ∷ 8 ∷ 2147483648 ∷ 4294967291 ∷ 4294967289 ∷ 6 ∷ 5 ∷ 4294967295 ∷ 4294967294 ∷ 4 ∷ 6 ∷ 2147483647 ∷ 8
    ∷ 2147483647 ∷ 0 ∷ []))) ∷ [])

run_38_of_0 : run_of program_38 0 0 arguments_38 ≡ Ends ((rw I32 (5 ∷ 2147483647 ∷ 0 ∷ 4294967291 ∷ 4294967290 ∷ 4294967288 ∷ 2147483647 ∷ 3 ∷ 0 ∷
    4294967295 ∷ 2935653410 ∷ 4294967287 ∷ 4294967286 ∷ 2147483646 ∷ 8 ∷ 4222870367 ∷ 5 ∷ 0 ∷ 2147483647 ∷ 577251358 ∷ 2930404986 ∷ 1 ∷ 3134430442 ∷ 6
    ∷ 6 ∷ 2147483646 ∷ 1591260579 ∷ 3 ∷ 4294967290 ∷ 4294967289 ∷ 4294967294 ∷ 3997977003 ∷ 2147483649 ∷ 4294967291 ∷ 4294967294 ∷ [])) ∷ (rw I32
    (4294967288 ∷ 8 ∷ 2797104364 ∷ 2147483646 ∷ 2 ∷ 4294967293 ∷ 4294967291 ∷ 3 ∷ 4294967287 ∷ 7 ∷ 4294967292 ∷ 2147483648 ∷ 4294967295 ∷ 4 ∷
    3211076468 ∷ 2147483648 ∷ 2147483648 ∷ 2 ∷ 2147483647 ∷ 2 ∷ 2147483646 ∷ 2147483648 ∷ 8 ∷ 2147483648 ∷ 4294967291 ∷ 4294967289 ∷ 6 ∷ 5 ∷
    4294967295 ∷ 4294967294 ∷ 4 ∷ 6 ∷ 2147483647 ∷ 8 ∷ 2147483647 ∷ 0 ∷ [])) ∷ []) (Some (record { elem = I16; bits = 1 })) ([])
unfolding digits number_to wrap_to amount not_zero
run_38_of_0 = refl

work_38_of_0 : work_of program_38 0 0 arguments_38 ≡ 120
unfolding digits number_to wrap_to amount not_zero
work_38_of_0 = refl

-- wide_programs: foreach 875
-- export uniform int f(uniform int32 a[], uniform int16 o[], uniform signed int z[]) { int x = a[programIndex] > 65535 == 4294967296; !(x); foreach
-- (i1 = 0 ... 3, i2 = 0 ... 0) { o[programIndex] <<= ((x + x)) / ((programIndex) | 1); o[programIndex] *= (int16) i2; } a[programIndex] += x;
-- return 0x67ac4ccbu; }
abbrev program_39 : Program
program_39 = pr W32 ((fn (Some I32) (Some (u I32)) ((vr (Given I32) false) ∷ (vr (Given I16) false) ∷ (vr (Given I32) false) ∷ (vr (AVariable (v I32))
    false) ∷ (vr (AVariable (v I32)) true) ∷ (vr (AVariable (v I32)) true) ∷ []) (t_braces (t_stmts ((t_declare ((t_with_value 3 (v I32) (t_convert
    I32 (t_compare cmp.Equal (t_convert I64 (t_compare cmp.Greater (t_place (t_element (ar 0 (u I32) false) (t_program_index (s 95 107)) (v I32) (s 93
    108))) (cn I32 65535 (s 111 116)) Varying (s 93 116))) (cn I64 4294967296 (s 120 130)) Varying (s 93 130))) (s 89 130)) ∷ []) (s 85 131)) ∷
    (t_simple (t_value (t_unary un.Not (t_convert Truth (t_cast (t_place (t_variable 3 (v I32) (s 134 135))) (v I32) (s 133 136))) (v Truth) (s 132
    136))) (s 132 137)) ∷ (t_foreach (s 138 145) 4 ((rg 4 (cn I32 0 (s 152 153)) (cn I32 3 (s 158 159)) (s 147 159)) ∷ (rg 5 (cn I32 0 (s 166 167))
    (cn I32 0 (s 172 173)) (s 161 173)) ∷ []) (t_block (t_braces (t_stmts ((t_simple (t_update op.Shl I32 (t_element (ar 1 (u I16) false)
    (t_program_index (s 179 191)) (v I16) (s 177 192)) (t_binary op.Div (t_cast (t_cast (t_binary op.Add (t_place (t_variable 3 (v I32) (s 199 200)))
    (t_place (t_variable 3 (v I32) (s 203 204))) (v I32) (s 199 204)) (v I32) (s 198 205)) (v I32) (s 197 206)) (t_cast (t_binary op.Or (t_cast
    (t_program_index (s 211 223)) (v I32) (s 210 224)) (cn I32 1 (s 227 228)) (v I32) (s 210 228)) (v I32) (s 209 229)) (v I32) (s 197 229)) (s 177
    229)) (s 177 230)) ∷ (t_simple (t_update op.Mul I16 (t_element (ar 1 (u I16) false) (t_program_index (s 233 245)) (v I16) (s 231 246)) (t_cast
    (t_convert I16 (t_place (t_variable 5 (v I32) (s 258 260)))) (v I16) (s 250 260)) (s 231 260)) (s 231 261)) ∷ [])) (s 175 263))) (s 138 263)) ∷
    (t_simple (t_update op.Add I32 (t_element (ar 0 (u I32) false) (t_program_index (s 266 278)) (v I32) (s 264 279)) (t_place (t_variable 3 (v I32)
    (s 283 284))) (s 264 284)) (s 264 285)) ∷ (t_return (s 286 292) (Some (t_convert I32 (cn U32 1739345099 (s 293 304)))) (s 286 305)) ∷ [])) (s 83
    307))) ∷ [])

abbrev arguments_39 : List Argument
arguments_39 = ((AnArray (rw I32 (8 ∷ 3597116053 ∷ 1750680315 ∷ 1547258701 ∷ 2147483646 ∷ 2598540046 ∷ 1008440924 ∷ 1231434120 ∷ 4294967291 ∷
    4228543173 ∷ 4294967291 ∷ 2147483648 ∷ 2147483649 ∷ 3540430691 ∷ 2147483649 ∷ 4294967295 ∷ 2909789314 ∷ 2 ∷ 0 ∷ 1034451045 ∷ 2147483646 ∷ 4 ∷
    4294967295 ∷ 3 ∷ 4294967291 ∷ 1 ∷ 6 ∷ 4294967294 ∷ 0 ∷ 0 ∷ 4294967288 ∷ 50177927 ∷ 3809457814 ∷ 4294967288 ∷ 2147483646 ∷ 2147483647 ∷ []))) ∷
    (AnArray (rw I16 (65531 ∷ 4 ∷ 65528 ∷ 6 ∷ 65527 ∷ 32766 ∷ 9 ∷ 32769 ∷ 8 ∷ 65528 ∷ 65534 ∷ 32768 ∷ 6 ∷ 8 ∷ 54530 ∷ 65533 ∷ 65535 ∷ 5 ∷ 32769 ∷ 4 ∷
    65528 ∷ 16120 ∷ 8 ∷ 16931 ∷ 3 ∷ 8 ∷ 65528 ∷ 65533 ∷ 32767 ∷ 65531 ∷ 65533 ∷ 65527 ∷ []))) ∷ (AnArray (rw I32 (4294967292 ∷ 4294967289 ∷ []))) ∷
    [])

run_39_of_0 : run_of program_39 0 0 arguments_39 ≡ Ends ((rw I32 (8 ∷ 3597116053 ∷ 1750680315 ∷ 1547258701 ∷ 2147483646 ∷ 2598540046 ∷ 1008440924 ∷
    1231434120 ∷ 4294967291 ∷ 4228543173 ∷ 4294967291 ∷ 2147483648 ∷ 2147483649 ∷ 3540430691 ∷ 2147483649 ∷ 4294967295 ∷ 2909789314 ∷ 2 ∷ 0 ∷
    1034451045 ∷ 2147483646 ∷ 4 ∷ 4294967295 ∷ 3 ∷ 4294967291 ∷ 1 ∷ 6 ∷ 4294967294 ∷ 0 ∷ 0 ∷ 4294967288 ∷ 50177927 ∷ 3809457814 ∷ 4294967288 ∷
    2147483646 ∷ 2147483647 ∷ [])) ∷ (rw I16 (65531 ∷ 4 ∷ 65528 ∷ 6 ∷ 65527 ∷ 32766 ∷ 9 ∷ 32769 ∷ 8 ∷ 65528 ∷ 65534 ∷ 32768 ∷ 6 ∷ 8 ∷ 54530 ∷ 65533 ∷
    65535 ∷ 5 ∷ 32769 ∷ 4 ∷ 65528 ∷ 16120 ∷ 8 ∷ 16931 ∷ 3 ∷ 8 ∷ 65528 ∷ 65533 ∷ 32767 ∷ 65531 ∷ 65533 ∷ 65527 ∷ [])) ∷ (rw I32 (4294967292 ∷
    4294967289 ∷ [])) ∷ []) (Some (record { elem = I32; bits = 1739345099 })) ([])
unfolding digits number_to wrap_to amount not_zero
run_39_of_0 = refl

work_39_of_0 : work_of program_39 0 0 arguments_39 ≡ 27
unfolding digits number_to wrap_to amount not_zero
work_39_of_0 = refl

-- wide_programs: foreach 877
-- export void f(uniform signed int a[], uniform uint64 o[]) { int x = (varying signed int) o[programIndex] * (a[(o[programIndex] >> o[programIndex])
-- & 31]); ; a[(a[programIndex] || 0) & 31] = 8; foreach_tiled (i1 = 0 ... 5, i2 = -1 ... 2, i3 = 0 ... programCount + 1) { a[programIndex] =
-- programIndex; } o[programIndex] = programIndex; o[programIndex] = x; }
abbrev program_40 : Program
program_40 = pr W32 ((fn None None ((vr (Given I32) false) ∷ (vr (Given U64) false) ∷ (vr (AVariable (v I32)) false) ∷ (vr (AVariable (v I32)) true) ∷
    (vr (AVariable (v I32)) true) ∷ (vr (AVariable (v I32)) true) ∷ []) (t_braces (t_stmts ((t_declare ((t_with_value 2 (v I32) (t_binary op.Mul
    (t_cast (t_convert I32 (t_place (t_element (ar 1 (u U64) false) (t_program_index (s 91 103)) (v U64) (s 89 104)))) (v I32) (s 68 104)) (t_cast
    (t_place (t_element (ar 0 (u I32) false) (t_binary op.And (t_cast (t_binary op.Shr (t_place (t_element (ar 1 (u U64) false) (t_program_index (s
    113 125)) (v U64) (s 111 126))) (t_place (t_element (ar 1 (u U64) false) (t_program_index (s 132 144)) (v U64) (s 130 145))) (v U64) (s 111 145))
    (v U64) (s 110 146)) (t_convert U64 (cn I32 31 (s 149 151))) (v U64) (s 110 151)) (v I32) (s 108 152))) (v I32) (s 107 153)) (v I32) (s 68 153))
    (s 64 153)) ∷ []) (s 60 154)) ∷ (t_block (t_braces (t_stmts ([])) (s 155 156))) ∷ (t_simple (t_assign (t_element (ar 0 (u I32) false) (t_binary
    op.And (t_convert I32 (t_cast (t_logic logic.Or (t_convert Truth (t_place (t_element (ar 0 (u I32) false) (t_program_index (s 162 174)) (v I32) (s
    160 175)))) (t_convert Truth (cn I32 0 (s 179 180))) Varying (s 160 180)) (v Truth) (s 159 181))) (cn I32 31 (s 184 186)) (v I32) (s 159 186)) (v
    I32) (s 157 187)) (cn I32 8 (s 190 191)) (s 157 191)) (s 157 192)) ∷ (t_foreach (s 193 206) 3 ((rg 3 (cn I32 0 (s 213 214)) (cn I32 5 (s 219 220))
    (s 208 220)) ∷ (rg 4 (t_unary un.Negate (cn I32 1 (s 228 229)) (u I32) (s 227 229)) (cn I32 2 (s 234 235)) (s 222 235)) ∷ (rg 5 (cn I32 0 (s 242
    243)) (t_binary op.Add (cn I32 32 (s 248 260)) (cn I32 1 (s 263 264)) (u I32) (s 248 264)) (s 237 264)) ∷ []) (t_block (t_braces (t_stmts
    ((t_simple (t_assign (t_element (ar 0 (u I32) false) (t_program_index (s 270 282)) (v I32) (s 268 283)) (t_program_index (s 286 298)) (s 268 298))
    (s 268 299)) ∷ [])) (s 266 301))) (s 193 301)) ∷ (t_simple (t_assign (t_element (ar 1 (u U64) false) (t_program_index (s 304 316)) (v U64) (s 302
    317)) (t_convert U64 (t_program_index (s 320 332))) (s 302 332)) (s 302 333)) ∷ (t_simple (t_assign (t_element (ar 1 (u U64) false)
    (t_program_index (s 336 348)) (v U64) (s 334 349)) (t_convert U64 (t_place (t_variable 2 (v I32) (s 352 353)))) (s 334 353)) (s 334 354)) ∷ []))
    (s 58 356))) ∷ [])

abbrev arguments_40 : List Argument
arguments_40 = ((AnArray (rw I32 (2 ∷ 4294967294 ∷ 3663665517 ∷ 4294967290 ∷ 4294967294 ∷ 4294967290 ∷ 4294967291 ∷ 0 ∷ 4294967287 ∷ 0 ∷ 7 ∷ 622118564
    ∷ 4294967294 ∷ 799983666 ∷ 2719532758 ∷ 4294967295 ∷ 8 ∷ 4294967290 ∷ 4294967287 ∷ 2147483649 ∷ 1 ∷ 1494305645 ∷ 2147483648 ∷ 7 ∷ 2147483646 ∷
    298456435 ∷ 3651465700 ∷ 4294967292 ∷ 6 ∷ 1 ∷ 0 ∷ 2147483648 ∷ 2147483648 ∷ 4294967288 ∷ 0 ∷ 2147483648 ∷ []))) ∷ (AnArray (rw U64 (9 ∷ 0 ∷ 4 ∷
    18446744073709551615 ∷ 9 ∷ 0 ∷ 14478921404214551379 ∷ 6943794522365541545 ∷ 7 ∷ 5 ∷ 13283613611480560420 ∷ 7 ∷ 1 ∷ 777366632199404476 ∷
    18446744073709551614 ∷ 1 ∷ 826924627022971940 ∷ 9 ∷ 6 ∷ 11126922340849932198 ∷ 4 ∷ 8 ∷ 3 ∷ 0 ∷ 7 ∷ 18446744073709551614 ∷ 4 ∷ 6 ∷ 5 ∷
    18446744073709551615 ∷ 1 ∷ 1 ∷ 1 ∷ 5 ∷ 5 ∷ []))) ∷ [])

run_40_of_0 : run_of program_40 0 0 arguments_40 ≡ Ends ((rw I32 (0 ∷ 1 ∷ 2 ∷ 3 ∷ 4 ∷ 5 ∷ 6 ∷ 7 ∷ 8 ∷ 9 ∷ 10 ∷ 11 ∷ 12 ∷ 13 ∷ 14 ∷ 15 ∷ 16 ∷ 17 ∷ 18 ∷
    19 ∷ 20 ∷ 21 ∷ 22 ∷ 23 ∷ 24 ∷ 25 ∷ 26 ∷ 27 ∷ 28 ∷ 29 ∷ 30 ∷ 31 ∷ 2147483648 ∷ 4294967288 ∷ 0 ∷ 2147483648 ∷ [])) ∷ (rw U64 (18 ∷ 0 ∷ 8 ∷ 2 ∷ 18 ∷
    0 ∷ 18446744073340733094 ∷ 18446744072063507983 ∷ 14 ∷ 10 ∷ 18446744072584547624 ∷ 14 ∷ 2 ∷ 18446744072249505656 ∷ 12 ∷ 2 ∷ 18446744072255098924 ∷
    18 ∷ 12 ∷ 18446744071590893478 ∷ 8 ∷ 16 ∷ 6 ∷ 0 ∷ 14 ∷ 12 ∷ 8 ∷ 12 ∷ 10 ∷ 2 ∷ 2 ∷ 2 ∷ 1 ∷ 5 ∷ 5 ∷ [])) ∷ []) None ([])
unfolding digits number_to wrap_to amount not_zero
run_40_of_0 = refl

work_40_of_0 : work_of program_40 0 0 arguments_40 ≡ 246
unfolding digits number_to wrap_to amount not_zero
work_40_of_0 = refl

-- wide_programs: library 1031
-- export void f(uniform signed a[], uniform int o[], uniform signed n) { int x = (5) / (n | 1) < ~(a[programIndex]); n = packed_load_active(&o, &x);
-- ; a[programIndex] += x; }
abbrev program_41 : Program
program_41 = pr W32 ((fn None None ((vr (Given I32) false) ∷ (vr (Given I32) false) ∷ (vr (AVariable (u I32)) false) ∷ (vr (AVariable (v I32)) false)
    ∷ []) (t_braces (t_stmts ((t_declare ((t_with_value 3 (v I32) (t_convert I32 (t_compare cmp.Less (t_binary op.Div (t_cast (cn I32 5 (s 80 81)) (u
    I32) (s 79 82)) (t_cast (t_binary op.Or (t_place (t_variable 2 (u I32) (s 86 87))) (cn I32 1 (s 90 91)) (u I32) (s 86 91)) (u I32) (s 85 92)) (u
    I32) (s 79 92)) (t_unary un.Invert (t_cast (t_place (t_element (ar 0 (u I32) false) (t_program_index (s 99 111)) (v I32) (s 97 112))) (v I32) (s
    96 113)) (v I32) (s 95 113)) Varying (s 79 113))) (s 75 113)) ∷ []) (s 71 114)) ∷ (t_simple (t_assign (t_variable 2 (u I32) (s 115 116))
    (t_packed_load (t_whole (ar 1 (u I32) false) (s 139 140)) 3 (s 119 145)) (s 115 145)) (s 115 146)) ∷ (t_block (t_braces (t_stmts ([])) (s 147
    148))) ∷ (t_simple (t_update op.Add I32 (t_element (ar 0 (u I32) false) (t_program_index (s 151 163)) (v I32) (s 149 164)) (t_place (t_variable 3
    (v I32) (s 168 169))) (s 149 169)) (s 149 170)) ∷ [])) (s 69 172))) ∷ [])

abbrev arguments_41 : List Argument
arguments_41 = ((AnArray (rw I32 (9 ∷ 4294967294 ∷ 0 ∷ 2147483649 ∷ 2147483647 ∷ 3 ∷ 4294967288 ∷ 2147483647 ∷ 4294967288 ∷ 3 ∷ 4294967291 ∷ 2 ∷ 3 ∷
    733008809 ∷ 4294967292 ∷ 2147483648 ∷ 5 ∷ 2147483646 ∷ 9 ∷ 1261858046 ∷ 2147483647 ∷ 0 ∷ 4294967289 ∷ 4294967291 ∷ 6 ∷ 4294967289 ∷ 4294967290 ∷
    849878716 ∷ 4 ∷ 3856841813 ∷ 2147483649 ∷ 1742715410 ∷ 2435042822 ∷ []))) ∷ (AnArray (rw I32 (4294967289 ∷ 5 ∷ 4294967295 ∷ 4294967287 ∷ 126956758
    ∷ 1661072600 ∷ 186081194 ∷ 4294967295 ∷ 5 ∷ 4294967291 ∷ 0 ∷ 4294967290 ∷ 2147483649 ∷ 0 ∷ 2147483646 ∷ 8 ∷ 1 ∷ 4294967288 ∷ 4294967289 ∷
    4294967288 ∷ 4294967293 ∷ 4294967294 ∷ 3386704406 ∷ 4294967288 ∷ 2147483648 ∷ 1970362309 ∷ 1006185541 ∷ 9 ∷ 4294967289 ∷ 8 ∷ 4294967295 ∷
    612322445 ∷ 4294967289 ∷ 4294967293 ∷ 2290436020 ∷ 2147483649 ∷ []))) ∷ (AValue (record { elem = I32; bits = 2147483646 })) ∷ [])

run_41_of_0 : run_of program_41 0 0 arguments_41 ≡ Ends ((rw I32 (2 ∷ 3 ∷ 4294967295 ∷ 2147483640 ∷ 2274440405 ∷ 1661072603 ∷ 186081186 ∷ 2147483646 ∷
    4294967293 ∷ 4294967294 ∷ 4294967291 ∷ 4294967292 ∷ 2147483652 ∷ 733008809 ∷ 2147483642 ∷ 2147483656 ∷ 6 ∷ 2147483638 ∷ 2 ∷ 1261858038 ∷
    2147483644 ∷ 4294967294 ∷ 3386704399 ∷ 4294967283 ∷ 2147483654 ∷ 1970362302 ∷ 1006185535 ∷ 849878725 ∷ 4294967293 ∷ 3856841821 ∷ 2147483648 ∷
    2355037855 ∷ 2435042822 ∷ [])) ∷ (rw I32 (4294967289 ∷ 5 ∷ 4294967295 ∷ 4294967287 ∷ 126956758 ∷ 1661072600 ∷ 186081194 ∷ 4294967295 ∷ 5 ∷
    4294967291 ∷ 0 ∷ 4294967290 ∷ 2147483649 ∷ 0 ∷ 2147483646 ∷ 8 ∷ 1 ∷ 4294967288 ∷ 4294967289 ∷ 4294967288 ∷ 4294967293 ∷ 4294967294 ∷ 3386704406 ∷
    4294967288 ∷ 2147483648 ∷ 1970362309 ∷ 1006185541 ∷ 9 ∷ 4294967289 ∷ 8 ∷ 4294967295 ∷ 612322445 ∷ 4294967289 ∷ 4294967293 ∷ 2290436020 ∷
    2147483649 ∷ [])) ∷ []) None ([])
unfolding digits number_to wrap_to amount not_zero
run_41_of_0 = refl

work_41_of_0 : work_of program_41 0 0 arguments_41 ≡ 25
unfolding digits number_to wrap_to amount not_zero
work_41_of_0 = refl

-- wide_programs: library 1056
-- export void f(uniform int32 a[], uniform unsigned int16 o[], uniform signed n) { int x = broadcast(n > a[programIndex], 2); n =
-- packed_store_active(&a, shuffle(n || x, n, x >= x)); n = packed_load_active(&a, &x); a[programIndex] += x; }
abbrev program_42 : Program
program_42 = pr W32 ((fn None None ((vr (Given I32) false) ∷ (vr (Given U16) false) ∷ (vr (AVariable (u I32)) false) ∷ (vr (AVariable (v I32)) false)
    ∷ []) (t_braces (t_stmts ((t_declare ((t_with_value 3 (v I32) (t_library lib.Broadcast I32 (t_exprs ((t_convert I32 (t_compare cmp.Greater
    (t_place (t_variable 2 (u I32) (s 99 100))) (t_place (t_element (ar 0 (u I32) false) (t_program_index (s 105 117)) (v I32) (s 103 118))) Varying
    (s 99 118))) ∷ (cn I32 2 (s 120 121)) ∷ [])) (v I32) (s 89 122)) (s 85 122)) ∷ []) (s 81 123)) ∷ (t_simple (t_assign (t_variable 2 (u I32) (s 124
    125)) (t_packed_store (t_whole (ar 0 (u I32) false) (s 149 150)) (t_library lib.ShuffleTwo I32 (t_exprs ((t_convert I32 (t_logic logic.Or
    (t_convert Truth (t_place (t_variable 2 (u I32) (s 160 161)))) (t_convert Truth (t_place (t_variable 3 (v I32) (s 165 166)))) Varying (s 160
    166))) ∷ (t_place (t_variable 2 (u I32) (s 168 169))) ∷ (t_convert I32 (t_compare cmp.GreaterOrEqual (t_place (t_variable 3 (v I32) (s 171 172)))
    (t_place (t_variable 3 (v I32) (s 176 177))) Varying (s 171 177))) ∷ [])) (v I32) (s 152 178)) (s 128 179)) (s 124 179)) (s 124 180)) ∷ (t_simple
    (t_assign (t_variable 2 (u I32) (s 181 182)) (t_packed_load (t_whole (ar 0 (u I32) false) (s 205 206)) 3 (s 185 211)) (s 181 211)) (s 181 212)) ∷
    (t_simple (t_update op.Add I32 (t_element (ar 0 (u I32) false) (t_program_index (s 215 227)) (v I32) (s 213 228)) (t_place (t_variable 3 (v I32)
    (s 232 233))) (s 213 233)) (s 213 234)) ∷ [])) (s 79 236))) ∷ [])

abbrev arguments_42 : List Argument
arguments_42 = ((AnArray (rw I32 (4294967293 ∷ 2 ∷ 3 ∷ 2147483646 ∷ 4294967288 ∷ 5 ∷ 4294967289 ∷ 2147483648 ∷ 2147483649 ∷ 4294967288 ∷ 1309306787 ∷
    4294967294 ∷ 2147483648 ∷ 2147483646 ∷ 3891958722 ∷ 4294967294 ∷ 2147483646 ∷ 4 ∷ 7 ∷ 4294967294 ∷ 5 ∷ 4294967292 ∷ 1246099226 ∷ 4294967290 ∷ 7 ∷
    2441919499 ∷ 1 ∷ 2538461085 ∷ 4294967295 ∷ 2 ∷ 5 ∷ 4294967290 ∷ []))) ∷ (AnArray (rw U16 (0 ∷ 24792 ∷ 3 ∷ 4 ∷ 8 ∷ 27999 ∷ 65534 ∷ 5 ∷ 1 ∷ 7 ∷
    49687 ∷ 65535 ∷ 5 ∷ 45791 ∷ 0 ∷ 3 ∷ 6 ∷ 14216 ∷ 0 ∷ 5 ∷ 0 ∷ 8 ∷ 5 ∷ 8 ∷ 65534 ∷ 0 ∷ 3 ∷ 1 ∷ 1 ∷ 3 ∷ 63747 ∷ 7 ∷ 49344 ∷ []))) ∷ (AValue
    (record { elem = I32; bits = 4294967291 })) ∷ [])

run_42_of_0 : run_of program_42 0 0 arguments_42 ≡ Ends ((rw I32 (2 ∷ 2 ∷ 2 ∷ 2 ∷ 2 ∷ 2 ∷ 2 ∷ 2 ∷ 2 ∷ 2 ∷ 2 ∷ 2 ∷ 2 ∷ 2 ∷ 2 ∷ 2 ∷ 2 ∷ 2 ∷ 2 ∷ 2 ∷ 2 ∷
    2 ∷ 2 ∷ 2 ∷ 2 ∷ 2 ∷ 2 ∷ 2 ∷ 2 ∷ 2 ∷ 2 ∷ 2 ∷ [])) ∷ (rw U16 (0 ∷ 24792 ∷ 3 ∷ 4 ∷ 8 ∷ 27999 ∷ 65534 ∷ 5 ∷ 1 ∷ 7 ∷ 49687 ∷ 65535 ∷ 5 ∷ 45791 ∷ 0 ∷ 3
    ∷ 6 ∷ 14216 ∷ 0 ∷ 5 ∷ 0 ∷ 8 ∷ 5 ∷ 8 ∷ 65534 ∷ 0 ∷ 3 ∷ 1 ∷ 1 ∷ 3 ∷ 63747 ∷ 7 ∷ 49344 ∷ [])) ∷ []) None ([])
unfolding digits number_to wrap_to amount not_zero
run_42_of_0 = refl

work_42_of_0 : work_of program_42 0 0 arguments_42 ≡ 29
unfolding digits number_to wrap_to amount not_zero
work_42_of_0 = refl

-- wide_programs: mixed 1370
-- void g0(uniform int n1) { if (n1 <= 0) return; g0(n1 - 1); int32 v2 = ! !(exclusive_scan_and(n1)); } int16 g1(signed int p3) { p3 =
-- reduce_max(none((p3) % (programIndex | 1))); { ++p3; ; uniform signed v4; } return (varying bool) p3 > any(p3); } export void f(uniform signed
-- a[], uniform int8 o[]) { int x = (bool) 7; g1(programIndex - 8); unmasked { foreach (i5 = 0 ... programCount + 1) { a[(programIndex ^
-- (g1(i5))) & 31] |= ~(x); } } ; o[programIndex] = x; }
abbrev program_43 : Program
program_43 = pr W32 ((fn None None ((vr (AVariable (u I32)) false) ∷ (vr (AVariable (v I32)) false) ∷ []) (t_braces (t_stmts ((t_if Plain 1 (t_compare
    cmp.LessOrEqual (t_place (t_variable 0 (u I32) (s 30 32))) (cn I32 0 (s 36 37)) Uniform (s 30 37)) (t_return (s 39 45) None (s 39 46)) (s 26 46))
    ∷ (t_simple (t_run (t_called 0 (t_arguments ((t_by_value (t_binary op.Sub (t_place (t_variable 0 (u I32) (s 50 52))) (cn I32 1 (s 55 56)) (u I32)
    (s 50 56))) ∷ [])) (s 47 57))) (s 47 58)) ∷ (t_declare ((t_with_value 1 (v I32) (t_convert I32 (t_unary un.Not (t_unary un.Not (t_convert Truth
    (t_cast (t_library lib.ScanAnd I32 (t_exprs ((t_place (t_variable 0 (u I32) (s 93 95))) ∷ [])) (v I32) (s 74 96)) (v I32) (s 73 97))) (v Truth) (s
    72 97)) (v Truth) (s 70 97))) (s 65 97)) ∷ []) (s 59 98)) ∷ [])) (s 24 100))) ∷ (fn (Some I16) (Some (v I16)) ((vr (AVariable (v I32)) false) ∷
    (vr (AVariable (u I32)) false) ∷ []) (t_braces (t_stmts ((t_simple (t_assign (t_variable 0 (v I32) (s 127 129)) (t_library lib.ReduceMax I32
    (t_exprs ((t_convert I32 (t_library lib.None Truth (t_exprs ((t_convert Truth (t_binary op.Rem (t_cast (t_place (t_variable 0 (v I32) (s 149
    151))) (v I32) (s 148 152)) (t_cast (t_binary op.Or (t_program_index (s 156 168)) (cn I32 1 (s 171 172)) (v I32) (s 156 172)) (v I32) (s 155 173))
    (v I32) (s 148 173))) ∷ [])) (u Truth) (s 143 174))) ∷ [])) (u I32) (s 132 175)) (s 127 175)) (s 127 176)) ∷ (t_block (t_braces (t_stmts
    ((t_simple (t_step op.Add I32 (t_variable 0 (v I32) (s 181 183)) (s 179 183)) (s 179 184)) ∷ (t_block (t_braces (t_stmts ([])) (s 185 186))) ∷
    (t_declare ((t_plain 1 (u I32) (s 202 204)) ∷ []) (s 187 205)) ∷ [])) (s 177 207))) ∷ (t_return (s 208 214) (Some (t_convert I16 (t_compare
    cmp.Greater (t_convert I32 (t_cast (t_convert Truth (t_place (t_variable 0 (v I32) (s 230 232)))) (v Truth) (s 215 232))) (t_convert I32
    (t_library lib.Any Truth (t_exprs ((t_convert Truth (t_place (t_variable 0 (v I32) (s 239 241)))) ∷ [])) (u Truth) (s 235 242))) Varying (s 215
    242)))) (s 208 243)) ∷ [])) (s 125 245))) ∷ (fn None None ((vr (Given I32) false) ∷ (vr (Given I8) false) ∷ (vr (AVariable (v I32)) false) ∷ (vr
    (AVariable (v I32)) true) ∷ []) (t_braces (t_stmts ((t_declare ((t_with_value 2 (v I32) (t_convert I32 (t_cast (t_convert Truth (cn I32 7 (s 315
    316))) (u Truth) (s 308 316))) (s 304 316)) ∷ []) (s 300 317)) ∷ (t_simple (t_value (t_call (t_called 1 (t_arguments ((t_by_value (t_binary op.Sub
    (t_program_index (s 321 333)) (cn I32 8 (s 336 337)) (v I32) (s 321 337))) ∷ [])) (s 318 338)) (v I16))) (s 318 339)) ∷ (t_unmasked (s 340 348)
    (t_braces (t_stmts ((t_foreach (s 351 358) 3 ((rg 3 (cn I32 0 (s 365 366)) (t_binary op.Add (cn I32 32 (s 371 383)) (cn I32 1 (s 386 387)) (u I32)
    (s 371 387)) (s 360 387)) ∷ []) (t_block (t_braces (t_stmts ((t_simple (t_update op.Or I32 (t_element (ar 0 (u I32) false) (t_binary op.And
    (t_cast (t_binary op.Xor (t_program_index (s 394 406)) (t_convert I32 (t_cast (t_call (t_called 1 (t_arguments ((t_by_value (t_place (t_variable 3
    (v I32) (s 413 415)))) ∷ [])) (s 410 416)) (v I16)) (v I16) (s 409 417))) (v I32) (s 394 417)) (v I32) (s 393 418)) (cn I32 31 (s 421 423)) (v
    I32) (s 393 423)) (v I32) (s 391 424)) (t_unary un.Invert (t_cast (t_place (t_variable 2 (v I32) (s 430 431))) (v I32) (s 429 432)) (v I32) (s 428
    432)) (s 391 432)) (s 391 433)) ∷ [])) (s 389 435))) (s 351 435)) ∷ [])) (s 349 437)) (s 340 437)) ∷ (t_block (t_braces (t_stmts ([])) (s 438
    439))) ∷ (t_simple (t_assign (t_element (ar 1 (u I8) false) (t_program_index (s 442 454)) (v I8) (s 440 455)) (t_convert I8 (t_place (t_variable 2
    (v I32) (s 458 459)))) (s 440 459)) (s 440 460)) ∷ [])) (s 298 462))) ∷ [])

abbrev arguments_43 : List Argument
arguments_43 = ((AnArray (rw I32 (1341604947 ∷ 9 ∷ 4294967293 ∷ 4 ∷ 2147483647 ∷ 5 ∷ 4 ∷ 2147483648 ∷ 2 ∷ 3 ∷ 7 ∷ 4294967293 ∷ 2147483648 ∷ 4294967290
    ∷ 8 ∷ 2147483648 ∷ 4294967295 ∷ 4294967289 ∷ 312042538 ∷ 2 ∷ 2147483647 ∷ 2237393447 ∷ 4294967292 ∷ 1158331972 ∷ 2725668218 ∷ 2324632748 ∷ 4 ∷
    463439012 ∷ 4294967287 ∷ 0 ∷ 4294967289 ∷ 1061442021 ∷ 1 ∷ 1 ∷ []))) ∷ (AnArray (rw I8 (129 ∷ 132 ∷ 9 ∷ 255 ∷ 5 ∷ 247 ∷ 252 ∷ 249 ∷ 9 ∷ 253 ∷ 251
    ∷ 251 ∷ 1 ∷ 4 ∷ 127 ∷ 251 ∷ 2 ∷ 253 ∷ 127 ∷ 255 ∷ 129 ∷ 121 ∷ 66 ∷ 3 ∷ 129 ∷ 249 ∷ 4 ∷ 252 ∷ 247 ∷ 2 ∷ 4 ∷ 255 ∷ 4 ∷ 250 ∷ []))) ∷ [])

run_43_of_0 : run_of program_43 2 0 arguments_43 ≡ Ends ((rw I32 (4294967295 ∷ 4294967295 ∷ 4294967295 ∷ 4294967294 ∷ 4294967295 ∷ 4294967295 ∷
    4294967294 ∷ 4294967294 ∷ 4294967294 ∷ 4294967295 ∷ 4294967295 ∷ 4294967295 ∷ 4294967294 ∷ 4294967294 ∷ 4294967294 ∷ 4294967294 ∷ 4294967295 ∷
    4294967295 ∷ 4294967294 ∷ 4294967294 ∷ 4294967295 ∷ 4294967295 ∷ 4294967294 ∷ 4294967294 ∷ 4294967294 ∷ 4294967294 ∷ 4294967294 ∷ 4294967294 ∷
    4294967295 ∷ 4294967294 ∷ 4294967295 ∷ 4294967295 ∷ 1 ∷ 1 ∷ [])) ∷ (rw I8 (1 ∷ 1 ∷ 1 ∷ 1 ∷ 1 ∷ 1 ∷ 1 ∷ 1 ∷ 1 ∷ 1 ∷ 1 ∷ 1 ∷ 1 ∷ 1 ∷ 1 ∷ 1 ∷ 1 ∷ 1 ∷
    1 ∷ 1 ∷ 1 ∷ 1 ∷ 1 ∷ 1 ∷ 1 ∷ 1 ∷ 1 ∷ 1 ∷ 1 ∷ 1 ∷ 1 ∷ 1 ∷ 4 ∷ 250 ∷ [])) ∷ []) None ([])
unfolding digits number_to wrap_to amount not_zero
run_43_of_0 = refl

work_43_of_0 : work_of program_43 2 0 arguments_43 ≡ 124
unfolding digits number_to wrap_to amount not_zero
work_43_of_0 = refl

-- wide_programs: traps 1198
-- void g0(uniform int n2, uniform signed int p1) { if (n2 <= 0) return; g0(n2 - 1, p1 < n2); ; } export uniform bool f(uniform int32 a[], uniform
-- uint16 o[]) { int x = (! o[((int32) o[0]) & 31]) / (programIndex); ; x ^= x; g0((100) & 3, all(0)); if ((programIndex ? a[programIndex] : x))
-- return 7; g0((o[31]) & 3, !(o[(a[23]) & 31])); a[programIndex] += x; return 0xb9u ^ a[reduce_add(x)] - a[19]; }
abbrev program_44 : Program
program_44 = pr W32 ((fn None None ((vr (AVariable (u I32)) false) ∷ (vr (AVariable (u I32)) false) ∷ []) (t_braces (t_stmts ((t_if Plain 2 (t_compare
    cmp.LessOrEqual (t_place (t_variable 0 (u I32) (s 53 55))) (cn I32 0 (s 59 60)) Uniform (s 53 60)) (t_return (s 62 68) None (s 62 69)) (s 49 69))
    ∷ (t_simple (t_run (t_called 0 (t_arguments ((t_by_value (t_binary op.Sub (t_place (t_variable 0 (u I32) (s 73 75))) (cn I32 1 (s 78 79)) (u I32)
    (s 73 79))) ∷ (t_by_value (t_convert I32 (t_compare cmp.Less (t_place (t_variable 1 (u I32) (s 81 83))) (t_place (t_variable 0 (u I32) (s 86 88)))
    Uniform (s 81 88)))) ∷ [])) (s 70 89))) (s 70 90)) ∷ (t_block (t_braces (t_stmts ([])) (s 91 92))) ∷ [])) (s 47 94))) ∷ (fn (Some Truth) (Some (u
    Truth)) ((vr (Given I32) false) ∷ (vr (Given U16) false) ∷ (vr (AVariable (v I32)) false) ∷ []) (t_braces (t_stmts ((t_declare ((t_with_value 2 (v
    I32) (t_binary op.Div (t_convert I32 (t_cast (t_unary un.Not (t_convert Truth (t_place (t_element (ar 1 (u U16) false) (t_binary op.And (t_cast
    (t_cast (t_convert I32 (t_place (t_element (ar 1 (u U16) false) (cn I32 0 (s 182 183)) (u U16) (s 180 184)))) (u I32) (s 172 184)) (u I32) (s 171
    185)) (cn I32 31 (s 188 190)) (u I32) (s 171 190)) (u U16) (s 169 191)))) (u Truth) (s 167 191)) (u Truth) (s 166 192))) (t_cast (t_program_index
    (s 196 208)) (v I32) (s 195 209)) (v I32) (s 166 209)) (s 162 209)) ∷ []) (s 158 210)) ∷ (t_block (t_braces (t_stmts ([])) (s 211 212))) ∷
    (t_simple (t_update op.Xor I32 (t_variable 2 (v I32) (s 213 214)) (t_place (t_variable 2 (v I32) (s 218 219))) (s 213 219)) (s 213 220)) ∷
    (t_simple (t_run (t_called 0 (t_arguments ((t_by_value (t_binary op.And (t_cast (cn I32 100 (s 225 228)) (u I32) (s 224 229)) (cn I32 3 (s 232
    233)) (u I32) (s 224 233))) ∷ (t_by_value (t_convert I32 (t_library lib.All Truth (t_exprs ((t_convert Truth (cn I32 0 (s 239 240))) ∷ [])) (u
    Truth) (s 235 241)))) ∷ [])) (s 221 242))) (s 221 243)) ∷ (t_if Plain 3 (t_convert Truth (t_cast (t_choose (t_convert Truth (t_program_index (s
    249 261))) (t_place (t_element (ar 0 (u I32) false) (t_program_index (s 266 278)) (v I32) (s 264 279))) (t_place (t_variable 2 (v I32) (s 282
    283))) (v I32) (s 249 283)) (v I32) (s 248 284))) (t_return (s 286 292) (Some (t_convert Truth (cn I32 7 (s 293 294)))) (s 286 295)) (s 244 295))
    ∷ (t_simple (t_run (t_called 0 (t_arguments ((t_by_value (t_binary op.And (t_convert I32 (t_cast (t_place (t_element (ar 1 (u U16) false) (cn I32
    31 (s 302 304)) (u U16) (s 300 305))) (u U16) (s 299 306))) (cn I32 3 (s 309 310)) (u I32) (s 299 310))) ∷ (t_by_value (t_convert I32 (t_unary
    un.Not (t_convert Truth (t_cast (t_place (t_element (ar 1 (u U16) false) (t_binary op.And (t_cast (t_place (t_element (ar 0 (u I32) false) (cn I32
    23 (s 319 321)) (u I32) (s 317 322))) (u I32) (s 316 323)) (cn I32 31 (s 326 328)) (u I32) (s 316 328)) (u U16) (s 314 329))) (u U16) (s 313
    330))) (u Truth) (s 312 330)))) ∷ [])) (s 296 331))) (s 296 332)) ∷ (t_simple (t_update op.Add I32 (t_element (ar 0 (u I32) false)
    (t_program_index (s 335 347)) (v I32) (s 333 348)) (t_place (t_variable 2 (v I32) (s 352 353))) (s 333 353)) (s 333 354)) ∷ (t_return (s 355 361)
    (Some (t_convert Truth (t_binary op.Xor (cn U32 185 (s 362 367)) (t_convert U32 (t_binary op.Sub (t_place (t_element (ar 0 (u I32) false)
    (t_library lib.ReduceAdd I32 (t_exprs ((t_place (t_variable 2 (v I32) (s 383 384))) ∷ [])) (u I64) (s 372 385)) (u I32) (s 370 386))) (t_place
    (t_element (ar 0 (u I32) false) (cn I32 19 (s 391 393)) (u I32) (s 389 394))) (u I32) (s 370 394))) (u U32) (s 362 394)))) (s 355 395)) ∷ [])) (s
    156 397))) ∷ [])

abbrev arguments_44 : List Argument
arguments_44 = ((AnArray (rw I32 (4294967291 ∷ 2187159753 ∷ 4294967292 ∷ 7 ∷ 975439300 ∷ 2 ∷ 4294967287 ∷ 927739265 ∷ 4294967290 ∷ 0 ∷ 8 ∷ 0 ∷
    2147483649 ∷ 4294967291 ∷ 2158876879 ∷ 2147483646 ∷ 4294967293 ∷ 2147483649 ∷ 4294967288 ∷ 5 ∷ 2084435074 ∷ 4294967293 ∷ 2147483647 ∷ 2147483649 ∷
    0 ∷ 7 ∷ 578869428 ∷ 4294967292 ∷ 4294967294 ∷ 5 ∷ 6 ∷ 4294967294 ∷ 2147483646 ∷ 2147483646 ∷ 4294967293 ∷ 2147483646 ∷ []))) ∷ (AnArray (rw U16 (1
    ∷ 40229 ∷ 4 ∷ 8 ∷ 65534 ∷ 0 ∷ 9 ∷ 65535 ∷ 8 ∷ 3 ∷ 0 ∷ 20936 ∷ 1 ∷ 57994 ∷ 30529 ∷ 6 ∷ 10889 ∷ 1 ∷ 5 ∷ 0 ∷ 1 ∷ 43617 ∷ 1 ∷ 65535 ∷ 3 ∷ 65535 ∷ 3 ∷
    6 ∷ 0 ∷ 6 ∷ 1 ∷ 9 ∷ 65380 ∷ []))) ∷ [])

run_44_of_0 : run_of program_44 1 0 arguments_44 ≡ Traps (trap kind.Divide (s 166 209) 0) ((rw I32 (4294967291 ∷ 2187159753 ∷ 4294967292 ∷ 7 ∷
    975439300 ∷ 2 ∷ 4294967287 ∷ 927739265 ∷ 4294967290 ∷ 0 ∷ 8 ∷ 0 ∷ 2147483649 ∷ 4294967291 ∷ 2158876879 ∷ 2147483646 ∷ 4294967293 ∷ 2147483649 ∷
    4294967288 ∷ 5 ∷ 2084435074 ∷ 4294967293 ∷ 2147483647 ∷ 2147483649 ∷ 0 ∷ 7 ∷ 578869428 ∷ 4294967292 ∷ 4294967294 ∷ 5 ∷ 6 ∷ 4294967294 ∷ 2147483646
    ∷ 2147483646 ∷ 4294967293 ∷ 2147483646 ∷ [])) ∷ (rw U16 (1 ∷ 40229 ∷ 4 ∷ 8 ∷ 65534 ∷ 0 ∷ 9 ∷ 65535 ∷ 8 ∷ 3 ∷ 0 ∷ 20936 ∷ 1 ∷ 57994 ∷ 30529 ∷ 6 ∷
    10889 ∷ 1 ∷ 5 ∷ 0 ∷ 1 ∷ 43617 ∷ 1 ∷ 65535 ∷ 3 ∷ 65535 ∷ 3 ∷ 6 ∷ 0 ∷ 6 ∷ 1 ∷ 9 ∷ 65380 ∷ [])) ∷ []) ([])
unfolding digits number_to wrap_to amount not_zero
run_44_of_0 = refl

work_44_of_0 : work_of program_44 1 0 arguments_44 ≡ 15
unfolding digits number_to wrap_to amount not_zero
work_44_of_0 = refl

-- wide_programs: traps 1237
-- export void f(uniform int32 a[], uniform uint64 o[]) { int x = shuffle(a[programIndex], programIndex || 7); o[programIndex] /= (programIndex == x)
-- / (x) * ! x && programIndex; a[programIndex] |= clamp(~ x, x && programIndex, programCount | programCount) && x > programIndex + 2147483647 &&
-- x; o[programIndex] = x; } uniform uint16 g0(signed n2, int32 p1) { if (n2 <= 0) return 0x3e - 0x46 < select(6, 7, 28ul); p1 += g0(n2 - 1, 7);
-- p1 = reduce_equal(n2); return reduce_equal(-(p1)); }
abbrev program_45 : Program
program_45 = pr W32 ((fn None None ((vr (Given I32) false) ∷ (vr (Given U64) false) ∷ (vr (AVariable (v I32)) false) ∷ []) (t_braces (t_stmts
    ((t_declare ((t_with_value 2 (v I32) (t_library lib.Shuffle I32 (t_exprs ((t_place (t_element (ar 0 (u I32) false) (t_program_index (s 73 85)) (v
    I32) (s 71 86))) ∷ (t_convert I32 (t_logic logic.Or (t_convert Truth (t_program_index (s 88 100))) (t_convert Truth (cn I32 7 (s 104 105)))
    Varying (s 88 105))) ∷ [])) (v I32) (s 63 106)) (s 59 106)) ∷ []) (s 55 107)) ∷ (t_simple (t_update op.Div U64 (t_element (ar 1 (u U64) false)
    (t_program_index (s 110 122)) (v U64) (s 108 123)) (t_convert U64 (t_logic logic.And (t_convert Truth (t_binary op.Mul (t_binary op.Div (t_convert
    I32 (t_cast (t_compare cmp.Equal (t_program_index (s 128 140)) (t_place (t_variable 2 (v I32) (s 144 145))) Varying (s 128 145)) (v Truth) (s 127
    146))) (t_cast (t_place (t_variable 2 (v I32) (s 150 151))) (v I32) (s 149 152)) (v I32) (s 127 152)) (t_convert I32 (t_unary un.Not (t_convert
    Truth (t_place (t_variable 2 (v I32) (s 157 158)))) (v Truth) (s 155 158))) (v I32) (s 127 158))) (t_convert Truth (t_program_index (s 162 174)))
    Varying (s 127 174))) (s 108 174)) (s 108 175)) ∷ (t_simple (t_update op.Or I32 (t_element (ar 0 (u I32) false) (t_program_index (s 178 190)) (v
    I32) (s 176 191)) (t_convert I32 (t_logic logic.And (t_logic logic.And (t_convert Truth (t_library lib.Clamp I32 (t_exprs ((t_unary un.Invert
    (t_place (t_variable 2 (v I32) (s 203 204))) (v I32) (s 201 204)) ∷ (t_convert I32 (t_logic logic.And (t_convert Truth (t_place (t_variable 2 (v
    I32) (s 206 207)))) (t_convert Truth (t_program_index (s 211 223))) Varying (s 206 223))) ∷ (t_binary op.Or (cn I32 32 (s 225 237)) (cn I32 32 (s
    240 252)) (u I32) (s 225 252)) ∷ [])) (v I32) (s 195 253))) (t_compare cmp.Greater (t_place (t_variable 2 (v I32) (s 257 258))) (t_binary op.Add
    (t_program_index (s 261 273)) (cn I32 2147483647 (s 276 286)) (v I32) (s 261 286)) Varying (s 257 286)) Varying (s 195 286)) (t_convert Truth
    (t_place (t_variable 2 (v I32) (s 290 291)))) Varying (s 195 291))) (s 176 291)) (s 176 292)) ∷ (t_simple (t_assign (t_element (ar 1 (u U64)
    false) (t_program_index (s 295 307)) (v U64) (s 293 308)) (t_convert U64 (t_place (t_variable 2 (v I32) (s 311 312)))) (s 293 312)) (s 293 313)) ∷
    [])) (s 53 315))) ∷ (fn (Some U16) (Some (u U16)) ((vr (AVariable (v I32)) false) ∷ (vr (AVariable (v I32)) false) ∷ []) (t_braces (t_stmts ((t_if
    Plain 2 (t_compare cmp.LessOrEqual (t_place (t_variable 0 (v I32) (s 361 363))) (cn I32 0 (s 367 368)) Varying (s 361 368)) (t_return (s 370 376)
    (Some (t_convert U16 (t_compare cmp.Less (t_convert U64 (t_binary op.Sub (cn I32 62 (s 377 381)) (cn I32 70 (s 384 388)) (u I32) (s 377 388)))
    (t_library lib.Select U64 (t_exprs ((t_convert Truth (cn I32 6 (s 398 399))) ∷ (t_convert U64 (cn I32 7 (s 401 402))) ∷ (cn U64 28 (s 404 408)) ∷
    [])) (u U64) (s 391 409)) Uniform (s 377 409)))) (s 370 410)) (s 357 410)) ∷ (t_simple (t_update op.Add I32 (t_variable 1 (v I32) (s 411 413))
    (t_convert I32 (t_call (t_called 1 (t_arguments ((t_by_value (t_binary op.Sub (t_place (t_variable 0 (v I32) (s 420 422))) (cn I32 1 (s 425 426))
    (v I32) (s 420 426))) ∷ (t_by_value (cn I32 7 (s 428 429))) ∷ [])) (s 417 430)) (u U16))) (s 411 430)) (s 411 431)) ∷ (t_simple (t_assign
    (t_variable 1 (v I32) (s 432 434)) (t_convert I32 (t_library lib.ReduceEqual I32 (t_exprs ((t_place (t_variable 0 (v I32) (s 450 452))) ∷ [])) (u
    Truth) (s 437 453))) (s 432 453)) (s 432 454)) ∷ (t_return (s 455 461) (Some (t_convert U16 (t_library lib.ReduceEqual I32 (t_exprs ((t_unary
    un.Negate (t_cast (t_place (t_variable 1 (v I32) (s 477 479))) (v I32) (s 476 480)) (v I32) (s 475 480)) ∷ [])) (u Truth) (s 462 481)))) (s 455
    482)) ∷ [])) (s 355 484))) ∷ [])

abbrev arguments_45 : List Argument
arguments_45 = ((AnArray (rw I32 (4294967295 ∷ 3 ∷ 5 ∷ 0 ∷ 2589055290 ∷ 3707022886 ∷ 4294967289 ∷ 4294967293 ∷ 3528700269 ∷ 2147483647 ∷ 3376987938 ∷
    3 ∷ 4294967290 ∷ 2461371920 ∷ 4294967292 ∷ 4294967290 ∷ 9 ∷ 4294967289 ∷ 8 ∷ 4 ∷ 2147483648 ∷ 2147483648 ∷ 2 ∷ 3550392732 ∷ 2147483647 ∷
    4294967291 ∷ 2147483647 ∷ 9 ∷ 4 ∷ 0 ∷ 2147483647 ∷ 4 ∷ 9 ∷ []))) ∷ (AnArray (rw U64 (1 ∷ 0 ∷ 4 ∷ 0 ∷ 2 ∷ 5 ∷ 5 ∷ 18446744073709551615 ∷ 3 ∷ 6 ∷
    9233800463023227841 ∷ 18446744073709551615 ∷ 13148255167793309194 ∷ 4 ∷ 9 ∷ 1 ∷ 18446744073709551615 ∷ 7 ∷ 0 ∷ 6 ∷ 18446744073709551615 ∷ 8 ∷
    9395820496477778537 ∷ 2 ∷ 8969072982120392354 ∷ 17201193308979374991 ∷ 9 ∷ 1 ∷ 0 ∷ 13554616274055302228 ∷ 18446744073709551614 ∷ 4 ∷ 0 ∷ []))) ∷
    [])

run_45_of_0 : run_of program_45 0 0 arguments_45 ≡ Traps (trap kind.Divide (s 108 174) 0) ((rw I32 (4294967295 ∷ 3 ∷ 5 ∷ 0 ∷ 2589055290 ∷ 3707022886 ∷
    4294967289 ∷ 4294967293 ∷ 3528700269 ∷ 2147483647 ∷ 3376987938 ∷ 3 ∷ 4294967290 ∷ 2461371920 ∷ 4294967292 ∷ 4294967290 ∷ 9 ∷ 4294967289 ∷ 8 ∷ 4 ∷
    2147483648 ∷ 2147483648 ∷ 2 ∷ 3550392732 ∷ 2147483647 ∷ 4294967291 ∷ 2147483647 ∷ 9 ∷ 4 ∷ 0 ∷ 2147483647 ∷ 4 ∷ 9 ∷ [])) ∷ (rw U64 (1 ∷ 0 ∷ 4 ∷ 0 ∷
    2 ∷ 5 ∷ 5 ∷ 18446744073709551615 ∷ 3 ∷ 6 ∷ 9233800463023227841 ∷ 18446744073709551615 ∷ 13148255167793309194 ∷ 4 ∷ 9 ∷ 1 ∷ 18446744073709551615 ∷
    7 ∷ 0 ∷ 6 ∷ 18446744073709551615 ∷ 8 ∷ 9395820496477778537 ∷ 2 ∷ 8969072982120392354 ∷ 17201193308979374991 ∷ 9 ∷ 1 ∷ 0 ∷ 13554616274055302228 ∷
    18446744073709551614 ∷ 4 ∷ 0 ∷ [])) ∷ []) ([])
unfolding digits number_to wrap_to amount not_zero
run_45_of_0 = refl

work_45_of_0 : work_of program_45 0 0 arguments_45 ≡ 23
unfolding digits number_to wrap_to amount not_zero
work_45_of_0 = refl

-- wide_programs: traps 1255
-- uint64 g0(uniform int n1) { if (n1 <= 0) return exclusive_scan_add(9); g0(n1 - 1); if (rotate(programIndex, -1) || exclusive_scan_and(n1)) {
-- uniform signed int64 v2 = (3 ? 0xaf6a9489 : 18446744073709551615 | (9223372036854775807) % (6)), v3 = programCount; } else { ; } { ; ; ; } if
-- (programIndex) return n1 + (n1); return ~(programIndex); } export uniform int64 f(uniform int32 a[], uniform unsigned int8 o[]) { int x =
-- o[programIndex]; x *= x * x - programIndex == (int) x; if (g0((5) & 3)) return select(! 18446744073709551615, !(0x4844f35bu), none(8)); ++x;
-- o[programIndex] = x; return programCount; }
abbrev program_46 : Program
program_46 = pr W32 ((fn (Some U64) (Some (v U64)) ((vr (AVariable (u I32)) false) ∷ (vr (AVariable (u I64)) false) ∷ (vr (AVariable (u I64)) false) ∷
    []) (t_braces (t_stmts ((t_if Plain 1 (t_compare cmp.LessOrEqual (t_place (t_variable 0 (u I32) (s 32 34))) (cn I32 0 (s 38 39)) Uniform (s 32
    39)) (t_return (s 41 47) (Some (t_convert U64 (t_library lib.ScanAdd I32 (t_exprs ((cn I32 9 (s 67 68)) ∷ [])) (v I32) (s 48 69)))) (s 41 70)) (s
    28 70)) ∷ (t_simple (t_value (t_call (t_called 0 (t_arguments ((t_by_value (t_binary op.Sub (t_place (t_variable 0 (u I32) (s 74 76))) (cn I32 1
    (s 79 80)) (u I32) (s 74 80))) ∷ [])) (s 71 81)) (v U64))) (s 71 82)) ∷ (t_if_else Plain 1 (t_logic logic.Or (t_convert Truth (t_library
    lib.Rotate I32 (t_exprs ((t_program_index (s 94 106)) ∷ (t_unary un.Negate (cn I32 1 (s 109 110)) (u I32) (s 108 110)) ∷ [])) (v I32) (s 87 111)))
    (t_convert Truth (t_library lib.ScanAnd I32 (t_exprs ((t_place (t_variable 0 (u I32) (s 134 136))) ∷ [])) (v I32) (s 115 137))) Varying (s 87
    137)) (t_block (t_braces (t_stmts ((t_declare ((t_with_value 1 (u I64) (t_convert I64 (t_cast (t_choose (t_convert Truth (cn I32 3 (s 168 169)))
    (t_convert U64 (cn U32 2942997641 (s 172 182))) (t_binary op.Or (cn U64 18446744073709551615 (s 185 205)) (t_convert U64 (t_binary op.Rem (t_cast
    (cn I64 9223372036854775807 (s 209 228)) (u I64) (s 208 229)) (t_convert I64 (t_cast (cn I32 6 (s 233 234)) (u I32) (s 232 235))) (u I64) (s 208
    235))) (u U64) (s 185 235)) (u U64) (s 168 235)) (u U64) (s 167 236))) (s 162 236)) ∷ (t_with_value 2 (u I64) (t_convert I64 (cn I32 32 (s 243
    255))) (s 238 255)) ∷ []) (s 141 256)) ∷ [])) (s 139 258))) (t_block (t_braces (t_stmts ((t_block (t_braces (t_stmts ([])) (s 266 267))) ∷ [])) (s
    264 269))) (s 83 269)) ∷ (t_block (t_braces (t_stmts ((t_block (t_braces (t_stmts ([])) (s 272 273))) ∷ (t_block (t_braces (t_stmts ([])) (s 274
    275))) ∷ (t_block (t_braces (t_stmts ([])) (s 276 277))) ∷ [])) (s 270 279))) ∷ (t_if Plain 3 (t_convert Truth (t_program_index (s 284 296)))
    (t_return (s 298 304) (Some (t_convert U64 (t_binary op.Add (t_place (t_variable 0 (u I32) (s 305 307))) (t_cast (t_place (t_variable 0 (u I32) (s
    311 313))) (u I32) (s 310 314)) (u I32) (s 305 314)))) (s 298 315)) (s 280 315)) ∷ (t_return (s 316 322) (Some (t_convert U64 (t_unary un.Invert
    (t_cast (t_program_index (s 325 337)) (v I32) (s 324 338)) (v I32) (s 323 338)))) (s 316 339)) ∷ [])) (s 26 341))) ∷ (fn (Some I64) (Some (u I64))
    ((vr (Given I32) false) ∷ (vr (Given U8) false) ∷ (vr (AVariable (v I32)) false) ∷ []) (t_braces (t_stmts ((t_declare ((t_with_value 2 (v I32)
    (t_convert I32 (t_place (t_element (ar 1 (u U8) false) (t_program_index (s 423 435)) (v U8) (s 421 436)))) (s 417 436)) ∷ []) (s 413 437)) ∷
    (t_simple (t_update op.Mul I32 (t_variable 2 (v I32) (s 438 439)) (t_convert I32 (t_compare cmp.Equal (t_binary op.Sub (t_binary op.Mul (t_place
    (t_variable 2 (v I32) (s 443 444))) (t_place (t_variable 2 (v I32) (s 447 448))) (v I32) (s 443 448)) (t_program_index (s 451 463)) (v I32) (s 443
    463)) (t_cast (t_place (t_variable 2 (v I32) (s 473 474))) (v I32) (s 467 474)) Varying (s 443 474))) (s 438 474)) (s 438 475)) ∷ (t_if Plain 3
    (t_convert Truth (t_call (t_called 0 (t_arguments ((t_by_value (t_binary op.And (t_cast (cn I32 5 (s 484 485)) (u I32) (s 483 486)) (cn I32 3 (s
    489 490)) (u I32) (s 483 490))) ∷ [])) (s 480 491)) (v U64))) (t_return (s 493 499) (Some (t_convert I64 (t_library lib.Select Truth (t_exprs
    ((t_unary un.Not (t_convert Truth (cn U64 18446744073709551615 (s 509 529))) (u Truth) (s 507 529)) ∷ (t_unary un.Not (t_convert Truth (t_cast (cn
    U32 1212478299 (s 533 544)) (u U32) (s 532 545))) (u Truth) (s 531 545)) ∷ (t_library lib.None Truth (t_exprs ((t_convert Truth (cn I32 8 (s 552
    553))) ∷ [])) (u Truth) (s 547 554)) ∷ [])) (u Truth) (s 500 555)))) (s 493 556)) (s 476 556)) ∷ (t_simple (t_step op.Add I32 (t_variable 2 (v
    I32) (s 559 560)) (s 557 560)) (s 557 561)) ∷ (t_simple (t_assign (t_element (ar 1 (u U8) false) (t_program_index (s 564 576)) (v U8) (s 562 577))
    (t_convert U8 (t_place (t_variable 2 (v I32) (s 580 581)))) (s 562 581)) (s 562 582)) ∷ (t_return (s 583 589) (Some (t_convert I64 (cn I32 32 (s
    590 602)))) (s 583 603)) ∷ [])) (s 411 605))) ∷ [])

abbrev arguments_46 : List Argument
arguments_46 = ((AnArray (rw I32 (2881259685 ∷ 4294967293 ∷ 2349972054 ∷ 4294967289 ∷ 1695309932 ∷ 2147483646 ∷ 4294967294 ∷ 4 ∷ 4294967289 ∷
    2147483649 ∷ 2147483646 ∷ 2138869138 ∷ 2147483647 ∷ 700487043 ∷ 3916146041 ∷ 4294967289 ∷ 3583327244 ∷ 2147483649 ∷ 6 ∷ 7 ∷ 4294967293 ∷
    3674148457 ∷ 4294967289 ∷ 2661959245 ∷ 1238839390 ∷ 2356555944 ∷ 4 ∷ 4294967295 ∷ 4294967295 ∷ 8 ∷ 2147483648 ∷ 2147483648 ∷ 4185275348 ∷
    4294967291 ∷ 4294967295 ∷ []))) ∷ (AnArray (rw U8 (3 ∷ 196 ∷ 0 ∷ 9 ∷ 171 ∷ 6 ∷ 3 ∷ 1 ∷ 161 ∷ 199 ∷ 28 ∷ 2 ∷ 7 ∷ 78 ∷ 217 ∷ 3 ∷ 6 ∷ 7 ∷ 3 ∷ 4 ∷ 8 ∷
    0 ∷ 5 ∷ 2 ∷ 3 ∷ 255 ∷ 5 ∷ 6 ∷ 255 ∷ 4 ∷ 5 ∷ 94 ∷ 7 ∷ 8 ∷ []))) ∷ [])

run_46_of_0 : run_of program_46 1 0 arguments_46 ≡ Ends ((rw I32 (2881259685 ∷ 4294967293 ∷ 2349972054 ∷ 4294967289 ∷ 1695309932 ∷ 2147483646 ∷
    4294967294 ∷ 4 ∷ 4294967289 ∷ 2147483649 ∷ 2147483646 ∷ 2138869138 ∷ 2147483647 ∷ 700487043 ∷ 3916146041 ∷ 4294967289 ∷ 3583327244 ∷ 2147483649 ∷
    6 ∷ 7 ∷ 4294967293 ∷ 3674148457 ∷ 4294967289 ∷ 2661959245 ∷ 1238839390 ∷ 2356555944 ∷ 4 ∷ 4294967295 ∷ 4294967295 ∷ 8 ∷ 2147483648 ∷ 2147483648 ∷
    4185275348 ∷ 4294967291 ∷ 4294967295 ∷ [])) ∷ (rw U8 (3 ∷ 196 ∷ 0 ∷ 9 ∷ 171 ∷ 6 ∷ 3 ∷ 1 ∷ 161 ∷ 199 ∷ 28 ∷ 2 ∷ 7 ∷ 78 ∷ 217 ∷ 3 ∷ 6 ∷ 7 ∷ 3 ∷ 4 ∷
    8 ∷ 0 ∷ 5 ∷ 2 ∷ 3 ∷ 255 ∷ 5 ∷ 6 ∷ 255 ∷ 4 ∷ 5 ∷ 94 ∷ 7 ∷ 8 ∷ [])) ∷ []) (Some (record { elem = I64; bits = 0 })) ([])
unfolding digits number_to wrap_to amount not_zero
run_46_of_0 = refl

work_46_of_0 : work_of program_46 1 0 arguments_46 ≡ 80
unfolding digits number_to wrap_to amount not_zero
work_46_of_0 = refl

-- wide_programs: traps 1260
-- export void f(uniform signed a[], uniform uint32 o[], uniform int32 n) { int x = g0(n); if (g0(5)) return; x--; x++; a[programIndex] += x; }
-- uniform signed g0(uniform signed p1) { 3 - programIndex; ; signed int v2 = ! (p1 ? p1 : p1); return 9 << false >= 5; }
abbrev program_47 : Program
program_47 = pr W32 ((fn None None ((vr (Given I32) false) ∷ (vr (Given U32) false) ∷ (vr (AVariable (u I32)) false) ∷ (vr (AVariable (v I32)) false)
    ∷ []) (t_braces (t_stmts ((t_declare ((t_with_value 3 (v I32) (t_call (t_called 1 (t_arguments ((t_by_value (t_place (t_variable 2 (u I32) (s 84
    85)))) ∷ [])) (s 81 86)) (u I32)) (s 77 86)) ∷ []) (s 73 87)) ∷ (t_if Plain 4 (t_convert Truth (t_call (t_called 1 (t_arguments ((t_by_value (cn
    I32 5 (s 95 96))) ∷ [])) (s 92 97)) (u I32))) (t_return (s 99 105) None (s 99 106)) (s 88 106)) ∷ (t_simple (t_step op.Sub I32 (t_variable 3 (v
    I32) (s 107 108)) (s 107 110)) (s 107 111)) ∷ (t_simple (t_step op.Add I32 (t_variable 3 (v I32) (s 112 113)) (s 112 115)) (s 112 116)) ∷
    (t_simple (t_update op.Add I32 (t_element (ar 0 (u I32) false) (t_program_index (s 119 131)) (v I32) (s 117 132)) (t_place (t_variable 3 (v I32)
    (s 136 137))) (s 117 137)) (s 117 138)) ∷ [])) (s 71 140))) ∷ (fn (Some I32) (Some (u I32)) ((vr (AVariable (u I32)) false) ∷ (vr (AVariable (v
    I32)) false) ∷ []) (t_braces (t_stmts ((t_simple (t_value (t_binary op.Sub (cn I32 3 (s 180 181)) (t_program_index (s 184 196)) (v I32) (s 180
    196))) (s 180 197)) ∷ (t_block (t_braces (t_stmts ([])) (s 198 199))) ∷ (t_declare ((t_with_value 1 (v I32) (t_convert I32 (t_unary un.Not
    (t_convert Truth (t_cast (t_choose (t_convert Truth (t_place (t_variable 0 (u I32) (s 219 221)))) (t_place (t_variable 0 (u I32) (s 224 226)))
    (t_place (t_variable 0 (u I32) (s 229 231))) (u I32) (s 219 231)) (u I32) (s 218 232))) (u Truth) (s 216 232))) (s 211 232)) ∷ []) (s 200 233)) ∷
    (t_return (s 234 240) (Some (t_convert I32 (t_compare cmp.GreaterOrEqual (t_binary op.Shl (cn I32 9 (s 241 242)) (t_convert I32 (cn Truth 0 (s 246
    251))) (u I32) (s 241 251)) (cn I32 5 (s 255 256)) Uniform (s 241 256)))) (s 234 257)) ∷ [])) (s 178 259))) ∷ [])

abbrev arguments_47 : List Argument
arguments_47 = ((AnArray (rw I32 (2147483649 ∷ 2147483646 ∷ 7 ∷ 4294967288 ∷ 5 ∷ 2147483649 ∷ 3285078790 ∷ 4294967288 ∷ 2147483649 ∷ 4294967291 ∷
    4294967291 ∷ 4294967291 ∷ 2147483649 ∷ 494320104 ∷ 2147483648 ∷ 5 ∷ 4294967289 ∷ 2 ∷ 2147483648 ∷ 4294967290 ∷ 1 ∷ 2147483649 ∷ 4294967289 ∷ 8 ∷
    4294967288 ∷ 4294967290 ∷ 455161428 ∷ 6 ∷ 6 ∷ 5 ∷ 4294967289 ∷ 1 ∷ 2147483649 ∷ 8 ∷ 0 ∷ []))) ∷ (AnArray (rw U32 (8 ∷ 2 ∷ 5 ∷ 1 ∷ 1 ∷ 0 ∷ 0 ∷
    397899569 ∷ 0 ∷ 5 ∷ 4 ∷ 2 ∷ 4294967294 ∷ 4 ∷ 9 ∷ 2985214138 ∷ 1 ∷ 1898363901 ∷ 0 ∷ 6 ∷ 2 ∷ 5 ∷ 5 ∷ 1 ∷ 6 ∷ 4294967295 ∷ 3141719930 ∷ 4294967295 ∷
    6 ∷ 4294967294 ∷ 4294967295 ∷ 3 ∷ 5 ∷ 7 ∷ 0 ∷ 1 ∷ []))) ∷ (AValue (record { elem = I32; bits = 2147483646 })) ∷ [])

run_47_of_0 : run_of program_47 0 0 arguments_47 ≡ Ends ((rw I32 (2147483649 ∷ 2147483646 ∷ 7 ∷ 4294967288 ∷ 5 ∷ 2147483649 ∷ 3285078790 ∷ 4294967288
    ∷ 2147483649 ∷ 4294967291 ∷ 4294967291 ∷ 4294967291 ∷ 2147483649 ∷ 494320104 ∷ 2147483648 ∷ 5 ∷ 4294967289 ∷ 2 ∷ 2147483648 ∷ 4294967290 ∷ 1 ∷
    2147483649 ∷ 4294967289 ∷ 8 ∷ 4294967288 ∷ 4294967290 ∷ 455161428 ∷ 6 ∷ 6 ∷ 5 ∷ 4294967289 ∷ 1 ∷ 2147483649 ∷ 8 ∷ 0 ∷ [])) ∷ (rw U32 (8 ∷ 2 ∷ 5 ∷
    1 ∷ 1 ∷ 0 ∷ 0 ∷ 397899569 ∷ 0 ∷ 5 ∷ 4 ∷ 2 ∷ 4294967294 ∷ 4 ∷ 9 ∷ 2985214138 ∷ 1 ∷ 1898363901 ∷ 0 ∷ 6 ∷ 2 ∷ 5 ∷ 5 ∷ 1 ∷ 6 ∷ 4294967295 ∷ 3141719930
    ∷ 4294967295 ∷ 6 ∷ 4294967294 ∷ 4294967295 ∷ 3 ∷ 5 ∷ 7 ∷ 0 ∷ 1 ∷ [])) ∷ []) None ([])
unfolding digits number_to wrap_to amount not_zero
run_47_of_0 = refl

work_47_of_0 : work_of program_47 0 0 arguments_47 ≡ 47
unfolding digits number_to wrap_to amount not_zero
work_47_of_0 = refl
