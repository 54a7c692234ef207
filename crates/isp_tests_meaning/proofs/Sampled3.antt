-- Programs 24 to 35 of rows that were found outside, as theorems. Written by tools/sample_theorems.py.
use Rattle.std.specs.Prelude.{◌≡◌, true, false, List, [], ◌∷◌, Some, None}
use Rattle.std.proofs.Common.{refl}
use Rattle.std.specs.Fmt.{digits}
use Rattle.isp_base.specs.Values.{number_to, wrap_to, amount, not_zero}
use Rattle.isp_base.specs.Outcomes.{Ends, Traps, GoesOn}
use Rattle.isp_base.specs.Traps.{trap}
use Rattle.isp_base.specs.declared.types.Gang.TheVariants.{W4, W8, W16}
use Rattle.isp_base.specs.declared.types.Elem.TheVariants.{Bool as Truth, I8, U8, I16, U16, I32, U32, I64, U64}
use Rattle.isp_base.specs.declared.types.Rate.TheVariants.{Uniform, Varying}
use Rattle.isp_base.specs.declared.trap.TrapKind.TheVariants as kind
use Rattle.isp_base.specs.declared.operators.BinOp.TheVariants as op
use Rattle.isp_base.specs.declared.operators.UnaryOp.TheVariants as un
use Rattle.isp_base.specs.declared.operators.Compare.TheVariants as cmp
use Rattle.isp_base.specs.declared.signature.Argument.{Argument}
use Rattle.isp_base.specs.declared.signature.Argument.TheVariants.{Array as AnArray, Value as AValue}
use Rattle.isp_tree.specs.declared.stmt.Form.TheVariants.{Plain, Coherent}
use Rattle.isp_tree.specs.declared.stmt.Jump.TheVariants.{Break, Continue}
use Rattle.isp_typed.specs.declared.library.Library.TheVariants as lib
use Rattle.isp_typed.specs.declared.variable.Holds.TheVariants.{Value as AVariable, Given, Local}
use Rattle.isp_typed.specs.declared.variable.Logic.TheVariants as logic
use Rattle.isp_typed.specs.Typed.{t_program_index, t_place, t_convert, t_cast, t_unary, t_binary, t_compare, t_logic, t_choose, t_call, t_library, t_packed_store}
use Rattle.isp_typed.specs.Typed.{t_packed_load, t_variable, t_element, t_whole, t_from, t_by_value, t_by_name, t_called, t_arguments, t_exprs}
use Rattle.isp_typed.specs.Typed.{t_plain, t_with_value, t_with_size, t_value, t_run, t_assign, t_update, t_step, t_first_declare}
use Rattle.isp_typed.specs.Typed.{t_block, t_declare, t_simple, t_if, t_if_else, t_while, t_do, t_for, t_foreach, t_foreach_active, t_foreach_unique, t_unmasked}
use Rattle.isp_typed.specs.Typed.{t_jump, t_return, t_print, t_assert, t_braces, t_stmts, Program}
use Rattle.isp_meaning.specs.Runs.{run_of, work_of}
use Rattle.isp_tests_meaning.specs.Terms.{s, u, v, cn, ar, rg, vr, rw, fn, pr}

-- programs: traps 17
-- export uniform uint16 f(uniform int a[], uniform signed int8 o[], uniform unsigned int64 z[], uniform signed int n) { int x = n; foreach (i3 = 0
-- ... programCount, i4 = -1 ... programCount + 1, i5 = 0 ... programCount + 1) { ; packed_store_active(&a[3], (i4 ? i5 : programCount) >= (n) /
-- (z[(programIndex ^ (o[programIndex] ^ i5)) & 3])); { n = (n > 0b1111u); ++n; } } if ((programCount) / (x | 1)) return -(n); g0((x) & 3, a);
-- a[programIndex] += x; return (n) / (a[((programCount ? n : n)) & 3]) <= any(n); } varying int32 g0(signed n2, uniform signed b1[]) { if (n2 <=
-- 0) return (int32) -(n2); g0(n2 - 1, b1); b1[((b1[1] ? b1[(1) & 3] : b1[2])) & 3] >>= (int8) (0) / (b1[(b1[~(b1[2])] >= b1[(128 << b1[3]) & 3])
-- & 3]) + b1[((b1[(b1[2] < 6) & 3]) % (b1[1] | 1)) & 3]; }
abbrev program_24 : Program
program_24 = pr W4 ((fn (Some U16) (Some (u U16)) ((vr (Given I32) false) ∷ (vr (Given I8) false) ∷ (vr (Given U64) false) ∷ (vr (AVariable (u I32))
    false) ∷ (vr (AVariable (v I32)) false) ∷ (vr (AVariable (v I32)) true) ∷ (vr (AVariable (v I32)) true) ∷ (vr (AVariable (v I32)) true) ∷ [])
    (t_braces (t_stmts ((t_declare ((t_with_value 4 (v I32) (t_place (t_variable 3 (u I32) (s 126 127))) (s 122 127)) ∷ []) (s 118 128)) ∷ (t_foreach
    (s 129 136) 5 ((rg 5 (cn I32 0 (s 143 144)) (cn I32 4 (s 149 161)) (s 138 161)) ∷ (rg 6 (t_unary un.Negate (cn I32 1 (s 169 170)) (u I32) (s 168
    170)) (t_binary op.Add (cn I32 4 (s 175 187)) (cn I32 1 (s 190 191)) (u I32) (s 175 191)) (s 163 191)) ∷ (rg 7 (cn I32 0 (s 198 199)) (t_binary
    op.Add (cn I32 4 (s 204 216)) (cn I32 1 (s 219 220)) (u I32) (s 204 220)) (s 193 220)) ∷ []) (t_block (t_braces (t_stmts ((t_block (t_braces
    (t_stmts ([])) (s 224 225))) ∷ (t_simple (t_value (t_packed_store (t_from (ar 0 (u I32) false) (cn I32 3 (s 249 250)) (s 247 248)) (t_convert I32
    (t_compare cmp.GreaterOrEqual (t_convert U64 (t_cast (t_choose (t_convert Truth (t_place (t_variable 6 (v I32) (s 254 256)))) (t_place (t_variable
    7 (v I32) (s 259 261))) (cn I32 4 (s 264 276)) (v I32) (s 254 276)) (v I32) (s 253 277))) (t_binary op.Div (t_convert U64 (t_cast (t_place
    (t_variable 3 (u I32) (s 282 283))) (u I32) (s 281 284))) (t_cast (t_place (t_element (ar 2 (u U64) false) (t_binary op.And (t_cast (t_binary
    op.Xor (t_program_index (s 291 303)) (t_cast (t_binary op.Xor (t_convert I32 (t_place (t_element (ar 1 (u I8) false) (t_program_index (s 309 321))
    (v I8) (s 307 322)))) (t_place (t_variable 7 (v I32) (s 325 327))) (v I32) (s 307 327)) (v I32) (s 306 328)) (v I32) (s 291 328)) (v I32) (s 290
    329)) (cn I32 3 (s 332 333)) (v I32) (s 290 333)) (v U64) (s 288 334))) (v U64) (s 287 335)) (v U64) (s 281 335)) Varying (s 253 335))) (s 226
    336))) (s 226 337)) ∷ (t_block (t_braces (t_stmts ((t_simple (t_assign (t_variable 3 (u I32) (s 340 341)) (t_convert I32 (t_cast (t_compare
    cmp.Greater (t_convert U32 (t_place (t_variable 3 (u I32) (s 345 346)))) (cn U32 15 (s 349 356)) Uniform (s 345 356)) (u Truth) (s 344 357))) (s
    340 357)) (s 340 358)) ∷ (t_simple (t_step op.Add I32 (t_variable 3 (u I32) (s 361 362)) (s 359 362)) (s 359 363)) ∷ [])) (s 338 365))) ∷ [])) (s
    222 367))) (s 129 367)) ∷ (t_if Plain 8 (t_convert Truth (t_binary op.Div (t_cast (cn I32 4 (s 373 385)) (u I32) (s 372 386)) (t_cast (t_binary
    op.Or (t_place (t_variable 4 (v I32) (s 390 391))) (cn I32 1 (s 394 395)) (v I32) (s 390 395)) (v I32) (s 389 396)) (v I32) (s 372 396)))
    (t_return (s 398 404) (Some (t_convert U16 (t_unary un.Negate (t_cast (t_place (t_variable 3 (u I32) (s 407 408))) (u I32) (s 406 409)) (u I32) (s
    405 409)))) (s 398 410)) (s 368 410)) ∷ (t_simple (t_value (t_call (t_called 1 (t_arguments ((t_by_value (t_binary op.And (t_cast (t_place
    (t_variable 4 (v I32) (s 415 416))) (v I32) (s 414 417)) (cn I32 3 (s 420 421)) (v I32) (s 414 421))) ∷ (t_by_name (ar 0 (u I32) false) (s 423
    424)) ∷ [])) (s 411 425)) (v I32))) (s 411 426)) ∷ (t_simple (t_update op.Add I32 (t_element (ar 0 (u I32) false) (t_program_index (s 429 441)) (v
    I32) (s 427 442)) (t_place (t_variable 4 (v I32) (s 446 447))) (s 427 447)) (s 427 448)) ∷ (t_return (s 449 455) (Some (t_convert U16 (t_compare
    cmp.LessOrEqual (t_binary op.Div (t_cast (t_place (t_variable 3 (u I32) (s 457 458))) (u I32) (s 456 459)) (t_cast (t_place (t_element (ar 0 (u
    I32) false) (t_binary op.And (t_cast (t_cast (t_choose (t_convert Truth (cn I32 4 (s 467 479))) (t_place (t_variable 3 (u I32) (s 482 483)))
    (t_place (t_variable 3 (u I32) (s 486 487))) (u I32) (s 467 487)) (u I32) (s 466 488)) (u I32) (s 465 489)) (cn I32 3 (s 492 493)) (u I32) (s 465
    493)) (u I32) (s 463 494))) (u I32) (s 462 495)) (u I32) (s 456 495)) (t_convert I32 (t_library lib.Any Truth (t_exprs ((t_convert Truth (t_place
    (t_variable 3 (u I32) (s 503 504)))) ∷ [])) (u Truth) (s 499 505))) Uniform (s 456 505)))) (s 449 506)) ∷ [])) (s 116 508))) ∷ (fn (Some I32)
    (Some (v I32)) ((vr (AVariable (v I32)) false) ∷ (vr (Given I32) false) ∷ []) (t_braces (t_stmts ((t_if Plain 2 (t_compare cmp.LessOrEqual
    (t_place (t_variable 0 (v I32) (s 564 566))) (cn I32 0 (s 570 571)) Varying (s 564 571)) (t_return (s 573 579) (Some (t_cast (t_unary un.Negate
    (t_cast (t_place (t_variable 0 (v I32) (s 590 592))) (v I32) (s 589 593)) (v I32) (s 588 593)) (v I32) (s 580 593))) (s 573 594)) (s 560 594)) ∷
    (t_simple (t_value (t_call (t_called 1 (t_arguments ((t_by_value (t_binary op.Sub (t_place (t_variable 0 (v I32) (s 598 600))) (cn I32 1 (s 603
    604)) (v I32) (s 598 604))) ∷ (t_by_name (ar 1 (u I32) false) (s 606 608)) ∷ [])) (s 595 609)) (v I32))) (s 595 610)) ∷ (t_simple (t_update op.Shr
    I32 (t_element (ar 1 (u I32) false) (t_binary op.And (t_cast (t_cast (t_choose (t_convert Truth (t_place (t_element (ar 1 (u I32) false) (cn I32 1
    (s 619 620)) (u I32) (s 616 621)))) (t_place (t_element (ar 1 (u I32) false) (t_binary op.And (t_cast (cn I32 1 (s 628 629)) (u I32) (s 627 630))
    (cn I32 3 (s 633 634)) (u I32) (s 627 634)) (u I32) (s 624 635))) (t_place (t_element (ar 1 (u I32) false) (cn I32 2 (s 641 642)) (u I32) (s 638
    643))) (u I32) (s 616 643)) (u I32) (s 615 644)) (u I32) (s 614 645)) (cn I32 3 (s 648 649)) (u I32) (s 614 649)) (u I32) (s 611 650)) (t_binary
    op.Add (t_binary op.Div (t_convert I32 (t_cast (t_convert I8 (t_cast (cn I32 0 (s 663 664)) (u I32) (s 662 665))) (u I8) (s 655 665))) (t_cast
    (t_place (t_element (ar 1 (u I32) false) (t_binary op.And (t_convert I32 (t_cast (t_compare cmp.GreaterOrEqual (t_place (t_element (ar 1 (u I32)
    false) (t_unary un.Invert (t_cast (t_place (t_element (ar 1 (u I32) false) (cn I32 2 (s 681 682)) (u I32) (s 678 683))) (u I32) (s 677 684)) (u
    I32) (s 676 684)) (u I32) (s 673 685))) (t_place (t_element (ar 1 (u I32) false) (t_binary op.And (t_cast (t_binary op.Shl (cn I32 128 (s 693
    696)) (t_place (t_element (ar 1 (u I32) false) (cn I32 3 (s 703 704)) (u I32) (s 700 705))) (u I32) (s 693 705)) (u I32) (s 692 706)) (cn I32 3 (s
    709 710)) (u I32) (s 692 710)) (u I32) (s 689 711))) Uniform (s 673 711)) (u Truth) (s 672 712))) (cn I32 3 (s 715 716)) (u I32) (s 672 716)) (u
    I32) (s 669 717))) (u I32) (s 668 718)) (u I32) (s 655 718)) (t_place (t_element (ar 1 (u I32) false) (t_binary op.And (t_cast (t_binary op.Rem
    (t_cast (t_place (t_element (ar 1 (u I32) false) (t_binary op.And (t_convert I32 (t_cast (t_compare cmp.Less (t_place (t_element (ar 1 (u I32)
    false) (cn I32 2 (s 733 734)) (u I32) (s 730 735))) (cn I32 6 (s 738 739)) Uniform (s 730 739)) (u Truth) (s 729 740))) (cn I32 3 (s 743 744)) (u
    I32) (s 729 744)) (u I32) (s 726 745))) (u I32) (s 725 746)) (t_cast (t_binary op.Or (t_place (t_element (ar 1 (u I32) false) (cn I32 1 (s 753
    754)) (u I32) (s 750 755))) (cn I32 1 (s 758 759)) (u I32) (s 750 759)) (u I32) (s 749 760)) (u I32) (s 725 760)) (u I32) (s 724 761)) (cn I32 3
    (s 764 765)) (u I32) (s 724 765)) (u I32) (s 721 766))) (u I32) (s 655 766)) (s 611 766)) (s 611 767)) ∷ [])) (s 558 769))) ∷ [])

abbrev arguments_24 : List Argument
arguments_24 = ((AnArray (rw I32 (2147483646 ∷ 4294967287 ∷ 5 ∷ 3606750507 ∷ []))) ∷ (AnArray (rw I8 (253 ∷ 89 ∷ 200 ∷ 3 ∷ 10 ∷ 4 ∷ 4 ∷ []))) ∷
    (AnArray (rw U64 (7 ∷ 18446744073709551614 ∷ 18446744073709551615 ∷ 6483458762892711110 ∷ 5 ∷ []))) ∷ (AValue (record { elem = I32; bits = 5 })) ∷
    [])

run_24_of_0 : run_of program_24 0 0 arguments_24 ≡ Traps (trap kind.Index (s 226 336) 1) ((rw I32 (2147483646 ∷ 4294967287 ∷ 5 ∷ 3606750507 ∷ [])) ∷
    (rw I8 (253 ∷ 89 ∷ 200 ∷ 3 ∷ 10 ∷ 4 ∷ 4 ∷ [])) ∷ (rw U64 (7 ∷ 18446744073709551614 ∷ 18446744073709551615 ∷ 6483458762892711110 ∷ 5 ∷ [])) ∷ [])
    ([])
unfolding digits number_to wrap_to amount not_zero
run_24_of_0 = refl

work_24_of_0 : work_of program_24 0 0 arguments_24 ≡ 118
unfolding digits number_to wrap_to amount not_zero
work_24_of_0 = refl

-- programs: traps 19
-- uniform signed int g0(int32 n1) { ; g0(n1 - 1); { if (0) return 0xf; ; uniform int32 v2 = (unsigned int) 0x73; } ; if (programIndex == n1) return
-- ~ 7 - 1; return (~ 4294967295) % (~ 9223372036854775807 | 1); } export uniform unsigned int64 f(uniform int32 a[], uniform uint8 o[], uniform
-- signed n) { int x = ! o[programIndex] << n & 7; foreach (i3 = 1 ... programCount + 1) { n &= reduce_add(1 << !(n)); packed_store_active(&a[1],
-- ~(n && n)); } x &= abs(x && programIndex * exclusive_scan_add(x)); if (exclusive_scan_add(x || 4294967296)) { if (g0((n) & 3)) return 2 && 7 >
-- - n; } g0((256) & 3); assert(programIndex < programCount); o[programIndex] = x; return ~(n || 9); }
abbrev program_25 : Program
program_25 = pr W4 ((fn (Some I32) (Some (u I32)) ((vr (AVariable (v I32)) false) ∷ (vr (AVariable (u I32)) false) ∷ []) (t_braces (t_stmts ((t_block
    (t_braces (t_stmts ([])) (s 34 35))) ∷ (t_simple (t_value (t_call (t_called 0 (t_arguments ((t_by_value (t_binary op.Sub (t_place (t_variable 0 (v
    I32) (s 39 41))) (cn I32 1 (s 44 45)) (v I32) (s 39 45))) ∷ [])) (s 36 46)) (u I32))) (s 36 47)) ∷ (t_block (t_braces (t_stmts ((t_if Plain 1
    (t_convert Truth (cn I32 0 (s 54 55))) (t_return (s 57 63) (Some (cn I32 15 (s 64 67))) (s 57 68)) (s 50 68)) ∷ (t_block (t_braces (t_stmts ([]))
    (s 69 70))) ∷ (t_declare ((t_with_value 1 (u I32) (t_convert I32 (t_cast (t_convert U32 (cn I32 115 (s 105 109))) (u U32) (s 90 109))) (s 85 109))
    ∷ []) (s 71 110)) ∷ [])) (s 48 112))) ∷ (t_block (t_braces (t_stmts ([])) (s 113 114))) ∷ (t_if Plain 2 (t_compare cmp.Equal (t_program_index (s
    119 131)) (t_place (t_variable 0 (v I32) (s 135 137))) Varying (s 119 137)) (t_return (s 139 145) (Some (t_binary op.Sub (t_unary un.Invert (cn
    I32 7 (s 148 149)) (u I32) (s 146 149)) (cn I32 1 (s 152 153)) (u I32) (s 146 153))) (s 139 154)) (s 115 154)) ∷ (t_return (s 155 161) (Some
    (t_convert I32 (t_binary op.Rem (t_cast (t_unary un.Invert (cn I64 4294967295 (s 165 175)) (u I64) (s 163 175)) (u I64) (s 162 176)) (t_cast
    (t_binary op.Or (t_unary un.Invert (cn I64 9223372036854775807 (s 182 201)) (u I64) (s 180 201)) (t_convert I64 (cn I32 1 (s 204 205))) (u I64) (s
    180 205)) (u I64) (s 179 206)) (u I64) (s 162 206)))) (s 155 207)) ∷ [])) (s 32 209))) ∷ (fn (Some U64) (Some (u U64)) ((vr (Given I32) false) ∷
    (vr (Given U8) false) ∷ (vr (AVariable (u I32)) false) ∷ (vr (AVariable (v I32)) false) ∷ (vr (AVariable (v I32)) true) ∷ []) (t_braces (t_stmts
    ((t_declare ((t_with_value 3 (v I32) (t_binary op.And (t_binary op.Shl (t_convert I32 (t_unary un.Not (t_convert Truth (t_place (t_element (ar 1
    (u U8) false) (t_program_index (s 312 324)) (v U8) (s 310 325)))) (v Truth) (s 308 325))) (t_place (t_variable 2 (u I32) (s 329 330))) (v I32) (s
    308 330)) (cn I32 7 (s 333 334)) (v I32) (s 308 334)) (s 304 334)) ∷ []) (s 300 335)) ∷ (t_foreach (s 336 343) 4 ((rg 4 (cn I32 1 (s 350 351))
    (t_binary op.Add (cn I32 4 (s 356 368)) (cn I32 1 (s 371 372)) (u I32) (s 356 372)) (s 345 372)) ∷ []) (t_block (t_braces (t_stmts ((t_simple
    (t_update op.And I64 (t_variable 2 (u I32) (s 376 377)) (t_library lib.ReduceAdd I32 (t_exprs ((t_binary op.Shl (cn I32 1 (s 392 393)) (t_convert
    I32 (t_unary un.Not (t_convert Truth (t_cast (t_place (t_variable 2 (u I32) (s 399 400))) (u I32) (s 398 401))) (u Truth) (s 397 401))) (u I32) (s
    392 401)) ∷ [])) (u I64) (s 381 402)) (s 376 402)) (s 376 403)) ∷ (t_simple (t_value (t_packed_store (t_from (ar 0 (u I32) false) (cn I32 1 (s 427
    428)) (s 425 426)) (t_unary un.Invert (t_convert I32 (t_cast (t_logic logic.And (t_convert Truth (t_place (t_variable 2 (u I32) (s 433 434))))
    (t_convert Truth (t_place (t_variable 2 (u I32) (s 438 439)))) Uniform (s 433 439)) (u Truth) (s 432 440))) (u I32) (s 431 440)) (s 404 441))) (s
    404 442)) ∷ [])) (s 374 444))) (s 336 444)) ∷ (t_simple (t_update op.And I32 (t_variable 3 (v I32) (s 445 446)) (t_library lib.Abs I32 (t_exprs
    ((t_convert I32 (t_logic logic.And (t_convert Truth (t_place (t_variable 3 (v I32) (s 454 455)))) (t_convert Truth (t_binary op.Mul
    (t_program_index (s 459 471)) (t_library lib.ScanAdd I32 (t_exprs ((t_place (t_variable 3 (v I32) (s 493 494))) ∷ [])) (v I32) (s 474 495)) (v
    I32) (s 459 495))) Varying (s 454 495))) ∷ [])) (v I32) (s 450 496)) (s 445 496)) (s 445 497)) ∷ (t_if Plain 5 (t_convert Truth (t_library
    lib.ScanAdd I32 (t_exprs ((t_convert I32 (t_logic logic.Or (t_convert Truth (t_place (t_variable 3 (v I32) (s 521 522)))) (t_convert Truth (cn I64
    4294967296 (s 526 536))) Varying (s 521 536))) ∷ [])) (v I32) (s 502 537))) (t_block (t_braces (t_stmts ((t_if Plain 5 (t_convert Truth (t_call
    (t_called 0 (t_arguments ((t_by_value (t_binary op.And (t_cast (t_place (t_variable 2 (u I32) (s 549 550))) (u I32) (s 548 551)) (cn I32 3 (s 554
    555)) (u I32) (s 548 555))) ∷ [])) (s 545 556)) (u I32))) (t_return (s 558 564) (Some (t_convert U64 (t_logic logic.And (t_convert Truth (cn I32 2
    (s 565 566))) (t_compare cmp.Greater (cn I32 7 (s 570 571)) (t_unary un.Negate (t_place (t_variable 2 (u I32) (s 576 577))) (u I32) (s 574 577))
    Uniform (s 570 577)) Uniform (s 565 577)))) (s 558 578)) (s 541 578)) ∷ [])) (s 539 580))) (s 498 580)) ∷ (t_simple (t_value (t_call (t_called 0
    (t_arguments ((t_by_value (t_binary op.And (t_cast (cn I32 256 (s 585 588)) (u I32) (s 584 589)) (cn I32 3 (s 592 593)) (u I32) (s 584 593))) ∷
    [])) (s 581 594)) (u I32))) (s 581 595)) ∷ (t_assert (t_compare cmp.Less (t_program_index (s 603 615)) (cn I32 4 (s 618 630)) Varying (s 603 630))
    (s 596 631) (s 596 632)) ∷ (t_simple (t_assign (t_element (ar 1 (u U8) false) (t_program_index (s 635 647)) (v U8) (s 633 648)) (t_convert U8
    (t_place (t_variable 3 (v I32) (s 651 652)))) (s 633 652)) (s 633 653)) ∷ (t_return (s 654 660) (Some (t_convert U64 (t_unary un.Invert (t_convert
    I32 (t_cast (t_logic logic.Or (t_convert Truth (t_place (t_variable 2 (u I32) (s 663 664)))) (t_convert Truth (cn I32 9 (s 668 669))) Uniform (s
    663 669)) (u Truth) (s 662 670))) (u I32) (s 661 670)))) (s 654 671)) ∷ [])) (s 298 673))) ∷ [])

abbrev arguments_25 : List Argument
arguments_25 = ((AnArray (rw I32 (1 ∷ 2994627346 ∷ 3342417672 ∷ 2419481735 ∷ 7 ∷ 2147483647 ∷ 5 ∷ []))) ∷ (AnArray (rw U8 (73 ∷ 4 ∷ 7 ∷ 255 ∷ []))) ∷
    (AValue (record { elem = I32; bits = 2924826074 })) ∷ [])

run_25_of_0 : run_of program_25 1 0 arguments_25 ≡ Traps (trap kind.Depth (s 36 46) 1) ((rw I32 (1 ∷ 4294967295 ∷ 4294967295 ∷ 4294967295 ∷ 4294967295
    ∷ 2147483647 ∷ 5 ∷ [])) ∷ (rw U8 (73 ∷ 4 ∷ 7 ∷ 255 ∷ [])) ∷ []) ([])
unfolding digits number_to wrap_to amount not_zero
run_25_of_0 = refl

work_25_of_0 : work_of program_25 1 0 arguments_25 ≡ 1835
unfolding digits number_to wrap_to amount not_zero
work_25_of_0 = refl

-- programs: traps 28
-- void g0(int p1, uniform signed b2[]) { ; } export void f(uniform int32 a[], uniform unsigned int8 o[]) { int x = (o[6] ? a[(programIndex ^
-- (programCount)) & 15] : - 255); foreach (i3 = -1 ... programCount) { if (0xcd53e2abcfed0916) { assert(true); } else { g0((4294967295 ? x :
-- o[programIndex]), a); } { int k4 = 0; while (true) { if (k4 > 3) break; k4 += programIndex + 1; if (any(x)) continue; packed_store_active(&a,
-- ~ ~(programIndex)); } } } { int k5 = programIndex; cwhile (k5 < 3) { k5++; signed v6 = min(0x7523b1e2da4fb0bbu, clamp(8, shuffle(91Lu,
-- 0x1197d6aa8), programIndex)); } } x <<= x; o[programIndex] = x; }
abbrev program_26 : Program
program_26 = pr W16 ((fn None None ((vr (AVariable (v I32)) false) ∷ (vr (Given I32) false) ∷ []) (t_braces (t_stmts ((t_block (t_braces (t_stmts
    ([])) (s 39 40))) ∷ [])) (s 37 42))) ∷ (fn None None ((vr (Given I32) false) ∷ (vr (Given U8) false) ∷ (vr (AVariable (v I32)) false) ∷ (vr
    (AVariable (v I32)) true) ∷ (vr (AVariable (v I32)) false) ∷ (vr (AVariable (v I32)) false) ∷ (vr (AVariable (v I32)) false) ∷ []) (t_braces
    (t_stmts ((t_declare ((t_with_value 2 (v I32) (t_cast (t_choose (t_convert Truth (t_place (t_element (ar 1 (u U8) false) (cn I32 6 (s 116 117)) (u
    U8) (s 114 118)))) (t_place (t_element (ar 0 (u I32) false) (t_binary op.And (t_cast (t_binary op.Xor (t_program_index (s 124 136)) (t_cast (cn
    I32 16 (s 140 152)) (u I32) (s 139 153)) (v I32) (s 124 153)) (v I32) (s 123 154)) (cn I32 15 (s 157 159)) (v I32) (s 123 159)) (v I32) (s 121
    160))) (t_unary un.Negate (cn I32 255 (s 165 168)) (u I32) (s 163 168)) (v I32) (s 114 168)) (v I32) (s 113 169)) (s 109 169)) ∷ []) (s 105 170))
    ∷ (t_foreach (s 171 178) 3 ((rg 3 (t_unary un.Negate (cn I32 1 (s 186 187)) (u I32) (s 185 187)) (cn I32 16 (s 192 204)) (s 180 204)) ∷ [])
    (t_block (t_braces (t_stmts ((t_if_else Plain 4 (t_convert Truth (cn U64 14795418428397914390 (s 212 230))) (t_block (t_braces (t_stmts ((t_assert
    (cn Truth 1 (s 241 245)) (s 234 246) (s 234 247)) ∷ [])) (s 232 249))) (t_block (t_braces (t_stmts ((t_simple (t_run (t_called 0 (t_arguments
    ((t_by_value (t_cast (t_choose (t_convert Truth (cn I64 4294967295 (s 261 271))) (t_place (t_variable 2 (v I32) (s 274 275))) (t_convert I32
    (t_place (t_element (ar 1 (u U8) false) (t_program_index (s 280 292)) (v U8) (s 278 293)))) (v I32) (s 261 293)) (v I32) (s 260 294))) ∷
    (t_by_name (ar 0 (u I32) false) (s 296 297)) ∷ [])) (s 257 298))) (s 257 299)) ∷ [])) (s 255 301))) (s 208 301)) ∷ (t_block (t_braces (t_stmts
    ((t_declare ((t_with_value 4 (v I32) (cn I32 0 (s 313 314)) (s 308 314)) ∷ []) (s 304 315)) ∷ (t_while Plain 5 (cn Truth 1 (s 323 327)) (t_block
    (t_braces (t_stmts ((t_if Plain 5 (t_compare cmp.Greater (t_place (t_variable 4 (v I32) (s 335 337))) (cn I32 3 (s 340 341)) Varying (s 335 341))
    (t_jump Break (s 343 348) (s 343 349)) (s 331 349)) ∷ (t_simple (t_update op.Add I32 (t_variable 4 (v I32) (s 350 352)) (t_binary op.Add
    (t_program_index (s 356 368)) (cn I32 1 (s 371 372)) (v I32) (s 356 372)) (s 350 372)) (s 350 373)) ∷ (t_if Plain 5 (t_library lib.Any Truth
    (t_exprs ((t_convert Truth (t_place (t_variable 2 (v I32) (s 383 384)))) ∷ [])) (u Truth) (s 379 385)) (t_jump Continue (s 387 395) (s 387 396))
    (s 375 396)) ∷ (t_simple (t_value (t_packed_store (t_whole (ar 0 (u I32) false) (s 418 419)) (t_unary un.Invert (t_unary un.Invert (t_cast
    (t_program_index (s 425 437)) (v I32) (s 424 438)) (v I32) (s 423 438)) (v I32) (s 421 438)) (s 397 439))) (s 397 440)) ∷ [])) (s 329 442))) (s
    316 442)) ∷ [])) (s 302 444))) ∷ [])) (s 206 446))) (s 171 446)) ∷ (t_block (t_braces (t_stmts ((t_declare ((t_with_value 5 (v I32)
    (t_program_index (s 458 470)) (s 453 470)) ∷ []) (s 449 471)) ∷ (t_while Coherent 6 (t_compare cmp.Less (t_place (t_variable 5 (v I32) (s 480
    482))) (cn I32 3 (s 485 486)) Varying (s 480 486)) (t_block (t_braces (t_stmts ((t_simple (t_step op.Add I32 (t_variable 5 (v I32) (s 490 492)) (s
    490 494)) (s 490 495)) ∷ (t_declare ((t_with_value 6 (v I32) (t_convert I32 (t_library lib.Min U64 (t_exprs ((cn U64 8440785714505822395 (s 513
    532)) ∷ (t_library lib.Clamp U64 (t_exprs ((t_convert U64 (cn I32 8 (s 540 541))) ∷ (t_library lib.Shuffle U64 (t_exprs ((cn U64 91 (s 551 555)) ∷
    (t_convert I32 (cn I64 4722617000 (s 557 568))) ∷ [])) (v U64) (s 543 569)) ∷ (t_convert U64 (t_program_index (s 571 583))) ∷ [])) (v U64) (s 534
    584)) ∷ [])) (v U64) (s 509 585))) (s 504 585)) ∷ []) (s 497 586)) ∷ [])) (s 488 588))) (s 472 588)) ∷ [])) (s 447 590))) ∷ (t_simple (t_update
    op.Shl I32 (t_variable 2 (v I32) (s 591 592)) (t_place (t_variable 2 (v I32) (s 597 598))) (s 591 598)) (s 591 599)) ∷ (t_simple (t_assign
    (t_element (ar 1 (u U8) false) (t_program_index (s 602 614)) (v U8) (s 600 615)) (t_convert U8 (t_place (t_variable 2 (v I32) (s 618 619)))) (s
    600 619)) (s 600 620)) ∷ [])) (s 103 622))) ∷ [])

abbrev arguments_26 : List Argument
arguments_26 = ((AnArray (rw I32 (2 ∷ 0 ∷ 4294967294 ∷ 4294967288 ∷ 4294967289 ∷ 461996599 ∷ 4258489257 ∷ 4294967288 ∷ 1 ∷ 4294967295 ∷ 2147483648 ∷
    2147483649 ∷ 2026596164 ∷ 4 ∷ 4294967290 ∷ 4294967287 ∷ 4294967291 ∷ 1540518701 ∷ 5 ∷ 8 ∷ []))) ∷ (AnArray (rw U8 (1 ∷ 1 ∷ 3 ∷ 1 ∷ 8 ∷ 2 ∷ 2 ∷ 5 ∷
    1 ∷ 1 ∷ 8 ∷ 255 ∷ 231 ∷ 254 ∷ 4 ∷ 7 ∷ []))) ∷ [])

run_26_of_2 : run_of program_26 1 2 arguments_26 ≡ GoesOn ([])
unfolding digits number_to wrap_to amount not_zero
run_26_of_2 = refl

work_26_of_2 : work_of program_26 1 2 arguments_26 ≡ 66
unfolding digits number_to wrap_to amount not_zero
work_26_of_2 = refl

-- programs: traps 30
-- export uniform uint8 f(uniform int32 a[], uniform uint32 o[], uniform signed int8 n) { int x = insert(exclusive_scan_add(n), n, ~(o[(n) & 7])); n
-- = packed_store_active(&o[0], 34ul); n |= o[(n) & 7]; assert(reduce_max((programIndex ? n : programIndex))); o[programIndex] *= (shift(n, 3)) %
-- (~ x) == programIndex < 93ll; if (o[3] && 0b1010 >= (o[~(n)] ? 0 : 2147483647)) { packed_load_active(a, &x); o[n] %= n; } else { { g0(- 4,
-- (n)); x &= - (x) * programIndex; n >>= ! n + (86Lu) | 2 * n - 0x4d9751c508db19e3u; } n &= n; { o[(programIndex ^ (n * n)) & 7] &= programIndex
-- ^ 0b1011u <= programIndex >= 8; } } o[programIndex] = x; return n; } void g0(uniform unsigned int64 p1, uniform signed int p2) { assert(!
-- ~(programCount)); assert(programIndex < programCount); ; }
abbrev program_27 : Program
program_27 = pr W4 ((fn (Some U8) (Some (u U8)) ((vr (Given I32) false) ∷ (vr (Given U32) false) ∷ (vr (AVariable (u I8)) false) ∷ (vr (AVariable (v
    I32)) false) ∷ []) (t_braces (t_stmts ((t_declare ((t_with_value 3 (v I32) (t_convert I32 (t_library lib.Insert I8 (t_exprs ((t_library
    lib.ScanAdd I8 (t_exprs ((t_place (t_variable 2 (u I8) (s 121 122))) ∷ [])) (v I8) (s 102 123)) ∷ (t_convert I32 (t_place (t_variable 2 (u I8) (s
    125 126)))) ∷ (t_convert I8 (t_unary un.Invert (t_cast (t_place (t_element (ar 1 (u U32) false) (t_binary op.And (t_convert I32 (t_cast (t_place
    (t_variable 2 (u I8) (s 133 134))) (u I8) (s 132 135))) (cn I32 7 (s 138 139)) (u I32) (s 132 139)) (u U32) (s 130 140))) (u U32) (s 129 141)) (u
    U32) (s 128 141))) ∷ [])) (v I8) (s 95 142))) (s 91 142)) ∷ []) (s 87 143)) ∷ (t_simple (t_assign (t_variable 2 (u I8) (s 144 145)) (t_convert I8
    (t_packed_store (t_from (ar 1 (u U32) false) (cn I32 0 (s 171 172)) (s 169 170)) (t_convert U32 (cn U64 34 (s 175 179))) (s 148 180))) (s 144
    180)) (s 144 181)) ∷ (t_simple (t_update op.Or U32 (t_variable 2 (u I8) (s 182 183)) (t_place (t_element (ar 1 (u U32) false) (t_binary op.And
    (t_convert I32 (t_cast (t_place (t_variable 2 (u I8) (s 190 191))) (u I8) (s 189 192))) (cn I32 7 (s 195 196)) (u I32) (s 189 196)) (u U32) (s 187
    197))) (s 182 197)) (s 182 198)) ∷ (t_assert (t_convert Truth (t_library lib.ReduceMax I32 (t_exprs ((t_cast (t_choose (t_convert Truth
    (t_program_index (s 218 230))) (t_convert I32 (t_place (t_variable 2 (u I8) (s 233 234)))) (t_program_index (s 237 249)) (v I32) (s 218 249)) (v
    I32) (s 217 250)) ∷ [])) (u I32) (s 206 251))) (s 199 252) (s 199 253)) ∷ (t_simple (t_update op.Mul U32 (t_element (ar 1 (u U32) false)
    (t_program_index (s 256 268)) (v U32) (s 254 269)) (t_convert U32 (t_compare cmp.Equal (t_binary op.Rem (t_convert I32 (t_cast (t_library
    lib.Shift I8 (t_exprs ((t_place (t_variable 2 (u I8) (s 280 281))) ∷ (cn I32 3 (s 283 284)) ∷ [])) (v I8) (s 274 285)) (v I8) (s 273 286)))
    (t_cast (t_unary un.Invert (t_place (t_variable 3 (v I32) (s 292 293))) (v I32) (s 290 293)) (v I32) (s 289 294)) (v I32) (s 273 294)) (t_convert
    I32 (t_compare cmp.Less (t_convert I64 (t_program_index (s 298 310))) (cn I64 93 (s 313 317)) Varying (s 298 317))) Varying (s 273 317))) (s 254
    317)) (s 254 318)) ∷ (t_if_else Plain 4 (t_logic logic.And (t_convert Truth (t_place (t_element (ar 1 (u U32) false) (cn I32 3 (s 325 326)) (u
    U32) (s 323 327)))) (t_compare cmp.GreaterOrEqual (cn I32 10 (s 331 337)) (t_cast (t_choose (t_convert Truth (t_place (t_element (ar 1 (u U32)
    false) (t_unary un.Invert (t_cast (t_place (t_variable 2 (u I8) (s 346 347))) (u I8) (s 345 348)) (u I8) (s 344 348)) (u U32) (s 342 349)))) (cn
    I32 0 (s 352 353)) (cn I32 2147483647 (s 356 366)) (u I32) (s 342 366)) (u I32) (s 341 367)) Uniform (s 331 367)) Uniform (s 323 367)) (t_block
    (t_braces (t_stmts ((t_simple (t_value (t_packed_load (t_whole (ar 0 (u I32) false) (s 390 391)) 3 (s 371 396))) (s 371 397)) ∷ (t_simple
    (t_update op.Rem U32 (t_element (ar 1 (u U32) false) (t_place (t_variable 2 (u I8) (s 400 401))) (u U32) (s 398 402)) (t_convert U32 (t_place
    (t_variable 2 (u I8) (s 406 407)))) (s 398 407)) (s 398 408)) ∷ [])) (s 369 410))) (t_block (t_braces (t_stmts ((t_block (t_braces (t_stmts
    ((t_simple (t_run (t_called 1 (t_arguments ((t_by_value (t_convert U64 (t_unary un.Negate (cn I32 4 (s 425 426)) (u I32) (s 423 426)))) ∷
    (t_by_value (t_convert I32 (t_cast (t_place (t_variable 2 (u I8) (s 429 430))) (u I8) (s 428 431)))) ∷ [])) (s 420 432))) (s 420 433)) ∷ (t_simple
    (t_update op.And I32 (t_variable 3 (v I32) (s 434 435)) (t_binary op.Mul (t_unary un.Negate (t_cast (t_place (t_variable 3 (v I32) (s 442 443)))
    (v I32) (s 441 444)) (v I32) (s 439 444)) (t_program_index (s 447 459)) (v I32) (s 439 459)) (s 434 459)) (s 434 460)) ∷ (t_simple (t_update
    op.Shr U64 (t_variable 2 (u I8) (s 461 462)) (t_binary op.Or (t_binary op.Add (t_convert U64 (t_unary un.Not (t_convert Truth (t_place (t_variable
    2 (u I8) (s 469 470)))) (u Truth) (s 467 470))) (t_cast (cn U64 86 (s 474 478)) (u U64) (s 473 479)) (u U64) (s 467 479)) (t_binary op.Sub
    (t_convert U64 (t_binary op.Mul (cn I32 2 (s 482 483)) (t_convert I32 (t_place (t_variable 2 (u I8) (s 486 487)))) (u I32) (s 482 487))) (cn U64
    5591027369102744035 (s 490 509)) (u U64) (s 482 509)) (u U64) (s 467 509)) (s 461 509)) (s 461 510)) ∷ [])) (s 418 512))) ∷ (t_simple (t_update
    op.And I8 (t_variable 2 (u I8) (s 513 514)) (t_place (t_variable 2 (u I8) (s 518 519))) (s 513 519)) (s 513 520)) ∷ (t_block (t_braces (t_stmts
    ((t_simple (t_update op.And U32 (t_element (ar 1 (u U32) false) (t_binary op.And (t_cast (t_binary op.Xor (t_program_index (s 526 538)) (t_convert
    I32 (t_cast (t_binary op.Mul (t_place (t_variable 2 (u I8) (s 542 543))) (t_place (t_variable 2 (u I8) (s 546 547))) (u I8) (s 542 547)) (u I8) (s
    541 548))) (v I32) (s 526 548)) (v I32) (s 525 549)) (cn I32 7 (s 552 553)) (v I32) (s 525 553)) (v U32) (s 523 554)) (t_convert U32 (t_binary
    op.Xor (t_program_index (s 558 570)) (t_convert I32 (t_compare cmp.GreaterOrEqual (t_convert I32 (t_compare cmp.LessOrEqual (cn U32 11 (s 573
    580)) (t_convert U32 (t_program_index (s 584 596))) Varying (s 573 596))) (cn I32 8 (s 600 601)) Varying (s 573 601))) (v I32) (s 558 601))) (s
    523 601)) (s 523 602)) ∷ [])) (s 521 604))) ∷ [])) (s 416 606))) (s 319 606)) ∷ (t_simple (t_assign (t_element (ar 1 (u U32) false)
    (t_program_index (s 609 621)) (v U32) (s 607 622)) (t_convert U32 (t_place (t_variable 3 (v I32) (s 625 626)))) (s 607 626)) (s 607 627)) ∷
    (t_return (s 628 634) (Some (t_convert U8 (t_place (t_variable 2 (u I8) (s 635 636))))) (s 628 637)) ∷ [])) (s 85 639))) ∷ (fn None None ((vr
    (AVariable (u U64)) false) ∷ (vr (AVariable (u I32)) false) ∷ []) (t_braces (t_stmts ((t_assert (t_unary un.Not (t_convert Truth (t_unary
    un.Invert (t_cast (cn I32 4 (s 711 723)) (u I32) (s 710 724)) (u I32) (s 709 724))) (u Truth) (s 707 724)) (s 700 725) (s 700 726)) ∷ (t_assert
    (t_compare cmp.Less (t_program_index (s 734 746)) (cn I32 4 (s 749 761)) Varying (s 734 761)) (s 727 762) (s 727 763)) ∷ (t_block (t_braces
    (t_stmts ([])) (s 764 765))) ∷ [])) (s 698 767))) ∷ [])

abbrev arguments_27 : List Argument
arguments_27 = ((AnArray (rw I32 (2147483647 ∷ 4294967289 ∷ 4294967287 ∷ 8 ∷ 2147483648 ∷ 4294967294 ∷ []))) ∷ (AnArray (rw U32 (2 ∷ 4294967294 ∷
    4294967295 ∷ 1 ∷ 4 ∷ 369203866 ∷ 7 ∷ 0 ∷ []))) ∷ (AValue (record { elem = I8; bits = 190 })) ∷ [])

run_27_of_0 : run_of program_27 0 0 arguments_27 ≡ Traps (trap kind.Assert (s 700 725) 0) ((rw I32 (2147483647 ∷ 4294967289 ∷ 4294967287 ∷ 8 ∷
    2147483648 ∷ 4294967294 ∷ [])) ∷ (rw U32 (0 ∷ 0 ∷ 0 ∷ 0 ∷ 4 ∷ 369203866 ∷ 7 ∷ 0 ∷ [])) ∷ []) ([])
unfolding digits number_to wrap_to amount not_zero
run_27_of_0 = refl

work_27_of_0 : work_of program_27 0 0 arguments_27 ≡ 67
unfolding digits number_to wrap_to amount not_zero
work_27_of_0 = refl

-- programs: traps 36
-- int g0(uniform signed int64 p1) { { ; uniform int8 v2; } for (int k3 = 0; k3 < 3; k3++) { return p1 || programIndex | !(6); } ; return -(p1); }
-- export void f(uniform signed int a[], uniform unsigned int o[], uniform int64 z[]) { int x = !(o[(programIndex ^ (g0(5))) & 3] <=
-- programIndex); unsigned int16 t4[5]; cif (clamp((x ? programIndex : x), x * a[programIndex], (x))) { z[(programIndex ^ (g0(o[((o[1]) / (1)) &
-- 3]))) & 3] &= (x <= shuffle(x, 5)); o[- x] /= ! (0xf3 ? a[((int) 2) & 3] : o[(reduce_min(a[programIndex])) & 3]) <= ~(o[4]); } else { ; }
-- int32 v5, v6; print("z\n"); o[programIndex] = x; }
abbrev program_28 : Program
program_28 = pr W4 ((fn (Some I32) (Some (v I32)) ((vr (AVariable (u I64)) false) ∷ (vr (AVariable (u I8)) false) ∷ (vr (AVariable (v I32)) false) ∷
    []) (t_braces (t_stmts ((t_block (t_braces (t_stmts ((t_block (t_braces (t_stmts ([])) (s 36 37))) ∷ (t_declare ((t_plain 1 (u I8) (s 51 53)) ∷
    []) (s 38 54)) ∷ [])) (s 34 56))) ∷ (t_for Plain 2 (Some (t_first_declare ((t_with_value 2 (v I32) (cn I32 0 (s 71 72)) (s 66 72)) ∷ []) (s 62
    72))) (Some (t_compare cmp.Less (t_place (t_variable 2 (v I32) (s 74 76))) (cn I32 3 (s 79 80)) Varying (s 74 80))) (Some (t_step op.Add I32
    (t_variable 2 (v I32) (s 82 84)) (s 82 86))) 3 (t_block (t_braces (t_stmts ((t_return (s 90 96) (Some (t_convert I32 (t_logic logic.Or (t_convert
    Truth (t_place (t_variable 0 (u I64) (s 97 99)))) (t_convert Truth (t_binary op.Or (t_program_index (s 103 115)) (t_convert I32 (t_unary un.Not
    (t_convert Truth (t_cast (cn I32 6 (s 120 121)) (u I32) (s 119 122))) (u Truth) (s 118 122))) (v I32) (s 103 122))) Varying (s 97 122)))) (s 90
    123)) ∷ [])) (s 88 125))) (s 57 125)) ∷ (t_block (t_braces (t_stmts ([])) (s 126 127))) ∷ (t_return (s 128 134) (Some (t_convert I32 (t_unary
    un.Negate (t_cast (t_place (t_variable 0 (u I64) (s 137 139))) (u I64) (s 136 140)) (u I64) (s 135 140)))) (s 128 141)) ∷ [])) (s 32 143))) ∷ (fn
    None None ((vr (Given I32) false) ∷ (vr (Given U32) false) ∷ (vr (Given I64) false) ∷ (vr (AVariable (v I32)) false) ∷ (vr (Local (v U16) 5)
    false) ∷ (vr (AVariable (v I32)) false) ∷ (vr (AVariable (v I32)) false) ∷ []) (t_braces (t_stmts ((t_declare ((t_with_value 3 (v I32) (t_convert
    I32 (t_unary un.Not (t_cast (t_compare cmp.LessOrEqual (t_place (t_element (ar 1 (u U32) false) (t_binary op.And (t_cast (t_binary op.Xor
    (t_program_index (s 242 254)) (t_cast (t_call (t_called 0 (t_arguments ((t_by_value (t_convert I64 (cn I32 5 (s 261 262)))) ∷ [])) (s 258 263)) (v
    I32)) (v I32) (s 257 264)) (v I32) (s 242 264)) (v I32) (s 241 265)) (cn I32 3 (s 268 269)) (v I32) (s 241 269)) (v U32) (s 239 270))) (t_convert
    U32 (t_program_index (s 274 286))) Varying (s 239 286)) (v Truth) (s 238 287)) (v Truth) (s 237 287))) (s 233 287)) ∷ []) (s 229 288)) ∷
    (t_declare ((t_with_size (ar 4 (v U16) false) (s 304 309)) ∷ []) (s 289 310)) ∷ (t_if_else Coherent 5 (t_convert Truth (t_library lib.Clamp I32
    (t_exprs ((t_cast (t_choose (t_convert Truth (t_place (t_variable 3 (v I32) (s 323 324)))) (t_program_index (s 327 339)) (t_place (t_variable 3 (v
    I32) (s 342 343))) (v I32) (s 323 343)) (v I32) (s 322 344)) ∷ (t_binary op.Mul (t_place (t_variable 3 (v I32) (s 346 347))) (t_place (t_element
    (ar 0 (u I32) false) (t_program_index (s 352 364)) (v I32) (s 350 365))) (v I32) (s 346 365)) ∷ (t_cast (t_place (t_variable 3 (v I32) (s 368
    369))) (v I32) (s 367 370)) ∷ [])) (v I32) (s 316 371))) (t_block (t_braces (t_stmts ((t_simple (t_update op.And I64 (t_element (ar 2 (u I64)
    false) (t_binary op.And (t_cast (t_binary op.Xor (t_program_index (s 378 390)) (t_cast (t_call (t_called 0 (t_arguments ((t_by_value (t_convert
    I64 (t_place (t_element (ar 1 (u U32) false) (t_binary op.And (t_cast (t_binary op.Div (t_cast (t_place (t_element (ar 1 (u U32) false) (cn I32 1
    (s 403 404)) (u U32) (s 401 405))) (u U32) (s 400 406)) (t_convert U32 (t_cast (cn I32 1 (s 410 411)) (u I32) (s 409 412))) (u U32) (s 400 412))
    (u U32) (s 399 413)) (t_convert U32 (cn I32 3 (s 416 417))) (u U32) (s 399 417)) (u U32) (s 397 418))))) ∷ [])) (s 394 419)) (v I32)) (v I32) (s
    393 420)) (v I32) (s 378 420)) (v I32) (s 377 421)) (cn I32 3 (s 424 425)) (v I32) (s 377 425)) (v I64) (s 375 426)) (t_convert I64 (t_cast
    (t_compare cmp.LessOrEqual (t_place (t_variable 3 (v I32) (s 431 432))) (t_library lib.Shuffle I32 (t_exprs ((t_place (t_variable 3 (v I32) (s 444
    445))) ∷ (cn I32 5 (s 447 448)) ∷ [])) (v I32) (s 436 449)) Varying (s 431 449)) (v Truth) (s 430 450))) (s 375 450)) (s 375 451)) ∷ (t_simple
    (t_update op.Div U32 (t_element (ar 1 (u U32) false) (t_unary un.Negate (t_place (t_variable 3 (v I32) (s 456 457))) (v I32) (s 454 457)) (v U32)
    (s 452 458)) (t_convert U32 (t_compare cmp.LessOrEqual (t_convert U32 (t_unary un.Not (t_convert Truth (t_cast (t_choose (t_convert Truth (cn I32
    243 (s 465 469))) (t_convert U32 (t_place (t_element (ar 0 (u I32) false) (t_binary op.And (t_cast (t_cast (cn I32 2 (s 481 482)) (u I32) (s 475
    482)) (u I32) (s 474 483)) (cn I32 3 (s 486 487)) (u I32) (s 474 487)) (u I32) (s 472 488)))) (t_place (t_element (ar 1 (u U32) false) (t_binary
    op.And (t_cast (t_library lib.ReduceMin I32 (t_exprs ((t_place (t_element (ar 0 (u I32) false) (t_program_index (s 507 519)) (v I32) (s 505 520)))
    ∷ [])) (u I32) (s 494 521)) (u I32) (s 493 522)) (cn I32 3 (s 525 526)) (u I32) (s 493 526)) (u U32) (s 491 527))) (u U32) (s 465 527)) (u U32) (s
    464 528))) (u Truth) (s 462 528))) (t_unary un.Invert (t_cast (t_place (t_element (ar 1 (u U32) false) (cn I32 4 (s 536 537)) (u U32) (s 534
    538))) (u U32) (s 533 539)) (u U32) (s 532 539)) Uniform (s 462 539))) (s 452 539)) (s 452 540)) ∷ [])) (s 373 542))) (t_block (t_braces (t_stmts
    ((t_block (t_braces (t_stmts ([])) (s 550 551))) ∷ [])) (s 548 553))) (s 311 553)) ∷ (t_declare ((t_plain 5 (v I32) (s 560 562)) ∷ (t_plain 6 (v
    I32) (s 564 566)) ∷ []) (s 554 567)) ∷ (t_print (s 568 573) (122 ∷ 10 ∷ []) ([]) (s 568 581)) ∷ (t_simple (t_assign (t_element (ar 1 (u U32)
    false) (t_program_index (s 584 596)) (v U32) (s 582 597)) (t_convert U32 (t_place (t_variable 3 (v I32) (s 600 601)))) (s 582 601)) (s 582 602)) ∷
    [])) (s 227 604))) ∷ [])

abbrev arguments_28 : List Argument
arguments_28 = ((AnArray (rw I32 (2147483646 ∷ 4294967293 ∷ 4294967293 ∷ 4294967291 ∷ 3206330741 ∷ 8 ∷ 1686417557 ∷ []))) ∷ (AnArray (rw U32
    (4294967295 ∷ 1023340701 ∷ 3975886270 ∷ 1 ∷ 0 ∷ []))) ∷ (AnArray (rw I64 (1306349006739251012 ∷ 18446744073709551608 ∷ 5 ∷ 18446744073709551607 ∷
    7124456061229690687 ∷ []))) ∷ [])

run_28_of_1 : run_of program_28 1 1 arguments_28 ≡ Traps (trap kind.Index (s 452 458) 0) ((rw I32 (2147483646 ∷ 4294967293 ∷ 4294967293 ∷ 4294967291 ∷
    3206330741 ∷ 8 ∷ 1686417557 ∷ [])) ∷ (rw U32 (4294967295 ∷ 1023340701 ∷ 3975886270 ∷ 1 ∷ 0 ∷ [])) ∷ (rw I64 (0 ∷ 0 ∷ 1 ∷ 18446744073709551607 ∷
    7124456061229690687 ∷ [])) ∷ []) ([])
unfolding digits number_to wrap_to amount not_zero
run_28_of_1 = refl

work_28_of_1 : work_of program_28 1 1 arguments_28 ≡ 110
unfolding digits number_to wrap_to amount not_zero
work_28_of_1 = refl

-- programs: traps 37
-- void g0(uniform signed int64 p1, uniform unsigned p2, uniform int32 b3[]) { { int k4 = 0; while (k4 < 3) { k4++; assert(programIndex <
-- programCount); } } p1++; p2 *= 6 * p2; } export void f(uniform signed int a[], uniform unsigned o[], uniform uint8 n) { int x = ! n || n; {
-- o[(x) & 7] *= o[(n)]; { int k5 = 0; for (;;) { if (k5 > 1) break; k5 += programIndex + 1; g0(18446744073709551615 + true, o[6] << a[(abs(n)) &
-- 7], a); packed_store_active(&o[7], programIndex); print("\"%\t%\n", 5 <= ! 0, n ^ n > programCount); } } { int k6 = 0; cdo { k6++; g0(abs(2),
-- reduce_max(9), a); int8 v7 = n, v8 = (-(0 - n)) % (((a[programIndex] & o[(programIndex ^ (v7 <= n)) & 7] + programIndex | 1)) | 1); } while
-- (k6 < 2); } } n = packed_load_active(&a, &x); o[programIndex] = x; }
abbrev program_29 : Program
program_29 = pr W8 ((fn None None ((vr (AVariable (u I64)) false) ∷ (vr (AVariable (u U32)) false) ∷ (vr (Given I32) false) ∷ (vr (AVariable (v I32))
    false) ∷ []) (t_braces (t_stmts ((t_block (t_braces (t_stmts ((t_declare ((t_with_value 3 (v I32) (cn I32 0 (s 87 88)) (s 82 88)) ∷ []) (s 78 89))
    ∷ (t_while Plain 4 (t_compare cmp.Less (t_place (t_variable 3 (v I32) (s 97 99))) (cn I32 3 (s 102 103)) Varying (s 97 103)) (t_block (t_braces
    (t_stmts ((t_simple (t_step op.Add I32 (t_variable 3 (v I32) (s 107 109)) (s 107 111)) (s 107 112)) ∷ (t_assert (t_compare cmp.Less
    (t_program_index (s 121 133)) (cn I32 8 (s 136 148)) Varying (s 121 148)) (s 114 149) (s 114 150)) ∷ [])) (s 105 152))) (s 90 152)) ∷ [])) (s 76
    154))) ∷ (t_simple (t_step op.Add I64 (t_variable 0 (u I64) (s 155 157)) (s 155 159)) (s 155 160)) ∷ (t_simple (t_update op.Mul U32 (t_variable 1
    (u U32) (s 161 163)) (t_binary op.Mul (t_convert U32 (cn I32 6 (s 167 168))) (t_place (t_variable 1 (u U32) (s 171 173))) (u U32) (s 167 173)) (s
    161 173)) (s 161 174)) ∷ [])) (s 74 176))) ∷ (fn None None ((vr (Given I32) false) ∷ (vr (Given U32) false) ∷ (vr (AVariable (u U8)) false) ∷ (vr
    (AVariable (v I32)) false) ∷ (vr (AVariable (v I32)) false) ∷ (vr (AVariable (v I32)) false) ∷ (vr (AVariable (v I8)) false) ∷ (vr (AVariable (v
    I8)) false) ∷ []) (t_braces (t_stmts ((t_declare ((t_with_value 3 (v I32) (t_convert I32 (t_logic logic.Or (t_unary un.Not (t_convert Truth
    (t_place (t_variable 2 (u U8) (s 266 267)))) (u Truth) (s 264 267)) (t_convert Truth (t_place (t_variable 2 (u U8) (s 271 272)))) Uniform (s 264
    272))) (s 260 272)) ∷ []) (s 256 273)) ∷ (t_block (t_braces (t_stmts ((t_simple (t_update op.Mul U32 (t_element (ar 1 (u U32) false) (t_binary
    op.And (t_cast (t_place (t_variable 3 (v I32) (s 279 280))) (v I32) (s 278 281)) (cn I32 7 (s 284 285)) (v I32) (s 278 285)) (v U32) (s 276 286))
    (t_place (t_element (ar 1 (u U32) false) (t_cast (t_place (t_variable 2 (u U8) (s 293 294))) (u U8) (s 292 295)) (u U32) (s 290 296))) (s 276
    296)) (s 276 297)) ∷ (t_block (t_braces (t_stmts ((t_declare ((t_with_value 4 (v I32) (cn I32 0 (s 309 310)) (s 304 310)) ∷ []) (s 300 311)) ∷
    (t_for Plain 5 None None None 5 (t_block (t_braces (t_stmts ((t_if Plain 5 (t_compare cmp.Greater (t_place (t_variable 4 (v I32) (s 327 329))) (cn
    I32 1 (s 332 333)) Varying (s 327 333)) (t_jump Break (s 335 340) (s 335 341)) (s 323 341)) ∷ (t_simple (t_update op.Add I32 (t_variable 4 (v I32)
    (s 342 344)) (t_binary op.Add (t_program_index (s 348 360)) (cn I32 1 (s 363 364)) (v I32) (s 348 364)) (s 342 364)) (s 342 365)) ∷ (t_simple
    (t_run (t_called 0 (t_arguments ((t_by_value (t_convert I64 (t_binary op.Add (cn U64 18446744073709551615 (s 370 390)) (t_convert U64 (cn Truth 1
    (s 393 397))) (u U64) (s 370 397)))) ∷ (t_by_value (t_binary op.Shl (t_place (t_element (ar 1 (u U32) false) (cn I32 6 (s 401 402)) (u U32) (s 399
    403))) (t_convert U32 (t_place (t_element (ar 0 (u I32) false) (t_binary op.And (t_convert I32 (t_cast (t_library lib.Abs U8 (t_exprs ((t_place
    (t_variable 2 (u U8) (s 414 415))) ∷ [])) (u U8) (s 410 416)) (u U8) (s 409 417))) (cn I32 7 (s 420 421)) (u I32) (s 409 421)) (u I32) (s 407
    422)))) (u U32) (s 399 422))) ∷ (t_by_name (ar 0 (u I32) false) (s 424 425)) ∷ [])) (s 367 426))) (s 367 427)) ∷ (t_simple (t_value
    (t_packed_store (t_from (ar 1 (u U32) false) (cn I32 7 (s 451 452)) (s 449 450)) (t_convert U32 (t_program_index (s 455 467))) (s 428 468))) (s
    428 469)) ∷ (t_print (s 470 475) (34 ∷ 37 ∷ 9 ∷ 37 ∷ 10 ∷ []) ((t_compare cmp.LessOrEqual (cn I32 5 (s 488 489)) (t_convert I32 (t_unary un.Not
    (t_convert Truth (cn I32 0 (s 495 496))) (u Truth) (s 493 496))) Uniform (s 488 496)) ∷ (t_binary op.Xor (t_convert I32 (t_place (t_variable 2 (u
    U8) (s 498 499)))) (t_convert I32 (t_compare cmp.Greater (t_convert I32 (t_place (t_variable 2 (u U8) (s 502 503)))) (cn I32 8 (s 506 518))
    Uniform (s 502 518))) (u I32) (s 498 518)) ∷ []) (s 470 520)) ∷ [])) (s 321 522))) (s 312 522)) ∷ [])) (s 298 524))) ∷ (t_block (t_braces (t_stmts
    ((t_declare ((t_with_value 5 (v I32) (cn I32 0 (s 536 537)) (s 531 537)) ∷ []) (s 527 538)) ∷ (t_do Coherent 6 (t_block (t_braces (t_stmts
    ((t_simple (t_step op.Add I32 (t_variable 5 (v I32) (s 545 547)) (s 545 549)) (s 545 550)) ∷ (t_simple (t_run (t_called 0 (t_arguments
    ((t_by_value (t_convert I64 (t_library lib.Abs I32 (t_exprs ((cn I32 2 (s 559 560)) ∷ [])) (u I32) (s 555 561)))) ∷ (t_by_value (t_convert U32
    (t_library lib.ReduceMax I32 (t_exprs ((cn I32 9 (s 574 575)) ∷ [])) (u I32) (s 563 576)))) ∷ (t_by_name (ar 0 (u I32) false) (s 578 579)) ∷ []))
    (s 552 580))) (s 552 581)) ∷ (t_declare ((t_with_value 6 (v I8) (t_convert I8 (t_place (t_variable 2 (u U8) (s 592 593)))) (s 587 593)) ∷
    (t_with_value 7 (v I8) (t_convert I8 (t_binary op.Rem (t_convert U32 (t_cast (t_unary un.Negate (t_cast (t_binary op.Sub (cn I32 0 (s 603 604))
    (t_convert I32 (t_place (t_variable 2 (u U8) (s 607 608)))) (u I32) (s 603 608)) (u I32) (s 602 609)) (u I32) (s 601 609)) (u I32) (s 600 610)))
    (t_cast (t_binary op.Or (t_cast (t_cast (t_binary op.Or (t_binary op.And (t_convert U32 (t_place (t_element (ar 0 (u I32) false) (t_program_index
    (s 618 630)) (v I32) (s 616 631)))) (t_binary op.Add (t_place (t_element (ar 1 (u U32) false) (t_binary op.And (t_cast (t_binary op.Xor
    (t_program_index (s 637 649)) (t_convert I32 (t_cast (t_compare cmp.LessOrEqual (t_convert U8 (t_place (t_variable 6 (v I8) (s 653 655))))
    (t_place (t_variable 2 (u U8) (s 659 660))) Varying (s 653 660)) (v Truth) (s 652 661))) (v I32) (s 637 661)) (v I32) (s 636 662)) (cn I32 7 (s
    665 666)) (v I32) (s 636 666)) (v U32) (s 634 667))) (t_convert U32 (t_program_index (s 670 682))) (v U32) (s 634 682)) (v U32) (s 616 682))
    (t_convert U32 (cn I32 1 (s 685 686))) (v U32) (s 616 686)) (v U32) (s 615 687)) (v U32) (s 614 688)) (t_convert U32 (cn I32 1 (s 691 692))) (v
    U32) (s 614 692)) (v U32) (s 613 693)) (v U32) (s 600 693))) (s 595 693)) ∷ []) (s 582 694)) ∷ [])) (s 543 696))) (t_compare cmp.Less (t_place
    (t_variable 5 (v I32) (s 704 706))) (cn I32 2 (s 709 710)) Varying (s 704 710)) (s 539 712)) ∷ [])) (s 525 714))) ∷ [])) (s 274 716))) ∷ (t_simple
    (t_assign (t_variable 2 (u U8) (s 717 718)) (t_convert U8 (t_packed_load (t_whole (ar 0 (u I32) false) (s 741 742)) 3 (s 721 747))) (s 717 747))
    (s 717 748)) ∷ (t_simple (t_assign (t_element (ar 1 (u U32) false) (t_program_index (s 751 763)) (v U32) (s 749 764)) (t_convert U32 (t_place
    (t_variable 3 (v I32) (s 767 768)))) (s 749 768)) (s 749 769)) ∷ [])) (s 254 771))) ∷ [])

abbrev arguments_29 : List Argument
arguments_29 = ((AnArray (rw I32 (4294967288 ∷ 73848298 ∷ 2147483646 ∷ 474057555 ∷ 4 ∷ 2147483647 ∷ 4294967290 ∷ 9 ∷ 8 ∷ 2147483647 ∷ 8 ∷ []))) ∷
    (AnArray (rw U32 (5 ∷ 4294967295 ∷ 1834208001 ∷ 4 ∷ 1 ∷ 8 ∷ 2 ∷ 5 ∷ []))) ∷ (AValue (record { elem = U8; bits = 4 })) ∷ [])

run_29_of_5 : run_of program_29 1 5 arguments_29 ≡ Traps (trap kind.Index (s 428 468) 1) ((rw I32 (4294967288 ∷ 73848298 ∷ 2147483646 ∷ 474057555 ∷ 4
    ∷ 2147483647 ∷ 4294967290 ∷ 9 ∷ 8 ∷ 2147483647 ∷ 8 ∷ [])) ∷ (rw U32 (5 ∷ 4294967295 ∷ 1834208001 ∷ 4 ∷ 1 ∷ 8 ∷ 2 ∷ 5 ∷ [])) ∷ []) ([])
unfolding digits number_to wrap_to amount not_zero
run_29_of_5 = refl

work_29_of_5 : work_of program_29 1 5 arguments_29 ≡ 102
unfolding digits number_to wrap_to amount not_zero
work_29_of_5 = refl

-- programs: traps 49
-- varying signed g0() { cfor (uniform int k1 = 0; k1 < 3; k1++) { assert(k1); ; print("\t%\"%=%z\n", (unsigned int16) - 4ULL, ((4 ? 65535 : false)),
-- - 3 + (k1) % (k1 | 1)); } ; ; } export uniform int f(uniform int32 a[], uniform unsigned o[], uniform signed int z[], uniform int32 n) { int x
-- = abs(max(n, n)); { const uniform int64 v2 = (0) / ((((a[1] || o[((n) / (n | 1)) & 3]) / (((3 && n | 1)) | 1) | 1)) | 1); assert(programIndex
-- < programCount); n = packed_store_active(o, n || x <= x - x); } assert(x & a[(-(n)) & 3]); foreach (i3 = -1 ... 4, i4 = -1 ... programCount) {
-- { int k5 = programIndex; while (k5 < 2) { k5++; print(""); int v6 = programIndex; } } assert(g0()); } x |= (o[(! n) & 3]) % (x | 1) && ~
-- a[programIndex] - reduce_min(!(n)); a[programIndex] += x; return ~ n > (unsigned int16) n; }
abbrev program_30 : Program
program_30 = pr W4 ((fn (Some I32) (Some (v I32)) ((vr (AVariable (u I32)) false) ∷ []) (t_braces (t_stmts ((t_for Coherent 0 (Some (t_first_declare
    ((t_with_value 0 (u I32) (cn I32 0 (s 45 46)) (s 40 46)) ∷ []) (s 28 46))) (Some (t_compare cmp.Less (t_place (t_variable 0 (u I32) (s 48 50)))
    (cn I32 3 (s 53 54)) Uniform (s 48 54))) (Some (t_step op.Add I32 (t_variable 0 (u I32) (s 56 58)) (s 56 60))) 1 (t_block (t_braces (t_stmts
    ((t_assert (t_convert Truth (t_place (t_variable 0 (u I32) (s 71 73)))) (s 64 74) (s 64 75)) ∷ (t_block (t_braces (t_stmts ([])) (s 76 77))) ∷
    (t_print (s 78 83) (9 ∷ 37 ∷ 34 ∷ 37 ∷ 61 ∷ 37 ∷ 122 ∷ 10 ∷ []) ((t_cast (t_convert U16 (t_unary un.Negate (cn U64 4 (s 118 122)) (u U64) (s 116
    122))) (u U16) (s 99 122)) ∷ (t_cast (t_cast (t_choose (t_convert Truth (cn I32 4 (s 126 127))) (cn I32 65535 (s 130 135)) (t_convert I32 (cn
    Truth 0 (s 138 143))) (u I32) (s 126 143)) (u I32) (s 125 144)) (u I32) (s 124 145)) ∷ (t_binary op.Add (t_unary un.Negate (cn I32 3 (s 149 150))
    (u I32) (s 147 150)) (t_binary op.Rem (t_cast (t_place (t_variable 0 (u I32) (s 154 156))) (u I32) (s 153 157)) (t_cast (t_binary op.Or (t_place
    (t_variable 0 (u I32) (s 161 163))) (cn I32 1 (s 166 167)) (u I32) (s 161 167)) (u I32) (s 160 168)) (u I32) (s 153 168)) (u I32) (s 147 168)) ∷
    []) (s 78 170)) ∷ [])) (s 62 172))) (s 22 172)) ∷ (t_block (t_braces (t_stmts ([])) (s 173 174))) ∷ (t_block (t_braces (t_stmts ([])) (s 175
    176))) ∷ [])) (s 20 178))) ∷ (fn (Some I32) (Some (u I32)) ((vr (Given I32) false) ∷ (vr (Given U32) false) ∷ (vr (Given I32) false) ∷ (vr
    (AVariable (u I32)) false) ∷ (vr (AVariable (v I32)) false) ∷ (vr (AVariable (u I64)) true) ∷ (vr (AVariable (v I32)) true) ∷ (vr (AVariable (v
    I32)) true) ∷ (vr (AVariable (v I32)) false) ∷ (vr (AVariable (v I32)) false) ∷ []) (t_braces (t_stmts ((t_declare ((t_with_value 4 (v I32)
    (t_library lib.Abs I32 (t_exprs ((t_library lib.Max I32 (t_exprs ((t_place (t_variable 3 (u I32) (s 300 301))) ∷ (t_place (t_variable 3 (u I32) (s
    303 304))) ∷ [])) (u I32) (s 296 305)) ∷ [])) (u I32) (s 292 306)) (s 288 306)) ∷ []) (s 284 307)) ∷ (t_block (t_braces (t_stmts ((t_declare
    ((t_with_value 5 (u I64) (t_convert I64 (t_binary op.Div (t_cast (cn I32 0 (s 336 337)) (u I32) (s 335 338)) (t_cast (t_binary op.Or (t_cast
    (t_cast (t_binary op.Or (t_binary op.Div (t_convert I32 (t_cast (t_logic logic.Or (t_convert Truth (t_place (t_element (ar 0 (u I32) false) (cn
    I32 1 (s 347 348)) (u I32) (s 345 349)))) (t_convert Truth (t_place (t_element (ar 1 (u U32) false) (t_binary op.And (t_cast (t_binary op.Div
    (t_cast (t_place (t_variable 3 (u I32) (s 357 358))) (u I32) (s 356 359)) (t_cast (t_binary op.Or (t_place (t_variable 3 (u I32) (s 363 364))) (cn
    I32 1 (s 367 368)) (u I32) (s 363 368)) (u I32) (s 362 369)) (u I32) (s 356 369)) (u I32) (s 355 370)) (cn I32 3 (s 373 374)) (u I32) (s 355 374))
    (u U32) (s 353 375)))) Uniform (s 345 375)) (u Truth) (s 344 376))) (t_cast (t_binary op.Or (t_convert I32 (t_cast (t_cast (t_logic logic.And
    (t_convert Truth (cn I32 3 (s 382 383))) (t_convert Truth (t_binary op.Or (t_place (t_variable 3 (u I32) (s 387 388))) (cn I32 1 (s 391 392)) (u
    I32) (s 387 392))) Uniform (s 382 392)) (u Truth) (s 381 393)) (u Truth) (s 380 394))) (cn I32 1 (s 397 398)) (u I32) (s 380 398)) (u I32) (s 379
    399)) (u I32) (s 344 399)) (cn I32 1 (s 402 403)) (u I32) (s 344 403)) (u I32) (s 343 404)) (u I32) (s 342 405)) (cn I32 1 (s 408 409)) (u I32) (s
    342 409)) (u I32) (s 341 410)) (u I32) (s 335 410))) (s 330 410)) ∷ []) (s 310 411)) ∷ (t_assert (t_compare cmp.Less (t_program_index (s 419 431))
    (cn I32 4 (s 434 446)) Varying (s 419 446)) (s 412 447) (s 412 448)) ∷ (t_simple (t_assign (t_variable 3 (u I32) (s 449 450)) (t_packed_store
    (t_whole (ar 1 (u U32) false) (s 473 474)) (t_convert U32 (t_logic logic.Or (t_convert Truth (t_place (t_variable 3 (u I32) (s 476 477))))
    (t_compare cmp.LessOrEqual (t_place (t_variable 4 (v I32) (s 481 482))) (t_binary op.Sub (t_place (t_variable 4 (v I32) (s 486 487))) (t_place
    (t_variable 4 (v I32) (s 490 491))) (v I32) (s 486 491)) Varying (s 481 491)) Varying (s 476 491))) (s 453 492)) (s 449 492)) (s 449 493)) ∷ []))
    (s 308 495))) ∷ (t_assert (t_convert Truth (t_binary op.And (t_place (t_variable 4 (v I32) (s 503 504))) (t_place (t_element (ar 0 (u I32) false)
    (t_binary op.And (t_cast (t_unary un.Negate (t_cast (t_place (t_variable 3 (u I32) (s 512 513))) (u I32) (s 511 514)) (u I32) (s 510 514)) (u I32)
    (s 509 515)) (cn I32 3 (s 518 519)) (u I32) (s 509 519)) (u I32) (s 507 520))) (v I32) (s 503 520))) (s 496 521) (s 496 522)) ∷ (t_foreach (s 523
    530) 6 ((rg 6 (t_unary un.Negate (cn I32 1 (s 538 539)) (u I32) (s 537 539)) (cn I32 4 (s 544 545)) (s 532 545)) ∷ (rg 7 (t_unary un.Negate (cn
    I32 1 (s 553 554)) (u I32) (s 552 554)) (cn I32 4 (s 559 571)) (s 547 571)) ∷ []) (t_block (t_braces (t_stmts ((t_block (t_braces (t_stmts
    ((t_declare ((t_with_value 8 (v I32) (t_program_index (s 586 598)) (s 581 598)) ∷ []) (s 577 599)) ∷ (t_while Plain 9 (t_compare cmp.Less (t_place
    (t_variable 8 (v I32) (s 607 609))) (cn I32 2 (s 612 613)) Varying (s 607 613)) (t_block (t_braces (t_stmts ((t_simple (t_step op.Add I32
    (t_variable 8 (v I32) (s 617 619)) (s 617 621)) (s 617 622)) ∷ (t_print (s 624 629) ([]) ([]) (s 624 634)) ∷ (t_declare ((t_with_value 9 (v I32)
    (t_program_index (s 644 656)) (s 639 656)) ∷ []) (s 635 657)) ∷ [])) (s 615 659))) (s 600 659)) ∷ [])) (s 575 661))) ∷ (t_assert (t_convert Truth
    (t_call (t_called 0 (t_arguments ([])) (s 669 673)) (v I32))) (s 662 674) (s 662 675)) ∷ [])) (s 573 677))) (s 523 677)) ∷ (t_simple (t_update
    op.Or I32 (t_variable 4 (v I32) (s 678 679)) (t_convert I32 (t_logic logic.And (t_convert Truth (t_binary op.Rem (t_cast (t_place (t_element (ar 1
    (u U32) false) (t_binary op.And (t_convert I32 (t_cast (t_unary un.Not (t_convert Truth (t_place (t_variable 3 (u I32) (s 689 690)))) (u Truth) (s
    687 690)) (u Truth) (s 686 691))) (cn I32 3 (s 694 695)) (u I32) (s 686 695)) (u U32) (s 684 696))) (u U32) (s 683 697)) (t_convert U32 (t_cast
    (t_binary op.Or (t_place (t_variable 4 (v I32) (s 701 702))) (cn I32 1 (s 705 706)) (v I32) (s 701 706)) (v I32) (s 700 707))) (v U32) (s 683
    707))) (t_convert Truth (t_binary op.Sub (t_unary un.Invert (t_place (t_element (ar 0 (u I32) false) (t_program_index (s 715 727)) (v I32) (s 713
    728))) (v I32) (s 711 728)) (t_library lib.ReduceMin I32 (t_exprs ((t_convert I32 (t_unary un.Not (t_convert Truth (t_cast (t_place (t_variable 3
    (u I32) (s 744 745))) (u I32) (s 743 746))) (u Truth) (s 742 746))) ∷ [])) (u I32) (s 731 747)) (v I32) (s 711 747))) Varying (s 683 747))) (s 678
    747)) (s 678 748)) ∷ (t_simple (t_update op.Add I32 (t_element (ar 0 (u I32) false) (t_program_index (s 751 763)) (v I32) (s 749 764)) (t_place
    (t_variable 4 (v I32) (s 768 769))) (s 749 769)) (s 749 770)) ∷ (t_return (s 771 777) (Some (t_convert I32 (t_compare cmp.Greater (t_unary
    un.Invert (t_place (t_variable 3 (u I32) (s 780 781))) (u I32) (s 778 781)) (t_convert I32 (t_cast (t_convert U16 (t_place (t_variable 3 (u I32)
    (s 801 802)))) (u U16) (s 784 802))) Uniform (s 778 802)))) (s 771 803)) ∷ [])) (s 282 805))) ∷ [])

abbrev arguments_30 : List Argument
arguments_30 = ((AnArray (rw I32 (4294967292 ∷ 2147483649 ∷ 6 ∷ 2147483647 ∷ 1 ∷ 4294967289 ∷ 5 ∷ []))) ∷ (AnArray (rw U32 (7 ∷ 1 ∷ 3 ∷ 8 ∷ 6 ∷ 5 ∷
    []))) ∷ (AnArray (rw I32 (4294967291 ∷ 2147483646 ∷ 2147483647 ∷ 2147483647 ∷ []))) ∷ (AValue (record { elem = I32; bits = 2345943920 })) ∷ [])

run_30_of_2 : run_of program_30 1 2 arguments_30 ≡ Traps (trap kind.Assert (s 64 74) 0) ((rw I32 (4294967292 ∷ 2147483649 ∷ 6 ∷ 2147483647 ∷ 1 ∷
    4294967289 ∷ 5 ∷ [])) ∷ (rw U32 (1 ∷ 1 ∷ 1 ∷ 1 ∷ 6 ∷ 5 ∷ [])) ∷ (rw I32 (4294967291 ∷ 2147483646 ∷ 2147483647 ∷ 2147483647 ∷ [])) ∷ []) ([])
unfolding digits number_to wrap_to amount not_zero
run_30_of_2 = refl

work_30_of_2 : work_of program_30 1 2 arguments_30 ≡ 122
unfolding digits number_to wrap_to amount not_zero
work_30_of_2 = refl

-- programs: traps 52
-- uniform signed g0(uniform bool p1) { --p1; return 0b10001u - 0x98d636ae + p1 & 9; } export void f(uniform signed int a[], uniform int32 o[],
-- uniform int8 z[], uniform int16 n) { int x = 0b1111LL > programIndex >> (n); if (abs((programIndex))) { packed_store_active(&o, x);
-- o[(programIndex ^ (exclusive_scan_or(x))) & 3] /= (max(programIndex ^ n, 0x6b03ee1b || programIndex)); } a[(x ? x : programIndex)] -= ! n |
-- (z[a[(o[3]) & 3] <= n] || n) % ((uniform int) 0b101 | 1); print(" %z\n", (5) / ((n) / (x) | 1)); print(" %a%a%", 6,
-- g0(reduce_add(programIndex)), insert(g0(n), n, reduce_equal(x))); a[programIndex] += x; }
abbrev program_31 : Program
program_31 = pr W4 ((fn (Some I32) (Some (u I32)) ((vr (AVariable (u Truth)) false) ∷ []) (t_braces (t_stmts ((t_simple (t_step op.Sub I32 (t_variable
    0 (u Truth) (s 39 41)) (s 37 41)) (s 37 42)) ∷ (t_return (s 43 49) (Some (t_convert I32 (t_binary op.And (t_binary op.Add (t_binary op.Sub (cn U32
    17 (s 50 58)) (cn U32 2564175534 (s 61 71)) (u U32) (s 50 71)) (t_convert U32 (t_place (t_variable 0 (u Truth) (s 74 76)))) (u U32) (s 50 76))
    (t_convert U32 (cn I32 9 (s 79 80))) (u U32) (s 50 80)))) (s 43 81)) ∷ [])) (s 35 83))) ∷ (fn None None ((vr (Given I32) false) ∷ (vr (Given I32)
    false) ∷ (vr (Given I8) false) ∷ (vr (AVariable (u I16)) false) ∷ (vr (AVariable (v I32)) false) ∷ []) (t_braces (t_stmts ((t_declare
    ((t_with_value 4 (v I32) (t_convert I32 (t_compare cmp.Greater (cn I64 15 (s 186 194)) (t_convert I64 (t_binary op.Shr (t_program_index (s 197
    209)) (t_convert I32 (t_cast (t_place (t_variable 3 (u I16) (s 214 215))) (u I16) (s 213 216))) (v I32) (s 197 216))) Varying (s 186 216))) (s 182
    216)) ∷ []) (s 178 217)) ∷ (t_if Plain 5 (t_convert Truth (t_library lib.Abs I32 (t_exprs ((t_cast (t_program_index (s 227 239)) (v I32) (s 226
    240)) ∷ [])) (v I32) (s 222 241))) (t_block (t_braces (t_stmts ((t_simple (t_value (t_packed_store (t_whole (ar 1 (u I32) false) (s 266 267))
    (t_place (t_variable 4 (v I32) (s 269 270))) (s 245 271))) (s 245 272)) ∷ (t_simple (t_update op.Div I32 (t_element (ar 1 (u I32) false) (t_binary
    op.And (t_cast (t_binary op.Xor (t_program_index (s 276 288)) (t_cast (t_library lib.ScanOr I32 (t_exprs ((t_place (t_variable 4 (v I32) (s 310
    311))) ∷ [])) (v I32) (s 292 312)) (v I32) (s 291 313)) (v I32) (s 276 313)) (v I32) (s 275 314)) (cn I32 3 (s 317 318)) (v I32) (s 275 318)) (v
    I32) (s 273 319)) (t_cast (t_library lib.Max I32 (t_exprs ((t_binary op.Xor (t_program_index (s 328 340)) (t_convert I32 (t_place (t_variable 3 (u
    I16) (s 343 344)))) (v I32) (s 328 344)) ∷ (t_convert I32 (t_logic logic.Or (t_convert Truth (cn I32 1795419675 (s 346 356))) (t_convert Truth
    (t_program_index (s 360 372))) Varying (s 346 372))) ∷ [])) (v I32) (s 324 373)) (v I32) (s 323 374)) (s 273 374)) (s 273 375)) ∷ [])) (s 243
    377))) (s 218 377)) ∷ (t_simple (t_update op.Sub I32 (t_element (ar 0 (u I32) false) (t_cast (t_choose (t_convert Truth (t_place (t_variable 4 (v
    I32) (s 381 382)))) (t_place (t_variable 4 (v I32) (s 385 386))) (t_program_index (s 389 401)) (v I32) (s 381 401)) (v I32) (s 380 402)) (v I32)
    (s 378 403)) (t_binary op.Or (t_convert I32 (t_unary un.Not (t_convert Truth (t_place (t_variable 3 (u I16) (s 409 410)))) (u Truth) (s 407 410)))
    (t_binary op.Rem (t_convert I32 (t_cast (t_logic logic.Or (t_convert Truth (t_place (t_element (ar 2 (u I8) false) (t_compare cmp.LessOrEqual
    (t_place (t_element (ar 0 (u I32) false) (t_binary op.And (t_cast (t_place (t_element (ar 1 (u I32) false) (cn I32 3 (s 421 422)) (u I32) (s 419
    423))) (u I32) (s 418 424)) (cn I32 3 (s 427 428)) (u I32) (s 418 428)) (u I32) (s 416 429))) (t_convert I32 (t_place (t_variable 3 (u I16) (s 433
    434)))) Uniform (s 416 434)) (u I8) (s 414 435)))) (t_convert Truth (t_place (t_variable 3 (u I16) (s 439 440)))) Uniform (s 414 440)) (u Truth)
    (s 413 441))) (t_cast (t_binary op.Or (t_cast (cn I32 5 (s 459 464)) (u I32) (s 445 464)) (cn I32 1 (s 467 468)) (u I32) (s 445 468)) (u I32) (s
    444 469)) (u I32) (s 413 469)) (u I32) (s 407 469)) (s 378 469)) (s 378 470)) ∷ (t_print (s 471 476) (32 ∷ 37 ∷ 122 ∷ 10 ∷ []) ((t_binary op.Div
    (t_cast (cn I32 5 (s 487 488)) (u I32) (s 486 489)) (t_cast (t_binary op.Or (t_binary op.Div (t_convert I32 (t_cast (t_place (t_variable 3 (u I16)
    (s 494 495))) (u I16) (s 493 496))) (t_cast (t_place (t_variable 4 (v I32) (s 500 501))) (v I32) (s 499 502)) (v I32) (s 493 502)) (cn I32 1 (s
    505 506)) (v I32) (s 493 506)) (v I32) (s 492 507)) (v I32) (s 486 507)) ∷ []) (s 471 509)) ∷ (t_print (s 510 515) (32 ∷ 37 ∷ 97 ∷ 37 ∷ 97 ∷ 37 ∷
    []) ((cn I32 6 (s 526 527)) ∷ (t_call (t_called 0 (t_arguments ((t_by_value (t_convert Truth (t_library lib.ReduceAdd I32 (t_exprs
    ((t_program_index (s 543 555)) ∷ [])) (u I64) (s 532 556)))) ∷ [])) (s 529 557)) (u I32)) ∷ (t_library lib.Insert I32 (t_exprs ((t_call (t_called
    0 (t_arguments ((t_by_value (t_convert Truth (t_place (t_variable 3 (u I16) (s 569 570))))) ∷ [])) (s 566 571)) (u I32)) ∷ (t_convert I32 (t_place
    (t_variable 3 (u I16) (s 573 574)))) ∷ (t_convert I32 (t_library lib.ReduceEqual I32 (t_exprs ((t_place (t_variable 4 (v I32) (s 589 590))) ∷ []))
    (u Truth) (s 576 591))) ∷ [])) (v I32) (s 559 592)) ∷ []) (s 510 594)) ∷ (t_simple (t_update op.Add I32 (t_element (ar 0 (u I32) false)
    (t_program_index (s 597 609)) (v I32) (s 595 610)) (t_place (t_variable 4 (v I32) (s 614 615))) (s 595 615)) (s 595 616)) ∷ [])) (s 176 618))) ∷
    [])

abbrev arguments_31 : List Argument
arguments_31 = ((AnArray (rw I32 (2147483648 ∷ 2147483647 ∷ 4294967288 ∷ 9 ∷ 0 ∷ 8 ∷ 2147483647 ∷ []))) ∷ (AnArray (rw I32 (4294967288 ∷ 4 ∷
    2147483649 ∷ 9 ∷ []))) ∷ (AnArray (rw I8 (1 ∷ 128 ∷ []))) ∷ (AValue (record { elem = I16; bits = 4 })) ∷ [])

run_31_of_0 : run_of program_31 1 0 arguments_31 ≡ Ends ((rw I32 (2147483649 ∷ 2147483647 ∷ 4294967289 ∷ 10 ∷ 0 ∷ 8 ∷ 2147483647 ∷ [])) ∷ (rw I32 (1 ∷
    0 ∷ 0 ∷ 1 ∷ [])) ∷ (rw I8 (1 ∷ 128 ∷ [])) ∷ []) None (32 ∷ 91 ∷ 49 ∷ 44 ∷ 49 ∷ 44 ∷ 49 ∷ 44 ∷ 49 ∷ 93 ∷ 122 ∷ 10 ∷ 32 ∷ 54 ∷ 97 ∷ 49 ∷ 97 ∷ 91 ∷
    49 ∷ 44 ∷ 49 ∷ 44 ∷ 49 ∷ 44 ∷ 49 ∷ 93 ∷ [])
unfolding digits number_to wrap_to amount not_zero
run_31_of_0 = refl

work_31_of_0 : work_of program_31 1 0 arguments_31 ≡ 110
unfolding digits number_to wrap_to amount not_zero
work_31_of_0 = refl

-- programs: traps 56
-- void g0(uniform int32 n2, uniform unsigned int p1) { if (n2 <= 0) return; g0(n2 - 1, programCount); return; } export void f(uniform int a[],
-- uniform int8 o[], uniform int32 n) { int x = programCount; n &= n != n != ! 65535 >> n; { assert(true); x ^= programIndex ^ n | o[n] > 0b1110u
-- ^ n; } { int k3 = 0; while (true) { if (k3 > 0) break; k3 += programIndex + 1; foreach (i4 = 0 ... programCount + 1) { x++; } } }
-- o[reduce_add(a[4])] &= (int) ~ 4 <= !(n); a[programIndex] += x; }
abbrev program_32 : Program
program_32 = pr W4 ((fn None None ((vr (AVariable (u I32)) false) ∷ (vr (AVariable (u U32)) false) ∷ []) (t_braces (t_stmts ((t_if Plain 2 (t_compare
    cmp.LessOrEqual (t_place (t_variable 0 (u I32) (s 57 59))) (cn I32 0 (s 63 64)) Uniform (s 57 64)) (t_return (s 66 72) None (s 66 73)) (s 53 73))
    ∷ (t_simple (t_run (t_called 0 (t_arguments ((t_by_value (t_binary op.Sub (t_place (t_variable 0 (u I32) (s 77 79))) (cn I32 1 (s 82 83)) (u I32)
    (s 77 83))) ∷ (t_by_value (t_convert U32 (cn I32 4 (s 85 97)))) ∷ [])) (s 74 98))) (s 74 99)) ∷ (t_return (s 100 106) None (s 100 107)) ∷ [])) (s
    51 109))) ∷ (fn None None ((vr (Given I32) false) ∷ (vr (Given I8) false) ∷ (vr (AVariable (u I32)) false) ∷ (vr (AVariable (v I32)) false) ∷ (vr
    (AVariable (v I32)) false) ∷ (vr (AVariable (v I32)) true) ∷ []) (t_braces (t_stmts ((t_declare ((t_with_value 3 (v I32) (cn I32 4 (s 186 198)) (s
    182 198)) ∷ []) (s 178 199)) ∷ (t_simple (t_update op.And I32 (t_variable 2 (u I32) (s 200 201)) (t_convert I32 (t_compare cmp.NotEqual (t_convert
    I32 (t_compare cmp.NotEqual (t_place (t_variable 2 (u I32) (s 205 206))) (t_place (t_variable 2 (u I32) (s 210 211))) Uniform (s 205 211)))
    (t_binary op.Shr (t_convert I32 (t_unary un.Not (t_convert Truth (cn I32 65535 (s 217 222))) (u Truth) (s 215 222))) (t_place (t_variable 2 (u
    I32) (s 226 227))) (u I32) (s 215 227)) Uniform (s 205 227))) (s 200 227)) (s 200 228)) ∷ (t_block (t_braces (t_stmts ((t_assert (cn Truth 1 (s
    238 242)) (s 231 243) (s 231 244)) ∷ (t_simple (t_update op.Xor I32 (t_variable 3 (v I32) (s 245 246)) (t_binary op.Or (t_binary op.Xor
    (t_program_index (s 250 262)) (t_place (t_variable 2 (u I32) (s 265 266))) (v I32) (s 250 266)) (t_binary op.Xor (t_convert I32 (t_compare
    cmp.Greater (t_convert U32 (t_place (t_element (ar 1 (u I8) false) (t_place (t_variable 2 (u I32) (s 271 272))) (u I8) (s 269 273)))) (cn U32 14
    (s 276 283)) Uniform (s 269 283))) (t_place (t_variable 2 (u I32) (s 286 287))) (u I32) (s 269 287)) (v I32) (s 250 287)) (s 245 287)) (s 245
    288)) ∷ [])) (s 229 290))) ∷ (t_block (t_braces (t_stmts ((t_declare ((t_with_value 4 (v I32) (cn I32 0 (s 302 303)) (s 297 303)) ∷ []) (s 293
    304)) ∷ (t_while Plain 5 (cn Truth 1 (s 312 316)) (t_block (t_braces (t_stmts ((t_if Plain 5 (t_compare cmp.Greater (t_place (t_variable 4 (v I32)
    (s 324 326))) (cn I32 0 (s 329 330)) Varying (s 324 330)) (t_jump Break (s 332 337) (s 332 338)) (s 320 338)) ∷ (t_simple (t_update op.Add I32
    (t_variable 4 (v I32) (s 339 341)) (t_binary op.Add (t_program_index (s 345 357)) (cn I32 1 (s 360 361)) (v I32) (s 345 361)) (s 339 361)) (s 339
    362)) ∷ (t_foreach (s 364 371) 5 ((rg 5 (cn I32 0 (s 378 379)) (t_binary op.Add (cn I32 4 (s 384 396)) (cn I32 1 (s 399 400)) (u I32) (s 384 400))
    (s 373 400)) ∷ []) (t_block (t_braces (t_stmts ((t_simple (t_step op.Add I32 (t_variable 3 (v I32) (s 404 405)) (s 404 407)) (s 404 408)) ∷ []))
    (s 402 410))) (s 364 410)) ∷ [])) (s 318 412))) (s 305 412)) ∷ [])) (s 291 414))) ∷ (t_simple (t_update op.And I32 (t_element (ar 1 (u I8) false)
    (t_library lib.ReduceAdd I32 (t_exprs ((t_place (t_element (ar 0 (u I32) false) (cn I32 4 (s 430 431)) (u I32) (s 428 432))) ∷ [])) (u I64) (s 417
    433)) (u I8) (s 415 434)) (t_convert I32 (t_compare cmp.LessOrEqual (t_cast (t_unary un.Invert (cn I32 4 (s 446 447)) (u I32) (s 444 447)) (u I32)
    (s 438 447)) (t_convert I32 (t_unary un.Not (t_convert Truth (t_cast (t_place (t_variable 2 (u I32) (s 453 454))) (u I32) (s 452 455))) (u Truth)
    (s 451 455))) Uniform (s 438 455))) (s 415 455)) (s 415 456)) ∷ (t_simple (t_update op.Add I32 (t_element (ar 0 (u I32) false) (t_program_index (s
    459 471)) (v I32) (s 457 472)) (t_place (t_variable 3 (v I32) (s 476 477))) (s 457 477)) (s 457 478)) ∷ [])) (s 176 480))) ∷ [])

abbrev arguments_32 : List Argument
arguments_32 = ((AnArray (rw I32 (3787018451 ∷ 4294967293 ∷ 2147483647 ∷ 2 ∷ 4294967290 ∷ 4294967289 ∷ 4294967287 ∷ 1902454653 ∷ []))) ∷ (AnArray (rw
    I8 (249 ∷ 6 ∷ 248 ∷ 126 ∷ 3 ∷ 128 ∷ 70 ∷ 126 ∷ []))) ∷ (AValue (record { elem = I32; bits = 6 })) ∷ [])

run_32_of_2 : run_of program_32 1 2 arguments_32 ≡ Traps (trap kind.Index (s 415 434) 0) ((rw I32 (3787018451 ∷ 4294967293 ∷ 2147483647 ∷ 2 ∷
    4294967290 ∷ 4294967289 ∷ 4294967287 ∷ 1902454653 ∷ [])) ∷ (rw I8 (249 ∷ 6 ∷ 248 ∷ 126 ∷ 3 ∷ 128 ∷ 70 ∷ 126 ∷ [])) ∷ []) ([])
unfolding digits number_to wrap_to amount not_zero
run_32_of_2 = refl

work_32_of_2 : work_of program_32 1 2 arguments_32 ≡ 79
unfolding digits number_to wrap_to amount not_zero
work_32_of_2 = refl

-- programs: traps 57
-- void g0(uniform signed int n1) { if (n1 <= 0) return; g0(n1 - 1); ; bool v2 = !(! n1 < n1); } export void f(uniform int a[], uniform signed int64
-- o[]) { int x = !(o[programIndex]); a[(programIndex ^ ((x))) & 3] %= a[programIndex]; ; o[programIndex] = x; }
abbrev program_33 : Program
program_33 = pr W4 ((fn None None ((vr (AVariable (u I32)) false) ∷ (vr (AVariable (v Truth)) false) ∷ []) (t_braces (t_stmts ((t_if Plain 1
    (t_compare cmp.LessOrEqual (t_place (t_variable 0 (u I32) (s 37 39))) (cn I32 0 (s 43 44)) Uniform (s 37 44)) (t_return (s 46 52) None (s 46 53))
    (s 33 53)) ∷ (t_simple (t_run (t_called 0 (t_arguments ((t_by_value (t_binary op.Sub (t_place (t_variable 0 (u I32) (s 57 59))) (cn I32 1 (s 62
    63)) (u I32) (s 57 63))) ∷ [])) (s 54 64))) (s 54 65)) ∷ (t_block (t_braces (t_stmts ([])) (s 66 67))) ∷ (t_declare ((t_with_value 1 (v Truth)
    (t_unary un.Not (t_cast (t_compare cmp.Less (t_convert I32 (t_unary un.Not (t_convert Truth (t_place (t_variable 0 (u I32) (s 82 84)))) (u Truth)
    (s 80 84))) (t_place (t_variable 0 (u I32) (s 87 89))) Uniform (s 80 89)) (u Truth) (s 79 90)) (u Truth) (s 78 90)) (s 73 90)) ∷ []) (s 68 91)) ∷
    [])) (s 31 93))) ∷ (fn None None ((vr (Given I32) false) ∷ (vr (Given I64) false) ∷ (vr (AVariable (v I32)) false) ∷ []) (t_braces (t_stmts
    ((t_declare ((t_with_value 2 (v I32) (t_convert I32 (t_unary un.Not (t_convert Truth (t_cast (t_place (t_element (ar 1 (u I64) false)
    (t_program_index (s 165 177)) (v I64) (s 163 178))) (v I64) (s 162 179))) (v Truth) (s 161 179))) (s 157 179)) ∷ []) (s 153 180)) ∷ (t_simple
    (t_update op.Rem I32 (t_element (ar 0 (u I32) false) (t_binary op.And (t_cast (t_binary op.Xor (t_program_index (s 184 196)) (t_cast (t_cast
    (t_place (t_variable 2 (v I32) (s 201 202))) (v I32) (s 200 203)) (v I32) (s 199 204)) (v I32) (s 184 204)) (v I32) (s 183 205)) (cn I32 3 (s 208
    209)) (v I32) (s 183 209)) (v I32) (s 181 210)) (t_place (t_element (ar 0 (u I32) false) (t_program_index (s 216 228)) (v I32) (s 214 229))) (s
    181 229)) (s 181 230)) ∷ (t_block (t_braces (t_stmts ([])) (s 231 232))) ∷ (t_simple (t_assign (t_element (ar 1 (u I64) false) (t_program_index (s
    235 247)) (v I64) (s 233 248)) (t_convert I64 (t_place (t_variable 2 (v I32) (s 251 252)))) (s 233 252)) (s 233 253)) ∷ [])) (s 151 255))) ∷ [])

abbrev arguments_33 : List Argument
arguments_33 = ((AnArray (rw I32 (2147483649 ∷ 4294967295 ∷ 0 ∷ 2147483649 ∷ 4294967290 ∷ 4294967287 ∷ []))) ∷ (AnArray (rw I64 (7 ∷
    9223372036854775806 ∷ 1 ∷ 8 ∷ []))) ∷ [])

run_33_of_0 : run_of program_33 1 0 arguments_33 ≡ Traps (trap kind.Divide (s 181 229) 2) ((rw I32 (2147483649 ∷ 4294967295 ∷ 0 ∷ 2147483649 ∷
    4294967290 ∷ 4294967287 ∷ [])) ∷ (rw I64 (7 ∷ 9223372036854775806 ∷ 1 ∷ 8 ∷ [])) ∷ []) ([])
unfolding digits number_to wrap_to amount not_zero
run_33_of_0 = refl

work_33_of_0 : work_of program_33 1 0 arguments_33 ≡ 19
unfolding digits number_to wrap_to amount not_zero
work_33_of_0 = refl

-- unique_programs: unique 101
-- export void f(uniform int a[], uniform unsigned int64 o[], uniform unsigned z[]) { int x = abs(a[3]); { a[0] <<= a[(7 || 0) & 3] >> max(65ll | 0,
-- o[(~ a[(z[1]) & 3]) & 3]); unmasked { z[(programIndex ^ (x - z[programIndex])) & 3] -= (bool) max(programIndex | programCount, o[((varying
-- unsigned int8) o[programIndex]) & 3]); ; } uniform signed int8 t1[4]; } foreach_unique (u2 in ((varying signed) z[(programIndex ^ (x)) & 3]) &
-- 0x80000001u) { x = u2 + 1; if ((u2)) continue; } a[programIndex] += x; }
abbrev program_34 : Program
program_34 = pr W4 ((fn None None ((vr (Given I32) false) ∷ (vr (Given U64) false) ∷ (vr (Given U32) false) ∷ (vr (AVariable (v I32)) false) ∷ (vr
    (Local (u I8) 4) false) ∷ (vr (AVariable (u U32)) true) ∷ []) (t_braces (t_stmts ((t_declare ((t_with_value 3 (v I32) (t_library lib.Abs I32
    (t_exprs ((t_place (t_element (ar 0 (u I32) false) (cn I32 3 (s 97 98)) (u I32) (s 95 99))) ∷ [])) (u I32) (s 91 100)) (s 87 100)) ∷ []) (s 83
    101)) ∷ (t_block (t_braces (t_stmts ((t_simple (t_update op.Shl U64 (t_element (ar 0 (u I32) false) (cn I32 0 (s 106 107)) (u I32) (s 104 108))
    (t_binary op.Shr (t_convert U64 (t_place (t_element (ar 0 (u I32) false) (t_binary op.And (t_convert I32 (t_cast (t_logic logic.Or (t_convert
    Truth (cn I32 7 (s 116 117))) (t_convert Truth (cn I32 0 (s 121 122))) Uniform (s 116 122)) (u Truth) (s 115 123))) (cn I32 3 (s 126 127)) (u I32)
    (s 115 127)) (u I32) (s 113 128)))) (t_library lib.Max U64 (t_exprs ((t_convert U64 (t_binary op.Or (cn I64 65 (s 136 140)) (t_convert I64 (cn I32
    0 (s 143 144))) (u I64) (s 136 144))) ∷ (t_place (t_element (ar 1 (u U64) false) (t_binary op.And (t_cast (t_unary un.Invert (t_place (t_element
    (ar 0 (u I32) false) (t_binary op.And (t_cast (t_place (t_element (ar 2 (u U32) false) (cn I32 1 (s 156 157)) (u U32) (s 154 158))) (u U32) (s 153
    159)) (t_convert U32 (cn I32 3 (s 162 163))) (u U32) (s 153 163)) (u I32) (s 151 164))) (u I32) (s 149 164)) (u I32) (s 148 165)) (cn I32 3 (s 168
    169)) (u I32) (s 148 169)) (u U64) (s 146 170))) ∷ [])) (u U64) (s 132 171)) (u U64) (s 113 171)) (s 104 171)) (s 104 172)) ∷ (t_unmasked (s 173
    181) (t_braces (t_stmts ((t_simple (t_update op.Sub U32 (t_element (ar 2 (u U32) false) (t_binary op.And (t_cast (t_binary op.Xor (t_convert U32
    (t_program_index (s 187 199))) (t_cast (t_binary op.Sub (t_convert U32 (t_place (t_variable 3 (v I32) (s 203 204)))) (t_place (t_element (ar 2 (u
    U32) false) (t_program_index (s 209 221)) (v U32) (s 207 222))) (v U32) (s 203 222)) (v U32) (s 202 223)) (v U32) (s 187 223)) (v U32) (s 186
    224)) (t_convert U32 (cn I32 3 (s 227 228))) (v U32) (s 186 228)) (v U32) (s 184 229)) (t_convert U32 (t_cast (t_convert Truth (t_library lib.Max
    U64 (t_exprs ((t_convert U64 (t_binary op.Or (t_program_index (s 244 256)) (cn I32 4 (s 259 271)) (v I32) (s 244 271))) ∷ (t_place (t_element (ar
    1 (u U64) false) (t_binary op.And (t_convert I32 (t_cast (t_cast (t_convert U8 (t_place (t_element (ar 1 (u U64) false) (t_program_index (s 302
    314)) (v U64) (s 300 315)))) (v U8) (s 276 315)) (v U8) (s 275 316))) (cn I32 3 (s 319 320)) (v I32) (s 275 320)) (v U64) (s 273 321))) ∷ [])) (v
    U64) (s 240 322))) (v Truth) (s 233 322))) (s 184 322)) (s 184 323)) ∷ (t_block (t_braces (t_stmts ([])) (s 324 325))) ∷ [])) (s 182 327)) (s 173
    327)) ∷ (t_declare ((t_with_size (ar 4 (u I8) false) (s 348 353)) ∷ []) (s 328 354)) ∷ [])) (s 102 356))) ∷ (t_foreach_unique (s 357 371) 5 5 U32
    (t_binary op.And (t_convert U32 (t_cast (t_cast (t_convert I32 (t_place (t_element (ar 2 (u U32) false) (t_binary op.And (t_cast (t_binary op.Xor
    (t_program_index (s 400 412)) (t_cast (t_place (t_variable 3 (v I32) (s 416 417))) (v I32) (s 415 418)) (v I32) (s 400 418)) (v I32) (s 399 419))
    (cn I32 3 (s 422 423)) (v I32) (s 399 423)) (v U32) (s 397 424)))) (v I32) (s 380 424)) (v I32) (s 379 425))) (cn U32 2147483649 (s 428 439)) (v
    U32) (s 379 439)) (t_block (t_braces (t_stmts ((t_simple (t_assign (t_variable 3 (v I32) (s 443 444)) (t_convert I32 (t_binary op.Add (t_place
    (t_variable 5 (u U32) (s 447 449))) (t_convert U32 (cn I32 1 (s 452 453))) (u U32) (s 447 453))) (s 443 453)) (s 443 454)) ∷ (t_if Plain 6
    (t_convert Truth (t_cast (t_place (t_variable 5 (u U32) (s 461 463))) (u U32) (s 460 464))) (t_jump Continue (s 466 474) (s 466 475)) (s 456 475))
    ∷ [])) (s 441 477))) (s 357 477)) ∷ (t_simple (t_update op.Add I32 (t_element (ar 0 (u I32) false) (t_program_index (s 480 492)) (v I32) (s 478
    493)) (t_place (t_variable 3 (v I32) (s 497 498))) (s 478 498)) (s 478 499)) ∷ [])) (s 81 501))) ∷ [])

abbrev arguments_34 : List Argument
arguments_34 = ((AnArray (rw I32 (2147483649 ∷ 4294967289 ∷ 4294967291 ∷ 2503825973 ∷ 4294967295 ∷ 4294967287 ∷ []))) ∷ (AnArray (rw U64 (7 ∷
    9007820624449994541 ∷ 6 ∷ 5 ∷ 4 ∷ 1193783315010027466 ∷ []))) ∷ (AnArray (rw U32 (2 ∷ 1938028375 ∷ 9 ∷ 4294967294 ∷ 2 ∷ []))) ∷ [])

run_34_of_0 : run_of program_34 0 0 arguments_34 ≡ Ends ((rw I32 (2147483649 ∷ 4294967290 ∷ 4294967292 ∷ 2503825975 ∷ 4294967295 ∷ 4294967287 ∷ [])) ∷
    (rw U64 (7 ∷ 9007820624449994541 ∷ 6 ∷ 5 ∷ 4 ∷ 1193783315010027466 ∷ [])) ∷ (rw U32 (1 ∷ 1938028374 ∷ 8 ∷ 4294967294 ∷ 2 ∷ [])) ∷ []) None ([])
unfolding digits number_to wrap_to amount not_zero
run_34_of_0 = refl

work_34_of_0 : work_of program_34 0 0 arguments_34 ≡ 110
unfolding digits number_to wrap_to amount not_zero
work_34_of_0 = refl

-- unique_programs: unique 204
-- export uniform signed int f(uniform signed int a[], uniform uint64 o[], uniform uint32 n) { int x = programIndex; x *= n; x && n; ; foreach_unique
-- (u1 in x) { cif (programIndex) { if (any(x)) continue; x--; --n; } else { x = min(x >= x || a[programIndex], exclusive_scan_and(programCount)
-- == (3)); } foreach_active (i2) { x *= - (a[programIndex] ? programIndex || programIndex : n & x); n >>= 8 <= i2 < - any(x); } (signed) x; }
-- a[programIndex] += x; return 127 | n <= (n ? 2 : n); }
abbrev program_35 : Program
program_35 = pr W4 ((fn (Some I32) (Some (u I32)) ((vr (Given I32) false) ∷ (vr (Given U64) false) ∷ (vr (AVariable (u U32)) false) ∷ (vr (AVariable
    (v I32)) false) ∷ (vr (AVariable (u I32)) true) ∷ (vr (AVariable (u I64)) true) ∷ []) (t_braces (t_stmts ((t_declare ((t_with_value 3 (v I32)
    (t_program_index (s 100 112)) (s 96 112)) ∷ []) (s 92 113)) ∷ (t_simple (t_update op.Mul U32 (t_variable 3 (v I32) (s 114 115)) (t_place
    (t_variable 2 (u U32) (s 119 120))) (s 114 120)) (s 114 121)) ∷ (t_simple (t_value (t_logic logic.And (t_convert Truth (t_place (t_variable 3 (v
    I32) (s 122 123)))) (t_convert Truth (t_place (t_variable 2 (u U32) (s 127 128)))) Varying (s 122 128))) (s 122 129)) ∷ (t_block (t_braces
    (t_stmts ([])) (s 130 131))) ∷ (t_foreach_unique (s 132 146) 4 4 I32 (t_place (t_variable 3 (v I32) (s 154 155))) (t_block (t_braces (t_stmts
    ((t_if_else Coherent 5 (t_convert Truth (t_program_index (s 164 176))) (t_block (t_braces (t_stmts ((t_if Plain 5 (t_library lib.Any Truth
    (t_exprs ((t_convert Truth (t_place (t_variable 3 (v I32) (s 188 189)))) ∷ [])) (u Truth) (s 184 190)) (t_jump Continue (s 192 200) (s 192 201))
    (s 180 201)) ∷ (t_simple (t_step op.Sub I32 (t_variable 3 (v I32) (s 202 203)) (s 202 205)) (s 202 206)) ∷ (t_simple (t_step op.Sub U32
    (t_variable 2 (u U32) (s 209 210)) (s 207 210)) (s 207 211)) ∷ [])) (s 178 213))) (t_block (t_braces (t_stmts ((t_simple (t_assign (t_variable 3
    (v I32) (s 221 222)) (t_library lib.Min I32 (t_exprs ((t_convert I32 (t_logic logic.Or (t_compare cmp.GreaterOrEqual (t_place (t_variable 3 (v
    I32) (s 229 230))) (t_place (t_variable 3 (v I32) (s 234 235))) Varying (s 229 235)) (t_convert Truth (t_place (t_element (ar 0 (u I32) false)
    (t_program_index (s 241 253)) (v I32) (s 239 254)))) Varying (s 229 254))) ∷ (t_convert I32 (t_compare cmp.Equal (t_library lib.ScanAnd I32
    (t_exprs ((cn I32 4 (s 275 287)) ∷ [])) (v I32) (s 256 288)) (t_cast (cn I32 3 (s 293 294)) (u I32) (s 292 295)) Varying (s 256 295))) ∷ [])) (v
    I32) (s 225 296)) (s 221 296)) (s 221 297)) ∷ [])) (s 219 299))) (s 159 299)) ∷ (t_foreach_active (s 300 314) 5 5 (t_block (t_braces (t_stmts
    ((t_simple (t_update op.Mul U32 (t_variable 3 (v I32) (s 322 323)) (t_unary un.Negate (t_cast (t_choose (t_convert Truth (t_place (t_element (ar 0
    (u I32) false) (t_program_index (s 332 344)) (v I32) (s 330 345)))) (t_convert U32 (t_logic logic.Or (t_convert Truth (t_program_index (s 348
    360))) (t_convert Truth (t_program_index (s 364 376))) Varying (s 348 376))) (t_binary op.And (t_place (t_variable 2 (u U32) (s 379 380)))
    (t_convert U32 (t_place (t_variable 3 (v I32) (s 383 384)))) (v U32) (s 379 384)) (v U32) (s 330 384)) (v U32) (s 329 385)) (v U32) (s 327 385))
    (s 322 385)) (s 322 386)) ∷ (t_simple (t_update op.Shr U32 (t_variable 2 (u U32) (s 387 388)) (t_convert U32 (t_compare cmp.Less (t_convert I32
    (t_compare cmp.LessOrEqual (t_convert I64 (cn I32 8 (s 393 394))) (t_place (t_variable 5 (u I64) (s 398 400))) Uniform (s 393 400))) (t_unary
    un.Negate (t_convert I32 (t_library lib.Any Truth (t_exprs ((t_convert Truth (t_place (t_variable 3 (v I32) (s 409 410)))) ∷ [])) (u Truth) (s 405
    411))) (u I32) (s 403 411)) Uniform (s 393 411))) (s 387 411)) (s 387 412)) ∷ [])) (s 320 414))) (s 300 414)) ∷ (t_simple (t_value (t_cast
    (t_place (t_variable 3 (v I32) (s 424 425))) (v I32) (s 415 425))) (s 415 426)) ∷ [])) (s 157 428))) (s 132 428)) ∷ (t_simple (t_update op.Add I32
    (t_element (ar 0 (u I32) false) (t_program_index (s 431 443)) (v I32) (s 429 444)) (t_place (t_variable 3 (v I32) (s 448 449))) (s 429 449)) (s
    429 450)) ∷ (t_return (s 451 457) (Some (t_binary op.Or (cn I32 127 (s 458 461)) (t_convert I32 (t_compare cmp.LessOrEqual (t_place (t_variable 2
    (u U32) (s 464 465))) (t_cast (t_choose (t_convert Truth (t_place (t_variable 2 (u U32) (s 470 471)))) (t_convert U32 (cn I32 2 (s 474 475)))
    (t_place (t_variable 2 (u U32) (s 478 479))) (u U32) (s 470 479)) (u U32) (s 469 480)) Uniform (s 464 480))) (u I32) (s 458 480))) (s 451 481)) ∷
    [])) (s 90 483))) ∷ [])

abbrev arguments_35 : List Argument
arguments_35 = ((AnArray (rw I32 (1867276588 ∷ 2 ∷ 4294967289 ∷ 4294967293 ∷ 2955712271 ∷ 2147483649 ∷ 3 ∷ 6 ∷ []))) ∷ (AnArray (rw U64 (7 ∷ 5 ∷
    17883214058551297410 ∷ 7 ∷ 4 ∷ 0 ∷ 18446744073709551615 ∷ 13646410523113510541 ∷ []))) ∷ (AValue (record { elem = U32; bits = 0 })) ∷ [])

run_35_of_0 : run_of program_35 0 0 arguments_35 ≡ Ends ((rw I32 (1867276588 ∷ 3 ∷ 4294967290 ∷ 4294967294 ∷ 2955712271 ∷ 2147483649 ∷ 3 ∷ 6 ∷ [])) ∷
    (rw U64 (7 ∷ 5 ∷ 17883214058551297410 ∷ 7 ∷ 4 ∷ 0 ∷ 18446744073709551615 ∷ 13646410523113510541 ∷ [])) ∷ []) (Some
    (record { elem = I32; bits = 127 })) ([])
unfolding digits number_to wrap_to amount not_zero
run_35_of_0 = refl

work_35_of_0 : work_of program_35 0 0 arguments_35 ≡ 136
unfolding digits number_to wrap_to amount not_zero
work_35_of_0 = refl
