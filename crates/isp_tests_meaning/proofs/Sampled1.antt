-- Programs 0 to 11 of rows that were found outside, as theorems. Written by tools/sample_theorems.py.
use Rattle.std.specs.Prelude.{◌≡◌, true, false, List, [], ◌∷◌, Some, None}
use Rattle.std.proofs.Common.{refl}
use Rattle.std.specs.Fmt.{digits}
use Rattle.isp_base.specs.Values.{number_to, wrap_to, amount, not_zero}
use Rattle.isp_base.specs.Outcomes.{Ends, GoesOn}
use Rattle.isp_base.specs.declared.types.Gang.TheVariants.{W4, W8, W16}
use Rattle.isp_base.specs.declared.types.Elem.TheVariants.{Bool as Truth, I8, U8, I16, U16, I32, U32, I64, U64}
use Rattle.isp_base.specs.declared.types.Rate.TheVariants.{Uniform, Varying}
use Rattle.isp_base.specs.declared.operators.BinOp.TheVariants as op
use Rattle.isp_base.specs.declared.operators.UnaryOp.TheVariants as un
use Rattle.isp_base.specs.declared.operators.Compare.TheVariants as cmp
use Rattle.isp_base.specs.declared.signature.Argument.{Argument}
use Rattle.isp_base.specs.declared.signature.Argument.TheVariants.{Array as AnArray, Value as AValue}
use Rattle.isp_tree.specs.declared.stmt.Form.TheVariants.{Plain, Coherent}
use Rattle.isp_tree.specs.declared.stmt.Jump.TheVariants.{Continue}
use Rattle.isp_typed.specs.declared.library.Library.TheVariants as lib
use Rattle.isp_typed.specs.declared.variable.Holds.TheVariants.{Value as AVariable, Given, Local}
use Rattle.isp_typed.specs.declared.variable.Logic.TheVariants as logic
use Rattle.isp_typed.specs.Typed.{t_program_index, t_place, t_convert, t_cast, t_unary, t_binary, t_compare, t_logic, t_choose, t_call, t_library, t_packed_store}
use Rattle.isp_typed.specs.Typed.{t_packed_load, t_variable, t_element, t_whole, t_from, t_called, t_arguments, t_exprs}
use Rattle.isp_typed.specs.Typed.{t_plain, t_with_value, t_with_size, t_value, t_assign, t_update, t_step, t_first_declare}
use Rattle.isp_typed.specs.Typed.{t_block, t_declare, t_simple, t_if, t_if_else, t_while, t_do, t_for, t_foreach, t_foreach_active}
use Rattle.isp_typed.specs.Typed.{t_jump, t_return, t_braces, t_stmts, Program}
use Rattle.isp_meaning.specs.Runs.{run_of, work_of}
use Rattle.isp_tests_meaning.specs.Terms.{s, u, v, cn, ar, rg, vr, rw, fn, pr}

-- programs: expr 35
-- export void f(uniform int32 a[], uniform uint16 o[]) { int x = programIndex; x--; x >>= !(! 3 <= x); x = (programCount != -(x) ? min(x >=
-- 2147483647, x || 128) : - x > 0b11000u || x); x--; a[programIndex] += x; }
abbrev program_0 : Program
program_0 = pr W4 ((fn None None ((vr (Given I32) false) ∷ (vr (Given U16) false) ∷ (vr (AVariable (v I32)) false) ∷ []) (t_braces (t_stmts
    ((t_declare ((t_with_value 2 (v I32) (t_program_index (s 63 75)) (s 59 75)) ∷ []) (s 55 76)) ∷ (t_simple (t_step op.Sub I32 (t_variable 2 (v I32)
    (s 77 78)) (s 77 80)) (s 77 81)) ∷ (t_simple (t_update op.Shr I32 (t_variable 2 (v I32) (s 82 83)) (t_convert I32 (t_unary un.Not (t_cast
    (t_compare cmp.LessOrEqual (t_convert I32 (t_unary un.Not (t_convert Truth (cn I32 3 (s 92 93))) (u Truth) (s 90 93))) (t_place (t_variable 2 (v
    I32) (s 97 98))) Varying (s 90 98)) (v Truth) (s 89 99)) (v Truth) (s 88 99))) (s 82 99)) (s 82 100)) ∷ (t_simple (t_assign (t_variable 2 (v I32)
    (s 101 102)) (t_cast (t_choose (t_compare cmp.NotEqual (cn I32 4 (s 106 118)) (t_unary un.Negate (t_cast (t_place (t_variable 2 (v I32) (s 124
    125))) (v I32) (s 123 126)) (v I32) (s 122 126)) Varying (s 106 126)) (t_library lib.Min I32 (t_exprs ((t_convert I32 (t_compare
    cmp.GreaterOrEqual (t_place (t_variable 2 (v I32) (s 133 134))) (cn I32 2147483647 (s 138 148)) Varying (s 133 148))) ∷ (t_convert I32 (t_logic
    logic.Or (t_convert Truth (t_place (t_variable 2 (v I32) (s 150 151)))) (t_convert Truth (cn I32 128 (s 155 158))) Varying (s 150 158))) ∷ [])) (v
    I32) (s 129 159)) (t_convert I32 (t_logic logic.Or (t_compare cmp.Greater (t_convert U32 (t_unary un.Negate (t_place (t_variable 2 (v I32) (s 164
    165))) (v I32) (s 162 165))) (cn U32 24 (s 168 176)) Varying (s 162 176)) (t_convert Truth (t_place (t_variable 2 (v I32) (s 180 181)))) Varying
    (s 162 181))) (v I32) (s 106 181)) (v I32) (s 105 182)) (s 101 182)) (s 101 183)) ∷ (t_simple (t_step op.Sub I32 (t_variable 2 (v I32) (s 184
    185)) (s 184 187)) (s 184 188)) ∷ (t_simple (t_update op.Add I32 (t_element (ar 0 (u I32) false) (t_program_index (s 191 203)) (v I32) (s 189
    204)) (t_place (t_variable 2 (v I32) (s 208 209))) (s 189 209)) (s 189 210)) ∷ [])) (s 53 212))) ∷ [])

abbrev arguments_0 : List Argument
arguments_0 = ((AnArray (rw I32 (2147483646 ∷ 4294967287 ∷ 4294967293 ∷ 2746016148 ∷ 2147483648 ∷ 819563687 ∷ 4294967287 ∷ []))) ∷ (AnArray (rw U16
    (3494 ∷ 0 ∷ 45106 ∷ 6 ∷ []))) ∷ [])

run_0_of_0 : run_of program_0 0 0 arguments_0 ≡ Ends ((rw I32 (2147483645 ∷ 4294967286 ∷ 4294967292 ∷ 2746016147 ∷ 2147483648 ∷ 819563687 ∷ 4294967287
    ∷ [])) ∷ (rw U16 (3494 ∷ 0 ∷ 45106 ∷ 6 ∷ [])) ∷ []) None ([])
unfolding digits number_to wrap_to amount not_zero
run_0_of_0 = refl

work_0_of_0 : work_of program_0 0 0 arguments_0 ≡ 36
unfolding digits number_to wrap_to amount not_zero
work_0_of_0 = refl

-- programs: foreach 2
-- export uniform int f(uniform int32 a[], uniform uint64 o[], uniform int n) { int x = (uint8) min(n, n); bool v1 = n; uniform int v2 = clamp(n,
-- 0b1u - 0x670e5ada3afdc76c, select(a[(n * 0x1f) & 15], 9, n)) && programCount; int32 v3; o[programIndex] = x; return !((true) / (32767 | 1)); }
abbrev program_1 : Program
program_1 = pr W16 ((fn (Some I32) (Some (u I32)) ((vr (Given I32) false) ∷ (vr (Given U64) false) ∷ (vr (AVariable (u I32)) false) ∷ (vr (AVariable
    (v I32)) false) ∷ (vr (AVariable (v Truth)) false) ∷ (vr (AVariable (u I32)) false) ∷ (vr (AVariable (v I32)) false) ∷ []) (t_braces (t_stmts
    ((t_declare ((t_with_value 3 (v I32) (t_convert I32 (t_cast (t_convert U8 (t_library lib.Min I32 (t_exprs ((t_place (t_variable 2 (u I32) (s 97
    98))) ∷ (t_place (t_variable 2 (u I32) (s 100 101))) ∷ [])) (u I32) (s 93 102))) (u U8) (s 85 102))) (s 81 102)) ∷ []) (s 77 103)) ∷ (t_declare
    ((t_with_value 4 (v Truth) (t_convert Truth (t_place (t_variable 2 (u I32) (s 114 115)))) (s 109 115)) ∷ []) (s 104 116)) ∷ (t_declare
    ((t_with_value 5 (u I32) (t_convert I32 (t_logic logic.And (t_convert Truth (t_library lib.Clamp I64 (t_exprs ((t_convert I64 (t_place (t_variable
    2 (u I32) (s 140 141)))) ∷ (t_binary op.Sub (t_convert I64 (cn U32 1 (s 143 147))) (cn I64 7425972728919607148 (s 150 168)) (u I64) (s 143 168)) ∷
    (t_convert I64 (t_library lib.Select I32 (t_exprs ((t_convert Truth (t_place (t_element (ar 0 (u I32) false) (t_binary op.And (t_cast (t_binary
    op.Mul (t_place (t_variable 2 (u I32) (s 180 181))) (cn I32 31 (s 184 188)) (u I32) (s 180 188)) (u I32) (s 179 189)) (cn I32 15 (s 192 194)) (u
    I32) (s 179 194)) (u I32) (s 177 195)))) ∷ (cn I32 9 (s 197 198)) ∷ (t_place (t_variable 2 (u I32) (s 200 201))) ∷ [])) (u I32) (s 170 202))) ∷
    [])) (u I64) (s 134 203))) (t_convert Truth (cn I32 16 (s 207 219))) Uniform (s 134 219))) (s 129 219)) ∷ []) (s 117 220)) ∷ (t_declare ((t_plain
    6 (v I32) (s 227 229)) ∷ []) (s 221 230)) ∷ (t_simple (t_assign (t_element (ar 1 (u U64) false) (t_program_index (s 233 245)) (v U64) (s 231 246))
    (t_convert U64 (t_place (t_variable 3 (v I32) (s 249 250)))) (s 231 250)) (s 231 251)) ∷ (t_return (s 252 258) (Some (t_convert I32 (t_unary
    un.Not (t_convert Truth (t_cast (t_binary op.Div (t_convert I32 (t_cast (cn Truth 1 (s 262 266)) (u Truth) (s 261 267))) (t_cast (t_binary op.Or
    (cn I32 32767 (s 271 276)) (cn I32 1 (s 279 280)) (u I32) (s 271 280)) (u I32) (s 270 281)) (u I32) (s 261 281)) (u I32) (s 260 282))) (u Truth)
    (s 259 282)))) (s 252 283)) ∷ [])) (s 75 285))) ∷ [])

abbrev arguments_1 : List Argument
arguments_1 = ((AnArray (rw I32 (4 ∷ 2 ∷ 7 ∷ 2147483648 ∷ 1 ∷ 309391513 ∷ 6 ∷ 2147483649 ∷ 9 ∷ 7 ∷ 9 ∷ 2147483647 ∷ 3430881060 ∷ 2147483649 ∷ 3 ∷
    4294967293 ∷ []))) ∷ (AnArray (rw U64 (9 ∷ 18446744073709551615 ∷ 2 ∷ 9 ∷ 1 ∷ 6 ∷ 0 ∷ 10453398406664788751 ∷ 9 ∷ 3 ∷ 1 ∷ 18446744073709551615 ∷ 8
    ∷ 3 ∷ 9 ∷ 8559850609957702196 ∷ 9972805519259375396 ∷ []))) ∷ (AValue (record { elem = I32; bits = 5 })) ∷ [])

run_1_of_0 : run_of program_1 0 0 arguments_1 ≡ Ends ((rw I32 (4 ∷ 2 ∷ 7 ∷ 2147483648 ∷ 1 ∷ 309391513 ∷ 6 ∷ 2147483649 ∷ 9 ∷ 7 ∷ 9 ∷ 2147483647 ∷
    3430881060 ∷ 2147483649 ∷ 3 ∷ 4294967293 ∷ [])) ∷ (rw U64 (5 ∷ 5 ∷ 5 ∷ 5 ∷ 5 ∷ 5 ∷ 5 ∷ 5 ∷ 5 ∷ 5 ∷ 5 ∷ 5 ∷ 5 ∷ 5 ∷ 5 ∷ 5 ∷ 9972805519259375396 ∷
    [])) ∷ []) (Some (record { elem = I32; bits = 1 })) ([])
unfolding digits number_to wrap_to amount not_zero
run_1_of_0 = refl

work_1_of_0 : work_of program_1 0 0 arguments_1 ≡ 45
unfolding digits number_to wrap_to amount not_zero
work_1_of_0 = refl

-- programs: foreach 13
-- export void f(uniform int a[], uniform uint8 o[], uniform signed n) { int x = ~ n | 0 * o[programIndex]; ; o[9] += (abs(0xe8u)) % (n | 1); --n;
-- a[programIndex] += x; }
abbrev program_2 : Program
program_2 = pr W8 ((fn None None ((vr (Given I32) false) ∷ (vr (Given U8) false) ∷ (vr (AVariable (u I32)) false) ∷ (vr (AVariable (v I32)) false) ∷
    []) (t_braces (t_stmts ((t_declare ((t_with_value 3 (v I32) (t_binary op.Or (t_unary un.Invert (t_place (t_variable 2 (u I32) (s 80 81))) (u I32)
    (s 78 81)) (t_binary op.Mul (cn I32 0 (s 84 85)) (t_convert I32 (t_place (t_element (ar 1 (u U8) false) (t_program_index (s 90 102)) (v U8) (s 88
    103)))) (v I32) (s 84 103)) (v I32) (s 78 103)) (s 74 103)) ∷ []) (s 70 104)) ∷ (t_block (t_braces (t_stmts ([])) (s 105 106))) ∷ (t_simple
    (t_update op.Add U32 (t_element (ar 1 (u U8) false) (cn I32 9 (s 109 110)) (u U8) (s 107 111)) (t_binary op.Rem (t_cast (t_library lib.Abs U32
    (t_exprs ((cn U32 232 (s 120 125)) ∷ [])) (u U32) (s 116 126)) (u U32) (s 115 127)) (t_convert U32 (t_cast (t_binary op.Or (t_place (t_variable 2
    (u I32) (s 131 132))) (cn I32 1 (s 135 136)) (u I32) (s 131 136)) (u I32) (s 130 137))) (u U32) (s 115 137)) (s 107 137)) (s 107 138)) ∷ (t_simple
    (t_step op.Sub I32 (t_variable 2 (u I32) (s 141 142)) (s 139 142)) (s 139 143)) ∷ (t_simple (t_update op.Add I32 (t_element (ar 0 (u I32) false)
    (t_program_index (s 146 158)) (v I32) (s 144 159)) (t_place (t_variable 3 (v I32) (s 163 164))) (s 144 164)) (s 144 165)) ∷ [])) (s 68 167))) ∷
    [])

abbrev arguments_2 : List Argument
arguments_2 = ((AnArray (rw I32 (5 ∷ 0 ∷ 2147483646 ∷ 4294967294 ∷ 4294967290 ∷ 4294967288 ∷ 2530843495 ∷ 4294967294 ∷ []))) ∷ (AnArray (rw U8 (254 ∷
    5 ∷ 0 ∷ 9 ∷ 7 ∷ 156 ∷ 2 ∷ 8 ∷ 254 ∷ 8 ∷ 9 ∷ 1 ∷ []))) ∷ (AValue (record { elem = I32; bits = 0 })) ∷ [])

run_2_of_0 : run_of program_2 0 0 arguments_2 ≡ Ends ((rw I32 (4 ∷ 4294967295 ∷ 2147483645 ∷ 4294967293 ∷ 4294967289 ∷ 4294967287 ∷ 2530843494 ∷
    4294967293 ∷ [])) ∷ (rw U8 (254 ∷ 5 ∷ 0 ∷ 9 ∷ 7 ∷ 156 ∷ 2 ∷ 8 ∷ 254 ∷ 8 ∷ 9 ∷ 1 ∷ [])) ∷ []) None ([])
unfolding digits number_to wrap_to amount not_zero
run_2_of_0 = refl

work_2_of_0 : work_of program_2 0 0 arguments_2 ≡ 28
unfolding digits number_to wrap_to amount not_zero
work_2_of_0 = refl

-- programs: foreach 50
-- export void f(uniform signed a[], uniform signed int8 o[], uniform int n) { int x = (programIndex <= 0x1) % (programIndex ^ 7 | 1); foreach (i1 =
-- 0 ... programCount, i2 = 0 ... programCount + 1) { { int k3 = 0; cwhile (k3 < 4) { k3++; x |= (abs((programIndex ? i1 : o[programIndex])) ?
-- !(7) : (int) k3); 0b10111; a[programIndex] >>= - (programIndex); } } } if (- a[programIndex]) return; varying unsigned int64 v4 = ((x) &&
-- max(4, n)); o[programIndex] ^= (n) % ((((n && v4) % (programIndex | 1) | 1)) | 1); a[programIndex] += x; }
abbrev program_3 : Program
program_3 = pr W8 ((fn None None ((vr (Given I32) false) ∷ (vr (Given I8) false) ∷ (vr (AVariable (u I32)) false) ∷ (vr (AVariable (v I32)) false) ∷
    (vr (AVariable (v I32)) true) ∷ (vr (AVariable (v I32)) true) ∷ (vr (AVariable (v I32)) false) ∷ (vr (AVariable (v U64)) false) ∷ []) (t_braces
    (t_stmts ((t_declare ((t_with_value 3 (v I32) (t_binary op.Rem (t_convert I32 (t_cast (t_compare cmp.LessOrEqual (t_program_index (s 85 97)) (cn
    I32 1 (s 101 104)) Varying (s 85 104)) (v Truth) (s 84 105))) (t_cast (t_binary op.Or (t_binary op.Xor (t_program_index (s 109 121)) (cn I32 7 (s
    124 125)) (v I32) (s 109 125)) (cn I32 1 (s 128 129)) (v I32) (s 109 129)) (v I32) (s 108 130)) (v I32) (s 84 130)) (s 80 130)) ∷ []) (s 76 131))
    ∷ (t_foreach (s 132 139) 4 ((rg 4 (cn I32 0 (s 146 147)) (cn I32 8 (s 152 164)) (s 141 164)) ∷ (rg 5 (cn I32 0 (s 171 172)) (t_binary op.Add (cn
    I32 8 (s 177 189)) (cn I32 1 (s 192 193)) (u I32) (s 177 193)) (s 166 193)) ∷ []) (t_block (t_braces (t_stmts ((t_block (t_braces (t_stmts
    ((t_declare ((t_with_value 6 (v I32) (cn I32 0 (s 208 209)) (s 203 209)) ∷ []) (s 199 210)) ∷ (t_while Coherent 7 (t_compare cmp.Less (t_place
    (t_variable 6 (v I32) (s 219 221))) (cn I32 4 (s 224 225)) Varying (s 219 225)) (t_block (t_braces (t_stmts ((t_simple (t_step op.Add I32
    (t_variable 6 (v I32) (s 229 231)) (s 229 233)) (s 229 234)) ∷ (t_simple (t_update op.Or I32 (t_variable 3 (v I32) (s 236 237)) (t_cast (t_choose
    (t_convert Truth (t_library lib.Abs I32 (t_exprs ((t_cast (t_choose (t_convert Truth (t_program_index (s 247 259))) (t_place (t_variable 4 (v I32)
    (s 262 264))) (t_convert I32 (t_place (t_element (ar 1 (u I8) false) (t_program_index (s 269 281)) (v I8) (s 267 282)))) (v I32) (s 247 282)) (v
    I32) (s 246 283)) ∷ [])) (v I32) (s 242 284))) (t_convert I32 (t_unary un.Not (t_convert Truth (t_cast (cn I32 7 (s 289 290)) (u I32) (s 288
    291))) (u Truth) (s 287 291))) (t_cast (t_place (t_variable 6 (v I32) (s 300 302))) (v I32) (s 294 302)) (v I32) (s 242 302)) (v I32) (s 241 303))
    (s 236 303)) (s 236 304)) ∷ (t_simple (t_value (cn I32 23 (s 305 312))) (s 305 313)) ∷ (t_simple (t_update op.Shr I32 (t_element (ar 0 (u I32)
    false) (t_program_index (s 316 328)) (v I32) (s 314 329)) (t_unary un.Negate (t_cast (t_program_index (s 337 349)) (v I32) (s 336 350)) (v I32) (s
    334 350)) (s 314 350)) (s 314 351)) ∷ [])) (s 227 353))) (s 211 353)) ∷ [])) (s 197 355))) ∷ [])) (s 195 357))) (s 132 357)) ∷ (t_if Plain 7
    (t_convert Truth (t_unary un.Negate (t_place (t_element (ar 0 (u I32) false) (t_program_index (s 366 378)) (v I32) (s 364 379))) (v I32) (s 362
    379))) (t_return (s 381 387) None (s 381 388)) (s 358 388)) ∷ (t_declare ((t_with_value 7 (v U64) (t_convert U64 (t_cast (t_logic logic.And
    (t_convert Truth (t_cast (t_place (t_variable 3 (v I32) (s 419 420))) (v I32) (s 418 421))) (t_convert Truth (t_library lib.Max I32 (t_exprs ((cn
    I32 4 (s 429 430)) ∷ (t_place (t_variable 2 (u I32) (s 432 433))) ∷ [])) (u I32) (s 425 434))) Varying (s 418 434)) (v Truth) (s 417 435))) (s 412
    435)) ∷ []) (s 389 436)) ∷ (t_simple (t_update op.Xor I32 (t_element (ar 1 (u I8) false) (t_program_index (s 439 451)) (v I8) (s 437 452))
    (t_binary op.Rem (t_cast (t_place (t_variable 2 (u I32) (s 457 458))) (u I32) (s 456 459)) (t_cast (t_binary op.Or (t_cast (t_cast (t_binary op.Or
    (t_binary op.Rem (t_convert I32 (t_cast (t_logic logic.And (t_convert Truth (t_place (t_variable 2 (u I32) (s 466 467)))) (t_convert Truth
    (t_place (t_variable 7 (v U64) (s 471 473)))) Varying (s 466 473)) (v Truth) (s 465 474))) (t_cast (t_binary op.Or (t_program_index (s 478 490))
    (cn I32 1 (s 493 494)) (v I32) (s 478 494)) (v I32) (s 477 495)) (v I32) (s 465 495)) (cn I32 1 (s 498 499)) (v I32) (s 465 499)) (v I32) (s 464
    500)) (v I32) (s 463 501)) (cn I32 1 (s 504 505)) (v I32) (s 463 505)) (v I32) (s 462 506)) (v I32) (s 456 506)) (s 437 506)) (s 437 507)) ∷
    (t_simple (t_update op.Add I32 (t_element (ar 0 (u I32) false) (t_program_index (s 510 522)) (v I32) (s 508 523)) (t_place (t_variable 3 (v I32)
    (s 527 528))) (s 508 528)) (s 508 529)) ∷ [])) (s 74 531))) ∷ [])

abbrev arguments_3 : List Argument
arguments_3 = ((AnArray (rw I32 (1 ∷ 4294967291 ∷ 4294967291 ∷ 4294967293 ∷ 2392605708 ∷ 2147483646 ∷ 4294967291 ∷ 2147483647 ∷ 2 ∷ 2147483646 ∷ [])))
    ∷ (AnArray (rw I8 (8 ∷ 248 ∷ 255 ∷ 128 ∷ 5 ∷ 190 ∷ 6 ∷ 126 ∷ 4 ∷ 241 ∷ 9 ∷ []))) ∷ (AValue (record { elem = I32; bits = 2147483648 })) ∷ [])

run_3_of_0 : run_of program_3 0 0 arguments_3 ≡ GoesOn ([])
unfolding digits number_to wrap_to amount not_zero
run_3_of_0 = refl

work_3_of_0 : work_of program_3 0 0 arguments_3 ≡ 54
unfolding digits number_to wrap_to amount not_zero
work_3_of_0 = refl

-- programs: foreach 57
-- export uniform unsigned int64 f(uniform int32 a[], uniform uint16 o[], uniform int16 n) { int x = abs((n)); o[programIndex] |= programCount <= x;
-- foreach_active (i1) { int32 v2 = (i1) << n || 2 * min(8 <= programIndex, i1); { int16 t3[8]; uniform int8 v4 = ! i1; } continue; } cif (x) {
-- for (int k5 = programIndex; k5 < 2; k5 += 2) { signed int64 t6[2]; if (n | t6[(programIndex ^ ((x))) & 1]) continue; } x += !(!(-
-- a[(programIndex ^ (~ 9)) & 3])); foreach_tiled (i7 = 1 ... 2, i8 = 2 ... programCount, i9 = -1 ... programCount) { o[(5) & 3] <<= 3; x ^= i8;
-- } } o[programIndex] = x; return ~(n) & n; }
abbrev program_4 : Program
program_4 = pr W4 ((fn (Some U64) (Some (u U64)) ((vr (Given I32) false) ∷ (vr (Given U16) false) ∷ (vr (AVariable (u I16)) false) ∷ (vr (AVariable (v
    I32)) false) ∷ (vr (AVariable (u I64)) true) ∷ (vr (AVariable (v I32)) false) ∷ (vr (Local (v I16) 8) false) ∷ (vr (AVariable (u I8)) false) ∷ (vr
    (AVariable (v I32)) false) ∷ (vr (Local (v I64) 2) false) ∷ (vr (AVariable (v I32)) true) ∷ (vr (AVariable (v I32)) true) ∷ (vr (AVariable (v
    I32)) true) ∷ []) (t_braces (t_stmts ((t_declare ((t_with_value 3 (v I32) (t_convert I32 (t_library lib.Abs I16 (t_exprs ((t_cast (t_place
    (t_variable 2 (u I16) (s 103 104))) (u I16) (s 102 105)) ∷ [])) (u I16) (s 98 106))) (s 94 106)) ∷ []) (s 90 107)) ∷ (t_simple (t_update op.Or I32
    (t_element (ar 1 (u U16) false) (t_program_index (s 110 122)) (v U16) (s 108 123)) (t_convert I32 (t_compare cmp.LessOrEqual (cn I32 4 (s 127
    139)) (t_place (t_variable 3 (v I32) (s 143 144))) Varying (s 127 144))) (s 108 144)) (s 108 145)) ∷ (t_foreach_active (s 146 160) 4 4 (t_block
    (t_braces (t_stmts ((t_declare ((t_with_value 5 (v I32) (t_convert I32 (t_logic logic.Or (t_convert Truth (t_binary op.Shl (t_cast (t_place
    (t_variable 4 (u I64) (s 180 182))) (u I64) (s 179 183)) (t_convert I64 (t_place (t_variable 2 (u I16) (s 187 188)))) (u I64) (s 179 188)))
    (t_convert Truth (t_binary op.Mul (t_convert I64 (cn I32 2 (s 192 193))) (t_library lib.Min I64 (t_exprs ((t_convert I64 (t_compare
    cmp.LessOrEqual (cn I32 8 (s 200 201)) (t_program_index (s 205 217)) Varying (s 200 217))) ∷ (t_place (t_variable 4 (u I64) (s 219 221))) ∷ []))
    (v I64) (s 196 222)) (v I64) (s 192 222))) Varying (s 179 222))) (s 174 222)) ∷ []) (s 168 223)) ∷ (t_block (t_braces (t_stmts ((t_declare
    ((t_with_size (ar 6 (v I16) false) (s 232 237)) ∷ []) (s 226 238)) ∷ (t_declare ((t_with_value 7 (u I8) (t_convert I8 (t_unary un.Not (t_convert
    Truth (t_place (t_variable 4 (u I64) (s 259 261)))) (u Truth) (s 257 261))) (s 252 261)) ∷ []) (s 239 262)) ∷ [])) (s 224 264))) ∷ (t_jump
    Continue (s 265 273) (s 265 274)) ∷ [])) (s 166 276))) (s 146 276)) ∷ (t_if Coherent 8 (t_convert Truth (t_place (t_variable 3 (v I32) (s 282
    283)))) (t_block (t_braces (t_stmts ((t_for Plain 8 (Some (t_first_declare ((t_with_value 8 (v I32) (t_program_index (s 301 313)) (s 296 313)) ∷
    []) (s 292 313))) (Some (t_compare cmp.Less (t_place (t_variable 8 (v I32) (s 315 317))) (cn I32 2 (s 320 321)) Varying (s 315 321))) (Some
    (t_update op.Add I32 (t_variable 8 (v I32) (s 323 325)) (cn I32 2 (s 329 330)) (s 323 330))) 9 (t_block (t_braces (t_stmts ((t_declare
    ((t_with_size (ar 9 (v I64) false) (s 347 352)) ∷ []) (s 334 353)) ∷ (t_if Plain 10 (t_convert Truth (t_binary op.Or (t_convert I64 (t_place
    (t_variable 2 (u I16) (s 358 359)))) (t_place (t_element (ar 9 (v I64) false) (t_binary op.And (t_cast (t_binary op.Xor (t_program_index (s 366
    378)) (t_cast (t_cast (t_place (t_variable 3 (v I32) (s 383 384))) (v I32) (s 382 385)) (v I32) (s 381 386)) (v I32) (s 366 386)) (v I32) (s 365
    387)) (cn I32 1 (s 390 391)) (v I32) (s 365 391)) (v I64) (s 362 392))) (v I64) (s 358 392))) (t_jump Continue (s 394 402) (s 394 403)) (s 354
    403)) ∷ [])) (s 332 405))) (s 287 405)) ∷ (t_simple (t_update op.Add I32 (t_variable 3 (v I32) (s 406 407)) (t_convert I32 (t_unary un.Not (t_cast
    (t_unary un.Not (t_convert Truth (t_cast (t_unary un.Negate (t_place (t_element (ar 0 (u I32) false) (t_binary op.And (t_cast (t_binary op.Xor
    (t_program_index (s 420 432)) (t_cast (t_unary un.Invert (cn I32 9 (s 438 439)) (u I32) (s 436 439)) (u I32) (s 435 440)) (v I32) (s 420 440)) (v
    I32) (s 419 441)) (cn I32 3 (s 444 445)) (v I32) (s 419 445)) (v I32) (s 417 446))) (v I32) (s 415 446)) (v I32) (s 414 447))) (v Truth) (s 413
    447)) (v Truth) (s 412 448)) (v Truth) (s 411 448))) (s 406 448)) (s 406 449)) ∷ (t_foreach (s 450 463) 10 ((rg 10 (cn I32 1 (s 470 471)) (cn I32
    2 (s 476 477)) (s 465 477)) ∷ (rg 11 (cn I32 2 (s 484 485)) (cn I32 4 (s 490 502)) (s 479 502)) ∷ (rg 12 (t_unary un.Negate (cn I32 1 (s 510 511))
    (u I32) (s 509 511)) (cn I32 4 (s 516 528)) (s 504 528)) ∷ []) (t_block (t_braces (t_stmts ((t_simple (t_update op.Shl I32 (t_element (ar 1 (u
    U16) false) (t_binary op.And (t_cast (cn I32 5 (s 535 536)) (u I32) (s 534 537)) (cn I32 3 (s 540 541)) (u I32) (s 534 541)) (u U16) (s 532 542))
    (cn I32 3 (s 547 548)) (s 532 548)) (s 532 549)) ∷ (t_simple (t_update op.Xor I32 (t_variable 3 (v I32) (s 550 551)) (t_place (t_variable 11 (v
    I32) (s 555 557))) (s 550 557)) (s 550 558)) ∷ [])) (s 530 560))) (s 450 560)) ∷ [])) (s 285 562))) (s 277 562)) ∷ (t_simple (t_assign (t_element
    (ar 1 (u U16) false) (t_program_index (s 565 577)) (v U16) (s 563 578)) (t_convert U16 (t_place (t_variable 3 (v I32) (s 581 582)))) (s 563 582))
    (s 563 583)) ∷ (t_return (s 584 590) (Some (t_convert U64 (t_binary op.And (t_unary un.Invert (t_cast (t_place (t_variable 2 (u I16) (s 593 594)))
    (u I16) (s 592 595)) (u I16) (s 591 595)) (t_place (t_variable 2 (u I16) (s 598 599))) (u I16) (s 591 599)))) (s 584 600)) ∷ [])) (s 88 602))) ∷
    [])

abbrev arguments_4 : List Argument
arguments_4 = ((AnArray (rw I32 (4 ∷ 2789932099 ∷ 0 ∷ 4294967295 ∷ 662781982 ∷ []))) ∷ (AnArray (rw U16 (12684 ∷ 4 ∷ 1 ∷ 54351 ∷ 37045 ∷ 7 ∷ 4 ∷ [])))
    ∷ (AValue (record { elem = I16; bits = 32767 })) ∷ [])

run_4_of_1 : run_of program_4 0 1 arguments_4 ≡ Ends ((rw I32 (4 ∷ 2789932099 ∷ 0 ∷ 4294967295 ∷ 662781982 ∷ [])) ∷ (rw U16 (32767 ∷ 32769 ∷ 32769 ∷
    32769 ∷ 37045 ∷ 7 ∷ 4 ∷ [])) ∷ []) (Some (record { elem = U64; bits = 0 })) ([])
unfolding digits number_to wrap_to amount not_zero
run_4_of_1 = refl

work_4_of_1 : work_of program_4 0 1 arguments_4 ≡ 213
unfolding digits number_to wrap_to amount not_zero
work_4_of_1 = refl

-- programs: functions 97
-- int16 g0() { ; ; int v1 = programIndex; return (v1) % (((v1 != v1 | 1)) | 1); } void g1(uniform signed int64 p2, signed p3) { g0(); } uniform int
-- g2() { ; { ; } ; } export void f(uniform signed a[], uniform uint8 o[], uniform int32 n) { int x = g2(); { n--; uniform int v4 = ((uniform
-- int64) 2 ? (programCount) % (n | 1) : n | true) != ~((n ? a[((9223372036854775807)) & 3] : n)), v5; int64 t6[8]; } bool t7[6]; ; if (41ULL >>
-- t7[programIndex]) return; if (x) return; a[programIndex] += x; }
abbrev program_5 : Program
program_5 = pr W4 ((fn (Some I16) (Some (v I16)) ((vr (AVariable (v I32)) false) ∷ []) (t_braces (t_stmts ((t_block (t_braces (t_stmts ([])) (s 13
    14))) ∷ (t_block (t_braces (t_stmts ([])) (s 15 16))) ∷ (t_declare ((t_with_value 0 (v I32) (t_program_index (s 26 38)) (s 21 38)) ∷ []) (s 17
    39)) ∷ (t_return (s 40 46) (Some (t_convert I16 (t_binary op.Rem (t_cast (t_place (t_variable 0 (v I32) (s 48 50))) (v I32) (s 47 51)) (t_cast
    (t_binary op.Or (t_cast (t_cast (t_binary op.Or (t_convert I32 (t_compare cmp.NotEqual (t_place (t_variable 0 (v I32) (s 57 59))) (t_place
    (t_variable 0 (v I32) (s 63 65))) Varying (s 57 65))) (cn I32 1 (s 68 69)) (v I32) (s 57 69)) (v I32) (s 56 70)) (v I32) (s 55 71)) (cn I32 1 (s
    74 75)) (v I32) (s 55 75)) (v I32) (s 54 76)) (v I32) (s 47 76)))) (s 40 77)) ∷ [])) (s 11 79))) ∷ (fn None None ((vr (AVariable (u I64)) false) ∷
    (vr (AVariable (v I32)) false) ∷ []) (t_braces (t_stmts ((t_simple (t_value (t_call (t_called 0 (t_arguments ([])) (s 126 130)) (v I16))) (s 126
    131)) ∷ [])) (s 124 133))) ∷ (fn (Some I32) (Some (u I32)) ([]) (t_braces (t_stmts ((t_block (t_braces (t_stmts ([])) (s 153 154))) ∷ (t_block
    (t_braces (t_stmts ((t_block (t_braces (t_stmts ([])) (s 157 158))) ∷ [])) (s 155 160))) ∷ (t_block (t_braces (t_stmts ([])) (s 161 162))) ∷ []))
    (s 151 164))) ∷ (fn None None ((vr (Given I32) false) ∷ (vr (Given U8) false) ∷ (vr (AVariable (u I32)) false) ∷ (vr (AVariable (v I32)) false) ∷
    (vr (AVariable (u I32)) false) ∷ (vr (AVariable (u I32)) false) ∷ (vr (Local (v I64) 8) false) ∷ (vr (Local (v Truth) 6) false) ∷ []) (t_braces
    (t_stmts ((t_declare ((t_with_value 3 (v I32) (t_call (t_called 2 (t_arguments ([])) (s 245 249)) (u I32)) (s 241 249)) ∷ []) (s 237 250)) ∷
    (t_block (t_braces (t_stmts ((t_simple (t_step op.Sub I32 (t_variable 2 (u I32) (s 253 254)) (s 253 256)) (s 253 257)) ∷ (t_declare ((t_with_value
    4 (u I32) (t_convert I32 (t_compare cmp.NotEqual (t_cast (t_choose (t_convert Truth (t_cast (t_convert I64 (cn I32 2 (s 292 293))) (u I64) (s 276
    293))) (t_binary op.Rem (t_cast (cn I32 4 (s 297 309)) (u I32) (s 296 310)) (t_cast (t_binary op.Or (t_place (t_variable 2 (u I32) (s 314 315)))
    (cn I32 1 (s 318 319)) (u I32) (s 314 319)) (u I32) (s 313 320)) (u I32) (s 296 320)) (t_binary op.Or (t_place (t_variable 2 (u I32) (s 323 324)))
    (t_convert I32 (cn Truth 1 (s 327 331))) (u I32) (s 323 331)) (u I32) (s 276 331)) (u I32) (s 275 332)) (t_unary un.Invert (t_cast (t_cast
    (t_choose (t_convert Truth (t_place (t_variable 2 (u I32) (s 339 340)))) (t_place (t_element (ar 0 (u I32) false) (t_binary op.And (t_cast (t_cast
    (cn I64 9223372036854775807 (s 347 366)) (u I64) (s 346 367)) (u I64) (s 345 368)) (t_convert I64 (cn I32 3 (s 371 372))) (u I64) (s 345 372)) (u
    I32) (s 343 373))) (t_place (t_variable 2 (u I32) (s 376 377))) (u I32) (s 339 377)) (u I32) (s 338 378)) (u I32) (s 337 379)) (u I32) (s 336
    379)) Uniform (s 275 379))) (s 270 379)) ∷ (t_plain 5 (u I32) (s 381 383)) ∷ []) (s 258 384)) ∷ (t_declare ((t_with_size (ar 6 (v I64) false) (s
    391 396)) ∷ []) (s 385 397)) ∷ [])) (s 251 399))) ∷ (t_declare ((t_with_size (ar 7 (v Truth) false) (s 405 410)) ∷ []) (s 400 411)) ∷ (t_block
    (t_braces (t_stmts ([])) (s 412 413))) ∷ (t_if Plain 8 (t_convert Truth (t_binary op.Shr (cn U64 41 (s 418 423)) (t_convert U64 (t_place
    (t_element (ar 7 (v Truth) false) (t_program_index (s 430 442)) (v Truth) (s 427 443)))) (v U64) (s 418 443))) (t_return (s 445 451) None (s 445
    452)) (s 414 452)) ∷ (t_if Plain 8 (t_convert Truth (t_place (t_variable 3 (v I32) (s 457 458)))) (t_return (s 460 466) None (s 460 467)) (s 453
    467)) ∷ (t_simple (t_update op.Add I32 (t_element (ar 0 (u I32) false) (t_program_index (s 470 482)) (v I32) (s 468 483)) (t_place (t_variable 3
    (v I32) (s 487 488))) (s 468 488)) (s 468 489)) ∷ [])) (s 235 491))) ∷ [])

abbrev arguments_5 : List Argument
arguments_5 = ((AnArray (rw I32 (2147483646 ∷ 4294967288 ∷ 4 ∷ 0 ∷ 4294967290 ∷ []))) ∷ (AnArray (rw U8 (0 ∷ 6 ∷ 8 ∷ 6 ∷ 150 ∷ 7 ∷ 1 ∷ []))) ∷ (AValue
    (record { elem = I32; bits = 4294967287 })) ∷ [])

run_5_of_0 : run_of program_5 3 0 arguments_5 ≡ Ends ((rw I32 (2147483646 ∷ 4294967288 ∷ 4 ∷ 0 ∷ 4294967290 ∷ [])) ∷ (rw U8 (0 ∷ 6 ∷ 8 ∷ 6 ∷ 150 ∷ 7 ∷
    1 ∷ [])) ∷ []) None ([])
unfolding digits number_to wrap_to amount not_zero
run_5_of_0 = refl

work_5_of_0 : work_of program_5 3 0 arguments_5 ≡ 49
unfolding digits number_to wrap_to amount not_zero
work_5_of_0 = refl

-- programs: library 3
-- export void f(uniform signed a[], uniform uint o[], uniform int16 n) { int x = (shuffle(n, n)) % (reduce_equal(n) | 1); for (uniform int k1 = 0;
-- k1 < 2; k1++) { { int k2 = programIndex; cdo { k2++; n++; n *= ((n ? a[(select(k1, 6, n)) & 7] : 256) * 0b1010u); o[9] ^= min(k1, n) + n > n >
-- extract(all(o[(!(k1)) & 7]), 1); } while (k2 < 1); } } packed_store_active(&a[0], n); a[programIndex] &= n >> ~(x) >= exclusive_scan_or(4);
-- a[programIndex] += x; }
abbrev program_6 : Program
program_6 = pr W8 ((fn None None ((vr (Given I32) false) ∷ (vr (Given U32) false) ∷ (vr (AVariable (u I16)) false) ∷ (vr (AVariable (v I32)) false) ∷
    (vr (AVariable (u I32)) false) ∷ (vr (AVariable (v I32)) false) ∷ []) (t_braces (t_stmts ((t_declare ((t_with_value 3 (v I32) (t_binary op.Rem
    (t_convert I32 (t_cast (t_library lib.Shuffle I16 (t_exprs ((t_place (t_variable 2 (u I16) (s 88 89))) ∷ (t_convert I32 (t_place (t_variable 2 (u
    I16) (s 91 92)))) ∷ [])) (v I16) (s 80 93)) (v I16) (s 79 94))) (t_cast (t_binary op.Or (t_convert I32 (t_library lib.ReduceEqual I16 (t_exprs
    ((t_place (t_variable 2 (u I16) (s 111 112))) ∷ [])) (u Truth) (s 98 113))) (cn I32 1 (s 116 117)) (u I32) (s 98 117)) (u I32) (s 97 118)) (v I32)
    (s 79 118)) (s 75 118)) ∷ []) (s 71 119)) ∷ (t_for Plain 4 (Some (t_first_declare ((t_with_value 4 (u I32) (cn I32 0 (s 142 143)) (s 137 143)) ∷
    []) (s 125 143))) (Some (t_compare cmp.Less (t_place (t_variable 4 (u I32) (s 145 147))) (cn I32 2 (s 150 151)) Uniform (s 145 151))) (Some
    (t_step op.Add I32 (t_variable 4 (u I32) (s 153 155)) (s 153 157))) 5 (t_block (t_braces (t_stmts ((t_block (t_braces (t_stmts ((t_declare
    ((t_with_value 5 (v I32) (t_program_index (s 172 184)) (s 167 184)) ∷ []) (s 163 185)) ∷ (t_do Coherent 6 (t_block (t_braces (t_stmts ((t_simple
    (t_step op.Add I32 (t_variable 5 (v I32) (s 192 194)) (s 192 196)) (s 192 197)) ∷ (t_simple (t_step op.Add I32 (t_variable 2 (u I16) (s 199 200))
    (s 199 202)) (s 199 203)) ∷ (t_simple (t_update op.Mul U32 (t_variable 2 (u I16) (s 204 205)) (t_cast (t_binary op.Mul (t_convert U32 (t_cast
    (t_choose (t_convert Truth (t_place (t_variable 2 (u I16) (s 211 212)))) (t_place (t_element (ar 0 (u I32) false) (t_binary op.And (t_cast
    (t_library lib.Select I32 (t_exprs ((t_convert Truth (t_place (t_variable 4 (u I32) (s 225 227)))) ∷ (cn I32 6 (s 229 230)) ∷ (t_convert I32
    (t_place (t_variable 2 (u I16) (s 232 233)))) ∷ [])) (u I32) (s 218 234)) (u I32) (s 217 235)) (cn I32 7 (s 238 239)) (u I32) (s 217 239)) (u I32)
    (s 215 240))) (cn I32 256 (s 243 246)) (u I32) (s 211 246)) (u I32) (s 210 247))) (cn U32 10 (s 250 257)) (u U32) (s 210 257)) (u U32) (s 209
    258)) (s 204 258)) (s 204 259)) ∷ (t_simple (t_update op.Xor U32 (t_element (ar 1 (u U32) false) (cn I32 9 (s 262 263)) (u U32) (s 260 264))
    (t_convert U32 (t_compare cmp.Greater (t_convert I32 (t_compare cmp.Greater (t_binary op.Add (t_library lib.Min I32 (t_exprs ((t_place (t_variable
    4 (u I32) (s 272 274))) ∷ (t_convert I32 (t_place (t_variable 2 (u I16) (s 276 277)))) ∷ [])) (u I32) (s 268 278)) (t_convert I32 (t_place
    (t_variable 2 (u I16) (s 281 282)))) (u I32) (s 268 282)) (t_convert I32 (t_place (t_variable 2 (u I16) (s 285 286)))) Uniform (s 268 286)))
    (t_library lib.Extract I32 (t_exprs ((t_convert I32 (t_library lib.All Truth (t_exprs ((t_convert Truth (t_place (t_element (ar 1 (u U32) false)
    (t_binary op.And (t_convert I32 (t_cast (t_unary un.Not (t_convert Truth (t_cast (t_place (t_variable 4 (u I32) (s 306 308))) (u I32) (s 305
    309))) (u Truth) (s 304 309)) (u Truth) (s 303 310))) (cn I32 7 (s 313 314)) (u I32) (s 303 314)) (u U32) (s 301 315)))) ∷ [])) (u Truth) (s 297
    316))) ∷ (cn I32 1 (s 318 319)) ∷ [])) (u I32) (s 289 320)) Uniform (s 268 320))) (s 260 320)) (s 260 321)) ∷ [])) (s 190 323))) (t_compare
    cmp.Less (t_place (t_variable 5 (v I32) (s 331 333))) (cn I32 1 (s 336 337)) Varying (s 331 337)) (s 186 339)) ∷ [])) (s 161 341))) ∷ [])) (s 159
    343))) (s 120 343)) ∷ (t_simple (t_value (t_packed_store (t_from (ar 0 (u I32) false) (cn I32 0 (s 367 368)) (s 365 366)) (t_convert I32 (t_place
    (t_variable 2 (u I16) (s 371 372)))) (s 344 373))) (s 344 374)) ∷ (t_simple (t_update op.And I32 (t_element (ar 0 (u I32) false) (t_program_index
    (s 377 389)) (v I32) (s 375 390)) (t_convert I32 (t_compare cmp.GreaterOrEqual (t_binary op.Shr (t_convert I32 (t_place (t_variable 2 (u I16) (s
    394 395)))) (t_unary un.Invert (t_cast (t_place (t_variable 3 (v I32) (s 401 402))) (v I32) (s 400 403)) (v I32) (s 399 403)) (v I32) (s 394 403))
    (t_library lib.ScanOr I32 (t_exprs ((cn I32 4 (s 425 426)) ∷ [])) (v I32) (s 407 427)) Varying (s 394 427))) (s 375 427)) (s 375 428)) ∷ (t_simple
    (t_update op.Add I32 (t_element (ar 0 (u I32) false) (t_program_index (s 431 443)) (v I32) (s 429 444)) (t_place (t_variable 3 (v I32) (s 448
    449))) (s 429 449)) (s 429 450)) ∷ [])) (s 69 452))) ∷ [])

abbrev arguments_6 : List Argument
arguments_6 = ((AnArray (rw I32 (3 ∷ 4294967291 ∷ 2147483646 ∷ 2512506092 ∷ 2147483646 ∷ 1 ∷ 0 ∷ 4294967295 ∷ []))) ∷ (AnArray (rw U32 (8 ∷ 0 ∷ 7 ∷ 6
    ∷ 1 ∷ 1839078688 ∷ 0 ∷ 4294967295 ∷ 4 ∷ 9 ∷ 208679789 ∷ 5 ∷ []))) ∷ (AValue (record { elem = I16; bits = 32593 })) ∷ [])

run_6_of_1 : run_of program_6 0 1 arguments_6 ≡ GoesOn ([])
unfolding digits number_to wrap_to amount not_zero
run_6_of_1 = refl

work_6_of_1 : work_of program_6 0 1 arguments_6 ≡ 78
unfolding digits number_to wrap_to amount not_zero
work_6_of_1 = refl

run_6_of_2 : run_of program_6 0 2 arguments_6 ≡ Ends ((rw I32 (0 ∷ 0 ∷ 0 ∷ 0 ∷ 0 ∷ 0 ∷ 0 ∷ 0 ∷ [])) ∷ (rw U32 (8 ∷ 0 ∷ 7 ∷ 6 ∷ 1 ∷ 1839078688 ∷ 0 ∷
    4294967295 ∷ 4 ∷ 9 ∷ 208679789 ∷ 5 ∷ [])) ∷ []) None ([])
unfolding digits number_to wrap_to amount not_zero
run_6_of_2 = refl

work_6_of_2 : work_of program_6 0 2 arguments_6 ≡ 156
unfolding digits number_to wrap_to amount not_zero
work_6_of_2 = refl

-- programs: library 8
-- export uniform uint16 f(uniform signed int a[], uniform int8 o[], uniform int32 n) { int x = max(n, false); n >>= - reduce_add(9) - (4 ^ 3 ? n ==
-- n : (n)); unsigned v1 = reduce_equal(shuffle(n > x, (unsigned int16) programCount, a[(programIndex ^ (n)) & 7])); a[programIndex] += x; return
-- ((bool) o[(all(programIndex)) & 7] ? n : (n)); }
abbrev program_7 : Program
program_7 = pr W8 ((fn (Some U16) (Some (u U16)) ((vr (Given I32) false) ∷ (vr (Given I8) false) ∷ (vr (AVariable (u I32)) false) ∷ (vr (AVariable (v
    I32)) false) ∷ (vr (AVariable (v U32)) false) ∷ []) (t_braces (t_stmts ((t_declare ((t_with_value 3 (v I32) (t_library lib.Max I32 (t_exprs
    ((t_place (t_variable 2 (u I32) (s 97 98))) ∷ (t_convert I32 (cn Truth 0 (s 100 105))) ∷ [])) (u I32) (s 93 106)) (s 89 106)) ∷ []) (s 85 107)) ∷
    (t_simple (t_update op.Shr I64 (t_variable 2 (u I32) (s 108 109)) (t_binary op.Sub (t_unary un.Negate (t_library lib.ReduceAdd I32 (t_exprs ((cn
    I32 9 (s 127 128)) ∷ [])) (u I64) (s 116 129)) (u I64) (s 114 129)) (t_convert I64 (t_cast (t_choose (t_convert Truth (t_binary op.Xor (cn I32 4
    (s 133 134)) (cn I32 3 (s 137 138)) (u I32) (s 133 138))) (t_convert I32 (t_compare cmp.Equal (t_place (t_variable 2 (u I32) (s 141 142)))
    (t_place (t_variable 2 (u I32) (s 146 147))) Uniform (s 141 147))) (t_cast (t_place (t_variable 2 (u I32) (s 151 152))) (u I32) (s 150 153)) (u
    I32) (s 133 153)) (u I32) (s 132 154))) (u I64) (s 114 154)) (s 108 154)) (s 108 155)) ∷ (t_declare ((t_with_value 4 (v U32) (t_convert U32
    (t_library lib.ReduceEqual I32 (t_exprs ((t_library lib.ShuffleTwo I32 (t_exprs ((t_convert I32 (t_compare cmp.Greater (t_place (t_variable 2 (u
    I32) (s 191 192))) (t_place (t_variable 3 (v I32) (s 195 196))) Varying (s 191 196))) ∷ (t_convert I32 (t_cast (t_convert U16 (cn I32 8 (s 215
    227))) (u U16) (s 198 227))) ∷ (t_place (t_element (ar 0 (u I32) false) (t_binary op.And (t_cast (t_binary op.Xor (t_program_index (s 232 244))
    (t_cast (t_place (t_variable 2 (u I32) (s 248 249))) (u I32) (s 247 250)) (v I32) (s 232 250)) (v I32) (s 231 251)) (cn I32 7 (s 254 255)) (v I32)
    (s 231 255)) (v I32) (s 229 256))) ∷ [])) (v I32) (s 183 257)) ∷ [])) (u Truth) (s 170 258))) (s 165 258)) ∷ []) (s 156 259)) ∷ (t_simple
    (t_update op.Add I32 (t_element (ar 0 (u I32) false) (t_program_index (s 262 274)) (v I32) (s 260 275)) (t_place (t_variable 3 (v I32) (s 279
    280))) (s 260 280)) (s 260 281)) ∷ (t_return (s 282 288) (Some (t_convert U16 (t_cast (t_choose (t_cast (t_convert Truth (t_place (t_element (ar 1
    (u I8) false) (t_binary op.And (t_convert I32 (t_cast (t_library lib.All Truth (t_exprs ((t_convert Truth (t_program_index (s 304 316))) ∷ [])) (u
    Truth) (s 300 317)) (u Truth) (s 299 318))) (cn I32 7 (s 321 322)) (u I32) (s 299 322)) (u I8) (s 297 323)))) (u Truth) (s 290 323)) (t_place
    (t_variable 2 (u I32) (s 326 327))) (t_cast (t_place (t_variable 2 (u I32) (s 331 332))) (u I32) (s 330 333)) (u I32) (s 290 333)) (u I32) (s 289
    334)))) (s 282 335)) ∷ [])) (s 83 337))) ∷ [])

abbrev arguments_7 : List Argument
arguments_7 = ((AnArray (rw I32 (4294967295 ∷ 2147483646 ∷ 4294967289 ∷ 4294967295 ∷ 3586063457 ∷ 6 ∷ 4294967290 ∷ 4294967288 ∷ 586843825 ∷ 4294967287
    ∷ 2147483648 ∷ 2147483646 ∷ []))) ∷ (AnArray (rw I8 (253 ∷ 69 ∷ 255 ∷ 126 ∷ 9 ∷ 74 ∷ 250 ∷ 129 ∷ 255 ∷ []))) ∷ (AValue
    (record { elem = I32; bits = 1821507660 })) ∷ [])

run_7_of_0 : run_of program_7 0 0 arguments_7 ≡ Ends ((rw I32 (1821507659 ∷ 3968991306 ∷ 1821507653 ∷ 1821507659 ∷ 1112603821 ∷ 1821507666 ∷
    1821507654 ∷ 1821507652 ∷ 586843825 ∷ 4294967287 ∷ 2147483648 ∷ 2147483646 ∷ [])) ∷ (rw I8 (253 ∷ 69 ∷ 255 ∷ 126 ∷ 9 ∷ 74 ∷ 250 ∷ 129 ∷ 255 ∷ []))
    ∷ []) (Some (record { elem = U16; bits = 0 })) ([])
unfolding digits number_to wrap_to amount not_zero
run_7_of_0 = refl

work_7_of_0 : work_of program_7 0 0 arguments_7 ≡ 52
unfolding digits number_to wrap_to amount not_zero
work_7_of_0 = refl

-- programs: library 20
-- export uniform signed f(uniform signed int a[], uniform signed int64 o[]) { int x = (varying signed) programIndex <= 5; int32 t1[8];
-- a[programIndex] -= (shuffle(x, x, x)) >= o[programIndex] && x <= (x) / (x | 1); if (a[0]) { if (reduce_max(max(7, 1))) { uniform unsigned
-- int16 t2[1]; } } signed v3, v4 = shift(programCount, -7); o[programIndex] = x; return min(- a[(extract(o[(programIndex ^ (~(a[programIndex])))
-- & 3], o[(abs(o[4])) & 3])) & 3], o[(0x0u << o[(o[5]) & 3]) & 3] ^ a[(a[(0x96d2f28u) & 3]) & 3]); }
abbrev program_8 : Program
program_8 = pr W4 ((fn (Some I32) (Some (u I32)) ((vr (Given I32) false) ∷ (vr (Given I64) false) ∷ (vr (AVariable (v I32)) false) ∷ (vr (Local (v
    I32) 8) false) ∷ (vr (Local (u U16) 1) false) ∷ (vr (AVariable (v I32)) false) ∷ (vr (AVariable (v I32)) false) ∷ []) (t_braces (t_stmts
    ((t_declare ((t_with_value 2 (v I32) (t_convert I32 (t_compare cmp.LessOrEqual (t_cast (t_program_index (s 101 113)) (v I32) (s 84 113)) (cn I32 5
    (s 117 118)) Varying (s 84 118))) (s 80 118)) ∷ []) (s 76 119)) ∷ (t_declare ((t_with_size (ar 3 (v I32) false) (s 126 131)) ∷ []) (s 120 132)) ∷
    (t_simple (t_update op.Sub I32 (t_element (ar 0 (u I32) false) (t_program_index (s 135 147)) (v I32) (s 133 148)) (t_convert I32 (t_logic
    logic.And (t_compare cmp.GreaterOrEqual (t_convert I64 (t_cast (t_library lib.ShuffleTwo I32 (t_exprs ((t_place (t_variable 2 (v I32) (s 161
    162))) ∷ (t_place (t_variable 2 (v I32) (s 164 165))) ∷ (t_place (t_variable 2 (v I32) (s 167 168))) ∷ [])) (v I32) (s 153 169)) (v I32) (s 152
    170))) (t_place (t_element (ar 1 (u I64) false) (t_program_index (s 176 188)) (v I64) (s 174 189))) Varying (s 152 189)) (t_compare
    cmp.LessOrEqual (t_place (t_variable 2 (v I32) (s 193 194))) (t_binary op.Div (t_cast (t_place (t_variable 2 (v I32) (s 199 200))) (v I32) (s 198
    201)) (t_cast (t_binary op.Or (t_place (t_variable 2 (v I32) (s 205 206))) (cn I32 1 (s 209 210)) (v I32) (s 205 210)) (v I32) (s 204 211)) (v
    I32) (s 198 211)) Varying (s 193 211)) Varying (s 152 211))) (s 133 211)) (s 133 212)) ∷ (t_if Plain 4 (t_convert Truth (t_place (t_element (ar 0
    (u I32) false) (cn I32 0 (s 219 220)) (u I32) (s 217 221)))) (t_block (t_braces (t_stmts ((t_if Plain 4 (t_convert Truth (t_library lib.ReduceMax
    I32 (t_exprs ((t_library lib.Max I32 (t_exprs ((cn I32 7 (s 244 245)) ∷ (cn I32 1 (s 247 248)) ∷ [])) (u I32) (s 240 249)) ∷ [])) (u I32) (s 229
    250))) (t_block (t_braces (t_stmts ((t_declare ((t_with_size (ar 4 (u U16) false) (s 277 282)) ∷ []) (s 254 283)) ∷ [])) (s 252 285))) (s 225
    285)) ∷ [])) (s 223 287))) (s 213 287)) ∷ (t_declare ((t_plain 5 (v I32) (s 295 297)) ∷ (t_with_value 6 (v I32) (t_library lib.Shift I32 (t_exprs
    ((cn I32 4 (s 310 322)) ∷ (t_unary un.Negate (cn I32 7 (s 325 326)) (u I32) (s 324 326)) ∷ [])) (v I32) (s 304 327)) (s 299 327)) ∷ []) (s 288
    328)) ∷ (t_simple (t_assign (t_element (ar 1 (u I64) false) (t_program_index (s 331 343)) (v I64) (s 329 344)) (t_convert I64 (t_place (t_variable
    2 (v I32) (s 347 348)))) (s 329 348)) (s 329 349)) ∷ (t_return (s 350 356) (Some (t_convert I32 (t_library lib.Min I64 (t_exprs ((t_convert I64
    (t_unary un.Negate (t_place (t_element (ar 0 (u I32) false) (t_binary op.And (t_cast (t_library lib.Extract I64 (t_exprs ((t_place (t_element (ar
    1 (u I64) false) (t_binary op.And (t_cast (t_binary op.Xor (t_program_index (s 377 389)) (t_cast (t_unary un.Invert (t_cast (t_place (t_element
    (ar 0 (u I32) false) (t_program_index (s 397 409)) (v I32) (s 395 410))) (v I32) (s 394 411)) (v I32) (s 393 411)) (v I32) (s 392 412)) (v I32) (s
    377 412)) (v I32) (s 376 413)) (cn I32 3 (s 416 417)) (v I32) (s 376 417)) (v I64) (s 374 418))) ∷ (t_convert I32 (t_place (t_element (ar 1 (u
    I64) false) (t_binary op.And (t_cast (t_library lib.Abs I64 (t_exprs ((t_place (t_element (ar 1 (u I64) false) (cn I32 4 (s 429 430)) (u I64) (s
    427 431))) ∷ [])) (u I64) (s 423 432)) (u I64) (s 422 433)) (t_convert I64 (cn I32 3 (s 436 437))) (u I64) (s 422 437)) (u I64) (s 420 438)))) ∷
    [])) (u I64) (s 366 439)) (u I64) (s 365 440)) (t_convert I64 (cn I32 3 (s 443 444))) (u I64) (s 365 444)) (u I32) (s 363 445))) (u I32) (s 361
    445))) ∷ (t_binary op.Xor (t_place (t_element (ar 1 (u I64) false) (t_binary op.And (t_cast (t_binary op.Shl (t_convert I64 (cn U32 0 (s 450
    454))) (t_place (t_element (ar 1 (u I64) false) (t_binary op.And (t_cast (t_place (t_element (ar 1 (u I64) false) (cn I32 5 (s 463 464)) (u I64)
    (s 461 465))) (u I64) (s 460 466)) (t_convert I64 (cn I32 3 (s 469 470))) (u I64) (s 460 470)) (u I64) (s 458 471))) (u I64) (s 450 471)) (u I64)
    (s 449 472)) (t_convert I64 (cn I32 3 (s 475 476))) (u I64) (s 449 476)) (u I64) (s 447 477))) (t_convert I64 (t_place (t_element (ar 0 (u I32)
    false) (t_binary op.And (t_cast (t_place (t_element (ar 0 (u I32) false) (t_binary op.And (t_cast (cn U32 158150440 (s 486 496)) (u U32) (s 485
    497)) (t_convert U32 (cn I32 3 (s 500 501))) (u U32) (s 485 501)) (u I32) (s 483 502))) (u I32) (s 482 503)) (cn I32 3 (s 506 507)) (u I32) (s 482
    507)) (u I32) (s 480 508)))) (u I64) (s 447 508)) ∷ [])) (u I64) (s 357 509)))) (s 350 510)) ∷ [])) (s 74 512))) ∷ [])

abbrev arguments_8 : List Argument
arguments_8 = ((AnArray (rw I32 (4294967288 ∷ 2147483649 ∷ 6 ∷ 4294967288 ∷ 4294967287 ∷ []))) ∷ (AnArray (rw I64 (9223372036854775806 ∷
    9223372036854775808 ∷ 7 ∷ 9223372036854775807 ∷ 7 ∷ 9223372036854775808 ∷ []))) ∷ [])

run_8_of_0 : run_of program_8 0 0 arguments_8 ≡ Ends ((rw I32 (4294967288 ∷ 2147483648 ∷ 6 ∷ 4294967288 ∷ 4294967287 ∷ [])) ∷ (rw I64 (1 ∷ 1 ∷ 1 ∷ 1 ∷
    7 ∷ 9223372036854775808 ∷ [])) ∷ []) (Some (record { elem = I32; bits = 2147483648 })) ([])
unfolding digits number_to wrap_to amount not_zero
run_8_of_0 = refl

work_8_of_0 : work_of program_8 0 0 arguments_8 ≡ 101
unfolding digits number_to wrap_to amount not_zero
work_8_of_0 = refl

-- programs: library 27
-- export void f(uniform signed a[], uniform signed int8 o[], uniform signed int z[], uniform signed int8 n) { int x = rotate((0x5128af78) %
-- (programIndex | 1), 0); { uniform int k1 = 0; cdo { k1++; packed_store_active(&a[1], k1 & k1 | x); } while (k1 < 3); } n =
-- packed_load_active(&a, &x); o[programIndex] = x; }
abbrev program_9 : Program
program_9 = pr W8 ((fn None None ((vr (Given I32) false) ∷ (vr (Given I8) false) ∷ (vr (Given I32) false) ∷ (vr (AVariable (u I8)) false) ∷ (vr
    (AVariable (v I32)) false) ∷ (vr (AVariable (u I32)) false) ∷ []) (t_braces (t_stmts ((t_declare ((t_with_value 4 (v I32) (t_library lib.Rotate
    I32 (t_exprs ((t_binary op.Rem (t_cast (cn I32 1361620856 (s 124 134)) (u I32) (s 123 135)) (t_cast (t_binary op.Or (t_program_index (s 139 151))
    (cn I32 1 (s 154 155)) (v I32) (s 139 155)) (v I32) (s 138 156)) (v I32) (s 123 156)) ∷ (cn I32 0 (s 158 159)) ∷ [])) (v I32) (s 116 160)) (s 112
    160)) ∷ []) (s 108 161)) ∷ (t_block (t_braces (t_stmts ((t_declare ((t_with_value 5 (u I32) (cn I32 0 (s 181 182)) (s 176 182)) ∷ []) (s 164 183))
    ∷ (t_do Coherent 6 (t_block (t_braces (t_stmts ((t_simple (t_step op.Add I32 (t_variable 5 (u I32) (s 190 192)) (s 190 194)) (s 190 195)) ∷
    (t_simple (t_value (t_packed_store (t_from (ar 0 (u I32) false) (cn I32 1 (s 220 221)) (s 218 219)) (t_binary op.Or (t_binary op.And (t_place
    (t_variable 5 (u I32) (s 224 226))) (t_place (t_variable 5 (u I32) (s 229 231))) (u I32) (s 224 231)) (t_place (t_variable 4 (v I32) (s 234 235)))
    (v I32) (s 224 235)) (s 197 236))) (s 197 237)) ∷ [])) (s 188 239))) (t_compare cmp.Less (t_place (t_variable 5 (u I32) (s 247 249))) (cn I32 3 (s
    252 253)) Uniform (s 247 253)) (s 184 255)) ∷ [])) (s 162 257))) ∷ (t_simple (t_assign (t_variable 3 (u I8) (s 258 259)) (t_convert I8
    (t_packed_load (t_whole (ar 0 (u I32) false) (s 282 283)) 4 (s 262 288))) (s 258 288)) (s 258 289)) ∷ (t_simple (t_assign (t_element (ar 1 (u I8)
    false) (t_program_index (s 292 304)) (v I8) (s 290 305)) (t_convert I8 (t_place (t_variable 4 (v I32) (s 308 309)))) (s 290 309)) (s 290 310)) ∷
    [])) (s 106 312))) ∷ [])

abbrev arguments_9 : List Argument
arguments_9 = ((AnArray (rw I32 (4 ∷ 3 ∷ 4294967292 ∷ 3 ∷ 4294967295 ∷ 879162356 ∷ 2147483648 ∷ 4294967287 ∷ 0 ∷ []))) ∷ (AnArray (rw I8 (5 ∷ 255 ∷
    255 ∷ 129 ∷ 7 ∷ 127 ∷ 4 ∷ 8 ∷ 209 ∷ 1 ∷ 251 ∷ []))) ∷ (AnArray (rw I32 (6 ∷ 2147483649 ∷ 1753876555 ∷ 2296136937 ∷ 0 ∷ 2 ∷ []))) ∷ (AValue
    (record { elem = I8; bits = 126 })) ∷ [])

run_9_of_0 : run_of program_9 0 0 arguments_9 ≡ GoesOn ([])
unfolding digits number_to wrap_to amount not_zero
run_9_of_0 = refl

work_9_of_0 : work_of program_9 0 0 arguments_9 ≡ 17
unfolding digits number_to wrap_to amount not_zero
work_9_of_0 = refl

run_9_of_1 : run_of program_9 0 1 arguments_9 ≡ GoesOn ([])
unfolding digits number_to wrap_to amount not_zero
run_9_of_1 = refl

work_9_of_1 : work_of program_9 0 1 arguments_9 ≡ 33
unfolding digits number_to wrap_to amount not_zero
work_9_of_1 = refl

-- programs: library 28
-- export void f(uniform int a[], uniform unsigned int64 o[], uniform signed n) { int x = clamp((n) / (n | 1), programIndex, abs(n)); if (x) { x &=
-- (int32) (programIndex ? x : x) << (int) any(n); x = n; a[programIndex] <<= - all(x < o[programIndex]); } else { if (n) { ++n; uniform signed
-- int v1; } } n = 256 >> (extract(n, n) ? n : n - o[(~(0x772b5e8au)) & 3]); o[programIndex] = x; }
abbrev program_10 : Program
program_10 = pr W4 ((fn None None ((vr (Given I32) false) ∷ (vr (Given U64) false) ∷ (vr (AVariable (u I32)) false) ∷ (vr (AVariable (v I32)) false) ∷
    (vr (AVariable (u I32)) false) ∷ []) (t_braces (t_stmts ((t_declare ((t_with_value 3 (v I32) (t_library lib.Clamp I32 (t_exprs ((t_binary op.Div
    (t_cast (t_place (t_variable 2 (u I32) (s 94 95))) (u I32) (s 93 96)) (t_cast (t_binary op.Or (t_place (t_variable 2 (u I32) (s 100 101))) (cn I32
    1 (s 104 105)) (u I32) (s 100 105)) (u I32) (s 99 106)) (u I32) (s 93 106)) ∷ (t_program_index (s 108 120)) ∷ (t_library lib.Abs I32 (t_exprs
    ((t_place (t_variable 2 (u I32) (s 126 127))) ∷ [])) (u I32) (s 122 128)) ∷ [])) (v I32) (s 87 129)) (s 83 129)) ∷ []) (s 79 130)) ∷ (t_if_else
    Plain 4 (t_convert Truth (t_place (t_variable 3 (v I32) (s 135 136)))) (t_block (t_braces (t_stmts ((t_simple (t_update op.And I32 (t_variable 3
    (v I32) (s 140 141)) (t_binary op.Shl (t_cast (t_cast (t_choose (t_convert Truth (t_program_index (s 154 166))) (t_place (t_variable 3 (v I32) (s
    169 170))) (t_place (t_variable 3 (v I32) (s 173 174))) (v I32) (s 154 174)) (v I32) (s 153 175)) (v I32) (s 145 175)) (t_cast (t_convert I32
    (t_library lib.Any Truth (t_exprs ((t_convert Truth (t_place (t_variable 2 (u I32) (s 189 190)))) ∷ [])) (u Truth) (s 185 191))) (u I32) (s 179
    191)) (v I32) (s 145 191)) (s 140 191)) (s 140 192)) ∷ (t_simple (t_assign (t_variable 3 (v I32) (s 193 194)) (t_place (t_variable 2 (u I32) (s
    197 198))) (s 193 198)) (s 193 199)) ∷ (t_simple (t_update op.Shl I32 (t_element (ar 0 (u I32) false) (t_program_index (s 202 214)) (v I32) (s 200
    215)) (t_unary un.Negate (t_convert I32 (t_library lib.All Truth (t_exprs ((t_compare cmp.Less (t_convert U64 (t_place (t_variable 3 (v I32) (s
    226 227)))) (t_place (t_element (ar 1 (u U64) false) (t_program_index (s 232 244)) (v U64) (s 230 245))) Varying (s 226 245)) ∷ [])) (u Truth) (s
    222 246))) (u I32) (s 220 246)) (s 200 246)) (s 200 247)) ∷ [])) (s 138 249))) (t_block (t_braces (t_stmts ((t_if Plain 4 (t_convert Truth
    (t_place (t_variable 2 (u I32) (s 261 262)))) (t_block (t_braces (t_stmts ((t_simple (t_step op.Add I32 (t_variable 2 (u I32) (s 268 269)) (s 266
    269)) (s 266 270)) ∷ (t_declare ((t_plain 4 (u I32) (s 290 292)) ∷ []) (s 271 293)) ∷ [])) (s 264 295))) (s 257 295)) ∷ [])) (s 255 297))) (s 131
    297)) ∷ (t_simple (t_assign (t_variable 2 (u I32) (s 298 299)) (t_convert I32 (t_binary op.Shr (t_convert U64 (cn I32 256 (s 302 305))) (t_cast
    (t_choose (t_convert Truth (t_library lib.Extract I32 (t_exprs ((t_place (t_variable 2 (u I32) (s 318 319))) ∷ (t_place (t_variable 2 (u I32) (s
    321 322))) ∷ [])) (u I32) (s 310 323))) (t_convert U64 (t_place (t_variable 2 (u I32) (s 326 327)))) (t_binary op.Sub (t_convert U64 (t_place
    (t_variable 2 (u I32) (s 330 331)))) (t_place (t_element (ar 1 (u U64) false) (t_binary op.And (t_cast (t_unary un.Invert (t_cast (cn U32
    1999330954 (s 339 350)) (u U32) (s 338 351)) (u U32) (s 337 351)) (u U32) (s 336 352)) (t_convert U32 (cn I32 3 (s 355 356))) (u U32) (s 336 356))
    (u U64) (s 334 357))) (u U64) (s 330 357)) (u U64) (s 310 357)) (u U64) (s 309 358)) (u U64) (s 302 358))) (s 298 358)) (s 298 359)) ∷ (t_simple
    (t_assign (t_element (ar 1 (u U64) false) (t_program_index (s 362 374)) (v U64) (s 360 375)) (t_convert U64 (t_place (t_variable 3 (v I32) (s 378
    379)))) (s 360 379)) (s 360 380)) ∷ [])) (s 77 382))) ∷ [])

abbrev arguments_10 : List Argument
arguments_10 = ((AnArray (rw I32 (4 ∷ 8 ∷ 2693324497 ∷ 6 ∷ []))) ∷ (AnArray (rw U64 (7190413168871913254 ∷ 0 ∷ 4 ∷ 18446744073709551614 ∷ []))) ∷
    (AValue (record { elem = I32; bits = 4 })) ∷ [])

run_10_of_0 : run_of program_10 0 0 arguments_10 ≡ Ends ((rw I32 (4 ∷ 8 ∷ 2693324497 ∷ 6 ∷ [])) ∷ (rw U64 (0 ∷ 4 ∷ 4 ∷ 4 ∷ [])) ∷ []) None ([])
unfolding digits number_to wrap_to amount not_zero
run_10_of_0 = refl

work_10_of_0 : work_of program_10 0 0 arguments_10 ≡ 62
unfolding digits number_to wrap_to amount not_zero
work_10_of_0 = refl

-- programs: library 34
-- export void f(uniform signed a[], uniform int64 o[]) { int x = 15Lu ^ o[(programIndex ^ (insert(o[programIndex], programCount, 4))) & 7] !=
-- reduce_equal(a[(programIndex ^ (a[(programIndex ^ (a[programIndex])) & 7])) & 7]); packed_load_active(&a[0], &x); uniform signed int8 v1, v2 =
-- !(none(any(x))); packed_store_active(&a[1], any(v1 ^ programIndex)); if (x << programIndex < v2) { if (a[((v1)) & 7] >> all(3)) {
-- a[(programIndex) & 7] |= v1; o[(reduce_min(o[programIndex])) & 7] <<= v2; } else { v1 = packed_store_active(a, (v2 ? (v2 ? v1 : programIndex)
-- : (x))); } } a[programIndex] += x; }
abbrev program_11 : Program
program_11 = pr W8 ((fn None None ((vr (Given I32) false) ∷ (vr (Given I64) false) ∷ (vr (AVariable (v I32)) false) ∷ (vr (AVariable (u I8)) false) ∷
    (vr (AVariable (u I8)) false) ∷ []) (t_braces (t_stmts ((t_declare ((t_with_value 2 (v I32) (t_convert I32 (t_binary op.Xor (cn U64 15 (s 63 67))
    (t_convert U64 (t_compare cmp.NotEqual (t_place (t_element (ar 1 (u I64) false) (t_binary op.And (t_cast (t_binary op.Xor (t_convert I64
    (t_program_index (s 73 85))) (t_cast (t_library lib.Insert I64 (t_exprs ((t_place (t_element (ar 1 (u I64) false) (t_program_index (s 98 110)) (v
    I64) (s 96 111))) ∷ (cn I32 8 (s 113 125)) ∷ (t_convert I64 (cn I32 4 (s 127 128))) ∷ [])) (v I64) (s 89 129)) (v I64) (s 88 130)) (v I64) (s 73
    130)) (v I64) (s 72 131)) (t_convert I64 (cn I32 7 (s 134 135))) (v I64) (s 72 135)) (v I64) (s 70 136))) (t_convert I64 (t_library
    lib.ReduceEqual I32 (t_exprs ((t_place (t_element (ar 0 (u I32) false) (t_binary op.And (t_cast (t_binary op.Xor (t_program_index (s 156 168))
    (t_cast (t_place (t_element (ar 0 (u I32) false) (t_binary op.And (t_cast (t_binary op.Xor (t_program_index (s 175 187)) (t_cast (t_place
    (t_element (ar 0 (u I32) false) (t_program_index (s 193 205)) (v I32) (s 191 206))) (v I32) (s 190 207)) (v I32) (s 175 207)) (v I32) (s 174 208))
    (cn I32 7 (s 211 212)) (v I32) (s 174 212)) (v I32) (s 172 213))) (v I32) (s 171 214)) (v I32) (s 156 214)) (v I32) (s 155 215)) (cn I32 7 (s 218
    219)) (v I32) (s 155 219)) (v I32) (s 153 220))) ∷ [])) (u Truth) (s 140 221))) Varying (s 70 221))) (v U64) (s 63 221))) (s 59 221)) ∷ []) (s 55
    222)) ∷ (t_simple (t_value (t_packed_load (t_from (ar 0 (u I32) false) (cn I32 0 (s 245 246)) (s 243 244)) 2 (s 223 252))) (s 223 253)) ∷
    (t_declare ((t_plain 3 (u I8) (s 274 276)) ∷ (t_with_value 4 (u I8) (t_convert I8 (t_unary un.Not (t_cast (t_library lib.None Truth (t_exprs
    ((t_library lib.Any Truth (t_exprs ((t_convert Truth (t_place (t_variable 2 (v I32) (s 294 295)))) ∷ [])) (u Truth) (s 290 296)) ∷ [])) (u Truth)
    (s 285 297)) (u Truth) (s 284 298)) (u Truth) (s 283 298))) (s 278 298)) ∷ []) (s 254 299)) ∷ (t_simple (t_value (t_packed_store (t_from (ar 0 (u
    I32) false) (cn I32 1 (s 323 324)) (s 321 322)) (t_convert I32 (t_library lib.Any Truth (t_exprs ((t_convert Truth (t_binary op.Xor (t_convert I32
    (t_place (t_variable 3 (u I8) (s 331 333)))) (t_program_index (s 336 348)) (v I32) (s 331 348))) ∷ [])) (u Truth) (s 327 349))) (s 300 350))) (s
    300 351)) ∷ (t_if Plain 5 (t_compare cmp.Less (t_binary op.Shl (t_place (t_variable 2 (v I32) (s 356 357))) (t_program_index (s 361 373)) (v I32)
    (s 356 373)) (t_convert I32 (t_place (t_variable 4 (u I8) (s 376 378)))) Varying (s 356 378)) (t_block (t_braces (t_stmts ((t_if_else Plain 5
    (t_convert Truth (t_binary op.Shr (t_place (t_element (ar 0 (u I32) false) (t_binary op.And (t_convert I32 (t_cast (t_cast (t_place (t_variable 3
    (u I8) (s 390 392))) (u I8) (s 389 393)) (u I8) (s 388 394))) (cn I32 7 (s 397 398)) (u I32) (s 388 398)) (u I32) (s 386 399))) (t_convert I32
    (t_library lib.All Truth (t_exprs ((t_convert Truth (cn I32 3 (s 407 408))) ∷ [])) (u Truth) (s 403 409))) (u I32) (s 386 409))) (t_block
    (t_braces (t_stmts ((t_simple (t_update op.Or I32 (t_element (ar 0 (u I32) false) (t_binary op.And (t_cast (t_program_index (s 416 428)) (v I32)
    (s 415 429)) (cn I32 7 (s 432 433)) (v I32) (s 415 433)) (v I32) (s 413 434)) (t_convert I32 (t_place (t_variable 3 (u I8) (s 438 440)))) (s 413
    440)) (s 413 441)) ∷ (t_simple (t_update op.Shl I64 (t_element (ar 1 (u I64) false) (t_binary op.And (t_cast (t_library lib.ReduceMin I64 (t_exprs
    ((t_place (t_element (ar 1 (u I64) false) (t_program_index (s 458 470)) (v I64) (s 456 471))) ∷ [])) (u I64) (s 445 472)) (u I64) (s 444 473))
    (t_convert I64 (cn I32 7 (s 476 477))) (u I64) (s 444 477)) (u I64) (s 442 478)) (t_convert I64 (t_place (t_variable 4 (u I8) (s 483 485)))) (s
    442 485)) (s 442 486)) ∷ [])) (s 411 488))) (t_block (t_braces (t_stmts ((t_simple (t_assign (t_variable 3 (u I8) (s 496 498)) (t_convert I8
    (t_packed_store (t_whole (ar 0 (u I32) false) (s 521 522)) (t_cast (t_choose (t_convert Truth (t_place (t_variable 4 (u I8) (s 525 527)))) (t_cast
    (t_choose (t_convert Truth (t_place (t_variable 4 (u I8) (s 531 533)))) (t_convert I32 (t_place (t_variable 3 (u I8) (s 536 538))))
    (t_program_index (s 541 553)) (v I32) (s 531 553)) (v I32) (s 530 554)) (t_cast (t_place (t_variable 2 (v I32) (s 558 559))) (v I32) (s 557 560))
    (v I32) (s 525 560)) (v I32) (s 524 561)) (s 501 562))) (s 496 562)) (s 496 563)) ∷ [])) (s 494 565))) (s 382 565)) ∷ [])) (s 380 567))) (s 352
    567)) ∷ (t_simple (t_update op.Add I32 (t_element (ar 0 (u I32) false) (t_program_index (s 570 582)) (v I32) (s 568 583)) (t_place (t_variable 2
    (v I32) (s 587 588))) (s 568 588)) (s 568 589)) ∷ [])) (s 53 591))) ∷ [])

abbrev arguments_11 : List Argument
arguments_11 = ((AnArray (rw I32 (4294967289 ∷ 2985485074 ∷ 2147483646 ∷ 4294967291 ∷ 2147483646 ∷ 4294967289 ∷ 4294967292 ∷ 3332691640 ∷ 533241203 ∷
    []))) ∷ (AnArray (rw I64 (8 ∷ 9223372036854775807 ∷ 18446744073709551612 ∷ 9223372036854775808 ∷ 6 ∷ 12090986112278981656 ∷ 18446744073709551610 ∷
    1 ∷ 2 ∷ []))) ∷ [])

run_11_of_0 : run_of program_11 0 0 arguments_11 ≡ Ends ((rw I32 (4294967282 ∷ 2985485075 ∷ 2147483647 ∷ 4294967292 ∷ 2147483647 ∷ 4294967290 ∷
    4294967293 ∷ 3332691641 ∷ 1 ∷ [])) ∷ (rw I64 (16 ∷ 9223372036854775807 ∷ 18446744073709551612 ∷ 9223372036854775808 ∷ 6 ∷ 12090986112278981656 ∷
    18446744073709551610 ∷ 1 ∷ 2 ∷ [])) ∷ []) None ([])
unfolding digits number_to wrap_to amount not_zero
run_11_of_0 = refl

work_11_of_0 : work_of program_11 0 0 arguments_11 ≡ 94
unfolding digits number_to wrap_to amount not_zero
work_11_of_0 = refl
