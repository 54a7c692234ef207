-- Programs of everything: what each program does in so many turns and what its work is, against an independent implementation.
use Rattle.std.specs.Prelude.{◌≡◌, true, false, List, [], ◌∷◌, Some, None}
use Rattle.std.proofs.Common.{refl}
use Rattle.std.specs.Fmt.{digits}
use Rattle.isp_base.specs.Values.{number_to, wrap_to, amount, not_zero}
use Rattle.isp_base.specs.Outcomes.{Ends, GoesOn}
use Rattle.isp_base.specs.declared.types.Gang.TheVariants.{W4, W8, W16}
use Rattle.isp_base.specs.declared.types.Elem.TheVariants.{Bool as Truth, I8, U8, I16, U16, I32, U32, I64, U64}
use Rattle.isp_base.specs.declared.types.Rate.TheVariants.{Uniform, Varying}
use Rattle.isp_base.specs.declared.operators.BinOp.TheVariants as op
use Rattle.isp_base.specs.declared.operators.UnaryOp.TheVariants as un
use Rattle.isp_base.specs.declared.operators.Compare.TheVariants as cmp
use Rattle.isp_base.specs.declared.signature.Argument.{Argument}
use Rattle.isp_base.specs.declared.signature.Argument.TheVariants.{Array as AnArray, Value as AValue}
use Rattle.isp_tree.specs.declared.stmt.Form.TheVariants.{Plain}
use Rattle.isp_tree.specs.declared.stmt.Jump.TheVariants.{Continue}
use Rattle.isp_typed.specs.declared.library.Library.TheVariants as lib
use Rattle.isp_typed.specs.declared.variable.Holds.TheVariants.{Value as AVariable, Given, Local}
use Rattle.isp_typed.specs.declared.variable.Logic.TheVariants as logic
use Rattle.isp_typed.specs.Typed.{t_program_index, t_place, t_convert, t_cast, t_unary, t_binary, t_compare, t_logic, t_choose, t_call, t_library, t_packed_load, t_variable, t_element, t_from, t_by_value, t_by_name, t_called, t_arguments, t_exprs}
use Rattle.isp_typed.specs.Typed.{t_plain, t_with_value, t_with_size, t_value, t_run, t_assign, t_update, t_step, t_first_declare}
use Rattle.isp_typed.specs.Typed.{t_block, t_declare, t_simple, t_if, t_do, t_for, t_foreach, t_foreach_active, t_unmasked, t_jump, t_return, t_print, t_braces, t_stmts, Program}
use Rattle.isp_meaning.specs.Runs.{run_of, work_of}
use Rattle.isp_tests_meaning.specs.Terms.{s, u, v, cn, ar, rg, vr, rw, fn, pr}

-- export uniform signed int f(uniform int32 a[], uniform int16 o[], uniform signed int8 n) { int x = 0xd << programIndex + n != 5; o[(programIndex ^
-- (o[programIndex] << n)) & 7] -= (programIndex | programIndex == abs(n)); return n; o[programIndex] = x; return max(n && 5, (0) / (((a[(! o[4]) & 7]
-- | 1)) | 1)); }
-- void g0() { unmasked { ; ; uint32 v1 = programIndex; } }
-- uniform int16 g1() { ; uniform int8 v2 = reduce_add((programIndex ? programIndex : programIndex)); if (! v2) return - v2 ^ 7; return extract(3, 2) << (v2 ? 1 : v2); }
abbrev program_5 : Program
program_5 = pr W8 ((fn (Some I32) (Some (u I32))
    ((vr (Given I32) false) ∷ (vr (Given I16) false) ∷ (vr (AVariable (u I8)) false) ∷ (vr (AVariable (v I32)) false) ∷ [])
    (t_braces (t_stmts ((t_declare ((t_with_value 3 (v I32)
    (t_convert I32 (t_compare cmp.NotEqual (t_binary op.Shl (cn I32 13 (s 99 102))
    (t_binary op.Add (t_program_index (s 106 118)) (t_convert I32 (t_place (t_variable 2 (u I8) (s 121 122)))) (v I32) (s 106 122)) (v I32)
    (s 99 122)) (cn I32 5 (s 126 127)) Varying (s 99 127))) (s 95 127)) ∷ []) (s 91 128)) ∷
    (t_simple (t_update op.Sub I32 (t_element (ar 1 (u I16) false)
    (t_binary op.And (t_cast (t_binary op.Xor (t_program_index (s 132 144))
    (t_convert I32 (t_cast (t_binary op.Shl (t_place (t_element (ar 1 (u I16) false) (t_program_index (s 150 162)) (v I16) (s 148 163)))
    (t_convert I16 (t_place (t_variable 2 (u I8) (s 167 168)))) (v I16) (s 148 168)) (v I16) (s 147 169))) (v I32) (s 132 169)) (v I32) (s 131 170))
    (cn I32 7 (s 173 174)) (v I32) (s 131 174)) (v I16) (s 129 175))
    (t_cast (t_binary op.Or (t_program_index (s 180 192))
    (t_convert I32 (t_compare cmp.Equal (t_program_index (s 195 207))
    (t_convert I32 (t_library lib.Abs I8 (t_exprs ((t_place (t_variable 2 (u I8) (s 215 216))) ∷ [])) (u I8) (s 211 217))) Varying (s 195 217)))
    (v I32) (s 180 217)) (v I32) (s 179 218)) (s 129 218)) (s 129 219)) ∷
    (t_return (s 220 226) (Some (t_convert I32 (t_place (t_variable 2 (u I8) (s 227 228))))) (s 220 229)) ∷
    (t_simple (t_assign (t_element (ar 1 (u I16) false) (t_program_index (s 232 244)) (v I16) (s 230 245))
    (t_convert I16 (t_place (t_variable 3 (v I32) (s 248 249)))) (s 230 249)) (s 230 250)) ∷
    (t_return (s 251 257) (Some (t_library lib.Max I32
    (t_exprs ((t_convert I32 (t_logic logic.And (t_convert Truth (t_place (t_variable 2 (u I8) (s 262 263)))) (t_convert Truth (cn I32 5 (s 267 268)))
    Uniform (s 262 268))) ∷ (t_binary op.Div (t_cast (cn I32 0 (s 271 272)) (u I32) (s 270 273))
    (t_cast (t_binary op.Or (t_cast (t_cast (t_binary op.Or
    (t_place (t_element (ar 0 (u I32) false) (t_binary op.And
    (t_convert I32 (t_cast (t_unary un.Not (t_convert Truth (t_place (t_element (ar 1 (u I16) false) (cn I32 4 (s 286 287)) (u I16) (s 284 288))))
    (u Truth) (s 282 288)) (u Truth) (s 281 289))) (cn I32 7 (s 292 293)) (u I32) (s 281 293)) (u I32) (s 279 294))) (cn I32 1 (s 297 298)) (u I32)
    (s 279 298)) (u I32) (s 278 299)) (u I32) (s 277 300)) (cn I32 1 (s 303 304)) (u I32) (s 277 304)) (u I32) (s 276 305)) (u I32) (s 270 305)) ∷
    [])) (u I32) (s 258 306))) (s 251 307)) ∷ [])) (s 89 309))) ∷
    (fn None None ((vr (AVariable (v U32)) false) ∷ [])
    (t_braces (t_stmts ((t_unmasked (s 322 330) (t_braces
    (t_stmts ((t_block (t_braces (t_stmts ([])) (s 333 334))) ∷ (t_block (t_braces (t_stmts ([])) (s 335 336))) ∷
    (t_declare ((t_with_value 0 (v U32) (t_convert U32 (t_program_index (s 349 361))) (s 344 361)) ∷ []) (s 337 362)) ∷ [])) (s 331 364)) (s 322 364))
    ∷ [])) (s 320 366))) ∷ (fn (Some I16) (Some (u I16)) ((vr (AVariable (u I8)) false) ∷ [])
    (t_braces (t_stmts ((t_block (t_braces (t_stmts ([])) (s 388 389))) ∷
    (t_declare ((t_with_value 0 (u I8) (t_convert I8
    (t_library lib.ReduceAdd I32 (t_exprs ((t_cast (t_choose (t_convert Truth (t_program_index (s 420 432))) (t_program_index (s 435 447))
    (t_program_index (s 450 462)) (v I32) (s 420 462)) (v I32) (s 419 463)) ∷ [])) (u I64) (s 408 464))) (s 403 464)) ∷ []) (s 390 465)) ∷
    (t_if Plain 1 (t_unary un.Not (t_convert Truth (t_place (t_variable 0 (u I8) (s 472 474)))) (u Truth) (s 470 474))
    (t_return (s 476 482) (Some (t_convert I16 (t_binary op.Xor
    (t_convert I32 (t_unary un.Negate (t_place (t_variable 0 (u I8) (s 485 487))) (u I8) (s 483 487))) (cn I32 7 (s 490 491)) (u I32) (s 483 491))))
    (s 476 492)) (s 466 492)) ∷ (t_return (s 493 499)
    (Some (t_convert I16 (t_binary op.Shl (t_library lib.Extract I32 (t_exprs ((cn I32 3 (s 508 509)) ∷ (cn I32 2 (s 511 512)) ∷ [])) (u I32)
    (s 500 513)) (t_cast (t_choose (t_convert Truth (t_place (t_variable 0 (u I8) (s 518 520)))) (cn I32 1 (s 523 524))
    (t_convert I32 (t_place (t_variable 0 (u I8) (s 527 529)))) (u I32) (s 518 529)) (u I32) (s 517 530)) (u I32) (s 500 530)))) (s 493 531)) ∷ []))
    (s 386 533))) ∷ [])

abbrev arguments_5 : List Argument
arguments_5 = ((AnArray (rw I32 (4294967290 ∷ 4294967294 ∷ 9 ∷ 2147483647 ∷ 2147483646 ∷ 2230066653 ∷ 7 ∷ 1 ∷ 4294967295 ∷ 2147483647 ∷ 3 ∷ []))) ∷
    (AnArray (rw I16 (65534 ∷ 65528 ∷ 65534 ∷ 60925 ∷ 1 ∷ 9 ∷ 65529 ∷ 3 ∷ []))) ∷ (AValue (record { elem = I8; bits = 5 })) ∷ [])

run_5_of_0 : run_of program_5 0 0 arguments_5 ≡ Ends
    ((rw I32 (4294967290 ∷ 4294967294 ∷ 9 ∷ 2147483647 ∷ 2147483646 ∷ 2230066653 ∷ 7 ∷ 1 ∷ 4294967295 ∷ 2147483647 ∷ 3 ∷ [])) ∷
    (rw I16 (65534 ∷ 65527 ∷ 65532 ∷ 60922 ∷ 65533 ∷ 4 ∷ 65523 ∷ 65532 ∷ [])) ∷ []) (Some (record { elem = I32; bits = 5 })) ([])
unfolding digits number_to wrap_to amount not_zero
run_5_of_0 = refl

work_5_of_0 : work_of program_5 0 0 arguments_5 ≡ 31
unfolding digits number_to wrap_to amount not_zero
work_5_of_0 = refl

-- void g0(int n1) { if (n1 <= 0) return; g0(n1 - 1); signed int v2 = (- n1 ? max(n1, n1) && programCount - n1 : (varying int8) n1 - n1); unmasked { v2 = v2; ; } }
-- signed int64 g1(uniform int8 p3, uniform int32 b4[]) { p3++; }
-- export void f(uniform int32 a[], uniform unsigned int64 o[], uniform int32 n) { int x = g1(a[1], a) == g1(0x0, a); a[13] ^= select(65535 != n, a[(clamp(n, 10ULL, 2)) & 15], (n ? 18446744073709551615 : n)); if (x) return; a[programIndex] += x; }
abbrev program_10 : Program
program_10 = pr W16 ((fn None None ((vr (AVariable (v I32)) false) ∷ (vr (AVariable (v I32)) false) ∷ [])
    (t_braces (t_stmts ((t_if Plain 1 (t_compare cmp.LessOrEqual (t_place (t_variable 0 (v I32) (s 22 24))) (cn I32 0 (s 28 29)) Varying (s 22 29))
    (t_return (s 31 37) None (s 31 38)) (s 18 38)) ∷
    (t_simple (t_run (t_called 0 (t_arguments ((t_by_value
    (t_binary op.Sub (t_place (t_variable 0 (v I32) (s 42 44))) (cn I32 1 (s 47 48)) (v I32) (s 42 48))) ∷ [])) (s 39 49))) (s 39 50)) ∷
    (t_declare ((t_with_value 1 (v I32) (t_cast (t_choose
    (t_convert Truth (t_unary un.Negate (t_place (t_variable 0 (v I32) (s 70 72))) (v I32) (s 68 72)))
    (t_convert I32 (t_logic logic.And (t_convert Truth
    (t_library lib.Max I32 (t_exprs ((t_place (t_variable 0 (v I32) (s 79 81))) ∷ (t_place (t_variable 0 (v I32) (s 83 85))) ∷ [])) (v I32)
    (s 75 86))) (t_convert Truth (t_binary op.Sub (cn I32 16 (s 90 102)) (t_place (t_variable 0 (v I32) (s 105 107))) (v I32) (s 90 107))) Varying
    (s 75 107))) (t_binary op.Sub (t_convert I32 (t_cast (t_convert I8 (t_place (t_variable 0 (v I32) (s 125 127)))) (v I8) (s 110 127)))
    (t_place (t_variable 0 (v I32) (s 130 132))) (v I32) (s 110 132)) (v I32) (s 68 132)) (v I32) (s 67 133)) (s 62 133)) ∷ []) (s 51 134)) ∷
    (t_unmasked (s 135 143) (t_braces (t_stmts ((t_simple
    (t_assign (t_variable 1 (v I32) (s 146 148)) (t_place (t_variable 1 (v I32) (s 151 153))) (s 146 153)) (s 146 154)) ∷
    (t_block (t_braces (t_stmts ([])) (s 155 156))) ∷ [])) (s 144 158)) (s 135 158)) ∷ [])) (s 16 160))) ∷
    (fn (Some I64) (Some (v I64)) ((vr (AVariable (u I8)) false) ∷ (vr (Given I32) false) ∷ [])
    (t_braces (t_stmts ((t_simple (t_step op.Add I32 (t_variable 0 (u I8) (s 216 218)) (s 216 220)) (s 216 221)) ∷ [])) (s 214 223))) ∷
    (fn None None ((vr (Given I32) false) ∷ (vr (Given U64) false) ∷ (vr (AVariable (u I32)) false) ∷ (vr (AVariable (v I32)) false) ∷ [])
    (t_braces (t_stmts ((t_declare ((t_with_value 3 (v I32)
    (t_convert I32 (t_compare cmp.Equal (t_call (t_called 1
    (t_arguments ((t_by_value (t_convert I8 (t_place (t_element (ar 0 (u I32) false) (cn I32 1 (s 317 318)) (u I32) (s 315 319))))) ∷
    (t_by_name (ar 0 (u I32) false) (s 321 322)) ∷ [])) (s 312 323)) (v I64))
    (t_call (t_called 1 (t_arguments ((t_by_value (t_convert I8 (cn I32 0 (s 330 333)))) ∷ (t_by_name (ar 0 (u I32) false) (s 335 336)) ∷ []))
    (s 327 337)) (v I64)) Varying (s 312 337))) (s 308 337)) ∷ []) (s 304 338)) ∷
    (t_simple (t_update op.Xor U64 (t_element (ar 0 (u I32) false) (cn I32 13 (s 341 343)) (u I32) (s 339 344))
    (t_library lib.Select U64 (t_exprs ((t_compare cmp.NotEqual (cn I32 65535 (s 355 360)) (t_place (t_variable 2 (u I32) (s 364 365))) Uniform
    (s 355 365)) ∷ (t_convert U64 (t_place (t_element (ar 0 (u I32) false)
    (t_binary op.And (t_cast (t_library lib.Clamp U64
    (t_exprs ((t_convert U64 (t_place (t_variable 2 (u I32) (s 376 377)))) ∷ (cn U64 10 (s 379 384)) ∷ (t_convert U64 (cn I32 2 (s 386 387))) ∷ []))
    (u U64) (s 370 388)) (u U64) (s 369 389)) (t_convert U64 (cn I32 15 (s 392 394))) (u U64) (s 369 394)) (u I32) (s 367 395)))) ∷
    (t_cast (t_choose (t_convert Truth (t_place (t_variable 2 (u I32) (s 398 399)))) (cn U64 18446744073709551615 (s 402 422))
    (t_convert U64 (t_place (t_variable 2 (u I32) (s 425 426)))) (u U64) (s 398 426)) (u U64) (s 397 427)) ∷ [])) (u U64) (s 348 428)) (s 339 428))
    (s 339 429)) ∷ (t_if Plain 4 (t_convert Truth (t_place (t_variable 3 (v I32) (s 434 435)))) (t_return (s 437 443) None (s 437 444)) (s 430 444)) ∷
    (t_simple (t_update op.Add I32 (t_element (ar 0 (u I32) false) (t_program_index (s 447 459)) (v I32) (s 445 460))
    (t_place (t_variable 3 (v I32) (s 464 465))) (s 445 465)) (s 445 466)) ∷ [])) (s 302 468))) ∷ [])

abbrev arguments_10 : List Argument
arguments_10 = ((AnArray (rw I32 (4294967291 ∷ 0 ∷ 4294967289 ∷ 2147483649 ∷ 3 ∷ 4294967294 ∷ 4294967291 ∷ 4294967290 ∷ 2147483647 ∷ 2147483648 ∷
    3205634957 ∷ 4294967292 ∷ 4294967295 ∷ 8 ∷ 4294967287 ∷ 6 ∷ []))) ∷
    (AnArray (rw U64 (0 ∷ 8 ∷ 1 ∷ 1 ∷ 1 ∷ 3 ∷ 2 ∷ 1656020409656159347 ∷ 6 ∷ 7 ∷ 0 ∷ 6 ∷ 9566676830211831422 ∷ 11228832724120277353 ∷ 1 ∷
    8363601097251216227 ∷ 5 ∷ []))) ∷ (AValue (record { elem = I32; bits = 7 })) ∷ [])

run_10_of_0 : run_of program_10 2 0 arguments_10
    ≡ Ends ((rw I32 (4294967291 ∷ 0 ∷ 4294967289 ∷ 2147483649 ∷ 3 ∷ 4294967294 ∷ 4294967291 ∷ 4294967290 ∷ 2147483647 ∷ 2147483648 ∷ 3205634957 ∷
    4294967292 ∷ 4294967295 ∷ 4294967281 ∷ 4294967287 ∷ 6 ∷ [])) ∷
    (rw U64 (0 ∷ 8 ∷ 1 ∷ 1 ∷ 1 ∷ 3 ∷ 2 ∷ 1656020409656159347 ∷ 6 ∷ 7 ∷ 0 ∷ 6 ∷ 9566676830211831422 ∷ 11228832724120277353 ∷ 1 ∷ 8363601097251216227 ∷
    5 ∷ [])) ∷ []) None ([])
unfolding digits number_to wrap_to amount not_zero
run_10_of_0 = refl

work_10_of_0 : work_of program_10 2 0 arguments_10 ≡ 39
unfolding digits number_to wrap_to amount not_zero
work_10_of_0 = refl

-- export void f(uniform int a[], uniform int8 o[], uniform int n) { int x = n; x *= (int) (signed int) x; o[3] &= (88l) / (n | 1); a[programIndex] += x; }
-- signed int g0(unsigned p1, uniform unsigned p2) { int t3[7]; { ; p1 += p2; ; } return p2 > rotate(2, -8); }
-- unsigned int16 g1() { cif (programIndex) { ; } return programIndex; }
abbrev program_16 : Program
program_16 = pr W4 ((fn None None ((vr (Given I32) false) ∷ (vr (Given I8) false) ∷ (vr (AVariable (u I32)) false) ∷ (vr (AVariable (v I32)) false) ∷
    []) (t_braces (t_stmts ((t_declare ((t_with_value 3 (v I32) (t_place (t_variable 2 (u I32) (s 74 75))) (s 70 75)) ∷ []) (s 66 76)) ∷
    (t_simple (t_update op.Mul I32 (t_variable 3 (v I32) (s 77 78))
    (t_cast (t_cast (t_place (t_variable 3 (v I32) (s 101 102))) (v I32) (s 88 102)) (v I32) (s 82 102)) (s 77 102)) (s 77 103)) ∷
    (t_simple (t_update op.And I64 (t_element (ar 1 (u I8) false) (cn I32 3 (s 106 107)) (u I8) (s 104 108))
    (t_binary op.Div (t_cast (cn I64 88 (s 113 116)) (u I64) (s 112 117))
    (t_convert I64 (t_cast (t_binary op.Or (t_place (t_variable 2 (u I32) (s 121 122))) (cn I32 1 (s 125 126)) (u I32) (s 121 126)) (u I32)
    (s 120 127))) (u I64) (s 112 127)) (s 104 127)) (s 104 128)) ∷
    (t_simple (t_update op.Add I32 (t_element (ar 0 (u I32) false) (t_program_index (s 131 143)) (v I32) (s 129 144))
    (t_place (t_variable 3 (v I32) (s 148 149))) (s 129 149)) (s 129 150)) ∷ [])) (s 64 152))) ∷
    (fn (Some I32) (Some (v I32)) ((vr (AVariable (v U32)) false) ∷ (vr (AVariable (u U32)) false) ∷ (vr (Local (v I32) 7) false) ∷ [])
    (t_braces (t_stmts ((t_declare ((t_with_size (ar 2 (v I32) false) (s 207 212)) ∷ []) (s 203 213)) ∷
    (t_block (t_braces (t_stmts ((t_block (t_braces (t_stmts ([])) (s 216 217))) ∷
    (t_simple (t_update op.Add U32 (t_variable 0 (v U32) (s 218 220)) (t_place (t_variable 1 (u U32) (s 224 226))) (s 218 226)) (s 218 227)) ∷
    (t_block (t_braces (t_stmts ([])) (s 228 229))) ∷ [])) (s 214 231))) ∷
    (t_return (s 232 238) (Some (t_convert I32 (t_compare cmp.Greater (t_place (t_variable 1 (u U32) (s 239 241)))
    (t_convert U32 (t_library lib.Rotate I32 (t_exprs ((cn I32 2 (s 251 252)) ∷ (t_unary un.Negate (cn I32 8 (s 255 256)) (u I32) (s 254 256)) ∷ []))
    (v I32) (s 244 257))) Varying (s 239 257)))) (s 232 258)) ∷ [])) (s 201 260))) ∷
    (fn (Some U16) (Some (v U16)) ([]) (t_braces (t_stmts
    ((t_if Plain 0 (t_convert Truth (t_program_index (s 288 300)))
    (t_block (t_braces (t_stmts ((t_block (t_braces (t_stmts ([])) (s 304 305))) ∷ [])) (s 302 307))) (s 283 307)) ∷
    (t_return (s 308 314) (Some (t_convert U16 (t_program_index (s 315 327)))) (s 308 328)) ∷ [])) (s 281 330))) ∷ [])

abbrev arguments_16 : List Argument
arguments_16 = ((AnArray (rw I32 (4294967289 ∷ 131412433 ∷ 80713373 ∷ 0 ∷ 4294967287 ∷ 6 ∷ 915890246 ∷ []))) ∷ (AnArray (rw I8 (180 ∷ 3 ∷ 0 ∷ 247 ∷ []))) ∷ (AValue (record { elem = I32; bits = 4294967287 })) ∷ [])

run_16_of_0 : run_of program_16 0 0 arguments_16 ≡ Ends ((rw I32 (74 ∷ 131412514 ∷ 80713454 ∷ 81 ∷ 4294967287 ∷ 6 ∷ 915890246 ∷ [])) ∷ (rw I8 (180 ∷ 3 ∷ 0 ∷ 247 ∷ [])) ∷ []) None ([])
unfolding digits number_to wrap_to amount not_zero
run_16_of_0 = refl

work_16_of_0 : work_of program_16 0 0 arguments_16 ≡ 23
unfolding digits number_to wrap_to amount not_zero
work_16_of_0 = refl

-- export void f(uniform signed a[], uniform signed int8 o[], uniform int n) { int x = -(g1(n)); uniform uint16 t4[6]; unmasked { ; t4[4] = (uniform int) n; } o[programIndex] = x; }
-- void g0(int16 p1, signed p2) { p1 = programCount < (false); }
-- signed g1(uniform signed p3) { cif (exclusive_scan_add(p3) >> ~(8)) { g0(9 & 9, 0xfbu); g0(programIndex, 2); p3 = clamp(extract(p3, p3), ~(p3), 0b10011); } { ; if ((int) 0xfc) return extract(p3, 3); } p3 -= 4; }
abbrev program_42 : Program
program_42 = pr W4 ((fn None None ((vr (Given I32) false) ∷ (vr (Given I8) false) ∷ (vr (AVariable (u I32)) false) ∷ (vr (AVariable (v I32)) false) ∷
    (vr (Local (u U16) 6) false) ∷ []) (t_braces (t_stmts
    ((t_declare ((t_with_value 3 (v I32) (t_unary un.Negate
    (t_cast (t_call (t_called 2 (t_arguments ((t_by_value (t_place (t_variable 2 (u I32) (s 89 90)))) ∷ [])) (s 86 91)) (v I32)) (v I32) (s 85 92))
    (v I32) (s 84 92)) (s 80 92)) ∷ []) (s 76 93)) ∷ (t_declare ((t_with_size (ar 4 (u U16) false) (s 109 114)) ∷ []) (s 94 115)) ∷
    (t_unmasked (s 116 124) (t_braces (t_stmts ((t_block (t_braces (t_stmts ([])) (s 127 128))) ∷
    (t_simple (t_assign (t_element (ar 4 (u U16) false) (cn I32 4 (s 132 133)) (u U16) (s 129 134))
    (t_convert U16 (t_cast (t_place (t_variable 2 (u I32) (s 151 152))) (u I32) (s 137 152))) (s 129 152)) (s 129 153)) ∷ [])) (s 125 155))
    (s 116 155)) ∷ (t_simple (t_assign (t_element (ar 1 (u I8) false) (t_program_index (s 158 170)) (v I8) (s 156 171))
    (t_convert I8 (t_place (t_variable 3 (v I32) (s 174 175)))) (s 156 175)) (s 156 176)) ∷ [])) (s 74 178))) ∷
    (fn None None ((vr (AVariable (v I16)) false) ∷ (vr (AVariable (v I32)) false) ∷ [])
    (t_braces (t_stmts ((t_simple (t_assign (t_variable 0 (v I16) (s 210 212))
    (t_convert I16 (t_compare cmp.Less (cn I32 4 (s 215 227)) (t_convert I32 (t_cast (cn Truth 0 (s 231 236)) (u Truth) (s 230 237))) Uniform
    (s 215 237))) (s 210 237)) (s 210 238)) ∷ [])) (s 208 240))) ∷
    (fn (Some I32) (Some (v I32)) ((vr (AVariable (u I32)) false) ∷ [])
    (t_braces (t_stmts ((t_if Plain 1 (t_convert Truth
    (t_binary op.Shr (t_library lib.ScanAdd I32 (t_exprs ((t_place (t_variable 0 (u I32) (s 296 298))) ∷ [])) (v I32) (s 277 299))
    (t_unary un.Invert (t_cast (cn I32 8 (s 305 306)) (u I32) (s 304 307)) (u I32) (s 303 307)) (v I32) (s 277 307)))
    (t_block (t_braces (t_stmts ((t_simple (t_run (t_called 1
    (t_arguments ((t_by_value (t_convert I16 (t_binary op.And (cn I32 9 (s 314 315)) (cn I32 9 (s 318 319)) (u I32) (s 314 319)))) ∷
    (t_by_value (t_convert I32 (cn U32 251 (s 321 326)))) ∷ [])) (s 311 327))) (s 311 328)) ∷
    (t_simple (t_run (t_called 1 (t_arguments ((t_by_value (t_convert I16 (t_program_index (s 332 344)))) ∷ (t_by_value (cn I32 2 (s 346 347))) ∷ []))
    (s 329 348))) (s 329 349)) ∷ (t_simple (t_assign (t_variable 0 (u I32) (s 350 352))
    (t_library lib.Clamp I32 (t_exprs ((t_library lib.Extract I32
    (t_exprs ((t_place (t_variable 0 (u I32) (s 369 371))) ∷ (t_place (t_variable 0 (u I32) (s 373 375))) ∷ [])) (u I32) (s 361 376)) ∷
    (t_unary un.Invert (t_cast (t_place (t_variable 0 (u I32) (s 380 382))) (u I32) (s 379 383)) (u I32) (s 378 383)) ∷ (cn I32 19 (s 385 392)) ∷ []))
    (u I32) (s 355 393)) (s 350 393)) (s 350 394)) ∷ [])) (s 309 396))) (s 272 396)) ∷
    (t_block (t_braces (t_stmts ((t_block (t_braces (t_stmts ([])) (s 399 400))) ∷
    (t_if Plain 1 (t_convert Truth (t_cast (cn I32 252 (s 411 415)) (u I32) (s 405 415)))
    (t_return (s 417 423) (Some (t_library lib.Extract I32 (t_exprs ((t_place (t_variable 0 (u I32) (s 432 434))) ∷ (cn I32 3 (s 436 437)) ∷ []))
    (u I32) (s 424 438))) (s 417 439)) (s 401 439)) ∷ [])) (s 397 441))) ∷
    (t_simple (t_update op.Sub I32 (t_variable 0 (u I32) (s 442 444)) (cn I32 4 (s 448 449)) (s 442 449)) (s 442 450)) ∷ [])) (s 270 452))) ∷ [])

abbrev arguments_42 : List Argument
arguments_42 = ((AnArray (rw I32 (4294967293 ∷ 7 ∷ 336118050 ∷ 3854265285 ∷ 2714613257 ∷ 4294967294 ∷ 7 ∷ 1 ∷ []))) ∷ (AnArray (rw I8 (254 ∷ 254 ∷ 248 ∷ 253 ∷ 254 ∷ 6 ∷ 251 ∷ []))) ∷ (AValue (record { elem = I32; bits = 4294967287 })) ∷ [])

run_42_of_0 : run_of program_42 0 0 arguments_42 ≡ Ends ((rw I32 (4294967293 ∷ 7 ∷ 336118050 ∷ 3854265285 ∷ 2714613257 ∷ 4294967294 ∷ 7 ∷ 1 ∷ [])) ∷ (rw I8 (248 ∷ 248 ∷ 248 ∷ 248 ∷ 254 ∷ 6 ∷ 251 ∷ [])) ∷ []) None ([])
unfolding digits number_to wrap_to amount not_zero
run_42_of_0 = refl

work_42_of_0 : work_of program_42 0 0 arguments_42 ≡ 73
unfolding digits number_to wrap_to amount not_zero
work_42_of_0 = refl

-- signed int64 g0() { uniform unsigned int8 v1 = (unsigned) 2147483648 != (signed int) true, v2 = 0b10101u - 1 != 2 > v1; { uniform int k3 = 0; do { k3++;  v2
-- &= 9; uniform signed int t4[4]; } while (k3 < 2); } return (varying signed int) ~ programIndex; }
-- void g1(signed int p5, uniform int8 p6, uniform int32 b7[]) { p6 <<= p6; uniform int32 v8 = (p6 < 3 ? p6 > p6 == b7[1] : 4 || p6 >= p6), v9; }
-- export void f(uniform int32 a[], uniform int16 o[], uniform int n) { int x = ((signed) 0 ? programIndex : ! programIndex); print("\t%\"% %\n", programIndex | n != n, g0(), (signed) n); if (g0()) return; a[programIndex] += x; }
abbrev program_51 : Program
program_51 = pr W16 ((fn (Some I64) (Some (v I64))
    ((vr (AVariable (u U8)) false) ∷ (vr (AVariable (u U8)) false) ∷ (vr (AVariable (u I32)) false) ∷ (vr (Local (u I32) 4) false) ∷ [])
    (t_braces (t_stmts ((t_declare ((t_with_value 0 (u U8)
    (t_convert U8 (t_compare cmp.NotEqual (t_cast (t_convert U32 (cn I64 2147483648 (s 58 68))) (u U32) (s 47 68))
    (t_convert U32 (t_cast (t_convert I32 (cn Truth 1 (s 85 89))) (u I32) (s 72 89))) Uniform (s 47 89))) (s 42 89)) ∷
    (t_with_value 1 (u U8) (t_convert U8 (t_compare cmp.NotEqual
    (t_binary op.Sub (cn U32 21 (s 96 104)) (t_convert U32 (cn I32 1 (s 107 108))) (u U32) (s 96 108))
    (t_convert U32 (t_compare cmp.Greater (cn I32 2 (s 112 113)) (t_convert I32 (t_place (t_variable 0 (u U8) (s 116 118)))) Uniform (s 112 118)))
    Uniform (s 96 118))) (s 91 118)) ∷ []) (s 20 119)) ∷
    (t_block (t_braces (t_stmts ((t_declare ((t_with_value 2 (u I32) (cn I32 0 (s 139 140)) (s 134 140)) ∷ []) (s 122 141)) ∷
    (t_do Plain 3 (t_block (t_braces (t_stmts ((t_simple (t_step op.Add I32 (t_variable 2 (u I32) (s 147 149)) (s 147 151)) (s 147 152)) ∷
    (t_simple (t_update op.And I32 (t_variable 1 (u U8) (s 154 156)) (cn I32 9 (s 160 161)) (s 154 161)) (s 154 162)) ∷
    (t_declare ((t_with_size (ar 3 (u I32) false) (s 182 187)) ∷ []) (s 163 188)) ∷ [])) (s 145 190)))
    (t_compare cmp.Less (t_place (t_variable 2 (u I32) (s 198 200))) (cn I32 2 (s 203 204)) Uniform (s 198 204)) (s 142 206)) ∷ [])) (s 120 208))) ∷
    (t_return (s 209 215) (Some (t_convert I64 (t_cast (t_unary un.Invert (t_program_index (s 239 251)) (v I32) (s 237 251)) (v I32) (s 216 251))))
    (s 209 252)) ∷ [])) (s 18 254))) ∷ (fn None None
    ((vr (AVariable (v I32)) false) ∷ (vr (AVariable (u I8)) false) ∷ (vr (Given I32) false) ∷ (vr (AVariable (u I32)) false) ∷
    (vr (AVariable (u I32)) false) ∷ []) (t_braces (t_stmts
    ((t_simple (t_update op.Shl I8 (t_variable 1 (u I8) (s 317 319)) (t_place (t_variable 1 (u I8) (s 324 326))) (s 317 326)) (s 317 327)) ∷
    (t_declare ((t_with_value 3 (u I32) (t_convert I32
    (t_cast (t_choose (t_compare cmp.Less (t_convert I32 (t_place (t_variable 1 (u I8) (s 348 350)))) (cn I32 3 (s 353 354)) Uniform (s 348 354))
    (t_compare cmp.Equal (t_convert I32 (t_compare cmp.Greater (t_place (t_variable 1 (u I8) (s 357 359))) (t_place (t_variable 1 (u I8) (s 362 364)))
    Uniform (s 357 364))) (t_place (t_element (ar 2 (u I32) false) (cn I32 1 (s 371 372)) (u I32) (s 368 373))) Uniform (s 357 373))
    (t_logic logic.Or (t_convert Truth (cn I32 4 (s 376 377)))
    (t_compare cmp.GreaterOrEqual (t_place (t_variable 1 (u I8) (s 381 383))) (t_place (t_variable 1 (u I8) (s 387 389))) Uniform (s 381 389)) Uniform
    (s 376 389)) (u Truth) (s 348 389)) (u Truth) (s 347 390))) (s 342 390)) ∷ (t_plain 4 (u I32) (s 392 394)) ∷ []) (s 328 395)) ∷ [])) (s 315 397)))
    ∷ (fn None None ((vr (Given I32) false) ∷ (vr (Given I16) false) ∷ (vr (AVariable (u I32)) false) ∷ (vr (AVariable (v I32)) false) ∷ [])
    (t_braces (t_stmts ((t_declare ((t_with_value 3 (v I32)
    (t_cast (t_choose (t_convert Truth (t_cast (cn I32 0 (s 485 486)) (u I32) (s 476 486))) (t_program_index (s 489 501))
    (t_convert I32 (t_unary un.Not (t_convert Truth (t_program_index (s 506 518))) (v Truth) (s 504 518))) (v I32) (s 476 518)) (v I32) (s 475 519))
    (s 471 519)) ∷ []) (s 467 520)) ∷ (t_print (s 521 526) (9 ∷ 37 ∷ 34 ∷ 37 ∷ 32 ∷ 37 ∷ 10 ∷ [])
    ((t_binary op.Or (t_program_index (s 541 553)) (t_convert I32
    (t_compare cmp.NotEqual (t_place (t_variable 2 (u I32) (s 556 557))) (t_place (t_variable 2 (u I32) (s 561 562))) Uniform (s 556 562))) (v I32)
    (s 541 562)) ∷ (t_call (t_called 0 (t_arguments ([])) (s 564 568)) (v I64)) ∷
    (t_cast (t_place (t_variable 2 (u I32) (s 579 580))) (u I32) (s 570 580)) ∷ []) (s 521 582)) ∷
    (t_if Plain 4 (t_convert Truth (t_call (t_called 0 (t_arguments ([])) (s 587 591)) (v I64))) (t_return (s 593 599) None (s 593 600)) (s 583 600))
    ∷ (t_simple (t_update op.Add I32 (t_element (ar 0 (u I32) false) (t_program_index (s 603 615)) (v I32) (s 601 616))
    (t_place (t_variable 3 (v I32) (s 620 621))) (s 601 621)) (s 601 622)) ∷ [])) (s 465 624))) ∷ [])

abbrev arguments_51 : List Argument
arguments_51 = ((AnArray (rw I32 (8 ∷ 1 ∷ 4294967289 ∷ 2147483649 ∷ 2147483647 ∷ 0 ∷ 4 ∷ 2147483646 ∷ 4294967291 ∷ 4294967292 ∷ 4294967293 ∷ 429463340
    ∷ 2 ∷ 0 ∷ 8 ∷ 2807089694 ∷ []))) ∷ (AnArray (rw I16
    (32768 ∷ 32769 ∷ 4 ∷ 3 ∷ 3 ∷ 32767 ∷ 65535 ∷ 4 ∷ 32768 ∷ 6222 ∷ 32766 ∷ 9 ∷ 65527 ∷ 32769 ∷ 65535 ∷ 65530 ∷ 7091 ∷ 32769 ∷ []))) ∷
    (AValue (record { elem = I32; bits = 1 })) ∷ [])

run_51_of_0 : run_of program_51 2 0 arguments_51 ≡ GoesOn ([])
unfolding digits number_to wrap_to amount not_zero
run_51_of_0 = refl

work_51_of_0 : work_of program_51 2 0 arguments_51 ≡ 37
unfolding digits number_to wrap_to amount not_zero
work_51_of_0 = refl

run_51_of_1 : run_of program_51 2 1 arguments_51 ≡ GoesOn ([])
unfolding digits number_to wrap_to amount not_zero
run_51_of_1 = refl

work_51_of_1 : work_of program_51 2 1 arguments_51 ≡ 49
unfolding digits number_to wrap_to amount not_zero
work_51_of_1 = refl

run_51_of_2 : run_of program_51 2 2 arguments_51
    ≡ Ends ((rw I32 (8 ∷ 1 ∷ 4294967289 ∷ 2147483649 ∷ 2147483647 ∷ 0 ∷ 4 ∷ 2147483646 ∷ 4294967291 ∷ 4294967292 ∷ 4294967293 ∷ 429463340 ∷ 2 ∷ 0 ∷ 8
    ∷ 2807089694 ∷ [])) ∷ (rw I16 (32768 ∷ 32769 ∷ 4 ∷ 3 ∷ 3 ∷ 32767 ∷ 65535 ∷ 4 ∷ 32768 ∷ 6222 ∷ 32766 ∷ 9 ∷ 65527 ∷ 32769 ∷ 65535 ∷ 65530 ∷ 7091 ∷
    32769 ∷ [])) ∷ []) None (9 ∷ 91 ∷ 48 ∷ 44 ∷ 49 ∷ 44 ∷ 50 ∷ 44 ∷ 51 ∷ 44 ∷ 52 ∷ 44 ∷ 53 ∷ 44 ∷ 54 ∷ 44 ∷ 55 ∷ 44 ∷ 56 ∷ 44 ∷ 57 ∷ 44 ∷ 49 ∷ 48 ∷ 44
    ∷ 49 ∷ 49 ∷ 44 ∷ 49 ∷ 50 ∷ 44 ∷ 49 ∷ 51 ∷ 44 ∷ 49 ∷ 52 ∷ 44 ∷ 49 ∷ 53 ∷ 93 ∷ 34 ∷ 91 ∷ 45 ∷ 49 ∷ 44 ∷ 45 ∷ 50 ∷ 44 ∷ 45 ∷ 51 ∷ 44 ∷ 45 ∷ 52 ∷ 44 ∷
    45 ∷ 53 ∷ 44 ∷ 45 ∷ 54 ∷ 44 ∷ 45 ∷ 55 ∷ 44 ∷ 45 ∷ 56 ∷ 44 ∷ 45 ∷ 57 ∷ 44 ∷ 45 ∷ 49 ∷ 48 ∷ 44 ∷ 45 ∷ 49 ∷ 49 ∷ 44 ∷ 45 ∷ 49 ∷ 50 ∷ 44 ∷ 45 ∷ 49 ∷
    51 ∷ 44 ∷ 45 ∷ 49 ∷ 52 ∷ 44 ∷ 45 ∷ 49 ∷ 53 ∷ 44 ∷ 45 ∷ 49 ∷ 54 ∷ 93 ∷ 32 ∷ 49 ∷ 10 ∷ [])
unfolding digits number_to wrap_to amount not_zero
run_51_of_2 = refl

work_51_of_2 : work_of program_51 2 2 arguments_51 ≡ 119
unfolding digits number_to wrap_to amount not_zero
work_51_of_2 = refl

-- void g0(uniform int32 n2, uniform int64 p1) { if (n2 <= 0) return; g0(n2 - 1, reduce_max(p1)); p1 *= (abs(p1) & false <= 9); }
-- uniform signed int64 g1(uniform int p3) { (p3); uniform uint64 v4 = p3, v5 = - v4 << min(17ll, 3); return v4 > 0xfd55c12983f7fcae != 4; }
-- export uniform unsigned f(uniform signed int a[], uniform uint64 o[], uniform int n) { int x = (unsigned int8) n & n; foreach_active (i6) { ; uniform int64 v7; } g1(0b0LL); a[programIndex] += x; return 3 << n ^ extract(9, n); }
abbrev program_62 : Program
program_62 = pr W8 ((fn None None ((vr (AVariable (u I32)) false) ∷ (vr (AVariable (u I64)) false) ∷ [])
    (t_braces (t_stmts ((t_if Plain 2 (t_compare cmp.LessOrEqual (t_place (t_variable 0 (u I32) (s 50 52))) (cn I32 0 (s 56 57)) Uniform (s 50 57))
    (t_return (s 59 65) None (s 59 66)) (s 46 66)) ∷
    (t_simple (t_run (t_called 0 (t_arguments ((t_by_value
    (t_binary op.Sub (t_place (t_variable 0 (u I32) (s 70 72))) (cn I32 1 (s 75 76)) (u I32) (s 70 76))) ∷
    (t_by_value (t_library lib.ReduceMax I64 (t_exprs ((t_place (t_variable 1 (u I64) (s 89 91))) ∷ [])) (u I64) (s 78 92))) ∷ [])) (s 67 93)))
    (s 67 94)) ∷ (t_simple (t_update op.Mul I64 (t_variable 1 (u I64) (s 95 97))
    (t_cast (t_binary op.And (t_library lib.Abs I64 (t_exprs ((t_place (t_variable 1 (u I64) (s 106 108))) ∷ [])) (u I64) (s 102 109))
    (t_convert I64 (t_compare cmp.LessOrEqual (t_convert I32 (cn Truth 0 (s 112 117))) (cn I32 9 (s 121 122)) Uniform (s 112 122))) (u I64)
    (s 102 122)) (u I64) (s 101 123)) (s 95 123)) (s 95 124)) ∷ [])) (s 44 126))) ∷
    (fn (Some I64) (Some (u I64)) ((vr (AVariable (u I32)) false) ∷ (vr (AVariable (u U64)) false) ∷ (vr (AVariable (u U64)) false) ∷ [])
    (t_braces (t_stmts ((t_simple (t_value (t_cast (t_place (t_variable 0 (u I32) (s 170 172))) (u I32) (s 169 173))) (s 169 174)) ∷
    (t_declare ((t_with_value 1 (u U64) (t_convert U64 (t_place (t_variable 0 (u I32) (s 195 197)))) (s 190 197)) ∷
    (t_with_value 2 (u U64) (t_binary op.Shl (t_unary un.Negate (t_place (t_variable 1 (u U64) (s 206 208))) (u U64) (s 204 208))
    (t_convert U64 (t_library lib.Min I64 (t_exprs ((cn I64 17 (s 216 220)) ∷ (t_convert I64 (cn I32 3 (s 222 223))) ∷ [])) (u I64) (s 212 224)))
    (u U64) (s 204 224)) (s 199 224)) ∷ []) (s 175 225)) ∷
    (t_return (s 226 232) (Some (t_convert I64 (t_compare cmp.NotEqual
    (t_convert I32 (t_compare cmp.Greater (t_place (t_variable 1 (u U64) (s 233 235))) (cn U64 18254709048668060846 (s 238 256)) Uniform (s 233 256)))
    (cn I32 4 (s 260 261)) Uniform (s 233 261)))) (s 226 262)) ∷ [])) (s 167 264))) ∷
    (fn (Some U32) (Some (u U32)) ((vr (Given I32) false) ∷ (vr (Given U64) false) ∷ (vr (AVariable (u I32)) false) ∷ (vr (AVariable (v I32)) false) ∷
    (vr (AVariable (u I64)) true) ∷ (vr (AVariable (u I64)) false) ∷ [])
    (t_braces (t_stmts ((t_declare ((t_with_value 3 (v I32)
    (t_binary op.And (t_convert I32 (t_cast (t_convert U8 (t_place (t_variable 2 (u I32) (s 376 377)))) (u U8) (s 360 377)))
    (t_place (t_variable 2 (u I32) (s 380 381))) (u I32) (s 360 381)) (s 356 381)) ∷ []) (s 352 382)) ∷
    (t_foreach_active (s 383 397) 4 4 (t_block (t_braces
    (t_stmts ((t_block (t_braces (t_stmts ([])) (s 405 406))) ∷ (t_declare ((t_plain 5 (u I64) (s 421 423)) ∷ []) (s 407 424)) ∷ [])) (s 403 426)))
    (s 383 426)) ∷ (t_simple (t_value (t_call (t_called 1 (t_arguments ((t_by_value (t_convert I32 (cn I64 0 (s 430 435)))) ∷ [])) (s 427 436))
    (u I64))) (s 427 437)) ∷ (t_simple (t_update op.Add I32 (t_element (ar 0 (u I32) false) (t_program_index (s 440 452)) (v I32) (s 438 453))
    (t_place (t_variable 3 (v I32) (s 457 458))) (s 438 458)) (s 438 459)) ∷
    (t_return (s 460 466) (Some (t_convert U32 (t_binary op.Xor
    (t_binary op.Shl (cn I32 3 (s 467 468)) (t_place (t_variable 2 (u I32) (s 472 473))) (u I32) (s 467 473))
    (t_library lib.Extract I32 (t_exprs ((cn I32 9 (s 484 485)) ∷ (t_place (t_variable 2 (u I32) (s 487 488))) ∷ [])) (u I32) (s 476 489)) (u I32)
    (s 467 489)))) (s 460 490)) ∷ [])) (s 350 492))) ∷ [])

abbrev arguments_62 : List Argument
arguments_62 = ((AnArray (rw I32 (3 ∷ 3407518753 ∷ 4294967290 ∷ 7 ∷ 2147483646 ∷ 4294967295 ∷ 4294967295 ∷ 4294967291 ∷ 4294967295 ∷ 1077230813 ∷
    []))) ∷ (AnArray (rw U64 (2 ∷ 6 ∷ 1545940745561704617 ∷ 1 ∷ 13607821018866407600 ∷ 1 ∷ 1 ∷ 0 ∷ 8540492750180551802 ∷ []))) ∷
    (AValue (record { elem = I32; bits = 2147483649 })) ∷ [])

run_62_of_0 : run_of program_62 2 0 arguments_62
    ≡ Ends ((rw I32 (4 ∷ 3407518754 ∷ 4294967291 ∷ 8 ∷ 2147483647 ∷ 0 ∷ 0 ∷ 4294967292 ∷ 4294967295 ∷ 1077230813 ∷ [])) ∷
    (rw U64 (2 ∷ 6 ∷ 1545940745561704617 ∷ 1 ∷ 13607821018866407600 ∷ 1 ∷ 1 ∷ 0 ∷ 8540492750180551802 ∷ [])) ∷ [])
    (Some (record { elem = U32; bits = 15 })) ([])
unfolding digits number_to wrap_to amount not_zero
run_62_of_0 = refl

work_62_of_0 : work_of program_62 2 0 arguments_62 ≡ 83
unfolding digits number_to wrap_to amount not_zero
work_62_of_0 = refl

-- unsigned int64 g0(int32 n3, int32 p1, varying signed int p2) { if (n3 <= 0) return p2; p2 += g0(n3 - 1, exclusive_scan_and(p2), ! 1); unmasked { ; ; p1++; } return 3; }
-- void g1() { foreach_active (i4) { ; int v5 = (signed int64) programIndex * abs(i4); } }
-- export void f(uniform int a[], uniform int o[]) { int x = a[(programIndex ^ (o[programIndex] < 80u)) & 7]; a[0] = o[(1 << 2147483648) & 7]; a[programIndex] = (x | x ? 4 & x : rotate(o[(programIndex ^ (93l)) & 7], o[1])) ^ x; o[programIndex] = x; }
abbrev program_76 : Program
program_76 = pr W8 ((fn (Some U64) (Some (v U64))
    ((vr (AVariable (v I32)) false) ∷ (vr (AVariable (v I32)) false) ∷ (vr (AVariable (v I32)) false) ∷ [])
    (t_braces (t_stmts ((t_if Plain 3 (t_compare cmp.LessOrEqual (t_place (t_variable 0 (v I32) (s 67 69))) (cn I32 0 (s 73 74)) Varying (s 67 74))
    (t_return (s 76 82) (Some (t_convert U64 (t_place (t_variable 2 (v I32) (s 83 85))))) (s 76 86)) (s 63 86)) ∷
    (t_simple (t_update op.Add U64 (t_variable 2 (v I32) (s 87 89))
    (t_call (t_called 0 (t_arguments ((t_by_value (t_binary op.Sub (t_place (t_variable 0 (v I32) (s 96 98))) (cn I32 1 (s 101 102)) (v I32)
    (s 96 102))) ∷ (t_by_value (t_library lib.ScanAnd I32 (t_exprs ((t_place (t_variable 2 (v I32) (s 123 125))) ∷ [])) (v I32) (s 104 126))) ∷
    (t_by_value (t_convert I32 (t_unary un.Not (t_convert Truth (cn I32 1 (s 130 131))) (u Truth) (s 128 131)))) ∷ [])) (s 93 132)) (v U64))
    (s 87 132)) (s 87 133)) ∷ (t_unmasked (s 134 142)
    (t_braces (t_stmts ((t_block (t_braces (t_stmts ([])) (s 145 146))) ∷ (t_block (t_braces (t_stmts ([])) (s 147 148))) ∷
    (t_simple (t_step op.Add I32 (t_variable 1 (v I32) (s 149 151)) (s 149 153)) (s 149 154)) ∷ [])) (s 143 156)) (s 134 156)) ∷
    (t_return (s 157 163) (Some (t_convert U64 (cn I32 3 (s 164 165)))) (s 157 166)) ∷ [])) (s 61 168))) ∷
    (fn None None ((vr (AVariable (u I64)) true) ∷ (vr (AVariable (v I32)) false) ∷ [])
    (t_braces (t_stmts ((t_foreach_active (s 181 195) 0 0
    (t_block (t_braces (t_stmts ((t_block (t_braces (t_stmts ([])) (s 203 204))) ∷
    (t_declare ((t_with_value 1 (v I32) (t_convert I32
    (t_binary op.Mul (t_cast (t_convert I64 (t_program_index (s 229 241))) (v I64) (s 214 241))
    (t_library lib.Abs I64 (t_exprs ((t_place (t_variable 0 (u I64) (s 248 250))) ∷ [])) (u I64) (s 244 251)) (v I64) (s 214 251))) (s 209 251)) ∷ [])
    (s 205 252)) ∷ [])) (s 201 254))) (s 181 254)) ∷ [])) (s 179 256))) ∷
    (fn None None ((vr (Given I32) false) ∷ (vr (Given I32) false) ∷ (vr (AVariable (v I32)) false) ∷ [])
    (t_braces (t_stmts ((t_declare ((t_with_value 2 (v I32)
    (t_place (t_element (ar 0 (u I32) false) (t_binary op.And
    (t_cast (t_binary op.Xor (t_program_index (s 318 330))
    (t_convert I32 (t_cast (t_compare cmp.Less (t_convert U32
    (t_place (t_element (ar 1 (u I32) false) (t_program_index (s 336 348)) (v I32) (s 334 349)))) (cn U32 80 (s 352 355)) Varying (s 334 355))
    (v Truth) (s 333 356))) (v I32) (s 318 356)) (v I32) (s 317 357)) (cn I32 7 (s 360 361)) (v I32) (s 317 361)) (v I32) (s 315 362))) (s 311 362)) ∷
    []) (s 307 363)) ∷ (t_simple (t_assign (t_element (ar 0 (u I32) false) (cn I32 0 (s 366 367)) (u I32) (s 364 368))
    (t_place (t_element (ar 1 (u I32) false) (t_binary op.And
    (t_cast (t_binary op.Shl (t_convert I64 (cn I32 1 (s 374 375))) (cn I64 2147483648 (s 379 389)) (u I64) (s 374 389)) (u I64) (s 373 390))
    (t_convert I64 (cn I32 7 (s 393 394))) (u I64) (s 373 394)) (u I32) (s 371 395))) (s 364 395)) (s 364 396)) ∷
    (t_simple (t_assign (t_element (ar 0 (u I32) false) (t_program_index (s 399 411)) (v I32) (s 397 412))
    (t_binary op.Xor (t_cast (t_choose (t_convert Truth
    (t_binary op.Or (t_place (t_variable 2 (v I32) (s 416 417))) (t_place (t_variable 2 (v I32) (s 420 421))) (v I32) (s 416 421)))
    (t_binary op.And (cn I32 4 (s 424 425)) (t_place (t_variable 2 (v I32) (s 428 429))) (v I32) (s 424 429))
    (t_library lib.Rotate I32 (t_exprs ((t_place (t_element (ar 1 (u I32) false)
    (t_binary op.And (t_cast (t_binary op.Xor (t_convert I64 (t_program_index (s 442 454))) (t_cast (cn I64 93 (s 458 461)) (u I64) (s 457 462))
    (v I64) (s 442 462)) (v I64) (s 441 463)) (t_convert I64 (cn I32 7 (s 466 467))) (v I64) (s 441 467)) (v I32) (s 439 468))) ∷
    (t_place (t_element (ar 1 (u I32) false) (cn I32 1 (s 472 473)) (u I32) (s 470 474))) ∷ [])) (v I32) (s 432 475)) (v I32) (s 416 475)) (v I32)
    (s 415 476)) (t_place (t_variable 2 (v I32) (s 479 480))) (v I32) (s 415 480)) (s 397 480)) (s 397 481)) ∷
    (t_simple (t_assign (t_element (ar 1 (u I32) false) (t_program_index (s 484 496)) (v I32) (s 482 497))
    (t_place (t_variable 2 (v I32) (s 500 501))) (s 482 501)) (s 482 502)) ∷ [])) (s 305 504))) ∷ [])

abbrev arguments_76 : List Argument
arguments_76 = ((AnArray (rw I32 (5 ∷ 8 ∷ 2147483649 ∷ 4294967291 ∷ 2782291675 ∷ 4294967287 ∷ 2147483648 ∷ 434896077 ∷ []))) ∷
    (AnArray (rw I32 (7 ∷ 3958422258 ∷ 420442493 ∷ 2147483649 ∷ 4294967292 ∷ 4294967295 ∷ 4294967295 ∷ 2147483646 ∷ 8 ∷ 3 ∷ 2745253999 ∷ []))) ∷ [])

run_76_of_0 : run_of program_76 2 0 arguments_76
    ≡ Ends ((rw I32 (8 ∷ 8 ∷ 2147483649 ∷ 4294967291 ∷ 2782291675 ∷ 4294967283 ∷ 2147483648 ∷ 434896073 ∷ [])) ∷
    (rw I32 (8 ∷ 8 ∷ 2147483649 ∷ 4294967291 ∷ 2782291675 ∷ 4294967287 ∷ 2147483648 ∷ 434896077 ∷ 8 ∷ 3 ∷ 2745253999 ∷ [])) ∷ []) None ([])
unfolding digits number_to wrap_to amount not_zero
run_76_of_0 = refl

work_76_of_0 : work_of program_76 2 0 arguments_76 ≡ 41
unfolding digits number_to wrap_to amount not_zero
work_76_of_0 = refl

-- int32 g0(varying bool p1) { print("\t%z\n", shift((unsigned int64) p1, 7)); return shuffle(max(0b1110LL, programIndex), programIndex > programIndex); }
-- int g1(unsigned p2) { unmasked { g0(programIndex); } { g0(programIndex); } { int k3 = programIndex; do { k3++;  int16 t4[3]; g0(min(p2, p2)); } while (k3 < 3); } }
-- export void f(uniform signed int a[], uniform uint32 o[], uniform unsigned n) { int x = ~ 256 & (signed int64) n; { a[programIndex] >>= !(x); if
-- ((x) / (programCount | 1)) return; for (int k5 = programIndex; k5 < 3; k5++) { k5 << programCount; } } unmasked { ++x; x--; } a[programIndex] += x;
-- }
abbrev program_82 : Program
program_82 = pr W16 ((fn (Some I32) (Some (v I32)) ((vr (AVariable (v Truth)) false) ∷ [])
    (t_braces (t_stmts ((t_print (s 28 33) (9 ∷ 37 ∷ 122 ∷ 10 ∷ [])
    ((t_library lib.Shift U64 (t_exprs ((t_cast (t_convert U64 (t_place (t_variable 0 (v Truth) (s 67 69)))) (v U64) (s 50 69)) ∷ (cn I32 7 (s 71 72))
    ∷ [])) (v U64) (s 44 73)) ∷ []) (s 28 75)) ∷ (t_return (s 76 82)
    (Some (t_convert I32 (t_library lib.Shuffle I64 (t_exprs
    ((t_library lib.Max I64 (t_exprs ((cn I64 14 (s 95 103)) ∷ (t_convert I64 (t_program_index (s 105 117))) ∷ [])) (v I64) (s 91 118)) ∷
    (t_convert I32 (t_compare cmp.Greater (t_program_index (s 120 132)) (t_program_index (s 135 147)) Varying (s 120 147))) ∷ [])) (v I64)
    (s 83 148)))) (s 76 149)) ∷ [])) (s 26 151))) ∷ (fn (Some I32) (Some (v I32))
    ((vr (AVariable (v U32)) false) ∷ (vr (AVariable (v I32)) false) ∷ (vr (Local (v I16) 3) false) ∷ [])
    (t_braces (t_stmts ((t_unmasked (s 174 182) (t_braces
    (t_stmts ((t_simple (t_value (t_call (t_called 0 (t_arguments ((t_by_value (t_convert Truth (t_program_index (s 188 200)))) ∷ [])) (s 185 201))
    (v I32))) (s 185 202)) ∷ [])) (s 183 204)) (s 174 204)) ∷
    (t_block (t_braces (t_stmts ((t_simple (t_value (t_call
    (t_called 0 (t_arguments ((t_by_value (t_convert Truth (t_program_index (s 210 222)))) ∷ [])) (s 207 223)) (v I32))) (s 207 224)) ∷ []))
    (s 205 226))) ∷ (t_block (t_braces (t_stmts ((t_declare ((t_with_value 1 (v I32) (t_program_index (s 238 250)) (s 233 250)) ∷ []) (s 229 251)) ∷
    (t_do Plain 2 (t_block (t_braces (t_stmts ((t_simple (t_step op.Add I32 (t_variable 1 (v I32) (s 257 259)) (s 257 261)) (s 257 262)) ∷
    (t_declare ((t_with_size (ar 2 (v I16) false) (s 270 275)) ∷ []) (s 264 276)) ∷
    (t_simple (t_value (t_call (t_called 0 (t_arguments
    ((t_by_value (t_convert Truth (t_library lib.Min U32
    (t_exprs ((t_place (t_variable 0 (v U32) (s 284 286))) ∷ (t_place (t_variable 0 (v U32) (s 288 290))) ∷ [])) (v U32) (s 280 291)))) ∷ []))
    (s 277 292)) (v I32))) (s 277 293)) ∷ [])) (s 255 295)))
    (t_compare cmp.Less (t_place (t_variable 1 (v I32) (s 303 305))) (cn I32 3 (s 308 309)) Varying (s 303 309)) (s 252 311)) ∷ [])) (s 227 313))) ∷
    [])) (s 172 315))) ∷ (fn None None ((vr (Given I32) false) ∷ (vr (Given U32) false) ∷ (vr (AVariable (u U32)) false) ∷
    (vr (AVariable (v I32)) false) ∷ (vr (AVariable (v I32)) false) ∷ [])
    (t_braces (t_stmts ((t_declare ((t_with_value 3 (v I32)
    (t_convert I32 (t_binary op.And (t_convert I64 (t_unary un.Invert (cn I32 256 (s 406 409)) (u I32) (s 404 409)))
    (t_cast (t_convert I64 (t_place (t_variable 2 (u U32) (s 427 428)))) (u I64) (s 412 428)) (u I64) (s 404 428))) (s 400 428)) ∷ []) (s 396 429)) ∷
    (t_block (t_braces (t_stmts ((t_simple (t_update op.Shr I32 (t_element (ar 0 (u I32) false) (t_program_index (s 434 446)) (v I32) (s 432 447))
    (t_convert I32 (t_unary un.Not (t_convert Truth (t_cast (t_place (t_variable 3 (v I32) (s 454 455))) (v I32) (s 453 456))) (v Truth) (s 452 456)))
    (s 432 456)) (s 432 457)) ∷ (t_if Plain 4 (t_convert Truth
    (t_binary op.Div (t_cast (t_place (t_variable 3 (v I32) (s 463 464))) (v I32) (s 462 465))
    (t_cast (t_binary op.Or (cn I32 16 (s 469 481)) (cn I32 1 (s 484 485)) (u I32) (s 469 485)) (u I32) (s 468 486)) (v I32) (s 462 486)))
    (t_return (s 488 494) None (s 488 495)) (s 458 495)) ∷
    (t_for Plain 4 (Some (t_first_declare ((t_with_value 4 (v I32) (t_program_index (s 510 522)) (s 505 522)) ∷ []) (s 501 522)))
    (Some (t_compare cmp.Less (t_place (t_variable 4 (v I32) (s 524 526))) (cn I32 3 (s 529 530)) Varying (s 524 530)))
    (Some (t_step op.Add I32 (t_variable 4 (v I32) (s 532 534)) (s 532 536))) 5
    (t_block (t_braces (t_stmts ((t_simple (t_value (t_binary op.Shl (t_place (t_variable 4 (v I32) (s 540 542))) (cn I32 16 (s 546 558)) (v I32)
    (s 540 558))) (s 540 559)) ∷ [])) (s 538 561))) (s 496 561)) ∷ [])) (s 430 563))) ∷
    (t_unmasked (s 564 572) (t_braces (t_stmts ((t_simple (t_step op.Add I32 (t_variable 3 (v I32) (s 577 578)) (s 575 578)) (s 575 579)) ∷
    (t_simple (t_step op.Sub I32 (t_variable 3 (v I32) (s 580 581)) (s 580 583)) (s 580 584)) ∷ [])) (s 573 586)) (s 564 586)) ∷
    (t_simple (t_update op.Add I32 (t_element (ar 0 (u I32) false) (t_program_index (s 589 601)) (v I32) (s 587 602))
    (t_place (t_variable 3 (v I32) (s 606 607))) (s 587 607)) (s 587 608)) ∷ [])) (s 394 610))) ∷ [])

abbrev arguments_82 : List Argument
arguments_82 = ((AnArray (rw I32 (4294967292 ∷ 4294967293 ∷ 1270041454 ∷ 2147483646 ∷ 2147483646 ∷ 3749151152 ∷ 4294967288 ∷ 4294967287 ∷ 4294967294 ∷
    4294967290 ∷ 6 ∷ 2147483646 ∷ 302666586 ∷ 4294967290 ∷ 605402005 ∷ 8 ∷ 9 ∷ 2147483648 ∷ 4294967295 ∷ []))) ∷
    (AnArray (rw U32 (8 ∷ 8 ∷ 4294967295 ∷ 1 ∷ 1 ∷ 6 ∷ 3290602634 ∷ 4 ∷ 2 ∷ 0 ∷ 516229446 ∷ 1 ∷ 4 ∷ 9 ∷ 2126149737 ∷ 2 ∷ []))) ∷
    (AValue (record { elem = U32; bits = 8 })) ∷ [])

run_82_of_0 : run_of program_82 2 0 arguments_82 ≡ GoesOn ([])
unfolding digits number_to wrap_to amount not_zero
run_82_of_0 = refl

work_82_of_0 : work_of program_82 2 0 arguments_82 ≡ 30
unfolding digits number_to wrap_to amount not_zero
work_82_of_0 = refl

run_82_of_1 : run_of program_82 2 1 arguments_82 ≡ GoesOn ([])
unfolding digits number_to wrap_to amount not_zero
run_82_of_1 = refl

work_82_of_1 : work_of program_82 2 1 arguments_82 ≡ 41
unfolding digits number_to wrap_to amount not_zero
work_82_of_1 = refl

run_82_of_2 : run_of program_82 2 2 arguments_82 ≡ GoesOn ([])
unfolding digits number_to wrap_to amount not_zero
run_82_of_2 = refl

work_82_of_2 : work_of program_82 2 2 arguments_82 ≡ 52
unfolding digits number_to wrap_to amount not_zero
work_82_of_2 = refl

run_82_of_5 : run_of program_82 2 5 arguments_82
    ≡ Ends ((rw I32 (4 ∷ 5 ∷ 1270041462 ∷ 2147483654 ∷ 2147483654 ∷ 3749151160 ∷ 0 ∷ 4294967295 ∷ 6 ∷ 2 ∷ 14 ∷ 2147483654 ∷ 302666594 ∷ 2 ∷ 605402013
    ∷ 16 ∷ 9 ∷ 2147483648 ∷ 4294967295 ∷ [])) ∷ (rw U32
    (8 ∷ 8 ∷ 4294967295 ∷ 1 ∷ 1 ∷ 6 ∷ 3290602634 ∷ 4 ∷ 2 ∷ 0 ∷ 516229446 ∷ 1 ∷ 4 ∷ 9 ∷ 2126149737 ∷ 2 ∷ [])) ∷ []) None ([])
unfolding digits number_to wrap_to amount not_zero
run_82_of_5 = refl

work_82_of_5 : work_of program_82 2 5 arguments_82 ≡ 73
unfolding digits number_to wrap_to amount not_zero
work_82_of_5 = refl

-- int16 g0(uniform signed int b1[]) { ; ; return (uint) b1[2]; }
-- uniform int32 g1(int8 p2) { unmasked { programCount; ; } return 5; }
-- export void f(uniform int a[], uniform signed o[], uniform signed int64 z[], uniform unsigned int8 n) { int x = reduce_max(n) | n; --n; shuffle(x, 16ul); n = packed_load_active(&o[3], &x); a[programIndex] += x; }
abbrev program_95 : Program
program_95 = pr W8 ((fn (Some I16) (Some (v I16)) ((vr (Given I32) false) ∷ [])
    (t_braces (t_stmts ((t_block (t_braces (t_stmts ([])) (s 36 37))) ∷ (t_block (t_braces (t_stmts ([])) (s 38 39))) ∷
    (t_return (s 40 46) (Some (t_convert I16 (t_cast (t_convert U32 (t_place (t_element (ar 0 (u I32) false) (cn I32 2 (s 57 58)) (u I32) (s 54 59))))
    (u U32) (s 47 59)))) (s 40 60)) ∷ [])) (s 34 62))) ∷
    (fn (Some I32) (Some (u I32)) ((vr (AVariable (v I8)) false) ∷ [])
    (t_braces (t_stmts ((t_unmasked (s 91 99) (t_braces
    (t_stmts ((t_simple (t_value (cn I32 8 (s 102 114))) (s 102 115)) ∷ (t_block (t_braces (t_stmts ([])) (s 116 117))) ∷ [])) (s 100 119))
    (s 91 119)) ∷ (t_return (s 120 126) (Some (cn I32 5 (s 127 128))) (s 120 129)) ∷ [])) (s 89 131))) ∷
    (fn None None ((vr (Given I32) false) ∷ (vr (Given I32) false) ∷ (vr (Given I64) false) ∷ (vr (AVariable (u U8)) false) ∷
    (vr (AVariable (v I32)) false) ∷ []) (t_braces (t_stmts
    ((t_declare ((t_with_value 4 (v I32) (t_convert I32
    (t_binary op.Or (t_library lib.ReduceMax U8 (t_exprs ((t_place (t_variable 3 (u U8) (s 255 256))) ∷ [])) (u U8) (s 244 257))
    (t_place (t_variable 3 (u U8) (s 260 261))) (u U8) (s 244 261))) (s 240 261)) ∷ []) (s 236 262)) ∷
    (t_simple (t_step op.Sub I32 (t_variable 3 (u U8) (s 265 266)) (s 263 266)) (s 263 267)) ∷
    (t_simple (t_value (t_library lib.Shuffle I32 (t_exprs
    ((t_place (t_variable 4 (v I32) (s 276 277))) ∷ (t_convert I32 (cn U64 16 (s 279 283))) ∷ [])) (v I32) (s 268 284))) (s 268 285)) ∷
    (t_simple (t_assign (t_variable 3 (u U8) (s 286 287))
    (t_convert U8 (t_packed_load (t_from (ar 1 (u I32) false) (cn I32 3 (s 312 313)) (s 310 311)) 4 (s 290 319))) (s 286 319)) (s 286 320)) ∷
    (t_simple (t_update op.Add I32 (t_element (ar 0 (u I32) false) (t_program_index (s 323 335)) (v I32) (s 321 336))
    (t_place (t_variable 4 (v I32) (s 340 341))) (s 321 341)) (s 321 342)) ∷ [])) (s 234 344))) ∷ [])

abbrev arguments_95 : List Argument
arguments_95 = ((AnArray (rw I32 (2147483647 ∷ 2147483646 ∷ 4294967292 ∷ 4294967288 ∷ 4294967294 ∷ 8 ∷ 2788479296 ∷ 4294967292 ∷ []))) ∷
    (AnArray (rw I32 (1586014780 ∷ 2147483647 ∷ 4030239146 ∷ 2147483649 ∷ 1 ∷ 2 ∷ 123193476 ∷ 9 ∷ 4294967289 ∷ 1 ∷ 2147483648 ∷ []))) ∷
    (AnArray (rw I64 (9223372036854775806 ∷ 18446744073709551610 ∷ 9223372036854775809 ∷ 18446744073709551613 ∷ []))) ∷
    (AValue (record { elem = U8; bits = 5 })) ∷ [])

run_95_of_0 : run_of program_95 2 0 arguments_95
    ≡ Ends ((rw I32 (0 ∷ 2147483647 ∷ 4294967294 ∷ 123193468 ∷ 7 ∷ 1 ∷ 2788479297 ∷ 2147483644 ∷ [])) ∷
    (rw I32 (1586014780 ∷ 2147483647 ∷ 4030239146 ∷ 2147483649 ∷ 1 ∷ 2 ∷ 123193476 ∷ 9 ∷ 4294967289 ∷ 1 ∷ 2147483648 ∷ [])) ∷
    (rw I64 (9223372036854775806 ∷ 18446744073709551610 ∷ 9223372036854775809 ∷ 18446744073709551613 ∷ [])) ∷ []) None ([])
unfolding digits number_to wrap_to amount not_zero
run_95_of_0 = refl

work_95_of_0 : work_of program_95 2 0 arguments_95 ≡ 23
unfolding digits number_to wrap_to amount not_zero
work_95_of_0 = refl

-- uniform signed int g0() { ; return 100 >> 6 ^ 38ULL; ; return extract(5, false); }
-- unsigned int16 g1(uniform int p1) { cfor (uniform int k2 = 0; k2 < 3; k2++) { p1 >>= -(p1 < k2 - p1 - 5); p1 &= g0(); } return ((varying signed int) p1 ? 0Lu : p1 << p1); }
-- export void f(uniform int a[], uniform int64 o[], uniform signed n) { int x = none(o[programIndex]) | 9223372036854775807 == n; int32 v3 = x, v4 = x; v4 ^= ! v3; a[programIndex] += x; }
abbrev program_103 : Program
program_103 = pr W8 ((fn (Some I32) (Some (u I32)) ([])
    (t_braces (t_stmts ((t_block (t_braces (t_stmts ([])) (s 26 27))) ∷
    (t_return (s 28 34) (Some (t_convert I32 (t_binary op.Xor
    (t_convert U64 (t_binary op.Shr (cn I32 100 (s 35 38)) (cn I32 6 (s 42 43)) (u I32) (s 35 43))) (cn U64 38 (s 46 51)) (u U64) (s 35 51))))
    (s 28 52)) ∷ (t_block (t_braces (t_stmts ([])) (s 53 54))) ∷
    (t_return (s 55 61) (Some (t_library lib.Extract I32 (t_exprs ((cn I32 5 (s 70 71)) ∷ (t_convert I32 (cn Truth 0 (s 73 78))) ∷ [])) (u I32)
    (s 62 79))) (s 55 80)) ∷ [])) (s 24 82))) ∷ (fn (Some U16) (Some (v U16)) ((vr (AVariable (u I32)) false) ∷ (vr (AVariable (u I32)) false) ∷ [])
    (t_braces (t_stmts ((t_for Plain 1 (Some (t_first_declare ((t_with_value 1 (u I32) (cn I32 0 (s 142 143)) (s 137 143)) ∷ []) (s 125 143)))
    (Some (t_compare cmp.Less (t_place (t_variable 1 (u I32) (s 145 147))) (cn I32 3 (s 150 151)) Uniform (s 145 151)))
    (Some (t_step op.Add I32 (t_variable 1 (u I32) (s 153 155)) (s 153 157))) 2
    (t_block (t_braces (t_stmts ((t_simple (t_update op.Shr I32 (t_variable 0 (u I32) (s 161 163))
    (t_unary un.Negate (t_convert I32 (t_cast (t_compare cmp.Less (t_place (t_variable 0 (u I32) (s 170 172)))
    (t_binary op.Sub (t_binary op.Sub (t_place (t_variable 1 (u I32) (s 175 177))) (t_place (t_variable 0 (u I32) (s 180 182))) (u I32) (s 175 182))
    (cn I32 5 (s 185 186)) (u I32) (s 175 186)) Uniform (s 170 186)) (u Truth) (s 169 187))) (u I32) (s 168 187)) (s 161 187)) (s 161 188)) ∷
    (t_simple (t_update op.And I32 (t_variable 0 (u I32) (s 189 191)) (t_call (t_called 0 (t_arguments ([])) (s 195 199)) (u I32)) (s 189 199))
    (s 189 200)) ∷ [])) (s 159 202))) (s 119 202)) ∷
    (t_return (s 203 209) (Some (t_convert U16 (t_cast
    (t_choose (t_convert Truth (t_cast (t_place (t_variable 0 (u I32) (s 232 234))) (v I32) (s 211 234))) (cn U64 0 (s 237 240))
    (t_convert U64 (t_binary op.Shl (t_place (t_variable 0 (u I32) (s 243 245))) (t_place (t_variable 0 (u I32) (s 249 251))) (u I32) (s 243 251)))
    (v U64) (s 211 251)) (v U64) (s 210 252)))) (s 203 253)) ∷ [])) (s 117 255))) ∷
    (fn None None ((vr (Given I32) false) ∷ (vr (Given I64) false) ∷ (vr (AVariable (u I32)) false) ∷ (vr (AVariable (v I32)) false) ∷
    (vr (AVariable (v I32)) false) ∷ (vr (AVariable (v I32)) false) ∷ [])
    (t_braces (t_stmts ((t_declare ((t_with_value 3 (v I32)
    (t_binary op.Or (t_convert I32 (t_library lib.None Truth
    (t_exprs ((t_convert Truth (t_place (t_element (ar 1 (u I64) false) (t_program_index (s 341 353)) (v I64) (s 339 354)))) ∷ [])) (u Truth)
    (s 334 355))) (t_convert I32 (t_compare cmp.Equal (cn I64 9223372036854775807 (s 358 377))
    (t_convert I64 (t_place (t_variable 2 (u I32) (s 381 382)))) Uniform (s 358 382))) (u I32) (s 334 382)) (s 330 382)) ∷ []) (s 326 383)) ∷
    (t_declare ((t_with_value 4 (v I32) (t_place (t_variable 3 (v I32) (s 395 396))) (s 390 396)) ∷
    (t_with_value 5 (v I32) (t_place (t_variable 3 (v I32) (s 403 404))) (s 398 404)) ∷ []) (s 384 405)) ∷
    (t_simple (t_update op.Xor I32 (t_variable 5 (v I32) (s 406 408))
    (t_convert I32 (t_unary un.Not (t_convert Truth (t_place (t_variable 4 (v I32) (s 414 416)))) (v Truth) (s 412 416))) (s 406 416)) (s 406 417)) ∷
    (t_simple (t_update op.Add I32 (t_element (ar 0 (u I32) false) (t_program_index (s 420 432)) (v I32) (s 418 433))
    (t_place (t_variable 3 (v I32) (s 437 438))) (s 418 438)) (s 418 439)) ∷ [])) (s 324 441))) ∷ [])

abbrev arguments_103 : List Argument
arguments_103 = ((AnArray (rw I32 (4294967295 ∷ 4294967290 ∷ 3 ∷ 4294967292 ∷ 4294967289 ∷ 2147483649 ∷ 1259322152 ∷ 2147483646 ∷ 4294967290 ∷
    4294967292 ∷ 0 ∷ 4294967289 ∷ []))) ∷ (AnArray (rw I64
    (8606636163242459254 ∷ 2 ∷ 9223372036854775806 ∷ 9223372036854775808 ∷ 9223372036854775809 ∷ 16559259505680132745 ∷ 18446744073709551611 ∷ 1 ∷ 5 ∷
    14545223504334767304 ∷ 5187398504102681180 ∷ []))) ∷ (AValue (record { elem = I32; bits = 2147483647 })) ∷ [])

run_103_of_0 : run_of program_103 2 0 arguments_103
    ≡ Ends ((rw I32 (4294967295 ∷ 4294967290 ∷ 3 ∷ 4294967292 ∷ 4294967289 ∷ 2147483649 ∷ 1259322152 ∷ 2147483646 ∷ 4294967290 ∷ 4294967292 ∷ 0 ∷
    4294967289 ∷ [])) ∷ (rw I64 (8606636163242459254 ∷ 2 ∷ 9223372036854775806 ∷ 9223372036854775808 ∷ 9223372036854775809 ∷ 16559259505680132745 ∷
    18446744073709551611 ∷ 1 ∷ 5 ∷ 14545223504334767304 ∷ 5187398504102681180 ∷ [])) ∷ []) None ([])
unfolding digits number_to wrap_to amount not_zero
run_103_of_0 = refl

work_103_of_0 : work_of program_103 2 0 arguments_103 ≡ 23
unfolding digits number_to wrap_to amount not_zero
work_103_of_0 = refl

-- void g0(bool p1, uniform signed int p2) { p2 = reduce_min(reduce_add(programIndex) << p2 * p1); }
-- uniform signed int8 g1(uniform int8 p3) { if (-(p3 ^ p3)) { signed int v4; } int16 v5; return 7; }
-- export uniform signed int64 f(uniform int32 a[], uniform int32 o[], uniform int16 z[]) { int x = select((programCount) % (true | 1),
-- a[(programIndex ^ (exclusive_scan_or(a[(a[programIndex] >> programIndex) & 7]))) & 7], 5 | a[programIndex]); if ((x)) return extract(x, 0x3d07fd);
-- ; o[programIndex] = x; return -(reduce_min(programIndex)); }
abbrev program_121 : Program
program_121 = pr W8 ((fn None None ((vr (AVariable (v Truth)) false) ∷ (vr (AVariable (u I32)) false) ∷ [])
    (t_braces (t_stmts ((t_simple (t_assign (t_variable 1 (u I32) (s 42 44))
    (t_convert I32 (t_library lib.ReduceMin I64 (t_exprs
    ((t_binary op.Shl (t_library lib.ReduceAdd I32 (t_exprs ((t_program_index (s 69 81)) ∷ [])) (u I64) (s 58 82))
    (t_convert I64 (t_binary op.Mul (t_place (t_variable 1 (u I32) (s 86 88))) (t_convert I32 (t_place (t_variable 0 (v Truth) (s 91 93)))) (v I32)
    (s 86 93))) (v I64) (s 58 93)) ∷ [])) (u I64) (s 47 94))) (s 42 94)) (s 42 95)) ∷ [])) (s 40 97))) ∷
    (fn (Some I8) (Some (u I8)) ((vr (AVariable (u I8)) false) ∷ (vr (AVariable (v I32)) false) ∷ (vr (AVariable (v I16)) false) ∷ [])
    (t_braces (t_stmts ((t_if Plain 1 (t_convert Truth
    (t_unary un.Negate (t_cast (t_binary op.Xor (t_place (t_variable 0 (u I8) (s 146 148))) (t_place (t_variable 0 (u I8) (s 151 153))) (u I8)
    (s 146 153)) (u I8) (s 145 154)) (u I8) (s 144 154)))
    (t_block (t_braces (t_stmts ((t_declare ((t_plain 1 (v I32) (s 169 171)) ∷ []) (s 158 172)) ∷ [])) (s 156 174))) (s 140 174)) ∷
    (t_declare ((t_plain 2 (v I16) (s 181 183)) ∷ []) (s 175 184)) ∷ (t_return (s 185 191) (Some (t_convert I8 (cn I32 7 (s 192 193)))) (s 185 194)) ∷
    [])) (s 138 196))) ∷ (fn (Some I64) (Some (u I64))
    ((vr (Given I32) false) ∷ (vr (Given I32) false) ∷ (vr (Given I16) false) ∷ (vr (AVariable (v I32)) false) ∷ [])
    (t_braces (t_stmts ((t_declare ((t_with_value 3 (v I32)
    (t_library lib.Select I32 (t_exprs ((t_convert Truth
    (t_binary op.Rem (t_cast (cn I32 8 (s 302 314)) (u I32) (s 301 315))
    (t_cast (t_binary op.Or (t_convert I32 (cn Truth 1 (s 319 323))) (cn I32 1 (s 326 327)) (u I32) (s 319 327)) (u I32) (s 318 328)) (u I32)
    (s 301 328))) ∷ (t_place (t_element (ar 0 (u I32) false)
    (t_binary op.And (t_cast (t_binary op.Xor (t_program_index (s 333 345))
    (t_cast (t_library lib.ScanOr I32 (t_exprs ((t_place
    (t_element (ar 0 (u I32) false) (t_binary op.And
    (t_cast (t_binary op.Shr (t_place (t_element (ar 0 (u I32) false) (t_program_index (s 372 384)) (v I32) (s 370 385)))
    (t_program_index (s 389 401)) (v I32) (s 370 401)) (v I32) (s 369 402)) (cn I32 7 (s 405 406)) (v I32) (s 369 406)) (v I32) (s 367 407))) ∷ []))
    (v I32) (s 349 408)) (v I32) (s 348 409)) (v I32) (s 333 409)) (v I32) (s 332 410)) (cn I32 7 (s 413 414)) (v I32) (s 332 414)) (v I32)
    (s 330 415))) ∷ (t_binary op.Or (cn I32 5 (s 417 418))
    (t_place (t_element (ar 0 (u I32) false) (t_program_index (s 423 435)) (v I32) (s 421 436))) (v I32) (s 417 436)) ∷ [])) (v I32) (s 294 437))
    (s 290 437)) ∷ []) (s 286 438)) ∷ (t_if Plain 4 (t_convert Truth (t_cast (t_place (t_variable 3 (v I32) (s 444 445))) (v I32) (s 443 446)))
    (t_return (s 448 454) (Some (t_convert I64 (t_library lib.Extract I32
    (t_exprs ((t_place (t_variable 3 (v I32) (s 463 464))) ∷ (cn I32 3999741 (s 466 474)) ∷ [])) (u I32) (s 455 475)))) (s 448 476)) (s 439 476)) ∷
    (t_block (t_braces (t_stmts ([])) (s 477 478))) ∷
    (t_simple (t_assign (t_element (ar 1 (u I32) false) (t_program_index (s 481 493)) (v I32) (s 479 494))
    (t_place (t_variable 3 (v I32) (s 497 498))) (s 479 498)) (s 479 499)) ∷
    (t_return (s 500 506) (Some (t_convert I64 (t_unary un.Negate
    (t_cast (t_library lib.ReduceMin I32 (t_exprs ((t_program_index (s 520 532)) ∷ [])) (u I32) (s 509 533)) (u I32) (s 508 534)) (u I32)
    (s 507 534)))) (s 500 535)) ∷ [])) (s 284 537))) ∷ [])

abbrev arguments_121 : List Argument
arguments_121 = ((AnArray (rw I32 (4294967294 ∷ 6 ∷ 4294967292 ∷ 4294967292 ∷ 3090257653 ∷ 1318847876 ∷ 4294967290 ∷ 5 ∷ 2147483646 ∷ 262377822 ∷ 7 ∷
    []))) ∷ (AnArray (rw I32 (6 ∷ 2147483648 ∷ 2147483648 ∷ 4294967289 ∷ 2147483647 ∷ 9 ∷ 5 ∷ 5 ∷ 5 ∷ 2147483648 ∷ 653516572 ∷ 4294967288 ∷ []))) ∷
    (AnArray (rw I16 (7 ∷ []))) ∷ [])

run_121_of_0 : run_of program_121 2 0 arguments_121
    ≡ Ends ((rw I32 (4294967294 ∷ 6 ∷ 4294967292 ∷ 4294967292 ∷ 3090257653 ∷ 1318847876 ∷ 4294967290 ∷ 5 ∷ 2147483646 ∷ 262377822 ∷ 7 ∷ [])) ∷
    (rw I32 (6 ∷ 2147483648 ∷ 2147483648 ∷ 4294967289 ∷ 2147483647 ∷ 9 ∷ 5 ∷ 5 ∷ 5 ∷ 2147483648 ∷ 653516572 ∷ 4294967288 ∷ [])) ∷ (rw I16 (7 ∷ [])) ∷
    []) (Some (record { elem = I64; bits = 1318847877 })) ([])
unfolding digits number_to wrap_to amount not_zero
run_121_of_0 = refl

work_121_of_0 : work_of program_121 2 0 arguments_121 ≡ 38
unfolding digits number_to wrap_to amount not_zero
work_121_of_0 = refl

-- uniform signed g0(signed p1, uniform uint16 p2, uniform int32 b3[]) { b3[(p1) & 3] += (18446744073709551615 ? b3[2] - b3[3] : p2 || 0b11100u) << (4) / (p2 | 1); ; return p2; }
-- void g1(varying int32 p4, int32 p5) { signed int v6 = (6) % ((((int) p5 <= 1 | 1)) | 1); }
-- export void f(uniform int32 a[], uniform int8 o[]) { int x = (varying signed int) a[4] + o[programIndex] * o[programIndex]; foreach_tiled (i7 = -1 ... 3) { if (g0(programCount, o[4], a)) continue; } ; o[programIndex] = x; }
abbrev program_129 : Program
program_129 = pr W4 ((fn (Some I32) (Some (u I32)) ((vr (AVariable (v I32)) false) ∷ (vr (AVariable (u U16)) false) ∷ (vr (Given I32) false) ∷ [])
    (t_braces (t_stmts ((t_simple (t_update op.Add I32
    (t_element (ar 2 (u I32) false) (t_binary op.And (t_cast (t_place (t_variable 0 (v I32) (s 74 76))) (v I32) (s 73 77)) (cn I32 3 (s 80 81))
    (v I32) (s 73 81)) (v I32) (s 70 82)) (t_binary op.Shl
    (t_cast (t_choose (t_convert Truth (cn U64 18446744073709551615 (s 87 107)))
    (t_binary op.Sub (t_place (t_element (ar 2 (u I32) false) (cn I32 2 (s 113 114)) (u I32) (s 110 115)))
    (t_place (t_element (ar 2 (u I32) false) (cn I32 3 (s 121 122)) (u I32) (s 118 123))) (u I32) (s 110 123))
    (t_convert I32 (t_logic logic.Or (t_convert Truth (t_place (t_variable 1 (u U16) (s 126 128)))) (t_convert Truth (cn U32 28 (s 132 140))) Uniform
    (s 126 140))) (u I32) (s 87 140)) (u I32) (s 86 141))
    (t_binary op.Div (t_cast (cn I32 4 (s 146 147)) (u I32) (s 145 148))
    (t_cast (t_binary op.Or (t_convert I32 (t_place (t_variable 1 (u U16) (s 152 154)))) (cn I32 1 (s 157 158)) (u I32) (s 152 158)) (u I32)
    (s 151 159)) (u I32) (s 145 159)) (u I32) (s 86 159)) (s 70 159)) (s 70 160)) ∷ (t_block (t_braces (t_stmts ([])) (s 161 162))) ∷
    (t_return (s 163 169) (Some (t_convert I32 (t_place (t_variable 1 (u U16) (s 170 172))))) (s 163 173)) ∷ [])) (s 68 175))) ∷
    (fn None None ((vr (AVariable (v I32)) false) ∷ (vr (AVariable (v I32)) false) ∷ (vr (AVariable (v I32)) false) ∷ [])
    (t_braces (t_stmts ((t_declare ((t_with_value 2 (v I32)
    (t_binary op.Rem (t_cast (cn I32 6 (s 231 232)) (u I32) (s 230 233))
    (t_cast (t_binary op.Or (t_cast (t_cast (t_binary op.Or
    (t_convert I32 (t_compare cmp.LessOrEqual (t_cast (t_place (t_variable 1 (v I32) (s 245 247))) (v I32) (s 239 247)) (cn I32 1 (s 251 252)) Varying
    (s 239 252))) (cn I32 1 (s 255 256)) (v I32) (s 239 256)) (v I32) (s 238 257)) (v I32) (s 237 258)) (cn I32 1 (s 261 262)) (v I32) (s 237 262))
    (v I32) (s 236 263)) (v I32) (s 230 263)) (s 225 263)) ∷ []) (s 214 264)) ∷ [])) (s 212 266))) ∷
    (fn None None ((vr (Given I32) false) ∷ (vr (Given I8) false) ∷ (vr (AVariable (v I32)) false) ∷ (vr (AVariable (v I32)) true) ∷ [])
    (t_braces (t_stmts ((t_declare ((t_with_value 2 (v I32)
    (t_binary op.Add (t_cast (t_place (t_element (ar 0 (u I32) false) (cn I32 4 (s 351 352)) (u I32) (s 349 353))) (v I32) (s 328 353))
    (t_convert I32 (t_binary op.Mul (t_place (t_element (ar 1 (u I8) false) (t_program_index (s 358 370)) (v I8) (s 356 371)))
    (t_place (t_element (ar 1 (u I8) false) (t_program_index (s 376 388)) (v I8) (s 374 389))) (v I8) (s 356 389))) (v I32) (s 328 389)) (s 324 389))
    ∷ []) (s 320 390)) ∷ (t_foreach (s 391 404) 3 ((rg 3 (t_unary un.Negate (cn I32 1 (s 412 413)) (u I32) (s 411 413)) (cn I32 3 (s 418 419))
    (s 406 419)) ∷ []) (t_block (t_braces (t_stmts ((t_if Plain 4
    (t_convert Truth (t_call (t_called 0 (t_arguments
    ((t_by_value (cn I32 4 (s 430 442))) ∷ (t_by_value
    (t_convert U16 (t_place (t_element (ar 1 (u I8) false) (cn I32 4 (s 446 447)) (u I8) (s 444 448))))) ∷
    (t_by_name (ar 0 (u I32) false) (s 450 451)) ∷ [])) (s 427 452)) (u I32))) (t_jump Continue (s 454 462) (s 454 463)) (s 423 463)) ∷ []))
    (s 421 465))) (s 391 465)) ∷ (t_block (t_braces (t_stmts ([])) (s 466 467))) ∷
    (t_simple (t_assign (t_element (ar 1 (u I8) false) (t_program_index (s 470 482)) (v I8) (s 468 483))
    (t_convert I8 (t_place (t_variable 2 (v I32) (s 486 487)))) (s 468 487)) (s 468 488)) ∷ [])) (s 318 490))) ∷ [])

abbrev arguments_129 : List Argument
arguments_129 = ((AnArray (rw I32 (3278908235 ∷ 1 ∷ 1269875222 ∷ 9 ∷ 2147483647 ∷ 4294967295 ∷ 9 ∷ 2719155380 ∷ []))) ∷ (AnArray (rw I8 (255 ∷ 252 ∷ 76 ∷ 184 ∷ 247 ∷ []))) ∷ [])

run_129_of_0 : run_of program_129 2 0 arguments_129 ≡ Ends ((rw I32 (253816152 ∷ 1 ∷ 1269875222 ∷ 9 ∷ 2147483647 ∷ 4294967295 ∷ 9 ∷ 2719155380 ∷ [])) ∷ (rw I8 (0 ∷ 15 ∷ 143 ∷ 63 ∷ 247 ∷ [])) ∷ []) None ([])
unfolding digits number_to wrap_to amount not_zero
run_129_of_0 = refl

work_129_of_0 : work_of program_129 2 0 arguments_129 ≡ 56
unfolding digits number_to wrap_to amount not_zero
work_129_of_0 = refl
