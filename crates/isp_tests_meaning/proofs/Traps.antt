-- Traps: what each program does in so many turns and what its work is, against an independent implementation.
use Rattle.std.specs.Prelude.{◌≡◌, true, false, List, [], ◌∷◌, Some, None}
use Rattle.std.proofs.Common.{refl}
use Rattle.std.specs.Fmt.{digits}
use Rattle.isp_base.specs.Values.{number_to, wrap_to, amount, not_zero}
use Rattle.isp_base.specs.Outcomes.{Ends, Traps, GoesOn}
use Rattle.isp_base.specs.Traps.{trap}
use Rattle.isp_base.specs.declared.types.Gang.TheVariants.{W4, W8, W16}
use Rattle.isp_base.specs.declared.types.Elem.TheVariants.{Bool as Truth, I8, U8, I16, U16, I32, U32, I64, U64}
use Rattle.isp_base.specs.declared.types.Rate.TheVariants.{Uniform, Varying}
use Rattle.isp_base.specs.declared.trap.TrapKind.TheVariants as kind
use Rattle.isp_base.specs.declared.operators.BinOp.TheVariants as op
use Rattle.isp_base.specs.declared.operators.UnaryOp.TheVariants as un
use Rattle.isp_base.specs.declared.operators.Compare.TheVariants as cmp
use Rattle.isp_base.specs.declared.signature.Argument.{Argument}
use Rattle.isp_base.specs.declared.signature.Argument.TheVariants.{Array as AnArray, Value as AValue}
use Rattle.isp_tree.specs.declared.stmt.Form.TheVariants.{Plain}
use Rattle.isp_typed.specs.declared.library.Library.TheVariants as lib
use Rattle.isp_typed.specs.declared.variable.Holds.TheVariants.{Value as AVariable, Given}
use Rattle.isp_typed.specs.declared.variable.Logic.TheVariants as logic
use Rattle.isp_typed.specs.Typed.{t_program_index, t_place, t_convert, t_cast, t_unary, t_binary, t_compare, t_logic, t_choose, t_call, t_library, t_packed_store}
use Rattle.isp_typed.specs.Typed.{t_packed_load, t_variable, t_element, t_whole, t_from, t_by_value, t_by_name, t_called, t_arguments, t_exprs}
use Rattle.isp_typed.specs.Typed.{t_plain, t_with_value, t_value, t_run, t_assign, t_update, t_step}
use Rattle.isp_typed.specs.Typed.{t_block, t_declare, t_simple, t_if, t_do, t_foreach, t_return, t_print, t_assert, t_braces, t_stmts, Program}
use Rattle.isp_meaning.specs.Runs.{run_of, work_of}
use Rattle.isp_tests_meaning.specs.Terms.{s, u, v, cn, ar, rg, vr, rw, fn, pr}

-- uniform bool g0(uniform int n1) { ; g0(n1 - 1); ; if (n1) return (bool) 0b0u < n1; return reduce_add(55Lu - n1); }
-- export void f(uniform int32 a[], uniform uint64 o[]) { int x = programIndex >= programIndex < - o[3]; { assert(true); } assert(programIndex < programCount); a[programIndex] += x; }
abbrev program_8 : Program
program_8 = pr W8 ((fn (Some Truth) (Some (u Truth)) ((vr (AVariable (u I32)) false) ∷ [])
    (t_braces (t_stmts ((t_block (t_braces (t_stmts ([])) (s 34 35))) ∷
    (t_simple (t_value (t_call (t_called 0 (t_arguments
    ((t_by_value (t_binary op.Sub (t_place (t_variable 0 (u I32) (s 39 41))) (cn I32 1 (s 44 45)) (u I32) (s 39 45))) ∷ [])) (s 36 46)) (u Truth)))
    (s 36 47)) ∷ (t_block (t_braces (t_stmts ([])) (s 48 49))) ∷
    (t_if Plain 1 (t_convert Truth (t_place (t_variable 0 (u I32) (s 54 56))))
    (t_return (s 58 64) (Some (t_compare cmp.Less (t_convert I32 (t_cast (t_convert Truth (cn U32 0 (s 72 76))) (u Truth) (s 65 76)))
    (t_place (t_variable 0 (u I32) (s 79 81))) Uniform (s 65 81))) (s 58 82)) (s 50 82)) ∷
    (t_return (s 83 89) (Some (t_convert Truth (t_library lib.ReduceAdd U64
    (t_exprs ((t_binary op.Sub (cn U64 55 (s 101 105)) (t_convert U64 (t_place (t_variable 0 (u I32) (s 108 110)))) (u U64) (s 101 110)) ∷ []))
    (u U64) (s 90 111)))) (s 83 112)) ∷ [])) (s 32 114))) ∷
    (fn None None ((vr (Given I32) false) ∷ (vr (Given U64) false) ∷ (vr (AVariable (v I32)) false) ∷ [])
    (t_braces (t_stmts ((t_declare ((t_with_value 2 (v I32)
    (t_convert I32 (t_compare cmp.Less (t_convert U64
    (t_compare cmp.GreaterOrEqual (t_program_index (s 178 190)) (t_program_index (s 194 206)) Varying (s 178 206)))
    (t_unary un.Negate (t_place (t_element (ar 1 (u U64) false) (cn I32 3 (s 213 214)) (u U64) (s 211 215))) (u U64) (s 209 215)) Varying
    (s 178 215))) (s 174 215)) ∷ []) (s 170 216)) ∷ (t_block
    (t_braces (t_stmts ((t_assert (cn Truth 1 (s 226 230)) (s 219 231) (s 219 232)) ∷ [])) (s 217 234))) ∷
    (t_assert (t_compare cmp.Less (t_program_index (s 242 254)) (cn I32 8 (s 257 269)) Varying (s 242 269)) (s 235 270) (s 235 271)) ∷
    (t_simple (t_update op.Add I32 (t_element (ar 0 (u I32) false) (t_program_index (s 274 286)) (v I32) (s 272 287))
    (t_place (t_variable 2 (v I32) (s 291 292))) (s 272 292)) (s 272 293)) ∷ [])) (s 168 295))) ∷ [])

abbrev arguments_8 : List Argument
arguments_8 = ((AnArray (rw I32 (1275085998 ∷ 1151726887 ∷ 4294967291 ∷ 2147483647 ∷ 4294967293 ∷ 3 ∷ 1 ∷ 4294967292 ∷ 615154593 ∷ []))) ∷
    (AnArray (rw U64 (1 ∷ 2 ∷ 3 ∷ 0 ∷ 6 ∷ 3 ∷ 5 ∷ 2597858899053628332 ∷ 2 ∷ 9 ∷ 12762208072033387607 ∷ 2 ∷ []))) ∷ [])

run_8_of_0 : run_of program_8 1 0 arguments_8 ≡ Ends
    ((rw I32 (1275085998 ∷ 1151726887 ∷ 4294967291 ∷ 2147483647 ∷ 4294967293 ∷ 3 ∷ 1 ∷ 4294967292 ∷ 615154593 ∷ [])) ∷
    (rw U64 (1 ∷ 2 ∷ 3 ∷ 0 ∷ 6 ∷ 3 ∷ 5 ∷ 2597858899053628332 ∷ 2 ∷ 9 ∷ 12762208072033387607 ∷ 2 ∷ [])) ∷ []) None ([])
unfolding digits number_to wrap_to amount not_zero
run_8_of_0 = refl

work_8_of_0 : work_of program_8 1 0 arguments_8 ≡ 21
unfolding digits number_to wrap_to amount not_zero
work_8_of_0 = refl

-- void g0() { ; ; assert(programIndex < programCount); }
-- export uniform unsigned f(uniform signed int a[], uniform signed o[], uniform signed int n) { int x = (n ? 1 : programIndex) >= (n ? programIndex :
-- n); return ~((n) / (n | 1)); x += (-(~(x)) ? programIndex && insert(x, 0, 5) : x); print("=%\n", -((a[(4 << programCount) & 3])));
-- packed_load_active(&o, &x); o[programIndex] = x; return n; }
abbrev program_12 : Program
program_12 = pr W4 ((fn None None ([]) (t_braces
    (t_stmts ((t_block (t_braces (t_stmts ([])) (s 12 13))) ∷ (t_block (t_braces (t_stmts ([])) (s 14 15))) ∷
    (t_assert (t_compare cmp.Less (t_program_index (s 23 35)) (cn I32 4 (s 38 50)) Varying (s 23 50)) (s 16 51) (s 16 52)) ∷ [])) (s 10 54))) ∷
    (fn (Some U32) (Some (u U32)) ((vr (Given I32) false) ∷ (vr (Given I32) false) ∷ (vr (AVariable (u I32)) false) ∷ (vr (AVariable (v I32)) false) ∷
    []) (t_braces (t_stmts ((t_declare ((t_with_value 3 (v I32)
    (t_convert I32 (t_compare cmp.GreaterOrEqual (t_cast
    (t_choose (t_convert Truth (t_place (t_variable 2 (u I32) (s 158 159)))) (cn I32 1 (s 162 163)) (t_program_index (s 166 178)) (v I32) (s 158 178))
    (v I32) (s 157 179)) (t_cast (t_choose (t_convert Truth (t_place (t_variable 2 (u I32) (s 184 185)))) (t_program_index (s 188 200))
    (t_place (t_variable 2 (u I32) (s 203 204))) (v I32) (s 184 204)) (v I32) (s 183 205)) Varying (s 157 205))) (s 153 205)) ∷ []) (s 149 206)) ∷
    (t_return (s 207 213) (Some (t_convert U32 (t_unary un.Invert
    (t_cast (t_binary op.Div (t_cast (t_place (t_variable 2 (u I32) (s 217 218))) (u I32) (s 216 219))
    (t_cast (t_binary op.Or (t_place (t_variable 2 (u I32) (s 223 224))) (cn I32 1 (s 227 228)) (u I32) (s 223 228)) (u I32) (s 222 229)) (u I32)
    (s 216 229)) (u I32) (s 215 230)) (u I32) (s 214 230)))) (s 207 231)) ∷
    (t_simple (t_update op.Add I32 (t_variable 3 (v I32) (s 232 233))
    (t_cast (t_choose (t_convert Truth (t_unary un.Negate
    (t_cast (t_unary un.Invert (t_cast (t_place (t_variable 3 (v I32) (s 242 243))) (v I32) (s 241 244)) (v I32) (s 240 244)) (v I32) (s 239 245))
    (v I32) (s 238 245))) (t_convert I32 (t_logic logic.And (t_convert Truth (t_program_index (s 248 260)))
    (t_convert Truth (t_library lib.Insert I32 (t_exprs
    ((t_place (t_variable 3 (v I32) (s 271 272))) ∷ (cn I32 0 (s 274 275)) ∷ (cn I32 5 (s 277 278)) ∷ [])) (v I32) (s 264 279))) Varying (s 248 279)))
    (t_place (t_variable 3 (v I32) (s 282 283))) (v I32) (s 238 283)) (v I32) (s 237 284)) (s 232 284)) (s 232 285)) ∷
    (t_print (s 286 291) (61 ∷ 37 ∷ 10 ∷ []) ((t_unary un.Negate
    (t_cast (t_cast (t_place (t_element (ar 0 (u I32) false)
    (t_binary op.And (t_cast (t_binary op.Shl (cn I32 4 (s 306 307)) (cn I32 4 (s 311 323)) (u I32) (s 306 323)) (u I32) (s 305 324))
    (cn I32 3 (s 327 328)) (u I32) (s 305 328)) (u I32) (s 303 329))) (u I32) (s 302 330)) (u I32) (s 301 331)) (u I32) (s 300 331)) ∷ [])
    (s 286 333)) ∷ (t_simple (t_value (t_packed_load (t_whole (ar 1 (u I32) false) (s 354 355)) 3 (s 334 360))) (s 334 361)) ∷
    (t_simple (t_assign (t_element (ar 1 (u I32) false) (t_program_index (s 364 376)) (v I32) (s 362 377))
    (t_place (t_variable 3 (v I32) (s 380 381))) (s 362 381)) (s 362 382)) ∷
    (t_return (s 383 389) (Some (t_convert U32 (t_place (t_variable 2 (u I32) (s 390 391))))) (s 383 392)) ∷ [])) (s 147 394))) ∷ [])

abbrev arguments_12 : List Argument
arguments_12 = ((AnArray (rw I32 (2147483647 ∷ 3 ∷ 3902992635 ∷ 2147483646 ∷ []))) ∷
    (AnArray (rw I32 (4294967293 ∷ 4 ∷ 2147483648 ∷ 1066419697 ∷ 1 ∷ 2579758936 ∷ 2147483646 ∷ 4294967293 ∷ []))) ∷
    (AValue (record { elem = I32; bits = 2147483646 })) ∷ [])

run_12_of_0 : run_of program_12 1 0 arguments_12
    ≡ Ends ((rw I32 (2147483647 ∷ 3 ∷ 3902992635 ∷ 2147483646 ∷ [])) ∷
    (rw I32 (4294967293 ∷ 4 ∷ 2147483648 ∷ 1066419697 ∷ 1 ∷ 2579758936 ∷ 2147483646 ∷ 4294967293 ∷ [])) ∷ [])
    (Some (record { elem = U32; bits = 4294967295 })) ([])
unfolding digits number_to wrap_to amount not_zero
run_12_of_0 = refl

work_12_of_0 : work_of program_12 1 0 arguments_12 ≡ 22
unfolding digits number_to wrap_to amount not_zero
work_12_of_0 = refl

-- int32 g0(uniform signed int64 p1) { ; }
-- export uniform int16 f(uniform signed int a[], uniform unsigned int8 o[], uniform unsigned int8 n) { int x = (int32) insert(n, n, n); if
-- (!(o[(programIndex ^ (none(x))) & 7])) return (65535) % (6) == 5 + 2147483648; n = n; { { o[4] ^= reduce_add((!(x)) % 3); } } a[programIndex] += x;
-- return n + (uniform uint16) n; }
abbrev program_13 : Program
program_13 = pr W4 ((fn (Some I32) (Some (v I32)) ((vr (AVariable (u I64)) false) ∷ [])
    (t_braces (t_stmts ((t_block (t_braces (t_stmts ([])) (s 36 37))) ∷ [])) (s 34 39))) ∷
    (fn (Some I16) (Some (u I16)) ((vr (Given I32) false) ∷ (vr (Given U8) false) ∷ (vr (AVariable (u U8)) false) ∷ (vr (AVariable (v I32)) false) ∷
    []) (t_braces (t_stmts ((t_declare ((t_with_value 3 (v I32)
    (t_cast (t_convert I32 (t_library lib.Insert U8 (t_exprs
    ((t_place (t_variable 2 (u U8) (s 164 165))) ∷ (t_convert I32 (t_place (t_variable 2 (u U8) (s 167 168)))) ∷
    (t_place (t_variable 2 (u U8) (s 170 171))) ∷ [])) (v U8) (s 157 172))) (v I32) (s 149 172)) (s 145 172)) ∷ []) (s 141 173)) ∷
    (t_if Plain 4 (t_unary un.Not (t_convert Truth (t_cast
    (t_place (t_element (ar 1 (u U8) false) (t_binary op.And
    (t_cast (t_binary op.Xor (t_program_index (s 183 195))
    (t_convert I32 (t_cast (t_library lib.None Truth (t_exprs ((t_convert Truth (t_place (t_variable 3 (v I32) (s 204 205)))) ∷ [])) (u Truth)
    (s 199 206)) (u Truth) (s 198 207))) (v I32) (s 183 207)) (v I32) (s 182 208)) (cn I32 7 (s 211 212)) (v I32) (s 182 212)) (v U8) (s 180 213)))
    (v U8) (s 179 214))) (v Truth) (s 178 214)) (t_return (s 216 222)
    (Some (t_convert I16 (t_compare cmp.Equal (t_convert I64
    (t_binary op.Rem (t_cast (cn I32 65535 (s 224 229)) (u I32) (s 223 230)) (t_cast (cn I32 6 (s 234 235)) (u I32) (s 233 236)) (u I32) (s 223 236)))
    (t_binary op.Add (t_convert I64 (cn I32 5 (s 240 241))) (cn I64 2147483648 (s 244 254)) (u I64) (s 240 254)) Uniform (s 223 254)))) (s 216 255))
    (s 174 255)) ∷ (t_simple (t_assign (t_variable 2 (u U8) (s 256 257)) (t_place (t_variable 2 (u U8) (s 260 261))) (s 256 261)) (s 256 262)) ∷
    (t_block (t_braces (t_stmts ((t_block (t_braces (t_stmts
    ((t_simple (t_update op.Xor I64 (t_element (ar 1 (u U8) false) (cn I32 4 (s 269 270)) (u U8) (s 267 271))
    (t_library lib.ReduceAdd I32 (t_exprs ((t_binary op.Rem
    (t_convert I32 (t_cast (t_unary un.Not (t_convert Truth (t_cast (t_place (t_variable 3 (v I32) (s 289 290))) (v I32) (s 288 291))) (v Truth)
    (s 287 291)) (v Truth) (s 286 292))) (cn I32 3 (s 295 296)) (v I32) (s 286 296)) ∷ [])) (u I64) (s 275 297)) (s 267 297)) (s 267 298)) ∷ []))
    (s 265 300))) ∷ [])) (s 263 302))) ∷ (t_simple (t_update op.Add I32
    (t_element (ar 0 (u I32) false) (t_program_index (s 305 317)) (v I32) (s 303 318)) (t_place (t_variable 3 (v I32) (s 322 323))) (s 303 323))
    (s 303 324)) ∷ (t_return (s 325 331) (Some (t_convert I16
    (t_binary op.Add (t_convert U16 (t_place (t_variable 2 (u U8) (s 332 333))))
    (t_cast (t_convert U16 (t_place (t_variable 2 (u U8) (s 353 354)))) (u U16) (s 336 354)) (u U16) (s 332 354)))) (s 325 355)) ∷ [])) (s 139 357)))
    ∷ [])

abbrev arguments_13 : List Argument
arguments_13 = ((AnArray (rw I32 (2147483646 ∷ 4294967287 ∷ 2147483649 ∷ 3 ∷ 2147483646 ∷ []))) ∷ (AnArray (rw U8 (27 ∷ 3 ∷ 0 ∷ 150 ∷ 4 ∷ 136 ∷ 1 ∷ 93 ∷ []))) ∷ (AValue (record { elem = U8; bits = 255 })) ∷ [])

run_13_of_0 : run_of program_13 1 0 arguments_13 ≡ Ends ((rw I32 (2147483901 ∷ 246 ∷ 2147483649 ∷ 258 ∷ 2147483646 ∷ [])) ∷ (rw U8 (27 ∷ 3 ∷ 0 ∷ 150 ∷ 4 ∷ 136 ∷ 1 ∷ 93 ∷ [])) ∷ []) (Some (record { elem = I16; bits = 510 })) ([])
unfolding digits number_to wrap_to amount not_zero
run_13_of_0 = refl

work_13_of_0 : work_of program_13 1 0 arguments_13 ≡ 54
unfolding digits number_to wrap_to amount not_zero
work_13_of_0 = refl

-- void g0() { ; }
-- export uniform signed f(uniform signed a[], uniform int32 o[], uniform int32 n) { int x = n < n; packed_load_active(&a, &x); a[programIndex] =
-- clamp(programIndex, (a[(programIndex ^ (false)) & 15]), select((programIndex) % (programIndex | 1), ~ x, x)); n++; ; n &= n; o[programIndex] = x;
-- return o[11] >= n <= ~ 18446744073709551615; }
abbrev program_21 : Program
program_21 = pr W16 ((fn None None ([]) (t_braces (t_stmts ((t_block (t_braces (t_stmts ([])) (s 12 13))) ∷ [])) (s 10 15))) ∷
    (fn (Some I32) (Some (u I32)) ((vr (Given I32) false) ∷ (vr (Given I32) false) ∷ (vr (AVariable (u I32)) false) ∷ (vr (AVariable (v I32)) false) ∷
    []) (t_braces (t_stmts ((t_declare ((t_with_value 3 (v I32)
    (t_convert I32 (t_compare cmp.Less (t_place (t_variable 2 (u I32) (s 106 107))) (t_place (t_variable 2 (u I32) (s 110 111))) Uniform (s 106 111)))
    (s 102 111)) ∷ []) (s 98 112)) ∷ (t_simple (t_value (t_packed_load (t_whole (ar 0 (u I32) false) (s 133 134)) 3 (s 113 139))) (s 113 140)) ∷
    (t_simple (t_assign (t_element (ar 0 (u I32) false) (t_program_index (s 143 155)) (v I32) (s 141 156))
    (t_library lib.Clamp I32 (t_exprs ((t_program_index (s 165 177)) ∷
    (t_cast (t_place (t_element (ar 0 (u I32) false)
    (t_binary op.And (t_cast (t_binary op.Xor (t_program_index (s 183 195)) (t_convert I32 (t_cast (cn Truth 0 (s 199 204)) (u Truth) (s 198 205)))
    (v I32) (s 183 205)) (v I32) (s 182 206)) (cn I32 15 (s 209 211)) (v I32) (s 182 211)) (v I32) (s 180 212))) (v I32) (s 179 213)) ∷
    (t_library lib.Select I32 (t_exprs ((t_convert Truth
    (t_binary op.Rem (t_cast (t_program_index (s 223 235)) (v I32) (s 222 236))
    (t_cast (t_binary op.Or (t_program_index (s 240 252)) (cn I32 1 (s 255 256)) (v I32) (s 240 256)) (v I32) (s 239 257)) (v I32) (s 222 257))) ∷
    (t_unary un.Invert (t_place (t_variable 3 (v I32) (s 261 262))) (v I32) (s 259 262)) ∷ (t_place (t_variable 3 (v I32) (s 264 265))) ∷ [])) (v I32)
    (s 215 266)) ∷ [])) (v I32) (s 159 267)) (s 141 267)) (s 141 268)) ∷
    (t_simple (t_step op.Add I32 (t_variable 2 (u I32) (s 269 270)) (s 269 272)) (s 269 273)) ∷ (t_block (t_braces (t_stmts ([])) (s 274 275))) ∷
    (t_simple (t_update op.And I32 (t_variable 2 (u I32) (s 276 277)) (t_place (t_variable 2 (u I32) (s 281 282))) (s 276 282)) (s 276 283)) ∷
    (t_simple (t_assign (t_element (ar 1 (u I32) false) (t_program_index (s 286 298)) (v I32) (s 284 299))
    (t_place (t_variable 3 (v I32) (s 302 303))) (s 284 303)) (s 284 304)) ∷
    (t_return (s 305 311) (Some (t_convert I32 (t_compare cmp.LessOrEqual
    (t_convert U64 (t_compare cmp.GreaterOrEqual (t_place (t_element (ar 1 (u I32) false) (cn I32 11 (s 314 316)) (u I32) (s 312 317)))
    (t_place (t_variable 2 (u I32) (s 321 322))) Uniform (s 312 322)))
    (t_unary un.Invert (cn U64 18446744073709551615 (s 328 348)) (u U64) (s 326 348)) Uniform (s 312 348)))) (s 305 349)) ∷ [])) (s 96 351))) ∷ [])

abbrev arguments_21 : List Argument
arguments_21 = ((AnArray (rw I32 (1292578544 ∷ 4294967289 ∷ 2147483649 ∷ 8 ∷ 3303154471 ∷ 4 ∷ 4294967287 ∷ 4294967293 ∷ 2147483646 ∷ 4294967289 ∷
    562040159 ∷ 4294967289 ∷ 4294967290 ∷ 2147483648 ∷ 3485799156 ∷ 2147483648 ∷ []))) ∷
    (AnArray (rw I32 (4294967294 ∷ 2147483646 ∷ 0 ∷ 2147483648 ∷ 2147483648 ∷ 0 ∷ 2147483649 ∷ 2147483647 ∷ 2147483648 ∷ 4294967287 ∷ 2 ∷ 1390261094 ∷
    4294967293 ∷ 4294967292 ∷ 1256366784 ∷ 7 ∷ 4294967293 ∷ 6 ∷ 7 ∷ []))) ∷ (AValue (record { elem = I32; bits = 1849232786 })) ∷ [])

run_21_of_0 : run_of program_21 1 0 arguments_21
    ≡ Ends ((rw I32 (1292578544 ∷ 4294967289 ∷ 2 ∷ 8 ∷ 4 ∷ 4 ∷ 6 ∷ 4294967293 ∷ 2147483649 ∷ 4294967289 ∷ 3732927136 ∷ 4294967289 ∷ 5 ∷ 2147483648 ∷
    14 ∷ 2147483648 ∷ [])) ∷ (rw I32 (1292578544 ∷ 4294967289 ∷ 2147483649 ∷ 8 ∷ 3303154471 ∷ 4 ∷ 4294967287 ∷ 4294967293 ∷ 2147483646 ∷ 4294967289 ∷
    562040159 ∷ 4294967289 ∷ 4294967290 ∷ 2147483648 ∷ 3485799156 ∷ 2147483648 ∷ 4294967293 ∷ 6 ∷ 7 ∷ [])) ∷ [])
    (Some (record { elem = I32; bits = 1 })) ([])
unfolding digits number_to wrap_to amount not_zero
run_21_of_0 = refl

work_21_of_0 : work_of program_21 1 0 arguments_21 ≡ 53
unfolding digits number_to wrap_to amount not_zero
work_21_of_0 = refl

-- void g0(varying signed int n3, signed int p1, uint8 p2) { if (n3 <= 0) return; g0(n3 - 1, p2, (programIndex)); ; p1 = (programIndex) % (1 | 1) < insert(p2, -8, 6) >= 34ul > (signed int) programIndex; p1 <<= programCount; }
-- export uniform int64 f(uniform int32 a[], uniform uint32 o[], uniform signed int64 n) { int x = n; uniform signed int8 v4, v5; v4 = packed_store_active(&o[4], min(o[(programIndex ^ ((v5) / (x | 1))) & 3], v5)); o[programIndex] = x; return v5; }
abbrev program_25 : Program
program_25 = pr W4 ((fn None None ((vr (AVariable (v I32)) false) ∷ (vr (AVariable (v I32)) false) ∷ (vr (AVariable (v U8)) false) ∷ [])
    (t_braces (t_stmts ((t_if Plain 3 (t_compare cmp.LessOrEqual (t_place (t_variable 0 (v I32) (s 62 64))) (cn I32 0 (s 68 69)) Varying (s 62 69))
    (t_return (s 71 77) None (s 71 78)) (s 58 78)) ∷
    (t_simple (t_run (t_called 0 (t_arguments ((t_by_value
    (t_binary op.Sub (t_place (t_variable 0 (v I32) (s 82 84))) (cn I32 1 (s 87 88)) (v I32) (s 82 88))) ∷
    (t_by_value (t_convert I32 (t_place (t_variable 2 (v U8) (s 90 92))))) ∷
    (t_by_value (t_convert U8 (t_cast (t_program_index (s 95 107)) (v I32) (s 94 108)))) ∷ [])) (s 79 109))) (s 79 110)) ∷
    (t_block (t_braces (t_stmts ([])) (s 111 112))) ∷
    (t_simple (t_assign (t_variable 1 (v I32) (s 113 115))
    (t_convert I32 (t_compare cmp.Greater (t_convert I32
    (t_compare cmp.GreaterOrEqual (t_convert U64 (t_compare cmp.Less
    (t_binary op.Rem (t_cast (t_program_index (s 119 131)) (v I32) (s 118 132))
    (t_cast (t_binary op.Or (cn I32 1 (s 136 137)) (cn I32 1 (s 140 141)) (u I32) (s 136 141)) (u I32) (s 135 142)) (v I32) (s 118 142))
    (t_convert I32 (t_library lib.Insert U8 (t_exprs
    ((t_place (t_variable 2 (v U8) (s 152 154))) ∷ (t_unary un.Negate (cn I32 8 (s 157 158)) (u I32) (s 156 158)) ∷
    (t_convert U8 (cn I32 6 (s 160 161))) ∷ [])) (v U8) (s 145 162))) Varying (s 118 162))) (cn U64 34 (s 166 170)) Varying (s 118 170)))
    (t_cast (t_program_index (s 186 198)) (v I32) (s 173 198)) Varying (s 118 198))) (s 113 198)) (s 113 199)) ∷
    (t_simple (t_update op.Shl I32 (t_variable 1 (v I32) (s 200 202)) (cn I32 4 (s 207 219)) (s 200 219)) (s 200 220)) ∷ [])) (s 56 222))) ∷
    (fn (Some I64) (Some (u I64)) ((vr (Given I32) false) ∷ (vr (Given U32) false) ∷ (vr (AVariable (u I64)) false) ∷ (vr (AVariable (v I32)) false) ∷
    (vr (AVariable (u I8)) false) ∷ (vr (AVariable (u I8)) false) ∷ [])
    (t_braces (t_stmts ((t_declare ((t_with_value 3 (v I32) (t_convert I32 (t_place (t_variable 2 (u I64) (s 319 320)))) (s 315 320)) ∷ [])
    (s 311 321)) ∷ (t_declare ((t_plain 4 (u I8) (s 342 344)) ∷ (t_plain 5 (u I8) (s 346 348)) ∷ []) (s 322 349)) ∷
    (t_simple (t_assign (t_variable 4 (u I8) (s 350 352))
    (t_convert I8 (t_packed_store (t_from (ar 1 (u U32) false) (cn I32 4 (s 378 379)) (s 376 377))
    (t_library lib.Min U32 (t_exprs ((t_place (t_element (ar 1 (u U32) false)
    (t_binary op.And (t_cast (t_binary op.Xor (t_program_index (s 389 401))
    (t_cast (t_binary op.Div (t_convert I32 (t_cast (t_place (t_variable 5 (u I8) (s 406 408))) (u I8) (s 405 409)))
    (t_cast (t_binary op.Or (t_place (t_variable 3 (v I32) (s 413 414))) (cn I32 1 (s 417 418)) (v I32) (s 413 418)) (v I32) (s 412 419)) (v I32)
    (s 405 419)) (v I32) (s 404 420)) (v I32) (s 389 420)) (v I32) (s 388 421)) (cn I32 3 (s 424 425)) (v I32) (s 388 425)) (v U32) (s 386 426))) ∷
    (t_convert U32 (t_place (t_variable 5 (u I8) (s 428 430)))) ∷ [])) (v U32) (s 382 431)) (s 355 432))) (s 350 432)) (s 350 433)) ∷
    (t_simple (t_assign (t_element (ar 1 (u U32) false) (t_program_index (s 436 448)) (v U32) (s 434 449))
    (t_convert U32 (t_place (t_variable 3 (v I32) (s 452 453)))) (s 434 453)) (s 434 454)) ∷
    (t_return (s 455 461) (Some (t_convert I64 (t_place (t_variable 5 (u I8) (s 462 464))))) (s 455 465)) ∷ [])) (s 309 467))) ∷ [])

abbrev arguments_25 : List Argument
arguments_25 = ((AnArray (rw I32 (2147483649 ∷ 4294967289 ∷ 7 ∷ 4294967295 ∷ 4294967289 ∷ 2147483647 ∷ 4294967291 ∷ 4294967295 ∷ []))) ∷
    (AnArray (rw U32 (7 ∷ 4294967295 ∷ 4294967294 ∷ 9 ∷ 2 ∷ []))) ∷ (AValue (record { elem = I64; bits = 9223372036854775809 })) ∷ [])

run_25_of_0 : run_of program_25 1 0 arguments_25
    ≡ Traps (trap kind.Index (s 355 432) 1) ((rw I32
    (2147483649 ∷ 4294967289 ∷ 7 ∷ 4294967295 ∷ 4294967289 ∷ 2147483647 ∷ 4294967291 ∷ 4294967295 ∷ [])) ∷
    (rw U32 (7 ∷ 4294967295 ∷ 4294967294 ∷ 9 ∷ 2 ∷ [])) ∷ []) ([])
unfolding digits number_to wrap_to amount not_zero
run_25_of_0 = refl

work_25_of_0 : work_of program_25 1 0 arguments_25 ≡ 28
unfolding digits number_to wrap_to amount not_zero
work_25_of_0 = refl

-- signed int8 g0(signed int p1, uniform signed int p2) { --p1; --p2; foreach (i3 = 0 ... programCount + 1, i4 = 0 ... 1, i5 = 2 ... 3) { p1 *= ! (i3) <= i4; } return max(4 << programIndex, 32767); }
-- export void f(uniform int a[], uniform int8 o[], uniform int n) { int x = (!(n)) % (n ^ programIndex); (programIndex); n &= o[3]; o[programIndex] = x; }
abbrev program_33 : Program
program_33 = pr W4 ((fn (Some I8) (Some (v I8)) ((vr (AVariable (v I32)) false) ∷ (vr (AVariable (u I32)) false) ∷ (vr (AVariable (v I32)) true) ∷
    (vr (AVariable (v I32)) true) ∷ (vr (AVariable (v I32)) true) ∷ [])
    (t_braces (t_stmts ((t_simple (t_step op.Sub I32 (t_variable 0 (v I32) (s 57 59)) (s 55 59)) (s 55 60)) ∷
    (t_simple (t_step op.Sub I32 (t_variable 1 (u I32) (s 63 65)) (s 61 65)) (s 61 66)) ∷
    (t_foreach (s 67 74) 2 ((rg 2 (cn I32 0 (s 81 82)) (t_binary op.Add (cn I32 4 (s 87 99)) (cn I32 1 (s 102 103)) (u I32) (s 87 103)) (s 76 103)) ∷
    (rg 3 (cn I32 0 (s 110 111)) (cn I32 1 (s 116 117)) (s 105 117)) ∷ (rg 4 (cn I32 2 (s 124 125)) (cn I32 3 (s 130 131)) (s 119 131)) ∷ [])
    (t_block (t_braces (t_stmts ((t_simple (t_update op.Mul I32 (t_variable 0 (v I32) (s 135 137))
    (t_convert I32 (t_compare cmp.LessOrEqual (t_convert I32
    (t_unary un.Not (t_convert Truth (t_cast (t_place (t_variable 2 (v I32) (s 144 146))) (v I32) (s 143 147))) (v Truth) (s 141 147)))
    (t_place (t_variable 3 (v I32) (s 151 153))) Varying (s 141 153))) (s 135 153)) (s 135 154)) ∷ [])) (s 133 156))) (s 67 156)) ∷
    (t_return (s 157 163) (Some (t_convert I8 (t_library lib.Max I32
    (t_exprs ((t_binary op.Shl (cn I32 4 (s 168 169)) (t_program_index (s 173 185)) (v I32) (s 168 185)) ∷ (cn I32 32767 (s 187 192)) ∷ [])) (v I32)
    (s 164 193)))) (s 157 194)) ∷ [])) (s 53 196))) ∷
    (fn None None ((vr (Given I32) false) ∷ (vr (Given I8) false) ∷ (vr (AVariable (u I32)) false) ∷ (vr (AVariable (v I32)) false) ∷ [])
    (t_braces (t_stmts ((t_declare ((t_with_value 3 (v I32)
    (t_binary op.Rem (t_convert I32 (t_cast (t_unary un.Not
    (t_convert Truth (t_cast (t_place (t_variable 2 (u I32) (s 274 275))) (u I32) (s 273 276))) (u Truth) (s 272 276)) (u Truth) (s 271 277)))
    (t_cast (t_binary op.Xor (t_place (t_variable 2 (u I32) (s 281 282))) (t_program_index (s 285 297)) (v I32) (s 281 297)) (v I32) (s 280 298))
    (v I32) (s 271 298)) (s 267 298)) ∷ []) (s 263 299)) ∷ (t_simple (t_value (t_cast (t_program_index (s 301 313)) (v I32) (s 300 314))) (s 300 315))
    ∷ (t_simple (t_update op.And I32 (t_variable 2 (u I32) (s 316 317))
    (t_convert I32 (t_place (t_element (ar 1 (u I8) false) (cn I32 3 (s 323 324)) (u I8) (s 321 325)))) (s 316 325)) (s 316 326)) ∷
    (t_simple (t_assign (t_element (ar 1 (u I8) false) (t_program_index (s 329 341)) (v I8) (s 327 342))
    (t_convert I8 (t_place (t_variable 3 (v I32) (s 345 346)))) (s 327 346)) (s 327 347)) ∷ [])) (s 261 349))) ∷ [])

abbrev arguments_33 : List Argument
arguments_33 = ((AnArray (rw I32 (2147483646 ∷ 2147483646 ∷ 1 ∷ 5 ∷ 2147483649 ∷ 713983588 ∷ []))) ∷ (AnArray (rw I8 (254 ∷ 253 ∷ 63 ∷ 128 ∷ []))) ∷ (AValue (record { elem = I32; bits = 2771755987 })) ∷ [])

run_33_of_0 : run_of program_33 1 0 arguments_33 ≡ Ends ((rw I32 (2147483646 ∷ 2147483646 ∷ 1 ∷ 5 ∷ 2147483649 ∷ 713983588 ∷ [])) ∷ (rw I8 (0 ∷ 0 ∷ 0 ∷ 0 ∷ [])) ∷ []) None ([])
unfolding digits number_to wrap_to amount not_zero
run_33_of_0 = refl

work_33_of_0 : work_of program_33 1 0 arguments_33 ≡ 23
unfolding digits number_to wrap_to amount not_zero
work_33_of_0 = refl

-- signed g0(int32 p1, uniform signed p2) { { print(" %\t%z\n", p2, 7 | programIndex >> p1); print("\"%z\n", (p2 >= 1)); } return p2 * p2 ^ p1; }
-- export void f(uniform signed a[], uniform int16 o[]) { int x = a[programIndex] << !(8); packed_store_active(a, insert((unsigned int64)
-- o[programIndex], -7, 97u << 0)); if ((x)) return; g0(x, (unsigned int64) a[((uint16) a[(reduce_min(x)) & 3]) & 3]); x || programIndex;
-- a[programIndex] += x; }
abbrev program_35 : Program
program_35 = pr W4 ((fn (Some I32) (Some (v I32)) ((vr (AVariable (v I32)) false) ∷ (vr (AVariable (u I32)) false) ∷ [])
    (t_braces (t_stmts ((t_block (t_braces (t_stmts ((t_print (s 43 48) (32 ∷ 37 ∷ 9 ∷ 37 ∷ 122 ∷ 10 ∷ [])
    ((t_place (t_variable 1 (u I32) (s 61 63))) ∷ (t_binary op.Or (cn I32 7 (s 65 66))
    (t_binary op.Shr (t_program_index (s 69 81)) (t_place (t_variable 0 (v I32) (s 85 87))) (v I32) (s 69 87)) (v I32) (s 65 87)) ∷ []) (s 43 89)) ∷
    (t_print (s 90 95) (34 ∷ 37 ∷ 122 ∷ 10 ∷ []) ((t_cast
    (t_compare cmp.GreaterOrEqual (t_place (t_variable 1 (u I32) (s 107 109))) (cn I32 1 (s 113 114)) Uniform (s 107 114)) (u Truth) (s 106 115)) ∷
    []) (s 90 117)) ∷ [])) (s 41 119))) ∷ (t_return (s 120 126)
    (Some (t_binary op.Xor (t_binary op.Mul (t_place (t_variable 1 (u I32) (s 127 129))) (t_place (t_variable 1 (u I32) (s 132 134))) (u I32)
    (s 127 134)) (t_place (t_variable 0 (v I32) (s 137 139))) (v I32) (s 127 139))) (s 120 140)) ∷ [])) (s 39 142))) ∷
    (fn None None ((vr (Given I32) false) ∷ (vr (Given I16) false) ∷ (vr (AVariable (v I32)) false) ∷ [])
    (t_braces (t_stmts ((t_declare ((t_with_value 2 (v I32)
    (t_binary op.Shl (t_place (t_element (ar 0 (u I32) false) (t_program_index (s 208 220)) (v I32) (s 206 221)))
    (t_convert I32 (t_unary un.Not (t_convert Truth (t_cast (cn I32 8 (s 227 228)) (u I32) (s 226 229))) (u Truth) (s 225 229))) (v I32) (s 206 229))
    (s 202 229)) ∷ []) (s 198 230)) ∷ (t_simple (t_value
    (t_packed_store (t_whole (ar 0 (u I32) false) (s 251 252))
    (t_convert I32 (t_library lib.Insert U64 (t_exprs
    ((t_cast (t_convert U64 (t_place (t_element (ar 1 (u I16) false) (t_program_index (s 280 292)) (v I16) (s 278 293)))) (v U64) (s 261 293)) ∷
    (t_unary un.Negate (cn I32 7 (s 296 297)) (u I32) (s 295 297)) ∷
    (t_convert U64 (t_binary op.Shl (cn U32 97 (s 299 302)) (t_convert U32 (cn I32 0 (s 306 307))) (u U32) (s 299 307))) ∷ [])) (v U64) (s 254 308)))
    (s 231 309))) (s 231 310)) ∷ (t_if Plain 3 (t_convert Truth (t_cast (t_place (t_variable 2 (v I32) (s 316 317))) (v I32) (s 315 318)))
    (t_return (s 320 326) None (s 320 327)) (s 311 327)) ∷
    (t_simple (t_value (t_call (t_called 0 (t_arguments
    ((t_by_value (t_place (t_variable 2 (v I32) (s 331 332)))) ∷
    (t_by_value (t_convert I32 (t_cast (t_convert U64
    (t_place (t_element (ar 0 (u I32) false) (t_binary op.And
    (t_convert I32 (t_cast (t_cast (t_convert U16 (t_place
    (t_element (ar 0 (u I32) false) (t_binary op.And
    (t_cast (t_library lib.ReduceMin I32 (t_exprs ((t_place (t_variable 2 (v I32) (s 377 378))) ∷ [])) (u I32) (s 366 379)) (u I32) (s 365 380))
    (cn I32 3 (s 383 384)) (u I32) (s 365 384)) (u I32) (s 363 385)))) (u U16) (s 354 385)) (u U16) (s 353 386))) (cn I32 3 (s 389 390)) (u I32)
    (s 353 390)) (u I32) (s 351 391)))) (u U64) (s 334 391)))) ∷ [])) (s 328 392)) (v I32))) (s 328 393)) ∷
    (t_simple (t_value (t_logic logic.Or (t_convert Truth (t_place (t_variable 2 (v I32) (s 394 395))))
    (t_convert Truth (t_program_index (s 399 411))) Varying (s 394 411))) (s 394 412)) ∷
    (t_simple (t_update op.Add I32 (t_element (ar 0 (u I32) false) (t_program_index (s 415 427)) (v I32) (s 413 428))
    (t_place (t_variable 2 (v I32) (s 432 433))) (s 413 433)) (s 413 434)) ∷ [])) (s 196 436))) ∷ [])

abbrev arguments_35 : List Argument
arguments_35 = ((AnArray (rw I32 (2593091541 ∷ 4294967295 ∷ 3161179622 ∷ 5 ∷ 2147483648 ∷ 0 ∷ []))) ∷ (AnArray (rw I16 (1 ∷ 32768 ∷ 65533 ∷ 61839 ∷ 32767 ∷ []))) ∷ [])

run_35_of_0 : run_of program_35 1 0 arguments_35 ≡ Ends ((rw I32 (1 ∷ 97 ∷ 4294967293 ∷ 4294963599 ∷ 2147483648 ∷ 0 ∷ [])) ∷ (rw I16 (1 ∷ 32768 ∷ 65533 ∷ 61839 ∷ 32767 ∷ [])) ∷ []) None ([])
unfolding digits number_to wrap_to amount not_zero
run_35_of_0 = refl

work_35_of_0 : work_of program_35 1 0 arguments_35 ≡ 25
unfolding digits number_to wrap_to amount not_zero
work_35_of_0 = refl

-- void g0(signed n2, uniform int b1[]) { if (n2 <= 0) return; g0(n2 - 1, b1); ; b1[0] /= b1[3] && (uniform int32) b1[3] > b1[1]; }
-- export uniform int f(uniform signed a[], uniform uint o[], uniform signed int8 z[], uniform int n) { int x = !(n); ++x; z[programIndex] *=
-- all(programIndex > x) | !(n); { int k3 = 0; do { k3++;  assert(true); } while (k3 < 1); } o[programIndex] = x; return n ^ n; }
abbrev program_39 : Program
program_39 = pr W4 ((fn None None ((vr (AVariable (v I32)) false) ∷ (vr (Given I32) false) ∷ [])
    (t_braces (t_stmts ((t_if Plain 2 (t_compare cmp.LessOrEqual (t_place (t_variable 0 (v I32) (s 43 45))) (cn I32 0 (s 49 50)) Varying (s 43 50))
    (t_return (s 52 58) None (s 52 59)) (s 39 59)) ∷
    (t_simple (t_run (t_called 0 (t_arguments ((t_by_value
    (t_binary op.Sub (t_place (t_variable 0 (v I32) (s 63 65))) (cn I32 1 (s 68 69)) (v I32) (s 63 69))) ∷ (t_by_name (ar 1 (u I32) false) (s 71 73))
    ∷ [])) (s 60 74))) (s 60 75)) ∷ (t_block (t_braces (t_stmts ([])) (s 76 77))) ∷
    (t_simple (t_update op.Div I32 (t_element (ar 1 (u I32) false) (cn I32 0 (s 81 82)) (u I32) (s 78 83))
    (t_convert I32 (t_logic logic.And (t_convert Truth (t_place (t_element (ar 1 (u I32) false) (cn I32 3 (s 90 91)) (u I32) (s 87 92))))
    (t_compare cmp.Greater (t_cast (t_place (t_element (ar 1 (u I32) false) (cn I32 3 (s 115 116)) (u I32) (s 112 117))) (u I32) (s 96 117))
    (t_place (t_element (ar 1 (u I32) false) (cn I32 1 (s 123 124)) (u I32) (s 120 125))) Uniform (s 96 125)) Uniform (s 87 125))) (s 78 125))
    (s 78 126)) ∷ [])) (s 37 128))) ∷ (fn (Some I32) (Some (u I32))
    ((vr (Given I32) false) ∷ (vr (Given U32) false) ∷ (vr (Given I8) false) ∷ (vr (AVariable (u I32)) false) ∷ (vr (AVariable (v I32)) false) ∷
    (vr (AVariable (v I32)) false) ∷ []) (t_braces (t_stmts
    ((t_declare ((t_with_value 4 (v I32) (t_convert I32
    (t_unary un.Not (t_convert Truth (t_cast (t_place (t_variable 3 (u I32) (s 240 241))) (u I32) (s 239 242))) (u Truth) (s 238 242))) (s 234 242)) ∷
    []) (s 230 243)) ∷ (t_simple (t_step op.Add I32 (t_variable 4 (v I32) (s 246 247)) (s 244 247)) (s 244 248)) ∷
    (t_simple (t_update op.Mul I32 (t_element (ar 2 (u I8) false) (t_program_index (s 251 263)) (v I8) (s 249 264))
    (t_binary op.Or (t_convert I32 (t_library lib.All Truth
    (t_exprs ((t_compare cmp.Greater (t_program_index (s 272 284)) (t_place (t_variable 4 (v I32) (s 287 288))) Varying (s 272 288)) ∷ [])) (u Truth)
    (s 268 289))) (t_convert I32 (t_unary un.Not (t_convert Truth (t_cast (t_place (t_variable 3 (u I32) (s 294 295))) (u I32) (s 293 296))) (u Truth)
    (s 292 296))) (u I32) (s 268 296)) (s 249 296)) (s 249 297)) ∷
    (t_block (t_braces (t_stmts ((t_declare ((t_with_value 5 (v I32) (cn I32 0 (s 309 310)) (s 304 310)) ∷ []) (s 300 311)) ∷
    (t_do Plain 6 (t_block (t_braces (t_stmts ((t_simple (t_step op.Add I32 (t_variable 5 (v I32) (s 317 319)) (s 317 321)) (s 317 322)) ∷
    (t_assert (cn Truth 1 (s 331 335)) (s 324 336) (s 324 337)) ∷ [])) (s 315 339)))
    (t_compare cmp.Less (t_place (t_variable 5 (v I32) (s 347 349))) (cn I32 1 (s 352 353)) Varying (s 347 353)) (s 312 355)) ∷ [])) (s 298 357))) ∷
    (t_simple (t_assign (t_element (ar 1 (u U32) false) (t_program_index (s 360 372)) (v U32) (s 358 373))
    (t_convert U32 (t_place (t_variable 4 (v I32) (s 376 377)))) (s 358 377)) (s 358 378)) ∷
    (t_return (s 379 385) (Some (t_binary op.Xor (t_place (t_variable 3 (u I32) (s 386 387))) (t_place (t_variable 3 (u I32) (s 390 391))) (u I32)
    (s 386 391))) (s 379 392)) ∷ [])) (s 228 394))) ∷ [])

abbrev arguments_39 : List Argument
arguments_39 = ((AnArray (rw I32 (4294967289 ∷ 4294967288 ∷ 5 ∷ 4294967289 ∷ []))) ∷
    (AnArray (rw U32 (7 ∷ 1 ∷ 4294967295 ∷ 1 ∷ 2074252382 ∷ 4294967295 ∷ 3881510395 ∷ []))) ∷ (AnArray (rw I8 (0 ∷ 8 ∷ 217 ∷ 85 ∷ 5 ∷ 185 ∷ []))) ∷
    (AValue (record { elem = I32; bits = 2147483646 })) ∷ [])

run_39_of_0 : run_of program_39 1 0 arguments_39 ≡ GoesOn ([])
unfolding digits number_to wrap_to amount not_zero
run_39_of_0 = refl

work_39_of_0 : work_of program_39 1 0 arguments_39 ≡ 24
unfolding digits number_to wrap_to amount not_zero
work_39_of_0 = refl

run_39_of_1 : run_of program_39 1 1 arguments_39
    ≡ Ends ((rw I32 (4294967289 ∷ 4294967288 ∷ 5 ∷ 4294967289 ∷ [])) ∷ (rw U32 (1 ∷ 1 ∷ 1 ∷ 1 ∷ 2074252382 ∷ 4294967295 ∷ 3881510395 ∷ [])) ∷
    (rw I8 (0 ∷ 0 ∷ 0 ∷ 0 ∷ 5 ∷ 185 ∷ [])) ∷ []) (Some (record { elem = I32; bits = 0 })) ([])
unfolding digits number_to wrap_to amount not_zero
run_39_of_1 = refl

work_39_of_1 : work_of program_39 1 1 arguments_39 ≡ 41
unfolding digits number_to wrap_to amount not_zero
work_39_of_1 = refl

-- export void f(uniform signed a[], uniform int32 o[], uniform int z[]) { int x = (z[(51u) & 3]) / (a[programIndex] | 1); varying signed v3; print("\\%", (!(a[extract(x, o[(o[3] == z[4]) & 7])]))); a[programIndex] += x; }
-- void g0(uniform signed p1, varying int8 p2) { assert((40Lu ? p2 : p1) < (0)); assert((bool) p2); }
abbrev program_46 : Program
program_46 = pr W8 ((fn None None ((vr (Given I32) false) ∷ (vr (Given I32) false) ∷ (vr (Given I32) false) ∷ (vr (AVariable (v I32)) false) ∷
    (vr (AVariable (v I32)) false) ∷ []) (t_braces (t_stmts
    ((t_declare ((t_with_value 3 (v I32) (t_binary op.Div
    (t_cast (t_place (t_element (ar 2 (u I32) false)
    (t_binary op.And (t_cast (cn U32 51 (s 84 87)) (u U32) (s 83 88)) (t_convert U32 (cn I32 3 (s 91 92))) (u U32) (s 83 92)) (u I32) (s 81 93)))
    (u I32) (s 80 94)) (t_cast (t_binary op.Or (t_place (t_element (ar 0 (u I32) false) (t_program_index (s 100 112)) (v I32) (s 98 113)))
    (cn I32 1 (s 116 117)) (v I32) (s 98 117)) (v I32) (s 97 118)) (v I32) (s 80 118)) (s 76 118)) ∷ []) (s 72 119)) ∷
    (t_declare ((t_plain 4 (v I32) (s 135 137)) ∷ []) (s 120 138)) ∷
    (t_print (s 139 144) (92 ∷ 37 ∷ []) ((t_cast (t_unary un.Not
    (t_convert Truth (t_cast (t_place (t_element (ar 0 (u I32) false)
    (t_library lib.Extract I32 (t_exprs ((t_place (t_variable 3 (v I32) (s 165 166))) ∷
    (t_place (t_element (ar 1 (u I32) false) (t_binary op.And
    (t_convert I32 (t_cast (t_compare cmp.Equal (t_place (t_element (ar 1 (u I32) false) (cn I32 3 (s 173 174)) (u I32) (s 171 175)))
    (t_place (t_element (ar 2 (u I32) false) (cn I32 4 (s 181 182)) (u I32) (s 179 183))) Uniform (s 171 183)) (u Truth) (s 170 184)))
    (cn I32 7 (s 187 188)) (u I32) (s 170 188)) (u I32) (s 168 189))) ∷ [])) (u I32) (s 157 190)) (u I32) (s 155 191))) (u I32) (s 154 192)))
    (u Truth) (s 153 192)) (u Truth) (s 152 193)) ∷ []) (s 139 195)) ∷
    (t_simple (t_update op.Add I32 (t_element (ar 0 (u I32) false) (t_program_index (s 198 210)) (v I32) (s 196 211))
    (t_place (t_variable 3 (v I32) (s 215 216))) (s 196 216)) (s 196 217)) ∷ [])) (s 70 219))) ∷
    (fn None None ((vr (AVariable (u I32)) false) ∷ (vr (AVariable (v I8)) false) ∷ [])
    (t_braces (t_stmts ((t_assert (t_compare cmp.Less
    (t_cast (t_choose (t_convert Truth (cn U64 40 (s 274 278))) (t_convert I32 (t_place (t_variable 1 (v I8) (s 281 283))))
    (t_place (t_variable 0 (u I32) (s 286 288))) (v I32) (s 274 288)) (v I32) (s 273 289)) (t_cast (cn I32 0 (s 293 294)) (u I32) (s 292 295)) Varying
    (s 273 295)) (s 266 296) (s 266 297)) ∷ (t_assert (t_cast (t_convert Truth (t_place (t_variable 1 (v I8) (s 312 314)))) (v Truth) (s 305 314))
    (s 298 315) (s 298 316)) ∷ [])) (s 264 318))) ∷ [])

abbrev arguments_46 : List Argument
arguments_46 = ((AnArray (rw I32 (2586670477 ∷ 8 ∷ 1088949398 ∷ 4294967295 ∷ 2147483649 ∷ 4294967293 ∷ 4294967293 ∷ 2986613792 ∷ 4294967295 ∷
    421806853 ∷ []))) ∷ (AnArray (rw I32 (2147483646 ∷ 4294967289 ∷ 2147483647 ∷ 2147483648 ∷ 1 ∷ 7 ∷ 1706357043 ∷ 4 ∷ []))) ∷
    (AnArray (rw I32 (4294967288 ∷ 3734439690 ∷ 2147483646 ∷ 616059685 ∷ 8 ∷ 4294967294 ∷ []))) ∷ [])

run_46_of_0 : run_of program_46 0 0 arguments_46
    ≡ Traps (trap kind.Index (s 155 191) 0) ((rw I32
    (2586670477 ∷ 8 ∷ 1088949398 ∷ 4294967295 ∷ 2147483649 ∷ 4294967293 ∷ 4294967293 ∷ 2986613792 ∷ 4294967295 ∷ 421806853 ∷ [])) ∷
    (rw I32 (2147483646 ∷ 4294967289 ∷ 2147483647 ∷ 2147483648 ∷ 1 ∷ 7 ∷ 1706357043 ∷ 4 ∷ [])) ∷
    (rw I32 (4294967288 ∷ 3734439690 ∷ 2147483646 ∷ 616059685 ∷ 8 ∷ 4294967294 ∷ [])) ∷ []) ([])
unfolding digits number_to wrap_to amount not_zero
run_46_of_0 = refl

work_46_of_0 : work_of program_46 0 0 arguments_46 ≡ 33
unfolding digits number_to wrap_to amount not_zero
work_46_of_0 = refl

-- void g0(uniform int32 n1) { ; g0(n1 - 1); ; ; ; }
-- export void f(uniform signed int a[], uniform uint32 o[], uniform signed int n) { int x = min(n, programCount >= n); int v2 = x, v3 =
-- (select((int32) 1, clamp(programIndex, x, 7), (uint) programIndex)); v2 += abs(a[(~ v3) & 7]) | ~ v2 - shuffle(v2, o[programIndex], n); ++v2; v3 &=
-- (varying int16) ((programIndex)); a[programIndex] += x; }
abbrev program_47 : Program
program_47 = pr W8 ((fn None None ((vr (AVariable (u I32)) false) ∷ [])
    (t_braces (t_stmts ((t_block (t_braces (t_stmts ([])) (s 28 29))) ∷
    (t_simple (t_run (t_called 0 (t_arguments ((t_by_value
    (t_binary op.Sub (t_place (t_variable 0 (u I32) (s 33 35))) (cn I32 1 (s 38 39)) (u I32) (s 33 39))) ∷ [])) (s 30 40))) (s 30 41)) ∷
    (t_block (t_braces (t_stmts ([])) (s 42 43))) ∷ (t_block (t_braces (t_stmts ([])) (s 44 45))) ∷ (t_block (t_braces (t_stmts ([])) (s 46 47))) ∷
    [])) (s 26 49))) ∷ (fn None None ((vr (Given I32) false) ∷ (vr (Given U32) false) ∷ (vr (AVariable (u I32)) false) ∷
    (vr (AVariable (v I32)) false) ∷ (vr (AVariable (v I32)) false) ∷ (vr (AVariable (v I32)) false) ∷ [])
    (t_braces (t_stmts ((t_declare ((t_with_value 3 (v I32)
    (t_library lib.Min I32 (t_exprs ((t_place (t_variable 2 (u I32) (s 144 145))) ∷
    (t_convert I32 (t_compare cmp.GreaterOrEqual (cn I32 8 (s 147 159)) (t_place (t_variable 2 (u I32) (s 163 164))) Uniform (s 147 164))) ∷ []))
    (u I32) (s 140 165)) (s 136 165)) ∷ []) (s 132 166)) ∷
    (t_declare ((t_with_value 4 (v I32) (t_place (t_variable 3 (v I32) (s 176 177))) (s 171 177)) ∷
    (t_with_value 5 (v I32) (t_convert I32 (t_cast (t_library lib.Select U32
    (t_exprs ((t_convert Truth (t_cast (cn I32 1 (s 200 201)) (u I32) (s 192 201))) ∷
    (t_convert U32 (t_library lib.Clamp I32 (t_exprs
    ((t_program_index (s 209 221)) ∷ (t_place (t_variable 3 (v I32) (s 223 224))) ∷ (cn I32 7 (s 226 227)) ∷ [])) (v I32) (s 203 228))) ∷
    (t_cast (t_convert U32 (t_program_index (s 237 249))) (v U32) (s 230 249)) ∷ [])) (v U32) (s 185 250)) (v U32) (s 184 251))) (s 179 251)) ∷ [])
    (s 167 252)) ∷ (t_simple (t_update op.Add U32 (t_variable 4 (v I32) (s 253 255))
    (t_binary op.Or (t_convert U32 (t_library lib.Abs I32
    (t_exprs ((t_place (t_element (ar 0 (u I32) false)
    (t_binary op.And (t_cast (t_unary un.Invert (t_place (t_variable 5 (v I32) (s 268 270))) (v I32) (s 266 270)) (v I32) (s 265 271))
    (cn I32 7 (s 274 275)) (v I32) (s 265 275)) (v I32) (s 263 276))) ∷ [])) (v I32) (s 259 277)))
    (t_binary op.Sub (t_convert U32 (t_unary un.Invert (t_place (t_variable 4 (v I32) (s 282 284))) (v I32) (s 280 284)))
    (t_library lib.ShuffleTwo U32 (t_exprs ((t_convert U32 (t_place (t_variable 4 (v I32) (s 295 297)))) ∷
    (t_place (t_element (ar 1 (u U32) false) (t_program_index (s 301 313)) (v U32) (s 299 314))) ∷ (t_place (t_variable 2 (u I32) (s 316 317))) ∷ []))
    (v U32) (s 287 318)) (v U32) (s 280 318)) (v U32) (s 259 318)) (s 253 318)) (s 253 319)) ∷
    (t_simple (t_step op.Add I32 (t_variable 4 (v I32) (s 322 324)) (s 320 324)) (s 320 325)) ∷
    (t_simple (t_update op.And I32 (t_variable 5 (v I32) (s 326 328))
    (t_convert I32 (t_cast (t_convert I16 (t_cast (t_cast (t_program_index (s 350 362)) (v I32) (s 349 363)) (v I32) (s 348 364))) (v I16)
    (s 332 364))) (s 326 364)) (s 326 365)) ∷ (t_simple
    (t_update op.Add I32 (t_element (ar 0 (u I32) false) (t_program_index (s 368 380)) (v I32) (s 366 381))
    (t_place (t_variable 3 (v I32) (s 385 386))) (s 366 386)) (s 366 387)) ∷ [])) (s 130 389))) ∷ [])

abbrev arguments_47 : List Argument
arguments_47 = ((AnArray (rw I32 (2147483646 ∷ 4294967291 ∷ 4294967289 ∷ 1 ∷ 5 ∷ 4294967289 ∷ 5 ∷ 4294967295 ∷ 4294967295 ∷ 2 ∷ 2 ∷ 5 ∷ []))) ∷
    (AnArray (rw U32 (3 ∷ 2 ∷ 8 ∷ 4294967294 ∷ 1115801003 ∷ 1 ∷ 0 ∷ 8 ∷ 2 ∷ 1573665129 ∷ 2 ∷ []))) ∷
    (AValue (record { elem = I32; bits = 2147483649 })) ∷ [])

run_47_of_0 : run_of program_47 1 0 arguments_47
    ≡ Ends ((rw I32 (4294967295 ∷ 2147483644 ∷ 2147483642 ∷ 2147483650 ∷ 2147483654 ∷ 2147483642 ∷ 2147483654 ∷ 2147483648 ∷ 4294967295 ∷ 2 ∷ 2 ∷ 5 ∷
    [])) ∷ (rw U32 (3 ∷ 2 ∷ 8 ∷ 4294967294 ∷ 1115801003 ∷ 1 ∷ 0 ∷ 8 ∷ 2 ∷ 1573665129 ∷ 2 ∷ [])) ∷ []) None ([])
unfolding digits number_to wrap_to amount not_zero
run_47_of_0 = refl

work_47_of_0 : work_of program_47 1 0 arguments_47 ≡ 52
unfolding digits number_to wrap_to amount not_zero
work_47_of_0 = refl

-- uniform uint16 g0() { ; return (0x966cf23ad01ff73b) ^ 9; }
-- export void f(uniform signed a[], uniform uint64 o[], uniform int32 n) { int x = n && 9 <= n; --x; print(" %a%z\n", n, - x < (false)); x <<= n; a[programIndex] += x; }
abbrev program_62 : Program
program_62 = pr W16 ((fn (Some U16) (Some (u U16)) ([])
    (t_braces (t_stmts ((t_block (t_braces (t_stmts ([])) (s 22 23))) ∷
    (t_return (s 24 30) (Some (t_convert U16 (t_binary op.Xor (t_cast (cn U64 10839304737587722043 (s 32 50)) (u U64) (s 31 51))
    (t_convert U64 (cn I32 9 (s 54 55))) (u U64) (s 31 55)))) (s 24 56)) ∷ [])) (s 20 58))) ∷
    (fn None None ((vr (Given I32) false) ∷ (vr (Given U64) false) ∷ (vr (AVariable (u I32)) false) ∷ (vr (AVariable (v I32)) false) ∷ [])
    (t_braces (t_stmts ((t_declare ((t_with_value 3 (v I32)
    (t_convert I32 (t_logic logic.And (t_convert Truth (t_place (t_variable 2 (u I32) (s 140 141))))
    (t_compare cmp.LessOrEqual (cn I32 9 (s 145 146)) (t_place (t_variable 2 (u I32) (s 150 151))) Uniform (s 145 151)) Uniform (s 140 151)))
    (s 136 151)) ∷ []) (s 132 152)) ∷ (t_simple (t_step op.Sub I32 (t_variable 3 (v I32) (s 155 156)) (s 153 156)) (s 153 157)) ∷
    (t_print (s 158 163) (32 ∷ 37 ∷ 97 ∷ 37 ∷ 122 ∷ 10 ∷ [])
    ((t_place (t_variable 2 (u I32) (s 175 176))) ∷ (t_compare cmp.Less
    (t_unary un.Negate (t_place (t_variable 3 (v I32) (s 180 181))) (v I32) (s 178 181))
    (t_convert I32 (t_cast (cn Truth 0 (s 185 190)) (u Truth) (s 184 191))) Varying (s 178 191)) ∷ []) (s 158 193)) ∷
    (t_simple (t_update op.Shl I32 (t_variable 3 (v I32) (s 194 195)) (t_place (t_variable 2 (u I32) (s 200 201))) (s 194 201)) (s 194 202)) ∷
    (t_simple (t_update op.Add I32 (t_element (ar 0 (u I32) false) (t_program_index (s 205 217)) (v I32) (s 203 218))
    (t_place (t_variable 3 (v I32) (s 222 223))) (s 203 223)) (s 203 224)) ∷ [])) (s 130 226))) ∷ [])

abbrev arguments_62 : List Argument
arguments_62 = ((AnArray (rw I32 (4294967293 ∷ 891280364 ∷ 7 ∷ 2147483649 ∷ 1084453729 ∷ 5 ∷ 4294967287 ∷ 8 ∷ 2583248311 ∷ 2147483647 ∷ 4294967288 ∷
    2147483647 ∷ 4294967287 ∷ 4 ∷ 4294967295 ∷ 4294967288 ∷ 0 ∷ 3779795559 ∷ 8 ∷ []))) ∷
    (AnArray (rw U64 (7752876302355834877 ∷ 7388331989451695047 ∷ 6 ∷ 7851555516654940493 ∷ 1 ∷ 6 ∷ 1 ∷ 4 ∷ 1 ∷ 1 ∷ 3 ∷ 7 ∷ 9 ∷ 3 ∷ 1 ∷ 6 ∷ 9 ∷ 1 ∷ 3
    ∷ 11817280178560297798 ∷ []))) ∷ (AValue (record { elem = I32; bits = 4294967288 })) ∷ [])

run_62_of_0 : run_of program_62 1 0 arguments_62
    ≡ Ends ((rw I32 (4278190077 ∷ 874503148 ∷ 4278190087 ∷ 2130706433 ∷ 1067676513 ∷ 4278190085 ∷ 4278190071 ∷ 4278190088 ∷ 2566471095 ∷ 2130706431 ∷
    4278190072 ∷ 2130706431 ∷ 4278190071 ∷ 4278190084 ∷ 4278190079 ∷ 4278190072 ∷ 0 ∷ 3779795559 ∷ 8 ∷ [])) ∷
    (rw U64 (7752876302355834877 ∷ 7388331989451695047 ∷ 6 ∷ 7851555516654940493 ∷ 1 ∷ 6 ∷ 1 ∷ 4 ∷ 1 ∷ 1 ∷ 3 ∷ 7 ∷ 9 ∷ 3 ∷ 1 ∷ 6 ∷ 9 ∷ 1 ∷ 3 ∷
    11817280178560297798 ∷ [])) ∷ []) None (32 ∷ 45 ∷ 56 ∷ 97 ∷ 91 ∷ 102 ∷ 97 ∷ 108 ∷ 115 ∷ 101 ∷ 44 ∷ 102 ∷ 97 ∷ 108 ∷ 115 ∷ 101 ∷ 44 ∷ 102 ∷ 97 ∷
    108 ∷ 115 ∷ 101 ∷ 44 ∷ 102 ∷ 97 ∷ 108 ∷ 115 ∷ 101 ∷ 44 ∷ 102 ∷ 97 ∷ 108 ∷ 115 ∷ 101 ∷ 44 ∷ 102 ∷ 97 ∷ 108 ∷ 115 ∷ 101 ∷ 44 ∷ 102 ∷ 97 ∷ 108 ∷ 115
    ∷ 101 ∷ 44 ∷ 102 ∷ 97 ∷ 108 ∷ 115 ∷ 101 ∷ 44 ∷ 102 ∷ 97 ∷ 108 ∷ 115 ∷ 101 ∷ 44 ∷ 102 ∷ 97 ∷ 108 ∷ 115 ∷ 101 ∷ 44 ∷ 102 ∷ 97 ∷ 108 ∷ 115 ∷ 101 ∷ 44
    ∷ 102 ∷ 97 ∷ 108 ∷ 115 ∷ 101 ∷ 44 ∷ 102 ∷ 97 ∷ 108 ∷ 115 ∷ 101 ∷ 44 ∷ 102 ∷ 97 ∷ 108 ∷ 115 ∷ 101 ∷ 44 ∷ 102 ∷ 97 ∷ 108 ∷ 115 ∷ 101 ∷ 44 ∷ 102 ∷ 97
    ∷ 108 ∷ 115 ∷ 101 ∷ 93 ∷ 122 ∷ 10 ∷ [])
unfolding digits number_to wrap_to amount not_zero
run_62_of_0 = refl

work_62_of_0 : work_of program_62 1 0 arguments_62 ≡ 24
unfolding digits number_to wrap_to amount not_zero
work_62_of_0 = refl

-- signed int8 g0() { { ; } ; return (programIndex ^ programIndex) / (programIndex); }
-- export uniform signed int f(uniform int32 a[], uniform uint16 o[], uniform unsigned z[]) { int x = (3) == (signed int8) 78Lu; assert(true);
-- print("é%z\n", o[(a[((o[1] ? false : 3)) & 3] | z[(- 0b11000LL) & 1]) & 3]); foreach (i1 = 2 ... programCount, i2 = 2 ... 1) { int64 v3 = x; }
-- o[programIndex] = x; return (z[! 8] ? z[(0xa) & 1] ^ 6 : 4 <= 256); }
abbrev program_67 : Program
program_67 = pr W4 ((fn (Some I8) (Some (v I8)) ([])
    (t_braces (t_stmts ((t_block (t_braces (t_stmts ((t_block (t_braces (t_stmts ([])) (s 21 22))) ∷ [])) (s 19 24))) ∷
    (t_block (t_braces (t_stmts ([])) (s 25 26))) ∷ (t_return (s 27 33)
    (Some (t_convert I8 (t_binary op.Div (t_cast (t_binary op.Xor (t_program_index (s 35 47)) (t_program_index (s 50 62)) (v I32) (s 35 62)) (v I32)
    (s 34 63)) (t_cast (t_program_index (s 67 79)) (v I32) (s 66 80)) (v I32) (s 34 80)))) (s 27 81)) ∷ [])) (s 17 83))) ∷
    (fn (Some I32) (Some (u I32)) ((vr (Given I32) false) ∷ (vr (Given U16) false) ∷ (vr (Given U32) false) ∷ (vr (AVariable (v I32)) false) ∷
    (vr (AVariable (v I32)) true) ∷ (vr (AVariable (v I32)) true) ∷ (vr (AVariable (v I64)) false) ∷ [])
    (t_braces (t_stmts ((t_declare ((t_with_value 3 (v I32)
    (t_convert I32 (t_compare cmp.Equal (t_cast (cn I32 3 (s 184 185)) (u I32) (s 183 186))
    (t_convert I32 (t_cast (t_convert I8 (cn U64 78 (s 204 208))) (u I8) (s 190 208))) Uniform (s 183 208))) (s 179 208)) ∷ []) (s 175 209)) ∷
    (t_assert (cn Truth 1 (s 217 221)) (s 210 222) (s 210 223)) ∷
    (t_print (s 224 229) (195 ∷ 169 ∷ 37 ∷ 122 ∷ 10 ∷ [])
    ((t_place (t_element (ar 1 (u U16) false) (t_binary op.And
    (t_cast (t_binary op.Or (t_convert U32 (t_place (t_element (ar 0 (u I32) false)
    (t_binary op.And (t_cast (t_cast (t_choose (t_convert Truth (t_place (t_element (ar 1 (u U16) false) (cn I32 1 (s 249 250)) (u U16) (s 247 251))))
    (t_convert I32 (cn Truth 0 (s 254 259))) (cn I32 3 (s 262 263)) (u I32) (s 247 263)) (u I32) (s 246 264)) (u I32) (s 245 265))
    (cn I32 3 (s 268 269)) (u I32) (s 245 269)) (u I32) (s 243 270))))
    (t_place (t_element (ar 2 (u U32) false) (t_binary op.And
    (t_cast (t_unary un.Negate (cn I64 24 (s 278 287)) (u I64) (s 276 287)) (u I64) (s 275 288)) (t_convert I64 (cn I32 1 (s 291 292))) (u I64)
    (s 275 292)) (u U32) (s 273 293))) (u U32) (s 243 293)) (u U32) (s 242 294)) (t_convert U32 (cn I32 3 (s 297 298))) (u U32) (s 242 298)) (u U16)
    (s 240 299))) ∷ []) (s 224 301)) ∷ (t_foreach (s 302 309) 4
    ((rg 4 (cn I32 2 (s 316 317)) (cn I32 4 (s 322 334)) (s 311 334)) ∷ (rg 5 (cn I32 2 (s 341 342)) (cn I32 1 (s 347 348)) (s 336 348)) ∷ [])
    (t_block (t_braces (t_stmts ((t_declare ((t_with_value 6 (v I64) (t_convert I64 (t_place (t_variable 3 (v I32) (s 363 364)))) (s 358 364)) ∷ [])
    (s 352 365)) ∷ [])) (s 350 367))) (s 302 367)) ∷
    (t_simple (t_assign (t_element (ar 1 (u U16) false) (t_program_index (s 370 382)) (v U16) (s 368 383))
    (t_convert U16 (t_place (t_variable 3 (v I32) (s 386 387)))) (s 368 387)) (s 368 388)) ∷
    (t_return (s 389 395) (Some (t_convert I32 (t_cast
    (t_choose (t_convert Truth (t_place (t_element (ar 2 (u U32) false)
    (t_unary un.Not (t_convert Truth (cn I32 8 (s 401 402))) (u Truth) (s 399 402)) (u U32) (s 397 403))))
    (t_binary op.Xor (t_place (t_element (ar 2 (u U32) false)
    (t_binary op.And (t_cast (cn I32 10 (s 409 412)) (u I32) (s 408 413)) (cn I32 1 (s 416 417)) (u I32) (s 408 417)) (u U32) (s 406 418)))
    (t_convert U32 (cn I32 6 (s 421 422))) (u U32) (s 406 422))
    (t_convert U32 (t_compare cmp.LessOrEqual (cn I32 4 (s 425 426)) (cn I32 256 (s 430 433)) Uniform (s 425 433))) (u U32) (s 397 433)) (u U32)
    (s 396 434)))) (s 389 435)) ∷ [])) (s 173 437))) ∷ [])

abbrev arguments_67 : List Argument
arguments_67 = ((AnArray (rw I32 (2147483647 ∷ 2147483646 ∷ 4294967289 ∷ 2147483648 ∷ []))) ∷ (AnArray (rw U16 (3 ∷ 5 ∷ 0 ∷ 8 ∷ []))) ∷ (AnArray (rw U32 (0 ∷ 6 ∷ 2 ∷ []))) ∷ [])

run_67_of_0 : run_of program_67 1 0 arguments_67
    ≡ Ends ((rw I32 (2147483647 ∷ 2147483646 ∷ 4294967289 ∷ 2147483648 ∷ [])) ∷ (rw U16 (0 ∷ 0 ∷ 0 ∷ 0 ∷ [])) ∷ (rw U32 (0 ∷ 6 ∷ 2 ∷ [])) ∷ [])
    (Some (record { elem = I32; bits = 1 })) (195 ∷ 169 ∷ 56 ∷ 122 ∷ 10 ∷ [])
unfolding digits number_to wrap_to amount not_zero
run_67_of_0 = refl

work_67_of_0 : work_of program_67 1 0 arguments_67 ≡ 51
unfolding digits number_to wrap_to amount not_zero
work_67_of_0 = refl
