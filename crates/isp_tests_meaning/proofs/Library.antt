-- Calls of the library: what each program does in so many turns and what its work is, against an independent implementation.
use Rattle.std.specs.Prelude.{◌≡◌, true, false, List, [], ◌∷◌, Some, None}
use Rattle.std.proofs.Common.{refl}
use Rattle.std.specs.Fmt.{digits}
use Rattle.isp_base.specs.Values.{number_to, wrap_to, amount, not_zero}
use Rattle.isp_base.specs.Outcomes.{Ends, GoesOn}
use Rattle.isp_base.specs.declared.types.Gang.TheVariants.{W4, W8, W16}
use Rattle.isp_base.specs.declared.types.Elem.TheVariants.{Bool as Truth, I8, I16, U16, I32, U32, I64, U64}
use Rattle.isp_base.specs.declared.types.Rate.TheVariants.{Uniform, Varying}
use Rattle.isp_base.specs.declared.operators.BinOp.TheVariants as op
use Rattle.isp_base.specs.declared.operators.UnaryOp.TheVariants as un
use Rattle.isp_base.specs.declared.operators.Compare.TheVariants as cmp
use Rattle.isp_base.specs.declared.signature.Argument.{Argument}
use Rattle.isp_base.specs.declared.signature.Argument.TheVariants.{Array as AnArray, Value as AValue}
use Rattle.isp_tree.specs.declared.stmt.Form.TheVariants.{Plain}
use Rattle.isp_typed.specs.declared.library.Library.TheVariants as lib
use Rattle.isp_typed.specs.declared.variable.Holds.TheVariants.{Value as AVariable, Given, Local}
use Rattle.isp_typed.specs.declared.variable.Logic.TheVariants as logic
use Rattle.isp_typed.specs.Typed.{t_program_index, t_place, t_convert, t_cast, t_unary, t_binary, t_compare, t_logic, t_choose, t_library, t_packed_store, t_packed_load, t_variable, t_element, t_whole, t_from, t_exprs}
use Rattle.isp_typed.specs.Typed.{t_plain, t_with_value, t_with_size, t_value, t_assign, t_update, t_step}
use Rattle.isp_typed.specs.Typed.{t_block, t_declare, t_simple, t_if, t_do, t_return, t_braces, t_stmts, Program}
use Rattle.isp_meaning.specs.Runs.{run_of, work_of}
use Rattle.isp_tests_meaning.specs.Terms.{s, u, v, cn, ar, vr, rw, fn, pr}

-- export void f(uniform int32 a[], uniform uint64 o[]) { int x = programIndex << (o[programIndex]); if (! x > (0)) { uniform unsigned int16 t1[7];
-- a[(x == x) & 3] *= ! (5 << t1[0]) / ((int32) t1[3] | 1); } unsigned int64 t2[4]; o[programIndex] = x; }
abbrev program_22 : Program
program_22 = pr W4 ((fn None None ((vr (Given I32) false) ∷ (vr (Given U64) false) ∷ (vr (AVariable (v I32)) false) ∷ (vr (Local (u U16) 7) false) ∷
    (vr (Local (v U64) 4) false) ∷ []) (t_braces (t_stmts
    ((t_declare ((t_with_value 2 (v I32) (t_convert I32
    (t_binary op.Shl (t_convert U64 (t_program_index (s 63 75)))
    (t_cast (t_place (t_element (ar 1 (u U64) false) (t_program_index (s 82 94)) (v U64) (s 80 95))) (v U64) (s 79 96)) (v U64) (s 63 96))) (s 59 96))
    ∷ []) (s 55 97)) ∷ (t_if Plain 3 (t_compare cmp.Greater
    (t_convert I32 (t_unary un.Not (t_convert Truth (t_place (t_variable 2 (v I32) (s 104 105)))) (v Truth) (s 102 105)))
    (t_cast (cn I32 0 (s 109 110)) (u I32) (s 108 111)) Varying (s 102 111))
    (t_block (t_braces (t_stmts ((t_declare ((t_with_size (ar 3 (u U16) false) (s 138 143)) ∷ []) (s 115 144)) ∷
    (t_simple (t_update op.Mul I32 (t_element (ar 0 (u I32) false)
    (t_binary op.And (t_convert I32 (t_cast (t_compare cmp.Equal (t_place (t_variable 2 (v I32) (s 148 149)))
    (t_place (t_variable 2 (v I32) (s 153 154))) Varying (s 148 154)) (v Truth) (s 147 155))) (cn I32 3 (s 158 159)) (v I32) (s 147 159)) (v I32)
    (s 145 160)) (t_binary op.Div (t_convert I32 (t_unary un.Not
    (t_convert Truth (t_cast (t_binary op.Shl (cn I32 5 (s 167 168))
    (t_convert I32 (t_place (t_element (ar 3 (u U16) false) (cn I32 0 (s 175 176)) (u U16) (s 172 177)))) (u I32) (s 167 177)) (u I32) (s 166 178)))
    (u Truth) (s 164 178))) (t_cast (t_binary op.Or (t_cast
    (t_convert I32 (t_place (t_element (ar 3 (u U16) false) (cn I32 3 (s 193 194)) (u U16) (s 190 195)))) (u I32) (s 182 195)) (cn I32 1 (s 198 199))
    (u I32) (s 182 199)) (u I32) (s 181 200)) (u I32) (s 164 200)) (s 145 200)) (s 145 201)) ∷ [])) (s 113 203))) (s 98 203)) ∷
    (t_declare ((t_with_size (ar 4 (v U64) false) (s 219 224)) ∷ []) (s 204 225)) ∷
    (t_simple (t_assign (t_element (ar 1 (u U64) false) (t_program_index (s 228 240)) (v U64) (s 226 241))
    (t_convert U64 (t_place (t_variable 2 (v I32) (s 244 245)))) (s 226 245)) (s 226 246)) ∷ [])) (s 53 248))) ∷ [])

abbrev arguments_22 : List Argument
arguments_22 = ((AnArray (rw I32 (4225249341 ∷ 0 ∷ 2147483646 ∷ 2147483649 ∷ []))) ∷ (AnArray (rw U64 (2 ∷ 2 ∷ 9088358812196231131 ∷ 14942905835264593804 ∷ 18446744073709551615 ∷ 6 ∷ []))) ∷ [])

run_22_of_0 : run_of program_22 0 0 arguments_22 ≡ Ends ((rw I32 (4225249341 ∷ 0 ∷ 2147483646 ∷ 2147483649 ∷ [])) ∷ (rw U64 (0 ∷ 4 ∷ 268435456 ∷ 12288 ∷ 18446744073709551615 ∷ 6 ∷ [])) ∷ []) None ([])
unfolding digits number_to wrap_to amount not_zero
run_22_of_0 = refl

work_22_of_0 : work_of program_22 0 0 arguments_22 ≡ 44
unfolding digits number_to wrap_to amount not_zero
work_22_of_0 = refl

-- export void f(uniform int a[], uniform signed int8 o[], uniform bool n) { int x = (6); --x; a[programIndex] = all(o[((n)) & 3]); rotate(x, 0b111LL); --n; a[programIndex] += x; }
abbrev program_23 : Program
program_23 = pr W4 ((fn None None ((vr (Given I32) false) ∷ (vr (Given I8) false) ∷ (vr (AVariable (u Truth)) false) ∷ (vr (AVariable (v I32)) false)
    ∷ []) (t_braces (t_stmts ((t_declare ((t_with_value 3 (v I32) (t_cast (cn I32 6 (s 83 84)) (u I32) (s 82 85)) (s 78 85)) ∷ []) (s 74 86)) ∷
    (t_simple (t_step op.Sub I32 (t_variable 3 (v I32) (s 89 90)) (s 87 90)) (s 87 91)) ∷
    (t_simple (t_assign (t_element (ar 0 (u I32) false) (t_program_index (s 94 106)) (v I32) (s 92 107))
    (t_convert I32 (t_library lib.All Truth (t_exprs
    ((t_convert Truth (t_place (t_element (ar 1 (u I8) false)
    (t_binary op.And (t_convert I32 (t_cast (t_cast (t_place (t_variable 2 (u Truth) (s 118 119))) (u Truth) (s 117 120)) (u Truth) (s 116 121)))
    (cn I32 3 (s 124 125)) (u I32) (s 116 125)) (u I8) (s 114 126)))) ∷ [])) (u Truth) (s 110 127))) (s 92 127)) (s 92 128)) ∷
    (t_simple (t_value (t_library lib.Rotate I32 (t_exprs
    ((t_place (t_variable 3 (v I32) (s 136 137))) ∷ (t_convert I32 (cn I64 7 (s 139 146))) ∷ [])) (v I32) (s 129 147))) (s 129 148)) ∷
    (t_simple (t_step op.Sub I32 (t_variable 2 (u Truth) (s 151 152)) (s 149 152)) (s 149 153)) ∷
    (t_simple (t_update op.Add I32 (t_element (ar 0 (u I32) false) (t_program_index (s 156 168)) (v I32) (s 154 169))
    (t_place (t_variable 3 (v I32) (s 173 174))) (s 154 174)) (s 154 175)) ∷ [])) (s 72 177))) ∷ [])

abbrev arguments_23 : List Argument
arguments_23 = ((AnArray (rw I32 (4294967288 ∷ 2147483648 ∷ 6 ∷ 4294967291 ∷ 1 ∷ 4294967291 ∷ []))) ∷ (AnArray (rw I8 (249 ∷ 255 ∷ 2 ∷ 7 ∷ 248 ∷ 17 ∷ 2 ∷ []))) ∷ (AValue (record { elem = Truth; bits = 0 })) ∷ [])

run_23_of_0 : run_of program_23 0 0 arguments_23 ≡ Ends ((rw I32 (6 ∷ 6 ∷ 6 ∷ 6 ∷ 1 ∷ 4294967291 ∷ [])) ∷ (rw I8 (249 ∷ 255 ∷ 2 ∷ 7 ∷ 248 ∷ 17 ∷ 2 ∷ [])) ∷ []) None ([])
unfolding digits number_to wrap_to amount not_zero
run_23_of_0 = refl

work_23_of_0 : work_of program_23 0 0 arguments_23 ≡ 27
unfolding digits number_to wrap_to amount not_zero
work_23_of_0 = refl

-- export void f(uniform signed a[], uniform signed int8 o[], uniform signed int z[], uniform signed int8 n) { int x = rotate((0x5128af78) %
-- (programIndex | 1), 0); { uniform int k1 = 0; cdo { k1++;  packed_store_active(&a[1], k1 & k1 | x); } while (k1 < 3); } n = packed_load_active(&a,
-- &x); o[programIndex] = x; }
abbrev program_27 : Program
program_27 = pr W8 ((fn None None ((vr (Given I32) false) ∷ (vr (Given I8) false) ∷ (vr (Given I32) false) ∷ (vr (AVariable (u I8)) false) ∷
    (vr (AVariable (v I32)) false) ∷ (vr (AVariable (u I32)) false) ∷ [])
    (t_braces (t_stmts ((t_declare ((t_with_value 4 (v I32)
    (t_library lib.Rotate I32 (t_exprs ((t_binary op.Rem (t_cast (cn I32 1361620856 (s 124 134)) (u I32) (s 123 135))
    (t_cast (t_binary op.Or (t_program_index (s 139 151)) (cn I32 1 (s 154 155)) (v I32) (s 139 155)) (v I32) (s 138 156)) (v I32) (s 123 156)) ∷
    (cn I32 0 (s 158 159)) ∷ [])) (v I32) (s 116 160)) (s 112 160)) ∷ []) (s 108 161)) ∷
    (t_block (t_braces (t_stmts ((t_declare ((t_with_value 5 (u I32) (cn I32 0 (s 181 182)) (s 176 182)) ∷ []) (s 164 183)) ∷
    (t_do Plain 6 (t_block (t_braces (t_stmts ((t_simple (t_step op.Add I32 (t_variable 5 (u I32) (s 190 192)) (s 190 194)) (s 190 195)) ∷
    (t_simple (t_value (t_packed_store (t_from (ar 0 (u I32) false) (cn I32 1 (s 220 221)) (s 218 219))
    (t_binary op.Or (t_binary op.And (t_place (t_variable 5 (u I32) (s 224 226))) (t_place (t_variable 5 (u I32) (s 229 231))) (u I32) (s 224 231))
    (t_place (t_variable 4 (v I32) (s 234 235))) (v I32) (s 224 235)) (s 197 236))) (s 197 237)) ∷ [])) (s 188 239)))
    (t_compare cmp.Less (t_place (t_variable 5 (u I32) (s 247 249))) (cn I32 3 (s 252 253)) Uniform (s 247 253)) (s 184 255)) ∷ [])) (s 162 257))) ∷
    (t_simple (t_assign (t_variable 3 (u I8) (s 258 259)) (t_convert I8 (t_packed_load (t_whole (ar 0 (u I32) false) (s 282 283)) 4 (s 262 288)))
    (s 258 288)) (s 258 289)) ∷ (t_simple (t_assign (t_element (ar 1 (u I8) false) (t_program_index (s 292 304)) (v I8) (s 290 305))
    (t_convert I8 (t_place (t_variable 4 (v I32) (s 308 309)))) (s 290 309)) (s 290 310)) ∷ [])) (s 106 312))) ∷ [])

abbrev arguments_27 : List Argument
arguments_27 = ((AnArray (rw I32 (4 ∷ 3 ∷ 4294967292 ∷ 3 ∷ 4294967295 ∷ 879162356 ∷ 2147483648 ∷ 4294967287 ∷ 0 ∷ []))) ∷
    (AnArray (rw I8 (5 ∷ 255 ∷ 255 ∷ 129 ∷ 7 ∷ 127 ∷ 4 ∷ 8 ∷ 209 ∷ 1 ∷ 251 ∷ []))) ∷
    (AnArray (rw I32 (6 ∷ 2147483649 ∷ 1753876555 ∷ 2296136937 ∷ 0 ∷ 2 ∷ []))) ∷ (AValue (record { elem = I8; bits = 126 })) ∷ [])

run_27_of_0 : run_of program_27 0 0 arguments_27 ≡ GoesOn ([])
unfolding digits number_to wrap_to amount not_zero
run_27_of_0 = refl

work_27_of_0 : work_of program_27 0 0 arguments_27 ≡ 17
unfolding digits number_to wrap_to amount not_zero
work_27_of_0 = refl

run_27_of_1 : run_of program_27 0 1 arguments_27 ≡ GoesOn ([])
unfolding digits number_to wrap_to amount not_zero
run_27_of_1 = refl

work_27_of_1 : work_of program_27 0 1 arguments_27 ≡ 33
unfolding digits number_to wrap_to amount not_zero
work_27_of_1 = refl

run_27_of_2 : run_of program_27 0 2 arguments_27 ≡ GoesOn ([])
unfolding digits number_to wrap_to amount not_zero
run_27_of_2 = refl

work_27_of_2 : work_of program_27 0 2 arguments_27 ≡ 49
unfolding digits number_to wrap_to amount not_zero
work_27_of_2 = refl

run_27_of_5 : run_of program_27 0 5 arguments_27
    ≡ Ends ((rw I32 (4 ∷ 3 ∷ 3 ∷ 3 ∷ 3 ∷ 3 ∷ 3 ∷ 3 ∷ 3 ∷ [])) ∷ (rw I8 (4 ∷ 3 ∷ 3 ∷ 3 ∷ 3 ∷ 3 ∷ 3 ∷ 3 ∷ 209 ∷ 1 ∷ 251 ∷ [])) ∷
    (rw I32 (6 ∷ 2147483649 ∷ 1753876555 ∷ 2296136937 ∷ 0 ∷ 2 ∷ [])) ∷ []) None ([])
unfolding digits number_to wrap_to amount not_zero
run_27_of_5 = refl

work_27_of_5 : work_of program_27 0 5 arguments_27 ≡ 74
unfolding digits number_to wrap_to amount not_zero
work_27_of_5 = refl

-- export void f(uniform signed a[], uniform unsigned o[], uniform int32 n) { int x = o[programIndex] != n << 0; int v1; ; a[(n) & 7] = n == programCount * (a[(o[3] - 5ULL) & 7]); ++n; ; o[programIndex] = x; }
abbrev program_29 : Program
program_29 = pr W4 ((fn None None ((vr (Given I32) false) ∷ (vr (Given U32) false) ∷ (vr (AVariable (u I32)) false) ∷ (vr (AVariable (v I32)) false) ∷
    (vr (AVariable (v I32)) false) ∷ []) (t_braces (t_stmts
    ((t_declare ((t_with_value 3 (v I32) (t_convert I32
    (t_compare cmp.NotEqual (t_place (t_element (ar 1 (u U32) false) (t_program_index (s 85 97)) (v U32) (s 83 98)))
    (t_convert U32 (t_binary op.Shl (t_place (t_variable 2 (u I32) (s 102 103))) (cn I32 0 (s 107 108)) (u I32) (s 102 108))) Varying (s 83 108)))
    (s 79 108)) ∷ []) (s 75 109)) ∷ (t_declare ((t_plain 4 (v I32) (s 114 116)) ∷ []) (s 110 117)) ∷ (t_block (t_braces (t_stmts ([])) (s 118 119))) ∷
    (t_simple (t_assign (t_element (ar 0 (u I32) false)
    (t_binary op.And (t_cast (t_place (t_variable 2 (u I32) (s 123 124))) (u I32) (s 122 125)) (cn I32 7 (s 128 129)) (u I32) (s 122 129)) (u I32)
    (s 120 130)) (t_convert I32 (t_compare cmp.Equal (t_place (t_variable 2 (u I32) (s 133 134)))
    (t_binary op.Mul (cn I32 4 (s 138 150)) (t_cast (t_place
    (t_element (ar 0 (u I32) false) (t_binary op.And
    (t_cast (t_binary op.Sub (t_convert U64 (t_place (t_element (ar 1 (u U32) false) (cn I32 3 (s 159 160)) (u U32) (s 157 161))))
    (cn U64 5 (s 164 168)) (u U64) (s 157 168)) (u U64) (s 156 169)) (t_convert U64 (cn I32 7 (s 172 173))) (u U64) (s 156 173)) (u I32) (s 154 174)))
    (u I32) (s 153 175)) (u I32) (s 138 175)) Uniform (s 133 175))) (s 120 175)) (s 120 176)) ∷
    (t_simple (t_step op.Add I32 (t_variable 2 (u I32) (s 179 180)) (s 177 180)) (s 177 181)) ∷ (t_block (t_braces (t_stmts ([])) (s 182 183))) ∷
    (t_simple (t_assign (t_element (ar 1 (u U32) false) (t_program_index (s 186 198)) (v U32) (s 184 199))
    (t_convert U32 (t_place (t_variable 3 (v I32) (s 202 203)))) (s 184 203)) (s 184 204)) ∷ [])) (s 73 206))) ∷ [])

abbrev arguments_29 : List Argument
arguments_29 = ((AnArray (rw I32 (4294967295 ∷ 4294967292 ∷ 2147483649 ∷ 3 ∷ 4294967292 ∷ 8 ∷ 2126958847 ∷ 9 ∷ []))) ∷ (AnArray (rw U32 (1 ∷ 8 ∷ 2108977409 ∷ 9 ∷ []))) ∷ (AValue (record { elem = I32; bits = 4 })) ∷ [])

run_29_of_0 : run_of program_29 0 0 arguments_29 ≡ Ends ((rw I32 (4294967295 ∷ 4294967292 ∷ 2147483649 ∷ 3 ∷ 0 ∷ 8 ∷ 2126958847 ∷ 9 ∷ [])) ∷ (rw U32 (1 ∷ 1 ∷ 1 ∷ 1 ∷ [])) ∷ []) None ([])
unfolding digits number_to wrap_to amount not_zero
run_29_of_0 = refl

work_29_of_0 : work_of program_29 0 0 arguments_29 ≡ 38
unfolding digits number_to wrap_to amount not_zero
work_29_of_0 = refl

-- export void f(uniform signed int a[], uniform signed o[]) { int x = o[programIndex] | o[programIndex] >> o[(programIndex ^ (shuffle(programIndex,
-- 2, programCount))) & 3] - o[programIndex]; packed_load_active(&a[0], &x); packed_store_active(&o, 7); o[programIndex] -= max((int16) (66Lu ? 1 :
-- true), (x >= 1)); a[programIndex] += x; }
abbrev program_31 : Program
program_31 = pr W4 ((fn None None ((vr (Given I32) false) ∷ (vr (Given I32) false) ∷ (vr (AVariable (v I32)) false) ∷ [])
    (t_braces (t_stmts ((t_declare ((t_with_value 2 (v I32)
    (t_binary op.Or (t_place (t_element (ar 1 (u I32) false) (t_program_index (s 70 82)) (v I32) (s 68 83)))
    (t_binary op.Shr (t_place (t_element (ar 1 (u I32) false) (t_program_index (s 88 100)) (v I32) (s 86 101)))
    (t_binary op.Sub (t_place (t_element (ar 1 (u I32) false)
    (t_binary op.And (t_cast (t_binary op.Xor (t_program_index (s 108 120))
    (t_cast (t_library lib.ShuffleTwo I32 (t_exprs ((t_program_index (s 132 144)) ∷ (cn I32 2 (s 146 147)) ∷ (cn I32 4 (s 149 161)) ∷ [])) (v I32)
    (s 124 162)) (v I32) (s 123 163)) (v I32) (s 108 163)) (v I32) (s 107 164)) (cn I32 3 (s 167 168)) (v I32) (s 107 168)) (v I32) (s 105 169)))
    (t_place (t_element (ar 1 (u I32) false) (t_program_index (s 174 186)) (v I32) (s 172 187))) (v I32) (s 105 187)) (v I32) (s 86 187)) (v I32)
    (s 68 187)) (s 64 187)) ∷ []) (s 60 188)) ∷ (t_simple
    (t_value (t_packed_load (t_from (ar 0 (u I32) false) (cn I32 0 (s 211 212)) (s 209 210)) 2 (s 189 218))) (s 189 219)) ∷
    (t_simple (t_value (t_packed_store (t_whole (ar 1 (u I32) false) (s 241 242)) (cn I32 7 (s 244 245)) (s 220 246))) (s 220 247)) ∷
    (t_simple (t_update op.Sub I32 (t_element (ar 1 (u I32) false) (t_program_index (s 250 262)) (v I32) (s 248 263))
    (t_library lib.Max I32 (t_exprs ((t_convert I32 (t_cast
    (t_convert I16 (t_cast (t_choose (t_convert Truth (cn U64 66 (s 280 284))) (cn I32 1 (s 287 288)) (t_convert I32 (cn Truth 1 (s 291 295))) (u I32)
    (s 280 295)) (u I32) (s 279 296))) (u I16) (s 271 296))) ∷
    (t_convert I32 (t_cast (t_compare cmp.GreaterOrEqual (t_place (t_variable 2 (v I32) (s 299 300))) (cn I32 1 (s 304 305)) Varying (s 299 305))
    (v Truth) (s 298 306))) ∷ [])) (v I32) (s 267 307)) (s 248 307)) (s 248 308)) ∷
    (t_simple (t_update op.Add I32 (t_element (ar 0 (u I32) false) (t_program_index (s 311 323)) (v I32) (s 309 324))
    (t_place (t_variable 2 (v I32) (s 328 329))) (s 309 329)) (s 309 330)) ∷ [])) (s 58 332))) ∷ [])

abbrev arguments_31 : List Argument
arguments_31 = ((AnArray (rw I32 (9 ∷ 0 ∷ 2147483649 ∷ 4294967291 ∷ []))) ∷ (AnArray (rw I32 (2147483646 ∷ 4 ∷ 2147483646 ∷ 4294967289 ∷ []))) ∷ [])

run_31_of_0 : run_of program_31 0 0 arguments_31 ≡ Ends ((rw I32 (18 ∷ 0 ∷ 2 ∷ 4294967286 ∷ [])) ∷ (rw I32 (6 ∷ 6 ∷ 6 ∷ 6 ∷ [])) ∷ []) None ([])
unfolding digits number_to wrap_to amount not_zero
run_31_of_0 = refl

work_31_of_0 : work_of program_31 0 0 arguments_31 ≡ 49
unfolding digits number_to wrap_to amount not_zero
work_31_of_0 = refl

-- export uniform unsigned int16 f(uniform signed a[], uniform unsigned int o[]) { int x = any(o[programIndex]) == 4294967295; a[1] |= (any((x ? x :
-- programIndex))); a[programIndex] = x && programCount || ~ 5 + (int32) exclusive_scan_or(programIndex); packed_store_active(a, broadcast(x, 1) > x);
-- --x; o[programIndex] = x; return a[3]; }
abbrev program_33 : Program
program_33 = pr W8 ((fn (Some U16) (Some (u U16)) ((vr (Given I32) false) ∷ (vr (Given U32) false) ∷ (vr (AVariable (v I32)) false) ∷ [])
    (t_braces (t_stmts ((t_declare ((t_with_value 2 (v I32)
    (t_convert I32 (t_compare cmp.Equal (t_convert I64
    (t_library lib.Any Truth (t_exprs ((t_convert Truth (t_place (t_element (ar 1 (u U32) false) (t_program_index (s 94 106)) (v U32) (s 92 107)))) ∷
    [])) (u Truth) (s 88 108))) (cn I64 4294967295 (s 112 122)) Uniform (s 88 122))) (s 84 122)) ∷ []) (s 80 123)) ∷
    (t_simple (t_update op.Or I32 (t_element (ar 0 (u I32) false) (cn I32 1 (s 126 127)) (u I32) (s 124 128))
    (t_convert I32 (t_cast (t_library lib.Any Truth (t_exprs
    ((t_convert Truth (t_cast (t_choose (t_convert Truth (t_place (t_variable 2 (v I32) (s 138 139)))) (t_place (t_variable 2 (v I32) (s 142 143)))
    (t_program_index (s 146 158)) (v I32) (s 138 158)) (v I32) (s 137 159))) ∷ [])) (u Truth) (s 133 160)) (u Truth) (s 132 161))) (s 124 161))
    (s 124 162)) ∷ (t_simple (t_assign (t_element (ar 0 (u I32) false) (t_program_index (s 165 177)) (v I32) (s 163 178))
    (t_convert I32 (t_logic logic.Or (t_logic logic.And (t_convert Truth (t_place (t_variable 2 (v I32) (s 181 182))))
    (t_convert Truth (cn I32 8 (s 186 198))) Varying (s 181 198))
    (t_convert Truth (t_binary op.Add (t_unary un.Invert (cn I32 5 (s 204 205)) (u I32) (s 202 205))
    (t_cast (t_library lib.ScanOr I32 (t_exprs ((t_program_index (s 234 246)) ∷ [])) (v I32) (s 216 247)) (v I32) (s 208 247)) (v I32) (s 202 247)))
    Varying (s 181 247))) (s 163 247)) (s 163 248)) ∷
    (t_simple (t_value (t_packed_store (t_whole (ar 0 (u I32) false) (s 269 270))
    (t_convert I32 (t_compare cmp.Greater (t_library lib.Broadcast I32
    (t_exprs ((t_place (t_variable 2 (v I32) (s 282 283))) ∷ (cn I32 1 (s 285 286)) ∷ [])) (v I32) (s 272 287))
    (t_place (t_variable 2 (v I32) (s 290 291))) Varying (s 272 291))) (s 249 292))) (s 249 293)) ∷
    (t_simple (t_step op.Sub I32 (t_variable 2 (v I32) (s 296 297)) (s 294 297)) (s 294 298)) ∷
    (t_simple (t_assign (t_element (ar 1 (u U32) false) (t_program_index (s 301 313)) (v U32) (s 299 314))
    (t_convert U32 (t_place (t_variable 2 (v I32) (s 317 318)))) (s 299 318)) (s 299 319)) ∷
    (t_return (s 320 326) (Some (t_convert U16 (t_place (t_element (ar 0 (u I32) false) (cn I32 3 (s 329 330)) (u I32) (s 327 331))))) (s 320 332)) ∷
    [])) (s 78 334))) ∷ [])

abbrev arguments_33 : List Argument
arguments_33 = ((AnArray (rw I32 (4294967290 ∷ 4294967294 ∷ 4294967288 ∷ 3344483416 ∷ 8 ∷ 5 ∷ 2147483646 ∷ 4294967288 ∷ 4294967291 ∷ []))) ∷ (AnArray (rw U32 (8 ∷ 686926291 ∷ 5 ∷ 1 ∷ 4 ∷ 9 ∷ 4294967295 ∷ 1 ∷ 7 ∷ 5 ∷ 6 ∷ []))) ∷ [])

run_33_of_0 : run_of program_33 0 0 arguments_33
    ≡ Ends ((rw I32 (0 ∷ 0 ∷ 0 ∷ 0 ∷ 0 ∷ 0 ∷ 0 ∷ 0 ∷ 4294967291 ∷ [])) ∷
    (rw U32 (4294967295 ∷ 4294967295 ∷ 4294967295 ∷ 4294967295 ∷ 4294967295 ∷ 4294967295 ∷ 4294967295 ∷ 4294967295 ∷ 7 ∷ 5 ∷ 6 ∷ [])) ∷ [])
    (Some (record { elem = U16; bits = 0 })) ([])
unfolding digits number_to wrap_to amount not_zero
run_33_of_0 = refl

work_33_of_0 : work_of program_33 0 0 arguments_33 ≡ 46
unfolding digits number_to wrap_to amount not_zero
work_33_of_0 = refl

-- export void f(uniform int32 a[], uniform signed o[], uniform uint64 n) { int x = n; int t1[5]; a[2] &= reduce_add(t1[(programIndex ^ (x)) & 3]); packed_store_active(&o[0], x); a[programIndex] += x; }
abbrev program_37 : Program
program_37 = pr W4 ((fn None None ((vr (Given I32) false) ∷ (vr (Given I32) false) ∷ (vr (AVariable (u U64)) false) ∷ (vr (AVariable (v I32)) false) ∷
    (vr (Local (v I32) 5) false) ∷ []) (t_braces (t_stmts
    ((t_declare ((t_with_value 3 (v I32) (t_convert I32 (t_place (t_variable 2 (u U64) (s 81 82)))) (s 77 82)) ∷ []) (s 73 83)) ∷
    (t_declare ((t_with_size (ar 4 (v I32) false) (s 88 93)) ∷ []) (s 84 94)) ∷
    (t_simple (t_update op.And I64 (t_element (ar 0 (u I32) false) (cn I32 2 (s 97 98)) (u I32) (s 95 99))
    (t_library lib.ReduceAdd I32 (t_exprs ((t_place (t_element (ar 4 (v I32) false)
    (t_binary op.And (t_cast (t_binary op.Xor (t_program_index (s 118 130)) (t_cast (t_place (t_variable 3 (v I32) (s 134 135))) (v I32) (s 133 136))
    (v I32) (s 118 136)) (v I32) (s 117 137)) (cn I32 3 (s 140 141)) (v I32) (s 117 141)) (v I32) (s 114 142))) ∷ [])) (u I64) (s 103 143))
    (s 95 143)) (s 95 144)) ∷ (t_simple (t_value (t_packed_store (t_from (ar 1 (u I32) false) (cn I32 0 (s 168 169)) (s 166 167))
    (t_place (t_variable 3 (v I32) (s 172 173))) (s 145 174))) (s 145 175)) ∷
    (t_simple (t_update op.Add I32 (t_element (ar 0 (u I32) false) (t_program_index (s 178 190)) (v I32) (s 176 191))
    (t_place (t_variable 3 (v I32) (s 195 196))) (s 176 196)) (s 176 197)) ∷ [])) (s 71 199))) ∷ [])

abbrev arguments_37 : List Argument
arguments_37 = ((AnArray (rw I32 (8 ∷ 3 ∷ 4294967291 ∷ 4294967291 ∷ 2147483647 ∷ 9 ∷ 2147483646 ∷ 4294967289 ∷ []))) ∷
    (AnArray (rw I32 (2147483649 ∷ 4294967288 ∷ 2147483646 ∷ 0 ∷ 2147483647 ∷ 3908171971 ∷ []))) ∷
    (AValue (record { elem = U64; bits = 18446744073709551614 })) ∷ [])

run_37_of_0 : run_of program_37 0 0 arguments_37
    ≡ Ends ((rw I32 (6 ∷ 1 ∷ 4294967294 ∷ 4294967289 ∷ 2147483647 ∷ 9 ∷ 2147483646 ∷ 4294967289 ∷ [])) ∷
    (rw I32 (4294967294 ∷ 4294967294 ∷ 4294967294 ∷ 4294967294 ∷ 2147483647 ∷ 3908171971 ∷ [])) ∷ []) None ([])
unfolding digits number_to wrap_to amount not_zero
run_37_of_0 = refl

work_37_of_0 : work_of program_37 0 0 arguments_37 ≡ 27
unfolding digits number_to wrap_to amount not_zero
work_37_of_0 = refl

-- export void f(uniform signed a[], uniform int16 o[], uniform signed int n) { int x = ((bool) 1); a[1] += (uniform int16) (0xf ? n : n) & 92ULL; a[(6 != a[6]) & 3] <<= programCount * ~ reduce_max(x); a[programIndex] += x; }
abbrev program_38 : Program
program_38 = pr W4 ((fn None None ((vr (Given I32) false) ∷ (vr (Given I16) false) ∷ (vr (AVariable (u I32)) false) ∷ (vr (AVariable (v I32)) false) ∷
    []) (t_braces (t_stmts ((t_declare ((t_with_value 3 (v I32)
    (t_convert I32 (t_cast (t_cast (t_convert Truth (cn I32 1 (s 93 94))) (u Truth) (s 86 94)) (u Truth) (s 85 95))) (s 81 95)) ∷ []) (s 77 96)) ∷
    (t_simple (t_update op.Add U64 (t_element (ar 0 (u I32) false) (cn I32 1 (s 99 100)) (u I32) (s 97 101))
    (t_binary op.And (t_convert U64 (t_cast (t_convert I16
    (t_cast (t_choose (t_convert Truth (cn I32 15 (s 122 125))) (t_place (t_variable 2 (u I32) (s 128 129)))
    (t_place (t_variable 2 (u I32) (s 132 133))) (u I32) (s 122 133)) (u I32) (s 121 134))) (u I16) (s 105 134))) (cn U64 92 (s 137 142)) (u U64)
    (s 105 142)) (s 97 142)) (s 97 143)) ∷ (t_simple
    (t_update op.Shl I32 (t_element (ar 0 (u I32) false)
    (t_binary op.And (t_convert I32 (t_cast (t_compare cmp.NotEqual (cn I32 6 (s 147 148))
    (t_place (t_element (ar 0 (u I32) false) (cn I32 6 (s 154 155)) (u I32) (s 152 156))) Uniform (s 147 156)) (u Truth) (s 146 157)))
    (cn I32 3 (s 160 161)) (u I32) (s 146 161)) (u I32) (s 144 162))
    (t_binary op.Mul (cn I32 4 (s 167 179)) (t_unary un.Invert
    (t_library lib.ReduceMax I32 (t_exprs ((t_place (t_variable 3 (v I32) (s 195 196))) ∷ [])) (u I32) (s 184 197)) (u I32) (s 182 197)) (u I32)
    (s 167 197)) (s 144 197)) (s 144 198)) ∷ (t_simple
    (t_update op.Add I32 (t_element (ar 0 (u I32) false) (t_program_index (s 201 213)) (v I32) (s 199 214))
    (t_place (t_variable 3 (v I32) (s 218 219))) (s 199 219)) (s 199 220)) ∷ [])) (s 75 222))) ∷ [])

abbrev arguments_38 : List Argument
arguments_38 = ((AnArray (rw I32 (5 ∷ 8 ∷ 4294967294 ∷ 4294967291 ∷ 1273616270 ∷ 691432368 ∷ 4196743338 ∷ []))) ∷ (AnArray (rw I16 (4 ∷ 65535 ∷ 32769 ∷ 65530 ∷ 9 ∷ 60776 ∷ 65531 ∷ []))) ∷ (AValue (record { elem = I32; bits = 4294967295 })) ∷ [])

run_38_of_0 : run_of program_38 0 0 arguments_38 ≡ Ends ((rw I32 (6 ∷ 1677721601 ∷ 4294967295 ∷ 4294967292 ∷ 1273616270 ∷ 691432368 ∷ 4196743338 ∷ [])) ∷ (rw I16 (4 ∷ 65535 ∷ 32769 ∷ 65530 ∷ 9 ∷ 60776 ∷ 65531 ∷ [])) ∷ []) None ([])
unfolding digits number_to wrap_to amount not_zero
run_38_of_0 = refl

work_38_of_0 : work_of program_38 0 0 arguments_38 ≡ 34
unfolding digits number_to wrap_to amount not_zero
work_38_of_0 = refl

-- export void f(uniform signed a[], uniform int16 o[], uniform int32 n) { int x = 1 >> !(n); const uniform int8 v1 = extract(-(programCount) && (4 ?
-- n : programIndex), 9); packed_store_active(&a, v1 || n < n); unsigned v2 = v1 == exclusive_scan_add((programIndex) % (programCount | 1)), v3;
-- a[programIndex] += x; }
abbrev program_40 : Program
program_40 = pr W8 ((fn None None ((vr (Given I32) false) ∷ (vr (Given I16) false) ∷ (vr (AVariable (u I32)) false) ∷ (vr (AVariable (v I32)) false) ∷
    (vr (AVariable (u I8)) true) ∷ (vr (AVariable (v U32)) false) ∷ (vr (AVariable (v U32)) false) ∷ [])
    (t_braces (t_stmts ((t_declare ((t_with_value 3 (v I32)
    (t_binary op.Shr (cn I32 1 (s 80 81)) (t_convert I32
    (t_unary un.Not (t_convert Truth (t_cast (t_place (t_variable 2 (u I32) (s 87 88))) (u I32) (s 86 89))) (u Truth) (s 85 89))) (u I32) (s 80 89))
    (s 76 89)) ∷ []) (s 72 90)) ∷ (t_declare ((t_with_value 4 (u I8)
    (t_convert I8 (t_library lib.Extract I32 (t_exprs
    ((t_convert I32 (t_logic logic.And (t_convert Truth (t_unary un.Negate (t_cast (cn I32 8 (s 125 137)) (u I32) (s 124 138)) (u I32) (s 123 138)))
    (t_convert Truth (t_cast (t_choose (t_convert Truth (cn I32 4 (s 143 144))) (t_place (t_variable 2 (u I32) (s 147 148)))
    (t_program_index (s 151 163)) (v I32) (s 143 163)) (v I32) (s 142 164))) Varying (s 123 164))) ∷ (cn I32 9 (s 166 167)) ∷ [])) (u I32)
    (s 115 168))) (s 110 168)) ∷ []) (s 91 169)) ∷ (t_simple
    (t_value (t_packed_store (t_whole (ar 0 (u I32) false) (s 191 192))
    (t_convert I32 (t_logic logic.Or (t_convert Truth (t_place (t_variable 4 (u I8) (s 194 196))))
    (t_compare cmp.Less (t_place (t_variable 2 (u I32) (s 200 201))) (t_place (t_variable 2 (u I32) (s 204 205))) Uniform (s 200 205)) Uniform
    (s 194 205))) (s 170 206))) (s 170 207)) ∷ (t_declare
    ((t_with_value 5 (v U32) (t_convert U32 (t_compare cmp.Equal (t_convert I32 (t_place (t_variable 4 (u I8) (s 222 224))))
    (t_library lib.ScanAdd I32 (t_exprs ((t_binary op.Rem (t_cast (t_program_index (s 248 260)) (v I32) (s 247 261))
    (t_cast (t_binary op.Or (cn I32 8 (s 265 277)) (cn I32 1 (s 280 281)) (u I32) (s 265 281)) (u I32) (s 264 282)) (v I32) (s 247 282)) ∷ []))
    (v I32) (s 228 283)) Varying (s 222 283))) (s 217 283)) ∷ (t_plain 6 (v U32) (s 285 287)) ∷ []) (s 208 288)) ∷
    (t_simple (t_update op.Add I32 (t_element (ar 0 (u I32) false) (t_program_index (s 291 303)) (v I32) (s 289 304))
    (t_place (t_variable 3 (v I32) (s 308 309))) (s 289 309)) (s 289 310)) ∷ [])) (s 70 312))) ∷ [])

abbrev arguments_40 : List Argument
arguments_40 = ((AnArray (rw I32 (2147483646 ∷ 5 ∷ 2 ∷ 4294967294 ∷ 4294967293 ∷ 4294967295 ∷ 2147483649 ∷ 7 ∷ 2682519617 ∷ 4294967288 ∷ 9 ∷ []))) ∷
    (AnArray (rw I16 (51472 ∷ 65535 ∷ 65531 ∷ 24914 ∷ 65533 ∷ 65531 ∷ 65534 ∷ 6 ∷ 1 ∷ 65531 ∷ 36086 ∷ []))) ∷
    (AValue (record { elem = I32; bits = 4294967291 })) ∷ [])

run_40_of_0 : run_of program_40 0 0 arguments_40 ≡ Ends ((rw I32 (2 ∷ 2 ∷ 2 ∷ 2 ∷ 2 ∷ 2 ∷ 2 ∷ 2 ∷ 2682519617 ∷ 4294967288 ∷ 9 ∷ [])) ∷ (rw I16 (51472 ∷ 65535 ∷ 65531 ∷ 24914 ∷ 65533 ∷ 65531 ∷ 65534 ∷ 6 ∷ 1 ∷ 65531 ∷ 36086 ∷ [])) ∷ []) None ([])
unfolding digits number_to wrap_to amount not_zero
run_40_of_0 = refl

work_40_of_0 : work_of program_40 0 0 arguments_40 ≡ 42
unfolding digits number_to wrap_to amount not_zero
work_40_of_0 = refl

-- export void f(uniform int a[], uniform uint16 o[], uniform int64 n) { int x = n; x++; n = packed_store_active(a, 6); uniform signed t1[3]; n = packed_load_active(a, &x); o[programIndex] = x; }
abbrev program_43 : Program
program_43 = pr W16 ((fn None None ((vr (Given I32) false) ∷ (vr (Given U16) false) ∷ (vr (AVariable (u I64)) false) ∷ (vr (AVariable (v I32)) false)
    ∷ (vr (Local (u I32) 3) false) ∷ []) (t_braces (t_stmts
    ((t_declare ((t_with_value 3 (v I32) (t_convert I32 (t_place (t_variable 2 (u I64) (s 78 79)))) (s 74 79)) ∷ []) (s 70 80)) ∷
    (t_simple (t_step op.Add I32 (t_variable 3 (v I32) (s 81 82)) (s 81 84)) (s 81 85)) ∷
    (t_simple (t_assign (t_variable 2 (u I64) (s 86 87))
    (t_convert I64 (t_packed_store (t_whole (ar 0 (u I32) false) (s 110 111)) (cn I32 6 (s 113 114)) (s 90 115))) (s 86 115)) (s 86 116)) ∷
    (t_declare ((t_with_size (ar 4 (u I32) false) (s 132 137)) ∷ []) (s 117 138)) ∷
    (t_simple (t_assign (t_variable 2 (u I64) (s 139 140)) (t_convert I64 (t_packed_load (t_whole (ar 0 (u I32) false) (s 162 163)) 3 (s 143 168)))
    (s 139 168)) (s 139 169)) ∷ (t_simple (t_assign (t_element (ar 1 (u U16) false) (t_program_index (s 172 184)) (v U16) (s 170 185))
    (t_convert U16 (t_place (t_variable 3 (v I32) (s 188 189)))) (s 170 189)) (s 170 190)) ∷ [])) (s 68 192))) ∷ [])

abbrev arguments_43 : List Argument
arguments_43 = ((AnArray (rw I32 (2147483647 ∷ 0 ∷ 3803418028 ∷ 2 ∷ 5 ∷ 729602700 ∷ 4294967287 ∷ 4294967291 ∷ 0 ∷ 8 ∷ 4294967294 ∷ 2147483646 ∷
    4294967290 ∷ 4294967292 ∷ 2147483646 ∷ 4294967294 ∷ 7 ∷ []))) ∷
    (AnArray (rw U16 (255 ∷ 1 ∷ 2 ∷ 0 ∷ 5 ∷ 65534 ∷ 1 ∷ 56060 ∷ 4 ∷ 5 ∷ 1 ∷ 65534 ∷ 1 ∷ 5 ∷ 5 ∷ 65172 ∷ 3 ∷ 3 ∷ 7 ∷ []))) ∷
    (AValue (record { elem = I64; bits = 2 })) ∷ [])

run_43_of_0 : run_of program_43 0 0 arguments_43 ≡ Ends ((rw I32 (6 ∷ 6 ∷ 6 ∷ 6 ∷ 6 ∷ 6 ∷ 6 ∷ 6 ∷ 6 ∷ 6 ∷ 6 ∷ 6 ∷ 6 ∷ 6 ∷ 6 ∷ 6 ∷ 7 ∷ [])) ∷ (rw U16 (6 ∷ 6 ∷ 6 ∷ 6 ∷ 6 ∷ 6 ∷ 6 ∷ 6 ∷ 6 ∷ 6 ∷ 6 ∷ 6 ∷ 6 ∷ 6 ∷ 6 ∷ 6 ∷ 3 ∷ 3 ∷ 7 ∷ [])) ∷ []) None ([])
unfolding digits number_to wrap_to amount not_zero
run_43_of_0 = refl

work_43_of_0 : work_of program_43 0 0 arguments_43 ≡ 22
unfolding digits number_to wrap_to amount not_zero
work_43_of_0 = refl

-- export void f(uniform signed int a[], uniform unsigned int16 o[], uniform uint16 z[], uniform int16 n) { int x = n >= n <=
-- exclusive_scan_add(o[(programIndex ^ (programIndex)) & 7]); uniform int v1 = 1; v1 -= ! o[6] <= v1 > programCount & v1; o[programIndex] = x; }
abbrev program_46 : Program
program_46 = pr W8 ((fn None None ((vr (Given I32) false) ∷ (vr (Given U16) false) ∷ (vr (Given U16) false) ∷ (vr (AVariable (u I16)) false) ∷
    (vr (AVariable (v I32)) false) ∷ (vr (AVariable (u I32)) false) ∷ [])
    (t_braces (t_stmts ((t_declare ((t_with_value 4 (v I32)
    (t_convert I32 (t_compare cmp.LessOrEqual (t_convert I32
    (t_compare cmp.GreaterOrEqual (t_place (t_variable 3 (u I16) (s 113 114))) (t_place (t_variable 3 (u I16) (s 118 119))) Uniform (s 113 119)))
    (t_convert I32 (t_library lib.ScanAdd U16 (t_exprs
    ((t_place (t_element (ar 1 (u U16) false) (t_binary op.And
    (t_cast (t_binary op.Xor (t_program_index (s 145 157)) (t_cast (t_program_index (s 161 173)) (v I32) (s 160 174)) (v I32) (s 145 174)) (v I32)
    (s 144 175)) (cn I32 7 (s 178 179)) (v I32) (s 144 179)) (v U16) (s 142 180))) ∷ [])) (v U16) (s 123 181))) Varying (s 113 181))) (s 109 181)) ∷
    []) (s 105 182)) ∷ (t_declare ((t_with_value 5 (u I32) (cn I32 1 (s 200 201)) (s 195 201)) ∷ []) (s 183 202)) ∷
    (t_simple (t_update op.Sub I32 (t_variable 5 (u I32) (s 203 205))
    (t_binary op.And (t_convert I32 (t_compare cmp.Greater
    (t_convert I32 (t_compare cmp.LessOrEqual (t_convert I32
    (t_unary un.Not (t_convert Truth (t_place (t_element (ar 1 (u U16) false) (cn I32 6 (s 213 214)) (u U16) (s 211 215)))) (u Truth) (s 209 215)))
    (t_place (t_variable 5 (u I32) (s 219 221))) Uniform (s 209 221))) (cn I32 8 (s 224 236)) Uniform (s 209 236)))
    (t_place (t_variable 5 (u I32) (s 239 241))) (u I32) (s 209 241)) (s 203 241)) (s 203 242)) ∷
    (t_simple (t_assign (t_element (ar 1 (u U16) false) (t_program_index (s 245 257)) (v U16) (s 243 258))
    (t_convert U16 (t_place (t_variable 4 (v I32) (s 261 262)))) (s 243 262)) (s 243 263)) ∷ [])) (s 103 265))) ∷ [])

abbrev arguments_46 : List Argument
arguments_46 = ((AnArray (rw I32 (4009557011 ∷ 4294967291 ∷ 2 ∷ 5 ∷ 2147483646 ∷ 4294967289 ∷ 4294967288 ∷ 6 ∷ []))) ∷
    (AnArray (rw U16 (0 ∷ 58018 ∷ 1 ∷ 3 ∷ 5 ∷ 8 ∷ 48607 ∷ 8 ∷ 65534 ∷ 65534 ∷ []))) ∷ (AnArray (rw U16 (29956 ∷ 6 ∷ []))) ∷
    (AValue (record { elem = I16; bits = 20657 })) ∷ [])

run_46_of_0 : run_of program_46 0 0 arguments_46
    ≡ Ends ((rw I32 (4009557011 ∷ 4294967291 ∷ 2 ∷ 5 ∷ 2147483646 ∷ 4294967289 ∷ 4294967288 ∷ 6 ∷ [])) ∷
    (rw U16 (0 ∷ 0 ∷ 0 ∷ 0 ∷ 0 ∷ 0 ∷ 0 ∷ 0 ∷ 65534 ∷ 65534 ∷ [])) ∷ (rw U16 (29956 ∷ 6 ∷ [])) ∷ []) None ([])
unfolding digits number_to wrap_to amount not_zero
run_46_of_0 = refl

work_46_of_0 : work_of program_46 0 0 arguments_46 ≡ 34
unfolding digits number_to wrap_to amount not_zero
work_46_of_0 = refl

-- export void f(uniform signed a[], uniform int8 o[]) { int x = o[(programIndex ^ ((varying uint16) o[(programIndex ^ (a[programIndex])) & 3])) & 3]
-- > o[(programIndex ^ (abs(programIndex))) & 3] & a[programIndex]; uniform signed v1 = ~ any(8); v1 >>= (signed) v1 + abs(v1) > reduce_max(8);
-- o[programIndex] = x; }
abbrev program_55 : Program
program_55 = pr W4 ((fn None None ((vr (Given I32) false) ∷ (vr (Given I8) false) ∷ (vr (AVariable (v I32)) false) ∷ (vr (AVariable (u I32)) false) ∷
    []) (t_braces (t_stmts ((t_declare ((t_with_value 2 (v I32)
    (t_binary op.And (t_convert I32 (t_compare cmp.Greater
    (t_place (t_element (ar 1 (u I8) false) (t_binary op.And
    (t_cast (t_binary op.Xor (t_program_index (s 65 77))
    (t_convert I32 (t_cast (t_cast (t_convert U16 (t_place
    (t_element (ar 1 (u I8) false) (t_binary op.And (t_cast
    (t_binary op.Xor (t_program_index (s 101 113)) (t_cast
    (t_place (t_element (ar 0 (u I32) false) (t_program_index (s 119 131)) (v I32) (s 117 132))) (v I32) (s 116 133)) (v I32) (s 101 133)) (v I32)
    (s 100 134)) (cn I32 3 (s 137 138)) (v I32) (s 100 138)) (v I8) (s 98 139)))) (v U16) (s 81 139)) (v U16) (s 80 140))) (v I32) (s 65 140)) (v I32)
    (s 64 141)) (cn I32 3 (s 144 145)) (v I32) (s 64 145)) (v I8) (s 62 146)))
    (t_place (t_element (ar 1 (u I8) false) (t_binary op.And
    (t_cast (t_binary op.Xor (t_program_index (s 152 164))
    (t_cast (t_library lib.Abs I32 (t_exprs ((t_program_index (s 172 184)) ∷ [])) (v I32) (s 168 185)) (v I32) (s 167 186)) (v I32) (s 152 186))
    (v I32) (s 151 187)) (cn I32 3 (s 190 191)) (v I32) (s 151 191)) (v I8) (s 149 192))) Varying (s 62 192)))
    (t_place (t_element (ar 0 (u I32) false) (t_program_index (s 197 209)) (v I32) (s 195 210))) (v I32) (s 62 210)) (s 58 210)) ∷ []) (s 54 211)) ∷
    (t_declare ((t_with_value 3 (u I32) (t_unary un.Invert
    (t_convert I32 (t_library lib.Any Truth (t_exprs ((t_convert Truth (cn I32 8 (s 238 239))) ∷ [])) (u Truth) (s 234 240))) (u I32) (s 232 240))
    (s 227 240)) ∷ []) (s 212 241)) ∷ (t_simple (t_update op.Shr I32 (t_variable 3 (u I32) (s 242 244))
    (t_convert I32 (t_compare cmp.Greater (t_binary op.Add (t_cast (t_place (t_variable 3 (u I32) (s 258 260))) (u I32) (s 249 260))
    (t_library lib.Abs I32 (t_exprs ((t_place (t_variable 3 (u I32) (s 267 269))) ∷ [])) (u I32) (s 263 270)) (u I32) (s 249 270))
    (t_library lib.ReduceMax I32 (t_exprs ((cn I32 8 (s 284 285)) ∷ [])) (u I32) (s 273 286)) Uniform (s 249 286))) (s 242 286)) (s 242 287)) ∷
    (t_simple (t_assign (t_element (ar 1 (u I8) false) (t_program_index (s 290 302)) (v I8) (s 288 303))
    (t_convert I8 (t_place (t_variable 2 (v I32) (s 306 307)))) (s 288 307)) (s 288 308)) ∷ [])) (s 52 310))) ∷ [])

abbrev arguments_55 : List Argument
arguments_55 = ((AnArray (rw I32 (5 ∷ 2147483647 ∷ 2147483647 ∷ 4294967288 ∷ 4294967293 ∷ []))) ∷ (AnArray (rw I8 (231 ∷ 113 ∷ 2 ∷ 126 ∷ 5 ∷ 7 ∷ []))) ∷ [])

run_55_of_0 : run_of program_55 0 0 arguments_55 ≡ Ends ((rw I32 (5 ∷ 2147483647 ∷ 2147483647 ∷ 4294967288 ∷ 4294967293 ∷ [])) ∷ (rw I8 (1 ∷ 1 ∷ 1 ∷ 0 ∷ 5 ∷ 7 ∷ [])) ∷ []) None ([])
unfolding digits number_to wrap_to amount not_zero
run_55_of_0 = refl

work_55_of_0 : work_of program_55 0 0 arguments_55 ≡ 52
unfolding digits number_to wrap_to amount not_zero
work_55_of_0 = refl
