-- Loops: what each program does in so many turns and what its work is, against an independent implementation.
use Rattle.std.specs.Prelude.{◌≡◌, true, false, List, [], ◌∷◌, Some, None}
use Rattle.std.proofs.Common.{refl}
use Rattle.std.specs.Fmt.{digits}
use Rattle.isp_base.specs.Values.{number_to, wrap_to, amount, not_zero}
use Rattle.isp_base.specs.Outcomes.{Ends, GoesOn}
use Rattle.isp_base.specs.declared.types.Gang.TheVariants.{W4, W8, W16}
use Rattle.isp_base.specs.declared.types.Elem.TheVariants.{Bool as Truth, I8, U8, I16, U16, I32, U32, I64, U64}
use Rattle.isp_base.specs.declared.types.Rate.TheVariants.{Uniform, Varying}
use Rattle.isp_base.specs.declared.operators.BinOp.TheVariants as op
use Rattle.isp_base.specs.declared.operators.UnaryOp.TheVariants as un
use Rattle.isp_base.specs.declared.operators.Compare.TheVariants as cmp
use Rattle.isp_base.specs.declared.signature.Argument.{Argument}
use Rattle.isp_base.specs.declared.signature.Argument.TheVariants.{Array as AnArray, Value as AValue}
use Rattle.isp_tree.specs.declared.stmt.Form.TheVariants.{Plain}
use Rattle.isp_tree.specs.declared.stmt.Jump.TheVariants.{Break}
use Rattle.isp_typed.specs.declared.library.Library.TheVariants as lib
use Rattle.isp_typed.specs.declared.variable.Holds.TheVariants.{Value as AVariable, Given, Local}
use Rattle.isp_typed.specs.declared.variable.Logic.TheVariants as logic
use Rattle.isp_typed.specs.Typed.{t_program_index, t_place, t_convert, t_cast, t_unary, t_binary, t_compare, t_logic, t_choose, t_library, t_variable, t_element, t_exprs}
use Rattle.isp_typed.specs.Typed.{t_plain, t_with_value, t_with_size, t_value, t_assign, t_update, t_step, t_first_declare}
use Rattle.isp_typed.specs.Typed.{t_block, t_declare, t_simple, t_if, t_for, t_jump, t_return, t_braces, t_stmts, Program}
use Rattle.isp_meaning.specs.Runs.{run_of, work_of}
use Rattle.isp_tests_meaning.specs.Terms.{s, u, v, cn, ar, vr, rw, fn, pr}

-- export void f(uniform int a[], uniform int o[]) { int x = (o[0] ? o[programIndex] : 20Lu) << a[1] >> programIndex; a[(x) & 3] |= - (58u) ==
-- o[(clamp(9, programCount, o[0])) & 3]; if (x) return; o[programIndex] ^= ~ (programIndex) % (x | 1) >> o[(programIndex) & 3] >= x ^ programIndex |
-- programIndex; a[programIndex] += x; }
abbrev program_4 : Program
program_4 = pr W4 ((fn None None ((vr (Given I32) false) ∷ (vr (Given I32) false) ∷ (vr (AVariable (v I32)) false) ∷ [])
    (t_braces (t_stmts ((t_declare ((t_with_value 2 (v I32)
    (t_convert I32 (t_binary op.Shr (t_binary op.Shl
    (t_cast (t_choose (t_convert Truth (t_place (t_element (ar 1 (u I32) false) (cn I32 0 (s 61 62)) (u I32) (s 59 63))))
    (t_convert U64 (t_place (t_element (ar 1 (u I32) false) (t_program_index (s 68 80)) (v I32) (s 66 81)))) (cn U64 20 (s 84 88)) (v U64) (s 59 88))
    (v U64) (s 58 89)) (t_convert U64 (t_place (t_element (ar 0 (u I32) false) (cn I32 1 (s 95 96)) (u I32) (s 93 97)))) (v U64) (s 58 97))
    (t_convert U64 (t_program_index (s 101 113))) (v U64) (s 58 113))) (s 54 113)) ∷ []) (s 50 114)) ∷
    (t_simple (t_update op.Or I32 (t_element (ar 0 (u I32) false)
    (t_binary op.And (t_cast (t_place (t_variable 2 (v I32) (s 118 119))) (v I32) (s 117 120)) (cn I32 3 (s 123 124)) (v I32) (s 117 124)) (v I32)
    (s 115 125)) (t_convert I32 (t_compare cmp.Equal (t_unary un.Negate (t_cast (cn U32 58 (s 132 135)) (u U32) (s 131 136)) (u U32) (s 129 136))
    (t_convert U32 (t_place (t_element (ar 1 (u I32) false)
    (t_binary op.And (t_cast (t_library lib.Clamp I32
    (t_exprs ((cn I32 9 (s 149 150)) ∷ (cn I32 4 (s 152 164)) ∷ (t_place (t_element (ar 1 (u I32) false) (cn I32 0 (s 168 169)) (u I32) (s 166 170)))
    ∷ [])) (u I32) (s 143 171)) (u I32) (s 142 172)) (cn I32 3 (s 175 176)) (u I32) (s 142 176)) (u I32) (s 140 177)))) Uniform (s 129 177)))
    (s 115 177)) (s 115 178)) ∷ (t_if Plain 3 (t_convert Truth (t_place (t_variable 2 (v I32) (s 183 184)))) (t_return (s 186 192) None (s 186 193))
    (s 179 193)) ∷ (t_simple (t_update op.Xor I32 (t_element (ar 1 (u I32) false) (t_program_index (s 196 208)) (v I32) (s 194 209))
    (t_binary op.Or (t_binary op.Xor (t_convert I32 (t_compare cmp.GreaterOrEqual
    (t_binary op.Shr (t_binary op.Rem (t_unary un.Invert (t_cast (t_program_index (s 216 228)) (v I32) (s 215 229)) (v I32) (s 213 229))
    (t_cast (t_binary op.Or (t_place (t_variable 2 (v I32) (s 233 234))) (cn I32 1 (s 237 238)) (v I32) (s 233 238)) (v I32) (s 232 239)) (v I32)
    (s 213 239)) (t_place (t_element (ar 1 (u I32) false)
    (t_binary op.And (t_cast (t_program_index (s 246 258)) (v I32) (s 245 259)) (cn I32 3 (s 262 263)) (v I32) (s 245 263)) (v I32) (s 243 264)))
    (v I32) (s 213 264)) (t_place (t_variable 2 (v I32) (s 268 269))) Varying (s 213 269))) (t_program_index (s 272 284)) (v I32) (s 213 284))
    (t_program_index (s 287 299)) (v I32) (s 213 299)) (s 194 299)) (s 194 300)) ∷
    (t_simple (t_update op.Add I32 (t_element (ar 0 (u I32) false) (t_program_index (s 303 315)) (v I32) (s 301 316))
    (t_place (t_variable 2 (v I32) (s 320 321))) (s 301 321)) (s 301 322)) ∷ [])) (s 48 324))) ∷ [])

abbrev arguments_4 : List Argument
arguments_4 = ((AnArray (rw I32 (3253538711 ∷ 4294967293 ∷ 0 ∷ 4294967290 ∷ 6 ∷ 4294967293 ∷ 2147483649 ∷ []))) ∷ (AnArray (rw I32 (4294967290 ∷ 2147483648 ∷ 4294967293 ∷ 4294967287 ∷ 7 ∷ 3 ∷ 4294967289 ∷ []))) ∷ [])

run_4_of_0 : run_of program_4 0 0 arguments_4 ≡ Ends ((rw I32 (3253538711 ∷ 4294967293 ∷ 0 ∷ 4294967290 ∷ 6 ∷ 4294967293 ∷ 2147483649 ∷ [])) ∷ (rw I32 (4294967291 ∷ 2147483649 ∷ 4294967294 ∷ 4294967284 ∷ 7 ∷ 3 ∷ 4294967289 ∷ [])) ∷ []) None ([])
unfolding digits number_to wrap_to amount not_zero
run_4_of_0 = refl

work_4_of_0 : work_of program_4 0 0 arguments_4 ≡ 62
unfolding digits number_to wrap_to amount not_zero
work_4_of_0 = refl

-- export uniform uint64 f(uniform int a[], uniform int64 o[], uniform int32 n) { int x = abs(n >> 9); for (uniform int k1 = 0; k1 < 3; k1++) { --n; }
-- x ^= abs(max(select(0, programIndex, x), n & o[2])); o[programIndex] = x; return max(n >= n, n & 6); }
abbrev program_11 : Program
program_11 = pr W16 ((fn (Some U64) (Some (u U64))
    ((vr (Given I32) false) ∷ (vr (Given I64) false) ∷ (vr (AVariable (u I32)) false) ∷ (vr (AVariable (v I32)) false) ∷
    (vr (AVariable (u I32)) false) ∷ []) (t_braces (t_stmts
    ((t_declare ((t_with_value 3 (v I32) (t_library lib.Abs I32
    (t_exprs ((t_binary op.Shr (t_place (t_variable 2 (u I32) (s 91 92))) (cn I32 9 (s 96 97)) (u I32) (s 91 97)) ∷ [])) (u I32) (s 87 98)) (s 83 98))
    ∷ []) (s 79 99)) ∷ (t_for Plain 4 (Some (t_first_declare ((t_with_value 4 (u I32) (cn I32 0 (s 122 123)) (s 117 123)) ∷ []) (s 105 123)))
    (Some (t_compare cmp.Less (t_place (t_variable 4 (u I32) (s 125 127))) (cn I32 3 (s 130 131)) Uniform (s 125 131)))
    (Some (t_step op.Add I32 (t_variable 4 (u I32) (s 133 135)) (s 133 137))) 5
    (t_block (t_braces (t_stmts ((t_simple (t_step op.Sub I32 (t_variable 2 (u I32) (s 143 144)) (s 141 144)) (s 141 145)) ∷ [])) (s 139 147)))
    (s 100 147)) ∷ (t_simple (t_update op.Xor I64 (t_variable 3 (v I32) (s 148 149))
    (t_library lib.Abs I64 (t_exprs ((t_library lib.Max I64
    (t_exprs ((t_convert I64 (t_library lib.Select I32
    (t_exprs ((t_convert Truth (cn I32 0 (s 168 169))) ∷ (t_program_index (s 171 183)) ∷ (t_place (t_variable 3 (v I32) (s 185 186))) ∷ [])) (v I32)
    (s 161 187))) ∷ (t_binary op.And (t_convert I64 (t_place (t_variable 2 (u I32) (s 189 190))))
    (t_place (t_element (ar 1 (u I64) false) (cn I32 2 (s 195 196)) (u I64) (s 193 197))) (u I64) (s 189 197)) ∷ [])) (v I64) (s 157 198)) ∷ []))
    (v I64) (s 153 199)) (s 148 199)) (s 148 200)) ∷
    (t_simple (t_assign (t_element (ar 1 (u I64) false) (t_program_index (s 203 215)) (v I64) (s 201 216))
    (t_convert I64 (t_place (t_variable 3 (v I32) (s 219 220)))) (s 201 220)) (s 201 221)) ∷
    (t_return (s 222 228) (Some (t_convert U64 (t_library lib.Max I32
    (t_exprs ((t_convert I32 (t_compare cmp.GreaterOrEqual (t_place (t_variable 2 (u I32) (s 233 234))) (t_place (t_variable 2 (u I32) (s 238 239)))
    Uniform (s 233 239))) ∷ (t_binary op.And (t_place (t_variable 2 (u I32) (s 241 242))) (cn I32 6 (s 245 246)) (u I32) (s 241 246)) ∷ [])) (u I32)
    (s 229 247)))) (s 222 248)) ∷ [])) (s 77 250))) ∷ [])

abbrev arguments_11 : List Argument
arguments_11 = ((AnArray (rw I32 (4 ∷ 0 ∷ 2147483647 ∷ 5 ∷ 1904102151 ∷ 9 ∷ 4294967291 ∷ 4294967289 ∷ 9 ∷ 2147483648 ∷ 4294967288 ∷ 2147483647 ∷ 9 ∷
    238513960 ∷ 7 ∷ 7 ∷ 1938359818 ∷ 2147483646 ∷ 3 ∷ []))) ∷
    (AnArray (rw I64 (9223372036854775806 ∷ 18446744073709551609 ∷ 9223372036854775809 ∷ 9 ∷ 0 ∷ 6 ∷ 9223372036854775808 ∷ 3 ∷ 9 ∷
    18446744073709551610 ∷ 18446744073709551614 ∷ 7714184796055194067 ∷ 18246341724787935951 ∷ 17009700413993723551 ∷ 9801513839581328977 ∷ 2 ∷
    9223372036854775809 ∷ 16652785124138746754 ∷ 18446744073709551612 ∷ 3 ∷ []))) ∷ (AValue (record { elem = I32; bits = 4 })) ∷ [])

run_11_of_0 : run_of program_11 0 0 arguments_11 ≡ GoesOn ([])
unfolding digits number_to wrap_to amount not_zero
run_11_of_0 = refl

work_11_of_0 : work_of program_11 0 0 arguments_11 ≡ 14
unfolding digits number_to wrap_to amount not_zero
work_11_of_0 = refl

run_11_of_1 : run_of program_11 0 1 arguments_11 ≡ GoesOn ([])
unfolding digits number_to wrap_to amount not_zero
run_11_of_1 = refl

work_11_of_1 : work_of program_11 0 1 arguments_11 ≡ 23
unfolding digits number_to wrap_to amount not_zero
work_11_of_1 = refl

run_11_of_2 : run_of program_11 0 2 arguments_11 ≡ GoesOn ([])
unfolding digits number_to wrap_to amount not_zero
run_11_of_2 = refl

work_11_of_2 : work_of program_11 0 2 arguments_11 ≡ 32
unfolding digits number_to wrap_to amount not_zero
work_11_of_2 = refl

run_11_of_5 : run_of program_11 0 5 arguments_11
    ≡ Ends ((rw I32 (4 ∷ 0 ∷ 2147483647 ∷ 5 ∷ 1904102151 ∷ 9 ∷ 4294967291 ∷ 4294967289 ∷ 9 ∷ 2147483648 ∷ 4294967288 ∷ 2147483647 ∷ 9 ∷ 238513960 ∷ 7
    ∷ 7 ∷ 1938359818 ∷ 2147483646 ∷ 3 ∷ [])) ∷ (rw I64
    (1 ∷ 1 ∷ 1 ∷ 1 ∷ 1 ∷ 1 ∷ 1 ∷ 1 ∷ 1 ∷ 1 ∷ 1 ∷ 1 ∷ 1 ∷ 1 ∷ 1 ∷ 1 ∷ 9223372036854775809 ∷ 16652785124138746754 ∷ 18446744073709551612 ∷ 3 ∷ [])) ∷
    []) (Some (record { elem = U64; bits = 1 })) ([])
unfolding digits number_to wrap_to amount not_zero
run_11_of_5 = refl

work_11_of_5 : work_of program_11 0 5 arguments_11 ≡ 65
unfolding digits number_to wrap_to amount not_zero
work_11_of_5 = refl

-- export void f(uniform signed a[], uniform unsigned int8 o[], uniform bool n) { int x = (a[programIndex]) / (n | 1) > n; signed v1 = programIndex == (n ? 3 : programIndex) & 2147483648 < 7; v1 ^= v1; o[programIndex] = x; }
abbrev program_12 : Program
program_12 = pr W16 ((fn None None ((vr (Given I32) false) ∷ (vr (Given U8) false) ∷ (vr (AVariable (u Truth)) false) ∷ (vr (AVariable (v I32)) false)
    ∷ (vr (AVariable (v I32)) false) ∷ []) (t_braces
    (t_stmts ((t_declare ((t_with_value 3 (v I32) (t_convert I32
    (t_compare cmp.Greater (t_binary op.Div (t_cast (t_place (t_element (ar 0 (u I32) false) (t_program_index (s 90 102)) (v I32) (s 88 103))) (v I32)
    (s 87 104)) (t_cast (t_binary op.Or (t_convert I32 (t_place (t_variable 2 (u Truth) (s 108 109)))) (cn I32 1 (s 112 113)) (u I32) (s 108 113))
    (u I32) (s 107 114)) (v I32) (s 87 114)) (t_convert I32 (t_place (t_variable 2 (u Truth) (s 117 118)))) Varying (s 87 118))) (s 83 118)) ∷ [])
    (s 79 119)) ∷ (t_declare ((t_with_value 4 (v I32)
    (t_binary op.And (t_convert I32 (t_compare cmp.Equal (t_program_index (s 132 144))
    (t_cast (t_choose (t_place (t_variable 2 (u Truth) (s 149 150))) (cn I32 3 (s 153 154)) (t_program_index (s 157 169)) (v I32) (s 149 169)) (v I32)
    (s 148 170)) Varying (s 132 170))) (t_convert I32
    (t_compare cmp.Less (cn I64 2147483648 (s 173 183)) (t_convert I64 (cn I32 7 (s 186 187))) Uniform (s 173 187))) (v I32) (s 132 187)) (s 127 187))
    ∷ []) (s 120 188)) ∷ (t_simple (t_update op.Xor I32 (t_variable 4 (v I32) (s 189 191)) (t_place (t_variable 4 (v I32) (s 195 197))) (s 189 197))
    (s 189 198)) ∷ (t_simple (t_assign (t_element (ar 1 (u U8) false) (t_program_index (s 201 213)) (v U8) (s 199 214))
    (t_convert U8 (t_place (t_variable 3 (v I32) (s 217 218)))) (s 199 218)) (s 199 219)) ∷ [])) (s 77 221))) ∷ [])

abbrev arguments_12 : List Argument
arguments_12 = ((AnArray (rw I32 (2147483649 ∷ 4294967291 ∷ 8 ∷ 2147483646 ∷ 4294967290 ∷ 4294967295 ∷ 2454943528 ∷ 3258101068 ∷ 4294967288 ∷ 4 ∷
    2147483646 ∷ 1239737956 ∷ 257049675 ∷ 3755289127 ∷ 4294967291 ∷ 2201730277 ∷ 2147483646 ∷ 4294967295 ∷ 3845468309 ∷ []))) ∷
    (AnArray (rw U8 (4 ∷ 1 ∷ 6 ∷ 248 ∷ 9 ∷ 1 ∷ 8 ∷ 1 ∷ 2 ∷ 6 ∷ 1 ∷ 9 ∷ 9 ∷ 255 ∷ 9 ∷ 2 ∷ 1 ∷ []))) ∷ (AValue (record { elem = Truth; bits = 1 })) ∷
    [])

run_12_of_0 : run_of program_12 0 0 arguments_12
    ≡ Ends ((rw I32 (2147483649 ∷ 4294967291 ∷ 8 ∷ 2147483646 ∷ 4294967290 ∷ 4294967295 ∷ 2454943528 ∷ 3258101068 ∷ 4294967288 ∷ 4 ∷ 2147483646 ∷
    1239737956 ∷ 257049675 ∷ 3755289127 ∷ 4294967291 ∷ 2201730277 ∷ 2147483646 ∷ 4294967295 ∷ 3845468309 ∷ [])) ∷
    (rw U8 (0 ∷ 0 ∷ 1 ∷ 1 ∷ 0 ∷ 0 ∷ 0 ∷ 0 ∷ 0 ∷ 1 ∷ 1 ∷ 1 ∷ 1 ∷ 0 ∷ 0 ∷ 0 ∷ 1 ∷ [])) ∷ []) None ([])
unfolding digits number_to wrap_to amount not_zero
run_12_of_0 = refl

work_12_of_0 : work_of program_12 0 0 arguments_12 ≡ 32
unfolding digits number_to wrap_to amount not_zero
work_12_of_0 = refl

-- export void f(uniform signed a[], uniform unsigned int16 o[], uniform signed n) { int x = abs(4294967296) >> ~ n; uniform int64 v1, v2 = ((5) % (9
-- | 1) ? max(2147483647 | v1, n) : select(programCount, (int) v1, - n)); v2 <<= v1 - 3 << n + max(a[11], v2) - n | v2; o[programIndex] = x; }
abbrev program_13 : Program
program_13 = pr W8 ((fn None None ((vr (Given I32) false) ∷ (vr (Given U16) false) ∷ (vr (AVariable (u I32)) false) ∷ (vr (AVariable (v I32)) false) ∷
    (vr (AVariable (u I64)) false) ∷ (vr (AVariable (u I64)) false) ∷ [])
    (t_braces (t_stmts ((t_declare ((t_with_value 3 (v I32)
    (t_convert I32 (t_binary op.Shr (t_library lib.Abs I64 (t_exprs ((cn I64 4294967296 (s 94 104)) ∷ [])) (u I64) (s 90 105))
    (t_convert I64 (t_unary un.Invert (t_place (t_variable 2 (u I32) (s 111 112))) (u I32) (s 109 112))) (u I64) (s 90 112))) (s 86 112)) ∷ [])
    (s 82 113)) ∷ (t_declare ((t_plain 4 (u I64) (s 128 130)) ∷
    (t_with_value 5 (u I64) (t_cast (t_choose (t_convert Truth
    (t_binary op.Rem (t_cast (cn I32 5 (s 139 140)) (u I32) (s 138 141))
    (t_cast (t_binary op.Or (cn I32 9 (s 145 146)) (cn I32 1 (s 149 150)) (u I32) (s 145 150)) (u I32) (s 144 151)) (u I32) (s 138 151)))
    (t_library lib.Max I64 (t_exprs ((t_binary op.Or (t_convert I64 (cn I32 2147483647 (s 158 168))) (t_place (t_variable 4 (u I64) (s 171 173)))
    (u I64) (s 158 173)) ∷ (t_convert I64 (t_place (t_variable 2 (u I32) (s 175 176)))) ∷ [])) (u I64) (s 154 177))
    (t_convert I64 (t_library lib.Select I32 (t_exprs
    ((t_convert Truth (cn I32 8 (s 187 199))) ∷ (t_cast (t_convert I32 (t_place (t_variable 4 (u I64) (s 207 209)))) (u I32) (s 201 209)) ∷
    (t_unary un.Negate (t_place (t_variable 2 (u I32) (s 213 214))) (u I32) (s 211 214)) ∷ [])) (u I32) (s 180 215))) (u I64) (s 138 215)) (u I64)
    (s 137 216)) (s 132 216)) ∷ []) (s 114 217)) ∷ (t_simple
    (t_update op.Shl I64 (t_variable 5 (u I64) (s 218 220))
    (t_binary op.Or (t_binary op.Shl (t_binary op.Sub (t_place (t_variable 4 (u I64) (s 225 227))) (t_convert I64 (cn I32 3 (s 230 231))) (u I64)
    (s 225 231)) (t_binary op.Sub (t_binary op.Add (t_convert I64 (t_place (t_variable 2 (u I32) (s 235 236))))
    (t_library lib.Max I64 (t_exprs ((t_convert I64 (t_place (t_element (ar 0 (u I32) false) (cn I32 11 (s 245 247)) (u I32) (s 243 248)))) ∷
    (t_place (t_variable 5 (u I64) (s 250 252))) ∷ [])) (u I64) (s 239 253)) (u I64) (s 235 253))
    (t_convert I64 (t_place (t_variable 2 (u I32) (s 256 257)))) (u I64) (s 235 257)) (u I64) (s 225 257))
    (t_place (t_variable 5 (u I64) (s 260 262))) (u I64) (s 225 262)) (s 218 262)) (s 218 263)) ∷
    (t_simple (t_assign (t_element (ar 1 (u U16) false) (t_program_index (s 266 278)) (v U16) (s 264 279))
    (t_convert U16 (t_place (t_variable 3 (v I32) (s 282 283)))) (s 264 283)) (s 264 284)) ∷ [])) (s 80 286))) ∷ [])

abbrev arguments_13 : List Argument
arguments_13 = ((AnArray (rw I32 (4294967293 ∷ 4294967287 ∷ 2147483648 ∷ 2147483647 ∷ 1713552864 ∷ 4294967288 ∷ 4294967295 ∷ 3728025309 ∷ 3 ∷
    2147483647 ∷ 4294967287 ∷ 5 ∷ []))) ∷ (AnArray (rw U16 (7 ∷ 2 ∷ 0 ∷ 1 ∷ 6 ∷ 3167 ∷ 65535 ∷ 12384 ∷ 27139 ∷ []))) ∷
    (AValue (record { elem = I32; bits = 2147483646 })) ∷ [])

run_13_of_0 : run_of program_13 0 0 arguments_13
    ≡ Ends ((rw I32 (4294967293 ∷ 4294967287 ∷ 2147483648 ∷ 2147483647 ∷ 1713552864 ∷ 4294967288 ∷ 4294967295 ∷ 3728025309 ∷ 3 ∷ 2147483647 ∷
    4294967287 ∷ 5 ∷ [])) ∷ (rw U16 (0 ∷ 0 ∷ 0 ∷ 0 ∷ 0 ∷ 0 ∷ 0 ∷ 0 ∷ 27139 ∷ [])) ∷ []) None ([])
unfolding digits number_to wrap_to amount not_zero
run_13_of_0 = refl

work_13_of_0 : work_of program_13 0 0 arguments_13 ≡ 45
unfolding digits number_to wrap_to amount not_zero
work_13_of_0 = refl

-- export uniform unsigned int f(uniform int a[], uniform int16 o[], uniform unsigned n) { int x = (4) / (n | 1) || o[11]; int16 t1[8]; n ^= ! (n ? 2 : (n) / (n | 1)); a[programIndex] += x; return (int32) 0xd; }
abbrev program_24 : Program
program_24 = pr W16 ((fn (Some U32) (Some (u U32))
    ((vr (Given I32) false) ∷ (vr (Given I16) false) ∷ (vr (AVariable (u U32)) false) ∷ (vr (AVariable (v I32)) false) ∷ (vr (Local (v I16) 8) false)
    ∷ []) (t_braces (t_stmts ((t_declare ((t_with_value 3 (v I32)
    (t_convert I32 (t_logic logic.Or (t_convert Truth
    (t_binary op.Div (t_convert U32 (t_cast (cn I32 4 (s 97 98)) (u I32) (s 96 99)))
    (t_cast (t_binary op.Or (t_place (t_variable 2 (u U32) (s 103 104))) (t_convert U32 (cn I32 1 (s 107 108))) (u U32) (s 103 108)) (u U32)
    (s 102 109)) (u U32) (s 96 109))) (t_convert Truth (t_place (t_element (ar 1 (u I16) false) (cn I32 11 (s 115 117)) (u I16) (s 113 118)))) Uniform
    (s 96 118))) (s 92 118)) ∷ []) (s 88 119)) ∷ (t_declare ((t_with_size (ar 4 (v I16) false) (s 126 131)) ∷ []) (s 120 132)) ∷
    (t_simple (t_update op.Xor U32 (t_variable 2 (u U32) (s 133 134))
    (t_convert U32 (t_unary un.Not (t_convert Truth (t_cast
    (t_choose (t_convert Truth (t_place (t_variable 2 (u U32) (s 141 142)))) (t_convert U32 (cn I32 2 (s 145 146)))
    (t_binary op.Div (t_cast (t_place (t_variable 2 (u U32) (s 150 151))) (u U32) (s 149 152))
    (t_cast (t_binary op.Or (t_place (t_variable 2 (u U32) (s 156 157))) (t_convert U32 (cn I32 1 (s 160 161))) (u U32) (s 156 161)) (u U32)
    (s 155 162)) (u U32) (s 149 162)) (u U32) (s 141 162)) (u U32) (s 140 163))) (u Truth) (s 138 163))) (s 133 163)) (s 133 164)) ∷
    (t_simple (t_update op.Add I32 (t_element (ar 0 (u I32) false) (t_program_index (s 167 179)) (v I32) (s 165 180))
    (t_place (t_variable 3 (v I32) (s 184 185))) (s 165 185)) (s 165 186)) ∷
    (t_return (s 187 193) (Some (t_convert U32 (t_cast (cn I32 13 (s 202 205)) (u I32) (s 194 205)))) (s 187 206)) ∷ [])) (s 86 208))) ∷ [])

abbrev arguments_24 : List Argument
arguments_24 = ((AnArray (rw I32 (4155103586 ∷ 4294967292 ∷ 4294967288 ∷ 6 ∷ 4294967292 ∷ 7 ∷ 1 ∷ 3 ∷ 2 ∷ 592655537 ∷ 4294967289 ∷ 2967130879 ∷ 4 ∷
    2071119299 ∷ 6 ∷ 1 ∷ 4294967289 ∷ 4294967294 ∷ 2147483648 ∷ []))) ∷
    (AnArray (rw I16 (65530 ∷ 35978 ∷ 32769 ∷ 5 ∷ 65530 ∷ 6 ∷ 9 ∷ 32768 ∷ 9 ∷ 65531 ∷ 1 ∷ 65532 ∷ 34639 ∷ 32767 ∷ 50898 ∷ 32769 ∷ 33570 ∷ 65532 ∷
    65535 ∷ 65528 ∷ []))) ∷ (AValue (record { elem = U32; bits = 1482894698 })) ∷ [])

run_24_of_0 : run_of program_24 0 0 arguments_24
    ≡ Ends ((rw I32 (4155103587 ∷ 4294967293 ∷ 4294967289 ∷ 7 ∷ 4294967293 ∷ 8 ∷ 2 ∷ 4 ∷ 3 ∷ 592655538 ∷ 4294967290 ∷ 2967130880 ∷ 5 ∷ 2071119300 ∷ 7
    ∷ 2 ∷ 4294967289 ∷ 4294967294 ∷ 2147483648 ∷ [])) ∷
    (rw I16 (65530 ∷ 35978 ∷ 32769 ∷ 5 ∷ 65530 ∷ 6 ∷ 9 ∷ 32768 ∷ 9 ∷ 65531 ∷ 1 ∷ 65532 ∷ 34639 ∷ 32767 ∷ 50898 ∷ 32769 ∷ 33570 ∷ 65532 ∷ 65535 ∷ 65528
    ∷ [])) ∷ []) (Some (record { elem = U32; bits = 13 })) ([])
unfolding digits number_to wrap_to amount not_zero
run_24_of_0 = refl

work_24_of_0 : work_of program_24 0 0 arguments_24 ≡ 29
unfolding digits number_to wrap_to amount not_zero
work_24_of_0 = refl

-- export void f(uniform int a[], uniform int8 o[], uniform int n) { int x = n; { int k1 = 0; for (;;) { if (k1 > 1) break; k1 += programIndex + 1;  x = ! ((x ? n : 32767)) % (programIndex | 1); } } n = ! (0b11110u) | 128; o[programIndex] = x; }
abbrev program_27 : Program
program_27 = pr W16 ((fn None None ((vr (Given I32) false) ∷ (vr (Given I8) false) ∷ (vr (AVariable (u I32)) false) ∷ (vr (AVariable (v I32)) false) ∷
    (vr (AVariable (v I32)) false) ∷ []) (t_braces (t_stmts
    ((t_declare ((t_with_value 3 (v I32) (t_place (t_variable 2 (u I32) (s 74 75))) (s 70 75)) ∷ []) (s 66 76)) ∷
    (t_block (t_braces (t_stmts ((t_declare ((t_with_value 4 (v I32) (cn I32 0 (s 88 89)) (s 83 89)) ∷ []) (s 79 90)) ∷
    (t_for Plain 5 None None None 5 (t_block (t_braces
    (t_stmts ((t_if Plain 5 (t_compare cmp.Greater (t_place (t_variable 4 (v I32) (s 106 108))) (cn I32 1 (s 111 112)) Varying (s 106 112))
    (t_jump Break (s 114 119) (s 114 120)) (s 102 120)) ∷
    (t_simple (t_update op.Add I32 (t_variable 4 (v I32) (s 121 123))
    (t_binary op.Add (t_program_index (s 127 139)) (cn I32 1 (s 142 143)) (v I32) (s 127 143)) (s 121 143)) (s 121 144)) ∷
    (t_simple (t_assign (t_variable 3 (v I32) (s 146 147))
    (t_binary op.Rem (t_convert I32 (t_unary un.Not (t_convert Truth
    (t_cast (t_cast (t_choose (t_convert Truth (t_place (t_variable 3 (v I32) (s 154 155)))) (t_place (t_variable 2 (u I32) (s 158 159)))
    (cn I32 32767 (s 162 167)) (v I32) (s 154 167)) (v I32) (s 153 168)) (v I32) (s 152 169))) (v Truth) (s 150 169)))
    (t_cast (t_binary op.Or (t_program_index (s 173 185)) (cn I32 1 (s 188 189)) (v I32) (s 173 189)) (v I32) (s 172 190)) (v I32) (s 150 190))
    (s 146 190)) (s 146 191)) ∷ [])) (s 100 193))) (s 91 193)) ∷ [])) (s 77 195))) ∷
    (t_simple (t_assign (t_variable 2 (u I32) (s 196 197))
    (t_binary op.Or (t_convert I32 (t_unary un.Not (t_convert Truth (t_cast (cn U32 30 (s 203 211)) (u U32) (s 202 212))) (u Truth) (s 200 212)))
    (cn I32 128 (s 215 218)) (u I32) (s 200 218)) (s 196 218)) (s 196 219)) ∷
    (t_simple (t_assign (t_element (ar 1 (u I8) false) (t_program_index (s 222 234)) (v I8) (s 220 235))
    (t_convert I8 (t_place (t_variable 3 (v I32) (s 238 239)))) (s 220 239)) (s 220 240)) ∷ [])) (s 64 242))) ∷ [])

abbrev arguments_27 : List Argument
arguments_27 = ((AnArray (rw I32 (4294967290 ∷ 2147483646 ∷ 2147483646 ∷ 4294967293 ∷ 4294967287 ∷ 1 ∷ 6 ∷ 3898223027 ∷ 2147483648 ∷ 9 ∷ 4294967293 ∷
    2147483648 ∷ 4294967292 ∷ 2147483648 ∷ 2147483649 ∷ 0 ∷ 4294967290 ∷ 9 ∷ 2147483649 ∷ 2147483648 ∷ []))) ∷
    (AnArray (rw I8 (59 ∷ 129 ∷ 28 ∷ 2 ∷ 8 ∷ 48 ∷ 233 ∷ 126 ∷ 253 ∷ 254 ∷ 209 ∷ 2 ∷ 254 ∷ 254 ∷ 0 ∷ 5 ∷ []))) ∷
    (AValue (record { elem = I32; bits = 2147483647 })) ∷ [])

run_27_of_0 : run_of program_27 0 0 arguments_27 ≡ GoesOn ([])
unfolding digits number_to wrap_to amount not_zero
run_27_of_0 = refl

work_27_of_0 : work_of program_27 0 0 arguments_27 ≡ 9
unfolding digits number_to wrap_to amount not_zero
work_27_of_0 = refl

run_27_of_1 : run_of program_27 0 1 arguments_27 ≡ GoesOn ([])
unfolding digits number_to wrap_to amount not_zero
run_27_of_1 = refl

work_27_of_1 : work_of program_27 0 1 arguments_27 ≡ 33
unfolding digits number_to wrap_to amount not_zero
work_27_of_1 = refl

run_27_of_2 : run_of program_27 0 2 arguments_27 ≡ GoesOn ([])
unfolding digits number_to wrap_to amount not_zero
run_27_of_2 = refl

work_27_of_2 : work_of program_27 0 2 arguments_27 ≡ 58
unfolding digits number_to wrap_to amount not_zero
work_27_of_2 = refl

run_27_of_5 : run_of program_27 0 5 arguments_27
    ≡ Ends ((rw I32 (4294967290 ∷ 2147483646 ∷ 2147483646 ∷ 4294967293 ∷ 4294967287 ∷ 1 ∷ 6 ∷ 3898223027 ∷ 2147483648 ∷ 9 ∷ 4294967293 ∷ 2147483648 ∷
    4294967292 ∷ 2147483648 ∷ 2147483649 ∷ 0 ∷ 4294967290 ∷ 9 ∷ 2147483649 ∷ 2147483648 ∷ [])) ∷
    (rw I8 (0 ∷ 0 ∷ 0 ∷ 0 ∷ 0 ∷ 0 ∷ 0 ∷ 0 ∷ 0 ∷ 0 ∷ 0 ∷ 0 ∷ 0 ∷ 0 ∷ 0 ∷ 0 ∷ [])) ∷ []) None ([])
unfolding digits number_to wrap_to amount not_zero
run_27_of_5 = refl

work_27_of_5 : work_of program_27 0 5 arguments_27 ≡ 76
unfolding digits number_to wrap_to amount not_zero
work_27_of_5 = refl

-- export void f(uniform int32 a[], uniform uint32 o[], uniform signed int n) { int x = n; x <<= min(n, x) >= o[(programIndex ^ (programIndex | x)) &
-- 3] * x == (a[programIndex]) == x != 0x56124418; x = ((programIndex) % (3 | 1) >= n - x ? n : 5 | programIndex > n | o[(- n) & 3]); o[programIndex]
-- = x; }
abbrev program_28 : Program
program_28 = pr W4 ((fn None None ((vr (Given I32) false) ∷ (vr (Given U32) false) ∷ (vr (AVariable (u I32)) false) ∷ (vr (AVariable (v I32)) false) ∷
    []) (t_braces (t_stmts ((t_declare ((t_with_value 3 (v I32) (t_place (t_variable 2 (u I32) (s 85 86))) (s 81 86)) ∷ []) (s 77 87)) ∷
    (t_simple (t_update op.Shl I32 (t_variable 3 (v I32) (s 88 89))
    (t_convert I32 (t_compare cmp.NotEqual (t_convert I32
    (t_compare cmp.Equal (t_convert I32 (t_compare cmp.Equal
    (t_convert I32 (t_compare cmp.GreaterOrEqual (t_convert U32
    (t_library lib.Min I32 (t_exprs ((t_place (t_variable 2 (u I32) (s 98 99))) ∷ (t_place (t_variable 3 (v I32) (s 101 102))) ∷ [])) (v I32)
    (s 94 103))) (t_binary op.Mul (t_place (t_element (ar 1 (u U32) false)
    (t_binary op.And (t_cast (t_binary op.Xor (t_program_index (s 110 122))
    (t_cast (t_binary op.Or (t_program_index (s 126 138)) (t_place (t_variable 3 (v I32) (s 141 142))) (v I32) (s 126 142)) (v I32) (s 125 143))
    (v I32) (s 110 143)) (v I32) (s 109 144)) (cn I32 3 (s 147 148)) (v I32) (s 109 148)) (v U32) (s 107 149)))
    (t_convert U32 (t_place (t_variable 3 (v I32) (s 152 153)))) (v U32) (s 107 153)) Varying (s 94 153)))
    (t_cast (t_place (t_element (ar 0 (u I32) false) (t_program_index (s 160 172)) (v I32) (s 158 173))) (v I32) (s 157 174)) Varying (s 94 174)))
    (t_place (t_variable 3 (v I32) (s 178 179))) Varying (s 94 179))) (cn I32 1444037656 (s 183 193)) Varying (s 94 193))) (s 88 193)) (s 88 194)) ∷
    (t_simple (t_assign (t_variable 3 (v I32) (s 195 196))
    (t_convert I32 (t_cast (t_choose (t_compare cmp.GreaterOrEqual
    (t_binary op.Rem (t_cast (t_program_index (s 201 213)) (v I32) (s 200 214))
    (t_cast (t_binary op.Or (cn I32 3 (s 218 219)) (cn I32 1 (s 222 223)) (u I32) (s 218 223)) (u I32) (s 217 224)) (v I32) (s 200 224))
    (t_binary op.Sub (t_place (t_variable 2 (u I32) (s 228 229))) (t_place (t_variable 3 (v I32) (s 232 233))) (v I32) (s 228 233)) Varying
    (s 200 233)) (t_convert U32 (t_place (t_variable 2 (u I32) (s 236 237))))
    (t_binary op.Or (t_convert U32 (t_binary op.Or (cn I32 5 (s 240 241))
    (t_convert I32 (t_compare cmp.Greater (t_program_index (s 244 256)) (t_place (t_variable 2 (u I32) (s 259 260))) Varying (s 244 260))) (v I32)
    (s 240 260))) (t_place (t_element (ar 1 (u U32) false)
    (t_binary op.And (t_cast (t_unary un.Negate (t_place (t_variable 2 (u I32) (s 268 269))) (u I32) (s 266 269)) (u I32) (s 265 270))
    (cn I32 3 (s 273 274)) (u I32) (s 265 274)) (u U32) (s 263 275))) (v U32) (s 240 275)) (v U32) (s 200 275)) (v U32) (s 199 276))) (s 195 276))
    (s 195 277)) ∷ (t_simple (t_assign (t_element (ar 1 (u U32) false) (t_program_index (s 280 292)) (v U32) (s 278 293))
    (t_convert U32 (t_place (t_variable 3 (v I32) (s 296 297)))) (s 278 297)) (s 278 298)) ∷ [])) (s 75 300))) ∷ [])

abbrev arguments_28 : List Argument
arguments_28 = ((AnArray (rw I32 (4294967288 ∷ 4 ∷ 8 ∷ 4294967291 ∷ []))) ∷ (AnArray (rw U32 (0 ∷ 9 ∷ 2380935619 ∷ 220843447 ∷ []))) ∷ (AValue (record { elem = I32; bits = 4294967288 })) ∷ [])

run_28_of_0 : run_of program_28 0 0 arguments_28 ≡ Ends ((rw I32 (4294967288 ∷ 4 ∷ 8 ∷ 4294967291 ∷ [])) ∷ (rw U32 (5 ∷ 5 ∷ 5 ∷ 5 ∷ [])) ∷ []) None ([])
unfolding digits number_to wrap_to amount not_zero
run_28_of_0 = refl

work_28_of_0 : work_of program_28 0 0 arguments_28 ≡ 61
unfolding digits number_to wrap_to amount not_zero
work_28_of_0 = refl

-- export void f(uniform signed a[], uniform int8 o[]) { int x = programIndex > a[programIndex] == 0x19; uniform signed int8 v1 = (a[(6) & 7]); --x; o[programIndex] = x; }
abbrev program_30 : Program
program_30 = pr W4 ((fn None None ((vr (Given I32) false) ∷ (vr (Given I8) false) ∷ (vr (AVariable (v I32)) false) ∷ (vr (AVariable (u I8)) false) ∷
    []) (t_braces (t_stmts ((t_declare ((t_with_value 2 (v I32)
    (t_convert I32 (t_compare cmp.Equal (t_convert I32
    (t_compare cmp.Greater (t_program_index (s 62 74)) (t_place (t_element (ar 0 (u I32) false) (t_program_index (s 79 91)) (v I32) (s 77 92)))
    Varying (s 62 92))) (cn I32 25 (s 96 100)) Varying (s 62 100))) (s 58 100)) ∷ []) (s 54 101)) ∷
    (t_declare ((t_with_value 3 (u I8) (t_convert I8
    (t_cast (t_place (t_element (ar 0 (u I32) false)
    (t_binary op.And (t_cast (cn I32 6 (s 131 132)) (u I32) (s 130 133)) (cn I32 7 (s 136 137)) (u I32) (s 130 137)) (u I32) (s 128 138))) (u I32)
    (s 127 139))) (s 122 139)) ∷ []) (s 102 140)) ∷ (t_simple (t_step op.Sub I32 (t_variable 2 (v I32) (s 143 144)) (s 141 144)) (s 141 145)) ∷
    (t_simple (t_assign (t_element (ar 1 (u I8) false) (t_program_index (s 148 160)) (v I8) (s 146 161))
    (t_convert I8 (t_place (t_variable 2 (v I32) (s 164 165)))) (s 146 165)) (s 146 166)) ∷ [])) (s 52 168))) ∷ [])

abbrev arguments_30 : List Argument
arguments_30 = ((AnArray (rw I32 (6 ∷ 4294967290 ∷ 2147483647 ∷ 2 ∷ 4294967295 ∷ 2147483647 ∷ 0 ∷ 9 ∷ []))) ∷ (AnArray (rw I8 (127 ∷ 249 ∷ 4 ∷ 3 ∷ 108 ∷ []))) ∷ [])

run_30_of_0 : run_of program_30 0 0 arguments_30 ≡ Ends ((rw I32 (6 ∷ 4294967290 ∷ 2147483647 ∷ 2 ∷ 4294967295 ∷ 2147483647 ∷ 0 ∷ 9 ∷ [])) ∷ (rw I8 (255 ∷ 255 ∷ 255 ∷ 255 ∷ 108 ∷ [])) ∷ []) None ([])
unfolding digits number_to wrap_to amount not_zero
run_30_of_0 = refl

work_30_of_0 : work_of program_30 0 0 arguments_30 ≡ 23
unfolding digits number_to wrap_to amount not_zero
work_30_of_0 = refl

-- export void f(uniform signed a[], uniform int o[], uniform unsigned int8 n) { int x = (int32) n; a[4] >>= (unsigned int16) ~ a[(n == 4) & 3] > 0x8u * 2; x && n; if (programIndex != 2) return; x &= x; a[programIndex] += x; }
abbrev program_42 : Program
program_42 = pr W4 ((fn None None ((vr (Given I32) false) ∷ (vr (Given I32) false) ∷ (vr (AVariable (u U8)) false) ∷ (vr (AVariable (v I32)) false) ∷
    []) (t_braces (t_stmts ((t_declare ((t_with_value 3 (v I32) (t_cast (t_convert I32 (t_place (t_variable 2 (u U8) (s 94 95)))) (u I32) (s 86 95))
    (s 82 95)) ∷ []) (s 78 96)) ∷ (t_simple (t_update op.Shr I32 (t_element (ar 0 (u I32) false) (cn I32 4 (s 99 100)) (u I32) (s 97 101))
    (t_convert I32 (t_compare cmp.Greater (t_convert U32
    (t_cast (t_convert U16 (t_unary un.Invert (t_place
    (t_element (ar 0 (u I32) false) (t_binary op.And
    (t_convert I32 (t_cast (t_compare cmp.Equal (t_convert I32 (t_place (t_variable 2 (u U8) (s 128 129)))) (cn I32 4 (s 133 134)) Uniform
    (s 128 134)) (u Truth) (s 127 135))) (cn I32 3 (s 138 139)) (u I32) (s 127 139)) (u I32) (s 125 140))) (u I32) (s 123 140))) (u U16) (s 106 140)))
    (t_binary op.Mul (cn U32 8 (s 143 147)) (t_convert U32 (cn I32 2 (s 150 151))) (u U32) (s 143 151)) Uniform (s 106 151))) (s 97 151)) (s 97 152))
    ∷ (t_simple (t_value (t_logic logic.And (t_convert Truth (t_place (t_variable 3 (v I32) (s 153 154))))
    (t_convert Truth (t_place (t_variable 2 (u U8) (s 158 159)))) Varying (s 153 159))) (s 153 160)) ∷
    (t_if Plain 4 (t_compare cmp.NotEqual (t_program_index (s 165 177)) (cn I32 2 (s 181 182)) Varying (s 165 182))
    (t_return (s 184 190) None (s 184 191)) (s 161 191)) ∷
    (t_simple (t_update op.And I32 (t_variable 3 (v I32) (s 192 193)) (t_place (t_variable 3 (v I32) (s 197 198))) (s 192 198)) (s 192 199)) ∷
    (t_simple (t_update op.Add I32 (t_element (ar 0 (u I32) false) (t_program_index (s 202 214)) (v I32) (s 200 215))
    (t_place (t_variable 3 (v I32) (s 219 220))) (s 200 220)) (s 200 221)) ∷ [])) (s 76 223))) ∷ [])

abbrev arguments_42 : List Argument
arguments_42 = ((AnArray (rw I32 (826530669 ∷ 2147483646 ∷ 4294967292 ∷ 4294967290 ∷ 3 ∷ 4294967293 ∷ []))) ∷
    (AnArray (rw I32 (4294967295 ∷ 4 ∷ 4294967290 ∷ 2147483647 ∷ 4294967288 ∷ 2147483646 ∷ 5 ∷ []))) ∷ (AValue (record { elem = U8; bits = 1 })) ∷ [])

run_42_of_0 : run_of program_42 0 0 arguments_42 ≡ Ends ((rw I32 (826530669 ∷ 2147483646 ∷ 4294967293 ∷ 4294967290 ∷ 1 ∷ 4294967293 ∷ [])) ∷ (rw I32 (4294967295 ∷ 4 ∷ 4294967290 ∷ 2147483647 ∷ 4294967288 ∷ 2147483646 ∷ 5 ∷ [])) ∷ []) None ([])
unfolding digits number_to wrap_to amount not_zero
run_42_of_0 = refl

work_42_of_0 : work_of program_42 0 0 arguments_42 ≡ 37
unfolding digits number_to wrap_to amount not_zero
work_42_of_0 = refl

-- export void f(uniform int32 a[], uniform int16 o[], uniform int n) { int x = min(n != n, o[programIndex]); --x; { if (~ n < 0) { n &= (bool) n *
-- abs(6) <= a[(-(2147483647)) & 3]; } } cif ((n == n) / (((n && n | 1)) | 1)) { const uniform int16 v1 = - (int32) (0x3731a88673081d85 ? 4 : n); } {
-- return; } max(n, x); a[programIndex] += x; }
abbrev program_54 : Program
program_54 = pr W4 ((fn None None ((vr (Given I32) false) ∷ (vr (Given I16) false) ∷ (vr (AVariable (u I32)) false) ∷ (vr (AVariable (v I32)) false) ∷
    (vr (AVariable (u I16)) true) ∷ []) (t_braces (t_stmts
    ((t_declare ((t_with_value 3 (v I32) (t_library lib.Min I32
    (t_exprs ((t_convert I32 (t_compare cmp.NotEqual (t_place (t_variable 2 (u I32) (s 81 82))) (t_place (t_variable 2 (u I32) (s 86 87))) Uniform
    (s 81 87))) ∷ (t_convert I32 (t_place (t_element (ar 1 (u I16) false) (t_program_index (s 91 103)) (v I16) (s 89 104)))) ∷ [])) (v I32)
    (s 77 105)) (s 73 105)) ∷ []) (s 69 106)) ∷ (t_simple (t_step op.Sub I32 (t_variable 3 (v I32) (s 109 110)) (s 107 110)) (s 107 111)) ∷
    (t_block (t_braces (t_stmts ((t_if Plain 4 (t_compare cmp.Less
    (t_unary un.Invert (t_place (t_variable 2 (u I32) (s 120 121))) (u I32) (s 118 121)) (cn I32 0 (s 124 125)) Uniform (s 118 125))
    (t_block (t_braces (t_stmts ((t_simple (t_update op.And I32 (t_variable 2 (u I32) (s 129 130))
    (t_convert I32 (t_compare cmp.LessOrEqual (t_binary op.Mul
    (t_convert I32 (t_cast (t_convert Truth (t_place (t_variable 2 (u I32) (s 141 142)))) (u Truth) (s 134 142)))
    (t_library lib.Abs I32 (t_exprs ((cn I32 6 (s 149 150)) ∷ [])) (u I32) (s 145 151)) (u I32) (s 134 151))
    (t_place (t_element (ar 0 (u I32) false) (t_binary op.And
    (t_cast (t_unary un.Negate (t_cast (cn I32 2147483647 (s 160 170)) (u I32) (s 159 171)) (u I32) (s 158 171)) (u I32) (s 157 172))
    (cn I32 3 (s 175 176)) (u I32) (s 157 176)) (u I32) (s 155 177))) Uniform (s 134 177))) (s 129 177)) (s 129 178)) ∷ [])) (s 127 180)))
    (s 114 180)) ∷ [])) (s 112 182))) ∷ (t_if Plain 4
    (t_convert Truth (t_binary op.Div (t_convert I32
    (t_cast (t_compare cmp.Equal (t_place (t_variable 2 (u I32) (s 189 190))) (t_place (t_variable 2 (u I32) (s 194 195))) Uniform (s 189 195))
    (u Truth) (s 188 196))) (t_cast (t_binary op.Or (t_convert I32
    (t_cast (t_cast (t_logic logic.And (t_convert Truth (t_place (t_variable 2 (u I32) (s 202 203))))
    (t_convert Truth (t_binary op.Or (t_place (t_variable 2 (u I32) (s 207 208))) (cn I32 1 (s 211 212)) (u I32) (s 207 212))) Uniform (s 202 212))
    (u Truth) (s 201 213)) (u Truth) (s 200 214))) (cn I32 1 (s 217 218)) (u I32) (s 200 218)) (u I32) (s 199 219)) (u I32) (s 188 219)))
    (t_block (t_braces (t_stmts ((t_declare ((t_with_value 4 (u I16)
    (t_convert I16 (t_unary un.Negate (t_cast (t_cast
    (t_choose (t_convert Truth (cn I64 3977145241353854341 (s 259 277))) (cn I32 4 (s 280 281)) (t_place (t_variable 2 (u I32) (s 284 285))) (u I32)
    (s 259 285)) (u I32) (s 258 286)) (u I32) (s 250 286)) (u I32) (s 248 286))) (s 243 286)) ∷ []) (s 223 287)) ∷ [])) (s 221 289))) (s 183 289)) ∷
    (t_block (t_braces (t_stmts ((t_return (s 292 298) None (s 292 299)) ∷ [])) (s 290 301))) ∷
    (t_simple (t_value (t_library lib.Max I32 (t_exprs
    ((t_place (t_variable 2 (u I32) (s 306 307))) ∷ (t_place (t_variable 3 (v I32) (s 309 310))) ∷ [])) (v I32) (s 302 311))) (s 302 312)) ∷
    (t_simple (t_update op.Add I32 (t_element (ar 0 (u I32) false) (t_program_index (s 315 327)) (v I32) (s 313 328))
    (t_place (t_variable 3 (v I32) (s 332 333))) (s 313 333)) (s 313 334)) ∷ [])) (s 67 336))) ∷ [])

abbrev arguments_54 : List Argument
arguments_54 = ((AnArray (rw I32 (3 ∷ 3 ∷ 2147483647 ∷ 6 ∷ []))) ∷ (AnArray (rw I16 (46302 ∷ 4 ∷ 32767 ∷ 6 ∷ 55275 ∷ 65528 ∷ 11221 ∷ 48515 ∷ []))) ∷ (AValue (record { elem = I32; bits = 1 })) ∷ [])

run_54_of_0 : run_of program_54 0 0 arguments_54 ≡ Ends ((rw I32 (3 ∷ 3 ∷ 2147483647 ∷ 6 ∷ [])) ∷ (rw I16 (46302 ∷ 4 ∷ 32767 ∷ 6 ∷ 55275 ∷ 65528 ∷ 11221 ∷ 48515 ∷ [])) ∷ []) None ([])
unfolding digits number_to wrap_to amount not_zero
run_54_of_0 = refl

work_54_of_0 : work_of program_54 0 0 arguments_54 ≡ 57
unfolding digits number_to wrap_to amount not_zero
work_54_of_0 = refl

-- export void f(uniform signed int a[], uniform signed int8 o[], uniform unsigned n) { int x = abs(n) & ~(n); o[(n || o[(! n) & 7]) & 7] = a[7];
-- programIndex; a[programIndex] &= ! (programIndex & a[5] ? programIndex == x : n); a[programIndex] += x; }
abbrev program_59 : Program
program_59 = pr W8 ((fn None None ((vr (Given I32) false) ∷ (vr (Given I8) false) ∷ (vr (AVariable (u U32)) false) ∷ (vr (AVariable (v I32)) false) ∷
    []) (t_braces (t_stmts ((t_declare ((t_with_value 3 (v I32)
    (t_convert I32 (t_binary op.And (t_library lib.Abs U32 (t_exprs ((t_place (t_variable 2 (u U32) (s 97 98))) ∷ [])) (u U32) (s 93 99))
    (t_unary un.Invert (t_cast (t_place (t_variable 2 (u U32) (s 104 105))) (u U32) (s 103 106)) (u U32) (s 102 106)) (u U32) (s 93 106))) (s 89 106))
    ∷ []) (s 85 107)) ∷ (t_simple (t_assign (t_element (ar 1 (u I8) false)
    (t_binary op.And (t_convert I32 (t_cast (t_logic logic.Or (t_convert Truth (t_place (t_variable 2 (u U32) (s 111 112))))
    (t_convert Truth (t_place (t_element (ar 1 (u I8) false)
    (t_binary op.And (t_convert I32 (t_cast (t_unary un.Not (t_convert Truth (t_place (t_variable 2 (u U32) (s 121 122)))) (u Truth) (s 119 122))
    (u Truth) (s 118 123))) (cn I32 7 (s 126 127)) (u I32) (s 118 127)) (u I8) (s 116 128)))) Uniform (s 111 128)) (u Truth) (s 110 129)))
    (cn I32 7 (s 132 133)) (u I32) (s 110 133)) (u I8) (s 108 134))
    (t_convert I8 (t_place (t_element (ar 0 (u I32) false) (cn I32 7 (s 139 140)) (u I32) (s 137 141)))) (s 108 141)) (s 108 142)) ∷
    (t_simple (t_value (t_program_index (s 143 155))) (s 143 156)) ∷
    (t_simple (t_update op.And I32 (t_element (ar 0 (u I32) false) (t_program_index (s 159 171)) (v I32) (s 157 172))
    (t_convert I32 (t_unary un.Not (t_convert Truth (t_cast
    (t_choose (t_convert Truth (t_binary op.And (t_program_index (s 179 191))
    (t_place (t_element (ar 0 (u I32) false) (cn I32 5 (s 196 197)) (u I32) (s 194 198))) (v I32) (s 179 198)))
    (t_convert U32 (t_compare cmp.Equal (t_program_index (s 201 213)) (t_place (t_variable 3 (v I32) (s 217 218))) Varying (s 201 218)))
    (t_place (t_variable 2 (u U32) (s 221 222))) (v U32) (s 179 222)) (v U32) (s 178 223))) (v Truth) (s 176 223))) (s 157 223)) (s 157 224)) ∷
    (t_simple (t_update op.Add I32 (t_element (ar 0 (u I32) false) (t_program_index (s 227 239)) (v I32) (s 225 240))
    (t_place (t_variable 3 (v I32) (s 244 245))) (s 225 245)) (s 225 246)) ∷ [])) (s 83 248))) ∷ [])

abbrev arguments_59 : List Argument
arguments_59 = ((AnArray (rw I32 (4294967289 ∷ 7 ∷ 3 ∷ 4294967291 ∷ 2147483649 ∷ 1408366979 ∷ 2175840064 ∷ 2147483649 ∷ 0 ∷ 2147483647 ∷ 9 ∷ []))) ∷
    (AnArray (rw I8 (0 ∷ 0 ∷ 8 ∷ 251 ∷ 1 ∷ 2 ∷ 6 ∷ 247 ∷ []))) ∷ (AValue (record { elem = U32; bits = 3 })) ∷ [])

run_59_of_0 : run_of program_59 0 0 arguments_59 ≡ Ends ((rw I32 (0 ∷ 1 ∷ 1 ∷ 1 ∷ 0 ∷ 1 ∷ 0 ∷ 1 ∷ 0 ∷ 2147483647 ∷ 9 ∷ [])) ∷ (rw I8 (0 ∷ 1 ∷ 8 ∷ 251 ∷ 1 ∷ 2 ∷ 6 ∷ 247 ∷ [])) ∷ []) None ([])
unfolding digits number_to wrap_to amount not_zero
run_59_of_0 = refl

work_59_of_0 : work_of program_59 0 0 arguments_59 ≡ 38
unfolding digits number_to wrap_to amount not_zero
work_59_of_0 = refl

-- export uniform signed f(uniform signed int a[], uniform unsigned int8 o[], uniform bool n) { int x = ! (int64) 2; if (programIndex >= x) return
-- -(48u - a[(clamp(1, 0, 9)) & 7]); uniform unsigned int8 v1 = n; a[1] = (!((0))); ++n; a[programIndex] += x; return (- 3); }
abbrev program_63 : Program
program_63 = pr W8 ((fn (Some I32) (Some (u I32))
    ((vr (Given I32) false) ∷ (vr (Given U8) false) ∷ (vr (AVariable (u Truth)) false) ∷ (vr (AVariable (v I32)) false) ∷
    (vr (AVariable (u U8)) false) ∷ []) (t_braces (t_stmts
    ((t_declare ((t_with_value 3 (v I32) (t_convert I32
    (t_unary un.Not (t_convert Truth (t_cast (t_convert I64 (cn I32 2 (s 111 112))) (u I64) (s 103 112))) (u Truth) (s 101 112))) (s 97 112)) ∷ [])
    (s 93 113)) ∷ (t_if Plain 4 (t_compare cmp.GreaterOrEqual (t_program_index (s 118 130)) (t_place (t_variable 3 (v I32) (s 134 135))) Varying
    (s 118 135)) (t_return (s 137 143) (Some (t_convert I32
    (t_unary un.Negate (t_cast (t_binary op.Sub (cn U32 48 (s 146 149))
    (t_convert U32 (t_place (t_element (ar 0 (u I32) false)
    (t_binary op.And (t_cast (t_library lib.Clamp I32 (t_exprs ((cn I32 1 (s 161 162)) ∷ (cn I32 0 (s 164 165)) ∷ (cn I32 9 (s 167 168)) ∷ []))
    (u I32) (s 155 169)) (u I32) (s 154 170)) (cn I32 7 (s 173 174)) (u I32) (s 154 174)) (u I32) (s 152 175)))) (u U32) (s 146 175)) (u U32)
    (s 145 176)) (u U32) (s 144 176)))) (s 137 177)) (s 114 177)) ∷
    (t_declare ((t_with_value 4 (u U8) (t_convert U8 (t_place (t_variable 2 (u Truth) (s 205 206)))) (s 200 206)) ∷ []) (s 178 207)) ∷
    (t_simple (t_assign (t_element (ar 0 (u I32) false) (cn I32 1 (s 210 211)) (u I32) (s 208 212))
    (t_convert I32 (t_cast (t_unary un.Not (t_convert Truth (t_cast (t_cast (cn I32 0 (s 219 220)) (u I32) (s 218 221)) (u I32) (s 217 222)))
    (u Truth) (s 216 222)) (u Truth) (s 215 223))) (s 208 223)) (s 208 224)) ∷
    (t_simple (t_step op.Add I32 (t_variable 2 (u Truth) (s 227 228)) (s 225 228)) (s 225 229)) ∷
    (t_simple (t_update op.Add I32 (t_element (ar 0 (u I32) false) (t_program_index (s 232 244)) (v I32) (s 230 245))
    (t_place (t_variable 3 (v I32) (s 249 250))) (s 230 250)) (s 230 251)) ∷
    (t_return (s 252 258) (Some (t_cast (t_unary un.Negate (cn I32 3 (s 262 263)) (u I32) (s 260 263)) (u I32) (s 259 264))) (s 252 265)) ∷ []))
    (s 91 267))) ∷ [])

abbrev arguments_63 : List Argument
arguments_63 = ((AnArray (rw I32 (0 ∷ 5 ∷ 2147483649 ∷ 7 ∷ 4294967289 ∷ 4294967291 ∷ 8 ∷ 2147483647 ∷ []))) ∷ (AnArray (rw U8 (0 ∷ 162 ∷ 8 ∷ 5 ∷ 194 ∷ 252 ∷ 9 ∷ 6 ∷ 0 ∷ 5 ∷ 232 ∷ []))) ∷ (AValue (record { elem = Truth; bits = 1 })) ∷ [])

run_63_of_0 : run_of program_63 0 0 arguments_63
    ≡ Ends ((rw I32 (0 ∷ 5 ∷ 2147483649 ∷ 7 ∷ 4294967289 ∷ 4294967291 ∷ 8 ∷ 2147483647 ∷ [])) ∷
    (rw U8 (0 ∷ 162 ∷ 8 ∷ 5 ∷ 194 ∷ 252 ∷ 9 ∷ 6 ∷ 0 ∷ 5 ∷ 232 ∷ [])) ∷ []) (Some (record { elem = I32; bits = 4294967253 })) ([])
unfolding digits number_to wrap_to amount not_zero
run_63_of_0 = refl

work_63_of_0 : work_of program_63 0 0 arguments_63 ≡ 23
unfolding digits number_to wrap_to amount not_zero
work_63_of_0 = refl
