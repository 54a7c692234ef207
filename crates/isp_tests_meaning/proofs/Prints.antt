-- What is printed: what each program does in so many turns and what its work is, against an independent implementation.
use Rattle.std.specs.Prelude.{◌≡◌, false, List, [], ◌∷◌, Some, None}
use Rattle.std.proofs.Common.{refl}
use Rattle.std.specs.Fmt.{digits}
use Rattle.isp_base.specs.Values.{number_to, wrap_to, amount, not_zero}
use Rattle.isp_base.specs.Outcomes.{Ends, GoesOn}
use Rattle.isp_base.specs.declared.types.Gang.TheVariants.{W4, W8, W16}
use Rattle.isp_base.specs.declared.types.Elem.TheVariants.{Bool as Truth, I8, U8, I16, U16, I32, U32, I64, U64}
use Rattle.isp_base.specs.declared.types.Rate.TheVariants.{Uniform, Varying}
use Rattle.isp_base.specs.declared.operators.BinOp.TheVariants as op
use Rattle.isp_base.specs.declared.operators.UnaryOp.TheVariants as un
use Rattle.isp_base.specs.declared.operators.Compare.TheVariants as cmp
use Rattle.isp_base.specs.declared.signature.Argument.{Argument}
use Rattle.isp_base.specs.declared.signature.Argument.TheVariants.{Array as AnArray, Value as AValue}
use Rattle.isp_tree.specs.declared.stmt.Form.TheVariants.{Plain}
use Rattle.isp_typed.specs.declared.library.Library.TheVariants as lib
use Rattle.isp_typed.specs.declared.variable.Holds.TheVariants.{Value as AVariable, Given}
use Rattle.isp_typed.specs.declared.variable.Logic.TheVariants as logic
use Rattle.isp_typed.specs.Typed.{t_program_index, t_place, t_convert, t_cast, t_unary, t_binary, t_compare, t_logic, t_choose, t_library, t_variable, t_element, t_exprs}
use Rattle.isp_typed.specs.Typed.{t_plain, t_with_value, t_value, t_assign, t_update, t_step}
use Rattle.isp_typed.specs.Typed.{t_block, t_declare, t_simple, t_if, t_while, t_return, t_print, t_braces, t_stmts, Program}
use Rattle.isp_meaning.specs.Runs.{run_of, work_of}
use Rattle.isp_tests_meaning.specs.Terms.{s, u, v, cn, ar, vr, rw, fn, pr, times}

-- export uniform int32 f(uniform int a[], uniform signed int8 o[], uniform signed int8 n) { int x = programIndex + n; x = min(min(~ 1, x * programIndex), (programIndex <= x ? n : -(x))); ; a[programIndex] += x; return 2 * n || ~(8); }
abbrev program_1 : Program
program_1 = pr W4 ((fn (Some I32) (Some (u I32))
    ((vr (Given I32) false) ∷ (vr (Given I8) false) ∷ (vr (AVariable (u I8)) false) ∷ (vr (AVariable (v I32)) false) ∷ [])
    (t_braces (t_stmts ((t_declare ((t_with_value 3 (v I32)
    (t_binary op.Add (t_program_index (s 98 110)) (t_convert I32 (t_place (t_variable 2 (u I8) (s 113 114)))) (v I32) (s 98 114)) (s 94 114)) ∷ [])
    (s 90 115)) ∷ (t_simple (t_assign (t_variable 3 (v I32) (s 116 117))
    (t_library lib.Min I32 (t_exprs ((t_library lib.Min I32
    (t_exprs ((t_unary un.Invert (cn I32 1 (s 130 131)) (u I32) (s 128 131)) ∷
    (t_binary op.Mul (t_place (t_variable 3 (v I32) (s 133 134))) (t_program_index (s 137 149)) (v I32) (s 133 149)) ∷ [])) (v I32) (s 124 150)) ∷
    (t_cast (t_choose (t_compare cmp.LessOrEqual (t_program_index (s 153 165)) (t_place (t_variable 3 (v I32) (s 169 170))) Varying (s 153 170))
    (t_convert I32 (t_place (t_variable 2 (u I8) (s 173 174))))
    (t_unary un.Negate (t_cast (t_place (t_variable 3 (v I32) (s 179 180))) (v I32) (s 178 181)) (v I32) (s 177 181)) (v I32) (s 153 181)) (v I32)
    (s 152 182)) ∷ [])) (v I32) (s 120 183)) (s 116 183)) (s 116 184)) ∷ (t_block (t_braces (t_stmts ([])) (s 185 186))) ∷
    (t_simple (t_update op.Add I32 (t_element (ar 0 (u I32) false) (t_program_index (s 189 201)) (v I32) (s 187 202))
    (t_place (t_variable 3 (v I32) (s 206 207))) (s 187 207)) (s 187 208)) ∷
    (t_return (s 209 215) (Some (t_convert I32 (t_logic logic.Or
    (t_convert Truth (t_binary op.Mul (cn I32 2 (s 216 217)) (t_convert I32 (t_place (t_variable 2 (u I8) (s 220 221)))) (u I32) (s 216 221)))
    (t_convert Truth (t_unary un.Invert (t_cast (cn I32 8 (s 227 228)) (u I32) (s 226 229)) (u I32) (s 225 229))) Uniform (s 216 229)))) (s 209 230))
    ∷ [])) (s 88 232))) ∷ [])

abbrev arguments_1 : List Argument
arguments_1 = ((AnArray (rw I32 (0 ∷ 9 ∷ 4294967289 ∷ 4294967293 ∷ 4294967293 ∷ []))) ∷ (AnArray (rw I8 (254 ∷ 128 ∷ 128 ∷ 254 ∷ 1 ∷ 126 ∷ []))) ∷ (AValue (record { elem = I8; bits = 248 })) ∷ [])

run_1_of_0 : run_of program_1 0 0 arguments_1 ≡ Ends ((rw I32 (4294967294 ∷ 2 ∷ 4294967277 ∷ 4294967278 ∷ 4294967293 ∷ [])) ∷ (rw I8 (254 ∷ 128 ∷ 128 ∷ 254 ∷ 1 ∷ 126 ∷ [])) ∷ []) (Some (record { elem = I32; bits = 1 })) ([])
unfolding digits number_to wrap_to amount not_zero
run_1_of_0 = refl

work_1_of_0 : work_of program_1 0 0 arguments_1 ≡ 33
unfolding digits number_to wrap_to amount not_zero
work_1_of_0 = refl

-- export void f(uniform int a[], uniform unsigned int o[]) { int x = (signed int) o[(programIndex ^ ((6))) & 7] == 49u; print(""); a[(programIndex ^
-- (x)) & 7] &= o[(x == programIndex) & 7]; print("\t%", (x ? o[programIndex] : programIndex)); a[programIndex] += x; }
abbrev program_2 : Program
program_2 = pr W8 ((fn None None ((vr (Given I32) false) ∷ (vr (Given U32) false) ∷ (vr (AVariable (v I32)) false) ∷ [])
    (t_braces (t_stmts ((t_declare ((t_with_value 2 (v I32)
    (t_convert I32 (t_compare cmp.Equal (t_convert U32
    (t_cast (t_convert I32 (t_place (t_element (ar 1 (u U32) false)
    (t_binary op.And (t_cast (t_binary op.Xor (t_program_index (s 83 95))
    (t_cast (t_cast (cn I32 6 (s 100 101)) (u I32) (s 99 102)) (u I32) (s 98 103)) (v I32) (s 83 103)) (v I32) (s 82 104)) (cn I32 7 (s 107 108))
    (v I32) (s 82 108)) (v U32) (s 80 109)))) (v I32) (s 67 109))) (cn U32 49 (s 113 116)) Varying (s 67 116))) (s 63 116)) ∷ []) (s 59 117)) ∷
    (t_print (s 118 123) ([]) ([]) (s 118 128)) ∷ (t_simple
    (t_update op.And U32 (t_element (ar 0 (u I32) false)
    (t_binary op.And (t_cast (t_binary op.Xor (t_program_index (s 132 144)) (t_cast (t_place (t_variable 2 (v I32) (s 148 149))) (v I32) (s 147 150))
    (v I32) (s 132 150)) (v I32) (s 131 151)) (cn I32 7 (s 154 155)) (v I32) (s 131 155)) (v I32) (s 129 156))
    (t_place (t_element (ar 1 (u U32) false) (t_binary op.And
    (t_convert I32 (t_cast (t_compare cmp.Equal (t_place (t_variable 2 (v I32) (s 163 164))) (t_program_index (s 168 180)) Varying (s 163 180))
    (v Truth) (s 162 181))) (cn I32 7 (s 184 185)) (v I32) (s 162 185)) (v U32) (s 160 186))) (s 129 186)) (s 129 187)) ∷
    (t_print (s 188 193) (9 ∷ 37 ∷ []) ((t_cast (t_choose (t_convert Truth (t_place (t_variable 2 (v I32) (s 202 203))))
    (t_place (t_element (ar 1 (u U32) false) (t_program_index (s 208 220)) (v U32) (s 206 221))) (t_convert U32 (t_program_index (s 224 236))) (v U32)
    (s 202 236)) (v U32) (s 201 237)) ∷ []) (s 188 239)) ∷
    (t_simple (t_update op.Add I32 (t_element (ar 0 (u I32) false) (t_program_index (s 242 254)) (v I32) (s 240 255))
    (t_place (t_variable 2 (v I32) (s 259 260))) (s 240 260)) (s 240 261)) ∷ [])) (s 57 263))) ∷ [])

abbrev arguments_2 : List Argument
arguments_2 = ((AnArray (rw I32 (6 ∷ 4294967289 ∷ 4294967287 ∷ 3 ∷ 2776410556 ∷ 2147483646 ∷ 7 ∷ 4294967295 ∷ 2147483647 ∷ 8 ∷ []))) ∷ (AnArray (rw U32 (2107228454 ∷ 9 ∷ 0 ∷ 8 ∷ 4294967294 ∷ 2 ∷ 762938214 ∷ 9 ∷ []))) ∷ [])

run_2_of_0 : run_of program_2 0 0 arguments_2 ≡ Ends
    ((rw I32 (0 ∷ 2107228448 ∷ 2107228454 ∷ 2 ∷ 622362916 ∷ 2107228454 ∷ 6 ∷ 2107228454 ∷ 2147483647 ∷ 8 ∷ [])) ∷
    (rw U32 (2107228454 ∷ 9 ∷ 0 ∷ 8 ∷ 4294967294 ∷ 2 ∷ 762938214 ∷ 9 ∷ [])) ∷ []) None
    (9 ∷ 91 ∷ 48 ∷ 44 ∷ 49 ∷ 44 ∷ 50 ∷ 44 ∷ 51 ∷ 44 ∷ 52 ∷ 44 ∷ 53 ∷ 44 ∷ 54 ∷ 44 ∷ 55 ∷ 93 ∷ [])
unfolding digits number_to wrap_to amount not_zero
run_2_of_0 = refl

work_2_of_0 : work_of program_2 0 0 arguments_2 ≡ 41
unfolding digits number_to wrap_to amount not_zero
work_2_of_0 = refl

-- export void f(uniform signed a[], uniform uint32 o[]) { int x = ((int16) 5); print("=%", ((programIndex)) / (((a[(programIndex ^ (programCount)) & 7] < x | 1)) | 1)); a[(-(o[3])) & 7] *= 2; a[programIndex] += x; }
abbrev program_5 : Program
program_5 = pr W8 ((fn None None ((vr (Given I32) false) ∷ (vr (Given U32) false) ∷ (vr (AVariable (v I32)) false) ∷ [])
    (t_braces (t_stmts ((t_declare ((t_with_value 2 (v I32)
    (t_convert I32 (t_cast (t_cast (t_convert I16 (cn I32 5 (s 73 74))) (u I16) (s 65 74)) (u I16) (s 64 75))) (s 60 75)) ∷ []) (s 56 76)) ∷
    (t_print (s 77 82) (61 ∷ 37 ∷ []) ((t_binary op.Div (t_cast (t_cast (t_program_index (s 91 103)) (v I32) (s 90 104)) (v I32) (s 89 105))
    (t_cast (t_binary op.Or (t_cast (t_cast (t_binary op.Or
    (t_convert I32 (t_compare cmp.Less (t_place (t_element (ar 0 (u I32) false)
    (t_binary op.And (t_cast (t_binary op.Xor (t_program_index (s 114 126)) (t_cast (cn I32 8 (s 130 142)) (u I32) (s 129 143)) (v I32) (s 114 143))
    (v I32) (s 113 144)) (cn I32 7 (s 147 148)) (v I32) (s 113 148)) (v I32) (s 111 149))) (t_place (t_variable 2 (v I32) (s 152 153))) Varying
    (s 111 153))) (cn I32 1 (s 156 157)) (v I32) (s 111 157)) (v I32) (s 110 158)) (v I32) (s 109 159)) (cn I32 1 (s 162 163)) (v I32) (s 109 163))
    (v I32) (s 108 164)) (v I32) (s 89 164)) ∷ []) (s 77 166)) ∷
    (t_simple (t_update op.Mul I32 (t_element (ar 0 (u I32) false)
    (t_binary op.And (t_cast (t_unary un.Negate (t_cast (t_place (t_element (ar 1 (u U32) false) (cn I32 3 (s 174 175)) (u U32) (s 172 176))) (u U32)
    (s 171 177)) (u U32) (s 170 177)) (u U32) (s 169 178)) (t_convert U32 (cn I32 7 (s 181 182))) (u U32) (s 169 182)) (u I32) (s 167 183))
    (cn I32 2 (s 187 188)) (s 167 188)) (s 167 189)) ∷
    (t_simple (t_update op.Add I32 (t_element (ar 0 (u I32) false) (t_program_index (s 192 204)) (v I32) (s 190 205))
    (t_place (t_variable 2 (v I32) (s 209 210))) (s 190 210)) (s 190 211)) ∷ [])) (s 54 213))) ∷ [])

abbrev arguments_5 : List Argument
arguments_5 = ((AnArray (rw I32 (0 ∷ 9 ∷ 2147483647 ∷ 2147483646 ∷ 1079894619 ∷ 1271813870 ∷ 7 ∷ 3329328624 ∷ 2147483648 ∷ 2 ∷ 2147483648 ∷ 9 ∷ [])))
    ∷ (AnArray (rw U32 (8 ∷ 4294967294 ∷ 6 ∷ 2 ∷ 4294967295 ∷ 7 ∷ 4294967295 ∷ 412496035 ∷ 0 ∷ 0 ∷ []))) ∷ [])

run_5_of_0 : run_of program_5 0 0 arguments_5 ≡ Ends
    ((rw I32 (5 ∷ 14 ∷ 2147483652 ∷ 2147483651 ∷ 1079894624 ∷ 1271813875 ∷ 19 ∷ 3329328629 ∷ 2147483648 ∷ 2 ∷ 2147483648 ∷ 9 ∷ [])) ∷
    (rw U32 (8 ∷ 4294967294 ∷ 6 ∷ 2 ∷ 4294967295 ∷ 7 ∷ 4294967295 ∷ 412496035 ∷ 0 ∷ 0 ∷ [])) ∷ []) None
    (61 ∷ 91 ∷ 48 ∷ 44 ∷ 49 ∷ 44 ∷ 50 ∷ 44 ∷ 51 ∷ 44 ∷ 52 ∷ 44 ∷ 53 ∷ 44 ∷ 54 ∷ 44 ∷ 55 ∷ 93 ∷ [])
unfolding digits number_to wrap_to amount not_zero
run_5_of_0 = refl

work_5_of_0 : work_of program_5 0 0 arguments_5 ≡ 42
unfolding digits number_to wrap_to amount not_zero
work_5_of_0 = refl

-- export void f(uniform int32 a[], uniform int16 o[], uniform signed n) { int x = (int32) n; x++; while (true) { print("\\%é%z\n", 5, (n) < (n) % (9 | 1)); } o[programIndex] = x; }
abbrev program_12 : Program
program_12 = pr W16 ((fn None None ((vr (Given I32) false) ∷ (vr (Given I16) false) ∷ (vr (AVariable (u I32)) false) ∷ (vr (AVariable (v I32)) false)
    ∷ []) (t_braces (t_stmts ((t_declare ((t_with_value 3 (v I32) (t_cast (t_place (t_variable 2 (u I32) (s 88 89))) (u I32) (s 80 89)) (s 76 89)) ∷
    []) (s 72 90)) ∷ (t_simple (t_step op.Add I32 (t_variable 3 (v I32) (s 91 92)) (s 91 94)) (s 91 95)) ∷
    (t_while Plain 4 (cn Truth 1 (s 103 107)) (t_block
    (t_braces (t_stmts ((t_print (s 111 116) (92 ∷ 37 ∷ 195 ∷ 169 ∷ 37 ∷ 122 ∷ 10 ∷ [])
    ((cn I32 5 (s 130 131)) ∷ (t_compare cmp.Less (t_cast (t_place (t_variable 2 (u I32) (s 134 135))) (u I32) (s 133 136))
    (t_binary op.Rem (t_cast (t_place (t_variable 2 (u I32) (s 140 141))) (u I32) (s 139 142))
    (t_cast (t_binary op.Or (cn I32 9 (s 146 147)) (cn I32 1 (s 150 151)) (u I32) (s 146 151)) (u I32) (s 145 152)) (u I32) (s 139 152)) Uniform
    (s 133 152)) ∷ []) (s 111 154)) ∷ [])) (s 109 156))) (s 96 156)) ∷
    (t_simple (t_assign (t_element (ar 1 (u I16) false) (t_program_index (s 159 171)) (v I16) (s 157 172))
    (t_convert I16 (t_place (t_variable 3 (v I32) (s 175 176)))) (s 157 176)) (s 157 177)) ∷ [])) (s 70 179))) ∷ [])

abbrev arguments_12 : List Argument
arguments_12 = ((AnArray (rw I32 (52867535 ∷ 2147483647 ∷ 4294967292 ∷ 4294967293 ∷ 2147483648 ∷ 3078871470 ∷ 2 ∷ 2147483649 ∷ 2147483646 ∷ 4294967291
    ∷ 2147483646 ∷ 1 ∷ 2147483649 ∷ 4294967288 ∷ 2147483646 ∷ 4272352770 ∷ 4 ∷ 2147483649 ∷ 2147483647 ∷ 4294967290 ∷ []))) ∷
    (AnArray (rw I16 (65531 ∷ 4540 ∷ 44382 ∷ 65528 ∷ 65530 ∷ 65529 ∷ 14772 ∷ 65531 ∷ 65533 ∷ 65530 ∷ 32769 ∷ 626 ∷ 65528 ∷ 32767 ∷ 65529 ∷ 65529 ∷
    65533 ∷ 32769 ∷ 4 ∷ 32769 ∷ []))) ∷ (AValue (record { elem = I32; bits = 2147483648 })) ∷ [])

run_12_of_0 : run_of program_12 0 0 arguments_12 ≡ GoesOn ([])
unfolding digits number_to wrap_to amount not_zero
run_12_of_0 = refl

work_12_of_0 : work_of program_12 0 0 arguments_12 ≡ 9
unfolding digits number_to wrap_to amount not_zero
work_12_of_0 = refl

run_12_of_1 : run_of program_12 0 1 arguments_12 ≡ GoesOn (92 ∷ 53 ∷ 195 ∷ 169 ∷ 116 ∷ 114 ∷ 117 ∷ 101 ∷ 122 ∷ 10 ∷ [])
unfolding digits number_to wrap_to amount not_zero
run_12_of_1 = refl

work_12_of_1 : work_of program_12 0 1 arguments_12 ≡ 24
unfolding digits number_to wrap_to amount not_zero
work_12_of_1 = refl

run_12_of_2 : run_of program_12 0 2 arguments_12 ≡ GoesOn (92 ∷ 53 ∷ 195 ∷ 169 ∷ 116 ∷ 114 ∷ 117 ∷ 101 ∷ 122 ∷ 10 ∷ 92 ∷ 53 ∷ 195 ∷ 169 ∷ 116 ∷ 114 ∷ 117 ∷ 101 ∷ 122 ∷ 10 ∷ [])
unfolding digits number_to wrap_to amount not_zero
run_12_of_2 = refl

work_12_of_2 : work_of program_12 0 2 arguments_12 ≡ 39
unfolding digits number_to wrap_to amount not_zero
work_12_of_2 = refl

run_12_of_5 : run_of program_12 0 5 arguments_12
    ≡ GoesOn (92 ∷ 53 ∷ 195 ∷ 169 ∷ 116 ∷ 114 ∷ 117 ∷ 101 ∷ 122 ∷ 10 ∷ 92 ∷ 53 ∷ 195 ∷ 169 ∷ 116 ∷ 114 ∷ 117 ∷ 101 ∷ 122 ∷ 10 ∷ 92 ∷ 53 ∷ 195 ∷ 169 ∷
    116 ∷ 114 ∷ 117 ∷ 101 ∷ 122 ∷ 10 ∷ 92 ∷ 53 ∷ 195 ∷ 169 ∷ 116 ∷ 114 ∷ 117 ∷ 101 ∷ 122 ∷ 10 ∷ 92 ∷ 53 ∷ 195 ∷ 169 ∷ 116 ∷ 114 ∷ 117 ∷ 101 ∷ 122 ∷ 10
    ∷ [])
unfolding digits number_to wrap_to amount not_zero
run_12_of_5 = refl

work_12_of_5 : work_of program_12 0 5 arguments_12 ≡ 84
unfolding digits number_to wrap_to amount not_zero
work_12_of_5 = refl

run_12_of_1000 : run_of program_12 0 1000 arguments_12 ≡ GoesOn (times 1000 (92 ∷ 53 ∷ 195 ∷ 169 ∷ 116 ∷ 114 ∷ 117 ∷ 101 ∷ 122 ∷ 10 ∷ []))
unfolding digits number_to wrap_to amount not_zero
run_12_of_1000 = refl

work_12_of_1000 : work_of program_12 0 1000 arguments_12 ≡ 15009
unfolding digits number_to wrap_to amount not_zero
work_12_of_1000 = refl

-- export void f(uniform int a[], uniform uint8 o[], uniform int32 z[], uniform int8 n) { int x = n; x = ! x; if ((varying int8) - programIndex) {
-- uniform int16 v1 = !(!(255)), v2 = (0xa8 ? v1 : n) ^ n | 18446744073709551615 < 65535; } a[programIndex] += x; }
abbrev program_16 : Program
program_16 = pr W4 ((fn None None ((vr (Given I32) false) ∷ (vr (Given U8) false) ∷ (vr (Given I32) false) ∷ (vr (AVariable (u I8)) false) ∷
    (vr (AVariable (v I32)) false) ∷ (vr (AVariable (u I16)) false) ∷ (vr (AVariable (u I16)) false) ∷ [])
    (t_braces (t_stmts ((t_declare ((t_with_value 4 (v I32) (t_convert I32 (t_place (t_variable 3 (u I8) (s 95 96)))) (s 91 96)) ∷ []) (s 87 97)) ∷
    (t_simple (t_assign (t_variable 4 (v I32) (s 98 99))
    (t_convert I32 (t_unary un.Not (t_convert Truth (t_place (t_variable 4 (v I32) (s 104 105)))) (v Truth) (s 102 105))) (s 98 105)) (s 98 106)) ∷
    (t_if Plain 5 (t_convert Truth (t_cast (t_convert I8 (t_unary un.Negate (t_program_index (s 128 140)) (v I32) (s 126 140))) (v I8) (s 111 140)))
    (t_block (t_braces (t_stmts ((t_declare ((t_with_value 5 (u I16)
    (t_convert I16 (t_unary un.Not (t_cast (t_unary un.Not (t_convert Truth (t_cast (cn I32 255 (s 167 170)) (u I32) (s 166 171))) (u Truth)
    (s 165 171)) (u Truth) (s 164 172)) (u Truth) (s 163 172))) (s 158 172)) ∷
    (t_with_value 6 (u I16) (t_convert I16 (t_binary op.Or
    (t_convert I32 (t_binary op.Xor (t_cast (t_choose (t_convert Truth (cn I32 168 (s 180 184))) (t_place (t_variable 5 (u I16) (s 187 189)))
    (t_convert I16 (t_place (t_variable 3 (u I8) (s 192 193)))) (u I16) (s 180 193)) (u I16) (s 179 194))
    (t_convert I16 (t_place (t_variable 3 (u I8) (s 197 198)))) (u I16) (s 179 198)))
    (t_convert I32 (t_compare cmp.Less (cn U64 18446744073709551615 (s 201 221)) (t_convert U64 (cn I32 65535 (s 224 229))) Uniform (s 201 229)))
    (u I32) (s 179 229))) (s 174 229)) ∷ []) (s 144 230)) ∷ [])) (s 142 232))) (s 107 232)) ∷
    (t_simple (t_update op.Add I32 (t_element (ar 0 (u I32) false) (t_program_index (s 235 247)) (v I32) (s 233 248))
    (t_place (t_variable 4 (v I32) (s 252 253))) (s 233 253)) (s 233 254)) ∷ [])) (s 85 256))) ∷ [])

abbrev arguments_16 : List Argument
arguments_16 = ((AnArray (rw I32 (4294967289 ∷ 603568663 ∷ 2147483648 ∷ 4014673539 ∷ 4294967295 ∷ 4294967292 ∷ 4294967289 ∷ []))) ∷
    (AnArray (rw U8 (9 ∷ 7 ∷ 0 ∷ 7 ∷ 255 ∷ 0 ∷ []))) ∷ (AnArray (rw I32 (2147483647 ∷ 4294967294 ∷ 4294967289 ∷ 2147483647 ∷ 4294967293 ∷ 1 ∷ []))) ∷
    (AValue (record { elem = I8; bits = 126 })) ∷ [])

run_16_of_0 : run_of program_16 0 0 arguments_16
    ≡ Ends ((rw I32 (4294967289 ∷ 603568663 ∷ 2147483648 ∷ 4014673539 ∷ 4294967295 ∷ 4294967292 ∷ 4294967289 ∷ [])) ∷
    (rw U8 (9 ∷ 7 ∷ 0 ∷ 7 ∷ 255 ∷ 0 ∷ [])) ∷ (rw I32 (2147483647 ∷ 4294967294 ∷ 4294967289 ∷ 2147483647 ∷ 4294967293 ∷ 1 ∷ [])) ∷ []) None ([])
unfolding digits number_to wrap_to amount not_zero
run_16_of_0 = refl

work_16_of_0 : work_of program_16 0 0 arguments_16 ≡ 35
unfolding digits number_to wrap_to amount not_zero
work_16_of_0 = refl

-- export uniform int32 f(uniform int32 a[], uniform uint o[], uniform int32 n) { int x = n & (n) / (n | 1); print(""); x--; if (x) return ((unsigned int) n ? (a[3]) : n); -(n); x = x; o[programIndex] = x; return a[0]; }
abbrev program_27 : Program
program_27 = pr W4 ((fn (Some I32) (Some (u I32))
    ((vr (Given I32) false) ∷ (vr (Given U32) false) ∷ (vr (AVariable (u I32)) false) ∷ (vr (AVariable (v I32)) false) ∷ [])
    (t_braces (t_stmts ((t_declare ((t_with_value 3 (v I32)
    (t_binary op.And (t_place (t_variable 2 (u I32) (s 87 88)))
    (t_binary op.Div (t_cast (t_place (t_variable 2 (u I32) (s 92 93))) (u I32) (s 91 94))
    (t_cast (t_binary op.Or (t_place (t_variable 2 (u I32) (s 98 99))) (cn I32 1 (s 102 103)) (u I32) (s 98 103)) (u I32) (s 97 104)) (u I32)
    (s 91 104)) (u I32) (s 87 104)) (s 83 104)) ∷ []) (s 79 105)) ∷ (t_print (s 106 111) ([]) ([]) (s 106 116)) ∷
    (t_simple (t_step op.Sub I32 (t_variable 3 (v I32) (s 117 118)) (s 117 120)) (s 117 121)) ∷
    (t_if Plain 4 (t_convert Truth (t_place (t_variable 3 (v I32) (s 126 127))))
    (t_return (s 129 135) (Some (t_cast (t_choose (t_convert Truth
    (t_cast (t_convert U32 (t_place (t_variable 2 (u I32) (s 152 153)))) (u U32) (s 137 153)))
    (t_cast (t_place (t_element (ar 0 (u I32) false) (cn I32 3 (s 159 160)) (u I32) (s 157 161))) (u I32) (s 156 162))
    (t_place (t_variable 2 (u I32) (s 165 166))) (u I32) (s 137 166)) (u I32) (s 136 167))) (s 129 168)) (s 122 168)) ∷
    (t_simple (t_value (t_unary un.Negate (t_cast (t_place (t_variable 2 (u I32) (s 171 172))) (u I32) (s 170 173)) (u I32) (s 169 173))) (s 169 174))
    ∷ (t_simple (t_assign (t_variable 3 (v I32) (s 175 176)) (t_place (t_variable 3 (v I32) (s 179 180))) (s 175 180)) (s 175 181)) ∷
    (t_simple (t_assign (t_element (ar 1 (u U32) false) (t_program_index (s 184 196)) (v U32) (s 182 197))
    (t_convert U32 (t_place (t_variable 3 (v I32) (s 200 201)))) (s 182 201)) (s 182 202)) ∷
    (t_return (s 203 209) (Some (t_place (t_element (ar 0 (u I32) false) (cn I32 0 (s 212 213)) (u I32) (s 210 214)))) (s 203 215)) ∷ []))
    (s 77 217))) ∷ [])

abbrev arguments_27 : List Argument
arguments_27 = ((AnArray (rw I32 (4294967294 ∷ 2819631468 ∷ 413531098 ∷ 2529228390 ∷ []))) ∷ (AnArray (rw U32 (522515460 ∷ 548075084 ∷ 5 ∷ 0 ∷ []))) ∷ (AValue (record { elem = I32; bits = 1 })) ∷ [])

run_27_of_0 : run_of program_27 0 0 arguments_27 ≡ Ends ((rw I32 (4294967294 ∷ 2819631468 ∷ 413531098 ∷ 2529228390 ∷ [])) ∷ (rw U32 (0 ∷ 0 ∷ 0 ∷ 0 ∷ [])) ∷ []) (Some (record { elem = I32; bits = 4294967294 })) ([])
unfolding digits number_to wrap_to amount not_zero
run_27_of_0 = refl

work_27_of_0 : work_of program_27 0 0 arguments_27 ≡ 31
unfolding digits number_to wrap_to amount not_zero
work_27_of_0 = refl

-- export void f(uniform int32 a[], uniform unsigned int8 o[], uniform int64 z[], uniform unsigned n) { int x = (programIndex ? n : n) == n * programCount; unsigned int8 v1 = n; print("z\n"); o[programIndex] = x; }
abbrev program_29 : Program
program_29 = pr W16 ((fn None None ((vr (Given I32) false) ∷ (vr (Given U8) false) ∷ (vr (Given I64) false) ∷ (vr (AVariable (u U32)) false) ∷
    (vr (AVariable (v I32)) false) ∷ (vr (AVariable (v U8)) false) ∷ [])
    (t_braces (t_stmts ((t_declare ((t_with_value 4 (v I32)
    (t_convert I32 (t_compare cmp.Equal (t_cast (t_choose (t_convert Truth (t_program_index (s 110 122))) (t_place (t_variable 3 (u U32) (s 125 126)))
    (t_place (t_variable 3 (u U32) (s 129 130))) (v U32) (s 110 130)) (v U32) (s 109 131))
    (t_binary op.Mul (t_place (t_variable 3 (u U32) (s 135 136))) (t_convert U32 (cn I32 16 (s 139 151))) (u U32) (s 135 151)) Varying (s 109 151)))
    (s 105 151)) ∷ []) (s 101 152)) ∷ (t_declare ((t_with_value 5 (v U8) (t_convert U8 (t_place (t_variable 3 (u U32) (s 172 173)))) (s 167 173)) ∷
    []) (s 153 174)) ∷ (t_print (s 175 180) (122 ∷ 10 ∷ []) ([]) (s 175 188)) ∷
    (t_simple (t_assign (t_element (ar 1 (u U8) false) (t_program_index (s 191 203)) (v U8) (s 189 204))
    (t_convert U8 (t_place (t_variable 4 (v I32) (s 207 208)))) (s 189 208)) (s 189 209)) ∷ [])) (s 99 211))) ∷ [])

abbrev arguments_29 : List Argument
arguments_29 = ((AnArray (rw I32 (8 ∷ 2147483649 ∷ 9 ∷ 2 ∷ 4 ∷ 2147483646 ∷ 2147483648 ∷ 4294967292 ∷ 4294967289 ∷ 2147483649 ∷ 2147483648 ∷ 205810799
    ∷ 2556770716 ∷ 782209387 ∷ 2264741399 ∷ 3545225833 ∷ 647442069 ∷ 3039037650 ∷ 2147483649 ∷ 0 ∷ []))) ∷
    (AnArray (rw U8 (241 ∷ 7 ∷ 6 ∷ 8 ∷ 4 ∷ 8 ∷ 0 ∷ 0 ∷ 0 ∷ 145 ∷ 8 ∷ 16 ∷ 4 ∷ 1 ∷ 1 ∷ 0 ∷ 1 ∷ 6 ∷ []))) ∷
    (AnArray (rw I64 (18446744073709551612 ∷ 2 ∷ 17544287984356054847 ∷ 18446744073709551608 ∷ 18446744073709551613 ∷ 0 ∷ []))) ∷
    (AValue (record { elem = U32; bits = 3 })) ∷ [])

run_29_of_0 : run_of program_29 0 0 arguments_29
    ≡ Ends ((rw I32 (8 ∷ 2147483649 ∷ 9 ∷ 2 ∷ 4 ∷ 2147483646 ∷ 2147483648 ∷ 4294967292 ∷ 4294967289 ∷ 2147483649 ∷ 2147483648 ∷ 205810799 ∷ 2556770716
    ∷ 782209387 ∷ 2264741399 ∷ 3545225833 ∷ 647442069 ∷ 3039037650 ∷ 2147483649 ∷ 0 ∷ [])) ∷
    (rw U8 (0 ∷ 0 ∷ 0 ∷ 0 ∷ 0 ∷ 0 ∷ 0 ∷ 0 ∷ 0 ∷ 0 ∷ 0 ∷ 0 ∷ 0 ∷ 0 ∷ 0 ∷ 0 ∷ 1 ∷ 6 ∷ [])) ∷
    (rw I64 (18446744073709551612 ∷ 2 ∷ 17544287984356054847 ∷ 18446744073709551608 ∷ 18446744073709551613 ∷ 0 ∷ [])) ∷ []) None (122 ∷ 10 ∷ [])
unfolding digits number_to wrap_to amount not_zero
run_29_of_0 = refl

work_29_of_0 : work_of program_29 0 0 arguments_29 ≡ 20
unfolding digits number_to wrap_to amount not_zero
work_29_of_0 = refl

-- export void f(uniform signed int a[], uniform int16 o[], uniform unsigned int8 z[], uniform signed int n) { int x = 89l << n != o[programIndex] && n; ; ++n; n = n; o[programIndex] = x; }
abbrev program_35 : Program
program_35 = pr W4 ((fn None None ((vr (Given I32) false) ∷ (vr (Given I16) false) ∷ (vr (Given U8) false) ∷ (vr (AVariable (u I32)) false) ∷
    (vr (AVariable (v I32)) false) ∷ []) (t_braces (t_stmts
    ((t_declare ((t_with_value 4 (v I32) (t_convert I32
    (t_logic logic.And (t_compare cmp.NotEqual (t_binary op.Shl (cn I64 89 (s 116 119)) (t_convert I64 (t_place (t_variable 3 (u I32) (s 123 124))))
    (u I64) (s 116 124)) (t_convert I64 (t_place (t_element (ar 1 (u I16) false) (t_program_index (s 130 142)) (v I16) (s 128 143)))) Varying
    (s 116 143)) (t_convert Truth (t_place (t_variable 3 (u I32) (s 147 148)))) Varying (s 116 148))) (s 112 148)) ∷ []) (s 108 149)) ∷
    (t_block (t_braces (t_stmts ([])) (s 150 151))) ∷ (t_simple (t_step op.Add I32 (t_variable 3 (u I32) (s 154 155)) (s 152 155)) (s 152 156)) ∷
    (t_simple (t_assign (t_variable 3 (u I32) (s 157 158)) (t_place (t_variable 3 (u I32) (s 161 162))) (s 157 162)) (s 157 163)) ∷
    (t_simple (t_assign (t_element (ar 1 (u I16) false) (t_program_index (s 166 178)) (v I16) (s 164 179))
    (t_convert I16 (t_place (t_variable 4 (v I32) (s 182 183)))) (s 164 183)) (s 164 184)) ∷ [])) (s 106 186))) ∷ [])

abbrev arguments_35 : List Argument
arguments_35 = ((AnArray (rw I32 (2147483647 ∷ 2815554707 ∷ 9 ∷ 5 ∷ 4294967289 ∷ 9 ∷ 8 ∷ 4294967294 ∷ []))) ∷
    (AnArray (rw I16 (6 ∷ 32769 ∷ 62413 ∷ 1 ∷ 32768 ∷ 32766 ∷ 35218 ∷ []))) ∷ (AnArray (rw U8 (0 ∷ 3 ∷ 6 ∷ 2 ∷ 5 ∷ 10 ∷ []))) ∷
    (AValue (record { elem = I32; bits = 2147483648 })) ∷ [])

run_35_of_0 : run_of program_35 0 0 arguments_35 ≡ Ends ((rw I32 (2147483647 ∷ 2815554707 ∷ 9 ∷ 5 ∷ 4294967289 ∷ 9 ∷ 8 ∷ 4294967294 ∷ [])) ∷ (rw I16 (1 ∷ 1 ∷ 1 ∷ 1 ∷ 32768 ∷ 32766 ∷ 35218 ∷ [])) ∷ (rw U8 (0 ∷ 3 ∷ 6 ∷ 2 ∷ 5 ∷ 10 ∷ [])) ∷ []) None ([])
unfolding digits number_to wrap_to amount not_zero
run_35_of_0 = refl

work_35_of_0 : work_of program_35 0 0 arguments_35 ≡ 21
unfolding digits number_to wrap_to amount not_zero
work_35_of_0 = refl

-- export void f(uniform signed a[], uniform uint8 o[], uniform unsigned int8 z[]) { int x = z[0]; ++x; ; uniform int v1 = -(~(o[(select(z[0], a[1], 38ll)) & 3]) << o[(!(a[1])) & 3] ^ z[0]); a[programIndex] += x; }
abbrev program_45 : Program
program_45 = pr W4 ((fn None None ((vr (Given I32) false) ∷ (vr (Given U8) false) ∷ (vr (Given U8) false) ∷ (vr (AVariable (v I32)) false) ∷
    (vr (AVariable (u I32)) false) ∷ []) (t_braces (t_stmts
    ((t_declare ((t_with_value 3 (v I32) (t_convert I32 (t_place (t_element (ar 2 (u U8) false) (cn I32 0 (s 92 93)) (u U8) (s 90 94)))) (s 86 94)) ∷
    []) (s 82 95)) ∷ (t_simple (t_step op.Add I32 (t_variable 3 (v I32) (s 98 99)) (s 96 99)) (s 96 100)) ∷
    (t_block (t_braces (t_stmts ([])) (s 101 102))) ∷
    (t_declare ((t_with_value 4 (u I32) (t_convert I32
    (t_unary un.Negate (t_cast (t_binary op.Xor (t_binary op.Shl
    (t_unary un.Invert (t_cast (t_place (t_element (ar 1 (u U8) false)
    (t_binary op.And (t_cast (t_library lib.Select I64
    (t_exprs ((t_convert Truth (t_place (t_element (ar 2 (u U8) false) (cn I32 0 (s 136 137)) (u U8) (s 134 138)))) ∷
    (t_convert I64 (t_place (t_element (ar 0 (u I32) false) (cn I32 1 (s 142 143)) (u I32) (s 140 144)))) ∷ (cn I64 38 (s 146 150)) ∷ [])) (u I64)
    (s 127 151)) (u I64) (s 126 152)) (t_convert I64 (cn I32 3 (s 155 156))) (u I64) (s 126 156)) (u U8) (s 124 157))) (u U8) (s 123 158)) (u U8)
    (s 122 158)) (t_place (t_element (ar 1 (u U8) false)
    (t_binary op.And (t_convert I32 (t_cast (t_unary un.Not
    (t_convert Truth (t_cast (t_place (t_element (ar 0 (u I32) false) (cn I32 1 (s 169 170)) (u I32) (s 167 171))) (u I32) (s 166 172))) (u Truth)
    (s 165 172)) (u Truth) (s 164 173))) (cn I32 3 (s 176 177)) (u I32) (s 164 177)) (u U8) (s 162 178))) (u U8) (s 122 178))
    (t_place (t_element (ar 2 (u U8) false) (cn I32 0 (s 183 184)) (u U8) (s 181 185))) (u U8) (s 122 185)) (u U8) (s 121 186)) (u U8) (s 120 186)))
    (s 115 186)) ∷ []) (s 103 187)) ∷ (t_simple (t_update op.Add I32
    (t_element (ar 0 (u I32) false) (t_program_index (s 190 202)) (v I32) (s 188 203)) (t_place (t_variable 3 (v I32) (s 207 208))) (s 188 208))
    (s 188 209)) ∷ [])) (s 80 211))) ∷ [])

abbrev arguments_45 : List Argument
arguments_45 = ((AnArray (rw I32 (3728066927 ∷ 4 ∷ 3 ∷ 9 ∷ []))) ∷ (AnArray (rw U8 (0 ∷ 0 ∷ 3 ∷ 255 ∷ 3 ∷ []))) ∷ (AnArray (rw U8 (255 ∷ []))) ∷ [])

run_45_of_0 : run_of program_45 0 0 arguments_45 ≡ Ends ((rw I32 (3728067183 ∷ 260 ∷ 259 ∷ 265 ∷ [])) ∷ (rw U8 (0 ∷ 0 ∷ 3 ∷ 255 ∷ 3 ∷ [])) ∷ (rw U8 (255 ∷ [])) ∷ []) None ([])
unfolding digits number_to wrap_to amount not_zero
run_45_of_0 = refl

work_45_of_0 : work_of program_45 0 0 arguments_45 ≡ 40
unfolding digits number_to wrap_to amount not_zero
work_45_of_0 = refl

-- export void f(uniform int32 a[], uniform signed int64 o[], uniform unsigned int16 n) { int x = ((programIndex) ? (signed) n : n + 0b111LL); print("\n"); n &= - 6; o[programIndex] = x; }
abbrev program_59 : Program
program_59 = pr W16 ((fn None None ((vr (Given I32) false) ∷ (vr (Given I64) false) ∷ (vr (AVariable (u U16)) false) ∷ (vr (AVariable (v I32)) false)
    ∷ []) (t_braces (t_stmts ((t_declare ((t_with_value 3 (v I32)
    (t_convert I32 (t_cast (t_choose (t_convert Truth (t_cast (t_program_index (s 97 109)) (v I32) (s 96 110)))
    (t_convert I64 (t_cast (t_convert I32 (t_place (t_variable 2 (u U16) (s 122 123)))) (u I32) (s 113 123)))
    (t_binary op.Add (t_convert I64 (t_place (t_variable 2 (u U16) (s 126 127)))) (cn I64 7 (s 130 137)) (u I64) (s 126 137)) (v I64) (s 96 137))
    (v I64) (s 95 138))) (s 91 138)) ∷ []) (s 87 139)) ∷ (t_print (s 140 145) (10 ∷ []) ([]) (s 140 152)) ∷
    (t_simple (t_update op.And I32 (t_variable 2 (u U16) (s 153 154)) (t_unary un.Negate (cn I32 6 (s 160 161)) (u I32) (s 158 161)) (s 153 161))
    (s 153 162)) ∷ (t_simple (t_assign (t_element (ar 1 (u I64) false) (t_program_index (s 165 177)) (v I64) (s 163 178))
    (t_convert I64 (t_place (t_variable 3 (v I32) (s 181 182)))) (s 163 182)) (s 163 183)) ∷ [])) (s 85 185))) ∷ [])

abbrev arguments_59 : List Argument
arguments_59 = ((AnArray (rw I32 (2147483648 ∷ 4294967287 ∷ 4294967288 ∷ 0 ∷ 9 ∷ 2147483647 ∷ 4294967294 ∷ 4294967291 ∷ 1526348705 ∷ 2147483648 ∷ 8 ∷
    0 ∷ 4294967288 ∷ 9 ∷ 7 ∷ 4294967289 ∷ []))) ∷ (AnArray
    (rw I64 (18446744073709551613 ∷ 2 ∷ 9223372036854775808 ∷ 9223372036854775809 ∷ 10088296264678778310 ∷ 7 ∷ 18446744073709551610 ∷ 1 ∷
    18446744073709551612 ∷ 6 ∷ 9223372036854775806 ∷ 9223372036854775808 ∷ 4 ∷ 9223372036854775806 ∷ 8400514494287555997 ∷ 18446744073709551613 ∷ 4 ∷
    5 ∷ []))) ∷ (AValue (record { elem = U16; bits = 4 })) ∷ [])

run_59_of_0 : run_of program_59 0 0 arguments_59
    ≡ Ends ((rw I32 (2147483648 ∷ 4294967287 ∷ 4294967288 ∷ 0 ∷ 9 ∷ 2147483647 ∷ 4294967294 ∷ 4294967291 ∷ 1526348705 ∷ 2147483648 ∷ 8 ∷ 0 ∷
    4294967288 ∷ 9 ∷ 7 ∷ 4294967289 ∷ [])) ∷ (rw I64 (11 ∷ 4 ∷ 4 ∷ 4 ∷ 4 ∷ 4 ∷ 4 ∷ 4 ∷ 4 ∷ 4 ∷ 4 ∷ 4 ∷ 4 ∷ 4 ∷ 4 ∷ 4 ∷ 4 ∷ 5 ∷ [])) ∷ []) None
    (10 ∷ [])
unfolding digits number_to wrap_to amount not_zero
run_59_of_0 = refl

work_59_of_0 : work_of program_59 0 0 arguments_59 ≡ 21
unfolding digits number_to wrap_to amount not_zero
work_59_of_0 = refl

-- export void f(uniform int a[], uniform int32 o[], uniform int8 z[], uniform bool n) { int x = (9 || n) % (((n * z[(programIndex ^ (n)) & 3] | 1)) | 1); if ((n)) return; x--; a[programIndex] += x; }
abbrev program_62 : Program
program_62 = pr W16 ((fn None None ((vr (Given I32) false) ∷ (vr (Given I32) false) ∷ (vr (Given I8) false) ∷ (vr (AVariable (u Truth)) false) ∷
    (vr (AVariable (v I32)) false) ∷ []) (t_braces (t_stmts
    ((t_declare ((t_with_value 4 (v I32) (t_binary op.Rem
    (t_convert I32 (t_cast (t_logic logic.Or (t_convert Truth (cn I32 9 (s 95 96))) (t_place (t_variable 3 (u Truth) (s 100 101))) Uniform (s 95 101))
    (u Truth) (s 94 102))) (t_cast (t_binary op.Or (t_cast
    (t_cast (t_binary op.Or (t_binary op.Mul (t_convert I32 (t_place (t_variable 3 (u Truth) (s 108 109))))
    (t_convert I32 (t_place (t_element (ar 2 (u I8) false)
    (t_binary op.And (t_cast (t_binary op.Xor (t_program_index (s 115 127))
    (t_convert I32 (t_cast (t_place (t_variable 3 (u Truth) (s 131 132))) (u Truth) (s 130 133))) (v I32) (s 115 133)) (v I32) (s 114 134))
    (cn I32 3 (s 137 138)) (v I32) (s 114 138)) (v I8) (s 112 139)))) (v I32) (s 108 139)) (cn I32 1 (s 142 143)) (v I32) (s 108 143)) (v I32)
    (s 107 144)) (v I32) (s 106 145)) (cn I32 1 (s 148 149)) (v I32) (s 106 149)) (v I32) (s 105 150)) (v I32) (s 94 150)) (s 90 150)) ∷ [])
    (s 86 151)) ∷ (t_if Plain 5 (t_cast (t_place (t_variable 3 (u Truth) (s 157 158))) (u Truth) (s 156 159)) (t_return (s 161 167) None (s 161 168))
    (s 152 168)) ∷ (t_simple (t_step op.Sub I32 (t_variable 4 (v I32) (s 169 170)) (s 169 172)) (s 169 173)) ∷
    (t_simple (t_update op.Add I32 (t_element (ar 0 (u I32) false) (t_program_index (s 176 188)) (v I32) (s 174 189))
    (t_place (t_variable 4 (v I32) (s 193 194))) (s 174 194)) (s 174 195)) ∷ [])) (s 84 197))) ∷ [])

abbrev arguments_62 : List Argument
arguments_62 = ((AnArray (rw I32 (4294967292 ∷ 6 ∷ 4294967287 ∷ 4294967294 ∷ 2147483649 ∷ 1581148783 ∷ 4294967288 ∷ 4294967295 ∷ 2147483647 ∷
    2147483647 ∷ 4 ∷ 4294967290 ∷ 3166112363 ∷ 0 ∷ 2147483649 ∷ 0 ∷ 4080140371 ∷ 2147483648 ∷ []))) ∷
    (AnArray (rw I32 (4294967287 ∷ 1 ∷ 735189092 ∷ 6 ∷ 3080587179 ∷ 2147483646 ∷ 1512666970 ∷ 230057434 ∷ 2 ∷ 4294967292 ∷ 2147483647 ∷ 4294967290 ∷ 7
    ∷ 3193786269 ∷ 4294967292 ∷ 2147483646 ∷ []))) ∷ (AnArray (rw I8 (126 ∷ 240 ∷ 7 ∷ 126 ∷ 147 ∷ []))) ∷ (AValue (record { elem = Truth; bits = 1 }))
    ∷ [])

run_62_of_0 : run_of program_62 0 0 arguments_62
    ≡ Ends ((rw I32 (4294967292 ∷ 6 ∷ 4294967287 ∷ 4294967294 ∷ 2147483649 ∷ 1581148783 ∷ 4294967288 ∷ 4294967295 ∷ 2147483647 ∷ 2147483647 ∷ 4 ∷
    4294967290 ∷ 3166112363 ∷ 0 ∷ 2147483649 ∷ 0 ∷ 4080140371 ∷ 2147483648 ∷ [])) ∷
    (rw I32 (4294967287 ∷ 1 ∷ 735189092 ∷ 6 ∷ 3080587179 ∷ 2147483646 ∷ 1512666970 ∷ 230057434 ∷ 2 ∷ 4294967292 ∷ 2147483647 ∷ 4294967290 ∷ 7 ∷
    3193786269 ∷ 4294967292 ∷ 2147483646 ∷ [])) ∷ (rw I8 (126 ∷ 240 ∷ 7 ∷ 126 ∷ 147 ∷ [])) ∷ []) None ([])
unfolding digits number_to wrap_to amount not_zero
run_62_of_0 = refl

work_62_of_0 : work_of program_62 0 0 arguments_62 ≡ 28
unfolding digits number_to wrap_to amount not_zero
work_62_of_0 = refl

-- export void f(uniform signed int a[], uniform unsigned int64 o[]) { int x = o[programIndex] <= programIndex - 8; print("é%é%\n%\n", 0x531a9258,
-- 0x6u, x || x << x); uniform int v1; print("=%\\%", programIndex, v1 && 1 + - 0); print("z\n"); a[programIndex] += x; }
abbrev program_65 : Program
program_65 = pr W16 ((fn None None ((vr (Given I32) false) ∷ (vr (Given U64) false) ∷ (vr (AVariable (v I32)) false) ∷ (vr (AVariable (u I32)) false)
    ∷ []) (t_braces (t_stmts ((t_declare ((t_with_value 2 (v I32)
    (t_convert I32 (t_compare cmp.LessOrEqual (t_place (t_element (ar 1 (u U64) false) (t_program_index (s 78 90)) (v U64) (s 76 91)))
    (t_convert U64 (t_binary op.Sub (t_program_index (s 95 107)) (cn I32 8 (s 110 111)) (v I32) (s 95 111))) Varying (s 76 111))) (s 72 111)) ∷ [])
    (s 68 112)) ∷ (t_print (s 113 118) (195 ∷ 169 ∷ 37 ∷ 195 ∷ 169 ∷ 37 ∷ 10 ∷ 37 ∷ 10 ∷ [])
    ((cn I32 1394250328 (s 134 144)) ∷ (cn U32 6 (s 146 150)) ∷
    (t_logic logic.Or (t_convert Truth (t_place (t_variable 2 (v I32) (s 152 153))))
    (t_convert Truth (t_binary op.Shl (t_place (t_variable 2 (v I32) (s 157 158))) (t_place (t_variable 2 (v I32) (s 162 163))) (v I32) (s 157 163)))
    Varying (s 152 163)) ∷ []) (s 113 165)) ∷ (t_declare ((t_plain 3 (u I32) (s 178 180)) ∷ []) (s 166 181)) ∷
    (t_print (s 182 187) (61 ∷ 37 ∷ 92 ∷ 37 ∷ []) ((t_program_index (s 197 209)) ∷
    (t_logic logic.And (t_convert Truth (t_place (t_variable 3 (u I32) (s 211 213))))
    (t_convert Truth (t_binary op.Add (cn I32 1 (s 217 218)) (t_unary un.Negate (cn I32 0 (s 223 224)) (u I32) (s 221 224)) (u I32) (s 217 224)))
    Uniform (s 211 224)) ∷ []) (s 182 226)) ∷ (t_print (s 227 232) (122 ∷ 10 ∷ []) ([]) (s 227 240)) ∷
    (t_simple (t_update op.Add I32 (t_element (ar 0 (u I32) false) (t_program_index (s 243 255)) (v I32) (s 241 256))
    (t_place (t_variable 2 (v I32) (s 260 261))) (s 241 261)) (s 241 262)) ∷ [])) (s 66 264))) ∷ [])

abbrev arguments_65 : List Argument
arguments_65 = ((AnArray (rw I32 (4294967290 ∷ 2147483647 ∷ 4122239582 ∷ 330441885 ∷ 2147483648 ∷ 4294967293 ∷ 6 ∷ 3 ∷ 6 ∷ 958877416 ∷ 4 ∷ 4294967289
    ∷ 4294967292 ∷ 9 ∷ 663172779 ∷ 5 ∷ []))) ∷ (AnArray
    (rw U64 (8 ∷ 0 ∷ 0 ∷ 6 ∷ 3479434280904785972 ∷ 2 ∷ 9 ∷ 0 ∷ 0 ∷ 5967744318756176711 ∷ 0 ∷ 6 ∷ 12870306893413172264 ∷ 4 ∷ 6 ∷ 18446744073709551614 ∷
    18446744073709551615 ∷ []))) ∷ [])

run_65_of_0 : run_of program_65 0 0 arguments_65
    ≡ Ends ((rw I32 (4294967291 ∷ 2147483648 ∷ 4122239583 ∷ 330441886 ∷ 2147483649 ∷ 4294967294 ∷ 7 ∷ 4 ∷ 7 ∷ 958877416 ∷ 5 ∷ 4294967289 ∷ 4294967292
    ∷ 10 ∷ 663172780 ∷ 5 ∷ [])) ∷ (rw U64 (8 ∷ 0 ∷ 0 ∷ 6 ∷ 3479434280904785972 ∷ 2 ∷ 9 ∷ 0 ∷ 0 ∷ 5967744318756176711 ∷ 0 ∷ 6 ∷ 12870306893413172264 ∷
    4 ∷ 6 ∷ 18446744073709551614 ∷ 18446744073709551615 ∷ [])) ∷ []) None
    (195 ∷ 169 ∷ 49 ∷ 51 ∷ 57 ∷ 52 ∷ 50 ∷ 53 ∷ 48 ∷ 51 ∷ 50 ∷ 56 ∷ 195 ∷ 169 ∷ 54 ∷ 10 ∷ 91 ∷ 116 ∷ 114 ∷ 117 ∷ 101 ∷ 44 ∷ 116 ∷ 114 ∷ 117 ∷ 101 ∷ 44
    ∷ 116 ∷ 114 ∷ 117 ∷ 101 ∷ 44 ∷ 116 ∷ 114 ∷ 117 ∷ 101 ∷ 44 ∷ 116 ∷ 114 ∷ 117 ∷ 101 ∷ 44 ∷ 116 ∷ 114 ∷ 117 ∷ 101 ∷ 44 ∷ 116 ∷ 114 ∷ 117 ∷ 101 ∷ 44 ∷
    116 ∷ 114 ∷ 117 ∷ 101 ∷ 44 ∷ 116 ∷ 114 ∷ 117 ∷ 101 ∷ 44 ∷ 102 ∷ 97 ∷ 108 ∷ 115 ∷ 101 ∷ 44 ∷ 116 ∷ 114 ∷ 117 ∷ 101 ∷ 44 ∷ 102 ∷ 97 ∷ 108 ∷ 115 ∷
    101 ∷ 44 ∷ 102 ∷ 97 ∷ 108 ∷ 115 ∷ 101 ∷ 44 ∷ 116 ∷ 114 ∷ 117 ∷ 101 ∷ 44 ∷ 116 ∷ 114 ∷ 117 ∷ 101 ∷ 44 ∷ 102 ∷ 97 ∷ 108 ∷ 115 ∷ 101 ∷ 93 ∷ 10 ∷ 61 ∷
    91 ∷ 48 ∷ 44 ∷ 49 ∷ 44 ∷ 50 ∷ 44 ∷ 51 ∷ 44 ∷ 52 ∷ 44 ∷ 53 ∷ 44 ∷ 54 ∷ 44 ∷ 55 ∷ 44 ∷ 56 ∷ 44 ∷ 57 ∷ 44 ∷ 49 ∷ 48 ∷ 44 ∷ 49 ∷ 49 ∷ 44 ∷ 49 ∷ 50 ∷
    44 ∷ 49 ∷ 51 ∷ 44 ∷ 49 ∷ 52 ∷ 44 ∷ 49 ∷ 53 ∷ 93 ∷ 92 ∷ 102 ∷ 97 ∷ 108 ∷ 115 ∷ 101 ∷ 122 ∷ 10 ∷ [])
unfolding digits number_to wrap_to amount not_zero
run_65_of_0 = refl

work_65_of_0 : work_of program_65 0 0 arguments_65 ≡ 28
unfolding digits number_to wrap_to amount not_zero
work_65_of_0 = refl
