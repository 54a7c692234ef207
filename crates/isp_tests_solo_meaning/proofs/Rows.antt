-- Typed programs that an independent implementation ran instance by instance: what each leaves alone, what it reads, and what all leave one by
-- one and as a gang. The typed trees are those of the sources above them; numbers are bits.
use Rattle.std.specs.Prelude.{◌≡◌, true, false, List, [], ◌∷◌, Some, None}
use Rattle.std.proofs.Common.{refl}
use Rattle.std.specs.Fmt.{digits}
use Rattle.isp_base.specs.Values.{number_to, wrap_to, amount, not_zero}
use Rattle.isp_base.specs.Outcomes.{Ends, Traps, GoesOn}
use Rattle.isp_base.specs.Traps.{trap}
use Rattle.isp_base.specs.declared.types.Gang.TheVariants.{W4, W8, W16}
use Rattle.isp_base.specs.declared.types.Elem.TheVariants.{Bool as Truth, I8, U8, U16, I32, U32, I64, U64}
use Rattle.isp_base.specs.declared.types.Rate.TheVariants.{Uniform, Varying}
use Rattle.isp_base.specs.declared.trap.TrapKind.TheVariants as kind
use Rattle.isp_base.specs.declared.operators.BinOp.TheVariants as op
use Rattle.isp_base.specs.declared.operators.UnaryOp.TheVariants as un
use Rattle.isp_base.specs.declared.operators.Compare.TheVariants as cmp
use Rattle.isp_base.specs.declared.signature.Argument.{Argument}
use Rattle.isp_base.specs.declared.signature.Argument.TheVariants.{Array as AnArray, Value as AValue}
use Rattle.isp_tree.specs.declared.stmt.Form.TheVariants.{Plain}
use Rattle.isp_tree.specs.declared.stmt.Jump.TheVariants.{Break, Continue}
use Rattle.isp_typed.specs.declared.library.Library.TheVariants as lib
use Rattle.isp_typed.specs.declared.variable.Holds.TheVariants.{Value as AVariable, Given}
use Rattle.isp_typed.specs.declared.variable.Logic.TheVariants as logic
use Rattle.isp_typed.specs.Typed.{t_program_index, t_place, t_convert, t_cast, t_unary, t_binary, t_compare, t_logic, t_choose, t_call, t_library, t_variable, t_element, t_by_value, t_by_name, t_called, t_arguments, t_exprs}
use Rattle.isp_typed.specs.Typed.{t_plain, t_with_value, t_value, t_assign, t_update, t_step}
use Rattle.isp_typed.specs.Typed.{t_block, t_declare, t_simple, t_if, t_for, t_foreach, t_jump, t_return, t_braces, t_stmts, Program}
use Rattle.isp_meaning.specs.Runs.{run_of}
use native.Mathlib.Omega.{arith}
use Rattle.isp_independence.specs.Independent.{IsIndependent}
use Rattle.isp_independence.proofs.Single.{independent_alone}
use Rattle.isp_tests_meaning.specs.Terms.{s, u, v, cn, ar, rg, vr, rw, fn, pr}
use Rattle.isp_tests_solo_meaning.specs.Words.{outcome_alone, read_flags, arrays_behind}

-- export void f(uniform signed int a[], uniform unsigned int8 o[], uniform bool z[]) { int x = -(o[programIndex] * z[(programIndex ^ (z[(programIndex
-- ^ (! o[programIndex])) & 3])) & 3]); foreach_tiled (i1 = 0 ... 4, i2 = 0 ... 2) { varying signed v3 = (z[(programIndex ^ (i1)) & 3]);
-- a[programIndex]; } signed int64 v4 = x * x, v5; ; x |= programIndex; a[programIndex] += x; }
abbrev rounds : Program
rounds = pr W8 ((fn None None ((vr (Given I32) false) ∷ (vr (Given U8) false) ∷ (vr (Given Truth) false) ∷ (vr (AVariable (v I32)) false) ∷
    (vr (AVariable (v I32)) true) ∷ (vr (AVariable (v I32)) true) ∷ (vr (AVariable (v I32)) false) ∷ (vr (AVariable (v I64)) false) ∷
    (vr (AVariable (v I64)) false) ∷ []) (t_braces (t_stmts
    ((t_declare ((t_with_value 3 (v I32) (t_unary un.Negate
    (t_cast (t_binary op.Mul (t_convert I32 (t_place (t_element (ar 1 (u U8) false) (t_program_index (s 97 109)) (v U8) (s 95 110))))
    (t_convert I32 (t_place (t_element (ar 2 (u Truth) false)
    (t_binary op.And (t_cast (t_binary op.Xor (t_program_index (s 116 128))
    (t_convert I32 (t_cast (t_place (t_element (ar 2 (u Truth) false)
    (t_binary op.And (t_cast (t_binary op.Xor (t_program_index (s 135 147))
    (t_convert I32 (t_cast (t_unary un.Not (t_convert Truth
    (t_place (t_element (ar 1 (u U8) false) (t_program_index (s 155 167)) (v U8) (s 153 168)))) (v Truth) (s 151 168)) (v Truth) (s 150 169))) (v I32)
    (s 135 169)) (v I32) (s 134 170)) (cn I32 3 (s 173 174)) (v I32) (s 134 174)) (v Truth) (s 132 175))) (v Truth) (s 131 176))) (v I32) (s 116 176))
    (v I32) (s 115 177)) (cn I32 3 (s 180 181)) (v I32) (s 115 181)) (v Truth) (s 113 182)))) (v I32) (s 95 182)) (v I32) (s 94 183)) (v I32)
    (s 93 183)) (s 89 183)) ∷ []) (s 85 184)) ∷ (t_foreach (s 185 198) 4
    ((rg 4 (cn I32 0 (s 205 206)) (cn I32 4 (s 211 212)) (s 200 212)) ∷ (rg 5 (cn I32 0 (s 219 220)) (cn I32 2 (s 225 226)) (s 214 226)) ∷ [])
    (t_block (t_braces (t_stmts ((t_declare ((t_with_value 6 (v I32)
    (t_convert I32 (t_cast (t_place (t_element (ar 2 (u Truth) false)
    (t_binary op.And (t_cast (t_binary op.Xor (t_program_index (s 254 266)) (t_cast (t_place (t_variable 4 (v I32) (s 270 272))) (v I32) (s 269 273))
    (v I32) (s 254 273)) (v I32) (s 253 274)) (cn I32 3 (s 277 278)) (v I32) (s 253 278)) (v Truth) (s 251 279))) (v Truth) (s 250 280))) (s 245 280))
    ∷ []) (s 230 281)) ∷ (t_simple (t_value (t_place (t_element (ar 0 (u I32) false) (t_program_index (s 284 296)) (v I32) (s 282 297)))) (s 282 298))
    ∷ [])) (s 228 300))) (s 185 300)) ∷ (t_declare ((t_with_value 7 (v I64)
    (t_convert I64 (t_binary op.Mul (t_place (t_variable 3 (v I32) (s 319 320))) (t_place (t_variable 3 (v I32) (s 323 324))) (v I32) (s 319 324)))
    (s 314 324)) ∷ (t_plain 8 (v I64) (s 326 328)) ∷ []) (s 301 329)) ∷ (t_block (t_braces (t_stmts ([])) (s 330 331))) ∷
    (t_simple (t_update op.Or I32 (t_variable 3 (v I32) (s 332 333)) (t_program_index (s 337 349)) (s 332 349)) (s 332 350)) ∷
    (t_simple (t_update op.Add I32 (t_element (ar 0 (u I32) false) (t_program_index (s 353 365)) (v I32) (s 351 366))
    (t_place (t_variable 3 (v I32) (s 370 371))) (s 351 371)) (s 351 372)) ∷ [])) (s 83 374))) ∷ [])

abbrev rounds_given : List Argument
rounds_given = ((AnArray (rw I32 (3450290886 ∷ 4294967294 ∷ 2147483649 ∷ 2147483646 ∷ 4 ∷ 5 ∷ 4294967293 ∷ 2147483649 ∷ []))) ∷ (AnArray (rw U8 (22 ∷ 0 ∷ 0 ∷ 8 ∷ 2 ∷ 48 ∷ 5 ∷ 254 ∷ 2 ∷ []))) ∷ (AnArray (rw Truth (1 ∷ 0 ∷ 1 ∷ 0 ∷ 0 ∷ 0 ∷ []))) ∷ [])

rounds_independent : IsIndependent rounds 0
rounds_independent = independent_alone W8 _ refl (λ d h. grind (arith, h))

-- instance 2 alone; it reads z[2] and z[3]
rounds_of_2 : outcome_alone rounds 0 0 rounds_given 2
    ≡ Ends ((rw I32 (3450290886 ∷ 4294967294 ∷ 2147483651 ∷ 2147483646 ∷ 4 ∷ 5 ∷ 4294967293 ∷ 2147483649 ∷ [])) ∷
    (rw U8 (22 ∷ 0 ∷ 0 ∷ 8 ∷ 2 ∷ 48 ∷ 5 ∷ 254 ∷ 2 ∷ [])) ∷ (rw Truth (1 ∷ 0 ∷ 1 ∷ 0 ∷ 0 ∷ 0 ∷ [])) ∷ []) None []
unfolding digits number_to wrap_to amount not_zero
rounds_of_2 = refl

rounds_read_by_2 : read_flags rounds 0 0 rounds_given 2 2 6 ≡ false ∷ false ∷ true ∷ true ∷ false ∷ false ∷ []
unfolding digits number_to wrap_to amount not_zero
rounds_read_by_2 = refl

-- all, in two orders, and the gang
rounds_upward : arrays_behind rounds 0 0 rounds_given (0 ∷ 1 ∷ 2 ∷ 3 ∷ 4 ∷ 5 ∷ 6 ∷ 7 ∷ [])
    ≡ (rw I32 (3450290886 ∷ 4294967295 ∷ 2147483651 ∷ 2147483649 ∷ 8 ∷ 10 ∷ 3 ∷ 2147483656 ∷ [])) ∷
    (rw U8 (22 ∷ 0 ∷ 0 ∷ 8 ∷ 2 ∷ 48 ∷ 5 ∷ 254 ∷ 2 ∷ [])) ∷ (rw Truth (1 ∷ 0 ∷ 1 ∷ 0 ∷ 0 ∷ 0 ∷ [])) ∷ []
unfolding digits number_to wrap_to amount not_zero
rounds_upward = refl

rounds_mixed : arrays_behind rounds 0 0 rounds_given (5 ∷ 0 ∷ 7 ∷ 2 ∷ 6 ∷ 1 ∷ 4 ∷ 3 ∷ [])
    ≡ (rw I32 (3450290886 ∷ 4294967295 ∷ 2147483651 ∷ 2147483649 ∷ 8 ∷ 10 ∷ 3 ∷ 2147483656 ∷ [])) ∷
    (rw U8 (22 ∷ 0 ∷ 0 ∷ 8 ∷ 2 ∷ 48 ∷ 5 ∷ 254 ∷ 2 ∷ [])) ∷ (rw Truth (1 ∷ 0 ∷ 1 ∷ 0 ∷ 0 ∷ 0 ∷ [])) ∷ []
unfolding digits number_to wrap_to amount not_zero
rounds_mixed = refl

rounds_of_gang : run_of rounds 0 0 rounds_given ≡ Ends
    ((rw I32 (3450290886 ∷ 4294967295 ∷ 2147483651 ∷ 2147483649 ∷ 8 ∷ 10 ∷ 3 ∷ 2147483656 ∷ [])) ∷
    (rw U8 (22 ∷ 0 ∷ 0 ∷ 8 ∷ 2 ∷ 48 ∷ 5 ∷ 254 ∷ 2 ∷ [])) ∷ (rw Truth (1 ∷ 0 ∷ 1 ∷ 0 ∷ 0 ∷ 0 ∷ [])) ∷ []) None []
unfolding digits number_to wrap_to amount not_zero
rounds_of_gang = refl

-- export void f(uniform int a[], uniform int8 o[], uniform int n) { int x = n; { int k1 = 0; for (;;) { if (k1 > 1) break; k1 += programIndex + 1;  x = ! ((x ? n : 32767)) % (programIndex | 1); } } n = ! (0b11110u) | 128; o[programIndex] = x; }
abbrev breaks : Program
breaks = pr W16 ((fn None None ((vr (Given I32) false) ∷ (vr (Given I8) false) ∷ (vr (AVariable (u I32)) false) ∷ (vr (AVariable (v I32)) false) ∷
    (vr (AVariable (v I32)) false) ∷ []) (t_braces (t_stmts
    ((t_declare ((t_with_value 3 (v I32) (t_place (t_variable 2 (u I32) (s 74 75))) (s 70 75)) ∷ []) (s 66 76)) ∷
    (t_block (t_braces (t_stmts ((t_declare ((t_with_value 4 (v I32) (cn I32 0 (s 88 89)) (s 83 89)) ∷ []) (s 79 90)) ∷
    (t_for Plain 5 None None None 5 (t_block (t_braces
    (t_stmts ((t_if Plain 5 (t_compare cmp.Greater (t_place (t_variable 4 (v I32) (s 106 108))) (cn I32 1 (s 111 112)) Varying (s 106 112))
    (t_jump Break (s 114 119) (s 114 120)) (s 102 120)) ∷
    (t_simple (t_update op.Add I32 (t_variable 4 (v I32) (s 121 123))
    (t_binary op.Add (t_program_index (s 127 139)) (cn I32 1 (s 142 143)) (v I32) (s 127 143)) (s 121 143)) (s 121 144)) ∷
    (t_simple (t_assign (t_variable 3 (v I32) (s 146 147))
    (t_binary op.Rem (t_convert I32 (t_unary un.Not (t_convert Truth
    (t_cast (t_cast (t_choose (t_convert Truth (t_place (t_variable 3 (v I32) (s 154 155)))) (t_place (t_variable 2 (u I32) (s 158 159)))
    (cn I32 32767 (s 162 167)) (v I32) (s 154 167)) (v I32) (s 153 168)) (v I32) (s 152 169))) (v Truth) (s 150 169)))
    (t_cast (t_binary op.Or (t_program_index (s 173 185)) (cn I32 1 (s 188 189)) (v I32) (s 173 189)) (v I32) (s 172 190)) (v I32) (s 150 190))
    (s 146 190)) (s 146 191)) ∷ [])) (s 100 193))) (s 91 193)) ∷ [])) (s 77 195))) ∷
    (t_simple (t_assign (t_variable 2 (u I32) (s 196 197))
    (t_binary op.Or (t_convert I32 (t_unary un.Not (t_convert Truth (t_cast (cn U32 30 (s 203 211)) (u U32) (s 202 212))) (u Truth) (s 200 212)))
    (cn I32 128 (s 215 218)) (u I32) (s 200 218)) (s 196 218)) (s 196 219)) ∷
    (t_simple (t_assign (t_element (ar 1 (u I8) false) (t_program_index (s 222 234)) (v I8) (s 220 235))
    (t_convert I8 (t_place (t_variable 3 (v I32) (s 238 239)))) (s 220 239)) (s 220 240)) ∷ [])) (s 64 242))) ∷ [])

abbrev breaks_given : List Argument
breaks_given = ((AnArray (rw I32 (4294967290 ∷ 2147483646 ∷ 2147483646 ∷ 4294967293 ∷ 4294967287 ∷ 1 ∷ 6 ∷ 3898223027 ∷ 2147483648 ∷ 9 ∷ 4294967293 ∷
    2147483648 ∷ 4294967292 ∷ 2147483648 ∷ 2147483649 ∷ 0 ∷ 4294967290 ∷ 9 ∷ 2147483649 ∷ 2147483648 ∷ []))) ∷
    (AnArray (rw I8 (59 ∷ 129 ∷ 28 ∷ 2 ∷ 8 ∷ 48 ∷ 233 ∷ 126 ∷ 253 ∷ 254 ∷ 209 ∷ 2 ∷ 254 ∷ 254 ∷ 0 ∷ 5 ∷ []))) ∷
    (AValue (record { elem = I32; bits = 2147483647 })) ∷ [])

breaks_independent : IsIndependent breaks 0
breaks_independent = independent_alone W16 _ refl (λ d h. grind (arith, h))

-- with two turns instance 0 is cut, as it makes one turn more than the others
breaks_of_0 : outcome_alone breaks 0 2 breaks_given 0 ≡ GoesOn []
unfolding digits number_to wrap_to amount not_zero
breaks_of_0 = refl

breaks_of_1 : outcome_alone breaks 0 2 breaks_given 1
    ≡ Ends ((rw I32 (4294967290 ∷ 2147483646 ∷ 2147483646 ∷ 4294967293 ∷ 4294967287 ∷ 1 ∷ 6 ∷ 3898223027 ∷ 2147483648 ∷ 9 ∷ 4294967293 ∷ 2147483648 ∷
    4294967292 ∷ 2147483648 ∷ 2147483649 ∷ 0 ∷ 4294967290 ∷ 9 ∷ 2147483649 ∷ 2147483648 ∷ [])) ∷
    (rw I8 (59 ∷ 0 ∷ 28 ∷ 2 ∷ 8 ∷ 48 ∷ 233 ∷ 126 ∷ 253 ∷ 254 ∷ 209 ∷ 2 ∷ 254 ∷ 254 ∷ 0 ∷ 5 ∷ [])) ∷ []) None []
unfolding digits number_to wrap_to amount not_zero
breaks_of_1 = refl

-- with three all end
breaks_together : arrays_behind breaks 0 3 breaks_given (0 ∷ 1 ∷ 2 ∷ 3 ∷ 4 ∷ 5 ∷ 6 ∷ 7 ∷ 8 ∷ 9 ∷ 10 ∷ 11 ∷ 12 ∷ 13 ∷ 14 ∷ 15 ∷ [])
    ≡ (rw I32 (4294967290 ∷ 2147483646 ∷ 2147483646 ∷ 4294967293 ∷ 4294967287 ∷ 1 ∷ 6 ∷ 3898223027 ∷ 2147483648 ∷ 9 ∷ 4294967293 ∷ 2147483648 ∷
    4294967292 ∷ 2147483648 ∷ 2147483649 ∷ 0 ∷ 4294967290 ∷ 9 ∷ 2147483649 ∷ 2147483648 ∷ [])) ∷
    (rw I8 (0 ∷ 0 ∷ 0 ∷ 0 ∷ 0 ∷ 0 ∷ 0 ∷ 0 ∷ 0 ∷ 0 ∷ 0 ∷ 0 ∷ 0 ∷ 0 ∷ 0 ∷ 0 ∷ [])) ∷ []
unfolding digits number_to wrap_to amount not_zero
breaks_together = refl

breaks_of_gang : run_of breaks 0 3 breaks_given ≡ Ends
    ((rw I32 (4294967290 ∷ 2147483646 ∷ 2147483646 ∷ 4294967293 ∷ 4294967287 ∷ 1 ∷ 6 ∷ 3898223027 ∷ 2147483648 ∷ 9 ∷ 4294967293 ∷ 2147483648 ∷
    4294967292 ∷ 2147483648 ∷ 2147483649 ∷ 0 ∷ 4294967290 ∷ 9 ∷ 2147483649 ∷ 2147483648 ∷ [])) ∷
    (rw I8 (0 ∷ 0 ∷ 0 ∷ 0 ∷ 0 ∷ 0 ∷ 0 ∷ 0 ∷ 0 ∷ 0 ∷ 0 ∷ 0 ∷ 0 ∷ 0 ∷ 0 ∷ 0 ∷ [])) ∷ []) None []
unfolding digits number_to wrap_to amount not_zero
breaks_of_gang = refl

-- signed int8 g0(signed int p1, uniform signed int p2) { --p1; --p2; foreach (i3 = 0 ... programCount + 1, i4 = 0 ... 1, i5 = 2 ... 3) { p1 *= ! (i3) <= i4; } return max(4 << programIndex, 32767); }
-- export void f(uniform int a[], uniform int8 o[], uniform int n) { int x = (!(n)) % (n ^ programIndex); (programIndex); n &= o[3]; o[programIndex] = x; }
abbrev traps : Program
traps = pr W4 ((fn (Some I8) (Some (v I8)) ((vr (AVariable (v I32)) false) ∷ (vr (AVariable (u I32)) false) ∷ (vr (AVariable (v I32)) true) ∷
    (vr (AVariable (v I32)) true) ∷ (vr (AVariable (v I32)) true) ∷ [])
    (t_braces (t_stmts ((t_simple (t_step op.Sub I32 (t_variable 0 (v I32) (s 57 59)) (s 55 59)) (s 55 60)) ∷
    (t_simple (t_step op.Sub I32 (t_variable 1 (u I32) (s 63 65)) (s 61 65)) (s 61 66)) ∷
    (t_foreach (s 67 74) 2 ((rg 2 (cn I32 0 (s 81 82)) (t_binary op.Add (cn I32 4 (s 87 99)) (cn I32 1 (s 102 103)) (u I32) (s 87 103)) (s 76 103)) ∷
    (rg 3 (cn I32 0 (s 110 111)) (cn I32 1 (s 116 117)) (s 105 117)) ∷ (rg 4 (cn I32 2 (s 124 125)) (cn I32 3 (s 130 131)) (s 119 131)) ∷ [])
    (t_block (t_braces (t_stmts ((t_simple (t_update op.Mul I32 (t_variable 0 (v I32) (s 135 137))
    (t_convert I32 (t_compare cmp.LessOrEqual (t_convert I32
    (t_unary un.Not (t_convert Truth (t_cast (t_place (t_variable 2 (v I32) (s 144 146))) (v I32) (s 143 147))) (v Truth) (s 141 147)))
    (t_place (t_variable 3 (v I32) (s 151 153))) Varying (s 141 153))) (s 135 153)) (s 135 154)) ∷ [])) (s 133 156))) (s 67 156)) ∷
    (t_return (s 157 163) (Some (t_convert I8 (t_library lib.Max I32
    (t_exprs ((t_binary op.Shl (cn I32 4 (s 168 169)) (t_program_index (s 173 185)) (v I32) (s 168 185)) ∷ (cn I32 32767 (s 187 192)) ∷ [])) (v I32)
    (s 164 193)))) (s 157 194)) ∷ [])) (s 53 196))) ∷
    (fn None None ((vr (Given I32) false) ∷ (vr (Given I8) false) ∷ (vr (AVariable (u I32)) false) ∷ (vr (AVariable (v I32)) false) ∷ [])
    (t_braces (t_stmts ((t_declare ((t_with_value 3 (v I32)
    (t_binary op.Rem (t_convert I32 (t_cast (t_unary un.Not
    (t_convert Truth (t_cast (t_place (t_variable 2 (u I32) (s 274 275))) (u I32) (s 273 276))) (u Truth) (s 272 276)) (u Truth) (s 271 277)))
    (t_cast (t_binary op.Xor (t_place (t_variable 2 (u I32) (s 281 282))) (t_program_index (s 285 297)) (v I32) (s 281 297)) (v I32) (s 280 298))
    (v I32) (s 271 298)) (s 267 298)) ∷ []) (s 263 299)) ∷ (t_simple (t_value (t_cast (t_program_index (s 301 313)) (v I32) (s 300 314))) (s 300 315))
    ∷ (t_simple (t_update op.And I32 (t_variable 2 (u I32) (s 316 317))
    (t_convert I32 (t_place (t_element (ar 1 (u I8) false) (cn I32 3 (s 323 324)) (u I8) (s 321 325)))) (s 316 325)) (s 316 326)) ∷
    (t_simple (t_assign (t_element (ar 1 (u I8) false) (t_program_index (s 329 341)) (v I8) (s 327 342))
    (t_convert I8 (t_place (t_variable 3 (v I32) (s 345 346)))) (s 327 346)) (s 327 347)) ∷ [])) (s 261 349))) ∷ [])

abbrev traps_given : List Argument
traps_given = ((AnArray (rw I32 (2147483646 ∷ 2147483646 ∷ 1 ∷ 5 ∷ 2147483649 ∷ 713983588 ∷ []))) ∷ (AnArray (rw I8 (254 ∷ 253 ∷ 63 ∷ 128 ∷ []))) ∷ (AValue (record { elem = I32; bits = 2 })) ∷ [])

-- n is 2: instance 2 divides by zero
traps_of_2 : outcome_alone traps 1 0 traps_given 2 ≡ Traps (trap kind.Divide (s 271 298) 2) ((rw I32 (2147483646 ∷ 2147483646 ∷ 1 ∷ 5 ∷ 2147483649 ∷ 713983588 ∷ [])) ∷ (rw I8 (254 ∷ 253 ∷ 63 ∷ 128 ∷ [])) ∷ []) []
unfolding digits number_to wrap_to amount not_zero
traps_of_2 = refl

traps_of_3 : outcome_alone traps 1 0 traps_given 3 ≡ Ends ((rw I32 (2147483646 ∷ 2147483646 ∷ 1 ∷ 5 ∷ 2147483649 ∷ 713983588 ∷ [])) ∷ (rw I8 (254 ∷ 253 ∷ 63 ∷ 0 ∷ [])) ∷ []) None []
unfolding digits number_to wrap_to amount not_zero
traps_of_3 = refl

-- uniform signed g0(signed p1, uniform uint16 p2, uniform int32 b3[]) { b3[(p1) & 3] += (18446744073709551615 ? b3[2] - b3[3] : p2 || 0b11100u) << (4) / (p2 | 1); ; return p2; }
-- void g1(varying int32 p4, int32 p5) { signed int v6 = (6) % ((((int) p5 <= 1 | 1)) | 1); }
-- export void f(uniform int32 a[], uniform int8 o[]) { int x = (varying signed int) a[4] + o[programIndex] * o[programIndex]; foreach_tiled (i7 = -1 ... 3) { if (g0(programCount, o[4], a)) continue; } ; o[programIndex] = x; }
abbrev calls : Program
calls = pr W4 ((fn (Some I32) (Some (u I32)) ((vr (AVariable (v I32)) false) ∷ (vr (AVariable (u U16)) false) ∷ (vr (Given I32) false) ∷ [])
    (t_braces (t_stmts ((t_simple (t_update op.Add I32
    (t_element (ar 2 (u I32) false) (t_binary op.And (t_cast (t_place (t_variable 0 (v I32) (s 74 76))) (v I32) (s 73 77)) (cn I32 3 (s 80 81))
    (v I32) (s 73 81)) (v I32) (s 70 82)) (t_binary op.Shl
    (t_cast (t_choose (t_convert Truth (cn U64 18446744073709551615 (s 87 107)))
    (t_binary op.Sub (t_place (t_element (ar 2 (u I32) false) (cn I32 2 (s 113 114)) (u I32) (s 110 115)))
    (t_place (t_element (ar 2 (u I32) false) (cn I32 3 (s 121 122)) (u I32) (s 118 123))) (u I32) (s 110 123))
    (t_convert I32 (t_logic logic.Or (t_convert Truth (t_place (t_variable 1 (u U16) (s 126 128)))) (t_convert Truth (cn U32 28 (s 132 140))) Uniform
    (s 126 140))) (u I32) (s 87 140)) (u I32) (s 86 141))
    (t_binary op.Div (t_cast (cn I32 4 (s 146 147)) (u I32) (s 145 148))
    (t_cast (t_binary op.Or (t_convert I32 (t_place (t_variable 1 (u U16) (s 152 154)))) (cn I32 1 (s 157 158)) (u I32) (s 152 158)) (u I32)
    (s 151 159)) (u I32) (s 145 159)) (u I32) (s 86 159)) (s 70 159)) (s 70 160)) ∷ (t_block (t_braces (t_stmts ([])) (s 161 162))) ∷
    (t_return (s 163 169) (Some (t_convert I32 (t_place (t_variable 1 (u U16) (s 170 172))))) (s 163 173)) ∷ [])) (s 68 175))) ∷
    (fn None None ((vr (AVariable (v I32)) false) ∷ (vr (AVariable (v I32)) false) ∷ (vr (AVariable (v I32)) false) ∷ [])
    (t_braces (t_stmts ((t_declare ((t_with_value 2 (v I32)
    (t_binary op.Rem (t_cast (cn I32 6 (s 231 232)) (u I32) (s 230 233))
    (t_cast (t_binary op.Or (t_cast (t_cast (t_binary op.Or
    (t_convert I32 (t_compare cmp.LessOrEqual (t_cast (t_place (t_variable 1 (v I32) (s 245 247))) (v I32) (s 239 247)) (cn I32 1 (s 251 252)) Varying
    (s 239 252))) (cn I32 1 (s 255 256)) (v I32) (s 239 256)) (v I32) (s 238 257)) (v I32) (s 237 258)) (cn I32 1 (s 261 262)) (v I32) (s 237 262))
    (v I32) (s 236 263)) (v I32) (s 230 263)) (s 225 263)) ∷ []) (s 214 264)) ∷ [])) (s 212 266))) ∷
    (fn None None ((vr (Given I32) false) ∷ (vr (Given I8) false) ∷ (vr (AVariable (v I32)) false) ∷ (vr (AVariable (v I32)) true) ∷ [])
    (t_braces (t_stmts ((t_declare ((t_with_value 2 (v I32)
    (t_binary op.Add (t_cast (t_place (t_element (ar 0 (u I32) false) (cn I32 4 (s 351 352)) (u I32) (s 349 353))) (v I32) (s 328 353))
    (t_convert I32 (t_binary op.Mul (t_place (t_element (ar 1 (u I8) false) (t_program_index (s 358 370)) (v I8) (s 356 371)))
    (t_place (t_element (ar 1 (u I8) false) (t_program_index (s 376 388)) (v I8) (s 374 389))) (v I8) (s 356 389))) (v I32) (s 328 389)) (s 324 389))
    ∷ []) (s 320 390)) ∷ (t_foreach (s 391 404) 3 ((rg 3 (t_unary un.Negate (cn I32 1 (s 412 413)) (u I32) (s 411 413)) (cn I32 3 (s 418 419))
    (s 406 419)) ∷ []) (t_block (t_braces (t_stmts ((t_if Plain 4
    (t_convert Truth (t_call (t_called 0 (t_arguments
    ((t_by_value (cn I32 4 (s 430 442))) ∷ (t_by_value
    (t_convert U16 (t_place (t_element (ar 1 (u I8) false) (cn I32 4 (s 446 447)) (u I8) (s 444 448))))) ∷
    (t_by_name (ar 0 (u I32) false) (s 450 451)) ∷ [])) (s 427 452)) (u I32))) (t_jump Continue (s 454 462) (s 454 463)) (s 423 463)) ∷ []))
    (s 421 465))) (s 391 465)) ∷ (t_block (t_braces (t_stmts ([])) (s 466 467))) ∷
    (t_simple (t_assign (t_element (ar 1 (u I8) false) (t_program_index (s 470 482)) (v I8) (s 468 483))
    (t_convert I8 (t_place (t_variable 2 (v I32) (s 486 487)))) (s 468 487)) (s 468 488)) ∷ [])) (s 318 490))) ∷ [])

abbrev calls_given : List Argument
calls_given = ((AnArray (rw I32 (3278908235 ∷ 1 ∷ 1269875222 ∷ 9 ∷ 2147483647 ∷ 4294967295 ∷ 9 ∷ 2719155380 ∷ []))) ∷ (AnArray (rw I8 (255 ∷ 252 ∷ 76 ∷ 184 ∷ 247 ∷ []))) ∷ [])

-- each of 1 and 2 adds to a[0] by a call: they are not apart
calls_of_1 : outcome_alone calls 2 0 calls_given 1 ≡ Ends ((rw I32 (253816152 ∷ 1 ∷ 1269875222 ∷ 9 ∷ 2147483647 ∷ 4294967295 ∷ 9 ∷ 2719155380 ∷ [])) ∷ (rw I8 (255 ∷ 15 ∷ 76 ∷ 184 ∷ 247 ∷ [])) ∷ []) None []
unfolding digits number_to wrap_to amount not_zero
calls_of_1 = refl

calls_of_2 : outcome_alone calls 2 0 calls_given 2 ≡ Ends ((rw I32 (253816152 ∷ 1 ∷ 1269875222 ∷ 9 ∷ 2147483647 ∷ 4294967295 ∷ 9 ∷ 2719155380 ∷ [])) ∷ (rw I8 (255 ∷ 252 ∷ 143 ∷ 184 ∷ 247 ∷ [])) ∷ []) None []
unfolding digits number_to wrap_to amount not_zero
calls_of_2 = refl

calls_read_by_1 : read_flags calls 2 0 calls_given 1 0 6 ≡ true ∷ false ∷ true ∷ true ∷ true ∷ false ∷ []
unfolding digits number_to wrap_to amount not_zero
calls_read_by_1 = refl
