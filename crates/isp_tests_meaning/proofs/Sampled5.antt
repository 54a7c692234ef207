-- Programs 48 to 51 of rows that were found outside, as theorems. Written by tools/sample_theorems.py.
use Rattle.std.specs.Prelude.{◌≡◌, false, List, [], ◌∷◌, Some, None}
use Rattle.std.proofs.Common.{refl}
use Rattle.std.specs.Fmt.{digits}
use Rattle.isp_base.specs.Values.{number_to, wrap_to, amount, not_zero}
use Rattle.isp_base.specs.Outcomes.{Ends, Traps}
use Rattle.isp_base.specs.Traps.{trap}
use Rattle.isp_base.specs.declared.types.Gang.TheVariants.{W4, W8}
use Rattle.isp_base.specs.declared.types.Elem.TheVariants.{I32}
use Rattle.isp_base.specs.declared.types.Rate.TheVariants.{Uniform, Varying}
use Rattle.isp_base.specs.declared.trap.TrapKind.TheVariants as kind
use Rattle.isp_base.specs.declared.operators.BinOp.TheVariants as op
use Rattle.isp_base.specs.declared.operators.Compare.TheVariants as cmp
use Rattle.isp_base.specs.declared.signature.Argument.{Argument}
use Rattle.isp_base.specs.declared.signature.Argument.TheVariants.{Array as AnArray, Value as AValue}
use Rattle.isp_tree.specs.declared.stmt.Form.TheVariants.{Plain}
use Rattle.isp_typed.specs.declared.variable.Holds.TheVariants.{Value as AVariable, Given}
use Rattle.isp_typed.specs.Typed.{t_program_index, t_place, t_binary, t_compare, t_call}
use Rattle.isp_typed.specs.Typed.{t_variable, t_element, t_by_value, t_called, t_arguments}
use Rattle.isp_typed.specs.Typed.{t_with_value, t_run, t_assign, t_update}
use Rattle.isp_typed.specs.Typed.{t_declare, t_simple, t_if}
use Rattle.isp_typed.specs.Typed.{t_return, t_braces, t_stmts, Program}
use Rattle.isp_meaning.specs.Runs.{run_of}
use Rattle.isp_tests_meaning.specs.Terms.{s, u, v, cn, ar, vr, rw, fn, pr}

-- calls: depth of recursion, 257 calls, 8
-- export uniform int f(uniform int n) { if (n <= 1) return 1; return 1 + f(n - 1); }
abbrev program_48 : Program
program_48 = pr W8 ((fn (Some I32) (Some (u I32)) ((vr (AVariable (u I32)) false) ∷ []) (t_braces (t_stmts ((t_if Plain 1 (t_compare cmp.LessOrEqual
    (t_place (t_variable 0 (u I32) (s 42 43))) (cn I32 1 (s 47 48)) Uniform (s 42 48)) (t_return (s 50 56) (Some (cn I32 1 (s 57 58))) (s 50 59)) (s
    38 59)) ∷ (t_return (s 60 66) (Some (t_binary op.Add (cn I32 1 (s 67 68)) (t_call (t_called 0 (t_arguments ((t_by_value (t_binary op.Sub (t_place
    (t_variable 0 (u I32) (s 73 74))) (cn I32 1 (s 77 78)) (u I32) (s 73 78))) ∷ [])) (s 71 79)) (u I32)) (u I32) (s 67 79))) (s 60 80)) ∷ [])) (s 36
    82))) ∷ [])

abbrev arguments_48 : List Argument
arguments_48 = ((AValue (record { elem = I32; bits = 257 })) ∷ [])

run_48_of_1000 : run_of program_48 0 1000 arguments_48 ≡ Traps (trap kind.Depth (s 71 79) 0) ([]) ([])
unfolding digits number_to wrap_to amount not_zero
run_48_of_1000 = refl

-- divergent_traps: too many calls under a branch
-- void g(int n) { if (n > 0) g(n); } export void f(uniform int a[]) { if (programIndex > 1) g(programIndex); }
abbrev program_49 : Program
program_49 = pr W4 ((fn None None ((vr (AVariable (v I32)) false) ∷ []) (t_braces (t_stmts ((t_if Plain 1 (t_compare cmp.Greater (t_place (t_variable
    0 (v I32) (s 20 21))) (cn I32 0 (s 24 25)) Varying (s 20 25)) (t_simple (t_run (t_called 0 (t_arguments ((t_by_value (t_place (t_variable 0 (v
    I32) (s 29 30)))) ∷ [])) (s 27 31))) (s 27 32)) (s 16 32)) ∷ [])) (s 14 34))) ∷ (fn None None ((vr (Given I32) false) ∷ []) (t_braces (t_stmts
    ((t_if Plain 1 (t_compare cmp.Greater (t_program_index (s 72 84)) (cn I32 1 (s 87 88)) Varying (s 72 88)) (t_simple (t_run (t_called 0
    (t_arguments ((t_by_value (t_program_index (s 92 104))) ∷ [])) (s 90 105))) (s 90 106)) (s 68 106)) ∷ [])) (s 66 108))) ∷ [])

abbrev arguments_49 : List Argument
arguments_49 = ((AnArray (rw I32 (0 ∷ 0 ∷ 0 ∷ 0 ∷ []))) ∷ [])

run_49_of_1000 : run_of program_49 1 1000 arguments_49 ≡ Traps (trap kind.Depth (s 27 31) 2) ((rw I32 (0 ∷ 0 ∷ 0 ∷ 0 ∷ [])) ∷ []) ([])
unfolding digits number_to wrap_to amount not_zero
run_49_of_1000 = refl

-- statements: each assignment with an operator
-- export uniform int f() { uniform int x = 9; x -= 4; x *= 3; x /= 2; x %= 4; x |= 8; x &= 14; x ^= 7; x <<= 3; x >>= 2; x += 1; return x; }
abbrev program_50 : Program
program_50 = pr W4 ((fn (Some I32) (Some (u I32)) ((vr (AVariable (u I32)) false) ∷ []) (t_braces (t_stmts ((t_declare ((t_with_value 0 (u I32) (cn
    I32 9 (s 41 42)) (s 37 42)) ∷ []) (s 25 43)) ∷ (t_simple (t_update op.Sub I32 (t_variable 0 (u I32) (s 44 45)) (cn I32 4 (s 49 50)) (s 44 50)) (s
    44 51)) ∷ (t_simple (t_update op.Mul I32 (t_variable 0 (u I32) (s 52 53)) (cn I32 3 (s 57 58)) (s 52 58)) (s 52 59)) ∷ (t_simple (t_update op.Div
    I32 (t_variable 0 (u I32) (s 60 61)) (cn I32 2 (s 65 66)) (s 60 66)) (s 60 67)) ∷ (t_simple (t_update op.Rem I32 (t_variable 0 (u I32) (s 68 69))
    (cn I32 4 (s 73 74)) (s 68 74)) (s 68 75)) ∷ (t_simple (t_update op.Or I32 (t_variable 0 (u I32) (s 76 77)) (cn I32 8 (s 81 82)) (s 76 82)) (s 76
    83)) ∷ (t_simple (t_update op.And I32 (t_variable 0 (u I32) (s 84 85)) (cn I32 14 (s 89 91)) (s 84 91)) (s 84 92)) ∷ (t_simple (t_update op.Xor
    I32 (t_variable 0 (u I32) (s 93 94)) (cn I32 7 (s 98 99)) (s 93 99)) (s 93 100)) ∷ (t_simple (t_update op.Shl I32 (t_variable 0 (u I32) (s 101
    102)) (cn I32 3 (s 107 108)) (s 101 108)) (s 101 109)) ∷ (t_simple (t_update op.Shr I32 (t_variable 0 (u I32) (s 110 111)) (cn I32 2 (s 116 117))
    (s 110 117)) (s 110 118)) ∷ (t_simple (t_update op.Add I32 (t_variable 0 (u I32) (s 119 120)) (cn I32 1 (s 124 125)) (s 119 125)) (s 119 126)) ∷
    (t_return (s 127 133) (Some (t_place (t_variable 0 (u I32) (s 134 135)))) (s 127 136)) ∷ [])) (s 23 138))) ∷ [])

abbrev arguments_50 : List Argument
arguments_50 = ([])

run_50_of_1000 : run_of program_50 0 1000 arguments_50 ≡ Ends ([]) (Some (record { elem = I32; bits = 27 })) ([])
unfolding digits number_to wrap_to amount not_zero
run_50_of_1000 = refl

-- statements: each assignment with an operator, by instance
-- export void f(uniform int a[]) { int x = programIndex + 2; x *= 6; x -= 5; x /= 2; x %= 5; x ^= 1; x |= 4; x &= 6; a[programIndex] = x; }
abbrev program_51 : Program
program_51 = pr W4 ((fn None None ((vr (Given I32) false) ∷ (vr (AVariable (v I32)) false) ∷ []) (t_braces (t_stmts ((t_declare ((t_with_value 1 (v
    I32) (t_binary op.Add (t_program_index (s 41 53)) (cn I32 2 (s 56 57)) (v I32) (s 41 57)) (s 37 57)) ∷ []) (s 33 58)) ∷ (t_simple (t_update op.Mul
    I32 (t_variable 1 (v I32) (s 59 60)) (cn I32 6 (s 64 65)) (s 59 65)) (s 59 66)) ∷ (t_simple (t_update op.Sub I32 (t_variable 1 (v I32) (s 67 68))
    (cn I32 5 (s 72 73)) (s 67 73)) (s 67 74)) ∷ (t_simple (t_update op.Div I32 (t_variable 1 (v I32) (s 75 76)) (cn I32 2 (s 80 81)) (s 75 81)) (s 75
    82)) ∷ (t_simple (t_update op.Rem I32 (t_variable 1 (v I32) (s 83 84)) (cn I32 5 (s 88 89)) (s 83 89)) (s 83 90)) ∷ (t_simple (t_update op.Xor I32
    (t_variable 1 (v I32) (s 91 92)) (cn I32 1 (s 96 97)) (s 91 97)) (s 91 98)) ∷ (t_simple (t_update op.Or I32 (t_variable 1 (v I32) (s 99 100)) (cn
    I32 4 (s 104 105)) (s 99 105)) (s 99 106)) ∷ (t_simple (t_update op.And I32 (t_variable 1 (v I32) (s 107 108)) (cn I32 6 (s 112 113)) (s 107 113))
    (s 107 114)) ∷ (t_simple (t_assign (t_element (ar 0 (u I32) false) (t_program_index (s 117 129)) (v I32) (s 115 130)) (t_place (t_variable 1 (v
    I32) (s 133 134))) (s 115 134)) (s 115 135)) ∷ [])) (s 31 137))) ∷ [])

abbrev arguments_51 : List Argument
arguments_51 = ((AnArray (rw I32 (0 ∷ 0 ∷ 0 ∷ 0 ∷ []))) ∷ [])

run_51_of_1000 : run_of program_51 0 1000 arguments_51 ≡ Ends ((rw I32 (6 ∷ 4 ∷ 4 ∷ 6 ∷ [])) ∷ []) None ([])
unfolding digits number_to wrap_to amount not_zero
run_51_of_1000 = refl
