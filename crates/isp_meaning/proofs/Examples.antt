-- What small programs do, worked by hand from the rules of the language and computed from the definitions. The gang
-- has four instances; `a` is the entry's array, x its varying variable, u its uniform one.
use Rattle.std.specs.Prelude.{◌≡◌, ℕ, zero, suc, ◌+◌, List, [], ◌∷◌, Some, None, codes}
use Rattle.std.proofs.Common.{refl}
use Rattle.std.specs.Fmt.{digits}
use Rattle.isp_base.specs.Values.{not_zero, number_to, wrap_to}
use Rattle.isp_base.specs.Outcomes.{Outcome, Ends, Traps, GoesOn}
use Rattle.isp_base.specs.Traps.{trap}
use Rattle.isp_base.specs.declared.types.Elem.TheVariants.{Bool as Truth, I32}
use Rattle.isp_base.specs.declared.types.Rate.TheVariants.{Uniform, Varying}
use Rattle.isp_base.specs.declared.types.Span.{Span}
use Rattle.isp_base.specs.declared.trap.TrapKind.TheVariants as kind
use Rattle.isp_base.specs.declared.operators.BinOp.TheVariants as op
use Rattle.isp_base.specs.declared.operators.Compare.TheVariants.{Equal, NotEqual, Less, Greater}
use Rattle.isp_tree.specs.declared.stmt.Form.TheVariants.{Plain}
use Rattle.isp_typed.specs.declared.library.Library.TheVariants as library
use Rattle.isp_typed.specs.declared.variable.Holds.TheVariants.{Local}
use Rattle.isp_typed.specs.declared.variable.Logic.TheVariants.{And}
use Rattle.isp_typed.specs.Typed.{t_binary, t_logic, t_choose, t_library, t_exprs, t_packed_store, t_packed_load, t_whole, t_called, t_arguments, TStmt, t_declare, t_with_size, t_simple, t_run, t_value, t_step, t_update}
use Rattle.isp_typed.specs.Typed.{t_variable, t_element, t_do, t_unmasked, t_foreach_active, t_foreach_unique, t_assert, TFunction, t_by_value, t_by_name, ty_of, t_convert, t_place}
use Rattle.isp_meaning.specs.Runs.{run_of, work_of}
use Rattle.isp_meaning.proofs.Programs.{at, number, truth, index, varying, uniform, array, item, own_item, join, plus, test, call, set, set_item, set_own, body, block, if_then, if_else, while}
use Rattle.isp_meaning.proofs.Programs.{count, range, foreach, break, continue, return, print, holding, each, one, given, function, program, row, with_row}

-- a[programIndex] = x
abbrev give : TStmt
give = set_item 0 index (varying 1)

-- variables: a, x, u, v (uniform), a shared array of two, an array of two in each instance
abbrev entry : List TStmt → TFunction
entry xs =
    function None (given ∷ each ∷ one ∷ one ∷ holding (Local (ty_of Uniform I32) 2) ∷ holding (Local (ty_of Varying I32) 2) ∷ []) xs

abbrev with_calls : TFunction → List TStmt → ℕ → Outcome
with_calls f xs most = run_of (program (entry xs ∷ f ∷ [])) 0 most (with_row (0 ∷ 0 ∷ 0 ∷ 0 ∷ []))

abbrev answers : List TStmt → ℕ → Outcome
answers xs most = run_of (program (entry xs ∷ [])) 0 most (with_row (0 ∷ 0 ∷ 0 ∷ 0 ∷ []))

abbrev work : List TStmt → ℕ
work xs = work_of (program (entry xs ∷ [])) 0 9 (with_row (0 ∷ 0 ∷ 0 ∷ 0 ∷ []))

abbrev gives : ℕ → ℕ → ℕ → ℕ → Outcome
gives p q r s = Ends (row (p ∷ q ∷ r ∷ s ∷ []) ∷ []) None []

abbrev prints : List ℕ → Outcome
prints text = Ends (row (0 ∷ 0 ∷ 0 ∷ 0 ∷ []) ∷ []) None text

-- so many times the letter y
abbrev ys : ℕ → List ℕ
ys zero = []
ys (suc n) = 121 ∷ ys n

abbrev place : ℕ → Span
place n = record { start = n; end = n + 1 }

-- while (x < 3) { x = x + 1; if (x == programIndex) break; }: 0 never breaks, p breaks at x = p
breaks : answers (while (test Less (varying 1) (number 3)) (set 1 (plus (varying 1) (number 1)) ∷ if_then (test Equal (varying 1) index) (break ∷ []) ∷ []) ∷ give ∷ []) 9 ≡ gives 3 1 2 3
unfolding digits number_to wrap_to
breaks = refl

-- for (u = 0; u < 3; u++) { if (u == programIndex) continue; x = x + 10 + u; }: 10 + 11 + 12 = 33, without the turn of
-- its own number
continues : answers (count Less 2 3 (if_then (test Equal (uniform 2) index) (continue ∷ []) ∷ set 1 (plus (plus (varying 1) (number 10)) (uniform 2)) ∷ []) ∷ give ∷ []) 9 ≡ gives 23 22 21 33
unfolding digits number_to wrap_to
continues = refl

-- the same, with a break: p makes p turns before it: 0, 10, 10 + 11, 33
breaks_of_count : answers (count Less 2 3 (if_then (test Equal (uniform 2) index) (break ∷ []) ∷ set 1 (plus (plus (varying 1) (number 10)) (uniform 2)) ∷ []) ∷ give ∷ []) 9 ≡ gives 0 10 21 33
unfolding digits number_to wrap_to
breaks_of_count = refl

-- int f(int k) { for (u = 0; u < 3; u++) { if (u == k) return u + 10; } return 99; }, x = f(programIndex + 1)
returns : with_calls (function (Some (ty_of Varying I32)) (each ∷ one ∷ [])
    (count Less 1 3 (if_then (test Equal (uniform 1) (varying 0)) (return (plus (uniform 1) (number 10)) ∷ []) ∷ []) ∷ return (number 99) ∷ []))
    (set 1 (call 1 (t_by_value (plus index (number 1)) ∷ [])) ∷ give ∷ []) 9 ≡ gives 11 12 99 99
unfolding digits number_to wrap_to
returns = refl

-- x = 5; if (programIndex < 2) x = f(7), where f returns its parameter by an unmasked block in x of its own: the others
-- keep 5; within f the parameter of those that did not call is 0, as the sum over all shows: 14
calls : with_calls (function (Some (ty_of Varying I32)) (each ∷ each ∷ [])
    (t_unmasked at (body (set 1 (t_library library.ReduceAdd I32 (t_exprs (varying 0 ∷ [])) (ty_of Uniform I32) at) ∷ [])) at ∷ return (varying 1) ∷
    [])) (set 1 (number 5) ∷ if_then (test Less index (number 2)) (set 1 (call 1 (t_by_value (number 7) ∷ [])) ∷ []) ∷ give ∷ []) 9 ≡ gives 14 14 5 5
unfolding digits number_to wrap_to
calls = refl

-- if (programIndex == 1) { unmasked { x = 7; } x = x + 1; }: all have 7, and 1 has 8
unmasked : answers (if_then (test Equal index (number 1)) (t_unmasked at (body (set 1 (number 7) ∷ [])) at ∷ set 1 (plus (varying 1) (number 1)) ∷ []) ∷ give ∷ []) 9 ≡ gives 7 8 7 7
unfolding digits number_to wrap_to
unmasked = refl

-- if (programIndex == 2) foreach (x = 1 ... 6) ..: runs {1, 2, 3, 4} and {5}; the index stays where an instance is off:
-- 5, 2, 3, 4
foreach_off : answers (if_then (test Equal index (number 2)) (foreach (range 1 1 6 ∷ []) [] ∷ []) ∷ give ∷ []) 9 ≡ gives 5 2 3 4
unfolding digits number_to wrap_to
foreach_off = refl

-- its work: body 1, `if` 1, test 3, block 1, foreach 1, bounds 2, runs 2, the empty body twice 2; give 1 + 2 + 1 = 4
foreach_work : work (if_then (test Equal index (number 2)) (foreach (range 1 1 6 ∷ []) [] ∷ []) ∷ give ∷ []) ≡ 17
unfolding digits number_to wrap_to
foreach_work = refl

-- foreach (v = 0 ... 2, w = 0 ... 5) x += 1: two times the runs {0 .. 3} and {0}: 4, 2, 2, 2; v and w are declared as
-- variables 1 and 2 of such a function, x is variable 3
foreach_of_two : run_of (program (function None (given ∷ each ∷ each ∷ each ∷ [])
    (foreach (range 1 0 2 ∷ range 2 0 5 ∷ []) (set 3 (plus (varying 3) (number 1)) ∷ []) ∷ set_item 0 index (varying 3) ∷ []) ∷ [])) 0 0
    (with_row (0 ∷ 0 ∷ 0 ∷ 0 ∷ [])) ≡ gives 4 2 2 2
unfolding digits number_to wrap_to
foreach_of_two = refl

-- its work: body 1, foreach 1, bounds 4, lengths 2 + 2 * 2 = 6, four times block 1 and x = x + 1 5 = 24; 4
foreach_of_two_work : work_of (program (function None (given ∷ each ∷ each ∷ each ∷ [])
    (foreach (range 1 0 2 ∷ range 2 0 5 ∷ []) (set 3 (plus (varying 3) (number 1)) ∷ []) ∷ set_item 0 index (varying 3) ∷ []) ∷ [])) 0 0
    (with_row (0 ∷ 0 ∷ 0 ∷ 0 ∷ [])) ≡ 40
unfolding digits number_to wrap_to
foreach_of_two_work = refl

-- if (programIndex > 1) foreach_active (v) { if (programIndex == 2) continue; print("% ", v); }: 2 continues, and 3 prints
-- its number, the uniform v being variable 3
active : answers (if_then (test Greater index (number 1)) (t_foreach_active at 0 3 (block (if_then (test Equal index (number 2)) (continue ∷ []) ∷ print (codes "% ") (uniform 3 ∷ []) ∷ [])) at ∷ []) ∷ []) 9 ≡ prints (codes "3 ")
unfolding digits number_to wrap_to
active = refl

-- if (programIndex != 1) print("% is %!", programIndex, 7);
print_list : answers (if_then (test NotEqual index (number 1)) (print (codes "% is %!") (index ∷ number 7 ∷ []) ∷ []) ∷ []) 9 ≡ prints (codes "[0,_,2,3] is 7!")
unfolding digits number_to wrap_to
print_list = refl

-- nothing happens for no instance: if (programIndex == 9) { u = 4; print("x"); assert(false) }; x = u
nobody_there : answers (if_then (test Equal index (number 9)) (t_simple (t_step op.Add I32 (t_variable 2 (ty_of Uniform I32) at) at) at ∷ print (codes "x") [] ∷ []) ∷ set 1 (uniform 2) ∷ give ∷ []) 9 ≡ gives 0 0 0 0
unfolding digits number_to wrap_to
nobody_there = refl

-- a uniform variable is stepped once: if (programIndex > 1) u++; x = u
stepped_once : answers (if_then (test Greater index (number 1)) (t_simple (t_step op.Add I32 (t_variable 2 (ty_of Uniform I32) at) at) at ∷ []) ∷ set 1 (uniform 2) ∷ give ∷ []) 9 ≡ gives 1 1 1 1
unfolding digits number_to wrap_to
stepped_once = refl

-- all store at a[1]: the highest wins
highest_wins : answers (set_item 0 (number 1) index ∷ []) 9 ≡ gives 0 3 0 0
unfolding digits number_to wrap_to
highest_wins = refl

-- if (programIndex > 1) a[programIndex + 1] = 1: instance 3 is outside, and nothing is stored
outside_traps : answers (if_then (test Greater index (number 1)) (set_item 0 (plus index (number 1)) (number 1) ∷ []) ∷ []) 9 ≡ Traps (trap kind.Index at 3) (row (0 ∷ 0 ∷ 0 ∷ 0 ∷ []) ∷ []) []
unfolding digits number_to wrap_to
outside_traps = refl

-- if (programIndex > 0) x = 1 / u: the lowest active instance
uniform_trap : answers (if_then (test Greater index (number 0)) (set 1 (t_binary op.Div (number 1) (uniform 2) (ty_of Uniform I32) at) ∷ []) ∷ []) 9 ≡ Traps (trap kind.Divide at 1) (row (0 ∷ 0 ∷ 0 ∷ 0 ∷ []) ∷ []) []
unfolding digits number_to wrap_to
uniform_trap = refl

-- x = programIndex != 0 && 6 / programIndex > 2: the division is not made by 0: 0, 1, 1, 0
later_operand : answers (set 1 (t_choose (t_logic And (test NotEqual index (number 0)) (test Greater (join op.Div (number 6) index) (number 2)) Varying at) (number 1) (number 0) (ty_of Varying I32) at) ∷ give ∷ []) 9 ≡ gives 0 1 1 0
unfolding digits number_to wrap_to
later_operand = refl

-- assert(programIndex < 2) fails at 2
assert_traps : answers (t_assert (test Less index (number 2)) (place 7) at ∷ []) 9 ≡ Traps (trap kind.Assert (place 7) 2) (row (0 ∷ 0 ∷ 0 ∷ 0 ∷ []) ∷ []) []
unfolding digits number_to wrap_to
assert_traps = refl

-- void f() { f(); } called by instances 2 and 3: the call at depth 256 traps, after 255 that were let through
depth : with_calls (function None [] (t_simple (t_run (t_called 1 (t_arguments []) (place 3))) at ∷ []))
    (if_then (test Greater index (number 1)) (t_simple (t_run (t_called 1 (t_arguments []) at)) at ∷ []) ∷ []) 9
    ≡ Traps (trap kind.Depth (place 3) 2) (row (0 ∷ 0 ∷ 0 ∷ 0 ∷ []) ∷ []) []
unfolding digits number_to wrap_to
depth = refl

-- void f() { print("y"); f(); }: it runs 255 times below the entry
depth_counted : with_calls (function None [] (print (codes "y") [] ∷ t_simple (t_run (t_called 1 (t_arguments []) (place 3))) at ∷ []))
    (t_simple (t_run (t_called 1 (t_arguments []) at)) at ∷ []) 9 ≡ Traps (trap kind.Depth (place 3) 0) (row (0 ∷ 0 ∷ 0 ∷ 0 ∷ []) ∷ []) (ys 255)
unfolding digits number_to wrap_to
depth_counted = refl

-- if (programIndex > 1) foreach_active (v) print("% ", v);: from the lowest
active_in_order : answers (if_then (test Greater index (number 1)) (t_foreach_active at 0 3 (print (codes "% ") (uniform 3 ∷ [])) at ∷ []) ∷ []) 9 ≡ prints (codes "2 3 ")
unfolding digits number_to wrap_to
active_in_order = refl

-- x = a[programIndex]; foreach_unique (v in x) print("% % ", v, x); of 7, 3, 7, 3: in the order of the lowest instances
unique : run_of (program (entry (set 1 (item 0 index) ∷ t_foreach_unique at 0 3 I32 (varying 1) (print (codes "% % ") (uniform 3 ∷ varying 1 ∷ [])) at
    ∷ []) ∷ [])) 0 9 (with_row (7 ∷ 3 ∷ 7 ∷ 3 ∷ [])) ≡ Ends (row (7 ∷ 3 ∷ 7 ∷ 3 ∷ []) ∷ []) None (codes "7 [7,_,7,_] 3 [_,3,_,3] ")
unfolding digits number_to wrap_to
unique = refl

-- x = programIndex & 1; foreach_unique (v in x) { if (programIndex == 0) continue; x = 5; } x = x + 1: the value is taken
-- once, so 3, whose x is 5 only after the second turn, has its turn; who continued goes on after the statement
unique_once : answers (set 1 (join op.And index (number 1)) ∷ t_foreach_unique at 0 3 I32 (varying 1)
    (block (if_then (test Equal index (number 0)) (continue ∷ []) ∷ set 1 (number 5) ∷ [])) at ∷ set 1 (plus (varying 1) (number 1)) ∷ give ∷ []) 9
    ≡ gives 1 6 6 6
unfolding digits number_to wrap_to
unique_once = refl

-- if (programIndex > 0) foreach_unique (v in programIndex < 2) print("%: % ", v, programIndex): 1 is true, 2 and 3 are not
unique_bool : answers (if_then (test Greater index (number 0))
    (t_foreach_unique at 0 3 Truth (t_convert I32 (test Less index (number 2)))
    (print (codes "%: % ") (t_place (t_variable 3 (ty_of Uniform Truth) at) ∷ index ∷ [])) at ∷ []) ∷ []) 9
    ≡ prints (codes "true: [_,1,_,_] false: [_,_,2,3] ")
unfolding digits not_zero number_to wrap_to
unique_bool = refl

-- x = a[programIndex]; foreach_unique (v in x) { if (programIndex == 0) continue; u++; } x = u: the turn of 0 alone counts
-- nothing
abbrev counts_turns : TStmt
counts_turns = block (if_then (test Equal index (number 0)) (continue ∷ []) ∷ t_simple (t_step op.Add I32 (t_variable 2 (ty_of Uniform I32) at) at) at ∷ [])

abbrev counted : List ℕ → Outcome
counted xs =
    run_of (program (entry (set 1 (item 0 index) ∷ t_foreach_unique at 0 3 I32 (varying 1) counts_turns at ∷ set 1 (uniform 2) ∷ give ∷ []) ∷ [])) 0 9 (with_row xs)

unique_counts : (counted (7 ∷ 3 ∷ 7 ∷ 3 ∷ []) ≡ gives 2 2 2 2) × (counted (7 ∷ 3 ∷ 3 ∷ 3 ∷ []) ≡ gives 1 1 1 1)
unfolding digits number_to wrap_to
unique_counts = (refl, refl)

-- a uniform value has one turn, of all: foreach_unique (v in 7) x = v
unique_uniform : answers (t_foreach_unique at 0 3 I32 (number 7) (set 1 (uniform 3)) at ∷ give ∷ []) 9 ≡ gives 7 7 7 7
unfolding digits number_to wrap_to
unique_uniform = refl

-- its work: body 1, foreach_unique 1, the value 3, two turns 2, the empty body twice 2
unique_work : work (t_foreach_unique at 0 3 I32 (join op.And index (number 1)) (block []) at ∷ []) ≡ 9
unfolding digits number_to wrap_to
unique_work = refl

-- while (true) print("y"); with two turns
cut : answers (while (truth) (print (codes "y") [] ∷ []) ∷ []) 2 ≡ GoesOn (codes "yy")
unfolding digits number_to wrap_to
cut = refl

-- do x = x + 1; while (x < programIndex) makes one turn at least: 1, 1, 2, 3; with two turns it is cut
do_first : answers (t_do Plain 0 (block (set 1 (plus (varying 1) (number 1)) ∷ [])) (test Less (varying 1) index) at ∷ give ∷ []) 3 ≡ gives 1 1 2 3
unfolding digits number_to wrap_to
do_first = refl

-- with no turns even the first is cut
do_cut : answers (t_do Plain 0 (block (set 1 (plus (varying 1) (number 1)) ∷ [])) (test Less (varying 1) index) at ∷ give ∷ []) 0 ≡ GoesOn []
unfolding digits number_to wrap_to
do_cut = refl

-- if (x == 0) x = 1; else x = 2: the test is taken once
test_once : answers (if_else (test Equal (varying 1) (number 0)) (set 1 (number 1) ∷ []) (set 1 (number 2) ∷ []) ∷ give ∷ []) 9 ≡ gives 1 1 1 1
unfolding digits number_to wrap_to
test_once = refl

-- each instance has its own: t[1] = programIndex; t[0] = 9; x = t[1]
own_arrays : answers (set_own 5 (number 1) index ∷ set_own 5 (number 0) (number 9) ∷ set 1 (own_item 5 (number 1)) ∷ give ∷ []) 9 ≡ gives 0 1 2 3
unfolding digits number_to wrap_to
own_arrays = refl

-- a shared local array is passed on: void f(int b[]) { b[0] = b[0] + 5; } on t twice; x = t[0] = 10, as t is not renewed
shared_local : with_calls (function None (given ∷ []) (set_item 0 (number 0) (plus (item 0 (number 0)) (number 5)) ∷ []))
    (t_simple (t_run (t_called 1 (t_arguments (t_by_name (array Uniform 4) at ∷ [])) at)) at ∷ t_simple
    (t_run (t_called 1 (t_arguments (t_by_name (array Uniform 4) at ∷ [])) at)) at ∷ set 1 (item 4 (number 0)) ∷ give ∷ []) 9 ≡ gives 10 10 10 10
unfolding digits number_to wrap_to
shared_local = refl

-- a declared array begins with zeros: t[0] = 4; int t[2]; x = t[0]; and in an instance that is off it stays
declared_zero : answers (set_own 5 (number 0) (number 4) ∷ if_then (test Less index (number 2)) (t_declare (t_with_size (array Varying 5) at ∷ []) at ∷ []) ∷ set 1 (own_item 5 (number 0)) ∷ give ∷ []) 9 ≡ gives 0 0 4 4
unfolding digits number_to wrap_to
declared_zero = refl

-- rotate(programIndex + 1, 1) in 0, 1 and 3: 2 of instance 1, 0 for instance 2, which is off, and 1 of instance 0
rotates : answers (if_then (test NotEqual index (number 2)) (set 1 (t_library library.Rotate I32 (t_exprs (plus index (number 1) ∷ number 1 ∷ [])) (ty_of Varying I32) at) ∷ []) ∷ give ∷ []) 9 ≡ gives 2 0 0 1
unfolding digits number_to wrap_to
rotates = refl

-- if (programIndex != 1) u = packed_store_active(a, programIndex + 5); x = u
packed : answers (if_then (test NotEqual index (number 1))
    (t_simple (t_step op.Add I32 (t_variable 2 (ty_of Uniform I32) at) at) at ∷ set 1
    (t_packed_store (t_whole (array Uniform 0) at) (plus index (number 5)) at) ∷ set 1 (plus (varying 1) (uniform 2)) ∷ []) ∷ set_item 0 (number 3)
    (t_library library.ReduceAdd I32 (t_exprs (varying 1 ∷ [])) (ty_of Uniform I32) at) ∷ []) 9 ≡ gives 5 7 8 12
unfolding digits number_to wrap_to
packed = refl

-- a[0] = 3; a[1] = 4; if (programIndex > 1) packed_load_active(&a[0], &x): 2 has 3 and 3 has 4
packed_back : answers (set_item 0 (number 0) (number 3) ∷ set_item 0 (number 1) (number 4) ∷ if_then (test Greater index (number 1)) (t_simple (t_value (t_packed_load (t_whole (array Uniform 0) at) 1 at)) at ∷ []) ∷ give ∷ []) 9 ≡ gives 0 0 3 4
unfolding digits number_to wrap_to
packed_back = refl

-- a[programIndex] += programIndex + 1
updates : answers (t_simple (t_update op.Add I32 (t_element (array Uniform 0) index (ty_of Varying I32) at) (plus index (number 1)) at) at ∷ []) 9 ≡ gives 1 2 3 4
unfolding digits number_to wrap_to
updates = refl
