-- Small entries that break one restriction at one place, and their like that break none. In all of them `a` is variable 0,
-- and what a breach is expected at stands at a place of its own, all else at 0.
use Rattle.std.specs.Prelude.{◌≡◌, ℕ, suc, List, [], ◌∷◌, Option, Some, None, true, false, codes}
use Rattle.isp_base.specs.declared.types.Elem.TheVariants.{I32, I64}
use Rattle.isp_base.specs.declared.types.Gang.TheVariants.{W4}
use Rattle.isp_base.specs.declared.types.Rate.{Rate}
use Rattle.isp_base.specs.declared.types.Rate.TheVariants.{Uniform, Varying}
use Rattle.isp_base.specs.declared.types.Span.{Span}
use Rattle.isp_base.specs.declared.types.Ty.{Ty}
use Rattle.isp_base.specs.declared.operators.BinOp.TheVariants.{Add}
use Rattle.isp_base.specs.declared.operators.Compare.TheVariants.{Less, Equal}
use Rattle.isp_tree.specs.declared.stmt.Form.TheVariants.{Plain}
use Rattle.isp_tree.specs.declared.stmt.Jump.TheVariants.{Break, Continue}
use Rattle.isp_typed.specs.declared.library.Library.TheVariants.{ReduceAdd, Min}
use Rattle.isp_typed.specs.declared.variable.ArrayVariable.{ArrayVariable}
use Rattle.isp_typed.specs.Typed.{TExpr, t_constant, t_program_index, t_place, t_compare, t_library, t_packed_store, t_whole, t_no_exprs, t_expr_then, t_variable, t_element, t_called}
use Rattle.isp_typed.specs.Typed.{t_arguments, t_by_name, ty_of, t_with_value, t_with_size, t_value, t_run, TFirst, t_assign, t_step, t_first_declare}
use Rattle.isp_typed.specs.Typed.{TStmt, t_block, t_declare, t_simple, t_if, t_while, t_for, t_foreach, t_foreach_active, t_foreach_unique, t_unmasked, t_jump, t_return, t_print, t_braces, t_stmts, TFunction}
use Rattle.isp_independence.specs.declared.dependence.Dependence.{Dependence}
use Rattle.isp_independence.specs.declared.dependence.Restriction.TheVariants.{Crossing, Printing, SharedArray, Outside, Turned, Foreach, Return}
use Rattle.isp_independence.specs.Dependences.{at, IsFirst}
use Rattle.isp_independence.specs.Independent.{CalledDepends, EntryDepends, Depends, IsIndependent}

-- ---- words

abbrev pub place : ℕ → Span
place n = record { start = n; end = n }

abbrev int : Rate → Ty
int r = ty_of r I32

abbrev number : ℕ → TExpr
number n = t_constant (record { elem = I32; bits = n }) (place 0)

abbrev uniform : ℕ → TExpr
uniform k = t_place (t_variable k (int Uniform) (place 0))

-- uniform int k = 0;
abbrev declare : ℕ → TStmt
declare k = t_declare (t_with_value k (int Uniform) (number 0) (place 0) ∷ []) (place 0)

-- k = 1; at a place
abbrev set : ℕ → Span → TStmt
set k p = t_simple (t_assign (t_variable k (int Uniform) (place 0)) (number 1) p) (place 0)

-- if (programIndex == x) ..
abbrev if_is : ℕ → TExpr → TStmt → TStmt
if_is n x s = t_if Plain n (t_compare Equal (t_program_index (place 0)) x Varying (place 0)) s (place 0)

abbrev block : List TStmt → TStmt
block ss = t_block (t_braces (t_stmts ss) (place 0))

-- for (; k < 3; k++) .., before which there are n variables, the step at a place
abbrev steps : ℕ → Option TFirst → ℕ → ℕ → Span → List TStmt → TStmt
steps n first m k p ss =
    t_for Plain n first (Some (t_compare Less (uniform k) (number 3) Uniform (place 0))) (Some (t_step Add I32 (t_variable k (int Uniform) (place 0)) p)) m (block ss) (place 0)

-- for (uniform int k = 0; k < 3; k++) ..
abbrev count : ℕ → Span → List TStmt → TStmt
count k p ss = steps k (Some (t_first_declare (t_with_value k (int Uniform) (number 0) (place 0) ∷ []) (place 0))) (suc k) k p ss

-- while (x == 0) .., before which there are n variables
abbrev while_zero : ℕ → Rate → TExpr → List TStmt → TStmt
while_zero n r x ss = t_while Plain n (t_compare Equal x (number 0) r (place 0)) (block ss) (place 0)

-- foreach (i = 0 ... 4) .., the word at a place
abbrev foreach : ℕ → Span → List TStmt → TStmt
foreach k p ss = t_foreach p k (record { index = k; start = number 0; end = number 4; span = place 0 } ∷ []) (block ss) (place 0)

abbrev continue : TStmt
continue = t_jump Continue (place 0) (place 0)

abbrev break : TStmt
break = t_jump Break (place 0) (place 0)

-- return 1; the word at a place
abbrev give : Span → TStmt
give p = t_return p (Some (number 1)) (place 0)

abbrev array : ℕ → Rate → ArrayVariable
array k r = record { number = k; ty = int r; constant = false }

-- int t[4]; of a rate, the item at a place
abbrev declare_array : Rate → Span → TStmt
declare_array r p = t_declare (t_with_size (array 1 r) p ∷ []) (place 0)

-- export .. f(uniform int a[]) { .. }
abbrev function : Option Ty → List TStmt → TFunction
function answer ss = record {
  name = codes "f";
  span = place 0;
  exported = true;
  parameters = [];
  gives = None;
  params = place 0 ∷ [];
  answer = answer;
  variables = [];
  body = t_braces (t_stmts ss) (place 0);
}

abbrev entry : List TStmt → TFunction
entry ss = function None ss

-- f(a);
abbrev call : TStmt
call = t_simple (t_run (t_called 0 (t_arguments (t_by_name (array 0 Uniform) (place 0) ∷ [])) (place 0))) (place 0)

-- ---- what is true of them

-- this is a breach, and there is no other
abbrev pub Breaks : TFunction → Dependence → Type 0
Breaks g d = EntryDepends g d × ((e : Dependence) → EntryDepends g e → e ≡ d)

-- a program of it alone is independent
abbrev pub Keeps : TFunction → Type 0
Keeps g = IsIndependent (record { gang = W4; functions = g ∷ [] }) 0

-- 1, 2, 3
pub record Lookers : Type 0 where
  -- reduce_add(programIndex);
  pub reduction : Breaks (entry (t_simple (t_value (t_library ReduceAdd I32 (t_expr_then (t_program_index (place 0)) t_no_exprs) (ty_of Uniform I64) (place 3))) (place 0) ∷ [])) (at Crossing (place 3))
  -- min(programIndex, 1); by instance
  pub minimum : Keeps (entry (t_simple (t_value (t_library Min I32 (t_expr_then (t_program_index (place 0)) (t_expr_then (number 1) t_no_exprs)) (int Varying) (place 3))) (place 0) ∷ []))
  -- packed_store_active(a, programIndex);
  pub packed : Breaks (entry (t_simple (t_value (t_packed_store (t_whole (array 0 Uniform) (place 0)) (t_program_index (place 0)) (place 3))) (place 0) ∷ [])) (at Crossing (place 3))
  -- if (programIndex == 0) unmasked { }
  pub unmasked : Breaks (entry (if_is 1 (number 0) (t_unmasked (place 3) (t_braces (t_stmts []) (place 0)) (place 0)) ∷ [])) (at Crossing (place 3))
  -- foreach_active (i) { }
  pub active : Breaks (entry (t_foreach_active (place 3) 1 1 (block []) (place 0) ∷ [])) (at Crossing (place 3))
  -- foreach_unique (i in programIndex) { }
  pub unique : Breaks (entry (t_foreach_unique (place 3) 1 1 I32 (t_program_index (place 0)) (block []) (place 0) ∷ [])) (at Crossing (place 3))
  -- print("x");
  pub print : Breaks (entry (t_print (place 3) (codes "x") [] (place 0) ∷ [])) (at Printing (place 3))
  -- uniform int t[4]; and int t[4];
  pub shared : Breaks (entry (declare_array Uniform (place 3) ∷ [])) (at SharedArray (place 3))
  pub own : Keeps (entry (declare_array Varying (place 3) ∷ []))

-- 4
pub record Assignments : Type 0 where
  -- uniform int u = 0; if (programIndex == 0) u = 1;
  pub branch : Breaks (entry (declare 1 ∷ if_is 2 (number 0) (set 1 (place 7)) ∷ [])) (at Outside (place 7))
  -- if (programIndex == 0) { uniform int u = 0; u = 1; }
  pub own : Keeps (entry (if_is 1 (number 0) (block (declare 1 ∷ set 1 (place 7) ∷ [])) ∷ []))
  -- if (programIndex == 0) a[0] = 1; since elements are free
  pub element : Keeps (entry (if_is 1 (number 0) (t_simple (t_assign (t_element (array 0 Uniform) (number 0) (int Uniform) (place 0)) (number 1) (place 7)) (place 0)) ∷ []))
  -- uniform int u = 0; while (programIndex == 0) u = 1;
  pub test : Breaks (entry (declare 1 ∷ while_zero 2 Varying (t_program_index (place 0)) (set 1 (place 7) ∷ []) ∷ [])) (at Outside (place 7))
  -- uniform int u = 0; while (u == 0) u = 1;
  pub together : Keeps (entry (declare 1 ∷ while_zero 2 Uniform (uniform 1) (set 1 (place 7) ∷ []) ∷ []))
  -- uniform int u = 0; while (u == 0) { u = 1; if (programIndex == 0) break; }
  pub broken : Breaks (entry (declare 1 ∷ while_zero 2 Uniform (uniform 1) (set 1 (place 7) ∷ if_is 2 (number 0) break ∷ []) ∷ [])) (at Outside (place 7))
  -- for (uniform int u = 0; u < 3; u++) { if (programIndex == 0) break; }, where the step finds u declared in the loop
  pub counter : Keeps (entry (count 1 (place 5) (if_is 2 (number 0) break ∷ []) ∷ []))
  -- uniform int u = 0; for (; u < 3; u++) { if (programIndex == 0) continue; break; }
  pub third : Breaks (entry (declare 1 ∷ steps 2 None 2 1 (place 5) (if_is 2 (number 0) continue ∷ break ∷ []) ∷ [])) (at Outside (place 5))
  -- uniform int u = 0; foreach (i = 0 ... 4) u = 1;
  pub rounds : Breaks (entry (declare 1 ∷ foreach 2 (place 0) (set 1 (place 7) ∷ []) ∷ [])) (at Outside (place 7))

-- 5
pub record Turns : Type 0 where
  -- uniform int u = 0; for (uniform int k = 0; k < 3; k++) { if (programIndex == k) continue; u = 1; }
  pub turned : Breaks (entry (declare 1 ∷ count 2 (place 5) (if_is 3 (uniform 2) continue ∷ set 1 (place 9) ∷ []) ∷ [])) (at Turned (place 9))
  -- for (uniform int k = 0; k < 3; k++) { if (programIndex == k) continue; k = 1; }, where the step is free
  pub counter : Breaks (entry (count 1 (place 5) (if_is 2 (uniform 1) continue ∷ set 1 (place 9) ∷ []) ∷ [])) (at Turned (place 9))
  -- the same with u, declared in the body
  pub own : Keeps (entry (count 1 (place 5) (if_is 2 (uniform 1) continue ∷ declare 2 ∷ set 2 (place 9) ∷ []) ∷ []))

-- 6, 7
pub record Wholes : Type 0 where
  -- foreach (i = 0 ... 4) { }
  pub whole : Keeps (entry (foreach 1 (place 4) [] ∷ []))
  -- if (programIndex == 0) foreach (i = 0 ... 4) { }
  pub controlled : Breaks (entry (if_is 1 (number 0) (foreach 1 (place 4) []) ∷ [])) (at Foreach (place 4))
  -- if (programIndex == 0) return; foreach (i = 0 ... 4) { }
  pub early : Breaks (entry (if_is 1 (number 0) (t_return (place 2) None (place 0)) ∷ foreach 1 (place 4) [] ∷ [])) (at Foreach (place 4))
  -- foreach (i = 0 ... 4) { } in a function that is called
  pub called : CalledDepends (entry (foreach 1 (place 4) [] ∷ [])) (at Foreach (place 4))
  -- foreach (i = 0 ... 4) { } f(a); in f itself, which is both the entry and called
  pub again : Depends (record { gang = W4; functions = entry (foreach 1 (place 4) [] ∷ call ∷ []) ∷ [] }) 0 (at Foreach (place 4))
  -- if (programIndex == 0) return 1; return 1; with a uniform and with a varying result
  pub result : Breaks (function (Some (int Uniform)) (if_is 1 (number 0) (give (place 3)) ∷ give (place 6) ∷ [])) (at Return (place 3))
  pub varying_result : Keeps (function (Some (int Varying)) (if_is 1 (number 0) (give (place 3)) ∷ give (place 6) ∷ []))

-- which of two breaches is the first
pub record Firsts : Type 0 where
  -- print("x"); uniform int t[4]; by their places
  pub by_place : IsFirst (at Printing (place 3)) (EntryDepends (entry (t_print (place 3) (codes "x") [] (place 0) ∷ declare_array Uniform (place 7) ∷ [])))
  -- uniform int u = 0; if (programIndex == 0) for (uniform int k = 0; k < 3; k++) { if (programIndex == k) continue; u = 1; }, by their rules
  pub by_rule : IsFirst (at Outside (place 9)) (EntryDepends (entry (declare 1 ∷ if_is 2 (number 0) (count 2 (place 5) (if_is 3 (uniform 2) continue ∷ set 1 (place 9) ∷ [])) ∷ [])))

pub record RulesOfSamples : Type 0 where
  pub lookers : Lookers
  pub assignments : Assignments
  pub turns : Turns
  pub wholes : Wholes
  pub firsts : Firsts
