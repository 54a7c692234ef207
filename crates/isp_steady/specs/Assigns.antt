-- Which variables code sets, by their numbers: those that it declares, assigns, loads into by a packed load, and the indices
-- of a `foreach` and its kin. What a called function sets is its own.
--     StaysUnset   running a statement leaves every other variable as it was, in every instance
use Rattle.std.specs.Prelude.{◌≡◌, ℕ, List, [], ◌∷◌, Option, Some, None, Bool, false, nat_eq}
use Rattle.isp_base.specs.Sets.{Mask}
use Rattle.isp_typed.specs.Typed.{t_exprs, TPlace, t_variable, t_element, TItem, t_plain, t_with_value, t_with_size, TSimple, t_value, t_run, t_assign, t_update, t_step}
use Rattle.isp_typed.specs.Typed.{TFirst, t_first_declare, t_first_simple, TRange, TStmt, t_block, t_declare, t_simple, t_if, t_if_else, t_while, t_do, t_for, t_foreach}
use Rattle.isp_typed.specs.Typed.{t_foreach_active, t_foreach_unique, t_unmasked, t_jump, t_return, t_print, t_assert, TBlock, t_braces, TStmts, t_no_stmts, t_stmt_then}
use Rattle.isp_steady.specs.Code.{Where, run_of}
use Rattle.isp_meaning.specs.Loads.{no_variable, either, loads, all_load, call_loads}
use Rattle.isp_meaning.specs.Outcomes.{Res, Went, Trapped, Cut}
use Rattle.isp_meaning.specs.State.{State}

-- this one alone
abbrev pub only : ℕ → ℕ → Bool
only v w = nat_eq w v

abbrev pub if_there : {A : Type 0} → (A → ℕ → Bool) → Option A → ℕ → Bool
if_there sets None = no_variable
if_there sets (Some x) = sets x

-- an element is no variable, but its index may load
abbrev pub target_sets : TPlace → ℕ → Bool
target_sets (t_variable v t sp) = only v
target_sets (t_element b i t sp) = loads i

abbrev pub item_sets : TItem → ℕ → Bool
item_sets (t_plain v t sp) = only v
item_sets (t_with_value v t x sp) = either (loads x) (only v)
item_sets (t_with_size b sp) = no_variable

abbrev pub items_set : List TItem → ℕ → Bool
items_set [] = no_variable
items_set (x ∷ xs) = either (item_sets x) (items_set xs)

abbrev pub simple_sets : TSimple → ℕ → Bool
simple_sets (t_value x) = loads x
simple_sets (t_run c) = call_loads c
simple_sets (t_assign q x sp) = either (target_sets q) (loads x)
simple_sets (t_update op t q x sp) = either (target_sets q) (loads x)
simple_sets (t_step op t q sp) = target_sets q

abbrev pub first_sets : TFirst → ℕ → Bool
first_sets (t_first_declare xs sp) = items_set xs
first_sets (t_first_simple x) = simple_sets x

abbrev pub ranges_set : List TRange → ℕ → Bool
ranges_set [] = no_variable
ranges_set (r ∷ rs) = either (only r.index) (either (loads r.start) (either (loads r.end) (ranges_set rs)))

abbrev mutual
  pub assigns : TStmt → ℕ → Bool
  assigns (t_block b) = block_assigns b
  assigns (t_declare xs sp) = items_set xs
  assigns (t_simple x sp) = simple_sets x
  assigns (t_if f k e x sp) = either (loads e) (assigns x)
  assigns (t_if_else f k e x y sp) = either (loads e) (either (assigns x) (assigns y))
  assigns (t_while f k e x sp) = either (loads e) (assigns x)
  assigns (t_do f k x e sp) = either (loads e) (assigns x)
  assigns (t_for f k first e step i x sp) =
      either (if_there first_sets first) (either (if_there loads e) (either (if_there simple_sets step) (assigns x)))
  assigns (t_foreach w k rs x sp) = either (ranges_set rs) (assigns x)
  assigns (t_foreach_active w k i x sp) = either (only i) (assigns x)
  assigns (t_foreach_unique w k i t e x sp) = either (only i) (either (loads e) (assigns x))
  assigns (t_unmasked w b sp) = block_assigns b
  assigns (t_jump j w sp) = no_variable
  assigns (t_return w x sp) = if_there loads x
  assigns (t_print w text xs sp) = all_load (t_exprs xs)
  assigns (t_assert x c sp) = loads x

  pub block_assigns : TBlock → ℕ → Bool
  block_assigns (t_braces xs sp) = all_assign xs

  pub all_assign : TStmts → ℕ → Bool
  all_assign t_no_stmts = no_variable
  all_assign (t_stmt_then x xs) = either (assigns x) (all_assign xs)

-- ---- the law

-- the variable as it was, for the gang and in each instance
abbrev pub IsUnset : ℕ → State → State → Type 0
IsUnset v s s1 = (s1.uniforms v ≡ s.uniforms v) × (s1.varying v ≡ s.varying v)

abbrev pub UnsetBy : ℕ → State → Res → Type 0
UnsetBy v s (Went s1 g b c r) = IsUnset v s s1
UnsetBy v s (Trapped t s1) = Unit {0}
UnsetBy v s (Cut s1) = Unit {0}

-- over any set, whatever it calls, and with a `foreach` or an `unmasked` in it
abbrev pub StaysUnset : Type 0
StaysUnset = (w : Where) (x : TStmt) (a : Mask) (s : State) (v : ℕ) → assigns x v ≡ false → UnsetBy v s (run_of w x a s)
