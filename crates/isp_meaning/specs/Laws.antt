-- What holds of every program.
--     MoreTurns     a run that is over stays so, and the output of a run that is cut is the beginning of a later one's
--     FourSets      the sets of a statement are disjoint and make up the set that it ran over
--     OthersStay    nothing of an instance outside the set changes
--     EachHasOne    each member of the set has a value
--     IdleBranches  a branch of an `if` that no member of the set takes is left out
--     CountsWork    the work of two small programs
use Rattle.std.specs.Prelude.{◌≡◌, ℕ, ◌+◌, ◌<◌, ◌≤◌, List, [], ◌∷◌, Option, Some, None, true, false}
use Rattle.isp_base.specs.Outcomes.{Outcome, Ends, Traps, GoesOn, out_of}
use Rattle.isp_base.specs.Prefixes.{IsPrefix}
use Rattle.isp_base.specs.Maps.{Map, where_true}
use Rattle.isp_base.specs.Sets.{Mask, any, without}
use Rattle.isp_base.specs.declared.signature.Argument.{Argument}
use Rattle.isp_base.specs.declared.types.Gang.{Gang}
use Rattle.isp_base.specs.declared.types.Gang.TheVariants.{W4}
use Rattle.isp_tree.specs.declared.stmt.Form.{Form}
use Rattle.isp_base.specs.declared.types.Span.{Span}
use Rattle.isp_typed.specs.Typed.{Program, TExpr, TStmt, t_block, t_declare, t_simple, t_if, t_if_else, t_while, t_do, t_for, t_foreach, t_foreach_active, t_foreach_unique}
use Rattle.isp_typed.specs.Typed.{t_unmasked, t_jump, t_return, t_print, t_assert, TBlock, t_braces, TStmts, t_no_stmts, t_stmt_then}
use Rattle.isp_meaning.specs.State.{State, Frame, tick}
use Rattle.isp_base.specs.Types.{gang_width}
use Rattle.isp_meaning.specs.Payloads.{Payload, One, Each, bit, is_true}
use Rattle.isp_meaning.specs.Outcomes.{Val, Gives, Fails, Stops, Res, Went, Trapped, Cut}
use Rattle.isp_meaning.specs.Calls.{calls_at}
use Rattle.isp_meaning.specs.Expressions.{Calls, value}
use Rattle.isp_meaning.specs.Statements.{run}
use Rattle.isp_meaning.specs.Runs.{run_of, work_of}
use Rattle.isp_meaning.specs.Samples.{doubles, does_nothing, row}

abbrev pub Later : Outcome → Outcome → Type 0
Later (Ends arrays answer out) o = o ≡ Ends arrays answer out
Later (Traps trap arrays out) o = o ≡ Traps trap arrays out
Later (GoesOn out) o = IsPrefix out (out_of o)

-- the run of more turns is later than the run of fewer
abbrev pub MoreTurns : Type 0
MoreTurns = (program : Program) (f n m : ℕ) (xs : List Argument) → n ≤ m → Later (run_of program f n xs) (run_of program f m xs)

-- each instance is in one of the four sets if it is in the set that ran, and else in none
abbrev pub Parted : Mask → Res → Type 0
Parted a (Went s g b c r) = (p : ℕ) → bit (g p) + (bit (b p) + (bit (c p) + bit (r p))) ≡ bit (a p)
Parted a (Trapped t s) = Unit {0}
Parted a (Cut s) = Unit {0}

-- the four sets of a statement are disjoint and make up the set
abbrev pub FourSets : Type 0
FourSets =
    (program : Program) (most left : ℕ) (frame : Frame) (x : TStmt) (a : Mask) (s : State) → Parted a (run (gang_width program.gang) frame (calls_at program most left) most x a s)

-- nothing of an instance changes: its variables, its part of the arrays of which each has its own, what it returned
abbrev pub Untouched : ℕ → State → State → Type 0
Untouched p s s1 = ((v : ℕ) → s1.varying v p ≡ s.varying v p) × ((v e : ℕ) → s1.own v e p ≡ s.own v e p) × (s1.results p ≡ s.results p)

-- no `foreach` and no `unmasked` stands in it, in which all instances take part whatever the set
abbrev mutual
  pub Masked : TStmt → Type 0
  Masked (t_block b) = MaskedBlock b
  Masked (t_declare xs sp) = Unit {0}
  Masked (t_simple x sp) = Unit {0}
  Masked (t_if f k e x sp) = Masked x
  Masked (t_if_else f k e x y sp) = Masked x × Masked y
  Masked (t_while f k e x sp) = Masked x
  Masked (t_do f k x e sp) = Masked x
  Masked (t_for f k first e step i x sp) = Masked x
  Masked (t_foreach w k rs x sp) = ⊥
  Masked (t_foreach_active w k i x sp) = Masked x
  Masked (t_foreach_unique w k i t e x sp) = Masked x
  Masked (t_unmasked w b sp) = ⊥
  Masked (t_jump j w sp) = Unit {0}
  Masked (t_return w x sp) = Unit {0}
  Masked (t_print w text xs sp) = Unit {0}
  Masked (t_assert x c sp) = Unit {0}

  pub MaskedBlock : TBlock → Type 0
  MaskedBlock (t_braces xs sp) = MaskedAll xs

  pub MaskedAll : TStmts → Type 0
  MaskedAll t_no_stmts = Unit {0}
  MaskedAll (t_stmt_then x xs) = Masked x × MaskedAll xs

-- a value in none but the members of the set, and nothing else of an instance changes
abbrev pub HasNone : ℕ → Payload → Type 0
HasNone p (One x) = Unit {0}
HasNone p (Each x) = x p ≡ None

abbrev pub LeavesBy : ℕ → State → Val Payload → Type 0
LeavesBy p s (Gives m s1) = HasNone p m × Untouched p s s1
LeavesBy p s (Fails t s1) = Unit {0}
LeavesBy p s (Stops s1) = Unit {0}

abbrev pub Leaves : ℕ → State → Res → Type 0
Leaves p s (Went s1 g b c r) = Untouched p s s1
Leaves p s (Trapped t s1) = Unit {0}
Leaves p s (Cut s1) = Unit {0}

-- Nothing of an instance outside the set changes, neither by an expression nor by a statement, whatever functions they
-- call. (Shared arrays, uniforms and the output are no instance's.)
pub record OthersStay : Type 0 where
  pub expression : (program : Program) (most left : ℕ) (frame : Frame) (x : TExpr) (a : Mask) (s : State) (p : ℕ) → a p ≡ false → LeavesBy p s (value (gang_width program.gang) frame (calls_at program most left) x a s)
  pub statement : (program : Program) (most left : ℕ) (frame : Frame) (x : TStmt) → Masked x → (a : Mask) (s : State) (p : ℕ) → a p ≡ false → Leaves p s (run (gang_width program.gang) frame (calls_at program most left) most x a s)

-- one value for the gang, or a value in this member
abbrev pub Present : Option ℕ → Type 0
Present None = ⊥
Present (Some x) = Unit {0}

abbrev pub HasOne : ℕ → Payload → Type 0
HasOne p (One x) = Unit {0}
HasOne p (Each x) = Present (x p)

abbrev pub HasOneBy : ℕ → Val Payload → Type 0
HasOneBy p (Gives m s1) = HasOne p m
HasOneBy p (Fails t s1) = Unit {0}
HasOneBy p (Stops s1) = Unit {0}

-- each member of a set inside the gang has a value, whatever functions the expression calls
abbrev pub EachHasOne : Type 0
EachHasOne =
    (program : Program) (most left : ℕ) (frame : Frame) (x : TExpr) (a : Mask) (s : State) (p : ℕ) → p < gang_width program.gang → a p ≡ true → HasOneBy p (value (gang_width program.gang) frame (calls_at program most left) x a s)

-- Where the test of an `if` gives a value in each instance and no member of the set takes a branch, any other statement may
-- stand for that branch.
pub record IdleBranches : Type 0 where
  pub alone : (gang : ℕ) (frame : Frame) (calls : Calls) (most : ℕ) (form : Form) (k : ℕ) (test : TExpr) (sp : Span) (a : Mask) (s s1 : State) (c : Map) (x other : TStmt)
      → value gang frame calls test a (tick s) ≡ Gives (Each c) s1 → any gang (where_true is_true c) ≡ false
      → run gang frame calls most (t_if form k test x sp) a s ≡ run gang frame calls most (t_if form k test other sp) a s
  pub first : (gang : ℕ) (frame : Frame) (calls : Calls) (most : ℕ) (form : Form) (k : ℕ) (test : TExpr) (sp : Span) (a : Mask) (s s1 : State) (c : Map) (x other y : TStmt)
      → value gang frame calls test a (tick s) ≡ Gives (Each c) s1 → any gang (where_true is_true c) ≡ false
      → run gang frame calls most (t_if_else form k test x y sp) a s ≡ run gang frame calls most (t_if_else form k test other y sp) a s
  pub second : (gang : ℕ) (frame : Frame) (calls : Calls) (most : ℕ) (form : Form) (k : ℕ) (test : TExpr) (sp : Span) (a : Mask) (s s1 : State) (c : Map) (x y other : TStmt)
      → value gang frame calls test a (tick s) ≡ Gives (Each c) s1 → any gang (without a (where_true is_true c)) ≡ false
      → run gang frame calls most (t_if_else form k test x y sp) a s ≡ run gang frame calls most (t_if_else form k test x other sp) a s

-- `a[programIndex] = a[programIndex] * 2 + 1;` has work 10 in a body, an empty body 1
pub record CountsWork : Type 0 where
  pub doubling : (most w x y z : ℕ) → work_of (doubles W4) 0 most (row (w ∷ x ∷ y ∷ z ∷ []) ∷ []) ≡ 10
  pub nothing : (gang : Gang) (most : ℕ) (xs : List Argument) → work_of (does_nothing gang) 0 most xs ≡ 1
