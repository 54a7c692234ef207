-- Straight code, and how many nodes it has that count for the work. It has no call of a function, no `&&`, `||` or `?:`, no
-- branch, no loop and no jump, so each of its nodes is reached once. One constructor a form.
--     StraightWork     the work of straight code that ends is its nodes and items
use Rattle.std.specs.Prelude.{◌≡◌, ℕ, ◌+◌, List, [], ◌∷◌, true}
use Rattle.isp_base.specs.Sets.{Mask, any}
use Rattle.isp_base.specs.declared.operators.BinOp.{BinOp}
use Rattle.isp_base.specs.declared.operators.Compare.{Compare}
use Rattle.isp_base.specs.declared.operators.UnaryOp.{UnaryOp}
use Rattle.isp_base.specs.declared.types.Elem.{Elem}
use Rattle.isp_base.specs.declared.types.Rate.{Rate}
use Rattle.isp_base.specs.declared.types.Span.{Span}
use Rattle.isp_base.specs.declared.types.Ty.{Ty}
use Rattle.isp_base.specs.declared.types.Value.{Value}
use Rattle.isp_typed.specs.declared.library.Library.{Library}
use Rattle.isp_typed.specs.declared.variable.ArrayVariable.{ArrayVariable}
use Rattle.isp_typed.specs.Typed.{TExpr, t_constant, t_program_index, t_place, t_convert, t_cast, t_unary, t_binary, t_compare, t_library, t_packed_store, t_packed_load, TPlace, t_variable}
use Rattle.isp_typed.specs.Typed.{t_element, TBase, t_whole, t_from, TExprs, t_no_exprs, t_expr_then, t_exprs, TItem, t_plain, t_with_value, t_with_size, TSimple, t_value, t_assign, t_update}
use Rattle.isp_typed.specs.Typed.{t_step, TStmt, t_block, t_declare, t_simple, t_print, t_assert, TBlock, t_braces, TStmts, t_no_stmts, t_stmt_then}
use Rattle.isp_meaning.specs.Expressions.{Calls, value}
use Rattle.isp_meaning.specs.Outcomes.{Val, Gives, Fails, Stops, Res, Went, Trapped, Cut}
use Rattle.isp_meaning.specs.State.{State, Frame}
use Rattle.isp_meaning.specs.Statements.{run}

-- ---- expressions

mutual
  pub data IsStraight : TExpr → ℕ → Type 0 where
    constant : {v : Value} {sp : Span} → IsStraight (t_constant v sp) 1
    program_index : {sp : Span} → IsStraight (t_program_index sp) 1
    place : {q : TPlace} {n : ℕ} → IsStraightPlace q n → IsStraight (t_place q) n
    -- no node of the source
    convert : {e : Elem} {x : TExpr} {n : ℕ} → IsStraight x n → IsStraight (t_convert e x) n
    cast : {x : TExpr} {t : Ty} {sp : Span} {n : ℕ} → IsStraight x n → IsStraight (t_cast x t sp) (1 + n)
    unary : {o : UnaryOp} {x : TExpr} {t : Ty} {sp : Span} {n : ℕ} → IsStraight x n → IsStraight (t_unary o x t sp) (1 + n)
    binary : {o : BinOp} {x y : TExpr} {t : Ty} {sp : Span} {n m : ℕ} → IsStraight x n → IsStraight y m → IsStraight (t_binary o x y t sp) (1 + (n + m))
    compare : {c : Compare} {x y : TExpr} {r : Rate} {sp : Span} {n m : ℕ} → IsStraight x n → IsStraight y m → IsStraight (t_compare c x y r sp) (1 + (n + m))
    library : {f : Library} {e : Elem} {xs : TExprs} {t : Ty} {sp : Span} {n : ℕ} → AreStraight xs n → IsStraight (t_library f e xs t sp) (1 + n)
    packed_store : {b : TBase} {x : TExpr} {sp : Span} {n m : ℕ} → IsStraightBase b n → IsStraight x m → IsStraight (t_packed_store b x sp) (1 + (n + m))
    -- its variable is a node
    packed_load : {b : TBase} {v : ℕ} {sp : Span} {n : ℕ} → IsStraightBase b n → IsStraight (t_packed_load b v sp) (1 + (n + 1))

  pub data IsStraightPlace : TPlace → ℕ → Type 0 where
    variable : {v : ℕ} {t : Ty} {sp : Span} → IsStraightPlace (t_variable v t sp) 1
    element : {b : ArrayVariable} {i : TExpr} {t : Ty} {sp : Span} {n : ℕ} → IsStraight i n → IsStraightPlace (t_element b i t sp) (1 + n)

  -- the array of a packed call
  pub data IsStraightBase : TBase → ℕ → Type 0 where
    whole : {b : ArrayVariable} {sp : Span} → IsStraightBase (t_whole b sp) 1
    from : {b : ArrayVariable} {i : TExpr} {sp : Span} {n : ℕ} → IsStraight i n → IsStraightBase (t_from b i sp) (1 + n)

  pub data AreStraight : TExprs → ℕ → Type 0 where
    no_exprs : AreStraight t_no_exprs 0
    expr_then : {x : TExpr} {xs : TExprs} {n m : ℕ} → IsStraight x n → AreStraight xs m → AreStraight (t_expr_then x xs) (n + m)

-- ---- items, and what stands before a semicolon

pub data IsStraightItem : TItem → ℕ → Type 0 where
  plain : {v : ℕ} {t : Ty} {sp : Span} → IsStraightItem (t_plain v t sp) 1
  with_value : {v : ℕ} {t : Ty} {x : TExpr} {sp : Span} {n : ℕ} → IsStraight x n → IsStraightItem (t_with_value v t x sp) (1 + n)
  with_size : {b : ArrayVariable} {sp : Span} → IsStraightItem (t_with_size b sp) 1

pub data AreStraightItems : List TItem → ℕ → Type 0 where
  no_items : AreStraightItems [] 0
  item_then : {x : TItem} {xs : List TItem} {n m : ℕ} → IsStraightItem x n → AreStraightItems xs m → AreStraightItems (x ∷ xs) (n + m)

pub data IsStraightSimple : TSimple → ℕ → Type 0 where
  value_alone : {x : TExpr} {n : ℕ} → IsStraight x n → IsStraightSimple (t_value x) (1 + n)
  assign : {q : TPlace} {x : TExpr} {sp : Span} {n m : ℕ} → IsStraightPlace q n → IsStraight x m → IsStraightSimple (t_assign q x sp) (1 + (n + m))
  update : {o : BinOp} {e : Elem} {q : TPlace} {x : TExpr} {sp : Span} {n m : ℕ} → IsStraightPlace q n → IsStraight x m → IsStraightSimple (t_update o e q x sp) (1 + (n + m))
  step : {o : BinOp} {e : Elem} {q : TPlace} {sp : Span} {n : ℕ} → IsStraightPlace q n → IsStraightSimple (t_step o e q sp) (1 + n)

-- ---- statements

mutual
  pub data IsStraightStmt : TStmt → ℕ → Type 0 where
    block : {b : TBlock} {n : ℕ} → IsStraightBlock b n → IsStraightStmt (t_block b) n
    declare : {xs : List TItem} {sp : Span} {n : ℕ} → AreStraightItems xs n → IsStraightStmt (t_declare xs sp) (1 + n)
    simple : {x : TSimple} {sp : Span} {n : ℕ} → IsStraightSimple x n → IsStraightStmt (t_simple x sp) n
    print : {w : Span} {text : List ℕ} {xs : List TExpr} {sp : Span} {n : ℕ} → AreStraight (t_exprs xs) n → IsStraightStmt (t_print w text xs sp) (1 + n)
    assert : {x : TExpr} {c sp : Span} {n : ℕ} → IsStraight x n → IsStraightStmt (t_assert x c sp) (1 + n)

  pub data IsStraightBlock : TBlock → ℕ → Type 0 where
    braces : {xs : TStmts} {sp : Span} {n : ℕ} → AreStraightStmts xs n → IsStraightBlock (t_braces xs sp) (1 + n)

  pub data AreStraightStmts : TStmts → ℕ → Type 0 where
    no_stmts : AreStraightStmts t_no_stmts 0
    stmt_then : {x : TStmt} {xs : TStmts} {n m : ℕ} → IsStraightStmt x n → AreStraightStmts xs m → AreStraightStmts (t_stmt_then x xs) (n + m)

-- ---- the law

-- what ends has that much more work
abbrev pub GivesAfter : {A : Type 0} → ℕ → State → Val A → Type 0
GivesAfter n s (Gives x s1) = s1.work ≡ s.work + n
GivesAfter n s (Fails t s1) = Unit {0}
GivesAfter n s (Stops s1) = Unit {0}

abbrev pub WentAfter : ℕ → State → Res → Type 0
WentAfter n s (Went s1 g b c r) = s1.work ≡ s.work + n
WentAfter n s (Trapped t s1) = Unit {0}
WentAfter n s (Cut s1) = Unit {0}

-- Straight code of n nodes and items adds n to the work, over any set that is not empty.
pub record StraightWork : Type 0 where
  pub expression : (gang : ℕ) (frame : Frame) (calls : Calls) (x : TExpr) (n : ℕ) → IsStraight x n → (a : Mask) (s : State) → GivesAfter n s (value gang frame calls x a s)
  pub statement : (gang : ℕ) (frame : Frame) (calls : Calls) (most : ℕ) (x : TStmt) (n : ℕ) → IsStraightStmt x n → (a : Mask) (s : State) → any gang a ≡ true → WentAfter n s (run gang frame calls most x a s)
