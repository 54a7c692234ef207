-- What is taken once: of an expression nothing counts but what it gave when it was taken, so another that gives the same there does
-- the same.
use Rattle.std.specs.Prelude.{◌≡◌, ℕ, List}
use Rattle.isp_base.specs.Sets.{Mask}
use Rattle.isp_base.specs.declared.operators.BinOp.{BinOp}
use Rattle.isp_base.specs.declared.types.Elem.{Elem}
use Rattle.isp_base.specs.declared.types.Span.{Span}
use Rattle.isp_base.specs.declared.types.Ty.{Ty}
use Rattle.isp_typed.specs.declared.variable.ArrayVariable.{ArrayVariable}
use Rattle.isp_typed.specs.Typed.{TExpr, elem_of, t_element, t_assign, t_update, t_step, TRange, TStmt, t_foreach, t_foreach_unique}
use Rattle.isp_meaning.specs.Expressions.{Calls, value}
use Rattle.isp_meaning.specs.Simple.{simple}
use Rattle.isp_meaning.specs.State.{State, Frame, tick}
use Rattle.isp_meaning.specs.Statements.{ranges, run}

-- Two expressions of one type come to the same over a set in a state: the same value, trap or cut, and the same state then.
pub record ComeToTheSame (gang : ℕ) (frame : Frame) (calls : Calls) (x y : TExpr) (a : Mask) (s : State) : Type 0 where
  pub ty : elem_of x ≡ elem_of y
  pub value : value gang frame calls x a s ≡ value gang frame calls y a s

pub record TakenOnce : Type 0 where
  -- the value of a `foreach_unique`, whatever its turns change
  pub unique : (gang : ℕ) (frame : Frame) (calls : Calls) (most : ℕ) (w : Span) (k index : ℕ) (t : Elem) (x y : TExpr) (body : TStmt) (sp : Span) (a : Mask) (s : State)
      → ComeToTheSame gang frame calls x y a (tick s)
      → run gang frame calls most (t_foreach_unique w k index t x body sp) a s ≡ run gang frame calls most (t_foreach_unique w k index t y body sp) a s
  -- the bounds of a `foreach`, whatever its runs change
  pub bounds : (gang : ℕ) (frame : Frame) (calls : Calls) (most : ℕ) (w : Span) (k : ℕ) (qs rs : List TRange) (body : TStmt) (sp : Span) (a : Mask) (s : State)
      → ranges gang frame calls qs a (tick s) ≡ ranges gang frame calls rs a (tick s)
      → run gang frame calls most (t_foreach w k qs body sp) a s ≡ run gang frame calls most (t_foreach w k rs body sp) a s
  -- the index of an element that is assigned, by `=`, by `op=`, by `++` and `--`, whatever the right side changes
  pub assigned : (gang : ℕ) (frame : Frame) (calls : Calls) (b : ArrayVariable) (i j : TExpr) (t : Ty) (at sp : Span) (x : TExpr) (a : Mask) (s : State)
      → ComeToTheSame gang frame calls i j a (tick (tick s))
      → simple gang frame calls (t_assign (t_element b i t at) x sp) a s ≡ simple gang frame calls (t_assign (t_element b j t at) x sp) a s
  pub updated : (gang : ℕ) (frame : Frame) (calls : Calls) (op : BinOp) (e : Elem) (b : ArrayVariable) (i j : TExpr) (t : Ty) (at sp : Span) (x : TExpr) (a : Mask) (s : State)
      → ComeToTheSame gang frame calls i j a (tick (tick s))
      → simple gang frame calls (t_update op e (t_element b i t at) x sp) a s ≡ simple gang frame calls (t_update op e (t_element b j t at) x sp) a s
  pub stepped : (gang : ℕ) (frame : Frame) (calls : Calls) (op : BinOp) (e : Elem) (b : ArrayVariable) (i j : TExpr) (t : Ty) (at sp : Span) (a : Mask) (s : State)
      → ComeToTheSame gang frame calls i j a (tick (tick s))
      → simple gang frame calls (t_step op e (t_element b i t at) sp) a s ≡ simple gang frame calls (t_step op e (t_element b j t at) sp) a s
