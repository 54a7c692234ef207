-- What is taken once: each statement is a function of what its expression came to.
use Rattle.std.proofs.Common.{◌≡◌, ℕ}
use Rattle.isp_base.specs.Sets.{Mask}
use Rattle.isp_base.specs.declared.types.Elem.{Elem}
use Rattle.isp_base.specs.declared.types.Span.{Span}
use Rattle.isp_base.specs.declared.types.Ty.{Ty}
use Rattle.isp_typed.specs.declared.variable.ArrayVariable.{ArrayVariable}
use Rattle.isp_typed.specs.Typed.{TExpr, t_element, TStmt, t_foreach_unique}
use Rattle.isp_meaning.specs.Expressions.{Calls, place}
use Rattle.isp_meaning.specs.State.{State, Frame, tick}
use Rattle.isp_meaning.specs.Statements.{run}
use Rattle.isp_meaning_laws.specs.Taken.{ComeToTheSame, TakenOnce}

module _ (gang : ℕ) (frame : Frame) (calls : Calls) where
  -- the places of elements at such indices
  same_place : (b : ArrayVariable) (i j : TExpr) (t : Ty) (at : Span) (a : Mask) (s : State)
      → ComeToTheSame gang frame calls i j a (tick s) → place gang frame calls (t_element b i t at) a s ≡ place gang frame calls (t_element b j t at) a s
  same_place b i j t at a s h = rw (h.value, h.ty)

  unique : (most : ℕ) (w : Span) (k index : ℕ) (t : Elem) (x y : TExpr) (body : TStmt) (sp : Span) (a : Mask) (s : State)
      → ComeToTheSame gang frame calls x y a (tick s)
      → run gang frame calls most (t_foreach_unique w k index t x body sp) a s ≡ run gang frame calls most (t_foreach_unique w k index t y body sp) a s
  unique most w k index t x y body sp a s h = rw (h.value, h.ty)

pub taken_once : TakenOnce
taken_once = record {
  unique = λ gang frame calls most w k index t x y body sp a s h. unique gang frame calls most w k index t x y body sp a s h;
  bounds = λ gang frame calls most w k qs rs body sp a s h. rw h;
  assigned = λ gang frame calls b i j t at sp x a s h. rw (same_place gang frame calls b i j t at a (tick s) h);
  updated = λ gang frame calls op e b i j t at sp x a s h. rw (same_place gang frame calls b i j t at a (tick s) h);
  stepped = λ gang frame calls op e b i j t at sp a s h. rw (same_place gang frame calls b i j t at a (tick s) h);
}
