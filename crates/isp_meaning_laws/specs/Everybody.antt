-- Where all instances take part: a `foreach` and an `unmasked` do the same, whoever came.
use Rattle.std.specs.Prelude.{◌≡◌, ℕ, List}
use Rattle.isp_base.specs.Sets.{Mask, everyone}
use Rattle.isp_base.specs.declared.types.Span.{Span}
use Rattle.isp_typed.specs.Typed.{TRange, TStmt, t_block, t_foreach, t_unmasked, TBlock}
use Rattle.isp_meaning.specs.Expressions.{Calls}
use Rattle.isp_meaning.specs.Outcomes.{Res, Went, Trapped, Cut, went_all}
use Rattle.isp_meaning.specs.State.{State, Frame, tick}
use Rattle.isp_meaning.specs.Statements.{ranges, run}

-- The first ends where the second does, and all of the set a went on; or both trap, or are cut, in one way and state.
abbrev pub AllGoOn : Mask → Res → Res → Type 0
AllGoOn a (Went s g b c r) (Went t g1 b1 c1 r1) = Went s g b c r ≡ went_all a t
AllGoOn a (Trapped e s) (Trapped d t) = (e ≡ d) × (s ≡ t)
AllGoOn a (Cut s) (Cut t) = s ≡ t
AllGoOn a v w = ⊥

pub record WhoeverComes : Type 0 where
  -- a `foreach`, where the bounds are the same
  pub foreach : (gang : ℕ) (frame : Frame) (calls : Calls) (most : ℕ) (w : Span) (k : ℕ) (rs : List TRange) (x : TStmt) (sp : Span) (a b : Mask) (s : State)
      → ranges gang frame calls rs a (tick s) ≡ ranges gang frame calls rs b (tick s)
      → AllGoOn a (run gang frame calls most (t_foreach w k rs x sp) a s) (run gang frame calls most (t_foreach w k rs x sp) b s)
  -- an `unmasked`, which is its block over all instances
  pub unmasked : (gang : ℕ) (frame : Frame) (calls : Calls) (most : ℕ) (w : Span) (x : TBlock) (sp : Span) (a b : Mask) (s : State)
      → AllGoOn a (run gang frame calls most (t_unmasked w x sp) a s) (run gang frame calls most (t_unmasked w x sp) b s)
  pub as_block : (gang : ℕ) (frame : Frame) (calls : Calls) (most : ℕ) (w : Span) (x : TBlock) (sp : Span) (a : Mask) (s : State)
      → AllGoOn a (run gang frame calls most (t_unmasked w x sp) a s) (run gang frame calls most (t_block x) (everyone gang) (tick s))
