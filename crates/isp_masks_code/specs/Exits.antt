-- Who leaves a statement: whether instances may break, continue or return from it. A loop keeps those that break and
-- continue; from a `foreach`, a `foreach_active`, a `foreach_unique` and an `unmasked` nobody leaves.
use Rattle.std.specs.Prelude.{◌≡◌, Option, Some, None, Bool, true, false, not, ◌&&◌, ◌||◌}
use Rattle.isp_base.specs.Sets.{nobody}
use Rattle.isp_meaning.specs.Outcomes.{Res, Went, Trapped, Cut}
use Rattle.isp_tree.specs.declared.stmt.Jump.{Jump}
use Rattle.isp_tree.specs.declared.stmt.Jump.TheVariants.{Break, Continue}
use Rattle.isp_typed.specs.Typed.{TStmt, t_block, t_declare, t_simple, t_if, t_if_else, t_while, t_do, t_for, t_foreach, t_foreach_active, t_foreach_unique}
use Rattle.isp_typed.specs.Typed.{t_unmasked, t_jump, t_return, t_print, t_assert, TBlock, t_braces, TStmts, t_no_stmts, t_stmt_then}
use Rattle.isp_masks_code.specs.declared.exits.Exits.{Exits}
use Rattle.isp_masks_code.specs.declared.exits.Leaving.{Leaving}
use Rattle.isp_masks_code.specs.declared.exits.Leaving.TheVariants.{Never, Always, Maybe}

abbrev pub none_leave : Exits
none_leave = record { breaks = false; continues = false; returns = false }

abbrev pub either_leaves : Exits → Exits → Exits
either_leaves x y =
    record { breaks = x.breaks || y.breaks; continues = x.continues || y.continues; returns = x.returns || y.returns }

-- of a loop
abbrev pub only_returns : Exits → Exits
only_returns x = record { breaks = false; continues = false; returns = x.returns }

abbrev pub jump_exits : Jump → Exits
jump_exits Break = record { breaks = true; continues = false; returns = false }
jump_exits Continue = record { breaks = false; continues = true; returns = false }

abbrev mutual
  pub exits_of : TStmt → Exits
  exits_of (t_block b) = block_exits b
  exits_of (t_declare xs sp) = none_leave
  exits_of (t_simple x sp) = none_leave
  exits_of (t_if f g e x sp) = exits_of x
  exits_of (t_if_else f g e x y sp) = either_leaves (exits_of x) (exits_of y)
  exits_of (t_while f g e x sp) = only_returns (exits_of x)
  exits_of (t_do f g x e sp) = only_returns (exits_of x)
  exits_of (t_for f g first e step i x sp) = only_returns (exits_of x)
  exits_of (t_foreach w g rs x sp) = none_leave
  exits_of (t_foreach_active w g i x sp) = none_leave
  exits_of (t_foreach_unique w g i t e x sp) = none_leave
  exits_of (t_unmasked w b sp) = none_leave
  exits_of (t_jump j w sp) = jump_exits j
  exits_of (t_return w x sp) = record { breaks = false; continues = false; returns = true }
  exits_of (t_print w text xs sp) = none_leave
  exits_of (t_assert x c sp) = none_leave

  pub block_exits : TBlock → Exits
  block_exits (t_braces xs sp) = all_exits xs

  pub all_exits : TStmts → Exits
  all_exits t_no_stmts = none_leave
  all_exits (t_stmt_then x xs) = either_leaves (exits_of x) (all_exits xs)

abbrev pub nobody_leaves : Exits → Bool
nobody_leaves x = not (x.breaks || (x.continues || x.returns))

-- all of a set go on after it, whatever happens
abbrev pub all_go_on : TStmt → Bool
all_go_on x = nobody_leaves (exits_of x)

-- nor from either of two
abbrev pub both_go_on : TStmt → TStmt → Bool
both_go_on x y = all_go_on x && all_go_on y

-- ---- how a part is left

-- the jump that a statement is, in braces or not
abbrev mutual
  pub only_jump : TStmt → Option Jump
  only_jump (t_block b) = block_jump b
  only_jump (t_jump j w sp) = Some j
  only_jump x = None

  pub block_jump : TBlock → Option Jump
  block_jump (t_braces t_no_stmts sp) = None
  block_jump (t_braces (t_stmt_then x t_no_stmts) sp) = only_jump x
  block_jump (t_braces (t_stmt_then x (t_stmt_then y xs)) sp) = None

abbrev pub leaving : Option Jump → Bool → Leaving
leaving (Some j) all = Always j
leaving None true = Never
leaving None false = Maybe

-- all by one jump, nobody, or some
abbrev pub leaving_of : TStmt → Leaving
leaving_of x = leaving (only_jump x) (all_go_on x)

-- where somebody may not leave, that set is empty
abbrev pub Leave : Exits → Res → Type 0
Leave e (Went s g b c r) = (e.breaks ≡ false → b ≡ nobody) × (e.continues ≡ false → c ≡ nobody) × (e.returns ≡ false → r ≡ nobody)
Leave e (Trapped t s) = Unit {0}
Leave e (Cut s) = Unit {0}
