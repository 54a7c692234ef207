-- What the walk before the writers has seen: of each statement who leaves it and how many statements it has, itself among them. A
-- statement stands before its parts, and these stand in order.
use Rattle.std.specs.Prelude.{◌+◌, List, [], ◌∷◌, ◌++◌, length}
use Rattle.isp_typed.specs.Typed.{TStmt, t_block, t_declare, t_simple, t_if, t_if_else, t_while, t_do, t_for, t_foreach, t_foreach_active, t_foreach_unique}
use Rattle.isp_typed.specs.Typed.{t_unmasked, t_jump, t_return, t_print, t_assert, TBlock, t_braces, TStmts, t_no_stmts, t_stmt_then}
use Rattle.isp_masks_code.specs.Exits.{exits_of}
use Rattle.isp_masks.specs.declared.seen.Seen.{Seen}

-- a statement, given what was seen of its parts
abbrev pub seen_with : TStmt → List Seen → List Seen
seen_with x parts = record { exits = exits_of x; size = 1 + length parts } ∷ parts

abbrev mutual
  pub parts_seen : TStmt → List Seen
  parts_seen (t_block b) = block_seen b
  parts_seen (t_declare xs sp) = []
  parts_seen (t_simple x sp) = []
  parts_seen (t_if f g e x sp) = seen_with x (parts_seen x)
  parts_seen (t_if_else f g e x y sp) = seen_with x (parts_seen x) ++ seen_with y (parts_seen y)
  parts_seen (t_while f g e x sp) = seen_with x (parts_seen x)
  parts_seen (t_do f g x e sp) = seen_with x (parts_seen x)
  parts_seen (t_for f g first e step i x sp) = seen_with x (parts_seen x)
  parts_seen (t_foreach w g rs x sp) = seen_with x (parts_seen x)
  parts_seen (t_foreach_active w g i x sp) = seen_with x (parts_seen x)
  parts_seen (t_foreach_unique w g i t e x sp) = seen_with x (parts_seen x)
  parts_seen (t_unmasked w b sp) = block_seen b
  parts_seen (t_jump j w sp) = []
  parts_seen (t_return w x sp) = []
  parts_seen (t_print w text xs sp) = []
  parts_seen (t_assert x c sp) = []

  pub block_seen : TBlock → List Seen
  block_seen (t_braces xs sp) = all_seen xs

  pub all_seen : TStmts → List Seen
  all_seen t_no_stmts = []
  all_seen (t_stmt_then x xs) = seen_with x (parts_seen x) ++ all_seen xs

abbrev pub seen_of : TStmt → List Seen
seen_of x = seen_with x (parts_seen x)
