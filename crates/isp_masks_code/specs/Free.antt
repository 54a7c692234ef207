-- No declaration in a statement names one of some variables, and while there are any, no `foreach` begins. In the body of a `foreach` these are
-- such of its indices as count the lanes of a run, or are known.
use Rattle.std.specs.Prelude.{◌≡◌, ℕ, List, [], ◌∷◌, Option, Some, None, Bool, true, false, ◌||◌, nat_eq}
use Rattle.isp_typed.specs.Typed.{TItem, t_plain, t_with_value, t_with_size, TFirst, t_first_declare, t_first_simple, TRange, TStmt, t_block, t_declare, t_simple, t_if, t_if_else, t_while, t_do, t_for, t_foreach}
use Rattle.isp_typed.specs.Typed.{t_foreach_active, t_foreach_unique, t_unmasked, t_jump, t_return, t_print, t_assert, TBlock, t_braces, TStmts, t_no_stmts, t_stmt_then}

abbrev pub ItemFree : (ℕ → Bool) → TItem → Type 0
ItemFree f (t_plain v t sp) = f v ≡ false
ItemFree f (t_with_value v t x sp) = f v ≡ false
ItemFree f (t_with_size b sp) = Unit {0}

abbrev pub ItemsFree : (ℕ → Bool) → List TItem → Type 0
ItemsFree f [] = Unit {0}
ItemsFree f (x ∷ xs) = ItemFree f x × ItemsFree f xs

abbrev pub FirstFree : (ℕ → Bool) → Option TFirst → Type 0
FirstFree f None = Unit {0}
FirstFree f (Some (t_first_declare xs sp)) = ItemsFree f xs
FirstFree f (Some (t_first_simple x)) = Unit {0}

-- there are no such variables
abbrev pub NoneYet : (ℕ → Bool) → Type 0
NoneYet f = (v : ℕ) → f v ≡ false

-- the index of the last range
abbrev pub last_index_of : List TRange → Option ℕ
last_index_of [] = None
last_index_of (r ∷ []) = Some r.index
last_index_of (r ∷ q ∷ rs) = last_index_of (q ∷ rs)

-- whether a variable is an index
abbrev pub is_index : List TRange → ℕ → Bool
is_index [] v = false
is_index (r ∷ rs) v = nat_eq v r.index || is_index rs v

-- these are indices
abbrev pub AreIndices : List TRange → (ℕ → Bool) → Type 0
AreIndices rs f = (v : ℕ) → f v ≡ true → is_index rs v ≡ true

abbrev mutual
  pub StmtFree : (ℕ → Bool) → TStmt → Type 0
  StmtFree f (t_block b) = BlockFree f b
  StmtFree f (t_declare xs sp) = ItemsFree f xs
  StmtFree f (t_simple x sp) = Unit {0}
  StmtFree f (t_if b g e x sp) = StmtFree f x
  StmtFree f (t_if_else b g e x y sp) = StmtFree f x × StmtFree f y
  StmtFree f (t_while b g e x sp) = StmtFree f x
  StmtFree f (t_do b g x e sp) = StmtFree f x
  StmtFree f (t_for b g first e step m x sp) = FirstFree f first × StmtFree f x
  StmtFree f (t_foreach w g rs x sp) = NoneYet f × ((h : ℕ → Bool) → AreIndices rs h → StmtFree h x)
  StmtFree f (t_foreach_active w g i x sp) = StmtFree f x
  StmtFree f (t_foreach_unique w g i t e x sp) = StmtFree f x
  StmtFree f (t_unmasked w b sp) = BlockFree f b
  StmtFree f (t_jump j w sp) = Unit {0}
  StmtFree f (t_return w x sp) = Unit {0}
  StmtFree f (t_print w text xs sp) = Unit {0}
  StmtFree f (t_assert x c sp) = Unit {0}

  pub BlockFree : (ℕ → Bool) → TBlock → Type 0
  BlockFree f (t_braces xs sp) = StmtsFree f xs

  pub StmtsFree : (ℕ → Bool) → TStmts → Type 0
  StmtsFree f t_no_stmts = Unit {0}
  StmtsFree f (t_stmt_then x xs) = StmtFree f x × StmtsFree f xs
