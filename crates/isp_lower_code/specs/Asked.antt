-- What is asked of a function at work for the code of a tree, and what the text of code asks of this code: all of it is so of small trees
-- that names, types and rates accept.
use Rattle.std.specs.Prelude.{◌≡◌, ◌<◌, ◌≤◌, ◌+◌, ◌*◌, ℕ, List, length, Option, true}
use Rattle.std.specs.List.{list_all}
use Rattle.isp_base.specs.declared.types.Span.{Span}
use Rattle.isp_base.specs.declared.types.Ty.{Ty}
use Rattle.isp_code.specs.Writable.{constant_in, place_fits}
use Rattle.isp_code.specs.declared.instr.Instr.{Instr}
use Rattle.isp_typed.specs.Fine.{FineExpr, FineSimple}
use Rattle.isp_typed.specs.Nodes.{simple_nodes, typed_nodes}
use Rattle.isp_typed.specs.Typed.{TExpr, TFunction, TSimple}
use Rattle.isp_typed.specs.declared.variable.Variable.{Variable}
use Rattle.isp_lower_code.specs.Asks.{expr_asks, simple_asks}
use Rattle.isp_lower_code.specs.Callees.{rates_in}
use Rattle.isp_lower_code.specs.Code.{expr_code}
use Rattle.isp_lower_code.specs.FirstRows.{Begins, first_rows}
use Rattle.isp_lower_code.specs.Lines.{has_small_number}
use Rattle.isp_lower_code.specs.Own.{HasAll, HasOwn}
use Rattle.isp_lower_code.specs.Rated.{IsRated, SimpleRated}
use Rattle.isp_lower_code.specs.Room.{HasNumbers, masks_with, registers_asked}
use Rattle.isp_lower_code.specs.Rows.{Rows, layout_of}
use Rattle.isp_lower_code.specs.Simple.{simple_code, simple_places}
use Rattle.isp_lower_code.specs.Spans.{expr_places}

-- The numbers that a tree in slot n asks for can be had in a program of at most 16,777,216 functions, and it asks for few registers and masks.
pub record AsksAreFew : Type 0 where
  pub expr_numbers : (fs : List TFunction) (vars : List Variable) (x : TExpr) (n : ℕ) → length fs ≤ 16777216 → FineExpr fs vars x
      → n + 4 * typed_nodes x ≤ 4294967200 → HasNumbers (expr_asks x n)
  pub simple_numbers : (fs : List TFunction) (vars : List Variable) (x : TSimple) (n : ℕ) → length fs ≤ 16777216 → FineSimple fs vars x
      → n + 4 * simple_nodes x + 8 ≤ 4294967200 → HasNumbers (simple_asks x n)
  pub expr_registers : (x : TExpr) (n : ℕ) → registers_asked (expr_asks x n) ≤ 8 * typed_nodes x
  pub simple_registers : (x : TSimple) (n : ℕ) → registers_asked (simple_asks x n) ≤ 8 * simple_nodes x
  pub expr_masks : (x : TExpr) (n m most : ℕ) → m ≤ most → n + 4 * typed_nodes x ≤ most → masks_with m (expr_asks x n) ≤ most
  pub simple_masks : (x : TSimple) (n m most : ℕ) → m ≤ most → n + 4 * simple_nodes x + 8 ≤ most → masks_with m (simple_asks x n) ≤ most

-- registers are added after those that are there
pub record BeginsWith (old new : Rows) : Type 0 where
  pub scalars : Begins old.scalars new.scalars
  pub vectors : Begins old.vectors new.vectors
  pub arrays : Begins old.arrays new.arrays

-- the function has the variables and the arrays that a tree of it names
pub record OwnIsThere : Type 0 where
  pub exprs : (fs : List TFunction) (vars : List Variable) (answer : Option Ty) (rows : Rows) (x : TExpr) (n : ℕ) → BeginsWith (first_rows vars answer) rows
      → FineExpr fs vars x → HasOwn rows (expr_asks x n)
  pub simples : (fs : List TFunction) (vars : List Variable) (answer : Option Ty) (rows : Rows) (x : TSimple) (n : ℕ) → BeginsWith (first_rows vars answer) rows
      → FineSimple fs vars x → HasOwn rows (simple_asks x n)

-- Constants have 64 bits, and each number that is named 32: of an instruction or a place, of which none comes after the last one that can be named.
pub record IsWritten (is : List Instr) (ps : List Span) : Type 0 where
  pub constants : list_all constant_in is ≡ true
  pub numbers : list_all has_small_number is ≡ true
  pub places : list_all place_fits ps ≡ true

-- the code of a tree, from instruction pc and place p on
pub record CodeIsWritten : Type 0 where
  pub exprs : (fs : List TFunction) (vars : List Variable) (rows : Rows) (masks : ℕ) (x : TExpr) (pc p k n : ℕ) → FineExpr fs vars x → IsRated fs x
      → HasAll rows masks (expr_asks x n) → k < masks → pc + length (expr_code (layout_of (rates_in fs) rows) x pc p k n) < 4294967296
      → p + length (expr_places (layout_of (rates_in fs) rows) x) ≤ 4294967296
      → IsWritten (expr_code (layout_of (rates_in fs) rows) x pc p k n) (expr_places (layout_of (rates_in fs) rows) x)
  pub simples : (fs : List TFunction) (vars : List Variable) (rows : Rows) (masks : ℕ) (x : TSimple) (pc p k n : ℕ) → FineSimple fs vars x → SimpleRated fs x
      → HasAll rows masks (simple_asks x n) → k < masks → pc + length (simple_code (layout_of (rates_in fs) rows) x pc p k n) < 4294967296
      → p + length (simple_places (layout_of (rates_in fs) rows) x) ≤ 4294967296
      → IsWritten (simple_code (layout_of (rates_in fs) rows) x pc p k n) (simple_places (layout_of (rates_in fs) rows) x)
