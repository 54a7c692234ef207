-- Runs of elements: which index counts the lanes, so that their elements stand in a row, and the index as code has it; rows, whose index counts
-- on from a scalar; and the code that reads and writes elements.
use Rattle.std.specs.Prelude.{ℕ, ◌∷◌, [], List, Option, Some, None, Bool, true, false, ◌&&◌, nat_eq}
use Rattle.isp_base.specs.declared.types.Elem.{Elem}
use Rattle.isp_base.specs.declared.types.Elem.TheVariants.{I64}
use Rattle.isp_base.specs.declared.types.Rate.{Rate}
use Rattle.isp_base.specs.declared.types.Rate.TheVariants.{Uniform, Varying}
use Rattle.isp_code.specs.declared.instr.Instr.{Instr}
use Rattle.isp_typed.specs.Typed.{TExpr, t_program_index, t_place, TPlace, t_variable, t_element}
use Rattle.isp_lower_code.specs.Asks.{is_lane}
use Rattle.isp_lower_code.specs.Layout.{Layout}
use Rattle.isp_lower_code.specs.Found.{index, index_of}
use Rattle.isp_lower_code.specs.Instructions.{constant, read_by, write_by}
use Rattle.isp_lower_code.specs.RowCode.{row_read, row_write}

-- How code comes to an element: by one instruction, as a run or by the index of each; or by the code of a row.
pub data Access : Type 0 where
  By : Bool → Access
  Row : Access

-- Where all lanes share the array, an index that the layout takes as a row is one.
abbrev pub takes_row : Bool → Rate → Rate → Bool
takes_row false g r = false
takes_row true Varying r = false
takes_row true Uniform Uniform = false
takes_row true Uniform Varying = true

abbrev pub access_by : Bool → Bool → Access
access_by true z = Row
access_by false z = By z

module _ (l : Layout) where
  -- whether a variable counts the lanes of a run in which code is
  abbrev pub names : Option ℕ → ℕ → Bool
  names None v = false
  names (Some i) v = nat_eq v i

  abbrev pub is_counter : Rate → ℕ → Bool
  is_counter Uniform v = false
  is_counter Varying v = l.in_run && names l.run v

  abbrev pub place_counts : TPlace → Bool
  place_counts (t_variable v t sp) = is_counter t.rate v
  place_counts (t_element b i t sp) = false

  -- an index that counts the lanes, with nothing around it
  abbrev pub counts : TExpr → Bool
  counts (t_program_index sp) = true
  counts (t_place q) = place_counts q
  counts x = false

  -- the lanes' elements of an array stand in a row where all share it and the index counts the lanes
  abbrev pub is_run : Rate → TExpr → Bool
  is_run Uniform i = counts i
  is_run Varying i = false

  -- where the number of the first of them is, and how it comes there
  abbrev pub start_in : Bool → ℕ → ℕ
  start_in true n = l.spare Uniform I64 n
  start_in false n = l.place Uniform

  abbrev pub start_code : Bool → ℕ → List Instr
  start_code true n = constant (l.spare Uniform I64 n) I64 0 ∷ []
  start_code false n = []

  -- an index as code has it: of a run of elements, the number of the first one
  abbrev pub index_by : Bool → Rate → TExpr → ℕ → ℕ
  index_by true r i n = start_in (is_lane i) n
  index_by false r i n = index l r i n

  abbrev pub index_by_of : Bool → Rate → TExpr → ℕ → ℕ → List Instr → List Instr
  index_by_of true r i k n code = start_code (is_lane i) n
  index_by_of false r i k n code = index_of l r i k n code

  -- of an element of the second rate, of an array of the first, with its index at slot n
  abbrev pub access : Rate → Rate → TExpr → ℕ → Access
  access g r i n = access_by (takes_row (l.is_row i n) g r) (is_run g i)

  -- the register from which it is reached, and the code that leaves it there
  abbrev pub reached : Access → Rate → TExpr → ℕ → ℕ
  reached (By z) r i n = index_by z r i n
  reached Row r i n = l.row_at i n

  abbrev pub reached_of : Access → Rate → TExpr → (pc p k n : ℕ) → List Instr → List Instr
  reached_of (By z) r i pc p k n code = index_by_of z r i k n code
  reached_of Row r i pc p k n code = l.row i pc p k n

  -- An element of array b is read into register d, or gets what register v has; x is that register, t the type of the index, and slots from m on
  -- are free.
  abbrev pub read_from : Access → Elem → Rate → (d b x p pc k m : ℕ) → List Instr
  read_from (By z) t r d b x p pc k m = read_by z r d b x k p ∷ []
  read_from Row t r d b x p pc k m = row_read l t x d b p pc k m

  abbrev pub write_from : Access → Elem → Rate → (b x v p pc k m : ℕ) → List Instr
  write_from (By z) t r b x v p pc k m = write_by z r b x v k p ∷ []
  write_from Row t r b x v p pc k m = row_write l t x v b p pc k m
