-- An element of an array that all lanes share, at an index that counts on from a scalar (isp_steady): where no lane passes the greatest value of
-- the index's type, which one test of the scalar says, the elements stand in a row, and one instruction reads or writes them as a run; else
-- each lane's own index does. So are elements read and written at indices that a layout takes as rows.
use Rattle.std.specs.Prelude.{◌≡◌, ◌≢◌, ◌<◌, ◌≤◌, ℕ, ◌+◌, length, Some, slice_get}
use Rattle.isp_base.specs.Maps.{on}
use Rattle.isp_base.specs.Sets.{Mask}
use Rattle.isp_base.specs.declared.trap.TrapKind.TheVariants.{Index}
use Rattle.isp_base.specs.declared.types.Elem.{Elem}
use Rattle.isp_base.specs.declared.types.Rate.TheVariants.{Uniform, Varying}
use Rattle.isp_base.specs.declared.types.Span.{Span}
use Rattle.isp_code.specs.Conf.{Conf}
use Rattle.isp_code.specs.Listing.{Listing, Routine}
use Rattle.isp_typed.specs.Fine.{HoldsArray}
use Rattle.isp_typed.specs.declared.variable.ArrayVariable.{ArrayVariable}
use Rattle.isp_meaning.specs.Outcomes.{Gives, bind, checked}
use Rattle.isp_meaning.specs.Payloads.{Each, Payload}
use Rattle.isp_meaning.specs.Places.{Element, Place, held, kept, outside}
use Rattle.isp_meaning.specs.State.{State}
use Rattle.isp_steady.specs.Known.{counted_on}
use Rattle.isp_lower_code.specs.Fits.{InTable}
use Rattle.isp_lower_code.specs.Layout.{Layout}
pub use Rattle.isp_lower_code.specs.RowCode.{last_start, room_test, lane_indices, row_code, row_read, row_write, row_asks, IsRowType}
use Rattle.isp_lower_code.specs.Runs.{DoneRuns, Enters, Runs}
use Rattle.isp_lower_code.specs.Setting.{Setting, IsSettled, AreAt, Holds, gang_of}
use Rattle.isp_lower_code.specs.Sound.{AreSound, Granted, HasArray, IsRegister}
use Rattle.isp_lower_code.specs.Tables.{IsTyped}

-- An access begins here: the array is one that all lanes share, register x has the scalar, a spare one of no slot from m on, and the registers
-- are there.
pub record RowFits (w : Setting) (y : ArrayVariable) (t : Elem) (x n m : ℕ) : Type 0 where
  pub held : HoldsArray w.function.variables y
  pub shared : y.ty.rate ≡ Uniform
  pub row : IsRowType t
  pub typed : IsTyped w Uniform x t
  pub table : InTable w (row_asks t m)
  pub free : n ≤ m
  pub away : (e : Elem) (j : ℕ) → m ≤ j → x ≢ w.layout.spare Uniform e j

-- the place of the elements, where member p has the index u + p, wrapped in its type
abbrev pub row_place : ArrayVariable → Elem → ℕ → Mask → Place
row_place y t u a = Element y t (Each (on a (counted_on t u)))

-- Such code reads the elements that these indices mean, or traps as they do, in twelve steps.
abbrev pub RowReads : Type 0
RowReads =
    (w : Setting) → IsSettled w → (y : ArrayVariable) (t e : Elem) (x pc p k n m q : ℕ) (sp : Span) (a : Mask) (s : State) (c : Conf)
    → RowFits w y t x n m
    → AreAt w.routine.code pc (row_read w.layout t x (w.layout.spare Varying e n) (w.layout.array y.number) p pc k m)
    → slice_get w.code.places p ≡ Some sp → Enters w pc k n a s c (12 + q)
    → Runs w c (pc + length (row_read w.layout t x (w.layout.spare Varying e n) (w.layout.array y.number) p pc k m)) n q
    (Holds Varying a (w.layout.spare Varying e n))
    (checked (outside (gang_of w) w.frame (row_place y t (c.scalars x) a) a) Index sp s (held (gang_of w) w.frame (row_place y t (c.scalars x) a) a s))

-- And it writes a value into them, which register v holds, a spare one of no slot from m on.
abbrev pub RowWrites : Type 0
RowWrites =
    (w : Setting) → IsSettled w → (y : ArrayVariable) (t : Elem) (x v pc p k n m q : ℕ) (sp : Span) (a : Mask) (z : Payload) (s : State) (c : Conf)
    → RowFits w y t x n m → ((e : Elem) (j : ℕ) → m ≤ j → v ≢ w.layout.spare Varying e j) → Holds Varying a v z c
    → AreAt w.routine.code pc (row_write w.layout t x v (w.layout.array y.number) p pc k m) → slice_get w.code.places p ≡ Some sp
    → Enters w pc k n a s c (12 + q)
    → DoneRuns w c (pc + length (row_write w.layout t x v (w.layout.array y.number) p pc k m)) n q
    (bind (checked (outside (gang_of w) w.frame (row_place y t (c.scalars x) a) a) Index sp s z) (λ b s1. Gives tt (kept (gang_of w) w.frame (row_place y t (c.scalars x) a) a b s1)))

-- What such code asks for is there, from instruction pc on.
pub record RowThere (code : Listing) (h : Routine) (l : Layout) (y : ArrayVariable) (t : Elem) (x pc p k m : ℕ) : Type 0 where
  pub array : HasArray h l y
  pub shared : y.ty.rate ≡ Uniform
  pub row : IsRowType t
  pub scalar : IsRegister h Uniform x t
  pub granted : Granted h l (row_asks t m)
  pub mask : k < h.masks
  pub place : p < length code.places
  pub ends : pc + 12 < length h.code

-- So each instruction of it has its operands.
pub record RowsSound : Type 0 where
  pub reads : (code : Listing) (h : Routine) (l : Layout) (y : ArrayVariable) (t : Elem) (x pc p k m d : ℕ) → RowThere code h l y t x pc p k m
      → IsRegister h Varying d y.ty.elem → AreSound code h (row_read l t x d (l.array y.number) p pc k m)
  pub writes : (code : Listing) (h : Routine) (l : Layout) (y : ArrayVariable) (t : Elem) (x pc p k m v : ℕ) → RowThere code h l y t x pc p k m
      → IsRegister h Varying v y.ty.elem → AreSound code h (row_write l t x v (l.array y.number) p pc k m)
