-- What the laws ask of a call of a compiled function.
use Rattle.std.specs.Prelude.{◌≡◌, ◌≤◌, ◌<◌, ℕ, suc, ◌+◌, List, length, Some, true, false, slice_get}
use Rattle.isp_base.specs.Sets.{Mask}
use Rattle.isp_base.specs.declared.types.Elem.{Elem}
use Rattle.isp_base.specs.declared.types.Elem.TheVariants.{I32}
use Rattle.isp_base.specs.declared.types.Rate.{Rate}
use Rattle.isp_base.specs.declared.types.Rate.TheVariants.{Uniform}
use Rattle.isp_code.specs.Conf.{Conf}
use Rattle.isp_code.specs.Registers.{elem_of}
use Rattle.isp_typed.specs.Fine.{FineExpr, HoldsArray}
use Rattle.isp_typed.specs.Typed.{TExpr, TRange, type_of}
use Rattle.isp_typed.specs.declared.variable.ArrayVariable.{ArrayVariable}
use Rattle.isp_meaning.specs.Calls.{most_calls}
use Rattle.isp_meaning.specs.Expressions.{value}
use Rattle.isp_meaning.specs.State.{State}
use Rattle.isp_steady.specs.Known.{is_known}
use Rattle.isp_steady.specs.Values.{IsCounted}
use Rattle.isp_lower_code.specs.Callees.{rates_in}
use Rattle.isp_lower_code.specs.Fits.{InTable}
use Rattle.isp_lower_code.specs.Indices.{AreApart, EachIndex}
use Rattle.isp_lower_code.specs.Layout.{IsApart, register}
use Rattle.isp_lower_code.specs.RowCode.{IsRowType, row_asks, row_index_asks}
use Rattle.isp_lower_code.specs.Runs.{Enters, Runs}
use Rattle.isp_lower_code.specs.Spans.{expr_places}
use Rattle.isp_lower_code.specs.Tables.{IsTyped}
pub use Rattle.isp_lower_code.specs.Held.{at_rate, held_at, Holds, ConstantsHold}
pub use Rattle.isp_lower_code.specs.Standing.{Setting, with_turns, gang_of, Allowed, calls_of, ArrayFitsAt, ArrayFits, AreAt, IsAt, At, IsCalling, CallsRun, is_constant, IsCounter, IsKnownIn, IsUniform, IsVarying, KnownHold, StandsFor, IsOther, OtherAt, Stands, SparesStay, Spares}

-- A scalar register that stays as it is while slots after n are used: that of a uniform variable, of a known one, of a constant that is kept, or a
-- spare one of slot n.
pub data IsScalar (w : Setting) (n x : ℕ) : Type 0 where
  OfUniform : (v : ℕ) → IsUniform w.function.variables v → x ≡ w.layout.variable Uniform v → IsScalar w n x
  OfKnown : (v : ℕ) → is_known (w.layout.known v) ≡ true → x ≡ w.layout.variable Uniform v → IsScalar w n x
  OfConstant : (t : Elem) (b : ℕ) → w.layout.kept Uniform t b ≡ true → x ≡ w.layout.constant Uniform t b → IsScalar w n x
  OfSlot : (t : Elem) → x ≡ w.layout.spare Uniform t n → IsScalar w n x

-- The code of an index that is taken as a row at slot n leaves the scalar from which the index counts on, for the members of the mask, or traps as
-- the index does. What accesses need stands in the table: one that is read tests at the slot after it, one that is written two or three after.
pub record RowRuns (w : Setting) (i : TExpr) (n : ℕ) : Type 0 where
  pub row : IsRowType (type_of i).elem
  pub typed : IsTyped w Uniform (w.layout.row_at i n) (type_of i).elem
  pub scalar : IsScalar w n (w.layout.row_at i n)
  pub table : (m : ℕ) → n < m → m ≤ n + 3 → InTable w (row_asks (type_of i).elem m)
  pub runs : (pc p k q : ℕ) (a : Mask) (s : State) (c : Conf) → AreAt w.routine.code pc (w.layout.row i pc p k n)
      → AreAt w.code.places p (expr_places w.layout i) → Enters w pc k n a s c q
      → Runs w c (pc + length (w.layout.row i pc p k n)) n (4 + q)
      (λ m c'. IsCounted (type_of i).elem a (c'.scalars (w.layout.row_at i n)) m)
      (value (gang_of w) w.frame (calls_of w) i a s)

-- A `foreach` may set the scalars of its indices: they are different variables that no packed load writes, their scalar registers have the type
-- of an index; and where the layout says that the registers of a row are there, they are in the table.
pub record MaySet (w : Setting) (rs : List TRange) : Type 0 where
  pub apart : AreApart rs
  pub typed : EachIndex (λ i. IsTyped w Uniform (w.layout.variable Uniform i) I32) rs
  pub unloaded : EachIndex (λ i. w.layout.loaded i ≡ false) rs
  pub there : (i : TExpr) (n : ℕ) → w.layout.there i n ≡ true → InTable w (row_index_asks i n)

-- The routine is that of the call, its registers are apart, it hands over as the functions' parameters ask, and its arrays
-- are those of the function's variables, with the same stores open on both sides; those that run and those that may still
-- run are as many calls as there may be; a call from here does what it means; the registers of constants that are kept have
-- their types; what is known is of constants; the code of indices that are taken as rows does what they mean; and where a `foreach` sets scalars
-- of its indices, it may.
pub record IsSettled (w : Setting) : Type 0 where
  pub gang : w.code.gang ≡ w.program.gang
  pub found : slice_get w.code.routines w.home.fn ≡ Some w.routine
  pub apart : IsApart w.layout
  pub rates : w.layout.rates ≡ rates_in w.program.functions
  pub deep : w.left + suc (length w.waiting) ≡ most_calls
  pub answer : w.frame.answer ≡ w.function.answer
  pub opened : w.home.opened ≡ w.frame.opened
  pub sizes : w.home.sizes ≡ w.frame.sizes
  pub arrays : (b : ArrayVariable) → HoldsArray w.function.variables b → ArrayFits w b
  pub calls : CallsRun w
  pub counter : (i : ℕ) → w.layout.run ≡ Some i → IsCounter w i
  pub known : (v : ℕ) → is_known (w.layout.known v) ≡ true → IsKnownIn w v
  pub constants : (r : Rate) (t : Elem) (b : ℕ) → w.layout.kept r t b ≡ true → elem_of w.routine (register r (w.layout.constant r t b)) ≡ t
  pub rows : (i : TExpr) (n : ℕ) → FineExpr w.program.functions w.function.variables i → w.layout.is_row i n ≡ true → RowRuns w i n
  pub sets : (rs : List TRange) → w.layout.sets rs ≡ true → MaySet w rs
