-- What the library's functions give over a set of instances, from the values of their arguments.
use Rattle.std.specs.Prelude.{ℕ, Option, Some, None, not, if◌then◌else◌, slice_get, List}
use Rattle.isp_base.specs.Sets.{Mask}
use Rattle.isp_base.specs.Maps.{on}
use Rattle.isp_base.specs.Values.{number, op_bits}
use Rattle.isp_base.specs.Unary.{unary_bits}
use Rattle.isp_base.specs.Cross.{extract, broadcast, rotate, shift, shuffle, shuffle_two, insert, exclusive_scan, reduce_add, reduce_best, any_of, all_of, reduce_equal}
use Rattle.isp_base.specs.declared.types.Elem.{Elem}
use Rattle.isp_base.specs.declared.types.Elem.TheVariants.{I32}
use Rattle.isp_base.specs.declared.operators.BinOp.TheVariants as op
use Rattle.isp_base.specs.declared.operators.UnaryOp.TheVariants as unary
use Rattle.isp_typed.specs.declared.library.Library.{Library}
use Rattle.isp_typed.specs.declared.library.Library.TheVariants as library
use Rattle.isp_meaning.specs.Payloads.{Payload, One, Each, is_true, bit, sole, spread, mapped, joined}

-- the value of the k-th argument
abbrev pub or_none : Option Payload → Payload
or_none None = One 0
or_none (Some x) = x

abbrev pub argument : List Payload → ℕ → Payload
argument xs k = or_none (slice_get xs k)

-- one of two values by a test, in each instance
abbrev pub chosen_one : Option ℕ → Option ℕ → Option ℕ → Option ℕ
chosen_one None x y = None
chosen_one (Some c) x y = if is_true c then x else y

abbrev pub chosen_by : Mask → Payload → Payload → Payload → Payload
chosen_by a (One c) x y = if is_true c then x else y
chosen_by a (Each c) x y = Each (λ p. chosen_one (c p) (spread a x p) (spread a y p))

-- the call works in t over the set a; the number of an instance, a rotation and a shift are int32
module _ (gang : ℕ) (t : Elem) (a : Mask) where
  abbrev pub library_value : Library → (x y z : Payload) → Payload
  library_value library.ReduceAdd x y z = One (reduce_add t gang (spread a x))
  library_value library.ReduceMin x y z = One (reduce_best op.Min t gang (spread a x))
  library_value library.ReduceMax x y z = One (reduce_best op.Max t gang (spread a x))
  library_value library.ReduceEqual x y z = One (bit (reduce_equal gang (spread a x)))
  library_value library.Any x y z = One (bit (any_of is_true gang (spread a x)))
  library_value library.All x y z = One (bit (all_of is_true gang (spread a x)))
  library_value library.None x y z = One (bit (not (any_of is_true gang (spread a x))))
  library_value library.ScanAdd x y z = Each (on a (exclusive_scan op.Add t (spread a x)))
  library_value library.ScanAnd x y z = Each (on a (exclusive_scan op.And t (spread a x)))
  library_value library.ScanOr x y z = Each (on a (exclusive_scan op.Or t (spread a x)))
  library_value library.Broadcast x y z = Each (on a (broadcast gang (spread a x) (number I32 (sole y))))
  library_value library.Rotate x y z = Each (on a (rotate gang (spread a x) (number I32 (sole y))))
  library_value library.Shift x y z = Each (on a (shift gang (spread a x) (number I32 (sole y))))
  library_value library.Shuffle x y z = Each (on a (shuffle gang (spread a x) (spread a y)))
  library_value library.ShuffleTwo x y z = Each (on a (shuffle_two gang (spread a x) (spread a y) (spread a z)))
  library_value library.Extract x y z = One (extract gang (spread a x) (number I32 (sole y)))
  library_value library.Insert x y z = Each (on a (insert gang (spread a x) (number I32 (sole y)) (sole z)))
  library_value library.Min x y z = joined (op_bits op.Min t) a x y
  library_value library.Max x y z = joined (op_bits op.Max t) a x y
  library_value library.Clamp x y z = joined (op_bits op.Min t) a (joined (op_bits op.Max t) a x y) z
  library_value library.Abs x y z = mapped (unary_bits unary.Absolute t) x
  library_value library.Select x y z = chosen_by a x y z
