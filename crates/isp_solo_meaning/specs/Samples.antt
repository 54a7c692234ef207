-- What instances do alone on `a[programIndex] = a[programIndex] * 2 + 1;`.
use Rattle.std.specs.Prelude.{◌≡◌, ℕ, List, [], ◌∷◌, true, false, Some, None}
use Rattle.isp_base.specs.Arguments.{rows, rows_now}
use Rattle.isp_base.specs.Rows.{Row}
use Rattle.isp_base.specs.declared.signature.Argument.{Argument}
use Rattle.isp_base.specs.declared.types.Elem.TheVariants.{I32}
use Rattle.isp_base.specs.declared.types.Gang.TheVariants.{W4}
use Rattle.isp_meaning.specs.Samples.{doubles, row}
use Rattle.isp_solo_meaning.specs.Alone.{Alone}
use Rattle.isp_solo_meaning.specs.Answers.{reached}
use Rattle.isp_solo_meaning.specs.Runs.{solo_run, bound}
use Rattle.isp_solo_meaning.specs.OneByOne.{one_by_one}

abbrev arguments : List Argument
arguments = row (1 ∷ 2 ∷ 3 ∷ 4 ∷ []) ∷ []

abbrev pub alone : ℕ → Alone
alone p = reached (solo_run (doubles W4) 0 0 arguments (bound arguments) p)

abbrev pub left_by : List ℕ → List Row
left_by ps = rows_now (rows arguments) (one_by_one (doubles W4) 0 0 arguments ps (bound arguments))

pub record InstancesOfSamples : Type 0 where
  -- instance 2 stores 3 * 2 + 1 in its element, and reads no other
  pub wrote : (alone 2).wrote 0 2 ≡ Some 7
  pub wrote_no_other : (alone 2).wrote 0 1 ≡ None
  pub read : (alone 2).read 0 2 ≡ true
  pub read_no_other : (alone 2).read 0 1 ≡ false
  -- in either order
  pub upward : left_by (0 ∷ 1 ∷ 2 ∷ 3 ∷ []) ≡ record { elem = I32; bits = 3 ∷ 5 ∷ 7 ∷ 9 ∷ [] } ∷ []
  pub downward : left_by (3 ∷ 2 ∷ 1 ∷ 0 ∷ []) ≡ record { elem = I32; bits = 3 ∷ 5 ∷ 7 ∷ 9 ∷ [] } ∷ []
