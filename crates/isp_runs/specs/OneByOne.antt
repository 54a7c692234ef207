-- What the instances of a function leave one by one, where each can be run alone.
use Rattle.std.specs.Prelude.{ℕ, ◌<◌, List, []}
use Rattle.isp_base.specs.Arguments.{rows, rows_now}
use Rattle.isp_base.specs.Outcomes.{Outcome, Ends}
use Rattle.isp_base.specs.Types.{gang_width}
use Rattle.isp_base.specs.declared.signature.Argument.{Argument}
use Rattle.isp_typed.specs.Typed.{Program, TFunction}
use Rattle.isp_independence.specs.Independent.{IsIndependent}
use Rattle.isp_meaning.specs.Payloads.{One}
use Rattle.isp_meaning.specs.Runs.{answer_as}
use Rattle.isp_solo_meaning.specs.OneByOne.{one_by_one}
use Rattle.isp_solo_meaning.specs.Runs.{solo_run, bound, IsEnded, value_of}
use Rattle.isp_solo_meaning.specs.Touched.{AreApart}

-- A function is an independent entry, and its instances, each run alone from the bound arrays for n turns a loop, end and touch
-- nothing that another stores in.
pub record StandAlone (program : Program) (f : ℕ) (xs : List Argument) (n : ℕ) : Type 0 where
  pub independent : IsIndependent program f
  pub ended : (p : ℕ) → p < gang_width program.gang → IsEnded (solo_run program f n xs (bound xs) p)
  pub apart : AreApart (gang_width program.gang) (solo_run program f n xs (bound xs))

-- the end with the arrays that they leave one by one, in this order, the result of instance p, and no output
abbrev pub left_one_by_one : Program → ℕ → TFunction → List Argument → ℕ → List ℕ → ℕ → Outcome
left_one_by_one program f h xs n ps p =
    Ends (rows_now (rows xs) (one_by_one program f n xs ps (bound xs))) (answer_as h.gives (One (value_of (solo_run program f n xs (bound xs) p)))) []
