-- The gang and its instances one by one, where each instance has a number of turns of its own.
use Rattle.std.specs.Prelude.{◌≡◌, ℕ, ◌<◌, ◌≤◌, List, []}
use Rattle.isp_base.specs.Arguments.{rows, rows_now}
use Rattle.isp_base.specs.Outcomes.{Ends}
use Rattle.isp_base.specs.Types.{gang_width}
use Rattle.isp_base.specs.declared.signature.Argument.{Argument}
use Rattle.isp_typed.specs.Typed.{Program, TFunction}
use Rattle.isp_rates.specs.Accepted.{IsAccepted}
use Rattle.isp_independence.specs.Independent.{IsIndependent}
use Rattle.isp_meaning.specs.Entries.{IsEntry}
use Rattle.isp_meaning.specs.Payloads.{One}
use Rattle.isp_meaning.specs.Runs.{run_of, answer_as}
use Rattle.isp_solo_meaning.specs.Runs.{solo_run, bound, IsEnded, value_of}
use Rattle.isp_solo_meaning.specs.Touched.{AreApart}
use Rattle.isp_solo_meaning.specs.OneByOne.{one_by_one, IsOrder}

-- Where an entry is independent, and each instance alone ends with its number of turns and touches nothing that another stores
-- in, the gang's run with as many turns as any of them ends with what they leave one by one.
abbrev pub EachWithItsTurns : Type 0
EachWithItsTurns =
    (program : Program) (name : List ℕ) (f : ℕ) (h : TFunction) (xs : List Argument) (turns : ℕ → ℕ) (n : ℕ)
    → IsAccepted program
    → IsEntry program name xs f h
    → IsIndependent program f
    → ((p : ℕ) → p < gang_width program.gang → IsEnded (solo_run program f (turns p) xs (bound xs) p))
    → AreApart (gang_width program.gang) (λ p. solo_run program f (turns p) xs (bound xs) p)
    → ((p : ℕ) → p < gang_width program.gang → turns p ≤ n)
    → (ps : List ℕ)
    → IsOrder (gang_width program.gang) ps
    → (p : ℕ)
    → p < gang_width program.gang
    → run_of program f n xs
    ≡ Ends (rows_now (rows xs) (one_by_one program f n xs ps (bound xs))) (answer_as h.gives (One (value_of (solo_run program f (turns p) xs (bound xs) p)))) []
