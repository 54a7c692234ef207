-- Instances that have a number of turns each: with as many as any of them, all runs are the same.
use Rattle.std.proofs.Common.{◌≡◌, ℕ, ◌<◌, sym, ap, subst, ◌∙◌}
use Rattle.std.specs.Prelude.{[], ◌⊎◌}
use Rattle.isp_base.specs.Arguments.{rows, rows_now}
use Rattle.isp_base.specs.Outcomes.{Ends}
use Rattle.isp_base.specs.Types.{gang_width}
use Rattle.isp_meaning.specs.Payloads.{One}
use Rattle.isp_meaning.specs.Runs.{answer_as}
use Rattle.isp_solo_meaning.specs.Answers.{Answer, Has, Bad, Long}
use Rattle.isp_solo_meaning.specs.Longer.{Later}
use Rattle.isp_solo_meaning.specs.OneByOne.{one_by_one}
use Rattle.isp_solo_meaning.specs.Runs.{solo_run, bound, IsEnded, value_of}
use Rattle.isp_solo_meaning.specs.Touched.{Reads, Writes, AreApart}
use Rattle.isp_solo_meaning.proofs.MoreTurns.{more_turns_alone}
use Rattle.isp_solo_laws.specs.Turns.{EachWithItsTurns}
use Rattle.isp_solo_laws.proofs.Entry.{solo_runs_agree}

ended_same : (r later : Answer ℕ) → IsEnded r → Later r later → later ≡ r
ended_same (Has x s) later e same = same
ended_same (Bad t s) later e same = absurd e
ended_same (Long s) later e same = absurd e

-- instances of runs that are equal clash alike
apart_same : (gang : ℕ) (run other : ℕ → Answer ℕ) → ((p : ℕ) → p < gang → run p ≡ other p) → AreApart gang other → AreApart gang run
apart_same gang run other same apart b e c =
    apart b e (record {
      writer = c.writer;
      other = c.other;
      writer_is = c.writer_is;
      other_is = c.other_is;
      two = c.two;
      writes = subst (λ r. Writes r b e) (same c.writer c.writer_is) c.writes;
      touches = subst (λ r. Reads r b e ⊎ Writes r b e) (same c.other c.other_is) c.touches;
    })

pub each_with_its_turns : EachWithItsTurns
each_with_its_turns program name f h xs turns n accepted entry independent ends apart few ps order p lt =
    solo_runs_agree program name f h xs n accepted entry independent all_end (apart_same gang whole each same apart) ps order p lt
    ∙ ap (λ r. Ends (rows_now (rows xs) (one_by_one program f n xs ps (bound xs))) (answer_as h.gives (One (value_of r))) []) (same p lt)
  where
    gang : ℕ
    gang = gang_width program.gang

    whole : ℕ → Answer ℕ
    whole p = solo_run program f n xs (bound xs) p

    each : ℕ → Answer ℕ
    each p = solo_run program f (turns p) xs (bound xs) p

    same : (p : ℕ) → p < gang → whole p ≡ each p
    same p lt = ended_same (each p) (whole p) (ends p lt) (more_turns_alone program f (turns p) n xs (bound xs) p (few p lt))

    all_end : (p : ℕ) → p < gang → IsEnded (whole p)
    all_end p lt = subst IsEnded (sym (same p lt)) (ends p lt)
