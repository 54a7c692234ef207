-- The arrays that instances leave one by one, and the result of the first, fit their types: they are those of the gang's run.
use Rattle.std.proofs.Common.{◌≡◌, sym, ap, subst, ◌∙◌, ℕ, List, [], Some, None}
use Rattle.std.specs.Prelude.{Option}
use Rattle.std.specs.List.{All}
use Rattle.isp_base.specs.Arguments.{rows, rows_now}
use Rattle.isp_base.specs.Outcomes.{Outcome, Ends, Traps, GoesOn}
use Rattle.isp_base.specs.Rows.{Row, Fit}
use Rattle.isp_base.specs.Types.{gang_width}
use Rattle.isp_base.specs.declared.signature.Argument.{Argument}
use Rattle.isp_base.specs.declared.types.Elem.{Elem}
use Rattle.isp_base.specs.declared.types.Value.{Value}
use Rattle.isp_base.proofs.Gangs.{some_width}
use Rattle.isp_typed.specs.Typed.{Program, TFunction}
use Rattle.isp_rates.specs.Accepted.{IsAccepted}
use Rattle.isp_independence.specs.Independent.{IsIndependent}
use Rattle.isp_meaning.specs.Entries.{IsEntry}
use Rattle.isp_meaning.specs.Outcomes.{Val, Gives, Fails, Stops}
use Rattle.isp_meaning.specs.Payloads.{Payload, One}
use Rattle.isp_meaning.specs.State.{State}
use Rattle.isp_meaning.specs.Runs.{answer_as, gives_of, meaning, outcome_of, state_of}
use Rattle.isp_solo_meaning.specs.Answers.{Answer}
use Rattle.isp_solo_meaning.specs.OneByOne.{one_by_one}
use Rattle.isp_solo_meaning.specs.Runs.{solo_run, bound, value_of}
use Rattle.isp_solo_meaning.specs.Touched.{AreApart}
use Rattle.isp_type_laws.specs.Cut.{rows_cut}
use Rattle.isp_type_laws.specs.Fits.{BitsFit, GivenFits, RowsFit}
use Rattle.isp_type_laws.proofs.Runs.{elements_fit, result_fits}
use Rattle.isp_solo_laws.proofs.Entry.{solo_runs_agree}
use Rattle.isp_solo.specs.Left.{rows_left}
use Rattle.isp_solo.specs.Report.{AllEnd, left_upward, upward}
use Rattle.isp_solo.proofs.Cuts.{cut_same, left_is}
use Rattle.isp_solo.proofs.Upward.{upward_left, upward_order}

abbrev left_in : Outcome → List Row
left_in (Ends rs a out) = rs
left_in (Traps t rs out) = rs
left_in (GoesOn out) = []

abbrev given_in : Outcome → Option Value
given_in (Ends rs a out) = a
given_in (Traps t rs out) = None
given_in (GoesOn out) = None

abbrev is_end : Outcome → Type 0
is_end (Ends rs a out) = Unit {0}
is_end (Traps t rs out) = ⊥
is_end (GoesOn out) = ⊥

answer_fits : (t : Option Elem) (m : Payload) (s : State) → GivenFits t (Gives m s) → BitsFit (answer_as t m)
answer_fits None m s h = tt
answer_fits (Some t) m s h = h

-- The rows that a run of the gang leaves are not changed by cutting them, whatever gives their elements; and what it gives fits.
record Fitting (xs : List Argument) (g : ℕ → ℕ → ℕ) (a : Option Value) : Type 0 where
  pub uncut : rows_cut (rows xs) g ≡ rows_now (rows xs) g
  pub given : BitsFit a

outcome_fits : (t : Option Elem) (xs : List Argument) (v : Val Payload) (g : ℕ → ℕ → ℕ) (a : Option Value) → outcome_of t xs v ≡ Ends (rows_now (rows xs) g) a []
    → RowsFit (rows xs) (state_of v).arrays → GivenFits t v → Fitting xs g a
outcome_fits t xs (Gives m s) g a e rows_fit given = record { uncut = cut_same (rows xs) s.arrays g (ap left_in e) rows_fit; given = subst BitsFit (ap given_in e) (answer_fits t m s given) }
outcome_fits t xs (Fails trap s) g a e rows_fit given = absurd (subst is_end (sym e) tt)
outcome_fits t xs (Stops s) g a e rows_fit given = absurd (subst is_end (sym e) tt)

module _ (program : Program) (name : List ℕ) (f : ℕ) (h : TFunction) (xs : List Argument) (n : ℕ) (accepted : IsAccepted program)
    (entry : IsEntry program name xs f h) (independent : IsIndependent program f) (fit : All (λ r. Fit r.elem r.bits) (rows xs)) where
  abbrev alone : ℕ → Answer ℕ
  alone = solo_run program f n xs (bound xs)

  module _ (ends : AllEnd alone (gang_width program.gang)) (apart : AreApart (gang_width program.gang) alone) where
    gang_ends : outcome_of h.gives xs (meaning program f n xs) ≡ Ends (left_upward program f n xs) (answer_as h.gives (One (value_of (alone 0)))) []
    gang_ends =
        sym (ap (λ t. outcome_of (gives_of t) xs (meaning program f n xs)) entry.export.found)
        ∙ solo_runs_agree program name f h xs n accepted entry independent ends apart (upward (gang_width program.gang)) (upward_order (gang_width program.gang)) 0 (some_width program.gang)

    fitting : Fitting xs (one_by_one program f n xs (upward (gang_width program.gang)) (bound xs)) (answer_as h.gives (One (value_of (alone 0))))
    fitting =
        outcome_fits h.gives xs (meaning program f n xs) (one_by_one program f n xs (upward (gang_width program.gang)) (bound xs)) (answer_as h.gives (One (value_of (alone 0)))) gang_ends
        (elements_fit program f h xs n accepted entry.export.found entry.fits fit) (result_fits program f h xs n accepted entry.export.found entry.fits fit)

    pub rows_are : rows_left alone (rows xs) (gang_width program.gang) ≡ left_upward program f n xs
    rows_are = left_is alone (rows xs) fit (gang_width program.gang) ∙ ap (rows_cut (rows xs)) (upward_left program f n xs (bound xs) apart) ∙ fitting.uncut

    pub given_fits : BitsFit (answer_as h.gives (One (value_of (alone 0))))
    given_fits = fitting.given
