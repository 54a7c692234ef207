-- How a run stands is what it came to.
use Rattle.std.proofs.Common.{◌≡◌, sym, ap, ap₂, ◌∙◌, List, Option}
use Rattle.isp_base.specs.Arguments.{rows, rows_now}
use Rattle.isp_base.specs.Outcomes as base
use Rattle.isp_base.specs.Rows.{Row}
use Rattle.isp_base.specs.declared.signature.Argument.{Argument}
use Rattle.isp_base.specs.declared.trap.Trap.{Trap}
use Rattle.isp_base.specs.declared.types.Elem.{Elem}
use Rattle.isp_base.specs.declared.types.Value.{Value}
use Rattle.isp_meaning.specs.Outcomes.{Val, Gives, Fails}
use Rattle.isp_meaning.specs.Payloads.{Payload}
use Rattle.isp_meaning.specs.Runs.{answer_as, outcome_of, state_of}
use Rattle.isp_type_laws.specs.Fits.{RowsFit}
use Rattle.isp_gang_values.specs.Seen.{payload_of}
use Rattle.isp_gang_values.specs.declared.computed.Computed.{Computed}
use Rattle.isp_gang_run.specs.Runs.{IsRunOf, ended_in}
use Rattle.isp_gang_arrays.specs.Stores.{stores_of}
use Rattle.isp_gang_run.specs.declared.running.Ending.TheVariants as ending
use Rattle.isp_gang_run.specs.declared.running.Run.{Run}
use Rattle.isp_type_laws.specs.Cut.{rows_cut}
use Rattle.isp_type_laws.proofs.Uncut.{fits_cut}

module _ (t : Option Elem) (xs : List Argument) (r : Run) (v : Val Payload) (is : IsRunOf r v) (fit : RowsFit (rows xs) (state_of v).arrays) where
  rows_are : (rs : List Row) → rs ≡ rows_cut (rows xs) (stores_of r.stores.items) → rs ≡ rows_now (rows xs) (state_of v).arrays
  rows_are rs cut = cut ∙ ap (rows_cut (rows xs)) is.arrays ∙ fits_cut (rows xs) (state_of v).arrays fit

  pub gave_as : (m : Computed) (rs : List Row) (a : Option Value) → r.ending ≡ ending.Gave m → rs ≡ rows_cut (rows xs) (stores_of r.stores.items)
      → a ≡ answer_as t (payload_of m) → base.Ends rs a r.output.items ≡ outcome_of t xs v
  gave_as m rs a gave cut answer =
      ap₂ (λ (z : List Row) (b : Option Value). base.Ends z b r.output.items) (rows_are rs cut) answer
      ∙ ap (base.Ends (rows_now (rows xs) (state_of v).arrays) (answer_as t (payload_of m))) is.output
      ∙ ap (outcome_of t xs) (sym came)
    where
      came : v ≡ Gives (payload_of m) (state_of v)
      came = is.ending ∙ ap (λ e. ended_in e (state_of v)) gave

  pub trapped_as : (trap : Trap) (rs : List Row) → r.ending ≡ ending.Trapped trap → rs ≡ rows_cut (rows xs) (stores_of r.stores.items)
      → base.Traps trap rs r.output.items ≡ outcome_of t xs v
  trapped_as trap rs trapped cut =
      ap (λ (z : List Row). base.Traps trap z r.output.items) (rows_are rs cut)
      ∙ ap (base.Traps trap (rows_now (rows xs) (state_of v).arrays)) is.output
      ∙ ap (outcome_of t xs) (sym came)
    where
      came : v ≡ Fails trap (state_of v)
      came = is.ending ∙ ap (λ e. ended_in e (state_of v)) trapped
