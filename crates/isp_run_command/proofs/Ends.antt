-- Whatever stands before a page: why nothing is shown.
use Rattle.std.proofs.Common.{◌≡◌, ℕ, List, true, Ok, subst}
use Rattle.std.specs.Prelude.{Option}
use Rattle.isp_base.specs.Binding.{has_signature}
use Rattle.isp_base.specs.declared.signature.Argument.{Argument}
use Rattle.isp_base.specs.declared.signature.Parameter.{Parameter}
use Rattle.isp_base.specs.declared.types.Elem.{Elem}
use Rattle.isp_code.specs.Entries.{IsExport, parameters_of, result_of}
use Rattle.isp_code.specs.Listing.{Listing, Routine}
use Rattle.isp_runs.specs.Compilation.{IsCompilation}
use Rattle.isp_engine.specs.Stories.{Holds}
use Rattle.isp_run_command.specs.Running.{Binds, HasEnded, IsRefused, NotBegun, NotCalled, NotShown}
use Rattle.isp_run_data.specs.Loading.{Datas, IsLoaded, IsUnloaded}
use Rattle.isp_run_data.specs.Writing.{IsUnplanned, IsUnwritten}
use Rattle.isp_run_stops.specs.Stopping.{IsBadWord}
use Rattle.isp_run_stops.specs.declared.stop.RunStop.{RunStop}
use Rattle.isp_run_stops.specs.declared.stop.RunStop.TheVariants.{BadWord, CannotRead, Source, NoEntry, NotGiven, NotPlanned, Trapped, BudgetUsed, CannotWrite, NoOutput, Memory}
use Rattle.isp_run_words.specs.Giving.{given_by}
use Rattle.isp_run_words.specs.declared.given.Words.{Words}
use Rattle.isp_run_words.specs.declared.request.RunWords.{RunWords}

module _ (datas : Datas) (q : RunWords) (text : List ℕ) where
  pub unloaded : (s : RunStop) → IsUnloaded datas q s → NotShown datas q text s
  unloaded (BadWord w s) h = h
  unloaded (CannotRead name) h = h
  unloaded (Source f) h = absurd h
  unloaded NoEntry h = absurd h
  unloaded (NotGiven w e) h = absurd h
  unloaded (NotPlanned w e) h = absurd h
  unloaded (Trapped t e) h = absurd h
  unloaded BudgetUsed h = absurd h
  unloaded (CannotWrite name) h = absurd h
  unloaded NoOutput h = absurd h
  unloaded Memory h = tt

  pub refused : (s : RunStop) → IsRefused q.gang text s → NotShown datas q text s
  refused (BadWord w s) h = absurd h
  refused (CannotRead name) h = absurd h
  refused (Source f) h = h
  refused NoEntry h = absurd h
  refused (NotGiven w e) h = absurd h
  refused (NotPlanned w e) h = absurd h
  refused (Trapped t e) h = absurd h
  refused BudgetUsed h = absurd h
  refused (CannotWrite name) h = absurd h
  refused NoOutput h = absurd h
  refused Memory h = tt

  pub uncalled : (words : Words) (code : Listing) → IsLoaded datas q.values.items words → IsCompilation q.gang text code → (s : RunStop) → NotCalled code q words s
      → NotShown datas q text s
  uncalled words code loaded compiles (BadWord w s) h = h
  uncalled words code loaded compiles (CannotRead name) h = absurd h
  uncalled words code loaded compiles (Source f) h = absurd h
  uncalled words code loaded compiles NoEntry h = record { words = words; loaded = loaded; code = code; compiles = compiles; not = h }
  uncalled words code loaded compiles (NotGiven w e) h = record { words = words; loaded = loaded; code = code; compiles = compiles; not = h }
  uncalled words code loaded compiles (NotPlanned w e) h = tt
  uncalled words code loaded compiles (Trapped t e) h = absurd h
  uncalled words code loaded compiles BudgetUsed h = absurd h
  uncalled words code loaded compiles (CannotWrite name) h = absurd h
  uncalled words code loaded compiles NoOutput h = absurd h
  uncalled words code loaded compiles Memory h = tt

  pub unwritten : HasEnded datas q text → (s : RunStop) → IsUnwritten s → NotShown datas q text s
  unwritten ended (BadWord w s) h = absurd h
  unwritten ended (CannotRead name) h = absurd h
  unwritten ended (Source f) h = absurd h
  unwritten ended NoEntry h = absurd h
  unwritten ended (NotGiven w e) h = absurd h
  unwritten ended (NotPlanned w e) h = absurd h
  unwritten ended (Trapped t e) h = absurd h
  unwritten ended BudgetUsed h = absurd h
  unwritten ended (CannotWrite name) h = ended
  unwritten ended NoOutput h = absurd h
  unwritten ended Memory h = tt

-- an output that cannot be
pub unplanned : (code : Listing) (q : RunWords) (words : Words) (s : RunStop) → IsUnplanned q s → NotCalled code q words s
unplanned code q words (BadWord w s) h = h
unplanned code q words (CannotRead name) h = absurd h
unplanned code q words (Source f) h = absurd h
unplanned code q words NoEntry h = absurd h
unplanned code q words (NotGiven w e) h = absurd h
unplanned code q words (NotPlanned w e) h = tt
unplanned code q words (Trapped t e) h = absurd h
unplanned code q words BudgetUsed h = absurd h
unplanned code q words (CannotWrite name) h = absurd h
unplanned code q words NoOutput h = absurd h
unplanned code q words Memory h = tt

-- a word that is none of a run
pub unasked : (holds : Holds) (q : RunWords) (s : RunStop) → IsBadWord q s → NotBegun holds q s
unasked holds q (BadWord w s) h = h
unasked holds q (CannotRead name) h = absurd h
unasked holds q (Source f) h = absurd h
unasked holds q NoEntry h = absurd h
unasked holds q (NotGiven w e) h = absurd h
unasked holds q (NotPlanned w e) h = absurd h
unasked holds q (Trapped t e) h = absurd h
unasked holds q BudgetUsed h = absurd h
unasked holds q (CannotWrite name) h = absurd h
unasked holds q NoOutput h = absurd h
unasked holds q Memory h = absurd h

-- words that give what the entry takes
pub bound : (code : Listing) (name : List ℕ) (words : Words) (xs : List Argument) (ps : List Parameter) (gives : Option Elem)
    → ((f : ℕ) × (h : Routine) × IsExport code name f h × (ps ≡ parameters_of h) × (gives ≡ result_of h.returns))
    → has_signature ps xs ≡ true → given_by ps words ≡ Ok xs → Binds code name words xs
bound code name words xs ps gives s fits given =
    let fits = subst (λ l. has_signature l xs ≡ true) s.3 fits in
    let given = subst (λ l. given_by l words ≡ Ok xs) s.3 given in
    record { function = s.0; routine = s.1; entry = record { export = s.2; fits = fits }; given = given }
