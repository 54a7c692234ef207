-- What the machine answers for code that agrees with a program is what the program means.
use Rattle.std.proofs.Common.{◌≡◌, ◌≢◌, ℕ, ◌<◌, ◌≤◌, List, Result, Ok, Err, refl, sym, subst, ⊎_elim, arith}
use Rattle.std.proofs.lemmas.Bool.{cases_lt}
use Rattle.isp_base.specs.Arguments.{rows}
use Rattle.isp_base.specs.Outcomes.{Outcome, Ends, Traps, GoesOn, out_of, IsOver}
use Rattle.isp_base.specs.Prefixes.{IsPrefix}
use Rattle.isp_base.specs.declared.signature.Parameter.{Parameter}
use Rattle.isp_base.specs.declared.signature.Argument.{Argument}
use Rattle.isp_bind.specs.Binding.{bound_of}
use Rattle.isp_code.specs.Conf as machine
use Rattle.isp_code.specs.Listing.{Listing, Routine}
use Rattle.isp_code.specs.Machine.{first_conf, outcome_after}
use Rattle.isp_meaning.proofs.Grown.{prefix_self, prefix_on}
use Rattle.isp_solo_laws.proofs.Entry.{solo_runs_agree}
use Rattle.isp_meaning.specs.Entries.{IsEntry, IsExport}
use Rattle.isp_meaning.specs.Runs.{run_of}
use Rattle.isp_typed.specs.Typed.{Program, TFunction}
use Rattle.isp_rates.specs.Accepted.{IsAccepted}
use Rattle.isp_masks_code.specs.Agreement.{RunsAgree, EntryAgrees, Agrees}
use Rattle.isp_masks_code.proofs.Lemmas.{longer, grows}
use Rattle.isp_runs.specs.declared.fault.RunFault.{RunFault}
use Rattle.isp_runs.specs.declared.report.Ending.TheVariants.{Running}
use Rattle.isp_runs.specs.declared.report.Report.{Report}
use Rattle.isp_runs.specs.Meaning.{enough, Tells, MeansOf, Means}
use Rattle.isp_runs.specs.Reports.{Reports, Runs, Executes}
use Rattle.isp_runs.proofs.Binds.{short, fits}

-- ---- the report of an outcome

report_out : (ps : List Parameter) (o : Outcome) (r : Report) → Reports ps o r → r.output.items ≡ out_of o
report_out ps (Ends arrays answer out) r h = h.1
report_out ps (Traps t arrays out) r h = h.1
report_out ps (GoesOn out) r h = h.1

report_over : (ps : List Parameter) (o : Outcome) (r : Report) → Reports ps o r → r.ending ≢ Running → IsOver o
report_over ps (Ends arrays answer out) r h ne = tt
report_over ps (Traps t arrays out) r h ne = tt
report_over ps (GoesOn out) r h ne = ne h.0

-- ---- one function

module _ (program : Program) (code : Listing) (f : ℕ) (h : TFunction) (g : Routine) (xs : List Argument) (accepted : IsAccepted program)
    (name : List ℕ) (entry : IsEntry program name xs f h) (agree : RunsAgree program code f g xs) (budget : ℕ) (says : Outcome → Type 0)
    (over : Type 0) (out : List ℕ)
    (said : says (outcome_after code f g xs budget)) (is_over : over → IsOver (outcome_after code f g xs budget)) (out_is : out ≡ out_of (outcome_after code f g xs budget)) where
  abbrev came : ℕ → Outcome
  came m = outcome_after code f g xs m

  abbrev run : ℕ → Outcome
  run n = run_of program f n xs

  abbrev start : machine.State
  start = machine.Runs (first_conf code f g xs)

  -- the output so far is in that of every greater number of instructions
  later : (m : ℕ) → budget ≤ m → IsPrefix out (out_of (came m))
  later m le = subst (λ z. IsPrefix z (out_of (came m))) (sym out_is) (grows code (rows xs) budget m start le)

  -- a run that is over stands at some number of instructions: before the budget is used up, or after it
  so_far_of : (n m : ℕ) → IsOver (run n) → came m ≡ run n → IsPrefix out (out_of (run n))
  so_far_of n m ended e =
      ⊎_elim
      (λ (lt : budget < m). subst (λ o. IsPrefix out (out_of o)) e (later m (omega arith)))
      (λ (le : m ≤ budget). subst (λ o. IsPrefix out (out_of o)) (longer code (rows xs) m budget start (run n) le ended e) (later budget (omega arith)))
      (cases_lt budget m)

  -- the output of a run for whose work there are instructions enough
  out_soon : (n : ℕ) (o : Outcome) → run n ≡ o → IsPrefix (out_of o) (out_of (came (enough program f xs n)))
  out_soon n (Ends arrays answer ys) e = subst (λ o. IsPrefix ys (out_of o)) (sym (agree.soon n (Ends arrays answer ys) tt e)) (prefix_self ys)
  out_soon n (Traps t arrays ys) e = subst (λ o. IsPrefix ys (out_of o)) (sym (agree.soon n (Traps t arrays ys) tt e)) (prefix_self ys)
  out_soon n (GoesOn ys) e = agree.soon_goes_on n ys e

  -- a run that is over, once the budget is enough for its work
  reached : (n : ℕ) → IsOver (run n) → enough program f xs n ≤ budget → says (run n)
  reached n e le = subst says (longer code (rows xs) (enough program f xs n) budget start (run n) le e (agree.soon n (run n) e refl)) said

  pub tells : Tells program f h xs budget says over out
  tells = record {
    only = λ e. let k = agree.over_only budget (came budget) (is_over e) refl in (k.1.0, subst says (sym k.1.1) said);
    reached = reached;
    one_by_one = λ n a ps order p lt le.
        let same = solo_runs_agree program name f h xs n accepted entry a.independent a.ended a.apart ps order p lt in
        subst says same (reached n (subst IsOver (sym same) tt) le);
    so_far = λ n e. let k = agree.over (run n) (e, (n, refl)) in so_far_of n k.0 e k.1;
    so_far_some = let k = agree.so_far budget in (k.0, subst (λ z. IsPrefix z (out_of (run k.0))) (sym out_is) k.1);
    written = λ n le.
        prefix_on (out_of (run n)) (out_of (came (enough program f xs n))) out (out_soon n (run n) refl)
        (subst (λ z. IsPrefix (out_of (came (enough program f xs n))) z) (sym out_is) (grows code (rows xs) (enough program f xs n) budget start le));
  }

-- ---- the function of a name

means_of : (program : Program) (code : Listing) (name : List ℕ) (f : ℕ) (h : TFunction) (g : Routine) → IsAccepted program → IsExport program name f h
    → EntryAgrees program code f h g → (json : List ℕ) (budget : ℕ) (answer : Result Report RunFault) → Runs code f g json budget answer
    → MeansOf program f h json budget answer
means_of program code name f h g accepted e k json budget (Err z) x = λ ne.
    let y = x ne in
    (y.0, subst (λ ps. bound_of ps json ≡ Err y.0) k.parameters y.1, y.2)
means_of program code name f h g accepted e k json budget (Ok r) x =
    let bound : bound_of h.parameters json ≡ Ok x.0 = subst (λ ps. bound_of ps json ≡ Ok x.0) k.parameters x.1 in
    let reports : Reports h.parameters (outcome_after code f g x.0 budget) r = subst (λ ps. Reports ps (outcome_after code f g x.0 budget) r) k.parameters x.2 in
    let sig = fits h.parameters json x.0 bound in
    let entry : IsEntry program name x.0 f h = record { export = e; fits = sig } in
    let came = outcome_after code f g x.0 budget in (
      x.0,
      bound,
      tells program code f h g x.0 accepted name entry (k.runs x.0 sig (short h.parameters json x.0 bound)) budget (λ o. Reports h.parameters o r) (r.ending ≢ Running) r.output.items
          reports (report_over h.parameters came r reports) (report_out h.parameters came r reports),
    )

pub means : (program : Program) (code : Listing) → IsAccepted program → Agrees program code → (entry json : List ℕ) (budget : ℕ) (answer : Result Report RunFault) → Executes code entry json budget answer → Means program entry json budget answer
means program code accepted agrees entry json budget answer x = record {
  none = λ no. x.none (λ f g e. let k = agrees.exports_only entry f g e in no f k.0 k.1);
  runs = λ f h e. let k = agrees.exports entry f h e in means_of program code entry f h k.0 accepted e k.2 json budget answer (x.runs f k.0 k.1);
}
