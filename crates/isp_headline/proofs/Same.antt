-- Code that agrees with a program does the same from the same arguments.
use Rattle.std.proofs.Common.{◌≡◌, ℕ, ◌≤◌, List, refl, sym, subst}
use Rattle.isp_base.specs.Arguments.{rows}
use Rattle.isp_base.specs.Outcomes.{Outcome, Ends, Traps, GoesOn, IsOver, out_of}
use Rattle.isp_base.specs.Prefixes.{IsPrefix}
use Rattle.isp_base.specs.declared.signature.Argument.{Argument}
use Rattle.isp_code.specs.Conf as conf
use Rattle.isp_code.specs.Listing.{Listing, Routine}
use Rattle.isp_code.specs.Machine.{first_conf, outcome_after}
use Rattle.isp_meaning.proofs.Grown.{prefix_self, prefix_on}
use Rattle.isp_meaning.specs.Runs.{run_of}
use Rattle.isp_typed.specs.Typed.{Program}
use Rattle.isp_masks_code.specs.Agreement.{RunsAgree}
use Rattle.isp_masks_code.proofs.Lemmas.{longer}
use Rattle.isp_headline.specs.Headline.{NeverOver, HasWritten, DoesTheSame}

module _ (program : Program) (image : Listing) (f : ℕ) (g : Routine) (xs : List Argument) (agree : RunsAgree program image f g xs) where
  abbrev gang : ℕ → Outcome
  gang n = run_of program f n xs

  abbrev machine : ℕ → Outcome
  machine m = outcome_after image f g xs m

  stays : (m k : ℕ) → m ≤ k → IsOver (machine m) → machine k ≡ machine m
  stays m k le over = longer image (rows xs) m k (conf.Runs (first_conf image f g xs)) (machine m) le over refl

  machine_goes_on : NeverOver gang → NeverOver machine
  machine_goes_on never m over =
      let k = (agree.over_only m (machine m) over refl).1 in
      never k.0 (subst IsOver (sym k.1) over)

  gang_goes_on : NeverOver machine → NeverOver gang
  gang_goes_on never n over =
      let k = agree.over (gang n) (over, (n, refl)) in
      never k.0 (subst IsOver (sym k.1) over)

  -- what a run of so many turns has written
  written : (n : ℕ) (o : Outcome) → gang n ≡ o → HasWritten machine (out_of o)
  written n (Ends arrays answer out) e =
      let k = agree.over (Ends arrays answer out) (tt, (n, e)) in
      (k.0, subst (λ o. IsPrefix out (out_of o)) (sym k.1) (prefix_self out))
  written n (Traps t arrays out) e =
      let k = agree.over (Traps t arrays out) (tt, (n, e)) in
      (k.0, subst (λ o. IsPrefix out (out_of o)) (sym k.1) (prefix_self out))
  written n (GoesOn out) e = agree.goes_on n out e

  machine_writes : (out : List ℕ) → HasWritten gang out → HasWritten machine out
  machine_writes out w =
      let k = written w.0 (gang w.0) refl in
      (k.0, prefix_on out (out_of (gang w.0)) (out_of (machine k.0)) w.1 k.1)

  gang_writes : (out : List ℕ) → HasWritten machine out → HasWritten gang out
  gang_writes out w =
      let k = agree.so_far w.0 in
      (k.0, prefix_on out (out_of (machine w.0)) (out_of (gang k.0)) w.1 k.1)

  pub does_the_same : DoesTheSame (λ n. run_of program f n xs) (outcome_after image f g xs)
  does_the_same = record {
    over = λ o over. (λ c. agree.over o (over, c), λ c. (agree.over_only c.0 o over c.1).1);
    stays = stays;
    goes_on = (machine_goes_on, gang_goes_on);
    output = λ out. (machine_writes out, gang_writes out);
  }
