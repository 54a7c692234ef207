-- Runs of the machine: an ending stays, and the output only grows.
use Rattle.std.proofs.Common.{◌≡◌, ℕ, zero, suc, ◌+◌, ◌<◌, ◌≤◌, List, [], ◌∷◌, length, refl, sym, ap, ◌∙◌, subst, ⊎_elim, arith}
use Rattle.std.specs.Prelude.{◌-◌}
use Rattle.std.proofs.lemmas.Bool.{cases_lt}
use Rattle.isp_base.specs.Arguments.{tabulate, rows_now}
use Rattle.isp_base.specs.Maps.{Lanes}
use Rattle.isp_base.specs.Outcomes.{Outcome, IsOver, out_of}
use Rattle.isp_base.specs.Prefixes.{IsPrefix}
use Rattle.isp_base.specs.Rows.{Row}
use Rattle.isp_code.specs.Conf.{Conf, Move, Go, Say, Fail, Over, State, Runs, Trapped, Ended}
use Rattle.isp_code.specs.Listing.{Listing}
use Rattle.isp_code.specs.Machine.{step, arrive, advance, after, outcome}
use Rattle.isp_code.proofs.Steps.{after-sum}
use Rattle.isp_meaning.proofs.Grown.{prefix_self, prefix_on}

module _ (code : Listing) (rs : List Row) where
  -- an ending stays
  trapped_stays : (d : ℕ) (t : _) (c : Conf) → after code d (Trapped t c) ≡ Trapped t c
  trapped_stays zero t c = refl
  trapped_stays (suc d) t c = ap (advance code) (trapped_stays d t c)

  ended_stays : (d : ℕ) (x : _) (c : Conf) → after code d (Ended x c) ≡ Ended x c
  ended_stays zero x c = refl
  ended_stays (suc d) x c = ap (advance code) (ended_stays d x c)

  over_stays : (d : ℕ) (z : State) → IsOver (outcome rs z) → after code d z ≡ z
  over_stays d (Runs c) h = absurd h
  over_stays d (Trapped t c) h = trapped_stays d t c
  over_stays d (Ended x c) h = ended_stays d x c

  apart_by : (m n : ℕ) → m ≤ n → n ≡ n - m + m
  apart_by m n le = omega arith

  -- more instructions change nothing of a run that is over
  pub longer : (m n : ℕ) (z : State) (o : Outcome) → m ≤ n → IsOver o → outcome rs (after code m z) ≡ o → outcome rs (after code n z) ≡ o
  longer m n z o le over e =
      ap (λ k. outcome rs (after code k z)) (apart_by m n le) ∙ ap (outcome rs) (after-sum code (n - m) m z) ∙ ap (outcome rs) (over_stays (n - m) (after code m z) (subst IsOver (sym e) over)) ∙ e

  -- so two ends of one run are the same
  pub one_end : (m n : ℕ) (z : State) (o p : Outcome) → IsOver o → IsOver p → outcome rs (after code m z) ≡ o → outcome rs (after code n z) ≡ p → o ≡ p
  one_end m n z o p over_o over_p e f =
      ⊎_elim
      (λ lt. sym (longer m n z o (omega arith) over_o e) ∙ f)
      (λ le. sym e ∙ longer n m z p le over_p f)
      (cases_lt m n)

  -- ---- the output only grows

  arrives : (mv : Move) (c : Conf) → IsPrefix c.out (out_of (outcome rs (arrive code mv c)))
  arrives (Go c1) c = prefix_self c.out
  arrives (Say text c1) c = (text, refl)
  arrives (Fail t) c = prefix_self c.out
  arrives (Over x) c = prefix_self c.out

  advances : (z : State) → IsPrefix (out_of (outcome rs z)) (out_of (outcome rs (advance code z)))
  advances (Runs c) = arrives (step code c) c
  advances (Trapped t c) = prefix_self c.out
  advances (Ended x c) = prefix_self c.out

  grown : (d : ℕ) (z : State) → IsPrefix (out_of (outcome rs z)) (out_of (outcome rs (after code d z)))
  grown zero z = prefix_self (out_of (outcome rs z))
  grown (suc d) z = prefix_on _ _ _ (grown d z) (advances (after code d z))

  pub grows : (m n : ℕ) (z : State) → m ≤ n → IsPrefix (out_of (outcome rs (after code m z))) (out_of (outcome rs (after code n z)))
  grows m n z le =
      let e : after code n z ≡ after code (n - m) (after code m z) = ap (λ k. after code k z) (apart_by m n le) ∙ after-sum code (n - m) m z in
      subst (λ y. IsPrefix (out_of (outcome rs (after code m z))) (out_of (outcome rs y))) (sym e) (grown (n - m) (after code m z))

-- arrays are read from the stores that they are
pub rows_same : (rs : List Row) (f g : ℕ → Lanes) → ((b : ℕ) → b < length rs → f b ≡ g b) → rows_now rs f ≡ rows_now rs g
rows_same [] f g h = refl
rows_same (r ∷ rs) f g h =
    let first : f 0 ≡ g 0 = h 0 (omega arith) in
    ap (λ z. record { elem = r.elem; bits = tabulate (length r.bits) z } ∷ rows_now rs (λ b. f (suc b))) first
    ∙ ap (λ z. record { elem = r.elem; bits = tabulate (length r.bits) (g 0) } ∷ z) (rows_same rs (λ b. f (suc b)) (λ b. g (suc b)) (λ b lt. h (suc b) (omega arith)))
