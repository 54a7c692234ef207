-- Loops of one instance, and the runs of a `foreach`.
use Rattle.std.specs.Prelude.{ℕ, zero, suc, List, [], ◌∷◌, ℤ}
use Rattle.isp_base.specs.Values.{wrap}
use Rattle.isp_base.specs.declared.types.Elem.TheVariants.{I32}
use Rattle.isp_base.specs.declared.types.Rate.TheVariants.{Varying}
use Rattle.isp_meaning.specs.Payloads.{is_true}
use Rattle.isp_meaning.specs.Rounds.{Run}
use Rattle.isp_solo_meaning.specs.Alone.{Alone, written}
use Rattle.isp_solo_meaning.specs.Answers.{Answer, Going, Broke, Continued, Returned, End, Does, Dies, Lasts, Done, with_answer, choose, then_always}

-- ---- the test, the body and the step as functions of the state

module _ (test : Alone → Answer ℕ) (body : Alone → End) (step : Alone → Answer Done) where
  -- a turn where the test is true, else the loop ends
  abbrev pub tested : (Alone → End) → Alone → End
  tested turn s = with_answer (test s) (λ i s1. choose (is_true i) turn (λ s2. Does s2 Going) s1)

  abbrev pub stepped : (Alone → End) → Alone → End
  stepped turn s = with_answer (step s) (λ _ s1. tested turn s1)

  -- how the body was left: `break` ends the loop alone, `return` the function
  abbrev pub turned : End → (Alone → End) → End
  turned (Does s Going) next = next s
  turned (Does s Broke) next = Does s Going
  turned (Does s Continued) next = next s
  turned (Does s Returned) next = Does s Returned
  turned (Dies t s) next = Dies t s
  turned (Lasts s) next = Lasts s

  -- a turn with n turns left
  abbrev pub turns : ℕ → Alone → End
  turns zero s = Lasts s
  turns (suc n) s = turned (body s) (stepped (turns n))

-- ---- foreach: the runs of the gang in which instance p is on

-- each index is an int32
abbrev pub at_indices : ℕ → List (ℕ × (ℕ → ℤ)) → Alone → Alone
at_indices p [] s = s
at_indices p (x ∷ xs) s = at_indices p xs (written Varying x.0 (wrap I32 (x.1 p)) s)

abbrev pub rounds : (Alone → End) → ℕ → List Run → Alone → End
rounds body p [] s = Does s Going
rounds body p (r ∷ rs) s =
    choose (r.members p) (λ s1. then_always (body (at_indices p r.indices s1)) (rounds body p rs)) (rounds body p rs) s
