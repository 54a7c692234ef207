-- Instances one by one, each with a number of turns of its own, leave what they leave with as many turns as any of them.
use Rattle.std.proofs.Common.{◌≡◌, ◌≢◌, ℕ, zero, suc, ◌+◌, ◌<◌, ◌≤◌, ◌⊎◌, inl, inr, Bool, true, false, cond, refl, sym, ap, subst, ◌∙◌, arith}
use Rattle.std.specs.Prelude.{List, [], ◌∷◌, Option, Some, None, nat_eq, count_by, is_some}
use Rattle.std.specs.List.{All}
use Rattle.std.proofs.lemmas.Bool.{cases_eq}
use Rattle.std.proofs.lemmas.Bool.Decides.{nat_tests}
use Rattle.std.proofs.lemmas.List.Recursion.{is_count_by}
use Rattle.std.proofs.lemmas.List.Elements.{All-head, All-tail}
use Rattle.isp_base.specs.Arguments.{rows, rows_now}
use Rattle.isp_base.specs.Maps.{or_old}
use Rattle.isp_base.specs.Outcomes.{Ends}
use Rattle.isp_base.specs.Types.{gang_width}
use Rattle.isp_base.specs.declared.signature.Argument.{Argument}
use Rattle.isp_typed.specs.Typed.{Program, TFunction}
use Rattle.isp_meaning.specs.Entries.{IsEntry}
use Rattle.isp_meaning.specs.Payloads.{One}
use Rattle.isp_meaning.specs.Runs.{run_of, answer_as}
use Rattle.isp_rates.specs.Accepted.{IsAccepted}
use Rattle.isp_solo_meaning.specs.Answers.{Answer, Has, Bad, Long, reached}
use Rattle.isp_solo_meaning.specs.Longer.{Later}
use Rattle.isp_solo_meaning.specs.OneByOne.{one_by_one, IsOrder}
use Rattle.isp_solo_meaning.specs.Runs.{solo_run, bound, after, IsEnded, value_of}
use Rattle.isp_solo_meaning.specs.Touched.{Reads}
use Rattle.isp_solo_meaning.proofs.MoreTurns.{more_turns_alone}
use Rattle.isp_solo_meaning.proofs.Orders.{reads_decide}
use Rattle.isp_solo_laws.proofs.Turns.{each_with_its_turns}
use Rattle.isp_headline.specs.Headline.{EachStandsAlone, ComesTo, behind_each, left_by_each}

-- ---- as many turns as any of the first so many instances

abbrev all_turns : (ℕ → ℕ) → ℕ → ℕ
all_turns turns zero = 0
all_turns turns (suc k) = turns k + all_turns turns k

few_turns : (turns : ℕ → ℕ) (k p : ℕ) → p < k → turns p ≤ all_turns turns k
few_turns turns zero p h = absurd (omega (arith, h))
few_turns turns (suc k) p h = at (cases_eq p k) (few_turns turns k p)
  where
    at : (p ≡ k) ⊎ (p ≢ k) → (p < k → turns p ≤ all_turns turns k) → turns p ≤ turns k + all_turns turns k
    at (inl e) before = subst (λ z. turns p ≤ turns z + all_turns turns k) e (omega arith)
    at (inr ne) before = let rest = before (omega (arith, h, ne)) in omega (arith, rest)

-- ---- how often one is in a list

abbrev often : ℕ → List ℕ → ℕ
often p [] = 0
often p (q ∷ qs) = cond (nat_eq q p) (1 + often p qs) (often p qs)

often_is : (p : ℕ) (ps : List ℕ) → often p ps ≡ count_by (λ q. nat_eq q p) ps
often_is p ps = is_count_by (often p) (λ q. nat_eq q p) refl (λ q qs. refl) ps

more_often : (t : Bool) (n : ℕ) → 1 ≤ n → 1 ≤ cond t (1 + n) n
more_often true n h = omega (arith, h)
more_often false n h = h

less_often : (t : Bool) (n : ℕ) → cond t (1 + n) n ≤ 1 → n ≤ 1
less_often true n h = omega (arith, h)
less_often false n h = h

often_first : (p : ℕ) (ps : List ℕ) → often p (p ∷ ps) ≡ 1 + often p ps
often_first p ps = let t : nat_eq p p ≡ true = grind (arith, nat_tests) in ap (λ b. cond b (1 + often p ps) (often p ps)) t

-- ---- one after another

ended_same : (r later : Answer ℕ) → IsEnded r → Later r later → later ≡ r
ended_same (Has x s) later e same = same
ended_same (Bad t s) later e same = absurd e
ended_same (Long s) later e same = absurd e

module _ (program : Program) (f : ℕ) (xs : List Argument) (turns : ℕ → ℕ) (alone : EachStandsAlone program f xs turns) (n : ℕ) (few : (p : ℕ) → p < gang_width program.gang → turns p ≤ n) where
  abbrev gang : ℕ
  gang = gang_width program.gang

  -- an instance alone, from the bound arrays
  abbrev run : ℕ → Answer ℕ
  run p = solo_run program f (turns p) xs (bound xs) p

  whole : (p : ℕ) → p < gang → solo_run program f n xs (bound xs) p ≡ run p
  whole p lt = ended_same (run p) (solo_run program f n xs (bound xs) p) (alone.ended p lt) (more_turns_alone program f (turns p) n xs (bound xs) p (few p lt))

  -- arrays that are as they were bound where an instance reads
  abbrev Unread : (ℕ → ℕ → ℕ) → ℕ → Type 0
  Unread m q = (b e : ℕ) → Reads (run q) b e → bound xs b e ≡ m b e

  own : (m : ℕ → ℕ → ℕ) (p : ℕ) → Unread m p → solo_run program f (turns p) xs m p ≡ run p
  own m p h = reads_decide program f (turns p) xs (bound xs) m p h

  any : (m : ℕ → ℕ → ℕ) (p : ℕ) → p < gang → Unread m p → solo_run program f n xs m p ≡ run p
  any m p lt h = reads_decide program f n xs (bound xs) m p (λ b e r. h b e (subst (λ z. Reads z b e) (whole p lt) r)) ∙ whole p lt

  -- another that does not clash with it leaves them so
  unread : (m : ℕ → ℕ → ℕ) (p q : ℕ) → p < gang → q < gang → (p ≡ q → ⊥) → Unread m q → Unread (after (run p) m) q
  unread m p q l k two h b e r = at ((reached (run p)).wrote b e) refl
    where
      at : (o : Option ℕ) → (reached (run p)).wrote b e ≡ o → bound xs b e ≡ or_old o (m b e)
      at None w = h b e r
      at (Some x) w = absurd (alone.apart b e (record { writer = p; other = q; writer_is = l; other_is = k; two = two; writes = ap is_some w; touches = inl r }))

  leave_same : (ps : List ℕ) (m : ℕ → ℕ → ℕ) → All (λ p. p < gang) ps → ((q : ℕ) → q < gang → often q ps ≤ 1) → ((q : ℕ) → q < gang → 1 ≤ often q ps → Unread m q) → behind_each program f turns xs ps m ≡ one_by_one program f n xs ps m
  leave_same [] m below once h = refl
  leave_same (p ∷ ps) m below once h =
      ap (λ (r : Answer ℕ). behind_each program f turns xs ps (after r m)) (own m p unread_first)
      ∙ leave_same ps (after (run p) m) (All-tail (λ z. z < gang) p ps below) (λ q k. less_often (nat_eq p q) (often q ps) (once q k)) unread_later
      ∙ ap (λ (r : Answer ℕ). one_by_one program f n xs ps (after r m)) (sym (any m p lt unread_first))
    where
      lt : p < gang
      lt = All-head (λ z. z < gang) p ps below

      unread_first : Unread m p
      unread_first = h p lt (subst (λ z. 1 ≤ z) (sym (often_first p ps)) (omega arith))

      other : (q : ℕ) → 1 ≤ often q ps → p ≡ q → ⊥
      other q k e =
          let twice : 1 + often p ps ≤ 1 = subst (λ z. z ≤ 1) (often_first p ps) (once p lt) in
          let there : 1 ≤ often p ps = subst (λ z. 1 ≤ often z ps) (sym e) k in
          omega (arith, twice, there)

      unread_later : (q : ℕ) → q < gang → 1 ≤ often q ps → Unread (after (run p) m) q
      unread_later q k i = unread m p q lt k (other q i) (h q k (more_often (nat_eq p q) (often q ps) i))

  leaves : (ps : List ℕ) → IsOrder gang ps → behind_each program f turns xs ps (bound xs) ≡ one_by_one program f n xs ps (bound xs)
  leaves ps order = leave_same ps (bound xs) order.below (λ q k. subst (λ z. z ≤ 1) (sym (often_is q ps ∙ order.once q k)) (omega arith)) (λ q k i b e r. refl)

-- the gang ends so
pub gang_comes : (program : Program) (name : List ℕ) (f : ℕ) (h : TFunction) (xs : List Argument) (turns : ℕ → ℕ) → IsAccepted program → IsEntry program name xs f h → EachStandsAlone program f xs turns
    → (ps : List ℕ) → IsOrder (gang_width program.gang) ps → (p : ℕ) → p < gang_width program.gang → ComesTo (λ n. run_of program f n xs) (left_by_each program f h turns xs ps p)
gang_comes program name f h xs turns accepted entry alone ps order p lt = (n, same)
  where
    n : ℕ
    n = all_turns turns (gang_width program.gang)

    few : (q : ℕ) → q < gang_width program.gang → turns q ≤ n
    few q k = few_turns turns (gang_width program.gang) q k

    same : run_of program f n xs ≡ left_by_each program f h turns xs ps p
    same =
        each_with_its_turns program name f h xs turns n accepted entry alone.independent alone.ended alone.apart few ps order p lt
        ∙ ap (λ (m : ℕ → ℕ → ℕ). Ends (rows_now (rows xs) m) (answer_as h.gives (One (value_of (solo_run program f (turns p) xs (bound xs) p)))) []) (sym (leaves program f xs turns alone n few ps order))
