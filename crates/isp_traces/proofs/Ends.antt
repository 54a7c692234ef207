-- After the end of a run nothing more is counted and no line more is written.
use Rattle.std.proofs.Common.{◌≡◌, refl, sym, ap, ◌∙◌, subst, ℕ, zero, suc, ◌+◌, ◌-◌, ◌≤◌, [], ◌++◌, arith, Bool}
use Rattle.std.proofs.lemmas.List.{append-nil}
use Rattle.isp_base.specs.declared.trap.Trap.{Trap}
use Rattle.isp_code.specs.Conf.{State, Runs, Trapped, Ended}
use Rattle.isp_code.specs.Listing.{Listing}
use Rattle.isp_code.specs.Machine.{advance, after}
use Rattle.isp_machine.specs.Kept.{Kept, state}
use Rattle.isp_machine.specs.Runs.{IsEnded, IsRunning, IsTrapped, Made, conf}
use Rattle.isp_traces.specs.Steps.{line_between, lines}
use Rattle.isp_traces.specs.Tallies.{in_function, in_group, is_kind, nothing}
use Rattle.isp_traces.specs.declared.tallies.Counts.{Counts}
use Rattle.isp_traces.specs.reader.Adding.{plus}
use Rattle.isp_traces.proofs.Ranges.{lines_more}
use Rattle.isp_traces.proofs.Sums.{AreSums, Chosen, every, plus_nothing, step_tally, tally}

-- the run is at an end
abbrev pub IsOver : State → Type 0
IsOver (Runs c) = ⊥
IsOver (Trapped t c) = Unit {0}
IsOver (Ended x c) = Unit {0}

still : (code : Listing) (s : State) → IsOver s → advance code s ≡ s
still code (Runs c) over = absurd over
still code (Trapped t c) over = refl
still code (Ended x c) over = refl

no_tally : (code : Listing) (chosen : Chosen) (s : State) → IsOver s → step_tally code chosen s ≡ nothing
no_tally code chosen (Runs c) over = absurd over
no_tally code chosen (Trapped t c) over = refl
no_tally code chosen (Ended x c) over = refl

no_line : (code : Listing) (lanes : Bool) (k : ℕ) (s s1 : State) → IsOver s → line_between code lanes k s s1 ≡ []
no_line code lanes k (Runs c) s1 over = absurd over
no_line code lanes k (Trapped t c) s1 over = refl
no_line code lanes k (Ended x c) s1 over = refl

pub trapped_over : (t : Trap) (s : State) → IsTrapped t s → IsOver s
trapped_over t (Runs c) is = is
trapped_over t (Trapped u c) is = tt
trapped_over t (Ended x c) is = tt

pub ended_over : (s : State) → IsEnded s → IsOver s
ended_over (Runs c) is = is
ended_over (Trapped u c) is = tt
ended_over (Ended x c) is = tt

module _ (code : Listing) (s : State) (m : ℕ) (over : IsOver (after code m s)) where
  same_state : (k : ℕ) → after code (k + m) s ≡ after code m s
  same_state zero = let e : zero + m ≡ m = omega arith in ap (λ n. after code n s) e
  same_state (suc k) =
      let e : suc k + m ≡ suc (k + m) = omega arith in
      ap (λ n. after code n s) e ∙ ap (advance code) (same_state k) ∙ still code (after code m s) over

  over_later : (k : ℕ) → IsOver (after code (k + m) s)
  over_later k = subst (λ (z : State). IsOver z) (sym (same_state k)) over

  same_tally : (chosen : Chosen) (k : ℕ) → tally code chosen s (k + m) ≡ tally code chosen s m
  same_tally chosen zero = let e : zero + m ≡ m = omega arith in ap (λ n. tally code chosen s n) e
  same_tally chosen (suc k) =
      let e : suc k + m ≡ suc (k + m) = omega arith in
      ap (λ n. tally code chosen s n) e
      ∙ ap (λ t. plus (tally code chosen s (k + m)) t) (no_tally code chosen (after code (k + m) s) (over_later k))
      ∙ plus_nothing (tally code chosen s (k + m))
      ∙ same_tally chosen k

  same_counts : (k : ℕ) (c : Counts) → AreSums code s m c → AreSums code s (k + m) c
  same_counts k c are =
      record {
        total_is = are.total_is ∙ sym (same_tally every k);
        function_count = are.function_count;
        functions_are = λ f low. are.functions_are f low ∙ sym (same_tally (in_function f) k);
        kind_count = are.kind_count;
        kinds_are = λ j. are.kinds_are j ∙ sym (same_tally (is_kind j) k);
        groups_are = λ g low. are.groups_are g low ∙ sym (same_tally (in_group c.groups.of_places.items g) k);
      }

  pub counts_later : (b : ℕ) (c : Counts) → m ≤ b → AreSums code s m c → AreSums code s b c
  counts_later b c le are = let e : b - m + m ≡ b = omega (arith, le) in subst (λ (n : ℕ). AreSums code s n c) e (same_counts (b - m) c are)

  pub state_later : (b : ℕ) → m ≤ b → after code b s ≡ after code m s
  state_later b le = let e : b ≡ b - m + m = omega (arith, le) in ap (λ n. after code n s) e ∙ same_state (b - m)

  same_lines : (lanes : Bool) (from k n : ℕ) → from + n ≡ m → lines code lanes s from (k + n) ≡ lines code lanes s from n
  same_lines lanes from zero n e = let z : zero + n ≡ n = omega arith in ap (λ i. lines code lanes s from i) z
  same_lines lanes from (suc k) n e =
      let z : suc k + n ≡ suc (k + n) = omega arith in
      let there : from + (k + n) ≡ k + m = omega (arith, e) in
      ap (λ i. lines code lanes s from i) z
      ∙ lines_more code lanes s from (k + n) (from + (k + n)) refl
      ∙ ap (λ t. lines code lanes s from (k + n) ++ t) (no_line code lanes (from + (k + n)) (after code (from + (k + n)) s) _ (subst (λ (i : ℕ). IsOver (after code i s)) (sym there) (over_later k)))
      ∙ append-nil (lines code lanes s from (k + n))
      ∙ same_lines lanes from k n e

  pub lines_later : (lanes : Bool) (from b : ℕ) → from ≤ m → m ≤ b → lines code lanes s from (m - from) ≡ lines code lanes s from (b - from)
  lines_later lanes from b low le =
      let e : b - m + (m - from) ≡ b - from = omega (arith, low, le) in
      let at : from + (m - from) ≡ m = omega (arith, low) in
      sym (same_lines lanes from (b - m) (m - from) at) ∙ ap (λ i. lines code lanes s from i) e

-- so many instructions, of which the last have not been made since the run was at an end
pub made_later : (old now : Kept) (m b : ℕ) → m ≤ b → IsOver (state now) → Made m old now → Made b old now
made_later old now m b le over made =
    record {
      state_is = made.state_is ∙ sym (state_later old.code (state old) m (subst (λ (z : State). IsOver z) made.state_is over) b le);
      code_same = made.code_same;
      given_same = made.given_same;
    }

-- one instruction more
pub made_next : (old mid now : Kept) (m : ℕ) → Made m old mid → Made 1 mid now → Made (suc m) old now
made_next old mid now m p q =
    record {
      state_is = q.state_is ∙ (λ j. advance (p.code_same j) (p.state_is j));
      code_same = q.code_same ∙ p.code_same;
      given_same = q.given_same ∙ p.given_same;
    }

pub running_is : (s : State) → IsRunning s → s ≡ Runs (conf s)
running_is (Runs c) is = refl
running_is (Trapped t c) is = absurd is
running_is (Ended x c) is = absurd is
