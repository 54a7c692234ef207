-- The sums step by step are what the executed instructions come to.
use Rattle.std.proofs.Common.{◌≡◌, refl, sym, ap, ◌∙◌, ℕ, zero, suc, ◌+◌, ◌<◌, Bool, true, false, cond, Option, Some, None, List, [], ◌∷◌, ◌++◌, length, get_or, arith, is_some}
use Rattle.std.specs.Prelude.{if◌then◌else◌, filter, sum_by, count_by, unwrap_or}
use Rattle.std.specs.List.{cons_option, filter_map, range_with_len}
use Rattle.std.proofs.lemmas.List.{length-append}
use Rattle.std.proofs.lemmas.List.Elements.{filter-append, filter_map-append}
use Rattle.std.proofs.lemmas.List.FromFn.{fill_by_all}
use Rattle.std.proofs.lemmas.List.Sums.{sum_by-append}
use Rattle.isp_code.specs.Conf.{State, Runs, Trapped, Ended}
use Rattle.isp_code.specs.Listing.{Listing}
use Rattle.isp_code.specs.Machine.{after}
use Rattle.isp_traces.specs.Executed.{as_executed, executed, instr_at, next}
use Rattle.isp_traces.specs.Kinds.{number_of}
use Rattle.isp_traces.specs.Tallies.{AreCounts, all_kinds, in_function, in_group, is_kind, is_masked, lanes_used, nothing, tally_of}
use Rattle.isp_traces.specs.declared.counting.Executed.{Executed}
use Rattle.isp_traces.specs.declared.kinds.Kind.TheVariants.{Scalars}
use Rattle.isp_traces.specs.declared.tallies.Counts.{Counts}
use Rattle.isp_traces.specs.declared.tallies.Tally.{Tally}
use Rattle.isp_traces.specs.reader.Adding.{one, plus}
use Rattle.isp_traces.proofs.Ranges.{range_more}
use Rattle.isp_traces.proofs.Sums.{AreSums, Chosen, counted, every, step_tally, tally}

-- one step more
executed_more : (code : Listing) (s : State) (m : ℕ) → executed code s (suc m) ≡ executed code s m ++ cons_option (next code (after code m s)) []
executed_more code s m =
    let z : 0 + m ≡ m = omega arith in
    let h : ℕ → Option Executed = λ k. next code (after code k s) in
    ap (λ (xs : List ℕ). filter_map h xs) (range_more 0 m m z) ∙ filter_map-append h (range_with_len 0 m) (m ∷ [])

-- what two lists come to together
tally_append : (xs ys : List Executed) → tally_of (xs ++ ys) ≡ plus (tally_of xs) (tally_of ys)
tally_append xs ys =
    ap (λ (n : ℕ). record { instructions = n; masked = count_by is_masked (xs ++ ys); lanes_on = sum_by lanes_used (xs ++ ys) }) (length-append xs ys)
    ∙ ap (λ (n : ℕ). record { instructions = length xs + length ys; masked = n; lanes_on = sum_by lanes_used (xs ++ ys) }) (sum_by-append (λ (e : Executed). cond (is_masked e) 1 0) xs ys)
    ∙ ap (λ (n : ℕ). record { instructions = length xs + length ys; masked = count_by is_masked xs + count_by is_masked ys; lanes_on = n }) (sum_by-append lanes_used xs ys)

one_is : (o : Option ℕ) → one o ≡ record { instructions = 1; masked = 0 + cond (is_some o) 1 0; lanes_on = 0 + unwrap_or o 0 }
one_is None = refl
one_is (Some on) = let z : on ≡ 0 + on = omega arith in ap (λ (n : ℕ). record { instructions = 1; masked = 1; lanes_on = n }) z

one_or_none : (b : Bool) (e : Executed) → (if b then one e.on else nothing) ≡ tally_of (cond b (e ∷ []) [])
one_or_none true e = one_is e.on
one_or_none false e = refl

counted_is : (chosen : Chosen) (o : Option Executed) → counted chosen o ≡ tally_of (filter chosen (cons_option o []))
counted_is chosen None = refl
counted_is chosen (Some e) = one_or_none (chosen e) e

step_is : (code : Listing) (chosen : Chosen) (s : State) → step_tally code chosen s ≡ tally_of (filter chosen (cons_option (next code s) []))
step_is code chosen (Runs c) = counted_is chosen (as_executed code c (instr_at code c))
step_is code chosen (Trapped t c) = refl
step_is code chosen (Ended x c) = refl

sum_is : (code : Listing) (chosen : Chosen) (s : State) (m : ℕ) → tally code chosen s m ≡ tally_of (filter chosen (executed code s m))
sum_is code chosen s zero = refl
sum_is code chosen s (suc m) =
    let new : List Executed = cons_option (next code (after code m s)) [] in
    ap (λ (t : Tally). plus t (step_tally code chosen (after code m s))) (sum_is code chosen s m)
    ∙ ap (λ (t : Tally). plus (tally_of (filter chosen (executed code s m))) t) (step_is code chosen (after code m s))
    ∙ sym (tally_append (filter chosen (executed code s m)) (filter chosen new))
    ∙ ap tally_of (sym (filter-append chosen (executed code s m) new))
    ∙ ap (λ (es : List Executed). tally_of (filter chosen es)) (sym (executed_more code s m))

filter_every : (es : List Executed) → filter every es ≡ es
filter_every [] = refl
filter_every (e ∷ es) = ap (λ (ds : List Executed). e ∷ ds) (filter_every es)

number_at : (j : ℕ) → j < 8 → number_of (get_or all_kinds j Scalars) ≡ j
number_at zero low = refl
number_at (suc zero) low = refl
number_at (suc (suc zero)) low = refl
number_at (suc (suc (suc zero))) low = refl
number_at (suc (suc (suc (suc zero)))) low = refl
number_at (suc (suc (suc (suc (suc zero))))) low = refl
number_at (suc (suc (suc (suc (suc (suc zero)))))) low = refl
number_at (suc (suc (suc (suc (suc (suc (suc zero))))))) low = refl
number_at (suc (suc (suc (suc (suc (suc (suc (suc n)))))))) low = absurd (omega (arith, low))

pub sums_counted : (code : Listing) (s : State) (m : ℕ) (c : Counts) → AreSums code s m c → AreCounts code s m c
sums_counted code s m c are =
    let of_function : ℕ → Tally = λ f. tally_of (filter (in_function f) (executed code s m)) in
    let of_group : ℕ → Tally = λ g. tally_of (filter (in_group c.groups.of_places.items g) (executed code s m)) in
    let of_number : ℕ → Tally = λ j. tally_of (filter (is_kind (get_or all_kinds j Scalars)) (executed code s m)) in
    record {
      total_is = are.total_is ∙ sum_is code every s m ∙ ap tally_of (filter_every (executed code s m));
      functions_are = fill_by_all of_function c.functions.items (length code.routines) nothing are.function_count (λ f low. are.functions_are f low ∙ sum_is code (in_function f) s m);
      kinds_are = fill_by_all of_number c.kinds.items 8 nothing are.kind_count
          (λ j low. ap (λ (i : ℕ). get_or c.kinds.items i nothing) (sym (number_at j low)) ∙ are.kinds_are (get_or all_kinds j Scalars) ∙ sum_is code (is_kind (get_or all_kinds j Scalars)) s m);
      groups_are = fill_by_all of_group c.groups.tallies.items (length c.groups.tallies.items) nothing refl (λ g low. are.groups_are g low ∙ sum_is code (in_group c.groups.of_places.items g) s m);
    }
