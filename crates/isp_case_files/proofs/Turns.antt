-- One turn of each loop, by the definition that it computes.
use Rattle.std.proofs.Common.{◌≡◌, ℕ, suc, ◌+◌, ◌<◌, ◌≤◌, ◌==◌, List, [], ◌∷◌, ◌++◌, length, drop, get_or, map, false, Result, Ok, Err, refl, sym, ap, ◌∙◌, append_assoc, add-one}
use Rattle.std.proofs.lemmas.List.{drop_all, drop_more}
use Rattle.serde_json.specs.View.{items_view, view}
use Rattle.serde_json.specs.declared.value.Value.{Value}
use Rattle.isp_case_files.specs.Answers.{same_items}
use Rattle.isp_case_files.specs.Cases.{Listed, as_listed, case_of, cases_from, then_of}
use Rattle.isp_case_files.specs.declared.case.Case.{Case}
use Rattle.isp_case_files.specs.declared.fault.CaseFault.{CaseFault}

-- ---- the cases

-- these before those that follow
abbrev pub with_done : List Listed → Result (List Listed) CaseFault → Result (List Listed) CaseFault
with_done done rest = then_of (λ found. Ok (done ++ found)) rest

abbrev before : Listed → Result (List Listed) CaseFault → Result (List Listed) CaseFault
before c rest = then_of (λ cs. Ok (c ∷ cs)) rest

abbrev both : Result Listed CaseFault → Result (List Listed) CaseFault → Result (List Listed) CaseFault
both one rest = then_of (λ c. before c rest) one

done_one : (done : List Listed) (c : Listed) (r : Result (List Listed) CaseFault) → with_done done (before c r) ≡ with_done (done ++ c ∷ []) r
done_one done c (Ok cs) = ap (λ (l : List Listed). let r : Result (List Listed) CaseFault = Ok l in r) (sym (append_assoc done (c ∷ []) cs))
done_one done c (Err e) = refl

abbrev rest_of : List Value → ℕ → ℕ → Result (List Listed) CaseFault
rest_of vs i n = cases_from n (items_view (drop i vs))

from_here : (vs : List Value) (i : ℕ) (v : Value) → i < length vs → v ≡ get_or vs i v
    → rest_of vs i (i + 1) ≡ both (case_of (i + 1) (view v)) (rest_of vs (i + 1) (i + 1 + 1))
from_here vs i v less is =
    ap (λ (l : List Value). cases_from (i + 1) (items_view l)) (drop_more vs i v less)
    ∙ ap (λ (w : Value). both (case_of (i + 1) (view w)) (rest_of vs (i + 1) (suc (i + 1)))) (sym is)
    ∙ ap (λ (k : ℕ). both (case_of (i + 1) (view v)) (rest_of vs (i + 1) k)) (sym (add-one (i + 1)))

pub done_next : (vs : List Value) (done : List Listed) (i : ℕ) (v : Value) (c : Listed) → i < length vs → v ≡ get_or vs i v → case_of (i + 1) (view v) ≡ Ok c
    → with_done done (rest_of vs i (i + 1)) ≡ with_done (done ++ c ∷ []) (rest_of vs (i + 1) (i + 1 + 1))
done_next vs done i v c less is one =
    ap (with_done done) (from_here vs i v less is)
    ∙ ap (λ (r : Result Listed CaseFault). with_done done (both r (rest_of vs (i + 1) (i + 1 + 1)))) one
    ∙ done_one done c (rest_of vs (i + 1) (i + 1 + 1))

pub listed_push : (cs : List Case) (c : Case) → map as_listed (cs ++ c ∷ []) ≡ map as_listed cs ++ as_listed c ∷ []
listed_push [] c = refl
listed_push (x ∷ xs) c = ap (λ (l : List Listed). as_listed x ∷ l) (listed_push xs c)

-- ---- two lists

-- the first list has ended, and the second has not
pub ends_after : (ws : List Value) (i : ℕ) (fs : List Value) → length ws ≤ i → (length fs == 0) ≡ false → same_items (items_view (drop i ws)) (items_view fs) ≡ false
ends_after ws i [] h e = absurd (let x : ⊥ = cc in x)
ends_after ws i (f ∷ fs) h e = ap (λ (l : List Value). same_items (items_view l) (items_view (f ∷ fs))) (drop_all i ws h)
