-- What facts that pass give of one function, of one fact and of one instruction.
use Rattle.std.proofs.Common.{◌≡◌, ℕ, zero, suc, ◌+◌, List, [], ◌∷◌, Some, true, false, not, ◌&&◌, sym, subst, arith, Contains}
use Rattle.std.proofs.lemmas.Bool.{and_parts, not-true}
use Rattle.std.specs.Prelude.{slice_get, slice_index_or}
use Rattle.std.specs.List.{list_all}
use Rattle.isp_code.specs.Listing.{Listing, Routine}
use Rattle.isp_code.specs.declared.instr.Instr.{Instr}
use Rattle.isp_forms.specs.Tables.{form_or_kept}
use Rattle.isp_forms.specs.declared.form.Form.{Form}
use Rattle.isp_constants.specs.declared.fact.Fact.{Fact}
use Rattle.isp_constants.specs.reader.Passing.{facts_at, is_kept, settles_at, lines_keep, breaks, fact_passes, form_passes, amounts_pass, function_passes, functions_pass}
use Rattle.isp_constants.proofs.Lists.{all_has}

kept_in : (x : Fact) (from : ℕ) (is : List Instr) → lines_keep x from is ≡ true → (pc : ℕ) (i : Instr) → slice_get is pc ≡ Some i → breaks x (from + pc) i ≡ false
kept_in x from [] e pc i at = absurd cc
kept_in x from (j ∷ is) e zero i at =
    let same : j ≡ i = cc in
    let here : from + 0 ≡ from = omega arith in
    subst (λ n. breaks x n i ≡ false) (sym here) (subst (λ y. breaks x from y ≡ false) same (not-true (breaks x from j) (and_parts (not (breaks x from j)) (lines_keep x (suc from) is) e).0))
kept_in x from (j ∷ is) e (suc pc) i at =
    let here : from + suc pc ≡ suc from + pc = omega arith in
    subst (λ n. breaks x n i ≡ false) (sym here) (kept_in x (suc from) is (and_parts (not (breaks x from j)) (lines_keep x (suc from) is) e).1 pc i at)

amount_in : (facts : List Fact) (forms : List Form) (h : Routine) (from : ℕ) (is : List Instr) → amounts_pass facts forms h from is ≡ true
    → (pc : ℕ) (i : Instr) → slice_get is pc ≡ Some i → form_passes facts forms h (from + pc) i (form_or_kept forms (from + pc)) ≡ true
amount_in facts forms h from [] e pc i at = absurd cc
amount_in facts forms h from (j ∷ is) e zero i at =
    let same : j ≡ i = cc in
    let here : from + 0 ≡ from = omega arith in
    subst (λ n. form_passes facts forms h n i (form_or_kept forms n) ≡ true) (sym here)
    (subst (λ y. form_passes facts forms h from y (form_or_kept forms from) ≡ true) same (and_parts (form_passes facts forms h from j (form_or_kept forms from)) (amounts_pass facts forms h (suc from) is) e).0)
amount_in facts forms h from (j ∷ is) e (suc pc) i at =
    let here : from + suc pc ≡ suc from + pc = omega arith in
    subst (λ n. form_passes facts forms h n i (form_or_kept forms n) ≡ true) (sym here)
    (amount_in facts forms h (suc from) is (and_parts (form_passes facts forms h from j (form_or_kept forms from)) (amounts_pass facts forms h (suc from) is) e).1 pc i at)

module _ (lists : List (List Fact)) (tables : List (List Form)) where
  function_in : (from : ℕ) (hs : List Routine) → functions_pass lists tables from hs ≡ true
      → (f : ℕ) (h : Routine) → slice_get hs f ≡ Some h → function_passes (facts_at lists (from + f)) (slice_index_or tables (from + f) []) h ≡ true
  function_in from [] e f h at = absurd cc
  function_in from (g ∷ hs) e zero h at =
      let same : g ≡ h = cc in
      let here : from + 0 ≡ from = omega arith in
      subst (λ n. function_passes (facts_at lists n) (slice_index_or tables n []) h ≡ true) (sym here)
      (subst (λ x. function_passes (facts_at lists from) (slice_index_or tables from []) x ≡ true) same (and_parts (function_passes (facts_at lists from) (slice_index_or tables from []) g) (functions_pass lists tables (suc from) hs) e).0)
  function_in from (g ∷ hs) e (suc f) h at =
      let here : from + suc f ≡ suc from + f = omega arith in
      subst (λ n. function_passes (facts_at lists n) (slice_index_or tables n []) h ≡ true) (sym here)
      (function_in (suc from) hs (and_parts (function_passes (facts_at lists from) (slice_index_or tables from []) g) (functions_pass lists tables (suc from) hs) e).1 f h at)

  module _ (code : Listing) (pass : functions_pass lists tables 0 code.routines ≡ true) (f : ℕ) (h : Routine) (found : slice_get code.routines f ≡ Some h) where
    abbrev facts : List Fact
    facts = facts_at lists f

    abbrev forms : List Form
    forms = slice_index_or tables f []

    parts : (list_all (fact_passes (facts_at lists f) (slice_index_or tables f []) h) (facts_at lists f) ≡ true) × (amounts_pass (facts_at lists f) (slice_index_or tables f []) h 0 h.code ≡ true)
    parts = and_parts (list_all (fact_passes facts forms h) facts) (amounts_pass facts forms h 0 h.code) (let zero-on : 0 + f ≡ f = omega arith in subst (λ n. function_passes (facts_at lists n) (slice_index_or tables n []) h ≡ true) zero-on (function_in 0 code.routines pass f h found))

    module _ (x : Fact) (has : Contains (facts_at lists f) x) where
      fact_parts : (is_kept (facts_at lists f) (slice_index_or tables f []) h (form_or_kept (slice_index_or tables f []) x.line) ≡ true)
          × ((settles_at (facts_at lists f) (slice_index_or tables f []) h (slice_get h.code x.line) x && lines_keep x 0 h.code) ≡ true)
      fact_parts = and_parts (is_kept facts forms h (form_or_kept forms x.line)) (settles_at facts forms h (slice_get h.code x.line) x && lines_keep x 0 h.code) (all_has (fact_passes facts forms h) facts x parts.0 has)

      pub line_kept : is_kept (facts_at lists f) (slice_index_or tables f []) h (form_or_kept (slice_index_or tables f []) x.line) ≡ true
      line_kept = fact_parts.0

      pub line_settles : settles_at (facts_at lists f) (slice_index_or tables f []) h (slice_get h.code x.line) x ≡ true
      line_settles = (and_parts (settles_at facts forms h (slice_get h.code x.line) x) (lines_keep x 0 h.code) fact_parts.1).0

      pub never_broken : (pc : ℕ) (i : Instr) → slice_get h.code pc ≡ Some i → breaks x pc i ≡ false
      never_broken pc i at =
          let zero-on : 0 + pc ≡ pc = omega arith in
          subst (λ n. breaks x n i ≡ false) zero-on (kept_in x 0 h.code (and_parts (settles_at facts forms h (slice_get h.code x.line) x) (lines_keep x 0 h.code) fact_parts.1).1 pc i at)

    pub amount_passes : (pc : ℕ) (i : Instr) → slice_get h.code pc ≡ Some i → form_passes (facts_at lists f) (slice_index_or tables f []) h pc i (form_or_kept (slice_index_or tables f []) pc) ≡ true
    amount_passes pc i at = let zero-on : 0 + pc ≡ pc = omega arith in subst (λ n. form_passes facts forms h n i (form_or_kept forms n) ≡ true) zero-on (amount_in facts forms h 0 h.code parts.1 pc i at)
