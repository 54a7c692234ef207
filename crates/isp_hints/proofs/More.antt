-- The hints of one instruction more, and of one function more.
use Rattle.std.proofs.Common.{◌≡◌, refl, sym, ap, ◌∙◌, ℕ, ◌+◌, ◌<◌, ◌++◌, List, [], ◌∷◌, length, get_or, map, take}
use Rattle.std.proofs.lemmas.List.{append_assoc, append-nil, map-append, take_more}
use Rattle.std.proofs.lemmas.List.Elements.{filter_map-append}
use Rattle.std.specs.List.{cons_option}
use Rattle.isp_code.specs.Listing.{Listing, Routine, routine_of}
use Rattle.isp_code.specs.declared.function.Function.{Function}
use Rattle.isp_code.specs.declared.instr.Instr.{Instr}
use Rattle.isp_hints.specs.Accesses.{all_hints, hint_of, hints_in}
use Rattle.isp_hints.specs.declared.hint.Hint.{Hint}

pub instr_more : (code : Listing) (is : List Instr) (k : ℕ) (d : Instr) (first seen next : List Hint) → k < length is → seen ≡ first ++ hints_in code (take k is)
    → next ≡ seen ++ cons_option (hint_of code (get_or is k d)) [] → next ≡ first ++ hints_in code (take (k + 1) is)
instr_more code is k d first seen next l e n =
    n ∙ ap (λ (z : List Hint). z ++ cons_option (hint_of code (get_or is k d)) []) e
    ∙ append_assoc first (hints_in code (take k is)) (cons_option (hint_of code (get_or is k d)) [])
    ∙ ap (λ z. first ++ z) (sym (filter_map-append (hint_of code) (take k is) (get_or is k d ∷ [])) ∙ ap (hints_in code) (sym (take_more is k d l)))

all_append : (code : Listing) (gs hs : List Routine) → all_hints code (gs ++ hs) ≡ all_hints code gs ++ all_hints code hs
all_append code [] hs = refl
all_append code (g ∷ gs) hs = ap (λ z. hints_in code g.code ++ z) (all_append code gs hs) ∙ sym (append_assoc (hints_in code g.code) (all_hints code gs) (all_hints code hs))

pub function_more : (code : Listing) (fs : List Function) (k : ℕ) (d : Function) (first seen next : List Hint) → k < length fs → seen ≡ first ++ all_hints code (map routine_of (take k fs))
    → next ≡ seen ++ hints_in code (get_or fs k d).code.items → next ≡ first ++ all_hints code (map routine_of (take (k + 1) fs))
function_more code fs k d first seen next l e n =
    let more = hints_in code (get_or fs k d).code.items in
    n ∙ ap (λ (z : List Hint). z ++ more) e ∙ append_assoc first (all_hints code (map routine_of (take k fs))) more
    ∙ ap (λ z. first ++ z)
    (ap (λ z. all_hints code (map routine_of (take k fs)) ++ z) (sym (append-nil more))
    ∙ sym (all_append code (map routine_of (take k fs)) (routine_of (get_or fs k d) ∷ []))
    ∙ ap (all_hints code) (sym (map-append routine_of (take k fs) (get_or fs k d ∷ [])) ∙ ap (map routine_of) (sym (take_more fs k d l))))
