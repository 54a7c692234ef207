-- Arguments that have the kinds of their parameters.
use Rattle.std.proofs.Common.{◌≡◌, ℕ, ◌+◌, ◌<◌, List, [], ◌∷◌, ◌++◌, length, take, get_or, Bool, true, false, refl, sym, subst, ap, ◌∙◌}
use Rattle.std.proofs.lemmas.Bool.{and_from, and_parts}
use Rattle.std.proofs.lemmas.List.{take_more}
use Rattle.isp_base.specs.Binding.{has_signature, is_for}
use Rattle.isp_base.specs.declared.signature.Parameter.{Parameter}
use Rattle.isp_base.specs.declared.signature.Argument.{Argument}
use Rattle.isp_run_words.specs.Giving.{alone}

one_more : (ps : List Parameter) (xs : List Argument) (p : Parameter) (x : Argument) → has_signature ps xs ≡ true → is_for p x ≡ true
    → has_signature (ps ++ p ∷ []) (xs ++ x ∷ []) ≡ true
one_more [] [] p x all one = and_from (is_for p x) true one refl
one_more [] (y ∷ ys) p x all one = let none : ⊥ = cc in absurd none
one_more (q ∷ ps) [] p x all one = let none : ⊥ = cc in absurd none
one_more (q ∷ ps) (y ∷ ys) p x all one =
    let parts = and_parts (is_for q y) (has_signature ps ys) all in
    and_from (is_for q y) (has_signature (ps ++ p ∷ []) (ys ++ x ∷ [])) parts.0 (one_more ps ys p x parts.1 one)

-- a turn of the loop over the parameters
pub kinds_next : (ps : List Parameter) (xs : List Argument) (i : ℕ) (p : Parameter) (x : Argument) → i < length ps → p ≡ get_or ps i p
    → has_signature (take i ps) xs ≡ true → is_for p x ≡ true → has_signature (take (i + 1) ps) (xs ++ x ∷ []) ≡ true
kinds_next ps xs i p x less is all one =
    let here : take (i + 1) ps ≡ take i ps ++ p ∷ [] = take_more ps i p less ∙ ap (λ (q : Parameter). take i ps ++ q ∷ []) (sym is) in
    subst (λ (l : List Parameter). has_signature l (xs ++ x ∷ []) ≡ true) (sym here) (one_more (take i ps) xs p x all one)

-- the one argument of a parameter alone
pub kind_of_one : (p : Parameter) (x : Argument) (xs : List Argument) → has_signature (alone p) (x ∷ xs) ≡ true → is_for p x ≡ true
kind_of_one p x xs all = (and_parts (is_for p x) (has_signature [] xs) all).0
