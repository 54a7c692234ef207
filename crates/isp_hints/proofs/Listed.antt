-- A list that has the slow accesses of code and the slow loops of a program, in another order and each once.
use Rattle.std.proofs.Common.{◌≡◌, ◌++◌, inl, inr, sym, subst}
use Rattle.std.specs.Prelude.{List, [], ◌↔◌, Contains}
use Rattle.std.proofs.lemmas.List.Elements.{Contains-append_left, Contains-append_right, Contains-append_cases}
use Rattle.isp_code.specs.Listing.{Listing}
use Rattle.isp_typed.specs.Typed.{Program}
use Rattle.isp_hints.specs.Accesses.{accesses_of}
use Rattle.isp_hints.specs.Loops.{loops_of}
use Rattle.isp_hints.specs.Hints.{IsHint}
use Rattle.isp_hints.specs.declared.hint.Hint.{Hint}

either : (code : Listing) (program : Program) (h : Hint) → Contains (accesses_of code ++ loops_of program) h → IsHint code program h
either code program h c = Contains-append_cases (accesses_of code) (loops_of program) h c

both : (code : Listing) (program : Program) (h : Hint) → IsHint code program h → Contains (accesses_of code ++ loops_of program) h
both code program h (inl x) = Contains-append_left (accesses_of code) (loops_of program) h x
both code program h (inr y) = Contains-append_right (accesses_of code) (loops_of program) h y

pub lists : (code : Listing) (program : Program) (none some all once : List Hint) → none ≡ [] → some ≡ none ++ accesses_of code → all ≡ some ++ loops_of program
    → ((h : Hint) → Contains all h → Contains once h) → ((h : Hint) → Contains once h → Contains all h) → (h : Hint) → Contains once h ↔ IsHint code program h
lists code program none some all once n s a keeps adds_none h =
    let is : all ≡ accesses_of code ++ loops_of program = cc in
    (λ c. either code program h (subst (λ (z : List Hint). Contains z h) is (adds_none h c)), λ c. keeps h (subst (λ (z : List Hint). Contains z h) (sym is) (both code program h c)))
