-- What is said of a result that is known.
use Rattle.std.proofs.Common.{◌≡◌, subst}
use Rattle.std.specs.Prelude.{Result, Ok}
use Rattle.std.specs.Result.{IfOk, OnOk}

pub at_ok : {T E A : Type 0} (q : Result T E) (x : T) → q ≡ Ok x → OnOk q A → A
at_ok {T = T} {E = E} {A = A} q x is h = subst (λ (k : Result T E). OnOk k A) is h

pub at_found : {T E : Type 0} (P : T → Type 0) (q : Result T E) (x : T) → q ≡ Ok x → IfOk q P → P x
at_found {T = T} {E = E} P q x is h = subst (λ (k : Result T E). IfOk k P) is h
