-- Names stand for variables in scope, and a declaration adds the next number.
use Rattle.std.proofs.Common.{◌≡◌, ℕ, suc, ◌++◌, refl, eq-eqb, ap, subst, ◌∙◌}
use Rattle.std.specs.Prelude.{List, [], ◌∷◌, length, Bool, true, false, ◌||◌, nat_eq, Ok}
use Rattle.isp_typed.specs.declared.variable.Variable.{Variable}
use Rattle.isp_typed.specs.Scoped.{Scope, declared}
use Rattle.isp_exprs.specs.declared.scope.Known.{Known}
use Rattle.isp_exprs.specs.declared.scope.Binding.{Binding}
use Rattle.isp_exprs.specs.Scopes.{with_name}
use Rattle.isp_types.proofs.Meanings.{AllKnown, known_mapped, known_added}

abbrev pub IsIn : Scope → Known → Type 0
IsIn v k = v k.number ≡ true

abbrev pub AllIn : Scope → List Binding → Type 0
AllIn v = AllKnown (IsIn v)

same_number : (k : ℕ) → nat_eq k k ≡ true
same_number k = eq-eqb k k refl

pub declared_here : (k : ℕ) (v : Scope) → declared k v k ≡ true
declared_here k v = ap (λ t. t || v k) (same_number k)

pub declared_before : (k : ℕ) (v : Scope) (x : ℕ) → v x ≡ true → declared k v x ≡ true
declared_before k v x e = go (nat_eq x k)
  where
    go : (t : Bool) → (t || v x) ≡ true
    go true = refl
    go false = e

pub one_longer : {A : Type 0} (xs : List A) (x : A) (n : ℕ) → n ≡ length xs → suc n ≡ length (xs ++ x ∷ [])
one_longer [] x n e = ap suc e
one_longer (y ∷ xs) x n e = ap suc (e ∙ one_longer xs x (length xs) refl)

-- one more name, for the variable after those there are
pub scope_added : (v : Scope) (ns : List Binding) (vars : List Variable) (n : ℕ) (w : List ℕ) (x : Variable) → AllIn v ns → n ≡ length vars → AllIn (declared n v) (with_name ns vars w (Ok x))
scope_added v ns vars n w x scope e =
    known_added (IsIn (declared n v)) ns vars w x (known_mapped (IsIn v) (IsIn (declared n v)) (λ k. declared_before n v k.number) ns scope)
    (subst (λ k. declared n v k ≡ true) e (declared_here n v))
