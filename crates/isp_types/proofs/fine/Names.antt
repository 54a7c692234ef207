-- What a name in scope stands for is the variable of its number.
use Rattle.std.proofs.Common.{◌≡◌, ℕ, zero, suc, ◌++◌, ◌≤◌, refl, ap, ◌∙◌, arith, length-append}
use Rattle.std.specs.Prelude.{Some, None, List, [], ◌∷◌, length, slice_get, Ok}
use Rattle.isp_tree.specs.declared.types.Word.{Word}
use Rattle.isp_typed.specs.declared.variable.Variable.{Variable}
use Rattle.isp_exprs.specs.declared.scope.Known.{Known}
use Rattle.isp_exprs.specs.declared.scope.Binding.{Binding}
use Rattle.isp_exprs.specs.Scopes.{named, with_name}
use Rattle.isp_types.proofs.Meanings.{AllKnown, none_known, known_named, known_added}
use Rattle.isp_types.proofs.NamesKept.{Grown}

-- a list that grows after keeps what it has
get_first : {A : Type 0} (xs ys : List A) (k : ℕ) (x : A) → slice_get xs k ≡ Some x → slice_get (xs ++ ys) k ≡ Some x
get_first [] ys k x e = absurd (no e)
  where
    no : {A : Type 0} {x : A} → None ≡ Some x → ⊥
    no e = cc
get_first (y ∷ xs) ys zero x e = e
get_first (y ∷ xs) ys (suc k) x e = get_first xs ys k x e

pub get_grown : {A : Type 0} (xs ys : List A) → Grown xs ys → (k : ℕ) (x : A) → slice_get xs k ≡ Some x → slice_get ys k ≡ Some x
get_grown xs ys g k x e = ap (λ l. slice_get l k) g.is ∙ get_first xs g.more k x e

get_last : {A : Type 0} (xs : List A) (x : A) → slice_get (xs ++ x ∷ []) (length xs) ≡ Some x
get_last [] x = refl
get_last (y ∷ xs) x = get_last xs x

-- the variable that is declared next
pub get_next : {A : Type 0} (xs : List A) (x : A) (all : List A) → Grown (xs ++ x ∷ []) all → slice_get all (length xs) ≡ Some x
get_next xs x all g = get_grown (xs ++ x ∷ []) all g (length xs) x (get_last xs x)

pub grown_length : {A : Type 0} (xs ys : List A) → Grown xs ys → length xs ≤ length ys
grown_length xs ys g = omega (arith, ap length g.is, length-append xs g.more)

-- ---- names

abbrev IsVariable : List Variable → Known → Type 0
IsVariable all k = slice_get all k.number ≡ Some k.variable

abbrev pub InScope : List Variable → List Binding → Type 0
InScope all = AllKnown (IsVariable all)

pub no_names : (all : List Variable) → InScope all []
no_names all = none_known (IsVariable all)

-- what a name means that stands in scope
pub named_is : (all : List Variable) (ns : List Binding) → InScope all ns → (w : Word) (k : Known) → named ns w ≡ Ok k → slice_get all k.number ≡ Some k.variable
named_is all = known_named (IsVariable all)

-- one more name, for the variable after those there are
pub name_added : (all : List Variable) (ns : List Binding) (vars : List Variable) (w : List ℕ) (v : Variable) → InScope all ns → Grown (vars ++ v ∷ []) all → InScope all (with_name ns vars w (Ok v))
name_added all ns vars w v scope g = known_added (IsVariable all) ns vars w v scope (get_next vars v all g)
