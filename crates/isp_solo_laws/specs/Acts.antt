-- What the law asks of an assignment and of declarations, where they stand so.
use Rattle.std.specs.Prelude.{◌≡◌, ℕ, ◌<◌, Bool, true, ◌||◌, nat_lt, List, Contains}
use Rattle.std.specs.List.{All}
use Rattle.isp_lex.specs.declared.fault.Fault.{Fault}
use Rattle.isp_typed.specs.declared.variable.Variable.{Variable}
use Rattle.isp_typed.specs.Fine.{FineSimple, FineItem}
use Rattle.isp_typed.specs.Scoped.{Scope, SimpleIn, ItemsAt}
use Rattle.isp_typed.specs.Typed.{TItem, TSimple, TFunction}
use Rattle.isp_rates.specs.Breaches.{OfEach}
use Rattle.isp_rates.specs.Exits.{SimpleBreach, ItemBreach}
use Rattle.isp_independence.specs.declared.control.Control.{Control}
use Rattle.isp_independence.specs.declared.dependence.Dependence.{Dependence}
use Rattle.isp_independence.specs.Dependences.{OfEach as DependsOfEach}
use Rattle.isp_independence.specs.Reaches.{simple_calls, item_calls, calls_of_each}
use Rattle.isp_independence.specs.Statements.{SimpleDepends, ItemDepends}

-- nobody may assign these: of the instances that declared them some may be missing
abbrev pub closed_in : Control → ℕ → Bool
closed_in c k = nat_lt k c.outside || nat_lt k c.turned

module _ (fs : List TFunction) (vars : List Variable) (v : Scope) (IsCallable : ℕ → Type 0) (control : Control) where
  pub record AskedOfSimple (x : TSimple) : Type 0 where
    pub fine : FineSimple fs vars x
    pub rates : (f : Fault) → SimpleBreach fs x f → ⊥
    pub alone : (d : Dependence) → SimpleDepends control x d → ⊥
    pub known : SimpleIn v x
    pub calls : (k : ℕ) → Contains (simple_calls x) k → IsCallable k

  -- n is the number that the first of them has; what is closed was declared before
  pub record AskedOfItems (n : ℕ) (xs : List TItem) : Type 0 where
    pub fine : All (FineItem fs vars) xs
    pub rates : (f : Fault) → OfEach (ItemBreach fs) xs f → ⊥
    pub alone : (d : Dependence) → DependsOfEach ItemDepends xs d → ⊥
    pub known : ItemsAt v n xs
    pub calls : (k : ℕ) → Contains (calls_of_each item_calls xs) k → IsCallable k
    pub before : (k : ℕ) → closed_in control k ≡ true → k < n
