-- Where bindings stand.
use Rattle.std.specs.Prelude.{ℕ, suc, List, [], ◌∷◌, ◌++◌, bytes_eq, Bool, true, false, Option, Some, None}
use Rattle.isp_exprs.specs.declared.scope.Binding.{Binding}

-- where the last binding of a name stands
abbrev pub one_later : Option ℕ → Bool → Option ℕ
one_later (Some k) here = Some (suc k)
one_later None true = Some 0
one_later None false = None

abbrev pub last_place : List ℕ → List Binding → Option ℕ
last_place w [] = None
last_place w (b ∷ bs) = one_later (last_place w bs) (bytes_eq b.name w)

-- where the binding stands that each of them hides, `before` standing before them
abbrev pub hidden_behind : List Binding → List Binding → List (Option ℕ)
hidden_behind before [] = []
hidden_behind before (b ∷ bs) = last_place b.name before ∷ hidden_behind (before ++ b ∷ []) bs

abbrev pub hidden_places : List Binding → List (Option ℕ)
hidden_places bs = hidden_behind [] bs
