-- Which arrays the answer shows: those that go to no file and are not declared `const`.
--     shown outs ps vs rs    each array parameter that is shown, and its array
use Rattle.std.specs.Prelude.{ℕ, List, [], ◌∷◌, bytes_eq, Bool, ◌||◌, ◌==◌, if◌then◌else◌}
use Rattle.std.specs.List.{list_any}
use Rattle.isp_base.specs.Rows.{Row}
use Rattle.isp_base.specs.declared.signature.Parameter.{Parameter}
use Rattle.isp_typed.specs.declared.variable.Variable.{Variable}
use denote.Ref.{Bor}

-- the name in `NAME=FILE`: what stands before the first `=`
abbrev pub name_in : List ℕ → List ℕ
name_in [] = []
name_in (c ∷ cs) = if c == 61 then [] else c ∷ name_in cs

-- one of these outputs writes the array of this name
abbrev pub goes_to_file : List (Bor (List ℕ)) → List ℕ → Bool
goes_to_file outs name = list_any (λ w. bytes_eq (name_in w.now) name) outs

abbrev pub is_hidden : List (Bor (List ℕ)) → Parameter → Variable → Bool
is_hidden outs p v = v.constant || goes_to_file outs p.name

-- parameters with their variables, and the arrays of those that take arrays
abbrev pub shown : List (Bor (List ℕ)) → List Parameter → List Variable → List Row → List (Parameter × Row)
shown outs [] vs rs = []
shown outs (p ∷ ps) [] rs = []
shown outs (p ∷ ps) (v ∷ vs) [] = []
shown outs (p ∷ ps) (v ∷ vs) (r ∷ rs) =
    if p.is_array then (if is_hidden outs p v then shown outs ps vs rs else (p, r) ∷ shown outs ps vs rs) else shown outs ps vs (r ∷ rs)
