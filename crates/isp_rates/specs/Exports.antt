-- Which functions are exported, by their numbers.
use Rattle.std.specs.Prelude.{ℕ, suc, List, [], ◌∷◌, bytes_eq, ◌&&◌, Bool, Option, Some, None, slice_get, if◌then◌else◌}
use Rattle.isp_typed.specs.declared.function.TypedFunction.{TypedFunction}

-- of functions numbered from n on, in the order of the text
abbrev pub exports_from : ℕ → List TypedFunction → List ℕ
exports_from n [] = []
exports_from n (f ∷ fs) = if f.exported then n ∷ exports_from (suc n) fs else exports_from (suc n) fs

abbrev pub is_entry : List ℕ → TypedFunction → Bool
is_entry w f = f.exported && bytes_eq f.name w

-- the exported function of a name
abbrev pub entry_from : List ℕ → ℕ → List TypedFunction → Option ℕ
entry_from w n [] = None
entry_from w n (f ∷ fs) = if is_entry w f then Some n else entry_from w (suc n) fs

-- what stands at a number, if there is one
abbrev pub at_number : {A : Type 0} → List A → Option ℕ → Option A
at_number xs None = None
at_number xs (Some n) = slice_get xs n
