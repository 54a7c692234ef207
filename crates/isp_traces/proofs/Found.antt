-- The function and the table of registers of a number.
use Rattle.std.proofs.Common.{◌≡◌, sym, ap, ◌∙◌, ℕ, zero, suc, ◌<◌, List, [], ◌∷◌, length, map, get_or, Some, arith}
use Rattle.std.specs.Prelude.{slice_get}
use Rattle.isp_code.specs.Listing.{Routine, routine_of}
use Rattle.isp_code.specs.Registers.{Table, table_of, vectors_of}
use Rattle.isp_code.specs.declared.function.Function.{Function}

pub routine_there : (fs : List Function) (k : ℕ) (f : Function) → k < length fs → f ≡ get_or fs k f → slice_get (map routine_of fs) k ≡ Some (routine_of f)
routine_there [] k f low is = absurd (omega (arith, low))
routine_there (g ∷ gs) zero f low is = ap (λ (h : Function). Some (routine_of h)) (sym is)
routine_there (g ∷ gs) (suc k) f low is = routine_there gs k f (omega (arith, low)) is

pub table_there : (rs : List Routine) (k : ℕ) (h : Routine) (t : Table) → slice_get rs k ≡ Some h → slice_get (map table_of rs) k ≡ Some t → t.vectors ≡ vectors_of h
table_there [] k h t e d = cc
table_there (r ∷ rs) zero h t e d =
    let a : r ≡ h = cc in
    let b : t ≡ table_of r = cc in
    ap (λ (u : Table). u.vectors) b ∙ ap vectors_of a
table_there (r ∷ rs) (suc k) h t e d = table_there rs k h t e d
