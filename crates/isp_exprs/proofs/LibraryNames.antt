-- A name that is none of a list's.
use Rattle.std.proofs.Common.{◌≡◌, ℕ, false, refl, sym, ◌∙◌}
use Rattle.std.specs.Prelude.{List, [], ◌∷◌, None, bytes_eq}
use Rattle.std.specs.Bool.{⊤}
use Rattle.std.proofs.lemmas.Bool.{false_from_ne_true}
use Rattle.std.proofs.lemmas.Slice.Eq.{bytes_eq-Decides}
use Rattle.isp_exprs.specs.declared.callee.Callee.{Callee}
use Rattle.isp_exprs.specs.Callees.{named_in}

abbrev pub DiffersFromAll : List (List ℕ × Callee) → List ℕ → Type 0
DiffersFromAll [] w = ⊤
DiffersFromAll (e ∷ es) w = (w ≡ e.0 → ⊥) × DiffersFromAll es w

pub none_named : (es : List (List ℕ × Callee)) (w : List ℕ) → DiffersFromAll es w → None ≡ named_in es w
none_named [] w h = refl
none_named (e ∷ es) w h =
    let apart : bytes_eq e.0 w ≡ false = false_from_ne_true (bytes_eq e.0 w) (λ q. h.0 (sym ((bytes_eq-Decides e.0 w).0 q))) in
    none_named es w h.1 ∙ sym (rw apart refl)
