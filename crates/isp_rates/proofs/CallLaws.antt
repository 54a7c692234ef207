-- Loops that gather the calls of the parts.
use Rattle.std.proofs.Common.{◌≡◌, ℕ, ◌+◌, ◌<◌, ◌++◌, sym, ap, ◌∙◌, drop, get_or, append_assoc}
use Rattle.std.specs.Prelude.{List, ◌∷◌, length}
use Rattle.isp_rates.proofs.Steps.{split_at}

module _ {R : Type 0} (all : List R → List ℕ) (one : R → List ℕ) (turn : (x : R) (xs : List R) → all (x ∷ xs) ≡ one x ++ all xs) where
  pub calls_step : (xs : List R) (i : ℕ) (x : R) (seen next total : List ℕ) → i < length xs → x ≡ get_or xs i x → next ≡ seen ++ one x
      → seen ++ all (drop i xs) ≡ total → next ++ all (drop (i + 1) xs) ≡ total
  calls_step xs i x seen next total h e n k =
      ap (λ (z : List ℕ). z ++ all (drop (i + 1) xs)) n
      ∙ (append_assoc seen (one x) (all (drop (i + 1) xs))
      ∙ (ap (λ (z : List ℕ). seen ++ z) (sym (turn x (drop (i + 1) xs)) ∙ ap all (sym (split_at xs i x h e))) ∙ k))
