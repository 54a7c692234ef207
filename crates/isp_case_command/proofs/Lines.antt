-- One turn of each loop over cases that were tried.
use Rattle.std.proofs.Common.{◌≡◌, ℕ, ◌+◌, ◌<◌, List, [], ◌∷◌, ◌++◌, length, drop, get_or, sym, ap, ◌∙◌, append_assoc, arith}
use Rattle.std.specs.Prelude.{flat_map}
use Rattle.std.proofs.lemmas.List.{drop_more}
use Rattle.isp_case_command.specs.Showing.{differing, lines_of, unit_of}
use Rattle.isp_case_command.specs.declared.tried.Tried.{Tried}

module _ (ts : List Tried) (i : ℕ) (t : Tried) (less : i < length ts) (is : t ≡ get_or ts i t) where
  here : drop i ts ≡ t ∷ drop (i + 1) ts
  here = drop_more ts i t less ∙ ap (λ (u : Tried). u ∷ drop (i + 1) ts) (sym is)

  pub lines_next : (old new all : List ℕ) → new ≡ old ++ lines_of t → old ++ flat_map lines_of (drop i ts) ≡ all → new ++ flat_map lines_of (drop (i + 1) ts) ≡ all
  lines_next old new all grown h =
      ap (λ (l : List ℕ). l ++ flat_map lines_of (drop (i + 1) ts)) grown
      ∙ append_assoc old (lines_of t) (flat_map lines_of (drop (i + 1) ts))
      ∙ ap (λ (l : List Tried). old ++ flat_map lines_of l) (sym here)
      ∙ h

  pub counted_next : (count unit all : ℕ) → unit ≡ unit_of t.verdict → count + differing (drop i ts) ≡ all → (count + unit) + differing (drop (i + 1) ts) ≡ all
  counted_next count unit all is-unit h =
      let e : differing (drop i ts) ≡ unit_of t.verdict + differing (drop (i + 1) ts) = ap differing here in
      omega arith
