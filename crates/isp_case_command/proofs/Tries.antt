-- One turn of each loop that runs cases.
use Rattle.std.proofs.Common.{◌≡◌, ℕ, ◌+◌, ◌<◌, List, [], ◌∷◌, ◌++◌, length, drop, get_or, map, refl, sym, ap, ◌∙◌, append_assoc}
use Rattle.std.proofs.lemmas.List.{drop_more}
use Rattle.isp_base.specs.declared.types.Gang.{Gang}
use Rattle.isp_case_files.specs.declared.case.Case.{Case}
use Rattle.isp_case_command.specs.Testing.{beside, place_of, places}
use Rattle.isp_case_command.specs.declared.tried.Tried.{Tried}

places_push : (ts : List Tried) (t : Tried) → map place_of (ts ++ t ∷ []) ≡ map place_of ts ++ place_of t ∷ []
places_push [] t = refl
places_push (x ∷ ts) t = ap (λ (l : List (Gang × Case)). place_of x ∷ l) (places_push ts t)

module _ (gang : Gang) (cs : List Case) (i : ℕ) (c : Case) (less : i < length cs) (is : c ≡ get_or cs i c) where
  here : map (beside gang) (drop i cs) ≡ beside gang c ∷ map (beside gang) (drop (i + 1) cs)
  here =
      ap (map (beside gang)) (drop_more cs i c less) ∙ ap (λ (d : Case). beside gang d ∷ map (beside gang) (drop (i + 1) cs)) (sym is)

  -- a case that was tried, after those before
  pub case_next : (old new : List Tried) (t : Tried) (all : List (Gang × Case)) → place_of t ≡ beside gang c → new ≡ old ++ t ∷ []
      → map place_of old ++ map (beside gang) (drop i cs) ≡ all → map place_of new ++ map (beside gang) (drop (i + 1) cs) ≡ all
  case_next old new t all place grown h =
      ap (λ (l : List Tried). map place_of l ++ map (beside gang) (drop (i + 1) cs)) grown
      ∙ ap (λ (l : List (Gang × Case)). l ++ map (beside gang) (drop (i + 1) cs)) (places_push old t)
      ∙ append_assoc (map place_of old) (place_of t ∷ []) (map (beside gang) (drop (i + 1) cs))
      ∙ ap (λ (p : Gang × Case). map place_of old ++ p ∷ map (beside gang) (drop (i + 1) cs)) place
      ∙ ap (λ (l : List (Gang × Case)). map place_of old ++ l) (sym here)
      ∙ h

-- a gang at which all cases were tried
pub gang_next : (gangs : List Gang) (cs : List Case) (k : ℕ) (d : Gang) (old new : List Tried) (all : List (Gang × Case)) → k < length gangs
    → map place_of new ≡ map place_of old ++ map (beside (get_or gangs k d)) cs → map place_of old ++ places (drop k gangs) cs ≡ all → map place_of new ++ places (drop (k + 1) gangs) cs ≡ all
gang_next gangs cs k d old new all less grown h =
    ap (λ (l : List (Gang × Case)). l ++ places (drop (k + 1) gangs) cs) grown
    ∙ append_assoc (map place_of old) (map (beside (get_or gangs k d)) cs) (places (drop (k + 1) gangs) cs)
    ∙ ap (λ (l : List Gang). map place_of old ++ places l cs) (sym (drop_more gangs k d less))
    ∙ h
