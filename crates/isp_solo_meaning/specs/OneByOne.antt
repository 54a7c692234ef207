-- The instances of a gang one after another.
use Rattle.std.specs.Prelude.{◌≡◌, ℕ, ◌<◌, List, [], ◌∷◌, count_by, nat_eq}
use Rattle.std.specs.List.{All}
use Rattle.isp_base.specs.declared.signature.Argument.{Argument}
use Rattle.isp_typed.specs.Typed.{Program}
use Rattle.isp_solo_meaning.specs.Runs.{solo_run, after}

-- the arrays after the runs of these instances, each over what the one before it left
abbrev pub one_by_one : Program → ℕ → ℕ → List Argument → List ℕ → (ℕ → ℕ → ℕ) → ℕ → ℕ → ℕ
one_by_one program f most xs [] m = m
one_by_one program f most xs (p ∷ ps) m = one_by_one program f most xs ps (after (solo_run program f most xs m p) m)

-- each instance of the gang once
pub record IsOrder (gang : ℕ) (ps : List ℕ) : Type 0 where
  pub below : All (λ p. p < gang) ps
  pub once : (p : ℕ) → p < gang → count_by (λ q. nat_eq q p) ps ≡ 1
