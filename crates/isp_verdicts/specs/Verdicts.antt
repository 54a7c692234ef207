-- What `isp check` says of a program: `ok`, and for each exported function, in the order of the text, whether it is an
-- independent entry.
--     ok
--     blur independent
--     count dependent: rule 4 at 105..108
use Rattle.std.specs.Prelude.{◌≡◌, ℕ, List, [], ◌∷◌, ◌++◌, Option, Some, None, codes, filter, map}
use Rattle.std.specs.Fmt.{decimal}
use Rattle.isp_base.specs.Types.{span_text}
use Rattle.isp_independence.specs.Dependences.{Answered, number_of}
use Rattle.isp_independence.specs.Independent.{Depends}
use Rattle.isp_independence.specs.declared.dependence.Dependence.{Dependence}
use Rattle.isp_meaning.specs.Entries.{IsExport}
use Rattle.isp_typed.specs.Typed.{Program, TFunction}

-- a rule that is broken, and where: `rule 4 at 105..108`
abbrev pub dependence_text : Dependence → List ℕ
dependence_text d = codes "rule " ++ (decimal (number_of d.rule) ++ (codes " at " ++ span_text d.span))

abbrev pub verdict_text : Option Dependence → List ℕ
verdict_text None = codes " independent"
verdict_text (Some d) = codes " dependent: " ++ dependence_text d

abbrev pub verdict_line : List ℕ → Option Dependence → List ℕ
verdict_line name o = name ++ (verdict_text o ++ 10 ∷ [])

-- the exported function of a name is an independent entry, or this is the first of its breaches
pub record IsVerdict (p : Program) (name : List ℕ) (o : Option Dependence) : Type 0 where
  pub number : ℕ
  pub function : TFunction
  pub export : IsExport p name number function
  pub answered : Answered o (Depends p number)

-- the names of exported functions, in the order of the text
abbrev pub exported_names : Program → List (List ℕ)
exported_names p = map (λ (g : TFunction). g.name) (filter (λ (g : TFunction). g.exported) p.functions)

-- a line for each of them
abbrev pub AreVerdicts : Program → List (List ℕ) → List ℕ → Type 0
AreVerdicts p [] text = text ≡ []
AreVerdicts p (name ∷ names) text =
    (o : Option Dependence) × (rest : List ℕ) × IsVerdict p name o × AreVerdicts p names rest × (text ≡ verdict_line name o ++ rest)

pub record Checks (p : Program) (text : List ℕ) : Type 0 where
  pub lines : List ℕ
  pub verdicts : AreVerdicts p (exported_names p) lines
  pub text_is : text ≡ (codes "ok" ++ 10 ∷ []) ++ lines
