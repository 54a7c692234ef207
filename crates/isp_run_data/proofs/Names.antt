-- What stands before the first `=` of a word, by what `read_output` says.
use Rattle.std.proofs.Common.{◌≡◌, ℕ, suc, ◌+◌, List, [], ◌∷◌, ◌++◌, Bool, false, refl, ap, ◌∙◌, arith, if◌then◌else◌}
use Rattle.std.specs.Prelude.{◌==◌}
use Rattle.std.proofs.lemmas.Bool.{ne_eqb}
use Rattle.isp_run_data.specs.Showing.{name_in}
use Rattle.isp_run_words.specs.Saying.{Lacks, Parts}

first_is_none : (c : ℕ) (cs : List ℕ) → Lacks 61 (c ∷ cs) → (c == 61) ≡ false
first_is_none c cs h = ne_eqb c 61 (h 0 (omega arith))

others : (c : ℕ) (cs : List ℕ) → Lacks 61 (c ∷ cs) → Lacks 61 cs
others c cs h i less = h (suc i) (omega (arith, less))

skipped : (c : ℕ) (rest : List ℕ) → (c == 61) ≡ false → name_in (c ∷ rest) ≡ c ∷ name_in rest
skipped c rest e = ap (λ (b : Bool). if b then [] else c ∷ name_in rest) e

before : (name text : List ℕ) → Lacks 61 name → name_in (name ++ 61 ∷ text) ≡ name
before [] text h = refl
before (c ∷ cs) text h =
    skipped c (cs ++ 61 ∷ text) (first_is_none c cs h) ∙ ap (λ (l : List ℕ). c ∷ l) (before cs text (others c cs h))

pub name_is : (word name text : List ℕ) → Parts word name text → name_in word ≡ name
name_is word name text h = ap name_in h.0 ∙ before name text h.1

-- a word without `=`
pub whole_is : (word : List ℕ) → Lacks 61 word → name_in word ≡ word
whole_is [] h = refl
whole_is (c ∷ cs) h = skipped c cs (first_is_none c cs h) ∙ ap (λ (l : List ℕ). c ∷ l) (whole_is cs (others c cs h))
