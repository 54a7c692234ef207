-- Groups of locals, counted as one goes along their types.
use Rattle.std.proofs.Common.{◌≡◌, ℕ, suc, ◌+◌, List, [], ◌∷◌, Bool, true, false, refl, sym, ap, ◌∙◌, arith}
use Rattle.std.specs.Prelude.{if◌then◌else◌}
use Rattle.isp_wasm_meaning.specs.Module.{ValueType, I32, I64, V128}
use Rattle.isp_wasm_binary.specs.Binary.{is_same, one_more, joined, grouped}
use Rattle.isp_wasm_binary.specs.Modules.{Group}
use Rattle.isp_wasm_module.specs.reader.Runs.{runs}

same_is : (t u : ValueType) → is_same t u ≡ true → t ≡ u
same_is I32 I32 e = refl
same_is I64 I64 e = refl
same_is V128 V128 e = refl
same_is I32 I64 e = cc
same_is I32 V128 e = cc
same_is I64 I32 e = cc
same_is I64 V128 e = cc
same_is V128 I32 e = cc
same_is V128 I64 e = cc

itself : (t : ValueType) → is_same t t ≡ true
itself I32 = refl
itself I64 = refl
itself V128 = refl

turned : (t u : ValueType) → is_same t u ≡ is_same u t
turned I32 I32 = refl
turned I32 I64 = refl
turned I32 V128 = refl
turned I64 I32 = refl
turned I64 I64 = refl
turned I64 V128 = refl
turned V128 I32 = refl
turned V128 I64 = refl
turned V128 V128 = refl

-- so many of a type before groups
abbrev ahead : Bool → ℕ → ValueType → Group → List Group → List Group
ahead true n t g gs = record g { count = n + g.count } ∷ gs
ahead false n t g gs = record { count = n; type = t } ∷ g ∷ gs

abbrev put : ℕ → ValueType → List Group → List Group
put n t [] = record { count = n; type = t } ∷ []
put n t (g ∷ gs) = ahead (is_same t g.type) n t g gs

one : (t : ValueType) (gs : List Group) → put 1 t gs ≡ joined t gs
one t [] = refl
one t (g ∷ gs) = by (is_same t g.type)
  where
    by : (b : Bool) → ahead b 1 t g gs ≡ one_more b t g gs
    by true = ap (λ n. record g { count = n } ∷ gs) (let same : 1 + g.count ≡ suc g.count = omega arith in same)
    by false = refl

-- one more of the same type
more : (n : ℕ) (u : ValueType) (gs : List Group) → put (suc n) u gs ≡ put n u (joined u gs)
more n u [] = sym (ap (λ b. ahead b n u (record { count = 1; type = u }) []) (itself u) ∙ ap (λ k. record { count = k; type = u } ∷ []) (let same : n + 1 ≡ suc n = omega arith in same))
more n u (g ∷ gs) = by (is_same u g.type) refl
  where
    by : (b : Bool) → is_same u g.type ≡ b → ahead b (suc n) u g gs ≡ put n u (one_more b u g gs)
    by true e = ap (λ k. record g { count = k } ∷ gs) (let same : suc n + g.count ≡ n + suc g.count = omega arith in same) ∙ sym (ap (λ b. ahead b n u (record g { count = suc g.count }) gs) e)
    by false e = ap (λ k. record { count = k; type = u } ∷ g ∷ gs) (let same : suc n ≡ n + 1 = omega arith in same) ∙ sym (ap (λ b. ahead b n u (record { count = 1; type = u }) (g ∷ gs)) (itself u))

-- one of another type
other : (n : ℕ) (u t : ValueType) (gs : List Group) → is_same u t ≡ false → record { count = n; type = u } ∷ joined t gs ≡ put n u (joined t gs)
other n u t [] e = sym (ap (λ b. ahead b n u (record { count = 1; type = t }) []) e)
other n u t (g ∷ gs) e = by (is_same t g.type) refl
  where
    by : (b : Bool) → is_same t g.type ≡ b → record { count = n; type = u } ∷ one_more b t g gs ≡ put n u (one_more b t g gs)
    by true f = sym (ap (λ b. ahead b n u (record g { count = suc g.count }) gs) (ap (is_same u) (sym (same_is t g.type f)) ∙ e))
    by false f = sym (ap (λ b. ahead b n u (record { count = 1; type = t }) (g ∷ gs)) e)

runs_are : (n : ℕ) (u : ValueType) (ts : List ValueType) → runs n u ts ≡ put n u (grouped ts)
runs_are n u [] = refl
runs_are n u (t ∷ ts) = by (is_same t u) refl (λ m v. runs_are m v ts)
  where
    by : (b : Bool) → is_same t u ≡ b → ((m : ℕ) (v : ValueType) → runs m v ts ≡ put m v (grouped ts)) → (if b then runs (suc n) u ts else record { count = n; type = u } ∷ runs 1 t ts) ≡ put n u (joined t (grouped ts))
    by true e again = again (suc n) u ∙ more n u (grouped ts) ∙ ap (λ v. put n u (joined v (grouped ts))) (sym (same_is t u e))
    by false e again = ap (λ gs. record { count = n; type = u } ∷ gs) (again 1 t ∙ one t (grouped ts)) ∙ other n u t (grouped ts) (turned u t ∙ e)

-- the groups of types of which the first is taken
pub first_is : (t : ValueType) (ts : List ValueType) → runs 1 t ts ≡ grouped (t ∷ ts)
first_is t ts = runs_are 1 t ts ∙ one t (grouped ts)

-- one type further
pub same_next : (n : ℕ) (u t : ValueType) (ts : List ValueType) → is_same t u ≡ true → runs n u (t ∷ ts) ≡ runs (n + 1) u ts
same_next n u t ts e = ap (λ b. if b then runs (suc n) u ts else record { count = n; type = u } ∷ runs 1 t ts) e ∙ ap (λ k. runs k u ts) (let same : suc n ≡ n + 1 = omega arith in same)

pub other_next : (n : ℕ) (u t : ValueType) (ts : List ValueType) → is_same t u ≡ false → runs n u (t ∷ ts) ≡ record { count = n; type = u } ∷ runs 1 t ts
other_next n u t ts e = ap (λ b. if b then runs (suc n) u ts else record { count = n; type = u } ∷ runs 1 t ts) e
