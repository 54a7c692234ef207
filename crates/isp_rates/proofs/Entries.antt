-- The exported functions by their numbers are those of the program.
use Rattle.std.proofs.Common.{◌≡◌, ℕ, zero, suc, ◌+◌, ◌<◌, ◌++◌, Bool, true, false, cond, refl, sym, ap, subst, ◌∙◌, arith, drop, add-one, get_or, append_assoc}
use Rattle.std.specs.Prelude.{Option, Some, None, List, [], ◌∷◌, length, bytes_eq, ◌&&◌, filter, find, is_some, slice_get}
use Rattle.std.specs.Option.{option_or}
use Rattle.std.proofs.lemmas.Slice.Eq.{bytes_eq-Decides}
use Rattle.isp_typed.specs.declared.function.TypedFunction.{TypedFunction}
use Rattle.isp_rates.specs.Exports.{exports_from, is_entry, entry_from, at_number}
use Rattle.isp_rates.proofs.Steps.{split_at}

-- one list stands in another from a place on
abbrev StandsAt : List TypedFunction → ℕ → List TypedFunction → Type 0
StandsAt fs n gs = (i : ℕ) → slice_get fs (n + i) ≡ slice_get gs i

next : (fs : List TypedFunction) (n : ℕ) (g : TypedFunction) (gs : List TypedFunction) → StandsAt fs n (g ∷ gs) → StandsAt fs (suc n) gs
next fs n g gs a i = subst (λ z. slice_get fs z ≡ slice_get gs i) (omega arith) (a (suc i))

here : (fs : List TypedFunction) (n : ℕ) (g : TypedFunction) (gs : List TypedFunction) → StandsAt fs n (g ∷ gs) → slice_get fs n ≡ Some g
here fs n g gs a = subst (λ z. slice_get fs z ≡ Some g) (omega arith) (a 0)

whole : (fs : List TypedFunction) → StandsAt fs 0 fs
whole fs i = let e : i ≡ 0 + i = omega arith in subst (λ z. slice_get fs z ≡ slice_get fs i) e refl

exports_at : (fs : List TypedFunction) (n : ℕ) (gs : List TypedFunction) → StandsAt fs n gs → (k : ℕ) → at_number fs (slice_get (exports_from n gs) k) ≡ slice_get (filter (λ f. f.exported) gs) k
exports_at fs n [] a k = refl
exports_at fs n (g ∷ gs) a k = go (exports_at fs (suc n) gs (next fs n g gs a)) g.exported k
  where
    go : ((j : ℕ) → at_number fs (slice_get (exports_from (suc n) gs) j) ≡ slice_get (filter (λ f. f.exported) gs) j)
        → (t : Bool) (k : ℕ) → at_number fs (slice_get (cond t (n ∷ exports_from (suc n) gs) (exports_from (suc n) gs)) k) ≡ slice_get (cond t (g ∷ filter (λ f. f.exported) gs) (filter (λ f. f.exported) gs)) k
    go later true zero = here fs n g gs a
    go later true (suc k) = later k
    go later false k = later k

entry_at : (w : List ℕ) (fs : List TypedFunction) (n : ℕ) (gs : List TypedFunction) → StandsAt fs n gs → at_number fs (entry_from w n gs) ≡ find (is_entry w) gs
entry_at w fs n [] a = refl
entry_at w fs n (g ∷ gs) a = go (entry_at w fs (suc n) gs (next fs n g gs a)) (is_entry w g)
  where
    go : at_number fs (entry_from w (suc n) gs) ≡ find (is_entry w) gs → (t : Bool) → at_number fs (cond t (Some n) (entry_from w (suc n) gs)) ≡ cond t (Some g) (find (is_entry w) gs)
    go later true = here fs n g gs a
    go later false = later

-- the export of a number among them
export_is : (fs : List TypedFunction) (k : ℕ) → at_number fs (slice_get (exports_from 0 fs) k) ≡ slice_get (filter (λ f. f.exported) fs) k
export_is fs k = exports_at fs 0 fs (whole fs) k

-- the export of a name
entry_is : (w : List ℕ) (fs : List TypedFunction) → at_number fs (entry_from w 0 fs) ≡ find (is_entry w) fs
entry_is w fs = entry_at w fs 0 fs (whole fs)

-- the function that is found by the table, and by the map
pub export_found : (fs gs : List TypedFunction) (ns : List ℕ) (k : ℕ) (o : Option ℕ) (r : Option TypedFunction) → gs ≡ fs → ns ≡ exports_from 0 fs → o ≡ slice_get ns k
    → r ≡ at_number gs o → r ≡ slice_get (filter (λ f. f.exported) fs) k
export_found fs gs ns k o r g n e p =
    p ∙ (ap (λ (z : List TypedFunction). at_number z o) g ∙ (ap (at_number fs) (e ∙ ap (λ (z : List ℕ). slice_get z k) n) ∙ export_is fs k))

pub entry_found : (w : List ℕ) (fs gs : List TypedFunction) (o : Option ℕ) (r : Option TypedFunction) → gs ≡ fs → o ≡ entry_from w 0 fs → r ≡ at_number gs o → r ≡ find (is_entry w) fs
entry_found w fs gs o r g e p = p ∙ (ap (λ (z : List TypedFunction). at_number z o) g ∙ (ap (at_number fs) e ∙ entry_is w fs))

-- ---- found one by one

one_export : (n : ℕ) (f : TypedFunction) (fs : List TypedFunction) → exports_from n (f ∷ fs) ≡ exports_from n (f ∷ []) ++ exports_from (suc n) fs
one_export n f fs = go f.exported
  where
    go : (t : Bool) → cond t (n ∷ exports_from (suc n) fs) (exports_from (suc n) fs) ≡ cond t (n ∷ []) [] ++ exports_from (suc n) fs
    go true = refl
    go false = refl

pub exports_step : (fs : List TypedFunction) (n : ℕ) (f : TypedFunction) (seen next total : List ℕ) → n < length fs → f ≡ get_or fs n f → next ≡ seen ++ exports_from n (f ∷ [])
    → seen ++ exports_from n (drop n fs) ≡ total → next ++ exports_from (n + 1) (drop (n + 1) fs) ≡ total
exports_step fs n f seen next total h e p k =
    ap (λ (z : List ℕ). z ++ exports_from (n + 1) (drop (n + 1) fs)) p
    ∙ (append_assoc seen (exports_from n (f ∷ [])) (exports_from (n + 1) (drop (n + 1) fs))
    ∙ (ap (λ (m : ℕ). seen ++ (exports_from n (f ∷ []) ++ exports_from m (drop (n + 1) fs))) (add-one n)
    ∙ (ap (λ (z : List ℕ). seen ++ z) (sym (one_export n f (drop (n + 1) fs)) ∙ ap (exports_from n) (sym (split_at fs n f h e))) ∙ k)))

one_entry : (w : List ℕ) (n : ℕ) (f : TypedFunction) (fs : List TypedFunction) → entry_from w n (f ∷ fs) ≡ option_or (entry_from w n (f ∷ [])) (entry_from w (suc n) fs)
one_entry w n f fs = go (is_entry w f)
  where
    go : (t : Bool) → cond t (Some n) (entry_from w (suc n) fs) ≡ option_or (cond t (Some n) None) (entry_from w (suc n) fs)
    go true = refl
    go false = refl

option_or_twice : {A : Type 0} (o p q : Option A) → option_or (option_or o p) q ≡ option_or o (option_or p q)
option_or_twice (Some x) p q = refl
option_or_twice None p q = refl

pub option_or_none : {A : Type 0} (o : Option A) → option_or o None ≡ o
option_or_none (Some x) = refl
option_or_none None = refl

pub entries_step : (w : List ℕ) (fs : List TypedFunction) (n : ℕ) (f : TypedFunction) (seen next total : Option ℕ) → n < length fs → f ≡ get_or fs n f → next ≡ option_or seen (entry_from w n (f ∷ []))
    → option_or seen (entry_from w n (drop n fs)) ≡ total → option_or next (entry_from w (n + 1) (drop (n + 1) fs)) ≡ total
entries_step w fs n f seen next total h e p k =
    ap (λ (z : Option ℕ). option_or z (entry_from w (n + 1) (drop (n + 1) fs))) p
    ∙ (option_or_twice seen (entry_from w n (f ∷ [])) (entry_from w (n + 1) (drop (n + 1) fs))
    ∙ (ap (λ (m : ℕ). option_or seen (option_or (entry_from w n (f ∷ [])) (entry_from w m (drop (n + 1) fs)))) (add-one n)
    ∙ (ap (λ (z : Option ℕ). option_or seen z) (sym (one_entry w n f (drop (n + 1) fs)) ∙ ap (entry_from w n) (sym (split_at fs n f h e))) ∙ k)))

-- a function that is not exported is no entry
pub hidden : (w : List ℕ) (n : ℕ) (f : TypedFunction) (o : Option ℕ) → f.exported ≡ false → o ≡ option_or o (entry_from w n (f ∷ []))
hidden w n f o e = rw e (sym (option_or_none o))

-- a name that is known keeps its number
pub entry_known : (w : List ℕ) (n : ℕ) (f : TypedFunction) (g : List ℕ → Option ℕ) → is_some (g f.name) ≡ true → g w ≡ option_or (g w) (entry_from w n (f ∷ []))
entry_known w n f g k = go f.exported (bytes_eq f.name w) refl
  where
    here : bytes_eq f.name w ≡ true → is_some (g w) ≡ true
    here d = subst (λ z. is_some (g z) ≡ true) ((bytes_eq-Decides f.name w).0 d) k

    there : (o : Option ℕ) (x : Option ℕ) → is_some o ≡ true → o ≡ option_or o x
    there (Some a) x e = refl
    there None x e = absurd (let no : ⊥ = cc in no)

    go : (t b : Bool) → bytes_eq f.name w ≡ b → g w ≡ option_or (g w) (cond (t && b) (Some n) None)
    go true true d = there (g w) (Some n) (here d)
    go true false d = sym (option_or_none (g w))
    go false b d = sym (option_or_none (g w))

-- a name that is not known gets the next one
pub entry_new : (w : List ℕ) (n : ℕ) (f : TypedFunction) (g : List ℕ → Option ℕ) (key : List ℕ) (after : Option ℕ) → f.exported ≡ true → is_some (g f.name) ≡ false → key ≡ f.name
    → after ≡ cond (bytes_eq key w) (Some n) (g w) → after ≡ option_or (g w) (entry_from w n (f ∷ []))
entry_new w n f g key after x u k a = a ∙ rw (k, x) (go (bytes_eq f.name w) refl)
  where
    here : bytes_eq f.name w ≡ true → is_some (g w) ≡ false
    here d = subst (λ z. is_some (g z) ≡ false) ((bytes_eq-Decides f.name w).0 d) u

    first : (o : Option ℕ) → is_some o ≡ false → Some n ≡ option_or o (Some n)
    first None e = refl
    first (Some a) e = absurd (let no : ⊥ = cc in no)

    go : (b : Bool) → bytes_eq f.name w ≡ b → cond b (Some n) (g w) ≡ option_or (g w) (cond b (Some n) None)
    go true d = first (g w) (here d)
    go false d = sym (option_or_none (g w))
