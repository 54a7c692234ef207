-- The exported function of a name is one.
use Rattle.std.proofs.Common.{◌≡◌, refl, sym, ap, subst, ◌∙◌, ℕ, zero, suc, ◌+◌, Bool, true, false, cond, List, [], ◌∷◌, ◌++◌, map, Some, arith}
use Rattle.std.specs.Prelude.{IsSome, is_some, bytes_eq, find, not, slice_get, ◌&&◌, ◌||◌}
use Rattle.std.specs.List.{list_any}
use Rattle.std.proofs.lemmas.Bool.{true≢false, false≢true}
use Rattle.std.proofs.lemmas.List.Folds.{list_any-append}
use Rattle.std.proofs.lemmas.Slice.Eq.{bytes_eq-Decides}
use Rattle.isp_typed.specs.Fine.{all_new}
use Rattle.isp_typed.specs.Typed.{TFunction}
use Rattle.isp_typed.specs.Views.{function_of, functions_of}
use Rattle.isp_typed.specs.declared.function.TypedFunction.{TypedFunction}
use Rattle.isp_rates.specs.Exports.{is_entry, entry_from}

both : (a b : Bool) → (a && b) ≡ true → (a ≡ true) × (b ≡ true)
both true b e = (refl, e)
both false b e = absurd (false≢true e)

not_true : (a : Bool) → not a ≡ true → a ≡ false
not_true true e = absurd (false≢true e)
not_true false e = refl

left_true : (a b : Bool) → a ≡ true → (a || b) ≡ true
left_true true b e = refl
left_true false b e = absurd (false≢true e)

right_true : (a b : Bool) → b ≡ true → (a || b) ≡ true
right_true true b e = refl
right_true false b e = e

and_false : (a b : Bool) → b ≡ false → (a && b) ≡ false
and_false true b e = e
and_false false b e = refl

and_true : (a b : Bool) → a ≡ true → b ≡ true → (a && b) ≡ true
and_true true b e h = h
and_true false b e h = absurd (false≢true e)

same_some : {A : Type 0} (x y : A) → Some x ≡ Some y → x ≡ y
same_some x y e = cc

-- a name that came before does not come again
comes_once : (before : List (List ℕ)) (w : List ℕ) (ws : List (List ℕ)) (f : ℕ) → list_any (λ n. bytes_eq n w) before ≡ true → all_new before ws ≡ true → slice_get ws f ≡ Some w → ⊥
comes_once before w [] f h new e = absurd (let no : ⊥ = cc in no)
comes_once before w (x ∷ ws) zero h new e =
    let parts = both (not (list_any (λ n. bytes_eq n x) before)) (all_new (before ++ x ∷ []) ws) new in
    let none : list_any (λ n. bytes_eq n w) before ≡ false = subst (λ (z : List ℕ). list_any (λ n. bytes_eq n z) before ≡ false) (same_some x w e) (not_true (list_any (λ n. bytes_eq n x) before) parts.0) in
    true≢false (sym h ∙ none)
comes_once before w (x ∷ ws) (suc f) h new e =
    let parts = both (not (list_any (λ n. bytes_eq n x) before)) (all_new (before ++ x ∷ []) ws) new in
    comes_once (before ++ x ∷ []) w ws f
    (list_any-append (λ n. bytes_eq n w) before (x ∷ []) ∙ left_true (list_any (λ n. bytes_eq n w) before) (list_any (λ n. bytes_eq n w) (x ∷ [])) h) parts.1 e

abbrev names_of : List TypedFunction → List (List ℕ)
names_of fs = map (λ (k : TFunction). k.name) (functions_of fs)

name_at : (fs : List TypedFunction) (f : ℕ) (h : TFunction) → slice_get (functions_of fs) f ≡ Some h → slice_get (names_of fs) f ≡ Some h.name
name_at [] f h e = absurd (let no : ⊥ = cc in no)
name_at (g ∷ gs) zero h e = ap (λ (k : TFunction). Some k.name) (same_some (function_of g) h e)
name_at (g ∷ gs) (suc f) h e = name_at gs f h e

here : (w : List ℕ) (g : TypedFunction) (h : TFunction) → function_of g ≡ h → h.exported ≡ true → h.name ≡ w → is_entry w g ≡ true
here w g h e out named =
    and_true g.exported (bytes_eq g.name w) (ap (λ (k : TFunction). k.exported) e ∙ out) ((bytes_eq-Decides g.name w).1 (ap (λ (k : TFunction). k.name) e ∙ named))

module _ (before : List (List ℕ)) (w : List ℕ) (g : TypedFunction) (gs : List TypedFunction) (f : ℕ) (new : all_new before (names_of (g ∷ gs)) ≡ true) (e : slice_get (names_of gs) f ≡ Some w) where
  later : all_new (before ++ g.name ∷ []) (names_of gs) ≡ true
  later = (both (not (list_any (λ n. bytes_eq n g.name) before)) (all_new (before ++ g.name ∷ []) (names_of gs)) new).1

  not_here : is_entry w g ≡ false
  not_here = by (bytes_eq g.name w) refl where
    by : (b : Bool) → bytes_eq g.name w ≡ b → is_entry w g ≡ false
    by false i = and_false g.exported (bytes_eq g.name w) i
    by true i =
        absurd (comes_once (before ++ g.name ∷ []) w (names_of gs) f
        (list_any-append (λ n. bytes_eq n w) before (g.name ∷ []) ∙ right_true (list_any (λ n. bytes_eq n w) before) (bytes_eq g.name w || false) (left_true (bytes_eq g.name w) false i)) later e)

only_entry : (before : List (List ℕ)) (w : List ℕ) (n : ℕ) (gs : List TypedFunction) (f : ℕ) (h : TFunction) → all_new before (names_of gs) ≡ true → slice_get (functions_of gs) f ≡ Some h → h.exported ≡ true → h.name ≡ w
    → entry_from w n gs ≡ Some (n + f)
only_entry before w n [] f h new e out named = absurd (let no : ⊥ = cc in no)
only_entry before w n (g ∷ gs) zero h new e out named =
    ap (λ t. cond t (Some n) (entry_from w (suc n) gs)) (here w g h (same_some (function_of g) h e) out named) ∙ ap (λ (k : ℕ). Some k) (let i : n ≡ n + 0 = omega arith in i)
only_entry before w n (g ∷ gs) (suc f) h new e out named =
    let there = name_at gs f h e ∙ ap (λ (k : List ℕ). Some k) named in
    ap (λ t. cond t (Some n) (entry_from w (suc n) gs)) (not_here before w g gs f new there)
    ∙ only_entry (before ++ g.name ∷ []) w (suc n) gs f h (later before w g gs f new there) e out named ∙ ap (λ (k : ℕ). Some k) (let i : suc n + f ≡ n + suc f = omega arith in i)

-- a function that is exported under a name is the one that is found by it
pub entry_is : (w : List ℕ) (fs : List TypedFunction) (f : ℕ) (h : TFunction) → all_new [] (names_of fs) ≡ true → slice_get (functions_of fs) f ≡ Some h → h.exported ≡ true → h.name ≡ w → entry_from w 0 fs ≡ Some f
entry_is w fs f h new e out named = only_entry [] w 0 fs f h new e out named ∙ ap (λ (k : ℕ). Some k) (let i : 0 + f ≡ f = omega arith in i)

pub entry_found : (w : List ℕ) (gs : List TypedFunction) (f : ℕ) (h : TFunction) → slice_get (functions_of gs) f ≡ Some h → h.exported ≡ true → h.name ≡ w → IsSome (find (is_entry w) gs)
entry_found w [] f h e out named = absurd (let no : ⊥ = cc in no)
entry_found w (g ∷ gs) zero h e out named = ap (λ t. is_some (cond t (Some g) (find (is_entry w) gs))) (here w g h (same_some (function_of g) h e) out named)
entry_found w (g ∷ gs) (suc f) h e out named = by (is_entry w g) (entry_found w gs f h e out named) where
  by : (t : Bool) → IsSome (find (is_entry w) gs) → IsSome (cond t (Some g) (find (is_entry w) gs))
  by true k = refl
  by false k = k
