-- Sets of names, and whether names stand twice.
use Rattle.std.proofs.Common.{◌≡◌, ◌∙◌, sym, ap, refl, ℕ, ◌+◌, ◌<◌, List, [], ◌∷◌, ◌++◌, length, take, drop, get_or, Bool, true, false, Bor, BTreeSet, add-one, drop-cons, suc, None, map, subst, ◌||◌, ◌&&◌}
use Rattle.std.specs.Prelude.{bytes_eq, cond, not}
use Rattle.std.specs.List.{list_any}
use Rattle.std.specs.BTreeSet.{UpdatesBy, contains_by}
use Rattle.std.specs.Cmp.Lexicographic.{slice_cmp}
use Rattle.std.specs.Ordering.{nat_cmp}
use Rattle.std.proofs.Math.Seq.{take-suc}
use Rattle.std.proofs.lemmas.List.{take-append-drop, get_or-map, length-map}
use Rattle.std.proofs.lemmas.List.Folds.{list_any_more, list_any-append}
use Rattle.std.proofs.lemmas.Slice.Eq.{bytes_eq-Decides}
use Rattle.std.proofs.lemmas.Map.Text.{is_eq-slice_cmp}
use Rattle.isp_code.specs.Listing.{Listing, Routine, routine_of}
use Rattle.isp_code.specs.declared.function.Function.{Function}
use Rattle.isp_code.specs.declared.function.Param.{Param}
use Rattle.isp_verify.specs.Faults.{is_function, is_named, names_differ, or_later, function_fault, functions_fault}

-- whether a set has a name
abbrev pub has_name : BTreeSet (Bor (List ℕ)) → List ℕ → Bool
has_name s w = contains_by (λ k. slice_cmp nat_cmp w k.now) s

-- a set of the names of what stands before a place, with the name of what stands there
module _ {A : Type 0} (name : A → List ℕ) where
  abbrev pub is_called : List ℕ → A → Bool
  is_called w x = bytes_eq (name x) w

  one_more : (t u : Bool) → cond t true u ≡ (u || t)
  one_more true true = refl
  one_more true false = refl
  one_more false true = refl
  one_more false false = refl

  pub with_one : (s n : BTreeSet (Bor (List ℕ))) (xs : List A) (i : ℕ) (x : A) (b : Bor (List ℕ)) → i < length xs → get_or xs i x ≡ x → b.now ≡ name x
      → UpdatesBy (λ x y. slice_cmp nat_cmp x.now y.now) (λ k. slice_cmp nat_cmp b.now k.now) s n true
      → (w : List ℕ) → has_name s w ≡ list_any (is_called w) (take i xs) → has_name n w ≡ list_any (is_called w) (take (i + 1) xs)
  with_one s n xs i x b low at is u w had =
      u.0 (record { ref_ptr = (0, 0); now = w }) ∙ (ap (λ t. cond t true (has_name s w)) (is_eq-slice_cmp b.now w) ∙ (one_more (bytes_eq b.now w) (has_name s w)
      ∙ (ap (λ z. z || bytes_eq b.now w) had ∙ (ap (λ z. list_any (is_called w) (take i xs) || bytes_eq z w) (is ∙ ap name (sym at))
      ∙ sym (list_any_more (is_called w) xs i x low)))))

-- which of two names stands first does not matter
names_same : (a b : List ℕ) → bytes_eq a b ≡ bytes_eq b a
names_same a b = go (bytes_eq a b) (bytes_eq b a) refl refl
  where
    one_way : (x y : List ℕ) → bytes_eq x y ≡ true → bytes_eq y x ≡ true
    one_way x y e = (bytes_eq-Decides y x).1 (sym ((bytes_eq-Decides x y).0 e))

    go : (t u : Bool) → bytes_eq a b ≡ t → bytes_eq b a ≡ u → bytes_eq a b ≡ bytes_eq b a
    go true u e f = e ∙ sym (one_way a b e)
    go false true e f = let t = one_way b a f in cc
    go false false e f = e ∙ sym f

moved : (a b c d : Bool) → (not (a || (b || false)) && (c && not d)) ≡ ((not a && c) && not (b || d))
moved true b c d = refl
moved false true true d = refl
moved false true false d = refl
moved false false true d = refl
moved false false false d = refl

-- one more parameter after others
pub differ_last : (ys : List Param) (x : Param) → names_differ (ys ++ x ∷ []) ≡ (names_differ ys && not (list_any (is_named x.name) ys))
differ_last [] x = refl
differ_last (y ∷ ys) x =
    ap (λ z. not z && names_differ (ys ++ x ∷ [])) (list_any-append (is_named y.name) ys (x ∷ []))
    ∙ (ap (λ z. not (list_any (is_named y.name) ys || (z || false)) && names_differ (ys ++ x ∷ [])) (names_same x.name y.name)
    ∙ (ap (λ z. not (list_any (is_named y.name) ys || (bytes_eq y.name x.name || false)) && z) (differ_last ys x)
    ∙ moved (list_any (is_named y.name) ys) (bytes_eq y.name x.name) (names_differ ys) (list_any (is_named x.name) ys)))

-- a name that stands twice among the first stands twice among all
pub differ_first : (ys zs : List Param) → names_differ ys ≡ false → names_differ (ys ++ zs) ≡ false
differ_first [] zs e = cc
differ_first (y ∷ ys) zs e = go (list_any (is_named y.name) ys) refl (differ_first ys zs)
  where
    none : (t : Bool) → (t && false) ≡ false
    none true = refl
    none false = refl

    go : (t : Bool) → list_any (is_named y.name) ys ≡ t → (names_differ ys ≡ false → names_differ (ys ++ zs) ≡ false) → names_differ ((y ∷ ys) ++ zs) ≡ false
    go true f rest = ap (λ z. not z && names_differ (ys ++ zs)) (list_any-append (is_named y.name) ys zs ∙ ap (λ z. z || list_any (is_named y.name) zs) f)
    go false f rest = ap (λ z. not (list_any (is_named y.name) (ys ++ zs)) && z) (rest (ap (λ z. not z && names_differ ys) (sym f) ∙ e)) ∙ none (not (list_any (is_named y.name) (ys ++ zs)))

-- the step of a look through the parameters
pub differ_step : (xs : List Param) (i : ℕ) (x : Param) (b : Bool) → i < length xs → x ≡ get_or xs i x → names_differ (take i xs) ≡ true
    → b ≡ not (list_any (is_named x.name) (take i xs)) → names_differ (take (i + 1) xs) ≡ b
differ_step xs i x b low at before e =
    ap names_differ (ap (λ n. take n xs) (add-one i) ∙ take-suc xs i x low ∙ ap (λ z. take i xs ++ z ∷ []) (sym at))
    ∙ (differ_last (take i xs) x ∙ (ap (λ z. z && not (list_any (is_named x.name) (take i xs))) before ∙ sym e))

pub differ_all : (xs : List Param) (n : ℕ) → names_differ (take n xs) ≡ false → names_differ xs ≡ false
differ_all xs n e = ap names_differ (sym (take-append-drop n xs)) ∙ differ_first (take n xs) (drop n xs) e

-- the names of functions, with that of one more
pub with_function : (s n : BTreeSet (Bor (List ℕ))) (fs : List Function) (hs : List Routine) (k : ℕ) (f : Function) (b : Bor (List ℕ)) → map routine_of fs ≡ hs → k < length fs → f ≡ get_or fs k f → b.now ≡ f.name
    → UpdatesBy (λ x y. slice_cmp nat_cmp x.now y.now) (λ k. slice_cmp nat_cmp b.now k.now) s n true
    → (w : List ℕ) → has_name s w ≡ list_any (is_function w) (take k hs) → has_name n w ≡ list_any (is_function w) (take (k + 1) hs)
with_function s n fs hs k f b made low at is u w had =
    with_one (λ (h : Routine). h.name) s n hs k (routine_of f) b
    (subst (λ m. k < m) (sym (length-map fs routine_of) ∙ ap length made) low)
    (ap (λ z. get_or z k (routine_of f)) (sym made) ∙ (get_or-map routine_of fs k f (routine_of f) low ∙ ap routine_of (sym at)))
    is u w had

-- a function without a fault is passed over
pub fault_step : (code : Listing) (k : ℕ) (fs : List Function) (f : Function) → k < length fs → f ≡ get_or fs k f → function_fault code k (routine_of f) ≡ None
    → functions_fault code k (map routine_of (drop k fs)) ≡ functions_fault code (k + 1) (map routine_of (drop (k + 1) fs))
fault_step code k fs f low at none =
    ap (λ z. functions_fault code k (map routine_of z)) (drop-cons fs k f low)
    ∙ (ap (λ x. functions_fault code k (routine_of x ∷ map routine_of (drop (suc k) fs))) (sym at)
    ∙ (ap (λ o. or_later o (functions_fault code (suc k) (map routine_of (drop (suc k) fs)))) none
    ∙ ap (λ n. functions_fault code n (map routine_of (drop n fs))) (sym (add-one k))))
