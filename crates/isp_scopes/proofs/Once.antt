-- Each name once: no two are the same, and what goes through the tokens from the last on gives them.
use Rattle.std.proofs.Common.{◌≡◌, ◌≢◌, ◌<◌, ◌+◌, suc, ◌∙◌, sym, ap, subst, length, drop, drop-cons, get_or, reverse, ℕ, Bool, true, false, List, [], ◌∷◌, ◌++◌, refl, arith}
use Rattle.std.specs.Prelude.{◌||◌, bytes_eq, if◌then◌else◌}
use Rattle.std.specs.List.{All, list_any}
use Rattle.std.proofs.lemmas.Bool.{or_from, or_parts}
use Rattle.std.proofs.lemmas.Bool.Decides.{not_from_Decides}
use Rattle.std.proofs.lemmas.List.{reverse-append}
use Rattle.std.proofs.lemmas.List.Elements.{All-cons, All-nil}
use Rattle.std.proofs.lemmas.List.Kept.{AllPairs-cons}
use Rattle.std.proofs.lemmas.Slice.Eq.{bytes_eq-Decides}
use Rattle.isp_lex.specs.declared.token.Token.{Token}
use Rattle.isp_scopes.specs.Scopes.{AreApart, each_once, is_hidden, name_at}

pushed : (b : Bool) (once : List ℕ) (i : ℕ) → reverse (once ++ (if b then [] else i ∷ [])) ≡ (if b then [] else i ∷ []) ++ reverse once
pushed true once i = reverse-append once []
pushed false once i = reverse-append once (i ∷ [])

or_is : (b x : Bool) → (if b then true else x) ≡ (b || x)
or_is true x = refl
or_is false x = refl

module _ (ts : List Token) where
  abbrev Others : ℕ → ℕ → Type 0
  Others i k = name_at ts i ≢ name_at ts k

  still_seen : (i k : ℕ) (b : Bool) (is : List ℕ) → bytes_eq (name_at ts k) (name_at ts i) ≡ false → is_hidden ts i is ≡ false → is_hidden ts i ((if b then [] else k ∷ []) ++ is) ≡ false
  still_seen i k true is h g = g
  still_seen i k false is h g = or_from (bytes_eq (name_at ts k) (name_at ts i)) (is_hidden ts i is) h g

  -- a name that none of those after it hides is hidden by none that is left of them
  not_hidden : (i : ℕ) (is : List ℕ) → is_hidden ts i is ≡ false → is_hidden ts i (each_once ts is) ≡ false
  not_hidden i [] h = refl
  not_hidden i (k ∷ is) h =
      let p = or_parts (bytes_eq (name_at ts k) (name_at ts i)) (is_hidden ts i is) h in
      still_seen i k (is_hidden ts k is) (each_once ts is) p.0 (not_hidden i is p.1)

  others : (i : ℕ) (is : List ℕ) → is_hidden ts i is ≡ false → All (Others i) is
  others i [] h = All-nil (Others i)
  others i (k ∷ is) h =
      let p = or_parts (bytes_eq (name_at ts k) (name_at ts i)) (is_hidden ts i is) h in
      All-cons (Others i) k is (λ e. not_from_Decides (bytes_eq (name_at ts k) (name_at ts i)) (bytes_eq-Decides (name_at ts k) (name_at ts i)) p.0 (sym e)) (others i is p.1)

  apart_by : (i : ℕ) (is : List ℕ) (b : Bool) → is_hidden ts i is ≡ b → AreApart ts (each_once ts is) → AreApart ts ((if b then [] else i ∷ []) ++ each_once ts is)
  apart_by i is true e h = h
  apart_by i is false e h = AllPairs-cons Others i (each_once ts is) (others i (each_once ts is) (not_hidden i is e)) h

  each_apart : (is : List ℕ) → AreApart ts (each_once ts is)
  each_apart [] = λ i j d before below. absurd (omega arith)
  each_apart (i ∷ is) = apart_by i is (is_hidden ts i is) refl (each_apart is)

  -- ---- the tokens gone through from the last on

  abbrev pub is_seen : List ℕ → List ℕ → Bool
  is_seen w is = list_any (λ k. bytes_eq (name_at ts k) w) is

  module _ (found : List ℕ) (left k i : ℕ) (next : left ≡ k + 1) (within : k < length found) (at : i ≡ get_or found k 0) where
    first : drop k found ≡ i ∷ drop left found
    first =
        let same : suc k ≡ left = omega (arith, next) in
        drop-cons found k 0 within ∙ (ap (λ (y : ℕ). y ∷ drop (suc k) found) (sym at) ∙ ap (λ (n : ℕ). i ∷ drop n found) same)

    pub one_less : (once more : List ℕ) (b : Bool) → reverse once ≡ each_once ts (drop left found) → b ≡ is_seen (name_at ts i) (drop left found) → more ≡ once ++ (if b then [] else i ∷ [])
        → reverse more ≡ each_once ts (drop k found)
    one_less once more b before hidden pushes =
        ap reverse pushes ∙ (pushed b once i
        ∙ (ap (λ (z : List ℕ). (if b then [] else i ∷ []) ++ z) before
        ∙ (ap (λ (x : Bool). (if x then [] else i ∷ []) ++ each_once ts (drop left found)) hidden ∙ sym (ap (each_once ts) first))))

    pub one_seen : (w : List ℕ) (old new : Bool) → old ≡ is_seen w (drop left found) → new ≡ (if bytes_eq (name_at ts i) w then true else old) → new ≡ is_seen w (drop k found)
    one_seen w old new before more =
        more ∙ (or_is (bytes_eq (name_at ts i) w) old ∙ (ap (λ (x : Bool). bytes_eq (name_at ts i) w || x) before ∙ sym (ap (is_seen w) first)))

  pub all_once : (found once done : List ℕ) (left : ℕ) → left ≡ 0 → reverse once ≡ each_once ts (drop left found) → done ≡ reverse once → done ≡ each_once ts found
  all_once found once done left none before turned = turned ∙ (before ∙ ap (λ (n : ℕ). each_once ts (drop n found)) none)

  pub all_apart : (found done : List ℕ) → done ≡ each_once ts found → AreApart ts done
  all_apart found done same = subst (λ (z : List ℕ). AreApart ts z) (sym same) (each_apart found)
