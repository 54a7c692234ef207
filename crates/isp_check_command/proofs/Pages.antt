-- Pages that grow by a piece.
use Rattle.std.proofs.Common.{◌≡◌, ℕ, zero, suc, ◌+◌, ◌<◌, ◌≤◌, List, [], ◌∷◌, ◌++◌, length, take, get_or, Bool, true, false, cond, Some, refl, sym, ap, ◌∙◌, subst, arith, append_assoc, append-nil}
use Rattle.std.proofs.lemmas.List.{take_more, take_all}
use Rattle.std.proofs.lemmas.Slice.Eq.{bytes_eq-Decides}
use Rattle.std.specs.Option.{IsSome}
use Rattle.std.specs.Prelude.{◌&&◌, bytes_eq, filter, find, Result, Ok, Err, IfOk}
use Rattle.isp_rates.specs.Exports.{is_entry}
use Rattle.isp_typed.specs.Typed.{TFunction}
use Rattle.isp_typed.specs.Views.{function_of, functions_of}
use Rattle.isp_typed.specs.declared.function.TypedFunction.{TypedFunction}
use Rattle.isp_check_command.specs.Pages.{PageOf}

pub if_ok : {A E : Type 0} {P Q : A → Type 0} (r : Result A E) → IfOk r P → ((a : A) → P a → Q a) → IfOk r Q
if_ok (Ok a) h f = f a h
if_ok (Err e) h f = tt

module _ {A : Type 0} (B : A → List ℕ → Type 0) where
  -- one page after the other
  pub joined : (xs ys : List A) (p q : List ℕ) → PageOf B xs p → PageOf B ys q → PageOf B (xs ++ ys) (p ++ q)
  joined [] ys p q h k = subst (λ (z : List ℕ). PageOf B ys (z ++ q)) (sym h) k
  joined (x ∷ xs) ys p q (piece, rest, b, h, e) k = (piece, rest ++ q, b, joined xs ys rest q h k, ap (λ z. z ++ q) e ∙ append_assoc piece rest q)

  pub alone : (x : A) (p : List ℕ) → B x p → PageOf B (x ∷ []) p
  alone x p b = (p, [], b, refl, sym (append-nil p))

  -- the page of k of them, and the piece of the next
  pub next : (xs : List A) (k : ℕ) (d : A) (page piece new : List ℕ) → k < length xs → PageOf B (take k xs) page → B (get_or xs k d) piece → new ≡ page ++ piece → PageOf B (take (k + 1) xs) new
  next xs k d page piece new lt h b e =
      let more = joined (take k xs) (get_or xs k d ∷ []) page piece h (alone (get_or xs k d) piece b) in
      let grown = subst (λ (z : List ℕ). PageOf B (take k xs ++ get_or xs k d ∷ []) z) (sym e) more in
      subst (λ (z : List A). PageOf B z new) (sym (take_more xs k d lt)) grown

  -- of a list whose items own memory
  pub next_item : (xs : List A) (k : ℕ) (x : A) (page piece new : List ℕ) → k < length xs → x ≡ get_or xs k x → PageOf B (take k xs) page → B x piece → new ≡ page ++ piece → PageOf B (take (k + 1) xs) new
  next_item xs k x page piece new lt is h b e = next xs k x page piece new lt h (subst (λ (z : A). B z piece) is b) e

  pub whole : (xs : List A) (k : ℕ) (page : List ℕ) → length xs ≤ k → PageOf B (take k xs) page → PageOf B xs page
  whole xs k page le h = subst (λ (z : List A). PageOf B z page) (take_all k xs le) h

-- ---- exported functions

abbrev pub exports_of : List TFunction → List TFunction
exports_of = filter (λ (g : TFunction). g.exported)

module _ (B : TFunction → List ℕ → Type 0) where
  -- of all functions, where one that is not exported has none
  abbrev pub OfFunction : TypedFunction → List ℕ → Type 0
  OfFunction f piece = PageOf B (exports_of (function_of f ∷ [])) piece

  pub is_exported : (f : TypedFunction) (piece : List ℕ) → f.exported ≡ true → B (function_of f) piece → OfFunction f piece
  is_exported f piece e b = subst (λ (t : Bool). PageOf B (cond t (function_of f ∷ []) []) piece) (sym e) (alone B (function_of f) piece b)

  pub not_exported : (f : TypedFunction) (piece : List ℕ) → f.exported ≡ false → piece ≡ [] → OfFunction f piece
  not_exported f piece e h = subst (λ (t : Bool). PageOf B (cond t (function_of f ∷ []) []) piece) (sym e) h

  pub of_exported : (fs : List TypedFunction) (page : List ℕ) → PageOf OfFunction fs page → PageOf B (exports_of (functions_of fs)) page
  of_exported [] page h = h
  of_exported (f ∷ fs) page (piece, rest, b, h, e) =
      let both = joined B (exports_of (function_of f ∷ [])) (exports_of (functions_of fs)) piece rest b (of_exported fs rest h) in
      let all = subst (λ (z : List TFunction). PageOf B z (piece ++ rest)) (sym (split f.exported)) both in
      subst (λ (z : List ℕ). PageOf B (exports_of (functions_of (f ∷ fs))) z) (sym e) all
    where
      split : (t : Bool) → cond t (function_of f ∷ exports_of (functions_of fs)) (exports_of (functions_of fs)) ≡ cond t (function_of f ∷ []) [] ++ exports_of (functions_of fs)
      split true = refl
      split false = refl

-- an exported function of a program is found by its name
pub found : (fs : List TypedFunction) (k : ℕ) (f d : TypedFunction) → k < length fs → f ≡ get_or fs k d → f.exported ≡ true → IsSome (find (is_entry f.name) fs)
found [] k f d lt e x = absurd (let z : ⊥ = omega arith in z)
found (g ∷ gs) zero f d lt e x = here (is_entry f.name g) same
  where
    here : (t : Bool) → t ≡ true → IsSome (cond t (Some g) (find (is_entry f.name) gs))
    here true h = refl
    here false h = absurd (let z : ⊥ = cc in z)

    same : is_entry f.name g ≡ true
    same = ap (λ t. t && bytes_eq g.name f.name) (ap (λ (z : TypedFunction). z.exported) (sym e) ∙ x) ∙ (bytes_eq-Decides g.name f.name).1 (ap (λ (z : TypedFunction). z.name) (sym e))
found (g ∷ gs) (suc k) f d lt e x = later (is_entry f.name g) (found gs k f d (omega arith) e x)
  where
    later : (t : Bool) → IsSome (find (is_entry f.name) gs) → IsSome (cond t (Some g) (find (is_entry f.name) gs))
    later true h = refl
    later false h = h
