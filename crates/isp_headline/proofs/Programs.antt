-- A text is one program, and a name is that of one exported function.
use Rattle.std.proofs.Common.{◌≡◌, refl, sym, ap, subst, ◌∙◌, ℕ, zero, suc, Bool, true, false, List, [], ◌∷◌, ◌++◌, map, Some}
use Rattle.std.specs.Prelude.{bytes_eq, not, slice_get, ◌&&◌, ◌||◌}
use Rattle.std.specs.List.{list_any}
use Rattle.std.proofs.lemmas.Bool.{true≢false, false≢true}
use Rattle.std.proofs.lemmas.List.Folds.{list_any-append}
use Rattle.std.proofs.lemmas.Slice.Eq.{bytes_eq-Decides}
use Rattle.isp_grammar.specs.Grammar.{IsProgram as IsTree}
use Rattle.isp_lex.proofs.Lexed.{one_list}
use Rattle.isp_syntax.proofs.Promised.{one_tree}
use Rattle.isp_typed.specs.Fine.{all_new}
use Rattle.isp_typed.specs.Typed.{Program, TFunction}
use Rattle.isp_types.specs.Functions.{IsProgram}
use Rattle.isp_rates.specs.Accepted.{IsAccepted}
use Rattle.isp_meaning.specs.Entries.{IsExport}
use Rattle.isp_headline.specs.OneProgram.{OneProgram}

-- ---- a text has one list of tokens, these one tree, and that is one program

pub one_program : OneProgram
one_program gang text p q a b = b.checked.typed.only p (subst (λ t. IsProgram gang t p) same_tree a.checked.typed.is)
  where
    same_tokens : a.has.tokens.items ≡ b.has.tokens.items
    same_tokens = one_list text a.has.tokens.items b.has.tokens.items a.has.has.lexes b.has.has.lexes

    same_tree : a.tree ≡ b.tree
    same_tree = one_tree b.has.tokens.items a.tree b.tree (subst (λ z. IsTree z a.tree) same_tokens a.has.is) b.has.is

-- ---- a name stands at one place

both : (a b : Bool) → (a && b) ≡ true → (a ≡ true) × (b ≡ true)
both true b e = (refl, e)
both false b e = absurd (false≢true e)

not_true : (a : Bool) → not a ≡ true → a ≡ false
not_true true e = absurd (false≢true e)
not_true false e = refl

left_true : (a b : Bool) → a ≡ true → (a || b) ≡ true
left_true true b e = refl
left_true false b e = absurd (false≢true e)

right_true : (a b : Bool) → b ≡ true → (a || b) ≡ true
right_true true b e = refl
right_true false b e = e

same_some : {A : Type 0} (x y : A) → Some x ≡ Some y → x ≡ y
same_some x y e = cc

abbrev among : List ℕ → List (List ℕ) → Bool
among w before = list_any (λ n. bytes_eq n w) before

still_among : (w x : List ℕ) (before : List (List ℕ)) → among w before ≡ true → among w (before ++ x ∷ []) ≡ true
still_among w x before h = list_any-append (λ n. bytes_eq n w) before (x ∷ []) ∙ left_true (among w before) (among w (x ∷ [])) h

now_among : (w : List ℕ) (before : List (List ℕ)) → among w (before ++ w ∷ []) ≡ true
now_among w before =
    list_any-append (λ n. bytes_eq n w) before (w ∷ []) ∙ right_true (among w before) (among w (w ∷ [])) (left_true (bytes_eq w w) false ((bytes_eq-Decides w w).1 refl))

module _ (before : List (List ℕ)) (x : List ℕ) (ws : List (List ℕ)) (new : all_new before (x ∷ ws) ≡ true) where
  not_before : among x before ≡ false
  not_before = not_true (among x before) (both (not (among x before)) (all_new (before ++ x ∷ []) ws) new).0

  later : all_new (before ++ x ∷ []) ws ≡ true
  later = (both (not (among x before)) (all_new (before ++ x ∷ []) ws) new).1

-- a name that came before does not come again
comes_once : (before : List (List ℕ)) (w : List ℕ) (ws : List (List ℕ)) (f : ℕ) → among w before ≡ true → all_new before ws ≡ true → slice_get ws f ≡ Some w → ⊥
comes_once before w [] f h new e = absurd (let no : ⊥ = cc in no)
comes_once before w (x ∷ ws) zero h new e =
    let none : among w before ≡ false = subst (λ z. among z before ≡ false) (same_some x w e) (not_before before x ws new) in
    true≢false (sym h ∙ none)
comes_once before w (x ∷ ws) (suc f) h new e = comes_once (before ++ x ∷ []) w ws f (still_among w x before h) (later before x ws new) e

one_place : (before : List (List ℕ)) (w : List ℕ) (ws : List (List ℕ)) (f g : ℕ) → all_new before ws ≡ true → slice_get ws f ≡ Some w → slice_get ws g ≡ Some w → f ≡ g
one_place before w [] f g new e i = absurd (let no : ⊥ = cc in no)
one_place before w (x ∷ ws) zero zero new e i = refl
one_place before w (x ∷ ws) zero (suc g) new e i =
    absurd (comes_once (before ++ x ∷ []) w ws g (subst (λ z. among w (before ++ z ∷ []) ≡ true) (sym (same_some x w e)) (now_among w before)) (later before x ws new) i)
one_place before w (x ∷ ws) (suc f) zero new e i =
    absurd (comes_once (before ++ x ∷ []) w ws f (subst (λ z. among w (before ++ z ∷ []) ≡ true) (sym (same_some x w i)) (now_among w before)) (later before x ws new) e)
one_place before w (x ∷ ws) (suc f) (suc g) new e i = ap suc (one_place (before ++ x ∷ []) w ws f g (later before x ws new) e i)

name_at : (fs : List TFunction) (f : ℕ) (h : TFunction) → slice_get fs f ≡ Some h → slice_get (map (λ (k : TFunction). k.name) fs) f ≡ Some h.name
name_at [] f h e = absurd (let no : ⊥ = cc in no)
name_at (g ∷ gs) zero h e = ap (λ (k : TFunction). Some k.name) (same_some g h e)
name_at (g ∷ gs) (suc f) h e = name_at gs f h e

-- of an accepted program one function is exported under a name
pub one_export : (program : Program) (name : List ℕ) (f g : ℕ) (h k : TFunction) → IsAccepted program → IsExport program name f h → IsExport program name g k → (f ≡ g) × (h ≡ k)
one_export program name f g h k accepted a b = (place, same_some h k (sym a.found ∙ ap (slice_get program.functions) place ∙ b.found))
  where
    place : f ≡ g
    place =
        one_place [] name (map (λ (k : TFunction). k.name) program.functions) f g accepted.fine.names (name_at program.functions f h a.found ∙ ap Some a.named)
        (name_at program.functions g k b.found ∙ ap Some b.named)
