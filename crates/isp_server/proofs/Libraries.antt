-- The table of the library: which names it has, and what goes through it by numbers.
use Rattle.std.proofs.Common.{◌≡◌, ◌∙◌, sym, ap, refl, ℕ, ◌+◌, ◌<◌, ◌≤◌, lit≤, suc, Bool, true, false, cond, List, [], ◌∷◌, ◌++◌, length, drop, drop_of_length-le, map, append_assoc, add-one, drop-cons, inl, inr}
use Rattle.std.specs.Prelude.{◌||◌, Option, Some, None, bytes_eq, find, is_some, option_map, slice_get}
use Rattle.std.specs.List.{list_any}
use Rattle.std.specs.Option.{option_or}
use Rattle.std.proofs.lemmas.List.{append-nil}
use Rattle.std.proofs.lemmas.List.Folds.{list_any-append}
use Rattle.std.proofs.lemmas.Option.{get_or_from_slice_get, slice_get_cases, slice_get_within}
use Rattle.isp_exprs.specs.Callees.{cross_library, instance_library, library_named, move_library, named_in}
use Rattle.isp_exprs.specs.declared.callee.Callee.{Callee}
use Rattle.isp_server.specs.Library.{signatures}

-- ---- its names

found_by : (b : Bool) (e : List ℕ × Callee) (es : List (List ℕ × Callee)) (w : List ℕ) → is_some (named_in es w) ≡ list_any (λ e. bytes_eq e.0 w) es
    → is_some (option_map (λ e. e.1) (cond b (Some e) (find (λ e. bytes_eq e.0 w) es))) ≡ (b || list_any (λ e. bytes_eq e.0 w) es)
found_by true e es w h = refl
found_by false e es w h = h

found_in : (es : List (List ℕ × Callee)) (w : List ℕ) → is_some (named_in es w) ≡ list_any (λ e. bytes_eq e.0 w) es
found_in [] w = refl
found_in (e ∷ es) w = found_by (bytes_eq e.0 w) e es w (found_in es w)

either : (a b : Option Callee) → is_some (option_or a b) ≡ (is_some a || is_some b)
either (Some x) b = refl
either None b = refl

module _ (w : List ℕ) where
  abbrev named : List ℕ × Callee → Bool
  named e = bytes_eq e.0 w

  found_first : (a : Option Callee) (b : Bool) (es : List (List ℕ × Callee)) → is_some a ≡ b → is_some (option_or (named_in es w) a) ≡ (list_any named es || b)
  found_first a b es h = either (named_in es w) a ∙ (ap (λ (x : Bool). x || is_some a) (found_in es w) ∙ ap (λ (y : Bool). list_any named es || y) h)

  pub named_alike : is_some (library_named w) ≡ list_any (λ s. bytes_eq s.0 w) signatures
  unfolding signatures
  named_alike =
      found_first (option_or (named_in move_library w) (named_in instance_library w)) (list_any named (move_library ++ instance_library)) cross_library
      (found_first (named_in instance_library w) (list_any named instance_library) move_library (found_in instance_library w) ∙ sym (list_any-append named move_library instance_library))
      ∙ sym (list_any-append named cross_library (move_library ++ instance_library))

-- ---- by numbers

-- more than there are, so that one more asks for no change here
pub few : length signatures ≤ 1000
unfolding signatures
few = lit≤ tt

module _ {A B : Type 0} (f : A → B) (xs : List A) (start : List B) where
  pub one_more : (k : ℕ) (x : A) (old new : List B) → Some x ≡ slice_get xs k → new ≡ old ++ f x ∷ [] → old ++ map f (drop k xs) ≡ start ++ map f xs
      → new ++ map f (drop (k + 1) xs) ≡ start ++ map f xs
  one_more k x old new h e before =
      let within : k < length xs = slice_get_within xs k x (sym h) in
      let first : drop k xs ≡ x ∷ drop (k + 1) xs = rw (add-one) (drop-cons xs k x within ∙ ap (λ (y : A). y ∷ drop (suc k) xs) (get_or_from_slice_get xs k x x (sym h))) in
      ap (λ (z : List B). z ++ map f (drop (k + 1) xs)) e ∙ (append_assoc old (f x ∷ []) (map f (drop (k + 1) xs)) ∙ (ap (λ (z : List A). old ++ map f z) (sym first) ∙ before))

  pub all_done : (k : ℕ) (old : List B) → slice_get xs k ≡ None → old ++ map f (drop k xs) ≡ start ++ map f xs → old ≡ start ++ map f xs
  all_done k old none before = elim (slice_get_cases xs k).1 [
    | inl some ↦ cc (some.2, none)
    | inr past ↦ sym (append-nil old) ∙ (ap (λ (z : List A). old ++ map f z) (sym (drop_of_length-le xs past.0)) ∙ before)
  ]
