-- Steps of loops over lists: what is found so far, joined with what the rest gives.
use Rattle.std.proofs.Common.{◌≡◌, ℕ, ◌+◌, ◌<◌, refl, sym, ap, ◌∙◌, drop, drop-cons, add-one, get_or, ◌++◌, append_assoc, map, take}
use Rattle.std.specs.Prelude.{Result, Ok, Err, Option, Some, None, option_map, List, [], ◌∷◌, length}
use Rattle.std.proofs.Math.Seq.{take-suc}
use Rattle.std.proofs.lemmas.List.{map-append}
use Rattle.isp_lex.specs.declared.fault.Fault.{Fault}
use Rattle.isp_typed.specs.Verdicts.{both, made, beside, first_of}
use Rattle.isp_typed.proofs.Order.{earlier_assoc}
use Rattle.isp_typed.proofs.Verdicts.{both_found}
use Rattle.isp_exprs.specs.Rules.{pair_then}
use Rattle.isp_exprs.specs.reader.Lists.{and_one}

-- one list after another, each with its fault
abbrev pub joined : {E : Type 0} → Result (List E) Fault → Result (List E) Fault → Result (List E) Fault
joined a r = made (λ p. p.0 ++ p.1) (both a r)

pub joined_step : {E : Type 0} (a : Result (List E) Fault) (t : Result E Fault) (r : Result (List E) Fault)
    → joined (made and_one (both a t)) r ≡ joined a (made pair_then (both t r))
joined_step (Ok a) (Ok t) (Ok r) = ap (λ z. Ok z) (append_assoc a (t ∷ []) r)
joined_step (Ok a) (Ok t) (Err r) = refl
joined_step (Ok a) (Err t) (Ok r) = refl
joined_step (Ok a) (Err t) (Err r) = refl
joined_step (Err a) (Ok t) (Ok r) = refl
joined_step (Err a) (Ok t) (Err r) = refl
joined_step (Err a) (Err t) (Ok r) = refl
joined_step (Err a) (Err t) (Err r) = ap (λ z. Err z) (earlier_assoc a t r)

-- nothing before, and nothing after
pub joined_first : {E : Type 0} (r : Result (List E) Fault) → joined (Ok []) r ≡ r
joined_first (Ok r) = refl
joined_first (Err e) = refl

append_none : {E : Type 0} (xs : List E) → xs ++ [] ≡ xs
append_none [] = refl
append_none (x ∷ xs) = ap (λ z. x ∷ z) (append_none xs)

pub joined_last : {E : Type 0} (a : Result (List E) Fault) → joined a (Ok []) ≡ a
joined_last (Ok a) = ap (λ z. Ok z) (append_none a)
joined_last (Err e) = refl

-- one more after what is seen by a view
pub pushed : {A B : Type 0} (view : A → B) (a : Result (List A) Fault) (t : Result A Fault) (xs : List A) (x : A) → both a t ≡ Ok (xs, x)
    → Ok (map view (xs ++ x ∷ [])) ≡ made and_one (both (made (map view) a) (made view t))
pushed view a t xs x e = ap (λ z. Ok z) (map-append view xs (x ∷ [])) ∙ both_found (map view) view and_one a t xs x e

-- ---- places of a list

cons_is : {A : Type 0} (a b : A) (xs ys : List A) → a ≡ b → xs ≡ ys → a ∷ xs ≡ b ∷ ys
cons_is a b xs ys p q = cc

pub split_at : {A : Type 0} (xs : List A) (i : ℕ) (x : A) → i < length xs → x ≡ get_or xs i x → drop i xs ≡ x ∷ drop (i + 1) xs
split_at xs i x h e = drop-cons xs i x h ∙ cons_is _ _ _ _ (sym e) (ap (λ n. drop n xs) (sym (add-one i)))

one_is : {A : Type 0} (xs : List A) (x y : A) → x ≡ y → xs ++ x ∷ [] ≡ xs ++ y ∷ []
one_is xs x y e = cc

-- a mapped list with one more
pub map_step : {A B : Type 0} (g : A → B) (xs : List A) (i : ℕ) (x : A) → i < length xs → x ≡ get_or xs i x → map g (take (i + 1) xs) ≡ map g (take i xs) ++ g x ∷ []
map_step g xs i x h e = ap (map g) (ap (λ n. take n xs) (add-one i) ∙ (take-suc xs i x h ∙ one_is _ _ _ (sym e))) ∙ map-append g (take i xs) (x ∷ [])

-- the same of a list that is read and then mapped
pub read_step : {A B C : Type 0} (g : B → C) (read : A → B) (xs : List A) (i : ℕ) (x : A) → i < length xs → x ≡ get_or xs i x
    → map g (map read (take (i + 1) xs)) ≡ map g (map read (take i xs)) ++ g (read x) ∷ []
read_step g read xs i x h e = ap (map g) (map_step read xs i x h e) ∙ map-append g (map read (take i xs)) (read x ∷ [])

-- a list so far with one more
pub done_step : {A B C : Type 0} (g : B → C) (read : A → B) (xs : List A) (i : ℕ) (x : A) (so_far : List C) (y : C) → i < length xs → x ≡ get_or xs i x
    → so_far ≡ map g (map read (take i xs)) → y ≡ g (read x) → so_far ++ y ∷ [] ≡ map g (map read (take (i + 1) xs))
done_step g read xs i x so_far y h e p q = ap (λ z. z ++ y ∷ []) p ∙ (one_is _ _ _ q ∙ sym (read_step g read xs i x h e))

-- the same where the list so far is seen by a view
pub viewed_step : {A B C D : Type 0} (view : D → C) (g : B → C) (read : A → B) (xs : List A) (i : ℕ) (x : A) (so_far : List D) (y : D) → i < length xs → x ≡ get_or xs i x
    → map view so_far ≡ map g (map read (take i xs)) → view y ≡ g (read x) → map view (so_far ++ y ∷ []) ≡ map g (map read (take (i + 1) xs))
viewed_step view g read xs i x so_far y h e p q = map-append view so_far (y ∷ []) ∙ done_step g read xs i x (map view so_far) (view y) h e p q

-- the same after another list
pub behind_step : {A B C : Type 0} (g : B → C) (read : A → B) (xs : List A) (i : ℕ) (x : A) (before so_far : List C) → i < length xs → x ≡ get_or xs i x
    → so_far ≡ before ++ map g (map read (take i xs)) → so_far ++ g (read x) ∷ [] ≡ before ++ map g (map read (take (i + 1) xs))
behind_step g read xs i x before so_far h e p =
    ap (λ z. z ++ g (read x) ∷ []) p ∙ (append_assoc before (map g (map read (take i xs))) (g (read x) ∷ []) ∙ ap (λ z. before ++ z) (sym (read_step g read xs i x h e)))

-- ---- verdicts

pub made_made : {A B C : Type 0} (f : A → B) (g : B → C) (v : Result A Fault) → made g (made f v) ≡ made (λ a. g (f a)) v
made_made f g (Ok a) = refl
made_made f g (Err e) = refl

-- what may be left out, seen by a view
pub some_made : {A B : Type 0} (view : A → B) (v : Result A Fault) → made (option_map view) (made (λ a. Some a) v) ≡ made (λ b. Some b) (made view v)
some_made view (Ok a) = refl
some_made view (Err e) = refl

pub beside_assoc : {A : Type 0} (a b : Option Fault) (v : Result A Fault) → beside (first_of a b) v ≡ beside a (beside b v)
beside_assoc None b v = refl
beside_assoc (Some f) None v = refl
beside_assoc (Some f) (Some g) (Ok a) = refl
beside_assoc (Some f) (Some g) (Err h) = ap (λ z. Err z) (earlier_assoc f g h)
