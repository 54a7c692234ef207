-- Faults in order: the first is the one that is answered, and no other list in order has the same faults.
use Rattle.std.proofs.Common.{◌≡◌, inl, inr, zero, suc, refl, subst, sym, ◌∙◌, arith}
use Rattle.std.specs.Prelude.{List, [], ◌∷◌, AllPairs, Contains, slice_get}
use Rattle.isp_lex.specs.declared.fault.Fault.{Fault}
use Rattle.isp_typed.specs.Order.{NoLater}
use Rattle.isp_rates.specs.Breaches.{Least}
use Rattle.isp_breaches.specs.Order.{Before}
use Rattle.isp_breaches.proofs.Listed.{Lists, nothing, head, tail, head_or_tail}
use Rattle.isp_breaches.proofs.InOrder.{before_answered, before_itself, before_then}

no_later_same : (f : Fault) → NoLater f f
no_later_same f = record { order = inr (refl, omega arith) }

later_than : (x : Fault) (xs : List Fault) → AllPairs Before (x ∷ xs) → (f : Fault) → Contains xs f → Before x f
later_than x xs o f h = subst (λ (z : Fault). Before x z) h.2 (o zero (suc h.0) f (omega arith) (omega (arith, h.1)))

rest_in_order : (x : Fault) (xs : List Fault) → AllPairs Before (x ∷ xs) → AllPairs Before xs
rest_in_order x xs o = λ i j d l h. o (suc i) (suc j) d (omega (arith, l)) (omega (arith, h))

none_earlier : (x : Fault) (xs : List Fault) → AllPairs Before (x ∷ xs) → (f : Fault) → Contains (x ∷ xs) f → NoLater x f
none_earlier x xs o f h = elim (head_or_tail x xs f h) as (λ z. NoLater x f) [
  | inl e ↦ subst (λ (z : Fault). NoLater x z) (sym e) (no_later_same x)
  | inr t ↦ before_answered x f (later_than x xs o f t)
]

pub first_least : (xs : List Fault) (B : Fault → Type 0) → Lists xs B → AllPairs Before xs → Least (slice_get xs 0) B
first_least [] B l o = record { by = λ f h. nothing f (l.all f h) }
first_least (x ∷ xs) B l o = record { by = (l.told x (head x xs), λ f h. none_earlier x xs o f (l.all f h)) }

-- ---- one list

abbrev AllIn : List Fault → List Fault → Type 0
AllIn xs ys = (f : Fault) → Contains xs f → Contains ys f

same_first : (x y : Fault) (xs ys : List Fault) → AllPairs Before (x ∷ xs) → AllPairs Before (y ∷ ys) → AllIn (x ∷ xs) (y ∷ ys) → AllIn (y ∷ ys) (x ∷ xs) → x ≡ y
same_first x y xs ys o p to back = elim (head_or_tail y ys x (to x (head x xs))) as (λ z. x ≡ y) [
  | inl e ↦ e
  | inr t ↦ elim (head_or_tail x xs y (back y (head y ys))) as (λ z. x ≡ y) [
    | inl e ↦ sym e
    | inr u ↦ absurd (before_itself x (before_then x y x (later_than x xs o y u) (later_than y ys p x t)))
  ]
]

rest_in : (x y : Fault) (xs ys : List Fault) → x ≡ y → AllPairs Before (x ∷ xs) → AllIn (x ∷ xs) (y ∷ ys) → AllIn xs ys
rest_in x y xs ys e o to f h = elim (head_or_tail y ys f (to f (tail x xs f h))) as (λ z. Contains ys f) [
  | inl is ↦ absurd (before_itself x (subst (λ (z : Fault). Before x z) (is ∙ sym e) (later_than x xs o f h)))
  | inr t ↦ t
]

same_list : (x y : Fault) (xs ys : List Fault) → x ≡ y → xs ≡ ys → x ∷ xs ≡ y ∷ ys
same_list x y xs ys e r = cc

pub one_list : (xs ys : List Fault) → AllPairs Before xs → AllPairs Before ys → AllIn xs ys → AllIn ys xs → xs ≡ ys
one_list [] [] o p to back = refl
one_list [] (y ∷ ys) o p to back = absurd (nothing y (back y (head y ys)))
one_list (x ∷ xs) [] o p to back = absurd (nothing x (to x (head x xs)))
one_list (x ∷ xs) (y ∷ ys) o p to back =
    let e = same_first x y xs ys o p to back in
    same_list x y xs ys e (one_list xs ys (rest_in_order x xs o) (rest_in_order y ys p) (rest_in x y xs ys e o to) (rest_in y x ys xs (sym e) p back))
