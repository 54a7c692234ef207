-- Faults in order: the first is the one that is answered.
use Rattle.std.proofs.Common.{◌≡◌, ◌⊎◌, ℕ, zero, suc, ◌<◌, ◌≤◌, inl, inr, refl, sym, ap, subst, ◌∙◌, arith, get_or}
use Rattle.std.specs.Prelude.{List, [], ◌∷◌, ◌++◌, AllPairs, Contains, length, slice_get}
use Rattle.isp_lex.specs.declared.fault.Fault.{Fault}
use Rattle.isp_lex.specs.Faults.{number_of}
use Rattle.isp_typed.specs.Order.{NoLater}
use Rattle.isp_rates.specs.Breaches.{Least}
use Rattle.isp_breaches.specs.Order.{Before}
use Rattle.isp_name_breaches.proofs.Listed.{Lists, nothing, head}

before_answered : (f g : Fault) → Before f g → NoLater f g
before_answered f g b = record {
  order = elim b.order as (λ z. (f.span.end < g.span.end) ⊎ ((f.span.end ≡ g.span.end) × (number_of f.rule ≤ number_of g.rule))) [
    | inl l ↦ inl l
    | inr h ↦ inr (h.0, elim h.1 as (λ z. number_of f.rule ≤ number_of g.rule) [ inl l ↦ omega (arith, l) | inr k ↦ omega (arith, k.0) ])
  ];
}

same_answered : (f g : Fault) → g ≡ f → NoLater f g
same_answered f g e = subst (λ (z : Fault). NoLater f z) (sym e) (record { order = inr (refl, omega arith) })

none_earlier : (x : Fault) (xs : List Fault) → AllPairs Before (x ∷ xs) → (f : Fault) → Contains (x ∷ xs) f → NoLater x f
none_earlier x xs o f h = go h.0 h.1 h.2
  where
    go : (k : ℕ) → k < length (x ∷ xs) → get_or (x ∷ xs) k f ≡ f → NoLater x f
    go zero l is = same_answered x f (sym is)
    go (suc k) l is = before_answered x f (subst (λ (z : Fault). Before x z) is (o zero (suc k) f (omega arith) l))

first_least : (xs : List Fault) (B : Fault → Type 0) → Lists xs B → AllPairs Before xs → Least (slice_get xs 0) B
first_least [] B l o = record { by = λ f h. nothing f (l.all f h) }
first_least (x ∷ xs) B l o = record { by = (l.told x (head x xs), λ f h. none_earlier x xs o f (l.all f h)) }

-- what a walk found, put in order
pub record InOrder (xs : List Fault) (B : Fault → Type 0) : Type 0 where
  pub lists : Lists xs B
  pub first : Least (slice_get xs 0) B

pub put_in_order : (none walked listed xs : List Fault) (B : Fault → Type 0) → none ≡ [] → walked ≡ none ++ listed → Lists listed B
    → ((f : Fault) → Contains walked f → Contains xs f) → ((f : Fault) → Contains xs f → Contains walked f) → AllPairs Before xs → InOrder xs B
put_in_order none walked listed xs B e w l keeps adds_none o =
    let same : walked ≡ listed = w ∙ ap (λ (z : List Fault). z ++ listed) e in
    let members : Lists xs B = record {
      told = λ f h. l.told f (subst (λ (z : List Fault). Contains z f) same (adds_none f h));
      all = λ f h. keeps f (subst (λ (z : List Fault). Contains z f) (sym same) (l.all f h));
    } in
    record { lists = members; first = first_least xs B members o }
