-- A name's last binding, by where it stands.
use Rattle.std.proofs.Common.{◌≡◌, ℕ, zero, suc, ◌++◌, Bool, true, false, cond, refl, sym, ap, subst, ◌∙◌, arith}
use Rattle.std.specs.Prelude.{Option, Some, None, List, [], ◌∷◌, length, find, reverse, bytes_eq, not, ◌||◌, nat_lt, option_map, slice_get, is_some}
use Rattle.std.specs.List.{list_any}
use Rattle.std.proofs.lemmas.List.{reverse-append}
use Rattle.std.proofs.lemmas.Bool.Decides.{nat_tests}
use Rattle.isp_exprs.specs.declared.scope.Binding.{Binding}
use Rattle.isp_exprs.specs.Scopes.{Meaning, visible, is_new}
use Rattle.isp_exprs.specs.reader.Scopes.{one_later, last_place}

-- a name that comes last
pub last_more : (w : List ℕ) (ns : List Binding) (b : Binding) → last_place w (ns ++ b ∷ []) ≡ cond (bytes_eq b.name w) (Some (length ns)) (last_place w ns)
last_more w [] b = go (bytes_eq b.name w)
  where
    go : (t : Bool) → one_later None t ≡ cond t (Some 0) None
    go true = refl
    go false = refl
last_more w (c ∷ ns) b = ap (λ z. one_later z (bytes_eq c.name w)) (last_more w ns b) ∙ go (bytes_eq b.name w)
  where
    go : (t : Bool) → one_later (cond t (Some (length ns)) (last_place w ns)) (bytes_eq c.name w) ≡ cond t (Some (suc (length ns))) (one_later (last_place w ns) (bytes_eq c.name w))
    go true = refl
    go false = refl

clash : true ≡ false → ⊥
clash e = cc

-- what the binding at a place stands for
abbrev pub at_place : List Binding → Option ℕ → Option Meaning
at_place ns None = None
at_place ns (Some k) = option_map (λ b. b.meaning) (slice_get ns k)

abbrev or_else : {A : Type 0} → Option A → Option A → Option A
or_else (Some a) o = Some a
or_else None o = o

find_push : (p : Binding → Bool) (xs : List Binding) (y : Binding) → find p (xs ++ y ∷ []) ≡ or_else (find p xs) (cond (p y) (Some y) None)
find_push p [] y = refl
find_push p (x ∷ xs) y = go (p x) (find_push p xs y)
  where
    go : (t : Bool) → find p (xs ++ y ∷ []) ≡ or_else (find p xs) (cond (p y) (Some y) None)
        → cond t (Some x) (find p (xs ++ y ∷ [])) ≡ or_else (cond t (Some x) (find p xs)) (cond (p y) (Some y) None)
    go true e = refl
    go false e = e

-- what a name that comes first adds
visible_first : (w : List ℕ) (b : Binding) (ns : List Binding) → visible w (b ∷ ns) ≡ or_else (visible w ns) (cond (bytes_eq b.name w) (Some b.meaning) None)
visible_first w b ns =
    ap (λ z. option_map (λ (c : Binding). c.meaning) (find (λ (c : Binding). bytes_eq c.name w) z)) (reverse-append (b ∷ []) ns)
    ∙ (ap (option_map (λ (c : Binding). c.meaning)) (find_push (λ c. bytes_eq c.name w) (reverse ns) b)
    ∙ go (find (λ (c : Binding). bytes_eq c.name w) (reverse ns)) (bytes_eq b.name w))
  where
    go : (o : Option Binding) (t : Bool) → option_map (λ (c : Binding). c.meaning) (or_else o (cond t (Some b) None)) ≡ or_else (option_map (λ (c : Binding). c.meaning) o) (cond t (Some b.meaning) None)
    go (Some c) t = refl
    go None true = refl
    go None false = refl

record Stands (ns : List Binding) (v : Option Meaning) (o : Option ℕ) : Type 0 where
  pub at : v ≡ at_place ns o
  pub some : is_some v ≡ is_some o

stands_first : (ns : List Binding) (b : Binding) (v : Option Meaning) (o : Option ℕ) (t : Bool) → Stands ns v o → Stands (b ∷ ns) (or_else v (cond t (Some b.meaning) None)) (one_later o t)
stands_first ns b None None true s = record { at = refl; some = refl }
stands_first ns b None None false s = record { at = refl; some = refl }
stands_first ns b None (Some k) t s = absurd (clash (sym s.some))
stands_first ns b (Some x) None t s = absurd (clash s.some)
stands_first ns b (Some x) (Some k) t s = record { at = s.at; some = refl }

stands : (w : List ℕ) (ns : List Binding) → Stands ns (visible w ns) (last_place w ns)
stands w [] = record { at = refl; some = refl }
stands w (b ∷ ns) = subst (λ (z : Option Meaning). Stands (b ∷ ns) z (one_later (last_place w ns) (bytes_eq b.name w))) (sym (visible_first w b ns))
    (stands_first ns b (visible w ns) (last_place w ns) (bytes_eq b.name w) (stands w ns))

pub visible_is : (w : List ℕ) (ns : List Binding) → visible w ns ≡ at_place ns (last_place w ns)
visible_is w ns = let s = stands w ns in s.at

-- before a place
abbrev pub is_before : ℕ → Option ℕ → Bool
is_before start None = true
is_before start (Some k) = nat_lt k start

any_is : (w : List ℕ) (ns : List Binding) → list_any (λ b. bytes_eq b.name w) ns ≡ is_some (last_place w ns)
any_is w [] = refl
any_is w (b ∷ ns) = ap (λ z. bytes_eq b.name w || z) (any_is w ns) ∙ go (bytes_eq b.name w) (last_place w ns)
  where
    go : (t : Bool) (o : Option ℕ) → (t || is_some o) ≡ is_some (one_later o t)
    go true None = refl
    go false None = refl
    go true (Some k) = refl
    go false (Some k) = refl

none_below : (k : ℕ) → false ≡ nat_lt k 0
none_below k = grind (arith, nat_tests)

first_below : (n : ℕ) → true ≡ nat_lt 0 (suc n)
first_below n = grind (arith, nat_tests)

both_more : (k n : ℕ) → nat_lt k n ≡ nat_lt (suc k) (suc n)
both_more k n = grind (arith, nat_tests)

before_none : (o : Option ℕ) → not (is_some o) ≡ is_before 0 o
before_none None = refl
before_none (Some k) = none_below k

before_more : (start : ℕ) (o : Option ℕ) (t : Bool) → is_before start o ≡ is_before (suc start) (one_later o t)
before_more start None true = first_below start
before_more start None false = refl
before_more start (Some k) t = both_more k start

pub new_is : (w : List ℕ) (start : ℕ) (ns : List Binding) → is_new w start ns ≡ is_before start (last_place w ns)
new_is w zero ns = ap not (any_is w ns) ∙ before_none (last_place w ns)
new_is w (suc start) [] = refl
new_is w (suc start) (b ∷ ns) = new_is w start ns ∙ before_more start (last_place w ns) (bytes_eq b.name w)

-- look-ups by place
pub find_is : (w : List ℕ) (ns : List Binding) (o : Option ℕ) → o ≡ last_place w ns → at_place ns o ≡ visible w ns
find_is w ns o e = ap (at_place ns) e ∙ sym (visible_is w ns)

pub before_is : (w : List ℕ) (start : ℕ) (ns : List Binding) (o : Option ℕ) → o ≡ last_place w ns → is_before start o ≡ is_new w start ns
before_is w start ns o e = ap (is_before start) e ∙ sym (new_is w start ns)

-- a map that has the places, after one more
pub places_more : (w : List ℕ) (ns : List Binding) (b : Binding) (key : List ℕ) (n : ℕ) (before after : Option ℕ) → key ≡ b.name → n ≡ length ns → before ≡ last_place w ns
    → after ≡ cond (bytes_eq key w) (Some n) before → after ≡ last_place w (ns ++ b ∷ [])
places_more w ns b key n before after k l e a = a ∙ (rw (k, l, e) refl ∙ sym (last_more w ns b))
