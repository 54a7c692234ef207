-- What a search through notes finds, and what it means that it finds nothing.
use Rattle.std.proofs.Common.{◌≡◌, ℕ, ◌+◌, ◌<◌, ◌++◌, inl, inr, Bool, true, false, cond, eqb, refl, sym, ◌∙◌, subst, List, [], ◌∷◌, Option, Some, None, Contains, ap, length, take, get_or, arith}
use Rattle.std.specs.Prelude.{◌&&◌}
use Rattle.std.specs.List.{All, cons_option}
use Rattle.std.proofs.lemmas.Bool.{eqb-true, eq-eqb}
use Rattle.std.proofs.lemmas.List.Elements.{All-cons, All-contains, All-nil, All-weaker, Contains-append_right, filter_map-append}
use Rattle.std.proofs.lemmas.List.{take_more}
use Rattle.isp_known.specs.declared.note.Note.{Note}
use Rattle.isp_known.specs.declared.note.Note.TheVariants.{Value, Declared, Used, Index, Loaded}
use Rattle.isp_known.specs.declared.note.Subject.{Subject}
use Rattle.isp_known.specs.declared.note.Subject.TheVariants.{Variable, Function}
use Rattle.isp_known.specs.Places.{Names, declaration_of, declared_at, named, named_at, or_else, places_of, same, subject_at}

pick : {A : Type 0} (b : Bool) (y x : A) → cond b (Some y) None ≡ Some x → (b ≡ true) × (y ≡ x)
pick true y x h = (refl, cc)
pick false y x h = cc

no_pick : {A : Type 0} (b : Bool) (y : A) → b ≡ true → cond b (Some y) None ≡ None → ⊥
no_pick b y e h = cc (sym h ∙ subst (λ (c : Bool). cond c (Some y) None ≡ Some y) (sym e) refl)

-- ---- by the place

found_named : (ns : List Note) (k : ℕ) (n : Note) (x : Subject) → Contains ns n → named k n ≡ Some x → Names ns k x
found_named ns k (Value s t) x c h = cc
found_named ns k (Declared j y) x c h =
    let p = pick (eqb j k) y x h in
    let e : Declared j y ≡ Declared k x = cc (eqb-true j k p.0, p.1) in
    inl (subst (λ (n : Note). Contains ns n) e c)
found_named ns k (Used j y) x c h =
    let p = pick (eqb j k) y x h in
    let e : Used j y ≡ Used k x = cc (eqb-true j k p.0, p.1) in
    inr (subst (λ (n : Note). Contains ns n) e c)
found_named ns k (Index j y) x c h = cc
found_named ns k (Loaded j y) x c h = cc

in_more : (n : Note) (ns : List Note) (m : Note) → Contains ns m → Contains (n ∷ ns) m
in_more n ns m c = Contains-append_right (n ∷ []) ns m c

names_more : (n : Note) (ns : List Note) (k : ℕ) (x : Subject) → Names ns k x → Names (n ∷ ns) k x
names_more n ns k x (inl c) = inl (in_more n ns (Declared k x) c)
names_more n ns k x (inr c) = inr (in_more n ns (Used k x) c)

-- the first one found, or one after it
names_by : (n : Note) (ns : List Note) (k : ℕ) (x : Subject) (o : Option Subject) → named k n ≡ o → (subject_at k ns ≡ Some x → Names ns k x) → or_else o (subject_at k ns) ≡ Some x → Names (n ∷ ns) k x
names_by n ns k x None e h g = names_more n ns k x (h g)
names_by n ns k x (Some y) e h g = found_named (n ∷ ns) k n x (0, omega arith, refl) (e ∙ g)

pub subject_names : (ns : List Note) (k : ℕ) (x : Subject) → subject_at k ns ≡ Some x → Names ns k x
subject_names [] k x h = cc
subject_names (n ∷ ns) k x h = names_by n ns k x (named k n) refl (subject_names ns k x) h

not_named : {A : Type 0} (o p : Option A) → or_else o p ≡ None → (o ≡ None) × (p ≡ None)
not_named None p h = (refl, h)
not_named (Some x) p h = cc

nobody : (ns : List Note) (k : ℕ) → subject_at k ns ≡ None → All (λ n. named k n ≡ None) ns
nobody [] k h = All-nil (λ n. named k n ≡ None)
nobody (n ∷ ns) k h = let p = not_named (named k n) (subject_at k ns) h in All-cons (λ n. named k n ≡ None) n ns p.0 (nobody ns k p.1)

pub none_named : (ns : List Note) (k : ℕ) → subject_at k ns ≡ None → (x : Subject) → Names ns k x → ⊥
none_named ns k h x (inl c) = no_pick (eqb k k) x (eq-eqb k k refl) (All-contains (λ n. named k n ≡ None) ns (Declared k x) (nobody ns k h) c)
none_named ns k h x (inr c) = no_pick (eqb k k) x (eq-eqb k k refl) (All-contains (λ n. named k n ≡ None) ns (Used k x) (nobody ns k h) c)

-- ---- by what is named

both : (a b : Bool) → (a && b) ≡ true → (a ≡ true) × (b ≡ true)
both true b h = (refl, h)
both false b h = cc

same_is : (x y : Subject) → same x y ≡ true → x ≡ y
same_is (Variable f k) (Variable g j) h = let p = both (eqb f g) (eqb k j) h in cc (eqb-true f g p.0, eqb-true k j p.1)
same_is (Variable f k) (Function g) h = cc
same_is (Function g) (Variable f k) h = cc
same_is (Function g) (Function h) e = cc (eqb-true g h e)

same_self : (x : Subject) → same x x ≡ true
same_self (Variable f k) = rw (eq-eqb f f refl) (eq-eqb k k refl)
same_self (Function g) = eq-eqb g g refl

found_declared : (ns : List Note) (x : Subject) (n : Note) (k : ℕ) → Contains ns n → declared_at x n ≡ Some k → Contains ns (Declared k x)
found_declared ns x (Value s t) k c h = cc
found_declared ns x (Declared j y) k c h =
    let p = pick (same y x) j k h in
    let e : Declared j y ≡ Declared k x = cc (same_is y x p.0, p.1) in
    subst (λ (n : Note). Contains ns n) e c
found_declared ns x (Used j y) k c h = cc
found_declared ns x (Index j y) k c h = cc
found_declared ns x (Loaded j y) k c h = cc

declares_by : (n : Note) (ns : List Note) (x : Subject) (k : ℕ) (o : Option ℕ) → declared_at x n ≡ o → (declaration_of x ns ≡ Some k → Contains ns (Declared k x)) → or_else o (declaration_of x ns) ≡ Some k
    → Contains (n ∷ ns) (Declared k x)
declares_by n ns x k None e h g = in_more n ns (Declared k x) (h g)
declares_by n ns x k (Some j) e h g = found_declared (n ∷ ns) x n k (0, omega arith, refl) (e ∙ g)

pub declaration_declares : (ns : List Note) (x : Subject) (k : ℕ) → declaration_of x ns ≡ Some k → Contains ns (Declared k x)
declaration_declares [] x k h = cc
declaration_declares (n ∷ ns) x k h = declares_by n ns x k (declared_at x n) refl (declaration_declares ns x k) h

undeclared : (ns : List Note) (x : Subject) → declaration_of x ns ≡ None → All (λ n. declared_at x n ≡ None) ns
undeclared [] x h = All-nil (λ n. declared_at x n ≡ None)
undeclared (n ∷ ns) x h = let p = not_named (declared_at x n) (declaration_of x ns) h in All-cons (λ n. declared_at x n ≡ None) n ns p.0 (undeclared ns x p.1)

pub none_declared : (ns : List Note) (x : Subject) → declaration_of x ns ≡ None → (k : ℕ) → Contains ns (Declared k x) → ⊥
none_declared ns x h k c = no_pick (same x x) k (same_self x) (All-contains (λ n. declared_at x n ≡ None) ns (Declared k x) (undeclared ns x h) c)

-- ---- by the places

module _ (declared : Bool) (x : Subject) where
  abbrev Named : List Note → ℕ → Type 0
  Named ns k = Names ns k x

  found_at : (n : Note) (ns : List Note) (k : ℕ) (o : Option ℕ) → named_at declared x n ≡ o → o ≡ Some k → Names (n ∷ ns) k x
  found_at (Value s t) ns k o e h = cc
  found_at (Declared j y) ns k o e h =
      let p = pick (declared && same y x) j k (e ∙ h) in
      let q = both declared (same y x) p.0 in
      let d : Declared j y ≡ Declared k x = cc (same_is y x q.1, p.1) in
      inl (0, omega arith, d)
  found_at (Used j y) ns k o e h =
      let p = pick (same y x) j k (e ∙ h) in
      let d : Used j y ≡ Used k x = cc (same_is y x p.0, p.1) in
      inr (0, omega arith, d)
  found_at (Index j y) ns k o e h = cc
  found_at (Loaded j y) ns k o e h = cc

  places_by : (n : Note) (ns : List Note) (o : Option ℕ) → named_at declared x n ≡ o → All (Named ns) (places_of declared x ns) → All (Named (n ∷ ns)) (cons_option o (places_of declared x ns))
  places_by n ns None e h = All-weaker (Named ns) (Named (n ∷ ns)) (λ k. names_more n ns k x) (places_of declared x ns) h
  places_by n ns (Some j) e h = All-cons (Named (n ∷ ns)) j (places_of declared x ns) (found_at n ns j (Some j) e refl) (All-weaker (Named ns) (Named (n ∷ ns)) (λ k. names_more n ns k x) (places_of declared x ns) h)

  -- each place that is given names x
  pub places_name : (ns : List Note) → All (Named ns) (places_of declared x ns)
  places_name [] = All-nil (Named [])
  places_name (n ∷ ns) = places_by n ns (named_at declared x n) refl (places_name ns)

-- ---- one more note

pub places_more : (declared : Bool) (x : Subject) (ns : List Note) (i : ℕ) (d : Note) (seen next : List ℕ) → i < length ns → seen ≡ places_of declared x (take i ns)
    → next ≡ seen ++ cons_option (named_at declared x (get_or ns i d)) [] → next ≡ places_of declared x (take (i + 1) ns)
places_more declared x ns i d seen next h e k =
    k ∙ (ap (λ (z : List ℕ). z ++ cons_option (named_at declared x (get_or ns i d)) []) e
    ∙ (sym (filter_map-append (named_at declared x) (take i ns) (get_or ns i d ∷ [])) ∙ ap (places_of declared x) (sym (take_more ns i d h))))
