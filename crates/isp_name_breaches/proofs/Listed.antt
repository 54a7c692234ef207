-- Lists whose members are the breaches of a part, put together.
use Rattle.std.proofs.Common.{◌≡◌, ◌⊎◌, ℕ, zero, suc, ◌<◌, ◌++◌, inl, inr, Bool, true, false, refl, sym, ap, subst, ◌∙◌, arith, get_or}
use Rattle.std.specs.Prelude.{Option, Some, None, List, [], ◌∷◌, Contains, length, Result, Ok, Err}
use Rattle.std.proofs.lemmas.List.Elements.{Contains-append_left, Contains-append_right, Contains-append_cases}
use Rattle.isp_lex.specs.declared.fault.Fault.{Fault}
use Rattle.isp_typed.specs.Forms.{No_breach, Either, Wrong, Refused, Unless, OfPerhaps}
use Rattle.isp_typed.specs.Promise.{Right}
use Rattle.isp_typed.specs.Verdicts.{made, found}
use Rattle.isp_exprs.specs.reader.Lists.{fault_of}
use Rattle.isp_name_breaches.specs.reader.Exprs.{refusal, own, or_own, unmet, of_any}

-- the members of xs are the faults that B has
pub record Lists (xs : List Fault) (B : Fault → Type 0) : Type 0 where
  pub told : (f : Fault) → Contains xs f → B f
  pub all : (f : Fault) → B f → Contains xs f

clash : true ≡ false → ⊥
clash e = cc

ok_err : {A : Type 0} {a : A} {e : Fault} → ◌≡◌ {A = Result A Fault} (Ok a) (Err e) → ⊥
ok_err e = cc

err_is : {A : Type 0} (e f : Fault) → ◌≡◌ {A = Result A Fault} (Err e) (Err f) → f ≡ e
err_is e f p = cc

pub nothing : (f : Fault) → Contains [] f → ⊥
nothing f h = let no : ⊥ = omega (arith, h.1) in no

pub head : (e : Fault) (more : List Fault) → Contains (e ∷ more) e
head e more = (zero, omega arith, refl)

alone : (e f : Fault) → Contains (e ∷ []) f → f ≡ e
alone e f h = go h.0 h.1 h.2
  where
    go : (k : ℕ) → k < length (e ∷ []) → get_or (e ∷ []) k f ≡ f → f ≡ e
    go zero l is = sym is
    go (suc k) l is = absurd (let no : ⊥ = omega (arith, l) in no)

only_one : (e f : Fault) → f ≡ e → Contains (e ∷ []) f
only_one e f p = subst (λ (z : Fault). Contains (e ∷ []) z) (sym p) (head e [])

pub none_lists : Lists [] No_breach
none_lists = record { told = λ f h. nothing f h; all = λ f h. absurd h }

pub refusal_lists : {A : Type 0} (r : Result A Fault) → Lists (refusal r) (Refused r)
refusal_lists (Ok a) = record { told = λ f h. absurd (nothing f h); all = λ f h. absurd (ok_err h) }
refusal_lists (Err e) = record { told = λ f h. sym (ap (λ z. Err z) (alone e f h)); all = λ f h. only_one e f (err_is e f h) }

pub either_lists : (xs ys : List Fault) (F G : Fault → Type 0) → Lists xs F → Lists ys G → Lists (xs ++ ys) (Either F G)
either_lists xs ys F G r s = record {
  told = λ f h. elim (Contains-append_cases xs ys f h) as (λ z. F f ⊎ G f) [ inl x ↦ inl (r.told f x) | inr y ↦ inr (s.told f y) ];
  all = λ f h. elim h as (λ z. Contains (xs ++ ys) f) [ inl x ↦ Contains-append_left xs ys f (r.all f x) | inr y ↦ Contains-append_right xs ys f (s.all f y) ];
}

unmet_lists : (b : Bool) (e : Fault) → Lists (unmet b e) (λ f. (b ≡ false) × (f ≡ e))
unmet_lists true e = record { told = λ f h. absurd (nothing f h); all = λ f h. absurd (clash h.0) }
unmet_lists false e = record { told = λ f h. (refl, alone e f h); all = λ f h. only_one e f h.1 }

pub unless_lists : (b : Bool) (e : Fault) (xs : List Fault) (F : Fault → Type 0) → Lists xs F → Lists (unmet b e ++ xs) (Unless b e F)
unless_lists b e xs F l = either_lists _ _ _ _ (unmet_lists b e) l

pub any_lists : {A : Type 0} (g : A → List Fault) (B : A → Fault → Type 0) → ((a : A) → Lists (g a) (B a)) → (o : Option A) → Lists (of_any g o) (OfPerhaps B o)
any_lists g B l None = record { told = λ f h. nothing f h; all = λ f h. absurd h }
any_lists g B l (Some a) = l a

-- a node has its own fault where its parts have none
pub own_lists : {A B : Type 0} (rule : A → Result B Fault) (xs : List Fault) (v : Result A Fault) (P : A → Type 0) (F : Fault → Type 0)
    → Lists xs F → Right v P F → Lists (or_own xs (found rule v)) (Wrong rule P F)
own_lists rule (e ∷ more) (Ok a) P F l r = record {
  told = λ f h. inl (l.told f h);
  all = λ f h. absurd (r.by.sound e (l.told e (head e more)));
}
own_lists rule (e ∷ more) (Err d) P F l r = record {
  told = λ f h. inl (l.told f h);
  all = λ f h. elim h as (λ z. Contains (e ∷ more) f) [ inl x ↦ l.all f x | inr y ↦ absurd (r.by.nothing y.0 y.1) ];
}
own_lists rule [] (Err d) P F l r = absurd (nothing d (l.all d r.by.breach))
own_lists {A = A} {B = B} rule [] (Ok a) P F l r = record {
  told = λ f h. inr (a, r.by.is, (refusal_lists (rule a)).told f h);
  all = λ f h. elim h as (λ z. Contains (refusal (rule a)) f) [
    | inl x ↦ absurd (nothing f (l.all f x))
    | inr y ↦ (refusal_lists (rule a)).all f (sym (ap rule (r.by.only y.0 y.1)) ∙ y.2)
  ];
}

-- What is made of what is found has the same fault.
pub made_fault : {A B : Type 0} (make : A → B) (v : Result A Fault) → fault_of (made make v) ≡ fault_of v
made_fault make (Ok a) = refl
made_fault make (Err e) = refl

pub made_lists : {A B : Type 0} (make : A → B) (xs : List Fault) (v : Result A Fault) (F : Fault → Type 0) → Lists (or_own xs v) F → Lists (or_own xs (made make v)) F
made_lists make xs v F l = subst (λ (z : Option Fault). Lists (own xs z) F) (sym (made_fault make v)) l

some_none : (e : Fault) → ◌≡◌ {A = Option Fault} (Some e) None → ⊥
some_none e p = cc

-- Where something is found, there is no fault.
pub sound_lists : {A : Type 0} (xs : List Fault) (v : Result A Fault) (P : A → Type 0) (F : Fault → Type 0) → Lists xs F → Right v P F → fault_of v ≡ None → xs ≡ []
sound_lists [] (Ok a) P F l r h = refl
sound_lists (f ∷ fs) (Ok a) P F l r h = absurd (r.by.sound f (l.told f (head f fs)))
sound_lists xs (Err e) P F l r h = absurd (some_none e h)

-- parts in another order
swap : (a b c d : List Fault) (f : Fault) → Contains ((c ++ a) ++ (b ++ d)) f → Contains ((a ++ b) ++ (c ++ d)) f
swap a b c d f h = elim (Contains-append_cases (c ++ a) (b ++ d) f h) as (λ z. Contains ((a ++ b) ++ (c ++ d)) f) [
  | inl x ↦ elim (Contains-append_cases c a f x) as (λ z. Contains ((a ++ b) ++ (c ++ d)) f) [
    | inl y ↦ Contains-append_right (a ++ b) (c ++ d) f (Contains-append_left c d f y)
    | inr y ↦ Contains-append_left (a ++ b) (c ++ d) f (Contains-append_left a b f y)
  ]
  | inr x ↦ elim (Contains-append_cases b d f x) as (λ z. Contains ((a ++ b) ++ (c ++ d)) f) [
    | inl y ↦ Contains-append_left (a ++ b) (c ++ d) f (Contains-append_right a b f y)
    | inr y ↦ Contains-append_right (a ++ b) (c ++ d) f (Contains-append_right c d f y)
  ]
]

swap_back : (a b c d : List Fault) (f : Fault) → Contains ((a ++ b) ++ (c ++ d)) f → Contains ((c ++ a) ++ (b ++ d)) f
swap_back a b c d f h = elim (Contains-append_cases (a ++ b) (c ++ d) f h) as (λ z. Contains ((c ++ a) ++ (b ++ d)) f) [
  | inl x ↦ elim (Contains-append_cases a b f x) as (λ z. Contains ((c ++ a) ++ (b ++ d)) f) [
    | inl y ↦ Contains-append_left (c ++ a) (b ++ d) f (Contains-append_right c a f y)
    | inr y ↦ Contains-append_right (c ++ a) (b ++ d) f (Contains-append_left b d f y)
  ]
  | inr x ↦ elim (Contains-append_cases c d f x) as (λ z. Contains ((c ++ a) ++ (b ++ d)) f) [
    | inl y ↦ Contains-append_left (c ++ a) (b ++ d) f (Contains-append_left c a f y)
    | inr y ↦ Contains-append_right (c ++ a) (b ++ d) f (Contains-append_right b d f y)
  ]
]

pub swapped_lists : (a b c d : List Fault) (B : Fault → Type 0) → Lists ((c ++ a) ++ (b ++ d)) B → Lists ((a ++ b) ++ (c ++ d)) B
swapped_lists a b c d B l = record { told = λ f h. l.told f (swap_back a b c d f h); all = λ f h. swap a b c d f (l.all f h) }
