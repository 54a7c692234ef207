-- Lists whose members are the breaches of a part, put together.
use Rattle.std.proofs.Common.{◌≡◌, ◌⊎◌, ℕ, zero, suc, ◌<◌, ◌++◌, inl, inr, Bool, true, false, refl, sym, subst, arith, get_or}
use Rattle.std.specs.Prelude.{Option, Some, None, List, [], ◌∷◌, Contains, length}
use Rattle.std.proofs.lemmas.List.Elements.{Contains-append_left, Contains-append_right, Contains-append_cases}
use Rattle.isp_base.specs.declared.types.Rate.{Rate}
use Rattle.isp_lex.specs.declared.fault.Fault.{Fault}
use Rattle.isp_lex.specs.declared.fault.Rule.TheVariants.{VaryingToUniform}
use Rattle.isp_lex.specs.Faults.{fault}
use Rattle.isp_typed.specs.Typed.{TExpr, type_of, span_of}
use Rattle.isp_rates.specs.Breaches.{Unmet, OfAny, OfEach}
use Rattle.isp_rates.specs.Rates.{goes_to, DemandBreach}
use Rattle.isp_breaches.specs.reader.Lists.{unmet, of_any, of_each, demand, where_exported}

-- the members of xs are the faults that B has
pub record Lists (xs : List Fault) (B : Fault → Type 0) : Type 0 where
  pub told : (f : Fault) → Contains xs f → B f
  pub all : (f : Fault) → B f → Contains xs f

clash : true ≡ false → ⊥
clash e = cc

pub nothing : (f : Fault) → Contains [] f → ⊥
nothing f h = let no : ⊥ = omega (arith, h.1) in no

pub head : (e : Fault) (more : List Fault) → Contains (e ∷ more) e
head e more = (zero, omega arith, refl)

pub tail : (e : Fault) (more : List Fault) (f : Fault) → Contains more f → Contains (e ∷ more) f
tail e more f h = (suc h.0, omega (arith, h.1), h.2)

pub head_or_tail : (e : Fault) (more : List Fault) (f : Fault) → Contains (e ∷ more) f → (f ≡ e) ⊎ Contains more f
head_or_tail e more f h = go h.0 h.1 h.2
  where
    go : (k : ℕ) → k < length (e ∷ more) → get_or (e ∷ more) k f ≡ f → (f ≡ e) ⊎ Contains more f
    go zero l is = inl (sym is)
    go (suc k) l is = inr (k, omega (arith, l), is)

alone : (e f : Fault) → Contains (e ∷ []) f → f ≡ e
alone e f h = elim (head_or_tail e [] f h) as (λ z. f ≡ e) [ inl x ↦ x | inr y ↦ absurd (nothing f y) ]

pub none_lists : Lists [] (λ f. ⊥)
none_lists = record { told = λ f h. nothing f h; all = λ f h. absurd h }

pub unmet_lists : (b : Bool) (e : Fault) → Lists (unmet b e) (Unmet b e)
unmet_lists true e = record { told = λ f h. absurd (nothing f h); all = λ f h. absurd (clash h.0) }
unmet_lists false e = record { told = λ f h. (refl, alone e f h); all = λ f h. subst (λ (z : Fault). Contains (e ∷ []) z) (sym h.1) (head e []) }

pub either_lists : (xs ys : List Fault) (F G : Fault → Type 0) → Lists xs F → Lists ys G → Lists (xs ++ ys) (λ f. F f ⊎ G f)
either_lists xs ys F G r s = record {
  told = λ f h. elim (Contains-append_cases xs ys f h) as (λ z. F f ⊎ G f) [ inl x ↦ inl (r.told f x) | inr y ↦ inr (s.told f y) ];
  all = λ f h. elim h as (λ z. Contains (xs ++ ys) f) [ inl x ↦ Contains-append_left xs ys f (r.all f x) | inr y ↦ Contains-append_right xs ys f (s.all f y) ];
}

-- one whose part is faulty has no fault of its own
pub demand_lists : (wanted : Rate) (x : TExpr) (xs : List Fault) (B : Fault → Type 0) → Lists xs B → Lists (demand wanted x xs) (DemandBreach wanted x B)
demand_lists wanted x (e ∷ more) B l = record {
  told = λ f h. inl (l.told f h);
  all = λ f h. elim h as (λ z. Contains (e ∷ more) f) [ inl y ↦ l.all f y | inr y ↦ absurd (y.0 e (l.told e (head e more))) ];
}
demand_lists wanted x [] B l =
    let rate = unmet_lists (goes_to wanted (type_of x).rate) (fault VaryingToUniform (span_of x)) in
    record {
      told = λ f h. inr (λ g b. nothing g (l.all g b), rate.told f h);
      all = λ f h. elim h as (λ z. Contains (demand wanted x []) f) [ inl y ↦ absurd (nothing f (l.all f y)) | inr y ↦ rate.all f y.1 ];
    }

pub any_lists : {A : Type 0} (g : A → List Fault) (B : A → Fault → Type 0) → ((a : A) → Lists (g a) (B a)) → (o : Option A) → Lists (of_any g o) (OfAny B o)
any_lists g B l None = none_lists
any_lists g B l (Some a) = l a

pub each_lists : {A : Type 0} (g : A → List Fault) (B : A → Fault → Type 0) → ((a : A) → Lists (g a) (B a)) → (all : List A) → Lists (of_each g all) (OfEach B all)
each_lists g B l [] = none_lists
each_lists g B l (a ∷ rest) = either_lists _ _ _ _ (l a) (each_lists g B l rest)

pub exported_lists : (b : Bool) (xs : List Fault) (B : Fault → Type 0) → Lists xs B → Lists (where_exported b xs) (λ f. (b ≡ true) × B f)
exported_lists true xs B l = record { told = λ f h. (refl, l.told f h); all = λ f h. l.all f h.1 }
exported_lists false xs B l = record { told = λ f h. absurd (nothing f h); all = λ f h. absurd (clash (sym h.0)) }

-- the same members in another order
pub kept_lists : (xs ys : List Fault) (B : Fault → Type 0) → Lists xs B → ((f : Fault) → Contains xs f → Contains ys f) → ((f : Fault) → Contains ys f → Contains xs f) → Lists ys B
kept_lists xs ys B l keeps adds_none = record { told = λ f h. l.told f (adds_none f h); all = λ f h. keeps f (l.all f h) }
