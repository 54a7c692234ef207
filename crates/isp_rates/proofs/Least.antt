-- The breach that is answered, of parts.
use Rattle.std.proofs.Common.{◌≡◌, ◌⊎◌, inl, inr, Bool, true, false, refl, sym, subst, ◌∙◌}
use Rattle.std.specs.Prelude.{Option, Some, None, List, [], ◌∷◌}
use Rattle.isp_base.specs.declared.types.Rate.{Rate}
use Rattle.isp_lex.specs.declared.fault.Fault.{Fault}
use Rattle.isp_lex.specs.declared.fault.Rule.TheVariants.{VaryingToUniform}
use Rattle.isp_lex.specs.Faults.{fault}
use Rattle.isp_typed.specs.Order.{NoLater}
use Rattle.isp_typed.specs.Verdicts.{earlier, first_of, fault_unless}
use Rattle.isp_typed.specs.Typed.{TExpr, type_of, span_of}
use Rattle.isp_typed.proofs.Order.{no_later_same, no_later_then, Earlier, earlier_is}
use Rattle.isp_rates.specs.Breaches.{Unmet, OfAny, OfEach, Least}
use Rattle.isp_rates.specs.Rates.{goes_to, DemandBreach}
use Rattle.isp_rates.specs.reader.Faults.{of_any, of_each, demand, where_exported}

clash : true ≡ false → ⊥
clash e = cc

pub none_least : Least None (λ f. ⊥)
none_least = record { by = λ f h. h }

pub unmet_least : (b : Bool) (e : Fault) → Least (fault_unless b e) (Unmet b e)
unmet_least true e = record { by = λ f h. clash h.0 }
unmet_least false e = record { by = ((refl, refl), λ f h. subst (λ (z : Fault). NoLater e z) (sym h.1) (no_later_same e)) }

pub either_least : (o p : Option Fault) (F G : Fault → Type 0) → Least o F → Least p G → Least (first_of o p) (λ f. F f ⊎ G f)
either_least None None F G r s = record { by = λ f h. elim h as (λ z. ⊥) [ inl x ↦ r.by f x | inr y ↦ s.by f y ] }
either_least None (Some g) F G r s = record { by = (inr s.by.0, λ f h. elim h as (λ z. NoLater g f) [ inl x ↦ absurd (r.by f x) | inr y ↦ s.by.1 f y ]) }
either_least (Some f) None F G r s = record { by = (inl r.by.0, λ g h. elim h as (λ z. NoLater f g) [ inl x ↦ r.by.1 g x | inr y ↦ absurd (s.by g y) ]) }
either_least (Some f) (Some g) F G r s =
    let w : Earlier f g (earlier f g) = earlier_is f g in
    record {
      by = (
        elim w.one as (λ z. F (earlier f g) ⊎ G (earlier f g)) [ inl i ↦ inl (subst F (sym i) r.by.0) | inr i ↦ inr (subst G (sym i) s.by.0) ],
        λ h k. elim k as (λ z. NoLater (earlier f g) h) [ inl x ↦ no_later_then _ _ _ w.left (r.by.1 h x) | inr y ↦ no_later_then _ _ _ w.right (s.by.1 h y) ],
      );
    }

-- one whose part is faulty has no fault of its own
pub demand_least : (wanted : Rate) (x : TExpr) (o : Option Fault) (B : Fault → Type 0) → Least o B → Least (demand wanted x o) (DemandBreach wanted x B)
demand_least wanted x (Some e) B l = record { by = (inl l.by.0, λ f h. elim h as (λ z. NoLater e f) [ inl y ↦ l.by.1 f y | inr y ↦ absurd (y.0 e l.by.0) ]) }
demand_least wanted x None B l = go (goes_to wanted (type_of x).rate) refl
  where
    go : (b : Bool) → goes_to wanted (type_of x).rate ≡ b → Least (fault_unless b (fault VaryingToUniform (span_of x))) (DemandBreach wanted x B)
    go true e = record { by = λ f h. elim h as (λ z. ⊥) [ inl y ↦ l.by f y | inr y ↦ clash (sym e ∙ y.1.0) ] }
    go false e = record {
      by = (
        inr (l.by, (e, refl)),
        λ f h. elim h as (λ z. NoLater (fault VaryingToUniform (span_of x)) f) [
          | inl y ↦ absurd (l.by f y)
          | inr y ↦ subst (λ (z : Fault). NoLater (fault VaryingToUniform (span_of x)) z) (sym y.1.1) (no_later_same _)
        ],
      );
    }

pub any_least : {A : Type 0} (g : A → Option Fault) (B : A → Fault → Type 0) → ((a : A) → Least (g a) (B a)) → (o : Option A) → Least (of_any g o) (OfAny B o)
any_least g B l None = none_least
any_least g B l (Some a) = l a

pub each_least : {A : Type 0} (g : A → Option Fault) (B : A → Fault → Type 0) → ((a : A) → Least (g a) (B a)) → (all : List A) → Least (of_each g all) (OfEach B all)
each_least g B l [] = none_least
each_least g B l (a ∷ rest) = either_least _ _ _ _ (l a) (each_least g B l rest)

pub exported_least : (b : Bool) (o : Option Fault) (B : Fault → Type 0) → Least o B → Least (where_exported b o) (λ f. (b ≡ true) × B f)
exported_least true None B l = record { by = λ f h. l.by f h.1 }
exported_least true (Some e) B l = record { by = ((refl, l.by.0), λ f h. l.by.1 f h.1) }
exported_least false o B l = record { by = λ f h. clash (sym h.0) }
