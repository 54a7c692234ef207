-- The breach that is answered, of parts.
use Rattle.std.proofs.Common.{◌≡◌, ◌⊎◌, inl, inr, Bool, true, false, refl, sym, subst}
use Rattle.std.specs.Prelude.{Option, Some, None, List, [], ◌∷◌}
use Rattle.isp_base.specs.declared.types.Rate.{Rate}
use Rattle.isp_base.specs.declared.types.Rate.TheVariants.{Uniform, Varying}
use Rattle.isp_independence.specs.declared.dependence.Dependence.{Dependence}
use Rattle.isp_independence.specs.Dependences.{NotAfter, Unmet, OfAny, OfEach, Answered}
use Rattle.isp_independence.specs.Exits.{by_rate}
use Rattle.isp_independence.specs.reader.Answers.{earlier, first_of, unless, of_any, of_each}
use Rattle.isp_independence.proofs.Order.{not_after_same, not_after_then, Earlier, earlier_is}

clash : true ≡ false → ⊥
clash e = cc

pub none_answered : Answered None (λ f. ⊥)
none_answered = record { by = λ f h. h }

pub unmet_answered : (b : Bool) (e : Dependence) → Answered (unless b e) (Unmet b e)
unmet_answered true e = record { by = λ f h. clash h.0 }
unmet_answered false e = record { by = ((refl, refl), λ f h. subst (λ (z : Dependence). NotAfter e z) (sym h.1) (not_after_same e)) }

pub either_answered : (o p : Option Dependence) (F G : Dependence → Type 0) → Answered o F → Answered p G → Answered (first_of o p) (λ f. F f ⊎ G f)
either_answered None None F G r s = record { by = λ f h. elim h as (λ z. ⊥) [ inl x ↦ r.by f x | inr y ↦ s.by f y ] }
either_answered None (Some g) F G r s = record { by = (inr s.by.0, λ f h. elim h as (λ z. NotAfter g f) [ inl x ↦ absurd (r.by f x) | inr y ↦ s.by.1 f y ]) }
either_answered (Some f) None F G r s = record { by = (inl r.by.0, λ g h. elim h as (λ z. NotAfter f g) [ inl x ↦ r.by.1 g x | inr y ↦ absurd (s.by g y) ]) }
either_answered (Some f) (Some g) F G r s =
    let w : Earlier f g (earlier f g) = earlier_is f g in
    record {
      by = (
        elim w.one as (λ z. F (earlier f g) ⊎ G (earlier f g)) [ inl i ↦ inl (subst F (sym i) r.by.0) | inr i ↦ inr (subst G (sym i) s.by.0) ],
        λ h k. elim k as (λ z. NotAfter (earlier f g) h) [ inl x ↦ not_after_then _ _ _ w.left (r.by.1 h x) | inr y ↦ not_after_then _ _ _ w.right (s.by.1 h y) ],
      );
    }

-- exactly this
pub some_answered : (e : Dependence) → Answered (Some e) (λ d. d ≡ e)
some_answered e = record { by = (refl, λ d h. subst (λ (z : Dependence). NotAfter e z) (sym h) (not_after_same e)) }

-- where a rate is uniform
pub uniform_answered : (r : Rate) (o : Option Dependence) (B : Dependence → Type 0) → Answered o B → Answered (by_rate r None o) (λ d. (r ≡ Uniform) × B d)
uniform_answered Varying o B l = record { by = λ d h. absurd (let no : ⊥ = cc in no) }
uniform_answered Uniform None B l = record { by = λ d h. l.by d h.1 }
uniform_answered Uniform (Some e) B l = record { by = ((refl, l.by.0), λ d h. l.by.1 d h.1) }

pub any_answered : {A : Type 0} (g : A → Option Dependence) (B : A → Dependence → Type 0) → ((a : A) → Answered (g a) (B a)) → (o : Option A) → Answered (of_any g o) (OfAny B o)
any_answered g B l None = none_answered
any_answered g B l (Some a) = l a

pub each_answered : {A : Type 0} (g : A → Option Dependence) (B : A → Dependence → Type 0) → ((a : A) → Answered (g a) (B a)) → (all : List A) → Answered (of_each g all) (OfEach B all)
each_answered g B l [] = none_answered
each_answered g B l (a ∷ rest) = either_answered _ _ _ _ (l a) (each_answered g B l rest)
