-- Verdicts that are right, put together from those of parts.
use Rattle.std.proofs.Common.{◌≡◌, ◌⊎◌, inl, inr, Bool, true, false, refl, sym, ap, subst, ◌∙◌}
use Rattle.std.specs.Prelude.{Result, Ok, Err, Option, Some, None}
use Rattle.isp_lex.specs.declared.fault.Fault.{Fault}
use Rattle.isp_typed.specs.Order.{NoLater}
use Rattle.isp_typed.specs.Promise.{Right}
use Rattle.isp_typed.specs.Forms.{Both, Either, No_breach, Just, Made, Found, Wrong, Given, Refused, Provided, Unless, Perhaps, OfPerhaps}
use Rattle.isp_typed.specs.Verdicts.{earlier, both, made, found, fault_unless, beside, perhaps}
use Rattle.isp_typed.proofs.Order.{no_later_same, no_later_then, Earlier, earlier_is}

pair_is : {A B : Type 0} (a c : A) (b d : B) → c ≡ a → d ≡ b → ◌≡◌ {A = A × B} (c, d) (a, b)
pair_is a c b d p q = cc

clash : true ≡ false → ⊥
clash e = cc

ok_err : {A : Type 0} {a : A} {e : Fault} → Ok a ≡ Err e → ⊥
ok_err e = cc

ok_is : {A : Type 0} (a b : A) → ◌≡◌ {A = Result A Fault} (Ok a) (Ok b) → b ≡ a
ok_is a b e = cc

err_is : {A : Type 0} (e f : Fault) → ◌≡◌ {A = Result A Fault} (Err e) (Err f) → f ≡ e
err_is e f p = cc

same_fault : (e f : Fault) → f ≡ e → NoLater e f
same_fault e f p = subst (λ (z : Fault). NoLater e z) (sym p) (no_later_same e)

pub just_right : {A : Type 0} (a : A) → Right (Ok a) (Just a) No_breach
just_right a = record { by = record { is = refl; only = λ b e. e; sound = λ f e. e } }

pub given_right : {A : Type 0} (r : Result A Fault) → Right r (Given r) (Refused r)
given_right (Ok a) = record { by = record { is = refl; only = λ b e. ok_is _ _ e; sound = λ f e. ok_err e } }
given_right (Err d) = record { by = record { nothing = λ b e. ok_err (sym e); breach = refl; first = λ f e. same_fault d f (err_is _ _ e) } }

pub made_right : {A B : Type 0} (make : A → B) (v : Result A Fault) (P : A → Type 0) (F : Fault → Type 0) → Right v P F → Right (made make v) (Made make P) F
made_right make (Ok a) P F r = record { by = record { is = (a, r.by.is, refl); only = λ t p. p.2 ∙ ap make (r.by.only p.0 p.1); sound = r.by.sound } }
made_right make (Err e) P F r = record { by = record { nothing = λ t p. r.by.nothing p.0 p.1; breach = r.by.breach; first = r.by.first } }

pub found_right : {A B : Type 0} (rule : A → Result B Fault) (v : Result A Fault) (P : A → Type 0) (F : Fault → Type 0)
    → Right v P F → Right (found rule v) (Found rule P) (Wrong rule P F)
found_right {A = A} {B = B} rule (Ok a) P F r = go (rule a) refl where
  go : (o : Result B Fault) → rule a ≡ o → Right o (Found rule P) (Wrong rule P F)
  go (Ok b) q = record {
    by = record {
      is = (a, r.by.is, q);
      only = λ c p. ok_is _ _ (sym q ∙ ap rule (sym (r.by.only p.0 p.1)) ∙ p.2);
      sound = λ f h. elim h as (λ z. ⊥) [ inl x ↦ r.by.sound f x | inr y ↦ ok_err (sym q ∙ ap rule (sym (r.by.only y.0 y.1)) ∙ y.2) ];
    };
  }
  go (Err e) q = record {
    by = record {
      nothing = λ c p. ok_err (sym p.2 ∙ ap rule (r.by.only p.0 p.1) ∙ q);
      breach = inr (a, r.by.is, q);
      first = λ f h. elim h as (λ z. NoLater e f) [ inl x ↦ absurd (r.by.sound f x) | inr y ↦ same_fault e f (err_is _ _ (sym q ∙ ap rule (sym (r.by.only y.0 y.1)) ∙ y.2)) ];
    };
  }
found_right rule (Err d) P F r = record {
  by = record {
    nothing = λ c p. r.by.nothing p.0 p.1;
    breach = inl r.by.breach;
    first = λ f h. elim h as (λ z. NoLater d f) [ inl x ↦ r.by.first f x | inr y ↦ absurd (r.by.nothing y.0 y.1) ];
  };
}

pub both_right : {A B : Type 0} (v : Result A Fault) (w : Result B Fault) (P : A → Type 0) (Q : B → Type 0) (F G : Fault → Type 0)
    → Right v P F → Right w Q G → Right (both v w) (Both P Q) (Either F G)
both_right (Ok a) (Ok b) P Q F G r s = record {
  by = record {
    is = (r.by.is, s.by.is);
    only = λ p h. pair_is _ _ _ _ (r.by.only p.0 h.0) (s.by.only p.1 h.1);
    sound = λ f h. elim h as (λ z. ⊥) [ inl x ↦ r.by.sound f x | inr y ↦ s.by.sound f y ];
  };
}
both_right (Ok a) (Err e) P Q F G r s = record {
  by = record {
    nothing = λ p h. s.by.nothing p.1 h.1;
    breach = inr s.by.breach;
    first = λ f h. elim h as (λ z. NoLater e f) [ inl x ↦ absurd (r.by.sound f x) | inr y ↦ s.by.first f y ];
  };
}
both_right (Err e) (Ok b) P Q F G r s = record {
  by = record {
    nothing = λ p h. r.by.nothing p.0 h.0;
    breach = inl r.by.breach;
    first = λ f h. elim h as (λ z. NoLater e f) [ inl x ↦ r.by.first f x | inr y ↦ absurd (s.by.sound f y) ];
  };
}
both_right (Err e) (Err d) P Q F G r s =
    let w : Earlier e d (earlier e d) = earlier_is e d in
    record {
      by = record {
        nothing = λ p h. r.by.nothing p.0 h.0;
        breach = elim w.one as (λ z. F (earlier e d) ⊎ G (earlier e d)) [ inl i ↦ inl (subst F (sym i) r.by.breach) | inr i ↦ inr (subst G (sym i) s.by.breach) ];
        first = λ f h. elim h as (λ z. NoLater (earlier e d) f) [ inl x ↦ no_later_then _ _ _ w.left (r.by.first f x) | inr y ↦ no_later_then _ _ _ w.right (s.by.first f y) ];
      };
    }

pub beside_right : {A : Type 0} (test : Bool) (e : Fault) (v : Result A Fault) (P : A → Type 0) (F : Fault → Type 0)
    → Right v P F → Right (beside (fault_unless test e) v) (Provided test P) (Unless test e F)
beside_right true e (Ok a) P F r = record {
  by = record {
    is = (refl, r.by.is);
    only = λ b p. r.by.only b p.1;
    sound = λ f h. elim h as (λ z. ⊥) [ inl x ↦ clash x.0 | inr y ↦ r.by.sound f y ];
  };
}
beside_right true e (Err d) P F r = record {
  by = record {
    nothing = λ b p. r.by.nothing b p.1;
    breach = inr r.by.breach;
    first = λ f h. elim h as (λ z. NoLater d f) [ inl x ↦ absurd (clash x.0) | inr y ↦ r.by.first f y ];
  };
}
beside_right false e (Ok a) P F r = record {
  by = record {
    nothing = λ b p. clash (sym p.0);
    breach = inl (refl, refl);
    first = λ f h. elim h as (λ z. NoLater e f) [ inl x ↦ same_fault e f x.1 | inr y ↦ absurd (r.by.sound f y) ];
  };
}
beside_right false e (Err d) P F r =
    let w : Earlier e d (earlier e d) = earlier_is e d in
    record {
      by = record {
        nothing = λ b p. clash (sym p.0);
        breach = elim w.one as (λ z. Unless false e F (earlier e d)) [ inl i ↦ inl (refl, i) | inr i ↦ inr (subst F (sym i) r.by.breach) ];
        first = λ f h. elim h as (λ z. NoLater (earlier e d) f) [ inl x ↦ no_later_then _ _ _ w.left (same_fault e f x.1) | inr y ↦ no_later_then _ _ _ w.right (r.by.first f y) ];
      };
    }

pub perhaps_right : {A B : Type 0} (judge : A → Result B Fault) (P : A → B → Type 0) (F : A → Fault → Type 0)
    → ((a : A) → Right (judge a) (P a) (F a)) → (o : Option A) → Right (perhaps judge o) (Perhaps P o) (OfPerhaps F o)
perhaps_right judge P F r None = just_right None
perhaps_right judge P F r (Some a) = made_right (λ c. Some c) _ _ _ (r a)
