-- How verdicts of the code are seen by views.
use Rattle.std.proofs.Common.{◌≡◌, refl, sym, ap, ◌∙◌}
use Rattle.std.specs.Prelude.{Result, Ok, Err, Option, Some, None}
use Rattle.isp_lex.specs.declared.fault.Fault.{Fault}
use Rattle.isp_typed.specs.Verdicts.{both, made, found, beside}

module _ {A B C D : Type 0} (f : A → C) (g : B → D) where
  pub both_made : (v : Result A Fault) (w : Result B Fault) → both (made f v) (made g w) ≡ made (λ p. (f p.0, g p.1)) (both v w)
  both_made (Ok a) (Ok b) = refl
  both_made (Ok a) (Err e) = refl
  both_made (Err e) (Ok b) = refl
  both_made (Err e) (Err d) = refl

-- a fault of two or three stays when they are seen
module _ {A B C D E : Type 0} (f : A → C) (g : B → D) (h : C × D → E) where
  pub both_fails : (v : Result A Fault) (w : Result B Fault) (e : Fault) → both v w ≡ Err e → Err e ≡ made h (both (made f v) (made g w))
  both_fails v w e p = sym (ap (made h) (both_made f g v w ∙ ap (made (λ q. (f q.0, g q.1))) p))

module _ {A B C D E F G : Type 0} (f : A → D) (g : B → E) (k : C → F) (h : D × (E × F) → G) where
  pub three_fail : (v : Result A Fault) (w : Result B Fault) (u : Result C Fault) (e : Fault) → both v (both w u) ≡ Err e
      → Err e ≡ made h (both (made f v) (both (made g w) (made k u)))
  three_fail v w u e p = both_fails f (λ (q : B × C). (g q.0, k q.1)) h v (both w u) e p ∙ ap (λ z. made h (both (made f v) z)) (sym (both_made g k w u))

pub beside_made : {A B : Type 0} (f : A → B) (o : Option Fault) (v : Result A Fault) → made f (beside o v) ≡ beside o (made f v)
beside_made f None v = refl
beside_made f (Some e) (Ok a) = refl
beside_made f (Some e) (Err d) = refl

-- two that are found stay when they are seen
module _ {A B C D E : Type 0} (f : A → C) (g : B → D) (h : C × D → E) where
  pub both_found : (v : Result A Fault) (w : Result B Fault) (a : A) (b : B) → both v w ≡ Ok (a, b) → Ok (h (f a, g b)) ≡ made h (both (made f v) (made g w))
  both_found v w a b p = sym (ap (made h) (both_made f g v w ∙ ap (made (λ q. (f q.0, g q.1))) p))

-- the same where the first is seen as it is
module _ {A B D E : Type 0} (g : B → D) (h : A × D → E) where
  pub kept_made : (v : Result A Fault) (w : Result B Fault) → both v (made g w) ≡ made (λ p. (p.0, g p.1)) (both v w)
  kept_made (Ok a) (Ok b) = refl
  kept_made (Ok a) (Err e) = refl
  kept_made (Err e) (Ok b) = refl
  kept_made (Err e) (Err d) = refl

  pub kept_found : (v : Result A Fault) (w : Result B Fault) (a : A) (b : B) → both v w ≡ Ok (a, b) → Ok (h (a, g b)) ≡ made h (both v (made g w))
  kept_found v w a b p = sym (ap (made h) (kept_made v w ∙ ap (made (λ q. (q.0, g q.1))) p))

  pub kept_fails : (v : Result A Fault) (w : Result B Fault) (e : Fault) → both v w ≡ Err e → Err e ≡ made h (both v (made g w))
  kept_fails v w e p = sym (ap (made h) (kept_made v w ∙ ap (made (λ q. (q.0, g q.1))) p))
