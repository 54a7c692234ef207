-- What is found one by one, seen by a view.
use Rattle.std.proofs.Common.{◌≡◌, refl, sym, ap, ◌∙◌, map, Vec, Global, Box}
use Rattle.std.specs.Prelude.{Result, Ok, Err, List, [], ◌∷◌}
use Rattle.std.specs.Result.{IfOk}
use Rattle.std.proofs.lemmas.List.{map-append}
use Rattle.std.proofs.lemmas.Result.{IfOk-weaker}
use Rattle.isp_lex.specs.declared.fault.Fault.{Fault}
use Rattle.isp_typed.specs.Verdicts.{both, made}
use Rattle.isp_exprs.specs.reader.Lists.{and_one}
use Rattle.isp_types.proofs.Joined.{made_made}

mapped_one : {A B : Type 0} (view : A → B) (r : Result (List A) Fault) (t : Result A Fault) → made (map view) (made and_one (both r t)) ≡ made and_one (both (made (map view) r) (made view t))
mapped_one view (Ok xs) (Ok x) = ap (λ z. Ok z) (map-append view xs (x ∷ []))
mapped_one view (Ok xs) (Err f) = refl
mapped_one view (Err e) (Ok x) = refl
mapped_one view (Err e) (Err f) = refl

module _ {A B : Type 0} (view : A → B) where
  one_more : (v a : Result (Vec A Global) Fault) (t : Result A Fault) → made (λ l. l.items) v ≡ made and_one (both (made (λ l. l.items) a) t)
      → made (λ l. map view l.items) v ≡ made and_one (both (made (λ l. map view l.items) a) (made view t))
  one_more v a t e =
      sym (made_made (λ (l : Vec A Global). l.items) (map view) v)
      ∙ (ap (made (map view)) e
      ∙ (mapped_one view (made (λ (l : Vec A Global). l.items) a) t
      ∙ ap (λ r. made and_one (both r (made view t))) (made_made (λ (l : Vec A Global). l.items) (map view) a)))

module _ {A B E : Type 0} (view : A → B) where
  pub seen_boxed : (r : Result (Result (Box A Global) Fault) E) (found : Result A Fault) → IfOk r (λ v. made (λ b. b.value) v ≡ found)
      → IfOk r (λ v. made (λ b. view b.value) v ≡ made view found)
  seen_boxed r found h = IfOk-weaker r (λ v. made (λ b. b.value) v ≡ found) (λ v. made (λ b. view b.value) v ≡ made view found)
      (λ v e. sym (made_made (λ (b : Box A Global). b.value) view v) ∙ ap (made view) e) h

  pub seen_pushed : (r : Result (Result (Vec A Global) Fault) E) (a : Result (Vec A Global) Fault) (t : Result A Fault)
      → IfOk r (λ v. made (λ l. l.items) v ≡ made and_one (both (made (λ l. l.items) a) t))
      → IfOk r (λ v. made (λ l. map view l.items) v ≡ made and_one (both (made (λ l. map view l.items) a) (made view t)))
  seen_pushed r a t h = IfOk-weaker r (λ v. made (λ l. l.items) v ≡ made and_one (both (made (λ l. l.items) a) t))
      (λ v. made (λ l. map view l.items) v ≡ made and_one (both (made (λ l. map view l.items) a) (made view t))) (λ v e. one_more view v a t e) h

  pub seen_pushed_boxed : (r : Result (Result (Vec A Global) Fault) E) (a : Result (Vec A Global) Fault) (t : Result (Box A Global) Fault)
      → IfOk r (λ v. made (λ l. l.items) v ≡ made and_one (both (made (λ l. l.items) a) (made (λ b. b.value) t)))
      → IfOk r (λ v. made (λ l. map view l.items) v ≡ made and_one (both (made (λ l. map view l.items) a) (made (λ b. view b.value) t)))
  seen_pushed_boxed r a t h = IfOk-weaker r (λ v. made (λ l. l.items) v ≡ made and_one (both (made (λ l. l.items) a) (made (λ b. b.value) t)))
      (λ v. made (λ l. map view l.items) v ≡ made and_one (both (made (λ l. map view l.items) a) (made (λ b. view b.value) t)))
      (λ v e. one_more view v a (made (λ (b : Box A Global). b.value) t) e ∙ ap (λ u. made and_one (both (made (λ (l : Vec A Global). map view l.items) a) u)) (made_made (λ (b : Box A Global). b.value) view t)) h
