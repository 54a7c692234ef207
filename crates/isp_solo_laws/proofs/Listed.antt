-- Several values, and the library's functions that look at no other instance.
use Rattle.std.proofs.Common.{◌≡◌, ℕ, Bool, true, false, refl, ap, ◌∙◌, true≢false}
use Rattle.std.specs.Prelude.{List, [], ◌∷◌, Some, None, get_or, if◌then◌else◌}
use Rattle.isp_base.specs.Sets.{Mask}
use Rattle.isp_base.specs.Maps.{on}
use Rattle.isp_base.specs.Values.{op_bits}
use Rattle.isp_base.specs.Unary.{unary_bits}
use Rattle.isp_base.specs.declared.operators.BinOp.TheVariants as op
use Rattle.isp_base.specs.declared.operators.UnaryOp.TheVariants.{Absolute}
use Rattle.isp_base.specs.declared.types.Elem.{Elem}
use Rattle.isp_base.specs.declared.types.Rate.{Rate}
use Rattle.isp_base.specs.declared.types.Rate.TheVariants.{Uniform}
use Rattle.isp_typed.specs.declared.library.Library.{Library}
use Rattle.isp_typed.specs.declared.library.Library.TheVariants as library
use Rattle.isp_independence.specs.Crossing.{looks_across}
use Rattle.isp_meaning.specs.Payloads.{Payload, One, Each, spread, is_true}
use Rattle.isp_meaning.specs.Library.{library_value, argument, chosen_by, chosen_one}
use Rattle.isp_solo_meaning.specs.Values.{by_instance}
use Rattle.isp_solo_laws.specs.Values.{IsOne, Stand, ListAt, AllOne, ListStands}
use Rattle.isp_solo_laws.proofs.Lanes.{one_is, mapped_stand, joined_stand}

module _ (gang : ℕ) (a : Mask) where
  keep : (t : Bool) (x y : ℕ) → (t ≡ true → x ≡ y) → (if t then Some x else None) ≡ (if t then Some y else None)
  keep true x y e = ap Some (e refl)
  keep false x y e = refl

  first_at : (p : ℕ) (ms : List Payload) (ys : List ℕ) → ListAt a p ms ys → spread a (argument ms 0) p ≡ on a (λ q. get_or ys 0 0) p
  first_at p [] [] h = refl
  first_at p [] (y ∷ ys) h = absurd h
  first_at p (m ∷ ms) [] h = absurd h
  first_at p (m ∷ ms) (y ∷ ys) h = h.0

  second_at : (p : ℕ) (ms : List Payload) (ys : List ℕ) → ListAt a p ms ys → spread a (argument ms 1) p ≡ on a (λ q. get_or ys 1 0) p
  second_at p [] [] h = refl
  second_at p [] (y ∷ ys) h = absurd h
  second_at p (m ∷ ms) [] h = absurd h
  second_at p (m ∷ ms) (y ∷ ys) h = first_at p ms ys h.1

  third_at : (p : ℕ) (ms : List Payload) (ys : List ℕ) → ListAt a p ms ys → spread a (argument ms 2) p ≡ on a (λ q. get_or ys 2 0) p
  third_at p [] [] h = refl
  third_at p [] (y ∷ ys) h = absurd h
  third_at p (m ∷ ms) [] h = absurd h
  third_at p (m ∷ ms) (y ∷ ys) h = second_at p ms ys h.1

  first_one : (ms : List Payload) → AllOne ms → IsOne (argument ms 0)
  first_one [] h = tt
  first_one (m ∷ ms) h = h.0

  second_one : (ms : List Payload) → AllOne ms → IsOne (argument ms 1)
  second_one [] h = tt
  second_one (m ∷ ms) h = first_one ms h.1

  third_one : (ms : List Payload) → AllOne ms → IsOne (argument ms 2)
  third_one [] h = tt
  third_one (m ∷ ms) h = second_one ms h.1

  chosen_stands : (r q : Rate) (c m n : Payload) (y x z : ℕ → ℕ) → (q ≡ Uniform → r ≡ Uniform) → Stand gang a r c y → Stand gang a r m x → Stand gang a r n z
      → Stand gang a q (chosen_by a c m n) (λ p. if is_true (y p) then x p else z p)
  chosen_stands r q (Each c) m n y x z u h k l = record {
    at = λ p. ap (λ o. chosen_one o (spread a m p) (spread a n p)) (h.at p) ∙ ap (λ o. chosen_one (on a y p) o (spread a n p)) (k.at p) ∙ ap (λ o. chosen_one (on a y p) (on a x p) o) (l.at p) ∙ pick (a p) (is_true (y p)) (y p) refl (x p) (z p);
    one = λ i e. absurd (h.one i (u e));
  } where
    pick : (t b : Bool) (y : ℕ) → is_true y ≡ b → (x z : ℕ) → chosen_one (if t then Some y else None) (if t then Some x else None) (if t then Some z else None) ≡ (if t then Some (if b then x else z) else None)
    pick true true y e x z = ap (λ b. if b then Some x else Some z) e
    pick true false y e x z = ap (λ b. if b then Some x else Some z) e
    pick false b y e x z = refl
  chosen_stands r q (One c) m n y x z u h k l = go (is_true c) refl where
    on_of : (t : Bool) → t ≡ is_true c → (p : ℕ) → a p ≡ true → t ≡ is_true (y p)
    on_of t e p i = e ∙ ap is_true (one_is a c y p (h.at p) i)

    go : (t : Bool) → t ≡ is_true c → Stand gang a q (if t then m else n) (λ p. if is_true (y p) then x p else z p)
    go true e = record { at = λ p. k.at p ∙ keep (a p) (x p) _ (λ i. ap (λ b. if b then x p else z p) (on_of true e p i)); one = λ i d. k.one i (u d) }
    go false e = record { at = λ p. l.at p ∙ keep (a p) (z p) _ (λ i. ap (λ b. if b then x p else z p) (on_of false e p i)); one = λ i d. l.one i (u d) }

  pub library_stands : (f : Library) (t : Elem) (r q : Rate) (ms : List Payload) (ys : ℕ → List ℕ) → looks_across f ≡ false → (q ≡ Uniform → r ≡ Uniform) → ListStands gang a r ms ys
      → Stand gang a q (library_value gang t a f (argument ms 0) (argument ms 1) (argument ms 2)) (λ p. by_instance f t (get_or (ys p) 0 0) (get_or (ys p) 1 0) (get_or (ys p) 2 0))
  library_stands f t r q ms ys alone u h = go f alone where
    x : Stand gang a r (argument ms 0) (λ p. get_or (ys p) 0 0)
    x = record { at = λ p. first_at p ms (ys p) (h.at p); one = λ i e. first_one ms (h.one i e) }

    y : Stand gang a r (argument ms 1) (λ p. get_or (ys p) 1 0)
    y = record { at = λ p. second_at p ms (ys p) (h.at p); one = λ i e. second_one ms (h.one i e) }

    z : Stand gang a r (argument ms 2) (λ p. get_or (ys p) 2 0)
    z = record { at = λ p. third_at p ms (ys p) (h.at p); one = λ i e. third_one ms (h.one i e) }

    go : (f : Library) → looks_across f ≡ false → Stand gang a q (library_value gang t a f (argument ms 0) (argument ms 1) (argument ms 2)) (λ p. by_instance f t (get_or (ys p) 0 0) (get_or (ys p) 1 0) (get_or (ys p) 2 0))
    go library.Min e = joined_stand gang a r r q (op_bits op.Min t) (argument ms 0) (argument ms 1) _ _ u u x y
    go library.Max e = joined_stand gang a r r q (op_bits op.Max t) (argument ms 0) (argument ms 1) _ _ u u x y
    go library.Clamp e = joined_stand gang a r r q (op_bits op.Min t) _ (argument ms 2) _ _ u u (joined_stand gang a r r r (op_bits op.Max t) (argument ms 0) (argument ms 1) _ _ (λ i. i) (λ i. i) x y) z
    go library.Abs e = mapped_stand gang a r q (unary_bits Absolute t) (argument ms 0) _ u x
    go library.Select e = chosen_stands r q (argument ms 0) (argument ms 1) (argument ms 2) _ _ _ u x y z
    go other e = absurd (true≢false e)
