-- The order of breaches, and the one that is answered of two.
use Rattle.std.proofs.Common.{◌≡◌, ℕ, ◌<◌, ◌≤◌, ◌⊎◌, inl, inr, Bool, true, false, cond, refl, ap, ◌∙◌, arith}
use Rattle.std.specs.Prelude.{Option, Some, None, ◌==◌, nat_lt, ◌||◌, ◌&&◌}
use Rattle.std.proofs.lemmas.Bool.Decides.{nat_tests}
use Rattle.isp_independence.specs.declared.dependence.Dependence.{Dependence}
use Rattle.isp_independence.specs.Dependences.{NotAfter}
use Rattle.isp_independence.specs.reader.Answers.{is_earlier, earlier, first_of}

pub not_after_same : (f : Dependence) → NotAfter f f
not_after_same f = record { order = inr (refl, omega arith) }

not_after_trans : (a b c k l m : ℕ) → (a < b) ⊎ ((a ≡ b) × (k ≤ l)) → (b < c) ⊎ ((b ≡ c) × (l ≤ m)) → (a < c) ⊎ ((a ≡ c) × (k ≤ m))
not_after_trans a b c k l m (inl x) (inl y) = inl (omega arith)
not_after_trans a b c k l m (inl x) (inr y) = inl (omega (arith, y.0))
not_after_trans a b c k l m (inr x) (inl y) = inl (omega (arith, x.0))
not_after_trans a b c k l m (inr x) (inr y) = inr (x.0 ∙ y.0, omega (arith, x.1, y.1))

pub not_after_then : (f g h : Dependence) → NotAfter f g → NotAfter g h → NotAfter f h
not_after_then f g h a b = record { order = not_after_trans _ _ _ _ _ _ a.order b.order }

test_true : (a b c d : ℕ) → (nat_lt a b || (a == b && nat_lt c d)) ≡ true → (a < b) ⊎ ((a ≡ b) × (c ≤ d))
test_true a b c d e = grind (arith, nat_tests)

test_false : (a b c d : ℕ) → (nat_lt a b || (a == b && nat_lt c d)) ≡ false → (b < a) ⊎ ((b ≡ a) × (d ≤ c))
test_false a b c d e = grind (arith, nat_tests)

earlier_true : (f g : Dependence) → is_earlier g f ≡ true → NotAfter g f
earlier_true f g e = record { order = test_true _ _ _ _ e }

earlier_false : (f g : Dependence) → is_earlier g f ≡ false → NotAfter f g
earlier_false f g e = record { order = test_false _ _ _ _ e }

-- the earlier of two is one of them, and no later than either
pub record Earlier (f g e : Dependence) : Type 0 where
  pub one : (e ≡ f) ⊎ (e ≡ g)
  pub left : NotAfter e f
  pub right : NotAfter e g

pub earlier_is : (f g : Dependence) → Earlier f g (earlier f g)
earlier_is f g = go (is_earlier g f) refl where
  go : (b : Bool) → is_earlier g f ≡ b → Earlier f g (cond b g f)
  go true e = record { one = inr refl; left = earlier_true f g e; right = not_after_same g }
  go false e = record { one = inl refl; left = not_after_same f; right = earlier_false f g e }

both_true : (a c b d e k : ℕ) → (nat_lt a b || (a == b && nat_lt c d)) ≡ true → (nat_lt b e || (b == e && nat_lt d k)) ≡ true → (nat_lt a e || (a == e && nat_lt c k)) ≡ true
both_true a c b d e k x y = grind (arith, nat_tests)

both_false : (a c b d e k : ℕ) → (nat_lt a b || (a == b && nat_lt c d)) ≡ false → (nat_lt b e || (b == e && nat_lt d k)) ≡ false → (nat_lt a e || (a == e && nat_lt c k)) ≡ false
both_false a c b d e k x y = grind (arith, nat_tests)

pub earlier_assoc : (f g h : Dependence) → earlier (earlier f g) h ≡ earlier f (earlier g h)
earlier_assoc f g h = go (is_earlier g f) (is_earlier h g) (is_earlier h f) refl refl refl where
  go : (b1 b2 b3 : Bool) → is_earlier g f ≡ b1 → is_earlier h g ≡ b2 → is_earlier h f ≡ b3 → earlier (cond b1 g f) h ≡ earlier f (cond b2 h g)
  go true true b3 p q r = rw (q, both_true _ _ _ _ _ _ q p) refl
  go true false b3 p q r = rw (q, p) refl
  go false true b3 p q r = refl
  go false false b3 p q r = rw (p, both_false _ _ _ _ _ _ q p) refl

pub first_assoc : (a b c : Option Dependence) → first_of (first_of a b) c ≡ first_of a (first_of b c)
first_assoc None b c = refl
first_assoc (Some f) None c = refl
first_assoc (Some f) (Some g) None = refl
first_assoc (Some f) (Some g) (Some h) = ap (λ z. Some z) (earlier_assoc f g h)

pub first_none : (a : Option Dependence) → first_of a None ≡ a
first_none None = refl
first_none (Some f) = refl
