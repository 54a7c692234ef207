-- Values at a rate: what operators, tests and writes do to them.
use Rattle.std.proofs.Common.{◌≡◌, ℕ, zero, suc, ◌<◌, Option, Some, None, Bool, true, false, refl, sym, ap, ◌∙◌, subst, lt-ltb, arith}
use Rattle.std.specs.Prelude.{if◌then◌else◌, ◌||◌}
use Rattle.std.proofs.lemmas.Bool.{or_from}
use Rattle.std.proofs.Common.{◌<◌, ◌≤◌, ◌⊎◌, inl, inr}
use Rattle.std.proofs.Math.Path.{fun_ext}
use Rattle.isp_base.specs.Cross.{or_zero}
use Rattle.isp_base.specs.Sets.{Mask, nobody, any, lowest, or_this}
use Rattle.isp_base.specs.Maps.{Lanes, Map, on, over, or_old, each1, each2, map1, map2, holds, where_true, lowest_failing}
use Rattle.isp_base.specs.declared.types.Rate.{Rate}
use Rattle.isp_base.specs.declared.types.Rate.TheVariants.{Uniform, Varying}
use Rattle.isp_lower_code.proofs.Splits.{split_at}
use Rattle.isp_meaning.specs.Payloads.{Payload, One, Each, sole, spread, mapped, joined, kept_by, offender, if_fails}
use Rattle.isp_lower_code.specs.Held.{everywhere}
use Rattle.isp_lower_code.specs.Setting.{at_rate, held_at}

-- ---- operators

pub on_map1 : (a : Mask) (f : ℕ → ℕ) (x : Lanes) → on a (λ p. f (x p)) ≡ map1 f (on a x)
on_map1 a f x = fun_ext (λ p. at (a p) p)
  where
    at : (b : Bool) (p : ℕ) → (if b then Some (f (x p)) else None) ≡ each1 f (if b then Some (x p) else None)
    at true p = refl
    at false p = refl

pub on_map2 : (a : Mask) (f : ℕ → ℕ → ℕ) (x y : Lanes) → on a (λ p. f (x p) (y p)) ≡ map2 f (on a x) (on a y)
on_map2 a f x y = fun_ext (λ p. at (a p) p)
  where
    at : (b : Bool) (p : ℕ) → (if b then Some (f (x p) (y p)) else None) ≡ each2 f (if b then Some (x p) else None) (if b then Some (y p) else None)
    at true p = refl
    at false p = refl

-- the same value
pub held_same : (r : Rate) (a : Mask) (sc : ℕ → ℕ) (ve : ℕ → Lanes) (d : ℕ) → mapped (λ x. x) (held_at r sc ve a d) ≡ held_at r sc ve a d
held_same Uniform a sc ve d = refl
held_same Varying a sc ve d = ap Each (sym (on_map1 a (λ x. x) (ve d)))

pub at_mapped : (r : Rate) (a : Mask) (f : ℕ → ℕ) (x : Payload) → at_rate r a (mapped f x) ≡ mapped f (at_rate r a x)
at_mapped Uniform a f x = refl
at_mapped Varying a f (One x) = ap Each (on_map1 a f (λ p. x))
at_mapped Varying a f (Each x) = refl

pub at_joined : (r : Rate) (a : Mask) (f : ℕ → ℕ → ℕ) (x y : Payload) → at_rate r a (joined f a x y) ≡ joined f a (at_rate r a x) (at_rate r a y)
at_joined Uniform a f x y = refl
at_joined Varying a f (One x) (One y) = ap Each (on_map2 a f (λ p. x) (λ p. y))
at_joined Varying a f (One x) (Each y) = refl
at_joined Varying a f (Each x) y = refl

-- ---- tests

pub one_holds : (a : Mask) (f : ℕ → Bool) (x : ℕ) → (if f x then a else nobody) ≡ where_true f (on a (λ p. x))
one_holds a f x = fun_ext (λ p. at (f x) refl (a p) p refl)
  where
    at : (b : Bool) → f x ≡ b → (d : Bool) (p : ℕ) → a p ≡ d → (if b then a else nobody) p ≡ holds f (if d then Some x else None)
    at true e true p h = h ∙ sym e
    at true e false p h = h
    at false e true p h = sym e
    at false e false p h = refl

pub at_kept : (r : Rate) (a : Mask) (f : ℕ → Bool) (x : Payload) → kept_by f a x ≡ kept_by f a (at_rate r a x)
at_kept Uniform a f x = refl
at_kept Varying a f (One x) = one_holds a f x
at_kept Varying a f (Each x) = refl

lowest_none : (n : ℕ) → lowest n nobody ≡ None
lowest_none zero = refl
lowest_none (suc n) = ap (λ o. or_this o false n) (lowest_none n)

pub at_offender : (r : Rate) (gang : ℕ) (a : Mask) (f : ℕ → Bool) (x : Payload) → offender gang f a x ≡ offender gang f a (at_rate r a x)
at_offender Uniform gang a f x = refl
at_offender Varying gang a f (One x) = go (f x) refl ∙ ap (lowest gang) (one_holds a f x)
  where
    go : (b : Bool) → f x ≡ b → if_fails gang f a b ≡ lowest gang (if b then a else nobody)
    go true e = refl
    go false e = sym (lowest_none gang)
at_offender Varying gang a f (Each x) = refl

-- a test that nothing passes
pub none_fails : (n : ℕ) (f : ℕ → Bool) (x : Map) → ((b : ℕ) → f b ≡ false) → lowest_failing n f x ≡ None
none_fails n f x never = ap (lowest n) (fun_ext (λ p. at (x p))) ∙ lowest_none n
  where
    at : (o : Option ℕ) → holds f o ≡ false
    at None = refl
    at (Some b) = never b

none_any : (n : ℕ) (a : Mask) → lowest n a ≡ None → any n a ≡ false
none_any zero a e = refl
none_any (suc n) a e = go (none_any n a) (lowest n a) (a n) refl refl e
  where
    go : (lowest n a ≡ None → any n a ≡ false) → (o : Option ℕ) (b : Bool) → lowest n a ≡ o → a n ≡ b → or_this o b n ≡ None → (any n a || a n) ≡ false
    go ih (Some p) b e1 e2 h = absurd (cc)
    go ih None true e1 e2 h = absurd (cc)
    go ih None false e1 e2 h = or_from (any n a) (a n) (ih e1) e2

-- a set that is not empty has a lowest member
pub some_lowest : (n : ℕ) (a : Mask) → any n a ≡ true → Some (or_zero (lowest n a)) ≡ lowest n a
some_lowest n a e = go (lowest n a) refl
  where
    go : (o : Option ℕ) → lowest n a ≡ o → Some (or_zero o) ≡ o
    go (Some p) h = refl
    go None h = let no : true ≡ false = sym e ∙ none_any n a h in absurd (cc)

-- ---- what a write of a value at a rate leaves

-- one value, or one in exactly the members of the set
abbrev pub Filled : Rate → Mask → Payload → Type 0
Filled Uniform a x = One (sole x) ≡ x
Filled Varying a x = (old : Lanes) → Each (on a (over (spread nobody x) old)) ≡ x

pub filled_on : (a : Mask) (x old : Lanes) → on a (over (on a x) old) ≡ on a x
filled_on a x old = fun_ext (λ p. at (a p) p)
  where
    at : (b : Bool) (p : ℕ) → (if b then Some (or_old (if b then Some (x p) else None) (old p)) else None) ≡ (if b then Some (x p) else None)
    at true p = refl
    at false p = refl

-- bits that each lane of the gang has, in members of it
pub on_everywhere : (gang b : ℕ) (a : Mask) → ((p : ℕ) → a p ≡ true → p < gang) → on a (everywhere gang b) ≡ on a (λ p. b)
on_everywhere gang b a inside = fun_ext (λ p. at (a p) p (inside p))
  where
    at : (z : Bool) (p : ℕ) → (z ≡ true → p < gang) → (if z then Some (everywhere gang b p) else None) ≡ (if z then Some b else None)
    at true p h = ap (λ d. Some (or_old (if d then Some b else None) 0)) (lt-ltb p gang (h refl))
    at false p h = refl

pub filled_held : (r : Rate) (a : Mask) (sc : ℕ → ℕ) (ve : ℕ → Lanes) (d : ℕ) → Filled r a (held_at r sc ve a d)
filled_held Uniform a sc ve d = refl
filled_held Varying a sc ve d = λ old. ap Each (filled_on a (ve d) old)

pub filled_mapped : (r : Rate) (a : Mask) (f : ℕ → ℕ) (sc : ℕ → ℕ) (ve : ℕ → Lanes) (d : ℕ) → Filled r a (mapped f (held_at r sc ve a d))
filled_mapped Uniform a f sc ve d = refl
filled_mapped Varying a f sc ve d = λ old. subst (λ m. Each (on a (over m old)) ≡ Each m) (on_map1 a f (ve d)) (ap Each (filled_on a (λ p. f (ve d p)) old))

pub filled_joined : (r : Rate) (a : Mask) (f : ℕ → ℕ → ℕ) (sc : ℕ → ℕ) (ve : ℕ → Lanes) (d e : ℕ) → Filled r a (joined f a (held_at r sc ve a d) (held_at r sc ve a e))
filled_joined Uniform a f sc ve d e = refl
filled_joined Varying a f sc ve d e = λ old. subst (λ m. Each (on a (over m old)) ≡ Each m) (on_map2 a f (ve d) (ve e)) (ap Each (filled_on a (λ p. f (ve d p) (ve e p)) old))

-- ---- tests of what an operator gives, and members that pass none

pub offender_mapped : (gang : ℕ) (a : Mask) (f g : ℕ → Bool) (h : ℕ → ℕ) (x : Payload) → ((b : ℕ) → f (h b) ≡ g b) → offender gang f a (mapped h x) ≡ offender gang g a x
offender_mapped gang a f g h (One x) e = ap (if_fails gang f a) (e x)
offender_mapped gang a f g h (Each x) e = ap (lowest gang) (fun_ext (λ p. at (x p)))
  where
    at : (o : Option ℕ) → holds f (each1 h o) ≡ holds g o
    at None = refl
    at (Some b) = e b

pub lowest_below : (n : ℕ) (a : Mask) → lowest n a ≡ None → (p : ℕ) → p < n → a p ≡ false
lowest_below zero a e p lt = absurd (omega arith)
lowest_below (suc n) a e p lt = go (lowest_below n a) (lowest n a) (a n) refl refl e (split_at p n)
  where
    go : (lowest n a ≡ None → (p : ℕ) → p < n → a p ≡ false) → (o : Option ℕ) (b : Bool) → lowest n a ≡ o → a n ≡ b → or_this o b n ≡ None → (p < n) ⊎ (n ≤ p) → a p ≡ false
    go ih (Some z) b e1 e2 h d = absurd (cc)
    go ih None true e1 e2 h d = absurd (cc)
    go ih None false e1 e2 h (inl l) = ih e1 p l
    go ih None false e1 e2 h (inr l) = let same : n ≡ p = omega arith in subst (λ z. a z ≡ false) same e2
