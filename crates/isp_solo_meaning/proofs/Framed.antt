-- Runs over arrays that agree where one of them reads: both do the same. Here for what goes on from one step to the next.
use Rattle.std.proofs.Common.{◌≡◌, ℕ, Bool, true, false, refl, ap, ◌∙◌}
use Rattle.isp_base.specs.declared.trap.Trap.{Trap}
use Rattle.isp_base.specs.declared.trap.TrapKind.{TrapKind}
use Rattle.isp_base.specs.declared.types.Span.{Span}
use Rattle.isp_solo_meaning.specs.Alone.{Alone}
use Rattle.isp_solo_meaning.specs.Answers.{Answer, Has, Bad, Long, reached, How, Going, Broke, Continued, Returned, End, Does, Dies, Lasts, and_then, with_answer, unless, choose, then_on, then_always}

abbrev pub left_at : End → Alone
left_at (Does s how) = s
left_at (Dies t s) = s
left_at (Lasts s) = s

-- what was read stays read
pub record Grows (s t : Alone) : Type 0 where
  pub read : (b e : ℕ) → s.read b e ≡ true → t.read b e ≡ true

pub stays : (s : Alone) → Grows s s
stays s = record { read = λ b e h. h }

pub grows_then : (s t u : Alone) → Grows s t → Grows t u → Grows s u
grows_then s t u x y = record { read = λ b e h. y.read b e (x.read b e h) }

module _ (m m2 : ℕ → ℕ → ℕ) where
  -- two arrays agree where a run has read
  pub record Agrees (s : Alone) : Type 0 where
    pub same : (b e : ℕ) → s.read b e ≡ true → m b e ≡ m2 b e

  pub agrees_before : (s t : Alone) → Grows s t → Agrees t → Agrees s
  agrees_before s t g a = record { same = λ b e h. a.same b e (g.read b e h) }

  -- f over the one, g over the other: g does the same where f read what is the same
  pub record Framed {R : Type 0} (at : R → Alone) (f g : Alone → R) : Type 0 where
    pub grows : (s : Alone) → Grows s (at (f s))
    pub same : (s : Alone) → Agrees (at (f s)) → g s ≡ f s

  pub framed_by : {R S : Type 0} (at : R → Alone) (to : S → Alone) (f g : Alone → R) (h k : Alone → R → S) → Framed at f g → ((s : Alone) (r : R) → Grows (at r) (to (h s r)))
      → ((s : Alone) (r : R) → Agrees (to (h s r)) → k s r ≡ h s r) → Framed to (λ s. h s (f s)) (λ s. k s (g s))
  framed_by at to f g h k x up is = record {
    grows = λ s. grows_then s (at (f s)) (to (h s (f s))) (x.grows s) (up s (f s));
    same = λ s a. ap (k s) (x.same s (agrees_before (at (f s)) (to (h s (f s))) (up s (f s)) a)) ∙ is s (f s) a;
  }

  -- from a state that was changed first
  pub framed_from : {R : Type 0} (at : R → Alone) (f g : Alone → R) (h : Alone → Alone) → ((s : Alone) → Grows s (h s)) → Framed at f g → Framed at (λ s. f (h s)) (λ s. g (h s))
  framed_from at f g h up x = record { grows = λ s. grows_then s (h s) (at (f (h s))) (up s) (x.grows (h s)); same = λ s a. x.same (h s) a }

  -- the same over both
  pub framed_same : {R : Type 0} (at : R → Alone) (f : Alone → R) → ((s : Alone) → Grows s (at (f s))) → Framed at f f
  framed_same at f up = record { grows = up; same = λ s a. refl }

  pub framed_choose : {R : Type 0} (at : R → Alone) (t : Bool) (f f2 g g2 : Alone → R) → Framed at f f2 → Framed at g g2 → Framed at (choose t f g) (choose t f2 g2)
  framed_choose at true f f2 g g2 x y = x
  framed_choose at false f f2 g g2 x y = y

  -- ---- answers

  pub framed_then : {A B : Type 0} (f f2 : Alone → Answer A) (g g2 : A → Alone → Answer B) → Framed reached f f2 → ((x : A) → Framed reached (g x) (g2 x))
      → Framed reached (λ s. and_then (f s) g) (λ s. and_then (f2 s) g2)
  framed_then {A} {B} f f2 g g2 x y = framed_by reached reached f f2 (λ s r. and_then r g) (λ s r. and_then r g2) x (λ s r. up r) (λ s r. is r) where
    up : (r : Answer A) → Grows (reached r) (reached (and_then r g))
    up (Has v t) = (y v).grows t
    up (Bad t s) = stays s
    up (Long s) = stays s

    is : (r : Answer A) → Agrees (reached (and_then r g)) → and_then r g2 ≡ and_then r g
    is (Has v t) a = (y v).same t a
    is (Bad t s) a = refl
    is (Long s) a = refl

  pub framed_has : {A : Type 0} (x : A) → Framed reached (λ s. Has x s) (λ s. Has x s)
  framed_has x = framed_same reached (λ s. Has x s) (λ s. stays s)

  pub framed_bad : {A : Type 0} (t : Trap) → Framed {R = Answer A} reached (λ s. Bad t s) (λ s. Bad t s)
  framed_bad t = framed_same reached (λ s. Bad t s) (λ s. stays s)

  pub framed_unless : {A : Type 0} (t : Bool) (kind : TrapKind) (place : Span) (p : ℕ) (x : A) → Framed reached (λ s. unless t kind place p s x) (λ s. unless t kind place p s x)
  framed_unless {A} true kind place p x = framed_same reached (λ s. unless true kind place p s x) (λ s. stays s)
  framed_unless {A} false kind place p x = framed_same reached (λ s. unless false kind place p s x) (λ s. stays s)

  -- ---- statements

  pub framed_with : {A : Type 0} (f f2 : Alone → Answer A) (g g2 : A → Alone → End) → Framed reached f f2 → ((x : A) → Framed left_at (g x) (g2 x))
      → Framed left_at (λ s. with_answer (f s) g) (λ s. with_answer (f2 s) g2)
  framed_with {A} f f2 g g2 x y = framed_by reached left_at f f2 (λ s r. with_answer r g) (λ s r. with_answer r g2) x (λ s r. up r) (λ s r. is r) where
    up : (r : Answer A) → Grows (reached r) (left_at (with_answer r g))
    up (Has v t) = (y v).grows t
    up (Bad t s) = stays s
    up (Long s) = stays s

    is : (r : Answer A) → Agrees (left_at (with_answer r g)) → with_answer r g2 ≡ with_answer r g
    is (Has v t) a = (y v).same t a
    is (Bad t s) a = refl
    is (Long s) a = refl

  pub framed_does : (how : How) → Framed left_at (λ s. Does s how) (λ s. Does s how)
  framed_does how = framed_same left_at (λ s. Does s how) (λ s. stays s)

  pub framed_on : (f f2 g g2 : Alone → End) → Framed left_at f f2 → Framed left_at g g2 → Framed left_at (λ s. then_on (f s) g) (λ s. then_on (f2 s) g2)
  framed_on f f2 g g2 x y = framed_by left_at left_at f f2 (λ s r. then_on r g) (λ s r. then_on r g2) x (λ s r. up r) (λ s r. is r) where
    up : (r : End) → Grows (left_at r) (left_at (then_on r g))
    up (Does s Going) = y.grows s
    up (Does s Broke) = stays s
    up (Does s Continued) = stays s
    up (Does s Returned) = stays s
    up (Dies t s) = stays s
    up (Lasts s) = stays s

    is : (r : End) → Agrees (left_at (then_on r g)) → then_on r g2 ≡ then_on r g
    is (Does s Going) a = y.same s a
    is (Does s Broke) a = refl
    is (Does s Continued) a = refl
    is (Does s Returned) a = refl
    is (Dies t s) a = refl
    is (Lasts s) a = refl

  pub framed_always : (f f2 g g2 : Alone → End) → Framed left_at f f2 → Framed left_at g g2 → Framed left_at (λ s. then_always (f s) g) (λ s. then_always (f2 s) g2)
  framed_always f f2 g g2 x y = framed_by left_at left_at f f2 (λ s r. then_always r g) (λ s r. then_always r g2) x (λ s r. up r) (λ s r. is r) where
    up : (r : End) → Grows (left_at r) (left_at (then_always r g))
    up (Does s how) = y.grows s
    up (Dies t s) = stays s
    up (Lasts s) = stays s

    is : (r : End) → Agrees (left_at (then_always r g)) → then_always r g2 ≡ then_always r g
    is (Does s how) a = y.same s a
    is (Dies t s) a = refl
    is (Lasts s) a = refl
