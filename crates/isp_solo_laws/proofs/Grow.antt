-- What an instance touched stays touched: what it read stays read, and where it stored it has stored. Here for what goes on
-- from one step to the next.
use Rattle.std.proofs.Common.{ℕ, zero, suc, Bool, true, false}
use Rattle.isp_base.specs.declared.trap.Trap.{Trap}
use Rattle.isp_base.specs.declared.trap.TrapKind.{TrapKind}
use Rattle.isp_base.specs.declared.types.Span.{Span}
use Rattle.isp_solo_meaning.specs.Alone.{Alone}
use Rattle.isp_solo_meaning.specs.Answers.{Answer, Has, Bad, Long, reached, How, Going, Broke, Continued, Returned, End, Does, Dies, Lasts, and_then, with_answer, unless, choose, then_on, then_always, Done}
use Rattle.isp_solo_meaning.specs.Loops.{tested, stepped, turned, turns}
use Rattle.isp_meaning.specs.Payloads.{is_true}
use Rattle.isp_solo_laws.specs.Stands.{Within, Up, left_at}

pub stays : (s : Alone) → Within s s
stays s = record { read = λ b e h. h; wrote = λ b e h. h }

pub within_then : (s t u : Alone) → Within t s → Within u t → Within u s
within_then s t u x y = record { read = λ b e h. y.read b e (x.read b e h); wrote = λ b e h. y.wrote b e (x.wrote b e h) }

-- what follows takes nothing back either
pub up_by : {R S : Type 0} (at : R → Alone) (to : S → Alone) (f : Alone → R) (h : Alone → R → S) → Up at f → ((s : Alone) (r : R) → Within (to (h s r)) (at r)) → Up to (λ s. h s (f s))
up_by at to f h x up = record { more = λ s. within_then s (at (f s)) (to (h s (f s))) (x.more s) (up s (f s)) }

pub up_from : {R : Type 0} (at : R → Alone) (f : Alone → R) (h : Alone → Alone) → ((s : Alone) → Within (h s) s) → Up at f → Up at (λ s. f (h s))
up_from at f h up x = record { more = λ s. within_then s (h s) (at (f (h s))) (up s) (x.more (h s)) }

pub up_choose : {R : Type 0} (at : R → Alone) (t : Bool) (f g : Alone → R) → Up at f → Up at g → Up at (choose t f g)
up_choose at true f g x y = x
up_choose at false f g x y = y

-- ---- answers

pub up_then : {A B : Type 0} (f : Alone → Answer A) (g : A → Alone → Answer B) → Up reached f → ((x : A) → Up reached (g x)) → Up reached (λ s. and_then (f s) g)
up_then {A} {B} f g x y = up_by reached reached f (λ s r. and_then r g) x (λ s r. up r) where
  up : (r : Answer A) → Within (reached (and_then r g)) (reached r)
  up (Has v t) = (y v).more t
  up (Bad t s) = stays s
  up (Long s) = stays s

pub up_has : {A : Type 0} (x : A) → Up reached (λ s. Has x s)
up_has x = record { more = λ s. stays s }

pub up_bad : {A : Type 0} (t : Trap) → Up {R = Answer A} reached (λ s. Bad t s)
up_bad t = record { more = λ s. stays s }

pub up_unless : {A : Type 0} (t : Bool) (kind : TrapKind) (place : Span) (p : ℕ) (x : A) → Up reached (λ s. unless t kind place p s x)
up_unless {A} true kind place p x = record { more = λ s. stays s }
up_unless {A} false kind place p x = record { more = λ s. stays s }

-- ---- statements

pub up_with : {A : Type 0} (f : Alone → Answer A) (g : A → Alone → End) → Up reached f → ((x : A) → Up left_at (g x)) → Up left_at (λ s. with_answer (f s) g)
up_with {A} f g x y = up_by reached left_at f (λ s r. with_answer r g) x (λ s r. up r) where
  up : (r : Answer A) → Within (left_at (with_answer r g)) (reached r)
  up (Has v t) = (y v).more t
  up (Bad t s) = stays s
  up (Long s) = stays s

pub up_does : (how : How) → Up left_at (λ s. Does s how)
up_does how = record { more = λ s. stays s }

pub up_on : (f g : Alone → End) → Up left_at f → Up left_at g → Up left_at (λ s. then_on (f s) g)
up_on f g x y = up_by left_at left_at f (λ s r. then_on r g) x (λ s r. up r) where
  up : (r : End) → Within (left_at (then_on r g)) (left_at r)
  up (Does s Going) = y.more s
  up (Does s Broke) = stays s
  up (Does s Continued) = stays s
  up (Does s Returned) = stays s
  up (Dies t s) = stays s
  up (Lasts s) = stays s

pub up_always : (f g : Alone → End) → Up left_at f → Up left_at g → Up left_at (λ s. then_always (f s) g)
up_always f g x y = up_by left_at left_at f (λ s r. then_always r g) x (λ s r. up r) where
  up : (r : End) → Within (left_at (then_always r g)) (left_at r)
  up (Does s how) = y.more s
  up (Dies t s) = stays s
  up (Lasts s) = stays s

-- ---- loops

module _ (test : Alone → Answer ℕ) (body : Alone → End) (step : Alone → Answer Done) (t : Up reached test) (b : Up left_at body) (e : Up reached step) where
  pub tested_up : (f : Alone → End) → Up left_at f → Up left_at (tested test body step f)
  tested_up f x = up_with test _ t (λ i. up_choose left_at (is_true i) _ _ x (up_does Going))

  pub stepped_up : (f : Alone → End) → Up left_at f → Up left_at (stepped test body step f)
  stepped_up f x = up_with step _ e (λ u. tested_up f x)

  pub turned_up : (f : Alone → End) → Up left_at f → Up left_at (λ s. turned test body step (body s) f)
  turned_up f x = up_by left_at left_at body (λ s r. turned test body step r f) b (λ s r. up r) where
    up : (r : End) → Within (left_at (turned test body step r f)) (left_at r)
    up (Does s Going) = x.more s
    up (Does s Broke) = stays s
    up (Does s Continued) = x.more s
    up (Does s Returned) = stays s
    up (Dies t s) = stays s
    up (Lasts s) = stays s

  pub turns_up : (n : ℕ) → Up left_at (turns test body step n)
  turns_up zero = record { more = λ s. stays s }
  turns_up (suc n) = turned_up (stepped test body step (turns test body step n)) (stepped_up _ (turns_up n))
