-- A run beside one with more turns: here for what goes on from one step to the next.
use Rattle.std.proofs.Common.{◌≡◌, ℕ, Bool, true, false, refl}
use Rattle.isp_base.specs.declared.trap.Trap.{Trap}
use Rattle.isp_base.specs.declared.trap.TrapKind.{TrapKind}
use Rattle.isp_base.specs.declared.types.Span.{Span}
use Rattle.isp_base.specs.Traps.{trap}
use Rattle.isp_solo_meaning.specs.Alone.{Alone}
use Rattle.isp_solo_meaning.specs.Answers.{Answer, Has, Bad, Long, reached, How, Going, Broke, Continued, Returned, End, Does, Dies, Lasts, and_then, with_answer, unless, choose, then_on, then_always}
use Rattle.isp_solo_meaning.specs.Longer.{Within, Later, Names}
use Rattle.isp_solo_meaning.proofs.Framed.{left_at}

pub stays : (s : Alone) → Within s s
stays s = record { read = λ b e h. h; wrote = λ b e h. h }

pub within_then : (s t u : Alone) → Within s t → Within t u → Within s u
within_then s t u x y = record { read = λ b e h. y.read b e (x.read b e h); wrote = λ b e h. y.wrote b e (x.wrote b e h) }

-- the same of statements
abbrev pub LaterEnd : End → End → Type 0
LaterEnd (Does s how) r = r ≡ Does s how
LaterEnd (Dies t s) r = r ≡ Dies t s
LaterEnd (Lasts s) r = Within s (left_at r)

abbrev pub NamesEnd : ℕ → End → Type 0
NamesEnd p (Does s how) = Unit {0}
NamesEnd p (Dies t s) = t.instance ≡ p
NamesEnd p (Lasts s) = Unit {0}

-- g is f with more turns: it touches more and more, it comes later, and its traps name p
pub record Beside {A : Type 0} (p : ℕ) (f g : Alone → Answer A) : Type 0 where
  pub grows : (s : Alone) → Within s (reached (g s))
  pub later : (s : Alone) → Later (f s) (g s)
  pub names : (s : Alone) → Names p (g s)

pub record BesideEnd (p : ℕ) (f g : Alone → End) : Type 0 where
  pub grows : (s : Alone) → Within s (left_at (g s))
  pub later : (s : Alone) → LaterEnd (f s) (g s)
  pub names : (s : Alone) → NamesEnd p (g s)

later_same : {A : Type 0} (r : Answer A) → Later r r
later_same (Has x s) = refl
later_same (Bad t s) = refl
later_same (Long s) = stays s

module _ (p : ℕ) where
  -- ---- answers

  pub beside_has : {A : Type 0} (x : A) → Beside p (λ s. Has x s) (λ s. Has x s)
  beside_has x = record { grows = λ s. stays s; later = λ s. refl; names = λ s. tt }

  -- a value, in a state that was changed
  pub beside_changed : {A : Type 0} (x : A) (h : Alone → Alone) → ((s : Alone) → Within s (h s)) → Beside p (λ s. Has x (h s)) (λ s. Has x (h s))
  beside_changed x h up = record { grows = up; later = λ s. refl; names = λ s. tt }

  pub beside_trap : {A : Type 0} (kind : TrapKind) (place : Span) → Beside {A = A} p (λ s. Bad (trap kind place p) s) (λ s. Bad (trap kind place p) s)
  beside_trap kind place = record { grows = λ s. stays s; later = λ s. refl; names = λ s. refl }

  pub beside_unless : {A : Type 0} (t : Bool) (kind : TrapKind) (place : Span) (x : A) → Beside p (λ s. unless t kind place p s x) (λ s. unless t kind place p s x)
  beside_unless {A} true kind place x = beside_trap {A = A} kind place
  beside_unless {A} false kind place x = beside_has x

  pub beside_choose : {A : Type 0} (t : Bool) (f f2 g g2 : Alone → Answer A) → Beside p f f2 → Beside p g g2 → Beside p (choose t f g) (choose t f2 g2)
  beside_choose true f f2 g g2 x y = x
  beside_choose false f f2 g g2 x y = y

  pub beside_then : {A B : Type 0} (f f2 : Alone → Answer A) (g g2 : A → Alone → Answer B) → Beside p f f2 → ((x : A) → Beside p (g x) (g2 x))
      → Beside p (λ s. and_then (f s) g) (λ s. and_then (f2 s) g2)
  beside_then {A} {B} f f2 g g2 x y = record {
    grows = λ s. up s (f2 s) (x.grows s);
    later = λ s. on (f s) (f2 s) (x.later s);
    names = λ s. called (f2 s) (x.names s);
  } where
    up : (s : Alone) (r : Answer A) → Within s (reached r) → Within s (reached (and_then r g2))
    up s (Has v t) h = within_then s t (reached (g2 v t)) h ((y v).grows t)
    up s (Bad u t) h = h
    up s (Long t) h = h

    on : (r r2 : Answer A) → Later r r2 → Later (and_then r g) (and_then r2 g2)
    on (Has v t) r2 e = rw e ((y v).later t)
    on (Bad u t) r2 e = rw e refl
    on (Long t) r2 h = up t r2 h

    called : (r : Answer A) → Names p r → Names p (and_then r g2)
    called (Has v t) h = (y v).names t
    called (Bad u t) h = h
    called (Long t) h = h

  -- ---- statements

  pub beside_does : (how : How) → BesideEnd p (λ s. Does s how) (λ s. Does s how)
  beside_does how = record { grows = λ s. stays s; later = λ s. refl; names = λ s. tt }

  -- cut at once, whatever one with more turns does
  pub beside_cut : (f g : Alone → End) → BesideEnd p f g → BesideEnd p (λ s. Lasts s) g
  beside_cut f g x = record { grows = x.grows; later = x.grows; names = x.names }

  -- from a state that was changed first
  pub beside_from : (f g : Alone → End) (h : Alone → Alone) → ((s : Alone) → Within s (h s)) → BesideEnd p f g → BesideEnd p (λ s. f (h s)) (λ s. g (h s))
  beside_from f g h up x = record {
    grows = λ s. within_then s (h s) (left_at (g (h s))) (up s) (x.grows (h s));
    later = λ s. x.later (h s);
    names = λ s. x.names (h s);
  }

  pub beside_either : (t : Bool) (f f2 g g2 : Alone → End) → BesideEnd p f f2 → BesideEnd p g g2 → BesideEnd p (choose t f g) (choose t f2 g2)
  beside_either true f f2 g g2 x y = x
  beside_either false f f2 g g2 x y = y

  pub beside_with : {A : Type 0} (f f2 : Alone → Answer A) (g g2 : A → Alone → End) → Beside p f f2 → ((x : A) → BesideEnd p (g x) (g2 x))
      → BesideEnd p (λ s. with_answer (f s) g) (λ s. with_answer (f2 s) g2)
  beside_with {A} f f2 g g2 x y = record {
    grows = λ s. up s (f2 s) (x.grows s);
    later = λ s. on (f s) (f2 s) (x.later s);
    names = λ s. called (f2 s) (x.names s);
  } where
    up : (s : Alone) (r : Answer A) → Within s (reached r) → Within s (left_at (with_answer r g2))
    up s (Has v t) h = within_then s t (left_at (g2 v t)) h ((y v).grows t)
    up s (Bad u t) h = h
    up s (Long t) h = h

    on : (r r2 : Answer A) → Later r r2 → LaterEnd (with_answer r g) (with_answer r2 g2)
    on (Has v t) r2 e = rw e ((y v).later t)
    on (Bad u t) r2 e = rw e refl
    on (Long t) r2 h = up t r2 h

    called : (r : Answer A) → Names p r → NamesEnd p (with_answer r g2)
    called (Has v t) h = (y v).names t
    called (Bad u t) h = h
    called (Long t) h = h

  -- on from where a statement was left, as `next` says for each way
  pub beside_by : (f f2 : Alone → End) (next next2 : End → End) → BesideEnd p f f2
      → ((s : Alone) (how : How) → Within s (left_at (next2 (Does s how))))
      → ((s : Alone) (how : How) → LaterEnd (next (Does s how)) (next2 (Does s how)))
      → ((s : Alone) (how : How) → NamesEnd p (next2 (Does s how)))
      → ((t : Trap) (s : Alone) → next (Dies t s) ≡ Dies t s) → ((t : Trap) (s : Alone) → next2 (Dies t s) ≡ Dies t s)
      → ((s : Alone) → next (Lasts s) ≡ Lasts s) → ((s : Alone) → next2 (Lasts s) ≡ Lasts s)
      → BesideEnd p (λ s. next (f s)) (λ s. next2 (f2 s))
  beside_by f f2 next next2 x grows later names dies dies2 lasts lasts2 = record {
    grows = λ s. up s (f2 s) (x.grows s);
    later = λ s. on (f s) (f2 s) (x.later s);
    names = λ s. called (f2 s) (x.names s);
  } where
    up : (s : Alone) (r : End) → Within s (left_at r) → Within s (left_at (next2 r))
    up s (Does t how) h = within_then s t (left_at (next2 (Does t how))) h (grows t how)
    up s (Dies u t) h = rw (dies2 u t) h
    up s (Lasts t) h = rw (lasts2 t) h

    on : (r r2 : End) → LaterEnd r r2 → LaterEnd (next r) (next2 r2)
    on (Does t how) r2 e = rw e (later t how)
    on (Dies u t) r2 e = rw (e, dies u t, dies2 u t) refl
    on (Lasts t) r2 h = rw (lasts t) (up t r2 h)

    called : (r : End) → NamesEnd p r → NamesEnd p (next2 r)
    called (Does t how) h = names t how
    called (Dies u t) h = rw (dies2 u t) h
    called (Lasts t) h = rw (lasts2 t) tt

  pub beside_on : (f f2 g g2 : Alone → End) → BesideEnd p f f2 → BesideEnd p g g2 → BesideEnd p (λ s. then_on (f s) g) (λ s. then_on (f2 s) g2)
  beside_on f f2 g g2 x y = beside_by f f2 (λ r. then_on r g) (λ r. then_on r g2) x up on called (λ t s. refl) (λ t s. refl) (λ s. refl) (λ s. refl) where
    up : (s : Alone) (how : How) → Within s (left_at (then_on (Does s how) g2))
    up s Going = y.grows s
    up s Broke = stays s
    up s Continued = stays s
    up s Returned = stays s

    on : (s : Alone) (how : How) → LaterEnd (then_on (Does s how) g) (then_on (Does s how) g2)
    on s Going = y.later s
    on s Broke = refl
    on s Continued = refl
    on s Returned = refl

    called : (s : Alone) (how : How) → NamesEnd p (then_on (Does s how) g2)
    called s Going = y.names s
    called s Broke = tt
    called s Continued = tt
    called s Returned = tt

  pub beside_always : (f f2 g g2 : Alone → End) → BesideEnd p f f2 → BesideEnd p g g2 → BesideEnd p (λ s. then_always (f s) g) (λ s. then_always (f2 s) g2)
  beside_always f f2 g g2 x y =
      beside_by f f2 (λ r. then_always r g) (λ r. then_always r g2) x (λ s how. y.grows s) (λ s how. y.later s) (λ s how. y.names s) (λ t s. refl) (λ t s. refl) (λ s. refl) (λ s. refl)
