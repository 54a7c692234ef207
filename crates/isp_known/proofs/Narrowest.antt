-- The narrowest expression around a byte, note by note.
use Rattle.std.proofs.Common.{◌≡◌, ℕ, ◌+◌, ◌<◌, ◌≤◌, Bool, true, false, cond, refl, List, [], ◌∷◌, ◌++◌, Option, Some, None, Contains, IfNone, IfSome, length, take, get_or, sym, subst, arith}
use Rattle.std.specs.Prelude.{◌&&◌}
use Rattle.std.specs.List.{All}
use Rattle.std.proofs.lemmas.Bool.{ltb-true, ltb-false}
use Rattle.std.proofs.lemmas.Bool.Decides.{nat_tests}
use Rattle.std.proofs.lemmas.List.Elements.{All-contains, All-push, All-weaker, Contains-append_left, Contains-append_right}
use Rattle.std.proofs.lemmas.List.{take_more}
use Rattle.isp_base.specs.declared.types.Span.{Span}
use Rattle.isp_base.specs.declared.types.Ty.{Ty}
use Rattle.isp_known.specs.declared.note.Note.{Note}
use Rattle.isp_known.specs.declared.note.Note.TheVariants.{Value, Declared, Used, Index, Loaded}
use Rattle.isp_known.specs.declared.place.Valued.{Valued}
use Rattle.isp_known.specs.Places.{IsAround, IsNarrowest, width}
use Rattle.isp_known.specs.reader.Finding.{covers, is_narrower, next_best}

-- a note of no expression around the byte; of none that is narrower
abbrev pub Outside : ℕ → Note → Type 0
Outside at (Value s t) = covers at s ≡ false
Outside at (Declared k x) = Unit {0}
Outside at (Used k x) = Unit {0}
Outside at (Index k x) = Unit {0}
Outside at (Loaded k x) = Unit {0}

abbrev pub NotNarrower : ℕ → Span → Note → Type 0
NotNarrower at v (Value s t) = covers at s ≡ true → width v ≤ width s
NotNarrower at v (Declared k x) = Unit {0}
NotNarrower at v (Used k x) = Unit {0}
NotNarrower at v (Index k x) = Unit {0}
NotNarrower at v (Loaded k x) = Unit {0}

-- the best of some notes
abbrev pub Best : ℕ → List Note → Option Valued → Type 0
Best at ns None = All (Outside at) ns
Best at ns (Some v) = Contains ns (Value v.span v.ty) × (covers at v.span ≡ true) × All (NotNarrower at v.span) ns

last_in : (ns : List Note) (n : Note) → Contains (ns ++ n ∷ []) n
last_in ns n = Contains-append_right ns (n ∷ []) n (0, omega arith, refl)

from_outside : (at : ℕ) (v : Span) (n : Note) → Outside at n → NotNarrower at v n
from_outside at v (Value s t) e = λ g. cc (e, g)
from_outside at v (Declared k x) e = tt
from_outside at v (Used k x) e = tt
from_outside at v (Index k x) e = tt
from_outside at v (Loaded k x) e = tt

narrower_still : (at : ℕ) (v w : Span) → width w < width v → (n : Note) → NotNarrower at v n → NotNarrower at w n
narrower_still at v w l (Value s t) h = λ g. let m = h g in omega (arith, l, m)
narrower_still at v w l (Declared k x) h = tt
narrower_still at v w l (Used k x) h = tt
narrower_still at v w l (Index k x) h = tt
narrower_still at v w l (Loaded k x) h = tt

-- an expression around the byte, where it is narrower and where it is not
as_narrow : (at : ℕ) (ns : List Note) (s : Span) (t : Ty) → covers at s ≡ true → (best : Option Valued) (b : Bool) → is_narrower s best ≡ b → Best at ns best
    → Best at (ns ++ Value s t ∷ []) (cond b (Some (record { span = s; ty = t })) best)
as_narrow at ns s t c None false e h = cc
as_narrow at ns s t c None true e h =
    (last_in ns (Value s t), c, All-push (NotNarrower at s) ns (Value s t) (All-weaker (Outside at) (NotNarrower at s) (from_outside at s) ns h) (λ g. omega arith))
as_narrow at ns s t c (Some v) true e h =
    let l : width s < width v.span = ltb-true (width s) (width v.span) e in
    (last_in ns (Value s t), c, All-push (NotNarrower at s) ns (Value s t) (All-weaker (NotNarrower at v.span) (NotNarrower at s) (narrower_still at v.span s l) ns h.2) (λ g. omega arith))
as_narrow at ns s t c (Some v) false e h =
    let l : width v.span ≤ width s = ltb-false (width s) (width v.span) e in
    (Contains-append_left ns (Value s t ∷ []) (Value v.span v.ty) h.0, h.1, All-push (NotNarrower at v.span) ns (Value s t) h.2 (λ g. l))

around : (at : ℕ) (ns : List Note) (s : Span) (t : Ty) (c : Bool) → covers at s ≡ c → (best : Option Valued) → Best at ns best
    → Best at (ns ++ Value s t ∷ []) (cond (c && is_narrower s best) (Some (record { span = s; ty = t })) best)
around at ns s t true e best h = as_narrow at ns s t e best (is_narrower s best) refl h
around at ns s t false e None h = All-push (Outside at) ns (Value s t) h e
around at ns s t false e (Some v) h =
    (Contains-append_left ns (Value s t ∷ []) (Value v.span v.ty) h.0, h.1, All-push (NotNarrower at v.span) ns (Value s t) h.2 (λ g. cc (e, g)))

beside : (at : ℕ) (ns : List Note) (n : Note) → Outside at n → (best : Option Valued) → Best at ns best → Best at (ns ++ n ∷ []) best
beside at ns n e None h = All-push (Outside at) ns n h e
beside at ns n e (Some v) h = (Contains-append_left ns (n ∷ []) (Value v.span v.ty) h.0, h.1, All-push (NotNarrower at v.span) ns n h.2 (from_outside at v.span n e))

pub best_more : (at : ℕ) (ns : List Note) (n : Note) (best : Option Valued) → Best at ns best → Best at (ns ++ n ∷ []) (next_best at n best)
best_more at ns (Value s t) best h = around at ns s t (covers at s) refl best h
best_more at ns (Declared k x) best h = beside at ns (Declared k x) tt best h
best_more at ns (Used k x) best h = beside at ns (Used k x) tt best h
best_more at ns (Index k x) best h = beside at ns (Index k x) tt best h
best_more at ns (Loaded k x) best h = beside at ns (Loaded k x) tt best h

-- ---- what the best of all notes is

covers_around : (at : ℕ) (s : Span) → s.start ≤ at → at < s.end → covers at s ≡ true
covers_around at s a b = grind (arith, nat_tests)

pub best_is : (at : ℕ) (ns : List Note) (v : Valued) → Best at ns (Some v) → IsNarrowest ns at v
best_is at ns v h = record {
  around = record { noted = h.0; from = grind (arith, nat_tests, h.1); to = grind (arith, nat_tests, h.1) };
  narrowest = λ w a. All-contains (NotNarrower at v.span) ns (Value w.span w.ty) h.2 a.noted (covers_around at w.span a.from a.to);
}

pub none_around : (at : ℕ) (ns : List Note) → Best at ns None → (v : Valued) → IsAround ns at v → ⊥
none_around at ns h v a = let e = covers_around at v.span a.from a.to in cc (e, All-contains (Outside at) ns (Value v.span v.ty) h a.noted)

pub best_step : (at : ℕ) (ns : List Note) (i : ℕ) (d : Note) (best next : Option Valued) → i < length ns → next ≡ next_best at (get_or ns i d) best → Best at (take i ns) best → Best at (take (i + 1) ns) next
best_step at ns i d best next h e k =
    subst (λ (b : Option Valued). Best at (take (i + 1) ns) b) (sym e)
    (subst (λ (z : List Note). Best at z (next_best at (get_or ns i d) best)) (sym (take_more ns i d h)) (best_more at (take i ns) (get_or ns i d) best k))

pub no_best : (at : ℕ) (ns : List Note) (best : Option Valued) → Best at ns best → IfNone best ((v : Valued) → ¬ (IsAround ns at v))
no_best at ns None h = none_around at ns h
no_best at ns (Some v) h = tt

pub some_best : (at : ℕ) (ns : List Note) (best : Option Valued) → Best at ns best → IfSome best (IsNarrowest ns at)
some_best at ns None h = tt
some_best at ns (Some v) h = best_is at ns v h
