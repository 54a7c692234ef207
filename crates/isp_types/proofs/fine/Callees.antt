-- What a call's name means, and what it asks, for calls that fit.
use Rattle.std.proofs.Common.{◌≡◌, ℕ, suc, ◌+◌, Bool, true, false, cond, refl, subst, arith}
use Rattle.std.specs.Prelude.{Option, Some, None, List, [], ◌∷◌, length, map, find, bytes_eq, option_map, slice_get, ◌==◌, ◌&&◌, if◌then◌else◌, Result}
use Rattle.std.specs.Option.{option_or}
use Rattle.std.specs.List.{list_all}
use Rattle.std.proofs.lemmas.Bool.{eqb-true}
use Rattle.isp_base.specs.declared.types.Ty.{Ty}
use Rattle.isp_typed.specs.declared.library.Library.TheVariants as the
use Rattle.isp_typed.specs.declared.variable.Holds.TheVariants as holds
use Rattle.isp_typed.specs.declared.variable.Variable.{Variable}
use Rattle.isp_typed.specs.Library.{parts}
use Rattle.isp_typed.specs.Typed.{TFunction}
use Rattle.isp_typed.specs.Fine.{params_of}
use Rattle.isp_exprs.specs.declared.callee.Callee.{Callee}
use Rattle.isp_exprs.specs.declared.callee.Callee.TheVariants.{Unknown, Miscounted, Function, Library as OfLibrary, PackedStore, PackedLoad}
use Rattle.isp_exprs.specs.declared.callee.Want.{Want}
use Rattle.isp_exprs.specs.declared.callee.Want.TheVariants.{AnyValue, ValueOf, ArrayOf, Base, Destination, NoReference, Anything}
use Rattle.isp_exprs.specs.Callees.{Heading, cross_library, move_library, instance_library, library_named, by_count, library_wants, is_packed, counted, function_from, of_function, of_library, callee}

-- what is asked for a parameter, by what it holds
abbrev pub IsWant : Want → Variable → Type 0
IsWant (ValueOf e) v = (t : Ty) × (v.holds ≡ holds.Value t) × (t.elem ≡ e)
IsWant (ArrayOf e c) v = (v.holds ≡ holds.Given e) × (v.constant ≡ c)
IsWant AnyValue v = ⊥
IsWant (Base stored) v = ⊥
IsWant Destination v = ⊥
IsWant NoReference v = ⊥
IsWant Anything v = ⊥

abbrev pub AreWants : List Want → List Variable → Type 0
AreWants [] [] = Unit {0}
AreWants [] (v ∷ vs) = ⊥
AreWants (w ∷ ws) [] = ⊥
AreWants (w ∷ ws) (v ∷ vs) = IsWant w v × AreWants ws vs

-- each function, as callers see it, is the one of its number
abbrev pub Headed : List Heading → List TFunction → Type 0
Headed hs gs = (k : ℕ) (h : Heading) (t : Option Ty) → slice_get hs k ≡ Some h → h.answer ≡ Result.Ok t
    → (g : TFunction) × (slice_get gs k ≡ Some g) × (g.answer ≡ t) × AreWants h.wants (params_of g)

-- what a name calls, and what it asks of so many arguments
abbrev pub Fits : List Heading → ℕ → Callee → List Want → Type 0
Fits hs n (Function k r) ws = (h : Heading) × (slice_get hs k ≡ Some h) × (h.answer ≡ r) × (ws ≡ h.wants) × (length ws ≡ n)
Fits hs n (OfLibrary f) ws = (ws ≡ map (λ p. AnyValue) (parts f)) × (length ws ≡ n)
Fits hs n PackedStore ws = (ws ≡ Base true ∷ AnyValue ∷ []) × (length ws ≡ n)
Fits hs n PackedLoad ws = (ws ≡ Base false ∷ Destination ∷ []) × (length ws ≡ n)
Fits hs n Unknown ws = Unit {0}
Fits hs n (Miscounted packed) ws = Unit {0}

-- ---- the library

pub and_true : (a b : Bool) → (a && b) ≡ true → (a ≡ true) × (b ≡ true)
and_true true b e = (refl, e)
and_true false b e = absurd (no e)
  where
    no : false ≡ true → ⊥
    no e = cc

abbrev is_library : Callee → Bool
is_library (OfLibrary f) = true
is_library PackedStore = true
is_library PackedLoad = true
is_library c = false

found_one : (p : List ℕ × Callee → Bool) (es : List (List ℕ × Callee)) → list_all (λ e. is_library e.1) es ≡ true
    → (c : Callee) → option_map (λ (e : List ℕ × Callee). e.1) (find p es) ≡ Some c → is_library c ≡ true
found_one p [] a c e = absurd (no e)
  where
    no : {A : Type 0} {x : A} → None ≡ Some x → ⊥
    no e = cc
found_one p (x ∷ es) a c e = go (λ f. found_one p es (and_true (is_library x.1) (list_all (λ e. is_library e.1) es) a).1 c f) (p x) e
  where
    some_is : (y z : Callee) → Some y ≡ Some z → y ≡ z
    some_is y z e = cc

    go : (option_map (λ (e : List ℕ × Callee). e.1) (find p es) ≡ Some c → is_library c ≡ true)
        → (t : Bool) → option_map (λ (e : List ℕ × Callee). e.1) (cond t (Some x) (find p es)) ≡ Some c → is_library c ≡ true
    go later true e = subst (λ z. is_library z ≡ true) (some_is x.1 c e) (and_true (is_library x.1) (list_all (λ e. is_library e.1) es) a).0
    go later false e = later e

either_one : (o p : Option Callee) (c : Callee) → (o ≡ Some c → is_library c ≡ true) → (p ≡ Some c → is_library c ≡ true) → option_or o p ≡ Some c → is_library c ≡ true
either_one (Some a) p c f g e = f e
either_one None p c f g e = g e

library_is : (w : List ℕ) (c : Callee) → library_named w ≡ Some c → is_library c ≡ true
library_is w c = either_one _ _ c (found_one (λ e. bytes_eq e.0 w) cross_library refl c)
    (either_one _ _ c (found_one (λ e. bytes_eq e.0 w) move_library refl c) (found_one (λ e. bytes_eq e.0 w) instance_library refl c))

library_fits : (hs : List Heading) (n : ℕ) (c : Callee) → is_library c ≡ true → (length (library_wants c) ≡ n) → Fits hs n c (library_wants c)
library_fits hs n (OfLibrary f) l e = (refl, e)
library_fits hs n PackedStore l e = (refl, e)
library_fits hs n PackedLoad l e = (refl, e)
library_fits hs n (Function k r) l e = absurd (no l)
  where
    no : false ≡ true → ⊥
    no e = cc
library_fits hs n Unknown l e = tt
library_fits hs n (Miscounted packed) l e = tt

abbrev counted_if : Bool → Callee → List Want → Callee × List Want
counted_if t c ws = if t then (c, ws) else (Miscounted (is_packed c), [])

counted_fits : (hs : List Heading) (n : ℕ) (c : Callee) (ws : List Want) → (length ws ≡ n → Fits hs n c ws) → Fits hs n (counted n c ws).0 (counted n c ws).1
counted_fits hs n c ws f = go (length ws == n) (λ e. f (eqb-true (length ws) n e))
  where
    go : (t : Bool) → (t ≡ true → Fits hs n c ws) → Fits hs n (counted_if t c ws).0 (counted_if t c ws).1
    go true d = d refl
    go false d = tt

by_count_is : (n : ℕ) (c : Callee) → is_library c ≡ true → is_library (by_count n c) ≡ true
by_count_is n (OfLibrary the.Shuffle) e = go (n == 3)
  where
    go : (t : Bool) → is_library (if t then OfLibrary the.ShuffleTwo else OfLibrary the.Shuffle) ≡ true
    go true = refl
    go false = refl
by_count_is n (OfLibrary f) e = refl
by_count_is n c e = e

of_library_fits : (hs : List Heading) (n : ℕ) (c : Callee) → is_library c ≡ true → Fits hs n (of_library n c).0 (of_library n c).1
of_library_fits hs n c e = counted_fits hs n (by_count n c) (library_wants (by_count n c)) (library_fits hs n (by_count n c) (by_count_is n c e))

-- ---- functions

abbrev IsAt : List Heading → ℕ → List Heading → Type 0
IsAt all k hs = (i : ℕ) (h : Heading) → slice_get hs i ≡ Some h → slice_get all (k + i) ≡ Some h

function_found : (all : List Heading) (w : List ℕ) (k : ℕ) (hs : List Heading) → IsAt all k hs → (f : ℕ × Heading) → function_from w k hs ≡ Some f → slice_get all f.0 ≡ Some f.1
function_found all w k [] a f e = absurd (no e)
  where
    no : {A : Type 0} {x : A} → None ≡ Some x → ⊥
    no e = cc
function_found all w k (h ∷ hs) a f e = go (λ g. function_found all w (suc k) hs (λ i x g. subst (λ z. slice_get all z ≡ Some x) (omega arith) (a (suc i) x g)) f g) (bytes_eq h.name w) e
  where
    some_is : (y z : ℕ × Heading) → Some y ≡ Some z → y ≡ z
    some_is y z e = cc

    here : slice_get all k ≡ Some h
    here = subst (λ z. slice_get all z ≡ Some h) (omega arith) (a 0 h refl)

    go : (function_from w (suc k) hs ≡ Some f → slice_get all f.0 ≡ Some f.1) → (t : Bool) → (if t then Some (k, h) else function_from w (suc k) hs) ≡ Some f → slice_get all f.0 ≡ Some f.1
    go later true e = subst (λ (z : ℕ × Heading). slice_get all z.0 ≡ Some z.1) (some_is (k, h) f e) here
    go later false e = later e

of_function_fits : (hs : List Heading) (n : ℕ) (o : Option (ℕ × Heading)) → ((f : ℕ × Heading) → o ≡ Some f → slice_get hs f.0 ≡ Some f.1) → Fits hs n (of_function n o).0 (of_function n o).1
of_function_fits hs n None a = tt
of_function_fits hs n (Some f) a = counted_fits hs n (Function f.0 f.1.answer) f.1.wants (λ l. (f.1, a f refl, refl, refl, l))

pub callee_fits : (hs : List Heading) (w : List ℕ) (n : ℕ) → Fits hs n (callee hs w n).0 (callee hs w n).1
callee_fits hs w n = go (library_named w) refl
  where
    go : (o : Option Callee) → library_named w ≡ o → Fits hs n (callee hs w n).0 (callee hs w n).1
    go (Some c) e = rw e (of_library_fits hs n c (library_is w c e))
    go None e = rw e (of_function_fits hs n (function_from w 0 hs) (λ f g. function_found hs w 0 hs (λ i h e. subst (λ z. slice_get hs z ≡ Some h) (omega arith) e) f g))
