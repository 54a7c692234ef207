-- What a function reaches, by its calls and by a table of them; and the first breach of a function with what it reaches.
use Rattle.std.proofs.Common.{◌≡◌, ℕ, zero, suc, ◌<◌, ◌⊎◌, inl, inr, refl, sym, ap, subst, ◌∙◌, arith, map, get_or, Vec, Global}
use Rattle.std.specs.Prelude.{List, [], ◌∷◌, Option, Some, None, option_map, slice_get, Contains, length}
use Rattle.std.proofs.lemmas.Option.{slice_get-map, slice_get_read}
use Rattle.std.proofs.lemmas.List.{length-map}
use Rattle.isp_typed.specs.declared.function.TypedFunction.{TypedFunction}
use Rattle.isp_typed.specs.Typed.{TFunction, Program}
use Rattle.isp_typed.specs.Views.{function_of, functions_of}
use Rattle.isp_independence.specs.Tables.{lists_of}
use Rattle.isp_independence.specs.declared.dependence.Dependence.{Dependence}
use Rattle.isp_independence.specs.Dependences.{NotAfter, OfEach, Answered}
use Rattle.isp_independence.specs.Independent.{CalledDepends, EntryDepends, IsCalled, Depends, AreDependences}
use Rattle.isp_independence.specs.Reaches.{function_calls, Calls, Reaches, itself, by_call}
use Rattle.isp_independence.specs.reader.Answers.{called_answer}
use Rattle.isp_independence.specs.reader.Firsts.{AreFirst, function_answer}
use Rattle.isp_independence.specs.reader.Paths.{Arc, Path, stays, goes, flat, found_at, Meets}
use Rattle.isp_independence.proofs.Answered.{either_answered, each_answered}
use Rattle.isp_independence.proofs.Arcs.{Begins, begins, before}
use Rattle.isp_independence.proofs.Order.{not_after_then}
use Rattle.isp_independence.proofs.Turning.{row_read}
use Rattle.isp_independence.proofs.Walks.{called_answered, entry_answered}

-- the same breaches, the same answer
pub same_answered : (o : Option Dependence) (B C : Dependence → Type 0) → ((d : Dependence) → B d → C d) → ((d : Dependence) → C d → B d) → Answered o B → Answered o C
same_answered None B C to back a = record { by = λ d h. a.by d (back d h) }
same_answered (Some e) B C to back a = record { by = (to e a.by.0, λ d h. a.by.1 d (back d h)) }

mapped : (fs : List TFunction) (f : ℕ) (g : TFunction) → slice_get fs f ≡ Some g → slice_get (map function_calls fs) f ≡ Some (function_calls g)
mapped fs f g e = slice_get-map function_calls fs f ∙ ap (option_map function_calls) e

unmapped : (fs : List TFunction) (f : ℕ) (row : List ℕ) → slice_get (map function_calls fs) f ≡ Some row → (g : TFunction) × (slice_get fs f ≡ Some g) × (row ≡ function_calls g)
unmapped fs f row e = go (slice_get fs f) refl (sym (slice_get-map function_calls fs f) ∙ e) where
  go : (o : Option TFunction) → slice_get fs f ≡ o → option_map function_calls o ≡ Some row → (g : TFunction) × (slice_get fs f ≡ Some g) × (row ≡ function_calls g)
  go None i e = absurd (let z : ⊥ = cc in z)
  go (Some g) i e = (g, i, let q : row ≡ function_calls g = cc in q)

arc_calls : (fs : List TFunction) (a b : ℕ) → Arc (map function_calls fs) a b → Calls fs a b
arc_calls fs a b x = let w = unmapped fs a x.row x.there in record { by = (w.0, w.1, subst (λ z. Contains z b) w.2 x.holds) }

calls_arc : (fs : List TFunction) (a b : ℕ) → Calls fs a b → Arc (map function_calls fs) a b
calls_arc fs a b x = record { row = function_calls x.by.0; there = mapped fs a x.by.0 x.by.1; holds = x.by.2 }

path_reaches : (fs : List TFunction) (a c : ℕ) → Path (map function_calls fs) a c → Reaches fs a c
path_reaches fs a c stays = itself
path_reaches fs a c (goes m n p y) = by_call m n (path_reaches fs a m p) (arc_calls fs m n y)

reaches_path : (fs : List TFunction) (a c : ℕ) → Reaches fs a c → Path (map function_calls fs) a c
reaches_path fs a c itself = stays
reaches_path fs a c (by_call m n p y) = goes m n (reaches_path fs a m p) (calls_arc fs m n y)

-- what is called, by the function that is called first and by the one that calls last
pub called_first : (fs : List TFunction) (f c h : ℕ) → Arc (map function_calls fs) f c → Path (map function_calls fs) c h → IsCalled fs f h
called_first fs f c h x stays = record { caller = f; reached = itself; calls = arc_calls fs f c x }
called_first fs f c h x (goes m n p y) = record { caller = m; reached = path_reaches fs f m (before (map function_calls fs) f c m x p); calls = arc_calls fs m n y }

pub called_last : (fs : List TFunction) (f h : ℕ) → IsCalled fs f h → Begins (map function_calls fs) f h
called_last fs f h k =
    elim (begins (map function_calls fs) f k.caller (reaches_path fs f k.caller k.reached)) as (λ z. Begins (map function_calls fs) f h) [
      | inl e ↦ record { over = h; first = subst (λ z. Arc (map function_calls fs) z h) (sym e) (calls_arc fs k.caller h k.calls); rest = stays }
      | inr w ↦ record { over = w.over; first = w.first; rest = goes k.caller h w.rest (calls_arc fs k.caller h k.calls) }
    ]

-- the breaches in a function that c reaches
pub record Reached (fs : List TFunction) (c : ℕ) (d : Dependence) : Type 0 where
  pub at : ℕ
  pub function : TFunction
  pub path : Path (map function_calls fs) c at
  pub there : slice_get fs at ≡ Some function
  pub breach : CalledDepends function d

-- what a function has found, where it has
own_of : (fs : List TFunction) (h : ℕ) (d : Dependence) → found_at (map called_answer fs) h ≡ Some d → (g : TFunction) × (slice_get fs h ≡ Some g) × (called_answer g ≡ Some d)
own_of fs h d e = go (slice_get fs h) refl (ap flat (sym (slice_get-map called_answer fs h)) ∙ e) where
  go : (o : Option TFunction) → slice_get fs h ≡ o → flat (option_map called_answer o) ≡ Some d → (g : TFunction) × (slice_get fs h ≡ Some g) × (called_answer g ≡ Some d)
  go None i e = absurd (let z : ⊥ = cc in z)
  go (Some g) i e = (g, i, e)

-- the first of all is the first of the first ones
pub first_reached : (fs : List TFunction) (o : Option Dependence) (c : ℕ) → Answered o (Meets (map function_calls fs) (map called_answer fs) c) → Answered o (Reached fs c)
first_reached fs o c a = go o a where
  Met : Dependence → Type 0
  Met = Meets (map function_calls fs) (map called_answer fs) c

  met : (d : Dependence) → Reached fs c d → (e : Dependence) × Met e × NotAfter e d
  met d r = one (called_answer r.function) refl where
    one : (p : Option Dependence) → called_answer r.function ≡ p → (e : Dependence) × Met e × NotAfter e d
    one None i = absurd ((subst (λ p. Answered p (CalledDepends r.function)) i (called_answered r.function)).by d r.breach)
    one (Some e) i = (
      e,
      record { at = r.at; path = r.path; is = ap flat (slice_get-map called_answer fs r.at ∙ ap (option_map called_answer) r.there) ∙ i },
      (subst (λ p. Answered p (CalledDepends r.function)) i (called_answered r.function)).by.1 d r.breach,
    )

  held : (d : Dependence) → Met d → Reached fs c d
  held d m =
      let w = own_of fs m.at d m.is in
      record { at = m.at; function = w.0; path = m.path; there = w.1; breach = (subst (λ p. Answered p (CalledDepends w.0)) w.2 (called_answered w.0)).by.0 }

  go : (o : Option Dependence) → Answered o Met → Answered o (Reached fs c)
  go None a = record { by = λ d r. let w = met d r in a.by w.0 w.1 }
  go (Some e) a = record { by = (held e a.by.0, λ d r. let w = met d r in not_after_then _ _ _ (a.by.1 w.0 w.1) w.2) }

in_each : {A : Type 0} (B : A → Dependence → Type 0) (xs : List A) (d : Dependence) → OfEach B xs d → (x : A) × Contains xs x × B x d
in_each B [] d h = absurd h
in_each B (x ∷ xs) d (inl h) = (x, (0, omega arith, refl), h)
in_each B (x ∷ xs) d (inr h) = let w = in_each B xs d h in (w.0, contains_later x xs w.0 w.1, w.2)
  where
    contains_later : {A : Type 0} (x : A) (xs : List A) (y : A) → Contains xs y → Contains (x ∷ xs) y
    contains_later x xs y k = (suc k.0, omega (arith, k.1), k.2)

each_at : {A : Type 0} (B : A → Dependence → Type 0) (y : A) (xs : List A) (d : Dependence) (x : A) → B x d → (Contains xs x → OfEach B xs d) → (k : ℕ) → k < suc (length xs) → get_or (y ∷ xs) k x ≡ x
    → OfEach B (y ∷ xs) d
each_at B y xs d x h later zero l e = inl (subst (λ z. B z d) (sym e) h)
each_at B y xs d x h later (suc k) l e = inr (later (k, omega (arith, l), e))

each_in : {A : Type 0} (B : A → Dependence → Type 0) (xs : List A) (d : Dependence) (x : A) → Contains xs x → B x d → OfEach B xs d
each_in B [] d x c h = absurd (omega (arith, c.1))
each_in B (y ∷ xs) d x c h = each_at B y xs d x h (λ k. each_in B xs d x k h) c.0 c.1 c.2

-- the answer of each function
pub answers_are : (p : Program) (least all : List (Option Dependence)) → AreFirst (map function_calls p.functions) (map called_answer p.functions) least
    → all ≡ map (function_answer least) p.functions → AreDependences p all
answers_are p least all a is = record { long = ap length is ∙ length-map fs (function_answer least); each = each } where
  fs : List TFunction
  fs = p.functions

  Later : TFunction → Dependence → Type 0
  Later g = OfEach (Reached p.functions) (function_calls g)

  one : (g : TFunction) → Answered (function_answer least g) (λ d. EntryDepends g d ⊎ Later g d)
  one g = either_answered _ _ _ _ (entry_answered g) (each_answered (found_at least) (Reached p.functions) (λ c. first_reached p.functions (found_at least c) c (a.each c)) (function_calls g))

  same : (g h : TFunction) (f : ℕ) → slice_get p.functions f ≡ Some g → slice_get p.functions f ≡ Some h → g ≡ h
  same g h f x y = let q : Some g ≡ Some h = sym x ∙ y in cc

  to : (f : ℕ) (g : TFunction) → slice_get p.functions f ≡ Some g → (d : Dependence) → EntryDepends g d ⊎ Later g d → Depends p f d
  to f g x d (inl h) = inl (g, x, h)
  to f g x d (inr h) =
      let w = in_each (Reached p.functions) (function_calls g) d h in
      let r = w.2 in
      inr (r.at, r.function, called_first p.functions f w.0 r.at (record { row = function_calls g; there = mapped p.functions f g x; holds = w.1 }) r.path, r.there, r.breach)

  back : (f : ℕ) (g : TFunction) → slice_get p.functions f ≡ Some g → (d : Dependence) → Depends p f d → EntryDepends g d ⊎ Later g d
  back f g x d (inl h) = inl (subst (λ (z : TFunction). EntryDepends z d) (same h.0 g f h.1 x) h.2)
  back f g x d (inr h) =
      let k = called_last p.functions f h.0 h.2 in
      let w = unmapped p.functions f k.first.row k.first.there in
      inr (each_in (Reached p.functions) (function_calls g) d k.over
      (subst (λ (z : TFunction). Contains (function_calls z) k.over) (same w.0 g f w.1 x) (subst (λ z. Contains z k.over) w.2 k.first.holds))
      (record { at = h.0; function = h.1; path = k.rest; there = h.3; breach = h.4 }))

  each : (f : ℕ) (o : Option Dependence) → slice_get all f ≡ Some o → Answered o (Depends p f)
  each f o e = go (slice_get p.functions f) refl (sym (slice_get-map (function_answer least) p.functions f) ∙ (ap (λ (z : List (Option Dependence)). slice_get z f) (sym is) ∙ e)) where
    go : (q : Option TFunction) → slice_get p.functions f ≡ q → option_map (function_answer least) q ≡ Some o → Answered o (Depends p f)
    go None x e = absurd (let z : ⊥ = cc in z)
    go (Some g) x e = subst (λ z. Answered z (Depends p f)) (let q : function_answer least g ≡ o = cc in q) (same_answered _ _ _ (to f g x) (back f g x) (one g))

-- the row of a function has its calls
pub row_is : (fs : List TypedFunction) (rows : List (Vec ℕ Global)) (n : ℕ) (f : TypedFunction) (row : Vec ℕ Global) → lists_of rows ≡ map function_calls (functions_of fs) → n < length rows → row ≡ get_or rows n row
    → n < length fs → f ≡ get_or fs n f → row.items ≡ function_calls (function_of f)
row_is fs rows n f row t h e l i =
    let left : slice_get (map function_calls (functions_of fs)) n ≡ Some row.items = ap (λ (z : List (List ℕ)). slice_get z n) (sym t) ∙ row_read rows n row h e in
    let right : slice_get (map function_calls (functions_of fs)) n ≡ Some (function_calls (function_of f)) =
    mapped (functions_of fs) n (function_of f) (slice_get-map function_of fs n ∙ ap (option_map function_of) (slice_get_read fs (length fs) n f refl l i))
    in
    let q : Some row.items ≡ Some (function_calls (function_of f)) = sym left ∙ right in cc
