-- Routines beside the functions whose code they are.
use Rattle.std.proofs.Common.{◌≡◌, ℕ, zero, suc, ◌+◌, ◌*◌, ◌<◌, ◌≤◌, true, List, [], ◌∷◌, ◌++◌, length, refl, sym, ap, subst, ◌∙◌, arith, take, get_or, add-one, Some, slice_get}
use Rattle.std.proofs.Math.Seq.{take-suc}
use Rattle.std.proofs.lemmas.List.{length-append, map-append}
use Rattle.std.proofs.lemmas.Option.{slice_get_within}
use Rattle.std.specs.List.{All, list_all}
use Rattle.isp_base.specs.declared.types.Span.{Span}
use Rattle.isp_code.specs.Listing.{Routine}
use Rattle.isp_code.specs.Writable.{has_byte, place_fits}
use Rattle.isp_lower.specs.Drafts.{Draft, TablesCanBeWritten, all_routines, finished}
use Rattle.isp_lower_code.specs.Setting.{AreAt}
use Rattle.isp_lower_code.proofs.Lemmas.{all_both}
use Rattle.isp_tree.specs.Nodes.{nodes_of_all}
use Rattle.isp_typed.specs.Nodes.{function_nodes}
use Rattle.isp_typed.specs.Typed.{Program, TFunction}
use Rattle.isp_typed.specs.Views.{function_of, functions_of}
use Rattle.isp_typed.specs.declared.function.TypedFunction.{TypedFunction}
use Rattle.isp_masks.specs.Added.{AddsLowered, AreLowered, GrowsTo}
use Rattle.isp_masks_code.specs.Lowered.{HasCode, IsLowered}

get_more : {A : Type 0} (xs zs : List A) (n : ℕ) (y : A) → slice_get xs n ≡ Some y → slice_get (xs ++ zs) n ≡ Some y
get_more [] zs n y e = absurd (omega (arith, slice_get_within [] n y e))
get_more (x ∷ xs) zs zero y e = e
get_more (x ∷ xs) zs (suc n) y e = get_more xs zs n y e

at_more : {A : Type 0} (xs zs : List A) (n : ℕ) (ys : List A) → AreAt xs n ys → AreAt (xs ++ zs) n ys
at_more xs zs n [] a = tt
at_more xs zs n (y ∷ ys) a = (get_more xs zs n y a.0, at_more xs zs (n + 1) ys a.1)

-- with more places and texts
lowered_more : (fs : List TFunction) (h : TFunction) (g : Routine) (places new : List Span) (texts told : List (List ℕ)) → GrowsTo places new → GrowsTo texts told → IsLowered fs h g places texts → IsLowered fs h g new told
lowered_more fs h g places new texts told m u x =
    subst (λ ps. IsLowered fs h g ps told) (sym m.is)
    (subst (λ ts. IsLowered fs h g (places ++ m.more) ts) (sym u.is)
    (record {
      name = x.name;
      exported = x.exported;
      params = x.params;
      returns = x.returns;
      locals = x.locals;
      rows = x.rows;
      scalars_first = x.scalars_first;
      vectors_first = x.vectors_first;
      arrays_first = x.arrays_first;
      scalars = x.scalars;
      vectors = x.vectors;
      three = x.three;
      masks_are = x.masks_are;
      present = x.present;
      constants = x.constants;
      keeps = x.keeps;
      spares = x.spares;
      numbers = x.numbers;
      low = omega (arith, x.low, length-append places m.more);
      low_texts = omega (arith, x.low_texts, length-append texts u.more);
      code_is = x.code_is;
      places_are = at_more places m.more x.numbers.place _ x.places_are;
      texts_are = at_more texts u.more x.numbers.text _ x.texts_are;
    }))

all_more : (fs hs : List TFunction) (gs : List Routine) (places new : List Span) (texts told : List (List ℕ)) → GrowsTo places new → GrowsTo texts told → AreLowered fs hs gs places texts → AreLowered fs hs gs new told
all_more fs [] [] places new texts told m u a = tt
all_more fs [] (g ∷ gs) places new texts told m u a = absurd a
all_more fs (h ∷ hs) [] places new texts told m u a = absurd a
all_more fs (h ∷ hs) (g ∷ gs) places new texts told m u a = (lowered_more fs h g places new texts told m u a.0, all_more fs hs gs places new texts told m u a.1)

all_last : (fs hs : List TFunction) (gs : List Routine) (h : TFunction) (g : Routine) (places : List Span) (texts : List (List ℕ)) → AreLowered fs hs gs places texts → IsLowered fs h g places texts
    → AreLowered fs (hs ++ h ∷ []) (gs ++ g ∷ []) places texts
all_last fs [] [] h g places texts a x = (x, tt)
all_last fs [] (k ∷ gs) h g places texts a x = absurd a
all_last fs (k ∷ hs) [] h g places texts a x = absurd a
all_last fs (k ∷ hs) (m ∷ gs) h g places texts a x = (a.0, all_last fs hs gs h g places texts a.1 x)

taken_more : (fs : List TypedFunction) (at : ℕ) (f : TypedFunction) → at < length fs → f ≡ get_or fs at f → functions_of (take (at + 1) fs) ≡ functions_of (take at fs) ++ function_of f ∷ []
taken_more fs at f low is =
    ap (λ n. functions_of (take n fs)) (add-one at) ∙ ap functions_of (take-suc fs at f low ∙ ap (λ z. take at fs ++ z ∷ []) (sym is)) ∙ map-append function_of (take at fs) (f ∷ [])

-- one function more
pub routine_more : (callees : List TFunction) (fs : List TypedFunction) (at : ℕ) (f : TypedFunction) (old new : Draft) → at < length fs → f ≡ get_or fs at f
    → old.callees ≡ callees → AreLowered callees (functions_of (take at fs)) (all_routines old) old.places old.texts → AddsLowered (function_of f) old new
    → AreLowered callees (functions_of (take (at + 1) fs)) (all_routines new) new.places new.texts
routine_more callees fs at f old new low is same a x =
    subst (λ z. AreLowered callees z (all_routines new) new.places new.texts) (sym (taken_more fs at f low is))
    (subst (λ z. AreLowered callees (functions_of (take at fs) ++ function_of f ∷ []) z new.places new.texts) (sym x.added)
    (all_last callees (functions_of (take at fs)) (all_routines old) (function_of f) x.routine new.places new.texts
    (all_more callees (functions_of (take at fs)) (all_routines old) old.places new.places old.texts new.texts x.places x.texts a)
    (subst (λ z. IsLowered z (function_of f) x.routine new.places new.texts) same x.lowered)))

-- ---- places and texts

-- The text of code can have the places and the texts, and they are few by the nodes of some functions.
pub record AreFew (hs : List TFunction) (d : Draft) : Type 0 where
  pub places : list_all place_fits d.places ≡ true
  pub few_places : length d.places ≤ 8 * nodes_of_all function_nodes hs
  pub texts : list_all has_byte d.texts ≡ true
  pub few_texts : length d.texts ≤ 2 * nodes_of_all function_nodes hs

-- there are none
pub none_few : (d : Draft) → d.places ≡ [] → d.texts ≡ [] → AreFew [] d
none_few d places texts = record {
  places = ap (list_all place_fits) places;
  few_places = let n = ap length places in omega (arith, n);
  texts = ap (list_all has_byte) texts;
  few_texts = let n = ap length texts in omega (arith, n);
}

last_nodes : (hs : List TFunction) (h : TFunction) → nodes_of_all function_nodes (hs ++ h ∷ []) ≡ nodes_of_all function_nodes hs + function_nodes h
last_nodes [] h = omega arith
last_nodes (k ∷ hs) h = omega (arith, last_nodes hs h)

-- one function more
pub tables_more : (fs : List TypedFunction) (at : ℕ) (f : TypedFunction) (old new : Draft) → at < length fs → f ≡ get_or fs at f
    → AreFew (functions_of (take at fs)) old → AddsLowered (function_of f) old new → AreFew (functions_of (take (at + 1) fs)) new
tables_more fs at f old new low is can x =
    let hs = functions_of (take at fs) in
    let more : AreFew (hs ++ function_of f ∷ []) new = record {
      places = ap (list_all place_fits) x.places.is ∙ all_both place_fits old.places x.places.more can.places x.places_fit;
      few_places = let n = ap length x.places.is in omega (arith, n, length-append old.places x.places.more, can.few_places, x.few_places, last_nodes hs (function_of f));
      texts = ap (list_all has_byte) x.texts.is ∙ all_both has_byte old.texts x.texts.more can.texts x.texts_fit;
      few_texts = let n = ap length x.texts.is in omega (arith, n, length-append old.texts x.texts.more, can.few_texts, x.few_texts, last_nodes hs (function_of f));
    } in
    subst (λ z. AreFew z new) (sym (taken_more fs at f low is)) more

nodes_taken : (n : ℕ) (fs : List TypedFunction) → nodes_of_all function_nodes (functions_of (take n fs)) ≤ nodes_of_all function_nodes (functions_of fs)
nodes_taken zero fs = omega arith
nodes_taken (suc n) [] = omega arith
nodes_taken (suc n) (f ∷ fs) = omega (arith, nodes_taken n fs)

-- each has a number
pub tables_named : (n : ℕ) (fs : List TypedFunction) (d : Draft) → AreFew (functions_of (take n fs)) d → nodes_of_all function_nodes (functions_of fs) < 16777216 → TablesCanBeWritten d
tables_named n fs d can few = record {
  places = can.places;
  few_places = omega (arith, nodes_taken n fs, can.few_places, few);
  texts = can.texts;
  few_texts = omega (arith, nodes_taken n fs, can.few_texts, few);
}

-- ---- programs

same_count : (fs hs : List TFunction) (gs : List Routine) (places : List Span) (texts : List (List ℕ)) → AreLowered fs hs gs places texts → length gs ≡ length hs
same_count fs [] [] places texts a = refl
same_count fs [] (g ∷ gs) places texts a = absurd a
same_count fs (h ∷ hs) [] places texts a = absurd a
same_count fs (h ∷ hs) (g ∷ gs) places texts a = ap suc (same_count fs hs gs places texts a.1)

each_at : (fs hs : List TFunction) (gs : List Routine) (places : List Span) (texts : List (List ℕ)) → AreLowered fs hs gs places texts
    → (f : ℕ) (h : TFunction) (g : Routine) → slice_get hs f ≡ Some h → slice_get gs f ≡ Some g → IsLowered fs h g places texts
each_at fs [] gs places texts a f h g e d = absurd (omega (arith, slice_get_within [] f h e))
each_at fs (k ∷ hs) [] places texts a f h g e d = absurd a
each_at fs (k ∷ hs) (m ∷ gs) places texts a zero h g e d = subst (λ z. IsLowered fs z g places texts) (some_is k h e) (subst (λ z. IsLowered fs k z places texts) (some_is m g d) a.0)
  where
    some_is : {X : Type 0} (x y : X) → Some x ≡ Some y → x ≡ y
    some_is x y e = cc
each_at fs (k ∷ hs) (m ∷ gs) places texts a (suc f) h g e d = each_at fs hs gs places texts a.1 f h g e d

pub has_finished : (program : Program) (d : Draft) → AreLowered program.functions program.functions (all_routines d) d.places d.texts → d.gang ≡ program.gang → HasCode program (finished d)
has_finished program d a gang = record {
  gang = gang;
  count = same_count program.functions program.functions (all_routines d) d.places d.texts a;
  each = each_at program.functions program.functions (all_routines d) d.places d.texts a;
}

-- ---- what is so of all functions is so of each

pub all_at : (P : TFunction → Type 0) (fs : List TypedFunction) (i : ℕ) (f : TypedFunction) → All P (functions_of fs) → i < length fs → f ≡ get_or fs i f → P (function_of f)
all_at P [] i f all lt is = absurd (omega (arith, lt))
all_at P (x ∷ fs) zero f all lt is = subst (λ z. P (function_of z)) (sym is) (all 0 (function_of f) (omega arith))
all_at P (x ∷ fs) (suc i) f all lt is = all_at P fs i f (λ k d l. all (suc k) d (omega (arith, l))) (omega (arith, lt)) is
