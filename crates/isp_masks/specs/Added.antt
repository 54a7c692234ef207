-- What the code of a function adds to a program's: its routine, the places and the texts that it names.
use Rattle.std.specs.Prelude.{◌≡◌, ◌≤◌, ℕ, ◌+◌, ◌*◌, List, [], ◌∷◌, ◌++◌, length, true}
use Rattle.std.specs.List.{list_all}
use Rattle.isp_base.specs.declared.types.Span.{Span}
use Rattle.isp_code.specs.Listing.{Routine}
use Rattle.isp_code.specs.Writable.{has_byte, place_fits}
use Rattle.isp_typed.specs.Nodes.{block_nodes}
use Rattle.isp_typed.specs.Typed.{TFunction}
use Rattle.isp_lower.specs.Drafts.{Draft, all_routines}
use Rattle.isp_masks_code.specs.Lowered.{IsLowered}

-- more is added at the end
pub record GrowsTo {A : Type 0} (old new : List A) : Type 0 where
  pub more : List A
  pub is : new ≡ old ++ more

-- A function's routine is added, as the last one. The text of code can have the places and the texts that are added, and they are few by
-- the function's nodes.
pub record AddsLowered (h : TFunction) (old new : Draft) : Type 0 where
  pub routine : Routine
  pub added : all_routines new ≡ all_routines old ++ routine ∷ []
  pub places : GrowsTo old.places new.places
  pub texts : GrowsTo old.texts new.texts
  pub gang : new.gang ≡ old.gang
  pub callees : new.callees ≡ old.callees
  pub places_fit : list_all place_fits places.more ≡ true
  pub texts_fit : list_all has_byte texts.more ≡ true
  pub few_places : length places.more ≤ 8 * block_nodes h.body
  pub few_texts : length texts.more ≤ 2 * block_nodes h.body
  pub lowered : IsLowered old.callees h routine new.places new.texts

-- each function has its routine, in their order
abbrev pub AreLowered : List TFunction → List TFunction → List Routine → List Span → List (List ℕ) → Type 0
AreLowered fs [] [] places texts = Unit {0}
AreLowered fs [] (g ∷ gs) places texts = ⊥
AreLowered fs (h ∷ hs) [] places texts = ⊥
AreLowered fs (h ∷ hs) (g ∷ gs) places texts = IsLowered fs h g places texts × AreLowered fs hs gs places texts
