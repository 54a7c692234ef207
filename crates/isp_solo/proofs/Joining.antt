-- The runs of instances, taken in one after the other: which elements they touched.
use Rattle.std.proofs.Common.{◌≡◌, refl, sym, ap, ap₂, ◌∙◌, ℕ, zero, suc, ◌+◌, ◌<◌, ◌≤◌, ⊎_elim, Bool, true, false, List, [], ◌∷◌, Some, None, arith, length, get_or}
use Rattle.std.specs.Prelude.{Option, is_some, slice_set}
use Rattle.std.proofs.lemmas.Bool.{cases_eq, cases_lt}
use Rattle.isp_base.specs.Maps.{put}
use Rattle.isp_gang_values.specs.Growing.{at_each}
use Rattle.isp_gang_values.proofs.Vectors.{at_past, at_there, written}
use Rattle.isp_solo_run.specs.Arrays.{wrote_at, wrote_in, read_in, wrote_seen, read_seen}
use Rattle.isp_solo_run.specs.Touches.{touched, touch_in, is_clash, FirstClash as FirstIn}
use Rattle.isp_solo_run.specs.declared.arrays.Shared.{Shared}
use Rattle.isp_solo_run.specs.declared.touches.Touch.{Touch}
use Rattle.isp_solo_run.specs.declared.touches.Touch.TheVariants.{Nobody}
use Rattle.isp_solo_run.proofs.Changed.{put_there, put_apart}
use Rattle.isp_solo.specs.Touched.{FirstAt, FirstOfAll, touched_at, touched_seen}
use Rattle.isp_solo.specs.declared.touched.Touched.{Touched}

-- ---- one array

-- an element that is there is the same, whatever stands for those that are not
anywhere : (d k : Touch) (xs : List Touch) (e : ℕ) → e < length xs → at_each (λ x. x) d xs e ≡ at_each (λ x. x) k xs e
anywhere d k [] e h = absurd (omega (arith, h))
anywhere d k (x ∷ xs) zero h = refl
anywhere d k (x ∷ xs) (suc e) h = anywhere d k xs e (omega (arith, h))

stored_past : (d : Bool) (x : ℕ) → is_some (wrote_at false d x) ≡ d
stored_past true x = refl
stored_past false x = refl

module _ (others : Touch) (p : ℕ) (array : Shared) where
  abbrev after_run : Touch → ℕ → Touch
  after_run t e = touched t p (read_in array e) (is_some (wrote_in array e))

  past : (t : Touch) (e : ℕ) → length array.stored.items ≤ e → length array.read.items ≤ e → touched t p false array.declared ≡ after_run t e
  past t e s r =
      ap₂ (λ (x y : Bool). touched t p x y) (sym (at_past (λ (x : Bool). x) false array.read.items e r))
      (sym (ap (λ (m : Bool). is_some (wrote_at m array.declared (at_each (λ (x : ℕ). x) 0 array.work.items e))) (at_past (λ (x : Bool). x) false array.stored.items e s) ∙ stored_past array.declared (at_each (λ (x : ℕ). x) 0 array.work.items e)))

  pub joined_at : (xs ys : List Touch) (next : Touch) → length ys ≡ length xs → length array.stored.items ≤ length xs → length array.read.items ≤ length xs
      → ((e : ℕ) → e < length xs → touch_in ys e ≡ after_run (touch_in xs e) e) → next ≡ touched others p false array.declared
      → (e : ℕ) → at_each (λ x. x) next ys e ≡ after_run (at_each (λ x. x) others xs e) e
  joined_at xs ys next long stored read each is e = ⊎_elim there beyond (cases_lt e (length xs)) where
    there : e < length xs → at_each (λ x. x) next ys e ≡ after_run (at_each (λ x. x) others xs e) e
    there h = anywhere next Nobody ys e (omega (arith, h, long)) ∙ each e h ∙ ap (λ (t : Touch). after_run t e) (anywhere Nobody others xs e h)

    beyond : length xs ≤ e → at_each (λ x. x) next ys e ≡ after_run (at_each (λ x. x) others xs e) e
    beyond h =
        at_past (λ (x : Touch). x) next ys e (omega (arith, h, long)) ∙ is ∙ past others e (omega (arith, h, stored)) (omega (arith, h, read))
        ∙ ap (λ (t : Touch). after_run t e) (sym (at_past (λ (x : Touch). x) others xs e (omega (arith, h))))

-- the first place at which two clash, among those that are told apart, or else the first of the others
module _ (t : Touched) where
  pub found_there : (n : ℕ) → FirstIn t.first.items (Some n) → FirstAt (touched_at t) (Some n)
  found_there n f =
      (ap is_clash (anywhere t.others Nobody t.first.items n f.0) ∙ f.1, λ e h. ap is_clash (anywhere t.others Nobody t.first.items e (let l = f.0 in omega (arith, h, l))) ∙ f.2 e h)

  module _ (none : FirstIn t.first.items None) where
    not_there : (e : ℕ) → e < length t.first.items → is_clash (touched_at t e) ≡ false
    not_there e h = ap is_clash (anywhere t.others Nobody t.first.items e h) ∙ none e h

    pub found_past : is_clash t.others ≡ true → FirstAt (touched_at t) (Some (length t.first.items))
    found_past i = (ap is_clash (at_past (λ (x : Touch). x) t.others t.first.items (length t.first.items) (omega arith)) ∙ i, not_there)

    pub found_nowhere : is_clash t.others ≡ false → FirstAt (touched_at t) None
    found_nowhere i e =
        ⊎_elim (λ (h : e < length t.first.items). not_there e h) (λ h. ap is_clash (at_past (λ (x : Touch). x) t.others t.first.items e (omega (arith, h))) ∙ i) (cases_lt e (length t.first.items))

-- ---- all arrays, one after the other

pub record Joined (p : ℕ) (arrays : List Shared) (old xs : List Touched) (i : ℕ) : Type 0 where
  pub done : (b e : ℕ) → b < i → touched_seen xs b e ≡ touched (touched_seen old b e) p (read_seen arrays b e) (is_some (wrote_seen arrays b e))
  pub left : (b e : ℕ) → i ≤ b → touched_seen xs b e ≡ touched_seen old b e

pub joined_none : (p : ℕ) (arrays : List Shared) (old xs : List Touched) → touched_seen xs ≡ touched_seen old → Joined p arrays old xs 0
joined_none p arrays old xs same = record { done = λ b e h. absurd (omega (arith, h)); left = λ b e h. ap (λ (f : ℕ → ℕ → Touch). f b e) same }

module _ (p : ℕ) (arrays : List Shared) (old xs : List Touched) (i : ℕ) (t d : Touched) (s : Shared) (j : Joined p arrays old xs i) (lt : i < length xs) (there : i < length arrays) (di : d ≡ get_or xs i d) (si : s ≡ get_or arrays i s) where
  pub joined_next : ((e : ℕ) → touched_at t e ≡ touched (touched_at d e) p (read_in s e) (is_some (wrote_in s e))) → Joined p arrays old (slice_set xs i t) (i + 1)
  joined_next is = record {
    done = λ b e h. ap (λ (g : ℕ → ℕ → Touch). g b e) set ∙ ⊎_elim (λ (k : b ≡ i). here b e k) (λ ne. ap (λ (g : ℕ → Touch). g e) (put_apart (touched_seen xs) i (touched_at t) b ne) ∙ j.done b e (omega (arith, ne, h))) (cases_eq b i);
    left = λ b e h. ap (λ (g : ℕ → ℕ → Touch). g b e) set ∙ ap (λ (g : ℕ → Touch). g e) (put_apart (touched_seen xs) i (touched_at t) b (λ k. (omega (arith, k, h)))) ∙ j.left b e (omega (arith, h));
  } where
    set : touched_seen (slice_set xs i t) ≡ put (touched_seen xs) i (touched_at t)
    set = written touched_at (λ e. Nobody) xs t i lt

    before : (e : ℕ) → touched_at d e ≡ touched_seen old i e
    before e = ap (λ (z : Touched). touched_at z e) di ∙ ap (λ (g : ℕ → Touch). g e) (sym (at_there touched_at (λ e. Nobody) xs i d lt)) ∙ j.left i e (omega arith)

    reads : (e : ℕ) → read_in s e ≡ read_seen arrays i e
    reads e = ap (λ (z : Shared). read_in z e) si ∙ ap (λ (g : ℕ → Bool). g e) (sym (at_there read_in (λ e. false) arrays i s there))

    writes : (e : ℕ) → is_some (wrote_in s e) ≡ is_some (wrote_seen arrays i e)
    writes e = ap (λ (z : Shared). is_some (wrote_in z e)) si ∙ ap (λ (g : ℕ → Option ℕ). is_some (g e)) (sym (at_there wrote_in (λ e. None) arrays i s there))

    here : (b e : ℕ) → b ≡ i → put (touched_seen xs) i (touched_at t) b e ≡ touched (touched_seen old b e) p (read_seen arrays b e) (is_some (wrote_seen arrays b e))
    here b e k =
        ap (λ (z : ℕ). put (touched_seen xs) i (touched_at t) z e) k ∙ ap (λ (g : ℕ → Touch). g e) (put_there (touched_seen xs) i (touched_at t)) ∙ is e
        ∙ ap (λ (z : Touch). touched z p (read_in s e) (is_some (wrote_in s e))) (before e)
        ∙ ap₂ (λ (x y : Bool). touched (touched_seen old i e) p x y) (reads e) (writes e)
        ∙ ap (λ (z : ℕ). touched (touched_seen old z e) p (read_seen arrays z e) (is_some (wrote_seen arrays z e))) (sym k)

-- arrays that the run did not come to were not touched
pub joined_all : (p : ℕ) (arrays : List Shared) (old xs : List Touched) (i : ℕ) → Joined p arrays old xs i → length arrays ≤ i
    → (b e : ℕ) → touched_seen xs b e ≡ touched (touched_seen old b e) p (read_seen arrays b e) (is_some (wrote_seen arrays b e))
joined_all p arrays old xs i j h b e = ⊎_elim (λ (l : b < i). j.done b e l) (λ l. j.left b e (omega (arith, l)) ∙ none (omega (arith, l, h))) (cases_lt b i) where
  none : length arrays ≤ b → touched_seen old b e ≡ touched (touched_seen old b e) p (read_seen arrays b e) (is_some (wrote_seen arrays b e))
  none l =
      ap₂ (λ (f : ℕ → Bool) (g : ℕ → Option ℕ). touched (touched_seen old b e) p (f e) (is_some (g e))) (sym (at_past read_in (λ e. false) arrays b l)) (sym (at_past wrote_in (λ e. None) arrays b l))

-- ---- the first clash, array by array

module _ (ts : List Touched) (i : ℕ) (before : (b e : ℕ) → b < i → is_clash (touched_seen ts b e) ≡ false) where
  module _ (d : Touched) (lt : i < length ts) (di : d ≡ get_or ts i d) where
    same : touched_seen ts i ≡ touched_at d
    same = at_there touched_at (λ e. Nobody) ts i d lt ∙ ap touched_at (sym di)

    pub first_here : (n : ℕ) → FirstAt (touched_at d) (Some n) → FirstOfAll (touched_seen ts) (Some (i, n))
    first_here n f = (ap (λ (g : ℕ → Touch). is_clash (g n)) same ∙ f.0, before, λ e h. ap (λ (g : ℕ → Touch). is_clash (g e)) same ∙ f.1 e h)

    pub none_here : FirstAt (touched_at d) None → (b e : ℕ) → b < i + 1 → is_clash (touched_seen ts b e) ≡ false
    none_here f b e h =
        ⊎_elim (λ (k : b ≡ i). ap (λ (z : ℕ). is_clash (touched_seen ts z e)) k ∙ ap (λ (g : ℕ → Touch). is_clash (g e)) same ∙ f e) (λ ne. before b e (omega (arith, h, ne))) (cases_eq b i)

  pub none_past : length ts ≤ i → FirstOfAll (touched_seen ts) None
  none_past h b e =
      ⊎_elim (λ (k : b < i). before b e k) (λ k. ap (λ (g : ℕ → Touch). is_clash (g e)) (at_past touched_at (λ e. Nobody) ts b (omega (arith, h, k)))) (cases_lt b i)
