-- Configurations that agree in what may still be read are alike in both directions, and over a third.
use Rattle.std.proofs.Common.{◌≡◌, ℕ, suc, List, [], ◌∷◌, length, false, refl, sym, ap, ◌∙◌, subst}
use Rattle.isp_base.specs.Types.{gang_width}
use Rattle.isp_code.specs.Conf.{Conf, Frame, State, Runs, Trapped, Ended}
use Rattle.isp_code.specs.Listing.{Listing}
use Rattle.isp_lanes_read.specs.Lanes.{meaning, sets, frame_sets, called_for, IsRead}
use Rattle.isp_lanes_read.specs.Rows.{Rows, row_at}
use Rattle.isp_lanes_read.specs.Standing.{FramesAlike, AllAlike, Alike, StatesAlike, is_filled}

module _ (code : Listing) (rows : Rows) where
  -- a call is for the same lanes
  pub outer_same : (ws ws1 : List Frame) → AllAlike code rows ws ws1 → called_for (gang_width code.gang) ws ≡ called_for (gang_width code.gang) ws1
  outer_same [] [] all = refl
  outer_same (fr ∷ rest) (fr1 ∷ rest1) all = sym (ap (λ z. z.under) all.0.same)
  outer_same [] (fr1 ∷ rest1) all = absurd all
  outer_same (fr ∷ rest) [] all = absurd all

  pub as_many : (ws ws1 : List Frame) → AllAlike code rows ws ws1 → length ws ≡ length ws1
  as_many [] [] all = refl
  as_many (fr ∷ rest) (fr1 ∷ rest1) all = ap suc (as_many rest rest1 all.1)
  as_many [] (fr1 ∷ rest1) all = absurd all
  as_many (fr ∷ rest) [] all = absurd all

  sets_same : (c c1 : Conf) → Alike code rows c c1 → sets code c ≡ sets code c1
  sets_same c c1 alike =
      ap (λ call. meaning (gang_width code.gang) c.masks call) (outer_same c.waiting c1.waiting alike.waiting)
      ∙ ap (λ masks. meaning (gang_width code.gang) masks (called_for (gang_width code.gang) c1.waiting)) (sym (ap (λ z. z.masks) alike.same))

  read_same : (c c1 : Conf) → Alike code rows c c1 → (v p : ℕ) → IsRead (sets code c) (row_at rows c.home.fn c.pc) v p → IsRead (sets code c1) (row_at rows c1.home.fn c1.pc) v p
  read_same c c1 alike v p r =
      subst (λ z. IsRead (sets code c1) (row_at rows z.home.fn z.pc) v p) (sym alike.same) (subst (λ m. IsRead m (row_at rows c.home.fn c.pc) v p) (sets_same c c1 alike) r)

  frame_sets_same : (fr fr1 : Frame) (rest rest1 : List Frame) → FramesAlike code rows fr fr1 rest → AllAlike code rows rest rest1 → frame_sets code fr rest ≡ frame_sets code fr1 rest1
  frame_sets_same fr fr1 rest rest1 alike all =
      ap (λ call. meaning (gang_width code.gang) fr.masks call) (outer_same rest rest1 all)
      ∙ ap (λ masks. meaning (gang_width code.gang) masks (called_for (gang_width code.gang) rest1)) (sym (ap (λ z. z.masks) alike.same))

  frames_trans : (a b d : Frame) (xs ys : List Frame) → AllAlike code rows xs ys → FramesAlike code rows a b xs → FramesAlike code rows b d ys → FramesAlike code rows a d xs
  frames_trans a b d xs ys all f g =
      record {
        same = g.same ∙ ap (λ (z : Frame). let y : Frame = record z { vectors = d.vectors } in y) f.same;
        lanes = λ v p r off. f.lanes v p r off ∙ g.lanes v p (read v p r) (subst (λ z. is_filled z.result z.under v p ≡ false) (sym f.same) off);
      }
    where
      read : (v p : ℕ) → IsRead (frame_sets code a xs) (row_at rows a.home.fn a.pc) v p → IsRead (frame_sets code b ys) (row_at rows b.home.fn b.pc) v p
      read v p r = subst (λ z. IsRead (frame_sets code b ys) (row_at rows z.home.fn z.pc) v p) (sym f.same) (subst (λ m. IsRead m (row_at rows a.home.fn a.pc) v p) (frame_sets_same a b xs ys f all) r)

  all_trans : (a b d : List Frame) → AllAlike code rows a b → AllAlike code rows b d → AllAlike code rows a d
  all_trans [] [] [] f g = tt
  all_trans (x ∷ xs) (y ∷ ys) (z ∷ zs) f g = (frames_trans x y z xs ys f.1 f.0 g.0, all_trans xs ys zs f.1 g.1)
  all_trans [] [] (z ∷ zs) f g = absurd g
  all_trans [] (y ∷ ys) d f g = absurd f
  all_trans (x ∷ xs) [] d f g = absurd f
  all_trans (x ∷ xs) (y ∷ ys) [] f g = absurd g

  pub alike_trans : (a b d : Conf) → Alike code rows a b → Alike code rows b d → Alike code rows a d
  alike_trans a b d f g =
      record {
        same = g.same ∙ ap (λ (z : Conf). let y : Conf = record z { waiting = d.waiting; vectors = d.vectors } in y) f.same;
        lanes = λ v p r. f.lanes v p r ∙ g.lanes v p (read_same a b f v p r);
        waiting = all_trans a.waiting b.waiting d.waiting f.waiting g.waiting;
      }

  all_itself : (a : List Frame) → AllAlike code rows a a
  all_itself [] = tt
  all_itself (x ∷ xs) = (record { same = refl; lanes = λ v p r off. refl }, all_itself xs)

  pub alike_itself : (a : Conf) → Alike code rows a a
  alike_itself a = record { same = refl; lanes = λ v p r. refl; waiting = all_itself a.waiting }

  pub states_trans : (s t u : State) → StatesAlike code rows s t → StatesAlike code rows t u → StatesAlike code rows s u
  states_trans (Runs a) (Runs b) (Runs d) f g = alike_trans a b d f g
  states_trans (Trapped x a) (Trapped y b) (Trapped z d) f g = (f.0 ∙ g.0, alike_trans a b d f.1 g.1)
  states_trans (Ended x a) (Ended y b) (Ended z d) f g = (f.0 ∙ g.0, alike_trans a b d f.1 g.1)
  states_trans (Runs a) (Trapped y b) u f g = absurd f
  states_trans (Runs a) (Ended y b) u f g = absurd f
  states_trans (Trapped x a) (Runs b) u f g = absurd f
  states_trans (Trapped x a) (Ended y b) u f g = absurd f
  states_trans (Ended x a) (Runs b) u f g = absurd f
  states_trans (Ended x a) (Trapped y b) u f g = absurd f
  states_trans (Runs a) (Runs b) (Trapped z d) f g = absurd g
  states_trans (Runs a) (Runs b) (Ended z d) f g = absurd g
  states_trans (Trapped x a) (Trapped y b) (Runs d) f g = absurd g
  states_trans (Trapped x a) (Trapped y b) (Ended z d) f g = absurd g
  states_trans (Ended x a) (Ended y b) (Runs d) f g = absurd g
  states_trans (Ended x a) (Ended y b) (Trapped z d) f g = absurd g
