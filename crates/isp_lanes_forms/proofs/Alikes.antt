-- Configurations that are alike: what tables say of masks holds of both, and they look the same.
use Rattle.std.proofs.Common.{◌≡◌, ℕ, List, [], ◌∷◌, map, refl, sym, ap, ap₂, ◌∙◌, subst}
use Rattle.isp_base.specs.Sets.{everyone}
use Rattle.isp_base.specs.Types.{gang_width}
use Rattle.isp_code.specs.Conf.{Conf, Frame, State, Runs, Trapped, Ended}
use Rattle.isp_code.specs.Listing.{Listing}
use Rattle.isp_forms.specs.Runs.{LooksLike, StatesLook}
use Rattle.isp_lanes_read.specs.Lanes.{IsWithin, meaning, frame_sets, called_for, IsTold}
use Rattle.isp_lanes_read.specs.Rows.{Rows, row_at}
use Rattle.isp_lanes_read.specs.Standing.{WaitsRight, AllWaitRight, Holds, FramesAlike, AllAlike, Alike, StatesAlike, takes_lanes}

module _ (code : Listing) (rows : Rows) where
  -- a call is for the same lanes
  called_same : (ws vs : List Frame) → AllAlike code rows ws vs → called_for (gang_width code.gang) ws ≡ called_for (gang_width code.gang) vs
  called_same [] [] all = refl
  called_same (fr ∷ rest) (fr1 ∷ rest1) all = sym (ap (λ z. z.under) all.0.same)
  called_same [] (fr1 ∷ rest1) all = absurd all
  called_same (fr ∷ rest) [] all = absurd all

  told_same : (fr fr1 : Frame) (rest rest1 : List Frame) → FramesAlike code rows fr fr1 rest → AllAlike code rows rest rest1
      → IsTold (frame_sets code fr rest) (row_at rows fr.home.fn fr.pc) → IsTold (frame_sets code fr1 rest1) (row_at rows fr1.home.fn fr1.pc)
  told_same fr fr1 rest rest1 alike all told =
      subst (λ z. IsTold (frame_sets code z rest1) (row_at rows z.home.fn z.pc)) (sym alike.same)
      (subst (λ call. IsTold (meaning (gang_width code.gang) fr.masks call) (row_at rows fr.home.fn fr.pc)) (called_same rest rest1 all) told)

  waits_same : (fn : ℕ) (fr fr1 : Frame) (rest rest1 : List Frame) → FramesAlike code rows fr fr1 rest → AllAlike code rows rest rest1 → WaitsRight code rows fn fr rest → WaitsRight code rows fn fr1 rest1
  waits_same fn fr fr1 rest rest1 alike all w =
      record {
        told = told_same fr fr1 rest rest1 alike all w.told;
        inside = λ k. subst (λ z. IsWithin (z.masks k) (everyone (gang_width code.gang))) (sym alike.same) (w.inside k);
        under_inside = subst (λ z. IsWithin z.under (everyone (gang_width code.gang))) (sym alike.same) w.under_inside;
        gives = λ e. w.gives (sym (ap (λ z. takes_lanes z.result) alike.same) ∙ e);
      }

  all_wait : (fn : ℕ) (ws vs : List Frame) → AllAlike code rows ws vs → AllWaitRight code rows fn ws → AllWaitRight code rows fn vs
  all_wait fn [] [] all w = tt
  all_wait fn (fr ∷ rest) (fr1 ∷ rest1) all w =
      (waits_same fn fr fr1 rest rest1 all.0 all.1 w.0, subst (λ n. AllWaitRight code rows n rest1) (sym (ap (λ z. z.home.fn) all.0.same)) (all_wait fr.home.fn rest rest1 all.1 w.1))
  all_wait fn [] (fr1 ∷ rest1) all w = absurd all
  all_wait fn (fr ∷ rest) [] all w = absurd all

  pub holds_same : (c d : Conf) → Alike code rows c d → Holds code rows c → Holds code rows d
  holds_same c d alike h =
      record {
        told = subst (λ z. IsTold (meaning (gang_width code.gang) z.masks (called_for (gang_width code.gang) d.waiting)) (row_at rows z.home.fn z.pc)) (sym alike.same)
            (subst (λ call. IsTold (meaning (gang_width code.gang) c.masks call) (row_at rows c.home.fn c.pc)) (called_same c.waiting d.waiting alike.waiting) h.told);
        inside = λ k. subst (λ z. IsWithin (z.masks k) (everyone (gang_width code.gang))) (sym alike.same) (h.inside k);
        waiting = subst (λ z. AllWaitRight code rows z.home.fn d.waiting) (sym alike.same) (all_wait c.home.fn c.waiting d.waiting alike.waiting h.waiting);
      }

  -- ---- a configuration is like itself, and so with another output

  all_itself : (a : List Frame) → AllAlike code rows a a
  all_itself [] = tt
  all_itself (x ∷ xs) = (record { same = refl; lanes = λ v p r off. refl }, all_itself xs)

  pub alike_itself : (a : Conf) → Alike code rows a a
  alike_itself a = record { same = refl; lanes = λ v p r. refl; waiting = all_itself a.waiting }

  -- the same, but for vectors, whose lanes are equal
  pub alike_by_lanes : (a b : Conf) → b ≡ record a { vectors = b.vectors } → ((v p : ℕ) → a.vectors v p ≡ b.vectors v p) → Alike code rows a b
  alike_by_lanes a b same lanes =
      record {
        same = same ∙ ap (λ ws. let y : Conf = record a { waiting = ws; vectors = b.vectors } in y) (sym (ap (λ (z : Conf). z.waiting) same));
        lanes = λ v p r. lanes v p;
        waiting = subst (AllAlike code rows a.waiting) (sym (ap (λ (z : Conf). z.waiting) same)) (all_itself a.waiting);
      }

  pub with_out : (a b : Conf) (o : List ℕ) → Alike code rows a b → Alike code rows (record a { out = o }) (record b { out = o })
  with_out a b o alike = record { same = ap (λ (z : Conf). let y : Conf = record z { out = o } in y) alike.same; lanes = alike.lanes; waiting = alike.waiting }

  -- ---- what is seen

  homes_same : (ws vs : List Frame) → AllAlike code rows ws vs → map (λ (fr : Frame). fr.home) vs ≡ map (λ (fr : Frame). fr.home) ws
  homes_same [] [] all = refl
  homes_same (fr ∷ rest) (fr1 ∷ rest1) all = ap₂ (λ h hs. h ∷ hs) (ap (λ (z : Frame). z.home) all.0.same) (homes_same rest rest1 all.1)
  homes_same [] (fr1 ∷ rest1) all = absurd all
  homes_same (fr ∷ rest) [] all = absurd all

  looks : (c d : Conf) → Alike code rows c d → LooksLike c d
  looks c d alike =
      record {
        home_is = ap (λ (z : Conf). z.home) alike.same;
        waiting_is = homes_same c.waiting d.waiting alike.waiting;
        arrays_are = ap (λ (z : Conf). z.arrays) alike.same;
        out_is = ap (λ (z : Conf). z.out) alike.same;
      }

  pub states_look : (s t : State) → StatesAlike code rows s t → StatesLook s t
  states_look (Runs c) (Runs d) alike = looks c d alike
  states_look (Trapped t c) (Trapped u d) alike = (alike.0, looks c d alike.1)
  states_look (Ended x c) (Ended y d) alike = (alike.0, looks c d alike.1)
  states_look (Runs c) (Trapped u d) alike = absurd alike
  states_look (Runs c) (Ended y d) alike = absurd alike
  states_look (Trapped t c) (Runs d) alike = absurd alike
  states_look (Trapped t c) (Ended y d) alike = absurd alike
  states_look (Ended x c) (Runs d) alike = absurd alike
  states_look (Ended x c) (Trapped u d) alike = absurd alike

  pub state_itself : (s : State) → StatesAlike code rows s s
  state_itself (Runs c) = alike_itself c
  state_itself (Trapped t c) = (refl, alike_itself c)
  state_itself (Ended x c) = (refl, alike_itself c)
