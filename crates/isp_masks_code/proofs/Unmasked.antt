-- `unmasked` does what it means, where the code of its block does; and what a body leaves as it was that runs under masks of its
-- own.
use Rattle.std.proofs.Common.{◌≡◌, ◌≢◌, ℕ, ◌+◌, ◌<◌, List, length, true, refl, ◌∙◌, arith, ◌*◌, ◌≤◌}
use Rattle.std.proofs.lemmas.Bool.{ltb-true}
use Rattle.isp_base.proofs.Gangs.{someone}
use Rattle.isp_base.specs.Sets.{Mask, everyone, any}
use Rattle.isp_code.specs.Conf.{Conf}
use Rattle.isp_code.specs.declared.instr.Instr.{Instr}
use Rattle.isp_meaning.specs.Outcomes.{Res, went_all, go_on}
use Rattle.isp_meaning.specs.State.{State, tick}
use Rattle.isp_lower_code.specs.Setting.{Setting, IsSettled, gang_of, AreAt, At, Stands}
use Rattle.isp_lower_code.proofs.Lemmas.{put_same, put_other, step_go, at_to, spares_all, spares_less, masked, masked_at}
use Rattle.isp_masks_code.specs.Rounds.{fill_mask, unmasked_code}
use Rattle.isp_masks_code.specs.Spots.{Spot, body_spot}
use Rattle.isp_masks_code.specs.StmtRuns.{AreThree, EntersAt, StmtOk, StmtRuns}
use Rattle.isp_masks_code.proofs.Combine.{stmt_after, go_runs, plain_ok}

pub everyone_inside : (n p : ℕ) → everyone n p ≡ true → p < n
everyone_inside n p h = ltb-true p n h

-- where the body begins, instances of the gang are on, members of a run or not
pub record AllEnter (w : Setting) (pc n : ℕ) (a : Mask) (s : State) (c : Conf) (q : ℕ) : Type 0 where
  pub at : At w c pc
  pub mask : c.masks n ≡ a
  pub some : any (gang_of w) a ≡ true
  pub inside : (p : ℕ) → a p ≡ true → p < gang_of w
  pub stands : Stands w s c
  pub used : q ≤ 32 * s.work

abbrev pub AllRuns : Setting → ℕ → (ℕ → List Instr) → (Mask → State → Res) → Type 0
AllRuns w n code v =
    (T : Mask) (s : State) (c : Conf) (pc z : ℕ) → AreAt w.routine.code pc (code pc) → AllEnter w pc n T s c z → StmtRuns w w.turns c (pc + length (code pc)) (body_spot n) z (v T s)

module _ (w : Setting) (ready : IsSettled w) where
  -- the masks of lower slots are as they were
  pub masks_stay : (c : Conf) (pc n q : ℕ) (s : State) (g ct rt : Mask) (ok : StmtOk w c pc (body_spot n) q s g ct rt) (r : ℕ) → r < n → ok.conf.masks r ≡ c.masks r
  masks_stay c pc n q s g ct rt ok r lt =
      let ne0 : r ≢ n = omega arith in
      let ne1 : r ≢ n + 1 = omega arith in
      let ne2 : r ≢ n + 2 = omega arith in
      ok.masks r (omega arith) ne0 ne1 ne2

  -- the set that came goes on
  pub unmasked_runs : (pc : ℕ) (spot : Spot) (q : ℕ) (a : Mask) (s : State) (c : Conf) (code : ℕ → List Instr) (body : Mask → State → Res)
      → AllRuns w spot.slot code body → AreAt w.routine.code pc (unmasked_code spot.slot pc code) → AreThree spot → EntersAt w pc spot a s c q
      → StmtRuns w w.turns c (pc + length (unmasked_code spot.slot pc code)) spot q
      (go_on (body (everyone (gang_of w)) (tick s)) (λ s1 g b ct rt. went_all a s1))
  unmasked_runs pc spot q a s c code body runs has three b =
      let n = spot.slot in
      let all = everyone (gang_of w) in
      let c1 = masked w ready c n all in
      let kn : spot.on ≢ n = omega (arith, three.low_on) in
      let to : pc + 1 + length (code (pc + 1)) ≡ pc + length (unmasked_code n pc code) = omega arith in
      stmt_after w ready w.turns c c1 1 (pc + length (unmasked_code n pc code)) spot q _ (step_go w c pc (fill_mask n) c1 ready b.at has.0 refl) (spares_all w n c) (λ r lt ne. let rn : r ≢ n = omega arith in put_other c.masks n all r rn) three
      (go_runs w ready w.turns c1 (pc + 1 + length (code (pc + 1))) (body_spot n) 0 (1 + q) (body all (tick s)) _ (pc + length (unmasked_code n pc code)) spot
      (runs all (tick s) c1 (pc + 1) (0 + (1 + q)) has.1
      (record {
        at = masked_at w ready c pc n all b.at;
        mask = put_same c.masks n all;
        some = someone w.code.gang;
        inside = everyone_inside
            (gang_of w);
        stands = b.stands;
        used = omega (arith, b.used);
      }))
      (λ s1 g u ct rt e ok. plain_ok w ready c1 ok.conf ok.steps (pc + length (unmasked_code n pc code)) spot (1 + q) a s1 ok.comes
      (at_to w ok.conf _ _ ok.at to) ok.stands (spares_less w n (n + 3) c1 ok.conf (omega arith) ok.spares)
      (λ r lt. masks_stay c1 _ n _ s1 g ct rt ok r lt) three (put_other c.masks n all spot.on kn ∙ b.mask) (omega (arith, ok.bound))))
