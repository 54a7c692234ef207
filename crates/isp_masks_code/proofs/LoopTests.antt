-- The test of a loop: those that pass go on, and where nobody passes the loop ends.
use Rattle.std.proofs.Common.{◌≡◌, ◌≢◌, ℕ, ◌+◌, ◌*◌, ◌<◌, ◌≤◌, List, length, Bool, true, false, refl, sym, ap, ◌∙◌, subst, arith}
use Rattle.std.specs.Prelude.{not, if◌then◌else◌}
use Rattle.isp_base.specs.Maps.{on, where_true}
use Rattle.isp_base.specs.Sets.{Mask, nobody, without, any}
use Rattle.isp_base.specs.declared.types.Rate.{Rate}
use Rattle.isp_base.specs.declared.types.Rate.TheVariants.{Uniform, Varying}
use Rattle.isp_code.specs.Conf.{Conf}
use Rattle.isp_code.specs.Lines.{jumps}
use Rattle.isp_code.specs.declared.instr.Instr.{Instr}
use Rattle.isp_code.specs.declared.instr.JumpTest.TheVariants as jump
use Rattle.isp_meaning.specs.Outcomes.{Val, Gives, Fails, Stops, Res, Went, with_value, if_so}
use Rattle.isp_meaning.specs.Payloads.{Payload, is_true, kept_by}
use Rattle.isp_meaning.specs.State.{State}
use Rattle.isp_lower_code.specs.Layout.{register, mask_register}
use Rattle.isp_lower_code.specs.Runs.{Runs}
use Rattle.isp_lower_code.specs.Setting.{Setting, IsSettled, gang_of, AreAt, At, Holds, Allowed}
use Rattle.isp_lower_code.proofs.Lemmas.{put_same, put_other, comes_on, at_to, spares_all, spares_less, failed_less}
use Rattle.isp_lower_code.proofs.Lemmas.{stopped_less, jumped, jump_comes, jump_at, masked, where_comes, masked_at, any_nobody, where_inside, at_kept}
use Rattle.isp_masks_code.specs.LoopRuns.{TestRuns}
use Rattle.isp_masks_code.specs.Loops.{loop_end_code, sift_code}
use Rattle.isp_masks_code.specs.Spots.{Spot}
use Rattle.isp_masks_code.specs.StmtRuns.{AreThree, Inside, StmtRuns}
use Rattle.isp_masks_code.specs.declared.exits.Exits.{Exits}
use Rattle.isp_masks_code.proofs.Combine.{stmt_after}
use Rattle.isp_masks_code.proofs.LoopParts.{fewer, Gone, gone_moved, InLoop, end_runs}

module _ (w : Setting) (ready : IsSettled w) where
  module _ (wide : Bool) (e : Exits) (spot : Spot) (three : AreThree spot) (all : Mask) where
    -- the masks of the whole, and the first slot
    abbrev k : ℕ
    k = spot.on

    abbrev rr : ℕ
    rr = spot.returned

    abbrev n : ℕ
    n = spot.slot

    lk : k < n
    lk = three.low_on

    -- ---- the test

    -- what goes on after a test, for those that pass
    abbrev pub KeptRuns : ℕ → (ℕ → List Instr) → ℕ → ℕ → (Mask → Mask → State → Res) → Type 0
    KeptRuns t rest past end turn =
        (kept returned : Mask) (s : State) (c : Conf) (pc q : ℕ) → AreAt w.routine.code pc (rest pc) → pc + length (rest pc) ≡ past
        → InLoop w ready wide e spot three all pc kept returned s c → any (gang_of w) kept ≡ true → Inside w kept → q ≤ 32 * s.work
        → StmtRuns w t c end spot q (turn kept returned s)

    -- the test's value is known
    sifted : (t : ℕ) (r : Rate) (x pc past q : ℕ) (live returned : Mask) (m : Payload) (s : State) (c : Conf) (rest : ℕ → List Instr)
        (turn : Mask → Mask → State → Res) → pc + length (sift_code r x pc n rest) ≡ past → InLoop w ready wide e spot three all pc live returned s c → Inside w live
        → any (gang_of w) live ≡ true → Holds r live x m c → 4 + q ≤ 32 * s.work → AreAt w.routine.code pc (sift_code r x pc n rest)
        → AreAt w.routine.code past (loop_end_code e k rr n) → KeptRuns t rest past (past + length (loop_end_code e k rr n)) turn
        → StmtRuns w t c (past + length (loop_end_code e k rr n)) spot q
        (if_so (any (gang_of w) (kept_by is_true live m)) (turn (kept_by is_true live m) returned)
        (λ s1. Went s1 (without all returned) nobody nobody returned) s)
    sifted t Uniform x pc past q live returned m s c rest turn eq i inside some hold used has has_end f =
        subst (λ z. StmtRuns w t c end spot q (if_so (any (gang_of w) (kept_by is_true live z)) (turn (kept_by is_true live z) returned) (λ s1. Went s1 (without all returned) nobody nobody returned) s)) (sym hold)
        (stmt_after w ready t c c4 1 end spot q _ (jump_comes w ready c pc jump.False (register Uniform x) to i.at has.0) (spares_all w n c) (λ y lt ne. refl) three (go (is_true (c.scalars x)) refl))
      where
        to : ℕ
        to = pc + 1 + length (rest (pc + 1))

        end : ℕ
        end = past + length (loop_end_code e k rr n)

        to_past : to ≡ past
        to_past = omega (arith, eq)

        c4 : Conf
        c4 = jumped w ready c jump.False (register Uniform x) to

        at4 : (b : Bool) → is_true (c.scalars x) ≡ b → At w c4 (if not b then to else pc + 1)
        at4 b h = jump_at w ready c pc jump.False (register Uniform x) to (not b) i.at (ap not h)

        go : (b : Bool) → is_true (c.scalars x) ≡ b → StmtRuns w t c4 end spot (1 + q) (if_so (any (gang_of w) (if b then live else nobody)) (turn (if b then live else nobody) returned) (λ s1. Went s1 (without all returned) nobody nobody returned) s)
        go true h =
            subst (λ z. StmtRuns w t c4 end spot (1 + q) (if_so z (turn live returned) (λ s1. Went s1 (without all returned) nobody nobody returned) s)) (sym some)
            (f live returned s c4 (pc + 1) (1 + q) has.1 to_past
            (record { at = at4 true h; all_is = i.all_is; live_is = i.live_is; gone = gone_moved w ready wide e spot three all e.returns returned c c4 refl i.gone; stands = i.stands })
            some inside (omega (arith, used)))
        go false h =
            subst (λ z. StmtRuns w t c4 end spot (1 + q) (if_so z (turn nobody returned) (λ s1. Went s1 (without all returned) nobody nobody returned) s)) (sym (any_nobody (gang_of w)))
            (end_runs w ready wide e spot three all t past (1 + q) live returned s c4 (record {
              at = at_to w c4 to past (at4 false h) to_past;
              all_is = i.all_is;
              live_is = i.live_is;
              gone = gone_moved w ready wide e spot three all e.returns returned c c4
                  refl i.gone;
              stands = i.stands;
            }) (omega (arith, used)) has_end)
    sifted t Varying x pc past q live returned m s c rest turn eq i inside some hold used has has_end f =
        subst (λ z. StmtRuns w t c end spot q (if_so (any (gang_of w) z) (turn z returned) (λ s1. Went s1 (without all returned) nobody nobody returned) s)) (sym (at_kept Varying live is_true m ∙ ap (kept_by is_true live) hold))
        (stmt_after w ready t c c4 2 end spot q _ (comes_on w c c3 c4 1 1 (where_comes w ready c pc n x n i.at has.0)
        (jump_comes w ready c3 (pc + 1) jump.Off (mask_register n) to at3 has.1.0)) (spares_all w n c) (λ y lt ne. low y lt) three
        (go (any (gang_of w) kept) refl))
      where
        kept : Mask
        kept = where_true is_true (on live (c.vectors x))

        u3 : Mask
        u3 = where_true is_true (on (c.masks n) (c.vectors x))

        c3 : Conf
        c3 = masked w ready c n u3

        at3 : At w c3 (pc + 1)
        at3 = masked_at w ready c pc n u3 i.at

        to : ℕ
        to = pc + 1 + 1 + length (rest (pc + 1 + 1))

        end : ℕ
        end = past + length (loop_end_code e k rr n)

        to_past : to ≡ past
        to_past = omega (arith, eq)

        c4 : Conf
        c4 = jumped w ready c3 jump.Off (mask_register n) to

        low : (y : ℕ) → y < n → c4.masks y ≡ c.masks y
        low y lt = let ne : y ≢ n = omega arith in put_other c.masks n u3 y ne

        kept_is : c4.masks n ≡ kept
        kept_is = put_same c.masks n u3 ∙ ap (λ z. where_true is_true (on z (c.vectors x))) i.live_is

        n2 : n + 2 ≢ n
        n2 = omega arith

        gone4 : Gone w ready wide e spot three all e.returns returned c4
        gone4 = gone_moved w ready wide e spot three all e.returns returned c c4 (put_other c.masks n u3 (n + 2) n2) i.gone

        off_is : (b : Bool) → any (gang_of w) kept ≡ b → jumps w.code w.routine c3 jump.Off (mask_register n) ≡ not b
        off_is b h = ap (λ z. not (any (gang_of w) z)) kept_is ∙ ap not h

        at4 : (b : Bool) → any (gang_of w) kept ≡ b → At w c4 (if not b then to else pc + 1 + 1)
        at4 b h = jump_at w ready c3 (pc + 1) jump.Off (mask_register n) to (not b) at3 (off_is b h)

        go : (b : Bool) → any (gang_of w) kept ≡ b → StmtRuns w t c4 end spot (2 + q) (if_so b (turn kept returned) (λ s1. Went s1 (without all returned) nobody nobody returned) s)
        go true h =
            f kept returned s c4 (pc + 1 + 1) (2 + q) has.1.1 to_past
            (record { at = at4 true h; all_is = low k lk ∙ i.all_is; live_is = kept_is; gone = gone4; stands = i.stands }) h
            (where_inside (Allowed w) live is_true (c.vectors x) inside) (omega (arith, used))
        go false h =
            end_runs w ready wide e spot three all t past (2 + q) kept returned s c4
            (record { at = at_to w c4 to past (at4 false h) to_past; all_is = low k lk ∙ i.all_is; live_is = kept_is; gone = gone4; stands = i.stands })
            (omega (arith, used)) has_end

    -- from where the test begins
    pub tested_runs : (t : ℕ) (r : Rate) (x top past q : ℕ) (live returned : Mask) (s : State) (c : Conf) (code rest : ℕ → List Instr)
        (test : Mask → State → Val Payload) (turn : Mask → Mask → State → Res) → t ≤ w.turns
        → top + length (code top) + length (sift_code r x (top + length (code top)) n rest) ≡ past → InLoop w ready wide e spot three all top live returned s c → Inside w live
        → any (gang_of w) live ≡ true → q ≤ 32 * s.work → AreAt w.routine.code top (code top)
        → AreAt w.routine.code (top + length (code top)) (sift_code r x (top + length (code top)) n rest)
        → AreAt w.routine.code past (loop_end_code e k rr n) → TestRuns w n r x code test
        → KeptRuns t rest past (past + length (loop_end_code e k rr n)) turn
        → StmtRuns w t c (past + length (loop_end_code e k rr n)) spot q
        (with_value (test live s) (λ m s1. if_so (any (gang_of w) (kept_by is_true live m)) (turn (kept_by is_true live m) returned)
        (λ s2. Went s2 (without all returned) nobody nobody returned) s1))
    tested_runs t r x top past q live returned s c code rest test turn le eq i inside some used at_test at_sift at_end run f =
        go (test live s) (run live s c top q at_test (record { at = i.at; mask = i.live_is; some = some; inside = inside; stands = i.stands; used = used; low = omega arith }))
      where
        pc1 : ℕ
        pc1 = top + length (code top)

        end : ℕ
        end = past + length (loop_end_code e k rr n)

        go : (v : Val Payload) → Runs w c pc1 (n + 3) (4 + q) (Holds r live x) v
            → StmtRuns w t c end spot q (with_value v (λ m s1. if_so (any (gang_of w) (kept_by is_true live m))
            (turn (kept_by is_true live m) returned) (λ s2. Went s2 (without all returned) nobody nobody returned) s1))
        go (Gives m s1) ok =
            let c1 = ok.conf in
            let same : (y : ℕ) → y < n + 3 → c1.masks y ≡ c.masks y = ok.masks in
            stmt_after w ready t c c1 ok.steps end spot q _ ok.comes (spares_less w n (n + 3) c c1 (omega arith) ok.spares) (λ y lt ne. ok.masks y (omega arith)) three
            (sifted t r x pc1 past (ok.steps + q) live returned m s1 c1 rest turn eq
            (record {
              at = ok.at;
              all_is = ok.masks k (omega (arith, three.low_on)) ∙ i.all_is;
              live_is = ok.masks n (omega arith)
                  ∙ i.live_is;
              gone = gone_moved w ready wide e spot three all e.returns returned c c1 (ok.masks (n + 2) (omega arith)) i.gone;
              stands = ok.stands;
            }) inside some
            ok.holds (omega (arith, ok.bound)) at_sift at_end f)
        go (Fails p s1) bad = failed_less w ready c 4 q p s1 bad
        go (Stops s1) cut = fewer w ready w.turns t c q s1 le (stopped_less w ready w.turns c 4 q s1 cut)
        -- ---- turns, by induction on how many are left
