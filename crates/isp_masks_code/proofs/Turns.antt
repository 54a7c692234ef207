-- The turns of a loop: a turn, the test after it, and what stands between two turns; by induction on the turns that are
-- left.
use Rattle.std.proofs.Common.{◌≡◌, ◌≢◌, ℕ, zero, suc, ◌+◌, ◌*◌, ◌<◌, ◌≤◌, List, [], ◌∷◌, ◌++◌, length, Bool, true, false, refl, sym, ap, ◌∙◌, subst, arith, length-append}
use Rattle.std.specs.Prelude.{not, if◌then◌else◌, ◌||◌}
use Rattle.isp_base.specs.Maps.{on, where_true}
use Rattle.isp_base.specs.Sets.{Mask, nobody, union, without, any}
use Rattle.isp_base.specs.declared.types.Rate.{Rate}
use Rattle.isp_base.specs.declared.types.Rate.TheVariants.{Uniform, Varying}
use Rattle.isp_code.specs.Conf.{Conf}
use Rattle.isp_code.specs.Lines.{jumps}
use Rattle.isp_code.specs.declared.instr.Instr.{Instr}
use Rattle.isp_code.specs.declared.instr.Instr.TheVariants as instr
use Rattle.isp_code.specs.declared.instr.JumpTest.TheVariants as jump
use Rattle.isp_meaning.specs.Laws.{Parted}
use Rattle.isp_meaning.specs.Loops.{loop_end, stepped, turns}
use Rattle.isp_meaning.specs.Outcomes.{Val, Gives, Fails, Stops, Done, Res, Went, Trapped, Cut, go_on, with_value, if_so}
use Rattle.isp_meaning.specs.Payloads.{Payload, is_true, kept_by, bit}
use Rattle.isp_meaning.specs.State.{State, tick}
use Rattle.isp_lower_code.specs.Pieces.{two}
use Rattle.isp_lower_code.specs.Layout.{register, mask_register}
use Rattle.isp_lower_code.specs.Runs.{Comes, Runs, DoneRuns}
use Rattle.isp_lower_code.specs.Setting.{Setting, IsSettled, gang_of, AreAt, At, Holds, Allowed}
use Rattle.isp_lower_code.proofs.Lemmas.{are_front, are_back, put_same, put_other, comes_none, comes_on, step_go, at_to, spares_all, spares_less, spares_on, failed_after, stopped_after, failed_less}
use Rattle.isp_lower_code.proofs.Lemmas.{stopped_less, jumped, jump_comes, jump_at, masked, where_comes, masked_at, any_nobody, where_inside, at_kept}
use Rattle.isp_masks_code.specs.LoopRuns.{TestRuns, BodyRuns, StepRuns}
use Rattle.isp_masks_code.specs.Loops.{if_needed, enter_code, loop_end_code, rejoin_code, turn_code, live_code, again_code, next_code}
use Rattle.isp_masks_code.specs.Sets.{clear_mask}
use Rattle.isp_masks_code.specs.Spots.{Spot, body_spot}
use Rattle.isp_masks_code.specs.StmtRuns.{AreThree, EntersAt, Inside, StmtOk, StmtRuns}
use Rattle.isp_masks_code.specs.declared.exits.Exits.{Exits}
use Rattle.isp_masks_code.proofs.Combine.{stmt_after}
use Rattle.isp_masks_code.specs.Exits.{nobody_leaves, Leave}
use Rattle.isp_masks_code.proofs.Members.{none_of, whole}
use Rattle.isp_masks_code.proofs.Unions.{union_nobody}
use Rattle.isp_masks_code.proofs.LoopParts.{fewer, stmt_further, Gone, gone_moved, InLoop, end_runs, Moved, cleared, rejoined, entered}
use Rattle.isp_masks_code.proofs.LoopTests.{KeptRuns}

-- ---- sets of a turn

second_so : (x y : Bool) → y ≡ true → (x || y) ≡ true
second_so true y h = refl
second_so false y h = h

third_in : (x y : Bool) (m n l : ℕ) → m + (n + (bit x + l)) ≡ bit y → x ≡ true → y ≡ true
third_in x true m n l e h = refl
third_in true false m n l e h = absurd (omega (arith, e))
third_in false false m n l e h = absurd (cc)

first_in : (x y : Bool) (n : ℕ) → bit x + n ≡ bit y → x ≡ true → y ≡ true
first_in x true n e h = refl
first_in true false n e h = absurd (omega (arith, e))
first_in false false n e h = absurd (cc)

-- those that went on or continued are of the set
live_in : (a g b c r : Mask) (s : State) → Parted a (Went s g b c r) → (p : ℕ) → union g c p ≡ true → a p ≡ true
live_in a g b c r s parts p h = go (g p) refl h
  where
    go : (x : Bool) → g p ≡ x → (x || c p) ≡ true → a p ≡ true
    go true e k = first_in (g p) (a p) _ (parts p) e
    go false e k = third_in (c p) (a p) _ _ _ (parts p) k

module _ (w : Setting) (ready : IsSettled w) where
  module _ (wide : Bool) (e : Exits) (spot : Spot) (three : AreThree spot) (all : Mask) where
    -- the masks of the whole, and the first slot
    abbrev k : ℕ
    k = spot.on

    abbrev rr : ℕ
    rr = spot.returned

    abbrev n : ℕ
    n = spot.slot

    lk : k < n
    lk = three.low_on

    -- where a turn begins with some kept: the body runs, and what follows goes on from those that are live
    pub turn_runs : (m pc end q : ℕ) (kept returned : Mask) (s : State) (c : Conf) (code : ℕ → List Instr) (body : Mask → State → Res)
        (go : Mask → Mask → State → Res) → m ≤ w.turns → InLoop w ready wide e spot three all pc kept returned s c → any (gang_of w) kept ≡ true → Inside w kept → q ≤ 32 * s.work
        → AreAt w.routine.code pc (turn_code wide e pc n code) → BodyRuns w n code body → ((T : Mask) (s : State) → Parted T (body T s))
        → ((T : Mask) (s : State) → Leave e (body T s)) →
        ((live returned : Mask) (s1 : State) (c1 : Conf) (q1 : ℕ) → InLoop w ready wide e spot three all (pc + length (turn_code wide e pc n code)) live returned s1 c1
        → ((p : ℕ) → live p ≡ true → kept p ≡ true) → (nobody_leaves e ≡ true → live ≡ kept) → 10 + q1 ≤ 32 * s1.work
        → StmtRuns w m c1 end spot q1 (go live returned s1))
        → StmtRuns w m c end spot q (go_on (body kept (tick s)) (λ s1 g b c r. go (union g c) (union returned r) s1))
    turn_runs m pc end q kept returned s c code body go le i some inside used has run parts leaves next =
        let first = cleared w ready wide e spot three all pc kept returned s c i (are_front w.routine.code pc (if_needed e.continues (clear_mask (n + 1) ∷ [])) _ has) in
        with_body first (body kept (tick s)) (run kept (tick s) first.0.conf p1 (first.0.steps + (12 + q)) at_body
        (record {
          at = first.0.loop.at;
          mask = first.0.loop.live_is;
          some = some;
          inside = inside;
          stands = first.0.loop.stands;
          used = omega
              (arith, used, first.0.few);
          low = omega arith;
        })) (parts kept (tick s)) (leaves kept (tick s))
      where
        clear : List Instr
        clear = if_needed e.continues (clear_mask (n + 1) ∷ [])

        p1 : ℕ
        p1 = pc + length clear

        p2 : ℕ
        p2 = p1 + length (code p1)

        join : List Instr
        join = rejoin_code wide e p2 n

        rest : AreAt w.routine.code p1 (code p1 ++ join)
        rest = are_back w.routine.code pc clear (code p1 ++ join) has

        at_body : AreAt w.routine.code p1 (code p1)
        at_body = are_front w.routine.code p1 (code p1) join rest

        at_join : AreAt w.routine.code p2 join
        at_join = are_back w.routine.code p1 (code p1) join rest

        ends : p2 + length join ≡ pc + length (turn_code wide e pc n code)
        ends = omega (arith, length-append clear (code p1 ++ join), length-append (code p1) join)

        -- after the body, before those that continued come back
        behind_body : (g b ct rt : Mask) (s1 : State) (z : ℕ) (c1 : Conf) → (ok : StmtOk w c1 p2 (body_spot n) z s1 g ct rt)
            → c1.masks k ≡ all → Gone w ready wide e spot three all e.returns returned c1 → Leave e (Went s1 g b ct rt) → InLoop w ready wide e spot three all p2 g (union returned rt) s1 ok.conf
        behind_body g b ct rt s1 z c1 ok ek gone leave = record {
          at = ok.at;
          all_is = (let k0 : k ≢ n = omega (arith, three.low_on) in let k1 : k ≢ n + 1 = omega (arith, three.low_on) in let k2 : k ≢ n + 2 = omega (arith, three.low_on) in ok.masks k (omega (arith, three.low_on)) k0 k1 k2) ∙ ek;
          live_is = ok.went;
          gone = gone2 e.returns refl gone;
          stands = ok.stands;
        }
          where
            gone2 : (x : Bool) → e.returns ≡ x → Gone w ready wide e spot three all x returned c1 → Gone w ready wide e spot three all x (union returned rt) ok.conf
            gone2 true er h = ok.returned ∙ ap (λ m. union m rt) h
            gone2 false er h = ap (λ m. union m rt) h ∙ ap (union nobody) (leave.2 er)

        with_body : (first : (m : Moved w ready wide e spot three all p1 kept returned s c 1) × (e.continues ≡ true → m.conf.masks (n + 1) ≡ nobody)) (v : Res)
            → StmtRuns w w.turns first.0.conf p2 (body_spot n) (first.0.steps + (12 + q)) v → Parted kept v → Leave e v
            → StmtRuns w m c end spot q (go_on v (λ s1 g b c r. go (union g c) (union returned r) s1))
        with_body first (Trapped t s1) r pa lv = failed_after w ready c first.0.conf first.0.steps q t s1 first.0.comes
            (failed_less w ready first.0.conf 12 (first.0.steps + q) t s1
            (let eq : first.0.steps + (12 + q) ≡ 12 + (first.0.steps + q) = omega arith in subst
            (λ z. StmtRuns w w.turns first.0.conf p2 (body_spot n) z (Trapped t s1)) eq r))
        with_body first (Cut s1) r pa lv = fewer w ready w.turns m c q s1 le
            (stopped_after w ready w.turns c first.0.conf first.0.steps q s1 first.0.comes
            (stopped_less w ready w.turns first.0.conf 12 (first.0.steps + q) s1
            (let eq : first.0.steps + (12 + q) ≡ 12 + (first.0.steps + q) = omega arith in subst
            (λ z. StmtRuns w w.turns first.0.conf p2 (body_spot n) z (Cut s1)) eq r)))
        with_body first (Went s1 g b ct rt) r pa lv =
            let f = first.0 in
            let i2 = behind_body g b ct rt s1 (f.steps + (12 + q)) f.conf r f.loop.all_is f.loop.gone lv in
            let those : e.continues ≡ true → r.conf.masks (n + 1) ≡ ct = (λ ec. r.continued ∙ ap (λ m. union m ct) (first.1 ec)) in
            let in_gang : Inside w ct = (λ p h. inside p (live_in kept g b ct rt s1 pa p (second_so (g p) (ct p) h))) in
            let j = rejoined w ready wide e spot three all p2 g (union returned rt) ct s1 r.conf i2 those lv.1 in_gang at_join in
            let d = f.steps + (r.steps + j.steps) in
            let low : (x : ℕ) → x < n → j.conf.masks x ≡ c.masks x =
            (λ x lt. (let x0 : x ≢ n = omega arith in let x1 : x ≢ n + 1 = omega arith in let x2 : x ≢ n + 2 = omega arith in j.masks x lt ∙ r.masks x (omega arith) x0 x1 x2) ∙ f.masks x lt) in
            stmt_after w ready m c j.conf d end spot q (go (union g ct) (union returned rt) s1)
            (comes_on w c f.conf j.conf f.steps (r.steps + j.steps) f.comes (comes_on w f.conf r.conf j.conf r.steps j.steps r.comes j.comes))
            (spares_on w n c f.conf j.conf f.spares (spares_on w n f.conf r.conf j.conf
            (spares_less w n (n + 3) f.conf r.conf (omega arith) r.spares) j.spares)) (λ x lt ne. low x lt) three
            (next (union g ct) (union returned rt) s1 j.conf (d + q) (subst (λ z. InLoop w ready wide e spot three all z (union g ct) (union returned rt) s1 j.conf) ends j.loop)
            (live_in kept g b ct rt s1 pa) (λ none. ap (union g) (lv.1 (none_of e.breaks e.continues e.returns none).1) ∙ union_nobody g
            ∙ whole e kept g b ct rt s1 pa lv none) (omega (arith, r.bound, j.few)))

    -- what stands after a turn is asked: the step and the test for those that are live, if there are any, and the next turn;
    -- else the end
    abbrev pub Behind : ℕ → (ℕ → List Instr) → ℕ → ℕ → (Mask → Mask → State → Res) → Type 0
    Behind m code past end next =
        (live returned : Mask) (s : State) (c : Conf) (pc q : ℕ) → AreAt w.routine.code pc (code pc) → pc + length (code pc) ≡ past
        → InLoop w ready wide e spot three all pc live returned s c → Inside w live → (nobody_leaves e ≡ true → any (gang_of w) live ≡ true) → 10 + q ≤ 32 * s.work
        → StmtRuns w (suc m) c end spot q (if_so (any (gang_of w) live) (next live returned)
        (λ s1. Went s1 (without all returned) nobody nobody returned) s)

    module _ (past end : ℕ) (body_code behind : ℕ → List Instr) (test : Mask → State → Val Payload) (body : Mask → State → Res) (step : Mask → State → Val Done) where
      abbrev pub turns_of : ℕ → Mask → Mask → State → Res
      turns_of = turns (gang_of w) test body step all

      abbrev pub rest : ℕ → List Instr
      rest pc = two pc (turn_code wide e pc n body_code) behind

      pub kept_runs : BodyRuns w n body_code body → ((T : Mask) (s : State) → Parted T (body T s)) → ((T : Mask) (s : State) → Leave e (body T s))
          → ((m : ℕ) → suc m ≤ w.turns → KeptRuns w ready wide e spot three all m rest past end (turns_of m)
          → Behind m behind past end (stepped (gang_of w) test body step all (turns_of m))) → (m : ℕ) → m ≤ w.turns
          → KeptRuns w ready wide e spot three all m rest past end (turns_of m)
      kept_runs run_body parts leaves next zero le kept returned s c pc q has to i some inside used = record { conf = c; steps = 0; far = omega arith; goes = comes_none w c; out_is = i.stands.out_is; bound = omega (arith, used) }
      kept_runs run_body parts leaves next (suc m) le kept returned s c pc q has to i some inside used =
          turn_runs (suc m) pc end q kept returned s c body_code body
          (λ live ret s1. if_so (any (gang_of w) live) (stepped (gang_of w) test body step all (turns_of m) live ret)
          (loop_end (gang_of w) test body step all ret) s1) le i some inside used
          (are_front w.routine.code pc (turn_code wide e pc n body_code) _ has) run_body parts leaves
          (on_from (next m le (kept_runs run_body parts leaves next m (omega (arith, le)))))
        where
          turn : List Instr
          turn = turn_code wide e pc n body_code

          pc1 : ℕ
          pc1 = pc + length turn

          on_from : Behind m behind past end (stepped (gang_of w) test body step all (turns_of m))
              → (live ret : Mask) (s1 : State) (c1 : Conf) (q1 : ℕ) → InLoop w ready wide e spot three all pc1 live ret s1 c1 → ((p : ℕ) → live p ≡ true → kept p ≡ true)
              → (nobody_leaves e ≡ true → live ≡ kept) → 10 + q1 ≤ 32 * s1.work
              → StmtRuns w (suc m) c1 end spot q1 (if_so (any (gang_of w) live) (stepped (gang_of w) test body step all (turns_of m) live ret)
              (loop_end (gang_of w) test body step all ret) s1)
          on_from f live ret s1 c1 q1 j sub whole le1 =
              f live ret s1 c1 pc1 q1 (are_back w.routine.code pc turn (behind pc1) has) (omega (arith, to, length-append turn (behind pc1))) j (λ p h. inside p (sub p h)) (λ h. ap (any (gang_of w)) (whole h) ∙ some) le1

    -- a step of the machine to another instruction of the loop
    moved_on : (pc : ℕ) (live returned : Mask) (s : State) (c : Conf) (to : ℕ) → InLoop w ready wide e spot three all pc live returned s c → InLoop w ready wide e spot three all to live returned s (record c { pc = to })
    moved_on pc live returned s c to i = record {
      at = record { home_is = i.at.home_is; waiting_is = i.at.waiting_is; pc_is = refl };
      all_is =
          i.all_is;
      live_is = i.live_is;
      gone = gone_moved w ready wide e spot three all e.returns returned c (record c { pc = to }) refl i.gone;
      stands = i.stands;
    }

    -- what is for those that are live
    live_runs : (t : ℕ) (d : Bool) (past end pc q : ℕ) (live returned : Mask) (s : State) (c : Conf) (code : ℕ → List Instr)
        (go : Mask → Mask → State → Res) → end ≡ past + length (loop_end_code e k rr n) → (d ≡ true → any (gang_of w) live ≡ true)
        → AreAt w.routine.code pc (live_code d n pc code) → pc + length (live_code d n pc code) ≡ past
        → AreAt w.routine.code past (loop_end_code e k rr n) → InLoop w ready wide e spot three all pc live returned s c → 10 + q ≤ 32 * s.work
        → ((c1 : Conf) (pc1 q1 : ℕ) → AreAt w.routine.code pc1 (code pc1) → pc1 + length (code pc1) ≡ past → InLoop w ready wide e spot three all pc1 live returned s c1
        → any (gang_of w) live ≡ true → 9 + q1 ≤ 32 * s.work → StmtRuns w t c1 end spot q1 (go live returned s))
        → StmtRuns w t c end spot q (if_so (any (gang_of w) live) (go live returned) (λ s1. Went s1 (without all returned) nobody nobody returned) s)
    live_runs t true past end pc q live returned s c code go ends must has to at_end i used f =
        subst (λ z. StmtRuns w t c end spot q (if_so z (go live returned) (λ s1. Went s1 (without all returned) nobody nobody returned) s)) (sym (must refl)) (f c pc q has to i (must refl) (omega (arith, used)))
    live_runs t false past end pc q live returned s c code go ends must has to at_end i used f =
        stmt_after w ready t c c4 1 end spot q _ (jump_comes w ready c pc jump.Off (mask_register n) out i.at has.0) (spares_all w n c) (λ y lt ne. refl) three (by (any (gang_of w) live) refl)
      where
        out : ℕ
        out = pc + 1 + length (code (pc + 1))

        out_is : out ≡ past
        out_is = omega (arith, to)

        c4 : Conf
        c4 = jumped w ready c jump.Off (mask_register n) out

        off_is : (b : Bool) → any (gang_of w) live ≡ b → jumps w.code w.routine c jump.Off (mask_register n) ≡ not b
        off_is b h = ap (λ z. not (any (gang_of w) z)) i.live_is ∙ ap not h

        in4 : (pc1 : ℕ) → At w c4 pc1 → InLoop w ready wide e spot three all pc1 live returned s c4
        in4 pc1 at = record { at = at; all_is = i.all_is; live_is = i.live_is; gone = gone_moved w ready wide e spot three all e.returns returned c c4 refl i.gone; stands = i.stands }

        by : (b : Bool) → any (gang_of w) live ≡ b → StmtRuns w t c4 end spot (1 + q) (if_so b (go live returned) (λ s1. Went s1 (without all returned) nobody nobody returned) s)
        by true h = f c4 (pc + 1) (1 + q) has.1 out_is (in4 (pc + 1) (jump_at w ready c pc jump.Off (mask_register n) out false i.at (off_is true h))) h (omega (arith, used))
        by false h =
            subst (λ z. StmtRuns w t c4 z spot (1 + q) (Went s (without all returned) nobody nobody returned)) (sym ends)
            (end_runs w ready wide e spot three all t past (1 + q) live returned s c4 (in4 past (at_to w c4 out past (jump_at w ready c pc jump.Off (mask_register n) out true i.at (off_is false h)) out_is)) (omega (arith, used)) at_end)

    -- ---- the step, and what leads back

    -- what goes on from where a turn begins, or the test before it
    abbrev pub TopRuns : ℕ → ℕ → ℕ → (Mask → Mask → State → Res) → Type 0
    TopRuns t top end value =
        (q : ℕ) (live returned : Mask) (s : State) (c : Conf) → InLoop w ready wide e spot three all top live returned s c → Inside w live → any (gang_of w) live ≡ true → q ≤ 32 * s.work → StmtRuns w t c end spot q (value live returned s)

    -- what leads back to the next turn, after the step
    abbrev pub BackRuns : ℕ → (ℕ → List Instr) → ℕ → ℕ → (Mask → Mask → State → Res) → Type 0
    BackRuns m back past end next =
        (live returned : Mask) (s : State) (c : Conf) (pc q : ℕ) → AreAt w.routine.code pc (back pc) → pc + length (back pc) ≡ past
        → InLoop w ready wide e spot three all pc live returned s c → Inside w live → any (gang_of w) live ≡ true → 4 + q ≤ 32 * s.work
        → StmtRuns w (suc m) c end spot q (next live returned s)

    pub step_runs : (m past end : ℕ) (step_code back : ℕ → List Instr) (step : Mask → State → Val Done) (next : Mask → Mask → State → Res)
        → suc m ≤ w.turns → end ≡ past + length (loop_end_code e k rr n) → AreAt w.routine.code past (loop_end_code e k rr n)
        → StepRuns w n step_code step → BackRuns m back past end next
        → Behind m (λ pc. next_code e n pc step_code back) past end (λ live returned s. with_value (step live s) (λ _ s1. next live returned s1))
    step_runs m past end step_code back step next le ends at_end run f live returned s c pc q has to i inside must used =
        live_runs (suc m) (nobody_leaves e) past end pc q live returned s c (λ pc1. two pc1 (step_code pc1) back) (λ live returned s. with_value (step live s) (λ _ s1. next live returned s1)) ends must has to at_end i used
        (λ c1 pc1 q1 at1 to1 i1 some used1. go c1 pc1 q1 i1 some (step live s) at1 to1
        (run live s c1 pc1 (4 + q1) (are_front w.routine.code pc1 (step_code pc1) (back (pc1 + length (step_code pc1))) at1)
        (record {
          at = i1.at;
          mask = i1.live_is;
          some = some;
          inside = inside;
          stands = i1.stands;
          used = omega (arith, used1);
          low = omega arith;
        })))
      where
        go : (c1 : Conf) (pc1 q1 : ℕ) → InLoop w ready wide e spot three all pc1 live returned s c1 → any (gang_of w) live ≡ true → (v : Val Done)
            → AreAt w.routine.code pc1 (two pc1 (step_code pc1) back) → pc1 + length (two pc1 (step_code pc1) back) ≡ past
            → DoneRuns w c1 (pc1 + length (step_code pc1)) (n + 3) (4 + q1) v
            → StmtRuns w (suc m) c1 end spot q1 (with_value v (λ _ s1. next live returned s1))
        go c1 pc1 q1 i1 some (Gives u s1) at to1 ok =
            let c2 = ok.conf in
            let pc2 = pc1 + length (step_code pc1) in
            stmt_after w ready (suc m) c1 c2 ok.steps end spot q1 _ ok.comes (spares_less w n (n + 3) c1 c2 (omega arith) ok.spares) (λ y lt ne. ok.masks y (omega arith)) three
            (f live returned s1 c2 pc2 (ok.steps + q1) (are_back w.routine.code pc1 (step_code pc1) (back pc2) at)
            (omega (arith, to1, length-append (step_code pc1) (back pc2)))
            (record {
              at = ok.at;
              all_is = ok.masks k (omega (arith, three.low_on)) ∙ i1.all_is;
              live_is = ok.masks n (omega arith)
                  ∙ i1.live_is;
              gone = gone_moved w ready wide e spot three all e.returns returned c1 c2 (ok.masks (n + 2) (omega arith)) i1.gone;
              stands = ok.stands;
            }) inside some
            (omega (arith, ok.bound)))
        go c1 pc1 q1 i1 some (Fails p s1) at to1 bad = failed_less w ready c1 4 q1 p s1 bad
        go c1 pc1 q1 i1 some (Stops s1) at to1 cut = fewer w ready w.turns (suc m) c1 q1 s1 le (stopped_less w ready w.turns c1 4 q1 s1 cut)

    -- a jump, where there is no test
    pub jump_runs : (m top past end : ℕ) (next : Mask → Mask → State → Res) → TopRuns m top end next → BackRuns m (λ pc. instr.Jump top ∷ []) past end next
    jump_runs m top past end next f live returned s c pc q has to i inside some used =
        let c1 : Conf = record c { pc = top } in
        stmt_further w ready m c c1 0 end spot q _ (step_go w c pc (instr.Jump top) c1 ready i.at has.0 refl) (spares_all w n c) (λ y lt ne. refl) three
        (f (1 + q) live returned s c1 (moved_on pc live returned s c top i) inside some (omega (arith, used)))

    -- a test, and a jump back to the body
    pub again_runs : (m : ℕ) (r : Rate) (x top past end : ℕ) (test_code rest_code : ℕ → List Instr) (test : Mask → State → Val Payload)
        (turn : Mask → Mask → State → Res) → suc m ≤ w.turns → end ≡ past + length (loop_end_code e k rr n)
        → AreAt w.routine.code past (loop_end_code e k rr n) → AreAt w.routine.code top (rest_code top) → top + length (rest_code top) ≡ past
        → TestRuns w n r x test_code test → KeptRuns w ready wide e spot three all m rest_code past end turn
        → BackRuns m (λ pc. test_code pc ++ again_code r x n top) past end
        (λ live returned s. with_value (test live s) (λ v s1. if_so (any (gang_of w) (kept_by is_true live v))
        (turn (kept_by is_true live v) returned) (λ s2. Went s2 (without all returned) nobody nobody returned) s1))
    again_runs m r x top past end test_code rest_code test turn le ends at_end at_top top_past run f live returned s c pc q has to i inside some used =
        go c pc q i some (test live s) (are_back w.routine.code pc (test_code pc) (again_code r x n top) has)
        (omega (arith, to, length-append (test_code pc) (again_code r x n top)))
        (run live s c pc q (are_front w.routine.code pc (test_code pc) (again_code r x n top) has)
        (record { at = i.at; mask = i.live_is; some = some; inside = inside; stands = i.stands; used = omega (arith, used); low = omega arith }))
      where
        finish : State → Res
        finish s2 = Went s2 (without all returned) nobody nobody returned

        -- the jump is taken, or the end follows; the test's value is known
        jump_back : (r : Rate) (pc2 q2 : ℕ) (v : Payload) (s1 : State) (c2 : Conf) → InLoop w ready wide e spot three all pc2 live returned s1 c2 → any (gang_of w) live ≡ true
            → Holds r live x v c2 → 4 + q2 ≤ 32 * s1.work → AreAt w.routine.code pc2 (again_code r x n top)
            → pc2 + length (again_code r x n top) ≡ past → StmtRuns w (suc m) c2 end spot q2
            (if_so (any (gang_of w) (kept_by is_true live v)) (turn (kept_by is_true live v) returned) finish s1)
        jump_back Uniform pc2 q2 v s1 c2 j some hold used2 at to2 =
            subst (λ z. StmtRuns w (suc m) c2 end spot q2 (if_so (any (gang_of w) (kept_by is_true live z)) (turn (kept_by is_true live z) returned) finish s1)) (sym hold) (by (is_true (c2.scalars x)) refl)
          where
            c3 : Conf
            c3 = jumped w ready c2 jump.True (register Uniform x) top

            in3 : (pc3 : ℕ) → At w c3 pc3 → InLoop w ready wide e spot three all pc3 live returned s1 c3
            in3 pc3 h = record { at = h; all_is = j.all_is; live_is = j.live_is; gone = gone_moved w ready wide e spot three all e.returns returned c2 c3 refl j.gone; stands = j.stands }

            comes : Comes w c2 1 c3
            comes = jump_comes w ready c2 pc2 jump.True (register Uniform x) top j.at at.0

            by : (b : Bool) → is_true (c2.scalars x) ≡ b → StmtRuns w (suc m) c2 end spot q2 (if_so (any (gang_of w) (if b then live else nobody)) (turn (if b then live else nobody) returned) finish s1)
            by true h =
                subst (λ z. StmtRuns w (suc m) c2 end spot q2 (if_so z (turn live returned) finish s1)) (sym some)
                (stmt_further w ready m c2 c3 0 end spot q2 _ comes (spares_all w n c2) (λ y lt ne. refl) three
                (f live returned s1 c3 top (1 + q2) at_top top_past (in3 top (jump_at w ready c2 pc2 jump.True (register Uniform x) top true j.at h)) some inside (omega (arith, used2))))
            by false h =
                subst (λ z. StmtRuns w (suc m) c2 end spot q2 (if_so z (turn nobody returned) finish s1)) (sym (any_nobody (gang_of w)))
                (stmt_after w ready (suc m) c2 c3 1 end spot q2 (finish s1) comes (spares_all w n c2) (λ y lt ne. refl) three
                (subst (λ z. StmtRuns w (suc m) c3 z spot (1 + q2) (finish s1)) (sym ends)
                (end_runs w ready wide e spot three all (suc m) past (1 + q2) live returned s1 c3
                (in3 past (at_to w c3 (pc2 + 1) past (jump_at w ready c2 pc2 jump.True (register Uniform x) top false j.at h)
                (omega (arith, to2)))) (omega (arith, used2)) at_end)))
        jump_back Varying pc2 q2 v s1 c2 j some hold used2 at to2 =
            subst (λ z. StmtRuns w (suc m) c2 end spot q2 (if_so (any (gang_of w) z) (turn z returned) finish s1)) (sym (at_kept Varying live is_true v ∙ ap (kept_by is_true live) hold)) (by (any (gang_of w) kept) refl)
          where
            kept : Mask
            kept = where_true is_true (on live (c2.vectors x))

            u3 : Mask
            u3 = where_true is_true (on (c2.masks n) (c2.vectors x))

            c3 : Conf
            c3 = masked w ready c2 n u3

            at3 : At w c3 (pc2 + 1)
            at3 = masked_at w ready c2 pc2 n u3 j.at

            c4 : Conf
            c4 = jumped w ready c3 jump.On (mask_register n) top

            low : (y : ℕ) → y < n → c4.masks y ≡ c2.masks y
            low y lt = let ne : y ≢ n = omega arith in put_other c2.masks n u3 y ne

            kept_is : c4.masks n ≡ kept
            kept_is = put_same c2.masks n u3 ∙ ap (λ z. where_true is_true (on z (c2.vectors x))) j.live_is

            n2 : n + 2 ≢ n
            n2 = omega arith

            in4 : (pc3 : ℕ) → At w c4 pc3 → InLoop w ready wide e spot three all pc3 kept returned s1 c4
            in4 pc3 h = record { at = h; all_is = low k lk ∙ j.all_is; live_is = kept_is; gone = gone_moved w ready wide e spot three all e.returns returned c2 c4 (put_other c2.masks n u3 (n + 2) n2) j.gone; stands = j.stands }

            comes : Comes w c2 2 c4
            comes = comes_on w c2 c3 c4 1 1 (where_comes w ready c2 pc2 n x n j.at at.0) (jump_comes w ready c3 (pc2 + 1) jump.On (mask_register n) top at3 at.1.0)

            on_is : (b : Bool) → any (gang_of w) kept ≡ b → jumps w.code w.routine c3 jump.On (mask_register n) ≡ b
            on_is b h = ap (any (gang_of w)) kept_is ∙ h

            by : (b : Bool) → any (gang_of w) kept ≡ b → StmtRuns w (suc m) c2 end spot q2 (if_so b (turn kept returned) finish s1)
            by true h =
                stmt_further w ready m c2 c4 1 end spot q2 _ comes (spares_all w n c2) (λ y lt ne. low y lt) three
                (f kept returned s1 c4 top (2 + q2) at_top top_past (in4 top (jump_at w ready c3 (pc2 + 1) jump.On (mask_register n) top true at3 (on_is true h))) h (where_inside (Allowed w) live is_true (c2.vectors x) inside) (omega (arith, used2)))
            by false h =
                stmt_after w ready (suc m) c2 c4 2 end spot q2 (finish s1) comes (spares_all w n c2) (λ y lt ne. low y lt) three
                (subst (λ z. StmtRuns w (suc m) c4 z spot (2 + q2) (finish s1)) (sym ends)
                (end_runs w ready wide e spot three all (suc m) past (2 + q2) kept returned s1 c4
                (in4 past (at_to w c4 (pc2 + 1 + 1) past (jump_at w ready c3 (pc2 + 1) jump.On (mask_register n) top false at3 (on_is false h))
                (omega (arith, to2)))) (omega (arith, used2)) at_end))

        go : (c1 : Conf) (pc1 q1 : ℕ) → InLoop w ready wide e spot three all pc1 live returned s c1 → any (gang_of w) live ≡ true → (v : Val Payload)
            → AreAt w.routine.code (pc1 + length (test_code pc1)) (again_code r x n top)
            → pc1 + length (test_code pc1) + length (again_code r x n top) ≡ past
            → Runs w c1 (pc1 + length (test_code pc1)) (n + 3) (4 + q1) (Holds r live x) v
            → StmtRuns w (suc m) c1 end spot q1 (with_value v
            (λ v1 s1. if_so (any (gang_of w) (kept_by is_true live v1)) (turn (kept_by is_true live v1) returned) finish s1))
        go c1 pc1 q1 i1 some (Gives v1 s1) at to2 ok =
            let c2 = ok.conf in
            stmt_after w ready (suc m) c1 c2 ok.steps end spot q1 _ ok.comes (spares_less w n (n + 3) c1 c2 (omega arith) ok.spares) (λ y lt ne. ok.masks y (omega arith)) three
            (jump_back r (pc1 + length (test_code pc1)) (ok.steps + q1) v1 s1 c2
            (record {
              at = ok.at;
              all_is = ok.masks k (omega (arith, three.low_on)) ∙ i1.all_is;
              live_is = ok.masks n (omega arith)
                  ∙ i1.live_is;
              gone = gone_moved w ready wide e spot three all e.returns returned c1 c2 (ok.masks (n + 2) (omega arith)) i1.gone;
              stands = ok.stands;
            }) some ok.holds
            (omega (arith, ok.bound)) at to2)
        go c1 pc1 q1 i1 some (Fails p s1) at to2 bad = failed_less w ready c1 4 q1 p s1 bad
        go c1 pc1 q1 i1 some (Stops s1) at to2 cut = fewer w ready w.turns (suc m) c1 q1 s1 le (stopped_less w ready w.turns c1 4 q1 s1 cut)

    -- ---- the beginning

    -- a loop begins
    pub begin_runs : (pc end q : ℕ) (s : State) (c : Conf) (value : Mask → Mask → State → Res) → AreAt w.routine.code pc (enter_code e k n)
        → EntersAt w pc spot all s c (3 + q) → TopRuns w.turns (pc + length (enter_code e k n)) end value
        → StmtRuns w w.turns c end spot (1 + q) (value all nobody s)
    begin_runs pc end q s c value has b f =
        let m = entered w ready wide e spot three all pc s c b.at b.mask b.stands has in
        stmt_after w ready w.turns c m.conf m.steps end spot (1 + q) (value all nobody s) m.comes m.spares (λ y lt ne. m.masks y lt) three (f (m.steps + (1 + q)) all nobody s m.conf m.loop b.inside b.some (omega (arith, m.few, b.used)))
