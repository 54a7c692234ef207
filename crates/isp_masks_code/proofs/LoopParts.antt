-- The parts of a loop: its beginning, its end, and the masks of a turn, which are cleared before it and joined after it.
use Rattle.std.proofs.Common.{◌≡◌, ◌≢◌, ℕ, suc, ◌+◌, ◌*◌, ◌<◌, ◌≤◌, List, [], ◌∷◌, length, Bool, true, false, refl, sym, ap, ◌∙◌, subst, arith}
use Rattle.isp_base.specs.Sets.{Mask, nobody, union, without, all as all_of}
use Rattle.isp_code.specs.Conf.{Conf}
use Rattle.isp_code.specs.Lines.{jumps}
use Rattle.isp_code.specs.declared.instr.Instr.{Instr}
use Rattle.isp_code.specs.declared.instr.JumpTest.TheVariants as jump
use Rattle.isp_meaning.specs.Outcomes.{Res, Went, Trapped, Cut}
use Rattle.isp_meaning.specs.State.{State}
use Rattle.isp_lower_code.specs.Instructions.{the_others}
use Rattle.isp_lower_code.specs.Layout.{mask_register}
use Rattle.isp_lower_code.specs.Runs.{Comes, Enters, DoneOk, Stopped}
use Rattle.isp_lower_code.specs.Setting.{Setting, IsSettled, gang_of, AreAt, At, Stands, Spares}
use Rattle.isp_lower_code.proofs.Lemmas.{put_same, put_other, comes_none, comes_on, step_go, at_to, spares_all, failed_after}
use Rattle.isp_lower_code.proofs.Lemmas.{jumped, jump_comes, jump_at, masked, others_comes, masked_at}
use Rattle.isp_masks_code.specs.Loops.{copy_mask, if_needed, enter_code, loop_end_code, rejoin_code}
use Rattle.isp_masks_code.specs.Sets.{unite, clear_mask}
use Rattle.isp_masks_code.specs.Spots.{Spot}
use Rattle.isp_masks_code.specs.StmtRuns.{AreThree, Inside, StmtOk, StmtRuns}
use Rattle.isp_masks_code.specs.declared.exits.Exits.{Exits}
use Rattle.isp_masks_code.proofs.Combine.{stmt_after}
use Rattle.isp_masks_code.proofs.Unions.{union_nobody, without_nobody, union_full}

module _ (w : Setting) (ready : IsSettled w) where
  -- nothing is done
  pub none_done : (pc k n q : ℕ) (a : Mask) (s : State) (c : Conf) → Enters w pc k n a s c q → DoneOk w c (pc + 0) n q s
  none_done pc k n q a s c b = record {
    conf = c;
    steps = 0;
    comes = comes_none w c;
    at = at_to w c pc (pc + 0) b.at (omega arith);
    stands = b.stands;
    spares = spares_all w n c;
    masks = λ r lt. refl;
    bound = omega (arith, b.used);
  }

  -- a cut past more turns is one past fewer
  pub fewer : (t m : ℕ) (c : Conf) (q : ℕ) (s : State) → m ≤ t → Stopped w t c q s → Stopped w m c q s
  fewer t m c q s le f = record { conf = f.conf; steps = f.steps; far = omega (arith, f.far); goes = f.goes; out_is = f.out_is; bound = f.bound }

  stmt_fewer : (t m : ℕ) (c : Conf) (pc : ℕ) (spot : Spot) (q : ℕ) (v : Res) → m ≤ t → StmtRuns w t c pc spot q v → StmtRuns w m c pc spot q v
  stmt_fewer t m c pc spot q (Went s g b ct rt) le r = r
  stmt_fewer t m c pc spot q (Trapped p s) le r = r
  stmt_fewer t m c pc spot q (Cut s) le r = fewer t m c q s le r

  -- after a step that came before, it is one past one more
  pub stmt_further : (m : ℕ) (c c1 : Conf) (d pc : ℕ) (spot : Spot) (q : ℕ) (v : Res) → Comes w c (suc d) c1 → Spares w spot.slot c c1
      → ((r : ℕ) → r < spot.slot → r ≢ spot.on → c1.masks r ≡ c.masks r) → AreThree spot → StmtRuns w m c1 pc spot (suc d + q) v
      → StmtRuns w (suc m) c pc spot q v
  stmt_further m c c1 d pc spot q (Went s g b ct rt) h sp ma th r = stmt_after w ready m c c1 (suc d) pc spot q (Went s g b ct rt) h sp ma th r
  stmt_further m c c1 d pc spot q (Trapped p s) h sp ma th r = failed_after w ready c c1 (suc d) q p s h r
  stmt_further m c c1 d pc spot q (Cut s) h sp ma th r =
      record { conf = r.conf; steps = suc d + r.steps; far = omega (arith, r.far); goes = comes_on w c c1 r.conf (suc d) r.steps h r.goes; out_is = r.out_is; bound = omega (arith, r.bound) }

  module _ (wide : Bool) (e : Exits) (spot : Spot) (three : AreThree spot) (all : Mask) where
    -- the masks of the whole, and the first slot
    abbrev k : ℕ
    k = spot.on

    abbrev co : ℕ
    co = spot.continued

    abbrev rr : ℕ
    rr = spot.returned

    abbrev n : ℕ
    n = spot.slot

    lk : k < n
    lk = three.low_on

    lco : co < n
    lco = three.low_continued

    lrr : rr < n
    lrr = three.low_returned

    -- those that returned so far: in mask n + 2, or nobody where the body lets nobody return
    abbrev pub Gone : Bool → Mask → Conf → Type 0
    Gone true r c = c.masks (n + 2) ≡ r
    Gone false r c = r ≡ nobody

    pub gone_moved : (b : Bool) (returned : Mask) (c c1 : Conf) → c1.masks (n + 2) ≡ c.masks (n + 2) → Gone b returned c → Gone b returned c1
    gone_moved true returned c c1 same g = same ∙ g
    gone_moved false returned c c1 same g = g

    -- the machine stands in the loop, with these live
    pub record InLoop (pc : ℕ) (live returned : Mask) (s : State) (c : Conf) : Type 0 where
      pub at : At w c pc
      pub all_is : c.masks k ≡ all
      pub live_is : c.masks n ≡ live
      pub gone : Gone e.returns returned c
      pub stands : Stands w s c

    -- ---- the end

    pub end_runs : (t pc q : ℕ) (live returned : Mask) (s : State) (c : Conf) → InLoop pc live returned s c → 2 + q ≤ 32 * s.work
        → AreAt w.routine.code pc (loop_end_code e k rr n)
        → StmtRuns w t c (pc + length (loop_end_code e k rr n)) spot q (Went s (without all returned) nobody nobody returned)
    end_runs t pc q live returned s c i le has = go e.returns i.gone has
      where
        ck : co ≢ k
        ck = λ h. three.on_continued (sym h)

        rk : rr ≢ k
        rk = λ h. three.on_returned (sym h)

        m2k : n + 2 ≢ k
        m2k = omega arith

        go : (b : Bool) → Gone b returned c → AreAt w.routine.code pc (if_needed b (the_others k k (n + 2) ∷ unite rr rr (n + 2) ∷ []))
            → StmtOk w c (pc + length (if_needed b (the_others k k (n + 2) ∷ unite rr rr (n + 2) ∷ []))) spot q s (without all returned) nobody
            returned
        go false g h = record {
          conf = c;
          steps = 0;
          comes = comes_none w c;
          at = at_to w c pc (pc + 0) i.at (omega arith);
          stands = i.stands;
          spares = spares_all w n c;
          went = i.all_is ∙ sym (without_nobody all) ∙ ap (without all) (sym g);
          continued = sym (union_nobody (c.masks co));
          returned = sym (union_nobody (c.masks rr)) ∙ ap (union (c.masks rr)) (sym g);
          masks = λ j lt x y z. refl;
          bound = omega (arith, le);
        }
        go true g h = record {
          conf = c2;
          steps = 2;
          comes = comes_on w c c1 c2 1 1 (others_comes w ready c pc k k (n + 2) i.at h.0) (step_go w c1 (pc + 1) (unite rr rr (n + 2)) c2 ready at1 h.1.0 refl);
          at = at_to w c2 (pc + 1 + 1) (pc + 2) (masked_at w ready c1 (pc + 1) rr u2 at1) (omega arith);
          stands = i.stands;
          spares = spares_all w n c;
          went = put_other c1.masks rr u2 k three.on_returned ∙ put_same c.masks k u1 ∙ ap (λ z. without z (c.masks (n + 2))) i.all_is ∙ ap (without all) g;
          continued = put_other c1.masks rr u2 co three.continued_returned ∙ put_other c.masks k u1 co ck ∙ sym (union_nobody (c.masks co));
          returned = put_same c1.masks rr u2 ∙ ap (λ z. union z (c1.masks (n + 2))) (put_other c.masks k u1 rr rk) ∙ ap (union (c.masks rr)) (put_other c.masks k u1 (n + 2) m2k ∙ g);
          masks = λ j lt x y z. put_other c1.masks rr u2 j z ∙ put_other c.masks k u1 j x;
          bound = omega (arith, le);
        }
          where
            u1 : Mask
            u1 = without (c.masks k) (c.masks (n + 2))

            c1 : Conf
            c1 = masked w ready c k u1

            at1 : At w c1 (pc + 1)
            at1 = masked_at w ready c pc k u1 i.at

            u2 : Mask
            u2 = union (c1.masks rr) (c1.masks (n + 2))

            c2 : Conf
            c2 = masked w ready c1 rr u2

    -- ---- a turn

    -- from one place in the loop to another, in at least so many steps
    pub record Moved (pc : ℕ) (live returned : Mask) (s : State) (c : Conf) (most : ℕ) : Type 0 where
      pub conf : Conf
      pub steps : ℕ
      pub comes : Comes w c steps conf
      pub few : steps ≤ most
      pub spares : Spares w n c conf
      pub masks : (r : ℕ) → r < n → conf.masks r ≡ c.masks r
      pub loop : InLoop pc live returned s conf

    -- nobody has continued yet
    pub cleared : (pc : ℕ) (kept returned : Mask) (s : State) (c : Conf) → InLoop pc kept returned s c
        → AreAt w.routine.code pc (if_needed e.continues (clear_mask (n + 1) ∷ []))
        → (m : Moved (pc + length (if_needed e.continues (clear_mask (n + 1) ∷ []))) kept returned s c 1)
        × (e.continues ≡ true → m.conf.masks (n + 1) ≡ nobody)
    cleared pc kept returned s c i has = go e.continues has
      where
        c1 : Conf
        c1 = masked w ready c (n + 1) nobody

        n1 : n ≢ n + 1
        n1 = omega arith

        n2 : n + 2 ≢ n + 1
        n2 = omega arith

        k1 : k ≢ n + 1
        k1 = omega (arith, three.low_on)

        gone_on : (b : Bool) → Gone b returned c → Gone b returned c1
        gone_on true g = put_other c.masks (n + 1) nobody (n + 2) n2 ∙ g
        gone_on false g = g

        go : (b : Bool) → AreAt w.routine.code pc (if_needed b (clear_mask (n + 1) ∷ [])) → (m : Moved (pc + length (if_needed b (clear_mask (n + 1) ∷ []))) kept returned s c 1) × (b ≡ true → m.conf.masks (n + 1) ≡ nobody)
        go true h = (
          record {
            conf = c1;
            steps = 1;
            comes = step_go w c pc (clear_mask (n + 1)) c1 ready i.at h.0 refl;
            few = omega arith;
            spares = spares_all w n c;
            masks = λ r lt. let ne : r ≢ n + 1 = omega arith in put_other c.masks (n + 1) nobody r ne;
            loop = record { at = masked_at w ready c pc (n + 1) nobody i.at; all_is = put_other c.masks (n + 1) nobody k k1 ∙ i.all_is; live_is = put_other c.masks (n + 1) nobody n n1 ∙ i.live_is; gone = gone_on e.returns i.gone; stands = i.stands };
          },
          λ z. put_same c.masks (n + 1) nobody,
        )
        go false h = (
          record {
            conf = c;
            steps = 0;
            comes = comes_none w c;
            few = omega arith;
            spares = spares_all w n c;
            masks = λ r lt. refl;
            loop = record
                { at = at_to w c pc (pc + 0) i.at (omega arith); all_is = i.all_is; live_is = i.live_is; gone = i.gone; stands = i.stands };
          },
          λ z. absurd (cc),
        )

    -- those that continued come back
    joined : (pc : ℕ) (live returned ct : Mask) (s : State) (c : Conf) → InLoop pc live returned s c → (e.continues ≡ true → c.masks (n + 1) ≡ ct)
        → (e.continues ≡ false → ct ≡ nobody) → AreAt w.routine.code pc (if_needed e.continues (unite n n (n + 1) ∷ []))
        → Moved (pc + length (if_needed e.continues (unite n n (n + 1) ∷ []))) (union live ct) returned s c 1
    joined pc live returned ct s c i those none has = go e.continues those none has
      where
        go : (x : Bool) → (x ≡ true → c.masks (n + 1) ≡ ct) → (x ≡ false → ct ≡ nobody) → AreAt w.routine.code pc (if_needed x (unite n n (n + 1) ∷ [])) → Moved (pc + length (if_needed x (unite n n (n + 1) ∷ []))) (union live ct) returned s c 1
        go true those none h = record {
          conf = c3;
          steps = 1;
          comes = step_go w c pc (unite n n (n + 1)) c3 ready i.at h.0 refl;
          few = omega arith;
          spares = spares_all w n c;
          masks = λ r lt. let ne : r ≢ n = omega arith in put_other c.masks n u3 r ne;
          loop = record {
            at = masked_at w ready c pc n u3 i.at;
            all_is = put_other c.masks n u3 k kn ∙ i.all_is;
            live_is = put_same c.masks n u3
                ∙ ap (λ m. union m (c.masks (n + 1))) i.live_is ∙ ap (union live) (those refl);
            gone = gone_put e.returns i.gone;
            stands = i.stands;
          };
        }
          where
            u3 : Mask
            u3 = union (c.masks n) (c.masks (n + 1))

            c3 : Conf
            c3 = masked w ready c n u3

            kn : k ≢ n
            kn = omega (arith, three.low_on)

            n2 : n + 2 ≢ n
            n2 = omega arith

            gone_put : (y : Bool) → Gone y returned c → Gone y returned c3
            gone_put true m = put_other c.masks n u3 (n + 2) n2 ∙ m
            gone_put false m = m
        go false those none h = record {
          conf = c;
          steps = 0;
          comes = comes_none w c;
          few = omega arith;
          spares = spares_all w n c;
          masks = λ r lt. refl;
          loop = record { at = at_to w c pc (pc + 0) i.at (omega arith); all_is = i.all_is; live_is = i.live_is ∙ sym (union_nobody live) ∙ ap (union live) (sym (none refl)); gone = i.gone; stands = i.stands };
        }

    -- a wide loop jumps past this where all lanes are live
    pub rejoined : (pc : ℕ) (live returned ct : Mask) (s : State) (c : Conf) → InLoop pc live returned s c → (e.continues ≡ true → c.masks (n + 1) ≡ ct)
        → (e.continues ≡ false → ct ≡ nobody) → Inside w ct → AreAt w.routine.code pc (rejoin_code wide e pc n)
        → Moved (pc + length (rejoin_code wide e pc n)) (union live ct) returned s c 2
    rejoined pc live returned ct s c i those none inside has = by wide has
      where
        join : List Instr
        join = if_needed e.continues (unite n n (n + 1) ∷ [])

        out : ℕ
        out = pc + 1 + length join

        ends : out ≡ pc + suc (length join)
        ends = omega arith

        c1 : Conf
        c1 = jumped w ready c jump.All (mask_register n) out

        full_is : (b : Bool) → all_of (gang_of w) live ≡ b → jumps w.code w.routine c jump.All (mask_register n) ≡ b
        full_is b h = ap (all_of (gang_of w)) i.live_is ∙ h

        here : (pc1 : ℕ) → At w c1 pc1 → InLoop pc1 live returned s c1
        here pc1 at = record { at = at; all_is = i.all_is; live_is = i.live_is; gone = gone_moved e.returns returned c c1 refl i.gone; stands = i.stands }

        by : (b : Bool) → AreAt w.routine.code pc (rejoin_code b e pc n) → Moved (pc + length (rejoin_code b e pc n)) (union live ct) returned s c 2
        by false h = let m = joined pc live returned ct s c i those none h in record { conf = m.conf; steps = m.steps; comes = m.comes; few = omega (arith, m.few); spares = m.spares; masks = m.masks; loop = m.loop }
        by true h = go (all_of (gang_of w) live) refl
          where
            comes : Comes w c 1 c1
            comes = jump_comes w ready c pc jump.All (mask_register n) out i.at h.0

            go : (b : Bool) → all_of (gang_of w) live ≡ b → Moved (pc + suc (length join)) (union live ct) returned s c 2
            go true full =
                let at = at_to w c1 out (pc + suc (length join)) (jump_at w ready c pc jump.All (mask_register n) out true i.at (full_is true full)) ends in
                let same = union_full (gang_of w) live ct full (λ p h. (inside p h).0) in
                record { conf = c1; steps = 1; comes = comes; few = omega arith; spares = spares_all w n c; masks = λ r lt. refl; loop = subst (λ z. InLoop (pc + suc (length join)) z returned s c1) (sym same) (here (pc + suc (length join)) at) }
            go false full =
                let m = joined (pc + 1) live returned ct s c1 (here (pc + 1) (jump_at w ready c pc jump.All (mask_register n) out false i.at (full_is false full))) those none h.1 in
                record {
                  conf = m.conf;
                  steps = 1 + m.steps;
                  comes = comes_on w c c1 m.conf 1 m.steps comes m.comes;
                  few = omega (arith, m.few);
                  spares = m.spares;
                  masks = m.masks;
                  loop = subst (λ z. InLoop z (union live ct) returned s m.conf) ends m.loop;
                }

    -- all of the set run, and nobody has returned
    pub entered : (pc : ℕ) (s : State) (c : Conf) → At w c pc → c.masks k ≡ all → Stands w s c → AreAt w.routine.code pc (enter_code e k n) → Moved (pc + length (enter_code e k n)) all nobody s c 2
    entered pc s c at ek st has = go e.returns refl has
      where
        c1 : Conf
        c1 = masked w ready c n (c.masks k)

        at1 : At w c1 (pc + 1)
        at1 = masked_at w ready c pc n (c.masks k) at

        first : Comes w c 1 c1
        first = step_go w c pc (copy_mask n k) c1 ready at has.0 refl

        kn : k ≢ n
        kn = omega (arith, three.low_on)

        low1 : (y : ℕ) → y < n → c1.masks y ≡ c.masks y
        low1 y lt = let ne : y ≢ n = omega arith in put_other c.masks n (c.masks k) y ne

        c2 : Conf
        c2 = masked w ready c1 (n + 2) nobody

        n2 : n ≢ n + 2
        n2 = omega arith

        k2 : k ≢ n + 2
        k2 = omega (arith, three.low_on)

        gone2 : (b : Bool) → Gone b nobody c2
        gone2 true = put_same c1.masks (n + 2) nobody
        gone2 false = refl

        gone1 : (b : Bool) → b ≡ false → Gone b nobody c1
        gone1 true h = absurd (cc)
        gone1 false h = refl

        go : (b : Bool) → e.returns ≡ b → AreAt w.routine.code pc (copy_mask n k ∷ if_needed b (clear_mask (n + 2) ∷ [])) → Moved (pc + length (copy_mask n k ∷ if_needed b (clear_mask (n + 2) ∷ []))) all nobody s c 2
        go false h code = record {
          conf = c1;
          steps = 1;
          comes = first;
          few = omega arith;
          spares = spares_all w n c;
          masks = low1;
          loop = record { at = at_to w c1 (pc + 1) _ at1 (omega arith); all_is = low1 k lk ∙ ek; live_is = put_same c.masks n (c.masks k) ∙ ek; gone = gone1 e.returns h; stands = st };
        }
        go true h code = record {
          conf = c2;
          steps = 2;
          comes = comes_on w c c1 c2 1 1 first (step_go w c1 (pc + 1) (clear_mask (n + 2)) c2 ready at1 code.1.0 refl);
          few = omega arith;
          spares = spares_all w n c;
          masks = λ y lt. (let ne : y ≢ n + 2 = omega arith in put_other c1.masks (n + 2) nobody y ne) ∙ low1 y lt;
          loop = record {
            at = at_to w c2 (pc + 1 + 1) _ (masked_at w ready c1 (pc + 1) (n + 2) nobody at1) (omega arith);
            all_is = put_other c1.masks
                (n + 2) nobody k k2 ∙ low1 k lk ∙ ek;
            live_is = put_other c1.masks (n + 2) nobody n n2 ∙ put_same c.masks n (c.masks k)
                ∙ ek;
            gone = gone2 e.returns;
            stands = st;
          };
        }
