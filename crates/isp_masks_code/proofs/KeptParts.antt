-- `if` by a varying test, in lanes, where nobody leaves the parts, or all leave by one jump: no masks are joined.
use Rattle.std.proofs.Common.{◌≡◌, ◌≢◌, ℕ, ◌+◌, ◌*◌, ◌<◌, ◌≤◌, List, length, true, refl, sym, ap, ◌∙◌, subst, arith, length-append}
use Rattle.isp_base.specs.Maps.{Lanes, on, where_true}
use Rattle.isp_base.specs.Sets.{Mask, nobody, union, without, any}
use Rattle.isp_base.specs.declared.types.Rate.TheVariants.{Varying}
use Rattle.isp_code.specs.Conf.{Conf}
use Rattle.isp_code.specs.Lines.{jumps}
use Rattle.isp_code.specs.declared.instr.Instr.{Instr}
use Rattle.isp_tree.specs.declared.stmt.Jump.{Jump}
use Rattle.isp_tree.specs.declared.stmt.Jump.TheVariants.{Break, Continue}
use Rattle.isp_meaning.specs.State.{State}
use Rattle.isp_meaning.specs.Payloads.{Payload, is_true, kept_by}
use Rattle.isp_meaning.specs.Outcomes.{Res, Went, Trapped, Cut, go_on, went_all, both_sides, unless_empty}
use Rattle.isp_meaning.specs.Statements.{branches, jumped as all_jump}
use Rattle.isp_lower_code.specs.Instructions.{jump_off}
use Rattle.isp_lower_code.specs.Pieces.{guard}
use Rattle.isp_lower_code.specs.Runs.{Comes}
use Rattle.isp_lower_code.specs.Setting.{Setting, IsSettled, gang_of, AreAt, At, Stands, Holds, Allowed}
use Rattle.isp_lower_code.proofs.Lemmas.{are_front, are_back, put_same, put_other, comes_on, step_go, at_to, spares_all, spares_less, spares_on, failed_after, stopped_after, masked, where_comes, others_comes, masked_at, where_inside, at_kept}
use Rattle.isp_masks_code.specs.Sets.{unite}
use Rattle.isp_masks_code.specs.Statements.{kept_code, both_kept_code, left_code}
use Rattle.isp_masks_code.specs.Spots.{Spot, under, widely}
use Rattle.isp_masks_code.specs.StmtRuns.{AreThree, EntersAt, Inside, StmtOk, StmtRuns}
use Rattle.isp_masks_code.proofs.Jumping.{Stays, Jumps, stays_unless, jumps_unless}
use Rattle.isp_masks_code.proofs.Unions.{union_nobody, union_assoc, below_without, part_and_others}
use Rattle.isp_masks_code.proofs.Combine.{stmt_after, go_runs, guard_runs}
use Rattle.isp_masks_code.proofs.Sides.{branches_parts, nobody_left}

module _ (w : Setting) (ready : IsSettled w) where
  -- ---- in lanes, where nobody leaves the part, or neither part

  pub kept_runs : (x pc : ℕ) (spot : Spot) (q : ℕ) (a : Mask) (m : Payload) (s : State) (c : Conf) (first : ℕ → List Instr) (va : Mask → State → Res)
      → At w c pc → c.masks spot.on ≡ a → any (gang_of w) a ≡ true → Inside w a → Stands w s c → Holds Varying a x m c → 5 + q ≤ 32 * s.work
      → AreThree spot → AreAt w.routine.code pc (kept_code x pc spot.on spot.slot first) → Stays va
      → ((T : Mask) (s1 : State) (c1 : Conf) (pc1 z : ℕ) → AreThree (under spot.slot spot) → AreAt w.routine.code pc1 (first pc1)
      → EntersAt w pc1 (under spot.slot spot) T s1 c1 z → StmtRuns w w.turns c1 (pc1 + length (first pc1)) (under spot.slot spot) z (va T s1))
      → StmtRuns w w.turns c (pc + length (kept_code x pc spot.on spot.slot first)) spot q (branches (gang_of w) a va went_all m s)
  kept_runs x pc spot q a m s c first va at em some inside st hold le three has stay fa =
      subst (λ v. StmtRuns w w.turns c end spot q v) (sym (branches_parts (gang_of w) a va went_all m s some ∙ ap (λ z. both_sides (unless_empty (gang_of w) z s va) (λ s1. unless_empty (gang_of w) (without a z) s1 went_all)) kept))
      (stmt_after w ready w.turns c c1 1 end spot q _ (where_comes w ready c pc n x k at has.0) (spares_all w n c) (λ r lt ne. let rn : r ≢ n = omega (arith, lt) in put_other c.masks n t1 r rn) three
      (go_runs w ready w.turns c1 p2 (under n spot) 0 (1 + q) (unless_empty (gang_of w) T s va) _ end spot begin second))
    where
      k : ℕ
      k = spot.on

      n : ℕ
      n = spot.slot

      v : Lanes
      v = c.vectors x

      T : Mask
      T = where_true is_true (on a v)

      F : Mask
      F = without a T

      kept : kept_by is_true a m ≡ T
      kept = at_kept Varying a is_true m ∙ ap (kept_by is_true a) hold

      t1 : Mask
      t1 = where_true is_true (on (c.masks k) (c.vectors x))

      c1 : Conf
      c1 = masked w ready c n t1

      kn : k ≢ n
      kn = omega (arith, three.low_on)

      nco : n ≢ spot.continued
      nco = omega (arith, three.low_continued)

      nrr : n ≢ spot.returned
      nrr = omega (arith, three.low_returned)

      t_is : c1.masks n ≡ T
      t_is = put_same c.masks n t1 ∙ ap (λ z. where_true is_true (on z v)) em

      three_n : AreThree (under n spot)
      three_n = record { low_on = omega arith; low_continued = omega (arith, three.low_continued); low_returned = omega (arith, three.low_returned); on_continued = nco; on_returned = nrr; continued_returned = three.continued_returned }

      side : List Instr
      side = guard (jump_off n) (pc + 1) first

      p2 : ℕ
      p2 = pc + 1 + length side

      end : ℕ
      end = pc + length (kept_code x pc k n first)

      ends : p2 ≡ end
      ends = omega arith

      begin : StmtRuns w w.turns c1 p2 (under n spot) (0 + (1 + q)) (unless_empty (gang_of w) T s va)
      begin = guard_runs w ready w.turns (pc + 1) (under n spot) (0 + (1 + q)) T s c1 first va (masked_at w ready c pc n t1 at) t_is
          (where_inside (Allowed w) a is_true v inside) st (omega (arith, le)) three_n has.1 (λ c2 z en. fa T s c2 (pc + 1 + 1) z three_n has.1.1 en)

      second : (s1 : State) (g b ct rt : Mask) → unless_empty (gang_of w) T s va ≡ Went s1 g b ct rt
          → StmtOk w c1 p2 (under n spot) (0 + (1 + q)) s1 g ct rt
          → StmtRuns w w.turns c1 end spot (1 + q) (go_on (unless_empty (gang_of w) F s1 went_all)
          (λ s' g' b' c' r'. Went s' (union g g') (union b b') (union ct c') (union rt r')))
      second s1 g b ct rt ev ok = subst (λ u. StmtRuns w w.turns c1 end spot (1 + q) (go_on u (λ s' g' b' c' r'. Went s' (union g g') (union b b') (union ct c') (union rt r')))) (nobody_left (gang_of w) F s1) all_on
        where
          whole : union g F ≡ a
          whole = ap (λ z. union z F) (stays_unless (gang_of w) va stay T s s1 g b ct rt ev) ∙ part_and_others a T (where_inside (λ p. a p ≡ true) a is_true v (λ p h. h))

          all_on : StmtOk w c1 end spot (1 + q) s1 (union g F) (union ct nobody) (union rt nobody)
          all_on = record {
            conf = ok.conf;
            steps = ok.steps;
            comes = ok.comes;
            at = at_to w ok.conf p2 end ok.at ends;
            stands = ok.stands;
            spares = spares_less w n (n + 1) c1 ok.conf (omega arith) ok.spares;
            went = ok.masks k (omega (arith, three.low_on)) kn three.on_continued three.on_returned ∙ put_other c.masks n t1 k kn ∙ em ∙ sym whole;
            continued = ok.continued ∙ ap (union (c1.masks spot.continued)) (sym (union_nobody ct));
            returned = ok.returned ∙ ap (union (c1.masks spot.returned)) (sym (union_nobody rt));
            masks = λ i lt ik ic ir. let i_n : i ≢ n = omega (arith, lt) in ok.masks i (omega (arith, lt)) i_n ic ir;
            bound = omega (arith, ok.bound);
          }

  pub both_kept_runs : (x pc : ℕ) (spot : Spot) (q : ℕ) (a : Mask) (m : Payload) (s : State) (c : Conf) (first other : ℕ → List Instr)
      (va vb : Mask → State → Res) → At w c pc → c.masks spot.on ≡ a → any (gang_of w) a ≡ true → Inside w a → Stands w s c → Holds Varying a x m c
      → 5 + q ≤ 32 * s.work → AreThree spot → AreAt w.routine.code pc (both_kept_code x pc spot.on spot.slot first other) → Stays va × Stays vb
      → ((T : Mask) (s1 : State) (c1 : Conf) (pc1 z : ℕ) → AreThree (widely spot.slot spot) → AreAt w.routine.code pc1 (first pc1)
      → EntersAt w pc1 (widely spot.slot spot) T s1 c1 z → StmtRuns w w.turns c1 (pc1 + length (first pc1)) (widely spot.slot spot) z (va T s1))
      → ((F : Mask) (s1 : State) (c1 : Conf) (pc1 z : ℕ) → AreThree (widely (spot.slot + 1) spot) → AreAt w.routine.code pc1 (other pc1)
      → EntersAt w pc1 (widely (spot.slot + 1) spot) F s1 c1 z
      → StmtRuns w w.turns c1 (pc1 + length (other pc1)) (widely (spot.slot + 1) spot) z (vb F s1))
      → StmtRuns w w.turns c (pc + length (both_kept_code x pc spot.on spot.slot first other)) spot q (branches (gang_of w) a va vb m s)
  both_kept_runs x pc spot q a m s c first other va vb at em some inside st hold le three has stay fa fb =
      subst (λ v. StmtRuns w w.turns c end spot q v) (sym (branches_parts (gang_of w) a va vb m s some ∙ ap (λ z. both_sides (unless_empty (gang_of w) z s va) (λ s1. unless_empty (gang_of w) (without a z) s1 vb)) kept))
      (stmt_after w ready w.turns c c2 2 end spot q _ (comes_on w c c1 c2 1 1 (where_comes w ready c pc n x k at has.0) (others_comes w ready c1 (pc + 1) (n + 1) k n at1 has.1.0)) (spares_all w n c)
      (λ r lt ne. let rn : r ≢ n = omega (arith, lt) in let rs : r ≢ n + 1 = omega (arith, lt) in put_other c1.masks (n + 1) f2 r rs ∙ put_other c.masks n t1 r rn) three
      (go_runs w ready w.turns c2 p2 (widely n spot) 1 (2 + q) (unless_empty (gang_of w) T s va) _ end spot begin second))
    where
      k : ℕ
      k = spot.on

      n : ℕ
      n = spot.slot

      v : Lanes
      v = c.vectors x

      T : Mask
      T = where_true is_true (on a v)

      F : Mask
      F = without a T

      kept : kept_by is_true a m ≡ T
      kept = at_kept Varying a is_true m ∙ ap (kept_by is_true a) hold

      t1 : Mask
      t1 = where_true is_true (on (c.masks k) (c.vectors x))

      c1 : Conf
      c1 = masked w ready c n t1

      f2 : Mask
      f2 = without (c1.masks k) (c1.masks n)

      c2 : Conf
      c2 = masked w ready c1 (n + 1) f2

      kn : k ≢ n
      kn = omega (arith, three.low_on)

      ks : k ≢ n + 1
      ks = omega (arith, three.low_on)

      ns : n ≢ n + 1
      ns = omega arith

      sn : n + 1 ≢ n
      sn = omega arith

      nco : n ≢ spot.continued
      nco = omega (arith, three.low_continued)

      nrr : n ≢ spot.returned
      nrr = omega (arith, three.low_returned)

      sco : n + 1 ≢ spot.continued
      sco = omega (arith, three.low_continued)

      srr : n + 1 ≢ spot.returned
      srr = omega (arith, three.low_returned)

      at1 : At w c1 (pc + 1)
      at1 = masked_at w ready c pc n t1 at

      t_is1 : c1.masks n ≡ T
      t_is1 = put_same c.masks n t1 ∙ ap (λ z. where_true is_true (on z v)) em

      t_is : c2.masks n ≡ T
      t_is = put_other c1.masks (n + 1) f2 n ns ∙ t_is1

      k_is : c2.masks k ≡ a
      k_is = put_other c1.masks (n + 1) f2 k ks ∙ put_other c.masks n t1 k kn ∙ em

      f_is : c2.masks (n + 1) ≡ F
      f_is = put_same c1.masks (n + 1) f2 ∙ ap (λ z. without z (c1.masks n)) (put_other c.masks n t1 k kn ∙ em) ∙ ap (without a) t_is1

      three_n : AreThree (widely n spot)
      three_n = record { low_on = omega arith; low_continued = omega (arith, three.low_continued); low_returned = omega (arith, three.low_returned); on_continued = nco; on_returned = nrr; continued_returned = three.continued_returned }

      three_s : AreThree (widely (n + 1) spot)
      three_s = record { low_on = omega arith; low_continued = omega (arith, three.low_continued); low_returned = omega (arith, three.low_returned); on_continued = sco; on_returned = srr; continued_returned = three.continued_returned }

      p1 : ℕ
      p1 = pc + 1 + 1

      side : List Instr
      side = guard (jump_off n) p1 first

      p2 : ℕ
      p2 = p1 + length side

      last : List Instr
      last = guard (jump_off (n + 1)) p2 other

      p3 : ℕ
      p3 = p2 + length last

      end : ℕ
      end = pc + length (both_kept_code x pc k n first other)

      at_side : AreAt w.routine.code p1 side
      at_side = are_front w.routine.code p1 side last has.1.1

      at_last : AreAt w.routine.code p2 last
      at_last = are_back w.routine.code p1 side last has.1.1

      ends : p3 ≡ end
      ends = omega (arith, length-append side last)

      begin : StmtRuns w w.turns c2 p2 (widely n spot) (1 + (2 + q)) (unless_empty (gang_of w) T s va)
      begin = guard_runs w ready w.turns p1 (widely n spot) (1 + (2 + q)) T s c2 first va (masked_at w ready c1 (pc + 1) (n + 1) f2 at1) t_is
          (where_inside (Allowed w) a is_true v inside) st (omega (arith, le)) three_n at_side (λ c3 z en. fa T s c3 (p1 + 1) z three_n at_side.1 en)

      second : (s1 : State) (g b ct rt : Mask) → unless_empty (gang_of w) T s va ≡ Went s1 g b ct rt
          → StmtOk w c2 p2 (widely n spot) (1 + (2 + q)) s1 g ct rt
          → StmtRuns w w.turns c2 end spot (2 + q) (go_on (unless_empty (gang_of w) F s1 vb)
          (λ s' g' b' c' r'. Went s' (union g g') (union b b') (union ct c') (union rt r')))
      second s1 g b ct rt ev ok = join (unless_empty (gang_of w) F s1 vb) refl
          (guard_runs w ready w.turns p2 (widely (n + 1) spot) (ok.steps + (2 + q)) F s1 ok.conf other vb ok.at
          (ok.masks (n + 1) (omega arith) sn sco srr ∙ f_is) (below_without (Allowed w) a T inside) ok.stands (omega (arith, ok.bound)) three_s
          at_last (λ c3 z en. fb F s1 c3 (p2 + 1) z three_s at_last.1 en))
        where
          join : (u : Res) → unless_empty (gang_of w) F s1 vb ≡ u → StmtRuns w w.turns ok.conf p3 (widely (n + 1) spot) (ok.steps + (2 + q)) u
              → StmtRuns w w.turns c2 end spot (2 + q) (go_on u (λ s' g' b' c' r'. Went s' (union g g') (union b b') (union ct c') (union rt r')))
          join (Went s' g' b' c' r') eu r = record {
            conf = r.conf;
            steps = ok.steps + r.steps;
            comes = comes_on w c2 ok.conf r.conf ok.steps r.steps ok.comes r.comes;
            at = at_to w r.conf p3 end r.at ends;
            stands = r.stands;
            spares = spares_less w n (n + 1 + 1) c2 r.conf (omega arith) (spares_on w (n + 1 + 1) c2 ok.conf r.conf ok.spares r.spares);
            went = r.masks k (omega (arith, three.low_on)) ks three.on_continued three.on_returned ∙ ok.masks k (omega (arith, three.low_on)) kn three.on_continued three.on_returned ∙ k_is ∙ sym whole;
            continued = r.continued ∙ ap (λ z. union z c') ok.continued ∙ union_assoc (c2.masks spot.continued) ct c';
            returned = r.returned ∙ ap (λ z. union z r') ok.returned ∙ union_assoc (c2.masks spot.returned) rt r';
            masks = λ i lt ik ic ir. let i_n : i ≢ n = omega (arith, lt) in let i_s : i ≢ n + 1 = omega (arith, lt) in r.masks i (omega (arith, lt)) i_s ic ir ∙ ok.masks i (omega (arith, lt)) i_n ic ir;
            bound = omega (arith, r.bound);
          }
            where
              whole : union g g' ≡ a
              whole =
                  ap (λ z. union z g') (stays_unless (gang_of w) va stay.0 T s s1 g b ct rt ev)
                  ∙ ap (union T) (stays_unless (gang_of w) vb stay.1 F s1 s' g' b' c' r' eu) ∙ part_and_others a T (where_inside (λ p. a p ≡ true) a is_true v (λ p h. h))
          join (Trapped t s') eu r = failed_after w ready c2 ok.conf ok.steps (2 + q) t s' ok.comes r
          join (Cut s') eu r = stopped_after w ready w.turns c2 ok.conf ok.steps (2 + q) s' ok.comes r

  -- ---- in lanes, where the part is one jump

  pub left_runs : (j : Jump) (x pc : ℕ) (spot : Spot) (q : ℕ) (a : Mask) (m : Payload) (s : State) (c : Conf) (va : Mask → State → Res) → At w c pc
      → c.masks spot.on ≡ a → any (gang_of w) a ≡ true → Inside w a → Stands w s c → Holds Varying a x m c → 5 + q ≤ 32 * s.work → AreThree spot
      → AreAt w.routine.code pc (left_code j x spot.on spot.continued spot.slot) → Jumps j va
      → StmtRuns w w.turns c (pc + length (left_code j x spot.on spot.continued spot.slot)) spot q (branches (gang_of w) a va went_all m s)
  left_runs j x pc spot q a m s c va at em some inside st hold le three has jumps =
      subst (λ v. StmtRuns w w.turns c (pc + length (left_code j x k co n)) spot q v)
      (sym (branches_parts (gang_of w) a va went_all m s some
      ∙ ap (λ z. both_sides (unless_empty (gang_of w) z s va) (λ s1. unless_empty (gang_of w) (without a z) s1 went_all)) kept
      ∙ ap (λ u. both_sides u (λ s1. unless_empty (gang_of w) F s1 went_all)) whole.2))
      (done j has)
    where
      k : ℕ
      k = spot.on

      co : ℕ
      co = spot.continued

      n : ℕ
      n = spot.slot

      v : Lanes
      v = c.vectors x

      T : Mask
      T = where_true is_true (on a v)

      F : Mask
      F = without a T

      kept : kept_by is_true a m ≡ T
      kept = at_kept Varying a is_true m ∙ ap (kept_by is_true a) hold

      whole : (w1 : ℕ) × (s.work ≤ w1) × (unless_empty (gang_of w) T s va ≡ all_jump j T (record s { work = w1 }))
      whole = jumps_unless (gang_of w) j va jumps T s (λ p h. (where_inside (Allowed w) a is_true v inside p h).0)

      s1 : State
      s1 = record s { work = whole.0 }

      more : s.work ≤ s1.work
      more = whole.1

      t1 : Mask
      t1 = where_true is_true (on (c.masks k) (c.vectors x))

      c1 : Conf
      c1 = masked w ready c n t1

      f2 : Mask
      f2 = without (c1.masks k) (c1.masks n)

      c2 : Conf
      c2 = masked w ready c1 k f2

      kn : k ≢ n
      kn = omega (arith, three.low_on)

      nk : n ≢ k
      nk = omega (arith, three.low_on)

      con : co ≢ n
      con = omega (arith, three.low_continued)

      rrn : spot.returned ≢ n
      rrn = omega (arith, three.low_returned)

      cok : co ≢ k
      cok = λ e. three.on_continued (sym e)

      rrk : spot.returned ≢ k
      rrk = λ e. three.on_returned (sym e)

      rrco : spot.returned ≢ co
      rrco = λ e. three.continued_returned (sym e)

      at1 : At w c1 (pc + 1)
      at1 = masked_at w ready c pc n t1 at

      at2 : At w c2 (pc + 1 + 1)
      at2 = masked_at w ready c1 (pc + 1) k f2 at1

      t_is1 : c1.masks n ≡ T
      t_is1 = put_same c.masks n t1 ∙ ap (λ z. where_true is_true (on z v)) em

      t_is : c2.masks n ≡ T
      t_is = put_other c1.masks k f2 n nk ∙ t_is1

      k_is : c2.masks k ≡ F
      k_is = put_same c1.masks k f2 ∙ ap (λ z. without z (c1.masks n)) (put_other c.masks n t1 k kn ∙ em) ∙ ap (without a) t_is1

      co_is : c2.masks co ≡ c.masks co
      co_is = put_other c1.masks k f2 co cok ∙ put_other c.masks n t1 co con

      rr_is : c2.masks spot.returned ≡ c.masks spot.returned
      rr_is = put_other c1.masks k f2 spot.returned rrk ∙ put_other c.masks n t1 spot.returned rrn

      low_is : (i : ℕ) → i < n → i ≢ k → c2.masks i ≡ c.masks i
      low_is i lt ik = let i_n : i ≢ n = omega (arith, lt) in put_other c1.masks k f2 i ik ∙ put_other c.masks n t1 i i_n

      parted : (i : Jump) → AreAt w.routine.code pc (left_code i x k co n) → Comes w c 2 c2
      parted i h = comes_on w c c1 c2 1 1 (where_comes w ready c pc n x k at h.0) (others_comes w ready c1 (pc + 1) k k n at1 h.1.0)

      done : (i : Jump) → AreAt w.routine.code pc (left_code i x k co n) → StmtRuns w w.turns c (pc + length (left_code i x k co n)) spot q (both_sides (all_jump i T s1) (λ s2. unless_empty (gang_of w) F s2 went_all))
      done Break h = subst (λ u. StmtRuns w w.turns c (pc + 2) spot q (go_on u (λ s' g' b' c' r'. Went s' (union nobody g') (union T b') (union nobody c') (union nobody r')))) (nobody_left (gang_of w) F s1) broken
        where
          broken : StmtOk w c (pc + 2) spot q s1 F nobody nobody
          broken = record {
            conf = c2;
            steps = 2;
            comes = parted Break h;
            at = at_to w c2 (pc + 1 + 1) (pc + 2) at2 (omega arith);
            stands = st;
            spares = spares_all w n c;
            went = k_is;
            continued = co_is ∙ sym (union_nobody (c.masks co));
            returned = rr_is ∙ sym (union_nobody (c.masks spot.returned));
            masks = λ i lt ik ic ir. low_is i lt ik;
            bound = omega (arith, le, more);
          }
      done Continue h = subst (λ u. StmtRuns w w.turns c (pc + 3) spot q (go_on u (λ s' g' b' c' r'. Went s' (union nobody g') (union nobody b') (union T c') (union nobody r')))) (nobody_left (gang_of w) F s1) continued
        where
          c3 : Conf
          c3 = masked w ready c2 co (union (c2.masks co) (c2.masks n))

          at3 : At w c3 (pc + 1 + 1 + 1)
          at3 = masked_at w ready c2 (pc + 1 + 1) co (union (c2.masks co) (c2.masks n)) at2

          kco : k ≢ co
          kco = three.on_continued

          continued : StmtOk w c (pc + 3) spot q s1 F (union T nobody) nobody
          continued = record {
            conf = c3;
            steps = 3;
            comes = comes_on w c c2 c3 2 1 (parted Continue h) (step_go w c2 (pc + 1 + 1) (unite co co n) c3 ready at2 h.1.1.0 refl);
            at = at_to w c3 (pc + 1 + 1 + 1) (pc + 3) at3 (omega arith);
            stands = st;
            spares = spares_all w n c;
            went = put_other c2.masks co _ k kco ∙ k_is;
            continued = put_same c2.masks co _ ∙ ap (λ z. union z (c2.masks n)) co_is ∙ ap (union (c.masks co)) t_is ∙ ap (union (c.masks co)) (sym (union_nobody T));
            returned = put_other c2.masks co _ spot.returned rrco ∙ rr_is ∙ sym (union_nobody (c.masks spot.returned));
            masks = λ i lt ik ic ir. put_other c2.masks co _ i ic ∙ low_is i lt ik;
            bound = omega (arith, le, more);
          }
