-- `if`: by a jump where the test is uniform, else the two parts, each for its own.
use Rattle.std.proofs.Common.{◌≡◌, ◌≢◌, ℕ, ◌+◌, ◌*◌, ◌<◌, ◌≤◌, List, [], ◌∷◌, ◌++◌, length, Some, Bool, true, false, refl, sym, ap, ◌∙◌, subst, arith, length-append}
use Rattle.std.specs.Prelude.{slice_get, not, if◌then◌else◌}
use Rattle.isp_base.specs.Maps.{Lanes, on, where_true}
use Rattle.isp_base.specs.Sets.{Mask, nobody, union, without, any, all as all_of}
use Rattle.isp_base.specs.declared.types.Rate.{Rate}
use Rattle.isp_base.specs.declared.types.Rate.TheVariants.{Uniform, Varying}
use Rattle.isp_code.specs.Conf.{Conf}
use Rattle.isp_code.specs.Lines.{jumps}
use Rattle.isp_code.specs.declared.instr.Instr.{Instr}
use Rattle.isp_code.specs.declared.instr.Instr.TheVariants as instr
use Rattle.isp_code.specs.declared.instr.JumpTest.TheVariants as jump
use Rattle.isp_tree.specs.declared.stmt.Form.{Form}
use Rattle.isp_tree.specs.declared.stmt.Form.TheVariants.{Plain, Coherent}
use Rattle.isp_meaning.specs.State.{State}
use Rattle.isp_meaning.specs.Payloads.{Payload, is_true, kept_by}
use Rattle.isp_meaning.specs.Outcomes.{Res, Went, Trapped, Cut, go_on, went_all, both_sides, unless_empty, if_so}
use Rattle.isp_meaning.specs.Statements.{branches}
use Rattle.isp_lower_code.specs.Instructions.{jump_off}
use Rattle.isp_lower_code.specs.Pieces.{guard}
use Rattle.isp_lower_code.specs.Layout.{register, mask_register}
use Rattle.isp_lower_code.specs.Runs.{Comes}
use Rattle.isp_lower_code.specs.Setting.{Setting, IsSettled, gang_of, AreAt, At, Stands, Holds, Allowed}
use Rattle.isp_lower_code.proofs.Lemmas.{are_front, are_back, put_same, put_other, comes_none, comes_on, step_go, at_to, spares_all, spares_less, spares_on, failed_after, stopped_after, failed_less}
use Rattle.isp_lower_code.proofs.Lemmas.{stopped_less, jumped, jump_comes, jump_at, masked, where_comes, others_comes, masked_at, any_nobody, where_inside, at_kept}
use Rattle.isp_masks_code.specs.Loops.{copy_mask, jump_all}
use Rattle.isp_masks_code.specs.Sets.{unite}
use Rattle.isp_masks_code.specs.Statements.{parted_code, wide_code, if_code, if_else_code}
use Rattle.isp_masks_code.specs.Spots.{Spot, under, widely}
use Rattle.isp_masks_code.specs.StmtRuns.{AreThree, EntersAt, Inside, StmtOk, StmtRuns}
use Rattle.isp_masks_code.specs.declared.exits.Leaving.{Leaving}
use Rattle.isp_masks_code.specs.declared.exits.Leaving.TheVariants.{Never, Always, Maybe}
use Rattle.isp_masks_code.proofs.Jumping.{Left, BothLeft}
use Rattle.isp_masks_code.proofs.Unions.{union_nobody, union_assoc, without_full, below_without, full_part}
use Rattle.isp_masks_code.proofs.Combine.{part_spot, deep, stmt_after, go_runs, plain_ok, jump_after, guard_runs}
use Rattle.isp_masks_code.proofs.Sides.{branches_parts, nobody_left}
use Rattle.isp_masks_code.proofs.KeptParts.{kept_runs, both_kept_runs, left_runs}

module _ (w : Setting) (ready : IsSettled w) where
  -- ---- in lanes

  pub parted_runs : (n x pc : ℕ) (spot : Spot) (q : ℕ) (a : Mask) (m : Payload) (s : State) (c : Conf) (first rest : ℕ → List Instr)
      (va vb : Mask → State → Res) → At w c pc → c.masks spot.on ≡ a → any (gang_of w) a ≡ true → Inside w a → Stands w s c → Holds Varying a x m c
      → 5 + q ≤ 32 * s.work → spot.slot < n → AreThree spot → AreAt w.routine.code pc (parted_code x pc spot.on spot.slot first rest)
      → ((T : Mask) (s1 : State) (c1 : Conf) (pc1 z : ℕ) → AreThree (deep n spot.slot spot) → AreAt w.routine.code pc1 (first pc1)
      → EntersAt w pc1 (deep n spot.slot spot) T s1 c1 z → StmtRuns w w.turns c1 (pc1 + length (first pc1)) (deep n spot.slot spot) z (va T s1))
      → ((F : Mask) (s1 : State) (c1 : Conf) (pc1 z : ℕ) → AreThree (deep n spot.on spot) → AreAt w.routine.code pc1 (rest pc1) → At w c1 pc1
      → c1.masks spot.on ≡ F → Inside w F → Stands w s1 c1 → 1 + z ≤ 32 * s1.work
      → StmtRuns w w.turns c1 (pc1 + length (rest pc1)) (deep n spot.on spot) z (unless_empty (gang_of w) F s1 vb))
      → StmtRuns w w.turns c (pc + length (parted_code x pc spot.on spot.slot first rest)) spot q (branches (gang_of w) a va vb m s)
  parted_runs n x pc spot q a m s c first rest va vb at em some inside st hold le next three has fa fb =
      subst (λ v. StmtRuns w w.turns c end spot q v) (sym (branches_parts (gang_of w) a va vb m s some ∙ ap (λ z. both_sides (unless_empty (gang_of w) z s va) (λ s1. unless_empty (gang_of w) (without a z) s1 vb)) kept))
      (stmt_after w ready w.turns c c2 2 end spot q _ (comes_on w c c1 c2 1 1 (where_comes w ready c pc spot.slot x spot.on at has.0)
      (others_comes w ready c1 (pc + 1) spot.on spot.on spot.slot (masked_at w ready c pc spot.slot t1 at) has.1.0)) (spares_all w spot.slot c)
      (λ r lt ne. let rn : r ≢ spot.slot = omega arith in put_other c1.masks spot.on f2 r ne ∙ put_other c.masks spot.slot t1 r rn) three
      (go_runs w ready w.turns c2 p2 (deep n spot.slot spot) 2 (2 + q) (unless_empty (gang_of w) T s va) _ end spot begin second))
    where
      v : Lanes
      v = c.vectors x

      T : Mask
      T = where_true is_true (on a v)

      F : Mask
      F = without a T

      kept : kept_by is_true a m ≡ T
      kept = at_kept Varying a is_true m ∙ ap (kept_by is_true a) hold

      t1 : Mask
      t1 = where_true is_true (on (c.masks spot.on) (c.vectors x))

      c1 : Conf
      c1 = masked w ready c spot.slot t1

      f2 : Mask
      f2 = without (c1.masks spot.on) (c1.masks spot.slot)

      c2 : Conf
      c2 = masked w ready c1 spot.on f2

      lk : spot.on < spot.slot
      lk = three.low_on

      lco : spot.continued < spot.slot
      lco = three.low_continued

      lrr : spot.returned < spot.slot
      lrr = three.low_returned

      kn : spot.on ≢ spot.slot
      kn = omega (arith, three.low_on)

      nk : spot.slot ≢ spot.on
      nk = omega (arith, three.low_on)

      nco : spot.slot ≢ spot.continued
      nco = omega (arith, three.low_continued)

      nrr : spot.slot ≢ spot.returned
      nrr = omega (arith, three.low_returned)

      three_n : AreThree (deep n spot.slot spot)
      three_n = record {
        low_on = omega (arith, next);
        low_continued = omega (arith, next, three.low_continued);
        low_returned = omega
            (arith, next, three.low_returned);
        on_continued = nco;
        on_returned = nrr;
        continued_returned = three.continued_returned;
      }

      three_k : AreThree (deep n spot.on spot)
      three_k = record {
        low_on = omega (arith, next, three.low_on);
        low_continued = omega (arith, next, three.low_continued);
        low_returned = omega
            (arith, next, three.low_returned);
        on_continued = three.on_continued;
        on_returned = three.on_returned;
        continued_returned =
            three.continued_returned;
      }

      t_is : c1.masks spot.slot ≡ T
      t_is = put_same c.masks spot.slot t1 ∙ ap (λ z. where_true is_true (on z v)) em

      t_is2 : c2.masks spot.slot ≡ T
      t_is2 = put_other c1.masks spot.on f2 spot.slot nk ∙ t_is

      f_is : c2.masks spot.on ≡ F
      f_is = put_same c1.masks spot.on f2 ∙ ap (λ z. without z (c1.masks spot.slot)) (put_other c.masks spot.slot t1 spot.on kn ∙ em) ∙ ap (without a) t_is

      side : List Instr
      side = guard (jump_off spot.slot) (pc + 1 + 1) first

      p2 : ℕ
      p2 = pc + 1 + 1 + length side

      p3 : ℕ
      p3 = p2 + length (rest p2)

      end : ℕ
      end = pc + length (parted_code x pc spot.on spot.slot first rest)

      at_side : AreAt w.routine.code (pc + 1 + 1) side
      at_side = are_front w.routine.code (pc + 1 + 1) side (rest p2 ++ unite spot.on spot.slot spot.on ∷ []) has.1.1

      at_rest : AreAt w.routine.code p2 (rest p2 ++ unite spot.on spot.slot spot.on ∷ [])
      at_rest = are_back w.routine.code (pc + 1 + 1) side (rest p2 ++ unite spot.on spot.slot spot.on ∷ []) has.1.1

      at_last : slice_get w.routine.code p3 ≡ Some (unite spot.on spot.slot spot.on)
      at_last = (are_back w.routine.code p2 (rest p2) (unite spot.on spot.slot spot.on ∷ []) at_rest).0

      ends : p3 + 1 ≡ end
      ends = omega (arith, length-append side (rest p2 ++ unite spot.on spot.slot spot.on ∷ []), length-append (rest p2) (unite spot.on spot.slot spot.on ∷ []))

      begin : StmtRuns w w.turns c2 p2 (deep n spot.slot spot) (2 + (2 + q)) (unless_empty (gang_of w) T s va)
      begin = guard_runs w ready w.turns (pc + 1 + 1) (deep n spot.slot spot) (2 + (2 + q)) T s c2 first va
          (masked_at w ready c1 (pc + 1) spot.on f2 (masked_at w ready c pc spot.slot t1 at)) t_is2 (where_inside (Allowed w) a is_true v inside) st
          (omega (arith, le)) three_n at_side (λ c3 z en. fa T s c3 (pc + 1 + 1 + 1) z three_n at_side.1 en)

      second : (s1 : State) (g b ct rt : Mask) → unless_empty (gang_of w) T s va ≡ Went s1 g b ct rt
          → StmtOk w c2 p2 (deep n spot.slot spot) (2 + (2 + q)) s1 g ct rt
          → StmtRuns w w.turns c2 end spot (2 + q) (go_on (unless_empty (gang_of w) F s1 vb)
          (λ s' g' b' c' r'. Went s' (union g g') (union b b') (union ct c') (union rt r')))
      second s1 g b ct rt ev ok = join (unless_empty (gang_of w) F s1 vb)
          (fb F s1 ok.conf p2 (1 + (ok.steps + (2 + q))) three_k
          (are_front w.routine.code p2 (rest p2) (unite spot.on spot.slot spot.on ∷ []) at_rest) ok.at
          (ok.masks spot.on (omega (arith, next, three.low_on)) kn three.on_continued three.on_returned ∙ f_is) (below_without (Allowed w) a T inside)
          ok.stands (omega (arith, ok.bound)))
        where
          join : (u : Res) → StmtRuns w w.turns ok.conf p3 (deep n spot.on spot) (1 + (ok.steps + (2 + q))) u → StmtRuns w w.turns c2 end spot (2 + q) (go_on u (λ s' g' b' c' r'. Went s' (union g g') (union b b') (union ct c') (union rt r')))
          join (Went s' g' b' c' r') r = record {
            conf = c4;
            steps = ok.steps + (r.steps + 1);
            comes = comes_on w c2 ok.conf c4 ok.steps (r.steps + 1) ok.comes (comes_on w ok.conf c3 c4 r.steps 1 r.comes (step_go w c3 p3 (unite spot.on spot.slot spot.on) c4 ready r.at at_last refl));
            at = at_to w c4 (p3 + 1) end (masked_at w ready c3 p3 spot.on (union (c3.masks spot.slot) (c3.masks spot.on)) r.at) ends;
            stands = r.stands;
            spares = spares_less w spot.slot n c2 c3 (omega (arith, next)) (spares_on w n c2 ok.conf c3 ok.spares r.spares);
            went = put_same c3.masks spot.on _ ∙ ap (λ z. union z (c3.masks spot.on)) (r.masks spot.slot next nk nco nrr ∙ ok.went) ∙ ap (union g) r.went;
            continued = put_other c3.masks spot.on _ spot.continued cok ∙ r.continued ∙ ap (λ z. union z c') ok.continued ∙ union_assoc (c2.masks spot.continued) ct c';
            returned = put_other c3.masks spot.on _ spot.returned rrk ∙ r.returned ∙ ap (λ z. union z r') ok.returned ∙ union_assoc (c2.masks spot.returned) rt r';
            masks = λ i lt ik ic ir. let i_n : i ≢ spot.slot = omega arith in put_other c3.masks spot.on _ i ik ∙ r.masks i (omega (arith, lt, next)) ik ic ir ∙ ok.masks i (omega (arith, lt, next)) i_n ic ir;
            bound = omega (arith, r.bound);
          }
            where
              c3 : Conf
              c3 = r.conf

              c4 : Conf
              c4 = masked w ready c3 spot.on (union (c3.masks spot.slot) (c3.masks spot.on))

              cok : spot.continued ≢ spot.on
              cok = λ e. three.on_continued (sym e)

              rrk : spot.returned ≢ spot.on
              rrk = λ e. three.on_returned (sym e)
          join (Trapped t s') r = failed_after w ready c2 ok.conf ok.steps (2 + q) t s' ok.comes (failed_less w ready ok.conf 1 (ok.steps + (2 + q)) t s' r)
          join (Cut s') r = stopped_after w ready w.turns c2 ok.conf ok.steps (2 + q) s' ok.comes (stopped_less w ready w.turns ok.conf 1 (ok.steps + (2 + q)) s' r)

  -- ---- in lanes, in a c-form

  pub wide_runs : (x pc : ℕ) (spot : Spot) (q : ℕ) (a : Mask) (m : Payload) (s : State) (c : Conf) (first rest : ℕ → List Instr)
      (va vb : Mask → State → Res) → At w c pc → c.masks spot.on ≡ a → any (gang_of w) a ≡ true → Inside w a → Stands w s c → Holds Varying a x m c
      → 8 + q ≤ 32 * s.work → AreThree spot → AreAt w.routine.code pc (wide_code x pc spot.on spot.slot first rest)
      → ((T : Mask) (s1 : State) (c1 : Conf) (pc1 z : ℕ) → AreThree (widely spot.on spot) → AreAt w.routine.code pc1 (first pc1)
      → EntersAt w pc1 (widely spot.on spot) T s1 c1 z → StmtRuns w w.turns c1 (pc1 + length (first pc1)) (widely spot.on spot) z (va T s1))
      → ((F : Mask) (s1 : State) (c1 : Conf) (pc1 z : ℕ) → AreThree (widely (spot.slot + 1) spot) → AreAt w.routine.code pc1 (rest pc1) → At w c1 pc1
      → c1.masks (spot.slot + 1) ≡ F → Inside w F → Stands w s1 c1 → 1 + z ≤ 32 * s1.work
      → StmtRuns w w.turns c1 (pc1 + length (rest pc1)) (widely (spot.slot + 1) spot) z (unless_empty (gang_of w) F s1 vb))
      → StmtRuns w w.turns c (pc + length (wide_code x pc spot.on spot.slot first rest)) spot q (branches (gang_of w) a va vb m s)
  wide_runs x pc spot q a m s c first rest va vb at em some inside st hold le three has fa fb =
      subst (λ v. StmtRuns w w.turns c end spot q v) (sym (branches_parts (gang_of w) a va vb m s some ∙ ap (λ z. both_sides (unless_empty (gang_of w) z s va) (λ s1. unless_empty (gang_of w) (without a z) s1 vb)) kept))
      (stmt_after w ready w.turns c c1 1 end spot q _ (where_comes w ready c pc n x k at has.0) (spares_all w n c) (λ r lt ne. let rn : r ≢ n = omega (arith, lt) in put_other c.masks n t1 r rn) three (tried (all_of (gang_of w) T) refl))
    where
      k : ℕ
      k = spot.on

      n : ℕ
      n = spot.slot

      v : Lanes
      v = c.vectors x

      T : Mask
      T = where_true is_true (on a v)

      F : Mask
      F = without a T

      kept : kept_by is_true a m ≡ T
      kept = at_kept Varying a is_true m ∙ ap (kept_by is_true a) hold

      inside_t : Inside w T
      inside_t = where_inside (Allowed w) a is_true v inside

      t1 : Mask
      t1 = where_true is_true (on (c.masks k) (c.vectors x))

      c1 : Conf
      c1 = masked w ready c n t1

      p1 : ℕ
      p1 = pc + 1 + 1 + 1 + 1

      -- the jump to the first part
      c1j : Conf
      c1j = jumped w ready c1 jump.All (mask_register n) (p1 + 1)

      f2 : Mask
      f2 = without (c1.masks k) (c1.masks n)

      c2 : Conf
      c2 = masked w ready c1j (n + 1) f2

      c3 : Conf
      c3 = masked w ready c2 k (c2.masks n)

      kn : k ≢ n
      kn = omega (arith, three.low_on)

      ks : k ≢ n + 1
      ks = omega (arith, three.low_on)

      nk : n ≢ k
      nk = omega (arith, three.low_on)

      sk : n + 1 ≢ k
      sk = omega (arith, three.low_on)

      ns : n ≢ n + 1
      ns = omega arith

      sn : n + 1 ≢ n
      sn = omega arith

      nco : n ≢ spot.continued
      nco = omega (arith, three.low_continued)

      nrr : n ≢ spot.returned
      nrr = omega (arith, three.low_returned)

      sco : n + 1 ≢ spot.continued
      sco = omega (arith, three.low_continued)

      srr : n + 1 ≢ spot.returned
      srr = omega (arith, three.low_returned)

      cok : spot.continued ≢ k
      cok = λ e. three.on_continued (sym e)

      rrk : spot.returned ≢ k
      rrk = λ e. three.on_returned (sym e)

      at1 : At w c1 (pc + 1)
      at1 = masked_at w ready c pc n t1 at

      t_is1 : c1.masks n ≡ T
      t_is1 = put_same c.masks n t1 ∙ ap (λ z. where_true is_true (on z v)) em

      tried_comes : Comes w c1 1 c1j
      tried_comes = jump_comes w ready c1 (pc + 1) jump.All (mask_register n) (p1 + 1) at1 has.1.0

      at1j : (f : Bool) → all_of (gang_of w) T ≡ f → At w c1j (if f then p1 + 1 else pc + 1 + 1)
      at1j f h = jump_at w ready c1 (pc + 1) jump.All (mask_register n) (p1 + 1) f at1 (ap (all_of (gang_of w)) t_is1 ∙ h)

      at2 : all_of (gang_of w) T ≡ false → At w c2 (pc + 1 + 1 + 1)
      at2 h = masked_at w ready c1j (pc + 1 + 1) (n + 1) f2 (at1j false h)

      at3 : all_of (gang_of w) T ≡ false → At w c3 p1
      at3 h = masked_at w ready c2 (pc + 1 + 1 + 1) k (c2.masks n) (at2 h)

      comes : all_of (gang_of w) T ≡ false → Comes w c1 3 c3
      comes h =
          comes_on w c1 c1j c3 1 2 tried_comes (comes_on w c1j c2 c3 1 1 (others_comes w ready c1j (pc + 1 + 1) (n + 1) k n (at1j false h) has.1.1.0) (step_go w c2 (pc + 1 + 1 + 1) (copy_mask k n) c3 ready (at2 h) has.1.1.1.0 refl))

      others : (r : ℕ) → r < n → r ≢ k → c3.masks r ≡ c1.masks r
      others r lt ne = let rs : r ≢ n + 1 = omega (arith, lt) in put_other c2.masks k (c2.masks n) r ne ∙ put_other c1.masks (n + 1) f2 r rs

      t_is2 : c2.masks n ≡ T
      t_is2 = put_other c1.masks (n + 1) f2 n ns ∙ t_is1

      t_is : c3.masks n ≡ T
      t_is = put_other c2.masks k (c2.masks n) n nk ∙ t_is2

      k_is : c3.masks k ≡ T
      k_is = put_same c2.masks k (c2.masks n) ∙ t_is2

      f_is : c3.masks (n + 1) ≡ F
      f_is = put_other c2.masks k (c2.masks n) (n + 1) sk ∙ put_same c1.masks (n + 1) f2 ∙ ap (λ z. without z (c1.masks n)) (put_other c.masks n t1 k kn ∙ em) ∙ ap (without a) t_is1

      three_k : AreThree (widely k spot)
      three_k = record {
        low_on = omega (arith, three.low_on);
        low_continued = omega (arith, three.low_continued);
        low_returned = omega
            (arith, three.low_returned);
        on_continued = three.on_continued;
        on_returned = three.on_returned;
        continued_returned =
            three.continued_returned;
      }

      three_s : AreThree (widely (n + 1) spot)
      three_s = record { low_on = omega arith; low_continued = omega (arith, three.low_continued); low_returned = omega (arith, three.low_returned); on_continued = sco; on_returned = srr; continued_returned = three.continued_returned }

      side : List Instr
      side = guard (jump_off k) p1 first

      p2 : ℕ
      p2 = p1 + length side

      join : ℕ → List Instr
      join pc2 = rest pc2 ++ unite k k (n + 1) ∷ []

      last : List Instr
      last = guard (jump_all n) p2 join

      out : ℕ
      out = p2 + 1 + length (join (p2 + 1))

      p4 : ℕ
      p4 = p2 + 1 + length (rest (p2 + 1))

      end : ℕ
      end = pc + length (wide_code x pc k n first rest)

      at_side : AreAt w.routine.code p1 side
      at_side = are_front w.routine.code p1 side last has.1.1.1.1

      at_last : AreAt w.routine.code p2 last
      at_last = are_back w.routine.code p1 side last has.1.1.1.1

      at_rest : AreAt w.routine.code (p2 + 1) (rest (p2 + 1))
      at_rest = are_front w.routine.code (p2 + 1) (rest (p2 + 1)) (unite k k (n + 1) ∷ []) at_last.1

      at_unite : slice_get w.routine.code p4 ≡ Some (unite k k (n + 1))
      at_unite = (are_back w.routine.code (p2 + 1) (rest (p2 + 1)) (unite k k (n + 1) ∷ []) at_last.1).0

      out_is : out ≡ end
      out_is = omega (arith, length-append side last)

      ends : p4 + 1 ≡ end
      ends = omega (arith, length-append side last, length-append (rest (p2 + 1)) (unite k k (n + 1) ∷ []))

      -- nobody is left where all lanes passed the test
      skipped : (s1 : State) → all_of (gang_of w) T ≡ true → unless_empty (gang_of w) F s1 vb ≡ Went s1 nobody nobody nobody nobody
      skipped s1 h = ap (λ z. unless_empty (gang_of w) z s1 vb) (without_full (gang_of w) a T h (λ p m. (inside p m).0)) ∙ ap (λ z. if_so z (vb nobody) (went_all nobody) s1) (any_nobody (gang_of w))

      tried : (f : Bool) → all_of (gang_of w) T ≡ f → StmtRuns w w.turns c1 end spot (1 + q) (both_sides (unless_empty (gang_of w) T s va) (λ s1. unless_empty (gang_of w) F s1 vb))
      tried true h =
          stmt_after w ready w.turns c1 c1j 1 end spot (1 + q) _ tried_comes (spares_all w n c1) (λ r lt ne. refl) three
          (go_runs w ready w.turns c1j p2 (widely k spot) 1 (1 + (1 + q)) (unless_empty (gang_of w) T s va) _ end spot begin second)
        where
          whole : T ≡ a
          whole = full_part (gang_of w) a T h (λ p m. (inside p m).0) (where_inside (λ p. a p ≡ true) a is_true v (λ p m. m))

          some_t : any (gang_of w) T ≡ true
          some_t = ap (any (gang_of w)) whole ∙ some

          k_all : c1j.masks k ≡ T
          k_all = put_other c.masks n t1 k kn ∙ em ∙ sym whole

          behind : p1 + 1 + length (first (p1 + 1)) ≡ p2
          behind = omega arith

          begin : StmtRuns w w.turns c1j p2 (widely k spot) (1 + (1 + (1 + q))) (unless_empty (gang_of w) T s va)
          begin =
              subst (λ d. StmtRuns w w.turns c1j p2 (widely k spot) (1 + (1 + (1 + q))) (if_so d (va T) (went_all T) s)) (sym some_t)
              (subst (λ z. StmtRuns w w.turns c1j z (widely k spot) (1 + (1 + (1 + q))) (va T s)) behind
              (fa T s c1j (p1 + 1) (1 + (1 + (1 + q))) three_k at_side.1
              (record {
                at = at1j true h;
                mask = k_all;
                some = some_t;
                inside = inside_t;
                stands = st;
                used = omega (arith, le);
                low =
                    three_k.low_on;
              })))

          second : (s1 : State) (g b ct rt : Mask) → unless_empty (gang_of w) T s va ≡ Went s1 g b ct rt
              → StmtOk w c1j p2 (widely k spot) (1 + (1 + (1 + q))) s1 g ct rt
              → StmtRuns w w.turns c1j end spot (1 + (1 + q)) (go_on (unless_empty (gang_of w) F s1 vb)
              (λ s' g' b' c' r'. Went s' (union g g') (union b b') (union ct c') (union rt r')))
          second s1 g b ct rt ev ok = subst (λ u. StmtRuns w w.turns c1j end spot (1 + (1 + q)) (go_on u (λ s' g' b' c' r'. Went s' (union g g') (union b b') (union ct c') (union rt r')))) (sym (skipped s1 h)) all_passed
            where
              c4 : Conf
              c4 = jumped w ready ok.conf jump.All (mask_register n) out

              full : jumps w.code w.routine ok.conf jump.All (mask_register n) ≡ true
              full = ap (all_of (gang_of w)) (ok.masks n (omega arith) nk nco nrr ∙ t_is1) ∙ h

              all_passed : StmtOk w c1j end spot (1 + (1 + q)) s1 (union g nobody) (union ct nobody) (union rt nobody)
              all_passed = record {
                conf = c4;
                steps = ok.steps + 1;
                comes = comes_on w c1j ok.conf c4 ok.steps 1 ok.comes (jump_comes w ready ok.conf p2 jump.All (mask_register n) out ok.at at_last.0);
                at = at_to w c4 out end (jump_at w ready ok.conf p2 jump.All (mask_register n) out true ok.at full) out_is;
                stands = ok.stands;
                spares = spares_less w n (n + 1 + 1) c1j c4 (omega arith) ok.spares;
                went = ok.went ∙ sym (union_nobody g);
                continued = ok.continued ∙ ap (union (c1j.masks spot.continued)) (sym (union_nobody ct));
                returned = ok.returned ∙ ap (union (c1j.masks spot.returned)) (sym (union_nobody rt));
                masks = λ i lt ik ic ir. ok.masks i (omega (arith, lt)) ik ic ir;
                bound = omega (arith, ok.bound);
              }
      tried false h =
          stmt_after w ready w.turns c1 c3 3 end spot (1 + q) _ (comes h) (spares_all w n c1) others three
          (go_runs w ready w.turns c3 p2 (widely k spot) 3 (3 + (1 + q)) (unless_empty (gang_of w) T s va) _ end spot begin second)
        where
          begin : StmtRuns w w.turns c3 p2 (widely k spot) (3 + (3 + (1 + q))) (unless_empty (gang_of w) T s va)
          begin = guard_runs w ready w.turns p1 (widely k spot) (3 + (3 + (1 + q))) T s c3 first va (at3 h) k_is inside_t st (omega (arith, le)) three_k at_side (λ c4 z en. fa T s c4 (p1 + 1) z three_k at_side.1 en)

          second : (s1 : State) (g b ct rt : Mask) → unless_empty (gang_of w) T s va ≡ Went s1 g b ct rt
              → StmtOk w c3 p2 (widely k spot) (3 + (3 + (1 + q))) s1 g ct rt
              → StmtRuns w w.turns c3 end spot (3 + (1 + q)) (go_on (unless_empty (gang_of w) F s1 vb)
              (λ s' g' b' c' r'. Went s' (union g g') (union b b') (union ct c') (union rt r')))
          second s1 g b ct rt ev ok = joined (unless_empty (gang_of w) F s1 vb)
              (fb F s1 c4 (p2 + 1) (1 + (e + (3 + (1 + q)))) three_s at_rest at4 (ok.masks (n + 1) (omega arith) sk sco srr ∙ f_is)
              (below_without (Allowed w) a T inside) ok.stands (omega (arith, ok.bound)))
            where
              e : ℕ
              e = ok.steps + 1

              c4 : Conf
              c4 = jumped w ready ok.conf jump.All (mask_register n) out

              comes4 : Comes w c3 e c4
              comes4 = comes_on w c3 ok.conf c4 ok.steps 1 ok.comes (jump_comes w ready ok.conf p2 jump.All (mask_register n) out ok.at at_last.0)

              not_full : jumps w.code w.routine ok.conf jump.All (mask_register n) ≡ false
              not_full = ap (all_of (gang_of w)) (ok.masks n (omega arith) nk nco nrr ∙ t_is) ∙ h

              at4 : At w c4 (p2 + 1)
              at4 = jump_at w ready ok.conf p2 jump.All (mask_register n) out false ok.at not_full

              joined : (u : Res) → StmtRuns w w.turns c4 p4 (widely (n + 1) spot) (1 + (e + (3 + (1 + q)))) u → StmtRuns w w.turns c3 end spot (3 + (1 + q)) (go_on u (λ s' g' b' c' r'. Went s' (union g g') (union b b') (union ct c') (union rt r')))
              joined (Went s' g' b' c' r') r = record {
                conf = c6;
                steps = e + (r.steps + 1);
                comes = comes_on w c3 c4 c6 e (r.steps + 1) comes4 (comes_on w c4 c5 c6 r.steps 1 r.comes (step_go w c5 p4 (unite k k (n + 1)) c6 ready r.at at_unite refl));
                at = at_to w c6 (p4 + 1) end (masked_at w ready c5 p4 k (union (c5.masks k) (c5.masks (n + 1))) r.at) ends;
                stands = r.stands;
                spares = spares_less w n (n + 1 + 1) c3 c5 (omega arith) (spares_on w (n + 1 + 1) c3 c4 c5 ok.spares r.spares);
                went = put_same c5.masks k _ ∙ ap (λ z. union z (c5.masks (n + 1))) (r.masks k (omega (arith, three.low_on)) ks three.on_continued three.on_returned ∙ ok.went) ∙ ap (union g) r.went;
                continued = put_other c5.masks k _ spot.continued cok ∙ r.continued ∙ ap (λ z. union z c') ok.continued ∙ union_assoc (c3.masks spot.continued) ct c';
                returned = put_other c5.masks k _ spot.returned rrk ∙ r.returned ∙ ap (λ z. union z r') ok.returned ∙ union_assoc (c3.masks spot.returned) rt r';
                masks = λ i lt ik ic ir. let i_s : i ≢ n + 1 = omega arith in put_other c5.masks k _ i ik ∙ r.masks i (omega arith) i_s ic ir ∙ ok.masks i (omega arith) ik ic ir;
                bound = omega (arith, r.bound);
              }
                where
                  c5 : Conf
                  c5 = r.conf

                  c6 : Conf
                  c6 = masked w ready c5 k (union (c5.masks k) (c5.masks (n + 1)))
              joined (Trapped t s') r = failed_after w ready c3 c4 e (3 + (1 + q)) t s' comes4 (failed_less w ready c4 1 (e + (3 + (1 + q))) t s' r)
              joined (Cut s') r = stopped_after w ready w.turns c3 c4 e (3 + (1 + q)) s' comes4 (stopped_less w ready w.turns c4 1 (e + (3 + (1 + q))) s' r)

  -- ---- by a jump

  -- the jump by a test, to either side
  test_at : (c : Conf) (pc x to : ℕ) (b : Bool) → At w c pc → is_true (c.scalars x) ≡ b → At w (jumped w ready c jump.False (register Uniform x) to) (if not b then to else pc + 1)
  test_at c pc x to b at e = jump_at w ready c pc jump.False (register Uniform x) to (not b) at (ap not e)

  -- what a part is asked: it runs for a mask that has members, at the slots that the test leaves
  abbrev pub PartRuns : Form → Rate → Spot → (ℕ → Spot → List Instr) → (Mask → State → Res) → Type 0
  PartRuns f r spot code v = (j : ℕ) (T : Mask) (s : State) (c : Conf) (pc z : ℕ) → AreThree (part_spot f r j spot)
      → AreAt w.routine.code pc (code pc (part_spot f r j spot)) → EntersAt w pc (part_spot f r j spot) T s c z
      → StmtRuns w w.turns c (pc + length (code pc (part_spot f r j spot))) (part_spot f r j spot) z (v T s)

  pub if_runs : (v : Leaving) (f : Form) (r : Rate) (x pc : ℕ) (spot : Spot) (q : ℕ) (a : Mask) (m : Payload) (s : State) (c : Conf)
      (first : ℕ → Spot → List Instr) (va : Mask → State → Res) → At w c pc → c.masks spot.on ≡ a → any (gang_of w) a ≡ true → Inside w a
      → Stands w s c → Holds r a x m c → 8 + q ≤ 32 * s.work → AreThree spot → AreAt w.routine.code pc (if_code v f r x pc spot first) → Left v va
      → PartRuns f r spot first va → StmtRuns w w.turns c (pc + length (if_code v f r x pc spot first)) spot q
      (branches (gang_of w) a va went_all m s)
  if_runs o f Uniform x pc spot q a m s c first va at em some inside st hold le three has left fa =
      subst (λ z. StmtRuns w w.turns c end spot q (branches (gang_of w) a va went_all z s)) (sym hold)
      (stmt_after w ready w.turns c c4 1 end spot q _ (jump_comes w ready c pc jump.False (register Uniform x) to at has.0) (spares_all w spot.slot c) (λ r lt ne. refl) three (go (is_true (c.scalars x)) refl))
    where
      to : ℕ
      to = pc + 1 + length (first (pc + 1) spot)

      end : ℕ
      end = pc + length (if_code o f Uniform x pc spot first)

      ends : to ≡ end
      ends = omega arith

      c4 : Conf
      c4 = jumped w ready c jump.False (register Uniform x) to

      go : (b : Bool) → is_true (c.scalars x) ≡ b → StmtRuns w w.turns c4 end spot (1 + q) (if_so b (va a) (went_all a) s)
      go true e = subst (λ z. StmtRuns w w.turns c4 z spot (1 + q) (va a s)) ends
          (fa spot.on a s c4 (pc + 1) (1 + q) three has.1 (record
          { at = test_at c pc x to true at e; mask = em; some = some; inside = inside; stands = st; used = omega (arith, le); low = three.low_on }))
      go false e = plain_ok w ready c4 c4 0 end spot (1 + q) a s (comes_none w c4) (at_to w c4 to end (test_at c pc x to false at e) ends) st (spares_all w spot.slot c4) (λ r h. refl) three em (omega (arith, le))
  if_runs o Coherent Varying x pc spot q a m s c first va at em some inside st hold le three has left fa =
      wide_runs x pc spot q a m s c (λ pc1. first pc1 (widely spot.on spot)) (λ pc1. []) va went_all at em some inside st hold le three has (λ T s1 c1 pc1 z th h en. fa spot.on T s1 c1 pc1 z th h en)
      (λ F s1 c1 pc1 z th h at1 em1 in1 st1 le1.
      let e : pc1 ≡ pc1 + 0 = omega arith in
      subst (λ v. StmtRuns w w.turns c1 (pc1 + 0) (widely (spot.slot + 1) spot) z v) (nobody_left (gang_of w) F s1)
      (plain_ok w ready c1 c1 0 (pc1 + 0) (widely (spot.slot + 1) spot) z F s1 (comes_none w c1) (at_to w c1 pc1 (pc1 + 0) at1 e) st1 (spares_all w (spot.slot + 1 + 1) c1) (λ r lt. refl) th em1 (omega (arith, le1))))
  if_runs Never Plain Varying x pc spot q a m s c first va at em some inside st hold le three has left fa =
      kept_runs w ready x pc spot q a m s c (λ pc1. first pc1 (under spot.slot spot)) va at em some inside st hold (omega (arith, le)) three has left (λ T s1 c1 pc1 z th h en. fa spot.slot T s1 c1 pc1 z th h en)
  if_runs (Always j) Plain Varying x pc spot q a m s c first va at em some inside st hold le three has left fa = left_runs w ready j x pc spot q a m s c va at em some inside st hold (omega (arith, le)) three has left
  if_runs Maybe Plain Varying x pc spot q a m s c first va at em some inside st hold le three has left fa =
      parted_runs (spot.slot + 1) x pc spot q a m s c (λ pc1. first pc1 (under spot.slot spot)) (λ pc1. []) va went_all at em some inside st hold
      (omega (arith, le)) (omega arith) three has (λ T s1 c1 pc1 z th h en. fa spot.slot T s1 c1 pc1 z th h en)
      (λ F s1 c1 pc1 z th h at1 em1 in1 st1 le1.
      let e : pc1 ≡ pc1 + 0 = omega arith in
      subst (λ v. StmtRuns w w.turns c1 (pc1 + 0) (under spot.on spot) z v) (nobody_left (gang_of w) F s1)
      (plain_ok w ready c1 c1 0 (pc1 + 0) (under spot.on spot) z F s1 (comes_none w c1) (at_to w c1 pc1 (pc1 + 0) at1 e) st1 (spares_all w (spot.slot + 1) c1) (λ r lt. refl) th em1 (omega (arith, le1))))

  pub if_else_runs : (b : Bool) (f : Form) (r : Rate) (x pc : ℕ) (spot : Spot) (q : ℕ) (a : Mask) (m : Payload) (s : State) (c : Conf)
      (first second : ℕ → Spot → List Instr) (va vb : Mask → State → Res) → At w c pc → c.masks spot.on ≡ a → any (gang_of w) a ≡ true → Inside w a
      → Stands w s c → Holds r a x m c → 8 + q ≤ 32 * s.work → AreThree spot → AreAt w.routine.code pc (if_else_code b f r x pc spot first second)
      → BothLeft b va vb → PartRuns Coherent r spot first va → PartRuns Coherent r spot second vb
      → StmtRuns w w.turns c (pc + length (if_else_code b f r x pc spot first second)) spot q (branches (gang_of w) a va vb m s)
  if_else_runs o f Uniform x pc spot q a m s c first second va vb at em some inside st hold le three has left fa fb =
      subst (λ z. StmtRuns w w.turns c end spot q (branches (gang_of w) a va vb z s)) (sym hold)
      (stmt_after w ready w.turns c c4 1 end spot q _ (jump_comes w ready c pc jump.False (register Uniform x) pb at has.0) (spares_all w spot.slot c) (λ r lt ne. refl) three (go (is_true (c.scalars x)) refl))
    where
      ca : List Instr
      ca = first (pc + 1) spot

      pb : ℕ
      pb = pc + 1 + length (first (pc + 1) spot) + 1

      to : ℕ
      to = pb + length (second pb spot)

      end : ℕ
      end = pc + length (if_else_code o f Uniform x pc spot first second)

      ends : to ≡ end
      ends = omega (arith, length-append ca (instr.Jump to ∷ second pb spot))

      at2 : AreAt w.routine.code (pc + 1 + length (first (pc + 1) spot)) (instr.Jump to ∷ second pb spot)
      at2 = are_back w.routine.code (pc + 1) ca (instr.Jump to ∷ second pb spot) has.1

      c4 : Conf
      c4 = jumped w ready c jump.False (register Uniform x) pb

      go : (b : Bool) → is_true (c.scalars x) ≡ b → StmtRuns w w.turns c4 end spot (1 + q) (if_so b (va a) (vb a) s)
      go true e =
          subst (λ z. StmtRuns w w.turns c4 z spot (1 + q) (va a s)) ends
          (jump_after w ready w.turns c4 (pc + 1 + length ca) to spot (1 + q) (va a s) at2.0
          (fa spot.on a s c4 (pc + 1) (1 + (1 + q)) three (are_front w.routine.code (pc + 1) ca (instr.Jump to ∷ second pb spot) has.1)
          (record {
            at = test_at c pc x pb true at e;
            mask = em;
            some = some;
            inside = inside;
            stands = st;
            used = omega (arith, le);
            low =
                three.low_on;
          })))
      go false e = subst (λ z. StmtRuns w w.turns c4 z spot (1 + q) (vb a s)) ends
          (fb spot.on a s c4 pb (1 + q) three at2.1 (record
          { at = test_at c pc x pb false at e; mask = em; some = some; inside = inside; stands = st; used = omega (arith, le); low = three.low_on }))
  if_else_runs o Coherent Varying x pc spot q a m s c first second va vb at em some inside st hold le three has left fa fb =
      wide_runs x pc spot q a m s c (λ pc1. first pc1 (widely spot.on spot))
      (λ pc1. guard (jump_off (spot.slot + 1)) pc1 (λ pc2. second pc2 (widely (spot.slot + 1) spot))) va vb at em some inside st hold le three has
      (λ T s1 c1 pc1 z th h en. fa spot.on T s1 c1 pc1 z th h en)
      (λ F s1 c1 pc1 z th h at1 em1 in1 st1 le1. guard_runs w ready w.turns pc1 (widely (spot.slot + 1) spot) z F s1 c1
      (λ pc2. second pc2 (widely (spot.slot + 1) spot)) vb at1 em1 in1 st1 le1 th h
      (λ c2 z2 en. fb (spot.slot + 1) F s1 c2 (pc1 + 1) z2 th h.1 en))
  if_else_runs true Plain Varying x pc spot q a m s c first second va vb at em some inside st hold le three has left fa fb =
      both_kept_runs w ready x pc spot q a m s c (λ pc1. first pc1 (widely spot.slot spot)) (λ pc1. second pc1 (widely (spot.slot + 1) spot)) va vb at
      em some inside st hold (omega (arith, le)) three has left (λ T s1 c1 pc1 z th h en. fa spot.slot T s1 c1 pc1 z th h en)
      (λ F s1 c1 pc1 z th h en. fb (spot.slot + 1) F s1 c1 pc1 z th h en)
  if_else_runs false Plain Varying x pc spot q a m s c first second va vb at em some inside st hold le three has left fa fb =
      parted_runs (spot.slot + 1 + 1) x pc spot q a m s c (λ pc1. first pc1 (widely spot.slot spot))
      (λ pc1. guard (jump_off spot.on) pc1 (λ pc2. second pc2 (widely spot.on spot))) va vb at em some inside st hold (omega (arith, le))
      (omega arith) three has (λ T s1 c1 pc1 z th h en. fa spot.slot T s1 c1 pc1 z th h en)
      (λ F s1 c1 pc1 z th h at1 em1 in1 st1 le1. guard_runs w ready w.turns pc1 (widely spot.on spot) z F s1 c1 (λ pc2. second pc2 (widely spot.on spot)) vb at1 em1 in1 st1 le1 th h (λ c2 z2 en. fb spot.on F s1 c2 (pc1 + 1) z2 th h.1 en))
