-- `assert` goes on where its test is true in all of the set, and traps with the lowest for which it is false.
use Rattle.std.proofs.Common.{◌≡◌, ◌≢◌, ℕ, zero, suc, ◌+◌, ◌*◌, ◌<◌, ◌≤◌, length, Option, Some, None, Bool, true, false, refl, sym, ap, ◌∙◌, subst, arith}
use Rattle.std.specs.Prelude.{slice_get, not, ◌&&◌, if◌then◌else◌}
use Rattle.std.proofs.Math.Path.{fun_ext}
use Rattle.isp_base.specs.Maps.{Lanes, on, holds, where_true}
use Rattle.isp_base.specs.Sets.{Mask, nobody, without, lowest, or_this}
use Rattle.isp_base.specs.Traps.{trap}
use Rattle.isp_base.specs.declared.trap.TrapKind.TheVariants.{Assert}
use Rattle.isp_base.specs.declared.types.Rate.{Rate}
use Rattle.isp_base.specs.declared.types.Rate.TheVariants.{Uniform, Varying}
use Rattle.isp_base.specs.declared.types.Span.{Span}
use Rattle.isp_code.specs.Conf.{Conf, Fail}
use Rattle.isp_code.specs.Lines.{moved, next, unless}
use Rattle.isp_code.specs.declared.instr.JumpTest.TheVariants as jump
use Rattle.isp_meaning.specs.Outcomes.{Val, Gives, Fails, Stops, Done, checked}
use Rattle.isp_meaning.specs.Payloads.{Payload, One, Each, is_true, is_false, kept_by, offender, if_fails}
use Rattle.isp_meaning.specs.State.{State}
use Rattle.isp_lower_code.specs.Layout.{register}
use Rattle.isp_lower_code.specs.Runs.{Comes, DoneRuns}
use Rattle.isp_lower_code.specs.Setting.{Setting, IsSettled, gang_of, AreAt, At, Stands, Holds, Spares}
use Rattle.isp_lower_code.proofs.Lemmas.{put_same, put_other, comes_none, comes_on, step_go, step_fail, next_at, at_to, spares_all, spares_on, failed_after, stopped_after}
use Rattle.isp_lower_code.proofs.Lemmas.{jumped, jump_comes, jump_at, masked, where_comes, others_comes, masked_at, at_kept, place_named}
use Rattle.isp_masks_code.specs.Asserts.{fail, fails_code}

-- ---- the lowest for which a test is true

lowest_nobody : (n : ℕ) → lowest n nobody ≡ None
lowest_nobody zero = refl
lowest_nobody (suc n) = ap (λ o. or_this o false n) (lowest_nobody n)

offender_kept : (gang : ℕ) (f : ℕ → Bool) (a : Mask) (m : Payload) → offender gang f a m ≡ lowest gang (kept_by f a m)
offender_kept gang f a (Each x) = refl
offender_kept gang f a (One x) = go (f x)
  where
    go : (b : Bool) → if_fails gang f a b ≡ lowest gang (if b then a else nobody)
    go true = refl
    go false = sym (lowest_nobody gang)

-- those for which it is not true are those for which it is false
others_false : (a : Mask) (v : Lanes) → without a (where_true is_true (on a v)) ≡ where_true is_false (on a v)
others_false a v = fun_ext (λ p. at p (a p))
  where
    at : (p : ℕ) (b : Bool) → (b && not (holds is_true (if b then Some (v p) else None))) ≡ holds is_false (if b then Some (v p) else None)
    at p true = refl
    at p false = refl

module _ (w : Setting) (ready : IsSettled w) where
  done_after : (c c1 : Conf) (d pc n q : ℕ) (v : Val Done) → Comes w c d c1 → Spares w n c c1 → ((r : ℕ) → r < n → c1.masks r ≡ c.masks r) → DoneRuns w c1 pc n (d + q) v → DoneRuns w c pc n q v
  done_after c c1 d pc n q (Gives x s) h sp ma r = record {
    conf = r.conf;
    steps = d + r.steps;
    comes = comes_on w c c1 r.conf d r.steps h r.comes;
    at = r.at;
    stands = r.stands;
    spares = spares_on w n c c1 r.conf sp r.spares;
    masks = λ i lt. r.masks i lt ∙ ma i lt;
    bound = omega (arith, r.bound);
  }
  done_after c c1 d pc n q (Fails t s) h sp ma r = failed_after w ready c c1 d q t s h r
  done_after c c1 d pc n q (Stops s) h sp ma r = stopped_after w ready w.turns c c1 d q s h r

  -- the instruction that traps: for the lowest of mask k, if it has one
  fail_runs : (o : Option ℕ) (pc k p n q : ℕ) (s : State) (c : Conf) (sp : Span) → lowest (gang_of w) (c.masks k) ≡ o → At w c pc
      → slice_get w.routine.code pc ≡ Some (fail k p) → slice_get w.code.places p ≡ Some sp → Stands w s c → 1 + q ≤ 32 * s.work
      → DoneRuns w c (pc + 1) n q (checked o Assert sp s tt)
  fail_runs None pc k p n q s c sp e at has place st le = record {
    conf = next c;
    steps = 1;
    comes = step_go w c pc (fail k p) (next c) ready at has (ap (λ o. moved (unless w.code w.routine c o Assert p (next c)) (λ c1. c1)) e);
    at = next_at w c (next c) pc at refl refl refl;
    stands = st;
    spares = spares_all w n c;
    masks = λ r lt. refl;
    bound = le;
  }
  fail_runs (Some l) pc k p n q s c sp e at has place st le =
      record {
        conf = c;
        steps = 1;
        fails = step_fail w c pc (fail k p) (trap Assert sp l) ready at has
            (ap (λ o. moved (unless w.code w.routine c o Assert p (next c)) (λ c1. c1)) e
            ∙ ap (λ z. Fail (trap Assert z l)) (place_named w.code w.routine c p sp place));
        arrays_are = st.arrays_are;
        out_is = st.out_is;
        bound = le;
      }

  pub fails_run : (r : Rate) (x pc p k n q : ℕ) (a : Mask) (m : Payload) (s : State) (c : Conf) (sp : Span) → At w c pc → c.masks k ≡ a → k < n
      → Stands w s c → Holds r a x m c → 3 + q ≤ 32 * s.work → AreAt w.routine.code pc (fails_code r x pc p k n) → slice_get w.code.places p ≡ Some sp
      → DoneRuns w c (pc + length (fails_code r x pc p k n)) n q (checked (offender (gang_of w) is_false a m) Assert sp s tt)
  fails_run Uniform x pc p k n q a m s c sp at em lk st hold le has place =
      subst (λ y. DoneRuns w c end n q (checked (offender (gang_of w) is_false a y) Assert sp s tt)) (sym hold)
      (done_after c c1 1 end n q _ (jump_comes w ready c pc jump.True (register Uniform x) to at has.0) (spares_all w n c) (λ r lt. refl) (go (is_true (c.scalars x)) refl))
    where
      to : ℕ
      to = pc + 1 + 1

      end : ℕ
      end = pc + length (fails_code Uniform x pc p k n)

      ends : to ≡ end
      ends = omega arith

      c1 : Conf
      c1 = jumped w ready c jump.True (register Uniform x) to

      go : (b : Bool) → is_true (c.scalars x) ≡ b → DoneRuns w c1 end n (1 + q) (checked (if_fails (gang_of w) is_false a (not b)) Assert sp s tt)
      go true e = record {
        conf = c1;
        steps = 0;
        comes = comes_none w c1;
        at = at_to w c1 to end (jump_at w ready c pc jump.True (register Uniform x) to true at e) ends;
        stands = st;
        spares = spares_all w n c1;
        masks = λ r lt. refl;
        bound = omega (arith, le);
      }
      go false e =
          subst (λ z. DoneRuns w c1 z n (1 + q) (checked (lowest (gang_of w) a) Assert sp s tt)) ends
          (fail_runs (lowest (gang_of w) a) (pc + 1) k p n (1 + q) s c1 sp (ap (lowest (gang_of w)) em) (jump_at w ready c pc jump.True (register Uniform x) to false at e) has.1.0 place st (omega (arith, le)))
  fails_run Varying x pc p k n q a m s c sp at em lk st hold le has place =
      subst (λ o. DoneRuns w c end n q (checked o Assert sp s tt)) (sym (offender_kept (gang_of w) is_false a m ∙ ap (lowest (gang_of w)) (at_kept Varying a is_false m ∙ ap (kept_by is_false a) hold)))
      (done_after c c2 2 end n q _ (comes_on w c c1 c2 1 1 (where_comes w ready c pc n x k at has.0)
      (others_comes w ready c1 (pc + 1) n k n (masked_at w ready c pc n t1 at) has.1.0)) (spares_all w n c)
      (λ r lt. let rn : r ≢ n = omega arith in put_other c1.masks n f2 r rn ∙ put_other c.masks n t1 r rn)
      (subst (λ z. DoneRuns w c2 z n (2 + q) (checked (lowest (gang_of w) (where_true is_false (on a v))) Assert sp s tt)) ends
      (fail_runs (lowest (gang_of w) (where_true is_false (on a v))) (pc + 1 + 1) n p n (2 + q) s c2 sp (ap (lowest (gang_of w)) those) (masked_at w ready c1 (pc + 1) n f2 (masked_at w ready c pc n t1 at)) has.1.1.0 place st (omega (arith, le)))))
    where
      v : Lanes
      v = c.vectors x

      end : ℕ
      end = pc + length (fails_code Varying x pc p k n)

      ends : pc + 1 + 1 + 1 ≡ end
      ends = omega arith

      t1 : Mask
      t1 = where_true is_true (on (c.masks k) v)

      c1 : Conf
      c1 = masked w ready c n t1

      f2 : Mask
      f2 = without (c1.masks k) (c1.masks n)

      c2 : Conf
      c2 = masked w ready c1 n f2

      kn : k ≢ n
      kn = omega arith

      those : c2.masks n ≡ where_true is_false (on a v)
      those =
          put_same c1.masks n f2
          ∙ ap (λ z. without z (c1.masks n)) (put_other c.masks n t1 k kn ∙ em)
          ∙ ap (without a) (put_same c.masks n t1 ∙ ap (λ z. where_true is_true (on z v)) em) ∙ others_false a v
