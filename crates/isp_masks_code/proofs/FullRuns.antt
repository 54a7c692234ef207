-- The last range of a `foreach` is taken in runs: by induction on the runs that are left, those that have all lanes one after the other,
-- then one that has fewer.
use Rattle.std.proofs.Common.{◌≡◌, ◌≢◌, ℕ, zero, suc, ◌+◌, ◌*◌, ◌<◌, ◌≤◌, List, [], ◌∷◌, ◌++◌, length, map, Bool, true, false, refl, sym, ap, ap₂, ◌∙◌, subst, arith, length-append}
use Rattle.std.specs.Prelude.{ℤ, pos, ◌+ℤ◌, ◌-ℤ◌, ◌≤ℤ◌, ◌^◌, ◌&&◌, nat_lt, int_lt, not, if◌then◌else◌}
use Rattle.std.proofs.Math.Path.{fun_ext}
use Rattle.std.proofs.lemmas.Bool.{ltb-true, not-true}
use Rattle.std.proofs.lemmas.Int.{ints}
use Rattle.isp_base.proofs.Gangs.{few_width, some_width}
use Rattle.isp_base.proofs.Laws.{back_is}
use Rattle.isp_base.specs.Ranges.{IsValue}
use Rattle.isp_base.specs.Sets.{Mask, any, everyone}
use Rattle.isp_base.specs.Types.{widest}
use Rattle.isp_base.specs.Values.{number, op_bits, wrap}
use Rattle.isp_base.specs.declared.operators.BinOp.TheVariants as op
use Rattle.isp_base.specs.declared.types.Elem.TheVariants.{Bool as Truth, I64}
use Rattle.isp_base.specs.declared.types.Rate.TheVariants.{Uniform}
use Rattle.isp_code.specs.Conf.{Conf, Go}
use Rattle.isp_code.specs.Lines.{act}
use Rattle.isp_code.specs.declared.instr.Instr.{Instr}
use Rattle.isp_code.specs.declared.instr.Instr.TheVariants as instr
use Rattle.isp_code.specs.declared.instr.JumpTest.{JumpTest}
use Rattle.isp_code.specs.declared.instr.JumpTest.TheVariants as jump
use Rattle.isp_code.specs.declared.instr.Plain.TheVariants as plain
use Rattle.isp_meaning.specs.Outcomes.{Res, went_all}
use Rattle.isp_meaning.specs.Payloads.{One, is_true}
use Rattle.isp_meaning.specs.Rounds.{Range, Round, rounds, from_on, last_run}
use Rattle.isp_meaning.specs.State.{State}
use Rattle.isp_lower_code.specs.Instructions.{compute, copy, jump_on}
use Rattle.isp_lower_code.specs.Pieces.{guard, two}
use Rattle.isp_lower_code.specs.Layout.{NoneFixed, mask_register, register}
use Rattle.isp_lower_code.specs.Runs.{Comes}
use Rattle.isp_lower_code.specs.Setting.{Setting, IsSettled, gang_of, AreAt, At, Stands}
use Rattle.isp_lower_code.proofs.Lemmas.{are_front, are_back, put_same, put_other, comes_on, comes_none, step_go, at_to, spares_all, jumped, jump_comes, jump_at, masked, masked_at, set_at, set_comes, set_goes, set_spares, set_stands}
use Rattle.isp_masks_code.specs.Ranges.{RunBodies, goes_on, wide, test, range_mask, last_full, full_test, index_step, next_from, refill, full_back, full_code, rest_run, runs_code}
use Rattle.isp_masks_code.specs.Rounds.{fill_mask}
use Rattle.isp_masks_code.proofs.Bodies.{BodiesRun}
use Rattle.isp_masks_code.proofs.Counting.{CountsTo}
use Rattle.isp_masks_code.proofs.LastRuns.{Begun, Counted, IsRuns, Ran, Tested, begins, body_part, first_part, indices, limit, limit_test, members, next_part, r}
use Rattle.isp_masks_code.proofs.Numbered.{any_run}
use Rattle.isp_masks_code.proofs.RangesHeld.{gang, round_after}
use Rattle.isp_masks_code.proofs.Sweeps.{IsNotLess, Low, Passes, low_all, low_on, next_low, next_place, passes_after}

-- ---- whether a run has all lanes: its place is not after the last such place

abbrev fits : ℕ → ℤ → ℤ → Bool
fits g end z = not (int_lt (end -ℤ pos g) z)

fits_below : (g p : ℕ) (end z : ℤ) → p < g → fits g end z ≡ true → int_lt (z +ℤ pos p) end ≡ true
fits_below g p end z lt e = let f = not-true (int_lt (end -ℤ pos g) z) e in grind (arith, ints, lt, f)

fits_some : (g : ℕ) (end z : ℤ) → 0 < g → fits g end z ≡ true → int_lt z end ≡ true
fits_some g end z some e = let f = not-true (int_lt (end -ℤ pos g) z) e in grind (arith, ints, some, f)

fits_not : (b : Bool) → not b ≡ false → b ≡ true
fits_not true e = refl
fits_not false e = absurd (cc)

-- after a run that has not all there is no other
fits_last : (g : ℕ) (end z : ℤ) → fits g end z ≡ false → int_lt (z +ℤ pos g) end ≡ false
fits_last g end z e = let f = fits_not (int_lt (end -ℤ pos g) z) e in grind (arith, ints, f)

no_both : {A : Type 0} (b : Bool) → b ≡ true → b ≡ false → A
no_both true t f = absurd (cc)
no_both false t f = absurd (cc)

-- no last place is past an int64
last_value : (g : ℕ) (end : ℤ) → g ≤ widest → IsNotLess end → end ≤ℤ pos (2 ^ 31) → IsValue I64 (end -ℤ pos g)
last_value g end few low high = (grind (arith, ints, low, few), grind (arith, ints, high))

true_so : (v : Bool) → is_true (if v then 1 else 0) ≡ v
true_so true = refl
true_so false = refl

-- the index goes on only alone
alone_is : {A : Type 0} (d : Bool) (set : List A) → goes_on d set ≡ true → (d ≡ false) × (set ≡ [])
alone_is false [] e = (refl, refl)
alone_is false (y ∷ set) e = absurd (cc)
alone_is true set e = absurd (cc)

module _ (w : Setting) (ready : IsSettled w) (none : NoneFixed w.layout) (n h i : ℕ) (x : Range) (e m : ℕ) (d : Bool) (set : List Instr) (before : Mask → State → State) (c0 : Conf) (it : IsRuns w n h i x e m d set before c0) where
  abbrev g : ℕ
  g = gang w

  abbrev full : ℤ → Bool
  full z = fits g x.end z

  abbrev place : ℕ
  place = r w ready none n h i x e m d set before c0 it

  abbrev own : List Instr
  own = indices w ready none n h i x e m d set before c0 it

  abbrev last : ℕ
  last = limit w ready none n h i x e m d set before c0 it

  abbrev on_in : ℤ → Mask
  on_in z = members w ready none n h i x e m d set before c0 it z

  abbrev IsTested : ℕ → ℤ → State → Conf → Type 0
  IsTested = Tested w ready none n h i x e m d set before c0 it

  abbrev HasBegun : ℕ → ℤ → State → Conf → Type 0
  HasBegun = Begun w ready none n h i x e m d set before c0 it

  abbrev begun : ℤ → State → State
  begun = begins w ready none n h i x e m d set before c0 it

  -- the register of the last place of a full run has it
  abbrev Limited : Conf → Type 0
  Limited c = number I64 (c.scalars last) ≡ x.end -ℤ pos g

  everyone_in : (z : ℤ) → full z ≡ true → everyone g ≡ on_in z
  everyone_in z f = fun_ext (λ p. by p (nat_lt p g) refl)
    where
      by : (p : ℕ) (b : Bool) → nat_lt p g ≡ b → b ≡ (b && int_lt (z +ℤ pos p) x.end)
      by p true lt = sym (fits_below g p x.end z (ltb-true p g lt) f)
      by p false lt = refl

  -- ---- the test of a full run

  module _ (pc to : ℕ) (t : Bool) (has : AreAt w.routine.code pc (full_test w.layout place m ∷ jump_on (if t then jump.True else jump.False) (test w.layout (m + 1)) to ∷ [])) where
    full_tested : (z : ℤ) (c : Conf) → At w c pc → number I64 (c.scalars place) ≡ z → Limited c
        → (c1 : Conf) × Comes w c 2 c1 × At w c1 (if full z then (if t then to else pc + 1 + 1) else (if t then pc + 1 + 1 else to)) × Low w m c c1 × (c1.masks ≡ c.masks) × (c1.scalars place ≡ c.scalars place) × (c1.scalars last ≡ c.scalars last) × ((s : State) → Stands w s c → Stands w s c1)
    full_tested z c at is limited = (
      c2 t,
      comes_on w c c1 (c2 t) 1 1 (set_comes w ready Uniform c v (One b) pc (full_test w.layout place m) at has.0 test_is) (jump_comes w ready c1 (pc + 1) (kind t) (register Uniform v) to at1 has.1.0),
      at2 t,
      record { spares = set_spares w ready Uniform c Truth m (m + 1) (One b) (omega arith); masks = λ j lt. refl },
      refl,
      put_other c.scalars v b place it.place.tested,
      put_other c.scalars v b last (limit_test w ready none n h i x e m d set before c0 it),
      (λ s st. set_stands w ready Uniform c Truth (m + 1) (One b) s st),
    )
      where
        v : ℕ
        v = test w.layout (m + 1)

        b : ℕ
        b = if not (int_lt (number I64 (c.scalars last)) (number I64 (c.scalars place))) then 1 else 0

        c1 : Conf
        c1 = set_at Uniform c v (One b)

        kind : Bool → JumpTest
        kind y = if y then jump.True else jump.False

        c2 : Bool → Conf
        c2 y = jumped w ready c1 (kind y) (register Uniform v) to

        at1 : At w c1 (pc + 1)
        at1 = set_goes w ready Uniform c v (One b) pc at

        test_is : act w.code w.routine c (full_test w.layout place m) ≡ Go (set_at Uniform c v (One b))
        test_is = ap (λ u. Go (set_at Uniform c v (One (if not (int_lt (number u (c.scalars last)) (number u (c.scalars place))) then 1 else 0)))) it.place.typed

        so : is_true (c1.scalars v) ≡ full z
        so = ap is_true (put_same c.scalars v b) ∙ true_so (not (int_lt (number I64 (c.scalars last)) (number I64 (c.scalars place)))) ∙ ap₂ (λ y u. not (int_lt y u)) limited is

        turned : (y : Bool) (p q : ℕ) → (if not y then p else q) ≡ (if y then q else p)
        turned true p q = refl
        turned false p q = refl

        at2 : (y : Bool) → At w (c2 y) (if full z then (if y then to else pc + 1 + 1) else (if y then pc + 1 + 1 else to))
        at2 true = jump_at w ready c1 (pc + 1) jump.True (register Uniform v) to (full z) at1 so
        at2 false = subst (λ k. At w (c2 false) k) (turned (full z) to (pc + 1 + 1)) (jump_at w ready c1 (pc + 1) jump.False (register Uniform v) to (not (full z)) at1 (ap not so))

  -- ---- the runs, whose code begins at an instruction

  module _ (b : RunBodies) (body : Mask → State → Res) (all : Mask) (bodies : BodiesRun w i it.slots h b body) (pc stop : ℕ) (has : AreAt w.routine.code pc (runs_code w.layout d set i e m n h b pc)) (stops : pc + length (runs_code w.layout d set i e m n h b pc) ≡ stop) where
    abbrev alone : Bool
    alone = goes_on d set

    abbrev pc3 : ℕ
    pc3 = pc + 1 + 1 + 1

    abbrev first : ℕ
    first = pc3 + 1 + 1

    abbrev step : ℕ
    step = first + length own

    abbrev skip : List Instr
    skip = index_step w.layout alone i n h step

    abbrev top : ℕ
    top = step + length skip

    abbrev behind : ℕ
    behind = top + length (b.full top)

    abbrev again : ℕ
    again = behind + length (refill b.kept h)

    abbrev next : ℕ
    next = next_from alone first step

    abbrev code : List Instr
    code = full_code w.layout alone b.kept own i place m n h b.full (pc3 + 1)

    abbrev tail : ℕ
    tail = pc3 + 1 + length code

    abbrev rest : List Instr
    rest = rest_run w.layout own place e h b.rest tail

    has_all : AreAt w.routine.code pc3 (guard (jump_on jump.False (test w.layout (m + 1))) pc3 (full_code w.layout alone b.kept own i place m n h b.full) ++ rest_run w.layout own place e h b.rest (pc3 + length (guard (jump_on jump.False (test w.layout (m + 1))) pc3 (full_code w.layout alone b.kept own i place m n h b.full))))
    has_all = has.1.1.1

    has_full : AreAt w.routine.code pc3 (guard (jump_on jump.False (test w.layout (m + 1))) pc3 (full_code w.layout alone b.kept own i place m n h b.full))
    has_full = are_front w.routine.code pc3 (guard (jump_on jump.False (test w.layout (m + 1))) pc3 (full_code w.layout alone b.kept own i place m n h b.full)) _ has_all

    tail_is : pc3 + length (guard (jump_on jump.False (test w.layout (m + 1))) pc3 (full_code w.layout alone b.kept own i place m n h b.full)) ≡ tail
    tail_is = omega arith

    has_rest : AreAt w.routine.code tail rest
    has_rest = subst (λ k. AreAt w.routine.code k (rest_run w.layout own place e h b.rest k)) tail_is
        (are_back w.routine.code pc3 (guard (jump_on jump.False (test w.layout (m + 1))) pc3 (full_code w.layout alone b.kept own i place m n h b.full)) _ has_all)

    rest_stops : tail + length rest ≡ stop
    rest_stops = subst (λ k. k + length (rest_run w.layout own place e h b.rest k) ≡ stop) tail_is
        (let to = pc3 + length (guard (jump_on jump.False (test w.layout (m + 1))) pc3 (full_code w.layout alone b.kept own i place m n h b.full)) in
        omega (arith, stops, length-append (guard (jump_on jump.False (test w.layout (m + 1))) pc3 (full_code w.layout alone b.kept own i place m n h b.full)) (rest_run w.layout own place e h b.rest to)))

    abbrev turn : List Instr
    turn = b.full top ++ (refill b.kept h ++ full_back w.layout place m n next)

    has_own : AreAt w.routine.code first own
    has_own = are_front w.routine.code first own (skip ++ turn) has_full.1.1

    has_skip : AreAt w.routine.code step skip
    has_skip = are_front w.routine.code step skip turn (are_back w.routine.code first own (skip ++ turn) has_full.1.1)

    has_turn : AreAt w.routine.code top turn
    has_turn = are_back w.routine.code step skip turn (are_back w.routine.code first own (skip ++ turn) has_full.1.1)

    has_back : AreAt w.routine.code again (full_back w.layout place m n next)
    has_back = are_back w.routine.code behind (refill b.kept h) (full_back w.layout place m n next) (are_back w.routine.code top (b.full top) (refill b.kept h ++ full_back w.layout place m n next) has_turn)

    tail_at : again + 1 + 1 + 1 ≡ tail
    tail_at = omega (arith, length-append own (skip ++ turn), length-append skip turn, length-append (b.full top) (refill b.kept h ++ full_back w.layout place m n next), length-append (refill b.kept h) (full_back w.layout place m n next))

    abbrev round : ℤ → Round
    round z = round_after before (last_run g x z)

    -- ---- the last run, which has not all lanes

    rest_runs : (k : ℕ) (z : ℤ) (s : State) (c : Conf) (q : ℕ) → CountsTo g k z x.end → full z ≡ false → IsNotLess z → At w c tail → Low w m c0 c → number I64 (c.scalars place) ≡ z → Stands w s c
        → 2 + 32 * k + q ≤ 32 * s.work → Passes w c stop m q (rounds body all (map round (from_on g k z)) s)
    rest_runs k z s c q counts not_all low at lo is st le = go k counts le
      where
        t : Mask
        t = λ p. nat_lt p g && int_lt (number I64 (c.scalars place) +ℤ pos p) (number I64 (c.scalars (wide w.layout (e + 1))))

        c1 : Conf
        c1 = masked w ready c h t

        own_stop : ℕ
        own_stop = tail + 1 + 1 + length (two (tail + 1 + 1) own b.rest)

        stop_is : own_stop ≡ stop
        stop_is = omega (arith, rest_stops)

        c2 : Conf
        c2 = jumped w ready c1 jump.Off (mask_register h) own_stop

        low2 : Low w m c c2
        low2 = record { spares = spares_all w m c; masks = λ j lt. let ne : j ≢ h = omega (arith, it.below) in put_other c.masks h t j ne }

        at1 : At w c1 (tail + 1)
        at1 = masked_at w ready c tail h t at

        comes2 : Comes w c 2 c2
        comes2 = comes_on w c c1 c2 1 1 (step_go w c tail (range_mask h place (wide w.layout (e + 1))) c1 ready at has_rest.0 refl) (jump_comes w ready c1 (tail + 1) jump.Off (mask_register h) own_stop at1 has_rest.1.0)

        the_end : number I64 (c.scalars (wide w.layout (e + 1))) ≡ x.end
        the_end = ap (number I64) (lo.spares.scalars_stay I64 (e + 1) it.ends) ∙ it.the_end

        mask : c1.masks h ≡ on_in z
        mask = put_same c.masks h t ∙ ap₂ (λ y u p. nat_lt p g && int_lt (y +ℤ pos p) u) is the_end

        some : any (gang_of w) (c1.masks h) ≡ int_lt z x.end
        some = ap (any (gang_of w)) mask ∙ any_run g g x z (some_width w.code.gang) (omega arith)

        at2 : (y : Bool) → int_lt z x.end ≡ y → At w c2 (if not y then own_stop else tail + 1 + 1)
        at2 y ey = jump_at w ready c1 (tail + 1) jump.Off (mask_register h) own_stop (not y) at1 (ap not (some ∙ ey))

        go : (k : ℕ) → CountsTo g k z x.end → 2 + 32 * k + q ≤ 32 * s.work → Passes w c stop m q (rounds body all (map round (from_on g k z)) s)
        go zero counts1 le1 =
            passes_after w ready c c2 2 stop m q (went_all all s) comes2 low2
            (record {
              conf = c2;
              steps = 0;
              comes = comes_none w c2;
              at = at_to w c2 own_stop stop (at2 false counts1) stop_is;
              stands = st;
              spares = spares_all w m c2;
              masks = λ j lt. refl;
              bound = omega (arith, le1);
            })
        go (suc zero) counts1 le1 =
            let p = first_part w ready none n h i x e m d set before c0 it (tail + 1 + 1) (are_front w.routine.code (tail + 1 + 1) own (b.rest (tail + 1 + 1 + length own)) has_rest.1.1) z s c2 low
            (record { at = at2 true counts1.0; low = low_on w m c0 c c2 lo low2; place = is; mask = mask; stands = st }) in
            passes_after w ready c c2 2 stop m q _ comes2 low2
            (passes_after w ready c2 p.0 (length set + 3) stop m (2 + q) _ p.1 p.2
            (body_part w ready none n h i x e m d set before c0 it body b.rest (tail + 1 + 1 + length own) stop 2 (length set + 3 + (2 + q)) z s p.0 (λ s1. rounds body all [] s1) bodies.rest
            (are_back w.routine.code (tail + 1 + 1) own (b.rest (tail + 1 + 1 + length own)) has_rest.1.1) counts1.0 p.3 (omega (arith, le1, it.few))
            (λ s1 went u ct rt c3 j is1 comes3 ran le3. record {
              conf = c3;
              steps = 0;
              comes = comes_none w c3;
              at = at_to w c3 _ stop ran.at (omega (arith, stop_is, length-append own (b.rest (tail + 1 + 1 + length own))));
              stands = ran.stands;
              spares = spares_all w m c3;
              masks = λ j1 lt1. refl;
              bound = omega (arith, le3);
            })))
        go (suc (suc k)) counts1 le1 = no_both (int_lt (z +ℤ pos g) x.end) counts1.1.0 (fits_last g x.end z not_all)

    -- ---- a run that has all lanes

    pub record FullBegun (z : ℤ) (s : State) (c : Conf) : Type 0 where
      pub is : HasBegun top z s c
      pub limited : Limited c

    -- over the step of the index, to the body
    skipped : (al : Bool) (at_step : ℕ) → AreAt w.routine.code at_step (index_step w.layout al i n h at_step) → (z : ℤ) (s : State) (c : Conf) → HasBegun at_step z s c
        → (c1 : Conf) × (k : ℕ) × (k ≤ 1) × Comes w c k c1 × Low w m c c1 × HasBegun (at_step + length (index_step w.layout al i n h at_step)) z s c1 × (c1.scalars last ≡ c.scalars last)
    skipped true at_step here z s c y =
        let c1 : Conf = record c { pc = at_step + 1 + 1 } in
        let at1 : At w c1 (at_step + 1 + 1) = record { home_is = y.is.at.home_is; waiting_is = y.is.at.waiting_is; pc_is = refl } in (
          c1,
          1,
          omega arith,
          step_go w c at_step (instr.Jump (at_step + 1 + 1)) c1 ready y.is.at here.0 refl,
          record { spares = spares_all w m c; masks = λ j lt. refl },
          record { is = record { at = at_to w c1 (at_step + 1 + 1) (at_step + 2) at1 (omega arith); low = record { spares = y.is.low.spares; masks = y.is.low.masks }; place = y.is.place; mask = y.is.mask; stands = y.is.stands }; work = y.work; counts = y.counts },
          refl,
        )
    skipped false at_step here z s c y = (
      c,
      0,
      omega arith,
      comes_none w c,
      low_all w m c,
      record { is = record { at = at_to w c at_step (at_step + 0) y.is.at (omega arith); low = y.is.low; place = y.is.place; mask = y.is.mask; stands = y.is.stands }; work = y.work; counts = y.counts },
      refl,
    )

    -- all indices are set
    set_all : (z : ℤ) (s : State) (c : Conf) → IsNotLess z → IsTested first z s c → Limited c → (c1 : Conf) × (k : ℕ) × (k ≤ 6) × Comes w c k c1 × Low w m c c1 × FullBegun z s c1
    set_all z s c low t limited =
        let p = first_part w ready none n h i x e m d set before c0 it first has_own z s c low t in
        let y = skipped alone step has_skip z s p.0 p.3 in
        (y.0, length set + 3 + y.1, omega (arith, it.few, y.2), comes_on w c p.0 y.0 (length set + 3) y.1 p.1 y.3, low_on w m c p.0 y.0 p.2 y.4, record { is = y.5; limited = ap (number I64) (y.6 ∙ p.4) ∙ limited })

    -- the next one: the index goes on, or all are set
    stepped : (al : Bool) → alone ≡ al → (z : ℤ) (s : State) (c : Conf) → IsNotLess z → Counted d z (on_in z) (s.varying i) → IsTested (next_from al first step) (z +ℤ pos g) s c → Limited c
        → (c1 : Conf) × (k : ℕ) × (k ≤ 6) × Comes w c k c1 × Low w m c c1 × FullBegun (z +ℤ pos g) s c1
    stepped true ea z s c low was t limited =
        let here : AreAt w.routine.code step (index_step w.layout true i n h step) = subst (λ al. AreAt w.routine.code step (index_step w.layout al i n h step)) ea has_skip in
        let y = next_part w ready none n h i x e m d set before c0 it (step + 1) here.1.0 (alone_is d set ea) z s c low was t in
        let to : step + 1 + 1 ≡ top = subst (λ al. step + 1 + 1 ≡ step + length (index_step w.layout al i n h step)) (sym ea) (omega arith) in
        (y.0, 1, omega arith, y.1, y.2, record { is = subst (λ k. HasBegun k (z +ℤ pos g) s y.0) to y.3; limited = ap (number I64) y.4 ∙ limited })
    stepped false ea z s c low was t limited = set_all (z +ℤ pos g) s c (next_low g z low) t limited

    -- ---- after a body all lanes are on again

    refilled : (kept : Bool) (at_end : ℕ) → AreAt w.routine.code at_end (refill kept h) → (c : Conf) → At w c at_end → (kept ≡ true → c.masks h ≡ everyone g)
        → (c1 : Conf) × (k : ℕ) × (k ≤ 1) × Comes w c k c1 × At w c1 (at_end + length (refill kept h)) × Low w m c c1 × (c1.masks h ≡ everyone g) × (c1.scalars ≡ c.scalars) × ((s : State) → Stands w s c → Stands w s c1)
    refilled true at_end here c at k = (c, 0, omega arith, comes_none w c, at_to w c at_end (at_end + 0) at (omega arith), low_all w m c, k refl, refl, (λ s st. st))
    refilled false at_end here c at k =
        let c1 = masked w ready c h (everyone g) in (
          c1,
          1,
          omega arith,
          step_go w c at_end (fill_mask h) c1 ready at here.0 refl,
          masked_at w ready c at_end h (everyone g) at,
          record { spares = spares_all w m c; masks = λ j lt. let ne : j ≢ h = omega (arith, it.below) in put_other c.masks h (everyone g) j ne },
          put_same c.masks h (everyone g),
          refl,
          (λ s st. st),
        )

    -- the next place is tested: the machine stands before the step to the next run, or before the last
    pub record IsBehind (z : ℤ) (s : State) (c : Conf) : Type 0 where
      pub at : At w c (if full z then next else tail)
      pub low : Low w m c0 c
      pub place : number I64 (c.scalars place) ≡ z
      pub mask : c.masks h ≡ everyone g
      pub limited : Limited c
      pub stands : Stands w s c

    gone : (z : ℤ) (s1 : State) (went : Mask) (c c1 : Conf) → int_lt z x.end ≡ true → IsNotLess z → Limited c → Low w m c0 c → (b.kept ≡ true → went ≡ everyone g)
        → Ran w ready none n h i x e m d set before c0 it behind z s1 went c c1
        → (c4 : Conf) × (k : ℕ) × (k ≤ 4) × Comes w c1 k c4 × Low w m c1 c4 × IsBehind (z +ℤ pos g) s1 c4
    gone z s1 went c c1 lt low limited lo all_on ran = (
      c4,
      f.1 + 3,
      omega (arith, f.2),
      comes4,
      low4,
      record {
        at = subst (λ k. At w c4 (if full z1 then next else k)) tail_at tested.2;
        low = low_on w m c0 c c4 lo (low_on w m c c1 c4 ran.low low4);
        place = ap (number I64) tested.5 ∙ place3;
        mask = ap (λ y. y h) tested.4 ∙ f.6;
        limited = ap (number I64) tested.6 ∙ limited3;
        stands = tested.7 s1 stands3;
      },
    )
      where
        z1 : ℤ
        z1 = z +ℤ pos g

        f : (c2 : Conf) × (k : ℕ) × (k ≤ 1) × Comes w c1 k c2 × At w c2 again × Low w m c1 c2 × (c2.masks h ≡ everyone g) × (c2.scalars ≡ c1.scalars) × ((s : State) → Stands w s c1 → Stands w s c2)
        f = refilled b.kept behind (are_front w.routine.code behind (refill b.kept h) (full_back w.layout place m n next) (are_back w.routine.code top (b.full top) (refill b.kept h ++ full_back w.layout place m n next) has_turn)) c1 ran.at (λ k. ran.went ∙ all_on k)

        c2 : Conf
        c2 = f.0

        v : ℕ
        v = op_bits op.Add I64 (c2.scalars place) (c2.scalars (wide w.layout n))

        c3 : Conf
        c3 = set_at Uniform c2 place (One v)

        at3 : At w c3 (again + 1)
        at3 = set_goes w ready Uniform c2 place (One v) again f.4

        add_is : act w.code w.routine c2 (compute Uniform plain.Add place place (wide w.layout n) 0) ≡ Go (set_at Uniform c2 place (One v))
        add_is = ap (λ u. Go (set_at Uniform c2 place (One (op_bits op.Add u (c2.scalars place) (c2.scalars (wide w.layout n)))))) it.place.typed

        here : number I64 (c2.scalars place) ≡ z
        here = ap (λ y. number I64 (y place)) f.7 ∙ ran.place

        by : number I64 (c2.scalars (wide w.layout n)) ≡ pos g
        by = ap (λ y. number I64 (y (wide w.layout n))) f.7 ∙ ap (number I64) (ran.low.spares.scalars_stay I64 n (omega (arith, it.above)) ∙ lo.spares.scalars_stay I64 n (omega (arith, it.above))) ∙ it.measures.lanes

        place3 : number I64 (c3.scalars place) ≡ z1
        place3 =
            ap (number I64) (put_same c2.scalars place v) ∙ ap₂ (λ a u. number I64 (wrap I64 (a +ℤ u))) here by ∙ back_is I64 z1 (next_place g z x.end (few_width w.code.gang) low it.high lt)

        limited3 : Limited c3
        limited3 = ap (number I64) (put_other c2.scalars place v last (λ same. it.place.limit (sym same)) ∙ ap (λ y. y last) f.7 ∙ ran.limit) ∙ limited

        stands3 : Stands w s1 c3
        stands3 = it.place.stands c2 s1 (One v) (f.8 s1 ran.stands)

        tested : (c4 : Conf) × Comes w c3 2 c4 × At w c4 (if full z1 then next else again + 1 + 1 + 1) × Low w m c3 c4 × (c4.masks ≡ c3.masks) × (c4.scalars place ≡ c3.scalars place) × (c4.scalars last ≡ c3.scalars last) × ((s : State) → Stands w s c3 → Stands w s c4)
        tested = full_tested (again + 1) next true has_back.1 z1 c3 at3 place3 limited3

        c4 : Conf
        c4 = tested.0

        comes4 : Comes w c1 (f.1 + 3) c4
        comes4 = comes_on w c1 c2 c4 f.1 3 f.3 (comes_on w c2 c3 c4 1 2 (set_comes w ready Uniform c2 place (One v) again (compute Uniform plain.Add place place (wide w.layout n) 0) f.4 has_back.0 add_is) tested.1)

        low4 : Low w m c1 c4
        low4 = low_on w m c1 c2 c4 f.5 (low_on w m c2 c3 c4 (record { spares = it.place.spares c2 (One v); masks = λ j lt1. refl }) tested.3)

    -- ---- by induction on the runs that are left

    abbrev later : ℕ → ℤ → List Round
    later k z = map round (from_on g k (z +ℤ pos g))

    -- what is so of so many runs after one that has all lanes
    abbrev Again : ℕ → ℤ → Type 0
    Again k z =
        (s : State) (c : Conf) (q : ℕ) → CountsTo g k (z +ℤ pos g) x.end → full z ≡ true → IsNotLess z → FullBegun z s c → 9 + 32 * k + q ≤ 32 * s.work
        → Passes w c stop m q (rounds body all (round z ∷ later k z) s)

    behind_full : (al : Bool) (k : ℕ) (z : ℤ) → full (z +ℤ pos g) ≡ al → ((j : ℕ) → k ≡ suc j → Again j (z +ℤ pos g)) → IsNotLess z → CountsTo g k (z +ℤ pos g) x.end
        → (s : State) (c : Conf) (q : ℕ) → Counted d z (on_in z) (s.varying i) → IsBehind (z +ℤ pos g) s c → 2 + 32 * k + q ≤ 32 * s.work
        → Passes w c stop m q (rounds body all (later k z) s)
    behind_full true zero z ea ih low counts s c q was t le = no_both (int_lt (z +ℤ pos g) x.end) (fits_some g x.end (z +ℤ pos g) (some_width w.code.gang) ea) counts
    behind_full true (suc k) z ea ih low counts s c q was t le =
        let u = stepped alone refl z s c low was
        (record { at = subst (λ al. At w c (if al then next else tail)) ea t.at; low = t.low; place = t.place; mask = t.mask ∙ everyone_in (z +ℤ pos g) ea; stands = t.stands }) t.limited in
        passes_after w ready c u.0 u.1 stop m q _ u.3 u.4 (ih k refl s u.0 (u.1 + q) counts.1 ea (next_low g z low) u.5 (omega (arith, le, u.2)))
    behind_full false k z ea ih low counts s c q was t le =
        rest_runs k (z +ℤ pos g) s c q counts ea (next_low g z low) (subst (λ al. At w c (if al then next else tail)) ea t.at) t.low t.place t.stands le

    one_full : (k : ℕ) (z : ℤ) → ((j : ℕ) → k ≡ suc j → Again j (z +ℤ pos g)) → Again k z
    one_full k z ih s c q counts f low y le =
        let lt = fits_some g x.end z (some_width w.code.gang) f in
        body_part w ready none n h i x e m d set before c0 it body b.full top stop (6 + 32 * k) q z s c (λ s1. rounds body all (later k z) s1) bodies.full
        (are_front w.routine.code top (b.full top) (refill b.kept h ++ full_back w.layout place m n next) has_turn) lt y.is (omega (arith, le))
        (λ s1 went u ct rt c1 j is comes ran le1. let t = gone z s1 went c c1 lt low y.limited y.is.is.low (λ ek. bodies.whole ek (on_in z) went u ct rt (begun z s) s1 is ∙ sym (everyone_in z f)) ran in
        passes_after w ready c1 t.0 t.1 stop m (j + q) _ t.3 t.4 (behind_full (full (z +ℤ pos g)) k z refl ih low counts s1 t.0 (t.1 + (j + q)) ran.counts t.5 (omega (arith, le1, t.2))))

    full_runs : (k : ℕ) (z : ℤ) → Again k z
    full_runs zero z = one_full zero z (λ j e1. absurd (omega (arith, e1)))
    full_runs (suc k) z = one_full (suc k) z (λ j e1. let same : k ≡ j = omega (arith, e1) in subst (λ t. Again t (z +ℤ pos g)) same (full_runs k (z +ℤ pos g)))

    -- ---- from the first on

    pub runs_all : (count : ℕ) (z : ℤ) (s : State) (c : Conf) (q : ℕ) → number I64 (c.scalars (wide w.layout e)) ≡ z → IsNotLess z → CountsTo g count z x.end
        → At w c pc → Low w m c0 c → Stands w s c → 6 + 32 * count + q ≤ 32 * s.work
        → Passes w c stop m q (rounds body all (map round (from_on g count z)) s)
    runs_all count z s c q start low counts at lo st le =
        passes_after w ready c c3 4 stop m q _ comes3 low3 (go (full z) refl count counts le)
      where
        y : ℕ
        y = c.scalars (wide w.layout e)

        c1 : Conf
        c1 = set_at Uniform c place (One y)

        v : ℕ
        v = op_bits op.Sub I64 (c1.scalars (wide w.layout (e + 1))) (c1.scalars (wide w.layout n))

        c2 : Conf
        c2 = set_at Uniform c1 last (One v)

        at1 : At w c1 (pc + 1)
        at1 = set_goes w ready Uniform c place (One y) pc at

        at2 : At w c2 (pc + 1 + 1)
        at2 = set_goes w ready Uniform c1 last (One v) (pc + 1) at1

        lo1 : Low w m c c1
        lo1 = record { spares = it.place.spares c (One y); masks = λ j lt. refl }

        lo2 : Low w m c1 c2
        lo2 = record { spares = set_spares w ready Uniform c1 I64 m (m + 1) (One v) (omega arith); masks = λ j lt. refl }

        sub_is : act w.code w.routine c1 (last_full w.layout e m n) ≡ Go (set_at Uniform c1 last (One v))
        sub_is = ap (λ u. Go (set_at Uniform c1 last (One (op_bits op.Sub u (c1.scalars (wide w.layout (e + 1))) (c1.scalars (wide w.layout n)))))) it.limited

        place2 : number I64 (c2.scalars place) ≡ z
        place2 = ap (number I64) (put_other c1.scalars last v place it.place.limit ∙ put_same c.scalars place y) ∙ start

        low01 : Low w m c0 c1
        low01 = low_on w m c0 c c1 lo lo1

        end1 : number I64 (c1.scalars (wide w.layout (e + 1))) ≡ x.end
        end1 = ap (number I64) (low01.spares.scalars_stay I64 (e + 1) it.ends) ∙ it.the_end

        lanes1 : number I64 (c1.scalars (wide w.layout n)) ≡ pos g
        lanes1 = ap (number I64) (low01.spares.scalars_stay I64 n (omega (arith, it.above))) ∙ it.measures.lanes

        limited2 : Limited c2
        limited2 = ap (number I64) (put_same c1.scalars last v) ∙ ap₂ (λ a u. number I64 (wrap I64 (a -ℤ u))) end1 lanes1 ∙ back_is I64 (x.end -ℤ pos g) (last_value g x.end (few_width w.code.gang) it.bottom it.high)

        stands2 : Stands w s c2
        stands2 = set_stands w ready Uniform c1 I64 (m + 1) (One v) s (it.place.stands c s (One y) st)

        tested : (c4 : Conf) × Comes w c2 2 c4 × At w c4 (if full z then pc + 1 + 1 + 1 + 1 else tail) × Low w m c2 c4 × (c4.masks ≡ c2.masks) × (c4.scalars place ≡ c2.scalars place) × (c4.scalars last ≡ c2.scalars last) × ((s1 : State) → Stands w s1 c2 → Stands w s1 c4)
        tested = full_tested (pc + 1 + 1) tail false (has.1.1.0, (has_full.0, tt)) z c2 at2 place2 limited2

        c3 : Conf
        c3 = tested.0

        comes3 : Comes w c 4 c3
        comes3 =
            comes_on w c c2 c3 2 2
            (comes_on w c c1 c2 1 1 (set_comes w ready Uniform c place (One y) pc (copy Uniform place (wide w.layout e) 0) at has.0 refl) (set_comes w ready Uniform c1 last (One v) (pc + 1) (last_full w.layout e m n) at1 has.1.0 sub_is)) tested.1

        low3 : Low w m c c3
        low3 = low_on w m c c1 c3 lo1 (low_on w m c1 c2 c3 lo2 tested.3)

        place3 : number I64 (c3.scalars place) ≡ z
        place3 = ap (number I64) tested.5 ∙ place2

        go : (al : Bool) → full z ≡ al → (k : ℕ) → CountsTo g k z x.end → 6 + 32 * k + q ≤ 32 * s.work → Passes w c3 stop m (4 + q) (rounds body all (map round (from_on g k z)) s)
        go false ea k counts1 le1 =
            rest_runs k z s c3 (4 + q) counts1 ea low (subst (λ al. At w c3 (if al then pc + 1 + 1 + 1 + 1 else tail)) ea tested.2) (low_on w m c0 c c3 lo low3) place3 (tested.7 s stands2) (omega (arith, le1))
        go true ea zero counts1 le1 = no_both (int_lt z x.end) (fits_some g x.end z (some_width w.code.gang) ea) counts1
        go true ea (suc k) counts1 le1 =
            passes_after w ready c3 c5 1 stop m (4 + q) _ (step_go w c3 (pc3 + 1) (fill_mask h) c5 ready at3 has_full.1.0 refl) low5
            (passes_after w ready c5 u.0 u.1 stop m (1 + (4 + q)) _ u.3 u.4 (full_runs k z s u.0 (u.1 + (1 + (4 + q))) counts1.1 ea low u.5 (omega (arith, le1, u.2))))
          where
            c5 : Conf
            c5 = masked w ready c3 h (everyone g)

            at3 : At w c3 (pc3 + 1)
            at3 = subst (λ al. At w c3 (if al then pc + 1 + 1 + 1 + 1 else tail)) ea tested.2

            low5 : Low w m c3 c5
            low5 = record { spares = spares_all w m c3; masks = λ j lt. let ne : j ≢ h = omega (arith, it.below) in put_other c3.masks h (everyone g) j ne }

            u : (c1 : Conf) × (k1 : ℕ) × (k1 ≤ 6) × Comes w c5 k1 c1 × Low w m c5 c1 × FullBegun z s c1
            u = set_all z s c5 low
                (record {
                  at = masked_at w ready c3 (pc3 + 1) h (everyone g) at3;
                  low = low_on w m c0 c3 c5 (low_on w m c0 c c3 lo low3) low5;
                  place = place3;
                  mask = put_same c3.masks h (everyone g) ∙ everyone_in z ea;
                  stands = tested.7 s stands2;
                })
                (ap (number I64) tested.6 ∙ limited2)
