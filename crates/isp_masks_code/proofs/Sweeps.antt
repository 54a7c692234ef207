-- Code that passes: all of a set go on, and what is in lower slots stays. A range before the last, whose place goes from its start on: by induction
-- on the numbers that are left.
use Rattle.std.proofs.Common.{◌≡◌, ℕ, zero, suc, ◌+◌, ◌*◌, ◌<◌, ◌≤◌, List, [], ◌∷◌, ◌++◌, length, map, true, refl, ap, ap₂, ◌∙◌, subst, arith}
use Rattle.std.specs.Prelude.{ℤ, pos, ◌+ℤ◌, ◌≤ℤ◌, ◌^◌, int_lt, if◌then◌else◌}
use lib.IntN.{neg_ℤ}
use Rattle.std.proofs.Math.Nat.{suc-mul}
use Rattle.std.proofs.lemmas.Int.{ints}
use Rattle.isp_base.proofs.Laws.{back_is}
use Rattle.isp_base.specs.Ranges.{IsValue}
use Rattle.isp_base.specs.Sets.{Mask}
use Rattle.isp_base.specs.Types.{widest}
use Rattle.isp_base.specs.Values.{number, op_bits, wrap}
use Rattle.isp_base.specs.declared.operators.BinOp.TheVariants as op
use Rattle.isp_base.specs.declared.types.Elem.TheVariants.{I64}
use Rattle.isp_base.specs.declared.types.Rate.TheVariants.{Uniform}
use Rattle.isp_code.specs.Conf.{Conf, Go}
use Rattle.isp_code.specs.declared.instr.Instr.{Instr}
use Rattle.isp_code.specs.declared.instr.Instr.TheVariants as instr
use Rattle.isp_code.specs.declared.instr.Plain.TheVariants as plain
use Rattle.isp_meaning.specs.Outcomes.{Res, Went, Trapped, Cut, go_on, went_all}
use Rattle.isp_meaning.specs.Payloads.{One}
use Rattle.isp_meaning.specs.Rounds.{Round, rounds, from_on, joined_lists}
use Rattle.isp_meaning.specs.State.{State}
use Rattle.isp_lower_code.specs.Instructions.{compute}
use Rattle.isp_lower_code.specs.Runs.{Comes, DoneOk, Failed, Stopped}
use Rattle.isp_lower_code.specs.Setting.{Setting, IsSettled, AreAt, At, Stands, Spares}
use Rattle.isp_lower_code.specs.Tables.{IsTyped}
use Rattle.isp_lower_code.proofs.Lemmas.{are_back, put_same, comes_on, comes_none, step_go, at_to, spares_all, spares_less, spares_on, failed_after, stopped_after, failed_less, stopped_less, set_at, set_comes, set_goes, set_spares, set_stands}
use Rattle.isp_masks_code.specs.Ranges.{wide}
use Rattle.isp_masks_code.specs.Spots.{Spot, body_spot}
use Rattle.isp_masks_code.specs.StmtRuns.{AreThree, StmtRuns}
use Rattle.isp_masks_code.proofs.Combine.{plain_ok}
use Rattle.isp_masks_code.proofs.Counting.{CountsTo, rounds_join}
use Rattle.isp_masks_code.proofs.Unmasked.{masks_stay}

-- ---- code that passes

module _ (w : Setting) where
  -- what is in slots below m is as it was
  pub record Low (m : ℕ) (c c1 : Conf) : Type 0 where
    pub spares : Spares w m c c1
    pub masks : (r : ℕ) → r < m → c1.masks r ≡ c.masks r

  pub low_all : (m : ℕ) (c : Conf) → Low m c c
  low_all m c = record { spares = spares_all w m c; masks = λ r lt. refl }

  pub low_on : (m : ℕ) (c c1 c2 : Conf) → Low m c c1 → Low m c1 c2 → Low m c c2
  low_on m c c1 c2 a b = record { spares = spares_on w m c c1 c2 a.spares b.spares; masks = λ r lt. b.masks r lt ∙ a.masks r lt }

  pub low_less : (n m : ℕ) (c c1 : Conf) → n ≤ m → Low m c c1 → Low n c c1
  low_less n m c c1 le a = record { spares = spares_less w n m c c1 le a.spares; masks = λ r lt. a.masks r (omega arith) }

  -- whoever went on: the state, and that the code ends before instruction pc
  abbrev pub Passes : Conf → ℕ → ℕ → ℕ → Res → Type 0
  Passes c pc m q (Went s g b ct rt) = DoneOk w c pc m q s
  Passes c pc m q (Trapped t s) = Failed w c q t s
  Passes c pc m q (Cut s) = Stopped w w.turns c q s

  module _ (ready : IsSettled w) where
    pub passes_after : (c c1 : Conf) (d pc m q : ℕ) (v : Res) → Comes w c d c1 → Low m c c1 → Passes c1 pc m (d + q) v → Passes c pc m q v
    passes_after c c1 d pc m q (Went s g b ct rt) h lo r = record {
      conf = r.conf;
      steps = d + r.steps;
      comes = comes_on w c c1 r.conf d r.steps h r.comes;
      at = r.at;
      stands = r.stands;
      spares = spares_on w m c c1 r.conf lo.spares r.spares;
      masks = λ i lt. r.masks i lt ∙ lo.masks i lt;
      bound = omega (arith, r.bound);
    }
    passes_after c c1 d pc m q (Trapped t s) h lo r = failed_after w ready c c1 d q t s h r
    passes_after c c1 d pc m q (Cut s) h lo r = stopped_after w ready w.turns c c1 d q s h r

    pub passes_go : (c : Conf) (pc pc' m m' d q : ℕ) (v : Res) (go : State → Res) → Passes c pc m (d + q) v → ((s : State) → DoneOk w c pc m (d + q) s → Passes c pc' m' q (go s)) → Passes c pc' m' q (go_on v (λ s g b ct rt. go s))
    passes_go c pc pc' m m' d q (Went s g b ct rt) go r f = f s r
    passes_go c pc pc' m m' d q (Trapped t s) go r f = failed_less w ready c d q t s r
    passes_go c pc pc' m m' d q (Cut s) go r f = stopped_less w ready w.turns c d q s r

    pub passes_to : (c : Conf) (pc pc' m m' q : ℕ) (v : Res) → pc ≡ pc' → m' ≤ m → Passes c pc m q v → Passes c pc' m' q v
    passes_to c pc pc' m m' q (Went s g b ct rt) e le r = record {
      conf = r.conf;
      steps = r.steps;
      comes = r.comes;
      at = at_to w r.conf pc pc' r.at e;
      stands = r.stands;
      spares = spares_less w m' m c r.conf
          le r.spares;
      masks = λ i lt. r.masks i (omega arith);
      bound = r.bound;
    }
    passes_to c pc pc' m m' q (Trapped t s) e le r = r
    passes_to c pc pc' m m' q (Cut s) e le r = r

    -- a body under masks of its own
    pub passes_body : (c : Conf) (pc h q : ℕ) (v : Res) → StmtRuns w w.turns c pc (body_spot h) q v → Passes c pc h q v
    passes_body c pc h q (Went s g b ct rt) r = record {
      conf = r.conf;
      steps = r.steps;
      comes = r.comes;
      at = r.at;
      stands = r.stands;
      spares = spares_less w h (h + 3) c r.conf (omega arith)
          r.spares;
      masks = λ i lt. masks_stay w ready c pc h q s g ct rt r i lt;
      bound = r.bound;
    }
    passes_body c pc h q (Trapped t s) r = r
    passes_body c pc h q (Cut s) r = r

    -- a statement after which all of the set go on
    pub passes_all : (c : Conf) (pc : ℕ) (spot : Spot) (q : ℕ) (all : Mask) (v : Res) → AreThree spot → c.masks spot.on ≡ all → Passes c pc spot.slot q v → StmtRuns w w.turns c pc spot q (go_on v (λ s g b ct rt. went_all all s))
    passes_all c pc spot q all (Went s g b ct rt) three em r = plain_ok w ready c r.conf r.steps pc spot q all s r.comes r.at r.stands r.spares r.masks three em r.bound
    passes_all c pc spot q all (Trapped t s) three em r = r
    passes_all c pc spot q all (Cut s) three em r = r

-- ---- a range

-- the least number that a place has
abbrev pub IsNotLess : ℤ → Type 0
IsNotLess z = neg_ℤ (pos (2 ^ 31)) ≤ℤ z

-- no place is past an int64
pub next_place : (k : ℕ) (z end : ℤ) → k ≤ widest → IsNotLess z → end ≤ℤ pos (2 ^ 31) → int_lt z end ≡ true → IsValue I64 (z +ℤ pos k)
next_place k z end few low high lt = (grind (arith, ints, low), grind (arith, ints, high, lt))

pub next_low : (k : ℕ) (z : ℤ) → IsNotLess z → IsNotLess (z +ℤ pos k)
next_low k z low = omega (arith, ints, low)

-- What is asked of a range, from the test of its place on: where a number is below the end, the code inside does its rounds.
pub record IsSweep (w : Setting) (body : Mask → State → Res) (all : Mask) (m u k : ℕ) (end : ℤ) (inside : ℕ → List Instr) (turn : ℤ → List Round) (cost extra top stop : ℕ) (c0 : Conf) : Type 1 where
  -- what is so after a test that a number passes
  pub Good : ℤ → Conf → Type 0
  pub code : AreAt w.routine.code (top + 1 + 1) (inside (top + 1 + 1) ++ compute Uniform plain.Add (wide w.layout m) (wide w.layout m) (wide w.layout u) 0 ∷ instr.Jump top ∷ [])
  pub stops : top + 1 + 1 + length (inside (top + 1 + 1)) + 1 + 1 ≡ stop
  pub low : u < m
  pub typed : IsTyped w Uniform (wide w.layout m) I64
  pub step : number I64 (c0.scalars (wide w.layout u)) ≡ pos k
  pub few : k ≤ widest
  pub high : end ≤ℤ pos (2 ^ 31)
  pub enough : extra + 4 ≤ cost
  pub test : (z : ℤ) (c : Conf) → At w c top → Low w m c0 c → number I64 (c.scalars (wide w.layout m)) ≡ z
      → (c1 : Conf) × Comes w c 2 c1 × At w c1 (if int_lt z end then top + 1 + 1 else stop) × Low w m c c1 × (c1.scalars (wide w.layout m) ≡ c.scalars (wide w.layout m)) × ((s : State) → Stands w s c → Stands w s c1) × Good z c1
  pub turns : (z : ℤ) (s : State) (c : Conf) (q : ℕ) → IsNotLess z → int_lt z end ≡ true → At w c (top + 1 + 1) → Low w m c0 c → number I64 (c.scalars (wide w.layout m)) ≡ z → Good z c → Stands w s c → extra + q ≤ 32 * s.work
      → Passes w c (top + 1 + 1 + length (inside (top + 1 + 1))) (m + 1) q (rounds body all (turn z) s)

module _ (w : Setting) (ready : IsSettled w) (body : Mask → State → Res) (all : Mask) (m u k : ℕ) (end : ℤ) (inside : ℕ → List Instr)
    (turn : ℤ → List Round) (cost extra top stop : ℕ) (c0 : Conf) (it : IsSweep w body all m u k end inside turn cost extra top stop c0) where
  -- the machine stands before the test of a place
  pub record InSweep (z : ℤ) (s : State) (c : Conf) : Type 0 where
    pub at : At w c top
    pub low : Low w m c0 c
    pub place : number I64 (c.scalars (wide w.layout m)) ≡ z
    pub stands : Stands w s c

  -- after a turn the place goes on, and it is tested again
  next_turn : (z : ℤ) (s1 : State) (c : Conf) (d q : ℕ) (rest : State → Res) → IsNotLess z → int_lt z end ≡ true → Low w m c0 c
      → number I64 (c.scalars (wide w.layout m)) ≡ z → (ok : DoneOk w c (top + 1 + 1 + length (inside (top + 1 + 1))) (m + 1) (d + q) s1)
      → ((c6 : Conf) → InSweep (z +ℤ pos k) s1 c6 → Passes w c6 stop m (ok.steps + 2 + q) (rest s1)) → Passes w c stop m q (rest s1)
  next_turn z s1 c d q rest low lt lo place ok again =
      passes_after w ready c c6 (ok.steps + 2) stop m q (rest s1) comes6 low6 (again c6 (record { at = at6; low = low_on w m c0 c c6 lo low6; place = place6; stands = stands6 }))
    where
      p : ℕ
      p = wide w.layout m

      v : ℕ
      v = wide w.layout u

      pc4 : ℕ
      pc4 = top + 1 + 1 + length (inside (top + 1 + 1))

      c4 : Conf
      c4 = ok.conf

      x : ℕ
      x = op_bits op.Add I64 (c4.scalars p) (c4.scalars v)

      c5 : Conf
      c5 = set_at Uniform c4 p (One x)

      c6 : Conf
      c6 = record c5 { pc = top }

      tail : AreAt w.routine.code pc4 (compute Uniform plain.Add p p v 0 ∷ instr.Jump top ∷ [])
      tail = are_back w.routine.code (top + 1 + 1) (inside (top + 1 + 1)) (compute Uniform plain.Add p p v 0 ∷ instr.Jump top ∷ []) it.code

      at5 : At w c5 (pc4 + 1)
      at5 = set_goes w ready Uniform c4 p (One x) pc4 ok.at

      comes6 : Comes w c (ok.steps + 2) c6
      comes6 = comes_on w c c4 c6 ok.steps 2 ok.comes (comes_on w c4 c5 c6 1 1
          (set_comes w ready Uniform c4 p (One x) pc4 (compute Uniform plain.Add p p v 0) ok.at tail.0
          (ap (λ t. Go (set_at Uniform c4 p (One (op_bits op.Add t (c4.scalars p) (c4.scalars v))))) it.typed))
          (step_go w c5 (pc4 + 1) (instr.Jump top) c6 ready at5 tail.1.0 refl))

      at6 : At w c6 top
      at6 = record { home_is = at5.home_is; waiting_is = at5.waiting_is; pc_is = refl }

      low4 : Low w m c c4
      low4 = record { spares = spares_less w m (m + 1) c c4 (omega arith) ok.spares; masks = λ r lt. ok.masks r (omega arith) }

      low6 : Low w m c c6
      low6 = record { spares = spares_on w m c c4 c6 low4.spares (set_spares w ready Uniform c4 I64 m m (One x) (omega arith)); masks = low4.masks }

      stands6 : Stands w s1 c6
      stands6 = set_stands w ready Uniform c4 I64 m (One x) s1 ok.stands

      here : number I64 (c4.scalars p) ≡ z
      here = ap (number I64) (ok.spares.scalars_stay I64 m (omega arith)) ∙ place

      by : number I64 (c4.scalars v) ≡ pos k
      by = ap (number I64) (low4.spares.scalars_stay I64 u it.low ∙ lo.spares.scalars_stay I64 u it.low) ∙ it.step

      place6 : number I64 (c6.scalars p) ≡ z +ℤ pos k
      place6 = ap (number I64) (put_same c4.scalars p x) ∙ ap₂ (λ a b. number I64 (wrap I64 (a +ℤ b))) here by ∙ back_is I64 (z +ℤ pos k) (next_place k z end it.few low it.high lt)

  pub sweep_runs : (n : ℕ) (z : ℤ) (s : State) (c : Conf) (q : ℕ) → CountsTo k n z end → IsNotLess z → InSweep z s c → 2 + n * cost + q ≤ 32 * s.work → Passes w c stop m q (rounds body all (joined_lists (map turn (from_on k n z))) s)
  sweep_runs zero z s c q counts low i le =
      let t = it.test z c i.at i.low i.place in
      passes_after w ready c t.0 2 stop m q (went_all all s) t.1 t.3
      (record {
        conf = t.0;
        steps = 0;
        comes = comes_none w t.0;
        at = subst (λ b. At w t.0 (if b then top + 1 + 1 else stop)) counts t.2;
        stands =
            t.5 s i.stands;
        spares = spares_all w m t.0;
        masks = λ r lt. refl;
        bound = omega (arith, le);
      })
  sweep_runs (suc n) z s c q counts low i le =
      let t = it.test z c i.at i.low i.place in
      let rest = joined_lists (map turn (from_on k n (z +ℤ pos k))) in
      let lo = low_on w m c0 c t.0 i.low t.3 in
      let place = ap (number I64) t.4 ∙ i.place in
      let mul = suc-mul n cost in
      passes_after w ready c t.0 2 stop m q _ t.1 t.3
      (subst (λ v. Passes w t.0 stop m (2 + q) v) (rounds_join body all (turn z) rest s)
      (passes_go w ready t.0 (top + 1 + 1 + length (inside (top + 1 + 1))) stop (m + 1) m (4 + n * cost) (2 + q) (rounds body all (turn z) s) (rounds body all rest)
      (it.turns z s t.0 (4 + n * cost + (2 + q)) low counts.0 (subst (λ b. At w t.0 (if b then top + 1 + 1 else stop)) counts.0 t.2) lo place t.6 (t.5 s i.stands) (omega (arith, le, mul, it.enough)))
      (λ s1 ok. next_turn z s1 t.0 (4 + n * cost) (2 + q) (rounds body all rest) low counts.0 lo place ok (λ c6 i6. sweep_runs n (z +ℤ pos k) s1 c6 (ok.steps + 2 + (2 + q)) counts.1 (next_low k z low) i6 (omega (arith, ok.bound))))))
