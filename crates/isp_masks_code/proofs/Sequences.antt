-- One statement after the other.
use Rattle.std.proofs.Common.{◌≡◌, ℕ, ◌+◌, ◌*◌, ◌≤◌, List, ◌++◌, length, Bool, true, false, sym, ap, ◌∙◌, subst, arith, length-append, refl}
use Rattle.isp_base.specs.Sets.{Mask, union, any}
use Rattle.isp_code.specs.Conf.{Conf}
use Rattle.isp_code.specs.declared.instr.Instr.{Instr}
use Rattle.isp_typed.specs.Typed.{TStmts, t_no_stmts, t_stmt_then}
use Rattle.isp_meaning.specs.State.{State}
use Rattle.isp_meaning.specs.Outcomes.{Res, Went, Trapped, Cut, go_on, went_all, then_run, unless_empty, if_so}
use Rattle.isp_meaning.specs.Statements.{run_all}
use Rattle.isp_lower_code.specs.Pieces.{two}
use Rattle.isp_lower_code.specs.Setting.{Setting, IsSettled, gang_of, calls_of, AreAt, At, Stands}
use Rattle.isp_lower_code.proofs.Lemmas.{comes_none, comes_on, at_to, spares_all, spares_on, failed_after, stopped_after}
use Rattle.isp_masks_code.specs.Statements.{rest_code}
use Rattle.isp_masks_code.specs.Spots.{Spot}
use Rattle.isp_masks_code.specs.StmtRuns.{AreThree, aside, EntersAt, Inside, StmtOk, StmtRuns}
use Rattle.isp_masks_code.proofs.Unions.{union_assoc}
use Rattle.isp_masks_code.proofs.Combine.{stmt_less, go_runs, plain_ok, guard_runs}
use Rattle.isp_masks_code.proofs.Sides.{nobody_left}

module _ (w : Setting) (ready : IsSettled w) where
  -- where nobody leaves, nothing has to be set aside
  pub set_aside : (b : Bool) (c : Conf) (pc : ℕ) (spot : Spot) (q : ℕ) (v : Res) → StmtRuns w w.turns c pc spot (1 + q) v → StmtRuns w w.turns c pc spot (aside b + q) v
  set_aside true c pc spot q v r = stmt_less w ready w.turns c pc pc spot 1 (0 + q) v refl (let e : 1 + q ≡ 1 + (0 + q) = omega arith in subst (λ z. StmtRuns w w.turns c pc spot z v) e r)
  set_aside false c pc spot q v r = r

  -- what statements mean here, one after the other
  abbrev all_of : TStmts → Mask → State → Res
  all_of = run_all (gang_of w) w.frame (calls_of w) w.turns

  pub rest_runs : (b : Bool) (xs : TStmts) (pc : ℕ) (spot : Spot) (q : ℕ) (g : Mask) (s : State) (c : Conf) (code : ℕ → List Instr)
      → (b ≡ true → any (gang_of w) g ≡ true) → At w c pc → c.masks spot.on ≡ g → Inside w g → Stands w s c → aside b + q ≤ 32 * s.work
      → AreThree spot → AreAt w.routine.code pc (rest_code b xs spot.on pc code)
      → ((pc1 : ℕ) (c1 : Conf) (z : ℕ) → AreAt w.routine.code pc1 (code pc1) → EntersAt w pc1 spot g s c1 z
      → StmtRuns w w.turns c1 (pc1 + length (code pc1)) spot z (run_all (gang_of w) w.frame (calls_of w) w.turns xs g s))
      → StmtRuns w w.turns c (pc + length (rest_code b xs spot.on pc code)) spot q
      (unless_empty (gang_of w) g s (run_all (gang_of w) w.frame (calls_of w) w.turns xs))
  rest_runs true xs pc spot q g s c code some at em inside st le three has f =
      subst (λ z. StmtRuns w w.turns c (pc + length (code pc)) spot q (if_so z (all_of xs g) (went_all g) s)) (sym (some refl))
      (f pc c q has (record { at = at; mask = em; some = some refl; inside = inside; stands = st; used = omega (arith, le); low = three.low_on }))
  rest_runs false t_no_stmts pc spot q g s c code some at em inside st le three has f =
      let e : pc ≡ pc + 0 = omega arith in
      subst (λ v. StmtRuns w w.turns c (pc + 0) spot q v) (nobody_left (gang_of w) g s)
      (plain_ok w ready c c 0 (pc + 0) spot q g s (comes_none w c) (at_to w c pc (pc + 0) at e) st (spares_all w spot.slot c) (λ r lt. refl) three
      em (omega (arith, le)))
  rest_runs false (t_stmt_then x xs) pc spot q g s c code some at em inside st le three has f =
      guard_runs w ready w.turns pc spot q g s c code (all_of (t_stmt_then x xs)) at em inside st le three has (λ c1 z en. f (pc + 1) c1 z has.1 en)

  -- the second's sets are added to the first's
  then_join : (c : Conf) (pc end : ℕ) (spot : Spot) (d q : ℕ) (s : State) (g b ct rt : Mask) (ok : StmtOk w c pc spot (d + q) s g ct rt) (v : Res)
      → StmtRuns w w.turns ok.conf end spot (ok.steps + q) v
      → StmtRuns w w.turns c end spot q (go_on v (λ s' g' b' c' r'. Went s' g' (union b b') (union ct c') (union rt r')))
  then_join c pc end spot d q s g b ct rt ok (Went s' g' b' c' r') r = record {
    conf = r.conf;
    steps = ok.steps + r.steps;
    comes = comes_on w c ok.conf r.conf ok.steps r.steps ok.comes r.comes;
    at = r.at;
    stands = r.stands;
    spares = spares_on w spot.slot c ok.conf r.conf ok.spares r.spares;
    went = r.went;
    continued = r.continued ∙ ap (λ m. union m c') ok.continued ∙ union_assoc (c.masks spot.continued) ct c';
    returned = r.returned ∙ ap (λ m. union m r') ok.returned ∙ union_assoc (c.masks spot.returned) rt r';
    masks = λ i lt x y z. r.masks i lt x y z ∙ ok.masks i lt x y z;
    bound = omega (arith, r.bound);
  }
  then_join c pc end spot d q s g b ct rt ok (Trapped t s') r = failed_after w ready c ok.conf ok.steps q t s' ok.comes r
  then_join c pc end spot d q s g b ct rt ok (Cut s') r = stopped_after w ready w.turns c ok.conf ok.steps q s' ok.comes r

  pub then_runs : (pc : ℕ) (spot : Spot) (d q : ℕ) (ca : List Instr) (cb : ℕ → List Instr) (c : Conf) (va : Res) (vb : Mask → State → Res)
      → StmtRuns w w.turns c (pc + length ca) spot (d + q) va
      → ((s : State) (g b ct rt : Mask) → va ≡ Went s g b ct rt → (ok : StmtOk w c (pc + length ca) spot (d + q) s g ct rt)
      → StmtRuns w w.turns ok.conf (pc + length ca + length (cb (pc + length ca))) spot (ok.steps + q) (vb g s))
      → StmtRuns w w.turns c (pc + length (two pc ca cb)) spot q (then_run va vb)
  then_runs pc spot d q ca cb c va vb ra rb =
      let pc1 = pc + length ca in
      let to : pc1 + length (cb pc1) ≡ pc + length (ca ++ cb pc1) = omega (arith, length-append ca (cb pc1)) in
      subst (λ z. StmtRuns w w.turns c z spot q (then_run va vb)) to
      (go_runs w ready w.turns c pc1 spot d q va _ (pc1 + length (cb pc1)) spot ra
      (λ s g b ct rt e ok. then_join c pc1 (pc1 + length (cb pc1)) spot d q s g b ct rt ok (vb g s) (rb s g b ct rt e ok)))
