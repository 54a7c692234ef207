-- The code of a loop does what the loop means, where the code of its body does.
use Rattle.std.proofs.Common.{false, ◌≡◌, ℕ, ◌+◌, ◌≤◌, List, [], ◌++◌, length, Option, Some, None, refl, sym, ◌∙◌, subst, arith, length-append}
use Rattle.isp_base.specs.Sets.{Mask}
use Rattle.isp_base.specs.Types.{gang_width}
use Rattle.isp_base.specs.declared.types.Span.{Span}
use Rattle.isp_code.specs.Conf.{Conf}
use Rattle.isp_code.specs.declared.instr.Instr.{Instr}
use Rattle.isp_tree.specs.declared.stmt.Form.{Form}
use Rattle.isp_typed.specs.Fine.{heads}
use Rattle.isp_typed.specs.Typed.{TExpr, type_of, TSimple, TFirst, t_first_declare, t_first_simple, TStmt, t_while, t_do, t_for}
use Rattle.isp_meaning.specs.Expressions.{value}
use Rattle.isp_meaning.specs.Laws.{Parted}
use Rattle.isp_meaning.specs.Loops.{while_turns}
use Rattle.isp_meaning.specs.Outcomes.{Val, Gives, Fails, Stops, Done, Res, with_value}
use Rattle.isp_meaning.specs.Simple.{first_part, step_part}
use Rattle.isp_meaning.specs.State.{State, tick}
use Rattle.isp_meaning.specs.Statements.{run, test_part}
use Rattle.isp_meaning.proofs.Parts.{four_sets}
use Rattle.isp_lower_code.specs.Code.{expr_code}
use Rattle.isp_lower_code.specs.Spans.{expr_places}
use Rattle.isp_lower_code.specs.Found.{found}
use Rattle.isp_lower_code.specs.Pieces.{two}
use Rattle.isp_lower_code.specs.Runs.{Failed, Stopped, DoneRuns, Enters}
use Rattle.isp_lower_code.specs.Setting.{Setting, IsSettled, gang_of, calls_of, AreAt}
use Rattle.isp_lower_code.proofs.Lemmas.{are_front, are_back, failed_less, stopped_less, expr_runs, few, items_run, enters_part, simple_runs, ExprParts}
use Rattle.isp_masks_code.specs.Exits.{exits_of, all_go_on, nobody_leaves, only_returns}
use Rattle.isp_masks_code.specs.Fors.{first_code, step_code, first_places, step_places}
use Rattle.isp_masks_code.specs.LoopRuns.{TestRuns, BodyRuns, StepRuns, IsBody, LoopsRun}
use Rattle.isp_masks_code.specs.Loops.{is_wide, for_code, endless_code}
use Rattle.isp_masks_code.specs.Named.{AreNamed, Named}
use Rattle.isp_masks_code.specs.Spots.{Numbers, Spot, body_spot, past}
use Rattle.isp_masks_code.specs.Statements.{stmt_places, stmt_texts, stmt_code, test_place}
use Rattle.isp_masks_code.specs.StmtRuns.{AreThree, aside, EntersAt, StmtRuns}
use Rattle.isp_masks_code.proofs.Combine.{stmt_after, stmt_less}
use Rattle.isp_masks_code.proofs.Exiting.{run_leaves}
use Rattle.isp_masks_code.proofs.Loops.{loops_run}
use Rattle.isp_masks_code.proofs.Names.{named_before, named_past}
use Rattle.isp_masks_code.proofs.Sequences.{set_aside}
use Rattle.isp_masks_code.proofs.Parts.{FirstFits, StepFits, StmtParts}
use Rattle.isp_masks_code.proofs.LoopParts.{none_done}

-- the masks of a loop, for its body
pub masks_of : (n : ℕ) → AreThree (body_spot n)
masks_of n = record {
  low_on = omega arith;
  low_continued = omega arith;
  low_returned = omega arith;
  on_continued = λ e. omega (arith, e);
  on_returned = λ e. omega (arith, e);
  continued_returned = λ e. omega (arith, e);
}

module _ (w : Setting) (ready : IsSettled w) where
  -- what is to be shown of the code of a statement
  abbrev pub CodeRuns : TStmt → Type 0
  CodeRuns x =
      (pc : ℕ) (z : Numbers) (spot : Spot) (q : ℕ) (a : Mask) (s : State) (c : Conf) → StmtParts w x spot.slot → AreAt w.routine.code pc (stmt_code w.layout w.frame.answer x pc z spot) → Named w z x → AreThree spot → EntersAt w pc spot a s c q
      → StmtRuns w w.turns c (pc + length (stmt_code w.layout w.frame.answer x pc z spot)) spot (aside (all_go_on x) + q) (run (gang_of w) w.frame (calls_of w) w.turns x a s)

  -- ---- the parts

  test_runs : (e : TExpr) (n p : ℕ) → ExprParts w e (n + 3) → AreAt w.code.places p (expr_places w.layout e)
      → TestRuns w n (type_of e).rate (found w.layout e (n + 3)) (λ pc. expr_code w.layout e pc p n (n + 3))
      (value (gang_of w) w.frame (calls_of w) e)
  test_runs e n p fit places T s c pc z has b =
      let fe : heads e ≤ 1 = few w e (n + 3) fit in
      expr_runs w ready e pc p n (n + 3) z (4 + z) T s c fit has places (omega arith) b

  pub body_runs : (x : TStmt) (n : ℕ) (z : Numbers) → CodeRuns x → StmtParts w x (n + 3) → Named w z x → BodyRuns w n (λ pc. stmt_code w.layout w.frame.answer x pc z (body_spot n)) (run (gang_of w) w.frame (calls_of w) w.turns x)
  body_runs x n z f fit names T s c pc q has b =
      stmt_less w ready w.turns c _ _ (body_spot n) (aside (all_go_on x)) q _ refl (f pc z (body_spot n) q T s c fit has names (masks_of n) b)

  is_body : (x : TStmt) → IsBody (exits_of x) (run (gang_of w) w.frame (calls_of w) w.turns x)
  is_body x T s =
      (subst (λ u. Parted T (run (gang_width u) w.frame (calls_of w) w.turns x T s)) (sym ready.gang) (four_sets w.program w.turns w.left w.frame x T s), run_leaves (gang_of w) w.frame (calls_of w) w.turns x T s)

  step_runs : (o : Option TSimple) (n p : ℕ) → StepFits w o (n + 3) → AreAt w.code.places p (step_places w.layout o) → StepRuns w n (λ pc. step_code w.layout o pc p n (n + 3)) (step_part (gang_of w) w.frame (calls_of w) o)
  step_runs None n p fit places T s c pc z has b = none_done w ready pc n (n + 3) z T s c b
  step_runs (Some x) n p fit places T s c pc z has b = simple_runs w ready x pc p n (n + 3) z T s c fit has places b

  -- the first part of a `for`, whose own unit of work leaves 32 steps
  first_runs : (o : Option TFirst) (pc p k n q : ℕ) (a : Mask) (s : State) (c : Conf) → FirstFits w o n
      → AreAt w.routine.code pc (first_code w.layout o pc p k n) → AreAt w.code.places p (first_places w.layout o) → Enters w pc k n a s c q
      → DoneRuns w c (pc + length (first_code w.layout o pc p k n)) n q (first_part (gang_of w) w.frame (calls_of w) o a s)
  first_runs None pc p k n q a s c fit has places b = none_done w ready pc k n q a s c b
  first_runs (Some (t_first_declare xs sp)) pc p k n q a s c fit has places b = items_run w ready xs pc p k n q a (tick s) c fit has places (enters_part w ready pc k n q q a s c (omega arith) b)
  first_runs (Some (t_first_simple x)) pc p k n q a s c fit has places b = simple_runs w ready x pc p k n q a s c fit has places b

  -- what stands after the places of a body and a step
  behind_step : (x : TStmt) (o : Option TSimple) (z : Numbers) (ps : List Span) → AreNamed w.code z (stmt_places w.layout x ++ (step_places w.layout o ++ ps)) (stmt_texts x) → AreAt w.code.places (test_place w.layout x o z) ps
  behind_step x o z ps names =
      let px = stmt_places w.layout x in
      let po = step_places w.layout o in
      are_back w.code.places (z.place + length px) po ps (are_back w.code.places z.place px (po ++ ps) names.places_are)

  step_front : (x : TStmt) (o : Option TSimple) (z : Numbers) (ps : List Span)
      → AreNamed w.code z (stmt_places w.layout x ++ (step_places w.layout o ++ ps)) (stmt_texts x)
      → AreAt w.code.places (z.place + length (stmt_places w.layout x)) (step_places w.layout o)
  step_front x o z ps names =
      let px = stmt_places w.layout x in
      let po = step_places w.layout o in
      are_front w.code.places (z.place + length px) po ps (are_back w.code.places z.place px (po ++ ps) names.places_are)

  -- ---- the loops

  pub while_runs : (f : Form) (g : ℕ) (e : TExpr) (x : TStmt) (sp : Span) → CodeRuns x → CodeRuns (t_while f g e x sp)
  while_runs f g e x sp r pc z spot q a s c fit has names three b =
      let pe = expr_places w.layout e in
      let px = stmt_places w.layout x in
      let n = spot.slot in
      let z1 = past pe z in
      let rest = named_past w.code z pe _ _ names in
      let wide = is_wide f (type_of e).rate in
      let l : LoopsRun w wide (exits_of x) spot a = loops_run w ready wide (exits_of x) spot a three in
      set_aside w ready (nobody_leaves (only_returns (exits_of x))) c _ spot q _
      (l.while_loop (type_of e).rate (found w.layout e (n + 3)) pc q s c _ _ _ _ _
      (test_runs e n z.place fit.0 (are_front w.code.places z.place pe _ names.places_are))
      (test_runs e n (test_place w.layout x None z1) fit.0 (behind_step x None z1 pe rest))
      (body_runs x n z1 r fit.1 (named_before w.code z1 px _ _ rest)) (is_body x) has b)

  pub do_runs : (f : Form) (g : ℕ) (x : TStmt) (e : TExpr) (sp : Span) → CodeRuns x → CodeRuns (t_do f g x e sp)
  do_runs f g x e sp r pc z spot q a s c fit has names three b =
      let px = stmt_places w.layout x in
      let n = spot.slot in
      let wide = is_wide f (type_of e).rate in
      let l : LoopsRun w wide (exits_of x) spot a = loops_run w ready wide (exits_of x) spot a three in
      set_aside w ready (nobody_leaves (only_returns (exits_of x))) c _ spot q _
      (l.do_loop (type_of e).rate (found w.layout e (n + 3)) pc q (tick s) c _ _ _ _
      (test_runs e n (test_place w.layout x None z) fit.0 (behind_step x None z (expr_places w.layout e) names))
      (body_runs x n z r fit.1 (named_before w.code z px _ _ names)) (is_body x) has
      (enters_part w ready pc spot.on n (3 + q) q a s c (omega arith) b))

  -- the first part of a `for`, and what follows it
  behind_first : (o : Option TFirst) (pc p : ℕ) (spot : Spot) (q : ℕ) (a : Mask) (s : State) (c : Conf) (code : ℕ → List Instr) (next : State → Res)
      → FirstFits w o spot.slot → AreAt w.routine.code pc (two pc (first_code w.layout o pc p spot.on spot.slot) code)
      → AreAt w.code.places p (first_places w.layout o) → AreThree spot → EntersAt w pc spot a s c q
      → ((pc1 : ℕ) (s1 : State) (c1 : Conf) (z : ℕ) → AreAt w.routine.code pc1 (code pc1) → EntersAt w pc1 spot a s1 c1 (3 + z) → StmtRuns w w.turns c1 (pc1 + length (code pc1)) spot (1 + z) (next s1))
      → StmtRuns w w.turns c (pc + length (two pc (first_code w.layout o pc p spot.on spot.slot) code)) spot (1 + q) (with_value (first_part (gang_of w) w.frame (calls_of w) o a (tick s)) (λ u s1. next s1))
  behind_first o pc p spot q a s c code next fit has places three b f =
      go (first_part (gang_of w) w.frame (calls_of w) o a (tick s))
      (first_runs o pc p spot.on spot.slot (3 + q) a (tick s) c fit (are_front w.routine.code pc ca (code pc1) has) places
      (enters_part w ready pc spot.on spot.slot (3 + q) q a s c (omega arith) b))
    where
      ca : List Instr
      ca = first_code w.layout o pc p spot.on spot.slot

      pc1 : ℕ
      pc1 = pc + length ca

      end : ℕ
      end = pc + length (ca ++ code pc1)

      ends : pc1 + length (code pc1) ≡ end
      ends = omega (arith, length-append ca (code pc1))

      three_is : 3 + q ≡ 2 + (1 + q)
      three_is = omega arith

      go : (v : Val Done) → DoneRuns w c pc1 spot.slot (3 + q) v → StmtRuns w w.turns c end spot (1 + q) (with_value v (λ u s1. next s1))
      go (Gives u s1) ok =
          let r = f pc1 s1 ok.conf (ok.steps + q) (are_back w.routine.code pc ca (code pc1) has)
          (record {
            at = ok.at;
            mask = ok.masks spot.on b.low
                ∙ b.mask;
            some = b.some;
            inside = b.inside;
            stands = ok.stands;
            used = omega (arith, ok.bound);
            low = b.low;
          }) in
          let e : 1 + (ok.steps + q) ≡ ok.steps + (1 + q) = omega arith in
          stmt_after w ready w.turns c ok.conf ok.steps end spot (1 + q) (next s1) ok.comes ok.spares (λ y lt ne. ok.masks y lt) three
          (subst (λ z. StmtRuns w w.turns ok.conf z spot (ok.steps + (1 + q)) (next s1)) ends
          (subst (λ z. StmtRuns w w.turns ok.conf (pc1 + length (code pc1)) spot z (next s1)) e r))
      go (Fails t s1) bad = failed_less w ready c 2 (1 + q) t s1 (subst (λ z. Failed w c z t s1) three_is bad)
      go (Stops s1) cut = stopped_less w ready w.turns c 2 (1 + q) s1 (subst (λ z. Stopped w w.turns c z s1) three_is cut)

  -- what a `for` means after its first part
  abbrev looped : Option TExpr → TStmt → Option TSimple → Mask → State → Res
  looped o x step a s1 =
      let test = test_part (gang_of w) w.frame (calls_of w) o in
      let body = run (gang_of w) w.frame (calls_of w) w.turns x in
      let stepping = step_part (gang_of w) w.frame (calls_of w) step in
      while_turns (gang_of w) test body stepping a w.turns s1

  pub for_runs : (f : Form) (g : ℕ) (first : Option TFirst) (o : Option TExpr) (step : Option TSimple) (i : ℕ) (x : TStmt) (sp : Span) → CodeRuns x → CodeRuns (t_for f g first o step i x sp)
  for_runs f g first None step i x sp r pc z spot q a s c fit has names three b =
      let pf = first_places w.layout first in
      let px = stmt_places w.layout x in
      let n = spot.slot in
      let z1 = past pf z in
      let own = named_past w.code z pf _ _ names in
      let l : LoopsRun w false (exits_of x) spot a = loops_run w ready false (exits_of x) spot a three in
      set_aside w ready (nobody_leaves (only_returns (exits_of x))) c _ spot q _
      (behind_first first pc z.place spot q a s c
      (λ pc1. endless_code (exits_of x) pc1 spot (λ pc2. stmt_code w.layout w.frame.answer x pc2 z1 (body_spot n)) (λ pc2. step_code w.layout step pc2 (z1.place + length px) n (n + 3)))
      (λ s1. looped None x step a s1) fit.0 has (are_front w.code.places z.place pf _ names.places_are) three b
      (λ pc1 s1 c1 y at en. l.endless_loop pc1 y s1 c1 _ _ _ _ (body_runs x n z1 r fit.3 (named_before w.code z1 px _ _ own)) (step_runs step n (z1.place + length px) fit.2 (step_front x step z1 [] own)) (is_body x) at en))
  for_runs f g first (Some e) step i x sp r pc z spot q a s c fit has names three b =
      let pf = first_places w.layout first in
      let pe = expr_places w.layout e in
      let px = stmt_places w.layout x in
      let n = spot.slot in
      let z1 = past pf z in
      let z2 = past pe z1 in
      let own = named_past w.code z pf _ _ names in
      let rest = named_past w.code z1 pe _ _ own in
      let wide = is_wide f (type_of e).rate in
      let l : LoopsRun w wide (exits_of x) spot a = loops_run w ready wide (exits_of x) spot a three in
      set_aside w ready (nobody_leaves (only_returns (exits_of x))) c _ spot q _
      (behind_first first pc z.place spot q a s c
      (λ pc1. for_code wide (exits_of x) (type_of e).rate (found w.layout e (n + 3)) pc1 spot (λ pc2. expr_code w.layout e pc2 z1.place n (n + 3))
      (λ pc2. expr_code w.layout e pc2 (test_place w.layout x step z2) n (n + 3))
      (λ pc2. stmt_code w.layout w.frame.answer x pc2 z2 (body_spot n)) (λ pc2. step_code w.layout step pc2 (z2.place + length px) n (n + 3)))
      (λ s1. looped (Some e) x step a s1) fit.0 has (are_front w.code.places z.place pf _ names.places_are) three b
      (λ pc1 s1 c1 y at en. l.for_loop (type_of e).rate (found w.layout e (n + 3)) pc1 y s1 c1 _ _ _ _ _ _ _
      (test_runs e n z1.place fit.1 (are_front w.code.places z1.place pe _ own.places_are))
      (test_runs e n (test_place w.layout x step z2) fit.1 (behind_step x step z2 pe rest))
      (body_runs x n z2 r fit.3 (named_before w.code z2 px _ _ rest))
      (step_runs step n (z2.place + length px) fit.2 (step_front x step z2 pe rest)) (is_body x) at en))
