-- The code of a statement does what the statement means.
use Rattle.std.proofs.Common.{◌≡◌, ℕ, ◌+◌, ◌≤◌, List, ◌++◌, length, Some, None, true, refl, ap, ◌∙◌, subst, arith, length-append, [], ◌∷◌}
use Rattle.isp_base.specs.Sets.{Mask, any}
use Rattle.isp_base.specs.declared.trap.TrapKind.TheVariants.{Assert}
use Rattle.isp_code.specs.Conf.{Conf}
use Rattle.isp_code.specs.declared.instr.Instr.{Instr}
use Rattle.isp_tree.specs.declared.stmt.Form.TheVariants.{Coherent}
use Rattle.isp_tree.specs.declared.stmt.Jump.TheVariants.{Break, Continue}
use Rattle.isp_typed.specs.Fine.{heads}
use Rattle.isp_typed.specs.Typed.{TExpr, type_of, TStmt, t_block, t_declare, t_simple, t_if, t_if_else, t_while, t_do, t_for, t_foreach, t_foreach_active, t_foreach_unique}
use Rattle.isp_typed.specs.Typed.{t_unmasked, t_jump, t_return, t_print, t_assert, TBlock, t_braces, TStmts, t_no_stmts, t_stmt_then, TRange}
use Rattle.isp_meaning.specs.State.{State, tick}
use Rattle.isp_meaning.specs.Payloads.{Payload, is_false, offender}
use Rattle.isp_meaning.specs.Outcomes.{Res, checked, went_all, with_value, unless_empty}
use Rattle.isp_meaning.specs.Expressions.{value}
use Rattle.isp_meaning.specs.Statements.{all_go, branches, run, block, run_all}
use Rattle.isp_lower_code.specs.Code.{expr_code}
use Rattle.isp_lower_code.specs.Found.{found}
use Rattle.isp_lower_code.specs.Spans.{expr_places}
use Rattle.isp_lower_code.specs.Runs.{Ok}
use Rattle.isp_lower_code.specs.Setting.{Setting, IsSettled, gang_of, calls_of, AreAt, Holds}
use Rattle.isp_lower_code.proofs.Lemmas.{are_front, are_back, comes_none, at_to, spares_all, expr_runs, few, enters_less, enters_part, items_run, simple_runs, ExprParts}
use Rattle.isp_masks_code.specs.Asserts.{fails_code}
use Rattle.isp_masks_code.specs.Named.{AllNamed, AreNamed, BlockNamed, Named}
use Rattle.isp_masks_code.specs.Ranges.{ranges_places, runs_slot, places_slot, set_bodies}
use Rattle.isp_masks_code.specs.Spots.{Numbers, Spot, body_spot, past}
use Rattle.isp_masks_code.specs.Statements.{behind, run_bodies, rest_code, if_code, if_else_code, stmt_places, stmt_code, block_code, stmts_code, stmt_texts, body_layout}
use Rattle.isp_masks_code.specs.Exits.{either_leaves, exits_of, block_exits, nobody_leaves, all_go_on, both_go_on, leaving_of}
use Rattle.isp_masks_code.specs.StmtRuns.{AreThree, aside, EntersAt, StmtRuns}
use Rattle.isp_masks_code.proofs.Combine.{part_spot, stmt_after, stmt_less, with_runs, all_runs, plain_ok}
use Rattle.isp_masks_code.proofs.Choices.{if_runs, if_else_runs}
use Rattle.isp_masks_code.proofs.Jumping.{left_is, both_left}
use Rattle.isp_masks_code.proofs.Members.{went_inside, went_whole}
use Rattle.isp_masks_code.proofs.Active.{active_runs}
use Rattle.isp_masks_code.proofs.Asserts.{fails_run}
use Rattle.isp_masks_code.proofs.Foreach.{foreach_runs}
use Rattle.isp_masks_code.proofs.Distinct.{unique_runs}
use Rattle.isp_masks_code.proofs.Unmasked.{unmasked_runs}
use Rattle.isp_masks_code.proofs.LoopStmts.{body_runs, masks_of, while_runs, do_runs, for_runs}
use Rattle.isp_masks_code.proofs.Leaves.{jump_runs, return_ok, return_runs}
use Rattle.isp_masks_code.proofs.Names.{named_back, named_front, named_past}
use Rattle.isp_masks_code.proofs.Sequences.{set_aside, rest_runs, then_runs}
use Rattle.isp_masks_code.proofs.Prints.{print_runs}
use Rattle.isp_masks_code.proofs.Parts.{BlockParts, StmtParts, StmtsParts, RangesTyped}
use Rattle.isp_masks_code.proofs.Bodies.{outside_back, outside_settled, outside_stands, with_layout}
use Rattle.isp_masks_code.proofs.KnownBodies.{foreach_body}
use Rattle.isp_masks_code.specs.Free.{last_index_of}
use Rattle.isp_lower_code.specs.Layout.{outside}
use Rattle.isp_lower_code.specs.Tables.{IsTyped}
use Rattle.isp_base.specs.declared.types.Rate.TheVariants.{Uniform, Varying}
use Rattle.isp_base.specs.declared.types.Elem.TheVariants.{I32, I64}

module _ (w : Setting) (ready : IsSettled w) where
  -- a test, and what follows it for the same set
  tested_runs : (e : TExpr) (pc p : ℕ) (spot : Spot) (q : ℕ) (a : Mask) (s : State) (c : Conf) (code : ℕ → List Instr) (go : Payload → State → Res)
      → ExprParts w e spot.slot → AreAt w.routine.code pc
      (expr_code w.layout e pc p spot.on spot.slot ++ code (pc + length (expr_code w.layout e pc p spot.on spot.slot)))
      → AreAt w.code.places p (expr_places w.layout e) → AreThree spot → EntersAt w pc spot a s c q
      → ((m : Payload) (s1 : State) (ok : Ok w c (pc + length (expr_code w.layout e pc p spot.on spot.slot)) spot.slot (8 + (1 + q))
      (Holds (type_of e).rate a (found w.layout e spot.slot) m) s1)
      → StmtRuns w w.turns ok.conf (pc + length (expr_code w.layout e pc p spot.on spot.slot) + length
      (code (pc + length (expr_code w.layout e pc p spot.on spot.slot)))) spot (ok.steps + (1 + q)) (go m s1))
      → StmtRuns w w.turns c (pc + length (expr_code w.layout e pc p spot.on spot.slot
      ++ code (pc + length (expr_code w.layout e pc p spot.on spot.slot)))) spot (1 + q)
      (with_value (value (gang_of w) w.frame (calls_of w) e a (tick s)) go)
  tested_runs e pc p spot q a s c code go fit has places three b f =
      let fe : heads e ≤ 1 = few w e spot.slot fit in
      let ce = expr_code w.layout e pc p spot.on spot.slot in
      let pc1 = pc + length ce in
      let to : pc1 + length (code pc1) ≡ pc + length (ce ++ code pc1) = omega (arith, length-append ce (code pc1)) in
      subst (λ z. StmtRuns w w.turns c z spot (1 + q) (with_value (value (gang_of w) w.frame (calls_of w) e a (tick s)) go)) to
      (with_runs w ready c pc1 spot.slot 8 (1 + q) (Holds (type_of e).rate a (found w.layout e spot.slot)) (value (gang_of w) w.frame (calls_of w) e a (tick s)) go (pc1 + length (code pc1)) spot
      (expr_runs w ready e pc p spot.on spot.slot (32 + q) (8 + (1 + q)) a (tick s) c fit (are_front w.routine.code pc ce _ has) places (omega arith) (enters_part w ready pc spot.on spot.slot (32 + q) q a s c (omega arith) b))
      (λ m s1 ok. stmt_after w ready w.turns c ok.conf ok.steps (pc1 + length (code pc1)) spot (1 + q) (go m s1) ok.comes ok.spares (λ r lt ne. ok.masks r lt) three (f m s1 ok)))

-- the last of some ranges: its index, its type, and that it is a constant
last_there : (rs : List TRange) → 1 ≤ length rs → (i : ℕ) × (last_index_of rs ≡ Some i)
last_there [] some = absurd (omega (arith, some))
last_there (r ∷ []) some = (r.index, refl)
last_there (r ∷ q ∷ rs) some = last_there (q ∷ rs) (omega arith)

last_typed : (w : Setting) (rs : List TRange) (i m : ℕ) → last_index_of rs ≡ Some i → RangesTyped w rs m → IsTyped w Varying (w.layout.variable Varying i) I32
last_typed w [] i m e f = absurd (cc)
last_typed w (r ∷ []) i m e f = let same : r.index ≡ i = cc in subst (λ j. IsTyped w Varying (w.layout.variable Varying j) I32) same f.0.index
last_typed w (r ∷ q ∷ rs) i m e f = last_typed w (q ∷ rs) i (m + 1 + 1) e f.1

place_typed : (w : Setting) (rs : List TRange) (m : ℕ) → 1 ≤ length rs → RangesTyped w rs m → IsTyped w Uniform (w.layout.place Uniform) I64
place_typed w [] m some f = absurd (omega (arith, some))
place_typed w (r ∷ rs) m some f = f.0.run

mutual
  pub stmt_runs : (x : TStmt) (w : Setting) (ready : IsSettled w) (pc : ℕ) (z : Numbers) (spot : Spot) (q : ℕ) (a : Mask) (s : State) (c : Conf)
      → StmtParts w x spot.slot → AreAt w.routine.code pc (stmt_code w.layout w.frame.answer x pc z spot) → Named w z x → AreThree spot
      → EntersAt w pc spot a s c q → StmtRuns w w.turns c (pc + length (stmt_code w.layout w.frame.answer x pc z spot)) spot (aside (all_go_on x) + q)
      (run (gang_of w) w.frame (calls_of w) w.turns x a s)
  stmt_runs (t_block x) w ready pc z spot q a s c fit has names three b = set_aside w ready (nobody_leaves (block_exits x)) c _ spot q _ (block_runs x w ready pc z spot q a s c fit has names three b)
  stmt_runs (t_declare xs sp) w ready pc z spot q a s c fit has names three b =
      all_runs w ready c _ spot (0 + q) a _ three b.mask (items_run w ready xs pc z.place spot.on spot.slot (0 + q) a (tick s) c fit has names.places_are (enters_part w ready pc spot.on spot.slot (0 + q) q a s c (omega arith) b))
  stmt_runs (t_simple x sp) w ready pc z spot q a s c fit has names three b =
      all_runs w ready c _ spot (0 + q) a _ three b.mask (simple_runs w ready x pc z.place spot.on spot.slot (0 + q) a s c fit has names.places_are (enters_less w ready pc spot.on spot.slot (0 + q) q a s c (omega arith) b))
  stmt_runs (t_if f g e x sp) w ready pc z spot q a s c fit has names three b =
      let ce = expr_code w.layout e pc z.place spot.on spot.slot in
      let pl = expr_places w.layout e in
      let z1 = past pl z in
      let part = λ (pc2 : ℕ) (at : Spot). stmt_code w.layout w.frame.answer x pc2 z1 at in
      let own = named_past w.code z pl _ _ names in
      set_aside w ready (all_go_on x) c _ spot q _
      (tested_runs w ready e pc z.place spot q a s c (λ pc1. if_code (leaving_of x) f (type_of e).rate (found w.layout e spot.slot) pc1 spot part)
      (branches (gang_of w) a (run (gang_of w) w.frame (calls_of w) w.turns x) went_all) fit.0 has
      (are_front w.code.places z.place pl _ names.places_are) three b
      (λ m s1 ok. if_runs w ready (leaving_of x) f (type_of e).rate (found w.layout e spot.slot) (pc + length ce) spot (ok.steps + (1 + q)) a m s1
      ok.conf part (run (gang_of w) w.frame (calls_of w) w.turns x) ok.at (ok.masks spot.on b.low ∙ b.mask) b.some b.inside ok.stands ok.holds
      (omega (arith, ok.bound)) three (are_back w.routine.code pc ce _ has) (left_is w ready x)
      (λ j T s2 c2 pc2 y th h en. stmt_less w ready w.turns c2 _ _ _ (aside (all_go_on x)) y _ refl
      (stmt_runs x w ready pc2 z1 (part_spot f (type_of e).rate j spot) y T s2 c2 fit.1 h own th en))))
  stmt_runs (t_if_else f g e x y sp) w ready pc z spot q a s c fit has names three b =
      let ce = expr_code w.layout e pc z.place spot.on spot.slot in
      let pl = expr_places w.layout e in
      let px = stmt_places w.layout x in
      let z1 = past pl z in
      let part = λ (pc2 : ℕ) (at : Spot). stmt_code w.layout w.frame.answer x pc2 z1 at in
      let other = λ (pc2 : ℕ) (at : Spot). stmt_code w.layout w.frame.answer y pc2 (behind w.layout x z1) at in
      let own = named_past w.code z pl _ _ names in
      set_aside w ready (nobody_leaves (either_leaves (exits_of x) (exits_of y))) c _ spot q _
      (tested_runs w ready e pc z.place spot q a s c (λ pc1. if_else_code (both_go_on x y) f (type_of e).rate (found w.layout e spot.slot) pc1 spot
      part other) (branches (gang_of w) a (run (gang_of w) w.frame (calls_of w) w.turns x) (run (gang_of w) w.frame (calls_of w) w.turns y)) fit.0
      has (are_front w.code.places z.place pl _ names.places_are) three b
      (λ m s1 ok. if_else_runs w ready (both_go_on x y) f (type_of e).rate (found w.layout e spot.slot) (pc + length ce) spot (ok.steps + (1 + q)) a m
      s1 ok.conf part other (run (gang_of w) w.frame (calls_of w) w.turns x) (run (gang_of w) w.frame (calls_of w) w.turns y) ok.at
      (ok.masks spot.on b.low ∙ b.mask) b.some b.inside ok.stands ok.holds (omega (arith, ok.bound)) three (are_back w.routine.code pc ce _ has)
      (both_left w ready x y) (λ j T s2 c2 pc2 u th h en. stmt_less w ready w.turns c2 _ _ _ (aside (all_go_on x)) u _ refl
      (stmt_runs x w ready pc2 z1 (part_spot Coherent (type_of e).rate j spot) u T s2 c2 fit.1 h (named_front w.code z1 px _ (stmt_texts x) _ own)
      th en)) (λ j T s2 c2 pc2 u th h en. stmt_less w ready w.turns c2 _ _ _ (aside (all_go_on y)) u _ refl
      (stmt_runs y w ready pc2 (behind w.layout x z1) (part_spot Coherent (type_of e).rate j spot) u T s2 c2 fit.2 h
      (named_back w.code z1 px _ (stmt_texts x) _ own) th en))))
  stmt_runs (t_while f g e x sp) w ready pc z spot q a s c fit has names three b = while_runs w ready f g e x sp (stmt_runs x w ready) pc z spot q a s c fit has names three b
  stmt_runs (t_do f g x e sp) w ready pc z spot q a s c fit has names three b = do_runs w ready f g x e sp (stmt_runs x w ready) pc z spot q a s c fit has names three b
  stmt_runs (t_for f g first e step i x sp) w ready pc z spot q a s c fit has names three b = for_runs w ready f g first e step i x sp (stmt_runs x w ready) pc z spot q a s c fit has names three b
  stmt_runs (t_foreach v g rs x sp) w ready pc z spot q a s c fit has names three b =
      let pl = ranges_places w.layout rs in
      let h = runs_slot spot.slot rs in
      let last = last_there rs fit.0.some in
      let l1 = body_layout w.layout rs in
      let z1 = past pl z in
      let px = stmt_places l1 x in
      let own = named_past w.code z pl _ _ names in
      let part = λ (z2 : Numbers) (named : AreNamed w.code z2 px (stmt_texts x)).
      foreach_body w ready fit.1 rs last.0 (places_slot spot.slot rs) x h z2 last.1 fit.0.few (place_typed w rs (places_slot spot.slot rs) fit.0.some fit.0.places) (last_typed w rs last.0 (places_slot spot.slot rs) last.1 fit.0.places) fit.0.constants named
      (λ m k ready1 T s1 c1 pc1 y at named1 en. body_runs (with_layout w l1 m k) ready1 x h z2 (stmt_runs x (with_layout w l1 m k) ready1) (fit.2 m k) named1 T s1 c1 pc1 y at en) in
      foreach_runs w ready rs pc z.place spot (0 + q) a s c last.0 (set_bodies w.layout rs (places_slot spot.slot rs) (run_bodies l1 w.frame.answer x h z1)) (run (gang_of w) w.frame (calls_of w) w.turns x) fit.1 last.1 fit.0
      (record {
        full = part z1 (named_front w.code z1 px px (stmt_texts x) (stmt_texts x) own);
        rest = part (behind l1 x z1) (named_back w.code z1 px px (stmt_texts x) (stmt_texts x) own);
        whole = λ e T u1 u2 u3 u4 s1 s2 is. went_whole w ready x T s1 s2 u1 u2 u3 u4 is e;
      })
      has (are_front w.code.places z.place pl _ names.places_are) three (enters_less w ready pc spot.on spot.slot (0 + q) q a s c (omega arith) b)
  stmt_runs (t_foreach_active v g i x sp) w ready pc z spot q a s c fit has names three b =
      active_runs w ready i pc spot (0 + q) a s c _ _ fit.0 (body_runs w ready x (spot.slot + 1) z (stmt_runs x w ready) fit.1 names) has three (enters_less w ready pc spot.on spot.slot (0 + q) q a s c (omega arith) b)
  stmt_runs (t_foreach_unique v g i t e x sp) w ready pc z spot q a s c fit has names three b =
      let pl = expr_places w.layout e in
      unique_runs w ready spot i t e pc z.place (0 + q) a s c _ _ fit.0 (body_runs w ready x (spot.slot + 1) (past pl z) (stmt_runs x w ready) fit.1 (named_past w.code z pl _ _ names))
      has (are_front w.code.places z.place pl _ names.places_are) three (enters_less w ready pc spot.on spot.slot (0 + q) q a s c (omega arith) b)
  stmt_runs (t_unmasked v x sp) w ready pc z spot q a s c fit has names three b =
      let w1 = with_layout w (outside w.layout) w.members w.start in
      let ready1 = outside_settled w ready in
      unmasked_runs w ready pc spot (0 + q) a s c _ _
      (λ T s1 c1 pc1 z1 h en. outside_back w ready w.turns c1 _ (body_spot spot.slot) z1 _
      (stmt_less w1 ready1 w.turns c1 _ _ (body_spot spot.slot) 1 z1 _ refl
      (block_runs x w1 ready1 pc1 z (body_spot spot.slot) z1 T s1 c1 fit h names (masks_of spot.slot)
      (record {
        at = en.at;
        mask = en.mask;
        some = en.some;
        inside = λ p m. (en.inside p m, λ no. absurd (cc));
        stands = outside_stands w ready s1
            c1 en.stands;
        used = en.used;
        low = omega arith;
      }))))
      has three (enters_less w ready pc spot.on spot.slot (0 + q) q a s c (omega arith) b)
  stmt_runs (t_jump Break v sp) w ready pc z spot q a s c fit has names three b = jump_runs w ready Break pc spot q a s c has three b
  stmt_runs (t_jump Continue v sp) w ready pc z spot q a s c fit has names three b = jump_runs w ready Continue pc spot q a s c has three b
  stmt_runs (t_return v None sp) w ready pc z spot q a s c fit has names three b =
      return_ok w ready c c 0 pc spot (1 + q) a (tick s) (comes_none w c) b.at b.stands (spares_all w spot.slot c) (λ r lt. refl) b.mask has three (omega (arith, b.used))
  stmt_runs (t_return v (Some x) sp) w ready pc z spot q a s c fit has names three b = return_runs w ready w.frame.answer x pc z.place spot q a s c fit has names.places_are three b
  stmt_runs (t_print v text xs sp) w ready pc z spot q a s c fit has names three b =
      print_runs w ready text xs pc z spot (0 + q) a s c fit.0 fit.1 has names.places_are names.texts_are three (enters_less w ready pc spot.on spot.slot (0 + q) q a s c (omega arith) b)
  stmt_runs (t_assert x y sp) w ready pc z spot q a s c fit has names three b =
      let ce = expr_code w.layout x pc z.place spot.on spot.slot in
      let pl = expr_places w.layout x in
      let u = found w.layout x spot.slot in
      let p1 = z.place + length pl in
      set_aside w ready true c _ spot q _
      (tested_runs w ready x pc z.place spot q a s c (λ pc1. fails_code (type_of x).rate u pc1 p1 spot.on spot.slot)
      (λ m s1. all_go a (checked (offender (gang_of w) is_false a m) Assert y s1 tt)) fit has
      (are_front w.code.places z.place pl _ names.places_are) three b
      (λ m s1 ok. let em = ok.masks spot.on b.low ∙ b.mask in all_runs w ready ok.conf _ spot (ok.steps + (1 + q)) a _ three em
      (fails_run w ready (type_of x).rate u (pc + length ce) p1 spot.on spot.slot (ok.steps + (1 + q)) a m s1 ok.conf y ok.at em three.low_on
      ok.stands ok.holds (omega (arith, ok.bound)) (are_back w.routine.code pc ce _ has)
      (are_back w.code.places z.place pl _ names.places_are).0)))

  pub block_runs : (x : TBlock) (w : Setting) (ready : IsSettled w) (pc : ℕ) (z : Numbers) (spot : Spot) (q : ℕ) (a : Mask) (s : State) (c : Conf)
      → BlockParts w x spot.slot → AreAt w.routine.code pc (block_code w.layout w.frame.answer x pc z spot) → BlockNamed w z x → AreThree spot
      → EntersAt w pc spot a s c q → StmtRuns w w.turns c (pc + length (block_code w.layout w.frame.answer x pc z spot)) spot (1 + q)
      (block (gang_of w) w.frame (calls_of w) w.turns x a s)
  block_runs (t_braces xs sp) w ready pc z spot q a s c fit has names three b = stmts_runs xs w ready pc z spot (1 + q) a (tick s) c fit has names three (enters_part w ready pc spot.on spot.slot (1 + q) q a s c (omega arith) b)

  pub stmts_runs : (xs : TStmts) (w : Setting) (ready : IsSettled w) (pc : ℕ) (z : Numbers) (spot : Spot) (q : ℕ) (a : Mask) (s : State) (c : Conf)
      → StmtsParts w xs spot.slot → AreAt w.routine.code pc (stmts_code w.layout w.frame.answer xs pc z spot) → AllNamed w z xs → AreThree spot
      → EntersAt w pc spot a s c q → StmtRuns w w.turns c (pc + length (stmts_code w.layout w.frame.answer xs pc z spot)) spot q
      (run_all (gang_of w) w.frame (calls_of w) w.turns xs a s)
  stmts_runs t_no_stmts w ready pc z spot q a s c fit has names three b =
      let e : pc ≡ pc + 0 = omega arith in
      plain_ok w ready c c 0 (pc + 0) spot q a s (comes_none w c) (at_to w c pc (pc + 0) b.at e) b.stands (spares_all w spot.slot c) (λ r lt. refl) three b.mask (omega (arith, b.used))
  stmts_runs (t_stmt_then x xs) w ready pc z spot q a s c fit has names three b =
      let ca = stmt_code w.layout w.frame.answer x pc z spot in
      let px = stmt_places w.layout x in
      let code = λ (pc2 : ℕ). stmts_code w.layout w.frame.answer xs pc2 (behind w.layout x z) spot in
      let pc1 = pc + length ca in
      let v = run (gang_of w) w.frame (calls_of w) w.turns x a s in
      then_runs w ready pc spot (aside (all_go_on x)) q ca (λ pc1. rest_code (all_go_on x) xs spot.on pc1 code) c v
      (λ g s1. unless_empty (gang_of w) g s1 (run_all (gang_of w) w.frame (calls_of w) w.turns xs))
      (stmt_runs x w ready pc z spot q a s c fit.0 (are_front w.routine.code pc ca _ has) (named_front w.code z px _ (stmt_texts x) _ names) three
      b)
      (λ s1 g u ct rt e ok. rest_runs w ready (all_go_on x) xs pc1 spot (ok.steps + q) g s1 ok.conf code
      (λ h. ap (any (gang_of w)) (went_whole w ready x a s s1 g u ct rt e h) ∙ b.some) ok.at ok.went
      (went_inside w ready x a s s1 g u ct rt e b.inside) ok.stands (omega (arith, ok.bound)) three (are_back w.routine.code pc ca _ has)
      (λ pc2 c2 y h en. stmts_runs xs w ready pc2 (behind w.layout x z) spot y g s1 c2 fit.1 h (named_back w.code z px _ (stmt_texts x) _ names)
      three en))
