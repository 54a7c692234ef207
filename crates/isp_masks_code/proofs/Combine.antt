-- How code of statements is put together: what comes before, what follows, and what is jumped over.
use Rattle.std.proofs.Common.{◌≡◌, ◌≢◌, ℕ, ◌+◌, ◌*◌, ◌<◌, ◌≤◌, List, length, Some, Bool, true, false, refl, sym, ap, ◌∙◌, subst, arith}
use Rattle.std.specs.Prelude.{slice_get, not}
use Rattle.isp_base.specs.Sets.{Mask, nobody, union, any}
use Rattle.isp_base.specs.declared.types.Rate.{Rate}
use Rattle.isp_code.specs.Conf.{Conf}
use Rattle.isp_code.specs.Lines.{jumps}
use Rattle.isp_code.specs.declared.instr.Instr.{Instr}
use Rattle.isp_code.specs.declared.instr.Instr.TheVariants as instr
use Rattle.isp_code.specs.declared.instr.JumpTest.TheVariants as jump
use Rattle.isp_tree.specs.declared.stmt.Form.{Form}
use Rattle.isp_meaning.specs.State.{State}
use Rattle.isp_meaning.specs.Outcomes.{Val, Gives, Fails, Stops, Done, Res, Went, Trapped, Cut, with_value, go_on, went_all, unless_empty, if_so}
use Rattle.isp_meaning.specs.Statements.{all_go}
use Rattle.isp_lower_code.specs.Instructions.{jump_off}
use Rattle.isp_lower_code.specs.Pieces.{guard}
use Rattle.isp_lower_code.specs.Layout.{mask_register}
use Rattle.isp_lower_code.specs.Runs.{Comes, Ok, Runs, DoneRuns}
use Rattle.isp_lower_code.specs.Setting.{Setting, IsSettled, gang_of, AreAt, At, Stands, Spares}
use Rattle.isp_lower_code.proofs.Lemmas.{comes_none, comes_on, step_go, at_to, spares_all, spares_on, failed_after, stopped_after, failed_less, stopped_less, jumped, jump_comes, jump_at}
use Rattle.isp_masks_code.specs.Asks.{part_slot}
use Rattle.isp_masks_code.specs.Spots.{Spot}
use Rattle.isp_masks_code.specs.StmtRuns.{AreThree, EntersAt, Inside, StmtOk, StmtRuns}
use Rattle.isp_masks_code.proofs.Unions.{union_nobody}

-- a part after a test of a rate: after a varying one it keeps a slot, in a c-form two
abbrev pub part_spot : Form → Rate → ℕ → Spot → Spot
part_spot f r k spot = record spot { on = k; slot = part_slot f r spot.slot }

-- a part under mask k, whose slots begin at slot n
abbrev pub deep : ℕ → ℕ → Spot → Spot
deep n k spot = record spot { on = k; slot = n }

module _ (w : Setting) (ready : IsSettled w) where
  -- ---- a stretch before

  pub stmt_after : (t : ℕ) (c c1 : Conf) (d pc : ℕ) (spot : Spot) (q : ℕ) (v : Res) → Comes w c d c1 → Spares w spot.slot c c1
      → ((r : ℕ) → r < spot.slot → r ≢ spot.on → c1.masks r ≡ c.masks r) → AreThree spot → StmtRuns w t c1 pc spot (d + q) v
      → StmtRuns w t c pc spot q v
  stmt_after t c c1 d pc spot q (Went s g b ct rt) h sp ma m r =
      let ck : spot.continued ≢ spot.on = λ e. m.on_continued (sym e) in
      let rk : spot.returned ≢ spot.on = λ e. m.on_returned (sym e) in
      record {
        conf = r.conf;
        steps = d + r.steps;
        comes = comes_on w c c1 r.conf d r.steps h r.comes;
        at = r.at;
        stands = r.stands;
        spares = spares_on w spot.slot c c1 r.conf sp r.spares;
        went = r.went;
        continued = r.continued ∙ ap (λ z. union z ct) (ma spot.continued m.low_continued ck);
        returned = r.returned ∙ ap (λ z. union z rt) (ma spot.returned m.low_returned rk);
        masks = λ i lt x y z. r.masks i lt x y z ∙ ma i lt x;
        bound = omega (arith, r.bound);
      }
  stmt_after t c c1 d pc spot q (Trapped p s) h sp ma m r = failed_after w ready c c1 d q p s h r
  stmt_after t c c1 d pc spot q (Cut s) h sp ma m r = stopped_after w ready t c c1 d q s h r

  -- ---- what follows; d steps are set aside for it

  pub stmt_less : (t : ℕ) (c : Conf) (pc pc' : ℕ) (spot : Spot) (d q : ℕ) (v : Res) → pc ≡ pc' → StmtRuns w t c pc spot (d + q) v → StmtRuns w t c pc' spot q v
  stmt_less t c pc pc' spot d q (Went s g b ct rt) e r = record {
    conf = r.conf;
    steps = r.steps;
    comes = r.comes;
    at = at_to w r.conf pc pc' r.at e;
    stands = r.stands;
    spares = r.spares;
    went = r.went;
    continued = r.continued;
    returned = r.returned;
    masks = r.masks;
    bound = omega (arith, r.bound);
  }
  stmt_less t c pc pc' spot d q (Trapped p s) e r = failed_less w ready c d q p s r
  stmt_less t c pc pc' spot d q (Cut s) e r = stopped_less w ready t c d q s r

  -- a value, and what follows it
  pub with_runs : {A : Type 0} (c : Conf) (pc n d q : ℕ) (P : A → Conf → Type 0) (v : Val A) (go : A → State → Res) (pc' : ℕ) (spot : Spot)
      → Runs w c pc n (d + q) P v → ((x : A) (s : State) → Ok w c pc n (d + q) (P x) s → StmtRuns w w.turns c pc' spot q (go x s))
      → StmtRuns w w.turns c pc' spot q (with_value v go)
  with_runs c pc n d q P (Gives x s) go pc' spot r f = f x s r
  with_runs c pc n d q P (Fails p s) go pc' spot r f = failed_less w ready c d q p s r
  with_runs c pc n d q P (Stops s) go pc' spot r f = stopped_less w ready w.turns c d q s r

  -- a statement, and what follows it
  pub go_runs : (t : ℕ) (c : Conf) (pc : ℕ) (spot : Spot) (d q : ℕ) (v : Res) (go : State → Mask → Mask → Mask → Mask → Res) (pc' : ℕ) (spot' : Spot)
      → StmtRuns w t c pc spot (d + q) v → ((s : State) (g b ct rt : Mask) → v ≡ Went s g b ct rt → StmtOk w c pc spot (d + q) s g ct rt
      → StmtRuns w t c pc' spot' q (go s g b ct rt)) → StmtRuns w t c pc' spot' q (go_on v go)
  go_runs t c pc spot d q (Went s g b ct rt) go pc' spot' r f = f s g b ct rt refl r
  go_runs t c pc spot d q (Trapped p s) go pc' spot' r f = failed_less w ready c d q p s r
  go_runs t c pc spot d q (Cut s) go pc' spot' r f = stopped_less w ready t c d q s r

  -- ---- all go on

  pub plain_ok : (c c1 : Conf) (d pc : ℕ) (spot : Spot) (q : ℕ) (a : Mask) (s : State) → Comes w c d c1 → At w c1 pc → Stands w s c1
      → Spares w spot.slot c c1 → ((r : ℕ) → r < spot.slot → c1.masks r ≡ c.masks r) → AreThree spot → c.masks spot.on ≡ a → d + q ≤ 32 * s.work
      → StmtOk w c pc spot q s a nobody nobody
  plain_ok c c1 d pc spot q a s h at st sp ma m em le = record {
    conf = c1;
    steps = d;
    comes = h;
    at = at;
    stands = st;
    spares = sp;
    went = ma spot.on m.low_on ∙ em;
    continued = ma spot.continued m.low_continued ∙ sym (union_nobody (c.masks spot.continued));
    returned = ma spot.returned m.low_returned ∙ sym (union_nobody (c.masks spot.returned));
    masks = λ r lt x y z. ma r lt;
    bound = le;
  }

  pub all_runs : (c : Conf) (pc : ℕ) (spot : Spot) (q : ℕ) (a : Mask) (v : Val Done) → AreThree spot → c.masks spot.on ≡ a → DoneRuns w c pc spot.slot q v → StmtRuns w w.turns c pc spot q (all_go a v)
  all_runs c pc spot q a (Gives x s) m em r = plain_ok c r.conf r.steps pc spot q a s r.comes r.at r.stands r.spares r.masks m em r.bound
  all_runs c pc spot q a (Fails p s) m em r = r
  all_runs c pc spot q a (Stops s) m em r = r

  -- ---- a jump after what is done

  pub jump_after : (t : ℕ) (c : Conf) (pc to : ℕ) (spot : Spot) (q : ℕ) (v : Res) → slice_get w.routine.code pc ≡ Some (instr.Jump to) → StmtRuns w t c pc spot (1 + q) v → StmtRuns w t c to spot q v
  jump_after t c pc to spot q (Went s g b ct rt) has r =
      let c2 = r.conf in
      let c3 : Conf = record c2 { pc = to } in
      record {
        conf = c3;
        steps = r.steps + 1;
        comes = comes_on w c c2 c3 r.steps 1 r.comes (step_go w c2 pc (instr.Jump to) c3 ready r.at has refl);
        at = record { home_is = r.at.home_is; waiting_is = r.at.waiting_is; pc_is = refl };
        stands = r.stands;
        spares = r.spares;
        went = r.went;
        continued = r.continued;
        returned = r.returned;
        masks = r.masks;
        bound = omega (arith, r.bound);
      }
  jump_after t c pc to spot q (Trapped p s) has r = failed_less w ready c 1 q p s r
  jump_after t c pc to spot q (Cut s) has r = stopped_less w ready t c 1 q s r

  -- ---- code that is jumped over where its set is empty

  pub guard_runs : (t pc : ℕ) (spot : Spot) (q : ℕ) (a : Mask) (s : State) (c : Conf) (body : ℕ → List Instr) (v : Mask → State → Res) → At w c pc
      → c.masks spot.on ≡ a → Inside w a → Stands w s c → 1 + q ≤ 32 * s.work → AreThree spot
      → AreAt w.routine.code pc (guard (jump_off spot.on) pc body)
      → ((c1 : Conf) (z : ℕ) → EntersAt w (pc + 1) spot a s c1 z → StmtRuns w t c1 (pc + 1 + length (body (pc + 1))) spot z (v a s))
      → StmtRuns w t c (pc + length (guard (jump_off spot.on) pc body)) spot q (unless_empty (gang_of w) a s v)
  guard_runs t pc spot q a s c body v at em inside st le m has rb =
      stmt_after t c c4 1 end spot q _ (jump_comes w ready c pc jump.Off (mask_register spot.on) to at has.0) (spares_all w spot.slot c) (λ r h ne. refl) m (go (any (gang_of w) a) refl)
    where
      to : ℕ
      to = pc + 1 + length (body (pc + 1))

      end : ℕ
      end = pc + length (guard (jump_off spot.on) pc body)

      ends : to ≡ end
      ends = omega arith

      c4 : Conf
      c4 = jumped w ready c jump.Off (mask_register spot.on) to

      off_is : (b : Bool) → any (gang_of w) a ≡ b → jumps w.code w.routine c jump.Off (mask_register spot.on) ≡ not b
      off_is b e = ap (λ z. not (any (gang_of w) z)) em ∙ ap not e

      go : (b : Bool) → any (gang_of w) a ≡ b → StmtRuns w t c4 end spot (1 + q) (if_so b (v a) (went_all a) s)
      go true e = subst (λ z. StmtRuns w t c4 z spot (1 + q) (v a s)) ends
          (rb c4 (1 + q) (record {
            at = jump_at w ready c pc jump.Off (mask_register spot.on) to false at (off_is true e);
            mask = em;
            some = e;
            inside
                = inside;
            stands = st;
            used = le;
            low = m.low_on;
          }))
      go false e = plain_ok c4 c4 0 end spot (1 + q) a s (comes_none w c4) (at_to w c4 to end (jump_at w ready c pc jump.Off (mask_register spot.on) to true at (off_is false e)) ends) st (spares_all w spot.slot c4) (λ r h. refl) m em (omega arith)
