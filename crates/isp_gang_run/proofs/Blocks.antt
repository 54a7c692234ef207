-- What blocks leave to be done.
use Rattle.std.proofs.Common.{◌-◌, take, drop, get_or, ◌≡◌, refl, sym, ap, ap₂, subst, ◌∙◌, ℕ, List, [], ◌∷◌, Bor, Box, Global, Bool, true, false, ◌+◌, ◌<◌, arith, length}
use Rattle.std.proofs.lemmas.List.{take_all}
use Rattle.isp_base.specs.Sets.{Mask, any, flag_of, nobody, union}
use Rattle.isp_base.specs.Types.{gang_width}
use Rattle.isp_typed.specs.declared.stmt.TypedStmt.{TypedStmt}
use Rattle.isp_typed.specs.declared.stmt.TypedBlock.{TypedBlock}
use Rattle.isp_typed.specs.declared.stmt.TypedStmt.TheFolds.{fold_out-TypedBlock}
use Rattle.isp_typed.specs.Typed.{TStmt, TBlock, t_braces, t_stmts}
use Rattle.isp_typed.specs.Views.{stmt_of, stmts_of, stmt_step, block_step, block_of, program_of}
use Rattle.isp_meaning.specs.State.{State, Frame}
use Rattle.isp_meaning.specs.Payloads.{One}
use Rattle.isp_meaning.specs.Outcomes as Outcomes
use Rattle.isp_meaning.specs.Outcomes.{Res, Went, go_on, went_all, then_run, if_so, unless_empty}
use Rattle.isp_gang_values.specs.declared.computed.Computed.TheVariants as computed
use Rattle.isp_gang_run.specs.Seen.{state_seen}
use Rattle.isp_gang_run.specs.Tasks.{Store, Parts, Goes, First, go, ran, does, rest, Comes, store_seen, parts_seen, left_as, left_too, blocks, runs_all, all_in, run_in}
use Rattle.isp_gang_run.specs.declared.counting.Work.{Work}
use Rattle.isp_gang_run.specs.declared.state.Evaluator.{Evaluator}
use Rattle.isp_gang_run.specs.declared.state.Exits.{Exits}
use Rattle.isp_gang_run.specs.declared.state.Sets.{Sets}
use Rattle.isp_gang_run.specs.declared.tasks.Statements.{Statements}
use Rattle.isp_gang_run.specs.declared.tasks.Task.TheVariants as task
use Rattle.isp_gang_run.proofs.Counts.{Adds, counts_same, counts_more}
use Rattle.isp_gang_run.proofs.Steps.{go_assoc}
use Rattle.isp_gang_run.proofs.Runs.{reran, union_nobody, union_assoc}
use Rattle.isp_gang_run.proofs.Branching.{comes_same, leaves}

-- ---- those that left before, and those that left since

pub record Both (e d f : Exits) : Type 0 where
  pub broke : flag_of f.broke ≡ union (flag_of e.broke) (flag_of d.broke)
  pub continued : flag_of f.continued ≡ union (flag_of e.continued) (flag_of d.continued)
  pub returned : flag_of f.returned ≡ union (flag_of e.returned) (flag_of d.returned)

went_same : (s : State) (g b b' c c' q q' : Mask) → b ≡ b' → c ≡ c' → q ≡ q' → Went s g b c q ≡ Went s g b' c' q'
went_same s g b b' c c' q q' eb ec eq = ap₂ (λ (x y : Mask). Went s g x y q) eb ec ∙ ap (λ (x : Mask). Went s g b' c' x) eq

one_more : (x e d f m : Mask) → f ≡ union e d → union e (union d m) ≡ union f m
one_more x e d f m is = union_assoc e d m ∙ ap (λ (z : Mask). union z m) (sym is)

pub both_left : (e d f : Exits) → Both e d f → (v : Res) → go_on (go_on v (left_too d)) (left_too e) ≡ go_on v (left_too f)
both_left e d f h (Went s g b c q) =
    went_same s g _ _ _ _ _ _ (one_more b (flag_of e.broke) (flag_of d.broke) (flag_of f.broke) b h.broke)
    (one_more c (flag_of e.continued) (flag_of d.continued) (flag_of f.continued) c h.continued)
    (one_more q (flag_of e.returned) (flag_of d.returned) (flag_of f.returned) q h.returned)
both_left e d f h (Outcomes.Trapped t s) = refl
both_left e d f h (Outcomes.Cut s) = refl

pub nobody_left : (e : Exits) → flag_of e.broke ≡ nobody → flag_of e.continued ≡ nobody → flag_of e.returned ≡ nobody → (v : Res) → go_on v (left_too e) ≡ v
nobody_left e eb ec eq (Went s g b c q) =
    went_same s g _ _ _ _ _ _ (ap (λ (x : Mask). union x b) eb) (ap (λ (x : Mask). union x c) ec) (ap (λ (x : Mask). union x q) eq)
nobody_left e eb ec eq (Outcomes.Trapped t s) = refl
nobody_left e eb ec eq (Outcomes.Cut s) = refl

pub all_and_left : (e : Exits) (a : Mask) (s : State) → go_on (went_all a s) (left_too e) ≡ Went s a (flag_of e.broke) (flag_of e.continued) (flag_of e.returned)
all_and_left e a s = went_same s a _ _ _ _ _ _ (union_nobody (flag_of e.broke)) (union_nobody (flag_of e.continued)) (union_nobody (flag_of e.returned))

-- a statement, and then the others
pub next_law : (r : Store) (e : Exits) (v : Res) (h : Frame → ℕ → Mask → State → Res)
    → ran r (go_on (then_run v (h r.frame r.left)) (left_too e)) ≡ go (ran r v) (λ q. ran q (go_on (then_run (left_as q.parts q.state) (h q.frame q.left)) (left_too e)))
next_law r e (Went s g b c q) h =
    let p : Parts = record { went = g; broke = b; continued = c; returned = q } in
    sym (reran r s (One 0) p (go_on (then_run (left_as p s) (h r.frame r.left)) (left_too e)))
next_law r e (Outcomes.Trapped t s) h = refl
next_law r e (Outcomes.Cut s) h = refl

module _ (old new : Evaluator) where
  -- nothing is left of a block
  pub block_ends : (xs : List TypedStmt) (before : Exits) (set : List Bool) (sets : Sets) → xs ≡ [] → sets ≡ record { went = set; exits = before }
      → new ≡ record old { value = computed.One 0; sets = sets } → Comes old new (runs_all old xs before (flag_of set))
  block_ends xs before set sets none is same =
      subst (λ (ys : List TypedStmt). Comes old new (runs_all old ys before (flag_of set))) (sym none)
      (leaves old new (runs_all old [] before (flag_of set)) sets (parts_seen (record { went = set; exits = before })) same (ap parts_seen is) (λ w. ap (ran (store_seen old w)) (all_and_left before (flag_of set) (state_seen old w))))

  -- the next statement, and then the others
  pub block_goes : (xs ys : List TypedStmt) (x : Bor TypedStmt) (b : Box Statements Global) (before : Exits) (set : List Bool) → xs ≡ x.now ∷ ys
      → b.value.rest.now ≡ ys → b.value.before ≡ before → First old new (task.Run x set) (task.Statements b)
      → Comes old new (runs_all old xs before (flag_of set))
  block_goes xs ys x b before set is others sofar f =
      subst (λ (zs : List TypedStmt). Comes old new (runs_all old zs before (flag_of set))) (sym is)
      (subst (λ (e : Exits). Comes old new (runs_all old (x.now ∷ ys) e (flag_of set))) sofar
      (subst (λ (zs : List TypedStmt). Comes old new (runs_all old (x.now ∷ zs) b.value.before (flag_of set))) others
      (record {
        by = λ w. (
          w,
          ap (λ g. go g (rest old)) (next_law (store_seen old w) b.value.before
              (run_in (program_of old.program.now) old.turns (store_seen old w).frame (store_seen old w).left (stmt_of x.now) (flag_of set)
              (state_seen old w)) (λ fr l g s. unless_empty (gang_width old.program.now.gang) g s
              (all_in (program_of old.program.now) old.turns fr l (stmts_of b.value.rest.now))))
              ∙ go_twice (ran (store_seen old w) (run_in (program_of old.program.now) old.turns (store_seen old w).frame (store_seen old w).left (stmt_of x.now) (flag_of set) (state_seen old w))) (does old (task.Statements b)) (rest old)
              ∙ sym (f.by w),
        );
        counts = λ w k. counts_same old new w f.work k;
      })))
    where
      go_twice : (g : Goes) (h k : Store → Goes) → go (go g h) k ≡ go g (λ r. go (h r) k)
      go_twice = go_assoc

  -- a statement was run: the others run over those that went on
  pub others_run : (b : Box Statements Global) (x y : Statements) (e : Exits) → x ≡ b.value → y ≡ b.value → any (gang_width old.program.now.gang) (flag_of old.sets.went) ≡ true → Both x.before old.sets.exits e
      → Comes old new (runs_all old y.rest.now e (flag_of old.sets.went)) → Comes old new (does old (task.Statements b))
  others_run b x y e ex ey some both c =
      comes_same old new (does old (task.Statements b)) (runs_all old b.value.rest.now e (flag_of old.sets.went))
      (λ w.
      let r = store_seen old w in
      let f = all_in (program_of old.program.now) old.turns r.frame r.left (stmts_of b.value.rest.now) in
      ap (λ t. ran r (go_on (go_on (if_so t (f (flag_of old.sets.went)) (went_all (flag_of old.sets.went)) r.state) (left_too old.sets.exits)) (left_too b.value.before))) some
      ∙ ap (ran r) (both_left b.value.before old.sets.exits e (subst (λ (z : Statements). Both z.before old.sets.exits e) ex both) (f (flag_of old.sets.went) r.state)))
      (subst (λ (z : Statements). Comes old new (runs_all old z.rest.now e (flag_of old.sets.went))) ey c)

  pub nobody_went_on : (b : Box Statements Global) (x : Statements) (sets : Sets) (e : Exits) → x ≡ b.value
      → any (gang_width old.program.now.gang) (flag_of old.sets.went) ≡ false → Both x.before old.sets.exits e
      → sets ≡ record { went = old.sets.went; exits = e }
      → new ≡ record old { value = computed.One 0; sets = sets } → Comes old new (does old (task.Statements b))
  nobody_went_on b x sets e ex none both is same =
      leaves old new (does old (task.Statements b)) sets (parts_seen (record { went = old.sets.went; exits = e })) same (ap parts_seen is)
      (λ w.
      let r = store_seen old w in
      let f = all_in (program_of old.program.now) old.turns r.frame r.left (stmts_of b.value.rest.now) in
      ap (λ t. ran r (go_on (go_on (if_so t (f (flag_of old.sets.went)) (went_all (flag_of old.sets.went)) r.state) (left_too old.sets.exits)) (left_too b.value.before))) none
      ∙ ap (ran r) (both_left b.value.before old.sets.exits e (subst (λ (z : Statements). Both z.before old.sets.exits e) ex both) (went_all (flag_of old.sets.went) r.state) ∙ all_and_left e (flag_of old.sets.went) r.state))

pub block_view : (b : TypedBlock) → block_of b ≡ t_braces (t_stmts (stmts_of b.statements.items)) b.span
block_view b = fold_out-TypedBlock TStmt TBlock stmt_step block_step b

pub block_comes : (old new : Evaluator) (work : Work) (one : Adds old work 1) (b : Bor TypedBlock) (set : List Bool) (xs : List TypedStmt) (e : Exits)
    → xs ≡ b.now.statements.items → flag_of e.broke ≡ nobody → flag_of e.continued ≡ nobody → flag_of e.returned ≡ nobody
    → Comes (record old { work = work }) new (runs_all old xs e (flag_of set)) → Comes old new (blocks old (block_of b.now) (flag_of set))
block_comes old new work one b set xs e all eb ec eq c =
    record {
      by = λ w.
          let r = store_seen old w in
          let f = all_in (program_of old.program.now) old.turns r.frame r.left (stmts_of b.now.statements.items) (flag_of set) in (
            (c.by (w + 1)).0,
            ap (λ (y : TBlock). go (blocks old y (flag_of set) r) (rest old)) (block_view b.now)
                ∙ ap (λ v. go (ran r v) (rest old)) (sym (nobody_left e eb ec eq (f (state_seen old (w + 1)))))
                ∙ ap (λ g. go g (rest old)) (sym (reran r (state_seen old (w + 1)) r.value r.parts (go_on (f (state_seen old (w + 1))) (left_too e))))
                ∙ ap (λ (ys : List TypedStmt). go (runs_all old ys e (flag_of set) (store_seen old (w + 1))) (rest old)) (sym all)
                ∙ (c.by (w + 1)).1,
          );
      counts = λ w k. c.counts (w + 1) (counts_more old work 1 w one k);
    }

pub none_left : (xs : List TypedStmt) → length xs < 1 → xs ≡ []
none_left [] h = refl
none_left (x ∷ xs) h = absurd (omega (arith, h))

pub headed : {A : Type 0} (xs : List A) (d : A) → 0 < length xs → d ≡ get_or xs 0 d → xs ≡ d ∷ take (length xs - 1) (drop 1 xs)
headed [] d h e = absurd (omega (arith, h))
headed (x ∷ xs) d h e = ap₂ (λ y ys. y ∷ ys) (sym e) (sym (take_all (length (x ∷ xs) - 1) xs (omega arith)))
