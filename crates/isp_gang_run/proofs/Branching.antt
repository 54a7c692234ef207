-- What `if` leaves to be done.
use Rattle.std.proofs.Common.{◌≡◌, ◌≢◌, refl, sym, ap, ap₂, subst, ◌∙◌, ℕ, List, [], ◌∷◌, ◌++◌, Bor, Box, Global, Bool, true, false, not, Option, Some, None}
use Rattle.std.specs.Prelude.{option_map}
use Rattle.isp_base.specs.Sets.{Mask, any, flag_of, union, without}
use Rattle.isp_base.specs.Maps.{where_true}
use Rattle.isp_base.specs.Types.{gang_width}
use Rattle.isp_typed.specs.declared.stmt.TypedStmt.{TypedStmt}
use Rattle.isp_typed.specs.Views.{stmt_of, program_of}
use Rattle.isp_meaning.specs.State.{State, Frame}
use Rattle.isp_meaning.specs.Statements.{branches}
use Rattle.std.proofs.Common.{ne_eqb}
use Rattle.isp_meaning.specs.Payloads.{Payload, One, is_true}
use Rattle.isp_meaning.specs.Outcomes as Outcomes
use Rattle.isp_meaning.specs.Outcomes.{Res, Went, went_all, both_sides, if_so, unless_empty}
use Rattle.isp_gang_values.specs.Seen.{map_of, payload_of}
use Rattle.isp_gang_values.specs.declared.computed.Computed.TheVariants as computed
use Rattle.isp_gang_run.specs.Seen.{state_seen}
use Rattle.isp_gang_run.specs.Tasks.{Store, Parts, Goes, go, ran, does, rest, Comes, store_seen, parts_seen, all_parts, left_as, runs, runs_then, perhaps_run, run_in}
use Rattle.isp_gang_run.specs.declared.state.Evaluator.{Evaluator}
use Rattle.isp_gang_run.specs.declared.state.Sets.{Sets}
use Rattle.isp_gang_run.specs.declared.tasks.Branches.{Branches}
use Rattle.isp_gang_run.specs.declared.tasks.Task.{Task}
use Rattle.isp_gang_run.specs.declared.tasks.Task.TheVariants as task
use Rattle.isp_gang_run.proofs.Counts.{work_of, counts_same}
use Rattle.isp_gang_run.proofs.Steps.{Later, go_assoc, later_rest, later_store, later_work}
use Rattle.isp_gang_run.proofs.Runs.{reran}

module _ (old new : Evaluator) where
  -- what is done with the registers as they are
  pub comes_same : (f g : Store → Goes) → ((w : ℕ) → f (store_seen old w) ≡ g (store_seen old w)) → Comes old new g → Comes old new f
  comes_same f g e c = record { by = λ w. ((c.by w).0, ap (λ x. go x (rest old)) (e w) ∙ (c.by w).1); counts = c.counts }

  -- a statement has left its members
  pub leaves : (f : Store → Goes) (sets : Sets) (p : Parts) → new ≡ record old { value = computed.One 0; sets = sets } → parts_seen sets ≡ p → ((w : ℕ) → f (store_seen old w) ≡ ran (store_seen old w) (left_as p (state_seen old w))) → Comes old new f
  leaves f sets p same e is =
      record {
        by = λ w. (
          w,
          ap (λ x. go x (rest old)) (is w)
              ∙ ap (λ q. rest old (record (store_seen old w) { value = One 0; parts = q })) (sym e)
              ∙ sym (ap (λ (x : Evaluator). rest x (store_seen x w)) same),
        );
        counts = λ w k. counts_same old new w (ap work_of same) k;
      }

  pub all_go_on : (set : List Bool) (sets : Sets) (x : Option (Bor TypedStmt)) → x ≡ None → parts_seen sets ≡ all_parts (flag_of set) → new ≡ record old { value = computed.One 0; sets = sets } → Comes old new (runs old x (flag_of set))
  all_go_on set sets x none e same = subst (λ y. Comes old new (runs old y (flag_of set))) (sym none) (leaves (runs old None (flag_of set)) sets (all_parts (flag_of set)) same e (λ w. refl))

  -- a task is left to be done
  pub pushes : (t : Task) → new.tasks.items ≡ old.tasks.items ++ t ∷ [] → new ≡ record old { tasks = new.tasks } → Comes old new (does old t)
  pushes t i s =
      let l : Later old new t = record { items = i; same = s } in
      record { by = λ w. (w, sym (ap₂ (λ (f : Store → Goes) (r : Store). f r) (later_rest old new t l) (later_store old new t l w))); counts = λ w k. counts_same old new w (later_work old new t l) k }

  pub run_comes : (y : Bor TypedStmt) (set : List Bool) (x : Option (Bor TypedStmt)) → x ≡ Some y → new.tasks.items ≡ old.tasks.items ++ task.Run y set ∷ [] → new ≡ record old { tasks = new.tasks } → Comes old new (runs old x (flag_of set))
  run_comes y set x some i s = subst (λ z. Comes old new (runs old z (flag_of set))) (sym some) (pushes (task.Run y set) i s)

module _ (old mid new : Evaluator) where
  -- a task is done after what comes
  pub comes_then : (t : Task) (f : Evaluator → Store → Goes) → mid.tasks.items ≡ old.tasks.items ++ t ∷ [] → mid ≡ record old { tasks = mid.tasks } → f mid ≡ f old → Comes mid new (f mid) → Comes old new (λ r. go (f old r) (does old t))
  comes_then t f i s e c =
      let l : Later old mid t = record { items = i; same = s } in
      record {
        by = λ w. (
          (c.by w).0,
          go_assoc (f old (store_seen old w)) (does old t) (rest old)
              ∙ sym (ap₂ (λ (h : Store → Goes) (r : Store). go (h r) (λ q. go (does old t q) (rest old))) e (later_store old mid t l w))
              ∙ ap (λ (h : Store → Goes). go (f mid (store_seen mid w)) h) (sym (later_rest old mid t l))
              ∙ (c.by w).1,
        );
        counts = λ w k. c.counts w (counts_same old mid w (later_work old mid t l) k);
      }

  pub some_then : (x : Option (Bor TypedStmt)) (set : List Bool) (t : Task) → any (gang_width old.program.now.gang) (flag_of set) ≡ true → mid.tasks.items ≡ old.tasks.items ++ t ∷ [] → mid ≡ record old { tasks = mid.tasks }
      → Comes mid new (runs mid x (flag_of set)) → Comes old new (runs_then old x (flag_of set) t)
  some_then x set t is i s c =
      comes_same old new (runs_then old x (flag_of set) t) (λ r. go (runs old x (flag_of set) r) (does old t))
      (λ w. ap (λ b. go (ran (store_seen old w) (if_so b
      (perhaps_run (program_of old.program.now) old.turns (store_seen old w).frame (store_seen old w).left (option_map (λ y. stmt_of y.now) x)
      (flag_of set)) (went_all (flag_of set)) (state_seen old w))) (does old t)) is)
      (comes_then t (λ e. runs e x (flag_of set)) i s (ap (λ e. runs e x (flag_of set)) s) c)

  pub none_then : (x : Option (Bor TypedStmt)) (set : List Bool) (sets : Sets) (t : Task) → any (gang_width old.program.now.gang) (flag_of set) ≡ false → mid.tasks.items ≡ old.tasks.items ++ t ∷ [] → mid ≡ record old { tasks = mid.tasks }
      → parts_seen sets ≡ all_parts (flag_of set) → new ≡ record mid { value = computed.One 0; sets = sets } → Comes old new (runs_then old x (flag_of set) t)
  none_then x set sets t isnt i s e same =
      comes_same old new (runs_then old x (flag_of set) t) (λ r. go (runs old None (flag_of set) r) (does old t))
      (λ w. ap (λ b. go (ran (store_seen old w) (if_so b
      (perhaps_run (program_of old.program.now) old.turns (store_seen old w).frame (store_seen old w).left (option_map (λ y. stmt_of y.now) x)
      (flag_of set)) (went_all (flag_of set)) (state_seen old w))) (does old t)) isnt)
      (comes_then t (λ e. runs e None (flag_of set)) i s (ap (λ e. runs e None (flag_of set)) s) (all_go_on mid new set sets None refl e same))

-- ---- both branches

pub parts_are : (sets : Sets) (g b c q : Mask) → flag_of sets.went ≡ g → flag_of sets.exits.broke ≡ b → flag_of sets.exits.continued ≡ c → flag_of sets.exits.returned ≡ q → parts_seen sets ≡ record { went = g; broke = b; continued = c; returned = q }
parts_are sets g b c q eg eb ec eq =
    ap₂ (λ (x y : Mask). record { went = x; broke = y; continued = flag_of sets.exits.continued; returned = flag_of sets.exits.returned }) eg eb
    ∙ ap₂ (λ (x y : Mask). record { went = g; broke = b; continued = x; returned = y }) ec eq

second_law : (r : Store) (v : Res) (h : Frame → ℕ → State → Res) → ran r (both_sides v (h r.frame r.left)) ≡ go (ran r v) (λ q. ran q (both_sides (left_as q.parts q.state) (h q.frame q.left)))
second_law r (Went s g b c q) h =
    let p : Parts = record { went = g; broke = b; continued = c; returned = q } in
    sym (reran r s (One 0) p (both_sides (left_as p s) (h r.frame r.left)))
second_law r (Outcomes.Trapped t s) h = refl
second_law r (Outcomes.Cut s) h = refl

unite_law : (r : Store) (p : Parts) (v : Res) → ran r (both_sides (left_as p r.state) (λ s. v)) ≡ go (ran r v) (λ q. ran q (both_sides (left_as p q.state) (left_as q.parts)))
unite_law r p (Went s g b c q) = refl
unite_law r p (Outcomes.Trapped t s) = refl
unite_law r p (Outcomes.Cut s) = refl

module _ (old new : Evaluator) where
  pub united : (first sets : Sets) → flag_of sets.went ≡ union (flag_of first.went) (flag_of old.sets.went) → flag_of sets.exits.broke ≡ union (flag_of first.exits.broke) (flag_of old.sets.exits.broke)
      → flag_of sets.exits.continued ≡ union (flag_of first.exits.continued) (flag_of old.sets.exits.continued) → flag_of sets.exits.returned ≡ union (flag_of first.exits.returned) (flag_of old.sets.exits.returned)
      → new ≡ record old { value = computed.One 0; sets = sets } → Comes old new (does old (task.Unite first))
  united first sets eg eb ec eq same = leaves old new (does old (task.Unite first)) sets _ same (parts_are sets _ _ _ _ eg eb ec eq) (λ w. refl)

  pub second_branch : (b : Box Branches Global) → Comes old new (runs_then old b.value.otherwise (flag_of b.value.set) (task.Unite old.sets)) → Comes old new (does old (task.Second b))
  second_branch b c =
      comes_same old new (does old (task.Second b)) (runs_then old b.value.otherwise (flag_of b.value.set) (task.Unite old.sets))
      (λ w. unite_law (store_seen old w) (parts_seen old.sets)
      (unless_empty (gang_width old.program.now.gang) (flag_of b.value.set) (state_seen old w)
      (perhaps_run (program_of old.program.now) old.turns (store_seen old w).frame (store_seen old w).left
      (option_map (λ y. stmt_of y.now) b.value.otherwise)))) c

  -- a branch in the meaning's words
  abbrev chosen : (b : Box Branches Global) (w : ℕ) → Payload → Goes
  chosen b w m =
      ran (store_seen old w) (branches (gang_width old.program.now.gang) (flag_of b.value.set)
      (run_in (program_of old.program.now) old.turns (store_seen old w).frame (store_seen old w).left (stmt_of b.value.then.now))
      (perhaps_run (program_of old.program.now) old.turns (store_seen old w).frame (store_seen old w).left
      (option_map (λ y. stmt_of y.now) b.value.otherwise)) m (state_seen old w))

  pub true_branch : (b : Box Branches Global) (x y : Branches) (bits : ℕ) → x ≡ b.value → y ≡ b.value → old.value ≡ computed.One bits → bits ≢ 0 → Comes old new (runs old (Some y.then) (flag_of x.set)) → Comes old new (does old (task.Branch b))
  true_branch b x y bits ex ey is ne c =
      comes_same old new (does old (task.Branch b)) (runs old (Some b.value.then) (flag_of b.value.set))
      (λ w. ap (λ v. chosen b w (payload_of v)) is
      ∙ ap (λ t. ran (store_seen old w) (if_so (not t)
      (run_in (program_of old.program.now) old.turns (store_seen old w).frame (store_seen old w).left (stmt_of b.value.then.now)
      (flag_of b.value.set)) (perhaps_run (program_of old.program.now) old.turns (store_seen old w).frame (store_seen old w).left
      (option_map (λ y. stmt_of y.now) b.value.otherwise) (flag_of b.value.set)) (state_seen old w))) (ne_eqb bits 0 ne))
      (subst (λ (z : Branches). Comes old new (runs old (Some z.then) (flag_of b.value.set))) ey (subst (λ (z : Branches). Comes old new (runs old (Some y.then) (flag_of z.set))) ex c))

  pub false_branch : (b : Box Branches Global) (x y : Branches) (bits : ℕ) → x ≡ b.value → y ≡ b.value → old.value ≡ computed.One bits → bits ≡ 0 → Comes old new (runs old y.otherwise (flag_of x.set)) → Comes old new (does old (task.Branch b))
  false_branch b x y bits ex ey is zero c =
      comes_same old new (does old (task.Branch b)) (runs old b.value.otherwise (flag_of b.value.set))
      (λ w. ap (λ v. chosen b w (payload_of v)) (is ∙ ap computed.One zero))
      (subst (λ (z : Branches). Comes old new (runs old z.otherwise (flag_of b.value.set))) ey (subst (λ (z : Branches). Comes old new (runs old y.otherwise (flag_of z.set))) ex c))

  pub first_branch : (b b' : Box Branches Global) (x y : Branches) (row : List (Option ℕ)) (kept : List Bool) → x ≡ b.value → y ≡ b.value
      → old.value ≡ computed.Each row → flag_of kept ≡ where_true is_true (map_of row) → b'.value.otherwise ≡ b.value.otherwise
      → flag_of b'.value.set ≡ without (flag_of x.set) (flag_of kept) → Comes old new (runs_then old (Some y.then) (flag_of kept) (task.Second b')) → Comes old new (does old (task.Branch b))
  first_branch b b' x y row kept ex ey is k other others c =
      comes_same old new (does old (task.Branch b)) (runs_then old (Some b.value.then) (flag_of kept) (task.Second b'))
      (λ w.
      let r = store_seen old w in
      let f = run_in (program_of old.program.now) old.turns r.frame r.left (stmt_of b.value.then.now) in
      ap (λ v. chosen b w (payload_of v)) is
      ∙ ap (λ (a : Mask). ran r (both_sides (unless_empty (gang_width old.program.now.gang) a r.state f)
      (λ s1. unless_empty (gang_width old.program.now.gang) (without (flag_of b.value.set) a) s1
      (perhaps_run (program_of old.program.now) old.turns r.frame r.left (option_map (λ y. stmt_of y.now) b.value.otherwise))))) (sym k)
      ∙ second_law r (unless_empty (gang_width old.program.now.gang) (flag_of kept) r.state f)
      (λ fr l s1. unless_empty (gang_width old.program.now.gang) (without (flag_of b.value.set) (flag_of kept)) s1
      (perhaps_run (program_of old.program.now) old.turns fr l (option_map (λ y. stmt_of y.now) b.value.otherwise)))
      ∙ ap₂ (λ (o : Option (Bor TypedStmt)) (a : Mask). go (ran r (unless_empty (gang_width old.program.now.gang) (flag_of kept) r.state f))
      (λ q. ran q (both_sides (left_as q.parts q.state)
      (λ s1. unless_empty (gang_width old.program.now.gang) a s1
      (perhaps_run (program_of old.program.now) old.turns q.frame q.left (option_map (λ y. stmt_of y.now) o)))))) (sym other)
      (ap (λ (z : Branches). without (flag_of z.set) (flag_of kept)) (sym ex) ∙ sym others))
      (subst (λ (z : Branches). Comes old new (runs_then old (Some z.then) (flag_of kept) (task.Second b'))) ey c)
