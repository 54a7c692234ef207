-- What each kind of statement leaves to be done.
use Rattle.std.proofs.Common.{◌≡◌, refl, sym, ap, ap₂, subst, ◌∙◌, ℕ, ◌+◌, List, [], ◌∷◌, ◌++◌, map, Bor, Box, Global, Vec, Bool, Option, Some, None, Result, Ok, Err, OnOk, IfErr}
use Rattle.std.specs.Prelude.{option_map, option_copied}
use Rattle.isp_base.specs.Sets.{Mask, everyone, flag_of, nobody}
use Rattle.isp_base.specs.Maps.{lane_of, over}
use Rattle.isp_base.specs.Traps.{trap}
use Rattle.isp_base.specs.Types.{gang_width}
use Rattle.isp_base.specs.declared.trap.TrapKind.TheVariants.{Assert}
use Rattle.isp_base.specs.declared.types.Rate.TheVariants.{Uniform, Varying}
use Rattle.isp_base.specs.declared.types.Span.{Span}
use Rattle.isp_base.specs.declared.types.Ty.{Ty}
use Rattle.isp_tree.specs.declared.stmt.Jump.{Jump}
use Rattle.isp_typed.specs.declared.expr.TypedExpr.{TypedExpr}
use Rattle.isp_typed.specs.declared.stmt.TypedFirst.{TypedFirst}
use Rattle.isp_typed.specs.declared.stmt.TypedFirst.TheVariants as first
use Rattle.isp_typed.specs.declared.stmt.TypedItem.{TypedItem}
use Rattle.isp_typed.specs.declared.stmt.TypedSimple.{TypedSimple}
use Rattle.isp_typed.specs.declared.stmt.TypedStmt.{TypedStmt}
use Rattle.isp_typed.specs.declared.stmt.TypedBlock.{TypedBlock}
use Rattle.isp_typed.specs.Typed.{TStmt, t_exprs, t_return}
use Rattle.isp_typed.specs.Views.{block_of, expr_of, exprs_of, first_of, items_of, simple_of, stmt_of, program_of}
use Rattle.isp_meaning.specs.State.{State, Frame, tick}
use Rattle.isp_meaning.specs.Payloads.{Payload, One, is_false, offender, sole, spread}
use Rattle.isp_meaning.specs.Outcomes.{Val, Gives, Fails, Stops, Res, Went, Done, go_on, went_all, with_value, checked}
use Rattle.isp_meaning.specs.Expressions.{values}
use Rattle.isp_meaning.specs.Simple.{simple, items, first_part}
use Rattle.isp_base.specs.Prints.{print_text}
use Rattle.isp_meaning.specs.Printing.{shown_all}
use Rattle.isp_meaning.specs.Statements.{branches, all_go, answered, answered_at, jumped}
use Rattle.isp_meaning.specs.Calls.{calls_at}
use Rattle.isp_gang_values.specs.Seen.{payload_of}
use Rattle.isp_gang_values.specs.declared.computed.Computed.{Computed}
use Rattle.isp_gang_values.specs.declared.computed.Computed.TheVariants as computed
use Rattle.isp_gang_run.specs.Seen.{frame_seen, state_seen, answer_in}
use Rattle.isp_gang_run.specs.Tasks.{Store, Parts, Goes, On, Trapped, First, Changes, Halts, refused, trapped, cut, go, given, ran, done, does, rest, Comes, store_seen, parts_seen, all_parts}
use Rattle.isp_gang_run.specs.Tasks.{left_as, value_at, calls_in, block_at, blocks, run_in, perhaps_run, tested_in, turns_in, tests_on, turns_on, go_with, gather}
use Rattle.isp_gang_run.specs.Arms.{declares_all, all_does, chooses, unmasks, jumps, gives, claims, looping, first_in, firsts, enters, enters_by_turn, shows, prints, prints_all}
use Rattle.isp_gang_run.specs.declared.loops.Turning.{Turning}
use Rattle.isp_gang_run.specs.declared.counting.Work.{Work}
use Rattle.isp_gang_run.specs.declared.state.Evaluator.{Evaluator}
use Rattle.isp_gang_run.specs.declared.state.Sets.{Sets}
use Rattle.isp_gang_run.specs.declared.state.Stop.{Stop}
use Rattle.isp_gang_run.specs.declared.state.Stop.TheVariants as stop
use Rattle.isp_gang_run.specs.declared.tasks.Branches.{Branches}
use Rattle.isp_gang_run.specs.declared.tasks.Gathering.TheVariants as gathering
use Rattle.isp_gang_run.specs.declared.tasks.Task.{Task}
use Rattle.isp_gang_run.specs.declared.tasks.Task.TheVariants as task
use Rattle.isp_gang_run.proofs.Counts.{Adds, work_of, counts_same, counts_more}
use Rattle.isp_gang_run.proofs.Steps.{go_assoc}
use Rattle.isp_gang_run.proofs.Runs.{reran, then_ran, value_ran, done_ran}
use Rattle.isp_gang_run.proofs.Branching.{comes_same, comes_then, leaves, pushes}
use Rattle.isp_gang_run.proofs.Changes.{changed_rest, changed_store}
use Rattle.isp_gang_run.proofs.Turns.{halts_same}

-- ---- a statement is what its view is

module _ (old new : Evaluator) (x : Bor TypedStmt) (set : List Bool) (t : TStmt) (f : Store → Goes) (is : stmt_of x.now ≡ t)
    (e : (w : ℕ) → ran (store_seen old w) (run_in (program_of old.program.now) old.turns (store_seen old w).frame (store_seen old w).left t (flag_of set) (state_seen old w)) ≡ f (store_seen old w)) where
  seen : (w : ℕ) → does old (task.Run x set) (store_seen old w) ≡ f (store_seen old w)
  seen w = ap (λ (y : TStmt). ran (store_seen old w) (run_in (program_of old.program.now) old.turns (store_seen old w).frame (store_seen old w).left y (flag_of set) (state_seen old w))) is ∙ e w

  pub arm : Comes old new f → Comes old new (does old (task.Run x set))
  arm c = comes_same old new (does old (task.Run x set)) f seen c

  pub arm_ok : (r : Result (Unit {0}) Stop) → OnOk r (Comes old new f) → OnOk r (Comes old new (does old (task.Run x set)))
  arm_ok (Ok a) c = arm c
  arm_ok (Err a) c = tt

  pub arm_err : (r : Result (Unit {0}) Stop) → IfErr r (Halts old new f) → IfErr r (Halts old new (does old (task.Run x set)))
  arm_err (Ok a) h = tt
  arm_err (Err a) h = halts_same old new (does old (task.Run x set)) f a seen h

pub memory_err : (old new : Evaluator) (f : Store → Goes) (r : Result (Unit {0}) Stop) → IfErr r (λ e. e ≡ stop.Memory) → IfErr r (Halts old new f)
memory_err old new f (Ok a) m = tt
memory_err old new f (Err e) m = refused m

-- ---- that much is counted, and then this comes

module _ (old new : Evaluator) (h : Frame → ℕ → State → Res) where
  ahead : (k w : ℕ) → ran (store_seen old w) (h (frame_seen old.here) old.left (state_seen old (w + k))) ≡ ran (store_seen old (w + k)) (h (frame_seen old.here) old.left (state_seen old (w + k)))
  ahead k w = sym (reran (store_seen old w) (state_seen old (w + k)) (store_seen old w).value (store_seen old w).parts (h (frame_seen old.here) old.left (state_seen old (w + k))))

  pub worked : (k : ℕ) (work : Work) → Adds old work k → Comes (record old { work = work }) new (λ r. ran r (h r.frame r.left r.state)) → Comes old new (λ r. ran r (h r.frame r.left (record r.state { work = r.state.work + k })))
  worked k work more c =
      record {
        by = λ w. ((c.by (w + k)).0, ap (λ g. go g (rest old)) (ahead k w) ∙ (c.by (w + k)).1);
        counts = λ w n. c.counts (w + k) (counts_more old work k w more n);
      }

  pub ticked : (work : Work) → Adds old work 1 → Comes (record old { work = work }) new (λ r. ran r (h r.frame r.left r.state)) → Comes old new (λ r. ran r (h r.frame r.left (tick r.state)))
  ticked work one c = worked 1 work one c

  pub ticked_halts : (work : Work) → Adds old work 1 → (e : Stop) → Halts (record old { work = work }) new (λ r. ran r (h r.frame r.left r.state)) e → Halts old new (λ r. ran r (h r.frame r.left (tick r.state))) e
  ticked_halts work one e (refused m) = refused m
  ticked_halts work one e (trapped x m g k) = trapped x m (λ w. ((g (w + 1)).0, ahead 1 w ∙ (g (w + 1)).1)) (λ w n. k (w + 1) (counts_more old work 1 w one n))
  ticked_halts work one e (cut m g k) = cut m (λ w. ((g (w + 1)).0, ahead 1 w ∙ (g (w + 1)).1)) (λ w n. k (w + 1) (counts_more old work 1 w one n))

-- ---- first a value, or a statement after which all go on, and then a task

module _ (old new : Evaluator) where
  pub value_first : (x : Bor TypedExpr) (set : List Bool) (t : Task) (f : Frame → ℕ → Payload → State → Res) → ((q : Store) → ran q (f q.frame q.left q.value q.state) ≡ does old t q)
      → First old new (task.Value x set) t → Comes old new (λ r. ran r (with_value (value_at (program_of old.program.now) old.turns r (expr_of x.now) (flag_of set) r.state) (f r.frame r.left)))
  value_first x set t f is g =
      record {
        by = λ w.
            let r = store_seen old w in
            let v = value_at (program_of old.program.now) old.turns r (expr_of x.now) (flag_of set) r.state in (
              w,
              value_ran r v f (rest old)
                  ∙ then_same (given r v) (λ q. ran q (f q.frame q.left q.value q.state)) (does old t) (rest old) is
                  ∙ sym (g.by w),
            );
        counts = λ w k. counts_same old new w g.work k;
      }
    where
      then_same : (g : Goes) (f h next : Store → Goes) → ((q : Store) → f q ≡ h q) → go g (λ q. go (f q) next) ≡ go g (λ q. go (h q) next)
      then_same (On r) f h next is = ap (λ y. go y next) (is r)
      then_same (Trapped t s) f h next is = refl
      then_same (Goes.Cut s) f h next is = refl

  pub done_first : (u : Task) (set : List Bool) (v : Store → Val Done) → ((r : Store) → does old u r ≡ done r (v r)) → First old new u (task.Went set) → Comes old new (λ r. ran r (all_go (flag_of set) (v r)))
  done_first u set v is g =
      record {
        by = λ w.
            let r = store_seen old w in (
              w,
              done_ran r (v r) (λ fr l s. went_all (flag_of set) s) (rest old)
                  ∙ ap (λ y. go y (λ q. go (does old (task.Went set) q) (rest old))) (sym (is r))
                  ∙ sym (g.by w),
            );
        counts = λ w k. counts_same old new w g.work k;
      }

-- ---- statements one by one

module _ (old new : Evaluator) (work : Work) (one : Adds old work 1) where
  pub declared : (xs : Bor (List TypedItem)) (set : List Bool) → First (record old { work = work }) new (task.Items xs set) (task.Went set) → Comes old new (declares_all old (items_of xs.now) (flag_of set))
  declared xs set g =
      ticked old new (λ fr l s. all_go (flag_of set) (items (gang_width old.program.now.gang) fr (calls_at (program_of old.program.now) old.turns l) (items_of xs.now) (flag_of set) s)) work one
      (done_first (record old { work = work }) new (task.Items xs set) set (λ r. items (gang_width old.program.now.gang) r.frame (calls_at (program_of old.program.now) old.turns r.left) (items_of xs.now) (flag_of set) r.state) (λ r. refl) g)

  pub chosen : (b : Box Branches Global) (x : Bor TypedExpr) (y : Bor TypedStmt) (z : Option (Bor TypedStmt)) (set : List Bool)
      → b.value ≡ record { then = y; otherwise = z; set = set } → First (record old { work = work }) new (task.Value x set) (task.Branch b)
      → Comes old new (chooses old (expr_of x.now) y z (flag_of set))
  chosen b x y z set is g =
      let k = λ (c : Branches) (fr : Frame) (l : ℕ). branches (gang_width old.program.now.gang) (flag_of c.set)
      (run_in (program_of old.program.now) old.turns fr l (stmt_of c.then.now))
      (perhaps_run (program_of old.program.now) old.turns fr l (option_map (λ (v : Bor TypedStmt). stmt_of v.now) c.otherwise)) in
      ticked old new (λ fr l s. with_value (value_at_in fr l x set s) (k (record { then = y; otherwise = z; set = set }) fr l)) work one
      (subst (λ (c : Branches). Comes (record old { work = work }) new (λ r. ran r (with_value (value_at_in r.frame r.left x set r.state) (k c r.frame r.left)))) is
      (value_first (record old { work = work }) new x set (task.Branch b) (k b.value) (λ q. refl) g))
    where
      value_at_in : Frame → ℕ → Bor TypedExpr → List Bool → State → Val Payload
      value_at_in fr l x set s = value_at (program_of old.program.now) old.turns (record { frame = fr; left = l; state = s; value = One 0; parts = all_parts nobody }) (expr_of x.now) (flag_of set) s

  pub claimed : (x : Bor TypedExpr) (sp : Span) (set : List Bool) → First (record old { work = work }) new (task.Value x set) (task.Assert sp set) → Comes old new (claims old (expr_of x.now) sp (flag_of set))
  claimed x sp set g =
      ticked old new (λ fr l s. with_value (value_in fr l x set s) (λ m s1. all_go (flag_of set) (checked (offender (gang_width old.program.now.gang) is_false (flag_of set) m) Assert sp s1 tt))) work one
      (value_first (record old { work = work }) new x set (task.Assert sp set) (λ fr l m s1. all_go (flag_of set) (checked (offender (gang_width old.program.now.gang) is_false (flag_of set) m) Assert sp s1 tt)) (λ q. refl) g)
    where
      value_in : Frame → ℕ → Bor TypedExpr → List Bool → State → Val Payload
      value_in fr l x set s = value_at (program_of old.program.now) old.turns (record { frame = fr; left = l; state = s; value = One 0; parts = all_parts nobody }) (expr_of x.now) (flag_of set) s

  pub jumped_away : (j : Jump) (set : List Bool) (sets : Sets) → ((s : State) → left_as (parts_seen sets) s ≡ jumped j (flag_of set) s)
      → new ≡ record old { work = work; value = computed.One 0; sets = sets } → Comes old new (jumps old j (flag_of set))
  jumped_away j set sets is left =
      ticked old new (λ fr l s. jumped j (flag_of set) s) work one
      (leaves (record old { work = work }) new (λ r. ran r (jumped j (flag_of set) r.state)) sets (parts_seen sets) left refl (λ w. ap (ran (store_seen old w)) (sym (is (state_seen old w)))))

  pub gave_nothing : (x : Option (Bor TypedExpr)) (set : List Bool) (sets : Sets) → x ≡ None
      → parts_seen sets ≡ record { went = nobody; broke = nobody; continued = nobody; returned = flag_of set }
      → new ≡ record old { work = work; value = computed.One 0; sets = sets } → Comes old new (gives old x (flag_of set))
  gave_nothing x set sets none is left =
      subst (λ y. Comes old new (gives old y (flag_of set))) (sym none)
      (ticked old new (λ fr l s. Went s nobody nobody nobody (flag_of set)) work one
      (leaves (record old { work = work }) new (λ r. ran r (Went r.state nobody nobody nobody (flag_of set))) sets _ left is (λ w. refl)))

  pub gave : (x : Option (Bor TypedExpr)) (y : Bor TypedExpr) (set : List Bool) → x ≡ Some y → First (record old { work = work }) new (task.Value y set) (task.Answer set) → Comes old new (gives old x (flag_of set))
  gave x y set some g =
      subst (λ z. Comes old new (gives old z (flag_of set))) (sym some)
      (ticked old new (λ fr l s. with_value (value_in fr l y set s) (λ m s1. Went (answered fr.answer (flag_of set) m s1) nobody nobody nobody (flag_of set))) work one
      (value_first (record old { work = work }) new y set (task.Answer set) (λ fr l m s1. Went (answered fr.answer (flag_of set) m s1) nobody nobody nobody (flag_of set)) (λ q. refl) g))
    where
      value_in : Frame → ℕ → Bor TypedExpr → List Bool → State → Val Payload
      value_in fr l x set s = value_at (program_of old.program.now) old.turns (record { frame = fr; left = l; state = s; value = One 0; parts = all_parts nobody }) (expr_of x.now) (flag_of set) s

pub all_did : (old new : Evaluator) (x : Bor TypedSimple) (set : List Bool) → First old new (task.Simple x set) (task.Went set) → Comes old new (all_does old (simple_of x.now) (flag_of set))
all_did old new x set g =
    done_first old new (task.Simple x set) set (λ r. simple (gang_width old.program.now.gang) r.frame (calls_in (program_of old.program.now) old.turns r) (simple_of x.now) (flag_of set) r.state) (λ r. refl) g

-- a block over all instances, and then those that came
pub unmasked : (old late new : Evaluator) (work : Work) (one : Adds old work 1) (b : Bor TypedBlock) (all set : List Bool)
    → late.tasks.items ≡ old.tasks.items ++ task.Went set ∷ [] → late ≡ record old { work = work; tasks = late.tasks }
    → flag_of all ≡ everyone (gang_width old.program.now.gang)
    → Comes late new (blocks late (block_of b.now) (flag_of all)) → Comes old new (unmasks old (block_of b.now) (flag_of set))
unmasked old late new work one b all set i s is c =
    let mid = record old { work = work } in
    ticked old new (λ fr l s1. go_on (block_in fr l s1) (λ s2 g b' c' q. went_all (flag_of set) s2)) work one
    (record {
      by = λ w.
          let r = store_seen old w in
          let d = comes_then mid late new (task.Went set) (λ e. blocks e (block_of b.now) (everyone (gang_width old.program.now.gang))) i s
          (ap (λ (e : Evaluator). blocks e (block_of b.now) (everyone (gang_width old.program.now.gang))) s)
          (subst (λ a. Comes late new (blocks late (block_of b.now) a)) is c) in (
            (d.by w).0,
            then_ran r (block_in r.frame r.left r.state) (λ fr l s2 p. went_all (flag_of set) s2) (rest old)
                ∙ sym (go_assoc (blocks old (block_of b.now) (everyone (gang_width old.program.now.gang)) r) (does old (task.Went set)) (rest old))
                ∙ (d.by w).1,
          );
      counts = (comes_then mid late new (task.Went set) (λ e. blocks e (block_of b.now) (everyone (gang_width old.program.now.gang))) i s
          (ap (λ (e : Evaluator). blocks e (block_of b.now) (everyone (gang_width old.program.now.gang))) s)
          (subst (λ a. Comes late new (blocks late (block_of b.now) a)) is c)).counts;
    })
  where
    block_in : Frame → ℕ → State → Res
    block_in fr l s1 = block_at (program_of old.program.now) old.turns (record { frame = fr; left = l; state = s1; value = One 0; parts = all_parts nobody }) (block_of b.now) (everyone (gang_width old.program.now.gang)) s1

-- the values come first, then the text
with_then : {A : Type 0} (r : Store) (v : Val A) (k : A → State → Res) → go_with v (λ m s. ran r (k m s)) ≡ ran r (with_value v k)
with_then r (Gives m s) k = refl
with_then r (Fails t s) k = refl
with_then r (Stops s) k = refl

pub printed : (old new : Evaluator) (work : Work) (one : Adds old work 1) (text : Bor (List ℕ)) (xs : Bor (List TypedExpr)) (ms : List Computed) (set : List Bool) → ms ≡ []
    → Comes (record old { work = work }) new (gather (program_of old.program.now) old.turns (gathering.Print text xs) (exprs_of xs.now) (map payload_of ms) (flag_of set)) → Comes old new (prints_all old text.now (exprs_of xs.now) (flag_of set))
printed old new work one text xs ms set none c =
    ticked old new shown_in work one
    (comes_same (record old { work = work }) new (λ r. ran r (shown_in r.frame r.left r.state)) (gather (program_of old.program.now) old.turns (gathering.Print text xs) (exprs_of xs.now) [] (flag_of set))
    (λ w. let r = store_seen old w in sym (with_then r
    (values (gang_width old.program.now.gang) r.frame (calls_at (program_of old.program.now) old.turns r.left) (t_exprs (exprs_of xs.now))
    (flag_of set) r.state) (λ ms s. shows old text.now (exprs_of xs.now) (flag_of set) ms s)))
    (subst (λ (ys : List Computed). Comes (record old { work = work }) new (gather (program_of old.program.now) old.turns (gathering.Print text xs) (exprs_of xs.now) (map payload_of ys) (flag_of set))) none c))
  where
    shown_in : Frame → ℕ → State → Res
    shown_in fr l s = with_value (values (gang_width old.program.now.gang) fr (calls_at (program_of old.program.now) old.turns l) (t_exprs (exprs_of xs.now)) (flag_of set) s) (λ ms s1. shows old text.now (exprs_of xs.now) (flag_of set) ms s1)

-- ---- loops

module _ (old new : Evaluator) (work : Work) (one : Adds old work 1) (set : List Bool) (test : Option (Bor TypedExpr)) (step : Option (Bor TypedSimple)) (body : Bor TypedStmt)
    (t : Turning) (is : t ≡ record t { looping = looping test step body; all = set; live = set; left = old.turns }) (none : flag_of t.returned ≡ nobody) where
  abbrev tests_now : Frame → ℕ → State → Res
  tests_now fr l s = tested_in (program_of old.program.now) old.turns fr l (looping test step body) (flag_of set) old.turns (flag_of set) nobody s

  abbrev turns_now : Frame → ℕ → State → Res
  turns_now fr l s = turns_in (program_of old.program.now) old.turns fr l (looping test step body) (flag_of set) old.turns (flag_of set) nobody s

  as_tests : (r : Store) → tests_on old t r ≡ ran r (tests_now r.frame r.left r.state)
  as_tests r =
      ap (λ (u : Turning). tests_on old u r) is
      ∙ ap (λ (q : Mask). ran r (tested_in (program_of old.program.now) old.turns r.frame r.left (looping test step body) (flag_of set) old.turns (flag_of set) q r.state)) none

  as_turns : (r : Store) → turns_on old t r ≡ ran r (turns_now r.frame r.left r.state)
  as_turns r =
      ap (λ (u : Turning). turns_on old u r) is
      ∙ ap (λ (q : Mask). ran r (turns_in (program_of old.program.now) old.turns r.frame r.left (looping test step body) (flag_of set) old.turns (flag_of set) q r.state)) none

  pub enters_tests : Comes (record old { work = work }) new (tests_on old t) → Comes old new (enters old None test step body (flag_of set))
  enters_tests c =
      ticked old new tests_now work one
      (comes_same (record old { work = work }) new (λ r. ran r (tests_now r.frame r.left r.state)) (tests_on old t) (λ w. sym (as_tests (store_seen old w))) c)

  pub enters_tests_halts : (e : Stop) → Halts (record old { work = work }) new (tests_on old t) e → Halts old new (enters old None test step body (flag_of set)) e
  enters_tests_halts e h =
      ticked_halts old new tests_now work one e
      (halts_same (record old { work = work }) new (λ r. ran r (tests_now r.frame r.left r.state)) (tests_on old t) e (λ w. sym (as_tests (store_seen old w))) h)

  pub enters_turns : step ≡ None → Comes (record old { work = work }) new (turns_on old t) → Comes old new (enters_by_turn old test body (flag_of set))
  enters_turns isnt c =
      comes_same old new (enters_by_turn old test body (flag_of set)) (λ r. ran r (turns_now r.frame r.left (tick r.state)))
      (λ w. ap (λ (k : Option (Bor TypedSimple)). ran (store_seen old w)
      (turns_in (program_of old.program.now) old.turns (store_seen old w).frame (store_seen old w).left (looping test k body) (flag_of set)
      old.turns (flag_of set) nobody (state_seen old (w + 1)))) (sym isnt))
      (ticked old new turns_now work one
      (comes_same (record old { work = work }) new (λ r. ran r (turns_now r.frame r.left r.state)) (turns_on old t) (λ w. sym (as_turns (store_seen old w))) c))

  pub enters_turns_halts : step ≡ None → (e : Stop) → Halts (record old { work = work }) new (turns_on old t) e → Halts old new (enters_by_turn old test body (flag_of set)) e
  enters_turns_halts isnt e h =
      halts_same old new (enters_by_turn old test body (flag_of set)) (λ r. ran r (turns_now r.frame r.left (tick r.state))) e
      (λ w. ap (λ (k : Option (Bor TypedSimple)). ran (store_seen old w)
      (turns_in (program_of old.program.now) old.turns (store_seen old w).frame (store_seen old w).left (looping test k body) (flag_of set)
      old.turns (flag_of set) nobody (state_seen old (w + 1)))) (sym isnt))
      (ticked_halts old new turns_now work one e
      (halts_same (record old { work = work }) new (λ r. ran r (turns_now r.frame r.left r.state)) (turns_on old t) e (λ w. sym (as_turns (store_seen old w))) h))

  -- a first part comes before the test
  pub enters_first : (late : Evaluator) (x : Option (Bor TypedFirst)) (b : Box Turning Global) → b.value ≡ t → late.tasks.items ≡ old.tasks.items ++ task.Test b ∷ [] → late ≡ record old { work = work; tasks = late.tasks }
      → Comes late new (firsts late x (flag_of set)) → Comes old new (enters old x test step body (flag_of set))
  enters_first late x b held i s c =
      ticked old new (λ fr l s1. with_value (first_in old fr l x (flag_of set) s1) (λ _ s2. tests_now fr l s2)) work one
      (record {
        by = λ w.
            let r = store_seen old w in
            let v = first_in old r.frame r.left x (flag_of set) r.state in
            let d = comes_then (record old { work = work }) late new (task.Test b) (λ e. firsts e x (flag_of set)) i s (ap (λ (e : Evaluator). firsts e x (flag_of set)) s) c in (
              (d.by w).0,
              done_ran r v tests_now (rest old)
                  ∙ after (done r v) (rest old)
                  ∙ sym (go_assoc (done r v) (does old (task.Test b)) (rest old))
                  ∙ (d.by w).1,
            );
        counts = (comes_then (record old { work = work }) late new (task.Test b) (λ e. firsts e x (flag_of set)) i s (ap (λ (e : Evaluator). firsts e x (flag_of set)) s) c).counts;
      })
    where
      test_is : (q : Store) → does old (task.Test b) q ≡ ran q (tests_now q.frame q.left q.state)
      test_is q = ap (λ (u : Turning). tests_on old u q) held ∙ as_tests q

      after : (g : Goes) (next : Store → Goes) → go g (λ q. go (ran q (tests_now q.frame q.left q.state)) next) ≡ go g (λ q. go (does old (task.Test b) q) next)
      after (On q) next = ap (λ k. go k next) (sym (test_is q))
      after (Trapped x1 s1) next = refl
      after (Goes.Cut s1) next = refl

-- ---- the first part of a `for`

redone : (r : Store) (s : State) (m : Payload) (v : Val Done) → done (record r { state = s; value = m }) v ≡ done r v
redone r s m (Gives x s1) = refl
redone r s m (Fails t s1) = refl
redone r s m (Stops s1) = refl

module _ (old : Evaluator) (set : List Bool) where
  pub no_first : (x : Option (Bor TypedFirst)) (new : Evaluator) → x ≡ None → new ≡ record old { value = computed.One 0 } → Comes old new (firsts old x (flag_of set))
  no_first x new none same =
      subst (λ y. Comes old new (firsts old y (flag_of set))) (sym none)
      (record { by = λ w. (w, sym (ap (λ (k : Evaluator). rest k (store_seen k w)) same)); counts = λ w k. counts_same old new w (ap work_of same) k })

  pub first_simple : (new : Evaluator) (y : Bor TypedFirst) (p : Bor TypedSimple) → y.now ≡ first.Simple p.now
      → new.tasks.items ≡ old.tasks.items ++ task.Simple p set ∷ [] → new ≡ record old { tasks = new.tasks }
      → Comes old new (firsts old (Some y) (flag_of set))
  first_simple new y p is i s =
      (comes_same old new (firsts old (Some y) (flag_of set)) (does old (task.Simple p set)) (λ w. ap (λ (f : TypedFirst). part f w) is) (pushes old new (task.Simple p set) i s))
    where
      part : TypedFirst → ℕ → Goes
      part f w = done (store_seen old w) (first_part (gang_width old.program.now.gang) (store_seen old w).frame (calls_at (program_of old.program.now) old.turns (store_seen old w).left) (Some (first_of f)) (flag_of set) (state_seen old w))

  pub first_items : (new : Evaluator) (work : Work) (one : Adds old work 1) (y : Bor TypedFirst) (v : Vec TypedItem Global) (sp : Span) (xs : Bor (List TypedItem)) → y.now ≡ first.Declare v sp → xs.now ≡ v.items
      → new.tasks.items ≡ old.tasks.items ++ task.Items xs set ∷ [] → new ≡ record old { work = work; tasks = new.tasks } → Comes old new (firsts old (Some y) (flag_of set))
  first_items new work one y v sp xs is all i s =
      (record {
        by = λ w.
            let c = pushes (record old { work = work }) new (task.Items xs set) i s in
            let r = store_seen old w in (
              (c.by (w + 1)).0,
              ap (λ (f : TypedFirst). go (part f w) (rest old)) is
                  ∙ ap (λ (ys : List TypedItem). go (done r (items (gang_width old.program.now.gang) r.frame (calls_at (program_of old.program.now) old.turns r.left) (items_of ys) (flag_of set) (state_seen old (w + 1)))) (rest old)) (sym all)
                  ∙ ap (λ g. go g (rest old)) (sym (redone r (state_seen old (w + 1)) r.value
                  (items (gang_width old.program.now.gang) r.frame (calls_at (program_of old.program.now) old.turns r.left) (items_of xs.now)
                  (flag_of set) (state_seen old (w + 1)))))
                  ∙ (c.by (w + 1)).1,
            );
        counts = λ w k. (pushes (record old { work = work }) new (task.Items xs set) i s).counts (w + 1) (counts_more old work 1 w one k);
      })
    where
      part : TypedFirst → ℕ → Goes
      part f w = done (store_seen old w) (first_part (gang_width old.program.now.gang) (store_seen old w).frame (calls_at (program_of old.program.now) old.turns (store_seen old w).left) (Some (first_of f)) (flag_of set) (state_seen old w))

-- ---- what ends by itself

module _ (old mid new : Evaluator) where
  pub changed_leaves : (g : Store → Goes) (f : State → State) (sets : Sets) (p : Parts) → Changes old mid f → new ≡ record mid { value = computed.One 0; sets = sets } → parts_seen sets ≡ p
      → ((w : ℕ) → g (store_seen old w) ≡ ran (store_seen old w) (left_as p (f (state_seen old w)))) → Comes old new g
  changed_leaves g f sets p c same e is =
      record {
        by = λ w. (
          w,
          ap (λ x. go x (rest old)) (is w)
              ∙ ap (λ q. rest old (record (store_seen old w) { state = f (state_seen old w); value = One 0; parts = q })) (sym e)
              ∙ sym (ap₂ (λ (h : Store → Goes) (r : Store). h (record r { value = One 0; parts = parts_seen sets })) (changed_rest old mid f c) (changed_store old mid f c w))
              ∙ sym (ap (λ (x : Evaluator). rest x (store_seen x w)) same),
        );
        counts = λ w k. counts_same old new w (ap work_of same ∙ ap work_of c.same) k;
      }

  pub answer_comes : (set : List Bool) (sets : Sets) → Changes old mid (answered (frame_seen old.here).answer (flag_of set) (payload_of old.value)) → new ≡ record mid { value = computed.One 0; sets = sets }
      → parts_seen sets ≡ record { went = nobody; broke = nobody; continued = nobody; returned = flag_of set } → Comes old new (does old (task.Answer set))
  answer_comes set sets c same e = changed_leaves (does old (task.Answer set)) _ sets _ c same e (λ w. refl)

module _ (old : Evaluator) (set : List Bool) (o : Option Ty) (found : o ≡ answer_in old.here.function) where
  pub no_answer : o ≡ None → Changes old old (answered (frame_seen old.here).answer (flag_of set) (payload_of old.value))
  no_answer none =
      subst (λ k. Changes old old (answered k (flag_of set) (payload_of old.value))) (sym none ∙ found) (record { state = λ w. refl; frame = refl; same = refl })

  pub one_answer : (t : Ty) (n : ℕ) → o ≡ Some t → t.rate ≡ Uniform → n ≡ sole (payload_of old.value) → Changes old (record old { here = record old.here { result = n } }) (answered (frame_seen old.here).answer (flag_of set) (payload_of old.value))
  one_answer t n some rate is =
      subst (λ k. Changes old (record old { here = record old.here { result = n } }) (answered k (flag_of set) (payload_of old.value))) (sym some ∙ found)
      (record {
        state = λ w. ap (λ (k : ℕ). record (state_seen old w) { result = k }) is ∙ sym (ap (λ k. answered_at k (flag_of set) (payload_of old.value) (state_seen old w)) rate);
        frame = refl;
        same = refl;
      })

  pub each_answer : (t : Ty) (xs : List ℕ) → o ≡ Some t → t.rate ≡ Varying
      → lane_of xs ≡ over (spread (flag_of set) (payload_of old.value)) (lane_of old.here.results)
      → Changes old (record old { here = record old.here { results = xs } })
      (answered (frame_seen old.here).answer (flag_of set) (payload_of old.value))
  each_answer t xs some rate is =
      subst (λ k. Changes old (record old { here = record old.here { results = xs } }) (answered k (flag_of set) (payload_of old.value))) (sym some ∙ found)
      (record {
        state = λ w. ap (λ (k : ℕ → ℕ). record (state_seen old w) { results = k }) is ∙ sym (ap (λ k. answered_at k (flag_of set) (payload_of old.value) (state_seen old w)) rate);
        frame = refl;
        same = refl;
      })

module _ (old new : Evaluator) (sp : Span) (set : List Bool) (o : Option ℕ) (is : o ≡ offender (gang_width old.program.now.gang) is_false (flag_of set) (payload_of old.value)) where
  asserts : (w : ℕ) → does old (task.Assert sp set) (store_seen old w) ≡ ran (store_seen old w) (all_go (flag_of set) (checked o Assert sp (state_seen old w) tt))
  asserts w = ap (λ k. ran (store_seen old w) (all_go (flag_of set) (checked k Assert sp (state_seen old w) tt))) (sym is)

  pub assert_comes : (sets : Sets) → o ≡ None → parts_seen sets ≡ all_parts (flag_of set) → new ≡ record old { value = computed.One 0; sets = sets } → Comes old new (does old (task.Assert sp set))
  assert_comes sets none e same =
      leaves old new (does old (task.Assert sp set)) sets (all_parts (flag_of set)) same e
      (λ w. asserts w ∙ ap (λ k. ran (store_seen old w) (all_go (flag_of set) (checked k Assert sp (state_seen old w) tt))) none)

  pub assert_halts : (e : Stop) (p : ℕ) → o ≡ Some p → new ≡ old → e ≡ stop.Trapped (trap Assert sp p) → Halts old new (does old (task.Assert sp set)) e
  assert_halts e p some same m =
      trapped (trap Assert sp p) m (λ w. (
        w,
        asserts w
            ∙ ap (λ k. ran (store_seen old w) (all_go (flag_of set) (checked k Assert sp (state_seen old w) tt))) some
            ∙ sym (ap (λ (x : Evaluator). Trapped (trap Assert sp p) (state_seen x w)) same),
      ))
      (λ w k. counts_same old new w (ap work_of same) k)

-- ---- parts that may be left out

copied_map : {T U : Type 0} (f : T → U) (o : Option (Bor T)) → option_map f (option_copied o) ≡ option_map (λ (v : Bor T). f v.now) o
copied_map f None = refl
copied_map f (Some x) = refl

pub part_is : {T U : Type 0} (f : T → U) (s : Option T) (o : Option (Bor T)) → option_copied o ≡ s → option_map f s ≡ option_map (λ (v : Bor T). f v.now) o
part_is f s o e = sym (ap (option_map f) e) ∙ copied_map f o

pub return_is : (old : Evaluator) (set : List Bool) (k sp : Span) (o : Option (Bor TypedExpr)) (w : ℕ)
    → ran (store_seen old w) (run_in (program_of old.program.now) old.turns (store_seen old w).frame (store_seen old w).left
    (t_return k (option_map (λ (v : Bor TypedExpr). expr_of v.now) o) sp) (flag_of set) (state_seen old w))
    ≡ gives old o (flag_of set) (store_seen old w)
return_is old set k sp None w = refl
return_is old set k sp (Some x) w = refl

-- a text was written
pub print_comes : (old new : Evaluator) (o : Vec ℕ Global) (text : List ℕ) (xs : List TypedExpr) (ms : List Computed) (set : List Bool) (sets : Sets)
    → o.items ≡ old.output.items ++ print_text text (shown_all (gang_width old.program.now.gang) (flag_of set) (exprs_of xs) (map payload_of ms)) → parts_seen sets ≡ all_parts (flag_of set)
    → new ≡ record old { output = o; value = computed.One 0; sets = sets } → Comes old new (prints old text xs ms (flag_of set))
print_comes old new o text xs ms set sets e p same =
    record {
      by = λ w. (
        w,
        ap₂ (λ (out : List ℕ) (q : Parts). rest old (record (store_seen old w) { state = record (state_seen old w) { out = out }; value = One 0; parts = q })) (sym e) (sym p)
            ∙ sym (ap (λ (k : Evaluator). rest k (store_seen k w)) same),
      );
      counts = λ w k. counts_same old new w (ap work_of same) k;
    }
