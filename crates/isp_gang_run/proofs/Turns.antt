-- What loops leave to be done.
use Rattle.std.proofs.Common.{◌≡◌, refl, sym, ap, ap₂, subst, ◌∙◌, ℕ, suc, ◌+◌, List, Bor, Box, Global, Bool, true, false, Some, None}
use Rattle.std.specs.Prelude.{option_map, Result, Ok, Err}
use Rattle.std.specs.Result.{IfErr, IsErrAnd}
use Rattle.isp_base.specs.Sets.{Mask, any, flag_of, nobody, union, without}
use Rattle.isp_base.specs.Types.{gang_width}
use Rattle.isp_typed.specs.declared.expr.TypedExpr.{TypedExpr}
use Rattle.isp_typed.specs.declared.stmt.TypedSimple.{TypedSimple}
use Rattle.isp_typed.specs.Views.{expr_of, simple_of, program_of}
use Rattle.isp_meaning.specs.State.{State, Frame}
use Rattle.isp_meaning.specs.Payloads.{Payload, One, is_true, kept_by}
use Rattle.isp_meaning.specs.Outcomes.{if_so, with_value}
use Rattle.isp_meaning.specs.Calls.{calls_at}
use Rattle.isp_meaning.specs.Simple.{step_part}
use Rattle.isp_meaning.specs.Statements.{test_part}
use Rattle.isp_gang_values.specs.Seen.{payload_of}
use Rattle.isp_gang_values.specs.declared.computed.Computed.TheVariants as computed
use Rattle.isp_gang_run.specs.Seen.{state_seen}
use Rattle.isp_gang_run.specs.Tasks.{Store, Parts, Goes, Cut, First, Halts, refused, trapped, cut, go, ran, does, rest, Comes, store_seen, body_in, turns_in, tested_in, stepped_in, ends_in, turns_on, tests_on, ends_on, keeps_on, steps_on, turned_on}
use Rattle.isp_gang_run.specs.declared.loops.Turning.{Turning}
use Rattle.isp_gang_run.specs.declared.counting.Work.{Work}
use Rattle.isp_gang_run.specs.declared.state.Evaluator.{Evaluator}
use Rattle.isp_gang_run.specs.declared.state.Sets.{Sets}
use Rattle.isp_gang_run.specs.declared.state.Stop.{Stop}
use Rattle.isp_gang_run.specs.declared.state.Stop.TheVariants as stop
use Rattle.isp_gang_run.specs.declared.tasks.Task.TheVariants as task
use Rattle.isp_gang_run.proofs.Counts.{Adds, work_of, counts_same, counts_one}
use Rattle.isp_gang_run.proofs.Runs.{reran, then_ran, value_ran, done_ran}
use Rattle.isp_gang_run.proofs.Branching.{comes_same, leaves, parts_are}

-- what stops the one stops the other
pub halts_same : (old new : Evaluator) (f g : Store → Goes) (e : Stop) → ((w : ℕ) → f (store_seen old w) ≡ g (store_seen old w)) → Halts old new g e → Halts old new f e
halts_same old new f g e is (refused m) = refused m
halts_same old new f g e is (trapped x m h k) = trapped x m (λ w. ((h w).0, is w ∙ (h w).1)) (λ w c. k w c)
halts_same old new f g e is (cut m h k) = cut m (λ w. ((h w).0, is w ∙ (h w).1)) (λ w c. k w c)

module _ (old new : Evaluator) where
  pub loop_ends : (t : Turning) (sets : Sets) → flag_of sets.went ≡ without (flag_of t.all) (flag_of t.returned) → flag_of sets.exits.broke ≡ nobody → flag_of sets.exits.continued ≡ nobody → flag_of sets.exits.returned ≡ flag_of t.returned
      → new ≡ record old { value = computed.One 0; sets = sets } → Comes old new (ends_on old t)
  loop_ends t sets eg eb ec eq same = leaves old new (ends_on old t) sets _ same (parts_are sets _ _ _ _ eg eb ec eq) (λ w. refl)

  -- the step
  pub step_goes : (t : Turning) (b : Box Turning Global) (x : Bor TypedSimple) → b.value ≡ t → t.looping.step ≡ Some x → First old new (task.Simple x t.live) (task.Test b) → Comes old new (steps_on old t)
  step_goes t b x is some f =
      subst (λ (v : Turning). v.looping.step ≡ Some x → First old new (task.Simple x v.live) (task.Test b) → Comes old new (steps_on old v)) is
      (λ some f. record {
        by = λ w.
            let r = store_seen old w in
            let v = b.value in (
              w,
              ap (λ o. go (ran r (with_value (step_part (gang_width old.program.now.gang) r.frame
                  (calls_at (program_of old.program.now) old.turns r.left) (option_map (λ (y : Bor TypedSimple). simple_of y.now) o) (flag_of v.live)
                  r.state) (λ _ s1. tested_in (program_of old.program.now) old.turns r.frame r.left v.looping (flag_of v.all) v.left (flag_of v.live)
                  (flag_of v.returned) s1))) (rest old)) some
                  ∙ done_ran r (step_part (gang_width old.program.now.gang) r.frame (calls_at (program_of old.program.now) old.turns r.left)
                  (Some (simple_of x.now)) (flag_of v.live) r.state)
                  (λ fr l s1. tested_in (program_of old.program.now) old.turns fr l v.looping (flag_of v.all) v.left (flag_of v.live)
                  (flag_of v.returned) s1) (rest old)
                  ∙ sym (f.by w),
            );
        counts = λ w k. counts_same old new w f.work k;
      }) some f

  pub no_step : (t : Turning) (b : Box Turning Global) → b.value ≡ t → t.looping.step ≡ None → Comes old new (does old (task.Test b)) → Comes old new (steps_on old t)
  no_step t b is none c =
      subst (λ (v : Turning). v.looping.step ≡ None → Comes old new (steps_on old v)) is
      (λ none. comes_same old new (steps_on old b.value) (does old (task.Test b))
      (λ w.
      let r = store_seen old w in
      let v = b.value in
      ap (λ o. ran r (with_value (step_part (gang_width old.program.now.gang) r.frame (calls_at (program_of old.program.now) old.turns r.left)
      (option_map (λ (y : Bor TypedSimple). simple_of y.now) o) (flag_of v.live) r.state)
      (λ _ s1. tested_in (program_of old.program.now) old.turns r.frame r.left v.looping (flag_of v.all) v.left (flag_of v.live)
      (flag_of v.returned) s1))) none) c) none

  -- the body was run
  pub steps_again : (t : Turning) (live returned : List Bool) → flag_of live ≡ union (flag_of old.sets.went) (flag_of old.sets.exits.continued) → flag_of returned ≡ union (flag_of t.returned) (flag_of old.sets.exits.returned)
      → any (gang_width old.program.now.gang) (flag_of live) ≡ true → Comes old new (steps_on old (record t { live = live; returned = returned })) → Comes old new (turned_on old t)
  steps_again t live returned el er some c =
      comes_same old new (turned_on old t) (steps_on old (record t { live = live; returned = returned }))
      (λ w.
      let r = store_seen old w in
      let f = λ (a q : Mask) (b : Bool). ran r (if_so b
      (stepped_in (program_of old.program.now) old.turns r.frame r.left t.looping (flag_of t.all) t.left a q)
      (ends_in (program_of old.program.now) old.turns r.frame r.left t.looping (flag_of t.all) q) r.state) in
      ap₂ (λ (a q : Mask). f a q (any (gang_width old.program.now.gang) a)) (sym el) (sym er) ∙ ap (f (flag_of live) (flag_of returned)) some) c

  pub no_more : (t : Turning) (live returned : List Bool) → flag_of live ≡ union (flag_of old.sets.went) (flag_of old.sets.exits.continued) → flag_of returned ≡ union (flag_of t.returned) (flag_of old.sets.exits.returned)
      → any (gang_width old.program.now.gang) (flag_of live) ≡ false → Comes old new (ends_on old (record t { live = live; returned = returned })) → Comes old new (turned_on old t)
  no_more t live returned el er none c =
      comes_same old new (turned_on old t) (ends_on old (record t { live = live; returned = returned }))
      (λ w.
      let r = store_seen old w in
      let f = λ (a q : Mask) (b : Bool). ran r (if_so b
      (stepped_in (program_of old.program.now) old.turns r.frame r.left t.looping (flag_of t.all) t.left a q)
      (ends_in (program_of old.program.now) old.turns r.frame r.left t.looping (flag_of t.all) q) r.state) in
      ap₂ (λ (a q : Mask). f a q (any (gang_width old.program.now.gang) a)) (sym el) (sym er) ∙ ap (f (flag_of live) (flag_of returned)) none) c

  -- the test was found
  kept_is : (t : Turning) (kept : List Bool) (b : Bool) → flag_of kept ≡ kept_by is_true (flag_of t.live) (payload_of old.value) → any (gang_width old.program.now.gang) (flag_of kept) ≡ b → (w : ℕ)
      → keeps_on old t (store_seen old w) ≡ ran (store_seen old w)
      (if_so b (turns_in (program_of old.program.now) old.turns (store_seen old w).frame (store_seen old w).left t.looping (flag_of t.all) t.left
      (flag_of kept) (flag_of t.returned)) (ends_in (program_of old.program.now) old.turns (store_seen old w).frame (store_seen old w).left
      t.looping (flag_of t.all) (flag_of t.returned)) (state_seen old w))
  kept_is t kept b ek eb w =
      let r = store_seen old w in
      let f = λ (a : Mask) (b : Bool). ran r (if_so b (turns_in (program_of old.program.now) old.turns r.frame r.left t.looping (flag_of t.all) t.left
      a (flag_of t.returned)) (ends_in (program_of old.program.now) old.turns r.frame r.left t.looping (flag_of t.all) (flag_of t.returned))
      r.state) in
      ap (λ (a : Mask). f a (any (gang_width old.program.now.gang) a)) (sym ek) ∙ ap (f (flag_of kept)) eb

  pub turns_again : (t : Turning) (kept : List Bool) → flag_of kept ≡ kept_by is_true (flag_of t.live) (payload_of old.value)
      → any (gang_width old.program.now.gang) (flag_of kept) ≡ true → Comes old new (turns_on old (record t { live = kept }))
      → Comes old new (keeps_on old t)
  turns_again t kept ek some c = comes_same old new (keeps_on old t) (turns_on old (record t { live = kept })) (kept_is t kept true ek some) c

  pub turns_halt : (t : Turning) (kept : List Bool) (e : Stop) → flag_of kept ≡ kept_by is_true (flag_of t.live) (payload_of old.value)
      → any (gang_width old.program.now.gang) (flag_of kept) ≡ true → Halts old new (turns_on old (record t { live = kept })) e
      → Halts old new (keeps_on old t) e
  turns_halt t kept e ek some h = halts_same old new (keeps_on old t) (turns_on old (record t { live = kept })) e (kept_is t kept true ek some) h

  pub nobody_kept : (t : Turning) (kept : List Bool) → flag_of kept ≡ kept_by is_true (flag_of t.live) (payload_of old.value)
      → any (gang_width old.program.now.gang) (flag_of kept) ≡ false → Comes old new (ends_on old t) → Comes old new (keeps_on old t)
  nobody_kept t kept ek none c = comes_same old new (keeps_on old t) (ends_on old t) (kept_is t kept false ek none) c

  -- the test
  pub test_goes : (t : Turning) (b : Box Turning Global) (x : Bor TypedExpr) → b.value ≡ t → t.looping.test ≡ Some x → First old new (task.Value x t.live) (task.Tested b) → Comes old new (tests_on old t)
  test_goes t b x is some f =
      subst (λ (v : Turning). v.looping.test ≡ Some x → First old new (task.Value x v.live) (task.Tested b) → Comes old new (tests_on old v)) is
      (λ some f. record {
        by = λ w.
            let r = store_seen old w in
            let v = b.value in
            let g = λ (fr : Frame) (l : ℕ) (m : Payload) (s1 : State).
            if_so (any (gang_width old.program.now.gang) (kept_by is_true (flag_of v.live) m))
            (turns_in (program_of old.program.now) old.turns fr l v.looping (flag_of v.all) v.left (kept_by is_true (flag_of v.live) m)
            (flag_of v.returned)) (ends_in (program_of old.program.now) old.turns fr l v.looping (flag_of v.all) (flag_of v.returned)) s1 in (
              w,
              ap (λ o. go (ran r (with_value (test_part (gang_width old.program.now.gang) r.frame
                  (calls_at (program_of old.program.now) old.turns r.left) (option_map (λ (y : Bor TypedExpr). expr_of y.now) o) (flag_of v.live)
                  r.state) (g r.frame r.left))) (rest old)) some
                  ∙ value_ran r (test_part (gang_width old.program.now.gang) r.frame (calls_at (program_of old.program.now) old.turns r.left) (Some (expr_of x.now)) (flag_of v.live) r.state) g (rest old)
                  ∙ sym (f.by w),
            );
        counts = λ w k. counts_same old new w f.work k;
      }) some f

  -- a turn
  pub turn_goes : (work : Work) (one : Adds old work 1) (t : Turning) (b : Box Turning Global) (n : ℕ) → t.left ≡ suc n
      → b.value ≡ record t { left = n } → First (record old { work = work }) new (task.Run t.looping.body t.live) (task.Turned b)
      → Comes old new (turns_on old t)
  turn_goes work one t b n more is f =
      record {
        by = λ w.
            let r = store_seen old w in
            let v = body_in (program_of old.program.now) old.turns r.frame r.left t.looping (flag_of t.live) (state_seen old (w + 1)) in
            let h = λ (fr : Frame) (l : ℕ) (s1 : State) (p : Parts).
            if_so (any (gang_width old.program.now.gang) (union p.went p.continued))
            (stepped_in (program_of old.program.now) old.turns fr l t.looping (flag_of t.all) n (union p.went p.continued)
            (union (flag_of t.returned) p.returned)) (ends_in (program_of old.program.now) old.turns fr l t.looping (flag_of t.all)
            (union (flag_of t.returned) p.returned)) s1 in (
              w + 1,
              ap (λ (k : ℕ). go (ran r (turns_in (program_of old.program.now) old.turns r.frame r.left t.looping (flag_of t.all) k (flag_of t.live) (flag_of t.returned) r.state)) (rest old)) more
                  ∙ then_ran r v h (rest old)
                  ∙ ap (λ g. go g (λ q. go (turned_on old (record t { left = n }) q) (rest old))) (sym (reran r (state_seen old (w + 1)) r.value r.parts v))
                  ∙ ap (λ (u : Turning). go (does old (task.Run t.looping.body t.live) (store_seen old (w + 1))) (λ q. go (turned_on old u q) (rest old))) (sym is)
                  ∙ sym (f.by (w + 1)),
            );
        counts = λ w k. counts_one old new work w one f.work k;
      }

  pub no_turn : (t : Turning) → new ≡ old → t.left ≡ 0 → Halts old new (turns_on old t) stop.Cut
  no_turn t same none =
      cut refl (λ w. (
        w,
        ap (λ (k : ℕ). ran (store_seen old w)
            (turns_in (program_of old.program.now) old.turns (store_seen old w).frame (store_seen old w).left t.looping (flag_of t.all) k
            (flag_of t.live) (flag_of t.returned) (state_seen old w))) none ∙ ap (λ (x : Evaluator). Cut (state_seen x w)) (sym same),
      ))
      (λ w k. counts_same old new w (ap work_of same) k)

-- with no test it is true
module _ (old mid new : Evaluator) where
  untested : (t : Turning) → mid ≡ record old { value = computed.One 1 } → t.looping.test ≡ None → (w : ℕ) → tests_on old t (store_seen old w) ≡ keeps_on mid t (store_seen mid w)
  untested t same none w =
      let r = store_seen old w in
      let g = λ (m : Payload) (s1 : State).
      if_so (any (gang_width old.program.now.gang) (kept_by is_true (flag_of t.live) m))
      (turns_in (program_of old.program.now) old.turns r.frame r.left t.looping (flag_of t.all) t.left (kept_by is_true (flag_of t.live) m)
      (flag_of t.returned)) (ends_in (program_of old.program.now) old.turns r.frame r.left t.looping (flag_of t.all) (flag_of t.returned)) s1 in
      ap (λ o. ran r (with_value (test_part (gang_width old.program.now.gang) r.frame (calls_at (program_of old.program.now) old.turns r.left) (option_map (λ (y : Bor TypedExpr). expr_of y.now) o) (flag_of t.live) r.state) g)) none
      ∙ sym (reran r r.state (One 1) r.parts (g (One 1) r.state))
      ∙ sym (ap (λ (x : Evaluator). keeps_on x t (store_seen x w)) same)

  pub no_test : (t : Turning) → mid ≡ record old { value = computed.One 1 } → t.looping.test ≡ None → Comes mid new (keeps_on mid t) → Comes old new (tests_on old t)
  no_test t same none c =
      record {
        by = λ w. (
          (c.by w).0,
          ap (λ g. go g (rest old)) (untested t same none w)
              ∙ sym (ap (λ (h : Store → Goes). go (keeps_on mid t (store_seen mid w)) h) (ap (λ (x : Evaluator). rest x) same))
              ∙ (c.by w).1,
        );
        counts = λ w k. c.counts w (counts_same old mid w (ap work_of same) k);
      }

  pub no_test_halts : (t : Turning) (e : Stop) → mid ≡ record old { value = computed.One 1 } → t.looping.test ≡ None → Halts mid new (keeps_on mid t) e → Halts old new (tests_on old t) e
  no_test_halts t e same none (refused m) = refused m
  no_test_halts t e same none (trapped x m h k) = trapped x m (λ w. ((h w).0, untested t same none w ∙ (h w).1)) (λ w c. k w (counts_same old mid w (ap work_of same) c))
  no_test_halts t e same none (cut m h k) = cut m (λ w. ((h w).0, untested t same none w ∙ (h w).1)) (λ w c. k w (counts_same old mid w (ap work_of same) c))

-- what `?` hands on
pub at_err : {A : Type 0} (r : Result A Stop) (x : Stop) (P : Stop → Type 0) → IsErrAnd r (λ e. e ≡ x) → P x → IfErr r P
at_err (Ok a) x P h p = tt
at_err (Err e) x P h p = subst P (sym h) p
