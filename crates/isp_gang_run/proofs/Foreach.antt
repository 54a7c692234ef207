-- What `foreach` and `foreach_active` leave to be done.
use Rattle.std.proofs.Common.{◌≡◌, refl, sym, ap, ap₂, ◌∙◌, subst, ℕ, ◌<◌, List, [], ◌∷◌, ◌++◌, map, Bor, Box, Vec, Global, Bool, true, Some, None, append_assoc, arith, length}
use Rattle.isp_base.specs.Sets.{Mask, flag_of, lone, lowest, without}
use Rattle.isp_base.specs.Types.{gang_width}
use Rattle.isp_base.specs.Values.{number}
use Rattle.isp_base.specs.declared.types.Elem.TheVariants.{I32}
use Rattle.isp_base.specs.declared.types.Rate.TheVariants.{Uniform}
use Rattle.isp_typed.specs.Typed.{TExpr, TRange}
use Rattle.isp_typed.specs.declared.expr.TypedExpr.{TypedExpr}
use Rattle.isp_typed.specs.declared.stmt.TypedRange.{TypedRange}
use Rattle.isp_typed.specs.declared.stmt.TypedStmt.{TypedStmt}
use Rattle.isp_typed.specs.Views.{expr_of, ranges_of, stmt_of, program_of}
use Rattle.isp_meaning.specs.State.{State, Frame, tick}
use Rattle.isp_meaning.specs.Payloads.{Payload, One, sole}
use Rattle.isp_meaning.specs.Places.{written}
use Rattle.isp_meaning.specs.Outcomes.{Val, Gives, Fails, Stops, Res, go_on, with_value, bind}
use Rattle.isp_meaning.specs.Expressions.{value}
use Rattle.isp_meaning.specs.Rounds as Meaning
use Rattle.isp_meaning.specs.Rounds.{Round, rounds, active_rounds, round_of_one, foreach_rounds, round_of_run, counted, set_indices}
use Rattle.isp_meaning.specs.Statements.{ranges}
use Rattle.isp_meaning.specs.Calls.{calls_at}
use Rattle.isp_gang_values.specs.Seen.{payload_of}
use Rattle.isp_gang_values.specs.declared.computed.Computed.TheVariants as computed
use Rattle.isp_gang_values.specs.Left.{range_seen, restarted, runs_left, advanced, indices_now, members_now, is_ready}
use Rattle.isp_gang_run.specs.Foreach.{begins, bounds_in, bounds_from, foreaches, actives}
use Rattle.isp_gang_run.specs.Tasks.{Store, Goes, On, Trapped, First, Changes, go, ran, does, rest, Comes, store_seen, parts_seen, all_parts, value_at, run_in, rounds_from, ended, found}
use Rattle.isp_gang_run.specs.declared.rounds.Bounds.{Bounds}
use Rattle.isp_gang_run.specs.declared.rounds.Members.{Members}
use Rattle.isp_gang_values.specs.declared.ranges.Range.{Range}
use Rattle.isp_gang_run.specs.declared.rounds.Rounds.{Rounds}
use Rattle.isp_gang_run.specs.declared.counting.Work.{Work}
use Rattle.isp_gang_run.specs.declared.state.Evaluator.{Evaluator}
use Rattle.isp_gang_run.specs.declared.state.Sets.{Sets}
use Rattle.isp_gang_run.specs.declared.tasks.Task.{Task}
use Rattle.isp_gang_run.specs.declared.tasks.Task.TheVariants as task
use Rattle.isp_gang_run.proofs.Runs.{reran, then_ran}
use Rattle.isp_gang_run.proofs.Branching.{comes_same, leaves}
use Rattle.isp_gang_run.proofs.Changes.{changed_rest, changed_store}
use Rattle.isp_gang_run.proofs.Counts.{Adds, work_of, counts_same}
use Rattle.isp_gang_run.proofs.Arms.{ticked, value_first, worked}
use Rattle.isp_gang_values.proofs.Left.{left_begins, next_run}
use Rattle.isp_meaning.proofs.Members.{lowest_first, none_listed}

-- ---- a round, and then the others

module _ (old mid new : Evaluator) where
  pub round_goes : (f : State → State) (x : Bor TypedStmt) (set : List Bool) (t : Task) (k : Frame → ℕ → State → Res) → Changes old mid f → ((q : Store) → does old t q ≡ ran q (k q.frame q.left q.state)) → First mid new (task.Run x set) t
      → Comes old new (λ r. ran r (go_on (run_in (program_of old.program.now) old.turns r.frame r.left (stmt_of x.now) (flag_of set) (f r.state)) (λ s g b c q. k r.frame r.left s)))
  round_goes f x set t k c is g =
      record {
        by = λ w.
            let r = store_seen old w in
            let v = run_in (program_of old.program.now) old.turns r.frame r.left (stmt_of x.now) (flag_of set) (f r.state) in (
              w,
              then_ran r v (λ fr l s p. k fr l s) (rest old)
                  ∙ after (ran r v) (rest old)
                  ∙ ap (λ y. go y (λ q. go (does old t q) (rest old))) (sym (reran r (f r.state) r.value r.parts v))
                  ∙ sym (ap₂ (λ (h : Task → Store → Goes) (y : Store). go (h (task.Run x set) y) (λ q. go (h t q) (rest old))) (ap (λ (e : Evaluator). does e) c.same) (changed_store old mid f c w))
                  ∙ sym (ap (λ (h : Store → Goes). go (does mid (task.Run x set) (store_seen mid w)) (λ q. go (does mid t q) h)) (changed_rest old mid f c))
                  ∙ sym (g.by w),
            );
        counts = λ w n. counts_same old new w (g.work ∙ ap work_of c.same) n;
      }
    where
      after : (g : Goes) (next : Store → Goes) → go g (λ q. go (ran q (k q.frame q.left q.state)) next) ≡ go g (λ q. go (does old t q) next)
      after (On q) next = ap (λ y. go y next) (sym (is q))
      after (Trapped x1 s1) next = refl
      after (Goes.Cut s1) next = refl

-- ---- foreach_active

module _ (old : Evaluator) (b : Box Members Global) (index : ℕ) (body : Bor TypedStmt) (left set : List Bool) (is : b.value ≡ record { index = index; body = body; left = left; set = set }) where
  abbrev actives_in : Mask → Frame → ℕ → State → Res
  actives_in a fr l s = rounds (run_in (program_of old.program.now) old.turns fr l (stmt_of body.now)) (flag_of set) (active_rounds (gang_width old.program.now.gang) index a) s

  members_are : (r : Store) → does old (task.Members b) r ≡ ran r (actives_in (flag_of left) r.frame r.left r.state)
  members_are r =
      ap (λ (m : Members). ran r (rounds (run_in (program_of old.program.now) old.turns r.frame r.left (stmt_of m.body.now)) (flag_of m.set) (active_rounds (gang_width old.program.now.gang) m.index (flag_of m.left)) r.state)) is

  pub no_member : (new : Evaluator) (sets : Sets) → lowest (gang_width old.program.now.gang) (flag_of left) ≡ None
      → parts_seen sets ≡ all_parts (flag_of set) → new ≡ record old { value = computed.One 0; sets = sets }
      → Comes old new (does old (task.Members b))
  no_member new sets none e same =
      leaves old new (does old (task.Members b)) sets (all_parts (flag_of set)) same e
      (λ w.
      let r = store_seen old w in
      members_are r
      ∙ ap (λ ps. ran r (rounds (run_in (program_of old.program.now) old.turns r.frame r.left (stmt_of body.now)) (flag_of set) (map (round_of_one index) ps) r.state)) (none_listed (gang_width old.program.now.gang) (flag_of left) none))

  pub member_goes : (mid new : Evaluator) (work : Work) (one : Adds old work 1) (p : ℕ) (set1 left1 : List Bool) (d : Box Members Global) → lowest (gang_width old.program.now.gang) (flag_of left) ≡ Some p → flag_of set1 ≡ lone (Some p)
      → flag_of left1 ≡ without (flag_of left) (flag_of set1) → d.value ≡ record { index = index; body = body; left = left1; set = set }
      → Changes (record old { work = work }) mid (written Uniform index (flag_of set1) (One p))
      → First mid new (task.Run body set1) (task.Members d)
      → Comes old new (does old (task.Members b))
  member_goes mid new work one p set1 left1 d some alone others held c g =
      comes_same old new (does old (task.Members b)) (λ r. ran r (turn r.frame r.left (tick r.state)))
      (λ w.
      let r = store_seen old w in
      members_are r
      ∙ ap (λ ps. ran r (rounds (run_in (program_of old.program.now) old.turns r.frame r.left (stmt_of body.now)) (flag_of set) (map (round_of_one index) ps) r.state)) (lowest_first (gang_width old.program.now.gang) (flag_of left) p some)
      ∙ ap (λ (a : Mask). ran r (go_on (run_in (program_of old.program.now) old.turns r.frame r.left (stmt_of body.now) a
      (written Uniform index a (One p) (tick r.state))) (λ s g b c q. actives_in (without (flag_of left) a) r.frame r.left s))) (sym alone)
      ∙ ap (λ (a : Mask). ran r (go_on (run_in (program_of old.program.now) old.turns r.frame r.left (stmt_of body.now) (flag_of set1)
      (written Uniform index (flag_of set1) (One p) (tick r.state))) (λ s g b c q. actives_in a r.frame r.left s))) (sym others))
      (ticked old new turn work one
      (round_goes (record old { work = work }) mid new (written Uniform index (flag_of set1) (One p)) body set1 (task.Members d) (actives_in (flag_of left1)) c
      (λ r. ap (λ (m : Members). ran r (rounds (run_in (program_of old.program.now) old.turns r.frame r.left (stmt_of m.body.now)) (flag_of m.set) (active_rounds (gang_width old.program.now.gang) m.index (flag_of m.left)) r.state)) held) g))
    where
      turn : Frame → ℕ → State → Res
      turn fr l s = go_on (run_in (program_of old.program.now) old.turns fr l (stmt_of body.now) (flag_of set1) (written Uniform index (flag_of set1) (One p) s)) (λ s1 g b c q. actives_in (flag_of left1) fr l s1)

pub active_comes : (old new : Evaluator) (work : Work) (one : Adds old work 1) (b : Box Members Global) (index : ℕ) (body : Bor TypedStmt) (set : List Bool) → b.value ≡ record { index = index; body = body; left = set; set = set }
    → Comes (record old { work = work }) new (does old (task.Members b)) → Comes old new (actives old index body (flag_of set))
active_comes old new work one b index body set is c =
    ticked old new (actives_in old b index body set set is (flag_of set)) work one
    (comes_same (record old { work = work }) new (λ r. ran r (actives_in old b index body set set is (flag_of set) r.frame r.left r.state)) (does old (task.Members b)) (λ w. sym (members_are old b index body set set is (store_seen old w))) c)

-- ---- the bounds of a foreach

with_bind : {A B : Type 0} (v : Val A) (f : A → State → Val B) (k : B → State → Res) → with_value (bind v f) k ≡ with_value v (λ m s. with_value (f m s) k)
with_bind (Gives m s) f k = refl
with_bind (Fails t s) f k = refl
with_bind (Stops s) f k = refl

no_more : {A : Type 0} (xs : List A) → xs ++ [] ≡ xs
no_more [] = refl
no_more (x ∷ xs) = ap (λ ys. x ∷ ys) (no_more xs)

pub seen_more : (xs : List Range) (x : Range) → map range_seen (xs ++ x ∷ []) ≡ map range_seen xs ++ range_seen x ∷ []
seen_more [] x = refl
seen_more (y ∷ xs) x = ap (λ ys. range_seen y ∷ ys) (seen_more xs x)

one_more : (v : Val (List Meaning.Range)) (x : Meaning.Range) (before : List Meaning.Range) (k : List Meaning.Range → State → Res)
    → with_value (bind v (λ xs s. Gives (x ∷ xs) s)) (λ ys s. k (before ++ ys) s) ≡ with_value v (λ xs s. k ((before ++ x ∷ []) ++ xs) s)
one_more (Gives xs s) x before k = ap (λ ys. k ys s) (sym (append_assoc before (x ∷ []) xs))
one_more (Fails t s) x before k = refl
one_more (Stops s) x before k = refl

module _ (old new : Evaluator) (body : Bor TypedStmt) (set : List Bool) where
  pub foreach_comes : (work : Work) (one : Adds old work 1) (rs : List TRange) (done : List Range) → done ≡ []
      → Comes (record old { work = work }) new (bounds_from old rs (map range_seen done) body (flag_of set))
      → Comes old new (foreaches old rs body (flag_of set))
  foreach_comes work one rs done none c =
      ticked old new (bounds_in old rs [] body (flag_of set)) work one
      (subst (λ (ds : List Range). Comes (record old { work = work }) new (bounds_from old rs (map range_seen ds) body (flag_of set))) none c)

  pub bounds_end : (rs : List TRange) (before : List Meaning.Range) → rs ≡ [] → Comes old new (begins old before body (flag_of set)) → Comes old new (bounds_from old rs before body (flag_of set))
  bounds_end rs before none c =
      subst (λ ys. Comes old new (bounds_from old ys before body (flag_of set))) (sym none)
      (subst (λ ys. Comes old new (begins old ys body (flag_of set))) (sym (no_more before)) c)

  pub bounds_next : (rs : List TypedRange) (x : Bor TypedRange) (xs : Bor (List TypedRange)) (done : Vec Range Global) (b : Box Bounds Global)
      (y : Bor TypedExpr) → rs ≡ x.now ∷ xs.now → b.value ≡ record { range = x; rest = xs; done = done; body = body; set = set } → y.now ≡ x.now.start
      → First old new (task.Value y set) (task.Start b) → Comes old new (bounds_from old (ranges_of rs) (map range_seen done.items) body (flag_of set))
  bounds_next rs x xs done b y is held at g =
      subst (λ (ys : List TypedRange). Comes old new (bounds_from old (ranges_of ys) (map range_seen done.items) body (flag_of set))) (sym is)
      (subst (λ (d : Bounds). Comes old new (bounds_from old (ranges_of (d.range.now ∷ d.rest.now)) (map range_seen d.done.items) d.body (flag_of d.set))) held
      (comes_same old new (bounds_from old (ranges_of (b.value.range.now ∷ b.value.rest.now)) (map range_seen b.value.done.items) b.value.body (flag_of b.value.set))
      (λ r. ran r (with_value (value_at (program_of old.program.now) old.turns r (expr_of y.now) (flag_of set) r.state) (then_end r.frame r.left)))
      (λ w.
      let r = store_seen old w in
      ap (ran r) (with_bind (value_in r.frame r.left (expr_of b.value.range.now.start) (flag_of b.value.set) r.state)
      (λ m s1. bind (value_in r.frame r.left (expr_of b.value.range.now.end) (flag_of b.value.set) s1)
      (ended (program_of old.program.now) old.turns b.value.range.now.index (number I32 (sole m)) (ranges_of b.value.rest.now)
      (flag_of b.value.set) r.frame r.left)) (found (program_of old.program.now) old.turns b.value r.frame r.left))
      ∙ ap₂ (λ (z : TypedExpr) (a : Mask). ran r (with_value (value_in r.frame r.left (expr_of z) a r.state) (then_end r.frame r.left))) (ap (λ (d : Bounds). d.range.now.start) held ∙ sym at) (ap (λ (d : Bounds). flag_of d.set) held))
      (value_first old new y set (task.Start b) then_end (λ q. refl) g)))
    where
      value_in : Frame → ℕ → TExpr → Mask → State → Val Payload
      value_in fr l z a s = value (gang_width old.program.now.gang) fr (calls_at (program_of old.program.now) old.turns l) z a s

      then_end : Frame → ℕ → Payload → State → Res
      then_end fr l m s =
          with_value (bind (value_in fr l (expr_of b.value.range.now.end) (flag_of b.value.set) s)
          (ended (program_of old.program.now) old.turns b.value.range.now.index (number I32 (sole m)) (ranges_of b.value.rest.now)
          (flag_of b.value.set) fr l)) (found (program_of old.program.now) old.turns b.value fr l)

module _ (old new : Evaluator) (b : Box Bounds Global) where
  pub start_goes : (start : ℕ) (y : Bor TypedExpr) (set : List Bool) → start ≡ sole (payload_of old.value) → y.now ≡ b.value.range.now.end
      → set ≡ b.value.set → First old new (task.Value y set) (task.End start b) → Comes old new (does old (task.Start b))
  start_goes start y set is at all g =
      comes_same old new (does old (task.Start b)) (λ r. ran r (with_value (value_at (program_of old.program.now) old.turns r (expr_of y.now) (flag_of set) r.state) (then_found r.frame r.left)))
      (λ w.
      let r = store_seen old w in
      ap (λ z. ran r (with_value (bind (value_in r.frame r.left (expr_of b.value.range.now.end) (flag_of b.value.set) r.state)
      (ended (program_of old.program.now) old.turns b.value.range.now.index (number I32 z) (ranges_of b.value.rest.now) (flag_of b.value.set)
      r.frame r.left)) (found (program_of old.program.now) old.turns b.value r.frame r.left))) (sym is)
      ∙ ap (ran r) (with_bind (value_in r.frame r.left (expr_of b.value.range.now.end) (flag_of b.value.set) r.state)
      (ended (program_of old.program.now) old.turns b.value.range.now.index (number I32 start) (ranges_of b.value.rest.now) (flag_of b.value.set)
      r.frame r.left) (found (program_of old.program.now) old.turns b.value r.frame r.left))
      ∙ ap₂ (λ (z : TypedExpr) (a : List Bool). ran r (with_value (value_in r.frame r.left (expr_of z) (flag_of a) r.state) (then_found r.frame r.left))) (sym at) (sym all))
      (value_first old new y set (task.End start b) then_found (λ q. refl) g)
    where
      value_in : Frame → ℕ → TExpr → Mask → State → Val Payload
      value_in fr l z a s = value (gang_width old.program.now.gang) fr (calls_at (program_of old.program.now) old.turns l) z a s

      then_found : Frame → ℕ → Payload → State → Res
      then_found fr l n s =
          with_value (ended (program_of old.program.now) old.turns b.value.range.now.index (number I32 start) (ranges_of b.value.rest.now) (flag_of b.value.set) fr l n s) (found (program_of old.program.now) old.turns b.value fr l)

  pub end_goes : (start : ℕ) (d : Bounds) (x : Range) (done : List Range) → d ≡ b.value → range_seen x ≡ record { index = d.range.now.index; start = number I32 start; end = number I32 (sole (payload_of old.value)) } → done ≡ d.done.items ++ x ∷ []
      → Comes old new (bounds_from old (ranges_of d.rest.now) (map range_seen done) d.body (flag_of d.set)) → Comes old new (does old (task.End start b))
  end_goes start d x done held is more c =
      comes_same old new (does old (task.End start b)) (bounds_from old (ranges_of d.rest.now) (map range_seen done) d.body (flag_of d.set))
      (λ w.
      let r = store_seen old w in
      let k = λ (u : Bounds) (z : Meaning.Range). ran r
      (with_value (bind (ranges (gang_width old.program.now.gang) r.frame (calls_at (program_of old.program.now) old.turns r.left)
      (ranges_of u.rest.now) (flag_of u.set) r.state) (λ xs s1. Gives (z ∷ xs) s1))
      (found (program_of old.program.now) old.turns u r.frame r.left)) in
      ap (λ (u : Bounds). k u (record { index = u.range.now.index; start = number I32 start; end = number I32 (sole (payload_of old.value)) })) (sym held)
      ∙ ap (k d) (sym is)
      ∙ ap (ran r) (one_more (ranges (gang_width old.program.now.gang) r.frame (calls_at (program_of old.program.now) old.turns r.left)
      (ranges_of d.rest.now) (flag_of d.set) r.state) (range_seen x) (map range_seen d.done.items)
      (rounds_from (program_of old.program.now) old.turns r.frame r.left (stmt_of d.body.now) (flag_of d.set)))
      ∙ ap (λ ys. bounds_from old (ranges_of d.rest.now) ys d.body (flag_of d.set) r) (sym (seen_more d.done.items x) ∙ ap (map range_seen) (sym more))) c

-- ---- the runs of a foreach

abbrev runs_in : List Round → Bor TypedStmt → List Bool → Evaluator → Frame → ℕ → State → Res
runs_in xs body set e fr l s = rounds (run_in (program_of e.program.now) e.turns fr l (stmt_of body.now)) (flag_of set) xs s

pub begins_goes : (old new : Evaluator) (work : Work) (b : Box Rounds Global) (rs : List Range) (v : Vec Range Global) (body : Bor TypedStmt) (set : List Bool) → v.items ≡ restarted 0 rs → b.value ≡ record { ranges = v; body = body; set = set }
    → Adds old work (counted (gang_width old.program.now.gang) 1 (map range_seen rs))
    → Comes (record old { work = work }) new (does old (task.Rounds b)) → Comes old new (begins old (map range_seen rs) body (flag_of set))
begins_goes old new work b rs v body set anew held more c =
    let xs = foreach_rounds (gang_width old.program.now.gang) (map range_seen rs) in
    worked old new (runs_in xs body set old) (counted (gang_width old.program.now.gang) 1 (map range_seen rs)) work more
    (comes_same (record old { work = work }) new (λ r. ran r (runs_in xs body set old r.frame r.left r.state)) (does old (task.Rounds b))
    (λ w.
    let r = store_seen old w in
    sym (ap (λ (d : Rounds). ran r (rounds (run_in (program_of old.program.now) old.turns r.frame r.left (stmt_of d.body.now)) (flag_of d.set) (map round_of_run (runs_left (gang_width old.program.now.gang) d.ranges.items)) r.state)) held
    ∙ ap (λ ys. ran r (runs_in (map round_of_run (runs_left (gang_width old.program.now.gang) ys)) body set old r.frame r.left r.state)) anew
    ∙ ap (λ ys. ran r (runs_in (map round_of_run ys) body set old r.frame r.left r.state)) (left_begins old.program.now.gang rs))) c)

module _ (old new : Evaluator) (b : Box Rounds Global) where
  -- what is left is the same
  pub rounds_same : (d : Box Rounds Global) → d.value.body ≡ b.value.body → d.value.set ≡ b.value.set → runs_left (gang_width old.program.now.gang) d.value.ranges.items ≡ runs_left (gang_width old.program.now.gang) b.value.ranges.items
      → Comes old new (does old (task.Rounds d)) → Comes old new (does old (task.Rounds b))
  rounds_same d eb es er c =
      comes_same old new (does old (task.Rounds b)) (does old (task.Rounds d))
      (λ w.
      let r = store_seen old w in
      sym (ap (λ ys. ran r (runs_in (map round_of_run ys) d.value.body d.value.set old r.frame r.left r.state)) er
      ∙ ap₂ (λ (y : Bor TypedStmt) (a : List Bool). ran r (runs_in (map round_of_run (runs_left (gang_width old.program.now.gang) b.value.ranges.items)) y a old r.frame r.left r.state)) eb es)) c

  pub no_round : (sets : Sets) → runs_left (gang_width old.program.now.gang) b.value.ranges.items ≡ []
      → parts_seen sets ≡ all_parts (flag_of b.value.set) → new ≡ record old { value = computed.One 0; sets = sets }
      → Comes old new (does old (task.Rounds b))
  no_round sets none e same =
      leaves old new (does old (task.Rounds b)) sets (all_parts (flag_of b.value.set)) same e
      (λ w. let r = store_seen old w in ap (λ ys. ran r (runs_in (map round_of_run ys) b.value.body b.value.set old r.frame r.left r.state)) none)

  pub one_round : (mid : Evaluator) (set1 : List Bool) (d : Box Rounds Global) → is_ready b.value.ranges.items ≡ true → flag_of set1 ≡ members_now (gang_width old.program.now.gang) b.value.ranges.items
      → Changes old mid (set_indices (flag_of set1) (indices_now b.value.ranges.items)) → d.value.body ≡ b.value.body → d.value.set ≡ b.value.set → d.value.ranges.items ≡ advanced (gang_width old.program.now.gang) b.value.ranges.items
      → (y : Bor TypedStmt) → y ≡ b.value.body → First mid new (task.Run y set1) (task.Rounds d) → Comes old new (does old (task.Rounds b))
  one_round mid set1 d ready on c eb es er y ey h =
      let g = subst (λ (z : Bor TypedStmt). First mid new (task.Run z set1) (task.Rounds d)) ey h in
      comes_same old new (does old (task.Rounds b)) (λ r. ran r
      (go_on (run_in (program_of old.program.now) old.turns r.frame r.left (stmt_of b.value.body.now) (flag_of set1)
      (set_indices (flag_of set1) (indices_now rs) r.state)) (λ s g1 b1 c1 q1. others r.frame r.left s)))
      (λ w.
      let r = store_seen old w in
      ap (λ ys. ran r (runs_in (map round_of_run ys) b.value.body b.value.set old r.frame r.left r.state)) (next_run old.program.now.gang rs ready)
      ∙ ap (λ (a : Mask). ran r (go_on (run_in (program_of old.program.now) old.turns r.frame r.left (stmt_of b.value.body.now) a (set_indices a (indices_now rs) r.state)) (λ s g1 b1 c1 q1. others r.frame r.left s))) (sym on))
      (round_goes old mid new (set_indices (flag_of set1) (indices_now rs)) b.value.body set1 (task.Rounds d) others c
      (λ q.
      ap (λ ys. ran q (runs_in (map round_of_run (runs_left (gang_width old.program.now.gang) ys)) d.value.body d.value.set old q.frame q.left q.state)) er
      ∙ ap₂ (λ (y : Bor TypedStmt) (a : List Bool). ran q (runs_in (map round_of_run (runs_left (gang_width old.program.now.gang) (advanced (gang_width old.program.now.gang) rs))) y a old q.frame q.left q.state)) eb es) g)
    where
      rs : List Range
      rs = b.value.ranges.items

      others : Frame → ℕ → State → Res
      others fr l s = runs_in (map round_of_run (runs_left (gang_width old.program.now.gang) (advanced (gang_width old.program.now.gang) rs))) b.value.body b.value.set old fr l s

pub none_of : {A : Type 0} (xs : List A) → length xs < 1 → xs ≡ []
none_of [] h = refl
none_of (x ∷ xs) h = absurd (omega (arith, h))
