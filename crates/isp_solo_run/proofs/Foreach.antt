-- What a `foreach` leaves to be done: its bounds, and then its runs.
use Rattle.std.proofs.Math.Nat.{mul-le-mul_right}
use Rattle.std.proofs.Common.{◌≡◌, refl, sym, ap, ap₂, subst, ◌∙◌, ◌*◌, ◌^◌, ◌≤◌, arith, length, zero, suc, ℕ, List, [], ◌∷◌, ◌++◌, map, Bor, Box, Vec, Global, Bool, true, false, Result, append_assoc}
use Rattle.std.proofs.lemmas.List.{append-nil}
use Rattle.isp_base.specs.Types.{gang_width}
use Rattle.isp_typed.specs.declared.expr.TypedExpr.{TypedExpr}
use Rattle.isp_typed.specs.declared.stmt.TypedRange.{TypedRange}
use Rattle.isp_typed.specs.declared.stmt.TypedStmt.{TypedStmt}
use Rattle.isp_typed.specs.Views.{expr_of, ranges_of, stmt_of}
use Rattle.isp_meaning.specs.Rounds as Meaning
use Rattle.isp_meaning.specs.Rounds.{Run, runs_of}
use Rattle.isp_meaning.specs.State.{Frame}
use Rattle.isp_solo_meaning.specs.Alone.{Alone}
use Rattle.isp_solo_meaning.specs.Answers.{Answer, Has, Bad, Long, End, Does, Dies, Lasts, and_then, with_answer, choose, then_always}
use Rattle.isp_solo_meaning.specs.Does.{bounds}
use Rattle.isp_solo_meaning.specs.Loops.{at_indices}
use Rattle.isp_gang_values.specs.Left.{range_seen, restarted, runs_left, advanced, indices_now, members_now, is_ready}
use Rattle.isp_typed.specs.Typed.{TRange}
use Rattle.isp_meaning.specs.Rounds.{length_of}
use Rattle.isp_solo_run.specs.Due.{call_due, value_due, run_due, bounds_due, end_due, rounds_due}
use Rattle.isp_solo_run.specs.Most.{one, two, rounds_most, runs_most, bounds_most}
use Rattle.isp_solo_run.specs.Tasks.{DoesTask, Waits, WaitBoth, Bounded, Begins, both_due}
use Rattle.isp_solo_run.specs.Tasks.{Store, Goes, Changes, Tells, go, given, ran, leaves, finds, bounds_on, begins_on, bound_by, found_range, range_then, end_then, runs_in}
use Rattle.isp_solo_run.specs.Tasks.{round_on, does_task, does_both, store_seen, state_seen, bound_in, calls_in, value_at, run_in, rest}
use Rattle.isp_solo_run.specs.declared.rounds.Bounds.{Bounds}
use Rattle.isp_gang_values.specs.declared.ranges.Range.{Range}
use Rattle.isp_solo_run.specs.declared.rounds.Rounds.{Rounds}
use Rattle.isp_solo_run.specs.declared.state.How.TheVariants as how
use Rattle.isp_solo_run.specs.declared.state.Single.{Single}
use Rattle.isp_solo_run.specs.declared.state.Stop.{Stop}
use Rattle.isp_solo_run.specs.declared.tasks.Task.TheVariants as task
use Rattle.isp_gang_values.proofs.Left.{left_begins, next_run}
use Rattle.isp_solo_run.proofs.Counts.{runs_few, runs_more, few_numbers}
use Rattle.isp_solo_run.proofs.Steps.{changed_store, tells_by, tells_from, tells_within}

-- ---- bounds

module _ (old : Single) (b : Bounds) where
  one_found : (r : Store) (x : Meaning.Range) (before : List Meaning.Range) (v : Answer (List Meaning.Range))
      → ran r (with_answer (and_then v (λ xs s. Has (x ∷ xs) s)) (bound_by old.setting b.body before r.frame r.left)) ≡ ran r (with_answer v (bound_by old.setting b.body (before ++ x ∷ []) r.frame r.left))
  one_found r x before (Has xs s) = ap (λ ys. ran r (runs_in old.setting r.frame r.left b.body (runs_of (gang_width old.setting.program.now.gang) ys) s)) (sym (append_assoc before (x ∷ []) xs))
  one_found r x before (Bad t s) = refl
  one_found r x before (Long s) = refl

  -- the bounds after this range
  abbrev others : Store → Alone → Answer (List Meaning.Range)
  others r s = bounds (bound_in old.setting) old.setting.instance r.frame (calls_in old.setting r.left) (ranges_of b.rest.now) s

  end_found : (r : Store) (i : ℕ) (w : Answer ℕ)
      → ran r (with_answer (and_then w (λ j s2. and_then (others r s2) (λ xs s3. Has (found_range b i j ∷ xs) s3))) (bound_by old.setting b.body (map range_seen b.done.items) r.frame r.left))
      ≡ go (given r w) (λ q. range_then old.setting b i q.value q)
  end_found r i (Has j s) = one_found r (found_range b i j) (map range_seen b.done.items) (others r s)
  end_found r i (Bad t s) = refl
  end_found r i (Long s) = refl

  start_found : (r : Store) (w : Answer ℕ)
      → ran r (with_answer (and_then w (λ i s1. and_then (value_at old.setting r (expr_of b.range.now.end) s1)
      (λ j s2. and_then (others r s2) (λ xs s3. Has (found_range b i j ∷ xs) s3))))
      (bound_by old.setting b.body (map range_seen b.done.items) r.frame r.left))
      ≡ go (given r w) (λ q. end_then old.setting b q.value q)
  start_found r (Has i s) = end_found r i (value_at old.setting r (expr_of b.range.now.end) s)
  start_found r (Bad t s) = refl
  start_found r (Long s) = refl

module _ (old : Single) (r : Store) where
  pub bounds_end : (rs : List TypedRange) (before : List Meaning.Range) (body : Bor TypedStmt) → rs ≡ [] → bounds_on old (ranges_of rs) before body r ≡ begins_on old before body r
  bounds_end rs before body none =
      ap (λ ys. bounds_on old (ranges_of ys) before body r) none
      ∙ ap (λ ys. begins_on old ys body r) (append-nil before)

  pub bounds_next : (xs : List TypedRange) (y : Bor TypedRange) (zs : Bor (List TypedRange)) (done : Vec Range Global) (body : Bor TypedStmt)
      (b : Box Bounds Global) (x : Bor TypedExpr) → xs ≡ y.now ∷ zs.now → b.value ≡ record { range = y; rest = zs; done = done; body = body }
      → x.now ≡ y.now.start
      → bounds_on old (ranges_of xs) (map range_seen done.items) body r ≡ does_both old (task.Value x) (task.Start b) r
  bounds_next xs y zs done body b x is held at =
      let d : Bounds = record { range = y; rest = zs; done = done; body = body } in
      ap (λ us. bounds_on old (ranges_of us) (map range_seen done.items) body r) is
      ∙ start_found old d r (value_at old.setting r (expr_of y.now.start) r.state)
      ∙ ap₂ (λ (e : TypedExpr) (u : Bounds). go (finds old (expr_of e) r) (λ q. end_then old.setting u q.value q)) (sym at) (sym held)

  pub start_is : (b : Box Bounds Global) (i : ℕ) (x : Bor TypedExpr) → i ≡ r.value → x.now ≡ b.value.range.now.end → does_task old (task.Start b) r ≡ does_both old (task.Value x) (task.End i b) r
  start_is b i x is at =
      ap₂ (λ (n : ℕ) (e : TypedExpr). go (finds old (expr_of e) r) (λ q. range_then old.setting b.value n q.value q)) (sym is) (sym at)

  seen_more : (xs : List Range) (x : Range) → map range_seen (xs ++ x ∷ []) ≡ map range_seen xs ++ range_seen x ∷ []
  seen_more [] x = refl
  seen_more (y ∷ xs) x = ap (λ ys. range_seen y ∷ ys) (seen_more xs x)

  pub end_is : (b : Box Bounds Global) (i : ℕ) (d : Bounds) (x : Range) (done : List Range) → d ≡ b.value → range_seen x ≡ found_range d i r.value → done ≡ d.done.items ++ x ∷ []
      → does_task old (task.End i b) r ≡ bounds_on old (ranges_of d.rest.now) (map range_seen done) d.body r
  end_is b i d x done held is more =
      ap (λ (u : Bounds). range_then old.setting u i r.value r) (sym held)
      ∙ ap (λ z. bounds_on old (ranges_of d.rest.now) (map range_seen d.done.items ++ z ∷ []) d.body r) (sym is)
      ∙ ap (λ ys. bounds_on old (ranges_of d.rest.now) ys d.body r) (sym (seen_more d.done.items x) ∙ ap (map range_seen) (sym more))

  -- ---- runs

  pub begins_is : (b : Box Rounds Global) (rs : List Range) (v : Vec Range Global) (body : Bor TypedStmt) → v.items ≡ restarted 0 rs
      → b.value ≡ record { ranges = v; body = body } → begins_on old (map range_seen rs) body r ≡ does_task old (task.Rounds b) r
  begins_is b rs v body anew held =
      sym (ap (λ (d : Rounds). round_on old.setting d r) held
      ∙ ap (λ ys. ran r (runs_in old.setting r.frame r.left body (runs_left (gang_width old.setting.program.now.gang) ys) r.state)) anew
      ∙ ap (λ ys. ran r (runs_in old.setting r.frame r.left body ys r.state)) (left_begins old.setting.program.now.gang rs))

  -- what is left is the same
  pub rounds_same : (b d : Box Rounds Global) → d.value.body ≡ b.value.body → runs_left (gang_width old.setting.program.now.gang) d.value.ranges.items ≡ runs_left (gang_width old.setting.program.now.gang) b.value.ranges.items
      → does_task old (task.Rounds b) r ≡ does_task old (task.Rounds d) r
  rounds_same b d eb er =
      sym (ap (λ ys. ran r (runs_in old.setting r.frame r.left d.value.body ys r.state)) er
      ∙ ap (λ (y : Bor TypedStmt). ran r (runs_in old.setting r.frame r.left y (runs_left (gang_width old.setting.program.now.gang) b.value.ranges.items) r.state)) eb)

  pub no_round : (b : Box Rounds Global) → runs_left (gang_width old.setting.program.now.gang) b.value.ranges.items ≡ [] → does_task old (task.Rounds b) r ≡ leaves how.Going r
  no_round b none = ap (λ ys. ran r (runs_in old.setting r.frame r.left b.value.body ys r.state)) none

  -- the next run, and the others
  abbrev round_or : Bor TypedStmt → List Range → Bool → Goes
  round_or body rs t =
      let others = runs_in old.setting r.frame r.left body (runs_left (gang_width old.setting.program.now.gang) (advanced (gang_width old.setting.program.now.gang) rs)) in
      ran r (choose t (λ s. then_always (run_in old.setting r.frame r.left (stmt_of body.now) (at_indices old.setting.instance (indices_now rs) s)) others) others r.state)

  round_is : (b : Box Rounds Global) (t : Bool) → is_ready b.value.ranges.items ≡ true
      → members_now (gang_width old.setting.program.now.gang) b.value.ranges.items old.setting.instance ≡ t
      → does_task old (task.Rounds b) r ≡ round_or b.value.body b.value.ranges.items t
  round_is b t ready on =
      ap (λ ys. ran r (runs_in old.setting r.frame r.left b.value.body ys r.state)) (next_run old.setting.program.now.gang b.value.ranges.items ready)
      ∙ ap (round_or b.value.body b.value.ranges.items) on

  pub other_is : (b d : Box Rounds Global) → is_ready b.value.ranges.items ≡ true → members_now (gang_width old.setting.program.now.gang) b.value.ranges.items old.setting.instance ≡ false
      → d.value.body ≡ b.value.body → d.value.ranges.items ≡ advanced (gang_width old.setting.program.now.gang) b.value.ranges.items → does_task old (task.Rounds b) r ≡ does_task old (task.Rounds d) r
  other_is b d ready on eb er =
      round_is b false ready on
      ∙ sym (ap (λ ys. ran r (runs_in old.setting r.frame r.left d.value.body (runs_left (gang_width old.setting.program.now.gang) ys) r.state)) er
      ∙ ap (λ (y : Bor TypedStmt). ran r (runs_in old.setting r.frame r.left y (runs_left (gang_width old.setting.program.now.gang) (advanced (gang_width old.setting.program.now.gang) b.value.ranges.items)) r.state)) eb)

ran_before : (r : Store) (e : End) (f : Frame → ℕ → Alone → End) → ran r (then_always e (f r.frame r.left)) ≡ go (ran r e) (λ q. ran q (f q.frame q.left q.state))
ran_before r (Does s h) f = refl
ran_before r (Dies t s) f = refl
ran_before r (Lasts s) f = refl

-- ---- how much is left

module _ (old : Single) (b d : Box Rounds Global) (eb : d.value.body ≡ b.value.body) where
  -- a run less
  one_less : is_ready b.value.ranges.items ≡ true → d.value.ranges.items ≡ advanced (gang_width old.setting.program.now.gang) b.value.ranges.items
      → rounds_due old.setting old.left b.value ≡ two (run_due old.setting old.left (stmt_of d.value.body.now)) (rounds_due old.setting old.left d.value)
  one_less ready er =
      ap (λ xs. rounds_most (run_due old.setting old.left (stmt_of b.value.body.now)) (length xs)) (next_run old.setting.program.now.gang b.value.ranges.items ready)
      ∙ ap₂ (λ (z : Bor TypedStmt) (ys : List Range). two (run_due old.setting old.left (stmt_of z.now)) (rounds_most (run_due old.setting old.left (stmt_of z.now)) (length (runs_left (gang_width old.setting.program.now.gang) ys)))) (sym eb) (sym er)

  no_more : runs_left (gang_width old.setting.program.now.gang) d.value.ranges.items ≡ runs_left (gang_width old.setting.program.now.gang) b.value.ranges.items → rounds_due old.setting old.left d.value ≡ rounds_due old.setting old.left b.value
  no_more er = ap₂ (λ (z : Bor TypedStmt) xs. rounds_most (run_due old.setting old.left (stmt_of z.now)) (length xs)) eb er

-- fewer runs are no more
rounds_grow : (body n m : ℕ) → n ≤ m → rounds_most body n ≤ rounds_most body m
rounds_grow body zero m h = omega arith
rounds_grow body (suc n) zero h = absurd (omega (arith, h))
rounds_grow body (suc n) (suc m) h = let k = rounds_grow body n m (omega (arith, h)) in omega (arith, k)

bounds_grow : (calls : ℕ → ℕ) (body : ℕ) (rs : List TRange) (n m : ℕ) → n ≤ m → bounds_most calls body rs n ≤ bounds_most calls body rs m
bounds_grow calls body [] n m h = let k = rounds_grow body n m h in omega (arith, k)
bounds_grow calls body (r ∷ rs) n m h = let k = bounds_grow calls body rs (n * 2 ^ 32) (m * 2 ^ 32) (mul-le-mul_right (2 ^ 32) h) in omega (arith, k)

module _ (q : Result (Unit {0}) Stop) (old new : Single) where
  pub bounds_end_tells : (rs : List TypedRange) (before : List Meaning.Range) (body : Bor TypedStmt) → rs ≡ [] → Begins q old new before body → Bounded q old new (ranges_of rs) before body
  bounds_end_tells rs before body none h =
      subst (λ (ys : List TypedRange). Bounded q old new (ranges_of ys) before body) (sym none) (tells_by (bounds_due old.setting old.left [] before body) q old new (bounds_on old [] before body) (begins_on old before body) (bounds_end old (store_seen old) [] before body refl) h)

  pub bounds_next_tells : (xs : List TypedRange) (y : Bor TypedRange) (zs : Bor (List TypedRange)) (done : Vec Range Global) (body : Bor TypedStmt)
      (b : Box Bounds Global) (x : Bor TypedExpr) → xs ≡ y.now ∷ zs.now → b.value ≡ record { range = y; rest = zs; done = done; body = body }
      → x.now ≡ y.now.start → WaitBoth q old new (task.Value x) (task.Start b) → Bounded q old new (ranges_of xs) (map range_seen done.items) body
  bounds_next_tells xs y zs done body b x is held at h =
      let d : Bounds = record { range = y; rest = zs; done = done; body = body } in
      subst (λ (n : ℕ). Tells q old new (bounds_on old (ranges_of xs) (map range_seen done.items) body) n)
      (ap₂ (λ (e : TypedExpr) (u : Bounds). two (value_due old.setting old.left (expr_of e)) (two (value_due old.setting old.left (expr_of u.range.now.end)) (end_due old.setting old.left u))) at held
      ∙ sym (ap (λ us. bounds_due old.setting old.left (ranges_of us) (map range_seen done.items) body) is))
      (tells_by (both_due old (task.Value x) (task.Start b)) q old new (bounds_on old (ranges_of xs) (map range_seen done.items) body) (does_both old (task.Value x) (task.Start b)) (bounds_next old (store_seen old) xs y zs done body b x is held at) h)

  pub start_tells : (b : Box Bounds Global) (i : ℕ) (x : Bor TypedExpr) → i ≡ old.value → x.now ≡ b.value.range.now.end → WaitBoth q old new (task.Value x) (task.End i b) → DoesTask q old new (task.Start b)
  start_tells b i x is at h =
      subst (λ (n : ℕ). Tells q old new (does_task old (task.Start b)) n) (ap (λ (e : TypedExpr). two (value_due old.setting old.left (expr_of e)) (end_due old.setting old.left b.value)) at)
      (tells_by (both_due old (task.Value x) (task.End i b)) q old new (does_task old (task.Start b)) (does_both old (task.Value x) (task.End i b)) (start_is old (store_seen old) b i x is at) h)

  -- the range that was found has no more numbers than there are int32
  pub end_tells : (b : Box Bounds Global) (i : ℕ) (d : Bounds) (x : Range) (done : List Range) → d ≡ b.value → range_seen x ≡ found_range d i old.value → done ≡ d.done.items ++ x ∷ []
      → Bounded q old new (ranges_of d.rest.now) (map range_seen done) d.body → DoesTask q old new (task.End i b)
  end_tells b i d x done held is more h =
      let few : length_of (range_seen x) ≤ 2 ^ 32 = subst (λ (r : Meaning.Range). length_of r ≤ 2 ^ 32) (sym is) (few_numbers d.range.now.index i old.value) in
      let fewer : runs_most (map range_seen done) ≤ runs_most (map range_seen d.done.items) * 2 ^ 32 =
      subst (λ (rs : List Meaning.Range). runs_most rs ≤ runs_most (map range_seen d.done.items) * 2 ^ 32) (sym (ap (map range_seen) more ∙ seen_more old (store_seen old) d.done.items x)) (runs_more (map range_seen d.done.items) (range_seen x) few) in
      subst (λ (n : ℕ). Tells q old new (does_task old (task.End i b)) n) (ap (end_due old.setting old.left) held)
      (tells_within (bounds_due old.setting old.left (ranges_of d.rest.now) (map range_seen done) d.body) (end_due old.setting old.left d) q old new (does_task old (task.End i b))
      (bounds_grow (call_due old.setting old.left) (run_due old.setting old.left (stmt_of d.body.now)) (ranges_of d.rest.now) (runs_most (map range_seen done)) (runs_most (map range_seen d.done.items) * 2 ^ 32) fewer)
      (tells_by (bounds_due old.setting old.left (ranges_of d.rest.now) (map range_seen done) d.body) q old new (does_task old (task.End i b)) (bounds_on old (ranges_of d.rest.now) (map range_seen done) d.body) (end_is old (store_seen old) b i d x done held is more) h))

  pub begins_tells : (b : Box Rounds Global) (rs : List Range) (v : Vec Range Global) (body : Bor TypedStmt) → v.items ≡ restarted 0 rs
      → b.value ≡ record { ranges = v; body = body } → Waits q old new (task.Rounds b) → Begins q old new (map range_seen rs) body
  begins_tells b rs v body anew held h =
      let g = old.setting.program.now.gang in
      let is : rounds_due old.setting old.left b.value ≡ rounds_most (run_due old.setting old.left (stmt_of body.now)) (length (runs_of (gang_width g) (map range_seen rs))) =
      ap (rounds_due old.setting old.left) held ∙ ap (λ xs. rounds_most (run_due old.setting old.left (stmt_of body.now)) (length xs)) (ap (runs_left (gang_width g)) anew ∙ left_begins g rs) in
      let few = rounds_grow (run_due old.setting old.left (stmt_of body.now)) (length (runs_of (gang_width g) (map range_seen rs))) (runs_most (map range_seen rs)) (runs_few g (map range_seen rs)) in
      tells_within (one (rounds_due old.setting old.left b.value)) (bounds_due old.setting old.left [] (map range_seen rs) body) q old new (begins_on old (map range_seen rs) body) (omega (arith, is, few))
      (tells_by (one (rounds_due old.setting old.left b.value)) q old new (begins_on old (map range_seen rs) body) (does_task old (task.Rounds b)) (begins_is old (store_seen old) b rs v body anew held) h)

  pub same_tells : (b d : Box Rounds Global) → d.value.body ≡ b.value.body → runs_left (gang_width old.setting.program.now.gang) d.value.ranges.items ≡ runs_left (gang_width old.setting.program.now.gang) b.value.ranges.items
      → DoesTask q old new (task.Rounds d) → DoesTask q old new (task.Rounds b)
  same_tells b d eb er h =
      subst (λ (n : ℕ). Tells q old new (does_task old (task.Rounds b)) n) (no_more old b d eb er)
      (tells_by (rounds_due old.setting old.left d.value) q old new (does_task old (task.Rounds b)) (does_task old (task.Rounds d)) (rounds_same old (store_seen old) b d eb er) h)

  pub no_round_tells : (b : Box Rounds Global) → runs_left (gang_width old.setting.program.now.gang) b.value.ranges.items ≡ [] → Tells q old new (leaves how.Going) 0 → DoesTask q old new (task.Rounds b)
  no_round_tells b none h =
      tells_within 0 (rounds_due old.setting old.left b.value) q old new (does_task old (task.Rounds b)) (omega arith)
      (tells_by 0 q old new (does_task old (task.Rounds b)) (leaves how.Going) (no_round old (store_seen old) b none) h)

  pub other_tells : (b d : Box Rounds Global) → is_ready b.value.ranges.items ≡ true → members_now (gang_width old.setting.program.now.gang) b.value.ranges.items old.setting.instance ≡ false
      → d.value.body ≡ b.value.body → d.value.ranges.items ≡ advanced (gang_width old.setting.program.now.gang) b.value.ranges.items → Waits q old new (task.Rounds d) → DoesTask q old new (task.Rounds b)
  other_tells b d ready on eb er h =
      let less = one_less old b d eb ready er in
      tells_within (one (rounds_due old.setting old.left d.value)) (rounds_due old.setting old.left b.value) q old new (does_task old (task.Rounds b)) (omega (arith, less))
      (tells_by (one (rounds_due old.setting old.left d.value)) q old new (does_task old (task.Rounds b)) (does_task old (task.Rounds d)) (other_is old (store_seen old) b d ready on eb er) h)

-- the instance is in the run: the indices are set, and then comes the body
pub own_tells : (q : Result (Unit {0}) Stop) (old mid new : Single) (b d : Box Rounds Global) (y : Bor TypedStmt)
    → is_ready b.value.ranges.items ≡ true → members_now (gang_width old.setting.program.now.gang) b.value.ranges.items old.setting.instance ≡ true
    → Changes old mid (at_indices old.setting.instance (indices_now b.value.ranges.items)) → d.value.body ≡ b.value.body → d.value.ranges.items ≡ advanced (gang_width old.setting.program.now.gang) b.value.ranges.items → y ≡ b.value.body
    → WaitBoth q mid new (task.Run y) (task.Rounds d) → DoesTask q old new (task.Rounds b)
own_tells q old mid new b d y ready on c eb er ey h =
    subst (λ (n : ℕ). Tells q old new (does_task old (task.Rounds b)) n)
    (ap (λ (z : Bor TypedStmt). two (run_due old.setting old.left (stmt_of z.now)) (rounds_due old.setting old.left d.value)) (ey ∙ sym eb) ∙ sym (one_less old b d eb ready er))
    (tells_from old (record old { here = mid.here; arrays = mid.arrays }) mid new (does_task old (task.Rounds b)) (λ e. does_both e (task.Run y) (task.Rounds d)) (λ e. both_due e (task.Run y) (task.Rounds d)) (λ e. e.left) c.same
    (round_is old (store_seen old) b true ready on
    ∙ changed_store old mid (at_indices old.setting.instance (indices_now b.value.ranges.items)) (λ fr l s. begun old b.value.body (advanced (gang_width old.setting.program.now.gang) b.value.ranges.items) fr l s) c
    ∙ ap₂ (λ (z : Bor TypedStmt) (ys : List Range). begun old z ys (store_seen mid).frame mid.left (state_seen mid)) (sym eb) (sym er)
    ∙ ap (λ (e : Single). begun e d.value.body d.value.ranges.items (store_seen mid).frame mid.left (state_seen mid)) (sym c.same)
    ∙ ran_before (store_seen mid) (run_in mid.setting (store_seen mid).frame mid.left (stmt_of d.value.body.now) (state_seen mid))
    (λ fr l. runs_in mid.setting fr l d.value.body (runs_left (gang_width mid.setting.program.now.gang) d.value.ranges.items))
    ∙ ap (λ (z : Bor TypedStmt). does_both mid (task.Run z) (task.Rounds d) (store_seen mid)) (eb ∙ sym ey))
    refl q h)
  where
    begun : Single → Bor TypedStmt → List Range → Frame → ℕ → Alone → Goes
    begun e body rs fr l s =
        ran (record (store_seen mid) { frame = fr; left = l }) (then_always (run_in e.setting fr l (stmt_of body.now) s) (runs_in e.setting fr l body (runs_left (gang_width e.setting.program.now.gang) rs)))
