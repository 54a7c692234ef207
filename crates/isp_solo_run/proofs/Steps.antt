-- Lists of tasks, and how what one call tells follows from what another tells.
use Rattle.std.proofs.Common.{◌≡◌, refl, sym, ap, ap₂, subst, ◌∙◌, ◌+◌, ◌<◌, ◌≤◌, arith, ℕ, List, [], ◌∷◌, ◌++◌, length, Result, Ok, Err, Vec, Global}
use Rattle.std.proofs.Math.Nat.{add_assoc}
use Rattle.std.proofs.Math.Path.{fun_ext}
use Rattle.isp_meaning.specs.State.{Frame}
use Rattle.isp_solo_meaning.specs.Alone.{Alone}
use Rattle.isp_solo_meaning.specs.Answers.{Answer, Has, Bad, Long, End, Does, Dies, Lasts, Going, Done, and_then, with_answer, then_on, then_always}
use Rattle.isp_solo_run.specs.Due.{due, left_after, left_below, task_due}
use Rattle.isp_solo_run.specs.Most.{one}
use Rattle.isp_solo_run.specs.Tasks.{TellsAt, DoesTask, Waits, WaitBoth, due_at, due_now, Store, Goes, On, Trapped, Cut, go, given, done, ran, goes, act, finish, rest, does_task, does_both, store_seen, state_seen, Tells, Ends, Changes}
use Rattle.isp_solo_run.specs.declared.state.Setting.{Setting}
use Rattle.isp_solo_run.specs.declared.state.Single.{Single}
use Rattle.isp_solo_run.specs.declared.state.Stop.{Stop}
use Rattle.isp_solo_run.specs.declared.state.Stop.TheVariants as stop
use Rattle.isp_solo_run.specs.declared.tasks.Task.{Task}
use Rattle.isp_solo_run.proofs.Lists.{nothing_left}

pub go_id : (g : Goes) → go g On ≡ g
go_id (On r) = refl
go_id (Trapped t s) = refl
go_id (Cut s) = refl

pub go_assoc : (g : Goes) (f h : Store → Goes) → go (go g f) h ≡ go g (λ r. go (f r) h)
go_assoc (On r) f h = refl
go_assoc (Trapped t s) f h = refl
go_assoc (Cut s) f h = refl

-- one more task is done before the others
pub pushed : (c : Setting) (ts : List Task) (t : Task) (r : Store) → finish c (ts ++ t ∷ []) r ≡ go (act c t r) (finish c ts)
pushed c [] t r = sym (go_id (act c t r))
pushed c (x ∷ ts) t r = ap (λ g. go g (act c x)) (pushed c ts t r) ∙ go_assoc (act c t r) (finish c ts) (act c x)

-- and counts, with what it leaves
pub below_pushed : (ts : List Task) (t : Task) (l : ℕ) → left_below (ts ++ t ∷ []) l ≡ left_below ts (left_after t l)
below_pushed [] t l = refl
below_pushed (x ∷ ts) t l = ap (left_after x) (below_pushed ts t l)

pub due_pushed : (c : Setting) (ts : List Task) (t : Task) (l : ℕ) → due c (ts ++ t ∷ []) l ≡ one (task_due c l t) + due c ts (left_after t l)
due_pushed c [] t l = omega arith
due_pushed c (x ∷ ts) t l =
    ap₂ (λ (n m : ℕ). n + one (task_due c m x)) (due_pushed c ts t l) (below_pushed ts t l)
    ∙ add_assoc (one (task_due c l t)) (due c ts (left_after t l)) (one (task_due c (left_below ts (left_after t l)) x))

pub at_most : {n m : ℕ} → n ≡ m → n ≤ m
at_most e = omega (arith, e)

-- ---- what is told

-- what there is to do after what is done next, and how much that is
abbrev pub todo : Single → (Store → Goes) × (ℕ → ℕ)
todo e = (rest e, due_at e)

pub record Pushed (old new : Single) (t : Task) : Type 0 where
  pub more : new.tasks.items ≡ old.tasks.items ++ t ∷ []
  pub same : new ≡ record old { tasks = new.tasks }

module _ (old new : Single) (t : Task) (p : Pushed old new t) where
  pub pushed_rest : rest new ≡ (λ r. go (does_task old t r) (rest old))
  pushed_rest =
      ap (λ ts. finish new.setting ts) p.more ∙ ap (λ (e : Single). finish e.setting (old.tasks.items ++ t ∷ [])) p.same
      ∙ fun_ext (λ r. pushed old.setting old.tasks.items t r)

  pub pushed_store : store_seen new ≡ store_seen old
  pushed_store = ap store_seen p.same

  pub pushed_due : (l : ℕ) → due_at new l ≡ one (task_due old.setting l t) + due_at old (left_after t l)
  pushed_due l =
      ap (λ ts. due new.setting ts l) p.more ∙ ap (λ (e : Single). due e.setting (old.tasks.items ++ t ∷ []) l) p.same ∙ due_pushed old.setting old.tasks.items t l

  pub pushed_left : new.left ≡ old.left
  pushed_left = ap (λ (e : Single). e.left) p.same

pub later_tells : (old new : Single) (t : Task) → new.tasks.items ≡ old.tasks.items ++ t ∷ [] → new ≡ record old { tasks = new.tasks } → Waits (Ok tt) old new t
later_tells old new t more same =
    let p : Pushed old new t = record { more = more; same = same } in (
      sym (ap₂ (λ (f : Store → Goes) (r : Store). f r) (pushed_rest old new t p) (pushed_store old new t p)),
      at_most (ap (due_at new) (pushed_left old new t p) ∙ pushed_due old new t p old.left),
    )

-- f from where the one stands, where it comes to G from where the other stands, and both have the same to do
module _ (old base mid new : Single) (f : Store → Goes) (G : Single → Store → Goes) (N L : Single → ℕ) (same : mid ≡ base) (is : f (store_seen old) ≡ G mid (store_seen mid)) (has : todo base ≡ todo old) where
  has_rest : rest mid ≡ rest old
  has_rest = ap rest same ∙ ap (λ (k : (Store → Goes) × (ℕ → ℕ)). k.0) has

  has_due : N mid + due_at mid (L mid) ≡ N base + due_at old (L base)
  has_due = ap (λ (e : Single). N e + due_at e (L e)) same ∙ ap (λ (k : (Store → Goes) × (ℕ → ℕ)). N base + k.1 (L base)) has

  pub tells_from : (q : Result (Unit {0}) Stop) → TellsAt (L mid) q mid new (G mid) (N mid) → TellsAt (L base) q old new f (N base)
  tells_from (Ok x) h = (
    ap (λ z. go z (rest old)) is ∙ ap (λ (n : Store → Goes). go (G mid (store_seen mid)) n) (sym has_rest) ∙ h.0,
    subst (λ (k : ℕ). due_now new ≤ k) has_due h.1,
  )
  tells_from (Err stop.Memory) h = tt
  tells_from (Err (stop.Trapped t)) h = is ∙ h
  tells_from (Err stop.Cut) h = is ∙ h

pub tells_at : (n l : ℕ) (q : Result (Unit {0}) Stop) (old new : Single) (f g : Store → Goes) → f (store_seen old) ≡ g (store_seen old) → TellsAt l q old new g n → TellsAt l q old new f n
tells_at n l q old new f g is h = tells_from old old old new f (λ e. g) (λ e. n) (λ e. l) refl is refl q h

pub tells_by : (n : ℕ) (q : Result (Unit {0}) Stop) (old new : Single) (f g : Store → Goes) → f (store_seen old) ≡ g (store_seen old) → Tells q old new g n → Tells q old new f n
tells_by n q old new f g is h = tells_at n old.left q old new f g is h

-- so many at most are more at most
pub tells_within : (n m : ℕ) (q : Result (Unit {0}) Stop) (old new : Single) (f : Store → Goes) → n ≤ m → Tells q old new f n → Tells q old new f m
tells_within n m (Ok x) old new f le h = (h.0, omega (arith, le, h.1))
tells_within n m (Err stop.Memory) old new f le h = tt
tells_within n m (Err (stop.Trapped t)) old new f le h = h
tells_within n m (Err stop.Cut) old new f le h = h

-- one task was pushed, and then something was done before it
module _ (old mid : Single) (t : Task) (more : mid.tasks.items ≡ old.tasks.items ++ t ∷ []) (same : mid ≡ record old { tasks = mid.tasks }) where
  p : Pushed old mid t
  p = record { more = more; same = same }

  pub then_at : (n l : ℕ) (q : Result (Unit {0}) Stop) (new : Single) (f : Store → Goes) → TellsAt l q mid new f n
      → TellsAt (left_after t l) q old new (λ r. go (f r) (does_task old t)) (n + one (task_due old.setting l t))
  then_at n l (Ok x) new f h = (
    go_assoc (f (store_seen old)) (does_task old t) (rest old)
        ∙ sym (ap₂ (λ (n : Store → Goes) (r : Store). go (f r) n) (pushed_rest old mid t p) (pushed_store old mid t p)) ∙ h.0,
    subst (λ (k : ℕ). due_now new ≤ k) (ap (λ k. n + k) (pushed_due old mid t p l) ∙ sym (add_assoc n (one (task_due old.setting l t)) (due_at old (left_after t l)))) h.1,
  )
  then_at n l (Err stop.Memory) new f h = tt
  then_at n l (Err (stop.Trapped x)) new f h = ap (λ r. go (f r) (does_task old t)) (sym (pushed_store old mid t p)) ∙ ap (λ g. go g (does_task old t)) h
  then_at n l (Err stop.Cut) new f h = ap (λ r. go (f r) (does_task old t)) (sym (pushed_store old mid t p)) ∙ ap (λ g. go g (does_task old t)) h

  -- what is known of where it stands now is known of where it stood, which has the same setting and level
  pub then_tells : (q : Result (Unit {0}) Stop) (new : Single) (F : Single → Store → Goes) (N L : Single → ℕ) → TellsAt (L mid) q mid new (F mid) (N mid)
      → TellsAt (left_after t (L (record old { tasks = mid.tasks }))) q old new (λ r. go (F (record old { tasks = mid.tasks }) r) (does_task old t))
      (N (record old { tasks = mid.tasks }) + one (task_due old.setting (L (record old { tasks = mid.tasks })) t))
  then_tells q new F N L h = then_at (N (record old { tasks = mid.tasks })) (L (record old { tasks = mid.tasks })) q new (F (record old { tasks = mid.tasks })) (subst (λ (e : Single). TellsAt (L e) q mid new (F e) (N e)) same h)

pub both_tell : (q : Result (Unit {0}) Stop) (old mid new : Single) (u t : Task) → mid.tasks.items ≡ old.tasks.items ++ t ∷ [] → mid ≡ record old { tasks = mid.tasks } → Waits q mid new u → WaitBoth q old new u t
both_tell q old mid new u t more same h =
    then_tells old mid t more same q new (λ e. does_task e u) (λ e. one (task_due e.setting e.left u)) (λ e. left_after u e.left) h

-- the state was changed, and the instance goes on
pub changed_tells : (q : Result (Unit {0}) Stop) (old mid new : Single) (f : Store → Goes) (change : Alone → Alone) → Changes old mid change
    → f (store_seen old) ≡ done (store_seen old) (Has tt (change (state_seen old))) → Tells q mid new goes 0 → Tells q old new f 0
changed_tells q old mid new f change c is h =
    tells_from old (record old { here = mid.here; arrays = mid.arrays }) mid new f (λ e. goes) (λ e. 0) (λ e. e.left) c.same
    (is
    ∙ ap₂ (λ (fr : Frame) (s : Alone). done (record (store_seen old) { frame = fr }) (Has tt s)) (sym c.frame) (sym c.state)
    ∙ ap (λ (l : ℕ). done (record (store_seen mid) { left = l }) (Has tt (state_seen mid))) (sym (ap (λ (e : Single). e.left) c.same)))
    refl q h

-- what is done from a state that was changed
pub changed_store : (old mid : Single) (change : Alone → Alone) (f : Frame → ℕ → Alone → Goes) → Changes old mid change → f (store_seen old).frame old.left (change (state_seen old)) ≡ f (store_seen mid).frame mid.left (state_seen mid)
changed_store old mid change f c =
    ap₂ (λ (fr : Frame) (s : Alone). f fr old.left s) (sym c.frame) (sym c.state) ∙ ap (λ (l : ℕ). f (store_seen mid).frame l (state_seen mid)) (sym (ap (λ (e : Single). e.left) c.same))

-- ---- what comes after what

pub given_then : (r : Store) (a : Answer ℕ) (f : Frame → ℕ → ℕ → Alone → Answer ℕ) → given r (and_then a (f r.frame r.left)) ≡ go (given r a) (λ q. given q (f q.frame q.left q.value q.state))
given_then r (Has x s) f = refl
given_then r (Bad t s) f = refl
given_then r (Long s) f = refl

pub done_then : (r : Store) (a : Answer ℕ) (f : Frame → ℕ → ℕ → Alone → Answer Done) → done r (and_then a (f r.frame r.left)) ≡ go (given r a) (λ q. done q (f q.frame q.left q.value q.state))
done_then r (Has x s) f = refl
done_then r (Bad t s) f = refl
done_then r (Long s) f = refl

pub done_done : (r : Store) (a : Answer Done) (f : Frame → ℕ → Alone → Answer Done) → done r (and_then a (λ _ s. f r.frame r.left s)) ≡ go (done r a) (λ q. done q (f q.frame q.left q.state))
done_done r (Has x s) f = refl
done_done r (Bad t s) f = refl
done_done r (Long s) f = refl

pub ran_with : (r : Store) (a : Answer ℕ) (f : Frame → ℕ → ℕ → Alone → End) → ran r (with_answer a (f r.frame r.left)) ≡ go (given r a) (λ q. ran q (f q.frame q.left q.value q.state))
ran_with r (Has x s) f = refl
ran_with r (Bad t s) f = refl
ran_with r (Long s) f = refl

pub ran_done : (r : Store) (a : Answer Done) (f : Frame → ℕ → Alone → End) → ran r (with_answer a (λ _ s. f r.frame r.left s)) ≡ go (done r a) (λ q. ran q (f q.frame q.left q.state))
ran_done r (Has x s) f = refl
ran_done r (Bad t s) f = refl
ran_done r (Long s) f = refl

pub ran_goes : (r : Store) (a : Answer Done) → ran r (with_answer a (λ _ s. Does s Going)) ≡ done r a
ran_goes r (Has x s) = refl
ran_goes r (Bad t s) = refl
ran_goes r (Long s) = refl

pub ran_then : (r : Store) (e : End) (f : Frame → ℕ → Alone → End) → ran r (then_on e (f r.frame r.left)) ≡ go (ran r e) (λ q. ran q (then_on (Does q.state q.how) (f q.frame q.left)))
ran_then r (Does s h) f = refl
ran_then r (Dies t s) f = refl
ran_then r (Lasts s) f = refl

pub ran_always : (r : Store) (e : End) → ran r (then_always e (λ s. Does s Going)) ≡ go (ran r e) goes
ran_always r (Does s h) = refl
ran_always r (Dies t s) = refl
ran_always r (Lasts s) = refl

-- a task that is known does what this does
pub acts : (q : Result (Unit {0}) Stop) (old new : Single) (t u : Task) (g : Store → Goes) → t ≡ u → does_task old u (store_seen old) ≡ g (store_seen old) → TellsAt (left_after u old.left) q old new g (task_due old.setting old.left u) → DoesTask q old new t
acts q old new t u g is e h =
    subst (λ (k : Task). DoesTask q old new k) (sym is) (tells_at (task_due old.setting old.left u) (left_after u old.left) q old new (does_task old u) g e h)

-- ---- all tasks, one after the other

abbrev pub Leads : Single → Single → Type 0
Leads old now = rest old (store_seen old) ≡ rest now (store_seen now)

module _ (old now : Single) (v : Vec Task Global) (t : Task) (leads : Leads old now) (last : now.tasks.items ≡ v.items ++ t ∷ []) where
  popped : rest old (store_seen old) ≡ go (does_task now t (store_seen now)) (rest (record now { tasks = v }))
  popped = leads ∙ sym (later_tells (record now { tasks = v }) now t last refl).0

  pub leads_next : (q : Result (Unit {0}) Stop) (x : Unit {0}) (new : Single) → q ≡ Ok x → DoesTask q (record now { tasks = v }) new t → Leads old new
  leads_next q x new is h = popped ∙ (subst (λ (k : Result (Unit {0}) Stop). DoesTask k (record now { tasks = v }) new t) is h).0

  -- fewer are left than before
  pub leads_on : (q : Result (Unit {0}) Stop) (x : Unit {0}) (new : Single) → q ≡ Ok x → DoesTask q (record now { tasks = v }) new t → due_now new < due_now now
  leads_on q x new is h =
      let less = (subst (λ (k : Result (Unit {0}) Stop). DoesTask k (record now { tasks = v }) new t) is h).1 in
      let was : due_now now ≡ one (task_due now.setting now.left t) + due now.setting v.items (left_after t now.left) = ap (λ ts. due now.setting ts now.left) last ∙ due_pushed now.setting v.items t now.left in
      omega (arith, less, was)

  pub leads_stop : (q : Result (Unit {0}) Stop) (e : Stop) (new : Single) → q ≡ Err e → DoesTask q (record now { tasks = v }) new t → Ends (Err e) old new (rest old)
  leads_stop q e new is h = by e (subst (λ (k : Result (Unit {0}) Stop). DoesTask k (record now { tasks = v }) new t) is h)
    where
      by : (e : Stop) → DoesTask (Err e) (record now { tasks = v }) new t → Ends (Err e) old new (rest old)
      by stop.Memory k = tt
      by (stop.Trapped u) k = popped ∙ ap (λ g. go g (rest (record now { tasks = v }))) k
      by stop.Cut k = popped ∙ ap (λ g. go g (rest (record now { tasks = v }))) k

pub leads_end : (old now : Single) (v : Vec Task Global) → Leads old now → length now.tasks.items < 1 → Ends (Ok tt) old (record now { tasks = v }) (rest old)
leads_end old now v leads none = leads ∙ ap (λ ts. finish now.setting ts (store_seen now)) (nothing_left now.tasks.items none)
