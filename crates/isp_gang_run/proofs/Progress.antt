-- How many tasks are left at most, once some were put on the list, and once one was done.
use Rattle.std.proofs.Common.{◌≡◌, refl, sym, ap, ap₂, subst, ◌∙◌, ℕ, ◌+◌, ◌<◌, ◌≤◌, List, [], ◌∷◌, ◌++◌, Result, OnOk, arith}
use Rattle.std.proofs.Math.Nat.{add_assoc}
use Rattle.isp_typed.specs.Typed.{Program}
use Rattle.isp_typed.specs.Views.{program_of}
use Rattle.isp_gang_run.specs.Due.{left_after, left_below, task_due, due, due_at, due_now, own, LeavesAt, Leaves, LeavesOf, Waits, WaitBoth}
use Rattle.isp_gang_run.specs.Most.{one, two}
use Rattle.isp_gang_run.specs.declared.state.Evaluator.{Evaluator}
use Rattle.isp_gang_run.specs.declared.state.Stop.{Stop}
use Rattle.isp_gang_run.specs.declared.tasks.Task.{Task}

below_pushed : (ts : List Task) (t : Task) (l : ℕ) → left_below (ts ++ t ∷ []) l ≡ left_below ts (left_after t l)
below_pushed [] t l = refl
below_pushed (x ∷ ts) t l = ap (left_after x) (below_pushed ts t l)

due_pushed : (p : Program) (n : ℕ) (ts : List Task) (t : Task) (l : ℕ) → due p n (ts ++ t ∷ []) l ≡ one (task_due p n l t) + due p n ts (left_after t l)
due_pushed p n [] t l = omega arith
due_pushed p n (x ∷ ts) t l =
    ap₂ (λ (i j : ℕ). i + one (task_due p n j x)) (due_pushed p n ts t l) (below_pushed ts t l)
    ∙ add_assoc (one (task_due p n l t)) (due p n ts (left_after t l)) (one (task_due p n (left_below ts (left_after t l)) x))

-- a task waits before the others
module _ (old new : Evaluator) (t : Task) (items : new.tasks.items ≡ old.tasks.items ++ t ∷ []) (same : new ≡ record old { tasks = new.tasks }) where
  waits : (l : ℕ) → due_at new l ≡ one (task_due (program_of old.program.now) old.turns l t) + due_at old (left_after t l)
  waits l =
      ap (λ ts. due (program_of new.program.now) new.turns ts l) items ∙ ap (λ (e : Evaluator). due (program_of e.program.now) e.turns (old.tasks.items ++ t ∷ []) l) same
      ∙ due_pushed (program_of old.program.now) old.turns old.tasks.items t l

  pub later_leaves : Waits old new t
  later_leaves =
      let is : due_now new ≡ one (own old task_due t) + due_at old (left_after t old.left) = ap (λ (e : Evaluator). due_at new e.left) same ∙ waits old.left in
      omega (arith, is)

-- and then something was done before it
pub then_leaves : (old mid new : Evaluator) (t : Task) (n l : ℕ) → mid.tasks.items ≡ old.tasks.items ++ t ∷ [] → mid ≡ record old { tasks = mid.tasks } → LeavesAt l mid new n
    → LeavesAt (left_after t l) old new (n + one (task_due (program_of old.program.now) old.turns l t))
then_leaves old mid new t n l items same h =
    let is = waits old mid t items same l in omega (arith, is, h)

-- likewise, where what was done says of where it stood how many it leaves
pub after_leaves : (old mid new : Evaluator) (t : Task) (N : Evaluator → ℕ) → mid.tasks.items ≡ old.tasks.items ++ t ∷ [] → mid ≡ record old { tasks = mid.tasks } → Leaves mid new (N mid)
    → LeavesAt (left_after t old.left) old new (N (record old { tasks = mid.tasks }) + one (own old task_due t))
after_leaves old mid new t N items same h =
    then_leaves old mid new t (N (record old { tasks = mid.tasks })) old.left items same (subst (λ (e : Evaluator). LeavesAt e.left mid new (N e)) same h)

pub both_leaves : (old mid new : Evaluator) (u t : Task) → mid.tasks.items ≡ old.tasks.items ++ t ∷ [] → mid ≡ record old { tasks = mid.tasks } → Waits mid new u → WaitBoth old new u t
both_leaves old mid new u t items same h =
    then_leaves old mid new t (one (own old task_due u)) (left_after u old.left) items same (subst (λ (e : Evaluator). LeavesAt (left_after u e.left) mid new (one (own e task_due u))) same h)

-- a task was popped and done: fewer are left than before
pub done_leaves : (now popped new : Evaluator) (t : Task) → now.tasks.items ≡ popped.tasks.items ++ t ∷ [] → now ≡ record popped { tasks = now.tasks } → LeavesOf popped new t → due_now new < due_now now
done_leaves now popped new t items same h =
    let is : due_now now ≡ one (own popped task_due t) + due_at popped (left_after t popped.left) = ap (λ (e : Evaluator). due_at now e.left) same ∙ waits popped now t items same popped.left in
    omega (arith, is, h)

-- ---- no task was put on the list

pub no_more : (old : Evaluator) (n : ℕ) → Leaves old old n
no_more old n = omega arith

pub same_leaves : (old new : Evaluator) (n : ℕ) → due_now new ≡ due_now old → Leaves old new n
same_leaves old new n is = omega (arith, is)

-- but one, and nothing before it
pub then_none : (old mid new : Evaluator) (t : Task) (n : ℕ) → Waits old mid t → due_now new ≡ due_now mid → LeavesAt (left_after t old.left) old new (n + one (own old task_due t))
then_none old mid new t n h is = omega (arith, h, is)

-- ---- as many, and more

module _ (old new : Evaluator) (l : ℕ) where
  pub leaves_as : {n m : ℕ} → n ≡ m → LeavesAt l old new m → LeavesAt l old new n
  leaves_as is h = subst (λ (k : ℕ). LeavesAt l old new k) (sym is) h

  pub leaves_within : (n m : ℕ) → m ≤ n → LeavesAt l old new m → LeavesAt l old new n
  leaves_within n m le h = omega (arith, le, h)

-- a task that is known
module _ (old new : Evaluator) (t u : Task) (is : t ≡ u) where
  pub leaves_known : LeavesOf old new u → LeavesOf old new t
  leaves_known h = subst (λ (k : Task). LeavesOf old new k) (sym is) h

  pub leaves_ok : (r : Result (Unit {0}) Stop) → OnOk r (LeavesOf old new u) → OnOk r (LeavesOf old new t)
  leaves_ok r h = subst (λ (k : Task). OnOk r (LeavesOf old new k)) (sym is) h
