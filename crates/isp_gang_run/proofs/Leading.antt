-- Tasks are done one after the other until none is left.
use Rattle.std.proofs.Common.{◌≡◌, refl, sym, ap, ap₂, ◌∙◌, ℕ, List, [], ◌∷◌, ◌++◌, length, arith}
use Rattle.isp_typed.specs.Views.{program_of}
use Rattle.isp_gang_run.specs.Tasks.{Store, Goes, On, Trapped, Cut, go, finish, does, rest, Counts, Comes, Halts, refused, trapped, cut, store_seen}
use Rattle.isp_gang_run.specs.Ends.{Ends, Leads}
use Rattle.isp_gang_run.specs.declared.state.Evaluator.{Evaluator}
use Rattle.isp_gang_run.specs.declared.state.Stop.{Stop}
use Rattle.isp_gang_run.specs.declared.tasks.Task.{Task}
use Rattle.isp_gang_run.proofs.Counts.{work_of, counts_same}
use Rattle.isp_gang_run.proofs.Steps.{Later, later_rest, later_store}

pub leads_begin : (old : Evaluator) → Leads old old
leads_begin old = record { by = λ w. (w, refl); counts = λ w k. k }

module _ (old now popped : Evaluator) (t : Task) (l : Leads old now) (items : now.tasks.items ≡ popped.tasks.items ++ t ∷ []) (same : now ≡ record popped { tasks = now.tasks }) where
  popped_next : Later popped now t
  popped_next = record { items = items; same = same }

  one_done : (w : ℕ) → (w' : ℕ) × (rest old (store_seen old w) ≡ go (does popped t (store_seen popped w')) (rest popped))
  one_done w =
      ((l.by w).0, (l.by w).1 ∙ ap₂ (λ (f : Store → Goes) (r : Store). f r) (later_rest popped now t popped_next) (later_store popped now t popped_next (l.by w).0))

  -- the count is that of the one before
  one_counts : (w : ℕ) → Counts old w → Counts popped (one_done w).0
  unfolding one_done
  one_counts w k = counts_same now popped (l.by w).0 (ap work_of (sym same)) (l.counts w k)

  pub leads_next : (new : Evaluator) → Comes popped new (does popped t) → Leads old new
  leads_next new c = record { by = λ w. ((c.by (one_done w).0).0, (one_done w).1 ∙ (c.by (one_done w).0).1); counts = λ w k. c.counts (one_done w).0 (one_counts w k) }

  pub leads_halt : (new : Evaluator) (e : Stop) → Halts popped new (does popped t) e → Halts old new (rest old) e
  leads_halt new e (refused m) = refused m
  leads_halt new e (trapped x m h k) = trapped x m (λ w. ((h (one_done w).0).0, (one_done w).1 ∙ ap (λ g. go g (rest popped)) (h (one_done w).0).1)) (λ w c. k (one_done w).0 (one_counts w c))
  leads_halt new e (cut m h k) = cut m (λ w. ((h (one_done w).0).0, (one_done w).1 ∙ ap (λ g. go g (rest popped)) (h (one_done w).0).1)) (λ w c. k (one_done w).0 (one_counts w c))

rest_none : (e : Evaluator) → e.tasks.items ≡ [] → rest e ≡ On
rest_none e none = ap (λ ts. finish (program_of e.program.now) e.turns ts) none

pub leads_end : (old now : Evaluator) → Leads old now → now.tasks.items ≡ [] → Ends old now (rest old)
leads_end old now l none = record { by = λ w. ((l.by w).0, (l.by w).1 ∙ ap (λ (f : Store → Goes). f (store_seen now (l.by w).0)) (rest_none now none)); counts = l.counts }

-- ---- a first thing, and then the tasks

go_on_id : (g : Goes) → go g On ≡ g
go_on_id (On r) = refl
go_on_id (Trapped t s) = refl
go_on_id (Cut s) = refl

module _ (old mid new : Evaluator) (f : Store → Goes) (none : old.tasks.items ≡ []) (c : Comes old mid f) where
  begun : (w : ℕ) → (w' : ℕ) × (f (store_seen old w) ≡ rest mid (store_seen mid w'))
  begun w = ((c.by w).0, sym (go_on_id (f (store_seen old w))) ∙ sym (ap (λ (h : Store → Goes). go (f (store_seen old w)) h) (rest_none old none)) ∙ (c.by w).1)

  pub first_ends : Ends mid new (rest mid) → Ends old new f
  unfolding begun
  first_ends d = record { by = λ w. ((d.by (begun w).0).0, (begun w).1 ∙ (d.by (begun w).0).1); counts = λ w k. d.counts (begun w).0 (c.counts w k) }

  pub first_halts : (e : Stop) → Halts mid new (rest mid) e → Halts old new f e
  unfolding begun
  first_halts e (refused m) = refused m
  first_halts e (trapped x m h k) = trapped x m (λ w. ((h (begun w).0).0, (begun w).1 ∙ (h (begun w).0).1)) (λ w n. k (begun w).0 (c.counts w n))
  first_halts e (cut m h k) = cut m (λ w. ((h (begun w).0).0, (begun w).1 ∙ (h (begun w).0).1)) (λ w n. k (begun w).0 (c.counts w n))

no_items : {A : Type 0} (xs : List A) → length xs ≡ 0 → xs ≡ []
no_items [] e = refl
no_items (x ∷ xs) e = absurd (omega (arith, e))

-- nothing was popped
pub leads_done : (old now new : Evaluator) → Leads old now → length now.tasks.items ≡ 0 → new ≡ record now { tasks = new.tasks } → Ends old new (rest old)
leads_done old now new l none same =
    let e = leads_end old now l (no_items now.tasks.items none) in
    record { by = λ w. ((e.by w).0, (e.by w).1 ∙ ap On (sym (ap (λ (k : Evaluator). store_seen k (e.by w).0) same))); counts = λ w k. counts_same now new (e.by w).0 (ap work_of same) (e.counts w k) }
