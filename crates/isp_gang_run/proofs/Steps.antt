-- Lists of tasks: one more task, and an expression's parts one after the other.
use Rattle.std.proofs.Common.{◌≡◌, refl, sym, ap, ap₂, ◌∙◌, ℕ, List, [], ◌∷◌, ◌++◌}
use Rattle.std.proofs.Math.Path.{fun_ext}
use Rattle.isp_typed.specs.Typed.{Program}
use Rattle.isp_typed.specs.Views.{program_of}
use Rattle.isp_meaning.specs.State.{State, Frame}
use Rattle.isp_meaning.specs.Payloads.{Payload}
use Rattle.isp_meaning.specs.Outcomes.{Val, Gives, Fails, Stops, bind}
use Rattle.isp_gang_run.specs.Tasks.{Store, Goes, On, Trapped, Cut, go, given, act, finish, does, rest, First, store_seen}
use Rattle.isp_gang_run.specs.declared.state.Evaluator.{Evaluator}
use Rattle.isp_gang_run.specs.declared.tasks.Task.{Task}
use Rattle.isp_gang_run.proofs.Counts.{work_of}

go_id : (g : Goes) → go g On ≡ g
go_id (On r) = refl
go_id (Trapped t s) = refl
go_id (Cut s) = refl

pub go_assoc : (g : Goes) (f h : Store → Goes) → go (go g f) h ≡ go g (λ r. go (f r) h)
go_assoc (On r) f h = refl
go_assoc (Trapped t s) f h = refl
go_assoc (Cut s) f h = refl

-- ---- one more task is done before the others

module _ (program : Program) (most : ℕ) where
  pub pushed : (ts : List Task) (t : Task) (r : Store) → finish program most (ts ++ t ∷ []) r ≡ go (act program most t r) (finish program most ts)
  pushed [] t r = sym (go_id (act program most t r))
  pushed (x ∷ ts) t r = ap (λ g. go g (act program most x)) (pushed ts t r) ∙ go_assoc (act program most t r) (finish program most ts) (act program most x)

module _ (old new : Evaluator) where
  pub record Later (t : Task) : Type 0 where
    pub items : new.tasks.items ≡ old.tasks.items ++ t ∷ []
    pub same : new ≡ record old { tasks = new.tasks }

  pub later_rest : (t : Task) → Later t → rest new ≡ (λ r. go (does old t r) (rest old))
  later_rest t l =
      ap (λ ts. finish (program_of new.program.now) new.turns ts) l.items
      ∙ ap (λ (e : Evaluator). finish (program_of e.program.now) e.turns (old.tasks.items ++ t ∷ [])) l.same
      ∙ fun_ext (λ r. pushed (program_of old.program.now) old.turns old.tasks.items t r)

  pub later_store : (t : Task) → Later t → (w : ℕ) → store_seen new w ≡ store_seen old w
  later_store t l w = ap (λ e. store_seen e w) l.same

  pub later_work : (t : Task) → Later t → new.work ≡ old.work
  later_work t l = ap work_of l.same

  pub later_does : (t : Task) → Later t → does new ≡ does old
  later_does t l = ap (λ e. does e) l.same

-- two more: the later one is done first
pub two_later : (old mid new : Evaluator) (t u : Task) → Later old mid t → Later mid new u → (w : ℕ)
    → rest new (store_seen new w) ≡ go (does old u (store_seen old w)) (λ r. go (does old t r) (rest old))
two_later old mid new t u l m w =
    ap₂ (λ (f : Store → Goes) (r : Store). f r) (later_rest mid new u m) (later_store mid new u m w ∙ later_store old mid t l w)
    ∙ ap₂ (λ (d : Task → Store → Goes) (f : Store → Goes). go (d u (store_seen old w)) f) (later_does old mid t l) (later_rest old mid t l)

pub two_first : (old mid new : Evaluator) (t u : Task) → mid.tasks.items ≡ old.tasks.items ++ t ∷ [] → mid ≡ record old { tasks = mid.tasks } → new.tasks.items ≡ mid.tasks.items ++ u ∷ [] → new ≡ record mid { tasks = new.tasks } → First old new u t
two_first old mid new t u i s i' s' =
    record {
      by = two_later old mid new t u (record { items = i; same = s }) (record { items = i'; same = s' });
      work = ap work_of s' ∙ ap work_of s;
    }

-- ---- a value, and what is done with it

pub regiven : (r : Store) (m : Payload) (s : State) (v : Val Payload) → given (record r { state = s; value = m }) v ≡ given r v
regiven r m s (Gives n s1) = refl
regiven r m s (Fails t s1) = refl
regiven r m s (Stops s1) = refl

pub then_given : (r : Store) (v : Val Payload) (f : Payload → State → Val Payload) (next : Store → Goes)
    → go (given r (bind v f)) next ≡ go (given r v) (λ q. go (given q (f q.value q.state)) next)
then_given r (Gives m s) f next = ap (λ g. go g next) (sym (regiven r m s (f m s)))
then_given r (Fails t s) f next = refl
then_given r (Stops s) f next = refl

-- likewise, where what is done with it looks at the frame and the level
pub then_given_in : (r : Store) (v : Val Payload) (f : Frame → ℕ → Payload → State → Val Payload) (next : Store → Goes)
    → go (given r (bind v (f r.frame r.left))) next ≡ go (given r v) (λ q. go (given q (f q.frame q.left q.value q.state)) next)
then_given_in r (Gives m s) f next = ap (λ g. go g next) (sym (regiven r m s (f r.frame r.left m s)))
then_given_in r (Fails t s) f next = refl
then_given_in r (Stops s) f next = refl
