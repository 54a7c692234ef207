-- What several values leave to be done.
use Rattle.std.proofs.Common.{◌≡◌, refl, sym, ap, ◌∙◌, subst, ℕ, ◌+◌, List, [], ◌∷◌, ◌++◌, map, Bor, Vec, Global, Bool, append_assoc}
use Rattle.std.proofs.lemmas.List.{append-nil, map-append}
use Rattle.isp_base.specs.Sets.{Mask, flag_of}
use Rattle.isp_base.specs.Types.{gang_width}
use Rattle.isp_base.specs.declared.types.Elem.{Elem}
use Rattle.isp_base.specs.declared.types.Span.{Span}
use Rattle.isp_base.specs.declared.types.Ty.{Ty}
use Rattle.isp_typed.specs.Typed.{TExpr, t_exprs, t_call, t_library, Program}
use Rattle.isp_typed.specs.Views.{expr_of, exprs_of, call_of, program_of}
use Rattle.isp_typed.specs.declared.expr.TypedCall.{TypedCall}
use Rattle.isp_typed.specs.declared.expr.TypedExpr.{TypedExpr}
use Rattle.isp_typed.specs.declared.library.Library.{Library}
use Rattle.isp_meaning.specs.State.{State}
use Rattle.isp_meaning.specs.Payloads.{Payload}
use Rattle.isp_meaning.specs.Outcomes.{Val, Gives, Fails, Stops, bind}
use Rattle.isp_meaning.specs.Expressions.{values}
use Rattle.isp_meaning.specs.Library.{library_value, argument}
use Rattle.isp_gang_values.specs.Seen.{payload_of}
use Rattle.isp_gang_values.specs.declared.computed.Computed.{Computed}
use Rattle.isp_gang_run.specs.Passing.{gathers, gathers_all}
use Rattle.isp_gang_run.specs.Seen.{state_seen}
use Rattle.isp_gang_run.specs.Tasks.{Store, Goes, First, Comes, Does, go, go_with, given, rest, gather, gathered, value_at, calls_in, gang_of, store_seen}
use Rattle.isp_gang_run.specs.declared.counting.Work.{Work}
use Rattle.isp_gang_run.specs.declared.state.Evaluator.{Evaluator}
use Rattle.isp_gang_run.specs.declared.tasks.Gathering.{Gathering}
use Rattle.isp_gang_run.specs.declared.tasks.Gathering.TheVariants as gathering
use Rattle.isp_gang_run.specs.declared.tasks.Task.TheVariants as task
use Rattle.isp_gang_run.proofs.Branching.{comes_same, pushes}
use Rattle.isp_gang_run.proofs.Counts.{Adds, work_of, counts_same, counts_more}
use Rattle.isp_gang_run.proofs.Nodes.{valued}

module _ (program : Program) (most : ℕ) where
  -- the registers are not looked at
  regathered : (g : Gathering) (a : Mask) (ms : List Payload) (r : Store) (t : State) (m : Payload) (s : State) → gathered program most g a ms (record r { state = t; value = m }) s ≡ gathered program most g a ms r s
  regathered (gathering.Library f e) a ms r t m s = refl
  regathered (gathering.Print text xs) a ms r t m s = refl

  gathered_next : (g : Gathering) (ms : List Payload) (a : Mask) (r : Store) (m : Payload) (s : State) (v : Val (List Payload))
      → go_with (bind v (λ ns s2. Gives (m ∷ ns) s2)) (λ ns s2. gathered program most g a (ms ++ ns) r s2)
      ≡ go_with v (λ ns s2. gathered program most g a ((ms ++ m ∷ []) ++ ns) (record r { state = s; value = m }) s2)
  gathered_next g ms a r m s (Gives ns s2) =
      ap (λ xs. gathered program most g a xs r s2) (sym (append_assoc ms (m ∷ []) ns)) ∙ sym (regathered g a ((ms ++ m ∷ []) ++ ns) r s m s2)
  gathered_next g ms a r m s (Fails t s2) = refl
  gathered_next g ms a r m s (Stops s2) = refl

  -- one value, and then the others
  gather_next : (g : Gathering) (x : TExpr) (xs : List TExpr) (ms : List Payload) (a : Mask) (r : Store) (next : Store → Goes) (v : Val Payload)
      → go (go_with (bind v (λ m s1. bind (values (gang_of program most) r.frame (calls_in program most r) (t_exprs xs) a s1) (λ ns s2. Gives (m ∷ ns) s2))) (λ ns s. gathered program most g a (ms ++ ns) r s)) next
      ≡ go (given r v) (λ q. go (gather program most g xs (ms ++ q.value ∷ []) a q) next)
  gather_next g x xs ms a r next (Gives m s) =
      ap (λ k. go k next) (gathered_next g ms a r m s (values (gang_of program most) r.frame (calls_in program most r) (t_exprs xs) a s))
  gather_next g x xs ms a r next (Fails t s) = refl
  gather_next g x xs ms a r next (Stops s) = refl

module _ (old new : Evaluator) where
  pub nothing_more : (g : Gathering) (xs : List TypedExpr) (ms : List Payload) (a : Mask) → xs ≡ [] → Comes old new (gathers_all old g a ms) → Comes old new (gathers old g (exprs_of xs) ms a)
  nothing_more g xs ms a none c =
      comes_same old new (gathers old g (exprs_of xs) ms a) (gathers_all old g a ms)
      (λ w. ap (λ ys. gathers old g (exprs_of ys) ms a (store_seen old w)) none ∙ ap (λ ns. gathers_all old g a ns (store_seen old w)) (append-nil ms)) c

  pub one_value : (g : Gathering) (xs : List TypedExpr) (ys : Bor (List TypedExpr)) (x : Bor TypedExpr) (before : Vec Computed Global)
      (set : List Bool) → xs ≡ x.now ∷ ys.now → First old new (task.Value x set) (task.Values g ys before set)
      → Comes old new (gathers old g (exprs_of xs) (map payload_of before.items) (flag_of set))
  one_value g xs ys x before set is f =
      record {
        by = λ w. (
          w,
          ap (λ zs. go (gathers old g (exprs_of zs) (map payload_of before.items) (flag_of set) (store_seen old w)) (rest old)) is
              ∙ gather_next (program_of old.program.now) old.turns g (expr_of x.now) (exprs_of ys.now) (map payload_of before.items) (flag_of set)
              (store_seen old w) (rest old) (value_at (program_of old.program.now) old.turns (store_seen old w) (expr_of x.now) (flag_of set)
              (state_seen old w))
              ∙ sym (f.by w),
        );
        counts = λ w k. counts_same old new w f.work k;
      }

  -- one more value was found
  pub more_does : (g : Gathering) (ys : Bor (List TypedExpr)) (before after : Vec Computed Global) (set : List Bool)
      → after.items ≡ before.items ++ old.value ∷ [] → Comes old new (gathers old g (exprs_of ys.now) (map payload_of after.items) (flag_of set))
      → Does old new (task.Values g ys before set)
  more_does g ys before after set is c =
      record {
        by = λ w. (
          (c.by w).0,
          ap (λ ms. go (gathers old g (exprs_of ys.now) ms (flag_of set) (store_seen old w)) (rest old)) (sym (ap (map payload_of) is ∙ map-append payload_of before.items (old.value ∷ [])))
              ∙ (c.by w).1,
        );
        counts = c.counts;
      }

  -- the library has given its value
  pub library_comes : (f : Library) (e : Elem) (a : Mask) (ms : List Payload) (g : Gathering) → g ≡ gathering.Library f e
      → new ≡ record old { value = new.value } → payload_of new.value
      ≡ library_value (gang_width old.program.now.gang) e a f (argument ms 0) (argument ms 1) (argument ms 2) → Comes old new (gathers_all old g a ms)
  library_comes f e a ms g is same given_is =
      subst (λ k. Comes old new (gathers_all old k a ms)) (sym is) (record { by = λ w. (w, valued old new same _ given_is w); counts = λ w k. counts_same old new w (ap work_of same) k })

-- ---- nodes

-- what is found first, and then the library's function
library_found : (program : Program) (most : ℕ) (f : Library) (e : Elem) (a : Mask) (r : Store) (t : State) (v : Val (List Payload))
    → given r (bind v (λ ms s1. Gives (library_value (gang_of program most) e a f (argument ms 0) (argument ms 1) (argument ms 2)) s1))
    ≡ go_with v (λ ms s. gathered program most (gathering.Library f e) a ms (record r { state = t }) s)
library_found program most f e a r t (Gives ms s) = refl
library_found program most f e a r t (Fails x s) = refl
library_found program most f e a r t (Stops s) = refl

pub library_node : (old new : Evaluator) (work : Work) (one : Adds old work 1) (x : Bor TypedExpr) (set : List Bool) (f : Library) (e : Elem)
    (xs : List TypedExpr) (done : Vec Computed Global) (t : Ty) (sp : Span) → expr_of x.now ≡ t_library f e (t_exprs (exprs_of xs)) t sp
    → done.items ≡ []
    → Comes (record old { work = work }) new (gathers old (gathering.Library f e) (exprs_of xs) (map payload_of done.items) (flag_of set)) → Does old new (task.Value x set)
library_node old new work one x set f e xs done t sp is none c =
    record {
      by = λ w. (
        (c.by (w + 1)).0,
        ap (λ n. go (given (store_seen old w) (value_at (program_of old.program.now) old.turns (store_seen old w) n (flag_of set) (state_seen old w))) (rest old)) is
            ∙ ap (λ g. go g (rest old)) (library_found (program_of old.program.now) old.turns f e (flag_of set) (store_seen old w)
            (state_seen old (w + 1)) (values (gang_width old.program.now.gang) (store_seen old w).frame
            (calls_in (program_of old.program.now) old.turns (store_seen old w)) (t_exprs (exprs_of xs)) (flag_of set) (state_seen old (w + 1))))
            ∙ sym (ap (λ ys. go (gathers old (gathering.Library f e) (exprs_of xs) (map payload_of ys) (flag_of set) (store_seen old (w + 1))) (rest old)) none)
            ∙ (c.by (w + 1)).1,
      );
      counts = λ w k. c.counts (w + 1) (counts_more old work 1 w one k);
    }

pub call_node : (old new : Evaluator) (x : Bor TypedExpr) (c : Bor TypedCall) (set : List Bool) (t : Ty) → expr_of x.now ≡ t_call (call_of c.now) t
    → new.tasks.items ≡ old.tasks.items ++ task.Call c set ∷ [] → new ≡ record old { tasks = new.tasks } → Does old new (task.Value x set)
call_node old new x c set t is i s =
    let k = pushes old new (task.Call c set) i s in
    record { by = λ w. ((k.by w).0, ap (λ n. go (given (store_seen old w) (value_at (program_of old.program.now) old.turns (store_seen old w) n (flag_of set) (state_seen old w))) (rest old)) is ∙ (k.by w).1); counts = k.counts }

-- a task that is left to its turn
pub itself : (old new : Evaluator) (x : Bor TypedExpr) (set : List Bool) → new.tasks.items ≡ old.tasks.items ++ task.Value x set ∷ [] → new ≡ record old { tasks = new.tasks } → Does old new (task.Value x set)
itself old new x set i s = let k = pushes old new (task.Value x set) i s in record { by = λ w. k.by w; counts = λ w c. k.counts w c }
