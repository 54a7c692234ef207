-- A run is a call, and ends as the call does.
use Rattle.std.proofs.Common.{◌≡◌, refl, sym, ap, ap₂, subst, ◌∙◌, ℕ, zero, suc, List, [], ◌∷◌, map, length, Option, Some, None, Bool, false, Bor, Vec, Global, Result, Ok, Err}
use Rattle.std.proofs.Math.Path.{fun_ext}
use Rattle.std.specs.Prelude.{slice_get, slice_index}
use Rattle.isp_base.specs.Arguments.{rows, row_bits}
use Rattle.isp_base.specs.Rows.{Row}
use Rattle.isp_base.specs.declared.signature.Argument.{Argument}
use Rattle.isp_base.specs.declared.trap.Trap.{Trap}
use Rattle.isp_typed.specs.Typed.{Program, TFunction}
use Rattle.isp_typed.specs.Views.{program_of}
use Rattle.isp_meaning.specs.Expressions.{Passed}
use Rattle.isp_meaning.specs.Runs.{first_frame, handed, no_place}
use Rattle.isp_meaning.specs.State.{Frame}
use Rattle.isp_solo_meaning.specs.Alone.{Alone}
use Rattle.isp_solo_meaning.specs.Answers.{Answer, Has, Bad, Long, reached}
use Rattle.isp_solo_meaning.specs.Calls.{called, own_calls}
use Rattle.isp_solo_meaning.specs.Runs.{bound, fresh, solo_run}
use Rattle.isp_gang_values.specs.Growing.{values_of}
use Rattle.isp_solo_run.specs.Arrays.{bound_seen, wrote_seen, read_seen}
use Rattle.isp_solo_run.specs.Ends.{IsRunOf, ended_in, ending_of, entry_answer}
use Rattle.isp_solo_run.specs.Seen.{frame_seen, own_of}
use Rattle.isp_solo_run.specs.Tasks.{Store, Goes, On, Trapped, Cut, Ends, Tells, enters, finish, given, go, rest, state_seen, store_seen}
use Rattle.isp_solo_run.specs.declared.arrays.Arrays.{Arrays}
use Rattle.isp_solo_run.specs.declared.arrays.Shared.{Shared}
use Rattle.isp_solo_run.specs.declared.running.Ending.{Ending}
use Rattle.isp_solo_run.specs.declared.running.Ending.TheVariants as ending
use Rattle.isp_solo_run.specs.declared.running.Run.{Run}
use Rattle.isp_solo_run.specs.declared.state.Setting.{Setting}
use Rattle.isp_solo_run.specs.declared.state.Single.{Single}
use Rattle.isp_solo_run.specs.declared.state.Stop.{Stop}
use Rattle.isp_solo_run.specs.declared.state.Stop.TheVariants as stop

-- ---- the tasks of a call, where nothing else is to be done

nothing_more : (e : Single) (r : Store) → e.tasks.items ≡ [] → rest e r ≡ On r
nothing_more e r none = ap (λ ts. finish e.setting ts r) none

alone : (e : Single) (g : Goes) → e.tasks.items ≡ [] → go g (rest e) ≡ g
alone e (On r) none = nothing_more e r none
alone e (Trapped t s) none = refl
alone e (Cut s) none = refl

pub then_ends : (q : Result (Unit {0}) Stop) (x : Unit {0}) (old mid new : Single) (f : Store → Goes) (n : ℕ) → old.tasks.items ≡ [] → Tells (Ok x) old mid f n → Ends q mid new (rest mid) → Ends q old new f
then_ends q x old mid new f n none h = by q
  where
    comes : f (store_seen old) ≡ rest mid (store_seen mid)
    comes = sym (alone old (f (store_seen old)) none) ∙ h.0

    by : (q : Result (Unit {0}) Stop) → Ends q mid new (rest mid) → Ends q old new f
    by (Ok y) k = comes ∙ k
    by (Err stop.Memory) k = tt
    by (Err (stop.Trapped t)) k = comes ∙ k
    by (Err stop.Cut) k = comes ∙ k

pub stops_ends : (e : Stop) (old new : Single) (f : Store → Goes) (n : ℕ) → Tells (Err e) old new f n → Ends (Err e) old new f
stops_ends stop.Memory old new f n h = h
stops_ends (stop.Trapped t) old new f n h = h
stops_ends stop.Cut old new f n h = h

-- ---- what it came to

abbrev value_in : Goes → ℕ
value_in (On r) = r.value
value_in (Trapped t s) = 0
value_in (Cut s) = 0

abbrev state_in : Goes → Alone
state_in (On r) = r.state
state_in (Trapped t s) = s
state_in (Cut s) = s

abbrev trap_in : Trap → Goes → Trap
trap_in d (On r) = d
trap_in d (Trapped t s) = t
trap_in d (Cut s) = d

gave : (r q : Store) (v : Answer ℕ) → given r v ≡ On q → v ≡ Has q.value q.state
gave r q (Has x s) e = ap₂ (λ y z. Has y z) (ap value_in e) (ap state_in e)
gave r q (Bad t s) e = absurd (let k : ⊥ = cc in k)
gave r q (Long s) e = absurd (let k : ⊥ = cc in k)

trapped : (r : Store) (v : Answer ℕ) (t : Trap) (s : Alone) → given r v ≡ Trapped t s → v ≡ Bad t s
trapped r (Has x z) t s e = absurd (let k : ⊥ = cc in k)
trapped r (Bad u z) t s e = ap₂ (λ y w. Bad y w) (ap (trap_in u) e) (ap state_in e)
trapped r (Long z) t s e = absurd (let k : ⊥ = cc in k)

cut : (r : Store) (v : Answer ℕ) (s : Alone) → given r v ≡ Cut s → v ≡ Long s
cut r (Has x z) s e = absurd (let k : ⊥ = cc in k)
cut r (Bad u z) s e = absurd (let k : ⊥ = cc in k)
cut r (Long z) s e = ap (λ w. Long w) (ap state_in e)

came : (v : Answer ℕ) (k : Run) (new : Single) → v ≡ ended_in k.ending (state_seen new) → k.arrays ≡ new.arrays → IsRunOf v k
came v k new is same =
    let at : reached v ≡ state_seen new = ap reached is ∙ by k.ending in
    record {
      ending = is ∙ ap (ended_in k.ending) (sym at);
      wrote = ap (λ (a : Arrays). wrote_seen a.stores.items) same ∙ ap (λ (s : Alone). s.wrote) (sym at);
      read = ap (λ (a : Arrays). read_seen a.stores.items) same ∙ ap (λ (s : Alone). s.read) (sym at);
    }
  where
    by : (x : Ending) → reached (ended_in x (state_seen new)) ≡ state_seen new
    by (ending.Gave y) = refl
    by (ending.Trapped t) = refl
    by ending.Cut = refl

module _ (old new : Single) (f : ℕ) (ps : List Passed) where
  pub ran_gave : (q : Result (Unit {0}) Stop) (x : Unit {0}) (k : Run) → q ≡ Ok x → k ≡ record { ending = ending.Gave new.value; arrays = new.arrays } → Ends q old new (enters old f no_place ps) → IsRunOf (entry_answer old f ps) k
  ran_gave (Ok y) x k is at h = came (entry_answer old f ps) k new (gave (store_seen old) (store_seen new) (entry_answer old f ps) h ∙ ap (λ (z : Run). ended_in z.ending (state_seen new)) (sym at)) (ap (λ (z : Run). z.arrays) at)
  ran_gave (Err y) x k is at h = absurd (let z : ⊥ = cc in z)

  came_as : (e : Stop) (x : Ending) → ending_of e ≡ Some x → Ends (Err e) old new (enters old f no_place ps) → entry_answer old f ps ≡ ended_in x (state_seen new)
  came_as stop.Memory x is h = absurd (let k : ⊥ = cc in k)
  came_as (stop.Trapped t) x is h = trapped (store_seen old) (entry_answer old f ps) t (state_seen new) h ∙ ap (λ (z : Ending). ended_in z (state_seen new)) (let k : ending.Trapped t ≡ x = cc in k)
  came_as stop.Cut x is h = cut (store_seen old) (entry_answer old f ps) (state_seen new) h ∙ ap (λ (z : Ending). ended_in z (state_seen new)) (let k : ending.Cut ≡ x = cc in k)

  pub ran_stopped : (q : Result (Unit {0}) Stop) (e : Stop) (x : Ending) (k : Run) → q ≡ Err e → ending_of e ≡ Some x → k ≡ record { ending = x; arrays = new.arrays } → Ends q old new (enters old f no_place ps) → IsRunOf (entry_answer old f ps) k
  ran_stopped q e x k is so at h =
      came (entry_answer old f ps) k new
      (came_as e x so (subst (λ (z : Result (Unit {0}) Stop). Ends z old new (enters old f no_place ps)) is h) ∙ ap (λ (z : Run). ended_in z.ending (state_seen new)) (sym at))
      (ap (λ (z : Run). z.arrays) at)

-- ---- before the call

pub fresh_is : (us vs : List ℕ) (ws : List (Vec ℕ Global)) (ss : List Shared) → us ≡ [] → vs ≡ [] → ws ≡ [] → wrote_seen ss ≡ (λ b e. None) → read_seen ss ≡ (λ b e. false)
    → ◌≡◌ {A = Alone} (record { uniforms = values_of us; varying = values_of vs; own = own_of ws; result = 0; wrote = wrote_seen ss; read = read_seen ss }) fresh
fresh_is us vs ws ss eu ev ew wrote read =
    ap₂ (λ (u v : ℕ → ℕ). record { uniforms = u; varying = v; own = own_of ws; result = 0; wrote = wrote_seen ss; read = read_seen ss }) (ap values_of eu) (ap values_of ev)
    ∙ ap (λ (o : ℕ → ℕ → ℕ). record { uniforms = values_of []; varying = values_of []; own = o; result = 0; wrote = wrote_seen ss; read = read_seen ss }) (ap own_of ew)
    ∙ ap₂ (λ (w : ℕ → ℕ → Option ℕ) (k : ℕ → ℕ → Bool). record { uniforms = values_of []; varying = values_of []; own = own_of []; result = 0; wrote = w; read = k }) wrote read

-- ---- the call that a run is

sizes_are : (rs : List Row) (b : ℕ) → values_of (map (λ (r : Row). length r.bits) rs) b ≡ length (row_bits rs b)
sizes_are [] b = refl
sizes_are (r ∷ rs) zero = refl
sizes_are (r ∷ rs) (suc b) = sizes_are rs b

counted : (rs : List Row) → length (map (λ (r : Row). length r.bits) rs) ≡ length rs
counted [] = refl
counted (r ∷ rs) = ap suc (counted rs)

abbrev known : Program → ℕ → (ℕ → ℕ → ℕ) → ℕ → Option TFunction → List Passed → Frame → Alone → Answer ℕ
known p n m i f ps fr s = called p n m i (own_calls p n m i 255) f ps fr s

-- nothing is looked up in what the caller names
named_apart : (p : Program) (n k i : ℕ) (xs : List Argument) (m : ℕ → ℕ → ℕ) (names : ℕ → ℕ)
    → known p n m i (slice_get p.functions k) (handed 0 xs) (record (first_frame xs) { named = names }) fresh ≡ solo_run p k n xs m i
named_apart p n k i xs m names = by (slice_get p.functions k)
  where
    by : (f : Option TFunction) → known p n m i f (handed 0 xs) (record (first_frame xs) { named = names }) fresh ≡ known p n m i f (handed 0 xs) (first_frame xs) fresh
    by None = refl
    by (Some f) = refl

pub entry_is : (e : Single) (c : Setting) (f : ℕ) (xs : List Argument) (ns : List ℕ) (ps : List Passed) → map (λ (r : Bor Row). r.now) c.bound.now ≡ rows xs → ns ≡ map (λ (r : Row). length r.bits) (rows xs) → ps ≡ handed 0 xs
    → e.setting ≡ c → e.left ≡ 256 → frame_seen e.here ≡ record (frame_seen e.here) { sizes = values_of ns; opened = length ns; own_sizes = λ v. 0; answer = None } → state_seen e ≡ fresh
    → entry_answer e f ps ≡ solo_run (program_of c.program.now) f c.turns xs (bound xs) c.instance
entry_is e c f xs ns ps bi ni pi ec el ef es =
    let p = program_of c.program.now in
    let names = (frame_seen e.here).named in
    ap₂ (λ (d : Setting) (l : ℕ). own_calls (program_of d.program.now) d.turns (bound_seen d.bound.now) d.instance l f no_place ps (frame_seen e.here) (state_seen e)) ec el
    ∙ ap₂ (λ (fr : Frame) (s : Alone). own_calls p c.turns (bound_seen c.bound.now) c.instance 256 f no_place ps fr s)
    (ef ∙ ap₂ (λ (s : ℕ → ℕ) (n : ℕ). record (first_frame xs) { named = names; sizes = s; opened = n })
    (ap values_of ni ∙ fun_ext (sizes_are (rows xs))) (ap length ni ∙ counted (rows xs))) es
    ∙ ap₂ (λ (rs : List Row) (qs : List Passed). own_calls p c.turns (λ b i. slice_index (row_bits rs b) i) c.instance 256 f no_place qs (record (first_frame xs) { named = names }) fresh) bi pi
    ∙ named_apart p c.turns f c.instance xs (bound xs) names
