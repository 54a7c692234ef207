-- How a run stands once nothing is left to be done.
use Rattle.std.proofs.Common.{◌≡◌, sym, ap, ◌∙◌, Result, Ok, Err, OnOk, IfErr}
use Rattle.isp_base.specs.declared.trap.Trap.{Trap}
use Rattle.isp_meaning.specs.State.{State}
use Rattle.isp_meaning.specs.Payloads.{Payload}
use Rattle.isp_meaning.specs.Outcomes.{Val, Gives, Fails, Stops}
use Rattle.isp_gang_run.specs.Seen.{state_seen}
use Rattle.isp_gang_run.specs.Ends.{Ends}
use Rattle.isp_gang_run.specs.Settled.{Stands}
use Rattle.isp_gang_run.specs.Tasks.{Store, Goes, On, Trapped, Cut, Counts, given, Halts, refused, trapped, cut, store_seen}
use Rattle.isp_gang_run.specs.declared.state.Evaluator.{Evaluator}
use Rattle.isp_gang_run.specs.declared.state.Stop.{Stop}
use Rattle.isp_gang_run.specs.declared.state.Stop.TheVariants as stop

-- ---- what registers and a state say of a value

given_on : (r q : Store) (v : Val Payload) → given r v ≡ On q → v ≡ Gives q.value q.state
given_on r q (Gives m s) e = ap (λ (x : Store). Gives x.value x.state) (on_same _ q e)
  where
    on_same : (x y : Store) → On x ≡ On y → x ≡ y
    on_same x y e = cc
given_on r q (Fails t s) e = absurd (let h : ⊥ = cc in h)
given_on r q (Stops s) e = absurd (let h : ⊥ = cc in h)

given_trapped : (r : Store) (t : Trap) (s : State) (v : Val Payload) → given r v ≡ Trapped t s → v ≡ Fails t s
given_trapped r t s (Gives m s1) e = absurd (let h : ⊥ = cc in h)
given_trapped r t s (Fails t1 s1) e = cc
given_trapped r t s (Stops s1) e = absurd (let h : ⊥ = cc in h)

given_cut : (r : Store) (s : State) (v : Val Payload) → given r v ≡ Cut s → v ≡ Stops s
given_cut r s (Gives m s1) e = absurd (let h : ⊥ = cc in h)
given_cut r s (Fails t1 s1) e = absurd (let h : ⊥ = cc in h)
given_cut r s (Stops s1) e = cc

-- ---- how the tasks of a call ended, from a store where so many nodes were reached

module _ (old new : Evaluator) (f : Store → Goes) (v : Val Payload) (is : f (store_seen old 0) ≡ given (store_seen old 0) v) (zero : Counts old 0) where
  ends_stand : Ends old new f → Stands (Ok tt) new v
  ends_stand d = ((d.by 0).0, d.counts 0 zero, given_on (store_seen old 0) (store_seen new (d.by 0).0) v (sym is ∙ (d.by 0).1))

  halts_stand : (e : Stop) → Halts old new f e → Stands (Err e) new v
  halts_stand stop.Memory h = tt
  halts_stand (stop.Trapped t) (refused m) = absurd (let z : ⊥ = cc in z)
  halts_stand (stop.Trapped t) (trapped x m h k) = ((h 0).0, k 0 zero, given_trapped (store_seen old 0) t (state_seen new (h 0).0) v (sym is ∙ (h 0).1 ∙ ap (λ (y : Trap). Trapped y (state_seen new (h 0).0)) (same x t m)))
    where
      same : (x t : Trap) → stop.Trapped t ≡ stop.Trapped x → x ≡ t
      same x t m = cc
  halts_stand (stop.Trapped t) (cut m h k) = absurd (let z : ⊥ = cc in z)
  halts_stand stop.Cut (refused m) = absurd (let z : ⊥ = cc in z)
  halts_stand stop.Cut (trapped x m h k) = absurd (let z : ⊥ = cc in z)
  halts_stand stop.Cut (cut m h k) = ((h 0).0, k 0 zero, given_cut (store_seen old 0) (state_seen new (h 0).0) v (sym is ∙ (h 0).1))

  pub stands : (r : Result (Unit {0}) Stop) → OnOk r (Ends old new f) → IfErr r (Halts old new f) → Stands r new v
  stands (Ok x) d h = ends_stand d
  stands (Err e) d h = halts_stand e h
