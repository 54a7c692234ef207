-- What a handler does of its task is what the task does.
use Rattle.std.proofs.Common.{◌≡◌, sym, subst, Result, Ok, Err, OnOk, IfErr}
use Rattle.isp_base.specs.declared.trap.Trap.{Trap}
use Rattle.isp_gang_run.specs.Tasks.{does, Comes, Does, Halts, Traps, refused, trapped}
use Rattle.isp_gang_run.specs.declared.state.Evaluator.{Evaluator}
use Rattle.isp_gang_run.specs.declared.state.Stop.{Stop}
use Rattle.isp_gang_run.specs.declared.state.Stop.TheVariants as stop
use Rattle.isp_gang_run.specs.declared.tasks.Task.{Task}

pub does_comes : (old new : Evaluator) (t : Task) → Does old new t → Comes old new (does old t)
does_comes old new t d = record { by = λ w. d.by w; counts = λ w k. d.counts w k }

pub traps_halts : (old new : Evaluator) (t : Task) (e : Stop) → (x : Trap) × (e ≡ stop.Trapped x) × Traps old new t x → Halts old new (does old t) e
traps_halts old new t e h = trapped h.0 h.1 (λ w. h.2.by w) (λ w k. h.2.counts w k)

module _ (old new : Evaluator) (t u : Task) (is : t ≡ u) where
  pub act_comes : Comes old new (does old u) → Comes old new (does old t)
  act_comes c = subst (λ (k : Task). Comes old new (does old k)) (sym is) c

  pub act_does : Does old new u → Comes old new (does old t)
  act_does d = act_comes (does_comes old new u d)

  module _ (r : Result (Unit {0}) Stop) where
    pub comes_ok : OnOk r (Comes old new (does old u)) → OnOk r (Comes old new (does old t))
    comes_ok h = subst (λ (k : Task). OnOk r (Comes old new (does old k))) (sym is) h

    pub does_ok : OnOk r (Does old new u) → OnOk r (Comes old new (does old t))
    does_ok h = comes_ok (by r h)
      where
        by : (r : Result (Unit {0}) Stop) → OnOk r (Does old new u) → OnOk r (Comes old new (does old u))
        by (Ok a) h = does_comes old new u h
        by (Err e) h = tt

    pub halts_err : IfErr r (Halts old new (does old u)) → IfErr r (Halts old new (does old t))
    halts_err h = subst (λ (k : Task). IfErr r (Halts old new (does old k))) (sym is) h

    pub traps_err : IfErr r (λ e. (x : Trap) × (e ≡ stop.Trapped x) × Traps old new u x) → IfErr r (Halts old new (does old t))
    traps_err h = halts_err (by r h)
      where
        by : (r : Result (Unit {0}) Stop) → IfErr r (λ e. (x : Trap) × (e ≡ stop.Trapped x) × Traps old new u x) → IfErr r (Halts old new (does old u))
        by (Ok a) h = tt
        by (Err e) h = traps_halts old new u e h

pub refused_err : (old new : Evaluator) (t : Task) (r : Result (Unit {0}) Stop) → IfErr r (λ e. e ≡ stop.Memory) → IfErr r (Halts old new (does old t))
refused_err old new t (Ok a) h = tt
refused_err old new t (Err e) h = refused h
