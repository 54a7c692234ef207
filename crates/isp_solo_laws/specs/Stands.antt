-- When the state of the gang stands for what each of its instances has alone.
use Rattle.std.specs.Prelude.{◌≡◌, ℕ, ◌<◌, List, [], Option, Some, None, IsSome, Bool, true, false}
use Rattle.isp_base.specs.Sets.{Mask, any}
use Rattle.isp_base.specs.Maps.{Lanes}
use Rattle.isp_base.specs.declared.types.Rate.{Rate}
use Rattle.isp_base.specs.declared.types.Rate.TheVariants.{Uniform, Varying}
use Rattle.isp_base.specs.declared.types.Ty.{Ty}
use Rattle.isp_typed.specs.Scoped.{Scope}
use Rattle.isp_meaning.specs.State.{State, Frame}
use Rattle.isp_solo_meaning.specs.Alone.{Alone}
use Rattle.isp_solo_meaning.specs.Answers.{Answer, Has, Bad, Long, End, Does, Dies, Lasts}

-- Where a call runs: the instances of the gang, the shared arrays at the start of the run, the state that each instance
-- reaches alone at the end of its run, the frame of the call, and the instances that made it.
pub record World : Type 0 where
  pub gang : ℕ
  pub begin : ℕ → ℕ → ℕ
  pub last : ℕ → Alone
  pub frame : Frame
  pub callers : Mask

-- ---- what the instances touch

-- what was touched so far is touched by the whole run
pub record Within (last s : Alone) : Type 0 where
  pub read : (b e : ℕ) → s.read b e ≡ true → last.read b e ≡ true
  pub wrote : (b e : ℕ) → IsSome (s.wrote b e) → IsSome (last.wrote b e)

-- where one instance stores no other reads or stores
pub record TouchNothing (gang : ℕ) (last : ℕ → Alone) : Type 0 where
  pub unread : (p q b e : ℕ) → p < gang → q < gang → (p ≡ q → ⊥) → IsSome ((last p).wrote b e) → (last q).read b e ≡ false
  pub unwritten : (p q b e : ℕ) → p < gang → q < gang → (p ≡ q → ⊥) → IsSome ((last p).wrote b e) → (last q).wrote b e ≡ None

-- it ends, and has touched no more than the whole run
abbrev pub EndsWithin : {A : Type 0} → Alone → Answer A → Type 0
EndsWithin last (Has x s) = Within last s
EndsWithin last (Bad t s) = ⊥
EndsWithin last (Long s) = ⊥

-- where an instance stands when it has left a statement
abbrev pub left_at : End → Alone
left_at (Does s how) = s
left_at (Dies t s) = s
left_at (Lasts s) = s

-- what f touches is touched in addition
pub record Up {R : Type 0} (at : R → Alone) (f : Alone → R) : Type 0 where
  pub more : (s : Alone) → Within (at (f s)) s

-- ---- the relation, by the parts of the gang's state; the work is no part, and the uniforms are said apart

-- a uniform result is that of each instance that made the call
abbrev pub ResultOf : Rate → Mask → ℕ → Lanes → Lanes → Type 0
ResultOf Uniform callers result results own = (p : ℕ) → callers p ≡ true → result ≡ own p
ResultOf Varying callers result results own = (p : ℕ) → results p ≡ own p

abbrev pub ResultIs : Option Ty → Mask → ℕ → Lanes → Lanes → Type 0
ResultIs None callers result results own = Unit {0}
ResultIs (Some t) callers result results own = ResultOf t.rate callers result results own

-- Each instance has its variables and its local arrays. A shared array has what an instance stored, or else what it began
-- with. Nothing was printed.
pub record StandsFor (w : World) (varying : ℕ → Lanes) (own : ℕ → ℕ → Lanes) (result : ℕ) (results : Lanes) (arrays : ℕ → ℕ → ℕ) (out : List ℕ) (σ : ℕ → Alone) : Type 0 where
  pub varying_is : (k p : ℕ) → varying k p ≡ (σ p).varying k
  pub own_is : (k e p : ℕ) → own k e p ≡ (σ p).own k e
  pub result_is : ResultIs w.frame.answer w.callers result results (λ p. (σ p).result)
  pub stored : (p b e x : ℕ) → p < w.gang → b < w.frame.opened → (σ p).wrote b e ≡ Some x → arrays b e ≡ x
  pub unstored : (b e : ℕ) → b < w.frame.opened → ((p : ℕ) → p < w.gang → (σ p).wrote b e ≡ None) → arrays b e ≡ w.begin b e
  pub within : (p : ℕ) → p < w.gang → Within (w.last p) (σ p)
  pub silent : out ≡ []

abbrev pub Stands : World → State → (ℕ → Alone) → Type 0
Stands w s σ = StandsFor w s.varying s.own s.result s.results s.arrays s.out σ

-- the members of a set have the gang's uniforms, those that are in scope
abbrev pub Same : Scope → Mask → (ℕ → ℕ) → (ℕ → Alone) → Type 0
Same v a uniforms σ = (p k : ℕ) → a p ≡ true → v k ≡ true → (σ p).uniforms k ≡ uniforms k

-- the members are instances of the gang, and there are some
pub record AreSome (gang : ℕ) (a : Mask) : Type 0 where
  pub inside : (p : ℕ) → a p ≡ true → p < gang
  pub some : any gang a ≡ true

-- ---- what holds of the members of a set

abbrev pub IfIn : Bool → Type 0 → Type 0
IfIn true T = T
IfIn false T = Unit {0}

-- an array that all instances share is one of the stores that are open
abbrev pub IsOpen : Frame → Rate → ℕ → Type 0
IsOpen frame Uniform k = frame.named k < frame.opened
IsOpen frame Varying k = Unit {0}
