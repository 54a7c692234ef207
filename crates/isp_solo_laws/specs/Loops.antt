-- Loops over a set, whose test, body and step are any that do in each member what they do there alone.
use Rattle.std.specs.Prelude.{◌≡◌, ◌⊎◌, ℕ, Bool, true, false}
use Rattle.isp_base.specs.Sets.{Mask}
use Rattle.isp_base.specs.declared.types.Rate.{Rate}
use Rattle.isp_base.specs.declared.types.Rate.TheVariants.{Uniform}
use Rattle.isp_typed.specs.Scoped.{Scope}
use Rattle.isp_meaning.specs.State.{State}
use Rattle.isp_meaning.specs.Payloads.{Payload}
use Rattle.isp_meaning.specs.Outcomes.{Val, Res, Done}
use Rattle.isp_solo_meaning.specs.Alone.{Alone}
use Rattle.isp_solo_meaning.specs.Answers.{Answer, reached, End}
use Rattle.isp_solo_laws.specs.Stands.{World, Stands, Same, AreSome, IfIn, Up, left_at}
use Rattle.isp_solo_laws.specs.Values.{Sim, Stand}
use Rattle.isp_solo_laws.specs.Statements.{Ways, HasAll, LeavesWithin, ActSim, StmtSim, LoopLeaves}

-- What a loop is made of, and what is asked of it. Where instances do not part in it, its test is uniform, none breaks alone,
-- and none continues past a `break`. Where some continue alone, nobody assigns what is known in the body from outside.

pub record LoopParts (w : World) : Type 0 where
  pub v : Scope
  pub v1 : Scope
  pub parts : Bool
  pub joint : Bool
  pub top : Bool
  pub ways : Ways
  pub closed : ℕ → Bool
  pub closed_body : ℕ → Bool
  pub rate : Rate
  pub test : Mask → State → Val Payload
  pub body : Mask → State → Res
  pub step : Mask → State → Val Done
  pub own_test : ℕ → Alone → Answer ℕ
  pub own_body : ℕ → Alone → End
  pub own_step : ℕ → Alone → Answer Done
  pub test_sim : (a : Mask) → AreSome w.gang a → Sim w v a (Stand w.gang a rate) (test a) own_test
  pub step_sim : (a : Mask) → AreSome w.gang a → ActSim w closed v v a (step a) own_step
  pub body_sim : (a : Mask) → AreSome w.gang a → StmtSim w (record { closed = closed_body; joint = joint; top = top }) v v1 ways a (body a) own_body
  pub test_up : (p : ℕ) → Up reached (own_test p)
  pub body_up : (p : ℕ) → Up left_at (own_body p)
  pub step_up : (p : ℕ) → Up reached (own_step p)
  pub wider : (k : ℕ) → v k ≡ true → v1 k ≡ true
  pub alike : parts ≡ false → rate ≡ Uniform
  pub no_break : parts ≡ false → ways.some_break ≡ false
  pub no_later_break : parts ≡ false → (ways.breaks ≡ false) ⊎ (ways.some_continue ≡ false)
  pub turned : ways.some_continue ≡ true → (k : ℕ) → v k ≡ true → closed_body k ≡ true
  pub closed_in : (k : ℕ) → closed k ≡ true → closed_body k ≡ true
  pub together : top ≡ true → (parts ≡ false) × (ways.some_continue ≡ false) × (joint ≡ true)

-- from every state that stands for what the instances have, if each member's run alone ends: those of a make a turn, and those
-- of returned have returned before
pub record LoopSim (w : World) (l : LoopParts w) (all : Mask) (turn : Mask → Mask → State → Res) (own : ℕ → Alone → End) : Type 0 where
  pub up : (p : ℕ) → Up left_at (own p)
  pub go : (a returned : Mask) → AreSome w.gang a → (s : State) (σ : ℕ → Alone) → Stands w s σ → Same l.v a s.uniforms σ → (l.top ≡ true → HasAll w a) → ((p : ℕ) → IfIn (a p) (LeavesWithin (w.last p) (own p (σ p))))
      → LoopLeaves w l.closed l.v l.parts l.joint l.top a returned all (λ p. own p (σ p)) σ (turn a returned s) s.uniforms
