-- Laws on the way to the one of whole runs (Correct.antt).
use Rattle.isp_base.specs.declared.types.Rate.{Rate}
use Rattle.isp_base.specs.declared.types.Rate.TheVariants.{Uniform}
use Rattle.isp_meaning.specs.Payloads.{Payload, One, is_true}
use Rattle.isp_meaning.specs.Outcomes.{Res, then_run, unless_empty}
use Rattle.isp_meaning.specs.Statements.{branches, run, block}
use Rattle.isp_solo_laws.specs.Statements.{Ways, ways_of, parted_ways, Here, ActSim, StmtSim}
use Rattle.std.specs.Prelude.{◌≡◌, Bool, true, false, ℕ, List}
use Rattle.isp_base.specs.Sets.{Mask}
use Rattle.isp_base.specs.Types.{gang_width}
use Rattle.isp_typed.specs.Scoped.{Scope, scope_after, scope_after_stmt}
use Rattle.isp_typed.specs.Typed.{TExpr, TItem, TSimple, TStmt, TBlock, Program, rate_of}
use Rattle.isp_typed.specs.declared.variable.Variable.{Variable}
use Rattle.isp_rates.specs.declared.exits.Within.{Within as Around}
use Rattle.isp_rates.specs.Accepted.{IsAccepted}
use Rattle.isp_independence.specs.Independent.{IsCalled, IsIndependent}
use Rattle.isp_independence.specs.declared.control.Control.{Control}
use Rattle.isp_meaning.specs.State.{State, Frame}
use Rattle.isp_meaning.specs.Expressions.{Calls, value}
use Rattle.isp_meaning.specs.Loops.{turns, tested}
use Rattle.isp_meaning.specs.Simple.{simple, items}
use Rattle.isp_solo_meaning.specs.Alone.{Alone}
use Rattle.isp_solo_meaning.specs.Answers.{reached, End, choose, then_on}
use Rattle.isp_solo_meaning.specs.Values.{OwnCalls, answer}
use Rattle.isp_solo_meaning.specs.Loops.{turns as own_turns, tested as own_tested}
use Rattle.isp_solo_meaning.specs.Does.{does, does_block}
use Rattle.isp_solo_meaning.specs.Steps.{simple as own_simple, items as own_items}
use Rattle.isp_meaning.specs.Calls.{calls_at}
use Rattle.isp_solo_meaning.specs.Calls.{own_calls}
use Rattle.isp_solo_laws.specs.Stands.{World, Within, TouchNothing, AreSome, left_at, Up}
use Rattle.isp_solo_laws.specs.Values.{Sim, Stand, CallsAgree}
use Rattle.isp_solo_laws.specs.Acts.{closed_in, AskedOfSimple, AskedOfItems}
use Rattle.isp_solo_laws.specs.Asked.{uniforms_in, OpenArrays, AskedOf}
use Rattle.isp_solo_laws.specs.Loops.{LoopParts, LoopSim}
use Rattle.isp_solo_laws.specs.Bodies.{here_of, ways_at, ways_in, AskedOfStmt, AskedOfBody}

-- what an instance alone has read stays read, and where it has stored it has stored, whatever it does next
pub record TouchedStays : Type 0 where
  pub expression : (program : Program) (most left : ℕ) (m : ℕ → ℕ → ℕ) (p : ℕ) (frame : Frame) (x : TExpr) (s : Alone) → Within (reached (answer m p frame (own_calls program most m p left) x s)) s
  pub statement : (program : Program) (most left : ℕ) (m : ℕ → ℕ → ℕ) (p : ℕ) (frame : Frame) (x : TStmt) (s : Alone)
      → Within (left_at (does (gang_width program.gang) m p frame (own_calls program most m p left) most x s)) s

-- An expression over a set gives each member what its run alone answers, where the calls from this entry do.
abbrev pub ExpressionsAgree : Type 0
ExpressionsAgree =
    (program : Program) (entry : ℕ) (w : World) (calls : Calls) (own : ℕ → OwnCalls) (vars : List Variable) (v : Scope) (x : TExpr) (a : Mask)
    → TouchNothing w.gang w.last
    → CallsAgree w program.functions (IsCalled program.functions entry) calls own
    → OpenArrays w.frame vars
    → AskedOf program.functions vars v (IsCalled program.functions entry) x
    → AreSome w.gang a
    → Sim w (uniforms_in vars v) a (Stand w.gang a (rate_of x)) (value w.gang w.frame calls x a) (λ p. answer w.begin p w.frame (own p) x)

-- An assignment, and declarations one after the other, keep for each member what its run alone keeps: variables, elements of
-- its own arrays, and elements of shared arrays, where no other instance stores.
pub record ActsAgree : Type 0 where
  pub assignment : (program : Program) (entry : ℕ) (w : World) (calls : Calls) (own : ℕ → OwnCalls) (vars : List Variable) (control : Control) (v : Scope) (x : TSimple) (a : Mask)
      → TouchNothing w.gang w.last
      → CallsAgree w program.functions (IsCalled program.functions entry) calls own
      → OpenArrays w.frame vars
      → AskedOfSimple program.functions vars v (IsCalled program.functions entry) control x
      → AreSome w.gang a
      → ActSim w (closed_in control) (uniforms_in vars v) (uniforms_in vars v) a (simple w.gang w.frame calls x a) (λ p. own_simple w.begin p w.frame (own p) x)
  pub declarations : (program : Program) (entry : ℕ) (w : World) (calls : Calls) (own : ℕ → OwnCalls) (vars : List Variable) (control : Control) (v : Scope) (n : ℕ) (xs : List TItem) (a : Mask)
      → TouchNothing w.gang w.last
      → CallsAgree w program.functions (IsCalled program.functions entry) calls own
      → OpenArrays w.frame vars
      → AskedOfItems program.functions vars v (IsCalled program.functions entry) control n xs
      → AreSome w.gang a
      → ActSim w (closed_in control) (uniforms_in vars v) (uniforms_in vars (scope_after v n xs)) a (items w.gang w.frame calls xs a) (λ p. own_items w.begin p w.frame (own p) xs)

-- A loop over a set is ended by each member as it ends it alone, where test, body and step are such: n turns, and the test
-- before the first.
pub record LoopsAgree : Type 0 where
  pub turn : (w : World) (l : LoopParts w) (all : Mask) (n : ℕ) → LoopSim w l all (turns w.gang l.test l.body l.step all n) (λ p. own_turns (l.own_test p) (l.own_body p) (l.own_step p) n)
  pub test : (w : World) (l : LoopParts w) (all : Mask) (n : ℕ)
      → LoopSim w l all (tested w.gang l.test l.body l.step all (turns w.gang l.test l.body l.step all n)) (λ p. own_tested (l.own_test p) (l.own_body p) (l.own_step p) (own_turns (l.own_test p) (l.own_body p) (l.own_step p) n))

-- Statements put together of such as do in each member what they do there alone: one after the other, and branches of a test
-- that stands for what the members have. Where only some take a branch nobody assigns what is known outside.
pub record StatementsAgree : Type 0 where
  pub sequence : (w : World) (here : Here) (v v1 : Scope) (x y : Ways) (a : Mask) (f : State → Res) (own : ℕ → Alone → End) (next : Mask → State → Res) (own_next : ℕ → Alone → End)
      → AreSome w.gang a
      → ((k : ℕ) → v k ≡ true → v1 k ≡ true)
      → (here.top ≡ true → (x.some_break ≡ false) × (x.some_continue ≡ false) × (here.joint ≡ true))
      → StmtSim w here v v1 x a f own
      → ((p : ℕ) → Up left_at (own_next p))
      → ((k : Mask) → AreSome w.gang k → StmtSim w here v1 v1 y k (next k) own_next)
      → StmtSim w here v v (ways_of x y) a (λ s. then_run (f s) (λ g s1. unless_empty w.gang g s1 next)) (λ p s. then_on (own p s) (own_next p))
  pub varying_if : (w : World) (here : Here) (closed : ℕ → Bool) (v v1 v2 : Scope) (x y : Ways) (a : Mask) (first second : Mask → State → Res) (own own2 : ℕ → Alone → End) (r : Rate) (m : Payload) (test : ℕ → ℕ)
      → AreSome w.gang a
      → ((k : ℕ) → v k ≡ true → closed k ≡ true)
      → ((k : ℕ) → here.closed k ≡ true → closed k ≡ true)
      → ((k : Mask) → AreSome w.gang k → StmtSim w (record { closed = closed; joint = here.joint; top = false }) v v1 x k (first k) own)
      → ((k : Mask) → AreSome w.gang k → StmtSim w (record { closed = closed; joint = here.joint; top = false }) v v2 y k (second k) own2)
      → Stand w.gang a r m test
      → StmtSim w here v v (parted_ways x y) a (branches w.gang a first second m) (λ p s. choose (is_true (test p)) (own p) (own2 p) s)
  pub uniform_if : (w : World) (here : Here) (v v1 v2 : Scope) (x y : Ways) (a : Mask) (first second : Mask → State → Res) (own own2 : ℕ → Alone → End) (c : ℕ) (test : ℕ → ℕ)
      → AreSome w.gang a
      → ((k : ℕ) → v k ≡ true → v1 k ≡ true)
      → ((k : ℕ) → v k ≡ true → v2 k ≡ true)
      → StmtSim w here v v1 x a (first a) own
      → StmtSim w here v v2 y a (second a) own2
      → Stand w.gang a Uniform (One c) test
      → StmtSim w here v v (ways_of x y) a (branches w.gang a first second (One c)) (λ p s. choose (is_true (test p)) (own p) (own2 p) s)

-- A statement over a set, and a body, are left by each member as its run alone leaves them.
pub record BodiesAgree : Type 0 where
  pub statement : (program : Program) (entry : ℕ) (w : World) (calls : Calls) (own : ℕ → OwnCalls) (vars : List Variable) (most : ℕ)
      → (control : Control) (around : Around) (v : Scope) (n : ℕ) (x : TStmt) (a : Mask)
      → w.gang ≡ gang_width program.gang
      → TouchNothing w.gang w.last
      → CallsAgree w program.functions (IsCalled program.functions entry) calls own
      → OpenArrays w.frame vars
      → AskedOfStmt w program.functions vars (IsCalled program.functions entry) control around v n x
      → AreSome w.gang a
      → StmtSim w (here_of control around) (uniforms_in vars v) (uniforms_in vars (scope_after_stmt v n x)) (ways_at x) a
      (run w.gang w.frame calls most x a) (λ p. does w.gang w.begin p w.frame (own p) most x)
  pub body : (program : Program) (entry : ℕ) (w : World) (calls : Calls) (own : ℕ → OwnCalls) (vars : List Variable) (most : ℕ)
      → (control : Control) (around : Around) (v : Scope) (n : ℕ) (b : TBlock) (a : Mask)
      → w.gang ≡ gang_width program.gang
      → TouchNothing w.gang w.last
      → CallsAgree w program.functions (IsCalled program.functions entry) calls own
      → OpenArrays w.frame vars
      → AskedOfBody w program.functions vars (IsCalled program.functions entry) control around v n b
      → AreSome w.gang a
      → StmtSim w (here_of control around) (uniforms_in vars v) (uniforms_in vars v) (ways_in b) a
      (block w.gang w.frame calls most b a) (λ p. does_block w.gang w.begin p w.frame (own p) most b)

-- A call of any function that an independent entry reaches does in each member what it does there alone, however many levels are
-- left for the calls in it.
abbrev pub EveryCallAgrees : Type 0
EveryCallAgrees =
    (program : Program) (entry : ℕ) (w : World) (most left : ℕ)
    → IsAccepted program
    → IsIndependent program entry
    → w.gang ≡ gang_width program.gang
    → TouchNothing w.gang w.last
    → CallsAgree w program.functions (IsCalled program.functions entry) (calls_at program most left)
    (λ p. own_calls program most w.begin p left)
