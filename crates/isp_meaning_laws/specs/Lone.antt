-- The gang's meaning over a set of one instance, beside what that instance does alone: it comes to the same.
use Rattle.std.specs.Prelude.{◌≡◌, ℕ, ◌<◌, ◌⊎◌, List, [], Option, Some, None, slice_get, Contains}
use Rattle.std.specs.List.{All}
use Rattle.isp_base.specs.Maps.{on, or_old}
use Rattle.isp_base.specs.Sets.{lone, nobody}
use Rattle.isp_base.specs.Types.{gang_width}
use Rattle.isp_base.specs.declared.signature.Argument.{Argument}
use Rattle.isp_base.specs.declared.types.Rate.{Rate}
use Rattle.isp_base.specs.declared.types.Rate.TheVariants.{Uniform, Varying}
use Rattle.isp_base.specs.declared.types.Ty.{Ty}
use Rattle.isp_lex.specs.declared.fault.Fault.{Fault}
use Rattle.isp_tree.specs.Sound.{IfAny}
use Rattle.isp_typed.specs.declared.variable.Variable.{Variable}
use Rattle.isp_typed.specs.Fine.{FineExpr, FineStmt, array_type}
use Rattle.isp_typed.specs.Typed.{TExpr, rate_of, TPlace, TCall, TItem, t_plain, t_with_value, t_with_size, TSimple, t_value, t_run, t_assign, t_update, t_step, TFirst, t_first_declare, t_first_simple, TFunction, Program}
use Rattle.isp_typed.specs.Typed.{TStmt, t_block, t_declare, t_simple, t_if, t_if_else, t_while, t_do, t_for, t_foreach, t_foreach_active, t_foreach_unique}
use Rattle.isp_typed.specs.Typed.{t_unmasked, t_jump, t_return, t_print, t_assert, TBlock, t_braces, TStmts, t_no_stmts, t_stmt_then}
use Rattle.isp_rates.specs.declared.exits.Within.{Within}
use Rattle.isp_rates.specs.Exits.{StmtBreach}
use Rattle.isp_rates.specs.Accepted.{IsAccepted}
use Rattle.isp_rates.specs.Rates.{ExprBreach}
use Rattle.isp_independence.specs.declared.dependence.Dependence.{Dependence}
use Rattle.isp_independence.specs.Crossing.{Cross, CrossPlace, CrossCall}
use Rattle.isp_independence.specs.Reaches.{expr_calls, stmt_calls, Reaches}
use Rattle.isp_meaning.specs.Calls.{shared_sizes, calls_at, most_calls}
use Rattle.isp_meaning.specs.Entries.{IsEntry}
use Rattle.isp_meaning.specs.Expressions.{value}
use Rattle.isp_meaning.specs.Outcomes.{Val, Gives, Fails, Stops, Res, Went, Trapped, Cut}
use Rattle.isp_meaning.specs.Payloads.{Payload, One, Each}
use Rattle.isp_meaning.specs.Runs.{handed, first_frame, first_state, no_place}
use Rattle.isp_meaning.specs.State.{State, Frame}
use Rattle.isp_meaning.specs.Statements.{run}
use Rattle.isp_solo_meaning.specs.Alone.{Alone}
use Rattle.isp_solo_meaning.specs.Answers.{Answer, Has, Bad, Long, How, Going, Broke, Continued, Returned, End, Does, Dies, Lasts}
use Rattle.isp_solo_meaning.specs.Calls.{own_calls}
use Rattle.isp_solo_meaning.specs.Does.{does}
use Rattle.isp_solo_meaning.specs.Runs.{solo_run, bound}
use Rattle.isp_solo_meaning.specs.Values.{answer}

-- ---- what looks at nobody: no call that looks across the gang, no `print`, no `foreach` and no `unmasked`, in which others take
-- part. (A `foreach_active` or a `foreach_unique` over a set of one makes its one turn.)

abbrev pub NoCross : TExpr → Type 0
NoCross x = (d : Dependence) → Cross x d → ⊥

abbrev pub NoCrossPlace : TPlace → Type 0
NoCrossPlace q = (d : Dependence) → CrossPlace q d → ⊥

abbrev pub NoCrossCall : TCall → Type 0
NoCrossCall c = (d : Dependence) → CrossCall c d → ⊥

abbrev pub LonelyItem : TItem → Type 0
LonelyItem (t_plain v t sp) = Unit {0}
LonelyItem (t_with_value v t x sp) = NoCross x
LonelyItem (t_with_size b sp) = Unit {0}

abbrev pub LonelySimple : TSimple → Type 0
LonelySimple (t_value x) = NoCross x
LonelySimple (t_run c) = NoCrossCall c
LonelySimple (t_assign q x sp) = NoCrossPlace q × NoCross x
LonelySimple (t_update op e q x sp) = NoCrossPlace q × NoCross x
LonelySimple (t_step op e q sp) = NoCrossPlace q

abbrev pub LonelyFirst : TFirst → Type 0
LonelyFirst (t_first_declare xs sp) = All LonelyItem xs
LonelyFirst (t_first_simple x) = LonelySimple x

abbrev mutual
  pub Lonely : TStmt → Type 0
  Lonely (t_block b) = LonelyBlock b
  Lonely (t_declare xs sp) = All LonelyItem xs
  Lonely (t_simple x sp) = LonelySimple x
  Lonely (t_if f n e x sp) = NoCross e × Lonely x
  Lonely (t_if_else f n e x y sp) = NoCross e × Lonely x × Lonely y
  Lonely (t_while f n e x sp) = NoCross e × Lonely x
  Lonely (t_do f n x e sp) = NoCross e × Lonely x
  Lonely (t_for f n first e step i x sp) = IfAny LonelyFirst first × IfAny NoCross e × IfAny LonelySimple step × Lonely x
  Lonely (t_foreach w n rs x sp) = ⊥
  Lonely (t_foreach_active w n i x sp) = Lonely x
  Lonely (t_foreach_unique w n i t e x sp) = NoCross e × Lonely x
  Lonely (t_unmasked w b sp) = ⊥
  Lonely (t_jump j w sp) = Unit {0}
  Lonely (t_return w x sp) = IfAny NoCross x
  Lonely (t_print w text xs sp) = ⊥
  Lonely (t_assert x c sp) = NoCross x

  pub LonelyBlock : TBlock → Type 0
  LonelyBlock (t_braces xs sp) = LonelyAll xs

  pub LonelyAll : TStmts → Type 0
  LonelyAll t_no_stmts = Unit {0}
  LonelyAll (t_stmt_then x xs) = Lonely x × LonelyAll xs

-- no variable is a local array that all instances share
abbrev pub SharesNone : List Variable → Type 0
SharesNone vars = shared_sizes vars ≡ []

-- neither it nor a function that it reaches by calls looks at another instance
pub record LooksAtNobody (program : Program) (k : ℕ) : Type 0 where
  pub body : (j : ℕ) (g : TFunction) → Reaches program.functions k j → slice_get program.functions j ≡ Some g → LonelyBlock g.body
  pub arrays : (j : ℕ) (g : TFunction) → Reaches program.functions k j → slice_get program.functions j ≡ Some g → SharesNone g.variables

-- ---- where it runs: the instance, the shared arrays and the output at the start of the run, and the frame of the call

pub record World : Type 0 where
  pub instance : ℕ
  pub begin : ℕ → ℕ → ℕ
  pub out : List ℕ
  pub frame : Frame

-- a frame of this function: its result, and each array that all share is one of the open ones
pub record IsFrameOf (frame : Frame) (g : TFunction) : Type 0 where
  pub answer : frame.answer ≡ g.answer
  pub opened : (k : ℕ) (x : Variable) (t : Ty) → slice_get g.variables k ≡ Some x → array_type x.holds ≡ Some t → t.rate ≡ Uniform → frame.named k < frame.opened

-- ---- when the gang's state stands for that of the instance

-- what the last `return` gave: one value for all, or this instance's own
abbrev pub ResultAt : Rate → ℕ → ℕ → ℕ → Type 0
ResultAt Uniform one mine x = one ≡ x
ResultAt Varying one mine x = mine ≡ x

abbrev pub ResultIs : Option Ty → ℕ → ℕ → ℕ → Type 0
ResultIs None one mine x = Unit {0}
ResultIs (Some t) one mine x = ResultAt t.rate one mine x

-- An array that all share has what the instance stored, or else what it began with. Nothing was printed.
abbrev pub Shares : World → State → Alone → Type 0
Shares w s t = ((b e : ℕ) → b < w.frame.opened → s.arrays b e ≡ or_old (t.wrote b e) (w.begin b e)) × (s.out ≡ w.out)

-- its variables, its own arrays and what it returned are there too; of the other instances nothing is said
abbrev pub Stands : World → State → Alone → Type 0
Stands w s t =
    (s.uniforms ≡ t.uniforms) × ((v : ℕ) → s.varying v w.instance ≡ t.varying v) × ((v e : ℕ) → s.own v e w.instance ≡ t.own v e)
    × ResultIs w.frame.answer s.result (s.results w.instance) t.result × Shares w s t

-- ---- when the gang comes to what the instance does

-- to an answer: a value, the same trap, or a cut, with the state reached
abbrev pub Comes : {A B : Type 0} → World → (A → B → Type 0) → Val A → Answer B → Type 0
Comes w R (Gives x s) (Has y t) = R x y × Stands w s t
Comes w R (Fails e s) (Bad d t) = (e ≡ d) × Shares w s t
Comes w R (Stops s) (Long t) = Shares w s t
Comes w R v r = ⊥

-- a value: one for all, or where the rate is varying one in this instance and in no other
abbrev pub IsValue : ℕ → Rate → Payload → ℕ → Type 0
IsValue p r m y = (m ≡ One y) ⊎ (r ≡ Varying) × (m ≡ Each (on (lone (Some p)) (λ q. y)))

-- the answer of a call, which is looked at where there is a result
abbrev pub IsAnswer : ℕ → Option Ty → Payload → ℕ → Type 0
IsAnswer p None m y = Unit {0}
IsAnswer p (Some t) m y = IsValue p t.rate m y

-- the one instance in the set of its way, and nobody in the others
abbrev pub left : ℕ → How → State → Res
left p Going s = Went s (lone (Some p)) nobody nobody nobody
left p Broke s = Went s nobody (lone (Some p)) nobody nobody
left p Continued s = Went s nobody nobody (lone (Some p)) nobody
left p Returned s = Went s nobody nobody nobody (lone (Some p))

-- to an end: the same way, the same trap, or a cut
abbrev pub ComesTo : World → Res → End → Type 0
ComesTo w (Went s g b c r) (Does t how) = (Went s g b c r ≡ left w.instance how s) × Stands w s t
ComesTo w (Trapped e s) (Dies d t) = (e ≡ d) × Shares w s t
ComesTo w (Cut s) (Lasts t) = Shares w s t
ComesTo w v r = ⊥

-- ---- the law

-- In a function of an accepted program: names, types and rates accept it, and neither it nor what it calls looks at another
-- instance.
pub record LonelyExpr (program : Program) (g : TFunction) (x : TExpr) : Type 0 where
  pub fine : FineExpr program.functions g.variables x
  pub rates : (f : Fault) → ExprBreach program.functions x f → ⊥
  pub lonely : NoCross x
  pub calls : (k : ℕ) → Contains (expr_calls x) k → LooksAtNobody program k

pub record LonelyStmt (program : Program) (g : TFunction) (around : Within) (x : TStmt) : Type 0 where
  pub fine : FineStmt program.functions g.variables g.answer x
  pub rates : (f : Fault) → StmtBreach program.functions g.answer around x f → ⊥
  pub lonely : Lonely x
  pub arrays : SharesNone g.variables
  pub calls : (k : ℕ) → Contains (stmt_calls x) k → LooksAtNobody program k

-- The gang's meaning over the set of this instance, and what it does alone: where each loop makes at most so many turns each
-- time it is entered, and so many levels of calls are left.
module _ (program : Program) (most levels : ℕ) (w : World) where
  abbrev pub among : TExpr → State → Val Payload
  among x s = value (gang_width program.gang) w.frame (calls_at program most levels) x (lone (Some w.instance)) s

  abbrev pub alone : TExpr → Alone → Answer ℕ
  alone x t = answer w.begin w.instance w.frame (own_calls program most w.begin w.instance levels) x t

  abbrev pub run_among : TStmt → State → Res
  run_among x s = run (gang_width program.gang) w.frame (calls_at program most levels) most x (lone (Some w.instance)) s

  abbrev pub does_alone : TStmt → Alone → End
  does_alone x t = does (gang_width program.gang) w.begin w.instance w.frame (own_calls program most w.begin w.instance levels) most x t

-- the call that begins a run, by the set of instance p, and where it runs
abbrev pub lone_run : Program → ℕ → ℕ → List Argument → ℕ → Val Payload
lone_run program f most xs p = calls_at program most most_calls f no_place (lone (Some p)) (handed 0 xs) (first_frame xs) (first_state xs)

abbrev pub whole_world : List Argument → ℕ → World
whole_world xs p = record { instance = p; begin = bound xs; out = []; frame = first_frame xs }

-- Over the set of one instance, from a state that stands for its own, an expression, a statement and a whole run come in the
-- gang's meaning to exactly what that instance does alone: the value, the way it leaves and the state, or the trap with its
-- kind, its place and the instance, or a cut, with as many turns and levels of calls.
pub record LoneIsAlone : Type 0 where
  pub expression : (program : Program) (most levels : ℕ) (w : World) (g : TFunction) (x : TExpr) (s : State) (t : Alone)
      → IsAccepted program → w.instance < gang_width program.gang → IsFrameOf w.frame g → LonelyExpr program g x → Stands w s t
      → Comes w (IsValue w.instance (rate_of x)) (among program most levels w x s) (alone program most levels w x t)
  pub statement : (program : Program) (most levels : ℕ) (w : World) (g : TFunction) (around : Within) (x : TStmt) (s : State) (t : Alone)
      → IsAccepted program → w.instance < gang_width program.gang → IsFrameOf w.frame g → LonelyStmt program g around x → Stands w s t
      → ComesTo w (run_among program most levels w x s) (does_alone program most levels w x t)
  pub whole : (program : Program) (name : List ℕ) (f most : ℕ) (h : TFunction) (xs : List Argument) (p : ℕ)
      → IsAccepted program → IsEntry program name xs f h → LooksAtNobody program f → p < gang_width program.gang
      → Comes (whole_world xs p) (IsAnswer p h.answer) (lone_run program f most xs p) (solo_run program f most xs (bound xs) p)
