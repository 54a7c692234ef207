-- A call over a set does in each member what it does there alone, however deep calls go.
use Rattle.std.proofs.Common.{◌≡◌, ℕ, zero, suc, ◌+◌, ◌<◌, ◌≤◌, Bool, true, false, refl, sym, ap, ◌∙◌, subst, arith, true≢false}
use Rattle.std.proofs.Math.Path.{fun_ext}
use Rattle.std.specs.Prelude.{List, length, take, Option, Some, None, Contains, if◌then◌else◌, nat_lt, slice_get}
use Rattle.isp_base.specs.Sets.{Mask}
use Rattle.isp_base.specs.Types.{gang_width}
use Rattle.isp_base.specs.declared.types.Rate.{Rate}
use Rattle.isp_base.specs.declared.types.Rate.TheVariants.{Uniform, Varying}
use Rattle.isp_base.specs.declared.types.Span.{Span}
use Rattle.isp_base.specs.declared.types.Ty.{Ty}
use Rattle.isp_lex.specs.declared.fault.Fault.{Fault}
use Rattle.isp_typed.specs.Fine.{params_of, FineBlock}
use Rattle.isp_typed.specs.Scoped.{Scope, ScopedFunction}
use Rattle.isp_typed.specs.Typed.{TFunction, Program}
use Rattle.isp_rates.specs.Exits.{at_start, BlockBreach}
use Rattle.isp_independence.specs.declared.dependence.Dependence.{Dependence}
use Rattle.isp_independence.specs.Control.{start}
use Rattle.isp_independence.specs.Independent.{leaves_early_block, IsCalled}
use Rattle.isp_independence.specs.Reaches.{block_calls}
use Rattle.isp_independence.specs.Statements.{BlockDepends}
use Rattle.isp_meaning.specs.State.{State, Frame, below}
use Rattle.isp_meaning.specs.Outcomes.{Res}
use Rattle.isp_meaning.specs.Expressions.{Passed, Calls}
use Rattle.isp_meaning.specs.Statements.{block}
use Rattle.isp_meaning.specs.Calls.{shared_sizes, frame_of, begun, answer_at, answer_of, resumed, ended, called, calls_at}
use Rattle.isp_solo_meaning.specs.Alone.{Alone}
use Rattle.isp_solo_meaning.specs.Answers.{How, End, Does, Dies, Lasts}
use Rattle.isp_solo_meaning.specs.Values.{OwnCalls}
use Rattle.isp_solo_meaning.specs.Does.{does_block}
use Rattle.isp_solo_meaning.specs.Calls.{value_passed, own_calls, begun as own_begun, resumed as own_resumed, ended as own_ended, called as own_called}
use Rattle.isp_solo_laws.specs.Stands.{World, TouchNothing, EndsWithin, ResultOf, ResultIs, Stands, Same, AreSome, IfIn}
use Rattle.isp_solo_laws.specs.Values.{AnswersAlone, Agrees, Sim, Stand, PassedStand, AnswerStands, CallsAgree}
use Rattle.isp_solo_laws.specs.Statements.{LeavesWithin, LeavesAlone, Leaves}
use Rattle.isp_solo_laws.specs.Asked.{uniforms_in, OpenArrays}
use Rattle.isp_solo_laws.specs.Bodies.{here_of, ways_in}
use Rattle.isp_solo_laws.proofs.Lanes.{member}
use Rattle.isp_solo_laws.proofs.Held.{not_uniform}
use Rattle.isp_solo_laws.proofs.Grows.{own_calls_up}
use Rattle.isp_solo_laws.proofs.Scopes.{of_lt}
use Rattle.isp_solo_laws.proofs.Runs.{block_sim}
use Rattle.isp_solo_laws.proofs.Declared.{declared_own}
use Rattle.isp_solo_laws.proofs.Starts.{start_quiet, start_stood}
use Rattle.isp_solo_laws.proofs.Handed.{handed_to, none_shared, HandedAt, handed_at, varying_begun, uniform_begun, same_store, opens_at, not_shared}

-- ---- one instance

body_ends : (last : Alone) (t : Bool) (before : Alone) (r r1 : End) → (t ≡ true → r ≡ r1) → IfIn t (EndsWithin last (own_ended before r)) → IfIn t (LeavesWithin last r1)
body_ends last false before r r1 e h = tt
body_ends last true before r r1 e h = subst (LeavesWithin last) (e refl) (by r h) where
  by : (r : End) → EndsWithin last (own_ended before r) → LeavesWithin last r
  by (Does s how) h = record { read = h.read; wrote = h.wrote }
  by (Dies t s) h = h
  by (Lasts s) h = h

call_alone : (t : Bool) (before s0 : Alone) (r r1 : End) (how : How) (s1 : Alone) → (t ≡ true → r ≡ r1) → own_resumed before s0 ≡ before → LeavesAlone t r1 s0 how s1
    → AnswersAlone t (own_ended before r) before s1.result (own_resumed before s1)
call_alone true before s0 r r1 how s1 e i h = ap (own_ended before) (e refl ∙ h)
call_alone false before s0 r r1 how s1 e i h = ap (own_resumed before) h ∙ i

-- ---- results

same_in : (t : Bool) (x y : ℕ) → (t ≡ true → x ≡ y) → (if t then Some x else None) ≡ (if t then Some y else None)
same_in true x y e = ap Some (e refl)
same_in false x y e = refl

answer_stands : (gang : ℕ) (a : Mask) (t : Option Ty) (s : State) (y : ℕ → ℕ) → ResultIs t a s.result s.results y → AnswerStands gang a t (answer_of t a s) y
answer_stands gang a None s y h = tt
answer_stands gang a (Some t) s y h = by t.rate h where
  by : (r : Rate) → ResultOf r a s.result s.results y → Stand gang a r (answer_at r a s) y
  by Uniform h = record { at = λ p. same_in (a p) s.result (y p) (h p); one = λ i e. tt }
  by Varying h = record { at = λ p. ap (λ z. if a p then Some z else None) (h p); one = λ i e. absurd (not_uniform e) }

result_begun : (t : Option Ty) (a : Mask) → ResultIs t a 0 (λ p. 0) (λ p. 0)
result_begun None a = tt
result_begun (Some t) a = by t.rate where
  by : (r : Rate) → ResultOf r a 0 (λ p. 0) (λ p. 0)
  by Uniform = λ p e. refl
  by Varying = λ p. refl

-- ---- the arrays of a call

below_is : (n : ℕ) (arrays : ℕ → ℕ → ℕ) (b e : ℕ) → b < n → below n arrays b e ≡ arrays b e
below_is n arrays b e lt = ap (λ t. (if t then arrays b else (λ i. 0)) e) (of_lt b n lt)

abbrev with_named : Frame → (ℕ → ℕ) → Frame
with_named f n = record { named = n; sizes = f.sizes; opened = f.opened; own_sizes = f.own_sizes; answer = f.answer }

-- ---- a body that the entry reaches

pub record FairBody (program : Program) (entry : ℕ) (incomplete : Bool) (g : TFunction) : Type 0 where
  pub fine : FineBlock program.functions g.variables g.answer g.body
  pub clean : (f : Fault) → BlockBreach program.functions g.answer at_start g.body f → ⊥
  pub alone : (d : Dependence) → BlockDepends (start incomplete g) g.body d → ⊥
  pub scoped : ScopedFunction g
  pub called : (k : ℕ) → Contains (block_calls g.body) k → IsCalled program.functions entry k
  pub early : incomplete ≡ false → leaves_early_block (start incomplete g) g.body ≡ false

-- where a call of it runs
abbrev pub inner : World → TFunction → List Passed → Mask → World
inner w g xs a = record { gang = w.gang; begin = w.begin; last = w.last; frame = frame_of g xs w.frame; callers = a }

module _ (program : Program) (entry most : ℕ) (incomplete : Bool) (g : TFunction) (fair : FairBody program entry incomplete g) (w : World) (touch : TouchNothing w.gang w.last) (wide : w.gang ≡ gang_width program.gang)
    (xs : List Passed) (ys : ℕ → List Passed) (a : Mask) (some : AreSome w.gang a) (stand : PassedStand w.frame.opened a (params_of g) xs ys) (all : incomplete ≡ false → (p : ℕ) → p < w.gang → a p ≡ true) where
  abbrev there : World
  there = inner w g xs a

  handed : (p k : ℕ) → HandedAt w.frame.opened a p (slice_get xs k) (slice_get (ys p) k) (slice_get g.variables k)
  handed p k = handed_at w.frame.opened a p (length g.params) g.variables xs (ys p) (stand.at p) stand.suit (declared_own program.functions g (start incomplete g) fair.fine fair.alone fair.scoped) k

  same_frame : (p : ℕ) → frame_of g (ys p) w.frame ≡ frame_of g xs w.frame
  same_frame p =
      ap (with_named (frame_of g xs w.frame))
      (fun_ext (λ v. same_store w.frame.opened a p (slice_get xs v) (slice_get (ys p) v) (slice_get g.variables v) (handed p v) (w.frame.opened + length (shared_sizes (take v g.variables)))))

  no_locals : length (shared_sizes g.variables) ≡ 0
  no_locals = ap length (none_shared g.variables (λ k. not_shared w.frame.opened a 0 (slice_get xs k) (slice_get (ys 0) k) (slice_get g.variables k) (handed 0 k)))

  opened_before : (b : ℕ) → b < w.frame.opened + length (shared_sizes g.variables) → b < w.frame.opened
  opened_before b lt = let none = no_locals in omega (arith, lt, none)

  opened_then : (b : ℕ) → b < w.frame.opened → b < w.frame.opened + length (shared_sizes g.variables)
  opened_then b lt = omega (arith, lt)

  opens : OpenArrays there.frame g.variables
  opens = record {
    is = λ k x t found ty.
        let more : w.frame.opened ≤ w.frame.opened + length (shared_sizes g.variables) = omega arith in
        opens_at w.frame.opened a 0 there.frame k (w.frame.opened + length (shared_sizes (take k g.variables))) (slice_get xs k) (slice_get (ys 0) k) x t refl more
        (subst (HandedAt w.frame.opened a 0 (slice_get xs k) (slice_get (ys 0) k)) found (handed 0 k)) ty;
  }

  -- what the instances begin it with
  abbrev own_first : (ℕ → Alone) → ℕ → Alone
  own_first σ p = own_begun g (handed_to (a p) (ys p)) (σ p)

  first_stands : (s : State) (σ : ℕ → Alone) → Stands w s σ → Stands there (begun g xs w.frame a s) (own_first σ)
  first_stands s σ st = record {
    varying_is = λ k p. varying_begun w.frame.opened a p (a p) refl (slice_get xs k) (ys p) (slice_get g.variables k) k (handed p k);
    own_is = λ k e p. refl;
    result_is = result_begun g.answer a;
    stored = λ p b e x lp lb h. below_is w.frame.opened s.arrays b e (opened_before b lb) ∙ st.stored p b e x lp (opened_before b lb) h;
    unstored = λ b e lb h. below_is w.frame.opened s.arrays b e (opened_before b lb) ∙ st.unstored b e (opened_before b lb) h;
    within = λ p lp. record { read = (st.within p lp).read; wrote = (st.within p lp).wrote };
    silent = st.silent;
  }

  first_same : (s : State) (σ : ℕ → Alone) (v : Scope) → Same v a (begun g xs w.frame a s).uniforms (own_first σ)
  first_same s σ v p k i j =
      ap (λ t. value_passed Uniform (slice_get g.variables k) (slice_get (handed_to t (ys p)) k)) i ∙ uniform_begun w.frame.opened a p i (slice_get xs k) (slice_get (ys p) k) (slice_get g.variables k) (handed p k)

  module _ (calls : Calls) (own : ℕ → OwnCalls) (agree : CallsAgree there program.functions (IsCalled program.functions entry) calls own) where
    abbrev known : Scope
    known = uniforms_in g.variables (λ k. nat_lt k (length g.params))

    abbrev own_body : (ℕ → Alone) → ℕ → End
    own_body σ p = does_block w.gang w.begin p (frame_of g (ys p) w.frame) (own p) most g.body (own_begun g (ys p) (σ p))

    abbrev own_there : (ℕ → Alone) → ℕ → End
    own_there σ p = does_block w.gang w.begin p there.frame (own p) most g.body (own_first σ p)

    same_body : (σ : ℕ → Alone) (p : ℕ) → a p ≡ true → own_body σ p ≡ own_there σ p
    same_body σ p e =
        ap (λ f. does_block w.gang w.begin p f (own p) most g.body (own_begun g (ys p) (σ p))) (same_frame p)
        ∙ ap (λ t. does_block w.gang w.begin p there.frame (own p) most g.body (own_begun g (handed_to t (ys p)) (σ p))) (sym e)

    -- the caller has its variables as they were
    back : (s : State) (σ : ℕ → Alone) → Stands w s σ → (res : Res) (u : ℕ → ℕ) → Leaves there (here_of (start incomplete g) at_start) known known (ways_in g.body) a (own_there σ) (own_first σ) res u
        → Agrees w a (AnswerStands w.gang a g.answer) (λ p. own_ended (σ p) (own_body σ p)) σ (ended g.answer w.frame a s res) s.uniforms
    back s σ st res u ok = record {
      x = answer_of g.answer a ok.s;
      s = resumed w.frame s ok.s;
      y = λ p. (ok.after p).result;
      after = λ p. own_resumed (σ p) (ok.after p);
      is = ap (ended g.answer w.frame a s) ok.is;
      alone = λ p. call_alone (a p) (σ p) (own_first σ p) (own_body σ p) (own_there σ p) (ok.how p) (ok.after p) (same_body σ p) refl (ok.alone p);
      value = answer_stands w.gang a g.answer ok.s (λ p. (ok.after p).result) ok.stands.result_is;
      uniforms = refl;
      own_uniforms = λ p. refl;
      stands = record {
        varying_is = st.varying_is;
        own_is = st.own_is;
        result_is = st.result_is;
        stored = λ p b e x lp lb h. below_is w.frame.opened ok.s.arrays b e lb ∙ ok.stands.stored p b e x lp (opened_then b lb) h;
        unstored = λ b e lb h. below_is w.frame.opened ok.s.arrays b e lb ∙ ok.stands.unstored b e (opened_then b lb) h;
        within = λ p lp. record { read = (ok.stands.within p lp).read; wrote = (ok.stands.within p lp).wrote };
        silent = ok.stands.silent;
      };
    }

    body_agrees : (v : Scope)
        → Sim w v a (AnswerStands w.gang a g.answer) (λ s. ended g.answer w.frame a s (block w.gang there.frame calls most g.body a (begun g xs w.frame a s)))
        (λ p s. own_ended s (does_block w.gang w.begin p (frame_of g (ys p) w.frame) (own p) most g.body (own_begun g (ys p) s)))
    body_agrees v = record {
      go = λ s σ st sa ends.
          back s σ st (block w.gang there.frame calls most g.body a (begun g xs w.frame a s)) (begun g xs w.frame a s).uniforms
          ((block_sim there touch program.functions (IsCalled program.functions entry) calls own agree g.variables opens most program.gang wide g.body
          (start incomplete g) at_start (λ k. nat_lt k (length g.params)) (length g.params) fair.fine fair.clean fair.alone fair.scoped.body
          fair.called
          (start_stood there incomplete g refl all) fair.early (start_quiet program.functions g.answer (start incomplete g) g.body fair.clean) a some).go
          (begun g xs w.frame a s) (own_first σ) (first_stands s σ st) (first_same s σ known) (λ top p c. c) (λ p. body_ends (w.last p) (a p) (σ p) (own_body σ p) (own_there σ p) (same_body σ p) (ends p)));
    }

-- ---- levels

module _ (program : Program) (entry most : ℕ) where
  -- a call of a function of the program, whose calls have so many levels left
  pub level_agrees : (left : ℕ) (incomplete : Bool) (f : ℕ) (g : TFunction) → slice_get program.functions f ≡ Some g → FairBody program entry incomplete g → (w : World) → TouchNothing w.gang w.last → w.gang ≡ gang_width program.gang
      → (place : Span) (xs : List Passed) (ys : ℕ → List Passed) (a : Mask) → AreSome w.gang a → PassedStand w.frame.opened a (params_of g) xs ys → (incomplete ≡ false → (p : ℕ) → p < w.gang → a p ≡ true)
      → CallsAgree (inner w g xs a) program.functions (IsCalled program.functions entry) (calls_at program most left) (λ p. own_calls program most w.begin p left)
      → (v : Scope) → Sim w v a (AnswerStands w.gang a g.answer) (calls_at program most (suc left) f place a xs w.frame) (λ p. own_calls program most w.begin p (suc left) f place (ys p) w.frame)
  level_agrees left incomplete f g found fair w touch wide place xs ys a some stand all agree v =
      subst (λ o. Sim w v a (AnswerStands w.gang a g.answer) (λ s. called program most (calls_at program most left) o a xs w.frame s) (λ p s. own_called program most w.begin p (own_calls program most w.begin p left) o (ys p) w.frame s)) (sym found)
      (subst
      (λ z. Sim w v a (AnswerStands w.gang a g.answer) (λ s. ended g.answer w.frame a s (block z (frame_of g xs w.frame) (calls_at program most left) most g.body a (begun g xs w.frame a s)))
      (λ p s. own_ended s (does_block z w.begin p (frame_of g (ys p) w.frame) (own_calls program most w.begin p left) most g.body (own_begun g (ys p) s))))
      wide
      (body_agrees program entry most incomplete g fair w touch wide xs ys a some stand all (calls_at program most left) (λ p. own_calls program most w.begin p left) agree v))

  -- with none left both trap
  no_level : (w : World) (v : Scope) (a : Mask) → AreSome w.gang a → (t : Option Ty) (f : ℕ) (place : Span) (xs : List Passed) (ys : ℕ → List Passed)
      → Sim w v a (AnswerStands w.gang a t) (calls_at program most 0 f place a xs w.frame) (λ p. own_calls program most w.begin p 0 f place (ys p) w.frame)
  no_level w v a some t f place xs ys = record { go = λ s σ st sa ends. let m = member w.gang a some.some in absurd (subst (λ b. IfIn b ⊥) m.1 (ends m.0)) }

  pub calls_agree : (fair : (f : ℕ) (g : TFunction) → slice_get program.functions f ≡ Some g → IsCalled program.functions entry f → FairBody program entry true g) (left : ℕ) (w : World) → TouchNothing w.gang w.last → w.gang ≡ gang_width program.gang
      → CallsAgree w program.functions (IsCalled program.functions entry) (calls_at program most left) (λ p. own_calls program most w.begin p left)
  calls_agree fair zero w touch wide = record {
    more = λ p f place xs caller s. (own_calls_up w.begin p program most zero f place xs caller).more s;
    go = λ v a f g place xs ys found c some stand. no_level w v a some g.answer f place xs ys;
  }
  calls_agree fair (suc left) w touch wide = record {
    more = λ p f place xs caller s. (own_calls_up w.begin p program most (suc left) f place xs caller).more s;
    go = λ v a f g place xs ys found c some stand.
        level_agrees left true f g found (fair f g found c) w touch wide place xs ys a some stand (λ e. absurd (true≢false e)) (calls_agree fair left (inner w g xs a) touch wide) v;
  }
