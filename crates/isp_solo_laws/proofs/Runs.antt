-- Statements, one line a node: each member leaves them as its own run does.
use Rattle.std.proofs.Common.{◌≡◌, ℕ, suc, ◌+◌, ◌<◌, ◌⊎◌, inl, inr, Bool, true, false, refl, sym, ap, ◌∙◌, subst, true≢false}
use Rattle.std.specs.Prelude.{◌≤◌, List, [], ◌∷◌, ◌++◌, Option, Some, None, Contains, not, ◌&&◌, ◌||◌, nat_lt, option_map, slice_get}
use Rattle.std.specs.List.{All}
use Rattle.std.proofs.lemmas.List.Elements.{All-head, All-tail, Contains-append_left, Contains-append_right}
use Rattle.isp_base.specs.Sets.{Mask, nobody}
use Rattle.isp_base.specs.Maps.{on}
use Rattle.isp_base.specs.Types.{gang_width}
use Rattle.isp_base.specs.Values.{number}
use Rattle.isp_base.specs.declared.types.Gang.{Gang}
use Rattle.isp_base.specs.declared.types.Rate.{Rate}
use Rattle.isp_base.specs.declared.types.Rate.TheVariants.{Uniform}
use Rattle.isp_base.specs.declared.types.Span.{Span}
use Rattle.isp_base.specs.declared.types.Ty.{Ty}
use Rattle.isp_base.specs.declared.types.Elem.TheVariants.{Bool as Truth, I32}
use Rattle.isp_base.specs.declared.trap.TrapKind.TheVariants.{Assert}
use Rattle.isp_lex.specs.declared.fault.Fault.{Fault}
use Rattle.isp_tree.specs.Sound.{IfAny}
use Rattle.isp_tree.specs.declared.stmt.Jump.TheVariants.{Break, Continue}
use Rattle.isp_typed.specs.declared.variable.Variable.{Variable as AVar}
use Rattle.isp_typed.specs.Fine.{FineExpr, FineSimple, FineFirst, FineRange, FineValue, FineBlock, FineStmts, FineReturned}
use Rattle.isp_typed.specs.Scoped.{Scope, declared, ExprIn, SimpleIn, FirstAt, RangesAt, number_after, scope_after, scope_after_first, number_after_stmt, scope_after_stmt, StmtAt, BlockAt, StmtsAt}
use Rattle.isp_typed.specs.Typed.{TExpr, TSimple, TFirst, t_first_declare, t_first_simple, TRange, TFunction, rate_of}
use Rattle.isp_typed.specs.Typed.{TStmt, t_block, t_declare, t_simple, t_if, t_if_else, t_while, t_do, t_for, t_foreach, t_foreach_active, t_foreach_unique}
use Rattle.isp_typed.specs.Typed.{t_unmasked, t_jump, t_return, t_print, t_assert, TBlock, t_braces, TStmts, t_no_stmts, t_stmt_then}
use Rattle.isp_rates.specs.declared.exits.Within.{Within as Around}
use Rattle.isp_rates.specs.Breaches.{OfAny, OfEach}
use Rattle.isp_rates.specs.Rates.{ExprBreach}
use Rattle.isp_rates.specs.Exits.{in_loop, in_foreach, RangeBreach, returned_rate, ReturnBreach, SimpleBreach, FirstBreach, BlockBreach, StmtsBreach}
use Rattle.isp_independence.specs.declared.control.Control.{Control}
use Rattle.isp_independence.specs.declared.dependence.Dependence.{Dependence}
use Rattle.isp_independence.specs.declared.dependence.Restriction.TheVariants.{Crossing, Printing, Foreach, Return}
use Rattle.isp_independence.specs.Control.{is_together, branch, loop, turn, round}
use Rattle.isp_independence.specs.Crossing.{Cross}
use Rattle.isp_independence.specs.Dependences.{at, OfAny as DependsOfAny, OfEach as DependsOfEach}
use Rattle.isp_independence.specs.Exits.{by_rate, has, has_stmts, has_varying, has_varying_block, has_varying_stmts, tests_varying, parts}
use Rattle.isp_independence.specs.Independent.{leaves_early, leaves_early_block, leaves_early_stmts}
use Rattle.isp_independence.specs.Reaches.{expr_calls, simple_calls, first_calls, range_calls, calls_of_each, calls_of_any, stmt_calls, block_calls, stmts_calls}
use Rattle.isp_independence.specs.Statements.{SimpleDepends, FirstDepends, RangeDepends, BlockDepends, StmtsDepends}
use Rattle.isp_meaning.specs.State.{State, Frame}
use Rattle.isp_meaning.specs.Payloads.{Payload, One, Each, sole, spread, is_true, is_false}
use Rattle.isp_meaning.specs.Outcomes.{Res, went_all}
use Rattle.isp_meaning.specs.Expressions.{Passed, Calls, value}
use Rattle.isp_meaning.specs.Loops.{turns, tested}
use Rattle.isp_meaning.specs.Rounds.{Range, rounds, runs_of, foreach_rounds, counted}
use Rattle.isp_meaning.specs.Simple.{first_part, step_part}
use Rattle.isp_meaning.specs.Statements.{ranges, test_part, run, block, run_all}
use Rattle.isp_solo_meaning.specs.Alone.{Alone}
use Rattle.isp_solo_meaning.specs.Answers.{reached, Going, End}
use Rattle.isp_solo_meaning.specs.Does.{bounds, does, does_block, does_all, test_part as own_test_part}
use Rattle.isp_solo_meaning.specs.Loops.{turns as own_turns, tested as own_tested, rounds as own_rounds}
use Rattle.isp_solo_meaning.specs.Steps.{first_part as own_first_part, step_part as own_step_part}
use Rattle.isp_solo_meaning.specs.Values.{OwnCalls, answer}
use Rattle.isp_solo_laws.specs.Stands.{World, TouchNothing, AreSome, Up, left_at}
use Rattle.isp_solo_laws.specs.Values.{Sim, Stand, IsOne, CallsAgree}
use Rattle.isp_solo_laws.specs.Statements.{Ways, no_ways, HasAll, LeavesWithin, ActSim, StmtSim, LoopLeaves}
use Rattle.isp_solo_laws.specs.Loops.{LoopParts, LoopSim}
use Rattle.isp_solo_laws.specs.Asked.{is_uniform, uniforms_in, OpenArrays}
use Rattle.isp_solo_laws.specs.Acts.{closed_in}
use Rattle.isp_solo_laws.proofs.Grow.{up_then, up_has, up_unless, up_choose, up_does, tested_up, turns_up}
use Rattle.isp_solo_laws.proofs.Grows.{answer_up, bounds_up, rounds_up, test_up, step_up, does_up, all_up, goes_up}
use Rattle.isp_solo_laws.proofs.Lanes.{or_left, or_right, one_is, one_stands}
use Rattle.isp_solo_laws.proofs.Sims.{sim_has, sim_then, sim_tick, sim_checked}
use Rattle.isp_solo_laws.proofs.Asked.{demand_inside, demand_follows, fair}
use Rattle.isp_solo_laws.proofs.Expressions.{value_sim}
use Rattle.isp_solo_laws.proofs.Acts.{act_done, act_tick, simple_sim, items_sim}
use Rattle.isp_solo_laws.proofs.AskedActs.{adds_nothing, asked_simple, asked_items}
use Rattle.isp_solo_laws.proofs.Loops.{LeavesIf, turns_sim, tested_sim}
use Rattle.isp_solo_laws.proofs.Sequences.{then_sim}
use Rattle.isp_solo_laws.proofs.Branches.{Widens, in_other_words, stop_sim}
use Rattle.isp_solo_laws.proofs.Stmts.{with_sim, with_act, loop_leaves, break_sim, continue_sim}
use Rattle.isp_solo_laws.proofs.Rounds.{AllSome, rounds_sim}
use Rattle.isp_solo_laws.proofs.Full.{runs_some}
use Rattle.isp_solo_laws.proofs.Returns.{goes_sim, return_sim, leave_sim}
use Rattle.isp_solo_laws.specs.Bodies.{joint_of, all_there, here_of, Stood, ways_at, ways_in, Quiet, AskedOfStmt}
use Rattle.isp_solo_laws.proofs.Scopes.{lt_of, of_lt, up_to, le_same, le_then, either_true, or_second, or_first, and_first, number_up, number_up_first, stmt_up, Below, below_after, below_first, below_stmt, wider_first, wider_stmt, uniforms_wider}
use Rattle.isp_solo_laws.proofs.Standing.{later_stood, branch_stood, sides, one_side, two_sides, stmt_tick, act_checked, act_less, looped, turned, loop_together, loop_joint}
use Rattle.isp_solo_laws.proofs.Standing.{loop_incomplete, branch_incomplete, loop_there, loop_shut, loop_closed, loop_before, turn_shut, turn_closed, turn_before, test_rate}
use Rattle.isp_solo_laws.proofs.Standing.{test_uniform, not_both, from_wider, quiet_branch, quiet_left, quiet_right, is_joint}

-- the jumps of several statements
abbrev ways_of_all : TStmts → Ways
ways_of_all xs = record { breaks = has_stmts Break xs; continues = has_stmts Continue xs; some_break = has_varying_stmts Break xs; some_continue = has_varying_stmts Continue xs }

module _ (w : World) (touch : TouchNothing w.gang w.last) (fs : List TFunction) (IsCallable : ℕ → Type 0) (calls : Calls) (own : ℕ → OwnCalls)
    (agree : CallsAgree w fs IsCallable calls own) (vars : List AVar) (opens : OpenArrays w.frame vars) (most : ℕ) where
  ups : (p f : ℕ) (sp : Span) (xs : List Passed) (caller : Frame) → Up reached (own p f sp xs caller)
  ups p f sp xs caller = record { more = λ s. agree.more p f sp xs caller s }

  abbrev U : Scope → Scope
  U v = uniforms_in vars v

  abbrev Callable : List ℕ → Type 0
  Callable xs = (k : ℕ) → Contains xs k → IsCallable k

  before_in : (xs ys : List ℕ) → Callable (xs ++ ys) → Callable xs
  before_in xs ys c k h = c k (Contains-append_left xs ys k h)

  behind_in : (xs ys : List ℕ) → Callable (xs ++ ys) → Callable ys
  behind_in xs ys c k h = c k (Contains-append_right xs ys k h)

  expr_sim : (v : Scope) (x : TExpr) → FineExpr fs vars x → ((f : Fault) → ExprBreach fs x f → ⊥) → ((d : Dependence) → Cross x d → ⊥) → ExprIn v x → Callable (expr_calls x) → (a : Mask) → AreSome w.gang a
      → Sim w (U v) a (Stand w.gang a (rate_of x)) (value w.gang w.frame calls x a) (λ p. answer w.begin p w.frame (own p) x)
  expr_sim v x f r n i k a some = value_sim w touch fs IsCallable calls own agree (U v) x (fair w.frame fs IsCallable vars opens v x f r n i k) a some

  tests_sim : (v : Scope) (e : Option TExpr) → IfAny (FineValue fs vars Truth) e → ((f : Fault) → OfAny (ExprBreach fs) e f → ⊥)
      → ((d : Dependence) → DependsOfAny Cross e d → ⊥) → IfAny (ExprIn v) e → Callable (calls_of_any expr_calls e) → (a : Mask) → AreSome w.gang a
      → Sim w (U v) a (Stand w.gang a (test_rate e)) (test_part w.gang w.frame calls e a) (λ p. own_test_part w.begin p w.frame (own p) e)
  tests_sim v None f r n i k a some = sim_has w (U v) a (Stand w.gang a Uniform) (One 1) (λ p. 1) (one_stands w.gang a Uniform 1)
  tests_sim v (Some x) f r n i k a some = expr_sim v x f.0 r n i k a some

  steps_sim : (c : Control) (v : Scope) (x : Option TSimple) → IfAny (FineSimple fs vars) x → ((f : Fault) → OfAny (SimpleBreach fs) x f → ⊥)
      → ((d : Dependence) → DependsOfAny (SimpleDepends c) x d → ⊥) → IfAny (SimpleIn v) x → Callable (calls_of_any simple_calls x) → (a : Mask)
      → AreSome w.gang a
      → ActSim w (closed_in c) (U v) (U v) a (step_part w.gang w.frame calls x a) (λ p. own_step_part w.begin p w.frame (own p) x)
  steps_sim c v None f r n i k a some = act_done w (closed_in c) (U v) (U v) a (λ j h. h)
  steps_sim c v (Some x) f r n i k a some = simple_sim w touch fs IsCallable calls own agree (closed_in c) a some (U v) x (asked_simple w.frame fs IsCallable vars opens c v x (record { fine = f; rates = r; alone = n; known = i; calls = k }))

  firsts_sim : (c : Control) (v : Scope) (n : ℕ) (x : Option TFirst) → IfAny (FineFirst fs vars) x → ((f : Fault) → OfAny (FirstBreach fs) x f → ⊥)
      → ((d : Dependence) → DependsOfAny (FirstDepends c) x d → ⊥) → IfAny (FirstAt v n) x → Callable (calls_of_any first_calls x)
      → ((k : ℕ) → closed_in c k ≡ true → k < n) → (a : Mask) → AreSome w.gang a
      → ActSim w (closed_in c) (U v) (U (scope_after_first v n x)) a (first_part w.gang w.frame calls x a) (λ p. own_first_part w.begin p w.frame (own p) x)
  firsts_sim c v n None f r d i k b a some = act_done w (closed_in c) (U v) (U v) a (λ j h. h)
  firsts_sim c v n (Some (t_first_declare xs s)) f r d i k b a some =
      act_tick w (closed_in c) (U v) (U (scope_after v n xs)) a _ _
      (items_sim w touch fs IsCallable calls own agree (closed_in c) a some vars v n xs
      (asked_items w.frame fs IsCallable vars opens c v n xs (record { fine = f; rates = r; alone = d; known = i; calls = k; before = b })))
  firsts_sim c v n (Some (t_first_simple x)) f r d i k b a some = simple_sim w touch fs IsCallable calls own agree (closed_in c) a some (U v) x
      (asked_simple w.frame fs IsCallable vars opens c v x (record { fine = f; rates = r; alone = d; known = i; calls = k }))

  abbrev BodySim : Control → Around → Scope → ℕ → TStmt → Type 0
  BodySim c o v n x = (a : Mask) → AreSome w.gang a → StmtSim w (here_of c o) (U v) (U (scope_after_stmt v n x)) (ways_at x) a (run w.gang w.frame calls most x a) (λ p. does w.gang w.begin p w.frame (own p) most x)

  -- ---- loops: n variables before, m before the body, v in scope there, u outside

  module _ (c : Control) (o : Around) (u v : Scope) (n m : ℕ) (e : Option TExpr) (step : Option TSimple) (x : TStmt) (below_u : Below u n)
      (below_v : Below v m) (le : n ≤ m) (wide : (k : ℕ) → u k ≡ true → v k ≡ true) (before : (k : ℕ) → closed_in c k ≡ true → k < n)
      (test : (a : Mask) → AreSome w.gang a → Sim w (U v) a (Stand w.gang a (test_rate e)) (test_part w.gang w.frame calls e a) (λ p. own_test_part w.begin p w.frame (own p) e))
      (steps : (a : Mask) → AreSome w.gang a → ActSim w (closed_in (loop (option_map rate_of e) n x c)) (U v) (U v) a (step_part w.gang w.frame calls step a) (λ p. own_step_part w.begin p w.frame (own p) step))
      (body : BodySim (turn m x (loop (option_map rate_of e) n x c)) (in_loop o) v m x) where
    abbrev parts_here : Bool
    parts_here = parts (option_map rate_of e) x

    abbrev turns_here : Bool
    turns_here = has_varying Continue x

    abbrev loop_parts : LoopParts w
    loop_parts = record {
      v = U v;
      v1 = U (scope_after_stmt v m x);
      parts = parts_here;
      joint = joint_of (turned turns_here m (looped parts_here n c));
      top = all_there (turned turns_here m (looped parts_here n c)) o;
      ways = ways_at x;
      closed = closed_in (looped parts_here n c);
      closed_body = closed_in (turned turns_here m (looped parts_here n c));
      rate = test_rate e;
      test = λ a. test_part w.gang w.frame calls e a;
      body = run w.gang w.frame calls most x;
      step = λ a. step_part w.gang w.frame calls step a;
      own_test = λ p. own_test_part w.begin p w.frame (own p) e;
      own_body = λ p. does w.gang w.begin p w.frame (own p) most x;
      own_step = λ p. own_step_part w.begin p w.frame (own p) step;
      test_sim = test;
      step_sim = steps;
      body_sim = body;
      test_up = λ p. test_up w.begin p w.frame (own p) (ups p) e;
      body_up = λ p. does_up w.begin p w.frame (own p) (ups p) w.gang most x;
      step_up = λ p. step_up w.begin p w.frame (own p) (ups p) step;
      wider = uniforms_wider vars v (scope_after_stmt v m x) (wider_stmt v m x);
      alike = λ h. test_uniform e (or_left _ _ h);
      no_break = λ h. or_left (has_varying Break x) _ (or_right (tests_varying (option_map rate_of e)) _ h);
      no_later_break = λ h. not_both (has Break x) (has_varying Continue x) (or_right (has_varying Break x) _ (or_right (tests_varying (option_map rate_of e)) _ h));
      turned = λ h k i. turn_shut turns_here m (looped parts_here n c) h k (below_v k (and_first _ _ i));
      closed_in = λ k i. turn_closed turns_here m (looped parts_here n c) (λ j z. up_to j n m (loop_before parts_here n c before j z) le) k i;
      together = λ h. let q = loop_there parts_here turns_here n m c o h in (q.0, q.1, loop_joint parts_here turns_here n m c ∙ is_joint c o q.2);
    }

    loop_stmt : (a : Mask) → AreSome w.gang a → (go : Mask → Mask → State → Res) (own_go : ℕ → Alone → End) → LoopSim w loop_parts a go own_go → StmtSim w (here_of c o) (U v) (U u) no_ways a (go a nobody) own_go
    loop_stmt a some go own_go sim = record {
      go = λ s σ st sa top ends.
          from_wider w (here_of c o) (U u) (U v) a _ σ _ s.uniforms
          (loop_leaves w (here_of c o) (U u) a (U v) (closed_in (looped parts_here n c)) parts_here
          (all_there (turned turns_here m (looped parts_here n c)) o) (λ p. own_go p (σ p)) σ s (go a nobody s) (uniforms_wider vars u v wide)
          (loop_closed parts_here n c before)
          (λ h k i. loop_shut parts_here n c h k (below_u k (and_first _ _ i))) (λ h. (loop_there parts_here turns_here n m c o h).2) (λ p k i j. sa p k i (uniforms_wider vars u v wide k j))
          (subst (λ j. LoopLeaves w (closed_in (looped parts_here n c)) (U v) parts_here j (all_there (turned turns_here m (looped parts_here n c)) o)
          a nobody a (λ p. own_go p (σ p)) σ (go a nobody s) s.uniforms) (loop_joint parts_here turns_here n m c)
          (sim.go a nobody some s σ st sa (λ h. top (loop_there parts_here turns_here n m c o h).2) ends)));
    }

    turns_stmt : (a : Mask) → AreSome w.gang a → StmtSim w (here_of c o) (U v) (U u) no_ways a (turns w.gang (test_part w.gang w.frame calls e) (run w.gang w.frame calls most x) (step_part w.gang w.frame calls step) a most a nobody)
        (λ p. own_turns (own_test_part w.begin p w.frame (own p) e) (does w.gang w.begin p w.frame (own p) most x) (own_step_part w.begin p w.frame (own p) step) most)
    turns_stmt a some = loop_stmt a some _ _ (turns_sim w loop_parts a most)

    tested_stmt : (a : Mask) → AreSome w.gang a → StmtSim w (here_of c o) (U v) (U u) no_ways a
        (tested w.gang (test_part w.gang w.frame calls e) (run w.gang w.frame calls most x) (step_part w.gang w.frame calls step) a
        (turns w.gang (test_part w.gang w.frame calls e) (run w.gang w.frame calls most x) (step_part w.gang w.frame calls step) a most) a nobody)
        (λ p. own_tested (own_test_part w.begin p w.frame (own p) e) (does w.gang w.begin p w.frame (own p) most x)
        (own_step_part w.begin p w.frame (own p) step) (own_turns (own_test_part w.begin p w.frame (own p) e)
        (does w.gang w.begin p w.frame (own p) most x) (own_step_part w.begin p w.frame (own p) step) most))
    tested_stmt a some = loop_stmt a some _ _ (tested_sim w loop_parts a _ _ (turns_sim w loop_parts a most))

  loop_stood : (c : Control) (o : Around) (v u : Scope) (n m : ℕ) (e : Option Rate) (x : TStmt) → n ≤ m → Below u m → Stood w c o v n → Stood w (turn m x (loop e n x c)) (in_loop o) u m
  loop_stood c o v u n m e x le b st = record {
    below = b;
    before = turn_before (has_varying Continue x) m (looped (parts e x) n c) (λ k i. up_to k n m (loop_before (parts e x) n c st.before k i) le);
    together = loop_together (parts e x) (has_varying Continue x) n m c ∙ st.together;
    returns = st.returns;
    everyone = λ z. st.everyone (sym (loop_incomplete (parts e x) (has_varying Continue x) n m c) ∙ z);
  }

  loop_quiet : (c : Control) (o : Around) (n m : ℕ) (e : Option Rate) (x : TStmt) → Quiet (turn m x (loop e n x c)) (in_loop o) (has_varying Break x) (has_varying Continue x)
  loop_quiet c o n m e x h = go (loop_there (parts e x) (has_varying Continue x) n m c o h) where
    go : (parts e x ≡ false) × (has_varying Continue x ≡ false) × (all_there c o ≡ true) → (has_varying Break x ≡ false) × (has_varying Continue x ≡ false)
    go q = (or_left (has_varying Break x) _ (or_right (tests_varying e) _ q.0), q.1)

  -- ---- foreach

  round_not : (c : Control) (o : Around) (j : ℕ) → all_there (round j c) (in_foreach o) ≡ false
  round_not c o j = go (not c.varying) (joint_of c) where
    go : (y z : Bool) → (y && (z && false)) ≡ false
    go true true = refl
    go true false = refl
    go false z = refl

  round_stood : {A : Type 0} (c : Control) (o : Around) (v : Scope) (n j : ℕ) (rs : List A) → j ≡ n → Stood w c o v n → Stood w (round j c) (in_foreach o) (scope_after v n rs) (number_after n rs)
  round_stood c o v n j rs e st = record {
    below = below_after v n rs st.below;
    before = λ k i. up_to k n (number_after n rs) (go k (either_true (nat_lt k j) (nat_lt k c.turned) i)) (number_up n rs);
    together = st.together;
    returns = λ i. refl;
    everyone = st.everyone;
  } where
    go : (k : ℕ) → (nat_lt k j ≡ true) ⊎ (nat_lt k c.turned ≡ true) → k < n
    go k (inl i) = subst (λ z. k < z) e (lt_of k j i)
    go k (inr i) = st.before k (or_second (nat_lt k c.outside) (nat_lt k c.turned) i)

  -- each member has the same ranges
  abbrev RangesAre : Mask → List Range → (ℕ → List Range) → Type 0
  RangesAre a xs ys = (p : ℕ) → a p ≡ true → ys p ≡ xs

  sole_is : (a : Mask) (m : Payload) (y : ℕ → ℕ) (p : ℕ) → spread a m p ≡ on a y p → IsOne m → a p ≡ true → y p ≡ sole m
  sole_is a (One z) y p e h i = sym (one_is a z y p e i)
  sole_is a (Each z) y p e h i = absurd h

  ranges_sim : (v : Scope) (n : ℕ) (rs : List TRange) → All (FineRange fs vars) rs → ((f : Fault) → OfEach (RangeBreach fs) rs f → ⊥)
      → ((d : Dependence) → DependsOfEach RangeDepends rs d → ⊥) → RangesAt v n rs → Callable (calls_of_each range_calls rs) → (a : Mask)
      → AreSome w.gang a
      → Sim w (U v) a (RangesAre a) (ranges w.gang w.frame calls rs a) (λ p. bounds w.begin p w.frame (own p) rs)
  ranges_sim v n [] f q d i k a some = sim_has w (U v) a (RangesAre a) [] (λ p. []) (λ p t. refl)
  ranges_sim v n (r ∷ rs) f q d i k a some =
      let here = All-head (FineRange fs vars) r rs f in
      let callable = before_in (range_calls r) (calls_of_each range_calls rs) k in
      let first_one = demand_follows Uniform r.start (ExprBreach fs r.start) (λ z b. q z (inl (inl b))) refl in
      let last_one = demand_follows Uniform r.end (ExprBreach fs r.end) (λ z b. q z (inl (inr b))) refl in
      sim_then w (U v) a (Stand w.gang a (rate_of r.start)) (RangesAre a) _ _ _ _
      (expr_sim v r.start here.start.0 (demand_inside Uniform r.start (ExprBreach fs r.start) (λ z b. q z (inl (inl b)))) (λ z b. d z (inl (inl b))) i.1 (before_in (expr_calls r.start) (expr_calls r.end) callable) a some)
      (λ p y. up_then _ _ (answer_up w.begin p w.frame (own p) (ups p) r.end) (λ j. up_then _ _ (bounds_up w.begin p w.frame (own p) (ups p) rs) (λ xs. up_has _)))
      (λ m y hm. sim_then w (U v) a (Stand w.gang a (rate_of r.end)) (RangesAre a) _ _ _ _
      (expr_sim v r.end here.end.0 (demand_inside Uniform r.end (ExprBreach fs r.end) (λ z b. q z (inl (inr b)))) (λ z b. d z (inl (inr b))) i.2 (behind_in (expr_calls r.start) (expr_calls r.end) callable) a some)
      (λ p j. up_then _ _ (bounds_up w.begin p w.frame (own p) (ups p) rs) (λ xs. up_has _))
      (λ l z hl. sim_then w (U v) a (RangesAre a) (RangesAre a) _ _ _ _
      (ranges_sim v (suc n) rs (All-tail (FineRange fs vars) r rs f) (λ z b. q z (inr b)) (λ z b. d z (inr b)) i.3 (behind_in (range_calls r) (calls_of_each range_calls rs) k) a some) (λ p xs. up_has _)
      (λ xs ys e. sim_has w (U v) a (RangesAre a) (record { index = r.index; start = number I32 (sole m); end = number I32 (sole l) } ∷ xs) (λ p. record { index = r.index; start = number I32 (y p); end = number I32 (z p) } ∷ ys p)
      (λ p t. range_is r.index (y p) (sole m) (z p) (sole l) (ys p) xs (sole_is a m y p (hm.at p) (hm.one some.some first_one) t) (sole_is a l z p (hl.at p) (hl.one some.some last_one) t) (e p t)))))
    where
      range_is : (k x x1 y y1 : ℕ) (zs zs1 : List Range) → x ≡ x1 → y ≡ y1 → zs ≡ zs1 → record { index = k; start = number I32 x; end = number I32 y } ∷ zs ≡ record { index = k; start = number I32 x1; end = number I32 y1 } ∷ zs1
      range_is k x x1 y y1 zs zs1 e d c =
          ap (λ u. record { index = k; start = number I32 u; end = number I32 y } ∷ zs) e
          ∙ ap (λ u. record { index = k; start = number I32 x1; end = number I32 u } ∷ zs) d
          ∙ ap (λ u. record { index = k; start = number I32 x1; end = number I32 y1 } ∷ u) c

  -- the indices are varying
  no_more : (c : Control) (v : Scope) (n : ℕ) (rs : List TRange) → All (FineRange fs vars) rs → RangesAt v n rs → (u : Scope) → (k : ℕ) → U (scope_after u n rs) k ≡ true → U u k ≡ true
  no_more c v n [] f i u k h = h
  no_more c v n (r ∷ rs) f i u k h =
      adds_nothing w.frame fs IsCallable vars opens c u n
      (ap (λ z. is_uniform (slice_get vars z)) (sym i.0) ∙ ap is_uniform (All-head (FineRange fs vars) r rs f).index) k
      (no_more c v (suc n) rs (All-tail (FineRange fs vars) r rs f) i.3 (declared n u) k h)

  widens_same : (joint : Bool) → Widens joint no_ways no_ways
  widens_same joint = record { leave = λ h e. e; part = λ h e. e; broke = λ i. i; continued = λ i. i }

  met : (t : Bool) → (t ≡ false → ⊥) → t ≡ true
  met true h = refl
  met false h = absurd (h refl)

  foreach_sim : (g : Gang) → w.gang ≡ gang_width g → (c : Control) (o : Around) (v : Scope) (n : ℕ) (k : Span) (j : ℕ) (rs : List TRange) (x : TStmt) (s : Span) → AskedOfStmt w fs vars IsCallable c o v n (t_foreach k j rs x s)
      → BodySim (round j c) (in_foreach o) (scope_after v n rs) (number_after n rs) x → BodySim c o v n (t_foreach k j rs x s)
  foreach_sim g wide c o v n k j rs x s h body a some =
      with_sim w (here_of c o) (U v) a (RangesAre a) (U v) no_ways _ _ _ _
      (sim_tick w (U v) a _ _ _ (ranges_sim v n rs h.fine.1 (λ z b. h.rates z (inr (inl b))) (λ z b. h.alone z (inr (inl b))) h.known.3
      (before_in (calls_of_each range_calls rs) (stmt_calls x) h.called) a some))
      (λ p xs. rounds_up w.begin p w.frame (own p) (ups p) _ (does_up w.begin p w.frame (own p) (ups p) w.gang most x) (runs_of w.gang xs)) over
    where
      below : Below v j
      below = subst (λ z. Below v z) (sym h.known.0) h.stood.below

      before : (z : ℕ) → closed_in c z ≡ true → z < j
      before = subst (λ y. (z : ℕ) → closed_in c z ≡ true → z < y) (sym h.known.0) h.stood.before

      there : all_there c o ≡ true
      there = go c.varying c.together c.incomplete o.in_foreach (met _ (λ e. h.alone (at Foreach k) (inl (e, refl)))) (met _ (λ e. h.rates _ (inl (e, refl)))) where
        go : (y z i f : Bool) → not (i || y) ≡ true → not f ≡ true → (not y && ((z || not i) && not f)) ≡ true
        go false true false f e d = d
        go false false false f e d = d
        go y z true f e d = absurd (true≢false (sym e))
        go true z false f e d = absurd (true≢false (sym e))

      complete : c.incomplete ≡ false
      complete = go c.varying c.incomplete (met _ (λ e. h.alone (at Foreach k) (inl (e, refl)))) where
        go : (y i : Bool) → not (i || y) ≡ true → i ≡ false
        go y false e = refl
        go y true e = absurd (true≢false (sym e))

      full : HasAll w a → (p : ℕ) → p < w.gang → a p ≡ true
      full all p lt = all p (h.stood.everyone complete p lt)

      runs : (xs : List Range) → HasAll w a → StmtSim w (here_of c o) (U v) (U v) no_ways a (rounds (run w.gang w.frame calls most x) a (foreach_rounds w.gang xs)) (λ p. own_rounds (does w.gang w.begin p w.frame (own p) most x) p (runs_of w.gang xs))
      runs xs all =
          rounds_sim w (here_of c o) (here_of (round j c) (in_foreach o)) (U v) (U (scope_after v n rs)) (U (scope_after_stmt (scope_after v n rs) (number_after n rs) x)) (ways_at x) a (full all)
          (λ z i. or_first (nat_lt z j) (nat_lt z c.turned) (of_lt z j (below z (and_first _ _ i)))) (λ z i. or_first (nat_lt z j) (nat_lt z c.turned) (of_lt z j (before z i))) (round_not c o j) (no_more c v n rs h.fine.1 h.known.3 v)
          (run w.gang w.frame calls most x) (λ p. does w.gang w.begin p w.frame (own p) most x)
          (λ p. does_up w.begin p w.frame (own p) (ups p) w.gang most x)
          (λ p ys. rounds_up w.begin p w.frame (own p) (ups p) _ (does_up w.begin p w.frame (own p) (ups p) w.gang most x) ys) body
          (runs_of w.gang xs) (subst (λ z. AllSome z (runs_of z xs)) (sym wide) (runs_some g xs))

      over : (xs : List Range) (ys : ℕ → List Range) → RangesAre a xs ys
          → StmtSim w (here_of c o) (U v) (U v) no_ways a (λ s1. rounds (run w.gang w.frame calls most x) a (foreach_rounds w.gang xs)
          (record s1 { work = s1.work + counted w.gang 1 xs }))
          (λ p. own_rounds (does w.gang w.begin p w.frame (own p) most x) p (runs_of w.gang (ys p)))
      over xs ys e = record {
        go = λ s1 σ st sa top ends.
            in_other_words w (here_of c o) (U v) (U v) no_ways a (λ z i. i) no_ways (widens_same (joint_of c)) (λ p. own_rounds (does w.gang w.begin p w.frame (own p) most x) p (runs_of w.gang xs) (σ p)) _ σ _ s1.uniforms (λ p i. same p i (σ p))
            ((runs xs (top there)).go (record s1 { work = s1.work + counted w.gang 1 xs }) σ st sa top (λ p. as_there (w.last p) (a p) _ _ (λ i. same p i (σ p)) (ends p)));
      } where
        same : (p : ℕ) → a p ≡ true → (z : Alone) → own_rounds (does w.gang w.begin p w.frame (own p) most x) p (runs_of w.gang (ys p)) z ≡ own_rounds (does w.gang w.begin p w.frame (own p) most x) p (runs_of w.gang xs) z
        same p i z = ap (λ l. own_rounds (does w.gang w.begin p w.frame (own p) most x) p (runs_of w.gang l) z) (e p i)

        as_there : (last : Alone) (t : Bool) (r1 r2 : End) → (t ≡ true → r1 ≡ r2) → LeavesIf last t r1 → LeavesIf last t r2
        as_there last true r1 r2 d i = subst (LeavesWithin last) (d refl) i
        as_there last false r1 r2 d i = tt

  module _ (g : Gang) (wide : w.gang ≡ gang_width g) where
    -- a return is under no varying control where all return at once, and in no `foreach`
    at_top : (c : Control) (o : Around) → not (c.together && c.varying) ≡ true → (c.incomplete ≡ false → c.varying ≡ false) → o.in_foreach ≡ false → joint_of c ≡ true → all_there c o ≡ true
    at_top c o h e i j = go c.varying c.together c.incomplete o.in_foreach h e i j where
      go : (x y z f : Bool) → not (y && x) ≡ true → (z ≡ false → x ≡ false) → f ≡ false → (y || not z) ≡ true → (not x && ((y || not z) && not f)) ≡ true
      go false y z f h e i j = ap (λ t. t && not f) j ∙ ap not i
      go true true z f h e i j = absurd (true≢false (sym h))
      go true false true f h e i j = absurd (true≢false (sym j))
      go true false false f h e i j = absurd (true≢false (e refl))

    unmet : (t : Bool) → (t ≡ true → t ≡ false) → t ≡ false
    unmet true h = h refl
    unmet false h = refl

    return_top : (c : Control) (o : Around) (v : Scope) (n : ℕ) (k : Span) (x : Option TExpr) (s : Span) → AskedOfStmt w fs vars IsCallable c o v n (t_return k x s) → joint_of c ≡ true → all_there c o ≡ true
    return_top c o v n k x s h =
        at_top c o (met _ (λ e. h.alone (at Return k) (inl (e, refl)))) h.early (unmet o.in_foreach (λ e. absurd (true≢false (sym (met o.returns (λ z. h.rates _ (inl (z, refl)))) ∙ h.stood.returns e))))

    together_is : (answer : Option Ty) (t : Ty) → answer ≡ Some t → t.rate ≡ Uniform → is_together answer ≡ true
    together_is answer t e u = ap is_together e ∙ ap (λ r. by_rate r false true) u

    returned_follows : (answer : Option Ty) (x : TExpr) → ((f : Fault) → ReturnBreach fs answer x f → ⊥) → (t : Ty) → answer ≡ Some t → t.rate ≡ Uniform → rate_of x ≡ Uniform
    returned_follows answer x r t e u = demand_follows (returned_rate answer) x (ExprBreach fs x) r (ap returned_rate e ∙ u)

    returned_fine : (answer : Option Ty) (x : TExpr) → FineReturned fs vars answer (Some x) → FineExpr fs vars x
    returned_fine None x f = absurd f
    returned_fine (Some t) x f = f.0

    mutual
      pub stmt_sim : (x : TStmt) (c : Control) (o : Around) (v : Scope) (n : ℕ) → AskedOfStmt w fs vars IsCallable c o v n x → BodySim c o v n x
      stmt_sim (t_block b) c o v n h a some = block_sim b c o v n h.fine h.rates h.alone h.known h.called h.stood h.early h.quiet a some
      stmt_sim (t_declare xs s) c o v n h a some =
          goes_sim w (here_of c o) (U v) a (U (scope_after v n xs)) _ _
          (act_tick w (closed_in c) (U v) (U (scope_after v n xs)) a _ _
          (items_sim w touch fs IsCallable calls own agree (closed_in c) a some vars v n xs
          (asked_items w.frame fs IsCallable vars opens c v n xs
          (record { fine = h.fine; rates = h.rates; alone = h.alone; known = h.known; calls = h.called; before = h.stood.before }))))
      stmt_sim (t_simple x s) c o v n h a some =
          goes_sim w (here_of c o) (U v) a (U v) _ _ (simple_sim w touch fs IsCallable calls own agree (closed_in c) a some (U v) x
          (asked_simple w.frame fs IsCallable vars opens c v x
          (record { fine = h.fine; rates = h.rates; alone = h.alone; known = h.known; calls = h.called })))
      stmt_sim (t_if f k e x s) c o v n h a some =
          let st = subst (λ z. Stood w c o v z) (sym h.known.0) h.stood in
          let le = subst (λ z. k ≤ z) h.known.0 (le_same k) in
          subst (λ z. StmtSim w (here_of c o) (U v) (U v) z a (run w.gang w.frame calls most (t_if f k e x s) a) (λ p. does w.gang w.begin p w.frame (own p) most (t_if f k e x s))) (one_side w (rate_of e) (ways_at x))
          (with_sim w (here_of c o) (U v) a (Stand w.gang a (rate_of e)) (U v) _ _ _ _ _
          (sim_tick w (U v) a _ _ _ (expr_sim v e h.fine.1.0 (λ z b. h.rates z (inl b)) (λ z b. h.alone z (inl b)) h.known.1 (before_in (expr_calls e) (stmt_calls x) h.called) a some))
          (λ p y. up_choose left_at (is_true y) _ _ (does_up w.begin p w.frame (own p) (ups p) w.gang most x) (up_does Going))
          (λ m y r. sides w (rate_of e) c o (U v) (U (scope_after_stmt v n x)) (U v) k (ways_at x) no_ways a (run w.gang w.frame calls most x)
          went_all _ _ (λ j i. st.below j (and_first _ _ i)) st.before some (uniforms_wider vars v _ (wider_stmt v n x)) (λ j i. i)
          (λ b ib. stmt_sim x (branch (rate_of e) k c) o v n
          (record {
            fine = h.fine.2;
            rates = λ z d. h.rates z (inr d);
            alone = λ z d. h.alone z (inr d);
            known = h.known.2;
            called = behind_in
                (expr_calls e) (stmt_calls x) h.called;
            stood = branch_stood w (rate_of e) c o v k n le st;
            early = λ z. h.early
                (sym (branch_incomplete (rate_of e) k c) ∙ z);
            quiet = quiet_branch (rate_of e) k c o (has Break x) (has Continue x) _ _ h.quiet;
          }) b
          ib)
          (λ b ib. stop_sim w (here_of (branch (rate_of e) k c) o) (U v) b) m y r))
      stmt_sim (t_if_else f k e x z s) c o v n h a some =
          let st = subst (λ z. Stood w c o v z) (sym h.known.0) h.stood in
          let le = subst (λ z. k ≤ z) h.known.0 (le_same k) in
          let le2 = le_then k n (number_after_stmt n x) le (stmt_up n x) in
          let q = quiet_branch (rate_of e) k c o (has Break x || has Break z) (has Continue x || has Continue z) (has_varying Break x || has_varying Break z) (has_varying Continue x || has_varying Continue z) h.quiet in
          let first = before_in (expr_calls e ++ stmt_calls x) (stmt_calls z) h.called in
          subst (λ y. StmtSim w (here_of c o) (U v) (U v) y a (run w.gang w.frame calls most (t_if_else f k e x z s) a) (λ p. does w.gang w.begin p w.frame (own p) most (t_if_else f k e x z s))) (two_sides w (rate_of e) (ways_at x) (ways_at z))
          (with_sim w (here_of c o) (U v) a (Stand w.gang a (rate_of e)) (U v) _ _ _ _ _
          (sim_tick w (U v) a _ _ _ (expr_sim v e h.fine.1.0 (λ y b. h.rates y (inl b)) (λ y b. h.alone y (inl b)) h.known.1 (before_in (expr_calls e) (stmt_calls x) first) a some))
          (λ p y. up_choose left_at (is_true y) _ _ (does_up w.begin p w.frame (own p) (ups p) w.gang most x) (does_up w.begin p w.frame (own p) (ups p) w.gang most z))
          (λ m y r. sides w (rate_of e) c o (U v) (U (scope_after_stmt v n x)) (U (scope_after_stmt v (number_after_stmt n x) z)) k (ways_at x)
          (ways_at z) a (run w.gang w.frame calls most x) (run w.gang w.frame calls most z) _ _ (λ j i. st.below j (and_first _ _ i)) st.before
          some
          (uniforms_wider vars v _ (wider_stmt v n x)) (uniforms_wider vars v _ (wider_stmt v (number_after_stmt n x) z))
          (λ b ib. stmt_sim x (branch (rate_of e) k c) o v n
          (record {
            fine = h.fine.2;
            rates = λ y d. h.rates y (inr (inl d));
            alone = λ y d. h.alone y (inr (inl d));
            known = h.known.2;
            called =
                behind_in (expr_calls e) (stmt_calls x) first;
            stood = branch_stood w (rate_of e) c o v k n le st;
            early = λ y. or_left
                (leaves_early (branch (rate_of e) k c) x) _ (h.early (sym (branch_incomplete (rate_of e) k c) ∙ y));
            quiet = quiet_left
                (branch (rate_of e) k c) o _ _ _ _ q;
          }) b ib)
          (λ b ib. stmt_sim z (branch (rate_of e) k c) o v (number_after_stmt n x)
          (record {
            fine = h.fine.3;
            rates = λ y d. h.rates y (inr (inr d));
            alone = λ y d. h.alone y (inr (inr d));
            known = h.known.3;
            called =
                behind_in (expr_calls e ++ stmt_calls x) (stmt_calls z) h.called;
            stood = branch_stood w (rate_of e) c o v k (number_after_stmt n x) le2
                st;
            early = λ y. or_right (leaves_early (branch (rate_of e) k c) x) _ (h.early (sym (branch_incomplete (rate_of e) k c) ∙ y));
            quiet =
                quiet_right (branch (rate_of e) k c) o _ _ _ _ q;
          }) b ib)
          m y r))
      stmt_sim (t_while f k e x s) c o v n h a some =
          let st = subst (λ z. Stood w c o v z) (sym h.known.0) h.stood in
          let le = subst (λ z. k ≤ z) h.known.0 (le_same k) in
          stmt_tick w (here_of c o) (U v) (U v) no_ways a _ _
          (tested_stmt c o v v k k (Some e) None x st.below st.below (le_same k) (λ j i. i) st.before
          (expr_sim v e h.fine.1.0 (λ z b. h.rates z (inl b)) (λ z b. h.alone z (inl b)) h.known.1
          (before_in (expr_calls e) (stmt_calls x) h.called)) (λ b ib. act_done w _ (U v) (U v) b (λ j i. i))
          (stmt_sim x (turn k x (loop (Some (rate_of e)) k x c)) (in_loop o) v k
          (record {
            fine = h.fine.2;
            rates = λ z b. h.rates z (inr b);
            alone = λ z b. h.alone z (inr b);
            known = subst (λ z. StmtAt v z x)
                (sym h.known.0) h.known.2;
            called = behind_in (expr_calls e) (stmt_calls x) h.called;
            stood = loop_stood c o v v k k (Some (rate_of e))
                x (le_same k) st.below st;
            early = λ z. h.early (sym (loop_incomplete (parts (Some (rate_of e)) x) (has_varying Continue x) k k c) ∙ z);
            quiet = loop_quiet c o k k (Some (rate_of e)) x;
          })) a some)
      stmt_sim (t_do f k x e s) c o v n h a some =
          let st = subst (λ z. Stood w c o v z) (sym h.known.0) h.stood in
          stmt_tick w (here_of c o) (U v) (U v) no_ways a _ _
          (turns_stmt c o v v k k (Some e) None x st.below st.below (le_same k) (λ j i. i) st.before
          (expr_sim v e h.fine.2.0 (λ z b. h.rates z (inr b)) (λ z b. h.alone z (inr b)) h.known.2
          (behind_in (stmt_calls x) (expr_calls e) h.called)) (λ b ib. act_done w _ (U v) (U v) b (λ j i. i))
          (stmt_sim x (turn k x (loop (Some (rate_of e)) k x c)) (in_loop o) v k
          (record {
            fine = h.fine.1;
            rates = λ z b. h.rates z (inl b);
            alone = λ z b. h.alone z (inl b);
            known = subst (λ z. StmtAt v z x)
                (sym h.known.0) h.known.1;
            called = before_in (stmt_calls x) (expr_calls e) h.called;
            stood = loop_stood c o v v k k (Some (rate_of e))
                x (le_same k) st.below st;
            early = λ z. h.early (sym (loop_incomplete (parts (Some (rate_of e)) x) (has_varying Continue x) k k c) ∙ z);
            quiet = loop_quiet c o k k (Some (rate_of e)) x;
          })) a some)
      stmt_sim (t_for f k i e p m x s) c o v n h a some =
          let st = subst (λ z. Stood w c o v z) (sym h.known.0) h.stood in
          let u = scope_after_first v n i in
          let le : k ≤ m = subst (λ z. z ≤ m) (sym h.known.0) (subst (λ z. n ≤ z) (sym h.known.2) (number_up_first n i)) in
          let below_m : Below u m = subst (λ z. Below u z) (sym h.known.2) (below_first v n i h.stood.below) in
          let c1 = loop (option_map rate_of e) k x c in
          let calls1 = before_in (calls_of_any first_calls i ++ calls_of_any expr_calls e ++ calls_of_any simple_calls p) (stmt_calls x) h.called in
          let calls2 = before_in (calls_of_any first_calls i ++ calls_of_any expr_calls e) (calls_of_any simple_calls p) calls1 in
          let step = steps_sim c1 u p h.fine.4 (λ z b. h.rates z (inr (inr (inl b)))) (λ z b. h.alone z (inr (inr (inl b)))) h.known.4 (behind_in (calls_of_any first_calls i ++ calls_of_any expr_calls e) (calls_of_any simple_calls p) calls1) in
          let test = tests_sim u e h.fine.3 (λ z b. h.rates z (inr (inl b))) (λ z b. h.alone z (inr (inl b))) h.known.3 (behind_in (calls_of_any first_calls i) (calls_of_any expr_calls e) calls2) in
          let body = stmt_sim x (turn m x c1) (in_loop o) u m
          (record {
            fine = h.fine.5;
            rates = λ z b. h.rates z (inr (inr (inr b)));
            alone = λ z b. h.alone z (inr (inr (inr b)));
            known =
                h.known.5;
            called = behind_in (calls_of_any first_calls i ++ calls_of_any expr_calls e ++ calls_of_any simple_calls p)
                (stmt_calls x) h.called;
            stood = loop_stood c o v u k m (option_map rate_of e) x le below_m st;
            early = λ z. h.early
                (sym (loop_incomplete (parts (option_map rate_of e) x) (has_varying Continue x) k m c) ∙ z);
            quiet = loop_quiet c o k m
                (option_map rate_of e) x;
          }) in
          stmt_tick w (here_of c o) (U v) (U v) no_ways a _ _
          (with_act w (here_of c o) (U v) a (U u) (U v) _ _ _ _ (λ j z. z)
          (act_less w (closed_in c1) (closed_in c) (U v) (U u) a _ _ (loop_closed (parts (option_map rate_of e) x) k c st.before)
          (firsts_sim c1 v n i h.fine.2 (λ z b. h.rates z (inl b)) (λ z b. h.alone z (inl b)) h.known.1
          (before_in (calls_of_any first_calls i) (calls_of_any expr_calls e) calls2)
          (λ j z. subst (λ y. j < y) h.known.0 (loop_before (parts (option_map rate_of e) x) k c st.before j z)) a some))
          (λ q. tested_up _ _ _ (test_up w.begin q w.frame (own q) (ups q) e) (does_up w.begin q w.frame (own q) (ups q) w.gang most x)
          (step_up w.begin q w.frame (own q) (ups q) p) _ (turns_up _ _ _ (test_up w.begin q w.frame (own q) (ups q) e)
          (does_up w.begin q w.frame (own q) (ups q) w.gang most x) (step_up w.begin q w.frame (own q) (ups q) p) most))
          (tested_stmt c o v u k m e p x st.below below_m le (wider_first v n i) st.before test step body a some))
      stmt_sim (t_foreach k j rs x s) c o v n h a some =
          foreach_sim g wide c o v n k j rs x s h
          (stmt_sim x (round j c) (in_foreach o) (scope_after v n rs) (number_after n rs)
          (record {
            fine = h.fine.2;
            rates = λ z b. h.rates z (inr (inr b));
            alone = λ z b. h.alone z (inr (inr b));
            known = h.known.4;
            called =
                behind_in (calls_of_each range_calls rs) (stmt_calls x) h.called;
            stood = round_stood c o v n j rs h.known.0 h.stood;
            early = h.early;
            quiet = λ e. absurd (true≢false (sym e ∙ round_not c o j));
          })) a some
      stmt_sim (t_foreach_active k j i x s) c o v n h a some = absurd (h.alone (at Crossing k) (inl refl))
      stmt_sim (t_foreach_unique k j i t e x s) c o v n h a some = absurd (h.alone (at Crossing k) (inl refl))
      stmt_sim (t_unmasked k b s) c o v n h a some = absurd (h.alone (at Crossing k) (inl refl))
      stmt_sim (t_jump Break k s) c o v n h a some = stmt_tick w (here_of c o) (U v) (U v) _ a _ _ (break_sim w (here_of c o) (U v) a)
      stmt_sim (t_jump Continue k s) c o v n h a some = stmt_tick w (here_of c o) (U v) (U v) _ a _ _ (continue_sim w (here_of c o) (U v) a)
      stmt_sim (t_return k None s) c o v n h a some = stmt_tick w (here_of c o) (U v) (U v) no_ways a _ _ (leave_sim w (here_of c o) (U v) a some (return_top c o v n k None s h))
      stmt_sim (t_return k (Some x) s) c o v n h a some =
          with_sim w (here_of c o) (U v) a (Stand w.gang a (rate_of x)) (U v) no_ways _ _ _ _
          (sim_tick w (U v) a _ _ _ (expr_sim v x (returned_fine w.frame.answer x h.fine) (demand_inside (returned_rate w.frame.answer) x (ExprBreach fs x) (λ z b. h.rates z (inr b))) (λ z b. h.alone z (inr b)) h.known h.called a some))
          (λ p y. record { more = λ s. record { read = λ b e i. i; wrote = λ b e i. i } })
          (λ m y r. return_sim w (here_of c o) (U v) a some (rate_of x) m y r (returned_follows w.frame.answer x (λ z b. h.rates z (inr b)))
          (λ t e u. return_top c o v n k (Some x) s h (or_first c.together (not c.incomplete)
          (h.stood.together ∙ together_is w.frame.answer t e u))) (return_top c o v n k (Some x) s h))
      stmt_sim (t_print k t xs s) c o v n h a some = absurd (h.alone (at Printing k) (inl refl))
      stmt_sim (t_assert x k s) c o v n h a some =
          with_sim w (here_of c o) (U v) a (Stand w.gang a (rate_of x)) (U v) no_ways _ _ _ _ (sim_tick w (U v) a _ _ _ (expr_sim v x h.fine.0.0 h.rates h.alone h.known h.called a some))
          (λ p y. goes_up w.begin p w.frame (own p) (ups p) _ (up_unless (is_false y) Assert k p tt))
          (λ m y r. goes_sim w (here_of c o) (U v) a (U v) _ _ (act_checked w (closed_in c) (U v) a (λ d e. Unit {0}) _ _ (sim_checked w (U v) a some (λ d e. Unit {0}) is_false m y Assert k tt (λ p. tt) r.at tt)))

      pub block_sim : (b : TBlock) (c : Control) (o : Around) (v : Scope) (n : ℕ) → FineBlock fs vars w.frame.answer b
          → ((f : Fault) → BlockBreach fs w.frame.answer o b f → ⊥) → ((d : Dependence) → BlockDepends c b d → ⊥) → BlockAt v n b
          → Callable (block_calls b) → Stood w c o v n → (c.incomplete ≡ false → leaves_early_block c b ≡ false)
          → Quiet c o (has_varying_block Break b) (has_varying_block Continue b) → (a : Mask) → AreSome w.gang a
          → StmtSim w (here_of c o) (U v) (U v) (ways_in b) a (block w.gang w.frame calls most b a) (λ p. does_block w.gang w.begin p w.frame (own p) most b)
      block_sim (t_braces xs s) c o v n f r d i k st l q a some = stmt_tick w (here_of c o) (U v) (U v) (ways_of_all xs) a _ _ (all_sim xs c o v n f r d i k st l q a some)

      pub all_sim : (xs : TStmts) (c : Control) (o : Around) (v : Scope) (n : ℕ) → FineStmts fs vars w.frame.answer xs
          → ((f : Fault) → StmtsBreach fs w.frame.answer o xs f → ⊥) → ((d : Dependence) → StmtsDepends c xs d → ⊥) → StmtsAt v n xs
          → Callable (stmts_calls xs) → Stood w c o v n → (c.incomplete ≡ false → leaves_early_stmts c xs ≡ false)
          → Quiet c o (has_varying_stmts Break xs) (has_varying_stmts Continue xs) → (a : Mask) → AreSome w.gang a
          → StmtSim w (here_of c o) (U v) (U v) (ways_of_all xs) a (run_all w.gang w.frame calls most xs a) (λ p. does_all w.gang w.begin p w.frame (own p) most xs)
      all_sim t_no_stmts c o v n f r d i k st l q a some = stop_sim w (here_of c o) (U v) a
      all_sim (t_stmt_then x xs) c o v n f r d i k st l q a some =
          let v1 = scope_after_stmt v n x in
          let n1 = number_after_stmt n x in
          then_sim w (here_of c o) (U v) (U v1) (ways_at x) (ways_of_all xs) a some (uniforms_wider vars v v1 (wider_stmt v n x)) (λ e. (or_left _ _ (q e).0, or_left _ _ (q e).1, is_joint c o e)) _ _
          (stmt_sim x c o v n (record {
            fine = f.0;
            rates = λ z b. r z (inl b);
            alone = λ z b. d z (inl b);
            known = i.0;
            called = before_in
                (stmt_calls x) (stmts_calls xs) k;
            stood = st;
            early = λ e. or_left (leaves_early c x) _ (l e);
            quiet = quiet_left c o _ _ _ _ q;
          }) a
          some)
          (run_all w.gang w.frame calls most xs) (λ p. does_all w.gang w.begin p w.frame (own p) most xs)
          (λ p. all_up w.begin p w.frame (own p) (ups p) w.gang most xs)
          (λ b ib. all_sim xs c o v1 n1 f.1 (λ z b. r z (inr b)) (λ z b. d z (inr b)) i.1 (behind_in (stmt_calls x) (stmts_calls xs) k)
          (later_stood w c o v v1 n n1 (stmt_up n x) (below_stmt v n x st.below) st) (λ e. or_right (leaves_early c x) _ (l e))
          (quiet_right c o _ _ _ _ q) b ib)
