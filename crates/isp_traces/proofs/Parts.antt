-- The line of a step by its parts.
use Rattle.std.proofs.Common.{◌≡◌, ◌≢◌, refl, sym, ap, ◌∙◌, subst, ℕ, zero, suc, ◌+◌, ◌-◌, ◌<◌, ◌≤◌, List, [], ◌∷◌, ◌++◌, Bool, Option, Some, None, Result, Ok, Err, arith}
use Rattle.std.specs.Prelude.{OnErr, if◌then◌else◌, slice_get}
use Rattle.isp_code.specs.Conf.{State, Runs, Trapped, Ended}
use Rattle.isp_code.specs.Listing.{Listing, Routine}
use Rattle.isp_code.specs.Machine.{after}
use Rattle.isp_code.specs.Registers.{vectors_of}
use Rattle.isp_code.specs.declared.instr.Instr.{Instr}
use Rattle.isp_machine.specs.Kept.{Kept, state}
use Rattle.isp_machine.specs.Runs.{IsRunning, Made, conf}
use Rattle.isp_machine.specs.declared.stop.Stop.{Stop}
use Rattle.isp_machine.specs.declared.stop.Stop.TheVariants.{Running, Trapped as StopTrapped, Ended as StopEnded, Memory}
use Rattle.isp_traces.specs.Operands.{written_mask, written_lanes}
use Rattle.isp_traces.specs.Steps.{after_text, before_text, line_between, line_in, line_of, lines, new_mask_text, vector_text}
use Rattle.isp_traces.specs.Executed.{instr_in}
use Rattle.isp_traces.specs.Tracing.{MadeUpTo, StopsAs, TraceGives, behind, first}
use Rattle.isp_traces.specs.declared.tracing.Window.{Window}
use Rattle.isp_traces.proofs.Ranges.{lines_more}
use Rattle.isp_traces.proofs.Words.{one_more}
use Rattle.isp_traces.proofs.Ends.{IsOver, ended_over, lines_later, made_later, made_next, running_is, trapped_over}

module _ (code : Listing) (lanes : Bool) (number : ℕ) (s s1 : State) (running : IsRunning s) where
  in_state : line_between code lanes number s s1 ≡ line_in code lanes number (conf s) s1 (slice_get code.routines (conf s).home.fn)
  in_state = ap (λ (z : State). line_between code lanes number z s1) (running_is s running)

  -- where there is no instruction there is no line
  pub no_line_without : instr_in (slice_get code.routines (conf s).home.fn) (conf s).pc ≡ None → line_between code lanes number s s1 ≡ []
  no_line_without none = in_state ∙ by (slice_get code.routines (conf s).home.fn) none
    where
      by : (o : Option Routine) → instr_in o (conf s).pc ≡ None → line_in code lanes number (conf s) s1 o ≡ []
      by None e = refl
      by (Some h) e = ap (λ (i : Option Instr). line_of code lanes number h (conf s) s1 i) e

  module _ (h : Routine) (i : Instr) (found : slice_get code.routines (conf s).home.fn ≡ Some h) (there : instr_in (slice_get code.routines (conf s).home.fn) (conf s).pc ≡ Some i) where
    at : slice_get h.code (conf s).pc ≡ Some i
    at = ap (λ (o : Option Routine). instr_in o (conf s).pc) (sym found) ∙ there

    pub line_is : line_between code lanes number s s1 ≡ before_text code number h (conf s) i ++ after_text code lanes h i s1 ++ 10 ∷ []
    line_is =
        in_state
        ∙ ap (λ (o : Option Routine). line_in code lanes number (conf s) s1 o) found
        ∙ ap (λ (o : Option Instr). line_of code lanes number h (conf s) s1 o) at

pub after_none : (code : Listing) (lanes : Bool) (h : Routine) (i : Instr) (s : State) → IsOver s → after_text code lanes h i s ≡ []
after_none code lanes h i (Runs c) over = absurd over
after_none code lanes h i (Trapped t c) over = refl
after_none code lanes h i (Ended x c) over = refl

pub after_some : (code : Listing) (lanes : Bool) (h : Routine) (i : Instr) (s : State) → IsRunning s
    → after_text code lanes h i s ≡ new_mask_text code (conf s) (written_mask i) ++ (if lanes then vector_text code (vectors_of h) (conf s) (written_lanes i) else [])
after_some code lanes h i (Runs c) running = refl
after_some code lanes h i (Trapped t c) running = absurd running
after_some code lanes h i (Ended x c) running = absurd running

pub stopped : (stop : Stop) (s : State) → stop ≢ Running → StopsAs stop s → IsOver s
stopped Running s off stops = absurd (off refl)
stopped (StopTrapped t) s off stops = trapped_over t s stops
stopped StopEnded s off stops = ended_over s stops
stopped Memory s off stops = absurd stops

-- ---- along a run

-- so many steps are made, and the text has the lines from number `from` on
pub record Lined (lanes : Bool) (from m : ℕ) (old now : Kept) (stop : Stop) (text : List ℕ) : Type 0 where
  pub low : from ≤ m
  pub made : Made m old now
  pub stops : StopsAs stop (state now)
  pub lines_are : text ≡ lines old.code lanes (state old) from (m - from)

pub lined_first : (lanes : Bool) (from : ℕ) (old now : Kept) (stop : Stop) (text : List ℕ) → Made from old now → StopsAs stop (state now) → text ≡ [] → Lined lanes from from old now stop text
lined_first lanes from old now stop text made stops none =
    let z : 0 ≡ from - from = omega arith in
    record { low = omega arith; made = made; stops = stops; lines_are = none ∙ ap (λ n. lines old.code lanes (state old) from n) z }

pub lined_next : (lanes : Bool) (from m : ℕ) (old mid now : Kept) (before stop : Stop) (text more : List ℕ) → Lined lanes from m old mid before text → Made 1 mid now → StopsAs stop (state now)
    → more ≡ text ++ line_between mid.code lanes m (state mid) (state now) → Lined lanes from (suc m) old now stop more
lined_next lanes from m old mid now before stop text more so made stops is =
    let both = made_next old mid now m so.made made in
    let low = so.low in
    let z : suc (m - from) ≡ suc m - from = omega (arith, low) in
    let at : from + (m - from) ≡ m = omega (arith, low) in
    record {
      low = omega (arith, low);
      made = both;
      stops = stops;
      lines_are =
          is
          ∙ (λ j. so.lines_are j ++ line_between (so.made.code_same j) lanes m (so.made.state_is j) (both.state_is j))
          ∙ sym (lines_more old.code lanes (state old) from (m - from) m at)
          ∙ ap (λ n. lines old.code lanes (state old) from n) z;
    }

pub lined_over : (lanes : Bool) (from m b : ℕ) (old now : Kept) (stop : Stop) (text : List ℕ) → stop ≢ Running → m ≤ b → Lined lanes from m old now stop text → Lined lanes from b old now stop text
lined_over lanes from m b old now stop text off le so =
    let over = stopped stop (state now) off so.stops in
    let low = so.low in
    record {
      low = omega (arith, low, le);
      made = made_later old now m b le over so.made;
      stops = so.stops;
      lines_are = so.lines_are ∙ lines_later old.code (state old) m (subst (λ (z : State). IsOver z) so.made.state_is over) lanes from b low le;
    }

pub first_low : (w : Window) (budget : ℕ) → first w budget ≤ behind w budget
first_low w budget = omega arith

pub traced : (w : Window) (budget f b : ℕ) (old now : Kept) (stop : Stop) (text : List ℕ) → f ≡ first w budget → b ≡ behind w budget → Lined w.lanes f b old now stop text
    → TraceGives w budget old now stop text
traced w budget f b old now stop text is_first is_behind so =
    let at = subst (λ (k : ℕ). Lined w.lanes k (behind w budget) old now stop text) is_first (subst (λ (k : ℕ). Lined w.lanes f k old now stop text) is_behind so) in
    record { steps = at.made; stops = at.stops; lines_are = at.lines_are }

-- the parts of a line, one after the other
pub line_pushed : (old t1 t2 t3 before after : List ℕ) → t1 ≡ old ++ before → t2 ≡ t1 ++ after → t3 ≡ t2 ++ 10 ∷ [] → t3 ≡ old ++ (before ++ after ++ 10 ∷ [])
line_pushed old t1 t2 t3 before after h1 h2 h3 = one_more old (before ++ after) t2 t3 (10 ∷ []) (one_more old before t1 t2 after h1 h2) h3

-- ---- where memory is refused

pub in_any_case : {T E P : Type 0} (r : Result T E) → P → OnErr r P
in_any_case (Ok x) p = tt
in_any_case (Err e) p = p

pub made_none : (m : Kept) → MadeUpTo 1 m m
made_none m = (0, omega arith, record { state_is = refl; code_same = refl; given_same = refl })

pub made_one : (old now : Kept) → Made 1 old now → MadeUpTo 1 old now
made_one old now made = (1, omega arith, made)

pub made_within : (a b : ℕ) (old now : Kept) → a ≤ b → MadeUpTo a old now → MadeUpTo b old now
made_within a b old now le up = let low = up.1 in (up.0, omega (arith, low, le), up.2)

pub made_behind : (m b : ℕ) (old mid now : Kept) → m < b → Made m old mid → MadeUpTo 1 mid now → MadeUpTo b old now
made_behind m b old mid now low made up = by up.0 up.1 up.2
  where
    by : (k : ℕ) → k ≤ 1 → Made k mid now → MadeUpTo b old now
    by zero le more = (m, omega (arith, low), record { state_is = more.state_is ∙ made.state_is; code_same = more.code_same ∙ made.code_same; given_same = more.given_same ∙ made.given_same })
    by (suc zero) le more = (suc m, omega (arith, low), made_next old mid now m made more)
    by (suc (suc k)) le more = absurd (omega (arith, le))
