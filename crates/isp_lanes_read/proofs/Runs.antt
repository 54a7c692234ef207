-- Alike configurations stay alike over each step and over each run; so a run that forgets lanes that nobody reads has the outcome
-- of the machine.
use Rattle.std.proofs.Common.{◌≡◌, ℕ, zero, suc, ◌+◌, List, [], ◌∷◌, ◌++◌, Option, Some, None, true, false, not, inl, inr, refl, sym, ap, ◌∙◌, subst, arith}
use Rattle.std.proofs.lemmas.Bool.{or_cases, not-true}
use Rattle.std.specs.Prelude.{slice_get}
use Rattle.std.specs.List.{list_all}
use Rattle.isp_base.specs.Arguments.{rows as stores, rows_now}
use Rattle.isp_base.specs.Maps.{Lanes}
use Rattle.isp_base.specs.Outcomes.{Ends, Traps, GoesOn as StillRuns}
use Rattle.isp_base.specs.Rows.{Row as Store}
use Rattle.isp_base.specs.Types.{gang_width}
use Rattle.isp_code.specs.Calls.{left, answer}
use Rattle.isp_code.specs.Conf.{Conf, Frame, Move, Go, Say, Fail, Over, State, Runs, Trapped, Ended}
use Rattle.isp_code.specs.Lines.{act}
use Rattle.isp_code.specs.Listing.{Listing, Routine}
use Rattle.isp_code.specs.Machine.{after, advance, arrive, step, act_in, act_at, first_conf, outcome}
use Rattle.isp_code.specs.declared.instr.Instr.{Instr}
use Rattle.isp_code.specs.declared.instr.Instr.TheVariants as instr
use Rattle.isp_code.specs.declared.register.Register.{Register}
use Rattle.isp_lanes_read.specs.Lanes.{sets, called_for, IsRead}
use Rattle.isp_lanes_read.specs.Free.{is_useless}
use Rattle.isp_lanes_read.specs.Reads.{reads, back_reads, gives_lanes}
use Rattle.isp_lanes_read.specs.Rows.{Rows, row_at, row_in, table_at}
use Rattle.isp_lanes_read.specs.Standing.{Holds, StateHolds, AllWaitRight, takes_lanes, routine_gives, AllAlike, Alike, StatesAlike, Forgetful}
use Rattle.isp_lanes_read.specs.declared.table.LaneSet.TheVariants as lane
use Rattle.isp_lanes_read.specs.reader.Passing.{covers_reading, gives_something, passes}
use Rattle.isp_lanes_read.specs.Laws.{RunsAgree}
use Rattle.isp_lanes_read.proofs.Maps.{SameOn}
use Rattle.isp_lanes_read.proofs.Readers.{swapped, Agree}
use Rattle.isp_lanes_read.proofs.Moves.{IsInner}
use Rattle.isp_lanes_read.proofs.Passed.{read_passes, calls_pass}
use Rattle.isp_lanes_read.proofs.Holding.{after_holds, first_holds}
use Rattle.isp_lanes_read.proofs.Alikes.{states_trans}
use Rattle.isp_lanes_read.proofs.Simulating.{MoveAlike, operands, inner_alike, vector_alike, call_alike}
use Rattle.isp_lanes_read.proofs.Returning.{result_alike}

module _ (code : Listing) (rows : Rows) (pass : passes code rows ≡ true) where
  module _ (c : Conf) (holds : Holds code rows c) (ws : List Frame) (vs : ℕ → Lanes) (others : AllAlike code rows c.waiting ws)
      (agree : (v p : ℕ) → IsRead (sets code c) (row_at rows c.home.fn c.pc) v p → c.vectors v p ≡ vs v p)
      (h : Routine) (found : slice_get code.routines c.home.fn ≡ Some h) where
    read_all : (i : Instr) → slice_get h.code c.pc ≡ Some i → is_useless (row_in (table_at rows c.home.fn) (c.pc + 1)) i ≡ false → list_all (covers_reading (row_at rows c.home.fn c.pc)) (reads h i) ≡ true
    read_all i at e =
        elim (or_cases (is_useless (row_in (table_at rows c.home.fn) (c.pc + 1)) i) (list_all (covers_reading (row_at rows c.home.fn c.pc)) (reads h i)) (read_passes code rows pass c.home.fn h found c.pc i at)) [
          | inl t ↦ (let bad : true ≡ false = sym t ∙ e in absurd cc)
          | inr t ↦ t
        ]

    plain_alike : (i : Instr) (at : slice_get h.code c.pc ≡ Some i) → IsInner i → is_useless (row_in (table_at rows c.home.fn) (c.pc + 1)) i ≡ false → MoveAlike code rows pass (act code h c i) (act code h (swapped c ws vs) i)
    plain_alike i at inner e = inner_alike code rows pass c holds ws vs others agree h found i at inner (read_all i at e)

    -- what is given back is the same, in the lanes of the call
    gives_same : (fr : Frame) (rest : List Frame) → c.waiting ≡ fr ∷ rest → (x : Option Register) (at : slice_get h.code c.pc ≡ Some (instr.Return x)) → gives_lanes h.returns ≡ true → (y : Register) → x ≡ Some y → SameOn fr.under (c.vectors y.number) (vs y.number)
    gives_same fr rest e x at gives y is p t =
        ok (record { vector = y.number; lanes = lane.Call }) (0, omega arith, refl) p (subst (λ w. called_for (gang_width code.gang) w p ≡ true) (sym e) t)
      where
        ok : Agree code h c ws vs (record { vector = y.number; lanes = lane.Call } ∷ [])
        ok = subst (λ z. Agree code h c ws vs (back_reads true z)) is (subst (λ b. Agree code h c ws vs (back_reads b x)) gives (operands code rows pass c holds ws vs others agree h found (instr.Return x) at (read_all (instr.Return x) at refl)))

    back_alike : (x : Option Register) (at : slice_get h.code c.pc ≡ Some (instr.Return x)) (as1 bs : List Frame) → c.waiting ≡ as1 → AllWaitRight code rows c.home.fn as1 → AllAlike code rows as1 bs
        → MoveAlike code rows pass (left h c x as1) (left h (swapped c ws vs) x bs)
    back_alike x at [] [] e right all = by x
      where
        by : (x : Option Register) → answer h c x ≡ answer h (swapped c ws vs) x
        by None = refl
        by (Some r) = refl
    back_alike x at [] (fr1 ∷ rest1) e right all = absurd all
    back_alike x at (fr ∷ rest) [] e right all = absurd all
    back_alike x at (fr ∷ rest) (fr1 ∷ rest1) e right all =
        subst (λ z. MoveAlike code rows pass (left h c x (fr ∷ rest)) (left h (swapped c ws vs) x (z ∷ rest1))) (sym all.0.same)
        (result_alike code rows c (swapped c ws vs) fr rest rest1 fr1.vectors all.1 all.0.lanes refl fr.result x refl gives)
      where
        gives : takes_lanes fr.result ≡ true → (gives_something x ≡ true) × ((y : Register) → x ≡ Some y → SameOn fr.under (c.vectors y.number) (vs y.number))
        gives t =
            let yes1 : gives_lanes h.returns ≡ true = sym (ap routine_gives found) ∙ right.0.gives t in (
              elim (or_cases (not (gives_lanes h.returns)) (gives_something x) (calls_pass code rows pass c.home.fn h found c.pc (instr.Return x) at)) [ inl f ↦ (let bad : true ≡ false = sym yes1 ∙ not-true (gives_lanes h.returns) f in absurd cc) | inr f ↦ f ],
              gives_same fr rest e x at yes1,
            )

    act_alike : (i : Instr) (at : slice_get h.code c.pc ≡ Some i) → MoveAlike code rows pass (act code h c i) (act code h (swapped c ws vs) i)
    act_alike (instr.Vector r i) at = vector_alike code rows pass c holds ws vs others agree h found r i at
    act_alike (instr.Call k) at = call_alike code rows pass c holds ws vs others agree h found k at
    act_alike (instr.Return x) at = back_alike x at c.waiting ws refl holds.waiting others
    act_alike i at = plain_alike i at tt refl

    line_alike : (o : Option Instr) → slice_get h.code c.pc ≡ o → MoveAlike code rows pass (act_at code h c o) (act_at code h (swapped c ws vs) o)
    line_alike None at = refl
    line_alike (Some i) at = act_alike i at

  module _ (c : Conf) (holds : Holds code rows c) (ws : List Frame) (vs : ℕ → Lanes) (others : AllAlike code rows c.waiting ws)
      (agree : (v p : ℕ) → IsRead (sets code c) (row_at rows c.home.fn c.pc) v p → c.vectors v p ≡ vs v p) where
    function_alike : (o : Option Routine) → slice_get code.routines c.home.fn ≡ o → MoveAlike code rows pass (act_in code c o) (act_in code (swapped c ws vs) o)
    function_alike None found = refl
    function_alike (Some h) found = line_alike c holds ws vs others agree h found (slice_get h.code c.pc) refl

    said : (a b : Conf) (out : List ℕ) → Alike code rows a b → Alike code rows (record a { out = out }) (record b { out = out })
    said a b out alike = record { same = ap (λ (z : Conf). let y : Conf = record z { out = out } in y) alike.same; lanes = alike.lanes; waiting = alike.waiting }

    here : Alike code rows c (swapped c ws vs)
    here = record { same = refl; lanes = agree; waiting = others }

    arrive_alike : (m n : Move) → MoveAlike code rows pass m n → StatesAlike code rows (arrive code m c) (arrive code n (swapped c ws vs))
    arrive_alike (Go a) (Go b) e = said a b c.out e
    arrive_alike (Say t a) (Say u b) e = subst (λ x. Alike code rows (record a { out = c.out ++ t }) (record b { out = c.out ++ x })) e.0 (said a b (c.out ++ t) e.1)
    arrive_alike (Fail t) (Fail u) e = (e, here)
    arrive_alike (Over x) (Over y) e = (e, here)
    arrive_alike (Go a) (Say u b) e = absurd e
    arrive_alike (Go a) (Fail u) e = absurd e
    arrive_alike (Go a) (Over y) e = absurd e
    arrive_alike (Say t a) (Go b) e = absurd e
    arrive_alike (Say t a) (Fail u) e = absurd e
    arrive_alike (Say t a) (Over y) e = absurd e
    arrive_alike (Fail t) (Go b) e = absurd e
    arrive_alike (Fail t) (Say u b) e = absurd e
    arrive_alike (Fail t) (Over y) e = absurd e
    arrive_alike (Over x) (Go b) e = absurd e
    arrive_alike (Over x) (Say u b) e = absurd e
    arrive_alike (Over x) (Fail u) e = absurd e

    swapped_step : StatesAlike code rows (advance code (Runs c)) (advance code (Runs (swapped c ws vs)))
    swapped_step = arrive_alike (step code c) (step code (swapped c ws vs)) (function_alike (slice_get code.routines c.home.fn) refl)

  steps : (s t : State) → StateHolds code rows s → StatesAlike code rows s t → StatesAlike code rows (advance code s) (advance code t)
  steps (Runs c) (Runs d) holds alike = subst (λ z. StatesAlike code rows (advance code (Runs c)) (advance code (Runs z))) (sym alike.same) (swapped_step c holds d.waiting d.vectors alike.waiting alike.lanes)
  steps (Trapped t c) (Trapped u d) holds alike = alike
  steps (Ended x c) (Ended y d) holds alike = alike
  steps (Runs c) (Trapped u d) holds alike = absurd alike
  steps (Runs c) (Ended y d) holds alike = absurd alike
  steps (Trapped t c) (Runs d) holds alike = absurd alike
  steps (Trapped t c) (Ended y d) holds alike = absurd alike
  steps (Ended x c) (Runs d) holds alike = absurd alike
  steps (Ended x c) (Trapped u d) holds alike = absurd alike

  forgets : (m : ℕ) (s t : State) → StateHolds code rows s → Forgetful code rows m s t → StatesAlike code rows (after code m s) t
  forgets zero s t holds run = run
  forgets (suc m) s t holds run =
      states_trans code rows (advance code (after code m s)) (advance code run.0) t
      (steps (after code m s) run.0 (after_holds code rows pass m s holds) (forgets m s run.0 holds run.1)) run.2

  outcome_same : (rs : List Store) (s t : State) → StatesAlike code rows s t → outcome rs t ≡ outcome rs s
  outcome_same rs (Runs c) (Runs d) alike = ap (λ z. StillRuns z.out) alike.same
  outcome_same rs (Trapped t c) (Trapped u d) alike = ap (λ z. Traps u (rows_now rs z.arrays) z.out) alike.1.same ∙ ap (λ z. Traps z (rows_now rs c.arrays) c.out) (sym alike.0)
  outcome_same rs (Ended x c) (Ended y d) alike = ap (λ z. Ends (rows_now rs z.arrays) y z.out) alike.1.same ∙ ap (λ z. Ends (rows_now rs c.arrays) z c.out) (sym alike.0)
  outcome_same rs (Runs c) (Trapped u d) alike = absurd alike
  outcome_same rs (Runs c) (Ended y d) alike = absurd alike
  outcome_same rs (Trapped t c) (Runs d) alike = absurd alike
  outcome_same rs (Trapped t c) (Ended y d) alike = absurd alike
  outcome_same rs (Ended x c) (Runs d) alike = absurd alike
  outcome_same rs (Ended x c) (Trapped u d) alike = absurd alike

  agree_runs : RunsAgree code rows
  agree_runs =
      record {
        steps = steps;
        joins = states_trans code rows;
        outcomes = λ f h xs found m t run. outcome_same (stores xs) (after code m (Runs (first_conf code f h xs))) t (forgets m (Runs (first_conf code f h xs)) t (first_holds code rows pass f h xs found) run);
      }

pub runs_agree : (code : Listing) (rows : Rows) → passes code rows ≡ true → RunsAgree code rows
runs_agree = agree_runs
