-- What tables that pass say of masks is so wherever a run stands.
use Rattle.std.proofs.Common.{◌≡◌, ◌≢◌, ℕ, zero, suc, ◌+◌, List, [], ◌∷◌, Option, Some, None, Bool, true, false, not, inl, inr, refl, sym, ap, ◌∙◌, subst, arith, Contains}
use Rattle.std.proofs.lemmas.Bool.{and_parts, or_cases, not-true}
use Rattle.std.specs.Prelude.{slice_get, if◌then◌else◌, nat_lt}
use Rattle.std.specs.List.{list_all}
use Rattle.isp_base.specs.Depths.{most_calls}
use Rattle.isp_base.specs.Maps.{put}
use Rattle.isp_base.specs.Sets.{Mask, nobody, everyone}
use Rattle.isp_base.specs.Types.{gang_width}
use Rattle.isp_base.specs.declared.signature.Argument.{Argument}
use Rattle.isp_base.specs.declared.trap.Trap.{Trap}
use Rattle.isp_code.specs.Calls.{waits, called, depth, entered, left, resumed, with_result, put_result}
use Rattle.isp_code.specs.Conf.{Conf, Frame, Move, Go, Say, Fail, Over, State, Runs, Trapped, Ended}
use Rattle.isp_code.specs.Lines.{act}
use Rattle.isp_code.specs.Listing.{Listing, Routine}
use Rattle.isp_code.specs.Machine.{after, advance, arrive, step, act_in, act_at, first_conf}
use Rattle.isp_code.specs.declared.instr.Call.{Call}
use Rattle.isp_code.specs.declared.instr.Instr.{Instr}
use Rattle.isp_code.specs.declared.instr.Instr.TheVariants as instr
use Rattle.isp_code.specs.declared.register.Class.{Class}
use Rattle.isp_code.specs.declared.register.Class.TheVariants as class
use Rattle.isp_code.specs.declared.register.Register.{Register}
use Rattle.isp_lanes_read.specs.Lanes.{IsWithin, Meaning, meaning, sets, called_for, IsTold}
use Rattle.isp_lanes_read.specs.Rows.{Row, Rows, row_at, row_in, table_at}
use Rattle.isp_lanes_read.specs.Standing.{Holds, StateHolds, AllWaitRight, takes_lanes, routine_gives}
use Rattle.isp_lanes_read.specs.Laws.{MasksHold}
use Rattle.isp_lanes_read.specs.declared.table.LaneSet.{LaneSet}
use Rattle.isp_lanes_read.specs.declared.table.LaneSet.TheVariants as lanes
use Rattle.isp_lanes_read.specs.reader.Known.{same_set, set_of, upper}
use Rattle.isp_lanes_read.specs.reader.Passing.{Edge, MaskWrite, edges, edge_passes, follows, comes, mask_written, at_head, begins_so, passes}
use Rattle.isp_lanes_read.proofs.Lists.{all_has, put_other}
use Rattle.isp_lanes_read.proofs.Knowing.{same_is, IsSound, meaning_sound, plain_is_so}
use Rattle.isp_lanes_read.proofs.Follows.{Changes, upper_inside, told_after}
use Rattle.isp_lanes_read.proofs.Moves.{GoesOn, MovesOn, moves_on}
use Rattle.isp_lanes_read.proofs.Passed.{begins, calls_pass, edges_pass}

module _ (code : Listing) (rows : Rows) where
  gang : Mask
  gang = everyone (gang_width code.gang)

  abbrev InGang : Mask → Type 0
  InGang a = IsWithin a (everyone (gang_width code.gang))

  outer_inside : (fn : ℕ) (ws : List Frame) → AllWaitRight code rows fn ws → InGang (called_for (gang_width code.gang) ws)
  outer_inside fn [] all = λ p h. h
  outer_inside fn (fr ∷ rest) all = all.0.under_inside

  pub sets_sound : (c : Conf) → Holds code rows c → IsSound (sets code c)
  sets_sound c holds = meaning_sound (gang_width code.gang) c.masks (called_for (gang_width code.gang) c.waiting) holds.inside (outer_inside c.home.fn c.waiting holds.waiting)

  -- where a call begins, with all masks but the first empty
  module _ (fn : ℕ) (ws : List Frame) (all : AllWaitRight code rows fn ws) where
    outer : Mask
    outer = called_for (gang_width code.gang) ws

    abbrev first_sets : Meaning
    first_sets = meaning (gang_width code.gang) (put (λ k. nobody) 0 (called_for (gang_width code.gang) ws)) (called_for (gang_width code.gang) ws)

    first_inside : (k : ℕ) → InGang (put (λ k. nobody) 0 (called_for (gang_width code.gang) ws) k)
    first_inside zero = outer_inside fn ws all
    first_inside (suc k) = let ne : suc k ≢ 0 = omega arith in subst InGang (sym (put_other (λ k. nobody) 0 (called_for (gang_width code.gang) ws) (suc k) ne)) (λ p h. absurd cc)

    at_first : (a : LaneSet) → first_sets a ≡ first_sets (at_head a)
    at_first (lanes.Mask zero) = refl
    at_first (lanes.Mask (suc k)) = let ne : suc k ≢ 0 = omega arith in put_other (λ k. nobody) 0 (called_for (gang_width code.gang) ws) (suc k) ne
    at_first lanes.Gang = refl
    at_first lanes.Call = refl
    at_first lanes.Nobody = refl

    first_told : (row : Row) → list_all begins_so row.within ≡ true → IsTold first_sets row
    first_told row e x has =
        subst (λ m. IsWithin m (first_sets x.whole)) (sym (at_first x.part)) (subst (λ m. IsWithin (first_sets (at_head x.part)) m) (sym (at_first x.whole))
        (plain_is_so first_sets (meaning_sound (gang_width code.gang) (put (λ k. nobody) 0 (called_for (gang_width code.gang) ws)) (called_for (gang_width code.gang) ws) first_inside (outer_inside fn ws all)) (at_head x.part) (at_head x.whole) (all_has begins_so row.within x e has)))

  module _ (pass : passes code rows ≡ true) where
    pub first_holds : (f : ℕ) (h : Routine) (xs : List Argument) → slice_get code.routines f ≡ Some h → Holds code rows (first_conf code f h xs)
    first_holds f h xs found =
        record { told = first_told f [] tt (row_at rows f 0) (begins code rows pass f h found); inside = first_inside f [] tt; waiting = tt }

    module _ (c : Conf) (holds : Holds code rows c) (h : Routine) (found : slice_get code.routines c.home.fn ≡ Some h) (i : Instr) (at : slice_get h.code c.pc ≡ Some i) where
      row : Row
      row = row_at rows c.home.fn c.pc

      edge_is : (e : Edge) → Contains (edges c.pc i) e → edge_passes (table_at rows c.home.fn) (row_at rows c.home.fn c.pc) i e ≡ true
      edge_is e has = all_has (edge_passes (table_at rows c.home.fn) (row_at rows c.home.fn c.pc) i) (edges c.pc i) e (edges_pass code rows pass c.home.fn h found c.pc i at) has

      edge_follows : (e : Edge) → Contains (edges c.pc i) e → list_all (follows (row_at rows c.home.fn c.pc) e.more (mask_written i)) (row_in (table_at rows c.home.fn) e.to).within ≡ true
      edge_follows e has = (and_parts (list_all (follows (row_at rows c.home.fn c.pc) e.more (mask_written i)) (row_in (table_at rows c.home.fn) e.to).within) (list_all (comes (row_at rows c.home.fn c.pc) e.more i) (row_in (table_at rows c.home.fn) e.to).read) (edge_is e has)).0

      pub edge_comes : (e : Edge) → Contains (edges c.pc i) e → list_all (comes (row_at rows c.home.fn c.pc) e.more i) (row_in (table_at rows c.home.fn) e.to).read ≡ true
      edge_comes e has = (and_parts (list_all (follows (row_at rows c.home.fn c.pc) e.more (mask_written i)) (row_in (table_at rows c.home.fn) e.to).within) (list_all (comes (row_at rows c.home.fn c.pc) e.more i) (row_in (table_at rows c.home.fn) e.to).read) (edge_is e has)).1

      changed_inside : (c1 : Conf) (w : Option MaskWrite) → Changes (sets code c) (sets code c1) w → (k : ℕ) → InGang (c1.masks k)
      changed_inside c1 None new k = subst InGang (sym (new (lanes.Mask k))) (holds.inside k)
      changed_inside c1 (Some w) new k = by (same_set (lanes.Mask k) (set_of w.mask)) refl
        where
          by : (b : Bool) → same_set (lanes.Mask k) (set_of w.mask) ≡ b → InGang (c1.masks k)
          by true e = subst (λ a. InGang (sets code c1 a)) (sym (same_is (lanes.Mask k) (set_of w.mask) e)) (upper_inside (sets code c) (sets_sound c holds) (sets code c1 (set_of w.mask)) (upper w.value) new.above)
          by false e = subst InGang (sym (new.others (lanes.Mask k) e)) (holds.inside k)

      inner_holds : (c1 : Conf) → GoesOn code h c i c1 → Holds code rows c1
      inner_holds c1 goes =
          record {
            told = subst (λ n. IsTold (sets code c1) (row_at rows n c1.pc)) (sym (ap (λ m. m.fn) goes.home_is))
                (subst (λ n. IsTold (sets code c1) (row_at rows c.home.fn n)) (sym goes.pc_is)
                (told_after (sets code c) (sets code c1) (sets_sound c holds) (row_at rows c.home.fn c.pc) holds.told goes.edge.more goes.so (mask_written i) goes.changes (row_in (table_at rows c.home.fn) goes.edge.to) (edge_follows goes.edge goes.has)));
            inside = changed_inside c1 (mask_written i) goes.changes;
            waiting = subst (λ n. AllWaitRight code rows n c1.waiting) (sym (ap (λ m. m.fn) goes.home_is)) (subst (AllWaitRight code rows c.home.fn) (sym goes.waiting_is) holds.waiting);
          }

    abbrev MoveHolds : Move → Type 0
    MoveHolds (Go c1) = Holds code rows c1
    MoveHolds (Say text c1) = Holds code rows c1
    MoveHolds (Fail t) = Unit {0}
    MoveHolds (Over x) = Unit {0}

    by_goes : (c : Conf) (h : Routine) (i : Instr) → ((c1 : Conf) → GoesOn code h c i c1 → Holds code rows c1) → (mv : Move) → MovesOn code h c i mv → MoveHolds mv
    by_goes c h i each (Go c1) on = each c1 on
    by_goes c h i each (Say text c1) on = each c1 on
    by_goes c h i each (Fail t) on = tt
    by_goes c h i each (Over x) on = tt

    -- a call that begins
    called_holds : (c : Conf) (holds : Holds code rows c) (h : Routine) (found : slice_get code.routines c.home.fn ≡ Some h) (k : Call) (at : slice_get h.code c.pc ≡ Some (instr.Call k)) (g : Routine)
        → slice_get code.routines k.function ≡ Some g → Holds code rows (called c k g)
    called_holds c holds h found k at g there =
        record { told = first_told k.function (frame ∷ c.waiting) all (row_at rows k.function 0) (begins code rows pass k.function g there); inside = first_inside k.function (frame ∷ c.waiting) all; waiting = all }
      where
        frame : Frame
        frame = waits c k.result (c.masks k.mask.number)

        gives : takes_lanes k.result ≡ true → routine_gives (slice_get code.routines k.function) ≡ true
        gives e = elim (or_cases (not (takes_lanes k.result)) (routine_gives (slice_get code.routines k.function)) (calls_pass code rows pass c.home.fn h found c.pc (instr.Call k) at)) [ inl f ↦ (let no : takes_lanes k.result ≡ false = not-true (takes_lanes k.result) f in let bad : true ≡ false = sym e ∙ no in absurd cc) | inr f ↦ f ]

        all : AllWaitRight code rows k.function (frame ∷ c.waiting)
        all = (
          record {
            told = told_after (sets code c) (sets code c) (sets_sound c holds) (row_at rows c.home.fn c.pc) holds.told None tt None (λ a. refl) (row_in (table_at rows c.home.fn) (c.pc + 1)) (edge_follows c holds h found (instr.Call k) at (record { to = c.pc + 1; more = None }) (0, omega arith, refl));
            inside = holds.inside;
            under_inside = holds.inside k.mask.number;
            gives = gives;
          },
          holds.waiting,
        )

    entered_holds : (c : Conf) (holds : Holds code rows c) (h : Routine) (found : slice_get code.routines c.home.fn ≡ Some h) (k : Call) (at : slice_get h.code c.pc ≡ Some (instr.Call k)) (o : Option Routine)
        → slice_get code.routines k.function ≡ o → MoveHolds (entered code c k o)
    entered_holds c holds h found k at None e = tt
    entered_holds c holds h found k at (Some g) e = by (nat_lt (depth c) most_calls) _
      where
        by : (b : Bool) (t : Trap) → MoveHolds (if b then Go (called c k g) else Fail t)
        by true t = called_holds c holds h found k at g e
        by false t = tt

    -- a call that ends
    put_holds : (d : Class) (c : Conf) (r x : Register) (under : Mask) (b : Conf) → Holds code rows b → Holds code rows (put_result d c r x under b)
    put_holds class.Vector c r x under b holds = record { told = holds.told; inside = holds.inside; waiting = holds.waiting }
    put_holds class.Scalar c r x under b holds = record { told = holds.told; inside = holds.inside; waiting = holds.waiting }
    put_holds class.Mask c r x under b holds = record { told = holds.told; inside = holds.inside; waiting = holds.waiting }
    put_holds class.Array c r x under b holds = record { told = holds.told; inside = holds.inside; waiting = holds.waiting }

    result_holds : (c : Conf) (r x : Option Register) (under : Mask) (b : Conf) → Holds code rows b → Holds code rows (with_result c r x under b)
    result_holds c (Some r) (Some x) under b holds = put_holds r.class c r x under b holds
    result_holds c (Some r) None under b holds = holds
    result_holds c None x under b holds = holds

    left_holds : (h : Routine) (c : Conf) (x : Option Register) (ws : List Frame) (fn : ℕ) → AllWaitRight code rows fn ws → MoveHolds (left h c x ws)
    left_holds h c x [] fn all = tt
    left_holds h c x (fr ∷ rest) fn all = result_holds c fr.result x fr.under (resumed c fr rest) (record { told = all.0.told; inside = all.0.inside; waiting = all.1 })

    act_holds : (c : Conf) → Holds code rows c → (h : Routine) → slice_get code.routines c.home.fn ≡ Some h → (i : Instr) → slice_get h.code c.pc ≡ Some i → MoveHolds (act code h c i)
    act_holds c holds h found (instr.Call k) at = entered_holds c holds h found k at (slice_get code.routines k.function) refl
    act_holds c holds h found (instr.Return x) at = left_holds h c x c.waiting c.home.fn holds.waiting
    act_holds c holds h found i at = by_goes c h i (inner_holds c holds h found i at) (act code h c i) (moves_on code h c holds.inside i tt)

    line_holds : (c : Conf) → Holds code rows c → (h : Routine) → slice_get code.routines c.home.fn ≡ Some h → (o : Option Instr) → slice_get h.code c.pc ≡ o → MoveHolds (act_at code h c o)
    line_holds c holds h found None at = tt
    line_holds c holds h found (Some i) at = act_holds c holds h found i at

    function_holds : (c : Conf) → Holds code rows c → (o : Option Routine) → slice_get code.routines c.home.fn ≡ o → MoveHolds (act_in code c o)
    function_holds c holds None found = tt
    function_holds c holds (Some h) found = line_holds c holds h found (slice_get h.code c.pc) refl

    arrives : (mv : Move) (c : Conf) → MoveHolds mv → StateHolds code rows (arrive code mv c)
    arrives (Go c1) c holds = record { told = holds.told; inside = holds.inside; waiting = holds.waiting }
    arrives (Say text c1) c holds = record { told = holds.told; inside = holds.inside; waiting = holds.waiting }
    arrives (Fail t) c holds = tt
    arrives (Over x) c holds = tt

    pub advance_holds : (s : State) → StateHolds code rows s → StateHolds code rows (advance code s)
    advance_holds (Runs c) holds = arrives (step code c) c (function_holds c holds (slice_get code.routines c.home.fn) refl)
    advance_holds (Trapped t c) holds = tt
    advance_holds (Ended x c) holds = tt

    pub after_holds : (m : ℕ) (s : State) → StateHolds code rows s → StateHolds code rows (after code m s)
    after_holds zero s holds = holds
    after_holds (suc m) s holds = advance_holds (after code m s) (after_holds m s holds)

    masks : MasksHold code rows
    masks = record { begins = first_holds; goes_on = advance_holds; always = λ f h xs found m. after_holds m (Runs (first_conf code f h xs)) (first_holds f h xs found) }

pub masks_hold : (code : Listing) (rows : Rows) → passes code rows ≡ true → MasksHold code rows
masks_hold = masks
