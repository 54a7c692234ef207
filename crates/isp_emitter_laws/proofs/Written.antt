-- What was written runs, by the laws of expressions and assignments.
use Rattle.std.proofs.Common.{◌≡◌, ◌+◌, ℕ, List, length, Bool, None, sym, ap, subst, ◌∙◌, arith}
use Rattle.std.specs.Prelude.{is_some}
use Rattle.isp_meaning.specs.Expressions.{value}
use Rattle.isp_meaning.specs.Simple.{simple}
use Rattle.isp_typed.specs.Typed.{TExpr, TSimple, type_of}
use Rattle.isp_typed.specs.Views.{functions_of}
use Rattle.isp_base.specs.Sets.{Mask}
use Rattle.isp_code.specs.Conf.{Conf}
use Rattle.isp_meaning.specs.Outcomes.{Stops}
use Rattle.isp_meaning.specs.State.{State}
use Rattle.isp_lower_code.specs.Steps.{GoesOn}
use Rattle.isp_lower.specs.Adding.{Adds, expr_in, layout_in, simple_in}
use Rattle.isp_lower_code.specs.Asks.{Ask, expr_asks, simple_asks}
use Rattle.isp_lower_code.specs.Callees.{rates_in}
use Rattle.isp_lower_code.specs.Code.{expr_code}
use Rattle.isp_lower_code.specs.Found.{found}
use Rattle.isp_lower_code.specs.Spans.{expr_places}
use Rattle.isp_lower.specs.Drafts.{draft_of}
use Rattle.isp_registers.specs.Growth.{rows_of}
use Rattle.isp_lower_code.specs.Fits.{ExprFits, SimpleFits}
use Rattle.isp_lower_code.specs.Laws.{ExprRuns, SimpleRuns, ExprGoesOn, SimpleGoesOn, LayoutsAreApart}
use Rattle.isp_lower_code.specs.Layout.{HasNoRows, IsApart, KnowsNothing, Layout, SetsNone}
use Rattle.isp_registers.specs.Reserved.{Has}
use Rattle.isp_lower_code.specs.Rows.{Variable, elem_in, layout_of}
use Rattle.isp_lower_code.specs.Runs.{DoneRuns, Runs, Enters}
use Rattle.isp_lower_code.specs.Setting.{Setting, AreAt, calls_of, gang_of, Holds, IsSettled, with_turns}
use Rattle.isp_lower_code.specs.Simple.{simple_code, simple_places}
use Rattle.isp_lower.specs.Written.{Piece}
use Rattle.isp_registers.specs.declared.reserve.Reserve.{Reserve}
use Rattle.isp_lower.specs.declared.sites.Site.{Site}
use Rattle.isp_lower.specs.declared.types.Emitter.{Emitter}
use Rattle.isp_emitter_laws.specs.Written.{HasWritten, HasExpr, HasSimple, AcceptsExpr, AcceptsSimple, WrittenRuns, WrittenGoesOn}
use Rattle.isp_registers.specs.declared.registers.Registers.{Registers}
use Rattle.isp_emitter_laws.specs.OfRows.{IsOfRows}
use Rattle.isp_emitter_laws.specs.Parts.{SamePart}
use Rattle.isp_emitter_laws.specs.Staying.{KeepsPlaces}
use Rattle.isp_emitter_laws.proofs.Loaded.{done_back, enters_with, runs_back, settled_with, with_loaded}
use Rattle.isp_emitter_laws.proofs.Fitting.{has_stays, written_fits}
use Rattle.isp_emitter_laws.proofs.Parts.{appended_at, appended_end}
use Rattle.isp_emitter_laws.proofs.SameCode.{places_same}
use Rattle.isp_emitter_laws.proofs.SameSimple.{simple_places_same}
use Rattle.isp_emitter_laws.proofs.Staying.{code_stays, keeps_places, loaded_before}

-- ---- of any piece, where the same variables are copied as when it was written

record Lies (w : Setting) (old new : Emitter) (now : Registers) (piece : Piece) (asks : Ask) : Type 0 where
  adds : Adds old new piece
  has : Has new.reserved asks
  keeps : KeepsPlaces new.reserved.registers now
  rows : IsOfRows w (rows_of now)
  callees : (draft_of new).callees ≡ w.program.functions
  code : SamePart (length (draft_of old).code) (length (draft_of new).code) (draft_of new).code w.routine.code
  places : SamePart (length (draft_of old).places) (length (draft_of new).places) (draft_of new).places w.code.places

abbrev LiesExpr : Setting → Emitter → Emitter → Registers → TExpr → Site → Type 0
LiesExpr w old new now x at = Lies w old new now (expr_in new x at) (expr_asks x at.slot.number)

abbrev LiesSimple : Setting → Emitter → Emitter → Registers → TSimple → Site → Type 0
LiesSimple w old new now x at = Lies w old new now (simple_in new x at) (simple_asks x at.slot.number)

module _ (w : Setting) (rates : w.layout.rates ≡ rates_in w.program.functions) (old new : Emitter) (last : Registers) (piece : Piece) (asks : Ask) (h : Lies w old new last piece asks) where
  abbrev pc : ℕ
  pc = length old.body.code.items

  abbrev p : ℕ
  p = length old.body.places.items

  -- the registers that the routine has, and masks as there were
  abbrev kept : Reserve
  kept = record { registers = last; masks = new.reserved.masks }

  kept_has : Has kept asks
  kept_has = has_stays new.reserved kept h.keeps.grows (omega arith) asks h.has

  -- where the registers lie is as it is in the call
  lies : layout_of (rates_in (functions_of new.callees.now)) (rows_of last) ≡ w.layout
  lies =
      ap (λ fs. layout_of (rates_in fs) (rows_of last)) h.callees ∙ sym (ap (λ (rs : ℕ → List _). layout_of rs (rows_of last)) rates) ∙ sym h.rows.layout

  code_stands : AreAt w.routine.code pc (piece.code pc p)
  code_stands = appended_at old.body.code.items new.body.code.items (piece.code pc p) w.routine.code h.adds.appends.code h.code

  places_stand : AreAt w.code.places p piece.places
  places_stand = appended_at old.body.places.items new.body.places.items piece.places w.code.places h.adds.appends.places h.places

  code_ends : pc + length (piece.code pc p) ≡ length new.body.code.items
  code_ends = appended_end old.body.code.items new.body.code.items (piece.code pc p) h.adds.appends.code

-- ---- an expression

module _ (w : Setting) (rates : w.layout.rates ≡ rates_in w.program.functions) (old new : Emitter) (last : Registers) (x : TExpr) (at : Site) (accepts : AcceptsExpr w x) (h : LiesExpr w old new last x at) where
  abbrev n : ℕ
  n = at.slot.number

  abbrev then : Layout
  then = layout_in new

  expr_fits : ExprFits w x n
  expr_fits =
      let k = kept w rates old new last (expr_in new x at) (expr_asks x n) h in
      written_fits.exprs w k x n h.rows accepts.0 accepts.1 (kept_has w rates old new last (expr_in new x at) (expr_asks x n) h)

  -- the code, the places and the register are those of the call's layout
  expr_is : expr_code then x (length old.body.code.items) (length old.body.places.items) at.mask.number n ≡ expr_code w.layout x (length old.body.code.items) (length old.body.places.items) at.mask.number n
  expr_is =
      let k = kept w rates old new last (expr_in new x at) (expr_asks x n) h in
      sym (code_stays.exprs (rates_in (functions_of new.callees.now)) new.reserved k x (length old.body.code.items) (length old.body.places.items) at.mask.number n h.keeps h.has)
      ∙ ap (λ l. expr_code l x (length old.body.code.items) (length old.body.places.items) at.mask.number n) (lies w rates old new last (expr_in new x at) (expr_asks x n) h)

  found_is : found w.layout x n ≡ found then x n
  found_is =
      let k = kept w rates old new last (expr_in new x at) (expr_asks x n) h in
      sym (ap (λ l. found l x n) (lies w rates old new last (expr_in new x at) (expr_asks x n) h))
      ∙ code_stays.values (rates_in (functions_of new.callees.now)) new.reserved k x n h.keeps h.has

  expr_stands : AreAt w.routine.code (length old.body.code.items) (expr_code w.layout x (length old.body.code.items) (length old.body.places.items) at.mask.number n)
  expr_stands = subst (AreAt w.routine.code (length old.body.code.items)) expr_is (code_stands w rates old new last (expr_in new x at) (expr_asks x n) h)

  expr_places_stand : AreAt w.code.places (length old.body.places.items) (expr_places w.layout x)
  expr_places_stand =
      subst (AreAt w.code.places (length old.body.places.items)) (places_same then w.layout x) (places_stand w rates old new last (expr_in new x at) (expr_asks x n) h)

  expr_ends : length old.body.code.items + length (expr_code w.layout x (length old.body.code.items) (length old.body.places.items) at.mask.number n) ≡ length new.body.code.items
  expr_ends = sym (ap (λ is. length old.body.code.items + length is) expr_is) ∙ code_ends w rates old new last (expr_in new x at) (expr_asks x n) h

-- ---- an assignment

module _ (w : Setting) (rates : w.layout.rates ≡ rates_in w.program.functions) (old new : Emitter) (last : Registers) (x : TSimple) (at : Site) (accepts : AcceptsSimple w x) (h : LiesSimple w old new last x at) where
  simple_fits : SimpleFits w x at.slot.number
  simple_fits =
      let k = kept w rates old new last (simple_in new x at) (simple_asks x at.slot.number) h in
      written_fits.simples w k x at.slot.number h.rows accepts.0 accepts.1 (kept_has w rates old new last (simple_in new x at) (simple_asks x at.slot.number) h)

  simple_is : simple_code (layout_in new) x (length old.body.code.items) (length old.body.places.items) at.mask.number at.slot.number ≡ simple_code w.layout x (length old.body.code.items) (length old.body.places.items) at.mask.number at.slot.number
  simple_is =
      let k = kept w rates old new last (simple_in new x at) (simple_asks x at.slot.number) h in
      sym (code_stays.simples (rates_in (functions_of new.callees.now)) new.reserved k x (length old.body.code.items) (length old.body.places.items) at.mask.number at.slot.number h.keeps h.has)
      ∙ ap (λ l. simple_code l x (length old.body.code.items) (length old.body.places.items) at.mask.number at.slot.number) (lies w rates old new last (simple_in new x at) (simple_asks x at.slot.number) h)

  simple_stands : AreAt w.routine.code (length old.body.code.items) (simple_code w.layout x (length old.body.code.items) (length old.body.places.items) at.mask.number at.slot.number)
  simple_stands = subst (AreAt w.routine.code (length old.body.code.items)) simple_is (code_stands w rates old new last (simple_in new x at) (simple_asks x at.slot.number) h)

  simple_places_stand : AreAt w.code.places (length old.body.places.items) (simple_places w.layout x)
  simple_places_stand =
      subst (AreAt w.code.places (length old.body.places.items)) (simple_places_same (layout_in new) w.layout x) (places_stand w rates old new last (simple_in new x at) (simple_asks x at.slot.number) h)

  simple_ends : length old.body.code.items + length (simple_code w.layout x (length old.body.code.items) (length old.body.places.items) at.mask.number at.slot.number) ≡ length new.body.code.items
  simple_ends = sym (ap (λ is. length old.body.code.items + length is) simple_is) ∙ code_ends w rates old new last (simple_in new x at) (simple_asks x at.slot.number) h

-- ---- what an emitter wrote, in a call that copies the variables which were copied then

abbrev loaded_then : Emitter → ℕ → Bool
loaded_then new v = is_some (elem_in (rows_of new.reserved.registers).loaded (Variable v))

abbrev then_in : Setting → Emitter → Setting
then_in w new = with_loaded w (loaded_then new)

module _ (w : Setting) (old new last : Emitter) (piece : Piece) (asks : Ask) (h : HasWritten w old new last piece asks) where
  abbrev registers : Registers
  registers = loaded_before new.reserved.registers last.reserved.registers

  layout_is : (then_in w new).layout ≡ layout_of w.layout.rates (rows_of registers)
  layout_is = ap (λ (l : Layout). record l { loaded = loaded_then new }) h.rows.layout

  lies_then : Lies (then_in w new) old new registers piece asks
  lies_then =
      record {
        adds = h.adds;
        has = h.has;
        keeps = keeps_places new.reserved.registers last.reserved.registers h.grows;
        rows = record { scalars = h.rows.scalars; vectors = h.rows.vectors; layout = layout_is };
        callees = h.callees;
        code = h.code;
        places = h.places;
      }

  settled_then : LayoutsAreApart → IsSettled w → IsSettled (then_in w new)
  settled_then apart settled =
      let none : w.layout.run ≡ None = ap (λ (l : Layout). l.run) h.rows.layout in
      let rows : HasNoRows w.layout = λ i n. ap (λ (l : Layout). l.is_row i n) h.rows.layout in
      let unset : SetsNone w.layout = λ rs. ap (λ (l : Layout). l.sets rs) h.rows.layout in
      let nothing : KnowsNothing w.layout = λ v. ap (λ (l : Layout). l.known v) h.rows.layout in
      settled_with w (loaded_then new) none rows unset nothing (subst IsApart (sym layout_is) (apart w.layout.rates (rows_of registers))) settled

-- ---- the laws

module _ (apart : LayoutsAreApart) where
  module _ (run : ExprRuns) where
    expr_runs : (w : Setting) → IsSettled w → (old new last : Emitter) (x : TExpr) (at : Site) (q : ℕ) (a : Mask) (s : State) (c : Conf)
        → AcceptsExpr w x → HasExpr w old new last x at → Enters w (length (draft_of old).code) at.mask.number at.slot.number a s c q
        → Runs w c (length (draft_of new).code) at.slot.number (4 + q) (Holds (type_of x).rate a (found (layout_in new) x at.slot.number))
        (value (gang_of w) w.frame (calls_of w) x a s)
    expr_runs w settled old new last x at q a s c accepts h enters =
        let u = then_in w new in
        let n = at.slot.number in
        let piece = expr_in new x at in
        let now = registers w old new last piece (expr_asks x n) h in
        let there = lies_then w old new last piece (expr_asks x n) h in
        let sure = settled_then w old new last piece (expr_asks x n) h apart settled in
        let runs = run u sure x (length old.body.code.items) (length old.body.places.items) at.mask.number n q a s c
        (expr_fits u sure.rates old new now x at accepts there) (expr_stands u sure.rates old new now x at accepts there)
        (expr_places_stand u sure.rates old new now x at accepts there)
        (enters_with w (loaded_then new) (length old.body.code.items) at.mask.number n a s c q enters) in
        runs_back w (loaded_then new) c (length new.body.code.items) n (4 + q) (Holds (type_of x).rate a (found (layout_in new) x n)) (value (gang_of w) w.frame (calls_of w) x a s)
        (subst (λ d. Runs u c (length new.body.code.items) n (4 + q) (Holds (type_of x).rate a d) (value (gang_of w) w.frame (calls_of w) x a s)) (found_is u sure.rates old new now x at accepts there)
        (subst (λ e. Runs u c e n (4 + q) (Holds (type_of x).rate a (found u.layout x n)) (value (gang_of w) w.frame (calls_of w) x a s)) (expr_ends u sure.rates old new now x at accepts there) runs))

  module _ (run : SimpleRuns) where
    simple_runs : (w : Setting) → IsSettled w → (old new last : Emitter) (x : TSimple) (at : Site) (q : ℕ) (a : Mask) (s : State) (c : Conf)
        → AcceptsSimple w x → HasSimple w old new last x at → Enters w (length (draft_of old).code) at.mask.number at.slot.number a s c q
        → DoneRuns w c (length (draft_of new).code) at.slot.number q (simple (gang_of w) w.frame (calls_of w) x a s)
    simple_runs w settled old new last x at q a s c accepts h enters =
        let u = then_in w new in
        let n = at.slot.number in
        let piece = simple_in new x at in
        let now = registers w old new last piece (simple_asks x n) h in
        let there = lies_then w old new last piece (simple_asks x n) h in
        let sure = settled_then w old new last piece (simple_asks x n) h apart settled in
        let runs = run u sure x (length old.body.code.items) (length old.body.places.items) at.mask.number n q a s c
        (simple_fits u sure.rates old new now x at accepts there) (simple_stands u sure.rates old new now x at accepts there)
        (simple_places_stand u sure.rates old new now x at accepts there)
        (enters_with w (loaded_then new) (length old.body.code.items) at.mask.number n a s c q enters) in
        done_back w (loaded_then new) c (length new.body.code.items) n q (simple (gang_of w) w.frame (calls_of w) x a s)
        (subst (λ e. DoneRuns u c e n q (simple (gang_of w) w.frame (calls_of w) x a s)) (simple_ends u sure.rates old new now x at accepts there) runs)

  module _ (go : ExprGoesOn) where
    expr_goes_on : (w : Setting) → ((m : ℕ) → IsSettled (with_turns w m))
        → (old new last : Emitter) (x : TExpr) (at : Site) (q : ℕ) (a : Mask) (s : State) (c : Conf) (cuts : ℕ → State) → AcceptsExpr w x
        → HasExpr w old new last x at → Enters w (length (draft_of old).code) at.mask.number at.slot.number a s c q
        → ((m : ℕ) → value (gang_of w) w.frame (calls_of (with_turns w m)) x a s ≡ Stops (cuts m)) → GoesOn w.code c cuts
    expr_goes_on w settled old new last x at q a s c cuts accepts h enters cut =
        let u = then_in w new in
        let n = at.slot.number in
        let piece = expr_in new x at in
        let now = registers w old new last piece (expr_asks x n) h in
        let there = lies_then w old new last piece (expr_asks x n) h in
        let none : w.layout.run ≡ None = ap (λ (l : Layout). l.run) h.rows.layout in
        let own : IsApart u.layout = subst IsApart (sym (layout_is w old new last piece (expr_asks x n) h)) (apart w.layout.rates (rows_of now)) in
        let rows : HasNoRows w.layout = λ i n. ap (λ (l : Layout). l.is_row i n) h.rows.layout in
        let unset : SetsNone w.layout = λ rs. ap (λ (l : Layout). l.sets rs) h.rows.layout in
        let nothing : KnowsNothing w.layout = λ v. ap (λ (l : Layout). l.known v) h.rows.layout in
        let sure : ((m : ℕ) → IsSettled (with_turns u m)) = λ m. settled_with (with_turns w m) (loaded_then new) none rows unset nothing own (settled m) in
        let rates = (sure 0).rates in
        go u sure x (length old.body.code.items) (length old.body.places.items) at.mask.number n q a s c cuts
        (expr_fits u rates old new now x at accepts there) (expr_stands u rates old new now x at accepts there)
        (expr_places_stand u rates old new now x at accepts there)
        (enters_with w (loaded_then new) (length old.body.code.items) at.mask.number n a s c q enters) cut

  module _ (go : SimpleGoesOn) where
    simple_goes_on : (w : Setting) → ((m : ℕ) → IsSettled (with_turns w m))
        → (old new last : Emitter) (x : TSimple) (at : Site) (q : ℕ) (a : Mask) (s : State) (c : Conf) (cuts : ℕ → State) → AcceptsSimple w x
        → HasSimple w old new last x at → Enters w (length (draft_of old).code) at.mask.number at.slot.number a s c q
        → ((m : ℕ) → simple (gang_of w) w.frame (calls_of (with_turns w m)) x a s ≡ Stops (cuts m)) → GoesOn w.code c cuts
    simple_goes_on w settled old new last x at q a s c cuts accepts h enters cut =
        let u = then_in w new in
        let n = at.slot.number in
        let piece = simple_in new x at in
        let now = registers w old new last piece (simple_asks x n) h in
        let there = lies_then w old new last piece (simple_asks x n) h in
        let none : w.layout.run ≡ None = ap (λ (l : Layout). l.run) h.rows.layout in
        let own : IsApart u.layout = subst IsApart (sym (layout_is w old new last piece (simple_asks x n) h)) (apart w.layout.rates (rows_of now)) in
        let rows : HasNoRows w.layout = λ i n. ap (λ (l : Layout). l.is_row i n) h.rows.layout in
        let unset : SetsNone w.layout = λ rs. ap (λ (l : Layout). l.sets rs) h.rows.layout in
        let nothing : KnowsNothing w.layout = λ v. ap (λ (l : Layout). l.known v) h.rows.layout in
        let sure : ((m : ℕ) → IsSettled (with_turns u m)) = λ m. settled_with (with_turns w m) (loaded_then new) none rows unset nothing own (settled m) in
        let rates = (sure 0).rates in
        go u sure x (length old.body.code.items) (length old.body.places.items) at.mask.number n q a s c cuts
        (simple_fits u rates old new now x at accepts there) (simple_stands u rates old new now x at accepts there)
        (simple_places_stand u rates old new now x at accepts there)
        (enters_with w (loaded_then new) (length old.body.code.items) at.mask.number n a s c q enters) cut

pub written_runs : LayoutsAreApart → ExprRuns → SimpleRuns → WrittenRuns
written_runs apart exprs simples = record { exprs = expr_runs apart exprs; simples = simple_runs apart simples }

pub written_goes_on : LayoutsAreApart → ExprGoesOn → SimpleGoesOn → WrittenGoesOn
written_goes_on apart exprs simples = record { exprs = expr_goes_on apart exprs; simples = simple_goes_on apart simples }
