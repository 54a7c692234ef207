-- Values in a row are held, and a function of the library leaves its value.
use Rattle.std.proofs.Common.{◌≡◌, ℕ, ◌+◌, ◌*◌, ◌<◌, ◌≤◌, List, [], ◌∷◌, ◌++◌, length, None, sym, ◌∙◌, subst, arith, length-append}
use Rattle.isp_base.specs.Sets.{Mask}
use Rattle.isp_base.specs.declared.trap.TrapKind.TheVariants.{Divide}
use Rattle.isp_base.specs.declared.types.Elem.{Elem}
use Rattle.isp_base.specs.declared.types.Rate.{Rate}
use Rattle.isp_base.specs.declared.types.Span.{Span}
use Rattle.isp_code.specs.Calls.{no_place}
use Rattle.isp_code.specs.Conf.{Conf}
use Rattle.isp_code.specs.declared.instr.Instr.{Instr}
use Rattle.isp_meaning.specs.State.{State, tick}
use Rattle.isp_meaning.specs.Payloads.{Payload}
use Rattle.isp_meaning.specs.Outcomes.{Val, Gives, Fails, Stops, bind}
use Rattle.isp_meaning.specs.Expressions.{values}
use Rattle.isp_meaning.specs.Loads.{KeepsBy}
use Rattle.isp_base.specs.declared.types.Ty.{Ty}
use Rattle.isp_typed.specs.Typed.{TExpr, t_library}
use Rattle.isp_typed.specs.Typed.{TExprs, type_of}
use Rattle.isp_meaning.specs.Library.{argument, library_value}
use Rattle.isp_typed.specs.Fine.{rates_of as rate_of_all}
use Rattle.isp_typed.specs.Library.{library_type, parts}
use Rattle.isp_typed.specs.declared.library.Library.{Library}
use Rattle.isp_lower_code.specs.Callees.{later, next_rate}
use Rattle.isp_lower_code.specs.Library.{library_code, library_rates}
use Rattle.isp_lower_code.specs.Setting.{Setting, IsSettled, gang_of, calls_of, AreAt, At, Stands, Holds, Spares}
use Rattle.isp_lower_code.specs.Runs.{Comes, Enters, Runs}
use Rattle.isp_lower_code.specs.Code.{values_code, value_registers}
use Rattle.isp_lower_code.specs.Found.{operand}
use Rattle.isp_lower_code.specs.Spans.{values_places}
use Rattle.isp_lower_code.proofs.Base.{are_front, are_back, comes_on, spares_less, spares_on}
use Rattle.isp_lower_code.proofs.Lines.{set_at}
use Rattle.isp_lower_code.proofs.Combine.{set_comes, set_goes, set_masks, set_spares, set_stands}
use Rattle.isp_lower_code.proofs.Found.{operand_low}
use Rattle.isp_lower_code.proofs.Targets.{Target, target, Leaves, bind_leaves, write_sure}
use Rattle.isp_lower_code.proofs.Nodes.{enters_part}
use Rattle.isp_lower_code.proofs.InRow.{AllHold, EachFrom, HoldFrom, IsAway, TypedFrom, enough, hold_from, others_away, registers_count, typed_from}
use Rattle.isp_lower_code.proofs.Kept.{kept_of, held_kept}
use Rattle.isp_lower_code.proofs.LibraryLines.{Makes, library_makes}
use Rattle.isp_lower_code.proofs.LibraryTypes.{part_elems}
use Rattle.isp_lower_code.proofs.Parts.{ExprParts, OperandFits, ValuesParts}
use Rattle.isp_lower_code.specs.Tables.{IsTyped}
use Rattle.isp_lower_code.proofs.PlainNodes.{NodeRuns}

module _ (w : Setting) (ready : IsSettled w) where
  -- ---- values in a row

  -- the rest of the values, once the first is held
  pub held_both : (rs : List Rate) (x : TExpr) (regs : List ℕ) (n pc q : ℕ) (a : Mask) (m : Payload) (s : State) (c : Conf) (v : Val (List Payload))
      → OperandFits w (next_rate rs) (type_of x).elem x n → ExprParts w x n → Stands w s c → KeepsBy w.layout.loaded s v
      → Holds (next_rate rs) a (operand w.layout (next_rate rs) x n) m c → Runs w c pc (n + 1) q (λ ms c'. AllHold (later rs) a regs ms c') v
      → Runs w c pc n q (λ ms c'. AllHold rs a (operand w.layout (next_rate rs) x n ∷ regs) ms c') (bind v (λ ms s1. Gives (m ∷ ms) s1))
  held_both rs x regs n pc q a m s c (Gives ms s1) fit parts st k h r = record {
    conf = r.conf;
    steps = r.steps;
    comes = r.comes;
    at = r.at;
    stands = r.stands;
    spares = spares_less w n (n + 1) c r.conf (omega arith) r.spares;
    masks = λ j lt. r.masks j (omega arith);
    holds = (h ∙ sym (held_kept w (next_rate rs) (n + 1) c r.conf a (operand w.layout (next_rate rs) x n) (kept_of w (n + 1) c r.conf s s1 st r.stands k r.spares) (operand_low w ready (next_rate rs) (type_of x).elem x n fit parts)), r.holds);
    bound = r.bound;
  }
  held_both rs x regs n pc q a m s c (Fails p s1) fit parts st k h r = r
  held_both rs x regs n pc q a m s c (Stops s1) fit parts st k h r = r

  abbrev pub ValuesRun : TExprs → Type 0
  ValuesRun xs =
      (rs : List Rate) (pc p k n q rest : ℕ) (a : Mask) (s : State) (c : Conf) → ValuesParts w rs xs n
      → AreAt w.routine.code pc (values_code w.layout rs xs pc p k n) → AreAt w.code.places p (values_places w.layout xs) → rest ≤ q
      → Enters w pc k n a s c q → Runs w c (pc + length (values_code w.layout rs xs pc p k n)) n rest
      (λ ms c'. AllHold rs a (value_registers w.layout rs xs n) ms c') (values (gang_of w) w.frame (calls_of w) xs a s)

  -- ---- the library

  -- one or two instructions that leave a value
  made_leaves : (u : Target) (c c1 : Conf) (t pc n q : ℕ) (a : Mask) (s : State) (r : Rate) (e : Elem) (m : Payload) (is : List Instr)
      → Comes w c t c1 → At w c1 pc → AreAt w.routine.code pc is → Stands w s c1 → Spares w n c c1 → ((r : ℕ) → r < n → c1.masks r ≡ c.masks r)
      → t + 2 + q ≤ 32 * s.work → Makes w.code w.routine r (target w.layout u r e n) (w.layout.spare r e n) a m c1 is
      → Leaves w u (target w.layout u r e n) c (pc + length is) n q r a (Gives m s)
  made_leaves u c c1 t pc n q a s r e m [] h at has st ke ma le made = absurd made.steps
  made_leaves u c c1 t pc n q a s r e m (i ∷ []) h at has st ke ma le made =
      write_sure w ready u c c1 t pc _ n q a s i r e None Divide no_place m made.value h at (omega arith) has.0 st ke ma (omega (arith, le)) made.same made.filled made.steps
  made_leaves u c c1 t pc n q a s r e m (i ∷ j ∷ []) h at has st ke ma le made =
      let z = made.steps.0 in
      let d = w.layout.spare r e n in
      let c2 = set_at r c1 d z in
      write_sure w ready u c c2 (t + 1) (pc + 1) _ n q a s j r e None Divide no_place m made.value
      (comes_on w c c1 c2 t 1 h (set_comes w ready r c1 d z pc i at has.0 made.steps.1)) (set_goes w ready r c1 d z pc at) (omega arith) has.1.0
      (set_stands w ready r c1 e n z s st) (spares_on w n c c1 c2 ke (set_spares w ready r c1 e n n z (omega arith)))
      (λ g lt. set_masks w ready r c1 d z g ∙ ma g lt) (omega (arith, le)) made.same made.filled made.steps.2
  made_leaves u c c1 t pc n q a s r e m (i ∷ j ∷ g ∷ is) h at has st ke ma le made = absurd made.steps

  pub library_node : (u : Target) (f : Library) (e : Elem) (xs : TExprs) (t : Ty) (sp : Span) → ValuesRun xs → NodeRuns w ready u (t_library f e xs t sp)
  library_node u f e xs t sp ih pc p k n q rest a s c fit ty has places le b =
      let rs = library_rates f t.rate in
      let regs = value_registers w.layout rs xs n in
      let d = target w.layout u t.rate t.elem n in
      let cv = values_code w.layout rs xs pc p k n in
      let cl = library_code f t.rate d (w.layout.spare t.rate t.elem n) regs k in
      let to : pc + length cv + length cl ≡ pc + length (cv ++ cl) = omega (arith, length-append cv cl) in
      let most = enough f e xs t t.rate fit.0 in
      let typed : TypedFrom w rs (part_elems e (parts f)) regs = subst (λ es. TypedFrom w rs es regs) fit.0.elems (typed_from w ready rs xs n most fit.2) in
      bind_leaves w ready u d c (pc + length cv) n 2 rest (λ ms c'. AllHold rs a regs ms c') (values (gang_of w) w.frame (calls_of w) xs a (tick s)) _ (pc + length (cv ++ cl)) n t.rate a
      (ih rs pc p k n (32 + q) (2 + rest) a (tick s) c fit.2 (are_front w.routine.code pc cv cl has) places (omega (arith, le)) (enters_part w ready pc k n (32 + q) q a s c (omega arith) b))
      (λ ms s1 ok.
      let v = library_value (gang_of w) e a f (argument ms 0) (argument ms 1) (argument ms 2) in
      subst (λ g. Leaves w u d c g n rest t.rate a (Gives v s1)) to
      (made_leaves u c ok.conf ok.steps (pc + length cv) n rest a s1 t.rate t.elem v cl ok.comes ok.at (are_back w.routine.code pc cv cl has) ok.stands ok.spares ok.masks (omega (arith, ok.bound))
      (made f e (rate_of_all xs) t d regs ms ok.conf fit.0.gives (ok.masks k b.low ∙ b.mask) ty fit.1 typed (others_away w ready rs xs n most fit.2) (hold_from rs a regs ms ok.conf (omega (arith, most, registers_count w rs xs n)) ok.holds))))
    where
      made : (f : Library) (e : Elem) (r : Rate) (t : Ty) (d : ℕ) (regs : List ℕ) (ms : List Payload) (c : Conf) → t ≡ library_type f e r
          → c.masks k ≡ a → IsTyped w t.rate d t.elem → IsTyped w t.rate (w.layout.spare t.rate t.elem n) t.elem
          → TypedFrom w (library_rates f t.rate) (part_elems e (parts f)) regs
          → EachFrom (λ j q x. IsAway w n q x) (later (library_rates f t.rate)) 1 regs → HoldFrom (library_rates f t.rate) a regs ms c
          → Makes w.code w.routine t.rate d (w.layout.spare t.rate t.elem n) a
          (library_value (gang_of w) e a f (argument ms 0) (argument ms 1) (argument ms 2)) c
          (library_code f t.rate d (w.layout.spare t.rate t.elem n) regs k)
      made f e r t d regs ms c et em td ts tx away h =
          subst (λ t. IsTyped w t.rate d t.elem → IsTyped w t.rate (w.layout.spare t.rate t.elem n) t.elem
          → TypedFrom w (library_rates f t.rate) (part_elems e (parts f)) regs
          → EachFrom (λ j q x. IsAway w n q x) (later (library_rates f t.rate)) 1 regs → HoldFrom (library_rates f t.rate) a regs ms c
          → Makes w.code w.routine t.rate d (w.layout.spare t.rate t.elem n) a
          (library_value (gang_of w) e a f (argument ms 0) (argument ms 1) (argument ms 2)) c
          (library_code f t.rate d (w.layout.spare t.rate t.elem n) regs k)) (sym et)
          (library_makes w ready a k (λ q u. w.layout.spare q u n) f e r d regs ms c em) td ts tx away h
