-- What facts that pass say is so wherever a run by forms stands.
use Rattle.std.proofs.Common.{◌≡◌, ℕ, zero, suc, ◌+◌, ◌<◌, ◌≤◌, List, [], ◌∷◌, Option, Some, None, Bool, true, false, not, ◌&&◌, ◌⊎◌, inl, inr, refl, sym, ap, ◌∙◌, subst, arith, Contains}
use Rattle.std.proofs.lemmas.Bool.{and_parts, ltb-true, leb-true, lt-ltb, le-leb, cases_lt}
use Rattle.std.specs.Prelude.{slice_get, slice_index_or, if◌then◌else◌, nat_eq, nat_lt, nat_le}
use Rattle.isp_base.specs.Depths.{most_calls}
use Rattle.isp_base.specs.Maps.{Lanes, on, over}
use Rattle.isp_base.specs.Sets.{Mask}
use Rattle.isp_base.specs.Types.{gang_width}
use Rattle.isp_base.specs.declared.signature.Argument.{Argument}
use Rattle.isp_base.specs.declared.trap.Trap.{Trap}
use Rattle.isp_code.specs.Calls.{waits, called, depth, entered, left, resumed, with_result, put_result}
use Rattle.isp_code.specs.Conf.{Conf, Frame, Move, Go, Say, Fail, Over, State, Runs, Trapped, Ended}
use Rattle.isp_code.specs.Lines.{act, next, set_vector}
use Rattle.isp_code.specs.Listing.{Listing, Routine}
use Rattle.isp_code.specs.Machine.{advance, arrive, step, act_in, act_at, first_conf}
use Rattle.isp_code.specs.Registers.{same_class}
use Rattle.isp_code.specs.declared.instr.Call.{Call}
use Rattle.isp_code.specs.declared.instr.Instr.{Instr}
use Rattle.isp_code.specs.declared.instr.Instr.TheVariants as instr
use Rattle.isp_code.specs.declared.instr.Plain.{Plain}
use Rattle.isp_code.specs.declared.instr.VectorInstr.{VectorInstr}
use Rattle.isp_code.specs.declared.instr.VectorInstr.TheVariants as vector
use Rattle.isp_code.specs.declared.register.Class.{Class}
use Rattle.isp_code.specs.declared.register.Class.TheVariants as class
use Rattle.isp_code.specs.declared.register.Register.{Register}
use Rattle.isp_forms.specs.Runs.{forgotten, computed_by, Forgets, Skips, Takes, TakesFree, IsStep, IsRun}
use Rattle.isp_forms.specs.Tables.{form_or_kept, forms_in}
use Rattle.isp_forms.specs.Writes.{mask_under}
use Rattle.isp_forms.specs.declared.form.Form.{Form}
use Rattle.isp_forms.specs.declared.form.Form.TheVariants.{KeptBy, FreeBy}
use Rattle.isp_constants.specs.Amounts.{AmountsHold}
use Rattle.isp_constants.specs.declared.fact.Fact.{Fact}
use Rattle.isp_constants.specs.declared.fact.Known.{Known}
use Rattle.isp_constants.specs.declared.fact.Known.TheVariants as known
use Rattle.isp_constants.specs.reader.Passing.{facts_at, is_in, writes, enters, breaks, fills_scalar, fills_vector, settles_at, settles_by, is_kept, form_passes, tells, functions_pass}
use Rattle.isp_constants.proofs.Lists.{put_kept}
use Rattle.isp_constants.proofs.Moves.{Keeps, GoesOn, MovesOn, moves_on, vector_on}
use Rattle.isp_constants.proofs.Passed.{line_kept, line_settles, never_broken, amount_passes}
use Rattle.isp_constants.proofs.Settled.{IsSo, AreSo, IsSoIn, SoThen, told_so, settled_so}

-- a result is put into the register of which something is known
abbrev fills : Option Register → Known → Bool
fills o (known.Scalar r b) = fills_scalar o r
fills o (known.Vector r b) = fills_vector o r
fills o (known.Full k) = false

call_fills : (k : Call) (y : Known) → writes (instr.Call k) y ≡ false → fills k.result y ≡ false
call_fills k (known.Scalar r b) e = e
call_fills k (known.Vector r b) e = e
call_fills k (known.Full j) e = refl

-- the range of a fact begins after its line
line_is : (x : Fact) (pc : ℕ) → is_in x (pc + 1) ≡ true → is_in x pc ≡ false → x.line ≡ pc
line_is x pc after before = by (cases_lt x.line pc)
  where
    parts : (nat_lt x.line (pc + 1) ≡ true) × (nat_le (pc + 1) x.last ≡ true)
    parts = and_parts (nat_lt x.line (pc + 1)) (nat_le (pc + 1) x.last) after

    from : x.line < pc + 1
    from = ltb-true x.line (pc + 1) parts.0

    by : (x.line < pc) ⊎ (pc ≤ x.line) → x.line ≡ pc
    by (inl l) =
        let to : pc ≤ x.last = (let u : pc + 1 ≤ x.last = leb-true (pc + 1) x.last parts.1 in omega arith) in
        let bad : is_in x pc ≡ true = rw (lt-ltb x.line pc l) (le-leb pc x.last to) in
        absurd cc
    by (inr l) = omega (arith, from)

never_first : (x : Fact) → is_in x 0 ≡ true → ⊥
never_first x e = let l : x.line < 0 = ltb-true x.line 0 (and_parts (nat_lt x.line 0) (nat_le 0 x.last) e).0 in omega arith

module _ (lists : List (List Fact)) (tables : List (List Form)) (code : Listing) where
  -- of a call that waits, the registers that its result may be put into are not among those of which something is known
  abbrev FrameSo : Frame → Type 0
  FrameSo fr = (x : Fact) → Contains (facts_at lists fr.home.fn) x → is_in x fr.pc ≡ true → IsSo (gang_width code.gang) x.known fr.scalars fr.vectors fr.masks × (fills fr.result x.known ≡ false)

  abbrev AllWaitSo : List Frame → Type 0
  AllWaitSo [] = Unit {0}
  AllWaitSo (fr ∷ rest) = FrameSo fr × AllWaitSo rest

  record Holds (c : Conf) : Type 0 where
    told : AreSo (gang_width code.gang) (facts_at lists c.home.fn) c.pc c.scalars c.vectors c.masks
    waiting : AllWaitSo c.waiting

  abbrev MoveHolds : Move → Type 0
  MoveHolds (Go c1) = Holds c1
  MoveHolds (Say text c1) = Holds c1
  MoveHolds (Fail t) = Unit {0}
  MoveHolds (Over x) = Unit {0}

  abbrev StateHolds : State → Type 0
  StateHolds (Runs c) = Holds c
  StateHolds (Trapped t c) = Unit {0}
  StateHolds (Ended x c) = Unit {0}

  keeps_so : (h : Routine) (c c1 : Conf) (i : Instr) → Keeps code h c i c1 → (k : Known) → writes i k ≡ false → IsSo (gang_width code.gang) k c.scalars c.vectors c.masks → IsSo (gang_width code.gang) k c1.scalars c1.vectors c1.masks
  keeps_so h c c1 i keeps (known.Scalar r b) e so = keeps.scalars r e ∙ so
  keeps_so h c c1 i keeps (known.Vector r b) e so = λ p inside. ap (λ f. f p) (keeps.vectors r e) ∙ so p inside
  keeps_so h c c1 i keeps (known.Full k) e so = λ p inside. ap (λ f. f p) (keeps.masks k e) ∙ so p inside

  -- a result
  put_so : (z : Class) (c : Conf) (d x : Register) (under : Mask) (b : Conf) → d.class ≡ z → (k : Known) → fills (Some d) k ≡ false
      → IsSo (gang_width code.gang) k b.scalars b.vectors b.masks → IsSoIn code k (put_result z c d x under b)
  put_so class.Vector c d x under b e (known.Vector r n) f so =
      let other : nat_eq r d.number ≡ false = subst (λ u. (same_class u class.Vector && nat_eq r d.number) ≡ false) e f in
      λ p inside. ap (λ v. v p) (put_kept b.vectors d.number (over (on under (c.vectors x.number)) (b.vectors d.number)) r other) ∙ so p inside
  put_so class.Vector c d x under b e (known.Scalar r n) f so = so
  put_so class.Vector c d x under b e (known.Full k) f so = so
  put_so class.Scalar c d x under b e (known.Scalar r n) f so = put_kept b.scalars d.number (c.scalars x.number) r (subst (λ u. (not (same_class u class.Vector) && nat_eq r d.number) ≡ false) e f) ∙ so
  put_so class.Scalar c d x under b e (known.Vector r n) f so = so
  put_so class.Scalar c d x under b e (known.Full k) f so = so
  put_so class.Mask c d x under b e (known.Scalar r n) f so = put_kept b.scalars d.number (c.scalars x.number) r (subst (λ u. (not (same_class u class.Vector) && nat_eq r d.number) ≡ false) e f) ∙ so
  put_so class.Mask c d x under b e (known.Vector r n) f so = so
  put_so class.Mask c d x under b e (known.Full k) f so = so
  put_so class.Array c d x under b e (known.Scalar r n) f so = put_kept b.scalars d.number (c.scalars x.number) r (subst (λ u. (not (same_class u class.Vector) && nat_eq r d.number) ≡ false) e f) ∙ so
  put_so class.Array c d x under b e (known.Vector r n) f so = so
  put_so class.Array c d x under b e (known.Full k) f so = so

  -- back in a call that waited
  back_told : (z : Class) (c : Conf) (fr : Frame) (rest : List Frame) (d x : Register) → fr.result ≡ Some d → d.class ≡ z → FrameSo fr → AllWaitSo rest → Holds (put_result z c d x fr.under (resumed c fr rest))
  back_told class.Vector c fr rest d x is e so others = record { told = λ y has inside. put_so class.Vector c d x fr.under (resumed c fr rest) e y.known (subst (λ o. fills o y.known ≡ false) is (so y has inside).1) (so y has inside).0; waiting = others }
  back_told class.Scalar c fr rest d x is e so others = record { told = λ y has inside. put_so class.Scalar c d x fr.under (resumed c fr rest) e y.known (subst (λ o. fills o y.known ≡ false) is (so y has inside).1) (so y has inside).0; waiting = others }
  back_told class.Mask c fr rest d x is e so others = record { told = λ y has inside. put_so class.Mask c d x fr.under (resumed c fr rest) e y.known (subst (λ o. fills o y.known ≡ false) is (so y has inside).1) (so y has inside).0; waiting = others }
  back_told class.Array c fr rest d x is e so others = record { told = λ y has inside. put_so class.Array c d x fr.under (resumed c fr rest) e y.known (subst (λ o. fills o y.known ≡ false) is (so y has inside).1) (so y has inside).0; waiting = others }

  back : (o x : Option Register) (c : Conf) (fr : Frame) (rest : List Frame) → fr.result ≡ o → FrameSo fr → AllWaitSo rest → Holds (with_result c o x fr.under (resumed c fr rest))
  back (Some d) (Some x) c fr rest is so others = back_told d.class c fr rest d x is refl so others
  back (Some d) None c fr rest is so others = record { told = λ y has inside. (so y has inside).0; waiting = others }
  back None x c fr rest is so others = record { told = λ y has inside. (so y has inside).0; waiting = others }

  left_holds : (h : Routine) (c : Conf) (x : Option Register) (ws : List Frame) → AllWaitSo ws → MoveHolds (left h c x ws)
  left_holds h c x [] all = tt
  left_holds h c x (fr ∷ rest) all = back fr.result x c fr rest refl all.0 all.1

  arrives : (mv : Move) (c : Conf) → MoveHolds mv → StateHolds (arrive code mv c)
  arrives (Go c1) c holds = record { told = holds.told; waiting = holds.waiting }
  arrives (Say text c1) c holds = record { told = holds.told; waiting = holds.waiting }
  arrives (Fail t) c holds = tt
  arrives (Over x) c holds = tt

  module _ (pass : functions_pass lists tables 0 code.routines ≡ true) where
    module _ (c : Conf) (holds : Holds c) (h : Routine) (found : slice_get code.routines c.home.fn ≡ Some h) (i : Instr) (at : slice_get h.code c.pc ≡ Some i) where
      abbrev facts : List Fact
      facts = facts_at lists c.home.fn

      abbrev forms : List Form
      forms = slice_index_or tables c.home.fn []

      -- by this instruction something is known, if it is kept
      abbrev Settles : Known → Type 0
      Settles k = (settles_by (facts_at lists c.home.fn) (slice_index_or tables c.home.fn []) h c.pc i k ≡ true)
          × (is_kept (facts_at lists c.home.fn) (slice_index_or tables c.home.fn []) h (form_or_kept (slice_index_or tables c.home.fn []) c.pc) ≡ true)

      settles_here : (x : Fact) → Contains (facts_at lists c.home.fn) x → x.line ≡ c.pc → Settles x.known
      settles_here x has e = (
        subst (λ o. settles_at facts forms h o (record x { line = c.pc }) ≡ true) at (subst (λ n. settles_at facts forms h (slice_get h.code n) (record x { line = n }) ≡ true) e (line_settles lists tables code pass c.home.fn h found x has)),
        subst (λ n. is_kept facts forms h (form_or_kept forms n) ≡ true) e (line_kept lists tables code pass c.home.fn h found x has),
      )

      -- what is known after it was so, and is not written, or is made so
      known_next : (x : Fact) → Contains (facts_at lists c.home.fn) x → is_in x (c.pc + 1) ≡ true → ((is_in x c.pc ≡ true) × (writes i x.known ≡ false)) ⊎ Settles x.known
      known_next x has after = by (is_in x c.pc) refl
        where
          by : (b : Bool) → is_in x c.pc ≡ b → ((is_in x c.pc ≡ true) × (writes i x.known ≡ false)) ⊎ Settles x.known
          by true e = inl (e, subst (λ b. (if b then writes i x.known else enters i x) ≡ false) e (never_broken lists tables code pass c.home.fn h found x has c.pc i at))
          by false e = inr (settles_here x has (line_is x c.pc after e))

      -- where a jump leads it was so
      known_there : (x : Fact) → Contains (facts_at lists c.home.fn) x → enters i x ≡ true → (is_in x c.pc ≡ true) × (writes i x.known ≡ false)
      known_there x has comes = by (is_in x c.pc) refl
        where
          kept : breaks x c.pc i ≡ false
          kept = never_broken lists tables code pass c.home.fn h found x has c.pc i at

          by : (b : Bool) → is_in x c.pc ≡ b → (is_in x c.pc ≡ true) × (writes i x.known ≡ false)
          by true e = (e, subst (λ b. (if b then writes i x.known else enters i x) ≡ false) e kept)
          by false e = let no : enters i x ≡ false = subst (λ b. (if b then writes i x.known else enters i x) ≡ false) e kept in absurd cc

      inner_holds : (c1 : Conf) → GoesOn code h c i c1 → ((k : Known) → Settles k → IsSoIn code k c1) → Holds c1
      inner_holds c1 goes made =
          record {
            told = subst (λ m. AreSo (gang_width code.gang) (facts_at lists m.fn) c1.pc c1.scalars c1.vectors c1.masks) (sym goes.home_is) told;
            waiting = subst AllWaitSo (sym goes.waiting_is) holds.waiting;
          }
        where
          was : (x : Fact) → Contains (facts_at lists c.home.fn) x → (is_in x c.pc ≡ true) × (writes i x.known ≡ false) → IsSoIn code x.known c1
          was x has e = keeps_so h c c1 i goes.keeps x.known e.1 (holds.told x has e.0)

          told : AreSo (gang_width code.gang) (facts_at lists c.home.fn) c1.pc c1.scalars c1.vectors c1.masks
          told x has inside =
              elim goes.goes [
                | inl e ↦ (elim (known_next x has (subst (λ n. is_in x n ≡ true) e inside)) [ inl w ↦ was x has w | inr s ↦ made x.known s ])
                | inr j ↦ was x has (known_there x has (j x inside))
              ]

      move_holds : (mv : Move) → MovesOn code h c i mv → ((k : Known) → Settles k → SoThen code k mv) → MoveHolds mv
      move_holds (Go c1) goes made = inner_holds c1 goes made
      move_holds (Say text c1) goes made = inner_holds c1 goes made
      move_holds (Fail t) goes made = tt
      move_holds (Over x) goes made = tt

      -- where it is not kept, by it nothing is known
      free_holds : is_kept (facts_at lists c.home.fn) (slice_index_or tables c.home.fn []) h (forms_in tables c.home.fn c.pc) ≡ false → (c1 : Conf) → GoesOn code h c i c1 → Holds c1
      free_holds free c1 goes = inner_holds c1 goes (λ k s. absurd (let bad : true ≡ false = sym s.1 ∙ free in cc))

    -- a call that begins
    called_holds : (c : Conf) (holds : Holds c) (h : Routine) (found : slice_get code.routines c.home.fn ≡ Some h) (k : Call) (at : slice_get h.code c.pc ≡ Some (instr.Call k)) (g : Routine) → Holds (called c k g)
    called_holds c holds h found k at g = record { told = λ x has inside. absurd (never_first x inside); waiting = (waits_so, holds.waiting) }
      where
        waits_so : FrameSo (waits c k.result (c.masks k.mask.number))
        waits_so x has inside = elim (known_next c holds h found (instr.Call k) at x has inside) [ inl w ↦ (holds.told x has w.0, call_fills k x.known w.1) | inr s ↦ (let bad : false ≡ true = s.0 in absurd cc) ]

    entered_holds : (c : Conf) (holds : Holds c) (h : Routine) (found : slice_get code.routines c.home.fn ≡ Some h) (k : Call) (at : slice_get h.code c.pc ≡ Some (instr.Call k)) (o : Option Routine) → MoveHolds (entered code c k o)
    entered_holds c holds h found k at None = tt
    entered_holds c holds h found k at (Some g) = by (nat_lt (depth c) most_calls) _
      where
        by : (b : Bool) (t : Trap) → MoveHolds (if b then Go (called c k g) else Fail t)
        by true t = called_holds c holds h found k at g
        by false t = tt

    act_holds : (c : Conf) → Holds c → (h : Routine) → slice_get code.routines c.home.fn ≡ Some h → (i : Instr) → slice_get h.code c.pc ≡ Some i → MoveHolds (act code h c i)
    act_holds c holds h found (instr.Call k) at = entered_holds c holds h found k at (slice_get code.routines k.function)
    act_holds c holds h found (instr.Return x) at = left_holds h c x c.waiting holds.waiting
    act_holds c holds h found i at = move_holds c holds h found i at (act code h c i) (moves_on code h c i tt) (λ k s. settled_so code h c (facts_at lists c.home.fn) (slice_index_or tables c.home.fn []) holds.told i k s.0)

    line_holds : (c : Conf) → Holds c → (h : Routine) → slice_get code.routines c.home.fn ≡ Some h → (o : Option Instr) → slice_get h.code c.pc ≡ o → MoveHolds (act_at code h c o)
    line_holds c holds h found None at = tt
    line_holds c holds h found (Some i) at = act_holds c holds h found i at

    function_holds : (c : Conf) → Holds c → (o : Option Routine) → slice_get code.routines c.home.fn ≡ o → MoveHolds (act_in code c o)
    function_holds c holds None found = tt
    function_holds c holds (Some h) found = line_holds c holds h found (slice_get h.code c.pc) refl

    advance_holds : (s : State) → StateHolds s → StateHolds (advance code s)
    advance_holds (Runs c) holds = arrives (step code c) c (function_holds c holds (slice_get code.routines c.home.fn) refl)
    advance_holds (Trapped t c) holds = tt
    advance_holds (Ended x c) holds = tt

    -- ---- steps that forms allow

    module _ (h : Routine) (c : Conf) (d : Register) (i : VectorInstr) where
      forgotten_on : (done : Conf) → GoesOn code h c (instr.Vector d i) done → (set : Mask) (old : Lanes) → GoesOn code h c (instr.Vector d i) (forgotten done d.number set old)
      forgotten_on done goes set old =
          record {
            home_is = goes.home_is;
            waiting_is = goes.waiting_is;
            goes = goes.goes;
            keeps = record { scalars = goes.keeps.scalars; vectors = λ r e. put_kept done.vectors d.number (λ p. if set p then done.vectors d.number p else old p) r e ∙ goes.keeps.vectors r e; masks = goes.keeps.masks };
          }

      skipped_on : GoesOn code h c (instr.Vector d i) (next c)
      skipped_on = record { home_is = refl; waiting_is = refl; goes = inl refl; keeps = record { scalars = λ r e. refl; vectors = λ r e. refl; masks = λ r e. refl } }

    module _ (c : Conf) (holds : Holds c) (t : State) where
      forgets : Forgets code (forms_in tables) c t → StateHolds t
      forgets f =
          let i : Instr = instr.Vector f.vector f.what in
          let goes = subst (MovesOn code f.routine c i) f.goes (moves_on code f.routine c i tt) in
          subst StateHolds f.is (arrives (Go (forgotten f.done f.vector.number (c.masks (mask_under f.what).number) f.old)) c
          (free_holds c holds f.routine f.before.found i f.before.here (ap (is_kept (facts_at lists c.home.fn) (slice_index_or tables c.home.fn []) f.routine) f.before.form_is) (forgotten f.done f.vector.number (c.masks (mask_under f.what).number) f.old)
          (forgotten_on f.routine c f.vector f.what f.done goes (c.masks (mask_under f.what).number) f.old)))

      skips : Skips code (forms_in tables) c t → StateHolds t
      skips f =
          subst StateHolds f.is (free_holds c holds f.routine f.before.found (instr.Vector f.vector f.what) f.before.here (ap (is_kept (facts_at lists c.home.fn) (slice_index_or tables c.home.fn []) f.routine) f.before.form_is) (next c) (skipped_on f.routine c f.vector f.what))

      takes : Takes code (forms_in tables) c t → StateHolds t
      takes f =
          let k = f.at in
          let i : Instr = instr.Vector k.vector (vector.Binary k.operator k.left k.right k.mask) in
          let x = computed_by k.routine c k.vector k.operator k.left k.mask k.amount in
          subst StateHolds f.is (arrives (Go (set_vector c k.vector x)) c
          (free_holds c holds k.routine k.before.found i k.before.here (ap (is_kept (facts_at lists c.home.fn) (slice_index_or tables c.home.fn []) k.routine) k.before.form_is) (set_vector c k.vector x) (vector_on code k.routine c i k.vector (λ r e. e) x)))

      takes_free : TakesFree code (forms_in tables) c t → StateHolds t
      takes_free f =
          let k = f.at in
          let b : VectorInstr = vector.Binary k.operator k.left k.right k.mask in
          let i : Instr = instr.Vector k.vector b in
          let x = computed_by k.routine c k.vector k.operator k.left k.mask k.amount in
          subst StateHolds f.is (arrives (Go (forgotten (set_vector c k.vector x) k.vector.number (c.masks k.mask.number) f.old)) c
          (free_holds c holds k.routine k.before.found i k.before.here (ap (is_kept (facts_at lists c.home.fn) (slice_index_or tables c.home.fn []) k.routine) k.before.form_is) (forgotten (set_vector c k.vector x) k.vector.number (c.masks k.mask.number) f.old)
          (forgotten_on k.routine c k.vector b (set_vector c k.vector x) (vector_on code k.routine c i k.vector (λ r e. e) x) (c.masks k.mask.number) f.old)))

    step_holds : (s t : State) → StateHolds s → IsStep code (forms_in tables) s t → StateHolds t
    step_holds s t holds (inl e) = subst StateHolds e (advance_holds s holds)
    step_holds (Runs c) t holds (inr (inl f)) = forgets c holds t f
    step_holds (Runs c) t holds (inr (inr (inl f))) = skips c holds t f
    step_holds (Runs c) t holds (inr (inr (inr (inl f)))) = takes c holds t f
    step_holds (Runs c) t holds (inr (inr (inr (inr f)))) = takes_free c holds t f
    step_holds (Trapped x c) t holds (inr f) = absurd f
    step_holds (Ended x c) t holds (inr f) = absurd f

    run_holds : (m : ℕ) (s t : State) → StateHolds s → IsRun code (forms_in tables) m s t → StateHolds t
    run_holds zero s t holds e = subst StateHolds e holds
    run_holds (suc m) s t holds r = step_holds r.0 t (run_holds m s r.0 holds r.1) r.2

    stands : (f : ℕ) (h : Routine) (xs : List Argument) (m : ℕ) (c : Conf) → IsRun code (forms_in tables) m (Runs (first_conf code f h xs)) (Runs c) → Holds c
    stands f h xs m c run = run_holds m (Runs (first_conf code f h xs)) (Runs c) (record { told = λ x has inside. absurd (never_first x inside); waiting = tt }) run

    -- ---- an operand that a form tells

    module _ (c : Conf) (holds : Holds c) (h : Routine) (found : slice_get code.routines c.home.fn ≡ Some h) (d x y k : Register) (o : Plain) (b : ℕ) (here : slice_get h.code c.pc ≡ Some (instr.Vector d (vector.Binary o x y k))) where
      abbrev Passes : Form → Type 0
      Passes form = form_passes (facts_at lists c.home.fn) (slice_index_or tables c.home.fn []) h c.pc (instr.Vector d (vector.Binary o x y k)) form ≡ true

      passes : Passes (forms_in tables c.home.fn c.pc)
      passes = amount_passes lists tables code pass c.home.fn h found c.pc (instr.Vector d (vector.Binary o x y k)) here

      is_amount : tells (facts_at lists c.home.fn) c.pc (known.Vector y.number b) ≡ true → (p : ℕ) → p < gang_width code.gang → c.vectors y.number p ≡ b
      is_amount e = told_so (gang_width code.gang) (facts_at lists c.home.fn) c.pc c.scalars c.vectors c.masks holds.told (known.Vector y.number b) e

      kept_amount : forms_in tables c.home.fn c.pc ≡ KeptBy b → (p : ℕ) → p < gang_width code.gang → c.vectors y.number p ≡ b
      kept_amount e = is_amount (subst Passes e passes)

      free_amount : forms_in tables c.home.fn c.pc ≡ FreeBy b → (p : ℕ) → p < gang_width code.gang → c.vectors y.number p ≡ b
      free_amount e = is_amount (subst Passes e passes)

    pub amounts_hold : AmountsHold code (forms_in tables)
    amounts_hold =
        record {
          kept = λ f h xs found m c run k. kept_amount c (stands f h xs m c run) k.routine k.before.found k.vector k.left k.right k.mask k.operator k.amount k.before.here k.before.form_is;
          free = λ f h xs found m c run k. free_amount c (stands f h xs m c run) k.routine k.before.found k.vector k.left k.right k.mask k.operator k.amount k.before.here k.before.form_is;
        }
