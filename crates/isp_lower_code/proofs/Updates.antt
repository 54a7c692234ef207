-- An operator on what a place holds: where the place has the type that the operator works in, no conversion is needed.
use Rattle.std.proofs.Common.{◌+◌, ◌*◌, ◌%◌, ◌^◌, ◌<◌, ◌≤◌, List, [], ◌∷◌, ◌++◌, length, length-append, arith, ◌≡◌, ℕ, Option, Some, None, refl, sym, ap, ◌∙◌, subst, ℤ}
use Rattle.std.specs.Prelude.{Bool, true, false, if◌then◌else◌}
use Rattle.std.proofs.Math.Path.{fun_ext}
use Rattle.isp_base.specs.Maps.{each1, each2, on}
use Rattle.isp_base.specs.Sets.{Mask}
use Rattle.isp_base.specs.Values.{width, number, wrap, op_bits, outcome_to, convert_bits}
use Rattle.isp_base.specs.declared.operators.BinOp.{BinOp}
use Rattle.isp_base.specs.declared.types.Elem.{Elem}
use Rattle.isp_base.specs.declared.types.Elem.TheVariants.{Bool as Truth, I8, U8, I16, U16, I32, U32, I64, U64}
use Rattle.isp_base.proofs.Laws.{back_is, bits_are}
use Rattle.isp_base.proofs.Wraps.{wrap_to-lt}
use Rattle.isp_meaning.specs.Payloads.{Payload, One, Each, spread, mapped, joined, converted}
use Rattle.isp_base.specs.Access.{is_zero}
use Rattle.isp_base.specs.Sets.{any}
use Rattle.isp_base.specs.declared.trap.TrapKind.{TrapKind}
use Rattle.isp_base.specs.declared.trap.TrapKind.TheVariants.{Divide}
use Rattle.isp_base.specs.declared.types.Rate.{Rate}
use Rattle.isp_base.specs.declared.types.Span.{Span}
use Rattle.isp_base.specs.declared.types.Value.{Value}
use Rattle.isp_code.specs.Calls.{no_place}
use Rattle.isp_code.specs.Conf.{Conf, Go}
use Rattle.isp_code.specs.Registers.{elem_of}
use Rattle.isp_code.specs.declared.instr.Instr.{Instr}
use Rattle.isp_meaning.specs.State.{State, tick}
use Rattle.isp_meaning.specs.Payloads.{offender}
use Rattle.isp_meaning.specs.Outcomes.{Val, Gives, Fails, Stops, Done, bind, checked}
use Rattle.isp_base.specs.Ranks.{same_elem}
use Rattle.isp_base.specs.declared.trap.TrapKind.TheVariants.{Index}
use Rattle.isp_base.specs.declared.types.Rate.TheVariants.{Uniform, Varying}
use Rattle.isp_typed.specs.Fine.{heads}
use Rattle.isp_typed.specs.Typed.{TExpr, TPlace, t_variable, t_element, place_type, t_called, TSimple, t_value, t_run, t_assign, t_update, t_step, type_of}
use Rattle.isp_meaning.specs.Places.{Place, variable, written, outside, held, kept}
use Rattle.isp_meaning.specs.Expressions.{place}
use Rattle.isp_meaning.specs.Simple.{simple, update}
use Rattle.isp_lower_code.specs.Runs.{Enters, DoneRuns}
use Rattle.isp_lower_code.specs.Code.{index_code, expr_code}
use Rattle.isp_lower_code.specs.Elements.{access, reached, read_from, write_from}
use Rattle.isp_lower_code.specs.Found.{found, in_vector, kept_found, lifted, lift_code, operand, operand_by, operand_of}
use Rattle.isp_lower_code.specs.Instructions.{constant, convert, operate, operate_places}
use Rattle.isp_lower_code.specs.Known.{unless_kept}
use Rattle.isp_lower_code.specs.Spans.{index_places, expr_places}
use Rattle.isp_lower_code.proofs.Splits.{same_elem-is}
use Rattle.isp_lower_code.proofs.Found.{few, operand_low}
use Rattle.isp_lower_code.proofs.PlainNodes.{means, variable_held}
use Rattle.isp_lower_code.proofs.ElementRuns.{PlaceHolds}
use Rattle.isp_lower_code.proofs.Reached.{access_done, access_leaves}
use Rattle.isp_lower_code.proofs.Exprs.{expr_runs}
use Rattle.isp_lower_code.proofs.Done.{done_after, bind_done, bind_checked}
use Rattle.isp_lower_code.proofs.Places.{place_runs, place_kept}
use Rattle.isp_lower_code.proofs.Assigns.{beyond_more, assign_runs, value_runs}
use Rattle.isp_lower_code.proofs.Alone.{run_runs}
use Rattle.isp_lower_code.proofs.Nodes.{enters_part, enters_later, operand_runs}
use Rattle.isp_lower_code.specs.Layout.{register}
use Rattle.isp_lower_code.specs.Setting.{Setting, IsSettled, gang_of, calls_of, AreAt, At, Stands, at_rate, held_at, Holds, Allowed}
use Rattle.isp_lower_code.specs.Runs.{Runs, Ok}
use Rattle.isp_lower_code.specs.Simple.{update_to, change_code, change_by_code, change_places, one_in, one_code, one_of, step_code, simple_code, simple_places}
use Rattle.isp_lower_code.proofs.Base.{are_front, are_back, at_to, comes_none, moved_by, spares_all, spares_less}
use Rattle.isp_lower_code.proofs.Rates.{at_mapped, at_joined, at_offender, filled_mapped, filled_joined, on_everywhere}
use Rattle.isp_lower_code.proofs.Lines.{set_at, value_at, convert_line, operate_at}
use Rattle.isp_lower_code.proofs.Combine.{write_runs, lift_runs}
use Rattle.isp_lower_code.proofs.Targets.{Target, InSlot, InVariable, target, Leaves, write_sure}
use Rattle.isp_lower_code.proofs.Nodes.{one_runs}
use Rattle.isp_lower_code.proofs.Values.{number_is, wrap_bits}
use Rattle.isp_lower_code.proofs.Kept.{Low, Keeps, low_spare, is_read, runs_kept, kept_same, keeps_on, held_kept, checked_still, value_still}
use Rattle.isp_lower_code.proofs.Parts.{ChangeFits, IsNumber, SimpleParts, SpareFits, WorkFits}
use Rattle.isp_lower_code.specs.Asks.{beyond}
use Rattle.isp_lower_code.specs.Tables.{IsTyped}

plainly : (t : Elem) (z : ℤ) → IsNumber t → convert_bits t z ≡ wrap t z
plainly Truth z n = absurd n
plainly I8 z n = refl
plainly U8 z n = refl
plainly I16 z n = refl
plainly U16 z n = refl
plainly I32 z n = refl
plainly U32 z n = refl
plainly I64 z n = refl
plainly U64 z n = refl

pub same_number : (t : Elem) (b : ℕ) → IsNumber t → number t (converted t t b) ≡ number t b
same_number t b n = ap (number t) (plainly t (number t b) n) ∙ back_is t (number t b) (number_is t b)

-- a value of a type is one of the same type
pub same_op : (o : BinOp) (t : Elem) (b c : ℕ) → IsNumber t → op_bits o t (converted t t b) c ≡ op_bits o t b c
same_op o t b c n = ap (λ z. wrap t (outcome_to (width t) o z (number t c))) (same_number t b n)

pub same_back : (o : BinOp) (t : Elem) (b c : ℕ) → IsNumber t → converted t t (op_bits o t b c) ≡ op_bits o t b c
same_back o t b c n = plainly t (number t (op_bits o t b c)) n ∙ bits_are t (op_bits o t b c) (wrap_to-lt (width t) (outcome_to (width t) o (number t b) (number t c)))

pub joined_same : (f : ℕ → ℕ → ℕ) (g : ℕ → ℕ) (a : Mask) (x y : Payload) → ((b c : ℕ) → f (g b) c ≡ f b c) → joined f a (mapped g x) y ≡ joined f a x y
joined_same f g a (One x) (One y) e = ap One (e x y)
joined_same f g a (One x) (Each y) e = ap Each (fun_ext (λ p. at (a p) (y p)))
  where
    at : (d : Bool) (u : Option ℕ) → each2 f (if d then Some (g x) else None) u ≡ each2 f (if d then Some x else None) u
    at true None = refl
    at true (Some c) = ap Some (e x c)
    at false u = refl
joined_same f g a (Each x) y e = ap Each (fun_ext (λ p. at (x p) (spread a y p)))
  where
    at : (o u : Option ℕ) → each2 f (each1 g o) u ≡ each2 f o u
    at None u = refl
    at (Some b) None = refl
    at (Some b) (Some c) = ap Some (e b c)

pub mapped_same : (f : ℕ → ℕ → ℕ) (g : ℕ → ℕ) (a : Mask) (x y : Payload) → ((b c : ℕ) → g (f b c) ≡ f b c) → mapped g (joined f a x y) ≡ joined f a x y
mapped_same f g a (One x) (One y) e = ap One (e x y)
mapped_same f g a (One x) (Each y) e = ap Each (fun_ext (λ p. at (on a (λ q. x) p) (y p)))
  where
    at : (o u : Option ℕ) → each1 g (each2 f o u) ≡ each2 f o u
    at None u = refl
    at (Some b) None = refl
    at (Some b) (Some c) = ap Some (e b c)
mapped_same f g a (Each x) y e = ap Each (fun_ext (λ p. at (x p) (spread a y p)))
  where
    at : (o u : Option ℕ) → each1 g (each2 f o u) ≡ each2 f o u
    at None u = refl
    at (Some b) None = refl
    at (Some b) (Some c) = ap Some (e b c)

-- ---- the code of an operator on what a place holds

-- the number 1 is a value of each type
pub one_is : (t : Elem) → IsNumber t → wrap t (number t 1) ≡ 1
one_is Truth n = absurd n
one_is I8 n = wrap_bits I8 1
one_is U8 n = wrap_bits U8 1
one_is I16 n = wrap_bits I16 1
one_is U16 n = wrap_bits U16 1
one_is I32 n = wrap_bits I32 1
one_is U32 n = wrap_bits U32 1
one_is I64 n = wrap_bits I64 1
one_is U64 n = wrap_bits U64 1

checked_mapped : (o : Option ℕ) (kind : TrapKind) (sp : Span) (s : State) (v : Payload) (g : Payload → Payload) → bind (checked o kind sp s v) (λ z s2. Gives (g z) s2) ≡ checked o kind sp s (g v)
checked_mapped None kind sp s v g = refl
checked_mapped (Some p) kind sp s v g = refl

module _ (w : Setting) (ready : IsSettled w) where
  pub update_leaves : (g : Target) (same : Bool) (o : BinOp) (t u : Elem) (r : Rate) (h y : ℕ) (c : Conf) (pc k i q p : ℕ) (a : Mask) (s : State)
      (x z : Payload) (sp : Span) → IsNumber t → (same ≡ true → u ≡ t) → IsTyped w r h u → WorkFits w same r t i
      → IsTyped w r (target w.layout g r u i) u → Low w r i y → At w c pc → c.masks k ≡ a → any (gang_of w) a ≡ true → k < i → Stands w s c
      → 3 + q ≤ 32 * s.work → Holds r a h x c → Holds r a y z c
      → AreAt w.routine.code pc (update_to w.layout same o t r (target w.layout g r u i) h y k i p) → AreAt w.code.places p (operate_places o sp)
      → Leaves w g (target w.layout g r u i) c (pc + length (update_to w.layout same o t r (target w.layout g r u i) h y k i p)) i q r a
      (bind (checked (offender (gang_of w) (is_zero o t) a z) Divide sp s (joined (op_bits o t) a (mapped (converted u t) x) z))
      (λ m s2. Gives (mapped (converted t u) m) s2))
  update_leaves g true o t u r h y c pc k i q p a s x z sp num same th work tu low at em some lt st us hx hz has places =
      let e : u ≡ t = same refl in
      let f = op_bits o t in
      let d = target w.layout g r u i in
      let td : IsTyped w r d t = tu ∙ e in
      let out = offender (gang_of w) (is_zero o t) a z in
      let Y = joined f a (held_at r c.scalars c.vectors a h) (held_at r c.scalars c.vectors a y) in
      let m1 : mapped (converted t u) (joined f a (mapped (converted u t) x) z)
      ≡ joined f a x z = ap (λ g. mapped (converted t g) (joined f a (mapped (converted g t) x) z)) e
      ∙ ap (mapped (converted t t)) (joined_same f (converted t t) a x z (λ b d. same_op o t b d num))
      ∙ mapped_same f (converted t t) a x z (λ b d. same_back o t b d num) in
      let line = operate_at w.code w.routine c r o t d h y k p a sp some em td places ∙ ap (λ g. moved_by g Divide sp (set_at r c d Y)) (ap (offender (gang_of w) (is_zero o t) a) (sym hz) ∙ sym (at_offender r (gang_of w) a (is_zero o t) z)) in
      subst (λ v. Leaves w g d c (pc + 1) i q r a v) (sym (checked_mapped out Divide sp s (joined f a (mapped (converted u t) x) z) (mapped (converted t u)) ∙ ap (checked out Divide sp s) m1))
      (write_sure w ready g c c 0 pc (pc + 1) i q a s (operate r o d h y k p) r u out Divide sp (joined f a x z) Y (comes_none w c) at refl has.0 st
      (spares_all w i c) (λ g l. refl) (omega arith) (at_joined r a f x z ∙ ap (λ g. joined f a g (at_rate r a z)) hx
      ∙ ap (joined f a (held_at r c.scalars c.vectors a h)) hz) (filled_joined r a f c.scalars c.vectors h y) line)
  update_leaves g false o t u r h y c pc k i q p a s x z sp num same th work tu low at em some lt st us hx hz has places =
      let f = op_bits o t in
      let d = w.layout.spare r t i in
      let e = target w.layout g r u i in
      let out = offender (gang_of w) (is_zero o t) a z in
      let x1 = mapped (converted u t) x in
      let converts = λ (c2 : Conf) (from to : ℕ) (v v' : Elem) (ev : IsTyped w r from v) (ev' : IsTyped w r to v'). convert_line w.code w.routine c2 r
      to from k ∙ ap (λ g. Go (set_at r c2 to (mapped (converted g (elem_of w.routine (register r to))) (value_at r c2 k from)))) ev
      ∙ ap (λ g. Go (set_at r c2 to (mapped (converted v g) (value_at r c2 k from)))) ev' in
      let ok1 : Ok w c (pc + 1) i (2 + q) (Holds r a d x1) s = write_runs w ready c c 0 pc (pc + 1) i (2 + q) a s (convert r d h k) r t None Divide
      no_place x1 (mapped (converted u t) (held_at r c.scalars c.vectors a h)) (comes_none w c) at refl has.0 st (spares_all w i c)
      (λ g l. refl) (omega arith) (at_mapped r a (converted u t) x ∙ ap (mapped (converted u t)) hx)
      (filled_mapped r a (converted u t) c.scalars c.vectors h)
      (converts c h d u t th work ∙ ap (λ g. Go (set_at r c d (mapped (converted u t) (held_at r c.scalars c.vectors g h)))) em) in
      let c1 = ok1.conf in
      let e1 : c1.masks k ≡ a = ok1.masks k lt ∙ em in
      let hy : at_rate r a z ≡ held_at r c1.scalars c1.vectors a y = hz ∙ sym (held_kept w r i c c1 a y (kept_same w i c c1 s st ok1.stands ok1.spares) low) in
      let Y = joined f a (held_at r c1.scalars c1.vectors a d) (held_at r c1.scalars c1.vectors a y) in
      let line = operate_at w.code w.routine c1 r o t d d y k p a sp some e1 work places ∙ ap (λ g. moved_by g Divide sp (set_at r c1 d Y)) (ap (offender (gang_of w) (is_zero o t) a) (sym hy) ∙ sym (at_offender r (gang_of w) a (is_zero o t) z)) in
      let to : pc + 1 + 1 ≡ pc + length (convert r d h k ∷ operate r o d d y k p ∷ []) = omega arith in
      let va = checked out Divide sp s (joined f a x1 z) in
      let run2 : Runs w c (pc + 1 + 1) i (1 + q) (Holds r a d) va = write_runs w ready c c1 ok1.steps (pc + 1) (pc + 1 + 1) i (1 + q) a s
      (operate r o d d y k p) r t out Divide sp (joined f a x1 z) Y ok1.comes ok1.at refl has.1.0 ok1.stands ok1.spares ok1.masks
      (omega (arith, ok1.bound)) (at_joined r a f x1 z ∙ ap (λ g. joined f a g (at_rate r a z)) ok1.holds
      ∙ ap (joined f a (held_at r c1.scalars c1.vectors a d)) hy) (filled_joined r a f c1.scalars c1.vectors d y) line in
      one_runs w ready g c pc k i q a va r u d (convert r d h k ∷ operate r o d d y k p ∷ []) (convert r e d k) (converted t u) em lt has (λ c2. converts c2 d e t u work tu) (subst (λ g. Runs w c g i (1 + q) (Holds r a d) va) to run2)

  abbrev done : (Payload → State → State) → Payload → State → Val Done
  done f m s = Gives tt (f m s)

  twice : (o : Option ℕ) (kind : TrapKind) (sp : Span) (s : State) (v : Payload) (g : Payload → Payload) (f : Payload → State → State)
      → bind (checked o kind sp s v) (λ z s3. done f (g z) s3) ≡ bind (bind (checked o kind sp s v) (λ z s3. Gives (g z) s3)) (done f)
  twice None kind sp s v g f = refl
  twice (Some p) kind sp s v g f = refl

  done_less : (n m : ℕ) (c : Conf) (pc q : ℕ) (v : Val Done) → n ≤ m → DoneRuns w c pc m q v → DoneRuns w c pc n q v
  done_less n m c pc q (Gives x s) le r = record { conf = r.conf; steps = r.steps; comes = r.comes; at = r.at; stands = r.stands; spares = spares_less w n m c r.conf le r.spares; masks = λ g l. r.masks g (omega arith); bound = r.bound }
  done_less n m c pc q (Fails p s) le r = r
  done_less n m c pc q (Stops s) le r = r

  -- the place is read, the operator works, the place is written
  pub change_runs : (o : BinOp) (t : Elem) (z : TPlace) (sp : Span) (at : Place) (v : Payload) (pc p k n i y q : ℕ) (a : Mask) (s : State) (c : Conf)
      → ChangeFits w t z n i → beyond z n ≤ i → i ≤ beyond z n + 1 → n ≤ i → k < n → Low w (place_type z).rate i y → At w c pc → c.masks k ≡ a
      → any (gang_of w) a ≡ true → ((r : ℕ) → a r ≡ true → Allowed w r) → Stands w s c → 28 + q ≤ 32 * s.work → PlaceHolds w ready z n a at c
      → Holds (place_type z).rate a y v c → AreAt w.routine.code pc (change_code w.layout o t z y pc p k n i)
      → AreAt w.code.places p (change_places w.layout o z sp)
      → DoneRuns w c (pc + length (change_code w.layout o t z y pc p k n i)) n q (update (gang_of w) w.frame (calls_of w) o t z at v sp a s)
  change_runs o t (t_variable x u sv) sp at v pc p k n i y q a s c fit lz hi le lk low here em some inside st us h hy has places =
      let same = same_elem u.elem t in
      let r = u.rate in
      let f = w.layout.variable r x in
      let end = pc + length (update_to w.layout same o t r f f y k i p) in
      let who = offender (gang_of w) (is_zero o t) a v in
      let val = joined (op_bits o t) a (mapped (converted u.elem t) (variable r x a s)) v in
      subst (λ g. DoneRuns w c end n q (update (gang_of w) w.frame (calls_of w) o t (t_variable x u sv) g v sp a s)) (sym h)
      (subst (λ g. DoneRuns w c end n q g) (sym (twice who Divide sp s val (mapped (converted t u.elem)) (written r x a)))
      (done_less n i c end q _ le
      (update_leaves (InVariable x) same o t u.elem r f y c pc k i q p a s (variable r x a s) v sp fit.number (same_elem-is u.elem t) fit.target.0
      fit.working fit.target.0 low here em some (omega arith) st (omega (arith, us)) (variable_held w ready r x a s c (is_read w r u.elem x fit.target.1) st) hy has places fit.other)))
  change_runs o t (t_element b j u sv) sp at v pc p k n i y q a s c fit lz hi le lk low here em some inside st us h hy has places =
      let same = same_elem u.elem t in
      let r = u.rate in
      let z = t_element b j u sv in
      let f = w.layout.spare r u.elem i in
      let v1 = access w.layout b.ty.rate r j n in
      let at_j = reached w.layout v1 r j n in
      let rd = read_from w.layout v1 (type_of j).elem r f (w.layout.array b.number) at_j p pc k (i + 1) in
      let pc1 = pc + length rd in
      let cu = update_to w.layout same o t r f f y k i (p + 1) in
      let pc2 = pc1 + length cu in
      let last = write_from w.layout v1 (type_of j).elem r (w.layout.array b.number) at_j f p pc2 k (i + 1) in
      let end = pc + length (rd ++ (cu ++ last)) in
      let to : pc2 + length last ≡ end = omega (arith, length-append rd (cu ++ last), length-append cu last) in
      let h1 : AreAt w.routine.code pc1 (cu ++ last) = are_back w.routine.code pc rd (cu ++ last) has in
      let who = offender (gang_of w) (is_zero o t) a v in
      let put_there = λ (m : Payload) (s2 : State). kept (gang_of w) w.frame at a m s2 in
      let x = held (gang_of w) w.frame at a s in
      let val = joined (op_bits o t) a (mapped (converted u.elem t) x) v in
      bind_checked w ready c pc1 i 16 q (Holds r a f) (outside (gang_of w) w.frame at a) Index sv s x
      (λ x1 s1. bind (checked who Divide sp s1 (joined (op_bits o t) a (mapped (converted u.elem t) x1) v))
      (λ m s2. done put_there (mapped (converted t u.elem) m) s2)) end n
      (access_leaves w ready b j u sv n fit.target InSlot at c c 0 pc pc1 k i p (16 + q) a s le (omega (arith, hi)) (comes_none w c)
      here (are_front w.routine.code pc rd (cu ++ last) has) refl places.0 st (spares_all w i c) (λ g l. refl) em some inside (omega (arith, lk, le)) (omega (arith, us)) h)
      (λ none ok.
      let c1 = ok.conf in
      let q1 = ok.steps + q in
      let e1 : c1.masks k ≡ a = ok.masks k (omega arith) ∙ em in
      let here_kept : Keeps w i c c1 = kept_same w i c c1 s st ok.stands ok.spares in
      done_after w ready c c1 ok.steps end n q _ ok.comes (spares_less w n i c c1 le ok.spares) (λ g l. ok.masks g (omega arith))
      (subst (λ g. DoneRuns w c1 end n q1 g) (sym (twice who Divide sp s val (mapped (converted t u.elem)) put_there))
      (bind_done w ready c1 pc2 i 12 q1 (λ m c'. Holds r a f m c' × Keeps w i c1 c') (bind (checked who Divide sp s val) (λ m s3. Gives (mapped (converted t u.elem) m) s3)) (done put_there) end n
      (runs_kept w c1 pc2 i (12 + q1) (Holds r a f) (bind (checked who Divide sp s val) (λ m s3. Gives (mapped (converted t u.elem) m) s3)) s ok.stands (checked_still w who Divide sp s val (mapped (converted t u.elem)))
      (update_leaves InSlot same o t u.elem r f y c1 pc1 k i (12 + q1) (p + 1) a s x v sp fit.number (same_elem-is u.elem t) fit.back fit.working
      fit.back low ok.at e1 some (omega arith) ok.stands (omega (arith, ok.bound)) ok.holds (hy ∙ sym (held_kept w r i c c1 a y here_kept low))
      (are_front w.routine.code pc1 cu last h1) places.1))
      (λ m s3 ok2.
      let keeps = keeps_on w (n + 1) i c c1 ok2.conf lz (kept_same w (n + 1) c c1 s st ok.stands (spares_less w (n + 1) i c c1 lz ok.spares)) ok2.holds.1 in
      subst (λ g. DoneRuns w c1 end n q1 (bind (checked g Index sv s3 m) (done put_there))) none
      (access_done w ready b j u sv n fit.target at m c1 ok2.conf ok2.steps pc2 end k f (i + 1) p q1 a s3 (omega (arith, le)) (omega (arith, hi))
      (low_spare w r u.elem (i + 1) i (omega arith)) ok2.comes ok2.at (are_back w.routine.code pc1 cu last h1) to places.0 ok2.stands
      (spares_less w n i c1 ok2.conf le ok2.spares) (λ g l. ok2.masks g (omega arith)) (ok2.masks k (omega arith) ∙ e1) some inside lk (omega (arith, ok2.bound))
      (place_kept w ready z n a at c ok2.conf fit.target keeps h) ok2.holds.0)))))

  -- ---- `op=`

  pub change_by_runs : (o : BinOp) (t : Elem) (z : TPlace) (x : TExpr) (sp : Span) (pc p k n q : ℕ) (a : Mask) (s : State) (c : Conf)
      → SimpleParts w (t_update o t z x sp) n → AreAt w.routine.code pc (change_by_code w.layout o t z x pc p k n)
      → AreAt w.code.places p (simple_places w.layout (t_update o t z x sp)) → Enters w pc k n a s c q
      → DoneRuns w c (pc + length (change_by_code w.layout o t z x pc p k n)) n q (simple (gang_of w) w.frame (calls_of w) (t_update o t z x sp) a s)
  change_by_runs o t z x sp pc p k n q a s c fit has places b =
      let r = (place_type z).rate in
      let m = beyond z n in
      let more = beyond_more z n in
      let lk : k < n = b.low in
      let fx : heads x ≤ 1 = few w x m fit.2 in
      let ci = index_code w.layout z pc p k n in
      let pc1 = pc + length ci in
      let p1 = p + length (index_places w.layout z) in
      let cx = expr_code w.layout x pc1 p1 k m in
      let ca = operand_of w.layout r x k m cx in
      let y = operand w.layout r x m in
      let pw = p1 + length (expr_places w.layout x) in
      let last = change_code w.layout o t z y (pc1 + length ca) pw k n (m + 1) in
      let end = pc + length (ci ++ (ca ++ last)) in
      let to : pc1 + length ca + length last ≡ end = omega (arith, length-append ci (ca ++ last), length-append ca last) in
      let h1 : AreAt w.routine.code pc1 (ca ++ last) = are_back w.routine.code pc ci (ca ++ last) has in
      let ha : AreAt w.routine.code pc1 ca = are_front w.routine.code pc1 ca last h1 in
      let pl = are_back w.code.places p (index_places w.layout z) _ places in
      bind_done w ready c pc1 n 30 q (PlaceHolds w ready z n a) (place (gang_of w) w.frame (calls_of w) z a (tick s)) _ end n
      (place_runs w ready z pc p k n 30 q a (tick s) c (omega arith) fit.0.target (are_front w.routine.code pc ci _ has) (are_front w.code.places p (index_places w.layout z) _ places) (enters_part w ready pc k n q q a s c (omega arith) b))
      (λ at s1 ok.
      let c1 = ok.conf in
      done_after w ready c c1 ok.steps end n q _ ok.comes ok.spares ok.masks
      (bind_done w ready c1 (pc1 + length ca) m 28 (ok.steps + q) (λ d c'. Holds r a y d c' × Keeps w m c1 c') (means w ready x a s1) _ end n
      (runs_kept w c1 (pc1 + length ca) m (28 + (ok.steps + q)) (Holds r a y) (means w ready x a s1) s1 ok.stands (value_still w ready x m a s1 fit.2)
      (operand_runs w ready c1 pc1 k m (30 + (ok.steps + q)) (28 + (ok.steps + q)) a s1 r t x cx fit.1 (omega arith)
      (enters_later w ready pc pc1 k n m (30 + (ok.steps + q)) q (30 + q) a s s1 c more.0 b ok (omega arith)) ha
      (λ at. expr_runs w ready x pc1 p1 k m (30 + (ok.steps + q)) (1 + (28 + (ok.steps + q))) a s1 c1 fit.2 at
      (are_front w.code.places p1 (expr_places w.layout x) _ pl) (omega arith)
      (enters_later w ready pc pc1 k n m (30 + (ok.steps + q)) q (30 + q) a s s1 c more.0 b ok (omega arith)))))
      (λ v s2 ok2.
      done_after w ready c1 ok2.conf ok2.steps end n (ok.steps + q) _ ok2.comes (spares_less w n m c1 ok2.conf more.0 ok2.spares) (λ g l. ok2.masks g (omega (arith, more.0)))
      (subst (λ g. DoneRuns w ok2.conf g n (ok2.steps + (ok.steps + q)) (update (gang_of w) w.frame (calls_of w) o t z at v sp a s2)) to
      (change_runs o t z sp at v (pc1 + length ca) pw k n (m + 1) y (ok2.steps + (ok.steps + q)) a s2 ok2.conf fit.0 (omega arith) (omega arith)
      (omega (arith, more.0)) lk (operand_low w ready r t x m fit.1 fit.2) ok2.at (ok2.masks k (omega (arith, more.0)) ∙ ok.masks k lk ∙ b.mask)
      b.some b.inside ok2.stands (omega (arith, ok2.bound)) (place_kept w ready z n a at c1 ok2.conf fit.0.target ok2.holds.1 ok.holds)
      ok2.holds.0 (are_back w.routine.code pc1 ca last h1) (are_back w.code.places p1 (expr_places w.layout x) _ pl))))))

  -- ---- `++` and `--`

  -- the number 1
  one_ok : (r : Rate) (t : Elem) (pc k m q : ℕ) (a : Mask) (s : State) (c : Conf) → IsNumber t → SpareFits w Uniform t m → k < m → c.masks k ≡ a
      → ((p : ℕ) → a p ≡ true → Allowed w p) → At w c pc → Stands w s c → 2 + q ≤ 32 * s.work → AreAt w.routine.code pc (one_code w.layout r t k m)
      → Runs w c (pc + length (one_code w.layout r t k m)) m q (Holds r a (one_in w.layout r t m)) (Gives (One 1) s)
  one_ok r t pc k m q a s c num ty lk em inside at st us has = go r (in_vector w.layout r (Some one)) refl has
    where
      one : Value
      one = record { elem = t; bits = 1 }

      code : List Instr
      code = expr_code w.layout (one_of t) 0 0 k m

      small : 1 % 2 ^ width t ≡ 1
      small = sym (wrap_bits t 1) ∙ one_is t num

      here : (P : Conf → Type 0) (z : ℕ) → 2 + z ≤ 32 * s.work → P c → Ok w c (pc + 0) m z P s
      here P z le h = record { conf = c; steps = 0; comes = comes_none w c; at = at_to w c pc _ at (omega arith); stands = st; spares = spares_all w m c; masks = λ g l. refl; holds = h; bound = omega (arith, le) }

      made : (z : Bool) → w.layout.kept Uniform t 1 ≡ z
          → AreAt w.routine.code pc (unless_kept z (constant (kept_found w.layout z Uniform t 1 m) t 1 ∷ []))
          → Runs w c (pc + length (unless_kept z (constant (kept_found w.layout z Uniform t 1 m) t 1 ∷ []))) m (1 + q)
          (Holds Uniform a (kept_found w.layout z Uniform t 1 m)) (Gives (One 1) s)
      made true e h =
          let first = here (Holds Uniform a (w.layout.constant Uniform t 1) (One 1)) q us (ap One (sym small ∙ sym (st.constants Uniform t 1 e))) in
          record { conf = first.conf; steps = first.steps; comes = first.comes; at = first.at; stands = first.stands; spares = first.spares; masks = first.masks; holds = first.holds; bound = omega (arith, us) }
      made false e h =
          let d = w.layout.spare Uniform t m in
          write_runs w ready c c 0 pc (pc + 1) m (1 + q) a s (constant d t 1) Uniform t None Divide no_place (One 1) (One 1) (comes_none w c) at refl h.0 st (spares_all w m c) (λ g l. refl) (omega (arith, us)) refl refl
          (ap (λ u. Go (set_at Uniform c d (One (wrap u (number t 1))))) ty ∙ ap (λ z. Go (set_at Uniform c d (One z))) (one_is t num))

      lifts : (g : Rate) → AreAt w.routine.code pc (code ++ lift_code w.layout g Uniform t (found w.layout (one_of t) m) k m)
          → Runs w c (pc + length (code ++ lift_code w.layout g Uniform t (found w.layout (one_of t) m) k m)) m q
          (Holds g a (lifted w.layout g Uniform t (found w.layout (one_of t) m) m)) (Gives (One 1) s)
      lifts g h =
          let f = found w.layout (one_of t) m in
          let lift = lift_code w.layout g Uniform t f k m in
          let to : pc + length code + length lift ≡ pc + length (code ++ lift) = omega (arith, length-append code lift) in
          subst (λ n. Runs w c n m q (Holds g a (lifted w.layout g Uniform t f m)) (Gives (One 1) s)) to
          (lift_runs w ready c (pc + length code) k m q a (Gives (One 1) s) g Uniform t f tt em lk (are_back w.routine.code pc code lift h)
          (made (w.layout.kept Uniform t 1) refl (are_front w.routine.code pc code lift h)))

      go : (g : Rate) (z : Bool) → in_vector w.layout g (Some one) ≡ z
          → AreAt w.routine.code pc (unless_kept z (code ++ lift_code w.layout g Uniform t (found w.layout (one_of t) m) k m))
          → Runs w c (pc + length (unless_kept z (code ++ lift_code w.layout g Uniform t (found w.layout (one_of t) m) k m))) m q
          (Holds g a (operand_by w.layout z g (one_of t) m)) (Gives (One 1) s)
      go Uniform true e h = absurd (cc)
      go Varying true e h =
          here (Holds Varying a (w.layout.constant Varying t 1) (One 1)) q us (ap Each (ap (λ b. on a (λ p. b)) (sym small) ∙ sym (on_everywhere (gang_of w) (1 % 2 ^ width t) a (λ p l. (inside p l).0)) ∙ ap (on a) (sym (st.constants Varying t 1 e))))
      go g false e h = lifts g h

  pub step_runs : (o : BinOp) (t : Elem) (z : TPlace) (sp : Span) (pc p k n q : ℕ) (a : Mask) (s : State) (c : Conf)
      → SimpleParts w (t_step o t z sp) n → AreAt w.routine.code pc (step_code w.layout o t z pc p k n)
      → AreAt w.code.places p (simple_places w.layout (t_step o t z sp)) → Enters w pc k n a s c q
      → DoneRuns w c (pc + length (step_code w.layout o t z pc p k n)) n q (simple (gang_of w) w.frame (calls_of w) (t_step o t z sp) a s)
  step_runs o t z sp pc p k n q a s c fit has places b =
      let r = (place_type z).rate in
      let m = beyond z n in
      let more = beyond_more z n in
      let lk : k < n = b.low in
      let ci = index_code w.layout z pc p k n in
      let pc1 = pc + length ci in
      let p1 = p + length (index_places w.layout z) in
      let ca = one_code w.layout r t k m in
      let y = one_in w.layout r t m in
      let last = change_code w.layout o t z y (pc1 + length ca) p1 k n (m + 1) in
      let end = pc + length (ci ++ (ca ++ last)) in
      let to : pc1 + length ca + length last ≡ end = omega (arith, length-append ci (ca ++ last), length-append ca last) in
      let h1 : AreAt w.routine.code pc1 (ca ++ last) = are_back w.routine.code pc ci (ca ++ last) has in
      let ha : AreAt w.routine.code pc1 ca = are_front w.routine.code pc1 ca last h1 in
      bind_done w ready c pc1 n 30 q (PlaceHolds w ready z n a) (place (gang_of w) w.frame (calls_of w) z a (tick s)) _ end n
      (place_runs w ready z pc p k n 30 q a (tick s) c (omega arith) fit.0.target (are_front w.routine.code pc ci _ has) (are_front w.code.places p (index_places w.layout z) _ places) (enters_part w ready pc k n q q a s c (omega arith) b))
      (λ at s1 ok.
      let c1 = ok.conf in
      let e1 : c1.masks k ≡ a = ok.masks k lk ∙ b.mask in
      let ok2 : Ok w c1 (pc1 + length ca) m (28 + (ok.steps + q)) (Holds r a y (One 1)) s1 = one_ok r t pc1 k m (28 + (ok.steps + q)) a s1 c1 fit.0.number fit.1 (omega (arith, more.0)) e1 b.inside ok.at ok.stands (omega (arith, ok.bound)) ha in
      done_after w ready c c1 ok.steps end n q _ ok.comes ok.spares ok.masks
      (done_after w ready c1 ok2.conf ok2.steps end n (ok.steps + q) _ ok2.comes (spares_less w n m c1 ok2.conf more.0 ok2.spares) (λ g l. ok2.masks g (omega (arith, more.0)))
      (subst (λ g. DoneRuns w ok2.conf g n (ok2.steps + (ok.steps + q)) (update (gang_of w) w.frame (calls_of w) o t z at (One 1) sp a s1)) to
      (change_runs o t z sp at (One 1) (pc1 + length ca) p1 k n (m + 1) y (ok2.steps + (ok.steps + q)) a s1 ok2.conf fit.0 (omega arith) (omega arith)
      (omega (arith, more.0)) lk (operand_low w ready r t (one_of t) m (record { elem = refl; reaches = tt; lift = fit.2 }) fit.1) ok2.at
      (ok2.masks k (omega (arith, more.0)) ∙ e1) b.some b.inside ok2.stands (omega (arith, ok2.bound))
      (place_kept w ready z n a at c1 ok2.conf fit.0.target (kept_same w m c1 ok2.conf s1 ok.stands ok2.stands ok2.spares) ok.holds) ok2.holds
      (are_back w.routine.code pc1 ca last h1) (are_back w.code.places p (index_places w.layout z) _ places)))))

  pub simple_runs : (x : TSimple) (pc p k n q : ℕ) (a : Mask) (s : State) (c : Conf) → SimpleParts w x n
      → AreAt w.routine.code pc (simple_code w.layout x pc p k n) → AreAt w.code.places p (simple_places w.layout x) → Enters w pc k n a s c q
      → DoneRuns w c (pc + length (simple_code w.layout x pc p k n)) n q (simple (gang_of w) w.frame (calls_of w) x a s)
  simple_runs (t_value x) pc p k n q a s c fit has places b = value_runs w ready x pc p k n q a s c fit has places b
  simple_runs (t_run (t_called f xs sp)) pc p k n q a s c fit has places b = run_runs w ready f xs sp pc p k n q a s c fit has places b
  simple_runs (t_assign z x sp) pc p k n q a s c fit has places b = assign_runs w ready z x sp pc p k n q a s c fit has places b
  simple_runs (t_update o t z x sp) pc p k n q a s c fit has places b = change_by_runs o t z x sp pc p k n q a s c fit has places b
  simple_runs (t_step o t z sp) pc p k n q a s c fit has places b = step_runs o t z sp pc p k n q a s c fit has places b
