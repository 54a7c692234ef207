-- `?:` between two variables or constants that are kept: one instruction after the test.
use Rattle.std.proofs.Common.{◌≡◌, ℕ, ◌+◌, ◌%◌, ◌^◌, ◌<◌, ◌≤◌, List, [], ◌∷◌, ◌++◌, length, Option, Some, None, Bool, true, false, refl, sym, ap, ◌∙◌, subst, arith, length-append}
use Rattle.std.specs.Prelude.{if◌then◌else◌, not, ◌&&◌}
use Rattle.isp_base.specs.Maps.{on, where_true}
use Rattle.isp_base.specs.Sets.{Mask, nobody, any}
use Rattle.isp_base.specs.declared.trap.TrapKind.TheVariants.{Divide}
use Rattle.isp_base.specs.Values.{width}
use Rattle.isp_base.specs.declared.types.Elem.{Elem}
use Rattle.isp_base.specs.declared.types.Rate.{Rate}
use Rattle.isp_base.specs.declared.types.Rate.TheVariants.{Uniform, Varying}
use Rattle.isp_base.specs.declared.types.Value.{Value}
use Rattle.isp_code.specs.Calls.{no_place}
use Rattle.isp_code.specs.Conf.{Conf, Go}
use Rattle.isp_code.specs.Lines.{act}
use Rattle.isp_code.specs.declared.instr.Instr.{Instr}
use Rattle.isp_typed.specs.Typed.{TExpr, t_constant, t_program_index, t_place, t_convert, t_cast, t_unary, t_binary, t_compare, t_logic, t_choose, t_call, t_library, t_packed_store, t_packed_load, t_variable, t_element, type_of}
use Rattle.isp_meaning.specs.State.{State, tick}
use Rattle.isp_meaning.specs.Payloads.{Payload, One, Each, nothing, is_true, is_false, spread, kept_by, selected, converted}
use Rattle.isp_meaning.specs.Outcomes.{Val, Gives, bind, value_unless_empty}
use Rattle.isp_meaning.specs.Places.{variable}
use Rattle.isp_meaning.specs.Expressions.{value}
use Rattle.isp_meaning.specs.Calls.{same_rate}
use Rattle.isp_lower_code.specs.Setting.{Setting, IsSettled, gang_of, calls_of, AreAt, Stands, at_rate, held_at, Holds, Allowed}
use Rattle.isp_lower_code.specs.Runs.{Runs}
use Rattle.isp_lower_code.specs.Found.{is_copied, is_kept, kept_found, variable_found, lifted, found}
use Rattle.isp_lower_code.specs.Instructions.{select}
use Rattle.isp_lower_code.specs.Known.{bits_as, constant_of}
use Rattle.isp_lower_code.specs.Stays.{stays}
use Rattle.isp_lower_code.proofs.Base.{are_back}
use Rattle.isp_lower_code.proofs.Rates.{Filled, at_kept, filled_on}
use Rattle.isp_lower_code.proofs.Lines.{set_at}
use Rattle.isp_lower_code.proofs.Logic.{unless_some, unless_none, any_nobody, is_nobody, where_inside}
use Rattle.isp_lower_code.proofs.Choose.{selected_at, select_is}
use Rattle.isp_lower_code.proofs.Found.{constant_is_one}
use Rattle.isp_lower_code.proofs.Kept.{IsRead, is_read}
use Rattle.isp_lower_code.proofs.Parts.{ExprParts}
use Rattle.isp_lower_code.proofs.Values.{wrap_bits, constant_is}
use Rattle.isp_lower_code.proofs.Targets.{Target, target, Leaves, bind_leaves, write_sure}

pub same_rate-is : (r g : Rate) → same_rate r g ≡ true → r ≡ g
same_rate-is Uniform Uniform e = refl
same_rate-is Uniform Varying e = absurd (cc)
same_rate-is Varying Uniform e = absurd (cc)
same_rate-is Varying Varying e = refl

module _ (w : Setting) where
  lifted_same : (r : Rate) (t : Elem) (f n : ℕ) → lifted w.layout r r t f n ≡ f
  lifted_same Uniform t f n = refl
  lifted_same Varying t f n = refl

  -- nothing but the work has grown
  pub record Later (s s' : State) : Type 0 where
    pub stands : (c : Conf) → Stands w s c → Stands w s' c
    pub work : s.work ≤ s'.work

  -- a register has what an expression gives over any set, and nothing else is done
  abbrev pub InPlace : Rate → ℕ → (Mask → State → Val Payload) → Type 0
  InPlace r f v =
      (T : Mask) (s : State) (c : Conf) → Stands w s c → (m : Payload) × (s' : State) × (v T s ≡ Gives m s') × Later s s' × Holds r T f m c

  held_there : (r : Rate) (v : ℕ) (a : Mask) (s : State) (c : Conf) → IsRead w r v → Stands w s c → at_rate r a (variable r v a s) ≡ held_at r c.scalars c.vectors a (w.layout.variable r v)
  held_there Uniform v a s c read st = ap One (sym (st.uniforms v read))
  held_there Varying v a s c read st = ap (λ z. Each (on a z)) (sym (st.varying v))

  ticked : (s : State) → Later s (tick s)
  ticked s = record { stands = λ c st. st; work = omega arith }

  -- so has the register of a constant
  kept_there : (z : Bool) (t : Elem) (b m n : ℕ) (T : Mask) (s : State) (c : Conf) → Stands w s c → w.layout.kept Uniform t b ≡ z → z ≡ true → b % 2 ^ width t ≡ m → Holds Uniform T (kept_found w.layout z Uniform t b n) (One m) c
  kept_there true t b m n T s c st ez e is = ap One (sym is ∙ sym (st.constants Uniform t b ez))
  kept_there false t b m n T s c st ez e is = absurd (cc)

  -- it is told of the tree in some slot
  pub stays_in_place : (x : TExpr) (n m : ℕ) → ExprParts w x m → stays w.layout x ≡ true → InPlace (type_of x).rate (found w.layout x n) (value (gang_of w) w.frame (calls_of w) x)
  stays_in_place (t_constant v sp) n m fit e T s c st = (One (v.bits % 2 ^ width v.elem), tick s, refl, ticked s, kept_there (w.layout.kept Uniform v.elem v.bits) v.elem v.bits (v.bits % 2 ^ width v.elem) n T s c st refl e refl)
  stays_in_place (t_program_index sp) n m fit e T s c st = absurd (cc)
  stays_in_place (t_place (t_variable v t sp)) n m fit e T s c st = (variable t.rate v T (tick s), tick s, refl, ticked s, go (is_copied w.layout t.rate v) e)
    where
      go : (b : Bool) → not b ≡ true → Holds t.rate T (variable_found w.layout b t v n) (variable t.rate v T (tick s)) c
      go true h = absurd (cc)
      go false h = held_there t.rate v T (tick s) c (is_read w t.rate t.elem v fit.0.1) st
  stays_in_place (t_place (t_element b i t sp)) n m fit e T s c st = absurd (cc)
  stays_in_place (t_convert u x) n m fit e T s c st = go (constant_of x) refl e
    where
      go : (o : Option Value) → constant_of x ≡ o → is_kept w.layout o (type_of x).rate u ≡ true
          → (m : Payload) × (s' : State) × (value (gang_of w) w.frame (calls_of w) (t_convert u x) T s ≡ Gives m s') × Later s s'
          × Holds (type_of x).rate T (kept_found w.layout (is_kept w.layout o (type_of x).rate u) (type_of x).rate u (bits_as o u) n) m c
      go None eo h = absurd (cc)
      go (Some v) eo h =
          let one = constant_is_one x v eo in
          let b = converted v.elem u v.bits in
          subst (λ y. w.layout.kept (type_of y).rate u b ≡ true
          → (m : Payload) × (s' : State) × (value (gang_of w) w.frame (calls_of w) (t_convert u y) T s ≡ Gives m s') × Later s s'
          × Holds (type_of y).rate T (kept_found w.layout (w.layout.kept (type_of y).rate u b) (type_of y).rate u b n) m c) (sym one.1)
          (λ k. (
            One (converted v.elem u (v.bits % 2 ^ width v.elem)),
            tick s,
            refl,
            ticked s,
            kept_there (w.layout.kept Uniform u b) u b
                (converted v.elem u (v.bits % 2 ^ width v.elem)) n T s c st refl k (sym (wrap_bits u b) ∙ constant_is v.elem u v.bits),
          )) h
  stays_in_place (t_cast x t sp) n m fit e T s c st = go (same_rate t.rate (type_of x).rate) refl (λ h. stays_in_place x n m fit.1 h T (tick s) c st) e
    where
      go : (d : Bool) → same_rate t.rate (type_of x).rate ≡ d
          → (stays w.layout x ≡ true → (m : Payload) × (s' : State) × (value (gang_of w) w.frame (calls_of w) x T (tick s) ≡ Gives m s')
          × Later (tick s) s' × Holds (type_of x).rate T (found w.layout x n) m c) → (d && stays w.layout x) ≡ true
          → (m : Payload) × (s' : State) × (value (gang_of w) w.frame (calls_of w) x T (tick s) ≡ Gives m s') × Later s s'
          × Holds t.rate T (lifted w.layout t.rate (type_of x).rate (type_of x).elem (found w.layout x n) n) m c
      go true ed ih h =
          let er : t.rate ≡ (type_of x).rate = same_rate-is t.rate (type_of x).rate ed in
          let in_x = ih h in
          let le = in_x.3.work in
          let later : Later s in_x.1 = record { stands = λ c st. in_x.3.stands c st; work = omega (arith, le) } in (
            in_x.0,
            in_x.1,
            in_x.2,
            later,
            subst (λ r. Holds r T (lifted w.layout r (type_of x).rate (type_of x).elem (found w.layout x n) n) in_x.0 c)
                (sym er) (subst (λ f. Holds (type_of x).rate T f in_x.0 c) (sym (lifted_same (type_of x).rate (type_of x).elem (found w.layout x n) n))
                in_x.4),
          )
      go false ed ih h = absurd (cc)
  stays_in_place (t_unary o x t sp) n m fit e T s c st = absurd (cc)
  stays_in_place (t_binary o x y t sp) n m fit e T s c st = absurd (cc)
  stays_in_place (t_compare d x y r sp) n m fit e T s c st = absurd (cc)
  stays_in_place (t_logic g x y r sp) n m fit e T s c st = absurd (cc)
  stays_in_place (t_choose d x y t sp) n m fit e T s c st = absurd (cc)
  stays_in_place (t_call d t) n m fit e T s c st = absurd (cc)
  stays_in_place (t_library f u xs t sp) n m fit e T s c st = absurd (cc)
  stays_in_place (t_packed_store d x sp) n m fit e T s c st = absurd (cc)
  stays_in_place (t_packed_load d v sp) n m fit e T s c st = absurd (cc)

  -- for the lanes of a set that may be empty
  side : (T : Mask) (s : State) (c : Conf) (v : Mask → State → Val Payload) (f : ℕ) → ((p : ℕ) → T p ≡ true → Allowed w p) → InPlace Varying f v
      → Stands w s c → (m : Payload) × (s' : State) × (value_unless_empty (gang_of w) T s v ≡ Gives m s') × Later s s'
      × (spread T m ≡ on T (c.vectors f))
  side T s c v f inside there st = go (any (gang_of w) T) refl
    where
      go : (d : Bool) → any (gang_of w) T ≡ d → (m : Payload) × (s' : State) × (value_unless_empty (gang_of w) T s v ≡ Gives m s') × Later s s' × (spread T m ≡ on T (c.vectors f))
      go true e =
          let h = there T s c st in
          (h.0, h.1, unless_some (gang_of w) T s v e ∙ h.2, h.3, ap (spread nobody) h.4)
      go false e =
          let off : T ≡ nobody = is_nobody (gang_of w) T (λ p h. (inside p h).0) e in
          (nothing, s, unless_none (gang_of w) T s v e, record { stands = λ c st. st; work = omega arith }, ap (λ t. on t (c.vectors f)) (sym off))

  -- what the instruction gives
  abbrev picked : Rate → Conf → Mask → ℕ → ℕ → ℕ → Payload
  picked Uniform c a f x y = One (if is_true (c.scalars f) then c.scalars x else c.scalars y)
  picked Varying c a f x y = Each (on a (λ p. if is_true (c.vectors f p) then c.vectors x p else c.vectors y p))

  -- and what is chosen
  abbrev chosen : Mask → Payload → State → (Mask → State → Val Payload) → (Mask → State → Val Payload) → Val Payload
  chosen a x s va vb =
      bind (value_unless_empty (gang_of w) (kept_by is_true a x) s va) (λ m s2. bind (value_unless_empty (gang_of w) (kept_by is_false a x) s2 vb) (λ z s3. Gives (selected a x m z) s3))

  abbrev Chosen : Rate → Mask → Payload → State → Conf → ℕ → ℕ → ℕ → (Mask → State → Val Payload) → (Mask → State → Val Payload) → Type 0
  Chosen r a b s c f x y va vb =
      (m : Payload) × (s' : State) × (chosen a b s va vb ≡ Gives m s') × Later s s' × (at_rate r a m ≡ picked r c a f x y)

  chosen_is : (r : Rate) (a : Mask) (b : Payload) (s : State) (c : Conf) (f x y : ℕ) (va vb : Mask → State → Val Payload) → any (gang_of w) a ≡ true
      → ((p : ℕ) → a p ≡ true → Allowed w p) → Stands w s c → InPlace r x va → InPlace r y vb → Holds r a f b c → Chosen r a b s c f x y va vb
  chosen_is Uniform a b s c f x y va vb some inside st hx hy hold = subst (λ z. Chosen Uniform a z s c f x y va vb) (sym hold) (go (is_true (c.scalars f)))
    where
      pick : Bool → Val Payload
      pick d = bind (value_unless_empty (gang_of w) (if d then a else nobody) s va) (λ m s2. bind (value_unless_empty (gang_of w) (if not d then a else nobody) s2 vb) (λ z s3. Gives (if d then m else z) s3))

      go : (d : Bool) → (m : Payload) × (s' : State) × (pick d ≡ Gives m s') × Later s s' × (m ≡ One (if d then c.scalars x else c.scalars y))
      go true =
          let h = hx a s c st in (
            h.0,
            h.1,
            ap (λ u. bind u (λ m s2. bind (value_unless_empty (gang_of w) nobody s2 vb) (λ z s3. Gives m s3)))
                (unless_some (gang_of w) a s va some ∙ h.2) ∙ ap (λ u. bind u (λ z s3. Gives h.0 s3))
                (unless_none (gang_of w) nobody h.1 vb (any_nobody (gang_of w))),
            h.3,
            h.4,
          )
      go false =
          let h = hy a s c st in (
            h.0,
            h.1,
            ap (λ u. bind u (λ m s2. bind (value_unless_empty (gang_of w) a s2 vb) (λ z s3. Gives z s3)))
                (unless_none (gang_of w) nobody s va (any_nobody (gang_of w)))
                ∙ ap (λ u. bind u (λ z s3. Gives z s3)) (unless_some (gang_of w) a s vb some ∙ h.2),
            h.3,
            h.4,
          )
  chosen_is Varying a b s c f x y va vb some inside st hx hy hold =
      let v = c.vectors f in
      let T = where_true is_true (on a v) in
      let F = where_true is_false (on a v) in
      let h = side T s c va x (where_inside (Allowed w) a is_true v inside) hx st in
      let g = side F h.1 c vb y (where_inside (Allowed w) a is_false v inside) hy (h.3.stands c st) in
      let le1 = h.3.work in
      let le2 = g.3.work in (
        selected a b h.0 g.0,
        g.1,
        ap (λ u. bind (value_unless_empty (gang_of w) u s va) (λ m s2. bind (value_unless_empty (gang_of w) (kept_by is_false a b) s2 vb) (λ z s3. Gives (selected a b m z) s3))) (at_kept Varying a is_true b ∙ ap (kept_by is_true a) hold)
            ∙ ap (λ u. bind (value_unless_empty (gang_of w) T s va) (λ m s2. bind (value_unless_empty (gang_of w) u s2 vb) (λ z s3. Gives (selected a b m z) s3))) (at_kept Varying a is_false b ∙ ap (kept_by is_false a) hold)
            ∙ ap (λ u. bind u (λ m s2. bind (value_unless_empty (gang_of w) F s2 vb) (λ z s3. Gives (selected a b m z) s3))) h.2
            ∙ ap (λ u. bind u (λ z s3. Gives (selected a b h.0 z) s3)) g.2,
        record { stands = λ c st. g.3.stands c (h.3.stands c st); work = omega (arith, le1, le2) },
        selected_at a b h.0 g.0 (c.vectors x) (c.vectors y) v hold h.4 g.4 ∙ sym (ap Each (select_is a (c.vectors x) (c.vectors y) v)),
      )

  filled_picked : (r : Rate) (c : Conf) (a : Mask) (f x y : ℕ) → Filled r a (picked r c a f x y)
  filled_picked Uniform c a f x y = refl
  filled_picked Varying c a f x y = λ old. ap Each (filled_on a (λ p. if is_true (c.vectors f p) then c.vectors x p else c.vectors y p) old)

  select_line : (r : Rate) (c : Conf) (d f x y k : ℕ) → act w.code w.routine c (select r d f x y k) ≡ Go (set_at r c d (picked r c (c.masks k) f x y))
  select_line Uniform c d f x y k = refl
  select_line Varying c d f x y k = refl

module _ (w : Setting) (ready : IsSettled w) where
  pub short_runs : (g : Target) (r : Rate) (t : Elem) (f x y : ℕ) (va vb : Mask → State → Val Payload) (c : Conf) (pc k n q : ℕ) (a : Mask)
      (vt : Val Payload) (ct : List Instr) → c.masks k ≡ a → k < n → any (gang_of w) a ≡ true → ((p : ℕ) → a p ≡ true → Allowed w p)
      → InPlace w r x va → InPlace w r y vb → AreAt w.routine.code pc (ct ++ select r (target w.layout g r t n) f x y k ∷ [])
      → Runs w c (pc + length ct) n (1 + q) (Holds r a f) vt
      → Leaves w g (target w.layout g r t n) c (pc + length (ct ++ select r (target w.layout g r t n) f x y k ∷ [])) n q r a
      (bind vt (λ b s. chosen w a b s va vb))
  short_runs g r t f x y va vb c pc k n q a vt ct em lk some inside hx hy has run =
      let d = target w.layout g r t n in
      let i = select r d f x y k in
      let end = pc + length (ct ++ i ∷ []) in
      let to : pc + length ct + 1 ≡ end = omega (arith, length-append ct (i ∷ [])) in
      bind_leaves w ready g d c (pc + length ct) n 1 q (Holds r a f) vt _ end n r a run
      (λ b s ok.
      let c2 = ok.conf in
      let h = chosen_is w r a b s c2 f x y va vb some inside ok.stands hx hy ok.holds in
      let le = h.3.work in
      subst (λ z. Leaves w g d c end n q r a z) (sym h.2)
      (write_sure w ready g c c2 ok.steps (pc + length ct) end n q a h.1 i r t None Divide no_place h.0 (picked w r c2 a f x y) ok.comes ok.at to
      (are_back w.routine.code pc ct _ has).0 (h.3.stands c2 ok.stands) ok.spares ok.masks (omega (arith, ok.bound, le)) h.4
      (filled_picked w r c2 a f x y)
      (select_line w r c2 d f x y k ∙ ap (λ m. Go (set_at r c2 d (picked w r c2 m f x y))) (ok.masks k lk ∙ em))))
