-- `?:`: by a jump where the test is uniform, else both sides, each for its lanes.
use Rattle.std.proofs.Common.{◌≡◌, ◌≢◌, ℕ, ◌+◌, ◌*◌, ◌<◌, ◌≤◌, List, [], ◌∷◌, ◌++◌, length, Option, Some, None, Bool, true, false, refl, sym, ap, ◌∙◌, subst, arith, length-append}
use Rattle.std.specs.Prelude.{slice_get, if◌then◌else◌, not}
use Rattle.std.proofs.Math.Path.{fun_ext}
use Rattle.isp_base.specs.Maps.{Lanes, Map, on, holds, where_true}
use Rattle.isp_base.specs.Sets.{Mask, nobody, without, any}
use Rattle.isp_base.specs.declared.trap.TrapKind.TheVariants.{Divide}
use Rattle.isp_base.specs.declared.types.Elem.{Elem}
use Rattle.isp_base.specs.declared.types.Rate.{Rate}
use Rattle.isp_base.specs.declared.types.Rate.TheVariants.{Uniform, Varying}
use Rattle.isp_code.specs.Calls.{no_place}
use Rattle.isp_code.specs.Conf.{Conf, Go}
use Rattle.isp_code.specs.Lines.{jumps}
use Rattle.isp_code.specs.declared.instr.Instr.{Instr}
use Rattle.isp_code.specs.declared.instr.Instr.TheVariants as instr
use Rattle.isp_code.specs.declared.instr.JumpTest.TheVariants as jump
use Rattle.isp_meaning.specs.State.{State}
use Rattle.isp_meaning.specs.Payloads.{Payload, One, Each, is_true, is_false, spread, kept_by, selected, layer, first_of_two}
use Rattle.isp_meaning.specs.Outcomes.{Val, Gives, bind, value_unless_empty}
use Rattle.isp_lower_code.specs.Layout.{register, mask_register}
use Rattle.isp_lower_code.specs.Setting.{Setting, IsSettled, gang_of, AreAt, At, Stands, at_rate, Holds, Allowed}
use Rattle.isp_typed.specs.Typed.{TExpr}
use Rattle.isp_lower_code.specs.Runs.{Enters, Ok, Runs}
use Rattle.isp_lower_code.specs.Code.{choose_code}
use Rattle.isp_lower_code.specs.Found.{operand}
use Rattle.isp_lower_code.specs.Instructions.{where_so, the_others, jump_on, jump_off, select}
use Rattle.isp_lower_code.specs.Pieces.{move_code, guard, choice, two, choose_rest}
use Rattle.isp_lower_code.proofs.Base.{are_front, are_back, put_same, put_other, comes_none, comes_on, at_to, step_go, spares_all, spares_less}
use Rattle.isp_lower_code.proofs.Rates.{at_kept, one_holds, filled_on}
use Rattle.isp_lower_code.proofs.Lines.{set_at}
use Rattle.isp_lower_code.proofs.Combine.{runs_after, bind_runs, runs_on, ok_less, ok_to, write_runs}
use Rattle.isp_lower_code.proofs.Logic.{unless_some, unless_none, any_nobody, others_where, is_nobody, where_inside}
use Rattle.isp_lower_code.proofs.Jumps.{jumped, jump_comes, jump_at, masked, where_comes, others_comes, masked_at, move_ok}
use Rattle.isp_lower_code.proofs.Kept.{Low, low_more, Keeps, runs_kept, unless_still}
use Rattle.isp_meaning.specs.Loads.{KeepsBy}
use Rattle.isp_lower_code.specs.Asks.{first_slot, second_slot}
use Rattle.isp_lower_code.specs.Rated.{Reaches}

-- nothing anywhere
abbrev nowhere : Map
nowhere p = None

layer_none : (x : Map) → layer x nowhere ≡ x
layer_none x = fun_ext (λ p. at (x p))
  where
    at : (o : Option ℕ) → first_of_two o None ≡ o
    at None = refl
    at (Some z) = refl

-- what is chosen, where each side was taken in its lanes
pub selected_at : (a : Mask) (k m z : Payload) (u y v : Lanes) → at_rate Varying a k ≡ Each (on a v)
    → spread (where_true is_true (on a v)) m ≡ on (where_true is_true (on a v)) u
    → spread (where_true is_false (on a v)) z ≡ on (where_true is_false (on a v)) y
    → at_rate Varying a (selected a k m z) ≡ Each (layer (on (where_true is_true (on a v)) u) (on (where_true is_false (on a v)) y))
selected_at a (Each x) m z u y v hk hm hz =
    let ex : x ≡ on a v = ap (spread nobody) hk in
    ap (λ x. Each (layer (spread (where_true is_true x) m) (spread (where_true is_false x) z))) ex
    ∙ ap (λ t. Each (layer t (spread (where_true is_false (on a v)) z))) hm ∙ ap (λ t. Each (layer (on (where_true is_true (on a v)) u) t)) hz
selected_at a (One x) m z u y v hk hm hz =
    let ex : on a (λ p. x) ≡ on a v = ap (spread nobody) hk in
    let et : where_true is_true (on a v) ≡ (if is_true x then a else nobody) = sym (one_holds a is_true x ∙ ap (where_true is_true) ex) in
    let ef : where_true is_false (on a v) ≡ (if is_false x then a else nobody) = sym (one_holds a is_false x ∙ ap (where_true is_false) ex) in
    go (is_true x) (subst (λ t. spread t m ≡ on t u) et hm) (subst (λ t. spread t z ≡ on t y) ef hz)
    ∙ ap (λ t. Each (layer (on t u) (on (if is_false x then a else nobody) y))) (sym et) ∙ ap (λ t. Each (layer (on (where_true is_true (on a v)) u) (on t y))) (sym ef)
  where
    go : (b : Bool) → spread (if b then a else nobody) m ≡ on (if b then a else nobody) u
        → spread (if not b then a else nobody) z ≡ on (if not b then a else nobody) y
        → Each (spread a (if b then m else z)) ≡ Each (layer (on (if b then a else nobody) u) (on (if not b then a else nobody) y))
    go true h1 h2 = ap Each (h1 ∙ sym (layer_none (on a u)))
    go false h1 h2 = ap Each h2

-- what the instruction chooses
pub select_is : (a : Mask) (u y v : Lanes) → on a (λ p. if is_true (v p) then u p else y p) ≡ layer (on (where_true is_true (on a v)) u) (on (where_true is_false (on a v)) y)
select_is a u y v = fun_ext (λ p. at (a p) (is_true (v p)) p refl)
  where
    at : (b d : Bool) (p : ℕ) → is_true (v p) ≡ d → (if b then Some (if is_true (v p) then u p else y p) else None)
        ≡ first_of_two (if holds is_true (if b then Some (v p) else None) then Some (u p) else None)
        (if holds is_false (if b then Some (v p) else None) then Some (y p) else None)
    at true true p e = ap (λ z. Some (if z then u p else y p)) e ∙ sym (ap (λ z. first_of_two (if z then Some (u p) else None) (if not z then Some (y p) else None)) e)
    at true false p e = ap (λ z. Some (if z then u p else y p)) e ∙ sym (ap (λ z. first_of_two (if z then Some (u p) else None) (if not z then Some (y p) else None)) e)
    at false d p e = refl

module _ (w : Setting) (ready : IsSettled w) where
  -- ---- by a jump

  -- a jump after what is done
  jump_ok : (c : Conf) (pc to n q : ℕ) (P : Conf → Type 0) (s : State) → (ok : Ok w c pc n (1 + q) P s) → P (record ok.conf { pc = to }) → slice_get w.routine.code pc ≡ Some (instr.Jump to) → Ok w c to n q P s
  jump_ok c pc to n q P s ok p has =
      let c2 = ok.conf in
      let c3 : Conf = record c2 { pc = to } in
      record {
        conf = c3;
        steps = ok.steps + 1;
        comes = comes_on w c c2 c3 ok.steps 1 ok.comes (step_go w c2 pc (instr.Jump to) c3 ready ok.at has refl);
        at = record { home_is = ok.at.home_is; waiting_is = ok.at.waiting_is; pc_is = refl };
        stands = ok.stands;
        spares = ok.spares;
        masks = ok.masks;
        holds = p;
        bound = omega (arith, ok.bound);
      }

  pub choose_one : (r : Rate) (d : ℕ) (c : Conf) (pc k n q : ℕ) (a : Mask) (vt : Val Payload) (va vb : Mask → State → Val Payload) (f : ℕ)
      (ct : List Instr) (ca cb : ℕ → List Instr) → c.masks k ≡ a → k < n → any (gang_of w) a ≡ true → ((p : ℕ) → a p ≡ true → Allowed w p)
      → AreAt w.routine.code pc (two pc ct (λ p1. choice (jump_on jump.False f) p1 ca cb))
      → Runs w c (pc + length ct) n (2 + q) (Holds Uniform a f) vt
      → ((s : State) (c1 : Conf) (pc1 z : ℕ) → AreAt w.routine.code pc1 (ca pc1) → Enters w pc1 k n a s c1 z
      → Runs w c1 (pc1 + length (ca pc1)) n z (Holds r a d) (va a s))
      → ((s : State) (c1 : Conf) (pc1 z : ℕ) → AreAt w.routine.code pc1 (cb pc1) → Enters w pc1 k n a s c1 z
      → Runs w c1 (pc1 + length (cb pc1)) n z (Holds r a d) (vb a s))
      → Runs w c (pc + length (two pc ct (λ p1. choice (jump_on jump.False f) p1 ca cb))) n q (Holds r a d)
      (bind vt (λ x s1. bind (value_unless_empty (gang_of w) (kept_by is_true a x) s1 va)
      (λ m s2. bind (value_unless_empty (gang_of w) (kept_by is_false a x) s2 vb) (λ z s3. Gives (selected a x m z) s3))))
  choose_one r d c pc k n q a vt va vb f ct ca cb em lk some inside has rt ra rb =
      bind_runs w ready c p1 n 2 q (Holds Uniform a f) vt _ end n (Holds r a d) rt
      (λ m s ok. subst (λ x. Runs w c end n q (Holds r a d)
      (bind (value_unless_empty (gang_of w) (kept_by is_true a x) s va)
      (λ m s2. bind (value_unless_empty (gang_of w) (kept_by is_false a x) s2 vb) (λ z s3. Gives (selected a x m z) s3)))) (sym ok.holds)
      (rest m s ok))
    where
      p1 : ℕ
      p1 = pc + length ct

      pb : ℕ
      pb = p1 + 1 + length (ca (p1 + 1)) + 1

      to : ℕ
      to = pb + length (cb pb)

      end : ℕ
      end = pc + length (two pc ct (λ p1. choice (jump_on jump.False f) p1 ca cb))

      at1 : AreAt w.routine.code p1 (jump_on jump.False f pb ∷ (ca (p1 + 1) ++ instr.Jump to ∷ cb pb))
      at1 = are_back w.routine.code pc ct _ has

      at2 : AreAt w.routine.code (p1 + 1 + length (ca (p1 + 1))) (instr.Jump to ∷ cb pb)
      at2 = are_back w.routine.code (p1 + 1) (ca (p1 + 1)) _ at1.1

      ends : to ≡ end
      ends = omega (arith, length-append ct (jump_on jump.False f pb ∷ (ca (p1 + 1) ++ instr.Jump to ∷ cb pb)), length-append (ca (p1 + 1)) (instr.Jump to ∷ cb pb))

      rest : (m : Payload) (s : State) (ok : Ok w c p1 n (2 + q) (Holds Uniform a f m) s)
          → Runs w c end n q (Holds r a d) (bind (value_unless_empty (gang_of w) (kept_by is_true a (One (ok.conf.scalars f))) s va)
          (λ m s2. bind (value_unless_empty (gang_of w) (kept_by is_false a (One (ok.conf.scalars f))) s2 vb)
          (λ z s3. Gives (selected a (One (ok.conf.scalars f)) m z) s3)))
      rest m s ok = runs_after w ready c c4 (ok.steps + 1) end n q _ _ (comes_on w c c1 c4 ok.steps 1 ok.comes (jump_comes w ready c1 p1 jump.False (register Uniform f) pb ok.at at1.0)) ok.spares ok.masks (go (is_true (c1.scalars f)) refl)
        where
          c1 : Conf
          c1 = ok.conf

          c4 : Conf
          c4 = jumped w ready c1 jump.False (register Uniform f) pb

          q1 : ℕ
          q1 = ok.steps + 1 + q

          go : (b : Bool) → is_true (c1.scalars f) ≡ b → Runs w c4 end n q1 (Holds r a d)
              (bind (value_unless_empty (gang_of w) (if b then a else nobody) s va)
              (λ m s2. bind (value_unless_empty (gang_of w) (if not b then a else nobody) s2 vb) (λ z s3. Gives (if b then m else z) s3)))
          go true e =
              subst (λ u. Runs w c4 end n q1 (Holds r a d) (bind u (λ m s2. bind (value_unless_empty (gang_of w) nobody s2 vb) (λ z s3. Gives m s3)))) (sym (unless_some (gang_of w) a s va some))
              (bind_runs w ready c4 (p1 + 1 + length (ca (p1 + 1))) n 1 q1 (Holds r a d) (va a s) _ end n (Holds r a d)
              (ra s c4 (p1 + 1) (1 + q1) (are_front w.routine.code (p1 + 1) (ca (p1 + 1)) _ at1.1)
              (record {
                at = jump_at w ready c1 p1 jump.False (register Uniform f) pb false ok.at (ap not e);
                mask = ok.masks k lk
                    ∙ em;
                some = some;
                inside = inside;
                stands = ok.stands;
                used = omega (arith, ok.bound);
                low = lk;
              }))
              (λ m s2 ok2. subst (λ u. Runs w c4 end n q1 (Holds r a d) (bind u (λ z s3. Gives m s3)))
              (sym (unless_none (gang_of w) nobody s2 vb (any_nobody (gang_of w))))
              (ok_to w ready c4 to end n q1 _ s2 ends (jump_ok c4 (p1 + 1 + length (ca (p1 + 1))) to n q1 (Holds r a d m) s2 ok2 ok2.holds
              at2.0))))
          go false e =
              subst (λ u. Runs w c4 end n q1 (Holds r a d) (bind u (λ m s2. bind (value_unless_empty (gang_of w) a s2 vb) (λ z s3. Gives z s3)))) (sym (unless_none (gang_of w) nobody s va (any_nobody (gang_of w))))
              (subst (λ u. Runs w c4 end n q1 (Holds r a d) (bind u (λ z s3. Gives z s3))) (sym (unless_some (gang_of w) a s vb some))
              (bind_runs w ready c4 to n 1 q1 (Holds r a d) (vb a s) _ end n (Holds r a d)
              (rb s c4 pb (1 + q1) at2.1 (record {
                at = jump_at w ready c1 p1 jump.False (register Uniform f) pb true ok.at (ap not e);
                mask =
                    ok.masks k lk ∙ em;
                some = some;
                inside = inside;
                stands = ok.stands;
                used = omega (arith, ok.bound);
                low = lk;
              }))
              (λ z s3 ok3. ok_less w ready c4 to end n 1 q1 _ s3 ends ok3)))

  -- ---- in lanes

  -- a side for the lanes of mask j, if there are any
  guard_value : (c : Conf) (pc j n q : ℕ) (T : Mask) (s : State) (body : ℕ → List Instr) (vb : Mask → State → Val Payload) (y : ℕ) → At w c pc
      → c.masks j ≡ T → ((p : ℕ) → T p ≡ true → Allowed w p) → Stands w s c → 1 + q ≤ 32 * s.work → j < n
      → AreAt w.routine.code pc (guard (jump_off j) pc body)
      → ((c1 : Conf) (z : ℕ) → Enters w (pc + 1) j n T s c1 z → Runs w c1 (pc + 1 + length (body (pc + 1))) n z (Holds Varying T y) (vb T s))
      → Runs w c (pc + length (guard (jump_off j) pc body)) n q (Holds Varying T y) (value_unless_empty (gang_of w) T s vb)
  guard_value c pc j n q T s body vb y at em inside st us lt has rb =
      runs_after w ready c c4 1 end n q _ _ (jump_comes w ready c pc jump.Off (mask_register j) to at has.0) (spares_all w n c) (λ r h. refl) (go (any (gang_of w) T) refl)
    where
      to : ℕ
      to = pc + 1 + length (body (pc + 1))

      end : ℕ
      end = pc + length (guard (jump_off j) pc body)

      ends : to ≡ end
      ends = omega arith

      c4 : Conf
      c4 = jumped w ready c jump.Off (mask_register j) to

      off_is : (b : Bool) → any (gang_of w) T ≡ b → jumps w.code w.routine c jump.Off (mask_register j) ≡ not b
      off_is b e = ap (λ t. not (any (gang_of w) t)) em ∙ ap not e

      go : (b : Bool) → any (gang_of w) T ≡ b → Runs w c4 end n (1 + q) (Holds Varying T y) (value_unless_empty (gang_of w) T s vb)
      go true e =
          subst (λ u. Runs w c4 end n (1 + q) (Holds Varying T y) u) (sym (unless_some (gang_of w) T s vb e))
          (subst (λ p. Runs w c4 p n (1 + q) (Holds Varying T y) (vb T s)) ends
          (rb c4 (1 + q) (record {
            at = jump_at w ready c pc jump.Off (mask_register j) to false at (off_is true e);
            mask = em;
            some = e;
            inside =
                inside;
            stands = st;
            used = omega arith;
            low = lt;
          })))
      go false e =
          let off : T ≡ nobody = is_nobody (gang_of w) T (λ p h. (inside p h).0) e in
          subst (λ u. Runs w c4 end n (1 + q) (Holds Varying T y) u) (sym (unless_none (gang_of w) T s vb e))
          (record {
            conf = c4;
            steps = 0;
            comes = comes_none w c4;
            at = at_to w c4 to end
                (jump_at w ready c pc jump.Off (mask_register j) to true at (off_is false e)) ends;
            stands = st;
            spares = spares_all w n c4;
            masks = λ i
                h. refl;
            holds = ap (λ t. Each (on t (c.vectors y))) (sym off);
            bound = omega arith;
          })

  pub choose_each : (t : Elem) (c : Conf) (pc k n q : ℕ) (a : Mask) (vt : Val Payload) (va vb : Mask → State → Val Payload) (f x y : ℕ)
      (ct : List Instr) (ca cb : ℕ → ℕ → ℕ → List Instr) → c.masks k ≡ a → k < n → ((p : ℕ) → a p ≡ true → Allowed w p)
      → Low w Varying (n + 1) f → Low w Varying (n + 2) x
      → AreAt w.routine.code pc (two pc ct (λ p1. choose_rest (w.layout.spare Varying t n) f x y p1 k n ca cb))
      → Runs w c (pc + length ct) n (5 + q) (Holds Varying a f) vt
      → ((T : Mask) (s : State) (c1 : Conf) (pc1 z : ℕ) → AreAt w.routine.code pc1 (ca pc1 n (n + 1)) → Enters w pc1 n (n + 1) T s c1 z
      → Runs w c1 (pc1 + length (ca pc1 n (n + 1))) (n + 1) z (Holds Varying T x) (va T s))
      → ((T : Mask) (s : State) (c1 : Conf) (pc1 z : ℕ) → AreAt w.routine.code pc1 (cb pc1 (n + 1) (n + 2)) → Enters w pc1 (n + 1) (n + 2) T s c1 z
      → Runs w c1 (pc1 + length (cb pc1 (n + 1) (n + 2))) (n + 2) z (Holds Varying T y) (vb T s))
      → ((T : Mask) (s : State) → KeepsBy w.layout.loaded s (va T s)) → ((T : Mask) (s : State) → KeepsBy w.layout.loaded s (vb T s))
      → Runs w c (pc + length (two pc ct (λ p1. choose_rest (w.layout.spare Varying t n) f x y p1 k n ca cb))) n q
      (Holds Varying a (w.layout.spare Varying t n)) (bind vt
      (λ x s1. bind (value_unless_empty (gang_of w) (kept_by is_true a x) s1 va)
      (λ m s2. bind (value_unless_empty (gang_of w) (kept_by is_false a x) s2 vb) (λ z s3. Gives (selected a x m z) s3))))
  choose_each t c pc k n q a vt va vb f x y ct ca cb em lk inside low_f low_x has rt ra rb still_a still_b = bind_runs w ready c p1 n 5 q (Holds Varying a f) vt _ end n (Holds Varying a d) rt rest
    where
      d : ℕ
      d = w.layout.spare Varying t n

      p1 : ℕ
      p1 = pc + length ct

      side : List Instr
      side = guard (jump_off n) (p1 + 1) (λ pc1. ca pc1 n (n + 1))

      p2 : ℕ
      p2 = p1 + 1 + length side

      other : List Instr
      other = guard (jump_off (n + 1)) (p2 + 1) (λ pc2. cb pc2 (n + 1) (n + 2))

      p3 : ℕ
      p3 = p2 + 1 + length other

      end : ℕ
      end = pc + length (two pc ct (λ p1. choose_rest d f x y p1 k n ca cb))

      at1 : AreAt w.routine.code p1 (where_so n f k ∷ (side ++ the_others (n + 1) k n ∷ (other ++ select Varying d f x y k ∷ [])))
      at1 = are_back w.routine.code pc ct _ has

      at_side : AreAt w.routine.code (p1 + 1) side
      at_side = are_front w.routine.code (p1 + 1) side _ at1.1

      at2 : AreAt w.routine.code p2 (the_others (n + 1) k n ∷ (other ++ select Varying d f x y k ∷ []))
      at2 = are_back w.routine.code (p1 + 1) side _ at1.1

      at_other : AreAt w.routine.code (p2 + 1) other
      at_other = are_front w.routine.code (p2 + 1) other _ at2.1

      at3 : AreAt w.routine.code p3 (select Varying d f x y k ∷ [])
      at3 = are_back w.routine.code (p2 + 1) other _ at2.1

      ends : p3 + 1 ≡ end
      ends = omega (
        arith,
        length-append ct (where_so n f k ∷ (side ++ the_others (n + 1) k n ∷ (other ++ select Varying d f x y k ∷ []))),
        length-append side (the_others (n + 1) k n ∷ (other ++ select Varying d f x y k ∷ [])),
        length-append other (select Varying d f x y k ∷ []),
      )

      rest : (b : Payload) (s : State) (ok : Ok w c p1 n (5 + q) (Holds Varying a f b) s)
          → Runs w c end n q (Holds Varying a d) (bind (value_unless_empty (gang_of w) (kept_by is_true a b) s va)
          (λ m s2. bind (value_unless_empty (gang_of w) (kept_by is_false a b) s2 vb) (λ z s3. Gives (selected a b m z) s3)))
      rest b s ok =
          subst (λ g. Runs w c end n q (Holds Varying a d)
          (bind (value_unless_empty (gang_of w) g s va) (λ m s2. bind (value_unless_empty (gang_of w) (kept_by is_false a b) s2 vb)
          (λ z s3. Gives (selected a b m z) s3)))) (sym (at_kept Varying a is_true b ∙ ap (kept_by is_true a) ok.holds))
          (subst (λ g. Runs w c end n q (Holds Varying a d)
          (bind (value_unless_empty (gang_of w) T s va) (λ m s2. bind (value_unless_empty (gang_of w) g s2 vb)
          (λ z s3. Gives (selected a b m z) s3)))) (sym (at_kept Varying a is_false b ∙ ap (kept_by is_false a) ok.holds))
          (runs_after w ready c c2 (ok.steps + 1) end n q _ _ (comes_on w c c1 c2 ok.steps 1 ok.comes (where_comes w ready c1 p1 n f k ok.at at1.0)) ok.spares (λ r h. let ne : r ≢ n = omega arith in put_other c1.masks n x2 r ne ∙ ok.masks r h)
          (bind_runs w ready c2 p2 (n + 1) 3 q1 (λ m c'. Holds Varying T x m c' × Keeps w (n + 1) c2 c') (value_unless_empty (gang_of w) T s va) _ end n (Holds Varying a d)
          (runs_kept w c2 p2 (n + 1) (3 + q1) (Holds Varying T x) (value_unless_empty (gang_of w) T s va) s ok.stands
          (unless_still w (gang_of w) T s va (still_a T s))
          (guard_value c2 (p1 + 1) n (n + 1) (3 + q1) T s (λ pc1. ca pc1 n (n + 1)) va x (masked_at w ready c1 p1 n x2 ok.at) e2
          (where_inside (Allowed w) a is_true v inside) ok.stands (omega (arith, ok.bound)) (omega arith) at_side
          (λ c3 z en. ra T s c3 (p1 + 1 + 1) z at_side.1 en)))
          second)))
        where
          c1 : Conf
          c1 = ok.conf

          v : Lanes
          v = c1.vectors f

          T : Mask
          T = where_true is_true (on a v)

          F : Mask
          F = where_true is_false (on a v)

          x2 : Mask
          x2 = where_true is_true (on (c1.masks k) v)

          c2 : Conf
          c2 = masked w ready c1 n x2

          q1 : ℕ
          q1 = ok.steps + 1 + q

          e2 : c2.masks n ≡ T
          e2 = put_same c1.masks n x2 ∙ ap (λ g. where_true is_true (on g v)) (ok.masks k lk ∙ em)

          second : (m : Payload) (s2 : State) (ok2 : Ok w c2 p2 (n + 1) (3 + q1) (λ c'. Holds Varying T x m c' × Keeps w (n + 1) c2 c') s2)
              → Runs w c2 end n q1 (Holds Varying a d) (bind (value_unless_empty (gang_of w) F s2 vb) (λ z s3. Gives (selected a b m z) s3))
          second m s2 ok2 =
              runs_after w ready c2 c4 (ok2.steps + 1) end n q1 _ _
              (comes_on w c2 c3 c4 ok2.steps 1 ok2.comes (others_comes w ready c3 p2 (n + 1) k n ok2.at at2.0))
              (spares_less w n (n + 1) c2 c3 (omega arith) ok2.spares)
              (λ r h. let ne : r ≢ n + 1 = omega arith in put_other c3.masks (n + 1) x4 r ne ∙ ok2.masks r (omega arith))
              (bind_runs w ready c4 p3 (n + 2) 1 q2 (λ z c'. Holds Varying F y z c' × Keeps w (n + 2) c4 c') (value_unless_empty (gang_of w) F s2 vb) _ end n (Holds Varying a d)
              (runs_kept w c4 p3 (n + 2) (1 + q2) (Holds Varying F y) (value_unless_empty (gang_of w) F s2 vb) s2 ok2.stands
              (unless_still w (gang_of w) F s2 vb (still_b F s2))
              (guard_value c4 (p2 + 1) (n + 1) (n + 2) (1 + q2) F s2 (λ pc2. cb pc2 (n + 1) (n + 2)) vb y
              (masked_at w ready c3 p2 (n + 1) x4 ok2.at) e4 (where_inside (Allowed w) a is_false v inside) ok2.stands (omega (arith, ok2.bound))
              (omega arith) at_other (λ c5 z en. rb F s2 c5 (p2 + 1 + 1) z at_other.1 en)))
              third)
            where
              c3 : Conf
              c3 = ok2.conf

              x4 : Mask
              x4 = without (c3.masks k) (c3.masks n)

              c4 : Conf
              c4 = masked w ready c3 (n + 1) x4

              q2 : ℕ
              q2 = ok2.steps + 1 + q1

              kn : k ≢ n
              kn = omega arith

              ek : c3.masks k ≡ a
              ek = ok2.masks k (omega arith) ∙ put_other c1.masks n x2 k kn ∙ ok.masks k lk ∙ em

              e4 : c4.masks (n + 1) ≡ F
              e4 = put_same c3.masks (n + 1) x4 ∙ ap (λ g. without g (c3.masks n)) ek ∙ ap (without a) (ok2.masks n (omega arith) ∙ e2) ∙ others_where a v

              third : (z : Payload) (s3 : State) (ok3 : Ok w c4 p3 (n + 2) (1 + q2) (λ c'. Holds Varying F y z c' × Keeps w (n + 2) c4 c') s3) → Runs w c4 end n q2 (Holds Varying a d) (Gives (selected a b m z) s3)
              third z s3 ok3 =
                  let c5 = ok3.conf in
                  let kn1 : k ≢ n + 1 = omega arith in
                  let chosen = λ (p : ℕ). if is_true (c5.vectors f p) then c5.vectors x p else c5.vectors y p in
                  let ev : c5.vectors f ≡ v = ok3.holds.1.vectors_stay f (low_more w Varying (n + 1) (n + 2) f (omega arith) low_f) ∙ ok2.holds.1.vectors_stay f low_f in
                  let eu : c5.vectors x ≡ c3.vectors x = ok3.holds.1.vectors_stay x low_x in
                  let hm : spread T m ≡ on T (c5.vectors x) = ap (spread nobody) ok2.holds.0 ∙ ap (on T) (sym eu) in
                  let hz : spread F z ≡ on F (c5.vectors y) = ap (spread nobody) ok3.holds.0 in
                  let ec : on a chosen ≡ layer (on T (c5.vectors x)) (on F (c5.vectors y)) = select_is a (c5.vectors x) (c5.vectors y) (c5.vectors f)
                  ∙ ap (λ g. layer (on (where_true is_true (on a g)) (c5.vectors x)) (on (where_true is_false (on a g)) (c5.vectors y))) ev in
                  write_runs w ready c4 c5 ok3.steps p3 end n q2 a s3 (select Varying d f x y k) Varying t None Divide no_place (selected a b m z)
                  (Each (on a chosen)) ok3.comes ok3.at ends at3.0 ok3.stands (spares_less w n (n + 2) c4 c5 (omega arith) ok3.spares)
                  (λ r h. ok3.masks r (omega arith)) (omega (arith, ok3.bound))
                  (selected_at a b m z (c5.vectors x) (c5.vectors y) v ok.holds hm hz ∙ sym (ap Each ec))
                  (λ old. ap Each (filled_on a chosen old)) (ap (λ g. Go (set_at Varying c5 d (Each (on g chosen))))
                  (ok3.masks k (omega arith) ∙ put_other c3.masks (n + 1) x4 k kn1 ∙ ek))

  -- a choice by a test of either rate; the sides are taken at the slots that this leaves
  pub choose_runs : (g r : Rate) (t : Elem) (x y : TExpr) (c : Conf) (pc k n q : ℕ) (a : Mask) (vt : Val Payload) (va vb : Mask → State → Val Payload)
      (f : ℕ) (ct : List Instr) (ca cb : ℕ → ℕ → ℕ → List Instr) → Reaches g r → c.masks k ≡ a → k < n → any (gang_of w) a ≡ true
      → ((p : ℕ) → a p ≡ true → Allowed w p) → Low w g (n + 1) f → Low w r (first_slot g n + 1) (operand w.layout r x (first_slot g n))
      → AreAt w.routine.code pc (choose_code w.layout g r t x y f pc k n ct ca cb) → Runs w c (pc + length ct) n (5 + q) (Holds g a f) vt
      → ((T : Mask) (s : State) (c1 : Conf) (pc1 z u j : ℕ) → u ≤ 3 + z → AreAt w.routine.code pc1 (ca pc1 j (first_slot g n))
      → Enters w pc1 j (first_slot g n) T s c1 z → Runs w c1 (pc1 + length (ca pc1 j (first_slot g n))) (first_slot g n) u
      (Holds r T (operand w.layout r x (first_slot g n))) (va T s))
      → ((T : Mask) (s : State) (c1 : Conf) (pc1 z u j : ℕ) → u ≤ 3 + z → AreAt w.routine.code pc1 (cb pc1 j (second_slot g n))
      → Enters w pc1 j (second_slot g n) T s c1 z → Runs w c1 (pc1 + length (cb pc1 j (second_slot g n))) (second_slot g n) u
      (Holds r T (operand w.layout r y (second_slot g n))) (vb T s)) → ((T : Mask) (s : State) → KeepsBy w.layout.loaded s (va T s))
      → ((T : Mask) (s : State) → KeepsBy w.layout.loaded s (vb T s))
      → Runs w c (pc + length (choose_code w.layout g r t x y f pc k n ct ca cb)) n q (Holds r a (w.layout.spare r t n))
      (bind vt (λ x s1. bind (value_unless_empty (gang_of w) (kept_by is_true a x) s1 va)
      (λ m s2. bind (value_unless_empty (gang_of w) (kept_by is_false a x) s2 vb) (λ z s3. Gives (selected a x m z) s3))))
  choose_runs Uniform r t x y c pc k n q a vt va vb f ct ca cb re em lk some inside low_f low_x has rt ra rb still_a still_b =
      choose_one r (w.layout.spare r t n) c pc k n q a vt va vb f ct
      (λ pc2. ca pc2 k n ++ move_code r (w.layout.spare r t n) (operand w.layout r x n) k)
      (λ pc2. cb pc2 k n ++ move_code r (w.layout.spare r t n) (operand w.layout r y n) k) em lk some inside has (fewer vt rt)
      (λ s c1 pc1 z at en. side x (ca pc1 k n) (va a s) c1 pc1 z at en.mask en.low
      (ra a s c1 pc1 z (1 + z) k (omega arith) (are_front w.routine.code pc1 (ca pc1 k n) _ at) en))
      (λ s c1 pc1 z at en. side y (cb pc1 k n) (vb a s) c1 pc1 z at en.mask en.low
      (rb a s c1 pc1 z (1 + z) k (omega arith) (are_front w.routine.code pc1 (cb pc1 k n) _ at) en))
    where
      fewer : (v : Val Payload) → Runs w c (pc + length ct) n (5 + q) (Holds Uniform a f) v → Runs w c (pc + length ct) n (2 + q) (Holds Uniform a f) v
      fewer v run =
          let e : 5 + q ≡ 3 + (2 + q) = omega arith in
          runs_on w ready c (pc + length ct) n 3 (2 + q) _ v (pc + length ct) n _ (subst (λ z. Runs w c (pc + length ct) n z (Holds Uniform a f) v) e run) (λ m s ok. ok_less w ready c _ _ n 3 (2 + q) _ s refl ok)

      side : (e : TExpr) (code : List Instr) (v : Val Payload) (c1 : Conf) (pc1 z : ℕ)
          → AreAt w.routine.code pc1 (code ++ move_code r (w.layout.spare r t n) (operand w.layout r e n) k) → c1.masks k ≡ a → k < n
          → Runs w c1 (pc1 + length code) n (1 + z) (Holds r a (operand w.layout r e n)) v
          → Runs w c1 (pc1 + length (code ++ move_code r (w.layout.spare r t n) (operand w.layout r e n) k)) n z (Holds r a (w.layout.spare r t n)) v
      side e code v c1 pc1 z at e1 lt run =
          let mv = move_code r (w.layout.spare r t n) (operand w.layout r e n) k in
          let to : pc1 + length code + length mv ≡ pc1 + length (code ++ mv) = omega (arith, length-append code mv) in
          subst (λ p. Runs w c1 p n z (Holds r a (w.layout.spare r t n)) v) to
          (runs_on w ready c1 (pc1 + length code) n 1 z _ v _ n _ run
          (λ m s ok. move_ok w ready c1 (pc1 + length code) k n z a m s r t (operand w.layout r e n) ok (ok.masks k lt ∙ e1)
          (are_back w.routine.code pc1 code mv at)))
  choose_runs Varying Uniform t x y c pc k n q a vt va vb f ct ca cb re em lk some inside low_f low_x has rt ra rb still_a still_b = absurd re
  choose_runs Varying Varying t x y c pc k n q a vt va vb f ct ca cb re em lk some inside low_f low_x has rt ra rb still_a still_b =
      choose_each t c pc k n q a vt va vb f (operand w.layout Varying x (n + 1)) (operand w.layout Varying y (n + 2)) ct ca cb em lk inside low_f
      (low_more w Varying (n + 1 + 1) (n + 2) _ (omega arith) low_x) has rt (λ T s c1 pc1 z at en. ra T s c1 pc1 z z n (omega arith) at en)
      (λ T s c1 pc1 z at en. rb T s c1 pc1 z z (n + 1) (omega arith) at en) still_a still_b

  -- the test comes first
  pub choose_front : (g r : Rate) (t : Elem) (x y : TExpr) (f pc k n : ℕ) (ct : List Instr) (ca cb : ℕ → ℕ → ℕ → List Instr) → AreAt w.routine.code pc (choose_code w.layout g r t x y f pc k n ct ca cb) → AreAt w.routine.code pc ct
  choose_front Uniform r t x y f pc k n ct ca cb has = are_front w.routine.code pc ct _ has
  choose_front Varying r t x y f pc k n ct ca cb has = are_front w.routine.code pc ct _ has
