-- `&&` and `||`: the right side for those that need it.
use Rattle.std.proofs.Common.{◌≡◌, ◌≢◌, ℕ, zero, suc, ◌+◌, ◌<◌, ◌≤◌, List, [], ◌∷◌, ◌++◌, length, Option, Some, None, Bool, true, false, refl, sym, ap, ◌∙◌, subst, arith, length-append}
use Rattle.std.specs.Prelude.{slice_get, if◌then◌else◌, not, ◌&&◌, ◌||◌}
use Rattle.std.proofs.Common.{◌⊎◌, inl, inr}
use Rattle.std.proofs.Math.Path.{fun_ext}
use Rattle.isp_lower_code.proofs.Splits.{split_at}
use Rattle.isp_base.specs.Maps.{Lanes, on, over, or_old, holds, where_true}
use Rattle.isp_base.specs.Sets.{Mask, nobody, without, any}
use Rattle.isp_base.specs.declared.trap.TrapKind.TheVariants.{Divide}
use Rattle.isp_base.specs.declared.types.Elem.TheVariants.{Bool as Truth}
use Rattle.isp_base.specs.declared.types.Rate.TheVariants.{Uniform, Varying}
use Rattle.isp_code.specs.Calls.{no_place}
use Rattle.isp_code.specs.Conf.{Conf, Go}
use Rattle.isp_code.specs.Lines.{jumps}
use Rattle.isp_code.specs.declared.instr.Instr.{Instr}
use Rattle.isp_code.specs.declared.instr.JumpTest.TheVariants as jump
use Rattle.isp_typed.specs.declared.variable.Logic.{Logic}
use Rattle.isp_typed.specs.declared.variable.Logic.TheVariants.{And, Or}
use Rattle.isp_meaning.specs.State.{State}
use Rattle.isp_meaning.specs.Payloads.{Payload, One, Each, nothing, is_true, is_false, spread, kept_by, layer, first_of_two}
use Rattle.isp_meaning.specs.Outcomes.{Val, Gives, bind, if_so, value_unless_empty}
use Rattle.isp_meaning.specs.Expressions.{needs, settled}
use Rattle.isp_lower_code.specs.Layout.{register, mask_register}
use Rattle.isp_lower_code.specs.Setting.{Setting, IsSettled, gang_of, AreAt, at_rate, Holds, Allowed}
use Rattle.isp_lower_code.specs.Runs.{Enters, Ok, Runs}
use Rattle.isp_lower_code.specs.Instructions.{copy, jump_on, jump_off}
use Rattle.isp_lower_code.specs.Pieces.{move_code, needing, decided, logic_code}
use Rattle.isp_lower_code.proofs.Base.{are_front, are_back, put_same, put_other, comes_none, comes_on, at_to, spares_all}
use Rattle.isp_lower_code.proofs.Rates.{at_kept, one_holds}
use Rattle.isp_lower_code.proofs.Lines.{set_at, copy_line}
use Rattle.isp_lower_code.proofs.Combine.{runs_after, bind_runs, runs_on, ok_to, ok_down, write_any}
use Rattle.isp_lower_code.proofs.Jumps.{jumped, jump_comes, jump_at, masked, where_comes, others_comes, masked_at, copy_ok, move_ok}

pub any_nobody : (n : ℕ) → any n nobody ≡ false
any_nobody zero = refl
any_nobody (suc n) = ap (λ b. b || false) (any_nobody n)

not_not : (b : Bool) → not (not b) ≡ b
not_not true = refl
not_not false = refl

-- value of a part, whose set has members or none
pub unless_some : (gang : ℕ) (a : Mask) (s : State) (v : Mask → State → Val Payload) → any gang a ≡ true → value_unless_empty gang a s v ≡ v a s
unless_some gang a s v e = ap (λ d. if_so d (v a) (Gives nothing) s) e

pub unless_none : (gang : ℕ) (a : Mask) (s : State) (v : Mask → State → Val Payload) → any gang a ≡ false → value_unless_empty gang a s v ≡ Gives nothing s
unless_none gang a s v e = ap (λ d. if_so d (v a) (Gives nothing) s) e

module _ (w : Setting) (ready : IsSettled w) where
  jumps_is : (c : Conf) (g : Logic) (d : ℕ) → jumps w.code w.routine c (decided g) (register Uniform d) ≡ not (needs g (c.scalars d))
  jumps_is c And d = refl
  jumps_is c Or d = sym (not_not (is_true (c.scalars d)))

  -- one value decides for all
  pub logic_one : (g : Logic) (c : Conf) (pc k n q : ℕ) (a : Mask) (va : Val Payload) (vb : Mask → State → Val Payload) (x y : ℕ) (ca : List Instr)
      (cb : ℕ → ℕ → List Instr) → c.masks k ≡ a → k < n → any (gang_of w) a ≡ true → ((p : ℕ) → a p ≡ true → Allowed w p)
      → AreAt w.routine.code pc (logic_code Uniform g (w.layout.spare Uniform Truth n) x y pc k n ca cb)
      → Runs w c (pc + length ca) n (1 + (1 + q)) (Holds Uniform a x) va
      → ((s : State) (c1 : Conf) (pc1 z : ℕ) → AreAt w.routine.code pc1 (cb pc1 k) → Enters w pc1 k (n + 1) a s c1 z
      → Runs w c1 (pc1 + length (cb pc1 k)) (n + 1) (1 + z) (Holds Uniform a y) (vb a s))
      → Runs w c (pc + length (logic_code Uniform g (w.layout.spare Uniform Truth n) x y pc k n ca cb)) n q
      (Holds Uniform a (w.layout.spare Uniform Truth n))
      (bind va (λ m s1. bind (value_unless_empty (gang_of w) (kept_by (needs g) a m) s1 vb) (λ z s2. Gives (settled g a m z) s2)))
  logic_one g c pc k n q a va vb x y ca cb em lk some inside has ra rb =
      bind_runs w ready c p1 n 1 q (Holds Uniform a d) va _ _ n _
      (runs_on w ready c (pc + length ca) n 1 (1 + q) (Holds Uniform a x) va p1 n (Holds Uniform a d) ra
      (λ m s ok. ok_to w ready c _ p1 n (1 + q) _ s here (move_ok w ready c (pc + length ca) k n (1 + q) a m s Uniform Truth x ok (ok.masks k lk ∙ em) (are_back w.routine.code pc ca mv (are_front w.routine.code pc (ca ++ mv) _ has)))))
      (λ m s ok. subst (λ m. Runs w c end n q (Holds Uniform a d) (bind (value_unless_empty (gang_of w) (kept_by (needs g) a m) s vb) (λ z s2. Gives (settled g a m z) s2))) (sym ok.holds) (rest m s ok))
    where
      d : ℕ
      d = w.layout.spare Uniform Truth n

      mv : List Instr
      mv = move_code Uniform (w.layout.spare Uniform Truth n) x k

      p1 : ℕ
      p1 = pc + length (ca ++ move_code Uniform (w.layout.spare Uniform Truth n) x k)

      end : ℕ
      end = pc + length (logic_code Uniform g (w.layout.spare Uniform Truth n) x y pc k n ca cb)

      here : pc + length ca + length (move_code Uniform (w.layout.spare Uniform Truth n) x k) ≡ pc + length (ca ++ move_code Uniform (w.layout.spare Uniform Truth n) x k)
      here = omega (arith, length-append ca (move_code Uniform (w.layout.spare Uniform Truth n) x k))

      rest : (m : Payload) (s : State) (ok : Ok w c (pc + length (ca ++ move_code Uniform (w.layout.spare Uniform Truth n) x k)) n (1 + q)
          (Holds Uniform a (w.layout.spare Uniform Truth n) m) s)
          → Runs w c (pc + length (logic_code Uniform g (w.layout.spare Uniform Truth n) x y pc k n ca cb)) n q
          (Holds Uniform a (w.layout.spare Uniform Truth n))
          (bind (value_unless_empty (gang_of w) (kept_by (needs g) a (One (ok.conf.scalars (w.layout.spare Uniform Truth n)))) s vb)
          (λ z s2. Gives (settled g a (One (ok.conf.scalars (w.layout.spare Uniform Truth n))) z) s2))
      rest m s ok = runs_after w ready c c4 (ok.steps + 1) end n q _ _ (comes_on w c c1 c4 ok.steps 1 ok.comes (jump_comes w ready c1 p1 (decided g) (register Uniform d) to ok.at at1.0)) ok.spares ok.masks (go (needs g (c1.scalars d)) refl)
        where
          c1 : Conf
          c1 = ok.conf

          last : List Instr
          last = copy Uniform (w.layout.spare Uniform Truth n) y k ∷ []

          to : ℕ
          to = p1 + 1 + length (cb (p1 + 1) k ++ last)

          c4 : Conf
          c4 = jumped w ready c1 (decided g) (register Uniform d) to

          at1 : AreAt w.routine.code p1 (jump_on (decided g) d to ∷ (cb (p1 + 1) k ++ last))
          at1 = are_back w.routine.code pc (ca ++ mv) _ has

          q1 : ℕ
          q1 = ok.steps + 1 + q

          pcy : ℕ
          pcy = p1 + 1 + length (cb (p1 + 1) k)

          ends : p1 + 1 + length (cb (p1 + 1) k) + 1 ≡ end
          ends = omega (arith, length-append (ca ++ mv) (jump_on (decided g) d to ∷ (cb (p1 + 1) k ++ last)), length-append (cb (p1 + 1) k) last)

          go : (b : Bool) → needs g (c1.scalars d) ≡ b → Runs w c4 end n (ok.steps + 1 + q) (Holds Uniform a d) (bind (value_unless_empty (gang_of w) (if b then a else nobody) s vb) (λ z s2. Gives (if b then z else One (c1.scalars d)) s2))
          go true e =
              subst (λ v. Runs w c4 end n q1 (Holds Uniform a d) (bind v (λ z s2. Gives z s2))) (sym (unless_some (gang_of w) a s vb some))
              (bind_runs w ready c4 pcy (n + 1) 1 q1 (Holds Uniform a y) (vb a s) (λ z s2. Gives z s2) end n (Holds Uniform a d)
              (rb s c4 (p1 + 1) q1 (are_front w.routine.code (p1 + 1) (cb (p1 + 1) k) last at1.1)
              (record {
                at = jump_at w ready c1 p1 (decided g) (register Uniform d) to false ok.at (jumps_is c1 g d ∙ ap not e);
                mask = ok.masks k
                    lk ∙ em;
                some = some;
                inside = inside;
                stands = ok.stands;
                used = omega (arith, ok.bound);
                low = omega arith;
              }))
              (λ z s2 ok2. ok_to w ready c4 (pcy + 1) end n q1 _ s2 ends
              (copy_ok w ready c4 pcy k n q1 a z s2 Uniform Truth y (ok_down w ready c4 pcy n (n + 1) (1 + q1) _ s2 (omega arith) ok2)
              (ok2.masks k (omega arith) ∙ ok.masks k lk ∙ em) (are_back w.routine.code (p1 + 1) (cb (p1 + 1) k) last at1.1).0)))
          go false e =
              subst (λ v. Runs w c4 end n q1 (Holds Uniform a d) (bind v (λ z s2. Gives (One (c1.scalars d)) s2))) (sym (unless_none (gang_of w) nobody s vb (any_nobody (gang_of w))))
              (record {
                conf = c4;
                steps = 0;
                comes = comes_none w c4;
                at = at_to w c4 to end
                    (jump_at w ready c1 p1 (decided g) (register Uniform d) to true ok.at (jumps_is c1 g d ∙ ap not e))
                    (omega (arith, ends, length-append (cb (p1 + 1) k) last));
                stands = ok.stands;
                spares = spares_all w n c4;
                masks = λ i h. refl;
                holds = refl;
                bound = omega (arith, ok.bound);
              })

-- ---- in lanes

pub others_where : (a : Mask) (v : Lanes) → without a (where_true is_true (on a v)) ≡ where_true is_false (on a v)
others_where a v = fun_ext (λ p. at (a p) p)
  where
    at : (b : Bool) (p : ℕ) → (b && not (holds is_true (if b then Some (v p) else None))) ≡ holds is_false (if b then Some (v p) else None)
    at true p = refl
    at false p = refl

-- a value written over another one in some of its lanes
pub layer_over : (a : Mask) (f : ℕ → Bool) (u v : Lanes) → on a (over (on (where_true f (on a v)) u) v) ≡ layer (on (where_true f (on a v)) u) (on a v)
layer_over a f u v = fun_ext (λ p. at (a p) (f (v p)) p refl)
  where
    chosen : Bool → ℕ → Option ℕ
    chosen b p = if b then Some (u p) else None

    at : (b d : Bool) (p : ℕ) → f (v p) ≡ d → (if b then Some (or_old (if holds f (if b then Some (v p) else None) then Some (u p) else None) (v p))
        else None) ≡ first_of_two (if holds f (if b then Some (v p) else None) then Some (u p) else None) (if b then Some (v p) else None)
    at true true p e = ap (λ z. Some (or_old (if z then Some (u p) else None) (v p))) e ∙ sym (ap (λ z. first_of_two (if z then Some (u p) else None) (Some (v p))) e)
    at true false p e = ap (λ z. Some (or_old (if z then Some (u p) else None) (v p))) e ∙ sym (ap (λ z. first_of_two (if z then Some (u p) else None) (Some (v p))) e)
    at false d p e = refl

layer_same : (a : Mask) (u v : Lanes) → layer (on a u) (on a v) ≡ on a u
layer_same a u v = fun_ext (λ p. at (a p) p)
  where
    at : (b : Bool) (p : ℕ) → first_of_two (if b then Some (u p) else None) (if b then Some (v p) else None) ≡ (if b then Some (u p) else None)
    at true p = refl
    at false p = refl

-- what `&&` and `||` give, where the right side was taken in the lanes that need it
settled_at : (g : Logic) (a : Mask) (m z : Payload) (u v : Lanes) → at_rate Varying a m ≡ Each (on a v)
    → spread (where_true (needs g) (on a v)) z ≡ on (where_true (needs g) (on a v)) u
    → at_rate Varying a (settled g a m z) ≡ Each (layer (on (where_true (needs g) (on a v)) u) (on a v))
settled_at g a (Each x) z u v hm hz =
    let ex : x ≡ on a v = ap (spread nobody) hm in
    ap (λ x. Each (layer (spread (where_true (needs g) x) z) x)) ex ∙ ap (λ y. Each (layer y (on a v))) hz
settled_at g a (One x) z u v hm hz =
    let ex : on a (λ p. x) ≡ on a v = ap (spread nobody) hm in
    let es : where_true (needs g) (on a v) ≡ (if needs g x then a else nobody) = sym (one_holds a (needs g) x ∙ ap (where_true (needs g)) ex) in
    let hz2 : spread (if needs g x then a else nobody) z ≡ on (if needs g x then a else nobody) u = subst (λ y. spread y z ≡ on y u) es hz in
    go (needs g x) hz2 ∙ ap (λ y. Each (layer (on y u) (on a (λ p. x)))) (sym es) ∙ ap (λ y. Each (layer (on (where_true (needs g) (on a v)) u) y)) ex
  where
    go : (b : Bool) → spread (if b then a else nobody) z ≡ on (if b then a else nobody) u → Each (spread a (if b then z else One x)) ≡ Each (layer (on (if b then a else nobody) u) (on a (λ p. x)))
    go true h = ap Each (h ∙ sym (layer_same a u (λ p. x)))
    go false h = refl

any_below : (n : ℕ) (a : Mask) → any n a ≡ false → (p : ℕ) → p < n → a p ≡ false
any_below zero a e p lt = absurd (omega arith)
any_below (suc n) a e p lt = go (any_below n a) (any n a) (a n) refl refl e (split_at p n)
  where
    go : (any n a ≡ false → (p : ℕ) → p < n → a p ≡ false) → (b d : Bool) → any n a ≡ b → a n ≡ d → (b || d) ≡ false → (p < n) ⊎ (n ≤ p) → a p ≡ false
    go ih true d e1 e2 h z = absurd (cc)
    go ih false true e1 e2 h z = absurd (cc)
    go ih false false e1 e2 h (inl l) = ih e1 p l
    go ih false false e1 e2 h (inr l) = let same : n ≡ p = omega arith in subst (λ z. a z ≡ false) same e2

-- a set inside the gang that has no member
pub is_nobody : (n : ℕ) (a : Mask) → ((p : ℕ) → a p ≡ true → p < n) → any n a ≡ false → a ≡ nobody
is_nobody n a inside e = fun_ext (λ p. at p (a p) refl)
  where
    at : (p : ℕ) (b : Bool) → a p ≡ b → b ≡ false
    at p false h = refl
    at p true h = let no : true ≡ false = sym h ∙ any_below n a e p (inside p h) in absurd (cc)

-- lanes of a set that pass a test are in the set
pub where_inside : (A : ℕ → Type 0) (a : Mask) (f : ℕ → Bool) (v : Lanes) → ((p : ℕ) → a p ≡ true → A p) → (p : ℕ) → where_true f (on a v) p ≡ true → A p
where_inside A a f v inside p h = inside p (at (a p) h)
  where
    at : (b : Bool) → holds f (if b then Some (v p) else None) ≡ true → b ≡ true
    at true h = refl
    at false h = absurd (cc)

module _ (w : Setting) (ready : IsSettled w) where
  -- the left value is in slot n, and those that need the right side are in mask n
  abbrev Decided : Logic → ℕ → Mask → Payload → Conf → Type 0
  Decided g n a m c = Holds Varying a (w.layout.spare Varying Truth n) m c × (c.masks n ≡ where_true (needs g) (on a (c.vectors (w.layout.spare Varying Truth n))))

  needing_ok : (g : Logic) (c : Conf) (pc k n q : ℕ) (a : Mask) (m : Payload) (s : State) → k < n → c.masks k ≡ a
      → AreAt w.routine.code pc (needing g n (w.layout.spare Varying Truth n) k)
      → Ok w c pc n (2 + q) (Holds Varying a (w.layout.spare Varying Truth n) m) s
      → Ok w c (pc + length (needing g n (w.layout.spare Varying Truth n) k)) n q (Decided g n a m) s
  needing_ok And c pc k n q a m s lk em has ok =
      let d = w.layout.spare Varying Truth n in
      let c2 = ok.conf in
      let x3 = where_true is_true (on (c2.masks k) (c2.vectors d)) in
      let c3 = masked w ready c2 n x3 in
      record {
        conf = c3;
        steps = ok.steps + 1;
        comes = comes_on w c c2 c3 ok.steps 1 ok.comes (where_comes w ready c2 pc n d k ok.at has.0);
        at = masked_at w ready c2 pc n x3 ok.at;
        stands = ok.stands;
        spares = ok.spares;
        masks = λ r h. let ne : r ≢ n = omega arith in put_other c2.masks n x3 r ne ∙ ok.masks r h;
        holds = (ok.holds, put_same c2.masks n x3 ∙ ap (λ b. where_true is_true (on b (c2.vectors d))) (ok.masks k lk ∙ em));
        bound = omega (arith, ok.bound);
      }
  needing_ok Or c pc k n q a m s lk em has ok =
      let d = w.layout.spare Varying Truth n in
      let c2 = ok.conf in
      let x3 = where_true is_true (on (c2.masks k) (c2.vectors d)) in
      let c3 = masked w ready c2 n x3 in
      let x4 = without (c3.masks k) (c3.masks n) in
      let c4 = masked w ready c3 n x4 in
      let kn : k ≢ n = omega arith in
      let ek : c2.masks k ≡ a = ok.masks k lk ∙ em in
      let e3 : c3.masks n ≡ where_true is_true (on a (c2.vectors d)) = put_same c2.masks n x3 ∙ ap (λ b. where_true is_true (on b (c2.vectors d))) ek in
      let e4 : x4 ≡ where_true is_false (on a (c2.vectors d)) = ap (λ b. without b (c3.masks n)) (put_other c2.masks n x3 k kn ∙ ek) ∙ ap (without a) e3 ∙ others_where a (c2.vectors d) in
      record {
        conf = c4;
        steps = ok.steps + 2;
        comes = comes_on w c c2 c4 ok.steps 2 ok.comes (comes_on w c2 c3 c4 1 1 (where_comes w ready c2 pc n d k ok.at has.0) (others_comes w ready c3 (pc + 1) n k n (masked_at w ready c2 pc n x3 ok.at) has.1.0));
        at = at_to w c4 (pc + 1 + 1) _ (masked_at w ready c3 (pc + 1) n x4 (masked_at w ready c2 pc n x3 ok.at)) (omega arith);
        stands = ok.stands;
        spares = ok.spares;
        masks = λ r h. let ne : r ≢ n = omega arith in put_other c3.masks n x4 r ne ∙ put_other c2.masks n x3 r ne ∙ ok.masks r h;
        holds = (ok.holds, put_same c3.masks n x4 ∙ e4);
        bound = omega (arith, ok.bound);
      }

  -- the right value joins the left one in slot n
  joined_ok : (g : Logic) (c : Conf) (pc k n q : ℕ) (a : Mask) (m z : Payload) (s : State) (v : Lanes) (y : ℕ)
      → (ok : Ok w c pc n (1 + q) (Holds Varying (where_true (needs g) (on a v)) y z) s) → at_rate Varying a m ≡ Each (on a v)
      → ok.conf.vectors (w.layout.spare Varying Truth n) ≡ v → ok.conf.masks n ≡ where_true (needs g) (on a v)
      → slice_get w.routine.code pc ≡ Some (copy Varying (w.layout.spare Varying Truth n) y n)
      → Ok w c (pc + 1) n q (Holds Varying a (w.layout.spare Varying Truth n) (settled g a m z)) s
  joined_ok g c pc k n q a m z s v y ok hm hv em has =
      let d = w.layout.spare Varying Truth n in
      let c2 = ok.conf in
      let u = c2.vectors y in
      let T = where_true (needs g) (on a v) in
      let hz : spread T z ≡ on T u = ap (spread nobody) ok.holds in
      let e5 : on a (over (on T u) (c2.vectors d)) ≡ layer (on T u) (on a v) = ap (λ z. on a (over (on T u) z)) hv ∙ layer_over a (needs g) u v in
      write_any w ready c c2 ok.steps pc (pc + 1) n q a s (copy Varying d y n) Varying Truth None Divide no_place (settled g a m z) (Each (on T u)) ok.comes ok.at refl has ok.stands ok.spares ok.masks (omega (arith, ok.bound))
      (λ none. settled_at g a m z u v hm hz ∙ sym (ap (λ z. Each (on a z)) (put_same c2.vectors d (over (on T u) (c2.vectors d))) ∙ ap Each e5))
      (copy_line w.code w.routine c2 Varying d y n ∙ ap (λ b. Go (set_at Varying c2 d (Each (on b u)))) em)

  -- in each lane its own value decides
  pub logic_each : (g : Logic) (c : Conf) (pc k n q : ℕ) (a : Mask) (va : Val Payload) (vb : Mask → State → Val Payload) (x y : ℕ) (ca : List Instr)
      (cb : ℕ → ℕ → List Instr) → c.masks k ≡ a → k < n → any (gang_of w) a ≡ true → ((p : ℕ) → a p ≡ true → Allowed w p)
      → AreAt w.routine.code pc (logic_code Varying g (w.layout.spare Varying Truth n) x y pc k n ca cb)
      → Runs w c (pc + length ca) n (1 + (2 + (1 + q))) (Holds Varying a x) va
      → ((T : Mask) (s : State) (c1 : Conf) (pc1 z : ℕ) → AreAt w.routine.code pc1 (cb pc1 n) → Enters w pc1 n (n + 1) T s c1 z
      → Runs w c1 (pc1 + length (cb pc1 n)) (n + 1) (1 + z) (Holds Varying T y) (vb T s))
      → Runs w c (pc + length (logic_code Varying g (w.layout.spare Varying Truth n) x y pc k n ca cb)) n q
      (Holds Varying a (w.layout.spare Varying Truth n))
      (bind va (λ m s1. bind (value_unless_empty (gang_of w) (kept_by (needs g) a m) s1 vb) (λ z s2. Gives (settled g a m z) s2)))
  logic_each g c pc k n q a va vb x y ca cb em lk some inside has ra rb =
      bind_runs w ready c p1 n 1 q (Decided g n a) va _ _ n _
      (runs_on w ready c (pc + length ca + length mv) n 2 (1 + q) (Holds Varying a d) va p1 n (Decided g n a)
      (runs_on w ready c (pc + length ca) n 1 (2 + (1 + q)) (Holds Varying a x) va (pc + length ca + length mv) n (Holds Varying a d) ra
      (λ m s ok. move_ok w ready c (pc + length ca) k n (2 + (1 + q)) a m s Varying Truth x ok (ok.masks k lk ∙ em)
      (are_front w.routine.code (pc + length ca) mv nd
      (are_back w.routine.code pc ca (mv ++ nd) (are_front w.routine.code pc (ca ++ (mv ++ nd)) _ has)))))
      (λ m s ok. ok_to w ready c _ p1 n (1 + q) _ s here
      (needing_ok g c (pc + length ca + length mv) k n (1 + q) a m s lk em
      (are_back w.routine.code (pc + length ca) mv nd (are_back w.routine.code pc ca (mv ++ nd)
      (are_front w.routine.code pc (ca ++ (mv ++ nd)) _ has))) ok)))
      rest
    where
      d : ℕ
      d = w.layout.spare Varying Truth n

      mv : List Instr
      mv = move_code Varying d x k

      nd : List Instr
      nd = needing g n d k

      p1 : ℕ
      p1 = pc + length (ca ++ (mv ++ nd))

      end : ℕ
      end = pc + length (logic_code Varying g d x y pc k n ca cb)

      here : pc + length ca + length mv + length nd ≡ p1
      here = omega (arith, length-append ca (mv ++ nd), length-append mv nd)

      rest : (m : Payload) (s : State) (ok : Ok w c p1 n (1 + q) (Decided g n a m) s) → Runs w c end n q (Holds Varying a d) (bind (value_unless_empty (gang_of w) (kept_by (needs g) a m) s vb) (λ z s2. Gives (settled g a m z) s2))
      rest m s ok =
          subst (λ b. Runs w c end n q (Holds Varying a d) (bind (value_unless_empty (gang_of w) b s vb) (λ z s2. Gives (settled g a m z) s2))) (sym (at_kept Varying a (needs g) m ∙ ap (kept_by (needs g) a) ok.holds.0))
          (runs_after w ready c c4 (ok.steps + 1) end n q _ _ (comes_on w c c1 c4 ok.steps 1 ok.comes (jump_comes w ready c1 p1 jump.Off (mask_register n) to ok.at at1.0)) ok.spares ok.masks (go (any (gang_of w) T) refl))
        where
          c1 : Conf
          c1 = ok.conf

          v : Lanes
          v = c1.vectors d

          T : Mask
          T = where_true (needs g) (on a v)

          last : List Instr
          last = copy Varying d y n ∷ []

          to : ℕ
          to = p1 + 1 + length (cb (p1 + 1) n ++ last)

          c4 : Conf
          c4 = jumped w ready c1 jump.Off (mask_register n) to

          at1 : AreAt w.routine.code p1 (jump_off n to ∷ (cb (p1 + 1) n ++ last))
          at1 = are_back w.routine.code pc (ca ++ (mv ++ nd)) _ has

          q1 : ℕ
          q1 = ok.steps + 1 + q

          pcy : ℕ
          pcy = p1 + 1 + length (cb (p1 + 1) n)

          ends : pcy + 1 ≡ end
          ends = omega (arith, length-append (ca ++ (mv ++ nd)) (jump_off n to ∷ (cb (p1 + 1) n ++ last)), length-append (cb (p1 + 1) n) last)

          off_is : (b : Bool) → any (gang_of w) T ≡ b → jumps w.code w.routine c1 jump.Off (mask_register n) ≡ not b
          off_is b e = ap (λ t. not (any (gang_of w) t)) ok.holds.1 ∙ ap not e

          go : (b : Bool) → any (gang_of w) T ≡ b → Runs w c4 end n q1 (Holds Varying a d) (bind (value_unless_empty (gang_of w) T s vb) (λ z s2. Gives (settled g a m z) s2))
          go true e =
              subst (λ u. Runs w c4 end n q1 (Holds Varying a d) (bind u (λ z s2. Gives (settled g a m z) s2))) (sym (unless_some (gang_of w) T s vb e))
              (bind_runs w ready c4 pcy (n + 1) 1 q1 (Holds Varying T y) (vb T s) (λ z s2. Gives (settled g a m z) s2) end n (Holds Varying a d)
              (rb T s c4 (p1 + 1) q1 (are_front w.routine.code (p1 + 1) (cb (p1 + 1) n) last at1.1)
              (record {
                at = jump_at w ready c1 p1 jump.Off (mask_register n) to false ok.at (off_is true e);
                mask = ok.holds.1;
                some = e;
                inside
                    = where_inside (Allowed w) a (needs g) v inside;
                stands = ok.stands;
                used = omega (arith, ok.bound);
                low = omega arith;
              }))
              (λ z s2 ok2. ok_to w ready c4 (pcy + 1) end n q1 _ s2 ends
              (joined_ok g c4 pcy k n q1 a m z s2 v y (ok_down w ready c4 pcy n (n + 1) (1 + q1) _ s2 (omega arith) ok2) ok.holds.0
              (ok2.spares.vectors_stay Truth n (omega arith)) (ok2.masks n (omega arith) ∙ ok.holds.1)
              (are_back w.routine.code (p1 + 1) (cb (p1 + 1) n) last at1.1).0)))
          go false e =
              let off : T ≡ nobody = is_nobody (gang_of w) T (λ p h. (where_inside (Allowed w) a (needs g) v inside p h).0) e in
              let hz : spread T nothing ≡ on T v = subst (λ t. spread t nothing ≡ on t v) (sym off) refl in
              subst (λ u. Runs w c4 end n q1 (Holds Varying a d) (bind u (λ z s2. Gives (settled g a m z) s2))) (sym (unless_none (gang_of w) T s vb e))
              (record {
                conf = c4;
                steps = 0;
                comes = comes_none w c4;
                at = at_to w c4 to end
                    (jump_at w ready c1 p1 jump.Off (mask_register n) to true ok.at (off_is false e))
                    (omega (arith, ends, length-append (cb (p1 + 1) n) last));
                stands = ok.stands;
                spares = spares_all w n c4;
                masks = λ i h. refl;
                holds = settled_at g a m nothing v v ok.holds.0 hz
                    ∙ ap (λ t. Each (layer (on t v) (on a v))) off;
                bound = omega (arith, ok.bound);
              })
