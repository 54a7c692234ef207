-- The bounds of ranges, as they are taken, and what all runs use.
use Rattle.std.proofs.Common.{◌≡◌, ◌≢◌, ℕ, zero, suc, ◌+◌, ◌-◌, ◌<◌, ◌≤◌, List, [], ◌∷◌, ◌++◌, length, Option, Some, None, true, refl, sym, ap, ap₂, ◌∙◌, subst, arith, append-nil, length-append, mod-eq_of_lt}
use native.Mathlib.Nat.{mod-mod}
use Rattle.std.specs.Prelude.{pos, ◌+ℤ◌, ◌≤ℤ◌, ◌^◌, ◌%◌, if◌then◌else◌}
use Rattle.std.proofs.lemmas.Int.{ints}
use Rattle.std.proofs.lemmas.Bool.{lt-ltb}
use Rattle.isp_base.proofs.Elems.{number_below}
use Rattle.isp_base.proofs.Gangs.{few_width}
use Rattle.isp_base.proofs.Laws.{back_is, bits_are, value_is}
use Rattle.isp_base.proofs.Wraps.{wrap_to-pos}
use Rattle.isp_base.specs.Cross.{fold_below, reduce_add}
use Rattle.isp_base.specs.Maps.{Lanes, Map, on, over}
use Rattle.isp_base.specs.Ranges.{IsValue}
use Rattle.isp_base.specs.Sets.{Mask, everyone}
use Rattle.isp_base.specs.Values.{convert_bits, number, number_to, wrap}
use Rattle.isp_base.specs.declared.types.Elem.TheVariants.{I32, I64}
use Rattle.isp_base.specs.declared.types.Rate.TheVariants.{Uniform, Varying}
use Rattle.isp_code.specs.Conf.{Conf, Go}
use Rattle.isp_code.specs.Lines.{act}
use Rattle.isp_code.specs.declared.instr.Instr.{Instr}
use Rattle.isp_typed.specs.Fine.{heads}
use Rattle.isp_typed.specs.Typed.{TExpr, t_constant, t_program_index, t_place, t_convert, t_cast, t_unary, t_binary, t_compare, t_logic, t_choose, t_call, t_library, t_packed_store, t_packed_load, TRange, type_of}
use Rattle.isp_meaning.specs.Expressions.{value}
use Rattle.isp_meaning.specs.Outcomes.{Val, Gives, Fails, Stops}
use Rattle.isp_meaning.specs.Payloads.{Payload, One, Each, converted, sole}
use Rattle.isp_meaning.specs.Rounds.{Range}
use Rattle.isp_meaning.specs.State.{State, tick}
use Rattle.isp_meaning.specs.Statements.{ranges}
use Rattle.isp_lower_code.specs.Code.{expr_code}
use Rattle.isp_lower_code.specs.Found.{convert_to, is_whole, found, whole_of}
use Rattle.isp_lower_code.specs.Instructions.{constant, convert, splat}
use Rattle.isp_lower_code.specs.Known.{constant_of}
use Rattle.isp_lower_code.specs.Spans.{expr_places}
use Rattle.isp_lower_code.specs.Layout.{Layout}
use Rattle.isp_base.specs.Values.{width}
use Rattle.isp_base.specs.declared.types.Span.{Span}
use Rattle.isp_base.specs.declared.types.Value.{Value}
use Rattle.isp_lower_code.specs.Runs.{Comes, Enters, Failed, Runs, Stopped}
use Rattle.isp_lower_code.specs.Setting.{Setting, IsSettled, gang_of, calls_of, AreAt, At, Spares, Stands, Holds, at_rate, held_at}
use Rattle.isp_lower_code.specs.Tables.{IsTyped}
use Rattle.isp_lower_code.proofs.Lemmas.{are_front, are_back, put_same, put_other, comes_none, comes_on, step_go, at_to, spares_all, spares_less, spares_on, failed_less, stopped_less, masked}
use Rattle.isp_lower_code.proofs.Lemmas.{masked_at, set_at, set_comes, set_goes, set_spares, set_stands, bind_runs, runs_after, expr_runs, few, found_typed}
use Rattle.isp_masks_code.specs.Ranges.{wide, narrow, lane, sum_lanes, lane_numbers, measures_code, bound_code, bounds_code, ranges_places}
use Rattle.isp_masks_code.specs.Rounds.{fill_mask}
use Rattle.isp_masks_code.proofs.Numbered.{small_number}
use Rattle.isp_masks_code.proofs.Parts.{BoundParts, BoundsParts, MeasuresTyped}
use Rattle.isp_masks_code.proofs.RangesHeld.{AreHeld, HasMeasures}
use Rattle.isp_masks_code.proofs.Sweeps.{Low, IsNotLess}

-- ---- an int32 as an int64

is_int32 : (b : ℕ) → IsValue I32 (number I32 b)
is_int32 b = subst (IsValue I32) (ap (number I32) (wrap_to-pos 32 b) ∙ ap (number_to 32 (2 ^ 31 - 1)) (mod-mod b (2 ^ 32))) (value_is I32 (pos b))

widened : (b : ℕ) → number I64 (wrap I64 (number I32 b)) ≡ number I32 b
widened b = let v = is_int32 b in back_is I64 (number I32 b) (grind (arith, ints, v.0), grind (arith, ints, v.1))

not_less : (b : ℕ) → IsNotLess (number I32 b)
not_less b = (is_int32 b).0

not_more : (b : ℕ) → number I32 b ≤ℤ pos (2 ^ 31)
not_more b = let v = is_int32 b in grind (arith, ints, v.1)

-- ---- how many lanes there are

sum_ones : (n : ℕ) (x : Map) → ((p : ℕ) → p < n → x p ≡ Some 1) → fold_below (λ s b. s +ℤ number I32 b) (pos 0) x n ≡ pos n
sum_ones zero x ones = refl
sum_ones (suc n) x ones =
    let e : pos n +ℤ pos 1 ≡ pos (suc n) = omega (arith, ints) in
    rw (ones n (omega arith)) (ap₂ (λ a b. a +ℤ b) (sum_ones n x (λ p lt. ones p (omega (arith, lt)))) (small_number 1 (omega arith)) ∙ e)

-- a lane that is on
on_at : (a : Mask) (x : Lanes) (p : ℕ) → a p ≡ true → on a x p ≡ Some (x p)
on_at a x p e = ap (λ b. if b then Some (x p) else None) e

over_at : (a : Mask) (x old : Lanes) (p : ℕ) → a p ≡ true → over (on a x) old p ≡ x p
over_at a x old p e = rw e refl

-- ---- a constant

constant_is_one : (x : TExpr) (v : Value) → constant_of x ≡ Some v → (sp : Span) × (x ≡ t_constant v sp)
constant_is_one (t_constant u sp) v e = let h : u ≡ v = cc in (sp, ap (λ z. t_constant z sp) h)
constant_is_one (t_program_index sp) v e = absurd (cc)
constant_is_one (t_place p) v e = absurd (cc)
constant_is_one (t_convert t x) v e = absurd (cc)
constant_is_one (t_cast x t sp) v e = absurd (cc)
constant_is_one (t_unary o x t sp) v e = absurd (cc)
constant_is_one (t_binary o x y t sp) v e = absurd (cc)
constant_is_one (t_compare c x y r sp) v e = absurd (cc)
constant_is_one (t_logic g x y r sp) v e = absurd (cc)
constant_is_one (t_choose c x y t sp) v e = absurd (cc)
constant_is_one (t_call c t) v e = absurd (cc)
constant_is_one (t_library g t xs u sp) v e = absurd (cc)
constant_is_one (t_packed_store b x sp) v e = absurd (cc)
constant_is_one (t_packed_load b u sp) v e = absurd (cc)

-- the bits of an int32 as those of an int64, and as those that an expression holds
loaded_is : (b : ℕ) → wrap I64 (number I64 (converted I32 I64 b)) ≡ wrap I64 (number I32 (b % 2 ^ 32))
loaded_is b = ap (wrap I64) (widened b) ∙ sym (ap (wrap I64) (ap (number_to 32 (2 ^ 31 - 1)) (mod-mod b (2 ^ 32))))

-- ---- the code of a bound is that of an int32 as an int64

pub bound_is : (l : Layout) (x : TExpr) (pc p k n : ℕ) → (type_of x).rate ≡ Uniform → (type_of x).elem ≡ I32 → bound_code l x pc p k n ≡ convert_to l (constant_of x) I64 Uniform (wide l n) (found l x n) k (expr_code l x pc p k n)
bound_is l x pc p k n er et =
    append-nil (whole_of l (is_whole (type_of x).elem) x k n (expr_code l x pc p k n))
    ∙ ap (λ t. whole_of l (is_whole t) x k n (expr_code l x pc p k n)) et
    ∙ ap (λ r. convert_to l (constant_of x) I64 r (l.spare r I64 n) (found l x n) k (expr_code l x pc p k n)) er

module _ (w : Setting) (ready : IsSettled w) where
  abbrev means : TExpr → Mask → State → Val Payload
  means = value (gang_of w) w.frame (calls_of w)

  -- slot n has the bound
  abbrev IsBound : ℕ → Payload → Conf → Type 0
  IsBound n m c = c.scalars (wide w.layout n) ≡ wrap I64 (number I32 (sole m))

  value_runs : (x : TExpr) (pc p k n q : ℕ) (a : Mask) (s : State) (c : Conf) → BoundParts w x n
      → AreAt w.routine.code pc (expr_code w.layout x pc p k n ++ convert Uniform (wide w.layout n) (found w.layout x n) k ∷ [])
      → AreAt w.code.places p (expr_places w.layout x) → Enters w pc k n a s c q
      → Runs w c (pc + length (expr_code w.layout x pc p k n ++ convert Uniform (wide w.layout n) (found w.layout x n) k ∷ [])) n (0 + q) (IsBound n)
      (means x a s)
  value_runs x pc p k n q a s c fit has places b =
      let fx : heads x ≤ 1 = few w x n fit.3 in
      go (means x a s) (expr_runs w ready x pc p k n q (1 + q) a s c fit.3 (are_front w.routine.code pc cx (last ∷ []) has) places (omega arith) b)
    where
      cx : List Instr
      cx = expr_code w.layout x pc p k n

      d : ℕ
      d = wide w.layout n

      f : ℕ
      f = found w.layout x n

      last : Instr
      last = convert Uniform d f k

      typed : IsTyped w Uniform f I32
      typed = subst (λ r. IsTyped w r f I32) fit.0 (found_typed w ready x n fit.3 ∙ fit.1)

      pc1 : ℕ
      pc1 = pc + length cx

      end : ℕ
      end = pc + length (cx ++ last ∷ [])

      go : (v : Val Payload) → Runs w c pc1 n (1 + q) (Holds (type_of x).rate a f) v → Runs w c end n (0 + q) (IsBound n) v
      go (Gives m s1) ok =
          let c1 = ok.conf in
          let bits = wrap I64 (number I32 (c1.scalars f)) in
          let c2 = set_at Uniform c1 d (One bits) in
          let is : act w.code w.routine c1 last ≡ Go (set_at Uniform c1 d (One bits)) = ap₂ (λ t u. Go (set_at Uniform c1 d (One (convert_bits t (number u (c1.scalars f)))))) fit.2 typed in
          let holds : at_rate Uniform a m ≡ held_at Uniform c1.scalars c1.vectors a f = subst (λ r. at_rate r a m ≡ held_at r c1.scalars c1.vectors a f) fit.0 ok.holds in
          record {
            conf = c2;
            steps = ok.steps + 1;
            comes = comes_on w c c1 c2 ok.steps 1 ok.comes (set_comes w ready Uniform c1 d (One bits) pc1 last ok.at (are_back w.routine.code pc cx (last ∷ []) has).0 is);
            at = at_to w c2 (pc1 + 1) end (set_goes w ready Uniform c1 d (One bits) pc1 ok.at) (omega (arith, length-append cx (last ∷ [])));
            stands = set_stands w ready Uniform c1 I64 n (One bits) s1 ok.stands;
            spares = spares_on w n c c1 c2 ok.spares (set_spares w ready Uniform c1 I64 n n (One bits) (omega arith));
            masks = ok.masks;
            holds = put_same c1.scalars d bits ∙ ap (λ y. wrap I64 (number I32 (sole y))) (sym holds);
            bound = omega (arith, ok.bound);
          }
      go (Fails t s1) bad = failed_less w ready c 1 (0 + q) t s1 (let e : 1 + q ≡ 1 + (0 + q) = omega arith in subst (λ z. Failed w c z t s1) e bad)
      go (Stops s1) cut = stopped_less w ready w.turns c 1 (0 + q) s1 (let e : 1 + q ≡ 1 + (0 + q) = omega arith in subst (λ z. Stopped w w.turns c z s1) e cut)

  -- a constant is loaded
  constant_runs : (v : Value) (sp : Span) (pc p k n q : ℕ) (a : Mask) (s : State) (c : Conf) → BoundParts w (t_constant v sp) n
      → AreAt w.routine.code pc (constant (wide w.layout n) I64 (converted v.elem I64 v.bits) ∷ []) → Enters w pc k n a s c q
      → Runs w c (pc + 1) n (0 + q) (IsBound n) (means (t_constant v sp) a s)
  constant_runs v sp pc p k n q a s c fit has b = record {
    conf = c1;
    steps = 1;
    comes = set_comes w ready Uniform c d (One bits) pc (constant d I64 (converted v.elem I64 v.bits)) b.at has.0 (ap (λ t. Go (set_at Uniform c d (One (wrap t (number I64 (converted v.elem I64 v.bits)))))) fit.2);
    at = set_goes w ready Uniform c d (One bits) pc b.at;
    stands = set_stands w ready Uniform c I64 n (One bits) (tick s) b.stands;
    spares = set_spares w ready Uniform c I64 n n (One bits) (omega arith);
    masks = λ r lt. refl;
    holds = put_same c.scalars d bits ∙ subst (λ t. wrap I64 (number I64 (converted t I64 v.bits)) ≡ wrap I64 (number I32 (v.bits % 2 ^ width t))) (sym fit.1) (loaded_is v.bits);
    bound = omega (arith, b.used);
  }
    where
      d : ℕ
      d = wide w.layout n

      bits : ℕ
      bits = wrap I64 (number I64 (converted v.elem I64 v.bits))

      c1 : Conf
      c1 = set_at Uniform c d (One bits)

  bound_runs : (x : TExpr) (pc p k n q : ℕ) (a : Mask) (s : State) (c : Conf) → BoundParts w x n
      → AreAt w.routine.code pc (bound_code w.layout x pc p k n) → AreAt w.code.places p (expr_places w.layout x) → Enters w pc k n a s c q
      → Runs w c (pc + length (bound_code w.layout x pc p k n)) n (0 + q) (IsBound n) (means x a s)
  bound_runs x pc p k n q a s c fit has places b =
      subst (λ code. AreAt w.routine.code pc code → Runs w c (pc + length code) n (0 + q) (IsBound n) (means x a s)) (sym (bound_is w.layout x pc p k n fit.0 fit.1)) (by (constant_of x) refl) has
    where
      by : (o : Option Value) → constant_of x ≡ o → AreAt w.routine.code pc
          (convert_to w.layout o I64 Uniform (wide w.layout n) (found w.layout x n) k (expr_code w.layout x pc p k n))
          → Runs w c (pc + length (convert_to w.layout o I64 Uniform (wide w.layout n) (found w.layout x n) k (expr_code w.layout x pc p k n))) n
          (0 + q) (IsBound n) (means x a s)
      by None e at = value_runs x pc p k n q a s c fit at places b
      by (Some v) e at =
          let one = constant_is_one x v e in
          subst (λ y. BoundParts w y n → Runs w c (pc + 1) n (0 + q) (IsBound n) (means y a s)) (sym one.1) (λ fits. constant_runs v one.0 pc p k n q a s c fits at b) fit

  pub bounds_run : (rs : List TRange) (pc p k e q : ℕ) (a : Mask) (s : State) (c : Conf) → BoundsParts w rs e
      → AreAt w.routine.code pc (bounds_code w.layout rs pc p k e) → AreAt w.code.places p (ranges_places w.layout rs) → Enters w pc k e a s c q
      → Runs w c (pc + length (bounds_code w.layout rs pc p k e)) e q (λ xs c1. AreHeld w rs xs e c1) (ranges (gang_of w) w.frame (calls_of w) rs a s)
  bounds_run [] pc p k e q a s c fit has places b =
      record { conf = c; steps = 0; comes = comes_none w c; at = at_to w c pc (pc + 0) b.at (omega arith); stands = b.stands; spares = spares_all w e c; masks = λ r lt. refl; holds = tt; bound = omega (arith, b.used) }
  bounds_run (r ∷ rs) pc p k e q a s c fit has places b =
      let ca = bound_code w.layout r.start pc p k e in
      let pc1 = pc + length ca in
      let pa = expr_places w.layout r.start in
      let pb = expr_places w.layout r.end in
      let pr = ranges_places w.layout rs in
      let p1 = p + length pa in
      let cb = bound_code w.layout r.end pc1 p1 k (e + 1) in
      let pc2 = pc1 + length cb in
      let p2 = p1 + length pb in
      let cr = bounds_code w.layout rs pc2 p2 k (e + 1 + 1) in
      let end = pc + length (ca ++ (cb ++ cr)) in
      let ends : pc2 + length cr ≡ end = omega (arith, length-append ca (cb ++ cr), length-append cb cr) in
      let held = λ (xs : List Range) (c1 : Conf). AreHeld w (r ∷ rs) xs e c1 in
      let hb = are_back w.routine.code pc ca (cb ++ cr) has in
      let qb = are_back w.code.places p pa (pb ++ pr) places in
      bind_runs w ready c pc1 e 0 q (IsBound e) (means r.start a s) _ end e held (bound_runs r.start pc p k e q a s c fit.0 (are_front w.routine.code pc ca (cb ++ cr) has) (are_front w.code.places p pa (pb ++ pr) places) b)
      (λ m s1 ok1. runs_after w ready c ok1.conf ok1.steps end e q held _ ok1.comes ok1.spares ok1.masks
      (bind_runs w ready ok1.conf pc2 (e + 1) 0 (ok1.steps + q) (IsBound (e + 1)) (means r.end a s1) _ end e held
      (bound_runs r.end pc1 p1 k (e + 1) (ok1.steps + q) a s1 ok1.conf fit.1 (are_front w.routine.code pc1 cb cr hb)
      (are_front w.code.places p1 pb pr qb) (record {
        at = ok1.at;
        mask = ok1.masks k b.low
            ∙ b.mask;
        some = b.some;
        inside = b.inside;
        stands = ok1.stands;
        used = omega (arith, ok1.bound);
        low = omega (arith, b.low);
      }))
      (λ n s2 ok2. runs_after w ready ok1.conf ok2.conf ok2.steps end e (ok1.steps + q) held _ ok2.comes (spares_less w e (e + 1) ok1.conf ok2.conf (omega arith) ok2.spares) (λ i lt. ok2.masks i (omega (arith, lt)))
      (bind_runs w ready ok2.conf (pc2 + length cr) (e + 1 + 1) 0 (ok2.steps + (ok1.steps + q)) (λ xs c1. AreHeld w rs xs (e + 1 + 1) c1) (ranges (gang_of w) w.frame (calls_of w) rs a s2) _ end e held
      (bounds_run rs pc2 p2 k (e + 1 + 1) (0 + (ok2.steps + (ok1.steps + q))) a s2 ok2.conf fit.2 (are_back w.routine.code pc1 cb cr hb)
      (are_back w.code.places p1 pb pr qb) (record {
        at = ok2.at;
        mask = ok2.masks k (omega (arith, b.low)) ∙ ok1.masks k b.low
            ∙ b.mask;
        some = b.some;
        inside = b.inside;
        stands = ok2.stands;
        used = omega (arith, ok2.bound);
        low = omega (arith, b.low);
      }))
      (λ xs s3 ok3. record {
        conf = ok3.conf;
        steps = ok3.steps;
        comes = ok3.comes;
        at = at_to w ok3.conf (pc2 + length cr) end ok3.at ends;
        stands = ok3.stands;
        spares = spares_less w e (e + 1 + 1) ok2.conf ok3.conf (omega arith) ok3.spares;
        masks = λ i lt. ok3.masks i (omega (arith, lt));
        holds = (
          record {
            index = refl;
            start = ap (number I64) (ok3.spares.scalars_stay I64 e (omega arith) ∙ ok2.spares.scalars_stay I64 e (omega arith) ∙ ok1.holds) ∙ widened (sole m);
            end = ap (number I64) (ok3.spares.scalars_stay I64 (e + 1) (omega arith) ∙ ok2.holds) ∙ widened (sole n);
            low = not_less (sole m);
            high = not_more (sole n);
            bottom = not_less (sole n);
          },
          ok3.holds,
        );
        bound = omega (arith, ok3.bound);
      })))))

  -- ---- what all runs use

  pub record Measured (n pc : ℕ) (s : State) (c : Conf) : Type 0 where
    pub conf : Conf
    pub comes : Comes w c 8 conf
    pub at : At w conf (pc + 8)
    pub stands : Stands w s conf
    pub low : Low w n c conf
    pub has : HasMeasures w n conf

  pub measures_run : (n h pc : ℕ) (s : State) (c : Conf) → n ≤ h → MeasuresTyped w n → AreAt w.routine.code pc (measures_code w.layout n h) → At w c pc → Stands w s c → Measured n pc s c
  measures_run n h pc s c le typed code at st =
      record { conf = c8; comes = comes8; at = at_to w c8 (pc + 1 + 1 + 1 + 1 + 1 + 1 + 1 + 1) (pc + 8) at8 (omega arith); stands = stands8; low = low8; has = record { lanes = lanes; one = one; numbers = numbers; count = count } }
    where
      g : ℕ
      g = gang_of w

      all : Mask
      all = everyone g

      a1 : ℕ
      a1 = narrow w.layout n

      v1 : ℕ
      v1 = lane w.layout n

      w1 : ℕ
      w1 = wide w.layout n

      w2 : ℕ
      w2 = wide w.layout (n + 1)

      a2 : ℕ
      a2 = narrow w.layout (n + 1)

      v2 : ℕ
      v2 = lane w.layout (n + 1)

      c1 : Conf
      c1 = masked w ready c h all

      ones : Payload
      ones = One (wrap I32 (number I32 1))

      c2 : Conf
      c2 = set_at Uniform c1 a1 ones

      each : Payload
      each = Each (on (c2.masks h) (λ p. c2.scalars a1))

      c3 : Conf
      c3 = set_at Varying c2 v1 each

      sum : Payload
      sum = One (reduce_add I32 g (on (c3.masks h) (c3.vectors v1)))

      c4 : Conf
      c4 = set_at Uniform c3 w1 sum

      own : Payload
      own = Each (on (c4.masks h) (λ p. p))

      c5 : Conf
      c5 = set_at Varying c4 v1 own

      short : Payload
      short = One (wrap I32 (number I64 (c5.scalars w1)))

      c6 : Conf
      c6 = set_at Uniform c5 a2 short

      many : Payload
      many = Each (on (c6.masks h) (λ p. c6.scalars a2))

      c7 : Conf
      c7 = set_at Varying c6 v2 many

      unit : Payload
      unit = One (wrap I64 (number I64 1))

      c8 : Conf
      c8 = set_at Uniform c7 w2 unit

      at1 : At w c1 (pc + 1)
      at1 = masked_at w ready c pc h all at

      at2 : At w c2 (pc + 1 + 1)
      at2 = set_goes w ready Uniform c1 a1 ones (pc + 1) at1

      at3 : At w c3 (pc + 1 + 1 + 1)
      at3 = set_goes w ready Varying c2 v1 each (pc + 1 + 1) at2

      at4 : At w c4 (pc + 1 + 1 + 1 + 1)
      at4 = set_goes w ready Uniform c3 w1 sum (pc + 1 + 1 + 1) at3

      at5 : At w c5 (pc + 1 + 1 + 1 + 1 + 1)
      at5 = set_goes w ready Varying c4 v1 own (pc + 1 + 1 + 1 + 1) at4

      at6 : At w c6 (pc + 1 + 1 + 1 + 1 + 1 + 1)
      at6 = set_goes w ready Uniform c5 a2 short (pc + 1 + 1 + 1 + 1 + 1) at5

      at7 : At w c7 (pc + 1 + 1 + 1 + 1 + 1 + 1 + 1)
      at7 = set_goes w ready Varying c6 v2 many (pc + 1 + 1 + 1 + 1 + 1 + 1) at6

      at8 : At w c8 (pc + 1 + 1 + 1 + 1 + 1 + 1 + 1 + 1)
      at8 = set_goes w ready Uniform c7 w2 unit (pc + 1 + 1 + 1 + 1 + 1 + 1 + 1) at7

      short_is : act w.code w.routine c5 (convert Uniform a2 w1 0) ≡ Go (set_at Uniform c5 a2 short)
      short_is = ap₂ (λ t u. Go (set_at Uniform c5 a2 (One (convert_bits t (number u (c5.scalars w1)))))) typed.short typed.lanes

      sum_is : act w.code w.routine c3 (sum_lanes w1 v1 h) ≡ Go (set_at Uniform c3 w1 sum)
      sum_is = ap (λ t. Go (set_at Uniform c3 w1 (One (reduce_add t g (on (c3.masks h) (c3.vectors v1)))))) typed.numbers

      comes5 : Comes w c 5 c5
      comes5 =
          comes_on w c c3 c5 3 2
          (comes_on w c c1 c3 1 2 (step_go w c pc (fill_mask h) c1 ready at code.0 refl)
          (comes_on w c1 c2 c3 1 1 (set_comes w ready Uniform c1 a1 ones (pc + 1) (constant a1 I32 1) at1 code.1.0
          (ap (λ t. Go (set_at Uniform c1 a1 (One (wrap t (number I32 1))))) typed.first))
          (set_comes w ready Varying c2 v1 each (pc + 1 + 1) (splat v1 a1 h) at2 code.1.1.0 refl)))
          (comes_on w c3 c4 c5 1 1 (set_comes w ready Uniform c3 w1 sum (pc + 1 + 1 + 1) (sum_lanes w1 v1 h) at3 code.1.1.1.0 sum_is) (set_comes w ready Varying c4 v1 own (pc + 1 + 1 + 1 + 1) (lane_numbers v1 h) at4 code.1.1.1.1.0 refl))

      comes8 : Comes w c 8 c8
      comes8 =
          comes_on w c c5 c8 5 3 comes5
          (comes_on w c5 c6 c8 1 2 (set_comes w ready Uniform c5 a2 short (pc + 1 + 1 + 1 + 1 + 1) (convert Uniform a2 w1 0) at5 code.1.1.1.1.1.0 short_is)
          (comes_on w c6 c7 c8 1 1 (set_comes w ready Varying c6 v2 many (pc + 1 + 1 + 1 + 1 + 1 + 1) (splat v2 a2 h) at6 code.1.1.1.1.1.1.0 refl)
          (set_comes w ready Uniform c7 w2 unit (pc + 1 + 1 + 1 + 1 + 1 + 1 + 1) (constant w2 I64 1) at7 code.1.1.1.1.1.1.1.0
          (ap (λ t. Go (set_at Uniform c7 w2 (One (wrap t (number I64 1))))) typed.one))))

      stands8 : Stands w s c8
      stands8 =
          set_stands w ready Uniform c7 I64 (n + 1) unit s
          (set_stands w ready Varying c6 I32 (n + 1) many s
          (set_stands w ready Uniform c5 I32 (n + 1) short s
          (set_stands w ready Varying c4 I32 n own s (set_stands w ready Uniform c3 I64 n sum s
          (set_stands w ready Varying c2 I32 n each s (set_stands w ready Uniform c1 I32 n ones s st))))))

      -- what is in slot n stays after the numbers of the lanes
      later : Spares w (n + 1) c5 c8
      later = spares_on w (n + 1) c5 c6 c8 (set_spares w ready Uniform c5 I32 (n + 1) (n + 1) short (omega arith))
          (spares_on w (n + 1) c6 c7 c8 (set_spares w ready Varying c6 I32 (n + 1) (n + 1) many (omega arith))
          (set_spares w ready Uniform c7 I64 (n + 1) (n + 1) unit (omega arith)))

      low8 : Low w n c c8
      low8 = record {
        spares = spares_on w n c c2 c8 (set_spares w ready Uniform c1 I32 n n ones (omega arith))
            (spares_on w n c2 c3 c8 (set_spares w ready Varying c2 I32 n n each (omega arith))
            (spares_on w n c3 c4 c8 (set_spares w ready Uniform c3 I64 n n sum (omega arith))
            (spares_on w n c4 c5 c8 (set_spares w ready Varying c4 I32 n n own (omega arith)) (spares_less w n (n + 1) c5 c8 (omega arith) later))));
        masks = λ r lt. let ne : r ≢ h = omega (arith, le) in put_other c.masks h all r ne;
      }

      full : c1.masks h ≡ all
      full = put_same c.masks h all

      in_all : (p : ℕ) → p < g → all p ≡ true
      in_all p lt = lt-ltb p g lt

      first : c2.scalars a1 ≡ 1
      first = put_same c1.scalars a1 (wrap I32 (number I32 1)) ∙ bits_are I32 1 (omega arith)

      one_in : (p : ℕ) → p < g → on (c3.masks h) (c3.vectors v1) p ≡ Some 1
      one_in p lt =
          ap (λ m. on m (c3.vectors v1) p) full ∙ on_at all (c3.vectors v1) p (in_all p lt)
          ∙ ap Some (ap (λ v. v p) (put_same c2.vectors v1 (over (on (c2.masks h) (λ r. c2.scalars a1)) (c2.vectors v1)))
          ∙ ap (λ m. over (on m (λ r. c2.scalars a1)) (c2.vectors v1) p) full ∙ over_at all (λ r. c2.scalars a1) (c2.vectors v1) p (in_all p lt)
          ∙ first)

      lanes5 : number I64 (c5.scalars w1) ≡ pos g
      lanes5 =
          ap (number I64) (put_same c3.scalars w1 (reduce_add I32 g (on (c3.masks h) (c3.vectors v1))))
          ∙ ap (λ z. number I64 (wrap I64 z)) (sum_ones g (on (c3.masks h) (c3.vectors v1)) one_in)
          ∙ back_is I64 (pos g) (let few = few_width w.code.gang in (omega (arith, ints), omega (arith, ints, few)))

      lanes : number I64 (c8.scalars w1) ≡ pos g
      lanes = ap (number I64) (later.scalars_stay I64 n (omega arith)) ∙ lanes5

      one : number I64 (c8.scalars w2) ≡ pos 1
      one = ap (number I64) (put_same c7.scalars w2 (wrap I64 (number I64 1)) ∙ bits_are I64 1 (omega arith)) ∙ unit_is
        where
          one_lt : 1 < 2 ^ 64
          one_lt = omega arith

          unit_is : number I64 1 ≡ pos 1
          unit_is = ap (number_to 64 (2 ^ 63 - 1)) (mod-eq_of_lt one_lt) ∙ number_below 64 (2 ^ 63 - 1) 1 (omega arith)

      numbers : (p : ℕ) → p < g → c8.vectors v1 p ≡ p
      numbers p lt =
          ap (λ v. v p) (later.vectors_stay I32 n (omega arith) ∙ put_same c4.vectors v1 (over (on (c4.masks h) (λ r. r)) (c4.vectors v1))) ∙ ap (λ m. over (on m (λ r. r)) (c4.vectors v1) p) full ∙ over_at all (λ r. r) (c4.vectors v1) p (in_all p lt)

      count : (p : ℕ) → p < g → c8.vectors v2 p ≡ wrap I32 (pos g)
      count p lt =
          ap (λ v. v p) (put_same c6.vectors v2 (over (on (c6.masks h) (λ r. c6.scalars a2)) (c6.vectors v2))) ∙ ap (λ m. over (on m (λ r. c6.scalars a2)) (c6.vectors v2) p) full ∙ over_at all (λ r. c6.scalars a2) (c6.vectors v2) p (in_all p lt)
          ∙ put_same c5.scalars a2 (wrap I32 (number I64 (c5.scalars w1))) ∙ ap (wrap I32) lanes5
