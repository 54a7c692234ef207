-- The templates of scalars and jumps.
use Rattle.std.proofs.Common.{◌≡◌, ℕ, zero, suc, ◌+◌, ◌-◌, ◌%◌, ◌^◌, ◌<◌, ◌≤◌, ◌⊎◌, inl, inr, List, Option, Some, None, Bool, true, false, not, ◌||◌, refl, sym, ap, ap₂, ◌∙◌, subst, arith, mod-eq_of_lt, lit≤}
use Rattle.std.specs.Prelude.{slice_get, nat_eq, if◌then◌else◌, Ok}
use Rattle.isp_base.specs.Cross.{or_zero}
use Rattle.isp_base.specs.Maps.{put}
use Rattle.isp_base.specs.Sets.{Mask, lowest, any}
use Rattle.isp_base.specs.Traps.{trap}
use Rattle.std.proofs.lemmas.Bool.{cases_lt}
use Rattle.isp_base.specs.Types.{gang_width}
use Rattle.isp_base.specs.declared.types.Gang.{Gang}
use Rattle.isp_base.specs.declared.types.Gang.TheVariants.{W4, W8, W16, W32}
use Rattle.isp_base.specs.Truths.{is_true}
use Rattle.isp_base.specs.Unary.{unary_bits}
use Rattle.isp_base.specs.Values.{width, wrap, number, op_bits, compare_bits, convert_bits}
use Rattle.isp_base.specs.declared.trap.TrapKind.TheVariants.{Assert}
use Rattle.isp_base.proofs.Wraps.{wrap_to-lt}
use Rattle.isp_code.specs.Calls.{left, place_at}
use Rattle.isp_code.specs.Conf.{Conf, Go}
use Rattle.isp_code.specs.Fine.{IsGiven}
use Rattle.isp_code.specs.Lines.{act, plain_of, set_scalar, scalar_value, moved, unless, next, jumps}
use Rattle.isp_code.specs.declared.instr.Instr.{Instr}
use Rattle.isp_code.specs.declared.instr.Instr.TheVariants as instr
use Rattle.isp_code.specs.declared.instr.JumpTest.{JumpTest}
use Rattle.isp_code.specs.declared.instr.JumpTest.TheVariants as jump
use Rattle.isp_code.specs.declared.instr.ScalarInstr.{ScalarInstr}
use Rattle.isp_code.specs.declared.instr.ScalarInstr.TheVariants as scalar
use Rattle.isp_code.specs.Listing.{Routine}
use Rattle.isp_code.specs.declared.function.Returns.{Returns}
use Rattle.isp_code.specs.declared.function.Returns.TheVariants.{Nothing, Scalar as GivesScalar, Vector as GivesVector}
use Rattle.isp_code.specs.declared.register.Class.{Class}
use Rattle.isp_code.specs.declared.register.Class.TheVariants as class
use Rattle.isp_code.specs.declared.register.Register.{Register}
use Rattle.isp_forms.specs.declared.form.Form.{Form}
use Rattle.isp_wasm_meaning.specs.Syntax as wasm
use Rattle.isp_wasm_meaning.specs.Syntax.{Code, Set, Return}
use Rattle.isp_wasm_meaning.specs.Meaning.{State, Result, Fell, Trapped, behind, then_to, run, set_local, value, flag, chosen, lane, Report}
use Rattle.isp_wasm_meaning.specs.Ladder.{Jumps, Meets}
use Rattle.isp_wasm.specs.Places as place
use Rattle.isp_wasm.specs.Places.{Setting, Counter, Scalar, IsKept, elem, gang, shape, parts}
use Rattle.isp_wasm.specs.Templates.{scalar_of, scalar_local, vector_local, return_code, jump_to, code_of, lanes_as_bits, lowest_of}
use Rattle.isp_wasm.specs.Standing.{all_of, bits_of, LanesOf, Stands, Holds, Keeps, Leaves, Final, IsSettled, vector_register, the_machine}
use Rattle.isp_wasm.specs.Thin.{IsHead, IsThinScalar, IsThin}
use Rattle.isp_wasm.proofs.Frames.{Alike, holds_scalar, there, elsewhere}
use Rattle.isp_wasm.proofs.Shared.{forget}
use Rattle.isp_wasm.proofs.Steps.{step_is, falls_on, fails_here}
use Rattle.isp_wasm.proofs.WordLaws.{constant_is, compare_is, compare_fits, plain_is, op_fits}
use Rattle.isp_wasm.proofs.Converts.{unary_is, unary_fits, convert_is, convert_fits}
use Rattle.isp_wasm.proofs.Vectors.{narrow, scalar_fits}
use Rattle.isp_wasm.proofs.MaskWords.{some_is, full_is, lowest_is}
use Rattle.isp_wasm.proofs.Results.{are_given}
use Rattle.isp_wasm.proofs.Rows.{enough}
use Rattle.isp_wasm.proofs.Lowest.{which_lowest, IsNone, IsLowest}

given_class : (h : Routine) (g : Returns) (x : Register) → IsGiven h g (Some x) → (x.class ≡ class.Scalar) ⊎ (x.class ≡ class.Vector)
given_class h Nothing x is = absurd is
given_class h (GivesScalar t) x is = inl is.0.0
given_class h (GivesVector t) x is = inr is.0.0

none_any : (n : ℕ) (a : Mask) → ((r : ℕ) → r < n → a r ≡ false) → any n a ≡ false
none_any zero a h = refl
none_any (suc n) a h = ap₂ (λ x y. x || y) (none_any n a (λ r l. h r (omega arith))) (h n (omega arith))

some_any : (n : ℕ) (a : Mask) (q : ℕ) → q < n → a q ≡ true → any n a ≡ true
some_any zero a q l h = absurd (omega arith)
some_any (suc n) a q l h = by (cases_lt q n) (some_any n a q)
  where
    or_true : (b : Bool) → (b || true) ≡ true
    or_true true = refl
    or_true false = refl

    by : (q < n) ⊎ (n ≤ q) → (q < n → a q ≡ true → any n a ≡ true) → (any n a || a n) ≡ true
    by (inl lt) before = ap (λ b. b || a n) (before lt h)
    by (inr le) before = ap (λ b. any n a || b) (ap a (let same : n ≡ q = omega arith in same) ∙ h) ∙ or_true (any n a)

all_lanes : (g : Gang) → (2 ^ gang_width g - 1) % 2 ^ 32 ≡ 2 ^ gang_width g - 1
all_lanes W4 = refl
all_lanes W8 = refl
all_lanes W16 = refl
all_lanes W32 = refl

-- the number of a lowest lane, or 0, is small
pub lowest_small : (n : ℕ) (a : Mask) → n ≤ 32 → or_zero (lowest n a) < 32
lowest_small n a le = by (which_lowest n a)
  where
    by : IsNone n a ⊎ ((q : ℕ) × IsLowest n a q) → or_zero (lowest n a) < 32
    by (inl h) = subst (λ o. or_zero o < 32) (sym h.is) (lit≤ tt)
    by (inr some) = subst (λ o. or_zero o < 32) (sym (some.1).is) (let l = (some.1).low in omega arith)

bool_value : (b : ℕ) (x y : ℕ) → chosen b x y ≡ (if is_true b then x else y)
bool_value b x y = by (nat_eq b 0)
  where
    by : (t : Bool) → (if t then y else x) ≡ (if not t then x else y)
    by true = refl
    by false = refl

chosen_fits : (b : Bool) (x y m : ℕ) → x < m → y < m → (if b then x else y) < m
chosen_fits true x y m p q = p
chosen_fits false x y m p q = q

-- what is worked out by one expression alone
abbrev pub IsPlainScalar : ScalarInstr → Type 0
IsPlainScalar (scalar.Load a i m q) = ⊥
IsPlainScalar (scalar.Reduce r x k) = ⊥
IsPlainScalar (scalar.Extract x i k) = ⊥
IsPlainScalar i = Unit {0}

module _ (w : Setting) (c : Conf) (l : ℕ → ℕ) (h : Holds w c.scalars c.vectors c.masks l) where
  -- what an expression writes
  pub record Writes (d : Register) (i : ScalarInstr) : Type 0 where
    pub bits : ℕ
    pub machine_is : scalar_value w.code w.routine c d i ≡ Ok bits
    pub value_is : value l (scalar_of w d i) ≡ bits
    pub fits : bits < 2 ^ width (elem w d)

  pub writes : (d : Register) (i : ScalarInstr) → IsPlainScalar i → IsThinScalar w (elem w d) i → Writes d i
  writes d (scalar.Constant z) plain thin =
      record { bits = wrap (elem w d) z; machine_is = refl; value_is = constant_is l (elem w d) (wrap (elem w d) z) (wrap_to-lt (width (elem w d)) z); fits = wrap_to-lt (width (elem w d)) z }
  writes d (scalar.Copy x) plain thin = record { bits = c.scalars x.number; machine_is = refl; value_is = h.scalars_are x.number; fits = scalar_fits w c l h x (elem w d) thin }
  writes d (scalar.Convert x) plain thin =
      record {
        bits = convert_bits (elem w d) (number (elem w x) (c.scalars x.number));
        machine_is = refl;
        value_is = convert_is (elem w x) (elem w d) l (scalar_local w x) (c.scalars x.number) (h.scalars_are x.number) (scalar_fits w c l h x (elem w x) thin);
        fits = convert_fits (elem w x) (elem w d) (c.scalars x.number) (scalar_fits w c l h x (elem w x) thin);
      }
  writes d (scalar.Unary o x) plain thin =
      record {
        bits = unary_bits o (elem w d) (c.scalars x.number);
        machine_is = refl;
        value_is = unary_is o (elem w d) l (scalar_local w x) (c.scalars x.number) thin.0 (h.scalars_are x.number) (scalar_fits w c l h x (elem w d) thin.1);
        fits = unary_fits o (elem w d) (c.scalars x.number);
      }
  writes d (scalar.Binary o x y) plain thin =
      record {
        bits = op_bits (plain_of o) (elem w d) (c.scalars x.number) (c.scalars y.number);
        machine_is = refl;
        value_is =
            plain_is o (elem w d) l (scalar_local w x) (scalar_local w y) (c.scalars x.number) (c.scalars y.number) thin.0 (h.scalars_are x.number) (h.scalars_are y.number)
            (scalar_fits w c l h x (elem w d) thin.1) (scalar_fits w c l h y (elem w d) thin.2);
        fits = op_fits o (elem w d) (c.scalars x.number) (c.scalars y.number);
      }
  writes d (scalar.Compare o x y) plain thin =
      record {
        bits = compare_bits o (elem w x) (c.scalars x.number) (c.scalars y.number);
        machine_is = refl;
        value_is =
            compare_is o (elem w x) l (scalar_local w x) (scalar_local w y) (c.scalars x.number) (c.scalars y.number) (h.scalars_are x.number) (h.scalars_are y.number)
            (scalar_fits w c l h x (elem w x) thin.1) (scalar_fits w c l h y (elem w x) thin.2);
        fits = subst (λ t. compare_bits o (elem w x) (c.scalars x.number) (c.scalars y.number) < 2 ^ width t) (sym thin.0) (compare_fits o (elem w x) (c.scalars x.number) (c.scalars y.number));
      }
  writes d (scalar.Select t x y) plain thin =
      record {
        bits = if is_true (c.scalars t.number) then c.scalars x.number else c.scalars y.number;
        machine_is = refl;
        value_is =
            ap (λ b. chosen b (l (w.local (Scalar x.number))) (l (w.local (Scalar y.number)))) (h.scalars_are t.number) ∙ ap₂ (chosen (c.scalars t.number)) (h.scalars_are x.number) (h.scalars_are y.number)
            ∙ bool_value (c.scalars t.number) (c.scalars x.number) (c.scalars y.number);
        fits =
            chosen_fits (is_true (c.scalars t.number)) (c.scalars x.number) (c.scalars y.number) (2 ^ width (elem w d)) (scalar_fits w c l h x (elem w d) thin.1) (scalar_fits w c l h y (elem w d) thin.2);
      }
  writes d (scalar.First k) plain thin =
      record {
        bits = or_zero (lowest (gang w) (c.masks k.number));
        machine_is = refl;
        value_is = lowest_is w c.scalars c.vectors c.masks l h k;
        fits = subst (λ t. or_zero (lowest (gang w) (c.masks k.number)) < 2 ^ width t) (sym thin) (let lt = lowest_small (gang w) (c.masks k.number) (narrow w.code.gang) in omega arith);
      }
  writes d (scalar.Load a i m q) plain thin = absurd plain
  writes d (scalar.Reduce r x k) plain thin = absurd plain
  writes d (scalar.Extract x i k) plain thin = absurd plain

module _ (w : Setting) (ready : IsSettled w) (fuel n k : ℕ) (call : ℕ → List ℕ → State → Result) (pc : ℕ) (c : Conf) (s : State) (st : Stands w pc c s) where
  abbrev pub Good : ℕ → Conf → Result → Type 0
  Good pc = Meets (the_machine w) (w.local Counter) n fuel (Stands w pc) (suc k)

  -- a scalar register is written, where only the locals of this instruction have changed
  pub falls_scalar : (i : Instr) (d : Register) (v : ℕ) (t : State) → slice_get w.routine.code pc ≡ Some i → d.class ≡ class.Scalar → act w.code w.routine c i ≡ Go (set_scalar c d v) → v < 2 ^ width (elem w d)
      → Alike w s.locals t.locals → t.out ≡ s.out → Keeps w (all_of w c) t.memory t.size → Good (pc + 1) c (Fell (set_local (w.local (Scalar d.number)) v t))
  falls_scalar i d v t has cl is fit alike out keeps =
      falls_on w ready fuel n k pc c s i st has (record c { pc = c.pc + 1; scalars = put c.scalars d.number v }) (set_local (w.local (Scalar d.number)) v t) is refl refl refl out
      (holds_scalar w c.scalars c.vectors c.masks s.locals (set_local (w.local (Scalar d.number)) v t).locals d.number v st.holds
      (subst (λ x. v < 2 ^ width (elem w x)) (ap (λ a. record { class = a; number = d.number }) cl) fit) (there w ready (Scalar d.number) v t)
      (λ p kept ne. elsewhere w ready (Scalar d.number) p v t ne ∙ alike p kept))
      keeps

  pub scalars_fall : (d : Register) (i : ScalarInstr) → slice_get w.routine.code pc ≡ Some (instr.Scalar d i) → d.class ≡ class.Scalar → IsPlainScalar i → IsThinScalar w (elem w d) i
      → Good (pc + 1) c (Fell (set_local (w.local (Scalar d.number)) (value s.locals (scalar_of w d i)) s))
  scalars_fall d i has cl plain thin =
      let v = writes w c s.locals st.holds d i plain thin in
      subst (λ x. Good (pc + 1) c (Fell (set_local (w.local (Scalar d.number)) x s))) (sym v.value_is)
      (falls_scalar (instr.Scalar d i) d v.bits s has cl (ap (λ r. moved r (set_scalar c d)) v.machine_is) v.fits (λ p kept. refl) refl st.keeps)

  -- nothing but the place changes
  pub falls_next : (i : Instr) → slice_get w.routine.code pc ≡ Some i → act w.code w.routine c i ≡ Go (record c { pc = c.pc + 1 }) → Good (pc + 1) c (Fell s)
  falls_next i has is = falls_on w ready fuel n k pc c s i st has (record c { pc = c.pc + 1 }) s is refl refl refl refl st.holds st.keeps

  -- to a head
  pub jumps_to : (to : ℕ) (i : Instr) → slice_get w.routine.code pc ≡ Some i → k < n → IsHead w to → n ≡ w.rungs → act w.code w.routine c i ≡ Go (record c { pc = to })
      → Jumps (the_machine w) (w.local Counter) n fuel (n - suc k) (suc k) c (set_local (w.local Counter) (w.rung_at to % 2 ^ 32) s)
  jumps_to to i has low head all is =
      let small : w.rung_at to % 2 ^ 32 ≡ w.rung_at to = mod-eq_of_lt (omega (arith, head.low, ready.few)) in
      let at : (set_local (w.local Counter) (w.rung_at to % 2 ^ 32) s).locals (w.local Counter) ≡ w.rung_at to = there w ready Counter (w.rung_at to % 2 ^ 32) s ∙ small in
      record {
        conf = record c { pc = to };
        steps = 0;
        goes = step_is w ready pc c s i (Go (record c { pc = to })) st has is;
        stands =
            record {
              low = omega (arith, at, head.low);
              stands =
                  record {
                    home_is = st.home_is;
                    waiting_is = st.waiting_is;
                    pc_is = sym (ap w.heads at ∙ head.here);
                    out_is = st.out_is;
                    holds = counter_holds (w.rung_at to % 2 ^ 32);
                    keeps = st.keeps;
                  };
            };
        low = omega (arith, at, head.low, all);
        depth = omega arith;
      }
    where
      counter_holds : (v : ℕ) → Holds w c.scalars c.vectors c.masks (set_local (w.local Counter) v s).locals
      counter_holds v =
          record {
            scalars_are = λ r. elsewhere w ready Counter (Scalar r) v s (λ e. cc) ∙ st.holds.scalars_are r;
            vectors_are = λ r j k l m. ap (lane _ k) (elsewhere w ready Counter (place.Vector r j) v s (λ e. cc)) ∙ st.holds.vectors_are r j k l m;
            masks_are = λ r j k l. ap (lane wasm.I8x16 k) (elsewhere w ready Counter (place.Mask r j) v s (λ e. cc)) ∙ st.holds.masks_are r j k l;
            fits = st.holds.fits;
            members = st.holds.members;
            bases = λ a. elsewhere w ready Counter (place.Base a) v s (λ e. cc) ∙ st.holds.bases a;
            counts = λ a. elsewhere w ready Counter (place.Count a) v s (λ e. cc) ∙ st.holds.counts a;
            depth = elsewhere w ready Counter place.Depth v s (λ e. cc) ∙ st.holds.depth;
            top_is = elsewhere w ready Counter place.Top v s (λ e. cc) ∙ st.holds.top_is;
          }

  -- a jump by a test
  pub jump_if : (to : ℕ) (t : JumpTest) (x : Register) (b : Bool) → slice_get w.routine.code pc ≡ Some (instr.JumpIf t x to) → k < n → IsHead w to → n ≡ w.rungs → jumps w.code w.routine c t x ≡ b
      → Good (pc + 1) c (behind (if b then run fuel call (jump_to w (suc (n - suc k)) to) s else Fell s))
  jump_if to t x true has low head all is = jumps_to to (instr.JumpIf t x to) has low head all (ap (λ b. Go (record c { pc = if b then to else c.pc + 1 })) is)
  jump_if to t x false has low head all is = falls_next (instr.JumpIf t x to) has (ap (λ b. Go (record c { pc = if b then to else c.pc + 1 })) is)

  abbrev pub jumped : ℕ → Result
  jumped to = run fuel call (jump_to w (suc (n - suc k)) to) s

  pub tests_fall : (to : ℕ) (t : JumpTest) (x : Register) → slice_get w.routine.code pc ≡ Some (instr.JumpIf t x to) → k < n → IsThin w (instr.JumpIf t x to) → n ≡ w.rungs
      → (form : Form) → Good (pc + 1) c (run fuel call (code_of w (n - suc k) form (instr.JumpIf t x to)) s)
  tests_fall to jump.False x has low thin all form =
      subst (λ r. Good (pc + 1) c (behind r)) (by (nat_eq (c.scalars x.number) 0) ∙ ap (λ v. if nat_eq (flag (nat_eq v 0)) 0 then Fell s else jumped to) (sym (st.holds.scalars_are x.number)))
      (jump_if to jump.False x (not (is_true (c.scalars x.number))) has low thin.1 all refl)
    where
      by : (b : Bool) → (if not (not b) then jumped to else Fell s) ≡ (if nat_eq (flag b) 0 then Fell s else jumped to)
      by true = refl
      by false = refl
  tests_fall to jump.True x has low thin all form =
      subst (λ r. Good (pc + 1) c (behind r)) (by (nat_eq (c.scalars x.number) 0) ∙ ap (λ v. if nat_eq v 0 then Fell s else jumped to) (sym (st.holds.scalars_are x.number)))
      (jump_if to jump.True x (is_true (c.scalars x.number)) has low thin.1 all refl)
    where
      by : (b : Bool) → (if not b then jumped to else Fell s) ≡ (if b then Fell s else jumped to)
      by true = refl
      by false = refl
  tests_fall to jump.Off x has low thin all form =
      subst (λ r. Good (pc + 1) c (behind r)) (by (nat_eq (value s.locals (lanes_as_bits w x)) 0))
      (jump_if to jump.Off x (not (not (nat_eq (value s.locals (lanes_as_bits w x)) 0))) has low thin all (ap not (some_is w c.scalars c.vectors c.masks s.locals st.holds x)))
    where
      by : (b : Bool) → (if not (not b) then jumped to else Fell s) ≡ (if nat_eq (flag b) 0 then Fell s else jumped to)
      by true = refl
      by false = refl
  tests_fall to jump.On x has low thin all form =
      subst (λ r. Good (pc + 1) c (behind r)) (by (nat_eq (value s.locals (lanes_as_bits w x)) 0))
      (jump_if to jump.On x (not (nat_eq (value s.locals (lanes_as_bits w x)) 0)) has low thin all (some_is w c.scalars c.vectors c.masks s.locals st.holds x))
    where
      by : (b : Bool) → (if not b then jumped to else Fell s) ≡ (if b then Fell s else jumped to)
      by true = refl
      by false = refl
  tests_fall to jump.All x has low thin all form =
      subst (λ r. Good (pc + 1) c (behind r)) (by (nat_eq (value s.locals (lanes_as_bits w x)) (2 ^ gang w - 1)) ∙ ap (λ m. if nat_eq (flag (nat_eq (value s.locals (lanes_as_bits w x)) m)) 0 then Fell s else jumped to) (sym most))
      (jump_if to jump.All x (nat_eq (value s.locals (lanes_as_bits w x)) (2 ^ gang w - 1)) has low thin all (full_is w c.scalars c.vectors c.masks s.locals st.holds x))
    where
      by : (b : Bool) → (if b then jumped to else Fell s) ≡ (if nat_eq (flag b) 0 then Fell s else jumped to)
      by true = refl
      by false = refl

      most : (2 ^ gang w - 1) % 2 ^ 32 ≡ 2 ^ gang w - 1
      most = all_lanes w.code.gang

  -- wherever control goes then
  abbrev pub Gone : Result → Type 0
  Gone r = Final w c r

  -- back to the caller, or out
  leaves_with : (x : Option Register) (v : Option ℕ) → slice_get w.routine.code pc ≡ Some (instr.Return x) → IsGiven w.routine w.routine.returns x → v ≡ bits_of w c x → (u : State) → u.out ≡ s.out → u.memory ≡ s.memory → u.size ≡ s.size → LanesOf w c x u → Leaves w c v u
  leaves_with x v has given is u out memory size lanes =
      record {
        conf = c;
        steps = 1;
        register = x;
        given = given;
        fits = st.holds.fits;
        leaves = step_is w ready pc c s (instr.Return x) (left w.routine c x w.waiting) st has (ap (left w.routine c x) st.waiting_is);
        value_is = is;
        lanes_are = lanes;
        out_is = out ∙ st.out_is;
        keeps = forget w ready c u.memory u.size (subst (λ m. Keeps w (all_of w c) m u.size) (sym memory) (subst (λ n. Keeps w (all_of w c) s.memory n) (sym size) st.keeps));
      }

  pub returns : slice_get w.routine.code pc ≡ Some (instr.Return None) → IsGiven w.routine w.routine.returns None → Leaves w c None s
  returns has given = leaves_with None None has given refl s refl refl refl tt

  -- a scalar, or a vector whose parts are in the globals then
  answers_by : (a : Class) (x : ℕ) → slice_get w.routine.code pc ≡ Some (instr.Return (Some (record { class = a; number = x }))) → IsGiven w.routine w.routine.returns (Some (record { class = a; number = x })) → (a ≡ class.Scalar) ⊎ (a ≡ class.Vector)
      → Gone (run fuel call (return_code w a (record { class = a; number = x })) s)
  answers_by class.Scalar x has given is =
      leaves_with (Some (record { class = class.Scalar; number = x })) (Some (s.locals (w.local (Scalar x)))) has given (ap Some (st.holds.scalars_are x)) s refl refl refl tt
  answers_by class.Vector x has given is =
      let r = vector_register x in
      let all = are_given w ready fuel call (parts w (shape w r)) (vector_local w r) s in
      subst Gone (sym (ap (λ z. then_to z (run fuel call (Return None))) all.fell))
      (leaves_with (Some r) None has given refl (record s { globals = all.globals }) refl refl refl
      (λ j i l q. ap (lane (shape w r) i) (all.given j (enough w (shape w r) j i q)) ∙ st.holds.vectors_are x j i l q))
  answers_by class.Mask x has given is = absurd (elim is [ inl e ↦ cc | inr e ↦ cc ])
  answers_by class.Array x has given is = absurd (elim is [ inl e ↦ cc | inr e ↦ cc ])

  pub answers : (x : Register) → slice_get w.routine.code pc ≡ Some (instr.Return (Some x)) → IsGiven w.routine w.routine.returns (Some x) → Gone (run fuel call (return_code w x.class x) s)
  answers x has given = answers_by x.class x.number has given (given_class w.routine w.routine.returns x given)

  -- where a mask has a lane, it traps
  abbrev pub told : Register → ℕ → Report
  told x q = record { kind = 2; start = (place_at w.code q).start; end = (place_at w.code q).end; instance = value s.locals (lowest_of w x) }

  pub asserts : (x : Register) (q : ℕ) → slice_get w.routine.code pc ≡ Some (instr.Fail x q)
      → Good (pc + 1) c (behind (if nat_eq (value s.locals (lanes_as_bits w x)) 0 then Fell s else Trapped (Some (told x q)) s))
  asserts x q has = by (which_lowest (gang w) (c.masks x.number))
    where
      cut : (b : Bool) → behind (if b then Fell s else Trapped (Some (told x q)) s) ≡ (if not b then Trapped (Some (told x q)) s else Fell s)
      cut true = refl
      cut false = refl

      goes : any (gang w) (c.masks x.number) ≡ not (nat_eq (value s.locals (lanes_as_bits w x)) 0)
      goes = some_is w c.scalars c.vectors c.masks s.locals st.holds x

      by : IsNone (gang w) (c.masks x.number) ⊎ ((q : ℕ) × IsLowest (gang w) (c.masks x.number) q)
          → Good (pc + 1) c (behind (if nat_eq (value s.locals (lanes_as_bits w x)) 0 then Fell s else Trapped (Some (told x q)) s))
      by (inl h) =
          subst (Good (pc + 1) c) (ap (λ b. if b then Trapped (Some (told x q)) s else Fell s) (sym (none_any (gang w) (c.masks x.number) h.off) ∙ goes) ∙ sym (cut (nat_eq (value s.locals (lanes_as_bits w x)) 0)))
          (falls_next (instr.Fail x q) has (ap (λ o. moved (unless w.code w.routine c o Assert q (next c)) (λ c1. c1)) h.is))
      by (inr some) =
          let h = some.1 in
          subst (Good (pc + 1) c) (ap (λ b. if b then Trapped (Some (told x q)) s else Fell s) (sym (some_any (gang w) (c.masks x.number) some.0 h.low h.member) ∙ goes) ∙ sym (cut (nat_eq (value s.locals (lanes_as_bits w x)) 0)))
          (fails_here w ready fuel n k pc c s (instr.Fail x q) st has (trap Assert (place_at w.code q) some.0) s (ap (λ o. moved (unless w.code w.routine c o Assert q (next c)) (λ c1. c1)) h.is) refl st.keeps
          (told x q) (ap (λ p. record { kind = 2; start = (place_at w.code q).start; end = (place_at w.code q).end; instance = p }) (lowest_is w c.scalars c.vectors c.masks s.locals st.holds x ∙ ap or_zero h.is)))
