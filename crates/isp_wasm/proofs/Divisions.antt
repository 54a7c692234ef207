-- Quotients and remainders: those of the magnitudes, with the sign put back; a divisor of 0 traps.
use Rattle.std.proofs.Common.{◌≡◌, ℕ, zero, suc, ◌+◌, ◌-◌, ◌/◌, ◌%◌, ◌^◌, ◌<◌, List, Some, None, Bool, true, false, not, ◌&&◌, refl, sym, ap, ap₂, ◌∙◌, subst, arith, mod-eq_of_lt}
use Rattle.std.specs.Prelude.{slice_get, nat_eq, nat_lt, if◌then◌else◌}
use Rattle.std.proofs.lemmas.Bool.{ne_eqb}
use Rattle.std.proofs.Math.Nat.{mod-le, div-le_self}
use Rattle.isp_base.specs.Access.{is_zero}
use Rattle.isp_base.specs.Cross.{or_zero}
use Rattle.isp_base.specs.Maps.{on, map2, where_true}
use Rattle.isp_base.specs.Sets.{Mask, lowest}
use Rattle.isp_base.specs.Traps.{trap}
use Rattle.isp_base.specs.Values.{width, greatest, op_bits, outcome_to, number}
use Rattle.isp_base.specs.Words.{magnitude}
use Rattle.isp_base.specs.declared.trap.TrapKind.TheVariants as kind
use Rattle.isp_base.specs.declared.types.Elem.{Elem}
use Rattle.isp_base.proofs.Signs.{differ, magnitude_pos}
use Rattle.isp_base.proofs.Words.{word_div, word_rem, magnitude_lt}
use Rattle.isp_base.proofs.Wraps.{wrap_to-lt}
use Rattle.isp_code.specs.Calls.{place_at}
use Rattle.isp_code.specs.Conf.{Conf}
use Rattle.isp_code.specs.Lines as machine
use Rattle.isp_code.specs.Lines.{act, set_scalar, set_vector, moved, unless, failing}
use Rattle.isp_code.specs.declared.instr.Division.{Division}
use Rattle.isp_code.specs.declared.instr.Division.TheVariants as division
use Rattle.isp_code.specs.declared.instr.Instr.TheVariants as instr
use Rattle.isp_code.specs.declared.register.Class.TheVariants as class
use Rattle.isp_code.specs.declared.register.Register.{Register}
use Rattle.isp_wasm_meaning.specs.Syntax as wasm
use Rattle.isp_wasm_meaning.specs.Syntax.{Sub, Expr, Code, Set, Then, Divide, Local, Const32, Select}
use Rattle.isp_wasm_meaning.specs.Meaning.{Report, State, Result, Fell, Trapped, run, value, behind, then_to, flag, set_local, chosen, quotient, binary, count}
use Rattle.isp_wasm_meaning.specs.Ladder.{Meets}
use Rattle.isp_wasm.specs.Places as place
use Rattle.isp_wasm.specs.Places.{Setting, Counter, Spare, IsKept, elem, shape_of, size_of, gang}
use Rattle.isp_wasm.specs.Words.{constant, whole_expr}
use Rattle.isp_wasm.specs.Rows.{lane_at, as_cell}
use Rattle.isp_wasm.specs.Templates.{quotient_to, quotients, magnitude_expr, turns_sign, division_of, set_lane, is_member, lowest_of, vector_local, scalar_local}
use Rattle.isp_wasm.specs.Standing.{Stands, IsSettled, the_machine, vector_register}
use Rattle.isp_wasm.specs.Thin.{IsInteger, IsVector, IsScalar}
use Rattle.isp_wasm.proofs.Frames.{Alike, holds_alike, there, elsewhere}
use Rattle.isp_wasm.proofs.Steps.{fails_here}
use Rattle.isp_wasm.proofs.Parts.{Kept}
use Rattle.isp_wasm.proofs.WordLaws.{chosen_is}
use Rattle.isp_wasm.proofs.Converts.{negative_expr, minus_expr, magnitude_is}
use Rattle.isp_wasm.proofs.Cells.{cell_written}
use Rattle.isp_wasm.proofs.Vectors.{chosen_over2, scalar_fits, vector_fits, vector_lane}
use Rattle.isp_wasm.proofs.MaskWords.{member_is, lowest_is}
use Rattle.isp_wasm.proofs.Scalars.{falls_scalar}
use Rattle.isp_wasm.proofs.LaneLoops.{IsLaneCode, fault_of, lanes_run, Filled, vectors_at, kept_lane, filled_skip, filled_set, none_filled}
use Rattle.isp_wasm.proofs.LaneEnds.{one_test, lanes_end}

-- ---- the sign put back

abbrev pub turns : Division → Elem → ℕ → ℕ → Bool
turns division.Div t x y = differ (nat_lt (greatest t) x) (nat_lt (greatest t) y)
turns division.Rem t x y = nat_lt (greatest t) x

differ_flags : (a b : Bool) → flag (not (nat_eq (flag a) (flag b))) ≡ flag (differ a b)
differ_flags true true = refl
differ_flags true false = refl
differ_flags false true = refl
differ_flags false false = refl

turns_is : (w : Setting) (o : Division) (t : Elem) (l : ℕ → ℕ) (a b : Expr) (x y : ℕ) → value l a ≡ x → value l b ≡ y → x < 2 ^ width t → y < 2 ^ width t → value l (turns_sign w o t a b) ≡ flag (turns o t x y)
turns_is w division.Div t l a b x y e f p q =
    ap₂ (λ u v. flag (not (nat_eq u v))) (negative_expr t l a x e p) (negative_expr t l b y f q) ∙ differ_flags (nat_lt (greatest t) x) (nat_lt (greatest t) y)
turns_is w division.Rem t l a b x y e f p q = negative_expr t l a x e p

-- the magnitudes' quotient with its sign
abbrev pub signed_quotient : Division → Elem → ℕ → ℕ → ℕ
signed_quotient division.Div t x y = magnitude (width t) (greatest t) x / magnitude (width t) (greatest t) y
signed_quotient division.Rem t x y = magnitude (width t) (greatest t) x % magnitude (width t) (greatest t) y

quotient_of : (w : Setting) (o : Division) (t : Elem) (x y : ℕ) → quotient (division_of w o) (magnitude (width t) (greatest t) x) (magnitude (width t) (greatest t) y) ≡ signed_quotient o t x y
quotient_of w division.Div t x y = refl
quotient_of w division.Rem t x y = refl

quotient_low : (o : Division) (t : Elem) (x y : ℕ) → x < 2 ^ width t → y < 2 ^ width t → signed_quotient o t x y < 2 ^ width t
quotient_low division.Div t x y p q = let le = div-le_self (magnitude (width t) (greatest t) x) (magnitude (width t) (greatest t) y) in let lt = magnitude_lt t x p in omega arith
quotient_low division.Rem t x y p q = let le = mod-le (magnitude (width t) (greatest t) x) (magnitude (width t) (greatest t) y) in let lt = magnitude_lt t x p in omega arith

pub quotient_is : (o : Division) (t : Elem) (x y : ℕ) → x < 2 ^ width t → y < 2 ^ width t → 0 < y
    → (if turns o t x y then (2 ^ width t - signed_quotient o t x y) % 2 ^ width t else signed_quotient o t x y) ≡ op_bits (machine.division_of o) t x y
quotient_is division.Div t x y p q some = word_div t x y p q some
quotient_is division.Rem t x y p q some = word_rem t x y p q some

quotient_fits : (o : Division) (t : Elem) (x y : ℕ) → op_bits (machine.division_of o) t x y < 2 ^ width t
quotient_fits o t x y = wrap_to-lt (width t) (outcome_to (width t) (machine.division_of o) (number t x) (number t y))

zero_is : (o : Division) (t : Elem) (y : ℕ) → y < 2 ^ width t → is_zero (machine.division_of o) t y ≡ nat_eq y 0
zero_is division.Div t y h = ap (λ v. nat_eq v 0) (mod-eq_of_lt h)
zero_is division.Rem t y h = ap (λ v. nat_eq v 0) (mod-eq_of_lt h)

some_of : (y : ℕ) → nat_eq y 0 ≡ false → 0 < y
some_of zero e = absurd cc
some_of (suc y) e = omega arith

magnitude_some : (t : Elem) (y : ℕ) → y < 2 ^ width t → 0 < y → nat_eq (magnitude (width t) (greatest t) y) 0 ≡ false
magnitude_some t y q some = let up = magnitude_pos (width t) (greatest t) y q some in ne_eqb (magnitude (width t) (greatest t) y) 0 (λ e. omega arith)

-- ---- the code

module _ (w : Setting) (ready : IsSettled w) (fuel : ℕ) (call : ℕ → List ℕ → State → Result) (o : Division) (t : Elem) (num : IsInteger t) (a b : Expr) (put : Expr → Code) (q : ℕ) (p : Expr) where
  abbrev pub got : Expr
  got = Local (w.local (Spare (size_of t) 0))

  abbrev pub result : Expr
  result = Select (turns_sign w o t a b) (whole_expr t Sub (constant (size_of t) 0) got) got

  abbrev pub divided_code : Code
  divided_code = Then (Divide (size_of t) (division_of w o) (w.local (Spare (size_of t) 0)) (magnitude_expr w t a) (magnitude_expr w t b)) (put result)

  abbrev pub told : State → Report
  told u = record { kind = 0; start = (place_at w.code q).start; end = (place_at w.code q).end; instance = value u.locals p }

  cut : (z : Bool) (f g : Result) → behind (if nat_eq (flag z) 0 then f else g) ≡ behind (if z then g else f)
  cut true f g = refl
  cut false f g = refl

  -- the divisor is 0
  pub traps_at : (u : State) (y : ℕ) → value u.locals b ≡ y → nat_eq y 0 ≡ true → run fuel call (quotient_to w o t a b put q p) u ≡ Trapped (Some (told u)) u
  traps_at u y f e = ap (λ v. behind (if nat_eq (flag (nat_eq v 0)) 0 then run fuel call divided_code u else Trapped (Some (told u)) u)) f ∙ cut (nat_eq y 0) (run fuel call divided_code u) (Trapped (Some (told u)) u) ∙ ap (λ z. behind (if z then Trapped (Some (told u)) u else run fuel call divided_code u)) e

  module _ (u : State) (x y : ℕ) (same : (l : ℕ → ℕ) → Alike w u.locals l → (value l a ≡ x) × (value l b ≡ y)) (fx : x < 2 ^ width t) (fy : y < 2 ^ width t) (some : 0 < y) where
    abbrev pub divided_state : State
    divided_state = set_local (w.local (Spare (size_of t) 0)) (signed_quotient o t x y) u

    alike : Alike w u.locals divided_state.locals
    alike r kept = elsewhere w ready (Spare (size_of t) 0) r (signed_quotient o t x y) u (λ e. subst IsKept e kept)

    divides_to : run fuel call (Divide (size_of t) (division_of w o) (w.local (Spare (size_of t) 0)) (magnitude_expr w t a) (magnitude_expr w t b)) u ≡ Fell divided_state
    divides_to =
        let here = same u.locals (λ r kept. refl) in
        ap₂ (λ m n. if nat_eq n 0 then Trapped None u else Fell (set_local (w.local (Spare (size_of t) 0)) (quotient (division_of w o) m n) u)) (magnitude_is t u.locals a x num here.0 fx) (magnitude_is t u.locals b y num here.1 fy)
        ∙ ap (λ z. if z then Trapped None u else Fell (set_local (w.local (Spare (size_of t) 0)) (quotient (division_of w o) (magnitude (width t) (greatest t) x) (magnitude (width t) (greatest t) y)) u)) (magnitude_some t y fy some)
        ∙ ap (λ v. Fell (set_local (w.local (Spare (size_of t) 0)) v u)) (quotient_of w o t x y)

    pub divides_at : run fuel call (quotient_to w o t a b put q p) u ≡ behind (run fuel call (put result) divided_state)
    divides_at =
        ap (λ v. behind (if nat_eq (flag (nat_eq v 0)) 0 then run fuel call divided_code u else Trapped (Some (told u)) u)) (same u.locals (λ r kept. refl)).1
        ∙ cut (nat_eq y 0) (run fuel call divided_code u) (Trapped (Some (told u)) u) ∙ ap (λ z. behind (if z then Trapped (Some (told u)) u else run fuel call divided_code u)) (ne_eqb y 0 (λ e. omega arith))
        ∙ ap (λ r. behind (then_to r (run fuel call (put result)))) divides_to

    pub result_is : value divided_state.locals result ≡ op_bits (machine.division_of o) t x y
    result_is =
        let here = same divided_state.locals alike in
        let v = there w ready (Spare (size_of t) 0) (signed_quotient o t x y) u in
        let low = quotient_low o t x y fx fy in
        ap (λ m. chosen m (value divided_state.locals (whole_expr t Sub (constant (size_of t) 0) got)) (value divided_state.locals got)) (turns_is w o t divided_state.locals a b x y here.0 here.1 fx fy)
        ∙ chosen_is (turns o t x y) (value divided_state.locals (whole_expr t Sub (constant (size_of t) 0) got)) (value divided_state.locals got)
        ∙ ap₂ (λ m n. if turns o t x y then m else n) (minus_expr t divided_state.locals got (signed_quotient o t x y) num v (omega arith)) v
        ∙ quotient_is o t x y fx fy some

-- ---- the templates

module _ (w : Setting) (ready : IsSettled w) (fuel n k : ℕ) (call : ℕ → List ℕ → State → Result) (pc : ℕ) (c : Conf) (s : State) (st : Stands w pc c s) where
  abbrev pub Good : ℕ → Conf → Result → Type 0
  Good pc = Meets (the_machine w) (w.local Counter) n fuel (Stands w pc) (suc k)

  pub divides_scalar : (o : Division) (d : ℕ) (x y m : Register) (q : ℕ) → slice_get w.routine.code pc ≡ Some (instr.Divide o (record { class = class.Scalar; number = d }) x y m q)
      → IsInteger (elem w (record { class = class.Scalar; number = d })) → IsScalar w x (elem w (record { class = class.Scalar; number = d })) → IsScalar w y (elem w (record { class = class.Scalar; number = d }))
      → Good (pc + 1) c (run fuel call (quotients w class.Scalar o (record { class = class.Scalar; number = d }) x y m q) s)
  divides_scalar o d x y m q has num xs ys = by (nat_eq u 0) refl
    where
      r : Register
      r = record { class = class.Scalar; number = d }

      t : Elem
      t = elem w r

      u : ℕ
      u = c.scalars y.number

      v : ℕ
      v = c.scalars x.number

      fx : v < 2 ^ width t
      fx = scalar_fits w c s.locals st.holds x t xs

      fy : u < 2 ^ width t
      fy = scalar_fits w c s.locals st.holds y t ys

      put : Expr → Code
      put = Set (w.local (place.Scalar d))

      does : (b : Bool) → nat_eq u 0 ≡ b → act w.code w.routine c (instr.Divide o r x y m q) ≡ moved (unless w.code w.routine c (failing w.code w.routine c b m) kind.Divide q (op_bits (machine.division_of o) t v u)) (set_scalar c r)
      does b e = ap (λ z. moved (unless w.code w.routine c (failing w.code w.routine c z m) kind.Divide q (op_bits (machine.division_of o) t v u)) (set_scalar c r)) (zero_is o t u fy ∙ e)

      by : (b : Bool) → nat_eq u 0 ≡ b → Good (pc + 1) c (run fuel call (quotients w class.Scalar o r x y m q) s)
      by true e =
          subst (Good (pc + 1) c) (sym (traps_at w ready fuel call o t num (scalar_local w x) (scalar_local w y) put q (lowest_of w m) s u (st.holds.scalars_are y.number) e))
          (fails_here w ready fuel n k pc c s (instr.Divide o r x y m q) st has (trap kind.Divide (place_at w.code q) (or_zero (lowest (gang w) (c.masks m.number)))) s (does true e) refl st.keeps
          (told w ready fuel call o t num (scalar_local w x) (scalar_local w y) put q (lowest_of w m) s)
          (ap (λ p. record { kind = 0; start = (place_at w.code q).start; end = (place_at w.code q).end; instance = p }) (lowest_is w c.scalars c.vectors c.masks s.locals st.holds m)))
      by false e =
          let some = some_of u e in
          let same : (l : ℕ → ℕ) → Alike w s.locals l → (l (w.local (place.Scalar x.number)) ≡ v) × (l (w.local (place.Scalar y.number)) ≡ u) =
          (λ l h. (h (place.Scalar x.number) tt ∙ st.holds.scalars_are x.number, h (place.Scalar y.number) tt ∙ st.holds.scalars_are y.number)) in
          let after = divided_state w ready fuel call o t num (scalar_local w x) (scalar_local w y) put q (lowest_of w m) s v u same fx fy some in
          subst (Good (pc + 1) c)
          (sym (divides_at w ready fuel call o t num (scalar_local w x) (scalar_local w y) put q (lowest_of w m) s v u same fx fy some
          ∙ ap (λ z. Fell (set_local (w.local (place.Scalar d)) z after)) (result_is w ready fuel call o t num (scalar_local w x) (scalar_local w y) put q (lowest_of w m) s v u same fx fy some)))
          (falls_scalar w ready fuel n k call pc c s st (instr.Divide o r x y m q) r (op_bits (machine.division_of o) t v u) after has refl (does false e) (quotient_fits o t v u)
          (λ p kept. elsewhere w ready (Spare (size_of t) 0) p (signed_quotient o t v u) s (λ e. subst IsKept e kept)) refl st.keeps)

  module _ (o : Division) (d : ℕ) (x y m : Register) (q : ℕ) (num : IsInteger (elem w (vector_register d))) (xv : IsVector w x (elem w (vector_register d))) (yv : IsVector w y (elem w (vector_register d))) where
    abbrev pub t : Elem
    t = elem w (vector_register d)

    abbrev pub quotient_at : ℕ → ℕ
    quotient_at p = op_bits (machine.division_of o) t (c.vectors x.number p) (c.vectors y.number p)

    abbrev pub bad : Mask
    bad p = nat_eq (c.vectors y.number p) 0

    abbrev pub Full : ℕ → State → Type 0
    Full = Filled w ready fuel call c s d m quotient_at

    abbrev pub left_lane : ℕ → Expr
    left_lane p = lane_at t (vector_local w x) p

    abbrev pub right_lane : ℕ → Expr
    right_lane p = lane_at t (vector_local w y) p

    abbrev pub lane_body : ℕ → Code
    lane_body p = quotient_to w o t (left_lane p) (right_lane p) (set_lane w (vector_register d) p) q (Const32 p)

    fits_x : (p : ℕ) → p < gang w → c.vectors x.number p < 2 ^ width t
    fits_x p l = vector_fits w c s.locals st.holds x t xv p l

    fits_y : (p : ℕ) → p < gang w → c.vectors y.number p < 2 ^ width t
    fits_y p l = vector_fits w c s.locals st.holds y t yv p l

    lanes_same : (p : ℕ) (u : State) → p < gang w → (f : Full p u) → (l : ℕ → ℕ) → Alike w f.locals l → (value l (left_lane p) ≡ c.vectors x.number p) × (value l (right_lane p) ≡ c.vectors y.number p)
    lanes_same p u low f l alike =
        let c1 : Conf = record c { vectors = vectors_at w ready fuel call c s d m quotient_at p } in
        let held = holds_alike w c.scalars (vectors_at w ready fuel call c s d m quotient_at p) c.masks f.locals l f.holds alike in
        (vector_lane w c1 l held x t xv p low ∙ kept_lane w ready fuel call c s d m quotient_at p x.number, vector_lane w c1 l held y t yv p low ∙ kept_lane w ready fuel call c s d m quotient_at p y.number)

    work_lane : (p : ℕ) (u : State) → p < gang w → (f : Full p u) → c.masks m.number p ≡ true → bad p ≡ false → Kept (Full (suc p)) (run fuel call (lane_body p) u)
    work_lane p u low f on good =
        let at : State = record s { locals = f.locals } in
        let vx = c.vectors x.number p in
        let vy = c.vectors y.number p in
        let some = some_of vy good in
        let same = lanes_same p u low f in
        let after = divided_state w ready fuel call o t num (left_lane p) (right_lane p) (set_lane w (vector_register d) p) q (Const32 p) at vx vy same (fits_x p low) (fits_y p low) some in
        let e = result w ready fuel call o t num (left_lane p) (right_lane p) (set_lane w (vector_register d) p) q (Const32 p) in
        let part = place.Vector d (p / count (shape_of t)) in
        let new = binary (wasm.Replace (shape_of t) (p % count (shape_of t))) (after.locals (w.local part)) (value after.locals (as_cell t e)) in
        record {
          state = set_local (w.local part) new after;
          fell = ap (run fuel call (lane_body p)) f.is ∙ divides_at w ready fuel call o t num (left_lane p) (right_lane p) (set_lane w (vector_register d) p) q (Const32 p) at vx vy same (fits_x p low) (fits_y p low) some;
          holds =
              filled_set w ready fuel call c s d m quotient_at p low f.locals (set_local (w.local part) new after).locals (value after.locals (as_cell t e)) f.holds on
              (cell_written t after.locals e (quotient_at p)
              (result_is w ready fuel call o t num (left_lane p) (right_lane p) (set_lane w (vector_register d) p) q (Const32 p) at vx vy same (fits_x p low) (fits_y p low) some) (quotient_fits o t vx vy))
              (there w ready part new after ∙ ap (λ v. binary (wasm.Replace (shape_of t) (p % count (shape_of t))) v (value after.locals (as_cell t e))) (elsewhere w ready (Spare (size_of t) 0) part (signed_quotient o t vx vy) at (λ e. cc)))
              (λ y kept ne. elsewhere w ready part y new after ne ∙ elsewhere w ready (Spare (size_of t) 0) y (signed_quotient o t vx vy) at (λ e. subst IsKept e kept));
        }

    fail_lane : (p : ℕ) (u : State) → p < gang w → (f : Full p u) → c.masks m.number p ≡ true → bad p ≡ true → run fuel call (lane_body p) u ≡ Trapped (Some (fault_of w fuel call c.masks m bad 0 q lane_body Full p)) u
    fail_lane p u low f on wrong =
        ap (run fuel call (lane_body p)) f.is
        ∙ traps_at w ready fuel call o t num (left_lane p) (right_lane p) (set_lane w (vector_register d) p) q (Const32 p) (record s { locals = f.locals }) (c.vectors y.number p) (lanes_same p u low f f.locals (λ r kept. refl)).1 wrong
        ∙ ap (Trapped (Some (fault_of w fuel call c.masks m bad 0 q lane_body Full p))) (sym f.is)

    lane_code : IsLaneCode w fuel call c.masks m bad 0 q lane_body Full
    lane_code =
        record {
          member = λ p u f. ap (λ v. value v.locals (is_member w m p)) f.is ∙ member_is w c.scalars (vectors_at w ready fuel call c s d m quotient_at p) c.masks f.locals f.holds m p;
          skips = λ p u low f off. filled_skip w ready fuel call c s d m quotient_at p u f off;
          works = work_lane;
          fails = fail_lane;
        }

    pub divides_lanes : slice_get w.routine.code pc ≡ Some (instr.Divide o (vector_register d) x y m q) → Good (pc + 1) c (run fuel call (quotients w class.Vector o (vector_register d) x y m q) s)
    divides_lanes has =
        lanes_end w ready fuel n k call pc c s st d m quotient_at bad kind.Divide q lane_body (instr.Divide o (vector_register d) x y m q)
        (where_true (is_zero (machine.division_of o) t) (on (c.masks m.number) (c.vectors y.number))) (map2 (op_bits (machine.division_of o) t) (on (c.masks m.number) (c.vectors x.number)) (on (c.masks m.number) (c.vectors y.number))) has refl
        (λ p l. one_test (c.masks m.number p) (is_zero (machine.division_of o) t) (c.vectors y.number p) ∙ ap (λ b. c.masks m.number p && b) (zero_is o t (c.vectors y.number p) (fits_y p l)))
        (λ p l sound. chosen_over2 (c.masks m.number p) (op_bits (machine.division_of o) t) (c.vectors x.number p) (c.vectors y.number p) (c.vectors d p))
        (run fuel call (quotients w class.Vector o (vector_register d) x y m q) s)
        (lanes_run w fuel call c.masks m bad 0 q lane_body Full lane_code s (none_filled w ready fuel call c s d m quotient_at st.holds))
