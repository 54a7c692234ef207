-- The constants of sound code have 64 bits, since each is a value of its register's type.
use Rattle.std.proofs.Common.{◌≡◌, ℕ, ◌^◌, ◌<◌, ◌≤◌, ◌-◌, ℤ, pos, negsuc, ◌-ℤ◌, neg_ℤ, int_lt, nat_lt, List, [], ◌∷◌, true, false, not, refl, lt-ltb, arith}
use Rattle.std.specs.List.{list_all}
use Rattle.std.proofs.lemmas.Bool.{and_from, and_parts, le-ltb, ltb-false, not-true, not_from_false}
use Rattle.isp_base.specs.Values.{width, greatest}
use Rattle.isp_base.specs.declared.types.Elem.{Elem}
use Rattle.isp_base.specs.declared.types.Elem.TheVariants.{Bool as Truth, I8, U8, I16, U16, I32, U32, I64, U64}
use Rattle.isp_code.specs.Fine.{has_value}
use Rattle.isp_code.specs.Listing.{Listing, Routine}
use Rattle.isp_code.specs.Registers.{elem_of}
use Rattle.isp_code.specs.Writable.{constant_fits, constant_in, scalar_constant}
use Rattle.isp_code.specs.declared.instr.Instr.{Instr}
use Rattle.isp_code.specs.declared.instr.Instr.TheVariants as instr
use Rattle.isp_code.specs.declared.instr.ScalarInstr.{ScalarInstr}
use Rattle.isp_code.specs.declared.instr.ScalarInstr.TheVariants as scalar
use Rattle.isp_code.specs.declared.register.Register.{Register}
use Rattle.isp_lower_code.specs.Sound.{IsSound, AreSound}

none : false ≡ true → ⊥
none e = absurd (cc)

above : (g n : ℕ) → g < 18446744073709551616 → not (nat_lt g n) ≡ true → nat_lt n 18446744073709551616 ≡ true
above g n small h =
    let le = ltb-false g n (not-true (nat_lt g n) h) in
    lt-ltb n 18446744073709551616 (omega (arith, small, le))

below : (m n : ℕ) → m ≤ 9223372036854775807 → not (nat_lt m n) ≡ true → not (nat_lt 9223372036854775807 n) ≡ true
below m n small h =
    let le = ltb-false m n (not-true (nat_lt m n) h) in
    not_from_false (nat_lt 9223372036854775807 n) (le-ltb 9223372036854775807 n (omega (arith, small, le)))

greatest_small : (t : Elem) → greatest t < 18446744073709551616
greatest_small Truth = omega arith
greatest_small I8 = omega arith
greatest_small U8 = omega arith
greatest_small I16 = omega arith
greatest_small U16 = omega arith
greatest_small I32 = omega arith
greatest_small U32 = omega arith
greatest_small I64 = omega arith
greatest_small U64 = omega arith

least_high : (t : Elem) (n : ℕ) → not (int_lt (negsuc n) (pos (greatest t) -ℤ pos (2 ^ width t - 1))) ≡ true → not (nat_lt 9223372036854775807 n) ≡ true
least_high Truth n h = absurd (none h)
least_high I8 n h = below 127 n (omega arith) h
least_high U8 n h = absurd (none h)
least_high I16 n h = below 32767 n (omega arith) h
least_high U16 n h = absurd (none h)
least_high I32 n h = below 2147483647 n (omega arith) h
least_high U32 n h = absurd (none h)
least_high I64 n h = below 9223372036854775807 n (omega arith) h
least_high U64 n h = absurd (none h)

value_fits : (t : Elem) (z : ℤ) → has_value t z ≡ true → constant_fits z ≡ true
value_fits t (pos n) h =
    let in_type = and_parts (not (nat_lt (greatest t) n)) (not (int_lt (pos n) (pos (greatest t) -ℤ pos (2 ^ width t - 1)))) h in
    and_from (not (int_lt (pos n) (neg_ℤ (pos (2 ^ 63))))) (int_lt (pos n) (pos (2 ^ 64))) refl (above (greatest t) n (greatest_small t) in_type.0)
value_fits t (negsuc n) h =
    let in_type = and_parts (not (int_lt (pos (greatest t)) (negsuc n))) (not (int_lt (negsuc n) (pos (greatest t) -ℤ pos (2 ^ width t - 1)))) h in
    and_from (not (int_lt (negsuc n) (neg_ℤ (pos (2 ^ 63))))) (int_lt (negsuc n) (pos (2 ^ 64))) (least_high t n in_type.1) refl

module _ (code : Listing) (g : Routine) where
  scalar_sound : (d : Register) (i : ScalarInstr) → IsSound code g (instr.Scalar d i) → scalar_constant i ≡ true
  scalar_sound d (scalar.Constant z) s = value_fits (elem_of g d) z s.0.1.0
  scalar_sound d (scalar.Copy x) s = refl
  scalar_sound d (scalar.Convert x) s = refl
  scalar_sound d (scalar.Unary op x) s = refl
  scalar_sound d (scalar.Binary op x y) s = refl
  scalar_sound d (scalar.Compare op x y) s = refl
  scalar_sound d (scalar.Select c x y) s = refl
  scalar_sound d (scalar.First x) s = refl
  scalar_sound d (scalar.Load a i k p) s = refl
  scalar_sound d (scalar.Reduce r x k) s = refl
  scalar_sound d (scalar.Extract x i k) s = refl

  instr_sound : (i : Instr) → IsSound code g i → constant_in i ≡ true
  instr_sound (instr.Scalar d i) s = scalar_sound d i s
  instr_sound (instr.Vector d i) s = refl
  instr_sound (instr.Mask d i) s = refl
  instr_sound (instr.Divide op d x y k p) s = refl
  instr_sound (instr.Store a i y k p) s = refl
  instr_sound (instr.Scatter a i y k p) s = refl
  instr_sound (instr.StoreRun a i y k p) s = refl
  instr_sound (instr.PackedStore d a i y k p) s = refl
  instr_sound (instr.PackedLoad d a i y k p) s = refl
  instr_sound (instr.Clear a k) s = refl
  instr_sound (instr.Jump to) s = refl
  instr_sound (instr.JumpIf t x to) s = refl
  instr_sound (instr.Say t) s = refl
  instr_sound (instr.PrintScalar x) s = refl
  instr_sound (instr.PrintVector x k) s = refl
  instr_sound (instr.Fail x p) s = refl
  instr_sound (instr.Call c) s = refl
  instr_sound (instr.Return x) s = refl

  pub constants_fit : (is : List Instr) → AreSound code g is → list_all constant_in is ≡ true
  constants_fit [] s = refl
  constants_fit (i ∷ is) s = and_from (constant_in i) (list_all constant_in is) (instr_sound i s.0) (constants_fit is s.1)
